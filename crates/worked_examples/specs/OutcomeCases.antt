-- What outputs come to at the start, and what is counted.
use Rattle.std.specs.Prelude.{◌≡◌, [], ◌∷◌, Some, pos, negsuc, codes, replicate}
use Rattle.rx_value.specs.declared.value.Value.TheVariants.{Int, Text, Ints}
use Rattle.rx_value.specs.declared.outcome.Outcome.TheVariants.{Val, Fail}
use Rattle.shiny_json.specs.declared.message.BadMessage.TheVariants as cause
use Rattle.session_model.specs.declared.event.Event.TheVariants as event
use Rattle.session_model.specs.Alone.{refused}
use Rattle.worked_examples.specs.Files.{lines, file_sizes, file_outcomes, file_bodies, file_ending, item_count}

abbrev pub FreshOutputs : Type 0
FreshOutputs =
    file_outcomes
    (lines (codes "input a = 1;" ∷
    codes "reactive e { input$a + 1 }" ∷
    codes "text p { e() }" ∷
    codes "text q { e() * 10 }" ∷ []))
    ≡ Some ((codes "p", Val (Int (pos 2))) ∷ (codes "q", Val (Int (pos 20))) ∷ [])

abbrev pub GreatNumbers : Type 0
GreatNumbers =
    file_outcomes
    (lines (codes "text a { 9223372036854775807 + 1 }" ∷
    codes "text b { -7 %/% 2 }" ∷
    codes "text d { -7 %% 2 }" ∷
    codes "text e { (-9223372036854775807 - 1) %/% -1 }" ∷
    codes "text f { (-9223372036854775807 - 1) %% -1 }" ∷ []))
    ≡ Some ((codes "a", Fail (codes "number out of range")) ∷
    (codes "b", Val (Int (negsuc 3))) ∷
    (codes "d", Val (Int (pos 1))) ∷
    (codes "e", Fail (codes "number out of range")) ∷
    (codes "f", Val (Int (pos 0))) ∷ [])

abbrev pub DrawnBars : Type 0
DrawnBars =
    file_outcomes
    (lines (codes "text a { bars(64, 64, \"\", c()) }" ∷
    codes "text b { bars(120, 100, \"A&B\", c(5)) }" ∷
    codes "text d { bars(120, 100, \"t\", c(4, -2)) }" ∷ []))
    ≡ Some ((codes "a", Val (Text (codes "<svg xmlns=\"http://www.w3.org/2000/svg\" width=\"64\" height=\"64\"><text x=\"10\" y=\"20\"></text></svg>"))) ∷
    (codes "b", Val (Text (codes "<svg xmlns=\"http://www.w3.org/2000/svg\" width=\"120\" height=\"100\"><text x=\"10\" y=\"20\">A&amp;B</text><rect x=\"10\" y=\"30\" width=\"100\" height=\"60\"/></svg>"))) ∷
    (codes "d", Val (Text (codes "<svg xmlns=\"http://www.w3.org/2000/svg\" width=\"120\" height=\"100\"><text x=\"10\" y=\"20\">t</text><rect x=\"10\" y=\"30\" width=\"50\" height=\"40\"/><rect x=\"60\" y=\"70\" width=\"50\" height=\"20\"/></svg>"))) ∷ [])

abbrev pub DrawnLinesAndPoints : Type 0
DrawnLinesAndPoints =
    file_outcomes
    (lines (codes "text a { lines(120, 100, \"t\", c(0, 3, 6)) }" ∷
    codes "text b { points(120, 100, \"t\", c(7)) }" ∷ []))
    ≡ Some ((codes "a", Val (Text (codes "<svg xmlns=\"http://www.w3.org/2000/svg\" width=\"120\" height=\"100\"><text x=\"10\" y=\"20\">t</text><polyline points=\"10,90 60,60 110,30\" fill=\"none\" stroke=\"black\"/></svg>"))) ∷
    (codes "b", Val (Text (codes "<svg xmlns=\"http://www.w3.org/2000/svg\" width=\"120\" height=\"100\"><text x=\"10\" y=\"20\">t</text><circle cx=\"60\" cy=\"30\" r=\"3\"/></svg>"))) ∷ [])

abbrev pub PlotsThatFail : Type 0
PlotsThatFail =
    file_outcomes
    (lines (codes "text a { bars(63, 64, \"\", c()) }" ∷ codes "text b { bars(NULL, 64, \"\", c()) }" ∷ []))
    ≡ Some ((codes "a", Fail (codes "plot size out of range")) ∷ (codes "b", Fail (codes "wrong kind of value")) ∷ [])

abbrev pub CountedWaits : Type 0
CountedWaits =
    file_outcomes
    (lines (codes "input bins = 3;" ∷
    codes "value waits = c(43, 52, 79, 62, 85, 55, 88, 85, 51, 85);" ∷
    codes "reactive lo { min(waits()) }" ∷
    codes "reactive wide { (max(waits()) - lo()) %/% input$bins + 1 }" ∷
    codes "reactive counts { fold(seq(0, input$bins - 1), c(), acc, b, c(acc, fold(waits(), 0, n, x, if ((x - lo()) %/% wide() == b) n + 1 else n))) }" ∷
    codes "text a { lo() }" ∷
    codes "text b { wide() }" ∷
    codes "text d { counts() }" ∷ []))
    ≡ Some ((codes "a", Val (Int (pos 43))) ∷
    (codes "b", Val (Int (pos 16))) ∷ (
      codes "d",
      Val (Ints (pos 4 ∷
          pos 1 ∷
          pos 5 ∷
          [])),
    ) ∷ [])

abbrev pub BodiesOfAnExpression : Type 0
BodiesOfAnExpression =
    file_bodies
    (lines (codes "input a = 1;" ∷
    codes "reactive e { input$a + 1 }" ∷
    codes "text p { e() }" ∷
    codes "text q { e() * 10 }" ∷ []))
    (event.Text (codes "{\"method\":\"init\",\"data\":{\".clientdata_output_p_hidden\":false,\".clientdata_output_q_hidden\":false}}") ∷
    event.Text (codes "{\"method\":\"update\",\"data\":{\"a\":2}}") ∷ [])
    ≡ Some 6

abbrev pub CountedItems : Type 0
CountedItems =
    item_count
    (lines (codes "input a = 1;" ∷
    codes "reactive e { input$a + 1 }" ∷
    codes "text p { e() }" ∷
    codes "text q { e() * 10 }" ∷ []))
    ≡ Some 4

abbrev pub MessageThatIsTooLong : Type 0
MessageThatIsTooLong =
    file_ending
    (lines (codes "input n = 1;" ∷ codes "text o { input$n }" ∷ []))
    (event.Text (replicate 65537 32) ∷ [])
    ≡ Some (Some (refused 1 cause.TooLong))

abbrev pub ItemThatIsNoText : Type 0
ItemThatIsNoText =
    file_ending
    (lines (codes "input n = 1;" ∷ codes "text o { input$n }" ∷ []))
    (event.Other ∷ [])
    ≡ Some (Some (refused 1 cause.Other))

abbrev pub GeneratedReplay : Type 0
GeneratedReplay =
    file_sizes
    (lines (codes "input i0 = 0;" ∷
    codes "value v = 0;" ∷
    codes "reactive e0 { input$i0 + v() }" ∷
    codes "text o0 { e0() }" ∷
    codes "observe w { set v = input$i0 %% 7; }" ∷ []))
    (lines (codes "g recv {\"method\":\"init\",\"data\":{\".clientdata_output_o0_hidden\":false}}" ∷
    codes "g recv {\"method\":\"update\",\"data\":{\"i0\":31}}" ∷
    codes "g recv {\"method\":\"update\",\"data\":{\"i0\":62}}" ∷
    codes "g recv {\"method\":\"update\",\"data\":{\"i0\":93}}" ∷
    codes "g recv {\"method\":\"update\",\"data\":{\"i0\":124}}" ∷
    codes "g recv {\"method\":\"update\",\"data\":{\"i0\":155}}" ∷
    codes "g recv {\"method\":\"update\",\"data\":{\"i0\":186}}" ∷
    codes "g recv {\"method\":\"update\",\"data\":{\"i0\":217}}" ∷
    codes "g recv {\"method\":\"update\",\"data\":{\"i0\":248}}" ∷
    codes "g recv {\"method\":\"update\",\"data\":{\"i0\":279}}" ∷
    codes "g recv {\"method\":\"update\",\"data\":{\"i0\":310}}" ∷ []))
    ≡ Some (record { line_count = 98; byte_count = 5206 })
