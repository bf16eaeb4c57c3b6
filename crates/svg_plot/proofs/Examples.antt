-- Worked examples of the definition, each found by computing.
use Rattle.std.proofs.Common.{◌≡◌, refl, [], ◌∷◌, Ok, Err, pos, negsuc}
use Rattle.std.specs.Prelude.{codes}
use Rattle.std.specs.Str.{chars}
use Rattle.std.specs.Fmt.{digits}
use Rattle.rx_value.specs.declared.value.Value.TheVariants.{Null, Int, Text, Ints}
use Rattle.rx_value.specs.declared.failure.Failure.TheVariants.{WrongKind, PlotSizeOutOfRange}
use Rattle.rx_value.specs.declared.plot.Plot.TheVariants.{Bars, Lines, Points}
use Rattle.rx_value.specs.Plot.{svg_text, opening, xml_escaped, y_of, edge_of, x_of, rect, pair, circle}

pub one_bar : svg_text Bars (Int (pos 120)) (Int (pos 100)) (Text (codes "A&B")) (Int (pos 5)) ≡ Ok (codes "<svg xmlns=\"http://www.w3.org/2000/svg\" width=\"120\" height=\"100\"><text x=\"10\" y=\"20\">A&amp;B</text><rect x=\"10\" y=\"30\" width=\"100\" height=\"60\"/></svg>")
unfolding opening xml_escaped y_of edge_of rect chars digits lib.Utf8.encode
one_bar = refl

pub two_bars : svg_text Bars (Int (pos 120)) (Int (pos 100)) (Text (codes "t")) (Ints (pos 4 ∷ negsuc 1 ∷ [])) ≡ Ok (codes "<svg xmlns=\"http://www.w3.org/2000/svg\" width=\"120\" height=\"100\"><text x=\"10\" y=\"20\">t</text><rect x=\"10\" y=\"30\" width=\"50\" height=\"40\"/><rect x=\"60\" y=\"70\" width=\"50\" height=\"20\"/></svg>")
unfolding opening xml_escaped y_of edge_of rect chars digits lib.Utf8.encode
two_bars = refl

pub no_data : svg_text Bars (Int (pos 64)) (Int (pos 64)) (Text []) Null ≡ Ok (codes "<svg xmlns=\"http://www.w3.org/2000/svg\" width=\"64\" height=\"64\"><text x=\"10\" y=\"20\"></text></svg>")
unfolding opening xml_escaped chars digits
no_data = refl

pub one_line : svg_text Lines (Int (pos 120)) (Int (pos 100)) (Text (codes "t")) (Ints (pos 0 ∷ pos 3 ∷ pos 6 ∷ [])) ≡ Ok (codes "<svg xmlns=\"http://www.w3.org/2000/svg\" width=\"120\" height=\"100\"><text x=\"10\" y=\"20\">t</text><polyline points=\"10,90 60,60 110,30\" fill=\"none\" stroke=\"black\"/></svg>")
unfolding opening xml_escaped y_of x_of pair chars digits lib.Utf8.encode
one_line = refl

-- from the least to the greatest number of 64 bits
pub widest_line : svg_text Lines (Int (pos 120)) (Int (pos 100)) (Text (codes "t")) (Ints (negsuc 9223372036854775807 ∷ pos 0 ∷ pos 9223372036854775807 ∷ [])) ≡ Ok (codes "<svg xmlns=\"http://www.w3.org/2000/svg\" width=\"120\" height=\"100\"><text x=\"10\" y=\"20\">t</text><polyline points=\"10,90 60,60 110,30\" fill=\"none\" stroke=\"black\"/></svg>")
unfolding opening xml_escaped y_of x_of pair chars digits lib.Utf8.encode
widest_line = refl

pub one_point : svg_text Points (Int (pos 120)) (Int (pos 100)) (Text (codes "t")) (Ints (pos 7 ∷ [])) ≡ Ok (codes "<svg xmlns=\"http://www.w3.org/2000/svg\" width=\"120\" height=\"100\"><text x=\"10\" y=\"20\">t</text><circle cx=\"60\" cy=\"30\" r=\"3\"/></svg>")
unfolding opening xml_escaped y_of x_of circle chars digits lib.Utf8.encode
one_point = refl

-- U+0001 and U+FFFF become spaces
pub barred_characters : svg_text Points (Int (pos 64)) (Int (pos 64)) (Text (60 ∷ 1 ∷ 239 ∷ 191 ∷ 191 ∷ 34 ∷ [])) Null ≡ Ok (codes "<svg xmlns=\"http://www.w3.org/2000/svg\" width=\"64\" height=\"64\"><text x=\"10\" y=\"20\">&lt;  &quot;</text></svg>")
unfolding opening xml_escaped chars digits lib.Utf8.encode
barred_characters = refl

pub too_small : svg_text Bars (Int (pos 63)) (Int (pos 64)) (Text []) Null ≡ Err PlotSizeOutOfRange
too_small = refl

pub kind_before_size : svg_text Bars Null (Int (pos 63)) (Text []) Null ≡ Err WrongKind
kind_before_size = refl
