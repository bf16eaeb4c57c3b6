-- The SVG text of a plot, or the failure. The elements are `svg`, `text`, `rect`, `polyline` and `circle` of SVG 1.1.
use Rattle.std.specs.Prelude.{ℕ, ◌+◌, ◌-◌, ◌*◌, ◌/◌, ℤ, pos, negsuc, ◌-ℤ◌, unsigned_abs, Bool, ◌&&◌, ◌||◌, ◌==◌, nat_le, min, List, [], ◌∷◌, ◌++◌, length, codes, Option, Some, None, Result, Ok, Err, if◌then◌else◌}
use Rattle.std.specs.Prelude.{encode_utf8}
use Rattle.std.specs.Int.{int_min, int_max, abs_diff}
use Rattle.std.specs.Ordering.{int_eq}
use Rattle.std.specs.List.{flat_map}
use Rattle.std.specs.Str.{byte, chars}
use Rattle.std.specs.Fmt.{decimal}
use Rattle.rx_value.specs.declared.value.Value.{Value}
use Rattle.rx_value.specs.declared.value.Value.TheVariants as v
use Rattle.rx_value.specs.declared.outcome.Outcome.{Outcome}
use Rattle.rx_value.specs.declared.outcome.Outcome.TheVariants.{Val}
use Rattle.rx_value.specs.declared.failure.Failure.{Failure}
use Rattle.rx_value.specs.declared.failure.Failure.TheVariants.{WrongKind, TextTooLong, PlotSizeOutOfRange}
use Rattle.rx_value.specs.declared.plot.Plot.{Plot}
use Rattle.rx_value.specs.declared.plot.Plot.TheVariants.{Bars, Lines, Points}
use Rattle.rx_value.specs.declared.limits.TheConstants.{TEXT_LIMIT, PLOT_SIDE_MIN, PLOT_SIDE_MAX}
use Rattle.rx_value.specs.Failure.{failure_outcome}
use Rattle.rx_value.specs.Numbers.{number_list}

-- the least of 0 and the numbers
abbrev pub least : List ℤ → ℤ
least [] = pos 0
least (z ∷ zs) = int_min z (least zs)

-- the greatest of 0 and the numbers
abbrev pub greatest : List ℤ → ℤ
greatest [] = pos 0
greatest (z ∷ zs) = int_max z (greatest zs)

-- the upper end of the scale: the greatest, or 1 where the scale would be 0 alone
abbrev pub upper_end : ℤ → ℤ → ℤ
upper_end low high = if int_eq low (pos 0) && int_eq high (pos 0) then pos 1 else high

-- what the marks are placed by: the picture's sides in pixels, the count of data, and the ends of the scale
pub record Frame : Type 0 where
  pub width : ℕ
  pub height : ℕ
  pub count : ℕ
  pub low : ℤ
  pub high : ℤ

abbrev pub frame_of : ℕ → ℕ → List ℤ → Frame
frame_of width height zs =
    record {
      width = width;
      height = height;
      count = length zs;
      low = least zs;
      high = upper_end (least zs) (greatest zs);
    }

-- Pixels are counted from the left and from the top. 10 stay free at the left, at the right and at the bottom, and 30
-- at the top, where the title stands. A quotient is rounded down.

-- the height of a number
unfoldable pub y_of : Frame → ℤ → ℕ
y_of f z = f.height - 10 - unsigned_abs (z -ℤ f.low) * (f.height - 40) / unsigned_abs (f.high -ℤ f.low)

-- the left edge of the bar at place i, which is the right edge of the bar before it
unfoldable pub edge_of : Frame → ℕ → ℕ
edge_of f i = 10 + i * (f.width - 20) / f.count

-- the middle of the mark at place i, from edge to edge; of a single mark, halfway
unfoldable pub x_of : Frame → ℕ → ℕ
x_of f i = if f.count == 1 then 10 + (f.width - 20) / 2 else 10 + i * (f.width - 20) / (f.count - 1)

unfoldable pub rect : ℕ → ℕ → ℕ → ℕ → List ℕ
rect x y width height =
    codes "<rect x=\"" ++ decimal x ++ codes "\" y=\"" ++ decimal y ++ codes "\" width=\"" ++ decimal width
    ++ codes "\" height=\"" ++ decimal height ++ codes "\"/>"

-- a bar stands between its number and 0
abbrev pub bar : Frame → ℕ → ℤ → List ℕ
bar f i z =
    rect (edge_of f i) (min (y_of f z) (y_of f (pos 0)))
    (edge_of f (i + 1) - edge_of f i) (abs_diff (y_of f z) (y_of f (pos 0)))

-- the bars of the numbers from place i on
abbrev pub bars_from : Frame → ℕ → List ℤ → List ℕ
bars_from f i [] = []
bars_from f i (z ∷ zs) = bar f i z ++ bars_from f (i + 1) zs

unfoldable pub pair : ℕ → ℕ → List ℕ
pair x y = decimal x ++ codes "," ++ decimal y

abbrev pub point : Frame → ℕ → ℤ → List ℕ
point f i z = pair (x_of f i) (y_of f z)

-- each pair with a space before it
abbrev pub spaced_from : Frame → ℕ → List ℤ → List ℕ
spaced_from f i [] = []
spaced_from f i (z ∷ zs) = codes " " ++ point f i z ++ spaced_from f (i + 1) zs

-- one line through all points; no line where there is none
abbrev pub polyline : Frame → List ℤ → List ℕ
polyline f [] = []
polyline f (z ∷ zs) =
    codes "<polyline points=\"" ++ point f 0 z ++ spaced_from f 1 zs ++ codes "\" fill=\"none\" stroke=\"black\"/>"

unfoldable pub circle : ℕ → ℕ → List ℕ
circle x y = codes "<circle cx=\"" ++ decimal x ++ codes "\" cy=\"" ++ decimal y ++ codes "\" r=\"3\"/>"

-- the circles of the numbers from place i on
abbrev pub circles_from : Frame → ℕ → List ℤ → List ℕ
circles_from f i [] = []
circles_from f i (z ∷ zs) = circle (x_of f i) (y_of f z) ++ circles_from f (i + 1) zs

abbrev pub marks : Plot → Frame → List ℤ → List ℕ
marks Bars f zs = bars_from f 0 zs
marks Lines f zs = polyline f zs
marks Points f zs = circles_from f 0 zs

-- a character that XML 1.0 has no place for
abbrev pub is_barred : ℕ → Bool
is_barred c = nat_le c 0x8 || c == 0xB || c == 0xC || (nat_le 0xE c && nat_le c 0x1F) || c == 0xFFFE || c == 0xFFFF

-- a character of the title as XML text: one that would be markup by its name, a barred one as a space
unfoldable pub xml_escaped : ℕ → List ℕ
xml_escaped c =
    if c == byte "&" then codes "&amp;" else (
    if c == byte "<" then codes "&lt;" else (
    if c == byte ">" then codes "&gt;" else (
    if c == byte "\"" then codes "&quot;" else (
    if is_barred c then codes " " else encode_utf8 c))))

unfoldable pub opening : ℕ → ℕ → List ℕ
opening width height =
    codes "<svg xmlns=\"http://www.w3.org/2000/svg\" width=\"" ++ decimal width
    ++ codes "\" height=\"" ++ decimal height ++ codes "\">"

-- the title, above the marks
abbrev pub heading : List ℕ → List ℕ
heading title = codes "<text x=\"10\" y=\"20\">" ++ flat_map xml_escaped (chars title) ++ codes "</text>"

-- the whole text, however long
abbrev pub plot_text : Plot → ℕ → ℕ → List ℕ → List ℤ → List ℕ
plot_text plot width height title zs =
    opening width height ++ heading title ++ marks plot (frame_of width height zs) zs ++ codes "</svg>"

-- the text, which may have at most 65,536 bytes
abbrev pub limited_text : List ℕ → Result (List ℕ) Failure
limited_text text = if nat_le (length text) TEXT_LIMIT then Ok text else Err TextTooLong

-- a side has from 64 to 4,096 pixels
abbrev pub side_of : ℤ → Option ℕ
side_of (pos n) = if nat_le PLOT_SIDE_MIN n && nat_le n PLOT_SIDE_MAX then Some n else None
side_of (negsuc n) = None

-- a text of these sides, where both are right
abbrev pub text_of_sides : Plot → Option ℕ → Option ℕ → List ℕ → List ℤ → Result (List ℕ) Failure
text_of_sides plot (Some width) (Some height) title zs = limited_text (plot_text plot width height title zs)
text_of_sides plot (Some width) None title zs = Err PlotSizeOutOfRange
text_of_sides plot None height title zs = Err PlotSizeOutOfRange

-- a text of these numbers, where there are any
abbrev pub text_of_numbers : Plot → ℤ → ℤ → List ℕ → Option (List ℤ) → Result (List ℕ) Failure
text_of_numbers plot width height title None = Err WrongKind
text_of_numbers plot width height title (Some zs) = text_of_sides plot (side_of width) (side_of height) title zs

-- the text of a plot, by its width, height, title and data; a wrong kind comes before a wrong size, and that before the
-- text's length
abbrev pub svg_text : Plot → Value → Value → Value → Value → Result (List ℕ) Failure
svg_text plot (v.Int width) (v.Int height) (v.Text title) list =
    text_of_numbers plot width height title (number_list list)
svg_text plot _ _ _ _ = Err WrongKind

abbrev pub plot_outcome : Result (List ℕ) Failure → Outcome
plot_outcome (Ok text) = Val (v.Text text)
plot_outcome (Err failure) = failure_outcome failure

-- what a plot evaluates to
abbrev pub plot_result : Plot → Value → Value → Value → Value → Outcome
plot_result plot width height title list = plot_outcome (svg_text plot width height title list)
