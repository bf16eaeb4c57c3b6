-- What the bytes of a line say, by their count and whether they are UTF-8, and what a line says with the task looked up.
use Rattle.std.proofs.Common.{◌≡◌, ℕ, ◌<◌, ◌≤◌, Bool, true, false, ◌&&◌, List, length, Option, Some, None, refl, ap, ◌∙◌, arith}
use Rattle.std.specs.Prelude.{nat_le, codes, bytes_eq, option_and_then, if◌then◌else◌}
use Rattle.std.proofs.lemmas.Bool.{leb-true}
use Rattle.std.proofs.lemmas.Bool.Decides.{nat_tests}
use Rattle.app_tree.specs.Tree.{Node}
use Rattle.std.specs.List.{before_first, after_first}
use Rattle.session_model.specs.Transcript.{Line as NumberedLine, recv, closes, ends_of, task_named, line_behind, parts_of, line_of}
use Rattle.session_model.specs.Lines.{is_space, is_label, has_space}
use Rattle.shiny_main.specs.declared.line.Line.{Line}
use Rattle.shiny_main.specs.declared.line.Line.TheVariants as line
use Rattle.shiny_main.specs.inner.Spoken.{spoken_line, spoken_in, spoken_behind, numbered_line, LineIsSpoken}
use Rattle.std.specs.Str.{is_utf8, IsUtf8}
use Rattle.std.proofs.lemmas.Str.{IsUtf8-from_is_utf8}
use Rattle.session_model.specs.declared.limits.TheConstants.{LINE_LIMIT}

not_true : (b : Bool) → (b ≡ true → ⊥) → b ≡ false
not_true true h = absurd (h refl)
not_true false h = refl

pub is_not_utf8 : (bytes : List ℕ) → (IsUtf8 bytes → ⊥) → is_utf8 bytes ≡ false
is_not_utf8 bytes h = not_true (is_utf8 bytes) (λ e. h (IsUtf8-from_is_utf8 bytes e))

fits : (n limit : ℕ) → n ≤ limit → nat_le n limit ≡ true
fits n limit h = grind (arith, nat_tests)

-- what a line that isn't too long says, by whether it is UTF-8
pub spoken-by : (bytes : List ℕ) (utf8 : Bool) → length bytes ≤ LINE_LIMIT → is_utf8 bytes ≡ utf8 → spoken_line bytes ≡ (if utf8 then spoken_in bytes else None)
spoken-by bytes utf8 short e =
    ap (λ t. if t && is_utf8 bytes then spoken_in bytes else None) (fits (length bytes) LINE_LIMIT short) ∙ ap (λ t. if t then spoken_in bytes else None) e

over : (n limit : ℕ) → limit < n → nat_le n limit ≡ false
over n limit h = grind (arith, nat_tests)

-- and one that is says nothing
pub spoken-over : (bytes : List ℕ) → LINE_LIMIT < length bytes → spoken_line bytes ≡ None
spoken-over bytes long = ap (λ t. if t && is_utf8 bytes then spoken_in bytes else None) (over (length bytes) LINE_LIMIT long)

pub spoken-short : (bytes : List ℕ) (said : Line) → spoken_line bytes ≡ Some said → length bytes ≤ LINE_LIMIT
spoken-short bytes said e = by (nat_le (length bytes) LINE_LIMIT) refl e
  where
    by : (fit : Bool) → nat_le (length bytes) LINE_LIMIT ≡ fit → (if fit && is_utf8 bytes then spoken_in bytes else None) ≡ Some said → length bytes ≤ LINE_LIMIT
    by true h p = leb-true (length bytes) LINE_LIMIT h
    by false h p = absurd cc

-- ---- with the task looked up

behind_by : (items : List Node) (label text : List ℕ) (space recvs ends_ closes_ : Bool)
    → (if space then (if recvs then Some (recv label text) else (if ends_ then ends_of label (task_named text items) else None)) else (if closes_ then Some (closes label) else None))
    ≡ option_and_then (numbered_line items)
    (if space then (if recvs then Some (line.Recv label text) else (if ends_ then Some (line.End label text) else None)) else (if closes_ then Some (line.Close label) else None))
behind_by items label text true true ends_ closes_ = refl
behind_by items label text true false true closes_ = refl
behind_by items label text true false false closes_ = refl
behind_by items label text false recvs ends_ true = refl
behind_by items label text false recvs ends_ false = refl

behind_is : (items : List Node) (label rest : List ℕ) → line_behind items label rest ≡ option_and_then (numbered_line items) (spoken_behind label rest)
behind_is items label rest =
    let word = before_first is_space rest in
    behind_by items label (after_first is_space rest) (has_space rest) (bytes_eq word (codes "recv")) (bytes_eq word (codes "end")) (bytes_eq rest (codes "close"))

given_if : (items : List Node) (b : Bool) (o : Option NumberedLine) (said : Option Line) → o ≡ option_and_then (numbered_line items) said
    → (if b then o else None) ≡ option_and_then (numbered_line items) (if b then said else None)
given_if items true o said h = h
given_if items false o said h = refl

pub line_is_spoken : LineIsSpoken
line_is_spoken items bytes =
    let label = before_first is_space bytes in let rest = after_first is_space bytes in
    let in_ : parts_of items bytes ≡ option_and_then (numbered_line items) (spoken_in bytes) =
    given_if items (has_space bytes && is_label label) (line_behind items label rest) (spoken_behind label rest) (behind_is items label rest) in
    given_if items (nat_le (length bytes) LINE_LIMIT && is_utf8 bytes) (parts_of items bytes) (spoken_in bytes) in_

pub line_by-spoken : (items : List Node) (bytes : List ℕ) (said : Option Line) → spoken_line bytes ≡ said → line_of items bytes ≡ option_and_then (numbered_line items) said
line_by-spoken items bytes said e = line_is_spoken items bytes ∙ ap (option_and_then (numbered_line items)) e
