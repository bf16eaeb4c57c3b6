-- No values text has a fraction.
use Rattle.std.proofs.Common.{◌≡◌, ℕ, ℤ, pos, negsuc, List, [], ◌∷◌, Bool, true, false, Ordering, Less, Equal, Greater, nat_cmp, bytes_eq, cond, refl, true≢false}
use Rattle.std.specs.Prelude.{⊤, ◌||◌}
use Rattle.std.specs.Cmp.Lexicographic.{slice_cmp}
use Rattle.std.specs.Ordering.{match_ordering}
use Rattle.serde_json.specs.Data.{Data, Members, no_members, member, put}
use Rattle.serde_json.specs.Find.{is_float, of_integer}
use Rattle.serde_json.specs.Written.{has_float, items_have_float, members_have_float}
use Rattle.rx_value.specs.declared.value.Value.{Value}
use Rattle.rx_value.specs.declared.value.Value.TheVariants as v
use Rattle.rx_value.specs.declared.outcome.Outcome.{Outcome}
use Rattle.rx_value.specs.declared.outcome.Outcome.TheVariants.{Val, Fail, Stop, Cancel, Running}
use Rattle.shiny_json.specs.declared.message.Pair.{Pair}
use Rattle.shiny_json.specs.declared.batch.BatchOutput.{BatchOutput}
use Rattle.shiny_json.specs.Values.{Entry, shown, failed, unsaid, Parts, no_parts, without_member, with_entry, with_outputs, outcome_entry, numbers_items, value_data, input_message_data, input_messages_items, values_data}

either : (a b : Bool) → a ≡ false → b ≡ false → (a || b) ≡ false
either true b e f = absurd (true≢false e)
either false b e f = f

first_of : (a b : Bool) → (a || b) ≡ false → a ≡ false
first_of true b e = absurd (true≢false e)
first_of false b e = refl

second_of : (a b : Bool) → (a || b) ≡ false → b ≡ false
second_of true b e = absurd (true≢false e)
second_of false b e = e

-- ---- members

members_have_float-match_ordering : (o : Ordering) (a b c : Members) → members_have_float a ≡ false → members_have_float b ≡ false → members_have_float c ≡ false → members_have_float (match_ordering o a b c) ≡ false
members_have_float-match_ordering Less a b c e f g = e
members_have_float-match_ordering Equal a b c e f g = f
members_have_float-match_ordering Greater a b c e f g = g

members_have_float-cond : (b : Bool) (x y : Members) → members_have_float x ≡ false → members_have_float y ≡ false → members_have_float (cond b x y) ≡ false
members_have_float-cond true x y e f = e
members_have_float-cond false x y e f = f

members_have_float-put : (k : List ℕ) (d : Data) (ms : Members) → has_float d ≡ false → members_have_float ms ≡ false → members_have_float (put k d ms) ≡ false
members_have_float-put k d no_members e f = either (has_float d) false e refl
members_have_float-put k d (member l x ms) e f =
    let here = first_of (has_float x) (members_have_float ms) f in
    let later = second_of (has_float x) (members_have_float ms) f in
    members_have_float-match_ordering (slice_cmp nat_cmp k l) (member k d (member l x ms)) (member l d ms) (member l x (put k d ms))
    (either (has_float d) (members_have_float (member l x ms)) e f)
    (either (has_float d) (members_have_float ms) e later)
    (either (has_float x) (members_have_float (put k d ms)) here (members_have_float-put k d ms e later))

members_have_float-without_member : (k : List ℕ) (ms : Members) → members_have_float ms ≡ false → members_have_float (without_member k ms) ≡ false
members_have_float-without_member k no_members f = refl
members_have_float-without_member k (member l x ms) f =
    let here = first_of (has_float x) (members_have_float ms) f in
    let later = second_of (has_float x) (members_have_float ms) f in
    members_have_float-cond (bytes_eq k l) ms (member l x (without_member k ms)) later
    (either (has_float x) (members_have_float (without_member k ms)) here (members_have_float-without_member k ms later))

-- ---- outputs

abbrev IsWholeEntry : Entry → Type 0
IsWholeEntry (shown d) = has_float d ≡ false
IsWholeEntry (failed d) = has_float d ≡ false
IsWholeEntry unsaid = ⊤

record AreWhole (parts : Parts) : Type 0 where
  errors : members_have_float parts.errors ≡ false
  values : members_have_float parts.values ≡ false

outcome_entry-whole : (plot : Bool) (o : Outcome) → IsWholeEntry (outcome_entry plot o)
outcome_entry-whole true (Val v.Null) = refl
outcome_entry-whole true (Val (v.Bool b)) = refl
outcome_entry-whole true (Val (v.Int z)) = refl
outcome_entry-whole true (Val (v.Text t)) = refl
outcome_entry-whole true (Val (v.Ints zs)) = refl
outcome_entry-whole false (Val x) = refl
outcome_entry-whole plot (Fail t) = refl
outcome_entry-whole plot Stop = refl
outcome_entry-whole plot Cancel = tt
outcome_entry-whole plot Running = tt

with_entry-whole : (name : List ℕ) (e : Entry) (parts : Parts) → IsWholeEntry e → AreWhole parts → AreWhole (with_entry name e parts)
with_entry-whole name (shown d) parts e f = record { errors = members_have_float-without_member name parts.errors f.errors; values = members_have_float-put name d parts.values e f.values }
with_entry-whole name (failed d) parts e f = record { errors = members_have_float-put name d parts.errors e f.errors; values = members_have_float-without_member name parts.values f.values }
with_entry-whole name unsaid parts e f = f

with_outputs-whole : (os : List BatchOutput) (parts : Parts) → AreWhole parts → AreWhole (with_outputs os parts)
with_outputs-whole [] parts f = f
with_outputs-whole (o ∷ more) parts f =
    with_outputs-whole more (with_entry o.name (outcome_entry o.plot o.outcome) parts)
    (with_entry-whole o.name (outcome_entry o.plot o.outcome) parts (outcome_entry-whole o.plot o.outcome) f)

-- ---- input messages

is_float-of_integer : (z : ℤ) → is_float (of_integer z) ≡ false
is_float-of_integer (pos n) = refl
is_float-of_integer (negsuc n) = refl

items_have_float-numbers_items : (zs : List ℤ) → items_have_float (numbers_items zs) ≡ false
items_have_float-numbers_items [] = refl
items_have_float-numbers_items (z ∷ zs) = either (is_float (of_integer z)) (items_have_float (numbers_items zs)) (is_float-of_integer z) (items_have_float-numbers_items zs)

has_float-value_data : (x : Value) → has_float (value_data x) ≡ false
has_float-value_data v.Null = refl
has_float-value_data (v.Bool b) = refl
has_float-value_data (v.Int z) = is_float-of_integer z
has_float-value_data (v.Text t) = refl
has_float-value_data (v.Ints zs) = items_have_float-numbers_items zs

has_float-input_message_data : (p : Pair) → has_float (input_message_data p) ≡ false
has_float-input_message_data p = rw has_float-value_data refl

items_have_float-input_messages_items : (ps : List Pair) → items_have_float (input_messages_items ps) ≡ false
items_have_float-input_messages_items [] = refl
items_have_float-input_messages_items (p ∷ ps) = either (has_float (input_message_data p)) (items_have_float (input_messages_items ps)) (has_float-input_message_data p) (items_have_float-input_messages_items ps)

-- ---- the text

pub has_float-values_data : (os : List BatchOutput) (ps : List Pair) → has_float (values_data (with_outputs os no_parts) ps) ≡ false
has_float-values_data os ps =
    let parts = with_outputs os no_parts in
    let whole = with_outputs-whole os no_parts (record { errors = refl; values = refl }) in
    either (members_have_float parts.errors) (items_have_float (input_messages_items ps) || (members_have_float parts.values || false)) whole.errors
    (either (items_have_float (input_messages_items ps)) (members_have_float parts.values || false) (items_have_float-input_messages_items ps)
    (either (members_have_float parts.values) false whole.values refl))
