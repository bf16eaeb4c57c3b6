-- The values text of a flush: for each output that ran its value or its error, and the input messages.
use Rattle.std.specs.Prelude.{ℕ, ℤ, Bool, true, false, List, [], ◌∷◌, ◌++◌, codes, bytes_eq, if◌then◌else◌}
use Rattle.base64.specs.GeneralPurpose.{encode_of}
use Rattle.base64.specs.Engines.{standard}
use Rattle.serde_json.specs.Data.{Data, null, boolean, number, string, array, object, Items, no_items, item, Members, no_members, member, put}
use Rattle.serde_json.specs.Find.{of_integer}
use Rattle.serde_json.specs.Written.{compact_text}
use Rattle.rx_value.specs.declared.value.Value.{Value}
use Rattle.rx_value.specs.declared.value.Value.TheVariants as v
use Rattle.rx_value.specs.declared.outcome.Outcome.{Outcome}
use Rattle.rx_value.specs.declared.outcome.Outcome.TheVariants.{Val, Fail, Stop, Cancel, Running}
use Rattle.rx_value.specs.Show.{show}
use Rattle.shiny_json.specs.declared.message.Pair.{Pair}
use Rattle.shiny_json.specs.declared.batch.BatchOutput.{BatchOutput}
use Rattle.shiny_json.specs.declared.batch.Batch.{Batch}
use Rattle.shiny_json.specs.Server.{one_member}

-- what the text has of an output
pub data Entry : Type 0 where
  shown : Data → Entry
  failed : Data → Entry
  unsaid : Entry

-- a failure with its text
abbrev pub failure_data : List ℕ → Data
failure_data text = one_member (codes "message") (string text)

-- a silent stop
abbrev pub silent_data : Data
silent_data =
    object (member (codes "message") (string [])
    (member (codes "type") (array (item (string (codes "shiny.silent.error")) no_items)) no_members))

-- an SVG text as a data URI (RFC 2397), in the standard base64 with padding (RFC 4648)
abbrev pub image_data : List ℕ → Data
image_data svg = one_member (codes "src") (string (codes "data:image/svg+xml;base64," ++ encode_of standard svg))

-- a plot shows a text as an image and NULL as nothing; another kind is a failure
abbrev pub plot_entry : Value → Entry
plot_entry v.Null = shown null
plot_entry (v.Text svg) = shown (image_data svg)
plot_entry _ = failed (failure_data (codes "wrong kind of value"))

abbrev pub value_entry : Bool → Value → Entry
value_entry true x = plot_entry x
value_entry false x = shown (string (show x))

-- a cancelled run and one that waits for a task leave what the client shows
abbrev pub outcome_entry : Bool → Outcome → Entry
outcome_entry plot (Val x) = value_entry plot x
outcome_entry plot (Fail text) = failed (failure_data text)
outcome_entry plot Stop = failed silent_data
outcome_entry plot Cancel = unsaid
outcome_entry plot Running = unsaid

-- the errors and the values
pub record Parts : Type 0 where
  pub errors : Members
  pub values : Members

abbrev pub no_parts : Parts
no_parts = record { errors = no_members; values = no_members }

-- the members but for the one of this key
abbrev pub without_member : List ℕ → Members → Members
without_member key no_members = no_members
without_member key (member other d more) =
    if bytes_eq key other then more else member other d (without_member key more)

-- a later outcome of an output takes the place of an earlier one
abbrev pub with_entry : List ℕ → Entry → Parts → Parts
with_entry name (shown d) parts =
    record { errors = without_member name parts.errors; values = put name d parts.values }
with_entry name (failed d) parts =
    record { errors = put name d parts.errors; values = without_member name parts.values }
with_entry name unsaid parts = parts

abbrev pub with_outputs : List BatchOutput → Parts → Parts
with_outputs [] parts = parts
with_outputs (o ∷ more) parts = with_outputs more (with_entry o.name (outcome_entry o.plot o.outcome) parts)

-- ---- input messages

abbrev pub numbers_items : List ℤ → Items
numbers_items [] = no_items
numbers_items (z ∷ zs) = item (number (of_integer z)) (numbers_items zs)

-- a value as JSON
abbrev pub value_data : Value → Data
value_data v.Null = null
value_data (v.Bool b) = boolean b
value_data (v.Int z) = number (of_integer z)
value_data (v.Text t) = string t
value_data (v.Ints zs) = array (numbers_items zs)

abbrev pub input_message_data : Pair → Data
input_message_data p =
    object (member (codes "id") (string p.name)
    (member (codes "message") (one_member (codes "value") (value_data p.value)) no_members))

abbrev pub input_messages_items : List Pair → Items
input_messages_items [] = no_items
input_messages_items (p ∷ more) = item (input_message_data p) (input_messages_items more)

-- ---- the text

abbrev pub values_data : Parts → List Pair → Data
values_data parts messages =
    object (member (codes "errors") (object parts.errors)
    (member (codes "inputMessages") (array (input_messages_items messages))
    (member (codes "values") (object parts.values) no_members)))

abbrev pub values_text : Batch → List ℕ
values_text batch = compact_text (values_data (with_outputs batch.outputs no_parts) batch.messages)
