-- How a client message is read: the causes of refusal in their order, and what the message sets.
use Rattle.std.specs.Prelude.{ℕ, ◌==◌, ℤ, pos, Bool, true, false, List, [], ◌∷◌, length, nat_lt, nat_le, ◌&&◌, Option, Some, None, option_and_then, codes, bytes_eq, if◌then◌else◌}
use Rattle.std.specs.List.{before_first, after_first}
use Rattle.std.specs.Ordering.{int_eq}
use Rattle.serde_json.specs.Data.{Data, null, boolean, number, string, array, object, Items, no_items, item, Members, no_members, member}
use Rattle.serde_json.specs.Find.{get_member, as_str, as_object, as_i64}
use Rattle.serde_json.specs.Read.{read}
use Rattle.rx_value.specs.declared.value.Value.{Value}
use Rattle.rx_value.specs.declared.value.Value.TheVariants as v
use Rattle.rx_value.specs.declared.limits.TheConstants.{LIST_LIMIT}
use Rattle.shiny_json.specs.declared.limits.TheConstants.{MESSAGE_LIMIT}
use Rattle.shiny_json.specs.declared.message.Pair.{Pair}
use Rattle.shiny_json.specs.declared.message.Client.{Client}
use Rattle.shiny_json.specs.declared.message.Client.TheVariants.{Init, Update, Refused}
use Rattle.shiny_json.specs.declared.message.BadMessage.TheVariants as bad

-- ---- values

-- a number that is written without fraction and exponent and fits 64 bits; any other number is NULL
abbrev pub number_value : Option ℤ → Value
number_value (Some z) = v.Int z
number_value None = v.Null

-- the numbers of an array in which each item is such a number
abbrev pub whole_number : Data → Option ℤ
whole_number (number n) = as_i64 n
whole_number _ = None

abbrev pub with_number : Option ℤ → Option (List ℤ) → Option (List ℤ)
with_number (Some z) (Some zs) = Some (z ∷ zs)
with_number _ _ = None

abbrev pub whole_numbers : Items → Option (List ℤ)
whole_numbers no_items = Some []
whole_numbers (item d ds) = with_number (whole_number d) (whole_numbers ds)

-- a list has 1 to 1,000 numbers
abbrev pub list_value : Option (List ℤ) → Value
list_value None = v.Null
list_value (Some zs) = if nat_lt 0 (length zs) && nat_le (length zs) LIST_LIMIT then v.Ints zs else v.Null

abbrev pub json_value : Data → Value
json_value null = v.Null
json_value (boolean b) = v.Bool b
json_value (number n) = number_value (as_i64 n)
json_value (string t) = v.Text t
json_value (array ds) = list_value (whole_numbers ds)
json_value (object ms) = v.Null

-- an action button's 0 is NULL, which says that it was never pressed
abbrev pub action_value : Value → Value
action_value (v.Int z) = if int_eq z (pos 0) then v.Null else v.Int z
action_value x = x

-- the value of a name whose type is this
abbrev pub typed_value : List ℕ → Value → Value
typed_value type x = if bytes_eq type (codes "shiny.action") then action_value x else x

abbrev pub is_colon : ℕ → Bool
is_colon b = b == 58

-- the name ends before the first colon, and what follows the colon is the type
abbrev pub pair_of : List ℕ → Data → Pair
pair_of key d =
    record { name = before_first is_colon key; value = typed_value (after_first is_colon key) (json_value d) }

-- in the byte order of the keys, which is that of the members
abbrev pub pairs_of : Members → List Pair
pairs_of no_members = []
pairs_of (member key d more) = pair_of key d ∷ pairs_of more

-- ---- the message

abbrev pub message_with_data : Bool → Option Members → Client
message_with_data init None = Refused bad.NoData
message_with_data true (Some ms) = Init (pairs_of ms)
message_with_data false (Some ms) = Update (pairs_of ms)

abbrev pub message_with_method : Option (List ℕ) → Option Members → Client
message_with_method None ms = Refused bad.NoMethod
message_with_method (Some method) ms =
    if bytes_eq method (codes "init") then message_with_data true ms else (
    if bytes_eq method (codes "update") then message_with_data false ms else Refused bad.BadMethod)

-- the causes are tested in this order: JSON, an object, its method, its data
abbrev pub object_message : Members → Client
object_message ms =
    message_with_method (option_and_then as_str (get_member (codes "method") ms))
    (option_and_then as_object (get_member (codes "data") ms))

abbrev pub json_message : Option Data → Client
json_message (Some (object ms)) = object_message ms
json_message (Some _) = Refused bad.NotObject
json_message None = Refused bad.NotJson

-- a client message that is read by itself; whether it may come at this point is the session's matter
abbrev pub client_message : List ℕ → Client
client_message text = if nat_le (length text) MESSAGE_LIMIT then json_message (read text) else Refused bad.TooLong
