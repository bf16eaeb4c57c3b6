-- What an accepted client message sets, name by name.
use Rattle.std.specs.Prelude.{ℕ, ◌-◌, Bool, true, false, List, [], ◌∷◌, length, take, drop, Option, Some, None, option_map, option_and_then, codes, bytes_eq, if◌then◌else◌}
use Rattle.rx_value.specs.declared.value.Value.{Value}
use Rattle.rx_value.specs.declared.value.Value.TheVariants as v
use Rattle.rx_value.specs.declared.source.SourceValue.TheVariants.{Plain}
use Rattle.shiny_json.specs.declared.message.Pair.{Pair}
use Rattle.app_tree.specs.Tree.{Node, Shape}
use Rattle.app_tree.specs.Numbering.{input_number, output_number, width_source, height_source}
use Rattle.session_model.specs.State.{SessionState, reader_state, with_reader}
use Rattle.session_model.specs.Change.{change}

-- what follows this front
abbrev pub after_front : List ℕ → List ℕ → Option (List ℕ)
after_front front name = if bytes_eq (take (length front) name) front then Some (drop (length front) name) else None

-- what stands before this end
abbrev pub before_end : List ℕ → List ℕ → Option (List ℕ)
before_end end name =
    if bytes_eq (drop (length name - length end) name) end then Some (take (length name - length end) name) else None

-- the reader number of output NAME in `.clientdata_output_NAME` and this end
abbrev pub clientdata_output : List ℕ → List ℕ → List Node → Option ℕ
clientdata_output end name items =
    option_and_then (λ output. output_number output items)
    (option_and_then (before_end end) (after_front (codes ".clientdata_output_") name))

-- what a name of a client message stands for: an input by its source number, or of an output, by its reader number,
-- the width, the height, or whether it is hidden
pub data Target : Type 0 where
  input : ℕ → Target
  width : ℕ → Target
  height : ℕ → Target
  hidden : ℕ → Target

-- the first of them that there is
abbrev pub or_else : Option Target → Option Target → Option Target
or_else (Some t) other = Some t
or_else None other = other

-- None where the name is ignored
abbrev pub target_of : List ℕ → List Node → Option Target
target_of name items =
    or_else (option_map input (input_number name items))
    (or_else (option_map width (clientdata_output (codes "_width") name items))
    (or_else (option_map height (clientdata_output (codes "_height") name items))
    (option_map hidden (clientdata_output (codes "_hidden") name items))))

-- an output is shown where the client says FALSE, and hidden at any other value
abbrev pub is_shown_by : Value → Bool
is_shown_by (v.Bool false) = true
is_shown_by _ = false

abbrev pub with_shown : ℕ → Bool → SessionState → SessionState
with_shown n shown state = with_reader n (record (reader_state state n) { shown = shown }) state

abbrev pub apply_to : Shape → Option Target → Value → SessionState → SessionState
apply_to app None x state = state
apply_to app (Some (input s)) x state = change s (Plain x) state
apply_to app (Some (width n)) x state = change (width_source app n) (Plain x) state
apply_to app (Some (height n)) x state = change (height_source app n) (Plain x) state
apply_to app (Some (hidden n)) x state = with_shown n (is_shown_by x) state

abbrev pub apply_pair : Shape → Pair → SessionState → SessionState
apply_pair app p state = apply_to app (target_of p.name app.items) p.value state

-- in the order of the list
abbrev pub apply_pairs : Shape → List Pair → SessionState → SessionState
apply_pairs app [] state = state
apply_pairs app (p ∷ more) state = apply_pairs app more (apply_pair app p state)
