-- The parts of a values text in other words: for each name what its last run that tells something tells.
use Rattle.std.specs.Prelude.{◌≡◌, ℕ, List, [], ◌∷◌, bytes_eq, Option, Some, None, if◌then◌else◌}
use Rattle.serde_json.specs.Data.{Data}
use Rattle.serde_json.specs.Find.{get_member}
use Rattle.shiny_json.specs.declared.batch.BatchOutput.{BatchOutput}
use Rattle.shiny_json.specs.Values.{Entry, shown, failed, unsaid, Parts, no_parts, with_outputs, outcome_entry}

-- an entry, or the earlier one where it says nothing
abbrev pub or_earlier : Entry → Entry → Entry
or_earlier (shown d) earlier = shown d
or_earlier (failed d) earlier = failed d
or_earlier unsaid earlier = earlier

-- what one run tells of the output of this name
abbrev pub entry_told : List ℕ → BatchOutput → Entry
entry_told name o = if bytes_eq name o.name then outcome_entry o.plot o.outcome else unsaid

-- what the last run that tells something of it tells
abbrev pub last_told : List ℕ → List BatchOutput → Entry
last_told name [] = unsaid
last_told name (o ∷ more) = or_earlier (last_told name more) (entry_told name o)

abbrev pub value_told : Entry → Option Data
value_told (shown d) = Some d
value_told (failed d) = None
value_told unsaid = None

abbrev pub error_told : Entry → Option Data
error_told (shown d) = None
error_told (failed d) = Some d
error_told unsaid = None

-- under this name the parts hold what the entry tells, and nothing else
pub record Tells (name : List ℕ) (e : Entry) (parts : Parts) : Type 0 where
  pub values : get_member name parts.values ≡ value_told e
  pub errors : get_member name parts.errors ≡ error_told e

-- under each name the parts that outputs make hold what its last run tells
abbrev pub TellTheLast : Type 0
TellTheLast =
    (outputs : List BatchOutput) (name : List ℕ) → Tells name (last_told name outputs) (with_outputs outputs no_parts)
