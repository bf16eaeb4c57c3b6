-- An evaluation over answers of which some are wanted: it stops at the first read that is, and goes on where that is run first.
use Rattle.std.specs.Prelude.{ℕ, List, [], ◌∷◌, Option, Some, None, unwrap_or}
use Rattle.rx_value.specs.declared.outcome.Outcome.{Outcome}
use Rattle.rx_value.specs.declared.outcome.Outcome.TheVariants.{Stop}
use Rattle.app_tree.specs.declared.term.Read.{Read}
use Rattle.app_tree.specs.Evaluate.{Answers, TraceEntry, reads, given, enters, leaves}

-- the answer to each read, or None where what is read is wanted first; and to each isolated site, or None where its term is
-- evaluated now
pub record Answering : Type 0 where
  pub read : Read → Option Outcome
  pub site : ℕ → Option Outcome

-- a wanted read is answered as a failure, so that an evaluation by these answers asks nothing behind the first one
abbrev pub completed : Answering → Answers
completed a = record { read = λ r. unwrap_or (a.read r) Stop; site = a.site }

abbrev pub wanted_by : Option Outcome → Read → Option Read → Option Read
wanted_by (Some outcome) r later = later
wanted_by None r later = Some r

-- the first of the reads of a trace that is wanted
abbrev pub first_wanted : Answering → List TraceEntry → Option Read
first_wanted a [] = None
first_wanted a (reads r ∷ more) = wanted_by (a.read r) r (first_wanted a more)
first_wanted a (given s ∷ more) = first_wanted a more
first_wanted a (enters s ∷ more) = first_wanted a more
first_wanted a (leaves s outcome ∷ more) = first_wanted a more

abbrev pub up_to_by : Option Outcome → List TraceEntry → List TraceEntry
up_to_by (Some outcome) later = later
up_to_by None later = []

-- what is asked up to and with the first read that is wanted
abbrev pub up_to_wanted : Answering → List TraceEntry → List TraceEntry
up_to_wanted a [] = []
up_to_wanted a (reads r ∷ more) = reads r ∷ up_to_by (a.read r) (up_to_wanted a more)
up_to_wanted a (given s ∷ more) = given s ∷ up_to_wanted a more
up_to_wanted a (enters s ∷ more) = enters s ∷ up_to_wanted a more
up_to_wanted a (leaves s outcome ∷ more) = leaves s outcome ∷ up_to_wanted a more
