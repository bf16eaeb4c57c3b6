-- The pairs of a message are applied so far.
use Rattle.std.proofs.Common.{◌≡◌, ℕ, List, drop}
use Rattle.rx_value.specs.declared.source.SourceValue.{SourceValue}
use Rattle.shiny_json.specs.declared.message.Pair.{Pair}
use Rattle.app_tree.specs.Tree.{Shape}
use Rattle.session_model.specs.declared.state.ReaderState.{ReaderState}
use Rattle.session_model.specs.State.{SessionState}
use Rattle.session_model.specs.Apply.{apply_pairs}
use Rattle.taken_cycle.specs.State.{state_of, AreThawed}

pub record Applying (app : Shape) (pairs : List Pair) (from : SessionState) (values : List SourceValue) (readers : List ReaderState) (at : ℕ) : Type 0 where
  pub rest : apply_pairs app (drop at pairs) (state_of values readers) ≡ apply_pairs app pairs from
  pub thawed : AreThawed values
