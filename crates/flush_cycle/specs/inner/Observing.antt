-- The run of an observer, in the parts of the code.
use Rattle.std.specs.Prelude.{◌≡◌, ℕ, Bool, true, false, not, ◌&&◌, ◌||◌, List, Option, Some}
use Rattle.rx_value.specs.declared.value.Value.{Value}
use Rattle.rx_value.specs.Functions.{is_null}
use Rattle.app_tree.specs.declared.item.Flags.{Flags}
use Rattle.app_tree.specs.Tree.{Tree, Acts, Node, text, plot, observe, on, Shape}
use Rattle.session_model.specs.State.{SessionState}
use Rattle.session_model.specs.Observing.{StatementsResult, with_value, read_by_observer, do_on}
use Rattle.flush_cycle.specs.inner.Statements.{IsTermOf, AreActsOf}

abbrev pub is_left_out : Flags → Bool → Value → Bool
is_left_out flags first x = is_null x && not flags.allow_null || first && flags.ignore_init

-- the event term, and the statements behind it
abbrev pub on_behind : Shape → ℕ → Bool → Flags → Tree → Acts → SessionState → StatementsResult
on_behind app n first flags event block state =
    with_value (read_by_observer app n false event state) (do_on app n first flags block)

-- an observer whose terms and statements are the app's
abbrev pub IsObserverOf : Shape → Node → Type 0
IsObserverOf app (observe name priority block) = AreActsOf app block
IsObserverOf app (on name priority flags event block) = IsTermOf app event × AreActsOf app block
IsObserverOf app _ = ⊥

-- an output of this name, which is a plot or not
abbrev pub IsOutputNamed : List ℕ → Bool → Option Node → Type 0
IsOutputNamed called plotted (Some (text name shown)) = (called ≡ name) × (plotted ≡ false)
IsOutputNamed called plotted (Some (plot name shown)) = (called ≡ name) × (plotted ≡ true)
IsOutputNamed called plotted _ = ⊥
