-- What the keys of a cached reader are told to be.
use Rattle.std.specs.Prelude.{◌≡◌, ⊤, ℕ, List, Some, None, Ok, Err}
use Rattle.app_tree.specs.declared.term.Read.TheVariants.{Expr}
use Rattle.app_tree.specs.Tree.{Trees}
use Rattle.app_tree.specs.Evaluate.{TraceEntry, Evaluation}
use Rattle.app_tree.specs.Keys.{KeysResult, keys_result, keys_evaluation}
use Rattle.app_tree.specs.Wanted.{Answering, completed, first_wanted, up_to_wanted}
use Rattle.term_eval.specs.declared.keys.Keyed.{Keyed}
use Rattle.term_eval.specs.declared.keys.Keyed.TheVariants as keyed

-- by the keys' result, what they ask, and the reader's earlier and later state
abbrev pub TellsKeys : {S : Type 0} → (S → Answering) → (S → List TraceEntry → S → Type 0) → ℕ → KeysResult → Evaluation → S → S → Keyed → Type 0
TellsKeys answers noted node keys e old new (keyed.Key key) = (key.node ≡ node) × (keys ≡ Ok key.parts) × (first_wanted (answers old) e.asked ≡ None) × noted old e.asked new
TellsKeys answers noted node keys e old new (keyed.Fails outcome) = (keys ≡ Err outcome) × (first_wanted (answers old) e.asked ≡ None) × noted old e.asked new
TellsKeys answers noted node keys e old new (keyed.Wants m) = (first_wanted (answers old) e.asked ≡ Some (Expr m)) × noted old (up_to_wanted (answers old) e.asked) new
TellsKeys answers noted node keys e old new keyed.Memory = ⊤

-- of these keys, over a reader, for the reader of this number
abbrev pub EvalsKeys : {S : Type 0} → (S → Answering) → (S → List TraceEntry → S → Type 0) → ℕ → Trees → S → S → Keyed → Type 0
EvalsKeys answers noted node keys old new result =
    TellsKeys answers noted node (keys_result keys (completed (answers old))) (keys_evaluation keys (completed (answers old))) old new result
