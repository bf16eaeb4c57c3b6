-- What an evaluation over a reader is.
use Rattle.std.specs.Prelude.{◌≡◌, ⊤, ℕ, List, [], ◌∷◌, Some, None, Result, Ok, Err}
use Rattle.rx_value.specs.declared.value.Value.{Value}
use Rattle.rx_value.specs.declared.outcome.Outcome.{Outcome}
use Rattle.rx_value.specs.declared.outcome.Outcome.TheVariants.{Val, Stop}
use Rattle.app_tree.specs.declared.term.Read.TheVariants.{Expr}
use Rattle.app_tree.specs.Tree.{Trees}
use Rattle.app_tree.specs.Evaluate.{TraceEntry, Evaluation, evaluate_all, leaves}
use Rattle.term_eval.specs.declared.ending.Early.{Early}
use Rattle.term_eval.specs.declared.ending.Early.TheVariants as early
use Rattle.app_tree.specs.Wanted.{Answering, completed, first_wanted, up_to_wanted}
use Rattle.term_eval.specs.inner.Early.{halted_outcome}

-- a reader, and the values of the variables
pub record At (S : Type 0) : Type 0 where
  pub reader : S
  pub variables : List Value

abbrev pub state : {S : Type 0} → S → List Value → At S
state r xs = record { reader = r; variables = xs }

module _ {S : Type 0} (answers : S → Answering) (noted : S → List TraceEntry → S → Type 0) where
  -- the evaluation comes to its end, with nothing that was wanted
  pub record Ends (e : Evaluation) (outcome : Outcome) (old new : At S) : Type 0 where
    pub outcome_is : e.outcome ≡ outcome
    pub none_wanted : first_wanted (answers old.reader) e.asked ≡ None
    pub notes : noted old.reader e.asked new.reader
    pub keeps : answers new.reader ≡ answers old.reader
    pub variables : new.variables ≡ old.variables

  -- it stops at a read that is wanted
  pub record Stops (e : Evaluation) (m : ℕ) (old new : At S) : Type 0 where
    pub outcome_is : e.outcome ≡ Stop
    pub wanted : first_wanted (answers old.reader) e.asked ≡ Some (Expr m)
    pub notes : noted old.reader (up_to_wanted (answers old.reader) e.asked) new.reader
    pub keeps : answers new.reader ≡ answers old.reader
    pub variables : new.variables ≡ old.variables

  abbrev pub Walks : Evaluation → At S → At S → Result Value Early → Type 0
  Walks e old new (Ok x) = Ends e (Val x) old new
  Walks e old new (Err (early.Halted h)) = Ends e (halted_outcome h) old new
  Walks e old new (Err (early.Wants m)) = Stops e m old new
  Walks e old new (Err early.Memory) = answers new.reader ≡ answers old.reader

  -- the values of terms, with which whatever comes next goes on
  abbrev pub WalksAll : Trees → At S → At S → Result (List Value) Early → Type 0
  WalksAll ts old new (Ok xs) = (next : List Value → Evaluation) (later : At S) (result : Result Value Early)
      → Walks (next xs) new later result → Walks (evaluate_all ts (completed (answers old.reader)) old.variables [] next) old later result
  WalksAll ts old new (Err e) = (next : List Value → Evaluation) → Walks (evaluate_all ts (completed (answers old.reader)) old.variables [] next) old new (Err e)

-- leaving a site where its term came to this, and then to the same
abbrev pub Leaves : {S : Type 0} → (S → List TraceEntry → S → Type 0) → ℕ → Result Value Early → Result Value Early → S → S → Type 0
Leaves noted site got (Ok x) old new = (got ≡ Ok x) × noted old (leaves site (Val x) ∷ []) new
Leaves noted site got (Err (early.Halted h)) old new = (got ≡ Err (early.Halted h)) × noted old (leaves site (halted_outcome h) ∷ []) new
Leaves noted site got (Err (early.Wants m)) old new = (got ≡ Err (early.Wants m)) × (new ≡ old)
Leaves noted site got (Err early.Memory) old new = ⊤
