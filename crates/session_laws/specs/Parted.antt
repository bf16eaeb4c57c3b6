-- Why a run by its trace is the run as it is stated only where what a session keeps is right: in this state, which no
-- session comes to, an expression that is alive reads one that isn't.
use Rattle.std.specs.Prelude.{◌≡◌, ℕ, pos, Bool, false, true, List, [], ◌∷◌, Some, None, codes}
use Rattle.rx_value.specs.declared.value.Value.TheVariants.{Int}
use Rattle.rx_value.specs.declared.outcome.Outcome.{Outcome}
use Rattle.rx_value.specs.declared.outcome.Outcome.TheVariants.{Val}
use Rattle.rx_value.specs.declared.operator.BinOp.TheVariants as op
use Rattle.rx_value.specs.declared.source.SourceValue.TheVariants.{Plain}
use Rattle.app_tree.specs.declared.term.Read.TheVariants as read
use Rattle.app_tree.specs.declared.term.Operator.TheVariants.{Strict}
use Rattle.app_tree.specs.Tree.{Tree, constant, get, isolate, binary, choice, no_trees, input, reactive, text, Shape}
use Rattle.session_model.specs.declared.state.ReaderState.{ReaderState}
use Rattle.session_model.specs.State.{SessionState, reader_state}
use Rattle.session_model.specs.Run.{visit_expression, run_reader}
use Rattle.session_laws.specs.Now.{run_by_trace}

abbrev equals : Tree → ℕ → Tree
equals t n = binary (Strict op.Equal) t (constant (Int (pos n)))

-- `input i = 7; reactive a { isolate(input$i) } reactive b { a() }`
-- `text o { if (b() == 5) { isolate(a()) } else { 0 } }`
abbrev pub nested_app : Shape
nested_app = record {
  budget = 1000;
  items =
      input (codes "i") (Int (pos 7))
      ∷ reactive (codes "a") no_trees (isolate 0 (get (read.Input 0)))
      ∷ reactive (codes "b") no_trees (get (read.Expr 0))
      ∷ text (codes "o")
      (record {
        priority = pos 0;
        while_hidden = false;
        keys = no_trees;
        body = choice (equals (get (read.Expr 1)) 5) (isolate 0 (get (read.Expr 0))) (constant (Int (pos 0)));
      })
      ∷ [];
}

abbrev reader_with : Bool → List (ℕ × Outcome) → ReaderState
reader_with changed isolated =
    record {
      dependencies = Some (record { sources = []; changed = changed });
      isolated = isolated;
      shown = false;
      last = None;
    }

-- `a` saw 5 at its site and is no longer alive; `b`, which reads it, is
abbrev pub wrong_state : SessionState
wrong_state = record {
  values = Plain (Int (pos 7)) ∷ [];
  readers =
      reader_with true ((0, Val (Int (pos 5))) ∷ []) ∷ reader_with false []
      ∷ record { dependencies = None; isolated = []; shown = true; last = None } ∷ [];
  boards = [];
}

-- as a run is stated, `b` gives 5 from what `a` saw, so the output's site is evaluated, and there `a` runs and gives 7
abbrev pub SeesTheSite : Type 0
SeesTheSite = (reader_state (run_reader nested_app 2 wrong_state).state 2).isolated ≡ (0, Val (Int (pos 7))) ∷ []

-- by what each reader gives now, `b` gives 7, and the site isn't met
abbrev pub MissesTheSite : Type 0
MissesTheSite =
    (reader_state (run_by_trace nested_app (visit_expression nested_app) 2 wrong_state).state 2).isolated ≡ []
