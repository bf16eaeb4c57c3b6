-- What a visit to one of three expressions does.
use Rattle.std.specs.Prelude.{◌≡◌, ℕ, pos, false, List, [], ◌∷◌, Some, codes}
use Rattle.rx_value.specs.declared.value.Value.TheVariants.{Int}
use Rattle.rx_value.specs.declared.outcome.Outcome.{Outcome}
use Rattle.rx_value.specs.declared.outcome.Outcome.TheVariants.{Val}
use Rattle.rx_value.specs.declared.operator.BinOp.TheVariants as op
use Rattle.app_tree.specs.declared.term.Read.TheVariants as read
use Rattle.app_tree.specs.declared.term.Operator.TheVariants.{Strict}
use Rattle.app_tree.specs.Tree.{get, isolate, binary, no_trees, input, reactive, Shape}
use Rattle.session_model.specs.declared.state.ReaderState.{ReaderState}
use Rattle.session_model.specs.State.{SessionState, first_reader, first_state}
use Rattle.session_model.specs.Run.{visit_expression}
use Rattle.session_laws.specs.VisitLaws.{reader_by_trace}

-- `input i = 7; reactive a { input$i } reactive b { a() == isolate(input$i) } reactive c { input$i }`
abbrev pub three_expressions : Shape
three_expressions = record {
  budget = 1000;
  items =
      input (codes "i") (Int (pos 7))
      ∷ reactive (codes "a") no_trees (get (read.Input 0))
      ∷ reactive (codes "b") no_trees (binary (Strict op.Equal) (get (read.Expr 0)) (isolate 0 (get (read.Input 0))))
      ∷ reactive (codes "c") no_trees (get (read.Input 0))
      ∷ [];
}

-- it has reached the input, and this is what its sites came to
abbrev reader_with_sites : List (ℕ × Outcome) → ReaderState
reader_with_sites isolated =
    record first_reader { dependencies = Some (record { sources = 0 ∷ []; changed = false }); isolated = isolated }

abbrev state_before : SessionState
state_before = first_state three_expressions

-- a visit to `b` runs `b` and `a`, and not `c`
abbrev pub RunsTheAsked : Type 0
RunsTheAsked =
    (visit_expression three_expressions 1 state_before).state.readers
    ≡ reader_with_sites [] ∷ reader_with_sites ((0, Val (Int (pos 7))) ∷ []) ∷ first_reader ∷ []

-- which is what the traces say, before either was run
abbrev pub TracesSayIt : Type 0
TracesSayIt =
    reader_by_trace three_expressions state_before 0 ∷ reader_by_trace three_expressions state_before 1 ∷ []
    ≡ reader_with_sites [] ∷ reader_with_sites ((0, Val (Int (pos 7))) ∷ []) ∷ []
