-- Without keys no cache is asked, and what a session does is determined: which bodies it runs, and what it keeps. So a worked
-- example of the bodies that are run can be computed.
use Rattle.std.specs.Prelude.{◌≡◌, ℕ, false, pos, List, [], ◌∷◌, None, codes}
use Rattle.rx_value.specs.declared.operator.BinOp.TheVariants as op
use Rattle.rx_value.specs.declared.value.Value.TheVariants.{Int}
use Rattle.rx_value.specs.declared.source.SourceValue.TheVariants.{Plain}
use Rattle.rx_value.specs.declared.outcome.Outcome.{Outcome}
use Rattle.rx_value.specs.declared.outcome.Outcome.TheVariants.{Val}
use Rattle.app_tree.specs.declared.term.Operator.TheVariants.{Strict}
use Rattle.app_tree.specs.declared.term.Read.TheVariants as read
use Rattle.app_tree.specs.Tree.{Tree, no_trees, get, constant, binary, Node, input, reactive, text, Shape}
use Rattle.app_tree.specs.Numbering.{reader}
use Rattle.app_tree.specs.Cover.{cached_node}
use Rattle.session_model.specs.Standing.{KeptSession, kept_reader, first_session}
use Rattle.session_steps.specs.Keeping.{IsAlike}
use Rattle.session_steps.specs.Bringing.{Aim, running, Brings}
use Rattle.session_steps.specs.Acting.{write_kept}

-- no reader is cached
abbrev pub HasNoKeys : Shape → Type 0
HasNoKeys app = (n : ℕ) → cached_node (reader app n) ≡ None

-- the same bodies were run, and the same is kept
pub record IsOneRun (bodies others : List ℕ) (after other : KeptSession) : Type 0 where
  pub same : bodies ≡ others
  pub alike : IsAlike after other

abbrev pub RunsAreDetermined : Type 0
RunsAreDetermined =
    (app : Shape) → HasNoKeys app → (aim : Aim) (n : ℕ) (session after other last : KeptSession) → IsAlike session other
    → (bodies others : List ℕ) → Brings app aim bodies n session after → Brings app aim others n other last
    → IsOneRun bodies others after last

-- ---- two outputs over one expression

abbrev pub output_named : List ℕ → Tree → Node
output_named name body = text name (record { priority = pos 0; while_hidden = false; keys = no_trees; body = body })

-- `input a = 1;`, `reactive e { input$a + 1 }`, `text p { e() }`, `text q { e() * 10 }`
abbrev pub two_outputs : Shape
two_outputs = record {
  budget = 1000;
  items =
      input (codes "a") (Int (pos 1))
      ∷ reactive (codes "e") no_trees (binary (Strict op.Add) (get (read.Input 0)) (constant (Int (pos 1))))
      ∷ output_named (codes "p") (get (read.Expr 0))
      ∷ output_named (codes "q") (binary (Strict op.Multiply) (get (read.Expr 0)) (constant (Int (pos 10))))
      ∷ [];
}

-- the bodies that were run, and what is kept of the output
pub record RunsTo (n : ℕ) (bodies : List ℕ) (after : KeptSession) (expected : List ℕ) (outcome : Outcome) : Type 0 where
  pub bodies_are : bodies ≡ expected
  pub keeps : (kept_reader after n).outcome ≡ outcome

-- the first output runs the expression's body and its own, the second its own alone; and so again after a write
pub record RunsThree (first second third fourth : List ℕ) (p q p' q' : KeptSession) : Type 0 where
  pub p_runs : RunsTo 1 first p (0 ∷ 1 ∷ []) (Val (Int (pos 2)))
  pub q_runs : RunsTo 2 second q (2 ∷ []) (Val (Int (pos 20)))
  pub p_again : RunsTo 1 third p' (0 ∷ 1 ∷ []) (Val (Int (pos 3)))
  pub q_again : RunsTo 2 fourth q' (2 ∷ []) (Val (Int (pos 30)))

abbrev pub TwoOutputsRunThree : Type 0
TwoOutputsRunThree =
    (first second third fourth : List ℕ) (p q written p' q' : KeptSession)
    → Brings two_outputs running first 1 (first_session two_outputs) p → Brings two_outputs running second 2 p q
    → IsAlike (write_kept 0 (Plain (Int (pos 2))) q) written
    → Brings two_outputs running third 1 written p' → Brings two_outputs running fourth 2 p' q'
    → RunsThree first second third fourth p q p' q'
