-- Worked examples of what outputs come to at the first run of everything.
use Rattle.std.specs.Prelude.{◌≡◌, true, false, pos, List, [], ◌∷◌}
use Rattle.std.specs.Prelude.{codes}
use Rattle.rx_value.specs.declared.operator.BinOp.TheVariants as op
use Rattle.rx_value.specs.declared.value.Value.TheVariants.{Bool as Truth, Int}
use Rattle.rx_value.specs.declared.outcome.Outcome.{Outcome}
use Rattle.rx_value.specs.declared.outcome.Outcome.TheVariants.{Val, Fail, Stop}
use Rattle.app_tree.specs.declared.term.Operator.TheVariants.{Strict}
use Rattle.app_tree.specs.declared.term.Read.TheVariants as read
use Rattle.app_tree.specs.Tree.{Tree, Trees, no_trees, tree, constant, get, isolate, require, binary, Shown, Node, input, reactive, event, text, plot}
use Rattle.app_tree.specs.Numbering.{starting_values}
use Rattle.fresh_eval.specs.FirstOutcomes.{first_outcomes}

-- the input `a`, which is source 0
abbrev pub a : Tree
a = get (read.Input 0)

-- reader 0
abbrev pub e : Tree
e = get (read.Expr 0)

abbrev pub shown : Trees → Tree → Shown
shown keys body = record { priority = pos 0; while_hidden = false; keys = keys; body = body }

-- of an app whose first item is `input a = 1`, where nothing was set
abbrev pub outcomes_at_start : List Node → List Outcome
outcomes_at_start items = first_outcomes (record { budget = 1000; items = input (codes "a") (Int (pos 1)) ∷ items })
    (starting_values (input (codes "a") (Int (pos 1)) ∷ items))

-- `reactive e { input$a + 1 }`, `text p { e() }`, `text q { e() * 10 }`
abbrev pub SharedExpression : Type 0
SharedExpression =
    outcomes_at_start (
    reactive (codes "e") no_trees (binary (Strict op.Add) a (constant (Int (pos 1))))
    ∷ text (codes "p") (shown no_trees e)
    ∷ text (codes "q") (shown no_trees (binary (Strict op.Multiply) e (constant (Int (pos 10))))) ∷ [])
    ≡ Val (Int (pos 2)) ∷ Val (Int (pos 20)) ∷ []

-- `event e ignoreInit { input$a } { input$a }`, `text p { e() }`, `text q { isolate(input$a) }`
abbrev pub EventsAndSites : Type 0
EventsAndSites =
    outcomes_at_start (
    event (codes "e") (record { ignore_init = true; allow_null = false }) a a
    ∷ text (codes "p") (shown no_trees e)
    ∷ text (codes "q") (shown no_trees (isolate 0 a)) ∷ [])
    ≡ Stop ∷ Val (Int (pos 1)) ∷ []

-- `plot p { input$a }`: a number is no picture
abbrev pub PlotOfNumber : Type 0
PlotOfNumber = outcomes_at_start (plot (codes "p") (shown no_trees a) ∷ []) ≡ Fail (codes "wrong kind of value") ∷ []

-- `text p cache (req(FALSE)) { input$a }`: the body is not evaluated where a key has no value
abbrev pub KeyThatStops : Type 0
KeyThatStops = outcomes_at_start (text (codes "p") (shown (tree (require (constant (Truth false)) false) no_trees) a) ∷ []) ≡ Stop ∷ []
