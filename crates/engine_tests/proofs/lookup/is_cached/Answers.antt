use Rattle.std.proofs.Common.{◌≡◌, Bool, true, false, List, [], ◌∷◌, Some, refl, sym, subst}
use Rattle.std.specs.Prelude.{not, IsSome}
use Rattle.std.specs.Bool.{IsTrue}
use Rattle.std.proofs.lemmas.Bool.{false≢true}
use Rattle.app_tree.specs.declared.item.Item.{Item}
use Rattle.app_tree.specs.declared.term.Term.{Term}
use Rattle.app_tree.specs.Tree.{Tree}
use Rattle.app_tree.specs.View.{node_of, tree_of, trees_of_terms}
use Rattle.app_tree.specs.Cover.{with_keys}
use Rattle.term_eval.specs.Bodies.{IsCached}
use Rattle.engine_tests.proofs.lookup.is_cached.Goals as goal

-- by whether its keys are none
cached_by : (keys : List Term) (body : Tree) (none : Bool) → (IsTrue none → keys ≡ []) × (keys ≡ [] → IsTrue none) → not none ≡ true → IsSome (with_keys (trees_of_terms keys) body)
cached_by [] body true h some = absurd (false≢true some)
cached_by [] body false h some = absurd (false≢true (h.1 refl))
cached_by (k ∷ keys) body none h some = refl

pub returns-in-Reactive : goal.returns-in-Reactive
returns-in-Reactive c = λ some.
    subst (λ (i : Item). IsCached (Some (node_of i))) (sym c.in-Reactive.is)
    (cached_by c.in-Reactive.keys (tree_of c.in-Reactive.body) c.is_empty.result c.is_empty.ensures some)

pub returns-in-Text : goal.returns-in-Text
returns-in-Text c = λ some.
    subst (λ (i : Item). IsCached (Some (node_of i))) (sym c.in-Text.is)
    (cached_by c.in-Text.output.keys (tree_of c.in-Text.output.body) c.is_empty-in-Text.result c.is_empty-in-Text.ensures some)

pub returns-in-Plot : goal.returns-in-Plot
returns-in-Plot c = λ some.
    subst (λ (i : Item). IsCached (Some (node_of i))) (sym c.in-Plot.is)
    (cached_by c.in-Plot.output.keys (tree_of c.in-Plot.output.body) c.is_empty-in-Plot.result c.is_empty-in-Plot.ensures some)
