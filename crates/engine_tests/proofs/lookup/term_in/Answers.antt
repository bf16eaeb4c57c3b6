use Rattle.std.proofs.Common.{List, refl, subst, sym}
use Rattle.app_tree.specs.declared.item.Item.{Item}
use Rattle.app_tree.specs.declared.statement.Statement.{Statement}
use Rattle.app_tree.specs.View.{acts_of_block, node_of, tree_of}
use Rattle.app_tree.specs.Cover.{reads_in}
use Rattle.app_laws.specs.Orderly.{reads_in_acts}
use Rattle.engine_tests.specs.inner.ObserverReads.{IsWithin, IsTermOf}
use Rattle.engine_tests.proofs.TermsWithin.{under, front_own, back_own}
use Rattle.engine_tests.proofs.lookup.term_in.Goals as goal

pub returns-in-Observe : goal.returns-in-Observe
returns-in-Observe c =
    under _ _ c.term_at.result (λ t within.
    subst (λ (i : Item). IsTermOf (node_of i) (tree_of t.now)) (sym c.in-Observe.is) (record {
      apart = refl;
      within = subst (λ (block : List Statement). IsWithin (reads_in (tree_of t.now)) (reads_in_acts (acts_of_block block))) c.as_slice.ensures within;
    }))
    c.term_at.ensures

pub returns-in-On : goal.returns-in-On
returns-in-On c =
    subst (λ (i : Item). IsTermOf (node_of i) (tree_of c.in-On.event)) (sym c.in-On.is) (record {
      apart = refl;
      within = λ app own. front_own app (reads_in (tree_of c.in-On.event)) (reads_in_acts (acts_of_block c.in-On.block)) own;
    })

pub returns-in-On-2 : goal.returns-in-On-2
returns-in-On-2 c =
    under _ _ c.term_at-in-On-2.result (λ t within.
    subst (λ (i : Item). IsTermOf (node_of i) (tree_of t.now)) (sym c.in-On-2.is) (record {
      apart = refl;
      within = λ app own.
          subst (λ (block : List Statement). IsWithin (reads_in (tree_of t.now)) (reads_in_acts (acts_of_block block))) c.as_slice-in-On-2.ensures within app
          (back_own app (reads_in (tree_of c.in-On-2.event)) (reads_in_acts (acts_of_block c.in-On-2.block)) own);
    }))
    c.term_at-in-On-2.ensures
