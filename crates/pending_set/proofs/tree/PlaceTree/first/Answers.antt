use Rattle.std.proofs.Common.{◌≡◌, false, sym, ◌∙◌, ap, subst, get_or}
use Rattle.pending_set.specs.Tree.{node_at, NoneSet}
use Rattle.pending_set.proofs.Nodes.{NoneSet-top}
use Rattle.pending_set.proofs.tree.PlaceTree.first.Goals as goal

pub returns-then-not-index-clause-none : goal.returns-then-not-index-clause-none
returns-then-not-index-clause-none c =
    let t = c.self.inside in
    let kept = c.self.invariant in
    let cleared : node_at t.nodes.items 1 ≡ false = ap (get_or t.nodes.items 1) (sym c.if-not-index.true) ∙ sym c.index.ensures ∙ c.if-not-index.true in
    subst NoneSet c.self.view_is (NoneSet-top t.nodes.items t.width t.height kept.0 kept.2 kept.3 cleared)
