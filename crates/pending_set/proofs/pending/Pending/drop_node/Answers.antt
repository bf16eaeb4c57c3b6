use Rattle.std.proofs.Common.{◌≡◌, ℕ, ◌<◌, false, length, slice_index, arith, length-set, subst, sym, ◌∙◌}
use Rattle.std.proofs.lemmas.Grind.{common_steps}
use Rattle.pending_set.specs.Waiting.{Waiting}
use Rattle.pending_set.specs.Tree.{is_set}
use Rattle.pending_set.proofs.Choice.{IsShown-dropped}
use Rattle.pending_set.proofs.pending.Pending.drop_node.Goals as goal

pub invariant_of-self : goal.invariant_of-self
invariant_of-self c =
    let a = c.self.inside in
    let kept = c.self.invariant in
    let below : c.args.n < length a.priorities.items = subst (λ (w : Waiting). c.args.n < length w.priorities) (sym c.self.view_is) c.requires in
    let ordered : c.args.n < length a.order.items = omega (arith, below, kept.order.long) in
    let ranked : c.args.n < length a.ranks.items = omega (arith, ordered, kept.ranks.long) in
    let place : c.index.result.now ≡ slice_index a.ranks.items c.args.n = grind (arith, common_steps, ranked) in
    record {
      few = kept.few;
      long = simp length-set kept.long;
      order = kept.order;
      ranks = kept.ranks;
      room = omega (arith, c.put.ensures.width, kept.room);
      shown = IsShown-dropped a.order.items a.ranks.items a.waits.items a.places c.put.new.self c.args.n kept.ranks (omega (arith, kept.long, kept.order.long)) ordered kept.shown
          (subst (λ (k : ℕ). is_set c.put.new.self k ≡ false) place c.put.ensures.here) (λ k apart. c.put.ensures.others k (λ is. apart (is ∙ place)));
    }
