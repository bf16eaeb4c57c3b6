use Rattle.std.proofs.Common.{◌≡◌, ◌+◌, ◌<◌, [], ◌∷◌, ◌++◌, ap, sym, ◌∙◌, length, drop, get_or, length-append, arith}
use Rattle.std.proofs.Math.ListN.{set, length-set}
use Rattle.std.proofs.lemmas.List.Edits.{map_over_more}
use Rattle.dep_graph.specs.Contexts.{changed_context, marked_from}
use Rattle.dep_graph.proofs.Marking.{marked-true, marked-false, same_there, rest_is}
use Rattle.dep_graph.proofs.graph.Graph.invalidate.Goals as goal
use Rattle.dep_graph.proofs.graph.Graph.invalidate.Goals.{then-change+in-Ok, else-change}

pub loop-r-preserved : goal.loop-r-preserved
loop-r-preserved c =
    let before = c.args.self.now.readers in
    let now = c.loop-r.self-inside.contexts.items in
    let r = c.loop-r.r in
    let x = c.index_mut-context.result.now in
    let s = c.args.s in
    let kept = c.loop-r.invariant in
    let lt : r < length before = omega (arith, ap (λ g. length g.readers) c.self.view_is) in
    let here : x ≡ get_or before r x = same_there (changed_context s) before now r x lt kept.contexts c.index_mut-context.ensures.value in
    let so_far : c.loop-r.out.list ++ marked_from s r (x ∷ drop (r + 1) before) ≡ marked_from s 0 before =
    ap (λ l. c.loop-r.out.list ++ marked_from s r l) (sym (rest_is before r x lt here)) ∙ kept.marked in
    record {
      contexts = ap (set now r) c.change.ensures.after ∙ map_over_more (changed_context s) before now r x lt kept.contexts c.index_mut-context.ensures.value;
      sources = kept.sources;
      marked = elim c.if-change.branch [
        | then-change+in-Ok w ↦ ap (λ o. o ++ marked_from s (r + 1) (drop (r + 1) before)) (ap (λ m. m.list) w.out-is ∙ w.in-Ok.ensures.ok) ∙ marked-true s r x (drop (r + 1) before) c.loop-r.out.list (marked_from s 0 before) (sym c.change.ensures.marks ∙ w.if-change.true) so_far
        | else-change w ↦ ap (λ o. o ++ marked_from s (r + 1) (drop (r + 1) before)) (ap (λ m. m.list) w.out-is) ∙ marked-false s r x (drop (r + 1) before) c.loop-r.out.list (marked_from s 0 before) (sym c.change.ensures.marks ∙ w.if-change.false) so_far
      ];
      few = elim c.if-change.branch [
        | then-change+in-Ok w ↦ omega (arith, kept.few, ap (λ m. length m.list) w.out-is, ap length w.in-Ok.ensures.ok, length-append c.loop-r.out.list (r ∷ []))
        | else-change w ↦ omega (arith, kept.few, ap (λ m. length m.list) w.out-is)
      ];
      room = elim c.if-change.branch [
        | then-change+in-Ok w ↦ omega (arith, kept.room, ap (λ m. m.room) w.out-is, w.in-Ok.ensures.room)
        | else-change w ↦ omega (arith, kept.room, ap (λ m. m.room) w.out-is)
      ];
      fits = length-set _ _ _ ∙ kept.fits;
      inside = kept.inside;
    }
