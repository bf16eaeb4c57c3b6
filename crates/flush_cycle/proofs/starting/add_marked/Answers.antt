use Rattle.std.proofs.Common.{◌+◌, ℕ, List, drop, get_or, length, ap, ◌∙◌, sym, subst, arith}
use Rattle.std.proofs.lemmas.List.{drop_more}
use Rattle.flush_cycle.specs.declared.output.OutputState.{OutputState}
use Rattle.flush_cycle.specs.inner.Roles.{is_run_in}
use Rattle.flush_cycle.proofs.MarkedWait.{with_if, Adding, first_known, read_at, one_added}
use Rattle.flush_cycle.proofs.starting.add_marked.Goals as goal

pub bounds-outputs-n : goal.bounds-outputs-n
bounds-outputs-n c =
    let all = c.args.marked.now in
    let i = c.loop-n.n-index in
    first_known c.args.outputs.now (get_or all i 0) (drop (i + 1) all) all c.args.pending.now c.loop-n.pending
    (subst (λ (rest : List ℕ). Adding c.args.outputs.now rest all c.args.pending.now c.loop-n.pending) (drop_more all i 0 c.loop-n-test.true) c.loop-n.invariant)

pub add_if-requires : goal.add_if-requires
add_if-requires c =
    let all = c.args.marked.now in
    let i = c.loop-n.n-index in
    let known =
    first_known c.args.outputs.now (get_or all i 0) (drop (i + 1) all) all c.args.pending.now c.loop-n.pending
    (subst (λ (rest : List ℕ). Adding c.args.outputs.now rest all c.args.pending.now c.loop-n.pending) (drop_more all i 0 c.loop-n-test.true) c.loop-n.invariant) in
    let same = ap length c.loop-n.invariant.priorities in
    let fits = c.requires.priorities in
    omega (known, same, fits, arith)

pub loop-n-preserved : goal.loop-n-preserved
loop-n-preserved c =
    let all = c.args.marked.now in
    let i = c.loop-n.n-index in
    let outputs = c.args.outputs.now in
    let n = get_or all i 0 in
    let here = subst (λ (rest : List ℕ). Adding outputs rest all c.args.pending.now c.loop-n.pending) (drop_more all i 0 c.loop-n-test.true) c.loop-n.invariant in
    let known = first_known outputs n (drop (i + 1) all) all c.args.pending.now c.loop-n.pending here in
    subst (Adding outputs (drop (i + 1) all) all c.args.pending.now)
    (sym (c.add_if.ensures
    ∙ ap (λ b. with_if b n c.loop-n.pending) (c.is_wanted.ensures ∙ ap (λ (o : OutputState). is_run_in o.role o.shown) (read_at outputs n c.index-outputs-n.result known c.index-outputs-n.is))))
    (one_added outputs n (drop (i + 1) all) all c.args.pending.now c.loop-n.pending c.requires.waits here)
