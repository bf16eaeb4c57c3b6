use Rattle.std.proofs.Common.{◌+◌, ◌<◌, ◌≤◌, false, length, ap, ◌∙◌, sym, subst, arith}
use Rattle.std.proofs.lemmas.List.{length-map}
use Rattle.app_tree.specs.Numbering.{readers}
use Rattle.app_tree.specs.View.{node_of, shape_of}
use Rattle.session_model.specs.Flush.{priority_of}
use Rattle.flush_cycle.specs.inner.Roles.{is_run_in}
use Rattle.flush_cycle.proofs.MarkedWait.{with_if, FirstWaiting, one_first, knows_first}
use Rattle.flush_cycle.proofs.starting.pending.Goals as goal

pub new-requires : goal.new-requires
new-requires c =
    let app = shape_of c.args.app.now in
    let e = ap length (c.as_slice.ensures.value ∙ c.in_ok-priorities.ensures) ∙ length-map (readers app) priority_of in
    let count = c.readers-count.ensures.value in
    let most = c.readers-count.ensures.most in
    omega (e, count, most, arith)

pub loop-n-preserved : goal.loop-n-preserved
loop-n-preserved c =
    let app = shape_of c.args.app.now in
    let n = c.loop-n.n in
    let is = c.reader.ensures in
    let within : n < length (readers app) = let test = c.loop-n-test.true in let count = c.readers-count.ensures.value in omega (test, count, arith) in
    subst (FirstWaiting app (n + 1))
    (sym (c.add_if.ensures ∙ ap (λ b. with_if b n c.loop-n.pending) (c.is_run.ensures ∙ ap (λ r. is_run_in r false) c.role_of.ensures)))
    (one_first app n (node_of c.reader.result.now) c.loop-n.pending is within c.loop-n.invariant)

pub returns-clause-known : goal.returns-clause-known
returns-clause-known c =
    let app = shape_of c.args.app.now in
    let n = c.loop-n.n in
    let all : length (readers app) ≤ n = let test = c.loop-n-test.false in let count = c.readers-count.ensures.value in omega (test, count, arith) in
    knows_first app n c.loop-n.pending all c.loop-n.invariant
