use Rattle.std.proofs.Common.{◌≡◌, ◌<◌, refl, sym, ap, ◌∙◌, subst, arith}
use Rattle.std.specs.Prelude.{Ok}
use Rattle.std.proofs.lemmas.Result.{err_from_is_err_and}
use Rattle.app_tree.specs.Held.{Held}
use Rattle.app_tree.specs.View.{shape_of}
use Rattle.session_model.specs.Flush.{flush}
use Rattle.flush_cycle.specs.contracts.work.Work.{the_view}
use Rattle.flush_cycle.specs.declared.flushing.End.TheVariants as end
use Rattle.flush_cycle.specs.inner.Acting.{IsNext}
use Rattle.flush_cycle.specs.inner.Passing.{Passes}
use Rattle.flush_cycle.specs.Working.{Working}
use Rattle.flush_cycle.proofs.FlushGoes.{Goes, IsSet, with_waits, goes_first, is_next, goes_on, passes_done, passes_spent, passes_failure, passes_memory}
use Rattle.flush_cycle.proofs.work.Work.flush.Goals.{in-Some-next, in-None}
use Rattle.flush_cycle.proofs.work.Work.flush.Goals as goal

pub loop-run-init : goal.loop-run-init
loop-run-init g c = goes_first g.A.Asker.follows g.A.Asker.out c.args.self.now c.args.asker.now c.args.steps.now (g.met.A.Asker.stays c.args.asker.now) c.requires.ask.none_out c.requires.rests

pub returns-in_default : goal.returns-in_default
returns-in_default g c =
    let old = c.args.self.now in
    let now : Working = the_view c.self-in-loop-run.inside in
    let goes : Goes g.A.Asker.follows g.A.Asker.out old now c.args.asker.now c.loop-run.asker c.args.steps.now c.loop-run.steps c.loop-run._run =
    subst (λ (w : Working). Goes g.A.Asker.follows g.A.Asker.out old w c.args.asker.now c.loop-run.asker c.args.steps.now c.loop-run.steps c.loop-run._run) (sym c.self-in-loop-run.view_is) c.loop-run.invariant in
    let set : IsSet (shape_of now.app) now.pending = record { priorities = c.self-in-loop-run.invariant.priorities; waits = c.self-in-loop-run.invariant.waits } in
    subst (λ p. Passes g.A.Asker.follows g.A.Asker.out (flush (shape_of old.app)) old (with_waits p now) c.args.asker.now c.loop-run.asker c.args.steps.now c.loop-run.steps (Ok end.Done)) (sym c.in_default.ensures.after)
    (passes_done g.A.Asker.follows g.A.Asker.out old now c.args.asker.now c.loop-run.asker c.args.steps.now c.loop-run.steps c.loop-run._run goes set c.in_default.ensures.none)

pub make_run-requires-clause-ask : goal.make_run-requires-clause-ask
make_run-requires-clause-ask g c =
    let same = ap (λ (w : Working). w.app) c.self-in-loop-run.view_is ∙ c.loop-run.invariant.app in
    record {
      of_app = g.met.A.Asker.same_app c.args.asker.now c.loop-run.asker c.loop-run.invariant.succeeds ∙ c.requires.ask.of_app ∙ sym (ap shape_of same);
      none_out = c.loop-run.invariant.leaves;
    }

pub make_run-requires-clause-next : goal.make_run-requires-clause-next
make_run-requires-clause-next g c =
    let old = c.args.self.now in
    let now : Working = the_view c.self-in-loop-run.inside in
    let goes : Goes g.A.Asker.follows g.A.Asker.out old now c.args.asker.now c.loop-run.asker c.args.steps.now c.loop-run.steps c.loop-run._run =
    subst (λ (w : Working). Goes g.A.Asker.follows g.A.Asker.out old w c.args.asker.now c.loop-run.asker c.args.steps.now c.loop-run.steps c.loop-run._run) (sym c.self-in-loop-run.view_is) c.loop-run.invariant in
    let set : IsSet (shape_of now.app) now.pending = record { priorities = c.self-in-loop-run.invariant.priorities; waits = c.self-in-loop-run.invariant.waits } in
    subst (λ p. IsNext c.in-Some.n (with_waits p now)) (sym c.in-Some.ensures.after) (is_next now c.in-Some.n goes.rests set c.in-Some.ensures.some)

pub returns-in_err-why : goal.returns-in_err-why
returns-in_err-why g c =
    let old = c.args.self.now in
    let now : Working = the_view c.self-in-loop-run.inside in
    let goes : Goes g.A.Asker.follows g.A.Asker.out old now c.args.asker.now c.loop-run.asker c.args.steps.now c.loop-run.steps c.loop-run._run =
    subst (λ (w : Working). Goes g.A.Asker.follows g.A.Asker.out old w c.args.asker.now c.loop-run.asker c.args.steps.now c.loop-run.steps c.loop-run._run) (sym c.self-in-loop-run.view_is) c.loop-run.invariant in
    let set : IsSet (shape_of now.app) now.pending = record { priorities = c.self-in-loop-run.invariant.priorities; waits = c.self-in-loop-run.invariant.waits } in
    let last = c.budget-run-end.ensures ∙ ap (λ (a : Held). a.budget) (c.deref.ensures ∙ ap (λ (w : Working). w.app) c.self.view_is) in
    let fewer : c.loop-run._run < (shape_of old.app).budget = (let test = c.loop-run-test.true in omega (test, last, arith)) in
    let p = err_from_is_err_and c.from_residual.result c.from_residual.ensures.1 in
    subst (λ r. Passes g.A.Asker.follows g.A.Asker.out (flush (shape_of old.app)) old c.make_run.new.self c.args.asker.now c.make_run.new.asker c.args.steps.now c.make_run.new.steps r) (sym p.1)
    (passes_memory g.A.Asker.follows g.A.Asker.out g.met.A.Asker.chains old now (with_waits c.next.new.self now) c.make_run.new.self c.args.asker.now c.loop-run.asker c.make_run.new.asker
    c.args.steps.now c.loop-run.steps c.make_run.new.steps c.loop-run._run c.in-Some.n goes fewer set c.in-Some.ensures.some c.next.new.self refl c.in_err-why.field-0.0 p.0 c.in_err-why.ensures)

pub returns-in-Some-2 : goal.returns-in-Some-2
returns-in-Some-2 g c =
    let old = c.args.self.now in
    let now : Working = the_view c.self-in-loop-run.inside in
    let goes : Goes g.A.Asker.follows g.A.Asker.out old now c.args.asker.now c.loop-run.asker c.args.steps.now c.loop-run.steps c.loop-run._run =
    subst (λ (w : Working). Goes g.A.Asker.follows g.A.Asker.out old w c.args.asker.now c.loop-run.asker c.args.steps.now c.loop-run.steps c.loop-run._run) (sym c.self-in-loop-run.view_is) c.loop-run.invariant in
    let set : IsSet (shape_of now.app) now.pending = record { priorities = c.self-in-loop-run.invariant.priorities; waits = c.self-in-loop-run.invariant.waits } in
    let last = c.budget-run-end.ensures ∙ ap (λ (a : Held). a.budget) (c.deref.ensures ∙ ap (λ (w : Working). w.app) c.self.view_is) in
    let fewer : c.loop-run._run < (shape_of old.app).budget = (let test = c.loop-run-test.true in omega (test, last, arith)) in
    passes_failure g.A.Asker.follows g.A.Asker.out g.met.A.Asker.chains old now (with_waits c.next.new.self now) c.make_run.new.self c.args.asker.now c.loop-run.asker c.make_run.new.asker
    c.args.steps.now c.loop-run.steps c.make_run.new.steps c.loop-run._run c.in-Some.n goes fewer set c.in-Some.ensures.some c.next.new.self refl c.in-Some-2.why c.in_ok-why.field-0 c.in-Some-2.is c.in_ok-why.ensures

pub loop-run-preserved : goal.loop-run-preserved
loop-run-preserved g c =
    let old = c.args.self.now in
    let now : Working = the_view c.self-in-loop-run.inside in
    let goes : Goes g.A.Asker.follows g.A.Asker.out old now c.args.asker.now c.loop-run.asker c.args.steps.now c.loop-run.steps c.loop-run._run =
    subst (λ (w : Working). Goes g.A.Asker.follows g.A.Asker.out old w c.args.asker.now c.loop-run.asker c.args.steps.now c.loop-run.steps c.loop-run._run) (sym c.self-in-loop-run.view_is) c.loop-run.invariant in
    let set : IsSet (shape_of now.app) now.pending = record { priorities = c.self-in-loop-run.invariant.priorities; waits = c.self-in-loop-run.invariant.waits } in
    let last = c.budget-run-end.ensures ∙ ap (λ (a : Held). a.budget) (c.deref.ensures ∙ ap (λ (w : Working). w.app) c.self.view_is) in
    let fewer : c.loop-run._run < (shape_of old.app).budget = (let test = c.loop-run-test.true in omega (test, last, arith)) in
    goes_on g.A.Asker.follows g.A.Asker.out g.met.A.Asker.chains old now (with_waits c.next.new.self now) c.make_run.new.self c.args.asker.now c.loop-run.asker c.make_run.new.asker
    c.args.steps.now c.loop-run.steps c.make_run.new.steps c.loop-run._run c.in-Some.n goes fewer set c.in-Some.ensures.some c.next.new.self refl c.in_ok-why.field-0 c.in_default-2.is c.in_ok-why.ensures

pub returns : goal.returns
returns g c =
    let old = c.args.self.now in
    let now : Working = the_view c.self-2.inside in
    let goes : Goes g.A.Asker.follows g.A.Asker.out old now c.args.asker.now c.loop-run.asker c.args.steps.now c.loop-run.steps c.loop-run._run =
    subst (λ (w : Working). Goes g.A.Asker.follows g.A.Asker.out old w c.args.asker.now c.loop-run.asker c.args.steps.now c.loop-run.steps c.loop-run._run) (sym c.self-2.view_is) c.loop-run.invariant in
    let set : IsSet (shape_of now.app) now.pending = record { priorities = c.self-2.invariant.priorities; waits = c.self-2.invariant.waits } in
    let last = c.budget-run-end.ensures ∙ ap (λ (a : Held). a.budget) (c.deref.ensures ∙ ap (λ (w : Working). w.app) c.self.view_is) in
    let all : c.loop-run._run ≡ (shape_of old.app).budget = (let test = c.loop-run-test.false in let most = c.loop-run.auto._run-end in omega (test, most, last, arith)) in
    elim c.match-next-2.branch [
      | in-Some-next w ↦
          subst (Passes g.A.Asker.follows g.A.Asker.out (flush (shape_of old.app)) old (with_waits c.next-2.new.self now) c.args.asker.now c.loop-run.asker c.args.steps.now c.loop-run.steps) (sym w.result-is)
          (passes_spent g.A.Asker.follows g.A.Asker.out old now c.args.asker.now c.loop-run.asker c.args.steps.now c.loop-run.steps c.loop-run._run goes set _ c.next-2.new.self all w.in-Some-next.ensures.some)
      | in-None w ↦
          subst (Passes g.A.Asker.follows g.A.Asker.out (flush (shape_of old.app)) old (with_waits c.next-2.new.self now) c.args.asker.now c.loop-run.asker c.args.steps.now c.loop-run.steps) (sym w.result-is)
          (subst (λ p. Passes g.A.Asker.follows g.A.Asker.out (flush (shape_of old.app)) old (with_waits p now) c.args.asker.now c.loop-run.asker c.args.steps.now c.loop-run.steps (Ok end.Done)) (sym w.in-None.ensures.after)
          (passes_done g.A.Asker.follows g.A.Asker.out old now c.args.asker.now c.loop-run.asker c.args.steps.now c.loop-run.steps c.loop-run._run goes set w.in-None.ensures.none))
    ]
