use Rattle.std.proofs.Common.{◌≡◌, suc, ◌+◌, ◌*◌, ◌<◌, None, refl, sym, ap, ◌∙◌, subst, arith}
use Rattle.app_tree.specs.Held.{Held}
use Rattle.app_tree.specs.View.{shape_of}
use Rattle.app_tree.specs.Numbering.{reader}
use Rattle.rx_value.specs.declared.key.Key.{Key}
use Rattle.app_tree.specs.Cover.{keyed_outcome}
use Rattle.term_eval.specs.Bodies.{IsCached, IsUncached}
use Rattle.term_eval.specs.Lent.{number_out, IsOut, without}
use Rattle.term_eval.proofs.LentOut.{last_is_out, last_taken_off}
use Rattle.std.proofs.lemmas.Result.{err_from_is_err_and}
use Rattle.session_steps.specs.Bringing.{running}
use Rattle.react_session.specs.declared.attempt.KeysTried.TheVariants as keys
use Rattle.react_session.specs.inner.Making.{bound_at, dead_below, MayRun, IsReady, Makes}
use Rattle.react_session.specs.inner.Tries.{TriesKeys}
use Rattle.react_session.proofs.Ended.{Ended, plain_ended, keys_ended, body_ended, body_keyed}
use Rattle.react_session.proofs.Waited.{plain_waits, keys_wait, body_waits, waited}
use Rattle.react_session.proofs.LeavesOut.{free_above, may_claimed, hit_now}
use Rattle.react_session.proofs.Made.{may_lower, may_still, may_still_behind, from_start, made_living, made_dead, made_lost, made_ended, made_later, made_waits, made_within, less_left, later_left}
use Rattle.react_session.proofs.session.Session.+force.Goals as goal

-- ---- an expression is made alive

pub settle-returns-then-alive : goal.settle-returns-then-alive
settle-returns-then-alive g t c =
    made_living g.A.Asker.follows g.A.Asker.out c.args.n c.args.self.now c.args.asker.now c.args.steps.now _ c.requires.may.found
    (sym c.alive.ensures ∙ c.if-alive.true) (g.met.A.Asker.stays c.args.asker.now)

pub settle-returns : goal.settle-returns
settle-returns g t c =
    made_dead g.A.Asker.follows g.A.Asker.out (g.A.Asker.out c.args.asker.now) c.args.n c.args.self.now c.run.new.self c.args.asker.now c.run.new.asker
    c.args.steps.now c.run.new.steps c.run.result (sym c.alive.ensures ∙ c.if-alive.false) c.run.ensures

-- ---- a reader without keys

pub run_plain-store-requires-clause-reached : goal.run_plain-store-requires-clause-reached
run_plain-store-requires-clause-reached g t c =
    let app = shape_of c.args.self.now.app in
    let n = c.args.n in
    let s = c.args.self.now.session in
    let ready = c.requires.ready in
    let run = c.requires.run in
    (subst (λ l. Ended app n s 1 l c.in-Done.ran.isolated c.in-Done.ran.outcome) (sym c.as_slice.ensures) (plain_ended app n s ready run c.requires.uncached c.in-Done.ran c.in-Done.ensures.tries)).reached

pub run_plain-store-requires-clause-stands : goal.run_plain-store-requires-clause-stands
run_plain-store-requires-clause-stands g t c =
    let app = shape_of c.args.self.now.app in
    let n = c.args.n in
    let s = c.args.self.now.session in
    let ready = c.requires.ready in
    let run = c.requires.run in
    (subst (λ l. Ended app n s 1 l c.in-Done.ran.isolated c.in-Done.ran.outcome) (sym c.as_slice.ensures) (plain_ended app n s ready run c.requires.uncached c.in-Done.ran c.in-Done.ensures.tries)).stands

pub run_plain-settle-requires : goal.run_plain-settle-requires
run_plain-settle-requires g t c κs within =
    let app = shape_of c.args.self.now.app in
    let n = c.args.n in
    let s = c.args.self.now.session in
    let ready = c.requires.ready in
    let run = c.requires.run in
    let w = plain_waits app n s ready run c.in-Wants.m c.in-Wants.ensures.tries in
    let below = w.below in (
      less_left t (dead_below (bound_at app n) s) (dead_below (bound_at app c.in-Wants.m) s) 3 5 c.decreases w.fewer (omega arith),
      (
        within.0,
        (
          within.1.0,
          (within.1.1, (w.expression, may_lower app c.args.self.now.whole (g.A.Asker.app c.args.asker.now) (suc (bound_at app c.in-Wants.m)) (suc (bound_at app n)) (g.A.Asker.out c.args.asker.now) (omega (below, arith)) c.requires.may)),
        ),
      ),
    )

pub run_plain-returns-in_err-settle-in-Wants : goal.run_plain-returns-in_err-settle-in-Wants
run_plain-returns-in_err-settle-in-Wants g t c =
    let app = shape_of c.args.self.now.app in
    let n = c.args.n in
    let s = c.args.self.now.session in
    let ready = c.requires.ready in
    let run = c.requires.run in
    let w = plain_waits app n s ready run c.in-Wants.m c.in-Wants.ensures.tries in
    let p = err_from_is_err_and c.from_residual.result c.from_residual.ensures.1 in
    subst (Makes g.A.Asker.follows g.A.Asker.out (g.A.Asker.out c.args.asker.now) running n c.args.self.now c.settle.new.self c.args.asker.now c.settle.new.asker c.args.steps.now c.settle.new.steps) (sym p.1)
    (made_within g.A.Asker.follows g.A.Asker.out g.met.A.Asker.chains (g.A.Asker.out c.args.asker.now) (g.A.Asker.out c.args.asker.now) n c.in-Wants.m c.args.self.now c.settle.new.self
    c.args.asker.now c.settle.new.asker c.settle.new.asker c.args.steps.now c.settle.new.steps _ p.0 w.wants (from_start g.A.Asker.follows g.A.Asker.out c.args.steps.now c.try_body.new.steps c.in-Wants.ensures.counts c.in_err-settle-in-Wants.ensures) (g.met.A.Asker.stays c.settle.new.asker) c.in_err-settle-in-Wants.ensures.leaves)

pub run_plain-run_plain-requires : goal.run_plain-run_plain-requires
run_plain-run_plain-requires g t c κs within =
    let app = shape_of c.args.self.now.app in
    let n = c.args.n in
    let s = c.args.self.now.session in
    let ready = c.requires.ready in
    let run = c.requires.run in
    let w = plain_waits app n s ready run c.in-Wants.m c.in-Wants.ensures.tries in
    let f = c.in_ok-settle-in-Wants.ensures in
    let v = waited app n s ready run c.in-Wants.m c.settle.new.self.session f.comes.bodies w f.comes.brings in
    let still = sym f.app in (
      subst (λ (h : Held). 6 * dead_below (bound_at (shape_of h) n) c.settle.new.self.session + 3 < t) still
          (less_left t (dead_below (bound_at app n) s) (dead_below (bound_at app n) c.settle.new.self.session) 3 3 c.decreases v.fewer (omega arith)),
      (
        within.0,
        (
          within.1.0,
          (
            within.1.1,
            (
              may_still app (shape_of c.settle.new.self.app) c.args.self.now.whole c.settle.new.self.whole (g.A.Asker.app c.args.asker.now) (g.A.Asker.app c.settle.new.asker) n
                  (g.A.Asker.out c.args.asker.now) (g.A.Asker.out c.settle.new.asker) (ap shape_of f.app) f.whole (g.met.A.Asker.same_app c.args.asker.now c.settle.new.asker f.succeeds) f.leaves c.requires.may,
              (
                subst (λ (h : Held). MayRun (shape_of h) n c.settle.new.self.session) still v.run,
                (
                  subst (λ (h : Held). IsReady (shape_of h) c.settle.new.self.session) still v.ready,
                  subst (λ (h : Held). IsUncached (reader (shape_of h) n)) still c.requires.uncached,
                ),
              ),
            ),
          ),
        ),
      ),
    )

pub run_plain-returns-in_ok-settle-in-Wants : goal.run_plain-returns-in_ok-settle-in-Wants
run_plain-returns-in_ok-settle-in-Wants g t c =
    let app = shape_of c.args.self.now.app in
    let n = c.args.n in
    let s = c.args.self.now.session in
    let ready = c.requires.ready in
    let run = c.requires.run in
    let w = plain_waits app n s ready run c.in-Wants.m c.in-Wants.ensures.tries in
    let f = from_start g.A.Asker.follows g.A.Asker.out c.args.steps.now c.try_body.new.steps c.in-Wants.ensures.counts c.in_ok-settle-in-Wants.ensures in
    made_waits g.A.Asker.follows g.A.Asker.out g.met.A.Asker.chains (g.A.Asker.out c.args.asker.now) (g.A.Asker.out c.args.asker.now) n c.in-Wants.m c.args.self.now c.settle.new.self c.run_plain.new.self
    c.args.asker.now c.settle.new.asker c.run_plain.new.asker c.args.steps.now c.settle.new.steps c.run_plain.new.steps _ c.run_plain.result w.wants f
    (subst (λ l. Makes g.A.Asker.follows g.A.Asker.out l running n c.settle.new.self c.run_plain.new.self c.settle.new.asker c.run_plain.new.asker c.settle.new.steps c.run_plain.new.steps c.run_plain.result) f.leaves c.run_plain.ensures)

pub run_plain-returns-in-Done : goal.run_plain-returns-in-Done
run_plain-returns-in-Done g t c =
    let app = shape_of c.args.self.now.app in
    let n = c.args.n in
    let s = c.args.self.now.session in
    let ready = c.requires.ready in
    let run = c.requires.run in
    made_ended g.A.Asker.follows g.A.Asker.out (g.A.Asker.out c.args.asker.now) n c.args.self.now c.store.new.self c.args.asker.now c.args.asker.now c.args.steps.now c.try_body.new.steps 1
    c.as_slice.result.now c.in-Done.ran.isolated c.in-Done.ran.outcome c.store.result (subst (λ l. Ended app n s 1 l c.in-Done.ran.isolated c.in-Done.ran.outcome) (sym c.as_slice.ensures) (plain_ended app n s ready run c.requires.uncached c.in-Done.ran c.in-Done.ensures.tries))
    c.store.ensures.app c.store.ensures.stored c.store.ensures.whole c.store.ensures.lost c.store.ensures.broken (g.met.A.Asker.stays c.args.asker.now) refl c.in-Done.ensures.counts

pub run_plain-returns-in-Memory : goal.run_plain-returns-in-Memory
run_plain-returns-in-Memory g t c =
    made_lost g.A.Asker.follows g.A.Asker.out (g.A.Asker.out c.args.asker.now) c.args.n c.args.self.now c.lose.new.self c.args.asker.now c.args.asker.now c.args.steps.now _
    c.lose.ensures.app c.lose.ensures.session c.lose.ensures.whole (g.met.A.Asker.stays c.args.asker.now) refl c.try_body.new.steps (c.in-Memory.ensures.counts ∙ omega arith)

-- ---- a reader with keys

pub run_keyed-store-requires-clause-reached : goal.run_keyed-store-requires-clause-reached
run_keyed-store-requires-clause-reached g t c =
    let app = shape_of c.args.self.now.app in
    let n = c.args.n in
    let s = c.args.self.now.session in
    let ready = c.requires.ready in
    let run = c.requires.run in
    (subst (λ l. Ended app n s 0 l c.in-Fails.ran.isolated c.in-Fails.ran.outcome) (sym c.as_slice.ensures) (keys_ended app n s ready run c.requires.cached c.in-Fails.ran c.in-Fails.ensures)).reached

pub run_keyed-store-requires-clause-stands : goal.run_keyed-store-requires-clause-stands
run_keyed-store-requires-clause-stands g t c =
    let app = shape_of c.args.self.now.app in
    let n = c.args.n in
    let s = c.args.self.now.session in
    let ready = c.requires.ready in
    let run = c.requires.run in
    (subst (λ l. Ended app n s 0 l c.in-Fails.ran.isolated c.in-Fails.ran.outcome) (sym c.as_slice.ensures) (keys_ended app n s ready run c.requires.cached c.in-Fails.ran c.in-Fails.ensures)).stands

pub run_keyed-settle-requires : goal.run_keyed-settle-requires
run_keyed-settle-requires g t c κs within =
    let app = shape_of c.args.self.now.app in
    let n = c.args.n in
    let s = c.args.self.now.session in
    let ready = c.requires.ready in
    let run = c.requires.run in
    let w = keys_wait app n s ready run c.in-Wants.m c.requires.cached c.in-Wants.ensures in
    let below = w.below in (
      less_left t (dead_below (bound_at app n) s) (dead_below (bound_at app c.in-Wants.m) s) 3 5 c.decreases w.fewer (omega arith),
      (
        within.0,
        (
          within.1.0,
          (within.1.1, (w.expression, may_lower app c.args.self.now.whole (g.A.Asker.app c.args.asker.now) (suc (bound_at app c.in-Wants.m)) (suc (bound_at app n)) (g.A.Asker.out c.args.asker.now) (omega (below, arith)) c.requires.may)),
        ),
      ),
    )

pub run_keyed-returns-in_err-settle-in-Wants : goal.run_keyed-returns-in_err-settle-in-Wants
run_keyed-returns-in_err-settle-in-Wants g t c =
    let app = shape_of c.args.self.now.app in
    let n = c.args.n in
    let s = c.args.self.now.session in
    let ready = c.requires.ready in
    let run = c.requires.run in
    let w = keys_wait app n s ready run c.in-Wants.m c.requires.cached c.in-Wants.ensures in
    let p = err_from_is_err_and c.from_residual.result c.from_residual.ensures.1 in
    subst (Makes g.A.Asker.follows g.A.Asker.out (g.A.Asker.out c.args.asker.now) running n c.args.self.now c.settle.new.self c.args.asker.now c.settle.new.asker c.args.steps.now c.settle.new.steps) (sym p.1)
    (made_within g.A.Asker.follows g.A.Asker.out g.met.A.Asker.chains (g.A.Asker.out c.args.asker.now) (g.A.Asker.out c.args.asker.now) n c.in-Wants.m c.args.self.now c.settle.new.self
    c.args.asker.now c.settle.new.asker c.settle.new.asker c.args.steps.now c.settle.new.steps _ p.0 w.wants c.in_err-settle-in-Wants.ensures (g.met.A.Asker.stays c.settle.new.asker) c.in_err-settle-in-Wants.ensures.leaves)

pub run_keyed-run_keyed-requires : goal.run_keyed-run_keyed-requires
run_keyed-run_keyed-requires g t c κs within =
    let app = shape_of c.args.self.now.app in
    let n = c.args.n in
    let s = c.args.self.now.session in
    let ready = c.requires.ready in
    let run = c.requires.run in
    let w = keys_wait app n s ready run c.in-Wants.m c.requires.cached c.in-Wants.ensures in
    let f = c.in_ok-settle-in-Wants.ensures in
    let v = waited app n s ready run c.in-Wants.m c.settle.new.self.session f.comes.bodies w f.comes.brings in
    let still = sym f.app in (
      subst (λ (h : Held). 6 * dead_below (bound_at (shape_of h) n) c.settle.new.self.session + 3 < t) still
          (less_left t (dead_below (bound_at app n) s) (dead_below (bound_at app n) c.settle.new.self.session) 3 3 c.decreases v.fewer (omega arith)),
      (
        within.0,
        (
          within.1.0,
          (
            within.1.1,
            (
              may_still app (shape_of c.settle.new.self.app) c.args.self.now.whole c.settle.new.self.whole (g.A.Asker.app c.args.asker.now) (g.A.Asker.app c.settle.new.asker) n
                  (g.A.Asker.out c.args.asker.now) (g.A.Asker.out c.settle.new.asker) (ap shape_of f.app) f.whole (g.met.A.Asker.same_app c.args.asker.now c.settle.new.asker f.succeeds) f.leaves c.requires.may,
              (
                subst (λ (h : Held). MayRun (shape_of h) n c.settle.new.self.session) still v.run,
                (
                  subst (λ (h : Held). IsReady (shape_of h) c.settle.new.self.session) still v.ready,
                  subst (λ (h : Held). IsCached (reader (shape_of h) n)) still c.requires.cached,
                ),
              ),
            ),
          ),
        ),
      ),
    )

pub run_keyed-returns-in_ok-settle-in-Wants : goal.run_keyed-returns-in_ok-settle-in-Wants
run_keyed-returns-in_ok-settle-in-Wants g t c =
    let app = shape_of c.args.self.now.app in
    let n = c.args.n in
    let s = c.args.self.now.session in
    let ready = c.requires.ready in
    let run = c.requires.run in
    let w = keys_wait app n s ready run c.in-Wants.m c.requires.cached c.in-Wants.ensures in
    let f = c.in_ok-settle-in-Wants.ensures in
    made_waits g.A.Asker.follows g.A.Asker.out g.met.A.Asker.chains (g.A.Asker.out c.args.asker.now) (g.A.Asker.out c.args.asker.now) n c.in-Wants.m c.args.self.now c.settle.new.self c.run_keyed.new.self
    c.args.asker.now c.settle.new.asker c.run_keyed.new.asker c.args.steps.now c.settle.new.steps c.run_keyed.new.steps _ c.run_keyed.result w.wants f
    (subst (λ l. Makes g.A.Asker.follows g.A.Asker.out l running n c.settle.new.self c.run_keyed.new.self c.settle.new.asker c.run_keyed.new.asker c.settle.new.steps c.run_keyed.new.steps c.run_keyed.result) f.leaves c.run_keyed.ensures)

pub run_keyed-returns-in-Fails : goal.run_keyed-returns-in-Fails
run_keyed-returns-in-Fails g t c =
    let app = shape_of c.args.self.now.app in
    let n = c.args.n in
    let s = c.args.self.now.session in
    let ready = c.requires.ready in
    let run = c.requires.run in
    made_ended g.A.Asker.follows g.A.Asker.out (g.A.Asker.out c.args.asker.now) n c.args.self.now c.store.new.self c.args.asker.now c.args.asker.now c.args.steps.now c.args.steps.now 0
    c.as_slice.result.now c.in-Fails.ran.isolated c.in-Fails.ran.outcome c.store.result (subst (λ l. Ended app n s 0 l c.in-Fails.ran.isolated c.in-Fails.ran.outcome) (sym c.as_slice.ensures) (keys_ended app n s ready run c.requires.cached c.in-Fails.ran c.in-Fails.ensures))
    c.store.ensures.app c.store.ensures.stored c.store.ensures.whole c.store.ensures.lost c.store.ensures.broken (g.met.A.Asker.stays c.args.asker.now) refl (omega arith)

pub run_keyed-returns-in-Memory : goal.run_keyed-returns-in-Memory
run_keyed-returns-in-Memory g t c =
    made_lost g.A.Asker.follows g.A.Asker.out (g.A.Asker.out c.args.asker.now) c.args.n c.args.self.now c.lose.new.self c.args.asker.now c.args.asker.now c.args.steps.now _
    c.lose.ensures.app c.lose.ensures.session c.lose.ensures.whole (g.met.A.Asker.stays c.args.asker.now) refl c.args.steps.now (refl)

-- ---- a cache is asked

pub ask-claim-requires : goal.ask-claim-requires
ask-claim-requires g t c =
    free_above (shape_of c.args.self.now.app) c.args.n c.args.key (g.A.Asker.out c.args.asker.now) c.requires.keyed.1 c.requires.may.above

pub ask-keep_cached-requires-clause-reached : goal.ask-keep_cached-requires-clause-reached
ask-keep_cached-requires-clause-reached g t c =
    let app = shape_of c.args.self.now.app in
    let n = c.args.n in
    let s = c.args.self.now.session in
    let ready = c.requires.ready in
    let run = c.requires.run in
    (hit_now app n s ready run c.requires.cached c.args.key c.args.notes c.requires.keyed (g.A.Asker.app c.args.asker.now) c.in-Hit.outcome c.requires.may.of_app c.in-Hit.ensures.gives.0).reached

pub ask-keep_cached-requires-clause-stands : goal.ask-keep_cached-requires-clause-stands
ask-keep_cached-requires-clause-stands g t c =
    let app = shape_of c.args.self.now.app in
    let n = c.args.n in
    let s = c.args.self.now.session in
    let ready = c.requires.ready in
    let run = c.requires.run in
    (hit_now app n s ready run c.requires.cached c.args.key c.args.notes c.requires.keyed (g.A.Asker.app c.args.asker.now) c.in-Hit.outcome c.requires.may.of_app c.in-Hit.ensures.gives.0).stands

pub ask-returns-in-Hit : goal.ask-returns-in-Hit
ask-returns-in-Hit g t c =
    let app = shape_of c.args.self.now.app in
    let n = c.args.n in
    let s = c.args.self.now.session in
    let ready = c.requires.ready in
    let run = c.requires.run in
    made_ended g.A.Asker.follows g.A.Asker.out (g.A.Asker.out c.args.asker.now) n c.args.self.now c.keep_cached.new.self c.args.asker.now c.claim.new.self c.args.steps.now c.args.steps.now 0
    c.args.notes.reached c.args.notes.isolated _ c.keep_cached.result (hit_now app n s ready run c.requires.cached c.args.key c.args.notes c.requires.keyed (g.A.Asker.app c.args.asker.now) c.in-Hit.outcome c.requires.may.of_app c.in-Hit.ensures.gives.0)
    c.keep_cached.ensures.app c.keep_cached.ensures.stored c.keep_cached.ensures.whole c.keep_cached.ensures.lost c.keep_cached.ensures.broken c.in-Hit.ensures.follows c.in-Hit.ensures.gives.1 (omega arith)

pub ask-run_claimed-requires : goal.ask-run_claimed-requires
ask-run_claimed-requires g t c κs within =
    let app = shape_of c.args.self.now.app in
    let n = c.args.n in
    let s = c.args.self.now.session in
    let ready = c.requires.ready in
    let run = c.requires.run in
    let lent = g.A.Asker.lent c.in-Go.leave in
    let is = c.in-Go.ensures.gives.0 in
    let free = free_above app n c.args.key (g.A.Asker.out c.args.asker.now) c.requires.keyed.1 c.requires.may.above in (
      later_left t (dead_below (bound_at app n) s) 2 1 c.decreases (omega arith),
      (
        within.0,
        (
          within.1.0,
          (
            within.1.1,
            (
              may_claimed app (g.A.Asker.app c.args.asker.now) (g.A.Asker.app c.claim.new.self) c.args.self.now.whole n lent (g.A.Asker.out c.args.asker.now) (g.A.Asker.out c.claim.new.self)
                  (g.met.A.Asker.same_app c.args.asker.now c.claim.new.self c.in-Go.ensures.follows) (ap (λ (k : Key). k.node) is ∙ c.requires.keyed.1) c.in-Go.ensures.gives.1 c.requires.may,
              (
                run,
                (
                  ready,
                  (
                    c.requires.cached,
                    (
                      subst (λ (k : Key). TriesKeys app s n (keys.Key k c.args.notes)) (sym is) c.requires.keyed,
                      subst (IsOut lent) (sym c.in-Go.ensures.gives.1) (last_is_out lent (g.A.Asker.out c.args.asker.now) (subst (λ (k : Key). number_out k (g.A.Asker.out c.args.asker.now) ≡ None) (sym is) free)),
                    ),
                  ),
                ),
              ),
            ),
          ),
        ),
      ),
    )

pub ask-returns-in-Go : goal.ask-returns-in-Go
ask-returns-in-Go g t c =
    let app = shape_of c.args.self.now.app in
    let n = c.args.n in
    let s = c.args.self.now.session in
    let ready = c.requires.ready in
    let run = c.requires.run in
    let lent = g.A.Asker.lent c.in-Go.leave in
    let free = free_above app n c.args.key (g.A.Asker.out c.args.asker.now) c.requires.keyed.1 c.requires.may.above in
    let back : without lent.key (g.A.Asker.out c.claim.new.self) ≡ g.A.Asker.out c.args.asker.now =
    ap (without lent.key) c.in-Go.ensures.gives.1
    ∙ last_taken_off lent (g.A.Asker.out c.args.asker.now) (subst (λ (k : Key). number_out k (g.A.Asker.out c.args.asker.now) ≡ None) (sym c.in-Go.ensures.gives.0) free) in
    made_later g.A.Asker.follows g.A.Asker.out g.met.A.Asker.chains (g.A.Asker.out c.args.asker.now) _ n c.args.self.now c.run_claimed.new.self c.args.asker.now c.claim.new.self c.run_claimed.new.asker
    c.args.steps.now c.run_claimed.new.steps c.run_claimed.result c.in-Go.ensures.follows
    (subst (λ l. Makes g.A.Asker.follows g.A.Asker.out l running n c.args.self.now c.run_claimed.new.self c.claim.new.self c.run_claimed.new.asker c.args.steps.now c.run_claimed.new.steps c.run_claimed.result) back c.run_claimed.ensures)

pub ask-returns : goal.ask-returns
ask-returns g t c =
    made_lost g.A.Asker.follows g.A.Asker.out (g.A.Asker.out c.args.asker.now) c.args.n c.args.self.now c.lose.new.self c.args.asker.now c.claim.new.self c.args.steps.now _
    c.lose.ensures.app c.lose.ensures.session c.lose.ensures.whole c.in-Memory.ensures.follows c.in-Memory.ensures.gives c.args.steps.now refl

-- ---- with a Leave

pub run_claimed-fill-requires-clause-keyed : goal.run_claimed-fill-requires-clause-keyed
run_claimed-fill-requires-clause-keyed g t c =
    let app = shape_of c.args.self.now.app in
    let n = c.args.n in
    let s = c.args.self.now.session in
    let ready = c.requires.ready in
    let run = c.requires.run in
    body_keyed app n s ready run c.requires.cached (g.A.Asker.lent c.args.leave).key c.args.notes c.requires.keyed c.in-Done.outcome c.in-Done.ensures.tries
    ∙ (λ j. keyed_outcome (sym c.requires.may.of_app j) (sym c.requires.keyed.1 j) (g.A.Asker.lent c.args.leave).key.parts)

pub run_claimed-keep_cached-requires-clause-reached : goal.run_claimed-keep_cached-requires-clause-reached
run_claimed-keep_cached-requires-clause-reached g t c =
    let app = shape_of c.args.self.now.app in
    let n = c.args.n in
    let s = c.args.self.now.session in
    let ready = c.requires.ready in
    let run = c.requires.run in
    (body_ended app n s ready run c.requires.cached (g.A.Asker.lent c.args.leave).key c.args.notes c.requires.keyed c.in-Done.outcome c.in-Done.ensures.tries).reached

pub run_claimed-keep_cached-requires-clause-stands : goal.run_claimed-keep_cached-requires-clause-stands
run_claimed-keep_cached-requires-clause-stands g t c =
    let app = shape_of c.args.self.now.app in
    let n = c.args.n in
    let s = c.args.self.now.session in
    let ready = c.requires.ready in
    let run = c.requires.run in
    (body_ended app n s ready run c.requires.cached (g.A.Asker.lent c.args.leave).key c.args.notes c.requires.keyed c.in-Done.outcome c.in-Done.ensures.tries).stands

pub run_claimed-settle-requires : goal.run_claimed-settle-requires
run_claimed-settle-requires g t c κs within =
    let app = shape_of c.args.self.now.app in
    let n = c.args.n in
    let s = c.args.self.now.session in
    let ready = c.requires.ready in
    let run = c.requires.run in
    let w = body_waits app n s ready run c.in-Wants.m (g.A.Asker.lent c.args.leave).key c.args.notes c.requires.cached c.requires.keyed c.in-Wants.ensures.tries in
    let below = w.below in (
      less_left t (dead_below (bound_at app n) s) (dead_below (bound_at app c.in-Wants.m) s) 1 5 c.decreases w.fewer (omega arith),
      (
        within.0,
        (
          within.1.0,
          (within.1.1, (w.expression, may_lower app c.args.self.now.whole (g.A.Asker.app c.args.asker.now) (suc (bound_at app c.in-Wants.m)) (bound_at app n) (g.A.Asker.out c.args.asker.now) (omega (below, arith)) c.requires.may)),
        ),
      ),
    )

pub run_claimed-run_claimed-requires : goal.run_claimed-run_claimed-requires
run_claimed-run_claimed-requires g t c κs within =
    let app = shape_of c.args.self.now.app in
    let n = c.args.n in
    let s = c.args.self.now.session in
    let ready = c.requires.ready in
    let run = c.requires.run in
    let w = body_waits app n s ready run c.in-Wants.m (g.A.Asker.lent c.args.leave).key c.args.notes c.requires.cached c.requires.keyed c.in-Wants.ensures.tries in
    let f = c.in-Ok.ensures in
    let v = waited app n s ready run c.in-Wants.m c.settle.new.self.session f.comes.bodies w f.comes.brings in
    let still = sym f.app in (
      subst (λ (h : Held). 6 * dead_below (bound_at (shape_of h) n) c.settle.new.self.session + 1 < t) still
          (less_left t (dead_below (bound_at app n) s) (dead_below (bound_at app n) c.settle.new.self.session) 1 1 c.decreases v.fewer (omega arith)),
      (
        within.0,
        (
          within.1.0,
          (
            within.1.1,
            (
              may_still_behind app (shape_of c.settle.new.self.app) c.args.self.now.whole c.settle.new.self.whole (g.A.Asker.app c.args.asker.now) (g.A.Asker.app c.settle.new.asker) n
                  (g.A.Asker.out c.args.asker.now) (g.A.Asker.out c.settle.new.asker) (ap shape_of f.app) f.whole (g.met.A.Asker.same_app c.args.asker.now c.settle.new.asker f.succeeds) f.leaves c.requires.may,
              (
                subst (λ (h : Held). MayRun (shape_of h) n c.settle.new.self.session) still v.run,
                (
                  subst (λ (h : Held). IsReady (shape_of h) c.settle.new.self.session) still v.ready,
                  (
                    subst (λ (h : Held). IsCached (reader (shape_of h) n)) still c.requires.cached,
                    (
                      subst (λ (h : Held). TriesKeys (shape_of h) c.settle.new.self.session n (keys.Key (g.A.Asker.lent c.args.leave).key c.args.notes)) still
                          (v.keeps (g.A.Asker.lent c.args.leave).key c.args.notes c.requires.cached c.requires.keyed),
                      subst (IsOut (g.A.Asker.lent c.args.leave)) (sym f.leaves) c.requires.out,
                    ),
                  ),
                ),
              ),
            ),
          ),
        ),
      ),
    )

pub run_claimed-returns-in-Done : goal.run_claimed-returns-in-Done
run_claimed-returns-in-Done g t c =
    let app = shape_of c.args.self.now.app in
    let n = c.args.n in
    let s = c.args.self.now.session in
    let ready = c.requires.ready in
    let run = c.requires.run in
    made_ended g.A.Asker.follows g.A.Asker.out (without (g.A.Asker.lent c.args.leave).key (g.A.Asker.out c.args.asker.now)) n c.args.self.now c.keep_cached.new.self c.args.asker.now c.fill.new.self
    c.args.steps.now c.try_cached_body.new.steps 1 c.args.notes.reached c.args.notes.isolated _ c.keep_cached.result (body_ended app n s ready run c.requires.cached (g.A.Asker.lent c.args.leave).key c.args.notes c.requires.keyed c.in-Done.outcome c.in-Done.ensures.tries)
    c.keep_cached.ensures.app c.keep_cached.ensures.stored c.keep_cached.ensures.whole c.keep_cached.ensures.lost c.keep_cached.ensures.broken c.fill.ensures.follows c.fill.ensures.back c.in-Done.ensures.counts

pub run_claimed-returns-in-Ok : goal.run_claimed-returns-in-Ok
run_claimed-returns-in-Ok g t c =
    let app = shape_of c.args.self.now.app in
    let n = c.args.n in
    let s = c.args.self.now.session in
    let ready = c.requires.ready in
    let run = c.requires.run in
    let w = body_waits app n s ready run c.in-Wants.m (g.A.Asker.lent c.args.leave).key c.args.notes c.requires.cached c.requires.keyed c.in-Wants.ensures.tries in
    let f = from_start g.A.Asker.follows g.A.Asker.out c.args.steps.now c.try_cached_body.new.steps c.in-Wants.ensures.counts c.in-Ok.ensures in
    let key = (g.A.Asker.lent c.args.leave).key in
    made_waits g.A.Asker.follows g.A.Asker.out g.met.A.Asker.chains (g.A.Asker.out c.args.asker.now) (without key (g.A.Asker.out c.args.asker.now)) n c.in-Wants.m c.args.self.now c.settle.new.self c.run_claimed.new.self
    c.args.asker.now c.settle.new.asker c.run_claimed.new.asker c.args.steps.now c.settle.new.steps c.run_claimed.new.steps _ c.run_claimed.result w.wants f
    (subst (λ l. Makes g.A.Asker.follows g.A.Asker.out (without key l) running n c.settle.new.self c.run_claimed.new.self c.settle.new.asker c.run_claimed.new.asker c.settle.new.steps c.run_claimed.new.steps c.run_claimed.result) f.leaves c.run_claimed.ensures)

pub run_claimed-returns-in-Err : goal.run_claimed-returns-in-Err
run_claimed-returns-in-Err g t c =
    let app = shape_of c.args.self.now.app in
    let n = c.args.n in
    let s = c.args.self.now.session in
    let ready = c.requires.ready in
    let run = c.requires.run in
    let w = body_waits app n s ready run c.in-Wants.m (g.A.Asker.lent c.args.leave).key c.args.notes c.requires.cached c.requires.keyed c.in-Wants.ensures.tries in
    let f = from_start g.A.Asker.follows g.A.Asker.out c.args.steps.now c.try_cached_body.new.steps c.in-Wants.ensures.counts c.in-Err.ensures in
    let key = (g.A.Asker.lent c.args.leave).key in
    made_within g.A.Asker.follows g.A.Asker.out g.met.A.Asker.chains (g.A.Asker.out c.args.asker.now) (without key (g.A.Asker.out c.args.asker.now)) n c.in-Wants.m c.args.self.now c.settle.new.self
    c.args.asker.now c.settle.new.asker c.abandon.new.self c.args.steps.now c.settle.new.steps _ _ w.wants f c.abandon.ensures.follows (c.abandon.ensures.back ∙ ap (without key) f.leaves)

pub run_claimed-returns-in-Memory : goal.run_claimed-returns-in-Memory
run_claimed-returns-in-Memory g t c =
    made_lost g.A.Asker.follows g.A.Asker.out (without (g.A.Asker.lent c.args.leave).key (g.A.Asker.out c.args.asker.now)) c.args.n c.args.self.now c.lose.new.self c.args.asker.now c.abandon-in-Memory.new.self c.args.steps.now _
    c.lose.ensures.app c.lose.ensures.session c.lose.ensures.whole c.abandon-in-Memory.ensures.follows c.abandon-in-Memory.ensures.back c.try_cached_body.new.steps (c.in-Memory.ensures.counts ∙ omega arith)
