-- What an event's answer says, by what its flush came to and by what is told of it.
use Rattle.std.proofs.Common.{◌≡◌, ◌≢◌, ◌≤◌, ℕ, ◌+◌, Bool, true, false, List, [], ◌++◌, Option, Some, None, Result, refl, sym, ap, ◌∙◌, subst, arith}
use Rattle.std.specs.Prelude.{Ok, Err, OnOk, IfOk, is_some, not, ◌&&◌, ◌||◌}
use Rattle.rx_value.specs.declared.memory.Memory.{Memory}
use Rattle.app_tree.specs.Held.{Held}
use Rattle.app_tree.specs.Tree.{Node, input, value, task, reactive, event, text, plot, observe, on, Shape}
use Rattle.app_tree.specs.Numbering.{readers, reader, is_output, is_evaluated}
use Rattle.app_tree.specs.View.{shape_of}
use Rattle.app_laws.specs.Proper.{IsProper}
use Rattle.session_laws.proofs.Proper.{orderly, covered}
use Rattle.app_laws.proofs.KnownLists.{get_in}
use Rattle.pending_set.specs.Waiting.{Waiting, NoneWaits}
use Rattle.session_model.specs.declared.state.ReaderState.{ReaderState}
use Rattle.session_model.specs.State.{SessionState, first_reader, reader_state, first_state}
use Rattle.session_model.specs.Flush.{is_wanted, next_waiting, FlushEnd, done, budget_spent, observer_failed, FlushResult}
use Rattle.session_model.specs.Standing.{KeptFlush, kept_output, kept_reader, is_live, StandsWholly, missing_readers, first_kept_flush}
use Rattle.session_laws.specs.Sound.{IsRight}
use Rattle.session_laws.proofs.Journeys.{settled_fresh}
use Rattle.session_laws.proofs.Running.{no_expression}
use Rattle.session_laws.proofs.Right.{right_first}
use Rattle.session_laws.proofs.StandingLaws.{first_stands}
use Rattle.term_eval.specs.Lent.{Lent}
use Rattle.flush_cycle.specs.Flushing.{Flushing, most_bodies, stage_after, Stepped, Ends, EndsBy, Flushes, StartsBehind, IfDone, Reports, IfNotMemory, StandsRightly}
use Rattle.flush_cycle.specs.Jobs.{Starts}
use Rattle.flush_cycle.specs.Reports.{made_of, report_of}
use Rattle.flush_cycle.specs.Waits.{is_wanted_at, waits_in, IsSettled}
use Rattle.flush_cycle.specs.declared.report.Report.{Report}
use Rattle.flush_cycle.specs.declared.stage.Stage.{Stage}
use Rattle.flush_cycle.specs.declared.stage.Stage.TheVariants.{New, Open, Over}
use Rattle.flush_cycle.specs.declared.flushed.Flushed.{Flushed}
use Rattle.flush_cycle.specs.declared.flushing.End.{End}
use Rattle.flush_cycle.specs.declared.flushing.End.TheVariants as end
use Rattle.flush_cycle.specs.declared.telling.Told.{Told}
use Rattle.flush_cycle.specs.Working.{Working, KnowsWaiting, IsAtRest}
use Rattle.flush_cycle.specs.inner.Passing.{end_of, is_done, IsQuiet, PassedAnew, PassesAnewIn, PassesAnew, StartsAnew}
use Rattle.flush_cycle.specs.Keeping.{GoesOn, IsKept}
use Rattle.flush_cycle.specs.inner.Telling.{flushed_of, texts_by, Tells, flushed_by, report_by}

-- ---- before the first event

pub first_rightly : (app : Shape) → IsProper app → StandsRightly app (first_kept_flush app)
first_rightly app proper = record {
  state = first_state app;
  stands = first_stands app proper;
  right = right_first app (orderly app proper) (covered app proper);
}

pub begins_rightly : (w : Working) (held : Held) → w.app ≡ held → w.kept ≡ first_kept_flush (shape_of held) → IsProper (shape_of w.app)
    → StandsRightly (shape_of w.app) w.kept
begins_rightly w held app kept proper =
    subst (StandsRightly (shape_of w.app)) (sym (kept ∙ ap (λ (h : Held). first_kept_flush (shape_of h)) (sym app))) (first_rightly (shape_of w.app) proper)

-- ---- stages in which the session goes on

pub new_goes_on : (stage : Stage) → stage ≡ New → stage ≢ Over
new_goes_on stage is over = absurd cc

pub open_goes_on : (stage : Stage) → stage ≡ Open → stage ≢ Over
open_goes_on stage is over = absurd cc

-- ---- where nobody waits

-- who is wanted is said by whether it is shown
wanted_by_shown : (i : Node) (r : ReaderState) → is_wanted i (record first_reader { shown = r.shown }) ≡ is_wanted i r
wanted_by_shown (input name start) r = refl
wanted_by_shown (value name start) r = refl
wanted_by_shown (task name parameters body) r = refl
wanted_by_shown (reactive name keys body) r = refl
wanted_by_shown (event name flags e body) r = refl
wanted_by_shown (text name shown) r = refl
wanted_by_shown (plot name shown) r = refl
wanted_by_shown (observe name priority block) r = refl
wanted_by_shown (on name priority flags e block) r = refl

unless_live : (a b : Bool) → a ≡ true → (a && not b) ≡ false → b ≡ true
unless_live a true p q = refl
unless_live true false p q = cc
unless_live false false p q = cc

module _ (app : Shape) (kept : KeptFlush) (pending : Waiting) (knows : KnowsWaiting app kept pending) (none : NoneWaits pending) where
  quiet_in : (n : ℕ) → waits_in app kept n ≡ false
  quiet_in n = by (reader app n) refl
    where
      by : (o : Option Node) → reader app n ≡ o → waits_in app kept n ≡ false
      by None is = ap (λ o. is_wanted_at o (kept_output kept n).shown && not (is_live (kept_reader kept.session n).dependence)) is
      by (Some i) is = sym (knows n (get_in (readers app) n i is)) ∙ none n

  module _ (proper : IsProper app) (state : SessionState) (stands : StandsWholly app kept state) (right : IsRight app state) (rests : next_waiting app state ≡ None) where
    pub quiet_settled : IsSettled app kept
    quiet_settled = record {
      quiet = quiet_in;
      fresh = λ other stood n i is output wanted.
          let shown : is_wanted i (reader_state state n) ≡ true =
          sym (wanted_by_shown i (reader_state state n)) ∙ ap (λ b. is_wanted i (record first_reader { shown = b })) (sym (stands.shown n)) ∙ wanted in
          let evaluated : is_evaluated i ≡ true = ap (λ b. b || is_output i) (no_expression i output) ∙ output in
          let live : is_live (kept_reader kept.session n).dependence ≡ true =
          unless_live (is_wanted_at (Some i) (kept_output kept n).shown) (is_live (kept_reader kept.session n).dependence) wanted
          (ap (λ o. is_wanted_at o (kept_output kept n).shown && not (is_live (kept_reader kept.session n).dependence)) (sym is) ∙ quiet_in n) in
          stands.last n ∙ settled_fresh app (orderly app proper) (covered app proper) state right rests n i is output shown
          ∙ ap Some (sym (stands.session.outcomes n i is evaluated live) ∙ stood.session.outcomes n i is evaluated live);
    }

-- ---- the answer

module _ {S : Type 0} (follows : S → S → Type 0) (out : S → List Lent) (event : SessionState → FlushResult) (w mid new : Working)
    (asker asker' : S) (before after : ℕ) (passed : Result End Memory) (p : PassesAnew follows out event w mid asker asker' before after passed)
    (same : new ≡ record mid { made = new.made }) (label : Option (List ℕ)) (told : Result Told Memory)
    (tells : IfOk told (λ t. Tells label passed mid t)) where
  abbrev app : Shape
  app = shape_of w.app

  pub same_app : new.app ≡ w.app
  same_app = ap (λ (x : Working). x.app) same ∙ p.app

  kept_is : new.kept ≡ mid.kept
  kept_is = ap (λ (x : Working). x.kept) same

  -- ---- what it says of the flush
  module _ (before' : Flushing) (kept : before'.kept ≡ w.kept) (after' : Flushing) (stays : after'.kept ≡ new.kept)
      (reports : after'.report ≡ report_by before'.report told)
      (wanted : FlushResult → List (List ℕ)) (texts : (f : FlushResult) (e : End) → f.end ≡ end_of e → texts_by label (made_of app f.runs) (is_done e) ≡ wanted f)
      (state : SessionState) (stands : StandsWholly app w.kept state) where
    abbrev f : FlushResult
    f = event state

    bounded : (r : Result End Memory) → PassesAnewIn app w mid before after state f r → after ≤ before + (f.bodies + missing_readers app w.kept.session state)
    bounded (Ok e) q = let b = q.stepped.bound in omega (b, arith)
    bounded (Err e) q = q

    stepped_by : (e : End) → PassedAnew app w mid before after state f e → Stepped app before'.kept after'.kept before after state f.state f.bodies
    stepped_by e q =
        subst (λ k. Stepped app k after'.kept before after state f.state f.bodies) (sym kept)
        (subst (λ k. Stepped app w.kept k before after state f.state f.bodies) (sym (stays ∙ kept_is)) q.stepped)

    ends_as : (t : Told) (e : End) → t.end ≡ e → (expected : FlushEnd) → end_of e ≡ expected → after'.report ≡ Some t.report → Tells label passed mid t
        → Ends app (is_some label) before' after' before after state f expected (wanted f) t.texts
    ends_as t e is expected to said h =
        let q : PassedAnew app w mid before after state f t.end = subst (PassesAnewIn app w mid before after state f) h.end (p.passes state stands) in
        record {
          end = q.end ∙ ap end_of is ∙ to;
          texts = h.texts ∙ ap (λ m. texts_by label m (is_done t.end)) q.told ∙ texts f t.end q.end;
          stepped = stepped_by t.end q;
          report = said ∙ ap Some (h.report ∙ ap (λ m. report_of (is_some label) m mid.kept) q.told ∙ ap (report_of (is_some label) (made_of app f.runs)) (sym (stays ∙ kept_is)));
        }

    ends_by : (t : Told) (e : End) → t.end ≡ e → after'.report ≡ Some t.report → Tells label passed mid t
        → EndsBy app (is_some label) before' after' before after state f (wanted f) (flushed_of e t.texts)
    ends_by t end.Done is said h = ends_as t end.Done is done refl said h
    ends_by t end.BudgetSpent is said h = ends_as t end.BudgetSpent is budget_spent refl said h
    ends_by t (end.ObserverFailed why) is said h = ends_as t (end.ObserverFailed why) is (observer_failed why) refl said h

    told_by : (r : Result Told Memory) → after'.report ≡ report_by before'.report r → IfOk r (λ t. Tells label passed mid t)
        → EndsBy app (is_some label) before' after' before after state f (wanted f) (flushed_by r)
    told_by (Ok t) said h = ends_by t t.end refl said h
    told_by (Err e) said h = subst (λ (k : KeptFlush). after ≤ before + (f.bodies + missing_readers app k.session state)) (sym kept) (bounded passed (p.passes state stands))

    pub flushes_told : EndsBy app (is_some label) before' after' before after state f (wanted f) (flushed_by told)
    flushes_told = told_by told reports tells

  -- ---- the report
  pub report_stays : (report : Option Report) → Reports report (report_by report told) (flushed_by told)
  report_stays report = by told
    where
      ended : (t : Told) (e : End) → Reports report (Some t.report) (flushed_of e t.texts)
      ended t end.Done = refl
      ended t end.BudgetSpent = refl
      ended t (end.ObserverFailed why) = refl

      by : (r : Result Told Memory) → Reports report (report_by report r) (flushed_by r)
      by (Ok t) = ended t t.end
      by (Err e) = refl

  -- ---- what holds from a state in which what is kept is right
  module _ (stood : StandsRightly app w.kept)
      (keeps : (state : SessionState) → IsRight app state → IsRight app (event state).state)
      (settles : (state : SessionState) → (event state).end ≡ done → next_waiting app (event state).state ≡ None) where
    abbrev now : FlushResult
    now = event stood.state

    -- the jobs
    pub starts_behind : (before' after' : Flushing) → before'.jobs ≡ w.jobs → after'.jobs ≡ new.jobs → before'.kept ≡ w.kept → after'.kept ≡ new.kept
        → IfNotMemory (flushed_by told) (StartsBehind before' after')
    starts_behind before' after' jobs jobs' kept kept' = by told tells
      where
        behind : (e : End) → passed ≡ Ok e → StartsBehind before' after'
        behind e is =
            let q : StartsAnew w mid = subst (λ (r : Result End Memory). OnOk r (StartsAnew w mid)) is (p.queues stood.state stood.stands stood.right) in
            record {
              started = q.started;
              jobs = jobs' ∙ ap (λ (x : Working). x.jobs) same ∙ q.jobs ∙ ap (λ l. l ++ q.started) (sym jobs);
              starts = subst (λ (k : KeptFlush). Starts k.boards after'.kept.boards q.started) (sym kept)
                  (subst (λ (k : KeptFlush). Starts w.kept.boards k.boards q.started) (sym (kept' ∙ kept_is)) q.starts);
            }

        ended : (t : Told) (e : End) → StartsBehind before' after' → IfNotMemory (flushed_of e t.texts) (StartsBehind before' after')
        ended t end.Done h = h
        ended t end.BudgetSpent h = h
        ended t (end.ObserverFailed why) h = h

        by : (r : Result Told Memory) → IfOk r (λ t. Tells label passed mid t) → IfNotMemory (flushed_by r) (StartsBehind before' after')
        by (Ok t) h = ended t t.end (behind t.end h.end)
        by (Err e) h = tt

    -- where the flush is done nobody waits
    module _ (is : passed ≡ Ok end.Done) where
      quiet : IsQuiet mid
      quiet = p.rests end.Done is

      finished : PassedAnew app w mid before after stood.state now end.Done
      finished = subst (PassesAnewIn app w mid before after stood.state now) is (p.passes stood.state stood.stands)

      right : IsRight app now.state
      right = keeps stood.state stood.right

      settled_mid : IsSettled app mid.kept
      settled_mid =
          quiet_settled app mid.kept mid.pending (subst (λ (h : Held). KnowsWaiting (shape_of h) mid.kept mid.pending) p.app quiet.rests.ready.waiting) quiet.quiet
          p.proper now.state finished.stepped.stands right (settles stood.state finished.end)

      goes_on : GoesOn new
      goes_on = record {
        rests = subst IsAtRest (sym same) (record { ready = record { whole = quiet.rests.ready.whole; waiting = quiet.rests.ready.waiting }; none_runs = quiet.rests.none_runs });
        stands = subst (λ (h : Held). StandsRightly (shape_of h) new.kept) (sym same_app)
            (subst (StandsRightly app) (sym kept_is) (record { state = now.state; stands = finished.stepped.stands; right = right }));
      }

    pub settled_told : IfDone (flushed_by told) (IsSettled app new.kept)
    settled_told = by told tells
      where
        ended : (t : Told) (e : End) → passed ≡ Ok e → IfDone (flushed_of e t.texts) (IsSettled app new.kept)
        ended t end.Done is = subst (IsSettled app) (sym kept_is) (settled_mid is)
        ended t end.BudgetSpent is = tt
        ended t (end.ObserverFailed why) is = tt

        by : (r : Result Told Memory) → IfOk r (λ t. Tells label passed mid t) → IfDone (flushed_by r) (IsSettled app new.kept)
        by (Ok t) h = ended t t.end h.end
        by (Err e) h = tt

    pub kept_told : IsKept new (stage_after (flushed_by told))
    kept_told = by told tells
      where
        ended : (t : Told) (e : End) → passed ≡ Ok e → IsKept new (stage_after (flushed_of e t.texts))
        ended t end.Done is h = goes_on is
        ended t end.BudgetSpent is h = absurd (h refl)
        ended t (end.ObserverFailed why) is h = absurd (h refl)

        by : (r : Result Told Memory) → IfOk r (λ t. Tells label passed mid t) → IsKept new (stage_after (flushed_by r))
        by (Ok t) h = ended t t.end h.end
        by (Err e) h = λ k. absurd (k refl)

-- ---- all of it, at what the Flusher is seen as

pub record Answered {S : Type 0} (follows : S → S → Type 0) (out : S → List Lent) (init : Bool) (old new : Flushing) (step : Shape → SessionState → FlushResult)
    (wanted : Shape → FlushResult → List (List ℕ)) (asker asker' : S) (before after : ℕ) (result : Flushed) : Type 0 where
  pub app : new.app ≡ old.app
  pub flushes : Flushes (shape_of old.app) init old new before after (step (shape_of old.app)) (wanted (shape_of old.app)) result
  pub settled : IfDone result (IsSettled (shape_of old.app) new.kept)
  pub jobs : IfNotMemory result (StartsBehind old new)
  pub report : Reports old.report new.report result
  pub most : after ≤ before + most_bodies (shape_of old.app)
  pub succeeds : follows asker' asker
  pub leaves : out asker' ≡ []

module _ {S : Type 0} (follows : S → S → Type 0) (out : S → List Lent) (step : Shape → SessionState → FlushResult) (wanted : Shape → FlushResult → List (List ℕ))
    (w mid new : Working) (asker asker' : S) (before after : ℕ) (passed : Result End Memory)
    (p : PassesAnew follows out (step (shape_of w.app)) w mid asker asker' before after passed)
    (same : new ≡ record mid { made = new.made }) (label : Option (List ℕ)) (told : Result Told Memory)
    (tells : IfOk told (λ t. Tells label passed mid t))
    (texts : (f : FlushResult) (e : End) → f.end ≡ end_of e → texts_by label (made_of (shape_of w.app) f.runs) (is_done e) ≡ wanted (shape_of w.app) f)
    (keeps : (state : SessionState) → IsRight (shape_of w.app) state → IsRight (shape_of w.app) (step (shape_of w.app) state).state)
    (settles : (state : SessionState) → (step (shape_of w.app) state).end ≡ done → next_waiting (shape_of w.app) (step (shape_of w.app) state).state ≡ None)
    (stood : StandsRightly (shape_of w.app) w.kept) (stage stage' : Stage) (report report' : Option Report) (result : Flushed)
    (answer : result ≡ flushed_by told) (staged : stage' ≡ stage_after result) (reports : report' ≡ report_by report told) where
  abbrev this_event : SessionState → FlushResult
  this_event = step (shape_of w.app)

  abbrev before' : Flushing
  before' = record { app = w.app; kept = w.kept; jobs = w.jobs; stage = stage; report = report }

  abbrev after' : Flushing
  after' = record { app = new.app; kept = new.kept; jobs = new.jobs; stage = stage'; report = report' }

  at_view : Answered follows out (is_some label) before' after' step wanted asker asker' before after (flushed_by told)
  at_view = record {
    app = same_app follows out this_event w mid new asker asker' before after passed p same label told tells;
    flushes = λ state stands. flushes_told follows out this_event w mid new asker asker' before after passed p same label told tells before' refl after' refl reports (wanted (shape_of w.app)) texts state stands;
    settled = settled_told follows out this_event w mid new asker asker' before after passed p same label told tells stood keeps settles;
    jobs = starts_behind follows out this_event w mid new asker asker' before after passed p same label told tells stood keeps settles before' after' refl refl refl refl;
    report = subst (λ q. Reports report q (flushed_by told)) (sym reports) (report_stays follows out this_event w mid new asker asker' before after passed p same label told tells report);
    most = p.within;
    succeeds = p.succeeds;
    leaves = p.leaves;
  }

  pub answered : (z : Flushing) → before' ≡ z → Answered follows out (is_some label) z after' step wanted asker asker' before after result
  answered z v =
      subst (λ (x : Flushing). Answered follows out (is_some label) x after' step wanted asker asker' before after result) v
      (subst (λ (r : Flushed). Answered follows out (is_some label) before' after' step wanted asker asker' before after r) (sym answer) at_view)

  pub goes_on_told : IsKept new stage'
  goes_on_told =
      subst (IsKept new) (sym (staged ∙ ap stage_after answer))
      (kept_told follows out this_event w mid new asker asker' before after passed p same label told tells stood keeps settles)
