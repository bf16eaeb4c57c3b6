-- Whatever a session did to run an output, it stands for the state after the output's run there.
use Rattle.std.proofs.Common.{◌≡◌, inl, inr, ℕ, true, List, length, Some, sym, ap, ◌∙◌, subst}
use Rattle.std.specs.Prelude.{⊤}
use Rattle.std.proofs.lemmas.Bool.Decides.{eqb_tells}
use Rattle.rx_value.specs.declared.outcome.Outcome.{Outcome}
use Rattle.app_tree.specs.Tree.{Node, Shape}
use Rattle.app_tree.specs.Numbering.{readers, reader, is_expression, is_output}
use Rattle.app_tree.specs.Cover.{is_covered}
use Rattle.app_tree.specs.Evaluate.{Evaluation}
use Rattle.app_tree.specs.Trace.{EveryRead}
use Rattle.app_tree.specs.Fresh.{fresh_outcome}
use Rattle.session_model.specs.declared.state.ReaderState.{ReaderState}
use Rattle.session_model.specs.State.{SessionState, isolated_of, reader_state, is_alive}
use Rattle.session_model.specs.Run.{visit_expression, run_reader}
use Rattle.session_model.specs.Standing.{KeptSession, IsAliveRead, StandsForState}
use Rattle.app_laws.specs.Orderly.{IsOrderly}
use Rattle.app_laws.specs.Proper.{IsProper}
use Rattle.app_laws.proofs.WhatIsAsked.{reads_map}
use Rattle.session_laws.specs.Now.{trace}
use Rattle.session_laws.specs.Sound.{IsSound}
use Rattle.session_laws.specs.VisitLaws.{IsReadOf, IsClosed}
use Rattle.session_laws.proofs.Absorbing.{Anyone, anyone_closed, AliveIn, read_alive, becomes_one, readers_one, visits}
use Rattle.session_laws.proofs.Kept.{expression_at}
use Rattle.session_laws.proofs.Moving.{not_both, Visits}
use Rattle.session_laws.proofs.Proper.{orderly as orderly_of, covered as covered_of}
use Rattle.session_laws.proofs.Running.{no_expression}
use Rattle.session_laws.proofs.Staying.{same_trans, trace_same}
use Rattle.session_laws.proofs.Visiting.{Leads, by_trace_same, becomes_trans, closed_after, visit_leads}
use Rattle.session_laws.proofs.Walking.{expression_of}
use Rattle.session_steps.specs.Keeping.{run_kept, hit_kept}
use Rattle.session_steps.specs.Bringing.{Aim, reading, running, Brings, living, dead, ends, hits, waits}
use Rattle.session_steps.specs.StandLaws.{OutputStands, StandsWith}
use Rattle.session_steps.proofs.Attempts.{wanted_low, wanted_asked}
use Rattle.session_steps.proofs.Ends.{alike_with, output_ends}
use Rattle.session_steps.proofs.Forced.{forced}
use Rattle.session_steps.proofs.Hits.{output_hits}
use Rattle.session_steps.proofs.Living.{sound}
use Rattle.session_steps.proofs.Ran.{HasRun, ran_alive, ran_keeps, output_gives, output_ran}
use Rattle.session_steps.proofs.Walks.{any_asked}

-- all that the trace of a reader asks is alive after its run, and all that the traces of those ask that were run beside it
ran_closed : (app : Shape) (P : ℕ → Type 0) (n : ℕ) (M N : SessionState) → HasRun app P n M N → IsClosed app M (AliveIn N)
ran_closed app P n M N h j a w = elim (eqb_tells j n) [
  | inl p ↦ subst (λ z. EveryRead (IsReadOf (AliveIn N)) (trace app M z).asked) (sym p.1) (reads_map (IsAliveRead N) (IsReadOf (AliveIn N)) (read_alive N) (trace app M n).asked h.asks)
  | inr p ↦ elim (h.each j p.1) [
    | inl e ↦ absurd (not_both a (ap is_alive e ∙ w))
    | inr r ↦ reads_map (IsAliveRead N) (IsReadOf (AliveIn N)) (read_alive N) (trace app M j).asked r.1.asks
  ]
]

ran_one : (app : Shape) (n : ℕ) (M A B : SessionState) → HasRun app (AliveIn B) n M A → HasRun app (AliveIn A) n M B → B ≡ A
ran_one app n M A B p q = (λ z. record {
  values = (q.same.values ∙ sym p.same.values) z;
  readers = readers_one A B (q.size ∙ sym p.size) at z;
  boards = (q.boards ∙ sym p.boards) z;
})
  where
    at : (j : ℕ) → reader_state B j ≡ reader_state A j
    at j = elim (eqb_tells j n) [
      | inl e ↦ subst (λ z. reader_state B z ≡ reader_state A z) (sym e.1) (q.here ∙ sym p.here)
      | inr e ↦ becomes_one app M A B j (p.each j e.1) (q.each j e.1)
    ]

-- a run after visits that left the reader as it was
ran_after : (app : Shape) (P : ℕ → Type 0) (n : ℕ) (M N B : SessionState) → Leads app P M N → length N.readers ≡ length M.readers → N.boards ≡ M.boards → reader_state N n ≡ reader_state M n → HasRun app P n N B → HasRun app P n M B
ran_after app P n M N B l size boards own h =
    let t : trace app N n ≡ trace app M n = trace_same app l.same n (ap (λ (r : ReaderState). r.dependencies) own) in
    record {
      same = same_trans app l.same h.same;
      sound = h.sound;
      size = h.size ∙ size;
      boards = h.boards ∙ boards;
      each = λ j d. becomes_trans app P M N B l.same (ran_keeps app P n N B h) j (l.each j) (h.each j d);
      here = h.here ∙ by_trace_same app P M N l.same n own;
      asks = subst (λ (e : Evaluation). EveryRead (IsAliveRead B) e.asked) t h.asks;
      gives = h.gives ∙ ap (λ (e : Evaluation). e.outcome) t;
    }

module _ (app : Shape) (orderly : IsOrderly app) (covered : (n : ℕ) → is_covered app n ≡ true) (n : ℕ) (i : Node) (is : reader app n ≡ Some i) (o : is_output i ≡ true) (M : SessionState) (sound : IsSound app M)
    (m : ℕ) (j : Node) (js : reader app m ≡ Some j) (y : is_expression j ≡ true) where
  abbrev A : SessionState
  A = (run_reader app n M).state

  abbrev N : SessionState
  N = (visit_expression app m M).state

  abbrev B : SessionState
  B = (run_reader app n N).state

  first : Visits app (length (readers app)) m M N
  first = visits app orderly covered M sound m j js y

  own : reader_state N n ≡ reader_state M n
  own = first.steps.others n (expression_at app n i is ∙ no_expression i o)

  traced : trace app N n ≡ trace app M n
  traced = trace_same app first.steps.same n (ap (λ (r : ReaderState). r.dependencies) own)

  alone : HasRun app Anyone n M A
  alone = output_ran app orderly covered Anyone M sound (anyone_closed app M) n i is tt o (any_asked (trace app M n).asked)

  alive_in : (W : SessionState) → EveryRead (IsAliveRead W) (trace app M n).asked → EveryRead (IsReadOf (AliveIn W)) (trace app M n).asked
  alive_in W h = reads_map (IsAliveRead W) (IsReadOf (AliveIn W)) (read_alive W) (trace app M n).asked h

  pub outcome_same : (run_reader app n (visit_expression app m M).state).outcome ≡ (run_reader app n M).outcome
  outcome_same =
      output_gives app orderly covered Anyone N first.sound (anyone_closed app N) n i is tt o (any_asked (trace app N n).asked)
      ∙ ap (λ (e : Evaluation). e.outcome) traced
      ∙ sym (output_gives app orderly covered Anyone M sound (anyone_closed app M) n i is tt o (any_asked (trace app M n).asked))

  -- where the output's trace asks m, a visit to m may come before the output's run
  module _ (made : is_alive (reader_state A m) ≡ true) where
    closed : IsClosed app M (AliveIn A)
    closed = ran_closed app Anyone n M A alone

    to_first : Leads app (AliveIn A) M N
    to_first = visit_leads app (AliveIn A) orderly covered M sound closed m j js y made

    second : HasRun app (AliveIn A) n N B
    second = output_ran app orderly covered (AliveIn A) N first.sound (closed_after app (AliveIn A) M N to_first closed) n i is (ran_alive app Anyone n M A alone) o
        (subst (λ (e : Evaluation). EveryRead (IsReadOf (AliveIn A)) e.asked) (sym traced) (alive_in A alone.asks))

    both : HasRun app (AliveIn A) n M B
    both = ran_after app (AliveIn A) n M N B to_first first.steps.size first.steps.boards own second

    one : HasRun app (AliveIn B) n M A
    one = output_ran app orderly covered (AliveIn B) M sound (ran_closed app (AliveIn A) n M B both) n i is (ran_alive app (AliveIn A) n M B both) o (alive_in B both.asks)

    pub output_absorbs : (run_reader app n (visit_expression app m M).state).state ≡ (run_reader app n M).state
    output_absorbs = ran_one app n M A B one both

-- ---- the induction

module _ (app : Shape) (p : IsProper app) where
  -- the outcome of the run is the fresh one in the state that it leaves
  fresh_is : (n : ℕ) (i : Node) → reader app n ≡ Some i → is_output i ≡ true → (M : SessionState) → IsSound app M
      → fresh_outcome app (run_reader app n M).state.values (isolated_of (run_reader app n M).state) n ≡ (run_reader app n M).outcome
  fresh_is n i is o M sound =
      (output_ran app (orderly_of app p) (covered_of app p) Anyone M sound (anyone_closed app M) n i is tt o (any_asked (trace app M n).asked)).gives
      ∙ sym (output_gives app (orderly_of app p) (covered_of app p) Anyone M sound (anyone_closed app M) n i is tt o (any_asked (trace app M n).asked))

  with_outcome : (n : ℕ) (S : KeptSession) (N : SessionState) (x y : Outcome) → x ≡ y → StandsWith app n S N x → StandsWith app n S N y
  with_outcome n S N x y e w = subst (StandsWith app n S N) e w

  -- of a reader that is run
  abbrev IsShown : Aim → ℕ → KeptSession → KeptSession → Type 0
  IsShown reading n s s' = ⊤
  IsShown running n s s' = (M : SessionState) → StandsForState app s M → (i : Node) → reader app n ≡ Some i → is_output i ≡ true → StandsWith app n s' (run_reader app n M).state (run_reader app n M).outcome

  shown : (aim : Aim) (bodies : List ℕ) (n : ℕ) (s s' : KeptSession) → Brings app aim bodies n s s' → IsShown aim n s s'
  shown _ _ _ _ _ (living n s h) = tt
  shown _ _ _ _ _ (dead bodies n s s' h f) = tt
  shown _ _ _ _ _ (ends n s s' w alike) = λ M st i is o.
      with_outcome n s' (run_reader app n M).state _ _ (fresh_is n i is o M (sound app (orderly_of app p) s M st))
      (alike_with app n (run_kept app n s) s' (run_reader app n M).state _ alike (output_ends app (orderly_of app p) s M st n i is w (covered_of app p) o))
  shown _ _ _ _ _ (hits n c xs s s' cached none values alike) = λ M st i is o.
      with_outcome n s' (run_reader app n M).state _ _ (fresh_is n i is o M (sound app (orderly_of app p) s M st))
      (alike_with app n (hit_kept app n c xs s) s' (run_reader app n M).state _ alike (output_hits app p.well_formed (orderly_of app p) (covered_of app p) s M st n i is c cached none xs values o))
  shown _ _ _ _ _ (waits earlier later n m s s' s'' w f g) = λ M st i is o.
      let e = expression_of app m (wanted_low app (orderly_of app p) s n i is m w).1 in
      let first = forced app p reading earlier m s s' f M st e.0 e.1 e.2 tt in
      let is_sound : IsSound app M = sound app (orderly_of app p) s M st in
      let later_stands = shown running later n s' s'' g (visit_expression app m M).state first.stands i is o in
      let run : HasRun app Anyone n M (run_reader app n M).state =
      output_ran app (orderly_of app p) (covered_of app p) Anyone M is_sound (anyone_closed app M) n i is tt o (any_asked (trace app M n).asked) in
      let made : is_alive (reader_state (run_reader app n M).state m) ≡ true = wanted_asked app (orderly_of app p) s M st n i is m w (IsAliveRead (run_reader app n M).state) run.asks in
      with_outcome n s'' (run_reader app n M).state _ _ (outcome_same app (orderly_of app p) (covered_of app p) n i is o M is_sound m e.0 e.1 e.2)
      (subst (λ N. StandsWith app n s'' N (run_reader app n (visit_expression app m M).state).outcome) (output_absorbs app (orderly_of app p) (covered_of app p) n i is o M is_sound m e.0 e.1 e.2 made) later_stands)

pub output_stands : OutputStands
output_stands app p S T M stands n i is o bodies brings = shown app p running bodies n S T brings M stands i is o
