-- What a visit leaves, in each sound state: each reader as it was or run by its trace, and no more of them run than have to be; so
-- a visit to what it makes alive may come before it.
use Rattle.std.proofs.Common.{◌≡◌, inl, inr, ◌⊎◌, ℕ, zero, suc, Bool, true, false, List, [], ◌∷◌, length, Some, sym, ap, ◌∙◌, subst}
use Rattle.std.specs.Prelude.{⊤, slice_get}
use Rattle.std.proofs.lemmas.List.{ext_get_or}
use Rattle.std.proofs.lemmas.Option.{unwrap_or-slice_get}
use Rattle.app_tree.specs.declared.term.Read.{Read}
use Rattle.app_tree.specs.declared.term.Read.TheVariants as read
use Rattle.app_tree.specs.Tree.{Node, Shape}
use Rattle.app_tree.specs.Numbering.{readers, reader, is_expression}
use Rattle.app_tree.specs.Cover.{is_covered}
use Rattle.app_tree.specs.Evaluate.{TraceEntry, reads, given, enters, leaves}
use Rattle.app_tree.specs.Trace.{Every, OfRead}
use Rattle.session_model.specs.State.{SessionState, first_reader, reader_state, is_alive}
use Rattle.session_model.specs.Run.{visit_expression}
use Rattle.session_model.specs.Standing.{IsAliveRead}
use Rattle.app_laws.specs.Orderly.{IsOrderly}
use Rattle.app_laws.proofs.WhatIsAsked.{every_all, reads_map}
use Rattle.app_laws.proofs.KnownLists.{get_in}
use Rattle.session_laws.specs.Now.{trace, open_answers}
use Rattle.session_laws.specs.Sound.{IsSound}
use Rattle.session_laws.specs.VisitLaws.{IsRunByTrace, IsReadOf, IsClosed}
use Rattle.session_laws.proofs.Staying.{asked_low}
use Rattle.session_laws.proofs.Moving.{not_both, Visits}
use Rattle.session_laws.proofs.Walking.{expression_of}
use Rattle.session_laws.proofs.Kept.{expression_at}
use Rattle.session_laws.proofs.Running.{visits_good}
use Rattle.session_laws.proofs.Visiting.{BecomesAt, Leads, leads_trans, closed_after, visit_leads}

-- ---- sets that are closed

-- that of all readers
abbrev pub Anyone : ℕ → Type 0
Anyone j = ⊤

anyone_asked : (x : TraceEntry) → OfRead (IsReadOf Anyone) x
anyone_asked (reads (read.Expr m)) = tt
anyone_asked (reads (read.Input s)) = tt
anyone_asked (reads (read.Value s)) = tt
anyone_asked (reads (read.Status s)) = tt
anyone_asked (reads (read.Result s)) = tt
anyone_asked (reads (read.Width m)) = tt
anyone_asked (reads (read.Height m)) = tt
anyone_asked (given s) = tt
anyone_asked (enters s) = tt
anyone_asked (leaves s o) = tt

pub anyone_closed : (app : Shape) (M : SessionState) → IsClosed app M Anyone
anyone_closed app M j h dead = every_all (OfRead (IsReadOf Anyone)) anyone_asked (trace app M j).asked

-- that of what is alive in a state to which visits have led
abbrev pub AliveIn : SessionState → ℕ → Type 0
AliveIn N j = is_alive (reader_state N j) ≡ true

pub read_alive : (N : SessionState) (r : Read) → IsAliveRead N r → IsReadOf (AliveIn N) r
read_alive N (read.Expr m) h = h
read_alive N (read.Input s) h = tt
read_alive N (read.Value s) h = tt
read_alive N (read.Status s) h = tt
read_alive N (read.Result s) h = tt
read_alive N (read.Width m) h = tt
read_alive N (read.Height m) h = tt

pub alive_closed : (app : Shape) (P : ℕ → Type 0) (M N : SessionState) → Leads app P M N → IsClosed app M (AliveIn N)
alive_closed app P M N l j h dead = elim (l.each j) [
  | inl e ↦ absurd (not_both h (ap is_alive e ∙ dead))
  | inr r ↦ reads_map (IsAliveRead N) (IsReadOf (AliveIn N)) (read_alive N) (trace app M j).asked r.1.asks
]

-- ---- states to which visits have led from one state, each of which has made alive only what is alive in the other one
pub becomes_one : (app : Shape) (M A B : SessionState) (j : ℕ) → BecomesAt app (AliveIn B) M A j → BecomesAt app (AliveIn A) M B j → reader_state B j ≡ reader_state A j
becomes_one app M A B j (inl p) (inl q) = q ∙ sym p
becomes_one app M A B j (inl p) (inr s) = absurd (not_both s.0 (ap is_alive p ∙ s.1.was))
becomes_one app M A B j (inr r) (inl q) = absurd (not_both r.0 (ap is_alive q ∙ r.1.was))
becomes_one app M A B j (inr r) (inr s) = s.1.is ∙ sym r.1.is

pub readers_one : (A B : SessionState) → length B.readers ≡ length A.readers → ((j : ℕ) → reader_state B j ≡ reader_state A j) → B.readers ≡ A.readers
readers_one A B size h =
    ext_get_or first_reader B.readers A.readers size (λ j l. sym (unwrap_or-slice_get B.readers j first_reader) ∙ h j ∙ unwrap_or-slice_get A.readers j first_reader)

at_place : {A : Type 0} (P : A → Type 0) (xs : List A) (n : ℕ) (x : A) → slice_get xs n ≡ Some x → Every P xs → P x
at_place P [] n x h all = cc
at_place P (y ∷ xs) zero x h all = subst P (by h) all.0
  where
    by : Some y ≡ Some x → y ≡ x
    by h = cc
at_place P (y ∷ xs) (suc n) x h all = at_place P xs n x h all.1

module _ (app : Shape) (orderly : IsOrderly app) (covered : (n : ℕ) → is_covered app n ≡ true) where
  pub visits : (M : SessionState) → IsSound app M → (n : ℕ) (i : Node) → reader app n ≡ Some i → is_expression i ≡ true → Visits app (length (readers app)) n M (visit_expression app n M).state
  visits M sound n i is x = visits_good app orderly covered (length (readers app)) n (get_in (readers app) n i is) (expression_at app n i is ∙ x) M sound

  module _ (M : SessionState) (sound : IsSound app M) (n : ℕ) (i : Node) (is : reader app n ≡ Some i) (x : is_expression i ≡ true) where
    abbrev A : SessionState
    A = (visit_expression app n M).state

    leads : Leads app Anyone M A
    leads = visit_leads app Anyone orderly covered M sound (anyone_closed app M) n i is x tt

    pub leaves_each : (j : ℕ) → (reader_state A j ≡ reader_state M j) ⊎ IsRunByTrace app M A j
    leaves_each j = elim (leads.each j) [ inl e ↦ inl e | inr r ↦ inr r.1 ]

    pub leaves_rest : (A.values ≡ M.values) × (A.boards ≡ M.boards)
    leaves_rest = let v = visits M sound n i is x in (v.steps.same.values, v.steps.boards)

    pub members_alone : (member : ℕ → Bool) → member n ≡ true → IsClosed app M (λ j. member j ≡ true) → (j : ℕ) → is_alive (reader_state M j) ≡ false → is_alive (reader_state A j) ≡ true → member j ≡ true
    members_alone member h closed j dead alive =
        elim ((visit_leads app (λ z. member z ≡ true) orderly covered M sound closed n i is x h).each j) [ inl e ↦ absurd (not_both alive (ap is_alive e ∙ dead)) | inr r ↦ r.0 ]

    -- ---- after a visit to expression m
    module _ (m : ℕ) (j : Node) (js : reader app m ≡ Some j) (y : is_expression j ≡ true) (made : is_alive (reader_state A m) ≡ true) where
      abbrev N : SessionState
      N = (visit_expression app m M).state

      abbrev B : SessionState
      B = (visit_expression app n N).state

      first : Visits app (length (readers app)) m M N
      first = visits M sound m j js y

      second : Visits app (length (readers app)) n N B
      second = visits N first.sound n i is x

      alone : Visits app (length (readers app)) n M A
      alone = visits M sound n i is x

      -- what is alive in one of the two is all that the other one makes alive
      to_first : Leads app (AliveIn A) M N
      to_first = visit_leads app (AliveIn A) orderly covered M sound (alive_closed app Anyone M A leads) m j js y made

      to_both : Leads app (AliveIn A) M B
      to_both = leads_trans app (AliveIn A) M N B to_first
          (visit_leads app (AliveIn A) orderly covered N first.sound (closed_after app (AliveIn A) M N to_first (alive_closed app Anyone M A leads)) n i is x alone.alive)

      to_one : Leads app (AliveIn B) M A
      to_one = visit_leads app (AliveIn B) orderly covered M sound (alive_closed app (AliveIn A) M B to_both) n i is x second.alive

      pub absorbs : B ≡ A
      absorbs = (λ z. record {
        values = (second.steps.same.values ∙ first.steps.same.values ∙ sym alone.steps.same.values) z;
        readers = readers_one A B (second.steps.size ∙ first.steps.size ∙ sym alone.steps.size) (λ l. becomes_one app M A B l (to_one.each l) (to_both.each l)) z;
        boards = (second.steps.boards ∙ first.steps.boards ∙ sym alone.steps.boards) z;
      })

    pub absorbs_asked : is_alive (reader_state M n) ≡ false → (m place : ℕ) → slice_get (trace app M n).asked place ≡ Some (reads (read.Expr m)) → (visit_expression app n (visit_expression app m M).state).state ≡ A
    absorbs_asked dead m place h =
        let e = expression_of app m (at_place _ (trace app M n).asked place (reads (read.Expr m)) h (asked_low app orderly n i is (open_answers app M n))).1 in
        absorbs m e.0 e.1 e.2 (elim (leaves_each n) [
          | inl q ↦ absurd (not_both (visits M sound n i is x).alive (ap is_alive q ∙ dead))
          | inr r ↦ at_place (OfRead (IsAliveRead A)) (trace app M n).asked place (reads (read.Expr m)) h r.asks
        ])
