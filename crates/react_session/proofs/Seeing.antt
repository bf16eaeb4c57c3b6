-- What is seen of a session by reader number, and as one reader's part of it changes.
use Rattle.std.proofs.Common.{◌≡◌, ◌≢◌, inl, inr, ◌≤◌, ℕ, zero, suc, ◌+◌, Bool, true, false, List, [], ◌∷◌, length, Option, Some, None, refl, sym, ap, ◌∙◌, subst, arith, add-zero}
use Rattle.std.specs.Prelude.{slice_get, slice_set, slice_index_or, unwrap_or, ◌&&◌, ◌||◌}
use Rattle.std.proofs.lemmas.Bool.{false≢true}
use Rattle.std.proofs.lemmas.Bool.Decides.{eqb_tells}
use Rattle.rx_value.specs.declared.source.SourceValue.{SourceValue}
use Rattle.app_tree.specs.declared.term.Read.TheVariants.{Expr}
use Rattle.app_tree.specs.Tree.{Shape}
use Rattle.session_model.specs.Standing.{is_live, did_run, IsSameDependence, KeptReader, KeptSession, first_kept, kept_reader}
use Rattle.session_steps.specs.Keeping.{lives, outcome_if_alive, kept_answer, IsAlikeReader, IsAlike}
use Rattle.dep_graph.specs.Contexts.{Stage, idle, alive as alive_stage, running, overtaken, ReaderContext as Context, Contexts, idle_context, context_at, is_alive_stage, is_current_stage, is_alive, is_current}
use Rattle.dep_graph.specs.SameGraph.{IsSameStage, IsSameContext, IsSameGraph}
use Rattle.react_session.specs.declared.kept.Kept.{Kept}
use Rattle.react_session.specs.Seen.{dependence_seen, is_observing, reader_seen, kept_at, readers_seen, session_seen}
use Rattle.react_session.proofs.ByNumber.{graph-sym}
use Rattle.react_session.proofs.Standings.{live_by, ran_by}

pub observed : (o : Option ℕ) (n : ℕ) → is_observing o n ≡ true → o ≡ Some n
observed None n h = cc
observed (Some k) n h = elim (eqb_tells k n) [ inl p ↦ ap Some p.1 | inr p ↦ absurd (false≢true (sym p.0 ∙ h)) ]

-- ---- by number

pub seen_size : (o : Option ℕ) (k : ℕ) (cs : List Context) (ks : List Kept) → length cs ≡ length ks → length (readers_seen o k cs ks) ≡ length cs
seen_size o k [] [] e = refl
seen_size o k [] (x ∷ ks) e = refl
seen_size o k (c ∷ cs) [] e = absurd (omega (e, arith))
seen_size o k (c ∷ cs) (x ∷ ks) e = ap suc (seen_size o (suc k) cs ks (omega (e, arith)))

pub seen_from : (o : Option ℕ) (k : ℕ) (cs : List Context) (ks : List Kept) (n : ℕ) → length cs ≡ length ks
    → unwrap_or (slice_get (readers_seen o k cs ks) n) first_kept ≡ reader_seen (is_observing o (k + n)) (slice_index_or cs n idle_context) (kept_at ks n)
seen_from o k [] [] n e = refl
seen_from o k [] (x ∷ ks) n e = absurd (omega (e, arith))
seen_from o k (c ∷ cs) [] n e = absurd (omega (e, arith))
seen_from o k (c ∷ cs) (x ∷ ks) zero e = ap (λ m. reader_seen (is_observing o m) c x) (sym (add-zero k))
seen_from o k (c ∷ cs) (x ∷ ks) (suc n) e =
    let same : suc k + n ≡ k + suc n = omega arith in
    seen_from o (suc k) cs ks n (omega (e, arith)) ∙ ap (λ m. reader_seen (is_observing o m) (slice_index_or cs n idle_context) (kept_at ks n)) same

pub seen_at : (values : List SourceValue) (g : Contexts) (ks : List Kept) (o : Option ℕ) (n : ℕ) → length g.readers ≡ length ks
    → kept_reader (session_seen values g.readers ks o) n ≡ reader_seen (is_observing o n) (context_at g n) (kept_at ks n)
seen_at values g ks o n e =
    let zero_first : 0 + n ≡ n = omega arith in
    seen_from o 0 g.readers ks n e ∙ ap (λ m. reader_seen (is_observing o m) (context_at g n) (kept_at ks n)) zero_first

-- ---- one reader's part

pub seen_set : (o : Option ℕ) (k : ℕ) (cs : List Context) (ks : List Kept) (n : ℕ) (c : Context) (x : Kept)
    → readers_seen o k (slice_set cs n c) (slice_set ks n x) ≡ slice_set (readers_seen o k cs ks) n (reader_seen (is_observing o (k + n)) c x)
seen_set o k [] ks n c x = refl
seen_set o k (d ∷ cs) [] zero c x = refl
seen_set o k (d ∷ cs) [] (suc n) c x = refl
seen_set o k (d ∷ cs) (y ∷ ks) zero c x = ap (λ m. reader_seen (is_observing o m) c x ∷ readers_seen o (suc k) cs ks) (sym (add-zero k))
seen_set o k (d ∷ cs) (y ∷ ks) (suc n) c x =
    let same : suc k + n ≡ k + suc n = omega arith in
    ap (λ l. reader_seen (is_observing o k) d y ∷ l)
    (seen_set o (suc k) cs ks n c x ∙ ap (λ m. slice_set (readers_seen o (suc k) cs ks) n (reader_seen (is_observing o m) c x)) same)

-- ---- the order of sources

pub alike_dependence : (observes ran : Bool) (a b : Stage) → IsSameStage a b → IsSameDependence (dependence_seen observes ran a) (dependence_seen observes ran b)
alike_dependence observes true idle idle h = tt
alike_dependence observes false idle idle h = tt
alike_dependence observes ran (alive_stage s) (alive_stage t) h = h
alike_dependence true ran (running s) (running t) h = h
alike_dependence false true (running s) (running t) h = tt
alike_dependence false false (running s) (running t) h = tt
alike_dependence observes true overtaken overtaken h = tt
alike_dependence observes false overtaken overtaken h = tt
alike_dependence observes ran idle (alive_stage t) h = absurd h
alike_dependence observes ran idle (running t) h = absurd h
alike_dependence observes ran idle overtaken h = absurd h
alike_dependence observes ran (alive_stage s) idle h = absurd h
alike_dependence observes ran (alive_stage s) (running t) h = absurd h
alike_dependence observes ran (alive_stage s) overtaken h = absurd h
alike_dependence observes ran (running s) idle h = absurd h
alike_dependence observes ran (running s) (alive_stage t) h = absurd h
alike_dependence observes ran (running s) overtaken h = absurd h
alike_dependence observes ran overtaken idle h = absurd h
alike_dependence observes ran overtaken (alive_stage t) h = absurd h
alike_dependence observes ran overtaken (running t) h = absurd h

alike_reader : (observes : Bool) (c d : Context) (x : Kept) → IsSameContext c d → IsAlikeReader (reader_seen observes c x) (reader_seen observes d x)
alike_reader observes c d x same = record { dependence = alike_dependence observes x.ran c.stage d.stage same.stage; isolated = refl; outcome = refl }

-- graphs that differ in the order of sources alone are seen alike
pub alike_seen : (values : List SourceValue) (g h : Contexts) (ks : List Kept) (o : Option ℕ) → length g.readers ≡ length ks → IsSameGraph g h
    → IsAlike (session_seen values g.readers ks o) (session_seen values h.readers ks o)
alike_seen values g h ks o e same =
    let e' : length h.readers ≡ length ks = sym same.count ∙ e in
    record {
      values = refl;
      size = seen_size o 0 g.readers ks e ∙ same.count ∙ sym (seen_size o 0 h.readers ks e');
      readers = λ n.
          subst (λ r. IsAlikeReader r (kept_reader (session_seen values h.readers ks o) n)) (sym (seen_at values g ks o n e))
          (subst (IsAlikeReader (reader_seen (is_observing o n) (context_at g n) (kept_at ks n))) (sym (seen_at values h ks o n e'))
          (alike_reader (is_observing o n) (context_at g n) (context_at h n) (kept_at ks n) (same.each n)));
      running = refl;
    }

-- ---- who is alive, and who ran

pub lives_seen : (values : List SourceValue) (g : Contexts) (ks : List Kept) (o : Option ℕ) (n : ℕ) → length g.readers ≡ length ks
    → lives (session_seen values g.readers ks o) n ≡ (is_alive g n || (is_observing o n && is_current g n))
lives_seen values g ks o n e =
    ap (λ (r : KeptReader). is_live r.dependence) (seen_at values g ks o n e) ∙ live_by (is_observing o n) (kept_at ks n).ran (context_at g n).stage

pub ran_seen : (values : List SourceValue) (g : Contexts) (ks : List Kept) (o : Option ℕ) (n : ℕ) → length g.readers ≡ length ks
    → (is_alive g n ≡ true → (kept_at ks n).ran ≡ true) → (o ≡ Some n → (kept_at ks n).ran ≡ true)
    → (kept_at ks n).ran ≡ did_run (kept_reader (session_seen values g.readers ks o) n).dependence
ran_seen values g ks o n e a h =
    ran_by (is_observing o n) (kept_at ks n).ran (context_at g n).stage a (λ b. h (observed o n b))
    ∙ ap (λ (r : KeptReader). did_run r.dependence) (sym (seen_at values g ks o n e))

-- ---- where one reader's part changes

-- but for reader n all stays
pub record StaysBut (n : ℕ) (session after : KeptSession) (g h : Contexts) (ks kept : List Kept) (o observer : Option ℕ) : Type 0 where
  pub sessions : (m : ℕ) → m ≢ n → kept_reader after m ≡ kept_reader session m
  pub contexts : (m : ℕ) → m ≢ n → context_at h m ≡ context_at g m
  pub each_kept : (m : ℕ) → m ≢ n → kept_at kept m ≡ kept_at ks m
  pub observes : (m : ℕ) → m ≢ n → is_observing observer m ≡ is_observing o m

pub seen_but : (values : List SourceValue) (g h : Contexts) (ks kept : List Kept) (o observer : Option ℕ) (n : ℕ) (after : KeptSession) → length g.readers ≡ length ks
    → StaysBut n (session_seen values g.readers ks o) after g h ks kept o observer
    → kept_reader after n ≡ reader_seen (is_observing observer n) (context_at h n) (kept_at kept n)
    → (m : ℕ) → kept_reader after m ≡ reader_seen (is_observing observer m) (context_at h m) (kept_at kept m)
seen_but values g h ks kept o observer n after e stays here m = elim (eqb_tells m n) [
  | inl p ↦ subst (λ (z : ℕ). kept_reader after z ≡ reader_seen (is_observing observer z) (context_at h z) (kept_at kept z)) (sym p.1) here
  | inr p ↦ stays.sessions m p.1 ∙ seen_at values g ks o m e
      ∙ (λ j. reader_seen (sym (stays.observes m p.1) j) (sym (stays.contexts m p.1) j) (sym (stays.each_kept m p.1) j))
]

-- a session whose readers are seen so, over a graph that is another one up to the order of sources
pub alike_where : (session : KeptSession) (values : List SourceValue) (g h : Contexts) (ks : List Kept) (o : Option ℕ) → length h.readers ≡ length ks → IsSameGraph g h
    → session.values ≡ values → length session.readers ≡ length ks → session.running ≡ o
    → ((m : ℕ) → kept_reader session m ≡ reader_seen (is_observing o m) (context_at h m) (kept_at ks m))
    → IsAlike session (session_seen values g.readers ks o)
alike_where session values g h ks o e same valued sized runs each =
    let e' : length g.readers ≡ length ks = same.count ∙ e in
    record {
      values = valued;
      size = sized ∙ sym (seen_size o 0 g.readers ks e' ∙ e');
      readers = λ m.
          subst (λ r. IsAlikeReader r (kept_reader (session_seen values g.readers ks o) m)) (sym (each m))
          (subst (IsAlikeReader (reader_seen (is_observing o m) (context_at h m) (kept_at ks m))) (sym (seen_at values g ks o m e'))
          (alike_reader (is_observing o m) (context_at h m) (context_at g m) (kept_at ks m) ((graph-sym g h same).each m)));
      running = runs;
    }

-- ---- what is answered

context_past : (cs : List Context) (n : ℕ) → length cs ≤ n → slice_index_or cs n idle_context ≡ idle_context
context_past [] n h = refl
context_past (c ∷ cs) zero h = absurd (omega (h, arith))
context_past (c ∷ cs) (suc n) h = context_past cs n (omega (h, arith))

-- beyond the readers none lives
pub past_lives : (values : List SourceValue) (g : Contexts) (ks : List Kept) (o : Option ℕ) (n : ℕ) → length g.readers ≡ length ks → length ks ≤ n
    → lives (session_seen values g.readers ks o) n ≡ false
past_lives values g ks o n e h =
    lives_seen values g ks o n e
    ∙ ap (λ (c : Context). is_alive_stage c.stage || (is_observing o n && is_current_stage c.stage)) (context_past g.readers n (omega (e, h, arith)))
    ∙ none (is_observing o n)
  where
    none : (b : Bool) → (b && false) ≡ false
    none true = refl
    none false = refl

pub outcome_seen : (values : List SourceValue) (g : Contexts) (ks : List Kept) (o : Option ℕ) (n : ℕ) → length g.readers ≡ length ks
    → (kept_reader (session_seen values g.readers ks o) n).outcome ≡ (kept_at ks n).outcome
outcome_seen values g ks o n e = ap (λ (r : KeptReader). r.outcome) (seen_at values g ks o n e)

-- an expression is answered where it lives
pub answered_alive : (session : KeptSession) (app : Shape) (m : ℕ) → lives session m ≡ true → kept_answer app session (Expr m) ≡ Some (kept_reader session m).outcome
answered_alive session app m h = ap (λ b. outcome_if_alive b (kept_reader session m).outcome) h

pub answered_dead : (session : KeptSession) (app : Shape) (m : ℕ) → lives session m ≡ false → kept_answer app session (Expr m) ≡ None
answered_dead session app m h = ap (λ b. outcome_if_alive b (kept_reader session m).outcome) h
