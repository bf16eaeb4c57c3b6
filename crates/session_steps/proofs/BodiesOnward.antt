-- What is begun can be brought to its end: where memory is wanting the session has run a front of what it might have run.
use Rattle.std.proofs.Common.{◌≡◌, inl, inr, ◌<◌, ◌≤◌, ℕ, zero, suc, ◌+◌, Bool, true, false, List, [], ◌++◌, length, length-append, Option, Some, None, refl, sym, ap, ◌∙◌, subst, arith}
use Rattle.std.specs.Prelude.{⊤}
use Rattle.std.proofs.lemmas.Bool.{false≢true}
use Rattle.std.proofs.lemmas.Bool.Decides.{eqb_tells}
use Rattle.rx_value.specs.declared.outcome.Outcome.{Outcome}
use Rattle.app_tree.specs.declared.term.Read.{Read}
use Rattle.app_tree.specs.declared.term.Read.TheVariants as read
use Rattle.app_tree.specs.Tree.{Tree, Node, Shape}
use Rattle.app_tree.specs.Numbering.{readers, reader, is_expression}
use Rattle.app_tree.specs.Cover.{reads_in}
use Rattle.app_tree.specs.Evaluate.{TraceEntry}
use Rattle.app_tree.specs.Trace.{Every, EveryRead}
use Rattle.app_tree.specs.Wanted.{Answering, completed, first_wanted}
use Rattle.app_laws.specs.Orderly.{ReadsBelow, bound_of, IsOrderly}
use Rattle.app_laws.proofs.KnownLists.{get_in}
use Rattle.app_laws.proofs.WhatIsAsked.{if_true}
use Rattle.session_model.specs.Standing.{KeptSession, kept_reader}
use Rattle.session_laws.proofs.Kept.{expression_at}
use Rattle.session_laws.proofs.Staying.{asked_low}
use Rattle.session_laws.proofs.Walking.{expression_of}
use Rattle.session_steps.specs.Keeping.{lives, kept_answer, answering, wanted, attempt, bodies_run, run_kept}
use Rattle.session_steps.specs.Bringing.{Aim, reading, running, Brings, Begins}
use Rattle.session_steps.specs.Acting.{term_answering, term_attempt, term_kept, Comes, ComesUntil}
use Rattle.session_steps.proofs.AlikeSessions.{alike_itself}
use Rattle.session_steps.proofs.Wanting.{found, unanswered_dead}
use Rattle.session_steps.proofs.CountedTotals.{total, only, total_most}
use Rattle.session_steps.proofs.BodiesAsked.{term_reads}
use Rattle.session_steps.proofs.BodiesTerms.{term_wants_below}
use Rattle.session_steps.proofs.BodiesOnce.{IsBelow, wanted_below, Goes, goes}

-- ---- fewer readers are dead

total_less : (f g : ℕ → ℕ) (k : ℕ) → ((j : ℕ) → f j ≤ g j) → (n : ℕ) → n < k → f n < g n → total f k < total g k
total_less f g zero h n b l = absurd (omega (b, arith))
total_less f g (suc k) h n b l = elim (eqb_tells n k) [
  | inl p ↦ (let most = total_most f g k h in let here : f k < g k = subst (λ z. f z < g z) p.1 l in omega (most, here, arith))
  | inr p ↦ (let d = p.1 in let less = total_less f g k h n (omega (b, d, arith)) l in let here = h k in omega (less, here, arith))
]

fewer_dead : (l l' : Bool) → (l ≡ true → l' ≡ true) → only true l' 1 ≤ only true l 1
fewer_dead true true h = omega arith
fewer_dead true false h = absurd (false≢true (h refl))
fewer_dead false true h = omega arith
fewer_dead false false h = omega arith

one_less : (l l' : Bool) → l ≡ false → l' ≡ true → only true l' 1 < only true l 1
one_less true l' p q = cc
one_less false true p q = omega arith
one_less false false p q = cc

module _ (app : Shape) where
  abbrev dead_at : KeptSession → ℕ → ℕ
  dead_at s j = only true (lives s j) 1

  abbrev pub dead_count : KeptSession → ℕ
  dead_count s = total (dead_at s) (length (readers app))

  pub record IsOnward (aim : Aim) (n : ℕ) (s : KeptSession) : Type 0 where
    pub bodies : List ℕ
    pub after : KeptSession
    pub does : Brings app aim bodies n s after

  -- a session in which as many as the app has readers are kept, with fewer dead
  record IsFurther (s s' : KeptSession) : Type 0 where
    pub size : length s'.readers ≡ length (readers app)
    pub fewer : dead_count s' < dead_count s

  -- only an expression is wanted
  pub kept_source : (s : KeptSession) (r : Read) → kept_answer app s r ≡ None → (m : ℕ) × (r ≡ read.Expr m)
  kept_source s (read.Expr m) h = (m, refl)
  kept_source s (read.Input t) h = cc
  kept_source s (read.Value t) h = cc
  kept_source s (read.Status t) h = cc
  kept_source s (read.Result t) h = cc
  kept_source s (read.Width t) h = cc
  kept_source s (read.Height t) h = cc

  module _ (orderly : IsOrderly app) where
    abbrev R : ℕ
    R = length (readers app)

    further : (m : ℕ) (i : Node) → reader app m ≡ Some i → (bodies : List ℕ) (s s' : KeptSession) → length s.readers ≡ R → lives s m ≡ false → Brings app reading bodies m s s' → IsFurther s s'
    further m i is bodies s s' size dead b =
        let g : Goes app orderly reading m (bound_of app m i) bodies s s' = goes app orderly reading bodies m s s' b size i is in
        record {
          size = g.size ∙ size;
          fewer = total_less (dead_at s') (dead_at s) R (λ j. fewer_dead (lives s j) (lives s' j) (g.keeps j)) m (get_in (readers app) m i is) (one_less (lives s m) (lives s' m) dead g.here);
        }

    -- what can read each expression below a bound
    abbrev Reads : ℕ → Type 0
    Reads k = (m : ℕ) → IsBelow app orderly k m → (s : KeptSession) → length s.readers ≡ R → IsOnward reading m s

    -- what an evaluation on what is kept wants: nothing, or an expression below that isn't alive
    record IsWanted (k : ℕ) (s : KeptSession) (r : Read) : Type 0 where
      pub number : ℕ
      pub is : r ≡ read.Expr number
      pub below : IsBelow app orderly k number
      pub dead : lives s number ≡ false

    wanted_is : (k : ℕ) (s : KeptSession) (a : Answering) → ((r : Read) → a.read r ≡ kept_answer app s r) → (xs : List TraceEntry) (r : Read) → first_wanted a xs ≡ Some r → EveryRead (ReadsBelow app k) xs → IsWanted k s r
    wanted_is k s a same xs r w low =
        let f = found a (ReadsBelow app k) xs r w low in
        let none : kept_answer app s r ≡ None = sym (same r) ∙ f.1 in
        let e = kept_source s r none in
        record {
          number = e.0;
          is = e.1;
          below = subst (ReadsBelow app k) e.1 f.0;
          dead = unanswered_dead (lives s e.0) (kept_reader s e.0).outcome (subst (λ q. kept_answer app s q ≡ None) e.1 none);
        }

    -- ---- a reader is run

    module _ (n : ℕ) (i : Node) (is : reader app n ≡ Some i) (reads : Reads (bound_of app n i)) where
      abbrev k : ℕ
      k = bound_of app n i

      goes_on : (s : KeptSession) → length s.readers ≡ R → ((s' : KeptSession) → IsFurther s s' → IsOnward running n s') → (r : Read) → wanted app s n ≡ Some r → IsWanted k s r → IsOnward running n s
      goes_on s size more r w q =
          let first : IsOnward reading q.number s = reads q.number q.below s size in
          let e = expression_of app q.number q.below.1 in
          let rest : IsOnward running n first.after = more first.after (further q.number e.0 e.1 first.bodies s first.after size q.dead first.does) in
          record {
            bodies = first.bodies ++ rest.bodies;
            after = rest.after;
            does = Brings.waits first.bodies rest.bodies n q.number s first.after rest.after (w ∙ ap (λ z. Some z) q.is) first.does rest.does;
          }

      run_by : (s : KeptSession) → length s.readers ≡ R → ((s' : KeptSession) → IsFurther s s' → IsOnward running n s') → (w : Option Read) → wanted app s n ≡ w → IsOnward running n s
      run_by s size more None w = record { bodies = bodies_run app s n; after = run_kept app n s; does = Brings.ends n s (run_kept app n s) w (alike_itself (run_kept app n s)) }
      run_by s size more (Some r) w =
          goes_on s size more r w (wanted_is k s (answering app s n) (λ q. refl) (attempt app s n).asked r w (asked_low app orderly n i is (completed (answering app s n))))

      run_on : (d : ℕ) (s : KeptSession) → length s.readers ≡ R → dead_count s ≤ d → IsOnward running n s
      run_on zero s size h = run_by s size (λ s' f. let few = f.fewer in absurd (omega (few, h, arith))) (wanted app s n) refl
      run_on (suc d) s size h = run_by s size (λ s' f. run_on d s' f.size (let few = f.fewer in omega (few, h, arith))) (wanted app s n) refl

      pub run_onward : (s : KeptSession) → length s.readers ≡ R → IsOnward running n s
      run_onward s size = run_on (dead_count s) s size (omega arith)

    -- ---- an expression is read

    read_by : (m : ℕ) (i : Node) → reader app m ≡ Some i → Reads (bound_of app m i) → (s : KeptSession) → length s.readers ≡ R → (b : Bool) → lives s m ≡ b → IsOnward reading m s
    read_by m i is reads s size true h = record { bodies = []; after = s; does = Brings.living m s h }
    read_by m i is reads s size false h =
        let ran : IsOnward running m s = run_onward m i is reads s size in
        record { bodies = ran.bodies; after = ran.after; does = Brings.dead ran.bodies m s ran.after h ran.does }

    pub reads_all : (k : ℕ) → Reads k
    reads_all zero m b s size = let low = b.0 in absurd (omega (low, arith))
    reads_all (suc k) m b s size =
        let e = expression_of app m b.1 in
        let own : bound_of app m e.0 ≡ m = if_true (is_expression e.0) m R e.2 in
        read_by m e.0 e.1 (λ j c t z. reads_all k j (let low = b.0 in let at = c.0 in (omega (low, at, own, arith), c.1)) t z) s size (lives s m) refl

    abbrev pub CanBe : Aim → Node → Type 0
    CanBe reading i = is_expression i ≡ true
    CanBe running i = ⊤

    onward : (aim : Aim) (n : ℕ) (i : Node) → reader app n ≡ Some i → CanBe aim i → (s : KeptSession) → length s.readers ≡ R → IsOnward aim n s
    onward reading n i is x s size = reads_all R n (get_in (readers app) n i is, expression_at app n i is ∙ x) s size
    onward running n i is x s size = run_onward n i is (reads_all (bound_of app n i)) s size

    -- ---- what is begun

    -- it might have gone on so, with no fewer bodies
    pub record IsFinished (aim : Aim) (bodies : List ℕ) (n : ℕ) (s : KeptSession) : Type 0 where
      pub all : List ℕ
      pub after : KeptSession
      pub does : Brings app aim all n s after
      pub most : length bodies ≤ length all

    pub finished : (aim : Aim) (bodies : List ℕ) (n : ℕ) (s s' : KeptSession) → Begins app aim bodies n s s' → length s.readers ≡ R → (i : Node) → reader app n ≡ Some i → CanBe aim i → IsFinished aim bodies n s
    finished _ _ _ _ _ (Begins.none aim n s s' l) size i is c =
        let o : IsOnward aim n s = onward aim n i is c s size in
        record { all = o.bodies; after = o.after; does = o.does; most = omega arith }
    finished _ _ _ _ _ (Begins.dead bodies n s s' d b) size i is c =
        let f : IsFinished running bodies n s = finished running bodies n s s' b size i is tt in
        record { all = f.all; after = f.after; does = Brings.dead f.all n s f.after d f.does; most = f.most }
    finished _ _ _ _ _ (Begins.lost n s s' none l) size i is c =
        record { all = bodies_run app s n; after = run_kept app n s; does = Brings.ends n s (run_kept app n s) none (alike_itself (run_kept app n s)); most = omega arith }
    finished _ _ _ _ _ (Begins.within bodies n m s s' w b) size i is c =
        let low : IsBelow app orderly (bound_of app n i) m = wanted_below app orderly s n i is m w in
        let e = expression_of app m low.1 in
        let f : IsFinished reading bodies m s = finished reading bodies m s s' b size e.0 e.1 e.2 in
        let g : Goes app orderly reading m (bound_of app m e.0) f.all s f.after = goes app orderly reading f.all m s f.after f.does size e.0 e.1 in
        let o : IsOnward running n f.after = onward running n i is tt f.after (g.size ∙ size) in
        record {
          all = f.all ++ o.bodies;
          after = o.after;
          does = Brings.waits f.all o.bodies n m s f.after o.after w f.does o.does;
          most = (let most = f.most in let sum = length-append f.all o.bodies in omega (most, sum, arith));
        }
    finished _ _ _ _ _ (Begins.later earlier more n m s s' s'' w b rest) size i is c =
        let low : IsBelow app orderly (bound_of app n i) m = wanted_below app orderly s n i is m w in
        let e = expression_of app m low.1 in
        let g : Goes app orderly reading m (bound_of app m e.0) earlier s s' = goes app orderly reading earlier m s s' b size e.0 e.1 in
        let f : IsFinished running more n s' = finished running more n s' s'' rest (g.size ∙ size) i is tt in
        record {
          all = earlier ++ f.all;
          after = f.after;
          does = Brings.waits earlier f.all n m s s' f.after w b f.does;
          most = (let most = f.most in let sum = length-append earlier f.all in let front = length-append earlier more in omega (most, sum, front, arith));
        }

    -- ---- a term

    module _ (n : ℕ) (isolated : Bool) (t : Tree) (low : Every (ReadsBelow app R) (reads_in t)) where
      -- one that is brought to its end
      pub record IsAtEnd (bodies : List ℕ) (s : KeptSession) : Type 0 where
        pub all : List ℕ
        pub after : KeptSession
        pub outcome : Outcome
        pub does : Comes app n isolated t all s after outcome
        pub most : length bodies ≤ length all

      term_wants : (s : KeptSession) (r : Read) → first_wanted (term_answering app s) (term_attempt app s t).asked ≡ Some r → IsWanted R s r
      term_wants s r w = wanted_is R s (term_answering app s) (λ q. refl) (term_attempt app s t).asked r w (term_reads (completed (term_answering app s)) (ReadsBelow app R) t low [])

      -- first an expression is read
      after_read : (bodies earlier more : List ℕ) (m : ℕ) (s s' : KeptSession) → first_wanted (term_answering app s) (term_attempt app s t).asked ≡ Some (read.Expr m) → Brings app reading earlier m s s'
          → length bodies ≤ length earlier + length more → IsAtEnd more s' → IsAtEnd bodies s
      after_read bodies earlier more m s s' w b h f = record {
        all = earlier ++ f.all;
        after = f.after;
        outcome = f.outcome;
        does = Comes.waits earlier f.all m s s' f.after f.outcome w b f.does;
        most = (let most = f.most in let sum = length-append earlier f.all in omega (most, sum, h, arith));
      }

      term_by : (s : KeptSession) → length s.readers ≡ R → ((s' : KeptSession) → IsFurther s s' → IsAtEnd [] s') → (w : Option Read) → first_wanted (term_answering app s) (term_attempt app s t).asked ≡ w → IsAtEnd [] s
      term_by s size more None w = record { all = []; after = term_kept app n isolated t s; outcome = (term_attempt app s t).outcome; does = Comes.ends s (term_kept app n isolated t s) w (alike_itself (term_kept app n isolated t s)); most = omega arith }
      term_by s size more (Some r) w =
          let q : IsWanted R s r = term_wants s r w in
          let first : IsOnward reading q.number s = reads_all R q.number q.below s size in
          let e = expression_of app q.number q.below.1 in
          after_read [] first.bodies [] q.number s first.after (w ∙ ap (λ z. Some z) q.is) first.does (omega arith)
          (more first.after (further q.number e.0 e.1 first.bodies s first.after size q.dead first.does))

      term_on : (d : ℕ) (s : KeptSession) → length s.readers ≡ R → dead_count s ≤ d → IsAtEnd [] s
      term_on zero s size h = term_by s size (λ s' f. let few = f.fewer in absurd (omega (few, h, arith))) (first_wanted (term_answering app s) (term_attempt app s t).asked) refl
      term_on (suc d) s size h = term_by s size (λ s' f. term_on d s' f.size (let few = f.fewer in omega (few, h, arith))) (first_wanted (term_answering app s) (term_attempt app s t).asked) refl

      pub term_finished : (bodies : List ℕ) (s s' : KeptSession) → ComesUntil app n t bodies s s' → length s.readers ≡ R → IsAtEnd bodies s
      term_finished _ _ _ (ComesUntil.none s s' l) size = term_on (dead_count s) s size (omega arith)
      term_finished _ _ _ (ComesUntil.within bodies m s s' w b) size =
          let at : IsBelow app orderly R m = term_wants_below app orderly n isolated t low s m w in
          let e = expression_of app m at.1 in
          let f : IsFinished reading bodies m s = finished reading bodies m s s' b size e.0 e.1 e.2 in
          let g : Goes app orderly reading m (bound_of app m e.0) f.all s f.after = goes app orderly reading f.all m s f.after f.does size e.0 e.1 in
          after_read bodies f.all [] m s f.after w f.does (let most = f.most in omega (most, arith)) (term_on (dead_count f.after) f.after (g.size ∙ size) (omega arith))
      term_finished _ _ _ (ComesUntil.later earlier more m s s' s'' w b c) size =
          let at : IsBelow app orderly R m = term_wants_below app orderly n isolated t low s m w in
          let e = expression_of app m at.1 in
          let g : Goes app orderly reading m (bound_of app m e.0) earlier s s' = goes app orderly reading earlier m s s' b size e.0 e.1 in
          after_read (earlier ++ more) earlier more m s s' w b (let front = length-append earlier more in omega (front, arith)) (term_finished more s' s'' c (g.size ∙ size))
