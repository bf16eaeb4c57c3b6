-- A term of an observer runs each body at most once.
use Rattle.std.proofs.Common.{◌≡◌, inl, inr, ◌<◌, ◌≤◌, ℕ, Bool, true, false, List, [], ◌++◌, length, Some, refl, ◌∙◌, subst}
use Rattle.std.specs.Prelude.{nat_eq}
use Rattle.std.specs.List.{IsDistinct}
use Rattle.rx_value.specs.declared.outcome.Outcome.{Outcome}
use Rattle.app_tree.specs.declared.term.Read.TheVariants as read
use Rattle.app_tree.specs.Tree.{Tree, Shape}
use Rattle.app_tree.specs.Numbering.{readers}
use Rattle.app_tree.specs.Cover.{reads_in}
use Rattle.app_tree.specs.Trace.{Every}
use Rattle.app_tree.specs.Wanted.{completed, first_wanted}
use Rattle.app_laws.specs.Orderly.{ReadsBelow, bound_of, IsOrderly}
use Rattle.app_laws.proofs.WhatIsAsked.{both_of, every_map}
use Rattle.session_model.specs.Standing.{KeptSession}
use Rattle.session_laws.proofs.Proper.{orderly as orderly_of}
use Rattle.session_laws.proofs.Moving.{not_both}
use Rattle.session_laws.proofs.Walking.{expression_of}
use Rattle.session_steps.specs.Keeping.{lives}
use Rattle.session_steps.specs.Bringing.{reading}
use Rattle.session_steps.specs.Acting.{term_answering, term_attempt, Comes, ComesUntil}
use Rattle.session_steps.specs.BodyLaws.{TermRunsNoMore}
use Rattle.session_steps.proofs.Wanting.{found}
use Rattle.session_steps.proofs.BodiesListed.{distinct_none, distinct_join, no_more}
use Rattle.session_steps.proofs.BodiesAsked.{term_reads}
use Rattle.session_steps.proofs.BodiesOnce.{IsBelow, IsAmong, among_below, Goes, goes, Begun, begun}

module _ (app : Shape) (orderly : IsOrderly app) (n : ℕ) (isolated : Bool) (t : Tree) (low : Every (ReadsBelow app (length (readers app))) (reads_in t)) where
  abbrev R : ℕ
  R = length (readers app)

  -- the bodies that a term runs, whose readers were dead
  pub record Runs (bodies : List ℕ) (s : KeptSession) : Type 0 where
    pub once : IsDistinct nat_eq bodies
    pub was : Every (λ j. lives s j ≡ false) bodies
    pub below : Every (IsBelow app orderly R) bodies

  pub term_wants_below : (s : KeptSession) (m : ℕ) → first_wanted (term_answering app s) (term_attempt app s t).asked ≡ Some (read.Expr m) → IsBelow app orderly R m
  term_wants_below s m w =
      (found (term_answering app s) (ReadsBelow app R) (term_attempt app s t).asked (read.Expr m) w (term_reads (completed (term_answering app s)) (ReadsBelow app R) t low [])).0

  runs_none : (s : KeptSession) → Runs [] s
  runs_none s = record { once = distinct_none; was = tt; below = tt }

  joined : (m k : ℕ) (s s' : KeptSession) (earlier later : List ℕ) → Goes app orderly reading m k earlier s s' → ((j : ℕ) → IsAmong app orderly m k j → IsBelow app orderly R j) → Runs later s' → Runs (earlier ++ later) s
  joined m k s s' earlier later g within r = record {
    once = distinct_join (λ j. lives s' j ≡ true) (λ j. lives s' j ≡ false) (λ x y p q e. not_both (subst (λ z. lives s' z ≡ true) e p) q) earlier later g.once r.once g.live r.was;
    was = both_of (λ j. lives s j ≡ false) earlier later g.was (every_map (λ j. lives s' j ≡ false) (λ j. lives s j ≡ false) (λ j d. was_dead j (lives s j) refl d) later r.was);
    below = both_of (IsBelow app orderly R) earlier later (every_map (IsAmong app orderly m k) (IsBelow app orderly R) within earlier g.among) r.below;
  }
    where
      was_dead : (j : ℕ) (b : Bool) → lives s j ≡ b → lives s' j ≡ false → lives s j ≡ false
      was_dead j false h d = h
      was_dead j true h d = absurd (not_both (g.keeps j h) d)

  pub runs : (bodies : List ℕ) (s s' : KeptSession) (x : Outcome) → Comes app n isolated t bodies s s' x → length s.readers ≡ length (readers app) → Runs bodies s
  runs _ _ _ _ (Comes.ends s s' none a) size = runs_none s
  runs _ _ _ _ (Comes.waits earlier later m s s' s'' x w b c) size =
      let l : IsBelow app orderly R m = term_wants_below s m w in
      let e = expression_of app m l.1 in
      let g : Goes app orderly reading m (bound_of app m e.0) earlier s s' = goes app orderly reading earlier m s s' b size e.0 e.1 in
      joined m (bound_of app m e.0) s s' earlier later g (among_below app orderly m e.0 e.1 R l) (runs later s' s'' x c (g.size ∙ size))

  pub runs_until : (bodies : List ℕ) (s s' : KeptSession) → ComesUntil app n t bodies s s' → length s.readers ≡ length (readers app) → Runs bodies s
  runs_until _ _ _ (ComesUntil.none s s' l) size = runs_none s
  runs_until _ _ _ (ComesUntil.within bodies m s s' w b) size =
      let l : IsBelow app orderly R m = term_wants_below s m w in
      let e = expression_of app m l.1 in
      let g : Begun app orderly reading m (bound_of app m e.0) bodies s = begun app orderly reading bodies m s s' b size e.0 e.1 in
      record { once = g.once; was = g.was; below = every_map (IsAmong app orderly m (bound_of app m e.0)) (IsBelow app orderly R) (among_below app orderly m e.0 e.1 R l) bodies g.among }
  runs_until _ _ _ (ComesUntil.later earlier more m s s' s'' w b c) size =
      let l : IsBelow app orderly R m = term_wants_below s m w in
      let e = expression_of app m l.1 in
      let g : Goes app orderly reading m (bound_of app m e.0) earlier s s' = goes app orderly reading earlier m s s' b size e.0 e.1 in
      joined m (bound_of app m e.0) s s' earlier more g (among_below app orderly m e.0 e.1 R l) (runs_until more s' s'' c (g.size ∙ size))

  pub runs_no_more : (bodies : List ℕ) (s : KeptSession) → Runs bodies s → length bodies ≤ R
  runs_no_more bodies s r = no_more bodies R r.once (every_map (IsBelow app orderly R) (λ j. j < R) (λ j b. b.0) bodies r.below)

pub term_runs_no_more : TermRunsNoMore
term_runs_no_more app p s s' size n isolated t low bodies x (inl c) =
    runs_no_more app (orderly_of app p) n isolated t low bodies s (runs app (orderly_of app p) n isolated t low bodies s s' x c size)
term_runs_no_more app p s s' size n isolated t low bodies x (inr c) =
    runs_no_more app (orderly_of app p) n isolated t low bodies s (runs_until app (orderly_of app p) n isolated t low bodies s s' c size)
