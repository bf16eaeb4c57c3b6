-- What a term of the observer that runs reads may be reached, and what it wants can be made alive first.
use Rattle.std.proofs.Common.{◌≡◌, ◌≢◌, ◌<◌, ℕ, Bool, true, false, List, [], ◌++◌, length, Option, Some, None, refl, sym, ap, ◌∙◌, subst, arith}
use Rattle.std.specs.Prelude.{◌||◌, Result, Ok, Err}
use Rattle.std.proofs.lemmas.Bool.{false≢true}
use Rattle.std.proofs.lemmas.List.{length-append}
use Rattle.rx_value.specs.declared.memory.Memory.{Memory}
use Rattle.rx_value.specs.declared.outcome.Outcome.{Outcome}
use Rattle.app_tree.specs.declared.term.Read.{Read}
use Rattle.app_tree.specs.declared.term.Read.TheVariants as read
use Rattle.app_tree.specs.Tree.{Node, Tree, Shape}
use Rattle.app_tree.specs.Numbering.{readers, reader, is_output, is_observer, starting_values, width_source, height_source}
use Rattle.app_tree.specs.Cover.{reads_in}
use Rattle.app_tree.specs.Evaluate.{Evaluation}
use Rattle.app_tree.specs.Fresh.{is_expression_at}
use Rattle.app_tree.specs.Trace.{Every, EveryRead}
use Rattle.app_tree.specs.Wanted.{completed, first_wanted}
use Rattle.app_laws.specs.Orderly.{ReadsBelow}
use Rattle.app_laws.specs.Proper.{IsProper}
use Rattle.app_laws.proofs.WhatIsAsked.{every_map, every_zip, reads_zip}
use Rattle.app_laws.proofs.KnownLists.{get_in}
use Rattle.session_model.specs.Flush.{is_observer_at}
use Rattle.session_model.specs.Standing.{KeptSession, kept_reader}
use Rattle.session_model.specs.Observing.{with_reads as state_with_reads}
use Rattle.session_laws.proofs.Proper.{orderly as orderly_of, covered as covered_of}
use Rattle.session_laws.proofs.Right.{observer_alone}
use Rattle.session_laws.proofs.Walking.{expression_of}
use Rattle.session_steps.specs.Keeping.{lives, kept_answer, IsAlike}
use Rattle.session_steps.specs.Bringing.{Aim, reading, running, Brings, IsLost}
use Rattle.session_steps.specs.Acting.{term_answering, term_attempt, term_kept, reads_kept, Comes, ComesUntil}
use Rattle.session_steps.proofs.Alike.{alike_stands}
use Rattle.session_steps.proofs.BodiesAsked.{term_reads}
use Rattle.session_steps.proofs.BodiesOnce.{goes}
use Rattle.session_steps.proofs.Observers.{IsOfLive, reads_stand}
use Rattle.session_steps.proofs.Wanting.{IsLiveRead, live_all, found, unanswered_dead}
use Rattle.dep_graph.specs.declared.on.On.{On}
use Rattle.react_session.specs.Forcing.{Forced}
use Rattle.react_session.specs.Holding.{StandsForSome}
use Rattle.app_laws.specs.Orderly.{ReadsSources}
use Rattle.react_session.specs.Terms.{TermComes}
use Rattle.react_session.specs.inner.Making.{dead_below, Stopped}
use Rattle.react_session.specs.inner.Storing.{MayReach, StandsInAnyOrder}
use Rattle.react_session.specs.inner.Terms.{reached_kept}
use Rattle.react_session.specs.inner.Trail.{on_of_read, with_reads}
use Rattle.session_steps.proofs.AlikeSessions.{alike_itself, alike_trans}
use Rattle.react_session.proofs.Beginning.{observer_at}
use Rattle.react_session.proofs.Waited.{dead_fewer}
use Rattle.react_session.proofs.TermsMembers.{with_reads_every, IsOfOther, reads_alike, reads_nothing}
use Rattle.react_session.proofs.TermsParts.{outside_read}

-- ---- sessions that differ in the order of sources alone

pub alike_stand : (app : Shape) (s s' : KeptSession) → IsAlike s s' → StandsForSome app s → StandsForSome app s'
alike_stand app s s' a h = record { state = h.state; stands = alike_stands app s s' h.state h.stands a }

-- no expression is an observer
expression_apart : (o : Option Node) → is_expression_at o ≡ true → is_observer_at o ≡ true → ⊥
expression_apart None h p = false≢true h
expression_apart (Some i) h p = false≢true (sym (observer_alone i p) ∙ ap (λ b. b || is_output i) h)

-- ---- what runs

-- the observer that runs is the same after an expression was made alive
pub brings_running : (app : Shape) (aim : Aim) (bodies : List ℕ) (m : ℕ) (s s' : KeptSession) → Brings app aim bodies m s s' → s'.running ≡ s.running
brings_running app _ _ _ _ _ (Brings.living m s l) = refl
brings_running app _ _ _ _ _ (Brings.dead bodies m s s' d b) = brings_running app running bodies m s s' b
brings_running app _ _ _ _ _ (Brings.ends m s s' none a) = sym a.running
brings_running app _ _ _ _ _ (Brings.hits m c xs s s' cached none values a) = sym a.running
brings_running app _ _ _ _ _ (Brings.waits earlier later m k s s' s'' w b c) = brings_running app running later m s' s'' c ∙ brings_running app reading earlier k s s' b

-- ---- a term

module _ (app : Shape) (n : ℕ) (s : KeptSession) (t : Tree) (low : Every (ReadsBelow app (length (readers app))) (reads_in t)) where
  abbrev e : Evaluation
  e = term_attempt app s t

  asked_of : (P : Read → Type 0) → Every P (reads_in t) → EveryRead P e.asked
  asked_of P h = term_reads (completed (term_answering app s)) P t h []

  -- ---- it wants nothing
  module _ (proper : IsProper app) (own : Every (ReadsSources app) (reads_in t)) (sources : length s.values ≡ length (starting_values app.items)) (stands : StandsForSome app s) (runs : s.running ≡ Some n)
      (none : first_wanted (term_answering app s) (term_attempt app s t).asked ≡ None) where
    observed : is_observer_at (reader app n) ≡ true
    observed = (stands.stands.running n runs).observer

    within : n < length s.readers
    within = let o = observer_at (reader app n) observed in subst (λ z. n < z) (sym stands.stands.size) (get_in (readers app) n o.0 o.1)

    apart : (m : ℕ) → is_expression_at (reader app m) ≡ true → m ≢ n
    apart m x q = expression_apart (reader app n) (subst (λ z. is_expression_at (reader app z) ≡ true) q x) observed

    own_source : (k : ℕ) → k < length (starting_values app.items) → k < length s.values
    own_source k h = subst (λ z. k < z) (sym sources) h

    abbrev IsOwn : Read → Type 0
    IsOwn r = ReadsBelow app (length (readers app)) r × ReadsSources app r

    abbrev May : Read → Type 0
    May r = MayReach app n s (on_of_read app r)

    may : (r : Read) → IsOwn r → IsLiveRead app s r → May r
    may (read.Expr m) h l = (apart m h.0.1, h.0.1, l)
    may (read.Input k) h l = own_source k h.1
    may (read.Value k) h l = own_source k h.1
    may (read.Status k) h l = own_source k h.1
    may (read.Result k) h l = own_source k h.1
    may (read.Width m) h l = own_source (width_source app m) h.1
    may (read.Height m) h l = own_source (height_source app m) h.1

    outside_may : Every May e.outside
    outside_may = outside_read (completed (term_answering app s)) May t []
        (reads_zip IsOwn (IsLiveRead app s) May may e.asked
        (asked_of IsOwn (every_zip (ReadsBelow app (length (readers app))) (ReadsSources app) IsOwn (λ r l o. (l, o)) (reads_in t) low own))
        (live_all app s (λ site. None) e.asked none))

    of_other : (r : Read) → May r → IsOfOther app n r
    of_other (read.Expr m) h = h.0
    of_other (read.Input k) h = tt
    of_other (read.Value k) h = tt
    of_other (read.Status k) h = tt
    of_other (read.Result k) h = tt
    of_other (read.Width m) h = tt
    of_other (read.Height m) h = tt

    others : Every (IsOfOther app n) e.outside
    others = every_map May (IsOfOther app n) of_other e.outside outside_may

    module _ (i : Node) (is : reader app n ≡ Some i) (observer : is_observer i ≡ true) where
      of_live : (r : Read) → May r → IsOfLive app (orderly_of app proper) (covered_of app proper) n i is observer s r
      of_live (read.Expr m) h = (h.1, h.2)
      of_live (read.Input k) h = tt
      of_live (read.Value k) h = tt
      of_live (read.Status k) h = tt
      of_live (read.Result k) h = tt
      of_live (read.Width m) h = tt
      of_live (read.Height m) h = tt

      reads_stand_then : StandsForSome app (reads_kept app n e.outside s)
      reads_stand_then = record {
        state = state_with_reads app n e.outside stands.state;
        stands = reads_stand app (orderly_of app proper) (covered_of app proper) n i is observer e.outside s stands.state
            (every_map May (IsOfLive app (orderly_of app proper) (covered_of app proper) n i is observer s) of_live e.outside outside_may) stands.stands;
      }

    reads_stand_for : StandsForSome app (reads_kept app n e.outside s)
    reads_stand_for = let o = observer_at (reader app n) observed in reads_stand_then o.0 o.1 o.2

    -- what is noted
    module _ (ons : List On) (noted : ons ≡ with_reads app [] (term_attempt app s t).outside) where
      pub notes_reached : Every (MayReach app n s) ons
      notes_reached = subst (Every (MayReach app n s)) (sym noted) (with_reads_every app (MayReach app n s) e.outside [] tt outside_may)

      -- no change has overtaken the observer
      module _ (live : lives s n ≡ true) where
        pub notes_alike : IsAlike (reads_kept app n e.outside s) (reached_kept n ons s)
        notes_alike = subst (λ z. IsAlike (reads_kept app n e.outside s) (reached_kept n z s)) (sym noted) (reads_alike app n s e.outside others within live)

        pub notes_stand : StandsInAnyOrder app (reached_kept n ons s)
        notes_stand other a = alike_stand app (reads_kept app n e.outside s) other (alike_trans (reads_kept app n e.outside s) (reached_kept n ons s) other notes_alike a) reads_stand_for

        pub notes_counted : (s' : KeptSession) → IsAlike (reached_kept n ons s) s' → IsAlike (term_kept app n false t s) s'
        notes_counted s' a = alike_trans (reads_kept app n e.outside s) (reached_kept n ons s) s' notes_alike a

    -- where nothing counts the session stays as it is
    pub nothing_counts : (isolated : Bool) → (isolated ≡ false → lives s n ≡ false) → IsAlike (term_kept app n isolated t s) s
    nothing_counts true h = alike_itself s
    nothing_counts false h = reads_nothing app n s e.outside others within (h refl)

  pub term_ends : (isolated : Bool) (s' : KeptSession) (before after : ℕ) (outcome : Outcome) → first_wanted (term_answering app s) (term_attempt app s t).asked ≡ None
      → outcome ≡ (term_attempt app s t).outcome → IsAlike (term_kept app n isolated t s) s' → after ≡ before → TermComes app n isolated t s s' before after (Ok outcome)
  term_ends isolated s' before after outcome none is a h = record {
    bodies = [];
    comes = subst (λ x. Comes app n isolated t [] s s' x) (sym is) (Comes.ends s s' none a);
    counts = omega (h, arith);
  }

  pub term_lost : (isolated : Bool) (s' : KeptSession) (before after : ℕ) (m : Memory) → IsLost n s s' → after ≡ before → TermComes app n isolated t s s' before after (Err m)
  term_lost isolated s' before after m l h = record { bodies = []; comes = ComesUntil.none s s' l; counts = omega (h, arith) }

  -- ---- it wants expression m
  module _ (m : ℕ) (wants : first_wanted (term_answering app s) (term_attempt app s t).asked ≡ Some (read.Expr m)) where
    wanted_is : ReadsBelow app (length (readers app)) (read.Expr m) × (kept_answer app s (read.Expr m) ≡ None)
    wanted_is = found (term_answering app s) (ReadsBelow app (length (readers app))) e.asked (read.Expr m) wants (asked_of (ReadsBelow app (length (readers app))) low)

    pub wanted_expression : is_expression_at (reader app m) ≡ true
    wanted_expression = wanted_is.0.1

    pub wanted_fewer : IsProper app → length s.readers ≡ length (readers app) → (s' : KeptSession) (bodies : List ℕ) → Brings app reading bodies m s s' → dead_below (length (readers app)) s' < dead_below (length (readers app)) s
    wanted_fewer proper size s' bodies b =
        let x = expression_of app m wanted_expression in
        let g = goes app (orderly_of app proper) reading bodies m s s' b size x.0 x.1 in
        dead_fewer s s' g.keeps m (length (readers app)) (unanswered_dead (lives s m) (kept_reader s m).outcome wanted_is.1) g.here wanted_is.0.0

    pub term_within : (isolated : Bool) (s' : KeptSession) (before after : ℕ) (failed : Memory) → Stopped app reading m s s' before after → TermComes app n isolated t s s' before after (Err failed)
    term_within isolated s' before after failed f = record { bodies = f.bodies; comes = ComesUntil.within f.bodies m s s' wants f.begins; counts = f.counts }

    pub term_waits : (isolated : Bool) (s' s'' : KeptSession) (before between after : ℕ) (result : Result Outcome Memory) → Forced app reading m s s' before between
        → TermComes app n isolated t s' s'' between after result → TermComes app n isolated t s s'' before after result
    term_waits isolated s' s'' before between after (Ok outcome) f c = record {
      bodies = f.bodies ++ c.bodies;
      comes = Comes.waits f.bodies c.bodies m s s' s'' outcome wants f.brings c.comes;
      counts = let first = f.counts in let rest = c.counts in let both = length-append f.bodies c.bodies in omega (first, rest, both, arith);
    }
    term_waits isolated s' s'' before between after (Err failed) f c = record {
      bodies = f.bodies ++ c.bodies;
      comes = ComesUntil.later f.bodies c.bodies m s s' s'' wants f.brings c.comes;
      counts = let first = f.counts in let rest = c.counts in let both = length-append f.bodies c.bodies in omega (first, rest, both, arith);
    }
