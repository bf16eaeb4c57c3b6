-- An observer that has reached the reads of a term one after another has reached what the evaluation has noted.
use Rattle.std.proofs.Common.{◌≡◌, ◌≢◌, inl, inr, ◌<◌, ℕ, Bool, true, false, List, [], ◌∷◌, ◌++◌, length, refl, sym, ap, ◌∙◌, subst}
use Rattle.std.specs.Prelude.{⊤, ◌||◌, if◌then◌else◌}
use Rattle.std.proofs.lemmas.Bool.{false≢true}
use Rattle.std.proofs.lemmas.Bool.Decides.{eqb_tells}
use Rattle.app_tree.specs.declared.term.Read.{Read}
use Rattle.app_tree.specs.declared.term.Read.TheVariants as read
use Rattle.app_tree.specs.Tree.{Shape}
use Rattle.app_tree.specs.Trace.{Every}
use Rattle.app_tree.specs.Fresh.{is_among, union}
use Rattle.app_laws.proofs.WhatIsAsked.{both_of}
use Rattle.session_model.specs.Standing.{HasSameMembers, Dependence, never_run, stale, alive, is_live, IsSameDependence, KeptReader, KeptSession, kept_reader}
use Rattle.session_steps.specs.Keeping.{lives, reached_by, with_kept, IsAlikeReader, IsAlike}
use Rattle.session_steps.specs.Acting.{reached_in, more_reached, reads_kept}
use Rattle.session_steps.proofs.KeptReaders.{kept_here, kept_there, kept_size}
use Rattle.session_steps.proofs.Members.{union_same}
use Rattle.dep_graph.specs.declared.on.On.{On}
use Rattle.dep_graph.specs.declared.on.On.TheVariants as on
use Rattle.dep_graph.proofs.Same.{among_union}
use Rattle.react_session.specs.inner.Storing.{sources_of_on, with_members}
use Rattle.react_session.specs.inner.Terms.{reached_kept}
use Rattle.react_session.specs.inner.Trail.{on_of_read, on_eq, is_on, with_on, with_reads}
use Rattle.react_session.proofs.ByNumber.{by_number}
use Rattle.session_steps.proofs.AlikeSessions.{alike_itself}

-- ---- what is noted, each once

or_none : (b : Bool) → (b || false) ≡ b
or_none true = refl
or_none false = refl

or_more : (a b c : Bool) → ((a || b) || c) ≡ (a || (b || c))
or_more true b c = refl
or_more false b c = refl

or_first : (a b : Bool) → ((a || b) || a) ≡ (a || b)
or_first true b = refl
or_first false b = or_none b

or_later : (a b c : Bool) → (b || c) ≡ b → ((a || b) || c) ≡ (a || b)
or_later true b c h = refl
or_later false b c h = h

on_is : (o p : On) → on_eq o p ≡ true → o ≡ p
on_is (on.Source s) (on.Source t) h = elim (eqb_tells s t) [ inl q ↦ ap on.Source q.1 | inr q ↦ absurd (false≢true (sym q.0 ∙ h)) ]
on_is (on.Expr m) (on.Expr n) h = elim (eqb_tells m n) [ inl q ↦ ap on.Expr q.1 | inr q ↦ absurd (false≢true (sym q.0 ∙ h)) ]
on_is (on.Source s) (on.Expr n) h = absurd (false≢true h)
on_is (on.Expr m) (on.Source t) h = absurd (false≢true h)

-- what holds of each that is read holds of each that is noted
with_on_every : (P : On → Type 0) (ons : List On) (o : On) → Every P ons → P o → Every P (with_on ons o)
with_on_every P ons o h p = by (is_on o ons)
  where
    by : (b : Bool) → Every P (if b then ons else ons ++ o ∷ [])
    by true = h
    by false = both_of P ons (o ∷ []) h (p, tt)

pub with_reads_every : (app : Shape) (P : On → Type 0) (rs : List Read) (ons : List On) → Every P ons → Every (λ r. P (on_of_read app r)) rs → Every P (with_reads app ons rs)
with_reads_every app P [] ons h k = h
with_reads_every app P (r ∷ rs) ons h k = with_reads_every app P rs (with_on ons (on_of_read app r)) (with_on_every P ons (on_of_read app r) h k.0) k.1

module _ (s : KeptSession) where
  -- whether one of these leads to source k
  abbrev leads : ℕ → List On → Bool
  leads k [] = false
  leads k (o ∷ more) = is_among k (sources_of_on s o) || leads k more

  members_are : (k : ℕ) (ons : List On) (xs : List ℕ) → is_among k (with_members s xs ons) ≡ (is_among k xs || leads k ons)
  members_are k [] xs = sym (or_none (is_among k xs))
  members_are k (o ∷ ons) xs =
      members_are k ons (union xs (sources_of_on s o))
      ∙ ap (λ b. b || leads k ons) (among_union k xs (sources_of_on s o))
      ∙ or_more (is_among k xs) (is_among k (sources_of_on s o)) (leads k ons)

  leads_more : (k : ℕ) (ons : List On) (o : On) → leads k (ons ++ o ∷ []) ≡ (leads k ons || is_among k (sources_of_on s o))
  leads_more k [] o = or_none (is_among k (sources_of_on s o))
  leads_more k (p ∷ ons) o =
      ap (λ b. is_among k (sources_of_on s p) || b) (leads_more k ons o)
      ∙ sym (or_more (is_among k (sources_of_on s p)) (leads k ons) (is_among k (sources_of_on s o)))

  -- one that is noted already leads to nothing new
  leads_already : (k : ℕ) (ons : List On) (o : On) → is_on o ons ≡ true → (leads k ons || is_among k (sources_of_on s o)) ≡ leads k ons
  leads_already k [] o h = absurd (false≢true h)
  leads_already k (p ∷ ons) o h = by (on_eq p o) refl (leads_already k ons o)
    where
      by : (b : Bool) → on_eq p o ≡ b → (is_on o ons ≡ true → (leads k ons || is_among k (sources_of_on s o)) ≡ leads k ons)
          → ((is_among k (sources_of_on s p) || leads k ons) || is_among k (sources_of_on s o)) ≡ (is_among k (sources_of_on s p) || leads k ons)
      by true e rest = subst (λ q. ((is_among k (sources_of_on s p) || leads k ons) || is_among k (sources_of_on s q)) ≡ (is_among k (sources_of_on s p) || leads k ons)) (on_is p o e) (or_first (is_among k (sources_of_on s p)) (leads k ons))
      by false e rest = or_later (is_among k (sources_of_on s p)) (leads k ons) (is_among k (sources_of_on s o)) (rest (sym (ap (λ b. b || is_on o ons) e) ∙ h))

  leads_with : (k : ℕ) (ons : List On) (o : On) → leads k (with_on ons o) ≡ (leads k ons || is_among k (sources_of_on s o))
  leads_with k ons o = by (is_on o ons) refl
    where
      by : (b : Bool) → is_on o ons ≡ b → leads k (if b then ons else ons ++ o ∷ []) ≡ (leads k ons || is_among k (sources_of_on s o))
      by true e = sym (leads_already k ons o e)
      by false e = leads_more k ons o

  one_more : (ons : List On) (o : On) (xs : List ℕ) → HasSameMembers (union (with_members s xs ons) (sources_of_on s o)) (with_members s xs (with_on ons o))
  one_more ons o xs k =
      among_union k (with_members s xs ons) (sources_of_on s o)
      ∙ ap (λ b. b || is_among k (sources_of_on s o)) (members_are k ons xs)
      ∙ or_more (is_among k xs) (leads k ons) (is_among k (sources_of_on s o))
      ∙ ap (λ b. is_among k xs || b) (sym (leads_with k ons o))
      ∙ sym (members_are k (with_on ons o) xs)

-- ---- one read after another

module _ (app : Shape) (n : ℕ) where
  -- not of reader n
  abbrev pub IsOfOther : Read → Type 0
  IsOfOther (read.Expr m) = m ≢ n
  IsOfOther r = ⊤

  abbrev reader_then : KeptSession → Read → KeptReader
  reader_then s r = record (kept_reader s n) { dependence = more_reached (reached_in app s r) (kept_reader s n).dependence }

  reads_values : (rs : List Read) (s : KeptSession) → (reads_kept app n rs s).values ≡ s.values
  reads_values [] s = refl
  reads_values (r ∷ rs) s = reads_values rs (with_kept n (reader_then s r) s)

  reads_running : (rs : List Read) (s : KeptSession) → (reads_kept app n rs s).running ≡ s.running
  reads_running [] s = refl
  reads_running (r ∷ rs) s = reads_running rs (with_kept n (reader_then s r) s)

  reads_size : (rs : List Read) (s : KeptSession) → length (reads_kept app n rs s).readers ≡ length s.readers
  reads_size [] s = refl
  reads_size (r ∷ rs) s = reads_size rs (with_kept n (reader_then s r) s) ∙ kept_size s n (reader_then s r)

  reads_there : (m : ℕ) → m ≢ n → (rs : List Read) (s : KeptSession) → kept_reader (reads_kept app n rs s) m ≡ kept_reader s m
  reads_there m d [] s = refl
  reads_there m d (r ∷ rs) s = reads_there m d rs (with_kept n (reader_then s r) s) ∙ kept_there s n m (reader_then s r) d

  module _ (old : KeptSession) where
    -- what the observer depends on then
    abbrev more_all : List Read → Dependence → Dependence
    more_all [] d = d
    more_all (r ∷ rs) d = more_all rs (more_reached (reached_in app old r) d)

    reached_same : (s : KeptSession) → ((m : ℕ) → m ≢ n → kept_reader s m ≡ kept_reader old m) → (r : Read) → IsOfOther r → reached_in app s r ≡ reached_in app old r
    reached_same s same (read.Expr m) d = ap (λ (k : KeptReader). reached_by k.dependence) (same m d)
    reached_same s same (read.Input t) d = refl
    reached_same s same (read.Value t) d = refl
    reached_same s same (read.Status t) d = refl
    reached_same s same (read.Result t) d = refl
    reached_same s same (read.Width m) d = refl
    reached_same s same (read.Height m) d = refl

    reads_here : (rs : List Read) → Every IsOfOther rs → (s : KeptSession) → ((m : ℕ) → m ≢ n → kept_reader s m ≡ kept_reader old m) → n < length s.readers
        → (d : Dependence) → kept_reader s n ≡ record (kept_reader old n) { dependence = d }
        → kept_reader (reads_kept app n rs s) n ≡ record (kept_reader old n) { dependence = more_all rs d }
    reads_here [] others s same within d is = is
    reads_here (r ∷ rs) others s same within d is =
        reads_here rs others.1 (with_kept n (reader_then s r) s) (λ m e. kept_there s n m (reader_then s r) e ∙ same m e)
        (subst (λ z. n < z) (sym (kept_size s n (reader_then s r))) within) (more_reached (reached_in app old r) d)
        (kept_here s n (reader_then s r) within ∙ (λ j. record {
          dependence = more_reached (reached_same s same r others.0 j) (is j).dependence;
          isolated = (is j).isolated;
          outcome = (is j).outcome;
        }))

    on_reached : (r : Read) → reached_in app old r ≡ sources_of_on old (on_of_read app r)
    on_reached (read.Expr m) = refl
    on_reached (read.Input t) = refl
    on_reached (read.Value t) = refl
    on_reached (read.Status t) = refl
    on_reached (read.Result t) = refl
    on_reached (read.Width m) = refl
    on_reached (read.Height m) = refl

    more_alive : (rs : List Read) (ons : List On) (xs ys : List ℕ) → HasSameMembers xs (with_members old ys ons) → IsSameDependence (more_all rs (alive xs)) (alive (with_members old ys (with_reads app ons rs)))
    more_alive [] ons xs ys h = h
    more_alive (r ∷ rs) ons xs ys h =
        more_alive rs (with_on ons (on_of_read app r)) (union xs (reached_in app old r)) ys
        (λ k. union_same xs (reached_in app old r) (with_members old ys ons) (sources_of_on old (on_of_read app r)) h (λ j. ap (is_among j) (on_reached r)) k
        ∙ one_more old ons (on_of_read app r) ys k)

    more_live : (d : Dependence) → is_live d ≡ true → (rs : List Read) → IsSameDependence (more_all rs d) (alive (with_members old (reached_by d) (with_reads app [] rs)))
    more_live never_run h rs = absurd (false≢true h)
    more_live stale h rs = absurd (false≢true h)
    more_live (alive xs) h rs = more_alive rs [] xs xs (λ k. refl)

    -- one that isn't alive depends on nothing more
    more_dead : (d : Dependence) → is_live d ≡ false → (rs : List Read) → more_all rs d ≡ d
    more_dead d h [] = refl
    more_dead never_run h (r ∷ rs) = more_dead never_run h rs
    more_dead stale h (r ∷ rs) = more_dead stale h rs
    more_dead (alive xs) h (r ∷ rs) = absurd (false≢true (sym h))

    module _ (rs : List Read) (others : Every IsOfOther rs) (within : n < length old.readers) where
      abbrev d : Dependence
      d = (kept_reader old n).dependence

      read_here : kept_reader (reads_kept app n rs old) n ≡ record (kept_reader old n) { dependence = more_all rs d }
      read_here = reads_here rs others old (λ m e. refl) within d refl

      -- where no change has overtaken it
      pub reads_alike : lives old n ≡ true → IsAlike (reads_kept app n rs old) (reached_kept n (with_reads app [] rs) old)
      reads_alike live = record {
        values = reads_values rs old;
        size = reads_size rs old ∙ sym (kept_size old n reached);
        readers = by_number (λ m. IsAlikeReader (kept_reader (reads_kept app n rs old) m) (kept_reader (with_kept n reached old) m)) n
            (subst (λ k. IsAlikeReader k (kept_reader (with_kept n reached old) n)) (sym read_here)
            (subst (IsAlikeReader (record (kept_reader old n) { dependence = more_all rs d })) (sym (kept_here old n reached within))
            (record { dependence = more_live d live rs; isolated = refl; outcome = refl })))
            (λ m e. subst (λ k. IsAlikeReader k (kept_reader (with_kept n reached old) m)) (sym (reads_there m e rs old))
            (subst (IsAlikeReader (kept_reader old m)) (sym (kept_there old n m reached e)) ((alike_itself old).readers m)));
        running = reads_running rs old;
      }
        where
          reached : KeptReader
          reached = record (kept_reader old n) { dependence = alive (with_members old (reached_by (kept_reader old n).dependence) (with_reads app [] rs)) }

      -- and where one has
      pub reads_nothing : lives old n ≡ false → IsAlike (reads_kept app n rs old) old
      reads_nothing dead = record {
        values = reads_values rs old;
        size = reads_size rs old;
        readers = by_number (λ m. IsAlikeReader (kept_reader (reads_kept app n rs old) m) (kept_reader old m)) n
            (subst (λ k. IsAlikeReader k (kept_reader old n)) (sym (read_here ∙ ap (λ z. record (kept_reader old n) { dependence = z }) (more_dead d dead rs))) ((alike_itself old).readers n))
            (λ m e. subst (λ k. IsAlikeReader k (kept_reader old m)) (sym (reads_there m e rs old)) ((alike_itself old).readers m));
        running = reads_running rs old;
      }
