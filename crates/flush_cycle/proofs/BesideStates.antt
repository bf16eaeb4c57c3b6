-- States that differ only in what the flush looks after: a session stands for both or for none.
use Rattle.std.proofs.Common.{◌≡◌, ℕ, zero, suc, ◌+◌, false, cond, List, [], ◌∷◌, map, length, Option, slice_get, slice_set, unwrap_or, refl, sym, ap, ◌∙◌, subst}
use Rattle.std.specs.Prelude.{not, ◌&&◌, option_map}
use Rattle.app_tree.specs.declared.term.Read.{Read}
use Rattle.app_tree.specs.declared.term.Read.TheVariants as read
use Rattle.app_tree.specs.Tree.{Shape}
use Rattle.app_tree.specs.Numbering.{readers, reader}
use Rattle.app_tree.specs.Evaluate.{Evaluation}
use Rattle.app_tree.specs.Trace.{EveryRead}
use Rattle.app_tree.specs.Fresh.{is_among, answer_to, known_expressions, kept_sites, fresh_evaluation, fresh_outcome, sources_read}
use Rattle.app_laws.proofs.WhatIsAsked.{reads_map}
use Rattle.session_model.specs.declared.state.Dependencies.{Dependencies}
use Rattle.session_model.specs.State.{SessionState, isolated_of, reader_state, sources_in, is_alive}
use Rattle.session_model.specs.Bodies.{bodies_counted}
use Rattle.session_model.specs.Standing.{IsAliveRead, IsConsistent, KeptSession, kept_reader, dependence_of, is_live, IsSameDependence, IsBehind, StandsForState, fresh_answers, is_missing, missing_below, missing_readers}

pub record IsBeside (M N : SessionState) : Type 0 where
  pub values : N.values ≡ M.values
  pub isolated : isolated_of N ≡ isolated_of M
  pub size : length N.readers ≡ length M.readers
  pub dependencies : (n : ℕ) → (reader_state N n).dependencies ≡ (reader_state M n).dependencies
  pub sites : (n : ℕ) → (reader_state N n).isolated ≡ (reader_state M n).isolated

module _ (app : Shape) (M N : SessionState) (beside : IsBeside M N) where
  alive_same : (n : ℕ) → is_alive (reader_state N n) ≡ is_alive (reader_state M n)
  alive_same n = ap (λ (o : Option Dependencies). unwrap_or (option_map (λ d. not d.changed) o) false) (beside.dependencies n)

  fresh_same : (n : ℕ) → fresh_evaluation app N.values (isolated_of N) n ≡ fresh_evaluation app M.values (isolated_of M) n
  fresh_same n = λ z. fresh_evaluation app (beside.values z) (beside.isolated z) n

  alive_read : (r : Read) → IsAliveRead M r → IsAliveRead N r
  alive_read (read.Expr m) h = alive_same m ∙ h
  alive_read (read.Input s) h = tt
  alive_read (read.Value s) h = tt
  alive_read (read.Status s) h = tt
  alive_read (read.Result s) h = tt
  alive_read (read.Width m) h = tt
  alive_read (read.Height m) h = tt

  consistent_beside : IsConsistent app M → IsConsistent app N
  consistent_beside h = record {
    size = beside.size ∙ h.size;
    sources = λ n i is e alive s.
        ap (λ d. is_among s (sources_in d)) (beside.dependencies n)
        ∙ h.sources n i is e (sym (alive_same n) ∙ alive) s
        ∙ sym (λ z. is_among s (sources_read app (beside.values z) (beside.isolated z) n));
    closed = λ n i is e alive. subst (λ (x : Evaluation). EveryRead (IsAliveRead N) x.asked) (sym (fresh_same n))
        (reads_map (IsAliveRead M) (IsAliveRead N) alive_read (fresh_evaluation app M.values (isolated_of M) n).asked (h.closed n i is e (sym (alive_same n) ∙ alive)));
  }

  pub stands_beside : (session : KeptSession) → StandsForState app session M → StandsForState app session N
  stands_beside session stands = record {
    values = stands.values ∙ sym beside.values;
    size = stands.size;
    consistent = consistent_beside stands.consistent;
    dependences = λ n bare. subst (λ d. IsSameDependence (kept_reader session n).dependence (dependence_of d)) (sym (beside.dependencies n)) (stands.dependences n bare);
    bare_dependences = λ n bare. subst (λ d. IsBehind (kept_reader session n).dependence (dependence_of d)) (sym (beside.dependencies n)) (stands.bare_dependences n bare);
    isolated = λ n bare. stands.isolated n bare ∙ sym (beside.sites n);
    outcomes = λ n i is e live. stands.outcomes n i is e live ∙ sym (λ z. fresh_outcome app (beside.values z) (beside.isolated z) n);
    running = stands.running;
  }

  counted_same : (n : ℕ) → bodies_counted (reader app n) (fresh_answers app N n) ≡ bodies_counted (reader app n) (fresh_answers app M n)
  counted_same n = λ z. bodies_counted (reader app n) (record {
    read = answer_to app (beside.values z) (known_expressions app (beside.values z) (kept_sites (beside.isolated z)));
    site = kept_sites (beside.isolated z) n;
  })

  missing_same : (session : KeptSession) (n : ℕ) → is_missing session N n ≡ is_missing session M n
  missing_same session n = ap (λ b. b && not (is_live (kept_reader session n).dependence)) (alive_same n)

  below_same : (session : KeptSession) (n : ℕ) → missing_below app session N n ≡ missing_below app session M n
  below_same session zero = refl
  below_same session (suc n) = λ z. below_same session n z + cond (missing_same session n z) (counted_same n z) 0

  pub missing_beside : (session : KeptSession) → missing_readers app session N ≡ missing_readers app session M
  missing_beside session = below_same session (length (readers app))

-- ---- one place of a list is set to what is the same to whoever looks

pub looks_same : {A B : Type 0} (look : A → B) (d : A) (xs : List A) (n m : ℕ) (x : A) → look x ≡ look (unwrap_or (slice_get xs n) d)
    → look (unwrap_or (slice_get (slice_set xs n x) m) d) ≡ look (unwrap_or (slice_get xs m) d)
looks_same look d [] n m x same = refl
looks_same look d (y ∷ xs) zero zero x same = same
looks_same look d (y ∷ xs) zero (suc m) x same = refl
looks_same look d (y ∷ xs) (suc n) zero x same = refl
looks_same look d (y ∷ xs) (suc n) (suc m) x same = looks_same look d xs n m x same

pub maps_same : {A B : Type 0} (look : A → B) (d : A) (xs : List A) (n : ℕ) (x : A) → look x ≡ look (unwrap_or (slice_get xs n) d)
    → map look (slice_set xs n x) ≡ map look xs
maps_same look d [] n x same = refl
maps_same look d (y ∷ xs) zero x same = ap (λ z. z ∷ map look xs) same
maps_same look d (y ∷ xs) (suc n) x same = ap (λ l. look y ∷ l) (maps_same look d xs n x same)
