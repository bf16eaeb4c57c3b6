-- Sessions that are alike: the order in which sources stand says nothing.
use Rattle.std.proofs.Common.{◌≡◌, ◌<◌, ◌≤◌, inl, inr, ℕ, zero, suc, List, [], ◌∷◌, length, refl, sym, ap, ◌∙◌, subst, arith}
use Rattle.std.specs.Prelude.{slice_set}
use Rattle.std.proofs.lemmas.Bool.{cases_lt}
use Rattle.std.proofs.lemmas.Bool.Decides.{eqb_tells}
use Rattle.session_model.specs.Standing.{Dependence, IsSameDependence, KeptReader, KeptSession, kept_reader}
use Rattle.session_laws.proofs.StandingLaws.{same_itself}
use Rattle.session_steps.specs.Keeping.{with_kept, IsAlikeReader, IsAlike}
use Rattle.session_steps.proofs.Dependences.{same_before}
use Rattle.session_steps.proofs.KeptReaders.{kept_here, kept_there, kept_size}

dependence_sym : (d e : Dependence) → IsSameDependence d e → IsSameDependence e d
dependence_sym d e p = same_before d e d p (same_itself d)

pub reader_itself : (r : KeptReader) → IsAlikeReader r r
reader_itself r = record { dependence = same_itself r.dependence; isolated = refl; outcome = refl }

pub alike_itself : (s : KeptSession) → IsAlike s s
alike_itself s = record { values = refl; size = refl; readers = λ n. reader_itself (kept_reader s n); running = refl }

pub alike_sym : (s t : KeptSession) → IsAlike s t → IsAlike t s
alike_sym s t a = record {
  values = sym a.values;
  size = sym a.size;
  readers = λ n. record {
    dependence = dependence_sym (kept_reader s n).dependence (kept_reader t n).dependence (a.readers n).dependence;
    isolated = sym (a.readers n).isolated;
    outcome = sym (a.readers n).outcome;
  };
  running = sym a.running;
}

-- both are alike to a third
pub alike_both : (s t u : KeptSession) → IsAlike s t → IsAlike s u → IsAlike t u
alike_both s t u a b = record {
  values = sym a.values ∙ b.values;
  size = sym a.size ∙ b.size;
  readers = λ n. record {
    dependence = same_before (kept_reader s n).dependence (kept_reader t n).dependence (kept_reader u n).dependence (a.readers n).dependence (b.readers n).dependence;
    isolated = sym (a.readers n).isolated ∙ (b.readers n).isolated;
    outcome = sym (a.readers n).outcome ∙ (b.readers n).outcome;
  };
  running = sym a.running ∙ b.running;
}

pub alike_trans : (s t u : KeptSession) → IsAlike s t → IsAlike t u → IsAlike s u
alike_trans s t u a b = alike_both t s u (alike_sym s t a) b

-- ---- one reader is written

set_past : {A : Type 0} (xs : List A) (n : ℕ) (x : A) → length xs ≤ n → slice_set xs n x ≡ xs
set_past [] n x h = refl
set_past (y ∷ xs) zero x h = absurd (omega (h, arith))
set_past (y ∷ xs) (suc n) x h = ap (λ l. y ∷ l) (set_past xs n x (omega (h, arith)))

pub with_same : (s t : KeptSession) → IsAlike s t → (n : ℕ) (r other : KeptReader) → IsAlikeReader r other → IsAlike (with_kept n r s) (with_kept n other t)
with_same s t a n r other alike = record {
  values = a.values;
  size = kept_size s n r ∙ a.size ∙ sym (kept_size t n other);
  readers = λ m. elim (eqb_tells m n) [
    | inl p ↦ subst (λ (z : ℕ). IsAlikeReader (kept_reader (with_kept n r s) z) (kept_reader (with_kept n other t) z)) (sym p.1) here
    | inr p ↦ subst (λ z. z) (λ j. IsAlikeReader (sym (kept_there s n m r p.1) j) (sym (kept_there t n m other p.1) j)) (a.readers m)
  ];
  running = a.running;
}
  where
    here : IsAlikeReader (kept_reader (with_kept n r s) n) (kept_reader (with_kept n other t) n)
    here = elim (cases_lt n (length s.readers)) [
      | inl within ↦ subst (λ z. z) (λ j. IsAlikeReader (sym (kept_here s n r within) j) (sym (kept_here t n other (subst (λ z. n < z) a.size within)) j)) alike
      | inr past ↦ subst (λ z. z) (λ j. IsAlikeReader (kept_reader (record s { readers = sym (set_past s.readers n r past) j }) n) (kept_reader (record t { readers = sym (set_past t.readers n other (subst (λ z. z ≤ n) a.size past)) j }) n)) (a.readers n)
    ]
