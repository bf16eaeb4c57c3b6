-- Taking the first key that is the same out of a list.
use Rattle.std.proofs.Common.{◌≡◌, ℕ, ◌+◌, suc, Bool, true, false, cond, List, [], ◌∷◌, map, Option, Some, None, refl, sym, ◌∙◌, ap, arith}
use Rattle.std.specs.Prelude.{remove, position, if◌then◌else◌}
use Rattle.std.specs.List.{position_from}
use Rattle.std.proofs.lemmas.Iterator.Adapters.{position_from-zero}
use Rattle.rx_value.specs.declared.key.Key.{Key}
use Rattle.rx_value.specs.Value.{key_eq}
use Rattle.term_eval.specs.Lent.{Lent, without}
use Rattle.term_eval.specs.Tickets.{lent_for}

record Removed (ks : List Key) (rest : List Lent) (i j : ℕ) : Type 0 where
  at : ℕ
  is : j ≡ i + at
  gives : map lent_for (remove ks at) ≡ rest

some_is : (i j : ℕ) → Some i ≡ Some j → i ≡ j
some_is i j h = cc

first : (same : Bool) (k : Key) (ks : List Key) (rest : List Lent) (later : Option ℕ) (i j : ℕ) → (later ≡ Some j → Removed ks rest (i + 1) j) → cond same (Some i) later ≡ Some j
    → Removed (k ∷ ks) (if same then map lent_for ks else lent_for k ∷ rest) i j
first true k ks rest later i j more h = let e = some_is i j h in record { at = 0; is = omega arith; gives = refl }
first false k ks rest later i j more h = let r = more h in let e = r.is in record { at = suc r.at; is = omega arith; gives = ap (λ l. lent_for k ∷ l) r.gives }

removed : (key : Key) (ks : List Key) (i j : ℕ) → position_from (λ held. key_eq key held) i ks ≡ Some j → Removed ks (without key (map lent_for ks)) i j
removed key [] i j h = cc
removed key (k ∷ ks) i j h =
    first (key_eq key k) k ks (without key (map lent_for ks)) (position_from (λ held. key_eq key held) (i + 1) ks) i j (removed key ks (i + 1) j) h

pub without-first : (key : Key) (ks : List Key) (j : ℕ) → position (λ held. key_eq key held) ks ≡ Some j → map lent_for (remove ks j) ≡ without key (map lent_for ks)
without-first key ks j h = let r = removed key ks 0 j (sym (position_from-zero (λ held. key_eq key held) ks) ∙ h) in let e : j ≡ r.at = omega (arith, r.is) in ap (λ n. map lent_for (remove ks n)) e ∙ r.gives

nowhere : (same : Bool) (k : Key) (ks : List Key) (rest : List Lent) (later : Option ℕ) (i : ℕ) → (later ≡ None → map lent_for ks ≡ rest) → cond same (Some i) later ≡ None
    → lent_for k ∷ map lent_for ks ≡ (if same then map lent_for ks else lent_for k ∷ rest)
nowhere true k ks rest later i more h = cc
nowhere false k ks rest later i more h = ap (λ l. lent_for k ∷ l) (more h)

nothing : (key : Key) (ks : List Key) (i : ℕ) → position_from (λ held. key_eq key held) i ks ≡ None → map lent_for ks ≡ without key (map lent_for ks)
nothing key [] i h = refl
nothing key (k ∷ ks) i h =
    nowhere (key_eq key k) k ks (without key (map lent_for ks)) (position_from (λ held. key_eq key held) (i + 1) ks) i (nothing key ks (i + 1)) h

pub without-none : (key : Key) (ks : List Key) → position (λ held. key_eq key held) ks ≡ None → map lent_for ks ≡ without key (map lent_for ks)
without-none key ks h = nothing key ks 0 (sym (position_from-zero (λ held. key_eq key held) ks) ∙ h)
