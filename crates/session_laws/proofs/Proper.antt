-- What a proper app has for each of its readers.
use Rattle.std.proofs.Common.{◌≡◌, inl, inr, ◌<◌, ℕ, zero, suc, true, length, Option, Some, None, refl, sym, ap, subst, arith}
use Rattle.std.proofs.lemmas.Bool.Decides.{eqb_tells}
use Rattle.app_tree.specs.Tree.{Node, Shape}
use Rattle.app_tree.specs.Numbering.{readers, reader}
use Rattle.app_tree.specs.Cover.{cached_node, is_covered_by, is_covered, is_sound_below, is_sound}
use Rattle.app_laws.specs.Orderly.{IsOrderly}
use Rattle.app_laws.specs.Proper.{IsProper}
use Rattle.app_laws.proofs.WellOrdered.{well_formed_is_orderly}
use Rattle.app_laws.proofs.Covering.{and_left, and_right}
use Rattle.app_laws.proofs.KnownLists.{get_in}

-- each reader is covered, also those that there are not
sound_at : (app : Shape) (k n : ℕ) → n < k → is_sound_below app k ≡ true → is_covered app n ≡ true
sound_at app zero n h s = absurd (omega (h, arith))
sound_at app (suc k) n h s = elim (eqb_tells n k) [
  | inl p ↦ subst (λ z. is_covered app z ≡ true) (sym p.1) (and_right (is_sound_below app k) (is_covered app k) s)
  | inr p ↦ sound_at app k n (let d = p.1 in omega (h, d, arith)) (and_left (is_sound_below app k) (is_covered app k) s)
]

covered_where : (app : Shape) (n : ℕ) → is_sound app ≡ true → (o : Option Node) → reader app n ≡ o → is_covered app n ≡ true
covered_where app n s None is = ap (λ (o : Option Node). is_covered_by app (cached_node o)) is
covered_where app n s (Some i) is = sound_at app (length (readers app)) n (get_in (readers app) n i is) s

pub covered_all : (app : Shape) → is_sound app ≡ true → (n : ℕ) → is_covered app n ≡ true
covered_all app s n = covered_where app n s (reader app n) refl

module _ (app : Shape) (proper : IsProper app) where
  abbrev pub orderly : IsOrderly app
  orderly = well_formed_is_orderly app proper.well_formed

  abbrev pub covered : (n : ℕ) → is_covered app n ≡ true
  covered = covered_all app proper.covered
