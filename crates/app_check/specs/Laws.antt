-- What the first of several refusals is.
use Rattle.std.specs.Prelude.{◌≡◌, ◌↔◌, ◌<◌, ℕ, true, false, ◌⊎◌, List, [], ◌∷◌, Some, Ok, Err, slice_get}
use Rattle.app_tree.specs.declared.refusal.Refusal.{Refusal}
use Rattle.app_tree.specs.Tree.{Shape}
use Rattle.app_tree.specs.DraftTree.{WrittenItem, DraftShape}
use Rattle.app_tree.specs.Cover.{is_covered, is_sound}
use Rattle.app_tree.specs.Resolve.{resolved}
use Rattle.app_tree.specs.Faults.{faults, precedes, checked}
use Rattle.key_cover.specs.Met.{first_met}
use Rattle.app_check.specs.declared.error.LoadError.{LoadError}
use Rattle.app_check.specs.CachedReaders.{uncovered, written_readers}
use Rattle.app_check.specs.Load.{checked_app}

-- the refusal is one of these
abbrev pub IsOne : Refusal → List Refusal → Type 0
IsOne r [] = ⊥
IsOne r (s ∷ more) = (r ≡ s) ⊎ IsOne r more

-- none of these precedes the refusal
abbrev pub NonePrecedes : List Refusal → Refusal → Type 0
NonePrecedes rs r = (s : Refusal) → IsOne s rs → precedes s r ≡ false

-- it is one of them, and none of them precedes it
pub record IsFirst (r : Refusal) (rs : List Refusal) : Type 0 where
  pub one : IsOne r rs
  pub first : NonePrecedes rs r

-- what refuses a draft is the first of the checks that it fails
abbrev pub RefusesFirst : Type 0
RefusesFirst = (d : DraftShape) (r : Refusal) → checked d ≡ Err r → IsFirst r (faults d)

-- a draft gives an app exactly where it fails no check, and then the app that it stands for
abbrev pub GivesWherePasses : Type 0
GivesWherePasses = (d : DraftShape) → (checked d ≡ Ok (resolved d)) ↔ (faults d ≡ [])

-- ---- cached readers, where no other check refuses the draft

-- a reader is refused, and each reader before it is covered or isn't cached
pub record IsFirstUncovered (d : DraftShape) (app : Shape) (e : LoadError) : Type 0 where
  pub number : ℕ
  pub reader : WrittenItem
  pub written : slice_get (written_readers d.items) number ≡ Some reader
  pub refused : uncovered app reader.name (first_met app number) ≡ Some e
  pub before : (m : ℕ) → m < number → is_covered app m ≡ true

-- what refuses the draft is what is met in the first reader that its keys don't cover
abbrev pub RefusesFirstUncovered : Type 0
RefusesFirstUncovered = (d : DraftShape) (app : Shape) (e : LoadError) → checked d ≡ Ok app → checked_app d ≡ Err e → IsFirstUncovered d app e

-- the draft gives its app exactly where the app is sound
abbrev pub GivesWhereSound : Type 0
GivesWhereSound = (d : DraftShape) (app : Shape) → checked d ≡ Ok app → (checked_app d ≡ Ok app) ↔ (is_sound app ≡ true)
