-- The tree above a row of places.
use Rattle.std.proofs.Common.{◌≡◌, ℕ, zero, suc, ◌+◌, ◌-◌, ◌*◌, ◌/◌, ◌^◌, ◌<◌, ◌≤◌, Bool, true, false, ◌||◌, nat_lt, cond, List, length, refl, sym, ◌∙◌, ap, subst, arith}
use Rattle.std.proofs.lemmas.Bool.Decides.{nat_tests}
use Rattle.std.proofs.lemmas.List.{get_or_past}
use Rattle.std.proofs.Math.Pow.{pow_mono}
use Rattle.std.proofs.lemmas.Nat.{pow_pos}
use Rattle.pending_set.specs.Tree.{node_at, IsNode, IsTree, IsFirst, NoneSet}

neither : (a b c : Bool) → a ≡ (b || c) → a ≡ false → (b ≡ false) × (c ≡ false)
neither a true c is none = cc
neither a false c is none = (refl, sym is ∙ none)

second : (a b c : Bool) → a ≡ (b || c) → a ≡ true → b ≡ false → c ≡ true
second a true c is some none = cc
second a false c is some none = sym is ∙ some

pub pow-more : (level : ℕ) → 2 ^ (level + 1) ≡ 2 ^ level + 2 ^ level
pow-more level =
    let next : level + 1 ≡ suc level = omega arith in
    let twice : 2 ^ suc level ≡ 2 ^ level + 2 ^ level = omega arith in
    ap (λ (n : ℕ). 2 ^ n) next ∙ twice

-- a level that isn't the last ends before the last begins
pub pow-lower : (level height : ℕ) → level < height → 2 ^ level + 2 ^ level ≤ 2 ^ height
pow-lower level height lt = let m : 2 ^ (level + 1) ≤ 2 ^ height = pow_mono {i = level + 1} (omega arith) in subst (λ (n : ℕ). n ≤ 2 ^ height) (pow-more level) m

-- a number is the double of its half, or the next one
halved : (P : ℕ → Type 0) (j i r : ℕ) → i ≡ 2 * j + r → r < 2 → P (2 * j) → P (2 * j + 1) → P i
halved P j i zero is lt p q = subst P (omega (arith, is)) p
halved P j i (suc zero) is lt p q = subst P (omega (arith, is)) q
halved P j i (suc (suc r)) is lt p q = absurd (omega arith)

-- below a node that isn't set none is
below-none : (nodes : List Bool) (width i : ℕ) → IsTree width nodes → 1 ≤ i / 2 → i / 2 < width → node_at nodes (i / 2) ≡ false → node_at nodes i ≡ false
below-none nodes width i tree some lt none =
    let both = neither _ _ _ (tree (i / 2) some lt) none in
    halved (λ (n : ℕ). node_at nodes n ≡ false) (i / 2) i (i - 2 * (i / 2)) (omega arith) (omega arith) both.0 both.1

level-none : (nodes : List Bool) (height : ℕ) → IsTree (2 ^ height) nodes → node_at nodes 1 ≡ false → (level : ℕ) → level ≤ height → (i : ℕ) → 2 ^ level ≤ i → i < 2 ^ level + 2 ^ level → node_at nodes i ≡ false
level-none nodes height tree none zero le i from to = subst (λ (n : ℕ). node_at nodes n ≡ false) (omega arith) none
level-none nodes height tree none (suc level) le i from to =
    let more : 2 ^ suc level ≡ 2 ^ level + 2 ^ level = omega arith in
    let lower : 2 ^ level + 2 ^ level ≤ 2 ^ height = pow-lower level height (omega arith) in
    let some : 1 ≤ 2 ^ level = pow_pos level in
    below-none nodes (2 ^ height) i tree (omega (arith, more, from, some)) (omega (arith, more, to, lower))
    (level-none nodes height tree none level (omega arith) (i / 2) (omega (arith, more, from)) (omega (arith, more, to)))

place-none : (nodes : List Bool) (height place : ℕ) → length nodes ≡ 2 ^ height + 2 ^ height → IsTree (2 ^ height) nodes → node_at nodes 1 ≡ false → (b : Bool) → nat_lt place (2 ^ height) ≡ b → node_at nodes (2 ^ height + place) ≡ false
place-none nodes height place long tree none true within = level-none nodes height tree none height (omega arith) (2 ^ height + place) (omega arith) (grind (arith, nat_tests, within))
place-none nodes height place long tree none false behind = get_or_past nodes (2 ^ height + place) false (grind (arith, nat_tests, behind, long))

pub NoneSet-top : (nodes : List Bool) (width height : ℕ) → width ≡ 2 ^ height → length nodes ≡ width + width → IsTree width nodes → node_at nodes 1 ≡ false → NoneSet (record { width = width; nodes = nodes })
NoneSet-top nodes width height is long tree none place =
    let long_is : length nodes ≡ 2 ^ height + 2 ^ height = omega (arith, is, long) in
    subst (λ (n : ℕ). node_at nodes (n + place) ≡ false) (sym is) (place-none nodes height place long_is (subst (λ (n : ℕ). IsTree n nodes) is tree) none _ refl)

-- the top is the first of its level
pub IsFirst-top : (nodes : List Bool) → node_at nodes 1 ≡ true → IsFirst nodes 0 1
IsFirst-top nodes some = record { from = omega arith; to = omega arith; found = some; passed = λ i from lt. absurd (omega arith) }

-- one level lower
lower-passed : (nodes : List Bool) (height level node i : ℕ) → IsTree (2 ^ height) nodes → level < height → IsFirst nodes level node → 2 ^ (level + 1) ≤ i → i < 2 * node → node_at nodes i ≡ false
lower-passed nodes height level node i tree lt first from before =
    let more = pow-more level in
    let lower = pow-lower level height lt in
    let some : 1 ≤ 2 ^ level = pow_pos level in
    below-none nodes (2 ^ height) i tree (omega (arith, more, from, some)) (omega (arith, before, first.to, lower))
    (first.passed (i / 2) (omega (arith, more, from)) (omega (arith, before)))

lower-left : (nodes : List Bool) (height level node : ℕ) → IsTree (2 ^ height) nodes → level < height → IsFirst nodes level node → node_at nodes (2 * node) ≡ true → IsFirst nodes (level + 1) (2 * node)
lower-left nodes height level node tree lt first found = record {
  from = omega (arith, pow-more level, first.from);
  to = omega (arith, pow-more level, first.to);
  found = found;
  passed = λ i from before. lower-passed nodes height level node i tree lt first from before;
}

passed-left : (nodes : List Bool) (height level node i : ℕ) → IsTree (2 ^ height) nodes → level < height → IsFirst nodes level node → node_at nodes (2 * node) ≡ false → 2 ^ (level + 1) ≤ i → i < 2 * node + 1 → (b : Bool) → nat_lt i (2 * node) ≡ b → node_at nodes i ≡ false
passed-left nodes height level node i tree lt first none from before true less = lower-passed nodes height level node i tree lt first from (grind (arith, nat_tests, less))
passed-left nodes height level node i tree lt first none from before false last = subst (λ (n : ℕ). node_at nodes n ≡ false) (grind (arith, nat_tests, last, before)) none

lower-right : (nodes : List Bool) (height level node : ℕ) → IsTree (2 ^ height) nodes → level < height → IsFirst nodes level node → node_at nodes (2 * node) ≡ false → IsFirst nodes (level + 1) (2 * node + 1)
lower-right nodes height level node tree lt first none =
    let some : 1 ≤ 2 ^ level = pow_pos level in
    let node_is : IsNode nodes node = tree node (omega (arith, some, first.from)) (omega (arith, first.to, pow-lower level height lt)) in
    record {
      from = omega (arith, pow-more level, first.from);
      to = omega (arith, pow-more level, first.to);
      found = second _ _ _ node_is first.found none;
      passed = λ i from before. passed-left nodes height level node i tree lt first none from before _ refl;
    }

lower-by : (nodes : List Bool) (height level node : ℕ) → IsTree (2 ^ height) nodes → level < height → IsFirst nodes level node → (b : Bool) → node_at nodes (2 * node) ≡ b → IsFirst nodes (level + 1) (cond b (2 * node) (2 * node + 1))
lower-by nodes height level node tree lt first true found = lower-left nodes height level node tree lt first found
lower-by nodes height level node tree lt first false none = lower-right nodes height level node tree lt first none

pub IsFirst-lower : (nodes : List Bool) (height level node next : ℕ) → IsTree (2 ^ height) nodes → level < height → IsFirst nodes level node → next ≡ cond (node_at nodes (2 * node)) (2 * node) (2 * node + 1) → IsFirst nodes (level + 1) next
IsFirst-lower nodes height level node next tree lt first is = subst (IsFirst nodes (level + 1)) (sym is) (lower-by nodes height level node tree lt first _ refl)
