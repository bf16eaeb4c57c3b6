-- How much there is of a statement and of a block: each part is less than the whole.
use Rattle.std.proofs.Common.{◌≡◌, ◌≤◌, ◌<◌, ℕ, zero, suc, ◌+◌, List, [], ◌∷◌, drop, ap, arith}
use Rattle.app_tree.specs.declared.statement.Statement.{Statement}
use Rattle.app_tree.specs.Tree.{Tree, Act, set, invoke, update, freeze, perform, branch, branch_else, Acts, no_acts, act}
use Rattle.app_tree.specs.View.{acts_of_block}

abbrev mutual
  pub act_weight : Act → ℕ
  act_weight (set s t) = 1
  act_weight (invoke s ts) = 1
  act_weight (update s t) = 1
  act_weight (freeze s) = 1
  act_weight (perform t) = 1
  act_weight (branch t block) = 3 + acts_weight block
  act_weight (branch_else t block other) = 2 + (acts_weight block + acts_weight other)

  pub acts_weight : Acts → ℕ
  acts_weight no_acts = 1
  acts_weight (act a more) = 1 + (act_weight a + acts_weight more)

left_lighter : (xs : List Statement) (k : ℕ) → acts_weight (acts_of_block (drop k xs)) ≤ acts_weight (acts_of_block xs)
left_lighter xs zero = omega arith
left_lighter [] (suc k) = omega arith
left_lighter (x ∷ xs) (suc k) = let rest = left_lighter xs k in omega (rest, arith)

pub item_lighter : (xs : List Statement) (k : ℕ) (a : Act) (more : Acts) → acts_of_block (drop k xs) ≡ act a more → (t : ℕ)
    → acts_weight (acts_of_block xs) ≡ t → act_weight a < t
item_lighter xs k a more is t weighs =
    let less : acts_weight (acts_of_block (drop k xs)) ≤ acts_weight (acts_of_block xs) = left_lighter xs k in
    let here : acts_weight (acts_of_block (drop k xs)) ≡ 1 + (act_weight a + acts_weight more) = ap acts_weight is in
    omega (less, here, weighs, arith)

pub alone_lighter : (a : Act) (condition : Tree) (block slice : Acts) → a ≡ branch condition block → slice ≡ block → (t : ℕ)
    → act_weight a ≡ t → suc (acts_weight slice + acts_weight no_acts) < t
alone_lighter a condition block slice is same t weighs =
    let whole : act_weight a ≡ 3 + acts_weight block = ap act_weight is in
    let part : acts_weight slice ≡ acts_weight block = ap acts_weight same in
    omega (whole, part, weighs, arith)

pub both_lighter : (a : Act) (condition : Tree) (block other slice rest : Acts) → a ≡ branch_else condition block other → slice ≡ block
    → rest ≡ other → (t : ℕ) → act_weight a ≡ t → suc (acts_weight slice + acts_weight rest) < t
both_lighter a condition block other slice rest is same alike t weighs =
    let whole : act_weight a ≡ 2 + (acts_weight block + acts_weight other) = ap act_weight is in
    let part : acts_weight slice ≡ acts_weight block = ap acts_weight same in
    let second : acts_weight rest ≡ acts_weight other = ap acts_weight alike in
    omega (whole, part, second, weighs, arith)
