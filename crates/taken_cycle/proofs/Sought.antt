-- A search over items has come to a place: what is left gives what the whole gives, and no more was counted than was passed.
use Rattle.std.proofs.Common.{◌≡◌, ℕ, ◌≤◌, List, Option, map, drop}
use Rattle.app_tree.specs.declared.item.Item.{Item}
use Rattle.app_tree.specs.Tree.{Node}
use Rattle.app_tree.specs.View.{node_of}

pub record Sought (from : ℕ → List ℕ → List Node → Option ℕ) (name : List ℕ) (items : List Item) (number at : ℕ) : Type 0 where
  pub rest : from number name (map node_of (drop at items)) ≡ from 0 name (map node_of items)
  pub counted : number ≤ at
