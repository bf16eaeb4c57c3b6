-- What contracts see of an `App` and of a `Draft`.
use Rattle.std.specs.Prelude.{ℕ, List}
use Rattle.app_tree.specs.declared.item.Item.{Item}
use Rattle.app_tree.specs.declared.draft_item.DraftItem.{DraftItem}

pub record Held : Type 0 where
  pub budget : ℕ
  pub items : List Item

pub record HeldDraft : Type 0 where
  pub budget : ℕ
  pub items : List DraftItem
