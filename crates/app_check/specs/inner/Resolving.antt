-- Replacing names by numbers, as the code goes through an item.
use Rattle.std.specs.Prelude.{ℕ, ◌+◌, List}
use Rattle.app_tree.specs.Tree.{Tree, Trees, Act, Acts}
use Rattle.app_tree.specs.DraftTree.{DraftTree, DraftTrees, DraftDeed, DraftAct, DraftActs}
use Rattle.app_tree.specs.Declarations.{Declared}
use Rattle.app_tree.specs.Resolve.{draft_site_count, draft_site_count_all, deed_site_count, act_site_count, acts_site_count, resolved_tree, resolved_trees, resolved_deed, resolved_act, resolved_acts, inner_scope}

-- the declarations of the file, the variables that are bound here, and the number of the next site
pub record Resolving : Type 0 where
  pub table : List Declared
  pub scope : List (List ℕ)
  pub site : ℕ

-- behind so many sites
abbrev pub behind_sites : Resolving → ℕ → Resolving
behind_sites r n = record r { site = r.site + n }

-- in the last part of a fold with these variables
abbrev pub in_fold : Resolving → List ℕ → List ℕ → Resolving
in_fold r accumulator element = record r { scope = inner_scope r.scope accumulator element }

-- ---- what is made of a part, and what is left behind it

abbrev pub tree_made : Resolving → DraftTree → Tree × Resolving
tree_made r t = (resolved_tree r.table r.scope r.site t, behind_sites r (draft_site_count t))

abbrev pub trees_made : Resolving → DraftTrees → Trees × Resolving
trees_made r ts = (resolved_trees r.table r.scope r.site ts, behind_sites r (draft_site_count_all ts))

-- the last part of a fold, whose variables are bound in it alone
abbrev pub last_part_made : Resolving → List ℕ → List ℕ → DraftTree → Tree × Resolving
last_part_made r accumulator element t =
    (resolved_tree r.table (inner_scope r.scope accumulator element) r.site t, behind_sites r (draft_site_count t))

abbrev pub deed_made : Resolving → DraftDeed → Act × Resolving
deed_made r d = (resolved_deed r.table r.site d, behind_sites r (deed_site_count d))

abbrev pub act_made : Resolving → DraftAct → Act × Resolving
act_made r a = (resolved_act r.table r.site a, behind_sites r (act_site_count a))

abbrev pub acts_made : Resolving → DraftActs → Acts × Resolving
acts_made r block = (resolved_acts r.table r.site block, behind_sites r (acts_site_count block))
