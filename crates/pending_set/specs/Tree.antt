-- A row of places, each set or not, below a binary tree.
use Rattle.std.specs.Prelude.{◌≡◌, ◌≢◌, ℕ, ◌+◌, ◌*◌, ◌^◌, ◌<◌, ◌≤◌, Bool, true, false, ◌||◌, List, slice_index_or}

-- the nodes are numbered from 1 at the top, and below node i stand 2 i and 2 i + 1; the places begin at
-- the number that is their count
pub record Row : Type 0 where
  pub width : ℕ
  pub nodes : List Bool

abbrev pub node_at : List Bool → ℕ → Bool
node_at nodes i = slice_index_or nodes i false

abbrev pub is_set : Row → ℕ → Bool
is_set row place = node_at row.nodes (row.width + place)

-- a node is set where one below it is
abbrev pub IsNode : List Bool → ℕ → Type 0
IsNode nodes i = node_at nodes i ≡ (node_at nodes (2 * i) || node_at nodes (2 * i + 1))

abbrev pub IsTree : ℕ → List Bool → Type 0
IsTree width nodes = (i : ℕ) → 1 ≤ i → i < width → IsNode nodes i

-- all but the node above this one
abbrev pub IsTreeBut : ℕ → ℕ → List Bool → Type 0
IsTreeBut below width nodes = (i : ℕ) → 1 ≤ i → i < width → 2 * i ≢ below → 2 * i + 1 ≢ below → IsNode nodes i

-- of the nodes of a level, whose numbers begin at 2 ^ level, the first that is set
pub record IsFirst (nodes : List Bool) (level node : ℕ) : Type 0 where
  pub from : 2 ^ level ≤ node
  pub to : node < 2 ^ level + 2 ^ level
  pub found : node_at nodes node ≡ true
  pub passed : (i : ℕ) → 2 ^ level ≤ i → i < node → node_at nodes i ≡ false

-- the first place that is set
pub record IsFirstSet (row : Row) (place : ℕ) : Type 0 where
  pub within : place < row.width
  pub found : is_set row place ≡ true
  pub passed : (i : ℕ) → i < place → is_set row i ≡ false

abbrev pub NoneSet : Row → Type 0
NoneSet row = (place : ℕ) → is_set row place ≡ false
