-- What an observer's term reads.
use Rattle.std.specs.Prelude.{◌≡◌, false, List, length}
use Rattle.app_tree.specs.declared.term.Read.{Read}
use Rattle.app_tree.specs.Tree.{Tree, Node, Shape}
use Rattle.app_tree.specs.Numbering.{is_expression, readers}
use Rattle.app_tree.specs.Cover.{reads_in}
use Rattle.app_tree.specs.Trace.{Every}
use Rattle.app_laws.specs.Orderly.{ReadsBelow, ReadsSources, reads_in_node}

-- each reads an expression of the app or a source of its own
pub record AreOwn (app : Shape) (reads : List Read) : Type 0 where
  pub below : Every (ReadsBelow app (length (readers app))) reads
  pub sources : Every (ReadsSources app) reads

-- the first reads are an app's own where the second ones are
abbrev pub IsWithin : List Read → List Read → Type 0
IsWithin some all = (app : Shape) → AreOwn app all → AreOwn app some

-- the term stands in this reader, which is no expression
pub record IsTermOf (i : Node) (t : Tree) : Type 0 where
  pub apart : is_expression i ≡ false
  pub within : IsWithin (reads_in t) (reads_in_node i)
