-- What the terms of an app are written as, by the names in scope.
use Rattle.std.specs.Prelude.{ℕ, List, []}
use Rattle.app_tree.specs.Tree.{Tree, Trees}
use Rattle.app_tree.specs.Declarations.{Declared}
use Rattle.app_tree.specs.Named.{named_tree, named_trees}
use Rattle.app_printer.specs.inner.Names.{ScopeNames}
use Rattle.app_printer.specs.Canonical.{term_text, terms_text}

abbrev pub text_in : ScopeNames → Tree → List ℕ
text_in names t = term_text (named_tree names.table names.variables t)

abbrev pub texts_in : ScopeNames → Trees → List ℕ
texts_in names ts = terms_text (named_trees names.table names.variables ts)

-- where no variable is in scope
abbrev pub closed_text : List Declared → Tree → List ℕ
closed_text table t = term_text (named_tree table [] t)

abbrev pub closed_texts : List Declared → Trees → List ℕ
closed_texts table ts = terms_text (named_trees table [] ts)
