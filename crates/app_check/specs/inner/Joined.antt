-- One list of terms, or of statements, behind another.
use Rattle.app_tree.specs.Tree as app
use Rattle.app_tree.specs.Tree.{Trees, Acts}
use Rattle.app_check.specs.inner.Resolving.{Resolving}

abbrev pub joined : Trees → Trees → Trees
joined app.no_trees more = more
joined (app.tree t ts) more = app.tree t (joined ts more)

abbrev pub joined_made : Trees → Trees × Resolving → Trees × Resolving
joined_made before made = (joined before made.0, made.1)

abbrev pub joined_acts : Acts → Acts → Acts
joined_acts app.no_acts more = more
joined_acts (app.act a block) more = app.act a (joined_acts block more)

abbrev pub joined_acts_made : Acts → Acts × Resolving → Acts × Resolving
joined_acts_made before made = (joined_acts before made.0, made.1)
