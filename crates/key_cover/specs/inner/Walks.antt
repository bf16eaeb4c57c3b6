-- What a call of the walk goes by: an app, and the keys of one of its readers.
use Rattle.std.specs.Prelude.{◌≤◌, ℕ, Bool, List, length}
use Rattle.app_tree.specs.declared.term.Read.{Read}
use Rattle.app_tree.specs.Tree.{Tree, Trees, Shape}
use Rattle.app_tree.specs.Numbering.{readers}
use Rattle.app_tree.specs.View.{shape_of, trees_of_terms}
use Rattle.key_cover.specs.declared.coverage.Coverage.{Coverage}
use Rattle.key_cover.specs.declared.walking.Walk.{Walk}
use Rattle.key_cover.specs.Met.{met_in_read, met_in, met_in_all, met_below}
use Rattle.key_cover.specs.inner.Walked.{HasWalked}

abbrev pub app_of : Walk → Shape
app_of walk = shape_of walk.app.now

abbrev pub keys_of : Walk → Trees
keys_of walk = trees_of_terms walk.keys.now

abbrev pub before : Walk → ℕ → List Coverage
before walk below = met_below (app_of walk) (keys_of walk) below

-- what is met in a read, in a term and in terms, where the readers of a number below this one stand before
abbrev pub met_for_read : Walk → ℕ → Read → Coverage
met_for_read walk below r = met_in_read (keys_of walk) (before walk below) r

abbrev pub met_for : Walk → ℕ → Tree → Coverage
met_for walk below t = met_in (keys_of walk) (before walk below) t

abbrev pub met_for_all : Walk → ℕ → Trees → Coverage
met_for_all walk below ts = met_in_all (keys_of walk) (before walk below) ts

-- the marks are those of this walk
abbrev pub IsMarked : Walk → List Bool → Type 0
IsMarked walk marks = HasWalked (app_of walk) (keys_of walk) marks

abbrev pub IsWithin : Walk → ℕ → Type 0
IsWithin walk below = below ≤ length (readers (app_of walk))
