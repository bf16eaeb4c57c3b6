-- The checks of cached readers, which come last: whether the keys of each cover its body.
use Rattle.std.specs.Prelude.{ℕ, suc, Bool, List, [], ◌∷◌, filter, Option, Some, None}
use Rattle.app_tree.specs.declared.draft_term.Name.{Name}
use Rattle.app_tree.specs.DraftTree.{WrittenItem, DraftShape}
use Rattle.app_tree.specs.Declarations.{sort_of_form, is_reader_sort}
use Rattle.app_tree.specs.Tree.{Shape}
use Rattle.key_cover.specs.declared.coverage.Coverage.{Coverage}
use Rattle.key_cover.specs.declared.coverage.Coverage.TheVariants.{Covered, Missing, Isolated}
use Rattle.key_cover.specs.Met.{first_met}
use Rattle.read_text.specs.Spelling.{text_of_read}
use Rattle.app_check.specs.declared.error.LoadError.{LoadError}
use Rattle.app_check.specs.declared.error.LoadError.TheVariants as error

-- how a reader that is named so is refused, where this is met first in its body
abbrev pub uncovered : Shape → Name → Coverage → Option LoadError
uncovered app name Covered = None
uncovered app name (Missing r) = Some (error.Uncovered name.text (text_of_read app r) name.place)
uncovered app name (Isolated site) = Some (error.IsolateInCached name.text name.place)

abbrev pub or_later : Option LoadError → Option LoadError → Option LoadError
or_later (Some e) later = Some e
or_later None later = later

-- the first refusal of these readers, of which the first has number n in the app
abbrev pub uncovered_from : Shape → ℕ → List WrittenItem → Option LoadError
uncovered_from app n [] = None
uncovered_from app n (i ∷ more) = or_later (uncovered app i.name (first_met app n)) (uncovered_from app (suc n) more)

-- the readers as they are written, by number
abbrev pub is_written_reader : WrittenItem → Bool
is_written_reader i = is_reader_sort (sort_of_form i.form)

abbrev pub written_readers : List WrittenItem → List WrittenItem
written_readers items = filter is_written_reader items

-- the first refusal, in rising number, of the readers of a draft that stands for this app
abbrev pub first_uncovered : DraftShape → Shape → Option LoadError
first_uncovered d app = uncovered_from app 0 (written_readers d.items)
