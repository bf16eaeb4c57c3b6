-- A printed app reads back.
use Rattle.rx_value.specs.declared.memory.Memory.{Memory}
use Rattle.std.specs.Prelude.{OnOk}
use Rattle.std.proofs.Common.{◌≡◌, ℕ, true, List, [], Result, Ok, Err, None, sym, ap, ◌∙◌}
use Rattle.app_tree.specs.Tree.{Shape}
use Rattle.app_tree.specs.DraftTree.{DraftShape}
use Rattle.app_tree.specs.Fits.{fits}
use Rattle.app_tree.specs.Named.{named}
use Rattle.app_tree.specs.Unplaced.{unplaced}
use Rattle.app_tree.specs.Resolve.{resolved}
use Rattle.app_tree.specs.Faults.{faults, first_with, accepted_or, checked}
use Rattle.app_tree.specs.WellFormed.{IsWellFormed}
use Rattle.app_tree.proofs.Fitting.{fits_unplaced}
use Rattle.app_tree.proofs.Naming.{named_resolved}
use Rattle.app_tree.proofs.Places.{passes_alike, resolved_alike}
use Rattle.app_check.specs.Words.{has_words}
use Rattle.app_check.proofs.LastChecks.{gives_where_sound}
use Rattle.app_printer.specs.Laws.{ReadsBack}
use Rattle.app_printer.proofs.DraftLaws.{text_is_read}
use Rattle.app_printer.proofs.NamedLaws.{named_is_unplaced}

checked_alike : (d e : DraftShape) → unplaced d ≡ unplaced e → faults d ≡ [] → checked e ≡ Ok (resolved d)
checked_alike d e same none =
    ap (λ rs. accepted_or (first_with None rs) (resolved e)) (passes_alike d e same none) ∙ ap Ok (sym (resolved_alike d e same))

pub reads_back : (app : Shape) → IsWellFormed app → has_words (named app) ≡ true → ReadsBack app
reads_back app good words =
    let as_written : named app ≡ unplaced good.draft = ap named (sym good.stands) ∙ named_resolved good.draft good.passes in
    let fit : fits (named app) ≡ true = ap fits as_written ∙ fits_unplaced good.draft ∙ good.fits in
    let back = text_is_read (named app) fit words in
    let same : unplaced good.draft ≡ unplaced back.1 = sym (back.2.same ∙ named_is_unplaced app ∙ as_written) in
    let stands = checked_alike good.draft back.1 same good.passes ∙ ap Ok good.stands in
    record {
      tokens = back.0;
      draft = back.1;
      cut = back.2.cut;
      is_read = back.2.is_read;
      stands = stands;
      accepted = (gives_where_sound back.1 app stands).1;
    }

-- what was printed reads back
pub printed_back : (app : Shape) (r : Result (List ℕ) Memory) → IsWellFormed app → OnOk r (has_words (named app) ≡ true → ReadsBack app)
printed_back app (Ok t) good = λ words. reads_back app good words
printed_back app (Err m) good = tt
