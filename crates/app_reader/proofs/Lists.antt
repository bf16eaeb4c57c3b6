-- Lists of terms and their plain data.
use Rattle.std.proofs.Common.{◌≡◌, ℕ, List, length, sym, ap}
use Rattle.std.specs.Prelude.{nat_lt}
use Rattle.std.proofs.lemmas.List.{length-map}
use Rattle.app_tree.specs.declared.draft_term.DraftTerm.{DraftTerm}
use Rattle.app_tree.specs.DraftView.{draft_tree_of}
use Rattle.app_reader.specs.inner.View.{trees_of}

pub fewer : (ts : List DraftTerm) (n : ℕ) → nat_lt (length ts) n ≡ nat_lt (length (trees_of ts)) n
fewer ts n = ap (λ k. nat_lt k n) (sym (length-map ts draft_tree_of))
