-- What the lines that are taken today are of a whole replay.
use Rattle.std.specs.Prelude.{◌≡◌, ℕ, List}
use Rattle.app_tree.specs.Tree.{Shape}
use Rattle.session_model.specs.Transcript.{done, replayed}
use Rattle.session_model.specs.TakenLines.{replayed_today}

-- a transcript that is taken to its end is taken so as a whole, has the same output, and leaves the same session with
-- the same journal
abbrev pub TakenIsWhole : Type 0
TakenIsWhole =
    (app : Shape) (bytes : List ℕ) → (replayed_today app bytes).end ≡ done
    → replayed app bytes ≡ replayed_today app bytes
