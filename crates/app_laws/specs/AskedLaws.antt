-- What an evaluation depends on.
use Rattle.std.specs.Prelude.{◌≡◌, ⊤, List}
use Rattle.rx_value.specs.declared.value.Value.{Value}
use Rattle.app_tree.specs.Tree.{Tree}
use Rattle.app_tree.specs.Trace.{Every}
use Rattle.app_tree.specs.Evaluate.{Answers, TraceEntry, reads, given, enters, leaves, evaluate}

-- what is asked has one answer by both
abbrev pub IsAnsweredAlike : Answers → Answers → TraceEntry → Type 0
IsAnsweredAlike a b (reads r) = a.read r ≡ b.read r
IsAnsweredAlike a b (given site) = a.site site ≡ b.site site
IsAnsweredAlike a b (enters site) = a.site site ≡ b.site site
IsAnsweredAlike a b (leaves site outcome) = ⊤

-- an evaluation asks only what it says, and equal answers to that give an equal evaluation
abbrev pub EqualAnswersGiveEqual : Type 0
EqualAnswersGiveEqual =
    (t : Tree) (a b : Answers) (args : List Value) → Every (IsAnsweredAlike a b) (evaluate t a args).asked → evaluate t b args ≡ evaluate t a args
