-- What a replay has written where more lines may follow.
use Rattle.std.specs.Prelude.{◌≡◌, ℕ, suc, ◌==◌, List, [], ◌∷◌, Option, if◌then◌else◌}
use Rattle.app_tree.specs.Tree.{Shape}
use Rattle.session_model.specs.Transcript.{Line, Open, ReplayEnd, ReplayResult, done, ended_replay, replay_line}
use Rattle.session_model.specs.TakenLines.{taken_by}

-- a replay wrote this, and ended so
pub record HasWritten (output : List ℕ) (end : ReplayEnd) (r : ReplayResult) : Type 0 where
  pub wrote : r.output ≡ output
  pub ended : r.end ≡ end

abbrev pub on_first : ℕ → List (List ℕ) → List (List ℕ)
on_first b [] = []
on_first b (line ∷ more) = (b ∷ line) ∷ more

-- the lines that a line feed ends: those of `lines_of`, without a last one that has none
abbrev pub whole_lines : List ℕ → List (List ℕ)
whole_lines [] = []
whole_lines (b ∷ bs) = if b == 10 then [] ∷ whole_lines bs else on_first b (whole_lines bs)

-- these lines are replayed as by `replay_from`, but no link ends behind them
abbrev pub so_far_from : Shape → (ℕ → List Open → List ℕ → Option Line) → ℕ → List Open → List (List ℕ) → ReplayResult
so_far_from app said k sessions [] = ended_replay sessions done
so_far_from app said k sessions (line ∷ more) = replay_line app k sessions (said k sessions line) (λ next. so_far_from app said (suc k) next more)

-- the replay of the whole lines of these bytes, of which those that are taken today are taken
abbrev pub replayed_so_far : Shape → List ℕ → ReplayResult
replayed_so_far app bytes = so_far_from app (taken_by app) 1 [] (whole_lines bytes)
