-- Walking through what the run of a reader asks.
use Rattle.std.proofs.Common.{◌≡◌, ◌<◌, ℕ, true, false, List, [], ◌∷◌, ◌++◌, length, Option, Some, None, refl, sym, ap, ◌∙◌, arith, append_assoc, append-nil}
use Rattle.rx_value.specs.declared.outcome.Outcome.{Outcome}
use Rattle.app_tree.specs.declared.term.Read.{Read}
use Rattle.app_tree.specs.declared.term.Read.TheVariants as read
use Rattle.app_tree.specs.Tree.{Node, Shape}
use Rattle.app_tree.specs.Numbering.{reader, is_expression}
use Rattle.app_tree.specs.Current.{told}
use Rattle.app_tree.specs.Evaluate.{Answers, TraceEntry, reads, given, enters, leaves}
use Rattle.app_tree.specs.Fresh.{known_at, answer_to, is_expression_at, fresh_outcome}
use Rattle.session_model.specs.declared.state.ReaderState.{ReaderState}
use Rattle.session_model.specs.State.{SessionState, isolated_of, reader_state, is_alive}
use Rattle.session_model.specs.Reading.{VisitResult}
use Rattle.session_model.specs.Run.{with_isolated, keeping_manner, passing_manner}
use Rattle.app_laws.specs.Orderly.{ReadsBelow, IsOrderly}
use Rattle.app_tree.specs.Trace.{OfRead, EveryRead}
use Rattle.app_laws.specs.Recorded.{given_outcome, recorded}
use Rattle.session_laws.specs.Now.{known_now, walk_of_entry, walk_of_trace}
use Rattle.session_model.specs.Standing.{IsAliveRead}
use Rattle.session_laws.specs.Sound.{IsSound}
use Rattle.session_laws.proofs.States.{state_here}
use Rattle.session_laws.proofs.Staying.{KeepsAlive, alive_by}
use Rattle.session_laws.proofs.Freshness.{expression_now}
use Rattle.session_laws.proofs.Moving.{Steps, steps_keep, Moves, moves_step, dead_sound, dead_keeps, dead_moves, Good, Visits}
use Rattle.session_laws.proofs.Threading.{Serves, IsSourceRead}

some_at : (o : Option Node) → is_expression_at o ≡ true → (i : Node) × (o ≡ Some i) × (is_expression i ≡ true)
some_at None h = cc
some_at (Some i) h = (i, refl, h)

pub expression_of : (app : Shape) (m : ℕ) → is_expression_at (reader app m) ≡ true → (i : Node) × (reader app m ≡ Some i) × (is_expression i ≡ true)
expression_of app m h = some_at (reader app m) h

module _ (app : Shape) (orderly : IsOrderly app) (k : ℕ) (visit : ℕ → SessionState → VisitResult) (good : Good app k visit)
    (M : SessionState) (n : ℕ) (inside : n < length M.readers) (dead : is_alive (reader_state M n) ≡ false) (apart : (N O : SessionState) → Steps app k N O → reader_state O n ≡ reader_state N n) where
  -- a state in the midst of the run of reader n, which began at M
  pub record IsMid (N : SessionState) : Type 0 where
    pub sound : IsSound app N
    pub moves : Moves app k n M N

  mid_inside : (N : SessionState) → IsMid N → n < length N.readers
  mid_inside N f = let size = f.moves.size in omega (inside, size, arith)

  pub mid_dead : (N : SessionState) → IsMid N → is_alive (reader_state N n) ≡ false
  mid_dead N f = ap alive_by f.moves.dependencies ∙ dead

  abbrev Low : Read → Type 0
  Low = ReadsBelow app k

  abbrev pub answers : (ℕ → Option Outcome) → Answers
  answers site = record { read = answer_to app M.values (known_now app M); site = site }

  told_same : (r : Read) → IsSourceRead r → (N : SessionState) → IsMid N → told app N.values r ≡ answer_to app M.values (known_now app M) r
  told_same (read.Expr m) q N f = absurd q
  told_same (read.Input s) q N f = ap (λ v. told app v (read.Input s)) f.moves.same.values
  told_same (read.Value s) q N f = ap (λ v. told app v (read.Value s)) f.moves.same.values
  told_same (read.Status s) q N f = ap (λ v. told app v (read.Status s)) f.moves.same.values
  told_same (read.Result s) q N f = ap (λ v. told app v (read.Result s)) f.moves.same.values
  told_same (read.Width m) q N f = ap (λ v. told app v (read.Width m)) f.moves.same.values
  told_same (read.Height m) q N f = ap (λ v. told app v (read.Height m)) f.moves.same.values

  pub visit_mid : (m : ℕ) → Low (read.Expr m) → (N : SessionState) → IsMid N → IsMid (visit m N).state
  visit_mid m h N f = let v = good m h.0 h.1 N f.sound in record { sound = v.sound; moves = moves_step app f.moves v.steps (apart N (visit m N).state v.steps) }

  visit_gives : (m : ℕ) → Low (read.Expr m) → (N : SessionState) → IsMid N → fresh_outcome app (visit m N).state.values (isolated_of (visit m N).state) m ≡ (known_at (known_now app M) m).outcome
  visit_gives m h N f =
      let v = good m h.0 h.1 N f.sound in
      let e = expression_of app m h.1 in
      expression_now app orderly (visit m N).state v.sound m e.0 e.1 e.2 v.alive
      ∙ ap (λ l. (known_at l m).outcome) (v.steps.same.known ∙ f.moves.same.known)

  abbrev kept_reader : ℕ → Outcome → SessionState → ReaderState
  kept_reader s x N = record (reader_state N n) { isolated = (reader_state N n).isolated ++ (s, x) ∷ [] }

  pub keep_mid : (s : ℕ) (x : Outcome) (N : SessionState) → IsMid N → IsMid (with_isolated n s x N)
  keep_mid s x N f = record {
    sound = dead_sound app orderly N n (mid_inside N f) (mid_dead N f) (kept_reader s x N) refl f.sound;
    moves = dead_moves app orderly N n (mid_inside N f) (mid_dead N f) (kept_reader s x N) refl k M dead refl refl f.moves;
  }

  pub keeping_serves : (site : ℕ → Option Outcome) → Serves app (keeping_manner visit n) (answers site) Low IsMid
  keeping_serves site = record { source = told_same; gives = visit_gives; visits = visit_mid; keeps = keep_mid }

  pub passing_serves : (site : ℕ → Option Outcome) → Serves app (passing_manner visit) (answers site) Low IsMid
  passing_serves site = record { source = told_same; gives = visit_gives; visits = visit_mid; keeps = λ s x N f. f }

  -- ---- what the walk leaves
  pub record Walked (site : ℕ → Option Outcome) (xs : List TraceEntry) (N O : SessionState) : Type 0 where
    pub mid : IsMid O
    pub keeps : KeepsAlive app N O
    pub alive : EveryRead (IsAliveRead O) xs
    pub isolated : (reader_state O n).isolated ≡ (reader_state N n).isolated ++ recorded site xs

  abbrev next : (ℕ → Option Outcome) → TraceEntry → SessionState → SessionState
  next site x N = (walk_of_entry (keeping_manner visit n) site x N).state

  still : (site : ℕ → Option Outcome) (x : TraceEntry) (xs : List TraceEntry) (N O : SessionState) → OfRead (IsAliveRead O) x → recorded site (x ∷ xs) ≡ recorded site xs → Walked site xs N O → Walked site (x ∷ xs) N O
  still site x xs N O here none w = record { mid = w.mid; keeps = w.keeps; alive = (here, w.alive); isolated = w.isolated ∙ ap (λ l. (reader_state N n).isolated ++ l) (sym none) }

  visited : (site : ℕ → Option Outcome) (m : ℕ) (xs : List TraceEntry) (N O : SessionState) → Visits app k m N (visit m N).state → is_expression_at (reader app m) ≡ true → Walked site xs (visit m N).state O → Walked site (reads (read.Expr m) ∷ xs) N O
  visited site m xs N O v e w = record {
    mid = w.mid;
    keeps = λ j x a. w.keeps j x (steps_keep app v.steps j x a);
    alive = (w.keeps m e v.alive, w.alive);
    isolated = w.isolated ∙ ap (λ (r : ReaderState). r.isolated ++ recorded site xs) (apart N (visit m N).state v.steps);
  }

  keep_isolated : (s : ℕ) (x : Outcome) (N : SessionState) → IsMid N → (reader_state (with_isolated n s x N) n).isolated ≡ (reader_state N n).isolated ++ (s, x) ∷ []
  keep_isolated s x N f = ap (λ (r : ReaderState). r.isolated) (state_here N n (kept_reader s x N) (mid_inside N f))

  kept : (site : ℕ → Option Outcome) (s : ℕ) (x : Outcome) (y : TraceEntry) (xs : List TraceEntry) (N O : SessionState) → IsMid N → OfRead (IsAliveRead O) y → recorded site (y ∷ xs) ≡ (s, x) ∷ recorded site xs → Walked site xs (with_isolated n s x N) O → Walked site (y ∷ xs) N O
  kept site s x y xs N O f here one w = record {
    mid = w.mid;
    keeps = λ j e a. w.keeps j e (dead_keeps app orderly N n (mid_inside N f) (mid_dead N f) (kept_reader s x N) refl j e a);
    alive = (here, w.alive);
    isolated = w.isolated ∙ ap (λ l. l ++ recorded site xs) (keep_isolated s x N f) ∙ append_assoc (reader_state N n).isolated ((s, x) ∷ []) (recorded site xs) ∙ ap (λ l. (reader_state N n).isolated ++ l) (sym one);
  }

  pub walk : (site : ℕ → Option Outcome) (xs : List TraceEntry) → EveryRead Low xs → (N : SessionState) → IsMid N → Walked site xs N (walk_of_trace (keeping_manner visit n) site xs N).state
  walk site [] h N f = record { mid = f; keeps = λ j e a. a; alive = tt; isolated = sym (append-nil (reader_state N n).isolated) }
  walk site (reads (read.Expr m) ∷ xs) h N f = visited site m xs N _ (good m h.0.0 h.0.1 N f.sound) h.0.1 (walk site xs h.1 (visit m N).state (visit_mid m h.0 N f))
  walk site (reads (read.Input s) ∷ xs) h N f = still site (reads (read.Input s)) xs N _ tt refl (walk site xs h.1 N f)
  walk site (reads (read.Value s) ∷ xs) h N f = still site (reads (read.Value s)) xs N _ tt refl (walk site xs h.1 N f)
  walk site (reads (read.Status s) ∷ xs) h N f = still site (reads (read.Status s)) xs N _ tt refl (walk site xs h.1 N f)
  walk site (reads (read.Result s) ∷ xs) h N f = still site (reads (read.Result s)) xs N _ tt refl (walk site xs h.1 N f)
  walk site (reads (read.Width m) ∷ xs) h N f = still site (reads (read.Width m)) xs N _ tt refl (walk site xs h.1 N f)
  walk site (reads (read.Height m) ∷ xs) h N f = still site (reads (read.Height m)) xs N _ tt refl (walk site xs h.1 N f)
  walk site (given s ∷ xs) h N f = kept site s (given_outcome (site s)) (given s) xs N _ f tt refl (walk site xs h.1 (with_isolated n s (given_outcome (site s)) N) (keep_mid s (given_outcome (site s)) N f))
  walk site (enters s ∷ xs) h N f = still site (enters s) xs N _ tt refl (walk site xs h.1 N f)
  walk site (leaves s x ∷ xs) h N f = kept site s x (leaves s x) xs N _ f tt refl (walk site xs h.1 (with_isolated n s x N) (keep_mid s x N f))
