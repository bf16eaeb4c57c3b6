-- The states between which a run goes: what expressions give stays, what is alive stays, and so does each reader that
-- the run may not touch.
use Rattle.std.proofs.Common.{◌≡◌, ◌≢◌, inl, inr, ◌≤◌, ◌<◌, ℕ, Bool, true, false, length, refl, sym, ap, ◌∙◌, subst, arith}
use Rattle.std.proofs.lemmas.Bool.{false≢true}
use Rattle.std.proofs.lemmas.Bool.Decides.{eqb_tells}
use Rattle.app_tree.specs.Tree.{Shape}
use Rattle.app_tree.specs.Numbering.{reader}
use Rattle.app_tree.specs.Fresh.{is_expression_at}
use Rattle.session_model.specs.declared.state.ReaderState.{ReaderState}
use Rattle.session_model.specs.State.{SessionState, reader_state, with_reader, is_alive}
use Rattle.session_model.specs.Reading.{VisitResult}
use Rattle.app_laws.specs.Orderly.{IsOrderly}
use Rattle.session_laws.specs.Now.{site_now}
use Rattle.session_laws.specs.Sound.{IsSound}
use Rattle.session_laws.proofs.States.{state_here, state_there, state_size}
use Rattle.session_laws.proofs.Staying.{Alike, alike_eq, alive_by, dead_now, Same, same_refl, same_trans, StaysAt, stays_at, same_by, KeepsAlive, sound_stays}

pub not_both : {b : Bool} → b ≡ true → b ≡ false → ⊥
not_both p q = false≢true (sym q ∙ p)

module _ (app : Shape) where
  -- what visits to expressions below k leave
  pub record Steps (k : ℕ) (M N : SessionState) : Type 0 where
    pub same : Same app M N
    pub size : length N.readers ≡ length M.readers
    pub boards : N.boards ≡ M.boards
    pub grows : (j : ℕ) → is_expression_at (reader app j) ≡ true → is_alive (reader_state M j) ≡ true → reader_state N j ≡ reader_state M j
    pub beyond : (j : ℕ) → k ≤ j → reader_state N j ≡ reader_state M j
    pub others : (j : ℕ) → is_expression_at (reader app j) ≡ false → reader_state N j ≡ reader_state M j

  pub steps_refl : (k : ℕ) (M : SessionState) → Steps k M M
  steps_refl k M = record { same = same_refl app M; size = refl; boards = refl; grows = λ j e a. refl; beyond = λ j h. refl; others = λ j e. refl }

  pub steps_up : {k l : ℕ} {M N : SessionState} → k ≤ l → Steps k M N → Steps l M N
  steps_up h p = record { same = p.same; size = p.size; boards = p.boards; grows = p.grows; beyond = λ j i. p.beyond j (omega (h, i, arith)); others = p.others }

  pub steps_trans : {k : ℕ} {M N O : SessionState} → Steps k M N → Steps k N O → Steps k M O
  steps_trans {k} {M} {N} {O} p q = record {
    same = same_trans app p.same q.same;
    size = q.size ∙ p.size;
    boards = q.boards ∙ p.boards;
    grows = λ j e a. q.grows j e (ap is_alive (p.grows j e a) ∙ a) ∙ p.grows j e a;
    beyond = λ j h. q.beyond j h ∙ p.beyond j h;
    others = λ j e. q.others j e ∙ p.others j e;
  }

  pub steps_keep : {k : ℕ} {M N : SessionState} → Steps k M N → KeepsAlive app M N
  steps_keep p m e a = ap is_alive (p.grows m e a) ∙ a

  -- the same while reader n is run, whose isolated sites are being kept
  pub record Moves (k n : ℕ) (M N : SessionState) : Type 0 where
    pub same : Same app M N
    pub size : length N.readers ≡ length M.readers
    pub boards : N.boards ≡ M.boards
    pub grows : (j : ℕ) → is_expression_at (reader app j) ≡ true → is_alive (reader_state M j) ≡ true → reader_state N j ≡ reader_state M j
    pub beyond : (j : ℕ) → k ≤ j → j ≢ n → reader_state N j ≡ reader_state M j
    pub others : (j : ℕ) → is_expression_at (reader app j) ≡ false → j ≢ n → reader_state N j ≡ reader_state M j
    pub dependencies : (reader_state N n).dependencies ≡ (reader_state M n).dependencies
    pub shown : (reader_state N n).shown ≡ (reader_state M n).shown
    pub last : (reader_state N n).last ≡ (reader_state M n).last

  -- a visit that may not touch reader n
  pub moves_step : {k n : ℕ} {M N O : SessionState} → Moves k n M N → Steps k N O → reader_state O n ≡ reader_state N n → Moves k n M O
  moves_step p q own = record {
    same = same_trans app p.same q.same;
    size = q.size ∙ p.size;
    boards = q.boards ∙ p.boards;
    grows = λ j e a. q.grows j e (ap is_alive (p.grows j e a) ∙ a) ∙ p.grows j e a;
    beyond = λ j h d. q.beyond j h ∙ p.beyond j h d;
    others = λ j e d. q.others j e ∙ p.others j e d;
    dependencies = ap (λ (r : ReaderState). r.dependencies) own ∙ p.dependencies;
    shown = ap (λ (r : ReaderState). r.shown) own ∙ p.shown;
    last = ap (λ (r : ReaderState). r.last) own ∙ p.last;
  }

  module _ (orderly : IsOrderly app) where
    -- ---- the sites of a reader that isn't alive are written
    module _ (N : SessionState) (n : ℕ) (inside : n < length N.readers) (dead : is_alive (reader_state N n) ≡ false) (r : ReaderState) (own : r.dependencies ≡ (reader_state N n).dependencies) where
      abbrev O : SessionState
      O = with_reader n r N

      here : reader_state O n ≡ r
      here = state_here N n r inside

      there : (m : ℕ) → m ≢ n → reader_state O m ≡ reader_state N m
      there m d = state_there N n m r d

      deps_here : (reader_state O n).dependencies ≡ (reader_state N n).dependencies
      deps_here = ap (λ (x : ReaderState). x.dependencies) here ∙ own

      still_dead : is_alive (reader_state O n) ≡ false
      still_dead = ap alive_by deps_here ∙ dead

      at_each : (m : ℕ) → StaysAt app N O m
      at_each m = elim (eqb_tells m n) [
        | inl p ↦ subst (StaysAt app N O) (sym p.1) (stays_at app N O n (dead_now app n (reader_state N n) (reader_state O n) deps_here dead))
        | inr p ↦ stays_at app N O m (ap (site_now app m) (there m p.1))
      ]

      pub dead_same : Same app N O
      dead_same = same_by app N O refl (λ m e. at_each m)

      pub dead_keeps : KeepsAlive app N O
      dead_keeps m e a = elim (eqb_tells m n) [
        | inl p ↦ absurd (not_both (subst (λ z. is_alive (reader_state N z) ≡ true) p.1 a) dead)
        | inr p ↦ ap is_alive (there m p.1) ∙ a
      ]

      alike_there : (m : ℕ) → is_alive (reader_state O m) ≡ true → Alike (reader_state N m) (reader_state O m)
      alike_there m a = elim (eqb_tells m n) [
        | inl p ↦ absurd (not_both (subst (λ z. is_alive (reader_state O z) ≡ true) p.1 a) still_dead)
        | inr p ↦ alike_eq (there m p.1)
      ]

      pub dead_sound : IsSound app N → IsSound app O
      dead_sound sound = sound_stays app orderly N O sound dead_same (state_size N n r) dead_keeps (λ m i is e a. alike_there m a)

      pub dead_moves : (k : ℕ) (M : SessionState) → is_alive (reader_state M n) ≡ false → r.shown ≡ (reader_state N n).shown → r.last ≡ (reader_state N n).last → Moves k n M N → Moves k n M O
      dead_moves k M first_dead shown last p = record {
        same = same_trans app p.same dead_same;
        size = state_size N n r ∙ p.size;
        boards = p.boards;
        grows = λ j e a. elim (eqb_tells j n) [
          | inl q ↦ absurd (not_both (subst (λ z. is_alive (reader_state M z) ≡ true) q.1 a) first_dead)
          | inr q ↦ there j q.1 ∙ p.grows j e a
        ];
        beyond = λ j h d. there j d ∙ p.beyond j h d;
        others = λ j e d. there j d ∙ p.others j e d;
        dependencies = deps_here ∙ p.dependencies;
        shown = ap (λ (x : ReaderState). x.shown) here ∙ shown ∙ p.shown;
        last = ap (λ (x : ReaderState). x.last) here ∙ last ∙ p.last;
      }

  -- ---- what a visit to expression m has to do
  pub record Visits (k m : ℕ) (N O : SessionState) : Type 0 where
    pub steps : Steps k N O
    pub sound : IsSound app O
    pub alive : is_alive (reader_state O m) ≡ true

  abbrev pub Good : ℕ → (ℕ → SessionState → VisitResult) → Type 0
  Good k visit = (m : ℕ) → m < k → is_expression_at (reader app m) ≡ true → (N : SessionState) → IsSound app N → Visits k m N (visit m N).state
