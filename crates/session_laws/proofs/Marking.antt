-- A run of an output is the same where the output was marked before: a run forgets the mark as it begins. So what is said of
-- outputs that aren't alive holds of each.
use Rattle.std.proofs.Common.{◌≡◌, ◌≢◌, inl, inr, ◌<◌, ℕ, zero, suc, ◌+◌, true, false, List, [], ◌∷◌, length, Option, Some, None, refl, sym, ap, ◌∙◌, subst, arith}
use Rattle.std.proofs.lemmas.Bool.Decides.{eqb_tells}
use Rattle.std.specs.Prelude.{not, slice_set, is_some, if◌then◌else◌}
use Rattle.app_tree.specs.Tree.{Node, Shape}
use Rattle.app_tree.specs.Numbering.{readers, reader, is_output}
use Rattle.app_tree.specs.Cover.{is_covered}
use Rattle.app_tree.specs.Fresh.{answer_to, first_sites, sources_of_reads, evaluate_node, is_expression_at}
use Rattle.session_model.specs.declared.state.Dependencies.{Dependencies}
use Rattle.session_model.specs.declared.state.ReaderState.{ReaderState}
use Rattle.session_model.specs.State.{SessionState, reader_state, with_reader, with_sources, has_run, is_alive}
use Rattle.session_model.specs.Bodies.{bodies_counted}
use Rattle.session_model.specs.Reading.{VisitResult}
use Rattle.session_model.specs.Run.{ReaderRun, stale_dependencies, reader_as_run_begins, state_as_run_begins, keeping_manner, read_node, finished_run, visit_expression, run_reader}
use Rattle.app_laws.specs.Orderly.{IsOrderly}
use Rattle.session_laws.specs.Now.{site_now, open_sites, known_now, evaluation_now, trace, open_answers, walk_of_trace, run_by_trace}
use Rattle.session_laws.specs.Sound.{IsSound}
use Rattle.app_laws.proofs.KnownLists.{get_in}
use Rattle.session_laws.proofs.States.{state_here, state_there, state_size}
use Rattle.session_laws.proofs.Staying.{funext, alive_by, Alike, alike_eq, Same, same_trans, same_readers, KeepsAlive, evaluation_same, sound_stays}
use Rattle.session_laws.proofs.Moving.{not_both}
use Rattle.session_laws.proofs.Running.{no_expression, Leaves, output_run, output_leaves}

-- ---- marks

stale_again : (d : Option Dependencies) → stale_dependencies (stale_dependencies d) ≡ stale_dependencies d
stale_again None = refl
stale_again (Some d) = refl

stale_dead : (d : Option Dependencies) → alive_by (stale_dependencies d) ≡ false
stale_dead None = refl
stale_dead (Some d) = refl

stale_ran : (d : Option Dependencies) → is_some (stale_dependencies d) ≡ is_some d
stale_ran None = refl
stale_ran (Some d) = refl

set_twice : {A : Type 0} (xs : List A) (n : ℕ) (x y : A) → slice_set (slice_set xs n x) n y ≡ slice_set xs n y
set_twice [] n x y = refl
set_twice (z ∷ xs) zero x y = refl
set_twice (z ∷ xs) (suc n) x y = ap (λ l. z ∷ l) (set_twice xs n x y)

module _ (app : Shape) (orderly : IsOrderly app) (covered : (n : ℕ) → is_covered app n ≡ true) (n : ℕ) (i : Node) (is : reader app n ≡ Some i) (output : is_output i ≡ true) (M : SessionState) (sound : IsSound app M) where
  abbrev pub marked : ReaderState
  marked = record (reader_state M n) { dependencies = stale_dependencies (reader_state M n).dependencies }

  -- M with the output marked
  abbrev pub N : SessionState
  N = with_reader n marked M

  inside : n < length M.readers
  inside = let at = get_in (readers app) n i is in let size = sound.size in omega (at, size, arith)

  pub here : reader_state N n ≡ marked
  here = state_here M n marked inside

  pub there : (m : ℕ) → m ≢ n → reader_state N m ≡ reader_state M m
  there m d = state_there M n m marked d

  pub dead : is_alive (reader_state N n) ≡ false
  dead = ap is_alive here ∙ stale_dead (reader_state M n).dependencies

  -- no expression is the output
  apart : (m : ℕ) → is_expression_at (reader app m) ≡ true → m ≢ n
  apart m x q = not_both (subst (λ z. is_expression_at (reader app z) ≡ true) q x) (ap is_expression_at is ∙ no_expression i output)

  pub same : Same app M N
  same = same_readers app M N refl (λ m x. alike_eq (there m (apart m x)))

  keeps : KeepsAlive app M N
  keeps m x a = ap is_alive (there m (apart m x)) ∙ a

  alike_there : (m : ℕ) → is_alive (reader_state N m) ≡ true → Alike (reader_state M m) (reader_state N m)
  alike_there m a = elim (eqb_tells m n) [
    | inl p ↦ absurd (not_both (subst (λ z. is_alive (reader_state N z) ≡ true) p.1 a) dead)
    | inr p ↦ alike_eq (there m p.1)
  ]

  pub marked_sound : IsSound app N
  marked_sound = sound_stays app orderly M N sound same (state_size M n marked) keeps (λ m j js e a. alike_there m a)

  -- ---- a run forgets the mark

  ran_same : has_run (reader_state N n) ≡ has_run (reader_state M n)
  ran_same = ap has_run here ∙ stale_ran (reader_state M n).dependencies

  begins_same : reader_as_run_begins (reader_state N n) ≡ reader_as_run_begins (reader_state M n)
  begins_same = ap reader_as_run_begins here ∙ ap (λ d. record (reader_state M n) { dependencies = d; isolated = [] }) (stale_again (reader_state M n).dependencies)

  forgets : state_as_run_begins n N ≡ state_as_run_begins n M
  forgets = ap (λ r. with_reader n r N) begins_same ∙ ap (λ rs. record M { readers = rs }) (set_twice M.readers n marked (reader_as_run_begins (reader_state M n)))

  abbrev V : ℕ → SessionState → VisitResult
  V = visit_expression app

  pub stated_same : run_reader app n N ≡ run_reader app n M
  stated_same = ap (λ b. finished_run app n (read_node app V n (not b) (reader app n) (state_as_run_begins n N))) ran_same ∙ ap (λ s. finished_run app n (read_node app V n (not (has_run (reader_state M n))) (reader app n) s)) forgets

  pub site_same : open_sites app N n ≡ open_sites app M n
  site_same = funext (λ s. ap (λ b. if b then None else first_sites app n s) ran_same)

  answers_same : open_answers app N n ≡ open_answers app M n
  answers_same = (λ j. record { read = answer_to app M.values (same.known j); site = site_same j })

  pub traced_same : trace app N n ≡ trace app M n
  traced_same = ap (evaluate_node (reader app n)) answers_same

  by_trace_same : run_by_trace app V n N ≡ run_by_trace app V n M
  by_trace_same = (λ j. record {
    state = with_sources n (sources_of_reads app (same.known j) [] (traced_same j).outside) (walk_of_trace (keeping_manner V n) (site_same j) (traced_same j).asked (forgets j)).state;
    outcome = (traced_same j).outcome;
    bodies = (walk_of_trace (keeping_manner V n) (site_same j) (traced_same j).asked (forgets j)).bodies + bodies_counted (reader app n) (answers_same j);
  })

  -- the run of the output, alive or not, is its run by its trace
  pub any_output_run : run_reader app n M ≡ run_by_trace app V n M
  any_output_run = sym stated_same ∙ output_run app orderly covered n i is output N marked_sound dead ∙ by_trace_same

  pub leaves : Leaves app orderly (length (readers app)) n N (run_reader app n M).state (run_reader app n M).outcome
  leaves = subst (λ (r : ReaderRun). Leaves app orderly (length (readers app)) n N r.state r.outcome) stated_same (output_leaves app orderly covered n i is output N marked_sound dead)

  pub any_output_sound : IsSound app (run_reader app n M).state
  any_output_sound = leaves.sound

  pub any_output_known : known_now app (run_reader app n M).state ≡ known_now app M
  any_output_known = (same_trans app same leaves.same).known

  -- another output has what it had, and gives what it gave
  pub other_output_gives : (j : ℕ) (k : Node) → j ≢ n → reader app j ≡ Some k → is_output k ≡ true → evaluation_now app (run_reader app n M).state j ≡ evaluation_now app M j
  other_output_gives j k d js o =
      let own : reader_state (run_reader app n M).state j ≡ reader_state M j = leaves.others j (ap is_expression_at js ∙ no_expression k o) d ∙ there j d in
      evaluation_same app (same_trans app same leaves.same) j (ap (site_now app j) own)
