-- Without keys what a session does is determined.
use Rattle.std.proofs.Common.{◌≡◌, ℕ, zero, suc, Bool, true, false, List, [], ◌∷◌, ◌++◌, pos, Option, Some, None, refl, sym, ap, ◌∙◌, subst}
use Rattle.std.specs.Prelude.{slice_set, replicate, if◌then◌else◌}
use Rattle.std.proofs.lemmas.Bool.{false≢true}
use Rattle.rx_value.specs.declared.value.Value.TheVariants.{Int}
use Rattle.rx_value.specs.declared.source.SourceValue.{SourceValue}
use Rattle.rx_value.specs.declared.source.SourceValue.TheVariants.{Plain}
use Rattle.rx_value.specs.declared.outcome.Outcome.{Outcome}
use Rattle.rx_value.specs.Value.{source_eq}
use Rattle.app_tree.specs.declared.term.Read.{Read}
use Rattle.app_tree.specs.declared.term.Read.TheVariants as read
use Rattle.app_tree.specs.Tree.{Shape}
use Rattle.app_tree.specs.Numbering.{reader}
use Rattle.app_tree.specs.Current.{told, value_at}
use Rattle.app_tree.specs.Fresh.{Known, is_among, first_sites, evaluate_node, sources_of_read, sources_of_reads}
use Rattle.app_tree.specs.Trace.{Every}
use Rattle.app_tree.specs.Wanted.{Answering, completed, first_wanted}
use Rattle.app_laws.specs.Recorded.{recorded}
use Rattle.session_model.specs.Bodies.{bodies_counted}
use Rattle.session_model.specs.Standing.{HasSameMembers, Dependence, never_run, stale, alive, dependence_by, IsSameDependence, KeptSession, kept_reader, first_session}
use Rattle.session_laws.proofs.Moving.{not_both}
use Rattle.session_laws.proofs.Changing.{map_size}
use Rattle.session_steps.specs.Keeping.{reached_by, kept_known, outcome_if_alive, kept_answer, answering, attempt, wanted, bodies_run, reader_after, run_kept, IsAlikeReader, IsAlike}
use Rattle.session_steps.specs.Bringing.{Aim, reading, running, Brings}
use Rattle.session_steps.specs.Acting.{marked_dependence, marked_kept, changed_kept, write_kept}
use Rattle.session_steps.specs.Determined.{HasNoKeys, IsOneRun, RunsAreDetermined, two_outputs, RunsTo, TwoOutputsRunThree}
use Rattle.session_steps.proofs.BodiesOnce.{alike_lives}
use Rattle.session_steps.proofs.AlikeSessions.{alike_itself, alike_both, alike_trans, with_same}
use Rattle.session_steps.proofs.Dependences.{same_ran}
use Rattle.session_steps.proofs.KeptReaders.{known_kept}
use Rattle.session_steps.proofs.Members.{reads_same}
use Rattle.session_steps.proofs.Written.{kept_marked}

-- ---- they answer the same

module _ (app : Shape) (s t : KeptSession) (a : IsAlike s t) where
  answer_same : (r : Read) → kept_answer app s r ≡ kept_answer app t r
  answer_same (read.Expr m) = λ j. outcome_if_alive (sym (alike_lives s t a m) j) ((a.readers m).outcome j)
  answer_same (read.Input k) = ap (λ v. Some (told app v (read.Input k))) a.values
  answer_same (read.Value k) = ap (λ v. Some (told app v (read.Value k))) a.values
  answer_same (read.Status k) = ap (λ v. Some (told app v (read.Status k))) a.values
  answer_same (read.Result k) = ap (λ v. Some (told app v (read.Result k))) a.values
  answer_same (read.Width k) = ap (λ v. Some (told app v (read.Width k))) a.values
  answer_same (read.Height k) = ap (λ v. Some (told app v (read.Height k))) a.values

  answering_same : (n : ℕ) → answering app s n ≡ answering app t n
  answering_same n = λ j. record {
    read = λ r. answer_same r j;
    site = λ site. if same_ran (kept_reader s n).dependence (kept_reader t n).dependence (a.readers n).dependence j then None else first_sites app n site;
  }

  wanted_same : (n : ℕ) → wanted app s n ≡ wanted app t n
  wanted_same n = ap (λ (z : Answering). first_wanted z (evaluate_node (reader app n) (completed z)).asked) (answering_same n)

  bodies_same : (n : ℕ) → bodies_run app s n ≡ bodies_run app t n
  bodies_same n = ap (λ (z : Answering). replicate (bodies_counted (reader app n) (completed z)) n) (answering_same n)

  -- ---- and a run leaves the same

  reached_same : (d e : Dependence) → IsSameDependence d e → HasSameMembers (reached_by d) (reached_by e)
  reached_same never_run never_run p = λ k. refl
  reached_same stale stale p = λ k. refl
  reached_same (alive xs) (alive ys) p = p
  reached_same never_run stale p = absurd p
  reached_same never_run (alive ys) p = absurd p
  reached_same stale never_run p = absurd p
  reached_same stale (alive ys) p = absurd p
  reached_same (alive xs) never_run p = absurd p
  reached_same (alive xs) stale p = absurd p

  read_same : (r : Read) → HasSameMembers (sources_of_read app (kept_known s) r) (sources_of_read app (kept_known t) r)
  read_same (read.Expr m) = λ k.
      ap (λ (z : Known). is_among k z.sources) (known_kept s m)
      ∙ reached_same (kept_reader s m).dependence (kept_reader t m).dependence (a.readers m).dependence k
      ∙ ap (λ (z : Known). is_among k z.sources) (sym (known_kept t m))
  read_same (read.Input m) = λ k. refl
  read_same (read.Value m) = λ k. refl
  read_same (read.Status m) = λ k. refl
  read_same (read.Result m) = λ k. refl
  read_same (read.Width m) = λ k. refl
  read_same (read.Height m) = λ k. refl

  every_read : (rs : List Read) → Every (λ r. HasSameMembers (sources_of_read app (kept_known s) r) (sources_of_read app (kept_known t) r)) rs
  every_read [] = tt
  every_read (r ∷ rs) = (read_same r, every_read rs)

  written_same : (n : ℕ) → IsAlikeReader (reader_after app s n (attempt app s n) (attempt app s n).outcome) (reader_after app t n (attempt app t n) (attempt app t n).outcome)
  written_same n = record {
    dependence = subst (λ (z : Answering). HasSameMembers (sources_of_reads app (kept_known s) [] (attempt app s n).outside) (sources_of_reads app (kept_known t) [] (evaluate_node (reader app n) (completed z)).outside))
        (answering_same n) (reads_same app (kept_known s) (kept_known t) (attempt app s n).outside (every_read (attempt app s n).outside) [] [] (λ k. refl));
    isolated = ap (λ (z : Answering). recorded z.site (evaluate_node (reader app n) (completed z)).asked) (answering_same n);
    outcome = ap (λ (z : Answering). (evaluate_node (reader app n) (completed z)).outcome) (answering_same n);
  }

  run_same : (n : ℕ) → IsAlike (run_kept app n s) (run_kept app n t)
  run_same n = with_same s t a n (reader_after app s n (attempt app s n) (attempt app s n).outcome) (reader_after app t n (attempt app t n) (attempt app t n).outcome) (written_same n)

-- ---- what is done is determined

some_is : {m n : ℕ} → Some (read.Expr m) ≡ Some (read.Expr n) → m ≡ n
some_is h = cc

none_or_node : {A : Type 0} {x : A} {o : Option A} → o ≡ None → o ≡ Some x → ⊥
none_or_node h k = cc

none_or_some : {m : ℕ} {o : Option Read} → o ≡ None → o ≡ Some (read.Expr m) → ⊥
none_or_some p q = cc

module _ (app : Shape) (bare : HasNoKeys app) where
  pub determined : (aim : Aim) (bodies others : List ℕ) (n : ℕ) (s s' t t' : KeptSession) → IsAlike s t → Brings app aim bodies n s s' → Brings app aim others n t t' → IsOneRun bodies others s' t'
  determined _ _ _ _ _ _ _ _ a (Brings.living n s l) (Brings.living _ t l') = record { same = refl; alike = a }
  determined _ _ _ _ _ _ _ _ a (Brings.living n s l) (Brings.dead others _ t t' d c) = absurd (not_both (alike_lives s t a n ∙ l) d)
  determined _ _ _ _ _ _ _ _ a (Brings.dead bodies n s s' d b) (Brings.living _ t l') = absurd (not_both l' (alike_lives s t a n ∙ d))
  determined _ _ _ _ _ _ _ _ a (Brings.dead bodies n s s' d b) (Brings.dead others _ t t' d' c) = determined running bodies others n s s' t t' a b c
  determined _ _ _ _ _ _ _ _ a (Brings.ends n s s' none p) (Brings.ends _ t t' none' q) =
      record { same = bodies_same app s t a n; alike = alike_trans s' (run_kept app n t) t' (alike_both (run_kept app n s) s' (run_kept app n t) p (run_same app s t a n)) q }
  determined _ _ _ _ _ _ _ _ a (Brings.ends n s s' none p) (Brings.hits _ c xs t t' cached none' values q) = absurd (none_or_node (bare n) cached)
  determined _ _ _ _ _ _ _ _ a (Brings.ends n s s' none p) (Brings.waits earlier later _ m t u t' w b c) = absurd (none_or_some (sym (wanted_same app s t a n) ∙ none) w)
  determined _ _ _ _ _ _ _ _ a (Brings.hits n c xs s s' cached none values p) second = absurd (none_or_node (bare n) cached)
  determined _ _ _ _ _ _ _ _ a (Brings.waits earlier later n m s r s' w b c) (Brings.ends _ t t' none' q) = absurd (none_or_some none' (sym (wanted_same app s t a n) ∙ w))
  determined _ _ _ _ _ _ _ _ a (Brings.waits earlier later n m s r s' w b c) (Brings.hits _ k xs t t' cached none' values q) = absurd (none_or_node (bare n) cached)
  determined _ _ _ _ _ _ _ _ a (Brings.waits earlier later n m s r s' w b c) (Brings.waits before behind _ k t u t' w' d e) =
      let same : k ≡ m = some_is (sym w' ∙ sym (wanted_same app s t a n) ∙ w) in
      let first = determined reading earlier before m s r t u a b (subst (λ z. Brings app reading before z t u) same d) in
      let second = determined running later behind n r s' u t' first.alike c e in
      record { same = λ j. first.same j ++ second.same j; alike = second.alike }

pub runs_are_determined : RunsAreDetermined
runs_are_determined app bare aim n s s' t t' a bodies others b c = determined app bare aim bodies others n s s' t t' a b c

-- ---- two outputs over one expression

one_sort : HasNoKeys two_outputs
one_sort zero = refl
one_sort (suc zero) = refl
one_sort (suc (suc zero)) = refl
one_sort (suc (suc (suc n))) = refl

abbrev start : KeptSession
start = first_session two_outputs

abbrev ran_p : KeptSession → KeptSession
ran_p s = run_kept two_outputs 1 (run_kept two_outputs 0 s)

abbrev ran_both : KeptSession → KeptSession
ran_both s = run_kept two_outputs 2 (ran_p s)

abbrev changed_first : KeptSession
changed_first = write_kept 0 (Plain (Int (pos 2))) (ran_both start)

p_first : Brings two_outputs running (0 ∷ 1 ∷ []) 1 start (ran_p start)
p_first = Brings.waits (0 ∷ []) (1 ∷ []) 1 0 start (run_kept two_outputs 0 start) (ran_p start) refl
    (Brings.dead (0 ∷ []) 0 start (run_kept two_outputs 0 start) refl (Brings.ends 0 start (run_kept two_outputs 0 start) refl (alike_itself (run_kept two_outputs 0 start))))
    (Brings.ends 1 (run_kept two_outputs 0 start) (ran_p start) refl (alike_itself (ran_p start)))

q_first : Brings two_outputs running (2 ∷ []) 2 (ran_p start) (ran_both start)
q_first = Brings.ends 2 (ran_p start) (ran_both start) refl (alike_itself (ran_both start))

p_second : Brings two_outputs running (0 ∷ 1 ∷ []) 1 changed_first (ran_p changed_first)
p_second = Brings.waits (0 ∷ []) (1 ∷ []) 1 0 changed_first (run_kept two_outputs 0 changed_first) (ran_p changed_first) refl
    (Brings.dead (0 ∷ []) 0 changed_first (run_kept two_outputs 0 changed_first) refl (Brings.ends 0 changed_first (run_kept two_outputs 0 changed_first) refl (alike_itself (run_kept two_outputs 0 changed_first))))
    (Brings.ends 1 (run_kept two_outputs 0 changed_first) (ran_p changed_first) refl (alike_itself (ran_p changed_first)))

q_second : Brings two_outputs running (2 ∷ []) 2 (ran_p changed_first) (ran_both changed_first)
q_second = Brings.ends 2 (ran_p changed_first) (ran_both changed_first) refl (alike_itself (ran_both changed_first))

-- a write of sessions that are alike
marked_same : (k : ℕ) (d e : Dependence) → IsSameDependence d e → IsSameDependence (marked_dependence k d) (marked_dependence k e)
marked_same k never_run never_run p = tt
marked_same k stale stale p = tt
marked_same k (alive xs) (alive ys) p = by (is_among k xs) (is_among k ys) (p k)
  where
    by : (b c : Bool) → b ≡ c → IsSameDependence (dependence_by b xs) (dependence_by c ys)
    by true true h = tt
    by false false h = p
    by true false h = absurd (false≢true (sym h))
    by false true h = absurd (false≢true h)
marked_same k never_run stale p = absurd p
marked_same k never_run (alive ys) p = absurd p
marked_same k stale never_run p = absurd p
marked_same k stale (alive ys) p = absurd p
marked_same k (alive xs) never_run p = absurd p
marked_same k (alive xs) stale p = absurd p

changed_same : (k : ℕ) (x : SourceValue) (s t : KeptSession) → IsAlike s t → IsAlike (changed_kept k x s) (changed_kept k x t)
changed_same k x s t a = record {
  values = ap (λ v. slice_set v k x) a.values;
  size = map_size (marked_kept k) s.readers ∙ a.size ∙ sym (map_size (marked_kept k) t.readers);
  readers = λ n. subst (λ z. z) (λ j. IsAlikeReader (sym (kept_marked k n x s) j) (sym (kept_marked k n x t) j)) (record {
    dependence = marked_same k (kept_reader s n).dependence (kept_reader t n).dependence (a.readers n).dependence;
    isolated = (a.readers n).isolated;
    outcome = (a.readers n).outcome;
  });
  running = a.running;
}

write_same : (k : ℕ) (x : SourceValue) (s t : KeptSession) → IsAlike s t → IsAlike (write_kept k x s) (write_kept k x t)
write_same k x s t a = by (source_eq (value_at s.values k) x) (source_eq (value_at t.values k) x) (ap (λ v. source_eq (value_at v k) x) a.values)
  where
    by : (b c : Bool) → b ≡ c → IsAlike (if b then s else changed_kept k x s) (if c then t else changed_kept k x t)
    by true true h = a
    by false false h = changed_same k x s t a
    by true false h = absurd (false≢true (sym h))
    by false true h = absurd (false≢true h)

-- what comes of a run is what was computed
runs_to : (n : ℕ) (bodies expected : List ℕ) (after computed : KeptSession) (x : Outcome) → (kept_reader computed n).outcome ≡ x → IsOneRun expected bodies computed after → RunsTo n bodies after expected x
runs_to n bodies expected after computed x h one = record { bodies_are = sym one.same; keeps = sym (one.alike.readers n).outcome ∙ h }

pub two_outputs_run_three : TwoOutputsRunThree
two_outputs_run_three first second third fourth p q written p' q' b c w d e =
    let one = determined two_outputs one_sort running (0 ∷ 1 ∷ []) first 1 start (ran_p start) start p (alike_itself start) p_first b in
    let two = determined two_outputs one_sort running (2 ∷ []) second 2 (ran_p start) (ran_both start) p q one.alike q_first c in
    let same = alike_trans changed_first (write_kept 0 (Plain (Int (pos 2))) q) written (write_same 0 (Plain (Int (pos 2))) (ran_both start) q two.alike) w in
    let three = determined two_outputs one_sort running (0 ∷ 1 ∷ []) third 1 changed_first (ran_p changed_first) written p' same p_second d in
    let four = determined two_outputs one_sort running (2 ∷ []) fourth 2 (ran_p changed_first) (ran_both changed_first) p' q' three.alike q_second e in
    record {
      p_runs = runs_to 1 first (0 ∷ 1 ∷ []) p (ran_p start) _ refl one;
      q_runs = runs_to 2 second (2 ∷ []) q (ran_both start) _ refl two;
      p_again = runs_to 1 third (0 ∷ 1 ∷ []) p' (ran_p changed_first) _ refl three;
      q_again = runs_to 2 fourth (2 ∷ []) q' (ran_both changed_first) _ refl four;
    }
