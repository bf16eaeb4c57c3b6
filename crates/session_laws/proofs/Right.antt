-- What keeps right what a session keeps: writes, visits, changes and the runs of outputs.
use Rattle.std.proofs.Common.{◌≡◌, ◌≢◌, inl, inr, ◌⊎◌, ◌<◌, ℕ, zero, suc, Bool, true, false, List, [], ◌∷◌, length, Option, Some, None, refl, sym, ap, ◌∙◌, subst, arith}
use Rattle.std.proofs.lemmas.Bool.Decides.{eqb_tells}
use Rattle.std.specs.Prelude.{◌||◌, slice_get, slice_set, unwrap_or, if◌then◌else◌}
use Rattle.rx_value.specs.declared.outcome.Outcome.{Outcome}
use Rattle.rx_value.specs.declared.source.SourceValue.{SourceValue}
use Rattle.rx_value.specs.Value.{source_eq}
use Rattle.app_tree.specs.Tree.{Node, input, value, task, reactive, event, text, plot, observe, on, Shape}
use Rattle.app_tree.specs.Numbering.{readers, reader, is_expression, is_output, is_observer, is_evaluated}
use Rattle.app_tree.specs.Current.{value_at}
use Rattle.app_tree.specs.Evaluate.{Evaluation}
use Rattle.app_tree.specs.Cover.{is_covered}
use Rattle.app_tree.specs.Fresh.{Known, known_at, answer_to, evaluate_node, is_expression_at}
use Rattle.task_board.specs.Board.{TaskBoard}
use Rattle.session_model.specs.declared.state.ReaderState.{ReaderState}
use Rattle.session_model.specs.State.{SessionState, first_reader, first_readers, first_state, reader_state, with_reader, is_alive}
use Rattle.session_model.specs.Change.{with_source_value, change, thawed_value, thaw_from}
use Rattle.session_model.specs.Run.{ReaderRun, run_reader}
use Rattle.session_model.specs.Flush.{with_last}
use Rattle.session_model.specs.Tasks.{with_board}
use Rattle.app_laws.specs.Orderly.{IsOrderly}
use Rattle.session_laws.specs.Now.{sites_now, known_now, site_now, evaluation_now}
use Rattle.session_laws.specs.Sound.{IsSound, IsRight}
use Rattle.app_laws.proofs.KnownLists.{known_fixed, get_in}
use Rattle.session_laws.proofs.States.{state_here, state_there, state_size}
use Rattle.session_laws.proofs.Staying.{open_now, Alike, alike_refl, alike_eq, alike_alive, alike_now, Same, same_trans, same_readers, evaluation_same, sound_stays}
use Rattle.session_laws.proofs.Moving.{not_both, Steps}
use Rattle.session_laws.proofs.Changing.{marked_at, unmarked, Unmarked, unchanged, changed_sound}
use Rattle.session_laws.proofs.Running.{output_run, no_expression, Leaves, output_leaves}

-- no expression and no output is an observer
pub observer_alone : (i : Node) → is_observer i ≡ true → is_evaluated i ≡ false
observer_alone (input name start) h = refl
observer_alone (value name start) h = refl
observer_alone (task name parameters body) h = refl
observer_alone (reactive name keys body) h = cc
observer_alone (event name flags e body) h = cc
observer_alone (text name shown) h = cc
observer_alone (plot name shown) h = cc
observer_alone (observe name priority block) h = refl
observer_alone (on name priority flags e block) h = refl

pub same_node : {i j : Node} {o : Option Node} → o ≡ Some i → o ≡ Some j → i ≡ j
same_node p q = cc

-- what is written is there, or nothing was written
set_or_not : {A : Type 0} (xs : List A) (n : ℕ) (x : A) → (slice_get (slice_set xs n x) n ≡ Some x) ⊎ (slice_set xs n x ≡ xs)
set_or_not [] n x = inr refl
set_or_not (y ∷ xs) zero x = inl refl
set_or_not (y ∷ xs) (suc n) x = elim (set_or_not xs n x) [ inl p ↦ inl p | inr p ↦ inr (ap (λ l. y ∷ l) p) ]

module _ (app : Shape) (orderly : IsOrderly app) (covered : (n : ℕ) → is_covered app n ≡ true) where
  -- ---- where each reader keeps what it has
  module _ (M N : SessionState) (values : N.values ≡ M.values) (size : length N.readers ≡ length M.readers)
      (alike : (m : ℕ) (i : Node) → reader app m ≡ Some i → is_evaluated i ≡ true → Alike (reader_state M m) (reader_state N m)) where
    expression_alike : (m : ℕ) → is_expression_at (reader app m) ≡ true → Alike (reader_state M m) (reader_state N m)
    expression_alike m h = by (reader app m) refl h
      where
        by : (o : Option Node) → reader app m ≡ o → is_expression_at o ≡ true → Alike (reader_state M m) (reader_state N m)
        by None q x = cc
        by (Some i) q x = alike m i q (ap (λ b. b || is_output i) x)

    pub alike_same : Same app M N
    alike_same = same_readers app M N values expression_alike

    pub sound_alike : IsSound app M → IsSound app N
    sound_alike sound = sound_stays app orderly M N sound alike_same size (λ m h a. alike_alive (expression_alike m h) ∙ a) (λ m i is e a. alike m i is e)

    pub right_alike : IsRight app M → ((m : ℕ) (i : Node) → reader app m ≡ Some i → is_output i ≡ true → (reader_state N m).last ≡ (reader_state M m).last) → IsRight app N
    right_alike right last = record {
      sound = sound_alike right.sound;
      last = record {
        at = λ m i is o a.
            let same : Alike (reader_state M m) (reader_state N m) = alike m i is (ap (λ b. b || is_output i) (no_expression i o) ∙ o) in
            last m i is o ∙ right.last.at m i is o (sym (alike_alive same) ∙ a) ∙ ap (λ (e : Evaluation). Some e.outcome) (sym (evaluation_same app alike_same m (alike_now app m same)));
      };
    }

  -- ---- what is kept for an observer
  module _ (M : SessionState) (n : ℕ) (r : ReaderState) (none : (i : Node) → reader app n ≡ Some i → is_evaluated i ≡ false) where
    others_stay : (m : ℕ) (i : Node) → reader app m ≡ Some i → is_evaluated i ≡ true → reader_state (with_reader n r M) m ≡ reader_state M m
    others_stay m i is e = state_there M n m r (λ q. not_both e (none i (subst (λ z. reader app z ≡ Some i) q is)))

    pub sound_observer : IsSound app M → IsSound app (with_reader n r M)
    sound_observer sound = sound_alike M (with_reader n r M) refl (state_size M n r) (λ m i is e. alike_eq (others_stay m i is e)) sound

    pub right_observer : IsRight app M → IsRight app (with_reader n r M)
    right_observer right = right_alike M (with_reader n r M) refl (state_size M n r) (λ m i is e. alike_eq (others_stay m i is e)) right
        (λ m i is o. ap (λ (x : ReaderState). x.last) (others_stay m i is (ap (λ b. b || is_output i) (no_expression i o) ∙ o)))

  -- ---- a write that leaves what was reached, the sites and the last outcome
  write_there : (M : SessionState) (n m : ℕ) (r : ReaderState) → Alike (reader_state M n) r → r.last ≡ (reader_state M n).last
      → Alike (reader_state M m) (reader_state (with_reader n r M) m) × ((reader_state (with_reader n r M) m).last ≡ (reader_state M m).last)
  write_there M n m r same last = elim (eqb_tells m n) [
    | inl p ↦ subst (λ z. Alike (reader_state M z) (reader_state (with_reader n r M) z) × ((reader_state (with_reader n r M) z).last ≡ (reader_state M z).last)) (sym p.1) here
    | inr p ↦ (alike_eq (state_there M n m r p.1), ap (λ (x : ReaderState). x.last) (state_there M n m r p.1))
  ]
    where
      here : Alike (reader_state M n) (reader_state (with_reader n r M) n) × ((reader_state (with_reader n r M) n).last ≡ (reader_state M n).last)
      here = elim (set_or_not M.readers n r) [
        | inl p ↦ subst (λ x. Alike (reader_state M n) x × (x.last ≡ (reader_state M n).last)) (sym (ap (λ o. unwrap_or o first_reader) p)) (same, last)
        | inr p ↦ subst (λ l. Alike (reader_state M n) (unwrap_or (slice_get l n) first_reader) × ((unwrap_or (slice_get l n) first_reader).last ≡ (reader_state M n).last)) (sym p) (alike_refl (reader_state M n), refl)
      ]

  pub right_write : (M : SessionState) (n : ℕ) (r : ReaderState) → Alike (reader_state M n) r → r.last ≡ (reader_state M n).last → IsRight app M → IsRight app (with_reader n r M)
  right_write M n r same last right = right_alike M (with_reader n r M) refl (state_size M n r) (λ m i is e. (write_there M n m r same last).0) right (λ m i is o. (write_there M n m r same last).1)

  pub right_board : (M : SessionState) (t : ℕ) (b : TaskBoard) → IsRight app M → IsRight app (with_board t b M)
  right_board M t b right = right_alike M (with_board t b M) refl refl (λ m i is e. alike_refl (reader_state M m)) right (λ m i is o. refl)

  -- ---- visits
  pub right_steps : (k : ℕ) (M N : SessionState) → IsRight app M → Steps app k M N → IsSound app N → IsRight app N
  right_steps k M N right s sound = record {
    sound = sound;
    last = record {
      at = λ m i is o a.
          let own : reader_state N m ≡ reader_state M m = s.others m (ap is_expression_at is ∙ no_expression i o) in
          ap (λ (r : ReaderState). r.last) own ∙ right.last.at m i is o (sym (ap is_alive own) ∙ a) ∙ ap (λ (e : Evaluation). Some e.outcome) (sym (evaluation_same app s.same m (ap (site_now app m) own)));
    };
  }

  -- ---- changes
  pub right_changed : (M : SessionState) (s : ℕ) (x : SourceValue) → IsRight app M → IsRight app (with_source_value s x M)
  right_changed M s x right = record {
    sound = changed_sound app orderly covered M right.sound s x;
    last = record {
      at = λ m i is o a.
          let was : Unmarked s (reader_state M m) = unmarked s (reader_state M m) (sym (ap is_alive (marked_at s m x M)) ∙ a) in
          let own : reader_state (with_source_value s x M) m ≡ reader_state M m = marked_at s m x M ∙ was.stays in
          ap (λ (r : ReaderState). r.last) own ∙ right.last.at m i is o was.alive
          ∙ ap (λ (e : Evaluation). Some e.outcome) (sym (unchanged app orderly covered M right.sound s x m i is (ap (λ b. b || is_output i) (no_expression i o) ∙ o) a));
    };
  }

  either : (P : SessionState → Type 0) (b : Bool) (M N : SessionState) → P M → P N → P (if b then M else N)
  either P true M N p q = p
  either P false M N p q = q

  pub sound_change : (M : SessionState) (s : ℕ) (x : SourceValue) → IsSound app M → IsSound app (change s x M)
  sound_change M s x sound = either (IsSound app) (source_eq (value_at M.values s) x) M (with_source_value s x M) sound (changed_sound app orderly covered M sound s x)

  pub right_change : (M : SessionState) (s : ℕ) (x : SourceValue) → IsRight app M → IsRight app (change s x M)
  right_change M s x right = either (IsRight app) (source_eq (value_at M.values s) x) M (with_source_value s x M) right (right_changed M s x right)

  pub right_thaw : (xs : List SourceValue) (s : ℕ) (M : SessionState) → IsRight app M → IsRight app (thaw_from s xs M)
  right_thaw [] s M right = right
  right_thaw (x ∷ xs) s M right = right_thaw xs (suc s) (change s (thawed_value x) M) (right_change M s (thawed_value x) right)

  -- ---- the run of an output, which becomes its last outcome
  module _ (n : ℕ) (i : Node) (is : reader app n ≡ Some i) (output : is_output i ≡ true) (M : SessionState) (right : IsRight app M) (dead : is_alive (reader_state M n) ≡ false) where
    abbrev ran : ReaderRun
    ran = run_reader app n M

    abbrev F : SessionState
    F = ran.state

    leaves : Leaves app orderly (length (readers app)) n M F ran.outcome
    leaves = output_leaves app orderly covered n i is output M right.sound dead

    abbrev mine : ReaderState
    mine = record (reader_state F n) { last = Some ran.outcome }

    abbrev O : SessionState
    O = with_last n ran.outcome F

    inside : n < length F.readers
    inside = let at = get_in (readers app) n i is in let size = leaves.sound.size in omega (at, size, arith)

    here : reader_state O n ≡ mine
    here = state_here F n mine inside

    alike_at : (m : ℕ) → Alike (reader_state F m) (reader_state O m)
    alike_at m = elim (eqb_tells m n) [
      | inl p ↦ subst (λ z. Alike (reader_state F z) (reader_state O z)) (sym p.1) (subst (Alike (reader_state F n)) (sym here) (record { dependencies = refl; isolated = refl }))
      | inr p ↦ alike_eq (state_there F n m mine p.1)
    ]

    same : Same app F O
    same = same_readers app F O refl (λ m h. alike_at m)

    sound : IsSound app O
    sound = sound_stays app orderly F O leaves.sound same (state_size F n mine) (λ m h a. alike_alive (alike_at m) ∙ a) (λ m j js e a. alike_at m)

    -- another output
    last_there : (m : ℕ) (j : Node) → reader app m ≡ Some j → is_output j ≡ true → is_alive (reader_state O m) ≡ true → m ≢ n → (reader_state O m).last ≡ Some (evaluation_now app O m).outcome
    last_there m j js o a d =
        let own : reader_state O m ≡ reader_state M m = state_there F n m mine d ∙ leaves.others m (ap is_expression_at js ∙ no_expression j o) d in
        ap (λ (r : ReaderState). r.last) own ∙ right.last.at m j js o (sym (ap is_alive own) ∙ a)
        ∙ ap (λ (e : Evaluation). Some e.outcome) (sym (evaluation_same app (same_trans app leaves.same same) m (ap (site_now app m) own)))

    last_here : (reader_state O n).last ≡ Some (evaluation_now app O n).outcome
    last_here = ap (λ (r : ReaderState). r.last) here ∙ ap Some (sym leaves.gives) ∙ ap (λ (e : Evaluation). Some e.outcome) (sym (evaluation_same app same n (alike_now app n (alike_at n))))

    pub right_output : IsRight app O
    right_output = record {
      sound = sound;
      last = record {
        at = λ m j js o a. elim (eqb_tells m n) [
          | inl p ↦ subst (λ z. (reader_state O z).last ≡ Some (evaluation_now app O z).outcome) (sym p.1) last_here
          | inr p ↦ last_there m j js o a p.1
        ];
      };
    }

    -- and every expression gives what it gave
    pub output_same : Same app M O
    output_same = same_trans app leaves.same same

    gives_here : (evaluation_now app O n).outcome ≡ (evaluation_now app M n).outcome
    gives_here =
        ap (λ (e : Evaluation). e.outcome) (evaluation_same app same n (alike_now app n (alike_at n))) ∙ leaves.gives
        ∙ ap (λ (r : ReaderRun). r.outcome) (output_run app orderly covered n i is output M right.sound dead)
        ∙ sym (ap (λ (s : ℕ → Option Outcome). (evaluate_node (reader app n) (record { read = answer_to app M.values (known_now app M); site = s })).outcome) (open_now app n (reader_state M n) dead))

    gives_there : (m : ℕ) (j : Node) → reader app m ≡ Some j → is_output j ≡ true → m ≢ n → (evaluation_now app O m).outcome ≡ (evaluation_now app M m).outcome
    gives_there m j js o d =
        let own : reader_state O m ≡ reader_state M m = state_there F n m mine d ∙ leaves.others m (ap is_expression_at js ∙ no_expression j o) d in
        ap (λ (e : Evaluation). e.outcome) (evaluation_same app output_same m (ap (site_now app m) own))

    -- what an expression gives now is what is known of it now
    expression_gives : (N : SessionState) (m : ℕ) (j : Node) → reader app m ≡ Some j → is_expression j ≡ true → (evaluation_now app N m).outcome ≡ (known_at (known_now app N) m).outcome
    expression_gives N m j js x = ap (λ (k : Known). k.outcome) (sym (known_fixed app N.values (sites_now app N) orderly m j js x))

    -- so does every output
    pub output_gives : (m : ℕ) (j : Node) → reader app m ≡ Some j → is_evaluated j ≡ true → (evaluation_now app O m).outcome ≡ (evaluation_now app M m).outcome
    output_gives m j js e = by (is_expression j) refl
      where
        by : (b : Bool) → is_expression j ≡ b → (evaluation_now app O m).outcome ≡ (evaluation_now app M m).outcome
        by true x = expression_gives O m j js x ∙ ap (λ l. (known_at l m).outcome) output_same.known ∙ sym (expression_gives M m j js x)
        by false x = elim (eqb_tells m n) [
          | inl p ↦ subst (λ z. (evaluation_now app O z).outcome ≡ (evaluation_now app M z).outcome) (sym p.1) gives_here
          | inr p ↦ gives_there m j js (sym (ap (λ b. b || is_output j) x) ∙ e) p.1
        ]

  -- ---- before the first event
  none_alive : (is : List Node) (n : ℕ) → unwrap_or (slice_get (first_readers is) n) first_reader ≡ first_reader
  none_alive [] n = refl
  none_alive (i ∷ is) zero = refl
  none_alive (i ∷ is) (suc n) = none_alive is n

  first_size : (is : List Node) → length (first_readers is) ≡ length is
  first_size [] = refl
  first_size (i ∷ is) = ap suc (first_size is)

  pub right_first : IsRight app (first_state app)
  right_first = record {
    sound = record { size = first_size (readers app); at = λ n i is e a. absurd (not_both (sym (ap is_alive (none_alive (readers app) n)) ∙ a) refl) };
    last = record { at = λ n i is o a. absurd (not_both (sym (ap is_alive (none_alive (readers app) n)) ∙ a) refl) };
  }
