-- An observer's run begins.
use Rattle.std.proofs.Common.{◌≡◌, ◌≢◌, ◌<◌, ℕ, Bool, true, List, [], length, Option, Some, None, refl, sym, ap, ◌∙◌, subst}
use Rattle.std.specs.Prelude.{slice_set}
use Rattle.std.proofs.lemmas.List.{length-set}
use Rattle.app_tree.specs.Tree.{Node, Shape}
use Rattle.app_tree.specs.Numbering.{readers, reader, is_observer}
use Rattle.app_tree.specs.Fresh.{is_expression_at}
use Rattle.rx_source.specs.NumberedValues.{NumberedValues}
use Rattle.session_model.specs.State.{with_sources}
use Rattle.session_model.specs.Flush.{is_observer_at}
use Rattle.session_model.specs.Standing.{alive, KeptReader, KeptSession, kept_reader}
use Rattle.session_steps.specs.Keeping.{IsAlike}
use Rattle.session_steps.specs.Acting.{begin_kept}
use Rattle.session_steps.proofs.KeptReaders.{kept_size}
use Rattle.session_steps.proofs.KeptReaders as reader_kept
use Rattle.session_steps.proofs.Alike.{alike_stands}
use Rattle.session_steps.proofs.Observers.{begin_stands}
use Rattle.dep_graph.specs.Contexts.{running, Contexts, context_at, is_alive, is_running, after_open}
use Rattle.dep_graph.specs.SameGraph.{IsSameGraph}
use Rattle.react_session.specs.declared.kept.Kept.{Kept}
use Rattle.react_session.specs.Seen.{is_observing, reader_seen, kept_at, session_seen}
use Rattle.react_session.specs.Holding.{StandsForSome, IsWhole, IsHeld}
use Rattle.react_session.proofs.ByNumber.{same_number, none_runs, context_here, context_there, kept_here, kept_there, observes_itself, observes_no_other, by_number, alive_at, running_at, used_at}
use Rattle.react_session.proofs.Seeing.{seen_size, seen_at, StaysBut, seen_but, alike_where}

pub observer_at : (o : Option Node) → is_observer_at o ≡ true → (i : Node) × (o ≡ Some i) × (is_observer i ≡ true)
observer_at None h = cc
observer_at (Some i) h = (i, refl, h)

observer_of : (app : Shape) (n : ℕ) → is_observer_at (reader app n) ≡ true → (i : Node) × (reader app n ≡ Some i) × (is_observer i ≡ true)
observer_of app n h = observer_at (reader app n) h

module _ (app : Shape) (values : NumberedValues) (g after : Contexts) (ks : List Kept) (found : Bool) (n : ℕ) (k : Kept)
    (held : IsHeld app values g ks None found) (known : n < length (readers app)) (same : IsSameGraph after (after_open n g)) (was : k ≡ kept_at ks n) where
  abbrev old : KeptSession
  old = session_seen values.values g.readers ks None

  abbrev opened : Contexts
  opened = after_open n g

  -- it has run, and keeps what it kept
  abbrev now_ran : Kept
  now_ran = record { ran = true; isolated = k.isolated; outcome = k.outcome }

  abbrev kept : List Kept
  kept = slice_set ks n now_ran

  abbrev new : KeptSession
  new = session_seen values.values after.readers kept (Some n)

  sizes : length g.readers ≡ length ks
  sizes = held.contexts ∙ sym held.each_kept

  within : n < length g.readers
  within = subst (λ z. n < z) (sym held.contexts) known

  within_kept : n < length ks
  within_kept = subst (λ z. n < z) (sym held.each_kept) known

  within_seen : n < length old.readers
  within_seen = subst (λ z. n < z) (sym (seen_size None 0 g.readers ks sizes)) within

  context_now : context_at opened n ≡ record (context_at g n) { stage = running [] }
  context_now = context_here g n (record (context_at g n) { stage = running [] }) within

  kept_now : kept_at kept n ≡ now_ran
  kept_now = kept_here ks n now_ran within_kept

  begun : KeptReader
  begun = record (kept_reader old n) { dependence = alive [] }

  stays : StaysBut n old (begin_kept n old) g opened ks kept None (Some n)
  stays = record {
    sessions = λ m d. reader_kept.kept_there old n m (record (kept_reader old n) { dependence = alive [] }) d;
    contexts = λ m d. context_there g n m (record (context_at g n) { stage = running [] }) d;
    each_kept = λ m d. kept_there ks n m now_ran d;
    observes = λ m d. observes_no_other n m d;
  }

  seen_here : kept_reader (begin_kept n old) n ≡ reader_seen (is_observing (Some n) n) (context_at opened n) (kept_at kept n)
  seen_here =
      reader_kept.kept_here old n (record (kept_reader old n) { dependence = alive [] }) within_seen
      ∙ ap (λ (r : KeptReader). record r { dependence = alive [] }) (seen_at values.values g ks None n sizes)
      ∙ ap (λ (x : Kept). record { dependence = alive []; isolated = x.isolated; outcome = x.outcome }) (sym was)
      ∙ (λ j. reader_seen (sym (observes_itself n) j) (sym context_now j) (sym kept_now j))

  pub begin_alike : IsAlike (begin_kept n old) new
  begin_alike = alike_where (begin_kept n old) values.values after opened kept (Some n)
      (length-set g.readers n (record (context_at g n) { stage = running [] }) ∙ sizes ∙ sym (length-set ks n now_ran))
      same refl
      (kept_size old n (record (kept_reader old n) { dependence = alive [] }) ∙ seen_size None 0 g.readers ks sizes ∙ sizes ∙ sym (length-set ks n now_ran))
      refl
      (seen_but values.values g opened ks kept None (Some n) n (begin_kept n old) sizes stays seen_here)

  others : (m : ℕ) → m ≢ n → context_at opened m ≡ context_at g m
  others m d = context_there g n m (record (context_at g n) { stage = running [] }) d

  ran_here : (kept_at kept n).ran ≡ true
  ran_here = ap (λ (x : Kept). x.ran) kept_now

  same_ran : (m : ℕ) → m ≢ n → (kept_at kept m).ran ≡ (kept_at ks m).ran
  same_ran m d = ap (λ (x : Kept). x.ran) (kept_there ks n m now_ran d)

  module _ (observer : is_observer_at (reader app n) ≡ true) where
    stands : (i : Node) → reader app n ≡ Some i → is_observer i ≡ true → StandsForSome app old → StandsForSome app new
    stands i is o for = record {
      state = with_sources n [] for.state;
      stands = alike_stands app (begin_kept n old) new (with_sources n [] for.state) (begin_stands app held.proper old for.state for.stands n i is o) begin_alike;
    }

    is_whole : IsWhole app values g ks None → IsWhole app values after kept (Some n)
    is_whole w = record {
      runs = by_number (λ m. is_running after m ≡ true → Some n ≡ Some m) n (λ h. refl)
          (λ m d h. absurd (none_runs (w.runs m (sym (running_at after opened same m (context_at g m) (others m d)) ∙ h))));
      observes = by_number (λ m. Some n ≡ Some m → is_running after m ≡ true) n
          (λ h. running_at after opened same n (record (context_at g n) { stage = running [] }) context_now)
          (λ m d h. absurd (d (sym (same_number h))));
      used = by_number (λ m. (context_at after m).used ≡ true → is_expression_at (reader app m) ≡ true) n
          (λ h. w.used n (sym (used_at after opened same n (record (context_at g n) { stage = running [] }) context_now) ∙ h))
          (λ m d h. w.used m (sym (used_at after opened same m (context_at g m) (others m d)) ∙ h));
      stands = let o = observer_of app n observer in stands o.0 o.1 o.2 w.stands;
    }

    pub begin_held : IsHeld app values after kept (Some n) found
    begin_held = record {
      proper = held.proper;
      numbers = held.numbers;
      known = held.known;
      sources = same.sources ∙ held.sources;
      contexts = same.count ∙ length-set g.readers n (record (context_at g n) { stage = running [] }) ∙ held.contexts;
      each_kept = length-set ks n now_ran ∙ held.each_kept;
      alive_ran = by_number (λ m. is_alive after m ≡ true → (kept_at kept m).ran ≡ true) n (λ h. ran_here)
          (λ m d h. same_ran m d ∙ held.alive_ran m (sym (alive_at after opened same m (context_at g m) (others m d)) ∙ h));
      observer_ran = by_number (λ m. Some n ≡ Some m → (kept_at kept m).ran ≡ true) n (λ h. ran_here) (λ m d h. absurd (d (sym (same_number h))));
      whole = λ w. is_whole (held.whole w);
    }
