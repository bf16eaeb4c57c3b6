-- What a run came to is kept.
use Rattle.std.proofs.Common.{◌≡◌, ◌≢◌, ◌<◌, ℕ, Bool, true, false, List, [], length, Option, Some, None, refl, sym, ap, ◌∙◌, subst}
use Rattle.std.specs.Prelude.{slice_get, slice_set, ◌&&◌, ◌||◌}
use Rattle.std.proofs.lemmas.Bool.{false≢true}
use Rattle.std.proofs.lemmas.List.{length-set}
use Rattle.rx_value.specs.declared.outcome.Outcome.{Outcome}
use Rattle.app_tree.specs.Tree.{Node, Shape}
use Rattle.app_tree.specs.Numbering.{readers, reader, is_output}
use Rattle.app_tree.specs.Fresh.{is_expression_at}
use Rattle.app_tree.specs.Trace.{Every}
use Rattle.app_laws.proofs.WhatIsAsked.{every_map}
use Rattle.app_laws.proofs.KnownLists.{get_in}
use Rattle.rx_source.specs.NumberedValues.{NumberedValues}
use Rattle.session_model.specs.Flush.{is_observer_at}
use Rattle.session_model.specs.Standing.{alive, KeptReader, KeptSession, kept_reader}
use Rattle.session_laws.proofs.Right.{observer_alone}
use Rattle.session_steps.specs.Keeping.{lives, reached_by, IsAlikeReader, IsAlike}
use Rattle.session_steps.specs.Bringing.{IsLost}
use Rattle.session_steps.proofs.KeptReaders as reader_kept
use Rattle.dep_graph.specs.declared.on.On.{On}
use Rattle.dep_graph.specs.declared.on.On.TheVariants as on
use Rattle.dep_graph.specs.Contexts.{Stage, idle, alive as alive_stage, running, overtaken, ReaderContext as Context, Contexts, context_at, is_alive_stage, is_running_stage, is_alive, is_current, is_running, sources_reached, closed_stage, after_open, after_close}
use Rattle.dep_graph.specs.Conditions.{MayOpen, IsWithin}
use Rattle.dep_graph.specs.SameGraph.{IsSameStage, IsSameGraph}
use Rattle.react_session.specs.declared.kept.Kept.{Kept}
use Rattle.react_session.specs.Seen.{dependence_seen, is_observing, reader_seen, kept_at, session_seen}
use Rattle.react_session.specs.Holding.{StandsForSome, IsWhole, IsHeld}
use Rattle.react_session.specs.inner.Storing.{members_reached, stored_kept, is_evaluated_at, MayReach, after_depends, StillRuns}
use Rattle.react_session.proofs.ByNumber.{context_here, context_there, kept_here, kept_there, by_number, stage-sym, stage_alive, alive_at, running_at, used_at}
use Rattle.react_session.proofs.Standings.{closed_runs}
use Rattle.react_session.proofs.Seeing.{observed, seen_size, seen_at, lives_seen, alike_dependence, alike_where}
use Rattle.react_session.proofs.Depending.{stage-trans, equal_stages, graph-trans, depends_alike, close_alike, Depended, Leads, depend_all}

-- ---- who may run so

is_false : (b : Bool) → (b ≡ true → ⊥) → b ≡ false
is_false true h = absurd (h refl)
is_false false h = refl

evaluated_apart : (o : Option Node) → is_evaluated_at o ≡ true → is_observer_at o ≡ true → ⊥
evaluated_apart None h p = false≢true h
evaluated_apart (Some i) h p = false≢true (sym (observer_alone i p) ∙ h)

pub expression_evaluated : (o : Option Node) → is_expression_at o ≡ true → is_evaluated_at o ≡ true
expression_evaluated None h = h
expression_evaluated (Some i) h = ap (λ b. b || is_output i) h

pub evaluated_in : (is : List Node) (n : ℕ) (o : Option Node) → slice_get is n ≡ o → is_evaluated_at o ≡ true → n < length is
evaluated_in is n None e h = absurd (false≢true h)
evaluated_in is n (Some i) e h = get_in is n i e

or_left : (a b c : Bool) → b ≡ false → (a || (b && c)) ≡ true → a ≡ true
or_left true b c e h = refl
or_left false true c e h = absurd (false≢true (sym e))
or_left false false c e h = h

not_live : (a b c : Bool) → a ≡ false → b ≡ false → (a || (b && c)) ≡ false
not_live false false c p q = refl
not_live true b c p q = absurd (false≢true (sym p))
not_live false true c p q = absurd (false≢true (sym q))

live_left : (a b : Bool) → a ≡ true → (a || b) ≡ true
live_left true b h = refl
live_left false b h = absurd (false≢true h)

pub reached_seen : (observes ran : Bool) (t : Stage) → is_alive_stage t ≡ true → sources_reached t ≡ reached_by (dependence_seen observes ran t)
reached_seen observes ran idle h = absurd (false≢true h)
reached_seen observes ran (alive_stage s) h = refl
reached_seen observes ran (running s) h = absurd (false≢true h)
reached_seen observes ran overtaken h = absurd (false≢true h)

pub runs_dead : (t : Stage) → is_running_stage t ≡ true → is_alive_stage t ≡ false
runs_dead idle h = refl
runs_dead (alive_stage s) h = absurd (false≢true h)
runs_dead (running s) h = refl
runs_dead overtaken h = refl

module _ (app : Shape) (values : NumberedValues) (g : Contexts) (ks : List Kept) (o : Option ℕ) (found : Bool) (n : ℕ)
    (held : IsHeld app values g ks o found) (whole : IsWhole app values g ks o) (evaluated : is_evaluated_at (reader app n) ≡ true) where
  abbrev old : KeptSession
  old = session_seen values.values g.readers ks o

  sizes : length g.readers ≡ length ks
  sizes = held.contexts ∙ sym held.each_kept

  pub known : n < length (readers app)
  known = evaluated_in (readers app) n (reader app n) refl evaluated

  within : n < length g.readers
  within = subst (λ z. n < z) (sym held.contexts) known

  within_kept : n < length ks
  within_kept = subst (λ z. n < z) (sym held.each_kept) known

  -- the observer that runs is no such reader
  unobserved : (m : ℕ) → is_evaluated_at (reader app m) ≡ true → is_observing o m ≡ false
  unobserved m e = is_false (is_observing o m) (λ h. evaluated_apart (reader app m) e (whole.stands.stands.running m (observed o m h)).observer)

  alive_lives : (m : ℕ) → is_alive g m ≡ true → lives old m ≡ true
  alive_lives m h = lives_seen values.values g ks o m sizes ∙ live_left (is_alive g m) (is_observing o m && is_current g m) h

  lives_alive : (m : ℕ) → is_evaluated_at (reader app m) ≡ true → lives old m ≡ true → is_alive g m ≡ true
  lives_alive m e h = or_left (is_alive g m) (is_observing o m) (is_current g m) (unobserved m e) (sym (lives_seen values.values g ks o m sizes) ∙ h)

  rests : is_running g n ≡ false
  rests = is_false (is_running g n) (λ h. evaluated_apart (reader app n) evaluated (whole.stands.stands.running n (whole.runs n h)).observer)

  pub may_open : (is_expression_at (reader app n) ≡ true → lives old n ≡ false) → MayOpen g n
  may_open dead = record {
    within = within;
    not_running = rests;
    not_used = λ h. is_false (context_at g n).used (λ u. false≢true (sym (dead (whole.used n u)) ∙ alive_lives n h));
  }

  abbrev opened : Contexts
  opened = after_open n g

  opened_here : context_at opened n ≡ record (context_at g n) { stage = running [] }
  opened_here = context_here g n (record (context_at g n) { stage = running [] }) within

  opened_there : (m : ℕ) → m ≢ n → context_at opened m ≡ context_at g m
  opened_there m d = context_there g n m (record (context_at g n) { stage = running [] }) d

  opened_size : length opened.readers ≡ length g.readers
  opened_size = length-set g.readers n (record (context_at g n) { stage = running [] })

  -- ---- it is opened
  module _ (begun : Contexts) (begins : IsSameGraph begun opened) where
    pub begun_within : n < length begun.readers
    begun_within = subst (λ z. n < z) (sym (begins.count ∙ opened_size)) within

    pub begun_runs : is_running begun n ≡ true
    begun_runs = running_at begun opened begins n (record (context_at g n) { stage = running [] }) opened_here

    reach_within : (x : On) → MayReach app n old x → IsWithin begun n x
    reach_within (on.Source s) h = subst (λ z. s < z) (sym (begins.sources ∙ held.sources)) h
    reach_within (on.Expr m) h =
        let e = expression_evaluated (reader app m) h.1 in (
          subst (λ z. m < z) (sym (begins.count ∙ opened_size ∙ held.contexts)) (evaluated_in (readers app) m (reader app m) refl e),
          h.0,
          alive_at begun opened begins m (context_at g m) (opened_there m h.0) ∙ lives_alive m e h.2,
        )

    pub begun_reached : (reached : List On) → Every (MayReach app n old) reached → Every (IsWithin begun n) reached
    begun_reached reached h = every_map (MayReach app n old) (IsWithin begun n) reach_within reached h

    -- ---- memory is wanting on the way
    module _ (left : Contexts) (still : StillRuns n begun left) where
      abbrev lost : KeptSession
      lost = session_seen values.values left.readers ks o

      left_sizes : length left.readers ≡ length ks
      left_sizes = still.count ∙ begins.count ∙ opened_size ∙ sizes

      left_there : (m : ℕ) → m ≢ n → IsSameStage (context_at left m).stage (context_at g m).stage
      left_there m d =
          stage-trans (context_at left m).stage (context_at begun m).stage (context_at g m).stage (still.others m d)
          (stage-trans (context_at begun m).stage (context_at opened m).stage (context_at g m).stage (begins.each m).stage
          (equal_stages (context_at opened m).stage (context_at g m).stage (ap (λ (c : Context). c.stage) (opened_there m d))))

      lost_there : (m : ℕ) → m ≢ n → IsAlikeReader (kept_reader old m) (kept_reader lost m)
      lost_there m d =
          subst (λ r. IsAlikeReader r (kept_reader lost m)) (sym (seen_at values.values g ks o m sizes))
          (subst (IsAlikeReader (reader_seen (is_observing o m) (context_at g m) (kept_at ks m))) (sym (seen_at values.values left ks o m left_sizes))
          (record {
            dependence = alike_dependence (is_observing o m) (kept_at ks m).ran (context_at g m).stage (context_at left m).stage (stage-sym (context_at left m).stage (context_at g m).stage (left_there m d));
            isolated = refl;
            outcome = refl;
          }))

      pub store_lost : IsLost n old lost
      store_lost = record {
        values = refl;
        size = seen_size o 0 left.readers ks left_sizes ∙ left_sizes ∙ sym (seen_size o 0 g.readers ks sizes ∙ sizes);
        readers = λ m d. lost_there m d;
        dead = λ h. lives_seen values.values left ks o n left_sizes ∙ not_live (is_alive left n) (is_observing o n) (is_current left n) (runs_dead (context_at left n).stage still.runs) (unobserved n evaluated);
        running = refl;
      }

      pub lost_held : IsHeld app values left ks o false
      lost_held = record {
        proper = held.proper;
        numbers = held.numbers;
        known = held.known;
        sources = still.sources ∙ begins.sources ∙ held.sources;
        contexts = still.count ∙ begins.count ∙ opened_size ∙ held.contexts;
        each_kept = held.each_kept;
        alive_ran = by_number (λ m. is_alive left m ≡ true → (kept_at ks m).ran ≡ true) n
            (λ h. absurd (false≢true (sym (runs_dead (context_at left n).stage still.runs) ∙ h)))
            (λ m d h. held.alive_ran m (sym (stage_alive (context_at left m).stage (context_at g m).stage (left_there m d)) ∙ h));
        observer_ran = held.observer_ran;
        whole = λ w. absurd (false≢true w);
      }

    -- ---- all was reached, and it is closed
    module _ (reached : List On) (may : Every (MayReach app n old) reached) (left closed : Contexts) (leaves : IsSameGraph left (after_depends n reached begun)) (closes : IsSameGraph closed (after_close n left))
        (isolated : List (ℕ × Outcome)) (outcome : Outcome) where
      abbrev ends : Contexts
      ends = after_depends n reached opened

      abbrev last : Context
      last = record { stage = closed_stage (context_at ends n).stage; used = false }

      abbrev final : Contexts
      final = after_close n ends

      is_final : IsSameGraph closed final
      is_final = graph-trans closed (after_close n left) final closes
          (close_alike n left ends (graph-trans left (after_depends n reached begun) ends leaves (depends_alike n reached begun opened begins)))

      opened_used : (m : ℕ) → (context_at opened m).used ≡ true → is_expression_at (reader app m) ≡ true
      opened_used = by_number (λ m. (context_at opened m).used ≡ true → is_expression_at (reader app m) ≡ true) n
          (λ h. whole.used n (sym (ap (λ (c : Context). c.used) opened_here) ∙ h))
          (λ m d h. whole.used m (sym (ap (λ (c : Context). c.used) (opened_there m d)) ∙ h))

      leads_to : (x : On) → MayReach app n old x → Leads old n (λ m. is_expression_at (reader app m) ≡ true) opened x
      leads_to (on.Source s) h = tt
      leads_to (on.Expr m) h =
          let live = lives_alive m (expression_evaluated (reader app m) h.1) h.2 in (
            h.0,
            ap (λ (c : Context). sources_reached c.stage) (opened_there m h.0)
                ∙ reached_seen (is_observing o m) (kept_at ks m).ran (context_at g m).stage live
                ∙ ap (λ (r : KeptReader). reached_by r.dependence) (sym (seen_at values.values g ks o m sizes)),
            h.1,
          )

      depended : Depended n (λ m. is_expression_at (reader app m) ≡ true) opened ends (members_reached old reached)
      depended = depend_all n (λ m. is_expression_at (reader app m) ≡ true) old reached opened [] (subst (λ z. n < z) (sym opened_size) within)
          (ap (λ (c : Context). c.stage) opened_here) opened_used
          (every_map (MayReach app n old) (Leads old n (λ m. is_expression_at (reader app m) ≡ true) opened) leads_to reached may)

      ends_size : length ends.readers ≡ length g.readers
      ends_size = depended.count ∙ opened_size

      final_here : context_at final n ≡ last
      final_here = context_here ends n last (subst (λ z. n < z) (sym ends_size) within)

      final_there : (m : ℕ) → m ≢ n → context_at final m ≡ context_at ends m
      final_there m d = context_there ends n m last d

      stage_there : (m : ℕ) → m ≢ n → (context_at final m).stage ≡ (context_at g m).stage
      stage_there m d = ap (λ (c : Context). c.stage) (final_there m d) ∙ depended.stages m d ∙ ap (λ (c : Context). c.stage) (opened_there m d)

      stage_here : (context_at final n).stage ≡ alive_stage (members_reached old reached)
      stage_here = ap (λ (c : Context). c.stage) final_here ∙ ap closed_stage depended.here

      final_size : length final.readers ≡ length g.readers
      final_size = length-set ends.readers n last ∙ ends_size

      abbrev keeps : Kept
      keeps = record { ran = true; isolated = isolated; outcome = outcome }

      abbrev kept : List Kept
      kept = slice_set ks n keeps

      kept_now : kept_at kept n ≡ keeps
      kept_now = kept_here ks n keeps within_kept

      abbrev new : KeptSession
      new = session_seen values.values closed.readers kept o

      abbrev stored_reader : KeptReader
      stored_reader = record { dependence = alive (members_reached old reached); isolated = isolated; outcome = outcome }

      abbrev stored : KeptSession
      stored = stored_kept n reached isolated outcome old

      kept_size : length kept ≡ length ks
      kept_size = length-set ks n keeps

      old_size : length old.readers ≡ length ks
      old_size = seen_size o 0 g.readers ks sizes ∙ sizes

      seen_each : (m : ℕ) → kept_reader stored m ≡ reader_seen (is_observing o m) (context_at final m) (kept_at kept m)
      seen_each = by_number (λ m. kept_reader stored m ≡ reader_seen (is_observing o m) (context_at final m) (kept_at kept m)) n
          (reader_kept.kept_here old n stored_reader (subst (λ z. n < z) (sym old_size) within_kept)
          ∙ (λ j. record { dependence = dependence_seen (is_observing o n) (sym kept_now j).ran (sym stage_here j); isolated = (sym kept_now j).isolated; outcome = (sym kept_now j).outcome }))
          (λ m d. reader_kept.kept_there old n m stored_reader d ∙ seen_at values.values g ks o m sizes
          ∙ (λ j. record {
            dependence = dependence_seen (is_observing o m) (sym (kept_there ks n m keeps d) j).ran (sym (stage_there m d) j);
            isolated = (sym (kept_there ks n m keeps d) j).isolated;
            outcome = (sym (kept_there ks n m keeps d) j).outcome;
          }))

      pub store_alike : IsAlike stored new
      store_alike = alike_where stored values.values closed final kept o (final_size ∙ sizes ∙ sym kept_size) is_final refl
          (reader_kept.kept_size old n stored_reader ∙ old_size ∙ sym kept_size) refl seen_each

      alive_there : (m : ℕ) → m ≢ n → is_alive closed m ≡ is_alive g m
      alive_there m d = alive_at closed final is_final m (context_at final m) refl ∙ ap is_alive_stage (stage_there m d)

      running_there : (m : ℕ) → m ≢ n → is_running closed m ≡ is_running g m
      running_there m d = running_at closed final is_final m (context_at final m) refl ∙ ap is_running_stage (stage_there m d)

      rests_here : is_running closed n ≡ false
      rests_here = running_at closed final is_final n last final_here ∙ closed_runs (context_at ends n).stage

      ran_there : (m : ℕ) → m ≢ n → (kept_at kept m).ran ≡ (kept_at ks m).ran
      ran_there m d = ap (λ (k : Kept). k.ran) (kept_there ks n m keeps d)

      ran_here : (kept_at kept n).ran ≡ true
      ran_here = ap (λ (k : Kept). k.ran) kept_now

      module _ (stands : StandsForSome app new) where
        is_whole : IsWhole app values closed kept o
        is_whole = record {
          runs = by_number (λ m. is_running closed m ≡ true → o ≡ Some m) n
              (λ h. absurd (false≢true (sym rests_here ∙ h)))
              (λ m d h. whole.runs m (sym (running_there m d) ∙ h));
          observes = by_number (λ m. o ≡ Some m → is_running closed m ≡ true) n
              (λ h. absurd (false≢true (sym rests ∙ whole.observes n h)))
              (λ m d h. running_there m d ∙ whole.observes m h);
          used = by_number (λ m. (context_at closed m).used ≡ true → is_expression_at (reader app m) ≡ true) n
              (λ h. absurd (false≢true (sym (used_at closed final is_final n last final_here) ∙ h)))
              (λ m d h. depended.used m (sym (used_at closed final is_final m (context_at ends m) (final_there m d)) ∙ h));
          stands = stands;
        }

        pub store_held : IsHeld app values closed kept o found
        store_held = record {
          proper = held.proper;
          numbers = held.numbers;
          known = held.known;
          sources = is_final.sources ∙ depended.sources ∙ held.sources;
          contexts = is_final.count ∙ final_size ∙ held.contexts;
          each_kept = kept_size ∙ held.each_kept;
          alive_ran = by_number (λ m. is_alive closed m ≡ true → (kept_at kept m).ran ≡ true) n (λ h. ran_here)
              (λ m d h. ran_there m d ∙ held.alive_ran m (sym (alive_there m d) ∙ h));
          observer_ran = by_number (λ m. o ≡ Some m → (kept_at kept m).ran ≡ true) n (λ h. ran_here) (λ m d h. ran_there m d ∙ held.observer_ran m h);
          whole = λ w. is_whole;
        }
