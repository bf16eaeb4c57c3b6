-- The observer that runs has reached more.
use Rattle.std.proofs.Common.{◌≡◌, ◌≢◌, ◌<◌, ℕ, Bool, true, false, List, length, Option, Some, refl, sym, ap, ◌∙◌, subst}
use Rattle.std.specs.Prelude.{◌&&◌, ◌||◌}
use Rattle.std.proofs.lemmas.Bool.{false≢true}
use Rattle.app_tree.specs.Held.{Held}
use Rattle.app_tree.specs.Tree.{Shape}
use Rattle.app_tree.specs.View.{shape_of}
use Rattle.app_tree.specs.Numbering.{readers, reader, starting_values}
use Rattle.app_tree.specs.Fresh.{is_expression_at}
use Rattle.app_tree.specs.Trace.{Every}
use Rattle.app_laws.specs.Proper.{IsProper}
use Rattle.app_laws.proofs.WhatIsAsked.{every_map}
use Rattle.app_laws.proofs.KnownLists.{get_in}
use Rattle.rx_source.specs.NumberedValues.{NumberedValues}
use Rattle.session_model.specs.Standing.{alive, KeptReader, KeptSession, kept_reader}
use Rattle.session_laws.proofs.Walking.{expression_of}
use Rattle.session_steps.specs.Keeping.{lives, reached_by, IsAlikeReader, IsAlike}
use Rattle.session_steps.specs.Bringing.{IsLost}
use Rattle.session_steps.proofs.KeptReaders as reader_kept
use Rattle.dep_graph.specs.declared.on.On.{On}
use Rattle.dep_graph.specs.declared.on.On.TheVariants as on
use Rattle.dep_graph.specs.Contexts.{Stage, idle, alive as alive_stage, running, overtaken, Contexts, context_at, is_alive_stage, is_current_stage, is_running_stage, is_alive, is_current, is_running, sources_reached}
use Rattle.dep_graph.specs.Conditions.{IsWithin}
use Rattle.dep_graph.specs.SameGraph.{IsSameGraph}
use Rattle.react_session.specs.declared.kept.Kept.{Kept}
use Rattle.react_session.specs.Keeping.{Keeping}
use Rattle.react_session.specs.Seen.{dependence_seen, is_observing, reader_seen, kept_at, session_seen}
use Rattle.react_session.specs.Holding.{StandsForSome, IsWhole, IsHeld}
use Rattle.react_session.specs.inner.Storing.{with_members, MayReach, after_depends, StillRuns}
use Rattle.react_session.specs.inner.Terms.{reached_kept}
use Rattle.react_session.proofs.ByNumber.{observes_itself, observes_no_other, running_within, by_number, stage-sym, stage_alive, alive_at, running_at, used_at}
use Rattle.react_session.proofs.Seeing.{seen_size, seen_at, lives_seen, alike_dependence, alike_where}
use Rattle.react_session.proofs.Depending.{Depended, Leads, depend_all}
use Rattle.react_session.proofs.StoredRuns.{reached_seen, runs_dead}

or_left : (a b : Bool) → (a || (false && b)) ≡ true → a ≡ true
or_left true b h = refl
or_left false b h = absurd (false≢true h)

or_current : (a b : Bool) → a ≡ false → (a || (true && b)) ≡ b
or_current true b h = absurd (false≢true (sym h))
or_current false b h = refl

-- it runs, and no change has overtaken it
running_is : (t : Stage) → is_running_stage t ≡ true → is_current_stage t ≡ true → t ≡ running (sources_reached t)
running_is idle h k = absurd (false≢true h)
running_is (alive_stage s) h k = absurd (false≢true h)
running_is (running s) h k = refl
running_is overtaken h k = absurd (false≢true k)

-- what is known of the observer that runs, in words of the session; `current` says whether no change has overtaken it
pub record IsObserving (k : Keeping) (n : ℕ) (current : Bool) : Type 0 where
  pub proper : IsProper (shape_of k.app)
  pub sources : length k.session.values ≡ length (starting_values (shape_of k.app).items)
  pub stands : StandsForSome (shape_of k.app) k.session
  pub live : lives k.session n ≡ current

module _ (app : Shape) (values : NumberedValues) (g : Contexts) (ks : List Kept) (o : Option ℕ) (found : Bool) (n : ℕ)
    (held : IsHeld app values g ks o found) (whole : IsWhole app values g ks o) (observed : o ≡ Some n) where
  abbrev old : KeptSession
  old = session_seen values.values g.readers ks o

  sizes : length g.readers ≡ length ks
  sizes = held.contexts ∙ sym held.each_kept

  runs : is_running g n ≡ true
  runs = whole.observes n observed

  observes : is_observing o n ≡ true
  observes = ap (λ z. is_observing z n) observed ∙ observes_itself n

  observes_not : (m : ℕ) → m ≢ n → is_observing o m ≡ false
  observes_not m d = ap (λ z. is_observing z m) observed ∙ observes_no_other n m d

  pub observer_within : n < length g.readers
  observer_within = running_within g n runs

  -- it is alive where no change has overtaken it
  current_lives : lives old n ≡ is_current g n
  current_lives =
      lives_seen values.values g ks o n sizes
      ∙ ap (λ b. is_alive g n || (b && is_current g n)) observes
      ∙ or_current (is_alive g n) (is_current g n) (runs_dead (context_at g n).stage runs)

  lives_alive : (m : ℕ) → m ≢ n → lives old m ≡ true → is_alive g m ≡ true
  lives_alive m d h =
      or_left (is_alive g m) (is_current g m)
      (ap (λ b. is_alive g m || (b && is_current g m)) (sym (observes_not m d)) ∙ sym (lives_seen values.values g ks o m sizes) ∙ h)

  expression_in : (m : ℕ) → is_expression_at (reader app m) ≡ true → m < length (readers app)
  expression_in m x = let e = expression_of app m x in get_in (readers app) m e.0 e.1

  reach_within : (x : On) → MayReach app n old x → IsWithin g n x
  reach_within (on.Source s) h = subst (λ z. s < z) (sym held.sources) h
  reach_within (on.Expr m) h = (subst (λ z. m < z) (sym held.contexts) (expression_in m h.1), h.0, lives_alive m h.0 h.2)

  pub all_within : (reached : List On) → Every (MayReach app n old) reached → Every (IsWithin g n) reached
  all_within reached h = every_map (MayReach app n old) (IsWithin g n) reach_within reached h

  module _ (live : lives old n ≡ true) where
    abbrev before : List ℕ
    before = sources_reached (context_at g n).stage

    stage_was : (context_at g n).stage ≡ running before
    stage_was = running_is (context_at g n).stage runs (sym current_lives ∙ live)

    seen_was : kept_reader old n ≡ record { dependence = alive before; isolated = (kept_at ks n).isolated; outcome = (kept_at ks n).outcome }
    seen_was = seen_at values.values g ks o n sizes
        ∙ (λ j. record { dependence = dependence_seen (observes j) (kept_at ks n).ran (stage_was j); isolated = (kept_at ks n).isolated; outcome = (kept_at ks n).outcome })

    -- ---- memory is wanting on the way
    module _ (left : Contexts) (still : StillRuns n g left) where
      abbrev lost : KeptSession
      lost = session_seen values.values left.readers ks o

      left_sizes : length left.readers ≡ length ks
      left_sizes = still.count ∙ sizes

      lost_there : (m : ℕ) → m ≢ n → IsAlikeReader (kept_reader old m) (kept_reader lost m)
      lost_there m d =
          subst (λ r. IsAlikeReader r (kept_reader lost m)) (sym (seen_at values.values g ks o m sizes))
          (subst (IsAlikeReader (reader_seen (is_observing o m) (context_at g m) (kept_at ks m))) (sym (seen_at values.values left ks o m left_sizes))
          (record {
            dependence = alike_dependence (is_observing o m) (kept_at ks m).ran (context_at g m).stage (context_at left m).stage (stage-sym (context_at left m).stage (context_at g m).stage (still.others m d));
            isolated = refl;
            outcome = refl;
          }))

      pub reach_lost : IsLost n old lost
      reach_lost = record {
        values = refl;
        size = seen_size o 0 left.readers ks left_sizes ∙ left_sizes ∙ sym (seen_size o 0 g.readers ks sizes ∙ sizes);
        readers = λ m d. lost_there m d;
        dead = λ h. absurd (false≢true (sym h ∙ live));
        running = refl;
      }

      pub reach_lost_held : IsHeld app values left ks o false
      reach_lost_held = record {
        proper = held.proper;
        numbers = held.numbers;
        known = held.known;
        sources = still.sources ∙ held.sources;
        contexts = still.count ∙ held.contexts;
        each_kept = held.each_kept;
        alive_ran = by_number (λ m. is_alive left m ≡ true → (kept_at ks m).ran ≡ true) n
            (λ h. absurd (false≢true (sym (runs_dead (context_at left n).stage still.runs) ∙ h)))
            (λ m d h. held.alive_ran m (sym (stage_alive (context_at left m).stage (context_at g m).stage (still.others m d)) ∙ h));
        observer_ran = held.observer_ran;
        whole = λ w. absurd (false≢true w);
      }

    -- ---- all was reached
    module _ (reached : List On) (may : Every (MayReach app n old) reached) (left : Contexts) (leaves : IsSameGraph left (after_depends n reached g)) where
      abbrev ends : Contexts
      ends = after_depends n reached g

      leads_to : (x : On) → MayReach app n old x → Leads old n (λ m. is_expression_at (reader app m) ≡ true) g x
      leads_to (on.Source s) h = tt
      leads_to (on.Expr m) h = (
        h.0,
        reached_seen (is_observing o m) (kept_at ks m).ran (context_at g m).stage (lives_alive m h.0 h.2)
            ∙ ap (λ (r : KeptReader). reached_by r.dependence) (sym (seen_at values.values g ks o m sizes)),
        h.1,
      )

      abbrev now : List ℕ
      now = with_members old before reached

      depended : Depended n (λ m. is_expression_at (reader app m) ≡ true) g ends now
      depended = depend_all n (λ m. is_expression_at (reader app m) ≡ true) old reached g before observer_within stage_was whole.used
          (every_map (MayReach app n old) (Leads old n (λ m. is_expression_at (reader app m) ≡ true) g) leads_to reached may)

      abbrev new : KeptSession
      new = session_seen values.values left.readers ks o

      abbrev reader_now : KeptReader
      reader_now = record (kept_reader old n) { dependence = alive (with_members old (reached_by (kept_reader old n).dependence) reached) }

      old_size : length old.readers ≡ length g.readers
      old_size = seen_size o 0 g.readers ks sizes

      seen_each : (m : ℕ) → kept_reader (reached_kept n reached old) m ≡ reader_seen (is_observing o m) (context_at ends m) (kept_at ks m)
      seen_each = by_number (λ m. kept_reader (reached_kept n reached old) m ≡ reader_seen (is_observing o m) (context_at ends m) (kept_at ks m)) n
          (reader_kept.kept_here old n reader_now (subst (λ z. n < z) (sym old_size) observer_within)
          ∙ (λ j. record {
            dependence = alive (with_members old (reached_by (seen_was j).dependence) reached);
            isolated = (seen_was j).isolated;
            outcome = (seen_was j).outcome;
          })
          ∙ (λ j. record { dependence = dependence_seen (sym observes j) (kept_at ks n).ran (sym depended.here j); isolated = (kept_at ks n).isolated; outcome = (kept_at ks n).outcome }))
          (λ m d. reader_kept.kept_there old n m reader_now d ∙ seen_at values.values g ks o m sizes
          ∙ (λ j. record {
            dependence = dependence_seen (is_observing o m) (kept_at ks m).ran (sym (depended.stages m d) j);
            isolated = (kept_at ks m).isolated;
            outcome = (kept_at ks m).outcome;
          }))

      pub reach_alike : IsAlike (reached_kept n reached old) new
      reach_alike = alike_where (reached_kept n reached old) values.values left ends ks o (depended.count ∙ sizes) leaves refl
          (reader_kept.kept_size old n reader_now ∙ old_size ∙ sizes) refl seen_each

      alive_there : (m : ℕ) → m ≢ n → is_alive left m ≡ is_alive g m
      alive_there m d = alive_at left ends leaves m (context_at ends m) refl ∙ ap is_alive_stage (depended.stages m d)

      running_there : (m : ℕ) → m ≢ n → is_running left m ≡ is_running g m
      running_there m d = running_at left ends leaves m (context_at ends m) refl ∙ ap is_running_stage (depended.stages m d)

      runs_here : is_running left n ≡ true
      runs_here = running_at left ends leaves n (context_at ends n) refl ∙ ap is_running_stage depended.here

      module _ (stands : StandsForSome app new) where
        is_whole : IsWhole app values left ks o
        is_whole = record {
          runs = by_number (λ m. is_running left m ≡ true → o ≡ Some m) n (λ h. observed) (λ m d h. whole.runs m (sym (running_there m d) ∙ h));
          observes = by_number (λ m. o ≡ Some m → is_running left m ≡ true) n (λ h. runs_here) (λ m d h. running_there m d ∙ whole.observes m h);
          used = λ m h. depended.used m (sym (used_at left ends leaves m (context_at ends m) refl) ∙ h);
          stands = stands;
        }

        pub reach_held : IsHeld app values left ks o found
        reach_held = record {
          proper = held.proper;
          numbers = held.numbers;
          known = held.known;
          sources = leaves.sources ∙ depended.sources ∙ held.sources;
          contexts = leaves.count ∙ depended.count ∙ held.contexts;
          each_kept = held.each_kept;
          alive_ran = by_number (λ m. is_alive left m ≡ true → (kept_at ks m).ran ≡ true) n (λ h. held.observer_ran n observed)
              (λ m d h. held.alive_ran m (sym (alive_there m d) ∙ h));
          observer_ran = held.observer_ran;
          whole = λ w. is_whole;
        }

pub observing : (a : Held) (values : NumberedValues) (g : Contexts) (ks : List Kept) (o : Option ℕ) (found : Bool) (n : ℕ) (k : Keeping) → IsHeld (shape_of a) values g ks o found
    → ◌≡◌ {A = Keeping} (record { app = a; session = session_seen values.values g.readers ks o; whole = found }) k → k.whole ≡ true → k.session.running ≡ Some n → IsObserving k n (is_current g n)
observing a values g ks o found n k held is whole runs =
    let w = held.whole (ap (λ (z : Keeping). z.whole) is ∙ whole) in
    let observed = ap (λ (z : Keeping). z.session.running) is ∙ runs in
    subst (λ z. IsObserving z n (is_current g n)) is (record {
      proper = held.proper;
      sources = held.known;
      stands = w.stands;
      live = current_lives (shape_of a) values g ks o found n held w observed;
    })
