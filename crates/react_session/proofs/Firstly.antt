-- A session in which nothing has run.
use Rattle.std.proofs.Common.{◌≡◌, ℕ, zero, suc, true, List, [], ◌∷◌, length, None, refl, sym, ap, ◌∙◌, subst}
use Rattle.std.specs.Prelude.{replicate, slice_index_or}
use Rattle.std.proofs.lemmas.Bool.{false≢true}
use Rattle.std.proofs.lemmas.List.{length-replicate}
use Rattle.app_tree.specs.Tree.{Node, Shape}
use Rattle.app_tree.specs.Numbering.{readers, numbers_of, starting_values}
use Rattle.app_laws.specs.Proper.{IsProper}
use Rattle.rx_source.specs.NumberedValues.{NumberedValues}
use Rattle.session_model.specs.State.{first_state}
use Rattle.session_model.specs.Standing.{first_kept, first_kept_readers, first_session, StandsForState}
use Rattle.session_laws.proofs.StandingLaws.{first_stands}
use Rattle.dep_graph.specs.Contexts.{ReaderContext as Context, Contexts, idle_context, idle_contexts, context_at, is_alive_stage, is_running_stage}
use Rattle.react_session.specs.declared.kept.Kept.{Kept}
use Rattle.react_session.specs.Seen.{blank, readers_seen, session_seen}
use Rattle.react_session.proofs.ByNumber.{none_runs}
use Rattle.react_session.specs.Holding.{IsWhole, IsHeld}

readers_first : (k : ℕ) (is : List Node) → readers_seen None k (replicate (length is) idle_context) (replicate (length is) blank) ≡ first_kept_readers is
readers_first k [] = refl
readers_first k (i ∷ is) = ap (λ l. first_kept ∷ l) (readers_first (suc k) is)

idle_at : (n m : ℕ) → slice_index_or (replicate n idle_context) m idle_context ≡ idle_context
idle_at zero m = refl
idle_at (suc n) zero = refl
idle_at (suc n) (suc m) = idle_at n m

module _ (app : Shape) (proper : IsProper app) (values : NumberedValues) (g : Contexts) (ks : List Kept) (numbers : values.numbers ≡ numbers_of app) (valued : values.values ≡ starting_values app.items)
    (idles : g ≡ idle_contexts (length (readers app)) (length (starting_values app.items))) (blanks : ks ≡ replicate (length (readers app)) blank) where
  pub first_seen : session_seen values.values g.readers ks None ≡ first_session app
  first_seen = (λ j. session_seen (valued j) (idles j).readers (blanks j) None) ∙ ap (λ l. record { values = starting_values app.items; readers = l; running = None }) (readers_first 0 (readers app))

  context_is : (m : ℕ) → context_at g m ≡ idle_context
  context_is m = ap (λ (c : Contexts). context_at c m) idles ∙ idle_at (length (readers app)) m

  is_whole : IsWhole app values g ks None
  is_whole = record {
    runs = λ m h. absurd (false≢true (sym (ap (λ (c : Context). is_running_stage c.stage) (context_is m)) ∙ h));
    observes = λ m h. absurd (none_runs h);
    used = λ m h. absurd (false≢true (sym (ap (λ (c : Context). c.used) (context_is m)) ∙ h));
    stands = record {
      state = first_state app;
      stands = subst (λ s. StandsForState app s (first_state app)) (sym first_seen) (first_stands app proper).session;
    };
  }

  pub first_held : IsHeld app values g ks None true
  first_held = record {
    proper = proper;
    numbers = numbers;
    known = ap length valued;
    sources = ap (λ (c : Contexts). c.sources) idles ∙ ap length (sym valued);
    contexts = ap (λ (c : Contexts). length c.readers) idles ∙ length-replicate (length (readers app)) idle_context;
    each_kept = ap length blanks ∙ length-replicate (length (readers app)) blank;
    alive_ran = λ m h. absurd (false≢true (sym (ap (λ (c : Context). is_alive_stage c.stage) (context_is m)) ∙ h));
    observer_ran = λ m h. absurd (none_runs h);
    whole = λ w. is_whole;
  }
