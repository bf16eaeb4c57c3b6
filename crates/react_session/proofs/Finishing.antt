-- The observer's run ends.
use Rattle.std.proofs.Common.{◌≡◌, ◌≢◌, ℕ, Bool, true, false, List, length, Some, None, refl, sym, ap, ◌∙◌}
use Rattle.std.proofs.lemmas.Bool.{false≢true}
use Rattle.std.proofs.lemmas.List.{length-set}
use Rattle.app_tree.specs.Tree.{Shape}
use Rattle.app_tree.specs.Numbering.{reader}
use Rattle.app_tree.specs.Fresh.{is_expression_at}
use Rattle.rx_source.specs.NumberedValues.{NumberedValues}
use Rattle.session_model.specs.Standing.{is_live, KeptReader, KeptSession, kept_reader}
use Rattle.session_steps.specs.Keeping.{lives, IsAlike}
use Rattle.session_steps.specs.Acting.{finish_kept}
use Rattle.session_steps.proofs.Alike.{alike_stands, finish_stands}
use Rattle.dep_graph.specs.Contexts.{ReaderContext as Context, Contexts, context_at, is_alive, is_alive_stage, is_running, closed_stage, after_close}
use Rattle.dep_graph.specs.SameGraph.{IsSameGraph}
use Rattle.react_session.specs.declared.kept.Kept.{Kept}
use Rattle.react_session.specs.Seen.{is_observing, reader_seen, kept_at, session_seen}
use Rattle.react_session.specs.Holding.{IsWhole, IsHeld}
use Rattle.react_session.proofs.ByNumber.{same_number, none_runs, context_here, context_there, running_within, observes_itself, observes_no_other, by_number, alive_at, running_at, used_at}
use Rattle.react_session.proofs.Standings.{closed_by, closed_lives, closed_runs}
use Rattle.react_session.proofs.Seeing.{seen_size, seen_at, StaysBut, seen_but, alike_where}

module _ (app : Shape) (values : NumberedValues) (g after : Contexts) (ks : List Kept) (found : Bool) (n : ℕ)
    (held : IsHeld app values g ks (Some n) found) (runs : is_running g n ≡ true) (same : IsSameGraph after (after_close n g)) where
  abbrev old : KeptSession
  old = session_seen values.values g.readers ks (Some n)

  abbrev closed : Context
  closed = record { stage = closed_stage (context_at g n).stage; used = false }

  abbrev ended : Contexts
  ended = after_close n g

  abbrev new : KeptSession
  new = session_seen values.values after.readers ks None

  sizes : length g.readers ≡ length ks
  sizes = held.contexts ∙ sym held.each_kept

  context_now : context_at ended n ≡ closed
  context_now = context_here g n closed (running_within g n runs)

  others : (m : ℕ) → m ≢ n → context_at ended m ≡ context_at g m
  others m d = context_there g n m closed d

  stays : StaysBut n old (finish_kept old) g ended ks ks (Some n) None
  stays = record {
    sessions = λ m d. refl;
    contexts = others;
    each_kept = λ m d. refl;
    observes = λ m d. sym (observes_no_other n m d);
  }

  seen_as : kept_reader old n ≡ reader_seen true (context_at g n) (kept_at ks n)
  seen_as = seen_at values.values g ks (Some n) n sizes ∙ ap (λ b. reader_seen b (context_at g n) (kept_at ks n)) (observes_itself n)

  seen_here : kept_reader (finish_kept old) n ≡ reader_seen (is_observing None n) (context_at ended n) (kept_at ks n)
  seen_here =
      seen_as
      ∙ (λ j. record { dependence = closed_by (kept_at ks n).ran (context_at g n).stage runs j; isolated = (kept_at ks n).isolated; outcome = (kept_at ks n).outcome })
      ∙ ap (λ c. reader_seen false c (kept_at ks n)) (sym context_now)

  pub finish_alike : IsAlike (finish_kept old) new
  finish_alike = alike_where (finish_kept old) values.values after ended ks None
      (length-set g.readers n closed ∙ sizes) same refl (seen_size (Some n) 0 g.readers ks sizes ∙ sizes) refl
      (seen_but values.values g ended ks ks (Some n) None n (finish_kept old) sizes stays seen_here)

  -- whether it lives still
  pub finish_lives : is_alive ended n ≡ lives old n
  finish_lives =
      ap (λ (c : Context). is_alive_stage c.stage) context_now ∙ closed_lives (kept_at ks n).ran (context_at g n).stage runs
      ∙ ap (λ (r : KeptReader). is_live r.dependence) (sym seen_as)

  is_whole : IsWhole app values g ks (Some n) → IsWhole app values after ks None
  is_whole w = record {
    runs = by_number (λ m. is_running after m ≡ true → None ≡ Some m) n
        (λ h. absurd (false≢true (sym (running_at after ended same n closed context_now ∙ closed_runs (context_at g n).stage) ∙ h)))
        (λ m d h. absurd (d (sym (same_number (w.runs m (sym (running_at after ended same m (context_at g m) (others m d)) ∙ h))))));
    observes = λ m h. absurd (none_runs h);
    used = by_number (λ m. (context_at after m).used ≡ true → is_expression_at (reader app m) ≡ true) n
        (λ h. absurd (false≢true (sym (used_at after ended same n closed context_now) ∙ h)))
        (λ m d h. w.used m (sym (used_at after ended same m (context_at g m) (others m d)) ∙ h));
    stands = record {
      state = w.stands.state;
      stands = alike_stands app (finish_kept old) new w.stands.state (finish_stands app old w.stands.state w.stands.stands) finish_alike;
    };
  }

  pub finish_held : IsHeld app values after ks None found
  finish_held = record {
    proper = held.proper;
    numbers = held.numbers;
    known = held.known;
    sources = same.sources ∙ held.sources;
    contexts = same.count ∙ length-set g.readers n closed ∙ held.contexts;
    each_kept = held.each_kept;
    alive_ran = by_number (λ m. is_alive after m ≡ true → (kept_at ks m).ran ≡ true) n (λ h. held.observer_ran n refl)
        (λ m d h. held.alive_ran m (sym (alive_at after ended same m (context_at g m) (others m d)) ∙ h));
    observer_ran = λ m h. absurd (none_runs h);
    whole = λ w. is_whole (held.whole w);
  }
