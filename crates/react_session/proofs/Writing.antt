-- A source is set.
use Rattle.std.proofs.Common.{◌≡◌, ℕ, suc, ◌+◌, Bool, true, false, List, [], ◌∷◌, length, Option, refl, sym, ap, ◌∙◌, subst, arith, add-one, add-zero}
use Rattle.std.specs.Prelude.{slice_set, slice_index_or, if◌then◌else◌}
use Rattle.std.proofs.lemmas.List.{length-set, length-map}
use Rattle.rx_value.specs.declared.source.SourceValue.{SourceValue}
use Rattle.rx_value.specs.Value.{source_eq}
use Rattle.app_tree.specs.Tree.{Shape}
use Rattle.app_tree.specs.Current.{value_at}
use Rattle.rx_source.specs.NumberedValues.{NumberedValues}
use Rattle.rx_source.specs.declared.sources.Change.TheVariants.{Changed, Same}
use Rattle.rx_source.specs.Changing.{change_of}
use Rattle.session_model.specs.Change.{change}
use Rattle.session_model.specs.Standing.{KeptSession, kept_reader, StandsForState}
use Rattle.session_steps.specs.Keeping.{IsAlike}
use Rattle.session_steps.specs.Acting.{marked_kept, changed_kept, write_kept}
use Rattle.session_steps.proofs.Alike.{alike_stands}
use Rattle.session_steps.proofs.Written.{kept_marked, write_stands}
use Rattle.dep_graph.specs.Contexts.{ReaderContext as Context, Contexts, idle_context, context_at, is_running_stage, changed_context, after_change, marked_from, marked_readers}
use Rattle.dep_graph.specs.SameGraph.{IsSameGraph}
use Rattle.react_session.specs.declared.kept.Kept.{Kept}
use Rattle.react_session.specs.Marking.{marked_among, marked_in_kept, marked_by_write}
use Rattle.react_session.specs.Seen.{is_observing, reader_seen, kept_at, readers_seen, session_seen}
use Rattle.react_session.specs.Holding.{IsWhole, IsHeld}
use Rattle.react_session.proofs.ByNumber.{context_changed, observes_itself, alive_at, running_at, used_at}
use Rattle.react_session.proofs.Standings.{marked_seen, marks_seen, changed_alive, changed_running, changed_used}
use Rattle.react_session.proofs.Seeing.{observed, seen_size, seen_at, alike_where}

-- ---- what setting a source answers

pub was_same : (b : Bool) → change_of b ≡ Same → b ≡ true
was_same true h = refl
was_same false h = cc

pub was_changed : (b : Bool) → change_of b ≡ Changed → b ≡ false
was_changed false h = refl
was_changed true h = cc

pub write_changed : (s : ℕ) (x : SourceValue) (session : KeptSession) → source_eq (value_at session.values s) x ≡ false → changed_kept s x session ≡ write_kept s x session
write_changed s x session h = ap (λ b. if b then session else changed_kept s x session) (sym h)

pub write_same : (s : ℕ) (x : SourceValue) (session : KeptSession) → source_eq (value_at session.values s) x ≡ true → session ≡ write_kept s x session
write_same s x session h = ap (λ b. if b then session else changed_kept s x session) (sym h)

pub marked_changed : (s : ℕ) (x : SourceValue) (session : KeptSession) → source_eq (value_at session.values s) x ≡ false → marked_in_kept s session ≡ marked_by_write s x session
marked_changed s x session h = ap (λ b. if b then [] else marked_in_kept s session) (sym h)

pub none_marked : (s : ℕ) (x : SourceValue) (session : KeptSession) → source_eq (value_at session.values s) x ≡ true → [] ≡ marked_by_write s x session
none_marked s x session h = ap (λ b. if b then [] else marked_in_kept s session) (sym h)

-- ---- who is marked

marked_all : (s : ℕ) (o : Option ℕ) (k : ℕ) (cs : List Context) (ks : List Kept) → length cs ≡ length ks
    → ((i : ℕ) → is_running_stage (slice_index_or cs i idle_context).stage ≡ true → is_observing o (k + i) ≡ true)
    → marked_from s k cs ≡ marked_among s k (readers_seen o k cs ks)
marked_all s o k [] ks e runs = refl
marked_all s o k (c ∷ cs) [] e runs = absurd (omega (e, arith))
marked_all s o k (c ∷ cs) (x ∷ ks) e runs =
    let first : is_running_stage c.stage ≡ true → is_observing o k ≡ true = λ h. ap (is_observing o) (sym (add-zero k)) ∙ runs 0 h in
    let moved : (i : ℕ) → suc k + i ≡ k + suc i = λ i. omega arith in
    let rest = marked_all s o (suc k) cs ks (omega (e, arith)) (λ i h. ap (is_observing o) (moved i) ∙ runs (suc i) h) in
    let more = ap (λ m. marked_from s m cs) (add-one k) ∙ rest in
    (λ j. if sym (marks_seen s (is_observing o k) x.ran c.stage first) j then k ∷ more j else more j)

-- ---- it changes
module _ (app : Shape) (values : NumberedValues) (g after : Contexts) (ks : List Kept) (o : Option ℕ) (found : Bool) (s : ℕ) (x : SourceValue)
    (held : IsHeld app values g ks o found) (same : IsSameGraph after (after_change s g)) where
  abbrev old : KeptSession
  old = session_seen values.values g.readers ks o

  abbrev changed : Contexts
  changed = after_change s g

  abbrev set_values : List SourceValue
  set_values = slice_set values.values s x

  abbrev new : KeptSession
  new = session_seen set_values after.readers ks o

  sizes : length g.readers ≡ length ks
  sizes = held.contexts ∙ sym held.each_kept

  has_run : (m : ℕ) → is_observing o m ≡ true → (kept_at ks m).ran ≡ true
  has_run m h = held.observer_ran m (observed o m h)

  seen_there : (m : ℕ) → kept_reader (changed_kept s x old) m ≡ reader_seen (is_observing o m) (context_at changed m) (kept_at ks m)
  seen_there m =
      kept_marked s m x old ∙ ap (marked_kept s) (seen_at values.values g ks o m sizes)
      ∙ (λ j. record { dependence = marked_seen s (is_observing o m) (kept_at ks m).ran (context_at g m).used (context_at g m).stage (held.alive_ran m) (has_run m) j; isolated = (kept_at ks m).isolated; outcome = (kept_at ks m).outcome })
      ∙ ap (λ c. reader_seen (is_observing o m) c (kept_at ks m)) (sym (context_changed s g m))

  pub change_alike : IsAlike (changed_kept s x old) new
  change_alike = alike_where (changed_kept s x old) set_values after changed ks o
      (length-map g.readers (changed_context s) ∙ sizes) same refl (length-map old.readers (marked_kept s) ∙ seen_size o 0 g.readers ks sizes ∙ sizes) refl seen_there

  is_whole : source_eq (value_at values.values s) x ≡ false → IsWhole app values g ks o → IsWhole app (record values { values = set_values }) after ks o
  is_whole differs w = record {
    runs = λ m h. w.runs m (sym (running_at after changed same m (changed_context s (context_at g m)) (context_changed s g m) ∙ changed_running s (context_at g m).used (context_at g m).stage) ∙ h);
    observes = λ m h. running_at after changed same m (changed_context s (context_at g m)) (context_changed s g m) ∙ changed_running s (context_at g m).used (context_at g m).stage ∙ w.observes m h;
    used = λ m h. w.used m (sym (used_at after changed same m (changed_context s (context_at g m)) (context_changed s g m) ∙ changed_used s (context_at g m)) ∙ h);
    stands = record {
      state = change s x w.stands.state;
      stands = alike_stands app (changed_kept s x old) new (change s x w.stands.state)
          (subst (λ k. StandsForState app k (change s x w.stands.state)) (sym (write_changed s x old differs)) (write_stands app held.proper old w.stands.state w.stands.stands s x))
          change_alike;
    };
  }

  pub change_held : source_eq (value_at values.values s) x ≡ false → IsHeld app (record values { values = set_values }) after ks o found
  change_held differs = record {
    proper = held.proper;
    numbers = held.numbers;
    known = length-set values.values s x ∙ held.known;
    sources = same.sources ∙ held.sources ∙ sym (length-set values.values s x);
    contexts = same.count ∙ length-map g.readers (changed_context s) ∙ held.contexts;
    each_kept = held.each_kept;
    alive_ran = λ m h. held.alive_ran m (changed_alive s (context_at g m).used (context_at g m).stage (sym (alive_at after changed same m (changed_context s (context_at g m)) (context_changed s g m)) ∙ h));
    observer_ran = held.observer_ran;
    whole = λ w. is_whole differs (held.whole w);
  }

  pub change_marks : found ≡ true → marked_readers s g ≡ marked_in_kept s old
  change_marks w =
      let front : (i : ℕ) → 0 + i ≡ i = λ i. omega arith in
      marked_all s o 0 g.readers ks sizes (λ i h. ap (is_observing o) (front i) ∙ ap (λ p. is_observing p i) ((held.whole w).runs i h) ∙ observes_itself i)
