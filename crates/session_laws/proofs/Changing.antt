-- A change keeps that the state is sound: who stays alive reaches none of what changed.
use Rattle.std.proofs.Common.{◌≡◌, ◌≢◌, inl, inr, ℕ, zero, suc, Bool, true, false, List, [], ◌∷◌, length, map, Option, Some, None, refl, sym, ap, ◌∙◌, subst}
use Rattle.std.specs.Prelude.{not, ◌==◌, ◌||◌, slice_get, slice_set, unwrap_or, if◌then◌else◌}
use Rattle.std.specs.List.{list_any}
use Rattle.std.proofs.lemmas.Bool.{false≢true}
use Rattle.std.proofs.lemmas.Bool.Decides.{eqb_tells}
use Rattle.rx_value.specs.declared.source.SourceValue.{SourceValue}
use Rattle.rx_value.specs.declared.source.SourceValue.TheVariants as source
use Rattle.rx_value.specs.declared.value.Value.TheVariants.{Null}
use Rattle.app_tree.specs.declared.term.Read.{Read}
use Rattle.app_tree.specs.declared.term.Read.TheVariants as read
use Rattle.app_tree.specs.Tree.{Node, Shape}
use Rattle.app_tree.specs.Numbering.{reader, is_expression, is_output, is_evaluated}
use Rattle.app_tree.specs.Current.{value_at}
use Rattle.app_tree.specs.Evaluate.{Evaluation}
use Rattle.app_tree.specs.Cover.{is_covered}
use Rattle.app_tree.specs.Fresh.{Known, known_at, answer_to, sources_of_reads, is_expression_at, is_among}
use Rattle.session_model.specs.declared.state.Dependencies.{Dependencies}
use Rattle.session_model.specs.declared.state.ReaderState.{ReaderState}
use Rattle.session_model.specs.State.{SessionState, first_reader, reader_state, sources_in, is_alive}
use Rattle.session_model.specs.Change.{marked_dependencies, marked_reader, with_source_value}
use Rattle.app_tree.specs.Trace.{Every, EveryRead}
use Rattle.app_laws.specs.Orderly.{ReadsBelow, bound_of, IsOrderly}
use Rattle.session_laws.specs.Now.{kept_site, site_now, sites_now, known_now, evaluation_now}
use Rattle.session_model.specs.Standing.{IsAliveRead}
use Rattle.session_laws.specs.Sound.{IsSoundAt, IsSound}
use Rattle.app_laws.proofs.WhatIsAsked.{reads_map, reads_zip, IsGiven}
use Rattle.app_laws.proofs.KnownLists.{known_fixed}
use Rattle.session_laws.proofs.Staying.{alive_by, alive_now, asked_low}
use Rattle.session_laws.proofs.Moving.{not_both}
use Rattle.session_laws.proofs.Walking.{expression_of}
use Rattle.session_laws.proofs.Quiet.{Follows, IsLiveRead, quiet_evaluation, quiet_answers, quiet_sources, asked_live}

pub map_size : {A B : Type 0} (f : A → B) (xs : List A) → length (map f xs) ≡ length xs
map_size f [] = refl
map_size f (x ∷ xs) = ap suc (map_size f xs)

get_mapped : {A B : Type 0} (f : A → B) (d : A) (xs : List A) (n : ℕ) → unwrap_or (slice_get (map f xs) n) (f d) ≡ f (unwrap_or (slice_get xs n) d)
get_mapped f d [] n = refl
get_mapped f d (x ∷ xs) zero = refl
get_mapped f d (x ∷ xs) (suc n) = get_mapped f d xs n

set_there : {A : Type 0} (xs : List A) (n m : ℕ) (x : A) → m ≢ n → slice_get (slice_set xs n x) m ≡ slice_get xs m
set_there [] n m x h = refl
set_there (y ∷ xs) zero zero x h = absurd (h refl)
set_there (y ∷ xs) zero (suc m) x h = refl
set_there (y ∷ xs) (suc n) zero x h = refl
set_there (y ∷ xs) (suc n) (suc m) x h = set_there xs n m x (λ e. h (ap suc e))

set_other : {A : Type 0} (xs : List A) (s t : ℕ) (x : A) → (t == s) ≡ false → slice_get (slice_set xs s x) t ≡ slice_get xs t
set_other xs s t x h = set_there xs s t x (elim (eqb_tells t s) [ inl p ↦ absurd (not_both p.0 h) | inr p ↦ p.1 ])

-- a list without it
none_reached : (s : ℕ) (xs : List ℕ) → is_among s xs ≡ false → Every (λ t. (t == s) ≡ false) xs
none_reached s [] h = tt
none_reached s (x ∷ xs) h = (left (x == s) (list_any (λ t. t == s) xs) h, none_reached s xs (right (x == s) (list_any (λ t. t == s) xs) h))
  where
    left : (a b : Bool) → (a || b) ≡ false → a ≡ false
    left true b h = h
    left false b h = refl

    right : (a b : Bool) → (a || b) ≡ false → b ≡ false
    right true b h = cc
    right false b h = h

-- who is alive behind a change was alive before, and reaches nothing of it
pub record Unmarked (s : ℕ) (r : ReaderState) : Type 0 where
  pub alive : is_alive r ≡ true
  pub apart : is_among s (sources_in r.dependencies) ≡ false
  pub stays : marked_reader s r ≡ r

unmarked_by : (s : ℕ) (r : ReaderState) (o : Option Dependencies) → r.dependencies ≡ o → alive_by (marked_dependencies s o) ≡ true → Unmarked s r
unmarked_by s r None h a = cc
unmarked_by s r (Some d) h a = by (is_among s d.sources) refl a
  where
    by : (b : Bool) → is_among s d.sources ≡ b → not (if b then record d { changed = true } else d).changed ≡ true → Unmarked s r
    by true q x = absurd (false≢true x)
    by false q x = record {
      alive = ap alive_by h ∙ x;
      apart = ap (λ z. is_among s (sources_in z)) h ∙ q;
      stays = ap (λ z. record r { dependencies = z }) (ap (marked_dependencies s) h ∙ ap (λ b. Some (if b then record d { changed = true } else d)) q ∙ sym h);
    }

pub unmarked : (s : ℕ) (r : ReaderState) → is_alive (marked_reader s r) ≡ true → Unmarked s r
unmarked s r a = unmarked_by s r r.dependencies refl a

-- and the other way round
pub still_alive : (s : ℕ) (r : ReaderState) → is_alive r ≡ true → is_among s (sources_in r.dependencies) ≡ false → is_alive (marked_reader s r) ≡ true
still_alive s r a h = by r.dependencies refl
  where
    by : (o : Option Dependencies) → r.dependencies ≡ o → is_alive (marked_reader s r) ≡ true
    by None q = absurd (false≢true (sym (ap alive_by q) ∙ a))
    by (Some d) q = ap (λ z. alive_by (marked_dependencies s z)) q ∙ ap (λ b. not (if b then record d { changed = true } else d).changed) (ap (λ z. is_among s (sources_in z)) (sym q) ∙ h) ∙ ap alive_by (sym q) ∙ a

pub marked_at : (s n : ℕ) (x : SourceValue) (M : SessionState) → reader_state (with_source_value s x M) n ≡ marked_reader s (reader_state M n)
marked_at s n x M = get_mapped (marked_reader s) first_reader M.readers n

module _ (app : Shape) (orderly : IsOrderly app) (covered : (n : ℕ) → is_covered app n ≡ true) (M : SessionState) (sound : IsSound app M) (s : ℕ) (x : SourceValue) where
  abbrev N : SessionState
  N = with_source_value s x M

  abbrev Q : ℕ → Type 0
  Q t = (t == s) ≡ false

  equal : (t : ℕ) → Q t → value_at M.values t ≡ value_at N.values t
  equal t h = ap (λ o. unwrap_or o (source.Plain Null)) (sym (set_other M.values s t x h))

  -- alive behind the change
  abbrev Live : ℕ → Type 0
  Live n = is_alive (reader_state N n) ≡ true

  was : (n : ℕ) → Live n → Unmarked s (reader_state M n)
  was n l = unmarked s (reader_state M n) (ap is_alive (sym (marked_at s n x M)) ∙ l)

  same_reader : (n : ℕ) → Live n → reader_state N n ≡ reader_state M n
  same_reader n l = marked_at s n x M ∙ (was n l).stays

  kept_now : (n : ℕ) → Live n → sites_now app M n ≡ kept_site (reader_state M n)
  kept_now n l = alive_now app n (reader_state M n) (was n l).alive

  given : (n : ℕ) → Live n → (t : ℕ) → IsGiven (sites_now app M n t)
  given n l t = subst IsGiven (ap (λ f. f t) (sym (kept_now n l))) tt

  same_sites : (n : ℕ) → Live n → (t : ℕ) → sites_now app M n t ≡ sites_now app N n t
  same_sites n l t = ap (λ r. site_now app n r t) (sym (same_reader n l))

  -- what it depends on is what it reaches
  quiet_here : (n : ℕ) (i : Node) → reader app n ≡ Some i → is_evaluated i ≡ true → Live n → Every Q (sources_of_reads app (known_now app M) [] (evaluation_now app M n).outside)
  quiet_here n i is e l = none_reached s (sources_of_reads app (known_now app M) [] (evaluation_now app M n).outside) (sym ((sound.at n i is e (was n l).alive).sources s) ∙ (was n l).apart)

  reached_none : (xs : List ℕ) → Every Q xs → is_among s xs ≡ false
  reached_none [] h = refl
  reached_none (y ∷ xs) h = ap (λ b. b || is_among s xs) h.0 ∙ reached_none xs h.1

  -- an expression that was alive, and is quiet, stays alive
  stays_live : (m : ℕ) → is_expression_at (reader app m) ≡ true → is_alive (reader_state M m) ≡ true → Every Q (known_at (known_now app M) m).sources → Live m
  stays_live m h a q =
      let i : Node = (expression_of app m h).0 in
      let is : reader app m ≡ Some i = (expression_of app m h).1 in
      let expression : is_expression i ≡ true = (expression_of app m h).2 in
      let at : IsSoundAt app M m = sound.at m i is (ap (λ b. b || is_output i) expression) a in
      let known : (known_at (known_now app M) m).sources ≡ sources_of_reads app (known_now app M) [] (evaluation_now app M m).outside = ap (λ (k : Known). k.sources) (known_fixed app M.values (sites_now app M) orderly m i is expression) in
      ap is_alive (marked_at s m x M) ∙ still_alive s (reader_state M m) a (at.sources s ∙ reached_none (sources_of_reads app (known_now app M) [] (evaluation_now app M m).outside) (subst (Every Q) known q))

  follows : (bound : ℕ) (r : Read) → ReadsBelow app bound r → IsAliveRead M r → Follows app orderly covered M.values N.values (sites_now app M) (sites_now app N) Q equal Live given same_sites r
  follows bound (read.Expr m) h a = λ q. stays_live m h.1 a q
  follows bound (read.Input t) h a = tt
  follows bound (read.Value t) h a = tt
  follows bound (read.Status t) h a = tt
  follows bound (read.Result t) h a = tt
  follows bound (read.Width n) h a = tt
  follows bound (read.Height n) h a = tt

  closed : (n : ℕ) (i : Node) → reader app n ≡ Some i → is_evaluated i ≡ true → Live n → EveryRead (Follows app orderly covered M.values N.values (sites_now app M) (sites_now app N) Q equal Live given same_sites) (evaluation_now app M n).asked
  closed n i is e l =
      reads_zip (ReadsBelow app (bound_of app n i)) (IsAliveRead M) (Follows app orderly covered M.values N.values (sites_now app M) (sites_now app N) Q equal Live given same_sites) (follows (bound_of app n i)) (evaluation_now app M n).asked
      (asked_low app orderly n i is (record { read = answer_to app M.values (known_now app M); site = sites_now app M n })) (sound.at n i is e (was n l).alive).closed

  live_read : (r : Read) → IsLiveRead app orderly covered M.values N.values (sites_now app M) (sites_now app N) Q equal Live given same_sites r → IsAliveRead N r
  live_read (read.Expr m) h = h
  live_read (read.Input t) h = tt
  live_read (read.Value t) h = tt
  live_read (read.Status t) h = tt
  live_read (read.Result t) h = tt
  live_read (read.Width n) h = tt
  live_read (read.Height n) h = tt

  -- who stays alive gives the same
  pub unchanged : (n : ℕ) (i : Node) → reader app n ≡ Some i → is_evaluated i ≡ true → Live n → evaluation_now app N n ≡ evaluation_now app M n
  unchanged n i is e l = quiet_evaluation app orderly covered M.values N.values (sites_now app M) (sites_now app N) Q equal Live given same_sites closed n i is e l (quiet_here n i is e l)

  -- and is answered the same
  pub unchanged_answers : (n : ℕ) (i : Node) → reader app n ≡ Some i → is_evaluated i ≡ true → Live n
      → EveryRead (λ r. answer_to app M.values (known_now app M) r ≡ answer_to app N.values (known_now app N) r) (evaluation_now app M n).asked
  unchanged_answers n i is e l = quiet_answers app orderly covered M.values N.values (sites_now app M) (sites_now app N) Q equal Live given same_sites closed n i is e l (quiet_here n i is e l)

  sound_there : (n : ℕ) (i : Node) → reader app n ≡ Some i → is_evaluated i ≡ true → Live n → IsSoundAt app N n
  sound_there n i is e l = record {
    sources = λ t. ap (λ (r : ReaderState). is_among t (sources_in r.dependencies)) (same_reader n l) ∙ (sound.at n i is e (was n l).alive).sources t
        ∙ ap (is_among t) (sym (quiet_sources app orderly covered M.values N.values (sites_now app M) (sites_now app N) Q equal Live given same_sites closed n i is e l (quiet_here n i is e l)));
    closed = subst (λ (y : Evaluation). EveryRead (IsAliveRead N) y.asked) (sym (unchanged n i is e l))
        (reads_map (IsLiveRead app orderly covered M.values N.values (sites_now app M) (sites_now app N) Q equal Live given same_sites) (IsAliveRead N) live_read (evaluation_now app M n).asked
        (asked_live app orderly covered M.values N.values (sites_now app M) (sites_now app N) Q equal Live given same_sites closed n i is e l (quiet_here n i is e l)));
  }

  pub changed_sound : IsSound app N
  changed_sound = record { size = map_size (marked_reader s) M.readers ∙ sound.size; at = sound_there }
