-- Each body is run at most once: what is alive stays so, an expression touches expressions of smaller numbers alone, and
-- each reader whose body is run was dead before, and is alive afterwards.
use Rattle.std.proofs.Common.{◌≡◌, ◌≢◌, inl, inr, ◌⊎◌, ◌<◌, ◌≤◌, ℕ, zero, Bool, true, false, List, ◌++◌, length, Option, Some, None, refl, sym, ap, ◌∙◌, subst, arith}
use Rattle.std.specs.Prelude.{nat_eq, replicate, Ok, Err}
use Rattle.std.specs.List.{IsDistinct}
use Rattle.std.proofs.lemmas.Bool.Decides.{eqb_tells}
use Rattle.app_tree.specs.declared.term.Read.TheVariants as read
use Rattle.app_tree.specs.Tree.{Trees, no_trees, tree, Node, input, value, task, reactive, event, text, plot, observe, on, Shape}
use Rattle.app_tree.specs.Numbering.{readers, reader, is_expression}
use Rattle.app_tree.specs.Evaluate.{Answers}
use Rattle.app_tree.specs.Fresh.{is_expression_at}
use Rattle.app_tree.specs.Trace.{Every}
use Rattle.app_tree.specs.Cover.{keyed_outcome}
use Rattle.app_tree.specs.Keys.{KeysResult, keys_result}
use Rattle.app_tree.specs.Wanted.{completed}
use Rattle.app_laws.specs.Orderly.{ReadsBelow, bound_of, IsOrderly}
use Rattle.app_laws.proofs.KnownLists.{get_in}
use Rattle.app_laws.proofs.WhatIsAsked.{both_of, every_map, every_zip, if_true, if_false}
use Rattle.session_model.specs.Bodies.{one_if_values, bodies_behind_keys, bodies_counted}
use Rattle.session_model.specs.Standing.{is_live, KeptReader, KeptSession, kept_reader}
use Rattle.session_laws.proofs.Proper.{orderly as orderly_of}
use Rattle.session_laws.proofs.Staying.{asked_low}
use Rattle.session_laws.proofs.Walking.{expression_of}
use Rattle.session_steps.specs.Keeping.{lives, answering, wanted, attempt, keys_attempt, with_kept, reader_after, shown_outcome, IsAlike}
use Rattle.session_steps.specs.Bringing.{Aim, reading, running, Brings, Begins}
use Rattle.session_steps.specs.BodyLaws.{WasDead, EachRunsOnce, NoMoreThanReaders}
use Rattle.session_laws.proofs.Moving.{not_both}
use Rattle.session_steps.proofs.Dependences.{same_live}
use Rattle.session_steps.proofs.KeptReaders.{kept_here, kept_there, kept_size}
use Rattle.session_steps.proofs.Wanting.{found}
use Rattle.session_steps.proofs.BodiesListed.{never, distinct_none, distinct_one, distinct_join, no_more, at_most_once}

-- ---- what is the same but for the order of sources is alive alike

pub alike_lives : (s s' : KeptSession) → IsAlike s s' → (j : ℕ) → lives s' j ≡ lives s j
alike_lives s s' a j = sym (same_live (kept_reader s j).dependence (kept_reader s' j).dependence (a.readers j).dependence)

-- ---- a body counts once or not at all

values_once : (r : KeysResult) → one_if_values r ≤ 1
values_once (Ok xs) = omega arith
values_once (Err failure) = omega arith

keys_once : (keys : Trees) (a : Answers) → bodies_behind_keys keys a ≤ 1
keys_once no_trees a = omega arith
keys_once (tree key more) a = values_once (keys_result (tree key more) a)

pub counted_once : (o : Option Node) (a : Answers) → bodies_counted o a ≤ 1
counted_once None a = omega arith
counted_once (Some (input name start)) a = omega arith
counted_once (Some (value name start)) a = omega arith
counted_once (Some (task name parameters body)) a = omega arith
counted_once (Some (reactive name keys body)) a = keys_once keys a
counted_once (Some (event name flags e body)) a = omega arith
counted_once (Some (text name shown)) a = keys_once shown.keys a
counted_once (Some (plot name shown)) a = keys_once shown.keys a
counted_once (Some (observe name priority block)) a = omega arith
counted_once (Some (on name priority flags e block)) a = omega arith

-- ---- derivations

module _ (app : Shape) (orderly : IsOrderly app) where
  -- an expression whose number is below a bound
  abbrev pub IsBelow : ℕ → ℕ → Type 0
  IsBelow k j = ReadsBelow app k (read.Expr j)

  pub below_more : (k l j : ℕ) → k ≤ l → IsBelow k j → IsBelow l j
  below_more k l j h b = let at = b.0 in (omega (at, h, arith), b.1)

  pub bound_by : (n : ℕ) (i : Node) → reader app n ≡ Some i → bound_of app n i ≤ length (readers app)
  bound_by n i is = by (is_expression i) refl
    where
      by : (b : Bool) → is_expression i ≡ b → bound_of app n i ≤ length (readers app)
      by true x = let own : bound_of app n i ≡ n = if_true (is_expression i) n (length (readers app)) x in let at = get_in (readers app) n i is in omega (own, at, arith)
      by false x = let all : bound_of app n i ≡ length (readers app) = if_false (is_expression i) n (length (readers app)) x in omega (all, arith)

  -- no reader touches itself
  pub below_apart : (n : ℕ) (i : Node) → reader app n ≡ Some i → (j : ℕ) → IsBelow (bound_of app n i) j → j ≢ n
  below_apart n i is j b e = by (is_expression i) refl
    where
      by : (x : Bool) → is_expression i ≡ x → ⊥
      by true x = let own : bound_of app n i ≡ n = if_true (is_expression i) n (length (readers app)) x in let at = b.0 in omega (own, at, e, arith)
      by false x = not_both (subst (λ z. is_expression_at (reader app z) ≡ true) e b.1) (ap is_expression_at is ∙ x)

  -- what reader n is, or an expression below it
  abbrev pub IsAmong : ℕ → ℕ → ℕ → Type 0
  IsAmong n k j = (j ≡ n) ⊎ IsBelow k j

  -- what is asked for an expression that is asked is below the asking one too
  pub among_below : (m : ℕ) (i : Node) → reader app m ≡ Some i → (k : ℕ) → IsBelow k m → (j : ℕ) → IsAmong m (bound_of app m i) j → IsBelow k j
  among_below m i is k b j (inl e) = subst (IsBelow k) (sym e) b
  among_below m i is k b j (inr c) =
      let own : bound_of app m i ≡ m = if_true (is_expression i) m (length (readers app)) (sym (ap is_expression_at is) ∙ b.1) in
      let low = b.0 in let at = c.0 in (omega (own, low, at, arith), c.1)

  -- what is done to a session where reader n is read or run
  pub record Goes (aim : Aim) (n k : ℕ) (bodies : List ℕ) (s s' : KeptSession) : Type 0 where
    pub size : length s'.readers ≡ length s.readers
    pub here : lives s' n ≡ true
    pub keeps : (j : ℕ) → lives s j ≡ true → lives s' j ≡ true
    pub rest : (j : ℕ) → j ≢ n → (IsBelow k j → ⊥) → lives s' j ≡ lives s j
    pub once : IsDistinct nat_eq bodies
    pub was : Every (WasDead aim n s) bodies
    pub live : Every (λ j. lives s' j ≡ true) bodies
    pub among : Every (IsAmong n k) bodies

  -- reader n is written and alive
  written : (n k : ℕ) (r : KeptReader) (s s' : KeptSession) → is_live r.dependence ≡ true → n < length s.readers → IsAlike (with_kept n r s) s' → (c : ℕ) → c ≤ 1 → Goes running n k (replicate c n) s s'
  written n k r s s' live room a c h = at_most_once (λ bodies. Goes running n k bodies s s') n c h
      (record { size = size; here = here; keeps = keeps; rest = rest; once = distinct_none; was = tt; live = tt; among = tt })
      (record { size = size; here = here; keeps = keeps; rest = rest; once = distinct_one n; was = (λ h. refl, tt); live = (here, tt); among = (inl refl, tt) })
    where
      size : length s'.readers ≡ length s.readers
      size = sym a.size ∙ kept_size s n r

      here : lives s' n ≡ true
      here = alike_lives (with_kept n r s) s' a n ∙ ap (λ (x : KeptReader). is_live x.dependence) (kept_here s n r room) ∙ live

      rest : (j : ℕ) → j ≢ n → (IsBelow k j → ⊥) → lives s' j ≡ lives s j
      rest j d u = alike_lives (with_kept n r s) s' a j ∙ ap (λ (x : KeptReader). is_live x.dependence) (kept_there s n j r d)

      keeps : (j : ℕ) → lives s j ≡ true → lives s' j ≡ true
      keeps j h = elim (eqb_tells j n) [
        | inl p ↦ subst (λ z. lives s' z ≡ true) (sym p.1) here
        | inr p ↦ alike_lives (with_kept n r s) s' a j ∙ ap (λ (x : KeptReader). is_live x.dependence) (kept_there s n j r p.1) ∙ h
      ]

  -- what is wanted is below
  pub wanted_below : (s : KeptSession) (n : ℕ) (i : Node) → reader app n ≡ Some i → (m : ℕ) → wanted app s n ≡ Some (read.Expr m) → IsBelow (bound_of app n i) m
  wanted_below s n i is m w = (found (answering app s n) (ReadsBelow app (bound_of app n i)) (attempt app s n).asked (read.Expr m) w (asked_low app orderly n i is (completed (answering app s n)))).0

  was_dead : (n : ℕ) (s : KeptSession) → lives s n ≡ false → (j : ℕ) → WasDead running n s j → WasDead reading n s j
  was_dead n s d j w = never (lives s j) (λ h. not_both (subst (λ z. lives s z ≡ true) (w h) h) d)

  -- first an expression is read, and then it goes on
  module _ (n m k : ℕ) (apart : (j : ℕ) → IsBelow k j → j ≢ n) (s s' : KeptSession) (earlier : List ℕ)
      (below : Every (IsBelow k) earlier) (live : Every (λ j. lives s' j ≡ true) earlier) (was : Every (WasDead reading m s) earlier) (once : IsDistinct nat_eq earlier) (keeps : (j : ℕ) → lives s j ≡ true → lives s' j ≡ true) where
    pub joined_once : (later : List ℕ) → Every (WasDead running n s') later → IsDistinct nat_eq later → IsDistinct nat_eq (earlier ++ later)
    joined_once later dead d =
        distinct_join (λ j. IsBelow k j × (lives s' j ≡ true)) (WasDead running n s') (λ x y p q e. apart x p.0 (e ∙ q (subst (λ z. lives s' z ≡ true) e p.1)))
        earlier later once d (every_zip (IsBelow k) (λ j. lives s' j ≡ true) (λ j. IsBelow k j × (lives s' j ≡ true)) (λ j b l. (b, l)) earlier below live) dead

    pub joined_was : (later : List ℕ) → Every (WasDead running n s') later → Every (WasDead running n s) (earlier ++ later)
    joined_was later dead =
        both_of (WasDead running n s) earlier later (every_map (WasDead reading m s) (WasDead running n s) (λ j d h. absurd (not_both h d)) earlier was)
        (every_map (WasDead running n s') (WasDead running n s) (λ j w h. w (keeps j h)) later dead)

  pub goes : (aim : Aim) (bodies : List ℕ) (n : ℕ) (s s' : KeptSession) → Brings app aim bodies n s s' → length s.readers ≡ length (readers app)
      → (i : Node) → reader app n ≡ Some i → Goes aim n (bound_of app n i) bodies s s'
  goes _ _ _ _ _ (Brings.living n s l) size i is = record { size = refl; here = l; keeps = λ j h. h; rest = λ j d u. refl; once = distinct_none; was = tt; live = tt; among = tt }
  goes _ _ _ _ _ (Brings.dead bodies n s s' d b) size i is =
      let g : Goes running n (bound_of app n i) bodies s s' = goes running bodies n s s' b size i is in
      record { size = g.size; here = g.here; keeps = g.keeps; rest = g.rest; once = g.once; was = every_map (WasDead running n s) (WasDead reading n s) (was_dead n s d) bodies g.was; live = g.live; among = g.among }
  goes _ _ _ _ _ (Brings.ends n s s' none a) size i is =
      written n (bound_of app n i) (reader_after app s n (attempt app s n) (attempt app s n).outcome) s s' refl (let at = get_in (readers app) n i is in omega (at, size, arith)) a
      (bodies_counted (reader app n) (completed (answering app s n))) (counted_once (reader app n) (completed (answering app s n)))
  goes _ _ _ _ _ (Brings.hits n c xs s s' cached none values a) size i is =
      written n (bound_of app n i) (reader_after app s n (keys_attempt app s n c) (shown_outcome (reader app n) (keyed_outcome app n xs))) s s' refl (let at = get_in (readers app) n i is in omega (at, size, arith)) a zero (omega arith)
  goes _ _ _ _ _ (Brings.waits earlier later n m s s' s'' w b c) size i is =
      let k : ℕ = bound_of app n i in
      let low : IsBelow k m = wanted_below s n i is m w in
      let e = expression_of app m low.1 in
      let g : Goes reading m (bound_of app m e.0) earlier s s' = goes reading earlier m s s' b size e.0 e.1 in
      let h : Goes running n k later s' s'' = goes running later n s' s'' c (g.size ∙ size) i is in
      let below : Every (IsBelow k) earlier = every_map (IsAmong m (bound_of app m e.0)) (IsBelow k) (among_below m e.0 e.1 k low) earlier g.among in
      record {
        size = h.size ∙ g.size;
        here = h.here;
        keeps = λ j l. h.keeps j (g.keeps j l);
        rest = λ j d u. h.rest j d u ∙ g.rest j (λ q. u (subst (IsBelow k) (sym q) low)) (λ q. u (among_below m e.0 e.1 k low j (inr q)));
        once = joined_once n m k (below_apart n i is) s s' earlier below g.live g.was g.once g.keeps later h.was h.once;
        was = joined_was n m k (below_apart n i is) s s' earlier below g.live g.was g.once g.keeps later h.was;
        live = both_of (λ j. lives s'' j ≡ true) earlier later (every_map (λ j. lives s' j ≡ true) (λ j. lives s'' j ≡ true) h.keeps earlier g.live) h.live;
        among = both_of (IsAmong n k) earlier later (every_map (IsBelow k) (IsAmong n k) (λ j q. inr q) earlier below) h.among;
      }

  -- ---- where memory is wanting

  pub record Begun (aim : Aim) (n k : ℕ) (bodies : List ℕ) (s : KeptSession) : Type 0 where
    pub once : IsDistinct nat_eq bodies
    pub was : Every (WasDead aim n s) bodies
    pub among : Every (IsAmong n k) bodies

  lost_once : (n k : ℕ) (s : KeptSession) (c : ℕ) → c ≤ 1 → Begun running n k (replicate c n) s
  lost_once n k s c h = at_most_once (λ bodies. Begun running n k bodies s) n c h
      (record { once = distinct_none; was = tt; among = tt })
      (record { once = distinct_one n; was = (λ h. refl, tt); among = (inl refl, tt) })

  pub begun : (aim : Aim) (bodies : List ℕ) (n : ℕ) (s s' : KeptSession) → Begins app aim bodies n s s' → length s.readers ≡ length (readers app)
      → (i : Node) → reader app n ≡ Some i → Begun aim n (bound_of app n i) bodies s
  begun _ _ _ _ _ (Begins.none aim n s s' l) size i is = record { once = distinct_none; was = tt; among = tt }
  begun _ _ _ _ _ (Begins.dead bodies n s s' d b) size i is =
      let g : Begun running n (bound_of app n i) bodies s = begun running bodies n s s' b size i is in
      record { once = g.once; was = every_map (WasDead running n s) (WasDead reading n s) (was_dead n s d) bodies g.was; among = g.among }
  begun _ _ _ _ _ (Begins.lost n s s' none l) size i is =
      lost_once n (bound_of app n i) s (bodies_counted (reader app n) (completed (answering app s n))) (counted_once (reader app n) (completed (answering app s n)))
  begun _ _ _ _ _ (Begins.within bodies n m s s' w b) size i is =
      let k : ℕ = bound_of app n i in
      let low : IsBelow k m = wanted_below s n i is m w in
      let e = expression_of app m low.1 in
      let g : Begun reading m (bound_of app m e.0) bodies s = begun reading bodies m s s' b size e.0 e.1 in
      record {
        once = g.once;
        was = every_map (WasDead reading m s) (WasDead running n s) (λ j d h. absurd (not_both h d)) bodies g.was;
        among = every_map (IsAmong m (bound_of app m e.0)) (IsAmong n k) (λ j q. inr (among_below m e.0 e.1 k low j q)) bodies g.among;
      }
  begun _ _ _ _ _ (Begins.later earlier more n m s s' s'' w b c) size i is =
      let k : ℕ = bound_of app n i in
      let low : IsBelow k m = wanted_below s n i is m w in
      let e = expression_of app m low.1 in
      let g : Goes reading m (bound_of app m e.0) earlier s s' = goes reading earlier m s s' b size e.0 e.1 in
      let h : Begun running n k more s' = begun running more n s' s'' c (g.size ∙ size) i is in
      let below : Every (IsBelow k) earlier = every_map (IsAmong m (bound_of app m e.0)) (IsBelow k) (among_below m e.0 e.1 k low) earlier g.among in
      record {
        once = joined_once n m k (below_apart n i is) s s' earlier below g.live g.was g.once g.keeps more h.was h.once;
        was = joined_was n m k (below_apart n i is) s s' earlier below g.live g.was g.once g.keeps more h.was;
        among = both_of (IsAmong n k) earlier more (every_map (IsBelow k) (IsAmong n k) (λ j q. inr q) earlier below) h.among;
      }

  -- each of them is a reader
  pub among_readers : (n : ℕ) (i : Node) → reader app n ≡ Some i → (bodies : List ℕ) → Every (IsAmong n (bound_of app n i)) bodies → Every (λ j. j < length (readers app)) bodies
  among_readers n i is bodies h = every_map (IsAmong n (bound_of app n i)) (λ j. j < length (readers app)) within bodies h
    where
      within : (j : ℕ) → IsAmong n (bound_of app n i) j → j < length (readers app)
      within j (inl e) = let at = get_in (readers app) n i is in omega (e, at, arith)
      within j (inr b) = let at = b.0 in let most = bound_by n i is in omega (at, most, arith)

-- ---- the laws

pub each_runs_once : EachRunsOnce
each_runs_once app p s s' size n i is e aim bodies b =
    let g : Goes app (orderly_of app p) aim n (bound_of app n i) bodies s s' = goes app (orderly_of app p) aim bodies n s s' b size i is in
    record { once = g.once; was = g.was; lives = g.live }

pub no_more_than_readers : NoMoreThanReaders
no_more_than_readers app p s s' size n i is e aim bodies (inl b) =
    let g : Goes app (orderly_of app p) aim n (bound_of app n i) bodies s s' = goes app (orderly_of app p) aim bodies n s s' b size i is in
    no_more bodies (length (readers app)) g.once (among_readers app (orderly_of app p) n i is bodies g.among)
no_more_than_readers app p s s' size n i is e aim bodies (inr b) =
    let g : Begun app (orderly_of app p) aim n (bound_of app n i) bodies s = begun app (orderly_of app p) aim bodies n s s' b size i is in
    no_more bodies (length (readers app)) g.once (among_readers app (orderly_of app p) n i is bodies g.among)
