-- What every reader gives now stays as it is where what is kept for the readers stays, where a reader that isn't alive
-- gets other sites, and where a run is kept.
use Rattle.std.proofs.Common.{◌≡◌, ℕ, Bool, true, false, List, [], length, Option, Some, None, refl, sym, ap, ◌∙◌, subst}
use Rattle.std.specs.Prelude.{unwrap_or, option_map, not, is_some, if◌then◌else◌}
use Rattle.rx_value.specs.declared.outcome.Outcome.{Outcome}
use Rattle.rx_value.specs.declared.outcome.Outcome.TheVariants as o
use Rattle.app_tree.specs.declared.term.Read.{Read}
use Rattle.app_tree.specs.declared.term.Read.TheVariants as read
use Rattle.app_tree.specs.Tree.{Node, Shape}
use Rattle.app_tree.specs.Numbering.{readers, reader, is_evaluated}
use Rattle.app_tree.specs.Evaluate.{Answers, Evaluation}
use Rattle.app_tree.specs.Fresh.{Known, site_outcome, answer_to, sources_of_reads, evaluate_node, evaluate_reader, known_by, is_expression_at, known_below, known_expressions, first_sites, is_among}
use Rattle.session_model.specs.declared.state.Dependencies.{Dependencies}
use Rattle.session_model.specs.declared.state.ReaderState.{ReaderState}
use Rattle.session_model.specs.State.{SessionState, reader_state, sources_in, is_alive}
use Rattle.app_tree.specs.Trace.{Every, EveryRead}
use Rattle.app_laws.specs.Orderly.{ReadsBelow, bound_of, IsOrderly}
use Rattle.app_laws.specs.Recorded.{recorded}
use Rattle.session_laws.specs.Now.{kept_site, open_site, site_now, open_sites, sites_now, known_now, evaluation_now, trace, open_answers}
use Rattle.session_model.specs.Standing.{IsAliveRead}
use Rattle.session_laws.specs.Sound.{IsSoundAt, IsSound}
use Rattle.app_laws.proofs.Repeating.{Again, IsKept, node_repeats}
use Rattle.app_laws.proofs.WhatIsAsked.{every_map, reads_zip, node_asks, node_meets, IsFound, if_true, if_false}
use Rattle.app_laws.proofs.KnownLists.{known_same}

pub funext : {A B : Type 0} {f g : A → B} → ((x : A) → f x ≡ g x) → f ≡ g
funext p = λ i. λ x. p x i

-- ---- by what is kept for one reader

-- alive, its sites and whether it has run are told by these two
pub record Alike (r r' : ReaderState) : Type 0 where
  pub dependencies : r'.dependencies ≡ r.dependencies
  pub isolated : r'.isolated ≡ r.isolated

pub alike_refl : (r : ReaderState) → Alike r r
alike_refl r = record { dependencies = refl; isolated = refl }

pub alike_eq : {r r' : ReaderState} → r' ≡ r → Alike r r'
alike_eq h = record { dependencies = ap (λ (r : ReaderState). r.dependencies) h; isolated = ap (λ (r : ReaderState). r.isolated) h }

pub alike_trans : {r r' r'' : ReaderState} → Alike r r' → Alike r' r'' → Alike r r''
alike_trans p q = record { dependencies = q.dependencies ∙ p.dependencies; isolated = q.isolated ∙ p.isolated }

abbrev pub alive_by : Option Dependencies → Bool
alive_by d = unwrap_or (option_map (λ d. not d.changed) d) false

pub alike_alive : {r r' : ReaderState} → Alike r r' → is_alive r' ≡ is_alive r
alike_alive p = ap alive_by p.dependencies

pub alike_now : (app : Shape) (n : ℕ) {r r' : ReaderState} → Alike r r' → site_now app n r' ≡ site_now app n r
alike_now app n {r} {r'} p = λ i. site_now app n (record { dependencies = p.dependencies i; isolated = p.isolated i; shown = r.shown; last = r.last })

-- a reader that isn't alive, and whose sites alone change
pub dead_now : (app : Shape) (n : ℕ) (r r' : ReaderState) → r'.dependencies ≡ r.dependencies → is_alive r ≡ false → site_now app n r' ≡ site_now app n r
dead_now app n r r' same dead =
    funext (λ s. if_false (is_alive r') (kept_site r' s) (open_site app n r' s) (ap alive_by same ∙ dead)
    ∙ ap (λ (d : Option Dependencies). if is_some d then None else first_sites app n s) same
    ∙ sym (if_false (is_alive r) (kept_site r s) (open_site app n r s) dead))

pub alive_now : (app : Shape) (n : ℕ) (r : ReaderState) → is_alive r ≡ true → site_now app n r ≡ kept_site r
alive_now app n r alive = funext (λ s. if_true (is_alive r) (kept_site r s) (open_site app n r s) alive)

pub open_now : (app : Shape) (n : ℕ) (r : ReaderState) → is_alive r ≡ false → site_now app n r ≡ open_site app n r
open_now app n r dead = funext (λ s. if_false (is_alive r) (kept_site r s) (open_site app n r s) dead)

pub open_same : (app : Shape) (n : ℕ) (r r' : ReaderState) → r'.dependencies ≡ r.dependencies → open_site app n r' ≡ open_site app n r
open_same app n r r' same = λ i. λ s. (if is_some (same i) then None else first_sites app n s)

module _ (app : Shape) where
  -- the same values, and every expression gives the same now and reaches the same
  pub record Same (M N : SessionState) : Type 0 where
    pub values : N.values ≡ M.values
    pub known : known_now app N ≡ known_now app M

  pub same_refl : (M : SessionState) → Same M M
  same_refl M = record { values = refl; known = refl }

  pub same_trans : {M N O : SessionState} → Same M N → Same N O → Same M O
  same_trans p q = record { values = q.values ∙ p.values; known = q.known ∙ p.known }

  pub same_sym : {M N : SessionState} → Same M N → Same N M
  same_sym p = record { values = sym p.values; known = sym p.known }

  -- by what becomes of each expression
  abbrev pub StaysAt : SessionState → SessionState → ℕ → Type 0
  StaysAt M N n =
      known_by app (known_below app M.values (sites_now app M) n) (evaluate_reader app M.values (sites_now app N) (known_below app M.values (sites_now app M) n) n)
      ≡ known_by app (known_below app M.values (sites_now app M) n) (evaluate_reader app M.values (sites_now app M) (known_below app M.values (sites_now app M) n) n)

  pub same_by : (M N : SessionState) → N.values ≡ M.values → ((n : ℕ) → is_expression_at (reader app n) ≡ true → StaysAt M N n) → Same M N
  same_by M N values h = record {
    values = values;
    known = ap (λ v. known_expressions app v (sites_now app N)) values ∙ known_same app M.values (sites_now app M) (sites_now app N) h (length (readers app));
  }

  pub stays_at : (M N : SessionState) (n : ℕ) → sites_now app N n ≡ sites_now app M n → StaysAt M N n
  stays_at M N n h =
      let l : List Known = known_below app M.values (sites_now app M) n in
      ap (λ (s : ℕ → Option Outcome). known_by app l (evaluate_node (reader app n) (record { read = answer_to app M.values l; site = s }))) h

  -- where what is kept for each expression stays
  pub same_readers : (M N : SessionState) → N.values ≡ M.values → ((n : ℕ) → is_expression_at (reader app n) ≡ true → Alike (reader_state M n) (reader_state N n)) → Same M N
  same_readers M N values h = same_by M N values (λ n e. stays_at M N n (alike_now app n (h n e)))

  pub evaluation_same : {M N : SessionState} → Same M N → (n : ℕ) → sites_now app N n ≡ sites_now app M n → evaluation_now app N n ≡ evaluation_now app M n
  evaluation_same {M} {N} p n h =
      ap (λ v. evaluate_node (reader app n) (record { read = answer_to app v (known_now app N); site = sites_now app N n })) p.values
      ∙ ap (λ l. evaluate_node (reader app n) (record { read = answer_to app M.values l; site = sites_now app N n })) p.known
      ∙ ap (λ (s : ℕ → Option Outcome). evaluate_node (reader app n) (record { read = answer_to app M.values (known_now app M); site = s })) h

  pub trace_same : {M N : SessionState} → Same M N → (n : ℕ) → (reader_state N n).dependencies ≡ (reader_state M n).dependencies → trace app N n ≡ trace app M n
  trace_same {M} {N} p n h =
      ap (λ v. evaluate_node (reader app n) (record { read = answer_to app v (known_now app N); site = open_sites app N n })) p.values
      ∙ ap (λ l. evaluate_node (reader app n) (record { read = answer_to app M.values l; site = open_sites app N n })) p.known
      ∙ ap (λ (s : ℕ → Option Outcome). evaluate_node (reader app n) (record { read = answer_to app M.values (known_now app M); site = s })) (open_same app n (reader_state M n) (reader_state N n) h)

  -- each expression that is alive stays alive
  abbrev pub KeepsAlive : SessionState → SessionState → Type 0
  KeepsAlive M N = (m : ℕ) → is_expression_at (reader app m) ≡ true → is_alive (reader_state M m) ≡ true → is_alive (reader_state N m) ≡ true

  module _ (orderly : IsOrderly app) where
    -- ---- soundness where a reader stays

    keeps_read : (M N : SessionState) → KeepsAlive M N → (bound : ℕ) (r : Read) → ReadsBelow app bound r → IsAliveRead M r → IsAliveRead N r
    keeps_read M N k bound (read.Expr m) h a = k m h.1 a
    keeps_read M N k bound (read.Input s) h a = tt
    keeps_read M N k bound (read.Value s) h a = tt
    keeps_read M N k bound (read.Status s) h a = tt
    keeps_read M N k bound (read.Result s) h a = tt
    keeps_read M N k bound (read.Width n) h a = tt
    keeps_read M N k bound (read.Height n) h a = tt

    -- what a reader asks is low, whatever the answers
    pub asked_low : (n : ℕ) (i : Node) → reader app n ≡ Some i → (a : Answers) → EveryRead (ReadsBelow app (bound_of app n i)) (evaluate_node (reader app n) a).asked
    asked_low n i is a =
        subst (λ (x : Option Node). EveryRead (ReadsBelow app (bound_of app n i)) (evaluate_node x a).asked) (sym is) (node_asks a (ReadsBelow app (bound_of app n i)) i (orderly.sites n i is) (orderly.reads n i is))

    pub keeps_asked : (M N : SessionState) → KeepsAlive M N → (n : ℕ) (i : Node) → reader app n ≡ Some i → (a : Answers) → EveryRead (IsAliveRead M) (evaluate_node (reader app n) a).asked → EveryRead (IsAliveRead N) (evaluate_node (reader app n) a).asked
    keeps_asked M N k n i is a h =
        reads_zip (ReadsBelow app (bound_of app n i)) (IsAliveRead M) (IsAliveRead N) (keeps_read M N k (bound_of app n i)) (evaluate_node (reader app n) a).asked (asked_low n i is a) h

    pub sound_at : (M N : SessionState) → Same M N → KeepsAlive M N → (n : ℕ) (i : Node) → reader app n ≡ Some i → Alike (reader_state M n) (reader_state N n) → IsSoundAt app M n → IsSoundAt app N n
    sound_at M N same k n i is alike h =
        let e : evaluation_now app N n ≡ evaluation_now app M n = evaluation_same same n (alike_now app n alike) in
        record {
          sources = λ s. ap (λ d. is_among s (sources_in d)) alike.dependencies ∙ h.sources s
              ∙ ap (is_among s) (ap (λ l. sources_of_reads app l [] (evaluation_now app M n).outside) (sym same.known) ∙ ap (λ (x : Evaluation). sources_of_reads app (known_now app N) [] x.outside) (sym e));
          closed = subst (λ (x : Evaluation). EveryRead (IsAliveRead N) x.asked) (sym e) (keeps_asked M N k n i is (record { read = answer_to app M.values (known_now app M); site = sites_now app M n }) h.closed);
        }

    -- where each reader that is alive stays
    pub sound_stays : (M N : SessionState) → IsSound app M → Same M N → length N.readers ≡ length M.readers → KeepsAlive M N
        → ((n : ℕ) (i : Node) → reader app n ≡ Some i → is_evaluated i ≡ true → is_alive (reader_state N n) ≡ true → Alike (reader_state M n) (reader_state N n)) → IsSound app N
    sound_stays M N sound same size k h = record {
      size = size ∙ sound.size;
      at = λ n i is e alive. let alike = h n i is e alive in sound_at M N same k n i is alike (sound.at n i is e (sym (alike_alive alike) ∙ alive));
    }

    -- ---- a run of reader n is kept: its sites are what the run recorded
    module _ (M : SessionState) (n : ℕ) (i : Node) (is : reader app n ≡ Some i) (r : ReaderState) (kept : r.isolated ≡ recorded (open_sites app M n) (trace app M n).asked) where
      abbrev pub runs : Answers
      runs = open_answers app M n

      pub found : Every (IsFound (recorded runs.site (evaluate_node (reader app n) runs).asked)) (recorded runs.site (evaluate_node (reader app n) runs).asked)
      found = subst (λ (x : Option Node). Every (IsFound (recorded runs.site (evaluate_node x runs).asked)) (recorded runs.site (evaluate_node x runs).asked)) (sym is) (node_meets runs i (orderly.sites n i is)).found

      abbrev kept_answers : (Read → Outcome) → Answers
      kept_answers tell = record { read = tell; site = kept_site r }

      pub is_kept : (tell : Read → Outcome) (P : Read → Type 0) (e : ℕ × Outcome) → IsFound (recorded runs.site (trace app M n).asked) e → IsKept runs (kept_answers tell) P e
      is_kept tell P e h = ap (λ l. Some (unwrap_or (site_outcome e.0 l) o.Stop)) kept ∙ ap (λ x. Some (unwrap_or x o.Stop)) h

      -- evaluated again with them, where what was read is answered alike
      pub kept_again : (tell : Read → Outcome) (P : Read → Type 0) → EveryRead (λ x. runs.read x ≡ tell x) (trace app M n).asked → Again runs (kept_answers tell) P (trace app M n) (evaluate_node (reader app n) (kept_answers tell))
      kept_again tell P alike =
          node_repeats runs (kept_answers tell) P (reader app n) alike (every_map (IsFound (recorded runs.site (trace app M n).asked)) (IsKept runs (kept_answers tell) P) (is_kept tell P) (recorded runs.site (trace app M n).asked) found)
