-- A run that is kept changes nothing of what any reader gives now.
use Rattle.std.proofs.Common.{◌≡◌, ◌≢◌, inl, inr, ◌<◌, ℕ, true, false, List, [], length, Option, Some, refl, sym, ap, ◌∙◌, subst, arith}
use Rattle.std.specs.Prelude.{⊤}
use Rattle.std.proofs.lemmas.Bool.Decides.{eqb_tells}
use Rattle.rx_value.specs.declared.outcome.Outcome.{Outcome}
use Rattle.app_tree.specs.declared.term.Read.{Read}
use Rattle.app_tree.specs.Tree.{Node, Shape}
use Rattle.app_tree.specs.Numbering.{readers, reader, is_expression}
use Rattle.app_tree.specs.Evaluate.{Answers, TraceEntry, reads, given, enters, leaves, Evaluation}
use Rattle.app_tree.specs.Fresh.{Known, known_at, answer_to, sources_of_reads, evaluate_node, known_by, is_expression_at, known_below}
use Rattle.session_model.specs.State.{SessionState, reader_state, is_alive}
use Rattle.app_tree.specs.Trace.{Every, OfRead, EveryRead}
use Rattle.app_laws.specs.Orderly.{ReadsBelow, IsOrderly, reads_in_node}
use Rattle.app_laws.specs.Recorded.{recorded}
use Rattle.session_laws.specs.Now.{kept_site, open_sites, sites_now, known_now, evaluation_now, trace, open_answers}
use Rattle.app_laws.proofs.Repeating.{Again, IsKept, node_repeats}
use Rattle.app_laws.proofs.WhatIsAsked.{every_map, every_all, reads_map, if_true}
use Rattle.app_laws.proofs.KnownLists.{get_in, known_is, same_evaluation}
use Rattle.session_laws.proofs.Staying.{Alike, alike_now, alive_now, open_now, Same, StaysAt, stays_at, same_by, found, is_kept, kept_again}

pub expression_at : (app : Shape) (n : ℕ) (i : Node) → reader app n ≡ Some i → is_expression_at (reader app n) ≡ is_expression i
expression_at app n i is = ap is_expression_at is

any_read : (x : TraceEntry) → OfRead (λ r. ⊤) x
any_read (reads r) = tt
any_read (given s) = tt
any_read (enters s) = tt
any_read (leaves s o) = tt

-- answers that are one for all reads
pub all_alike : (f : Read → Outcome) (asked : List TraceEntry) → EveryRead (λ r. f r ≡ f r) asked
all_alike f asked = reads_map (λ r. ⊤) (λ r. f r ≡ f r) (λ r u. refl) asked (every_all (OfRead (λ r. ⊤)) any_read asked)

module _ (app : Shape) (orderly : IsOrderly app) (M : SessionState) (n : ℕ) (i : Node) (is : reader app n ≡ Some i) (dead : is_alive (reader_state M n) ≡ false) where
  -- N is M but for reader n, for which its run is kept
  module _ (N : SessionState) (alive : is_alive (reader_state N n) ≡ true) (kept : (reader_state N n).isolated ≡ recorded (open_sites app M n) (trace app M n).asked) where
    abbrev K : List Known
    K = known_now app M

    now_kept : sites_now app N n ≡ kept_site (reader_state N n)
    now_kept = alive_now app n (reader_state N n) alive

    was_open : sites_now app M n ≡ open_sites app M n
    was_open = open_now app n (reader_state M n) dead

    module _ (expression : is_expression i ≡ true) where
      abbrev L : List Known
      L = known_below app M.values (sites_now app M) n

      inside : n < length (readers app)
      inside = get_in (readers app) n i is

      low : Every (ReadsBelow app n) (reads_in_node i)
      low = subst (λ b. Every (ReadsBelow app b) (reads_in_node i)) (if_true (is_expression i) n (length (readers app)) expression) (orderly.reads n i is)

      agree : (m : ℕ) → m < n → is_expression_at (reader app m) ≡ true → known_at L m ≡ known_at K m
      agree m h e = known_is app M.values (sites_now app M) n m h ∙ sym (known_is app M.values (sites_now app M) (length (readers app)) m (let last = inside in omega (h, last, arith)))

      abbrev open_below : Answers
      open_below = record { read = answer_to app M.values L; site = open_sites app M n }

      abbrev kept_below : Answers
      kept_below = record { read = answer_to app M.values L; site = kept_site (reader_state N n) }

      as_traced : evaluate_node (reader app n) open_below ≡ trace app M n
      as_traced =
          subst (λ (x : Option Node). evaluate_node x open_below ≡ evaluate_node x (open_answers app M n)) (sym is)
          (sym (same_evaluation app M.values L K n agree (open_sites app M n) i (orderly.sites n i is) low))

      again : Again open_below kept_below (λ r. ⊤) (evaluate_node (reader app n) open_below) (evaluate_node (reader app n) kept_below)
      again = node_repeats open_below kept_below (λ r. ⊤) (reader app n) (all_alike open_below.read (evaluate_node (reader app n) open_below).asked)
          (subst (λ (e : Evaluation). Every (IsKept open_below kept_below (λ r. ⊤)) (recorded (open_sites app M n) e.asked)) (sym as_traced)
          (every_map _ _ (is_kept app orderly M n i is (reader_state N n) kept kept_below.read (λ r. ⊤)) (recorded (open_sites app M n) (trace app M n).asked) (found app orderly M n i is (reader_state N n) kept)))

      pub stays : StaysAt app M N n
      stays =
          ap (λ (s : ℕ → Option Outcome). known_by app L (evaluate_node (reader app n) (record { read = answer_to app M.values L; site = s }))) now_kept
          ∙ (λ j. record { outcome = again.outcome j; sources = sources_of_reads app L [] (again.outside j) })
          ∙ sym (ap (λ (s : ℕ → Option Outcome). known_by app L (evaluate_node (reader app n) (record { read = answer_to app M.values L; site = s }))) was_open)

    -- and of every other expression all stays
    module _ (values : N.values ≡ M.values) (others : (m : ℕ) → is_expression_at (reader app m) ≡ true → m ≢ n → Alike (reader_state M m) (reader_state N m)) where
      at_each : (m : ℕ) → is_expression_at (reader app m) ≡ true → StaysAt app M N m
      at_each m e = elim (eqb_tells m n) [
        | inl p ↦ subst (StaysAt app M N) (sym p.1) (stays (sym (expression_at app n i is) ∙ subst (λ z. is_expression_at (reader app z) ≡ true) p.1 e))
        | inr p ↦ stays_at app M N m (alike_now app m (others m e p.1))
      ]

      pub kept_same : Same app M N
      kept_same = same_by app M N values at_each

      -- ---- what reader n gives now is what its run gave
      now_again : (P : Read → Type 0) → Again (open_answers app M n) (record { read = (open_answers app M n).read; site = kept_site (reader_state N n) }) P (trace app M n)
          (evaluate_node (reader app n) (record { read = (open_answers app M n).read; site = kept_site (reader_state N n) }))
      now_again P = kept_again app orderly M n i is (reader_state N n) kept (open_answers app M n).read P (all_alike (open_answers app M n).read (trace app M n).asked)

      now_is : evaluation_now app N n ≡ evaluate_node (reader app n) (record { read = (open_answers app M n).read; site = kept_site (reader_state N n) })
      now_is =
          ap (λ v. evaluate_node (reader app n) (record { read = answer_to app v (known_now app N); site = sites_now app N n })) values
          ∙ ap (λ l. evaluate_node (reader app n) (record { read = answer_to app M.values l; site = sites_now app N n })) kept_same.known
          ∙ ap (λ (s : ℕ → Option Outcome). evaluate_node (reader app n) (record { read = answer_to app M.values K; site = s })) now_kept

      pub now_outcome : (evaluation_now app N n).outcome ≡ (trace app M n).outcome
      now_outcome = ap (λ (e : Evaluation). e.outcome) now_is ∙ (now_again (λ r. ⊤)).outcome

      pub now_outside : (evaluation_now app N n).outside ≡ (trace app M n).outside
      now_outside = ap (λ (e : Evaluation). e.outside) now_is ∙ (now_again (λ r. ⊤)).outside

      pub now_within : (P : Read → Type 0) → EveryRead P (trace app M n).asked → EveryRead P (evaluation_now app N n).asked
      now_within P h = subst (λ (e : Evaluation). EveryRead P e.asked) (sym now_is) ((now_again P).within h)
