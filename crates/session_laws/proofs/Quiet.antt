-- A reader that reaches none of the sources that change comes to the same.
use Rattle.std.proofs.Common.{◌≡◌, ◌<◌, ℕ, zero, suc, true, List, [], length, Option, Some, refl, sym, ap, ◌∙◌, subst, arith}
use Rattle.std.specs.Prelude.{⊤, ◌||◌}
use Rattle.app_tree.specs.declared.term.Read.{Read}
use Rattle.app_tree.specs.declared.term.Read.TheVariants as read
use Rattle.app_tree.specs.Tree.{Node, Shape}
use Rattle.app_tree.specs.Numbering.{readers, reader, is_expression, is_output, width_source, height_source, is_evaluated}
use Rattle.app_tree.specs.Current.{CurrentValues, value_at, plain_outcome, status_outcome, result_outcome}
use Rattle.app_tree.specs.Evaluate.{Answers, Evaluation}
use Rattle.app_tree.specs.Cover.{is_covered}
use Rattle.app_tree.specs.Fresh.{Sites, Known, known_at, answer_to, sources_of_read, sources_of_reads, evaluate_node, evaluate_reader, known_by, is_expression_at, known_expressions}
use Rattle.app_tree.specs.Trace.{Every, EveryRead}
use Rattle.app_laws.specs.Orderly.{ReadsBelow, bound_of, IsOrderly, reads_in_node}
use Rattle.app_laws.proofs.WhatIsAsked.{reads_map, reads_zip, node_asks, node_covers, if_true, IsGiven}
use Rattle.app_laws.proofs.KnownLists.{evaluation_alike, sources_alike, known_fixed}
use Rattle.session_laws.proofs.Staying.{asked_low}
use Rattle.session_laws.proofs.Freshness.{outside_of}
use Rattle.app_laws.proofs.Reaching.{reads_each, reads_all}
use Rattle.app_laws.proofs.CoveredReads.{reader_whole}
use Rattle.session_laws.proofs.Walking.{expression_of}

module _ (app : Shape) (orderly : IsOrderly app) (covered : (n : ℕ) → is_covered app n ≡ true)
    (v v' : CurrentValues) (S S' : Sites) (Q : ℕ → Type 0) (equal : (s : ℕ) → Q s → value_at v s ≡ value_at v' s) where
  abbrev K : List Known
  K = known_expressions app v S

  abbrev K' : List Known
  K' = known_expressions app v' S'

  -- all that a read reaches is so
  abbrev pub IsQuiet : Read → Type 0
  IsQuiet r = Every Q (sources_of_read app K r)

  abbrev e : ℕ → Evaluation
  e n = evaluate_reader app v S K n

  abbrev a : ℕ → Answers
  a n = record { read = answer_to app v K; site = S n }

  -- an expression that reads quiet ones alone is quiet
  inherits : (m : ℕ) (i : Node) → reader app m ≡ Some i → is_expression i ≡ true → Every IsQuiet (reads_in_node i) → IsQuiet (read.Expr m)
  inherits m i is x h =
      let asked : EveryRead IsQuiet (evaluate_node (Some i) (a m)).asked = node_asks (a m) IsQuiet i (orderly.sites m i is) h in
      let outside : Every IsQuiet (evaluate_node (Some i) (a m)).outside = node_covers (a m) IsQuiet i (orderly.sites m i is) asked in
      subst (λ (k : Known). Every Q k.sources) (sym (known_fixed app v S orderly m i is x))
      (subst (λ (o : Option Node). Every Q (sources_of_reads app K [] (evaluate_node o (a m)).outside)) (sym is) (reads_all Q app K [] (evaluate_node (Some i) (a m)).outside tt outside))

  -- the readers whose sites are answered alike, and what becomes of the expressions that they ask
  module _ (Live : ℕ → Type 0) (given : (n : ℕ) → Live n → (s : ℕ) → IsGiven (S n s)) (same_sites : (n : ℕ) → Live n → (s : ℕ) → S n s ≡ S' n s) where
    abbrev pub Follows : Read → Type 0
    Follows (read.Expr m) = IsQuiet (read.Expr m) → Live m
    Follows r = ⊤

    abbrev pub IsLiveRead : Read → Type 0
    IsLiveRead (read.Expr m) = Live m
    IsLiveRead r = ⊤

    module _ (closed : (n : ℕ) (i : Node) → reader app n ≡ Some i → is_evaluated i ≡ true → Live n → EveryRead Follows (e n).asked) where
      abbrev IsSameAt : ℕ → Type 0
      IsSameAt m = known_at K' m ≡ known_at K m

      both_live : (r : Read) → Follows r → IsQuiet r → IsLiveRead r
      both_live (read.Expr m) f q = f q
      both_live (read.Input s) f q = tt
      both_live (read.Value s) f q = tt
      both_live (read.Status s) f q = tt
      both_live (read.Result s) f q = tt
      both_live (read.Width n) f q = tt
      both_live (read.Height n) f q = tt

      abbrev IsLow : ℕ → Read → Type 0
      IsLow bound r = ReadsBelow app bound r × (IsQuiet r × IsLiveRead r)

      module _ (bound : ℕ) (below : (m : ℕ) → m < bound → is_expression_at (reader app m) ≡ true → Live m → IsQuiet (read.Expr m) → IsSameAt m) where
        same_answer : (r : Read) → IsLow bound r → answer_to app v K r ≡ answer_to app v' K' r
        same_answer (read.Expr m) h = ap (λ (k : Known). k.outcome) (sym (below m h.0.0 h.0.1 h.1.1 h.1.0))
        same_answer (read.Input s) h = ap plain_outcome (equal s h.1.0.0)
        same_answer (read.Value s) h = ap plain_outcome (equal s h.1.0.0)
        same_answer (read.Status s) h = ap status_outcome (equal s h.1.0.0)
        same_answer (read.Result s) h = ap result_outcome (equal s h.1.0.0)
        same_answer (read.Width n) h = ap plain_outcome (equal (width_source app n) h.1.0.0)
        same_answer (read.Height n) h = ap plain_outcome (equal (height_source app n) h.1.0.0)

        same_reach : (r : Read) → IsLow bound r → sources_of_read app K r ≡ sources_of_read app K' r
        same_reach (read.Expr m) h = ap (λ (k : Known). k.sources) (sym (below m h.0.0 h.0.1 h.1.1 h.1.0))
        same_reach (read.Input s) h = refl
        same_reach (read.Value s) h = refl
        same_reach (read.Status s) h = refl
        same_reach (read.Result s) h = refl
        same_reach (read.Width n) h = refl
        same_reach (read.Height n) h = refl

      module _ (n : ℕ) (i : Node) (is : reader app n ≡ Some i) (evaluated : is_evaluated i ≡ true) (live : Live n) (quiet : Every Q (sources_of_reads app K [] (e n).outside)) where
        asked_quiet : EveryRead IsQuiet (e n).asked
        asked_quiet = reader_whole (a n) (given n live) IsQuiet app inherits orderly n i is (covered n) (reads_each Q app K [] (e n).outside quiet)

        pub asked_live : EveryRead IsLiveRead (e n).asked
        asked_live = reads_zip Follows IsQuiet IsLiveRead both_live (e n).asked (closed n i is evaluated live) asked_quiet

        asked_all : EveryRead (IsLow (bound_of app n i)) (e n).asked
        asked_all =
            reads_zip (ReadsBelow app (bound_of app n i)) (λ r. IsQuiet r × IsLiveRead r) (IsLow (bound_of app n i)) (λ r x y. (x, y)) (e n).asked (asked_low app orderly n i is (a n))
            (reads_zip IsQuiet IsLiveRead (λ r. IsQuiet r × IsLiveRead r) (λ r x y. (x, y)) (e n).asked asked_quiet asked_live)

        module _ (below : (m : ℕ) → m < bound_of app n i → is_expression_at (reader app m) ≡ true → Live m → IsQuiet (read.Expr m) → IsSameAt m) where
          evaluation_by : evaluate_reader app v' S' K' n ≡ e n
          evaluation_by = evaluation_alike (a n) (record { read = answer_to app v' K'; site = S' n }) (reader app n) (same_sites n live)
              (reads_map (IsLow (bound_of app n i)) (λ r. answer_to app v K r ≡ answer_to app v' K' r) (same_answer (bound_of app n i) below) (e n).asked asked_all)

          answers_by : EveryRead (λ r. answer_to app v K r ≡ answer_to app v' K' r) (e n).asked
          answers_by = reads_map (IsLow (bound_of app n i)) (λ r. answer_to app v K r ≡ answer_to app v' K' r) (same_answer (bound_of app n i) below) (e n).asked asked_all

          sources_by : sources_of_reads app K' [] (evaluate_reader app v' S' K' n).outside ≡ sources_of_reads app K [] (e n).outside
          sources_by = ap (λ (x : Evaluation). sources_of_reads app K' [] x.outside) evaluation_by
              ∙ sym (sources_alike app K K' (e n).outside (outside_of app orderly n i is (a n) (λ r. sources_of_read app K r ≡ sources_of_read app K' r)
              (reads_map (IsLow (bound_of app n i)) (λ r. sources_of_read app K r ≡ sources_of_read app K' r) (same_reach (bound_of app n i) below) (e n).asked asked_all)) [])

      -- by the number of the expression
      expression_below : (k m : ℕ) → m < k → is_expression_at (reader app m) ≡ true → Live m → IsQuiet (read.Expr m) → IsSameAt m
      expression_below zero m h x live quiet = absurd (omega (h, arith))
      expression_below (suc k) m h x live quiet =
          let i : Node = (expression_of app m x).0 in
          let is : reader app m ≡ Some i = (expression_of app m x).1 in
          let expression : is_expression i ≡ true = (expression_of app m x).2 in
          let own : bound_of app m i ≡ m = if_true (is_expression i) m (length (readers app)) expression in
          let evaluated : is_evaluated i ≡ true = ap (λ b. b || is_output i) expression in
          let fixed : known_at K m ≡ known_by app K (e m) = known_fixed app v S orderly m i is expression in
          let quiet_all : Every Q (sources_of_reads app K [] (e m).outside) = subst (λ (z : Known). Every Q z.sources) fixed quiet in
          let below : (j : ℕ) → j < bound_of app m i → is_expression_at (reader app j) ≡ true → Live j → IsQuiet (read.Expr j) → IsSameAt j = λ j w y l q. expression_below k j (omega (h, w, own, arith)) y l q in
          known_fixed app v' S' orderly m i is expression
          ∙ (λ z. record { outcome = (evaluation_by m i is evaluated live quiet_all below z).outcome; sources = sources_by m i is evaluated live quiet_all below z })
          ∙ sym fixed

      below_all : (n : ℕ) (i : Node) (m : ℕ) → m < bound_of app n i → is_expression_at (reader app m) ≡ true → Live m → IsQuiet (read.Expr m) → IsSameAt m
      below_all n i m h x live quiet = expression_below (suc m) m (omega arith) x live quiet

      pub quiet_evaluation : (n : ℕ) (i : Node) → reader app n ≡ Some i → is_evaluated i ≡ true → Live n → Every Q (sources_of_reads app K [] (e n).outside) → evaluate_reader app v' S' K' n ≡ e n
      quiet_evaluation n i is evaluated live quiet = evaluation_by n i is evaluated live quiet (below_all n i)

      -- and each read of it is answered alike
      pub quiet_answers : (n : ℕ) (i : Node) → reader app n ≡ Some i → is_evaluated i ≡ true → Live n → Every Q (sources_of_reads app K [] (e n).outside)
          → EveryRead (λ r. answer_to app v K r ≡ answer_to app v' K' r) (e n).asked
      quiet_answers n i is evaluated live quiet = answers_by n i is evaluated live quiet (below_all n i)

      pub quiet_sources : (n : ℕ) (i : Node) → reader app n ≡ Some i → is_evaluated i ≡ true → Live n → Every Q (sources_of_reads app K [] (e n).outside)
          → sources_of_reads app K' [] (evaluate_reader app v' S' K' n).outside ≡ sources_of_reads app K [] (e n).outside
      quiet_sources n i is evaluated live quiet = sources_by n i is evaluated live quiet (below_all n i)
