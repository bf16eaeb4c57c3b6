-- The laws on runs, in each consistent state.
use Rattle.std.proofs.Common.{◌≡◌, ℕ, Bool, true, false, length, Option, Some, None, refl, sym, ap, ◌∙◌, subst}
use Rattle.std.specs.Prelude.{⊤, ◌||◌}
use Rattle.rx_value.specs.declared.outcome.Outcome.TheVariants as outcome
use Rattle.app_tree.specs.declared.term.Read.{Read}
use Rattle.app_tree.specs.declared.term.Read.TheVariants as read
use Rattle.app_tree.specs.Tree.{Node, input, value, task, reactive, event, text, plot, observe, on, Shape}
use Rattle.app_tree.specs.Numbering.{readers, reader, is_expression, is_output, is_evaluated}
use Rattle.app_tree.specs.Current.{CurrentValues, value_at}
use Rattle.app_tree.specs.Evaluate.{TraceEntry, reads, given, enters, leaves, Evaluation}
use Rattle.app_tree.specs.Trace.{Every, OfRead}
use Rattle.app_tree.specs.Fresh.{IsolatedOutcomes, kept_sites, answer_to, known_expressions, evaluate_node, fresh_outcome, sources_read}
use Rattle.session_model.specs.State.{SessionState}
use Rattle.session_model.specs.Run.{visit_below}
use Rattle.session_model.specs.Standing.{IsConsistent}
use Rattle.app_laws.specs.Orderly.{bound_of}
use Rattle.app_laws.specs.Proper.{IsProper}
use Rattle.session_laws.specs.Sound.{IsSound}
use Rattle.session_laws.specs.RunLaws.{AliveIsFresh, DependsOnReadsAlone, RunIsByTrace, ExpressionIsByTrace, TermIsByTrace, RunLeavesNow}
use Rattle.app_laws.proofs.WhatIsAsked.{every_all, if_true}
use Rattle.session_laws.proofs.Proper.{orderly, covered}
use Rattle.session_laws.proofs.Consistent.{consistent_sound}
use Rattle.session_laws.proofs.Freshness.{reader_fresh}
use Rattle.session_laws.proofs.Moving.{Good}
use Rattle.session_laws.proofs.Quiet.{Follows, quiet_evaluation}
use Rattle.session_laws.proofs.Running.{run_is, visits_good}
use Rattle.session_laws.proofs.Marking.{any_output_run, any_output_known, other_output_gives}
use Rattle.session_laws.proofs.Observed.{term_is}

sound_of : (app : Shape) → IsProper app → (state : SessionState) → IsConsistent app state → IsSound app state
sound_of app p state consistent = consistent_sound app (orderly app p) state consistent

pub alive_is_fresh : AliveIsFresh
alive_is_fresh app p state consistent n i is e a = ap (λ (x : Evaluation). x.outcome) (sym (reader_fresh app (orderly app p) state (sound_of app p state consistent) n i is e a))

-- ---- what a reader comes to

module _ (app : Shape) (proper : IsProper app) (values others : CurrentValues) (isolated : IsolatedOutcomes) where
  abbrev Same : ℕ → Type 0
  Same s = value_at values s ≡ value_at others s

  abbrev Goes : Read → Type 0
  Goes = Follows app (orderly app proper) (covered app proper) values others (kept_sites isolated) (kept_sites isolated) Same (λ s h. h) (λ n. ⊤) (λ n h s. tt) (λ n h s. refl)

  goes_read : (r : Read) → Goes r
  goes_read (read.Expr m) = λ q. tt
  goes_read (read.Input s) = tt
  goes_read (read.Value s) = tt
  goes_read (read.Status s) = tt
  goes_read (read.Result s) = tt
  goes_read (read.Width n) = tt
  goes_read (read.Height n) = tt

  goes_all : (x : TraceEntry) → OfRead Goes x
  goes_all (reads r) = goes_read r
  goes_all (given s) = tt
  goes_all (enters s) = tt
  goes_all (leaves s o) = tt

  evaluated_by : (n : ℕ) (i : Node) → reader app n ≡ Some i → is_evaluated i ≡ true → Every Same (sources_read app values isolated n) → fresh_outcome app others isolated n ≡ fresh_outcome app values isolated n
  evaluated_by n i is e h =
      ap (λ (x : Evaluation). x.outcome)
      (quiet_evaluation app (orderly app proper) (covered app proper) values others (kept_sites isolated) (kept_sites isolated) Same (λ s h. h) (λ n. ⊤) (λ n h s. tt) (λ n h s. refl) (λ m j js x l. every_all (OfRead Goes) goes_all _) n i is e tt h)

  -- any other reader comes to nothing
  stops : (n : ℕ) (i : Node) → reader app n ≡ Some i → is_evaluated i ≡ false → (v : CurrentValues) → fresh_outcome app v isolated n ≡ outcome.Stop
  stops n i is e v = ap (λ (o : Option Node). (evaluate_node o (record { read = answer_to app v (known_expressions app v (kept_sites isolated)); site = kept_sites isolated n })).outcome) is ∙ nothing i e
    where
      nothing : (j : Node) → is_evaluated j ≡ false → (evaluate_node (Some j) (record { read = answer_to app v (known_expressions app v (kept_sites isolated)); site = kept_sites isolated n })).outcome ≡ outcome.Stop
      nothing (input name start) h = refl
      nothing (value name start) h = refl
      nothing (task name parameters body) h = refl
      nothing (reactive name keys body) h = cc
      nothing (event name flags x body) h = cc
      nothing (text name shown) h = cc
      nothing (plot name shown) h = cc
      nothing (observe name priority block) h = refl
      nothing (on name priority flags x block) h = refl

  none_there : (n : ℕ) → reader app n ≡ None → (v : CurrentValues) → fresh_outcome app v isolated n ≡ outcome.Stop
  none_there n is v = ap (λ (o : Option Node). (evaluate_node o (record { read = answer_to app v (known_expressions app v (kept_sites isolated)); site = kept_sites isolated n })).outcome) is

  depends_by : (n : ℕ) (o : Option Node) → reader app n ≡ o → Every Same (sources_read app values isolated n) → fresh_outcome app others isolated n ≡ fresh_outcome app values isolated n
  depends_by n None is h = none_there n is others ∙ sym (none_there n is values)
  depends_by n (Some i) is h = by (is_evaluated i) refl
    where
      by : (b : Bool) → is_evaluated i ≡ b → fresh_outcome app others isolated n ≡ fresh_outcome app values isolated n
      by true e = evaluated_by n i is e h
      by false e = stops n i is e others ∙ sym (stops n i is e values)

pub depends_on_reads_alone : DependsOnReadsAlone
depends_on_reads_alone app p values others isolated n h = depends_by app p values others isolated n (reader app n) refl h

-- ---- runs by their traces

pub run_is_by_trace : RunIsByTrace
run_is_by_trace app p state consistent n i is o = any_output_run app (orderly app p) (covered app p) n i is o state (sound_of app p state consistent)

pub expression_is_by_trace : ExpressionIsByTrace
expression_is_by_trace app p state consistent n i is x dead =
    let own : bound_of app n i ≡ n = if_true (is_expression i) n (length (readers app)) x in
    run_is app (orderly app p) n i is (ap (λ b. b || is_output i) x) (covered app p n) (visit_below app n)
    (subst (λ b. Good app b (visit_below app n)) (sym own) (visits_good app (orderly app p) (covered app p) n)) state (sound_of app p state consistent) dead

pub term_is_by_trace : TermIsByTrace
term_is_by_trace app p state consistent t n numbered low = term_is app (orderly app p) (covered app p) state (sound_of app p state consistent) t n numbered low

pub run_leaves_now : RunLeavesNow
run_leaves_now app p state consistent n i is o = record {
  expressions = any_output_known app (orderly app p) (covered app p) n i is o state (sound_of app p state consistent);
  outputs = λ j k d js x. other_output_gives app (orderly app p) (covered app p) n i is o state (sound_of app p state consistent) j k d js x;
}
