-- One evaluation over a session is that of the session's own words.
use Rattle.std.proofs.Common.{◌≡◌, ℕ, Bool, true, false, List, Option, Some, None, refl, sym, ap, ◌∙◌, subst}
use Rattle.std.specs.Prelude.{◌==◌, if◌then◌else◌}
use Rattle.rx_value.specs.declared.outcome.Outcome.{Outcome}
use Rattle.rx_value.specs.declared.outcome.Outcome.TheVariants.{Stop}
use Rattle.app_tree.specs.Tree.{Tree, Trees, no_trees, tree, Node, input, value, task, reactive, event, text, plot, observe, on, Shape}
use Rattle.app_tree.specs.Evaluate.{TraceEntry, Evaluation}
use Rattle.app_tree.specs.Wanted.{Answering, completed, first_wanted}
use Rattle.app_tree.specs.Numbering.{reader}
use Rattle.app_tree.specs.Cover.{cached_node, with_keys}
use Rattle.app_tree.specs.Fresh.{ignored_site, first_sites, evaluate_node}
use Rattle.app_laws.specs.Orderly.{AreNumbered, IsNumberedNode}
use Rattle.app_laws.specs.Proper.{IsProper}
use Rattle.app_laws.proofs.WellOrdered.{well_formed_is_orderly}
use Rattle.app_laws.proofs.FirstRun.{none_ignored, one_ignored, others_ignored}
use Rattle.app_laws.proofs.Covering.{eq_means}
use Rattle.app_laws.proofs.WhatIsAsked.{eq_self}
use Rattle.session_model.specs.Standing.{KeptSession, did_run, kept_reader}
use Rattle.session_steps.specs.Keeping.{open_site_of, answering, attempt, wanted}
use Rattle.term_eval.specs.Evals.{Evals}
use Rattle.term_eval.specs.declared.evaled.Evaled.{Evaled}
use Rattle.term_eval.specs.declared.evaled.Evaled.TheVariants as evaled
use Rattle.term_eval.specs.Bodies.{IsCached, IsUncached, keys_of}
use Rattle.react_session.specs.inner.Trail.{Trail, first_trail, trail_after, AreNotes}
use Rattle.react_session.proofs.Trails.{node_skims, keys_skim, noted_all}
use Rattle.react_session.specs.inner.Reading.{site_by}
use Rattle.react_session.specs.inner.Tries.{ignored_now, keys_at, keys_trial, body_trial, TriesBody}

-- ---- sites

some_site : (app : Shape) (n k site : ℕ) → ignored_site (reader app n) ≡ Some k → (b : Bool) → (k == site) ≡ b → (if b then Some Stop else None) ≡ first_sites app n site
some_site app n k site is true e = sym (subst (λ j. first_sites app n j ≡ Some Stop) (eq_means k site e) (one_ignored app n k is))
some_site app n k site is false e = sym (others_ignored app n k site is (λ same. absurd (apart same)))
  where
    apart : k ≡ site → ⊥
    apart same = let h : (k == k) ≡ false = subst (λ j. (k == j) ≡ false) (sym same) e in let r : (k == k) ≡ true = eq_self k in cc

first_site : (app : Shape) (n site : ℕ) (o : Option ℕ) → ignored_site (reader app n) ≡ o → site_by o site ≡ first_sites app n site
first_site app n site None is = sym (none_ignored app n is site)
first_site app n site (Some k) is = some_site app n k site is (k == site) refl

site_now : (app : Shape) (n site : ℕ) (ran : Bool) → site_by (if ran then None else ignored_site (reader app n)) site ≡ (if ran then None else first_sites app n site)
site_now app n site true = refl
site_now app n site false = first_site app n site (ignored_site (reader app n)) refl

-- the sites of an evaluation are those of the reader as it runs
pub sites_open : (app : Shape) (s : KeptSession) (n : ℕ) → site_by (ignored_now app s n) ≡ open_site_of app s n
sites_open app s n = λ i. λ site. site_now app n site (did_run (kept_reader s n).dependence) i

-- ---- a reader without keys

-- what is told of an evaluation by the answers of the reader that it ran over
abbrev pub IsTold : ℕ → Outcome → Trail → Shape → Answering → Trail → Type 0
IsTold n outcome new app a t =
    ((evaluate_node (reader app n) (completed a)).outcome ≡ outcome) × (first_wanted a (evaluate_node (reader app n) (completed a)).asked ≡ None)
    × (new ≡ trail_after app a (evaluate_node (reader app n) (completed a)).asked t)

by_node : (app : Shape) (n : ℕ) (o : Option Node) → reader app n ≡ o → IsUncached o → (P : Type 0) → ((i : Node) → reader app n ≡ Some i → IsUncached (Some i) → P) → P
by_node app n None is u P k = absurd u
by_node app n (Some i) is u P k = k i is u

pub done_tries : (app : Shape) → IsProper app → (s : KeptSession) (n : ℕ) → IsUncached (reader app n) → (outcome : Outcome) (new : Trail) → IsTold n outcome new app (answering app s n) first_trail
    → (wanted app s n ≡ None) × (outcome ≡ (attempt app s n).outcome) × AreNotes app (answering app s n) (attempt app s n) new.reached new.isolated
done_tries app p s n u outcome new told =
    by_node app n (reader app n) refl u _ (λ i is v.
    let e : Evaluation = evaluate_node (Some i) (completed (answering app s n)) in
    let same : attempt app s n ≡ e = ap (λ o. evaluate_node o (completed (answering app s n))) is in
    let none : first_wanted (answering app s n) e.asked ≡ None = ap (λ (z : Evaluation). first_wanted (answering app s n) z.asked) (sym same) ∙ told.1 in
    let numbered : IsNumberedNode i = (well_formed_is_orderly app p.well_formed).sites n i is in
    let trail : new ≡ trail_after app (answering app s n) e.asked first_trail = told.2 ∙ ap (λ (z : Evaluation). trail_after app (answering app s n) z.asked first_trail) same in
    let notes : AreNotes app (answering app s n) e new.reached new.isolated = noted_all app (answering app s n) e new (node_skims app (answering app s n) i numbered v none) trail in (
      told.1,
      sym told.0,
      subst (λ z. AreNotes app (answering app s n) z new.reached new.isolated) (sym same) notes,
    ))

-- ---- a reader with keys

keyed_ignores : (i : Node) → IsCached (Some i) → ignored_site (Some i) ≡ None
keyed_ignores (input name start) u = cc
keyed_ignores (value name start) u = cc
keyed_ignores (task name parameters body) u = cc
keyed_ignores (reactive name keys body) u = refl
keyed_ignores (event name flags e body) u = cc
keyed_ignores (text name shown) u = refl
keyed_ignores (plot name shown) u = refl
keyed_ignores (observe name priority block) u = cc
keyed_ignores (on name priority flags e block) u = cc

-- it ignores no site
no_ignored : (app : Shape) (n : ℕ) (o : Option Node) → reader app n ≡ o → IsCached o → ignored_site (reader app n) ≡ None
no_ignored app n None is u = cc
no_ignored app n (Some i) is u = ap ignored_site is ∙ keyed_ignores i u

-- so each of its sites is evaluated as it runs
pub cached_sites : (app : Shape) (s : KeptSession) (n : ℕ) → IsCached (reader app n) → site_by None ≡ open_site_of app s n
cached_sites app s n u = λ i. λ site. by site (did_run (kept_reader s n).dependence) i
  where
    by : (site : ℕ) (ran : Bool) → None ≡ (if ran then None else first_sites app n site)
    by site true = refl
    by site false = sym (none_ignored app n (no_ignored app n (reader app n) refl u) site)

-- the keys are numbered from 0, and so is the body behind them
behind : (keys : Trees) (body : Tree) → AreNumbered 0 keys → AreNumbered 0 (keys_of (with_keys keys body))
behind no_trees body d = tt
behind (tree key more) body d = d

numbered_keys : (i : Node) → IsNumberedNode i → AreNumbered 0 (keys_of (cached_node (Some i)))
numbered_keys (input name start) d = tt
numbered_keys (value name start) d = tt
numbered_keys (task name parameters body) d = tt
numbered_keys (reactive name keys body) d = behind keys body d.0
numbered_keys (event name flags e body) d = tt
numbered_keys (text name shown) d = behind shown.keys shown.body d.0
numbered_keys (plot name shown) d = behind shown.keys shown.body d.0
numbered_keys (observe name priority block) d = tt
numbered_keys (on name priority flags e block) d = tt

numbered_at : (app : Shape) → IsProper app → (n : ℕ) (o : Option Node) → reader app n ≡ o → AreNumbered 0 (keys_of (cached_node o))
numbered_at app p n None is = tt
numbered_at app p n (Some i) is = numbered_keys i ((well_formed_is_orderly app p.well_formed).sites n i is)

-- the notes of keys that want nothing
pub keys_noted : (app : Shape) → IsProper app → (s : KeptSession) (n : ℕ) (new : Trail) → first_wanted (answering app s n) (keys_trial app s n).asked ≡ None
    → new ≡ trail_after app (answering app s n) (keys_trial app s n).asked first_trail → AreNotes app (answering app s n) (keys_trial app s n) new.reached new.isolated
keys_noted app p s n new none is =
    noted_all app (answering app s n) (keys_trial app s n) new (keys_skim app (answering app s n) (keys_at app n) (numbered_at app p n (reader app n) refl) none) is

-- the body of a cached reader
pub body_tried : (app : Shape) (s : KeptSession) (n : ℕ) (a : Answering) (e : Evaluation) (result : Evaled) {S : Type 0} (answers : S → Answering) (noted : S → List TraceEntry → S → Type 0) (old new : S)
    → answers old ≡ a → a ≡ answering app s n → e ≡ body_trial app s n → Evals answers noted e old new result → TriesBody app s n result
body_tried app s n a e (evaled.Done outcome) answers noted old new is opens same told =
    (sym (λ j. first_wanted ((is ∙ opens) j) (same j).asked) ∙ told.1, sym told.0 ∙ ap (λ (z : Evaluation). z.outcome) same)
body_tried app s n a e (evaled.Wants m) answers noted old new is opens same told = sym (λ j. first_wanted ((is ∙ opens) j) (same j).asked) ∙ told.0
body_tried app s n a e evaled.Memory answers noted old new is opens same told = tt
