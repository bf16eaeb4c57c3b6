-- What a run reached and recorded, in words of the session, and what the keys of a cached reader leave of it.
use Rattle.std.proofs.Common.{◌≡◌, ℕ, Bool, true, false, List, [], ◌∷◌, ◌++◌, Option, Some, None, Err, refl, sym, ap, ◌∙◌, subst}
use Rattle.std.specs.Prelude.{◌||◌, Result, IsSome, if◌then◌else◌}
use Rattle.rx_value.specs.declared.value.Value.{Value}
use Rattle.rx_value.specs.declared.value.Value.TheVariants as v
use Rattle.rx_value.specs.declared.outcome.Outcome.{Outcome}
use Rattle.rx_value.specs.declared.outcome.Outcome.TheVariants.{Val, Fail, Stop, Cancel, Running}
use Rattle.app_tree.specs.declared.term.Read.{Read}
use Rattle.app_tree.specs.declared.term.Read.TheVariants as read
use Rattle.app_tree.specs.Tree.{Tree, Trees, no_trees, tree, Node, input, value, task, reactive, event, text, plot, observe, on, Shape}
use Rattle.app_tree.specs.Evaluate.{Answers, Evaluation, plain, after, then_by, evaluate, evaluate_all, outcome_of}
use Rattle.app_tree.specs.Trace.{Every}
use Rattle.app_tree.specs.Fresh.{Known, is_among, union, sources_of_read, sources_of_reads, picture, without_reads, cached, evaluate_node}
use Rattle.app_tree.specs.Keys.{after_key, keys_from, keys_result, keys_evaluation}
use Rattle.app_tree.specs.Cover.{Cached, cached_node, with_keys}
use Rattle.app_laws.specs.KeyedLaws.{unless_failed}
use Rattle.app_laws.proofs.Covering.{eq_means}
use Rattle.app_laws.proofs.Keyed.{keys_come_first}
use Rattle.app_laws.proofs.WhatIsAsked.{both_of}
use Rattle.session_model.specs.Bodies.{one_if_values, bodies_behind_keys, bodies_counted}
use Rattle.session_model.specs.Standing.{HasSameMembers, KeptSession}
use Rattle.session_steps.specs.Keeping.{kept_known, shown_outcome}
use Rattle.session_laws.proofs.Journeys.{some_is}
use Rattle.session_steps.proofs.Keys.{IsCachedNode}
use Rattle.session_steps.proofs.KeptReaders.{known_kept}
use Rattle.session_steps.proofs.Members.{union_same}
use Rattle.dep_graph.specs.declared.on.On.{On}
use Rattle.dep_graph.specs.declared.on.On.TheVariants as on
use Rattle.dep_graph.proofs.Same.{among_union}
use Rattle.term_eval.specs.Bodies.{IsUncached}
use Rattle.react_session.specs.inner.Storing.{sources_of_on, with_members, members_reached}
use Rattle.react_session.specs.inner.Trail.{on_of_read, on_eq, is_on, with_on, with_reads}

-- ---- all that is depended on has what each read has

on_is : (p o : On) → on_eq p o ≡ true → p ≡ o
on_is (on.Source s) (on.Source t) h = ap on.Source (eq_means s t h)
on_is (on.Expr m) (on.Expr n) h = ap on.Expr (eq_means m n h)
on_is (on.Source s) (on.Expr n) h = cc
on_is (on.Expr m) (on.Source t) h = cc

pub every_on : (app : Shape) (Q : On → Type 0) (rs : List Read) → Every (λ r. Q (on_of_read app r)) rs → (ons : List On) → Every Q ons → Every Q (with_reads app ons rs)
every_on app Q [] h ons p = p
every_on app Q (r ∷ rs) h ons p = every_on app Q rs h.1 (with_on ons (on_of_read app r)) (by (is_on (on_of_read app r) ons))
  where
    by : (b : Bool) → Every Q (if b then ons else ons ++ on_of_read app r ∷ [])
    by true = p
    by false = both_of Q ons (on_of_read app r ∷ []) p (h.0, tt)

-- ---- the sources that are reached

or_right : (a : Bool) → (a || true) ≡ true
or_right true = refl
or_right false = refl

absorbed : (a b : Bool) → (b ≡ true → a ≡ true) → (a || b) ≡ a
absorbed true b h = refl
absorbed false true h = sym (h refl)
absorbed false false h = refl

module _ (session : KeptSession) where
  -- what is reached stays so
  members_keep : (k : ℕ) (os : List On) (xs : List ℕ) → is_among k xs ≡ true → is_among k (with_members session xs os) ≡ true
  members_keep k [] xs h = h
  members_keep k (o ∷ os) xs h =
      members_keep k os (union xs (sources_of_on session o)) (among_union k xs (sources_of_on session o) ∙ ap (λ b. b || is_among k (sources_of_on session o)) h)

  -- what one of them leads to is reached
  members_of : (k : ℕ) (o : On) → is_among k (sources_of_on session o) ≡ true → (os : List On) (xs : List ℕ) → is_on o os ≡ true → is_among k (with_members session xs os) ≡ true
  members_of k o h [] xs i = cc
  members_of k o h (p ∷ os) xs i = by (on_eq p o) refl (members_of k o h os (union xs (sources_of_on session p))) i
    where
      by : (b : Bool) → on_eq p o ≡ b → (is_on o os ≡ true → is_among k (with_members session xs (p ∷ os)) ≡ true) → (b || is_on o os) ≡ true → is_among k (with_members session xs (p ∷ os)) ≡ true
      by false e rest j = rest j
      by true e rest j =
          let here : is_among k (sources_of_on session p) ≡ true = subst (λ q. is_among k (sources_of_on session q) ≡ true) (sym (on_is p o e)) h in
          members_keep k os (union xs (sources_of_on session p)) (among_union k xs (sources_of_on session p) ∙ ap (λ b. is_among k xs || b) here ∙ or_right (is_among k xs))

  members_more : (o : On) (os : List On) (xs : List ℕ) → with_members session xs (os ++ o ∷ []) ≡ union (with_members session xs os) (sources_of_on session o)
  members_more o [] xs = refl
  members_more o (p ∷ os) xs = members_more o os (union xs (sources_of_on session p))

  -- what is there already adds nothing
  members_with : (o : On) (os : List On) → HasSameMembers (members_reached session (with_on os o)) (union (members_reached session os) (sources_of_on session o))
  members_with o os k = by (is_on o os) refl
    where
      by : (b : Bool) → is_on o os ≡ b → is_among k (members_reached session (if b then os else os ++ o ∷ [])) ≡ is_among k (union (members_reached session os) (sources_of_on session o))
      by false e = ap (is_among k) (members_more o os [])
      by true e =
          sym (among_union k (members_reached session os) (sources_of_on session o)
          ∙ absorbed (is_among k (members_reached session os)) (is_among k (sources_of_on session o)) (λ h. members_of k o h os [] e))

  read_members : (app : Shape) (r : Read) → sources_of_read app (kept_known session) r ≡ sources_of_on session (on_of_read app r)
  read_members app (read.Expr m) = ap (λ (x : Known). x.sources) (known_kept session m)
  read_members app (read.Input s) = refl
  read_members app (read.Value s) = refl
  read_members app (read.Status s) = refl
  read_members app (read.Result s) = refl
  read_members app (read.Width m) = refl
  read_members app (read.Height m) = refl

  -- the sources of reads are those that what is noted of them leads to
  pub reads_members : (app : Shape) (rs : List Read) (os : List On) (xs : List ℕ) → HasSameMembers xs (members_reached session os)
      → HasSameMembers (sources_of_reads app (kept_known session) xs rs) (members_reached session (with_reads app os rs))
  reads_members app [] os xs p = p
  reads_members app (r ∷ rs) os xs p =
      let o : On = on_of_read app r in
      reads_members app rs (with_on os o) (union xs (sources_of_read app (kept_known session) r))
      (λ k. union_same xs (sources_of_read app (kept_known session) r) (members_reached session os) (sources_of_on session o) p (λ j. ap (is_among j) (read_members app r)) k
      ∙ sym (members_with o os k))

-- ---- keys of which one fails

-- no body is evaluated, and what a plot makes of the failure is the failure itself
pub record IsFailure (keys : Trees) (a : Answers) (done : List Value) (x : Outcome) : Type 0 where
  pub alone : (next other : List Value → Evaluation) → evaluate_all keys a [] done next ≡ evaluate_all keys a [] done other
  pub shown : picture x ≡ x

err_is : {A B : Type 0} (x y : B) → ◌≡◌ {A = Result A B} (Err x) (Err y) → x ≡ y
err_is x y h = cc

module _ (a : Answers) where
  pub keys_fail : (keys : Trees) (done : List Value) (x : Outcome) → keys_from keys a done ≡ Err x → IsFailure keys a done x
  keys_fail no_trees done x h = cc
  keys_fail (tree t more) done x h = by (outcome_of t a []) refl (λ y. keys_fail more (done ++ y ∷ []) x) h
    where
      at_once : (o : Outcome) → outcome_of t a [] ≡ o → picture o ≡ o → ((e : Evaluation) (next : Value → Evaluation) → then_by e o next ≡ e) → o ≡ x → IsFailure (tree t more) a done x
      at_once o q shown none e = record {
        alone = λ next other. ends next ∙ sym (ends other);
        shown = subst (λ z. picture z ≡ z) e shown;
      }
        where
          ends : (next : List Value → Evaluation) → evaluate_all (tree t more) a [] done next ≡ evaluate t a []
          ends next = ap (λ z. then_by (evaluate t a []) z (λ y. evaluate_all more a [] (done ++ y ∷ []) next)) q ∙ none (evaluate t a []) (λ y. evaluate_all more a [] (done ++ y ∷ []) next)

      by : (o : Outcome) → outcome_of t a [] ≡ o → ((y : Value) → keys_from more a (done ++ y ∷ []) ≡ Err x → IsFailure more a (done ++ y ∷ []) x)
          → after_key done o (keys_from more a) ≡ Err x → IsFailure (tree t more) a done x
      by (Val y) q rest k = let f = rest y k in record {
        alone = λ next other. comes next ∙ ap (after (evaluate t a [])) (f.alone next other) ∙ sym (comes other);
        shown = f.shown;
      }
        where
          comes : (next : List Value → Evaluation) → evaluate_all (tree t more) a [] done next ≡ after (evaluate t a []) (evaluate_all more a [] (done ++ y ∷ []) next)
          comes next = ap (λ z. then_by (evaluate t a []) z (λ w. evaluate_all more a [] (done ++ w ∷ []) next)) q
      by (Fail z) q rest k = at_once (Fail z) q refl (λ e next. refl) (err_is (Fail z) x k)
      by Stop q rest k = at_once Stop q refl (λ e next. refl) (err_is Stop x k)
      by Cancel q rest k = at_once Cancel q refl (λ e next. refl) (err_is Cancel x k)
      by Running q rest k = at_once Running q refl (λ e next. refl) (err_is Running x k)

shown_failure : (o : Option Node) (x : Outcome) → picture x ≡ x → shown_outcome o x ≡ x
shown_failure (Some (plot name shown)) x h = h
shown_failure None x h = refl
shown_failure (Some (input name start)) x h = refl
shown_failure (Some (value name start)) x h = refl
shown_failure (Some (task name parameters body)) x h = refl
shown_failure (Some (reactive name keys body)) x h = refl
shown_failure (Some (event name flags e body)) x h = refl
shown_failure (Some (text name shown)) x h = refl
shown_failure (Some (observe name priority block)) x h = refl
shown_failure (Some (on name priority flags e block)) x h = refl

-- so a cached reader is its keys alone, and comes to the failure
pub failed_node : (o : Option Node) (c : Cached) → IsCachedNode o c → (a : Answers) (x : Outcome) → keys_result c.keys a ≡ Err x
    → evaluate_node o a ≡ record (keys_evaluation c.keys a) { outcome = x }
failed_node o c n a x h =
    let f : IsFailure c.keys a [] x = keys_fail a c.keys [] x h in
    let alone : cached c.keys c.body a ≡ keys_evaluation c.keys a =
    subst (λ ks. cached ks c.body a ≡ evaluate_all ks a [] [] (λ ys. without_reads (evaluate c.body a []))) (sym n.first) refl ∙ f.alone (λ ys. without_reads (evaluate c.body a [])) (λ ys. plain (Val v.Null)) in
    let fails : (cached c.keys c.body a).outcome ≡ x = keys_come_first c.keys c.body a ∙ ap (λ r. unless_failed r (outcome_of c.body a [])) h in
    n.evaluated a
    ∙ (λ j. record (alone j) { outcome = shown_outcome o (fails j) })
    ∙ ap (λ z. record (keys_evaluation c.keys a) { outcome = z }) (shown_failure o x f.shown)

-- ---- which bodies count

pub cached_some : (o : Option Cached) → IsSome o → (c : Cached) × (o ≡ Some c)
cached_some None u = cc
cached_some (Some c) u = (c, refl)

keyless_counts : (keys : Trees) (body : Tree) (a : Answers) → with_keys keys body ≡ None → bodies_behind_keys keys a ≡ 1
keyless_counts no_trees body a h = refl
keyless_counts (tree key more) body a h = cc

pub uncached_counts : (o : Option Node) (a : Answers) → IsUncached o → bodies_counted o a ≡ 1
uncached_counts None a u = absurd u
uncached_counts (Some (reactive name keys body)) a u = keyless_counts keys body a u.1
uncached_counts (Some (event name flags e body)) a u = refl
uncached_counts (Some (text name shown)) a u = keyless_counts shown.keys shown.body a u.1
uncached_counts (Some (plot name shown)) a u = keyless_counts shown.keys shown.body a u.1
uncached_counts (Some (input name start)) a u = let e = u.0 in cc
uncached_counts (Some (value name start)) a u = let e = u.0 in cc
uncached_counts (Some (task name parameters body)) a u = let e = u.0 in cc
uncached_counts (Some (observe name priority block)) a u = let e = u.0 in cc
uncached_counts (Some (on name priority flags e block)) a u = let e = u.0 in cc

keyed_counts : (keys : Trees) (body : Tree) (c : Cached) (a : Answers) → with_keys keys body ≡ Some c → bodies_behind_keys keys a ≡ one_if_values (keys_result c.keys a)
keyed_counts no_trees body c a h = cc
keyed_counts (tree key more) body c a h = ap (λ (x : Cached). one_if_values (keys_result x.keys a)) (some_is h)

pub cached_counts : (o : Option Node) (c : Cached) (a : Answers) → cached_node o ≡ Some c → bodies_counted o a ≡ one_if_values (keys_result c.keys a)
cached_counts None c a h = cc
cached_counts (Some (reactive name keys body)) c a h = keyed_counts keys body c a h
cached_counts (Some (text name shown)) c a h = keyed_counts shown.keys shown.body c a h
cached_counts (Some (plot name shown)) c a h = keyed_counts shown.keys shown.body c a h
cached_counts (Some (input name start)) c a h = cc
cached_counts (Some (value name start)) c a h = cc
cached_counts (Some (task name parameters body)) c a h = cc
cached_counts (Some (event name flags e body)) c a h = cc
cached_counts (Some (observe name priority block)) c a h = cc
cached_counts (Some (on name priority flags e block)) c a h = cc
