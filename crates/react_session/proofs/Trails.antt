-- What an evaluation over a session notes is what it reads outside of its sites, and what its sites come to.
use Rattle.std.specs.Prelude.{not, ◌&&◌, if◌then◌else◌}
use Rattle.std.proofs.Common.{◌≡◌, Bool, true, false, ℕ, suc, ◌+◌, ◌-◌, List, [], ◌∷◌, ◌++◌, Option, Some, None, refl, sym, ap, ◌∙◌, arith, append_assoc, append-nil}
use Rattle.rx_value.specs.declared.value.Value.{Value}
use Rattle.rx_value.specs.declared.outcome.Outcome.{Outcome}
use Rattle.rx_value.specs.declared.outcome.Outcome.TheVariants as o
use Rattle.app_tree.specs.declared.term.Read.{Read}
use Rattle.rx_value.specs.declared.value.Value.TheVariants as v
use Rattle.rx_value.specs.Functions.{is_null}
use Rattle.app_tree.specs.Tree.{Tree, Trees, no_trees, tree, Node, input, value, task, reactive, event, text, plot, observe, on, Shape}
use Rattle.app_tree.specs.Keys.{keys_evaluation}
use Rattle.app_tree.specs.Fresh.{cached, event_body, rendered, evaluate_node}
use Rattle.app_tree.specs.Cover.{reads_in, reads_in_all, with_keys}
use Rattle.app_tree.specs.Evaluate.{TraceEntry, reads, given, enters, leaves, Evaluation, plain, then_by, at_site, evaluate, site_count, site_count_all}
use Rattle.app_tree.specs.Wanted.{Answering, completed, wanted_by, first_wanted}
use Rattle.app_laws.specs.Orderly.{IsNumbered, AreNumbered, IsNumberedNode}
use Rattle.app_laws.specs.Recorded.{recorded}
use Rattle.app_laws.proofs.Asking.{IsOfParts, given_site, left_site, term_has, terms_have}
use Rattle.app_laws.proofs.WhatIsAsked.{IsAnyRead, any_reads, recorded-append}
use Rattle.term_eval.specs.Bodies.{IsUncached}
use Rattle.dep_graph.specs.declared.on.On.{On}
use Rattle.react_session.specs.inner.Trail.{on_of_read, with_on, with_reads, Trail, first_trail, reached_at, noted_read, trail_after, trail_after-append, AreNotes}

-- ---- what is wanted of joined traces

wanted_front : (x : Option Outcome) (r : Read) (l m : Option Read) → (l ≡ None → m ≡ None) → wanted_by x r l ≡ None → wanted_by x r m ≡ None
wanted_front (Some y) r l m f h = f h
wanted_front None r l m f h = cc

-- where a trace wants nothing, no front of it does
pub front_none : (a : Answering) (xs ys : List TraceEntry) → first_wanted a (xs ++ ys) ≡ None → first_wanted a xs ≡ None
front_none a [] ys h = refl
front_none a (reads r ∷ xs) ys h = wanted_front (a.read r) r (first_wanted a (xs ++ ys)) (first_wanted a xs) (front_none a xs ys) h
front_none a (given s ∷ xs) ys h = front_none a xs ys h
front_none a (enters s ∷ xs) ys h = front_none a xs ys h
front_none a (leaves s x ∷ xs) ys h = front_none a xs ys h

wanted_back : (x : Option Outcome) (r : Read) (l : Option Read) → wanted_by x r l ≡ None → l ≡ None
wanted_back (Some y) r l h = h
wanted_back None r l h = cc

-- and no back
pub back_none : (a : Answering) (xs ys : List TraceEntry) → first_wanted a (xs ++ ys) ≡ None → first_wanted a ys ≡ None
back_none a [] ys h = h
back_none a (reads r ∷ xs) ys h = back_none a xs ys (wanted_back (a.read r) r (first_wanted a (xs ++ ys)) h)
back_none a (given s ∷ xs) ys h = back_none a xs ys h
back_none a (enters s ∷ xs) ys h = back_none a xs ys h
back_none a (leaves s x ∷ xs) ys h = back_none a xs ys h

-- ---- notes

noted_some : (x : Option Outcome) (r : Read) (rest : Option Read) (p : On) (t : Trail) → wanted_by x r rest ≡ None → noted_read x p t ≡ record t { reached = reached_at t.depth t.reached p }
noted_some (Some y) r rest p t h = refl
noted_some None r rest p t h = cc

with_reads-append : (app : Shape) (xs ys : List Read) (ons : List On) → with_reads app ons (xs ++ ys) ≡ with_reads app (with_reads app ons xs) ys
with_reads-append app [] ys ons = refl
with_reads-append app (x ∷ xs) ys ons = with_reads-append app xs ys (with_on ons (on_of_read app x))

module _ (app : Shape) (a : Answering) where
  abbrev at : ℕ → List On → List (ℕ × Outcome) → Trail
  at d r i = record { depth = d; reached = r; isolated = i }

  -- at depth 0 what is read outside of sites counts, and deeper nothing does
  pub record Skims (e : Evaluation) : Type 0 where
    pub outside : (r : List On) (i : List (ℕ × Outcome)) → trail_after app a e.asked (at 0 r i) ≡ at 0 (with_reads app r e.outside) (i ++ recorded a.site e.asked)
    pub inside : (d : ℕ) (r : List On) (i : List (ℕ × Outcome)) → trail_after app a e.asked (at (suc d) r i) ≡ at (suc d) r (i ++ recorded a.site e.asked)

  abbrev pub Skimmed : ℕ → ℕ → Evaluation → Type 0
  Skimmed l h e = first_wanted a e.asked ≡ None → Skims e

  joined_notes : (e next : Evaluation) → Skims e → Skims next → Skims (record { outcome = next.outcome; asked = e.asked ++ next.asked; outside = e.outside ++ next.outside })
  joined_notes e next p q = record {
    outside = λ r i. trail_after-append app a e.asked next.asked (at 0 r i) ∙ ap (trail_after app a next.asked) (p.outside r i) ∙ q.outside (with_reads app r e.outside) (i ++ recorded a.site e.asked)
        ∙ (λ j. at 0 (sym (with_reads-append app e.outside next.outside r) j) ((append_assoc i (recorded a.site e.asked) (recorded a.site next.asked) ∙ ap (λ l. i ++ l) (sym (recorded-append a.site e.asked next.asked))) j));
    inside = λ d r i. trail_after-append app a e.asked next.asked (at (suc d) r i) ∙ ap (trail_after app a next.asked) (p.inside d r i) ∙ q.inside d r (i ++ recorded a.site e.asked)
        ∙ ap (at (suc d) r) (append_assoc i (recorded a.site e.asked) (recorded a.site next.asked) ∙ ap (λ l. i ++ l) (sym (recorded-append a.site e.asked next.asked)));
  }

  left_notes : (n : ℕ) (e : Evaluation) → Skims e → Skims (left_site n e)
  left_notes n e p = record {
    outside = λ r i. trail_after-append app a e.asked (leaves n e.outcome ∷ []) (at 1 r i) ∙ ap (trail_after app a (leaves n e.outcome ∷ [])) (p.inside 0 r i) ∙ ap (at 0 r) (isolates i);
    inside = λ d r i. trail_after-append app a e.asked (leaves n e.outcome ∷ []) (at (suc (suc d)) r i) ∙ ap (trail_after app a (leaves n e.outcome ∷ [])) (p.inside (suc d) r i)
        ∙ (λ j. at (one_less d j) r (isolates i j));
  }
    where
      one_less : (d : ℕ) → suc (suc d) - 1 ≡ suc d
      one_less d = omega arith

      isolates : (i : List (ℕ × Outcome)) → (i ++ recorded a.site e.asked) ++ (n, e.outcome) ∷ [] ≡ i ++ recorded a.site (e.asked ++ leaves n e.outcome ∷ [])
      isolates i = append_assoc i (recorded a.site e.asked) ((n, e.outcome) ∷ []) ∙ ap (λ l. i ++ l) (sym (recorded-append a.site e.asked (leaves n e.outcome ∷ [])))

  given_notes : (n : ℕ) (x : Outcome) → a.site n ≡ Some x → Skims (given_site n x)
  given_notes n x h = record { outside = λ r i. refl; inside = λ d r i. refl }

  pub skims : IsOfParts (completed a) IsAnyRead Skimmed
  skims = record {
    nothing = λ l h x q w. record { outside = λ r i. ap (at 0 r) (sym (append-nil i)); inside = λ d r i. ap (at (suc d) r) (sym (append-nil i)) };
    reading = λ l h x q y w. record {
      outside = λ r i. noted_some (a.read x) x None (on_of_read app x) (at 0 r i) w ∙ ap (at 0 (with_on r (on_of_read app x))) (sym (append-nil i));
      inside = λ d r i. noted_some (a.read x) x None (on_of_read app x) (at (suc d) r i) w ∙ ap (at (suc d) r) (sym (append-nil i));
    };
    joined = λ l m h e next i j p q w.
        let first : first_wanted a e.asked ≡ None = front_none a e.asked next.asked w in
        joined_notes e next (p first) (q (back_none a e.asked next.asked w));
    wider = λ l h k i e x y p. p;
    answered = λ n h x i q w. given_notes n x q;
    entered = λ n h e i q p w. left_notes n e (p (front_none a e.asked (leaves n e.outcome ∷ []) w));
  }

  pub term_skims : (t : Tree) (n : ℕ) → IsNumbered n t → (args : List Value) → first_wanted a (evaluate t (completed a) args).asked ≡ None → Skims (evaluate t (completed a) args)
  term_skims t n numbered args = term_has (completed a) IsAnyRead Skimmed skims t n (n + site_count t) numbered (any_reads (reads_in t)) (omega arith) args

  -- ---- a reader without keys, and the keys of another one

  goes_notes : (e : Evaluation) (x : Outcome) (next : Value → Evaluation) → (first_wanted a e.asked ≡ None → Skims e) → ((y : Value) → first_wanted a (next y).asked ≡ None → Skims (next y))
      → first_wanted a (then_by e x next).asked ≡ None → Skims (then_by e x next)
  goes_notes e (o.Val y) next p k w = joined_notes e (next y) (p (front_none a e.asked (next y).asked w)) (k y (back_none a e.asked (next y).asked w))
  goes_notes e (o.Fail t) next p k w = p w
  goes_notes e o.Stop next p k w = p w
  goes_notes e o.Cancel next p k w = p w
  goes_notes e o.Running next p k w = p w

  nothing_noted : (x : Outcome) → Skims (plain x)
  nothing_noted x = record { outside = λ r i. ap (at 0 r) (sym (append-nil i)); inside = λ d r i. ap (at (suc d) r) (sym (append-nil i)) }

  site_notes : (n : ℕ) (t : Tree) (x : Option Outcome) → a.site n ≡ x → (first_wanted a (evaluate t (completed a) []).asked ≡ None → Skims (evaluate t (completed a) []))
      → first_wanted a (at_site n (evaluate t) (completed a) [] x).asked ≡ None → Skims (at_site n (evaluate t) (completed a) [] x)
  site_notes n t (Some x) q p w = given_notes n x q
  site_notes n t None q p w = left_notes n (evaluate t (completed a) []) (p (front_none a (evaluate t (completed a) []).asked (leaves n (evaluate t (completed a) []).outcome ∷ []) w))

  body_notes : (b : Bool) (n : ℕ) (t : Tree) → (first_wanted a (evaluate t (completed a) []).asked ≡ None → Skims (evaluate t (completed a) []))
      → first_wanted a (if b then plain o.Stop else at_site n (evaluate t) (completed a) [] (a.site n)).asked ≡ None → Skims (if b then plain o.Stop else at_site n (evaluate t) (completed a) [] (a.site n))
  body_notes true n t p w = nothing_noted o.Stop
  body_notes false n t p w = site_notes n t (a.site n) refl p w

  -- without keys
  keyless_skims : (keys : Trees) (body : Tree) → with_keys keys body ≡ None → IsNumbered (site_count_all keys) body
      → first_wanted a (cached keys body (completed a)).asked ≡ None → Skims (cached keys body (completed a))
  keyless_skims no_trees body u d w = term_skims body 0 d [] w
  keyless_skims (tree key more) body u d w = cc

  drawn : (e : Evaluation) → Skims e → Skims (rendered e)
  drawn e p = record { outside = p.outside; inside = p.inside }

  pub node_skims : (i : Node) → IsNumberedNode i → IsUncached (Some i) → first_wanted a (evaluate_node (Some i) (completed a)).asked ≡ None → Skims (evaluate_node (Some i) (completed a))
  node_skims (reactive name keys body) d u w = keyless_skims keys body u.1 d.1 w
  node_skims (event name flags e body) d u w =
      goes_notes (evaluate e (completed a) []) (evaluate e (completed a) []).outcome (event_body flags e body (completed a)) (term_skims e 0 d.0 [])
      (λ y. body_notes (is_null y && not flags.allow_null) (site_count e) body (term_skims body (suc (site_count e)) d.1 [])) w
  node_skims (text name shown) d u w = keyless_skims shown.keys shown.body u.1 d.1 w
  node_skims (plot name shown) d u w = drawn (cached shown.keys shown.body (completed a)) (keyless_skims shown.keys shown.body u.1 d.1 w)
  node_skims (input name start) d u w = let e = u.0 in cc
  node_skims (value name start) d u w = let e = u.0 in cc
  node_skims (task name parameters body) d u w = let e = u.0 in cc
  node_skims (observe name priority block) d u w = let e = u.0 in cc
  node_skims (on name priority flags e block) d u w = let e = u.0 in cc

  pub keys_skim : (keys : Trees) → AreNumbered 0 keys → first_wanted a (keys_evaluation keys (completed a)).asked ≡ None → Skims (keys_evaluation keys (completed a))
  keys_skim keys numbered =
      terms_have (completed a) IsAnyRead Skimmed skims keys 0 (site_count_all keys) (site_count_all keys) numbered (any_reads (reads_in_all keys)) (omega arith) (omega arith) [] [] (λ xs. plain (o.Val v.Null))
      (λ xs w. nothing_noted (o.Val v.Null))

  -- ---- what the notes are

  pub noted_all : (e : Evaluation) (t : Trail) → Skims e → t ≡ trail_after app a e.asked first_trail → AreNotes app a e t.reached t.isolated
  noted_all e t skims is =
      let all : t ≡ at 0 (with_reads app [] e.outside) (recorded a.site e.asked) = is ∙ skims.outside [] [] in
      record { counted = ap (λ (z : Trail). z.reached) all; sites = ap (λ (z : Trail). z.isolated) all }
