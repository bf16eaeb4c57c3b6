-- How an evaluation over a reader is made of its parts.
use Rattle.std.proofs.Common.{◌≡◌, ℕ, ◌+◌, ◌<◌, ◌≤◌, suc, ℤ, pos, List, [], ◌∷◌, ◌++◌, length, drop, get_or, Option, Some, None, Result, Ok, Err, refl, sym, ◌∙◌, ap, subst, add-one}
use Rattle.std.proofs.Math.Seq.{drop-cons}
use Rattle.std.proofs.lemmas.List.{drop_all}
use Rattle.rx_value.specs.declared.value.Value.{Value}
use Rattle.rx_value.specs.declared.outcome.Outcome.{Outcome}
use Rattle.rx_value.specs.declared.outcome.Outcome.TheVariants as o
use Rattle.app_tree.specs.declared.term.Term.{Term}
use Rattle.app_tree.specs.declared.term.Read.{Read}
use Rattle.app_tree.specs.declared.term.Read.TheVariants.{Expr}
use Rattle.app_tree.specs.View.{tree_of, trees_of_terms}
use Rattle.app_tree.specs.Evaluate.{Answers, TraceEntry, reads, given, enters, leaves, Evaluation, Meaning, plain, after, then_by, then_with, at_site, over_each, evaluate, evaluate_all}
use Rattle.term_eval.specs.declared.ending.Halt.{Halt}
use Rattle.term_eval.specs.declared.ending.Halt.TheVariants as halt
use Rattle.term_eval.specs.declared.ending.Early.{Early}
use Rattle.term_eval.specs.declared.ending.Early.TheVariants as early
use Rattle.app_tree.specs.Wanted.{Answering, completed, wanted_by, first_wanted, up_to_by, up_to_wanted}
use Rattle.term_eval.specs.inner.Early.{halted_outcome, Comes}
use Rattle.term_eval.specs.inner.Walks.{At, Ends, Stops, Walks, Leaves}

-- ---- traces

wanted_none : (x : Option Outcome) (r : Read) (later : Option Read) → wanted_by x r later ≡ None → (wanted_by x r later ≡ later) × (later ≡ None)
wanted_none (Some y) r later h = (refl, h)
wanted_none None r later h = cc

by_none : (x : Option Outcome) (r : Read) (l later : Option Read) → wanted_by x r l ≡ None → wanted_by x r later ≡ later
by_none (Some y) r l later h = refl
by_none None r l later h = cc

pub first_wanted-append : (a : Answering) (xs ys : List TraceEntry) → first_wanted a xs ≡ None → first_wanted a (xs ++ ys) ≡ first_wanted a ys
first_wanted-append a [] ys h = refl
first_wanted-append a (reads r ∷ xs) ys h =
    by_none (a.read r) r (first_wanted a xs) (first_wanted a (xs ++ ys)) h ∙ first_wanted-append a xs ys (wanted_none (a.read r) r (first_wanted a xs) h).1
first_wanted-append a (given s ∷ xs) ys h = first_wanted-append a xs ys h
first_wanted-append a (enters s ∷ xs) ys h = first_wanted-append a xs ys h
first_wanted-append a (leaves s x ∷ xs) ys h = first_wanted-append a xs ys h

up_none : (x : Option Outcome) (r : Read) (l : Option Read) (later : List TraceEntry) → wanted_by x r l ≡ None → up_to_by x later ≡ later
up_none (Some y) r l later h = refl
up_none None r l later h = cc

pub up_to_wanted-append : (a : Answering) (xs ys : List TraceEntry) → first_wanted a xs ≡ None → up_to_wanted a (xs ++ ys) ≡ xs ++ up_to_wanted a ys
up_to_wanted-append a [] ys h = refl
up_to_wanted-append a (reads r ∷ xs) ys h =
    ap (λ l. reads r ∷ l) (up_none (a.read r) r (first_wanted a xs) (up_to_wanted a (xs ++ ys)) h ∙ up_to_wanted-append a xs ys (wanted_none (a.read r) r (first_wanted a xs) h).1)
up_to_wanted-append a (given s ∷ xs) ys h = ap (λ l. given s ∷ l) (up_to_wanted-append a xs ys h)
up_to_wanted-append a (enters s ∷ xs) ys h = ap (λ l. enters s ∷ l) (up_to_wanted-append a xs ys h)
up_to_wanted-append a (leaves s x ∷ xs) ys h = ap (λ l. leaves s x ∷ l) (up_to_wanted-append a xs ys h)

front_wanted_by : (x : Option Outcome) (r q : Read) (l l' : Option Read) → wanted_by x r l ≡ Some q → (l ≡ Some q → l' ≡ Some q) → wanted_by x r l' ≡ Some q
front_wanted_by (Some y) r q l l' h k = k h
front_wanted_by None r q l l' h k = h

pub first_wanted-front : (a : Answering) (xs ys : List TraceEntry) (q : Read) → first_wanted a xs ≡ Some q → first_wanted a (xs ++ ys) ≡ Some q
first_wanted-front a [] ys q h = cc
first_wanted-front a (reads r ∷ xs) ys q h = front_wanted_by (a.read r) r q (first_wanted a xs) (first_wanted a (xs ++ ys)) h (first_wanted-front a xs ys q)
first_wanted-front a (given s ∷ xs) ys q h = first_wanted-front a xs ys q h
first_wanted-front a (enters s ∷ xs) ys q h = first_wanted-front a xs ys q h
first_wanted-front a (leaves s x ∷ xs) ys q h = first_wanted-front a xs ys q h

front_up_by : (x : Option Outcome) (r q : Read) (l : Option Read) (m m' : List TraceEntry) → wanted_by x r l ≡ Some q → (l ≡ Some q → m' ≡ m) → up_to_by x m' ≡ up_to_by x m
front_up_by (Some y) r q l m m' h k = k h
front_up_by None r q l m m' h k = refl

pub up_to_wanted-front : (a : Answering) (xs ys : List TraceEntry) (q : Read) → first_wanted a xs ≡ Some q → up_to_wanted a (xs ++ ys) ≡ up_to_wanted a xs
up_to_wanted-front a [] ys q h = cc
up_to_wanted-front a (reads r ∷ xs) ys q h = ap (λ l. reads r ∷ l) (front_up_by (a.read r) r q (first_wanted a xs) (up_to_wanted a xs) (up_to_wanted a (xs ++ ys)) h (up_to_wanted-front a xs ys q))
up_to_wanted-front a (given s ∷ xs) ys q h = ap (λ l. given s ∷ l) (up_to_wanted-front a xs ys q h)
up_to_wanted-front a (enters s ∷ xs) ys q h = ap (λ l. enters s ∷ l) (up_to_wanted-front a xs ys q h)
up_to_wanted-front a (leaves s x ∷ xs) ys q h = ap (λ l. leaves s x ∷ l) (up_to_wanted-front a xs ys q h)

-- ---- lists

pub at_front : {X : Type 0} (xs : List X) (i : ℕ) (x : X) → i < length xs → x ≡ get_or xs i x → drop i xs ≡ x ∷ drop (i + 1) xs
at_front xs i x h q = drop-cons xs i x h ∙ ap (λ y. y ∷ drop (suc i) xs) (sym q) ∙ ap (λ k. x ∷ drop k xs) (sym (add-one i))

-- ---- steps

abbrev pub Stays : {S : Type 0} → (S → List TraceEntry → S → Type 0) → Type 0
Stays {S} noted = (s : S) → noted s [] s

abbrev pub Chains : {S : Type 0} → (S → List TraceEntry → S → Type 0) → Type 0
Chains {S} noted = (a b c : S) (xs ys : List TraceEntry) → noted a xs b → noted b ys c → noted a (xs ++ ys) c

module _ {S : Type 0} (answers : S → Answering) (noted : S → List TraceEntry → S → Type 0) where
  ends_after : Chains noted → (e f : Evaluation) (x : Value) (y : Outcome) (a b c : At S) → Ends answers noted e (o.Val x) a b → Ends answers noted f y b c → Ends answers noted (after e f) y a c
  ends_after chains e f x y a b c h k = record {
    outcome_is = k.outcome_is;
    none_wanted = first_wanted-append (answers a.reader) e.asked f.asked h.none_wanted ∙ ap (λ z. first_wanted z f.asked) (sym h.keeps) ∙ k.none_wanted;
    notes = chains a.reader b.reader c.reader e.asked f.asked h.notes k.notes;
    keeps = k.keeps ∙ h.keeps;
    variables = k.variables ∙ h.variables;
  }

  stops_after : Chains noted → (e f : Evaluation) (x : Value) (m : ℕ) (a b c : At S) → Ends answers noted e (o.Val x) a b → Stops answers noted f m b c → Stops answers noted (after e f) m a c
  stops_after chains e f x m a b c h k = record {
    outcome_is = k.outcome_is;
    wanted = first_wanted-append (answers a.reader) e.asked f.asked h.none_wanted ∙ ap (λ z. first_wanted z f.asked) (sym h.keeps) ∙ k.wanted;
    notes = subst (λ z. noted a.reader z c.reader) (sym (up_to_wanted-append (answers a.reader) e.asked f.asked h.none_wanted))
        (chains a.reader b.reader c.reader e.asked (up_to_wanted (answers a.reader) f.asked) h.notes (subst (λ z. noted b.reader (up_to_wanted z f.asked) c.reader) h.keeps k.notes));
    keeps = k.keeps ∙ h.keeps;
    variables = k.variables ∙ h.variables;
  }

  after_goes : Chains noted → (e f : Evaluation) (x : Value) (a b c : At S) (res : Result Value Early) → Ends answers noted e (o.Val x) a b → Walks answers noted f b c res → Walks answers noted (after e f) a c res
  after_goes chains e f x a b c (Ok y) h k = ends_after chains e f x (o.Val y) a b c h k
  after_goes chains e f x a b c (Err (early.Halted y)) h k = ends_after chains e f x (halted_outcome y) a b c h k
  after_goes chains e f x a b c (Err (early.Wants m)) h k = stops_after chains e f x m a b c h k
  after_goes chains e f x a b c (Err early.Memory) h k = k ∙ h.keeps

  -- a part that came to a value, and then the next
  pub goes_on : Chains noted → (e : Evaluation) (next : Value → Evaluation) (x : Value) (a b c : At S) (res : Result Value Early)
      → Walks answers noted e a b (Ok x) → Walks answers noted (next x) b c res → Walks answers noted (then_with e next) a c res
  goes_on chains e next x a b c res h k =
      subst (λ z. Walks answers noted z a c res) (sym (ap (λ z. then_by e z next) h.outcome_is)) (after_goes chains e (next x) x a b c res h k)

  halts_by : (e : Evaluation) (next : Value → Evaluation) (h : Halt) → then_by e (halted_outcome h) next ≡ e
  halts_by e next (halt.Fail t) = refl
  halts_by e next halt.Stop = refl
  halts_by e next halt.Cancel = refl
  halts_by e next halt.Running = refl

  -- a part that ended early
  pub ends_early : (e : Evaluation) (next : Value → Evaluation) (why : Early) (a b : At S) → Walks answers noted e a b (Err why) → Walks answers noted (then_with e next) a b (Err why)
  ends_early e next (early.Halted y) a b h =
      subst (λ z. Ends answers noted z (halted_outcome y) a b) (sym (ap (λ z. then_by e z next) h.outcome_is ∙ halts_by e next y)) h
  ends_early e next (early.Wants m) a b h = subst (λ z. Stops answers noted z m a b) (sym (ap (λ z. then_by e z next) h.outcome_is)) h
  ends_early e next early.Memory a b h = h

  -- what asks nothing
  pub quiet : Stays noted → (outcome : Outcome) (a : At S) (res : Result Value Early) → Comes outcome res → Walks answers noted (plain outcome) a a res
  quiet stays outcome a (Ok x) h = record { outcome_is = h; none_wanted = refl; notes = stays a.reader; keeps = refl; variables = refl }
  quiet stays outcome a (Err (early.Halted y)) h = record { outcome_is = h; none_wanted = refl; notes = stays a.reader; keeps = refl; variables = refl }
  quiet stays outcome a (Err (early.Wants m)) h = absurd h
  quiet stays outcome a (Err early.Memory) h = refl

  -- the same evaluation
  pub by_same : (e f : Evaluation) (a b : At S) (res : Result Value Early) → e ≡ f → Walks answers noted e a b res → Walks answers noted f a b res
  by_same e f a b res q h = subst (λ z. Walks answers noted z a b res) q h

  -- ---- a site whose term is evaluated
  abbrev site_of : ℕ → Evaluation → Evaluation
  site_of s e = record { outcome = e.outcome; asked = enters s ∷ (e.asked ++ leaves s e.outcome ∷ []); outside = [] }

  site_ends : Chains noted → (s : ℕ) (e : Evaluation) (y : Outcome) (a b c d : At S) → noted a.reader (enters s ∷ []) b.reader → answers b.reader ≡ answers a.reader → b.variables ≡ a.variables
      → Ends answers noted e y b c → answers d.reader ≡ answers c.reader → d.variables ≡ c.variables → noted c.reader (leaves s y ∷ []) d.reader → Ends answers noted (site_of s e) y a d
  site_ends chains s e y a b c d h q w k r x l = record {
    outcome_is = k.outcome_is;
    none_wanted = first_wanted-append (answers a.reader) e.asked (leaves s e.outcome ∷ []) (ap (λ z. first_wanted z e.asked) (sym q) ∙ k.none_wanted);
    notes = chains a.reader b.reader d.reader (enters s ∷ []) (e.asked ++ leaves s e.outcome ∷ []) h (chains b.reader c.reader d.reader e.asked (leaves s e.outcome ∷ []) k.notes (subst (λ z. noted c.reader (leaves s z ∷ []) d.reader) (sym k.outcome_is) l));
    keeps = r ∙ k.keeps ∙ q;
    variables = x ∙ k.variables ∙ w;
  }

  site_stops : Chains noted → (s : ℕ) (e : Evaluation) (m : ℕ) (a b c d : At S) → noted a.reader (enters s ∷ []) b.reader → answers b.reader ≡ answers a.reader → b.variables ≡ a.variables
      → Stops answers noted e m b c → d.reader ≡ c.reader → d.variables ≡ c.variables → Stops answers noted (site_of s e) m a d
  site_stops chains s e m a b c d h q w k r x = record {
    outcome_is = k.outcome_is;
    wanted = first_wanted-front (answers a.reader) e.asked (leaves s e.outcome ∷ []) (Expr m) (ap (λ z. first_wanted z e.asked) (sym q) ∙ k.wanted);
    notes = subst (λ z. noted a.reader (enters s ∷ z) d.reader) (sym (up_to_wanted-front (answers a.reader) e.asked (leaves s e.outcome ∷ []) (Expr m) (ap (λ z. first_wanted z e.asked) (sym q) ∙ k.wanted)))
        (chains a.reader b.reader d.reader (enters s ∷ []) (up_to_wanted (answers a.reader) e.asked) h (subst (λ z. noted b.reader z d.reader) (ap (λ z. up_to_wanted z e.asked) q) (subst (λ z. noted b.reader (up_to_wanted (answers b.reader) e.asked) z) (sym r) k.notes)));
    keeps = ap answers r ∙ k.keeps ∙ q;
    variables = x ∙ k.variables ∙ w;
  }

  keeps_of : (e : Evaluation) (b c : At S) (res : Result Value Early) → Walks answers noted e b c res → answers c.reader ≡ answers b.reader
  keeps_of e b c (Ok x) h = h.keeps
  keeps_of e b c (Err (early.Halted y)) h = h.keeps
  keeps_of e b c (Err (early.Wants m)) h = h.keeps
  keeps_of e b c (Err early.Memory) h = h

  site_walks : Chains noted → (s : ℕ) (e : Evaluation) (a b c d : At S) (res got : Result Value Early) → noted a.reader (enters s ∷ []) b.reader → answers b.reader ≡ answers a.reader → b.variables ≡ a.variables
      → Walks answers noted e b c got → answers d.reader ≡ answers c.reader → d.variables ≡ c.variables → Leaves noted s got res c.reader d.reader → Walks answers noted (site_of s e) a d res
  site_walks chains s e a b c d (Ok x) got h q w k r y l = site_ends chains s e (o.Val x) a b c d h q w (subst (Walks answers noted e b c) l.0 k) r y l.1
  site_walks chains s e a b c d (Err (early.Halted x)) got h q w k r y l = site_ends chains s e (halted_outcome x) a b c d h q w (subst (Walks answers noted e b c) l.0 k) r y l.1
  site_walks chains s e a b c d (Err (early.Wants m)) got h q w k r y l = site_stops chains s e m a b c d h q w (subst (Walks answers noted e b c) l.0 k) l.1 y
  site_walks chains s e a b c d (Err early.Memory) got h q w k r y l = r ∙ keeps_of e b c got k ∙ q

  pub isolates : Chains noted → (s : ℕ) (m : Meaning) (args : List Value) (x : Option Outcome) (a b c d : At S) (res got : Result Value Early) → x ≡ None
      → noted a.reader (enters s ∷ []) b.reader → answers b.reader ≡ answers a.reader → b.variables ≡ a.variables → Walks answers noted (m (completed (answers b.reader)) args) b c got
      → answers d.reader ≡ answers c.reader → d.variables ≡ c.variables → Leaves noted s got res c.reader d.reader
      → Walks answers noted (at_site s m (completed (answers a.reader)) args x) a d res
  isolates chains s m args x a b c d res got n h q w k r y l =
      subst (λ z. Walks answers noted (at_site s m (completed (answers a.reader)) args z) a d res) (sym n)
      (site_walks chains s (m (completed (answers a.reader)) args) a b c d res got h q w (subst (λ z. Walks answers noted (m (completed z) args) b c got) q k) r y l)

  -- ---- loops
  front_of : (xs : List ℤ) (i : ℕ) → i < length xs → drop i xs ≡ get_or xs i (pos 0) ∷ drop (i + 1) xs
  front_of xs i h = drop-cons xs i (pos 0) h ∙ ap (λ k. get_or xs i (pos 0) ∷ drop k xs) (sym (add-one i))

  pub each_done : Stays noted → (step : Value → ℤ → Evaluation) (x : Value) (zs : List ℤ) (i : ℕ) (a : At S) → length zs ≤ i → Walks answers noted (over_each step x (drop i zs)) a a (Ok x)
  each_done stays step x zs i a h = subst (λ l. Ends answers noted (over_each step x l) (o.Val x) a a) (sym (drop_all i zs h)) (quiet stays (o.Val x) a (Ok x) refl)

  pub each_more : Chains noted → (step : Value → ℤ → Evaluation) (x y : Value) (zs : List ℤ) (i : ℕ) (a b c : At S) (res : Result Value Early) → i < length zs
      → Walks answers noted (step x (get_or zs i (pos 0))) a b (Ok y) → Walks answers noted (over_each step y (drop (i + 1) zs)) b c res → Walks answers noted (over_each step x (drop i zs)) a c res
  each_more chains step x y zs i a b c res h k l =
      subst (λ r. Walks answers noted (over_each step x r) a c res) (sym (front_of zs i h)) (goes_on chains (step x (get_or zs i (pos 0))) (λ v. over_each step v (drop (i + 1) zs)) y a b c res k l)

  pub each_early : (step : Value → ℤ → Evaluation) (x : Value) (zs : List ℤ) (i : ℕ) (why : Early) (a b : At S) → i < length zs
      → Walks answers noted (step x (get_or zs i (pos 0))) a b (Err why) → Walks answers noted (over_each step x (drop i zs)) a b (Err why)
  each_early step x zs i why a b h k =
      subst (λ r. Walks answers noted (over_each step x r) a b (Err why)) (sym (front_of zs i h)) (ends_early (step x (get_or zs i (pos 0))) (λ v. over_each step v (drop (i + 1) zs)) why a b k)

  pub all_done : (A : Answers) (args : List Value) (ts : List Term) (i : ℕ) (done : List Value) (next : List Value → Evaluation) → length ts ≤ i
      → next done ≡ evaluate_all (trees_of_terms (drop i ts)) A args done next
  all_done A args ts i done next h = sym (ap (λ l. evaluate_all (trees_of_terms l) A args done next) (drop_all i ts h))

  pub all_more : (A : Answers) (args : List Value) (ts : List Term) (i : ℕ) (t : Term) (done : List Value) (next : List Value → Evaluation) → i < length ts → t ≡ get_or ts i t
      → then_with (evaluate (tree_of t) A args) (λ x. evaluate_all (trees_of_terms (drop (i + 1) ts)) A args (done ++ x ∷ []) next) ≡ evaluate_all (trees_of_terms (drop i ts)) A args done next
  all_more A args ts i t done next h q = sym (ap (λ l. evaluate_all (trees_of_terms l) A args done next) (at_front ts i t h q))

  pub goes_by : Chains noted → (whole e e' : Evaluation) (next : Value → Evaluation) (f : Evaluation) (x : Value) (a b c : At S) (res : Result Value Early)
      → whole ≡ then_with e next → e' ≡ e → Walks answers noted e' a b (Ok x) → f ≡ next x → Walks answers noted f b c res → Walks answers noted whole a c res
  goes_by chains whole e e' next f x a b c res w q h r k =
      by_same (then_with e next) whole a c res (sym w) (goes_on chains e next x a b c res (by_same e' e a b (Ok x) q h) (by_same f (next x) b c res r k))

  pub early_by : (whole e e' : Evaluation) (next : Value → Evaluation) (why : Early) (a b : At S) (res : Result Value Early)
      → whole ≡ then_with e next → e' ≡ e → res ≡ Err why → Walks answers noted e' a b (Err why) → Walks answers noted whole a b res
  early_by whole e e' next why a b res w q r h =
      by_same (then_with e next) whole a b res (sym w) (subst (Walks answers noted (then_with e next) a b) (sym r) (ends_early e next why a b (by_same e' e a b (Err why) q h)))
