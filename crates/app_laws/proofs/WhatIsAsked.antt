-- What an evaluation asks: reads that stand in its text, and sites by their numbers, each once.
use Rattle.std.proofs.lemmas.Bool.Decides.{eqb_tells}
use Rattle.std.proofs.Common.{◌≡◌, ◌≢◌, inl, inr, ◌≤◌, ◌<◌, ℕ, suc, ◌+◌, Bool, true, false, List, [], ◌∷◌, ◌++◌, Option, Some, None, refl, sym, ap, ◌∙◌, subst, arith}
use Rattle.std.specs.Prelude.{⊤, ◌==◌, if◌then◌else◌}
use Rattle.rx_value.specs.declared.outcome.Outcome.{Outcome}
use Rattle.app_tree.specs.declared.term.Read.{Read}
use Rattle.app_tree.specs.Tree.{Tree, Node}
use Rattle.app_tree.specs.Evaluate.{Answers, TraceEntry, reads, given, enters, leaves, Evaluation, evaluate, site_count}
use Rattle.app_tree.specs.Cover.{reads_in}
use Rattle.app_tree.specs.Fresh.{evaluate_node, site_outcome}
use Rattle.app_tree.specs.Trace.{Every, OfRead, EveryRead}
use Rattle.app_laws.specs.Orderly.{IsNumbered, IsNumberedNode, reads_in_node}
use Rattle.app_laws.specs.Recorded.{given_outcome, recorded}
use Rattle.app_laws.proofs.Agreeing.{front, back}
use Rattle.app_laws.proofs.Asking.{IsOfParts, node_sites, term_has, node_has}

-- ---- facts of each member

pub both_of : {A : Type 0} (P : A → Type 0) (xs ys : List A) → Every P xs → Every P ys → Every P (xs ++ ys)
both_of P [] ys h k = k
both_of P (x ∷ xs) ys h k = (h.0, both_of P xs ys h.1 k)

pub every_all : {A : Type 0} (P : A → Type 0) → ((x : A) → P x) → (xs : List A) → Every P xs
every_all P f [] = tt
every_all P f (x ∷ xs) = (f x, every_all P f xs)

pub every_map : {A : Type 0} (P Q : A → Type 0) → ((x : A) → P x → Q x) → (xs : List A) → Every P xs → Every Q xs
every_map P Q f [] h = tt
every_map P Q f (x ∷ xs) h = (f x h.0, every_map P Q f xs h.1)

pub every_zip : {A : Type 0} (P Q R : A → Type 0) → ((x : A) → P x → Q x → R x) → (xs : List A) → Every P xs → Every Q xs → Every R xs
every_zip P Q R f [] h k = tt
every_zip P Q R f (x ∷ xs) h k = (f x h.0 k.0, every_zip P Q R f xs h.1 k.1)

read_map : (P Q : Read → Type 0) → ((r : Read) → P r → Q r) → (x : TraceEntry) → OfRead P x → OfRead Q x
read_map P Q f (reads r) h = f r h
read_map P Q f (given s) h = tt
read_map P Q f (enters s) h = tt
read_map P Q f (leaves s o) h = tt

-- of the reads that are asked
pub reads_map : (P Q : Read → Type 0) → ((r : Read) → P r → Q r) → (xs : List TraceEntry) → EveryRead P xs → EveryRead Q xs
reads_map P Q f xs h = every_map (OfRead P) (OfRead Q) (read_map P Q f) xs h

read_zip : (P Q R : Read → Type 0) → ((r : Read) → P r → Q r → R r) → (x : TraceEntry) → OfRead P x → OfRead Q x → OfRead R x
read_zip P Q R f (reads r) h k = f r h k
read_zip P Q R f (given s) h k = tt
read_zip P Q R f (enters s) h k = tt
read_zip P Q R f (leaves s o) h k = tt

pub reads_zip : (P Q R : Read → Type 0) → ((r : Read) → P r → Q r → R r) → (xs : List TraceEntry) → EveryRead P xs → EveryRead Q xs → EveryRead R xs
reads_zip P Q R f xs h k = every_zip (OfRead P) (OfRead Q) (OfRead R) (read_zip P Q R f) xs h k

-- ---- what is read stands in the text
module _ (a : Answers) (Q : Read → Type 0) where
  abbrev Asks : ℕ → ℕ → Evaluation → Type 0
  Asks l h e = EveryRead Q e.asked

  asks : IsOfParts a Q Asks
  asks = record {
    nothing = λ l h x i. tt;
    reading = λ l h r i q. (q, tt);
    joined = λ l m h e next i j p k. both_of (OfRead Q) e.asked next.asked p k;
    wider = λ l h k i e s t p. p;
    answered = λ n h x i q. (tt, tt);
    entered = λ n h e i q p. (tt, both_of (OfRead Q) e.asked (leaves n e.outcome ∷ []) p (tt, tt));
  }

  pub term_asks : (t : Tree) (n h : ℕ) → IsNumbered n t → Every Q (reads_in t) → n + site_count t ≤ h → (args : _) → EveryRead Q (evaluate t a args).asked
  term_asks = term_has a Q Asks asks

  pub node_asks : (i : Node) → IsNumberedNode i → Every Q (reads_in_node i) → EveryRead Q (evaluate_node (Some i) a).asked
  node_asks i d q = node_has a Q Asks asks (λ l h e p. p) (λ l h e p. p) i (node_sites i) d q (omega arith)

abbrev pub IsAnyRead : Read → Type 0
IsAnyRead r = ⊤

pub any_reads : (rs : List Read) → Every IsAnyRead rs
any_reads rs = every_all IsAnyRead (λ r. tt) rs

-- ---- what is read outside of sites is read
module _ (a : Answers) (P : Read → Type 0) where
  abbrev pub Covers : ℕ → ℕ → Evaluation → Type 0
  Covers l h e = EveryRead P e.asked → Every P e.outside

  pub covers : IsOfParts a IsAnyRead Covers
  covers = record {
    nothing = λ l h x i p. tt;
    reading = λ l h r i q p. (p.0, tt);
    joined = λ l m h e next i j p k q. both_of P e.outside next.outside (p (front (OfRead P) e.asked next.asked q)) (k (back (OfRead P) e.asked next.asked q));
    wider = λ l h k i e s t p. p;
    answered = λ n h x i q p. tt;
    entered = λ n h e i q p k. tt;
  }

  pub node_covers : (i : Node) → IsNumberedNode i → EveryRead P (evaluate_node (Some i) a).asked → Every P (evaluate_node (Some i) a).outside
  node_covers i d = node_has a IsAnyRead Covers covers (λ l h e p q. tt) (λ l h e p. p) i (node_sites i) d (any_reads (reads_in_node i)) (omega arith)

-- ---- and where each site is answered it is all that is read
abbrev pub IsGiven : Option Outcome → Type 0
IsGiven None = ⊥
IsGiven (Some o) = ⊤

pub not_given : (x : Option Outcome) → IsGiven x → x ≡ None → ⊥
not_given None g h = g
not_given (Some o) g h = cc

module _ (a : Answers) (all : (s : ℕ) → IsGiven (a.site s)) (P : Read → Type 0) where
  abbrev pub IsWhole : ℕ → ℕ → Evaluation → Type 0
  IsWhole l h e = Every P e.outside → EveryRead P e.asked

  pub is_whole : IsOfParts a IsAnyRead IsWhole
  is_whole = record {
    nothing = λ l h x i p. tt;
    reading = λ l h r i q p. (p.0, tt);
    joined = λ l m h e next i j p k q. both_of (OfRead P) e.asked next.asked (p (front P e.outside next.outside q)) (k (back P e.outside next.outside q));
    wider = λ l h k i e s t p. p;
    answered = λ n h x i q p. (tt, tt);
    entered = λ n h e i q p k. absurd (not_given (a.site n) (all n) q);
  }

-- ---- sites by their numbers

abbrev pub IsSiteIn : ℕ → ℕ → TraceEntry → Type 0
IsSiteIn l h (reads r) = ⊤
IsSiteIn l h (given s) = (l ≤ s) × (s < h)
IsSiteIn l h (enters s) = (l ≤ s) × (s < h)
IsSiteIn l h (leaves s o) = (l ≤ s) × (s < h)

pub in_wider : (l h k i : ℕ) → k ≤ l → h ≤ i → (x : TraceEntry) → IsSiteIn l h x → IsSiteIn k i x
in_wider l h k i s t (reads r) p = tt
in_wider l h k i s t (given n) p = let below = p.0 in let above = p.1 in (omega (s, below, arith), omega (t, above, arith))
in_wider l h k i s t (enters n) p = let below = p.0 in let above = p.1 in (omega (s, below, arith), omega (t, above, arith))
in_wider l h k i s t (leaves n o) p = let below = p.0 in let above = p.1 in (omega (s, below, arith), omega (t, above, arith))

module _ (a : Answers) where
  abbrev Between : ℕ → ℕ → Evaluation → Type 0
  Between l h e = Every (IsSiteIn l h) e.asked

  widened : (l h k i : ℕ) → k ≤ l → h ≤ i → (xs : List TraceEntry) → Every (IsSiteIn l h) xs → Every (IsSiteIn k i) xs
  widened l h k i s t xs p = every_map (IsSiteIn l h) (IsSiteIn k i) (in_wider l h k i s t) xs p

  between : IsOfParts a IsAnyRead Between
  between = record {
    nothing = λ l h x i. tt;
    reading = λ l h r i q. (tt, tt);
    joined = λ l m h e next i j p k. both_of (IsSiteIn l h) e.asked next.asked (widened l m l h (omega arith) j e.asked p) (widened m h l h i (omega arith) next.asked k);
    wider = λ l h k i e s t p. widened l h k i s t e.asked p;
    answered = λ n h x i q. ((omega arith, i), tt);
    entered = λ n h e i q p. ((omega arith, i), both_of (IsSiteIn n h) e.asked (leaves n e.outcome ∷ []) (widened (suc n) h n h (omega arith) (omega arith) e.asked p) ((omega arith, i), tt));
  }

  pub sites_between : (t : Tree) (n h : ℕ) → IsNumbered n t → n + site_count t ≤ h → (args : _) → Every (IsSiteIn n h) (evaluate t a args).asked
  sites_between t n h d i args = term_has a IsAnyRead Between between t n h d (any_reads (reads_in t)) i args

-- ---- each site that is met is found with its outcome, since it has a number of its own

pub recorded-append : (site : ℕ → Option Outcome) (xs ys : List TraceEntry) → recorded site (xs ++ ys) ≡ recorded site xs ++ recorded site ys
recorded-append site [] ys = refl
recorded-append site (reads r ∷ xs) ys = recorded-append site xs ys
recorded-append site (given s ∷ xs) ys = ap (λ l. (s, given_outcome (site s)) ∷ l) (recorded-append site xs ys)
recorded-append site (enters s ∷ xs) ys = recorded-append site xs ys
recorded-append site (leaves s o ∷ xs) ys = ap (λ l. (s, o) ∷ l) (recorded-append site xs ys)

abbrev pub IsIn : ℕ → ℕ → ℕ × Outcome → Type 0
IsIn l h e = (l ≤ e.0) × (e.0 < h)

abbrev pub IsFound : List (ℕ × Outcome) → ℕ × Outcome → Type 0
IsFound es e = site_outcome e.0 es ≡ Some e.1

pub record Met (l h : ℕ) (es : List (ℕ × Outcome)) : Type 0 where
  pub inside : Every (IsIn l h) es
  pub found : Every (IsFound es) es

pub eq_self : (n : ℕ) → (n == n) ≡ true
eq_self n = elim (eqb_tells n n) [ inl p ↦ p.0 | inr p ↦ absurd (p.1 refl) ]

pub eq_apart : (m n : ℕ) → m ≢ n → (m == n) ≡ false
eq_apart m n h = elim (eqb_tells m n) [ inl p ↦ absurd (h p.1) | inr p ↦ p.0 ]

pub if_true : {A : Type 0} (b : Bool) (x y : A) → b ≡ true → (if b then x else y) ≡ x
if_true true x y h = refl
if_true false x y h = cc

pub if_false : {A : Type 0} (b : Bool) (x y : A) → b ≡ false → (if b then x else y) ≡ y
if_false true x y h = cc
if_false false x y h = refl

-- behind entries of smaller or of greater numbers
found_behind : (l h : ℕ) (s : ℕ) → ((n : ℕ) → l ≤ n → n < h → (n == s) ≡ false) → (es fs : List (ℕ × Outcome)) → Every (IsIn l h) es → site_outcome s (es ++ fs) ≡ site_outcome s fs
found_behind l h s d [] fs p = refl
found_behind l h s d (e ∷ es) fs p = if_false (e.0 == s) (Some e.1) (site_outcome s (es ++ fs)) (d e.0 p.0.0 p.0.1) ∙ found_behind l h s d es fs p.1

found_before : (s : ℕ) (x : Outcome) (es fs : List (ℕ × Outcome)) → site_outcome s es ≡ Some x → site_outcome s (es ++ fs) ≡ Some x
found_before s x [] fs h = cc
found_before s x (e ∷ es) fs h = at (e.0 == s) (found_before s x es fs) h
  where
    at : (b : Bool) → (site_outcome s es ≡ Some x → site_outcome s (es ++ fs) ≡ Some x) → (if b then Some e.1 else site_outcome s es) ≡ Some x → (if b then Some e.1 else site_outcome s (es ++ fs)) ≡ Some x
    at true k q = q
    at false k q = k q

pub met_join : (l m h : ℕ) (es fs : List (ℕ × Outcome)) → l ≤ m → m ≤ h → Met l m es → Met m h fs → Met l h (es ++ fs)
met_join l m h es fs i j p q = record {
  inside = both_of (IsIn l h) es fs (every_map (IsIn l m) (IsIn l h) (λ e w. let below = w.0 in let above = w.1 in (below, omega (above, j, arith))) es p.inside)
      (every_map (IsIn m h) (IsIn l h) (λ e w. let below = w.0 in let above = w.1 in (omega (below, i, arith), above)) fs q.inside);
  found = both_of (IsFound (es ++ fs)) es fs (every_map (IsFound es) (IsFound (es ++ fs)) (λ e w. found_before e.0 e.1 es fs w) es p.found)
      (every_zip (IsIn m h) (IsFound fs) (IsFound (es ++ fs)) (λ e w u. found_behind l m e.0 (λ n a b. eq_apart n e.0 (λ eq. let low = w.0 in omega (b, low, eq, arith))) es fs p.inside ∙ u) fs q.inside q.found);
}

-- a site whose number is smaller than those inside it is left last
pub met_last : (n h : ℕ) (es : List (ℕ × Outcome)) (x : Outcome) → n < h → Met (suc n) h es → Met n h (es ++ (n, x) ∷ [])
met_last n h es x i p = record {
  inside = both_of (IsIn n h) es ((n, x) ∷ []) (every_map (IsIn (suc n) h) (IsIn n h) (λ e w. let below = w.0 in let above = w.1 in (omega (below, arith), above)) es p.inside) ((omega arith, i), tt);
  found = both_of (IsFound (es ++ (n, x) ∷ [])) es ((n, x) ∷ []) (every_map (IsFound es) (IsFound (es ++ (n, x) ∷ [])) (λ e w. found_before e.0 e.1 es ((n, x) ∷ []) w) es p.found)
      (found_behind (suc n) h n (λ k a b. eq_apart k n (λ eq. omega (a, eq, arith))) es ((n, x) ∷ []) p.inside ∙ if_true (n == n) (Some x) None (eq_self n), tt);
}

module _ (a : Answers) where
  abbrev Meets : ℕ → ℕ → Evaluation → Type 0
  Meets l h e = Met l h (recorded a.site e.asked)

  met_wider : (l h k i : ℕ) (es : List (ℕ × Outcome)) → k ≤ l → h ≤ i → Met l h es → Met k i es
  met_wider l h k i es s t p = record { inside = every_map (IsIn l h) (IsIn k i) (λ e w. let below = w.0 in let above = w.1 in (omega (below, s, arith), omega (above, t, arith))) es p.inside; found = p.found }

  meets : IsOfParts a IsAnyRead Meets
  meets = record {
    nothing = λ l h x i. record { inside = tt; found = tt };
    reading = λ l h r i q. record { inside = tt; found = tt };
    joined = λ l m h e next i j p k. subst (Met l h) (sym (recorded-append a.site e.asked next.asked)) (met_join l m h (recorded a.site e.asked) (recorded a.site next.asked) i j p k);
    wider = λ l h k i e s t p. met_wider l h k i (recorded a.site e.asked) s t p;
    answered = λ n h x i q. record { inside = ((omega arith, i), tt); found = (if_true (n == n) (Some (given_outcome (a.site n))) None (eq_self n), tt) };
    entered = λ n h e i q p. subst (Met n h) (sym (recorded-append a.site e.asked (leaves n e.outcome ∷ []))) (met_last n h (recorded a.site e.asked) e.outcome i p);
  }

  pub node_meets : (i : Node) → IsNumberedNode i → Met 0 (node_sites i) (recorded a.site (evaluate_node (Some i) a).asked)
  node_meets i d = node_has a IsAnyRead Meets meets (λ l h e p. p) (λ l h e p. p) i (node_sites i) d (any_reads (reads_in_node i)) (omega arith)
