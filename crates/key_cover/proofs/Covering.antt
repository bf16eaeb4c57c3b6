-- Nothing is met exactly where the keys cover the body.
use Rattle.std.proofs.Common.{◌≡◌, ◌≢◌, ◌↔◌, inl, inr, ◌<◌, ◌≤◌, ℕ, zero, suc, ◌+◌, Bool, true, false, List, [], ◌∷◌, ◌++◌, length, Option, Some, None, refl, sym, ap, ◌∙◌, subst, arith, append_assoc}
use Rattle.std.specs.Prelude.{◌==◌, ◌&&◌, ◌||◌, slice_get, unwrap_or, if◌then◌else◌}
use Rattle.std.proofs.lemmas.Bool.Decides.{eqb_tells}
use Rattle.app_tree.specs.declared.term.Read.{Read}
use Rattle.app_tree.specs.declared.term.Read.TheVariants as read
use Rattle.app_tree.specs.Tree.{Tree, constant, group, get, variable, isolate, stop, require, fold, unary, binary, choice, call, Trees, no_trees, tree, Node, input, value, task, reactive, event, text, plot, observe, on, Shape}
use Rattle.app_tree.specs.Numbering.{readers, reader}
use Rattle.app_tree.specs.Evaluate.{site_count, site_count_all}
use Rattle.app_tree.specs.Cover.{reads_in, reads_in_all, is_key, is_covered_read, are_covered, is_covered_term, are_covered_terms, is_covered_node, covered_below, Cached, cached_node, is_covered_by, is_covered}
use Rattle.key_cover.specs.declared.coverage.Coverage.{Coverage}
use Rattle.key_cover.specs.declared.coverage.Coverage.TheVariants.{Covered, Missing, Isolated}
use Rattle.key_cover.specs.Met.{first_of, met_behind, met_in_read, met_in, met_in_all, met_in_node, met_below, met_by, first_met}
use Rattle.key_cover.specs.MetLaws.{CoveredWhereNothingIsMet}

-- ---- nothing is met

abbrev is_nothing : Coverage → Bool
is_nothing Covered = true
is_nothing (Missing r) = false
is_nothing (Isolated site) = false

covered_is_nothing : (met : Coverage) → met ≡ Covered → is_nothing met ≡ true
covered_is_nothing met h = ap is_nothing h

nothing_is_covered : (met : Coverage) → is_nothing met ≡ true → met ≡ Covered
nothing_is_covered Covered h = refl
nothing_is_covered (Missing r) h = cc
nothing_is_covered (Isolated site) h = cc

nothing_first : (a b : Coverage) → is_nothing (first_of a b) ≡ (is_nothing a && is_nothing b)
nothing_first Covered b = refl
nothing_first (Missing r) b = refl
nothing_first (Isolated site) b = refl

-- ---- tests

and_true : (b : Bool) → (b && true) ≡ b
and_true true = refl
and_true false = refl

and_false : (b : Bool) → (b && false) ≡ false
and_false true = refl
and_false false = refl

and_assoc : (a b c : Bool) → (a && (b && c)) ≡ ((a && b) && c)
and_assoc true b c = refl
and_assoc false b c = refl

by_pairs : (a b c d : Bool) → ((a && b) && (c && d)) ≡ ((a && c) && (b && d))
by_pairs true true c d = refl
by_pairs true false c d = sym (and_false c)
by_pairs false b c d = refl

no_successor : (n : ℕ) → (suc n == 0) ≡ false
no_successor n = elim (eqb_tells (suc n) 0) [ inl p ↦ let same = p.1 in absurd (omega (same, arith)) | inr p ↦ p.0 ]

none_of_both : (m n : ℕ) → (m + n == 0) ≡ ((m == 0) && (n == 0))
none_of_both m n = elim (eqb_tells m 0) [
  | inl p ↦ let is = p.1 in
      let here : (m + n == 0) ≡ (n == 0) = ap (λ k. k == 0) (omega (is, arith)) in
      here ∙ ap (λ b. b && (n == 0)) (sym p.0)
  | inr p ↦ let other = p.1 in
      let here : (m + n == 0) ≡ false = elim (eqb_tells (m + n) 0) [ inl q ↦ let is = q.1 in absurd (other (omega (is, arith))) | inr q ↦ q.0 ] in
      here ∙ ap (λ b. b && (n == 0)) (sym p.0)
]

-- ---- terms, where it is known of each reader whether nothing is met in its place

module _ (keys : Trees) (covered : ℕ → Bool) (before : List Coverage) (agree : (m : ℕ) → is_nothing (met_behind before (read.Expr m)) ≡ covered m) where
  by_key : (b c : Bool) (met : Coverage) → is_nothing met ≡ c → is_nothing (if b then Covered else met) ≡ (b || c)
  by_key true c met h = refl
  by_key false c met h = h

  key_alone : (b : Bool) (r : Read) → is_nothing (if b then Covered else Missing r) ≡ b
  key_alone true r = refl
  key_alone false r = refl

  read_met : (r : Read) → is_nothing (met_in_read keys before r) ≡ is_covered_read keys covered r
  read_met (read.Expr m) = by_key (is_key keys (read.Expr m)) (covered m) (met_behind before (read.Expr m)) (agree m)
  read_met (read.Input s) = key_alone (is_key keys (read.Input s)) (read.Input s)
  read_met (read.Value s) = key_alone (is_key keys (read.Value s)) (read.Value s)
  read_met (read.Status s) = key_alone (is_key keys (read.Status s)) (read.Status s)
  read_met (read.Result s) = key_alone (is_key keys (read.Result s)) (read.Result s)
  read_met (read.Width s) = key_alone (is_key keys (read.Width s)) (read.Width s)
  read_met (read.Height s) = key_alone (is_key keys (read.Height s)) (read.Height s)

  covered_of_both : (rs qs : List Read) → are_covered keys covered (rs ++ qs) ≡ (are_covered keys covered rs && are_covered keys covered qs)
  covered_of_both [] qs = refl
  covered_of_both (r ∷ rs) qs =
      ap (λ b. is_covered_read keys covered r && b) (covered_of_both rs qs)
      ∙ and_assoc (is_covered_read keys covered r) (are_covered keys covered rs) (are_covered keys covered qs)

  -- so many sites, and these reads
  abbrev Bare : ℕ → List Read → Bool
  Bare sites rs = (sites == 0) && are_covered keys covered rs

  bare_both : (m n : ℕ) (rs qs : List Read) (a b : Coverage) → is_nothing a ≡ Bare m rs → is_nothing b ≡ Bare n qs → is_nothing (first_of a b) ≡ Bare (m + n) (rs ++ qs)
  bare_both m n rs qs a b h k =
      nothing_first a b ∙ ap (λ x. x && is_nothing b) h ∙ ap (λ x. Bare m rs && x) k
      ∙ by_pairs (m == 0) (are_covered keys covered rs) (n == 0) (are_covered keys covered qs)
      ∙ ap (λ x. x && (are_covered keys covered rs && are_covered keys covered qs)) (sym (none_of_both m n))
      ∙ ap (λ x. (m + n == 0) && x) (sym (covered_of_both rs qs))

  bare_three : (m n k : ℕ) (rs qs ps : List Read) (a b c : Coverage) → is_nothing a ≡ Bare m rs → is_nothing b ≡ Bare n qs → is_nothing c ≡ Bare k ps
      → is_nothing (first_of a (first_of b c)) ≡ Bare (m + n + k) (rs ++ qs ++ ps)
  bare_three m n k rs qs ps a b c x y z =
      let sums : m + (n + k) ≡ m + n + k = omega arith in
      bare_both m (n + k) rs (qs ++ ps) a (first_of b c) x (bare_both n k qs ps b c y z) ∙ ap (λ j. Bare j (rs ++ (qs ++ ps))) sums ∙ ap (Bare (m + n + k)) (sym (append_assoc rs qs ps))

  mutual
    term_met : (t : Tree) → is_nothing (met_in keys before t) ≡ is_covered_term keys covered t
    term_met (constant x) = refl
    term_met (group t) = term_met t
    term_met (get r) = read_met r ∙ sym (and_true (is_covered_read keys covered r))
    term_met (variable n) = refl
    term_met (isolate site t) = ap (λ b. b && are_covered keys covered (reads_in t)) (sym (no_successor (site_count t)))
    term_met (stop t) = term_met t
    term_met (require t cancels) = term_met t
    term_met (fold list start accumulator element body) =
        bare_three (site_count list) (site_count start) (site_count body) (reads_in list) (reads_in start) (reads_in body)
        (met_in keys before list) (met_in keys before start) (met_in keys before body) (term_met list) (term_met start) (term_met body)
    term_met (unary op t) = term_met t
    term_met (binary op a b) =
        bare_both (site_count a) (site_count b) (reads_in a) (reads_in b) (met_in keys before a) (met_in keys before b) (term_met a) (term_met b)
    term_met (choice condition a b) =
        bare_three (site_count condition) (site_count a) (site_count b) (reads_in condition) (reads_in a) (reads_in b)
        (met_in keys before condition) (met_in keys before a) (met_in keys before b) (term_met condition) (term_met a) (term_met b)
    term_met (call f ts) = terms_met ts

    terms_met : (ts : Trees) → is_nothing (met_in_all keys before ts) ≡ are_covered_terms keys covered ts
    terms_met no_trees = refl
    terms_met (tree t more) =
        bare_both (site_count t) (site_count_all more) (reads_in t) (reads_in_all more) (met_in keys before t) (met_in_all keys before more) (term_met t) (terms_met more)

  node_met : (n : ℕ) (i : Option Node) → is_nothing (met_in_node keys before n i) ≡ is_covered_node keys covered i
  node_met n (Some (reactive name its_keys body)) =
      nothing_first (met_in_all keys before its_keys) (met_in keys before body)
      ∙ ap (λ b. b && is_nothing (met_in keys before body)) (terms_met its_keys)
      ∙ ap (λ b. are_covered_terms keys covered its_keys && b) (term_met body)
  node_met n (Some (event name flags e body)) = nothing_first (met_in keys before e) (Isolated (site_count e)) ∙ and_false (is_nothing (met_in keys before e))
  node_met n (Some (input name start)) = refl
  node_met n (Some (value name start)) = refl
  node_met n (Some (task name parameters body)) = refl
  node_met n (Some (text name shown)) = refl
  node_met n (Some (plot name shown)) = refl
  node_met n (Some (observe name priority block)) = refl
  node_met n (Some (on name priority flags e block)) = refl
  node_met n None = refl

-- ---- lists by number

length-more : {A : Type 0} (xs : List A) (x : A) → length (xs ++ x ∷ []) ≡ suc (length xs)
length-more [] x = refl
length-more (y ∷ xs) x = ap suc (length-more xs x)

get-last : {A : Type 0} (xs : List A) (x : A) → slice_get (xs ++ x ∷ []) (length xs) ≡ Some x
get-last [] x = refl
get-last (y ∷ xs) x = get-last xs x

get-other : {A : Type 0} (xs : List A) (x : A) (n : ℕ) → n ≢ length xs → slice_get (xs ++ x ∷ []) n ≡ slice_get xs n
get-other [] x zero other = absurd (other refl)
get-other [] x (suc n) other = refl
get-other (y ∷ xs) x zero other = refl
get-other (y ∷ xs) x (suc n) other = get-other xs x n (λ same. other (ap suc same))

-- ---- the readers below a number

module _ (app : Shape) (keys : Trees) where
  abbrev entry : ℕ → Coverage
  entry n = met_in_node keys (met_below app keys n) n (reader app n)

  below_size : (n : ℕ) → length (met_below app keys n) ≡ n
  below_size zero = refl
  below_size (suc n) = length-more (met_below app keys n) (entry n) ∙ ap suc (below_size n)

  abbrev behind : ℕ → ℕ → Coverage
  behind n m = met_behind (met_below app keys n) (read.Expr m)

  behind_last : (n : ℕ) → behind (suc n) n ≡ entry n
  behind_last n =
      ap (λ o. unwrap_or o (Missing (read.Expr n)))
      (subst (λ k. slice_get (met_below app keys (suc n)) k ≡ Some (entry n)) (below_size n) (get-last (met_below app keys n) (entry n)))

  behind_other : (n m : ℕ) → m ≢ n → behind (suc n) m ≡ behind n m
  behind_other n m other =
      ap (λ o. unwrap_or o (Missing (read.Expr m))) (get-other (met_below app keys n) (entry n) m (λ same. other (same ∙ below_size n)))

  below_met : (n m : ℕ) → is_nothing (behind n m) ≡ covered_below app keys n m
  below_met zero m = refl
  below_met (suc n) m = elim (eqb_tells m n) [
    | inl p ↦
        ap (λ k. is_nothing (behind (suc n) k)) p.1 ∙ ap is_nothing (behind_last n)
        ∙ node_met keys (covered_below app keys n) (met_below app keys n) (below_met n) n (reader app n)
        ∙ ap (λ b. if b then is_covered_node keys (covered_below app keys n) (reader app n) else covered_below app keys n m) (sym p.0)
    | inr p ↦
        ap is_nothing (behind_other n m p.1) ∙ below_met n m
        ∙ ap (λ b. if b then is_covered_node keys (covered_below app keys n) (reader app n) else covered_below app keys n m) (sym p.0)
  ]

  -- what is met in the place of an expression doesn't depend on what stands behind it
  pub behind_is : (n m : ℕ) → m < n → behind n m ≡ entry m
  behind_is zero m h = absurd (omega (h, arith))
  behind_is (suc n) m h = elim (eqb_tells m n) [
    | inl p ↦ ap (behind (suc n)) p.1 ∙ behind_last n ∙ ap entry (sym p.1)
    | inr p ↦ let other = p.1 in behind_other n m other ∙ behind_is n m (omega (h, other, arith))
  ]

  -- and an expression that doesn't stand before is missing
  pub behind_none : (n m : ℕ) → n ≤ m → behind n m ≡ Missing (read.Expr m)
  behind_none zero m h = refl
  behind_none (suc n) m h = behind_other n m (λ same. absurd (omega (h, same, arith))) ∙ behind_none n m (omega (h, arith))

  -- ---- what the code answers for a read

  unless_key : (b : Bool) (met : Coverage) → b ≡ false → met ≡ (if b then Covered else met)
  unless_key true met h = cc
  unless_key false met h = refl

  pub walked_read : (n m : ℕ) (r : Read) (met : Coverage) → r ≡ read.Expr m → is_key keys r ≡ false → m < n → met ≡ entry m → met ≡ met_in_read keys (met_below app keys n) r
  walked_read n m r met is key h same =
      subst (λ q. is_key keys q ≡ false → met ≡ met_in_read keys (met_below app keys n) q) (sym is)
      (λ k. same ∙ sym (behind_is n m h) ∙ unless_key (is_key keys (read.Expr m)) (behind n m) k) key

  pub missing_read : (n m : ℕ) (r : Read) → r ≡ read.Expr m → is_key keys r ≡ false → n ≤ m → Missing (read.Expr m) ≡ met_in_read keys (met_below app keys n) r
  missing_read n m r is key h =
      subst (λ q. is_key keys q ≡ false → Missing (read.Expr m) ≡ met_in_read keys (met_below app keys n) q) (sym is)
      (λ k. sym (behind_none n m h) ∙ unless_key (is_key keys (read.Expr m)) (behind n m) k) key

-- ---- cached readers

by_met : (app : Shape) (c : Option Cached) → is_nothing (met_by app c) ≡ is_covered_by app c
by_met app None = refl
by_met app (Some c) =
    term_met c.keys (covered_below app c.keys (length (readers app))) (met_below app c.keys (length (readers app)))
    (below_met app c.keys (length (readers app))) c.body

pub covered_where_nothing_is_met : CoveredWhereNothingIsMet
covered_where_nothing_is_met app n = (
  λ h. sym (by_met app (cached_node (reader app n))) ∙ covered_is_nothing (first_met app n) h,
  λ h. nothing_is_covered (first_met app n) (by_met app (cached_node (reader app n)) ∙ h),
)

pub covered_where_none : (app : Shape) (n : ℕ) (met : Coverage) → met ≡ first_met app n → (met ≡ Covered) ↔ (is_covered app n ≡ true)
covered_where_none app n met h = (
  λ k. (covered_where_nothing_is_met app n).0 (sym h ∙ k),
  λ k. h ∙ (covered_where_nothing_is_met app n).1 k,
)

-- where nothing is met in a text, no site stands in it
pub no_site : (keys : Trees) (before : List Coverage) (t : Tree) → met_in keys before t ≡ Covered → site_count t ≡ 0
no_site keys before t h =
    let bare = sym (term_met keys (λ m. is_nothing (met_behind before (read.Expr m))) before (λ m. refl) t) ∙ covered_is_nothing (met_in keys before t) h in
    by (site_count t) (are_covered keys (λ m. is_nothing (met_behind before (read.Expr m))) (reads_in t)) bare
  where
    by : (n : ℕ) (b : Bool) → ((n == 0) && b) ≡ true → n ≡ 0
    by n b h = elim (eqb_tells n 0) [ inl p ↦ p.1 | inr p ↦ let none = ap (λ x. x && b) (sym p.0) ∙ h in cc ]

pub site_met : (keys : Trees) (before : List Coverage) (t : Tree) → Covered ≡ met_in keys before t → Isolated 0 ≡ first_of (met_in keys before t) (Isolated (site_count t))
site_met keys before t h = ap Isolated (sym (no_site keys before t (sym h))) ∙ ap (λ met. first_of met (Isolated (site_count t))) h
