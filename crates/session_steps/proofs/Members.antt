-- Lists of sources with the same members.
use Rattle.std.proofs.Common.{◌≡◌, ℕ, Bool, true, false, List, [], ◌∷◌, ◌++◌, refl, sym, ap, ◌∙◌, subst}
use Rattle.std.specs.Prelude.{◌==◌, ◌||◌, if◌then◌else◌}
use Rattle.app_tree.specs.declared.term.Read.{Read}
use Rattle.app_tree.specs.Tree.{Shape}
use Rattle.app_tree.specs.Trace.{Every}
use Rattle.app_tree.specs.Fresh.{Known, is_among, union, sources_of_read, sources_of_reads}
use Rattle.session_model.specs.Standing.{HasSameMembers}
use Rattle.app_laws.proofs.Covering.{eq_means}

or-false : (b : Bool) → (b || false) ≡ b
or-false true = refl
or-false false = refl

or-assoc : (a b c : Bool) → ((a || b) || c) ≡ (a || (b || c))
or-assoc true b c = refl
or-assoc false b c = refl

or-true : (b : Bool) → (b || true) ≡ true
or-true true = refl
or-true false = refl

is_among-more : (s : ℕ) (xs : List ℕ) (x : ℕ) → is_among s (xs ++ x ∷ []) ≡ (is_among s xs || (x == s))
is_among-more s [] x = or-false (x == s)
is_among-more s (y ∷ xs) x = ap (λ b. (y == s) || b) (is_among-more s xs x) ∙ sym (or-assoc (y == s) (is_among s xs) (x == s))

-- one that is there already adds nothing
one_added : (s y : ℕ) (xs : List ℕ) (b : Bool) → is_among y xs ≡ b → is_among s (if b then xs else xs ++ y ∷ []) ≡ (is_among s xs || (y == s))
one_added s y xs false h = is_among-more s xs y
one_added s y xs true h = by (y == s) refl
  where
    by : (c : Bool) → (y == s) ≡ c → is_among s xs ≡ (is_among s xs || c)
    by false q = sym (or-false (is_among s xs))
    by true q = subst (λ z. is_among z xs ≡ true) (eq_means y s q) h ∙ sym (or-true (is_among s xs))

is_among-union : (s : ℕ) (xs ys : List ℕ) → is_among s (union xs ys) ≡ (is_among s xs || is_among s ys)
is_among-union s xs [] = sym (or-false (is_among s xs))
is_among-union s xs (y ∷ ys) =
    is_among-union s (if is_among y xs then xs else xs ++ y ∷ []) ys
    ∙ ap (λ b. b || is_among s ys) (one_added s y xs (is_among y xs) refl)
    ∙ or-assoc (is_among s xs) (y == s) (is_among s ys)

pub union_same : (xs ys others more : List ℕ) → HasSameMembers xs others → HasSameMembers ys more → HasSameMembers (union xs ys) (union others more)
union_same xs ys others more p q s = is_among-union s xs ys ∙ (λ j. p s j || q s j) ∙ sym (is_among-union s others more)

-- reads of which each reaches the same
pub reads_same : (app : Shape) (known known' : List Known) (rs : List Read) → Every (λ r. HasSameMembers (sources_of_read app known r) (sources_of_read app known' r)) rs → (xs others : List ℕ) → HasSameMembers xs others
    → HasSameMembers (sources_of_reads app known xs rs) (sources_of_reads app known' others rs)
reads_same app known known' [] h xs others p = p
reads_same app known known' (r ∷ rs) h xs others p =
    reads_same app known known' rs h.1 (union xs (sources_of_read app known r)) (union others (sources_of_read app known' r)) (union_same xs (sources_of_read app known r) others (sources_of_read app known' r) p h.0)
