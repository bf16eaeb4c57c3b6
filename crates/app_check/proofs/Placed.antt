-- The places of variables by name, and the parameters of the name of an earlier one.
use Rattle.std.proofs.Common.{◌≡◌, ℕ, suc, ◌+◌, ◌<◌, ◌≤◌, Bool, true, false, not, cond, Bor, List, [], ◌∷◌, ◌++◌, length, get_or, take, drop, map, Option, Some, None, is_some, refl, sym, subst, ◌∙◌, ap, add-one, add-zero, append_assoc, arith, bytes_eq}
use Rattle.std.proofs.lemmas.List.{take_more, take_all, take-take, take-map, take-append-le, take-append-drop, length-take, length-map, map-append}
use Rattle.std.specs.Prelude.{is_none, nat_le}
use Rattle.std.proofs.lemmas.Bool.Decides.{nat_tests}
use Rattle.app_tree.specs.declared.draft_term.Name.{Name}
use Rattle.app_tree.specs.declared.refusal.Refusal.{Refusal}
use Rattle.app_tree.specs.declared.refusal.Fault.TheVariants as fault
use Rattle.app_tree.specs.Resolve.{text_of_name, innermost_from, innermost}
use Rattle.app_tree.specs.Faults.{is_named_among, name_refused, where_fails, repeated_names}
use Rattle.app_check.specs.inner.Bound.{StandFirst, kept_parameters}
use Rattle.app_check.proofs.First.{unbound}
use Rattle.app_check.proofs.Walked.{left_at}

-- ---- one more variable

innermost_from-push : (n : ℕ) (best : Option ℕ) (name : List ℕ) (xs : List (List ℕ)) (x : List ℕ) → innermost_from n best name (xs ++ x ∷ []) ≡ cond (bytes_eq name x) (Some (n + length xs)) (innermost_from n best name xs)
innermost_from-push n best name [] x = ap (λ k. cond (bytes_eq name x) (Some k) best) (sym (add-zero n))
innermost_from-push n best name (y ∷ xs) x =
    let next : Option ℕ = cond (bytes_eq name y) (Some n) best in
    let same : suc n + length xs ≡ n + suc (length xs) = omega arith in
    innermost_from-push (suc n) next name xs x ∙ ap (λ k. cond (bytes_eq name x) (Some k) (innermost_from (suc n) next name xs)) same

pub innermost-push : (name : List ℕ) (xs : List (List ℕ)) (x : List ℕ) (i : ℕ) → length xs ≡ i → innermost name (xs ++ x ∷ []) ≡ cond (bytes_eq name x) (Some i) (innermost name xs)
innermost-push name xs x i count =
    let same : 0 + length xs ≡ i = omega (arith, count) in
    innermost_from-push 0 None name xs x ∙ ap (λ k. cond (bytes_eq name x) (Some k) (innermost name xs)) same

-- the first of a list and the next one, each seen by f
pub one_behind : {A B : Type 0} (f : A → B) (xs : List A) (i : ℕ) (x : A) → i < length xs → x ≡ get_or xs i x → map f (take (i + 1) xs) ≡ map f (take i xs) ++ f x ∷ []
one_behind f xs i x within is =
    ap (map f) (take_more xs i x within) ∙ map-append f (take i xs) (get_or xs i x ∷ []) ∙ ap (λ y. map f (take i xs) ++ f y ∷ []) (sym is)

pub count_seen : {A B : Type 0} (f : A → B) (xs : List A) (i : ℕ) → i ≤ length xs → length (map f (take i xs)) ≡ i
count_seen f xs i within = omega (arith, length-map (take i xs) f, length-take i xs)

pub next_place : {A : Type 0} (text : A → List ℕ) (xs : List A) (i : ℕ) (x : A) (name : List ℕ) (old new : Option ℕ) → i < length xs → x ≡ get_or xs i x
    → old ≡ innermost name (map text (take i xs)) → new ≡ cond (bytes_eq name (text x)) (Some i) old → new ≡ innermost name (map text (take (i + 1) xs))
next_place text xs i x name old new within is old_is new_is =
    let small : i ≤ length xs = omega arith in
    new_is ∙ ap (λ o. cond (bytes_eq name (text x)) (Some i) o) old_is
    ∙ sym (innermost-push name (map text (take i xs)) (text x) i (count_seen text xs i small))
    ∙ ap (innermost name) (sym (one_behind text xs i x within is))

-- ---- names of earlier ones

found_or_not : (o : Option ℕ) (b : Bool) → is_none o ≡ not b → is_some o ≡ b
found_or_not None true e = cc
found_or_not None false e = refl
found_or_not (Some n) true e = refl
found_or_not (Some n) false e = cc

pub is_bound : (name : List ℕ) (scope : List (List ℕ)) → is_some (innermost name scope) ≡ is_named_among name scope
is_bound name scope = found_or_not (innermost name scope) (is_named_among name scope) (unbound name scope)

pub repeated_step : (names : List Name) (i : ℕ) (name : Name) (old new : List Refusal) (had : Bool) (place : Option ℕ) (total : List Refusal) → i < length names → name ≡ get_or names i name
    → place ≡ innermost name.text (map text_of_name (take i names)) → had ≡ is_some place → new ≡ old ++ where_fails had (name_refused fault.NameTwice name)
    → old ++ repeated_names (map text_of_name (take i names)) (drop i names) ≡ total
    → new ++ repeated_names (map text_of_name (take (i + 1) names)) (drop (i + 1) names) ≡ total
repeated_step names i name old new had place total within is place_is had_is new_is invariant =
    let before = map text_of_name (take i names) in
    let rest = drop (i + 1) names in
    let refusal = name_refused fault.NameTwice name in
    let among : had ≡ is_named_among name.text before = had_is ∙ ap is_some place_is ∙ is_bound name.text before in
    ap (λ rs. rs ++ repeated_names (map text_of_name (take (i + 1) names)) rest) new_is
    ∙ append_assoc old (where_fails had refusal) (repeated_names (map text_of_name (take (i + 1) names)) rest)
    ∙ ap (λ b. old ++ (where_fails b refusal ++ repeated_names (map text_of_name (take (i + 1) names)) rest)) among
    ∙ ap (λ seen. old ++ (where_fails (is_named_among name.text before) refusal ++ repeated_names seen rest)) (one_behind text_of_name names i name within is)
    ∙ ap (λ left. old ++ repeated_names before left) (sym (left_at names i name within is))
    ∙ invariant

-- ---- what is known of the first variables

innermost_from-append : (n : ℕ) (best : Option ℕ) (name : List ℕ) (xs ys : List (List ℕ)) → innermost_from n best name (xs ++ ys) ≡ innermost_from (n + length xs) (innermost_from n best name xs) name ys
innermost_from-append n best name [] ys = ap (λ k. innermost_from k best name ys) (sym (add-zero n))
innermost_from-append n best name (x ∷ xs) ys =
    let next : Option ℕ = cond (bytes_eq name x) (Some n) best in
    let same : suc n + length xs ≡ n + suc (length xs) = omega arith in
    innermost_from-append (suc n) next name xs ys ∙ ap (λ k. innermost_from k (innermost_from (suc n) next name xs) name ys) same

pub innermost-split : {A : Type 0} (f : A → List ℕ) (xs : List A) (n : ℕ) (name : List ℕ) (best : Option ℕ) → n ≤ length xs → best ≡ innermost name (take n (map f xs))
    → innermost_from n best name (map f (drop n xs)) ≡ innermost name (map f xs)
innermost-split f xs n name best within is =
    let same : n ≡ 0 + length (map f (take n xs)) = omega (arith, count_seen f xs n within) in
    ap (λ b. innermost_from n b name (map f (drop n xs))) (is ∙ ap (innermost name) (take-map f n xs))
    ∙ ap (λ k. innermost_from k (innermost name (map f (take n xs))) name (map f (drop n xs))) same
    ∙ sym (innermost_from-append 0 None name (map f (take n xs)) (map f (drop n xs)))
    ∙ ap (innermost name) (sym (map-append f (take n xs) (drop n xs)) ∙ ap (map f) (take-append-drop n xs))

pub innermost_step : {A : Type 0} (f : A → List ℕ) (xs : List A) (i : ℕ) (x : A) (name : List ℕ) (same : Bool) (old new total : Option ℕ) → i < length xs → x ≡ get_or xs i x
    → same ≡ bytes_eq name (f x) → new ≡ cond same (Some i) old → innermost_from i old name (map f (drop i xs)) ≡ total
    → innermost_from (i + 1) new name (map f (drop (i + 1) xs)) ≡ total
innermost_step f xs i x name same old new total within is same_is new_is invariant =
    rw add-one
    (ap (λ o. innermost_from (suc i) o name (map f (drop (suc i) xs))) (new_is ∙ ap (λ b. cond b (Some i) old) same_is)
    ∙ ap (λ left. innermost_from i old name (map f left)) (sym (rw add-one at (left_at xs i x within is)))
    ∙ invariant)

small_from : (m n : ℕ) → true ≡ nat_le m n → m ≤ n
small_from m n e = grind (arith, nat_tests)

-- ---- parameters as the first of the variables

pub stand_within : (names : List Name) (vs : List (List ℕ)) → StandFirst (Some names) vs → length names ≤ length vs
stand_within names vs e = omega (arith, length-map names text_of_name, length-take (length names) vs, ap length e)

pub stand_more : (p : Option (List Name)) (vs : List (List ℕ)) (x : List ℕ) → StandFirst p vs → StandFirst p (vs ++ x ∷ [])
stand_more None vs x e = refl
stand_more (Some names) vs x e = e ∙ sym (take-append-le (length names) vs (x ∷ []) (stand_within names vs e))

pub stand_fewer : (p : Option (List Name)) (vs : List (List ℕ)) (n : ℕ) → StandFirst p vs → StandFirst (kept_parameters n p) (take n vs)
stand_fewer None vs n e = refl
stand_fewer (Some names) vs n e = decide (nat_le (length names) n) refl
  where
    decide : (b : Bool) → b ≡ nat_le (length names) n → StandFirst (cond b (Some names) None) (take n vs)
    decide true is = e ∙ sym (take-take (length names) n vs (small_from (length names) n is))
    decide false is = refl

pub stand_all : (names : List Name) (vs : List (List ℕ)) → vs ≡ map text_of_name names → StandFirst (Some names) vs
stand_all names vs is =
    let small : length vs ≤ length names = omega (arith, length-map names text_of_name, ap length is) in
    sym is ∙ sym (take_all (length names) vs small)

pub stand_kept : (p : Option (List Name)) (old new : List (Bor (List ℕ))) → new ≡ old → StandFirst p (map (λ v. v.now) old) → StandFirst p (map (λ v. v.now) new)
stand_kept p old new same e = subst (λ (vs : List (Bor (List ℕ))). StandFirst p (map (λ v. v.now) vs)) (sym same) e

pub stand_pushed : (p : Option (List Name)) (old new : List (Bor (List ℕ))) (x : Bor (List ℕ)) → new ≡ old ++ x ∷ [] → StandFirst p (map (λ v. v.now) old) → StandFirst p (map (λ v. v.now) new)
stand_pushed p old new x same e =
    subst (λ (vs : List (Bor (List ℕ))). StandFirst p (map (λ v. v.now) vs)) (sym same)
    (subst (λ (vs : List (List ℕ)). StandFirst p vs) (sym (map-append (λ (v : Bor (List ℕ)). v.now) old (x ∷ []))) (stand_more p (map (λ v. v.now) old) x.now e))

pub stand_cut : (p taken q : Option (List Name)) (old new : List (Bor (List ℕ))) (n : ℕ) → taken ≡ p → q ≡ kept_parameters n taken → new ≡ take n old
    → StandFirst p (map (λ v. v.now) old) → StandFirst q (map (λ v. v.now) new)
stand_cut p taken q old new n taken_is kept same e =
    subst (λ (r : Option (List Name)). StandFirst r (map (λ v. v.now) new)) (sym (kept ∙ ap (kept_parameters n) taken_is))
    (subst (λ (vs : List (Bor (List ℕ))). StandFirst (kept_parameters n p) (map (λ v. v.now) vs)) (sym same)
    (subst (λ (vs : List (List ℕ)). StandFirst (kept_parameters n p) vs) (take-map (λ (v : Bor (List ℕ)). v.now) n old) (stand_fewer p (map (λ v. v.now) old) n e)))
