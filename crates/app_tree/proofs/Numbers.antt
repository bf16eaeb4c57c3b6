-- The name of a number is the name that the number was found by.
use Rattle.std.proofs.Common.{◌≡◌, ℕ, zero, suc, ◌+◌, Bool, true, false, ◌&&◌, cond, List, [], ◌∷◌, ◌++◌, length, take, Option, Some, None, slice_get, refl, sym, ◌∙◌, ap, subst, arith}
use Rattle.std.specs.Prelude.{bytes_eq, unwrap_or}
use Rattle.std.proofs.lemmas.Slice.Eq.{bytes_eq-Decides}
use Rattle.app_tree.specs.declared.item.Sort.{Sort}
use Rattle.app_tree.specs.declared.item.Sort.TheVariants as sort
use Rattle.app_tree.specs.Declarations.{Declared, is_input_sort, is_value_sort, is_task_sort, is_reader_sort, declaration_from, declaration, those_of, count_of, number_at, name_in, source_name, reader_name}
use Rattle.app_tree.specs.Resolve.{innermost_from, innermost}
use Rattle.app_tree.specs.Named.{variable_name}

-- ---- what a search finds

-- it stands there, is of a sort that is sought, and has the name
pub record IsFound (n : ℕ) (sought : Sort → Bool) (name : List ℕ) (table : List Declared) (found : ℕ × Declared) : Type 0 where
  pub behind : ℕ
  pub place : found.0 ≡ n + behind
  pub stands : slice_get table behind ≡ Some found.1
  pub is : sought found.1.sort ≡ true
  pub named : name ≡ found.1.name

found_from : (n : ℕ) (sought : Sort → Bool) (name : List ℕ) (table : List Declared) (found : ℕ × Declared) → declaration_from n sought name table ≡ Some found → IsFound n sought name table found
found_from n sought name [] found e = absurd cc
found_from n sought name (d ∷ more) found e = decide (sought d.sort) (bytes_eq name d.name) refl refl (found_from (suc n) sought name more found) e
  where
    further : IsFound (suc n) sought name more found → IsFound n sought name (d ∷ more) found
    further r = record { behind = suc r.behind; place = omega (arith, r.place); stands = r.stands; is = r.is; named = r.named }

    decide : (s b : Bool) → s ≡ sought d.sort → b ≡ bytes_eq name d.name → (declaration_from (suc n) sought name more ≡ Some found → IsFound (suc n) sought name more found)
        → cond (s && b) (Some (n, d)) (declaration_from (suc n) sought name more) ≡ Some found → IsFound n sought name (d ∷ more) found
    decide true true s b rest e =
        let is : (n, d) ≡ found = cc in
        subst (λ (f : ℕ × Declared). IsFound n sought name (d ∷ more) f) is
        (record { behind = zero; place = omega arith; stands = refl; is = sym s; named = (bytes_eq-Decides name d.name).0 (sym b) })
    decide true false s b rest e = further (rest e)
    decide false true s b rest e = further (rest e)
    decide false false s b rest e = further (rest e)

-- the declaration that was found has the name, is of a sort that is sought, and stands at its place
pub record Finds (sought : Sort → Bool) (name : List ℕ) (table : List Declared) (found : ℕ × Declared) : Type 0 where
  pub stands : slice_get table found.0 ≡ Some found.1
  pub is : sought found.1.sort ≡ true
  pub named : name ≡ found.1.name

pub finds : (sought : Sort → Bool) (name : List ℕ) (table : List Declared) (found : ℕ × Declared) → declaration sought name table ≡ Some found → Finds sought name table found
finds sought name table found e =
    let r = found_from 0 sought name table found e in
    let at : r.behind ≡ found.0 = omega (arith, r.place) in
    record { stands = ap (slice_get table) (sym at) ∙ r.stands; is = r.is; named = r.named }

-- ---- the k-th of those that count

counted_at : (counted : Sort → Bool) (table : List Declared) (k : ℕ) (d : Declared) → slice_get table k ≡ Some d → counted d.sort ≡ true → slice_get (those_of counted table) (count_of counted (take k table)) ≡ Some d
counted_at counted [] k d e is = absurd cc
counted_at counted (c ∷ more) zero d e is =
    let same : c ≡ d = cc in
    subst (λ (x : Declared). slice_get (those_of counted (x ∷ more)) 0 ≡ Some d) (sym same) (rw is refl)
counted_at counted (c ∷ more) (suc k) d e is = decide (counted c.sort) refl (counted_at counted more k d e is)
  where
    decide : (b : Bool) → b ≡ counted c.sort → slice_get (those_of counted more) (count_of counted (take k more)) ≡ Some d
        → slice_get (those_of counted (c ∷ more)) (count_of counted (take (suc k) (c ∷ more))) ≡ Some d
    decide true b rest = rw (← b) rest
    decide false b rest = rw (← b) rest

get_left : {A : Type 0} (xs ys : List A) (i : ℕ) (x : A) → slice_get xs i ≡ Some x → slice_get (xs ++ ys) i ≡ Some x
get_left [] ys i x e = absurd cc
get_left (a ∷ xs) ys zero x e = e
get_left (a ∷ xs) ys (suc i) x e = get_left xs ys i x e

get_right : {A : Type 0} (xs ys : List A) (i : ℕ) → slice_get (xs ++ ys) (length xs + i) ≡ slice_get ys i
get_right [] ys i = let at : 0 + i ≡ i = omega arith in ap (slice_get ys) at
get_right (a ∷ xs) ys i =
    let at : suc (length xs) + i ≡ suc (length xs + i) = omega arith in
    ap (slice_get (a ∷ (xs ++ ys))) at ∙ get_right xs ys i

-- ---- the names of numbers

pub input_name : (table : List Declared) (k : ℕ) (d : Declared) → slice_get table k ≡ Some d → is_input_sort d.sort ≡ true → source_name table (number_at table k sort.Input) ≡ d.name
input_name table k d stands is =
    ap name_in (get_left (those_of is_input_sort table) (those_of is_value_sort table ++ those_of is_task_sort table) (count_of is_input_sort (take k table)) d (counted_at is_input_sort table k d stands is))

pub value_name : (table : List Declared) (k : ℕ) (d : Declared) → slice_get table k ≡ Some d → is_value_sort d.sort ≡ true → source_name table (number_at table k sort.Value) ≡ d.name
value_name table k d stands is =
    ap name_in (get_right (those_of is_input_sort table) (those_of is_value_sort table ++ those_of is_task_sort table) (count_of is_value_sort (take k table))
    ∙ get_left (those_of is_value_sort table) (those_of is_task_sort table) (count_of is_value_sort (take k table)) d (counted_at is_value_sort table k d stands is))

pub task_name : (table : List Declared) (k : ℕ) (d : Declared) → slice_get table k ≡ Some d → is_task_sort d.sort ≡ true → source_name table (number_at table k sort.Task) ≡ d.name
task_name table k d stands is =
    ap name_in (get_right (those_of is_input_sort table) (those_of is_value_sort table ++ those_of is_task_sort table) (count_of is_value_sort table + count_of is_task_sort (take k table))
    ∙ get_right (those_of is_value_sort table) (those_of is_task_sort table) (count_of is_task_sort (take k table))
    ∙ counted_at is_task_sort table k d stands is)

pub reader_name_at : (table : List Declared) (k : ℕ) (d : Declared) → slice_get table k ≡ Some d → is_reader_sort d.sort ≡ true → reader_name table (count_of is_reader_sort (take k table)) ≡ d.name
reader_name_at table k d stands is = ap name_in (counted_at is_reader_sort table k d stands is)

-- ---- variables

-- the variable of number k is named so, where the number was found behind n others
record IsBound (n : ℕ) (name : List ℕ) (scope : List (List ℕ)) (k : ℕ) : Type 0 where
  behind : ℕ
  place : k ≡ n + behind
  stands : slice_get scope behind ≡ Some name

innermost_is : (n : ℕ) (best : Option ℕ) (name : List ℕ) (scope : List (List ℕ)) (k : ℕ) (P : Type 0) → innermost_from n best name scope ≡ Some k → (best ≡ Some k → P) → (IsBound n name scope k → P) → P
innermost_is n best name [] k P e kept here = kept e
innermost_is n best name (x ∷ scope) k P e kept here =
    decide (bytes_eq name x) refl (λ b. innermost_is (suc n) b name scope k P) e
  where
    further : IsBound (suc n) name scope k → IsBound n name (x ∷ scope) k
    further r = record { behind = suc r.behind; place = omega (arith, r.place); stands = r.stands }

    decide : (b : Bool) → b ≡ bytes_eq name x → ((c : Option ℕ) → innermost_from (suc n) c name scope ≡ Some k → (c ≡ Some k → P) → (IsBound (suc n) name scope k → P) → P)
        → innermost_from (suc n) (cond b (Some n) best) name scope ≡ Some k → P
    decide true b rest e =
        rest (Some n) e
        (λ is. here (record { behind = zero; place = omega (arith, some_is is); stands = ap Some (sym ((bytes_eq-Decides name x).0 (sym b))) }))
        (λ r. here (further r))
      where
        some_is : Some n ≡ Some k → n ≡ k
        some_is e = cc
    decide false b rest e = rest best e kept (λ r. here (further r))

none_is : (k : ℕ) (P : Type 0) → None ≡ Some k → P
none_is k P e = absurd cc

pub innermost_name : (name : List ℕ) (scope : List (List ℕ)) (k : ℕ) → innermost name scope ≡ Some k → variable_name scope k ≡ name
innermost_name name scope k e =
    innermost_is 0 None name scope k (variable_name scope k ≡ name) e (none_is k (variable_name scope k ≡ name))
    (λ r. let at : r.behind ≡ k = omega (arith, r.place) in
    ap (λ found. unwrap_or found []) (ap (slice_get scope) (sym at) ∙ r.stands))
