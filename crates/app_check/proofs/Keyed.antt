-- Look-ups by name in maps, and the walks that fill these.
use Rattle.std.proofs.Common.{◌≡◌, ℕ, zero, suc, ◌+◌, ◌<◌, ◌≤◌, Bool, true, false, ◌&&◌, ◌||◌, cond, Bor, List, [], ◌∷◌, length, get_or, take, drop, map, Option, Some, None, is_some, IfSome, refl, sym, subst, ◌∙◌, ap, add-one, arith, bytes_eq, nat_cmp}
use Rattle.std.specs.Bool.{one_answer}
use Rattle.std.specs.Prelude.{nat_lt}
use Rattle.std.specs.Option.{option_or}
use Rattle.std.specs.Cmp.Lexicographic.{slice_cmp}
use Rattle.std.specs.BTreeMap.{BTreeMap, UpdatesBy}
use Rattle.std.proofs.lemmas.Bool.Decides.{nat_tests}
use Rattle.std.proofs.lemmas.Map.Text.{btree_map_updates_str}
use Rattle.std.proofs.lemmas.Slice.Eq.{bytes_eq-Decides}
use Rattle.app_tree.specs.declared.item.Sort.{Sort}
use Rattle.app_tree.specs.Declarations.{Declared, declaration_from, declaration}
use Rattle.app_tree.specs.Faults.{is_named_among, declared_name}
use Rattle.app_tree.specs.declared.sorts.Sorts.{Sorts}
use Rattle.app_tree.specs.declared.sorts.Sorts.TheVariants as sorts
use Rattle.app_check.specs.declared.table.Declaration.{Declaration}
use Rattle.app_check.specs.declared.table.Entry.{Entry}
use Rattle.app_tree.specs.Sorts.{sorts_of}
use Rattle.app_check.specs.inner.Tables.{declared_of, without_name, is_declared_before}
use Rattle.app_check.specs.inner.ByName.{by_name, SetsName}
use Rattle.app_check.specs.inner.Indexed.{declaration_of, declaration_at}
use Rattle.app_check.proofs.Walked.{left_at}

differ : true ≡ false → ⊥
differ e = cc

same_names : (x y : List ℕ) → bytes_eq x y ≡ bytes_eq y x
same_names x y =
    one_answer (bytes_eq x y) (bytes_eq y x) (bytes_eq-Decides x y)
    (λ e. sym ((bytes_eq-Decides y x).0 e), λ e. (bytes_eq-Decides y x).1 (sym e))

pub set_by_name : {X : Type 0} (key name : List ℕ) (m n : BTreeMap (Bor (List ℕ)) X) (w : Option X) → key ≡ name
    → UpdatesBy (λ x y. slice_cmp nat_cmp x.now y.now) (λ k. slice_cmp nat_cmp key k.now) m n w
    → (sought : List ℕ) → by_name n sought ≡ cond (bytes_eq sought name) w (by_name m sought)
set_by_name key name m n w is updates sought =
    btree_map_updates_str key m n w updates sought
    ∙ ap (λ b. cond b w (by_name m sought)) (same_names key sought)
    ∙ ap (λ k. cond (bytes_eq sought k) w (by_name m sought)) is

-- ---- the first declaration of a name

or_none : {X : Type 0} (o : Option X) → o ≡ option_or o None
or_none None = refl
or_none (Some x) = refl

not_sought : {X : Type 0} (a b : Bool) (o : Option X) (x : X) → a ≡ false → o ≡ option_or o (cond (a && b) (Some x) None)
not_sought false b o x e = or_none o
not_sought true b o x e = absurd (differ e)

stays : {X : Type 0} (a b : Bool) (o : Option X) (x : X) → (b ≡ true → is_some o ≡ true) → o ≡ option_or o (cond (a && b) (Some x) None)
stays a b (Some y) x there = refl
stays true true None x there = absurd (differ (sym (there refl)))
stays true false None x there = refl
stays false b None x there = refl

comes : {X : Type 0} (a b : Bool) (o new : Option X) (x : X) → a ≡ true → (b ≡ true → is_some o ≡ false) → new ≡ cond b (Some x) o → new ≡ option_or o (cond (a && b) (Some x) None)
comes false b o new x e absent is = absurd (differ (sym e))
comes true true (Some y) new x e absent is = absurd (differ (absent refl))
comes true true None new x e absent is = is
comes true false None new x e absent is = is
comes true false (Some y) new x e absent is = is

at_same : {X : Type 0} (m : BTreeMap (Bor (List ℕ)) X) (b : Bool) (name sought : List ℕ) → is_some (by_name m name) ≡ b → bytes_eq sought name ≡ true → is_some (by_name m sought) ≡ b
at_same m b name sought there same = ap (λ n. is_some (by_name m n)) ((bytes_eq-Decides sought name).0 same) ∙ there

pub by_name_of_other_sort : (m : BTreeMap (Bor (List ℕ)) Declaration) (s : Sorts) (item : ℕ) (e : Entry) → sorts_of s e.sort ≡ false
    → (name : List ℕ) → by_name m name ≡ option_or (by_name m name) (declaration_at s item e name)
by_name_of_other_sort m s item e other name = not_sought (sorts_of s e.sort) (bytes_eq name e.name.now) (by_name m name) (declaration_of item e) other

pub by_name_of_known_name : (m : BTreeMap (Bor (List ℕ)) Declaration) (s : Sorts) (item : ℕ) (e : Entry) → is_some (by_name m e.name.now) ≡ true
    → (name : List ℕ) → by_name m name ≡ option_or (by_name m name) (declaration_at s item e name)
by_name_of_known_name m s item e there name =
    stays (sorts_of s e.sort) (bytes_eq name e.name.now) (by_name m name) (declaration_of item e) (at_same m true e.name.now name there)

pub by_name_of_new_name : (m n : BTreeMap (Bor (List ℕ)) Declaration) (s : Sorts) (item : ℕ) (e : Entry) → sorts_of s e.sort ≡ true → is_some (by_name m e.name.now) ≡ false
    → SetsName m n e.name.now (declaration_of item e)
    → (name : List ℕ) → by_name n name ≡ option_or (by_name m name) (declaration_at s item e name)
by_name_of_new_name m n s item e sought absent set name =
    comes (sorts_of s e.sort) (bytes_eq name e.name.now) (by_name m name) (by_name n name) (declaration_of item e) sought (at_same m false e.name.now name absent) (set name)

one_more : (c : Bool) (old rest : Option Declaration) (found : ℕ × Declared) (more : Option (ℕ × Declared)) → rest ≡ without_name more
    → option_or (option_or old (cond c (without_name (Some found)) None)) rest ≡ option_or old (without_name (cond c (Some found) more))
one_more true None rest found more is = refl
one_more true (Some d) rest found more is = refl
one_more false None rest found more is = is
one_more false (Some d) rest found more is = refl

pub first_step : (s : Sorts) (old new : Option Declaration) (name : List ℕ) (entries : List Entry) (i : ℕ) (e : Entry) (total : Option Declaration) → i < length entries → e ≡ get_or entries i e
    → new ≡ option_or old (declaration_at s i e name) → option_or old (without_name (declaration_from i (sorts_of s) name (map declared_of (drop i entries)))) ≡ total
    → option_or new (without_name (declaration_from (i + 1) (sorts_of s) name (map declared_of (drop (i + 1) entries)))) ≡ total
first_step s old new name entries i e total within is new_is invariant =
    rw add-one
    (ap (λ o. option_or o (without_name (declaration_from (suc i) (sorts_of s) name (map declared_of (drop (suc i) entries))))) new_is
    ∙ one_more (sorts_of s e.sort && bytes_eq name e.name.now) old (without_name (declaration_from (suc i) (sorts_of s) name (map declared_of (drop (suc i) entries)))) (i, declared_of e) (declaration_from (suc i) (sorts_of s) name (map declared_of (drop (suc i) entries))) refl
    ∙ ap (λ left. option_or old (without_name (declaration_from i (sorts_of s) name (map declared_of left)))) (sym (rw add-one at (left_at entries i e within is)))
    ∙ invariant)

pub first_end : (s : Sorts) (found total : Option Declaration) (name : List ℕ) (i : ℕ) (entries : List Entry) → drop i entries ≡ []
    → option_or found (without_name (declaration_from i (sorts_of s) name (map declared_of (drop i entries)))) ≡ total → found ≡ total
first_end s found total name i entries at_end invariant =
    or_none found ∙ ap (λ left. option_or found (without_name (declaration_from i (sorts_of s) name (map declared_of left)))) (sym at_end) ∙ invariant

-- ---- a name among the first ones

not_below : (n m : ℕ) → m ≤ n → nat_lt n m ≡ false
not_below n m small = grind (arith, nat_tests)

below : (n m : ℕ) → n < m → nat_lt n m ≡ true
below n m small = grind (arith, nat_tests)

none_before : (m n : ℕ) (name : List ℕ) (ds : List Declared) → m ≤ n → is_declared_before m (without_name (declaration_from n (sorts_of sorts.Any) name ds)) ≡ false
none_before m n name [] small = refl
none_before m n name (d ∷ ds) small = decide (bytes_eq name d.name) (none_before m (suc n) name ds (omega arith))
  where
    decide : (b : Bool) → is_declared_before m (without_name (declaration_from (suc n) (sorts_of sorts.Any) name ds)) ≡ false → is_declared_before m (without_name (cond b (Some (n, d)) (declaration_from (suc n) (sorts_of sorts.Any) name ds))) ≡ false
    decide true rest = not_below n m small
    decide false rest = rest

is_declared_before_from : (n count : ℕ) (name : List ℕ) (ds : List Declared) → is_declared_before (n + count) (without_name (declaration_from n (sorts_of sorts.Any) name ds)) ≡ is_named_among name (map declared_name (take count ds))
is_declared_before_from n zero name ds = none_before (n + zero) n name ds (omega arith)
is_declared_before_from n (suc count) name [] = refl
is_declared_before_from n (suc count) name (d ∷ ds) =
    let same : n + suc count ≡ suc n + count = omega arith in
    decide (bytes_eq name d.name) (ap (λ k. is_declared_before k (without_name (declaration_from (suc n) (sorts_of sorts.Any) name ds))) same ∙ is_declared_before_from (suc n) count name ds)
  where
    decide : (b : Bool) → is_declared_before (n + suc count) (without_name (declaration_from (suc n) (sorts_of sorts.Any) name ds)) ≡ is_named_among name (map declared_name (take count ds))
        → is_declared_before (n + suc count) (without_name (cond b (Some (n, d)) (declaration_from (suc n) (sorts_of sorts.Any) name ds))) ≡ (b || is_named_among name (map declared_name (take count ds)))
    decide true rest = below n (n + suc count) (omega arith)
    decide false rest = rest

pub is_declared_before_count : (count : ℕ) (name : List ℕ) (ds : List Declared) → is_declared_before count (without_name (declaration (sorts_of sorts.Any) name ds)) ≡ is_named_among name (map declared_name (take count ds))
is_declared_before_count count name ds =
    let same : count ≡ 0 + count = omega arith in
    ap (λ k. is_declared_before k (without_name (declaration (sorts_of sorts.Any) name ds))) same ∙ is_declared_before_from 0 count name ds

-- ---- the place of a declaration that is found

within_from : (n : ℕ) (sought : Sort → Bool) (name : List ℕ) (ds : List Declared) → IfSome (without_name (declaration_from n sought name ds)) (λ found. found.item < n + length ds)
within_from n sought name [] = tt
within_from n sought name (d ∷ ds) = decide (sought d.sort && bytes_eq name d.name) (within_from (suc n) sought name ds)
  where
    decide : (b : Bool) → IfSome (without_name (declaration_from (suc n) sought name ds)) (λ found. found.item < suc n + length ds) → IfSome (without_name (cond b (Some (n, d)) (declaration_from (suc n) sought name ds))) (λ found. found.item < n + suc (length ds))
    decide true rest = omega arith
    decide false rest =
        let same : suc n + length ds ≡ n + suc (length ds) = omega arith in
        subst (λ (k : ℕ). IfSome (without_name (declaration_from (suc n) sought name ds)) (λ found. found.item < k)) same rest

pub place_within : (declared : Option Declaration) (sought : Sort → Bool) (name : List ℕ) (ds : List Declared) → declared ≡ without_name (declaration sought name ds) → IfSome declared (λ found. found.item < length ds)
place_within declared sought name ds is =
    let same : 0 + length ds ≡ length ds = omega arith in
    subst (λ (t : Option Declaration). IfSome t (λ found. found.item < length ds)) (sym is)
    (subst (λ (k : ℕ). IfSome (without_name (declaration sought name ds)) (λ found. found.item < k)) same (within_from 0 sought name ds))
