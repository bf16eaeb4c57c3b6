-- What makes values and keys fit for the keys of a map: the tests above decide equality, and equal
-- ones are written to a hasher alike.
use Rattle.std.specs.Prelude.{◌≡◌, ℤ, Bool, true, false, List, [], ◌∷◌, ◌++◌, refl}
use Rattle.std.proofs.Common.{ap, subst, Decides}
use Rattle.std.proofs.Math.Bool.{and-eq-true_iff}
use Rattle.std.proofs.lemmas.Slice.Eq.{bytes_eq-Decides}
use Rattle.std.specs.Cmp.{unsigned_Decides, signed_Decides}
use Rattle.std.specs.Hash as fed
use Rattle.std.specs.Hash.{HashWrites}
use Rattle.rx_value.specs.declared.key.Key.{Key}
use Rattle.rx_value.specs.declared.value.Value.{Value}
use Rattle.rx_value.specs.declared.value.Value.TheVariants as v
use Rattle.rx_value.specs.Value.{bool_eq, ints_eq, value_eq, values_eq, key_eq}

-- what a value is written as to a hasher: a number for its kind, and then its content
abbrev pub value_writes : Value → HashWrites
value_writes v.Null = fed.u8 0
value_writes (v.Bool b) = fed.u8 1 ++ fed.bool b
value_writes (v.Int z) = fed.u8 2 ++ fed.i64 z
value_writes (v.Text t) = fed.u8 3 ++ fed.str t
value_writes (v.Ints zs) = fed.u8 4 ++ fed.slice fed.i64 zs

abbrev pub key_writes : Key → HashWrites
key_writes k = fed.u32 k.node ++ fed.slice value_writes k.parts

bools : (a b : Bool) → bool_eq a b ≡ true → a ≡ b
bools true true h = refl
bools true false h = cc
bools false true h = cc
bools false false h = refl

bool_eq-itself : (a : Bool) → bool_eq a a ≡ true
bool_eq-itself true = refl
bool_eq-itself false = refl

ints : (xs ys : List ℤ) → ints_eq xs ys ≡ true → xs ≡ ys
ints [] [] h = refl
ints [] (y ∷ ys) h = cc
ints (x ∷ xs) [] h = cc
ints (x ∷ xs) (y ∷ ys) h =
    let b = (and-eq-true_iff _ _).0 h in let e = (signed_Decides x y).0 b.0 in let f = ints xs ys b.1 in cc

ints_eq-itself : (xs : List ℤ) → ints_eq xs xs ≡ true
ints_eq-itself [] = refl
ints_eq-itself (x ∷ xs) = rw ((signed_Decides x x).1 refl, ints_eq-itself xs)

pub same_value : (a b : Value) → value_eq a b ≡ true → a ≡ b
same_value v.Null v.Null h = refl
same_value (v.Bool a) (v.Bool b) h = ap v.Bool (bools a b h)
same_value (v.Int a) (v.Int b) h = ap v.Int ((signed_Decides a b).0 h)
same_value (v.Text a) (v.Text b) h = ap v.Text ((bytes_eq-Decides a b).0 h)
same_value (v.Ints a) (v.Ints b) h = ap v.Ints (ints a b h)
same_value _ _ h = cc

pub value_eq-itself : (a : Value) → value_eq a a ≡ true
value_eq-itself v.Null = refl
value_eq-itself (v.Bool b) = bool_eq-itself b
value_eq-itself (v.Int z) = (signed_Decides z z).1 refl
value_eq-itself (v.Text t) = (bytes_eq-Decides t t).1 refl
value_eq-itself (v.Ints zs) = ints_eq-itself zs

values : (xs ys : List Value) → values_eq xs ys ≡ true → xs ≡ ys
values [] [] h = refl
values [] (y ∷ ys) h = cc
values (x ∷ xs) [] h = cc
values (x ∷ xs) (y ∷ ys) h =
    let b = (and-eq-true_iff _ _).0 h in let e = same_value x y b.0 in let f = values xs ys b.1 in cc

values_eq-itself : (xs : List Value) → values_eq xs xs ≡ true
values_eq-itself [] = refl
values_eq-itself (x ∷ xs) = rw (value_eq-itself x, values_eq-itself xs)

pub value_eq-Decides : (a b : Value) → Decides (value_eq a b) (a ≡ b)
value_eq-Decides a b = (same_value a b, λ e. subst (λ (w : Value). value_eq a w ≡ true) e (value_eq-itself a))

pub same_key : (k l : Key) → key_eq k l ≡ true → k ≡ l
same_key k l h =
    let b = (and-eq-true_iff _ _).0 h in
    let e = (unsigned_Decides k.node l.node).0 b.0 in
    let f = values k.parts l.parts b.1 in
    λ i. record { node = e i; parts = f i }

pub key_eq-itself : (k : Key) → key_eq k k ≡ true
key_eq-itself k = rw ((unsigned_Decides k.node k.node).1 refl, values_eq-itself k.parts)

pub key_eq-Decides : (k l : Key) → Decides (key_eq k l) (k ≡ l)
key_eq-Decides k l = (same_key k l, λ e. subst (λ (w : Key). key_eq k w ≡ true) e (key_eq-itself k))
