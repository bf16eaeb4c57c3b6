-- A Leave that went out last, for a key for which none was out, is out, and without it those that were out are left.
use Rattle.std.proofs.Common.{◌≡◌, ℕ, Bool, true, false, List, [], ◌∷◌, ◌++◌, Option, Some, None, ap}
use Rattle.std.specs.Prelude.{if◌then◌else◌}
use Rattle.rx_value.specs.Value.{key_eq}
use Rattle.rx_value.specs.Keys.{key_eq-itself}
use Rattle.term_eval.specs.Lent.{Lent, number_out, IsFree, IsOut, without}

out_behind : (same : Bool) (m n : ℕ) (x y : Option ℕ) → (if same then Some m else x) ≡ None → (x ≡ None → y ≡ Some n) → (if same then Some m else y) ≡ Some n
out_behind true m n x y h k = cc
out_behind false m n x y h k = k h

pub last_is_out : (l : Lent) (out : List Lent) → IsFree l.key out → IsOut l (out ++ l ∷ [])
last_is_out l [] h = ap (λ (b : Bool). if b then Some l.number else None) (key_eq-itself l.key)
last_is_out l (o ∷ out) h =
    out_behind (key_eq l.key o.key) o.number l.number (number_out l.key out) (number_out l.key (out ++ l ∷ [])) h (last_is_out l out)

left_behind : (same : Bool) (m : ℕ) (x : Option ℕ) (o : Lent) (rest kept all : List Lent) → (if same then Some m else x) ≡ None → (x ≡ None → kept ≡ all)
    → (if same then rest else o ∷ kept) ≡ o ∷ all
left_behind true m x o rest kept all h k = cc
left_behind false m x o rest kept all h k = ap (λ l. o ∷ l) (k h)

pub last_taken_off : (l : Lent) (out : List Lent) → IsFree l.key out → without l.key (out ++ l ∷ []) ≡ out
last_taken_off l [] h = ap (λ (b : Bool). if b then [] else l ∷ []) (key_eq-itself l.key)
last_taken_off l (o ∷ out) h =
    left_behind (key_eq l.key o.key) o.number (number_out l.key out) o (out ++ l ∷ []) (without l.key (out ++ l ∷ [])) out h (last_taken_off l out)
