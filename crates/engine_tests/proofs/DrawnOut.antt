-- The Leaves that are out of an asker that asks a cache or passes it by, as they come and go.
use Rattle.std.proofs.Common.{◌≡◌, Bool, true, false, cond, List, [], ◌∷◌, ◌++◌, Option, Some, None, refl, sym, ap, ◌∙◌, subst}
use Rattle.std.specs.Prelude.{if◌then◌else◌, IfSome}
use Rattle.std.specs.Map.{lookup, remove_entry}
use Rattle.rx_value.specs.declared.key.Key.{Key}
use Rattle.rx_value.specs.Value.{key_eq}
use Rattle.term_eval.specs.Lent.{Lent, number_out, IsFree, IsOut, without}
use Rattle.term_eval.proofs.LentOut.{last_is_out, last_taken_off}
use Rattle.book_asker.specs.Leaves.{lent_of}
use Rattle.book_asker.specs.declared.owner.TheConstants.{OWNER}
use Rattle.engine_tests.specs.inner.DrawnLeaves.{number_of, drawn_lent, drawn_out, given_out}

-- ---- a Leave of another key in front, that the cache gave or not

number_behind : (k : Key) (l : Lent) (given : Bool) (rest : List Lent) → key_eq k l.key ≡ false → number_out k (if given then l ∷ rest else rest) ≡ number_out k rest
number_behind k l true rest apart = rw apart refl
number_behind k l false rest apart = refl

without_behind : (k : Key) (l : Lent) (given : Bool) (rest : List Lent) → key_eq k l.key ≡ false
    → without k (if given then l ∷ rest else rest) ≡ (if given then l ∷ without k rest else without k rest)
without_behind k l true rest apart = rw apart refl
without_behind k l false rest apart = refl

-- ---- whether the cache gave a Leave, by the Leave's number

is_given : (given : Bool) → Some (number_of given) ≡ Some OWNER → given ≡ true
is_given true h = refl
is_given false h = cc

is_free : (given : Bool) → Some (number_of given) ≡ Some 1 → given ≡ false
is_free true h = cc
is_free false h = refl

-- ---- a key of which no Leave is out

pub free_given : (k : Key) (held : List (Key × Bool)) → IsFree k (drawn_out held) → IsFree k (given_out held)
free_given k [] h = refl
free_given k (e ∷ held) h = (elim (key_eq k e.0) as (λ y. key_eq k e.0 ≡ y → IsFree k (given_out (e ∷ held))) [
  | true ↦ λ t. let none = rw t at h in cc
  | false ↦ λ t. number_behind k (drawn_lent e) e.1 (given_out held) t ∙ free_given k held (rw t at h)
]) refl

pub free_held : (k : Key) (held : List (Key × Bool)) → IsFree k (drawn_out held) → lookup (key_eq k) held ≡ None
free_held k [] h = refl
free_held k (e ∷ held) h = (elim (key_eq k e.0) as (λ y. key_eq k e.0 ≡ y → lookup (key_eq k) (e ∷ held) ≡ None) [
  | true ↦ λ t. let none = rw t at h in cc
  | false ↦ λ t. rw t (free_held k held (rw t at h))
]) refl

-- ---- a Leave that goes out last

pub drawn_behind : (held : List (Key × Bool)) (e : Key × Bool) → drawn_out (held ++ e ∷ []) ≡ drawn_out held ++ drawn_lent e ∷ []
drawn_behind [] e = refl
drawn_behind (x ∷ held) e = ap (λ rest. drawn_lent x ∷ rest) (drawn_behind held e)

in_front : (l : Lent) (given : Bool) (xs ys : List Lent) → (if given then l ∷ (xs ++ ys) else xs ++ ys) ≡ (if given then l ∷ xs else xs) ++ ys
in_front l true xs ys = refl
in_front l false xs ys = refl

pub given_behind : (held : List (Key × Bool)) (k : Key) → given_out (held ++ (k, true) ∷ []) ≡ given_out held ++ drawn_lent (k, true) ∷ []
given_behind [] k = refl
given_behind (x ∷ held) k =
    ap (λ (rest : List Lent). if x.1 then drawn_lent x ∷ rest else rest) (given_behind held k)
    ∙ in_front (drawn_lent x) x.1 (given_out held) (drawn_lent (k, true) ∷ [])

pub free_behind : (held : List (Key × Bool)) (k : Key) → given_out (held ++ (k, false) ∷ []) ≡ given_out held
free_behind [] k = refl
free_behind (x ∷ held) k = ap (λ (rest : List Lent). if x.1 then drawn_lent x ∷ rest else rest) (free_behind held k)

-- ---- a Leave that comes back

pub without_drawn : (k : Key) (held : List (Key × Bool)) → drawn_out (remove_entry (key_eq k) held) ≡ without k (drawn_out held)
without_drawn k [] = refl
without_drawn k (e ∷ held) = (elim (key_eq k e.0) as (λ y. drawn_out (cond y held (e ∷ remove_entry (key_eq k) held)) ≡ cond y (drawn_out held) (drawn_lent e ∷ without k (drawn_out held))) [
  | true ↦ refl
  | false ↦ ap (λ rest. drawn_lent e ∷ rest) (without_drawn k held)
])

-- one that the cache gave is out there too
pub given_is_out : (k : Key) (held : List (Key × Bool)) → number_out k (drawn_out held) ≡ Some OWNER → number_out k (given_out held) ≡ Some OWNER
given_is_out k [] h = cc
given_is_out k (e ∷ held) h = (elim (key_eq k e.0) as (λ y. key_eq k e.0 ≡ y → number_out k (given_out (e ∷ held)) ≡ Some OWNER) [
  | true ↦ λ t. let given : e.1 ≡ true = is_given e.1 (rw t at h) in rw (given, t) refl
  | false ↦ λ t. number_behind k (drawn_lent e) e.1 (given_out held) t ∙ given_is_out k held (rw t at h)
]) refl

-- and leaves the cache's ones as it comes back
pub given_comes_back : (k : Key) (held : List (Key × Bool)) → number_out k (drawn_out held) ≡ Some OWNER → given_out (remove_entry (key_eq k) held) ≡ without k (given_out held)
given_comes_back k [] h = refl
given_comes_back k (e ∷ held) h = (elim (key_eq k e.0) as (λ y. key_eq k e.0 ≡ y → given_out (remove_entry (key_eq k) (e ∷ held)) ≡ without k (given_out (e ∷ held))) [
  | true ↦ λ t. let given : e.1 ≡ true = is_given e.1 (rw t at h) in rw (given, t) refl
  | false ↦ λ t. rw t (ap (λ (rest : List Lent). if e.1 then drawn_lent e ∷ rest else rest) (given_comes_back k held (rw t at h)) ∙ sym (without_behind k (drawn_lent e) e.1 (given_out held) t))
]) refl

-- one that the cache didn't give leaves them all
pub free_comes_back : (k : Key) (held : List (Key × Bool)) → number_out k (drawn_out held) ≡ Some 1 → given_out (remove_entry (key_eq k) held) ≡ given_out held
free_comes_back k [] h = refl
free_comes_back k (e ∷ held) h = (elim (key_eq k e.0) as (λ y. key_eq k e.0 ≡ y → given_out (remove_entry (key_eq k) (e ∷ held)) ≡ given_out (e ∷ held)) [
  | true ↦ λ t. let free : e.1 ≡ false = is_free e.1 (rw t at h) in rw (free, t) refl
  | false ↦ λ t. rw t (ap (λ (rest : List Lent). if e.1 then drawn_lent e ∷ rest else rest) (free_comes_back k held (rw t at h)))
]) refl

-- ---- none is out

pub none_given : (held : List (Key × Bool)) → drawn_out held ≡ [] → given_out held ≡ []
none_given [] none = refl
none_given (e ∷ held) none = cc

-- ---- beside a cache, of which these Leaves are out

pub of_given : {L : Type 0} (P : L → Type 0) (o : Option L) (leave : L) → o ≡ Some leave → IfSome o P → P leave
of_given P o leave is h = subst (λ given. IfSome given P) is h

-- a Leave of the cache's own that has just gone out, for a key of which none was out
pub just_lent : (j k : Key) (out new : List Lent) → j ≡ k → IsFree k out → new ≡ out ++ lent_of (j, OWNER) ∷ [] → IsOut (lent_of (j, OWNER)) new
just_lent j k out new same free is =
    let own : IsFree j out = ap (λ (key : Key). number_out key out) same ∙ free in
    subst (λ all. IsOut (lent_of (j, OWNER)) all) (sym is) (last_is_out (lent_of (j, OWNER)) out own)

-- and comes back at once
pub lent_and_back : (j k : Key) (out new back : List Lent) → j ≡ k → IsFree k out → new ≡ out ++ lent_of (j, OWNER) ∷ [] → back ≡ without j new → back ≡ out
lent_and_back j k out new back same free is returned =
    let own : IsFree j out = ap (λ (key : Key). number_out key out) same ∙ free in
    returned ∙ ap (without j) is ∙ last_taken_off (lent_of (j, OWNER)) out own

-- and is held
pub lent_and_held : (j k : Key) (held after : List (Key × Bool)) (out new : List Lent) → j ≡ k → out ≡ given_out held → new ≡ out ++ lent_of (j, OWNER) ∷ []
    → after ≡ held ++ (k, true) ∷ [] → new ≡ given_out after
lent_and_held j k held after out new same are is last =
    is
    ∙ ap (λ (xs : List Lent). xs ++ lent_of (j, OWNER) ∷ []) are
    ∙ ap (λ (key : Key). given_out held ++ lent_of (key, OWNER) ∷ []) same
    ∙ sym (given_behind held k)
    ∙ ap given_out (sym last)

-- one of its own that is held is out of it
pub held_is_out : (j k : Key) (held : List (Key × Bool)) (out : List Lent) → j ≡ k → out ≡ given_out held → number_out k (drawn_out held) ≡ Some OWNER → IsOut (lent_of (j, OWNER)) out
held_is_out j k held out same are h =
    ap (λ (key : Key). number_out key out) same ∙ ap (number_out k) are ∙ given_is_out k held h

-- and comes back to both
pub held_comes_back : (j k : Key) (held after : List (Key × Bool)) (out back : List Lent) → j ≡ k → out ≡ given_out held → number_out k (drawn_out held) ≡ Some OWNER
    → after ≡ remove_entry (key_eq k) held → back ≡ without j out → back ≡ given_out after
held_comes_back j k held after out back same are h taken returned =
    returned
    ∙ ap (λ (key : Key). without key out) same
    ∙ ap (without k) are
    ∙ sym (given_comes_back k held h)
    ∙ ap given_out (sym taken)
