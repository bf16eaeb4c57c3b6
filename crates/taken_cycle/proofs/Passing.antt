-- Going on over the items: what is known of the readers before a place.
use Rattle.std.proofs.Common.{◌≡◌, ℕ, zero, suc, ◌+◌, ◌<◌, ◌≤◌, Bool, true, false, List, [], ◌∷◌, ◌++◌, length, take, drop, filter, map, Option, Some, None, refl, sym, ap, ◌∙◌, arith, add-one, add-zero, append-nil, length-append, get_or}
use Rattle.std.specs.Prelude.{⊤, pos, int_lt, slice_get, if◌then◌else◌}
use Rattle.std.proofs.lemmas.List.Elements.{filter-append}
use Rattle.app_tree.specs.Tree.{Node, text}
use Rattle.app_tree.specs.declared.item.Item.{Item}
use Rattle.app_tree.specs.View.{node_of}
use Rattle.app_tree.specs.Numbering.{is_reader}
use Rattle.session_model.specs.declared.state.ReaderState.{ReaderState}
use Rattle.app_tree.specs.Trace.{Every}
use Rattle.session_model.specs.Flush.{Waiting, first_of, and_later, priority_of, is_waiting, waiting_from}
use Rattle.taken_cycle.specs.Built.{plain_shown}
use Rattle.taken_cycle.specs.inner.Passed.{waits_at, IsPassed}
use Rattle.taken_cycle.proofs.Building.{IsOfNoPriority}

-- ---- lists

-- a list at one of its places
pub split_at : {A : Type 0} (xs : List A) (p : ℕ) (x : A) → slice_get xs p ≡ Some x → xs ≡ take p xs ++ x ∷ drop (suc p) xs
split_at [] p x e = cc
split_at (y ∷ xs) zero x e = let same : y ≡ x = cc in ap (λ z. z ∷ xs) same
split_at (y ∷ xs) (suc p) x e = ap (λ l. y ∷ l) (split_at xs p x e)

-- one more element at the front
pub take_one : {A : Type 0} (xs : List A) (p : ℕ) (x : A) → slice_get xs p ≡ Some x → take (suc p) xs ≡ take p xs ++ x ∷ []
take_one [] p x e = cc
take_one (y ∷ xs) zero x e = let same : y ≡ x = cc in ap (λ z. z ∷ []) same
take_one (y ∷ xs) (suc p) x e = ap (λ l. y ∷ l) (take_one xs p x e)

pub take_past : {A : Type 0} (n : ℕ) (xs : List A) → length xs ≤ n → take n xs ≡ xs
take_past zero [] h = refl
take_past (suc n) [] h = refl
take_past zero (x ∷ xs) h = absurd (omega (arith, h))
take_past (suc n) (x ∷ xs) h = ap (λ l. x ∷ l) (take_past n xs (omega (arith, h)))

-- the data of the item that stands at a place
pub node_at : (items : List Item) (p : ℕ) (x : Item) → p < length items → x ≡ get_or items p x → slice_get (map node_of items) p ≡ Some (node_of x)
node_at [] p x lt e = absurd (omega (arith, lt))
node_at (y ∷ items) zero x lt e = ap (λ i. Some (node_of i)) (sym e)
node_at (y ∷ items) (suc p) x lt e = node_at items p x (omega (arith, lt)) e

-- ---- a search that found none so far

none_of : (b : Bool) (w : Waiting) (later : Option Waiting) → and_later b w later ≡ None → (b ≡ false) × (later ≡ None)
none_of true w later e = absurd cc
none_of false w later e = (refl, e)

abbrev waiting_at : ℕ → Node → Waiting
waiting_at k i = record { number = k; priority = priority_of i }

-- the states beyond the readers don't matter
pub waiting-take : (k : ℕ) (is : List Node) (rs : List ReaderState) → waiting_from k is (take (length is) rs) ≡ waiting_from k is rs
waiting-take k [] rs = refl
waiting-take k (i ∷ is) [] = refl
waiting-take k (i ∷ is) (r ∷ rs) = ap (and_later (is_waiting i r) (waiting_at k i)) (waiting-take (suc k) is rs)

-- the reader behind those that don't wait doesn't either
pub waiting-past : (k : ℕ) (is : List Node) (name : List ℕ) (s : ℕ) (rs : List ReaderState) → waiting_from k is rs ≡ None → waits_at rs (length is) ≡ false
    → waiting_from k (is ++ text name (plain_shown s) ∷ []) rs ≡ None
waiting-past k [] name s [] e h = refl
waiting-past k [] name s (r ∷ rs) e h = ap (λ b. and_later b (waiting_at k (text name (plain_shown s))) None) h
waiting-past k (i ∷ is) name s [] e h = refl
waiting-past k (i ∷ is) name s (r ∷ rs) e h =
    let none = none_of (is_waiting i r) (waiting_at k i) (waiting_from (suc k) is rs) e in
    ap (λ b. and_later b (waiting_at k i) (waiting_from (suc k) (is ++ text name (plain_shown s) ∷ []) rs)) none.0 ∙ waiting-past (suc k) is name s rs none.1 h

-- ---- no reader has a priority

abbrev IsOfNone : Option Waiting → Type 0
IsOfNone None = ⊤
IsOfNone (Some w) = w.priority ≡ pos 0

-- so the first one comes first
first_is : (w : Waiting) (later : Option Waiting) → w.priority ≡ pos 0 → IsOfNone later → first_of w later ≡ w
first_is w None p q = refl
first_is w (Some other) p q = ap (λ a. if int_lt a other.priority then other else w) p ∙ ap (λ b. if int_lt (pos 0) b then other else w) q

found_none : (b : Bool) (w : Waiting) (later : Option Waiting) → w.priority ≡ pos 0 → IsOfNone later → IsOfNone (and_later b w later)
found_none true w later p q = ap (λ (x : Waiting). x.priority) (first_is w later p q) ∙ p
found_none false w later p q = q

all_of_none : (k : ℕ) (is : List Node) (rs : List ReaderState) → Every IsOfNoPriority is → IsOfNone (waiting_from k is rs)
all_of_none k [] rs h = tt
all_of_none k (i ∷ is) [] h = tt
all_of_none k (i ∷ is) (r ∷ rs) h = found_none (is_waiting i r) (waiting_at k i) (waiting_from (suc k) is rs) h.0 (all_of_none (suc k) is rs h.1)

-- the reader behind those that don't wait is the first that waits
pub waiting-found : (k : ℕ) (is : List Node) (name : List ℕ) (s : ℕ) (later : List Node) (rs : List ReaderState) → Every IsOfNoPriority later → waiting_from k is rs ≡ None → waits_at rs (length is) ≡ true
    → waiting_from k (is ++ text name (plain_shown s) ∷ later) rs ≡ Some (record { number = k + length is; priority = pos 0 })
waiting-found k [] name s later [] z e h = cc
waiting-found k [] name s later (r ∷ rs) z e h =
    let i = text name (plain_shown s) in
    ap (λ b. and_later b (waiting_at k i) (waiting_from (suc k) later rs)) h
    ∙ ap Some (first_is (waiting_at k i) (waiting_from (suc k) later rs) refl (all_of_none (suc k) later rs z))
    ∙ ap (λ n. let w : Waiting = record { number = n; priority = pos 0 } in Some w) (sym (add-zero k))
waiting-found k (i ∷ is) name s later [] z e h = cc
waiting-found k (i ∷ is) name s later (r ∷ rs) z e h =
    let none = none_of (is_waiting i r) (waiting_at k i) (waiting_from (suc k) is rs) e in
    ap (λ b. and_later b (waiting_at k i) (waiting_from (suc k) (is ++ text name (plain_shown s) ∷ later) rs)) none.0 ∙ waiting-found (suc k) is name s later rs z none.1 h
    ∙ ap (λ n. let w : Waiting = record { number = n; priority = pos 0 } in Some w) (let e : suc k + length is ≡ k + suc (length is) = omega arith in e)

-- ---- one more item

-- nothing waits before the place
pub none_before : (items : List Node) (readers : List ReaderState) (place number : ℕ) → IsPassed items readers place number → waiting_from 0 (filter is_reader (take place items)) readers ≡ None
none_before items readers place number h =
    sym (waiting-take 0 (filter is_reader (take place items)) readers) ∙ ap (λ n. waiting_from 0 (filter is_reader (take place items)) (take n readers)) h.counted ∙ h.none_waits

pub passed_all : (items : List Node) (readers : List ReaderState) (place number : ℕ) → IsPassed items readers place number → length items ≤ place → waiting_from 0 (filter is_reader items) readers ≡ None
passed_all items readers place number h end =
    ap (λ l. waiting_from 0 (filter is_reader l) readers) (sym (take_past place items end)) ∙ none_before items readers place number h

-- an item that is no reader
pub passed_other : (items : List Node) (readers : List ReaderState) (place number : ℕ) (i : Node) → IsPassed items readers place number → slice_get items place ≡ Some i → is_reader i ≡ false
    → IsPassed items readers (place + 1) number
passed_other items readers place number i h e unread =
    let more : filter is_reader (take (place + 1) items) ≡ filter is_reader (take place items) =
    ap (λ n. filter is_reader (take n items)) (add-one place) ∙ ap (filter is_reader) (take_one items place _ e) ∙ filter-append is_reader (take place items) (i ∷ [])
    ∙ ap (λ b. filter is_reader (take place items) ++ (if b then i ∷ [] else [])) unread ∙ append-nil (filter is_reader (take place items)) in
    record {
      counted = ap length more ∙ h.counted;
      within = omega (arith, h.within);
      none_waits = ap (λ l. waiting_from 0 l (take number readers)) more ∙ h.none_waits;
    }

pub passed_output : (items : List Node) (readers : List ReaderState) (place number : ℕ) (name : List ℕ) (s : ℕ) → IsPassed items readers place number → slice_get items place ≡ Some (text name (plain_shown s))
    → waits_at readers number ≡ false → IsPassed items readers (place + 1) (number + 1)
passed_output items readers place number name s h e idle =
    let before = filter is_reader (take place items) in
    let more : filter is_reader (take (place + 1) items) ≡ before ++ text name (plain_shown s) ∷ [] =
    ap (λ n. filter is_reader (take n items)) (add-one place) ∙ ap (filter is_reader) (take_one items place _ e) ∙ filter-append is_reader (take place items) (text name (plain_shown s) ∷ []) in
    let counted : length (before ++ text name (plain_shown s) ∷ []) ≡ number + 1 = length-append before (text name (plain_shown s) ∷ []) ∙ ap (λ n. n + 1) h.counted in
    let none : waiting_from 0 (before ++ text name (plain_shown s) ∷ []) readers ≡ None =
    waiting-past 0 before name s readers (none_before items readers place number h) (ap (waits_at readers) h.counted ∙ idle) in
    record {
      counted = ap length more ∙ counted;
      within = omega (arith, h.within);
      none_waits = ap (λ l. waiting_from 0 l (take (number + 1) readers)) more ∙ ap (λ n. waiting_from 0 (before ++ text name (plain_shown s) ∷ []) (take n readers)) (sym counted)
          ∙ waiting-take 0 (before ++ text name (plain_shown s) ∷ []) readers ∙ none;
    }
