-- Sums over the readers, of what is so of a reader and wasn't.
use Rattle.std.proofs.Common.{◌≡◌, ◌≢◌, inl, inr, ◌<◌, ◌≤◌, ℕ, zero, suc, ◌+◌, Bool, true, false, List, [], ◌∷◌, length, refl, sym, ap, ◌∙◌, arith}
use Rattle.std.specs.Prelude.{nat_eq, if◌then◌else◌}
use Rattle.std.specs.List.{IsDistinct}
use Rattle.std.proofs.lemmas.Bool.{false≢true}
use Rattle.std.proofs.lemmas.Bool.Decides.{eqb_tells}
use Rattle.app_tree.specs.Trace.{Every}

abbrev pub total : (ℕ → ℕ) → ℕ → ℕ
total f zero = 0
total f (suc k) = total f k + f k

-- c where the first is so and the other isn't
abbrev pub only : Bool → Bool → ℕ → ℕ
only true false c = c
only _ _ c = 0

pub total_same : (f g : ℕ → ℕ) (k : ℕ) → ((m : ℕ) → f m ≡ g m) → total f k ≡ total g k
total_same f g zero h = refl
total_same f g (suc k) h = (λ i. total_same f g k h i + h k i)

pub total_zero : (f : ℕ → ℕ) (k : ℕ) → ((m : ℕ) → f m ≡ 0) → total f k ≡ 0
total_zero f zero h = refl
total_zero f (suc k) h = (λ i. total_zero f k h i + h k i)

pub total_most : (f g : ℕ → ℕ) (k : ℕ) → ((m : ℕ) → f m ≤ g m) → total f k ≤ total g k
total_most f g zero h = omega arith
total_most f g (suc k) h = let p = total_most f g k h in let q = h k in omega (p, q, arith)

-- a balance of each reader is one of all
pub total_balance : (f g h k : ℕ → ℕ) (n : ℕ) → ((m : ℕ) → f m + g m ≡ h m + k m) → total f n + total g n ≡ total h n + total k n
total_balance f g h k zero e = refl
total_balance f g h k (suc n) e = let p = total_balance f g h k n e in let q = e n in omega (p, q, arith)

pub total_sum : (f g h : ℕ → ℕ) (n : ℕ) → ((m : ℕ) → f m + g m ≡ h m) → total f n + total g n ≡ total h n
total_sum f g h zero e = refl
total_sum f g h (suc n) e = let p = total_sum f g h n e in let q = e n in omega (p, q, arith)

-- two sums that differ at one place
same_before : (f g : ℕ → ℕ) (n k : ℕ) → ((m : ℕ) → m ≢ n → g m ≡ f m) → k ≤ n → total g k ≡ total f k
same_before f g n zero h b = refl
same_before f g n (suc k) h b = let p = same_before f g n k h (omega (b, arith)) in let q = h k (λ e. omega (e, b, arith)) in omega (p, q, arith)

pub total_put : (f g : ℕ → ℕ) (n k : ℕ) → ((m : ℕ) → m ≢ n → g m ≡ f m) → f n ≡ 0 → n < k → total g k ≡ total f k + g n
total_put f g n zero h z b = absurd (omega (b, arith))
total_put f g n (suc k) h z b = elim (eqb_tells k n) [
  | inl q ↦ (let e = q.1 in let p = same_before f g n k h (omega (e, arith)) in let u : f k ≡ 0 = ap f e ∙ z in let w : g k ≡ g n = ap g e in omega (p, u, w, arith))
  | inr q ↦ (let d = q.1 in let p = total_put f g n k h z (omega (b, d, arith)) in let u = h k d in omega (p, u, arith))
]

-- ---- a list without a number twice is counted by a sum in which each member counts

-- f without what it has at n
abbrev but : (ℕ → ℕ) → ℕ → ℕ → ℕ
but f n m = if nat_eq m n then 0 else f m

but_here : (f : ℕ → ℕ) (n : ℕ) → but f n n ≡ 0
but_here f n = elim (eqb_tells n n) [ inl p ↦ ap (λ b. if b then 0 else f n) p.0 | inr p ↦ absurd (p.1 refl) ]

but_there : (f : ℕ → ℕ) (n m : ℕ) → nat_eq m n ≡ false → f m ≡ but f n m
but_there f n m e = sym (ap (λ b. if b then 0 else f m) e)

but_apart : (f : ℕ → ℕ) (n m : ℕ) → m ≢ n → f m ≡ but f n m
but_apart f n m d = elim (eqb_tells m n) [ inl p ↦ absurd (d p.1) | inr p ↦ but_there f n m p.0 ]

turned : (m n : ℕ) → nat_eq m n ≡ false → n ≢ m
turned m n e q = elim (eqb_tells m n) [ inl p ↦ false≢true (sym e ∙ p.0) | inr p ↦ p.1 (sym q) ]

abbrev Counts : (ℕ → ℕ) → ℕ → Type 0
Counts f m = 1 ≤ f m

still_counts : (f : ℕ → ℕ) (x : ℕ) (ys : List ℕ) → Every (λ y. nat_eq x y ≡ false) ys → Every (Counts f) ys → Every (Counts (but f x)) ys
still_counts f x [] d h = tt
still_counts f x (y ∷ ys) d h = (let e = but_apart f x y (turned x y d.0) in let c = h.0 in omega (e, c, arith), still_counts f x ys d.1 h.1)

pub counted : (f : ℕ → ℕ) (k : ℕ) (xs : List ℕ) → IsDistinct nat_eq xs → Every (λ x. x < k) xs → Every (Counts f) xs → length xs ≤ total f k
unfolding IsDistinct
counted f k [] d b h = omega arith
counted f k (x ∷ xs) d b h =
    let p : total f k ≡ total (but f x) k + f x = total_put (but f x) f x k (but_apart f x) (but_here f x) b.0 in
    let q : length xs ≤ total (but f x) k = counted (but f x) k xs d.1 b.1 (still_counts f x xs d.0 h.1) in
    let c = h.0 in
    omega (p, q, c, arith)

-- ---- each reader

pub only_same : (b : Bool) (c : ℕ) → only b b c ≡ 0
only_same true c = refl
only_same false c = refl

-- three that grow
pub chain : (l m r : Bool) (c : ℕ) → (l ≡ true → m ≡ true) → (m ≡ true → r ≡ true) → only m l c + only r m c ≡ only r l c
chain true true true c p q = refl
chain true true false c p q = absurd (false≢true (q refl))
chain true false r c p q = absurd (false≢true (p refl))
chain false true true c p q = omega arith
chain false true false c p q = absurd (false≢true (q refl))
chain false false true c p q = omega arith
chain false false false c p q = refl

-- of the session and of the state, before and after
pub balance : (l l' a a' : Bool) (c : ℕ) → (l ≡ true → l' ≡ true) → (l' ≡ true → a' ≡ true) → (l ≡ true → a ≡ true) → (a ≡ true → a' ≡ true) → only l' l c + only a' l' c ≡ only a' a c + only a l c
balance l l' a a' c p q r s = let x = chain l l' a' c p q in let y = chain l a a' c r s in omega (x, y, arith)

-- fewer are lacking, each with what it had
pub fewer : (a' l' a l : Bool) (x y : ℕ) → (a' ≡ true → a ≡ true) → (a' ≡ true → l ≡ true → l' ≡ true) → (a' ≡ true → l' ≡ false → x ≡ y) → only a' l' x ≤ only a l y
fewer false l' a l x y f g h = omega arith
fewer true true a l x y f g h = omega arith
fewer true false false l x y f g h = absurd (false≢true (f refl))
fewer true false true true x y f g h = absurd (false≢true (g refl refl))
fewer true false true false x y f g h = (let e = h refl refl in omega (e, arith))
