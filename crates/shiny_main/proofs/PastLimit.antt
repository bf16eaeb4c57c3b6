-- In which line a transcript goes past its limit.
use Rattle.std.proofs.Common.{◌≡◌, ℕ, zero, suc, ◌+◌, ◌-◌, ◌<◌, ◌≤◌, Bool, true, false, cond, List, [], ◌∷◌, ◌++◌, length, take, Option, Some, None, refl, sym, ap, ◌∙◌, subst, arith, length-append}
use Rattle.std.specs.Prelude.{◌==◌, min, nat_lt, filter, if◌then◌else◌}
use Rattle.std.proofs.lemmas.Bool.Decides.{nat_tests}
use Rattle.session_model.specs.declared.limits.TheConstants.{TRANSCRIPT_LIMIT}
use Rattle.session_model.specs.Lines.{with_byte, lines_of}
use Rattle.session_model.specs.Transcript.{is_feed}
use Rattle.shiny_main.specs.SoFar.{on_first, whole_lines}
use Rattle.shiny_main.specs.inner.Lines.{PastIsHere}

abbrev count : List ℕ → ℕ
count bytes = length (filter is_feed bytes)

length-on_first : (b : ℕ) (lines : List (List ℕ)) → length (on_first b lines) ≡ length lines
length-on_first b [] = refl
length-on_first b (line ∷ more) = refl

length-whole_lines : (bytes : List ℕ) → length (whole_lines bytes) ≡ count bytes
length-whole_lines [] = refl
length-whole_lines (b ∷ bytes) = by (b == 10) (length-whole_lines bytes)
  where
    by : (feed : Bool) → length (whole_lines bytes) ≡ count bytes
        → length (if feed then [] ∷ whole_lines bytes else on_first b (whole_lines bytes)) ≡ length (cond feed (b ∷ filter is_feed bytes) (filter is_feed bytes))
    by true h = ap suc h
    by false h = length-on_first b (whole_lines bytes) ∙ h

count-append : (xs ys : List ℕ) → count (xs ++ ys) ≡ count xs + count ys
count-append [] ys = omega arith
count-append (x ∷ xs) ys = by (x == 10) (count-append xs ys)
  where
    by : (feed : Bool) → count (xs ++ ys) ≡ count xs + count ys
        → length (cond feed (x ∷ filter is_feed (xs ++ ys)) (filter is_feed (xs ++ ys))) ≡ length (cond feed (x ∷ filter is_feed xs) (filter is_feed xs)) + count ys
    by true h = omega (arith, h)
    by false h = h

take_behind : (n : ℕ) (front bytes : List ℕ) → length front ≤ n → take n (front ++ bytes) ≡ front ++ take (n - length front) bytes
take_behind n [] bytes h = ap (λ m. take m bytes) (omega arith)
take_behind zero (x ∷ front) bytes h = absurd (omega (arith, h))
take_behind (suc n) (x ∷ front) bytes h =
    let same : n - length front ≡ suc n - suc (length front) = omega arith in
    ap (λ l. x ∷ l) (take_behind n front bytes (omega (arith, h)) ∙ ap (λ m. front ++ take m bytes) same)

count-none : (bytes : List ℕ) → count (take zero bytes) ≡ 0
count-none [] = refl
count-none (b ∷ bytes) = refl

no_lines : (bytes : List ℕ) → lines_of bytes ≡ [] → bytes ≡ []
no_lines [] e = refl
no_lines (b ∷ bytes) e = absurd (by (b == 10) (lines_of bytes) e)
  where
    by : (feed : Bool) (lines : List (List ℕ)) → (if feed then [] ∷ lines else with_byte b lines) ≡ [] → ⊥
    by true lines h = cc
    by false [] h = cc
    by false (line ∷ more) h = cc

-- the count of line feeds in bytes behind a first one, by whether that is one
count-feed : (b : ℕ) (bytes : List ℕ) (feed : Bool) → (b == 10) ≡ feed → count (b ∷ bytes) ≡ length (cond feed (b ∷ filter is_feed bytes) (filter is_feed bytes))
count-feed b bytes feed e = ap (λ u. length (cond u (b ∷ filter is_feed bytes) (filter is_feed bytes))) e

abbrev Within : ℕ → List ℕ → Type 0
Within n bytes = (line : List ℕ) (others : List (List ℕ)) → lines_of bytes ≡ line ∷ others → n ≤ length line → count (take n bytes) ≡ 0

within_unfed : (n b : ℕ) (bytes line : List ℕ) (others lines : List (List ℕ)) → Within n bytes → lines_of bytes ≡ lines → with_byte b lines ≡ line ∷ others → suc n ≤ length line → count (take n bytes) ≡ 0
within_unfed n b bytes line others [] again is f h =
    let one : b ∷ [] ≡ line = cc in
    let few : suc n ≤ 1 = subst (λ l. suc n ≤ length l) (sym one) h in
    let none : n ≡ 0 = omega (arith, few) in
    ap (λ m. count (take m bytes)) none ∙ count-none bytes
within_unfed n b bytes line others (first ∷ more) again is f h =
    let one : b ∷ first ≡ line = cc in
    let few : suc n ≤ suc (length first) = subst (λ l. suc n ≤ length l) (sym one) h in
    again first more is (omega (arith, few))

within_by : (n b : ℕ) (bytes line : List ℕ) (others : List (List ℕ)) (feed : Bool) → Within n bytes → (b == 10) ≡ feed → (if feed then [] ∷ lines_of bytes else with_byte b (lines_of bytes)) ≡ line ∷ others → suc n ≤ length line
    → count (b ∷ take n bytes) ≡ 0
within_by n b bytes line others true again t f h =
    let one : [] ≡ line = cc in
    let few : suc n ≤ 0 = subst (λ l. suc n ≤ length l) (sym one) h in
    absurd (omega (arith, few))
within_by n b bytes line others false again t f h = count-feed b (take n bytes) false t ∙ within_unfed n b bytes line others (lines_of bytes) again refl f h

-- no line feed stands within the first line
none_within : (n : ℕ) (bytes : List ℕ) → Within n bytes
none_within zero bytes line others e h = count-none bytes
none_within (suc n) [] line others e h = refl
none_within (suc n) (b ∷ bytes) line others e h = within_by n b bytes line others (b == 10) (none_within n bytes) refl e h

abbrev Behind : ℕ → List ℕ → Type 0
Behind n bytes = (line : List ℕ) (others : List (List ℕ)) → lines_of bytes ≡ line ∷ others → length line < n → length line < length bytes → 0 < count (take n bytes)

behind_unfed : (n b : ℕ) (bytes line : List ℕ) (others lines : List (List ℕ)) → Behind n bytes → lines_of bytes ≡ lines → with_byte b lines ≡ line ∷ others → length line < suc n → length line < suc (length bytes) → 0 < count (take n bytes)
behind_unfed n b bytes line others [] again is f h more =
    let one : b ∷ [] ≡ line = cc in
    let longer : 1 < suc (length bytes) = subst (λ l. length l < suc (length bytes)) (sym one) more in
    let none : length bytes ≡ 0 = ap length (no_lines bytes is) in
    absurd (omega (arith, longer, none))
behind_unfed n b bytes line others (first ∷ rest) again is f h more =
    let one : b ∷ first ≡ line = cc in
    let few : suc (length first) < suc n = subst (λ l. length l < suc n) (sym one) h in
    let longer : suc (length first) < suc (length bytes) = subst (λ l. length l < suc (length bytes)) (sym one) more in
    again first rest is (omega (arith, few)) (omega (arith, longer))

behind_by : (n b : ℕ) (bytes line : List ℕ) (others : List (List ℕ)) (feed : Bool) → Behind n bytes → (b == 10) ≡ feed → (if feed then [] ∷ lines_of bytes else with_byte b (lines_of bytes)) ≡ line ∷ others
    → length line < suc n → length line < suc (length bytes) → 0 < count (b ∷ take n bytes)
behind_by n b bytes line others true again t f h more = subst (λ m. 0 < m) (sym (count-feed b (take n bytes) true t)) (omega arith)
behind_by n b bytes line others false again t f h more = subst (λ m. 0 < m) (sym (count-feed b (take n bytes) false t)) (behind_unfed n b bytes line others (lines_of bytes) again refl f h more)

-- one stands behind it where there are more bytes
one_behind : (n : ℕ) (bytes : List ℕ) → Behind n bytes
one_behind zero bytes line others e h more = absurd (omega (arith, h))
one_behind (suc n) [] line others e h more = absurd (omega (arith, more))
one_behind (suc n) (b ∷ bytes) line others e h more = behind_by n b bytes line others (b == 10) (one_behind n bytes) refl e h more

module _ (limit : ℕ) (front bytes line : List ℕ) (others : List (List ℕ)) (within : length front ≤ limit) (e : lines_of bytes ≡ line ∷ others) where
  abbrev past : Bool → Option ℕ
  past b = if b then Some (suc (length (filter is_feed (take limit (front ++ bytes))))) else None

  counted : count (take limit (front ++ bytes)) ≡ count front + count (take (limit - length front) bytes)
  counted = ap count (take_behind limit front bytes within) ∙ count-append front (take (limit - length front) bytes)

  reaches : (b : Bool) → nat_lt limit (length (front ++ bytes)) ≡ b → past b ≡ Some (suc (length (whole_lines front))) → limit < length front + min (suc (length line)) (length bytes)
  reaches false t p = absurd cc
  reaches true t p =
      let same : suc (count (take limit (front ++ bytes))) ≡ suc (length (whole_lines front)) = cc in
      let whole = length-whole_lines front in
      let total = counted in
      let none : count (take (limit - length front) bytes) ≡ 0 = omega (arith, same, whole, total) in
      let size = length-append front bytes in
      let longer : limit < length (front ++ bytes) = grind (arith, nat_tests) in
      by (nat_lt (length line) (limit - length front)) refl none (omega (arith, longer, size))
    where
      by : (b : Bool) → nat_lt (length line) (limit - length front) ≡ b → count (take (limit - length front) bytes) ≡ 0 → limit < length front + length bytes → limit < length front + min (suc (length line)) (length bytes)
      by true u none longer =
          let far : length line < limit - length front = grind (arith, nat_tests) in
          let some = one_behind (limit - length front) bytes line others e far (omega (arith, far, longer, within)) in
          absurd (omega (arith, some, none))
      by false u none longer =
          let near : limit - length front ≤ length line = grind (arith, nat_tests) in
          omega (arith, near, longer, within)

  reached : limit < length front + min (suc (length line)) (length bytes) → past (nat_lt limit (length (front ++ bytes))) ≡ Some (suc (length (whole_lines front)))
  reached h =
      let size = length-append front bytes in
      let longer : limit < length (front ++ bytes) = omega (arith, h, size) in
      let is : nat_lt limit (length (front ++ bytes)) ≡ true = grind (arith, nat_tests) in
      let none = none_within (limit - length front) bytes line others e (omega (arith, h, within)) in
      let whole = length-whole_lines front in
      let total = counted in
      let same : count (take limit (front ++ bytes)) ≡ length (whole_lines front) = omega (arith, none, whole, total) in
      ap past is ∙ ap (λ n. Some (suc n)) same

pub past_is_here : PastIsHere
past_is_here front bytes line others within e =
    (reaches TRANSCRIPT_LIMIT front bytes line others within e (nat_lt TRANSCRIPT_LIMIT (length (front ++ bytes))) refl, reached TRANSCRIPT_LIMIT front bytes line others within e)
