-- A loop that replaces each element of a list by what f gives has come to a place.
use Rattle.std.proofs.Common.{◌≡◌, ℕ, ◌<◌, ◌+◌, List, [], ◌∷◌, ◌++◌, map, take, drop, set, length, get_or, ap, ap₂, sym, ◌∙◌, arith}
use Rattle.std.proofs.lemmas.List.{take_more, take_more_set, drop_more, drop-set-lt, length-set, map-append}

pub record Replaced {A : Type 0} (f : A → A) (before now : List A) (at : ℕ) : Type 0 where
  pub done : take at now ≡ map f (take at before)
  pub left : drop at now ≡ drop at before
  pub count : length now ≡ length before

abbrev head_or : {A : Type 0} → A → List A → A
head_or d [] = d
head_or d (x ∷ xs) = x

abbrev tail_of : {A : Type 0} → List A → List A
tail_of [] = []
tail_of (x ∷ xs) = xs

pub replaced_more : {A : Type 0} (f : A → A) (before now : List A) (at : ℕ) (d y : A) → Replaced f before now at → at < length before → y ≡ f (get_or now at d)
    → Replaced f before (set now at y) (at + 1)
replaced_more f before now at d y h lt e =
    let lt_now : at < length now = omega (arith, h.count) in
    let both : get_or now at d ∷ drop (at + 1) now ≡ get_or before at d ∷ drop (at + 1) before = sym (drop_more now at d lt_now) ∙ (h.left ∙ drop_more before at d lt) in
    let same : get_or now at d ≡ get_or before at d = ap (head_or d) both in
    let rest : drop (at + 1) now ≡ drop (at + 1) before = ap tail_of both in
    let after : at < at + 1 = omega arith in
    record {
      done = take_more_set now at y lt_now ∙ (ap₂ (λ xs x. xs ++ x ∷ []) h.done (e ∙ ap f same) ∙ (sym (map-append f (take at before) (get_or before at d ∷ [])) ∙ ap (map f) (sym (take_more before at d lt))));
      left = drop-set-lt (at + 1) now at y after ∙ rest;
      count = length-set now at y ∙ h.count;
    }
