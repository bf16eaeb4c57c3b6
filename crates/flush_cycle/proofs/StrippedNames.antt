-- What is left of a text behind a front that it has, and before an end that it has.
use Rattle.std.proofs.Common.{◌≡◌, ℕ, ◌+◌, ◌-◌, Bool, true, false, cond, List, ◌++◌, take, drop, length, Option, Some, None, MatchOption, option_map, bytes_eq, Bor, refl, sym, ap, ◌∙◌, arith, take-append-drop, length-append}
use Rattle.std.proofs.Math.Seq.{take-append_seam, drop-append_seam}
use Rattle.std.proofs.lemmas.Slice.Eq.{bytes_eq-Decides}
use Rattle.std.specs.Str.Pattern.{FindsTextPrefix, FindsTextSuffix, StripsPrefix, StripsSuffix}
use Rattle.session_model.specs.Apply.{after_front, before_end}

pub strips_front : (front name : List ℕ) (r : Option (Bor (List ℕ)))
    → MatchOption r (FindsTextPrefix front name None) (λ x. StripsPrefix (FindsTextPrefix front) name x.now)
    → option_map (λ s. s.now) r ≡ after_front front name
strips_front front name None lacks = decide (bytes_eq (take (length front) name) front) refl
  where
    decide : (b : Bool) → b ≡ bytes_eq (take (length front) name) front
        → None ≡ cond b (Some (drop (length front) name)) None
    decide true is =
        let begins : take (length front) name ≡ front = (bytes_eq-Decides (take (length front) name) front).0 (sym is) in
        absurd (lacks (drop (length front) name) (sym (take-append-drop (length front) name) ∙ ap (λ l. l ++ drop (length front) name) begins))
    decide false is = refl
strips_front front name (Some x) strips =
    ap Some (strips.2 ∙ ap (λ k. drop k name) strips.1.0) ∙ ap (λ b. cond b (Some (drop (length front) name)) None) (sym same)
  where
    begins : name ≡ front ++ drop strips.0 name
    begins = strips.1.1

    same : bytes_eq (take (length front) name) front ≡ true
    same = (bytes_eq-Decides (take (length front) name) front).1 (ap (take (length front)) begins ∙ take-append_seam front (drop strips.0 name))

pub strips_end : (end name : List ℕ) (r : Option (Bor (List ℕ)))
    → MatchOption r (FindsTextSuffix end name None) (λ x. StripsSuffix (FindsTextSuffix end) name x.now)
    → option_map (λ s. s.now) r ≡ before_end end name
strips_end end name None lacks = decide (bytes_eq (drop (length name - length end) name) end) refl
  where
    decide : (b : Bool) → b ≡ bytes_eq (drop (length name - length end) name) end
        → None ≡ cond b (Some (take (length name - length end) name)) None
    decide true is =
        let ends : drop (length name - length end) name ≡ end = (bytes_eq-Decides (drop (length name - length end) name) end).0 (sym is) in
        absurd (lacks (take (length name - length end) name) (sym (take-append-drop (length name - length end) name) ∙ ap (λ l. take (length name - length end) name ++ l) ends))
    decide false is = refl
strips_end end name (Some x) strips =
    ap Some (strips.2 ∙ ap (λ k. take (length name - k) name) strips.1.0) ∙ ap (λ b. cond b (Some (take (length name - length end) name)) None) (sym same)
  where
    front : List ℕ
    front = take (length name - strips.0) name

    ends : name ≡ front ++ end
    ends = strips.1.1

    at : length name - length end ≡ length front
    at = let whole : length name ≡ length front + length end = ap length ends ∙ length-append front end in omega (whole, arith)

    same : bytes_eq (drop (length name - length end) name) end ≡ true
    same = (bytes_eq-Decides (drop (length name - length end) name) end).1
        (ap (λ k. drop k name) at ∙ ap (drop (length front)) ends ∙ drop-append_seam front end)
