-- The pairs of a message are applied one after another.
use Rattle.std.proofs.Common.{◌≡◌, ◌<◌, ℕ, zero, suc, List, [], ◌∷◌, ◌++◌, take, length, get_or, refl, sym, ap, ◌∙◌, arith}
use Rattle.shiny_json.specs.declared.message.Pair.{Pair}
use Rattle.app_tree.specs.Tree.{Shape}
use Rattle.session_model.specs.State.{SessionState}
use Rattle.session_model.specs.Apply.{apply_pair, apply_pairs}

applied_on : (app : Shape) (xs : List Pair) (p : Pair) (state : SessionState) → apply_pairs app (xs ++ p ∷ []) state ≡ apply_pair app p (apply_pairs app xs state)
applied_on app [] p state = refl
applied_on app (x ∷ xs) p state = applied_on app xs p (apply_pair app x state)

taken_on : {A : Type 0} (xs : List A) (i : ℕ) (x : A) → i < length xs → x ≡ get_or xs i x → take (suc i) xs ≡ take i xs ++ x ∷ []
taken_on [] i x inside at = absurd (omega (inside, arith))
taken_on (y ∷ xs) zero x inside at = ap (λ z. z ∷ []) (sym at)
taken_on (y ∷ xs) (suc i) x inside at = ap (λ l. y ∷ l) (taken_on xs i x (omega (inside, arith)) at)

pub applied_next : (app : Shape) (pairs : List Pair) (i j : ℕ) (p : Pair) → i < length pairs → p ≡ get_or pairs i p → j ≡ suc i → (state : SessionState)
    → apply_pair app p (apply_pairs app (take i pairs) state) ≡ apply_pairs app (take j pairs) state
applied_next app pairs i j p inside at next state =
    sym (applied_on app (take i pairs) p state) ∙ ap (λ l. apply_pairs app l state) (sym (taken_on pairs i p inside at)) ∙ ap (λ k. apply_pairs app (take k pairs) state) (sym next)
