-- One more reader of those that a change marks.
use Rattle.std.proofs.Common.{◌≡◌, ℕ, ◌+◌, ◌<◌, List, [], ◌∷◌, ◌++◌, true, false, cond, ap, sym, ◌∙◌, append_assoc, length, take, drop, map, get_or, arith}
use Rattle.std.proofs.lemmas.List.{length-take, length-map, drop_more, get_or_at}
use Rattle.dep_graph.specs.Contexts.{ReaderContext, is_marked, marked_from}

pub marked-true : (s r : ℕ) (c : ReaderContext) (more : List ReaderContext) (out all : List ℕ) → is_marked s c.stage ≡ true → out ++ marked_from s r (c ∷ more) ≡ all → (out ++ r ∷ []) ++ marked_from s (r + 1) more ≡ all
marked-true s r c more out all marks is =
    append_assoc out (r ∷ []) (marked_from s (r + 1) more)
    ∙ ap (λ b. out ++ cond b (r ∷ marked_from s (r + 1) more) (marked_from s (r + 1) more)) (sym marks) ∙ is

pub marked-false : (s r : ℕ) (c : ReaderContext) (more : List ReaderContext) (out all : List ℕ) → is_marked s c.stage ≡ false → out ++ marked_from s r (c ∷ more) ≡ all → out ++ marked_from s (r + 1) more ≡ all
marked-false s r c more out all marks is =
    ap (λ b. out ++ cond b (r ∷ marked_from s (r + 1) more) (marked_from s (r + 1) more)) (sym marks) ∙ is

-- what the loop has not come to is as it was
pub same_there : (f : ReaderContext → ReaderContext) (xs ys : List ReaderContext) (i : ℕ) (x : ReaderContext) → i < length xs → ys ≡ map f (take i xs) ++ drop i xs → x ≡ get_or ys i x → x ≡ get_or xs i x
same_there f xs ys i x lt h is =
    let front = map f (take i xs) in
    let long : length front ≡ i = length-map (take i xs) f ∙ omega (arith, length-take i xs) in
    let parts : ys ≡ front ++ get_or xs i x ∷ drop (i + 1) xs = h ∙ ap (λ l. front ++ l) (drop_more xs i x lt) in
    is ∙ ap (λ l. get_or l i x) parts ∙ get_or_at front _ _ x i long

pub rest_is : (xs : List ReaderContext) (i : ℕ) (x : ReaderContext) → i < length xs → x ≡ get_or xs i x → drop i xs ≡ x ∷ drop (i + 1) xs
rest_is xs i x lt is = drop_more xs i x lt ∙ ap (λ y. y ∷ drop (i + 1) xs) (sym is)
