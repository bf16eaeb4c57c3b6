-- Where a part of a text is too long, the whole is.
use Rattle.std.proofs.Common.{◌≡◌, ℕ, List, ◌++◌, length, Result, Err, MatchResult, length-append, append_assoc, ap, arith, sym, subst, ◌∙◌}
use Rattle.svg_plot.specs.declared.error.PlotError.{PlotError}
use Rattle.svg_plot.specs.declared.error.PlotError.TheVariants.{Failed, Memory}
use Rattle.svg_plot.specs.inner.Answers.{IsTooLongOrMemory, Writes}

pub IsTooLongOrMemory-more : (e : PlotError) (front rest whole : List ℕ) → front ++ rest ≡ whole → IsTooLongOrMemory front e → IsTooLongOrMemory whole e
IsTooLongOrMemory-more Memory front rest whole same stops = tt
IsTooLongOrMemory-more (Failed failure) front rest whole same stops =
    (stops.0, omega (arith, stops.1, length-append front rest, ap length same))

-- a call that stops at a piece stops at the whole
pub Writes-stopped : (old front piece rest whole new : List ℕ) (e y : PlotError) (r : Result (Unit {0}) PlotError) → r ≡ Err y → y ≡ e → (front ++ piece) ++ rest ≡ old ++ whole → IsTooLongOrMemory (front ++ piece) e → Writes old whole new r
Writes-stopped old front piece rest whole new e y r is same all stops =
    let P : Result (Unit {0}) PlotError → Type 0 = λ s. Writes old whole new s in
    subst P (sym (is ∙ ap Err same)) (IsTooLongOrMemory-more e (front ++ piece) rest (old ++ whole) all stops)

-- what the last call of three or four writes, as what they write together
pub Writes-third : (old a b c t u new : List ℕ) (r : Result (Unit {0}) PlotError) → t ≡ old ++ a → u ≡ t ++ b → Writes u c new r → Writes old (a ++ b ++ c) new r
Writes-third old a b c t u new r p q writes =
    let same : u ++ c ≡ old ++ (a ++ b ++ c) = grind (arith, append_assoc) in
    let P : List ℕ → Type 0 = λ s. MatchResult r (λ _. new ≡ s) (IsTooLongOrMemory s) in
    subst P same writes

pub Writes-fourth : (old a b c d t u v new : List ℕ) (r : Result (Unit {0}) PlotError) → t ≡ old ++ a → u ≡ t ++ b → v ≡ u ++ c → Writes v d new r → Writes old (a ++ b ++ c ++ d) new r
Writes-fourth old a b c d t u v new r p q o writes =
    let same : v ++ d ≡ old ++ (a ++ b ++ c ++ d) = grind (arith, append_assoc) in
    let P : List ℕ → Type 0 = λ s. MatchResult r (λ _. new ≡ s) (IsTooLongOrMemory s) in
    subst P same writes
