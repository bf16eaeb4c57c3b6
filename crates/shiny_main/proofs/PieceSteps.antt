-- A line that grows by what was taken from a source.
use Rattle.std.proofs.Common.{◌≡◌, ℕ, zero, suc, ◌+◌, ◌<◌, ◌≤◌, true, false, List, [], ◌∷◌, ◌++◌, length, take, drop, Option, Some, None, refl, sym, ap, ◌∙◌, subst, arith, append_assoc, append-nil, length-append, add-one}
use Rattle.std.specs.Prelude.{◌==◌}
use Rattle.std.proofs.lemmas.Bool.Decides.{nat_tests}
use Rattle.std.specs.Option.{option_map}
use Rattle.std.specs.Io.KnownBytes.{prepend_known, IsAtEnd}
use Rattle.rx_ports.proofs.Contents.{prepend_known-append}
use Rattle.session_model.specs.Lines.{HasNoFeed}
use Rattle.session_laws.proofs.TranscriptLines.{HasNoFeed-append}
use Rattle.shiny_main.specs.declared.pieces.Step.{Step}
use Rattle.shiny_main.specs.declared.pieces.Step.TheVariants as step
use Rattle.shiny_main.specs.declared.pieces.Cut.TheVariants as cut
use Rattle.shiny_main.specs.inner.Pieces.{feed_place, Moves, Grows, StepGives, CutGives, last_line, content}
use Rattle.shiny_main.proofs.Feeds.{no_feed_before, feed_at, no_feed}

take_past : {A : Type 0} (n : ℕ) (xs : List A) → length xs ≤ n → take n xs ≡ xs
take_past zero [] h = refl
take_past (suc n) [] h = refl
take_past zero (x ∷ xs) h = absurd (omega (arith, h))
take_past (suc n) (x ∷ xs) h = ap (λ l. x ∷ l) (take_past n xs (omega (arith, h)))

pub nil_of_empty : (xs : List ℕ) → (length xs == 0) ≡ true → xs ≡ []
nil_of_empty [] e = refl
nil_of_empty (x ∷ xs) e =
    let none : length (x ∷ xs) ≡ 0 = grind (arith, nat_tests, e) in
    absurd (omega (arith, none))

pub grows_to_feed : (line old longer new : List ℕ) → Moves true old new line longer → HasNoFeed line → Grows line old longer new step.Found
grows_to_feed line old longer new m h =
    let place = feed_place old in
    let split : line ++ old ≡ (line ++ take place old) ++ 10 ∷ drop (place + 1) old =
    ap (λ l. line ++ l) (feed_at old m.0 ∙ ap (λ n. take place old ++ 10 ∷ drop n old) (sym (add-one place))) ∙ sym (append_assoc line (take place old) (10 ∷ drop (place + 1) old)) in
    (subst HasNoFeed (sym m.2) (HasNoFeed-append line (take place old) h (no_feed_before old)), split ∙ ap (λ l. (line ++ take place old) ++ 10 ∷ l) (sym m.1) ∙ ap (λ l. l ++ 10 ∷ new) (sym m.2))

pub grows_by_all : (line old longer new : List ℕ) → Moves false old new line longer → 0 < length old → HasNoFeed line → Grows line old longer new step.More
grows_by_all line old longer new m some h =
    let all : longer ≡ line ++ old = m.2 ∙ ap (λ l. line ++ l) (take_past (feed_place old) old m.0) in
    (subst HasNoFeed (sym all) (HasNoFeed-append line old h (no_feed old m.0)), omega (arith, ap length all, length-append line old, some), sym all ∙ sym (append-nil longer) ∙ ap (λ l. longer ++ l) (sym m.1))

ended_content : (longer new : List ℕ) (left : Option (List ℕ)) → prepend_known (longer ++ 10 ∷ new) left ≡ option_map (λ rest. longer ++ 10 ∷ rest) (prepend_known new left)
ended_content longer new None = refl
ended_content longer new (Some xs) = ap Some (append_assoc longer (10 ∷ new) xs)

pub step_grown : (line old longer new : List ℕ) (left : Option (List ℕ)) (s : Step) → Grows line old longer new s → StepGives (content line old left) line longer new left s
step_grown line old longer new left step.More g = (g.0, g.1, ap (λ l. prepend_known l left) g.2)
step_grown line old longer new left step.Found g = (g.0, ap (λ l. prepend_known l left) g.1 ∙ ended_content longer new left)
step_grown line old longer new left step.End g = absurd g
step_grown line old longer new left step.Failed g = absurd g
step_grown line old longer new left step.Memory g = tt

-- the same where nothing was left of what was taken before
pub step_refilled : (line old taken longer new : List ℕ) (before left : Option (List ℕ)) (s : Step) → old ≡ [] → before ≡ prepend_known taken left → Grows line taken longer new s
    → StepGives (content line old before) line longer new left s
step_refilled line old taken longer new before left s none is g =
    let same : content line old before ≡ content line taken left =
    ap (λ l. prepend_known (line ++ l) before) none ∙ ap (λ l. prepend_known l before) (append-nil line) ∙ ap (prepend_known line) is ∙ prepend_known-append left line taken in
    subst (λ o. StepGives o line longer new left s) (sym same) (step_grown line taken longer new left s g)

-- ---- what comes next

-- the line so far, what was taken and what is left are all that was there
pub record Coming (first taken line : List ℕ) (before left : Option (List ℕ)) (faults_before faults : ℕ) : Type 0 where
  pub no_feed : HasNoFeed line
  pub same : prepend_known first before ≡ content line taken left
  pub later : faults_before ≤ faults

fed_bytes : (line : List ℕ) (known : Option (List ℕ)) → option_map (λ rest. line ++ 10 ∷ rest) known ≡ prepend_known (line ++ 10 ∷ []) known
fed_bytes line None = refl
fed_bytes line (Some xs) = ap Some (sym (append_assoc line (10 ∷ []) xs))

-- the end of a line
pub next_found : (most : ℕ) (first taken line longer after : List ℕ) (before left now : Option (List ℕ)) → prepend_known first before ≡ content line taken left → StepGives (content line taken left) line longer after now step.Found
    → CutGives most (prepend_known first before) after now (cut.Line longer)
next_found most first taken line longer after before left now same g = record { no_feed = g.0; is = same ∙ g.1 ∙ fed_bytes longer (prepend_known after now); last = tt }

end_after : (after : List ℕ) (now : Option (List ℕ)) → after ≡ [] → IsAtEnd now → IsAtEnd (prepend_known after now)
end_after after None none end = tt
end_after after (Some xs) none end = ap (λ l. l ++ xs) none ∙ end

-- the end of all, with what stands before it
pub next_at_end : (most : ℕ) (first taken line longer after : List ℕ) (before left now : Option (List ℕ)) → prepend_known first before ≡ content line taken left → StepGives (content line taken left) line longer after now step.End
    → CutGives most (prepend_known first before) after now (last_line longer)
next_at_end most first taken line [] after before left now same g =
    let all : prepend_known first before ≡ prepend_known after now = same ∙ g.3 in
    (subst IsAtEnd (sym all) (end_after after now g.1 g.2), g.2)
next_at_end most first taken line (b ∷ longer) after before left now same g =
    record { no_feed = g.0; is = same ∙ g.3 ∙ sym (prepend_known-append now (b ∷ longer) after); last = (omega arith, end_after after now g.1 g.2) }

-- a line that is longer than it may be
pub next_too_long : (most : ℕ) (first taken line : List ℕ) (before left : Option (List ℕ)) → HasNoFeed line → most < length line → prepend_known first before ≡ content line taken left
    → CutGives most (prepend_known first before) taken left cut.TooLong
next_too_long most first taken line before left h lt same = record { begun = line; no_feed = h; longer = lt; is = same ∙ sym (prepend_known-append left line taken) }

-- a fault, with the bytes of the line that were taken before it
pub next_failed : (most : ℕ) (first taken line longer after : List ℕ) (before left now : Option (List ℕ)) → HasNoFeed line → length line ≤ most → prepend_known first before ≡ content line taken left
    → StepGives (content line taken left) line longer after now step.Failed → CutGives most (prepend_known first before) after now cut.Failed
next_failed most first taken line longer after before left now h le same g =
    (g.1, record { begun = line; no_feed = h; within = le; is = same ∙ g.2 ∙ ap (λ l. prepend_known (line ++ l) now) g.1 ∙ ap (λ l. prepend_known l now) (append-nil line) })
