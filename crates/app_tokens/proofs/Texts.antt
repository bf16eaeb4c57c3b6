-- Texts by runs of plain bytes and pairs.
use Rattle.std.proofs.Common.{◌≡◌, ℕ, suc, ◌+◌, ◌-◌, ◌<◌, ◌≤◌, List, [], ◌∷◌, ◌++◌, length, get_or, drop, refl, sym, ap, ◌∙◌, arith, Bool, true, false, cond, not, ◌||◌, nat_eq, nat_lt, append_assoc, subst, length-drop, Option, Some, None, Result, Ok, Err}
use Rattle.std.specs.Prelude.{take_while, if◌then◌else◌}
use Rattle.std.specs.Str.{IsCharBoundary}
use Rattle.std.specs.Result.{IsErrAnd}
use Rattle.std.proofs.lemmas.Result.{err_from_is_err_and}
use Rattle.std.proofs.lemmas.List.{append-nil}
use Rattle.std.proofs.lemmas.List.Sums.{take_while-cons}
use Rattle.app_tokens.specs.declared.piece.Piece.{Piece}
use Rattle.app_tokens.specs.declared.error.TokenError.{TokenError}
use Rattle.app_tokens.specs.declared.error.TokenError.TheVariants.{BadByte, OpenText, Memory}
use Rattle.rx_value.specs.Results.{choose, ◌>>=◌, RefusesOrMemory, GivesOrMemory}
use Rattle.app_tokens.specs.Scan.{piece_within_limit, text_piece, text_from, refusal_at_end, is_pair, meaning_of, refusal}
use Rattle.app_tokens.specs.inner.Text.{is_plain, pair_of}

-- what an error says where the definition gives it
pub RefusesOrMemory-from : {A : Type 0} (e : TokenError) (said : Result A TokenError) → said ≡ Err e → RefusesOrMemory refusal e said
RefusesOrMemory-from (BadByte p) said is = is
RefusesOrMemory-from (OpenText p) said is = is
RefusesOrMemory-from Memory said is = tt

pub GivesOrMemory-from : {A : Type 0} (r said : Result A TokenError) → said ≡ r → GivesOrMemory (λ x. x) refusal r said
GivesOrMemory-from (Ok x) said is = is
GivesOrMemory-from (Err e) said is = RefusesOrMemory-from e said is

abbrev pub begins_plain : List ℕ → Bool
begins_plain [] = false
begins_plain (b ∷ bs) = is_plain b

-- behind a run of plain bytes stands none
pub begins_plain-drop : (bs : List ℕ) → begins_plain (drop (length (take_while is_plain bs)) bs) ≡ false
begins_plain-drop [] = refl
begins_plain-drop (b ∷ bs) = rw (take_while-cons is_plain b bs) (each (is_plain b) refl (begins_plain-drop bs))
  where
    each : (t : Bool) → is_plain b ≡ t → begins_plain (drop (length (take_while is_plain bs)) bs) ≡ false
        → begins_plain (drop (length (cond t (b ∷ take_while is_plain bs) [])) (b ∷ bs)) ≡ false
    each true e behind = behind
    each false e behind = e

pub length-take_while : (p : ℕ → Bool) (bs : List ℕ) → length (take_while p bs) ≤ length bs
length-take_while p [] = omega arith
length-take_while p (b ∷ bs) = rw (take_while-cons p b bs) (each (p b) (length-take_while p bs))
  where
    each : (t : Bool) → length (take_while p bs) ≤ length bs → length (cond t (b ∷ take_while p bs) []) ≤ length (b ∷ bs)
    each true le = omega arith
    each false le = omega arith

-- a run of bytes ends at one that doesn't pass
stops-take_while : (p : ℕ → Bool) (bs : List ℕ) → length (take_while p bs) < length bs → p (get_or bs (length (take_while p bs)) 0) ≡ false
stops-take_while p [] lt = absurd (omega arith)
stops-take_while p (b ∷ bs) lt =
    rw (take_while-cons p b bs) (each (p b) refl (rw (take_while-cons p b bs) at lt) (stops-take_while p bs))
  where
    each : (t : Bool) → p b ≡ t → length (cond t (b ∷ take_while p bs) []) < length (b ∷ bs)
        → (length (take_while p bs) < length bs → p (get_or bs (length (take_while p bs)) 0) ≡ false)
        → p (get_or (b ∷ bs) (length (cond t (b ∷ take_while p bs) [])) 0) ≡ false
    each true e lt more = more (omega arith)
    each false e lt more = e

-- a text may be cut behind a run that goes on over every byte from 128 on
pub IsCharBoundary-run : (p : ℕ → Bool) → ((x : ℕ) → p x ≡ false → x < 128) → (bs : List ℕ) → IsCharBoundary bs (length (take_while p bs))
IsCharBoundary-run p low bs = (
  length-take_while p bs,
  λ lt high. absurd (omega (arith, low (get_or bs (length (take_while p bs)) 0) (stops-take_while p bs lt))),
)

plain_low : (x : ℕ) → is_plain x ≡ false → x < 128
plain_low x e = grind arith

-- so behind a run of plain bytes
pub IsCharBoundary-plain : (bs : List ℕ) → IsCharBoundary bs (length (take_while is_plain bs))
IsCharBoundary-plain = IsCharBoundary-run is_plain plain_low

none_true : (q s l : Bool) → not (q || s || l) ≡ true → (q ≡ false) × (s ≡ false) × (l ≡ false)
none_true true s l e = cc
none_true false true l e = cc
none_true false false true e = cc
none_true false false false e = (refl, refl, refl)

-- a plain byte goes into the value as it is
pub text_from-plain : (whole : Bool) (quote place b : ℕ) (value bs : List ℕ) → is_plain b ≡ true
    → text_from whole quote place value (b ∷ bs) ≡ text_from whole quote (place + 1) (value ++ b ∷ []) bs
unfolding text_from
text_from-plain whole quote place b value [] plain =
    let n = none_true (nat_eq b 34) (nat_eq b 92) (nat_lt b 32) plain in rw (n.0, n.1, n.2) refl
text_from-plain whole quote place b value (c ∷ bs) plain =
    let n = none_true (nat_eq b 34) (nat_eq b 92) (nat_lt b 32) plain in rw (n.0, n.1, n.2) refl

-- and so does a run of them
pub text_from-run : (whole : Bool) (quote place : ℕ) (value bs : List ℕ)
    → text_from whole quote place value bs
    ≡ text_from whole quote (place + length (take_while is_plain bs)) (value ++ take_while is_plain bs) (drop (length (take_while is_plain bs)) bs)
text_from-run whole quote place value [] = rw (append-nil value) (ap (λ p. text_from whole quote p value []) (omega arith))
text_from-run whole quote place value (b ∷ bs) =
    rw (take_while-cons is_plain b bs) (each (is_plain b) refl (λ p v. text_from-run whole quote p v bs))
  where
    each : (t : Bool) → is_plain b ≡ t
        → ((p : ℕ) (v : List ℕ) → text_from whole quote p v bs
        ≡ text_from whole quote (p + length (take_while is_plain bs)) (v ++ take_while is_plain bs) (drop (length (take_while is_plain bs)) bs))
        → text_from whole quote place value (b ∷ bs)
        ≡ text_from whole quote (place + length (cond t (b ∷ take_while is_plain bs) [])) (value ++ cond t (b ∷ take_while is_plain bs) [])
        (drop (length (cond t (b ∷ take_while is_plain bs) [])) (b ∷ bs))
    each true e run =
        let more = take_while is_plain bs in
        text_from-plain whole quote place b value bs e ∙ run (place + 1) (value ++ b ∷ [])
        ∙ ap (λ p. text_from whole quote p ((value ++ b ∷ []) ++ more) (drop (length more) bs)) (omega arith)
        ∙ ap (λ v. text_from whole quote (place + suc (length more)) v (drop (length more) bs)) (append_assoc value (b ∷ []) more)
    each false e run = rw (append-nil value) (ap (λ p. text_from whole quote p value (b ∷ bs)) (omega arith))

-- how a text goes on behind what follows its plain bytes
abbrev pub behind : Bool → ℕ → ℕ → List ℕ → List ℕ → Option ℕ → Result (List ℕ × ℕ) TokenError
behind whole quote place value bs None = Ok (value, place + 1)
behind whole quote place value bs (Some m) = text_from whole quote (place + 2) (value ++ m ∷ []) (drop 2 bs)

refusal_at_end-behind : (whole : Bool) (quote place : ℕ) (value bs : List ℕ)
    → refusal_at_end {A = List ℕ × ℕ} whole quote place ≡ (refusal_at_end {A = Option ℕ} whole quote place >>= behind whole quote place value bs)
refusal_at_end-behind true quote place value bs = refl
refusal_at_end-behind false quote place value bs = refl

-- what is no plain byte is the closing quote, a pair, or refused
pub text_from-pair : (whole : Bool) (quote place : ℕ) (value bs : List ℕ) → begins_plain bs ≡ false
    → text_from whole quote place value bs ≡ (pair_of whole quote place bs >>= behind whole quote place value bs)
unfolding text_from pair_of
text_from-pair whole quote place value [] e = refusal_at_end-behind whole quote place value []
text_from-pair whole quote place value (b ∷ []) e = each (nat_eq b 34) (nat_eq b 92) (nat_lt b 32) e
  where
    each : (q s l : Bool) → not (q || s || l) ≡ false
        → choose q (λ v. Ok (v, place + 1)) (choose s (λ v. refusal_at_end whole quote place)
        (choose l (λ v. Err (BadByte place)) (λ v. text_from whole quote (place + 1) (v ++ b ∷ []) []))) value
        ≡ ((if q then Ok None else (if s then refusal_at_end whole quote place else Err (BadByte place))) >>= behind whole quote place value (b ∷ []))
    each true s l e = refl
    each false true l e = refusal_at_end-behind whole quote place value (b ∷ [])
    each false false true e = refl
    each false false false e = cc
text_from-pair whole quote place value (b ∷ c ∷ bs) e = each (nat_eq b 34) (nat_eq b 92) (nat_lt b 32) (is_pair c) e
  where
    each : (q s l p : Bool) → not (q || s || l) ≡ false
        → choose q (λ v. Ok (v, place + 1)) (choose s
        (choose p (λ v. text_from whole quote (place + 2) (v ++ meaning_of c ∷ []) bs) (λ v. Err (BadByte place)))
        (choose l (λ v. Err (BadByte place)) (λ v. text_from whole quote (place + 1) (v ++ b ∷ []) (c ∷ bs)))) value
        ≡ ((if q then Ok None else (if s then (if p then Ok (Some (meaning_of c)) else Err (BadByte place)) else Err (BadByte place)))
        >>= behind whole quote place value (b ∷ c ∷ bs))
    each true s l p e = refl
    each false true l true e = refl
    each false true l false e = refl
    each false false true p e = refl
    each false false false p e = cc

-- a run of plain bytes, and what follows it
pub text_from-turn : (whole : Bool) (quote place : ℕ) (value bs : List ℕ)
    → let plain = take_while is_plain bs in let after = drop (length plain) bs in
    text_from whole quote place value bs
    ≡ (pair_of whole quote (place + length plain) after >>= behind whole quote (place + length plain) (value ++ plain) after)
text_from-turn whole quote place value bs =
    let plain = take_while is_plain bs in
    text_from-run whole quote place value bs
    ∙ text_from-pair whole quote (place + length plain) (value ++ plain) (drop (length plain) bs) (begins_plain-drop bs)

-- one turn of the loop over a text, at places counted by what is left of its inside
pub turn : (whole : Bool) (quote : ℕ) (inside value rest after : List ℕ) (total : Result (List ℕ × ℕ) TokenError)
    → length rest ≤ length inside
    → after ≡ drop (length (take_while is_plain rest)) rest
    → text_from whole quote (quote + 1 + (length inside - length rest)) value rest ≡ total
    → total ≡ (pair_of whole quote (quote + 1 + (length inside - length after)) after
    >>= behind whole quote (quote + 1 + (length inside - length after)) (value ++ take_while is_plain rest) after)
turn whole quote inside value rest after total within is said =
    let plain = take_while is_plain rest in
    let P : ℕ → Type 0 = λ p. total ≡ (pair_of whole quote p after >>= behind whole quote p (value ++ plain) after) in
    let Q : List ℕ → Type 0 = λ a. total ≡ (pair_of whole quote (quote + 1 + (length inside - length rest) + length plain) a
    >>= behind whole quote (quote + 1 + (length inside - length rest) + length plain) (value ++ plain) a) in
    subst P (omega (arith, length-take_while is_plain rest, length-drop (length plain) rest, ap length is))
    (subst Q (sym is) (sym said ∙ text_from-turn whole quote (quote + 1 + (length inside - length rest)) value rest))

-- the turn ends in a refusal
pub turn_fails : (whole : Bool) (quote place : ℕ) (value after : List ℕ) (e : TokenError) (total : Result (List ℕ × ℕ) TokenError)
    → total ≡ (pair_of whole quote place after >>= behind whole quote place value after)
    → pair_of whole quote place after ≡ Err e → total ≡ Err e
turn_fails whole quote place value after e total is pair = is ∙ ap (λ p. p >>= behind whole quote place value after) pair

-- the turn goes on behind a pair, or ends at the closing quote
pub turn_gives : (whole : Bool) (quote place : ℕ) (value after : List ℕ) (p : Option ℕ) (total : Result (List ℕ × ℕ) TokenError)
    → total ≡ (pair_of whole quote place after >>= behind whole quote place value after)
    → pair_of whole quote place after ≡ Ok p → total ≡ behind whole quote place value after p
turn_gives whole quote place value after p total is pair = is ∙ ap (λ q. q >>= behind whole quote place value after) pair

-- the text is refused where the turn is
pub text_piece-fails : (whole : Bool) (quote : ℕ) (inside value rest after bytes : List ℕ) (e : TokenError) (r : Result Piece TokenError)
    → length rest ≤ length inside → after ≡ drop (length (take_while is_plain rest)) rest
    → text_from whole quote (quote + 1 + (length inside - length rest)) value rest ≡ text_from whole quote (quote + 1) [] inside
    → bytes ≡ after → Err e ≡ pair_of whole quote (quote + 1 + (length inside - length after)) bytes
    → IsErrAnd r (λ y. y ≡ e) → GivesOrMemory (λ p. p) refusal r (text_piece whole quote inside)
unfolding text_piece
text_piece-fails whole quote inside value rest after bytes e r within is said same pair gives =
    let p = err_from_is_err_and r gives in
    let P : List ℕ → Type 0 = λ bs. pair_of whole quote (quote + 1 + (length inside - length after)) bs ≡ Err e in
    let failed = turn_fails whole quote (quote + 1 + (length inside - length after)) (value ++ take_while is_plain rest) after e
    (text_from whole quote (quote + 1) [] inside)
    (turn whole quote inside value rest after (text_from whole quote (quote + 1) [] inside) within is said)
    (subst P same (sym pair)) in
    GivesOrMemory-from r (text_from whole quote (quote + 1) [] inside >>= λ t. piece_within_limit (t.1 - quote) t.0 quote)
    (ap (λ (t : Result (List ℕ × ℕ) TokenError). t >>= λ t. piece_within_limit (t.1 - quote) t.0 quote) failed ∙ sym (p.1 ∙ ap (λ y. Err y) p.2))

-- the text ends where the turn finds its closing quote
pub text_piece-ends : (whole : Bool) (quote : ℕ) (inside value now rest after bytes : List ℕ) (r : Result Piece TokenError)
    → length rest ≤ length inside → after ≡ drop (length (take_while is_plain rest)) rest
    → text_from whole quote (quote + 1 + (length inside - length rest)) value rest ≡ text_from whole quote (quote + 1) [] inside
    → now ≡ value ++ take_while is_plain rest
    → bytes ≡ after → Ok None ≡ pair_of whole quote (quote + 1 + (length inside - length after)) bytes
    → r ≡ piece_within_limit (quote + 1 + (length inside - length after) + 1 - quote) now quote → GivesOrMemory (λ p. p) refusal r (text_piece whole quote inside)
unfolding text_piece
text_piece-ends whole quote inside value now rest after bytes r within is said pushed same pair gives =
    let P : List ℕ → Type 0 = λ bs. pair_of whole quote (quote + 1 + (length inside - length after)) bs ≡ Ok None in
    let ended = turn_gives whole quote (quote + 1 + (length inside - length after)) (value ++ take_while is_plain rest) after None
    (text_from whole quote (quote + 1) [] inside)
    (turn whole quote inside value rest after (text_from whole quote (quote + 1) [] inside) within is said)
    (subst P same (sym pair)) in
    GivesOrMemory-from r (text_from whole quote (quote + 1) [] inside >>= λ t. piece_within_limit (t.1 - quote) t.0 quote)
    (ap (λ (t : Result (List ℕ × ℕ) TokenError). t >>= λ t. piece_within_limit (t.1 - quote) t.0 quote) ended
    ∙ sym (gives ∙ ap (λ v. piece_within_limit (quote + 1 + (length inside - length after) + 1 - quote) v quote) pushed))

-- what the loop keeps, behind a pair
pub text_from-kept : (whole : Bool) (quote m : ℕ) (inside value now next rest after bytes more : List ℕ)
    → length rest ≤ length inside → after ≡ drop (length (take_while is_plain rest)) rest
    → text_from whole quote (quote + 1 + (length inside - length rest)) value rest ≡ text_from whole quote (quote + 1) [] inside
    → now ≡ value ++ take_while is_plain rest
    → bytes ≡ after → Ok (Some m) ≡ pair_of whole quote (quote + 1 + (length inside - length after)) bytes
    → next ≡ now ++ m ∷ [] → 1 < length bytes → more ≡ drop 2 after
    → (length more ≤ length inside) × (length more < length rest)
    × (text_from whole quote (quote + 1 + (length inside - length more)) next more ≡ text_from whole quote (quote + 1) [] inside)
text_from-kept whole quote m inside value now next rest after bytes more within is said pushed same pair again two behind =
    let P : List ℕ → Type 0 = λ bs. pair_of whole quote (quote + 1 + (length inside - length after)) bs ≡ Ok (Some m) in
    let total = text_from whole quote (quote + 1) [] inside in
    let went = turn_gives whole quote (quote + 1 + (length inside - length after)) (value ++ take_while is_plain rest) after (Some m) total
    (turn whole quote inside value rest after total within is said) (subst P same (sym pair)) in
    let le : length after ≤ length rest = omega (arith, ap length is, length-drop (length (take_while is_plain rest)) rest) in
    let some : 1 < length after = omega (arith, ap length same) in
    let fewer : length more + 2 ≡ length after = omega (arith, ap length behind, length-drop 2 after) in
    let Q : ℕ → Type 0 = λ p. text_from whole quote p next more ≡ total in (
      omega arith,
      omega arith,
      subst Q (omega arith)
          (ap (λ v. text_from whole quote (quote + 1 + (length inside - length after) + 2) v more) (again ∙ ap (λ v. v ++ m ∷ []) pushed)
          ∙ ap (λ bs. text_from whole quote (quote + 1 + (length inside - length after) + 2) ((value ++ take_while is_plain rest) ++ m ∷ []) bs) behind
          ∙ sym went),
    )
