-- The pieces of a file, one after another.
use Rattle.std.proofs.Common.{◌≡◌, ℕ, zero, suc, ◌+◌, ◌-◌, ◌<◌, ◌≤◌, List, [], ◌∷◌, ◌++◌, length, get_or, drop, take, refl, sym, ap, ◌∙◌, arith, Bool, true, false, cond, ◌&&◌, nat_eq, nat_lt, nat_le, append_assoc, subst, length-drop, Option, Some, None, Result, Ok, Err, lit<}
use Rattle.std.specs.Prelude.{take_while, if◌then◌else◌}
use Rattle.std.specs.Str.{IsUtf8, IsCharBoundary}
use Rattle.std.proofs.lemmas.Str.{IsCharBoundary-after_ascii, IsUtf8-drop}
use Rattle.std.specs.Result.{IsErrAnd, IfErr}
use Rattle.std.proofs.lemmas.List.{append-nil}
use Rattle.std.proofs.lemmas.List.Sums.{take_while-cons}
use Rattle.app_tokens.specs.declared.piece.Piece.{Piece}
use Rattle.app_tokens.specs.declared.symbol.Symbol.{Symbol}
use Rattle.app_tokens.specs.declared.token.Token.{Token}
use Rattle.app_tokens.specs.declared.token.Kind.TheVariants as kind
use Rattle.app_tokens.specs.declared.error.TokenError.{TokenError}
use Rattle.app_tokens.specs.declared.error.TokenError.TheVariants.{BadByte, OpenText, Memory}
use Rattle.app_tokens.specs.Symbol.{symbol_of, sized_or, one_byte_symbol, two_byte_symbol, three_byte_symbol}
use Rattle.rx_value.specs.Names.{is_letter, is_digit, is_of_word}
use Rattle.rx_value.specs.Results.{choose, ◌>>=◌, RefusesOrMemory}
use Rattle.rx_value.specs.declared.limits.TheConstants.{TEXT_LIMIT, GREATEST_NUMBER}
use Rattle.app_tokens.specs.Scan.{value_after, gap, token, piece_within_limit, is_blank, is_of_comment, word_piece, number_piece, found_symbol, symbol_piece, text_piece, text_from, refusal, refusal_at_end, is_pair, meaning_of, piece_of, tokens_from, token_list}
use Rattle.app_tokens.proofs.Texts.{length-take_while, IsCharBoundary-run}

-- tokens before those that come, if they come
abbrev pub joined : List Token → Result (List Token) TokenError → Result (List Token) TokenError
joined done r = r >>= λ more. Ok (done ++ more)

joined-joined : (one two : List Token) (r : Result (List Token) TokenError) → joined one (joined two r) ≡ joined (one ++ two) r
joined-joined one two (Ok more) = ap Ok (sym (append_assoc one two more))
joined-joined one two (Err e) = refl

-- bytes that are passed over may be dropped at once
tokens_from-skipped : (whole : Bool) (n place : ℕ) (bs : List ℕ) → n ≤ length bs
    → tokens_from whole n place bs ≡ tokens_from whole 0 (place + n) (drop n bs)
unfolding tokens_from
tokens_from-skipped whole zero place bs le = ap (λ p. tokens_from whole 0 p bs) (omega arith)
tokens_from-skipped whole (suc n) place [] le = absurd (omega arith)
tokens_from-skipped whole (suc n) place (b ∷ bs) le =
    tokens_from-skipped whole n (place + 1) bs (omega arith) ∙ ap (λ p. tokens_from whole 0 p (drop n bs)) (omega arith)

-- behind a piece stand the tokens of what is left
pub tokens_from-piece : (whole : Bool) (place : ℕ) (bs : List ℕ) (p : Piece) → 0 < p.size → p.size ≤ length bs
    → piece_of whole place bs ≡ Ok p
    → tokens_from whole 0 place bs ≡ joined (token_list p.kind place (take p.size bs)) (tokens_from whole 0 (place + p.size) (drop p.size bs))
unfolding tokens_from
tokens_from-piece whole place [] p some le is = absurd (omega arith)
tokens_from-piece whole place (b ∷ bs) p some le is =
    rw is (ap (joined (token_list p.kind place (take p.size (b ∷ bs)))) (behind p.size some le))
  where
    behind : (size : ℕ) → 0 < size → size ≤ length (b ∷ bs)
        → tokens_from whole (size - 1) (place + 1) bs ≡ tokens_from whole 0 (place + size) (drop size (b ∷ bs))
    behind zero some le = absurd (omega arith)
    behind (suc n) some le =
        ap (λ k. tokens_from whole k (place + 1) bs) (omega arith) ∙ tokens_from-skipped whole n (place + 1) bs (omega arith)
        ∙ ap (λ q. tokens_from whole 0 q (drop n bs)) (omega arith)

-- a piece that is refused
pub tokens_from-fails : (whole : Bool) (place : ℕ) (bs : List ℕ) (e : TokenError) → 0 < length bs
    → piece_of whole place bs ≡ Err e → tokens_from whole 0 place bs ≡ Err e
unfolding tokens_from
tokens_from-fails whole place [] e some is = absurd (omega arith)
tokens_from-fails whole place (b ∷ bs) e some is = rw is refl

-- a piece has some bytes, and what it takes of a text is text
pub record IsCut (bs : List ℕ) (size : ℕ) : Type 0 where
  pub some : 0 < size
  pub boundary : IsCharBoundary bs size

IsCut-ascii : (bs : List ℕ) (size n : ℕ) → IsUtf8 bs → size ≡ n + 1 → n < length bs → get_or bs n 0 < 128 → IsCut bs size
IsCut-ascii bs size n utf8 is lt low =
    let P : ℕ → Type 0 = λ k. IsCharBoundary bs k in
    record { some = omega arith; boundary = subst P (sym is) (IsCharBoundary-after_ascii bs n utf8 lt low) }

-- the bytes of a run pass
passes-take_while : (p : ℕ → Bool) (bs : List ℕ) (n : ℕ) → n < length (take_while p bs) → p (get_or bs n 0) ≡ true
passes-take_while p [] n lt = absurd (omega arith)
passes-take_while p (b ∷ bs) n lt = each (p b) refl n (rw (take_while-cons p b bs) at lt) (λ k. passes-take_while p bs k)
  where
    each : (t : Bool) → p b ≡ t → (n : ℕ) → n < length (cond t (b ∷ take_while p bs) [])
        → ((k : ℕ) → k < length (take_while p bs) → p (get_or bs k 0) ≡ true) → p (get_or (b ∷ bs) n 0) ≡ true
    each true e zero lt more = e
    each true e (suc k) lt more = more k (omega arith)
    each false e n lt more = absurd (omega arith)

length-run : (p : ℕ → Bool) (b : ℕ) (bs : List ℕ) → p b ≡ true → 0 < length (take_while p (b ∷ bs))
length-run p b bs passes = rw (take_while-cons p b bs, passes) (omega arith)

-- a run of bytes that are all below 128
IsCut-run : (p : ℕ → Bool) (b : ℕ) (bs : List ℕ) → ((x : ℕ) → p x ≡ true → x < 128) → IsUtf8 (b ∷ bs) → p b ≡ true
    → IsCut (b ∷ bs) (length (take_while p (b ∷ bs)))
IsCut-run p b bs low utf8 passes =
    let n = length (take_while p (b ∷ bs)) in
    let some : 0 < n = length-run p b bs passes in
    let le : n ≤ length (b ∷ bs) = length-take_while p (b ∷ bs) in
    IsCut-ascii (b ∷ bs) n (n - 1) utf8 (omega arith) (omega arith)
    (low (get_or (b ∷ bs) (n - 1) 0) (passes-take_while p (b ∷ bs) (n - 1) (omega arith)))

letter_low : (x : ℕ) → is_of_word x ≡ true → x < 128
letter_low x e = grind arith

digit_low : (x : ℕ) → is_digit x ≡ true → x < 128
digit_low x e = grind arith

blank_low : (x : ℕ) → is_blank x ≡ true → x < 128
blank_low x e = grind arith

comment_low : (x : ℕ) → is_of_comment x ≡ false → x < 128
comment_low x e = grind arith

one_low : (x : ℕ) (s : Symbol) → one_byte_symbol x ≡ Some s → x < 128
one_low x s e = grind arith

either : {P : Type 0} (a c : Bool) (v s : Symbol) (other : Option Symbol) → (c ≡ true → P) → (other ≡ Some s → P)
    → (if a && c then Some v else other) ≡ Some s → P
either true true v s other here there e = here refl
either true false v s other here there e = there e
either false c v s other here there e = there e

equal_low : (y k : ℕ) → k < 128 → nat_eq y k ≡ true → y < 128
equal_low y k low e = grind arith

two_low : (x y : ℕ) (s : Symbol) → two_byte_symbol x y ≡ Some s → y < 128
two_low x y s =
    let low = λ (k : ℕ) (h : k < 128). equal_low y k h in
    either (nat_eq x 37) (nat_eq y 37) _ s _ (low 37 (lit< tt))
    (either (nat_eq x 61) (nat_eq y 61) _ s _ (low 61 (lit< tt))
    (either (nat_eq x 33) (nat_eq y 61) _ s _ (low 61 (lit< tt))
    (either (nat_eq x 60) (nat_eq y 61) _ s _ (low 61 (lit< tt))
    (either (nat_eq x 62) (nat_eq y 61) _ s _ (low 61 (lit< tt))
    (either (nat_eq x 38) (nat_eq y 38) _ s _ (low 38 (lit< tt))
    (either (nat_eq x 124) (nat_eq y 124) _ s None (low 124 (lit< tt))
    (λ e. cc)))))))

three_low : (x y z : ℕ) (s : Symbol) → three_byte_symbol x y z ≡ Some s → z < 128
three_low x y z s e = grind arith

sized : (bs : List ℕ) (o : Option Symbol) (n : ℕ) (other : Option (Symbol × ℕ)) (s : Symbol × ℕ)
    → ((x : Symbol) → o ≡ Some x → IsCut bs n) → (other ≡ Some s → IsCut bs s.1) → sized_or o n other ≡ Some s → IsCut bs s.1
sized bs (Some x) n other s here there e =
    let P : Symbol × ℕ → Type 0 = λ k. IsCut bs k.1 in let is : (x, n) ≡ s = cc in subst P is (here x refl)
sized bs None n other s here there e = there e

-- a symbol
IsCut-symbol : (bs : List ℕ) (s : Symbol × ℕ) → IsUtf8 bs → symbol_of bs ≡ Some s → IsCut bs s.1
unfolding symbol_of
IsCut-symbol [] s utf8 e = cc
IsCut-symbol (a ∷ []) s utf8 e =
    sized (a ∷ []) (one_byte_symbol a) 1 None s (λ x h. IsCut-ascii (a ∷ []) 1 0 utf8 (omega arith) (omega arith) (one_low a x h)) (λ h. cc) e
IsCut-symbol (a ∷ b ∷ []) s utf8 e =
    let bs = a ∷ b ∷ [] in
    sized bs (two_byte_symbol a b) 2 (sized_or (one_byte_symbol a) 1 None) s
    (λ x h. IsCut-ascii bs 2 1 utf8 (omega arith) (omega arith) (two_low a b x h))
    (sized bs (one_byte_symbol a) 1 None s (λ x h. IsCut-ascii bs 1 0 utf8 (omega arith) (omega arith) (one_low a x h)) (λ h. cc)) e
IsCut-symbol (a ∷ b ∷ c ∷ more) s utf8 e =
    let bs = a ∷ b ∷ c ∷ more in
    sized bs (three_byte_symbol a b c) 3 (sized_or (two_byte_symbol a b) 2 (sized_or (one_byte_symbol a) 1 None)) s
    (λ x h. IsCut-ascii bs 3 2 utf8 (omega arith) (omega arith) (three_low a b c x h))
    (sized bs (two_byte_symbol a b) 2 (sized_or (one_byte_symbol a) 1 None) s
    (λ x h. IsCut-ascii bs 2 1 utf8 (omega arith) (omega arith) (two_low a b x h))
    (sized bs (one_byte_symbol a) 1 None s (λ x h. IsCut-ascii bs 1 0 utf8 (omega arith) (omega arith) (one_low a x h)) (λ h. cc))) e

abbrev pub ok : {A : Type 0} → A → Result A TokenError
ok x = Ok x

-- at so many bytes behind a place stands the closing quote
abbrev Closes : ℕ → List ℕ → ℕ → Type 0
Closes place bs end = (n : ℕ) × (end ≡ place + n + 1) × (n < length bs) × (get_or bs n 0 ≡ 34)

closes_here : (place b : ℕ) (bs value : List ℕ) (t : List ℕ × ℕ) → nat_eq b 34 ≡ true → ok (value, place + 1) ≡ Ok t → Closes place (b ∷ bs) t.1
closes_here place b bs value t quote e =
    let is : (value, place + 1) ≡ t = cc in (0, sym (ap (λ (k : List ℕ × ℕ). k.1) is) ∙ omega arith, omega arith, grind arith)

never_cut_off : (whole : Bool) (quote place : ℕ) (t : List ℕ × ℕ) {P : Type 0} → refusal_at_end whole quote place ≡ Ok t → P
never_cut_off true quote place t e = cc
never_cut_off false quote place t e = cc

-- a text, from a place behind its opening quote, ends behind its closing quote
text_from-closes : (whole : Bool) (quote place : ℕ) (value bs : List ℕ) (t : List ℕ × ℕ) → text_from whole quote place value bs ≡ Ok t
    → Closes place bs t.1
unfolding text_from
text_from-closes whole quote place value [] t e = never_cut_off whole quote place t e
text_from-closes whole quote place value (b ∷ []) t e = each (nat_eq b 34) (nat_eq b 92) (nat_lt b 32) refl e
  where
    each : (q s l : Bool) → nat_eq b 34 ≡ q
        → choose q (λ v. Ok (v, place + 1)) (choose s (λ v. refusal_at_end whole quote place)
        (choose l (λ v. Err (BadByte place)) (λ v. text_from whole quote (place + 1) (v ++ b ∷ []) []))) value ≡ Ok t
        → Closes place (b ∷ []) t.1
    each true s l q e = closes_here place b [] value t q e
    each false true l q e = never_cut_off whole quote place t e
    each false false true q e = cc
    each false false false q e = never_cut_off whole quote (place + 1) t e
text_from-closes whole quote place value (b ∷ c ∷ bs) t e =
    each (nat_eq b 34) (nat_eq b 92) (nat_lt b 32) (is_pair c) refl
    (λ v. text_from-closes whole quote (place + 2) v bs t) (λ v. text_from-closes whole quote (place + 1) v (c ∷ bs) t) e
  where
    further : (k : ℕ) (more : List ℕ) → Closes (place + 1) more k → Closes place (b ∷ more) k
    further k more (n, is, lt, quote) = (suc n, is ∙ omega arith, omega arith, quote)

    further_two : (k : ℕ) → Closes (place + 2) bs k → Closes place (b ∷ c ∷ bs) k
    further_two k (n, is, lt, quote) = (suc (suc n), is ∙ omega arith, omega arith, quote)

    each : (q s l p : Bool) → nat_eq b 34 ≡ q
        → ((v : List ℕ) → text_from whole quote (place + 2) v bs ≡ Ok t → Closes (place + 2) bs t.1)
        → ((v : List ℕ) → text_from whole quote (place + 1) v (c ∷ bs) ≡ Ok t → Closes (place + 1) (c ∷ bs) t.1)
        → choose q (λ v. Ok (v, place + 1)) (choose s
        (choose p (λ v. text_from whole quote (place + 2) (v ++ meaning_of c ∷ []) bs) (λ v. Err (BadByte place)))
        (choose l (λ v. Err (BadByte place)) (λ v. text_from whole quote (place + 1) (v ++ b ∷ []) (c ∷ bs)))) value ≡ Ok t
        → Closes place (b ∷ c ∷ bs) t.1
    each true s l p q two one e = closes_here place b (c ∷ bs) value t q e
    each false true l true q two one e = further_two t.1 (two (value ++ meaning_of c ∷ []) e)
    each false true l false q two one e = cc
    each false false true p q two one e = cc
    each false false false p q two one e = further t.1 (c ∷ bs) (one (value ++ b ∷ []) e)

piece_within_limit-size : (size : ℕ) (value : List ℕ) (quote : ℕ) (p : Piece) → piece_within_limit size value quote ≡ Ok p → p.size ≡ size
piece_within_limit-size size value quote p e = each (nat_le (length value) TEXT_LIMIT) e
  where
    each : (t : Bool) → (if t then Ok (token size (kind.Text value)) else Err (BadByte quote)) ≡ Ok p → p.size ≡ size
    each true e = let is : token size (kind.Text value) ≡ p = cc in sym (ap (λ (q : Piece). q.size) is)
    each false e = cc

-- a text with its opening quote
IsCut-text : (whole : Bool) (quote b : ℕ) (inside : List ℕ) (p : Piece) → IsUtf8 (b ∷ inside) → text_piece whole quote inside ≡ Ok p
    → IsCut (b ∷ inside) p.size
unfolding text_piece
IsCut-text whole quote b inside p utf8 e = each (text_from whole quote (quote + 1) [] inside) refl e
  where
    each : (r : Result (List ℕ × ℕ) TokenError) → text_from whole quote (quote + 1) [] inside ≡ r
        → (r >>= λ t. piece_within_limit (t.1 - quote) t.0 quote) ≡ Ok p → IsCut (b ∷ inside) p.size
    each (Err x) is e = cc
    each (Ok t) is e =
        let closes = text_from-closes whole quote (quote + 1) [] inside t is in
        let size = piece_within_limit-size (t.1 - quote) t.0 quote p e in
        IsCut-ascii (b ∷ inside) p.size (suc closes.0) utf8 (omega (arith, size, closes.1)) (omega (arith, closes.2)) (omega (arith, closes.3))

number_piece-size : (place : ℕ) (digits : List ℕ) (p : Piece) → number_piece place digits ≡ Ok p → p.size ≡ length digits
unfolding number_piece
number_piece-size place digits p e = each (nat_le (value_after 0 digits) GREATEST_NUMBER) e
  where
    each : (t : Bool)
        → choose t (λ ds. Ok (token (length ds) (kind.Number (value_after 0 ds)))) (λ ds. Err (BadByte place)) digits ≡ Ok p → p.size ≡ length digits
    each true e = let is : token (length digits) (kind.Number (value_after 0 digits)) ≡ p = cc in sym (ap (λ (q : Piece). q.size) is)
    each false e = cc

word_piece-size : (spelling : List ℕ) → (word_piece spelling).size ≡ length spelling
unfolding word_piece
word_piece-size spelling = refl

IsCut-symbol_piece : (place : ℕ) (bs : List ℕ) (p : Piece) → IsUtf8 bs → symbol_piece place bs ≡ Ok p → IsCut bs p.size
unfolding symbol_piece
IsCut-symbol_piece place bs p utf8 e = each (symbol_of bs) refl e
  where
    each : (o : Option (Symbol × ℕ)) → symbol_of bs ≡ o → found_symbol place o ≡ Ok p → IsCut bs p.size
    each None is e = cc
    each (Some s) is e =
        let P : Piece → Type 0 = λ q. IsCut bs q.size in
        let same : token s.1 (kind.Symbol s.0) ≡ p = cc in subst P same (IsCut-symbol bs s utf8 is)

IsCut-comment : (b : ℕ) (bs : List ℕ) → nat_eq b 35 ≡ true → IsCut (b ∷ bs) (length (take_while is_of_comment (b ∷ bs)))
IsCut-comment b bs e =
    record { some = length-run is_of_comment b bs (grind arith); boundary = IsCharBoundary-run is_of_comment comment_low (b ∷ bs) }

-- every piece
pub IsCut-piece : (whole : Bool) (place : ℕ) (bs : List ℕ) (p : Piece) → IsUtf8 bs → piece_of whole place bs ≡ Ok p → IsCut bs p.size
unfolding piece_of
IsCut-piece whole place [] p utf8 e = cc
IsCut-piece whole place (b ∷ bs) p utf8 e =
    each (is_blank b) (nat_eq b 35) (is_letter b) (is_digit b) (nat_eq b 34) refl refl refl refl e
  where
    same : (q : Piece) → ok q ≡ Ok p → IsCut (b ∷ bs) q.size → IsCut (b ∷ bs) p.size
    same q e cut = let P : Piece → Type 0 = λ k. IsCut (b ∷ bs) k.size in let is : q ≡ p = cc in subst P is cut

    each : (blank hash letter digit quote : Bool) → is_blank b ≡ blank → nat_eq b 35 ≡ hash → is_letter b ≡ letter → is_digit b ≡ digit
        → choose blank (λ rest. Ok (gap 1))
        (choose hash (λ rest. Ok (gap (length (take_while is_of_comment (b ∷ rest)))))
        (choose letter (λ rest. Ok (word_piece (take_while is_of_word (b ∷ rest))))
        (choose digit (λ rest. number_piece place (take_while is_digit (b ∷ rest)))
        (choose quote (λ rest. text_piece whole place rest)
        (λ rest. symbol_piece place (b ∷ rest)))))) bs ≡ Ok p
        → IsCut (b ∷ bs) p.size
    each true h l d q blank hash letter digit e =
        same (gap 1) e (IsCut-ascii (b ∷ bs) 1 0 utf8 (omega arith) (omega arith) (blank_low b blank))
    each false true l d q blank hash letter digit e = same (gap (length (take_while is_of_comment (b ∷ bs)))) e (IsCut-comment b bs hash)
    each false false true d q blank hash letter digit e =
        same (word_piece (take_while is_of_word (b ∷ bs))) e
        (let P : ℕ → Type 0 = λ k. IsCut (b ∷ bs) k in
        subst P (sym (word_piece-size (take_while is_of_word (b ∷ bs)))) (IsCut-run is_of_word b bs letter_low utf8 (rw letter refl)))
    each false false false true q blank hash letter digit e =
        let P : ℕ → Type 0 = λ k. IsCut (b ∷ bs) k in
        subst P (sym (number_piece-size place (take_while is_digit (b ∷ bs)) p e)) (IsCut-run is_digit b bs digit_low utf8 digit)
    each false false false false true blank hash letter digit e = IsCut-text whole place b bs p utf8 e
    each false false false false false blank hash letter digit e = IsCut-symbol_piece place (b ∷ bs) p utf8 e

-- the loop over a file goes on behind a piece
pub scan_step : (whole : Bool) (text rest after : List ℕ) (tokens now : List Token) (p : Piece)
    → IsUtf8 rest → length rest ≤ length text
    → joined tokens (tokens_from whole 0 (length text - length rest) rest) ≡ tokens_from whole 0 0 text
    → piece_of whole (length text - length rest) rest ≡ Ok p → after ≡ drop p.size rest
    → now ≡ tokens ++ token_list p.kind (length text - length rest) (take p.size rest)
    → (length after < length rest) × (joined now (tokens_from whole 0 (length text - length after) after) ≡ tokens_from whole 0 0 text)
scan_step whole text rest after tokens now p utf8 within said is behind pushed =
    let place = length text - length rest in
    let cut = IsCut-piece whole place rest p utf8 is in
    let one = token_list p.kind place (take p.size rest) in
    let fewer : length after + p.size ≡ length rest = omega (arith, ap length behind, length-drop p.size rest, cut.some, cut.boundary.0) in (
      omega (arith, cut.some),
      ap (λ ts. joined ts (tokens_from whole 0 (length text - length after) after)) pushed
          ∙ ap (λ q. joined (tokens ++ one) (tokens_from whole 0 q after)) (omega arith)
          ∙ ap (λ bs. joined (tokens ++ one) (tokens_from whole 0 (place + p.size) bs)) behind
          ∙ sym (joined-joined tokens one (tokens_from whole 0 (place + p.size) (drop p.size rest)))
          ∙ ap (joined tokens) (sym (tokens_from-piece whole place rest p cut.some cut.boundary.0 is))
          ∙ said,
    )

-- the file is refused where a piece is
pub scan_refuses : (whole : Bool) (text rest : List ℕ) (tokens : List Token) (e : TokenError) (A : Type 0) (r : Result A TokenError)
    → 0 < length rest → joined tokens (tokens_from whole 0 (length text - length rest) rest) ≡ tokens_from whole 0 0 text
    → RefusesOrMemory refusal e (piece_of whole (length text - length rest) rest) → IsErrAnd r (λ y. y ≡ e)
    → IfErr r (λ y. RefusesOrMemory refusal y (tokens_from whole 0 0 text))
scan_refuses whole text rest tokens e A r some said refused gives = each r gives
  where
    through : (x : TokenError) → RefusesOrMemory refusal x (piece_of whole (length text - length rest) rest) → RefusesOrMemory refusal x (tokens_from whole 0 0 text)
    through (BadByte q) h = sym said ∙ ap (joined tokens) (tokens_from-fails whole (length text - length rest) rest (BadByte q) some h)
    through (OpenText q) h = sym said ∙ ap (joined tokens) (tokens_from-fails whole (length text - length rest) rest (OpenText q) some h)
    through Memory h = tt

    each : (r : Result A TokenError) → IsErrAnd r (λ y. y ≡ e) → IfErr r (λ y. RefusesOrMemory refusal y (tokens_from whole 0 0 text))
    each (Ok x) h = tt
    each (Err y) h = through y (let P : TokenError → Type 0 = λ x. RefusesOrMemory refusal x (piece_of whole (length text - length rest) rest) in subst P (sym h) refused)

-- nothing is left of the file
scan_ends : (whole : Bool) (text rest : List ℕ) (tokens : List Token) → length rest ≡ 0
    → joined tokens (tokens_from whole 0 (length text - length rest) rest) ≡ tokens_from whole 0 0 text
    → tokens_from whole 0 0 text ≡ (if whole then Ok tokens else Err (BadByte (length text)))
unfolding tokens_from
scan_ends true text [] tokens none said = sym said ∙ ap Ok (append-nil tokens)
scan_ends false text [] tokens none said = sym said ∙ ap (λ q. Err (BadByte q)) (omega arith)
scan_ends whole text (b ∷ bs) tokens none said = absurd (omega arith)

pub scan_accepts : (whole : Bool) (text rest : List ℕ) (tokens now : List Token) → length rest ≡ 0
    → joined tokens (tokens_from whole 0 (length text - length rest) rest) ≡ tokens_from whole 0 0 text
    → whole ≡ true → now ≡ tokens → tokens_from whole 0 0 text ≡ Ok now
scan_accepts whole text rest tokens now none said is same =
    scan_ends whole text rest tokens none said ∙ ap (λ w. if w then Ok tokens else Err (BadByte (length text))) is ∙ ap (λ ts. Ok ts) (sym same)

pub scan_stops : (whole : Bool) (text rest : List ℕ) (tokens : List Token) → length rest ≡ 0
    → joined tokens (tokens_from whole 0 (length text - length rest) rest) ≡ tokens_from whole 0 0 text
    → whole ≡ false → tokens_from whole 0 0 text ≡ Err (BadByte (length text))
scan_stops whole text rest tokens none said is =
    scan_ends whole text rest tokens none said ∙ ap (λ w. if w then Ok tokens else Err (BadByte (length text))) is

-- what is left behind a piece is text
pub IsUtf8-behind : (whole : Bool) (place : ℕ) (rest after : List ℕ) (p : Piece) → IsUtf8 rest → piece_of whole place rest ≡ Ok p
    → after ≡ drop p.size rest → IsUtf8 after
IsUtf8-behind whole place rest after p utf8 is behind =
    let P : List ℕ → Type 0 = λ bs. IsUtf8 bs in
    subst P (sym behind) (IsUtf8-drop rest p.size utf8 (IsCut-piece whole place rest p utf8 is).boundary)
