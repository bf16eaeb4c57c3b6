-- Tokens stand in their file in order, with blanks and comments alone between them.
use Rattle.std.proofs.Common.{◌≡◌, ℕ, zero, suc, ◌+◌, ◌-◌, ◌≤◌, List, [], ◌∷◌, ◌++◌, length, drop, take, refl, sym, ap, ◌∙◌, arith, Bool, true, false, cond, not, nat_eq, nat_le, append_assoc, subst, length-drop, length-append, length-take, ◌⊎◌, inl, inr, Option, Some, None, Result, Ok, Err}
use Rattle.std.specs.Prelude.{⊤, take_while, if◌then◌else◌, IsSome}
use Rattle.std.specs.Str.{IsUtf8}
use Rattle.std.proofs.lemmas.Str.{IsUtf8-drop}
use Rattle.std.proofs.lemmas.List.{take-append-drop}
use Rattle.std.proofs.lemmas.List.Sums.{take_while-cons}
use Rattle.app_tokens.specs.declared.piece.Piece.{Piece}
use Rattle.app_tokens.specs.declared.token.Token.{Token}
use Rattle.app_tokens.specs.declared.token.Kind.{Kind}
use Rattle.app_tokens.specs.declared.error.TokenError.{TokenError}
use Rattle.app_tokens.specs.declared.error.TokenError.TheVariants.{BadByte}
use Rattle.app_tokens.specs.declared.symbol.Symbol.{Symbol}
use Rattle.app_tokens.specs.declared.token.Kind.TheVariants as kind
use Rattle.app_tokens.specs.Symbol.{symbol_of}
use Rattle.rx_value.specs.Names.{is_letter, is_digit, is_of_word}
use Rattle.rx_value.specs.Results.{choose, ◌>>=◌}
use Rattle.rx_value.specs.declared.limits.TheConstants.{TEXT_LIMIT, GREATEST_NUMBER}
use Rattle.app_tokens.specs.Scan.{is_blank, is_of_comment, value_after, word_piece, number_piece, text_from, piece_within_limit, text_piece, found_symbol, symbol_piece, piece_of, tokens_from, token_list, gap, token}
use Rattle.app_tokens.specs.Tokens.{Tokens}
use Rattle.std.specs.Result.{IfOk}
use Rattle.app_tokens.specs.Layout.{comment_after, StandBehind, StandIn}
use Rattle.app_tokens.proofs.Digits.{take-length-take_while}
use Rattle.app_tokens.proofs.Pieces.{ok, joined, tokens_from-piece, tokens_from-fails, IsCut, IsCut-piece}

-- bytes before which a comment is open begin with its line feed
abbrev Closes : Bool → List ℕ → Type 0
Closes true bs = begins bs
  where
    begins : List ℕ → Type 0
    begins [] = ⊤
    begins (b ∷ more) = b ≡ 10
Closes false bs = ⊤

-- bytes that leave a comment open or not may stand before a gap
StandBehind-gap : (before between : Bool) (place : ℕ) (front rest : List ℕ) (tokens : List Token)
    → ((bs : List ℕ) → comment_after before (front ++ bs) ≡ comment_after between bs)
    → StandBehind between (place + length front) rest tokens → StandBehind before place (front ++ rest) tokens
StandBehind-gap before between place front rest [] same stand = let P : Option Bool → Type 0 = λ o. IsSome o in subst P (sym (same rest)) stand
StandBehind-gap before between place front rest (t ∷ more) same (gap, left, clear, at, is, stand) =
    (front ++ gap, left, same gap ∙ clear, at ∙ omega (arith, length-append front gap), ap (λ bs. front ++ bs) is ∙ sym (append_assoc front gap (t.spelling ++ left)), stand)

-- a run of a comment's bytes leaves it open
comment_after-run : (bs more : List ℕ) → comment_after true (take_while is_of_comment bs ++ more) ≡ comment_after true more
comment_after-run [] more = refl
comment_after-run (b ∷ bs) more = rw (take_while-cons is_of_comment b bs) (each (nat_eq b 10) refl (comment_after-run bs more))
  where
    each : (t : Bool) → nat_eq b 10 ≡ t → comment_after true (take_while is_of_comment bs ++ more) ≡ comment_after true more
        → comment_after true (cond (not t) (b ∷ take_while is_of_comment bs) [] ++ more) ≡ comment_after true more
    each true e run = refl
    each false e run = rw (e, comment_after) run

abbrev IsToken : Piece → Type 0
IsToken p = IsSome p.kind

number_token : (place : ℕ) (digits : List ℕ) (p : Piece) → number_piece place digits ≡ Ok p → IsToken p
unfolding number_piece
number_token place digits p e = each (nat_le (value_after 0 digits) GREATEST_NUMBER) e
  where
    each : (t : Bool)
        → choose t (λ ds. Ok (token (length ds) (kind.Number (value_after 0 ds)))) (λ ds. Err (BadByte place)) digits ≡ Ok p → IsToken p
    each true e = let is : token (length digits) (kind.Number (value_after 0 digits)) ≡ p = cc in let P : Piece → Type 0 = λ q. IsToken q in subst P is refl
    each false e = cc

limited_token : (size : ℕ) (value : List ℕ) (quote : ℕ) (p : Piece) → piece_within_limit size value quote ≡ Ok p → IsToken p
limited_token size value quote p e = each (nat_le (length value) TEXT_LIMIT) e
  where
    each : (t : Bool) → (if t then Ok (token size (kind.Text value)) else Err (BadByte quote)) ≡ Ok p → IsToken p
    each true e = let is : token size (kind.Text value) ≡ p = cc in let P : Piece → Type 0 = λ q. IsToken q in subst P is refl
    each false e = cc

text_token : (whole : Bool) (quote : ℕ) (inside : List ℕ) (p : Piece) → text_piece whole quote inside ≡ Ok p → IsToken p
unfolding text_piece
text_token whole quote inside p e = each (text_from whole quote (quote + 1) [] inside) e
  where
    each : (r : Result (List ℕ × ℕ) TokenError) → (r >>= λ t. piece_within_limit (t.1 - quote) t.0 quote) ≡ Ok p → IsToken p
    each (Err x) e = cc
    each (Ok t) e = limited_token (t.1 - quote) t.0 quote p e

symbol_token : (place : ℕ) (bs : List ℕ) (p : Piece) → symbol_piece place bs ≡ Ok p → IsToken p
unfolding symbol_piece
symbol_token place bs p e = each (symbol_of bs) e
  where
    each : (o : Option (Symbol × ℕ)) → found_symbol place o ≡ Ok p → IsToken p
    each None e = cc
    each (Some s) e = let is : token s.1 (kind.Symbol s.0) ≡ p = cc in let P : Piece → Type 0 = λ q. IsToken q in subst P is refl

word_token : (spelling : List ℕ) (p : Piece) → ok (word_piece spelling) ≡ Ok p → IsToken p
unfolding word_piece
word_token spelling p e =
    let is : word_piece spelling ≡ p = cc in let P : Piece → Type 0 = λ q. IsToken q in subst P is refl

-- a piece is a blank, a comment, or a token that begins with no blank
piece_of-cases : (whole : Bool) (place b : ℕ) (bs : List ℕ) (p : Piece) → piece_of whole place (b ∷ bs) ≡ Ok p
    → ((is_blank b ≡ true) × (gap 1 ≡ p))
    ⊎ (((nat_eq b 35 ≡ true) × (gap (length (take_while is_of_comment (b ∷ bs))) ≡ p)) ⊎ ((is_blank b ≡ false) × IsToken p))
unfolding piece_of
piece_of-cases whole place b bs p e = each (is_blank b) (nat_eq b 35) (is_letter b) (is_digit b) (nat_eq b 34) refl refl e
  where
    each : (blank hash letter digit quote : Bool) → is_blank b ≡ blank → nat_eq b 35 ≡ hash
        → choose blank (λ rest. Ok (gap 1))
        (choose hash (λ rest. Ok (gap (length (take_while is_of_comment (b ∷ rest)))))
        (choose letter (λ rest. Ok (word_piece (take_while is_of_word (b ∷ rest))))
        (choose digit (λ rest. number_piece place (take_while is_digit (b ∷ rest)))
        (choose quote (λ rest. text_piece whole place rest)
        (λ rest. symbol_piece place (b ∷ rest)))))) bs ≡ Ok p
        → ((is_blank b ≡ true) × (gap 1 ≡ p))
        ⊎ (((nat_eq b 35 ≡ true) × (gap (length (take_while is_of_comment (b ∷ bs))) ≡ p)) ⊎ ((is_blank b ≡ false) × IsToken p))
    each true h l d q blank hash e = inl (blank, cc)
    each false true l d q blank hash e = inr (inl (hash, cc))
    each false false true d q blank hash e = inr (inr (blank, word_token (take_while is_of_word (b ∷ bs)) p e))
    each false false false true q blank hash e = inr (inr (blank, number_token place (take_while is_digit (b ∷ bs)) p e))
    each false false false false true blank hash e = inr (inr (blank, text_token whole place bs p e))
    each false false false false false blank hash e = inr (inr (blank, symbol_token place (b ∷ bs) p e))

-- what a piece between tokens leaves open
record Leaves (before : Bool) (front rest : List ℕ) : Type 0 where
  pub open_after : Bool
  pub closes : Closes open_after rest
  pub same : (bs : List ℕ) → comment_after before (front ++ bs) ≡ comment_after open_after bs

Leaves-blank : (before : Bool) (b : ℕ) (bs : List ℕ) → is_blank b ≡ true → Closes before (b ∷ bs) → Leaves before (take 1 (b ∷ bs)) (drop 1 (b ∷ bs))
Leaves-blank true b bs blank close = record { open_after = false; closes = tt; same = λ more. rw close refl }
Leaves-blank false b bs blank close = record { open_after = false; closes = tt; same = λ more. rw blank refl }

Closes-run : (bs : List ℕ) → Closes true (drop (length (take_while is_of_comment bs)) bs)
Closes-run [] = tt
Closes-run (b ∷ bs) = rw (take_while-cons is_of_comment b bs) (each (nat_eq b 10) refl (Closes-run bs))
  where
    each : (t : Bool) → nat_eq b 10 ≡ t → Closes true (drop (length (take_while is_of_comment bs)) bs)
        → Closes true (drop (length (cond (not t) (b ∷ take_while is_of_comment bs) [])) (b ∷ bs))
    each true e close = grind arith
    each false e close = close

comment_after-hash : (b : ℕ) (bs : List ℕ) → nat_eq b 35 ≡ true → comment_after false (b ∷ bs) ≡ comment_after true bs
comment_after-hash b bs hash = let blank : is_blank b ≡ false = grind arith in rw (blank, hash) refl

take-comment : (b : ℕ) (bs : List ℕ) → nat_eq b 35 ≡ true
    → take (length (take_while is_of_comment (b ∷ bs))) (b ∷ bs) ≡ b ∷ take_while is_of_comment bs
take-comment b bs hash =
    let other : nat_eq b 10 ≡ false = grind arith in
    take-length-take_while is_of_comment (b ∷ bs) ∙ take_while-cons is_of_comment b bs
    ∙ ap (λ (t : Bool). cond (not t) (b ∷ take_while is_of_comment bs) []) other

Leaves-comment : (before : Bool) (b : ℕ) (bs : List ℕ) → nat_eq b 35 ≡ true → Closes before (b ∷ bs)
    → Leaves before (take (length (take_while is_of_comment (b ∷ bs))) (b ∷ bs)) (drop (length (take_while is_of_comment (b ∷ bs))) (b ∷ bs))
Leaves-comment true b bs hash close = absurd (grind arith)
Leaves-comment false b bs hash close =
    record {
      open_after = true;
      closes = Closes-run (b ∷ bs);
      same = λ more. ap (λ front. comment_after false (front ++ more)) (take-comment b bs hash)
          ∙ comment_after-hash b (take_while is_of_comment bs ++ more) hash ∙ comment_after-run bs more;
    }

-- the tokens of what is left stand in it, of at most n bytes
abbrev StandsBelow : ℕ → Bool → Type 0
StandsBelow n whole =
    (place : ℕ) (bs : List ℕ) (ts : List Token) (before : Bool) → length bs ≤ n → IsUtf8 bs → Closes before bs
    → tokens_from whole 0 place bs ≡ Ok ts → StandBehind before place bs ts

-- and so do those behind a piece between tokens
stand-gap : (place size : ℕ) (bs : List ℕ) (ts more : List Token) (before : Bool) → size ≤ length bs
    → (leaves : Leaves before (take size bs) (drop size bs)) → more ≡ ts
    → StandBehind leaves.open_after (place + size) (drop size bs) more → StandBehind before place bs ts
stand-gap place size bs ts more before le leaves is stand =
    let P : List ℕ → Type 0 = λ cs. StandBehind before place cs more in
    let Q : ℕ → Type 0 = λ q. StandBehind leaves.open_after q (drop size bs) more in
    let R : List Token → Type 0 = λ us. StandBehind before place bs us in
    subst R is (subst P (take-append-drop size bs)
    (StandBehind-gap before leaves.open_after place (take size bs) (drop size bs) more leaves.same
    (subst Q (omega (arith, length-take size bs)) stand)))

-- and a token with those behind it
stand-token : (place : ℕ) (b : ℕ) (bs : List ℕ) (p : Piece) (ts more : List Token) (before : Bool) → p.size ≤ length (b ∷ bs) → Closes before (b ∷ bs)
    → is_blank b ≡ false → IsToken p → token_list p.kind place (take p.size (b ∷ bs)) ++ more ≡ ts
    → StandBehind false (place + p.size) (drop p.size (b ∷ bs)) more → StandBehind before place (b ∷ bs) ts
stand-token place b bs p ts more true le close clear one is stand = absurd (grind arith)
stand-token place b bs p ts more false le close clear one is stand = each p.kind one is
  where
    each : (k : Option Kind) → IsSome k → token_list k place (take p.size (b ∷ bs)) ++ more ≡ ts → StandBehind false place (b ∷ bs) ts
    each None one is = cc
    each (Some k) one is =
        let P : List Token → Type 0 = λ us. StandBehind false place (b ∷ bs) us in
        let Q : ℕ → Type 0 = λ q. StandBehind false q (drop p.size (b ∷ bs)) more in
        subst P is (
          [],
          drop p.size (b ∷ bs),
          refl,
          omega arith,
          sym (take-append-drop p.size (b ∷ bs)),
          subst Q (omega (arith, length-take p.size (b ∷ bs))) stand,
        )

-- what stands behind a piece, if it has tokens, gives with the piece's tokens all
Goes : ℕ → Bool → ℕ → List ℕ → List Token → Bool → Piece → Type 0
Goes n whole place bs ts before p =
    (more : List Token) → IsCut bs p.size → tokens_from whole 0 (place + p.size) (drop p.size bs) ≡ Ok more
    → ok (token_list p.kind place (take p.size bs) ++ more) ≡ Ok ts → IsUtf8 (drop p.size bs) → StandBehind before place bs ts

goes-gap : (n : ℕ) (whole : Bool) (place size : ℕ) (bs : List ℕ) (ts : List Token) (before : Bool) → length bs ≤ suc n → StandsBelow n whole
    → Leaves before (take size bs) (drop size bs) → Goes n whole place bs ts before (gap size)
unfolding Goes
goes-gap n whole place size bs ts before le below leaves = λ more cut rest all utf8.
    stand-gap place size bs ts more before cut.boundary.0 leaves (cc)
    (below (place + size) (drop size bs) more leaves.open_after (omega (arith, length-drop size bs, cut.some, cut.boundary.0)) utf8 leaves.closes rest)

goes-token : (n : ℕ) (whole : Bool) (place b : ℕ) (bs : List ℕ) (ts : List Token) (before : Bool) (p : Piece) → length (b ∷ bs) ≤ suc n
    → StandsBelow n whole → Closes before (b ∷ bs) → is_blank b ≡ false → IsToken p → Goes n whole place (b ∷ bs) ts before p
unfolding Goes
goes-token n whole place b bs ts before p le below close clear one = λ more cut rest all utf8.
    stand-token place b bs p ts more before cut.boundary.0 close clear one (cc)
    (below (place + p.size) (drop p.size (b ∷ bs)) more false (omega (arith, length-drop p.size (b ∷ bs), cut.some, cut.boundary.0)) utf8 tt rest)

goes : (n : ℕ) (whole : Bool) (place b : ℕ) (bs : List ℕ) (ts : List Token) (before : Bool) (p : Piece) → length (b ∷ bs) ≤ suc n
    → StandsBelow n whole → Closes before (b ∷ bs) → piece_of whole place (b ∷ bs) ≡ Ok p → Goes n whole place (b ∷ bs) ts before p
goes n whole place b bs ts before p le below close is = each (piece_of-cases whole place b bs p is)
  where
    each : ((is_blank b ≡ true) × (gap 1 ≡ p))
        ⊎ (((nat_eq b 35 ≡ true) × (gap (length (take_while is_of_comment (b ∷ bs))) ≡ p)) ⊎ ((is_blank b ≡ false) × IsToken p))
        → Goes n whole place (b ∷ bs) ts before p
    each (inl (blank, same)) =
        subst (Goes n whole place (b ∷ bs) ts before) same (goes-gap n whole place 1 (b ∷ bs) ts before le below (Leaves-blank before b bs blank close))
    each (inr (inl (hash, same))) =
        subst (Goes n whole place (b ∷ bs) ts before) same
        (goes-gap n whole place (length (take_while is_of_comment (b ∷ bs))) (b ∷ bs) ts before le below (Leaves-comment before b bs hash close))
    each (inr (inr (clear, one))) = goes-token n whole place b bs ts before p le below close clear one

stand-piece : (n : ℕ) (whole : Bool) (place b : ℕ) (bs : List ℕ) (ts : List Token) (before : Bool) → length (b ∷ bs) ≤ suc n
    → IsUtf8 (b ∷ bs) → Closes before (b ∷ bs) → StandsBelow n whole → tokens_from whole 0 place (b ∷ bs) ≡ Ok ts → StandBehind before place (b ∷ bs) ts
unfolding Goes
stand-piece n whole place b bs ts before le utf8 close below e = each (piece_of whole place (b ∷ bs)) refl
  where
    further : (p : Piece) (r : Result (List Token) TokenError) → piece_of whole place (b ∷ bs) ≡ Ok p → IsCut (b ∷ bs) p.size
        → tokens_from whole 0 (place + p.size) (drop p.size (b ∷ bs)) ≡ r
        → joined (token_list p.kind place (take p.size (b ∷ bs))) r ≡ Ok ts → StandBehind before place (b ∷ bs) ts
    further p (Err x) is cut rest all = cc
    further p (Ok more) is cut rest all =
        goes n whole place b bs ts before p le below close is more cut rest all
        (IsUtf8-drop (b ∷ bs) p.size utf8 cut.boundary)

    each : (r : Result Piece TokenError) → piece_of whole place (b ∷ bs) ≡ r → StandBehind before place (b ∷ bs) ts
    each (Err x) is = let no : ok ts ≡ Err x = sym e ∙ tokens_from-fails whole place (b ∷ bs) x (omega arith) is in cc
    each (Ok p) is =
        let cut = IsCut-piece whole place (b ∷ bs) p utf8 is in
        further p (tokens_from whole 0 (place + p.size) (drop p.size (b ∷ bs))) is cut refl
        (sym (tokens_from-piece whole place (b ∷ bs) p cut.some cut.boundary.0 is) ∙ e)

-- the tokens of a file stand in it
stand : (n : ℕ) (whole : Bool) → StandsBelow n whole
unfolding tokens_from
stand n whole place [] ts before le utf8 close e = none whole e
  where
    none : (w : Bool) → (if w then Ok [] else Err (BadByte place)) ≡ Ok ts → StandBehind before place [] ts
    none true e = let P : List Token → Type 0 = λ us. StandBehind before place [] us in let is : [] ≡ ts = cc in subst P is refl
    none false e = cc
stand zero whole place (b ∷ bs) ts before le utf8 close e = absurd (omega arith)
stand (suc n) whole place (b ∷ bs) ts before le utf8 close e = stand-piece n whole place b bs ts before le utf8 close (stand n whole) e

-- the tokens that are found in a text stand in it
StandIn-tokens : (whole : Bool) (text : List ℕ) (ts : List Token) → IsUtf8 text → tokens_from whole 0 0 text ≡ Ok ts → StandIn 0 text ts
StandIn-tokens whole text ts utf8 e = stand (length text) whole 0 text ts false (omega arith) utf8 tt e

-- of a call's result: a list is one of a file that is UTF-8 throughout, and its tokens stand in it
pub StandIn-whole : (bytes text : List ℕ) (r : Result Tokens TokenError) → text ≡ bytes → IsUtf8 bytes
    → IfOk r (λ list. tokens_from true 0 0 text ≡ Ok list.tokens) → IfOk r (λ list. StandIn 0 bytes list.tokens)
StandIn-whole bytes text (Ok list) same utf8 said =
    StandIn-tokens true bytes list.tokens utf8 (ap (λ bs. tokens_from true 0 0 bs) (sym same) ∙ said)
StandIn-whole bytes text (Err e) same utf8 said = tt
