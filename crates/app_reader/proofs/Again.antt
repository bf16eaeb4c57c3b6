-- What is spelled is read: single tokens, one part after another, and loops.
use Rattle.std.proofs.Common.{◌≡◌, ℕ, zero, suc, ◌<◌, ◌≤◌, Bool, true, false, ◌||◌, List, [], ◌∷◌, ◌++◌, length, Result, Ok, Err, Option, Some, None, refl, sym, ap, subst, ◌∙◌, arith, append_assoc, inl, inr}
use Rattle.std.specs.Prelude.{nat_eq}
use Rattle.std.proofs.lemmas.List.{append-nil}
use Rattle.app_tokens.specs.declared.token.Token.{Token}
use Rattle.app_tokens.specs.declared.token.Kind.{Kind}
use Rattle.app_tokens.specs.declared.token.Kind.TheVariants as kind
use Rattle.app_tokens.specs.declared.word.Word.{Word}
use Rattle.app_tokens.specs.declared.symbol.Symbol.{Symbol}
use Rattle.app_tokens.specs.Tokens.{Tokens}
use Rattle.app_tokens.specs.Kind.{word_code, symbol_code, is_word, is_symbol}
use Rattle.app_tree.specs.declared.draft_term.Name.{Name}
use Rattle.app_reader.specs.declared.error.ReadError.{ReadError}
use Rattle.app_reader.specs.declared.error.ReadError.TheVariants as error
use Rattle.rx_value.specs.Results.{◌>>=◌, choose}
use Rattle.app_reader.specs.State.{Reads, choose_some, place_of, place_in, rest_of, skip, is_of_first, is_word_next, is_symbol_next, is_name, word_of, word_in, symbol_of, symbol_in, unexpected, word_at, symbol_at, name_at, name_in, number_at, text_at, turns_of}
use Rattle.app_reader.specs.Spelling.{Wanted, of_kind, at_place, named, called, IsNamed, IsWanted, Wording, ends, next, either, IsSpelledBy, a_word, a_symbol, a_number, a_name}

-- ---- what is read

-- r reads x from s, and leaves what is spelled after it
pub record To {A : Type 0} (s : Tokens) (r : Result (A × Tokens) ReadError) (x : A) (after : Wording) : Type 0 where
  pub rest : Tokens
  pub gives : r ≡ Ok (x, rest)
  pub spells : IsSpelledBy after rest.tokens
  pub shorter : length rest.tokens ≤ length s.tokens

-- wherever this is spelled, x is read, and the rest is left
abbrev pub Again : {A : Type 0} → Reads A → Wording → A → Wording → Type 0
Again p spelled x after = (s : Tokens) → IsSpelledBy spelled s.tokens → To s (p s) x after

pub then1 : {A B : Type 0} {a : A} {after : Wording} (s : Tokens) (r : Result (A × Tokens) ReadError) (make : A → B) → To s r a after → To s (r >>= λ a. Ok (make a.0, a.1)) (make a) after
then1 s r make h = record { rest = h.rest; gives = ap (λ r. r >>= λ a. Ok (make a.0, a.1)) h.gives; spells = h.spells; shorter = h.shorter }

pub then2 : {A B C : Type 0} {a : A} {b : B} {mid after : Wording} (s : Tokens) (r : Result (A × Tokens) ReadError) (q : Reads B) (make : A → B → C) → To s r a mid → Again q mid b after
    → To s (r >>= λ a. q a.1 >>= λ b. Ok (make a.0 b.0, b.1)) (make a b) after
then2 {a = a} {b = b} s r q make h k =
    let g = k h.rest h.spells in
    let fewer : length g.rest.tokens ≤ length s.tokens = omega (arith, g.shorter, h.shorter) in
    record {
      rest = g.rest;
      gives = ap (λ r. r >>= λ a. q a.1 >>= λ b. Ok (make a.0 b.0, b.1)) h.gives ∙ ap (λ r. r >>= λ b. Ok (make a b.0, b.1)) g.gives;
      spells = g.spells;
      shorter = fewer;
    }

pub then3 : {A B C D : Type 0} {a : A} {b : B} {c : C} {m1 m2 after : Wording} (s : Tokens) (r : Result (A × Tokens) ReadError) (q : Reads B) (p : Reads C) (make : A → B → C → D)
    → To s r a m1 → Again q m1 b m2 → Again p m2 c after → To s (r >>= λ a. q a.1 >>= λ b. p b.1 >>= λ c. Ok (make a.0 b.0 c.0, c.1)) (make a b c) after
then3 {a = a} {b = b} {c = c} s r q p make h k l =
    let g = k h.rest h.spells in
    let f = l g.rest g.spells in
    let fewer : length f.rest.tokens ≤ length s.tokens = omega (arith, g.shorter, h.shorter, f.shorter) in
    record {
      rest = f.rest;
      gives = ap (λ r. r >>= λ a. q a.1 >>= λ b. p b.1 >>= λ c. Ok (make a.0 b.0 c.0, c.1)) h.gives
          ∙ ap (λ r. r >>= λ b. p b.1 >>= λ c. Ok (make a b.0 c.0, c.1)) g.gives ∙ ap (λ r. r >>= λ c. Ok (make a b c.0, c.1)) f.gives;
      spells = f.spells;
      shorter = fewer;
    }

pub then4 : {A B C D E : Type 0} {a : A} {b : B} {c : C} {d : D} {m1 m2 m3 after : Wording} (s : Tokens) (r : Result (A × Tokens) ReadError) (q : Reads B) (p : Reads C) (o : Reads D) (make : A → B → C → D → E)
    → To s r a m1 → Again q m1 b m2 → Again p m2 c m3 → Again o m3 d after → To s (r >>= λ a. q a.1 >>= λ b. p b.1 >>= λ c. o c.1 >>= λ d. Ok (make a.0 b.0 c.0 d.0, d.1)) (make a b c d) after
then4 {a = a} {b = b} {c = c} {d = d} s r q p o make h k l m =
    let g = k h.rest h.spells in
    let f = l g.rest g.spells in
    let e = m f.rest f.spells in
    let fewer : length e.rest.tokens ≤ length s.tokens = omega (arith, g.shorter, h.shorter, f.shorter, e.shorter) in
    record {
      rest = e.rest;
      gives = ap (λ r. r >>= λ a. q a.1 >>= λ b. p b.1 >>= λ c. o c.1 >>= λ d. Ok (make a.0 b.0 c.0 d.0, d.1)) h.gives
          ∙ ap (λ r. r >>= λ b. p b.1 >>= λ c. o c.1 >>= λ d. Ok (make a b.0 c.0 d.0, d.1)) g.gives
          ∙ ap (λ r. r >>= λ c. o c.1 >>= λ d. Ok (make a b c.0 d.0, d.1)) f.gives ∙ ap (λ r. r >>= λ d. Ok (make a b c d.0, d.1)) e.gives;
      spells = e.spells;
      shorter = fewer;
    }

-- one way of two
pub by_first : {A X : Type 0} {y : A} {after : Wording} (b : Bool) (f g : X → Result (A × Tokens) ReadError) (x : X) (s : Tokens) → b ≡ true → To s (f x) y after → To s (choose b f g x) y after
by_first b f g x s e h = record { rest = h.rest; gives = ap (λ b. choose b f g x) e ∙ h.gives; spells = h.spells; shorter = h.shorter }

pub by_other : {A X : Type 0} {y : A} {after : Wording} (b : Bool) (f g : X → Result (A × Tokens) ReadError) (x : X) (s : Tokens) → b ≡ false → To s (g x) y after → To s (choose b f g x) y after
by_other b f g x s e h = record { rest = h.rest; gives = ap (λ b. choose b f g x) e ∙ h.gives; spells = h.spells; shorter = h.shorter }

pub by_found : {A B : Type 0} {y : A} {after : Wording} (o : Option B) (b : B) (f : B → Reads A) (g : Reads A) (s : Tokens) → o ≡ Some b → To s (f b s) y after → To s (choose_some o f g s) y after
by_found o b f g s e h = record { rest = h.rest; gives = ap (λ o. choose_some o f g s) e ∙ h.gives; spells = h.spells; shorter = h.shorter }

pub by_none : {A B : Type 0} {y : A} {after : Wording} (o : Option B) (f : B → Reads A) (g : Reads A) (s : Tokens) → o ≡ None → To s (g s) y after → To s (choose_some o f g s) y after
by_none o f g s e h = record { rest = h.rest; gives = ap (λ o. choose_some o f g s) e ∙ h.gives; spells = h.spells; shorter = h.shorter }

-- ---- the next token

abbrev pub kind_of : Wanted → Kind
kind_of (of_kind k) = k
kind_of (at_place k place) = k
kind_of (named n) = kind.Name
kind_of (called place n) = kind.Name

kind_is : (w : Wanted) (t : Token) → IsWanted w t → t.kind ≡ kind_of w
kind_is (of_kind k) t h = h
kind_is (at_place k place) t h = h.0
kind_is (named n) t h = h.is_name
kind_is (called place n) t h = h.0.is_name

pub first_is : (test : Kind → Bool) (w : Wanted) (more : Wording) (ts : List Token) → IsSpelledBy (next w more) ts → is_of_first test ts ≡ test (kind_of w)
first_is test w more [] h = absurd h
first_is test w more (t ∷ ts) h = ap test (kind_is w t h.0)

pub word_is : (w : Wanted) (more : Wording) (ts : List Token) → IsSpelledBy (next w more) ts → word_in ts ≡ word_of (kind_of w)
word_is w more [] h = absurd h
word_is w more (t ∷ ts) h = ap word_of (kind_is w t h.0)

pub symbol_is : (w : Wanted) (more : Wording) (ts : List Token) → IsSpelledBy (next w more) ts → symbol_in ts ≡ symbol_of (kind_of w)
symbol_is w more [] h = absurd h
symbol_is w more (t ∷ ts) h = ap symbol_of (kind_is w t h.0)

pub tail_is : (w : Wanted) (more : Wording) (ts : List Token) → IsSpelledBy (next w more) ts → IsSpelledBy more (rest_of ts)
tail_is w more [] h = absurd h
tail_is w more (t ∷ ts) h = h.1

pub fewer_is : (w : Wanted) (more : Wording) (ts : List Token) → IsSpelledBy (next w more) ts → suc (length (rest_of ts)) ≡ length ts
fewer_is w more [] h = absurd h
fewer_is w more (t ∷ ts) h = refl

pub place_is : (k : Kind) (place : ℕ) (more : Wording) (s : Tokens) → IsSpelledBy (next (at_place k place) more) s.tokens → place_of s ≡ place
place_is k place more s h = by s.tokens h
  where
    by : (ts : List Token) → IsSpelledBy (next (at_place k place) more) ts → place_in ts s.end ≡ place
    by [] h = absurd h
    by (t ∷ ts) h = h.0.1

-- what is read behind the next token
pub behind : {A : Type 0} {x : A} {after : Wording} (s : Tokens) (r : Result (A × Tokens) ReadError) (w : Wanted) (more : Wording) → IsSpelledBy (next w more) s.tokens → To (skip s) r x after → To s r x after
behind s r w more is h =
    let fewer : length h.rest.tokens ≤ length s.tokens = omega (arith, h.shorter, fewer_is w more s.tokens is) in
    record { rest = h.rest; gives = h.gives; spells = h.spells; shorter = fewer }

-- what may begin such tokens
abbrev pub may_begin : (Kind → Bool) → Wording → Bool
may_begin test ends = false
may_begin test (next w more) = test (kind_of w)
may_begin test (either one other) = may_begin test one || may_begin test other

or_left : (a b : Bool) → (a || b) ≡ false → a ≡ false
or_left true b e = absurd cc
or_left false b e = refl

or_right : (a b : Bool) → (a || b) ≡ false → b ≡ false
or_right true b e = absurd cc
or_right false b e = e

pub never : (test : Kind → Bool) (w : Wording) (ts : List Token) → may_begin test w ≡ false → IsSpelledBy w ts → is_of_first test ts ≡ false
never test ends [] e h = refl
never test ends (t ∷ ts) e h = absurd h
never test (next w more) ts e h = first_is test w more ts h ∙ e
never test (either one other) ts e (inl h) = never test one ts (or_left (may_begin test one) (may_begin test other) e) h
never test (either one other) ts e (inr h) = never test other ts (or_right (may_begin test one) (may_begin test other) e) h

-- a weaker test begins less
pub begins_less : (test other : Kind → Bool) → ((k : Kind) → other k ≡ true → test k ≡ true) → (w : Wording) → may_begin test w ≡ false → may_begin other w ≡ false
begins_less test other h ends e = refl
begins_less test other h (next w more) e = no_more (test (kind_of w)) (other (kind_of w)) (h (kind_of w)) e
  where
    no_more : (a b : Bool) → (b ≡ true → a ≡ true) → a ≡ false → b ≡ false
    no_more a true h e = sym (h refl) ∙ e
    no_more a false h e = refl
begins_less test other h (either one two) e =
    let left = begins_less test other h one (or_left (may_begin test one) (may_begin test two) e) in
    let right = begins_less test other h two (or_right (may_begin test one) (may_begin test two) e) in
    ap (λ b. b || may_begin other two) left ∙ right

-- ---- single tokens

pub same_refl : (n : ℕ) → nat_eq n n ≡ true
same_refl n = grind arith

pub symbol_again : (x : Symbol) (after : Wording) → Again (symbol_at x) (a_symbol x after) tt after
unfolding symbol_at
symbol_again x after s h = by_first (is_symbol_next x s) (λ t. Ok (tt, skip t)) unexpected s s (first_is (is_symbol x) (of_kind (kind.Symbol x)) after s.tokens h ∙ same_refl (symbol_code x))
    (behind s (Ok (tt, skip s)) (of_kind (kind.Symbol x)) after h (record { rest = skip s; gives = refl; spells = tail_is (of_kind (kind.Symbol x)) after s.tokens h; shorter = omega arith }))

pub word_again : (w : Word) (after : Wording) → Again (word_at w) (a_word w after) tt after
unfolding word_at
word_again w after s h = by_first (is_word_next w s) (λ t. Ok (tt, skip t)) unexpected s s (first_is (is_word w) (of_kind (kind.Word w)) after s.tokens h ∙ same_refl (word_code w))
    (behind s (Ok (tt, skip s)) (of_kind (kind.Word w)) after h (record { rest = skip s; gives = refl; spells = tail_is (of_kind (kind.Word w)) after s.tokens h; shorter = omega arith }))

-- a state whose first token is known by its kind
at_kind : (P : Tokens → Type 0) (s : Tokens) (k : Kind) (after : Wording) → IsSpelledBy (next (of_kind k) after) s.tokens
    → ((place : ℕ) (spelling : List ℕ) (more : List Token) → IsSpelledBy after more → P (record { tokens = record { kind = k; place = place; spelling = spelling } ∷ more; end = s.end })) → P s
at_kind P s k after is go = more s.tokens is
  where
    more : (ts : List Token) → IsSpelledBy (next (of_kind k) after) ts → P (record { tokens = ts; end = s.end })
    more [] is = absurd is
    more (t ∷ ts) is = subst (λ j. P (record { tokens = record { kind = j; place = t.place; spelling = t.spelling } ∷ ts; end = s.end })) (sym is.0) (go t.place t.spelling ts is.1)

pub number_again : (n : ℕ) (after : Wording) → Again number_at (a_number n after) n after
unfolding number_at
number_again n after s h = at_kind (λ s. To s (number_at s) n after) s (kind.Number n) after h
    (λ place spelling more left. record { rest = record { tokens = more; end = s.end }; gives = refl; spells = left; shorter = omega arith })

pub text_again : (bytes : List ℕ) (after : Wording) → Again text_at (next (of_kind (kind.Text bytes)) after) bytes after
unfolding text_at
text_again bytes after s h = at_kind (λ s. To s (text_at s) bytes after) s (kind.Text bytes) after h
    (λ place spelling more left. record { rest = record { tokens = more; end = s.end }; gives = refl; spells = left; shorter = omega arith })

-- a name, as a token that is wanted as it is
name_by : (n : Name) (t : Token) (ts : List Token) (end : ℕ) (after : Wording) → IsNamed n t → IsSpelledBy after ts → To (record { tokens = t ∷ ts; end = end }) (name_in (t ∷ ts) end) n after
name_by n t ts end after h left =
    let made : Name = record { text = t.spelling; place = t.place } in
    let is : made ≡ n = ap (λ bytes. record { text = bytes; place = t.place }) h.is_spelled ∙ ap (λ place. record { text = n.text; place = place }) h.is_there in
    record {
      rest = record { tokens = ts; end = end };
      gives = ap (λ k. choose (is_name k) (λ rest. Ok (made, record { tokens = rest; end = end })) (λ rest. Err (error.Unexpected t.place)) ts) h.is_name
          ∙ ap (λ (m : Name). Ok (m, record { tokens = ts; end = end })) is;
      spells = left;
      shorter = omega arith;
    }

pub name_again : (n : Name) (after : Wording) → Again name_at (a_name n after) n after
unfolding name_at
name_again n after s h = by s.tokens h
  where
    by : (ts : List Token) → IsSpelledBy (a_name n after) ts → To (record { tokens = ts; end = s.end }) (name_in ts s.end) n after
    by [] h = absurd h
    by (t ∷ ts) h = name_by n t ts s.end after h.0 h.1

-- ---- loops over lists

-- the elements, one after another
abbrev pub all_of : {E : Type 0} → (E → Wording → Wording) → List E → Wording → Wording
all_of spell [] rest = rest
all_of spell (e ∷ es) rest = spell e (all_of spell es rest)

-- the loop takes one more element
pub record Stepped {E : Type 0} (test : List E × Tokens → Bool) (step : List E × Tokens → Result (List E × Tokens) ReadError) (done : List E) (e : E) (s : Tokens) (after : Wording) : Type 0 where
  pub rest : Tokens
  pub tests : test (done, s) ≡ true
  pub gives : step (done, s) ≡ Ok (done ++ e ∷ [], rest)
  pub spells : IsSpelledBy after rest.tokens
  pub shorter : length rest.tokens < length s.tokens

pub turn_on : {B : Type 0} (n : ℕ) (test : B → Bool) (step : B → Result B ReadError) (b c : B) → test b ≡ true → step b ≡ Ok c → turns_of (suc n) test step b ≡ turns_of n test step c
unfolding turns_of
turn_on n test step b c holds steps = ap (λ t. choose t (λ c. step c >>= λ d. turns_of n test step d) (λ c. Ok c) b) holds ∙ ap (λ r. r >>= λ d. turns_of n test step d) steps

pub turn_off : {B : Type 0} (n : ℕ) (test : B → Bool) (step : B → Result B ReadError) (b : B) → test b ≡ false → turns_of n test step b ≡ Ok b
unfolding turns_of
turn_off zero test step b fails = refl
turn_off (suc n) test step b fails = ap (λ t. choose t (λ c. step c >>= λ d. turns_of n test step d) (λ c. Ok c) b) fails

pub loop_again : {E : Type 0} (IsLeft : List E → List E → Type 0) (spell : E → Wording → Wording) (after : Wording) (test : List E × Tokens → Bool) (step : List E × Tokens → Result (List E × Tokens) ReadError)
    → ((done : List E) (e : E) (es : List E) (s : Tokens) → IsLeft done (e ∷ es) → IsSpelledBy (spell e (all_of spell es after)) s.tokens → Stepped test step done e s (all_of spell es after) × IsLeft (done ++ e ∷ []) es)
    → ((done : List E) (s : Tokens) → IsLeft done [] → IsSpelledBy after s.tokens → test (done, s) ≡ false)
    → (n : ℕ) (done es : List E) (s : Tokens) → length s.tokens < n → IsLeft done es → IsSpelledBy (all_of spell es after) s.tokens → To s (turns_of n test step (done, s)) (done ++ es) after
loop_again IsLeft spell after test step go stop n done [] s enough left is = record {
  rest = s;
  gives = turn_off n test step (done, s) (stop done s left is) ∙ ap (λ (es : List _). Ok (es, s)) (sym (append-nil done));
  spells = is;
  shorter = omega arith;
}
loop_again IsLeft spell after test step go stop zero done (e ∷ es) s enough left is = absurd (omega arith)
loop_again IsLeft spell after test step go stop (suc n) done (e ∷ es) s enough left is =
    let g = go done e es s left is in
    let enough_left : length g.0.rest.tokens < n = omega (arith, g.0.shorter, enough) in
    let h = loop_again IsLeft spell after test step go stop n (done ++ e ∷ []) es g.0.rest enough_left g.1 g.0.spells in
    let fewer : length h.rest.tokens ≤ length s.tokens = omega (arith, h.shorter, g.0.shorter) in
    record {
      rest = h.rest;
      gives = turn_on n test step (done, s) (done ++ e ∷ [], g.0.rest) g.0.tests g.0.gives ∙ h.gives ∙ ap (λ (es : List _). Ok (es, h.rest)) (append_assoc done (e ∷ []) es);
      spells = h.spells;
      shorter = fewer;
    }
