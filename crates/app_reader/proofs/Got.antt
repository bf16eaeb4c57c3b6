-- What was read is spelled so: single tokens, and one part after another.
use Rattle.std.proofs.Common.{◌≡◌, ℕ, zero, suc, ◌<◌, ◌≤◌, Bool, true, false, List, [], ◌∷◌, ◌++◌, length, Result, Ok, Err, Option, Some, None, refl, sym, ap, subst, ◌∙◌, arith}
use Rattle.std.proofs.lemmas.Bool.{and_parts}
use Rattle.app_tokens.specs.declared.token.Token.{Token}
use Rattle.app_tokens.specs.declared.token.Kind.{Kind}
use Rattle.app_tokens.specs.declared.token.Kind.TheVariants as kind
use Rattle.app_tokens.specs.declared.word.Word.{Word}
use Rattle.app_tokens.specs.declared.symbol.Symbol.{Symbol}
use Rattle.app_tokens.specs.Tokens.{Tokens}
use Rattle.app_tokens.specs.Kind.{is_word, is_symbol}
use Rattle.app_tokens.proofs.KindTests.{is_word-is, is_symbol-is}
use Rattle.app_tree.specs.declared.draft_term.Name.{Name}
use Rattle.app_tree.specs.Fits.{is_natural, is_text, name_fits}
use Rattle.app_reader.specs.declared.error.ReadError.{ReadError}
use Rattle.rx_value.specs.Results.{◌>>=◌, choose}
use Rattle.app_reader.specs.State.{Reads, choose_some, place_of, rest_of, skip, is_of_first, is_word_next, is_symbol_next, word_of, word_in, next_word, symbol_of, symbol_in, next_symbol, unexpected, word_at, symbol_at, name_at, name_in, number_at, number_in, number_and_rest, text_at, text_in, text_and_rest, turns_of}
use Rattle.app_reader.specs.Spelling.{of_kind, at_place, Wording, next, IsSpelledBy, a_word, a_word_at, a_symbol, a_number, a_name}
use Rattle.app_reader.specs.Laws.{token_fits, tokens_fit}

-- ---- generalities

-- the value of a part that was not refused
pub bind_ok : {A B : Type 0} (r : Result A ReadError) (f : A → Result B ReadError) (y : B) → (r >>= f) ≡ Ok y → (x : A) × (r ≡ Ok x) × (f x ≡ Ok y)
bind_ok (Ok x) f y e = (x, refl, e)
bind_ok (Err d) f y e = absurd cc

abbrev done : {A : Type 0} → A → Result A ReadError
done x = Ok x

pub ok_is : {A : Type 0} (x y : A) → done x ≡ done y → x ≡ y
ok_is x y e = cc

-- ---- what was read

-- y was read from s: it is spelled there before what is left, and is P
pub record Got {A : Type 0} (spell : A → Wording → Wording) (P : A → Type 0) (s : Tokens) (y : A × Tokens) : Type 0 where
  pub spells : (rest : Wording) → IsSpelledBy rest y.1.tokens → IsSpelledBy (spell y.0 rest) s.tokens
  pub holds : P y.0
  pub good : tokens_fit y.1.tokens ≡ true
  pub shorter : length y.1.tokens ≤ length s.tokens

-- what is read from s is so
pub record SoundAt {A : Type 0} (spell : A → Wording → Wording) (P : A → Type 0) (s : Tokens) (r : Result (A × Tokens) ReadError) : Type 0 where
  pub so : tokens_fit s.tokens ≡ true → (y : A × Tokens) → r ≡ Ok y → Got spell P s y

abbrev pub IsSound : {A : Type 0} → (A → Wording → Wording) → (A → Type 0) → Reads A → Type 0
IsSound spell P p = (s : Tokens) → SoundAt spell P s (p s)

pub already : {A : Type 0} {S : A → Wording → Wording} {P : A → Type 0} (s : Tokens) (y : A × Tokens) → Got S P s y → SoundAt S P s (Ok y)
already {S = S} {P = P} s y h = record { so = λ good z e. subst (Got S P s) (ok_is y z e) h }

pub refused : {A : Type 0} {S : A → Wording → Wording} {P : A → Type 0} (s : Tokens) (e : ReadError) → SoundAt S P s (Err e)
refused s e = record { so = λ good y is. absurd cc }

-- one part
pub seq1 : {A B : Type 0} {SA : A → Wording → Wording} {PA : A → Type 0} {SB : B → Wording → Wording} {PB : B → Type 0}
    (s : Tokens) (r : Result (A × Tokens) ReadError) (make : A → B) → SoundAt SA PA s r
    → ((a : A) → PA a → PB (make a)) → ((a : A) (rest : Wording) → PA a → IsSpelledBy (SA a rest) s.tokens → IsSpelledBy (SB (make a) rest) s.tokens)
    → SoundAt SB PB s (r >>= λ a. Ok (make a.0, a.1))
seq1 {B = B} {SB = SB} {PB = PB} s r make h keeps turn = record {
  so = λ good y e.
      let a = bind_ok r (λ a. Ok (make a.0, a.1)) y e in
      let g = h.so good a.0 a.1 in
      let made : B × Tokens = (make a.0.0, a.0.1) in
      subst (Got SB PB s) (ok_is made y a.2) (record {
        spells = λ rest left. turn a.0.0 rest g.holds (g.spells rest left);
        holds = keeps a.0.0 g.holds;
        good = g.good;
        shorter = g.shorter;
      });
}

-- two parts, one after the other
pub seq2 : {A B C : Type 0} {SA : A → Wording → Wording} {PA : A → Type 0} {SB : B → Wording → Wording} {PB : B → Type 0} {SC : C → Wording → Wording} {PC : C → Type 0}
    (s : Tokens) (r : Result (A × Tokens) ReadError) (q : Reads B) (make : A → B → C) → SoundAt SA PA s r → IsSound SB PB q
    → ((a : A) (b : B) → PA a → PB b → PC (make a b))
    → ((a : A) (b : B) (rest : Wording) → PA a → PB b → IsSpelledBy (SA a (SB b rest)) s.tokens → IsSpelledBy (SC (make a b) rest) s.tokens)
    → SoundAt SC PC s (r >>= λ a. q a.1 >>= λ b. Ok (make a.0 b.0, b.1))
seq2 {C = C} {SB = SB} {SC = SC} {PC = PC} s r q make h k keeps turn = record {
  so = λ good y e.
      let a = bind_ok r (λ a. q a.1 >>= λ b. Ok (make a.0 b.0, b.1)) y e in
      let g = h.so good a.0 a.1 in
      let b = bind_ok (q a.0.1) (λ b. Ok (make a.0.0 b.0, b.1)) y a.2 in
      let f = (k a.0.1).so g.good b.0 b.1 in
      let made : C × Tokens = (make a.0.0 b.0.0, b.0.1) in
      let fewer : length b.0.1.tokens ≤ length s.tokens = omega (arith, f.shorter, g.shorter) in
      subst (Got SC PC s) (ok_is made y b.2) (record {
        spells = λ rest left. turn a.0.0 b.0.0 rest g.holds f.holds (g.spells (SB b.0.0 rest) (f.spells rest left));
        holds = keeps a.0.0 b.0.0 g.holds f.holds;
        good = f.good;
        shorter = fewer;
      });
}

-- three parts
pub seq3 : {A B C D : Type 0} {SA : A → Wording → Wording} {PA : A → Type 0} {SB : B → Wording → Wording} {PB : B → Type 0} {SC : C → Wording → Wording} {PC : C → Type 0} {SD : D → Wording → Wording} {PD : D → Type 0}
    (s : Tokens) (r : Result (A × Tokens) ReadError) (q : Reads B) (p : Reads C) (make : A → B → C → D) → SoundAt SA PA s r → IsSound SB PB q → IsSound SC PC p
    → ((a : A) (b : B) (c : C) → PA a → PB b → PC c → PD (make a b c))
    → ((a : A) (b : B) (c : C) (rest : Wording) → PA a → PB b → IsSpelledBy (SA a (SB b (SC c rest))) s.tokens → IsSpelledBy (SD (make a b c) rest) s.tokens)
    → SoundAt SD PD s (r >>= λ a. q a.1 >>= λ b. p b.1 >>= λ c. Ok (make a.0 b.0 c.0, c.1))
seq3 {D = D} {SB = SB} {SC = SC} {SD = SD} {PD = PD} s r q p make h k l keeps turn = record {
  so = λ good y e.
      let a = bind_ok r (λ a. q a.1 >>= λ b. p b.1 >>= λ c. Ok (make a.0 b.0 c.0, c.1)) y e in
      let g = h.so good a.0 a.1 in
      let b = bind_ok (q a.0.1) (λ b. p b.1 >>= λ c. Ok (make a.0.0 b.0 c.0, c.1)) y a.2 in
      let f = (k a.0.1).so g.good b.0 b.1 in
      let c = bind_ok (p b.0.1) (λ c. Ok (make a.0.0 b.0.0 c.0, c.1)) y b.2 in
      let d = (l b.0.1).so f.good c.0 c.1 in
      let made : D × Tokens = (make a.0.0 b.0.0 c.0.0, c.0.1) in
      let fewer : length c.0.1.tokens ≤ length s.tokens = omega (arith, f.shorter, g.shorter, d.shorter) in
      subst (Got SD PD s) (ok_is made y c.2) (record {
        spells = λ rest left. turn a.0.0 b.0.0 c.0.0 rest g.holds f.holds (g.spells (SB b.0.0 (SC c.0.0 rest)) (f.spells (SC c.0.0 rest) (d.spells rest left)));
        holds = keeps a.0.0 b.0.0 c.0.0 g.holds f.holds d.holds;
        good = d.good;
        shorter = fewer;
      });
}

-- four parts
pub seq4 : {A B C D E : Type 0} {SA : A → Wording → Wording} {PA : A → Type 0} {SB : B → Wording → Wording} {PB : B → Type 0} {SC : C → Wording → Wording} {PC : C → Type 0} {SD : D → Wording → Wording} {PD : D → Type 0} {SE : E → Wording → Wording} {PE : E → Type 0}
    (s : Tokens) (r : Result (A × Tokens) ReadError) (q : Reads B) (p : Reads C) (o : Reads D) (make : A → B → C → D → E) → SoundAt SA PA s r → IsSound SB PB q → IsSound SC PC p → IsSound SD PD o
    → ((a : A) (b : B) (c : C) (d : D) → PA a → PB b → PC c → PD d → PE (make a b c d))
    → ((a : A) (b : B) (c : C) (d : D) (rest : Wording) → PA a → IsSpelledBy (SA a (SB b (SC c (SD d rest)))) s.tokens → IsSpelledBy (SE (make a b c d) rest) s.tokens)
    → SoundAt SE PE s (r >>= λ a. q a.1 >>= λ b. p b.1 >>= λ c. o c.1 >>= λ d. Ok (make a.0 b.0 c.0 d.0, d.1))
seq4 {E = E} {SB = SB} {SC = SC} {SD = SD} {SE = SE} {PE = PE} s r q p o make h k l m keeps turn = record {
  so = λ good y e.
      let a = bind_ok r (λ a. q a.1 >>= λ b. p b.1 >>= λ c. o c.1 >>= λ d. Ok (make a.0 b.0 c.0 d.0, d.1)) y e in
      let g = h.so good a.0 a.1 in
      let b = bind_ok (q a.0.1) (λ b. p b.1 >>= λ c. o c.1 >>= λ d. Ok (make a.0.0 b.0 c.0 d.0, d.1)) y a.2 in
      let f = (k a.0.1).so g.good b.0 b.1 in
      let c = bind_ok (p b.0.1) (λ c. o c.1 >>= λ d. Ok (make a.0.0 b.0.0 c.0 d.0, d.1)) y b.2 in
      let i = (l b.0.1).so f.good c.0 c.1 in
      let d = bind_ok (o c.0.1) (λ d. Ok (make a.0.0 b.0.0 c.0.0 d.0, d.1)) y c.2 in
      let j = (m c.0.1).so i.good d.0 d.1 in
      let made : E × Tokens = (make a.0.0 b.0.0 c.0.0 d.0.0, d.0.1) in
      let fewer : length d.0.1.tokens ≤ length s.tokens = omega (arith, f.shorter, g.shorter, i.shorter, j.shorter) in
      subst (Got SE PE s) (ok_is made y d.2) (record {
        spells = λ rest left. turn a.0.0 b.0.0 c.0.0 d.0.0 rest g.holds (g.spells (SB b.0.0 (SC c.0.0 (SD d.0.0 rest))) (f.spells (SC c.0.0 (SD d.0.0 rest)) (i.spells (SD d.0.0 rest) (j.spells rest left))));
        holds = keeps a.0.0 b.0.0 c.0.0 d.0.0 g.holds f.holds i.holds j.holds;
        good = j.good;
        shorter = fewer;
      });
}

-- what was got, and then what is read from there
pub onward : {A B : Type 0} {SA : A → Wording → Wording} {PA : A → Type 0} {SB : B → Wording → Wording} {PB : B → Type 0} {SC : B → Wording → Wording} {PC : B → Type 0}
    (s : Tokens) (a : A × Tokens) (r : Result (B × Tokens) ReadError) → Got SA PA s a → SoundAt SB PB a.1 r
    → ((b : B) → PA a.0 → PB b → PC b) → ((b : B) (rest : Wording) → PA a.0 → PB b → IsSpelledBy (SA a.0 (SB b rest)) s.tokens → IsSpelledBy (SC b rest) s.tokens)
    → SoundAt SC PC s r
onward {SB = SB} s a r g h keeps turn = record {
  so = λ good y e.
      let f = h.so g.good y e in
      let fewer : length y.1.tokens ≤ length s.tokens = omega (arith, f.shorter, g.shorter) in
      record {
        spells = λ rest left. turn y.0 rest g.holds f.holds (g.spells (SB y.0 rest) (f.spells rest left));
        holds = keeps y.0 g.holds f.holds;
        good = f.good;
        shorter = fewer;
      };
}

-- the same with a weaker fact
pub weaker : {A : Type 0} {S : A → Wording → Wording} {P Q : A → Type 0} (s : Tokens) (r : Result (A × Tokens) ReadError) → SoundAt S P s r → ((x : A) → P x → Q x) → SoundAt S Q s r
weaker s r h weak = record { so = λ good y e. let g = h.so good y e in record { spells = g.spells; holds = weak y.0 g.holds; good = g.good; shorter = g.shorter } }

-- the same in other words
pub respelled : {A : Type 0} {S T : A → Wording → Wording} {P : A → Type 0} (s : Tokens) (r : Result (A × Tokens) ReadError) → SoundAt S P s r
    → ((x : A) (rest : Wording) → P x → IsSpelledBy (S x rest) s.tokens → IsSpelledBy (T x rest) s.tokens) → SoundAt T P s r
respelled s r h turn = record { so = λ good y e. let g = h.so good y e in record { spells = λ rest left. turn y.0 rest g.holds (g.spells rest left); holds = g.holds; good = g.good; shorter = g.shorter } }

-- a part, and then what depends on it
pub bind_sound : {A B : Type 0} {SA : A → Wording → Wording} {PA : A → Type 0} {SB : B → Wording → Wording} {PB : B → Type 0}
    (s : Tokens) (r : Result (A × Tokens) ReadError) (f : A × Tokens → Result (B × Tokens) ReadError) → SoundAt SA PA s r
    → ((a : A × Tokens) → Got SA PA s a → SoundAt SB PB s (f a)) → SoundAt SB PB s (r >>= f)
bind_sound s r f h k = record { so = λ good y e. let a = bind_ok r f y e in (k a.0 (h.so good a.0 a.1)).so good y a.2 }

-- ---- which way was taken

pub choose_sound : {A : Type 0} {S : A → Wording → Wording} {P : A → Type 0} (b : Bool) (f g : Reads A) (s : Tokens)
    → (b ≡ true → SoundAt S P s (f s)) → (b ≡ false → SoundAt S P s (g s)) → SoundAt S P s (choose b f g s)
choose_sound true f g s h k = h refl
choose_sound false f g s h k = k refl

-- the same, where the ways go on from elsewhere
pub choose_from : {A X : Type 0} {S : A → Wording → Wording} {P : A → Type 0} (b : Bool) (f g : X → Result (A × Tokens) ReadError) (x : X) (s : Tokens)
    → (b ≡ true → SoundAt S P s (f x)) → (b ≡ false → SoundAt S P s (g x)) → SoundAt S P s (choose b f g x)
choose_from true f g x s h k = h refl
choose_from false f g x s h k = k refl

pub found_sound : {A B : Type 0} {S : A → Wording → Wording} {P : A → Type 0} (o : Option B) (f : B → Reads A) (g : Reads A) (s : Tokens)
    → ((x : B) → o ≡ Some x → SoundAt S P s (f x s)) → (o ≡ None → SoundAt S P s (g s)) → SoundAt S P s (choose_some o f g s)
found_sound (Some x) f g s h k = h x refl
found_sound None f g s h k = k refl

-- ---- the next token

symbol_of-is : (k : Kind) (x : Symbol) → symbol_of k ≡ Some x → k ≡ kind.Symbol x
symbol_of-is (kind.Symbol y) x e = ap kind.Symbol cc
symbol_of-is kind.Name x e = absurd cc
symbol_of-is (kind.Word w) x e = absurd cc
symbol_of-is (kind.Number n) x e = absurd cc
symbol_of-is (kind.Text t) x e = absurd cc

word_of-is : (k : Kind) (w : Word) → word_of k ≡ Some w → k ≡ kind.Word w
word_of-is (kind.Word v) w e = ap kind.Word cc
word_of-is kind.Name w e = absurd cc
word_of-is (kind.Symbol x) w e = absurd cc
word_of-is (kind.Number n) w e = absurd cc
word_of-is (kind.Text t) w e = absurd cc

pub symbol_stands : (x : Symbol) (s : Tokens) → is_symbol_next x s ≡ true → next_symbol s ≡ Some x
symbol_stands x s e = more s.tokens e
  where
    more : (ts : List Token) → is_of_first (is_symbol x) ts ≡ true → symbol_in ts ≡ Some x
    more [] e = absurd cc
    more (t ∷ ts) e = ap symbol_of (is_symbol-is x t.kind e)

pub word_stands : (w : Word) (s : Tokens) → is_word_next w s ≡ true → next_word s ≡ Some w
word_stands w s e = more s.tokens e
  where
    more : (ts : List Token) → is_of_first (is_word w) ts ≡ true → word_in ts ≡ Some w
    more [] e = absurd cc
    more (t ∷ ts) e = ap word_of (is_word-is w t.kind e)

-- tokens behind one of this kind
record Led (k : Kind) (s : Tokens) : Type 0 where
  leads : (rest : Wording) → IsSpelledBy rest (rest_of s.tokens) → IsSpelledBy (next (of_kind k) rest) s.tokens
  leads_there : (rest : Wording) → IsSpelledBy rest (rest_of s.tokens) → IsSpelledBy (next (at_place k (place_of s)) rest) s.tokens
  good : tokens_fit s.tokens ≡ true → tokens_fit (rest_of s.tokens) ≡ true
  shorter : suc (length (rest_of s.tokens)) ≡ length s.tokens

led : (k : Kind) (t : Token) (ts : List Token) (end : ℕ) → t.kind ≡ k → Led k (record { tokens = t ∷ ts; end = end })
led k t ts end is = record {
  leads = λ rest left. (is, left);
  leads_there = λ rest left. ((is, refl), left);
  good = λ fit. (and_parts (token_fits t) (tokens_fit ts) fit).1;
  shorter = refl;
}

led_symbol : (x : Symbol) (s : Tokens) → next_symbol s ≡ Some x → Led (kind.Symbol x) s
led_symbol x s e = more s.tokens e
  where
    more : (ts : List Token) → symbol_in ts ≡ Some x → Led (kind.Symbol x) (record { tokens = ts; end = s.end })
    more [] e = absurd cc
    more (t ∷ ts) e = led (kind.Symbol x) t ts s.end (symbol_of-is t.kind x e)

led_word : (w : Word) (s : Tokens) → next_word s ≡ Some w → Led (kind.Word w) s
led_word w s e = more s.tokens e
  where
    more : (ts : List Token) → word_in ts ≡ Some w → Led (kind.Word w) (record { tokens = ts; end = s.end })
    more [] e = absurd cc
    more (t ∷ ts) e = led (kind.Word w) t ts s.end (word_of-is t.kind w e)

behind : {A : Type 0} {S : A → Wording → Wording} {P : A → Type 0} (k : Kind) (s : Tokens) (r : Result (A × Tokens) ReadError) → Led k s
    → SoundAt S P (skip s) r → SoundAt (λ a rest. next (of_kind k) (S a rest)) P s r
behind {S = S} k s r l h = record {
  so = λ good y e.
      let g = h.so (l.good good) y e in
      let fewer : length y.1.tokens ≤ length s.tokens = omega (arith, g.shorter, l.shorter) in
      record { spells = λ rest left. l.leads (S y.0 rest) (g.spells rest left); holds = g.holds; good = g.good; shorter = fewer };
}

behind_there : {A : Type 0} {S : A → Wording → Wording} {P : A → Type 0} (k : Kind) (s : Tokens) (r : Result (A × Tokens) ReadError) → Led k s
    → SoundAt S P (skip s) r → SoundAt (λ a rest. next (at_place k (place_of s)) (S a rest)) P s r
behind_there {S = S} k s r l h = record {
  so = λ good y e.
      let g = h.so (l.good good) y e in
      let fewer : length y.1.tokens ≤ length s.tokens = omega (arith, g.shorter, l.shorter) in
      record { spells = λ rest left. l.leads_there (S y.0 rest) (g.spells rest left); holds = g.holds; good = g.good; shorter = fewer };
}

-- behind a symbol, or a word, which stands next
pub behind_symbol : {A : Type 0} {S : A → Wording → Wording} {P : A → Type 0} (x : Symbol) (s : Tokens) (r : Result (A × Tokens) ReadError) → next_symbol s ≡ Some x
    → SoundAt S P (skip s) r → SoundAt (λ a rest. a_symbol x (S a rest)) P s r
behind_symbol x s r e h = behind (kind.Symbol x) s r (led_symbol x s e) h

pub behind_word : {A : Type 0} {S : A → Wording → Wording} {P : A → Type 0} (w : Word) (s : Tokens) (r : Result (A × Tokens) ReadError) → next_word s ≡ Some w
    → SoundAt S P (skip s) r → SoundAt (λ a rest. a_word w (S a rest)) P s r
behind_word w s r e h = behind (kind.Word w) s r (led_word w s e) h

pub behind_word_there : {A : Type 0} {S : A → Wording → Wording} {P : A → Type 0} (w : Word) (s : Tokens) (r : Result (A × Tokens) ReadError) → next_word s ≡ Some w
    → SoundAt S P (skip s) r → SoundAt (λ a rest. a_word_at w (place_of s) (S a rest)) P s r
behind_word_there w s r e h = behind_there (kind.Word w) s r (led_word w s e) h

pub leads_symbol : (x : Symbol) (s : Tokens) → next_symbol s ≡ Some x → (rest : Wording) → IsSpelledBy rest (rest_of s.tokens) → IsSpelledBy (a_symbol x rest) s.tokens
leads_symbol x s e = (led_symbol x s e).leads

pub fit_behind : (x : Symbol) (s : Tokens) → next_symbol s ≡ Some x → tokens_fit s.tokens ≡ true → tokens_fit (rest_of s.tokens) ≡ true
fit_behind x s e = (led_symbol x s e).good

pub fit_behind_word : (w : Word) (s : Tokens) → next_word s ≡ Some w → tokens_fit s.tokens ≡ true → tokens_fit (rest_of s.tokens) ≡ true
fit_behind_word w s e = (led_word w s e).good

-- tokens behind a symbol or a word are fewer
pub fewer_symbol : (x : Symbol) (s : Tokens) → next_symbol s ≡ Some x → suc (length (rest_of s.tokens)) ≡ length s.tokens
fewer_symbol x s e = (led_symbol x s e).shorter

pub fewer_word : (w : Word) (s : Tokens) → next_word s ≡ Some w → suc (length (rest_of s.tokens)) ≡ length s.tokens
fewer_word w s e = (led_word w s e).shorter

-- nothing more is read
nothing : (s : Tokens) → SoundAt (λ (u : Unit {0}) rest. rest) (λ u. Unit {0}) s (Ok (tt, s))
nothing s = record { so = λ good y e. subst (Got (λ u rest. rest) (λ u. Unit {0}) s) (ok_is (tt, s) y e) (record { spells = λ rest left. left; holds = tt; good = good; shorter = omega arith }) }

pub stays : {A : Type 0} {S : A → Wording → Wording} {P : A → Type 0} (s : Tokens) (x : A) → P x → ((rest : Wording) → IsSpelledBy rest s.tokens → IsSpelledBy (S x rest) s.tokens) → SoundAt S P s (Ok (x, s))
stays {A = A} {S = S} {P = P} s x p turn = record {
  so = λ good y e.
      let made : A × Tokens = (x, s) in
      subst (Got S P s) (ok_is made y e) (record { spells = turn; holds = p; good = good; shorter = omega arith });
}

-- ---- single tokens

abbrev pub Any : {A : Type 0} → A → Type 0
Any x = Unit {0}

pub symbol_sound : (x : Symbol) → IsSound (λ u rest. a_symbol x rest) Any (symbol_at x)
unfolding symbol_at
symbol_sound x s = choose_sound (is_symbol_next x s) (λ t. Ok (tt, skip t)) unexpected s
    (λ e. behind_symbol x s (Ok (tt, skip s)) (symbol_stands x s e) (nothing (skip s))) (λ e. refused s _)

pub word_sound : (w : Word) → IsSound (λ u rest. a_word w rest) Any (word_at w)
unfolding word_at
word_sound w s = choose_sound (is_word_next w s) (λ t. Ok (tt, skip t)) unexpected s
    (λ e. behind_word w s (Ok (tt, skip s)) (word_stands w s e) (nothing (skip s))) (λ e. refused s _)

pub symbol_takes : (x : Symbol) (s : Tokens) (y : Unit {0} × Tokens) → symbol_at x s ≡ Ok y → suc (length y.1.tokens) ≡ length s.tokens
unfolding symbol_at
symbol_takes x s y e =
    let made : Unit {0} × Tokens = (tt, skip s) in
    elim (is_symbol_next x s) as (λ b. is_symbol_next x s ≡ b → choose b (λ t. Ok (tt, skip t)) unexpected s ≡ Ok y → suc (length y.1.tokens) ≡ length s.tokens) [
      | true ↦ λ stands e. subst (λ (y : Unit {0} × Tokens). suc (length y.1.tokens) ≡ length s.tokens) (ok_is made y e) (fewer_symbol x s (symbol_stands x s stands))
      | false ↦ λ no e. absurd cc
    ] refl e

pub number_sound : IsSound a_number (λ n. is_natural n ≡ true) number_at
unfolding number_at
number_sound s = record { so = λ good y e. more s.tokens good y e }
  where
    by : (k : Kind) (place : ℕ) (spelling : List ℕ) (ts : List Token) → tokens_fit (record { kind = k; place = place; spelling = spelling } ∷ ts) ≡ true → (y : ℕ × Tokens) → number_and_rest k place ts s.end ≡ Ok y
        → Got a_number (λ n. is_natural n ≡ true) (record { tokens = record { kind = k; place = place; spelling = spelling } ∷ ts; end = s.end }) y
    by (kind.Number n) place spelling ts good y e =
        let now : Tokens = record { tokens = record { kind = kind.Number n; place = place; spelling = spelling } ∷ ts; end = s.end } in
        let made : ℕ × Tokens = (n, record { tokens = ts; end = s.end }) in
        subst (Got a_number (λ n. is_natural n ≡ true) now) (ok_is made y e) (record {
          spells = λ rest left. (refl, left);
          holds = (and_parts (is_natural n) (tokens_fit ts) good).0;
          good = (and_parts (is_natural n) (tokens_fit ts) good).1;
          shorter = omega arith;
        })
    by kind.Name place spelling ts good y e = absurd cc
    by (kind.Word w) place spelling ts good y e = absurd cc
    by (kind.Text t) place spelling ts good y e = absurd cc
    by (kind.Symbol x) place spelling ts good y e = absurd cc

    more : (ts : List Token) → tokens_fit ts ≡ true → (y : ℕ × Tokens) → number_in ts s.end ≡ Ok y → Got a_number (λ n. is_natural n ≡ true) (record { tokens = ts; end = s.end }) y
    more [] good y e = absurd cc
    more (t ∷ ts) good y e = by t.kind t.place t.spelling ts good y e

abbrev pub a_text : List ℕ → Wording → Wording
a_text bytes rest = next (of_kind (kind.Text bytes)) rest

pub text_sound : IsSound a_text (λ bytes. is_text bytes ≡ true) text_at
unfolding text_at
text_sound s = record { so = λ good y e. more s.tokens good y e }
  where
    by : (k : Kind) (place : ℕ) (spelling : List ℕ) (ts : List Token) → tokens_fit (record { kind = k; place = place; spelling = spelling } ∷ ts) ≡ true → (y : List ℕ × Tokens) → text_and_rest k place ts s.end ≡ Ok y
        → Got a_text (λ bytes. is_text bytes ≡ true) (record { tokens = record { kind = k; place = place; spelling = spelling } ∷ ts; end = s.end }) y
    by (kind.Text bytes) place spelling ts good y e =
        let now : Tokens = record { tokens = record { kind = kind.Text bytes; place = place; spelling = spelling } ∷ ts; end = s.end } in
        let made : List ℕ × Tokens = (bytes, record { tokens = ts; end = s.end }) in
        subst (Got a_text (λ bytes. is_text bytes ≡ true) now) (ok_is made y e) (record {
          spells = λ rest left. (refl, left);
          holds = (and_parts (is_text bytes) (tokens_fit ts) good).0;
          good = (and_parts (is_text bytes) (tokens_fit ts) good).1;
          shorter = omega arith;
        })
    by kind.Name place spelling ts good y e = absurd cc
    by (kind.Word w) place spelling ts good y e = absurd cc
    by (kind.Number n) place spelling ts good y e = absurd cc
    by (kind.Symbol x) place spelling ts good y e = absurd cc

    more : (ts : List Token) → tokens_fit ts ≡ true → (y : List ℕ × Tokens) → text_in ts s.end ≡ Ok y → Got a_text (λ bytes. is_text bytes ≡ true) (record { tokens = ts; end = s.end }) y
    more [] good y e = absurd cc
    more (t ∷ ts) good y e = by t.kind t.place t.spelling ts good y e

-- a name as a text can give it
abbrev pub IsWord : Name → Type 0
IsWord n = name_fits n ≡ true

pub name_sound : IsSound a_name IsWord name_at
unfolding name_at
name_sound s = record { so = λ good y e. more s.tokens good y e }
  where
    by : (k : Kind) (place : ℕ) (spelling : List ℕ) (ts : List Token) → tokens_fit (record { kind = k; place = place; spelling = spelling } ∷ ts) ≡ true → (y : Name × Tokens) → name_in (record { kind = k; place = place; spelling = spelling } ∷ ts) s.end ≡ Ok y
        → Got a_name IsWord (record { tokens = record { kind = k; place = place; spelling = spelling } ∷ ts; end = s.end }) y
    by kind.Name place spelling ts good y e =
        let now : Tokens = record { tokens = record { kind = kind.Name; place = place; spelling = spelling } ∷ ts; end = s.end } in
        let made : Name × Tokens = (record { text = spelling; place = place }, record { tokens = ts; end = s.end }) in
        subst (Got a_name IsWord now) (ok_is made y e) (record {
          spells = λ rest left. (record { is_name = refl; is_spelled = refl; is_there = refl }, left);
          holds = (and_parts (name_fits made.0) (tokens_fit ts) good).0;
          good = (and_parts (name_fits made.0) (tokens_fit ts) good).1;
          shorter = omega arith;
        })
    by (kind.Number n) place spelling ts good y e = absurd cc
    by (kind.Word w) place spelling ts good y e = absurd cc
    by (kind.Text t) place spelling ts good y e = absurd cc
    by (kind.Symbol x) place spelling ts good y e = absurd cc

    more : (ts : List Token) → tokens_fit ts ≡ true → (y : Name × Tokens) → name_in ts s.end ≡ Ok y → Got a_name IsWord (record { tokens = ts; end = s.end }) y
    more [] good y e = absurd cc
    more (t ∷ ts) good y e = by t.kind t.place t.spelling ts good y e

-- ---- loops

-- which way was taken
pub chosen : {A B : Type 0} (b : Bool) (f g : A → Result B ReadError) (x : A) (P : Type 0) {y : B} → choose b f g x ≡ Ok y → (b ≡ true → f x ≡ Ok y → P) → (b ≡ false → g x ≡ Ok y → P) → P
chosen true f g x P e h k = h refl e
chosen false f g x P e h k = k refl e

-- a loop keeps what each step keeps
pub loop_keeps : {B : Type 0} (Inv : B → Type 0) (test : B → Bool) (step : B → Result B ReadError) → ((b c : B) → test b ≡ true → Inv b → step b ≡ Ok c → Inv c)
    → (n : ℕ) (b c : B) → turns_of n test step b ≡ Ok c → Inv b → Inv c
unfolding turns_of
loop_keeps Inv test step keeps zero b c e h = subst Inv (ok_is b c e) h
loop_keeps Inv test step keeps (suc n) b c e h =
    chosen (test b) (λ c. step c >>= λ d. turns_of n test step d) (λ c. Ok c) b (Inv c) e
    (λ holds stepped. let m = bind_ok (step b) (λ d. turns_of n test step d) c stepped in loop_keeps Inv test step keeps n m.0 c m.2 (keeps b m.0 holds h m.1))
    (λ fails ended. subst Inv (ok_is b c ended) h)

-- and where each step takes a token, it goes on as long as the test holds
pub loop_ends : {B : Type 0} (left : B → Tokens) (Inv : B → Type 0) (test : B → Bool) (step : B → Result B ReadError)
    → ((b c : B) → test b ≡ true → Inv b → step b ≡ Ok c → Inv c × (length (left c).tokens < length (left b).tokens))
    → (n : ℕ) (b c : B) → length (left b).tokens < n → turns_of n test step b ≡ Ok c → Inv b → Inv c × (test c ≡ false)
unfolding turns_of
loop_ends left Inv test step keeps zero b c enough e h = absurd (omega arith)
loop_ends left Inv test step keeps (suc n) b c enough e h =
    chosen (test b) (λ c. step c >>= λ d. turns_of n test step d) (λ c. Ok c) b (Inv c × (test c ≡ false)) e
    (λ holds stepped.
    let m = bind_ok (step b) (λ d. turns_of n test step d) c stepped in
    let k = keeps b m.0 holds h m.1 in
    let fewer : length (left m.0).tokens < n = omega (arith, k.1, enough) in
    loop_ends left Inv test step keeps n m.0 c fewer m.2 k.0)
    (λ fails ended. let is = ok_is b c ended in (subst Inv is h, ap test (sym is) ∙ fails))

-- a loop that began with what was got
pub collected : {A : Type 0} {S : A → Wording → Wording} {P : A → Type 0} (s : Tokens) (test : A × Tokens → Bool) (step : A × Tokens → Result (A × Tokens) ReadError) (n : ℕ) (b : A × Tokens)
    → ((b : A × Tokens) → test b ≡ true → Got S P s b → SoundAt S P s (step b)) → SoundAt S P s (Ok b) → SoundAt S P s (turns_of n test step b)
collected {S = S} {P = P} s test step n b keeps h = record {
  so = λ good y e.
      loop_keeps (Got S P s) test step (λ c d holds got stepped. (keeps c holds got).so good d stepped) n b y e (h.so good b refl);
}

-- one more of a list
pub pushed : {E : Type 0} {S : List E → Wording → Wording} {P : List E → Type 0} {D : E → Wording → Wording} {Q : E → Type 0} (s : Tokens) (b : List E × Tokens) (r : Result (E × Tokens) ReadError)
    → Got S P s b → SoundAt D Q b.1 r → ((e : E) → P b.0 → Q e → P (b.0 ++ e ∷ []))
    → ((e : E) (rest : Wording) → P b.0 → S b.0 (D e rest) ≡ S (b.0 ++ e ∷ []) rest) → SoundAt S P s (r >>= λ e. Ok (b.0 ++ e.0 ∷ [], e.1))
pushed {E = E} {S = S} {P = P} {D = D} s b r g h keeps turn = record {
  so = λ good y e.
      let a = bind_ok r (λ e. Ok (b.0 ++ e.0 ∷ [], e.1)) y e in
      let f = h.so g.good a.0 a.1 in
      let made : List E × Tokens = (b.0 ++ a.0.0 ∷ [], a.0.1) in
      let fewer : length a.0.1.tokens ≤ length s.tokens = omega (arith, f.shorter, g.shorter) in
      subst (Got S P s) (ok_is made y a.2) (record {
        spells = λ rest left. subst (λ w. IsSpelledBy w s.tokens) (turn a.0.0 rest g.holds) (g.spells (D a.0.0 rest) (f.spells rest left));
        holds = keeps a.0.0 g.holds f.holds;
        good = f.good;
        shorter = fewer;
      });
}
