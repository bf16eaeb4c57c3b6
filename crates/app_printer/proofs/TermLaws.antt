-- The tokens of a term's canonical text.
use Rattle.std.proofs.Common.{◌≡◌, ℕ, zero, suc, ◌<◌, pos, negsuc, List, [], ◌∷◌, ◌++◌, codes, length, refl, sym, ap, ap₂, arith, Bool, true, false, ◌&&◌, nat_eq, nat_le, subst, append_assoc}
use Rattle.std.specs.List.{list_all}
use Rattle.std.specs.Fmt.{decimal}
use Rattle.std.proofs.lemmas.Fmt.{digits_decimal, decimal_nonempty}
use Rattle.std.proofs.Math.Bool.{and-eq-true_iff}
use Rattle.app_tree.specs.declared.limits.TheConstants.{OPERATOR_LIMIT}
use Rattle.rx_value.specs.declared.value.Value.{Value}
use Rattle.rx_value.specs.declared.value.Value.TheVariants as v
use Rattle.rx_value.specs.declared.operator.UnOp.{UnOp}
use Rattle.rx_value.specs.declared.operator.UnOp.TheVariants as un
use Rattle.rx_value.specs.declared.function.Fun.TheVariants as fun
use Rattle.rx_value.specs.declared.plot.Plot.TheVariants as drawn
use Rattle.app_tokens.specs.declared.word.Word.{Word}
use Rattle.app_tokens.specs.declared.word.Word.TheVariants as word
use Rattle.app_tokens.specs.declared.symbol.Symbol.TheVariants as symbol
use Rattle.rx_value.specs.Names.{is_letter, is_digit, is_of_word, is_name}
use Rattle.app_tokens.proofs.Again.{begins_with}
use Rattle.app_tree.specs.declared.term.Function.{Function}
use Rattle.app_tree.specs.declared.term.Function.TheVariants as function
use Rattle.app_tree.specs.declared.draft_term.Name.{Name}
use Rattle.app_tree.specs.declared.draft_term.ReadForm.{ReadForm}
use Rattle.app_tree.specs.declared.draft_term.ReadForm.TheVariants as form
use Rattle.app_tree.specs.DraftTree.{DraftTree, constant, group, read, variable, isolate, stop, require, fold, unary, binary, choice, call, DraftTrees, no_trees, tree}
use Rattle.app_tree.specs.Fits.{name_fits, literal_fits, term_fits, terms_fit, whole_in, deeper, operators, are_operands, is_signed, arguments_of, count}
use Rattle.rx_value.specs.Functions.{is_count}
use Rattle.app_reader.specs.Spelling.{Wording, of_kind, next, a_word, a_word_at, a_symbol, a_name, literal_kind, function_word, sign_symbol, operator_symbol, spell_named, spell_cancels, spell_term, spell_terms, spell_more}
use Rattle.read_text.specs.Spelling.{read_text}
use Rattle.app_printer.specs.Canonical.{constant_text, cancels_text, function_text, sign_text, operator_text, term_text, terms_text, more_terms}
use Rattle.app_tree.specs.Unplaced.{unplaced_of, unplaced_tree, unplaced_trees}
use Rattle.app_check.specs.Words.{term_has_words, terms_have_words}
use Rattle.app_printer.proofs.Reserved.{word_text}
use Rattle.app_printer.proofs.TokenLaws.{Stands, place_of, name_there, Stands-blank, Stands-word, Stands-word_at, Stands-name, Stands-called, Stands-open, Stands-close, Stands-comma, Stands-dollar, Stands-minus, Stands-not}
use Rattle.app_printer.proofs.Literals.{numerals, natural_below, Stands-operator, Stands-number, Stands-text}

-- what follows goes on with no word
abbrev pub Stops : List ℕ → Type 0
Stops rest = begins_with is_of_word rest ≡ false

-- the bytes that end a text are cut into a spelling of this part, with some places, and then of what is wanted behind it
pub record Spelled {D : Type 0} (blank : D → D) (spell : D → Wording → Wording) (total : ℕ) (bytes : List ℕ) (d : D) (w : Wording) : Type 0 where
  pub placed : D
  pub same : blank placed ≡ blank d
  pub stands : Stands total bytes (spell placed w)

abbrev pub TermSpelled : ℕ → List ℕ → DraftTree → Wording → Type 0
TermSpelled = Spelled unplaced_tree spell_term

abbrev pub TermsSpelled : ℕ → List ℕ → DraftTrees → Wording → Type 0
TermsSpelled = Spelled unplaced_trees spell_terms

abbrev pub MoreSpelled : ℕ → List ℕ → DraftTrees → Wording → Type 0
MoreSpelled = Spelled unplaced_trees spell_more

-- the same bytes, in another grouping
pub regrouped : (total : ℕ) (xs ys : List ℕ) (w : Wording) → xs ≡ ys → Stands total ys w → Stands total xs w
regrouped total xs ys w is stands = let P : List ℕ → Type 0 = λ l. Stands total l w in subst P (sym is) stands

-- ---- constants, reads and words

literal_spelled : (total : ℕ) (k : Value) (rest : List ℕ) (w : Wording) → literal_fits k ≡ true → Stops rest → Stands total rest w
    → Stands total (constant_text k ++ rest) (next (of_kind (literal_kind k)) w)
literal_spelled total v.Null rest w fits halts behind = Stands-word total word.Null rest w halts behind
literal_spelled total (v.Bool true) rest w fits halts behind = Stands-word total word.True rest w halts behind
literal_spelled total (v.Bool false) rest w fits halts behind = Stands-word total word.False rest w halts behind
literal_spelled total (v.Int (pos n)) rest w fits halts behind = Stands-number total n rest w fits halts behind
literal_spelled total (v.Int (negsuc n)) rest w fits halts behind = cc
literal_spelled total (v.Text bytes) rest w fits halts behind = Stands-text total bytes rest w fits behind
literal_spelled total (v.Ints zs) rest w fits halts behind = cc

-- a word and a name in brackets
worded : (total : ℕ) (x : Word) (n rest : List ℕ) (w : Wording) → is_name n ≡ true → Stands total rest w
    → Stands total (word_text x ++ 40 ∷ (n ++ 41 ∷ rest))
    (spell_named x (place_of total (word_text x ++ 40 ∷ (n ++ 41 ∷ rest))) (name_there total n (41 ∷ rest)) w)
worded total x n rest w is behind =
    Stands-word_at total x (40 ∷ (n ++ 41 ∷ rest)) (a_symbol symbol.Open (a_name (name_there total n (41 ∷ rest)) (a_symbol symbol.Close w))) refl
    (Stands-open total (n ++ 41 ∷ rest) (a_name (name_there total n (41 ∷ rest)) (a_symbol symbol.Close w))
    (Stands-name total n (41 ∷ rest) (a_symbol symbol.Close w) is refl (Stands-close total rest w behind)))

pub enclosed : (a n b rest : List ℕ) → (a ++ n ++ b) ++ rest ≡ a ++ (n ++ (b ++ rest))
enclosed a n b rest = simp append_assoc

read_spelled : (total : ℕ) (f : ReadForm) (place : ℕ) (name : Name) (rest : List ℕ) (w : Wording) → is_name name.text ≡ true → Stops rest → Stands total rest w
    → TermSpelled total (read_text f name.text ++ rest) (read f place name) w
read_spelled total form.Input place name rest w is halts behind =
    let n = name.text in
    record {
      placed = read form.Input (place_of total (word_text word.Input ++ 36 ∷ (n ++ rest))) (name_there total n rest);
      same = refl;
      stands = Stands-word_at total word.Input (36 ∷ (n ++ rest)) (a_symbol symbol.Dollar (a_name (name_there total n rest) w)) refl
          (Stands-dollar total (n ++ rest) (a_name (name_there total n rest) w) (Stands-name total n rest w is halts behind));
    }
read_spelled total form.Named place name rest w is halts behind =
    let n = name.text in
    record {
      placed = read form.Named (place_of total (n ++ 40 ∷ 41 ∷ rest)) (name_there total n (40 ∷ 41 ∷ rest));
      same = refl;
      stands = regrouped total ((n ++ codes "()") ++ rest) (n ++ 40 ∷ 41 ∷ rest) _ (append_assoc n (codes "()") rest)
          (Stands-called total n (40 ∷ 41 ∷ rest) (a_symbol symbol.Open (a_symbol symbol.Close w)) is refl
          (Stands-open total (41 ∷ rest) (a_symbol symbol.Close w) (Stands-close total rest w behind)));
    }
read_spelled total form.Status place name rest w is halts behind =
    record {
      placed = read form.Status (place_of total (word_text word.Status ++ 40 ∷ (name.text ++ 41 ∷ rest))) (name_there total name.text (41 ∷ rest));
      same = refl;
      stands = regrouped total (read_text form.Status name.text ++ rest) (word_text word.Status ++ 40 ∷ (name.text ++ 41 ∷ rest)) _
          (enclosed (codes "status(") name.text (codes ")") rest) (worded total word.Status name.text rest w is behind);
    }
read_spelled total form.Result place name rest w is halts behind =
    record {
      placed = read form.Result (place_of total (word_text word.Result ++ 40 ∷ (name.text ++ 41 ∷ rest))) (name_there total name.text (41 ∷ rest));
      same = refl;
      stands = regrouped total (read_text form.Result name.text ++ rest) (word_text word.Result ++ 40 ∷ (name.text ++ 41 ∷ rest)) _
          (enclosed (codes "result(") name.text (codes ")") rest) (worded total word.Result name.text rest w is behind);
    }
read_spelled total form.Width place name rest w is halts behind =
    record {
      placed = read form.Width (place_of total (word_text word.Width ++ 40 ∷ (name.text ++ 41 ∷ rest))) (name_there total name.text (41 ∷ rest));
      same = refl;
      stands = regrouped total (read_text form.Width name.text ++ rest) (word_text word.Width ++ 40 ∷ (name.text ++ 41 ∷ rest)) _
          (enclosed (codes "width(") name.text (codes ")") rest) (worded total word.Width name.text rest w is behind);
    }
read_spelled total form.Height place name rest w is halts behind =
    record {
      placed = read form.Height (place_of total (word_text word.Height ++ 40 ∷ (name.text ++ 41 ∷ rest))) (name_there total name.text (41 ∷ rest));
      same = refl;
      stands = regrouped total (read_text form.Height name.text ++ rest) (word_text word.Height ++ 40 ∷ (name.text ++ 41 ∷ rest)) _
          (enclosed (codes "height(") name.text (codes ")") rest) (worded total word.Height name.text rest w is behind);
    }

cancels_spelled : (total : ℕ) (cancels : Bool) (rest : List ℕ) (w : Wording) → Stops rest → Stands total rest w
    → Stands total (cancels_text cancels ++ rest) (spell_cancels cancels w)
cancels_spelled total true rest w halts behind =
    Stands-comma total (32 ∷ (word_text word.CancelOutput ++ rest)) (a_word word.CancelOutput w)
    (Stands-blank total 32 (word_text word.CancelOutput ++ rest) (a_word word.CancelOutput w) refl (Stands-word total word.CancelOutput rest w halts behind))
cancels_spelled total false rest w halts behind = behind

stops_cancels : (cancels : Bool) (rest : List ℕ) → Stops rest → Stops (cancels_text cancels ++ rest)
stops_cancels true rest halts = refl
stops_cancels false rest halts = halts

function_text-word : (f : Function) → function_text f ≡ word_text (function_word f)
function_text-word (function.Fun fun.C) = refl
function_text-word (function.Fun fun.Paste0) = refl
function_text-word (function.Fun fun.Length) = refl
function_text-word (function.Fun fun.Nchar) = refl
function_text-word (function.Fun fun.Item) = refl
function_text-word (function.Fun fun.Sum) = refl
function_text-word (function.Fun fun.Min) = refl
function_text-word (function.Fun fun.Max) = refl
function_text-word (function.Fun fun.Seq) = refl
function_text-word (function.Fun fun.IsNull) = refl
function_text-word (function.Fun fun.AsInt) = refl
function_text-word (function.Plot drawn.Bars) = refl
function_text-word (function.Plot drawn.Lines) = refl
function_text-word (function.Plot drawn.Points) = refl

-- ---- what a sign stands before begins with no `=`

abbrev pub Signable : List ℕ → Type 0
Signable bytes = begins_with (λ c. nat_eq c 61) bytes ≡ false

digits_signable : (ds rest : List ℕ) → list_all is_digit ds ≡ true → 0 < length ds → Signable (ds ++ rest)
digits_signable [] rest all some = absurd (omega arith)
digits_signable (d ∷ ds) rest all some = not_equals d ((and-eq-true_iff (is_digit d) (list_all is_digit ds)).0 all).0
  where
    not_equals : (d : ℕ) → is_digit d ≡ true → nat_eq d 61 ≡ false
    not_equals d e = grind arith

name_signable : (n rest : List ℕ) → is_name n ≡ true → Signable (n ++ rest)
name_signable [] rest e = cc
name_signable (b ∷ bs) rest e =
    not_equals b ((and-eq-true_iff (is_letter b) (list_all is_of_word bs)).0 ((and-eq-true_iff (is_letter b && list_all is_of_word bs) _).0 e).0).0
  where
    not_equals : (b : ℕ) → is_letter b ≡ true → nat_eq b 61 ≡ false
    not_equals b e = grind arith

literal_signable : (k : Value) (rest : List ℕ) → literal_fits k ≡ true → Signable (constant_text k ++ rest)
literal_signable v.Null rest fits = refl
literal_signable (v.Bool true) rest fits = refl
literal_signable (v.Bool false) rest fits = refl
literal_signable (v.Int (pos n)) rest fits =
    let below = natural_below n fits in
    digits_signable (decimal n) rest (digits_decimal numerals n below.1) (decimal_nonempty n below.1)
literal_signable (v.Int (negsuc n)) rest fits = cc
literal_signable (v.Text bytes) rest fits = refl
literal_signable (v.Ints zs) rest fits = cc

read_signable : (f : ReadForm) (n rest : List ℕ) → is_name n ≡ true → Signable (read_text f n ++ rest)
read_signable form.Input n rest is = refl
read_signable form.Named n rest is = let P : List ℕ → Type 0 = λ l. Signable l in subst P (sym (append_assoc n (codes "()") rest)) (name_signable n (codes "()" ++ rest) is)
read_signable form.Status n rest is = refl
read_signable form.Result n rest is = refl
read_signable form.Width n rest is = refl
read_signable form.Height n rest is = refl

function_signable : (f : Function) (rest : List ℕ) → Signable (function_text f ++ rest)
function_signable (function.Fun fun.C) rest = refl
function_signable (function.Fun fun.Paste0) rest = refl
function_signable (function.Fun fun.Length) rest = refl
function_signable (function.Fun fun.Nchar) rest = refl
function_signable (function.Fun fun.Item) rest = refl
function_signable (function.Fun fun.Sum) rest = refl
function_signable (function.Fun fun.Min) rest = refl
function_signable (function.Fun fun.Max) rest = refl
function_signable (function.Fun fun.Seq) rest = refl
function_signable (function.Fun fun.IsNull) rest = refl
function_signable (function.Fun fun.AsInt) rest = refl
function_signable (function.Plot drawn.Bars) rest = refl
function_signable (function.Plot drawn.Lines) rest = refl
function_signable (function.Plot drawn.Points) rest = refl

sign_signable : (op : UnOp) (rest : List ℕ) → Signable (sign_text op ++ rest)
sign_signable un.Negate rest = refl
sign_signable un.Not rest = refl

binary_text : (a op b rest : List ℕ) → (a ++ codes " " ++ op ++ codes " " ++ b) ++ rest ≡ a ++ (32 ∷ (op ++ 32 ∷ (b ++ rest)))
binary_text a op b rest = simp append_assoc

call_text : (f ts rest : List ℕ) → (f ++ codes "(" ++ ts ++ codes ")") ++ rest ≡ f ++ (40 ∷ (ts ++ 41 ∷ rest))
call_text f ts rest = simp append_assoc

resigned : (xs ys : List ℕ) → xs ≡ ys → Signable ys → Signable xs
resigned xs ys is e = let P : List ℕ → Type 0 = λ l. Signable l in subst P (sym is) e

term_signable : (t : DraftTree) (levels : ℕ) (rest : List ℕ) → term_fits t levels ≡ true → term_has_words t ≡ true → Signable (term_text t ++ rest)
term_signable (constant k) levels rest fits words = literal_signable k rest fits
term_signable (group t) levels rest fits words = refl
term_signable (read f place name) levels rest fits words = read_signable f name.text rest words
term_signable (variable name) levels rest fits words = name_signable name.text rest fits
term_signable (isolate place t) levels rest fits words = refl
term_signable (stop t) levels rest fits words = refl
term_signable (require t cancels) levels rest fits words = refl
term_signable (fold place list start a x body) levels rest fits words = refl
term_signable (unary op t) levels rest fits words = resigned _ _ (append_assoc (sign_text op) (term_text t) rest) (sign_signable op (term_text t ++ rest))
term_signable (binary op left right) levels rest fits words =
    let f = (and-eq-true_iff (are_operands op left right && term_fits left levels) (term_fits right levels)).0 fits in
    let g = (and-eq-true_iff (are_operands op left right) (term_fits left levels)).0 f.0 in
    let h = (and-eq-true_iff (term_has_words left) (term_has_words right)).0 words in
    resigned _ _ (binary_text (term_text left) (operator_text op) (term_text right) rest)
    (term_signable left levels (32 ∷ (operator_text op ++ 32 ∷ (term_text right ++ rest))) g.1 h.0)
term_signable (choice condition chosen otherwise) levels rest fits words = refl
term_signable (call f ts) levels rest fits words =
    resigned _ _ (call_text (function_text f) (terms_text ts) rest) (function_signable f (40 ∷ (terms_text ts ++ 41 ∷ rest)))

-- ---- terms

-- what stands one level deeper
pub record Below (t : DraftTree) : Type 0 where
  pub levels : ℕ
  pub fits : term_fits t levels ≡ true

pub below : (t : DraftTree) (levels : ℕ) → whole_in t levels (λ b. term_fits t b) ≡ true → Below t
below t zero e = cc
below t (suc levels) e = record { levels = levels; fits = ((and-eq-true_iff (nat_le (operators t) OPERATOR_LIMIT) (term_fits t levels)).0 e).1 }

deeper_below : (t : DraftTree) (levels : ℕ) → deeper levels (λ b. term_fits t b) ≡ true → Below t
deeper_below t zero e = cc
deeper_below t (suc levels) e = record { levels = levels; fits = e }

cancels_text_of : (t c rest : List ℕ) → (codes "req(" ++ t ++ c ++ codes ")") ++ rest ≡ codes "req(" ++ (t ++ (c ++ 41 ∷ rest))
cancels_text_of t c rest = simp append_assoc

fold_text : (l z a x b rest : List ℕ)
    → (codes "fold(" ++ l ++ codes ", " ++ z ++ codes ", " ++ a ++ codes ", " ++ x ++ codes ", " ++ b ++ codes ")") ++ rest
    ≡ codes "fold(" ++ (l ++ (codes ", " ++ (z ++ (codes ", " ++ (a ++ (codes ", " ++ (x ++ (codes ", " ++ (b ++ 41 ∷ rest)))))))))
fold_text l z a x b rest = simp append_assoc

choice_text : (a b c rest : List ℕ)
    → (codes "if (" ++ a ++ codes ") " ++ b ++ codes " else " ++ c) ++ rest ≡ codes "if (" ++ (a ++ (codes ") " ++ (b ++ (codes " else " ++ (c ++ rest)))))
choice_text a b c rest = simp append_assoc

-- a comma, a blank, and what follows
pub Stands-separator : (total : ℕ) (rest : List ℕ) (w : Wording) → Stands total rest w → Stands total (codes ", " ++ rest) (a_symbol symbol.Comma w)
Stands-separator total rest w behind = Stands-comma total (32 ∷ rest) w (Stands-blank total 32 rest w refl behind)

sign_stands : (total : ℕ) (op : UnOp) (rest : List ℕ) (w : Wording) → Signable rest → Stands total rest w → Stands total (sign_text op ++ rest) (a_symbol (sign_symbol op) w)
sign_stands total un.Negate rest w other behind = Stands-minus total rest w behind
sign_stands total un.Not rest w other behind = Stands-not total rest w other behind

fold_same : (a x : Name) (l l2 z z2 b b2 : DraftTree) → l ≡ l2 → z ≡ z2 → b ≡ b2 → fold 0 l z a x b ≡ fold 0 l2 z2 a x b2
fold_same a x l l2 z z2 b b2 e f g = cc

choice_same : (a a2 b b2 c c2 : DraftTree) → a ≡ a2 → b ≡ b2 → c ≡ c2 → choice a b c ≡ choice a2 b2 c2
choice_same a a2 b b2 c c2 e f g = cc

more_halts : (ts : DraftTrees) (rest : List ℕ) → Stops rest → Stops (more_terms ts ++ rest)
more_halts no_trees rest halts = halts
more_halts (tree t ts) rest halts = refl

-- a word whose place is told, and an opening bracket
opened_at : (total : ℕ) (x : Word) (rest : List ℕ) (w : Wording) → Stands total rest w
    → Stands total (word_text x ++ 40 ∷ rest) (a_word_at x (place_of total (word_text x ++ 40 ∷ rest)) (a_symbol symbol.Open w))
opened_at total x rest w behind = Stands-word_at total x (40 ∷ rest) (a_symbol symbol.Open w) refl (Stands-open total rest w behind)

mutual
  pub term_spelled : (total : ℕ) (t : DraftTree) (levels : ℕ) (rest : List ℕ) (w : Wording) → term_fits t levels ≡ true → term_has_words t ≡ true
      → Stops rest → Stands total rest w → TermSpelled total (term_text t ++ rest) t w
  term_spelled total (constant k) levels rest w fits words halts behind =
      record { placed = constant k; same = refl; stands = literal_spelled total k rest w fits halts behind }
  term_spelled total (group t) levels rest w fits words halts behind =
      let b = below t levels fits in
      let r = term_spelled total t b.levels (41 ∷ rest) (a_symbol symbol.Close w) b.fits words refl (Stands-close total rest w behind) in
      record {
        placed = group r.placed;
        same = ap group r.same;
        stands = regrouped total _ _ _ (enclosed (codes "(") (term_text t) (codes ")") rest) (Stands-open total (term_text t ++ 41 ∷ rest) _ r.stands);
      }
  term_spelled total (read f place name) levels rest w fits words halts behind = read_spelled total f place name rest w words halts behind
  term_spelled total (variable name) levels rest w fits words halts behind =
      record { placed = variable (name_there total name.text rest); same = refl; stands = Stands-name total name.text rest w fits halts behind }
  term_spelled total (isolate place t) levels rest w fits words halts behind =
      let b = below t levels fits in
      let r = term_spelled total t b.levels (41 ∷ rest) (a_symbol symbol.Close w) b.fits words refl (Stands-close total rest w behind) in
      record {
        placed = isolate (place_of total (word_text word.Isolate ++ 40 ∷ (term_text t ++ 41 ∷ rest))) r.placed;
        same = ap (λ u. isolate 0 u) r.same;
        stands = regrouped total _ _ _ (enclosed (codes "isolate(") (term_text t) (codes ")") rest)
            (Stands-word_at total word.Isolate (40 ∷ (term_text t ++ 41 ∷ rest)) _ refl (Stands-open total (term_text t ++ 41 ∷ rest) _ r.stands));
      }
  term_spelled total (stop t) levels rest w fits words halts behind =
      let b = below t levels fits in
      let r = term_spelled total t b.levels (41 ∷ rest) (a_symbol symbol.Close w) b.fits words refl (Stands-close total rest w behind) in
      record {
        placed = stop r.placed;
        same = ap stop r.same;
        stands = regrouped total _ _ _ (enclosed (codes "stop(") (term_text t) (codes ")") rest)
            (Stands-word total word.Stop (40 ∷ (term_text t ++ 41 ∷ rest)) _ refl (Stands-open total (term_text t ++ 41 ∷ rest) _ r.stands));
      }
  term_spelled total (require t cancels) levels rest w fits words halts behind =
      let b = below t levels fits in
      let behind_it = cancels_spelled total cancels (41 ∷ rest) (a_symbol symbol.Close w) refl (Stands-close total rest w behind) in
      let r = term_spelled total t b.levels (cancels_text cancels ++ 41 ∷ rest) (spell_cancels cancels (a_symbol symbol.Close w)) b.fits words
      (stops_cancels cancels (41 ∷ rest) refl) behind_it in
      record {
        placed = require r.placed cancels;
        same = ap (λ u. require u cancels) r.same;
        stands = regrouped total _ _ _ (cancels_text_of (term_text t) (cancels_text cancels) rest)
            (Stands-word total word.Req (40 ∷ (term_text t ++ (cancels_text cancels ++ 41 ∷ rest))) _ refl
            (Stands-open total (term_text t ++ (cancels_text cancels ++ 41 ∷ rest)) _ r.stands));
      }
  term_spelled total (fold place list start a x body) levels rest w fits words halts behind =
      let list_fits : Bool = whole_in list levels (λ b. term_fits list b) in
      let start_fits : Bool = whole_in start levels (λ b. term_fits start b) in
      let f = (and-eq-true_iff (list_fits && start_fits && name_fits a && name_fits x) (whole_in body levels (λ b. term_fits body b))).0 fits in
      let i = (and-eq-true_iff (list_fits && start_fits && name_fits a) (name_fits x)).0 f.0 in
      let j = (and-eq-true_iff (list_fits && start_fits) (name_fits a)).0 i.0 in
      let g = (and-eq-true_iff list_fits start_fits).0 j.0 in
      let h = (and-eq-true_iff (term_has_words list && term_has_words start) (term_has_words body)).0 words in
      let k = (and-eq-true_iff (term_has_words list) (term_has_words start)).0 h.0 in
      let list_below = below list levels g.0 in
      let start_below = below start levels g.1 in
      let body_below = below body levels f.1 in
      let last = term_spelled total body body_below.levels (41 ∷ rest) (a_symbol symbol.Close w) body_below.fits h.1 refl (Stands-close total rest w behind) in
      let after_x = codes ", " ++ (term_text body ++ 41 ∷ rest) in
      let x_wanted = a_name (name_there total x.text after_x) (a_symbol symbol.Comma (spell_term last.placed (a_symbol symbol.Close w))) in
      let x_stands = Stands-name total x.text after_x _ i.1 refl (Stands-separator total (term_text body ++ 41 ∷ rest) _ last.stands) in
      let after_a = codes ", " ++ (x.text ++ after_x) in
      let a_wanted = a_name (name_there total a.text after_a) (a_symbol symbol.Comma x_wanted) in
      let a_stands = Stands-name total a.text after_a _ j.1 refl (Stands-separator total (x.text ++ after_x) x_wanted x_stands) in
      let after_start = codes ", " ++ (a.text ++ after_a) in
      let second = term_spelled total start start_below.levels after_start (a_symbol symbol.Comma a_wanted) start_below.fits k.1 refl
      (Stands-separator total (a.text ++ after_a) a_wanted a_stands) in
      let after_list = codes ", " ++ (term_text start ++ after_start) in
      let start_wanted = a_symbol symbol.Comma (spell_term second.placed (a_symbol symbol.Comma a_wanted)) in
      let first = term_spelled total list list_below.levels after_list start_wanted list_below.fits k.0 refl (Stands-separator total (term_text start ++ after_start) _ second.stands) in
      record {
        placed = fold (place_of total (word_text word.Fold ++ 40 ∷ (term_text list ++ after_list))) first.placed second.placed
            (name_there total a.text after_a) (name_there total x.text after_x) last.placed;
        same = fold_same (unplaced_of a) (unplaced_of x) _ _ _ _ _ _ first.same second.same last.same;
        stands = regrouped total _ _ _ (fold_text (term_text list) (term_text start) a.text x.text (term_text body) rest)
            (opened_at total word.Fold (term_text list ++ after_list) (spell_term first.placed start_wanted) first.stands);
      }
  term_spelled total (unary op t) levels rest w fits words halts behind =
      let f = (and-eq-true_iff (is_signed t) (deeper levels (λ b. term_fits t b))).0 fits in
      let b = deeper_below t levels f.1 in
      let r = term_spelled total t b.levels rest w b.fits words halts behind in
      record {
        placed = unary op r.placed;
        same = ap (unary op) r.same;
        stands = regrouped total _ _ _ (append_assoc (sign_text op) (term_text t) rest)
            (sign_stands total op (term_text t ++ rest) _ (term_signable t b.levels rest b.fits words) r.stands);
      }
  term_spelled total (binary op left right) levels rest w fits words halts behind =
      let f = (and-eq-true_iff (are_operands op left right && term_fits left levels) (term_fits right levels)).0 fits in
      let g = (and-eq-true_iff (are_operands op left right) (term_fits left levels)).0 f.0 in
      let h = (and-eq-true_iff (term_has_words left) (term_has_words right)).0 words in
      let second = term_spelled total right levels rest w f.1 h.1 halts behind in
      let between = Stands-blank total 32 _ _ refl (Stands-operator total op (term_text right ++ rest) (spell_term second.placed w) (Stands-blank total 32 _ _ refl second.stands)) in
      let first = term_spelled total left levels (32 ∷ (operator_text op ++ 32 ∷ (term_text right ++ rest))) (a_symbol (operator_symbol op) (spell_term second.placed w)) g.1 h.0 refl between in
      record {
        placed = binary op first.placed second.placed;
        same = ap₂ (binary op) first.same second.same;
        stands = regrouped total _ _ _ (binary_text (term_text left) (operator_text op) (term_text right) rest) first.stands;
      }
  term_spelled total (choice condition chosen otherwise) levels rest w fits words halts behind =
      let f = (and-eq-true_iff (whole_in condition levels (λ b. term_fits condition b) && whole_in chosen levels (λ b. term_fits chosen b)) (whole_in otherwise levels (λ b. term_fits otherwise b))).0 fits in
      let g = (and-eq-true_iff (whole_in condition levels (λ b. term_fits condition b)) (whole_in chosen levels (λ b. term_fits chosen b))).0 f.0 in
      let h = (and-eq-true_iff (term_has_words condition && term_has_words chosen) (term_has_words otherwise)).0 words in
      let i = (and-eq-true_iff (term_has_words condition) (term_has_words chosen)).0 h.0 in
      let condition_below = below condition levels g.0 in
      let chosen_below = below chosen levels g.1 in
      let otherwise_below = below otherwise levels f.1 in
      let last = term_spelled total otherwise otherwise_below.levels rest w otherwise_below.fits h.1 halts behind in
      let after_chosen = codes " else " ++ (term_text otherwise ++ rest) in
      let else_stands = Stands-blank total 32 _ _ refl (Stands-word total word.Else (32 ∷ (term_text otherwise ++ rest)) _ refl
      (Stands-blank total 32 (term_text otherwise ++ rest) _ refl last.stands)) in
      let second = term_spelled total chosen chosen_below.levels after_chosen (a_word word.Else (spell_term last.placed w)) chosen_below.fits i.1 refl else_stands in
      let after_condition = codes ") " ++ (term_text chosen ++ after_chosen) in
      let first = term_spelled total condition condition_below.levels after_condition
      (a_symbol symbol.Close (spell_term second.placed (a_word word.Else (spell_term last.placed w)))) condition_below.fits i.0 refl
      (Stands-close total _ _ (Stands-blank total 32 (term_text chosen ++ after_chosen) _ refl second.stands)) in
      record {
        placed = choice first.placed second.placed last.placed;
        same = choice_same _ _ _ _ _ _ first.same second.same last.same;
        stands = regrouped total _ _ _ (choice_text (term_text condition) (term_text chosen) (term_text otherwise) rest)
            (Stands-word total word.If (32 ∷ 40 ∷ (term_text condition ++ after_condition)) _ refl
            (Stands-blank total 32 _ _ refl (Stands-open total (term_text condition ++ after_condition) _ first.stands)));
      }
  term_spelled total (call f ts) levels rest w fits words halts behind =
      let g = (and-eq-true_iff (is_count (arguments_of f) (count ts)) (terms_fit ts levels)).0 fits in
      let r = terms_spelled total ts levels (41 ∷ rest) (a_symbol symbol.Close w) g.1 words refl (Stands-close total rest w behind) in
      let bytes = 40 ∷ (terms_text ts ++ 41 ∷ rest) in
      let word_is : function_text f ++ bytes ≡ word_text (function_word f) ++ bytes = ap (λ l. l ++ bytes) (function_text-word f) in
      record {
        placed = call f r.placed;
        same = ap (call f) r.same;
        stands = regrouped total _ _ _ (call_text (function_text f) (terms_text ts) rest) (regrouped total _ _ _ word_is
            (Stands-word total (function_word f) bytes _ refl (Stands-open total (terms_text ts ++ 41 ∷ rest) _ r.stands)));
      }

  pub terms_spelled : (total : ℕ) (ts : DraftTrees) (levels : ℕ) (rest : List ℕ) (w : Wording) → terms_fit ts levels ≡ true → terms_have_words ts ≡ true
      → Stops rest → Stands total rest w → TermsSpelled total (terms_text ts ++ rest) ts w
  terms_spelled total no_trees levels rest w fits words halts behind = record { placed = no_trees; same = refl; stands = behind }
  terms_spelled total (tree t ts) levels rest w fits words halts behind =
      let f = (and-eq-true_iff (whole_in t levels (λ b. term_fits t b)) (terms_fit ts levels)).0 fits in
      let h = (and-eq-true_iff (term_has_words t) (terms_have_words ts)).0 words in
      let b = below t levels f.0 in
      let more = more_spelled total ts levels rest w f.1 h.1 halts behind in
      let first = term_spelled total t b.levels (more_terms ts ++ rest) (spell_more more.placed w) b.fits h.0 (more_halts ts rest halts) more.stands in
      record {
        placed = tree first.placed more.placed;
        same = ap₂ tree first.same more.same;
        stands = regrouped total _ _ _ (append_assoc (term_text t) (more_terms ts) rest) first.stands;
      }

  pub more_spelled : (total : ℕ) (ts : DraftTrees) (levels : ℕ) (rest : List ℕ) (w : Wording) → terms_fit ts levels ≡ true → terms_have_words ts ≡ true
      → Stops rest → Stands total rest w → MoreSpelled total (more_terms ts ++ rest) ts w
  more_spelled total no_trees levels rest w fits words halts behind = record { placed = no_trees; same = refl; stands = behind }
  more_spelled total (tree t ts) levels rest w fits words halts behind =
      let f = (and-eq-true_iff (whole_in t levels (λ b. term_fits t b)) (terms_fit ts levels)).0 fits in
      let h = (and-eq-true_iff (term_has_words t) (terms_have_words ts)).0 words in
      let b = below t levels f.0 in
      let more = more_spelled total ts levels rest w f.1 h.1 halts behind in
      let first = term_spelled total t b.levels (more_terms ts ++ rest) (spell_more more.placed w) b.fits h.0 (more_halts ts rest halts) more.stands in
      record {
        placed = tree first.placed more.placed;
        same = ap₂ tree first.same more.same;
        stands = regrouped total _ _ _ (enclosed (codes ", ") (term_text t) (more_terms ts) rest)
            (Stands-separator total (term_text t ++ (more_terms ts ++ rest)) _ first.stands);
      }
