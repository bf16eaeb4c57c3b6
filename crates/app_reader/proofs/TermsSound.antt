-- What is read as a term is spelled so, and fits.
use Rattle.std.proofs.Common.{◌≡◌, ℕ, zero, suc, pos, ◌+◌, ◌<◌, ◌≤◌, Bool, true, false, ◌&&◌, List, [], ◌∷◌, ◌++◌, length, Result, Ok, Option, Some, None, refl, sym, ap, subst, ◌∙◌, arith, length-append}
use Rattle.std.proofs.lemmas.Bool.{and_from, and_parts}
use Rattle.std.specs.Prelude.{nat_eq, nat_le, nat_lt}
use Rattle.rx_value.specs.declared.value.Value.TheVariants as v
use Rattle.rx_value.specs.Functions.{is_count}
use Rattle.rx_value.specs.declared.function.Fun.TheVariants as fun
use Rattle.app_tokens.specs.declared.token.Token.{Token}
use Rattle.app_tokens.specs.declared.word.Word.{Word}
use Rattle.app_tokens.specs.declared.word.Word.TheVariants as word
use Rattle.app_tokens.specs.declared.symbol.Symbol.TheVariants as symbol
use Rattle.app_tokens.specs.Tokens.{Tokens}
use Rattle.app_tree.specs.declared.term.Operator.{Operator}
use Rattle.app_tree.specs.declared.term.Function.{Function}
use Rattle.app_tree.specs.declared.term.Function.TheVariants as function
use Rattle.app_tree.specs.declared.draft_term.Name.{Name}
use Rattle.app_tree.specs.declared.draft_term.ReadForm.{ReadForm}
use Rattle.app_tree.specs.declared.draft_term.ReadForm.TheVariants as form
use Rattle.app_tree.specs.DraftTree.{DraftTree, constant, group, read, variable, isolate, stop, require, fold, unary, binary, choice, call}
use Rattle.app_tree.specs.DraftView.{draft_trees}
use Rattle.app_tree.specs.Fits.{name_fits, rank_of, hold_of, left_of, are_operands, is_signed, operators, arguments_of, count, deeper, whole_in, term_fits, terms_fit}
use Rattle.app_reader.specs.declared.error.ReadError.{ReadError}
use Rattle.app_reader.specs.declared.operators.Rank.{Rank}
use Rattle.app_reader.specs.declared.operators.Rank.TheVariants as rank
use Rattle.rx_value.specs.Results.{◌>>=◌, choose}
use Rattle.app_reader.specs.State.{Reads, choose_some, place_of, rest_of, skip, is_word_next, is_symbol_next, is_name_next, is_text_next, next_word, next_symbol, unexpected, word_at, symbol_at, name_at, number_at, text_at, turns_of}
use Rattle.app_reader.specs.Words.{function_of, read_form_of}
use Rattle.app_reader.specs.Terms.{named_at, input_at, read_at, truth_at, truth_value, word_term_at, literal_at, bracketed_at, group_at, isolate_at, stop_at, cancels_at, require_at, part_at, inner_name_at, last_part_at, fold_start_at, inner_names_at, fold_at, further_at, listed_at, counted_at, optional_at, arguments_at, call_at, special_at, worded_at, atom_at, next_sign, unary_in, Counted, Operand, next_operator, is_operator_next, operator_and_rest, operator_at, right_at, chain_at, once_at, unary_operand, product_at, sum_at, comparison_at, and_at, or_at, operation_at, ways_at, choice_at, term_in, term_at, unary_at}
use Rattle.app_reader.specs.Spelling.{of_kind, called, Wording, next, IsSpelledBy, a_word, a_symbol, a_name, operator_symbol, sign_symbol, function_word, literal_kind, spell_named, spell_read, spell_cancels, spell_term, spell_terms, spell_more, spell_bracketed}
use Rattle.app_reader.specs.Laws.{tokens_fit}
use Rattle.app_reader.proofs.Ranks.{code, operator_stands, sign_stands, function_of-is, no_operators}
use Rattle.app_reader.proofs.Got.{bind_ok, ok_is, Got, SoundAt, IsSound, already, refused, seq1, seq2, seq3, seq4, choose_sound, found_sound, symbol_stands, word_stands, behind_symbol, behind_word, behind_word_there, fewer_symbol, stays, onward, leads_symbol, fit_behind, weaker, bind_sound, chosen, choose_from, symbol_takes, Any, symbol_sound, word_sound, number_sound, text_sound, IsWord, name_sound, loop_keeps, loop_ends, collected}

-- a term of its own, with so many levels from its own on
abbrev pub Whole : ℕ → DraftTree → Type 0
Whole levels t = whole_in t levels (λ below. term_fits t below) ≡ true

-- a term that may stand as an operand of every operator, with so many levels below its own
abbrev Atom : ℕ → DraftTree → Type 0
Atom levels t = (hold_of t ≡ 6) × (term_fits t levels ≡ true)

-- the operand of a sign, with so many levels from its own on
abbrev Signed : ℕ → DraftTree → Type 0
Signed levels t = (hold_of t ≡ 6) × (deeper levels (λ below. term_fits t below) ≡ true)

-- ---- names and constants

-- the name of a read stands at the read's place
calls : (n : Name) (rest : Wording) (ts : List Token) → IsSpelledBy (a_name n rest) ts → IsSpelledBy (next (called n.place n) rest) ts
calls n rest [] h = absurd h
calls n rest (t ∷ ts) h = ((h.0, h.0.is_there), h.1)

named_sound : (levels : ℕ) → IsSound spell_term (Atom levels) named_at
unfolding named_at
named_sound levels s =
    let go : Name × Tokens → Result (DraftTree × Tokens) ReadError = λ n. choose (is_symbol_next symbol.Open n.1) (λ t. symbol_at symbol.Close (skip t) >>= λ close. Ok (read form.Named n.0.place n.0, close.1)) (λ t. Ok (variable n.0, t)) n.1 in
    bind_sound s (name_at s) go (name_sound s) (λ a g. after a g)
  where
    after : (a : Name × Tokens) → Got a_name IsWord s a → SoundAt spell_term (Atom levels) s (choose (is_symbol_next symbol.Open a.1) (λ t. symbol_at symbol.Close (skip t) >>= λ close. Ok (read form.Named a.0.place a.0, close.1)) (λ t. Ok (variable a.0, t)) a.1)
    after a g =
        let n : Name = a.0 in
        let reads : DraftTree = read form.Named n.place n in
        choose_from (is_symbol_next symbol.Open a.1) (λ t. symbol_at symbol.Close (skip t) >>= λ close. Ok (reads, close.1)) (λ t. Ok (variable n, t)) a.1 s
        (λ opens. onward {SB = λ t rest. a_symbol symbol.Open (a_symbol symbol.Close rest)} {PB = λ t. reads ≡ t} s a (symbol_at symbol.Close (skip a.1) >>= λ close. Ok (reads, close.1)) g
        (behind_symbol symbol.Open a.1 (symbol_at symbol.Close (skip a.1) >>= λ close. Ok (reads, close.1)) (symbol_stands symbol.Open a.1 opens)
        (seq1 (skip a.1) (symbol_at symbol.Close (skip a.1)) (λ u. reads) (symbol_sound symbol.Close (skip a.1)) (λ u p. refl) (λ u rest p h. h)))
        (λ t p is. subst (Atom levels) is (refl, refl))
        (λ t rest p is h. subst (λ t. IsSpelledBy (spell_term t rest) s.tokens) is (calls n (a_symbol symbol.Open (a_symbol symbol.Close rest)) s.tokens h)))
        (λ no. onward {SB = λ t rest. rest} {PB = λ t. variable n ≡ t} s a (Ok (variable n, a.1)) g (stays a.1 (variable n) refl (λ rest h. h))
        (λ t p is. subst (Atom levels) is (refl, p))
        (λ t rest p is h. subst (λ t. IsSpelledBy (spell_term t rest) s.tokens) is h))

input_sound : (levels : ℕ) (s : Tokens) → next_word s ≡ Some word.Input → SoundAt spell_term (Atom levels) s (input_at s)
unfolding input_at
input_sound levels s begins =
    seq2 s (symbol_at symbol.Dollar (skip s)) name_at (λ u n. read form.Input (place_of s) n)
    (behind_word_there word.Input s (symbol_at symbol.Dollar (skip s)) begins (symbol_sound symbol.Dollar (skip s))) name_sound
    (λ u n p q. (refl, refl)) (λ u n rest p q h. h)

-- a word and a name in brackets
read_sound : (levels : ℕ) (w : Word) (f : ReadForm) (s : Tokens) → next_word s ≡ Some w → ((place : ℕ) (n : Name) (rest : Wording) → spell_named w place n rest ≡ spell_read f place n rest)
    → SoundAt spell_term (Atom levels) s (read_at f s)
unfolding read_at
read_sound levels w f s begins is =
    seq3 s (symbol_at symbol.Open (skip s)) name_at (symbol_at symbol.Close) (λ u n c. read f (place_of s) n)
    (behind_word_there w s (symbol_at symbol.Open (skip s)) begins (symbol_sound symbol.Open (skip s))) name_sound (symbol_sound symbol.Close)
    (λ u n c p q r. (refl, refl)) (λ u n c rest p q h. subst (λ x. IsSpelledBy x s.tokens) (is (place_of s) n rest) h)

read_form_sound : (levels : ℕ) (w : Word) (f : ReadForm) (s : Tokens) → read_form_of w ≡ Some f → next_word s ≡ Some w → SoundAt spell_term (Atom levels) s (read_at f s)
read_form_sound levels word.Status f s e begins = let is : form.Status ≡ f = cc in subst (λ g. SoundAt spell_term (Atom levels) s (read_at g s)) is (read_sound levels word.Status form.Status s begins (λ place n rest. refl))
read_form_sound levels word.Result f s e begins = let is : form.Result ≡ f = cc in subst (λ g. SoundAt spell_term (Atom levels) s (read_at g s)) is (read_sound levels word.Result form.Result s begins (λ place n rest. refl))
read_form_sound levels word.Width f s e begins = let is : form.Width ≡ f = cc in subst (λ g. SoundAt spell_term (Atom levels) s (read_at g s)) is (read_sound levels word.Width form.Width s begins (λ place n rest. refl))
read_form_sound levels word.Height f s e begins = let is : form.Height ≡ f = cc in subst (λ g. SoundAt spell_term (Atom levels) s (read_at g s)) is (read_sound levels word.Height form.Height s begins (λ place n rest. refl))
read_form_sound levels _ f s e begins = absurd cc

abbrev pub a_truth : Option Bool → Wording → Wording
a_truth o rest = next (of_kind (literal_kind (truth_value o))) rest

pub truth_sound : IsSound a_truth Any truth_at
unfolding truth_at
truth_sound s =
    choose_sound (is_word_next word.True s) (λ t. word_at word.True t >>= λ w. Ok (Some true, w.1))
    (choose (is_word_next word.False s) (λ t. word_at word.False t >>= λ w. Ok (Some false, w.1)) (λ t. word_at word.Null t >>= λ null. Ok (None, null.1))) s
    (λ e. seq1 s (word_at word.True s) (λ u. Some true) (word_sound word.True s) (λ u p. tt) (λ u rest p h. h))
    (λ e. choose_sound (is_word_next word.False s) (λ t. word_at word.False t >>= λ w. Ok (Some false, w.1)) (λ t. word_at word.Null t >>= λ null. Ok (None, null.1)) s
    (λ e. seq1 s (word_at word.False s) (λ u. Some false) (word_sound word.False s) (λ u p. tt) (λ u rest p h. h))
    (λ e. seq1 s (word_at word.Null s) (λ u. None) (word_sound word.Null s) (λ u p. tt) (λ u rest p h. h)))

truth_atom : (levels : ℕ) (o : Option Bool) → Atom levels (constant (truth_value o))
truth_atom levels None = (refl, refl)
truth_atom levels (Some truth) = (refl, refl)

word_term_sound : (levels : ℕ) → IsSound spell_term (Atom levels) word_term_at
unfolding word_term_at
word_term_sound levels s = seq1 s (truth_at s) (λ o. constant (truth_value o)) (truth_sound s) (λ o p. truth_atom levels o) (λ o rest p h. h)

literal_sound : (levels : ℕ) → IsSound spell_term (Atom levels) literal_at
unfolding literal_at
literal_sound levels s =
    choose_sound (is_text_next s) (λ t. text_at t >>= λ text. Ok (constant (v.Text text.0), text.1)) (λ t. number_at t >>= λ n. Ok (constant (v.Int (pos n.0)), n.1)) s
    (λ e. seq1 s (text_at s) (λ bytes. constant (v.Text bytes)) (text_sound s) (λ bytes p. (refl, p)) (λ bytes rest p h. h))
    (λ e. seq1 s (number_at s) (λ n. constant (v.Int (pos n))) (number_sound s) (λ n p. (refl, p)) (λ n rest p h. h))

-- ---- brackets

pub bracketed_sound : (term : Reads DraftTree) (P : DraftTree → Type 0) → IsSound spell_term P term → IsSound spell_bracketed P (bracketed_at term)
unfolding bracketed_at
bracketed_sound term P h s =
    seq3 s (symbol_at symbol.Open s) term (symbol_at symbol.Close) (λ u t c. t) (symbol_sound symbol.Open s) h (symbol_sound symbol.Close)
    (λ u t c p q r. q) (λ u t c rest p q h. h)

group_sound : (term : Reads DraftTree) (levels : ℕ) → IsSound spell_term (Whole levels) term → IsSound spell_term (Atom levels) (group_at term)
unfolding group_at
group_sound term levels h s = seq1 s (bracketed_at term s) group (bracketed_sound term (Whole levels) h s) (λ t p. (refl, p)) (λ t rest p h. h)

isolate_sound : (term : Reads DraftTree) (levels : ℕ) → IsSound spell_term (Whole levels) term → (s : Tokens) → next_word s ≡ Some word.Isolate → SoundAt spell_term (Atom levels) s (isolate_at term s)
unfolding isolate_at
isolate_sound term levels h s begins =
    seq1 s (bracketed_at term (skip s)) (λ t. isolate (place_of s) t) (behind_word_there word.Isolate s (bracketed_at term (skip s)) begins (bracketed_sound term (Whole levels) h (skip s)))
    (λ t p. (refl, p)) (λ t rest p h. h)

stop_sound : (term : Reads DraftTree) (levels : ℕ) → IsSound spell_term (Whole levels) term → (s : Tokens) → next_word s ≡ Some word.Stop → SoundAt spell_term (Atom levels) s (stop_at term s)
unfolding stop_at
stop_sound term levels h s begins =
    seq1 s (bracketed_at term (skip s)) stop (behind_word word.Stop s (bracketed_at term (skip s)) begins (bracketed_sound term (Whole levels) h (skip s)))
    (λ t p. (refl, p)) (λ t rest p h. h)

cancels_sound : IsSound spell_cancels Any cancels_at
unfolding cancels_at
cancels_sound s =
    choose_sound (is_symbol_next symbol.Comma s) (λ t. word_at word.CancelOutput (skip t) >>= λ w. Ok (true, w.1)) (λ t. Ok (false, t)) s
    (λ e. seq1 s (word_at word.CancelOutput (skip s)) (λ u. true) (behind_symbol symbol.Comma s (word_at word.CancelOutput (skip s)) (symbol_stands symbol.Comma s e) (word_sound word.CancelOutput (skip s)))
    (λ u p. tt) (λ u rest p h. h))
    (λ e. stays s false tt (λ rest h. h))

require_sound : (term : Reads DraftTree) (levels : ℕ) → IsSound spell_term (Whole levels) term → (s : Tokens) → next_word s ≡ Some word.Req → SoundAt spell_term (Atom levels) s (require_at term s)
unfolding require_at
require_sound term levels h s begins =
    seq4 s (symbol_at symbol.Open (skip s)) term cancels_at (symbol_at symbol.Close) (λ u t cancels c. require t cancels)
    (behind_word word.Req s (symbol_at symbol.Open (skip s)) begins (symbol_sound symbol.Open (skip s))) h cancels_sound (symbol_sound symbol.Close)
    (λ u t cancels c p q r o. (refl, q)) (λ u t cancels c rest p h. h)

-- term ","
abbrev spell_part : DraftTree → Wording → Wording
spell_part t rest = spell_term t (a_symbol symbol.Comma rest)

part_sound : (term : Reads DraftTree) (levels : ℕ) → IsSound spell_term (Whole levels) term → IsSound spell_part (Whole levels) (part_at term)
unfolding part_at
part_sound term levels h s = seq2 s (term s) (symbol_at symbol.Comma) (λ t u. t) (h s) (symbol_sound symbol.Comma) (λ t u p q. p) (λ t u rest p q h. h)

last_part_sound : (term : Reads DraftTree) (levels : ℕ) → IsSound spell_term (Whole levels) term → IsSound (λ t rest. spell_term t (a_symbol symbol.Close rest)) (Whole levels) (last_part_at term)
unfolding last_part_at
last_part_sound term levels h s = seq2 s (term s) (symbol_at symbol.Close) (λ t u. t) (h s) (symbol_sound symbol.Close) (λ t u p q. p) (λ t u rest p q h. h)

inner_name_sound : IsSound (λ n rest. a_name n (a_symbol symbol.Comma rest)) IsWord inner_name_at
unfolding inner_name_at
inner_name_sound s = seq2 s (name_at s) (symbol_at symbol.Comma) (λ n u. n) (name_sound s) (symbol_sound symbol.Comma) (λ n u p q. p) (λ n u rest p q h. h)

inner_names_sound : IsSound (λ (b : Name × Name) rest. a_name b.0 (a_symbol symbol.Comma (a_name b.1 (a_symbol symbol.Comma rest)))) (λ b. IsWord b.0 × IsWord b.1) inner_names_at
unfolding inner_names_at
inner_names_sound s = seq2 s (inner_name_at s) inner_name_at (λ a b. (a, b)) (inner_name_sound s) inner_name_sound (λ a b p q. (p, q)) (λ a b rest p q h. h)

fold_start_sound : (term : Reads DraftTree) (levels : ℕ) → IsSound spell_term (Whole levels) term
    → IsSound (λ (b : DraftTree × DraftTree) rest. a_symbol symbol.Open (spell_part b.0 (spell_part b.1 rest))) (λ b. Whole levels b.0 × Whole levels b.1) (fold_start_at term)
unfolding fold_start_at
fold_start_sound term levels h s =
    seq3 s (symbol_at symbol.Open s) (part_at term) (part_at term) (λ u a b. (a, b)) (symbol_sound symbol.Open s) (part_sound term levels h) (part_sound term levels h)
    (λ u a b p q r. (q, r)) (λ u a b rest p q h. h)

fold_fits : (levels : ℕ) (place : ℕ) (a b c : DraftTree) (m n : Name) → Whole levels a → Whole levels b → IsWord m → IsWord n → Whole levels c → Atom levels (fold place a b m n c)
fold_fits levels place a b c m n p q u v r =
    let fits_a : Bool = whole_in a levels (λ below. term_fits a below) in
    let fits_b : Bool = whole_in b levels (λ below. term_fits b below) in
    let fits_c : Bool = whole_in c levels (λ below. term_fits c below) in
    (refl, and_from (fits_a && fits_b && name_fits m && name_fits n) fits_c (and_from (fits_a && fits_b && name_fits m) (name_fits n) (and_from (fits_a && fits_b) (name_fits m) (and_from fits_a fits_b p q) u) v) r)

fold_sound : (term : Reads DraftTree) (levels : ℕ) → IsSound spell_term (Whole levels) term → (s : Tokens) → next_word s ≡ Some word.Fold → SoundAt spell_term (Atom levels) s (fold_at term s)
unfolding fold_at
fold_sound term levels h s begins =
    seq3 s (fold_start_at term (skip s)) inner_names_at (last_part_at term) (λ b names body. fold (place_of s) b.0 b.1 names.0 names.1 body)
    (behind_word_there word.Fold s (fold_start_at term (skip s)) begins (fold_start_sound term levels h (skip s))) inner_names_sound (last_part_sound term levels h)
    (λ b names body p q r. fold_fits levels (place_of s) b.0 b.1 body names.0 names.1 p.0 p.1 q.0 q.1 r) (λ b names body rest p q h. h)

-- ---- lists of terms and calls

abbrev pub spell_list : List DraftTree → Wording → Wording
spell_list ts rest = spell_terms (draft_trees ts) rest

abbrev pub AllWhole : ℕ → List DraftTree → Type 0
AllWhole levels ts = terms_fit (draft_trees ts) levels ≡ true

abbrev pub IsMany : {A : Type 0} → List A → Type 0
IsMany [] = ⊥
IsMany (x ∷ xs) = Unit {0}

pub many_push : {A : Type 0} (xs : List A) (x : A) → IsMany (xs ++ x ∷ [])
many_push [] x = tt
many_push (y ∷ ys) x = tt

fits_push : (levels : ℕ) (ts : List DraftTree) (t : DraftTree) → AllWhole levels ts → Whole levels t → AllWhole levels (ts ++ t ∷ [])
fits_push levels [] t h f = and_from (whole_in t levels (λ below. term_fits t below)) true f refl
fits_push levels (x ∷ ts) t h f =
    and_from (whole_in x levels (λ below. term_fits x below)) (terms_fit (draft_trees (ts ++ t ∷ [])) levels)
    ((and_parts (whole_in x levels (λ below. term_fits x below)) (terms_fit (draft_trees ts) levels) h).0)
    (fits_push levels ts t ((and_parts (whole_in x levels (λ below. term_fits x below)) (terms_fit (draft_trees ts) levels) h).1) f)

more_push : (ts : List DraftTree) (t : DraftTree) (rest : Wording) → spell_more (draft_trees ts) (a_symbol symbol.Comma (spell_term t rest)) ≡ spell_more (draft_trees (ts ++ t ∷ [])) rest
more_push [] t rest = refl
more_push (x ∷ ts) t rest = ap (λ w. a_symbol symbol.Comma (spell_term x w)) (more_push ts t rest)

list_push : (ts : List DraftTree) (t : DraftTree) (rest : Wording) → IsMany ts → spell_list ts (a_symbol symbol.Comma (spell_term t rest)) ≡ spell_list (ts ++ t ∷ []) rest
list_push [] t rest many = absurd many
list_push (x ∷ ts) t rest many = ap (spell_term x) (more_push ts t rest)

count_list : (ts : List DraftTree) → count (draft_trees ts) ≡ length ts
count_list [] = refl
count_list (t ∷ ts) = ap suc (count_list ts)

further_sound : (term : Reads DraftTree) (levels : ℕ) → IsSound spell_term (Whole levels) term → (s : Tokens) (b : List DraftTree × Tokens)
    → Got spell_list (λ ts. IsMany ts × AllWhole levels ts) s b → SoundAt spell_list (λ ts. IsMany ts × AllWhole levels ts) s (further_at term b)
unfolding further_at
further_sound term levels h s b got =
    seq3 s (Ok b) (symbol_at symbol.Comma) term (λ ts u t. ts ++ t ∷ []) (already s b got) (symbol_sound symbol.Comma) h
    (λ ts u t p q r. (many_push ts t, fits_push levels ts t p.1 r))
    (λ ts u t rest p q held. subst (λ w. IsSpelledBy w s.tokens) (list_push ts t rest p.0) held)

-- the first term of a list
first_sound : (term : Reads DraftTree) (levels : ℕ) → IsSound spell_term (Whole levels) term → (s : Tokens) (a : DraftTree × Tokens) → Got spell_term (Whole levels) s a
    → SoundAt spell_list (λ ts. IsMany ts × AllWhole levels ts) s (Ok (a.0 ∷ [], a.1))
first_sound term levels h s a g =
    seq1 s (Ok a) (λ t. t ∷ []) (already s a g) (λ t p. (tt, and_from (whole_in t levels (λ below. term_fits t below)) true p refl)) (λ t rest p held. held)

pub listed_sound : (term : Reads DraftTree) (levels : ℕ) → IsSound spell_term (Whole levels) term → IsSound spell_list (λ ts. IsMany ts × AllWhole levels ts) (listed_at term)
unfolding listed_at
listed_sound term levels h s =
    bind_sound s (term s) (λ first. turns_of (suc (length first.1.tokens)) (λ b. is_symbol_next symbol.Comma b.1) (further_at term) (first.0 ∷ [], first.1)) (h s)
    (λ a g. collected s (λ b. is_symbol_next symbol.Comma b.1) (further_at term) (suc (length a.1.tokens)) (a.0 ∷ [], a.1)
    (λ b holds got. further_sound term levels h s b got) (first_sound term levels h s a g))

pub optional_sound : (term : Reads DraftTree) (levels : ℕ) → IsSound spell_term (Whole levels) term → IsSound spell_list (AllWhole levels) (optional_at term)
unfolding optional_at
optional_sound term levels h s =
    choose_sound (is_symbol_next symbol.Close s) (λ t. Ok ([], t)) (listed_at term) s
    (λ e. stays s [] refl (λ rest held. held))
    (λ e. weaker s (listed_at term s) (listed_sound term levels h s) (λ ts p. p.1))

-- a list as its loop has it, with so many terms at most
record SoFar (levels k : ℕ) (s : Tokens) (b : List DraftTree × Tokens) : Type 0 where
  got : Got spell_list (λ ts. IsMany ts × AllWhole levels ts) s b
  few : length b.0 ≤ k

further_takes : (term : Reads DraftTree) (levels : ℕ) → IsSound spell_term (Whole levels) term → (b c : List DraftTree × Tokens) → tokens_fit b.1.tokens ≡ true → further_at term b ≡ Ok c
    → (length c.1.tokens < length b.1.tokens) × (length c.0 ≡ suc (length b.0))
unfolding further_at
further_takes term levels h b c good e =
    let a = bind_ok (symbol_at symbol.Comma b.1) (λ comma. term comma.1 >>= λ t. Ok (b.0 ++ t.0 ∷ [], t.1)) c e in
    let g = (symbol_sound symbol.Comma b.1).so good a.0 a.1 in
    let t = bind_ok (term a.0.1) (λ t. Ok (b.0 ++ t.0 ∷ [], t.1)) c a.2 in
    let f = (h a.0.1).so g.good t.0 t.1 in
    let made : List DraftTree × Tokens = (b.0 ++ t.0.0 ∷ [], t.0.1) in
    let takes : length t.0.1.tokens < length b.1.tokens = omega (arith, f.shorter, symbol_takes symbol.Comma b.1 a.0 a.1) in
    let long : length (b.0 ++ t.0.0 ∷ []) ≡ suc (length b.0) = omega (arith, length-append b.0 (t.0.0 ∷ [])) in
    subst (λ (c : List DraftTree × Tokens). (length c.1.tokens < length b.1.tokens) × (length c.0 ≡ suc (length b.0))) (ok_is made c t.2) (takes, long)

less_than : (m n : ℕ) → nat_lt m n ≡ true → m < n
less_than m n e = grind arith

not_less : (m n : ℕ) → nat_lt m n ≡ false → n ≤ m
not_less m n e = grind arith

pub same : (m n : ℕ) → m ≡ n → nat_eq m n ≡ true
same m n e = grind arith

-- so many terms
abbrev SoMany : ℕ → ℕ → List DraftTree → Type 0
SoMany levels k ts = (count (draft_trees ts) ≡ k) × AllWhole levels ts

counted_sound : (term : Reads DraftTree) (levels k : ℕ) → 1 ≤ k → IsSound spell_term (Whole levels) term → IsSound spell_list (SoMany levels k) (counted_at term k)
unfolding counted_at
counted_sound term levels k some h s =
    bind_sound s (term s) (λ first. turns_of (suc (length first.1.tokens)) (λ b. nat_lt (length b.0) k) (further_at term) (first.0 ∷ [], first.1)) (h s)
    (λ a g. record {
      so = λ good y e.
          let start = (first_sound term levels h s a g).so good (a.0 ∷ [], a.1) refl in
          let all = loop_ends (λ b. b.1) (SoFar levels k s) (λ b. nat_lt (length b.0) k) (further_at term)
          (λ b c holds inv stepped.
          let takes = further_takes term levels h b c inv.got.good stepped in
          let fewer : length c.0 ≤ k = omega (arith, takes.1, less_than (length b.0) k holds) in
          (record { got = (further_sound term levels h s b inv.got).so good c stepped; few = fewer }, takes.0))
          (suc (length a.1.tokens)) (a.0 ∷ [], a.1) y (omega arith) e (record { got = start; few = some }) in
          let many : count (draft_trees y.0) ≡ k = omega (arith, count_list y.0, all.0.few, not_less (length y.0) k all.1) in
          let end = all.0.got in
          record { spells = end.spells; holds = (many, end.holds.1); good = end.good; shorter = end.shorter };
    })

-- as many as a function takes
abbrev AreTaken : ℕ → Option ℕ → List DraftTree → Type 0
AreTaken levels o ts = (is_count o (count (draft_trees ts)) ≡ true) × AllWhole levels ts

arguments_sound : (term : Reads DraftTree) (levels : ℕ) (o : Option ℕ) → ((k : ℕ) → o ≡ Some k → 1 ≤ k) → IsSound spell_term (Whole levels) term → IsSound spell_list (AreTaken levels o) (arguments_at term o)
arguments_sound term levels (Some k) some h s = weaker s (counted_at term k s) (counted_sound term levels k (some k refl) h s) (λ ts p. (same (count (draft_trees ts)) k p.0, p.1))
arguments_sound term levels None some h s = weaker s (optional_at term s) (optional_sound term levels h s) (λ ts p. (refl, p))

is_some_count : (m k : ℕ) → Some m ≡ Some k → 1 ≤ m → 1 ≤ k
is_some_count m k e h = let is : m ≡ k = cc in omega arith

takes_some : (f : Function) (k : ℕ) → arguments_of f ≡ Some k → 1 ≤ k
takes_some (function.Fun fun.C) k e = absurd cc
takes_some (function.Fun fun.Paste0) k e = absurd cc
takes_some (function.Fun fun.Item) k e = is_some_count 2 k e (omega arith)
takes_some (function.Fun fun.Seq) k e = is_some_count 2 k e (omega arith)
takes_some (function.Fun _) k e = is_some_count 1 k e (omega arith)
takes_some (function.Plot p) k e = is_some_count 4 k e (omega arith)

call_sound : (term : Reads DraftTree) (levels : ℕ) → IsSound spell_term (Whole levels) term → (f : Function) (s : Tokens) → next_word s ≡ Some (function_word f) → SoundAt spell_term (Atom levels) s (call_at term f s)
unfolding call_at
call_sound term levels h f s begins =
    seq3 s (symbol_at symbol.Open (skip s)) (arguments_at term (arguments_of f)) (symbol_at symbol.Close) (λ u ts c. call f (draft_trees ts))
    (behind_word (function_word f) s (symbol_at symbol.Open (skip s)) begins (symbol_sound symbol.Open (skip s)))
    (arguments_sound term levels (arguments_of f) (takes_some f) h) (symbol_sound symbol.Close)
    (λ u ts c p q r. (refl, and_from (is_count (arguments_of f) (count (draft_trees ts))) (terms_fit (draft_trees ts) levels) (q.0) q.1))
    (λ u ts c rest p q held. held)

-- ---- atoms and signs

special_sound : (term : Reads DraftTree) (levels : ℕ) → IsSound spell_term (Whole levels) term → IsSound spell_term (Atom levels) (special_at term)
unfolding special_at
special_sound term levels h s =
    choose_sound (is_word_next word.Input s) input_at (choose (is_word_next word.Isolate s) (isolate_at term) (choose (is_word_next word.Stop s) (stop_at term) (choose (is_word_next word.Req s) (require_at term) (choose (is_word_next word.Fold s) (fold_at term) word_term_at)))) s
    (λ e. input_sound levels s (word_stands word.Input s e))
    (λ e. choose_sound (is_word_next word.Isolate s) (isolate_at term) (choose (is_word_next word.Stop s) (stop_at term) (choose (is_word_next word.Req s) (require_at term) (choose (is_word_next word.Fold s) (fold_at term) word_term_at))) s
    (λ e. isolate_sound term levels h s (word_stands word.Isolate s e))
    (λ e. choose_sound (is_word_next word.Stop s) (stop_at term) (choose (is_word_next word.Req s) (require_at term) (choose (is_word_next word.Fold s) (fold_at term) word_term_at)) s
    (λ e. stop_sound term levels h s (word_stands word.Stop s e))
    (λ e. choose_sound (is_word_next word.Req s) (require_at term) (choose (is_word_next word.Fold s) (fold_at term) word_term_at) s
    (λ e. require_sound term levels h s (word_stands word.Req s e))
    (λ e. choose_sound (is_word_next word.Fold s) (fold_at term) word_term_at s
    (λ e. fold_sound term levels h s (word_stands word.Fold s e))
    (λ e. word_term_sound levels s)))))

worded_sound : (term : Reads DraftTree) (levels : ℕ) → IsSound spell_term (Whole levels) term → (w : Word) (s : Tokens) → next_word s ≡ Some w → SoundAt spell_term (Atom levels) s (worded_at term w s)
unfolding worded_at
worded_sound term levels h w s begins =
    found_sound (function_of w) (call_at term) (choose_some (read_form_of w) read_at (special_at term)) s
    (λ f e. call_sound term levels h f s (begins ∙ ap (λ v. Some v) (sym (function_of-is w f e))))
    (λ e. found_sound (read_form_of w) read_at (special_at term) s
    (λ f e. read_form_sound levels w f s e begins)
    (λ e. special_sound term levels h s))

atom_sound : (term : Reads DraftTree) (levels : ℕ) → IsSound spell_term (Whole levels) term → IsSound spell_term (Atom levels) (atom_at term)
unfolding atom_at
atom_sound term levels h s =
    choose_sound (is_symbol_next symbol.Open s) (group_at term) (choose (is_name_next s) named_at (choose_some (next_word s) (worded_at term) literal_at)) s
    (λ e. group_sound term levels h s)
    (λ e. choose_sound (is_name_next s) named_at (choose_some (next_word s) (worded_at term) literal_at) s
    (λ e. named_sound levels s)
    (λ e. found_sound (next_word s) (worded_at term) literal_at s
    (λ w e. worded_sound term levels h w s e)
    (λ e. literal_sound levels s)))

unary_in_sound : (term operand : Reads DraftTree) (levels : ℕ) → IsSound spell_term (Whole levels) term → IsSound spell_term (Signed levels) operand → IsSound spell_term (Atom levels) (unary_in term operand)
unfolding unary_in
unary_in_sound term operand levels h k s =
    found_sound (next_sign s) (λ op t. operand (skip t) >>= λ u. Ok (unary op u.0, u.1)) (atom_at term) s
    (λ op e. seq1 s (operand (skip s)) (λ t. unary op t) (behind_symbol (sign_symbol op) s (operand (skip s)) (sign_stands (next_symbol s) op e) (k (skip s)))
    (λ t p. (refl, and_from (is_signed t) (deeper levels (λ below. term_fits t below)) (same (hold_of t) 6 p.0) p.1)) (λ t rest p held. held))
    (λ e. atom_sound term levels h s)

-- ---- operators

-- an operator of this rank was read, which counts
record Operated (r : Rank) (c : Counted) (y : Operator × Counted) : Type 0 where
  stands : next_symbol c.1 ≡ Some (operator_symbol y.0)
  ranks : rank_of y.0 ≡ code r
  counts : c.0 ≡ suc y.1.0
  left : skip c.1 ≡ y.1.1

counted_is : (n : ℕ) (o : Operator) (s : Tokens) (y : Operator × Counted) → operator_and_rest n o s ≡ Ok y → (o ≡ y.0) × (n ≡ suc y.1.0) × (skip s ≡ y.1.1)
counted_is zero o s y e = absurd cc
counted_is (suc n) o s y e =
    let made : Operator × Counted = (o, (n, skip s)) in
    let is = ok_is made y e in
    (ap (λ (y : Operator × Counted). y.0) is, ap (λ (y : Operator × Counted). suc y.1.0) is, ap (λ (y : Operator × Counted). y.1.1) is)

operator_sound : (r : Rank) (c : Counted) (y : Operator × Counted) → operator_at r c ≡ Ok y → Operated r c y
unfolding operator_at
operator_sound r c y e = by (next_operator r c.1) refl e
  where
    by : (o : Option Operator) → next_operator r c.1 ≡ o → choose_some o (operator_and_rest c.0) unexpected c.1 ≡ Ok y → Operated r c y
    by None is e = absurd cc
    by (Some o) is e =
        let k = counted_is c.0 o c.1 y e in
        let w = operator_stands r (next_symbol c.1) o is in
        record { stands = w.0 ∙ ap (λ o. Some (operator_symbol o)) k.0; ranks = ap rank_of (sym k.0) ∙ w.1; counts = k.1; left = k.2 }

-- an operand of operators was read, which holds so closely at least
record GotIn (closely levels : ℕ) (c : Counted) (y : DraftTree × Counted) : Type 0 where
  spells : (rest : Wording) → IsSpelledBy rest y.1.1.tokens → IsSpelledBy (spell_term y.0 rest) c.1.tokens
  holds : closely ≤ hold_of y.0
  fits : term_fits y.0 levels ≡ true
  counts : c.0 ≡ y.1.0 + operators y.0
  good : tokens_fit y.1.1.tokens ≡ true
  shorter : length y.1.1.tokens ≤ length c.1.tokens

record OperandSound (closely levels : ℕ) (operand : Operand) : Type 0 where
  so : (c : Counted) → tokens_fit c.1.tokens ≡ true → (y : DraftTree × Counted) → operand c ≡ Ok y → GotIn closely levels c y

looser : (closely levels : ℕ) (c : Counted) (y : DraftTree × Counted) → GotIn (suc closely) levels c y → GotIn closely levels c y
looser closely levels c y g =
    let holds : closely ≤ hold_of y.0 = omega (arith, g.holds) in
    record { spells = g.spells; holds = holds; fits = g.fits; counts = g.counts; good = g.good; shorter = g.shorter }

pub at_most : (m n : ℕ) → m ≤ n → nat_le m n ≡ true
at_most m n h = grind arith

below : (m n : ℕ) → m < n → nat_lt m n ≡ true
below m n h = grind arith

binary_fits : (o : Operator) (a b : DraftTree) (levels k l : ℕ) → rank_of o ≡ k → left_of k ≡ l → l ≤ hold_of a → k < hold_of b → term_fits a levels ≡ true → term_fits b levels ≡ true → term_fits (binary o a b) levels ≡ true
binary_fits o a b levels k l ranks is la lb fa fb =
    let left : nat_le (left_of (rank_of o)) (hold_of a) ≡ true = subst (λ r. nat_le (left_of r) (hold_of a) ≡ true) (sym ranks) (subst (λ m. nat_le m (hold_of a) ≡ true) (sym is) (at_most l (hold_of a) la)) in
    let right : nat_lt (rank_of o) (hold_of b) ≡ true = subst (λ r. nat_lt r (hold_of b) ≡ true) (sym ranks) (below k (hold_of b) lb) in
    and_from (are_operands o a b && term_fits a levels) (term_fits b levels)
    (and_from (are_operands o a b) (term_fits a levels) (and_from (nat_le (left_of (rank_of o)) (hold_of a)) (nat_lt (rank_of o) (hold_of b)) left right) fa) fb

-- an operator and its right operand, behind what was got to the left of them
right_sound : (r : Rank) (levels l : ℕ) (operand : Operand) → left_of (code r) ≡ l → OperandSound (suc (code r)) levels operand → (c : Counted) (b d : DraftTree × Counted)
    → GotIn l levels c b → right_at r operand b ≡ Ok d → GotIn (code r) levels c d
unfolding right_at
right_sound r levels l operand is h c b d g e =
    let p = bind_ok (operator_at r b.1) (λ o. operand o.1 >>= λ right. Ok (binary o.0 b.0 right.0, right.1)) d e in
    let o = operator_sound r b.1 p.0 p.1 in
    let q = bind_ok (operand p.0.1) (λ right. Ok (binary p.0.0 b.0 right.0, right.1)) d p.2 in
    let tail : tokens_fit (rest_of b.1.1.tokens) ≡ true = fit_behind (operator_symbol p.0.0) b.1.1 o.stands g.good in
    let good : tokens_fit p.0.1.1.tokens ≡ true = subst (λ (s : Tokens). tokens_fit s.tokens ≡ true) o.left tail in
    let k = h.so p.0.1 good q.0 q.1 in
    let made : DraftTree × Counted = (binary p.0.0 b.0 q.0.0, q.0.1) in
    let counts : c.0 ≡ q.0.1.0 + (operators b.0 + operators q.0.0 + 1) = omega (arith, g.counts, o.counts, k.counts) in
    let behind : length p.0.1.1.tokens ≡ length (rest_of b.1.1.tokens) = ap (λ (s : Tokens). length s.tokens) (sym o.left) in
    let fewer : length q.0.1.1.tokens ≤ length c.1.tokens = omega (arith, g.shorter, k.shorter, behind, fewer_symbol (operator_symbol p.0.0) b.1.1 o.stands) in
    let holds : code r ≤ rank_of p.0.0 = omega (arith, o.ranks) in
    subst (GotIn (code r) levels c) (ok_is made d q.2) (record {
      spells = λ rest left. g.spells (a_symbol (operator_symbol p.0.0) (spell_term q.0.0 rest))
          (leads_symbol (operator_symbol p.0.0) b.1.1 o.stands (spell_term q.0.0 rest)
          (subst (λ (s : Tokens). IsSpelledBy (spell_term q.0.0 rest) s.tokens) (sym o.left) (k.spells rest left)));
      holds = holds;
      fits = binary_fits p.0.0 b.0 q.0.0 levels (code r) l o.ranks is g.holds k.holds g.fits k.fits;
      counts = counts;
      good = k.good;
      shorter = fewer;
    })

chain_sound : (r : Rank) (levels : ℕ) (operand : Operand) → left_of (code r) ≡ code r → OperandSound (suc (code r)) levels operand → OperandSound (code r) levels (chain_at r operand)
unfolding chain_at
chain_sound r levels operand is h = record {
  so = λ c good y e.
      let a = bind_ok (operand c) (λ first. turns_of (suc (length first.1.1.tokens)) (λ b. is_operator_next r b.1.1) (right_at r operand) first) y e in
      loop_keeps (GotIn (code r) levels c) (λ b. is_operator_next r b.1.1) (right_at r operand)
      (λ b d holds g stepped. right_sound r levels (code r) operand is h c b d g stepped)
      (suc (length a.0.1.1.tokens)) a.0 y a.2 (looser (code r) levels c a.0 (h.so c good a.0 a.1));
}

once_sound : (r : Rank) (levels : ℕ) (operand : Operand) → left_of (code r) ≡ suc (code r) → OperandSound (suc (code r)) levels operand → OperandSound (code r) levels (once_at r operand)
unfolding once_at
once_sound r levels operand is h = record {
  so = λ c good y e.
      let a = bind_ok (operand c) (λ first. choose (is_operator_next r first.1.1) (right_at r operand) (λ b. Ok b) first) y e in
      let g = h.so c good a.0 a.1 in
      chosen (is_operator_next r a.0.1.1) (right_at r operand) (λ b. Ok b) a.0 (GotIn (code r) levels c y) a.2
      (λ holds f. right_sound r levels (suc (code r)) operand is h c a.0 y g f)
      (λ none f. subst (GotIn (code r) levels c) (ok_is a.0 y f) (looser (code r) levels c a.0 g));
}

unary_operand_sound : (p : Reads DraftTree) (levels : ℕ) → IsSound spell_term (Atom levels) p → OperandSound 6 levels (unary_operand p)
unary_operand_sound p levels h = record {
  so = λ c good y e.
      let a = bind_ok (p c.1) (λ t. Ok (t.0, (c.0, t.1))) y e in
      let g = (h c.1).so good a.0 a.1 in
      let made : DraftTree × Counted = (a.0.0, (c.0, a.0.1)) in
      let closely : 6 ≤ hold_of a.0.0 = omega (arith, g.holds.0) in
      let counts : c.0 ≡ c.0 + operators a.0.0 = omega (arith, no_operators a.0.0 g.holds.0) in
      subst (GotIn 6 levels c) (ok_is made y a.2) (record { spells = g.spells; holds = closely; fits = g.holds.1; counts = counts; good = g.good; shorter = g.shorter });
}

or_sound : (p : Reads DraftTree) (levels : ℕ) → IsSound spell_term (Atom levels) p → OperandSound 1 levels (or_at p)
or_sound p levels h =
    let products = chain_sound rank.Product levels (unary_operand p) refl (unary_operand_sound p levels h) in
    let sums = chain_sound rank.Sum levels (product_at p) refl products in
    let comparisons = once_sound rank.Comparison levels (sum_at p) refl sums in
    let ands = chain_sound rank.And levels (comparison_at p) refl comparisons in
    chain_sound rank.Or levels (and_at p) refl ands

operation_sound : (p : Reads DraftTree) (levels : ℕ) → IsSound spell_term (Atom levels) p → IsSound spell_term (Whole (suc levels)) (operation_at p)
unfolding operation_at
operation_sound p levels h s = record {
  so = λ good y e.
      let a = bind_ok (or_at p (64, s)) (λ t. Ok (t.0, t.1.1)) y e in
      let g = (or_sound p levels h).so (64, s) good a.0 a.1 in
      let made : DraftTree × Tokens = (a.0.0, a.0.1.1) in
      let few : operators a.0.0 ≤ 64 = omega (arith, g.counts) in
      subst (Got spell_term (Whole (suc levels)) s) (ok_is made y a.2) (record {
        spells = g.spells;
        holds = and_from (nat_le (operators a.0.0) 64) (term_fits a.0.0 levels) (at_most (operators a.0.0) 64 few) g.fits;
        good = g.good;
        shorter = g.shorter;
      });
}

-- ---- whole terms

ways_sound : (term : Reads DraftTree) (levels : ℕ) → IsSound spell_term (Whole levels) term
    → IsSound (λ (w : DraftTree × DraftTree) rest. spell_term w.0 (a_word word.Else (spell_term w.1 rest))) (λ w. Whole levels w.0 × Whole levels w.1) (ways_at term)
unfolding ways_at
ways_sound term levels h s = seq3 s (term s) (word_at word.Else) term (λ a u b. (a, b)) (h s) (word_sound word.Else) h (λ a u b p q r. (p, r)) (λ a u b rest p q held. held)

choice_fits : (levels : ℕ) (a b c : DraftTree) → Whole levels a → Whole levels b → Whole levels c → Whole (suc levels) (choice a b c)
choice_fits levels a b c p q r =
    and_from (whole_in a levels (λ below. term_fits a below) && whole_in b levels (λ below. term_fits b below)) (whole_in c levels (λ below. term_fits c below))
    (and_from (whole_in a levels (λ below. term_fits a below)) (whole_in b levels (λ below. term_fits b below)) p q) r

choice_sound : (term : Reads DraftTree) (levels : ℕ) → IsSound spell_term (Whole levels) term → (s : Tokens) → next_word s ≡ Some word.If → SoundAt spell_term (Whole (suc levels)) s (choice_at term s)
unfolding choice_at
choice_sound term levels h s begins =
    seq2 s (bracketed_at term (skip s)) (ways_at term) (λ a w. choice a w.0 w.1)
    (behind_word word.If s (bracketed_at term (skip s)) begins (bracketed_sound term (Whole levels) h (skip s))) (ways_sound term levels h)
    (λ a w p q. choice_fits levels a w.0 w.1 p q.0 q.1) (λ a w rest p q held. held)

term_in_sound : (term operand : Reads DraftTree) (levels : ℕ) → IsSound spell_term (Whole levels) term → IsSound spell_term (Signed levels) operand → IsSound spell_term (Whole (suc levels)) (term_in term operand)
unfolding term_in
term_in_sound term operand levels h k s =
    choose_sound (is_word_next word.If s) (choice_at term) (operation_at (unary_in term operand)) s
    (λ e. choice_sound term levels h s (word_stands word.If s e))
    (λ e. operation_sound (unary_in term operand) levels (unary_in_sound term operand levels h k) s)

record Sounds (levels : ℕ) : Type 0 where
  terms : IsSound spell_term (Whole levels) (term_at levels)
  signs : IsSound spell_term (Signed levels) (unary_at levels)

sounds : (levels : ℕ) → Sounds levels
unfolding term_at
sounds zero = record { terms = λ s. refused s _; signs = λ s. refused s _ }
sounds (suc levels) =
    let h = sounds levels in
    record {
      terms = term_in_sound (term_at levels) (unary_at levels) levels h.terms h.signs;
      signs = λ s. weaker s (unary_in (term_at levels) (unary_at levels) s) (unary_in_sound (term_at levels) (unary_at levels) levels h.terms h.signs s) (λ t p. p);
    }

-- what is read as a term with so many levels is spelled so, and may stand there
pub term_sound : (levels : ℕ) → IsSound spell_term (Whole levels) (term_at levels)
term_sound levels = (sounds levels).terms
