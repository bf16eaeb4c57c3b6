-- A term that fits is read again from its spelling.
use Rattle.std.proofs.Common.{◌≡◌, ℕ, zero, suc, pos, negsuc, ◌+◌, ◌<◌, ◌≤◌, Bool, true, false, ◌&&◌, List, [], ◌∷◌, ◌++◌, length, Result, Ok, Option, Some, None, refl, sym, ap, subst, ◌∙◌, arith, length-append}
use Rattle.std.proofs.lemmas.Bool.{and_parts}
use Rattle.std.specs.Prelude.{nat_le, nat_lt}
use Rattle.rx_value.specs.declared.value.Value.{Value}
use Rattle.rx_value.specs.declared.value.Value.TheVariants as v
use Rattle.rx_value.specs.declared.operator.UnOp.{UnOp}
use Rattle.rx_value.specs.declared.operator.UnOp.TheVariants as un
use Rattle.rx_value.specs.declared.function.Fun.TheVariants as fun
use Rattle.rx_value.specs.Functions.{is_count}
use Rattle.app_tokens.specs.declared.token.Token.{Token}
use Rattle.app_tokens.specs.declared.token.Kind.TheVariants as kind
use Rattle.app_tokens.specs.declared.word.Word.{Word}
use Rattle.app_tokens.specs.declared.word.Word.TheVariants as word
use Rattle.app_tokens.specs.declared.symbol.Symbol.{Symbol}
use Rattle.app_tokens.specs.declared.symbol.Symbol.TheVariants as symbol
use Rattle.app_tokens.specs.Tokens.{Tokens}
use Rattle.app_tokens.specs.Kind.{symbol_code, is_word, is_symbol}
use Rattle.app_tree.specs.declared.term.Function.{Function}
use Rattle.app_tree.specs.declared.term.Function.TheVariants as function
use Rattle.app_tree.specs.declared.draft_term.Name.{Name}
use Rattle.app_tree.specs.declared.draft_term.ReadForm.{ReadForm}
use Rattle.app_tree.specs.declared.draft_term.ReadForm.TheVariants as form
use Rattle.app_tree.specs.DraftTree.{DraftTree, constant, group, read, variable, isolate, stop, require, fold, unary, binary, choice, call, DraftTrees, no_trees, tree}
use Rattle.app_tree.specs.DraftView.{draft_trees}
use Rattle.app_tree.specs.Fits.{name_fits, hold_of, is_signed, operators, arguments_of, count, deeper, whole_in, term_fits, terms_fit}
use Rattle.app_reader.specs.declared.error.ReadError.{ReadError}
use Rattle.rx_value.specs.Results.{◌>>=◌, choose}
use Rattle.app_reader.specs.State.{Reads, choose_some, place_of, skip, is_name, is_text, is_word_next, is_symbol_next, is_name_next, is_text_next, word_of, symbol_of, next_word, unexpected, word_at, symbol_at, name_at, number_at, text_at, turns_of}
use Rattle.app_reader.specs.Words.{sign_of, function_of, read_form_of}
use Rattle.app_reader.specs.Terms.{named_at, input_at, read_at, truth_at, truth_value, word_term_at, literal_at, bracketed_at, group_at, isolate_at, stop_at, cancels_at, require_at, part_at, inner_name_at, last_part_at, fold_start_at, inner_names_at, fold_at, further_at, listed_at, counted_at, optional_at, arguments_at, call_at, special_at, worded_at, atom_at, sign_in, next_sign, unary_in, operation_at, ways_at, choice_at, term_in, term_at, unary_at}
use Rattle.app_reader.specs.Spelling.{Wanted, of_kind, at_place, named, called, Wording, next, IsSpelledBy, a_word, a_symbol, a_number, a_name, sign_symbol, function_word, spell_named, spell_read, spell_cancels, spell_term, spell_terms, spell_more, spell_bracketed}
use Rattle.app_reader.proofs.Ranks.{code}
use Rattle.app_reader.proofs.TermsSound.{Whole}
use Rattle.app_reader.proofs.Again.{same_refl, To, Again, then1, then2, then3, then4, by_first, by_other, by_found, by_none, kind_of, first_is, word_is, symbol_is, tail_is, fewer_is, place_is, behind, never, symbol_again, word_again, number_again, text_again, name_again, all_of, Stepped, loop_again}
use Rattle.app_reader.proofs.ChainsAgain.{Stops, no_open}
use Rattle.app_reader.proofs.OperatorsAgain.{Unary, Fit, code_some, eq_of, Facts, atom_facts, binary_facts}
use Rattle.app_reader.proofs.Beginnings.{not_close, function_not_if, function_back}

-- ---- atoms

-- an atom stands where no sign does
atom_of : (levels : ℕ) (s : Tokens) (t : DraftTree) (after : Wording) (w : Wanted) (mid : Wording) → sign_in (symbol_of (kind_of w)) ≡ None → IsSpelledBy (next w mid) s.tokens → To s (atom_at (term_at levels) s) t after → To s (Unary levels s) t after
unfolding unary_in
atom_of levels s t after w mid none is h =
    by_none (next_sign s) (λ op t. unary_at levels (skip t) >>= λ u. Ok (unary op u.0, u.1)) (atom_at (term_at levels)) s (ap sign_in (symbol_is w mid s.tokens is) ∙ none) h

-- an atom that a reserved word begins
worded : (levels : ℕ) (s : Tokens) (t : DraftTree) (after : Wording) (w : Wanted) (u : Word) (mid : Wording) → kind_of w ≡ kind.Word u → IsSpelledBy (next w mid) s.tokens → To s (worded_at (term_at levels) u s) t after → To s (Unary levels s) t after
unfolding atom_at
worded levels s t after w u mid eq is h =
    let term = term_at levels in
    atom_of levels s t after w mid (ap (λ k. sign_in (symbol_of k)) eq) is
    (by_other (is_symbol_next symbol.Open s) (group_at term) (choose (is_name_next s) named_at (choose_some (next_word s) (worded_at term) literal_at)) s s (first_is (is_symbol symbol.Open) w mid s.tokens is ∙ ap (is_symbol symbol.Open) eq)
    (by_other (is_name_next s) named_at (choose_some (next_word s) (worded_at term) literal_at) s s (first_is is_name w mid s.tokens is ∙ ap is_name eq)
    (by_found (next_word s) u (worded_at term) literal_at s (word_is w mid s.tokens is ∙ ap word_of eq) h)))

-- an atom that is a literal
literal : (levels : ℕ) (s : Tokens) (t : DraftTree) (after : Wording) (w : Wanted) (mid : Wording) → sign_in (symbol_of (kind_of w)) ≡ None → is_symbol symbol.Open (kind_of w) ≡ false → is_name (kind_of w) ≡ false → word_of (kind_of w) ≡ None
    → IsSpelledBy (next w mid) s.tokens → To s (literal_at s) t after → To s (Unary levels s) t after
unfolding atom_at
literal levels s t after w mid no_sign no_open no_name no_word is h =
    let term = term_at levels in
    atom_of levels s t after w mid no_sign is
    (by_other (is_symbol_next symbol.Open s) (group_at term) (choose (is_name_next s) named_at (choose_some (next_word s) (worded_at term) literal_at)) s s (first_is (is_symbol symbol.Open) w mid s.tokens is ∙ no_open)
    (by_other (is_name_next s) named_at (choose_some (next_word s) (worded_at term) literal_at) s s (first_is is_name w mid s.tokens is ∙ no_name)
    (by_none (next_word s) (worded_at term) literal_at s (word_is w mid s.tokens is ∙ no_word) h)))

-- an atom that is a name
by_name : (levels : ℕ) (s : Tokens) (t : DraftTree) (after : Wording) (w : Wanted) (mid : Wording) → kind_of w ≡ kind.Name → IsSpelledBy (next w mid) s.tokens → To s (named_at s) t after → To s (Unary levels s) t after
unfolding atom_at
by_name levels s t after w mid eq is h =
    let term = term_at levels in
    atom_of levels s t after w mid (ap (λ k. sign_in (symbol_of k)) eq) is
    (by_other (is_symbol_next symbol.Open s) (group_at term) (choose (is_name_next s) named_at (choose_some (next_word s) (worded_at term) literal_at)) s s (first_is (is_symbol symbol.Open) w mid s.tokens is ∙ ap (is_symbol symbol.Open) eq)
    (by_first (is_name_next s) named_at (choose_some (next_word s) (worded_at term) literal_at) s s (first_is is_name w mid s.tokens is ∙ ap is_name eq) h))

-- ---- names

variable_again : (n : Name) (after : Wording) (s : Tokens) → Stops 7 after → IsSpelledBy (a_name n after) s.tokens → To s (named_at s) (variable n) after
unfolding named_at
variable_again n after s stops is =
    let c = name_again n after s is in
    let go : Name × Tokens → Result (DraftTree × Tokens) ReadError = λ n. choose (is_symbol_next symbol.Open n.1) (λ t. symbol_at symbol.Close (skip t) >>= λ close. Ok (read form.Named n.0.place n.0, close.1)) (λ t. Ok (variable n.0, t)) n.1 in
    record {
      rest = c.rest;
      gives = ap (λ x. x >>= go) c.gives ∙ ap (λ b. choose b (λ t. symbol_at symbol.Close (skip t) >>= λ close. Ok (read form.Named n.place n, close.1)) (λ t. Ok (variable n, t)) c.rest) (no_open 7 after c.rest (omega arith) stops c.spells);
      spells = c.spells;
      shorter = c.shorter;
    }

called_is : (place : ℕ) (n : Name) (mid : Wording) (ts : List Token) → IsSpelledBy (next (called place n) mid) ts → (n.place ≡ place) × IsSpelledBy (a_name n mid) ts
called_is place n mid [] h = absurd h
called_is place n mid (t ∷ ts) h = (sym h.0.0.is_there ∙ h.0.1, (h.0.0, h.1))

named_again : (place : ℕ) (n : Name) (after : Wording) (s : Tokens) → IsSpelledBy (spell_read form.Named place n after) s.tokens → To s (named_at s) (read form.Named place n) after
unfolding named_at
named_again place n after s is =
    let brackets : Wording = a_symbol symbol.Open (a_symbol symbol.Close after) in
    let w = called_is place n brackets s.tokens is in
    let c = name_again n brackets s w.1 in
    let close = symbol_again symbol.Close after (skip c.rest) (tail_is (of_kind (kind.Symbol symbol.Open)) (a_symbol symbol.Close after) c.rest.tokens c.spells) in
    let go : Name × Tokens → Result (DraftTree × Tokens) ReadError = λ n. choose (is_symbol_next symbol.Open n.1) (λ t. symbol_at symbol.Close (skip t) >>= λ close. Ok (read form.Named n.0.place n.0, close.1)) (λ t. Ok (variable n.0, t)) n.1 in
    let fewer : length close.rest.tokens ≤ length s.tokens = omega (arith, close.shorter, c.shorter, fewer_is (of_kind (kind.Symbol symbol.Open)) (a_symbol symbol.Close after) c.rest.tokens c.spells) in
    record {
      rest = close.rest;
      gives = ap (λ x. x >>= go) c.gives
          ∙ ap (λ b. choose b (λ t. symbol_at symbol.Close (skip t) >>= λ close. Ok (read form.Named n.place n, close.1)) (λ t. Ok (variable n, t)) c.rest) (first_is (is_symbol symbol.Open) (of_kind (kind.Symbol symbol.Open)) (a_symbol symbol.Close after) c.rest.tokens c.spells)
          ∙ ap (λ x. x >>= λ close. Ok (read form.Named n.place n, close.1)) close.gives ∙ ap (λ p. Ok (read form.Named p n, close.rest)) w.0;
      spells = close.spells;
      shorter = fewer;
    }

-- a word and a name in brackets
read_again : (w : Word) (f : ReadForm) (place : ℕ) (n : Name) (after : Wording) (s : Tokens) → IsSpelledBy (spell_named w place n after) s.tokens → To s (read_at f s) (read f place n) after
unfolding read_at
read_again w f place n after s is =
    let m1 : Wording = a_name n (a_symbol symbol.Close after) in
    let m0 : Wording = a_symbol symbol.Open m1 in
    let tail = tail_is (at_place (kind.Word w) place) m0 s.tokens is in
    behind s (symbol_at symbol.Open (skip s) >>= λ opening. name_at opening.1 >>= λ n. symbol_at symbol.Close n.1 >>= λ close. Ok (read f (place_of s) n.0, close.1)) (at_place (kind.Word w) place) m0 is
    (subst (λ p. To (skip s) (symbol_at symbol.Open (skip s) >>= λ opening. name_at opening.1 >>= λ n. symbol_at symbol.Close n.1 >>= λ close. Ok (read f (place_of s) n.0, close.1)) (read f p n) after) (place_is (kind.Word w) place m0 s is)
    (then3 (skip s) (symbol_at symbol.Open (skip s)) name_at (symbol_at symbol.Close) (λ u n c. read f (place_of s) n) (symbol_again symbol.Open m1 (skip s) tail) (name_again n (a_symbol symbol.Close after)) (symbol_again symbol.Close after)))

input_again : (place : ℕ) (n : Name) (after : Wording) (s : Tokens) → IsSpelledBy (spell_read form.Input place n after) s.tokens → To s (input_at s) (read form.Input place n) after
unfolding input_at
input_again place n after s is =
    let m0 : Wording = a_symbol symbol.Dollar (a_name n after) in
    let tail = tail_is (at_place (kind.Word word.Input) place) m0 s.tokens is in
    behind s (symbol_at symbol.Dollar (skip s) >>= λ dollar. name_at dollar.1 >>= λ n. Ok (read form.Input (place_of s) n.0, n.1)) (at_place (kind.Word word.Input) place) m0 is
    (subst (λ p. To (skip s) (symbol_at symbol.Dollar (skip s) >>= λ dollar. name_at dollar.1 >>= λ n. Ok (read form.Input (place_of s) n.0, n.1)) (read form.Input p n) after) (place_is (kind.Word word.Input) place m0 s is)
    (then2 (skip s) (symbol_at symbol.Dollar (skip s)) name_at (λ u n. read form.Input (place_of s) n) (symbol_again symbol.Dollar (a_name n after) (skip s) tail) (name_again n after)))

-- ---- brackets

-- a term that can be read wherever nothing that continues it follows
abbrev pub Readable : Reads DraftTree → DraftTree → Type 0
Readable term t = (s : Tokens) (after : Wording) → Stops 1 after → IsSpelledBy (spell_term t after) s.tokens → To s (term s) t after

pub bracketed_again : (term : Reads DraftTree) (t : DraftTree) (after : Wording) → Readable term t → Again (bracketed_at term) (spell_bracketed t after) t after
unfolding bracketed_at
bracketed_again term t after h s is =
    then3 s (symbol_at symbol.Open s) term (symbol_at symbol.Close) (λ u t c. t) (symbol_again symbol.Open (spell_term t (a_symbol symbol.Close after)) s is) (λ s is. h s (a_symbol symbol.Close after) refl is) (symbol_again symbol.Close after)

group_again : (term : Reads DraftTree) (t : DraftTree) (after : Wording) → Readable term t → Again (group_at term) (spell_term (group t) after) (group t) after
unfolding group_at
group_again term t after h s is = then1 s (bracketed_at term s) group (bracketed_again term t after h s is)

isolate_again : (term : Reads DraftTree) (place : ℕ) (t : DraftTree) (after : Wording) → Readable term t → Again (isolate_at term) (spell_term (isolate place t) after) (isolate place t) after
unfolding isolate_at
isolate_again term place t after h s is =
    let w : Wanted = at_place (kind.Word word.Isolate) place in
    let m0 : Wording = spell_bracketed t after in
    subst (λ p. To s (bracketed_at term (skip s) >>= λ t. Ok (isolate (place_of s) t.0, t.1)) (isolate p t) after) (place_is (kind.Word word.Isolate) place m0 s is)
    (behind s (bracketed_at term (skip s) >>= λ t. Ok (isolate (place_of s) t.0, t.1)) w m0 is
    (then1 (skip s) (bracketed_at term (skip s)) (λ t. isolate (place_of s) t) (bracketed_again term t after h (skip s) (tail_is w m0 s.tokens is))))

stop_again : (term : Reads DraftTree) (t : DraftTree) (after : Wording) → Readable term t → Again (stop_at term) (spell_term (stop t) after) (stop t) after
unfolding stop_at
stop_again term t after h s is =
    let w : Wanted = of_kind (kind.Word word.Stop) in
    let m0 : Wording = spell_bracketed t after in
    behind s (bracketed_at term (skip s) >>= λ t. Ok (stop t.0, t.1)) w m0 is
    (then1 (skip s) (bracketed_at term (skip s)) stop (bracketed_again term t after h (skip s) (tail_is w m0 s.tokens is)))

cancels_again : (cancels : Bool) (after : Wording) → Again cancels_at (spell_cancels cancels (a_symbol symbol.Close after)) cancels (a_symbol symbol.Close after)
unfolding cancels_at
cancels_again true after s is =
    let w : Wanted = of_kind (kind.Symbol symbol.Comma) in
    let m0 : Wording = a_word word.CancelOutput (a_symbol symbol.Close after) in
    by_first (is_symbol_next symbol.Comma s) (λ t. word_at word.CancelOutput (skip t) >>= λ w. Ok (true, w.1)) (λ t. Ok (false, t)) s s (first_is (is_symbol symbol.Comma) w m0 s.tokens is)
    (behind s (word_at word.CancelOutput (skip s) >>= λ w. Ok (true, w.1)) w m0 is
    (then1 (skip s) (word_at word.CancelOutput (skip s)) (λ u. true) (word_again word.CancelOutput (a_symbol symbol.Close after) (skip s) (tail_is w m0 s.tokens is))))
cancels_again false after s is =
    by_other (is_symbol_next symbol.Comma s) (λ t. word_at word.CancelOutput (skip t) >>= λ w. Ok (true, w.1)) (λ t. Ok (false, t)) s s (first_is (is_symbol symbol.Comma) (of_kind (kind.Symbol symbol.Close)) after s.tokens is)
    (record { rest = s; gives = refl; spells = is; shorter = omega arith })

stops_cancels : (cancels : Bool) (after : Wording) → Stops 1 (spell_cancels cancels (a_symbol symbol.Close after))
stops_cancels true after = refl
stops_cancels false after = refl

require_again : (term : Reads DraftTree) (t : DraftTree) (cancels : Bool) (after : Wording) → Readable term t → Again (require_at term) (spell_term (require t cancels) after) (require t cancels) after
unfolding require_at
require_again term t cancels after h s is =
    let w : Wanted = of_kind (kind.Word word.Req) in
    let m2 : Wording = spell_cancels cancels (a_symbol symbol.Close after) in
    let m1 : Wording = spell_term t m2 in
    let m0 : Wording = a_symbol symbol.Open m1 in
    behind s (symbol_at symbol.Open (skip s) >>= λ opening. term opening.1 >>= λ inner. cancels_at inner.1 >>= λ cancels. symbol_at symbol.Close cancels.1 >>= λ close. Ok (require inner.0 cancels.0, close.1)) w m0 is
    (then4 (skip s) (symbol_at symbol.Open (skip s)) term cancels_at (symbol_at symbol.Close) (λ u t cancels c. require t cancels)
    (symbol_again symbol.Open m1 (skip s) (tail_is w m0 s.tokens is)) (λ s is. h s m2 (stops_cancels cancels after) is) (cancels_again cancels after) (symbol_again symbol.Close after))

part_again : (term : Reads DraftTree) (t : DraftTree) (after : Wording) → Readable term t → Again (part_at term) (spell_term t (a_symbol symbol.Comma after)) t after
unfolding part_at
part_again term t after h s is = then2 s (term s) (symbol_at symbol.Comma) (λ t u. t) (h s (a_symbol symbol.Comma after) refl is) (symbol_again symbol.Comma after)

last_part_again : (term : Reads DraftTree) (t : DraftTree) (after : Wording) → Readable term t → Again (last_part_at term) (spell_term t (a_symbol symbol.Close after)) t after
unfolding last_part_at
last_part_again term t after h s is = then2 s (term s) (symbol_at symbol.Close) (λ t u. t) (h s (a_symbol symbol.Close after) refl is) (symbol_again symbol.Close after)

inner_name_again : (n : Name) (after : Wording) → Again inner_name_at (a_name n (a_symbol symbol.Comma after)) n after
unfolding inner_name_at
inner_name_again n after s is = then2 s (name_at s) (symbol_at symbol.Comma) (λ n u. n) (name_again n (a_symbol symbol.Comma after) s is) (symbol_again symbol.Comma after)

inner_names_again : (m n : Name) (after : Wording) → Again inner_names_at (a_name m (a_symbol symbol.Comma (a_name n (a_symbol symbol.Comma after)))) (m, n) after
unfolding inner_names_at
inner_names_again m n after s is = then2 s (inner_name_at s) inner_name_at (λ a b. (a, b)) (inner_name_again m (a_name n (a_symbol symbol.Comma after)) s is) (inner_name_again n after)

fold_start_again : (term : Reads DraftTree) (a b : DraftTree) (after : Wording) → Readable term a → Readable term b
    → Again (fold_start_at term) (a_symbol symbol.Open (spell_term a (a_symbol symbol.Comma (spell_term b (a_symbol symbol.Comma after))))) (a, b) after
unfolding fold_start_at
fold_start_again term a b after ha hb s is =
    let m2 : Wording = spell_term b (a_symbol symbol.Comma after) in
    let m1 : Wording = spell_term a (a_symbol symbol.Comma m2) in
    then3 s (symbol_at symbol.Open s) (part_at term) (part_at term) (λ u a b. (a, b)) (symbol_again symbol.Open m1 s is) (part_again term a m2 ha) (part_again term b after hb)

fold_again : (term : Reads DraftTree) (place : ℕ) (a b c : DraftTree) (m n : Name) (after : Wording) → Readable term a → Readable term b → Readable term c
    → Again (fold_at term) (spell_term (fold place a b m n c) after) (fold place a b m n c) after
unfolding fold_at
fold_again term place a b c m n after ha hb hc s is =
    let w : Wanted = at_place (kind.Word word.Fold) place in
    let m2 : Wording = spell_term c (a_symbol symbol.Close after) in
    let m1 : Wording = a_name m (a_symbol symbol.Comma (a_name n (a_symbol symbol.Comma m2))) in
    let m0 : Wording = a_symbol symbol.Open (spell_term a (a_symbol symbol.Comma (spell_term b (a_symbol symbol.Comma m1)))) in
    subst (λ p. To s (fold_start_at term (skip s) >>= λ start. inner_names_at start.1 >>= λ names. last_part_at term names.1 >>= λ body. Ok (fold (place_of s) start.0.0 start.0.1 names.0.0 names.0.1 body.0, body.1)) (fold p a b m n c) after) (place_is (kind.Word word.Fold) place m0 s is)
    (behind s (fold_start_at term (skip s) >>= λ start. inner_names_at start.1 >>= λ names. last_part_at term names.1 >>= λ body. Ok (fold (place_of s) start.0.0 start.0.1 names.0.0 names.0.1 body.0, body.1)) w m0 is
    (then3 (skip s) (fold_start_at term (skip s)) inner_names_at (last_part_at term) (λ start names body. fold (place_of s) start.0 start.1 names.0 names.1 body)
    (fold_start_again term a b m1 ha hb (skip s) (tail_is w m0 s.tokens is)) (inner_names_again m n m2) (last_part_again term c after hc)))

-- ---- lists of terms

abbrev pub list_of : DraftTrees → List DraftTree
list_of no_trees = []
list_of (tree t ts) = t ∷ list_of ts

pub trees_back : (ts : DraftTrees) → draft_trees (list_of ts) ≡ ts
trees_back no_trees = refl
trees_back (tree t ts) = ap (tree t) (trees_back ts)

count_back : (ts : DraftTrees) → length (list_of ts) ≡ count ts
count_back no_trees = refl
count_back (tree t ts) = ap suc (count_back ts)

-- "," term
abbrev one_more : DraftTree → Wording → Wording
one_more t rest = a_symbol symbol.Comma (spell_term t rest)

more_of : (ts : DraftTrees) (rest : Wording) → spell_more ts rest ≡ all_of one_more (list_of ts) rest
more_of no_trees rest = refl
more_of (tree t ts) rest = ap (one_more t) (more_of ts rest)

abbrev pub AllRead : Reads DraftTree → List DraftTree → Type 0
AllRead term [] = Unit {0}
AllRead term (t ∷ ts) = Readable term t × AllRead term ts

more_stops : (es : List DraftTree) (after : Wording) → Stops 1 (all_of one_more es (a_symbol symbol.Close after))
more_stops [] after = refl
more_stops (t ∷ ts) after = refl

-- a symbol that stands next is taken
symbol_gives : (x : Symbol) (mid : Wording) (s : Tokens) → IsSpelledBy (a_symbol x mid) s.tokens → symbol_at x s ≡ Ok (tt, skip s)
unfolding symbol_at
symbol_gives x mid s is = ap (λ b. choose b (λ t. Ok (tt, skip t)) unexpected s) (first_is (is_symbol x) (of_kind (kind.Symbol x)) mid s.tokens is ∙ same_refl (symbol_code x))

further_again : (term : Reads DraftTree) (test : List DraftTree × Tokens → Bool) (done : List DraftTree) (t : DraftTree) (ts : List DraftTree) (s : Tokens) (after : Wording)
    → Readable term t → test (done, s) ≡ true → IsSpelledBy (one_more t (all_of one_more ts (a_symbol symbol.Close after))) s.tokens
    → Stepped test (further_at term) done t s (all_of one_more ts (a_symbol symbol.Close after))
unfolding further_at
further_again term test done t ts s after h holds is =
    let mid : Wording = all_of one_more ts (a_symbol symbol.Close after) in
    let w : Wanted = of_kind (kind.Symbol symbol.Comma) in
    let c = h (skip s) mid (more_stops ts after) (tail_is w (spell_term t mid) s.tokens is) in
    let fewer : length c.rest.tokens < length s.tokens = omega (arith, c.shorter, fewer_is w (spell_term t mid) s.tokens is) in
    record {
      rest = c.rest;
      tests = holds;
      gives = ap (λ x. x >>= λ comma. term comma.1 >>= λ t. Ok (done ++ t.0 ∷ [], t.1)) (symbol_gives symbol.Comma (spell_term t mid) s is)
          ∙ ap (λ x. x >>= λ t. Ok (done ++ t.0 ∷ [], t.1)) c.gives;
      spells = c.spells;
      shorter = fewer;
    }

pub listed_again : (term : Reads DraftTree) (t : DraftTree) (ts : DraftTrees) (after : Wording) → Readable term t → AllRead term (list_of ts)
    → Again (listed_at term) (spell_terms (tree t ts) (a_symbol symbol.Close after)) (t ∷ list_of ts) (a_symbol symbol.Close after)
unfolding listed_at
listed_again term t ts after h all s is =
    let mid : Wording = all_of one_more (list_of ts) (a_symbol symbol.Close after) in
    let c = h s mid (more_stops (list_of ts) after) (subst (λ w. IsSpelledBy (spell_term t w) s.tokens) (more_of ts (a_symbol symbol.Close after)) is) in
    let test : List DraftTree × Tokens → Bool = λ b. is_symbol_next symbol.Comma b.1 in
    let d = loop_again (λ done es. AllRead term es) one_more (a_symbol symbol.Close after) test (further_at term)
    (λ done e es s left is. (further_again term (λ b. is_symbol_next symbol.Comma b.1) done e es s after left.0 (first_is (is_symbol symbol.Comma) (of_kind (kind.Symbol symbol.Comma)) (spell_term e (all_of one_more es (a_symbol symbol.Close after))) s.tokens is) is, left.1))
    (λ done s left is. first_is (is_symbol symbol.Comma) (of_kind (kind.Symbol symbol.Close)) after s.tokens is)
    (suc (length c.rest.tokens)) (t ∷ []) (list_of ts) c.rest (omega arith) all c.spells in
    let fewer : length d.rest.tokens ≤ length s.tokens = omega (arith, c.shorter, d.shorter) in
    record {
      rest = d.rest;
      gives = ap (λ x. x >>= λ first. turns_of (suc (length first.1.tokens)) (λ b. is_symbol_next symbol.Comma b.1) (further_at term) (first.0 ∷ [], first.1)) c.gives ∙ d.gives;
      spells = d.spells;
      shorter = fewer;
    }

lt_true : (m n : ℕ) → m < n → nat_lt m n ≡ true
lt_true m n h = grind arith

lt_false : (m n : ℕ) → n ≤ m → nat_lt m n ≡ false
lt_false m n h = grind arith

-- so many terms
record SoManyLeft (term : Reads DraftTree) (k : ℕ) (done es : List DraftTree) : Type 0 where
  all : AllRead term es
  many : length done + length es ≡ k

counted_again : (term : Reads DraftTree) (k : ℕ) (t : DraftTree) (ts : DraftTrees) (after : Wording) → Readable term t → AllRead term (list_of ts) → suc (length (list_of ts)) ≡ k
    → Again (counted_at term k) (spell_terms (tree t ts) (a_symbol symbol.Close after)) (t ∷ list_of ts) (a_symbol symbol.Close after)
unfolding counted_at
counted_again term k t ts after h all many s is =
    let mid : Wording = all_of one_more (list_of ts) (a_symbol symbol.Close after) in
    let c = h s mid (more_stops (list_of ts) after) (subst (λ w. IsSpelledBy (spell_term t w) s.tokens) (more_of ts (a_symbol symbol.Close after)) is) in
    let test : List DraftTree × Tokens → Bool = λ b. nat_lt (length b.0) k in
    let start : SoManyLeft term k (t ∷ []) (list_of ts) = record { all = all; many = omega (arith, many) } in
    let d = loop_again (SoManyLeft term k) one_more (a_symbol symbol.Close after) test (further_at term)
    (λ done e es s left is.
    let less : length done < k = omega (arith, left.many) in
    let rest_many : length (done ++ e ∷ []) + length es ≡ k = omega (arith, left.many, length-append done (e ∷ [])) in
    (further_again term (λ b. nat_lt (length b.0) k) done e es s after left.all.0 (lt_true (length done) k less) is, record { all = left.all.1; many = rest_many }))
    (λ done s left is. lt_false (length done) k (omega (arith, left.many)))
    (suc (length c.rest.tokens)) (t ∷ []) (list_of ts) c.rest (omega arith) start c.spells in
    let fewer : length d.rest.tokens ≤ length s.tokens = omega (arith, c.shorter, d.shorter) in
    record {
      rest = d.rest;
      gives = ap (λ x. x >>= λ first. turns_of (suc (length first.1.tokens)) (λ b. nat_lt (length b.0) k) (further_at term) (first.0 ∷ [], first.1)) c.gives ∙ d.gives;
      spells = d.spells;
      shorter = fewer;
    }

pub optional_again : (term : Reads DraftTree) (ts : DraftTrees) (after : Wording) → AllRead term (list_of ts) → Again (optional_at term) (spell_terms ts (a_symbol symbol.Close after)) (list_of ts) (a_symbol symbol.Close after)
unfolding optional_at
optional_again term no_trees after all s is =
    by_first (is_symbol_next symbol.Close s) (λ t. Ok ([], t)) (listed_at term) s s (first_is (is_symbol symbol.Close) (of_kind (kind.Symbol symbol.Close)) after s.tokens is)
    (record { rest = s; gives = refl; spells = is; shorter = omega arith })
optional_again term (tree t ts) after all s is =
    by_other (is_symbol_next symbol.Close s) (λ t. Ok ([], t)) (listed_at term) s s
    (never (is_symbol symbol.Close) (spell_terms (tree t ts) (a_symbol symbol.Close after)) s.tokens (not_close t (spell_more ts (a_symbol symbol.Close after))) is)
    (listed_again term t ts after all.0 all.1 s is)

zero_no : (f : Function) → is_count (arguments_of f) 0 ≡ true → arguments_of f ≡ None
zero_no (function.Fun fun.C) e = refl
zero_no (function.Fun fun.Paste0) e = refl
zero_no (function.Fun fun.Item) e = absurd cc
zero_no (function.Fun fun.Seq) e = absurd cc
zero_no (function.Fun _) e = absurd cc
zero_no (function.Plot p) e = absurd cc

arguments_again : (term : Reads DraftTree) (o : Option ℕ) (ts : DraftTrees) (after : Wording) → AllRead term (list_of ts) → is_count o (count ts) ≡ true → (is_count o 0 ≡ true → o ≡ None)
    → Again (arguments_at term o) (spell_terms ts (a_symbol symbol.Close after)) (list_of ts) (a_symbol symbol.Close after)
arguments_again term None ts after all many some s is = optional_again term ts after all s is
arguments_again term (Some k) no_trees after all many some s is = absurd (none_some k (some many))
  where
    none_some : (k : ℕ) → Some k ≡ None → ⊥
    none_some k e = absurd cc
arguments_again term (Some k) (tree t ts) after all many some s is =
    counted_again term k t ts after all.0 all.1 (ap suc (count_back ts) ∙ eq_of (suc (count ts)) k many) s is

call_again : (term : Reads DraftTree) (f : Function) (ts : DraftTrees) (after : Wording) → AllRead term (list_of ts) → is_count (arguments_of f) (count ts) ≡ true
    → Again (call_at term f) (spell_term (call f ts) after) (call f ts) after
unfolding call_at
call_again term f ts after all many s is =
    let w : Wanted = of_kind (kind.Word (function_word f)) in
    let m1 : Wording = spell_terms ts (a_symbol symbol.Close after) in
    let m0 : Wording = a_symbol symbol.Open m1 in
    subst (λ us. To s (symbol_at symbol.Open (skip s) >>= λ opening. arguments_at term (arguments_of f) opening.1 >>= λ all. symbol_at symbol.Close all.1 >>= λ close. Ok (call f (draft_trees all.0), close.1)) (call f us) after) (trees_back ts)
    (behind s (symbol_at symbol.Open (skip s) >>= λ opening. arguments_at term (arguments_of f) opening.1 >>= λ all. symbol_at symbol.Close all.1 >>= λ close. Ok (call f (draft_trees all.0), close.1)) w m0 is
    (then3 (skip s) (symbol_at symbol.Open (skip s)) (arguments_at term (arguments_of f)) (symbol_at symbol.Close) (λ u ts c. call f (draft_trees ts))
    (symbol_again symbol.Open m1 (skip s) (tail_is w m0 s.tokens is))
    (arguments_again term (arguments_of f) ts after all many (zero_no f))
    (symbol_again symbol.Close after)))

-- ---- the facts of each term

-- which word a special form has
special_by : (term : Reads DraftTree) (s : Tokens) (t : DraftTree) (after : Wording) (p : Reads DraftTree) (i l o r f : Bool)
    → is_word_next word.Input s ≡ i → is_word_next word.Isolate s ≡ l → is_word_next word.Stop s ≡ o → is_word_next word.Req s ≡ r → is_word_next word.Fold s ≡ f
    → choose i input_at (choose l (isolate_at term) (choose o (stop_at term) (choose r (require_at term) (choose f (fold_at term) word_term_at)))) s ≡ p s → To s (p s) t after → To s (special_at term s) t after
unfolding special_at
special_by term s t after p i l o r f ii il io ir if_ is h = record { rest = h.rest; gives = rw (ii, il, io, ir, if_) (is ∙ h.gives); spells = h.spells; shorter = h.shorter }

special : (term : Reads DraftTree) (s : Tokens) (t : DraftTree) (after : Wording) (w : Wanted) (u : Word) (mid : Wording) (p : Reads DraftTree) → kind_of w ≡ kind.Word u → IsSpelledBy (next w mid) s.tokens
    → choose (is_word word.Input (kind.Word u)) input_at (choose (is_word word.Isolate (kind.Word u)) (isolate_at term) (choose (is_word word.Stop (kind.Word u)) (stop_at term) (choose (is_word word.Req (kind.Word u)) (require_at term) (choose (is_word word.Fold (kind.Word u)) (fold_at term) word_term_at)))) s ≡ p s
    → To s (p s) t after → To s (special_at term s) t after
special term s t after w u mid p eq is chosen h =
    special_by term s t after p (is_word word.Input (kind.Word u)) (is_word word.Isolate (kind.Word u)) (is_word word.Stop (kind.Word u)) (is_word word.Req (kind.Word u)) (is_word word.Fold (kind.Word u))
    (first_is (is_word word.Input) w mid s.tokens is ∙ ap (is_word word.Input) eq) (first_is (is_word word.Isolate) w mid s.tokens is ∙ ap (is_word word.Isolate) eq) (first_is (is_word word.Stop) w mid s.tokens is ∙ ap (is_word word.Stop) eq)
    (first_is (is_word word.Req) w mid s.tokens is ∙ ap (is_word word.Req) eq) (first_is (is_word word.Fold) w mid s.tokens is ∙ ap (is_word word.Fold) eq) chosen h

null_again : (after : Wording) (s : Tokens) → IsSpelledBy (a_word word.Null after) s.tokens → To s (word_term_at s) (constant v.Null) after
unfolding word_term_at truth_at
null_again after s is =
    let w : Wanted = of_kind (kind.Word word.Null) in
    then1 s (truth_at s) (λ o. constant (truth_value o))
    (by_other (is_word_next word.True s) (λ t. word_at word.True t >>= λ w. Ok (Some true, w.1)) (choose (is_word_next word.False s) (λ t. word_at word.False t >>= λ w. Ok (Some false, w.1)) (λ t. word_at word.Null t >>= λ null. Ok (None, null.1))) s s (first_is (is_word word.True) w after s.tokens is)
    (by_other (is_word_next word.False s) (λ t. word_at word.False t >>= λ w. Ok (Some false, w.1)) (λ t. word_at word.Null t >>= λ null. Ok (None, null.1)) s s (first_is (is_word word.False) w after s.tokens is)
    (then1 s (word_at word.Null s) (λ u. None) (word_again word.Null after s is))))

false_again : (after : Wording) (s : Tokens) → IsSpelledBy (a_word word.False after) s.tokens → To s (word_term_at s) (constant (v.Bool false)) after
unfolding word_term_at truth_at
false_again after s is =
    let w : Wanted = of_kind (kind.Word word.False) in
    then1 s (truth_at s) (λ o. constant (truth_value o))
    (by_other (is_word_next word.True s) (λ t. word_at word.True t >>= λ w. Ok (Some true, w.1)) (choose (is_word_next word.False s) (λ t. word_at word.False t >>= λ w. Ok (Some false, w.1)) (λ t. word_at word.Null t >>= λ null. Ok (None, null.1))) s s (first_is (is_word word.True) w after s.tokens is)
    (by_first (is_word_next word.False s) (λ t. word_at word.False t >>= λ w. Ok (Some false, w.1)) (λ t. word_at word.Null t >>= λ null. Ok (None, null.1)) s s (first_is (is_word word.False) w after s.tokens is)
    (then1 s (word_at word.False s) (λ u. Some false) (word_again word.False after s is))))

true_again : (after : Wording) (s : Tokens) → IsSpelledBy (a_word word.True after) s.tokens → To s (word_term_at s) (constant (v.Bool true)) after
unfolding word_term_at truth_at
true_again after s is =
    let w : Wanted = of_kind (kind.Word word.True) in
    then1 s (truth_at s) (λ o. constant (truth_value o))
    (by_first (is_word_next word.True s) (λ t. word_at word.True t >>= λ w. Ok (Some true, w.1)) (choose (is_word_next word.False s) (λ t. word_at word.False t >>= λ w. Ok (Some false, w.1)) (λ t. word_at word.Null t >>= λ null. Ok (None, null.1))) s s (first_is (is_word word.True) w after s.tokens is)
    (then1 s (word_at word.True s) (λ u. Some true) (word_again word.True after s is)))

text_literal : (bytes : List ℕ) (after : Wording) (s : Tokens) → IsSpelledBy (next (of_kind (kind.Text bytes)) after) s.tokens → To s (literal_at s) (constant (v.Text bytes)) after
unfolding literal_at
text_literal bytes after s is =
    by_first (is_text_next s) (λ t. text_at t >>= λ text. Ok (constant (v.Text text.0), text.1)) (λ t. number_at t >>= λ n. Ok (constant (v.Int (pos n.0)), n.1)) s s (first_is is_text (of_kind (kind.Text bytes)) after s.tokens is)
    (then1 s (text_at s) (λ b. constant (v.Text b)) (text_again bytes after s is))

number_literal : (n : ℕ) (after : Wording) (s : Tokens) → IsSpelledBy (a_number n after) s.tokens → To s (literal_at s) (constant (v.Int (pos n))) after
unfolding literal_at
number_literal n after s is =
    by_other (is_text_next s) (λ t. text_at t >>= λ text. Ok (constant (v.Text text.0), text.1)) (λ t. number_at t >>= λ n. Ok (constant (v.Int (pos n.0)), n.1)) s s (first_is is_text (of_kind (kind.Number n)) after s.tokens is)
    (then1 s (number_at s) (λ n. constant (v.Int (pos n))) (number_again n after s is))

constant_facts : (k : Value) → Facts (constant k)
unfolding worded_at
constant_facts v.Null = atom_facts (constant v.Null) refl (λ rest. refl) (λ levels s after f stops is.
    let w : Wanted = of_kind (kind.Word word.Null) in
    worded levels s (constant v.Null) after w word.Null after refl is (special (term_at levels) s (constant v.Null) after w word.Null after word_term_at refl is refl (null_again after s is)))
constant_facts (v.Bool true) = atom_facts (constant (v.Bool true)) refl (λ rest. refl) (λ levels s after f stops is.
    let w : Wanted = of_kind (kind.Word word.True) in
    worded levels s (constant (v.Bool true)) after w word.True after refl is (special (term_at levels) s (constant (v.Bool true)) after w word.True after word_term_at refl is refl (true_again after s is)))
constant_facts (v.Bool false) = atom_facts (constant (v.Bool false)) refl (λ rest. refl) (λ levels s after f stops is.
    let w : Wanted = of_kind (kind.Word word.False) in
    worded levels s (constant (v.Bool false)) after w word.False after refl is (special (term_at levels) s (constant (v.Bool false)) after w word.False after word_term_at refl is refl (false_again after s is)))
constant_facts (v.Int (pos n)) = atom_facts (constant (v.Int (pos n))) refl (λ rest. refl) (λ levels s after f stops is.
    literal levels s (constant (v.Int (pos n))) after (of_kind (kind.Number n)) after refl refl refl refl is (number_literal n after s is))
constant_facts (v.Int (negsuc n)) = atom_facts (constant (v.Int (negsuc n))) refl (λ rest. refl) (λ levels s after f stops is. absurd cc)
constant_facts (v.Text bytes) = atom_facts (constant (v.Text bytes)) refl (λ rest. refl) (λ levels s after f stops is.
    literal levels s (constant (v.Text bytes)) after (of_kind (kind.Text bytes)) after refl refl refl refl is (text_literal bytes after s is))
constant_facts (v.Ints zs) = atom_facts (constant (v.Ints zs)) refl (λ rest. refl) (λ levels s after f stops is. absurd cc)

read_facts : (f : ReadForm) (place : ℕ) (n : Name) → Facts (read f place n)
unfolding worded_at
read_facts form.Input place n = atom_facts (read form.Input place n) refl (λ rest. refl) (λ levels s after f stops is.
    let w : Wanted = at_place (kind.Word word.Input) place in
    let mid : Wording = a_symbol symbol.Dollar (a_name n after) in
    worded levels s (read form.Input place n) after w word.Input mid refl is (special (term_at levels) s (read form.Input place n) after w word.Input mid input_at refl is refl (input_again place n after s is)))
read_facts form.Named place n = atom_facts (read form.Named place n) refl (λ rest. refl) (λ levels s after f stops is.
    by_name levels s (read form.Named place n) after (called place n) (a_symbol symbol.Open (a_symbol symbol.Close after)) refl is (named_again place n after s is))
read_facts form.Status place n = atom_facts (read form.Status place n) refl (λ rest. refl) (λ levels s after f stops is.
    worded levels s (read form.Status place n) after (at_place (kind.Word word.Status) place) word.Status (a_symbol symbol.Open (a_name n (a_symbol symbol.Close after))) refl is (read_again word.Status form.Status place n after s is))
read_facts form.Result place n = atom_facts (read form.Result place n) refl (λ rest. refl) (λ levels s after f stops is.
    worded levels s (read form.Result place n) after (at_place (kind.Word word.Result) place) word.Result (a_symbol symbol.Open (a_name n (a_symbol symbol.Close after))) refl is (read_again word.Result form.Result place n after s is))
read_facts form.Width place n = atom_facts (read form.Width place n) refl (λ rest. refl) (λ levels s after f stops is.
    worded levels s (read form.Width place n) after (at_place (kind.Word word.Width) place) word.Width (a_symbol symbol.Open (a_name n (a_symbol symbol.Close after))) refl is (read_again word.Width form.Width place n after s is))
read_facts form.Height place n = atom_facts (read form.Height place n) refl (λ rest. refl) (λ levels s after f stops is.
    worded levels s (read form.Height place n) after (at_place (kind.Word word.Height) place) word.Height (a_symbol symbol.Open (a_name n (a_symbol symbol.Close after))) refl is (read_again word.Height form.Height place n after s is))

variable_facts : (n : Name) → Facts (variable n)
variable_facts n = atom_facts (variable n) refl (λ rest. refl) (λ levels s after f stops is.
    by_name levels s (variable n) after (named n) after refl is (variable_again n after s stops is))

-- a term of its own that fits is readable
readable : (levels : ℕ) (t : DraftTree) → Facts t → Whole levels t → Readable (term_at levels) t
readable levels t h fits s after stops is = h.as_whole levels s after fits stops is

group_facts : (t : DraftTree) → Facts t → Facts (group t)
unfolding atom_at
group_facts t h = atom_facts (group t) refl (λ rest. refl) (λ levels s after f stops is.
    let w : Wanted = of_kind (kind.Symbol symbol.Open) in
    let mid : Wording = spell_term t (a_symbol symbol.Close after) in
    atom_of levels s (group t) after w mid refl is
    (by_first (is_symbol_next symbol.Open s) (group_at (term_at levels)) (choose (is_name_next s) named_at (choose_some (next_word s) (worded_at (term_at levels)) literal_at)) s s (first_is (is_symbol symbol.Open) w mid s.tokens is)
    (group_again (term_at levels) t after (readable levels t h f) s is)))

isolate_facts : (place : ℕ) (t : DraftTree) → Facts t → Facts (isolate place t)
unfolding worded_at
isolate_facts place t h = atom_facts (isolate place t) refl (λ rest. refl) (λ levels s after f stops is.
    let w : Wanted = at_place (kind.Word word.Isolate) place in
    let mid : Wording = spell_bracketed t after in
    worded levels s (isolate place t) after w word.Isolate mid refl is (special (term_at levels) s (isolate place t) after w word.Isolate mid (isolate_at (term_at levels)) refl is refl (isolate_again (term_at levels) place t after (readable levels t h f) s is)))

stop_facts : (t : DraftTree) → Facts t → Facts (stop t)
unfolding worded_at
stop_facts t h = atom_facts (stop t) refl (λ rest. refl) (λ levels s after f stops is.
    let w : Wanted = of_kind (kind.Word word.Stop) in
    let mid : Wording = spell_bracketed t after in
    worded levels s (stop t) after w word.Stop mid refl is (special (term_at levels) s (stop t) after w word.Stop mid (stop_at (term_at levels)) refl is refl (stop_again (term_at levels) t after (readable levels t h f) s is)))

require_facts : (t : DraftTree) (cancels : Bool) → Facts t → Facts (require t cancels)
unfolding worded_at
require_facts t cancels h = atom_facts (require t cancels) refl (λ rest. refl) (λ levels s after f stops is.
    let w : Wanted = of_kind (kind.Word word.Req) in
    let mid : Wording = a_symbol symbol.Open (spell_term t (spell_cancels cancels (a_symbol symbol.Close after))) in
    worded levels s (require t cancels) after w word.Req mid refl is (special (term_at levels) s (require t cancels) after w word.Req mid (require_at (term_at levels)) refl is refl (require_again (term_at levels) t cancels after (readable levels t h f) s is)))

fold_facts : (place : ℕ) (a b c : DraftTree) (m n : Name) → Facts a → Facts b → Facts c → Facts (fold place a b m n c)
unfolding worded_at
fold_facts place a b c m n ha hb hc = atom_facts (fold place a b m n c) refl (λ rest. refl) (λ levels s after f stops is.
    let w : Wanted = at_place (kind.Word word.Fold) place in
    let fits_a : Bool = whole_in a levels (λ below. term_fits a below) in
    let fits_b : Bool = whole_in b levels (λ below. term_fits b below) in
    let fits_c : Bool = whole_in c levels (λ below. term_fits c below) in
    let names = (and_parts (fits_a && fits_b && name_fits m && name_fits n) fits_c f).0 in
    let parts = (and_parts (fits_a && fits_b) (name_fits m) ((and_parts (fits_a && fits_b && name_fits m) (name_fits n) names).0)).0 in
    let ra = readable levels a ha ((and_parts fits_a fits_b parts).0) in
    let rb = readable levels b hb ((and_parts fits_a fits_b parts).1) in
    let rc = readable levels c hc ((and_parts (fits_a && fits_b && name_fits m && name_fits n) fits_c f).1) in
    let mid : Wording = a_symbol symbol.Open (spell_term a (a_symbol symbol.Comma (spell_term b (a_symbol symbol.Comma (a_name m (a_symbol symbol.Comma (a_name n (a_symbol symbol.Comma (spell_term c (a_symbol symbol.Close after)))))))))) in
    worded levels s (fold place a b m n c) after w word.Fold mid refl is (special (term_at levels) s (fold place a b m n c) after w word.Fold mid (fold_at (term_at levels)) refl is refl (fold_again (term_at levels) place a b c m n after ra rb rc s is)))

abbrev AllFacts : DraftTrees → Type 0
AllFacts no_trees = Unit {0}
AllFacts (tree t ts) = Facts t × AllFacts ts

all_read : (ts : DraftTrees) (levels : ℕ) → AllFacts ts → terms_fit ts levels ≡ true → AllRead (term_at levels) (list_of ts)
all_read no_trees levels h f = tt
all_read (tree t ts) levels h f =
    (readable levels t h.0 ((and_parts (whole_in t levels (λ below. term_fits t below)) (terms_fit ts levels) f).0), all_read ts levels h.1 ((and_parts (whole_in t levels (λ below. term_fits t below)) (terms_fit ts levels) f).1))

call_facts : (f : Function) (ts : DraftTrees) → AllFacts ts → Facts (call f ts)
unfolding worded_at
call_facts f ts h = atom_facts (call f ts) refl (λ rest. function_not_if f) (λ levels s after fits stops is.
    let w : Wanted = of_kind (kind.Word (function_word f)) in
    let mid : Wording = a_symbol symbol.Open (spell_terms ts (a_symbol symbol.Close after)) in
    let many = (and_parts (is_count (arguments_of f) (count ts)) (terms_fit ts levels) fits).0 in
    let all = (and_parts (is_count (arguments_of f) (count ts)) (terms_fit ts levels) fits).1 in
    worded levels s (call f ts) after w (function_word f) mid refl is
    (by_found (function_of (function_word f)) f (call_at (term_at levels)) (choose_some (read_form_of (function_word f)) read_at (special_at (term_at levels))) s (function_back f)
    (call_again (term_at levels) f ts after (all_read ts levels h all) many s is)))

sign_back : (op : UnOp) → sign_of (sign_symbol op) ≡ Some op
sign_back un.Negate = refl
sign_back un.Not = refl

sign_not_if : (op : UnOp) → is_word word.If (kind.Symbol (sign_symbol op)) ≡ false
sign_not_if op = refl

unary_facts : (op : UnOp) (t : DraftTree) → Facts t → Facts (unary op t)
unfolding unary_in unary_at
unary_facts op t h = atom_facts (unary op t) refl (λ rest. sign_not_if op) reads
  where
    deep : (levels : ℕ) (s : Tokens) (after : Wording) → hold_of t ≡ 6 → deeper levels (λ below. term_fits t below) ≡ true → Stops 7 after → IsSpelledBy (spell_term t after) s.tokens → To s (unary_at levels s) t after
    deep zero s after six f stops is = absurd cc
    deep (suc m) s after six f stops is = h.as_unary m s after six f stops is

    reads : (levels : ℕ) (s : Tokens) (after : Wording) → Fit levels (unary op t) → Stops 7 after → IsSpelledBy (spell_term (unary op t) after) s.tokens → To s (Unary levels s) (unary op t) after
    reads levels s after f stops is =
        let w : Wanted = of_kind (kind.Symbol (sign_symbol op)) in
        let mid : Wording = spell_term t after in
        let six : hold_of t ≡ 6 = eq_of (hold_of t) 6 ((and_parts (is_signed t) (deeper levels (λ below. term_fits t below)) f).0) in
        let deep_fits = (and_parts (is_signed t) (deeper levels (λ below. term_fits t below)) f).1 in
        by_found (next_sign s) op (λ op t. unary_at levels (skip t) >>= λ u. Ok (unary op u.0, u.1)) (atom_at (term_at levels)) s (ap sign_in (symbol_is w mid s.tokens is) ∙ sign_back op)
        (behind s (unary_at levels (skip s) >>= λ u. Ok (unary op u.0, u.1)) w mid is
        (then1 (skip s) (unary_at levels (skip s)) (λ t. unary op t) (deep levels (skip s) after six deep_fits stops (tail_is w mid s.tokens is))))

ways_again : (term : Reads DraftTree) (a b : DraftTree) (after : Wording) → Stops 1 after → Readable term a → Readable term b → Again (ways_at term) (spell_term a (a_word word.Else (spell_term b after))) (a, b) after
unfolding ways_at
ways_again term a b after stops ha hb s is =
    then3 s (term s) (word_at word.Else) term (λ a u b. (a, b)) (ha s (a_word word.Else (spell_term b after)) refl is) (word_again word.Else (spell_term b after)) (λ s is. hb s after stops is)

choice_again : (term : Reads DraftTree) (a b c : DraftTree) (after : Wording) → Stops 1 after → Readable term a → Readable term b → Readable term c → Again (choice_at term) (spell_term (choice a b c) after) (choice a b c) after
unfolding choice_at
choice_again term a b c after stops ha hb hc s is =
    let w : Wanted = of_kind (kind.Word word.If) in
    let m1 : Wording = spell_term b (a_word word.Else (spell_term c after)) in
    let mid : Wording = spell_bracketed a m1 in
    behind s (bracketed_at term (skip s) >>= λ condition. ways_at term condition.1 >>= λ ways. Ok (choice condition.0 ways.0.0 ways.0.1, ways.1)) w mid is
    (then2 (skip s) (bracketed_at term (skip s)) (ways_at term) (λ a w. choice a w.0 w.1) (bracketed_again term a m1 ha (skip s) (tail_is w mid s.tokens is)) (ways_again term b c after stops hb hc))

none_at_all : (k : ℕ) → 1 ≤ k → k ≤ 0 → ⊥
none_at_all k h g = omega arith

choice_facts : (a b c : DraftTree) → Facts a → Facts b → Facts c → Facts (choice a b c)
unfolding term_at term_in
choice_facts a b c ha hb hc = record {
  as_unary = λ levels s after holds fits stops is. absurd cc;
  as_operand = λ levels k room left s after fits some holds e stops is. absurd (none_at_all k some holds);
  as_left = λ levels r room left s after fits chain holds e stops is. absurd (none_at_all (code r) (code_some r) holds);
  as_whole = reads;
  not_if = λ levels rest fits some. absurd (none_at_all 1 (omega arith) some);
}
  where
    reads : (levels : ℕ) (s : Tokens) (after : Wording) → Whole levels (choice a b c) → Stops 1 after → IsSpelledBy (spell_term (choice a b c) after) s.tokens → To s (term_at levels s) (choice a b c) after
    reads zero s after f stops is = absurd cc
    reads (suc m) s after f stops is =
        let fits_a : Bool = whole_in a m (λ below. term_fits a below) in
        let fits_b : Bool = whole_in b m (λ below. term_fits b below) in
        let fits_c : Bool = whole_in c m (λ below. term_fits c below) in
        let g = (and_parts (nat_le (operators (choice a b c)) 64) (term_fits (choice a b c) m) f).1 in
        let ra = readable m a ha ((and_parts fits_a fits_b ((and_parts (fits_a && fits_b) fits_c g).0)).0) in
        let rb = readable m b hb ((and_parts fits_a fits_b ((and_parts (fits_a && fits_b) fits_c g).0)).1) in
        let rc = readable m c hc ((and_parts (fits_a && fits_b) fits_c g).1) in
        let w : Wanted = of_kind (kind.Word word.If) in
        let mid : Wording = spell_bracketed a (spell_term b (a_word word.Else (spell_term c after))) in
        by_first (is_word_next word.If s) (choice_at (term_at m)) (operation_at (unary_in (term_at m) (unary_at m))) s s (first_is (is_word word.If) w mid s.tokens is)
        (choice_again (term_at m) a b c after stops ra rb rc s is)

mutual
  facts : (t : DraftTree) → Facts t
  facts (constant k) = constant_facts k
  facts (group t) = group_facts t (facts t)
  facts (read f place n) = read_facts f place n
  facts (variable n) = variable_facts n
  facts (isolate place t) = isolate_facts place t (facts t)
  facts (stop t) = stop_facts t (facts t)
  facts (require t cancels) = require_facts t cancels (facts t)
  facts (fold place a b m n c) = fold_facts place a b c m n (facts a) (facts b) (facts c)
  facts (unary op t) = unary_facts op t (facts t)
  facts (binary o a b) = binary_facts o a b (facts a) (facts b)
  facts (choice a b c) = choice_facts a b c (facts a) (facts b) (facts c)
  facts (call f ts) = call_facts f ts (all_facts ts)

  all_facts : (ts : DraftTrees) → AllFacts ts
  all_facts no_trees = tt
  all_facts (tree t ts) = (facts t, all_facts ts)

-- each term that fits is read again from its spelling, before what can't continue it
pub term_again : (levels : ℕ) (t : DraftTree) → Whole levels t → Readable (term_at levels) t
term_again levels t fits = readable levels t (facts t) fits

pub terms_again : (levels : ℕ) (ts : DraftTrees) → terms_fit ts levels ≡ true → AllRead (term_at levels) (list_of ts)
terms_again levels ts fits = all_read ts levels (all_facts ts) fits
