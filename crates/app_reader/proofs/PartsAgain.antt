-- Constants, priorities, writes, statements, blocks and bodies that fit are read again from their spelling.
use Rattle.std.proofs.Common.{◌≡◌, ℕ, zero, suc, pos, negsuc, neg_ℤ, ℤ, ◌+◌, ◌<◌, ◌≤◌, Bool, true, false, ◌&&◌, ◌||◌, List, [], ◌∷◌, ◌++◌, length, Result, Ok, Some, None, refl, sym, ap, subst, ◌∙◌, arith, length-append, inl, inr}
use Rattle.std.proofs.lemmas.Bool.{and_parts}
use Rattle.std.specs.Prelude.{nat_eq, nat_le, if◌then◌else◌}
use Rattle.std.specs.List.{list_all}
use Rattle.rx_value.specs.declared.value.Value.{Value}
use Rattle.rx_value.specs.declared.value.Value.TheVariants as v
use Rattle.app_tokens.specs.declared.token.Token.{Token}
use Rattle.app_tokens.specs.declared.token.Kind.{Kind}
use Rattle.app_tokens.specs.declared.token.Kind.TheVariants as kind
use Rattle.app_tokens.specs.declared.word.Word.{Word}
use Rattle.app_tokens.specs.declared.word.Word.TheVariants as word
use Rattle.app_tokens.specs.declared.symbol.Symbol.TheVariants as symbol
use Rattle.app_tokens.specs.Tokens.{Tokens}
use Rattle.app_tokens.specs.Kind.{is_word, is_symbol}
use Rattle.app_tree.specs.declared.draft_term.Name.{Name}
use Rattle.app_tree.specs.DraftTree.{DraftTree, DraftTrees, DraftDeed, set, invoke, update, freeze, WrittenDeed, DraftAct, write, perform, branch, branch_else, DraftActs, no_acts, act, WrittenBody}
use Rattle.app_tree.specs.DraftView.{draft_trees, draft_acts}
use Rattle.app_tree.specs.Fits.{is_number, are_numbers, constant_fits, deeper, whole_fits, all_fit, deed_fits, write_fits, act_fits, acts_fit, block_fits, body_fits, is_budget}
use Rattle.app_reader.specs.declared.error.ReadError.{ReadError}
use Rattle.rx_value.specs.Results.{◌>>=◌, choose}
use Rattle.app_reader.specs.State.{Reads, place_of, rest_of, skip, is_of_first, is_text, is_word_next, is_symbol_next, is_text_next, word_of, word_in, unexpected, word_at, symbol_at, name_at, number_at, text_at, turns_of}
use Rattle.app_reader.specs.Terms.{truth_value, truth_at, word_constant_at, whole_term_at, optional_at}
use Rattle.app_reader.specs.Constants.{signed_at, behind_minus, further_number_at, numbers_at, optional_numbers_at, list_at, is_constant_word_next, constant_at, priority_at, limit_at, budget_at}
use Rattle.app_reader.specs.Statements.{assigned_at, set_at, update_at, sent_at, invoke_at, freeze_at, deed_at, write_at, begins_write, begins_statement, is_word_of, is_write_next, is_statement_next, do_at, branch_at, statement_at, further_statement_at, statements_at, block_in, block_at, further_write_at, writes_at, body_at}
use Rattle.app_reader.specs.Spelling.{Wanted, of_kind, at_place, Wording, next, either, IsSpelledBy, a_word, a_word_at, a_symbol, a_number, spell_term, spell_terms, spell_number, spell_more_numbers, spell_numbers, spell_constant, written_priority, spell_priority, written_budget, spell_budget, deed_word, spell_assigned, spell_deed, spell_write, spell_writes, spell_act, spell_acts, spell_block, spell_body, spell_bracketed}
use Rattle.app_reader.proofs.Again.{To, Again, then1, then2, then3, then4, by_first, by_other, kind_of, first_is, tail_is, fewer_is, place_is, behind, may_begin, never, symbol_again, word_again, number_again, text_again, name_again, all_of, Stepped, loop_again}
use Rattle.app_reader.proofs.Beginnings.{is_term_word, begins_term, begins_no}
use Rattle.app_reader.proofs.TermsAgain.{Readable, bracketed_again, list_of, trees_back, optional_again, term_again, terms_again}

-- ---- numbers

plain_again : (n : ℕ) (after : Wording) → Again signed_at (a_number n after) (pos n) after
unfolding signed_at
plain_again n after s is =
    by_other (is_symbol_next symbol.Minus s) (λ t. number_at (skip t) >>= λ n. Ok (neg_ℤ (pos n.0), n.1)) (λ t. number_at t >>= λ n. Ok (pos n.0, n.1)) s s (first_is (is_symbol symbol.Minus) (of_kind (kind.Number n)) after s.tokens is)
    (then1 s (number_at s) (λ n. pos n) (number_again n after s is))

minus_again : (n : ℕ) (after : Wording) → Again signed_at (a_symbol symbol.Minus (a_number n after)) (neg_ℤ (pos n)) after
unfolding signed_at
minus_again n after s is =
    let w : Wanted = of_kind (kind.Symbol symbol.Minus) in
    by_first (is_symbol_next symbol.Minus s) (λ t. number_at (skip t) >>= λ n. Ok (neg_ℤ (pos n.0), n.1)) (λ t. number_at t >>= λ n. Ok (pos n.0, n.1)) s s (first_is (is_symbol symbol.Minus) w (a_number n after) s.tokens is)
    (behind s (number_at (skip s) >>= λ n. Ok (neg_ℤ (pos n.0), n.1)) w (a_number n after) is
    (then1 (skip s) (number_at (skip s)) (λ n. neg_ℤ (pos n)) (number_again n after (skip s) (tail_is w (a_number n after) s.tokens is))))

pub signed_again : (z : ℤ) (after : Wording) → Again signed_at (spell_number z after) z after
signed_again (pos zero) after s (inl is) = plain_again 0 after s is
signed_again (pos zero) after s (inr is) = minus_again 0 after s is
signed_again (pos (suc n)) after s is = plain_again (suc n) after s is
signed_again (negsuc n) after s is = minus_again (suc n) after s is

-- "," [ "-" ] INT
abbrev one_number : ℤ → Wording → Wording
one_number z rest = a_symbol symbol.Comma (spell_number z rest)

more_numbers_of : (zs : List ℤ) (rest : Wording) → spell_more_numbers zs rest ≡ all_of one_number zs rest
more_numbers_of [] rest = refl
more_numbers_of (z ∷ zs) rest = ap (one_number z) (more_numbers_of zs rest)

abbrev FewLeft : List ℤ → List ℤ → Type 0
FewLeft done es = length done + length es ≤ 1000

not_eq : (m n : ℕ) → m < n → nat_eq m n ≡ false
not_eq m n h = grind arith

further_number_again : (done : List ℤ) (z : ℤ) (mid : Wording) (s : Tokens) → length done < 1000 → IsSpelledBy (one_number z mid) s.tokens → Stepped (λ b. is_symbol_next symbol.Comma b.1) further_number_at done z s mid
unfolding further_number_at
further_number_again done z mid s few is =
    let w : Wanted = of_kind (kind.Symbol symbol.Comma) in
    let c = signed_again z mid (skip s) (tail_is w (spell_number z mid) s.tokens is) in
    let fewer : length c.rest.tokens < length s.tokens = omega (arith, c.shorter, fewer_is w (spell_number z mid) s.tokens is) in
    record {
      rest = c.rest;
      tests = first_is (is_symbol symbol.Comma) w (spell_number z mid) s.tokens is;
      gives = ap (λ b. choose b (λ t. unexpected (behind_minus t)) (λ t. signed_at t >>= λ n. Ok (done ++ n.0 ∷ [], n.1)) (skip s)) (not_eq (length done) 1000 few)
          ∙ ap (λ x. x >>= λ n. Ok (done ++ n.0 ∷ [], n.1)) c.gives;
      spells = c.spells;
      shorter = fewer;
    }

numbers_again : (z : ℤ) (zs : List ℤ) (after : Wording) → length (z ∷ zs) ≤ 1000 → Again numbers_at (spell_numbers (z ∷ zs) (a_symbol symbol.Close after)) (z ∷ zs) (a_symbol symbol.Close after)
unfolding numbers_at
numbers_again z zs after few s is =
    let close : Wording = a_symbol symbol.Close after in
    let c = signed_again z (all_of one_number zs close) s (subst (λ w. IsSpelledBy (spell_number z w) s.tokens) (more_numbers_of zs close) is) in
    let d = loop_again FewLeft one_number close (λ b. is_symbol_next symbol.Comma b.1) further_number_at
    (λ done e es s left is.
    let less : length done < 1000 = omega (arith, left) in
    let rest_few : length (done ++ e ∷ []) + length es ≤ 1000 = omega (arith, left, length-append done (e ∷ [])) in
    (further_number_again done e (all_of one_number es close) s less is, rest_few))
    (λ done s left is. first_is (is_symbol symbol.Comma) (of_kind (kind.Symbol symbol.Close)) after s.tokens is)
    (suc (length c.rest.tokens)) (z ∷ []) zs c.rest (omega arith) (omega (arith, few)) c.spells in
    let fewer : length d.rest.tokens ≤ length s.tokens = omega (arith, c.shorter, d.shorter) in
    record {
      rest = d.rest;
      gives = ap (λ x. x >>= λ first. turns_of (suc (length first.1.tokens)) (λ b. is_symbol_next symbol.Comma b.1) further_number_at (first.0 ∷ [], first.1)) c.gives ∙ d.gives;
      spells = d.spells;
      shorter = fewer;
    }

number_no_close : (z : ℤ) (rest : Wording) → may_begin (is_symbol symbol.Close) (spell_number z rest) ≡ false
number_no_close (pos zero) rest = refl
number_no_close (pos (suc n)) rest = refl
number_no_close (negsuc n) rest = refl

le_of : (m n : ℕ) → nat_le m n ≡ true → m ≤ n
le_of m n e = grind arith

optional_numbers_again : (zs : List ℤ) (after : Wording) → are_numbers zs ≡ true → Again optional_numbers_at (spell_numbers zs (a_symbol symbol.Close after)) zs (a_symbol symbol.Close after)
unfolding optional_numbers_at
optional_numbers_again [] after fits s is =
    by_first (is_symbol_next symbol.Close s) (λ t. Ok ([], t)) numbers_at s s (first_is (is_symbol symbol.Close) (of_kind (kind.Symbol symbol.Close)) after s.tokens is) (record { rest = s; gives = refl; spells = is; shorter = omega arith })
optional_numbers_again (z ∷ zs) after fits s is =
    by_other (is_symbol_next symbol.Close s) (λ t. Ok ([], t)) numbers_at s s
    (never (is_symbol symbol.Close) (spell_numbers (z ∷ zs) (a_symbol symbol.Close after)) s.tokens (number_no_close z (spell_more_numbers zs (a_symbol symbol.Close after))) is)
    (numbers_again z zs after (le_of (length (z ∷ zs)) 1000 ((and_parts (nat_le (length (z ∷ zs)) 1000) (list_all is_number (z ∷ zs)) fits).0)) s is)

list_again : (zs : List ℤ) (after : Wording) → are_numbers zs ≡ true → Again list_at (spell_constant (v.Ints zs) after) (v.Ints zs) after
unfolding list_at
list_again zs after fits s is =
    let w : Wanted = of_kind (kind.Word word.C) in
    let m1 : Wording = spell_numbers zs (a_symbol symbol.Close after) in
    let mid : Wording = a_symbol symbol.Open m1 in
    behind s (symbol_at symbol.Open (skip s) >>= λ opening. optional_numbers_at opening.1 >>= λ numbers. symbol_at symbol.Close numbers.1 >>= λ close. Ok (v.Ints numbers.0, close.1)) w mid is
    (then3 (skip s) (symbol_at symbol.Open (skip s)) optional_numbers_at (symbol_at symbol.Close) (λ u zs c. v.Ints zs) (symbol_again symbol.Open m1 (skip s) (tail_is w mid s.tokens is)) (optional_numbers_again zs after fits) (symbol_again symbol.Close after))

-- which kind of constant begins
constant_by : (s : Tokens) (k : Value) (after : Wording) (p : Reads Value) (t c b : Bool) → is_text_next s ≡ t → is_word_next word.C s ≡ c → is_constant_word_next s ≡ b
    → choose t (λ t. text_at t >>= λ text. Ok (v.Text text.0, text.1)) (choose c list_at (choose b word_constant_at (λ t. signed_at t >>= λ n. Ok (v.Int n.0, n.1)))) s ≡ p s → To s (p s) k after → To s (constant_at s) k after
unfolding constant_at
constant_by s k after p t c b it ic ib is h = record { rest = h.rest; gives = rw (it, ic, ib) (is ∙ h.gives); spells = h.spells; shorter = h.shorter }

constant_word : (w : Wanted) (mid : Wording) (s : Tokens) (k : Kind) → kind_of w ≡ k → IsSpelledBy (next w mid) s.tokens → is_constant_word_next s ≡ (is_word word.True k || is_word word.False k || is_word word.Null k)
constant_word w mid s k eq is =
    let one = first_is (is_word word.True) w mid s.tokens is ∙ ap (is_word word.True) eq in
    let two = first_is (is_word word.False) w mid s.tokens is ∙ ap (is_word word.False) eq in
    let three = first_is (is_word word.Null) w mid s.tokens is ∙ ap (is_word word.Null) eq in
    rw (one, two, three) refl

constant_first : (w : Wanted) (mid : Wording) (s : Tokens) (k : Kind) (x : Value) (after : Wording) (p : Reads Value) → kind_of w ≡ k → IsSpelledBy (next w mid) s.tokens
    → choose (is_text k) (λ t. text_at t >>= λ text. Ok (v.Text text.0, text.1)) (choose (is_word word.C k) list_at (choose (is_word word.True k || is_word word.False k || is_word word.Null k) word_constant_at (λ t. signed_at t >>= λ n. Ok (v.Int n.0, n.1)))) s ≡ p s
    → To s (p s) x after → To s (constant_at s) x after
constant_first w mid s k x after p eq is chosen h =
    constant_by s x after p (is_text k) (is_word word.C k) (is_word word.True k || is_word word.False k || is_word word.Null k)
    (first_is is_text w mid s.tokens is ∙ ap is_text eq) (first_is (is_word word.C) w mid s.tokens is ∙ ap (is_word word.C) eq) (constant_word w mid s k eq is) chosen h

null_again : (after : Wording) → Again word_constant_at (a_word word.Null after) v.Null after
unfolding word_constant_at truth_at
null_again after s is =
    let w : Wanted = of_kind (kind.Word word.Null) in
    then1 s (truth_at s) (λ o. truth_value o)
    (by_other (is_word_next word.True s) (λ t. word_at word.True t >>= λ w. Ok (Some true, w.1)) (choose (is_word_next word.False s) (λ t. word_at word.False t >>= λ w. Ok (Some false, w.1)) (λ t. word_at word.Null t >>= λ null. Ok (None, null.1))) s s (first_is (is_word word.True) w after s.tokens is)
    (by_other (is_word_next word.False s) (λ t. word_at word.False t >>= λ w. Ok (Some false, w.1)) (λ t. word_at word.Null t >>= λ null. Ok (None, null.1)) s s (first_is (is_word word.False) w after s.tokens is)
    (then1 s (word_at word.Null s) (λ u. None) (word_again word.Null after s is))))

false_again : (after : Wording) → Again word_constant_at (a_word word.False after) (v.Bool false) after
unfolding word_constant_at truth_at
false_again after s is =
    let w : Wanted = of_kind (kind.Word word.False) in
    then1 s (truth_at s) (λ o. truth_value o)
    (by_other (is_word_next word.True s) (λ t. word_at word.True t >>= λ w. Ok (Some true, w.1)) (choose (is_word_next word.False s) (λ t. word_at word.False t >>= λ w. Ok (Some false, w.1)) (λ t. word_at word.Null t >>= λ null. Ok (None, null.1))) s s (first_is (is_word word.True) w after s.tokens is)
    (by_first (is_word_next word.False s) (λ t. word_at word.False t >>= λ w. Ok (Some false, w.1)) (λ t. word_at word.Null t >>= λ null. Ok (None, null.1)) s s (first_is (is_word word.False) w after s.tokens is)
    (then1 s (word_at word.False s) (λ u. Some false) (word_again word.False after s is))))

true_again : (after : Wording) → Again word_constant_at (a_word word.True after) (v.Bool true) after
unfolding word_constant_at truth_at
true_again after s is =
    let w : Wanted = of_kind (kind.Word word.True) in
    then1 s (truth_at s) (λ o. truth_value o)
    (by_first (is_word_next word.True s) (λ t. word_at word.True t >>= λ w. Ok (Some true, w.1)) (choose (is_word_next word.False s) (λ t. word_at word.False t >>= λ w. Ok (Some false, w.1)) (λ t. word_at word.Null t >>= λ null. Ok (None, null.1))) s s (first_is (is_word word.True) w after s.tokens is)
    (then1 s (word_at word.True s) (λ u. Some true) (word_again word.True after s is)))

abbrev signed_constant_at : Reads Value
signed_constant_at t = signed_at t >>= λ n. Ok (v.Int n.0, n.1)

abbrev text_constant_at : Reads Value
text_constant_at t = text_at t >>= λ text. Ok (v.Text text.0, text.1)

signed_constant_again : (z : ℤ) (after : Wording) → Again signed_constant_at (spell_number z after) (v.Int z) after
signed_constant_again z after s is = then1 s (signed_at s) (λ z. v.Int z) (signed_again z after s is)

int_plain : (n : ℕ) (z : ℤ) (after : Wording) (s : Tokens) → IsSpelledBy (a_number n after) s.tokens → To s (signed_constant_at s) (v.Int z) after → To s (constant_at s) (v.Int z) after
int_plain n z after s is h = constant_first (of_kind (kind.Number n)) after s (kind.Number n) (v.Int z) after signed_constant_at refl is refl h

int_minus : (n : ℕ) (z : ℤ) (after : Wording) (s : Tokens) → IsSpelledBy (a_symbol symbol.Minus (a_number n after)) s.tokens → To s (signed_constant_at s) (v.Int z) after → To s (constant_at s) (v.Int z) after
int_minus n z after s is h = constant_first (of_kind (kind.Symbol symbol.Minus)) (a_number n after) s (kind.Symbol symbol.Minus) (v.Int z) after signed_constant_at refl is refl h

int_again : (z : ℤ) (after : Wording) → Again constant_at (spell_number z after) (v.Int z) after
int_again (pos zero) after s (inl is) = int_plain 0 (pos 0) after s is (signed_constant_again (pos 0) after s (inl is))
int_again (pos zero) after s (inr is) = int_minus 0 (pos 0) after s is (signed_constant_again (pos 0) after s (inr is))
int_again (pos (suc n)) after s is = int_plain (suc n) (pos (suc n)) after s is (signed_constant_again (pos (suc n)) after s is)
int_again (negsuc n) after s is = int_minus (suc n) (negsuc n) after s is (signed_constant_again (negsuc n) after s is)

pub constant_again : (k : Value) (after : Wording) → constant_fits k ≡ true → Again constant_at (spell_constant k after) k after
constant_again v.Null after fits s is = constant_first (of_kind (kind.Word word.Null)) after s (kind.Word word.Null) v.Null after word_constant_at refl is refl (null_again after s is)
constant_again (v.Bool true) after fits s is = constant_first (of_kind (kind.Word word.True)) after s (kind.Word word.True) (v.Bool true) after word_constant_at refl is refl (true_again after s is)
constant_again (v.Bool false) after fits s is = constant_first (of_kind (kind.Word word.False)) after s (kind.Word word.False) (v.Bool false) after word_constant_at refl is refl (false_again after s is)
constant_again (v.Int z) after fits s is = int_again z after s is
constant_again (v.Text bytes) after fits s is =
    constant_first (of_kind (kind.Text bytes)) after s (kind.Text bytes) (v.Text bytes) after text_constant_at refl is refl (then1 s (text_at s) (λ b. v.Text b) (text_again bytes after s is))
constant_again (v.Ints zs) after fits s is =
    constant_first (of_kind (kind.Word word.C)) (a_symbol symbol.Open (spell_numbers zs (a_symbol symbol.Close after))) s (kind.Word word.C) (v.Ints zs) after list_at refl is refl (list_again zs after fits s is)

-- ---- priorities and the budget

-- what follows doesn't begin with this word
abbrev pub Without : Word → Wording → Type 0
Without w after = may_begin (is_word w) after ≡ false

written_again : (z : ℤ) (after : Wording) → Again priority_at (written_priority z after) z after
unfolding priority_at
written_again z after s is =
    let w : Wanted = of_kind (kind.Word word.Priority) in
    by_first (is_word_next word.Priority s) (λ t. signed_at (skip t)) (λ t. Ok (pos 0, t)) s s (first_is (is_word word.Priority) w (spell_number z after) s.tokens is)
    (behind s (signed_at (skip s)) w (spell_number z after) is (signed_again z after (skip s) (tail_is w (spell_number z after) s.tokens is)))

unwritten_again : (after : Wording) → Without word.Priority after → Again priority_at after (pos 0) after
unfolding priority_at
unwritten_again after without s is =
    by_other (is_word_next word.Priority s) (λ t. signed_at (skip t)) (λ t. Ok (pos 0, t)) s s (never (is_word word.Priority) after s.tokens without is) (record { rest = s; gives = refl; spells = is; shorter = omega arith })

pub priority_again : (z : ℤ) (after : Wording) → Without word.Priority after → Again priority_at (spell_priority z after) z after
priority_again (pos zero) after without s (inl is) = unwritten_again after without s is
priority_again (pos zero) after without s (inr is) = written_again (pos 0) after s is
priority_again (pos (suc n)) after without s is = written_again (pos (suc n)) after s is
priority_again (negsuc n) after without s is = written_again (negsuc n) after s is

limit_again : (n : ℕ) (after : Wording) → is_budget n ≡ true → Again limit_at (a_number n after) n after
unfolding limit_at
limit_again n after fits s is =
    let c = number_again n after s is in
    record {
      rest = c.rest;
      gives = ap (λ x. x >>= λ n. choose (is_budget n.0) (λ t. Ok (n.0, n.1)) unexpected s) c.gives ∙ ap (λ b. choose b (λ t. Ok (n, c.rest)) unexpected s) fits;
      spells = c.spells;
      shorter = c.shorter;
    }

written_budget_again : (n : ℕ) (after : Wording) → is_budget n ≡ true → Again budget_at (written_budget n after) n after
unfolding budget_at
written_budget_again n after fits s is =
    let w : Wanted = of_kind (kind.Word word.Budget) in
    let mid : Wording = a_number n (a_symbol symbol.Semicolon after) in
    by_first (is_word_next word.Budget s) (λ t. limit_at (skip t) >>= λ n. symbol_at symbol.Semicolon n.1 >>= λ semicolon. Ok (n.0, semicolon.1)) (λ t. Ok (1000, t)) s s (first_is (is_word word.Budget) w mid s.tokens is)
    (behind s (limit_at (skip s) >>= λ n. symbol_at symbol.Semicolon n.1 >>= λ semicolon. Ok (n.0, semicolon.1)) w mid is
    (then2 (skip s) (limit_at (skip s)) (symbol_at symbol.Semicolon) (λ n u. n) (limit_again n (a_symbol symbol.Semicolon after) fits (skip s) (tail_is w mid s.tokens is)) (symbol_again symbol.Semicolon after)))

usual_budget_again : (after : Wording) → Without word.Budget after → Again budget_at after 1000 after
unfolding budget_at
usual_budget_again after without s is =
    by_other (is_word_next word.Budget s) (λ t. limit_at (skip t) >>= λ n. symbol_at symbol.Semicolon n.1 >>= λ semicolon. Ok (n.0, semicolon.1)) (λ t. Ok (1000, t)) s s (never (is_word word.Budget) after s.tokens without is)
    (record { rest = s; gives = refl; spells = is; shorter = omega arith })

eq_of : (m n : ℕ) → nat_eq m n ≡ true → m ≡ n
eq_of m n e = grind arith

pub budget_again : (n : ℕ) (after : Wording) → is_budget n ≡ true → Without word.Budget after → Again budget_at (spell_budget n after) n after
budget_again n after fits without s is = by (nat_eq n 1000) refl is
  where
    two : IsSpelledBy (either (written_budget n after) after) s.tokens → n ≡ 1000 → To s (budget_at s) n after
    two (inl is) eq = written_budget_again n after fits s is
    two (inr is) eq = subst (λ m. To s (budget_at s) m after) (sym eq) (usual_budget_again after without s is)

    by : (b : Bool) → nat_eq n 1000 ≡ b → IsSpelledBy (if b then either (written_budget n after) after else written_budget n after) s.tokens → To s (budget_at s) n after
    by true e is = two is (eq_of n 1000 e)
    by false e is = written_budget_again n after fits s is

-- ---- writes

pub whole_again : (t : DraftTree) → whole_fits t ≡ true → Readable whole_term_at t
whole_again t fits = term_again 64 t fits

assigned_again : (n : Name) (t : DraftTree) (after : Wording) → whole_fits t ≡ true → Again assigned_at (spell_assigned n t after) (n, t) after
unfolding assigned_at
assigned_again n t after fits s is =
    then4 s (name_at s) (symbol_at symbol.Assign) whole_term_at (symbol_at symbol.Semicolon) (λ n u t c. (n, t))
    (name_again n (a_symbol symbol.Assign (spell_term t (a_symbol symbol.Semicolon after))) s is) (symbol_again symbol.Assign (spell_term t (a_symbol symbol.Semicolon after)))
    (λ s is. whole_again t fits s (a_symbol symbol.Semicolon after) refl is) (symbol_again symbol.Semicolon after)

sent_again : (ts : DraftTrees) (after : Wording) → all_fit ts ≡ true → Again sent_at (a_symbol symbol.Open (spell_terms ts (a_symbol symbol.Close after))) (list_of ts) after
unfolding sent_at
sent_again ts after fits s is =
    then3 s (symbol_at symbol.Open s) (optional_at whole_term_at) (symbol_at symbol.Close) (λ u ts c. ts) (symbol_again symbol.Open (spell_terms ts (a_symbol symbol.Close after)) s is)
    (optional_again whole_term_at ts after (terms_again 64 ts fits)) (symbol_again symbol.Close after)

-- the same, where a token at least is taken
abbrev pub AgainBehind : {A : Type 0} → Reads A → Wording → A → Wording → Type 0
AgainBehind p spelled x after = (s : Tokens) → IsSpelledBy spelled s.tokens → To (skip s) (p s) x after

set_again : (n : Name) (t : DraftTree) (place : ℕ) (after : Wording) → whole_fits t ≡ true → AgainBehind set_at (a_word_at word.Set place (spell_assigned n t after)) (set n t) after
unfolding set_at
set_again n t place after fits s is =
    then1 (skip s) (assigned_at (skip s)) (λ a. set a.0 a.1) (assigned_again n t after fits (skip s) (tail_is (at_place (kind.Word word.Set) place) (spell_assigned n t after) s.tokens is))

update_again : (n : Name) (t : DraftTree) (place : ℕ) (after : Wording) → whole_fits t ≡ true → AgainBehind update_at (a_word_at word.Update place (spell_assigned n t after)) (update n t) after
unfolding update_at
update_again n t place after fits s is =
    then1 (skip s) (assigned_at (skip s)) (λ a. update a.0 a.1) (assigned_again n t after fits (skip s) (tail_is (at_place (kind.Word word.Update) place) (spell_assigned n t after) s.tokens is))

invoke_again : (n : Name) (ts : DraftTrees) (place : ℕ) (after : Wording) → all_fit ts ≡ true → AgainBehind invoke_at (a_word_at word.Invoke place (spell_deed (invoke n ts) after)) (invoke n ts) after
unfolding invoke_at
invoke_again n ts place after fits s is =
    let m1 : Wording = a_symbol symbol.Open (spell_terms ts (a_symbol symbol.Close (a_symbol symbol.Semicolon after))) in
    subst (λ us. To (skip s) (name_at (skip s) >>= λ n. sent_at n.1 >>= λ all. symbol_at symbol.Semicolon all.1 >>= λ semicolon. Ok (invoke n.0 (draft_trees all.0), semicolon.1)) (invoke n us) after) (trees_back ts)
    (then3 (skip s) (name_at (skip s)) sent_at (symbol_at symbol.Semicolon) (λ n ts c. invoke n (draft_trees ts))
    (name_again n m1 (skip s) (tail_is (at_place (kind.Word word.Invoke) place) (spell_deed (invoke n ts) after) s.tokens is)) (sent_again ts (a_symbol symbol.Semicolon after) fits) (symbol_again symbol.Semicolon after))

freeze_again : (n : Name) (place : ℕ) (after : Wording) → AgainBehind freeze_at (a_word_at word.Freeze place (spell_deed (freeze n) after)) (freeze n) after
unfolding freeze_at
freeze_again n place after s is =
    then2 (skip s) (name_at (skip s)) (symbol_at symbol.Semicolon) (λ n u. freeze n)
    (name_again n (a_symbol symbol.Semicolon after) (skip s) (tail_is (at_place (kind.Word word.Freeze) place) (spell_deed (freeze n) after) s.tokens is)) (symbol_again symbol.Semicolon after)

-- which write begins
deed_by : (s : Tokens) (d : DraftDeed) (after : Wording) (w : Wanted) (u : Word) (mid : Wording) (p : Reads DraftDeed) → kind_of w ≡ kind.Word u → IsSpelledBy (next w mid) s.tokens
    → choose (is_word word.Set (kind.Word u)) set_at (choose (is_word word.Invoke (kind.Word u)) invoke_at (choose (is_word word.Update (kind.Word u)) update_at (choose (is_word word.Freeze (kind.Word u)) freeze_at unexpected))) s ≡ p s
    → To (skip s) (p s) d after → To (skip s) (deed_at s) d after
unfolding deed_at
deed_by s d after w u mid p eq is chosen h =
    let one = first_is (is_word word.Set) w mid s.tokens is ∙ ap (is_word word.Set) eq in
    let two = first_is (is_word word.Invoke) w mid s.tokens is ∙ ap (is_word word.Invoke) eq in
    let three = first_is (is_word word.Update) w mid s.tokens is ∙ ap (is_word word.Update) eq in
    let four = first_is (is_word word.Freeze) w mid s.tokens is ∙ ap (is_word word.Freeze) eq in
    record { rest = h.rest; gives = rw (one, two, three, four) (chosen ∙ h.gives); spells = h.spells; shorter = h.shorter }

deed_again : (d : DraftDeed) (place : ℕ) (after : Wording) → deed_fits d ≡ true → AgainBehind deed_at (a_word_at (deed_word d) place (spell_deed d after)) d after
deed_again (set n t) place after fits s is = deed_by s (set n t) after (at_place (kind.Word word.Set) place) word.Set (spell_deed (set n t) after) set_at refl is refl (set_again n t place after fits s is)
deed_again (invoke n ts) place after fits s is = deed_by s (invoke n ts) after (at_place (kind.Word word.Invoke) place) word.Invoke (spell_deed (invoke n ts) after) invoke_at refl is refl (invoke_again n ts place after fits s is)
deed_again (update n t) place after fits s is = deed_by s (update n t) after (at_place (kind.Word word.Update) place) word.Update (spell_deed (update n t) after) update_at refl is refl (update_again n t place after fits s is)
deed_again (freeze n) place after fits s is = deed_by s (freeze n) after (at_place (kind.Word word.Freeze) place) word.Freeze (spell_deed (freeze n) after) freeze_at refl is refl (freeze_again n place after s is)

write_again : (w : WrittenDeed) (after : Wording) → write_fits w ≡ true → AgainBehind write_at (spell_write w after) w after
unfolding write_at
write_again w after fits s is =
    let at : ℕ → WrittenDeed = λ p. record { place = p; deed = w.deed } in
    subst (λ p. To {A = WrittenDeed} (skip s) (deed_at s >>= λ d. Ok (record { place = place_of s; deed = d.0 }, d.1)) (at p) after) (place_is (kind.Word (deed_word w.deed)) w.place (spell_deed w.deed after) s is)
    (then1 (skip s) (deed_at s) (λ d. record { place = place_of s; deed = d }) (deed_again w.deed w.place after fits s is))

-- a step of a loop whose element takes a token at least
pub step_of : {E : Type 0} (test : List E × Tokens → Bool) (step : List E × Tokens → Result (List E × Tokens) ReadError) (done : List E) (e : E) (after : Wording) (s : Tokens) (w : Wanted) (mid : Wording) (r : Result (E × Tokens) ReadError)
    → IsSpelledBy (next w mid) s.tokens → test (done, s) ≡ true → step (done, s) ≡ (r >>= λ e. Ok (done ++ e.0 ∷ [], e.1)) → To (skip s) r e after → Stepped test step done e s after
step_of test step done e after s w mid r is holds steps h =
    let fewer : length h.rest.tokens < length s.tokens = omega (arith, h.shorter, fewer_is w mid s.tokens is) in
    record { rest = h.rest; tests = holds; gives = steps ∙ ap (λ x. x >>= λ e. Ok (done ++ e.0 ∷ [], e.1)) h.gives; spells = h.spells; shorter = fewer }

-- a word that begins a write
abbrev starts_write : Kind → Bool
starts_write k = is_word_of begins_write (word_of k)

write_next : (ts : List Token) → is_word_of begins_write (word_in ts) ≡ is_of_first starts_write ts
write_next [] = refl
write_next (t ∷ ts) = refl

deed_begins : (d : DraftDeed) → begins_write (deed_word d) ≡ true
deed_begins (set n t) = refl
deed_begins (invoke n ts) = refl
deed_begins (update n t) = refl
deed_begins (freeze n) = refl

term_word_no : (w : Word) → is_term_word w ≡ true → begins_write w ≡ false
term_word_no word.Set e = absurd cc
term_word_no word.Invoke e = absurd cc
term_word_no word.Update e = absurd cc
term_word_no word.Freeze e = absurd cc
term_word_no _ e = refl

term_no_write : (k : Kind) → begins_term k ≡ true → starts_write k ≡ false
term_no_write (kind.Word w) e = term_word_no w e
term_no_write (kind.Symbol x) e = refl
term_no_write kind.Name e = refl
term_no_write (kind.Number n) e = refl
term_no_write (kind.Text t) e = refl

writes_of : (ws : List WrittenDeed) (rest : Wording) → spell_writes ws rest ≡ all_of spell_write ws rest
writes_of [] rest = refl
writes_of (w ∷ ws) rest = ap (spell_write w) (writes_of ws rest)

abbrev WritesLeft : List WrittenDeed → List WrittenDeed → Type 0
WritesLeft done es = list_all write_fits es ≡ true

write_step : (done : List WrittenDeed) (e : WrittenDeed) (mid : Wording) (s : Tokens) → write_fits e ≡ true → IsSpelledBy (spell_write e mid) s.tokens → Stepped (λ b. is_write_next b.1) further_write_at done e s mid
unfolding further_write_at
write_step done e mid s fits is =
    let w : Wanted = at_place (kind.Word (deed_word e.deed)) e.place in
    step_of (λ b. is_write_next b.1) further_write_at done e mid s w (spell_deed e.deed mid) (write_at s) is
    (write_next s.tokens ∙ first_is starts_write w (spell_deed e.deed mid) s.tokens is ∙ deed_begins e.deed) refl (write_again e mid fits s is)

writes_again : (ws : List WrittenDeed) (t : DraftTree) (after : Wording) → list_all write_fits ws ≡ true → Again writes_at (spell_writes ws (spell_term t after)) ws (spell_term t after)
unfolding writes_at
writes_again ws t after fits s is =
    loop_again WritesLeft spell_write (spell_term t after) (λ b. is_write_next b.1) further_write_at
    (λ done e es s left is. (write_step done e (all_of spell_write es (spell_term t after)) s ((and_parts (write_fits e) (list_all write_fits es) left).0) is, (and_parts (write_fits e) (list_all write_fits es) left).1))
    (λ done s left is. write_next s.tokens ∙ never starts_write (spell_term t after) s.tokens (begins_no starts_write term_no_write t after) is)
    (suc (length s.tokens)) [] ws s (omega arith) fits (subst (λ w. IsSpelledBy w s.tokens) (writes_of ws (spell_term t after)) is)

pub body_again : (body : WrittenBody) (after : Wording) → body_fits body ≡ true → Again body_at (spell_body body after) body after
unfolding body_at
body_again body after fits s is =
    let ws : List WrittenDeed = body.writes in
    let t : DraftTree = body.term in
    let m1 : Wording = spell_term t (a_symbol symbol.CloseBrace after) in
    let make : Unit {0} → List WrittenDeed → DraftTree → Unit {0} → WrittenBody = λ u ws t c. record { writes = ws; term = t } in
    then4 s (symbol_at symbol.OpenBrace s) writes_at whole_term_at (symbol_at symbol.CloseBrace) make
    (symbol_again symbol.OpenBrace (spell_writes ws m1) s is) (writes_again ws t (a_symbol symbol.CloseBrace after) ((and_parts (list_all write_fits ws) (whole_fits t) fits).0))
    (λ s is. whole_again t ((and_parts (list_all write_fits ws) (whole_fits t) fits).1) s (a_symbol symbol.CloseBrace after) refl is) (symbol_again symbol.CloseBrace after)

-- ---- statements and blocks

abbrev pub act_list : DraftActs → List DraftAct
act_list no_acts = []
act_list (act a more) = a ∷ act_list more

pub acts_back : (xs : DraftActs) → draft_acts (act_list xs) ≡ xs
acts_back no_acts = refl
acts_back (act a more) = ap (act a) (acts_back more)

acts_of : (xs : DraftActs) (rest : Wording) → spell_acts xs rest ≡ all_of spell_act (act_list xs) rest
acts_of no_acts rest = refl
acts_of (act a more) rest = ap (spell_act a) (acts_of more rest)

-- a word that begins a statement
abbrev starts_statement : Kind → Bool
starts_statement k = is_word_of begins_statement (word_of k)

statement_next : (ts : List Token) → is_word_of begins_statement (word_in ts) ≡ is_of_first starts_statement ts
statement_next [] = refl
statement_next (t ∷ ts) = refl

-- a statement that can be read where no `else` follows
abbrev ActRead : ℕ → DraftAct → Type 0
ActRead levels a = (s : Tokens) (after : Wording) → Without word.Else after → IsSpelledBy (spell_act a after) s.tokens → To (skip s) (statement_at (block_at levels) s) a after

abbrev AllActsRead : ℕ → List DraftAct → Type 0
AllActsRead levels [] = Unit {0}
AllActsRead levels (a ∷ more) = ActRead levels a × AllActsRead levels more

-- a statement's first token, and that it is one
record Begun (a : DraftAct) (rest : Wording) : Type 0 where
  first : Wanted
  mid : Wording
  is : spell_act a rest ≡ next first mid
  begins : starts_statement (kind_of first) ≡ true
  no_else : is_word word.Else (kind_of first) ≡ false

deed_starts : (d : DraftDeed) → begins_statement (deed_word d) ≡ true
deed_starts (set n t) = refl
deed_starts (invoke n ts) = refl
deed_starts (update n t) = refl
deed_starts (freeze n) = refl

deed_no_else : (d : DraftDeed) → is_word word.Else (kind.Word (deed_word d)) ≡ false
deed_no_else (set n t) = refl
deed_no_else (invoke n ts) = refl
deed_no_else (update n t) = refl
deed_no_else (freeze n) = refl

begun : (a : DraftAct) (rest : Wording) → Begun a rest
begun (write w) rest = record { first = at_place (kind.Word (deed_word w.deed)) w.place; mid = spell_deed w.deed rest; is = refl; begins = deed_starts w.deed; no_else = deed_no_else w.deed }
begun (perform t) rest = record { first = of_kind (kind.Word word.Do); mid = spell_term t (a_symbol symbol.Semicolon rest); is = refl; begins = refl; no_else = refl }
begun (branch t block) rest = record { first = of_kind (kind.Word word.If); mid = spell_bracketed t (spell_block block rest); is = refl; begins = refl; no_else = refl }
begun (branch_else t block other) rest = record { first = of_kind (kind.Word word.If); mid = spell_bracketed t (spell_block block (a_word word.Else (spell_block other rest))); is = refl; begins = refl; no_else = refl }

acts_no_else : (xs : List DraftAct) (after : Wording) → Without word.Else (all_of spell_act xs (a_symbol symbol.CloseBrace after))
acts_no_else [] after = refl
acts_no_else (a ∷ more) after = let b = begun a (all_of spell_act more (a_symbol symbol.CloseBrace after)) in ap (may_begin (is_word word.Else)) b.is ∙ b.no_else

statement_step : (levels : ℕ) (done : List DraftAct) (a : DraftAct) (mid : Wording) (s : Tokens) → ActRead levels a → Without word.Else mid → IsSpelledBy (spell_act a mid) s.tokens
    → Stepped (λ b. is_statement_next b.1) (further_statement_at (block_at levels)) done a s mid
unfolding further_statement_at
statement_step levels done a mid s h without is =
    let b = begun a mid in
    let at : IsSpelledBy (next b.first b.mid) s.tokens = subst (λ w. IsSpelledBy w s.tokens) b.is is in
    step_of (λ b. is_statement_next b.1) (further_statement_at (block_at levels)) done a mid s b.first b.mid (statement_at (block_at levels) s) at
    (statement_next s.tokens ∙ first_is starts_statement b.first b.mid s.tokens at ∙ b.begins) refl (h s mid without is)

statements_again : (levels : ℕ) (xs : DraftActs) (after : Wording) → AllActsRead levels (act_list xs) → Again (statements_at (block_at levels)) (spell_acts xs (a_symbol symbol.CloseBrace after)) (act_list xs) (a_symbol symbol.CloseBrace after)
unfolding statements_at
statements_again levels xs after all s is =
    let close : Wording = a_symbol symbol.CloseBrace after in
    loop_again (λ done es. AllActsRead levels es) spell_act close (λ b. is_statement_next b.1) (further_statement_at (block_at levels))
    (λ done e es s left is. (statement_step levels done e (all_of spell_act es close) s left.0 (acts_no_else es after) is, left.1))
    (λ done s left is. statement_next s.tokens ∙ first_is starts_statement (of_kind (kind.Symbol symbol.CloseBrace)) after s.tokens is)
    (suc (length s.tokens)) [] (act_list xs) s (omega arith) all (subst (λ w. IsSpelledBy w s.tokens) (acts_of xs close) is)

-- a block that can be read
abbrev pub BlockRead : ℕ → DraftActs → Type 0
BlockRead levels xs = (s : Tokens) (after : Wording) → IsSpelledBy (spell_block xs after) s.tokens → To s (block_at levels s) (act_list xs) after

block_read : (levels : ℕ) (xs : DraftActs) → deeper levels (λ below. acts_fit xs below) ≡ true → ((m : ℕ) → acts_fit xs m ≡ true → AllActsRead m (act_list xs)) → BlockRead levels xs
unfolding block_at block_in
block_read zero xs fits all s after is = absurd cc
block_read (suc m) xs fits all s after is =
    then3 s (symbol_at symbol.OpenBrace s) (statements_at (block_at m)) (symbol_at symbol.CloseBrace) (λ u xs c. xs) (symbol_again symbol.OpenBrace (spell_acts xs (a_symbol symbol.CloseBrace after)) s is)
    (statements_again m xs after (all m fits)) (symbol_again symbol.CloseBrace after)

-- which statement begins
statement_by : (levels : ℕ) (s : Tokens) (a : DraftAct) (after : Wording) (w : Wanted) (mid : Wording) (k : Kind) (p : Reads DraftAct) → kind_of w ≡ k → IsSpelledBy (next w mid) s.tokens
    → choose (is_word word.Do k) do_at (choose (is_word word.If k) (branch_at (block_at levels)) (λ t. write_at t >>= λ w. Ok (write w.0, w.1))) s ≡ p s
    → To (skip s) (p s) a after → To (skip s) (statement_at (block_at levels) s) a after
unfolding statement_at
statement_by levels s a after w mid k p eq is chosen h =
    let one = first_is (is_word word.Do) w mid s.tokens is ∙ ap (is_word word.Do) eq in
    let two = first_is (is_word word.If) w mid s.tokens is ∙ ap (is_word word.If) eq in
    record { rest = h.rest; gives = rw (one, two) (chosen ∙ h.gives); spells = h.spells; shorter = h.shorter }

deed_no_do : (d : DraftDeed) → is_word word.Do (kind.Word (deed_word d)) ≡ false
deed_no_do (set n t) = refl
deed_no_do (invoke n ts) = refl
deed_no_do (update n t) = refl
deed_no_do (freeze n) = refl

deed_no_if : (d : DraftDeed) → is_word word.If (kind.Word (deed_word d)) ≡ false
deed_no_if (set n t) = refl
deed_no_if (invoke n ts) = refl
deed_no_if (update n t) = refl
deed_no_if (freeze n) = refl

abbrev write_statement_at : Reads DraftAct
write_statement_at t = write_at t >>= λ w. Ok (write w.0, w.1)

write_act : (levels : ℕ) (w : WrittenDeed) → write_fits w ≡ true → ActRead levels (write w)
write_act levels w fits s after without is =
    let k : Kind = kind.Word (deed_word w.deed) in
    statement_by levels s (write w) after (at_place k w.place) (spell_deed w.deed after) k write_statement_at refl is (rw (deed_no_do w.deed, deed_no_if w.deed) refl)
    (then1 (skip s) (write_at s) (λ w. write w) (write_again w after fits s is))

perform_again : (t : DraftTree) (after : Wording) → whole_fits t ≡ true → AgainBehind do_at (spell_act (perform t) after) (perform t) after
unfolding do_at
perform_again t after fits s is =
    then2 (skip s) (whole_term_at (skip s)) (symbol_at symbol.Semicolon) (λ t c. perform t)
    (whole_again t fits (skip s) (a_symbol symbol.Semicolon after) refl (tail_is (of_kind (kind.Word word.Do)) (spell_term t (a_symbol symbol.Semicolon after)) s.tokens is)) (symbol_again symbol.Semicolon after)

perform_act : (levels : ℕ) (t : DraftTree) → whole_fits t ≡ true → ActRead levels (perform t)
perform_act levels t fits s after without is =
    statement_by levels s (perform t) after (of_kind (kind.Word word.Do)) (spell_term t (a_symbol symbol.Semicolon after)) (kind.Word word.Do) do_at refl is refl (perform_again t after fits s is)

branch_again : (levels : ℕ) (t : DraftTree) (xs : DraftActs) (after : Wording) → whole_fits t ≡ true → BlockRead levels xs → Without word.Else after → AgainBehind (branch_at (block_at levels)) (spell_act (branch t xs) after) (branch t xs) after
unfolding branch_at
branch_again levels t xs after fits h without s is =
    let block : Reads (List DraftAct) = block_at levels in
    let mid : Wording = spell_block xs after in
    let a = bracketed_again whole_term_at t mid (whole_again t fits) (skip s) (tail_is (of_kind (kind.Word word.If)) (spell_bracketed t mid) s.tokens is) in
    let b = h a.rest after a.spells in
    let fewer : length b.rest.tokens ≤ length (rest_of s.tokens) = omega (arith, a.shorter, b.shorter) in
    record {
      rest = b.rest;
      gives = ap (λ x. x >>= λ condition. block condition.1 >>= λ first. choose (is_word_next word.Else first.1)
          (λ t. block (skip t) >>= λ other. Ok (branch_else condition.0 (draft_acts first.0) (draft_acts other.0), other.1))
          (λ t. Ok (branch condition.0 (draft_acts first.0), t)) first.1) a.gives
          ∙ ap (λ x. x >>= λ first. choose (is_word_next word.Else first.1)
          (λ u. block (skip u) >>= λ other. Ok (branch_else t (draft_acts first.0) (draft_acts other.0), other.1))
          (λ u. Ok (branch t (draft_acts first.0), u)) first.1) b.gives
          ∙ ap (λ e. choose e (λ u. block (skip u) >>= λ other. Ok (branch_else t (draft_acts (act_list xs)) (draft_acts other.0), other.1)) (λ u. Ok (branch t (draft_acts (act_list xs)), u)) b.rest)
          (never (is_word word.Else) after b.rest.tokens without b.spells)
          ∙ ap (λ us. Ok (branch t us, b.rest)) (acts_back xs);
      spells = b.spells;
      shorter = fewer;
    }

branch_act : (levels : ℕ) (t : DraftTree) (xs : DraftActs) → whole_fits t ≡ true → BlockRead levels xs → ActRead levels (branch t xs)
branch_act levels t xs fits h s after without is =
    statement_by levels s (branch t xs) after (of_kind (kind.Word word.If)) (spell_bracketed t (spell_block xs after)) (kind.Word word.If) (branch_at (block_at levels)) refl is refl (branch_again levels t xs after fits h without s is)

branch_else_again : (levels : ℕ) (t : DraftTree) (xs ys : DraftActs) (after : Wording) → whole_fits t ≡ true → BlockRead levels xs → BlockRead levels ys
    → AgainBehind (branch_at (block_at levels)) (spell_act (branch_else t xs ys) after) (branch_else t xs ys) after
unfolding branch_at
branch_else_again levels t xs ys after fits h k s is =
    let block : Reads (List DraftAct) = block_at levels in
    let w : Wanted = of_kind (kind.Word word.Else) in
    let m1 : Wording = a_word word.Else (spell_block ys after) in
    let mid : Wording = spell_block xs m1 in
    let a = bracketed_again whole_term_at t mid (whole_again t fits) (skip s) (tail_is (of_kind (kind.Word word.If)) (spell_bracketed t mid) s.tokens is) in
    let b = h a.rest m1 a.spells in
    let c = k (skip b.rest) after (tail_is w (spell_block ys after) b.rest.tokens b.spells) in
    let fewer : length c.rest.tokens ≤ length (rest_of s.tokens) = omega (arith, a.shorter, b.shorter, c.shorter, fewer_is w (spell_block ys after) b.rest.tokens b.spells) in
    record {
      rest = c.rest;
      gives = ap (λ x. x >>= λ condition. block condition.1 >>= λ first. choose (is_word_next word.Else first.1)
          (λ t. block (skip t) >>= λ other. Ok (branch_else condition.0 (draft_acts first.0) (draft_acts other.0), other.1))
          (λ t. Ok (branch condition.0 (draft_acts first.0), t)) first.1) a.gives
          ∙ ap (λ x. x >>= λ first. choose (is_word_next word.Else first.1)
          (λ u. block (skip u) >>= λ other. Ok (branch_else t (draft_acts first.0) (draft_acts other.0), other.1))
          (λ u. Ok (branch t (draft_acts first.0), u)) first.1) b.gives
          ∙ ap (λ e. choose e (λ u. block (skip u) >>= λ other. Ok (branch_else t (draft_acts (act_list xs)) (draft_acts other.0), other.1)) (λ u. Ok (branch t (draft_acts (act_list xs)), u)) b.rest)
          (first_is (is_word word.Else) w (spell_block ys after) b.rest.tokens b.spells)
          ∙ ap (λ x. x >>= λ other. Ok (branch_else t (draft_acts (act_list xs)) (draft_acts other.0), other.1)) c.gives
          ∙ ap (λ us. Ok (branch_else t us (draft_acts (act_list ys)), c.rest)) (acts_back xs)
          ∙ ap (λ us. Ok (branch_else t xs us, c.rest)) (acts_back ys);
      spells = c.spells;
      shorter = fewer;
    }

branch_else_act : (levels : ℕ) (t : DraftTree) (xs ys : DraftActs) → whole_fits t ≡ true → BlockRead levels xs → BlockRead levels ys → ActRead levels (branch_else t xs ys)
branch_else_act levels t xs ys fits h k s after without is =
    statement_by levels s (branch_else t xs ys) after (of_kind (kind.Word word.If)) (spell_bracketed t (spell_block xs (a_word word.Else (spell_block ys after)))) (kind.Word word.If) (branch_at (block_at levels)) refl is refl
    (branch_else_again levels t xs ys after fits h k s is)

mutual
  act_read : (a : DraftAct) (levels : ℕ) → act_fits a levels ≡ true → ActRead levels a
  act_read (write w) levels fits = write_act levels w fits
  act_read (perform t) levels fits = perform_act levels t fits
  act_read (branch t xs) levels fits =
      let inner : Bool = deeper levels (λ below. acts_fit xs below) in
      branch_act levels t xs ((and_parts (whole_fits t) inner fits).0) (block_read levels xs ((and_parts (whole_fits t) inner fits).1) (λ m f. acts_read xs m f))
  act_read (branch_else t xs ys) levels fits =
      let inner : Bool = deeper levels (λ below. acts_fit xs below) in
      let other : Bool = deeper levels (λ below. acts_fit ys below) in
      let both_fit = (and_parts (whole_fits t && inner) other fits).0 in
      branch_else_act levels t xs ys ((and_parts (whole_fits t) inner both_fit).0) (block_read levels xs ((and_parts (whole_fits t) inner both_fit).1) (λ m f. acts_read xs m f))
      (block_read levels ys ((and_parts (whole_fits t && inner) other fits).1) (λ m f. acts_read ys m f))

  acts_read : (xs : DraftActs) (levels : ℕ) → acts_fit xs levels ≡ true → AllActsRead levels (act_list xs)
  acts_read no_acts levels fits = tt
  acts_read (act a more) levels fits = (act_read a levels ((and_parts (act_fits a levels) (acts_fit more levels) fits).0), acts_read more levels ((and_parts (act_fits a levels) (acts_fit more levels) fits).1))

pub block_again : (xs : DraftActs) → block_fits xs ≡ true → BlockRead 64 xs
block_again xs fits = block_read 64 xs fits (λ m f. acts_read xs m f)
