-- How a term is read again, by where it stands among operators.
use Rattle.std.proofs.Common.{◌≡◌, ℕ, zero, suc, ◌+◌, ◌-◌, ◌≤◌, Bool, true, false, ◌&&◌, Ok, Some, refl, sym, ap, subst, ◌∙◌, arith, inl, inr, ◌⊎◌}
use Rattle.std.proofs.lemmas.Bool.{and_parts}
use Rattle.std.specs.Prelude.{nat_eq, nat_le, nat_lt}
use Rattle.rx_value.specs.declared.operator.BinOp.TheVariants as bin
use Rattle.app_tokens.specs.declared.word.Word.TheVariants as word
use Rattle.app_tokens.specs.Tokens.{Tokens}
use Rattle.app_tokens.specs.Kind.{is_word}
use Rattle.app_tree.specs.declared.term.Operator.{Operator}
use Rattle.app_tree.specs.declared.term.Operator.TheVariants as operator
use Rattle.app_tree.specs.DraftTree.{DraftTree, binary}
use Rattle.app_tree.specs.Fits.{rank_of, hold_of, left_of, are_operands, operators, term_fits}
use Rattle.app_reader.specs.declared.operators.Rank.{Rank}
use Rattle.app_reader.specs.declared.operators.Rank.TheVariants as rank
use Rattle.rx_value.specs.Results.{◌>>=◌}
use Rattle.app_reader.specs.State.{Reads, is_word_next}
use Rattle.app_reader.specs.Words.{operator_of}
use Rattle.app_reader.specs.Terms.{unary_in, unary_operand, operation_at, choice_at, term_in, term_at, unary_at}
use Rattle.app_reader.specs.Spelling.{Wording, IsSpelledBy, a_symbol, operator_symbol, spell_term}
use Rattle.app_reader.proofs.Ranks.{code, no_operators}
use Rattle.app_reader.proofs.TermsSound.{Whole}
use Rattle.app_reader.proofs.Again.{To, by_other, may_begin, never}
use Rattle.app_reader.proofs.ChainsAgain.{Stops, stops_more, symbol_rank-is, Comes, Starts, starts_alone, comes_of, starts_more, once_more, reader, down}

abbrev pub Unary : ℕ → Reads DraftTree
Unary levels = unary_in (term_at levels) (unary_at levels)

abbrev pub Fit : ℕ → DraftTree → Type 0
Fit levels t = term_fits t levels ≡ true

-- the rank of an operator
abbrev the_rank : Operator → Rank
the_rank operator.Or = rank.Or
the_rank operator.And = rank.And
the_rank (operator.Strict bin.Add) = rank.Sum
the_rank (operator.Strict bin.Subtract) = rank.Sum
the_rank (operator.Strict bin.Multiply) = rank.Product
the_rank (operator.Strict bin.Divide) = rank.Product
the_rank (operator.Strict bin.Modulo) = rank.Product
the_rank (operator.Strict _) = rank.Comparison

code_is : (o : Operator) → code (the_rank o) ≡ rank_of o
code_is operator.Or = refl
code_is operator.And = refl
code_is (operator.Strict bin.Add) = refl
code_is (operator.Strict bin.Subtract) = refl
code_is (operator.Strict bin.Multiply) = refl
code_is (operator.Strict bin.Divide) = refl
code_is (operator.Strict bin.Modulo) = refl
code_is (operator.Strict _) = refl

taken : (o : Operator) → operator_of (the_rank o) (operator_symbol o) ≡ Some o
taken operator.Or = refl
taken operator.And = refl
taken (operator.Strict bin.Add) = refl
taken (operator.Strict bin.Subtract) = refl
taken (operator.Strict bin.Multiply) = refl
taken (operator.Strict bin.Divide) = refl
taken (operator.Strict bin.Modulo) = refl
taken (operator.Strict bin.Equal) = refl
taken (operator.Strict bin.NotEqual) = refl
taken (operator.Strict bin.Less) = refl
taken (operator.Strict bin.LessOrEqual) = refl
taken (operator.Strict bin.Greater) = refl
taken (operator.Strict bin.GreaterOrEqual) = refl

-- a rank whose operators make chains
abbrev IsChain : Rank → Type 0
IsChain r = left_of (code r) ≡ code r

chain_or : (r : Rank) → IsChain r ⊎ (r ≡ rank.Comparison)
chain_or rank.Product = inl refl
chain_or rank.Sum = inl refl
chain_or rank.Comparison = inr refl
chain_or rank.And = inl refl
chain_or rank.Or = inl refl

abbrev rank_at : ℕ → Rank
rank_at (suc (suc zero)) = rank.And
rank_at (suc (suc (suc zero))) = rank.Comparison
rank_at (suc (suc (suc (suc zero)))) = rank.Sum
rank_at (suc (suc (suc (suc (suc zero))))) = rank.Product
rank_at _ = rank.Or

rank_back : (r : Rank) → rank_at (code r) ≡ r
rank_back rank.Product = refl
rank_back rank.Sum = refl
rank_back rank.Comparison = refl
rank_back rank.And = refl
rank_back rank.Or = refl

same_rank : (q r : Rank) → code q ≡ code r → q ≡ r
same_rank q r e = sym (rank_back q) ∙ ap rank_at e ∙ rank_back r

pub code_some : (r : Rank) → 1 ≤ code r
code_some rank.Product = omega arith
code_some rank.Sum = omega arith
code_some rank.Comparison = omega arith
code_some rank.And = omega arith
code_some rank.Or = omega arith

code_few : (r : Rank) → code r ≤ 5
code_few rank.Product = omega arith
code_few rank.Sum = omega arith
code_few rank.Comparison = omega arith
code_few rank.And = omega arith
code_few rank.Or = omega arith

code_left : (r : Rank) → code r ≤ left_of (code r)
code_left rank.Product = omega arith
code_left rank.Sum = omega arith
code_left rank.Comparison = omega arith
code_left rank.And = omega arith
code_left rank.Or = omega arith

pub eq_of : (m n : ℕ) → nat_eq m n ≡ true → m ≡ n
eq_of m n e = grind arith

less_of : (m n : ℕ) → m ≤ n → nat_eq m n ≡ false → suc m ≤ n
less_of m n h e = grind arith

le_cases : (m n : ℕ) → m ≤ n → (m ≡ n) ⊎ (suc m ≤ n)
le_cases m n h = by (nat_eq m n) refl
  where
    by : (b : Bool) → nat_eq m n ≡ b → (m ≡ n) ⊎ (suc m ≤ n)
    by true e = inl (eq_of m n e)
    by false e = inr (less_of m n h e)

le_of : (m n : ℕ) → nat_le m n ≡ true → m ≤ n
le_of m n e = grind arith

lt_of : (m n : ℕ) → nat_lt m n ≡ true → suc m ≤ n
lt_of m n e = grind arith

above : (k : ℕ) → nat_le (suc k) k ≡ false
above k = grind arith

-- one operand as a chain
alone : (r : Rank) (p : Reads DraftTree) (t : DraftTree) (room left : ℕ) (s : Tokens) (after : Wording) → IsChain r → Comes (reader (suc (code r)) p) t room left s after
    → Starts r (reader (suc (code r)) p) (reader (code r) p) t room left s after
alone rank.Product p t room left s after is h = starts_alone rank.Product (reader 6 p) t room left s after h
alone rank.Sum p t room left s after is h = starts_alone rank.Sum (reader 5 p) t room left s after h
alone rank.Comparison p t room left s after is h = absurd (omega arith)
alone rank.And p t room left s after is h = starts_alone rank.And (reader 3 p) t room left s after h
alone rank.Or p t room left s after is h = starts_alone rank.Or (reader 2 p) t room left s after h

-- ---- how a term is read again, by where it stands

pub record Facts (t : DraftTree) : Type 0 where
  pub as_unary : (levels : ℕ) (s : Tokens) (after : Wording) → hold_of t ≡ 6 → Fit levels t → Stops 7 after → IsSpelledBy (spell_term t after) s.tokens → To s (Unary levels s) t after
  pub as_operand : (levels k room left : ℕ) (s : Tokens) (after : Wording) → Fit levels t → 1 ≤ k → k ≤ hold_of t → room ≡ left + operators t → Stops k after → IsSpelledBy (spell_term t after) s.tokens
      → Comes (reader k (Unary levels)) t room left s after
  pub as_left : (levels : ℕ) (r : Rank) (room left : ℕ) (s : Tokens) (after : Wording) → Fit levels t → IsChain r → code r ≤ hold_of t → room ≡ left + operators t → Stops (suc (code r)) after → IsSpelledBy (spell_term t after) s.tokens
      → Starts r (reader (suc (code r)) (Unary levels)) (reader (code r) (Unary levels)) t room left s after
  pub as_whole : (levels : ℕ) (s : Tokens) (after : Wording) → Whole levels t → Stops 1 after → IsSpelledBy (spell_term t after) s.tokens → To s (term_at levels s) t after
  pub not_if : (levels : ℕ) (rest : Wording) → Fit levels t → 1 ≤ hold_of t → may_begin (is_word word.If) (spell_term t rest) ≡ false

-- a term of operators as a whole one
whole_of : (t : DraftTree) (levels : ℕ) (s : Tokens) (after : Wording) → Whole levels t
    → ((m : ℕ) → Fit m t → may_begin (is_word word.If) (spell_term t after) ≡ false)
    → ((m room left : ℕ) → Fit m t → room ≡ left + operators t → Comes (reader 1 (Unary m)) t room left s after) → IsSpelledBy (spell_term t after) s.tokens → To s (term_at levels s) t after
unfolding term_at term_in operation_at
whole_of t zero s after fits no_if reads is = absurd cc
whole_of t (suc m) s after fits no_if reads is =
    let few : operators t ≤ 64 = le_of (operators t) 64 ((and_parts (nat_le (operators t) 64) (term_fits t m) fits).0) in
    let fit = (and_parts (nat_le (operators t) 64) (term_fits t m) fits).1 in
    let room : 64 ≡ 64 - operators t + operators t = omega (arith, few) in
    let c = reads m 64 (64 - operators t) fit room in
    by_other (is_word_next word.If s) (choice_at (term_at m)) (operation_at (unary_in (term_at m) (unary_at m))) s s (never (is_word word.If) (spell_term t after) s.tokens (no_if m fit) is)
    (record { rest = c.rest; gives = ap (λ x. x >>= λ t. Ok (t.0, t.1.1)) c.gives; spells = c.spells; shorter = c.shorter })

-- the facts of a term that holds together most closely
pub atom_facts : (t : DraftTree) → hold_of t ≡ 6 → ((rest : Wording) → may_begin (is_word word.If) (spell_term t rest) ≡ false)
    → ((levels : ℕ) (s : Tokens) (after : Wording) → Fit levels t → Stops 7 after → IsSpelledBy (spell_term t after) s.tokens → To s (Unary levels s) t after) → Facts t
atom_facts t six no_if reads = record {
  as_unary = λ levels s after holds fits stops is. reads levels s after fits stops is;
  as_operand = as_one;
  as_left = λ levels r room left s after fits chain holds e stops is.
      alone r (Unary levels) t room left s after chain (as_one levels (suc (code r)) room left s after fits (omega arith) (omega (arith, six, code_few r)) e stops is);
  as_whole = λ levels s after fits stops is. whole_of t levels s after fits (λ m fit. no_if after)
      (λ m room left fit e. as_one m 1 room left s after fit (omega arith) (omega (arith, six)) e stops is) is;
  not_if = λ levels rest fits some. no_if rest;
}
  where
    as_one : (levels k room left : ℕ) (s : Tokens) (after : Wording) → Fit levels t → 1 ≤ k → k ≤ hold_of t → room ≡ left + operators t → Stops k after → IsSpelledBy (spell_term t after) s.tokens → Comes (reader k (Unary levels)) t room left s after
    as_one levels k room left s after fits some holds e stops is =
        let few : k ≤ 6 = omega (arith, holds, six) in
        let h = reads levels s after fits (stops_more k 7 after (omega arith) stops) is in
        let same : room ≡ left = omega (arith, e, no_operators t six) in
        let own : Comes (unary_operand (Unary levels)) t room room s after = record { rest = h.rest; gives = ap (λ x. x >>= λ t. Ok (t.0, (room, t.1))) h.gives; spells = h.spells; shorter = h.shorter } in
        let all : 6 ≡ (6 - k) + k = omega (arith, few) in
        down (6 - k) k 6 (Unary levels) t room left s after all some (omega arith) (subst (λ n. Comes (unary_operand (Unary levels)) t room n s after) same own) stops

-- ---- operators

pub binary_facts : (o : Operator) (a b : DraftTree) → Facts a → Facts b → Facts (binary o a b)
binary_facts o a b fa fb = record {
  as_unary = λ levels s after holds fits stops is. absurd (omega (arith, holds, code_is o, code_few r));
  as_operand = as_one;
  as_left = left_one;
  as_whole = λ levels s after fits stops is. whole_of (binary o a b) levels s after fits (λ m fit. no_if m after fit)
      (λ m room left fit e. as_one m 1 room left s after fit (omega arith) (omega (arith, code_is o, code_some r)) e stops is) is;
  not_if = λ levels rest fits some. no_if levels rest fits;
}
  where
    r : Rank
    r = the_rank o

    fits_a : (levels : ℕ) → Fit levels (binary o a b) → Fit levels a
    fits_a levels f = (and_parts (are_operands o a b) (term_fits a levels) ((and_parts (are_operands o a b && term_fits a levels) (term_fits b levels) f).0)).1

    fits_b : (levels : ℕ) → Fit levels (binary o a b) → Fit levels b
    fits_b levels f = (and_parts (are_operands o a b && term_fits a levels) (term_fits b levels) f).1

    holds_both : (levels : ℕ) → Fit levels (binary o a b) → are_operands o a b ≡ true
    holds_both levels f = (and_parts (are_operands o a b) (term_fits a levels) ((and_parts (are_operands o a b && term_fits a levels) (term_fits b levels) f).0)).0

    holds_a : (levels : ℕ) → Fit levels (binary o a b) → left_of (rank_of o) ≤ hold_of a
    holds_a levels f = le_of (left_of (rank_of o)) (hold_of a) ((and_parts (nat_le (left_of (rank_of o)) (hold_of a)) (nat_lt (rank_of o) (hold_of b)) (holds_both levels f)).0)

    holds_b : (levels : ℕ) → Fit levels (binary o a b) → suc (rank_of o) ≤ hold_of b
    holds_b levels f = lt_of (rank_of o) (hold_of b) ((and_parts (nat_le (left_of (rank_of o)) (hold_of a)) (nat_lt (rank_of o) (hold_of b)) (holds_both levels f)).1)

    no_if : (levels : ℕ) (rest : Wording) → Fit levels (binary o a b) → may_begin (is_word word.If) (spell_term (binary o a b) rest) ≡ false
    no_if levels rest f = fa.not_if levels (a_symbol (operator_symbol o) (spell_term b rest)) (fits_a levels f) (omega (arith, holds_a levels f, ap left_of (code_is o), code_left r, code_some r))

    follows : (more : Wording) → Stops (suc (code r)) (a_symbol (operator_symbol o) more)
    follows more = ap (nat_le (suc (code r))) (symbol_rank-is o ∙ sym (code_is o)) ∙ above (code r)

    own_left : (levels room left : ℕ) (s : Tokens) (after : Wording) → Fit levels (binary o a b) → IsChain r → room ≡ left + operators (binary o a b) → Stops (suc (code r)) after → IsSpelledBy (spell_term (binary o a b) after) s.tokens
        → Starts r (reader (suc (code r)) (Unary levels)) (reader (code r) (Unary levels)) (binary o a b) room left s after
    own_left levels room left s after f chain e stops is =
        let la : code r ≤ hold_of a = omega (arith, chain, subst (λ k. left_of k ≤ hold_of a) (sym (code_is o)) (holds_a levels f)) in
        let lb : suc (code r) ≤ hold_of b = omega (arith, code_is o, holds_b levels f) in
        let all : room ≡ suc (left + operators b) + operators a = omega (arith, e) in
        starts_more r (reader (suc (code r)) (Unary levels)) (reader (code r) (Unary levels)) o a b room (left + operators b) left s (spell_term b after) after (taken o)
        (fa.as_left levels r room (suc (left + operators b)) s (a_symbol (operator_symbol o) (spell_term b after)) (fits_a levels f) chain la all (follows (spell_term b after)) is)
        (λ s h. fb.as_operand levels (suc (code r)) (left + operators b) left s after (fits_b levels f) (omega arith) lb refl stops h)

    own : (levels room left : ℕ) (s : Tokens) (after : Wording) → Fit levels (binary o a b) → room ≡ left + operators (binary o a b) → Stops (code r) after → IsSpelledBy (spell_term (binary o a b) after) s.tokens
        → Comes (reader (code r) (Unary levels)) (binary o a b) room left s after
    own levels room left s after f e stops is = by (chain_or r)
      where
        by : IsChain r ⊎ (r ≡ rank.Comparison) → Comes (reader (code r) (Unary levels)) (binary o a b) room left s after
        by (inl chain) = comes_of r (code r) (reader (suc (code r)) (Unary levels)) (reader (code r) (Unary levels)) (binary o a b) room left s after
            (own_left levels room left s after f chain e (stops_more (code r) (suc (code r)) after (omega arith) stops) is) (omega arith) stops
        by (inr compares) =
            let three : code r ≡ 3 = ap code compares in
            let ranks : rank_of o ≡ 3 = sym (code_is o) ∙ three in
            let la : 4 ≤ hold_of a = subst (λ k. left_of k ≤ hold_of a) ranks (holds_a levels f) in
            let lb : 4 ≤ hold_of b = omega (arith, ranks, holds_b levels f) in
            let all : room ≡ suc (left + operators b) + operators a = omega (arith, e) in
            let is_taken : operator_of rank.Comparison (operator_symbol o) ≡ Some o = ap (λ q. operator_of q (operator_symbol o)) (sym compares) ∙ taken o in
            let four : Stops 4 (a_symbol (operator_symbol o) (spell_term b after)) = subst (λ k. Stops (suc k) (a_symbol (operator_symbol o) (spell_term b after))) three (follows (spell_term b after)) in
            let stops_four : Stops 4 after = stops_more (code r) 4 after (omega (arith, three)) stops in
            subst (λ k. Comes (reader k (Unary levels)) (binary o a b) room left s after) (sym three)
            (once_more rank.Comparison (reader 4 (Unary levels)) o a b room (left + operators b) left s (spell_term b after) after is_taken
            (fa.as_operand levels 4 room (suc (left + operators b)) s (a_symbol (operator_symbol o) (spell_term b after)) (fits_a levels f) (omega arith) la all four is)
            (λ s h. fb.as_operand levels 4 (left + operators b) left s after (fits_b levels f) (omega arith) lb refl stops_four h))

    as_one : (levels k room left : ℕ) (s : Tokens) (after : Wording) → Fit levels (binary o a b) → 1 ≤ k → k ≤ hold_of (binary o a b) → room ≡ left + operators (binary o a b) → Stops k after → IsSpelledBy (spell_term (binary o a b) after) s.tokens
        → Comes (reader k (Unary levels)) (binary o a b) room left s after
    as_one levels k room left s after f some holds e stops is =
        let few : k ≤ code r = omega (arith, code_is o, holds) in
        let all : code r ≡ (code r - k) + k = omega (arith, few) in
        down (code r - k) k (code r) (Unary levels) (binary o a b) room left s after all some (omega (arith, code_few r))
        (own levels room left s after f e (stops_more k (code r) after few stops) is) stops

    left_one : (levels : ℕ) (q : Rank) (room left : ℕ) (s : Tokens) (after : Wording) → Fit levels (binary o a b) → IsChain q → code q ≤ hold_of (binary o a b) → room ≡ left + operators (binary o a b) → Stops (suc (code q)) after → IsSpelledBy (spell_term (binary o a b) after) s.tokens
        → Starts q (reader (suc (code q)) (Unary levels)) (reader (code q) (Unary levels)) (binary o a b) room left s after
    left_one levels q room left s after f chain holds e stops is = by (le_cases (code q) (rank_of o) holds)
      where
        by : (code q ≡ rank_of o) ⊎ (suc (code q) ≤ rank_of o) → Starts q (reader (suc (code q)) (Unary levels)) (reader (code q) (Unary levels)) (binary o a b) room left s after
        by (inl same) =
            let is_r : r ≡ q = sym (same_rank q r (same ∙ sym (code_is o))) in
            subst (λ q. IsChain q → Stops (suc (code q)) after → Starts q (reader (suc (code q)) (Unary levels)) (reader (code q) (Unary levels)) (binary o a b) room left s after) is_r
            (λ chain stops. own_left levels room left s after f chain e stops is) chain stops
        by (inr less) = alone q (Unary levels) (binary o a b) room left s after chain (as_one levels (suc (code q)) room left s after f (omega arith) less e stops is)
