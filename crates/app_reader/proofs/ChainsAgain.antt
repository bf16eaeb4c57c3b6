-- What is spelled with operators is read: chains, and how they hold together.
use Rattle.std.proofs.Common.{◌≡◌, ℕ, zero, suc, ◌+◌, ◌<◌, ◌≤◌, Bool, true, false, List, [], ◌∷◌, length, Ok, Option, Some, None, refl, sym, ap, subst, ◌∙◌, arith}
use Rattle.std.specs.Prelude.{nat_le}
use Rattle.rx_value.specs.declared.operator.BinOp.TheVariants as bin
use Rattle.app_tokens.specs.declared.token.Token.{Token}
use Rattle.app_tokens.specs.declared.token.Kind.{Kind}
use Rattle.app_tokens.specs.declared.token.Kind.TheVariants as kind
use Rattle.app_tokens.specs.declared.symbol.Symbol.{Symbol}
use Rattle.app_tokens.specs.declared.symbol.Symbol.TheVariants as symbol
use Rattle.app_tokens.specs.Tokens.{Tokens}
use Rattle.app_tokens.specs.Kind.{is_symbol}
use Rattle.app_tokens.proofs.KindTests.{is_symbol-is}
use Rattle.app_tree.specs.declared.term.Operator.{Operator}
use Rattle.app_tree.specs.declared.term.Operator.TheVariants as operator
use Rattle.app_tree.specs.DraftTree.{DraftTree, binary}
use Rattle.app_tree.specs.Fits.{rank_of}
use Rattle.app_reader.specs.declared.operators.Rank.{Rank}
use Rattle.app_reader.specs.declared.operators.Rank.TheVariants as rank
use Rattle.rx_value.specs.Results.{◌>>=◌, choose}
use Rattle.app_reader.specs.State.{Reads, choose_some, rest_of, skip, is_of_first, is_symbol_next, symbol_of, symbol_in, unexpected, turns_of}
use Rattle.app_reader.specs.Words.{operator_of}
use Rattle.app_reader.specs.Terms.{Counted, Operand, operator_in, next_operator, is_some, is_operator_next, operator_and_rest, operator_at, right_at, chain_at, once_at, unary_operand, product_at, sum_at, comparison_at, and_at, or_at}
use Rattle.app_reader.specs.Spelling.{of_kind, Wording, IsSpelledBy, a_symbol, operator_symbol}
use Rattle.app_reader.proofs.Ranks.{code, operator_of-is}
use Rattle.app_reader.proofs.Again.{may_begin, begins_less, never, symbol_is, tail_is, fewer_is, turn_on, turn_off}

-- ---- what may follow a term

-- the rank of the operator that a symbol is; an opening bracket would continue a name
abbrev pub symbol_rank : Symbol → ℕ
symbol_rank symbol.Open = 7
symbol_rank symbol.Star = 5
symbol_rank symbol.Quotient = 5
symbol_rank symbol.Remainder = 5
symbol_rank symbol.Plus = 4
symbol_rank symbol.Minus = 4
symbol_rank symbol.Equal = 3
symbol_rank symbol.NotEqual = 3
symbol_rank symbol.Less = 3
symbol_rank symbol.AtMost = 3
symbol_rank symbol.Greater = 3
symbol_rank symbol.AtLeast = 3
symbol_rank symbol.And = 2
symbol_rank symbol.Or = 1
symbol_rank _ = 0

-- it would continue a term that holds together so closely
abbrev pub continues : ℕ → Kind → Bool
continues k (kind.Symbol x) = nat_le k (symbol_rank x)
continues k kind.Name = false
continues k (kind.Word w) = false
continues k (kind.Number n) = false
continues k (kind.Text t) = false

abbrev pub Stops : ℕ → Wording → Type 0
Stops k after = may_begin (continues k) after ≡ false

order : (k l r : ℕ) → k ≤ l → nat_le l r ≡ true → nat_le k r ≡ true
order k l r h e = grind arith

continues_less : (k l : ℕ) → k ≤ l → (x : Kind) → continues l x ≡ true → continues k x ≡ true
continues_less k l h (kind.Symbol x) e = order k l (symbol_rank x) h e
continues_less k l h kind.Name e = absurd cc
continues_less k l h (kind.Word w) e = absurd cc
continues_less k l h (kind.Number n) e = absurd cc
continues_less k l h (kind.Text t) e = absurd cc

pub stops_more : (k l : ℕ) (after : Wording) → k ≤ l → Stops k after → Stops l after
stops_more k l after h stops = begins_less (continues k) (continues l) (continues_less k l h) after stops

at_most : (m n : ℕ) → m ≤ n → nat_le m n ≡ true
at_most m n h = grind arith

pub no_open : (k : ℕ) (after : Wording) (s : Tokens) → k ≤ 7 → Stops k after → IsSpelledBy after s.tokens → is_symbol_next symbol.Open s ≡ false
no_open k after s few stops h =
    never (is_symbol symbol.Open) after s.tokens
    (begins_less (continues k) (is_symbol symbol.Open) (λ x e. subst (λ y. continues k y ≡ true) (sym (is_symbol-is symbol.Open x e)) (at_most k 7 few)) after stops) h

-- an operator of this rank
abbrev operates : Rank → Kind → Bool
operates r x = is_some (operator_in r (symbol_of x))

pub symbol_rank-is : (o : Operator) → symbol_rank (operator_symbol o) ≡ rank_of o
symbol_rank-is operator.Or = refl
symbol_rank-is operator.And = refl
symbol_rank-is (operator.Strict bin.Add) = refl
symbol_rank-is (operator.Strict bin.Subtract) = refl
symbol_rank-is (operator.Strict bin.Multiply) = refl
symbol_rank-is (operator.Strict bin.Divide) = refl
symbol_rank-is (operator.Strict bin.Modulo) = refl
symbol_rank-is (operator.Strict bin.Equal) = refl
symbol_rank-is (operator.Strict bin.NotEqual) = refl
symbol_rank-is (operator.Strict bin.Less) = refl
symbol_rank-is (operator.Strict bin.LessOrEqual) = refl
symbol_rank-is (operator.Strict bin.Greater) = refl
symbol_rank-is (operator.Strict bin.GreaterOrEqual) = refl

symbol_continues : (r : Rank) (k : ℕ) → k ≤ code r → (x : Symbol) (o : Option Operator) → operator_of r x ≡ o → is_some o ≡ true → nat_le k (symbol_rank x) ≡ true
symbol_continues r k h x None is e = absurd cc
symbol_continues r k h x (Some o) is e =
    let w = operator_of-is r x o is in
    let ranks : symbol_rank x ≡ code r = ap symbol_rank (sym w.is_written) ∙ symbol_rank-is o ∙ w.ranks in
    subst (λ n. nat_le k n ≡ true) (sym ranks) (at_most k (code r) h)

operates_continues : (r : Rank) (k : ℕ) → k ≤ code r → (x : Kind) → operates r x ≡ true → continues k x ≡ true
operates_continues r k h (kind.Symbol x) e = symbol_continues r k h x (operator_of r x) refl e
operates_continues r k h kind.Name e = absurd cc
operates_continues r k h (kind.Word w) e = absurd cc
operates_continues r k h (kind.Number n) e = absurd cc
operates_continues r k h (kind.Text t) e = absurd cc

operates_first : (r : Rank) (ts : List Token) → is_some (operator_in r (symbol_in ts)) ≡ is_of_first (operates r) ts
operates_first r [] = refl
operates_first r (t ∷ ts) = refl

pub no_operator : (r : Rank) (k : ℕ) (after : Wording) (s : Tokens) → k ≤ code r → Stops k after → IsSpelledBy after s.tokens → is_operator_next r s ≡ false
no_operator r k after s h stops is = operates_first r s.tokens ∙ never (operates r) after s.tokens (begins_less (continues k) (operates r) (operates_continues r k h) after stops) is

-- ---- operands

-- the reader reads the tree, and leaves so many operators
pub record Comes (reader : Operand) (t : DraftTree) (room left : ℕ) (s : Tokens) (after : Wording) : Type 0 where
  pub rest : Tokens
  pub gives : reader (room, s) ≡ Ok (t, (left, rest))
  pub spells : IsSpelledBy after rest.tokens
  pub shorter : length rest.tokens ≤ length s.tokens

-- the chain's reader comes to the tree, with its loop still to go on
pub record Starts (r : Rank) (operand reader : Operand) (t : DraftTree) (room left : ℕ) (s : Tokens) (after : Wording) : Type 0 where
  pub rest : Tokens
  pub turns : ℕ
  pub enough : length rest.tokens < turns
  pub gives : reader (room, s) ≡ turns_of turns (λ (b : DraftTree × Counted). is_operator_next r b.1.1) (right_at r operand) (t, (left, rest))
  pub spells : IsSpelledBy after rest.tokens
  pub shorter : length rest.tokens ≤ length s.tokens

-- one operand is a chain
pub starts_alone : (r : Rank) (operand : Operand) (t : DraftTree) (room left : ℕ) (s : Tokens) (after : Wording) → Comes operand t room left s after → Starts r operand (chain_at r operand) t room left s after
unfolding chain_at
starts_alone r operand t room left s after h = record {
  rest = h.rest;
  turns = suc (length h.rest.tokens);
  enough = omega arith;
  gives = ap (λ x. x >>= λ first. turns_of (suc (length first.1.1.tokens)) (λ (b : DraftTree × Counted). is_operator_next r b.1.1) (right_at r operand) first) h.gives;
  spells = h.spells;
  shorter = h.shorter;
}

-- a chain ends where no operator of its rank follows
pub comes_of : (r : Rank) (k : ℕ) (operand reader : Operand) (t : DraftTree) (room left : ℕ) (s : Tokens) (after : Wording) → Starts r operand reader t room left s after → k ≤ code r → Stops k after → Comes reader t room left s after
comes_of r k operand reader t room left s after h few stops = record {
  rest = h.rest;
  gives = h.gives ∙ turn_off h.turns (λ (b : DraftTree × Counted). is_operator_next r b.1.1) (right_at r operand) (t, (left, h.rest)) (no_operator r k after h.rest few stops h.spells);
  spells = h.spells;
  shorter = h.shorter;
}

-- an operator that stands next, and its right operand
stands : (r : Rank) (o : Operator) (more : Wording) (s : Tokens) → operator_of r (operator_symbol o) ≡ Some o → IsSpelledBy (a_symbol (operator_symbol o) more) s.tokens → next_operator r s ≡ Some o
stands r o more s is h = ap (operator_in r) (symbol_is (of_kind (kind.Symbol (operator_symbol o))) more s.tokens h) ∙ is

right_again : (r : Rank) (operand : Operand) (o : Operator) (a b : DraftTree) (mid left : ℕ) (s : Tokens) (more after : Wording) → operator_of r (operator_symbol o) ≡ Some o
    → IsSpelledBy (a_symbol (operator_symbol o) more) s.tokens → (c : Comes operand b mid left (skip s) after) → right_at r operand (a, (suc mid, s)) ≡ Ok (binary o a b, (left, c.rest))
unfolding right_at operator_at
right_again r operand o a b mid left s more after is h c =
    ap (λ x. choose_some x (operator_and_rest (suc mid)) unexpected s >>= λ o. operand o.1 >>= λ right. Ok (binary o.0 a right.0, right.1)) (stands r o more s is h)
    ∙ ap (λ x. x >>= λ right. Ok (binary o a right.0, right.1)) c.gives

-- a chain and one operand more
pub starts_more : (r : Rank) (operand reader : Operand) (o : Operator) (a b : DraftTree) (room mid left : ℕ) (s : Tokens) (more after : Wording) → operator_of r (operator_symbol o) ≡ Some o
    → Starts r operand reader a room (suc mid) s (a_symbol (operator_symbol o) more) → ((s : Tokens) → IsSpelledBy more s.tokens → Comes operand b mid left s after) → Starts r operand reader (binary o a b) room left s after
starts_more r operand reader o a b room mid left s more after is h reads = go h.turns h.enough h.gives
  where
    go : (n : ℕ) → length h.rest.tokens < n → reader (room, s) ≡ turns_of n (λ (b : DraftTree × Counted). is_operator_next r b.1.1) (right_at r operand) (a, (suc mid, h.rest)) → Starts r operand reader (binary o a b) room left s after
    go zero enough gives = absurd (omega arith)
    go (suc n) enough gives =
        let w = of_kind (kind.Symbol (operator_symbol o)) in
        let c = reads (skip h.rest) (tail_is w more h.rest.tokens h.spells) in
        let fewer : suc (length (rest_of h.rest.tokens)) ≡ length h.rest.tokens = fewer_is w more h.rest.tokens h.spells in
        let enough_left : length c.rest.tokens < n = omega (arith, c.shorter, fewer, enough) in
        let short : length c.rest.tokens ≤ length s.tokens = omega (arith, c.shorter, fewer, h.shorter) in
        record {
          rest = c.rest;
          turns = n;
          enough = enough_left;
          gives = gives ∙ turn_on n (λ (b : DraftTree × Counted). is_operator_next r b.1.1) (right_at r operand) (a, (suc mid, h.rest)) (binary o a b, (left, c.rest))
              (ap (λ x. is_some x) (stands r o more h.rest is h.spells)) (right_again r operand o a b mid left h.rest more after is h.spells c);
          spells = c.spells;
          shorter = short;
        }

-- one operand is no comparison yet
pub once_alone : (r : Rank) (k : ℕ) (operand : Operand) (t : DraftTree) (room left : ℕ) (s : Tokens) (after : Wording) → Comes operand t room left s after → k ≤ code r → Stops k after → Comes (once_at r operand) t room left s after
unfolding once_at
once_alone r k operand t room left s after h few stops = record {
  rest = h.rest;
  gives = ap (λ x. x >>= λ first. choose (is_operator_next r first.1.1) (right_at r operand) (λ b. Ok b) first) h.gives
      ∙ ap (λ b. choose b (right_at r operand) (λ b. Ok b) (t, (left, h.rest))) (no_operator r k after h.rest few stops h.spells);
  spells = h.spells;
  shorter = h.shorter;
}

-- two operands are one
pub once_more : (r : Rank) (operand : Operand) (o : Operator) (a b : DraftTree) (room mid left : ℕ) (s : Tokens) (more after : Wording) → operator_of r (operator_symbol o) ≡ Some o
    → Comes operand a room (suc mid) s (a_symbol (operator_symbol o) more) → ((s : Tokens) → IsSpelledBy more s.tokens → Comes operand b mid left s after) → Comes (once_at r operand) (binary o a b) room left s after
unfolding once_at
once_more r operand o a b room mid left s more after is h reads =
    let w = of_kind (kind.Symbol (operator_symbol o)) in
    let c = reads (skip h.rest) (tail_is w more h.rest.tokens h.spells) in
    let fewer : suc (length (rest_of h.rest.tokens)) ≡ length h.rest.tokens = fewer_is w more h.rest.tokens h.spells in
    let short : length c.rest.tokens ≤ length s.tokens = omega (arith, c.shorter, fewer, h.shorter) in
    record {
      rest = c.rest;
      gives = ap (λ x. x >>= λ first. choose (is_operator_next r first.1.1) (right_at r operand) (λ b. Ok b) first) h.gives
          ∙ ap (λ x. choose (is_some x) (right_at r operand) (λ b. Ok b) (a, (suc mid, h.rest))) (stands r o more h.rest is h.spells)
          ∙ right_again r operand o a b mid left h.rest more after is h.spells c;
      spells = c.spells;
      shorter = short;
    }

-- ---- from one rank to the next

-- what reads operands that hold together so closely
abbrev pub reader : ℕ → Reads DraftTree → Operand
reader zero p = or_at p
reader (suc zero) p = or_at p
reader (suc (suc zero)) p = and_at p
reader (suc (suc (suc zero))) p = comparison_at p
reader (suc (suc (suc (suc zero)))) p = sum_at p
reader (suc (suc (suc (suc (suc zero))))) p = product_at p
reader (suc (suc (suc (suc (suc (suc n)))))) p = unary_operand p

lower : (k : ℕ) (p : Reads DraftTree) (t : DraftTree) (room left : ℕ) (s : Tokens) (after : Wording) → 1 ≤ k → k ≤ 5 → Comes (reader (suc k) p) t room left s after → Stops k after → Comes (reader k p) t room left s after
lower zero p t room left s after some few h stops = absurd (omega arith)
lower (suc zero) p t room left s after some few h stops = comes_of rank.Or 1 (and_at p) (or_at p) t room left s after (starts_alone rank.Or (and_at p) t room left s after h) (omega arith) stops
lower (suc (suc zero)) p t room left s after some few h stops = comes_of rank.And 2 (comparison_at p) (and_at p) t room left s after (starts_alone rank.And (comparison_at p) t room left s after h) (omega arith) stops
lower (suc (suc (suc zero))) p t room left s after some few h stops = once_alone rank.Comparison 3 (sum_at p) t room left s after h (omega arith) stops
lower (suc (suc (suc (suc zero)))) p t room left s after some few h stops = comes_of rank.Sum 4 (product_at p) (sum_at p) t room left s after (starts_alone rank.Sum (product_at p) t room left s after h) (omega arith) stops
lower (suc (suc (suc (suc (suc zero))))) p t room left s after some few h stops = comes_of rank.Product 5 (unary_operand p) (product_at p) t room left s after (starts_alone rank.Product (unary_operand p) t room left s after h) (omega arith) stops
lower (suc (suc (suc (suc (suc (suc n)))))) p t room left s after some few h stops = absurd (omega arith)

-- what holds together closely stands also where less is asked
pub down : (d k j : ℕ) (p : Reads DraftTree) (t : DraftTree) (room left : ℕ) (s : Tokens) (after : Wording) → j ≡ d + k → 1 ≤ k → j ≤ 6 → Comes (reader j p) t room left s after → Stops k after → Comes (reader k p) t room left s after
down zero k j p t room left s after is some few h stops = let same : j ≡ k = omega arith in subst (λ n. Comes (reader n p) t room left s after) same h
down (suc d) k j p t room left s after is some few h stops =
    let eq : j ≡ d + suc k = omega arith in
    let some_more : 1 ≤ suc k = omega arith in
    let few_more : k ≤ 5 = omega arith in
    lower k p t room left s after some few_more (down d (suc k) j p t room left s after eq some_more few h (stops_more k (suc k) after (omega arith) stops)) stops
