-- What is read as a constant, a priority, a budget, a write, a statement, a block or a body is spelled so, and fits.
use Rattle.std.proofs.Common.{◌≡◌, ℕ, zero, suc, pos, negsuc, neg_ℤ, ℤ, ◌≤◌, Bool, true, false, ◌&&◌, List, [], ◌∷◌, ◌++◌, length, Ok, Option, Some, None, refl, ap, subst, arith, length-append, inl, inr}
use Rattle.std.proofs.lemmas.Bool.{and_from, and_parts}
use Rattle.std.specs.Prelude.{nat_eq, nat_le, if◌then◌else◌}
use Rattle.std.specs.List.{list_all}
use Rattle.rx_value.specs.declared.value.Value.{Value}
use Rattle.rx_value.specs.declared.value.Value.TheVariants as v
use Rattle.app_tokens.specs.declared.token.Token.{Token}
use Rattle.app_tokens.specs.declared.word.Word.TheVariants as word
use Rattle.app_tokens.specs.declared.symbol.Symbol.TheVariants as symbol
use Rattle.app_tokens.specs.Tokens.{Tokens}
use Rattle.app_tree.specs.declared.draft_term.Name.{Name}
use Rattle.app_tree.specs.DraftTree.{DraftTree, DraftDeed, set, invoke, update, freeze, WrittenDeed, DraftAct, write, perform, branch, branch_else, DraftActs}
use Rattle.app_tree.specs.DraftView.{draft_trees, draft_acts}
use Rattle.app_tree.specs.Fits.{is_natural, is_number, are_numbers, constant_fits, deeper, whole_fits, deed_fits, write_fits, act_fits, acts_fit, body_fits, is_budget}
use Rattle.rx_value.specs.Results.{◌>>=◌, choose}
use Rattle.app_reader.specs.State.{Reads, place_of, skip, is_word_next, is_symbol_next, is_text_next, next_word, unexpected, symbol_at, name_at, number_at, text_at, turns_of}
use Rattle.app_reader.specs.Terms.{truth_value, truth_at, word_constant_at, whole_term_at, term_at, bracketed_at, optional_at}
use Rattle.app_reader.specs.Constants.{signed_at, behind_minus, further_number_at, numbers_at, optional_numbers_at, list_at, is_constant_word_next, constant_at, priority_at, limit_at, budget_at}
use Rattle.app_reader.specs.Statements.{assigned_at, set_at, update_at, sent_at, invoke_at, freeze_at, deed_at, write_at, is_write_next, is_statement_next, do_at, branch_at, statement_at, further_statement_at, statements_at, block_in, block_at, further_write_at, writes_at, body_at}
use Rattle.app_reader.specs.Spelling.{Wording, either, IsSpelledBy, a_word, a_word_at, a_symbol, a_number, spell_term, spell_number, spell_more_numbers, spell_numbers, spell_constant, written_priority, spell_priority, written_budget, spell_budget, deed_word, spell_assigned, spell_deed, spell_write, spell_writes, spell_condition, spell_act, spell_acts, spell_block, spell_body}
use Rattle.app_reader.proofs.Got.{bind_ok, ok_is, Got, SoundAt, IsSound, already, refused, seq1, seq2, seq3, seq4, weaker, respelled, bind_sound, choose_sound, choose_from, symbol_stands, word_stands, behind_symbol, behind_word, behind_word_there, stays, symbol_sound, number_sound, text_sound, name_sound, chosen, collected, pushed}
use Rattle.app_reader.proofs.TermsSound.{AllWhole, IsMany, many_push, spell_list, a_truth, truth_sound, bracketed_sound, optional_sound, term_sound, at_most}

-- ---- numbers

minus_fits : (n : ℕ) → is_natural n ≡ true → is_number (neg_ℤ (pos n)) ≡ true
minus_fits zero p = refl
minus_fits (suc n) p = p

plain_spells : (n : ℕ) (rest : Wording) (ts : List Token) → IsSpelledBy (a_number n rest) ts → IsSpelledBy (spell_number (pos n) rest) ts
plain_spells zero rest ts h = inl h
plain_spells (suc n) rest ts h = h

minus_spells : (n : ℕ) (rest : Wording) (ts : List Token) → IsSpelledBy (a_symbol symbol.Minus (a_number n rest)) ts → IsSpelledBy (spell_number (neg_ℤ (pos n)) rest) ts
minus_spells zero rest ts h = inr h
minus_spells (suc n) rest ts h = h

abbrev IsNumber : ℤ → Type 0
IsNumber z = is_number z ≡ true

pub signed_sound : IsSound spell_number IsNumber signed_at
unfolding signed_at
signed_sound s =
    choose_sound (is_symbol_next symbol.Minus s) (λ t. number_at (skip t) >>= λ n. Ok (neg_ℤ (pos n.0), n.1)) (λ t. number_at t >>= λ n. Ok (pos n.0, n.1)) s
    (λ e. seq1 s (number_at (skip s)) (λ n. neg_ℤ (pos n)) (behind_symbol symbol.Minus s (number_at (skip s)) (symbol_stands symbol.Minus s e) (number_sound (skip s)))
    (λ n p. minus_fits n p) (λ n rest p h. minus_spells n rest s.tokens h))
    (λ e. seq1 s (number_at s) (λ n. pos n) (number_sound s) (λ n p. p) (λ n rest p h. plain_spells n rest s.tokens h))

-- ---- lists of numbers

more_numbers_push : (zs : List ℤ) (z : ℤ) (rest : Wording) → spell_more_numbers zs (a_symbol symbol.Comma (spell_number z rest)) ≡ spell_more_numbers (zs ++ z ∷ []) rest
more_numbers_push [] z rest = refl
more_numbers_push (x ∷ zs) z rest = ap (λ w. a_symbol symbol.Comma (spell_number x w)) (more_numbers_push zs z rest)

numbers_push : (zs : List ℤ) (z : ℤ) (rest : Wording) → IsMany zs → spell_numbers zs (a_symbol symbol.Comma (spell_number z rest)) ≡ spell_numbers (zs ++ z ∷ []) rest
numbers_push [] z rest many = absurd many
numbers_push (x ∷ zs) z rest many = ap (spell_number x) (more_numbers_push zs z rest)

pub all_push : {A : Type 0} (test : A → Bool) (xs : List A) (x : A) → list_all test xs ≡ true → test x ≡ true → list_all test (xs ++ x ∷ []) ≡ true
all_push test [] x h p = and_from (test x) true p refl
all_push test (y ∷ xs) x h p = and_from (test y) (list_all test (xs ++ x ∷ [])) ((and_parts (test y) (list_all test xs) h).0) (all_push test xs x ((and_parts (test y) (list_all test xs) h).1) p)

-- some numbers, and not too many
record AreNumbers (zs : List ℤ) : Type 0 where
  many : IsMany zs
  few : length zs ≤ 1000
  each : list_all is_number zs ≡ true

not_same : (n k : ℕ) → n ≤ k → nat_eq n k ≡ false → suc n ≤ k
not_same n k h e = grind arith

numbers_more : (zs : List ℤ) (z : ℤ) → nat_eq (length zs) 1000 ≡ false → AreNumbers zs → IsNumber z → AreNumbers (zs ++ z ∷ [])
numbers_more zs z e p q =
    let few : length (zs ++ z ∷ []) ≤ 1000 = omega (arith, length-append zs (z ∷ []), not_same (length zs) 1000 p.few e) in
    record { many = many_push zs z; few = few; each = all_push is_number zs z p.each q }

further_number_sound : (s : Tokens) (b : List ℤ × Tokens) → is_symbol_next symbol.Comma b.1 ≡ true → Got spell_numbers AreNumbers s b → SoundAt spell_numbers AreNumbers s (further_number_at b)
unfolding further_number_at
further_number_sound s b stands g =
    choose_from (nat_eq (length b.0) 1000) (λ t. unexpected (behind_minus t)) (λ t. signed_at t >>= λ n. Ok (b.0 ++ n.0 ∷ [], n.1)) (skip b.1) s
    (λ e. refused s _)
    (λ e. pushed s b (signed_at (skip b.1)) g (behind_symbol symbol.Comma b.1 (signed_at (skip b.1)) (symbol_stands symbol.Comma b.1 stands) (signed_sound (skip b.1)))
    (λ z p q. numbers_more b.0 z e p q) (λ z rest p. numbers_push b.0 z rest p.many))

numbers_sound : IsSound spell_numbers AreNumbers numbers_at
unfolding numbers_at
numbers_sound s =
    bind_sound s (signed_at s) (λ first. turns_of (suc (length first.1.tokens)) (λ b. is_symbol_next symbol.Comma b.1) further_number_at (first.0 ∷ [], first.1)) (signed_sound s)
    (λ a g. collected s (λ b. is_symbol_next symbol.Comma b.1) further_number_at (suc (length a.1.tokens)) (a.0 ∷ [], a.1)
    (λ b holds got. further_number_sound s b holds got)
    (seq1 s (Ok a) (λ z. z ∷ []) (already s a g) (λ z p. record { many = tt; few = omega arith; each = and_from (is_number z) true p refl }) (λ z rest p h. h)))

numbers_fit : (zs : List ℤ) → AreNumbers zs → are_numbers zs ≡ true
numbers_fit zs p = and_from (nat_le (length zs) 1000) (list_all is_number zs) (at_most (length zs) 1000 p.few) p.each

optional_numbers_sound : IsSound spell_numbers (λ zs. are_numbers zs ≡ true) optional_numbers_at
unfolding optional_numbers_at
optional_numbers_sound s =
    choose_sound (is_symbol_next symbol.Close s) (λ t. Ok ([], t)) numbers_at s
    (λ e. stays s [] refl (λ rest h. h))
    (λ e. weaker s (numbers_at s) (numbers_sound s) (λ zs p. numbers_fit zs p))

abbrev IsConstant : Value → Type 0
IsConstant k = constant_fits k ≡ true

list_sound : (s : Tokens) → next_word s ≡ Some word.C → SoundAt spell_constant IsConstant s (list_at s)
unfolding list_at
list_sound s begins =
    seq3 s (symbol_at symbol.Open (skip s)) optional_numbers_at (symbol_at symbol.Close) (λ u zs c. v.Ints zs)
    (behind_word word.C s (symbol_at symbol.Open (skip s)) begins (symbol_sound symbol.Open (skip s))) optional_numbers_sound (symbol_sound symbol.Close)
    (λ u zs c p q r. q) (λ u zs c rest p q h. h)

truth_constant : (o : Option Bool) → IsConstant (truth_value o)
truth_constant None = refl
truth_constant (Some truth) = refl

truth_spells : (o : Option Bool) (rest : Wording) (ts : List Token) → IsSpelledBy (a_truth o rest) ts → IsSpelledBy (spell_constant (truth_value o) rest) ts
truth_spells None rest ts h = h
truth_spells (Some true) rest ts h = h
truth_spells (Some false) rest ts h = h

pub constant_sound : IsSound spell_constant IsConstant constant_at
unfolding constant_at word_constant_at
constant_sound s =
    choose_sound (is_text_next s) (λ t. text_at t >>= λ text. Ok (v.Text text.0, text.1))
    (choose (is_word_next word.C s) list_at (choose (is_constant_word_next s) word_constant_at (λ t. signed_at t >>= λ n. Ok (v.Int n.0, n.1)))) s
    (λ e. seq1 s (text_at s) (λ bytes. v.Text bytes) (text_sound s) (λ bytes p. p) (λ bytes rest p h. h))
    (λ e. choose_sound (is_word_next word.C s) list_at (choose (is_constant_word_next s) word_constant_at (λ t. signed_at t >>= λ n. Ok (v.Int n.0, n.1))) s
    (λ e. list_sound s (word_stands word.C s e))
    (λ e. choose_sound (is_constant_word_next s) word_constant_at (λ t. signed_at t >>= λ n. Ok (v.Int n.0, n.1)) s
    (λ e. seq1 s (truth_at s) (λ o. truth_value o) (truth_sound s) (λ o p. truth_constant o) (λ o rest p h. truth_spells o rest s.tokens h))
    (λ e. seq1 s (signed_at s) (λ z. v.Int z) (signed_sound s) (λ z p. p) (λ z rest p h. h))))

-- ---- priorities and the budget

priority_spells : (z : ℤ) (rest : Wording) (ts : List Token) → IsSpelledBy (written_priority z rest) ts → IsSpelledBy (spell_priority z rest) ts
priority_spells (pos zero) rest ts h = inr h
priority_spells (pos (suc n)) rest ts h = h
priority_spells (negsuc n) rest ts h = h

pub priority_sound : IsSound spell_priority IsNumber priority_at
unfolding priority_at
priority_sound s =
    choose_sound (is_word_next word.Priority s) (λ t. signed_at (skip t)) (λ t. Ok (pos 0, t)) s
    (λ e. respelled s (signed_at (skip s)) (behind_word word.Priority s (signed_at (skip s)) (word_stands word.Priority s e) (signed_sound (skip s)))
    (λ z rest p h. priority_spells z rest s.tokens h))
    (λ e. stays s (pos 0) refl (λ rest h. inl h))

abbrev IsBudget : ℕ → Type 0
IsBudget n = is_budget n ≡ true

limit_sound : IsSound a_number IsBudget limit_at
unfolding limit_at
limit_sound s =
    bind_sound s (number_at s) (λ n. choose (is_budget n.0) (λ t. Ok (n.0, n.1)) unexpected s) (number_sound s)
    (λ n g. choose_sound (is_budget n.0) (λ t. Ok (n.0, n.1)) unexpected s
    (λ e. already s n (record { spells = g.spells; holds = e; good = g.good; shorter = g.shorter }))
    (λ e. refused s _))

budget_spells : (b : Bool) (one other : Wording) (ts : List Token) → IsSpelledBy one ts → IsSpelledBy (if b then either one other else one) ts
budget_spells true one other ts h = inl h
budget_spells false one other ts h = h

pub budget_sound : IsSound spell_budget IsBudget budget_at
unfolding budget_at
budget_sound s =
    choose_sound (is_word_next word.Budget s) (λ t. limit_at (skip t) >>= λ n. symbol_at symbol.Semicolon n.1 >>= λ semicolon. Ok (n.0, semicolon.1)) (λ t. Ok (1000, t)) s
    (λ e. seq2 s (limit_at (skip s)) (symbol_at symbol.Semicolon) (λ n u. n) (behind_word word.Budget s (limit_at (skip s)) (word_stands word.Budget s e) (limit_sound (skip s))) (symbol_sound symbol.Semicolon)
    (λ n u p q. p) (λ n u rest p q h. budget_spells (nat_eq n 1000) (written_budget n rest) rest s.tokens h))
    (λ e. stays {A = ℕ} {S = spell_budget} {P = IsBudget} s 1000 refl (λ rest h. inr h))

-- ---- writes

abbrev pub IsTerm : DraftTree → Type 0
IsTerm t = whole_fits t ≡ true

pub whole_term_sound : IsSound spell_term IsTerm whole_term_at
whole_term_sound s = weaker s (term_at 64 s) (term_sound 64 s) (λ t p. p)

assigned_sound : IsSound (λ (a : Name × DraftTree) rest. spell_assigned a.0 a.1 rest) (λ a. IsTerm a.1) assigned_at
unfolding assigned_at
assigned_sound s =
    seq4 s (name_at s) (symbol_at symbol.Assign) whole_term_at (symbol_at symbol.Semicolon) (λ n u t c. (n, t)) (name_sound s) (symbol_sound symbol.Assign) whole_term_sound (symbol_sound symbol.Semicolon)
    (λ n u t c p q r o. r) (λ n u t c rest p h. h)

sent_sound : IsSound (λ ts rest. a_symbol symbol.Open (spell_list ts (a_symbol symbol.Close rest))) (AllWhole 64) sent_at
unfolding sent_at
sent_sound s =
    seq3 s (symbol_at symbol.Open s) (optional_at whole_term_at) (symbol_at symbol.Close) (λ u ts c. ts) (symbol_sound symbol.Open s) (optional_sound whole_term_at 64 (term_sound 64)) (symbol_sound symbol.Close)
    (λ u ts c p q r. q) (λ u ts c rest p q h. h)

-- a write that stands at this place
abbrev deed_there : ℕ → DraftDeed → Wording → Wording
deed_there place d rest = a_word_at (deed_word d) place (spell_deed d rest)

abbrev IsDeed : DraftDeed → Type 0
IsDeed d = deed_fits d ≡ true

set_sound : (s : Tokens) → next_word s ≡ Some word.Set → SoundAt (deed_there (place_of s)) IsDeed s (set_at s)
unfolding set_at
set_sound s begins = seq1 s (assigned_at (skip s)) (λ a. set a.0 a.1) (behind_word_there word.Set s (assigned_at (skip s)) begins (assigned_sound (skip s))) (λ a p. p) (λ a rest p h. h)

update_sound : (s : Tokens) → next_word s ≡ Some word.Update → SoundAt (deed_there (place_of s)) IsDeed s (update_at s)
unfolding update_at
update_sound s begins = seq1 s (assigned_at (skip s)) (λ a. update a.0 a.1) (behind_word_there word.Update s (assigned_at (skip s)) begins (assigned_sound (skip s))) (λ a p. p) (λ a rest p h. h)

invoke_sound : (s : Tokens) → next_word s ≡ Some word.Invoke → SoundAt (deed_there (place_of s)) IsDeed s (invoke_at s)
unfolding invoke_at
invoke_sound s begins =
    seq3 s (name_at (skip s)) sent_at (symbol_at symbol.Semicolon) (λ n ts c. invoke n (draft_trees ts)) (behind_word_there word.Invoke s (name_at (skip s)) begins (name_sound (skip s))) sent_sound (symbol_sound symbol.Semicolon)
    (λ n ts c p q r. q) (λ n ts c rest p q h. h)

freeze_sound : (s : Tokens) → next_word s ≡ Some word.Freeze → SoundAt (deed_there (place_of s)) IsDeed s (freeze_at s)
unfolding freeze_at
freeze_sound s begins =
    seq2 s (name_at (skip s)) (symbol_at symbol.Semicolon) (λ n c. freeze n) (behind_word_there word.Freeze s (name_at (skip s)) begins (name_sound (skip s))) (symbol_sound symbol.Semicolon)
    (λ n c p q. refl) (λ n c rest p q h. h)

deed_sound : (s : Tokens) → SoundAt (deed_there (place_of s)) IsDeed s (deed_at s)
unfolding deed_at
deed_sound s =
    choose_sound (is_word_next word.Set s) set_at (choose (is_word_next word.Invoke s) invoke_at (choose (is_word_next word.Update s) update_at (choose (is_word_next word.Freeze s) freeze_at unexpected))) s
    (λ e. set_sound s (word_stands word.Set s e))
    (λ e. choose_sound (is_word_next word.Invoke s) invoke_at (choose (is_word_next word.Update s) update_at (choose (is_word_next word.Freeze s) freeze_at unexpected)) s
    (λ e. invoke_sound s (word_stands word.Invoke s e))
    (λ e. choose_sound (is_word_next word.Update s) update_at (choose (is_word_next word.Freeze s) freeze_at unexpected) s
    (λ e. update_sound s (word_stands word.Update s e))
    (λ e. choose_sound (is_word_next word.Freeze s) freeze_at unexpected s
    (λ e. freeze_sound s (word_stands word.Freeze s e))
    (λ e. refused s _))))

abbrev IsWrite : WrittenDeed → Type 0
IsWrite w = write_fits w ≡ true

write_sound : IsSound spell_write IsWrite write_at
unfolding write_at
write_sound s = seq1 s (deed_at s) (λ d. record { place = place_of s; deed = d }) (deed_sound s) (λ d p. p) (λ d rest p h. h)

writes_push : (ws : List WrittenDeed) (w : WrittenDeed) (rest : Wording) → spell_writes ws (spell_write w rest) ≡ spell_writes (ws ++ w ∷ []) rest
writes_push [] w rest = refl
writes_push (x ∷ ws) w rest = ap (spell_write x) (writes_push ws w rest)

writes_sound : IsSound spell_writes (λ ws. list_all write_fits ws ≡ true) writes_at
unfolding writes_at further_write_at
writes_sound s =
    collected s (λ b. is_write_next b.1) further_write_at (suc (length s.tokens)) ([], s)
    (λ b holds got. pushed s b (write_at b.1) got (write_sound b.1) (λ w p q. all_push write_fits b.0 w p q) (λ w rest p. writes_push b.0 w rest))
    (stays s [] refl (λ rest h. h))

pub body_sound : IsSound spell_body (λ body. body_fits body ≡ true) body_at
unfolding body_at
body_sound s =
    seq4 s (symbol_at symbol.OpenBrace s) writes_at whole_term_at (symbol_at symbol.CloseBrace) (λ u ws t c. record { writes = ws; term = t })
    (symbol_sound symbol.OpenBrace s) writes_sound whole_term_sound (symbol_sound symbol.CloseBrace)
    (λ u ws t c p q r o. and_from (list_all write_fits ws) (whole_fits t) q r) (λ u ws t c rest p h. h)

-- ---- statements and blocks

abbrev pub spell_act_list : List DraftAct → Wording → Wording
spell_act_list xs rest = spell_acts (draft_acts xs) rest

abbrev pub spell_block_list : List DraftAct → Wording → Wording
spell_block_list xs rest = spell_block (draft_acts xs) rest

-- a block with so many levels from its own on
abbrev pub IsBlock : ℕ → List DraftAct → Type 0
IsBlock levels xs = deeper levels (λ below. acts_fit (draft_acts xs) below) ≡ true

abbrev IsAct : ℕ → DraftAct → Type 0
IsAct levels a = act_fits a levels ≡ true

do_sound : (levels : ℕ) (s : Tokens) → next_word s ≡ Some word.Do → SoundAt spell_act (IsAct levels) s (do_at s)
unfolding do_at
do_sound levels s begins =
    seq2 s (whole_term_at (skip s)) (symbol_at symbol.Semicolon) (λ t c. perform t) (behind_word word.Do s (whole_term_at (skip s)) begins (whole_term_sound (skip s))) (symbol_sound symbol.Semicolon)
    (λ t c p q. p) (λ t c rest p q h. h)

branch_sound : (block : Reads (List DraftAct)) (levels : ℕ) → IsSound spell_block_list (IsBlock levels) block → (s : Tokens) → next_word s ≡ Some word.If → SoundAt spell_act (IsAct levels) s (branch_at block s)
unfolding branch_at
branch_sound block levels h s begins =
    bind_sound s (bracketed_at whole_term_at (skip s))
    (λ condition. block condition.1 >>= λ first. choose (is_word_next word.Else first.1)
    (λ t. block (skip t) >>= λ other. Ok (branch_else condition.0 (draft_acts first.0) (draft_acts other.0), other.1))
    (λ t. Ok (branch condition.0 (draft_acts first.0), t)) first.1)
    (behind_word word.If s (bracketed_at whole_term_at (skip s)) begins (bracketed_sound whole_term_at IsTerm whole_term_sound (skip s)))
    (λ a g. record { so = λ good y e. ended a g y e })
  where
    IsCondition : DraftTree × Tokens → Type 0
    IsCondition a = Got spell_condition IsTerm s a

    ended : (a : DraftTree × Tokens) → Got spell_condition IsTerm s a → (y : DraftAct × Tokens) → (block a.1 >>= λ first. choose (is_word_next word.Else first.1)
        (λ t. block (skip t) >>= λ other. Ok (branch_else a.0 (draft_acts first.0) (draft_acts other.0), other.1))
        (λ t. Ok (branch a.0 (draft_acts first.0), t)) first.1) ≡ Ok y → Got spell_act (IsAct levels) s y
    ended a g y e =
        let b = bind_ok (block a.1) (λ first. choose (is_word_next word.Else first.1)
        (λ t. block (skip t) >>= λ other. Ok (branch_else a.0 (draft_acts first.0) (draft_acts other.0), other.1))
        (λ t. Ok (branch a.0 (draft_acts first.0), t)) first.1) y e in
        let f = (h a.1).so g.good b.0 b.1 in
        let first : DraftActs = draft_acts b.0.0 in
        chosen (is_word_next word.Else b.0.1) (λ t. block (skip t) >>= λ other. Ok (branch_else a.0 first (draft_acts other.0), other.1)) (λ t. Ok (branch a.0 first, t)) b.0.1 (Got spell_act (IsAct levels) s y) b.2
        (λ stands d.
        let o = bind_ok (block (skip b.0.1)) (λ other. Ok (branch_else a.0 first (draft_acts other.0), other.1)) y d in
        let k = (behind_word word.Else b.0.1 (block (skip b.0.1)) (word_stands word.Else b.0.1 stands) (h (skip b.0.1))).so f.good o.0 o.1 in
        let made : DraftAct × Tokens = (branch_else a.0 first (draft_acts o.0.0), o.0.1) in
        let fewer : length o.0.1.tokens ≤ length s.tokens = omega (arith, f.shorter, g.shorter, k.shorter) in
        subst (Got spell_act (IsAct levels) s) (ok_is made y o.2) (record {
          spells = λ rest left. g.spells (spell_block first (a_word word.Else (spell_block (draft_acts o.0.0) rest))) (f.spells (a_word word.Else (spell_block (draft_acts o.0.0) rest)) (k.spells rest left));
          holds = and_from (whole_fits a.0 && deeper levels (λ below. acts_fit first below)) (deeper levels (λ below. acts_fit (draft_acts o.0.0) below))
              (and_from (whole_fits a.0) (deeper levels (λ below. acts_fit first below)) g.holds f.holds) k.holds;
          good = k.good;
          shorter = fewer;
        }))
        (λ none d.
        let made : DraftAct × Tokens = (branch a.0 first, b.0.1) in
        let fewer : length b.0.1.tokens ≤ length s.tokens = omega (arith, f.shorter, g.shorter) in
        subst (Got spell_act (IsAct levels) s) (ok_is made y d) (record {
          spells = λ rest left. g.spells (spell_block first rest) (f.spells rest left);
          holds = and_from (whole_fits a.0) (deeper levels (λ below. acts_fit first below)) g.holds f.holds;
          good = f.good;
          shorter = fewer;
        }))

statement_sound : (block : Reads (List DraftAct)) (levels : ℕ) → IsSound spell_block_list (IsBlock levels) block → IsSound spell_act (IsAct levels) (statement_at block)
unfolding statement_at
statement_sound block levels h s =
    choose_sound (is_word_next word.Do s) do_at (choose (is_word_next word.If s) (branch_at block) (λ t. write_at t >>= λ w. Ok (write w.0, w.1))) s
    (λ e. do_sound levels s (word_stands word.Do s e))
    (λ e. choose_sound (is_word_next word.If s) (branch_at block) (λ t. write_at t >>= λ w. Ok (write w.0, w.1)) s
    (λ e. branch_sound block levels h s (word_stands word.If s e))
    (λ e. seq1 s (write_at s) (λ w. write w) (write_sound s) (λ w p. p) (λ w rest p held. held)))

acts_push : (xs : List DraftAct) (a : DraftAct) (rest : Wording) → spell_act_list xs (spell_act a rest) ≡ spell_act_list (xs ++ a ∷ []) rest
acts_push [] a rest = refl
acts_push (x ∷ xs) a rest = ap (spell_act x) (acts_push xs a rest)

acts_fit_push : (levels : ℕ) (xs : List DraftAct) (a : DraftAct) → acts_fit (draft_acts xs) levels ≡ true → IsAct levels a → acts_fit (draft_acts (xs ++ a ∷ [])) levels ≡ true
acts_fit_push levels [] a h p = and_from (act_fits a levels) true p refl
acts_fit_push levels (x ∷ xs) a h p =
    and_from (act_fits x levels) (acts_fit (draft_acts (xs ++ a ∷ [])) levels) ((and_parts (act_fits x levels) (acts_fit (draft_acts xs) levels) h).0)
    (acts_fit_push levels xs a ((and_parts (act_fits x levels) (acts_fit (draft_acts xs) levels) h).1) p)

statements_sound : (block : Reads (List DraftAct)) (levels : ℕ) → IsSound spell_block_list (IsBlock levels) block → IsSound spell_act_list (λ xs. acts_fit (draft_acts xs) levels ≡ true) (statements_at block)
unfolding statements_at further_statement_at
statements_sound block levels h s =
    collected s (λ b. is_statement_next b.1) (further_statement_at block) (suc (length s.tokens)) ([], s)
    (λ b holds got. pushed s b (statement_at block b.1) got (statement_sound block levels h b.1) (λ a p q. acts_fit_push levels b.0 a p q) (λ a rest p. acts_push b.0 a rest))
    (stays s [] refl (λ rest held. held))

block_in_sound : (block : Reads (List DraftAct)) (levels : ℕ) → IsSound spell_block_list (IsBlock levels) block → IsSound spell_block_list (IsBlock (suc levels)) (block_in block)
unfolding block_in
block_in_sound block levels h s =
    seq3 s (symbol_at symbol.OpenBrace s) (statements_at block) (symbol_at symbol.CloseBrace) (λ u xs c. xs) (symbol_sound symbol.OpenBrace s) (statements_sound block levels h) (symbol_sound symbol.CloseBrace)
    (λ u xs c p q r. q) (λ u xs c rest p q held. held)

pub block_sound : (levels : ℕ) → IsSound spell_block_list (IsBlock levels) (block_at levels)
unfolding block_at
block_sound zero s = refused s _
block_sound (suc levels) s = block_in_sound (block_at levels) levels (block_sound levels) s
