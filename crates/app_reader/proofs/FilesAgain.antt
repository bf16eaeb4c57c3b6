-- Items and whole files that fit are read again from their spelling.
use Rattle.std.proofs.Common.{◌≡◌, ℕ, suc, ℤ, ◌≤◌, Bool, true, false, ◌&&◌, List, [], ◌∷◌, length, Result, Ok, Err, refl, ap, subst, ◌∙◌, arith, inl}
use Rattle.std.proofs.lemmas.Bool.{and_parts}
use Rattle.std.specs.List.{list_all}
use Rattle.rx_value.specs.declared.value.Value.{Value}
use Rattle.app_tokens.specs.declared.token.Token.{Token}
use Rattle.app_tokens.specs.declared.token.Kind.{Kind}
use Rattle.app_tokens.specs.declared.token.Kind.TheVariants as kind
use Rattle.app_tokens.specs.declared.word.Word.{Word}
use Rattle.app_tokens.specs.declared.word.Word.TheVariants as word
use Rattle.app_tokens.specs.declared.symbol.Symbol.TheVariants as symbol
use Rattle.app_tokens.specs.Tokens.{Tokens}
use Rattle.app_tokens.specs.Kind.{word_code, is_word, is_symbol}
use Rattle.app_tree.specs.declared.item.Flags.{Flags}
use Rattle.app_tree.specs.declared.draft_term.Name.{Name}
use Rattle.app_tree.specs.DraftTree.{DraftTree, DraftTrees, no_trees, tree, DraftActs, WrittenBody, WrittenOutput, WrittenForm, input, value, task, reactive, event, text, plot, observe, on, WrittenItem}
use Rattle.app_tree.specs.DraftView.{draft_trees, draft_acts}
use Rattle.app_tree.specs.Fits.{name_fits, is_number, constant_fits, whole_fits, all_fit, block_fits, body_fits, output_fits, form_fits, item_fits, is_budget, fits}
use Rattle.app_reader.specs.declared.error.ReadError.{ReadError}
use Rattle.rx_value.specs.Results.{◌>>=◌, choose}
use Rattle.app_reader.specs.State.{choose_some, place_of, skip, is_name, is_word_next, is_symbol_next, is_name_next, is_more, is_some_in, unexpected, symbol_at, name_at, turns_of}
use Rattle.app_reader.specs.Terms.{whole_term_at, bracketed_at, listed_at}
use Rattle.app_reader.specs.Constants.{constant_at, priority_at}
use Rattle.app_reader.specs.Statements.{whole_block_at, body_at}
use Rattle.app_reader.specs.Items.{flag_at, flags_at, cache_at, keys_at, further_name_at, names_at, optional_names_at, parameters_at, start_at, input_form_at, value_form_at, task_form_at, reactive_form_at, event_form_at, output_at, text_form_at, plot_form_at, observe_form_at, on_form_at, begins_item, form_at, named_item_at, worded_item_at, item_at, further_item_at, items_at, read_at}
use Rattle.app_reader.specs.Spelling.{Wanted, of_kind, at_place, named, Wording, ends, next, either, IsSpelledBy, first_way, AreWanted, a_symbol, a_name, spell_term, spell_terms, spell_constant, spell_block, spell_body, spell_bracketed, spell_flag, spell_flags, spell_keys, spell_more_names, spell_names, spell_start, spell_output, form_word, spell_form, spell_item, spell_items, spelling}
use Rattle.app_reader.specs.Laws.{SpelledIsRead, CanonicalIsRead, DraftIsOne, RefusedIsNone}
use Rattle.app_reader.proofs.Again.{To, Again, then1, then2, then3, then4, by_first, by_other, first_is, word_is, tail_is, place_is, behind, may_begin, never, same_refl, symbol_again, name_again, all_of, Stepped, loop_again}
use Rattle.app_reader.proofs.ChainsAgain.{Stops}
use Rattle.app_reader.proofs.TermsAgain.{bracketed_again, list_of, trees_back, listed_again, terms_again}
use Rattle.app_reader.proofs.PartsAgain.{constant_again, Without, priority_again, budget_again, whole_again, body_again, act_list, acts_back, block_again, AgainBehind, step_of}

-- ---- flags, keys and names

flag_again : (w : Word) (given : Bool) (after : Wording) → Without w after → Again (flag_at w) (spell_flag w given after) given after
unfolding flag_at
flag_again w true after without s is =
    let k : Wanted = of_kind (kind.Word w) in
    by_first (is_word_next w s) (λ t. Ok (true, skip t)) (λ t. Ok (false, t)) s s (first_is (is_word w) k after s.tokens is ∙ same_refl (word_code w))
    (behind s (Ok (true, skip s)) k after is (record { rest = skip s; gives = refl; spells = tail_is k after s.tokens is; shorter = omega arith }))
flag_again w false after without s is =
    by_other (is_word_next w s) (λ t. Ok (true, skip t)) (λ t. Ok (false, t)) s s (never (is_word w) after s.tokens without is) (record { rest = s; gives = refl; spells = is; shorter = omega arith })

-- a flag doesn't hide what another test would find behind it
flag_without : (test : Kind → Bool) (w : Word) (given : Bool) (after : Wording) → test (kind.Word w) ≡ false → may_begin test after ≡ false → may_begin test (spell_flag w given after) ≡ false
flag_without test w true after none without = none
flag_without test w false after none without = without

flags_again : (flags : Flags) (after : Wording) → Without word.IgnoreInit after → Without word.AllowNull after → Again flags_at (spell_flags flags after) flags after
unfolding flags_at
flags_again flags after one two s is =
    let make : Bool → Bool → Flags = λ init null. record { ignore_init = init; allow_null = null } in
    then2 s (flag_at word.IgnoreInit s) (flag_at word.AllowNull) make
    (flag_again word.IgnoreInit flags.ignore_init (spell_flag word.AllowNull flags.allow_null after) (flag_without (is_word word.IgnoreInit) word.AllowNull flags.allow_null after refl one) s is)
    (flag_again word.AllowNull flags.allow_null after two)

cache_again : (t : DraftTree) (ts : DraftTrees) (after : Wording) → all_fit (tree t ts) ≡ true → Again cache_at (spell_keys (tree t ts) after) (t ∷ list_of ts) after
unfolding cache_at
cache_again t ts after fits s is =
    let w : Wanted = of_kind (kind.Word word.Cache) in
    let m1 : Wording = spell_terms (tree t ts) (a_symbol symbol.Close after) in
    let mid : Wording = a_symbol symbol.Open m1 in
    let all = terms_again 64 (tree t ts) fits in
    behind s (symbol_at symbol.Open (skip s) >>= λ opening. listed_at whole_term_at opening.1 >>= λ all. symbol_at symbol.Close all.1 >>= λ close. Ok (all.0, close.1)) w mid is
    (then3 (skip s) (symbol_at symbol.Open (skip s)) (listed_at whole_term_at) (symbol_at symbol.Close) (λ u ts c. ts) (symbol_again symbol.Open m1 (skip s) (tail_is w mid s.tokens is))
    (listed_again whole_term_at t ts after all.0 all.1) (symbol_again symbol.Close after))

keys_again : (ts : DraftTrees) (after : Wording) → all_fit ts ≡ true → Without word.Cache after → Again keys_at (spell_keys ts after) (list_of ts) after
unfolding keys_at
keys_again no_trees after fits without s is =
    by_other (is_word_next word.Cache s) cache_at (λ t. Ok ([], t)) s s (never (is_word word.Cache) after s.tokens without is) (record { rest = s; gives = refl; spells = is; shorter = omega arith })
keys_again (tree t ts) after fits without s is =
    by_first (is_word_next word.Cache s) cache_at (λ t. Ok ([], t)) s s (first_is (is_word word.Cache) (of_kind (kind.Word word.Cache)) (a_symbol symbol.Open (spell_terms (tree t ts) (a_symbol symbol.Close after))) s.tokens is)
    (cache_again t ts after fits s is)

keys_without : (test : Kind → Bool) (ts : DraftTrees) (after : Wording) → test (kind.Word word.Cache) ≡ false → may_begin test after ≡ false → may_begin test (spell_keys ts after) ≡ false
keys_without test no_trees after none without = without
keys_without test (tree t ts) after none without = none

-- "," NAME
abbrev one_name : Name → Wording → Wording
one_name n rest = a_symbol symbol.Comma (a_name n rest)

more_names_of : (ns : List Name) (rest : Wording) → spell_more_names ns rest ≡ all_of one_name ns rest
more_names_of [] rest = refl
more_names_of (n ∷ ns) rest = ap (one_name n) (more_names_of ns rest)

abbrev AnyLeft : List Name → List Name → Type 0
AnyLeft done es = Unit {0}

name_step : (done : List Name) (n : Name) (mid : Wording) (s : Tokens) → IsSpelledBy (one_name n mid) s.tokens → Stepped (λ b. is_symbol_next symbol.Comma b.1) further_name_at done n s mid
unfolding further_name_at
name_step done n mid s is =
    let w : Wanted = of_kind (kind.Symbol symbol.Comma) in
    step_of (λ b. is_symbol_next symbol.Comma b.1) further_name_at done n mid s w (a_name n mid) (name_at (skip s)) is
    (first_is (is_symbol symbol.Comma) w (a_name n mid) s.tokens is) refl (name_again n mid (skip s) (tail_is w (a_name n mid) s.tokens is))

names_again : (n : Name) (ns : List Name) (after : Wording) → Again names_at (spell_names (n ∷ ns) (a_symbol symbol.Close after)) (n ∷ ns) (a_symbol symbol.Close after)
unfolding names_at
names_again n ns after s is =
    let close : Wording = a_symbol symbol.Close after in
    let c = name_again n (all_of one_name ns close) s (subst (λ w. IsSpelledBy (a_name n w) s.tokens) (more_names_of ns close) is) in
    let d = loop_again AnyLeft one_name close (λ b. is_symbol_next symbol.Comma b.1) further_name_at
    (λ done e es s left is. (name_step done e (all_of one_name es close) s is, tt))
    (λ done s left is. first_is (is_symbol symbol.Comma) (of_kind (kind.Symbol symbol.Close)) after s.tokens is)
    (suc (length c.rest.tokens)) (n ∷ []) ns c.rest (omega arith) tt c.spells in
    let fewer : length d.rest.tokens ≤ length s.tokens = omega (arith, c.shorter, d.shorter) in
    record {
      rest = d.rest;
      gives = ap (λ x. x >>= λ first. turns_of (suc (length first.1.tokens)) (λ b. is_symbol_next symbol.Comma b.1) further_name_at (first.0 ∷ [], first.1)) c.gives ∙ d.gives;
      spells = d.spells;
      shorter = fewer;
    }

optional_names_again : (ns : List Name) (after : Wording) → Again optional_names_at (spell_names ns (a_symbol symbol.Close after)) ns (a_symbol symbol.Close after)
unfolding optional_names_at
optional_names_again [] after s is =
    by_other (is_name_next s) names_at (λ t. Ok ([], t)) s s (first_is is_name (of_kind (kind.Symbol symbol.Close)) after s.tokens is) (record { rest = s; gives = refl; spells = is; shorter = omega arith })
optional_names_again (n ∷ ns) after s is =
    by_first (is_name_next s) names_at (λ t. Ok ([], t)) s s (first_is is_name (named n) (spell_more_names ns (a_symbol symbol.Close after)) s.tokens is) (names_again n ns after s is)

parameters_again : (ns : List Name) (after : Wording) → Again parameters_at (a_symbol symbol.Open (spell_names ns (a_symbol symbol.Close after))) ns after
unfolding parameters_at
parameters_again ns after s is =
    then3 s (symbol_at symbol.Open s) optional_names_at (symbol_at symbol.Close) (λ u ns c. ns) (symbol_again symbol.Open (spell_names ns (a_symbol symbol.Close after)) s is) (optional_names_again ns after) (symbol_again symbol.Close after)

-- ---- items, behind their names

start_again : (k : Value) (after : Wording) → constant_fits k ≡ true → Again start_at (spell_start k after) k after
unfolding start_at
start_again k after fits s is =
    then3 s (symbol_at symbol.Assign s) constant_at (symbol_at symbol.Semicolon) (λ u k c. k) (symbol_again symbol.Assign (spell_constant k (a_symbol symbol.Semicolon after)) s is)
    (constant_again k (a_symbol symbol.Semicolon after) fits) (symbol_again symbol.Semicolon after)

input_again : (k : Value) (after : Wording) → constant_fits k ≡ true → Again input_form_at (spell_start k after) (input k) after
unfolding input_form_at
input_again k after fits s is = then1 s (start_at s) (λ k. input k) (start_again k after fits s is)

value_again : (k : Value) (after : Wording) → constant_fits k ≡ true → Again value_form_at (spell_start k after) (value k) after
unfolding value_form_at
value_again k after fits s is = then1 s (start_at s) (λ k. value k) (start_again k after fits s is)

whole_read : (t : DraftTree) (after : Wording) → whole_fits t ≡ true → Stops 1 after → Again whole_term_at (spell_term t after) t after
whole_read t after fits stops s is = whole_again t fits s after stops is

whole_bracketed : (t : DraftTree) (after : Wording) → whole_fits t ≡ true → Again (bracketed_at whole_term_at) (spell_bracketed t after) t after
whole_bracketed t after fits s is = bracketed_again whole_term_at t after (whole_again t fits) s is

task_again : (ns : List Name) (t : DraftTree) (after : Wording) → form_fits (task ns t) ≡ true → Again task_form_at (spell_form (task ns t) after) (task ns t) after
unfolding task_form_at
task_again ns t after fits s is =
    let m1 : Wording = spell_term t (a_symbol symbol.CloseBrace after) in
    then4 s (parameters_at s) (symbol_at symbol.OpenBrace) whole_term_at (symbol_at symbol.CloseBrace) (λ ns u t c. task ns t) (parameters_again ns (a_symbol symbol.OpenBrace m1) s is) (symbol_again symbol.OpenBrace m1)
    (whole_read t (a_symbol symbol.CloseBrace after) ((and_parts (list_all name_fits ns) (whole_fits t) fits).1) refl) (symbol_again symbol.CloseBrace after)

reactive_again : (ts : DraftTrees) (body : WrittenBody) (after : Wording) → form_fits (reactive ts body) ≡ true → Again reactive_form_at (spell_form (reactive ts body) after) (reactive ts body) after
unfolding reactive_form_at
reactive_again ts body after fits s is =
    subst (λ us. To s (keys_at s >>= λ keys. body_at keys.1 >>= λ body. Ok (reactive (draft_trees keys.0) body.0, body.1)) (reactive us body) after) (trees_back ts)
    (then2 s (keys_at s) body_at (λ ts body. reactive (draft_trees ts) body) (keys_again ts (spell_body body after) ((and_parts (all_fit ts) (body_fits body) fits).0) refl s is)
    (body_again body after ((and_parts (all_fit ts) (body_fits body) fits).1)))

event_again : (flags : Flags) (t : DraftTree) (body : WrittenBody) (after : Wording) → form_fits (event flags t body) ≡ true → Again event_form_at (spell_form (event flags t body) after) (event flags t body) after
unfolding event_form_at
event_again flags t body after fits s is =
    then3 s (flags_at s) (bracketed_at whole_term_at) body_at (λ flags t body. event flags t body) (flags_again flags (spell_bracketed t (spell_body body after)) refl refl s is)
    (whole_bracketed t (spell_body body after) ((and_parts (whole_fits t) (body_fits body) fits).0)) (body_again body after ((and_parts (whole_fits t) (body_fits body) fits).1))

output_again : (o : WrittenOutput) (after : Wording) → output_fits o ≡ true → Again output_at (spell_output o after) o after
unfolding output_at
output_again o after fits s is =
    let m2 : Wording = spell_body o.body after in
    let m1 : Wording = spell_keys o.keys m2 in
    let m0 : Wording = spell_flag word.WhileHidden o.while_hidden m1 in
    let both_fit = (and_parts (is_number o.priority && all_fit o.keys) (body_fits o.body) fits).0 in
    let make : ℤ → Bool → List DraftTree → WrittenBody → WrittenOutput = λ z hidden ts body. record { priority = z; while_hidden = hidden; keys = draft_trees ts; body = body } in
    let with_keys : DraftTrees → WrittenOutput = λ ts. record { priority = o.priority; while_hidden = o.while_hidden; keys = ts; body = o.body } in
    subst (λ us. To {A = WrittenOutput} s (priority_at s >>= λ priority. flag_at word.WhileHidden priority.1 >>= λ hidden. keys_at hidden.1 >>= λ keys. body_at keys.1 >>= λ body. Ok (make priority.0 hidden.0 keys.0 body.0, body.1)) (with_keys us) after) (trees_back o.keys)
    (then4 s (priority_at s) (flag_at word.WhileHidden) keys_at body_at make
    (priority_again o.priority m0 (flag_without (is_word word.Priority) word.WhileHidden o.while_hidden m1 refl (keys_without (is_word word.Priority) o.keys m2 refl refl)) s is)
    (flag_again word.WhileHidden o.while_hidden m1 (keys_without (is_word word.WhileHidden) o.keys m2 refl refl))
    (keys_again o.keys m2 ((and_parts (is_number o.priority) (all_fit o.keys) both_fit).1) refl)
    (body_again o.body after ((and_parts (is_number o.priority && all_fit o.keys) (body_fits o.body) fits).1)))

text_again : (o : WrittenOutput) (after : Wording) → output_fits o ≡ true → Again text_form_at (spell_output o after) (text o) after
unfolding text_form_at
text_again o after fits s is = then1 s (output_at s) (λ o. text o) (output_again o after fits s is)

plot_again : (o : WrittenOutput) (after : Wording) → output_fits o ≡ true → Again plot_form_at (spell_output o after) (plot o) after
unfolding plot_form_at
plot_again o after fits s is = then1 s (output_at s) (λ o. plot o) (output_again o after fits s is)

whole_block_again : (xs : DraftActs) (after : Wording) → block_fits xs ≡ true → Again whole_block_at (spell_block xs after) (act_list xs) after
whole_block_again xs after fits s is = block_again xs fits s after is

observe_again : (z : ℤ) (xs : DraftActs) (after : Wording) → form_fits (observe z xs) ≡ true → Again observe_form_at (spell_form (observe z xs) after) (observe z xs) after
unfolding observe_form_at
observe_again z xs after fits s is =
    subst (λ us. To s (priority_at s >>= λ priority. whole_block_at priority.1 >>= λ block. Ok (observe priority.0 (draft_acts block.0), block.1)) (observe z us) after) (acts_back xs)
    (then2 s (priority_at s) whole_block_at (λ z xs. observe z (draft_acts xs)) (priority_again z (spell_block xs after) refl s is) (whole_block_again xs after ((and_parts (is_number z) (block_fits xs) fits).1)))

flags_without : (test : Kind → Bool) (flags : Flags) (after : Wording) → test (kind.Word word.IgnoreInit) ≡ false → test (kind.Word word.AllowNull) ≡ false → may_begin test after ≡ false → may_begin test (spell_flags flags after) ≡ false
flags_without test flags after one two without =
    flag_without test word.IgnoreInit flags.ignore_init (spell_flag word.AllowNull flags.allow_null after) one (flag_without test word.AllowNull flags.allow_null after two without)

on_again : (z : ℤ) (flags : Flags) (t : DraftTree) (xs : DraftActs) (after : Wording) → form_fits (on z flags t xs) ≡ true → Again on_form_at (spell_form (on z flags t xs) after) (on z flags t xs) after
unfolding on_form_at
on_again z flags t xs after fits s is =
    let m1 : Wording = spell_bracketed t (spell_block xs after) in
    let m0 : Wording = spell_flags flags m1 in
    let both_fit = (and_parts (is_number z && whole_fits t) (block_fits xs) fits).0 in
    subst (λ us. To s (priority_at s >>= λ priority. flags_at priority.1 >>= λ flags. bracketed_at whole_term_at flags.1 >>= λ e. whole_block_at e.1 >>= λ block. Ok (on priority.0 flags.0 e.0 (draft_acts block.0), block.1)) (on z flags t us) after) (acts_back xs)
    (then4 s (priority_at s) flags_at (bracketed_at whole_term_at) whole_block_at (λ z flags t xs. on z flags t (draft_acts xs))
    (priority_again z m0 (flags_without (is_word word.Priority) flags m1 refl refl refl) s is) (flags_again flags m1 refl refl)
    (whole_bracketed t (spell_block xs after) ((and_parts (is_number z) (whole_fits t) both_fit).1)) (whole_block_again xs after ((and_parts (is_number z && whole_fits t) (block_fits xs) fits).1)))

form_again : (f : WrittenForm) (after : Wording) → form_fits f ≡ true → Again (form_at (form_word f)) (spell_form f after) f after
form_again (input k) after fits s is = input_again k after fits s is
form_again (value k) after fits s is = value_again k after fits s is
form_again (task ns t) after fits s is = task_again ns t after fits s is
form_again (reactive ts body) after fits s is = reactive_again ts body after fits s is
form_again (event flags t body) after fits s is = event_again flags t body after fits s is
form_again (text o) after fits s is = text_again o after fits s is
form_again (plot o) after fits s is = plot_again o after fits s is
form_again (observe z xs) after fits s is = observe_again z xs after fits s is
form_again (on z flags t xs) after fits s is = on_again z flags t xs after fits s is

-- ---- whole items

form_begins : (f : WrittenForm) → begins_item (form_word f) ≡ true
form_begins (input k) = refl
form_begins (value k) = refl
form_begins (task ns t) = refl
form_begins (reactive ts body) = refl
form_begins (event flags t body) = refl
form_begins (text o) = refl
form_begins (plot o) = refl
form_begins (observe z xs) = refl
form_begins (on z flags t xs) = refl

form_no_budget : (f : WrittenForm) → is_word word.Budget (kind.Word (form_word f)) ≡ false
form_no_budget (input k) = refl
form_no_budget (value k) = refl
form_no_budget (task ns t) = refl
form_no_budget (reactive ts body) = refl
form_no_budget (event flags t body) = refl
form_no_budget (text o) = refl
form_no_budget (plot o) = refl
form_no_budget (observe z xs) = refl
form_no_budget (on z flags t xs) = refl

named_item_again : (i : WrittenItem) (after : Wording) → item_fits i ≡ true → AgainBehind (named_item_at (form_word i.form)) (spell_item i after) i after
unfolding named_item_at
named_item_again i after fits s is =
    let w : Word = form_word i.form in
    let mid : Wording = a_name i.name (spell_form i.form after) in
    let at : ℕ → WrittenItem = λ p. record { place = p; name = i.name; form = i.form } in
    let make : Name → WrittenForm → WrittenItem = λ n f. record { place = place_of s; name = n; form = f } in
    subst (λ p. To {A = WrittenItem} (skip s) (name_at (skip s) >>= λ n. form_at w n.1 >>= λ form. Ok (record { place = place_of s; name = n.0; form = form.0 }, form.1)) (at p) after) (place_is (kind.Word w) i.place mid s is)
    (then2 (skip s) (name_at (skip s)) (form_at w) make (name_again i.name (spell_form i.form after) (skip s) (tail_is (at_place (kind.Word w) i.place) mid s.tokens is)) (form_again i.form after fits))

item_again : (i : WrittenItem) (after : Wording) → item_fits i ≡ true → AgainBehind item_at (spell_item i after) i after
unfolding item_at worded_item_at
item_again i after fits s is =
    let w : Word = form_word i.form in
    let mid : Wording = a_name i.name (spell_form i.form after) in
    let h = named_item_again i after fits s is in
    record {
      rest = h.rest;
      gives = ap (λ o. choose_some o worded_item_at unexpected s) (word_is (at_place (kind.Word w) i.place) mid s.tokens is) ∙ ap (λ b. choose b (named_item_at w) unexpected s) (form_begins i.form) ∙ h.gives;
      spells = h.spells;
      shorter = h.shorter;
    }

items_of : (xs : List WrittenItem) (rest : Wording) → spell_items xs rest ≡ all_of spell_item xs rest
items_of [] rest = refl
items_of (i ∷ xs) rest = ap (spell_item i) (items_of xs rest)

is_some_more : (w : Wanted) (mid : Wording) (ts : List Token) → IsSpelledBy (next w mid) ts → is_some_in ts ≡ true
is_some_more w mid [] h = absurd h
is_some_more w mid (t ∷ ts) h = refl

is_none_more : (ts : List Token) → IsSpelledBy ends ts → is_some_in ts ≡ false
is_none_more [] h = refl
is_none_more (t ∷ ts) h = absurd h

abbrev ItemsLeft : List WrittenItem → List WrittenItem → Type 0
ItemsLeft done es = list_all item_fits es ≡ true

item_step : (done : List WrittenItem) (i : WrittenItem) (after : Wording) (s : Tokens) → item_fits i ≡ true → IsSpelledBy (spell_item i after) s.tokens → Stepped (λ b. is_more b.1) further_item_at done i s after
unfolding further_item_at
item_step done i after s fits is =
    let w : Wanted = at_place (kind.Word (form_word i.form)) i.place in
    let mid : Wording = a_name i.name (spell_form i.form after) in
    step_of (λ b. is_more b.1) further_item_at done i after s w mid (item_at s) is (is_some_more w mid s.tokens is) refl (item_again i after fits s is)

items_again : (xs : List WrittenItem) → list_all item_fits xs ≡ true → Again items_at (spell_items xs ends) xs ends
unfolding items_at
items_again xs fits s is =
    loop_again ItemsLeft spell_item ends (λ b. is_more b.1) further_item_at
    (λ done e es s left is. (item_step done e (all_of spell_item es ends) s ((and_parts (item_fits e) (list_all item_fits es) left).0) is, (and_parts (item_fits e) (list_all item_fits es) left).1))
    (λ done s left is. is_none_more s.tokens is)
    (suc (length s.tokens)) [] xs s (omega arith) fits (subst (λ w. IsSpelledBy w s.tokens) (items_of xs ends) is)

items_no_budget : (xs : List WrittenItem) → Without word.Budget (spell_items xs ends)
items_no_budget [] = refl
items_no_budget (i ∷ xs) = form_no_budget i.form

pub spelled_is_read : SpelledIsRead
unfolding read_at
spelled_is_read s draft fits is =
    let b = budget_again draft.budget (spell_items draft.items ends) ((and_parts (is_budget draft.budget) (list_all item_fits draft.items) fits).0) (items_no_budget draft.items) s is in
    let i = items_again draft.items ((and_parts (is_budget draft.budget) (list_all item_fits draft.items) fits).1) b.rest b.spells in
    ap (λ x. x >>= λ budget. items_at budget.1 >>= λ items. Ok (record { budget = budget.0; items = items.0 })) b.gives
    ∙ ap (λ x. x >>= λ items. Ok (record { budget = draft.budget; items = items.0 })) i.gives

-- the first way of each choice is a spelling
first_is_spelled : (w : Wording) (ts : List Token) → AreWanted (first_way w) ts → IsSpelledBy w ts
first_is_spelled ends [] h = tt
first_is_spelled ends (t ∷ ts) h = absurd h
first_is_spelled (next w more) [] h = absurd h
first_is_spelled (next w more) (t ∷ ts) h = (h.0, first_is_spelled more ts h.1)
first_is_spelled (either one other) ts h = inl (first_is_spelled one ts h)

pub canonical_is_read : CanonicalIsRead
canonical_is_read s draft fits is = spelled_is_read s draft fits (first_is_spelled (spelling draft) s.tokens is)

ok_one : {A : Type 0} (r : Result A ReadError) (x y : A) → r ≡ Ok x → r ≡ Ok y → x ≡ y
ok_one r x y p q = cc

pub draft_is_one : DraftIsOne
draft_is_one s one other fits also is was = ok_one (read_at s) one other (spelled_is_read s one fits is) (spelled_is_read s other also was)

ok_no_err : {A : Type 0} (r : Result A ReadError) (x : A) (e : ReadError) → r ≡ Ok x → r ≡ Err e → ⊥
ok_no_err r x e p q = cc

pub refused_is_none : RefusedIsNone
refused_is_none s refusal draft err fits is = ok_no_err (read_at s) draft refusal (spelled_is_read s draft fits is) err
