-- What is read as an item, or as a whole file, is spelled so, and fits.
use Rattle.std.proofs.Common.{◌≡◌, ℕ, suc, ◌<◌, Bool, true, false, ◌&&◌, List, [], ◌∷◌, ◌++◌, length, Result, Ok, Err, Option, Some, None, refl, sym, ap, subst, arith}
use Rattle.std.proofs.lemmas.Bool.{and_from}
use Rattle.std.specs.Prelude.{IfOk}
use Rattle.std.specs.List.{list_all}
use Rattle.app_tokens.specs.declared.token.Token.{Token}
use Rattle.app_tokens.specs.declared.word.Word.{Word}
use Rattle.app_tokens.specs.declared.word.Word.TheVariants as word
use Rattle.app_tokens.specs.declared.symbol.Symbol.TheVariants as symbol
use Rattle.app_tokens.specs.Tokens.{Tokens}
use Rattle.app_tree.specs.declared.draft_term.Name.{Name}
use Rattle.app_tree.specs.DraftTree.{DraftTree, WrittenForm, input, value, task, reactive, event, text, plot, observe, on, WrittenItem, DraftShape}
use Rattle.app_tree.specs.Held.{HeldDraft}
use Rattle.app_tree.specs.DraftView.{draft_trees, draft_acts, draft_shape_of}
use Rattle.app_tree.specs.Fits.{name_fits, is_number, constant_fits, whole_fits, all_fit, block_fits, body_fits, output_fits, form_fits, item_fits, is_budget, fits}
use Rattle.app_reader.specs.declared.error.ReadError.{ReadError}
use Rattle.rx_value.specs.Results.{◌>>=◌, choose, GivesOrMemory}
use Rattle.app_reader.specs.State.{refusal, choose_some, place_of, skip, is_word_next, is_symbol_next, is_name_next, is_more, is_some_in, next_word, unexpected, symbol_at, name_at, turns_of}
use Rattle.app_reader.specs.Terms.{whole_term_at, bracketed_at, listed_at}
use Rattle.app_reader.specs.Constants.{constant_at, priority_at, budget_at}
use Rattle.app_reader.specs.Statements.{whole_block_at, body_at}
use Rattle.app_reader.specs.Items.{flag_at, flags_at, cache_at, keys_at, further_name_at, names_at, optional_names_at, parameters_at, start_at, input_form_at, value_form_at, task_form_at, reactive_form_at, event_form_at, output_at, text_form_at, plot_form_at, observe_form_at, on_form_at, begins_item, form_at, named_item_at, worded_item_at, item_at, further_item_at, items_at, read_at}
use Rattle.app_reader.specs.Spelling.{Wording, ends, IsSpelledBy, a_word, a_word_at, a_symbol, a_name, spell_flag, spell_flags, spell_keys, spell_more_names, spell_names, spell_start, spell_output, form_word, spell_form, spell_item, spell_items, spelling}
use Rattle.app_reader.specs.Laws.{tokens_fit, ReadIsSpelled}
use Rattle.app_reader.proofs.Got.{bind_ok, ok_is, Got, SoundAt, IsSound, already, refused, seq1, seq2, seq3, seq4, weaker, bind_sound, choose_sound, found_sound, symbol_stands, word_stands, behind_symbol, behind_word, behind_word_there, fewer_word, fit_behind_word, stays, Any, symbol_sound, name_sound, loop_ends, collected, pushed}
use Rattle.app_reader.proofs.TermsSound.{IsMany, many_push, spell_list, bracketed_sound, listed_sound, term_sound}
use Rattle.app_reader.proofs.PartsSound.{all_push, constant_sound, priority_sound, budget_sound, IsTerm, whole_term_sound, body_sound, block_sound}

-- ---- flags, keys and names

flag_sound : (w : Word) → IsSound (spell_flag w) Any (flag_at w)
unfolding flag_at
flag_sound w s =
    choose_sound (is_word_next w s) (λ t. Ok (true, skip t)) (λ t. Ok (false, t)) s
    (λ e. seq1 {SA = λ u rest. a_word w rest} {PA = Any} s (Ok (tt, skip s)) (λ (u : Unit {0}). true) (behind_word w s (Ok (tt, skip s)) (word_stands w s e) (stays {S = λ (u : Unit {0}) rest. rest} {P = Any} (skip s) tt tt (λ rest h. h)))
    (λ u p. tt) (λ u rest p h. h))
    (λ e. stays s false tt (λ rest h. h))

flags_sound : IsSound spell_flags Any flags_at
unfolding flags_at
flags_sound s =
    seq2 s (flag_at word.IgnoreInit s) (flag_at word.AllowNull) (λ init null. record { ignore_init = init; allow_null = null }) (flag_sound word.IgnoreInit s) (flag_sound word.AllowNull)
    (λ init null p q. tt) (λ init null rest p q h. h)

abbrev AreKeys : List DraftTree → Type 0
AreKeys ts = all_fit (draft_trees ts) ≡ true

abbrev spell_key_list : List DraftTree → Wording → Wording
spell_key_list ts rest = spell_keys (draft_trees ts) rest

keys_spell : (ts : List DraftTree) (rest : Wording) (tokens : List Token) → IsMany ts → IsSpelledBy (a_word word.Cache (a_symbol symbol.Open (spell_list ts (a_symbol symbol.Close rest)))) tokens → IsSpelledBy (spell_key_list ts rest) tokens
keys_spell [] rest tokens many h = absurd many
keys_spell (t ∷ ts) rest tokens many h = h

cache_sound : (s : Tokens) → next_word s ≡ Some word.Cache → SoundAt spell_key_list AreKeys s (cache_at s)
unfolding cache_at
cache_sound s begins =
    seq3 s (symbol_at symbol.Open (skip s)) (listed_at whole_term_at) (symbol_at symbol.Close) (λ u ts c. ts)
    (behind_word word.Cache s (symbol_at symbol.Open (skip s)) begins (symbol_sound symbol.Open (skip s))) (listed_sound whole_term_at 64 (term_sound 64)) (symbol_sound symbol.Close)
    (λ u ts c p q r. q.1) (λ u ts c rest p q h. keys_spell ts rest s.tokens q.0 h)

keys_sound : IsSound spell_key_list AreKeys keys_at
unfolding keys_at
keys_sound s =
    choose_sound (is_word_next word.Cache s) cache_at (λ t. Ok ([], t)) s
    (λ e. cache_sound s (word_stands word.Cache s e))
    (λ e. stays s [] refl (λ rest h. h))

more_names_push : (ns : List Name) (n : Name) (rest : Wording) → spell_more_names ns (a_symbol symbol.Comma (a_name n rest)) ≡ spell_more_names (ns ++ n ∷ []) rest
more_names_push [] n rest = refl
more_names_push (x ∷ ns) n rest = ap (λ w. a_symbol symbol.Comma (a_name x w)) (more_names_push ns n rest)

names_push : (ns : List Name) (n : Name) (rest : Wording) → IsMany ns → spell_names ns (a_symbol symbol.Comma (a_name n rest)) ≡ spell_names (ns ++ n ∷ []) rest
names_push [] n rest many = absurd many
names_push (x ∷ ns) n rest many = ap (a_name x) (more_names_push ns n rest)

-- names as a text can give them
abbrev AreWords : List Name → Type 0
AreWords ns = list_all name_fits ns ≡ true

names_sound : IsSound spell_names (λ ns. IsMany ns × AreWords ns) names_at
unfolding names_at further_name_at
names_sound s =
    bind_sound s (name_at s) (λ first. turns_of (suc (length first.1.tokens)) (λ b. is_symbol_next symbol.Comma b.1) further_name_at (first.0 ∷ [], first.1)) (name_sound s)
    (λ a g. collected s (λ b. is_symbol_next symbol.Comma b.1) further_name_at (suc (length a.1.tokens)) (a.0 ∷ [], a.1)
    (λ b holds got. pushed s b (name_at (skip b.1)) got (behind_symbol symbol.Comma b.1 (name_at (skip b.1)) (symbol_stands symbol.Comma b.1 holds) (name_sound (skip b.1)))
    (λ n p q. (many_push b.0 n, all_push name_fits b.0 n p.1 q)) (λ n rest p. names_push b.0 n rest p.0))
    (seq1 s (Ok a) (λ n. n ∷ []) (already s a g) (λ n p. (tt, and_from (name_fits n) true p refl)) (λ n rest p h. h)))

optional_names_sound : IsSound spell_names AreWords optional_names_at
unfolding optional_names_at
optional_names_sound s =
    choose_sound (is_name_next s) names_at (λ t. Ok ([], t)) s
    (λ e. weaker s (names_at s) (names_sound s) (λ ns p. p.1))
    (λ e. stays s [] refl (λ rest h. h))

parameters_sound : IsSound (λ ns rest. a_symbol symbol.Open (spell_names ns (a_symbol symbol.Close rest))) AreWords parameters_at
unfolding parameters_at
parameters_sound s =
    seq3 s (symbol_at symbol.Open s) optional_names_at (symbol_at symbol.Close) (λ u ns c. ns) (symbol_sound symbol.Open s) optional_names_sound (symbol_sound symbol.Close)
    (λ u ns c p q r. q) (λ u ns c rest p q h. h)

-- ---- items, behind their names

start_sound : IsSound spell_start (λ k. constant_fits k ≡ true) start_at
unfolding start_at
start_sound s =
    seq3 s (symbol_at symbol.Assign s) constant_at (symbol_at symbol.Semicolon) (λ u k c. k) (symbol_sound symbol.Assign s) constant_sound (symbol_sound symbol.Semicolon)
    (λ u k c p q r. q) (λ u k c rest p q h. h)

-- an item that this word begins
abbrev IsForm : Word → WrittenForm → Type 0
IsForm w f = (form_word f ≡ w) × (form_fits f ≡ true)

input_sound : IsSound spell_form (IsForm word.Input) input_form_at
unfolding input_form_at
input_sound s = seq1 s (start_at s) (λ k. input k) (start_sound s) (λ k p. (refl, p)) (λ k rest p h. h)

value_sound : IsSound spell_form (IsForm word.Value) value_form_at
unfolding value_form_at
value_sound s = seq1 s (start_at s) (λ k. value k) (start_sound s) (λ k p. (refl, p)) (λ k rest p h. h)

task_sound : IsSound spell_form (IsForm word.Task) task_form_at
unfolding task_form_at
task_sound s =
    seq4 s (parameters_at s) (symbol_at symbol.OpenBrace) whole_term_at (symbol_at symbol.CloseBrace) (λ ns u t c. task ns t) (parameters_sound s) (symbol_sound symbol.OpenBrace) whole_term_sound (symbol_sound symbol.CloseBrace)
    (λ ns u t c p q r o. (refl, and_from (list_all name_fits ns) (whole_fits t) p r)) (λ ns u t c rest p h. h)

reactive_sound : IsSound spell_form (IsForm word.Reactive) reactive_form_at
unfolding reactive_form_at
reactive_sound s =
    seq2 s (keys_at s) body_at (λ ts body. reactive (draft_trees ts) body) (keys_sound s) body_sound
    (λ ts body p q. (refl, and_from (all_fit (draft_trees ts)) (body_fits body) p q)) (λ ts body rest p q h. h)

event_sound : IsSound spell_form (IsForm word.Event) event_form_at
unfolding event_form_at
event_sound s =
    seq3 s (flags_at s) (bracketed_at whole_term_at) body_at (λ flags t body. event flags t body) (flags_sound s) (bracketed_sound whole_term_at IsTerm whole_term_sound) body_sound
    (λ flags t body p q r. (refl, and_from (whole_fits t) (body_fits body) q r)) (λ flags t body rest p q h. h)

output_sound : IsSound spell_output (λ o. output_fits o ≡ true) output_at
unfolding output_at
output_sound s =
    seq4 s (priority_at s) (flag_at word.WhileHidden) keys_at body_at (λ z hidden ts body. record { priority = z; while_hidden = hidden; keys = draft_trees ts; body = body })
    (priority_sound s) (flag_sound word.WhileHidden) keys_sound body_sound
    (λ z hidden ts body p q r o. and_from (is_number z && all_fit (draft_trees ts)) (body_fits body) (and_from (is_number z) (all_fit (draft_trees ts)) p r) o) (λ z hidden ts body rest p h. h)

text_sound : IsSound spell_form (IsForm word.Text) text_form_at
unfolding text_form_at
text_sound s = seq1 s (output_at s) (λ o. text o) (output_sound s) (λ o p. (refl, p)) (λ o rest p h. h)

plot_sound : IsSound spell_form (IsForm word.Plot) plot_form_at
unfolding plot_form_at
plot_sound s = seq1 s (output_at s) (λ o. plot o) (output_sound s) (λ o p. (refl, p)) (λ o rest p h. h)

observe_sound : IsSound spell_form (IsForm word.Observe) observe_form_at
unfolding observe_form_at
observe_sound s =
    seq2 s (priority_at s) whole_block_at (λ z xs. observe z (draft_acts xs)) (priority_sound s) (block_sound 64)
    (λ z xs p q. (refl, and_from (is_number z) (block_fits (draft_acts xs)) p q)) (λ z xs rest p q h. h)

on_sound : IsSound spell_form (IsForm word.On) on_form_at
unfolding on_form_at
on_sound s =
    seq4 s (priority_at s) flags_at (bracketed_at whole_term_at) whole_block_at (λ z flags t xs. on z flags t (draft_acts xs)) (priority_sound s) flags_sound (bracketed_sound whole_term_at IsTerm whole_term_sound) (block_sound 64)
    (λ z flags t xs p q r o. (refl, and_from (is_number z && whole_fits t) (block_fits (draft_acts xs)) (and_from (is_number z) (whole_fits t) p r) o)) (λ z flags t xs rest p h. h)

form_sound : (w : Word) → IsSound spell_form (IsForm w) (form_at w)
form_sound word.Input s = input_sound s
form_sound word.Value s = value_sound s
form_sound word.Task s = task_sound s
form_sound word.Reactive s = reactive_sound s
form_sound word.Event s = event_sound s
form_sound word.Text s = text_sound s
form_sound word.Plot s = plot_sound s
form_sound word.Observe s = observe_sound s
form_sound word.On s = on_sound s
form_sound _ s = refused s _

-- ---- whole items

abbrev IsItem : WrittenItem → Type 0
IsItem i = item_fits i ≡ true

item_spells : (w : Word) (place : ℕ) (n : Name) (f : WrittenForm) (rest : Wording) (tokens : List Token) → form_word f ≡ w → IsSpelledBy (a_word_at w place (a_name n (spell_form f rest))) tokens
    → IsSpelledBy (a_word_at (form_word f) place (a_name n (spell_form f rest))) tokens
item_spells w place n f rest tokens is h = subst (λ v. IsSpelledBy (a_word_at v place (a_name n (spell_form f rest))) tokens) (sym is) h

named_item_sound : (w : Word) (s : Tokens) → next_word s ≡ Some w → SoundAt spell_item IsItem s (named_item_at w s)
unfolding named_item_at
named_item_sound w s begins =
    seq2 s (name_at (skip s)) (form_at w) (λ n f. record { place = place_of s; name = n; form = f }) (behind_word_there w s (name_at (skip s)) begins (name_sound (skip s))) (form_sound w)
    (λ n f p q. q.1) (λ n f rest p q h. item_spells w (place_of s) n f rest s.tokens q.0 h)

worded_item_sound : (w : Word) (s : Tokens) → next_word s ≡ Some w → SoundAt spell_item IsItem s (worded_item_at w s)
unfolding worded_item_at
worded_item_sound w s begins = choose_sound (begins_item w) (named_item_at w) unexpected s (λ e. named_item_sound w s begins) (λ e. refused s _)

item_sound : IsSound spell_item IsItem item_at
unfolding item_at
item_sound s = found_sound (next_word s) worded_item_at unexpected s (λ w e. worded_item_sound w s e) (λ e. refused s _)

-- an item takes a token at least
item_takes : (s : Tokens) → tokens_fit s.tokens ≡ true → (y : WrittenItem × Tokens) → item_at s ≡ Ok y → length y.1.tokens < length s.tokens
unfolding item_at worded_item_at named_item_at
item_takes s good y e = by (next_word s) refl e
  where
    named : (w : Word) → next_word s ≡ Some w → (name_at (skip s) >>= λ n. form_at w n.1 >>= λ form. Ok (record { place = place_of s; name = n.0; form = form.0 }, form.1)) ≡ Ok y → length y.1.tokens < length s.tokens
    named w is e =
        let a = bind_ok (name_at (skip s)) (λ n. form_at w n.1 >>= λ form. Ok (record { place = place_of s; name = n.0; form = form.0 }, form.1)) y e in
        let g = (behind_word w s (name_at (skip s)) is (name_sound (skip s))).so good a.0 a.1 in
        let f = bind_ok (form_at w a.0.1) (λ form. Ok (record { place = place_of s; name = a.0.0; form = form.0 }, form.1)) y a.2 in
        let k = (form_sound w a.0.1).so g.good f.0 f.1 in
        let made : WrittenItem × Tokens = (record { place = place_of s; name = a.0.0; form = f.0.0 }, f.0.1) in
        let tail = (name_sound (skip s)).so (fit_behind_word w s is good) a.0 a.1 in
        let fewer : length f.0.1.tokens < length s.tokens = omega (arith, k.shorter, tail.shorter, fewer_word w s is) in
        subst (λ (y : WrittenItem × Tokens). length y.1.tokens < length s.tokens) (ok_is made y f.2) fewer

    worded : (w : Word) → next_word s ≡ Some w → (b : Bool) → choose b (named_item_at w) unexpected s ≡ Ok y → length y.1.tokens < length s.tokens
    worded w is true e = named w is e
    worded w is false e = absurd cc

    by : (o : Option Word) → next_word s ≡ o → choose_some o worded_item_at unexpected s ≡ Ok y → length y.1.tokens < length s.tokens
    by (Some w) is e = worded w is (begins_item w) e
    by None is e = absurd cc

items_push : (xs : List WrittenItem) (i : WrittenItem) (rest : Wording) → spell_items xs (spell_item i rest) ≡ spell_items (xs ++ i ∷ []) rest
items_push [] i rest = refl
items_push (x ∷ xs) i rest = ap (spell_item x) (items_push xs i rest)

abbrev AreItems : List WrittenItem → Type 0
AreItems xs = list_all item_fits xs ≡ true

further_sound : (s : Tokens) (b : List WrittenItem × Tokens) → Got spell_items AreItems s b → SoundAt spell_items AreItems s (further_item_at b)
unfolding further_item_at
further_sound s b g = pushed s b (item_at b.1) g (item_sound b.1) (λ i p q. all_push item_fits b.0 i p q) (λ i rest p. items_push b.0 i rest)

further_takes : (b c : List WrittenItem × Tokens) → tokens_fit b.1.tokens ≡ true → further_item_at b ≡ Ok c → length c.1.tokens < length b.1.tokens
unfolding further_item_at
further_takes b c good e =
    let a = bind_ok (item_at b.1) (λ i. Ok (b.0 ++ i.0 ∷ [], i.1)) c e in
    let made : List WrittenItem × Tokens = (b.0 ++ a.0.0 ∷ [], a.0.1) in
    subst (λ (c : List WrittenItem × Tokens). length c.1.tokens < length b.1.tokens) (ok_is made c a.2) (item_takes b.1 good a.0 a.1)

none_left : (ts : List Token) → is_some_in ts ≡ false → IsSpelledBy ends ts
none_left [] e = tt
none_left (t ∷ ts) e = absurd cc

-- items up to the end
items_sound : (s : Tokens) (y : List WrittenItem × Tokens) → tokens_fit s.tokens ≡ true → items_at s ≡ Ok y → IsSpelledBy (spell_items y.0 ends) s.tokens × AreItems y.0
unfolding items_at
items_sound s y good e =
    let start = (stays {A = List WrittenItem} {S = spell_items} {P = AreItems} s [] refl (λ rest h. h)).so good ([], s) refl in
    let all = loop_ends (λ b. b.1) (Got spell_items AreItems s) (λ b. is_more b.1) further_item_at
    (λ b c holds g stepped. ((further_sound s b g).so good c stepped, further_takes b c g.good stepped))
    (suc (length s.tokens)) ([], s) y (omega arith) e start in
    (all.0.spells ends (none_left y.1.tokens all.1), all.0.holds)

pub read_is_spelled : ReadIsSpelled
unfolding read_at
read_is_spelled s draft good e =
    let a = bind_ok (budget_at s) (λ budget. items_at budget.1 >>= λ items. Ok (record { budget = budget.0; items = items.0 })) draft e in
    let b = (budget_sound s).so good a.0 a.1 in
    let i = bind_ok (items_at a.0.1) (λ items. Ok (record { budget = a.0.0; items = items.0 })) draft a.2 in
    let k = items_sound a.0.1 i.0 b.good i.1 in
    let made : DraftShape = record { budget = a.0.0; items = i.0.0 } in
    subst (λ (d : DraftShape). (fits d ≡ true) × IsSpelledBy (spelling d) s.tokens) (ok_is made draft i.2)
    (and_from (is_budget a.0.0) (list_all item_fits i.0.0) b.holds k.1, b.spells (spell_items i.0.0 ends) k.0)

-- what the code answers fits
pub read_fits : (s : Tokens) (result : Result HeldDraft ReadError) → GivesOrMemory draft_shape_of refusal result (read_at s) → tokens_fit s.tokens ≡ true → IfOk result (λ draft. fits (draft_shape_of draft) ≡ true)
read_fits s (Ok draft) h good = (read_is_spelled s (draft_shape_of draft) good h).0
read_fits s (Err e) h good = tt
