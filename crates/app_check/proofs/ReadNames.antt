-- Each item name of a draft that is read is a word that isn't reserved, where the names among the tokens are.
use Rattle.std.proofs.Common.{◌≡◌, ℕ, zero, suc, ℤ, pos, negsuc, Bool, true, false, ◌&&◌, ◌⊎◌, inl, inr, List, [], ◌∷◌, map, refl, sym, ◌∙◌, ap}
use Rattle.std.specs.Prelude.{nat_eq, if◌then◌else◌}
use Rattle.std.specs.List.{list_all}
use Rattle.rx_value.specs.declared.value.Value.{Value}
use Rattle.rx_value.specs.declared.value.Value.TheVariants as v
use Rattle.app_tokens.specs.declared.token.Token.{Token}
use Rattle.app_tokens.specs.declared.word.Word.{Word}
use Rattle.app_tokens.specs.declared.symbol.Symbol.TheVariants as symbol
use Rattle.app_tree.specs.declared.item.Flags.{Flags}
use Rattle.app_tree.specs.declared.draft_term.Name.{Name}
use Rattle.app_tree.specs.declared.draft_term.ReadForm.{ReadForm}
use Rattle.app_tree.specs.declared.draft_term.ReadForm.TheVariants as form
use Rattle.app_tree.specs.DraftTree.{DraftTree, constant, group, read, variable, isolate, stop, require, fold, unary, binary, choice, call, DraftTrees, no_trees, tree, DraftDeed, set, invoke, update, freeze, WrittenDeed, DraftAct, write, perform, branch, branch_else, DraftActs, no_acts, act, WrittenBody, WrittenOutput, WrittenForm, input, value, task, reactive, event, text, plot, observe, on, WrittenItem, DraftShape}
use Rattle.app_tree.specs.Fits.{name_fits}
use Rattle.rx_value.specs.Names.{is_name}
use Rattle.app_tree.specs.Unplaced.{unplaced_tree, unplaced_trees, unplaced_deed, unplaced_written, unplaced_act, unplaced_acts, unplaced_body, unplaced_output, unplaced_form, unplaced_item, unplaced}
use Rattle.app_reader.specs.Spelling.{Wanted, called, IsNamed, Wording, next, either, ends, IsSpelledBy, a_symbol, a_name, spell_named, spell_read, spell_cancels, spell_term, spell_terms, spell_more, spell_number, spell_more_numbers, spell_numbers, spell_constant, spell_priority, written_budget, spell_budget, spell_deed, spell_write, spell_writes, spell_condition, spell_act, spell_acts, spell_block, spell_body, spell_flag, spell_flags, spell_keys, spell_more_names, spell_names, spell_bracketed, spell_output, spell_form, spell_items, spelling}
use Rattle.app_reader.specs.Laws.{kind_fits, token_fits, tokens_fit}
use Rattle.app_check.specs.Words.{term_has_words, terms_have_words, deed_has_words, act_has_words, acts_have_words, body_has_words, output_has_words, form_has_words, item_has_words, has_words}

-- tokens are these, and each name among them is a word that isn't reserved
record Met (w : Wording) : Type 0 where
  tokens : List Token
  words : tokens_fit tokens ≡ true
  spelled : IsSpelledBy w tokens

-- ---- single tokens

parts : (a b : Bool) → (a && b) ≡ true → (a ≡ true) × (b ≡ true)
parts true b e = (refl, e)
parts false b e = absurd cc

behind : {w : Wanted} {rest : Wording} → Met (next w rest) → Met rest
behind {w} {rest} m = by m.tokens m.words m.spelled
  where
    by : (ts : List Token) → tokens_fit ts ≡ true → IsSpelledBy (next w rest) ts → Met rest
    by [] words spelled = absurd spelled
    by (t ∷ ts) words spelled = record { tokens = ts; words = (parts (token_fits t) (tokens_fit ts) words).1; spelled = spelled.1 }

word_of_name : (n : Name) (t : Token) → IsNamed n t → token_fits t ≡ true → name_fits n ≡ true
word_of_name n t is has = ap is_name (sym is.is_spelled) ∙ ap (λ k. kind_fits k t.spelling) (sym is.is_name) ∙ has

name_met : (n : Name) (rest : Wording) → Met (a_name n rest) → (name_fits n ≡ true) × Met rest
name_met n rest m = (by m.tokens m.words m.spelled, behind m)
  where
    by : (ts : List Token) → tokens_fit ts ≡ true → IsSpelledBy (a_name n rest) ts → name_fits n ≡ true
    by [] words spelled = absurd spelled
    by (t ∷ ts) words spelled = word_of_name n t spelled.0 (parts (token_fits t) (tokens_fit ts) words).0

called_met : (place : ℕ) (n : Name) (rest : Wording) → Met (next (called place n) rest) → (name_fits n ≡ true) × Met rest
called_met place n rest m = (by m.tokens m.words m.spelled, behind m)
  where
    by : (ts : List Token) → tokens_fit ts ≡ true → IsSpelledBy (next (called place n) rest) ts → name_fits n ≡ true
    by [] words spelled = absurd spelled
    by (t ∷ ts) words spelled = word_of_name n t spelled.0.0 (parts (token_fits t) (tokens_fit ts) words).0

either_met : {one other : Wording} (rest : Wording) → (Met one → Met rest) → (Met other → Met rest) → Met (either one other) → Met rest
either_met {one} {other} rest left right m = by m.spelled
  where
    by : IsSpelledBy one m.tokens ⊎ IsSpelledBy other m.tokens → Met rest
    by (inl s) = left (record { tokens = m.tokens; words = m.words; spelled = s })
    by (inr s) = right (record { tokens = m.tokens; words = m.words; spelled = s })

-- ---- terms

named_met : (w : Word) (place : ℕ) (n : Name) (rest : Wording) → Met (spell_named w place n rest) → (name_fits n ≡ true) × Met rest
named_met w place n rest m = let a = name_met n (a_symbol symbol.Close rest) (behind (behind m)) in (a.0, behind a.1)

read_met : (form : ReadForm) (place : ℕ) (n : Name) (rest : Wording) → Met (spell_read form place n rest) → (name_fits n ≡ true) × Met rest
read_met form.Input place n rest m = name_met n rest (behind (behind m))
read_met form.Named place n rest m =
    let a = called_met place n (a_symbol symbol.Open (a_symbol symbol.Close rest)) m in (a.0, behind (behind a.1))
read_met form.Status place n rest m = named_met _ place n rest m
read_met form.Result place n rest m = named_met _ place n rest m
read_met form.Width place n rest m = named_met _ place n rest m
read_met form.Height place n rest m = named_met _ place n rest m

cancels_met : (cancels : Bool) (rest : Wording) → Met (spell_cancels cancels rest) → Met rest
cancels_met true rest m = behind (behind m)
cancels_met false rest m = m

mutual
  term_met : (t : DraftTree) (rest : Wording) → Met (spell_term t rest) → (term_has_words (unplaced_tree t) ≡ true) × Met rest
  term_met (constant k) rest m = (refl, behind m)
  term_met (group t) rest m = let a = term_met t (a_symbol symbol.Close rest) (behind m) in (a.0, behind a.1)
  term_met (read form place n) rest m = read_met form place n rest m
  term_met (variable n) rest m = (refl, behind m)
  term_met (isolate place t) rest m = let a = term_met t (a_symbol symbol.Close rest) (behind (behind m)) in (a.0, behind a.1)
  term_met (stop t) rest m = let a = term_met t (a_symbol symbol.Close rest) (behind (behind m)) in (a.0, behind a.1)
  term_met (require t cancels) rest m =
      let a = term_met t (spell_cancels cancels (a_symbol symbol.Close rest)) (behind (behind m)) in
      (a.0, behind (cancels_met cancels (a_symbol symbol.Close rest) a.1))
  term_met (fold place list start accumulator element body) rest m =
      let end = a_symbol symbol.Close rest in
      let last = spell_term body end in
      let inner = a_name element (a_symbol symbol.Comma last) in
      let names = a_name accumulator (a_symbol symbol.Comma inner) in
      let a = term_met list (a_symbol symbol.Comma (spell_term start (a_symbol symbol.Comma names))) (behind (behind m)) in
      let b = term_met start (a_symbol symbol.Comma names) (behind a.1) in
      let c = term_met body end (behind (behind (behind (behind (behind b.1))))) in
      (rw (a.0, b.0, c.0) refl, behind c.1)
  term_met (unary op t) rest m = term_met t rest (behind m)
  term_met (binary op left right) rest m =
      let a = term_met left (next _ (spell_term right rest)) m in
      let b = term_met right rest (behind a.1) in
      (rw (a.0, b.0) refl, b.1)
  term_met (choice condition chosen otherwise) rest m =
      let third = next _ (spell_term otherwise rest) in
      let a = term_met condition (a_symbol symbol.Close (spell_term chosen third)) (behind (behind m)) in
      let b = term_met chosen third (behind a.1) in
      let c = term_met otherwise rest (behind b.1) in
      (rw (a.0, b.0, c.0) refl, c.1)
  term_met (call f ts) rest m = let a = terms_met ts (a_symbol symbol.Close rest) (behind (behind m)) in (a.0, behind a.1)

  terms_met : (ts : DraftTrees) (rest : Wording) → Met (spell_terms ts rest) → (terms_have_words (unplaced_trees ts) ≡ true) × Met rest
  terms_met no_trees rest m = (refl, m)
  terms_met (tree t ts) rest m =
      let a = term_met t (spell_more ts rest) m in
      let b = more_met ts rest a.1 in
      (rw (a.0, b.0) refl, b.1)

  more_met : (ts : DraftTrees) (rest : Wording) → Met (spell_more ts rest) → (terms_have_words (unplaced_trees ts) ≡ true) × Met rest
  more_met no_trees rest m = (refl, m)
  more_met (tree t ts) rest m =
      let a = term_met t (spell_more ts rest) (behind m) in
      let b = more_met ts rest a.1 in
      (rw (a.0, b.0) refl, b.1)

-- ---- constants, priorities and the budget, which have no names

number_met : (z : ℤ) (rest : Wording) → Met (spell_number z rest) → Met rest
number_met (pos zero) rest m = either_met rest (λ one. behind one) (λ other. behind (behind other)) m
number_met (pos (suc n)) rest m = behind m
number_met (negsuc n) rest m = behind (behind m)

more_numbers_met : (zs : List ℤ) (rest : Wording) → Met (spell_more_numbers zs rest) → Met rest
more_numbers_met [] rest m = m
more_numbers_met (z ∷ zs) rest m = more_numbers_met zs rest (number_met z (spell_more_numbers zs rest) (behind m))

numbers_met : (zs : List ℤ) (rest : Wording) → Met (spell_numbers zs rest) → Met rest
numbers_met [] rest m = m
numbers_met (z ∷ zs) rest m = more_numbers_met zs rest (number_met z (spell_more_numbers zs rest) m)

constant_met : (k : Value) (rest : Wording) → Met (spell_constant k rest) → Met rest
constant_met v.Null rest m = behind m
constant_met (v.Bool true) rest m = behind m
constant_met (v.Bool false) rest m = behind m
constant_met (v.Int z) rest m = number_met z rest m
constant_met (v.Text bytes) rest m = behind m
constant_met (v.Ints zs) rest m = behind (numbers_met zs (a_symbol symbol.Close rest) (behind (behind m)))

start_met : (k : Value) (rest : Wording) → Met (a_symbol symbol.Assign (spell_constant k (a_symbol symbol.Semicolon rest))) → Met rest
start_met k rest m = behind (constant_met k (a_symbol symbol.Semicolon rest) (behind m))

priority_met : (z : ℤ) (rest : Wording) → Met (spell_priority z rest) → Met rest
priority_met (pos zero) rest m = either_met rest (λ one. one) (λ other. number_met (pos 0) rest (behind other)) m
priority_met (pos (suc n)) rest m = number_met (pos (suc n)) rest (behind m)
priority_met (negsuc n) rest m = number_met (negsuc n) rest (behind m)

budget_met : (n : ℕ) (rest : Wording) → Met (spell_budget n rest) → Met rest
budget_met n rest m = by (nat_eq n 1000) m
  where
    written : Met (written_budget n rest) → Met rest
    written m = behind (behind (behind m))

    by : (b : Bool) → Met (if b then either (written_budget n rest) rest else written_budget n rest) → Met rest
    by true m = either_met rest written (λ other. other) m
    by false m = written m

-- ---- writes and statements

assigned_met : (n : Name) (t : DraftTree) (rest : Wording) → Met (a_name n (a_symbol symbol.Assign (spell_term t (a_symbol symbol.Semicolon rest))))
    → ((name_fits n && term_has_words (unplaced_tree t)) ≡ true) × Met rest
assigned_met n t rest m =
    let end = a_symbol symbol.Semicolon rest in
    let a = name_met n (a_symbol symbol.Assign (spell_term t end)) m in
    let b = term_met t end (behind a.1) in
    (rw (a.0, b.0) refl, behind b.1)

deed_met : (d : DraftDeed) (rest : Wording) → Met (spell_deed d rest) → (deed_has_words (unplaced_deed d) ≡ true) × Met rest
deed_met (set n t) rest m = assigned_met n t rest m
deed_met (invoke n ts) rest m =
    let end = a_symbol symbol.Close (a_symbol symbol.Semicolon rest) in
    let a = name_met n (a_symbol symbol.Open (spell_terms ts end)) m in
    let b = terms_met ts end (behind a.1) in
    (rw (a.0, b.0) refl, behind (behind b.1))
deed_met (update n t) rest m = assigned_met n t rest m
deed_met (freeze n) rest m = let a = name_met n (a_symbol symbol.Semicolon rest) m in (a.0, behind a.1)

write_met : (w : WrittenDeed) (rest : Wording) → Met (spell_write w rest) → (deed_has_words (unplaced_deed w.deed) ≡ true) × Met rest
write_met w rest m = deed_met w.deed rest (behind m)

writes_met : (ws : List WrittenDeed) (rest : Wording) → Met (spell_writes ws rest) → (list_all (λ (w : WrittenDeed). deed_has_words w.deed) (map unplaced_written ws) ≡ true) × Met rest
writes_met [] rest m = (refl, m)
writes_met (w ∷ ws) rest m =
    let a = write_met w (spell_writes ws rest) m in
    let b = writes_met ws rest a.1 in
    (rw (a.0, b.0) refl, b.1)

condition_met : (t : DraftTree) (rest : Wording) → Met (spell_condition t rest) → (term_has_words (unplaced_tree t) ≡ true) × Met rest
condition_met t rest m = let a = term_met t (a_symbol symbol.Close rest) (behind (behind m)) in (a.0, behind a.1)

mutual
  act_met : (a : DraftAct) (rest : Wording) → Met (spell_act a rest) → (act_has_words (unplaced_act a) ≡ true) × Met rest
  act_met (write w) rest m = write_met w rest m
  act_met (perform t) rest m = let a = term_met t (a_symbol symbol.Semicolon rest) (behind m) in (a.0, behind a.1)
  act_met (branch t block) rest m =
      let end = a_symbol symbol.CloseBrace rest in
      let a = condition_met t (a_symbol symbol.OpenBrace (spell_acts block end)) m in
      let b = acts_met block end (behind a.1) in
      (rw (a.0, b.0) refl, behind b.1)
  act_met (branch_else t block other) rest m =
      let end = a_symbol symbol.CloseBrace rest in
      let middle = a_symbol symbol.CloseBrace (next _ (a_symbol symbol.OpenBrace (spell_acts other end))) in
      let a = condition_met t (a_symbol symbol.OpenBrace (spell_acts block middle)) m in
      let b = acts_met block middle (behind a.1) in
      let c = acts_met other end (behind (behind (behind b.1))) in
      (rw (a.0, b.0, c.0) refl, behind c.1)

  acts_met : (block : DraftActs) (rest : Wording) → Met (spell_acts block rest) → (acts_have_words (unplaced_acts block) ≡ true) × Met rest
  acts_met no_acts rest m = (refl, m)
  acts_met (act a more) rest m =
      let x = act_met a (spell_acts more rest) m in
      let y = acts_met more rest x.1 in
      (rw (x.0, y.0) refl, y.1)

block_met : (block : DraftActs) (rest : Wording) → Met (spell_block block rest) → (acts_have_words (unplaced_acts block) ≡ true) × Met rest
block_met block rest m = let a = acts_met block (a_symbol symbol.CloseBrace rest) (behind m) in (a.0, behind a.1)

body_met : (body : WrittenBody) (rest : Wording) → Met (spell_body body rest) → (body_has_words (unplaced_body body) ≡ true) × Met rest
body_met body rest m =
    let end = a_symbol symbol.CloseBrace rest in
    let a = writes_met body.writes (spell_term body.term end) (behind m) in
    let b = term_met body.term end a.1 in
    (rw (a.0, b.0) refl, behind b.1)

-- ---- items

flag_met : (w : Word) (is : Bool) (rest : Wording) → Met (spell_flag w is rest) → Met rest
flag_met w true rest m = behind m
flag_met w false rest m = m

flags_met : (flags : Flags) (rest : Wording) → Met (spell_flags flags rest) → Met rest
flags_met flags rest m = flag_met _ flags.allow_null rest (flag_met _ flags.ignore_init _ m)

keys_met : (ts : DraftTrees) (rest : Wording) → Met (spell_keys ts rest) → (terms_have_words (unplaced_trees ts) ≡ true) × Met rest
keys_met no_trees rest m = (refl, m)
keys_met (tree t ts) rest m = let a = terms_met (tree t ts) (a_symbol symbol.Close rest) (behind (behind m)) in (a.0, behind a.1)

more_names_met : (ns : List Name) (rest : Wording) → Met (spell_more_names ns rest) → Met rest
more_names_met [] rest m = m
more_names_met (n ∷ ns) rest m = more_names_met ns rest (behind (behind m))

names_met : (ns : List Name) (rest : Wording) → Met (spell_names ns rest) → Met rest
names_met [] rest m = m
names_met (n ∷ ns) rest m = more_names_met ns rest (behind m)

bracketed_met : (t : DraftTree) (rest : Wording) → Met (spell_bracketed t rest) → (term_has_words (unplaced_tree t) ≡ true) × Met rest
bracketed_met t rest m = let a = term_met t (a_symbol symbol.Close rest) (behind m) in (a.0, behind a.1)

output_met : (output : WrittenOutput) (rest : Wording) → Met (spell_output output rest) → (output_has_words (unplaced_output output) ≡ true) × Met rest
output_met output rest m =
    let keys = spell_keys output.keys (spell_body output.body rest) in
    let a = keys_met output.keys (spell_body output.body rest) (flag_met _ output.while_hidden keys (priority_met output.priority _ m)) in
    let b = body_met output.body rest a.1 in
    (rw (a.0, b.0) refl, b.1)

form_met : (f : WrittenForm) (rest : Wording) → Met (spell_form f rest) → (form_has_words (unplaced_form f) ≡ true) × Met rest
form_met (input start) rest m = (refl, start_met start rest m)
form_met (value start) rest m = (refl, start_met start rest m)
form_met (task parameters body) rest m =
    let end = a_symbol symbol.CloseBrace rest in
    let inside = a_symbol symbol.Close (a_symbol symbol.OpenBrace (spell_term body end)) in
    let a = term_met body end (behind (behind (names_met parameters inside (behind m)))) in
    (a.0, behind a.1)
form_met (reactive keys body) rest m =
    let a = keys_met keys (spell_body body rest) m in
    let b = body_met body rest a.1 in
    (rw (a.0, b.0) refl, b.1)
form_met (event flags e body) rest m =
    let a = bracketed_met e (spell_body body rest) (flags_met flags _ m) in
    let b = body_met body rest a.1 in
    (rw (a.0, b.0) refl, b.1)
form_met (text output) rest m = output_met output rest m
form_met (plot output) rest m = output_met output rest m
form_met (observe priority block) rest m = block_met block rest (priority_met priority _ m)
form_met (on priority flags e block) rest m =
    let a = bracketed_met e (spell_block block rest) (flags_met flags _ (priority_met priority _ m)) in
    let b = block_met block rest a.1 in
    (rw (a.0, b.0) refl, b.1)

items_met : (items : List WrittenItem) (rest : Wording) → Met (spell_items items rest) → (list_all item_has_words (map unplaced_item items) ≡ true) × Met rest
items_met [] rest m = (refl, m)
items_met (i ∷ items) rest m =
    let more = spell_items items rest in
    let a = name_met i.name (spell_form i.form more) (behind m) in
    let b = form_met i.form more a.1 in
    let c = items_met items rest b.1 in
    (rw (a.0, b.0, c.0) refl, c.1)

pub read_names : (d : DraftShape) (tokens : List Token) → tokens_fit tokens ≡ true → IsSpelledBy (spelling d) tokens → has_words (unplaced d) ≡ true
read_names d tokens words spelled =
    let whole : Met (spelling d) = record { tokens = tokens; words = words; spelled = spelled } in
    (items_met d.items ends (budget_met d.budget (spell_items d.items ends) whole)).0
