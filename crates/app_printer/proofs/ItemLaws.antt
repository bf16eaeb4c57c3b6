-- The tokens of the canonical text of items.
use Rattle.std.proofs.Common.{◌≡◌, ℕ, zero, suc, ℤ, pos, negsuc, List, [], ◌∷◌, ◌++◌, codes, length, refl, sym, ap, ap₂, ◌∙◌, Bool, true, false, ◌&&◌, nat_le, subst, append_assoc, map}
use Rattle.std.proofs.Math.Bool.{and-eq-true_iff}
use Rattle.std.specs.List.{list_all}
use Rattle.std.specs.Fmt.{decimal, signed_decimal}
use Rattle.rx_value.specs.declared.limits.TheConstants.{LIST_LIMIT}
use Rattle.app_tree.specs.declared.limits.TheConstants.{LEVEL_LIMIT}
use Rattle.rx_value.specs.declared.value.Value.{Value}
use Rattle.rx_value.specs.declared.value.Value.TheVariants as v
use Rattle.app_tokens.specs.declared.word.Word.{Word}
use Rattle.app_tokens.specs.declared.word.Word.TheVariants as word
use Rattle.app_tokens.specs.declared.symbol.Symbol.TheVariants as symbol
use Rattle.app_tree.specs.declared.item.Flags.{Flags}
use Rattle.app_tree.specs.declared.draft_term.Name.{Name}
use Rattle.app_tree.specs.DraftTree.{DraftTree, DraftTrees, no_trees, tree, WrittenDeed, DraftActs, WrittenBody, WrittenOutput, WrittenForm, input, value, task, reactive, event, text, plot, observe, on, WrittenItem}
use Rattle.app_tree.specs.Fits.{name_fits, is_number, constant_fits, whole_fits, all_fit, block_fits, body_fits, write_fits, output_fits, form_fits, item_fits, fits}
use Rattle.app_reader.specs.Spelling.{Wording, ends, either, a_word, a_word_at, a_symbol, a_name, spell_terms, spell_number, spell_numbers, spell_more_numbers, spell_constant, written_priority, spell_priority, spell_block, spell_body, spell_flag, spell_flags, spell_keys, spell_names, spell_more_names, spell_bracketed, spell_start, spell_output, spell_form, spell_item, spell_items}
use Rattle.app_reader.specs.Spelling as spelt
use Rattle.app_printer.specs.Canonical.{numbers_text, more_numbers, constant_text, term_text, terms_text, acts_text, braced, writes_text, body_text, if_written, flags_text, priority_text, keys_text, names_text, more_names, start_text, output_text, form_word, form_text, item_text, items_text}
use Rattle.app_tree.specs.Unplaced.{unplaced_of, unplaced_tree, unplaced_trees, unplaced_written, unplaced_acts, unplaced_body, unplaced_output, unplaced_form, unplaced_item}
use Rattle.app_check.specs.Words.{term_has_words, terms_have_words, deed_has_words, acts_have_words, body_has_words, output_has_words, form_has_words, item_has_words}
use Rattle.app_printer.proofs.Reserved.{word_text}
use Rattle.app_printer.proofs.TokenLaws.{Stands, Stands-end, place_of, name_there, Stands-blank, Stands-word, Stands-word_at, Stands-name, Stands-open, Stands-close, Stands-open_brace, Stands-close_brace, Stands-semicolon, Stands-minus, Stands-assign}
use Rattle.app_printer.proofs.Literals.{Stands-number, Stands-text}
use Rattle.app_printer.proofs.TermLaws.{Stops, Spelled, regrouped, enclosed, below, Stands-separator, term_spelled, terms_spelled}
use Rattle.app_printer.proofs.ActLaws.{writes_spelled, acts_spelled, block_stands}

-- ---- numbers and constants

-- the first way of a choice
pub first_stands : (total : ℕ) (rest : List ℕ) (one other : Wording) → Stands total rest one → Stands total rest (either one other)
first_stands total rest one other stands = record {
  utf8 = stands.utf8;
  at = λ place is. let found = stands.at place is in record { tokens = found.tokens; cut = found.cut; wanted = found.wanted };
}

number_stands : (total : ℕ) (z : ℤ) (rest : List ℕ) (w : Wording) → is_number z ≡ true → Stops rest → Stands total rest w
    → Stands total (signed_decimal z ++ rest) (spell_number z w)
number_stands total (pos zero) rest w fits halts behind = first_stands total (decimal 0 ++ rest) _ _ (Stands-number total 0 rest w refl halts behind)
number_stands total (pos (suc n)) rest w fits halts behind = Stands-number total (suc n) rest w fits halts behind
number_stands total (negsuc n) rest w fits halts behind = Stands-minus total (decimal (suc n) ++ rest) _ (Stands-number total (suc n) rest w fits halts behind)

more_numbers_halts : (zs : List ℤ) (rest : List ℕ) → Stops rest → Stops (more_numbers zs ++ rest)
more_numbers_halts [] rest halts = halts
more_numbers_halts (z ∷ zs) rest halts = refl

more_numbers_stand : (total : ℕ) (zs : List ℤ) (rest : List ℕ) (w : Wording) → list_all is_number zs ≡ true → Stops rest → Stands total rest w
    → Stands total (more_numbers zs ++ rest) (spell_more_numbers zs w)
more_numbers_stand total [] rest w fits halts behind = behind
more_numbers_stand total (z ∷ zs) rest w fits halts behind =
    let f = (and-eq-true_iff (is_number z) (list_all is_number zs)).0 fits in
    let more = more_numbers_stand total zs rest w f.1 halts behind in
    regrouped total _ _ _ (enclosed (codes ", ") (signed_decimal z) (more_numbers zs) rest)
    (Stands-separator total (signed_decimal z ++ (more_numbers zs ++ rest)) _
    (number_stands total z (more_numbers zs ++ rest) _ f.0 (more_numbers_halts zs rest halts) more))

numbers_stand : (total : ℕ) (zs : List ℤ) (rest : List ℕ) (w : Wording) → list_all is_number zs ≡ true → Stops rest → Stands total rest w
    → Stands total (numbers_text zs ++ rest) (spell_numbers zs w)
numbers_stand total [] rest w fits halts behind = behind
numbers_stand total (z ∷ zs) rest w fits halts behind =
    let f = (and-eq-true_iff (is_number z) (list_all is_number zs)).0 fits in
    let more = more_numbers_stand total zs rest w f.1 halts behind in
    regrouped total _ _ _ (append_assoc (signed_decimal z) (more_numbers zs) rest)
    (number_stands total z (more_numbers zs ++ rest) _ f.0 (more_numbers_halts zs rest halts) more)

constant_stands : (total : ℕ) (k : Value) (rest : List ℕ) (w : Wording) → constant_fits k ≡ true → Stops rest → Stands total rest w
    → Stands total (constant_text k ++ rest) (spell_constant k w)
constant_stands total v.Null rest w fits halts behind = Stands-word total word.Null rest w halts behind
constant_stands total (v.Bool true) rest w fits halts behind = Stands-word total word.True rest w halts behind
constant_stands total (v.Bool false) rest w fits halts behind = Stands-word total word.False rest w halts behind
constant_stands total (v.Int z) rest w fits halts behind = number_stands total z rest w fits halts behind
constant_stands total (v.Text bytes) rest w fits halts behind = Stands-text total bytes rest w fits behind
constant_stands total (v.Ints zs) rest w fits halts behind =
    let f = (and-eq-true_iff (nat_le (length zs) LIST_LIMIT) (list_all is_number zs)).0 fits in
    let inside = numbers_stand total zs (41 ∷ rest) _ f.1 refl (Stands-close total rest w behind) in
    regrouped total _ _ _ (enclosed (codes "c(") (numbers_text zs) (codes ")") rest)
    (Stands-word total word.C (40 ∷ (numbers_text zs ++ 41 ∷ rest)) _ refl (Stands-open total (numbers_text zs ++ 41 ∷ rest) _ inside))

start_stands : (total : ℕ) (k : Value) (rest : List ℕ) (w : Wording) → constant_fits k ≡ true → Stands total rest w
    → Stands total (start_text k ++ rest) (spell_start k w)
start_stands total k rest w fits behind =
    let inside = constant_stands total k (59 ∷ rest) _ fits refl (Stands-semicolon total rest w behind) in
    regrouped total _ _ _ (enclosed (codes " = ") (constant_text k) (codes ";") rest)
    (Stands-blank total 32 _ _ refl (Stands-assign total (constant_text k ++ 59 ∷ rest) _ (Stands-blank total 32 _ _ refl inside)))

-- ---- what stands between a name and a body

priority_halts : (z : ℤ) (rest : List ℕ) → Stops rest → Stops (priority_text z ++ rest)
priority_halts (pos zero) rest halts = halts
priority_halts (pos (suc n)) rest halts = refl
priority_halts (negsuc n) rest halts = refl

written_stands : (total : ℕ) (z : ℤ) (rest : List ℕ) (w : Wording) → is_number z ≡ true → Stops rest → Stands total rest w
    → Stands total ((codes " priority " ++ signed_decimal z) ++ rest) (written_priority z w)
written_stands total z rest w fits halts behind =
    regrouped total _ _ _ (append_assoc (codes " priority ") (signed_decimal z) rest)
    (Stands-blank total 32 _ _ refl (Stands-word total word.Priority (32 ∷ (signed_decimal z ++ rest)) _ refl
    (Stands-blank total 32 (signed_decimal z ++ rest) _ refl (number_stands total z rest w fits halts behind))))

priority_stands : (total : ℕ) (z : ℤ) (rest : List ℕ) (w : Wording) → is_number z ≡ true → Stops rest → Stands total rest w
    → Stands total (priority_text z ++ rest) (spell_priority z w)
priority_stands total (pos zero) rest w fits halts behind = first_stands total rest _ _ behind
priority_stands total (pos (suc n)) rest w fits halts behind = written_stands total (pos (suc n)) rest w fits halts behind
priority_stands total (negsuc n) rest w fits halts behind = written_stands total (negsuc n) rest w fits halts behind

flag_halts : (b : Bool) (x : Word) (rest : List ℕ) → Stops rest → Stops (if_written b (32 ∷ word_text x) ++ rest)
flag_halts true x rest halts = refl
flag_halts false x rest halts = halts

flag_stands : (total : ℕ) (x : Word) (b : Bool) (rest : List ℕ) (w : Wording) → Stops rest → Stands total rest w
    → Stands total (if_written b (32 ∷ word_text x) ++ rest) (spell_flag x b w)
flag_stands total x true rest w halts behind = Stands-blank total 32 (word_text x ++ rest) _ refl (Stands-word total x rest w halts behind)
flag_stands total x false rest w halts behind = behind

flags_halts : (flags : Flags) (rest : List ℕ) → Stops rest → Stops (flags_text flags ++ rest)
flags_halts flags rest halts =
    let init = if_written flags.ignore_init (32 ∷ word_text word.IgnoreInit) in
    let null = if_written flags.allow_null (32 ∷ word_text word.AllowNull) in
    let P : List ℕ → Type 0 = λ l. Stops l in
    subst P (sym (append_assoc init null rest))
    (flag_halts flags.ignore_init word.IgnoreInit (null ++ rest) (flag_halts flags.allow_null word.AllowNull rest halts))

flags_stand : (total : ℕ) (flags : Flags) (rest : List ℕ) (w : Wording) → Stops rest → Stands total rest w
    → Stands total (flags_text flags ++ rest) (spell_flags flags w)
flags_stand total flags rest w halts behind =
    let init = if_written flags.ignore_init (32 ∷ word_text word.IgnoreInit) in
    let null = if_written flags.allow_null (32 ∷ word_text word.AllowNull) in
    regrouped total _ _ _ (append_assoc init null rest)
    (flag_stands total word.IgnoreInit flags.ignore_init (null ++ rest) _ (flag_halts flags.allow_null word.AllowNull rest halts)
    (flag_stands total word.AllowNull flags.allow_null rest w halts behind))

keys_halts : (ts : DraftTrees) (rest : List ℕ) → Stops rest → Stops (keys_text ts ++ rest)
keys_halts no_trees rest halts = halts
keys_halts (tree t ts) rest halts = refl

-- the keys of an item that is cached
some_keys : (total : ℕ) (ts : DraftTrees) (rest : List ℕ) (w : Wording) → all_fit ts ≡ true → terms_have_words ts ≡ true → Stands total rest w
    → Spelled unplaced_trees (λ us x. a_word word.Cache (a_symbol symbol.Open (spell_terms us (a_symbol symbol.Close x)))) total
    ((codes " cache (" ++ terms_text ts ++ codes ")") ++ rest) ts w
some_keys total ts rest w fits words behind =
    let r = terms_spelled total ts LEVEL_LIMIT (41 ∷ rest) (a_symbol symbol.Close w) fits words refl (Stands-close total rest w behind) in
    record {
      placed = r.placed;
      same = r.same;
      stands = regrouped total _ _ _ (enclosed (codes " cache (") (terms_text ts) (codes ")") rest)
          (Stands-blank total 32 _ _ refl (Stands-word total word.Cache (32 ∷ 40 ∷ (terms_text ts ++ 41 ∷ rest)) _ refl
          (Stands-blank total 32 _ _ refl (Stands-open total (terms_text ts ++ 41 ∷ rest) _ r.stands))));
    }

-- keys with some places are as many
keys_placed : (total : ℕ) (t : DraftTree) (ts placed : DraftTrees) (bytes : List ℕ) (w : Wording) → unplaced_trees placed ≡ unplaced_trees (tree t ts)
    → Stands total bytes (a_word word.Cache (a_symbol symbol.Open (spell_terms placed (a_symbol symbol.Close w)))) → Stands total bytes (spell_keys placed w)
keys_placed total t ts no_trees bytes w same stands = cc
keys_placed total t ts (tree u us) bytes w same stands = stands

keys_spelled : (total : ℕ) (ts : DraftTrees) (rest : List ℕ) (w : Wording) → all_fit ts ≡ true → terms_have_words ts ≡ true → Stands total rest w
    → Spelled unplaced_trees spell_keys total (keys_text ts ++ rest) ts w
keys_spelled total no_trees rest w fits words behind = record { placed = no_trees; same = refl; stands = behind }
keys_spelled total (tree t ts) rest w fits words behind =
    let r = some_keys total (tree t ts) rest w fits words behind in
    record { placed = r.placed; same = r.same; stands = keys_placed total t ts r.placed _ w r.same r.stands }

-- ---- bodies

body_text_of : (ws t rest : List ℕ) → (codes "{ " ++ ws ++ t ++ codes " }") ++ rest ≡ codes "{ " ++ (ws ++ (t ++ 32 ∷ 125 ∷ rest))
body_text_of ws t rest = parts (codes "{ ") ws t (codes " }") rest
  where
    parts : (o ws t c rest : List ℕ) → (o ++ ws ++ t ++ c) ++ rest ≡ o ++ (ws ++ (t ++ (c ++ rest)))
    parts o ws t c rest = simp append_assoc

body_same : (ws vs us xs : List WrittenDeed) (t u : DraftTree) → map unplaced_written ws ≡ map unplaced_written vs → unplaced_tree t ≡ unplaced_tree u
    → unplaced_body (record { writes = ws; term = t }) ≡ unplaced_body (record { writes = vs; term = u })
body_same ws vs us xs t u e f = ap₂ (λ (x : List WrittenDeed) (y : DraftTree). record { writes = x; term = y }) e f

body_spelled : (total : ℕ) (body : WrittenBody) (rest : List ℕ) (w : Wording) → body_fits body ≡ true → body_has_words body ≡ true → Stands total rest w
    → Spelled unplaced_body spell_body total (body_text body ++ rest) body w
body_spelled total body rest w fits words behind =
    let f = (and-eq-true_iff (list_all write_fits body.writes) (whole_fits body.term)).0 fits in
    let h = (and-eq-true_iff (list_all (λ d. deed_has_words d.deed) body.writes) (term_has_words body.term)).0 words in
    let b = below body.term LEVEL_LIMIT f.1 in
    let last = term_spelled total body.term b.levels (32 ∷ 125 ∷ rest) (a_symbol symbol.CloseBrace w) b.fits h.1 refl
    (Stands-blank total 32 (125 ∷ rest) _ refl (Stands-close_brace total rest w behind)) in
    let first = writes_spelled total body.writes (term_text body.term ++ 32 ∷ 125 ∷ rest) _ f.0 h.0 last.stands in
    record {
      placed = record { writes = first.placed; term = last.placed };
      same = body_same first.placed body.writes [] [] last.placed body.term first.same last.same;
      stands = regrouped total _ _ _ (body_text_of (writes_text body.writes) (term_text body.term) rest)
          (Stands-open_brace total (32 ∷ (writes_text body.writes ++ (term_text body.term ++ 32 ∷ 125 ∷ rest))) _
          (Stands-blank total 32 _ _ refl first.stands));
    }

block_spelled : (total : ℕ) (block : DraftActs) (rest : List ℕ) (w : Wording) → block_fits block ≡ true → acts_have_words block ≡ true → Stands total rest w
    → Spelled unplaced_acts spell_block total (braced (acts_text block) ++ rest) block w
block_spelled total block rest w fits words behind =
    let r = acts_spelled total block 63 (125 ∷ rest) (a_symbol symbol.CloseBrace w) fits words (Stands-close_brace total rest w behind) in
    record {
      placed = r.placed;
      same = r.same;
      stands = regrouped total _ _ _ (enclosed (codes "{ ") (acts_text block) (codes "}") rest) (block_stands total (acts_text block) rest _ r.stands);
    }

-- " (" term ") "
bracketed_spelled : (total : ℕ) (t : DraftTree) (rest : List ℕ) (w : Wording) → whole_fits t ≡ true → term_has_words t ≡ true → Stands total rest w
    → Spelled unplaced_tree spell_bracketed total (codes " (" ++ (term_text t ++ (codes ") " ++ rest))) t w
bracketed_spelled total t rest w fits words behind =
    let b = below t LEVEL_LIMIT fits in
    let r = term_spelled total t b.levels (codes ") " ++ rest) (a_symbol symbol.Close w) b.fits words refl
    (Stands-close total (32 ∷ rest) w (Stands-blank total 32 rest w refl behind)) in
    record {
      placed = r.placed;
      same = r.same;
      stands = Stands-blank total 32 _ _ refl (Stands-open total (term_text t ++ (codes ") " ++ rest)) _ r.stands);
    }

-- ---- parameters

more_names_halts : (ns : List Name) (rest : List ℕ) → Stops rest → Stops (more_names ns ++ rest)
more_names_halts [] rest halts = halts
more_names_halts (n ∷ ns) rest halts = refl

names_same : (n m : Name) (ns ms : List Name) → unplaced_of n ≡ unplaced_of m → map unplaced_of ns ≡ map unplaced_of ms → map unplaced_of (n ∷ ns) ≡ map unplaced_of (m ∷ ms)
names_same n m ns ms e f = ap₂ (λ (x : Name) (xs : List Name). x ∷ xs) e f

more_names_spelled : (total : ℕ) (ns : List Name) (rest : List ℕ) (w : Wording) → list_all name_fits ns ≡ true → Stops rest → Stands total rest w
    → Spelled (map unplaced_of) spell_more_names total (more_names ns ++ rest) ns w
more_names_spelled total [] rest w fits halts behind = record { placed = []; same = refl; stands = behind }
more_names_spelled total (n ∷ ns) rest w fits halts behind =
    let h = (and-eq-true_iff (name_fits n) (list_all name_fits ns)).0 fits in
    let more = more_names_spelled total ns rest w h.1 halts behind in
    let after = more_names ns ++ rest in
    record {
      placed = name_there total n.text after ∷ more.placed;
      same = names_same (name_there total n.text after) n more.placed ns refl more.same;
      stands = regrouped total _ _ _ (enclosed (codes ", ") n.text (more_names ns) rest)
          (Stands-separator total (n.text ++ after) _ (Stands-name total n.text after _ h.0 (more_names_halts ns rest halts) more.stands));
    }

names_spelled : (total : ℕ) (ns : List Name) (rest : List ℕ) (w : Wording) → list_all name_fits ns ≡ true → Stops rest → Stands total rest w
    → Spelled (map unplaced_of) spell_names total (names_text ns ++ rest) ns w
names_spelled total [] rest w fits halts behind = record { placed = []; same = refl; stands = behind }
names_spelled total (n ∷ ns) rest w fits halts behind =
    let h = (and-eq-true_iff (name_fits n) (list_all name_fits ns)).0 fits in
    let more = more_names_spelled total ns rest w h.1 halts behind in
    let after = more_names ns ++ rest in
    record {
      placed = name_there total n.text after ∷ more.placed;
      same = names_same (name_there total n.text after) n more.placed ns refl more.same;
      stands = regrouped total _ _ _ (append_assoc n.text (more_names ns) rest)
          (Stands-name total n.text after _ h.0 (more_names_halts ns rest halts) more.stands);
    }

-- ---- what stands behind an item's name

-- a cached body, or one that isn't cached
cached_text_of : (keys body rest : List ℕ) → (keys ++ codes " " ++ body) ++ rest ≡ keys ++ (32 ∷ (body ++ rest))
cached_text_of keys body rest = simp append_assoc

output_text_of : (p h k body rest : List ℕ) → (p ++ h ++ k ++ codes " " ++ body) ++ rest ≡ p ++ (h ++ (k ++ 32 ∷ (body ++ rest)))
output_text_of p h k body rest = simp append_assoc

output_same : (p : ℤ) (h : Bool) (ks ls : DraftTrees) (b c : WrittenBody) → unplaced_trees ks ≡ unplaced_trees ls → unplaced_body b ≡ unplaced_body c
    → unplaced_output (record { priority = p; while_hidden = h; keys = ks; body = b }) ≡ unplaced_output (record { priority = p; while_hidden = h; keys = ls; body = c })
output_same p h ks ls b c e f = ap₂ (λ (x : DraftTrees) (y : WrittenBody). record { priority = p; while_hidden = h; keys = x; body = y }) e f

output_spelled : (total : ℕ) (output : WrittenOutput) (rest : List ℕ) (w : Wording) → output_fits output ≡ true → output_has_words output ≡ true → Stands total rest w
    → Spelled unplaced_output spell_output total (output_text output ++ rest) output w
output_spelled total output rest w fits words behind =
    let f = (and-eq-true_iff (is_number output.priority && all_fit output.keys) (body_fits output.body)).0 fits in
    let g = (and-eq-true_iff (is_number output.priority) (all_fit output.keys)).0 f.0 in
    let h = (and-eq-true_iff (terms_have_words output.keys) (body_has_words output.body)).0 words in
    let body = body_spelled total output.body rest w f.1 h.1 behind in
    let after_keys = 32 ∷ (body_text output.body ++ rest) in
    let keys = keys_spelled total output.keys after_keys _ g.1 h.0 (Stands-blank total 32 (body_text output.body ++ rest) _ refl body.stands) in
    let after_hidden = keys_text output.keys ++ after_keys in
    let hidden = flag_stands total word.WhileHidden output.while_hidden after_hidden _ (keys_halts output.keys after_keys refl) keys.stands in
    let after_priority = if_written output.while_hidden (codes " whileHidden") ++ after_hidden in
    record {
      placed = record { priority = output.priority; while_hidden = output.while_hidden; keys = keys.placed; body = body.placed };
      same = output_same output.priority output.while_hidden keys.placed output.keys body.placed output.body keys.same body.same;
      stands = regrouped total _ _ _
          (output_text_of (priority_text output.priority) (if_written output.while_hidden (codes " whileHidden")) (keys_text output.keys) (body_text output.body) rest)
          (priority_stands total output.priority after_priority _ g.0
          (flag_halts output.while_hidden word.WhileHidden after_hidden (keys_halts output.keys after_keys refl)) hidden);
    }

task_text_of : (ns t rest : List ℕ)
    → (codes " (" ++ ns ++ codes ") { " ++ t ++ codes " }") ++ rest ≡ codes " (" ++ (ns ++ (41 ∷ 32 ∷ 123 ∷ 32 ∷ (t ++ 32 ∷ 125 ∷ rest)))
task_text_of ns t rest = parts (codes " (") ns (codes ") { ") t (codes " }") rest
  where
    parts : (o ns p t c rest : List ℕ) → (o ++ ns ++ p ++ t ++ c) ++ rest ≡ o ++ (ns ++ (p ++ (t ++ (c ++ rest))))
    parts o ns p t c rest = simp append_assoc

event_text_of : (fs e body rest : List ℕ)
    → (fs ++ codes " (" ++ e ++ codes ") " ++ body) ++ rest ≡ fs ++ (codes " (" ++ (e ++ (codes ") " ++ (body ++ rest))))
event_text_of fs e body rest = parts fs (codes " (") e (codes ") ") body rest
  where
    parts : (fs o e p body rest : List ℕ) → (fs ++ o ++ e ++ p ++ body) ++ rest ≡ fs ++ (o ++ (e ++ (p ++ (body ++ rest))))
    parts fs o e p body rest = simp append_assoc

on_text_of : (pr fs e block rest : List ℕ)
    → (pr ++ fs ++ codes " (" ++ e ++ codes ") " ++ block) ++ rest ≡ pr ++ (fs ++ (codes " (" ++ (e ++ (codes ") " ++ (block ++ rest)))))
on_text_of pr fs e block rest = parts pr fs (codes " (") e (codes ") ") block rest
  where
    parts : (pr fs o e p body rest : List ℕ) → (pr ++ fs ++ o ++ e ++ p ++ body) ++ rest ≡ pr ++ (fs ++ (o ++ (e ++ (p ++ (body ++ rest)))))
    parts pr fs o e p body rest = simp append_assoc

abbrev FormSpelled : ℕ → List ℕ → WrittenForm → Wording → Type 0
FormSpelled = Spelled unplaced_form spell_form

form_spelled : (total : ℕ) (form : WrittenForm) (rest : List ℕ) (w : Wording) → form_fits form ≡ true → form_has_words form ≡ true → Stands total rest w
    → FormSpelled total (form_text form ++ rest) form w
form_spelled total (input start) rest w fits words behind = record { placed = input start; same = refl; stands = start_stands total start rest w fits behind }
form_spelled total (value start) rest w fits words behind = record { placed = value start; same = refl; stands = start_stands total start rest w fits behind }
form_spelled total (task parameters body) rest w fits words behind =
    let f = (and-eq-true_iff (list_all name_fits parameters) (whole_fits body)).0 fits in
    let b = below body LEVEL_LIMIT f.1 in
    let r = term_spelled total body b.levels (32 ∷ 125 ∷ rest) (a_symbol symbol.CloseBrace w) b.fits words refl
    (Stands-blank total 32 (125 ∷ rest) _ refl (Stands-close_brace total rest w behind)) in
    let inside = term_text body ++ 32 ∷ 125 ∷ rest in
    let after = 41 ∷ 32 ∷ 123 ∷ 32 ∷ inside in
    let names = names_spelled total parameters after _ f.0 refl (Stands-close total (32 ∷ 123 ∷ 32 ∷ inside) _
    (Stands-blank total 32 (123 ∷ 32 ∷ inside) _ refl (Stands-open_brace total (32 ∷ inside) _ (Stands-blank total 32 inside _ refl r.stands)))) in
    record {
      placed = task names.placed r.placed;
      same = ap₂ task names.same r.same;
      stands = regrouped total _ _ _ (task_text_of (names_text parameters) (term_text body) rest)
          (Stands-blank total 32 _ _ refl (Stands-open total (names_text parameters ++ after) _ names.stands));
    }
form_spelled total (reactive keys body) rest w fits words behind =
    let f = (and-eq-true_iff (all_fit keys) (body_fits body)).0 fits in
    let h = (and-eq-true_iff (terms_have_words keys) (body_has_words body)).0 words in
    let r = body_spelled total body rest w f.1 h.1 behind in
    let k = keys_spelled total keys (32 ∷ (body_text body ++ rest)) _ f.0 h.0 (Stands-blank total 32 (body_text body ++ rest) _ refl r.stands) in
    record {
      placed = reactive k.placed r.placed;
      same = ap₂ reactive k.same r.same;
      stands = regrouped total _ _ _ (cached_text_of (keys_text keys) (body_text body) rest) k.stands;
    }
form_spelled total (event flags e body) rest w fits words behind =
    let f = (and-eq-true_iff (whole_fits e) (body_fits body)).0 fits in
    let h = (and-eq-true_iff (term_has_words e) (body_has_words body)).0 words in
    let r = body_spelled total body rest w f.1 h.1 behind in
    let t = bracketed_spelled total e (body_text body ++ rest) _ f.0 h.0 r.stands in
    let after = codes " (" ++ (term_text e ++ (codes ") " ++ (body_text body ++ rest))) in
    record {
      placed = event flags t.placed r.placed;
      same = ap₂ (event flags) t.same r.same;
      stands = regrouped total _ _ _ (event_text_of (flags_text flags) (term_text e) (body_text body) rest) (flags_stand total flags after _ refl t.stands);
    }
form_spelled total (text output) rest w fits words behind =
    let r = output_spelled total output rest w fits words behind in
    record { placed = text r.placed; same = ap text r.same; stands = r.stands }
form_spelled total (plot output) rest w fits words behind =
    let r = output_spelled total output rest w fits words behind in
    record { placed = plot r.placed; same = ap plot r.same; stands = r.stands }
form_spelled total (observe priority block) rest w fits words behind =
    let f = (and-eq-true_iff (is_number priority) (block_fits block)).0 fits in
    let r = block_spelled total block rest w f.1 words behind in
    record {
      placed = observe priority r.placed;
      same = ap (observe priority) r.same;
      stands = regrouped total _ _ _ (cached_text_of (priority_text priority) (braced (acts_text block)) rest)
          (priority_stands total priority (32 ∷ (braced (acts_text block) ++ rest)) _ f.0 refl (Stands-blank total 32 _ _ refl r.stands));
    }
form_spelled total (on priority flags e block) rest w fits words behind =
    let f = (and-eq-true_iff (is_number priority && whole_fits e) (block_fits block)).0 fits in
    let g = (and-eq-true_iff (is_number priority) (whole_fits e)).0 f.0 in
    let h = (and-eq-true_iff (term_has_words e) (acts_have_words block)).0 words in
    let r = block_spelled total block rest w f.1 h.1 behind in
    let t = bracketed_spelled total e (braced (acts_text block) ++ rest) _ g.1 h.0 r.stands in
    let after = codes " (" ++ (term_text e ++ (codes ") " ++ (braced (acts_text block) ++ rest))) in
    record {
      placed = on priority flags t.placed r.placed;
      same = ap₂ (on priority flags) t.same r.same;
      stands = regrouped total _ _ _ (on_text_of (priority_text priority) (flags_text flags) (term_text e) (braced (acts_text block)) rest)
          (priority_stands total priority (flags_text flags ++ after) _ g.0 (flags_halts flags after refl) (flags_stand total flags after _ refl t.stands));
    }

halts_by : (xs ys : List ℕ) → xs ≡ ys → Stops ys → Stops xs
halts_by xs ys is halts = let P : List ℕ → Type 0 = λ l. Stops l in subst P (sym is) halts

form_halts : (form : WrittenForm) (rest : List ℕ) → Stops (form_text form ++ rest)
form_halts (input start) rest = refl
form_halts (value start) rest = refl
form_halts (task parameters body) rest = refl
form_halts (reactive keys body) rest = halts_by _ _ (cached_text_of (keys_text keys) (body_text body) rest) (keys_halts keys (32 ∷ (body_text body ++ rest)) refl)
form_halts (event flags e body) rest =
    halts_by _ _ (event_text_of (flags_text flags) (term_text e) (body_text body) rest)
    (flags_halts flags (codes " (" ++ (term_text e ++ (codes ") " ++ (body_text body ++ rest)))) refl)
form_halts (text output) rest = output_halts output rest
  where
    output_halts : (output : WrittenOutput) (rest : List ℕ) → Stops (output_text output ++ rest)
    output_halts output rest =
        let after = keys_text output.keys ++ 32 ∷ (body_text output.body ++ rest) in
        halts_by _ _
        (output_text_of (priority_text output.priority) (if_written output.while_hidden (codes " whileHidden")) (keys_text output.keys) (body_text output.body) rest)
        (priority_halts output.priority (if_written output.while_hidden (codes " whileHidden") ++ after)
        (flag_halts output.while_hidden word.WhileHidden after (keys_halts output.keys (32 ∷ (body_text output.body ++ rest)) refl)))
form_halts (plot output) rest =
    let after = keys_text output.keys ++ 32 ∷ (body_text output.body ++ rest) in
    halts_by _ _
    (output_text_of (priority_text output.priority) (if_written output.while_hidden (codes " whileHidden")) (keys_text output.keys) (body_text output.body) rest)
    (priority_halts output.priority (if_written output.while_hidden (codes " whileHidden") ++ after)
    (flag_halts output.while_hidden word.WhileHidden after (keys_halts output.keys (32 ∷ (body_text output.body ++ rest)) refl)))
form_halts (observe priority block) rest =
    halts_by _ _ (cached_text_of (priority_text priority) (braced (acts_text block)) rest)
    (priority_halts priority (32 ∷ (braced (acts_text block) ++ rest)) refl)
form_halts (on priority flags e block) rest =
    let after = codes " (" ++ (term_text e ++ (codes ") " ++ (braced (acts_text block) ++ rest))) in
    halts_by _ _ (on_text_of (priority_text priority) (flags_text flags) (term_text e) (braced (acts_text block)) rest)
    (priority_halts priority (flags_text flags ++ after) (flags_halts flags after refl))

-- ---- items

form_word-text : (form : WrittenForm) → form_word form ≡ word_text (spelt.form_word form) ++ codes " "
form_word-text (input start) = refl
form_word-text (value start) = refl
form_word-text (task parameters body) = refl
form_word-text (reactive keys body) = refl
form_word-text (event flags e body) = refl
form_word-text (text output) = refl
form_word-text (plot output) = refl
form_word-text (observe priority block) = refl
form_word-text (on priority flags e block) = refl

-- forms that are the same but for places begin with the same word
same_word : (one other : WrittenForm) → unplaced_form one ≡ unplaced_form other → spelt.form_word one ≡ spelt.form_word other
same_word one other e = unplaced_word one ∙ (ap spelt.form_word e ∙ sym (unplaced_word other))
  where
    unplaced_word : (form : WrittenForm) → spelt.form_word form ≡ spelt.form_word (unplaced_form form)
    unplaced_word (input start) = refl
    unplaced_word (value start) = refl
    unplaced_word (task parameters body) = refl
    unplaced_word (reactive keys body) = refl
    unplaced_word (event flags e body) = refl
    unplaced_word (text output) = refl
    unplaced_word (plot output) = refl
    unplaced_word (observe priority block) = refl
    unplaced_word (on priority flags e block) = refl

item_text_of : (w n f rest : List ℕ) → ((w ++ codes " ") ++ n ++ f) ++ rest ≡ w ++ (32 ∷ (n ++ (f ++ rest)))
item_text_of w n f rest = parts w (codes " ") n f rest
  where
    parts : (w b n f rest : List ℕ) → ((w ++ b) ++ n ++ f) ++ rest ≡ w ++ (b ++ (n ++ (f ++ rest)))
    parts w b n f rest = simp append_assoc

item_same : (p q : ℕ) (n m : Name) (f g : WrittenForm) → unplaced_of n ≡ unplaced_of m → unplaced_form f ≡ unplaced_form g
    → unplaced_item (record { place = p; name = n; form = f }) ≡ unplaced_item (record { place = q; name = m; form = g })
item_same p q n m f g e h = ap₂ (λ (x : Name) (y : WrittenForm). record { place = 0; name = x; form = y }) e h

item_spelled : (total : ℕ) (item : WrittenItem) (rest : List ℕ) (w : Wording) → item_fits item ≡ true → item_has_words item ≡ true → Stands total rest w
    → Spelled unplaced_item spell_item total (item_text item ++ rest) item w
item_spelled total item rest w fits words behind =
    let h = (and-eq-true_iff (name_fits item.name) (form_has_words item.form)).0 words in
    let r = form_spelled total item.form rest w fits h.1 behind in
    let after = form_text item.form ++ rest in
    let name = name_there total item.name.text after in
    let bytes = 32 ∷ (item.name.text ++ after) in
    let word = spelt.form_word item.form in
    let stands = Stands-word_at total word bytes (a_name name (spell_form r.placed w)) refl
    (Stands-blank total 32 (item.name.text ++ after) _ refl (Stands-name total item.name.text after _ h.0 (form_halts item.form rest) r.stands)) in
    let place = place_of total (word_text word ++ bytes) in
    let P : Word → Type 0 = λ x. Stands total (word_text word ++ bytes) (a_word_at x place (a_name name (spell_form r.placed w))) in
    record {
      placed = record { place = place; name = name; form = r.placed };
      same = item_same place item.place name item.name r.placed item.form refl r.same;
      stands = regrouped total _ _ _ (ap (λ x. (x ++ item.name.text ++ form_text item.form) ++ rest) (form_word-text item.form)
          ∙ item_text_of (word_text word) item.name.text (form_text item.form) rest)
          (subst P (sym (same_word r.placed item.form r.same)) stands);
    }

pub items_spelled : (total : ℕ) (items : List WrittenItem) → list_all item_fits items ≡ true → list_all item_has_words items ≡ true
    → Spelled (map unplaced_item) spell_items total (items_text items) items ends
items_spelled total [] fits words = record { placed = []; same = refl; stands = Stands-end total }
items_spelled total (item ∷ items) fits words =
    let f = (and-eq-true_iff (item_fits item) (list_all item_fits items)).0 fits in
    let h = (and-eq-true_iff (item_has_words item) (list_all item_has_words items)).0 words in
    let more = items_spelled total items f.1 h.1 in
    let first = item_spelled total item (10 ∷ items_text items) _ f.0 h.0 (Stands-blank total 10 (items_text items) _ refl more.stands) in
    record {
      placed = first.placed ∷ more.placed;
      same = ap₂ (λ (x : WrittenItem) (xs : List WrittenItem). x ∷ xs) first.same more.same;
      stands = first.stands;
    }
