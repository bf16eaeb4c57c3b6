-- The tokens of the canonical text of statements.
use Rattle.std.proofs.Common.{◌≡◌, ℕ, zero, suc, List, [], ◌∷◌, ◌++◌, codes, refl, ap, ap₂, true, ◌&&◌, append_assoc, map}
use Rattle.std.proofs.Math.Bool.{and-eq-true_iff}
use Rattle.std.specs.List.{list_all}
use Rattle.app_tree.specs.declared.limits.TheConstants.{LEVEL_LIMIT}
use Rattle.rx_value.specs.Names.{is_name}
use Rattle.app_tokens.specs.declared.word.Word.TheVariants as word
use Rattle.app_tokens.specs.declared.symbol.Symbol.TheVariants as symbol
use Rattle.app_tree.specs.declared.draft_term.Name.{Name}
use Rattle.app_tree.specs.DraftTree.{DraftTree, DraftTrees, DraftDeed, set, invoke, update, freeze, WrittenDeed, DraftAct, write, perform, branch, branch_else, DraftActs, no_acts, act}
use Rattle.app_tree.specs.Fits.{deeper, whole_fits, deed_fits, write_fits, act_fits, acts_fit}
use Rattle.app_reader.specs.Spelling.{Wording, a_symbol, spell_assigned, spell_write, spell_writes, spell_condition, spell_act, spell_acts}
use Rattle.app_printer.specs.Canonical.{term_text, terms_text, deed_text, braced, act_text, acts_text, writes_text}
use Rattle.app_tree.specs.Unplaced.{unplaced_of, unplaced_tree, unplaced_written, unplaced_act, unplaced_acts}
use Rattle.app_check.specs.Words.{term_has_words, terms_have_words, deed_has_words, act_has_words, acts_have_words}
use Rattle.app_printer.proofs.Reserved.{word_text}
use Rattle.app_printer.proofs.TokenLaws.{Stands, place_of, name_there, Stands-blank, Stands-word, Stands-word_at, Stands-name, Stands-open, Stands-close, Stands-open_brace, Stands-close_brace, Stands-semicolon, Stands-assign}
use Rattle.app_printer.proofs.TermLaws.{Spelled, regrouped, enclosed, below, term_spelled, terms_spelled}

-- ---- writes

assigned_text_of : (front name t rest : List ℕ) → (front ++ (name ++ codes " = " ++ t ++ codes ";")) ++ rest ≡ front ++ (name ++ (codes " = " ++ (t ++ 59 ∷ rest)))
assigned_text_of front name t rest = simp append_assoc

-- NAME " = " term ";"
assigned_spelled : (total : ℕ) (name : Name) (t : DraftTree) (rest : List ℕ) (w : Wording) → whole_fits t ≡ true → (is_name name.text && term_has_words t) ≡ true
    → Stands total rest w
    → (there : Name) × (placed : DraftTree) × (unplaced_of there ≡ unplaced_of name) × (unplaced_tree placed ≡ unplaced_tree t)
    × Stands total (name.text ++ (codes " = " ++ (term_text t ++ 59 ∷ rest))) (spell_assigned there placed w)
assigned_spelled total name t rest w fits words behind =
    let h = (and-eq-true_iff (is_name name.text) (term_has_words t)).0 words in
    let b = below t LEVEL_LIMIT fits in
    let r = term_spelled total t b.levels (59 ∷ rest) (a_symbol symbol.Semicolon w) b.fits h.1 refl (Stands-semicolon total rest w behind) in
    let after = codes " = " ++ (term_text t ++ 59 ∷ rest) in (
      name_there total name.text after,
      r.placed,
      refl,
      r.same,
      Stands-name total name.text after _ h.0 refl (Stands-blank total 32 _ _ refl
          (Stands-assign total (term_text t ++ 59 ∷ rest) _ (Stands-blank total 32 _ _ refl r.stands))),
    )

invoke_text : (name ts rest : List ℕ) → (codes "invoke " ++ name ++ codes "(" ++ ts ++ codes ");") ++ rest ≡ codes "invoke " ++ (name ++ 40 ∷ (ts ++ 41 ∷ 59 ∷ rest))
invoke_text name ts rest = simp append_assoc

abbrev pub WriteSpelled : ℕ → List ℕ → WrittenDeed → Wording → Type 0
WriteSpelled = Spelled unplaced_written spell_write

set_same : (n m : Name) (t u : DraftTree) → unplaced_of n ≡ unplaced_of m → unplaced_tree t ≡ unplaced_tree u
    → unplaced_written (record { place = 0; deed = set n t }) ≡ unplaced_written (record { place = 0; deed = set m u })
set_same n m t u e f = ap₂ (λ (x : Name) (y : DraftTree). record { place = 0; deed = set x y }) e f

update_same : (n m : Name) (t u : DraftTree) → unplaced_of n ≡ unplaced_of m → unplaced_tree t ≡ unplaced_tree u
    → unplaced_written (record { place = 0; deed = update n t }) ≡ unplaced_written (record { place = 0; deed = update m u })
update_same n m t u e f = ap₂ (λ (x : Name) (y : DraftTree). record { place = 0; deed = update x y }) e f

deed_spelled : (total place : ℕ) (d : DraftDeed) (rest : List ℕ) (w : Wording) → deed_fits d ≡ true → deed_has_words d ≡ true → Stands total rest w
    → WriteSpelled total (deed_text d ++ rest) (record { place = place; deed = d }) w
deed_spelled total place (set name t) rest w fits words behind =
    let r = assigned_spelled total name t rest w fits words behind in
    let inside = name.text ++ (codes " = " ++ (term_text t ++ 59 ∷ rest)) in
    record {
      placed = record { place = place_of total (word_text word.Set ++ 32 ∷ inside); deed = set r.0 r.1 };
      same = set_same r.0 name r.1 t r.2 r.3;
      stands = regrouped total _ _ _ (assigned_text_of (codes "set ") name.text (term_text t) rest)
          (Stands-word_at total word.Set (32 ∷ inside) _ refl (Stands-blank total 32 inside _ refl r.4));
    }
deed_spelled total place (invoke name ts) rest w fits words behind =
    let h = (and-eq-true_iff (is_name name.text) (terms_have_words ts)).0 words in
    let r = terms_spelled total ts LEVEL_LIMIT (41 ∷ 59 ∷ rest) (a_symbol symbol.Close (a_symbol symbol.Semicolon w)) fits h.1 refl
    (Stands-close total (59 ∷ rest) (a_symbol symbol.Semicolon w) (Stands-semicolon total rest w behind)) in
    let after = 40 ∷ (terms_text ts ++ 41 ∷ 59 ∷ rest) in
    record {
      placed = record { place = place_of total (word_text word.Invoke ++ 32 ∷ (name.text ++ after)); deed = invoke (name_there total name.text after) r.placed };
      same = ap (λ (x : DraftTrees). record { place = 0; deed = invoke (unplaced_of name) x }) r.same;
      stands = regrouped total _ _ _ (invoke_text name.text (terms_text ts) rest)
          (Stands-word_at total word.Invoke (32 ∷ (name.text ++ after)) _ refl (Stands-blank total 32 (name.text ++ after) _ refl
          (Stands-name total name.text after _ h.0 refl (Stands-open total (terms_text ts ++ 41 ∷ 59 ∷ rest) _ r.stands))));
    }
deed_spelled total place (update name t) rest w fits words behind =
    let r = assigned_spelled total name t rest w fits words behind in
    let inside = name.text ++ (codes " = " ++ (term_text t ++ 59 ∷ rest)) in
    record {
      placed = record { place = place_of total (word_text word.Update ++ 32 ∷ inside); deed = update r.0 r.1 };
      same = update_same r.0 name r.1 t r.2 r.3;
      stands = regrouped total _ _ _ (assigned_text_of (codes "update ") name.text (term_text t) rest)
          (Stands-word_at total word.Update (32 ∷ inside) _ refl (Stands-blank total 32 inside _ refl r.4));
    }
deed_spelled total place (freeze name) rest w fits words behind =
    record {
      placed = record { place = place_of total (word_text word.Freeze ++ 32 ∷ (name.text ++ 59 ∷ rest)); deed = freeze (name_there total name.text (59 ∷ rest)) };
      same = refl;
      stands = regrouped total _ _ _ (enclosed (codes "freeze ") name.text (codes ";") rest)
          (Stands-word_at total word.Freeze (32 ∷ (name.text ++ 59 ∷ rest)) _ refl (Stands-blank total 32 (name.text ++ 59 ∷ rest) _ refl
          (Stands-name total name.text (59 ∷ rest) _ words refl (Stands-semicolon total rest w behind))));
    }

pub writes_spelled : (total : ℕ) (ws : List WrittenDeed) (rest : List ℕ) (w : Wording) → list_all write_fits ws ≡ true → list_all (λ d. deed_has_words d.deed) ws ≡ true
    → Stands total rest w → Spelled (map unplaced_written) spell_writes total (writes_text ws ++ rest) ws w
writes_spelled total [] rest w fits words behind = record { placed = []; same = refl; stands = behind }
writes_spelled total (d ∷ ds) rest w fits words behind =
    let f = (and-eq-true_iff (write_fits d) (list_all write_fits ds)).0 fits in
    let h = (and-eq-true_iff (deed_has_words d.deed) (list_all (λ d. deed_has_words d.deed) ds)).0 words in
    let more = writes_spelled total ds rest w f.1 h.1 behind in
    let first = deed_spelled total d.place d.deed (32 ∷ (writes_text ds ++ rest)) _ f.0 h.0 (Stands-blank total 32 _ _ refl more.stands) in
    record {
      placed = first.placed ∷ more.placed;
      same = ap₂ (λ (x : WrittenDeed) (xs : List WrittenDeed). x ∷ xs) first.same more.same;
      stands = regrouped total _ _ _ (enclosed (deed_text d.deed) (codes " ") (writes_text ds) rest) first.stands;
    }

-- ---- statements

-- "if (" term ") "
condition_spelled : (total : ℕ) (t : DraftTree) (rest : List ℕ) (w : Wording) → whole_fits t ≡ true → term_has_words t ≡ true → Stands total rest w
    → Spelled unplaced_tree spell_condition total (codes "if (" ++ (term_text t ++ (codes ") " ++ rest))) t w
condition_spelled total t rest w fits words behind =
    let b = below t LEVEL_LIMIT fits in
    let r = term_spelled total t b.levels (codes ") " ++ rest) (a_symbol symbol.Close w) b.fits words refl
    (Stands-close total (32 ∷ rest) w (Stands-blank total 32 rest w refl behind)) in
    record {
      placed = r.placed;
      same = r.same;
      stands = Stands-word total word.If (32 ∷ 40 ∷ (term_text t ++ (codes ") " ++ rest))) _ refl
          (Stands-blank total 32 _ _ refl (Stands-open total (term_text t ++ (codes ") " ++ rest)) _ r.stands));
    }

-- what is left of the levels
record ActsBelow (block : DraftActs) : Type 0 where
  levels : ℕ
  fits : acts_fit block levels ≡ true

acts_below : (block : DraftActs) (levels : ℕ) → deeper levels (λ b. acts_fit block b) ≡ true → ActsBelow block
acts_below block zero e = cc
acts_below block (suc levels) e = record { levels = levels; fits = e }

-- the inside of a block's braces
pub block_stands : (total : ℕ) (inside rest : List ℕ) (w : Wording) → Stands total (inside ++ 125 ∷ rest) w
    → Stands total (codes "{ " ++ (inside ++ 125 ∷ rest)) (a_symbol symbol.OpenBrace w)
block_stands total inside rest w stands = Stands-open_brace total (32 ∷ (inside ++ 125 ∷ rest)) w (Stands-blank total 32 (inside ++ 125 ∷ rest) w refl stands)

branch_text : (t a rest : List ℕ) → (codes "if (" ++ t ++ codes ") " ++ braced a) ++ rest ≡ codes "if (" ++ (t ++ (codes ") " ++ (codes "{ " ++ (a ++ 125 ∷ rest))))
branch_text t a rest = parts (codes "if (") t (codes ") ") (codes "{ ") a (codes "}") rest
  where
    parts : (p t q o a c rest : List ℕ) → (p ++ t ++ q ++ (o ++ a ++ c)) ++ rest ≡ p ++ (t ++ (q ++ (o ++ (a ++ (c ++ rest)))))
    parts p t q o a c rest = simp append_assoc

branch_else_text : (t a b rest : List ℕ)
    → (codes "if (" ++ t ++ codes ") " ++ braced a ++ codes " else " ++ braced b) ++ rest
    ≡ codes "if (" ++ (t ++ (codes ") " ++ (codes "{ " ++ (a ++ 125 ∷ (codes " else " ++ (codes "{ " ++ (b ++ 125 ∷ rest)))))))
branch_else_text t a b rest = parts (codes "if (") t (codes ") ") (codes "{ ") a (codes "}") (codes " else ") b rest
  where
    parts : (p t q o a c e b rest : List ℕ)
        → (p ++ t ++ q ++ (o ++ a ++ c) ++ e ++ (o ++ b ++ c)) ++ rest ≡ p ++ (t ++ (q ++ (o ++ (a ++ (c ++ (e ++ (o ++ (b ++ (c ++ rest)))))))))
    parts p t q o a c e b rest = simp append_assoc

branch_else_same : (t u : DraftTree) (a b c d : DraftActs) → t ≡ u → a ≡ b → c ≡ d → branch_else t a c ≡ branch_else u b d
branch_else_same t u a b c d e f g = cc

mutual
  pub act_spelled : (total : ℕ) (a : DraftAct) (levels : ℕ) (rest : List ℕ) (w : Wording) → act_fits a levels ≡ true → act_has_words a ≡ true
      → Stands total rest w → Spelled unplaced_act spell_act total (act_text a ++ rest) a w
  act_spelled total (write d) levels rest w fits words behind =
      let r = deed_spelled total d.place d.deed rest w fits words behind in
      record { placed = write r.placed; same = ap write r.same; stands = r.stands }
  act_spelled total (perform t) levels rest w fits words behind =
      let b = below t LEVEL_LIMIT fits in
      let r = term_spelled total t b.levels (59 ∷ rest) (a_symbol symbol.Semicolon w) b.fits words refl (Stands-semicolon total rest w behind) in
      record {
        placed = perform r.placed;
        same = ap perform r.same;
        stands = regrouped total _ _ _ (enclosed (codes "do ") (term_text t) (codes ";") rest)
            (Stands-word total word.Do (32 ∷ (term_text t ++ 59 ∷ rest)) _ refl (Stands-blank total 32 _ _ refl r.stands));
      }
  act_spelled total (branch t block) levels rest w fits words behind =
      let f = (and-eq-true_iff (whole_fits t) (deeper levels (λ b. acts_fit block b))).0 fits in
      let h = (and-eq-true_iff (term_has_words t) (acts_have_words block)).0 words in
      let b = acts_below block levels f.1 in
      let inside = acts_spelled total block b.levels (125 ∷ rest) (a_symbol symbol.CloseBrace w) b.fits h.1 (Stands-close_brace total rest w behind) in
      let r = condition_spelled total t (codes "{ " ++ (acts_text block ++ 125 ∷ rest)) _ f.0 h.0 (block_stands total (acts_text block) rest _ inside.stands) in
      record {
        placed = branch r.placed inside.placed;
        same = ap₂ branch r.same inside.same;
        stands = regrouped total _ _ _ (branch_text (term_text t) (acts_text block) rest) r.stands;
      }
  act_spelled total (branch_else t block other) levels rest w fits words behind =
      let f = (and-eq-true_iff (whole_fits t && deeper levels (λ b. acts_fit block b)) (deeper levels (λ b. acts_fit other b))).0 fits in
      let g = (and-eq-true_iff (whole_fits t) (deeper levels (λ b. acts_fit block b))).0 f.0 in
      let h = (and-eq-true_iff (term_has_words t && acts_have_words block) (acts_have_words other)).0 words in
      let i = (and-eq-true_iff (term_has_words t) (acts_have_words block)).0 h.0 in
      let b = acts_below block levels g.1 in
      let d = acts_below other levels f.1 in
      let last = acts_spelled total other d.levels (125 ∷ rest) (a_symbol symbol.CloseBrace w) d.fits h.1 (Stands-close_brace total rest w behind) in
      let other_block = codes "{ " ++ (acts_text other ++ 125 ∷ rest) in
      let else_stands = Stands-blank total 32 _ _ refl (Stands-word total word.Else (32 ∷ other_block) _ refl
      (Stands-blank total 32 other_block _ refl (block_stands total (acts_text other) rest _ last.stands))) in
      let after = codes " else " ++ other_block in
      let inside = acts_spelled total block b.levels (125 ∷ after) _ b.fits i.1 (Stands-close_brace total after _ else_stands) in
      let r = condition_spelled total t (codes "{ " ++ (acts_text block ++ 125 ∷ after)) _ g.0 i.0 (block_stands total (acts_text block) after _ inside.stands) in
      record {
        placed = branch_else r.placed inside.placed last.placed;
        same = branch_else_same _ _ _ _ _ _ r.same inside.same last.same;
        stands = regrouped total _ _ _ (branch_else_text (term_text t) (acts_text block) (acts_text other) rest) r.stands;
      }

  pub acts_spelled : (total : ℕ) (block : DraftActs) (levels : ℕ) (rest : List ℕ) (w : Wording) → acts_fit block levels ≡ true → acts_have_words block ≡ true
      → Stands total rest w → Spelled unplaced_acts spell_acts total (acts_text block ++ rest) block w
  acts_spelled total no_acts levels rest w fits words behind = record { placed = no_acts; same = refl; stands = behind }
  acts_spelled total (act a more) levels rest w fits words behind =
      let f = (and-eq-true_iff (act_fits a levels) (acts_fit more levels)).0 fits in
      let h = (and-eq-true_iff (act_has_words a) (acts_have_words more)).0 words in
      let others = acts_spelled total more levels rest w f.1 h.1 behind in
      let first = act_spelled total a levels (32 ∷ (acts_text more ++ rest)) _ f.0 h.0 (Stands-blank total 32 _ _ refl others.stands) in
      record {
        placed = act first.placed others.placed;
        same = ap₂ act first.same others.same;
        stands = regrouped total _ _ _ (enclosed (act_text a) (codes " ") (acts_text more) rest) first.stands;
      }
