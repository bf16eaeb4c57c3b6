-- Whether a draft fits does not rest on its places.
use Rattle.std.proofs.Common.{◌≡◌, ℕ, zero, suc, Bool, List, [], ◌∷◌, map, refl, sym, ◌∙◌, ap}
use Rattle.std.specs.List.{list_all}
use Rattle.app_tree.specs.declared.draft_term.Name.{Name}
use Rattle.app_tree.specs.DraftTree as draft
use Rattle.app_tree.specs.DraftTree.{DraftTree, DraftTrees, DraftDeed, WrittenDeed, DraftAct, DraftActs, WrittenBody, WrittenOutput, WrittenForm, WrittenItem, DraftShape}
use Rattle.app_tree.specs.Fits.{name_fits, hold_of, operators, count, deeper, whole_in, term_fits, terms_fit, deed_fits, write_fits, act_fits, acts_fit, body_fits, output_fits, form_fits, item_fits, fits}
use Rattle.app_tree.specs.Unplaced.{unplaced_of, unplaced_tree, unplaced_trees, unplaced_deed, unplaced_written, unplaced_act, unplaced_acts, unplaced_body, unplaced_output, unplaced_form, unplaced_item, unplaced}

hold_same : (t : DraftTree) → hold_of (unplaced_tree t) ≡ hold_of t
hold_same (draft.constant x) = refl
hold_same (draft.group t) = refl
hold_same (draft.read f place name) = refl
hold_same (draft.variable name) = refl
hold_same (draft.isolate place t) = refl
hold_same (draft.stop t) = refl
hold_same (draft.require t cancels) = refl
hold_same (draft.fold place list start accumulator element body) = refl
hold_same (draft.unary op t) = refl
hold_same (draft.binary op a b) = refl
hold_same (draft.choice condition m n) = refl
hold_same (draft.call f ts) = refl

operators_same : (t : DraftTree) → operators (unplaced_tree t) ≡ operators t
operators_same (draft.constant x) = refl
operators_same (draft.group t) = refl
operators_same (draft.read f place name) = refl
operators_same (draft.variable name) = refl
operators_same (draft.isolate place t) = refl
operators_same (draft.stop t) = refl
operators_same (draft.require t cancels) = refl
operators_same (draft.fold place list start accumulator element body) = refl
operators_same (draft.unary op t) = refl
operators_same (draft.binary op a b) = rw (operators_same a, operators_same b) refl
operators_same (draft.choice condition m n) = refl
operators_same (draft.call f ts) = refl

count_same : (ts : DraftTrees) → count (unplaced_trees ts) ≡ count ts
count_same draft.no_trees = refl
count_same (draft.tree t more) = ap suc (count_same more)

deeper_same : (levels : ℕ) (f g : ℕ → Bool) → ((n : ℕ) → f n ≡ g n) → deeper levels f ≡ deeper levels g
deeper_same zero f g e = refl
deeper_same (suc levels) f g e = e levels

whole_same : (t : DraftTree) (levels : ℕ) (f g : ℕ → Bool) → ((n : ℕ) → f n ≡ g n) → whole_in (unplaced_tree t) levels f ≡ whole_in t levels g
whole_same t zero f g e = refl
whole_same t (suc levels) f g e = rw (operators_same t, e levels) refl

mutual
  term_same : (t : DraftTree) (levels : ℕ) → term_fits (unplaced_tree t) levels ≡ term_fits t levels
  term_same (draft.constant x) levels = refl
  term_same (draft.group t) levels = whole_same t levels (term_fits (unplaced_tree t)) (term_fits t) (λ below. term_same t below)
  term_same (draft.read f place name) levels = refl
  term_same (draft.variable name) levels = refl
  term_same (draft.isolate place t) levels = whole_same t levels (term_fits (unplaced_tree t)) (term_fits t) (λ below. term_same t below)
  term_same (draft.stop t) levels = whole_same t levels (term_fits (unplaced_tree t)) (term_fits t) (λ below. term_same t below)
  term_same (draft.require t cancels) levels = whole_same t levels (term_fits (unplaced_tree t)) (term_fits t) (λ below. term_same t below)
  term_same (draft.fold place list start accumulator element body) levels = rw (whole_same list levels (term_fits (unplaced_tree list)) (term_fits list) (λ below. term_same list below), whole_same start levels (term_fits (unplaced_tree start)) (term_fits start) (λ below. term_same start below), whole_same body levels (term_fits (unplaced_tree body)) (term_fits body) (λ below. term_same body below)) refl
  term_same (draft.unary op t) levels =
      rw (hold_same t, deeper_same levels (term_fits (unplaced_tree t)) (term_fits t) (λ below. term_same t below)) refl
  term_same (draft.binary op a b) levels = rw (hold_same a, hold_same b, term_same a levels, term_same b levels) refl
  term_same (draft.choice condition m n) levels = rw (whole_same condition levels (term_fits (unplaced_tree condition)) (term_fits condition) (λ below. term_same condition below), whole_same m levels (term_fits (unplaced_tree m)) (term_fits m) (λ below. term_same m below), whole_same n levels (term_fits (unplaced_tree n)) (term_fits n) (λ below. term_same n below)) refl
  term_same (draft.call f ts) levels = rw (count_same ts, all_same ts levels) refl

  all_same : (ts : DraftTrees) (levels : ℕ) → terms_fit (unplaced_trees ts) levels ≡ terms_fit ts levels
  all_same draft.no_trees levels = refl
  all_same (draft.tree t more) levels = rw (whole_same t levels (term_fits (unplaced_tree t)) (term_fits t) (λ below. term_same t below), all_same more levels) refl

part_same : (t : DraftTree) (levels : ℕ) → whole_in (unplaced_tree t) levels (term_fits (unplaced_tree t)) ≡ whole_in t levels (term_fits t)
part_same t levels = whole_same t levels (term_fits (unplaced_tree t)) (term_fits t) (λ below. term_same t below)

deed_same : (d : DraftDeed) → deed_fits (unplaced_deed d) ≡ deed_fits d
deed_same (draft.set name t) = part_same t 64
deed_same (draft.invoke name ts) = all_same ts 64
deed_same (draft.update name t) = part_same t 64
deed_same (draft.freeze name) = refl

mutual
  act_same : (a : DraftAct) (levels : ℕ) → act_fits (unplaced_act a) levels ≡ act_fits a levels
  act_same (draft.write w) levels = deed_same w.deed
  act_same (draft.perform t) levels = part_same t 64
  act_same (draft.branch t block) levels =
      rw (part_same t 64, deeper_same levels (acts_fit (unplaced_acts block)) (acts_fit block) (λ n. acts_same block n)) refl
  act_same (draft.branch_else t block other) levels =
      rw (
        part_same t 64,
        deeper_same levels (acts_fit (unplaced_acts block)) (acts_fit block) (λ n. acts_same block n),
        deeper_same levels (acts_fit (unplaced_acts other)) (acts_fit other) (λ n. acts_same other n),
      ) refl

  acts_same : (block : DraftActs) (levels : ℕ) → acts_fit (unplaced_acts block) levels ≡ acts_fit block levels
  acts_same draft.no_acts levels = refl
  acts_same (draft.act a more) levels = rw (act_same a levels, acts_same more levels) refl

writes_same : (ws : List WrittenDeed) → list_all write_fits (map unplaced_written ws) ≡ list_all write_fits ws
writes_same [] = refl
writes_same (w ∷ more) = rw (deed_same w.deed, writes_same more) refl

body_same : (body : WrittenBody) → body_fits (unplaced_body body) ≡ body_fits body
body_same body = rw (writes_same body.writes, part_same body.term 64) refl

output_same : (shown : WrittenOutput) → output_fits (unplaced_output shown) ≡ output_fits shown
output_same shown = rw (all_same shown.keys 64, body_same shown.body) refl

names_same : (ns : List Name) → list_all name_fits (map unplaced_of ns) ≡ list_all name_fits ns
names_same [] = refl
names_same (n ∷ more) = rw (names_same more) refl

form_same : (f : WrittenForm) → form_fits (unplaced_form f) ≡ form_fits f
form_same (draft.input start) = refl
form_same (draft.value start) = refl
form_same (draft.task parameters body) = rw (names_same parameters, part_same body 64) refl
form_same (draft.reactive keys body) = rw (all_same keys 64, body_same body) refl
form_same (draft.event flags e body) = rw (part_same e 64, body_same body) refl
form_same (draft.text shown) = output_same shown
form_same (draft.plot shown) = output_same shown
form_same (draft.observe priority block) = rw (acts_same block 63) refl
form_same (draft.on priority flags e block) = rw (part_same e 64, acts_same block 63) refl

items_same : (items : List WrittenItem) → list_all item_fits (map unplaced_item items) ≡ list_all item_fits items
items_same [] = refl
items_same (i ∷ more) = rw (form_same i.form, items_same more) refl

pub fits_unplaced : (d : DraftShape) → fits (unplaced d) ≡ fits d
fits_unplaced d = rw (items_same d.items) refl

-- drafts that are equal but for their places fit alike
pub fits_alike : (d e : DraftShape) → unplaced d ≡ unplaced e → fits d ≡ fits e
fits_alike d e same = sym (fits_unplaced d) ∙ ap fits same ∙ fits_unplaced e
