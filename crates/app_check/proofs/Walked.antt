-- One step of a walk over a list.
use Rattle.std.proofs.Common.{◌≡◌, ℕ, suc, ◌+◌, ◌<◌, List, ◌∷◌, ◌++◌, length, get_or, drop, map, Option, sym, ◌∙◌, ap, add-one, drop-cons}
use Rattle.app_tree.specs.declared.refusal.Refusal.{Refusal}
use Rattle.app_tree.specs.declared.draft_term.DraftTerm.{DraftTerm}
use Rattle.app_tree.specs.declared.draft_term.Name.{Name}
use Rattle.app_tree.specs.DraftTree as draft
use Rattle.app_tree.specs.DraftTree.{DraftTree, DraftAct}
use Rattle.app_tree.specs.declared.draft_item.DraftStatement.{DraftStatement}
use Rattle.app_tree.specs.declared.draft_item.DraftWrite.{DraftWrite}
use Rattle.app_tree.specs.declared.draft_item.DraftItem.{DraftItem}
use Rattle.app_tree.specs.Declarations.{Declared}
use Rattle.app_tree.specs.DraftView.{draft_tree_of, draft_trees_of, draft_act_of, draft_acts_of, write_of, written_item}
use Rattle.app_tree.specs.Faults.{Spot, first_with, term_faults, terms_faults, act_faults, acts_faults, write_faults, writes_faults, item_faults, items_faults, in_last_part, fold_too_deep, same_variables}
use Rattle.app_check.proofs.First.{first_with_append}

-- one list of refusals and then another
pub then_with : (best first second : Option Refusal) (xs ys : List Refusal) → first ≡ first_with best xs → second ≡ first_with first ys → second ≡ first_with best (xs ++ ys)
then_with best first second xs ys one two = two ∙ ap (λ b. first_with b ys) one ∙ sym (first_with_append best xs ys)

-- what is left of a list, from a place on
pub left_at : {A : Type 0} (xs : List A) (i : ℕ) (x : A) → i < length xs → x ≡ get_or xs i x → drop i xs ≡ x ∷ drop (i + 1) xs
left_at xs i x within is = rw add-one (drop-cons xs i x within ∙ ap (λ y. y ∷ drop (suc i) xs) (sym is))

pub terms_step : (best new : Option Refusal) (spot : Spot) (ts : List DraftTerm) (i : ℕ) (t : DraftTerm) (total : Option Refusal) → i < length ts → t ≡ get_or ts i t
    → new ≡ first_with best (term_faults spot (draft_tree_of t)) → first_with best (terms_faults spot (draft_trees_of (drop i ts))) ≡ total
    → first_with new (terms_faults spot (draft_trees_of (drop (i + 1) ts))) ≡ total
terms_step best new spot ts i t total within is new_is invariant =
    ap (λ b. first_with b (terms_faults spot (draft_trees_of (drop (i + 1) ts)))) new_is
    ∙ sym (first_with_append best (term_faults spot (draft_tree_of t)) (terms_faults spot (draft_trees_of (drop (i + 1) ts))))
    ∙ ap (λ left. first_with best (terms_faults spot (draft_trees_of left))) (sym (left_at ts i t within is))
    ∙ invariant

-- ---- a term whose parts were walked, one after another

walked_part : (spot : Spot) (best first : Option Refusal) (part got : DraftTerm) → got ≡ part → first ≡ first_with best (term_faults spot (draft_tree_of got)) → first ≡ first_with best (term_faults spot (draft_tree_of part))
walked_part spot best first part got same is = is ∙ ap (λ t. first_with best (term_faults spot (draft_tree_of t))) same

pub walked_fold : (spot : Spot) (best own one two three : Option Refusal) (whole : DraftTree) (place : ℕ) (a b c x y z : DraftTerm) (accumulator element : Name)
    → whole ≡ draft.fold place (draft_tree_of a) (draft_tree_of b) accumulator element (draft_tree_of c)
    → own ≡ first_with best (fold_too_deep spot place ++ same_variables accumulator element)
    → x ≡ a → one ≡ first_with own (term_faults spot (draft_tree_of x)) → y ≡ b → two ≡ first_with one (term_faults spot (draft_tree_of y)) → z ≡ c
    → three ≡ first_with two (term_faults (in_last_part spot accumulator element) (draft_tree_of z)) → three ≡ first_with best (term_faults spot whole)
walked_fold spot best own one two three whole place a b c x y z accumulator element is e0 xa e1 yb e2 zc e3 =
    let inside = in_last_part spot accumulator element in
    then_with best own three (fold_too_deep spot place ++ same_variables accumulator element) (term_faults spot (draft_tree_of a) ++ (term_faults spot (draft_tree_of b) ++ term_faults inside (draft_tree_of c))) e0
    (then_with own one three (term_faults spot (draft_tree_of a)) (term_faults spot (draft_tree_of b) ++ term_faults inside (draft_tree_of c)) (walked_part spot own one a x xa e1)
    (then_with one two three (term_faults spot (draft_tree_of b)) (term_faults inside (draft_tree_of c)) (walked_part spot one two b y yb e2) (walked_part inside two three c z zc e3)))
    ∙ ap (λ t. first_with best (term_faults spot t)) (sym is)

-- ---- statements, writes and items

pub acts_step : (best new : Option Refusal) (spot : Spot) (ss : List DraftStatement) (i : ℕ) (s : DraftStatement) (total : Option Refusal) → i < length ss → s ≡ get_or ss i s
    → new ≡ first_with best (act_faults spot (draft_act_of s)) → first_with best (acts_faults spot (draft_acts_of (drop i ss))) ≡ total
    → first_with new (acts_faults spot (draft_acts_of (drop (i + 1) ss))) ≡ total
acts_step best new spot ss i s total within is new_is invariant =
    ap (λ b. first_with b (acts_faults spot (draft_acts_of (drop (i + 1) ss)))) new_is
    ∙ sym (first_with_append best (act_faults spot (draft_act_of s)) (acts_faults spot (draft_acts_of (drop (i + 1) ss))))
    ∙ ap (λ left. first_with best (acts_faults spot (draft_acts_of left))) (sym (left_at ss i s within is))
    ∙ invariant

walked_block : (spot : Spot) (best first : Option Refusal) (part got : List DraftStatement) → got ≡ part → first ≡ first_with best (acts_faults spot (draft_acts_of got)) → first ≡ first_with best (acts_faults spot (draft_acts_of part))
walked_block spot best first part got same is = is ∙ ap (λ b. first_with best (acts_faults spot (draft_acts_of b))) same

pub walked_branch : (spot : Spot) (best one two : Option Refusal) (whole : DraftAct) (a : DraftTerm) (b y : List DraftStatement) → whole ≡ draft.branch (draft_tree_of a) (draft_acts_of b)
    → one ≡ first_with best (term_faults spot (draft_tree_of a)) → y ≡ b → two ≡ first_with one (acts_faults spot (draft_acts_of y)) → two ≡ first_with best (act_faults spot whole)
walked_branch spot best one two whole a b y is e1 yb e2 =
    then_with best one two (term_faults spot (draft_tree_of a)) (acts_faults spot (draft_acts_of b)) e1 (walked_block spot one two b y yb e2)
    ∙ ap (λ t. first_with best (act_faults spot t)) (sym is)

pub walked_branches : (spot : Spot) (best one two three : Option Refusal) (whole : DraftAct) (a : DraftTerm) (b c y z : List DraftStatement) → whole ≡ draft.branch_else (draft_tree_of a) (draft_acts_of b) (draft_acts_of c)
    → one ≡ first_with best (term_faults spot (draft_tree_of a)) → y ≡ b → two ≡ first_with one (acts_faults spot (draft_acts_of y)) → z ≡ c → three ≡ first_with two (acts_faults spot (draft_acts_of z))
    → three ≡ first_with best (act_faults spot whole)
walked_branches spot best one two three whole a b c y z is e1 yb e2 zc e3 =
    then_with best one three (term_faults spot (draft_tree_of a)) (acts_faults spot (draft_acts_of b) ++ acts_faults spot (draft_acts_of c)) e1
    (then_with one two three (acts_faults spot (draft_acts_of b)) (acts_faults spot (draft_acts_of c)) (walked_block spot one two b y yb e2) (walked_block spot two three c z zc e3))
    ∙ ap (λ t. first_with best (act_faults spot t)) (sym is)

pub writes_step : (best new : Option Refusal) (spot : Spot) (ws : List DraftWrite) (i : ℕ) (w : DraftWrite) (total : Option Refusal) → i < length ws → w ≡ get_or ws i w
    → new ≡ first_with best (write_faults spot (write_of w)) → first_with best (writes_faults spot (map write_of (drop i ws))) ≡ total
    → first_with new (writes_faults spot (map write_of (drop (i + 1) ws))) ≡ total
writes_step best new spot ws i w total within is new_is invariant =
    ap (λ b. first_with b (writes_faults spot (map write_of (drop (i + 1) ws)))) new_is
    ∙ sym (first_with_append best (write_faults spot (write_of w)) (writes_faults spot (map write_of (drop (i + 1) ws))))
    ∙ ap (λ left. first_with best (writes_faults spot (map write_of left))) (sym (left_at ws i w within is))
    ∙ invariant

pub items_step : (best new : Option Refusal) (table : List Declared) (items : List DraftItem) (i : ℕ) (item : DraftItem) (total : Option Refusal) → i < length items → item ≡ get_or items i item
    → new ≡ first_with best (item_faults table i (written_item item)) → first_with best (items_faults table i (map written_item (drop i items))) ≡ total
    → first_with new (items_faults table (i + 1) (map written_item (drop (i + 1) items))) ≡ total
items_step best new table items i item total within is new_is invariant =
    rw add-one
    (ap (λ b. first_with b (items_faults table (suc i) (map written_item (drop (suc i) items)))) new_is
    ∙ sym (first_with_append best (item_faults table i (written_item item)) (items_faults table (suc i) (map written_item (drop (suc i) items))))
    ∙ ap (λ left. first_with best (items_faults table i (map written_item left))) (sym (rw add-one at (left_at items i item within is)))
    ∙ invariant)
