-- Each well-formed app is orderly.
use Rattle.std.proofs.Common.{◌≡◌, ◌<◌, ◌≤◌, ℕ, zero, suc, ◌+◌, Bool, true, false, List, [], ◌∷◌, ◌++◌, map, take, filter, length, Option, Some, None, slice_get, nat_le, refl, sym, ◌∙◌, ap, subst, arith, le-leb, leb-false, add_assoc}
use Rattle.std.specs.Prelude.{is_none}
use Rattle.app_tree.specs.declared.item.Sort.{Sort}
use Rattle.app_tree.specs.declared.item.Sort.TheVariants as sort
use Rattle.app_tree.specs.declared.refusal.Fault.TheVariants as fault
use Rattle.app_tree.specs.declared.term.Read.{Read}
use Rattle.app_tree.specs.declared.draft_term.Name.{Name}
use Rattle.app_tree.specs.declared.draft_term.ReadForm.{ReadForm}
use Rattle.app_tree.specs.declared.draft_term.ReadForm.TheVariants as form
use Rattle.app_tree.specs.Tree.{Node, Shape}
use Rattle.app_tree.specs.Numbering.{is_expression, is_reader, readers, reader}
use Rattle.app_tree.specs.Fresh.{is_expression_at}
use Rattle.app_tree.specs.Evaluate.{site_count, site_count_all}
use Rattle.app_tree.specs.Cover.{reads_in, reads_in_all}
use Rattle.app_tree.specs.DraftTree as draft
use Rattle.app_tree.specs.DraftTree.{DraftTree, DraftTrees, DraftDeed, DraftAct, DraftActs, WrittenBody, WrittenForm, WrittenItem, DraftShape}
use Rattle.app_tree.specs.Declarations.{Declared, is_input_sort, is_value_sort, is_task_sort, is_named_sort, is_reader_sort, declaration, declarations, declared_by, sort_of_form, count_of, number_at}
use Rattle.app_tree.specs.Resolve.{deed_site_count, sought_by, inner_scope, read_to, resolved_read, draft_site_count, draft_site_count_all, resolved_tree, resolved_trees, act_site_count, acts_site_count, resolved_deed, resolved_act, resolved_acts, resolved_form, resolved_item, resolved}
use Rattle.app_tree.specs.Faults.{refused, name_refused, is_at_or_behind, is_forward, unknown_name, in_task_fault, forward_read, isolate_in_fold, fold_too_deep, same_variables, argument_count_fault, tree_count, Spot, in_last_part, Holder, in_expression, elsewhere, read_faults, term_faults, terms_faults, deed_faults, act_faults, acts_faults, writes_faults, body_faults, spot_in, form_faults, item_too_many, second_item, item_faults, items_faults, faults}
use Rattle.app_tree.specs.WellFormed.{IsWellFormed}
use Rattle.app_tree.proofs.NoFaults.{nothing_left, nothing_right, holds_not, all_pass}
use Rattle.app_tree.proofs.Numbers.{finds}
use Rattle.app_tree.specs.Trace.{Every}
use Rattle.app_laws.specs.Orderly.{act_sites, acts_sites, IsNumberedAct, AreNumberedActs, reads_in_act, reads_in_acts, reads_in_node, ReadsBelow, ReadsSources, bound_of, IsNumbered, AreNumbered, IsNumberedNode, IsOrderly}
use Rattle.app_laws.proofs.WhatIsAsked.{every_map}
use Rattle.app_laws.proofs.SortCounts.{sorts_kept, counted_before}
use Rattle.app_laws.proofs.OwnSources.{found_own}

pub some_of : {A : Type 0} (o : Option A) (P : Type 0) → is_none o ≡ false → ((x : A) → o ≡ Some x → P) → P
some_of None P e f = absurd cc
some_of (Some x) P e f = f x refl

-- ---- how many sites a term has

mutual
  sites_kept : (table : List Declared) (scope : List (List ℕ)) (n : ℕ) (t : DraftTree) → site_count (resolved_tree table scope n t) ≡ draft_site_count t
  sites_kept table scope n (draft.constant x) = refl
  sites_kept table scope n (draft.group t) = sites_kept table scope n t
  sites_kept table scope n (draft.read f place name) = refl
  sites_kept table scope n (draft.variable name) = refl
  sites_kept table scope n (draft.isolate place t) = ap suc (sites_kept table scope (suc n) t)
  sites_kept table scope n (draft.stop t) = sites_kept table scope n t
  sites_kept table scope n (draft.require t cancels) = sites_kept table scope n t
  sites_kept table scope n (draft.fold place list start accumulator element body) =
      rw (
        sites_kept table scope n list,
        sites_kept table scope (n + draft_site_count list) start,
        sites_kept table (inner_scope scope accumulator.text element.text) (n + draft_site_count list + draft_site_count start) body,
      ) (add_assoc (draft_site_count list) (draft_site_count start) (draft_site_count body))
  sites_kept table scope n (draft.unary op t) = sites_kept table scope n t
  sites_kept table scope n (draft.binary op a b) = rw (sites_kept table scope n a, sites_kept table scope (n + draft_site_count a) b) refl
  sites_kept table scope n (draft.choice condition chosen otherwise) =
      rw (
        sites_kept table scope n condition,
        sites_kept table scope (n + draft_site_count condition) chosen,
        sites_kept table scope (n + draft_site_count condition + draft_site_count chosen) otherwise,
      ) (add_assoc (draft_site_count condition) (draft_site_count chosen) (draft_site_count otherwise))
  sites_kept table scope n (draft.call f ts) = all_sites_kept table scope n ts

  all_sites_kept : (table : List Declared) (scope : List (List ℕ)) (n : ℕ) (ts : DraftTrees) → site_count_all (resolved_trees table scope n ts) ≡ draft_site_count_all ts
  all_sites_kept table scope n draft.no_trees = refl
  all_sites_kept table scope n (draft.tree t more) = rw (sites_kept table scope n t, all_sites_kept table scope (n + draft_site_count t) more) refl

-- ---- no site in the last part of a fold

mutual
  none_inside : (spot : Spot) (t : DraftTree) → 1 ≤ spot.last_parts → term_faults spot t ≡ [] → draft_site_count t ≡ 0
  none_inside spot (draft.constant x) inside none = refl
  none_inside spot (draft.group t) inside none = none_inside spot t inside none
  none_inside spot (draft.read f place name) inside none = refl
  none_inside spot (draft.variable name) inside none = refl
  none_inside spot (draft.isolate place t) inside none =
      let here = nothing_right (in_task_fault spot place) (isolate_in_fold spot place) (nothing_left (in_task_fault spot place ++ isolate_in_fold spot place) (term_faults spot t) none) in
      let no = holds_not (nat_le 1 spot.last_parts) (refused fault.IsolateInFold place) here in
      let but = le-leb 1 spot.last_parts inside in
      absurd cc
  none_inside spot (draft.stop t) inside none = none_inside spot t inside none
  none_inside spot (draft.require t cancels) inside none = none_inside spot t inside none
  none_inside spot (draft.fold place list start accumulator element body) inside none =
      let within = in_last_part spot accumulator element in
      let parts = nothing_right (fold_too_deep spot place ++ same_variables accumulator element) (term_faults spot list ++ (term_faults spot start ++ term_faults within body)) none in
      let further = nothing_right (term_faults spot list) (term_faults spot start ++ term_faults within body) parts in
      rw (
        none_inside spot list inside (nothing_left (term_faults spot list) (term_faults spot start ++ term_faults within body) parts),
        none_inside spot start inside (nothing_left (term_faults spot start) (term_faults within body) further),
        none_inside within body (omega arith) (nothing_right (term_faults spot start) (term_faults within body) further),
      ) refl
  none_inside spot (draft.unary op t) inside none = none_inside spot t inside none
  none_inside spot (draft.binary op a b) inside none =
      rw (
        none_inside spot a inside (nothing_left (term_faults spot a) (term_faults spot b) none),
        none_inside spot b inside (nothing_right (term_faults spot a) (term_faults spot b) none),
      ) refl
  none_inside spot (draft.choice condition chosen otherwise) inside none =
      let ways = nothing_right (term_faults spot condition) (term_faults spot chosen ++ term_faults spot otherwise) none in
      rw (
        none_inside spot condition inside (nothing_left (term_faults spot condition) (term_faults spot chosen ++ term_faults spot otherwise) none),
        none_inside spot chosen inside (nothing_left (term_faults spot chosen) (term_faults spot otherwise) ways),
        none_inside spot otherwise inside (nothing_right (term_faults spot chosen) (term_faults spot otherwise) ways),
      ) refl
  none_inside spot (draft.call f ts) inside none = none_inside_all spot ts inside none

  none_inside_all : (spot : Spot) (ts : DraftTrees) → 1 ≤ spot.last_parts → terms_faults spot ts ≡ [] → draft_site_count_all ts ≡ 0
  none_inside_all spot draft.no_trees inside none = refl
  none_inside_all spot (draft.tree t more) inside none =
      rw (
        none_inside spot t inside (nothing_left (term_faults spot t) (terms_faults spot more) none),
        none_inside_all spot more inside (nothing_right (term_faults spot t) (terms_faults spot more) none),
      ) refl

-- ---- the numbers of sites

mutual
  numbered : (spot : Spot) (scope : List (List ℕ)) (n : ℕ) (t : DraftTree) → term_faults spot t ≡ [] → IsNumbered n (resolved_tree spot.table scope n t)
  numbered spot scope n (draft.constant x) none = tt
  numbered spot scope n (draft.group t) none = numbered spot scope n t none
  numbered spot scope n (draft.read f place name) none = tt
  numbered spot scope n (draft.variable name) none = tt
  numbered spot scope n (draft.isolate place t) none =
      (refl, numbered spot scope (suc n) t (nothing_right (in_task_fault spot place ++ isolate_in_fold spot place) (term_faults spot t) none))
  numbered spot scope n (draft.stop t) none = numbered spot scope n t none
  numbered spot scope n (draft.require t cancels) none = numbered spot scope n t none
  numbered spot scope n (draft.fold place list start accumulator element body) none =
      let within = in_last_part spot accumulator element in
      let parts = nothing_right (fold_too_deep spot place ++ same_variables accumulator element) (term_faults spot list ++ (term_faults spot start ++ term_faults within body)) none in
      let further = nothing_right (term_faults spot list) (term_faults spot start ++ term_faults within body) parts in (
        numbered spot scope n list (nothing_left (term_faults spot list) (term_faults spot start ++ term_faults within body) parts),
        (
          rw (sites_kept spot.table scope n list) (numbered spot scope (n + draft_site_count list) start (nothing_left (term_faults spot start) (term_faults within body) further)),
          sites_kept spot.table (inner_scope scope accumulator.text element.text) (n + draft_site_count list + draft_site_count start) body
              ∙ none_inside within body (omega arith) (nothing_right (term_faults spot start) (term_faults within body) further),
        ),
      )
  numbered spot scope n (draft.unary op t) none = numbered spot scope n t none
  numbered spot scope n (draft.binary op a b) none = (
    numbered spot scope n a (nothing_left (term_faults spot a) (term_faults spot b) none),
    rw (sites_kept spot.table scope n a) (numbered spot scope (n + draft_site_count a) b (nothing_right (term_faults spot a) (term_faults spot b) none)),
  )
  numbered spot scope n (draft.choice condition chosen otherwise) none =
      let ways = nothing_right (term_faults spot condition) (term_faults spot chosen ++ term_faults spot otherwise) none in (
        numbered spot scope n condition (nothing_left (term_faults spot condition) (term_faults spot chosen ++ term_faults spot otherwise) none),
        (
          rw (sites_kept spot.table scope n condition) (numbered spot scope (n + draft_site_count condition) chosen (nothing_left (term_faults spot chosen) (term_faults spot otherwise) ways)),
          rw (sites_kept spot.table scope n condition, sites_kept spot.table scope (n + draft_site_count condition) chosen)
              (numbered spot scope (n + draft_site_count condition + draft_site_count chosen) otherwise (nothing_right (term_faults spot chosen) (term_faults spot otherwise) ways)),
        ),
      )
  numbered spot scope n (draft.call f ts) none = all_numbered spot scope n ts none

  all_numbered : (spot : Spot) (scope : List (List ℕ)) (n : ℕ) (ts : DraftTrees) → terms_faults spot ts ≡ [] → AreNumbered n (resolved_trees spot.table scope n ts)
  all_numbered spot scope n draft.no_trees none = tt
  all_numbered spot scope n (draft.tree t more) none = (
    numbered spot scope n t (nothing_left (term_faults spot t) (terms_faults spot more) none),
    rw (sites_kept spot.table scope n t) (all_numbered spot scope (n + draft_site_count t) more (nothing_right (term_faults spot t) (terms_faults spot more) none)),
  )

body_passes : (spot : Spot) (body : WrittenBody) → body_faults spot body ≡ [] → term_faults spot body.term ≡ []
body_passes spot body none = nothing_right (writes_faults spot body.writes) (term_faults spot body.term) none

-- the keys and then the body
keyed_numbered : (spot : Spot) (keys : DraftTrees) (body : WrittenBody) → terms_faults spot keys ++ body_faults spot body ≡ []
    → AreNumbered 0 (resolved_trees spot.table [] 0 keys) × IsNumbered (site_count_all (resolved_trees spot.table [] 0 keys)) (resolved_tree spot.table [] (draft_site_count_all keys) body.term)
keyed_numbered spot keys body none = (
  all_numbered spot [] 0 keys (nothing_left (terms_faults spot keys) (body_faults spot body) none),
  rw (all_sites_kept spot.table [] 0 keys)
      (numbered spot [] (draft_site_count_all keys) body.term (body_passes spot body (nothing_right (terms_faults spot keys) (body_faults spot body) none))),
)

-- ---- statements

deed_sites_kept : (table : List Declared) (n : ℕ) (d : DraftDeed) → act_sites (resolved_deed table n d) ≡ deed_site_count d
deed_sites_kept table n (draft.set name t) = sites_kept table [] n t
deed_sites_kept table n (draft.invoke name ts) = all_sites_kept table [] n ts
deed_sites_kept table n (draft.update name t) = sites_kept table [] n t
deed_sites_kept table n (draft.freeze name) = refl

mutual
  act_sites_kept : (table : List Declared) (n : ℕ) (a : DraftAct) → act_sites (resolved_act table n a) ≡ act_site_count a
  act_sites_kept table n (draft.write w) = deed_sites_kept table n w.deed
  act_sites_kept table n (draft.perform t) = sites_kept table [] n t
  act_sites_kept table n (draft.branch t block) = (λ i. sites_kept table [] n t i + acts_sites_kept table (n + draft_site_count t) block i)
  act_sites_kept table n (draft.branch_else t block other) =
      (λ i. sites_kept table [] n t i + (acts_sites_kept table (n + draft_site_count t) block i + acts_sites_kept table (n + draft_site_count t + acts_site_count block) other i))

  acts_sites_kept : (table : List Declared) (n : ℕ) (block : DraftActs) → acts_sites (resolved_acts table n block) ≡ acts_site_count block
  acts_sites_kept table n draft.no_acts = refl
  acts_sites_kept table n (draft.act a more) = (λ i. act_sites_kept table n a i + acts_sites_kept table (n + act_site_count a) more i)

deed_numbered : (spot : Spot) (n : ℕ) (d : DraftDeed) → deed_faults spot d ≡ [] → IsNumberedAct n (resolved_deed spot.table n d)
deed_numbered spot n (draft.set name t) none = numbered spot [] n t (nothing_right (unknown_name spot.table is_value_sort name) (term_faults spot t) none)
deed_numbered spot n (draft.invoke name ts) none =
    all_numbered spot [] n ts (nothing_right (unknown_name spot.table is_task_sort name ++ argument_count_fault spot.table name (tree_count ts)) (terms_faults spot ts) none)
deed_numbered spot n (draft.update name t) none = numbered spot [] n t (nothing_right (unknown_name spot.table is_input_sort name) (term_faults spot t) none)
deed_numbered spot n (draft.freeze name) none = tt

mutual
  act_numbered : (spot : Spot) (n : ℕ) (a : DraftAct) → act_faults spot a ≡ [] → IsNumberedAct n (resolved_act spot.table n a)
  act_numbered spot n (draft.write w) none = deed_numbered spot n w.deed none
  act_numbered spot n (draft.perform t) none = numbered spot [] n t none
  act_numbered spot n (draft.branch t block) none = (
    numbered spot [] n t (nothing_left (term_faults spot t) (acts_faults spot block) none),
    rw (sites_kept spot.table [] n t) (acts_numbered spot (n + draft_site_count t) block (nothing_right (term_faults spot t) (acts_faults spot block) none)),
  )
  act_numbered spot n (draft.branch_else t block other) none =
      let blocks = nothing_right (term_faults spot t) (acts_faults spot block ++ acts_faults spot other) none in (
        numbered spot [] n t (nothing_left (term_faults spot t) (acts_faults spot block ++ acts_faults spot other) none),
        (
          rw (sites_kept spot.table [] n t) (acts_numbered spot (n + draft_site_count t) block (nothing_left (acts_faults spot block) (acts_faults spot other) blocks)),
          rw (sites_kept spot.table [] n t, acts_sites_kept spot.table (n + draft_site_count t) block)
              (acts_numbered spot (n + draft_site_count t + acts_site_count block) other (nothing_right (acts_faults spot block) (acts_faults spot other) blocks)),
        ),
      )

  acts_numbered : (spot : Spot) (n : ℕ) (block : DraftActs) → acts_faults spot block ≡ [] → AreNumberedActs n (resolved_acts spot.table n block)
  acts_numbered spot n draft.no_acts none = tt
  acts_numbered spot n (draft.act a more) none = (
    act_numbered spot n a (nothing_left (act_faults spot a) (acts_faults spot more) none),
    rw (act_sites_kept spot.table n a) (acts_numbered spot (n + act_site_count a) more (nothing_right (act_faults spot a) (acts_faults spot more) none)),
  )

form_numbered : (table : List Declared) (k : ℕ) (name : List ℕ) (f : WrittenForm) → form_faults table k f ≡ [] → IsNumberedNode (resolved_form table name f)
form_numbered table k name (draft.input start) none = tt
form_numbered table k name (draft.value start) none = tt
form_numbered table k name (draft.task parameters body) none = tt
form_numbered table k name (draft.reactive keys body) none = keyed_numbered (spot_in table k in_expression []) keys body none
form_numbered table k name (draft.event flags e body) none =
    let spot = spot_in table k in_expression [] in (
      numbered spot [] 0 e (nothing_left (term_faults spot e) (body_faults spot body) none),
      rw (sites_kept table [] 0 e)
          (numbered spot [] (suc (draft_site_count e)) body.term (body_passes spot body (nothing_right (term_faults spot e) (body_faults spot body) none))),
    )
form_numbered table k name (draft.text shown) none = keyed_numbered (spot_in table k elsewhere []) shown.keys shown.body none
form_numbered table k name (draft.plot shown) none = keyed_numbered (spot_in table k elsewhere []) shown.keys shown.body none
form_numbered table k name (draft.observe priority block) none = acts_numbered (spot_in table k elsewhere []) 0 block none
form_numbered table k name (draft.on priority flags e block) none =
    let spot = spot_in table k elsewhere [] in (
      numbered spot [] 0 e (nothing_left (term_faults spot e) (acts_faults spot block) none),
      rw (sites_kept table [] 0 e) (acts_numbered spot (suc (draft_site_count e)) block (nothing_right (term_faults spot e) (acts_faults spot block) none)),
    )

-- ---- the readers of a draft

-- reader n is what an item stands for that passes the checks, and n readers are declared before it
pub record IsOf (table : List Declared) (k : ℕ) (items : List WrittenItem) (n : ℕ) (i : Node) : Type 0 where
  pub before : ℕ
  pub item : WrittenItem
  pub stands : resolved_item table item ≡ i
  pub passes : item_faults table (k + before) item ≡ []
  pub number : n ≡ count_of is_reader_sort (take before (declarations items))

reader_of : (table : List Declared) (k : ℕ) (items : List WrittenItem) (n : ℕ) (i : Node) → items_faults table k items ≡ []
    → slice_get (filter is_reader (map (resolved_item table) items)) n ≡ Some i → IsOf table k items n i
reader_of table k [] n i none e = absurd cc
reader_of table k (w ∷ more) n i none e =
    decide (is_reader_sort (sort_of_form w.form)) refl n (sorts_kept table w.name.text w.form).readers (λ m. reader_of table (suc k) more m i (nothing_right (item_faults table k w) (items_faults table (suc k) more) none)) e
  where
    here : item_faults table k w ≡ []
    here = nothing_left (item_faults table k w) (items_faults table (suc k) more) none

    at : (j : ℕ) → suc k + j ≡ k + suc j
    at j = omega arith

    decide : (b : Bool) → b ≡ is_reader_sort (sort_of_form w.form) → (m : ℕ) → is_reader (resolved_item table w) ≡ is_reader_sort (sort_of_form w.form)
        → ((m : ℕ) → slice_get (filter is_reader (map (resolved_item table) more)) m ≡ Some i → IsOf table (suc k) more m i)
        → slice_get (filter is_reader (map (resolved_item table) (w ∷ more))) m ≡ Some i → IsOf table k (w ∷ more) m i
    decide true b zero same rest e =
        let first : slice_get (resolved_item table w ∷ filter is_reader (map (resolved_item table) more)) 0 ≡ Some i = rw (same, ← b) at e in
        record { before = 0; item = w; stands = cc; passes = subst (λ (m : ℕ). item_faults table m w ≡ []) (omega arith) here; number = refl }
    decide true b (suc m) same rest e =
        let later = rest m (rw (same, ← b) at e) in
        record {
          before = suc later.before;
          item = later.item;
          stands = later.stands;
          passes = subst (λ (m : ℕ). item_faults table m later.item ≡ []) (at later.before) later.passes;
          number = rw (← b) (ap suc later.number);
        }
    decide false b m same rest e =
        let later = rest m (rw (same, ← b) at e) in
        record {
          before = suc later.before;
          item = later.item;
          stands = later.stands;
          passes = subst (λ (m : ℕ). item_faults table m later.item ≡ []) (at later.before) later.passes;
          number = rw (← b) later.number;
        }

expression_kept : (table : List Declared) (name : List ℕ) (f : WrittenForm) → sort_of_form f ≡ sort.Expression → is_expression (resolved_form table name f) ≡ true
expression_kept table name (draft.input start) is = absurd cc
expression_kept table name (draft.value start) is = absurd cc
expression_kept table name (draft.task parameters body) is = absurd cc
expression_kept table name (draft.reactive keys body) is = refl
expression_kept table name (draft.event flags e body) is = refl
expression_kept table name (draft.text shown) is = absurd cc
expression_kept table name (draft.plot shown) is = absurd cc
expression_kept table name (draft.observe priority block) is = absurd cc
expression_kept table name (draft.on priority flags e block) is = absurd cc

-- ---- the number of an expression

expression_at : (table : List Declared) (items : List WrittenItem) (j : ℕ) (e : Declared) → slice_get (declarations items) j ≡ Some e → e.sort ≡ sort.Expression
    → is_expression_at (slice_get (filter is_reader (map (resolved_item table) items)) (count_of is_reader_sort (take j (declarations items)))) ≡ true
expression_at table [] j e stands is = absurd cc
expression_at table (w ∷ more) zero e stands is =
    let sort_is : sort_of_form w.form ≡ sort.Expression = ap (λ (o : Declared). o.sort) (some_is (declared_by w) e stands) ∙ is in
    let reads : is_reader (resolved_item table w) ≡ true = (sorts_kept table w.name.text w.form).readers ∙ ap is_reader_sort sort_is in
    rw reads (expression_kept table w.name.text w.form sort_is)
  where
    some_is : (a b : Declared) → Some a ≡ Some b → a ≡ b
    some_is a b e = cc
expression_at table (w ∷ more) (suc j) e stands is =
    decide (is_reader_sort (sort_of_form w.form)) refl (sorts_kept table w.name.text w.form).readers (expression_at table more j e stands is)
  where
    decide : (b : Bool) → b ≡ is_reader_sort (sort_of_form w.form) → is_reader (resolved_item table w) ≡ is_reader_sort (sort_of_form w.form)
        → is_expression_at (slice_get (filter is_reader (map (resolved_item table) more)) (count_of is_reader_sort (take j (declarations more)))) ≡ true
        → is_expression_at (slice_get (filter is_reader (map (resolved_item table) (w ∷ more))) (count_of is_reader_sort (take (suc j) (declarations (w ∷ more))))) ≡ true
    decide true b same rest = rw (same, ← b) rest
    decide false b same rest = rw (same, ← b) rest

within : (is : List Node) (m : ℕ) → is_expression_at (slice_get is m) ≡ true → m < length is
within [] m e = absurd cc
within (i ∷ is) zero e = omega arith
within (i ∷ is) (suc m) e = let rest = within is m e in omega (arith, rest)

-- ---- reads

every_both : {A : Type 0} (P : A → Type 0) (xs ys : List A) → Every P xs → Every P ys → Every P (xs ++ ys)
every_both P [] ys p q = q
every_both P (x ∷ xs) ys p q = (p.0, every_both P xs ys p.1 q)

-- P holds of what each read stands for that no check refuses at a spot
abbrev AreReads : (Read → Type 0) → Spot → Type 0
AreReads P spot = (f : ReadForm) (place : ℕ) (name : Name) → read_faults spot f place name ≡ [] → P (resolved_read spot.table f name.text)

module _ (P : Read → Type 0) where
  mutual
    term_reads : (spot : Spot) (scope : List (List ℕ)) (n : ℕ) (t : DraftTree) → AreReads P spot → term_faults spot t ≡ [] → Every P (reads_in (resolved_tree spot.table scope n t))
    term_reads spot scope n (draft.constant x) are none = tt
    term_reads spot scope n (draft.group t) are none = term_reads spot scope n t are none
    term_reads spot scope n (draft.read f place name) are none = (are f place name none, tt)
    term_reads spot scope n (draft.variable name) are none = tt
    term_reads spot scope n (draft.isolate place t) are none =
        term_reads spot scope (suc n) t are (nothing_right (in_task_fault spot place ++ isolate_in_fold spot place) (term_faults spot t) none)
    term_reads spot scope n (draft.stop t) are none = term_reads spot scope n t are none
    term_reads spot scope n (draft.require t cancels) are none = term_reads spot scope n t are none
    term_reads spot scope n (draft.fold place list start accumulator element body) are none =
        let inside = in_last_part spot accumulator element in
        let parts = nothing_right (fold_too_deep spot place ++ same_variables accumulator element) (term_faults spot list ++ (term_faults spot start ++ term_faults inside body)) none in
        let further = nothing_right (term_faults spot list) (term_faults spot start ++ term_faults inside body) parts in
        let inner = inner_scope scope accumulator.text element.text in
        let last = n + draft_site_count list + draft_site_count start in
        let first = reads_in (resolved_tree spot.table scope n list) in
        let second = reads_in (resolved_tree spot.table scope (n + draft_site_count list) start) in
        every_both P (first ++ second) (reads_in (resolved_tree spot.table inner last body))
        (every_both P first second
        (term_reads spot scope n list are (nothing_left (term_faults spot list) (term_faults spot start ++ term_faults inside body) parts))
        (term_reads spot scope (n + draft_site_count list) start are (nothing_left (term_faults spot start) (term_faults inside body) further)))
        (term_reads inside inner last body are (nothing_right (term_faults spot start) (term_faults inside body) further))
    term_reads spot scope n (draft.unary op t) are none = term_reads spot scope n t are none
    term_reads spot scope n (draft.binary op a b) are none =
        every_both P (reads_in (resolved_tree spot.table scope n a)) (reads_in (resolved_tree spot.table scope (n + draft_site_count a) b))
        (term_reads spot scope n a are (nothing_left (term_faults spot a) (term_faults spot b) none))
        (term_reads spot scope (n + draft_site_count a) b are (nothing_right (term_faults spot a) (term_faults spot b) none))
    term_reads spot scope n (draft.choice condition chosen otherwise) are none =
        let ways = nothing_right (term_faults spot condition) (term_faults spot chosen ++ term_faults spot otherwise) none in
        let last = n + draft_site_count condition + draft_site_count chosen in
        let first = reads_in (resolved_tree spot.table scope n condition) in
        let second = reads_in (resolved_tree spot.table scope (n + draft_site_count condition) chosen) in
        every_both P (first ++ second) (reads_in (resolved_tree spot.table scope last otherwise))
        (every_both P first second
        (term_reads spot scope n condition are (nothing_left (term_faults spot condition) (term_faults spot chosen ++ term_faults spot otherwise) none))
        (term_reads spot scope (n + draft_site_count condition) chosen are (nothing_left (term_faults spot chosen) (term_faults spot otherwise) ways)))
        (term_reads spot scope last otherwise are (nothing_right (term_faults spot chosen) (term_faults spot otherwise) ways))
    term_reads spot scope n (draft.call f ts) are none = terms_reads spot scope n ts are none

    terms_reads : (spot : Spot) (scope : List (List ℕ)) (n : ℕ) (ts : DraftTrees) → AreReads P spot → terms_faults spot ts ≡ [] → Every P (reads_in_all (resolved_trees spot.table scope n ts))
    terms_reads spot scope n draft.no_trees are none = tt
    terms_reads spot scope n (draft.tree t more) are none =
        every_both P (reads_in (resolved_tree spot.table scope n t)) (reads_in_all (resolved_trees spot.table scope (n + draft_site_count t) more))
        (term_reads spot scope n t are (nothing_left (term_faults spot t) (terms_faults spot more) none))
        (terms_reads spot scope (n + draft_site_count t) more are (nothing_right (term_faults spot t) (terms_faults spot more) none))

  deed_reads : (spot : Spot) (n : ℕ) (d : DraftDeed) → AreReads P spot → deed_faults spot d ≡ [] → Every P (reads_in_act (resolved_deed spot.table n d))
  deed_reads spot n (draft.set name t) are none = term_reads spot [] n t are (nothing_right (unknown_name spot.table is_value_sort name) (term_faults spot t) none)
  deed_reads spot n (draft.invoke name ts) are none =
      terms_reads spot [] n ts are (nothing_right (unknown_name spot.table is_task_sort name ++ argument_count_fault spot.table name (tree_count ts)) (terms_faults spot ts) none)
  deed_reads spot n (draft.update name t) are none = term_reads spot [] n t are (nothing_right (unknown_name spot.table is_input_sort name) (term_faults spot t) none)
  deed_reads spot n (draft.freeze name) are none = tt

  mutual
    act_reads : (spot : Spot) (n : ℕ) (a : DraftAct) → AreReads P spot → act_faults spot a ≡ [] → Every P (reads_in_act (resolved_act spot.table n a))
    act_reads spot n (draft.write w) are none = deed_reads spot n w.deed are none
    act_reads spot n (draft.perform t) are none = term_reads spot [] n t are none
    act_reads spot n (draft.branch t block) are none =
        every_both P (reads_in (resolved_tree spot.table [] n t)) (reads_in_acts (resolved_acts spot.table (n + draft_site_count t) block))
        (term_reads spot [] n t are (nothing_left (term_faults spot t) (acts_faults spot block) none))
        (acts_reads spot (n + draft_site_count t) block are (nothing_right (term_faults spot t) (acts_faults spot block) none))
    act_reads spot n (draft.branch_else t block other) are none =
        let blocks = nothing_right (term_faults spot t) (acts_faults spot block ++ acts_faults spot other) none in
        let last = n + draft_site_count t + acts_site_count block in
        every_both P (reads_in (resolved_tree spot.table [] n t)) _
        (term_reads spot [] n t are (nothing_left (term_faults spot t) (acts_faults spot block ++ acts_faults spot other) none))
        (every_both P (reads_in_acts (resolved_acts spot.table (n + draft_site_count t) block)) (reads_in_acts (resolved_acts spot.table last other))
        (acts_reads spot (n + draft_site_count t) block are (nothing_left (acts_faults spot block) (acts_faults spot other) blocks))
        (acts_reads spot last other are (nothing_right (acts_faults spot block) (acts_faults spot other) blocks)))

    acts_reads : (spot : Spot) (n : ℕ) (block : DraftActs) → AreReads P spot → acts_faults spot block ≡ [] → Every P (reads_in_acts (resolved_acts spot.table n block))
    acts_reads spot n draft.no_acts are none = tt
    acts_reads spot n (draft.act a more) are none =
        every_both P (reads_in_act (resolved_act spot.table n a)) (reads_in_acts (resolved_acts spot.table (n + act_site_count a) more))
        (act_reads spot n a are (nothing_left (act_faults spot a) (acts_faults spot more) none))
        (acts_reads spot (n + act_site_count a) more are (nothing_right (act_faults spot a) (acts_faults spot more) none))

  keyed_reads : (spot : Spot) (keys : DraftTrees) (body : WrittenBody) → AreReads P spot → terms_faults spot keys ++ body_faults spot body ≡ []
      → Every P (reads_in_all (resolved_trees spot.table [] 0 keys) ++ reads_in (resolved_tree spot.table [] (draft_site_count_all keys) body.term))
  keyed_reads spot keys body are none =
      every_both P (reads_in_all (resolved_trees spot.table [] 0 keys)) (reads_in (resolved_tree spot.table [] (draft_site_count_all keys) body.term))
      (terms_reads spot [] 0 keys are (nothing_left (terms_faults spot keys) (body_faults spot body) none))
      (term_reads spot [] (draft_site_count_all keys) body.term are (body_passes spot body (nothing_right (terms_faults spot keys) (body_faults spot body) none)))

-- ---- the reads of what a draft stands for

module _ (d : DraftShape) where
  abbrev Below : ℕ → Read → Type 0
  Below bound = ReadsBelow (resolved d) bound

  -- what both facts of a read say, carried in one walk
  abbrev ReadsWell : ℕ → Read → Type 0
  ReadsWell bound r = Below bound r × ReadsSources (resolved d) r

  -- how many readers are declared before a place
  abbrev number_of : ℕ → ℕ
  number_of j = count_of is_reader_sort (take j (declarations d.items))

  named_below : (bound j : ℕ) (e : Declared) (s : Sort) → slice_get (declarations d.items) j ≡ Some e → s ≡ e.sort → is_named_sort s ≡ true → (e.sort ≡ sort.Expression → number_of j < bound)
      → Below bound (read_to form.Named s (number_at (declarations d.items) j s))
  named_below bound j e sort.Input stands same is below = absurd cc
  named_below bound j e sort.Value stands same is below = tt
  named_below bound j e sort.Task stands same is below = absurd cc
  named_below bound j e sort.Expression stands same is below = (below (sym same), expression_at (declarations d.items) d.items j e stands (sym same))
  named_below bound j e sort.Output stands same is below = absurd cc
  named_below bound j e sort.Observer stands same is below = absurd cc

  found_below : (bound j : ℕ) (e : Declared) (f : ReadForm) → slice_get (declarations d.items) j ≡ Some e → sought_by f e.sort ≡ true → (e.sort ≡ sort.Expression → number_of j < bound)
      → Below bound (read_to f e.sort (number_at (declarations d.items) j e.sort))
  found_below bound j e form.Input stands is below = tt
  found_below bound j e form.Named stands is below = named_below bound j e e.sort stands refl is below
  found_below bound j e form.Status stands is below = tt
  found_below bound j e form.Result stands is below = tt
  found_below bound j e form.Width stands is below = tt
  found_below bound j e form.Height stands is below = tt

  reads_well : (k : ℕ) (holder : Holder) (bound : ℕ)
      → ((j : ℕ) (e : Declared) → slice_get (declarations d.items) j ≡ Some e → e.sort ≡ sort.Expression → is_forward (spot_in (declarations d.items) k holder []) (Some (j, e)) ≡ false → number_of j < bound)
      → AreReads (ReadsWell bound) (spot_in (declarations d.items) k holder [])
  reads_well k holder bound below f place name none =
      let table = declarations d.items in
      let spot = spot_in table k holder [] in
      let unknown = nothing_left (unknown_name table (sought_by f) name) (in_task_fault spot place ++ forward_read spot f name) none in
      let forward = nothing_right (in_task_fault spot place) (forward_read spot f name) (nothing_right (unknown_name table (sought_by f) name) (in_task_fault spot place ++ forward_read spot f name) none) in
      let backward = holds_not (is_forward spot (declaration (sought_by f) name.text table)) (name_refused fault.ForwardRead name) forward in
      some_of (declaration (sought_by f) name.text table) (ReadsWell bound (resolved_read table f name.text))
      (holds_not (is_none (declaration (sought_by f) name.text table)) (name_refused fault.NameUnknown name) unknown)
      (λ found is.
      let h = finds (sought_by f) name.text table found is in
      let not_behind : is_forward spot (Some found) ≡ false = ap (is_forward spot) (sym is) ∙ backward in
      rw is (
        found_below bound found.0 found.1 f h.stands h.is (λ sorted. below found.0 found.1 h.stands sorted not_behind),
        found_own d found.0 found.1 f h.stands h.is,
      ))

  -- an expression reads what stands before it
  in_expressions : (k : ℕ) → AreReads (ReadsWell (number_of k)) (spot_in (declarations d.items) k in_expression [])
  in_expressions k = reads_well k in_expression (number_of k)
      (λ j e stands is not_behind.
      let before : nat_le k j ≡ false = ap (λ s. is_at_or_behind k s j) (sym is) ∙ not_behind in
      counted_before is_reader_sort (declarations d.items) j k e stands (ap is_reader_sort is) (leb-false k j before))

  -- another reader reads any
  in_others : (k : ℕ) → AreReads (ReadsWell (length (readers (resolved d)))) (spot_in (declarations d.items) k elsewhere [])
  in_others k = reads_well k elsewhere (length (readers (resolved d)))
      (λ j e stands is not_behind. within (readers (resolved d)) (number_of j) (expression_at (declarations d.items) d.items j e stands is))

  form_reads : (k n : ℕ) (name : List ℕ) (f : WrittenForm) → n ≡ number_of k → form_faults (declarations d.items) k f ≡ []
      → Every (ReadsWell (bound_of (resolved d) n (resolved_form (declarations d.items) name f))) (reads_in_node (resolved_form (declarations d.items) name f))
  form_reads k n name (draft.input start) at none = tt
  form_reads k n name (draft.value start) at none = tt
  form_reads k n name (draft.task parameters body) at none = tt
  form_reads k n name (draft.reactive keys body) at none =
      rw at (keyed_reads (ReadsWell (number_of k)) (spot_in (declarations d.items) k in_expression []) keys body (in_expressions k) none)
  form_reads k n name (draft.event flags e body) at none =
      let spot = spot_in (declarations d.items) k in_expression [] in
      rw at (
      every_both (ReadsWell (number_of k)) (reads_in (resolved_tree spot.table [] 0 e)) (reads_in (resolved_tree spot.table [] (suc (draft_site_count e)) body.term))
      (term_reads (ReadsWell (number_of k)) spot [] 0 e (in_expressions k) (nothing_left (term_faults spot e) (body_faults spot body) none))
      (term_reads (ReadsWell (number_of k)) spot [] (suc (draft_site_count e)) body.term (in_expressions k) (body_passes spot body (nothing_right (term_faults spot e) (body_faults spot body) none)))
      )
  form_reads k n name (draft.text shown) at none = keyed_reads (ReadsWell (length (readers (resolved d)))) (spot_in (declarations d.items) k elsewhere []) shown.keys shown.body (in_others k) none
  form_reads k n name (draft.plot shown) at none = keyed_reads (ReadsWell (length (readers (resolved d)))) (spot_in (declarations d.items) k elsewhere []) shown.keys shown.body (in_others k) none
  form_reads k n name (draft.observe priority block) at none = acts_reads (ReadsWell (length (readers (resolved d)))) (spot_in (declarations d.items) k elsewhere []) 0 block (in_others k) none
  form_reads k n name (draft.on priority flags e block) at none =
      let spot = spot_in (declarations d.items) k elsewhere [] in
      let any = ReadsWell (length (readers (resolved d))) in
      every_both any (reads_in (resolved_tree spot.table [] 0 e)) (reads_in_acts (resolved_acts spot.table (suc (draft_site_count e)) block))
      (term_reads any spot [] 0 e (in_others k) (nothing_left (term_faults spot e) (acts_faults spot block) none))
      (acts_reads any spot (suc (draft_site_count e)) block (in_others k) (nothing_right (term_faults spot e) (acts_faults spot block) none))

-- ---- whole apps

module _ (d : DraftShape) (none : faults d ≡ []) where
  pub reader_is : (n : ℕ) (i : Node) → reader (resolved d) n ≡ Some i → IsOf (declarations d.items) 0 d.items n i
  reader_is n i e = reader_of (declarations d.items) 0 d.items n i (all_pass d none) e

  pub passing : (k : ℕ) (w : WrittenItem) → item_faults (declarations d.items) k w ≡ [] → form_faults (declarations d.items) k w.form ≡ []
  passing k w none = nothing_right (item_too_many k w ++ second_item (declarations d.items) k w) (form_faults (declarations d.items) k w.form) none

  reads_at : (n : ℕ) (i : Node) → reader (resolved d) n ≡ Some i → Every (ReadsWell d (bound_of (resolved d) n i)) (reads_in_node i)
  reads_at n i e =
      let r = reader_is n i e in
      subst (λ (node : Node). Every (ReadsWell d (bound_of (resolved d) n node)) (reads_in_node node)) r.stands
      (form_reads d (0 + r.before) n r.item.name.text r.item.form (r.number ∙ ap (number_of d) (omega arith)) (passing (0 + r.before) r.item r.passes))

  resolved_is_orderly : IsOrderly (resolved d)
  resolved_is_orderly = record {
    reads = λ n i e.
        let bound = bound_of (resolved d) n i in
        every_map (ReadsWell d bound) (ReadsBelow (resolved d) bound) (λ r well. well.0) (reads_in_node i) (reads_at n i e);
    sources = λ n i e.
        every_map (ReadsWell d (bound_of (resolved d) n i)) (ReadsSources (resolved d)) (λ r well. well.1) (reads_in_node i) (reads_at n i e);
    sites = λ n i e.
        let r = reader_is n i e in
        subst IsNumberedNode r.stands (form_numbered (declarations d.items) (0 + r.before) r.item.name.text r.item.form (passing (0 + r.before) r.item r.passes));
  }

pub well_formed_is_orderly : (app : Shape) → IsWellFormed app → IsOrderly app
well_formed_is_orderly app well = subst IsOrderly well.stands (resolved_is_orderly well.draft well.passes)
