-- In each well-formed app the statements of observers name sources of its own, and tasks with as many arguments as these take.
use Rattle.std.proofs.Common.{◌≡◌, ◌<◌, ℕ, zero, suc, ◌+◌, ◌-◌, Bool, true, false, not, List, [], ◌∷◌, ◌++◌, map, take, filter, length, Option, Some, slice_get, nat_eq, refl, sym, ◌∙◌, ap, subst, arith}
use Rattle.std.specs.Prelude.{is_none}
use Rattle.std.proofs.lemmas.Bool.{eqb-true}
use Rattle.std.proofs.lemmas.List.{length-map}
use Rattle.app_tree.specs.declared.item.Sort.{Sort}
use Rattle.app_tree.specs.declared.item.Sort.TheVariants as sort
use Rattle.app_tree.specs.declared.refusal.Fault.TheVariants as fault
use Rattle.app_tree.specs.declared.draft_term.Name.{Name}
use Rattle.app_tree.specs.Tree.{Tree, task, Node, Shape}
use Rattle.app_tree.specs.Numbering.{is_task, reader, starting_values}
use Rattle.app_tree.specs.ObserverTerms.{term_count}
use Rattle.app_tree.specs.DraftTree as draft
use Rattle.app_tree.specs.DraftTree.{DraftTrees, DraftDeed, DraftAct, DraftActs, WrittenForm, WrittenItem, DraftShape}
use Rattle.app_tree.specs.Declarations.{Declared, is_input_sort, is_value_sort, is_task_sort, declaration, declarations, declared_by, sort_of_form, parameter_count, count_of, number_at}
use Rattle.app_tree.specs.Resolve.{text_of_name, number_named, draft_site_count, act_site_count, acts_site_count, resolved_tree, resolved_trees, resolved_deed, resolved_act, resolved_acts, resolved_form, resolved_item, resolved}
use Rattle.app_tree.specs.Faults.{name_refused, unknown_name, is_other_count, argument_count_fault, tree_count, Spot, elsewhere, term_faults, terms_faults, deed_faults, act_faults, acts_faults, spot_in, form_faults, faults}
use Rattle.app_tree.proofs.NoFaults.{nothing_left, nothing_right, holds_not}
use Rattle.app_tree.proofs.Numbers.{Finds, finds}
use Rattle.app_laws.specs.Statements.{before_tasks, IsTaskSource, FitsAct, FitActs, FitsNode, StatementsFit}
use Rattle.app_laws.proofs.SortCounts.{sorts_kept}
use Rattle.app_laws.proofs.OwnSources.{inputs_counted, values_counted, input_within, value_within}
use Rattle.app_laws.proofs.WellOrdered.{some_of, reader_is, passing}

-- ---- the task that a declaration stands for

-- it is a task, and takes so many arguments
record IsTaskOf (found : Option Node) (count : ℕ) : Type 0 where
  name : List ℕ
  parameters : List (List ℕ)
  body : Tree
  is : found ≡ Some (task name parameters body)
  takes : count ≡ length parameters

task_kept : (table : List Declared) (name : List ℕ) (f : WrittenForm) → is_task_sort (sort_of_form f) ≡ true → IsTaskOf (Some (resolved_form table name f)) (parameter_count f)
task_kept table name (draft.task parameters body) is = record {
  name = name;
  parameters = map text_of_name parameters;
  body = resolved_tree table (map text_of_name parameters) 0 body;
  is = refl;
  takes = sym (length-map parameters text_of_name);
}
task_kept table name (draft.input start) is = absurd cc
task_kept table name (draft.value start) is = absurd cc
task_kept table name (draft.reactive keys body) is = absurd cc
task_kept table name (draft.event flags e body) is = absurd cc
task_kept table name (draft.text shown) is = absurd cc
task_kept table name (draft.plot shown) is = absurd cc
task_kept table name (draft.observe priority block) is = absurd cc
task_kept table name (draft.on priority flags e block) is = absurd cc

-- a task's number among the tasks is how many are declared before it
task_at : (table : List Declared) (items : List WrittenItem) (j : ℕ) (e : Declared) → slice_get (declarations items) j ≡ Some e → is_task_sort e.sort ≡ true
    → IsTaskOf (slice_get (filter is_task (map (resolved_item table) items)) (count_of is_task_sort (take j (declarations items)))) e.parameters
task_at table [] j e stands is = absurd cc
task_at table (w ∷ more) zero e stands is =
    let same : declared_by w ≡ e = some_is (declared_by w) e stands in
    let sought : is_task_sort (sort_of_form w.form) ≡ true = ap (λ (o : Declared). is_task_sort o.sort) same ∙ is in
    let kept : is_task (resolved_item table w) ≡ true = (sorts_kept table w.name.text w.form).tasks ∙ sought in
    let here : IsTaskOf (Some (resolved_item table w)) e.parameters =
    subst (λ (o : Declared). IsTaskOf (Some (resolved_item table w)) o.parameters) same (task_kept table w.name.text w.form sought) in
    rw kept here
  where
    some_is : (a b : Declared) → Some a ≡ Some b → a ≡ b
    some_is a b e = cc
task_at table (w ∷ more) (suc j) e stands is =
    decide (is_task_sort (sort_of_form w.form)) refl (sorts_kept table w.name.text w.form).tasks (task_at table more j e stands is)
  where
    decide : (b : Bool) → b ≡ is_task_sort (sort_of_form w.form) → is_task (resolved_item table w) ≡ is_task_sort (sort_of_form w.form)
        → IsTaskOf (slice_get (filter is_task (map (resolved_item table) more)) (count_of is_task_sort (take j (declarations more)))) e.parameters
        → IsTaskOf (slice_get (filter is_task (map (resolved_item table) (w ∷ more))) (count_of is_task_sort (take (suc j) (declarations (w ∷ more))))) e.parameters
    decide true b same rest = rw (same, ← b) rest
    decide false b same rest = rw (same, ← b) rest

-- as many arguments stand in the app as were written
arguments_kept : (table : List Declared) (scope : List (List ℕ)) (n : ℕ) (ts : DraftTrees) → term_count (resolved_trees table scope n ts) ≡ tree_count ts
arguments_kept table scope n draft.no_trees = refl
arguments_kept table scope n (draft.tree t more) = ap suc (arguments_kept table scope (n + draft_site_count t) more)

not_false : (b : Bool) → not b ≡ false → b ≡ true
not_false true e = refl
not_false false e = absurd cc

same_count : (parameters count : ℕ) → not (nat_eq parameters count) ≡ false → parameters ≡ count
same_count parameters count e = eqb-true parameters count (not_false (nat_eq parameters count) e)

module _ (d : DraftShape) where
  abbrev table : List Declared
  table = declarations d.items

  -- ---- the number of what a statement names

  -- what holds of each declaration that is found holds of what the name stands for, where no check refuses the name
  named_well : (sought : Sort → Bool) (name : Name) (P : ℕ → Type 0) → unknown_name table sought name ≡ []
      → ((found : ℕ × Declared) → declaration sought name.text table ≡ Some found → Finds sought name.text table found → P (number_at table found.0 found.1.sort))
      → P (number_named table sought name.text)
  named_well sought name P none each =
      some_of (declaration sought name.text table) (P (number_named table sought name.text))
      (holds_not (is_none (declaration sought name.text table)) (name_refused fault.NameUnknown name) none)
      (λ found is. rw is (each found is (finds sought name.text table found is)))

  input_own : (name : Name) → unknown_name table is_input_sort name ≡ [] → number_named table is_input_sort name.text < length (starting_values (resolved d).items)
  input_own name none =
      named_well is_input_sort name (λ s. s < length (starting_values (resolved d).items)) none
      (λ found is h. input_within d found.0 found.1 found.1.sort h.stands refl h.is)

  value_own : (name : Name) → unknown_name table is_value_sort name ≡ [] → number_named table is_value_sort name.text < length (starting_values (resolved d).items)
  value_own name none =
      named_well is_value_sort name (λ s. s < length (starting_values (resolved d).items)) none
      (λ found is h. value_within d found.0 found.1 found.1.sort h.stands refl h.is)

  task_source : (j : ℕ) (e : Declared) (s : Sort) (count : ℕ) → slice_get table j ≡ Some e → s ≡ e.sort → is_task_sort s ≡ true → e.parameters ≡ count → IsTaskSource (resolved d) (number_at table j s) count
  task_source j e sort.Task count stands same is takes =
      let found = task_at table d.items j e stands (ap is_task_sort (sym same)) in
      let before : count_of is_input_sort table + (count_of is_value_sort table + count_of is_task_sort (take j table)) ≡ before_tasks (resolved d) + count_of is_task_sort (take j table) =
      omega (inputs_counted d, values_counted d, arith) in
      let index : number_at table j sort.Task - before_tasks (resolved d) ≡ count_of is_task_sort (take j table) = omega (before, arith) in
      record {
        behind = omega (before, arith);
        name = found.name;
        parameters = found.parameters;
        body = found.body;
        is = ap (slice_get (filter is_task (resolved d).items)) index ∙ found.is;
        takes = sym takes ∙ found.takes;
      }
  task_source j e _ count stands same is takes = absurd cc

  task_own : (name : Name) (count : ℕ) → unknown_name table is_task_sort name ≡ [] → argument_count_fault table name count ≡ [] → IsTaskSource (resolved d) (number_named table is_task_sort name.text) count
  task_own name count none counted =
      named_well is_task_sort name (λ s. IsTaskSource (resolved d) s count) none
      (λ found is h.
      let other : is_other_count count (declaration is_task_sort name.text table) ≡ false = holds_not (is_other_count count (declaration is_task_sort name.text table)) (name_refused fault.ArgCount name) counted in
      task_source found.0 found.1 found.1.sort count h.stands refl h.is
      (same_count found.1.parameters count (ap (is_other_count count) (sym is) ∙ other)))

  -- ---- statements

  abbrev spot : ℕ → Spot
  spot k = spot_in table k elsewhere []

  deed_fits : (k n : ℕ) (deed : DraftDeed) → deed_faults (spot k) deed ≡ [] → FitsAct (resolved d) (resolved_deed table n deed)
  deed_fits k n (draft.set name t) none = value_own name (nothing_left (unknown_name table is_value_sort name) (term_faults (spot k) t) none)
  deed_fits k n (draft.invoke name ts) none =
      let first = nothing_left (unknown_name table is_task_sort name ++ argument_count_fault table name (tree_count ts)) (terms_faults (spot k) ts) none in
      subst (λ (count : ℕ). IsTaskSource (resolved d) (number_named table is_task_sort name.text) count) (sym (arguments_kept table [] n ts))
      (task_own name (tree_count ts)
      (nothing_left (unknown_name table is_task_sort name) (argument_count_fault table name (tree_count ts)) first)
      (nothing_right (unknown_name table is_task_sort name) (argument_count_fault table name (tree_count ts)) first))
  deed_fits k n (draft.update name t) none = input_own name (nothing_left (unknown_name table is_input_sort name) (term_faults (spot k) t) none)
  deed_fits k n (draft.freeze name) none = input_own name none

  mutual
    act_fits : (k n : ℕ) (a : DraftAct) → act_faults (spot k) a ≡ [] → FitsAct (resolved d) (resolved_act table n a)
    act_fits k n (draft.write w) none = deed_fits k n w.deed none
    act_fits k n (draft.perform t) none = tt
    act_fits k n (draft.branch t block) none = acts_fit k (n + draft_site_count t) block (nothing_right (term_faults (spot k) t) (acts_faults (spot k) block) none)
    act_fits k n (draft.branch_else t block other) none =
        let blocks = nothing_right (term_faults (spot k) t) (acts_faults (spot k) block ++ acts_faults (spot k) other) none in (
          acts_fit k (n + draft_site_count t) block (nothing_left (acts_faults (spot k) block) (acts_faults (spot k) other) blocks),
          acts_fit k (n + draft_site_count t + acts_site_count block) other (nothing_right (acts_faults (spot k) block) (acts_faults (spot k) other) blocks),
        )

    acts_fit : (k n : ℕ) (block : DraftActs) → acts_faults (spot k) block ≡ [] → FitActs (resolved d) (resolved_acts table n block)
    acts_fit k n draft.no_acts none = tt
    acts_fit k n (draft.act a more) none = (
      act_fits k n a (nothing_left (act_faults (spot k) a) (acts_faults (spot k) more) none),
      acts_fit k (n + act_site_count a) more (nothing_right (act_faults (spot k) a) (acts_faults (spot k) more) none),
    )

  form_fits : (k : ℕ) (name : List ℕ) (f : WrittenForm) → form_faults table k f ≡ [] → FitsNode (resolved d) (resolved_form table name f)
  form_fits k name (draft.input start) none = tt
  form_fits k name (draft.value start) none = tt
  form_fits k name (draft.task parameters body) none = tt
  form_fits k name (draft.reactive keys body) none = tt
  form_fits k name (draft.event flags e body) none = tt
  form_fits k name (draft.text shown) none = tt
  form_fits k name (draft.plot shown) none = tt
  form_fits k name (draft.observe priority block) none = acts_fit k 0 block none
  form_fits k name (draft.on priority flags e block) none =
      acts_fit k (suc (draft_site_count e)) block (nothing_right (term_faults (spot k) e) (acts_faults (spot k) block) none)

-- ---- whole apps

resolved_fits : (d : DraftShape) → faults d ≡ [] → (n : ℕ) (i : Node) → reader (resolved d) n ≡ Some i → FitsNode (resolved d) i
resolved_fits d none n i e =
    let r = reader_is d none n i e in
    subst (λ (node : Node). FitsNode (resolved d) node) r.stands
    (form_fits d (0 + r.before) r.item.name.text r.item.form (passing d none (0 + r.before) r.item r.passes))

pub statements_fit : StatementsFit
statements_fit app well =
    subst (λ (those : Shape). (n : ℕ) (i : Node) → reader those n ≡ Some i → FitsNode those i) well.stands (resolved_fits well.draft well.passes)
