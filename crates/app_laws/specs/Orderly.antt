-- What the laws of a session take from an app: readers read earlier expressions and the app's own sources, and each
-- isolated site of a reader has a number of its own. Each well-formed app is so.
use Rattle.std.specs.Prelude.{◌≡◌, ◌<◌, ⊤, ℕ, suc, ◌+◌, true, List, [], ◌++◌, length, Some, if◌then◌else◌}
use Rattle.app_tree.specs.declared.term.Read.{Read}
use Rattle.app_tree.specs.declared.term.Read.TheVariants as read
use Rattle.app_tree.specs.Tree.{Tree, constant, group, get, variable, isolate, stop, require, fold, unary, binary, choice, call, Trees, no_trees, tree, Act, set, invoke, update, freeze, perform, branch, branch_else, Acts, no_acts, act, Node, reactive, event, text, plot, observe, on, Shape}
use Rattle.app_tree.specs.Numbering.{readers, reader, is_expression, starting_values, width_source, height_source}
use Rattle.app_tree.specs.Fresh.{is_expression_at}
use Rattle.app_tree.specs.Evaluate.{site_count, site_count_all}
use Rattle.app_tree.specs.Cover.{reads_in, reads_in_all}
use Rattle.app_tree.specs.Trace.{Every}

-- ---- reads

-- every read that stands anywhere in a statement, and in a block
abbrev mutual
  pub reads_in_act : Act → List Read
  reads_in_act (set s t) = reads_in t
  reads_in_act (invoke s ts) = reads_in_all ts
  reads_in_act (update s t) = reads_in t
  reads_in_act (freeze s) = []
  reads_in_act (perform t) = reads_in t
  reads_in_act (branch t block) = reads_in t ++ reads_in_acts block
  reads_in_act (branch_else t block other) = reads_in t ++ (reads_in_acts block ++ reads_in_acts other)

  pub reads_in_acts : Acts → List Read
  reads_in_acts no_acts = []
  reads_in_acts (act a more) = reads_in_act a ++ reads_in_acts more

-- every read that stands anywhere in a reader
abbrev pub reads_in_node : Node → List Read
reads_in_node (reactive name keys body) = reads_in_all keys ++ reads_in body
reads_in_node (event name flags e body) = reads_in e ++ reads_in body
reads_in_node (text name shown) = reads_in_all shown.keys ++ reads_in shown.body
reads_in_node (plot name shown) = reads_in_all shown.keys ++ reads_in shown.body
reads_in_node (observe name priority block) = reads_in_acts block
reads_in_node (on name priority flags e block) = reads_in e ++ reads_in_acts block
reads_in_node _ = []

-- a read of an expression whose number is below a bound; a read of a source may be any
abbrev pub ReadsBelow : Shape → ℕ → Read → Type 0
ReadsBelow app bound (read.Expr m) = (m < bound) × (is_expression_at (reader app m) ≡ true)
ReadsBelow app bound r = ⊤

-- a read of a source reads one of the app's own; of an expression nothing is said
abbrev pub ReadsSources : Shape → Read → Type 0
ReadsSources app (read.Input s) = s < length (starting_values app.items)
ReadsSources app (read.Value s) = s < length (starting_values app.items)
ReadsSources app (read.Status s) = s < length (starting_values app.items)
ReadsSources app (read.Result s) = s < length (starting_values app.items)
ReadsSources app (read.Width m) = width_source app m < length (starting_values app.items)
ReadsSources app (read.Height m) = height_source app m < length (starting_values app.items)
ReadsSources app (read.Expr m) = ⊤

-- an expression reads expressions of smaller numbers, and outputs and observers read any
abbrev pub bound_of : Shape → ℕ → Node → ℕ
bound_of app n i = if is_expression i then n else length (readers app)

-- ---- isolated sites

-- the sites of a term are numbered in the order of their first words, from n on, and none stands in the last part of a fold
abbrev mutual
  pub IsNumbered : ℕ → Tree → Type 0
  IsNumbered n (constant x) = ⊤
  IsNumbered n (group t) = IsNumbered n t
  IsNumbered n (get r) = ⊤
  IsNumbered n (variable k) = ⊤
  IsNumbered n (isolate site t) = (site ≡ n) × IsNumbered (suc n) t
  IsNumbered n (stop t) = IsNumbered n t
  IsNumbered n (require t cancels) = IsNumbered n t
  IsNumbered n (fold list start accumulator element body) =
      IsNumbered n list × (IsNumbered (n + site_count list) start × (site_count body ≡ 0))
  IsNumbered n (unary op t) = IsNumbered n t
  IsNumbered n (binary op a b) = IsNumbered n a × IsNumbered (n + site_count a) b
  IsNumbered n (choice condition a b) =
      IsNumbered n condition × (IsNumbered (n + site_count condition) a × IsNumbered (n + site_count condition + site_count a) b)
  IsNumbered n (call f ts) = AreNumbered n ts

  pub AreNumbered : ℕ → Trees → Type 0
  AreNumbered n no_trees = ⊤
  AreNumbered n (tree t more) = IsNumbered n t × AreNumbered (n + site_count t) more

-- how many sites stand in a statement, and in a block
abbrev mutual
  pub act_sites : Act → ℕ
  act_sites (set s t) = site_count t
  act_sites (invoke s ts) = site_count_all ts
  act_sites (update s t) = site_count t
  act_sites (freeze s) = 0
  act_sites (perform t) = site_count t
  act_sites (branch t block) = site_count t + acts_sites block
  act_sites (branch_else t block other) = site_count t + (acts_sites block + acts_sites other)

  pub acts_sites : Acts → ℕ
  acts_sites no_acts = 0
  acts_sites (act a more) = act_sites a + acts_sites more

-- the sites of a statement, and of a block, are numbered in the order of the text
abbrev mutual
  pub IsNumberedAct : ℕ → Act → Type 0
  IsNumberedAct n (set s t) = IsNumbered n t
  IsNumberedAct n (invoke s ts) = AreNumbered n ts
  IsNumberedAct n (update s t) = IsNumbered n t
  IsNumberedAct n (freeze s) = ⊤
  IsNumberedAct n (perform t) = IsNumbered n t
  IsNumberedAct n (branch t block) = IsNumbered n t × AreNumberedActs (n + site_count t) block
  IsNumberedAct n (branch_else t block other) =
      IsNumbered n t × (AreNumberedActs (n + site_count t) block × AreNumberedActs (n + site_count t + acts_sites block) other)

  pub AreNumberedActs : ℕ → Acts → Type 0
  AreNumberedActs n no_acts = ⊤
  AreNumberedActs n (act a more) = IsNumberedAct n a × AreNumberedActs (n + act_sites a) more

-- the keys come before the body, and what is behind an event term is a site itself, with the next number
abbrev pub IsNumberedNode : Node → Type 0
IsNumberedNode (reactive name keys body) = AreNumbered 0 keys × IsNumbered (site_count_all keys) body
IsNumberedNode (event name flags e body) = IsNumbered 0 e × IsNumbered (suc (site_count e)) body
IsNumberedNode (text name shown) = AreNumbered 0 shown.keys × IsNumbered (site_count_all shown.keys) shown.body
IsNumberedNode (plot name shown) = AreNumbered 0 shown.keys × IsNumbered (site_count_all shown.keys) shown.body
IsNumberedNode (observe name priority block) = AreNumberedActs 0 block
IsNumberedNode (on name priority flags e block) = IsNumbered 0 e × AreNumberedActs (suc (site_count e)) block
IsNumberedNode _ = ⊤

-- ---- the app

pub record IsOrderly (app : Shape) : Type 0 where
  pub reads : (n : ℕ) (i : Node) → reader app n ≡ Some i → Every (ReadsBelow app (bound_of app n i)) (reads_in_node i)
  pub sources : (n : ℕ) (i : Node) → reader app n ≡ Some i → Every (ReadsSources app) (reads_in_node i)
  pub sites : (n : ℕ) (i : Node) → reader app n ≡ Some i → IsNumberedNode i
