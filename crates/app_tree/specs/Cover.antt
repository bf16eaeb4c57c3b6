-- Cached readers: whether the keys cover the body, and what a covered body comes to by the values of the keys alone.
use Rattle.std.specs.Prelude.{ℕ, zero, suc, ◌==◌, Bool, true, false, ◌&&◌, ◌||◌, List, [], ◌∷◌, ◌++◌, length, Option, Some, None, slice_get, unwrap_or, if◌then◌else◌}
use Rattle.rx_value.specs.declared.value.Value.{Value}
use Rattle.rx_value.specs.declared.outcome.Outcome.{Outcome}
use Rattle.rx_value.specs.declared.outcome.Outcome.TheVariants.{Val, Stop}
use Rattle.app_tree.specs.declared.term.Read.{Read}
use Rattle.app_tree.specs.declared.term.Read.TheVariants as read
use Rattle.app_tree.specs.Tree.{Tree, constant, group, get, variable, isolate, stop, require, fold, unary, binary, choice, call, Trees, no_trees, tree, Node, reactive, text, plot, Shape}
use Rattle.app_tree.specs.Numbering.{readers, reader}
use Rattle.app_tree.specs.Evaluate.{Answers, outcome_of, site_count, site_count_all}
use Rattle.app_tree.specs.Fresh.{evaluate_node}

-- ---- reads

abbrev pub read_eq : Read → Read → Bool
read_eq (read.Input s) (read.Input t) = s == t
read_eq (read.Value s) (read.Value t) = s == t
read_eq (read.Expr m) (read.Expr n) = m == n
read_eq (read.Status s) (read.Status t) = s == t
read_eq (read.Result s) (read.Result t) = s == t
read_eq (read.Width m) (read.Width n) = m == n
read_eq (read.Height m) (read.Height n) = m == n
read_eq _ _ = false

-- every read that stands anywhere in a term, in the order of the text
abbrev mutual
  pub reads_in : Tree → List Read
  reads_in (constant x) = []
  reads_in (group t) = reads_in t
  reads_in (get r) = r ∷ []
  reads_in (variable n) = []
  reads_in (isolate site t) = reads_in t
  reads_in (stop t) = reads_in t
  reads_in (require t cancels) = reads_in t
  reads_in (fold list start accumulator element body) = reads_in list ++ reads_in start ++ reads_in body
  reads_in (unary op t) = reads_in t
  reads_in (binary op a b) = reads_in a ++ reads_in b
  reads_in (choice condition m n) = reads_in condition ++ reads_in m ++ reads_in n
  reads_in (call f ts) = reads_in_all ts

  pub reads_in_all : Trees → List Read
  reads_in_all no_trees = []
  reads_in_all (tree t more) = reads_in t ++ reads_in_all more

-- ---- cover

-- one of the keys is this read; a key in brackets is none
abbrev pub is_key : Trees → Read → Bool
is_key no_trees r = false
is_key (tree (get k) more) r = read_eq k r || is_key more r
is_key (tree key more) r = is_key more r

-- a read that is a key, or of an expression that is covered itself
abbrev pub is_covered_read : Trees → (ℕ → Bool) → Read → Bool
is_covered_read keys covered (read.Expr m) = is_key keys (read.Expr m) || covered m
is_covered_read keys covered r = is_key keys r

abbrev pub are_covered : Trees → (ℕ → Bool) → List Read → Bool
are_covered keys covered [] = true
are_covered keys covered (r ∷ more) = is_covered_read keys covered r && are_covered keys covered more

-- no site in it, and each of its reads is covered
abbrev pub is_covered_term : Trees → (ℕ → Bool) → Tree → Bool
is_covered_term keys covered t = (site_count t == 0) && are_covered keys covered (reads_in t)

abbrev pub are_covered_terms : Trees → (ℕ → Bool) → Trees → Bool
are_covered_terms keys covered ts = (site_count_all ts == 0) && are_covered keys covered (reads_in_all ts)

-- the body of an event is a site, so an event is not covered
abbrev pub is_covered_node : Trees → (ℕ → Bool) → Option Node → Bool
is_covered_node keys covered (Some (reactive name its_keys body)) = are_covered_terms keys covered its_keys && is_covered_term keys covered body
is_covered_node keys covered _ = false

-- the expressions of a number below a bound that are covered by these keys
abbrev pub covered_below : Shape → Trees → ℕ → ℕ → Bool
covered_below app keys zero m = false
covered_below app keys (suc k) m =
    if m == k then is_covered_node keys (covered_below app keys k) (reader app k) else covered_below app keys k m

-- the keys and the body of a cached reader
pub record Cached : Type 0 where
  pub keys : Trees
  pub body : Tree

abbrev pub with_keys : Trees → Tree → Option Cached
with_keys no_trees body = None
with_keys (tree key more) body = Some (record { keys = tree key more; body = body })

-- None where the reader isn't cached
abbrev pub cached_node : Option Node → Option Cached
cached_node (Some (reactive name keys body)) = with_keys keys body
cached_node (Some (text name shown)) = with_keys shown.keys shown.body
cached_node (Some (plot name shown)) = with_keys shown.keys shown.body
cached_node _ = None

abbrev pub is_covered_by : Shape → Option Cached → Bool
is_covered_by app None = true
is_covered_by app (Some c) = is_covered_term c.keys (covered_below app c.keys (length (readers app))) c.body

-- reader n is not cached, or all that its body comes to is said by the values of its keys
abbrev pub is_covered : Shape → ℕ → Bool
is_covered app n = is_covered_by app (cached_node (reader app n))

-- so is each reader
abbrev pub is_sound_below : Shape → ℕ → Bool
is_sound_below app zero = true
is_sound_below app (suc n) = is_sound_below app n && is_covered app n

abbrev pub is_sound : Shape → Bool
is_sound app = is_sound_below app (length (readers app))

-- ---- what a covered body comes to

-- the value of the first key that is this read
abbrev pub key_value : Trees → List Value → Read → Option Value
key_value (tree (get k) more) (x ∷ xs) r = if read_eq k r then Some x else key_value more xs r
key_value (tree key more) (x ∷ xs) r = key_value more xs r
key_value _ _ r = None

-- an expression that is no key comes to what it comes to by the keys, and a covered body reads nothing else
abbrev pub by_outcomes : List Outcome → Read → Outcome
by_outcomes outcomes (read.Expr m) = unwrap_or (slice_get outcomes m) Stop
by_outcomes outcomes r = Stop

abbrev pub by_key : Option Value → List Outcome → Read → Outcome
by_key (Some x) outcomes r = Val x
by_key None outcomes r = by_outcomes outcomes r

-- a covered body has no site
abbrev pub keyed_answers : Trees → List Value → List Outcome → Answers
keyed_answers keys xs outcomes = record { read = λ r. by_key (key_value keys xs r) outcomes r; site = λ site. Some Stop }

-- by reader number, what the readers of a number below n come to by the keys
abbrev pub keyed_below : Shape → Trees → List Value → ℕ → List Outcome
keyed_below app keys xs zero = []
keyed_below app keys xs (suc n) = with_keyed (keyed_below app keys xs n)
  where
    with_keyed : List Outcome → List Outcome
    with_keyed outcomes = outcomes ++ (evaluate_node (reader app n) (keyed_answers keys xs outcomes)).outcome ∷ []

abbrev pub keyed_by : Shape → List Value → Option Cached → Outcome
keyed_by app xs None = Stop
keyed_by app xs (Some c) = outcome_of c.body (keyed_answers c.keys xs (keyed_below app c.keys xs (length (readers app)))) []

-- what the body of cached reader n comes to where its keys have these values
abbrev pub keyed_outcome : Shape → ℕ → List Value → Outcome
keyed_outcome app n xs = keyed_by app xs (cached_node (reader app n))
