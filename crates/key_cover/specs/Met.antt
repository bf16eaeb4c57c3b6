-- What is met first, in the order of the text, where the body of a cached reader is walked and its keys don't cover it.
--
-- A read that is itself a key is covered. Another read of a source is missing. In the place of another read of an
-- expression stands what that expression reads: its keys and then its body, of an event its event term. An isolate is
-- covered by no key, and no more is the body of an event, which is a site too.
use Rattle.std.specs.Prelude.{ℕ, zero, suc, List, [], ◌∷◌, ◌++◌, length, Option, Some, None, slice_get, unwrap_or, if◌then◌else◌}
use Rattle.app_tree.specs.declared.term.Read.{Read}
use Rattle.app_tree.specs.declared.term.Read.TheVariants as read
use Rattle.app_tree.specs.Tree.{Tree, constant, group, get, variable, isolate, stop, require, fold, unary, binary, choice, call, Trees, no_trees, tree, Node, reactive, event, Shape}
use Rattle.app_tree.specs.Numbering.{readers, reader}
use Rattle.app_tree.specs.Evaluate.{site_count}
use Rattle.app_tree.specs.Cover.{is_key, Cached, cached_node}
use Rattle.key_cover.specs.declared.coverage.Coverage.{Coverage}
use Rattle.key_cover.specs.declared.coverage.Coverage.TheVariants.{Covered, Missing, Isolated}

-- what is met first in a text, and then in the text behind it
abbrev pub first_of : Coverage → Coverage → Coverage
first_of Covered next = next
first_of (Missing r) next = Missing r
first_of (Isolated site) next = Isolated site

-- ---- terms, where it is known what is met in the expressions that stand before, by their numbers

-- an expression that doesn't stand before is missing itself
abbrev pub met_behind : List Coverage → Read → Coverage
met_behind before (read.Expr m) = unwrap_or (slice_get before m) (Missing (read.Expr m))
met_behind before r = Missing r

abbrev pub met_in_read : Trees → List Coverage → Read → Coverage
met_in_read keys before r = if is_key keys r then Covered else met_behind before r

-- each part of a term counts, also one that may not be taken
abbrev mutual
  pub met_in : Trees → List Coverage → Tree → Coverage
  met_in keys before (constant x) = Covered
  met_in keys before (group t) = met_in keys before t
  met_in keys before (get r) = met_in_read keys before r
  met_in keys before (variable n) = Covered
  met_in keys before (isolate site t) = Isolated site
  met_in keys before (stop t) = met_in keys before t
  met_in keys before (require t cancels) = met_in keys before t
  met_in keys before (fold list start accumulator element body) =
      first_of (met_in keys before list) (first_of (met_in keys before start) (met_in keys before body))
  met_in keys before (unary op t) = met_in keys before t
  met_in keys before (binary op a b) = first_of (met_in keys before a) (met_in keys before b)
  met_in keys before (choice condition a b) =
      first_of (met_in keys before condition) (first_of (met_in keys before a) (met_in keys before b))
  met_in keys before (call f ts) = met_in_all keys before ts

  pub met_in_all : Trees → List Coverage → Trees → Coverage
  met_in_all keys before no_trees = Covered
  met_in_all keys before (tree t more) = first_of (met_in keys before t) (met_in_all keys before more)

-- ---- expressions

-- in the place of a read of reader n, which is covered only where it is an expression; the site of an event's body has the
-- number behind those of its event term
abbrev pub met_in_node : Trees → List Coverage → ℕ → Option Node → Coverage
met_in_node keys before n (Some (reactive name its_keys body)) = first_of (met_in_all keys before its_keys) (met_in keys before body)
met_in_node keys before n (Some (event name flags e body)) = first_of (met_in keys before e) (Isolated (site_count e))
met_in_node keys before n _ = Missing (read.Expr n)

-- by number, what is met in the place of each reader of a number below n, which may read the readers before it alone
abbrev pub met_below : Shape → Trees → ℕ → List Coverage
met_below app keys zero = []
met_below app keys (suc n) = with_next (met_below app keys n)
  where
    with_next : List Coverage → List Coverage
    with_next before = before ++ met_in_node keys before n (reader app n) ∷ []

-- ---- cached readers

abbrev pub met_by : Shape → Option Cached → Coverage
met_by app None = Covered
met_by app (Some c) = met_in c.keys (met_below app c.keys (length (readers app))) c.body

-- what is met first in the body of reader n; nothing is asked of a reader that isn't cached
abbrev pub first_met : Shape → ℕ → Coverage
first_met app n = met_by app (cached_node (reader app n))
