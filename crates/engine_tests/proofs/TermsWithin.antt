-- What an observer's terms read is the app's own.
use Rattle.std.proofs.Common.{◌≡◌, ℕ, zero, suc, Bool, false, List, [], ◌∷◌, ◌++◌, length, Option, Some, None, ap, subst}
use Rattle.std.specs.Prelude.{if◌then◌else◌, slice_get, IfSome}
use Rattle.std.proofs.lemmas.Option.{none-some}
use Rattle.app_tree.specs.declared.term.Read.{Read}
use Rattle.app_tree.specs.declared.statement.Statement.{Statement}
use Rattle.app_tree.specs.Tree.{Tree, Node, Shape}
use Rattle.app_tree.specs.Numbering.{readers, reader, is_expression}
use Rattle.app_tree.specs.Cover.{reads_in}
use Rattle.app_tree.specs.View.{act_of, acts_of_block}
use Rattle.app_tree.specs.Trace.{Every}
use Rattle.app_tree.specs.WellFormed.{IsWellFormed}
use Rattle.app_laws.specs.Orderly.{ReadsBelow, ReadsSources, bound_of, reads_in_act, reads_in_acts, reads_in_node}
use Rattle.app_laws.proofs.Agreeing.{front, back}
use Rattle.app_laws.proofs.WellOrdered.{well_formed_is_orderly}
use Rattle.engine_tests.specs.inner.ObserverReads.{AreOwn, IsWithin, IsTermOf}

pub front_own : (app : Shape) (xs ys : List Read) → AreOwn app (xs ++ ys) → AreOwn app xs
front_own app xs ys h = record {
  below = front (ReadsBelow app (length (readers app))) xs ys h.below;
  sources = front (ReadsSources app) xs ys h.sources;
}

pub back_own : (app : Shape) (xs ys : List Read) → AreOwn app (xs ++ ys) → AreOwn app ys
back_own app xs ys h = record {
  below = back (ReadsBelow app (length (readers app))) xs ys h.below;
  sources = back (ReadsSources app) xs ys h.sources;
}

-- what a statement of a block reads
pub within_block : (block : List Statement) (k : ℕ) (s : Statement) → slice_get block k ≡ Some s
    → IsWithin (reads_in_act (act_of s)) (reads_in_acts (acts_of_block block))
within_block [] k s at app own = absurd (none-some s at)
within_block (x ∷ block) zero s at app own =
    let same : x ≡ s = cc in
    subst (λ (y : Statement). AreOwn app (reads_in_act (act_of y))) same (front_own app (reads_in_act (act_of x)) (reads_in_acts (acts_of_block block)) own)
within_block (x ∷ block) (suc k) s at app own =
    within_block block k s at app (back_own app (reads_in_act (act_of x)) (reads_in_acts (acts_of_block block)) own)

bound_is : (app : Shape) (n : ℕ) (i : Node) → is_expression i ≡ false → bound_of app n i ≡ length (readers app)
bound_is app n i apart = ap (λ (b : Bool). if b then n else length (readers app)) apart

-- what a term of a reader reads that is no expression
pub term_own : (app : Shape) (well : IsWellFormed app) (n : ℕ) (i : Node) (t : Tree) → reader app n ≡ Some i → IsTermOf i t → AreOwn app (reads_in t)
term_own app well n i t is of =
    let orderly = well_formed_is_orderly app well in
    of.within app (record {
      below = subst (λ (k : ℕ). Every (ReadsBelow app k) (reads_in_node i)) (bound_is app n i of.apart) (orderly.reads n i is);
      sources = orderly.sources n i is;
    })

-- what follows of a value, if there is one
pub under : {A : Type 0} (P Q : A → Type 0) (o : Option A) → ((x : A) → P x → Q x) → IfSome o P → IfSome o Q
under P Q (Some x) f h = f x h
under P Q None f h = h
