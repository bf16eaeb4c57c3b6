-- A covered body has no isolated site.
use Rattle.std.proofs.Common.{◌≡◌, ℕ, Bool, true, false, Option, Some, refl, sym, ap, ◌∙◌, inl, inr}
use Rattle.std.specs.Prelude.{◌==◌, ◌&&◌, length}
use Rattle.std.proofs.lemmas.Bool.Decides.{eqb_tells}
use Rattle.app_tree.specs.Tree.{Tree, Trees, tree, Node, Shape}
use Rattle.app_tree.specs.Numbering.{readers, reader}
use Rattle.app_tree.specs.Evaluate.{site_count}
use Rattle.app_tree.specs.Cover.{reads_in, are_covered, covered_below, Cached, cached_node, is_covered_by, is_covered}

pub and_left : (a b : Bool) → (a && b) ≡ true → a ≡ true
and_left true b h = refl
and_left false b h = cc

pub and_right : (a b : Bool) → (a && b) ≡ true → b ≡ true
and_right true b h = h
and_right false b h = cc

pub eq_means : (m n : ℕ) → (m == n) ≡ true → m ≡ n
eq_means m n h = elim (eqb_tells m n) [ inl p ↦ p.1 | inr p ↦ absurd cc ]

-- what a cached reader's keys cover
pub record IsCoveredBody (app : Shape) (keys : Trees) (body : Tree) : Type 0 where
  pub bare : site_count body ≡ 0
  pub reads : are_covered keys (covered_below app keys (length (readers app))) (reads_in body) ≡ true

pub covered_by : (app : Shape) (c : Cached) → is_covered_by app (Some c) ≡ true → IsCoveredBody app c.keys c.body
covered_by app c h = record {
  bare = eq_means (site_count c.body) 0 (and_left (site_count c.body == 0) (are_covered c.keys (covered_below app c.keys (length (readers app))) (reads_in c.body)) h);
  reads = and_right (site_count c.body == 0) (are_covered c.keys (covered_below app c.keys (length (readers app))) (reads_in c.body)) h;
}

pub covered_body : (app : Shape) (n : ℕ) (i : Node) (key : Tree) (more : Trees) (body : Tree) → reader app n ≡ Some i → cached_node (Some i) ≡ Some (record { keys = tree key more; body = body }) → is_covered app n ≡ true
    → IsCoveredBody app (tree key more) body
covered_body app n i key more body is cached h =
    covered_by app (record { keys = tree key more; body = body }) (ap (is_covered_by app) (sym cached) ∙ ap (λ (o : Option Node). is_covered_by app (cached_node o)) (sym is) ∙ h)
