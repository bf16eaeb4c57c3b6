use Rattle.std.proofs.Common.{◌≡◌, drop, map}
use Rattle.app_tree.specs.Resolve.{innermost_from, innermost}
use Rattle.app_check.proofs.resolver.innermost.Given as goal

abbrev pub invariant-loop-place : goal.invariant-loop-place
invariant-loop-place l = innermost_from l.place l.found l.name (map (λ v. v.now) (drop l.place l.variables)) ≡ innermost l.name (map (λ v. v.now) l.variables)
