use Rattle.std.proofs.Common.{◌≡◌, ℕ, List, [], ◌++◌, take, drop, map}
use Rattle.app_tree.specs.Resolve.{text_of_name, innermost}
use Rattle.app_tree.specs.Faults.{repeated_names}
use Rattle.app_check.specs.inner.ByName.{by_name}
use Rattle.app_check.specs.inner.Bound.{refused_names}
use Rattle.app_check.proofs.parameters.Parameters.new.Given as goal

abbrev pub invariant-loop-place : goal.invariant-loop-place
invariant-loop-place l = record {
  places : (name : List ℕ) → by_name l.places name ≡ innermost name (map text_of_name (take l.place l.names));
  repeated : refused_names l.repeated.items ++ repeated_names (map text_of_name (take l.place l.names)) (drop l.place l.names) ≡ repeated_names [] l.names;
}
