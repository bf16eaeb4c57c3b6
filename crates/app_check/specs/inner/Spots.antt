-- Where a part of a term stands, as the code has it.
use Rattle.std.specs.Prelude.{ℕ, zero, suc, Bool, false, ◌&&◌, List, [], map, Option, Some, None}
use Rattle.app_tree.specs.Resolve.{text_of_name, inner_scope}
use Rattle.app_tree.specs.Faults.{in_task, in_expression, elsewhere, is_in_expression, is_at_or_behind, Spot as Stand, Holder as Held}
use Rattle.app_check.specs.declared.table.Declaration.{Declaration}
use Rattle.app_check.specs.declared.spot.Holder.{Holder}
use Rattle.app_check.specs.declared.spot.Holder.TheVariants as holder
use Rattle.app_check.specs.declared.spot.Scope.{Scope}
use Rattle.app_check.specs.declared.spot.Scope.TheOpen.{Scope-F}
use Rattle.app_check.specs.declared.spot.Scope.TheFolds.{fold-Scope}
use Rattle.app_check.specs.declared.spot.Spot.{Spot}

abbrev pub holder_of : Holder → Held
holder_of holder.Task = in_task
holder_of holder.Expression = in_expression
holder_of holder.Other = elsewhere

abbrev pub scope_step : Scope-F (List (List ℕ)) → List (List ℕ)
scope_step Scope-F.Empty = []
scope_step (Scope-F.Parameters names) = map text_of_name names.now
scope_step (Scope-F.LastPart outer accumulator element) = inner_scope outer.now accumulator.now.text element.now.text

-- the variables, from the outside to the inside
abbrev pub variables_of : Scope → List (List ℕ)
variables_of = fold-Scope (List (List ℕ)) scope_step

abbrev pub depth_step : Scope-F ℕ → ℕ
depth_step Scope-F.Empty = zero
depth_step (Scope-F.Parameters names) = zero
depth_step (Scope-F.LastPart outer accumulator element) = suc outer.now

-- in how many last parts of folds
abbrev pub depth_of : Scope → ℕ
depth_of = fold-Scope ℕ depth_step

abbrev pub spot_of : Spot → Stand
spot_of s = record { table = s.table.now; item = s.item; holder = holder_of s.holder; scope = variables_of s.scope; last_parts = depth_of s.scope }

-- what was found is the expression in which the read stands, or a later one
abbrev pub is_declared_forward : Stand → Option Declaration → Bool
is_declared_forward spot (Some found) = is_in_expression spot.holder && is_at_or_behind spot.item found.sort found.item
is_declared_forward spot None = false
