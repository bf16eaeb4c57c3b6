use Rattle.std.proofs.Common.{◌≡◌, rules}
use Rattle.app_tree.specs.Resolve.{inner_scope}
use Rattle.app_check.specs.declared.spot.Scope.TheFolds.{the_lemmas}
use Rattle.app_check.specs.inner.Spots.{variables_of}
use Rattle.app_check.proofs.First.{bound_outside, bound_here}
use Rattle.app_check.proofs.spot.Scope.+binds.Goals as goal

pub returns-then-outside : goal.returns-then-outside
returns-then-outside t c =
    let l = c.in-LastPart in
    let is : variables_of c.args.self.now ≡ inner_scope (variables_of l.outer.now) l.accumulator.now.text l.element.now.text = search (rules, the_lemmas) in
    bound_outside c.args.name.now (variables_of l.outer.now) l.accumulator.now.text l.element.now.text _ _ is c.binds-outside.ensures c.if-outside.true

pub returns-else-outside : goal.returns-else-outside
returns-else-outside t c =
    let l = c.in-LastPart in
    let is : variables_of c.args.self.now ≡ inner_scope (variables_of l.outer.now) l.accumulator.now.text l.element.now.text = search (rules, the_lemmas) in
    bound_here c.args.name.now (variables_of l.outer.now) l.accumulator.now.text l.element.now.text _ _ _ is c.binds-outside.ensures c.if-outside.false c.is_either-here.ensures
