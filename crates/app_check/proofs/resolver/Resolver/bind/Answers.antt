use Rattle.app_check.proofs.Placed.{stand_kept, stand_pushed}
use Rattle.app_check.proofs.resolver.Resolver.bind.Goals as goal

pub invariant_of-self : goal.invariant_of-self
invariant_of-self c = stand_kept c.self.inside.parameters c.self.inside.variables.items c.push.new.variables.items c.in_err-push.ensures.err c.self.invariant

pub invariant_of-self-in_err-push-2 : goal.invariant_of-self-in_err-push-2
invariant_of-self-in_err-push-2 c =
    let first = stand_pushed c.self.inside.parameters c.self.inside.variables.items c.push.new.variables.items _ c.in_ok-push.ensures.ok c.self.invariant in
    stand_kept c.self.inside.parameters c.push.new.variables.items c.push-2.new.variables.items c.in_err-push-2.ensures.err first

pub invariant_of-self-2 : goal.invariant_of-self-2
invariant_of-self-2 c =
    let first = stand_pushed c.self.inside.parameters c.self.inside.variables.items c.push.new.variables.items _ c.in_ok-push.ensures.ok c.self.invariant in
    stand_pushed c.self.inside.parameters c.push.new.variables.items c.push-2.new.variables.items _ c.in_ok-push-2.ensures.ok first
