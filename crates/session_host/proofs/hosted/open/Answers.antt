use Rattle.std.proofs.Common.{subst}
use Rattle.app_tree.specs.Held.{Held}
use Rattle.app_tree.specs.View.{shape_of}
use Rattle.app_tree.specs.WellFormed.{IsWellFormed}
use Rattle.session_laws.proofs.StandingLaws.{first_stands}
use Rattle.session_host.proofs.hosted.open.Goals as goal

pub returns-in_err-clone-clause-stands : goal.returns-in_err-clone-clause-stands
returns-in_err-clone-clause-stands c =
    first_stands (shape_of c.args.app.now.value)
    (record { well_formed = subst (λ (a : Held). IsWellFormed (shape_of a)) c.deref.ensures c.items.ensures.well_formed; covered = c.requires })

pub returns-clause-stands : goal.returns-clause-stands
returns-clause-stands c =
    first_stands (shape_of c.args.app.now.value)
    (record { well_formed = subst (λ (a : Held). IsWellFormed (shape_of a)) c.deref.ensures c.items.ensures.well_formed; covered = c.requires })
