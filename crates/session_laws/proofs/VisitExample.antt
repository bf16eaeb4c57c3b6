-- What a visit does, computed.
use Rattle.std.proofs.Common.{refl}
use Rattle.session_laws.specs.VisitExample.{RunsTheAsked, TracesSayIt}

pub runs_the_asked : RunsTheAsked
runs_the_asked = refl

pub traces_say_it : TracesSayIt
traces_say_it = refl
