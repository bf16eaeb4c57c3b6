use Rattle.shiny_main.proofs.PastLimit.{past_is_here}
use Rattle.shiny_main.proofs.lines.limit_laws.Goals as goal

pub returns : goal.returns
returns c = past_is_here
