use Rattle.shiny_json.proofs.LastTold.{tell_the_last}
use Rattle.shiny_json.proofs.laws.values_laws.Goals as goal

pub returns : goal.returns
returns c = tell_the_last
