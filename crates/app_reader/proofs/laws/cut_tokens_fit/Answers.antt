use Rattle.app_reader.proofs.Cut.{cut_tokens_fit}
use Rattle.app_reader.proofs.laws.cut_tokens_fit.Goals as goal

-- src/laws.rt
pub returns : goal.returns
returns c = cut_tokens_fit
