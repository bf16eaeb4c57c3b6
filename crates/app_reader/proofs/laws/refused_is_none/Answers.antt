use Rattle.app_reader.proofs.FilesAgain.{refused_is_none}
use Rattle.app_reader.proofs.laws.refused_is_none.Goals as goal

-- src/laws.rt
pub returns : goal.returns
returns c = refused_is_none
