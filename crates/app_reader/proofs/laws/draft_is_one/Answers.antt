use Rattle.app_reader.proofs.FilesAgain.{draft_is_one}
use Rattle.app_reader.proofs.laws.draft_is_one.Goals as goal

-- src/laws.rt
pub returns : goal.returns
returns c = draft_is_one
