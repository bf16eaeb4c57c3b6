use Rattle.app_reader.proofs.FilesAgain.{spelled_is_read}
use Rattle.app_reader.proofs.laws.spelled_is_read.Goals as goal

-- src/laws.rt
pub returns : goal.returns
returns c = spelled_is_read
