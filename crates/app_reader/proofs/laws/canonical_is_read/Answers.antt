use Rattle.app_reader.proofs.FilesAgain.{canonical_is_read}
use Rattle.app_reader.proofs.laws.canonical_is_read.Goals as goal

-- src/laws.rt
pub returns : goal.returns
returns c = canonical_is_read
