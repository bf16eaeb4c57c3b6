use Rattle.app_reader.proofs.FilesSound.{read_is_spelled}
use Rattle.app_reader.proofs.laws.read_is_spelled.Goals as goal

-- src/laws.rt
pub returns : goal.returns
returns c = read_is_spelled
