-- Which readers count as missing, computed.
use Rattle.std.proofs.Common.{refl}
use Rattle.session_model.specs.MissingExample.{CountsTheMissing}

pub counts_the_missing : CountsTheMissing
counts_the_missing = refl
