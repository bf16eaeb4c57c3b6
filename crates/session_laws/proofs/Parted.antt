-- The two runs in a state that isn't right, computed.
use Rattle.std.proofs.Common.{refl}
use Rattle.session_laws.specs.Parted.{SeesTheSite, MissesTheSite}

pub sees_the_site : SeesTheSite
sees_the_site = refl

pub misses_the_site : MissesTheSite
misses_the_site = refl
