use Rattle.session_laws.proofs.laws.transcript_laws.Goals as goal
use Rattle.session_laws.proofs.Apart.{transcripts_interleave}

pub returns-clause-transcripts : goal.returns-clause-transcripts
returns-clause-transcripts c = transcripts_interleave
