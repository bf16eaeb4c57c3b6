use Rattle.session_model.proofs.examples.faithful_examples.Goals as goal
use Rattle.session_model.proofs.FaithfulComputed.{journal_full_is_faithful}

-- src/examples.rt:16:1
pub returns-clause-journal_full : goal.returns-clause-journal_full
returns-clause-journal_full c = journal_full_is_faithful
