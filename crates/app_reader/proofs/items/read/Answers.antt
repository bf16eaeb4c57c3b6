use Rattle.std.proofs.Common.{true, Ok}
use Rattle.app_reader.proofs.Cut.{tokens_from_fits}
use Rattle.app_reader.proofs.FilesSound.{read_fits}
use Rattle.app_reader.proofs.items.read.Goals as goal

pub new-requires : goal.new-requires
new-requires c =
    let cut = c.know_cut.ensures in
    read_fits c.args.tokens.now (Ok (record { budget = c.in_ok-budget.budget; items = c.in_ok-budget.items })) c.in_ok-budget.ensures
    (tokens_from_fits true 0 cut.text c.args.tokens.now.tokens cut.utf8 cut.cut)
