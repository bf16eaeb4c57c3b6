use Rattle.app_tree.specs.View.{shape_of}
use Rattle.app_printer.proofs.Back.{printed_back}
use Rattle.app_printer.proofs.items.print.Goals as goal

pub returns-clause-back : goal.returns-clause-back
returns-clause-back c = printed_back (shape_of c.args.app.now) c.app_text.result c.items-items.ensures.well_formed
