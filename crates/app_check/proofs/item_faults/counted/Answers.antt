use Rattle.std.proofs.Common.{suc, sym, arith}
use Rattle.std.proofs.lemmas.List.{take_all}
use Rattle.app_tree.specs.declared.limits.TheConstants.{ITEM_LIMIT}
use Rattle.app_check.proofs.item_faults.counted.Goals as goal

pub returns-then-written-le-ITEM_LIMIT : goal.returns-then-written-le-ITEM_LIMIT
returns-then-written-le-ITEM_LIMIT c = sym (take_all (suc ITEM_LIMIT) c.args.written.now (omega arith))
