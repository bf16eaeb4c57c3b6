use Rattle.std.proofs.Common.{length}
use Rattle.std.proofs.lemmas.Result.{on_ok_weaker}
use Rattle.app_printer.proofs.ItemForms.{not_empty, writes-keys}
use Rattle.app_printer.proofs.items.write_keys.Goals as goal

pub returns : goal.returns
returns c =
    on_ok_weaker c.write_all_closed.result
    (λ last. writes-keys c.args.names.now c.args.keys.now c.args.out.now c.push_str.new.self c.write_all_closed.new.out
    (not_empty (length c.args.keys.now) c.if-is_empty.ensures) c.in_ok-push_str.ensures.ok last)
    c.write_all_closed.ensures
