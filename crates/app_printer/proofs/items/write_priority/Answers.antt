use Rattle.std.proofs.Common.{◌≡◌, arith, of_z, to_z, w64}
use Rattle.std.proofs.lemmas.Int.{ints}
use Rattle.std.proofs.lemmas.Result.{on_ok_weaker}
use Rattle.app_printer.proofs.ItemForms.{writes-priority}
use Rattle.app_printer.proofs.items.write_priority.Goals as goal

pub returns : goal.returns
returns c =
    let same : to_z w64 (of_z w64 c.args.priority) ≡ c.args.priority = omega (arith, ints) in
    on_ok_weaker c.write_number.result
    (λ last. writes-priority c.args.priority _ c.args.out.now c.push_str.new.self c.write_number.new.out c.if-priority-eq0.false same c.in_ok-push_str.ensures.ok last)
    c.write_number.ensures
