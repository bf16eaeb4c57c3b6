use Rattle.std.proofs.Common.{sym, ◌∙◌}
use Rattle.rx_ports.proofs.FileLemmas.{with_file-some, with_file-none}
use Rattle.rx_ports.proofs.mem_files.put_file.Goals as goal

pub returns-in-Some-clause-ok : goal.returns-in-Some-clause-ok
returns-in-Some-clause-ok c =
    let place = rw (c.as_slice.ensures, c.as_str.ensures) at c.in-Some.ensures in
    c.set.ensures ∙ sym (with_file-some c.args.files.now c.args.file c.in-Some.place place)

pub returns-in-None-clause-ok : goal.returns-in-None-clause-ok
returns-in-None-clause-ok c =
    let none = rw (c.as_slice.ensures, c.as_str.ensures) at c.in-None.ensures in
    rw (with_file-none c.args.files.now c.args.file none) c.push.ensures.ok
