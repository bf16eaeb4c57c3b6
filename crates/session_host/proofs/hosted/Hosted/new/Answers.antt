use Rattle.std.proofs.Common.{sym, subst, None}
use Rattle.session_host.specs.Keeping.{IsHosted}
use Rattle.session_host.proofs.First.{first_hosted}
use Rattle.session_host.proofs.hosted.Hosted.new.Goals as goal

pub invariant_of-result : goal.invariant_of-result
invariant_of-result g c =
    let e = c.in-Ok.ensures in
    subst (λ j. IsHosted (record { app = c.args.app.value; link = (record { label = g.L.Link.label c.args.link; faults = g.L.Link.faults c.args.link; received = g.L.Link.received c.args.link; sent = g.L.Link.sent c.args.link; script = g.L.Link.script c.args.link }); journal = j; room = c.new-journal.result.room; over = None; flusher = c.in-Ok.flusher }))
    (sym c.new-journal.ensures)
    (first_hosted c.args.app.value (record { label = g.L.Link.label c.args.link; faults = g.L.Link.faults c.args.link; received = g.L.Link.received c.args.link; sent = g.L.Link.sent c.args.link; script = g.L.Link.script c.args.link }) c.new-journal.result.room c.in-Ok.flusher c.requires.unused e.flusher e.stands)
