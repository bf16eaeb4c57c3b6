use Rattle.std.proofs.Common.{◌<◌, length, get_or, ap, ◌≡◌, subst, arith}
use Rattle.session_host.proofs.SendingTexts.{none_yet, one_more, stopped, all_sent}
use Rattle.session_host.proofs.sending.send_all.Goals as goal

pub loop-text-init : goal.loop-text-init
loop-text-init g c = none_yet (record { label = g.L.Link.label c.args.link.now; faults = g.L.Link.faults c.args.link.now; received = g.L.Link.received c.args.link.now; sent = g.L.Link.sent c.args.link.now; script = g.L.Link.script c.args.link.now }) c.args.texts.now

pub returns-in_default : goal.returns-in_default
returns-in_default g c =
    let e = c.send.ensures in
    stopped (record { label = g.L.Link.label c.args.link.now; faults = g.L.Link.faults c.args.link.now; received = g.L.Link.received c.args.link.now; sent = g.L.Link.sent c.args.link.now; script = g.L.Link.script c.args.link.now })
    (record { label = g.L.Link.label c.loop-text.link; faults = g.L.Link.faults c.loop-text.link; received = g.L.Link.received c.loop-text.link; sent = g.L.Link.sent c.loop-text.link; script = g.L.Link.script c.loop-text.link })
    (record { label = g.L.Link.label c.send.new.self; faults = g.L.Link.faults c.send.new.self; received = g.L.Link.received c.send.new.self; sent = g.L.Link.sent c.send.new.self; script = g.L.Link.script c.send.new.self })
    c.args.texts.now c.loop-text.text-index c.text-item.result c.send.result c.loop-text.invariant c.in_default.not-Ok
    e.label e.received e.script e.later e.failed e.sent

pub loop-text-preserved : goal.loop-text-preserved
loop-text-preserved g c =
    let e = c.in-Ok.ensures in
    let few : c.loop-text.text-index < length c.args.texts.now =
    subst (λ l. c.loop-text.text-index < length l) c.as_slice-text-items.ensures c.loop-text-test.true in
    one_more (record { label = g.L.Link.label c.args.link.now; faults = g.L.Link.faults c.args.link.now; received = g.L.Link.received c.args.link.now; sent = g.L.Link.sent c.args.link.now; script = g.L.Link.script c.args.link.now })
    (record { label = g.L.Link.label c.loop-text.link; faults = g.L.Link.faults c.loop-text.link; received = g.L.Link.received c.loop-text.link; sent = g.L.Link.sent c.loop-text.link; script = g.L.Link.script c.loop-text.link })
    (record { label = g.L.Link.label c.send.new.self; faults = g.L.Link.faults c.send.new.self; received = g.L.Link.received c.send.new.self; sent = g.L.Link.sent c.send.new.self; script = g.L.Link.script c.send.new.self })
    c.args.texts.now c.loop-text.text-index c.text-item.result c.loop-text.invariant few
    (subst (λ l. c.text-item.result ≡ get_or l c.loop-text.text-index c.text-item.result) c.as_slice-text-items.ensures c.text-item.is)
    e.label e.received e.script e.later e.sent

pub returns : goal.returns
returns g c =
    let same = ap length c.as_slice-text-items.ensures in
    let over = c.loop-text-test.false in
    all_sent (record { label = g.L.Link.label c.args.link.now; faults = g.L.Link.faults c.args.link.now; received = g.L.Link.received c.args.link.now; sent = g.L.Link.sent c.args.link.now; script = g.L.Link.script c.args.link.now })
    (record { label = g.L.Link.label c.loop-text.link; faults = g.L.Link.faults c.loop-text.link; received = g.L.Link.received c.loop-text.link; sent = g.L.Link.sent c.loop-text.link; script = g.L.Link.script c.loop-text.link })
    c.args.texts.now c.loop-text.text-index c.loop-text.invariant (omega (same, over, arith))
