use Rattle.session_host.proofs.SendingTexts.{SentSoFar}
use Rattle.session_host.proofs.sending.send_all.Given as goal

-- the texts before this one are sent
abbrev pub invariant-loop-text : goal.invariant-loop-text
invariant-loop-text g l =
    SentSoFar
    (record {
      label = g.L.Link.label l.fn.link;
      faults = g.L.Link.faults l.fn.link;
      received = g.L.Link.received l.fn.link;
      sent = g.L.Link.sent l.fn.link;
      script = g.L.Link.script l.fn.link;
    })
    (record {
      label = g.L.Link.label l.link;
      faults = g.L.Link.faults l.link;
      received = g.L.Link.received l.link;
      sent = g.L.Link.sent l.link;
      script = g.L.Link.script l.link;
    })
    l.texts
    l.text-index
