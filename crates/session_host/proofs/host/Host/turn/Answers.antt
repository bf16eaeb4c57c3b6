use Rattle.std.proofs.Common.{refl, sym, ◌∙◌}
use Rattle.session_model.specs.declared.event.Event.TheVariants as event
use Rattle.session_host.proofs.Turns.{item_turned, end_turned}
use Rattle.session_host.proofs.host.Host.turn.Goals as goal

pub returns-in-Other-clause-kept : goal.returns-in-Other-clause-kept
returns-in-Other-clause-kept g c = (c.take_other.ensures.handles 0).kept

pub returns-in-Other-clause-stays : goal.returns-in-Other-clause-stays
returns-in-Other-clause-stays g c =
    let e = c.in-Other.ensures in
    (item_turned event.Other c.self.view_is tt (c.take_other.ensures.handles 0)
    (record { app = refl; label = e.label; sent = e.sent; later = e.later; gives = e.gives; journal = c.reserve.ensures.events; flusher = refl })
    (sym c.is_full.ensures ∙ c.if-is_full.false)).stays

pub returns-in-Other-clause-turns : goal.returns-in-Other-clause-turns
returns-in-Other-clause-turns g c =
    let e = c.in-Other.ensures in
    (item_turned event.Other c.self.view_is tt (c.take_other.ensures.handles c.args.steps.now)
    (record { app = refl; label = e.label; sent = e.sent; later = e.later; gives = e.gives; journal = c.reserve.ensures.events; flusher = refl })
    (sym c.is_full.ensures ∙ c.if-is_full.false)).turns

pub returns-in-Other-clause-full : goal.returns-in-Other-clause-full
returns-in-Other-clause-full g c =
    let e = c.in-Other.ensures in
    (item_turned event.Other c.self.view_is tt (c.take_other.ensures.handles 0)
    (record { app = refl; label = e.label; sent = e.sent; later = e.later; gives = e.gives; journal = c.reserve.ensures.events; flusher = refl })
    (sym c.is_full.ensures ∙ c.if-is_full.false)).full

pub returns-in-Ended-clause-turns : goal.returns-in-Ended-clause-turns
returns-in-Ended-clause-turns g c =
    let e = c.in-Ended.ensures in
    let x = c.take_end.ensures in
    end_turned c.args.steps.now c.self.view_is x.script x.answers x.over x.answer
    (record { app = refl; label = e.label; sent = e.sent; later = e.later; gives = e.gives; journal = c.reserve.ensures.events; flusher = refl })
