use Rattle.std.proofs.Common.{sym, ap, ◌∙◌, subst}
use Rattle.std.specs.Prelude.{slice_set}
use Rattle.app_tree.specs.View.{shape_of}
use Rattle.rx_source.specs.NumberedValues.{NumberedValues}
use Rattle.session_model.specs.Standing.{KeptSession}
use Rattle.session_steps.specs.Keeping.{IsAlike}
use Rattle.session_steps.specs.Acting.{write_kept}
use Rattle.react_session.specs.Keeping.{Keeping}
use Rattle.react_session.specs.Marking.{marked_by_write}
use Rattle.react_session.specs.Seen.{session_seen}
use Rattle.react_session.specs.Holding.{IsHeld}
use Rattle.react_session.proofs.Writing.{was_same, was_changed, write_same, write_changed, marked_changed, change_alike, change_held, change_marks}
use Rattle.session_steps.proofs.AlikeSessions.{alike_itself}
use Rattle.react_session.proofs.session.Session.write.Goals as goal

pub invariant_of-self-in-Changed : goal.invariant_of-self-in-Changed
invariant_of-self-in-Changed c =
    let s = c.self.inside in
    let app = shape_of s.app.value in
    let differs = was_changed _ (sym c.set.ensures.answer ∙ c.in-Changed.is) in
    subst (λ (v : NumberedValues). IsHeld app v c.invalidate.new.self s.kept.items s.observer s.whole) (sym (c.set.ensures.changed c.in-Changed.is))
    (change_held app s.sources s.graph c.invalidate.new.self s.kept.items s.observer s.whole c.args.source c.args.value c.self.invariant c.invalidate.ensures.after differs)

pub returns-in-Same-clause-session : goal.returns-in-Same-clause-session
returns-in-Same-clause-session c =
    let s = c.self.inside in
    let equal = was_same _ (sym c.set.ensures.answer ∙ c.in-Same.is) in
    let was = ap (λ (k : Keeping). k.session) c.self.view_is in
    let old = session_seen s.sources.values s.graph.readers s.kept.items s.observer in
    subst (λ (k : KeptSession). IsAlike (write_kept c.args.source c.args.value k) (session_seen c.set.new.self.values s.graph.readers s.kept.items s.observer)) was
    (subst (λ (v : NumberedValues). IsAlike (write_kept c.args.source c.args.value old) (session_seen v.values s.graph.readers s.kept.items s.observer)) (sym (c.set.ensures.same c.in-Same.is))
    (subst (λ (k : KeptSession). IsAlike k old) (write_same c.args.source c.args.value old equal) (alike_itself old)))

pub returns-in-Changed-clause-session : goal.returns-in-Changed-clause-session
returns-in-Changed-clause-session c =
    let s = c.self.inside in
    let app = shape_of s.app.value in
    let differs = was_changed _ (sym c.set.ensures.answer ∙ c.in-Changed.is) in
    let was = ap (λ (k : Keeping). k.session) c.self.view_is in
    let old = session_seen s.sources.values s.graph.readers s.kept.items s.observer in
    let after = c.invalidate.new.self in
    subst (λ (k : KeptSession). IsAlike (write_kept c.args.source c.args.value k) (session_seen c.set.new.self.values after.readers s.kept.items s.observer)) was
    (subst (λ (v : NumberedValues). IsAlike (write_kept c.args.source c.args.value old) (session_seen v.values after.readers s.kept.items s.observer)) (sym (c.set.ensures.changed c.in-Changed.is))
    (subst (λ (k : KeptSession). IsAlike k (session_seen (slice_set s.sources.values c.args.source c.args.value) after.readers s.kept.items s.observer)) (write_changed c.args.source c.args.value old differs)
    (change_alike app s.sources s.graph after s.kept.items s.observer s.whole c.args.source c.args.value c.self.invariant c.invalidate.ensures.after)))

pub returns-in-Changed-clause-marked : goal.returns-in-Changed-clause-marked
returns-in-Changed-clause-marked c =
    let s = c.self.inside in
    let app = shape_of s.app.value in
    let differs = was_changed _ (sym c.set.ensures.answer ∙ c.in-Changed.is) in
    let was = ap (λ (k : Keeping). k.session) c.self.view_is in
    let whole = ap (λ (k : Keeping). k.whole) c.self.view_is ∙ c.requires.whole in
    c.invalidate.ensures.marked
    ∙ change_marks app s.sources s.graph c.invalidate.new.self s.kept.items s.observer s.whole c.args.source c.args.value c.self.invariant c.invalidate.ensures.after whole
    ∙ marked_changed c.args.source c.args.value (session_seen s.sources.values s.graph.readers s.kept.items s.observer) differs
    ∙ ap (λ (k : KeptSession). marked_by_write c.args.source c.args.value k) was
