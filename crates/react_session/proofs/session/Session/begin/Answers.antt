use Rattle.std.proofs.Common.{◌≡◌, ◌<◌, Option, None, Some, true, length, sym, ap, ◌∙◌, subst, ℕ}
use Rattle.std.specs.Prelude.{slice_set}
use Rattle.app_tree.specs.View.{shape_of}
use Rattle.app_tree.specs.Numbering.{readers, reader}
use Rattle.session_model.specs.Flush.{is_observer_at}
use Rattle.session_model.specs.Standing.{KeptSession}
use Rattle.session_steps.specs.Keeping.{IsAlike}
use Rattle.session_steps.specs.Acting.{begin_kept}
use Rattle.react_session.specs.Keeping.{Keeping}
use Rattle.react_session.specs.Seen.{session_seen}
use Rattle.react_session.specs.Holding.{IsHeld}
use Rattle.react_session.proofs.ByNumber.{kept_read}
use Rattle.react_session.proofs.Beginning.{begin_alike, begin_held}
use Rattle.react_session.proofs.session.Session.begin.Goals as goal

pub invariant_of-self : goal.invariant_of-self
invariant_of-self c =
    let s = c.self.inside in
    let app = shape_of s.app.value in
    let none : s.observer ≡ None = ap (λ (k : Keeping). k.session.running) c.self.view_is ∙ c.requires.none_runs in
    let held = subst (λ (o : Option ℕ). IsHeld app s.sources s.graph s.kept.items o s.whole) none c.self.invariant in
    let known = subst (λ (k : Keeping). c.args.n < length (readers (shape_of k.app))) (sym c.self.view_is) c.requires.known in
    let observer = subst (λ (k : Keeping). is_observer_at (reader (shape_of k.app) c.args.n) ≡ true) (sym c.self.view_is) c.requires.observer in
    let within = subst (λ z. c.args.n < z) (sym held.each_kept) known in
    begin_held app s.sources s.graph c.open.new.self s.kept.items s.whole c.args.n c.index_mut.result.now held known c.open.ensures
    (kept_read s.kept.items c.args.n c.index_mut.result.now within c.index_mut.ensures.value) observer

pub returns-clause-session : goal.returns-clause-session
returns-clause-session c =
    let s = c.self.inside in
    let app = shape_of s.app.value in
    let none : s.observer ≡ None = ap (λ (k : Keeping). k.session.running) c.self.view_is ∙ c.requires.none_runs in
    let held = subst (λ (o : Option ℕ). IsHeld app s.sources s.graph s.kept.items o s.whole) none c.self.invariant in
    let known = subst (λ (k : Keeping). c.args.n < length (readers (shape_of k.app))) (sym c.self.view_is) c.requires.known in
    let within = subst (λ z. c.args.n < z) (sym held.each_kept) known in
    let was : session_seen s.sources.values s.graph.readers s.kept.items None ≡ c.args.self.now.session = ap (session_seen s.sources.values s.graph.readers s.kept.items) (sym none) ∙ ap (λ (k : Keeping). k.session) c.self.view_is in
    subst (λ (k : KeptSession). IsAlike (begin_kept c.args.n k) (session_seen s.sources.values c.open.new.self.readers (slice_set s.kept.items c.args.n (record { ran = true; isolated = c.index_mut.result.now.isolated; outcome = c.index_mut.result.now.outcome })) (Some c.args.n))) was
    (begin_alike app s.sources s.graph c.open.new.self s.kept.items s.whole c.args.n c.index_mut.result.now held known c.open.ensures
    (kept_read s.kept.items c.args.n c.index_mut.result.now within c.index_mut.ensures.value))
