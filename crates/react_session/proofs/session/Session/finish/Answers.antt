use Rattle.std.proofs.Common.{ℕ, Option, None, sym, ap, ◌∙◌, subst}
use Rattle.app_tree.specs.View.{shape_of}
use Rattle.session_model.specs.Standing.{KeptSession}
use Rattle.session_steps.specs.Keeping.{lives, IsAlike}
use Rattle.session_steps.specs.Acting.{finish_kept}
use Rattle.react_session.specs.Keeping.{Keeping}
use Rattle.react_session.specs.Seen.{session_seen}
use Rattle.react_session.specs.Holding.{IsHeld}
use Rattle.react_session.proofs.ByNumber.{running_within}
use Rattle.react_session.proofs.Finishing.{finish_alike, finish_held, finish_lives}
use Rattle.react_session.proofs.session.Session.finish.Goals as goal

pub close-requires-clause-within : goal.close-requires-clause-within
close-requires-clause-within c =
    let s = c.self.inside in
    let whole = ap (λ (k : Keeping). k.whole) c.self.view_is ∙ c.requires.whole in
    let runs = ap (λ (k : Keeping). k.session.running) c.self.view_is ∙ c.requires.runs in
    running_within s.graph c.args.n ((c.self.invariant.whole whole).observes c.args.n runs)

pub invariant_of-self : goal.invariant_of-self
invariant_of-self c =
    let s = c.self.inside in
    let app = shape_of s.app.value in
    let whole = ap (λ (k : Keeping). k.whole) c.self.view_is ∙ c.requires.whole in
    let runs = ap (λ (k : Keeping). k.session.running) c.self.view_is ∙ c.requires.runs in
    let held = subst (λ (o : Option ℕ). IsHeld app s.sources s.graph s.kept.items o s.whole) runs c.self.invariant in
    finish_held app s.sources s.graph c.close.new.self s.kept.items s.whole c.args.n held ((c.self.invariant.whole whole).observes c.args.n runs) c.close.ensures.after

pub returns-clause-session : goal.returns-clause-session
returns-clause-session c =
    let s = c.self.inside in
    let app = shape_of s.app.value in
    let whole = ap (λ (k : Keeping). k.whole) c.self.view_is ∙ c.requires.whole in
    let runs = ap (λ (k : Keeping). k.session.running) c.self.view_is ∙ c.requires.runs in
    let held = subst (λ (o : Option ℕ). IsHeld app s.sources s.graph s.kept.items o s.whole) runs c.self.invariant in
    let was = ap (session_seen s.sources.values s.graph.readers s.kept.items) (sym runs) ∙ ap (λ (k : Keeping). k.session) c.self.view_is in
    subst (λ (k : KeptSession). IsAlike (finish_kept k) (session_seen s.sources.values c.close.new.self.readers s.kept.items None)) was
    (finish_alike app s.sources s.graph c.close.new.self s.kept.items s.whole c.args.n held ((c.self.invariant.whole whole).observes c.args.n runs) c.close.ensures.after)

pub returns-clause-alive : goal.returns-clause-alive
returns-clause-alive c =
    let s = c.self.inside in
    let app = shape_of s.app.value in
    let whole = ap (λ (k : Keeping). k.whole) c.self.view_is ∙ c.requires.whole in
    let runs = ap (λ (k : Keeping). k.session.running) c.self.view_is ∙ c.requires.runs in
    let held = subst (λ (o : Option ℕ). IsHeld app s.sources s.graph s.kept.items o s.whole) runs c.self.invariant in
    let was = ap (session_seen s.sources.values s.graph.readers s.kept.items) (sym runs) ∙ ap (λ (k : Keeping). k.session) c.self.view_is in
    c.close.ensures.alive
    ∙ finish_lives app s.sources s.graph c.close.new.self s.kept.items s.whole c.args.n held ((c.self.invariant.whole whole).observes c.args.n runs) c.close.ensures.after
    ∙ ap (λ (k : KeptSession). lives k c.args.n) was
