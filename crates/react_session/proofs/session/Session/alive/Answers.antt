use Rattle.std.proofs.Common.{◌≡◌, ap, sym, ◌∙◌, subst}
use Rattle.std.specs.Prelude.{◌&&◌, ◌||◌}
use Rattle.session_steps.specs.Keeping.{lives}
use Rattle.dep_graph.specs.Contexts.{is_current}
use Rattle.react_session.specs.Keeping.{Keeping}
use Rattle.react_session.specs.Seen.{is_observing}
use Rattle.react_session.proofs.ByNumber.{observing_is}
use Rattle.react_session.proofs.Seeing.{lives_seen}
use Rattle.react_session.proofs.session.Session.alive.Goals as goal

pub returns-then-alive : goal.returns-then-alive
returns-then-alive c =
    let s = c.self.inside in
    subst (λ (k : Keeping). c.alive.result ≡ lives k.session c.args.n) c.self.view_is
    (c.if-alive.true ∙ sym (lives_seen s.sources.values s.graph s.kept.items s.observer c.args.n (c.self.invariant.contexts ∙ sym c.self.invariant.each_kept)
    ∙ ap (λ b. b || (is_observing s.observer c.args.n && is_current s.graph c.args.n)) (sym c.alive.ensures ∙ c.if-alive.true)))

pub returns-then-eq : goal.returns-then-eq
returns-then-eq c =
    let s = c.self.inside in
    let dead = sym c.alive.ensures ∙ c.if-alive.false in
    let observes = sym (observing_is s.observer c.args.n) ∙ sym c.eq.ensures ∙ c.if-eq.true in
    subst (λ (k : Keeping). c.is_current.result ≡ lives k.session c.args.n) c.self.view_is
    (c.is_current.ensures ∙ sym (lives_seen s.sources.values s.graph s.kept.items s.observer c.args.n (c.self.invariant.contexts ∙ sym c.self.invariant.each_kept)
    ∙ (λ j. dead j || (observes j && is_current s.graph c.args.n))))

pub returns-else-eq : goal.returns-else-eq
returns-else-eq c =
    let s = c.self.inside in
    let dead = sym c.alive.ensures ∙ c.if-alive.false in
    let observes = sym (observing_is s.observer c.args.n) ∙ sym c.eq.ensures ∙ c.if-eq.false in
    subst (λ (k : Keeping). c.eq.result ≡ lives k.session c.args.n) c.self.view_is
    (c.if-eq.false ∙ sym (lives_seen s.sources.values s.graph s.kept.items s.observer c.args.n (c.self.invariant.contexts ∙ sym c.self.invariant.each_kept)
    ∙ (λ j. dead j || (observes j && is_current s.graph c.args.n))))
