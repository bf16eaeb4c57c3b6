use Rattle.std.proofs.Common.{◌≡◌, true, ap, sym, ◌∙◌, subst}
use Rattle.app_tree.specs.View.{shape_of}
use Rattle.app_tree.specs.Trace.{Every}
use Rattle.session_steps.specs.Keeping.{lives, IsAlike}
use Rattle.session_steps.specs.Bringing.{IsLost}
use Rattle.react_session.specs.Keeping.{Keeping}
use Rattle.react_session.specs.Seen.{session_seen}
use Rattle.react_session.specs.inner.Storing.{MayReach, StandsInAnyOrder}
use Rattle.react_session.specs.inner.Terms.{reached_kept}
use Rattle.react_session.proofs.TermsReached.{all_within, reach_lost, reach_lost_held, reach_alike, reach_held}
use Rattle.react_session.proofs.session.Session.reach.Goals as goal

pub depend_on_all-requires-clause-reached : goal.depend_on_all-requires-clause-reached
depend_on_all-requires-clause-reached c =
    let s = c.self.inside in
    let is = sym c.self.view_is in
    let whole = c.self.invariant.whole (ap (λ (k : Keeping). k.whole) c.self.view_is ∙ c.requires.whole) in
    let observed = ap (λ (k : Keeping). k.session.running) c.self.view_is ∙ c.requires.runs in
    let may = subst (λ (k : Keeping). Every (MayReach (shape_of k.app) c.args.n k.session) c.args.reached.now) is c.requires.reached in
    all_within (shape_of s.app.value) s.sources s.graph s.kept.items s.observer s.whole c.args.n c.self.invariant whole observed c.args.reached.now may

pub invariant_of-self : goal.invariant_of-self
invariant_of-self c =
    let s = c.self.inside in
    let is = sym c.self.view_is in
    let whole = c.self.invariant.whole (ap (λ (k : Keeping). k.whole) c.self.view_is ∙ c.requires.whole) in
    let observed = ap (λ (k : Keeping). k.session.running) c.self.view_is ∙ c.requires.runs in
    let live = subst (λ (k : Keeping). lives k.session c.args.n ≡ true) is c.requires.lives in
    let may = subst (λ (k : Keeping). Every (MayReach (shape_of k.app) c.args.n k.session) c.args.reached.now) is c.requires.reached in
    let stands = subst (λ (k : Keeping). StandsInAnyOrder (shape_of k.app) (reached_kept c.args.n c.args.reached.now k.session)) is c.requires.stands in
    let alike = reach_alike (shape_of s.app.value) s.sources s.graph s.kept.items s.observer s.whole c.args.n c.self.invariant whole observed live c.args.reached.now may c.depend_on_all.new.graph c.in-Ok.ensures.ok in
    reach_held (shape_of s.app.value) s.sources s.graph s.kept.items s.observer s.whole c.args.n c.self.invariant whole observed live c.args.reached.now may c.depend_on_all.new.graph c.in-Ok.ensures.ok (stands _ alike)

pub returns-in-Ok-clause-reached : goal.returns-in-Ok-clause-reached
returns-in-Ok-clause-reached c =
    let s = c.self.inside in
    let is = sym c.self.view_is in
    let whole = c.self.invariant.whole (ap (λ (k : Keeping). k.whole) c.self.view_is ∙ c.requires.whole) in
    let observed = ap (λ (k : Keeping). k.session.running) c.self.view_is ∙ c.requires.runs in
    let live = subst (λ (k : Keeping). lives k.session c.args.n ≡ true) is c.requires.lives in
    let may = subst (λ (k : Keeping). Every (MayReach (shape_of k.app) c.args.n k.session) c.args.reached.now) is c.requires.reached in
    subst (λ (k : Keeping). IsAlike (reached_kept c.args.n c.args.reached.now k.session) (session_seen s.sources.values c.depend_on_all.new.graph.readers s.kept.items s.observer)) c.self.view_is
    (reach_alike (shape_of s.app.value) s.sources s.graph s.kept.items s.observer s.whole c.args.n c.self.invariant whole observed live c.args.reached.now may c.depend_on_all.new.graph c.in-Ok.ensures.ok)

pub returns-in-Err-clause-lost : goal.returns-in-Err-clause-lost
returns-in-Err-clause-lost c =
    let s = c.self.inside in
    let is = sym c.self.view_is in
    let whole = c.self.invariant.whole (ap (λ (k : Keeping). k.whole) c.self.view_is ∙ c.requires.whole) in
    let observed = ap (λ (k : Keeping). k.session.running) c.self.view_is ∙ c.requires.runs in
    let live = subst (λ (k : Keeping). lives k.session c.args.n ≡ true) is c.requires.lives in
    subst (λ (k : Keeping). IsLost c.args.n k.session (session_seen s.sources.values c.depend_on_all.new.graph.readers s.kept.items s.observer)) c.self.view_is
    (reach_lost (shape_of s.app.value) s.sources s.graph s.kept.items s.observer s.whole c.args.n c.self.invariant whole observed live c.depend_on_all.new.graph c.depend_on_all.ensures.runs)

pub invariant_of-self-in-Err : goal.invariant_of-self-in-Err
invariant_of-self-in-Err c =
    let s = c.self.inside in
    let is = sym c.self.view_is in
    let whole = c.self.invariant.whole (ap (λ (k : Keeping). k.whole) c.self.view_is ∙ c.requires.whole) in
    let observed = ap (λ (k : Keeping). k.session.running) c.self.view_is ∙ c.requires.runs in
    let live = subst (λ (k : Keeping). lives k.session c.args.n ≡ true) is c.requires.lives in
    reach_lost_held (shape_of s.app.value) s.sources s.graph s.kept.items s.observer s.whole c.args.n c.self.invariant whole observed live c.depend_on_all.new.graph c.depend_on_all.ensures.runs
