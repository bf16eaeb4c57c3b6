use Rattle.std.proofs.Common.{◌≡◌, true, false, sym, ap, ◌∙◌, subst}
use Rattle.std.specs.Prelude.{slice_set}
use Rattle.app_tree.specs.View.{shape_of}
use Rattle.app_tree.specs.Trace.{Every}
use Rattle.app_tree.specs.Numbering.{reader}
use Rattle.app_tree.specs.Fresh.{is_expression_at}
use Rattle.session_steps.specs.Keeping.{lives, IsAlike}
use Rattle.session_steps.specs.Bringing.{IsLost}
use Rattle.react_session.specs.Keeping.{Keeping}
use Rattle.react_session.specs.Seen.{session_seen}
use Rattle.react_session.specs.inner.Storing.{is_evaluated_at, stored_kept, MayReach, StandsInAnyOrder}
use Rattle.react_session.proofs.StoredRuns.{may_open, begun_within, begun_runs, begun_reached, store_lost, lost_held, store_alike, store_held}
use Rattle.react_session.proofs.session.Session.store.Goals as goal

pub open-requires : goal.open-requires
open-requires c =
    let s = c.self.inside in
    let is = sym c.self.view_is in
    let whole = c.self.invariant.whole (ap (λ (k : Keeping). k.whole) c.self.view_is ∙ c.requires.whole) in
    let evaluated = subst (λ (k : Keeping). is_evaluated_at (reader (shape_of k.app) c.args.n) ≡ true) is c.requires.evaluated in
    let dead = subst (λ (k : Keeping). is_expression_at (reader (shape_of k.app) c.args.n) ≡ true → lives k.session c.args.n ≡ false) is c.requires.dead in
    may_open (shape_of s.app.value) s.sources s.graph s.kept.items s.observer s.whole c.args.n c.self.invariant whole evaluated dead

pub depend_on_all-requires-clause-within : goal.depend_on_all-requires-clause-within
depend_on_all-requires-clause-within c =
    let s = c.self.inside in
    let is = sym c.self.view_is in
    let whole = c.self.invariant.whole (ap (λ (k : Keeping). k.whole) c.self.view_is ∙ c.requires.whole) in
    let evaluated = subst (λ (k : Keeping). is_evaluated_at (reader (shape_of k.app) c.args.n) ≡ true) is c.requires.evaluated in
    begun_within (shape_of s.app.value) s.sources s.graph s.kept.items s.observer s.whole c.args.n c.self.invariant whole evaluated c.open.new.self c.open.ensures

pub depend_on_all-requires-clause-runs : goal.depend_on_all-requires-clause-runs
depend_on_all-requires-clause-runs c =
    let s = c.self.inside in
    let is = sym c.self.view_is in
    let whole = c.self.invariant.whole (ap (λ (k : Keeping). k.whole) c.self.view_is ∙ c.requires.whole) in
    let evaluated = subst (λ (k : Keeping). is_evaluated_at (reader (shape_of k.app) c.args.n) ≡ true) is c.requires.evaluated in
    begun_runs (shape_of s.app.value) s.sources s.graph s.kept.items s.observer s.whole c.args.n c.self.invariant whole evaluated c.open.new.self c.open.ensures

pub depend_on_all-requires-clause-reached : goal.depend_on_all-requires-clause-reached
depend_on_all-requires-clause-reached c =
    let s = c.self.inside in
    let is = sym c.self.view_is in
    let whole = c.self.invariant.whole (ap (λ (k : Keeping). k.whole) c.self.view_is ∙ c.requires.whole) in
    let evaluated = subst (λ (k : Keeping). is_evaluated_at (reader (shape_of k.app) c.args.n) ≡ true) is c.requires.evaluated in
    let may = subst (λ (k : Keeping). Every (MayReach (shape_of k.app) c.args.n k.session) c.args.reached.now) is c.requires.reached in
    begun_reached (shape_of s.app.value) s.sources s.graph s.kept.items s.observer s.whole c.args.n c.self.invariant whole evaluated c.open.new.self c.open.ensures c.args.reached.now may

pub invariant_of-self : goal.invariant_of-self
invariant_of-self c =
    let s = c.self.inside in
    let is = sym c.self.view_is in
    let whole = c.self.invariant.whole (ap (λ (k : Keeping). k.whole) c.self.view_is ∙ c.requires.whole) in
    let evaluated = subst (λ (k : Keeping). is_evaluated_at (reader (shape_of k.app) c.args.n) ≡ true) is c.requires.evaluated in
    let may = subst (λ (k : Keeping). Every (MayReach (shape_of k.app) c.args.n k.session) c.args.reached.now) is c.requires.reached in
    let stands = subst (λ (k : Keeping). StandsInAnyOrder (shape_of k.app) (stored_kept c.args.n c.args.reached.now c.args.isolated c.args.outcome k.session)) is c.requires.stands in
    let alike = store_alike (shape_of s.app.value) s.sources s.graph s.kept.items s.observer s.whole c.args.n c.self.invariant whole evaluated c.open.new.self c.open.ensures
    c.args.reached.now may c.depend_on_all.new.graph c.close.new.self c.in-Ok.ensures.ok c.close.ensures.after c.args.isolated c.args.outcome in
    store_held (shape_of s.app.value) s.sources s.graph s.kept.items s.observer s.whole c.args.n c.self.invariant whole evaluated c.open.new.self c.open.ensures
    c.args.reached.now may c.depend_on_all.new.graph c.close.new.self c.in-Ok.ensures.ok c.close.ensures.after c.args.isolated c.args.outcome (stands _ alike)

pub returns-in-Ok-clause-stored : goal.returns-in-Ok-clause-stored
returns-in-Ok-clause-stored c =
    let s = c.self.inside in
    let is = sym c.self.view_is in
    let whole = c.self.invariant.whole (ap (λ (k : Keeping). k.whole) c.self.view_is ∙ c.requires.whole) in
    let evaluated = subst (λ (k : Keeping). is_evaluated_at (reader (shape_of k.app) c.args.n) ≡ true) is c.requires.evaluated in
    let may = subst (λ (k : Keeping). Every (MayReach (shape_of k.app) c.args.n k.session) c.args.reached.now) is c.requires.reached in
    subst (λ (k : Keeping). IsAlike (stored_kept c.args.n c.args.reached.now c.args.isolated c.args.outcome k.session)
    (session_seen s.sources.values c.close.new.self.readers (slice_set s.kept.items c.args.n (record { ran = true; isolated = c.args.isolated; outcome = c.args.outcome })) s.observer)) c.self.view_is
    (store_alike (shape_of s.app.value) s.sources s.graph s.kept.items s.observer s.whole c.args.n c.self.invariant whole evaluated c.open.new.self c.open.ensures
    c.args.reached.now may c.depend_on_all.new.graph c.close.new.self c.in-Ok.ensures.ok c.close.ensures.after c.args.isolated c.args.outcome)

pub returns-in-Err-clause-lost : goal.returns-in-Err-clause-lost
returns-in-Err-clause-lost c =
    let s = c.self.inside in
    let is = sym c.self.view_is in
    let whole = c.self.invariant.whole (ap (λ (k : Keeping). k.whole) c.self.view_is ∙ c.requires.whole) in
    let evaluated = subst (λ (k : Keeping). is_evaluated_at (reader (shape_of k.app) c.args.n) ≡ true) is c.requires.evaluated in
    subst (λ (k : Keeping). IsLost c.args.n k.session (session_seen s.sources.values c.depend_on_all.new.graph.readers s.kept.items s.observer)) c.self.view_is
    (store_lost (shape_of s.app.value) s.sources s.graph s.kept.items s.observer s.whole c.args.n c.self.invariant whole evaluated c.open.new.self c.open.ensures
    c.depend_on_all.new.graph c.depend_on_all.ensures.runs)

pub invariant_of-self-in-Err-1 : goal.invariant_of-self-in-Err-1
invariant_of-self-in-Err-1 c =
    let s = c.self.inside in
    let is = sym c.self.view_is in
    let whole = c.self.invariant.whole (ap (λ (k : Keeping). k.whole) c.self.view_is ∙ c.requires.whole) in
    let evaluated = subst (λ (k : Keeping). is_evaluated_at (reader (shape_of k.app) c.args.n) ≡ true) is c.requires.evaluated in
    lost_held (shape_of s.app.value) s.sources s.graph s.kept.items s.observer s.whole c.args.n c.self.invariant whole evaluated c.open.new.self c.open.ensures
    c.depend_on_all.new.graph c.depend_on_all.ensures.runs
