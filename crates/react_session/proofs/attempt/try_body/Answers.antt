use Rattle.std.proofs.Common.{◌≡◌, Some, None, ap, ◌∙◌, subst}
use Rattle.app_tree.specs.View.{shape_of}
use Rattle.app_tree.specs.Numbering.{reader}
use Rattle.app_tree.specs.declared.term.Read.TheVariants.{Expr}
use Rattle.app_tree.specs.Fresh.{evaluate_node}
use Rattle.app_tree.specs.Wanted.{completed, first_wanted}
use Rattle.app_laws.specs.Proper.{IsProper}
use Rattle.session_steps.specs.Keeping.{kept_answer, answering}
use Rattle.react_session.specs.inner.Reading.{answering_by}
use Rattle.react_session.specs.inner.Trail.{Trail, first_trail, trail_after}
use Rattle.react_session.proofs.Tried.{sites_open, done_tries}
use Rattle.react_session.proofs.attempt.try_body.Goals as goal

pub returns-in-Done-clause-tries : goal.returns-in-Done-clause-tries
returns-in-Done-clause-tries g c =
    let s = c.args.session.now in
    let app = shape_of s.app in
    let r = c.reading-reading.ensures in
    let told = c.in-Done.ensures.gives in
    let seen : shape_of c.session.inside.app.value ≡ app = ap (λ z. shape_of z.app) c.session.view_is in
    let node : shape_of c.deref.result.now ≡ app = ap shape_of c.deref.ensures ∙ seen in
    let read : shape_of c.reading-reading.result.session.now.app ≡ app = ap (λ z. shape_of z.app) r.session in
    let opens : answering_by c.reading-reading.result.session.now c.reading-reading.result.ignored ≡ answering app s.session c.args.n =
    (λ j. answering_by (r.session j) ((r.ignored ∙ c.in-Ok.ensures) j)) ∙ ap (λ z. record { read = kept_answer app s.session; site = z }) (sites_open app s.session c.args.n) in
    let first : record { depth = c.reading-reading.result.depth; reached = c.reading-reading.result.reached; isolated = c.reading-reading.result.isolated } ≡ first_trail =
    λ j. record { depth = r.depth j; reached = r.reached j; isolated = r.isolated j } in
    let new : Trail = record { depth = c.run_body.new.reader.depth; reached = c.run_body.new.reader.reached; isolated = c.run_body.new.reader.isolated } in
    let proper = subst (λ z. IsProper z) seen c.session.invariant.proper in
    done_tries app proper s.session c.args.n c.requires.uncached c.in-Done.outcome new (
      subst (λ z. z) (λ j. (evaluate_node (reader (node j) c.args.n) (completed (opens j))).outcome ≡ c.in-Done.outcome) told.0,
      subst (λ z. z) (λ j. first_wanted (opens j) (evaluate_node (reader (node j) c.args.n) (completed (opens j))).asked ≡ None) told.1,
      told.2.trail ∙ (λ j. trail_after (read j) (opens j) (evaluate_node (reader (node j) c.args.n) (completed (opens j))).asked (first j)),
    )

pub returns-in-Wants-clause-tries : goal.returns-in-Wants-clause-tries
returns-in-Wants-clause-tries g c =
    let s = c.args.session.now in
    let app = shape_of s.app in
    let r = c.reading-reading.ensures in
    let told = c.in-Wants.ensures.gives in
    let seen : shape_of c.session.inside.app.value ≡ app = ap (λ z. shape_of z.app) c.session.view_is in
    let node : shape_of c.deref.result.now ≡ app = ap shape_of c.deref.ensures ∙ seen in
    let opens : answering_by c.reading-reading.result.session.now c.reading-reading.result.ignored ≡ answering app s.session c.args.n =
    (λ j. answering_by (r.session j) ((r.ignored ∙ c.in-Ok.ensures) j)) ∙ ap (λ z. record { read = kept_answer app s.session; site = z }) (sites_open app s.session c.args.n) in
    subst (λ z. z) (λ j. first_wanted (opens j) (evaluate_node (reader (node j) c.args.n) (completed (opens j))).asked ≡ Some (Expr c.in-Wants.m)) told.0
