use Rattle.std.proofs.Common.{◌≡◌, Some, None, Ok, Err, ap, ◌∙◌, subst}
use Rattle.app_tree.specs.View.{shape_of}
use Rattle.app_tree.specs.declared.term.Read.TheVariants.{Expr}
use Rattle.app_tree.specs.Numbering.{reader}
use Rattle.app_tree.specs.Cover.{cached_node}
use Rattle.app_tree.specs.Keys.{keys_result, keys_evaluation}
use Rattle.app_tree.specs.Wanted.{completed, first_wanted}
use Rattle.app_laws.specs.Proper.{IsProper}
use Rattle.session_steps.specs.Keeping.{kept_answer, answering}
use Rattle.term_eval.specs.Bodies.{keys_of}
use Rattle.react_session.specs.inner.Reading.{answering_by}
use Rattle.react_session.specs.inner.Trail.{Trail, first_trail, trail_after}
use Rattle.react_session.proofs.Tried.{cached_sites, keys_noted}
use Rattle.react_session.proofs.attempt.try_keys.Goals as goal

pub returns-in-Key : goal.returns-in-Key
returns-in-Key c =
    let told = c.in-Key.ensures.gives in
    let s = c.args.session.now in
    let app = shape_of s.app in
    let r = c.reading-reading.ensures in
    let seen : shape_of c.session.inside.app.value ≡ app = ap (λ z. shape_of z.app) c.session.view_is in
    let node : shape_of c.deref.result.now ≡ app = ap shape_of c.deref.ensures ∙ seen in
    let opens : answering_by c.reading-reading.result.session.now c.reading-reading.result.ignored ≡ answering app s.session c.args.n =
    (λ j. answering_by (r.session j) (r.ignored j)) ∙ ap (λ z. record { read = kept_answer app s.session; site = z }) (cached_sites app s.session c.args.n c.requires.cached) in
    let read : shape_of c.reading-reading.result.session.now.app ≡ app = ap (λ z. shape_of z.app) r.session in
    let first : record { depth = c.reading-reading.result.depth; reached = c.reading-reading.result.reached; isolated = c.reading-reading.result.isolated } ≡ first_trail =
    λ j. record { depth = r.depth j; reached = r.reached j; isolated = r.isolated j } in
    let new : Trail = record { depth = c.run_keys.new.reader.depth; reached = c.run_keys.new.reader.reached; isolated = c.run_keys.new.reader.isolated } in
    let proper = subst (λ z. IsProper z) seen c.session.invariant.proper in
    let none = subst (λ z. z) (λ j. first_wanted (opens j) (keys_evaluation (keys_of (cached_node (reader (node j) c.args.n))) (completed (opens j))).asked ≡ None) told.2 in (
      none,
      told.0,
      subst (λ z. z) (λ j. keys_result (keys_of (cached_node (reader (node j) c.args.n))) (completed (opens j)) ≡ Ok c.in-Key.key.parts) told.1,
      keys_noted app proper s.session c.args.n new none (told.3.trail ∙ (λ j. trail_after (read j) (opens j) (keys_evaluation (keys_of (cached_node (reader (node j) c.args.n))) (completed (opens j))).asked (first j))),
    )

pub returns-in-Fails : goal.returns-in-Fails
returns-in-Fails c =
    let told = c.in-Fails.ensures.gives in
    let s = c.args.session.now in
    let app = shape_of s.app in
    let r = c.reading-reading.ensures in
    let seen : shape_of c.session.inside.app.value ≡ app = ap (λ z. shape_of z.app) c.session.view_is in
    let node : shape_of c.deref.result.now ≡ app = ap shape_of c.deref.ensures ∙ seen in
    let opens : answering_by c.reading-reading.result.session.now c.reading-reading.result.ignored ≡ answering app s.session c.args.n =
    (λ j. answering_by (r.session j) (r.ignored j)) ∙ ap (λ z. record { read = kept_answer app s.session; site = z }) (cached_sites app s.session c.args.n c.requires.cached) in
    let read : shape_of c.reading-reading.result.session.now.app ≡ app = ap (λ z. shape_of z.app) r.session in
    let first : record { depth = c.reading-reading.result.depth; reached = c.reading-reading.result.reached; isolated = c.reading-reading.result.isolated } ≡ first_trail =
    λ j. record { depth = r.depth j; reached = r.reached j; isolated = r.isolated j } in
    let new : Trail = record { depth = c.run_keys.new.reader.depth; reached = c.run_keys.new.reader.reached; isolated = c.run_keys.new.reader.isolated } in
    let proper = subst (λ z. IsProper z) seen c.session.invariant.proper in
    let none = subst (λ z. z) (λ j. first_wanted (opens j) (keys_evaluation (keys_of (cached_node (reader (node j) c.args.n))) (completed (opens j))).asked ≡ None) told.1 in (
      none,
      subst (λ z. z) (λ j. keys_result (keys_of (cached_node (reader (node j) c.args.n))) (completed (opens j)) ≡ Err c.in-Fails.outcome) told.0,
      keys_noted app proper s.session c.args.n new none (told.2.trail ∙ (λ j. trail_after (read j) (opens j) (keys_evaluation (keys_of (cached_node (reader (node j) c.args.n))) (completed (opens j))).asked (first j))),
    )

pub returns-in-Wants : goal.returns-in-Wants
returns-in-Wants c =
    let told = c.in-Wants.ensures.gives in
    let s = c.args.session.now in
    let app = shape_of s.app in
    let r = c.reading-reading.ensures in
    let seen : shape_of c.session.inside.app.value ≡ app = ap (λ z. shape_of z.app) c.session.view_is in
    let node : shape_of c.deref.result.now ≡ app = ap shape_of c.deref.ensures ∙ seen in
    let opens : answering_by c.reading-reading.result.session.now c.reading-reading.result.ignored ≡ answering app s.session c.args.n =
    (λ j. answering_by (r.session j) (r.ignored j)) ∙ ap (λ z. record { read = kept_answer app s.session; site = z }) (cached_sites app s.session c.args.n c.requires.cached) in
    subst (λ z. z) (λ j. first_wanted (opens j) (keys_evaluation (keys_of (cached_node (reader (node j) c.args.n))) (completed (opens j))).asked ≡ Some (Expr c.in-Wants.m)) told.0
