use Rattle.std.proofs.Common.{◌≡◌, Some, None, sym, ap, ◌∙◌, subst}
use Rattle.app_tree.specs.declared.term.Read.TheVariants.{Expr}
use Rattle.app_tree.specs.View.{shape_of, tree_of}
use Rattle.app_tree.specs.Evaluate.{evaluate}
use Rattle.app_tree.specs.Wanted.{completed, first_wanted}
use Rattle.session_steps.specs.Acting.{term_answering}
use Rattle.react_session.specs.inner.Reading.{answering_by}
use Rattle.react_session.specs.inner.Trail.{Trail, first_trail, trail_after}
use Rattle.react_session.proofs.TermsParts.{term_noted}
use Rattle.react_session.proofs.term.try_term.Goals as goal

pub returns-in-Done : goal.returns-in-Done
returns-in-Done c =
    let s = c.args.session.now in
    let app = shape_of s.app in
    let t = tree_of c.args.term.now in
    let r = c.reading-reading.ensures in
    let told = c.in-Done.ensures.gives in
    let read : shape_of c.reading-reading.result.session.now.app ≡ app = ap (λ z. shape_of z.app) r.session in
    let opens : answering_by c.reading-reading.result.session.now c.reading-reading.result.ignored ≡ term_answering app s.session = λ j. answering_by (r.session j) (r.ignored j) in
    let first : record { depth = c.reading-reading.result.depth; reached = c.reading-reading.result.reached; isolated = c.reading-reading.result.isolated } ≡ first_trail =
    λ j. record { depth = r.depth j; reached = r.reached j; isolated = r.isolated j } in
    let new : Trail = record { depth = c.eval.new.reader.depth; reached = c.eval.new.reader.reached; isolated = c.eval.new.reader.isolated } in
    let none = subst (λ z. z) (λ j. first_wanted (opens j) (evaluate t (completed (opens j)) (c.new-none.ensures j)).asked ≡ None) told.1 in (
      none,
      sym (subst (λ z. z) (λ j. (evaluate t (completed (opens j)) (c.new-none.ensures j)).outcome ≡ c.in-Done.outcome) told.0),
      term_noted app s.session t new none (told.2.trail ∙ (λ j. trail_after (read j) (opens j) (evaluate t (completed (opens j)) (c.new-none.ensures j)).asked (first j))),
    )

pub returns-in-Wants : goal.returns-in-Wants
returns-in-Wants c =
    let s = c.args.session.now in
    let app = shape_of s.app in
    let t = tree_of c.args.term.now in
    let r = c.reading-reading.ensures in
    let opens : answering_by c.reading-reading.result.session.now c.reading-reading.result.ignored ≡ term_answering app s.session = λ j. answering_by (r.session j) (r.ignored j) in
    subst (λ z. z) (λ j. first_wanted (opens j) (evaluate t (completed (opens j)) (c.new-none.ensures j)).asked ≡ Some (Expr c.in-Wants.m)) c.in-Wants.ensures.gives.0
