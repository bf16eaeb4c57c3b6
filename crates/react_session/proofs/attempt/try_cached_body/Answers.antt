use Rattle.std.proofs.Common.{List, [], ◌≡◌, refl, ap, ◌∙◌}
use Rattle.app_tree.specs.View.{shape_of}
use Rattle.app_tree.specs.Numbering.{reader}
use Rattle.app_tree.specs.Cover.{cached_node}
use Rattle.app_tree.specs.Evaluate.{TraceEntry, evaluate}
use Rattle.app_tree.specs.Wanted.{completed}
use Rattle.session_steps.specs.Keeping.{kept_answer, answering}
use Rattle.term_eval.specs.Bodies.{body_of}
use Rattle.react_session.specs.declared.reading.Reading.{Reading}
use Rattle.react_session.specs.inner.Reading.{answering_by}
use Rattle.react_session.specs.inner.Trail.{IsNoted}
use Rattle.react_session.proofs.Tried.{cached_sites, body_tried}
use Rattle.react_session.proofs.attempt.try_cached_body.Goals as goal

-- what a reading of the session notes
abbrev noting : Reading → List TraceEntry → Reading → Type 0
noting a asked b =
    IsNoted (shape_of a.session.now.app) (answering_by a.session.now a.ignored) (record { depth = a.depth; reached = a.reached; isolated = a.isolated })
    asked
    (shape_of b.session.now.app) (answering_by b.session.now b.ignored) (record { depth = b.depth; reached = b.reached; isolated = b.isolated })

pub returns-clause-tries : goal.returns-clause-tries
returns-clause-tries g c =
    let s = c.args.session.now in
    let app = shape_of s.app in
    let r = c.reading-reading.ensures in
    let seen : shape_of c.session.inside.app.value ≡ app = ap (λ z. shape_of z.app) c.session.view_is in
    let node : shape_of c.deref.result.now ≡ app = ap shape_of c.deref.ensures ∙ seen in
    let opens : answering_by c.reading-reading.result.session.now c.reading-reading.result.ignored ≡ answering app s.session c.args.n =
    (λ j. answering_by (r.session j) (r.ignored j)) ∙ ap (λ z. record { read = kept_answer app s.session; site = z }) (cached_sites app s.session c.args.n c.requires.cached) in
    body_tried app s.session c.args.n _ _ c.run_cached_body.result {S = Reading} (λ z. answering_by z.session.now z.ignored) noting c.reading-reading.result c.run_cached_body.new.reader refl opens
    (λ j. evaluate (body_of (cached_node (reader (node j) c.args.n))) (completed (opens j)) []) c.run_cached_body.ensures.gives
