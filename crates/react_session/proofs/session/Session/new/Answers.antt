use Rattle.std.proofs.Common.{length, ap, ◌∙◌, subst}
use Rattle.std.specs.Prelude.{replicate}
use Rattle.app_tree.specs.Held.{Held}
use Rattle.app_tree.specs.View.{shape_of}
use Rattle.app_tree.specs.Numbering.{readers, numbers_of, starting_values}
use Rattle.app_tree.specs.WellFormed.{IsWellFormed}
use Rattle.app_laws.specs.Proper.{IsProper}
use Rattle.dep_graph.specs.Contexts.{idle_contexts}
use Rattle.react_session.specs.Seen.{blank}
use Rattle.react_session.proofs.Firstly.{first_seen, first_held}
use Rattle.react_session.proofs.session.Session.new.Goals as goal

pub invariant_of-result : goal.invariant_of-result
invariant_of-result c =
    let app = shape_of c.args.app.value in
    let proper : IsProper app = record { well_formed = subst (λ (a : Held). IsWellFormed (shape_of a)) c.deref.ensures c.items-items.ensures.well_formed; covered = c.requires } in
    first_held app proper c.in_ok-sources.sources c.in_ok-graph.graph c.in_ok-kept.kept.items
    (c.in_ok-sources.ensures.numbers ∙ ap (λ (a : Held). numbers_of (shape_of a)) c.deref-2.ensures)
    (c.in_ok-sources.ensures.values ∙ ap (λ (a : Held). starting_values (shape_of a).items) c.deref-2.ensures)
    (c.in_ok-graph.ensures
    ∙ (λ j. idle_contexts ((c.readers.ensures.value ∙ ap (λ (a : Held). length (readers (shape_of a))) c.deref-3.ensures) j) ((c.sources.ensures ∙ ap (λ (a : Held). length (starting_values (shape_of a).items)) c.deref-4.ensures) j)))
    (c.in_ok-kept.ensures ∙ ap (λ n. replicate n blank) (c.readers-2.ensures.value ∙ ap (λ (a : Held). length (readers (shape_of a))) c.deref-5.ensures))

pub returns-clause-session : goal.returns-clause-session
returns-clause-session c =
    let app = shape_of c.args.app.value in
    let proper : IsProper app = record { well_formed = subst (λ (a : Held). IsWellFormed (shape_of a)) c.deref.ensures c.items-items.ensures.well_formed; covered = c.requires } in
    first_seen app proper c.in_ok-sources.sources c.in_ok-graph.graph c.in_ok-kept.kept.items
    (c.in_ok-sources.ensures.numbers ∙ ap (λ (a : Held). numbers_of (shape_of a)) c.deref-2.ensures)
    (c.in_ok-sources.ensures.values ∙ ap (λ (a : Held). starting_values (shape_of a).items) c.deref-2.ensures)
    (c.in_ok-graph.ensures
    ∙ (λ j. idle_contexts ((c.readers.ensures.value ∙ ap (λ (a : Held). length (readers (shape_of a))) c.deref-3.ensures) j) ((c.sources.ensures ∙ ap (λ (a : Held). length (starting_values (shape_of a).items)) c.deref-4.ensures) j)))
    (c.in_ok-kept.ensures ∙ ap (λ n. replicate n blank) (c.readers-2.ensures.value ∙ ap (λ (a : Held). length (readers (shape_of a))) c.deref-5.ensures))
