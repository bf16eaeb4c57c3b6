use Rattle.std.proofs.Common.{◌≡◌, length, map, refl, ap, ◌∙◌, subst}
use Rattle.app_tree.specs.Held.{Held}
use Rattle.app_tree.specs.Numbering.{readers, numbers_of}
use Rattle.app_tree.specs.View.{shape_of}
use Rattle.app_laws.specs.Proper.{IsProper}
use Rattle.session_model.specs.Flush.{priority_of}
use Rattle.session_model.specs.State.{first_boards}
use Rattle.session_model.specs.Standing.{first_session, first_kept_flush}
use Rattle.session_model.specs.Tasks.{first_task}
use Rattle.flush_cycle.specs.inner.Roles.{first_output}
use Rattle.flush_cycle.specs.Working.{KnowsWaiting}
use Rattle.flush_cycle.proofs.FirstParts.{kept_first, held_first, rests_first}
use Rattle.flush_cycle.proofs.work.Work.new.Goals as goal

pub invariant_of-result : goal.invariant_of-result
invariant_of-result c =
    let held = c.args.app.value in
    let same : c.in_ok-clone.field-0.value ≡ held = c.in_ok-clone.ensures.cases in
    let of = c.in_ok-session.ensures.app ∙ same in
    let is = c.in_ok-session.ensures.session ∙ ap (λ (h : Held). first_session (shape_of h)) same in
    let shown = c.in_ok-outputs.ensures ∙ ap (λ (h : Held). map first_output (readers (shape_of h))) c.deref-3.ensures in
    let idles = c.in_ok-boards.ensures ∙ ap (λ (h : Held). first_boards (shape_of h).items) c.deref-4.ensures in
    let proper = subst (λ (h : Held). IsProper (shape_of h)) (ap (λ s. s.app) c.session.view_is ∙ of) c.session.invariant.proper in
    held_first held c.in_ok-session.session c.in_ok-outputs.outputs.items c.in_ok-boards.boards is shown idles
    c.in_ok-numbers.numbers c.first_task-first_task.result c.in_ok-pending.pending c.in_ok-marked.marked c.new-4.result.items proper
    (c.in_ok-numbers.ensures ∙ ap (λ (h : Held). numbers_of (shape_of h)) c.deref.ensures)
    (c.first_task-first_task.ensures ∙ ap (λ (h : Held). first_task (shape_of h)) c.deref-2.ensures) of
    (c.in_ok-pending.ensures.priorities ∙ ap (λ (h : Held). map priority_of (readers (shape_of h))) c.deref-5.ensures)
    (c.in_ok-pending.ensures.waits ∙ ap (λ (h : Held). length (readers (shape_of h))) c.deref-5.ensures)
    (c.in_ok-marked.ensures.room ∙ c.readers.ensures.value ∙ ap (λ (h : Held). length (readers (shape_of h))) c.deref-6.ensures) c.new-4.ensures.items

pub returns-clause-kept : goal.returns-clause-kept
returns-clause-kept c =
    let same : c.in_ok-clone.field-0.value ≡ c.args.app.value = c.in_ok-clone.ensures.cases in
    let is = c.in_ok-session.ensures.session ∙ ap (λ (h : Held). first_session (shape_of h)) same in
    let shown = c.in_ok-outputs.ensures ∙ ap (λ (h : Held). map first_output (readers (shape_of h))) c.deref-3.ensures in
    let idles = c.in_ok-boards.ensures ∙ ap (λ (h : Held). first_boards (shape_of h).items) c.deref-4.ensures in
    kept_first c.args.app.value c.in_ok-session.session c.in_ok-outputs.outputs.items c.in_ok-boards.boards is shown idles

pub returns-clause-rests : goal.returns-clause-rests
returns-clause-rests c =
    let same : c.in_ok-clone.field-0.value ≡ c.args.app.value = c.in_ok-clone.ensures.cases in
    let is = c.in_ok-session.ensures.session ∙ ap (λ (h : Held). first_session (shape_of h)) same in
    let shown = c.in_ok-outputs.ensures ∙ ap (λ (h : Held). map first_output (readers (shape_of h))) c.deref-3.ensures in
    let idles = c.in_ok-boards.ensures ∙ ap (λ (h : Held). first_boards (shape_of h).items) c.deref-4.ensures in
    rests_first c.args.app.value c.in_ok-session.session c.in_ok-outputs.outputs.items c.in_ok-boards.boards is shown idles _ refl refl c.in_ok-session.ensures.whole
    (subst (λ (h : Held). KnowsWaiting (shape_of h) (first_kept_flush (shape_of h)) c.in_ok-pending.pending) c.deref-5.ensures c.in_ok-pending.ensures.known)
