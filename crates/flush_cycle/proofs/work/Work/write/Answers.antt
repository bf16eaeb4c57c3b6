use Rattle.std.proofs.Common.{List, ℕ, length, refl, ap, ◌∙◌, subst, arith}
use Rattle.std.proofs.lemmas.List.{length-map}
use Rattle.app_tree.specs.Numbering.{readers}
use Rattle.app_tree.specs.View.{shape_of}
use Rattle.session_model.specs.Change.{change}
use Rattle.session_model.specs.Flush.{priority_of}
use Rattle.react_session.specs.Marking.{marked_by_write}
use Rattle.flush_cycle.specs.contracts.work.Work.{the_view}
use Rattle.flush_cycle.specs.declared.output.OutputState.{OutputState}
use Rattle.flush_cycle.specs.inner.Acting.{Moved}
use Rattle.flush_cycle.specs.inner.Marking.{AddsMarked}
use Rattle.flush_cycle.specs.Working.{Working, IsReady}
use Rattle.flush_cycle.proofs.Deriving.{write_size}
use Rattle.flush_cycle.proofs.WriteMoves.{outputs_size, write_values, marked_known, written_work, write_moves}
use Rattle.flush_cycle.proofs.work.Work.write.Goals as goal

pub add_marked-requires-clause-known : goal.add_marked-requires-clause-known
add_marked-requires-clause-known c =
    let held = c.self.invariant in
    marked_known c.args.source c.args.value c.self.inside.session.session (readers (shape_of c.self.inside.app.value)) c.self.inside.outputs.items c.as_slice.result.now
    c.as_slice-2.result.now held.contexts held.roles c.as_slice.ensures.value (c.as_slice-2.ensures ∙ c.write-change.ensures.marked)

pub add_marked-requires-clause-priorities : goal.add_marked-requires-clause-priorities
add_marked-requires-clause-priorities c =
    let held = c.self.invariant in
    let is = readers (shape_of c.self.inside.app.value) in
    let size = outputs_size is c.self.inside.outputs.items held.roles in
    let here = ap length c.as_slice.ensures.value in
    let count = ap length held.priorities ∙ length-map is priority_of in
    omega (size, here, count, arith)

pub add_marked-requires-clause-waits : goal.add_marked-requires-clause-waits
add_marked-requires-clause-waits c =
    let held = c.self.invariant in
    let size = outputs_size (readers (shape_of c.self.inside.app.value)) c.self.inside.outputs.items held.roles in
    let here = ap length c.as_slice.ensures.value in
    let count = held.waits in
    omega (size, here, count, arith)

pub invariant_of-self : goal.invariant_of-self
invariant_of-self c =
    let held = c.self.invariant in
    let after = c.write-change.new.self.session in
    let session = c.self.inside.session.session in
    let alike = c.write-change.ensures.session in
    record {
      proper = held.proper;
      numbers_are = held.numbers_are;
      first_is = held.first_is;
      app = c.write-change.ensures.app ∙ held.app;
      sources = write_values c.args.source c.args.value session after alike ∙ held.sources;
      contexts = write_size c.args.source c.args.value session after alike ∙ held.contexts;
      roles = held.roles;
      priorities = c.add_marked.ensures.priorities ∙ held.priorities;
      waits = c.add_marked.ensures.size ∙ held.waits;
      room = let old = held.room in let new = c.write-change.ensures.room in omega (old, new, arith);
      tasks = held.tasks;
      boards_fit = held.boards_fit;
      jobs_fit = held.jobs_fit;
    }

pub returns : goal.returns
returns c =
    let held = c.self.invariant in
    let s = c.args.source in
    let x = c.args.value in
    let inside = c.self.inside in
    let after = c.write-change.new.self.session in
    let pending = c.add_marked.new.pending in
    let whole = c.write-change.new.self.whole in
    let outputs = inside.outputs.items in
    let old : Working = the_view inside in
    let adds : AddsMarked outputs (marked_by_write s x inside.session.session) inside.pending pending =
    subst (λ (l : List ℕ). AddsMarked outputs l inside.pending pending) (c.as_slice-2.ensures ∙ c.write-change.ensures.marked)
    (subst (λ (os : List OutputState). AddsMarked os c.as_slice-2.result.now inside.pending pending) c.as_slice.ensures.value c.add_marked.ensures) in
    subst (λ (w : Working). IsReady w → Moved (change s x) w (written_work old after pending whole)) c.self.view_is
    (write_moves old s x after pending whole outputs held.proper refl held.roles c.write-change.ensures.session c.write-change.ensures.whole adds)
    c.requires.ready
