use Rattle.std.proofs.Common.{rules, ◌≡◌, ◌<◌, length, map, slice_set, slice_get, Some, refl, sym, ◌∙◌, subst}
use Rattle.app_tree.specs.View.{shape_of}
use Rattle.app_tree.specs.Numbering.{readers}
use Rattle.flush_cycle.specs.declared.output.OutputState.{OutputState}
use Rattle.flush_cycle.specs.inner.Roles.{output_seen}
use Rattle.flush_cycle.specs.inner.Applying.{kept_shown}
use Rattle.flush_cycle.specs.Working.{Working}
use Rattle.flush_cycle.proofs.ShownOutputs.{outputs_counted, got, roles_stay, outputs_seen}
use Rattle.flush_cycle.proofs.work.Work.show.Goals as goal

pub index_mut-requires : goal.index_mut-requires
index_mut-requires c =
    let s = c.self.inside in
    let known : c.args.n < length (readers (shape_of s.app.value)) = subst (λ (w : Working). c.args.n < length (readers (shape_of w.app))) (sym c.self.view_is) c.requires in
    let size : length s.outputs.items ≡ length (readers (shape_of s.app.value)) = outputs_counted (shape_of s.app.value) s.outputs.items c.self.invariant.roles in
    let within : c.args.n < length s.outputs.items = subst (λ k. c.args.n < k) (sym size) known in
    search rules

pub invariant_of-self : goal.invariant_of-self
invariant_of-self c =
    let s = c.self.inside in
    let h = c.self.invariant in
    let known : c.args.n < length (readers (shape_of s.app.value)) = subst (λ (w : Working). c.args.n < length (readers (shape_of w.app))) (sym c.self.view_is) c.requires in
    let size : length s.outputs.items ≡ length (readers (shape_of s.app.value)) = outputs_counted (shape_of s.app.value) s.outputs.items h.roles in
    let within : c.args.n < length s.outputs.items = subst (λ k. c.args.n < k) (sym size) known in
    let o = c.index_mut.result.now in
    let is : slice_get s.outputs.items c.args.n ≡ Some o = got s.outputs.items c.args.n o within c.index_mut.ensures.value in
    record {
      proper = h.proper;
      numbers_are = h.numbers_are;
      first_is = h.first_is;
      app = h.app;
      sources = h.sources;
      contexts = h.contexts;
      roles = roles_stay s.outputs.items c.args.n o (record { role = o.role; shown = c.args.shown; last = o.last }) is refl ∙ h.roles;
      priorities = h.priorities;
      waits = h.waits;
      room = h.room;
      tasks = h.tasks;
      boards_fit = h.boards_fit;
      jobs_fit = h.jobs_fit;
    }

pub returns : goal.returns
returns c =
    let s = c.self.inside in
    let h = c.self.invariant in
    let known : c.args.n < length (readers (shape_of s.app.value)) = subst (λ (w : Working). c.args.n < length (readers (shape_of w.app))) (sym c.self.view_is) c.requires in
    let size : length s.outputs.items ≡ length (readers (shape_of s.app.value)) = outputs_counted (shape_of s.app.value) s.outputs.items h.roles in
    let within : c.args.n < length s.outputs.items = subst (λ k. c.args.n < k) (sym size) known in
    let o = c.index_mut.result.now in
    let is : slice_get s.outputs.items c.args.n ≡ Some o = got s.outputs.items c.args.n o within c.index_mut.ensures.value in
    let set : OutputState = record { role = o.role; shown = c.args.shown; last = o.last } in
    let seen = outputs_seen s.outputs.items c.args.n o set c.args.shown is refl in
    subst (λ (w : Working). record { app = s.app.value; kept = record { session = s.session.session; outputs = map output_seen (slice_set s.outputs.items c.args.n set); boards = s.boards }; pending = s.pending; jobs = s.jobs.items; made = s.made; whole = s.session.whole } ≡ record w { kept = kept_shown c.args.n c.args.shown w.kept }) c.self.view_is
    (λ z. record { app = s.app.value; kept = record { session = s.session.session; outputs = seen z; boards = s.boards }; pending = s.pending; jobs = s.jobs.items; made = s.made; whole = s.session.whole })
