use Rattle.std.proofs.Common.{◌≡◌, ◌<◌, List, ℕ, ◌++◌, ◌∷◌, [], map, length, Some, rules, refl, sym, ap, ◌∙◌, subst}
use Rattle.std.specs.Prelude.{slice_get, slice_set, unwrap_or}
use Rattle.std.proofs.lemmas.Result.{err_from_is_err_and}
use Rattle.rx_value.specs.declared.outcome.Outcome.{Outcome}
use Rattle.app_tree.specs.Held.{Held}
use Rattle.app_tree.specs.Numbering.{readers}
use Rattle.app_tree.specs.View.{shape_of}
use Rattle.session_model.specs.Standing.{KeptOutput, first_output}
use Rattle.session_steps.specs.Bringing.{running}
use Rattle.react_session.specs.Forcing.{Forced}
use Rattle.react_session.specs.Keeping.{Keeping}
use Rattle.flush_cycle.specs.contracts.work.Work as work
use Rattle.flush_cycle.specs.declared.output.OutputState.{OutputState}
use Rattle.flush_cycle.specs.inner.Roles.{role_of, output_seen}
use Rattle.flush_cycle.specs.Working.{Working}
use Rattle.flush_cycle.proofs.SessionSteps.{held_after}
use Rattle.flush_cycle.proofs.OutputRuns.{named_output, mapped_size, noted_seen, held_noted, broken_in, forces_size, run_lost, run_noted}
use Rattle.flush_cycle.proofs.work.Work.run_output.Goals as goal

pub invariant_of-self : goal.invariant_of-self
invariant_of-self g c =
    let s : Keeping = c.self.inside.session in
    let new : Keeping = c.run_reader.new.self in
    held_after c.self.invariant new c.run_reader.ensures.app c.run_reader.ensures.values
    (forces_size (shape_of s.app) c.args.n s.session new.session c.args.steps.now c.run_reader.new.steps c.run_reader.result c.run_reader.ensures.forces)

pub returns-in_err-outcome : goal.returns-in_err-outcome
returns-in_err-outcome g c =
    let s : Keeping = c.self.inside.session in
    let new : Keeping = c.run_reader.new.self in
    let p = err_from_is_err_and c.from_residual.result c.from_residual.ensures.1 in
    run_lost c.self.view_is c.self.invariant.proper c.self.invariant.contexts c.requires.next (named_output c.args.name.now c.args.plot _ c.requires.output) refl
    (broken_in s.app c.self.inside.app.value c.self.invariant.app c.args.n s.session new.session c.args.steps.now c.run_reader.new.steps c.run_reader.result c.run_reader.ensures.forces)
    c.run_reader.ensures.follows c.run_reader.ensures.none_out p.0 p.1

pub invariant_of-self-in_err-copy : goal.invariant_of-self-in_err-copy
invariant_of-self-in_err-copy g c =
    let s : Keeping = c.self.inside.session in
    let new : Keeping = c.run_reader.new.self in
    held_after c.self.invariant new c.run_reader.ensures.app c.run_reader.ensures.values
    (forces_size (shape_of s.app) c.args.n s.session new.session c.args.steps.now c.run_reader.new.steps c.run_reader.result c.run_reader.ensures.forces)

pub returns-in_err-copy : goal.returns-in_err-copy
returns-in_err-copy g c =
    let s : Keeping = c.self.inside.session in
    let new : Keeping = c.run_reader.new.self in
    let p = err_from_is_err_and c.from_residual-in_err-copy.result c.from_residual-in_err-copy.ensures.1 in
    run_lost c.self.view_is c.self.invariant.proper c.self.invariant.contexts c.requires.next (named_output c.args.name.now c.args.plot _ c.requires.output) refl
    (broken_in s.app c.self.inside.app.value c.self.invariant.app c.args.n s.session new.session c.args.steps.now c.run_reader.new.steps c.run_reader.result c.run_reader.ensures.forces)
    c.run_reader.ensures.follows c.run_reader.ensures.none_out p.0 p.1

pub index_mut-requires : goal.index_mut-requires
index_mut-requires g c =
    let size = mapped_size (λ o. o.role) role_of c.self.inside.outputs.items (readers (shape_of c.self.inside.app.value)) c.self.invariant.roles in
    let known = subst (λ (old : Working). c.args.n < length (readers (shape_of old.app))) (sym c.self.view_is) c.requires.next.known in
    let within : c.args.n < length c.self.inside.outputs.items = subst (λ k. c.args.n < k) (sym size) known in
    search (rules, within)

pub invariant_of-self-in_err-name : goal.invariant_of-self-in_err-name
invariant_of-self-in_err-name g c =
    let s : Keeping = c.self.inside.session in
    let new : Keeping = c.run_reader.new.self in
    let held = held_after c.self.invariant new c.run_reader.ensures.app c.run_reader.ensures.values
    (forces_size (shape_of s.app) c.args.n s.session new.session c.args.steps.now c.run_reader.new.steps c.run_reader.result c.run_reader.ensures.forces) in
    held_noted held c.args.n c.index_mut.result.now c.in_ok-copy.field-0 c.index_mut.ensures.value

pub returns-in_err-name : goal.returns-in_err-name
returns-in_err-name g c =
    let s : Keeping = c.self.inside.session in
    let new : Keeping = c.run_reader.new.self in
    let p = err_from_is_err_and c.from_residual-in_err-name.result c.from_residual-in_err-name.ensures.1 in
    run_lost c.self.view_is c.self.invariant.proper c.self.invariant.contexts c.requires.next (named_output c.args.name.now c.args.plot _ c.requires.output) refl
    (broken_in s.app c.self.inside.app.value c.self.invariant.app c.args.n s.session new.session c.args.steps.now c.run_reader.new.steps c.run_reader.result c.run_reader.ensures.forces)
    c.run_reader.ensures.follows c.run_reader.ensures.none_out p.0 p.1

pub invariant_of-self-in_err-push : goal.invariant_of-self-in_err-push
invariant_of-self-in_err-push g c =
    let s : Keeping = c.self.inside.session in
    let new : Keeping = c.run_reader.new.self in
    let held = held_after c.self.invariant new c.run_reader.ensures.app c.run_reader.ensures.values
    (forces_size (shape_of s.app) c.args.n s.session new.session c.args.steps.now c.run_reader.new.steps c.run_reader.result c.run_reader.ensures.forces) in
    held_noted held c.args.n c.index_mut.result.now c.in_ok-copy.field-0 c.index_mut.ensures.value

pub returns-in_err-push : goal.returns-in_err-push
returns-in_err-push g c =
    let s : Keeping = c.self.inside.session in
    let new : Keeping = c.run_reader.new.self in
    let p = err_from_is_err_and c.from_residual-in_err-push.result c.from_residual-in_err-push.ensures.1 in
    run_lost c.self.view_is c.self.invariant.proper c.self.invariant.contexts c.requires.next (named_output c.args.name.now c.args.plot _ c.requires.output) refl
    (broken_in s.app c.self.inside.app.value c.self.invariant.app c.args.n s.session new.session c.args.steps.now c.run_reader.new.steps c.run_reader.result c.run_reader.ensures.forces)
    c.run_reader.ensures.follows c.run_reader.ensures.none_out p.0 p.1

pub invariant_of-self-in_err-push-2 : goal.invariant_of-self-in_err-push-2
invariant_of-self-in_err-push-2 g c =
    let s : Keeping = c.self.inside.session in
    let new : Keeping = c.run_reader.new.self in
    let held = held_after c.self.invariant new c.run_reader.ensures.app c.run_reader.ensures.values
    (forces_size (shape_of s.app) c.args.n s.session new.session c.args.steps.now c.run_reader.new.steps c.run_reader.result c.run_reader.ensures.forces) in
    held_noted held c.args.n c.index_mut.result.now c.in_ok-copy.field-0 c.index_mut.ensures.value

pub returns-in_err-push-2 : goal.returns-in_err-push-2
returns-in_err-push-2 g c =
    let s : Keeping = c.self.inside.session in
    let new : Keeping = c.run_reader.new.self in
    let p = err_from_is_err_and c.from_residual-in_err-push-2.result c.from_residual-in_err-push-2.ensures.1 in
    run_lost c.self.view_is c.self.invariant.proper c.self.invariant.contexts c.requires.next (named_output c.args.name.now c.args.plot _ c.requires.output) refl
    (broken_in s.app c.self.inside.app.value c.self.invariant.app c.args.n s.session new.session c.args.steps.now c.run_reader.new.steps c.run_reader.result c.run_reader.ensures.forces)
    c.run_reader.ensures.follows c.run_reader.ensures.none_out p.0 p.1

pub invariant_of-self-2 : goal.invariant_of-self-2
invariant_of-self-2 g c =
    let s : Keeping = c.self.inside.session in
    let new : Keeping = c.run_reader.new.self in
    let held = held_after c.self.invariant new c.run_reader.ensures.app c.run_reader.ensures.values
    (forces_size (shape_of s.app) c.args.n s.session new.session c.args.steps.now c.run_reader.new.steps c.run_reader.result c.run_reader.ensures.forces) in
    held_noted held c.args.n c.index_mut.result.now c.in_ok-copy.field-0 c.index_mut.ensures.value

pub returns : goal.returns
returns g c =
    let w : Working = work.the_view c.self.inside in
    let s : Keeping = c.self.inside.session in
    let new : Keeping = c.run_reader.new.self in
    let n : ℕ = c.args.n in
    let outputs : List OutputState = c.self.inside.outputs.items in
    let now : OutputState = c.index_mut.result.now in
    let outcome : Outcome = c.in_ok-outcome.outcome in
    let size = mapped_size (λ o. o.role) role_of outputs (readers (shape_of c.self.inside.app.value)) c.self.invariant.roles in
    let known = subst (λ (old : Working). n < length (readers (shape_of old.app))) (sym c.self.view_is) c.requires.next.known in
    let within : n < length outputs = subst (λ k. n < k) (sym size) known in
    let kept : KeptOutput = unwrap_or (slice_get w.kept.outputs n) first_output in
    let seen : slice_set w.kept.outputs n (record kept { last = Some outcome }) ≡ map output_seen (slice_set outputs n (record now { last = Some c.in_ok-copy.field-0 })) =
    ap (λ (o : Outcome). slice_set w.kept.outputs n (record kept { last = Some o })) (sym c.in_ok-copy.ensures) ∙ sym (noted_seen outputs n now c.in_ok-copy.field-0 within c.index_mut.ensures.value) in
    let told : w.made.batch.outputs ++ record { name = c.args.name.now; plot = c.args.plot; outcome = outcome } ∷ [] ≡ c.push.new.self =
    ap (λ t. w.made.batch.outputs ++ record { name = t; plot = c.args.plot; outcome = outcome } ∷ []) (sym c.in_ok-name.ensures) ∙ sym c.in_ok-push.ensures.ok in
    let forced : Forced (shape_of w.app) running n s.session new.session c.args.steps.now c.run_reader.new.steps =
    subst (λ (h : Held). Forced (shape_of h) running n s.session new.session c.args.steps.now c.run_reader.new.steps) c.self.invariant.app c.in_ok-outcome.ensures.forces.0 in
    run_noted c.self.view_is c.self.invariant.proper c.self.invariant.contexts c.requires.next outcome forced c.in_ok-outcome.ensures.forces.1
    c.args.name.now c.args.plot c.requires.output new.whole c.in_ok-outcome.ensures.whole c.run_reader.ensures.running c.run_reader.ensures.follows c.run_reader.ensures.none_out
    (λ z. record w {
      kept = record { session = new.session; outputs = seen z; boards = w.kept.boards };
      made = record { runs = sym c.in_ok-push-2.ensures.ok z; batch = record { outputs = told z; messages = w.made.batch.messages } };
      whole = new.whole;
    }) refl
