use Rattle.std.proofs.Common.{◌≡◌, ℕ, List, ◌++◌, length, sym, ap, ◌∙◌, arith}
use Rattle.std.proofs.lemmas.List.{append-nil}
use Rattle.app_tree.specs.Held.{Held}
use Rattle.app_tree.specs.Numbering.{readers}
use Rattle.app_tree.specs.View.{shape_of}
use Rattle.session_model.specs.Standing.{KeptOutput}
use Rattle.flush_cycle.specs.Reports.{in_progress_from}
use Rattle.flush_cycle.specs.inner.Roles.{output_seen}
use Rattle.flush_cycle.specs.Working.{Working}
use Rattle.flush_cycle.proofs.OutputsKept.{mapped_size, outputs_size, in_progress-noted, none_behind}
use Rattle.flush_cycle.proofs.work.Work.in_progress.Goals as goal

pub loop-n-preserved : goal.loop-n-preserved
loop-n-preserved c =
    let s = c.self.inside in
    let outputs : List KeptOutput = c.args.self.now.kept.outputs in
    let size : length outputs ≡ length (readers (shape_of s.app.value)) =
    ap (λ (z : Working). length z.kept.outputs) (sym c.self.view_is) ∙ mapped_size output_seen s.outputs.items ∙ outputs_size s.outputs.items (readers (shape_of s.app.value)) c.self.invariant.roles in
    let last : c.readers-n-end.result ≡ length (readers (shape_of s.app.value)) = c.readers-n-end.ensures.value ∙ ap (λ (h : Held). length (readers (shape_of h))) c.deref.ensures in
    let test = c.loop-n-test.true in
    in_progress-noted c.args.ran.now outputs c.loop-n.n c.loop-n.numbers c.note.new.numbers (in_progress_from 0 c.args.ran.now outputs) (omega (test, size, last, arith)) c.in_ok-note.ensures c.loop-n.invariant

pub returns : goal.returns
returns c =
    let s = c.self.inside in
    let outputs : List KeptOutput = c.args.self.now.kept.outputs in
    let size : length outputs ≡ length (readers (shape_of s.app.value)) =
    ap (λ (z : Working). length z.kept.outputs) (sym c.self.view_is) ∙ mapped_size output_seen s.outputs.items ∙ outputs_size s.outputs.items (readers (shape_of s.app.value)) c.self.invariant.roles in
    let last : c.readers-n-end.result ≡ length (readers (shape_of s.app.value)) = c.readers-n-end.ensures.value ∙ ap (λ (h : Held). length (readers (shape_of h))) c.deref.ensures in
    let test = c.loop-n-test.false in
    let numbers : List ℕ = c.loop-n.numbers in
    sym (append-nil numbers) ∙ ap (λ l. numbers ++ l) (sym (none_behind c.args.ran.now outputs c.loop-n.n c.loop-n.n (omega (test, size, last, arith)))) ∙ c.loop-n.invariant
