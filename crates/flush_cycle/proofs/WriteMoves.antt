-- What a write leaves of a session's work.
use Rattle.std.proofs.Common.{◌≡◌, ◌<◌, ℕ, Bool, true, false, List, length, map, refl, sym, ap, ◌∙◌, arith}
use Rattle.std.specs.Prelude.{if◌then◌else◌}
use Rattle.std.proofs.lemmas.List.{length-map}
use Rattle.rx_value.specs.declared.source.SourceValue.{SourceValue}
use Rattle.rx_value.specs.Value.{source_eq}
use Rattle.app_tree.specs.Tree.{Node}
use Rattle.app_tree.specs.Numbering.{readers}
use Rattle.app_tree.specs.Current.{value_at}
use Rattle.app_tree.specs.Fresh.{is_among}
use Rattle.app_tree.specs.View.{shape_of}
use Rattle.app_laws.specs.Proper.{IsProper}
use Rattle.pending_set.specs.Waiting.{Waiting}
use Rattle.session_model.specs.Change.{change}
use Rattle.session_model.specs.Standing.{KeptSession}
use Rattle.session_laws.proofs.States.{set_size}
use Rattle.session_steps.specs.Keeping.{IsAlike}
use Rattle.session_steps.specs.Acting.{changed_kept, write_kept}
use Rattle.react_session.specs.Marking.{marked_by_write}
use Rattle.flush_cycle.specs.declared.output.OutputState.{OutputState}
use Rattle.flush_cycle.specs.inner.Acting.{Moved}
use Rattle.flush_cycle.specs.inner.Marking.{AddsMarked}
use Rattle.flush_cycle.specs.inner.Roles.{role_of, output_seen}
use Rattle.flush_cycle.specs.Working.{Working, IsReady}
use Rattle.flush_cycle.proofs.Deriving.{marked_within}
use Rattle.flush_cycle.proofs.MarkedWait.{knows_write}
use Rattle.flush_cycle.proofs.Stepping.{with_session, write_follows}

-- as many outputs as readers are looked after
pub outputs_size : (is : List Node) (outputs : List OutputState) → map (λ o. o.role) outputs ≡ map role_of is → length outputs ≡ length is
outputs_size is outputs roles = sym (length-map outputs (λ o. o.role)) ∙ ap length roles ∙ length-map is role_of

pub write_values : (s : ℕ) (x : SourceValue) (session after : KeptSession) → IsAlike (write_kept s x session) after
    → length after.values ≡ length session.values
write_values s x session after alike = sym (ap length alike.values) ∙ by (source_eq (value_at session.values s) x)
  where
    by : (b : Bool) → length (if b then session else changed_kept s x session).values ≡ length session.values
    by true = refl
    by false = set_size session.values s x

-- each that is marked has an output's place
pub marked_known : (s : ℕ) (x : SourceValue) (session : KeptSession) (is : List Node) (outputs shown : List OutputState) (marked : List ℕ)
    → length session.readers ≡ length is → map (λ o. o.role) outputs ≡ map role_of is → shown ≡ outputs
    → marked ≡ marked_by_write s x session → (n : ℕ) → is_among n marked ≡ true → n < length shown
marked_known s x session is outputs shown marked contexts roles same list n among =
    let low = marked_within s x session n (ap (λ l. is_among n l) (sym list) ∙ among) in
    let size = outputs_size is outputs roles in
    let here = ap length same in
    omega (low, size, here, contexts, arith)

write_runs_on : (s : ℕ) (x : SourceValue) (session after : KeptSession) → IsAlike (write_kept s x session) after
    → after.running ≡ session.running
write_runs_on s x session after alike = sym alike.running ∙ by (source_eq (value_at session.values s) x)
  where
    by : (b : Bool) → (if b then session else changed_kept s x session).running ≡ session.running
    by true = refl
    by false = refl

-- with the session and those that wait after a write
abbrev pub written_work : Working → KeptSession → Waiting → Bool → Working
written_work old after pending whole =
    record old { kept = with_session after old.kept; pending = pending; whole = whole }

pub write_moves : (old : Working) (s : ℕ) (x : SourceValue) (after : KeptSession) (pending : Waiting) (whole : Bool)
    (outputs : List OutputState) → IsProper (shape_of old.app) → old.kept.outputs ≡ map output_seen outputs
    → map (λ o. o.role) outputs ≡ map role_of (readers (shape_of old.app)) → IsAlike (write_kept s x old.kept.session) after
    → whole ≡ true → AddsMarked outputs (marked_by_write s x old.kept.session) old.pending pending → IsReady old
    → Moved (change s x) old (written_work old after pending whole)
write_moves old s x after pending whole outputs proper seen roles alike found adds ready = record {
  app = refl;
  moves = λ state stands. write_follows (shape_of old.app) proper old.kept after state stands s x alike;
  ready = record {
    whole = found;
    waiting = knows_write (shape_of old.app) old.kept after s x outputs old.pending pending seen roles alike ready.waiting adds;
  };
  running = write_runs_on s x old.kept.session after alike;
  boards = refl;
  jobs = refl;
  made = refl;
}
