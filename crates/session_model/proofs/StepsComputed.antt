-- What single steps of a session come to, and when a journal is full, computed.
use Rattle.std.proofs.Common.{◌≡◌, ℕ, zero, suc, Bool, true, false, length, replicate, nat_le, nat_lt, ◌||◌, refl, ap, ap₂, ◌∙◌, add-zero}
use lib.ListN.{length-replicate}
use Rattle.std.specs.Fmt.{digits}
use Rattle.serde_json.proofs.OnLiterals.{serde_json_on_literals}
use Rattle.session_model.specs.declared.event.Event.{Event}
use Rattle.session_model.specs.declared.event.Event.TheVariants.{Other}
use Rattle.session_model.specs.declared.limits.TheConstants.{EVENT_LIMIT, JOURNAL_TEXT_LIMIT}
use Rattle.session_model.specs.Journal.{text_bytes}
use Rattle.session_model.specs.StepExamples.{EqualValue, OtherValue, ClientSets, ForgetsSites, RunsTheBudget, StaysEnded, FullOfEvents, FullOfBytes, LastLineTaken, LineTooMany}

pub equal_value : EqualValue
equal_value = refl

pub other_value : OtherValue
other_value = refl

pub client_sets : ClientSets
client_sets = refl

pub forgets_sites : ForgetsSites
forgets_sites = refl

pub runs_the_budget : RunsTheBudget
unfolding serde_json_on_literals digits
runs_the_budget = refl

pub stays_ended : StaysEnded
unfolding serde_json_on_literals digits
stays_ended = refl

or-false : (b : Bool) → (b || false) ≡ b
or-false true = refl
or-false false = refl

no_bytes : (n : ℕ) → text_bytes (replicate n Other) ≡ 0
no_bytes zero = refl
no_bytes (suc n) = no_bytes n

pub full_of_events : FullOfEvents
full_of_events n =
    ap₂ (λ (k bytes : ℕ). nat_le EVENT_LIMIT k || nat_lt JOURNAL_TEXT_LIMIT bytes) (length-replicate {A = Event} n Other) (no_bytes n) ∙ or-false (nat_le EVENT_LIMIT n)

pub full_of_bytes : FullOfBytes
full_of_bytes t = ap (λ (bytes : ℕ). nat_lt JOURNAL_TEXT_LIMIT bytes) (add-zero (length t))

pub last_line_taken : LastLineTaken
unfolding serde_json_on_literals digits
last_line_taken = refl

pub line_too_many : LineTooMany
unfolding serde_json_on_literals digits
line_too_many = refl
