-- The journal of a session, and when it is full.
use Rattle.std.specs.Prelude.{ℕ, ◌+◌, Bool, ◌||◌, nat_le, nat_lt, List, [], ◌∷◌, length}
use Rattle.session_model.specs.declared.event.Event.{Event}
use Rattle.session_model.specs.declared.event.Event.TheVariants.{Text}
use Rattle.session_model.specs.declared.limits.TheConstants.{EVENT_LIMIT, JOURNAL_TEXT_LIMIT}

-- the bytes of the client's texts
abbrev pub text_bytes : List Event → ℕ
text_bytes [] = 0
text_bytes (Text t ∷ more) = length t + text_bytes more
text_bytes (event ∷ more) = text_bytes more

-- it has as many events as it may, or its texts have more bytes than that
abbrev pub is_full : List Event → Bool
is_full journal = nat_le EVENT_LIMIT (length journal) || nat_lt JOURNAL_TEXT_LIMIT (text_bytes journal)
