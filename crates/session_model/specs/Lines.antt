-- The lines of a transcript, and what stands at their front.
use Rattle.std.specs.Prelude.{◌≡◌, ⊤, ℕ, ◌==◌, Bool, false, ◌&&◌, ◌||◌, nat_le, nat_lt, List, [], ◌∷◌, length, if◌then◌else◌}
use Rattle.std.specs.List.{list_all, position_or_len}
use Rattle.std.specs.Char.{is_ascii_alphanumeric}
use Rattle.session_model.specs.declared.limits.TheConstants.{LABEL_LIMIT}

abbrev pub with_byte : ℕ → List (List ℕ) → List (List ℕ)
with_byte b [] = (b ∷ []) ∷ []
with_byte b (line ∷ more) = (b ∷ line) ∷ more

abbrev pub with_line_byte : ℕ → List (List ℕ) → List (List ℕ)
with_line_byte b more = if b == 10 then [] ∷ more else with_byte b more

-- the lines, each ended by a line feed; a last one without it counts where it isn't empty
abbrev pub lines_of : List ℕ → List (List ℕ)
lines_of [] = []
lines_of (b ∷ bs) = with_line_byte b (lines_of bs)

-- no line feed among the bytes
abbrev pub HasNoFeed : List ℕ → Type 0
HasNoFeed [] = ⊤
HasNoFeed (b ∷ bs) = ((b == 10) ≡ false) × HasNoFeed bs

abbrev pub is_space : ℕ → Bool
is_space b = b == 32

abbrev pub is_label_byte : ℕ → Bool
is_label_byte b = is_ascii_alphanumeric b || (b == 95)

-- 1 to 32 ASCII letters, digits and `_`
abbrev pub is_label : List ℕ → Bool
is_label name = nat_lt 0 (length name) && nat_le (length name) LABEL_LIMIT && list_all is_label_byte name

-- a space stands somewhere
abbrev pub has_space : List ℕ → Bool
has_space bytes = nat_lt (position_or_len is_space bytes) (length bytes)
