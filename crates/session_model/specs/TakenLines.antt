-- The lines that `replay` takes today: at most 200, all for one session, with an init first and then updates; they set
-- declared inputs to whole numbers, and the init says also what is hidden. Any other line is refused as a bad one.
use Rattle.std.specs.Prelude.{ℕ, suc, ◌==◌, Bool, true, false, not, ◌&&◌, ◌||◌, nat_le, List, [], ◌∷◌, Option, Some, None, is_some, option_and_then, codes, bytes_eq, if◌then◌else◌}
use Rattle.std.specs.List.{list_any, list_all}
use Rattle.serde_json.specs.Data.{Data, boolean, number, object, Members, no_members, member}
use Rattle.serde_json.specs.Find.{get_member, as_object, as_i64}
use Rattle.serde_json.specs.Read.{read}
use Rattle.shiny_json.specs.declared.message.Pair.{Pair}
use Rattle.shiny_json.specs.declared.message.Client.{Client}
use Rattle.shiny_json.specs.declared.message.Client.TheVariants.{Init, Update}
use Rattle.shiny_json.specs.Client.{client_message, is_colon}
use Rattle.app_tree.specs.Tree.{Node, Shape}
use Rattle.app_tree.specs.Numbering.{input_number}
use Rattle.session_model.specs.Lines.{lines_of}
use Rattle.session_model.specs.Apply.{clientdata_output}
use Rattle.session_model.specs.declared.limits.TheConstants.{TAKEN_LINE_LIMIT}
use Rattle.session_model.specs.Transcript.{Line, recv, line_of, Open, ReplayResult, replay_from}

-- ---- messages

abbrev pub is_whole : Data → Bool
is_whole (number n) = is_some (as_i64 n)
is_whole _ = false

abbrev pub is_truth : Data → Bool
is_truth (boolean b) = true
is_truth _ = false

-- the output whose hiding this name tells
abbrev pub hidden_output : List ℕ → List Node → Option ℕ
hidden_output name items = clientdata_output (codes "_hidden") name items

-- a name without a type that sets a declared input or, at the init, tells whether a declared output is hidden
abbrev pub is_taken_pair : Shape → Bool → List ℕ → Data → Bool
is_taken_pair app first key d =
    not (list_any is_colon key)
    && ((is_some (input_number key app.items) && is_whole d)
    || (first && is_some (hidden_output key app.items) && is_truth d))

abbrev pub are_taken_pairs : Shape → Bool → Members → Bool
are_taken_pairs app first no_members = true
are_taken_pairs app first (member key d more) = is_taken_pair app first key d && are_taken_pairs app first more

abbrev pub has_taken_data : Shape → Bool → Option Members → Bool
has_taken_data app first None = false
has_taken_data app first (Some pairs) = are_taken_pairs app first pairs

abbrev pub member_count : Members → ℕ
member_count no_members = 0
member_count (member key d more) = suc (member_count more)

-- no keys but the method and the data
abbrev pub is_taken_object : Shape → Bool → Members → Bool
is_taken_object app first ms =
    (member_count ms == 2) && has_taken_data app first (option_and_then as_object (get_member (codes "data") ms))

abbrev pub is_taken_json : Shape → Bool → Option Data → Bool
is_taken_json app first (Some (object ms)) = is_taken_object app first ms
is_taken_json app first _ = false

-- what an init sets that comes first, and an update that comes later
abbrev pub pairs_set : Bool → Client → Option (List Pair)
pairs_set true (Init pairs) = Some pairs
pairs_set false (Update pairs) = Some pairs
pairs_set _ _ = None

-- what a text of this form sets; None where it has not the form
abbrev pub taken_pairs : Shape → Bool → List ℕ → Option (List Pair)
taken_pairs app first text = if is_taken_json app first (read text) then pairs_set first (client_message text) else None

-- ---- lines

-- no line came before
abbrev pub is_first : List Open → Bool
is_first [] = true
is_first (s ∷ more) = false

-- the name of the session that the lines before were for
abbrev pub is_of_one : List ℕ → List Open → Bool
is_of_one label sessions = list_all (λ s. bytes_eq label s.label) sessions

abbrev pub is_taken : Shape → ℕ → List Open → List ℕ → List ℕ → Bool
is_taken app k sessions label text =
    nat_le k TAKEN_LINE_LIMIT && is_of_one label sessions && is_some (taken_pairs app (is_first sessions) text)

abbrev pub taken_line : Shape → ℕ → List Open → Option Line → Option Line
taken_line app k sessions (Some (recv label text)) =
    if is_taken app k sessions label text then Some (recv label text) else None
taken_line app k sessions _ = None

-- what line k says, where it is taken, behind these sessions
abbrev pub taken_by : Shape → ℕ → List Open → List ℕ → Option Line
taken_by app k sessions line = taken_line app k sessions (line_of app.items line)

-- the replay of a transcript of which these lines alone are taken. 200 lines are far shorter than a transcript may be,
-- so that limit is not asked for
abbrev pub replayed_today : Shape → List ℕ → ReplayResult
replayed_today app bytes = replay_from app (taken_by app) 1 [] (lines_of bytes)
