-- What a line says that is taken today, and what a replay of such lines is.
use Rattle.std.proofs.Common.{◌≡◌, ℕ, suc, ◌+◌, ◌*◌, ◌≤◌, Bool, true, false, List, [], ◌∷◌, length, take, filter, Option, Some, None, refl, sym, ap, ◌∙◌, arith}
use Rattle.std.specs.Prelude.{◌==◌, ◌&&◌, nat_le, is_some, if◌then◌else◌}
use Rattle.std.specs.Str.{is_utf8}
use Rattle.std.proofs.lemmas.Bool.{leb-true, le-ltb}
use Rattle.std.proofs.Math.Bool.{and-eq-true_iff}
use Rattle.serde_json.specs.Read.{read}
use Rattle.shiny_json.specs.declared.message.Pair.{Pair}
use Rattle.shiny_json.specs.declared.message.Client.{Client}
use Rattle.shiny_json.specs.declared.message.Client.TheVariants.{Init, Update, Refused}
use Rattle.shiny_json.specs.declared.message.BadMessage.TheVariants as bad
use Rattle.shiny_json.specs.declared.limits.TheConstants.{MESSAGE_LIMIT}
use Rattle.shiny_json.specs.Client.{json_message, client_message}
use Rattle.app_tree.specs.Tree.{Shape}
use Rattle.session_model.specs.Lines.{with_byte, lines_of}
use Rattle.session_model.specs.Transcript.{is_feed, line_past_limit, Line, recv, ends, closes, parts_of, line_of, Open, with_session, step, done, takes, line_taken, ReplayResult, after_output, replay_after_line, line_unless_past, replay_from}
use Rattle.session_model.specs.TakenLines.{is_taken_json, pairs_set, taken_pairs, is_first, is_of_one, is_taken, taken_line, taken_by, replayed_today}
use Rattle.session_laws.specs.TakenWhole.{TakenIsWhole}
use Rattle.session_laws.proofs.OneLine.{is_taken as is_taken_by_one}
use Rattle.session_model.specs.declared.limits.TheConstants.{LINE_LIMIT, TRANSCRIPT_LIMIT, TAKEN_LINE_LIMIT}

given_if : {A : Type 0} (b : Bool) (o : Option A) (x : A) → (if b then o else None) ≡ Some x → (b ≡ true) × (o ≡ Some x)
given_if true o x h = (refl, h)
given_if false o x h = absurd cc

-- ---- a message

init_of : (client : Client) (pairs : List Pair) → pairs_set true client ≡ Some pairs → client ≡ Init pairs
init_of (Init ps) pairs e = let same : ps ≡ pairs = cc in ap Init same
init_of (Update ps) pairs e = cc
init_of (Refused cause) pairs e = cc

update_of : (client : Client) (pairs : List Pair) → pairs_set false client ≡ Some pairs → client ≡ Update pairs
update_of (Init ps) pairs e = cc
update_of (Update ps) pairs e = let same : ps ≡ pairs = cc in ap Update same
update_of (Refused cause) pairs e = cc

pub taken_init : (app : Shape) (text : List ℕ) (pairs : List Pair) → taken_pairs app true text ≡ Some pairs → client_message text ≡ Init pairs
taken_init app text pairs e = init_of (client_message text) pairs (given_if (is_taken_json app true (read text)) _ pairs e).1

pub taken_update : (app : Shape) (text : List ℕ) (pairs : List Pair) → taken_pairs app false text ≡ Some pairs → client_message text ≡ Update pairs
taken_update app text pairs e = update_of (client_message text) pairs (given_if (is_taken_json app false (read text)) _ pairs e).1

no_refusal : (first : Bool) (pairs : List Pair) → pairs_set first (Refused bad.TooLong) ≡ Some pairs → ⊥
no_refusal true pairs e = cc
no_refusal false pairs e = cc

-- no message is longer than a client message may be
pub taken_short : (app : Shape) (first : Bool) (text : List ℕ) (pairs : List Pair) → taken_pairs app first text ≡ Some pairs → length text ≤ MESSAGE_LIMIT
taken_short app first text pairs e = by (nat_le (length text) MESSAGE_LIMIT) refl (given_if (is_taken_json app first (read text)) (pairs_set first (client_message text)) pairs e).1
  where
    by : (b : Bool) → nat_le (length text) MESSAGE_LIMIT ≡ b → pairs_set first (if b then json_message (read text) else Refused bad.TooLong) ≡ Some pairs → length text ≤ MESSAGE_LIMIT
    by true h p = leb-true (length text) MESSAGE_LIMIT h
    by false h p = absurd (no_refusal first pairs p)

-- ---- a line

-- a line that is taken says what it says as a whole, by its number and length it is within the limits
record IsTakenLine (app : Shape) (k : ℕ) (line : List ℕ) (l : Line) : Type 0 where
  says : line_of app.items line ≡ Some l
  within : k ≤ TAKEN_LINE_LIMIT
  short : length line ≤ LINE_LIMIT

said_whole : (app : Shape) (k : ℕ) (sessions : List Open) (said : Option Line) (l : Line) → taken_line app k sessions said ≡ Some l → (said ≡ Some l) × (k ≤ TAKEN_LINE_LIMIT)
said_whole app k sessions None l e = absurd cc
said_whole app k sessions (Some (ends label t)) l e = absurd cc
said_whole app k sessions (Some (closes label)) l e = absurd cc
said_whole app k sessions (Some (recv label text)) l e =
    let given = given_if (is_taken app k sessions label text) (Some (recv label text)) l e in
    let of_one = (and-eq-true_iff (nat_le k TAKEN_LINE_LIMIT && is_of_one label sessions) (is_some (taken_pairs app (is_first sessions) text))).0 given.0 in
    let few = (and-eq-true_iff (nat_le k TAKEN_LINE_LIMIT) (is_of_one label sessions)).0 of_one.0 in
    (given.1, leb-true k TAKEN_LINE_LIMIT few.0)

is_taken_line : (app : Shape) (k : ℕ) (sessions : List Open) (line : List ℕ) (l : Line) → taken_by app k sessions line ≡ Some l → IsTakenLine app k line l
is_taken_line app k sessions line l e =
    let said = said_whole app k sessions (line_of app.items line) l e in
    let given = given_if (nat_le (length line) LINE_LIMIT && is_utf8 line) (parts_of app.items line) l said.0 in
    record {
      says = said.0;
      within = said.1;
      short = leb-true (length line) LINE_LIMIT ((and-eq-true_iff (nat_le (length line) LINE_LIMIT) (is_utf8 line)).0 given.0).0;
    }

-- ---- a replay

-- a line behind which the replay is done: it is taken, and the replay goes on behind the session that it moves
record IsLineTaken (app : Shape) (k : ℕ) (sessions : List Open) (line : List ℕ) (next : List Open → ReplayResult) : Type 0 where
  within : k ≤ TAKEN_LINE_LIMIT
  short : length line ≤ LINE_LIMIT
  behind : List Open
  end : (next behind).end ≡ done
  same : (other : List Open → ReplayResult) → other behind ≡ next behind
      → replay_after_line app sessions (line_taken app k sessions (line_of app.items line)) other ≡ replay_after_line app sessions (line_taken app k sessions (taken_by app k sessions line)) next

is_line_taken : (app : Shape) (k : ℕ) (sessions : List Open) (line : List ℕ) (next : List Open → ReplayResult) (said : Option Line) → taken_by app k sessions line ≡ said
    → (replay_after_line app sessions (line_taken app k sessions said) next).end ≡ done → IsLineTaken app k sessions line next
is_line_taken app k sessions line next None e h = absurd cc
is_line_taken app k sessions line next (Some l) e h =
    let t = is_taken_line app k sessions line l e in
    let one = is_taken_by_one app k sessions next (Some l) h in
    let goes : (said : Option Line) → said ≡ Some l → line_taken app k sessions said ≡ takes one.event one.session = λ said same. ap (line_taken app k sessions) same ∙ one.is in
    let after = step app one.event one.session in
    record {
      within = t.within;
      short = t.short;
      behind = with_session after.session sessions;
      end = ap (λ x. (replay_after_line app sessions x next).end) (sym one.is) ∙ h;
      same = λ other same.
          ap (λ x. replay_after_line app sessions x other) (goes (line_of app.items line) t.says)
          ∙ ap (after_output after.output) same
          ∙ sym (ap (λ x. replay_after_line app sessions x next) (goes (taken_by app k sessions line) e));
    }

same_replay : (app : Shape) (lines : List (List ℕ)) (k : ℕ) (sessions : List Open) → (replay_from app (taken_by app) k sessions lines).end ≡ done
    → replay_from app (line_unless_past app None) k sessions lines ≡ replay_from app (taken_by app) k sessions lines
same_replay app [] k sessions h = refl
same_replay app (line ∷ more) k sessions h =
    let l = is_line_taken app k sessions line (λ next. replay_from app (taken_by app) (suc k) next more) (taken_by app k sessions line) refl h in
    l.same (λ next. replay_from app (line_unless_past app None) (suc k) next more) (same_replay app more (suc k) l.behind l.end)

-- ---- the limit of a transcript

abbrev total : List (List ℕ) → ℕ
total [] = 0
total (line ∷ more) = suc (length line) + total more

byte_within : (c : Bool) (b n : ℕ) (more : List (List ℕ)) → n ≤ total more → suc n ≤ total (if c then [] ∷ more else with_byte b more)
byte_within true b n more h = omega (h, arith)
byte_within false b n [] h = omega (h, arith)
byte_within false b n (line ∷ more) h = omega (h, arith)

bytes_within : (bytes : List ℕ) → length bytes ≤ total (lines_of bytes)
bytes_within [] = omega arith
bytes_within (b ∷ bytes) = byte_within (b == 10) b (length bytes) (lines_of bytes) (bytes_within bytes)

lines_within : (app : Shape) (lines : List (List ℕ)) (k : ℕ) (sessions : List Open) → k ≤ suc TAKEN_LINE_LIMIT → (replay_from app (taken_by app) k sessions lines).end ≡ done
    → total lines + suc LINE_LIMIT * k ≤ suc LINE_LIMIT * suc TAKEN_LINE_LIMIT
lines_within app [] k sessions within h = omega (within, arith)
lines_within app (line ∷ more) k sessions within h =
    let l = is_line_taken app k sessions line (λ next. replay_from app (taken_by app) (suc k) next more) (taken_by app k sessions line) refl h in
    let small = l.within in let short = l.short in
    let rest = lines_within app more (suc k) l.behind (omega (small, arith)) l.end in
    omega (small, short, rest, arith)

none_past : (app : Shape) (bytes : List ℕ) → (replayed_today app bytes).end ≡ done → line_past_limit bytes ≡ None
none_past app bytes h =
    let a = bytes_within bytes in let b = lines_within app (lines_of bytes) 1 [] (omega arith) h in
    ap (λ c. if c then Some (suc (length (filter is_feed (take TRANSCRIPT_LIMIT bytes)))) else None) (le-ltb TRANSCRIPT_LIMIT (length bytes) (omega (a, b, arith)))

pub taken_is_whole : TakenIsWhole
taken_is_whole app bytes h =
    ap (λ p. replay_from app (line_unless_past app p) 1 [] (lines_of bytes)) (none_past app bytes h) ∙ same_replay app (lines_of bytes) 1 [] h
