-- One line of a replay, and its end, from the code's answers to the definition's replay.
use Rattle.std.proofs.Common.{◌≡◌, ℕ, suc, ◌+◌, ◌<◌, ◌≤◌, Bool, true, false, List, [], ◌∷◌, ◌++◌, length, take, drop, Option, Some, None, IfSome, Result, Ok, Err, IfOk, refl, sym, ap, ◌∙◌, subst, arith, append_assoc, append-nil, take-append-drop, inl, inr}
use Rattle.std.specs.Prelude.{◌≢◌, ◌||◌, ◌⊎◌, ◌==◌, is_some, codes, if◌then◌else◌}
use Rattle.std.specs.Io.KnownBytes.{prepend_known, append_known, IsAtEnd}
use Rattle.app_tree.specs.Tree.{Shape}
use Rattle.session_model.specs.declared.event.Event.TheVariants.{End}
use Rattle.session_model.specs.Alone.{JournalResult, ended, budget_spent, effect_from, effect_texts, result_after, ending, journal_result}
use Rattle.session_model.specs.Transcript.{Open, with_event, event_output, over_line, added_texts, is_over, step_by, ReplayEnd, done, bad_line, no_session, ReplayResult, Rest, ended_replay, closing_step, closing_replay, replay_line, replay_from}
use Rattle.session_model.specs.TakenLines.{taken_line, taken_by}
use Rattle.session_model.specs.Lines.{HasNoFeed, lines_of}
use Rattle.session_model.specs.WrittenLines.{send_lines, over_text}
use Rattle.session_laws.proofs.Journals.{journal_result-more, added_texts-more}
use Rattle.taken_cycle.specs.declared.stage.Stage.{Stage}
use Rattle.taken_cycle.specs.declared.stage.Stage.TheVariants as stage
use Rattle.shiny_main.specs.declared.session.OpenSession.{OpenSession}
use Rattle.shiny_main.specs.declared.session.Answered.{Answered}
use Rattle.rx_value.specs.declared.memory.Memory.{Memory}
use Rattle.shiny_main.specs.declared.line.Line.{Line}
use Rattle.shiny_main.specs.declared.replay.Taken.{Taken}
use Rattle.shiny_main.specs.declared.replay.Taken.TheVariants as taken
use Rattle.shiny_main.specs.declared.transcript.Replayed.{Replayed as ReplayAnswer}
use Rattle.shiny_main.specs.declared.transcript.Replayed.TheVariants as answer
use Rattle.shiny_main.specs.declared.transcript.Turn.{Turn}
use Rattle.shiny_main.specs.declared.transcript.Turn.TheVariants as turn
use Rattle.shiny_main.specs.inner.Spoken.{spoken_line, numbered_line}
use Rattle.shiny_main.specs.Ports.{Ports}
use Rattle.shiny_main.specs.inner.Pieces.{BeginsWith, Breaks}
use Rattle.shiny_main.specs.inner.Lines.{LinesState, coming, first_size, BeginsBad, BeginsSaying}
use Rattle.shiny_main.specs.SoFar.{HasWritten, on_first, whole_lines, so_far_from}
use Rattle.shiny_main.specs.inner.Replaying.{EndsSo, HoldsOpen, IsShort, HoldsSession, GoesOn, TakesLine, PutsAnswer, PutsOver, ClosesAt, Closes, Ends, Stops, IsOutputOfFront, ReplayGives, NotEnded, TurnGives, HasFewBehind, AnswersTaken}
use Rattle.shiny_main.proofs.SpokenLines.{spoken-over, spoken-short, line_by-spoken}
use Rattle.shiny_main.proofs.LineReads.{begun_by, if_some}
use Rattle.shiny_main.proofs.Taking.{not_full}
use Rattle.session_model.specs.declared.limits.TheConstants.{TRANSCRIPT_LIMIT}

abbrev pub ports_of : Option (List ℕ) → Option (List ℕ) → Option (List ℕ) → Option (List ℕ) → Ports
ports_of left left_after held held_after = record { left = left; left_after = left_after; held = held; held_after = held_after }

pub nothing_put : (held : Option (List ℕ)) → held ≡ append_known held []
nothing_put None = refl
nothing_put (Some xs) = ap Some (sym (append-nil xs))

-- a replay that is this one has written so
pub written_by : {r q : ReplayResult} → r ≡ q → HasWritten q.output q.end r
written_by e = record { wrote = ap (λ (x : ReplayResult). x.output) e; ended = ap (λ (x : ReplayResult). x.end) e }

-- ---- lines that are refused

-- the line that stands first is taken so
line_first : (app : Shape) (k : ℕ) (s : List Open) (line bytes : List ℕ) (others : List (List ℕ)) → lines_of bytes ≡ line ∷ others
    → replay_from app (taken_by app) k s (lines_of bytes) ≡ replay_line app k s (taken_by app k s line) (λ next. replay_from app (taken_by app) (suc k) next others)
line_first app k s line bytes others e = ap (replay_from app (taken_by app) k s) e

pub line_refused : (app : Shape) (k : ℕ) (s : List Open) (line : List ℕ) (feed : Bool) (end : ReplayEnd) (bytes rest held : Option (List ℕ))
    → BeginsWith line feed bytes rest → ((next : Rest) → replay_line app k s (taken_by app k s line) next ≡ ended_replay s end) → Ends app k s bytes held held end
line_refused app k s line feed end bytes rest held b h =
    let P : List ℕ → Type 0 = λ bs. HasWritten [] end (replay_from app (taken_by app) k s (lines_of bs)) in
    record {
      output = [];
      sank = nothing_put held;
      is = if_some P bytes
          (λ bs e. let t = begun_by line feed bs rest (subst (λ o. BeginsWith line feed o rest) e b) in written_by (line_first app k s line bs (lines_of t.rest) t.lines ∙ h (λ next. replay_from app (taken_by app) (suc k) next (lines_of t.rest))));
    }

unspoken : (app : Shape) (k : ℕ) (s : List Open) (line : List ℕ) → spoken_line line ≡ None → taken_by app k s line ≡ None
unspoken app k s line e = ap (taken_line app k s) (line_by-spoken app.items line None e)

size_within : (line bytes : List ℕ) → first_size line bytes ≤ suc (length line)
size_within line bytes = omega arith

-- so few lines stand before it that a line has no form where the transcript goes past its limit in it
bad_unspoken : (lines : LinesState) (line bytes : List ℕ) → HasFewBehind lines → (spoken_line line ≡ None) ⊎ (TRANSCRIPT_LIMIT < lines.behind + first_size line bytes) → spoken_line line ≡ None
bad_unspoken lines line bytes short bad = elim bad as (λ _. spoken_line line ≡ None) [
  | inl none ↦ none
  | inr past ↦
      let few = short.0 in let small = short.1 in let size = size_within line bytes in
      spoken-over line (omega (arith, few, small, size, past))
]

pub bad_refused : (app : Shape) (s : List Open) (lines : LinesState) (bytes held : Option (List ℕ)) → HasFewBehind lines → IfSome bytes (BeginsBad lines.behind) → Ends app lines.number s bytes held held (bad_line lines.number)
bad_refused app s lines bytes held short bad =
    let k = lines.number in
    let P : List ℕ → Type 0 = λ bs. HasWritten [] (bad_line k) (replay_from app (taken_by app) k s (lines_of bs)) in
    let of_bad : (bs : List ℕ) → BeginsBad lines.behind bs → P bs =
    λ bs b. written_by (line_first app k s b.line bs b.others b.first ∙ ap (λ o. replay_line app k s o (λ next. replay_from app (taken_by app) (suc k) next b.others)) (unspoken app k s b.line (bad_unspoken lines b.line bs short b.bad))) in
    record { output = []; sank = nothing_put held; is = if_some P bytes (λ bs e. of_bad bs (subst (λ o. IfSome o (BeginsBad lines.behind)) e bad)) }

-- ---- a line that is answered

front_begun : (app : Shape) (k : ℕ) (s : List Open) (line bytes : List ℕ) (others : List (List ℕ)) (answered : Answered) (count : ℕ) → lines_of bytes ≡ line ∷ others → GoesOn app k s (taken_by app k s line) answered
    → (more : List ℕ) × ((replay_from app (taken_by app) k s (lines_of bytes)).output ≡ take count answered.output ++ more)
front_begun app k s line bytes others answered count e g =
    let out = answered.output in
    let later = (replay_from app (taken_by app) (suc k) (g.after ∷ []) others).output in (
      drop count out ++ later,
      ap (λ (r : ReplayResult). r.output) (line_first app k s line bytes others e ∙ g.is (λ next. replay_from app (taken_by app) (suc k) next others)) ∙ ap (λ l. l ++ later) (sym (take-append-drop count out))
          ∙ append_assoc (take count out) (drop count out) later,
    )

-- what of a line was said
pub said_by_bytes : (app : Shape) (k : ℕ) (s : List Open) (line : List ℕ) (said : Line) → spoken_line line ≡ Some said → taken_by app k s line ≡ taken_line app k s (numbered_line app.items said)
said_by_bytes app k s line said e = ap (taken_line app k s) (line_by-spoken app.items line (Some said) e)

module _ (app : Shape) (s : List Open) (said : Line) (lines rest : LinesState) (left left_after : Option (List ℕ)) (b : BeginsSaying said lines rest left left_after) where
  pub answer_put : (answered : Answered) (before after : Option (List ℕ)) (t : Turn) → GoesOn app lines.number s (taken_by app lines.number s b.line) answered → PutsAnswer answered before after t
      → TurnGives app s lines rest (ports_of left left_after before after) t
  answer_put answered before after (turn.Goes code) g p = record {
    within = g.within;
    next = g.after;
    holds = subst (HoldsOpen app g.after) (sym p.0) g.holds;
    short = subst (λ k. IsShort k g.after) (sym b.number) g.short;
    output = answered.output;
    sank = p.1;
    line = b.line;
    feed = b.feed;
    begins = b.begins;
    few = spoken-short b.line said b.says;
    number = b.number;
    behind = b.behind;
    ended = b.ended;
    is = g.is;
  }
  answer_put answered before after (turn.Ends answer.WriteFault) g p =
      let k = lines.number in
      let P : List ℕ → Type 0 = λ bs. (more : List ℕ) × ((replay_from app (taken_by app) k s (lines_of bs)).output ≡ take p.count answered.output ++ more) in (
        record {
          output = take p.count answered.output;
          sank = p.front;
          front = if_some P (coming lines left)
              (λ bs e. let t = begun_by b.line b.feed bs (coming rest left_after) (subst (λ o. BeginsWith b.line b.feed o (coming rest left_after)) e b.begins) in front_begun app k s b.line bs (lines_of t.rest) answered p.count t.lines g);
        },
        tt,
      )
  answer_put answered before after (turn.Ends answer.Done) g p = absurd p
  answer_put answered before after (turn.Ends (answer.BadLine j)) g p = absurd p
  answer_put answered before after (turn.Ends (answer.NoSession j)) g p = absurd p
  answer_put answered before after (turn.Ends answer.ReadFault) g p = absurd p
  answer_put answered before after (turn.Ends answer.Memory) g p = absurd p

-- ---- a fault

all_front : (app : Shape) (k : ℕ) (s : List Open) (bytes : Option (List ℕ)) → IfSome bytes (λ bs. (more : List ℕ) × ((replay_from app (taken_by app) k s (lines_of bs)).output ≡ [] ++ more))
all_front app k s None = tt
all_front app k s (Some bs) = ((replay_from app (taken_by app) k s (lines_of bs)).output, refl)

-- nothing more was written
pub stops_here : (app : Shape) (k : ℕ) (s : List Open) (bytes before after : Option (List ℕ)) → after ≡ before → Stops app k s bytes before after
stops_here app k s bytes before after e = record { output = []; sank = e ∙ nothing_put before; front = all_front app k s bytes }

no_feed_byte : (b : ℕ) (more : List (List ℕ)) → (b == 10) ≡ false → (if b == 10 then [] ∷ more else on_first b more) ≡ on_first b more
no_feed_byte b more e = ap (λ t. if t then [] ∷ more else on_first b more) e

pub whole_lines-feed : (line rest : List ℕ) → HasNoFeed line → whole_lines (line ++ 10 ∷ rest) ≡ line ∷ whole_lines rest
whole_lines-feed [] rest h = refl
whole_lines-feed (b ∷ line) rest h = no_feed_byte b _ h.0 ∙ ap (on_first b) (whole_lines-feed line rest h.1)

pub whole_lines-none : (line : List ℕ) → HasNoFeed line → whole_lines line ≡ []
whole_lines-none [] h = refl
whole_lines-none (b ∷ line) h = no_feed_byte b _ h.0 ∙ ap (on_first b) (whole_lines-none line h.1)

front_left : (app : Shape) (k : ℕ) (s : List Open) (bytes : List ℕ) (left : Option (List ℕ)) (begun : List ℕ) → HasNoFeed begun → Some bytes ≡ prepend_known begun left → IsOutputOfFront app k s bytes left []
front_left app k s bytes None begun h e = absurd cc
front_left app k s bytes (Some rest) begun h e =
    let parted : bytes ≡ begun ++ rest = cc in
    record { front = begun; rest = rest; parted = parted; is_left = refl; is = written_by (ap (so_far_from app (taken_by app) k s) (whole_lines-none begun h)) }

-- the source failed within a line
pub fault_leaves : (app : Shape) (k : ℕ) (s : List Open) (most : ℕ) (bytes left held : Option (List ℕ)) → Breaks most bytes left → ReplayGives app k s bytes left held held answer.ReadFault
fault_leaves app k s most bytes left held b = (
  stops_here app k s bytes held held refl,
  record { output = []; sank = nothing_put held; is = if_some (λ bs. IsOutputOfFront app k s bs left []) bytes (λ bs e. front_left app k s bs left b.begun b.no_feed (sym e ∙ b.is)) },
)

-- ---- the end of the input

ended_output : (app : Shape) (s : Open) → ending app s.journal ≡ None → event_output app End s ≡ over_text s.label (codes "ended")
ended_output app s none =
    let course = journal_result app s.journal in
    let quiet : added_texts app s.label s.journal (with_event End s).journal ≡ [] = added_texts-more app s.label s.journal End ∙ ap (λ o. effect_texts app s.label (effect_from app course o End)) none in
    let over : ending app (with_event End s).journal ≡ Some ended = ap (λ (c : JournalResult). c.ending) (journal_result-more app s.journal End ∙ ap (λ o. result_after course course.items (effect_from app course o End)) none) in
    ap (λ l. send_lines s.label l ++ over_line s.label (ending app (with_event End s).journal)) quiet ∙ ap (over_line s.label) over

closed_is : (app : Shape) (k : ℕ) (s : List Open) (bytes : Option (List ℕ)) (output : List ℕ) → IsAtEnd bytes → HasWritten output done (closing_replay app s)
    → IfSome bytes (λ bs. HasWritten output done (replay_from app (taken_by app) k s (lines_of bs)))
closed_is app k s None output none e = tt
closed_is app k s (Some bs) output none e = subst (λ l. HasWritten output done (replay_from app (taken_by app) k s (lines_of l))) (sym none) e

closed_front : (app : Shape) (k : ℕ) (s : List Open) (bytes : Option (List ℕ)) (output : List ℕ) (count : ℕ) → IsAtEnd bytes → HasWritten output done (closing_replay app s)
    → IfSome bytes (λ bs. (more : List ℕ) × ((replay_from app (taken_by app) k s (lines_of bs)).output ≡ take count output ++ more))
closed_front app k s None output count none e = tt
closed_front app k s (Some bs) output count none e = (drop count output, ap (λ (r : ReplayResult). r.output) (ap (λ l. replay_from app (taken_by app) k s (lines_of l)) none) ∙ e.wrote ∙ sym (take-append-drop count output))

closed_open : (app : Shape) (k : ℕ) (s : Open) → IsShort k s → s.full ≡ false → ending app s.journal ≡ None → HasWritten (over_text s.label (codes "ended")) done (closing_replay app (s ∷ []))
closed_open app k s short full none =
    let open_ : is_over app s ≡ false = ap (λ b. b || is_some (ending app s.journal)) full ∙ ap is_some none in
    record {
      wrote = append-nil (closing_step (is_over app s) app s).output ∙ ap (λ b. (closing_step b app s).output) open_ ∙ ap (λ b. (step_by b app End s).output) (not_full k s short) ∙ ended_output app s none;
      ended = refl;
    }

closed_over : (app : Shape) (s : Open) → s.full ≡ false → ending app s.journal ≡ Some budget_spent → HasWritten [] done (closing_replay app (s ∷ []))
closed_over app s full e =
    let over : is_over app s ≡ true = ap (λ b. b || is_some (ending app s.journal)) full ∙ ap is_some e in
    record { wrote = append-nil (closing_step (is_over app s) app s).output ∙ ap (λ b. (closing_step b app s).output) over; ended = refl }

-- nothing is put at the end
quiet_end : (app : Shape) (k : ℕ) (s : List Open) (bytes left before after : Option (List ℕ)) (a : ReplayAnswer) → IsAtEnd bytes → IsAtEnd left
    → HasWritten [] done (closing_replay app s) → (after ≡ before) × (a ≡ answer.Done) → ReplayGives app k s bytes left before after a
quiet_end app k s bytes left before after a none end e c =
    subst (ReplayGives app k s bytes left before after) (sym c.1) (record { output = []; sank = c.0 ∙ nothing_put before; is = closed_is app k s bytes [] none e }, end)

over_end : (app : Shape) (k : ℕ) (s : Open) (bytes left before after : Option (List ℕ)) (a : ReplayAnswer) → IsAtEnd bytes → IsAtEnd left
    → HasWritten (over_text s.label (codes "ended")) done (closing_replay app (s ∷ [])) → PutsOver s.label before after a → ReplayGives app k (s ∷ []) bytes left before after a
over_end app k s bytes left before after answer.Done none end e p =
    (record { output = over_text s.label (codes "ended"); sank = p; is = closed_is app k (s ∷ []) bytes (over_text s.label (codes "ended")) none e }, end)
over_end app k s bytes left before after answer.WriteFault none end e p = record {
  output = take p.count (over_text s.label (codes "ended"));
  sank = p.front;
  front = closed_front app k (s ∷ []) bytes (over_text s.label (codes "ended")) p.count none e;
}
over_end app k s bytes left before after answer.Memory none end e p = stops_here app k (s ∷ []) bytes before after p
over_end app k s bytes left before after (answer.BadLine j) none end e p = absurd p
over_end app k s bytes left before after (answer.NoSession j) none end e p = absurd p
over_end app k s bytes left before after answer.ReadFault none end e p = absurd p

stage_end : (app : Shape) (k : ℕ) (s : Open) (at : Stage) (bytes left before after : Option (List ℕ)) (a : ReplayAnswer) → IsAtEnd bytes → IsAtEnd left
    → IsShort k s → s.full ≡ false → EndsSo at (ending app s.journal) → ClosesAt at s.label before after a → ReplayGives app k (s ∷ []) bytes left before after a
stage_end app k s stage.New bytes left before after a none end short full e c = absurd e
stage_end app k s stage.Open bytes left before after a none end short full e c = over_end app k s bytes left before after a none end (closed_open app k s short full e) c
stage_end app k s stage.Over bytes left before after a none end short full e c = quiet_end app k (s ∷ []) bytes left before after a none end (closed_over app s full e) c

pub close_gives : (app : Shape) (k : ℕ) (s : List Open) (code : Option OpenSession) (bytes left before after : Option (List ℕ)) (a : ReplayAnswer)
    → HoldsSession app k s code → IsAtEnd bytes → IsAtEnd left → Closes code before after a → ReplayGives app k s bytes left before after a
close_gives app k [] None bytes left before after a holds none end c = quiet_end app k [] bytes left before after a none end (record { wrote = refl; ended = refl }) c
close_gives app k [] (Some code) bytes left before after a holds none end c = absurd holds
close_gives app k (s ∷ []) None bytes left before after a holds none end c = absurd holds
close_gives app k (s ∷ []) (Some code) bytes left before after a holds none end c =
    stage_end app k s code.flusher.stage bytes left before after a none end holds.1 holds.0.goes_on holds.0.ending (subst (λ l. ClosesAt code.flusher.stage l before after a) holds.0.label c)
close_gives app k (s ∷ other ∷ more) code bytes left before after a holds none end c = absurd holds

-- ---- a whole turn

ends_with : (app : Shape) (k : ℕ) (s : List Open) (bytes before after : Option (List ℕ)) (end : ReplayEnd) → after ≡ before → Ends app k s bytes before before end → Ends app k s bytes before after end
ends_with app k s bytes before after end e h = record { output = h.output; sank = e ∙ h.sank; is = h.is }

turn_at : (app : Shape) (s : List Open) (lines rest : LinesState) (left left_after before after : Option (List ℕ)) (t : Turn) (a : ReplayAnswer) → t ≡ turn.Ends a → ReplayGives app lines.number s (coming lines left) left_after before after a
    → NotEnded lines.ended a → TurnGives app s lines rest (ports_of left left_after before after) t
turn_at app s lines rest left left_after before after t a e h n = subst (TurnGives app s lines rest (ports_of left left_after before after)) (sym e) (h, n)

pub taken_turn : (app : Shape) (s : List Open) (said : Line) (lines rest : LinesState) (left left_after before after : Option (List ℕ)) (t : Result Taken Memory) (answered : Turn) → (b : BeginsSaying said lines rest left left_after)
    → IfOk t (TakesLine app lines.number s (taken_by app lines.number s b.line)) → AnswersTaken t lines.number before after answered → TurnGives app s lines rest (ports_of left left_after before after) answered
taken_turn app s said lines rest left left_after before after (Ok (taken.Answered a)) answered b takes gives = answer_put app s said lines rest left left_after b a before after answered takes gives
taken_turn app s said lines rest left left_after before after (Ok taken.Bad) answered b takes gives =
    let k = lines.number in
    turn_at app s lines rest left left_after before after answered (answer.BadLine k) gives.1
    (ends_with app k s (coming lines left) before after (bad_line k) gives.0 (line_refused app k s b.line b.feed (bad_line k) (coming lines left) (coming rest left_after) before b.begins takes)) tt
taken_turn app s said lines rest left left_after before after (Ok taken.NoSession) answered b takes gives =
    let k = lines.number in
    turn_at app s lines rest left left_after before after answered (answer.NoSession k) gives.1
    (ends_with app k s (coming lines left) before after (no_session k) gives.0 (line_refused app k s b.line b.feed (no_session k) (coming lines left) (coming rest left_after) before b.begins takes)) tt
taken_turn app s said lines rest left left_after before after (Err x) answered b takes gives =
    turn_at app s lines rest left left_after before after answered answer.Memory gives.1 (stops_here app lines.number s (coming lines left) before after gives.0) tt

-- what closes the sessions is no fault of the source
pub closes_open : (code : Option OpenSession) (ended_ : Bool) (before after : Option (List ℕ)) (a : ReplayAnswer) → Closes code before after a → NotEnded ended_ a
closes_open code ended_ before after answer.Done c = tt
closes_open code ended_ before after (answer.BadLine j) c = tt
closes_open code ended_ before after (answer.NoSession j) c = tt
closes_open None ended_ before after answer.ReadFault c = let e = c.1 in absurd cc
closes_open (Some code) ended_ before after answer.ReadFault c = absurd (no_fault code.flusher.stage code.label c)
  where
    no_fault : (at : Stage) (label : List ℕ) → ClosesAt at label before after answer.ReadFault → ⊥
    no_fault stage.Open label c = c
    no_fault stage.New label c = let e = c.1 in absurd cc
    no_fault stage.Over label c = let e = c.1 in absurd cc
closes_open code ended_ before after answer.WriteFault c = tt
closes_open code ended_ before after answer.Memory c = tt

pub closed_unread : (code : Option OpenSession) (before after : Option (List ℕ)) (a : ReplayAnswer) → Closes code before after a → a ≢ answer.ReadFault
closed_unread code before after a c is =
    let open_ : true ≡ false = subst (NotEnded true) is (closes_open code true before after a c) in
    cc

pub ends_as : (a b : ReplayAnswer) → turn.Ends a ≡ turn.Ends b → a ≡ b
ends_as a b e = cc
