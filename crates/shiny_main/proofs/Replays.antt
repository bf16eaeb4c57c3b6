-- A replay that has come so far.
use Rattle.std.proofs.Common.{◌≡◌, ℕ, suc, ◌≤◌, Bool, true, false, List, [], ◌∷◌, ◌++◌, length, Option, Some, None, IfSome, refl, sym, ap, ◌∙◌, subst, arith, append_assoc, length-append}
use Rattle.std.specs.Prelude.{not}
use Rattle.std.specs.Io.KnownBytes.{prepend_known, append_known, IsAtEnd}
use Rattle.rx_ports.specs.Faults.{Rose}
use Rattle.rx_ports.proofs.Contents.{append_known-append}
use Rattle.app_tree.specs.Tree.{Shape}
use Rattle.session_model.specs.Lines.{lines_of}
use Rattle.session_model.specs.Transcript.{Open, ReplayEnd, done, bad_line, no_session, ReplayResult, after_output, replay_from}
use Rattle.session_model.specs.TakenLines.{taken_by}
use Rattle.shiny_main.specs.declared.session.OpenSession.{OpenSession}
use Rattle.shiny_main.specs.declared.transcript.Replayed.{Replayed as ReplayAnswer}
use Rattle.shiny_main.specs.declared.transcript.Replayed.TheVariants as answer
use Rattle.shiny_main.specs.inner.Pieces.{with_feed, BeginsWith}
use Rattle.shiny_main.specs.inner.Lines.{LinesState, at_start, coming, IsOfSource}
use Rattle.shiny_main.specs.SoFar.{HasWritten, whole_lines, so_far_from}
use Rattle.shiny_main.specs.inner.Replaying.{HoldsSession, Ends, Stops, IsOutputOfFront, Leaves, TurnGoesOn, ReplayGives, NotEnded, HasFewBehind}
use Rattle.shiny_main.proofs.LineReads.{begun_by, if_some}
use Rattle.shiny_main.proofs.Turns.{nothing_put, whole_lines-feed}
use Rattle.session_model.specs.declared.limits.TheConstants.{LINE_LIMIT}

-- a count that rose after it had not fallen rose from the first
pub rose_since : (first before now : ℕ) → first ≤ before → Rose before now → Rose first now
rose_since first before now later rose = omega (arith, later, rose)

-- the bytes that are gone are whole lines, and this is their output
pub record IsWhole (app : Shape) (k : ℕ) (s : List Open) (output bytes rest : List ℕ) : Type 0 where
  pub front : List ℕ
  pub parted : bytes ≡ front ++ rest
  pub so_far : (more : List ℕ) → so_far_from app (taken_by app) 1 [] (whole_lines (front ++ more)) ≡ after_output output (so_far_from app (taken_by app) k s (whole_lines more))

-- of these bytes the replay has come to those that are to come, with this output
pub record Came (app : Shape) (lines : LinesState) (s : List Open) (output bytes : List ℕ) (now : Option (List ℕ)) : Type 0 where
  pub rest : List ℕ
  pub come : now ≡ Some rest
  pub is : replay_from app (taken_by app) 1 [] (lines_of bytes) ≡ after_output output (replay_from app (taken_by app) lines.number s (lines_of rest))
  pub whole : lines.ended ≡ false → IsWhole app lines.number s output bytes rest

pub record Replaying (app : Shape) (code : Option OpenSession) (lines : LinesState) (first left before held : Option (List ℕ)) (read_before read wrote_before wrote : ℕ) : Type 0 where
  pub s : List Open
  pub holds : HoldsSession app lines.number s code
  pub short : HasFewBehind lines
  pub of_source : IsOfSource lines left
  pub output : List ℕ
  pub sank : held ≡ append_known before output
  pub came : (bytes : List ℕ) → first ≡ Some bytes → Came app lines s output bytes (coming lines left)
  pub read_later : read_before ≤ read
  pub write_later : wrote_before ≤ wrote

came_first : (app : Shape) (bytes : List ℕ) (left : Option (List ℕ)) → left ≡ Some bytes → Came app at_start [] [] bytes (coming at_start left)
came_first app bytes left e = record {
  rest = bytes;
  come = ap (prepend_known []) e;
  is = refl;
  whole = λ open_. record { front = []; parted = refl; so_far = λ more. refl };
}

pub replaying_first : (app : Shape) (left before : Option (List ℕ)) (read wrote : ℕ) → Replaying app None at_start left left before before read read wrote wrote
replaying_first app left before read wrote = record {
  s = [];
  holds = tt;
  short = (omega arith, omega arith);
  of_source = λ e. absurd cc;
  output = [];
  sank = nothing_put before;
  came = λ bytes e. came_first app bytes left e;
  read_later = omega arith;
  write_later = omega arith;
}

after_both : (first more : List ℕ) (r : ReplayResult) → after_output first (after_output more r) ≡ after_output (first ++ more) r
after_both first more r = ap (λ o. let x : ReplayResult = record { output = o; sessions = r.sessions; end = r.end } in x) (sym (append_assoc first more r.output))

-- behind what was written before
behind : {whole rest : ReplayResult} → (first output : List ℕ) (end : ReplayEnd) → whole ≡ after_output first rest → HasWritten output end rest → HasWritten (first ++ output) end whole
behind first output end e h = record { wrote = ap (λ (x : ReplayResult). x.output) e ∙ ap (λ l. first ++ l) h.wrote; ended = ap (λ (x : ReplayResult). x.end) e ∙ h.ended }

fed : (feed : Bool) → not feed ≡ false → feed ≡ true
fed true e = refl
fed false e = cc

unfed : (feed : Bool) → not feed ≡ true → feed ≡ false
unfed true e = cc
unfed false e = refl

module _ (app : Shape) (s : List Open) (code : OpenSession) (lines lines' : LinesState) (left left' held after : Option (List ℕ)) (w : TurnGoesOn app s code lines lines' (coming lines left) (coming lines' left') held after) where
  whole_more : (output bytes rest rest' : List ℕ) → IsWhole app lines.number s output bytes rest → rest ≡ with_feed w.line w.feed ++ rest' → w.feed ≡ true → IsWhole app lines'.number (w.next ∷ []) (output ++ w.output) bytes rest'
  whole_more output bytes rest rest' h parted feed =
      let fed_line : with_feed w.line w.feed ≡ w.line ++ 10 ∷ [] = ap (with_feed w.line) feed in
      let joined : (more : List ℕ) → (h.front ++ (w.line ++ 10 ∷ [])) ++ more ≡ h.front ++ (w.line ++ 10 ∷ more) =
      λ more. append_assoc h.front (w.line ++ 10 ∷ []) more ∙ ap (λ l. h.front ++ l) (append_assoc w.line (10 ∷ []) more) in
      record {
        front = h.front ++ (w.line ++ 10 ∷ []);
        parted = h.parted ∙ ap (λ l. h.front ++ l) (parted ∙ ap (λ l. l ++ rest') fed_line) ∙ sym (append_assoc h.front (w.line ++ 10 ∷ []) rest');
        so_far = λ more. ap (λ l. so_far_from app (taken_by app) 1 [] (whole_lines l)) (joined more) ∙ h.so_far (w.line ++ 10 ∷ more)
            ∙ ap (λ l. after_output output (so_far_from app (taken_by app) lines.number s l)) (whole_lines-feed w.line more w.begins.no_feed)
            ∙ ap (after_output output) (w.is (λ next. so_far_from app (taken_by app) (suc lines.number) next (whole_lines more)))
            ∙ after_both output w.output (so_far_from app (taken_by app) (suc lines.number) (w.next ∷ []) (whole_lines more))
            ∙ ap (λ k. after_output (output ++ w.output) (so_far_from app (taken_by app) k (w.next ∷ []) (whole_lines more))) (sym w.number);
      }

  -- a reader that has come to the end of its source reads no further line
  still_open : (rest rest' : List ℕ) → IsOfSource lines left → coming lines left ≡ Some rest → lines_of rest ≡ w.line ∷ lines_of rest' → lines.ended ≡ false
  still_open rest rest' of_source come e = by lines.ended refl
    where
      by : (b : Bool) → lines.ended ≡ b → b ≡ false
      by false h = refl
      by true h =
          let none : rest ≡ [] = subst IsAtEnd come (of_source h) in
          let lines_none : [] ≡ w.line ∷ lines_of rest' = sym (ap lines_of none) ∙ e in
          absurd cc

  came_more : (output bytes : List ℕ) → IsOfSource lines left → Came app lines s output bytes (coming lines left) → Came app lines' (w.next ∷ []) (output ++ w.output) bytes (coming lines' left')
  came_more output bytes of_source c =
      let t = begun_by w.line w.feed c.rest (coming lines' left') (subst (λ o. BeginsWith w.line w.feed o (coming lines' left')) c.come w.begins) in
      record {
        rest = t.rest;
        come = t.come;
        is = c.is ∙ ap (λ l. after_output output (replay_from app (taken_by app) lines.number s l)) t.lines
            ∙ ap (after_output output) (w.is (λ next. replay_from app (taken_by app) (suc lines.number) next (lines_of t.rest)))
            ∙ after_both output w.output (replay_from app (taken_by app) (suc lines.number) (w.next ∷ []) (lines_of t.rest))
            ∙ ap (λ k. after_output (output ++ w.output) (replay_from app (taken_by app) k (w.next ∷ []) (lines_of t.rest))) (sym w.number);
        whole = λ open_. whole_more output bytes c.rest t.rest (c.whole (still_open c.rest t.rest of_source c.come t.lines)) t.whole (fed w.feed (sym w.ended ∙ open_));
      }

  still_of : IsOfSource lines' left'
  still_of e = by w.feed (unfed w.feed (sym w.ended ∙ e)) w.begins
    where
      by : (feed : Bool) → feed ≡ false → BeginsWith w.line feed (coming lines left) (coming lines' left') → IsAtEnd (coming lines' left')
      by true f b = absurd cc
      by false f b = b.last.1

  size_at_most : (line : List ℕ) (feed : Bool) → length line ≤ LINE_LIMIT → length (with_feed line feed) ≤ suc LINE_LIMIT
  size_at_most line true few = omega (arith, few, length-append line (10 ∷ []))
  size_at_most line false few = omega (arith, few)

  still_short : HasFewBehind lines → HasFewBehind lines'
  still_short h =
      let size = size_at_most w.line w.feed w.few in
      (omega (arith, w.within, w.number), omega (arith, h.1, w.number, w.behind, size))

  pub replaying_more : (code_before : Option OpenSession) (first before : Option (List ℕ)) (read_before read read' wrote_before wrote wrote' : ℕ) → (r : Replaying app code_before lines first left before held read_before read wrote_before wrote) → r.s ≡ s
      → read ≤ read' → wrote ≤ wrote' → Replaying app (Some code) lines' first left' before after read_before read' wrote_before wrote'
  replaying_more code_before first before read_before read read' wrote_before wrote wrote' r same read_later write_later = record {
    s = w.next ∷ [];
    holds = (w.holds, w.short);
    short = still_short r.short;
    of_source = still_of;
    output = r.output ++ w.output;
    sank = w.sank ∙ ap (λ o. append_known o w.output) r.sank ∙ append_known-append before r.output w.output;
    came = λ bytes e. came_more r.output bytes r.of_source (subst (λ o. Came app lines o r.output bytes (coming lines left)) same (r.came bytes e));
    read_later = omega (arith, r.read_later, read_later);
    write_later = omega (arith, r.write_later, write_later);
  }

module _ (app : Shape) (code : Option OpenSession) (lines : LinesState) (first left before held after : Option (List ℕ)) (read_before read wrote_before wrote : ℕ) (r : Replaying app code lines first left before held read_before read wrote_before wrote) where
  sank_behind : (output : List ℕ) → after ≡ append_known held output → after ≡ append_known before (r.output ++ output)
  sank_behind output sank = sank ∙ ap (λ o. append_known o output) r.sank ∙ append_known-append before r.output output

  -- what holds of the bytes that are to come, where the first are told
  on_rest : (P : List ℕ → Type 0) (bytes : List ℕ) → (e : first ≡ Some bytes) → IfSome (coming lines left) P → P (r.came bytes e).rest
  on_rest P bytes e h = subst (λ o. IfSome o P) (r.came bytes e).come h

  ends_whole : (end : ReplayEnd) → Ends app lines.number r.s (coming lines left) held after end → Ends app 1 [] first before after end
  ends_whole end h =
      let P : List ℕ → Type 0 = λ bs. HasWritten h.output end (replay_from app (taken_by app) lines.number r.s (lines_of bs)) in
      let Q : List ℕ → Type 0 = λ bs. HasWritten (r.output ++ h.output) end (replay_from app (taken_by app) 1 [] (lines_of bs)) in
      record {
        output = r.output ++ h.output;
        sank = sank_behind h.output h.sank;
        is = if_some Q first (λ bs e. behind r.output h.output end (r.came bs e).is (on_rest P bs e h.is));
      }

  stops_whole : Stops app lines.number r.s (coming lines left) held after → Stops app 1 [] first before after
  stops_whole h =
      let P : List ℕ → Type 0 = λ bs. (more : List ℕ) × ((replay_from app (taken_by app) lines.number r.s (lines_of bs)).output ≡ h.output ++ more) in
      let Q : List ℕ → Type 0 = λ bs. (more : List ℕ) × ((replay_from app (taken_by app) 1 [] (lines_of bs)).output ≡ (r.output ++ h.output) ++ more) in
      record {
        output = r.output ++ h.output;
        sank = sank_behind h.output h.sank;
        front = if_some Q first
            (λ bs e. let f = on_rest P bs e h.front in (f.0, ap (λ (x : ReplayResult). x.output) (r.came bs e).is ∙ ap (λ o. r.output ++ o) f.1 ∙ sym (append_assoc r.output h.output f.0)));
      }

  read_of : (bytes : List ℕ) (left_after : Option (List ℕ)) (output rest : List ℕ) → IsWhole app lines.number r.s r.output bytes rest → IsOutputOfFront app lines.number r.s rest left_after output → IsOutputOfFront app 1 [] bytes left_after (r.output ++ output)
  read_of bytes left_after output rest h x = record {
    front = h.front ++ x.front;
    rest = x.rest;
    parted = h.parted ∙ ap (λ l. h.front ++ l) x.parted ∙ sym (append_assoc h.front x.front x.rest);
    is_left = x.is_left;
    is = behind r.output output done (h.so_far x.front) x.is;
  }

  leaves_whole : (left_after : Option (List ℕ)) → lines.ended ≡ false → Leaves app lines.number r.s (coming lines left) left_after held after → Leaves app 1 [] first left_after before after
  leaves_whole left_after open_ h =
      let P : List ℕ → Type 0 = λ bs. IsOutputOfFront app lines.number r.s bs left_after h.output in
      let Q : List ℕ → Type 0 = λ bs. IsOutputOfFront app 1 [] bs left_after (r.output ++ h.output) in
      record {
        output = r.output ++ h.output;
        sank = sank_behind h.output h.sank;
        is = if_some Q first (λ bs e. read_of bs left_after h.output (r.came bs e).rest ((r.came bs e).whole open_) (on_rest P bs e h.is));
      }

  pub ends_gives : (left_after : Option (List ℕ)) (a : ReplayAnswer) → ReplayGives app lines.number r.s (coming lines left) left_after held after a → NotEnded lines.ended a → ReplayGives app 1 [] first left_after before after a
  ends_gives left_after answer.Done h n = (ends_whole done h.0, h.1)
  ends_gives left_after (answer.BadLine j) h n = ends_whole (bad_line j) h
  ends_gives left_after (answer.NoSession j) h n = ends_whole (no_session j) h
  ends_gives left_after answer.ReadFault h n = (stops_whole h.0, leaves_whole left_after n h.1)
  ends_gives left_after answer.WriteFault h n = stops_whole h
  ends_gives left_after answer.Memory h n = stops_whole h
