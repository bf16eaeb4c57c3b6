-- What is written for a session: the answers to its journal, and then why it is over.
use Rattle.std.proofs.Common.{◌≡◌, ℕ, suc, Bool, true, false, List, [], ◌∷◌, ◌++◌, Option, Some, None, bytes_eq, refl, sym, ◌∙◌, ap, subst, append_assoc, append-nil}
use Rattle.std.specs.Prelude.{◌||◌, is_some, option_map, unwrap_or, codes, if◌then◌else◌}
use Rattle.app_tree.specs.Tree.{Shape}
use Rattle.app_tree.specs.Trace.{Every}
use Rattle.session_model.specs.declared.event.Event.{Event}
use Rattle.session_model.specs.declared.event.Event.TheVariants.{End}
use Rattle.session_model.specs.Alone.{Ending, ended, JournalResult, after_event, answers, journal_result, ending}
use Rattle.session_model.specs.WrittenLines.{send_lines, over_text}
use Rattle.session_model.specs.Journal.{is_full}
use Rattle.session_model.specs.Transcript.{line_of, Open, new_session, is_over, session_of, with_session, StepResult, step_by, step, done, line_taken, ReplayResult, after_output, closing_step, closing_replay, replay_after_line, added_texts, with_event, ending_text, over_line, line_unless_past, replay_from}
use Rattle.session_laws.specs.Apart.{is_said_to, lines_for, session_list, last_line, over_reason, IsOutputFor}
use Rattle.session_laws.proofs.Journals.{journal_result-more, answers-more, added_texts-more}
use Rattle.session_laws.proofs.OneLine.{equal, itself, label_kept, ending_lines, IsTaken, is_taken, moved_one}

-- ---- a step

-- what was written for a session so far
abbrev written : Shape → List ℕ → Open → List ℕ
written app label s = send_lines label (answers app label s.journal) ++ last_line label (over_reason app s)

send_lines-append : (label : List ℕ) (xs ys : List (List ℕ)) → send_lines label (xs ++ ys) ≡ send_lines label xs ++ send_lines label ys
send_lines-append label [] ys = refl
send_lines-append label (x ∷ xs) ys =
    let line : List ℕ = label ++ codes " send " ++ x ++ codes "\n" in
    ap (λ l. line ++ l) (send_lines-append label xs ys) ∙ sym (append_assoc line (send_lines label xs) (send_lines label ys))

neither : (full : Bool) (end : Option Ending) → (full || is_some end) ≡ false → (full ≡ false) × (end ≡ None)
neither true end e = absurd cc
neither false None e = (refl, refl)
neither false (Some end) e = absurd cc

reason_by : (app : Shape) (s : Open) (full : Bool) (end : Option Ending) → s.full ≡ full → ending app s.journal ≡ end → over_reason app s ≡ (if full then Some (codes "journal") else option_map ending_text end)
reason_by app s full end f e = ap (λ b. if b then Some (codes "journal") else option_map ending_text (ending app s.journal)) f ∙ ap (λ o. if full then Some (codes "journal") else option_map ending_text o) e

module _ (app : Shape) (event : Event) (s : Open) (live : is_over app s ≡ false) where
  -- for a session that isn't over the answers alone were written
  written_open : written app s.label s ≡ send_lines s.label (answers app s.label s.journal)
  written_open =
      let facts = neither s.full (ending app s.journal) live in
      ap (λ o. send_lines s.label (answers app s.label s.journal) ++ last_line s.label o) (reason_by app s false None facts.0 facts.1) ∙ append-nil (send_lines s.label (answers app s.label s.journal))

  -- and the answers to the longer journal are those and what is added
  longer_answers : answers app s.label (with_event event s).journal ≡ answers app s.label s.journal ++ added_texts app s.label s.journal (with_event event s).journal
  longer_answers = answers-more app s.label s.journal event ∙ ap (λ l. answers app s.label s.journal ++ l) (sym (added_texts-more app s.label s.journal event))

  step_written : (full : Bool) → written app s.label s ++ (step_by full app event s).output ≡ written app s.label (step_by full app event s).session
  step_written true = ap (λ l. l ++ over_text s.label (codes "journal")) written_open
  step_written false =
      let facts = neither s.full (ending app s.journal) live in
      let so_far : List ℕ = send_lines s.label (answers app s.label s.journal) in
      let added : List (List ℕ) = added_texts app s.label s.journal (with_event event s).journal in
      let last : List ℕ = over_line s.label (ending app (with_event event s).journal) in
      let reason : over_reason app (with_event event s) ≡ option_map ending_text (ending app (with_event event s).journal) = reason_by app (with_event event s) false (ending app (with_event event s).journal) facts.0 refl in
      ap (λ l. l ++ (send_lines s.label added ++ last)) written_open
      ∙ sym (append_assoc so_far (send_lines s.label added) last)
      ∙ ap (λ l. l ++ last) (sym (send_lines-append s.label (answers app s.label s.journal) added) ∙ ap (send_lines s.label) (sym longer_answers))
      ∙ ap (λ l. send_lines s.label (answers app s.label (with_event event s).journal) ++ l) (ending_lines s.label (ending app (with_event event s).journal) ∙ ap (last_line s.label) (sym reason))

moves : (app : Shape) (event : Event) (s : Open) (label : List ℕ) → s.label ≡ label → is_over app s ≡ false → written app label s ++ (step app event s).output ≡ written app label (step app event s).session
moves app event s label own live =
    subst (λ (l : List ℕ). written app l s ++ (step app event s).output ≡ written app l (step app event s).session) own (step_written app event s live (is_full s.journal))

-- ---- the end

-- where the link of an open session ends, the session is over
ended_by : (so_far : JournalResult) (app : Shape) → so_far.ending ≡ None → (after_event app so_far End).ending ≡ Some ended
ended_by so_far app e = rw e refl

abbrev IsReason : Option (List ℕ) → Type 0
IsReason o = (reason : List ℕ) × (o ≡ Some reason)

reason_of_over : (app : Shape) (s : Open) (full : Bool) (end : Option Ending) → s.full ≡ full → ending app s.journal ≡ end → (full || is_some end) ≡ true → IsReason (over_reason app s)
reason_of_over app s true end f e over = (codes "journal", reason_by app s true end f e)
reason_of_over app s false None f e over = absurd cc
reason_of_over app s false (Some end) f e over = (ending_text end, reason_by app s false (Some end) f e)

closed_reason : (app : Shape) (s : Open) (over : Bool) → is_over app s ≡ over → IsReason (over_reason app (closing_step over app s).session)
closed_reason app s true over = reason_of_over app s s.full (ending app s.journal) refl refl over
closed_reason app s false over = by (is_full s.journal)
  where
    by : (full : Bool) → IsReason (over_reason app (step_by full app End s).session)
    by true = (codes "journal", refl)
    by false =
        let facts = neither s.full (ending app s.journal) over in
        let end : ending app (with_event End s).journal ≡ Some ended = ap (λ (r : JournalResult). r.ending) (journal_result-more app s.journal End) ∙ ended_by (journal_result app s.journal) app facts.1 in
        (ending_text ended, reason_by app (with_event End s) false (Some ended) facts.0 end)

closed_written : (app : Shape) (s : Open) (label : List ℕ) → s.label ≡ label → (over : Bool) → is_over app s ≡ over
    → written app label s ++ (closing_step over app s).output ≡ written app label (closing_step over app s).session
closed_written app s label own true over = append-nil (written app label s)
closed_written app s label own false over = moves app End s label own over

-- ---- the lines of one session

-- what was written so far and by the lines is what the journal of the session that they leave is answered, and it is over
record IsAnsweredFrom (app : Shape) (label : List ℕ) (so_far : List ℕ) (r : ReplayResult) : Type 0 where
  last : Option Open
  is : r.sessions ≡ session_list last
  answered : IsOutputFor app label last (so_far ++ r.output)

abbrev written_for : Shape → List ℕ → Option Open → List ℕ
written_for app label None = []
written_for app label (Some s) = written app label s

abbrev IsOwn : List ℕ → Option Open → Type 0
IsOwn label there = (s : Open) → there ≡ Some s → s.label ≡ label

answered_at_end : (app : Shape) (label : List ℕ) (there : Option Open) → IsOwn label there → IsAnsweredFrom app label (written_for app label there) (closing_replay app (session_list there))
answered_at_end app label None own = record { last = None; is = refl; answered = refl }
answered_at_end app label (Some s) own =
    let closed : StepResult = closing_step (is_over app s) app s in
    let reason = closed_reason app s (is_over app s) refl in
    record {
      last = Some closed.session;
      is = refl;
      answered = record {
        reason = reason.0;
        over = reason.1;
        lines = ap (λ l. written app label s ++ l) (append-nil closed.output) ∙ closed_written app s label (own s refl) (is_over app s) refl
            ∙ ap (λ o. send_lines label (answers app label closed.session.journal) ++ last_line label o) reason.1;
      };
    }

-- what was written for the session that takes the next line
was_written : (app : Shape) (label : List ℕ) (there : Option Open) (s : Open) → IsOwn label there → unwrap_or (session_of label (session_list there)) (new_session label) ≡ s → written_for app label there ≡ written app label s
was_written app label None s own was = ap (written app label) was
was_written app label (Some o) s own was =
    let same : o ≡ s = ap (λ b. unwrap_or (if b then Some o else None) (new_session label)) (sym (ap (bytes_eq label) (own o refl) ∙ itself label)) ∙ was in
    ap (written app label) same

answered_behind : (app : Shape) (label so_far more : List ℕ) (r : ReplayResult) → IsAnsweredFrom app label (so_far ++ more) r → IsAnsweredFrom app label so_far (after_output more r)
answered_behind app label so_far more r t = record { last = t.last; is = t.is; answered = subst (λ (l : List ℕ). IsOutputFor app label t.last l) (append_assoc so_far more r.output) t.answered }

answered_lines : (app : Shape) (label : List ℕ) (k : ℕ) (there : Option Open) (lines : List (List ℕ)) → IsOwn label there → Every (λ line. is_said_to label (line_of app.items line) ≡ true) lines
    → (replay_from app (line_unless_past app None) k (session_list there) lines).end ≡ done → IsAnsweredFrom app label (written_for app label there) (replay_from app (line_unless_past app None) k (session_list there) lines)
answered_lines app label k there [] own every e = answered_at_end app label there own
answered_lines app label k there (line ∷ more) own every e =
    go (is_taken app k (session_list there) next (line_of app.items line) e) (λ s. answered_lines app label (suc k) (Some s) more)
  where
    next : List Open → ReplayResult
    next l = replay_from app (line_unless_past app None) (suc k) l more

    go : IsTaken app k (session_list there) (line_of app.items line)
        → ((s : Open) → IsOwn label (Some s) → Every (λ l. is_said_to label (line_of app.items l) ≡ true) more → (next (s ∷ [])).end ≡ done → IsAnsweredFrom app label (written app label s) (next (s ∷ [])))
        → IsAnsweredFrom app label (written_for app label there) (replay_after_line app (session_list there) (line_taken app k (session_list there) (line_of app.items line)) next)
    go t later =
        let same : t.label ≡ label = sym (equal label t.label (sym (t.said_to label) ∙ every.0)) in
        let mine : t.session.label ≡ label = t.own ∙ same in
        let after : StepResult = step app t.event t.session in
        let kept : after.session.label ≡ label = label_kept app t.event t.session ∙ mine in
        let behind : with_session after.session (session_list there) ≡ after.session ∷ [] = moved_one after.session there (λ o is. own o is ∙ sym kept) in
        let goes_on : replay_after_line app (session_list there) (line_taken app k (session_list there) (line_of app.items line)) next ≡ after_output after.output (next (after.session ∷ [])) =
        ap (λ x. replay_after_line app (session_list there) x next) t.is ∙ ap (λ l. after_output after.output (next l)) behind in
        let end : (next (after.session ∷ [])).end ≡ done = ap (λ (r : ReplayResult). r.end) (sym goes_on) ∙ e in
        let was : unwrap_or (session_of label (session_list there)) (new_session label) ≡ t.session = subst (λ (l : List ℕ). unwrap_or (session_of l (session_list there)) (new_session l) ≡ t.session) same t.was in
        let so_far : written_for app label there ++ after.output ≡ written app label after.session =
        ap (λ l. l ++ after.output) (was_written app label there t.session own was) ∙ moves app t.event t.session label mine t.not_over in
        let rest : IsAnsweredFrom app label (written app label after.session) (next (after.session ∷ [])) =
        later after.session (λ o is. let it : after.session ≡ o = cc in ap (λ (x : Open). x.label) (sym it) ∙ kept) every.1 end in
        subst (λ (r : ReplayResult). IsAnsweredFrom app label (written_for app label there) r) (sym goes_on)
        (answered_behind app label (written_for app label there) after.output (next (after.session ∷ []))
        (subst (λ (l : List ℕ). IsAnsweredFrom app label l (next (after.session ∷ []))) (sym so_far) rest))

-- ---- among other lines

own_lines : (app : Shape) (label : List ℕ) (lines : List (List ℕ)) → Every (λ line. is_said_to label (line_of app.items line) ≡ true) (lines_for app label lines)
own_lines app label [] = tt
own_lines app label (line ∷ more) = decide (is_said_to label (line_of app.items line)) refl (own_lines app label more)
  where
    decide : (b : Bool) → is_said_to label (line_of app.items line) ≡ b → Every (λ l. is_said_to label (line_of app.items l) ≡ true) (lines_for app label more)
        → Every (λ l. is_said_to label (line_of app.items l) ≡ true) (lines_for app label (line ∷ more))
    decide true b rest = rw b (b, rest)
    decide false b rest = rw b rest

just_one : (a b : Option Open) → session_list a ≡ session_list b → a ≡ b
just_one None None e = refl
just_one None (Some b) e = absurd cc
just_one (Some a) None e = absurd cc
just_one (Some a) (Some b) e = let same : a ≡ b = cc in ap Some same

-- the lines of a label alone write what the journal of the session that they leave is answered
pub alone_answered : (app : Shape) (label : List ℕ) (lines : List (List ℕ)) (r : ReplayResult) (last : Option Open) → replay_from app (line_unless_past app None) 1 [] (lines_for app label lines) ≡ r
    → r.end ≡ done → r.sessions ≡ session_list last → IsOutputFor app label last r.output
alone_answered app label lines r last is end left =
    let t = answered_lines app label 1 None (lines_for app label lines) none_own (own_lines app label lines) (ap (λ (x : ReplayResult). x.end) is ∙ end) in
    let same : t.last ≡ last = just_one t.last last (sym t.is ∙ ap (λ (x : ReplayResult). x.sessions) is ∙ left) in
    subst (λ (o : Option Open). IsOutputFor app label o r.output) same (subst (λ (x : ReplayResult). IsOutputFor app label t.last x.output) is t.answered)
  where
    none_own : IsOwn label None
    none_own s e = absurd cc
