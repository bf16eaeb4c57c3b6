-- A longer journal goes on where the shorter one has come to.
use Rattle.std.proofs.Common.{◌≡◌, ℕ, List, [], ◌∷◌, ◌++◌, length, drop, refl, ap, ◌∙◌, append-nil}
use Rattle.app_tree.specs.Tree.{Shape}
use Rattle.session_model.specs.declared.event.Event.{Event}
use Rattle.session_model.specs.Alone.{first_result, after_event, texts_of_event, answers, journal_result}
use Rattle.session_model.specs.Transcript.{added_texts}
use Rattle.session_laws.proofs.Expected.{result_from-append, answers_from-append}

pub journal_result-more : (app : Shape) (journal : List Event) (event : Event) → journal_result app (journal ++ event ∷ []) ≡ after_event app (journal_result app journal) event
journal_result-more app journal event = result_from-append app (first_result app) journal (event ∷ [])

pub answers-more : (app : Shape) (label : List ℕ) (journal : List Event) (event : Event)
    → answers app label (journal ++ event ∷ []) ≡ answers app label journal ++ texts_of_event app label (journal_result app journal) event
answers-more app label journal event =
    answers_from-append app label (first_result app) journal (event ∷ []) ∙ ap (λ l. answers app label journal ++ l) (append-nil (texts_of_event app label (journal_result app journal) event))

pub drop-front : {A : Type 0} (front back : List A) → drop (length front) (front ++ back) ≡ back
drop-front [] back = refl
drop-front (x ∷ front) back = drop-front front back

-- what one more event adds to the answers are its texts
pub added_texts-more : (app : Shape) (label : List ℕ) (journal : List Event) (event : Event) → added_texts app label journal (journal ++ event ∷ []) ≡ texts_of_event app label (journal_result app journal) event
added_texts-more app label journal event =
    ap (drop (length (answers app label journal))) (answers-more app label journal event) ∙ drop-front (answers app label journal) (texts_of_event app label (journal_result app journal) event)
