-- What the derivations of a session leave of its readers: as many as before, and alive or not those that aren't expressions.
use Rattle.std.proofs.Common.{◌≡◌, ◌≢◌, inl, inr, ◌<◌, ℕ, zero, suc, ◌+◌, Bool, true, false, List, [], ◌∷◌, length, map, Some, refl, sym, ap, ◌∙◌, subst, arith}
use Rattle.std.specs.Prelude.{not, ◌&&◌, ◌||◌, slice_get, slice_set, unwrap_or, if◌then◌else◌}
use Rattle.std.proofs.lemmas.Bool.{false≢true}
use Rattle.std.proofs.lemmas.Bool.Decides.{eqb_tells}
use Rattle.rx_value.specs.declared.outcome.Outcome.{Outcome}
use Rattle.rx_value.specs.declared.source.SourceValue.{SourceValue}
use Rattle.rx_value.specs.Value.{source_eq}
use Rattle.app_tree.specs.declared.term.Read.{Read}
use Rattle.app_tree.specs.Current.{value_at}
use Rattle.app_tree.specs.Tree.{Tree, Node, Shape}
use Rattle.app_tree.specs.Numbering.{readers, reader, is_evaluated}
use Rattle.app_tree.specs.Cover.{keyed_outcome, reads_in}
use Rattle.app_tree.specs.Trace.{Every}
use Rattle.app_tree.specs.Fresh.{is_among, is_expression_at}
use Rattle.app_laws.specs.Orderly.{ReadsBelow, bound_of, IsOrderly}
use Rattle.app_laws.specs.Proper.{IsProper}
use Rattle.session_model.specs.Standing.{Dependence, never_run, stale, alive, is_live, dependence_by, KeptReader, KeptSession, first_kept, kept_reader}
use Rattle.session_laws.proofs.Moving.{not_both}
use Rattle.session_laws.proofs.Proper.{orderly as orderly_of}
use Rattle.session_laws.proofs.States.{get_mapped}
use Rattle.session_laws.proofs.Walking.{expression_of}
use Rattle.session_steps.specs.Keeping.{lives, attempt, keys_attempt, with_kept, reader_after, shown_outcome, IsAlike}
use Rattle.session_steps.specs.Bringing as bringing
use Rattle.session_steps.specs.Bringing.{Aim, running, Brings, Begins}
use Rattle.session_steps.specs.Acting.{marked_dependence, marked_kept, changed_kept, write_kept, begin_kept, finish_kept, reached_in, more_reached, reads_kept, term_attempt, term_kept, Comes, ComesUntil}
use Rattle.session_steps.proofs.BodiesOnce.{alike_lives, IsBelow, wanted_below}
use Rattle.session_steps.proofs.BodiesTerms.{term_wants_below}
use Rattle.session_steps.proofs.KeptReaders.{kept_here, kept_there, kept_size}
use Rattle.react_session.specs.Marking.{is_marked_by, marked_among, marked_in_kept, marked_by_write}

-- ---- as many readers as before

pub brings_size : (app : Shape) (aim : Aim) (bodies : List ℕ) (n : ℕ) (s s' : KeptSession) → Brings app aim bodies n s s'
    → length s'.readers ≡ length s.readers
brings_size app _ _ _ _ _ (Brings.living n s l) = refl
brings_size app _ _ _ _ _ (Brings.dead bodies n s s' d b) = brings_size app running bodies n s s' b
brings_size app _ _ _ _ _ (Brings.ends n s s' none a) =
    sym a.size ∙ kept_size s n (reader_after app s n (attempt app s n) (attempt app s n).outcome)
brings_size app _ _ _ _ _ (Brings.hits n c xs s s' cached none values a) =
    sym a.size ∙ kept_size s n (reader_after app s n (keys_attempt app s n c) (shown_outcome (reader app n) (keyed_outcome app n xs)))
brings_size app _ _ _ _ _ (Brings.waits earlier later n m s s' s'' w b c) =
    brings_size app running later n s' s'' c ∙ brings_size app bringing.reading earlier m s s' b

pub begins_size : (app : Shape) (aim : Aim) (bodies : List ℕ) (n : ℕ) (s s' : KeptSession) → Begins app aim bodies n s s'
    → length s'.readers ≡ length s.readers
begins_size app _ _ _ _ _ (Begins.none aim n s s' l) = l.size
begins_size app _ _ _ _ _ (Begins.dead bodies n s s' d b) = begins_size app running bodies n s s' b
begins_size app _ _ _ _ _ (Begins.lost n s s' w l) = l.size
begins_size app _ _ _ _ _ (Begins.within bodies n m s s' w b) = begins_size app bringing.reading bodies m s s' b
begins_size app _ _ _ _ _ (Begins.later earlier more n m s s' s'' w b c) =
    begins_size app running more n s' s'' c ∙ brings_size app bringing.reading earlier m s s' b

reads_size : (app : Shape) (n : ℕ) (rs : List Read) (s : KeptSession) → length (reads_kept app n rs s).readers ≡ length s.readers
reads_size app n [] s = refl
reads_size app n (r ∷ rs) s =
    let k : KeptReader = record (kept_reader s n) { dependence = more_reached (reached_in app s r) (kept_reader s n).dependence } in
    reads_size app n rs (with_kept n k s) ∙ kept_size s n k

term_size : (app : Shape) (n : ℕ) (isolated : Bool) (t : Tree) (s : KeptSession) → length (term_kept app n isolated t s).readers ≡ length s.readers
term_size app n true t s = refl
term_size app n false t s = reads_size app n (term_attempt app s t).outside s

pub comes_size : (app : Shape) (n : ℕ) (isolated : Bool) (t : Tree) (bodies : List ℕ) (s s' : KeptSession) (outcome : Outcome)
    → Comes app n isolated t bodies s s' outcome → length s'.readers ≡ length s.readers
comes_size app n isolated t _ _ _ _ (Comes.ends s s' none a) = sym a.size ∙ term_size app n isolated t s
comes_size app n isolated t _ _ _ _ (Comes.waits earlier later m s s' s'' x w b c) =
    comes_size app n isolated t later s' s'' x c ∙ brings_size app bringing.reading earlier m s s' b

pub until_size : (app : Shape) (n : ℕ) (t : Tree) (bodies : List ℕ) (s s' : KeptSession) → ComesUntil app n t bodies s s'
    → length s'.readers ≡ length s.readers
until_size app n t _ _ _ (ComesUntil.none s s' l) = l.size
until_size app n t _ _ _ (ComesUntil.within bodies m s s' w b) = begins_size app bringing.reading bodies m s s' b
until_size app n t _ _ _ (ComesUntil.later earlier more m s s' s'' w b c) =
    until_size app n t more s' s'' c ∙ brings_size app bringing.reading earlier m s s' b

map_size : (s : ℕ) (rs : List KeptReader) → length (map (marked_kept s) rs) ≡ length rs
map_size s [] = refl
map_size s (r ∷ rs) = ap suc (map_size s rs)

pub write_size : (s : ℕ) (x : SourceValue) (session after : KeptSession) → IsAlike (write_kept s x session) after
    → length after.readers ≡ length session.readers
write_size s x session after alike = sym alike.size ∙ by (source_eq (value_at session.values s) x)
  where
    by : (b : Bool) → length (if b then session else changed_kept s x session).readers ≡ length session.readers
    by true = refl
    by false = map_size s session.readers

-- ---- a reader that is no expression is alive as before, but for the one that is run

put_there : (s s' : KeptSession) (n m : ℕ) (r : KeptReader) → IsAlike (with_kept n r s) s' → m ≢ n → lives s' m ≡ lives s m
put_there s s' n m r a apart =
    alike_lives (with_kept n r s) s' a m ∙ ap (λ (k : KeptReader). is_live k.dependence) (kept_there s n m r apart)

put_here : (s s' : KeptSession) (n : ℕ) (r : KeptReader) → IsAlike (with_kept n r s) s' → n < length s.readers → lives s' n ≡ is_live r.dependence
put_here s s' n r a within =
    alike_lives (with_kept n r s) s' a n ∙ ap (λ (k : KeptReader). is_live k.dependence) (kept_here s n r within)

module _ (app : Shape) (orderly : IsOrderly app) (m : ℕ) (none : is_expression_at (reader app m) ≡ false) where
  unlike : (e : ℕ) → is_expression_at (reader app e) ≡ true → m ≢ e
  unlike e is q = not_both (subst (λ k. is_expression_at (reader app k) ≡ true) (sym q) is) none

  brought : (aim : Aim) (bodies : List ℕ) (n : ℕ) (s s' : KeptSession) → Brings app aim bodies n s s' → (i : Node) → reader app n ≡ Some i
      → m ≢ n → lives s' m ≡ lives s m
  brought _ _ _ _ _ (Brings.living n s l) i is apart = refl
  brought _ _ _ _ _ (Brings.dead bodies n s s' d b) i is apart = brought running bodies n s s' b i is apart
  brought _ _ _ _ _ (Brings.ends n s s' w a) i is apart =
      put_there s s' n m (reader_after app s n (attempt app s n) (attempt app s n).outcome) a apart
  brought _ _ _ _ _ (Brings.hits n c xs s s' cached w values a) i is apart =
      put_there s s' n m (reader_after app s n (keys_attempt app s n c) (shown_outcome (reader app n) (keyed_outcome app n xs))) a apart
  brought _ _ _ _ _ (Brings.waits earlier later n k s s' s'' w b c) i is apart =
      let low : IsBelow app orderly (bound_of app n i) k = wanted_below app orderly s n i is k w in
      let e = expression_of app k low.1 in
      brought running later n s' s'' c i is apart ∙ brought bringing.reading earlier k s s' b e.0 e.1 (unlike k low.1)

pub brings_others : (app : Shape) → IsProper app → (aim : Aim) (bodies : List ℕ) (n : ℕ) (i : Node) (s s' : KeptSession)
    → reader app n ≡ Some i → is_evaluated i ≡ true → Brings app aim bodies n s s'
    → (m : ℕ) → m ≢ n → is_expression_at (reader app m) ≡ false → lives s' m ≡ lives s m
brings_others app proper aim bodies n i s s' is evaluated b m apart none =
    brought app (orderly_of app proper) m none aim bodies n s s' b i is apart

brought_here : (app : Shape) (aim : Aim) (bodies : List ℕ) (n : ℕ) (s s' : KeptSession) → Brings app aim bodies n s s' → n < length s.readers
    → lives s' n ≡ true
brought_here app _ _ _ _ _ (Brings.living n s l) within = l
brought_here app _ _ _ _ _ (Brings.dead bodies n s s' d b) within = brought_here app running bodies n s s' b within
brought_here app _ _ _ _ _ (Brings.ends n s s' w a) within =
    put_here s s' n (reader_after app s n (attempt app s n) (attempt app s n).outcome) a within
brought_here app _ _ _ _ _ (Brings.hits n c xs s s' cached w values a) within =
    put_here s s' n (reader_after app s n (keys_attempt app s n c) (shown_outcome (reader app n) (keyed_outcome app n xs))) a within
brought_here app _ _ _ _ _ (Brings.waits earlier later n k s s' s'' w b c) within =
    brought_here app running later n s' s'' c (subst (λ z. n < z) (sym (brings_size app bringing.reading earlier k s s' b)) within)

-- the one that is run is alive
pub brings_lives : (app : Shape) (bodies : List ℕ) (n : ℕ) (s s' : KeptSession) → n < length s.readers
    → Brings app running bodies n s s' → lives s' n ≡ true
brings_lives app bodies n s s' within b = brought_here app running bodies n s s' b within

-- ---- a term

more_lives : (sources : List ℕ) (d : Dependence) → is_live (more_reached sources d) ≡ is_live d
more_lives sources never_run = refl
more_lives sources stale = refl
more_lives sources (alive others) = refl

-- one that is alive as before is put in
set_lives : (rs : List KeptReader) (n m : ℕ) (r : KeptReader)
    → is_live r.dependence ≡ is_live (unwrap_or (slice_get rs n) first_kept).dependence
    → is_live (unwrap_or (slice_get (slice_set rs n r) m) first_kept).dependence ≡ is_live (unwrap_or (slice_get rs m) first_kept).dependence
set_lives [] n m r h = refl
set_lives (k ∷ rs) zero zero r h = h
set_lives (k ∷ rs) zero (suc m) r h = refl
set_lives (k ∷ rs) (suc n) zero r h = refl
set_lives (k ∷ rs) (suc n) (suc m) r h = set_lives rs n m r h

reads_lives : (app : Shape) (n : ℕ) (rs : List Read) (s : KeptSession) (m : ℕ) → lives (reads_kept app n rs s) m ≡ lives s m
reads_lives app n [] s m = refl
reads_lives app n (r ∷ rs) s m =
    let k : KeptReader = record (kept_reader s n) { dependence = more_reached (reached_in app s r) (kept_reader s n).dependence } in
    reads_lives app n rs (with_kept n k s) m
    ∙ set_lives s.readers n m k (more_lives (reached_in app s r) (kept_reader s n).dependence)

term_lives : (app : Shape) (n : ℕ) (isolated : Bool) (t : Tree) (s : KeptSession) (m : ℕ) → lives (term_kept app n isolated t s) m ≡ lives s m
term_lives app n true t s m = refl
term_lives app n false t s m = reads_lives app n (term_attempt app s t).outside s m

module _ (app : Shape) (orderly : IsOrderly app) (n : ℕ) (isolated : Bool) (t : Tree)
    (reads : Every (ReadsBelow app (length (readers app))) (reads_in t)) (m : ℕ) (none : is_expression_at (reader app m) ≡ false) where
  come : (bodies : List ℕ) (s s' : KeptSession) (outcome : Outcome) → Comes app n isolated t bodies s s' outcome → lives s' m ≡ lives s m
  come _ _ _ _ (Comes.ends s s' w a) = alike_lives (term_kept app n isolated t s) s' a m ∙ term_lives app n isolated t s m
  come _ _ _ _ (Comes.waits earlier later k s s' s'' x w b c) =
      let low : IsBelow app orderly (length (readers app)) k = term_wants_below app orderly n isolated t reads s k w in
      let e = expression_of app k low.1 in
      come later s' s'' x c ∙ brought app orderly m none bringing.reading earlier k s s' b e.0 e.1 (unlike app orderly m none k low.1)

-- a term leaves the observer that runs as alive as it was, and every other reader that is no expression
pub comes_others : (app : Shape) → IsProper app → (n : ℕ) (isolated : Bool) (t : Tree) (bodies : List ℕ) (s s' : KeptSession)
    (outcome : Outcome) → is_expression_at (reader app n) ≡ false → Every (ReadsBelow app (length (readers app))) (reads_in t)
    → Comes app n isolated t bodies s s' outcome
    → (m : ℕ) → is_expression_at (reader app m) ≡ false → lives s' m ≡ lives s m
comes_others app proper n isolated t bodies s s' outcome observer reads comes m none =
    come app (orderly_of app proper) n isolated t reads m none bodies s s' outcome comes

-- ---- a write

marked_lives : (s : ℕ) (d : Dependence) → is_live (marked_dependence s d) ≡ (is_live d && not (is_marked_by s d))
marked_lives s never_run = refl
marked_lives s stale = refl
marked_lives s (alive sources) = by (is_among s sources)
  where
    by : (b : Bool) → is_live (dependence_by b sources) ≡ not b
    by true = refl
    by false = refl

-- the numbers that are listed start with that of the first reader
marked_below : (s k m : ℕ) (rs : List KeptReader) → m < k → is_among m (marked_among s k rs) ≡ false
marked_below s k m [] low = refl
marked_below s k m (r ∷ rs) low = by (is_marked_by s r.dependence) (marked_below s (suc k) m rs (omega (low, arith)))
  where
    by : (b : Bool) → is_among m (marked_among s (suc k) rs) ≡ false
        → is_among m (if b then k ∷ marked_among s (suc k) rs else marked_among s (suc k) rs) ≡ false
    by false h = h
    by true h = elim (eqb_tells k m) [
      | inl q ↦ let e = q.1 in absurd (omega (low, e, arith))
      | inr q ↦ ap (λ b. b || is_among m (marked_among s (suc k) rs)) q.0 ∙ h
    ]

marked_at : (s k j m : ℕ) (rs : List KeptReader) → m ≡ k + j
    → is_among m (marked_among s k rs) ≡ is_marked_by s (unwrap_or (slice_get rs j) first_kept).dependence
marked_at s k j m [] at = refl
marked_at s k zero m (r ∷ rs) at = by (is_marked_by s r.dependence)
  where
    by : (b : Bool) → is_among m (if b then k ∷ marked_among s (suc k) rs else marked_among s (suc k) rs) ≡ b
    by false = marked_below s (suc k) m rs (omega (at, arith))
    by true = elim (eqb_tells k m) [
      | inl q ↦ ap (λ b. b || is_among m (marked_among s (suc k) rs)) q.0
      | inr q ↦ let d = q.1 in absurd (d (omega (at, arith)))
    ]
marked_at s k (suc j) m (r ∷ rs) at = by (is_marked_by s r.dependence) (marked_at s (suc k) j m rs (omega (at, arith)))
  where
    by : (b : Bool) → is_among m (marked_among s (suc k) rs) ≡ is_marked_by s (unwrap_or (slice_get rs j) first_kept).dependence
        → is_among m (if b then k ∷ marked_among s (suc k) rs else marked_among s (suc k) rs)
        ≡ is_marked_by s (unwrap_or (slice_get rs j) first_kept).dependence
    by false h = h
    by true h = elim (eqb_tells k m) [
      | inl q ↦ let e = q.1 in absurd (omega (at, e, arith))
      | inr q ↦ ap (λ b. b || is_among m (marked_among s (suc k) rs)) q.0 ∙ h
    ]

and_true : (b : Bool) → b ≡ (b && true)
and_true true = refl
and_true false = refl

-- a write marks those that it lists
pub write_lives : (s : ℕ) (x : SourceValue) (session after : KeptSession) → IsAlike (write_kept s x session) after
    → (m : ℕ) → lives after m ≡ (lives session m && not (is_among m (marked_by_write s x session)))
write_lives s x session after alike m =
    alike_lives (write_kept s x session) after alike m ∙ by (source_eq (value_at session.values s) x)
  where
    by : (b : Bool) → lives (if b then session else changed_kept s x session) m
        ≡ (lives session m && not (is_among m (if b then [] else marked_in_kept s session)))
    by true = and_true (lives session m)
    by false =
        ap (λ (k : KeptReader). is_live k.dependence) (get_mapped (marked_kept s) first_kept session.readers m)
        ∙ marked_lives s (kept_reader session m).dependence
        ∙ ap (λ b. lives session m && not b) (sym (marked_at s zero m m session.readers (omega arith)))

marked_in : (s k m : ℕ) (rs : List KeptReader) → is_among m (marked_among s k rs) ≡ true → m < k + length rs
marked_in s k m [] h = absurd (false≢true h)
marked_in s k m (r ∷ rs) h = by (is_marked_by s r.dependence) (marked_in s (suc k) m rs) h
  where
    more : m < suc k + length rs → m < k + suc (length rs)
    more low = omega (low, arith)

    by : (b : Bool) → (is_among m (marked_among s (suc k) rs) ≡ true → m < suc k + length rs)
        → is_among m (if b then k ∷ marked_among s (suc k) rs else marked_among s (suc k) rs) ≡ true → m < k + suc (length rs)
    by false rest among = more (rest among)
    by true rest among = elim (eqb_tells k m) [
      | inl q ↦ let e = q.1 in omega (e, arith)
      | inr q ↦ more (rest (sym (ap (λ b. b || is_among m (marked_among s (suc k) rs)) q.0) ∙ among))
    ]

-- it lists readers alone
pub marked_within : (s : ℕ) (x : SourceValue) (session : KeptSession) (m : ℕ)
    → is_among m (marked_by_write s x session) ≡ true → m < length session.readers
marked_within s x session m among = by (source_eq (value_at session.values s) x) among
  where
    by : (b : Bool) → is_among m (if b then [] else marked_in_kept s session) ≡ true → m < length session.readers
    by true h = absurd (false≢true h)
    by false h = let low : m < zero + length session.readers = marked_in s zero m session.readers h in omega (low, arith)

-- ---- the beginning and the end of an observer's run

-- an observer that begins is alive, and every other reader as before
pub begin_lives : (n : ℕ) (session after : KeptSession) → n < length session.readers → IsAlike (begin_kept n session) after
    → lives after n ≡ true
begin_lives n session after within alike =
    alike_lives (begin_kept n session) after alike n
    ∙ ap (λ (k : KeptReader). is_live k.dependence) (kept_here session n (record (kept_reader session n) { dependence = alive [] }) within)

pub begin_others : (n : ℕ) (session after : KeptSession) → IsAlike (begin_kept n session) after
    → (m : ℕ) → m ≢ n → lives after m ≡ lives session m
begin_others n session after alike m apart =
    alike_lives (begin_kept n session) after alike m
    ∙ ap (λ (k : KeptReader). is_live k.dependence) (kept_there session n m (record (kept_reader session n) { dependence = alive [] }) apart)

pub finish_others : (session after : KeptSession) → IsAlike (finish_kept session) after
    → (m : ℕ) → lives after m ≡ lives session m
finish_others session after alike m = alike_lives (finish_kept session) after alike m
