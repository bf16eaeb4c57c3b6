-- The next line of a transcript, from the bytes up to its line feed.
use Rattle.std.proofs.Common.{◌≡◌, ℕ, suc, ◌+◌, ◌-◌, ◌<◌, ◌≤◌, Bool, true, false, List, [], ◌∷◌, ◌++◌, length, Option, Some, None, IfSome, refl, sym, ap, ◌∙◌, subst, arith, append_assoc, append-nil, length-append, inl, inr}
use Rattle.std.specs.Prelude.{◌⊎◌, ◌==◌, not, min, nat_lt, if◌then◌else◌}
use Rattle.std.proofs.lemmas.Bool.Decides.{nat_tests}
use Rattle.std.specs.Io.KnownBytes.{prepend_known, IsAtEnd}
use Rattle.session_model.specs.Lines.{HasNoFeed, with_byte, lines_of}
use Rattle.session_laws.proofs.TranscriptLines.{lines_of-feed, lines_of-last, lines_of-begun}
use Rattle.shiny_main.specs.declared.lines.LineRead.{LineRead}
use Rattle.shiny_main.specs.declared.lines.LineRead.TheVariants as read
use Rattle.shiny_main.specs.inner.Spoken.{spoken_line}
use Rattle.shiny_main.specs.inner.Pieces.{with_feed, IsLast, BeginsWith, BeginsLonger, Breaks}
use Rattle.shiny_main.specs.inner.Lines.{LinesState, coming, first_size, BeginsBad, NextGives, TellGives}
use Rattle.shiny_main.proofs.SpokenLines.{spoken-over}
use Rattle.session_model.specs.declared.limits.TheConstants.{LINE_LIMIT, TRANSCRIPT_LIMIT}

-- ---- known bytes

-- known bytes that begin with a line, and those behind it
pub record IsBegun (line : List ℕ) (feed : Bool) (bytes : List ℕ) (new : Option (List ℕ)) : Type 0 where
  pub rest : List ℕ
  pub come : new ≡ Some rest
  pub whole : bytes ≡ with_feed line feed ++ rest
  pub lines : lines_of bytes ≡ line ∷ lines_of rest

begun_lines : (line rest : List ℕ) (feed : Bool) → HasNoFeed line → ((feed ≡ false) → (0 < length line) × (rest ≡ [])) → lines_of (with_feed line feed ++ rest) ≡ line ∷ lines_of rest
begun_lines line rest true h last = ap lines_of (append_assoc line (10 ∷ []) rest) ∙ lines_of-feed line rest h
begun_lines [] rest false h last = let none = (last refl).0 in absurd (omega (arith, none))
begun_lines (b ∷ line) rest false h last =
    let end = (last refl).1 in
    ap (λ l. lines_of ((b ∷ line) ++ l)) end ∙ ap lines_of (append-nil (b ∷ line)) ∙ lines_of-last b line h ∙ ap (λ l. (b ∷ line) ∷ lines_of l) (sym end)

pub begun_by : (line : List ℕ) (feed : Bool) (bytes : List ℕ) (new : Option (List ℕ)) → BeginsWith line feed (Some bytes) new → IsBegun line feed bytes new
begun_by line feed bytes None b = let e = b.is in absurd cc
begun_by line true bytes (Some rest) b =
    let e = b.is in
    let whole : bytes ≡ with_feed line true ++ rest = cc in
    record { rest = rest; come = refl; whole = whole; lines = ap lines_of whole ∙ begun_lines line rest true b.no_feed (λ f. absurd cc) }
begun_by line false bytes (Some rest) b =
    let e = b.is in
    let whole : bytes ≡ with_feed line false ++ rest = cc in
    record { rest = rest; come = refl; whole = whole; lines = ap lines_of whole ∙ begun_lines line rest false b.no_feed (λ f. b.last) }

pub if_some : {A : Type 0} (P : A → Type 0) (o : Option A) → ((a : A) → o ≡ Some a → P a) → IfSome o P
if_some P None h = tt
if_some P (Some a) h = h a refl

-- ---- a bad line

at_most : (n a b : ℕ) → n ≤ a → n ≤ b → n ≤ min a b
at_most n a b h k = omega (arith, h, k)

-- the first line is no longer than all
total_one : (b : ℕ) (feed : Bool) (lines : List (List ℕ)) (n : ℕ) → ((line : List ℕ) (others : List (List ℕ)) → lines ≡ line ∷ others → length line ≤ n)
    → (line : List ℕ) (others : List (List ℕ)) → (if feed then [] ∷ lines else with_byte b lines) ≡ line ∷ others → length line ≤ suc n
total_one b true lines n h line others e = let same : [] ≡ line = cc in subst (λ l. length l ≤ suc n) same (omega arith)
total_one b false [] n h line others e = let same : b ∷ [] ≡ line = cc in subst (λ l. length l ≤ suc n) same (omega arith)
total_one b false (first ∷ more) n h line others e =
    let few = h first more refl in
    let same : b ∷ first ≡ line = cc in
    subst (λ l. length l ≤ suc n) same (omega (arith, few))

first_within : (bytes line : List ℕ) (others : List (List ℕ)) → lines_of bytes ≡ line ∷ others → length line ≤ length bytes
first_within [] line others e = absurd cc
first_within (b ∷ bytes) line others e = total_one b (b == 10) (lines_of bytes) (length bytes) (first_within bytes) line others e

feed_size : (line : List ℕ) (feed : Bool) (rest : List ℕ) → length (with_feed line feed) ≤ first_size line (with_feed line feed ++ rest)
feed_size line true rest = at_most (length (with_feed line true)) (suc (length line)) (length (with_feed line true ++ rest)) (omega (arith, length-append line (10 ∷ []))) (omega (arith, length-append (with_feed line true) rest))
feed_size line false rest = at_most (length line) (suc (length line)) (length (line ++ rest)) (omega arith) (omega (arith, length-append line rest))

pub begins_bad : (line : List ℕ) (feed : Bool) (behind : ℕ) (old new : Option (List ℕ)) → BeginsWith line feed old new → (spoken_line line ≡ None) ⊎ (TRANSCRIPT_LIMIT < behind + length (with_feed line feed))
    → IfSome old (BeginsBad behind)
begins_bad line feed behind old new b bad = if_some (BeginsBad behind) old (λ bytes e. by bytes (begun_by line feed bytes new (subst (λ o. BeginsWith line feed o new) e b)))
  where
    by : (bytes : List ℕ) → IsBegun line feed bytes new → BeginsBad behind bytes
    by bytes t =
        let size : length (with_feed line feed) ≤ first_size line bytes = subst (λ l. length (with_feed line feed) ≤ first_size line l) (sym t.whole) (feed_size line feed t.rest) in
        record { line = line; others = lines_of t.rest; first = t.lines; bad = elim bad as (λ _. (spoken_line line ≡ None) ⊎ (TRANSCRIPT_LIMIT < behind + first_size line bytes)) [ inl e ↦ inl e | inr lt ↦ inr (omega (arith, size, lt)) ] }

over_limits : (n behind : ℕ) → min LINE_LIMIT (TRANSCRIPT_LIMIT - behind) < n → (LINE_LIMIT < n) ⊎ (TRANSCRIPT_LIMIT < behind + n)
over_limits n behind lt = by (nat_lt LINE_LIMIT n) refl
  where
    by : (long : Bool) → nat_lt LINE_LIMIT n ≡ long → (LINE_LIMIT < n) ⊎ (TRANSCRIPT_LIMIT < behind + n)
    by true e = inl (grind (arith, nat_tests))
    by false e =
        let short : n ≤ LINE_LIMIT = grind (arith, nat_tests) in
        inr (omega (arith, lt, short))

longer_bad : (begun more bytes : List ℕ) (behind : ℕ) → length (begun ++ more) ≤ length bytes → min LINE_LIMIT (TRANSCRIPT_LIMIT - behind) < length begun
    → (spoken_line (begun ++ more) ≡ None) ⊎ (TRANSCRIPT_LIMIT < behind + first_size (begun ++ more) bytes)
longer_bad begun more bytes behind within lt =
    let count = length-append begun more in
    elim (over_limits (length begun) behind lt) as (λ _. (spoken_line (begun ++ more) ≡ None) ⊎ (TRANSCRIPT_LIMIT < behind + first_size (begun ++ more) bytes)) [
      | inl long ↦ inl (spoken-over (begun ++ more) (omega (arith, count, long)))
      | inr past ↦
          let size = at_most (length begun) (suc (length (begun ++ more))) (length bytes) (omega (arith, count)) (omega (arith, count, within)) in
          inr (omega (arith, size, past))
    ]

longer_told : (begun rest : List ℕ) (behind : ℕ) → HasNoFeed begun → min LINE_LIMIT (TRANSCRIPT_LIMIT - behind) < length begun → BeginsBad behind (begun ++ rest)
longer_told [] rest behind h lt = absurd (omega (arith, lt))
longer_told (b ∷ begun) rest behind h lt =
    let begins = lines_of-begun b begun rest h in
    let few : length ((b ∷ begun) ++ begins.more) ≤ length ((b ∷ begun) ++ rest) = first_within ((b ∷ begun) ++ rest) ((b ∷ begun) ++ begins.more) begins.others begins.is in
    record { line = (b ∷ begun) ++ begins.more; others = begins.others; first = begins.is; bad = longer_bad (b ∷ begun) begins.more ((b ∷ begun) ++ rest) behind few lt }

pub longer_is_bad : (behind : ℕ) (old new : Option (List ℕ)) → BeginsLonger (min LINE_LIMIT (TRANSCRIPT_LIMIT - behind)) old new → IfSome old (BeginsBad behind)
longer_is_bad behind old None b = subst (λ o. IfSome o (BeginsBad behind)) (sym b.is) tt
longer_is_bad behind old (Some rest) b = subst (λ o. IfSome o (BeginsBad behind)) (sym b.is) (longer_told b.begun rest behind b.no_feed b.longer)

-- ---- what a reader answers

abbrev pub feeds : Bool → ℕ
feeds true = 1
feeds false = 0

with_feeds : (line : List ℕ) (feed : Bool) → length (with_feed line feed) ≡ length line + feeds feed
with_feeds line true = length-append line (10 ∷ [])
with_feeds line false = omega arith

last_kept : (line : List ℕ) (feed : Bool) (taken taken_after : List ℕ) (left : Option (List ℕ)) → taken ≡ taken_after → IsLast line feed (prepend_known taken left) → IsLast line feed (prepend_known taken_after left)
last_kept line feed taken taken_after left e h = subst (λ t. IsLast line feed (prepend_known t left)) e h

-- a line of which all bytes were read
pub next_told : (old middle new : LinesState) (line : List ℕ) (feed : Bool) (left left_after : Option (List ℕ)) (answer : LineRead) → BeginsWith line feed (coming old left) (coming middle left_after)
    → middle.number ≡ old.number → middle.behind ≡ old.behind → middle.ended ≡ not feed → TellGives line (feeds feed) middle new answer → NextGives old new left left_after answer
next_told old middle new line feed left left_after (read.Line k said) b number behind ended g = (
  g.0 ∙ number,
  record {
    line = line;
    feed = feed;
    begins = record { no_feed = b.no_feed; is = b.is ∙ ap (λ t. prepend_known (with_feed line feed) (prepend_known t left_after)) (sym g.1.taken); last = last_kept line feed middle.taken new.taken left_after (sym g.1.taken) b.last };
    says = g.1.says;
    number = g.1.number ∙ ap suc number;
    behind = g.1.behind ∙ ap (λ n. n + (length line + feeds feed)) behind ∙ ap (λ n. old.behind + n) (sym (with_feeds line feed));
    within = g.1.within;
    ended = g.1.ended ∙ ended;
  },
)
next_told old middle new line feed left left_after (read.Bad k) b number behind ended g = (
  g.0 ∙ number,
  begins_bad line feed old.behind (coming old left) (coming middle left_after) b
      (subst (λ n. (spoken_line line ≡ None) ⊎ (TRANSCRIPT_LIMIT < old.behind + n)) (sym (with_feeds line feed)) (subst (λ n. (spoken_line line ≡ None) ⊎ (TRANSCRIPT_LIMIT < n + (length line + feeds feed))) behind g.1)),
)
next_told old middle new line feed left left_after read.End b number behind ended g = absurd g
next_told old middle new line feed left left_after read.ReadFault b number behind ended g = absurd g
next_told old middle new line feed left left_after read.Memory b number behind ended g = tt

behind_end : (taken : List ℕ) (left : Option (List ℕ)) → IsAtEnd (prepend_known taken left) → IsAtEnd left
behind_end taken None end = tt
behind_end [] (Some xs) end = end
behind_end (b ∷ taken) (Some xs) end = absurd cc

-- the end of the source is the end of its lines
pub next_ended : (s : LinesState) (left : Option (List ℕ)) → IsAtEnd (coming s left) → NextGives s s left left read.End
next_ended s left end = (end, behind_end s.taken left end)

pub breaks_within : (most limit : ℕ) (old left : Option (List ℕ)) → most ≤ limit → Breaks most old left → Breaks limit old left
breaks_within most limit old left le b = let few = b.within in record { begun = b.begun; no_feed = b.no_feed; within = omega (arith, few, le); is = b.is }
