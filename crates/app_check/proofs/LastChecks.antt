-- The checks of cached readers: what is known where none of them fails, and where one does.
use Rattle.std.proofs.Common.{◌≡◌, inl, inr, ℕ, zero, suc, ◌+◌, ◌<◌, ◌≤◌, Bool, true, false, List, [], ◌∷◌, length, map, get_or, drop, Option, Some, None, Result, Ok, Err, slice_get, refl, sym, ◌∙◌, ap, subst, arith, add-one, drop-cons}
use Rattle.std.specs.Prelude.{◌&&◌, IfOk, IfErr, IfSome, filter, if◌then◌else◌}
use Rattle.std.proofs.lemmas.Bool.Decides.{eqb_tells}
use Rattle.std.proofs.lemmas.List.{length-map}
use Rattle.rx_value.specs.Results.{◌>>=◌, RefusesOrMemory}
use Rattle.app_tree.specs.declared.limits.TheConstants.{ITEM_LIMIT}
use Rattle.app_tree.specs.Held.{Held}
use Rattle.app_tree.specs.View.{node_of, shape_of}
use Rattle.app_tree.specs.declared.refusal.Refusal.{Refusal}
use Rattle.app_tree.specs.declared.draft_item.DraftItem.{DraftItem}
use Rattle.app_tree.specs.declared.draft_term.Name.{Name}
use Rattle.app_tree.specs.DraftTree as draft
use Rattle.app_tree.specs.DraftTree.{WrittenForm, WrittenItem, DraftShape}
use Rattle.app_tree.specs.DraftView.{written_item}
use Rattle.app_tree.specs.Declarations.{Declared, declarations}
use Rattle.app_tree.specs.Tree.{Node, Shape}
use Rattle.app_tree.specs.Numbering.{is_reader, readers}
use Rattle.app_tree.specs.Cover.{is_covered, is_sound_below, is_sound}
use Rattle.app_tree.specs.Resolve.{resolved_form, resolved_item, resolved}
use Rattle.app_tree.specs.Faults.{first_refusal, accepted_or, checked}
use Rattle.app_tree.specs.WellFormed.{IsWellFormed}
use Rattle.app_tree.proofs.FewItems.{few_items}
use Rattle.key_cover.specs.declared.coverage.Coverage.{Coverage}
use Rattle.key_cover.specs.declared.coverage.Coverage.TheVariants.{Covered, Missing, Isolated}
use Rattle.key_cover.specs.Met.{first_met}
use Rattle.key_cover.proofs.Covering.{covered_where_nothing_is_met}
use Rattle.app_check.specs.declared.error.LoadError.{LoadError}
use Rattle.app_check.specs.declared.error.LoadError.TheVariants as error
use Rattle.app_check.specs.CachedReaders.{uncovered, or_later, uncovered_from, is_written_reader, written_readers, first_uncovered}
use Rattle.app_check.specs.Load.{or_refusal, unless_uncovered, checked_app, refusal}
use Rattle.app_check.specs.Laws.{RefusesFirstUncovered, GivesWhereSound}

-- ---- as many readers as are written

same_reader : (table : List Declared) (name : List ℕ) (f : WrittenForm) (place : ℕ) (n : Name) → is_reader (resolved_form table name f) ≡ is_written_reader (record { place = place; name = n; form = f })
same_reader table name (draft.input start) place n = refl
same_reader table name (draft.value start) place n = refl
same_reader table name (draft.task parameters body) place n = refl
same_reader table name (draft.reactive keys body) place n = refl
same_reader table name (draft.event flags e body) place n = refl
same_reader table name (draft.text shown) place n = refl
same_reader table name (draft.plot shown) place n = refl
same_reader table name (draft.observe priority block) place n = refl
same_reader table name (draft.on priority flags e block) place n = refl

same_count : (table : List Declared) (items : List WrittenItem) → length (filter is_reader (map (resolved_item table) items)) ≡ length (written_readers items)
same_count table [] = refl
same_count table (i ∷ more) = by (is_reader (resolved_item table i)) (is_written_reader i) refl refl (same_reader table i.name.text i.form i.place i.name) (same_count table more)
  where
    by : (a b : Bool) → is_reader (resolved_item table i) ≡ a → is_written_reader i ≡ b → is_reader (resolved_item table i) ≡ is_written_reader i
        → length (filter is_reader (map (resolved_item table) more)) ≡ length (written_readers more)
        → length (filter is_reader (map (resolved_item table) (i ∷ more))) ≡ length (written_readers (i ∷ more))
    by true true p q same rest = rw (p, q) (ap suc rest)
    by false false p q same rest = rw (p, q) rest
    by true false p q same rest = absurd (cc (p, q, same))
    by false true p q same rest = absurd (cc (p, q, same))

-- the app that a draft stands for where no other check refuses it
pub checked_is : (d : DraftShape) (app : Shape) → checked d ≡ Ok app → resolved d ≡ app
checked_is d app e = by (first_refusal d) e
  where
    by : (first : Option Refusal) → accepted_or first (resolved d) ≡ Ok app → resolved d ≡ app
    by None e = cc
    by (Some r) e = absurd cc

pub readers_written : (d : DraftShape) (items : List WrittenItem) (app : Shape) → items ≡ d.items → checked d ≡ Ok app → length (readers app) ≡ length (written_readers items)
readers_written d items app same e =
    ap (λ (a : Shape). length (readers a)) (sym (checked_is d app e)) ∙ same_count (declarations d.items) d.items ∙ ap (λ l. length (written_readers l)) (sym same)

few_readers : (items : List Node) → length (filter is_reader items) ≤ length items
few_readers [] = omega arith
few_readers (i ∷ more) = by (is_reader i) (few_readers more)
  where
    by : (b : Bool) → length (filter is_reader more) ≤ length more → length (if b then i ∷ filter is_reader more else filter is_reader more) ≤ suc (length more)
    by true rest = omega (rest, arith)
    by false rest = omega (rest, arith)

pub readers_within : (held : Held) → IsWellFormed (shape_of held) → length (readers (shape_of held)) ≤ ITEM_LIMIT
readers_within held well =
    let some = few_readers (map node_of held.items) in
    let few = few_items held well in
    let same = length-map held.items node_of in
    omega (some, few, same, arith)

-- ---- one step of the walk over the items

left_at : (xs : List DraftItem) (i : ℕ) (x : DraftItem) → i < length xs → x ≡ get_or xs i x → drop i xs ≡ x ∷ drop (i + 1) xs
left_at xs i x within is = rw add-one (drop-cons xs i x within ∙ ap (λ y. y ∷ drop (suc i) xs) (sym is))

abbrev pub left_readers : ℕ → List DraftItem → List WrittenItem
left_readers i xs = written_readers (map written_item (drop i xs))

-- the item that is looked at is a reader, or none
pub next_reader : (xs : List DraftItem) (i : ℕ) (x : DraftItem) (b : Bool) → i < length xs → x ≡ get_or xs i x → b ≡ is_written_reader (written_item x)
    → left_readers i xs ≡ (if b then written_item x ∷ left_readers (i + 1) xs else left_readers (i + 1) xs)
next_reader xs i x b within is h =
    ap (λ left. written_readers (map written_item left)) (left_at xs i x within is)
    ∙ ap (λ c. if c then written_item x ∷ left_readers (i + 1) xs else left_readers (i + 1) xs) (sym h)

-- ---- cached readers that are all covered

unrefused : (app : Shape) (name : Name) (met : Coverage) → uncovered app name met ≡ None → met ≡ Covered
unrefused app name Covered h = refl
unrefused app name (Missing r) h = absurd cc
unrefused app name (Isolated site) h = absurd cc

neither : (a b : Option LoadError) → or_later a b ≡ None → (a ≡ None) × (b ≡ None)
neither None b h = (refl, h)
neither (Some e) b h = absurd cc

covered_from : (app : Shape) (n : ℕ) (items : List WrittenItem) → uncovered_from app n items ≡ None → (m : ℕ) → n ≤ m → m < n + length items → is_covered app m ≡ true
covered_from app n [] h m low high = absurd (omega (low, high, arith))
covered_from app n (i ∷ more) h m low high =
    let both = neither (uncovered app i.name (first_met app n)) (uncovered_from app (suc n) more) h in
    elim (eqb_tells m n) [
      | inl p ↦ subst (λ k. is_covered app k ≡ true) (sym p.1) ((covered_where_nothing_is_met app n).0 (unrefused app i.name (first_met app n) both.0))
      | inr p ↦ let other = p.1 in covered_from app (suc n) more both.1 m (omega (low, other, arith)) (omega (high, arith))
    ]

sound_below : (app : Shape) (n : ℕ) → ((m : ℕ) → m < n → is_covered app m ≡ true) → is_sound_below app n ≡ true
sound_below app zero each = refl
sound_below app (suc n) each =
    ap (λ b. b && is_covered app n) (sound_below app n (λ m h. each m (omega (h, arith)))) ∙ each n (omega arith)

pub sound_where_none : (app : Shape) (items : List WrittenItem) → length (readers app) ≡ length items → uncovered_from app 0 items ≡ None → is_sound app ≡ true
sound_where_none app items count h =
    sound_below app (length (readers app)) (λ m within. covered_from app 0 items h m (omega arith) (omega (within, count, arith)))

-- and the other way round
sound_has : (app : Shape) (n : ℕ) → is_sound_below app n ≡ true → (m : ℕ) → m < n → is_covered app m ≡ true
sound_has app zero h m within = absurd (omega (within, arith))
sound_has app (suc n) h m within =
    let both = by (is_sound_below app n) (is_covered app n) h in
    elim (eqb_tells m n) [
      | inl p ↦ subst (λ k. is_covered app k ≡ true) (sym p.1) both.1
      | inr p ↦ let other = p.1 in sound_has app n both.0 m (omega (within, other, arith))
    ]
  where
    by : (a b : Bool) → (a && b) ≡ true → (a ≡ true) × (b ≡ true)
    by true b h = (refl, h)
    by false b h = absurd cc

covered_unrefused : (app : Shape) (name : Name) (n : ℕ) → is_covered app n ≡ true → uncovered app name (first_met app n) ≡ None
covered_unrefused app name n h = ap (uncovered app name) ((covered_where_nothing_is_met app n).1 h)

none_from : (app : Shape) (n : ℕ) (items : List WrittenItem) → ((m : ℕ) → m < n + length items → is_covered app m ≡ true) → uncovered_from app n items ≡ None
none_from app n [] each = refl
none_from app n (i ∷ more) each =
    ap (λ o. or_later o (uncovered_from app (suc n) more)) (covered_unrefused app i.name n (each n (omega arith)))
    ∙ none_from app (suc n) more (λ m h. each m (omega (h, arith)))

pub none_where_sound : (app : Shape) (items : List WrittenItem) → length (readers app) ≡ length items → is_sound app ≡ true → uncovered_from app 0 items ≡ None
none_where_sound app items count h = none_from app 0 items (λ m within. sound_has app (length (readers app)) h m (omega (within, count, arith)))

-- ---- what is answered

pub refuses : (e : LoadError) (said : Result Shape LoadError) → said ≡ Err e → RefusesOrMemory {Y = Shape} refusal e said
refuses error.Memory said h = tt
refuses _ said h = h

-- the app that no other check refuses, where its cached readers were looked at
pub checked_through : (d : DraftShape) (items : List WrittenItem) (app : Shape) → items ≡ d.items → checked d ≡ Ok app
    → unless_uncovered (uncovered_from app 0 (written_readers items)) app ≡ checked_app d
checked_through d items app same e =
    ap (λ l. unless_uncovered (uncovered_from app 0 (written_readers l)) app) same
    ∙ ap (λ r. or_refusal r >>= (λ a. unless_uncovered (first_uncovered d a) a)) (sym e)

pub accepted_through : (d : DraftShape) (items : List WrittenItem) (app : Shape) (result : Result Held LoadError) → items ≡ d.items → checked d ≡ Ok app
    → IfOk result (λ made. unless_uncovered (uncovered_from app 0 (written_readers items)) app ≡ Ok (shape_of made)) → IfOk result (λ made. checked_app d ≡ Ok (shape_of made))
accepted_through d items app (Ok made) same e h = sym (checked_through d items app same e) ∙ h
accepted_through d items app (Err x) same e h = tt

pub refused_through : (d : DraftShape) (items : List WrittenItem) (app : Shape) (result : Result Held LoadError) → items ≡ d.items → checked d ≡ Ok app
    → IfErr result (λ x. RefusesOrMemory {Y = Shape} refusal x (unless_uncovered (uncovered_from app 0 (written_readers items)) app)) → IfErr result (λ x. RefusesOrMemory {Y = Shape} refusal x (checked_app d))
refused_through d items app (Ok made) same e h = tt
refused_through d items app (Err x) same e h = subst (λ (said : Result Shape LoadError). RefusesOrMemory {Y = Shape} refusal x said) (checked_through d items app same e) h

-- another check refuses the draft
pub refused_first : (d : DraftShape) (x : LoadError) → RefusesOrMemory {Y = Shape} refusal x (or_refusal (checked d)) → RefusesOrMemory {Y = Shape} refusal x (checked_app d)
refused_first d x h = by (refusal x) h
  where
    by : (o : Option LoadError) → IfSome o (λ f. or_refusal (checked d) ≡ Err f) → IfSome o (λ f. checked_app d ≡ Err f)
    by None h = tt
    by (Some f) h = ap (λ r. r >>= (λ a. unless_uncovered (first_uncovered d a) a)) h

-- a draft that is refused by none of all checks is refused by none of the others
pub passes_others : (d : DraftShape) (app : Shape) → checked_app d ≡ Ok app → checked d ≡ Ok app
passes_others d app e = by (checked d) e
  where
    uncovered_or : (o : Option LoadError) (made : Shape) → unless_uncovered o made ≡ Ok app → made ≡ app
    uncovered_or None made e = cc
    uncovered_or (Some x) made e = absurd cc

    by : (r : Result Shape Refusal) → (or_refusal r >>= (λ a. unless_uncovered (first_uncovered d a) a)) ≡ Ok app → r ≡ Ok app
    by (Ok made) e = ap Ok (uncovered_or (first_uncovered d made) made e)
    by (Err r) e = absurd cc

-- ---- the laws

-- among these readers, of which the first has number n
record FoundFrom (app : Shape) (n : ℕ) (items : List WrittenItem) (e : LoadError) : Type 0 where
  behind : ℕ
  item : WrittenItem
  written : slice_get items behind ≡ Some item
  refused : uncovered app item.name (first_met app (n + behind)) ≡ Some e
  before : (m : ℕ) → n ≤ m → m < n + behind → is_covered app m ≡ true

found_from : (app : Shape) (n : ℕ) (items : List WrittenItem) (e : LoadError) → uncovered_from app n items ≡ Some e → FoundFrom app n items e
found_from app n [] e h = absurd cc
found_from app n (i ∷ more) e h = by (uncovered app i.name (first_met app n)) refl h (found_from app (suc n) more e)
  where
    by : (o : Option LoadError) → uncovered app i.name (first_met app n) ≡ o → or_later o (uncovered_from app (suc n) more) ≡ Some e
        → (uncovered_from app (suc n) more ≡ Some e → FoundFrom app (suc n) more e) → FoundFrom app n (i ∷ more) e
    by (Some x) is h rest =
        let here : n + 0 ≡ n = omega arith in
        record {
          behind = 0;
          item = i;
          written = refl;
          refused = ap (λ k. uncovered app i.name (first_met app k)) here ∙ is ∙ h;
          before = λ m low high. absurd (omega (low, high, arith));
        }
    by None is h rest =
        let later = rest h in
        let here : n + suc later.behind ≡ suc n + later.behind = omega arith in
        record {
          behind = suc later.behind;
          item = later.item;
          written = later.written;
          refused = ap (λ k. uncovered app later.item.name (first_met app k)) here ∙ later.refused;
          before = λ m low high. elim (eqb_tells m n) [
            | inl p ↦ subst (λ k. is_covered app k ≡ true) (sym p.1) ((covered_where_nothing_is_met app n).0 (unrefused app i.name (first_met app n) is))
            | inr p ↦ let other = p.1 in later.before m (omega (low, other, arith)) (omega (high, arith))
          ];
        }

uncovered_is : (o : Option LoadError) (app : Shape) (e : LoadError) → unless_uncovered o app ≡ Err e → o ≡ Some e
uncovered_is None app e h = absurd cc
uncovered_is (Some x) app e h = cc

pub refuses_first_uncovered : RefusesFirstUncovered
refuses_first_uncovered d app e passes h =
    let said = ap (λ r. or_refusal r >>= (λ a. unless_uncovered (first_uncovered d a) a)) (sym passes) ∙ h in
    let found = found_from app 0 (written_readers d.items) e (uncovered_is (first_uncovered d app) app e said) in
    let here : 0 + found.behind ≡ found.behind = omega arith in
    record {
      number = found.behind;
      reader = found.item;
      written = found.written;
      refused = ap (λ k. uncovered app found.item.name (first_met app k)) (sym here) ∙ found.refused;
      before = λ m h. found.before m (omega arith) (omega (h, arith));
    }

pub gives_where_sound : GivesWhereSound
gives_where_sound d app passes =
    let count = readers_written d d.items app refl passes in
    let through = checked_through d d.items app refl passes in (
      λ h. sound_where_none app (written_readers d.items) count (none (first_uncovered d app) (through ∙ h)),
      λ h. sym through ∙ ap (λ o. unless_uncovered o app) (none_where_sound app (written_readers d.items) count h),
    )
  where
    none : (o : Option LoadError) → unless_uncovered o app ≡ Ok app → o ≡ None
    none None h = refl
    none (Some x) h = absurd cc
