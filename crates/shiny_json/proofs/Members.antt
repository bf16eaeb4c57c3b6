-- Members with rising keys: what is found in them after a change.
use Rattle.std.proofs.Common.{◌≡◌, ℕ, List, Option, None, Some, Bool, true, false, Ordering, Less, Equal, Greater, nat_cmp, bytes_eq, is_eq, cond, refl, sym, ap, ◌∙◌, subst, true≢false}
use Rattle.std.specs.Prelude.{⊤}
use Rattle.std.proofs.lemmas.Cmp.{nat_list_cmp_total}
use Rattle.std.proofs.lemmas.Map.Text.{is_eq-slice_cmp}
use Rattle.std.proofs.lemmas.Slice.Eq.{bytes_eq-Decides}
use Rattle.std.specs.Cmp.Lexicographic.{slice_cmp}
use Rattle.std.specs.Ordering.{match_ordering, ordering_reverse}
use Rattle.serde_json.specs.Data.{Data, Members, no_members, member, put}
use Rattle.serde_json.specs.Find.{get_member}
use Rattle.shiny_json.specs.Values.{without_member}

-- the key stands before each key of the members
abbrev pub IsBelow : List ℕ → Members → Type 0
IsBelow k no_members = ⊤
IsBelow k (member l d more) = (slice_cmp nat_cmp k l ≡ Less) × IsBelow k more

abbrev pub AreRising : Members → Type 0
AreRising no_members = ⊤
AreRising (member k d more) = IsBelow k more × AreRising more

IsBelow-trans : (k l : List ℕ) (ms : Members) → slice_cmp nat_cmp k l ≡ Less → IsBelow l ms → IsBelow k ms
IsBelow-trans k l no_members less below = tt
IsBelow-trans k l (member m d more) less below = (nat_list_cmp_total.trans k l m less below.0, IsBelow-trans k l more less below.1)

IsBelow-match_ordering : (k : List ℕ) (o : Ordering) (a b c : Members) → IsBelow k a → IsBelow k b → IsBelow k c → IsBelow k (match_ordering o a b c)
IsBelow-match_ordering k Less a b c e f g = e
IsBelow-match_ordering k Equal a b c e f g = f
IsBelow-match_ordering k Greater a b c e f g = g

IsBelow-put : (k l : List ℕ) (d : Data) (ms : Members) → slice_cmp nat_cmp k l ≡ Less → IsBelow k ms → IsBelow k (put l d ms)
IsBelow-put k l d no_members less below = (less, tt)
IsBelow-put k l d (member m e more) less below =
    IsBelow-match_ordering k (slice_cmp nat_cmp l m) (member l d (member m e more)) (member m d more) (member m e (put l d more))
    (less, below) below (below.0, IsBelow-put k l d more less below.1)

IsBelow-cond : (k : List ℕ) (b : Bool) (x y : Members) → IsBelow k x → IsBelow k y → IsBelow k (cond b x y)
IsBelow-cond k true x y e f = e
IsBelow-cond k false x y e f = f

IsBelow-without_member : (k l : List ℕ) (ms : Members) → IsBelow k ms → IsBelow k (without_member l ms)
IsBelow-without_member k l no_members below = tt
IsBelow-without_member k l (member m d more) below = IsBelow-cond k (bytes_eq l m) more (member m d (without_member l more)) below.1 (below.0, IsBelow-without_member k l more below.1)

AreRising-put_at : (o : Ordering) (k l : List ℕ) (d e : Data) (ms : Members) → slice_cmp nat_cmp k l ≡ o → AreRising (member l e ms) → AreRising (put k d ms)
    → AreRising (match_ordering o (member k d (member l e ms)) (member l d ms) (member l e (put k d ms)))
AreRising-put_at Less k l d e ms is rising later = ((is, IsBelow-trans k l ms is rising.0), rising)
AreRising-put_at Equal k l d e ms is rising later = rising
AreRising-put_at Greater k l d e ms is rising later =
    let above : slice_cmp nat_cmp l k ≡ Less = nat_list_cmp_total.antisymm l k ∙ ap ordering_reverse is in
    (IsBelow-put l k d ms above rising.0, later)

pub AreRising-put : (k : List ℕ) (d : Data) (ms : Members) → AreRising ms → AreRising (put k d ms)
AreRising-put k d no_members rising = (tt, tt)
AreRising-put k d (member l e ms) rising = AreRising-put_at (slice_cmp nat_cmp k l) k l d e ms refl rising (AreRising-put k d ms rising.1)

AreRising-cond : (b : Bool) (x y : Members) → AreRising x → AreRising y → AreRising (cond b x y)
AreRising-cond true x y e f = e
AreRising-cond false x y e f = f

pub AreRising-without_member : (k : List ℕ) (ms : Members) → AreRising ms → AreRising (without_member k ms)
AreRising-without_member k no_members rising = tt
AreRising-without_member k (member l d more) rising =
    AreRising-cond (bytes_eq k l) more (member l d (without_member k more)) rising.1 (IsBelow-without_member l k more rising.0, AreRising-without_member k more rising.1)

-- ---- look-ups

passed : (o : Ordering) (rest here : Option Data) → is_eq o ≡ false → match_ordering o rest here rest ≡ rest
passed Less rest here e = refl
passed Equal rest here e = absurd (true≢false e)
passed Greater rest here e = refl

-- a member of another key is passed over
get_member-member_other : (q k : List ℕ) (d : Data) (ms : Members) → bytes_eq q k ≡ false → get_member q (member k d ms) ≡ get_member q ms
get_member-member_other q k d ms other = passed (slice_cmp nat_cmp q k) (get_member q ms) (Some d) (is_eq-slice_cmp q k ∙ other)

get_member-below : (k : List ℕ) (ms : Members) → IsBelow k ms → get_member k ms ≡ None
get_member-below k no_members below = refl
get_member-below k (member l d more) below = rw below.0 (get_member-below k more below.1)

get_member-without_member_at : (b : Bool) (k l : List ℕ) (d : Data) (ms : Members) → bytes_eq k l ≡ b → IsBelow l ms → get_member k (without_member k ms) ≡ None
    → get_member k (cond b ms (member l d (without_member k ms))) ≡ None
get_member-without_member_at true k l d ms is below later =
    let same : k ≡ l = (bytes_eq-Decides k l).0 is in
    subst (λ (x : List ℕ). get_member x ms ≡ None) (sym same) (get_member-below l ms below)
get_member-without_member_at false k l d ms is below later = get_member-member_other k l d (without_member k ms) is ∙ later

-- what was taken away isn't found
pub get_member-without_member : (k : List ℕ) (ms : Members) → AreRising ms → get_member k (without_member k ms) ≡ None
get_member-without_member k no_members rising = refl
get_member-without_member k (member l d more) rising = get_member-without_member_at (bytes_eq k l) k l d more refl rising.0 (get_member-without_member k more rising.1)

get_member-without_member_other_at : (b : Bool) (q k l : List ℕ) (d : Data) (ms : Members) → bytes_eq k l ≡ b → bytes_eq q k ≡ false → get_member q (without_member k ms) ≡ get_member q ms
    → get_member q (cond b ms (member l d (without_member k ms))) ≡ get_member q (member l d ms)
get_member-without_member_other_at true q k l d ms is other later =
    let same : k ≡ l = (bytes_eq-Decides k l).0 is in
    sym (get_member-member_other q l d ms (subst (λ (x : List ℕ). bytes_eq q x ≡ false) same other))
get_member-without_member_other_at false q k l d ms is other later = ap (λ (r : Option Data). match_ordering (slice_cmp nat_cmp q l) r (Some d) r) later

-- the others are found as before
pub get_member-without_member_other : (q k : List ℕ) (ms : Members) → bytes_eq q k ≡ false → get_member q (without_member k ms) ≡ get_member q ms
get_member-without_member_other q k no_members other = refl
get_member-without_member_other q k (member l d more) other = get_member-without_member_other_at (bytes_eq k l) q k l d more refl other (get_member-without_member_other q k more other)
