-- The first of several refusals is one of them, and none of them precedes it.
use Rattle.std.proofs.Common.{◌≡◌, ℕ, Bool, true, false, ◌&&◌, ◌||◌, cond, ◌⊎◌, inl, inr, List, [], ◌∷◌, Option, Some, None, Ok, Err, refl, sym, ◌∙◌, ap, arith}
use Rattle.std.specs.Prelude.{nat_lt, nat_eq}
use Rattle.std.proofs.lemmas.Bool.Decides.{nat_tests}
use Rattle.app_tree.specs.declared.refusal.Refusal.{Refusal}
use Rattle.app_tree.specs.Tree.{Shape}
use Rattle.app_tree.specs.Resolve.{resolved}
use Rattle.app_tree.specs.Faults.{fault_order, precedes, first_with, faults, accepted_or}
use Rattle.app_check.specs.Laws.{IsOne, NonePrecedes, IsFirst, RefusesFirst, GivesWherePasses}
use Rattle.app_check.proofs.Accepted.{none_found}

-- ---- the order of places and ranks

before : ℕ → ℕ → ℕ → ℕ → Bool
before p i q j = nat_lt p q || nat_eq p q && nat_lt i j

chained : (p i q j r k : ℕ) → (nat_lt p q || nat_eq p q && nat_lt i j) ≡ true → (nat_lt q r || nat_eq q r && nat_lt j k) ≡ true → (nat_lt p r || nat_eq p r && nat_lt i k) ≡ true
chained p i q j r k a b = grind (arith, nat_tests)

never_both : (p i q j : ℕ) → (nat_lt p q || nat_eq p q && nat_lt i j) ≡ true → (nat_lt q p || nat_eq q p && nat_lt j i) ≡ false
never_both p i q j a = grind (arith, nat_tests)

not_itself : (p i : ℕ) → (nat_lt p p || nat_eq p p && nat_lt i i) ≡ false
not_itself p i = grind (arith, nat_tests)

chain : (a b c : Refusal) → precedes a b ≡ true → precedes b c ≡ true → precedes a c ≡ true
chain a b c = chained a.place (fault_order a.fault) b.place (fault_order b.fault) c.place (fault_order c.fault)

-- the one is at or before the other
AtOrBefore : Refusal → Refusal → Type 0
AtOrBefore f b = (f ≡ b) ⊎ (precedes f b ≡ true)

at_or_before : (f b : Refusal) → AtOrBefore f b → precedes b f ≡ false
unfolding AtOrBefore
at_or_before f b (inl same) = ap (λ x. precedes b x) same ∙ not_itself b.place (fault_order b.fault)
at_or_before f b (inr p) = never_both f.place (fault_order f.fault) b.place (fault_order b.fault) p

through : (f b r : Refusal) → AtOrBefore f b → precedes b r ≡ true → AtOrBefore f r
unfolding AtOrBefore
through f b r (inl same) p = inr (ap (λ x. precedes x r) same ∙ p)
through f b r (inr q) p = inr (chain f b r q p)

-- what doesn't precede b precedes nothing that is at or before b
behind : (f b r : Refusal) → AtOrBefore f b → precedes r b ≡ false → precedes r f ≡ false
unfolding AtOrBefore
behind f b r (inl same) p = ap (λ x. precedes r x) same ∙ p
behind f b r (inr q) p = decide (precedes r f) refl
  where
    differ : true ≡ false → ⊥
    differ e = cc

    decide : (c : Bool) → c ≡ precedes r f → precedes r f ≡ false
    decide false e = sym e
    decide true e = absurd (differ (sym (chain r f b (sym e) q) ∙ p))

-- ---- the first one

-- with one that is there
record Wins (f best : Refusal) (rs : List Refusal) : Type 0 where
  one : (f ≡ best) ⊎ IsOne f rs
  near : AtOrBefore f best
  first : NonePrecedes rs f

none_further : (r f : Refusal) (rs : List Refusal) → precedes r f ≡ false → NonePrecedes rs f → NonePrecedes (r ∷ rs) f
none_further r f rs one rest s (inl same) = ap (λ x. precedes x f) same ∙ one
none_further r f rs one rest s (inr further) = rest s further

wins : (f best : Refusal) (rs : List Refusal) → first_with (Some best) rs ≡ Some f → Wins f best rs
unfolding AtOrBefore
wins f best [] e = record { one = inl (sym same); near = inl (sym same); first = λ s one. absurd one }
  where
    same : best ≡ f
    same = cc
wins f best (r ∷ rs) e = decide (precedes r best) refl (λ x. wins f x rs) e
  where
    decide : (b : Bool) → b ≡ precedes r best → ((x : Refusal) → first_with (Some x) rs ≡ Some f → Wins f x rs) → first_with (cond b (Some r) (Some best)) rs ≡ Some f → Wins f best (r ∷ rs)
    decide true b rest e =
        let w = rest r e in
        record { one = inr w.one; near = through f r best w.near (sym b); first = none_further r f rs (at_or_before f r w.near) w.first }
    decide false b rest e =
        let w = rest best e in
        record { one = further w.one; near = w.near; first = none_further r f rs (behind f best r w.near (sym b)) w.first }
      where
        further : (f ≡ best) ⊎ IsOne f rs → (f ≡ best) ⊎ IsOne f (r ∷ rs)
        further (inl same) = inl same
        further (inr one) = inr (inr one)

first_is : (f : Refusal) (rs : List Refusal) → first_with None rs ≡ Some f → IsFirst f rs
first_is f [] e = absurd (none e)
  where
    none : None ≡ Some f → ⊥
    none e = cc
first_is f (r ∷ rs) e =
    let w = wins f r rs e in
    record { one = w.one; first = none_further r f rs (at_or_before f r w.near) w.first }

refused_is : (found : Option Refusal) (app : Shape) (r : Refusal) → accepted_or found app ≡ Err r → found ≡ Some r
refused_is None app r e = cc
refused_is (Some s) app r e = cc

accepted_is : (found : Option Refusal) (app : Shape) → accepted_or found app ≡ Ok app → found ≡ None
accepted_is None app e = refl
accepted_is (Some s) app e = cc

pub refuses_first : RefusesFirst
refuses_first d r e = first_is r (faults d) (refused_is (first_with None (faults d)) (resolved d) r e)

pub gives_where_passes : GivesWherePasses
gives_where_passes d = (
  λ e. none_found (faults d) (accepted_is (first_with None (faults d)) (resolved d) e),
  λ e. ap (λ rs. accepted_or (first_with None rs) (resolved d)) e,
)
