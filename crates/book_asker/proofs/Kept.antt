-- What is kept is keyed, whatever call is answered.
use Rattle.std.proofs.Common.{◌≡◌, ℕ, zero, suc, ◌-◌, Bool, true, false, cond, List, [], ◌∷◌, ◌++◌, Option, Some, None, length, take, refl, sym, subst, ap, ◌∙◌}
use Rattle.std.specs.Prelude.{All, OnSome, IfNone}
use Rattle.std.specs.Map.{lookup, remove_entry, values_of}
use Rattle.std.proofs.lemmas.List.Elements.{All-push}
use Rattle.std.proofs.lemmas.Map.Views.{All-map-remove_entry}
use Rattle.rx_value.specs.declared.key.Key.{Key}
use Rattle.rx_value.specs.declared.outcome.Outcome.{Outcome}
use Rattle.rx_value.specs.Value.{key_eq}
use Rattle.rx_value.specs.Keys.{same_key}
use Rattle.app_tree.specs.Tree.{Shape}
use Rattle.term_eval.specs.Claims.{key_outcome}
use Rattle.cache_book.specs.Machine.{CacheState, hit, busy, mine, claims, fills, cache_after, claim_reply, entries_after_use, kept_outcome, owner_in_flight, without_last, without_flight}
use Rattle.cache_book.specs.Answers.{AnswersCall, reply_of_claim, reply_of_fill}
use Rattle.cache_book.specs.declared.answer.BookClaim.{BookClaim}
use Rattle.cache_book.specs.declared.answer.BookClaim.TheVariants as b
use Rattle.cache_book.specs.declared.answer.Filled.{Filled}
use Rattle.cache_book.specs.declared.answer.Filled.TheVariants as f
use Rattle.book_asker.specs.Keyed.{IsKeyed}
use Rattle.book_asker.specs.Leaves.{IsOwnedBy}
use Rattle.book_asker.proofs.InFlight.{found_appended, removed_appended}

module _ {K V : Type 0} (test : K → Bool) where
  pub kept_removed : (other : K → Bool) → ((x : K) → other x ≡ true → test x ≡ false) → (es : List (K × V)) → lookup test (remove_entry other es) ≡ lookup test es
  kept_removed other apart [] = refl
  kept_removed other apart (e ∷ es) = (elim (other e.0) as (λ y. other e.0 ≡ y → lookup test (remove_entry other (e ∷ es)) ≡ lookup test (e ∷ es)) [
    | true ↦ λ t. rw (t, apart e.0 t) refl
    | false ↦ λ t. rw t (ap (λ rest. cond (test e.0) (Some e.1) rest) (kept_removed other apart es))
  ]) refl

  pub kept_taken : (n : ℕ) (es : List (K × V)) (v : V) → lookup test (take n es) ≡ Some v → lookup test es ≡ Some v
  kept_taken zero es v h = cc
  kept_taken (suc n) [] v h = cc
  kept_taken (suc n) (e ∷ es) v h = (elim (test e.0) as (λ y. test e.0 ≡ y → lookup test (e ∷ es) ≡ Some v) [
    | true ↦ λ t. rw t (rw t at h)
    | false ↦ λ t. rw t (kept_taken n es v (rw t at h))
  ]) refl

other_way : (q k : Key) → key_eq q k ≡ false → (x : Key) → key_eq k x ≡ true → key_eq q x ≡ false
other_way q k h x t = subst (λ (y : Key). key_eq q y ≡ false) (same_key k x t) h

-- this outcome in front, under a key whose outcome it is
in_front : (app : Shape) (k : Key) (o : Outcome) (rest : List (Key × Outcome)) → o ≡ key_outcome app k
    → ((q : Key) (v : Outcome) → key_eq q k ≡ false → lookup (key_eq q) rest ≡ Some v → v ≡ key_outcome app q)
    → (q : Key) (v : Outcome) → lookup (key_eq q) ((k, o) ∷ rest) ≡ Some v → v ≡ key_outcome app q
in_front app k o rest is others q v h = (elim (key_eq q k) as (λ y. key_eq q k ≡ y → v ≡ key_outcome app q) [
  | true ↦ λ t. let same : Some o ≡ Some v = rw t at h in
      let eq : o ≡ v = cc in
      sym eq ∙ is ∙ ap (key_outcome app) (sym (same_key q k t))
  | false ↦ λ t. others q v t (rw t at h)
]) refl

pub hit_found : (x : Option Outcome) (y : Option ℕ) (o : Outcome) → hit o ≡ claim_reply x y → x ≡ Some o
hit_found (Some v) y o h = cc
hit_found None (Some p) o h = cc
hit_found None None o h = cc

pub mine_found : (x : Option Outcome) (y : Option ℕ) → mine ≡ claim_reply x y → (x ≡ None) × (y ≡ None)
mine_found (Some v) y h = cc
mine_found None (Some p) h = cc
mine_found None None h = (refl, refl)

pub busy_found : (x : Option Outcome) (y : Option ℕ) (p : ℕ) → busy p ≡ claim_reply x y → y ≡ Some p
busy_found (Some v) y p h = cc
busy_found None (Some q) p h = cc
busy_found None None p h = cc

-- what a hit gives is the outcome of the key
pub keyed_hit : (app : Shape) (s : CacheState) (k : Key) (o : Outcome) → IsKeyed app s → hit o ≡ claim_reply (kept_outcome s k) (owner_in_flight s k) → o ≡ key_outcome app k
keyed_hit app s k o keyed h = keyed k o (hit_found (kept_outcome s k) (owner_in_flight s k) o h)

keyed_used : (app : Shape) (s : CacheState) (k : Key) (o : Outcome) → IsKeyed app s → o ≡ key_outcome app k → IsKeyed app (record s { entries = entries_after_use k o s.entries })
keyed_used app s k o keyed is = in_front app k o (remove_entry (key_eq k) s.entries) is
    (λ q v apart h. keyed q v (sym (kept_removed (key_eq q) (key_eq k) (other_way q k apart) s.entries) ∙ h))

pub keyed_claimed : (app : Shape) (s t : CacheState) (k : Key) (p : ℕ) (r : BookClaim) → IsKeyed app s → AnswersCall s (claims k p) (reply_of_claim r) t → IsKeyed app t
keyed_claimed app s t k p (b.Hit o) keyed a = subst (IsKeyed app) (sym a.leaves) (keyed_used app s k o keyed (keyed_hit app s k o keyed a.replies))
keyed_claimed app s t k p (b.Busy q) keyed a = subst (IsKeyed app) (sym a.leaves) keyed
keyed_claimed app s t k p b.Mine keyed a = subst (IsKeyed app) (sym a.leaves) keyed
keyed_claimed app s t k p b.Memory keyed a = subst (IsKeyed app) (sym a.leaves) keyed

keyed_stored : (app : Shape) (s : CacheState) (k : Key) (o : Outcome) (d : ℕ) → IsKeyed app s → o ≡ key_outcome app k → IsKeyed app (record s { entries = (k, o) ∷ without_last d s.entries })
keyed_stored app s k o d keyed is = in_front app k o (without_last d s.entries) is
    (λ q v apart h. keyed q v (kept_taken (key_eq q) (length s.entries - d) s.entries v h))

pub keyed_filled : (app : Shape) (s t : CacheState) (k : Key) (p : ℕ) (o : Outcome) (r : Filled) → IsKeyed app s → o ≡ key_outcome app k → AnswersCall s (fills k p o) (Some (reply_of_fill r)) t → IsKeyed app t
keyed_filled app s t k p o (f.Stored d) keyed is a = subst (IsKeyed app) (sym a.leaves) (keyed_stored app s k o d keyed is)
keyed_filled app s t k p o f.Dropped keyed is a = subst (IsKeyed app) (sym a.leaves) keyed
keyed_filled app s t k p o f.TooHeavy keyed is a = subst (IsKeyed app) (sym a.leaves) keyed

-- a key that was filled is no longer in flight, however that was answered
pub flight_filled : (s t : CacheState) (k : Key) (p : ℕ) (o : Outcome) (r : Filled) → AnswersCall s (fills k p o) (Some (reply_of_fill r)) t → t.in_flight ≡ remove_entry (key_eq k) s.in_flight
flight_filled s t k p o (f.Stored d) a = ap (λ (u : CacheState). u.in_flight) a.leaves
flight_filled s t k p o f.Dropped a = ap (λ (u : CacheState). u.in_flight) a.leaves
flight_filled s t k p o f.TooHeavy a = ap (λ (u : CacheState). u.in_flight) a.leaves

-- ---- a claim

pub mine_given : (s t : CacheState) (k : Key) (p : ℕ) (r : BookClaim) → AnswersCall s (claims k p) (reply_of_claim r) t → r ≡ b.Mine → (owner_in_flight s k ≡ None) × (t ≡ cache_after s (claims k p) mine)
mine_given s t k p (b.Hit o) a is = cc
mine_given s t k p (b.Busy q) a is = cc
mine_given s t k p b.Mine a is = ((mine_found (kept_outcome s k) (owner_in_flight s k) a.replies).1, a.leaves)
mine_given s t k p b.Memory a is = cc

pub mine_flies : (s t : CacheState) (k : Key) (p : ℕ) (r : BookClaim) → AnswersCall s (claims k p) (reply_of_claim r) t → r ≡ b.Mine → owner_in_flight t k ≡ Some p
mine_flies s t k p r a is =
    let given = mine_given s t k p r a is in
    ap (λ (u : CacheState). owner_in_flight u k) given.1 ∙ found_appended k p s.in_flight given.0

-- what was claimed and is given up leaves the cache as it was
pub given_up : (s t u : CacheState) (k : Key) (p : ℕ) (r : BookClaim) → AnswersCall s (claims k p) (reply_of_claim r) t → r ≡ b.Mine → u ≡ without_flight k t → u ≡ s
given_up s t u k p r a is back =
    let given = mine_given s t k p r a is in
    back ∙ ap (without_flight k) given.1 ∙ ap (λ fl. record s { in_flight = fl }) (removed_appended k p s.in_flight given.0)

-- a fact of the cache as it was and as it was claimed holds also where the claim may have been given up
pub claimed_or_given_up : {X : Type 0} (P : CacheState → Type 0) (s t u : CacheState) (k : Key) (leave : Option X) → (u ≡ without_flight k t → u ≡ s) → OnSome leave (u ≡ t) → IfNone leave (u ≡ without_flight k t) → P s → P t → P u
claimed_or_given_up P s t u k (Some leave) back some none before after = subst P (sym some) after
claimed_or_given_up P s t u k None back some none before after = subst P (sym (back none)) before

pub never_busy : (s t : CacheState) (k : Key) (p q : ℕ) (r : BookClaim) → AnswersCall s (claims k p) (reply_of_claim r) t → r ≡ b.Busy q → owner_in_flight s k ≡ None → ⊥
never_busy s t k p q (b.Hit o) a is free = cc
never_busy s t k p q (b.Busy o) a is free = let owner = busy_found (kept_outcome s k) (owner_in_flight s k) o a.replies in cc
never_busy s t k p q b.Mine a is free = cc
never_busy s t k p q b.Memory a is free = cc

-- ---- owners

values-append : (fl : List (Key × ℕ)) (e : Key × ℕ) → values_of (fl ++ e ∷ []) ≡ values_of fl ++ e.1 ∷ []
values-append [] e = refl
values-append (x ∷ fl) e = ap (λ rest. x.1 ∷ rest) (values-append fl e)

pub owned_claimed : (s t : CacheState) (k : Key) (p : ℕ) (r : BookClaim) → IsOwnedBy p s → AnswersCall s (claims k p) (reply_of_claim r) t → IsOwnedBy p t
owned_claimed s t k p (b.Hit o) owned a = subst (IsOwnedBy p) (sym a.leaves) owned
owned_claimed s t k p (b.Busy q) owned a = subst (IsOwnedBy p) (sym a.leaves) owned
owned_claimed s t k p b.Mine owned a = subst (IsOwnedBy p) (sym a.leaves)
    (subst (All (λ other. other ≡ p)) (sym (values-append s.in_flight (k, p))) (All-push (λ other. other ≡ p) (values_of s.in_flight) p owned refl))
owned_claimed s t k p b.Memory owned a = subst (IsOwnedBy p) (sym a.leaves) owned

pub owned_removed : (s t : CacheState) (k : Key) (p : ℕ) → IsOwnedBy p s → t.in_flight ≡ remove_entry (key_eq k) s.in_flight → IsOwnedBy p t
owned_removed s t k p owned is = subst (λ (fl : List (Key × ℕ)). All (λ other. other ≡ p) (values_of fl)) (sym is)
    (All-map-remove_entry (key_eq k) (λ e. e.1) (λ other. other ≡ p) s.in_flight owned)
