-- The first read of a trace that is wanted.
use Rattle.std.proofs.Common.{◌≡◌, inl, inr, ◌⊎◌, ℕ, true, false, Bool, List, [], ◌∷◌, ◌++◌, Option, Some, None, refl, sym, ap, ◌∙◌, subst}
use Rattle.std.specs.Prelude.{⊤}
use Rattle.rx_value.specs.declared.outcome.Outcome.{Outcome}
use Rattle.app_tree.specs.declared.term.Read.{Read}
use Rattle.app_tree.specs.declared.term.Read.TheVariants as read
use Rattle.app_tree.specs.Tree.{Shape}
use Rattle.app_tree.specs.Evaluate.{TraceEntry, reads, given, enters, leaves}
use Rattle.app_tree.specs.Trace.{EveryRead}
use Rattle.app_tree.specs.Wanted.{Answering, wanted_by, first_wanted}
use Rattle.session_model.specs.Standing.{KeptSession, kept_reader}
use Rattle.session_steps.specs.Keeping.{lives, outcome_if_alive, kept_answer}
use Rattle.session_laws.proofs.Journeys.{some_is}

wanted_none : (x : Option Outcome) (r : Read) (later : Option Read) → wanted_by x r later ≡ None → later ≡ None
wanted_none (Some y) r later h = h
wanted_none None r later h = cc

by_none : (x : Option Outcome) (r : Read) (l later : Option Read) → wanted_by x r l ≡ None → wanted_by x r later ≡ later
by_none (Some y) r l later h = refl
by_none None r l later h = cc

pub first_wanted-append : (a : Answering) (xs ys : List TraceEntry) → first_wanted a xs ≡ None → first_wanted a (xs ++ ys) ≡ first_wanted a ys
first_wanted-append a [] ys h = refl
first_wanted-append a (reads r ∷ xs) ys h =
    by_none (a.read r) r (first_wanted a xs) (first_wanted a (xs ++ ys)) h ∙ first_wanted-append a xs ys (wanted_none (a.read r) r (first_wanted a xs) h)
first_wanted-append a (given s ∷ xs) ys h = first_wanted-append a xs ys h
first_wanted-append a (enters s ∷ xs) ys h = first_wanted-append a xs ys h
first_wanted-append a (leaves s x ∷ xs) ys h = first_wanted-append a xs ys h

wanted_front : (x : Option Outcome) (r q : Read) (l l' : Option Read) → wanted_by x r l ≡ Some q → (l ≡ Some q → l' ≡ Some q) → wanted_by x r l' ≡ Some q
wanted_front (Some y) r q l l' h k = k h
wanted_front None r q l l' h k = h

pub first_wanted-front : (a : Answering) (xs ys : List TraceEntry) (q : Read) → first_wanted a xs ≡ Some q → first_wanted a (xs ++ ys) ≡ Some q
first_wanted-front a [] ys q h = cc
first_wanted-front a (reads r ∷ xs) ys q h = wanted_front (a.read r) r q (first_wanted a xs) (first_wanted a (xs ++ ys)) h (first_wanted-front a xs ys q)
first_wanted-front a (given s ∷ xs) ys q h = first_wanted-front a xs ys q h
first_wanted-front a (enters s ∷ xs) ys q h = first_wanted-front a xs ys q h
first_wanted-front a (leaves s x ∷ xs) ys q h = first_wanted-front a xs ys q h

-- what is wanted is asked, and isn't answered
found_by : (x : Option Outcome) (q r : Read) (rest : Option Read) → wanted_by x q rest ≡ Some r → ((x ≡ None) × (q ≡ r)) ⊎ (rest ≡ Some r)
found_by (Some y) q r rest h = inr h
found_by None q r rest h = inl (refl, some_is h)

pub found : (a : Answering) (P : Read → Type 0) (xs : List TraceEntry) (r : Read) → first_wanted a xs ≡ Some r → EveryRead P xs → P r × (a.read r ≡ None)
found a P [] r h p = cc
found a P (reads q ∷ xs) r h p = elim (found_by (a.read q) q r (first_wanted a xs) h) [
  | inl e ↦ (subst P e.1 p.0, subst (λ z. a.read z ≡ None) e.1 e.0)
  | inr e ↦ found a P xs r e p.1
]
found a P (given s ∷ xs) r h p = found a P xs r h p.1
found a P (enters s ∷ xs) r h p = found a P xs r h p.1
found a P (leaves s x ∷ xs) r h p = found a P xs r h p.1

-- ---- over a session

pub unanswered_dead : (b : Bool) (x : Outcome) → outcome_if_alive b x ≡ None → b ≡ false
unanswered_dead true x h = cc
unanswered_dead false x h = refl

answered_alive : (b : Bool) (x o : Outcome) → outcome_if_alive b x ≡ Some o → b ≡ true
answered_alive true x o h = refl
answered_alive false x o h = cc

module _ (app : Shape) (S : KeptSession) where
  -- a read that the session answers
  abbrev pub IsLiveRead : Read → Type 0
  IsLiveRead (read.Expr m) = lives S m ≡ true
  IsLiveRead r = ⊤

  pub answered_live : (r : Read) (o : Outcome) → kept_answer app S r ≡ Some o → IsLiveRead r
  answered_live (read.Expr k) o q = answered_alive (lives S k) (kept_reader S k).outcome o q
  answered_live (read.Input s) o q = tt
  answered_live (read.Value s) o q = tt
  answered_live (read.Status s) o q = tt
  answered_live (read.Result s) o q = tt
  answered_live (read.Width k) o q = tt
  answered_live (read.Height k) o q = tt

  live_one : (r : Read) (rest : Option Read) → wanted_by (kept_answer app S r) r rest ≡ None → IsLiveRead r
  live_one (read.Expr m) rest h = by (lives S m) refl
    where
      by : (b : Bool) → lives S m ≡ b → lives S m ≡ true
      by true q = q
      by false q = let h' : Some (read.Expr m) ≡ None = sym (ap (λ b. wanted_by (outcome_if_alive b (kept_reader S m).outcome) (read.Expr m) rest) q) ∙ h in cc
  live_one (read.Input s) rest h = tt
  live_one (read.Value s) rest h = tt
  live_one (read.Status s) rest h = tt
  live_one (read.Result s) rest h = tt
  live_one (read.Width m) rest h = tt
  live_one (read.Height m) rest h = tt

  -- where nothing is wanted each read is of what lives
  pub live_all : (site : ℕ → Option Outcome) (xs : List TraceEntry) → first_wanted (record { read = kept_answer app S; site = site }) xs ≡ None → EveryRead IsLiveRead xs
  live_all site [] h = tt
  live_all site (reads r ∷ xs) h =
      let rest = first_wanted (record { read = kept_answer app S; site = site }) xs in
      (live_one r rest h, live_all site xs (wanted_none (kept_answer app S r) r rest h))
  live_all site (given s ∷ xs) h = (tt, live_all site xs h)
  live_all site (enters s ∷ xs) h = (tt, live_all site xs h)
  live_all site (leaves s x ∷ xs) h = (tt, live_all site xs h)
