-- How what is done for one reader goes together.
use Rattle.std.proofs.Common.{◌≡◌, ◌≤◌, ◌<◌, ℕ, suc, ◌+◌, Bool, true, false, List, [], ◌++◌, length, Some, Ok, Err, ◌*◌, refl, sym, ◌∙◌, subst, arith, add-zero}
use Rattle.std.specs.Prelude.{Result, OnOk, OnErr}
use Rattle.std.proofs.lemmas.List.{length-append}
use Rattle.rx_value.specs.declared.memory.Memory.{Memory}
use Rattle.rx_value.specs.declared.outcome.Outcome.{Outcome}
use Rattle.app_tree.specs.declared.term.Read.TheVariants as read
use Rattle.app_tree.specs.Held.{Held}
use Rattle.app_tree.specs.Tree.{Shape}
use Rattle.app_tree.specs.View.{shape_of}
use Rattle.app_tree.specs.Trace.{Every}
use Rattle.app_laws.proofs.WhatIsAsked.{every_map}
use Rattle.session_model.specs.Standing.{KeptSession}
use Rattle.session_steps.specs.Keeping.{lives, wanted, IsAlike}
use Rattle.session_steps.specs.Bringing.{Aim, reading, running, Brings, Begins, IsLost}
use Rattle.dep_graph.specs.declared.on.On.{On}
use Rattle.term_eval.specs.Lent.{Lent}
use Rattle.react_session.specs.Keeping.{Keeping}
use Rattle.react_session.specs.Forcing.{Forced}
use Rattle.react_session.specs.inner.Making.{bound_at, IsFrom, MayMake, Comes, Makes}
use Rattle.react_session.specs.inner.Storing.{stored_kept}
use Rattle.session_steps.proofs.AlikeSessions.{alike_itself}
use Rattle.react_session.proofs.Ended.{Ended}

-- ---- sessions

-- what isn't changed is lost nowhere
pub lost_nowhere : (n : ℕ) (s : KeptSession) → IsLost n s s
lost_nowhere n s = record { values = refl; size = refl; readers = λ j d. (alike_itself s).readers j; dead = λ h. h; running = refl }

-- counts of two steps
joined_counts : (t t' t'' : ℕ) (xs ys : List ℕ) → t' ≡ t + length xs → t'' ≡ t' + length ys → t'' ≡ t + length (xs ++ ys)
joined_counts t t' t'' xs ys p q = let h = length-append xs ys in omega (p, q, h, arith)

comes_dead : {A : Type 0} (app : Shape) (n : ℕ) (s s' : KeptSession) (t t' : ℕ) (result : Result A Memory) → lives s n ≡ false → Comes app running n s s' t t' result → Comes app reading n s s' t t' result
comes_dead app n s s' t t' (Ok x) d f = record { bodies = f.bodies; brings = Brings.dead f.bodies n s s' d f.brings; counts = f.counts }
comes_dead app n s s' t t' (Err e) d f = record { bodies = f.bodies; begins = Begins.dead f.bodies n s s' d f.begins; counts = f.counts }

comes_waits : {A : Type 0} (app : Shape) (n m : ℕ) (s s' s'' : KeptSession) (t t' t'' : ℕ) (result : Result A Memory) → wanted app s n ≡ Some (read.Expr m)
    → Forced app reading m s s' t t' → Comes app running n s' s'' t' t'' result → Comes app running n s s'' t t'' result
comes_waits app n m s s' s'' t t' t'' (Ok x) w f g = record {
  bodies = f.bodies ++ g.bodies;
  brings = Brings.waits f.bodies g.bodies n m s s' s'' w f.brings g.brings;
  counts = joined_counts t t' t'' f.bodies g.bodies f.counts g.counts;
}
comes_waits app n m s s' s'' t t' t'' (Err e) w f g = record {
  bodies = f.bodies ++ g.bodies;
  begins = Begins.later f.bodies g.bodies n m s s' s'' w f.brings g.begins;
  counts = joined_counts t t' t'' f.bodies g.bodies f.counts g.counts;
}

-- ---- what may be done next

-- what is out is above whatever is lower
pub may_lower : (app : Shape) (whole : Bool) (asked : Shape) (k l : ℕ) (out : List Lent) → k ≤ l → MayMake app whole asked l out → MayMake app whole asked k out
may_lower app whole asked k l out h may = record {
  found = may.found;
  of_app = may.of_app;
  above = every_map (IsFrom app l) (IsFrom app k) (λ lent f. omega (h, f, arith)) out may.above;
}

-- the same where the app, the asker and what is out are the same
pub may_still : (app app' : Shape) (whole whole' : Bool) (asked asked' : Shape) (k : ℕ) (out out' : List Lent) → app' ≡ app → whole' ≡ true → asked' ≡ asked → out' ≡ out
    → MayMake app whole asked (suc (bound_at app k)) out → MayMake app' whole' asked' (suc (bound_at app' k)) out'
may_still app app' whole whole' asked asked' k out out' e found same left may =
    subst (λ z. MayMake z whole' asked' (suc (bound_at z k)) out') (sym e)
    (record { found = found; of_app = same ∙ may.of_app; above = subst (Every (IsFrom app (suc (bound_at app k)))) (sym left) may.above })

pub may_still_behind : (app app' : Shape) (whole whole' : Bool) (asked asked' : Shape) (k : ℕ) (out out' : List Lent) → app' ≡ app → whole' ≡ true → asked' ≡ asked → out' ≡ out
    → MayMake app whole asked (bound_at app k) out → MayMake app' whole' asked' (bound_at app' k) out'
may_still_behind app app' whole whole' asked asked' k out out' e found same left may =
    subst (λ z. MayMake z whole' asked' (bound_at z k) out') (sym e)
    (record { found = found; of_app = same ∙ may.of_app; above = subst (Every (IsFrom app (bound_at app k))) (sym left) may.above })

-- ---- what is done

module _ {S A : Type 0} (follows : S → S → Type 0) (out : S → List Lent) where
  abbrev pub Does : List Lent → Aim → ℕ → Keeping → Keeping → S → S → ℕ → ℕ → Result A Memory → Type 0
  Does = Makes follows out

  -- nothing was counted before
  pub from_start : {left : List Lent} {aim : Aim} {n : ℕ} {old new : Keeping} {a a' : S} {t' : ℕ} {result : Result A Memory} (t u : ℕ) → u ≡ t + 0
      → Does left aim n old new a a' u t' result → Does left aim n old new a a' t t' result
  from_start {left} {aim} {n} {old} {new} {a} {a'} {t'} {result} t u none f = subst (λ z. Does left aim n old new a a' z t' result) (none ∙ add-zero t) f

  -- it lives, and nothing was done
  pub made_living : (n : ℕ) (k : Keeping) (a : S) (t : ℕ) (x : A) → k.whole ≡ true → lives k.session n ≡ true → follows a a → Does (out a) reading n k k a a t t (Ok x)
  made_living n k a t x whole live stays = record {
    app = refl;
    comes = record { bodies = []; brings = Brings.living n k.session live; counts = omega arith };
    whole = whole;
    succeeds = stays;
    leaves = refl;
  }

  -- what is run where it isn't alive is made alive
  pub made_dead : (left : List Lent) (n : ℕ) (old new : Keeping) (a a' : S) (t t' : ℕ) (result : Result A Memory) → lives old.session n ≡ false
      → Does left running n old new a a' t t' result → Does left reading n old new a a' t t' result
  made_dead left n old new a a' t t' result dead f = record {
    app = f.app;
    comes = comes_dead (shape_of old.app) n old.session new.session t t' result dead f.comes;
    whole = f.whole;
    succeeds = f.succeeds;
    leaves = f.leaves;
  }

  -- memory is wanting before anything is kept; `bodies` were run
  pub made_lost : (left : List Lent) (n : ℕ) (old new : Keeping) (a a' : S) (t : ℕ) (e : Memory) → new.app ≡ old.app → new.session ≡ old.session → new.whole ≡ false
      → follows a' a → out a' ≡ left → (t' : ℕ) → t' ≡ t → Does left running n old new a a' t t' (Err e)
  made_lost left n old new a a' t e app same lost succeeds leaves t' count = record {
    app = app;
    comes = record {
      bodies = [];
      begins = subst (λ z. Begins (shape_of old.app) running [] n old.session z) (sym same) (Begins.none running n old.session old.session (lost_nowhere n old.session));
      counts = omega (count, arith);
    };
    whole = lost;
    succeeds = succeeds;
    leaves = leaves;
  }

  -- what a run came to was kept, or memory was wanting for that
  pub made_ended : (left : List Lent) (n : ℕ) (old new : Keeping) (a a' : S) (t t' c : ℕ) (ons : List On) (sites : List (ℕ × Outcome)) (y : Outcome) (result : Result A Memory)
      → Ended (shape_of old.app) n old.session c ons sites y → new.app ≡ old.app
      → OnOk result (IsAlike (stored_kept n ons sites y old.session) new.session) → OnOk result (new.whole ≡ true)
      → OnErr result (IsLost n old.session new.session) → OnErr result (new.whole ≡ false)
      → follows a' a → out a' ≡ left → t' ≡ t + c → Does left running n old new a a' t t' result
  made_ended left n old new a a' t t' c ons sites y (Ok x) ended app stored whole lost broken succeeds leaves count = record {
    app = app;
    comes = record { bodies = ended.bodies; brings = ended.brings new.session stored; counts = let h = ended.counts in omega (count, h, arith) };
    whole = whole;
    succeeds = succeeds;
    leaves = leaves;
  }
  made_ended left n old new a a' t t' c ons sites y (Err e) ended app stored whole lost broken succeeds leaves count = record {
    app = app;
    comes = record { bodies = ended.bodies; begins = ended.begins new.session lost; counts = let h = ended.counts in omega (count, h, arith) };
    whole = broken;
    succeeds = succeeds;
    leaves = leaves;
  }

  module _ (chains : (a b c : S) → follows b a → follows c b → follows c a) where
    -- the asker was asked before
    pub made_later : (left : List Lent) (aim : Aim) (n : ℕ) (old new : Keeping) (a b c : S) (t t' : ℕ) (result : Result A Memory) → follows b a
        → Does left aim n old new b c t t' result → Does left aim n old new a c t t' result
    made_later left aim n old new a b c t t' result f g = record { app = g.app; comes = g.comes; whole = g.whole; succeeds = chains a b c f g.succeeds; leaves = g.leaves }

    -- a wanted expression was made alive, and then the reader was run
    pub made_waits : (between left : List Lent) (n m : ℕ) (old mid new : Keeping) (a b c : S) (t t' t'' : ℕ) (x : A) (result : Result A Memory)
        → wanted (shape_of old.app) old.session n ≡ Some (read.Expr m)
        → Does between reading m old mid a b t t' (Ok x) → Does left running n mid new b c t' t'' result → Does left running n old new a c t t'' result
    made_waits between left n m old mid new a b c t t' t'' x result w f g = record {
      app = g.app ∙ f.app;
      comes = comes_waits (shape_of old.app) n m old.session mid.session new.session t t' t'' result w f.comes
          (subst (λ (h : Held). Comes (shape_of h) running n mid.session new.session t' t'' result) f.app g.comes);
      whole = g.whole;
      succeeds = chains a b c f.succeeds g.succeeds;
      leaves = g.leaves;
    }

    -- memory was wanting as it was made alive
    pub made_within : (between left : List Lent) (n m : ℕ) (old new : Keeping) (a b c : S) (t t' : ℕ) (e e' : Memory)
        → wanted (shape_of old.app) old.session n ≡ Some (read.Expr m)
        → Does between reading m old new a b t t' (Err e) → follows c b → out c ≡ left → Does left running n old new a c t t' (Err e')
    made_within between left n m old new a b c t t' e e' w f then_follows leaves = record {
      app = f.app;
      comes = record { bodies = f.comes.bodies; begins = Begins.within f.comes.bodies n m old.session new.session w f.comes.begins; counts = f.comes.counts };
      whole = f.whole;
      succeeds = chains a b c f.succeeds then_follows;
      leaves = leaves;
    }

-- ---- what is left to do

-- on a session or for a reader in which fewer aren't alive, whatever the rank
pub less_left : (t d e r q : ℕ) → 6 * d + r ≡ t → e < d → q < 6 → 6 * e + q < t
less_left t d e r q h f g = omega (h, f, g, arith)

-- for the same reader on the same session with a lower rank
pub later_left : (t d r q : ℕ) → 6 * d + r ≡ t → q < r → 6 * d + q < t
later_left t d r q h f = omega (h, f, arith)
