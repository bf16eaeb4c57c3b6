-- Contexts and what is kept, by reader number.
use Rattle.std.proofs.Common.{◌≡◌, ◌≢◌, inl, inr, ◌<◌, ℕ, zero, suc, true, false, List, [], ◌∷◌, length, Option, Some, None, refl, sym, ap, ◌∙◌, subst, arith, get_or}
use Rattle.std.specs.Prelude.{slice_set}
use Rattle.std.specs.Option.{option_eq}
use Rattle.std.proofs.Math.Dec.{eqb}
use Rattle.std.proofs.lemmas.Bool.Decides.{eqb_tells}
use Rattle.std.proofs.lemmas.List.{get_or-set_same, get_or-set_other}
use Rattle.std.proofs.Math.ListN.{get_or-map}
use Rattle.dep_graph.specs.Contexts.{Stage, idle, alive, running, overtaken, ReaderContext as Context, Contexts, idle_context, context_at, with_context, is_alive_stage, is_running_stage, is_alive, is_running, changed_context, after_change}
use Rattle.dep_graph.specs.SameGraph.{IsSameStage, IsSameGraph}
use Rattle.react_session.specs.declared.kept.Kept.{Kept}
use Rattle.react_session.specs.Seen.{is_observing, blank, kept_at}

pub context_here : (g : Contexts) (n : ℕ) (c : Context) → n < length g.readers → context_at (with_context n c g) n ≡ c
context_here g n c h = get_or-set_same g.readers n c idle_context h

pub context_there : (g : Contexts) (n m : ℕ) (c : Context) → m ≢ n → context_at (with_context n c g) m ≡ context_at g m
context_there g n m c d = get_or-set_other g.readers n m c idle_context d

pub kept_here : (ks : List Kept) (n : ℕ) (k : Kept) → n < length ks → kept_at (slice_set ks n k) n ≡ k
kept_here ks n k h = get_or-set_same ks n k blank h

pub kept_there : (ks : List Kept) (n m : ℕ) (k : Kept) → m ≢ n → kept_at (slice_set ks n k) m ≡ kept_at ks m
kept_there ks n m k d = get_or-set_other ks n m k blank d

pub context_changed : (s : ℕ) (g : Contexts) (m : ℕ) → context_at (after_change s g) m ≡ changed_context s (context_at g m)
context_changed s g m = get_or-map (changed_context s) g.readers m idle_context

running_in : (cs : List Context) (n : ℕ) → is_running_stage (get_or cs n idle_context).stage ≡ true → n < length cs
running_in [] n h = cc
running_in (c ∷ cs) zero h = omega arith
running_in (c ∷ cs) (suc n) h = let rest = running_in cs n h in omega (rest, arith)

-- beyond the readers none runs
pub running_within : (g : Contexts) (n : ℕ) → is_running g n ≡ true → n < length g.readers
running_within g n h = running_in g.readers n h

-- what is read there, whatever would be read beyond
pub kept_read : (ks : List Kept) (n : ℕ) (k : Kept) → n < length ks → k ≡ get_or ks n k → k ≡ kept_at ks n
kept_read [] n k h is = absurd (omega (h, arith))
kept_read (x ∷ ks) zero k h is = is
kept_read (x ∷ ks) (suc n) k h is = kept_read ks n k (omega (h, arith)) is

-- ---- the observer

pub same_number : {n m : ℕ} → Some n ≡ Some m → n ≡ m
same_number h = cc

pub none_runs : {m : ℕ} → None ≡ Some m → ⊥
none_runs h = cc

pub observing_is : (o : Option ℕ) (n : ℕ) → option_eq eqb o (Some n) ≡ is_observing o n
observing_is None n = refl
observing_is (Some k) n = refl

pub observes_itself : (n : ℕ) → is_observing (Some n) n ≡ true
observes_itself n = elim (eqb_tells n n) [ inl p ↦ p.0 | inr p ↦ absurd (p.1 refl) ]

pub observes_no_other : (n m : ℕ) → m ≢ n → is_observing (Some n) m ≡ false
observes_no_other n m d = elim (eqb_tells n m) [ inl p ↦ absurd (d (sym p.1)) | inr p ↦ p.0 ]

-- ---- graphs that differ in the order of sources alone

pub stage-sym : (a b : Stage) → IsSameStage a b → IsSameStage b a
stage-sym idle idle h = tt
stage-sym (alive s) (alive t) h = λ k. sym (h k)
stage-sym (running s) (running t) h = λ k. sym (h k)
stage-sym overtaken overtaken h = tt
stage-sym a b h = absurd h

pub graph-sym : (g h : Contexts) → IsSameGraph g h → IsSameGraph h g
graph-sym g h same = record {
  sources = sym same.sources;
  count = sym same.count;
  each = λ r. record { stage = stage-sym (context_at g r).stage (context_at h r).stage (same.each r).stage; used = sym (same.each r).used };
}

pub stage_alive : (a b : Stage) → IsSameStage a b → is_alive_stage a ≡ is_alive_stage b
stage_alive idle idle h = refl
stage_alive (alive s) (alive t) h = refl
stage_alive (running s) (running t) h = refl
stage_alive overtaken overtaken h = refl
stage_alive a b h = absurd h

pub stage_running : (a b : Stage) → IsSameStage a b → is_running_stage a ≡ is_running_stage b
stage_running idle idle h = refl
stage_running (alive s) (alive t) h = refl
stage_running (running s) (running t) h = refl
stage_running overtaken overtaken h = refl
stage_running a b h = absurd h

pub alive_alike : (g h : Contexts) (n : ℕ) → IsSameGraph g h → is_alive g n ≡ is_alive h n
alive_alike g h n same = stage_alive (context_at g n).stage (context_at h n).stage (same.each n).stage

pub running_alike : (g h : Contexts) (n : ℕ) → IsSameGraph g h → is_running g n ≡ is_running h n
running_alike g h n same = stage_running (context_at g n).stage (context_at h n).stage (same.each n).stage

-- ---- one number, and every other one

pub by_number : (P : ℕ → Type 0) (n : ℕ) → P n → ((m : ℕ) → m ≢ n → P m) → (m : ℕ) → P m
by_number P n here there m = elim (eqb_tells m n) [ inl p ↦ subst P (sym p.1) here | inr p ↦ there m p.1 ]

module _ (after h : Contexts) (same : IsSameGraph after h) (m : ℕ) (c : Context) (is : context_at h m ≡ c) where
  pub alive_at : is_alive after m ≡ is_alive_stage c.stage
  alive_at = alive_alike after h m same ∙ ap (λ (x : Context). is_alive_stage x.stage) is

  pub running_at : is_running after m ≡ is_running_stage c.stage
  running_at = running_alike after h m same ∙ ap (λ (x : Context). is_running_stage x.stage) is

  pub used_at : (context_at after m).used ≡ c.used
  used_at = (same.each m).used ∙ ap (λ (x : Context). x.used) is
