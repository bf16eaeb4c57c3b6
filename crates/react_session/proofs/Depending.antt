-- What the reads of a run leave of the graph.
use Rattle.std.proofs.Common.{◌≡◌, ◌≢◌, inl, inr, ◌<◌, ℕ, zero, suc, true, false, List, [], ◌∷◌, length, refl, sym, ap, ◌∙◌, subst, arith}
use Rattle.std.specs.Prelude.{◌⊎◌, ⊤, slice_set, slice_index_or}
use Rattle.std.proofs.lemmas.List.{length-set}
use Rattle.app_tree.specs.Fresh.{union}
use Rattle.app_tree.specs.Trace.{Every}
use Rattle.app_laws.proofs.WhatIsAsked.{every_map}
use Rattle.session_model.specs.Standing.{KeptSession, kept_reader}
use Rattle.session_steps.specs.Keeping.{reached_by}
use Rattle.session_steps.proofs.Members.{union_same}
use Rattle.dep_graph.specs.declared.on.On.{On}
use Rattle.dep_graph.specs.declared.on.On.TheVariants as on
use Rattle.dep_graph.specs.Contexts.{Stage, idle, alive, running, overtaken, ReaderContext as Context, Contexts, idle_context, context_at, with_context, is_running_stage, is_running, sources_reached, stage_reaching, reaching, with_use, after_depend, closed_stage, after_close}
use Rattle.dep_graph.specs.SameGraph.{HasSameMembers, IsSameStage, IsSameContext, IsSameGraph}
use Rattle.dep_graph.proofs.Same.{IsSameStage-refl}
use Rattle.react_session.specs.inner.Storing.{sources_of_on, with_members, after_depends, StillRuns}
use Rattle.react_session.proofs.ByNumber.{context_here, context_there, by_number, running_alike}

-- ---- graphs that are the same stay so

pub stage-trans : (a b c : Stage) → IsSameStage a b → IsSameStage b c → IsSameStage a c
stage-trans idle idle c p q = q
stage-trans overtaken overtaken c p q = q
stage-trans (alive s) (alive t) (alive u) p q = λ k. p k ∙ q k
stage-trans (alive s) (alive t) c p q = absurd q
stage-trans (running s) (running t) (running u) p q = λ k. p k ∙ q k
stage-trans (running s) (running t) c p q = absurd q
stage-trans a b c p q = absurd p

pub graph-trans : (f g h : Contexts) → IsSameGraph f g → IsSameGraph g h → IsSameGraph f h
graph-trans f g h p q = record {
  sources = p.sources ∙ q.sources;
  count = p.count ∙ q.count;
  each = λ r. record {
    stage = stage-trans (context_at f r).stage (context_at g r).stage (context_at h r).stage (p.each r).stage (q.each r).stage;
    used = (p.each r).used ∙ (q.each r).used;
  };
}

abbrev in_list : List Context → ℕ → Context
in_list cs m = slice_index_or cs m idle_context

set_alike : (cs ds : List Context) (r m : ℕ) (c d : Context) → length cs ≡ length ds → IsSameContext c d → ((m : ℕ) → IsSameContext (in_list cs m) (in_list ds m))
    → IsSameContext (in_list (slice_set cs r c) m) (in_list (slice_set ds r d) m)
set_alike [] [] r m c d e same each = each m
set_alike [] (y ∷ ds) r m c d e same each = absurd (omega (e, arith))
set_alike (x ∷ cs) [] r m c d e same each = absurd (omega (e, arith))
set_alike (x ∷ cs) (y ∷ ds) zero zero c d e same each = same
set_alike (x ∷ cs) (y ∷ ds) zero (suc m) c d e same each = each (suc m)
set_alike (x ∷ cs) (y ∷ ds) (suc r) zero c d e same each = each zero
set_alike (x ∷ cs) (y ∷ ds) (suc r) (suc m) c d e same each = set_alike cs ds r m c d (omega (e, arith)) same (λ k. each (suc k))

with_alike : (g h : Contexts) (r : ℕ) (c d : Context) → IsSameGraph g h → IsSameContext c d → IsSameGraph (with_context r c g) (with_context r d h)
with_alike g h r c d same contexts = record {
  sources = same.sources;
  count = length-set g.readers r c ∙ same.count ∙ sym (length-set h.readers r d);
  each = λ m. set_alike g.readers h.readers r m c d same.count contexts same.each;
}

reaching_stage : (a b : Stage) (xs ys : List ℕ) → HasSameMembers xs ys → IsSameStage a b → IsSameStage (stage_reaching xs a) (stage_reaching ys b)
reaching_stage idle idle xs ys p h = tt
reaching_stage (alive s) (alive t) xs ys p h = h
reaching_stage (running s) (running t) xs ys p h = union_same s xs t ys h p
reaching_stage overtaken overtaken xs ys p h = tt
reaching_stage a b xs ys p h = absurd h

reached_alike : (a b : Stage) → IsSameStage a b → HasSameMembers (sources_reached a) (sources_reached b)
reached_alike idle idle h = λ k. refl
reached_alike (alive s) (alive t) h = h
reached_alike (running s) (running t) h = h
reached_alike overtaken overtaken h = λ k. refl
reached_alike a b h = absurd h

closed_alike : (a b : Stage) → IsSameStage a b → IsSameStage (closed_stage a) (closed_stage b)
closed_alike idle idle h = tt
closed_alike (alive s) (alive t) h = tt
closed_alike (running s) (running t) h = h
closed_alike overtaken overtaken h = tt
closed_alike a b h = absurd h

reaching_alike : (g h : Contexts) (r : ℕ) (xs ys : List ℕ) → HasSameMembers xs ys → IsSameGraph g h → IsSameGraph (reaching r xs g) (reaching r ys h)
reaching_alike g h r xs ys p same =
    with_alike g h r (record (context_at g r) { stage = stage_reaching xs (context_at g r).stage }) (record (context_at h r) { stage = stage_reaching ys (context_at h r).stage }) same
    (record { stage = reaching_stage (context_at g r).stage (context_at h r).stage xs ys p (same.each r).stage; used = (same.each r).used })

use_alike : (g h : Contexts) (e : ℕ) → IsSameGraph g h → IsSameGraph (with_use e g) (with_use e h)
use_alike g h e same =
    with_alike g h e (record (context_at g e) { used = true }) (record (context_at h e) { used = true }) same
    (record { stage = (same.each e).stage; used = refl })

depend_alike : (n : ℕ) (o : On) (g h : Contexts) → IsSameGraph g h → IsSameGraph (after_depend n o g) (after_depend n o h)
depend_alike n (on.Source s) g h same = reaching_alike g h n (s ∷ []) (s ∷ []) (λ k. refl) same
depend_alike n (on.Expr e) g h same =
    reaching_alike (with_use e g) (with_use e h) n (sources_reached (context_at g e).stage) (sources_reached (context_at h e).stage)
    (reached_alike (context_at g e).stage (context_at h e).stage (same.each e).stage) (use_alike g h e same)

pub depends_alike : (n : ℕ) (os : List On) (g h : Contexts) → IsSameGraph g h → IsSameGraph (after_depends n os g) (after_depends n os h)
depends_alike n [] g h same = same
depends_alike n (o ∷ os) g h same = depends_alike n os (after_depend n o g) (after_depend n o h) (depend_alike n o g h same)

pub close_alike : (n : ℕ) (g h : Contexts) → IsSameGraph g h → IsSameGraph (after_close n g) (after_close n h)
close_alike n g h same =
    with_alike g h n (record { stage = closed_stage (context_at g n).stage; used = false }) (record { stage = closed_stage (context_at h n).stage; used = false }) same
    (record { stage = closed_alike (context_at g n).stage (context_at h n).stage (same.each n).stage; used = refl })

-- ---- what a use leaves

set_either : (cs : List Context) (r m : ℕ) (c : Context) → ((m ≡ r) × (in_list (slice_set cs r c) m ≡ c)) ⊎ (in_list (slice_set cs r c) m ≡ in_list cs m)
set_either [] r m c = inr refl
set_either (x ∷ cs) zero zero c = inl (refl, refl)
set_either (x ∷ cs) zero (suc m) c = inr refl
set_either (x ∷ cs) (suc r) zero c = inr refl
set_either (x ∷ cs) (suc r) (suc m) c = elim (set_either cs r m c) [ inl p ↦ inl (ap suc p.0, p.1) | inr q ↦ inr q ]

use_stage : (g : Contexts) (e m : ℕ) → (context_at (with_use e g) m).stage ≡ (context_at g m).stage
use_stage g e m = elim (set_either g.readers e m (record (context_at g e) { used = true })) [
  | inl p ↦ ap (λ (c : Context). c.stage) p.1 ∙ ap (λ z. (context_at g z).stage) (sym p.0)
  | inr q ↦ ap (λ (c : Context). c.stage) q
]

use_used : (g : Contexts) (e m : ℕ) → (context_at (with_use e g) m).used ≡ true → (m ≡ e) ⊎ ((context_at g m).used ≡ true)
use_used g e m h = elim (set_either g.readers e m (record (context_at g e) { used = true })) [
  | inl p ↦ inl p.0
  | inr q ↦ inr (sym (ap (λ (c : Context). c.used) q) ∙ h)
]

-- ---- one read after another

-- h is g after reads by which reader n has reached these sources; `P` holds of whom others have read
pub record Depended (n : ℕ) (P : ℕ → Type 0) (g h : Contexts) (reached : List ℕ) : Type 0 where
  pub sources : h.sources ≡ g.sources
  pub count : length h.readers ≡ length g.readers
  pub stages : (m : ℕ) → m ≢ n → (context_at h m).stage ≡ (context_at g m).stage
  pub here : (context_at h n).stage ≡ running reached
  pub used : (m : ℕ) → (context_at h m).used ≡ true → P m

abbrev pub Leads : KeptSession → ℕ → (ℕ → Type 0) → Contexts → On → Type 0
Leads session n P g (on.Source s) = ⊤
Leads session n P g (on.Expr e) = (e ≢ n) × (sources_reached (context_at g e).stage ≡ reached_by (kept_reader session e).dependence) × P e

module _ (n : ℕ) (P : ℕ → Type 0) where
  reach_more : (g : Contexts) (more reached : List ℕ) → n < length g.readers → (context_at g n).stage ≡ running reached → ((m : ℕ) → (context_at g m).used ≡ true → P m)
      → Depended n P g (reaching n more g) (union reached more)
  reach_more g more reached within here used =
      let now : Context = record (context_at g n) { stage = stage_reaching more (context_at g n).stage } in
      let at = context_here g n now within in
      record {
        sources = refl;
        count = length-set g.readers n now;
        stages = λ m d. ap (λ (c : Context). c.stage) (context_there g n m now d);
        here = ap (λ (c : Context). c.stage) at ∙ ap (stage_reaching more) here;
        used = by_number (λ m. (context_at (reaching n more g) m).used ≡ true → P m) n
            (λ h. used n (sym (ap (λ (c : Context). c.used) at) ∙ h))
            (λ m d h. used m (sym (ap (λ (c : Context). c.used) (context_there g n m now d)) ∙ h));
      }

  module _ (session : KeptSession) where
    depend_once : (g : Contexts) (o : On) (reached : List ℕ) → n < length g.readers → (context_at g n).stage ≡ running reached → ((m : ℕ) → (context_at g m).used ≡ true → P m)
        → Leads session n P g o → Depended n P g (after_depend n o g) (union reached (sources_of_on session o))
    depend_once g (on.Source s) reached within here used leads = reach_more g (s ∷ []) reached within here used
    depend_once g (on.Expr e) reached within here used leads =
        let f = with_use e g in
        let size : length f.readers ≡ length g.readers = length-set g.readers e (record (context_at g e) { used = true }) in
        let rest = reach_more f (sources_reached (context_at g e).stage) reached (subst (λ z. n < z) (sym size) within) (use_stage g e n ∙ here)
        (λ m h. elim (use_used g e m h) [ inl p ↦ subst P (sym p) leads.2 | inr q ↦ used m q ]) in
        record {
          sources = rest.sources;
          count = rest.count ∙ size;
          stages = λ m d. rest.stages m d ∙ use_stage g e m;
          here = rest.here ∙ ap (λ l. running (union reached l)) leads.1;
          used = rest.used;
        }

    leads_on : (g h : Contexts) → ((m : ℕ) → m ≢ n → (context_at h m).stage ≡ (context_at g m).stage) → (o : On) → Leads session n P g o → Leads session n P h o
    leads_on g h stages (on.Source s) l = tt
    leads_on g h stages (on.Expr e) l = (l.0, ap sources_reached (stages e l.0) ∙ l.1, l.2)

    pub depend_all : (os : List On) (g : Contexts) (reached : List ℕ) → n < length g.readers → (context_at g n).stage ≡ running reached → ((m : ℕ) → (context_at g m).used ≡ true → P m)
        → Every (Leads session n P g) os → Depended n P g (after_depends n os g) (with_members session reached os)
    depend_all [] g reached within here used leads = record { sources = refl; count = refl; stages = λ m d. refl; here = here; used = used }
    depend_all (o ∷ os) g reached within here used leads =
        let h = after_depend n o g in
        let one = depend_once g o reached within here used leads.0 in
        let rest = depend_all os h (union reached (sources_of_on session o)) (subst (λ z. n < z) (sym one.count) within) one.here one.used
        (every_map (Leads session n P g) (Leads session n P h) (leads_on g h one.stages) os leads.1) in
        record {
          sources = rest.sources ∙ one.sources;
          count = rest.count ∙ one.count;
          stages = λ m d. rest.stages m d ∙ one.stages m d;
          here = rest.here;
          used = rest.used;
        }

-- ---- the reader runs on

runs_on : (t : Stage) (more : List ℕ) → is_running_stage t ≡ true → is_running_stage (stage_reaching more t) ≡ true
runs_on idle more h = h
runs_on (alive s) more h = h
runs_on (running s) more h = h
runs_on overtaken more h = h

pub equal_stages : (a b : Stage) → a ≡ b → IsSameStage a b
equal_stages a b e = subst (IsSameStage a) e (IsSameStage-refl a)

reach_runs : (n : ℕ) (more : List ℕ) (g : Contexts) → n < length g.readers → is_running g n ≡ true → StillRuns n g (reaching n more g)
reach_runs n more g within runs =
    let now : Context = record (context_at g n) { stage = stage_reaching more (context_at g n).stage } in
    record {
      sources = refl;
      count = length-set g.readers n now;
      others = λ m d. equal_stages (context_at (reaching n more g) m).stage (context_at g m).stage (ap (λ (c : Context). c.stage) (context_there g n m now d));
      runs = ap (λ (c : Context). is_running_stage c.stage) (context_here g n now within) ∙ runs_on (context_at g n).stage more runs;
    }

pub depend_runs : (n : ℕ) (o : On) (g : Contexts) → n < length g.readers → is_running g n ≡ true → StillRuns n g (after_depend n o g)
depend_runs n (on.Source s) g within runs = reach_runs n (s ∷ []) g within runs
depend_runs n (on.Expr e) g within runs =
    let f = with_use e g in
    let size : length f.readers ≡ length g.readers = length-set g.readers e (record (context_at g e) { used = true }) in
    let rest = reach_runs n (sources_reached (context_at g e).stage) f (subst (λ z. n < z) (sym size) within) (ap is_running_stage (use_stage g e n) ∙ runs) in
    record {
      sources = rest.sources;
      count = rest.count ∙ size;
      others = λ m d. stage-trans (context_at (after_depend n (on.Expr e) g) m).stage (context_at f m).stage (context_at g m).stage (rest.others m d) (equal_stages (context_at f m).stage (context_at g m).stage (use_stage g e m));
      runs = rest.runs;
    }

runs_further : (n : ℕ) (f g h : Contexts) → StillRuns n f g → StillRuns n g h → StillRuns n f h
runs_further n f g h p q = record {
  sources = q.sources ∙ p.sources;
  count = q.count ∙ p.count;
  others = λ m d. stage-trans (context_at h m).stage (context_at g m).stage (context_at f m).stage (q.others m d) (p.others m d);
  runs = q.runs;
}

runs_alike : (n : ℕ) (f g h : Contexts) → IsSameGraph h g → StillRuns n f g → StillRuns n f h
runs_alike n f g h same p = record {
  sources = same.sources ∙ p.sources;
  count = same.count ∙ p.count;
  others = λ m d. stage-trans (context_at h m).stage (context_at g m).stage (context_at f m).stage (same.each m).stage (p.others m d);
  runs = running_alike h g n same ∙ p.runs;
}

-- one more read in a loop over them
pub more_runs : (n : ℕ) (o : On) (f g h : Contexts) → n < length f.readers → StillRuns n f g → IsSameGraph h (after_depend n o g) → StillRuns n f h
more_runs n o f g h within p same =
    runs_alike n f (after_depend n o g) h same (runs_further n f g (after_depend n o g) p (depend_runs n o g (subst (λ z. n < z) (sym p.count) within) p.runs))

pub more_reached : (n : ℕ) (o : On) (os : List On) (g h end : Contexts) → IsSameGraph h (after_depend n o g) → IsSameGraph (after_depends n (o ∷ os) g) end → IsSameGraph (after_depends n os h) end
more_reached n o os g h end same rest = graph-trans (after_depends n os h) (after_depends n os (after_depend n o g)) end (depends_alike n os h (after_depend n o g) same) rest
