-- Contexts that are the same up to the order of sources: equal ones are, and no answer tells them apart.
use Rattle.std.proofs.Common.{◌≡◌, ℕ, suc, ◌+◌, List, [], ◌∷◌, ◌++◌, Bool, true, false, cond, zero, map, length, get_or, refl, sym, ◌∙◌, subst, arith}
use Rattle.std.proofs.lemmas.Bool.{cases_eq}
use Rattle.std.proofs.lemmas.List.{length-map}
use Rattle.std.proofs.lemmas.List.Folds.{list_any-append}
use Rattle.std.proofs.lemmas.Bool.Decides.{nat_tests}
use Rattle.std.specs.Prelude.{◌==◌, ◌||◌}
use Rattle.app_tree.specs.Fresh.{is_among, union}
use Rattle.dep_graph.specs.SameGraph.{HasSameMembers}
use Rattle.dep_graph.specs.Conditions.{IsWithin, MayDepend}
use Rattle.dep_graph.specs.declared.on.On.{On}
use Rattle.dep_graph.specs.declared.on.On.TheVariants as on
use Rattle.std.proofs.Common.{◌≢◌, ◌<◌, ⊎_elim, get_or-set_other, get_or-set_same, length-set, ap}
use Rattle.dep_graph.specs.Contexts.{with_context, with_use, reaching, stage_reaching, sources_reached, after_depend, after_open, after_close, after_change, changed_context, marked_stage, closed_stage, Stage, idle, alive, running, overtaken, ReaderContext, Contexts, idle_context, context_at, is_alive_stage, is_running_stage, is_alive, is_running, is_marked, marked_from, marked_readers}
use Rattle.dep_graph.specs.SameGraph.{IsSameStage, IsSameContext, IsSameGraph}

pub IsSameStage-refl : (stage : Stage) → IsSameStage stage stage
IsSameStage-refl idle = tt
IsSameStage-refl (alive sources) = λ s. refl
IsSameStage-refl (running sources) = λ s. refl
IsSameStage-refl overtaken = tt

pub IsSameGraph-refl : (g : Contexts) → IsSameGraph g g
IsSameGraph-refl g = record {
  sources = refl;
  count = refl;
  each = λ r. record { stage = IsSameStage-refl (context_at g r).stage; used = refl };
}

pub IsSameGraph-equal : (g h : Contexts) → g ≡ h → IsSameGraph g h
IsSameGraph-equal g h is = subst (IsSameGraph g) is (IsSameGraph-refl g)

pub IsSameStage-sym : (a b : Stage) → IsSameStage a b → IsSameStage b a
IsSameStage-sym idle idle h = tt
IsSameStage-sym (alive sources) (alive others) h = λ s. sym (h s)
IsSameStage-sym (running sources) (running others) h = λ s. sym (h s)
IsSameStage-sym overtaken overtaken h = tt
IsSameStage-sym _ _ h = absurd h

pub IsSameGraph-sym : (g h : Contexts) → IsSameGraph g h → IsSameGraph h g
IsSameGraph-sym g h same = record {
  sources = sym same.sources;
  count = sym same.count;
  each = λ r. record { stage = IsSameStage-sym (context_at g r).stage (context_at h r).stage (same.each r).stage; used = sym (same.each r).used };
}

alive-same : (a b : Stage) → IsSameStage a b → is_alive_stage a ≡ is_alive_stage b
alive-same idle idle h = refl
alive-same (alive sources) (alive others) h = refl
alive-same (running sources) (running others) h = refl
alive-same overtaken overtaken h = refl
alive-same _ _ h = absurd h

running-same : (a b : Stage) → IsSameStage a b → is_running_stage a ≡ is_running_stage b
running-same idle idle h = refl
running-same (alive sources) (alive others) h = refl
running-same (running sources) (running others) h = refl
running-same overtaken overtaken h = refl
running-same _ _ h = absurd h

marked-same : (s : ℕ) (a b : Stage) → IsSameStage a b → is_marked s a ≡ is_marked s b
marked-same s idle idle h = refl
marked-same s (alive sources) (alive others) h = h s
marked-same s (running sources) (running others) h = h s
marked-same s overtaken overtaken h = refl
marked-same s _ _ h = absurd h

pub is_alive-same : (g h : Contexts) (r : ℕ) → IsSameGraph g h → is_alive g r ≡ is_alive h r
is_alive-same g h r same = alive-same (context_at g r).stage (context_at h r).stage (same.each r).stage

pub is_running-same : (g h : Contexts) (r : ℕ) → IsSameGraph g h → is_running g r ≡ is_running h r
is_running-same g h r same = running-same (context_at g r).stage (context_at h r).stage (same.each r).stage

marked_from-same : (s r : ℕ) (xs ys : List ReaderContext) → length xs ≡ length ys → ((k : ℕ) → IsSameContext (get_or xs k idle_context) (get_or ys k idle_context)) → marked_from s r xs ≡ marked_from s r ys
marked_from-same s r [] [] long each = refl
marked_from-same s r [] (y ∷ ys) long each = absurd (omega (arith, long))
marked_from-same s r (x ∷ xs) [] long each = absurd (omega (arith, long))
marked_from-same s r (x ∷ xs) (y ∷ ys) long each =
    let marks = marked-same s x.stage y.stage (each 0).stage in
    let rest = marked_from-same s (r + 1) xs ys (omega (arith, long)) (λ k. each (suc k)) in
    λ i. cond (marks i) (r ∷ rest i) (rest i)

pub marked_readers-same : (s : ℕ) (g h : Contexts) → IsSameGraph g h → marked_readers s g ≡ marked_readers s h
marked_readers-same s g h same = marked_from-same s 0 g.readers h.readers same.count same.each

-- ---- the same graphs are the same again after the same call

told_alike : (a b c d : ReaderContext) → a ≡ c → b ≡ d → IsSameContext c d → IsSameContext a b
told_alike a b c d p q h = subst (λ (x : ReaderContext). IsSameContext x b) (sym p) (subst (λ (y : ReaderContext). IsSameContext c y) (sym q) h)

pub with_context-same : (g h : Contexts) (r : ℕ) (c d : ReaderContext) → r < length g.readers → IsSameGraph g h → IsSameContext c d → IsSameGraph (with_context r c g) (with_context r d h)
with_context-same g h r c d within same alike = record {
  sources = same.sources;
  count = length-set g.readers r c ∙ same.count ∙ sym (length-set h.readers r d);
  each = λ k. ⊎_elim
      (λ (e : k ≡ r). told_alike _ _ c d
      (ap (λ n. get_or (with_context r c g).readers n idle_context) e ∙ get_or-set_same g.readers r c idle_context within)
      (ap (λ n. get_or (with_context r d h).readers n idle_context) e ∙ get_or-set_same h.readers r d idle_context (omega (arith, within, same.count))) alike)
      (λ (n : k ≢ r). told_alike _ _ (context_at g k) (context_at h k)
      (get_or-set_other g.readers r k c idle_context n) (get_or-set_other h.readers r k d idle_context n) (same.each k))
      (cases_eq k r);
}

pub after_open-same : (g h : Contexts) (r : ℕ) → r < length g.readers → IsSameGraph g h → IsSameGraph (after_open r g) (after_open r h)
after_open-same g h r within same = with_context-same g h r (record (context_at g r) { stage = running [] }) (record (context_at h r) { stage = running [] }) within same
    (record { stage = λ s. refl; used = (same.each r).used })

closed-same : (a b : Stage) → IsSameStage a b → IsSameStage (closed_stage a) (closed_stage b)
closed-same idle idle h = tt
closed-same (alive sources) (alive others) h = tt
closed-same (running sources) (running others) h = h
closed-same overtaken overtaken h = tt
closed-same _ _ h = absurd h

pub after_close-same : (g h : Contexts) (r : ℕ) → r < length g.readers → IsSameGraph g h → IsSameGraph (after_close r g) (after_close r h)
after_close-same g h r within same = with_context-same g h r (record { stage = closed_stage (context_at g r).stage; used = false }) (record { stage = closed_stage (context_at h r).stage; used = false }) within same
    (record { stage = closed-same (context_at g r).stage (context_at h r).stage (same.each r).stage; used = refl })

get-changed : (s : ℕ) (xs : List ReaderContext) (k : ℕ) → get_or (map (changed_context s) xs) k idle_context ≡ changed_context s (get_or xs k idle_context)
get-changed s [] k = refl
get-changed s (x ∷ xs) zero = refl
get-changed s (x ∷ xs) (suc k) = get-changed s xs k

marked_stage-same : (a b : Stage) → IsSameStage a b → IsSameStage (marked_stage a) (marked_stage b)
marked_stage-same idle idle h = tt
marked_stage-same (alive sources) (alive others) h = tt
marked_stage-same (running sources) (running others) h = tt
marked_stage-same overtaken overtaken h = tt
marked_stage-same _ _ h = absurd h

chosen-same : (m n : Bool) → m ≡ n → (a b c d : ReaderContext) → IsSameContext a b → IsSameContext c d → IsSameContext (cond m a c) (cond n b d)
chosen-same true true e a b c d p q = p
chosen-same true false e a b c d p q = cc
chosen-same false true e a b c d p q = cc
chosen-same false false e a b c d p q = q

changed-same : (s : ℕ) (c d : ReaderContext) → IsSameContext c d → IsSameContext (changed_context s c) (changed_context s d)
changed-same s c d h = chosen-same (is_marked s c.stage) (is_marked s d.stage) (marked-same s c.stage d.stage h.stage)
    (record c { stage = marked_stage c.stage }) (record d { stage = marked_stage d.stage }) c d
    (record { stage = marked_stage-same c.stage d.stage h.stage; used = h.used }) h

pub after_change-same : (g h : Contexts) (s : ℕ) → IsSameGraph g h → IsSameGraph (after_change s g) (after_change s h)
after_change-same g h s same = record {
  sources = same.sources;
  count = length-map g.readers (changed_context s) ∙ same.count ∙ sym (length-map h.readers (changed_context s));
  each = λ k. told_alike _ _ (changed_context s (context_at g k)) (changed_context s (context_at h k))
      (get-changed s g.readers k) (get-changed s h.readers k) (changed-same s (context_at g k) (context_at h k) (same.each k));
}

or_none : (a : Bool) → (a || false) ≡ a
or_none true = refl
or_none false = refl

or_more : (a b c : Bool) → ((a || b) || c) ≡ (a || (b || c))
or_more true b c = refl
or_more false b c = refl

among_already : (q s : ℕ) (xs : List ℕ) → is_among s xs ≡ true → (b : Bool) → (s == q) ≡ b → is_among q xs ≡ (is_among q xs || b)
among_already q s xs h true e =
    let same : s ≡ q = grind (arith, nat_tests, e) in
    let there : is_among q xs ≡ true = subst (λ (n : ℕ). is_among n xs ≡ true) same h in
    rw there refl
among_already q s xs h false e = sym (or_none (is_among q xs))

among_added : (q s : ℕ) (xs : List ℕ) (b : Bool) → is_among s xs ≡ b → is_among q (cond b xs (xs ++ s ∷ [])) ≡ (is_among q xs || (s == q))
among_added q s xs true h = among_already q s xs h (s == q) refl
among_added q s xs false h = list_any-append (λ t. t == q) xs (s ∷ []) ∙ ap (λ b. is_among q xs || b) (or_none (s == q))

pub among_union : (q : ℕ) (xs ys : List ℕ) → is_among q (union xs ys) ≡ (is_among q xs || is_among q ys)
among_union q xs [] = sym (or_none (is_among q xs))
among_union q xs (s ∷ ys) =
    among_union q (cond (is_among s xs) xs (xs ++ s ∷ [])) ys
    ∙ ap (λ b. b || is_among q ys) (among_added q s xs (is_among s xs) refl)
    ∙ or_more (is_among q xs) (s == q) (is_among q ys)

union-same : (xs ys xs' ys' : List ℕ) → HasSameMembers xs xs' → HasSameMembers ys ys' → HasSameMembers (union xs ys) (union xs' ys')
union-same xs ys xs' ys' p r q = among_union q xs ys ∙ ap (λ b. b || is_among q ys) (p q) ∙ ap (λ b. is_among q xs' || b) (r q) ∙ sym (among_union q xs' ys')

stage_reaching-same : (xs ys : List ℕ) (a b : Stage) → HasSameMembers xs ys → IsSameStage a b → IsSameStage (stage_reaching xs a) (stage_reaching ys b)
stage_reaching-same xs ys idle idle p h = tt
stage_reaching-same xs ys (alive sources) (alive others) p h = h
stage_reaching-same xs ys (running sources) (running others) p h = union-same sources xs others ys h p
stage_reaching-same xs ys overtaken overtaken p h = tt
stage_reaching-same xs ys _ _ p h = absurd h

sources_reached-same : (a b : Stage) → IsSameStage a b → HasSameMembers (sources_reached a) (sources_reached b)
sources_reached-same idle idle h = λ s. refl
sources_reached-same (alive sources) (alive others) h = h
sources_reached-same (running sources) (running others) h = h
sources_reached-same overtaken overtaken h = λ s. refl
sources_reached-same _ _ h = absurd h

reaching-same : (g h : Contexts) (r : ℕ) (xs ys : List ℕ) → r < length g.readers → IsSameGraph g h → HasSameMembers xs ys → IsSameGraph (reaching r xs g) (reaching r ys h)
reaching-same g h r xs ys within same p = with_context-same g h r
    (record (context_at g r) { stage = stage_reaching xs (context_at g r).stage }) (record (context_at h r) { stage = stage_reaching ys (context_at h r).stage }) within same
    (record { stage = stage_reaching-same xs ys (context_at g r).stage (context_at h r).stage p (same.each r).stage; used = (same.each r).used })

with_use-same : (g h : Contexts) (e : ℕ) → e < length g.readers → IsSameGraph g h → IsSameGraph (with_use e g) (with_use e h)
with_use-same g h e within same = with_context-same g h e (record (context_at g e) { used = true }) (record (context_at h e) { used = true }) within same
    (record { stage = (same.each e).stage; used = refl })

depend-same : (g h : Contexts) (r : ℕ) (o : On) → r < length g.readers → IsWithin g r o → IsSameGraph g h → IsSameGraph (after_depend r o g) (after_depend r o h)
depend-same g h r (on.Source s) within p same = reaching-same g h r (s ∷ []) (s ∷ []) within same (λ q. refl)
depend-same g h r (on.Expr e) within p same =
    reaching-same (with_use e g) (with_use e h) r (sources_reached (context_at g e).stage) (sources_reached (context_at h e).stage)
    (subst (λ n. r < n) (sym (length-set g.readers e (record (context_at g e) { used = true }))) within)
    (with_use-same g h e p.0 same) (sources_reached-same (context_at g e).stage (context_at h e).stage (same.each e).stage)

pub after_depend-same : (g h : Contexts) (r : ℕ) (o : On) → MayDepend g r o → IsSameGraph g h → IsSameGraph (after_depend r o g) (after_depend r o h)
after_depend-same g h r o may same = depend-same g h r o may.within may.on_within same
