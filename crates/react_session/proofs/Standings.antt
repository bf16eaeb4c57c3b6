-- What is seen of one reader, by where its context stands.
use Rattle.std.proofs.Common.{◌≡◌, ℕ, Bool, true, false, List, refl, sym, ap, ◌∙◌}
use Rattle.std.specs.Prelude.{◌&&◌, ◌||◌, if◌then◌else◌}
use Rattle.app_tree.specs.Fresh.{is_among}
use Rattle.session_model.specs.Standing.{is_live, did_run, dependence_by}
use Rattle.session_steps.specs.Acting.{marked_dependence}
use Rattle.dep_graph.specs.Contexts.{Stage, idle, alive as alive_stage, running, overtaken, ReaderContext as Context, is_alive_stage, is_current_stage, is_running_stage, closed_stage, is_marked, marked_stage, changed_context}
use Rattle.react_session.specs.Marking.{is_marked_by}
use Rattle.react_session.specs.Seen.{not_alive, dependence_seen}

not_alive_lives : (ran : Bool) → is_live (not_alive ran) ≡ false
not_alive_lives true = refl
not_alive_lives false = refl

not_alive_ran : (ran : Bool) → ran ≡ did_run (not_alive ran)
not_alive_ran true = refl
not_alive_ran false = refl

-- it is alive where its context is, and the observer that runs where no change overtook it
pub live_by : (observes ran : Bool) (t : Stage) → is_live (dependence_seen observes ran t) ≡ (is_alive_stage t || (observes && is_current_stage t))
live_by true ran idle = not_alive_lives ran
live_by false ran idle = not_alive_lives ran
live_by observes ran (alive_stage s) = refl
live_by true ran (running s) = refl
live_by false ran (running s) = not_alive_lives ran
live_by true ran overtaken = not_alive_lives ran
live_by false ran overtaken = not_alive_lives ran

-- what is alive has run
pub ran_by : (observes ran : Bool) (t : Stage) → (is_alive_stage t ≡ true → ran ≡ true) → (observes ≡ true → ran ≡ true) → ran ≡ did_run (dependence_seen observes ran t)
ran_by observes ran idle a o = not_alive_ran ran
ran_by observes ran (alive_stage s) a o = a refl
ran_by true ran (running s) a o = o refl
ran_by false ran (running s) a o = not_alive_ran ran
ran_by observes ran overtaken a o = not_alive_ran ran

-- the end of the observer's run
pub closed_by : (ran : Bool) (t : Stage) → is_running_stage t ≡ true → dependence_seen true ran t ≡ dependence_seen false ran (closed_stage t)
closed_by ran idle h = cc
closed_by ran (alive_stage s) h = cc
closed_by ran (running s) h = refl
closed_by ran overtaken h = refl

pub closed_lives : (ran : Bool) (t : Stage) → is_running_stage t ≡ true → is_alive_stage (closed_stage t) ≡ is_live (dependence_seen true ran t)
closed_lives ran idle h = cc
closed_lives ran (alive_stage s) h = cc
closed_lives ran (running s) h = refl
closed_lives true overtaken h = refl
closed_lives false overtaken h = refl

pub closed_runs : (t : Stage) → is_running_stage (closed_stage t) ≡ false
closed_runs idle = refl
closed_runs (alive_stage s) = refl
closed_runs (running s) = refl
closed_runs overtaken = refl

-- ---- a change of source s

marked_not_alive : (s : ℕ) (ran : Bool) → marked_dependence s (not_alive ran) ≡ not_alive ran
marked_not_alive s true = refl
marked_not_alive s false = refl

marked_alive : (observes ran used b : Bool) (sources : List ℕ) → ran ≡ true
    → dependence_by b sources ≡ dependence_seen observes ran (if◌then◌else◌ {A = Context} b (record { stage = idle; used = used }) (record { stage = alive_stage sources; used = used })).stage
marked_alive observes ran used true sources h = ap not_alive (sym h)
marked_alive observes ran used false sources h = refl

marked_observer : (ran used b : Bool) (sources : List ℕ) → ran ≡ true
    → dependence_by b sources ≡ dependence_seen true ran (if◌then◌else◌ {A = Context} b (record { stage = overtaken; used = used }) (record { stage = running sources; used = used })).stage
marked_observer ran used true sources h = ap not_alive (sym h)
marked_observer ran used false sources h = refl

marked_other : (ran used b : Bool) (sources : List ℕ)
    → not_alive ran ≡ dependence_seen false ran (if◌then◌else◌ {A = Context} b (record { stage = overtaken; used = used }) (record { stage = running sources; used = used })).stage
marked_other ran used true sources = refl
marked_other ran used false sources = refl

-- what it leaves of a reader is seen of what it leaves of the context
pub marked_seen : (s : ℕ) (observes ran used : Bool) (t : Stage) → (is_alive_stage t ≡ true → ran ≡ true) → (observes ≡ true → ran ≡ true)
    → marked_dependence s (dependence_seen observes ran t) ≡ dependence_seen observes ran (changed_context s (record { stage = t; used = used })).stage
marked_seen s observes ran used idle a o = marked_not_alive s ran
marked_seen s observes ran used (alive_stage sources) a o = marked_alive observes ran used (is_among s sources) sources (a refl)
marked_seen s true ran used (running sources) a o = marked_observer ran used (is_among s sources) sources (o refl)
marked_seen s false ran used (running sources) a o = marked_not_alive s ran ∙ marked_other ran used (is_among s sources) sources
marked_seen s observes ran used overtaken a o = marked_not_alive s ran

-- the reader is marked where the context is
none_marked : (s : ℕ) (ran : Bool) → is_marked_by s (not_alive ran) ≡ false
none_marked s true = refl
none_marked s false = refl

pub marks_seen : (s : ℕ) (observes ran : Bool) (t : Stage) → (is_running_stage t ≡ true → observes ≡ true) → is_marked_by s (dependence_seen observes ran t) ≡ is_marked s t
marks_seen s observes ran idle r = none_marked s ran
marks_seen s observes ran (alive_stage sources) r = refl
marks_seen s true ran (running sources) r = refl
marks_seen s false ran (running sources) r = cc (r refl)
marks_seen s observes ran overtaken r = none_marked s ran

-- it begins no run, ends none and makes nothing alive
running_if : (used b : Bool) (sources : List ℕ) → is_alive_stage (if◌then◌else◌ {A = Context} b (record { stage = overtaken; used = used }) (record { stage = running sources; used = used })).stage ≡ true → false ≡ true
running_if used true sources h = h
running_if used false sources h = h

pub changed_alive : (s : ℕ) (used : Bool) (t : Stage) → is_alive_stage (changed_context s (record { stage = t; used = used })).stage ≡ true → is_alive_stage t ≡ true
changed_alive s used idle h = h
changed_alive s used (alive_stage sources) h = refl
changed_alive s used (running sources) h = running_if used (is_among s sources) sources h
changed_alive s used overtaken h = h

runs_if : (used b : Bool) (sources : List ℕ) → is_running_stage (if◌then◌else◌ {A = Context} b (record { stage = idle; used = used }) (record { stage = alive_stage sources; used = used })).stage ≡ false
runs_if used true sources = refl
runs_if used false sources = refl

still_runs : (used b : Bool) (sources : List ℕ) → is_running_stage (if◌then◌else◌ {A = Context} b (record { stage = overtaken; used = used }) (record { stage = running sources; used = used })).stage ≡ true
still_runs used true sources = refl
still_runs used false sources = refl

pub changed_running : (s : ℕ) (used : Bool) (t : Stage) → is_running_stage (changed_context s (record { stage = t; used = used })).stage ≡ is_running_stage t
changed_running s used idle = refl
changed_running s used (alive_stage sources) = runs_if used (is_among s sources) sources
changed_running s used (running sources) = still_runs used (is_among s sources) sources
changed_running s used overtaken = refl

pub changed_used : (s : ℕ) (c : Context) → (changed_context s c).used ≡ c.used
changed_used s c = by (is_marked s c.stage)
  where
    by : (b : Bool) → (if◌then◌else◌ {A = Context} b (record c { stage = marked_stage c.stage }) c).used ≡ c.used
    by true = refl
    by false = refl
