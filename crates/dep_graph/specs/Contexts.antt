-- The reactive contexts of a session's readers, and what each call leaves of them.
use Rattle.std.specs.Prelude.{ℕ, ◌+◌, List, [], ◌∷◌, Bool, true, false, if◌then◌else◌, map, replicate, slice_set, slice_index_or}
use Rattle.app_tree.specs.Fresh.{is_among, union}
use Rattle.dep_graph.specs.declared.on.On.{On}
use Rattle.dep_graph.specs.declared.on.On.TheVariants as on

-- where a reader stands; the lists are the sources that it has reached, by itself or through an expression that it read
pub data Stage : Type 0 where
  -- it has not run, or a source that its last run reached was changed after that
  idle : Stage
  -- it ran, and no source that it reached was changed after that
  alive : List ℕ → Stage
  -- it runs, and no source that it has reached so far was changed after that
  running : List ℕ → Stage
  -- it runs, and a source that it had reached in this run was changed
  overtaken : Stage

-- `used`: another reader has read it as an expression since it was last closed
pub record ReaderContext : Type 0 where
  pub stage : Stage
  pub used : Bool

-- the contexts by reader number, and how many sources there are
pub record Contexts : Type 0 where
  pub readers : List ReaderContext
  pub sources : ℕ

abbrev pub idle_context : ReaderContext
idle_context = record { stage = idle; used = false }

abbrev pub idle_contexts : ℕ → ℕ → Contexts
idle_contexts readers sources = record { readers = replicate readers idle_context; sources = sources }

abbrev pub context_at : Contexts → ℕ → ReaderContext
context_at g r = slice_index_or g.readers r idle_context

-- this context at the place of a reader, and every other one as before
abbrev pub with_context : ℕ → ReaderContext → Contexts → Contexts
with_context r c g = record g { readers = slice_set g.readers r c }

abbrev pub is_alive_stage : Stage → Bool
is_alive_stage (alive sources) = true
is_alive_stage _ = false

-- no source that it has reached was changed after that
abbrev pub is_current_stage : Stage → Bool
is_current_stage (alive sources) = true
is_current_stage (running sources) = true
is_current_stage _ = false

abbrev pub is_running_stage : Stage → Bool
is_running_stage (running sources) = true
is_running_stage overtaken = true
is_running_stage _ = false

abbrev pub is_alive : Contexts → ℕ → Bool
is_alive g r = is_alive_stage (context_at g r).stage

abbrev pub is_current : Contexts → ℕ → Bool
is_current g r = is_current_stage (context_at g r).stage

abbrev pub is_running : Contexts → ℕ → Bool
is_running g r = is_running_stage (context_at g r).stage

-- ---- a run begins

abbrev pub after_open : ℕ → Contexts → Contexts
after_open r g = with_context r (record (context_at g r) { stage = running [] }) g

-- ---- a read

abbrev pub sources_reached : Stage → List ℕ
sources_reached idle = []
sources_reached (alive sources) = sources
sources_reached (running sources) = sources
sources_reached overtaken = []

abbrev pub stage_reaching : List ℕ → Stage → Stage
stage_reaching more (running sources) = running (union sources more)
stage_reaching more stage = stage

-- the reader has reached these sources too
abbrev pub reaching : ℕ → List ℕ → Contexts → Contexts
reaching r more g =
    with_context r (record (context_at g r) { stage = stage_reaching more (context_at g r).stage }) g

abbrev pub with_use : ℕ → Contexts → Contexts
with_use e g = with_context e (record (context_at g e) { used = true }) g

-- A source is reached itself; with an expression all that this has reached.
abbrev pub after_depend : ℕ → On → Contexts → Contexts
after_depend r (on.Source s) g = reaching r (s ∷ []) g
after_depend r (on.Expr e) g = reaching r (sources_reached (context_at g e).stage) (with_use e g)

-- ---- a run ends

abbrev pub closed_stage : Stage → Stage
closed_stage (running sources) = alive sources
closed_stage _ = idle

abbrev pub after_close : ℕ → Contexts → Contexts
after_close r g = with_context r (record { stage = closed_stage (context_at g r).stage; used = false }) g

-- ---- a source is changed

-- a change of this source marks a reader that stands so
abbrev pub is_marked : ℕ → Stage → Bool
is_marked s (alive sources) = is_among s sources
is_marked s (running sources) = is_among s sources
is_marked s _ = false

abbrev pub marked_stage : Stage → Stage
marked_stage (running sources) = overtaken
marked_stage _ = idle

abbrev pub changed_context : ℕ → ReaderContext → ReaderContext
changed_context s c = if is_marked s c.stage then record c { stage = marked_stage c.stage } else c

abbrev pub after_change : ℕ → Contexts → Contexts
after_change s g = record g { readers = map (changed_context s) g.readers }

-- the numbers of those that a change of this source marks, rising, the first one's number being r
abbrev pub marked_from : ℕ → ℕ → List ReaderContext → List ℕ
marked_from s r [] = []
marked_from s r (c ∷ more) =
    if is_marked s c.stage then r ∷ marked_from s (r + 1) more else marked_from s (r + 1) more

abbrev pub marked_readers : ℕ → Contexts → List ℕ
marked_readers s g = marked_from s 0 g.readers
