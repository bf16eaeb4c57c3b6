-- Contexts that differ at most in the order of the sources that each reader has reached.
use Rattle.std.specs.Prelude.{◌≡◌, ℕ, List, ⊤, length}
use Rattle.app_tree.specs.Fresh.{is_among}
use Rattle.dep_graph.specs.Contexts.{Stage, idle, alive, running, overtaken, ReaderContext, Contexts, context_at}

-- the same sources, in whatever order
abbrev pub HasSameMembers : List ℕ → List ℕ → Type 0
HasSameMembers sources others = (s : ℕ) → is_among s sources ≡ is_among s others

abbrev pub IsSameStage : Stage → Stage → Type 0
IsSameStage idle idle = ⊤
IsSameStage (alive sources) (alive others) = HasSameMembers sources others
IsSameStage (running sources) (running others) = HasSameMembers sources others
IsSameStage overtaken overtaken = ⊤
IsSameStage _ _ = ⊥

pub record IsSameContext (c d : ReaderContext) : Type 0 where
  pub stage : IsSameStage c.stage d.stage
  pub used : c.used ≡ d.used

pub record IsSameGraph (g h : Contexts) : Type 0 where
  pub sources : g.sources ≡ h.sources
  pub count : length g.readers ≡ length h.readers
  pub each : (r : ℕ) → IsSameContext (context_at g r) (context_at h r)
