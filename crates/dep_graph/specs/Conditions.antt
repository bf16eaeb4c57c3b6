-- When a run may begin, and what a running reader may depend on.
use Rattle.std.specs.Prelude.{◌≡◌, ◌≢◌, ℕ, ◌<◌, true, false, length}
use Rattle.dep_graph.specs.declared.on.On.{On}
use Rattle.dep_graph.specs.declared.on.On.TheVariants as on
use Rattle.dep_graph.specs.Contexts.{Contexts, context_at, is_alive, is_running}

-- The reader isn't running; and where it is alive, none has read it since it was closed, as the sources that its
-- readers have reached through it would then be lost.
pub record MayOpen (g : Contexts) (r : ℕ) : Type 0 where
  pub within : r < length g.readers
  pub not_running : is_running g r ≡ false
  pub not_used : is_alive g r ≡ true → (context_at g r).used ≡ false

-- a source is one of the graph's; an expression is another reader, which is alive
abbrev pub IsWithin : Contexts → ℕ → On → Type 0
IsWithin g r (on.Source s) = s < g.sources
IsWithin g r (on.Expr e) = (e < length g.readers) × (e ≢ r) × (is_alive g e ≡ true)

pub record MayDepend (g : Contexts) (r : ℕ) (on : On) : Type 0 where
  pub within : r < length g.readers
  pub running : is_running g r ≡ true
  pub on_within : IsWithin g r on
