-- A session to which nothing has come.
use Rattle.std.proofs.Common.{◌≡◌, ℕ, [], None, refl, sym, subst}
use Rattle.app_tree.specs.Held.{Held}
use Rattle.app_tree.specs.Tree.{Shape}
use Rattle.app_tree.specs.View.{shape_of}
use Rattle.session_model.specs.State.{first_state}
use Rattle.session_model.specs.Faithful.{LinkRecord, IsFaithful}
use Rattle.session_model.specs.Standing.{first_kept_flush, StandsWholly}
use Rattle.flush_cycle.specs.Flushing.{Flushing}
use Rattle.session_host.specs.Hosting.{first_flusher}
use Rattle.session_host.specs.Keeping.{IsHosted}
use Rattle.session_host.specs.Opening.{IsUnused}

pub first_faithful : (app : Shape) (link : LinkRecord) → IsUnused link → IsFaithful app link [] None
first_faithful app link unused = record {
  running = tt;
  last = tt;
  ends = refl;
  fault = λ h. cc;
  full = λ h. cc;
  received = sym unused.received;
  sent = unused.sent;
  ended = λ h. cc;
}

pub first_hosted : (app : Held) (link : LinkRecord) (room : ℕ) (flusher : Flushing) → IsUnused link → flusher ≡ first_flusher app
    → StandsWholly (shape_of app) (first_kept_flush (shape_of app)) (first_state (shape_of app))
    → IsHosted (record { app = app; link = link; journal = []; room = room; over = None; flusher = flusher })
first_hosted app link room flusher unused is stands =
    subst (λ f. IsHosted (record { app = app; link = link; journal = []; room = room; over = None; flusher = f })) (sym is)
    (record {
      faithful = first_faithful (shape_of app) link unused;
      goes_on = λ h. record { app = refl; stage = refl; stands = stands; settled = λ s. cc };
    })
