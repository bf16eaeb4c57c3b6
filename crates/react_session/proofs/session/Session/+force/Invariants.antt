use Rattle.app_tree.specs.View.{shape_of}
use Rattle.react_session.specs.inner.Making.{work_left}
use Rattle.react_session.proofs.session.Session.+force.Given as goal

abbrev pub decreases-settle : goal.decreases-settle
decreases-settle g l = work_left (shape_of l.self.now.app) l.n l.self.now.session 5

abbrev pub decreases-run : goal.decreases-run
decreases-run g l = work_left (shape_of l.self.now.app) l.n l.self.now.session 4

abbrev pub decreases-run_plain : goal.decreases-run_plain
decreases-run_plain g l = work_left (shape_of l.self.now.app) l.n l.self.now.session 3

abbrev pub decreases-run_keyed : goal.decreases-run_keyed
decreases-run_keyed g l = work_left (shape_of l.self.now.app) l.n l.self.now.session 3

abbrev pub decreases-ask : goal.decreases-ask
decreases-ask g l = work_left (shape_of l.self.now.app) l.n l.self.now.session 2

abbrev pub decreases-run_claimed : goal.decreases-run_claimed
decreases-run_claimed g l = work_left (shape_of l.self.now.app) l.n l.self.now.session 1
