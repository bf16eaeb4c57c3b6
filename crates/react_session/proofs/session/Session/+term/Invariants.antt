use Rattle.std.proofs.Common.{length}
use Rattle.app_tree.specs.View.{shape_of}
use Rattle.app_tree.specs.Numbering.{readers}
use Rattle.react_session.specs.inner.Making.{dead_below}
use Rattle.react_session.proofs.session.Session.+term.Given as goal

abbrev pub decreases-term : goal.decreases-term
decreases-term g l = dead_below (length (readers (shape_of l.self.now.app))) l.self.now.session
