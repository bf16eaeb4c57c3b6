-- The bounds on the bodies that a session runs, from what it leaves standing; where memory is wanting they are those of what the
-- session might have gone on to.
use Rattle.std.proofs.Common.{◌≤◌, ℕ, ◌+◌, length, arith}
use Rattle.session_laws.proofs.Proper.{orderly}
use Rattle.session_steps.specs.Bringing.{reading, running}
use Rattle.session_steps.specs.BodyLaws.{ForceIsBounded, OutputIsBounded, TermIsBounded, ForceBeginsBounded, OutputBeginsBounded, TermBeginsBounded}
use Rattle.session_steps.proofs.BodiesOnward.{IsFinished, finished, IsAtEnd, term_finished}
use Rattle.session_steps.proofs.CountedBrings.{force_bounded, output_bounded}
use Rattle.session_steps.proofs.CountedReads.{term_bounded}

fewer_than : (few all after bodies before : ℕ) → few ≤ all → all + after ≤ bodies + before → few ≤ bodies + before
fewer_than few all after bodies before p q = omega (p, q, arith)

pub force_is_bounded : ForceIsBounded
force_is_bounded app p s s' M st n i is x bodies b = force_bounded app p s s' M st n i is x bodies b

pub output_is_bounded : OutputIsBounded
output_is_bounded app p s s' M st n i is o bodies b = output_bounded app p n i is o s s' M st bodies b

pub term_is_bounded : TermIsBounded
term_is_bounded app p s s' M st n i is o isolated t k numbered low bodies x c = term_bounded app p n isolated t low i is o k numbered bodies s s' x c M st

-- ---- where memory is wanting

pub force_begins_bounded : ForceBeginsBounded
force_begins_bounded app p s s' M st n i is x bodies b =
    let f : IsFinished app (orderly app p) reading bodies n s = finished app (orderly app p) reading bodies n s s' b st.size i is x in
    fewer_than (length bodies) (length f.all) _ _ _ f.most (force_bounded app p s f.after M st n i is x f.all f.does)

pub output_begins_bounded : OutputBeginsBounded
output_begins_bounded app p s s' M st n i is o bodies b =
    let f : IsFinished app (orderly app p) running bodies n s = finished app (orderly app p) running bodies n s s' b st.size i is tt in
    fewer_than (length bodies) (length f.all) _ _ _ f.most (output_bounded app p n i is o s f.after M st f.all f.does)

pub term_begins_bounded : TermBeginsBounded
term_begins_bounded app p s s' M st n i is o isolated t k numbered low bodies c =
    let f : IsAtEnd app (orderly app p) n isolated t low bodies s = term_finished app (orderly app p) n isolated t low bodies s s' c st.size in
    fewer_than (length bodies) (length f.all) _ _ _ f.most (term_bounded app p n isolated t low i is o k numbered f.all s f.after f.outcome f.does M st)
