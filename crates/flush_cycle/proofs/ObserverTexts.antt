-- The text of an observer of a proper app: its terms and statements are the app's.
use Rattle.std.proofs.Common.{◌≡◌, ℕ, suc, true, length, Some}
use Rattle.std.proofs.lemmas.Bool.{false≢true}
use Rattle.app_tree.specs.Tree.{Node, input, value, task, reactive, event, text, plot, observe, on, Shape}
use Rattle.app_tree.specs.Evaluate.{site_count}
use Rattle.app_tree.specs.Numbering.{readers, reader}
use Rattle.app_tree.specs.Cover.{reads_in}
use Rattle.app_laws.specs.Orderly.{reads_in_acts, ReadsBelow, ReadsSources}
use Rattle.app_laws.specs.Proper.{IsProper}
use Rattle.app_laws.proofs.Agreeing.{front, back}
use Rattle.app_laws.proofs.Statements.{statements_fit}
use Rattle.session_laws.proofs.Proper.{orderly}
use Rattle.session_model.specs.Flush.{is_observer_at}
use Rattle.flush_cycle.specs.inner.Statements.{IsTermOf, AreActsOf}
use Rattle.flush_cycle.specs.inner.Observing.{IsObserverOf}

pub observer_of : (app : Shape) → IsProper app → (n : ℕ) (i : Node) → reader app n ≡ Some i → is_observer_at (Some i) ≡ true → IsObserverOf app i
observer_of app proper n (observe name priority block) is h = record {
  reads = (orderly app proper).reads n (observe name priority block) is;
  own = (orderly app proper).sources n (observe name priority block) is;
  site = 0;
  sites = (orderly app proper).sites n (observe name priority block) is;
  fits = statements_fit app proper.well_formed n (observe name priority block) is;
}
observer_of app proper n (on name priority flags e block) is h =
    let own = orderly app proper in
    let reads = own.reads n (on name priority flags e block) is in
    let sources = own.sources n (on name priority flags e block) is in
    let sites = own.sites n (on name priority flags e block) is in
    let its_term : IsTermOf app e = record {
      reads = front (ReadsBelow app (length (readers app))) (reads_in e) (reads_in_acts block) reads;
      own = front (ReadsSources app) (reads_in e) (reads_in_acts block) sources;
      site = 0;
      sites = sites.0;
    } in
    let its_acts : AreActsOf app block = record {
      reads = back (ReadsBelow app (length (readers app))) (reads_in e) (reads_in_acts block) reads;
      own = back (ReadsSources app) (reads_in e) (reads_in_acts block) sources;
      site = suc (site_count e);
      sites = sites.1;
      fits = statements_fit app proper.well_formed n (on name priority flags e block) is;
    } in
    (its_term, its_acts)
observer_of app proper n (input name start) is h = absurd (false≢true h)
observer_of app proper n (value name start) is h = absurd (false≢true h)
observer_of app proper n (task name parameters body) is h = absurd (false≢true h)
observer_of app proper n (reactive name keys body) is h = absurd (false≢true h)
observer_of app proper n (event name flags e body) is h = absurd (false≢true h)
observer_of app proper n (text name shown) is h = absurd (false≢true h)
observer_of app proper n (plot name shown) is h = absurd (false≢true h)
