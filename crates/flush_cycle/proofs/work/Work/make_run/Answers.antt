use Rattle.std.proofs.Common.{◌≡◌, Some, rules}
use Rattle.app_tree.specs.Numbering.{reader}
use Rattle.app_tree.specs.ObserverTerms.{observer_terms, terms}
use Rattle.app_tree.specs.View.{node_of, shape_of}
use Rattle.session_model.specs.Flush.{make_run}
use Rattle.flush_cycle.proofs.ActsBehind.{observer_terms_most, one_term, runs_with_more}
use Rattle.flush_cycle.proofs.work.Work.make_run.Goals as goal

pub returns-in-Text : goal.returns-in-Text
returns-in-Text g c =
    let app = shape_of c.args.self.now.app in
    runs_with_more g.A.Asker.follows g.A.Asker.out 1 (terms app) (make_run app c.args.n) c.args.self.now c.run_output.new.self c.args.asker.now c.run_output.new.asker
    c.args.steps.now c.run_output.new.steps c.run_output.result (one_term app) c.run_output.ensures

pub returns-in-Plot : goal.returns-in-Plot
returns-in-Plot g c =
    let app = shape_of c.args.self.now.app in
    runs_with_more g.A.Asker.follows g.A.Asker.out 1 (terms app) (make_run app c.args.n) c.args.self.now c.run_output-in-Plot.new.self c.args.asker.now c.run_output-in-Plot.new.asker
    c.args.steps.now c.run_output-in-Plot.new.steps c.run_output-in-Plot.result (one_term app) c.run_output-in-Plot.ensures

pub returns : goal.returns
returns g c =
    let app = shape_of c.args.self.now.app in
    let node = node_of c.reader.result.now in
    let is : reader app c.args.n ≡ Some node = search rules in
    runs_with_more g.A.Asker.follows g.A.Asker.out (observer_terms node) (terms app) (make_run app c.args.n) c.args.self.now c.run_observer.new.self c.args.asker.now c.run_observer.new.asker
    c.args.steps.now c.run_observer.new.steps c.run_observer.result (observer_terms_most app c.args.n node is) c.run_observer.ensures
