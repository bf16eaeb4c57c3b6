use Rattle.std.proofs.Common.{◌+◌, drop, subst, get_or, List}
use Rattle.std.proofs.lemmas.List.{drop_more}
use Rattle.dep_graph.specs.declared.on.On.{On}
use Rattle.dep_graph.specs.declared.on.On.TheVariants.{Source}
use Rattle.dep_graph.specs.SameGraph.{IsSameGraph}
use Rattle.react_session.specs.inner.Storing.{after_depends}
use Rattle.react_session.proofs.Depending.{more_runs, more_reached}
use Rattle.react_session.proofs.storing.depend_on_all.Goals as goal

pub loop-on-preserved : goal.loop-on-preserved
loop-on-preserved c =
    let all = c.args.reached.now in
    let i = c.loop-on.on-index in
    let here = get_or all i (Source 0) in
    let same = c.in_ok-depend.ensures.ok in
    record {
      runs = more_runs c.args.n here c.args.graph.now c.loop-on.graph c.depend.new.self c.requires.within c.loop-on.invariant.runs same;
      rest = more_reached c.args.n here (drop (i + 1) all) c.loop-on.graph c.depend.new.self (after_depends c.args.n all c.args.graph.now) same
          (subst (λ (os : List On). IsSameGraph (after_depends c.args.n os c.loop-on.graph) (after_depends c.args.n all c.args.graph.now)) (drop_more all i (Source 0) c.loop-on-test.true) c.loop-on.invariant.rest);
    }
