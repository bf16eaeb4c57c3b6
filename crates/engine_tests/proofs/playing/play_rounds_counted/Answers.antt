use Rattle.std.proofs.Common.{rules, ◌≡◌, true, None, length, ◌∙◌, ap, sym}
use Rattle.app_tree.specs.View.{shape_of}
use Rattle.app_tree.specs.Numbering.{starting_values}
use Rattle.engine_tests.proofs.playing.play_rounds_counted.Goals as goal

pub loop-round-init : goal.loop-round-init
loop-round-init g c =
    let x_app : c.in_ok-x.x.app ≡ c.args.app.now.value = search rules in
    let x_whole : c.in_ok-x.x.whole ≡ true = search rules in
    let x_values : length c.in_ok-x.x.session.values ≡ length (starting_values (shape_of c.args.app.now.value).items) = search rules in
    let x_runs : c.in_ok-x.x.session.running ≡ None = search rules in
    let y_app : c.in_ok-y.y.app ≡ c.args.app.now.value = search rules in
    let y_whole : c.in_ok-y.y.whole ≡ true = search rules in
    let y_values : length c.in_ok-y.y.session.values ≡ length (starting_values (shape_of c.args.app.now.value).items) = search rules in
    let y_runs : c.in_ok-y.y.session.running ≡ None = search rules in
    (x_app, x_whole, x_values, x_runs, y_app, y_whole, y_values, y_runs, c.requires.of_app, c.requires.none_out, g.met.A.Asker.stays c.args.asker.now)

pub returns-in_err-follow_all-clause-follows : goal.returns-in_err-follow_all-clause-follows
returns-in_err-follow_all-clause-follows g c =
    g.met.A.Asker.chains c.args.asker.now c.loop-round.asker c.follow_all.new.asker c.loop-round.invariant.10 c.follow_all.ensures.follows

pub follow_all-requires-in-loop-round-clause-of_app : goal.follow_all-requires-in-loop-round-clause-of_app
follow_all-requires-in-loop-round-clause-of_app g c =
    let own : c.deref-in-loop-round.result.now ≡ c.args.app.now.value = search rules in
    g.met.A.Asker.same_app c.loop-round.asker c.follow_all.new.asker c.follow_all.ensures.follows ∙ c.loop-round.invariant.8 ∙ ap shape_of (sym own)

pub returns-in_err-follow_all-2-clause-follows : goal.returns-in_err-follow_all-2-clause-follows
returns-in_err-follow_all-2-clause-follows g c =
    let x = c.follow_all.new.asker in
    g.met.A.Asker.chains c.args.asker.now x c.follow_all-in-loop-round.new.asker
    (g.met.A.Asker.chains c.args.asker.now c.loop-round.asker x c.loop-round.invariant.10 c.follow_all.ensures.follows)
    c.follow_all-in-loop-round.ensures.follows

pub loop-round-preserved : goal.loop-round-preserved
loop-round-preserved g c =
    let x = c.follow_all.new.asker in
    let y = c.follow_all-in-loop-round.new.asker in
    let in_x : c.deref.result.now ≡ c.args.app.now.value = search rules in
    let in_y : c.deref-in-loop-round.result.now ≡ c.args.app.now.value = search rules in
    let by_x = g.met.A.Asker.same_app c.loop-round.asker x c.follow_all.ensures.follows in
    let by_y = g.met.A.Asker.same_app x y c.follow_all-in-loop-round.ensures.follows in (
      c.follow_all.ensures.app ∙ in_x,
      c.in_ok-follow_all.ensures.whole,
      c.follow_all.ensures.values ∙ c.loop-round.invariant.2,
      c.follow_all.ensures.running,
      c.follow_all-in-loop-round.ensures.app ∙ in_y,
      c.in_ok-follow_all-2.ensures.whole,
      c.follow_all-in-loop-round.ensures.values ∙ c.loop-round.invariant.6,
      c.follow_all-in-loop-round.ensures.running,
      by_y ∙ by_x ∙ c.loop-round.invariant.8,
      c.follow_all-in-loop-round.ensures.none_out,
      g.met.A.Asker.chains c.args.asker.now x y (g.met.A.Asker.chains c.args.asker.now c.loop-round.asker x c.loop-round.invariant.10 c.follow_all.ensures.follows) c.follow_all-in-loop-round.ensures.follows,
    )
