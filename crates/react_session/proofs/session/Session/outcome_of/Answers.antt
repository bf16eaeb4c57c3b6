use Rattle.std.proofs.Common.{◌≡◌, ◌≤◌, ◌<◌, length, Some, false, refl, sym, ap, ◌∙◌, subst, arith}
use Rattle.app_tree.specs.View.{shape_of}
use Rattle.session_model.specs.Standing.{kept_reader}
use Rattle.session_steps.specs.Keeping.{lives}
use Rattle.react_session.specs.Keeping.{Keeping}
use Rattle.react_session.specs.declared.kept.Kept.{Kept}
use Rattle.react_session.proofs.ByNumber.{kept_read}
use Rattle.react_session.proofs.Seeing.{past_lives, outcome_seen, answered_alive, answered_dead}
use Rattle.react_session.proofs.session.Session.outcome_of.Goals as goal
use Rattle.react_session.proofs.session.Session.outcome_of.Goals.{then-m-len-via-then-m-len, then-m-len-via-else-m-len+then-not-alive}

pub returns-then-m-len : goal.returns-then-m-len
returns-then-m-len c = elim c.then-m-len.branch [
  | then-m-len-via-then-m-len w ↦
      let s = c.self.inside in
      let past : length s.kept.items ≤ c.args.m = omega (arith, w.if-m-len.true, c.len.ensures) in
      let dead = past_lives s.sources.values s.graph s.kept.items s.observer c.args.m (c.self.invariant.contexts ∙ sym c.self.invariant.each_kept) past in
      (answered_dead c.args.self.now.session (shape_of c.args.self.now.app) c.args.m (subst (λ (k : Keeping). lives k.session c.args.m ≡ false) c.self.view_is dead), refl, tt)
  | then-m-len-via-else-m-len+then-not-alive w ↦
      (answered_dead c.args.self.now.session (shape_of c.args.self.now.app) c.args.m (sym w.alive.ensures ∙ w.if-not-alive.true), refl, tt)
]

pub returns-in-Ok : goal.returns-in-Ok
returns-in-Ok c =
    let s = c.self.inside in
    let within : c.args.m < length s.kept.items = omega (arith, c.if-m-len.false, c.len.ensures) in
    let same = c.self.invariant.contexts ∙ sym c.self.invariant.each_kept in (
      answered_alive c.args.self.now.session (shape_of c.args.self.now.app) c.args.m (sym c.alive.ensures ∙ c.if-not-alive.false)
          ∙ ap Some (ap (λ (k : Keeping). (kept_reader k.session c.args.m).outcome) (sym c.self.view_is)
          ∙ outcome_seen s.sources.values s.graph s.kept.items s.observer c.args.m same
          ∙ ap (λ (k : Kept). k.outcome) (sym (kept_read s.kept.items c.args.m c.index.result.now within c.index.ensures))
          ∙ sym c.in-Ok.ensures),
      tt,
    )
