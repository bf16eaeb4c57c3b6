use Rattle.std.proofs.Common.{◌≡◌, ◌∙◌, true, false, IfSome, refl, sym, ap, subst}
use Rattle.shiny_main.specs.inner.Pieces.{BeginsLonger}
use Rattle.shiny_main.specs.inner.Lines.{LinesState, coming, BeginsBad, NextGives, TellGives}
use Rattle.shiny_main.proofs.LineReads.{next_told, next_ended, longer_is_bad}
use Rattle.shiny_main.proofs.lines.Lines.next.Goals as goal

pub returns-then-self-clause-gives : goal.returns-then-self-clause-gives
returns-then-self-clause-gives g c = next_ended c.args.self.now (g.S.Source.left c.args.input.now) (c.requires (sym (ap (λ (s : LinesState). s.ended) c.self.view_is) ∙ c.if-self.true))

pub returns-in-Line-clause-gives : goal.returns-in-Line-clause-gives
returns-in-Line-clause-gives g c =
    let left = g.S.Source.left c.args.input.now in
    let left_after = g.S.Source.left c.next.new.source in
    let old : LinesState = record { taken = c.self.inside.pieces; number = c.self.inside.number; behind = c.self.inside.behind; ended = c.self.inside.ended } in
    let middle : LinesState = record old { taken = c.next.new.self } in
    let told = subst (λ l. TellGives l 1 middle c.tell.new.self c.tell.result) c.as_slice.ensures c.tell.ensures in
    subst (λ s. NextGives s c.tell.new.self left left_after c.tell.result) c.self.view_is
    (next_told old middle c.tell.new.self c.in-Line.line true left left_after c.tell.result c.in-Line.ensures.gives refl refl c.if-self.false told)

pub returns-in-Last-clause-gives : goal.returns-in-Last-clause-gives
returns-in-Last-clause-gives g c =
    let left = g.S.Source.left c.args.input.now in
    let left_after = g.S.Source.left c.next.new.source in
    let old : LinesState = record { taken = c.self.inside.pieces; number = c.self.inside.number; behind = c.self.inside.behind; ended = c.self.inside.ended } in
    let middle : LinesState = record old { taken = c.next.new.self; ended = true } in
    let told = subst (λ l. TellGives l 0 middle c.tell-in-Last.new.self c.tell-in-Last.result) c.as_slice-in-Last.ensures c.tell-in-Last.ensures in
    subst (λ s. NextGives s c.tell-in-Last.new.self left left_after c.tell-in-Last.result) c.self.view_is
    (next_told old middle c.tell-in-Last.new.self c.in-Last.line false left left_after c.tell-in-Last.result c.in-Last.ensures.gives refl refl refl told)

pub returns-in-TooLong-clause-gives : goal.returns-in-TooLong-clause-gives
returns-in-TooLong-clause-gives g c =
    let left = g.S.Source.left c.args.input.now in
    let old : LinesState = record { taken = c.self.inside.pieces; number = c.self.inside.number; behind = c.self.inside.behind; ended = c.self.inside.ended } in
    let longer = subst (λ most. BeginsLonger most (coming old left) (coming (record old { taken = c.next.new.self }) (g.S.Source.left c.next.new.source))) c.min-most.ensures c.in-TooLong.ensures.gives in
    subst (λ (s : LinesState). (c.self.inside.number ≡ s.number) × IfSome (coming s left) (BeginsBad s.behind)) c.self.view_is
    (refl, longer_is_bad c.self.inside.behind (coming old left) (coming (record old { taken = c.next.new.self }) (g.S.Source.left c.next.new.source)) longer)
