use Rattle.std.proofs.Common.{◌<◌, ◌≡◌, ◌-◌, length, arith, refl, true, Ok, subst}
use Rattle.app_tokens.specs.Scan.{tokens_from}
use Rattle.app_tokens.proofs.Pieces.{IsCut-piece, IsUtf8-behind, scan_step, scan_refuses, scan_accepts, scan_stops}
use Rattle.app_tokens.proofs.scan.scan.Goals as goal

pub returns-in_err-piece-clause-refused : goal.returns-in_err-piece-clause-refused
returns-in_err-piece-clause-refused c =
    let some : 0 < length c.loop-rest.rest.now = grind arith in
    scan_refuses c.args.whole c.args.text.now c.loop-rest.rest.now c.loop-rest.tokens.items c.in_err-piece.field-0.0 _ c.from_residual.result
    some c.loop-rest.invariant.said c.in_err-piece.ensures c.from_residual.ensures.1

pub split_at-requires : goal.split_at-requires
split_at-requires c =
    (IsCut-piece c.args.whole (length c.args.text.now - length c.loop-rest.rest.now) c.loop-rest.rest.now c.in_ok-piece.piece
    c.loop-rest.invariant.utf8 c.in_ok-piece.ensures).boundary

pub loop-rest-smaller : goal.loop-rest-smaller
loop-rest-smaller c =
    (scan_step c.args.whole c.args.text.now c.loop-rest.rest.now c.split_at.result.1.now c.loop-rest.tokens.items c.push_token.new.tokens.items
    c.in_ok-piece.piece c.loop-rest.invariant.utf8 c.loop-rest.invariant.within c.loop-rest.invariant.said c.in_ok-piece.ensures
    c.split_at.ensures.back (rw c.split_at.ensures.front at c.in_ok-push_token.ensures)).0

pub loop-rest-preserved : goal.loop-rest-preserved
loop-rest-preserved c =
    let step = scan_step c.args.whole c.args.text.now c.loop-rest.rest.now c.split_at.result.1.now c.loop-rest.tokens.items c.push_token.new.tokens.items
    c.in_ok-piece.piece c.loop-rest.invariant.utf8 c.loop-rest.invariant.within c.loop-rest.invariant.said c.in_ok-piece.ensures
    c.split_at.ensures.back (rw c.split_at.ensures.front at c.in_ok-push_token.ensures) in
    record {
      utf8 = IsUtf8-behind c.args.whole (length c.args.text.now - length c.loop-rest.rest.now) c.loop-rest.rest.now c.split_at.result.1.now c.in_ok-piece.piece
          c.loop-rest.invariant.utf8 c.in_ok-piece.ensures c.split_at.ensures.back;
      within = omega (arith, step.0);
      said = step.1;
    }

pub returns-then-not-whole-clause-refused : goal.returns-then-not-whole-clause-refused
returns-then-not-whole-clause-refused c =
    let none : length c.loop-rest.rest.now ≡ 0 = grind arith in
    scan_stops c.args.whole c.args.text.now c.loop-rest.rest.now c.loop-rest.tokens.items none c.loop-rest.invariant.said (grind arith)

pub returns-clause-accepted : goal.returns-clause-accepted
returns-clause-accepted c =
    let none : length c.loop-rest.rest.now ≡ 0 = grind arith in
    scan_accepts c.args.whole c.args.text.now c.loop-rest.rest.now c.loop-rest.tokens.items c.new.result.tokens none c.loop-rest.invariant.said
    (grind arith) (rw c.new.ensures refl)

pub new-requires : goal.new-requires
new-requires c =
    let none : length c.loop-rest.rest.now ≡ 0 = grind arith in
    let whole : c.args.whole ≡ true = grind arith in
    let cut = scan_accepts c.args.whole c.args.text.now c.loop-rest.rest.now c.loop-rest.tokens.items c.loop-rest.tokens.items none c.loop-rest.invariant.said whole refl in
    record { text = c.args.text.now; utf8 = c.utf8.text; cut = subst (λ w. tokens_from w 0 0 c.args.text.now ≡ Ok c.loop-rest.tokens.items) whole cut }
