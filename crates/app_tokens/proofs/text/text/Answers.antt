use Rattle.app_tokens.proofs.Texts.{text_piece-fails, text_piece-ends, text_from-kept}
use Rattle.app_tokens.proofs.text.text.Goals as goal

pub returns-in_err-byte : goal.returns-in_err-byte
returns-in_err-byte c =
    text_piece-fails c.args.whole c.args.quote c.args.inside.now c.loop-value.value c.loop-value.rest.now c.in_ok-rest.rest.now c.as_bytes.result.now
    c.in_err-byte.field-0.0 c.from_residual-in_err-byte.result c.loop-value.invariant.within c.in_ok-rest.ensures.after c.loop-value.invariant.said
    c.as_bytes.ensures.value c.in_err-byte.ensures.said c.from_residual-in_err-byte.ensures.1

pub returns-in-None : goal.returns-in-None
returns-in-None c =
    text_piece-ends c.args.whole c.args.quote c.args.inside.now c.loop-value.value c.push_plain.new.value c.loop-value.rest.now c.in_ok-rest.rest.now
    c.as_bytes.result.now c.piece_within_limit.result c.loop-value.invariant.within c.in_ok-rest.ensures.after c.loop-value.invariant.said
    c.in_ok-rest.ensures.pushed c.as_bytes.ensures.value (rw c.in-None.is at c.in_ok-byte.ensures.said) c.piece_within_limit.ensures

pub loop-value-preserved : goal.loop-value-preserved
loop-value-preserved c =
    let kept = text_from-kept c.args.whole c.args.quote c.in-Some.byte c.args.inside.now c.loop-value.value c.push_plain.new.value c.push_ascii.new.value
    c.loop-value.rest.now c.in_ok-rest.rest.now c.as_bytes.result.now c.behind_pair-rest.result.now c.loop-value.invariant.within
    c.in_ok-rest.ensures.after c.loop-value.invariant.said c.in_ok-rest.ensures.pushed c.as_bytes.ensures.value (rw c.in-Some.is at c.in_ok-byte.ensures.said)
    c.in_ok-push_ascii-in-Some.ensures (rw c.in-Some.is at c.in_ok-byte.ensures.two).0 c.behind_pair-rest.ensures in
    record { utf8 = c.behind_pair-rest.utf8; within = kept.0; said = kept.2 }
