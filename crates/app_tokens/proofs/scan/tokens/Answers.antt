use Rattle.app_tokens.proofs.Layouts.{StandIn-whole}
use Rattle.std.proofs.Common.{sym, ◌∙◌}
use Rattle.app_tokens.proofs.Files.{whole_accepted, whole_refused, broken_accepted, broken_refused, whole_end, whole_utf8}
use Rattle.app_tokens.proofs.scan.tokens.Goals as goal

pub returns-in-Ok-clause-accepted : goal.returns-in-Ok-clause-accepted
returns-in-Ok-clause-accepted c =
    whole_accepted c.args.text.now c.in-Ok.whole.now c.scan.result c.in-Ok.ensures.cases.0 c.in-Ok.ensures.cases.1 c.scan.ensures.accepted c.scan.ensures.end

pub returns-in-Ok-clause-refused : goal.returns-in-Ok-clause-refused
returns-in-Ok-clause-refused c =
    whole_refused c.args.text.now c.in-Ok.whole.now c.scan.result c.in-Ok.ensures.cases.0 c.in-Ok.ensures.cases.1 c.scan.ensures.refused

pub returns-in-Ok-from_utf8-clause-accepted : goal.returns-in-Ok-from_utf8-clause-accepted
returns-in-Ok-from_utf8-clause-accepted c =
    broken_accepted _ c.scan-in-Ok-from_utf8.result c.scan-in-Ok-from_utf8.ensures.whole

pub returns-in-Ok-from_utf8-clause-refused : goal.returns-in-Ok-from_utf8-clause-refused
returns-in-Ok-from_utf8-clause-refused c =
    broken_refused c.args.text.now c.in-Ok-from_utf8.front.now c.valid_up_to.result c.scan-in-Ok-from_utf8.result
    (sym (c.valid_up_to.ensures ∙ c.in-Err.ensures.valid_len)) c.in-Ok-from_utf8.ensures.cases.0 (rw c.valid_up_to.ensures c.in-Err.ensures.cases.1.short)
    c.scan-in-Ok-from_utf8.ensures.refused

pub returns-in-Ok-clause-laid_out : goal.returns-in-Ok-clause-laid_out
returns-in-Ok-clause-laid_out c =
    StandIn-whole c.args.text.now c.in-Ok.whole.now c.scan.result c.in-Ok.ensures.cases.0 c.in-Ok.ensures.cases.1 c.scan.ensures.accepted

pub returns-in-Ok-clause-end : goal.returns-in-Ok-clause-end
returns-in-Ok-clause-end c = whole_end c.args.text.now c.in-Ok.whole.now c.scan.result c.in-Ok.ensures.cases.0 c.scan.ensures.end

pub returns-in-Ok-clause-utf8 : goal.returns-in-Ok-clause-utf8
returns-in-Ok-clause-utf8 c = whole_utf8 c.args.text.now c.scan.result c.in-Ok.ensures.cases.1

pub returns-in-Ok-from_utf8-clause-laid_out : goal.returns-in-Ok-from_utf8-clause-laid_out
returns-in-Ok-from_utf8-clause-laid_out c = broken_accepted _ c.scan-in-Ok-from_utf8.result c.scan-in-Ok-from_utf8.ensures.whole

pub returns-in-Ok-from_utf8-clause-end : goal.returns-in-Ok-from_utf8-clause-end
returns-in-Ok-from_utf8-clause-end c = broken_accepted _ c.scan-in-Ok-from_utf8.result c.scan-in-Ok-from_utf8.ensures.whole

pub returns-in-Ok-from_utf8-clause-utf8 : goal.returns-in-Ok-from_utf8-clause-utf8
returns-in-Ok-from_utf8-clause-utf8 c = broken_accepted _ c.scan-in-Ok-from_utf8.result c.scan-in-Ok-from_utf8.ensures.whole
