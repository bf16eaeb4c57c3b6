use Rattle.std.proofs.Common.{sym, ◌∙◌}
use Rattle.rx_ports.proofs.TapeLemmas.{drop-slice_get, take-slice_get, received-first, RecvGives-first, IsOrMemory-first, IsOrMemory-text, after_recv-first}
use Rattle.rx_ports.proofs.tape_link.TapeLinkLink.recv.Goals as goal

pub returns-in-Ok-clause-received : goal.returns-in-Ok-clause-received
returns-in-Ok-clause-received c =
    take-slice_get c.self.inside.items c.self.inside.given c.get.result.now c.get.ensures
    ∙ received-first _ _ c.self.view_is c.get.result.now c.in-Ok.answer c.in-Ok.ensures.ok

pub returns-in-Ok-clause-gives : goal.returns-in-Ok-clause-gives
returns-in-Ok-clause-gives c =
    let first = drop-slice_get c.self.inside.items c.self.inside.given c.get.result.now c.get.ensures in
    RecvGives-first _ _ c.self.view_is c.get.result.now _ c.in-Ok.answer first c.in-Ok.ensures.ok

pub returns-in-Ok-clause-answer : goal.returns-in-Ok-clause-answer
returns-in-Ok-clause-answer c =
    let first = drop-slice_get c.self.inside.items c.self.inside.given c.get.result.now c.get.ensures in
    let goes = sym c.next_fails-fails.ensures ∙ c.if-fails.false in
    IsOrMemory-first _ _ c.self.view_is c.get.result.now _ c.in-Ok.answer goes first c.in-Ok.ensures.ok

pub returns-in-Ok-clause-after : goal.returns-in-Ok-clause-after
returns-in-Ok-clause-after c =
    let first = drop-slice_get c.self.inside.items c.self.inside.given c.get.result.now c.get.ensures in
    let grown = take-slice_get c.self.inside.items c.self.inside.given c.get.result.now c.get.ensures in
    after_recv-first _ _ c.self.view_is c.get.result.now _ _ c.count_call.new.self c.in-Ok.answer first c.in-Ok.ensures.ok grown
    (rw c.next_fails-fails.ensures at c.count_call.ensures.after)

pub returns-in-Err-clause-answer : goal.returns-in-Err-clause-answer
returns-in-Err-clause-answer c =
    let first = drop-slice_get c.self.inside.items c.self.inside.given c.get.result.now c.get.ensures in
    let goes = sym c.next_fails-fails.ensures ∙ c.if-fails.false in
    IsOrMemory-text _ _ c.self.view_is c.get.result.now _ goes first c.in-Err.ensures.err
