use Rattle.std.proofs.Common.{ap, sym, ◌∙◌, Some, arith}
use Rattle.rx_ports.proofs.TakeLemmas.{given-more}
use Rattle.rx_ports.proofs.mem_source.MemSourceSource.take.Goals as goal

pub returns-clause-gives : goal.returns-clause-gives
returns-clause-gives c = record {
  some = omega arith;
  fits = omega arith;
  front = ap (λ s. Some s.left) (sym c.self.view_is)
      ∙ ap Some (given-more c.self.inside.bytes c.copy_front-count.new.to c.self.inside.given c.copy_front-count.result
      (rw c.rest.ensures.value at c.copy_front-count.ensures.copied));
}
