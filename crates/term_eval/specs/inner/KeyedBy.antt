-- What the keys of a cached reader are told to be, by what their evaluation came to.
use Rattle.std.specs.Prelude.{ℕ, List, Result, Ok, Err}
use Rattle.rx_value.specs.declared.value.Value.{Value}
use Rattle.term_eval.specs.declared.ending.Early.{Early}
use Rattle.term_eval.specs.declared.ending.Early.TheVariants as early
use Rattle.term_eval.specs.declared.keys.Keyed.{Keyed}
use Rattle.term_eval.specs.declared.keys.Keyed.TheVariants as keyed
use Rattle.term_eval.specs.inner.Early.{halted_outcome}

abbrev pub keyed_by : ℕ → Result (List Value) Early → Keyed
keyed_by node (Ok parts) = keyed.Key (record { node = node; parts = parts })
keyed_by node (Err (early.Halted h)) = keyed.Fails (halted_outcome h)
keyed_by node (Err (early.Wants m)) = keyed.Wants m
keyed_by node (Err early.Memory) = keyed.Memory
