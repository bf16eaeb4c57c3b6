-- What a put to a sink may answer.
use Rattle.std.specs.Prelude.{◌≡◌, ℕ, List, take, Option, ⊤}
use Rattle.std.specs.Io.KnownBytes.{append_known}
use Rattle.rx_ports.specs.Faults.{Rose}
use Rattle.rx_ports.specs.declared.sink.Put.{Put}
use Rattle.rx_ports.specs.declared.sink.Put.TheVariants as put

-- some bytes at the front were put behind what the sink held
pub record PutsFront (old new : Option (List ℕ)) (bytes : List ℕ) : Type 0 where
  pub count : ℕ
  pub front : new ≡ append_known old (take count bytes)

-- what a put does to the bytes that are held, where they are told, by its answer
abbrev pub PutGives : Option (List ℕ) → Option (List ℕ) → List ℕ → Put → Type 0
PutGives old new bytes put.Ok = new ≡ append_known old bytes
PutGives old new bytes put.Failed = PutsFront old new bytes

-- at Failed the count of faults rose
abbrev pub PutFaults : ℕ → ℕ → Put → Type 0
PutFaults before now put.Failed = Rose before now
PutFaults before now put.Ok = ⊤
