-- What a call sees of the ports that it is handed, before its work and after it.
use Rattle.std.specs.Prelude.{◌≡◌, ◌≤◌, ℕ, List, Option}
use Rattle.rx_ports.specs.Faults.{Rose}

-- what the input has left and what the output holds, before the work and after it, where they tell it
pub record Ports : Type 0 where
  pub left : Option (List ℕ)
  pub left_after : Option (List ℕ)
  pub held : Option (List ℕ)
  pub held_after : Option (List ℕ)

-- those of an input and an output, by what they tell
abbrev pub ports : {I O : Type 0} → (I → Option (List ℕ)) → (O → Option (List ℕ)) → I → I → O → O → Ports
ports left held input input_after out out_after =
    record { left = left input; left_after = left input_after; held = held out; held_after = held out_after }

-- nothing was read and nothing was written
pub record IsUntouched (p : Ports) : Type 0 where
  pub read : p.left_after ≡ p.left
  pub written : p.held_after ≡ p.held

-- ---- faults

-- the count of a port's faults rose
abbrev pub HasFailed : {A : Type 0} → (A → ℕ) → A → A → Type 0
HasFailed faults old new = Rose (faults old) (faults new)

-- the count of a port's faults never falls, and it rose where the work ended by a fault of the port
pub record CountsFaults {A : Type 0} (faults : A → ℕ) (old new : A) (by_fault : Type 0) : Type 0 where
  pub later : faults old ≤ faults new
  pub rose : by_fault → HasFailed faults old new
