-- The front of a file that was read.
use Rattle.std.specs.Prelude.{ℕ, ◌≤◌, length, ⊤}
use Rattle.shiny_main.specs.declared.real.Front.{Front}
use Rattle.shiny_main.specs.declared.real.Front.TheVariants as front

-- at most so many bytes
abbrev pub IsWithin : ℕ → Front → Type 0
IsWithin most (front.Read bytes) = length bytes ≤ most
IsWithin most front.Failed = ⊤
IsWithin most front.Memory = ⊤
