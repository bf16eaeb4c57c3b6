-- The numbers of an array, read one by one.
use Rattle.std.proofs.Common.{ℤ, List, ◌++◌, Option, Some, None}

-- the numbers zs and those that follow, where each that follows is one
abbrev pub followed_by : List ℤ → Option (List ℤ) → Option (List ℤ)
followed_by zs None = None
followed_by zs (Some ws) = Some (zs ++ ws)
