-- The sites of a reader as it runs: none is answered, but for the body of an event that ignores its first run.
use Rattle.std.proofs.Common.{◌≡◌, ◌≢◌, ℕ, true, false, Some, None}
use Rattle.std.specs.Prelude.{◌==◌}
use Rattle.rx_value.specs.declared.outcome.Outcome.TheVariants as o
use Rattle.app_tree.specs.Tree.{Shape}
use Rattle.app_tree.specs.Numbering.{reader}
use Rattle.app_tree.specs.Fresh.{ignored_site, first_sites}
use Rattle.app_laws.proofs.WhatIsAsked.{eq_apart, eq_self}

pub none_ignored : (app : Shape) (n : ℕ) → ignored_site (reader app n) ≡ None → (s : ℕ) → first_sites app n s ≡ None
none_ignored app n h s = cc

pub one_ignored : (app : Shape) (n k : ℕ) → ignored_site (reader app n) ≡ Some k → first_sites app n k ≡ Some o.Stop
one_ignored app n k h = let same : (k == k) ≡ true = eq_self k in cc

pub others_ignored : (app : Shape) (n k s : ℕ) → ignored_site (reader app n) ≡ Some k → k ≢ s → first_sites app n s ≡ None
others_ignored app n k s h d = let differ : (k == s) ≡ false = eq_apart k s d in cc
