-- Counts of faults, and the plan by which an object in memory fails.
use Rattle.std.specs.Prelude.{ℕ, ◌+◌, ◌-◌, ◌^◌, ◌≤◌, ◌==◌, min, Bool, if◌then◌else◌, List, [], ◌++◌}
use Rattle.std.specs.List.{list_any}

-- one more, up to the largest number of 64 bits
abbrev pub one_more : ℕ → ℕ
one_more count = min (count + 1) (2 ^ 64 - 1)

-- the count of faults rose; where it stood at the largest number already, it may stay
abbrev pub Rose : ℕ → ℕ → Type 0
Rose before now = one_more before ≤ now

-- the numbers of the calls that are to fail, counted from 1, the count of calls made, the count of faults
pub record Plan : Type 0 where
  pub failing : List ℕ
  pub calls : ℕ
  pub faults : ℕ

-- no call is to fail, and none was made
abbrev pub no_faults : Plan
no_faults = record { failing = []; calls = 0; faults = 0 }

-- whether the next call is to fail
abbrev pub next_fails : Plan → Bool
next_fails plan = list_any (λ number. number == one_more plan.calls) plan.failing

-- the plan by which these calls fail besides
abbrev pub with_failing : List ℕ → Plan → Plan
with_failing calls plan = record plan { failing = plan.failing ++ calls }

-- the plan after a call, which failed or did not
abbrev pub after_call : Plan → Bool → Plan
after_call plan failed = record {
  failing = plan.failing;
  calls = one_more plan.calls;
  faults = if failed then one_more plan.faults else plan.faults;
}
