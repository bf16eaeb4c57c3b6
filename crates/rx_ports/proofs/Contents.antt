-- What several calls do to the bytes that a source has left and that a sink holds, and to a count of faults.
use Rattle.std.proofs.Common.{◌≡◌, ℕ, ◌≤◌, List, ◌++◌, Some, None, IfSome, refl, sym, ap, ◌∙◌, subst, append_assoc, append-nil, arith}
use Rattle.std.specs.declared.option.Option.{Option}
use Rattle.std.specs.Io.KnownBytes.{prepend_known, append_known, Consumes, Appends, IsAtEnd}
use Rattle.rx_ports.specs.Faults.{Rose}

-- bytes before bytes before what is known
pub prepend_known-append : (known : Option (List ℕ)) (front back : List ℕ) → prepend_known front (prepend_known back known) ≡ prepend_known (front ++ back) known
prepend_known-append None front back = refl
prepend_known-append (Some xs) front back = ap Some (sym (append_assoc front back xs))

-- bytes behind bytes behind what is known
pub append_known-append : (known : Option (List ℕ)) (front back : List ℕ) → append_known (append_known known front) back ≡ append_known known (front ++ back)
append_known-append None front back = refl
append_known-append (Some xs) front back = ap Some (append_assoc xs front back)

-- what was taken until nothing was left is all that was left at first
pub prepend_known-end : (old new : Option (List ℕ)) (taken : List ℕ) → old ≡ prepend_known taken new → IsAtEnd new → IfSome old (λ left. left ≡ taken)
prepend_known-end old None taken is end = subst (λ o. IfSome o (λ left. left ≡ taken)) (sym is) tt
prepend_known-end old (Some rest) taken is end =
    subst (λ o. IfSome o (λ left. left ≡ taken)) (sym is) (ap (λ l. taken ++ l) end ∙ append-nil taken)

pub Consumes-prepend_known : (old new : Option (List ℕ)) (taken : List ℕ) → old ≡ prepend_known taken new → Consumes old new taken
Consumes-prepend_known old None taken is = subst (λ o. Consumes o None taken) (sym is) tt
Consumes-prepend_known old (Some rest) taken is = subst (λ o. Consumes o (Some rest) taken) (sym is) refl

pub Appends-append_known : (old new : Option (List ℕ)) (more : List ℕ) → new ≡ append_known old more → Appends old new more
Appends-append_known None new more is = tt
Appends-append_known (Some held) new more is = subst (λ o. Appends (Some held) o more) (sym is) refl

-- a rise after other calls is a rise over all of them
pub Rose-earlier : (before mid now : ℕ) → before ≤ mid → Rose mid now → Rose before now
Rose-earlier before mid now earlier rose = omega arith

-- and so is a rise before other calls
pub Rose-later : (before mid now : ℕ) → Rose before mid → mid ≤ now → Rose before now
Rose-later before mid now rose later = omega arith
