-- What priorities and keys are written as.
use Rattle.std.proofs.Common.{◌≡◌, ℕ, zero, suc, ℤ, pos, negsuc, List, [], ◌∷◌, ◌++◌, codes, length, ◌<◌, ◌==◌, false, refl, sym, ap, ◌∙◌, append_assoc, arith, of_z, w64}
use Rattle.std.specs.Fmt.{signed_decimal}
use Rattle.std.proofs.lemmas.Bool.Decides.{nat_tests}
use Rattle.app_tree.specs.declared.term.Term.{Term}
use Rattle.app_tree.specs.View.{trees_of_terms}
use Rattle.app_tree.specs.Declarations.{Declared}
use Rattle.app_tree.specs.Named.{named_trees}
use Rattle.app_printer.specs.Canonical.{terms_text, priority_text, keys_text}

priority-written : (z : ℤ) → (of_z w64 z ≡ 0 → ⊥) → priority_text z ≡ codes " priority " ++ signed_decimal z
priority-written (pos zero) other = absurd (other refl)
priority-written (pos (suc n)) other = refl
priority-written (negsuc n) other = refl

pub writes-priority : (z y : ℤ) (old mid new : List ℕ) → (of_z w64 z ≡ 0 → ⊥) → y ≡ z → mid ≡ old ++ codes " priority " → new ≡ mid ++ signed_decimal y
    → new ≡ old ++ priority_text z
writes-priority z y old mid new other same first last =
    let form = priority-written z other in
    let whole = append_assoc old (codes " priority ") (signed_decimal z) in
    cc

keys-written : (table : List Declared) (keys : List Term) → 0 < length keys
    → keys_text (named_trees table [] (trees_of_terms keys)) ≡ codes " cache (" ++ terms_text (named_trees table [] (trees_of_terms keys)) ++ codes ")"
keys-written table [] some = absurd (omega arith)
keys-written table (t ∷ ts) some = refl

pub not_empty : (n : ℕ) → false ≡ (n == 0) → 0 < n
not_empty n e = grind (arith, nat_tests)

pub writes-keys : (table : List Declared) (keys : List Term) (old mid new : List ℕ) → 0 < length keys → mid ≡ old ++ codes " cache ("
    → new ≡ mid ++ (terms_text (named_trees table [] (trees_of_terms keys)) ++ codes ")")
    → new ≡ old ++ keys_text (named_trees table [] (trees_of_terms keys))
writes-keys table keys old mid new some first last =
    let form = keys-written table keys some in
    let inner = append_assoc (codes " cache (") (terms_text (named_trees table [] (trees_of_terms keys))) (codes ")") in
    let whole = append_assoc old (codes " cache (") (terms_text (named_trees table [] (trees_of_terms keys)) ++ codes ")") in
    cc
