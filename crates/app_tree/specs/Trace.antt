-- What is said of each entry of a trace.
use Rattle.std.specs.Prelude.{⊤, List, [], ◌∷◌}
use Rattle.app_tree.specs.declared.term.Read.{Read}
use Rattle.app_tree.specs.Evaluate.{TraceEntry, reads}

-- of each member of a list
abbrev pub Every : {A : Type 0} → (A → Type 0) → List A → Type 0
Every P [] = ⊤
Every P (x ∷ xs) = P x × Every P xs

abbrev pub OfRead : (Read → Type 0) → TraceEntry → Type 0
OfRead P (reads r) = P r
OfRead P _ = ⊤

-- of each read that is asked
abbrev pub EveryRead : (Read → Type 0) → List TraceEntry → Type 0
EveryRead P asked = Every (OfRead P) asked
