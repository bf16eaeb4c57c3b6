-- What is written of a refusal: its name, the refused name and the read where there is one, and the place.
use Rattle.std.specs.Prelude.{ℕ, List, ◌++◌, codes}
use Rattle.std.specs.Fmt.{decimal}
use Rattle.app_check.specs.declared.limits.TheConstants.{FILE_LIMIT}
use Rattle.app_check.specs.declared.error.LoadError.{LoadError}
use Rattle.app_check.specs.declared.error.LoadError.TheVariants as error

abbrev pub at_place : List ℕ → ℕ → List ℕ
at_place refusal place = refusal ++ codes " at " ++ decimal place

abbrev pub named_at_place : List ℕ → List ℕ → ℕ → List ℕ
named_at_place refusal name place = refusal ++ codes " " ++ name ++ codes " at " ++ decimal place

-- with a read behind the name
abbrev pub read_at_place : List ℕ → List ℕ → List ℕ → ℕ → List ℕ
read_at_place refusal name read place = refusal ++ codes " " ++ name ++ codes " " ++ read ++ codes " at " ++ decimal place

abbrev pub refusal_text : LoadError → List ℕ
refusal_text error.TooLong = at_place (codes "TooLong") FILE_LIMIT
refusal_text (error.BadByte place) = at_place (codes "BadByte") place
refusal_text (error.OpenText place) = at_place (codes "OpenText") place
refusal_text (error.Unexpected place) = at_place (codes "Unexpected") place
refusal_text (error.TooDeep place) = at_place (codes "TooDeep") place
refusal_text (error.NameTwice name place) = named_at_place (codes "NameTwice") name place
refusal_text (error.NameUnknown name place) = named_at_place (codes "NameUnknown") name place
refusal_text (error.ArgCount name place) = named_at_place (codes "ArgCount") name place
refusal_text (error.ReadInTask place) = at_place (codes "ReadInTask") place
refusal_text (error.ForwardRead name place) = named_at_place (codes "ForwardRead") name place
refusal_text (error.IsolateInFold place) = at_place (codes "IsolateInFold") place
refusal_text (error.WriteInExpr place) = at_place (codes "WriteInExpr") place
refusal_text (error.FoldTooDeep place) = at_place (codes "FoldTooDeep") place
refusal_text (error.TooManyItems place) = at_place (codes "TooManyItems") place
refusal_text (error.Uncovered name read place) = read_at_place (codes "Uncovered") name read place
refusal_text (error.IsolateInCached name place) = named_at_place (codes "IsolateInCached") name place
refusal_text error.Memory = codes "out of memory"
