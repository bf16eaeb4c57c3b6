-- The lines that a replay writes.
use Rattle.std.specs.Prelude.{ℕ, List, [], ◌∷◌, ◌++◌, codes}
use Rattle.shiny_json.specs.declared.message.BadMessage.{BadMessage}
use Rattle.shiny_json.specs.declared.message.BadMessage.TheVariants as bad

-- the name of the cause for which a message was refused
abbrev pub cause_name : BadMessage → List ℕ
cause_name bad.TooLong = codes "TooLong"
cause_name bad.NotJson = codes "NotJson"
cause_name bad.NotObject = codes "NotObject"
cause_name bad.NoMethod = codes "NoMethod"
cause_name bad.BadMethod = codes "BadMethod"
cause_name bad.NoData = codes "NoData"
cause_name bad.EarlyUpdate = codes "EarlyUpdate"
cause_name bad.SecondInit = codes "SecondInit"
cause_name bad.Other = codes "Other"

-- `S send TEXT` for each text
abbrev pub send_lines : List ℕ → List (List ℕ) → List ℕ
send_lines label [] = []
send_lines label (text ∷ more) = (label ++ codes " send " ++ text ++ codes "\n") ++ send_lines label more

-- `S over REASON`
abbrev pub over_text : List ℕ → List ℕ → List ℕ
over_text label reason = label ++ codes " over " ++ reason ++ codes "\n"
