-- What is looked up after a file was added: the file by its own name, and by each other name what was there.
use Rattle.std.proofs.Common.{◌≡◌, ◌≢◌, ℕ, List, [], ◌∷◌, Bool, true, false, cond, refl, sym, ◌∙◌, bytes_eq, Some}
use Rattle.std.specs.declared.option.Option.{Option}
use Rattle.std.specs.Option.{option_map}
use Rattle.std.proofs.lemmas.Bool.{false_from_ne_true}
use Rattle.std.proofs.lemmas.Slice.Eq.{bytes_eq-Decides}
use Rattle.rx_ports.specs.Files.{content_of}
use Rattle.rx_ports.specs.MemoryForms.{with_file}
use Rattle.rx_ports.specs.declared.files.NamedFile.{NamedFile}

same_name : (name : List ℕ) → bytes_eq name name ≡ true
same_name name = (bytes_eq-Decides name name).1 refl

other_name : (name other : List ℕ) → name ≢ other → bytes_eq name other ≡ false
other_name name other differ = false_from_ne_true _ (λ is. differ ((bytes_eq-Decides name other).0 is))

abbrev content : NamedFile → List ℕ
content file = file.content

-- the first file is found by its name, and passed over by another
content_or-true : (test : Bool) (file : NamedFile) (later : Option NamedFile) → test ≡ true
    → option_map content (cond test (Some file) later) ≡ Some file.content
content_or-true true file later is = refl
content_or-true false file later is = cc

content_or-false : (test : Bool) (file : NamedFile) (later : Option NamedFile) → test ≡ false
    → option_map content (cond test (Some file) later) ≡ option_map content later
content_or-false true file later is = cc
content_or-false false file later is = refl

content_or-same : (test : Bool) (file : NamedFile) (later others : Option NamedFile)
    → option_map content later ≡ option_map content others
    → option_map content (cond test (Some file) later) ≡ option_map content (cond test (Some file) others)
content_or-same true file later others same = refl
content_or-same false file later others same = same

same_step : (test : Bool) (file new : NamedFile) (files rest : List NamedFile) → bytes_eq file.name new.name ≡ test
    → content_of rest new.name ≡ Some new.content
    → content_of (cond test (new ∷ files) (file ∷ rest)) new.name ≡ Some new.content
same_step true file new files rest is later = content_or-true _ new _ (same_name new.name)
same_step false file new files rest is later = content_or-false _ file _ is ∙ later

other_step : (test : Bool) (file new : NamedFile) (files rest : List NamedFile) (name : List ℕ) → bytes_eq file.name new.name ≡ test
    → new.name ≢ name
    → content_of rest name ≡ content_of files name
    → content_of (cond test (new ∷ files) (file ∷ rest)) name ≡ content_of (file ∷ files) name
other_step true file new files rest name is differ later =
    let named : file.name ≡ new.name = (bytes_eq-Decides file.name new.name).0 is in
    content_or-false _ new _ (other_name new.name name differ)
    ∙ sym (content_or-false _ file _ (other_name file.name name (λ same. differ (sym named ∙ same))))
other_step false file new files rest name is differ later = content_or-same _ file _ _ later

-- a file that was added is found by its name
pub content_of-with_file_same : (files : List NamedFile) (new : NamedFile) → content_of (with_file files new) new.name ≡ Some new.content
content_of-with_file_same [] new = content_or-true _ new _ (same_name new.name)
content_of-with_file_same (file ∷ files) new = same_step _ file new files _ refl (content_of-with_file_same files new)

-- by any other name the same is found as before
pub content_of-with_file_other : (files : List NamedFile) (new : NamedFile) (name : List ℕ) → new.name ≢ name
    → content_of (with_file files new) name ≡ content_of files name
content_of-with_file_other [] new name differ = content_or-false _ new _ (other_name new.name name differ)
content_of-with_file_other (file ∷ files) new name differ =
    other_step _ file new files _ name refl differ (content_of-with_file_other files new name differ)
