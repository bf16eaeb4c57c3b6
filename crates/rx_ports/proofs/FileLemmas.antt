-- A file is put at its place: in the place of the one of its name, or behind all.
use Rattle.std.proofs.Common.{◌≡◌, ℕ, suc, ◌+◌, ◌<◌, ◌≤◌, List, [], ◌∷◌, ◌++◌, length, Bool, true, false, cond, not, refl, ap, subst, arith, bytes_eq, Some, None}
use Rattle.std.proofs.lemmas.Bool.{ltb-true, ltb-false}
use Rattle.std.specs.List.{position, position_or_len}
use Rattle.std.proofs.Math.ListN.{set}
use Rattle.rx_ports.specs.MemoryForms.{with_file}
use Rattle.rx_ports.specs.declared.files.NamedFile.{NamedFile}

at_first : {A : Type 0} (first : Bool) (new file : A) (files rest : List A) (place : ℕ)
    → (place < length files → rest ≡ set files place new)
    → cond (not first) (1 + place) 0 < length (file ∷ files)
    → cond first (new ∷ files) (file ∷ rest) ≡ set (file ∷ files) (cond (not first) (1 + place) 0) new
at_first true new file files rest place later h = refl
at_first false new file files rest place later h =
    let is_suc : 1 + place ≡ suc place = omega arith in
    let within : place < length files = omega arith in
    rw (is_suc, later within) refl

behind_first : {A : Type 0} (first : Bool) (new file : A) (files rest : List A) (place : ℕ)
    → (length files ≤ place → rest ≡ files ++ new ∷ [])
    → length (file ∷ files) ≤ cond (not first) (1 + place) 0
    → cond first (new ∷ files) (file ∷ rest) ≡ file ∷ (files ++ new ∷ [])
behind_first true new file files rest place later h = absurd (omega arith)
behind_first false new file files rest place later h =
    let past : length files ≤ place = omega arith in
    ap (λ l. file ∷ l) (later past)

with_file-at : (files : List NamedFile) (new : NamedFile)
    → position_or_len (λ file. bytes_eq file.name new.name) files < length files
    → with_file files new ≡ set files (position_or_len (λ file. bytes_eq file.name new.name) files) new
with_file-at [] new h = absurd (omega arith)
with_file-at (file ∷ files) new h =
    at_first (bytes_eq file.name new.name) new file files _ _ (with_file-at files new) h

with_file-behind : (files : List NamedFile) (new : NamedFile)
    → length files ≤ position_or_len (λ file. bytes_eq file.name new.name) files
    → with_file files new ≡ files ++ new ∷ []
with_file-behind [] new h = refl
with_file-behind (file ∷ files) new h =
    behind_first (bytes_eq file.name new.name) new file files _ _ (with_file-behind files new) h

some_within : (test : Bool) (first place : ℕ) → Some place ≡ cond test (Some first) None → (test ≡ true) × (first ≡ place)
some_within true first place is = (refl, cc)
some_within false first place is = cc

none_within : (test : Bool) (first : ℕ) → None ≡ cond test (Some first) None → test ≡ false
none_within true first is = cc
none_within false first is = refl

-- where there is a file of that name, the new one takes its place
pub with_file-some : (files : List NamedFile) (new : NamedFile) (place : ℕ)
    → Some place ≡ position (λ file. bytes_eq file.name new.name) files
    → with_file files new ≡ set files place new
with_file-some files new place is =
    let found = some_within _ _ place is in
    subst (λ k. with_file files new ≡ set files k new) found.1 (with_file-at files new (ltb-true _ _ found.0))

-- where there is none, it comes behind all
pub with_file-none : (files : List NamedFile) (new : NamedFile)
    → None ≡ position (λ file. bytes_eq file.name new.name) files
    → with_file files new ≡ files ++ new ∷ []
with_file-none files new is = with_file-behind files new (ltb-false _ _ (none_within _ _ is))
