-- What a read of a file may answer.
use Rattle.std.specs.Prelude.{◌≡◌, ℕ, ◌+◌, ◌≤◌, List, length, take, find, Option, Some, None, IfSome, bytes_eq, ⊤}
use Rattle.std.specs.Option.{option_map}
use Rattle.rx_ports.specs.Faults.{Rose}
use Rattle.rx_ports.specs.declared.files.NamedFile.{NamedFile}
use Rattle.rx_ports.specs.declared.files.FileRead.{FileRead}
use Rattle.rx_ports.specs.declared.files.FileRead.TheVariants as read

-- the bytes of the file of this name: of the first, were there several
abbrev pub content_of : List NamedFile → List ℕ → Option (List ℕ)
content_of files name = option_map (λ file. file.content) (find (λ file. bytes_eq file.name name) files)

-- the front of that file, up to one byte more than the limit
abbrev pub front_of : List NamedFile → List ℕ → ℕ → Option (List ℕ)
front_of files name limit = option_map (λ content. take (limit + 1) content) (content_of files name)

-- Found has the front of the file of that name, Absent says that there is none, where the files are
-- told; the other two say nothing of them
abbrev pub ReadGives : Option (List NamedFile) → List ℕ → ℕ → FileRead → Type 0
ReadGives told name limit (read.Found bytes) =
    (length bytes ≤ limit + 1) × IfSome told (λ files. front_of files name limit ≡ Some bytes)
ReadGives told name limit read.Absent = IfSome told (λ files. content_of files name ≡ None)
ReadGives told name limit read.Failed = ⊤
ReadGives told name limit read.Memory = ⊤

-- at Failed the count of faults rose
abbrev pub ReadFaults : ℕ → ℕ → FileRead → Type 0
ReadFaults before now read.Failed = Rose before now
ReadFaults before now _ = ⊤
