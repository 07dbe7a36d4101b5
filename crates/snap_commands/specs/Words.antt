-- What the words of the command line ask for.
use Rattle.std.specs.Prelude.{ℕ, Bool, not, ◌&&◌, List, [], ◌∷◌, Option, Some, None, length, map, nat_eq, nat_le, codes, if◌then◌else◌}
use Rattle.std.specs.Cmp.Lexicographic.{pointwise}
use Rattle.std.specs.List.{list_all, starts_with}
use Rattle.std.specs.Global.{Global}
use Rattle.std.specs.declared.string.String.{String}
use Rattle.std.specs.String.{string_bytes}
use Rattle.snap_base.specs.declared.limits.TheConstants.{MOST_ITEMS}

-- the bytes of each word
abbrev pub bytes_of : List (String Global) → List (List ℕ)
bytes_of words = map string_bytes words

-- a byte from 0x20 to 0x7E
abbrev pub is_printable : ℕ → Bool
is_printable b = nat_le 32 b && nat_le b 126

-- a word that names a file: no longer than a text, of printable characters, and no option
abbrev pub is_name : List ℕ → Bool
is_name word = nat_le (length word) MOST_ITEMS && not (starts_with nat_eq word (codes "--")) && list_all is_printable word

-- a command, and the file that it works on; a run may have no entry
pub data Job : Type 0 where
  Build : (source : List ℕ) → Job
  Run : (entry : Option (List ℕ)) → Job
  Verify : (blob : List ℕ) → Job

-- the command of this word, over a file
abbrev pub job_under : List ℕ → List ℕ → Option Job
job_under command name =
    if pointwise nat_eq command (codes "build") then Some (Build name)
    else (if pointwise nat_eq command (codes "run") then Some (Run (Some name))
    else (if pointwise nat_eq command (codes "verify") then Some (Verify name) else None))

-- what the words ask for, or none where they ask for nothing that there is
abbrev pub job_of : List (List ℕ) → Option Job
job_of [] = None
job_of (command ∷ []) = if pointwise nat_eq command (codes "run") then Some (Run None) else None
job_of (command ∷ name ∷ []) = if is_name name then job_under command name else None
job_of (command ∷ name ∷ more ∷ rest) = None
