-- What a shelf holds, what a sink was given, and faults of the outside.
use Rattle.std.specs.Prelude.{◌≡◌, ℕ, ◌+◌, ◌-◌, ◌^◌, ◌≤◌, min, List, ◌++◌, take, length, bytes_eq, if◌then◌else◌, nat_le, Option, Some, None, option_map, option_and_then, Result, IsErrOf}
use Rattle.opt_base.specs.declared.outside.Found.{Found}
use Rattle.opt_base.specs.declared.outside.Found.TheVariants.{Bytes, Missing, TooBig}

-- what each path holds, by the path's bytes; nothing where it is not held
abbrev pub Files : Type 0
Files = List ℕ → Option (List ℕ)

-- the files of an empty shelf
abbrev pub no_files : Files
no_files path = None

-- the same files, but this path holds these bytes
abbrev pub written : List ℕ → List ℕ → Files → Files
written path bytes files other = if bytes_eq path other then Some bytes else files other

-- the same files without this path
abbrev pub without : List ℕ → Files → Files
without path files other = if bytes_eq path other then None else files other

-- what a path holds, where the files are told
abbrev pub held_at : List ℕ → Option Files → Option (List ℕ)
held_at path files = option_and_then (λ all. all path) files

-- what is found where at most so many bytes are wanted of what a path holds
abbrev pub found_of : ℕ → Option (List ℕ) → Found
found_of most None = Missing
found_of most (Some bytes) = if nat_le (length bytes) most then Bytes bytes else TooBig

-- this is what is found of a path, where the files are told
abbrev pub IsFound : Option Files → List ℕ → ℕ → Found → Type 0
IsFound None path most found = Unit {0}
IsFound (Some files) path most found = found ≡ found_of most (files path)

-- there are at most so many bytes
abbrev pub IsWithin : ℕ → Found → Type 0
IsWithin most (Bytes bytes) = length bytes ≤ most
IsWithin most Missing = Unit {0}
IsWithin most TooBig = Unit {0}

-- these bytes at the end of what was written
abbrev pub appended : List ℕ → List ℕ → List ℕ
appended bytes old = old ++ bytes

-- some first bytes of these were appended
abbrev pub AppendsSome : List ℕ → Option (List ℕ) → Option (List ℕ) → Type 0
AppendsSome bytes old new = (count : ℕ) × (new ≡ option_map (appended (take count bytes)) old)

-- a count of faults rose, or stands at its greatest
abbrev pub Rose : ℕ → ℕ → Type 0
Rose before now = min (before + 1) (2 ^ 64 - 1) ≤ now

-- the count of faults has not fallen, and the call failed only where it rose
pub record HasCause {T E : Type 0} (failed : E) (before now : ℕ) (result : Result T E) : Type 0 where
  pub later : before ≤ now
  pub cause : IsErrOf result failed → Rose before now
