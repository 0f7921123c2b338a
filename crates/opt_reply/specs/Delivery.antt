-- An answer given to the outside, whole or in part.
use Rattle.std.specs.Prelude.{◌≡◌, ◌≢◌, ℕ, ◌≤◌, List, [], ◌∷◌, ◌⊎◌, Option, option_map, is_some}
use Rattle.opt_base.specs.Outside.{Files, written, without, appended, AppendsSome, Rose}
use Rattle.opt_reply.specs.declared.TheConstants.{OUTSIDE, MEMORY}
use Rattle.opt_reply.specs.Answer.{Put, Answer}

-- what the shelf holds and what out and err were given, each where it is told
pub record Standing : Type 0 where
  pub files : Option Files
  pub out : Option (List ℕ)
  pub err : Option (List ℕ)

abbrev pub standing : Option Files → Option (List ℕ) → Option (List ℕ) → Standing
standing files out err = record { files = files; out = out; err = err }

-- the counts of faults of the shelf, of out and of err
pub record Faults : Type 0 where
  pub shelf : ℕ
  pub out : ℕ
  pub err : ℕ

abbrev pub faults : ℕ → ℕ → ℕ → Faults
faults shelf out err = record { shelf = shelf; out = out; err = err }

-- the files once these puts are made in order
abbrev pub put_in_order : List Put → Files → Files
put_in_order [] files = files
put_in_order (put ∷ more) files = put_in_order more (written put.0 put.1 files)

-- the first of these puts are made in order, and at the path of the next one anything may stand
abbrev pub PutsSome : List Put → Option Files → Option Files → Type 0
PutsSome [] old new = new ≡ old
PutsSome (put ∷ more) old new =
    (option_map (without put.0) new ≡ option_map (without put.0) old) ⊎ PutsSome more (option_map (written put.0 put.1) old) new

-- all is given: the puts are made, and the bytes for out and err are appended
pub record GivesAll (answer : Answer) (old new : Standing) : Type 0 where
  pub files : new.files ≡ option_map (put_in_order answer.puts) old.files
  pub out : new.out ≡ option_map (appended answer.printed) old.out
  pub err : new.err ≡ option_map (appended answer.refused) old.err

-- only some puts are made
pub record StopsAtPuts (answer : Answer) (old new : Standing) : Type 0 where
  pub files : PutsSome answer.puts old.files new.files
  pub out : new.out ≡ old.out
  pub err : new.err ≡ old.err

-- the puts are made, and some first bytes for out are appended
pub record StopsAtOut (answer : Answer) (old new : Standing) : Type 0 where
  pub files : new.files ≡ option_map (put_in_order answer.puts) old.files
  pub out : AppendsSome answer.printed old.out new.out
  pub err : new.err ≡ old.err

-- the puts are made, the bytes for out are appended, and some first bytes for err are
pub record StopsAtErr (answer : Answer) (old new : Standing) : Type 0 where
  pub files : new.files ≡ option_map (put_in_order answer.puts) old.files
  pub out : new.out ≡ option_map (appended answer.printed) old.out
  pub err : AppendsSome answer.refused old.err new.err

-- a first part of the answer is given
abbrev pub GivesSome : Answer → Standing → Standing → Type 0
GivesSome answer old new = StopsAtPuts answer old new ⊎ (StopsAtOut answer old new ⊎ StopsAtErr answer old new)

-- one of the counts rose
abbrev pub SomeRose : Faults → Faults → Type 0
SomeRose before now = Rose before.shelf now.shelf ⊎ (Rose before.out now.out ⊎ Rose before.err now.err)

-- no count fell
pub record NoneFell (before now : Faults) : Type 0 where
  pub shelf : before.shelf ≤ now.shelf
  pub out : before.out ≤ now.out
  pub err : before.err ≤ now.err

-- what was told is told, and nothing else
pub record SameTold (old new : Standing) : Type 0 where
  pub files : is_some new.files ≡ is_some old.files
  pub out : is_some new.out ≡ is_some old.out
  pub err : is_some new.err ≡ is_some old.err

-- the answer is given with this status: whole under its own, or in part where the outside failed or memory ran out
pub record Delivers (answer : Answer) (status : ℕ) (old new : Standing) (before now : Faults) : Type 0 where
  pub ends : status ≢ OUTSIDE → status ≢ MEMORY → (status ≡ answer.status) × GivesAll answer old new
  pub early : (status ≡ OUTSIDE) ⊎ (status ≡ MEMORY) → GivesSome answer old new
  pub outside : status ≡ OUTSIDE → SomeRose before now
  pub complete : ¬ SomeRose before now → (status ≡ answer.status) ⊎ (status ≡ MEMORY)
  pub later : NoneFell before now
  pub told : SameTold old new
