-- Calls that fail by a script.
use Rattle.std.specs.Prelude.{◌≡◌, ℕ, ◌+◌, ◌-◌, ◌^◌, min, List, take, Option, Some, None, option_map, nat_eq, if◌then◌else◌, Contains, ◌↔◌, ◌⊎◌, Result, IsErrOf}
use Rattle.opt_base.specs.declared.calls.Calls.{Calls}
use Rattle.opt_base.specs.declared.mem_shelf.MemShelf.{MemShelf}
use Rattle.opt_base.specs.declared.outside.PutFault.{PutFault}
use Rattle.opt_base.specs.declared.outside.PutFault.TheVariants.{Failed, OutOfMemory}
use Rattle.opt_base.specs.Outside.{Files, written}
use Rattle.opt_base.specs.declared.mem_sink.MemSink.{MemSink}

-- the script of a shelf in memory
abbrev pub calls_of_shelf : MemShelf → Calls
calls_of_shelf shelf = shelf.calls

-- the script of a sink in memory
abbrev pub calls_of_sink : MemSink → Calls
calls_of_sink sink = sink.calls

-- one more call was made, and it failed exactly where its number is one of those that fail
pub record IsScripted {T E : Type 0} (failed : E) (old new : Calls) (result : Result T E) : Type 0 where
  pub counted : new.made ≡ min (old.made + 1) (2 ^ 64 - 1)
  pub fails : IsErrOf result failed ↔ Contains old.fails.items new.made
  pub same : new.fails ≡ old.fails

-- the put of a shelf in memory that is torn, where there is one: the number of its call, and how many of its bytes stand then
abbrev pub tear_of : MemShelf → Option (ℕ × ℕ)
tear_of shelf = option_map (λ tear. (tear.call, tear.kept)) shelf.tear

-- what a put that fails as the call of this number leaves: its first bytes where it is the one that is torn, else what was there
abbrev pub left_by : Option (ℕ × ℕ) → ℕ → List ℕ → List ℕ → Files → Files
left_by None number path bytes files = files
left_by (Some tear) number path bytes files = if nat_eq tear.0 number then written path (take tear.1 bytes) files else files

-- one more put was made; it failed only where its number is one of those that fail, and there it did, or memory ran out
pub record IsScriptedPut {T : Type 0} (old new : Calls) (result : Result T PutFault) : Type 0 where
  pub counted : new.made ≡ min (old.made + 1) (2 ^ 64 - 1)
  pub fails : IsErrOf result Failed → Contains old.fails.items new.made
  pub fails_there : Contains old.fails.items new.made → IsErrOf result Failed ⊎ IsErrOf result OutOfMemory
  pub same : new.fails ≡ old.fails
