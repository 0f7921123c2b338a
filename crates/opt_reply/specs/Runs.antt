-- What a run of a command promises, by the answers that it may give.
use Rattle.std.specs.Prelude.{◌≡◌, ◌≢◌, ℕ, ◌⊎◌}
use Rattle.opt_reply.specs.declared.TheConstants.{OUTSIDE, MEMORY}
use Rattle.opt_reply.specs.Answer.{Answer}
use Rattle.opt_reply.specs.Delivery.{Standing, Faults, GivesAll, GivesSome, SomeRose, NoneFell, SameTold}

-- an answer that may be, of this status, is given whole
pub record GivesOne (may : Answer → Type 0) (status : ℕ) (old new : Standing) : Type 0 where
  pub answer : Answer
  pub may_be : may answer
  pub status_is : status ≡ answer.status
  pub whole : GivesAll answer old new

-- a first part of an answer that may be is given
pub record GivesPart (may : Answer → Type 0) (old new : Standing) : Type 0 where
  pub answer : Answer
  pub may_be : may answer
  pub part : GivesSome answer old new

-- a command that may give these answers ends with this status: at each but 4 and 5 one of them is given whole, at these
-- two nothing or a part of one; 4 comes only where a count of faults rose, so that where none did there is a whole answer
-- or want of memory
pub record Runs (may : Answer → Type 0) (status : ℕ) (old new : Standing) (before now : Faults) : Type 0 where
  pub ends : status ≢ OUTSIDE → status ≢ MEMORY → GivesOne may status old new
  pub early : (status ≡ OUTSIDE) ⊎ (status ≡ MEMORY) → (new ≡ old) ⊎ GivesPart may old new
  pub outside : status ≡ OUTSIDE → SomeRose before now
  pub complete : ¬ SomeRose before now → GivesOne may status old new ⊎ (status ≡ MEMORY)
  pub later : NoneFell before now
  pub told : SameTold old new
