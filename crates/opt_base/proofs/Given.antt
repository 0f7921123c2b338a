-- What a call gives that reads one thing after another.
use Rattle.std.proofs.Common.{◌≡◌, Result, Ok, refl}
use Rattle.opt_base.specs.declared.refusal.Refusal.{Refusal}
use Rattle.opt_base.specs.declared.refusal.ModelFault.{ModelFault}
use Rattle.opt_base.specs.declared.refusal.ModelFault.TheVariants.{Refused, OutOfMemory}
use Rattle.opt_base.specs.Answers.{◌>>=◌, Fails, Gives}

module _ {A Y : Type 0} (first : Result A Refusal) (next : A → Result Y Refusal) where
  -- the first thing is read, and the rest is given
  pub Gives-next : {X : Type 0} (view : X → Y) (result : Result X ModelFault) (value : A) → first ≡ Ok value → Gives view result (next value) → Gives view result (first >>= next)
  Gives-next view result value read gives = rw read gives

  -- a fault of the first thing is one of the whole
  pub Fails-next : (fault : ModelFault) → Fails fault first → Fails fault (first >>= next)
  Fails-next OutOfMemory failed = tt
  Fails-next (Refused refusal) failed = rw failed refl

  -- a fault of the rest is one of the whole
  pub Fails-after : (fault : ModelFault) (value : A) → first ≡ Ok value → Fails fault (next value) → Fails fault (first >>= next)
  Fails-after fault value read failed = rw read failed
