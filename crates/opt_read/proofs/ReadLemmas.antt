-- Readings one after the other.
use Rattle.std.proofs.Common.{◌≡◌, Result, Ok, Err, refl}
use Rattle.opt_base.specs.Answers.{Gives, ◌>>=◌}
use Rattle.opt_base.specs.declared.refusal.ModelFault.{ModelFault}
use Rattle.opt_base.specs.declared.refusal.Refusal.{Refusal}

-- the value on which a reading went on
pub went_on : {A B : Type 0} (read : Result A Refusal) (f : A → Result B Refusal) (y : B) → (read >>= f) ≡ Ok y → (x : A) × (read ≡ Ok x) × (f x ≡ Ok y)
went_on (Ok x) f y e = (x, refl, e)
went_on (Err r) f y e = cc

-- an answer for the same reading
pub same-reading : {X Y : Type 0} (view : X → Y) (result : Result X ModelFault) (read seen : Result Y Refusal) → read ≡ seen → Gives view result seen → Gives view result read
same-reading view result read seen same gives = rw same gives
