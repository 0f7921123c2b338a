-- Answers that are a value or a fault, taken apart.
use Rattle.std.proofs.Common.{◌≡◌, Bool, true, false, cond, not, ◌&&◌, Ok, Err, Result, refl}
use Rattle.opt_base.specs.Answers.{◌>>=◌}

-- two steps that end with a value
pub then_ok : {A B E : Type 0} (r : Result A E) (f : A → Result B E) (b : B) → (r >>= f) ≡ Ok b → (a : A) × (r ≡ Ok a) × (f a ≡ Ok b)
then_ok (Ok a) f b h = (a, refl, h)
then_ok (Err e) f b h = cc

pub ok_if : {A E : Type 0} (t : Bool) (x y : A) (e : E) → cond t (Ok x) (Err e) ≡ Ok y → (t ≡ true) × (x ≡ y)
ok_if true x y e h = (refl, cc)
ok_if false x y e h = cc

pub ok_unless : {A E : Type 0} (t : Bool) (x y : A) (e : E) → cond t (Err e) (Ok x) ≡ Ok y → (t ≡ false) × (x ≡ y)
ok_unless true x y e h = cc
ok_unless false x y e h = (refl, cc)

-- the same where the other branch is an answer of its own
pub then_unless : {A E : Type 0} (t : Bool) (r : Result A E) (y : A) (e : E) → cond t (Err e) r ≡ Ok y → (t ≡ false) × (r ≡ Ok y)
then_unless true r y e h = cc
then_unless false r y e h = (refl, h)

pub then_if : {A E : Type 0} (t : Bool) (r : Result A E) (y : A) (e : E) → cond t r (Err e) ≡ Ok y → (t ≡ true) × (r ≡ Ok y)
then_if true r y e h = (refl, h)
then_if false r y e h = cc

pub both_true : (a b : Bool) → (a && b) ≡ true → (a ≡ true) × (b ≡ true)
both_true true b h = (refl, h)
both_true false b h = cc

pub closed_if : (a b : Bool) → (a && not b) ≡ false → a ≡ true → b ≡ true
closed_if true true h k = refl
closed_if true false h k = cc
closed_if false b h k = cc
