-- Parts of a line that are judged together.
use Rattle.std.proofs.Common.{◌≡◌, ℕ, Bool, true, false, ◌&&◌, cond, List, [], ◌∷◌, Option, Some, None, ◌⊎◌, Result, Ok, Err, refl, sym, ap, ◌∙◌, inl, inr, subst, arith}
use Rattle.std.specs.Option.{option_map}
use Rattle.opt_cert.specs.declared.line_fault.LineFault.{LineFault}
use Rattle.opt_cert.specs.declared.line_fault.LineFault.TheVariants.{BadLine, Range, Order, OutOfMemory}
use Rattle.opt_cert.specs.Forms.{both}
use Rattle.opt_cert.specs.Judging.{ranged, pair, worse, LineTells, LineFails}

module _ {A : Type 0} (f : A → Bool) where
  some_ok : (a x : A) (b : Bool) → f a ≡ b → cond b (Ok a) (Err Range) ≡ Ok x → (Some a ≡ Some x) × (f x ≡ true)
  some_ok a x true e h = let same : a ≡ x = cc in (ap Some same, ap f (sym same) ∙ e)
  some_ok a x false e h = cc

  some_range : (a : A) (b : Bool) → f a ≡ b → cond b (Ok a) (Err Range) ≡ Err Range → f a ≡ false
  some_range a true e h = cc
  some_range a false e h = e

  some_bad : (a : A) (b : Bool) → cond b (Ok a) (Err Range) ≡ Err BadLine → ⊥
  some_bad a true h = cc
  some_bad a false h = cc

  pub ranged_ok : (o : Option A) (x : A) → ranged f o ≡ Ok x → (o ≡ Some x) × (f x ≡ true)
  ranged_ok None x h = cc
  ranged_ok (Some a) x h = some_ok a x (f a) refl h

  pub ranged_range : (o : Option A) → ranged f o ≡ Err Range → (a : A) × (o ≡ Some a) × (f a ≡ false)
  ranged_range None h = cc
  ranged_range (Some a) h = (a, refl, some_range a (f a) refl h)

  pub ranged_bad : (o : Option A) → ranged f o ≡ Err BadLine → o ≡ None
  ranged_bad None h = refl
  ranged_bad (Some a) h = absurd (some_bad a (f a) h)

  -- no other fault comes of ranges
  pub ranged_other : (o : Option A) (fault : LineFault) → ranged f o ≡ Err fault → (fault ≡ BadLine) ⊎ (fault ≡ Range)
  ranged_other None fault h = inl cc
  ranged_other (Some a) fault h = other (f a) h
    where
      other : (b : Bool) → cond b (Ok a) (Err Range) ≡ Err fault → (fault ≡ BadLine) ⊎ (fault ≡ Range)
      other true g = cc
      other false g = inr cc

module _ {A B : Type 0} (f : A → Bool) (g : B → Bool) where
  pair_some : (a : A) (b : B) (x y : Bool) → pair (cond x (Ok a) (Err Range)) (cond y (Ok b) (Err Range)) ≡ cond (x && y) (Ok (a, b)) (Err Range)
  pair_some a b true true = refl
  pair_some a b true false = refl
  pair_some a b false true = refl
  pair_some a b false false = refl

  bad_second : (a : A) (x : Bool) → pair {B = B} (cond x (Ok a) (Err Range)) (Err BadLine) ≡ Err BadLine
  bad_second a true = refl
  bad_second a false = refl

  bad_first : (b : B) (y : Bool) → pair {A = A} (Err BadLine) (cond y (Ok b) (Err Range)) ≡ Err BadLine
  bad_first b true = refl
  bad_first b false = refl

  -- two parts are spelled and in range just where both are
  pub pair_ranged : (o : Option A) (p : Option B) → pair (ranged f o) (ranged g p) ≡ ranged (λ e. f e.0 && g e.1) (both (λ a b. (a, b)) o p)
  pair_ranged None None = refl
  pair_ranged None (Some b) = bad_first b (g b)
  pair_ranged (Some a) None = bad_second a (f a)
  pair_ranged (Some a) (Some b) = pair_some a b (f a) (g b)

-- ---- what a call gives
pub tells_along : {X Y : Type 0} (view : X → Y) (r : Result X LineFault) (read other : Result Y LineFault) → read ≡ other → LineTells view r read → LineTells view r other
tells_along view r read other e h = let P : Result _ LineFault → Type 0 = λ x. LineTells view r x in subst P e h

-- a fault that stands is told
pub fault_told : {Y : Type 0} (fault : LineFault) (read : Result Y LineFault) → read ≡ Err fault → LineFails fault read
fault_told BadLine read h = h
fault_told Range read h = h
fault_told Order read h = h
fault_told OutOfMemory read h = tt

pub mapped_some : {A B : Type 0} (f : A → B) (o : Option A) (y : B) → option_map f o ≡ Some y → (x : A) × (o ≡ Some x) × (y ≡ f x)
mapped_some f None y h = cc
mapped_some f (Some x) y h = (x, refl, cc)

pub mapped_none : {A B : Type 0} (f : A → B) (o : Option A) → option_map f o ≡ None → o ≡ None
mapped_none f None h = refl
mapped_none f (Some x) h = cc

-- ---- what is made of two parts
module _ {A B C : Type 0} (f : A → Bool) (g : B → Bool) (make : A → B → C) (h : C → Bool) (same : (a : A) (b : B) → h (make a b) ≡ (f a && g b)) where
  abbrev pub made : Result (A × B) LineFault → Result C LineFault
  made (Ok p) = Ok (make p.0 p.1)
  made (Err fault) = Err fault

  made_cond : (a : A) (b : B) (x : Bool) → cond x (Ok (make a b)) (Err Range) ≡ made (cond x (Ok (a, b)) (Err Range))
  made_cond a b true = refl
  made_cond a b false = refl

  pub ranged_both : (o : Option A) (p : Option B) → ranged h (both make o p) ≡ made (pair (ranged f o) (ranged g p))
  ranged_both None None = refl
  ranged_both None (Some b) = ap made (sym (bad_first f g b (g b)))
  ranged_both (Some a) None = ap made (sym (bad_second f g a (f a)))
  ranged_both (Some a) (Some b) =
      ap (λ x. cond x (Ok (make a b)) (Err Range)) (same a b)
      ∙ made_cond a b (f a && g b)
      ∙ ap made (sym (pair_some f g a b (f a) (g b)))

  -- where the parts have a fault, it is that of the whole
  pub both_fails : (o : Option A) (p : Option B) (r : Result A LineFault) (s : Result B LineFault) (fault : LineFault) → r ≡ ranged f o → s ≡ ranged g p → pair r s ≡ Err fault → ranged h (both make o p) ≡ Err fault
  both_fails o p r s fault d e told =
      ranged_both o p ∙ ap (λ x. made (pair x (ranged g p))) (sym d) ∙ ap (λ x. made (pair r x)) (sym e) ∙ ap made told

  pub both_made : (o : Option A) (p : Option B) (a : A) (b : B) → ranged f o ≡ Ok a → ranged g p ≡ Ok b → ranged h (both make o p) ≡ Ok (make a b)
  both_made o p a b d e =
      ranged_both o p ∙ ap (λ x. made (pair x (ranged g p))) d ∙ ap (λ x. made (pair (Ok a) x)) e

-- both parts are right where the pair is
pub pair_ok : {A B : Type 0} (r : Result A LineFault) (s : Result B LineFault) (a : A) (b : B) → pair r s ≡ Ok (a, b) → (r ≡ Ok a) × (s ≡ Ok b)
pair_ok {A = A} {B = B} (Ok x) (Ok y) a b h =
    let same : ◌≡◌ {A = A × B} (x, y) (a, b) = cc in
    (ap (λ p. Ok p.0) same, ap (λ p. Ok p.1) same)
pair_ok (Ok x) (Err e) a b h = cc
pair_ok (Err e) (Ok y) a b h = cc
pair_ok (Err e) (Err d) a b h = cc

pub tells_ok : {X Y : Type 0} (view : X → Y) (r : Result X LineFault) (read : Result Y LineFault) (x : X) → LineTells view r read → r ≡ Ok x → read ≡ Ok (view x)
tells_ok view (Ok y) read x h e = let same : y ≡ x = cc in h ∙ ap (λ z. Ok (view z)) same
tells_ok view (Err fault) read x h e = cc
