-- What a turned equation and an elimination say: the same lists of values meet them.
use Rattle.std.proofs.Common.{◌≡◌, ◌≢◌, ℕ, zero, suc, ◌<◌, ◌==◌, if◌then◌else◌, Bool, true, false, List, ℤ, pos, negsuc, neg_ℤ, ◌+ℤ◌, ◌-ℤ◌, ◌*ℤ◌, ◌≤ℤ◌, unsigned_abs, Some, None, refl, ap, sym, ◌∙◌, arith}
use Rattle.std.specs.Prelude.{int_div}
use Rattle.std.specs.Int.{IsGcd, is_positive}
use Rattle.std.proofs.lemmas.Int.{ints}
use Rattle.std.proofs.lemmas.Bool.{lt-ltb}
use Rattle.opt_sums.specs.Entries.{coef, weighted_sum}
use Rattle.opt_sums.proofs.Ring.{mul_add, neg_mul, mul_sub, mul_assoc}
use Rattle.opt_sums.proofs.EntryLemmas.{weighted_sum-one, one_same, one_other}
use Rattle.opt_frac.specs.Divisors.{gcd}
use Rattle.opt_frac.specs.Equations.{Equation, lowest, divisor_of}
use Rattle.opt_frac.specs.Elimination.{without, multiple, merged_sum, whole, negated_if, solution_for, elimination}
use Rattle.opt_frac.proofs.TermSums.{weighted_sum-merged_sum, weighted_sum-multiple, weighted_sum-negated, weighted_sum-without, weighted_sum-whole}
use Rattle.opt_frac.proofs.Divisions.{IsQuotient, lowest-is, gcd-is, divisor_positive, exact, quotient_positive}

-- how far the values are from meeting the equation
abbrev pub gap : Equation → (ℕ → ℤ) → ℤ
gap e f = weighted_sum e.terms f -ℤ (e.lead *ℤ f e.basic)

-- 1 at k and 0 at the others
abbrev pub unit : ℕ → ℕ → ℤ
unit k j = if k == j then pos 1 else pos 0

pub weighted_sum-unit : (es : List (ℕ × ℤ)) (k : ℕ) → weighted_sum es (unit k) ≡ coef es k
weighted_sum-unit es k = omega (arith, ints, weighted_sum-one es k (pos 1))

-- at a variable other than the basic one
pub gap-unit : (e : Equation) (k : ℕ) → k ≢ e.basic → gap e (unit k) ≡ coef e.terms k
gap-unit e k h = omega (arith, ints, weighted_sum-unit e.terms k, ap (λ n. e.lead *ℤ n) (one_other k e.basic (pos 1) h))

-- at the basic variable, where no term stands at it
pub gap-basic : (e : Equation) → coef e.terms e.basic ≡ pos 0 → gap e (unit e.basic) ≡ neg_ℤ e.lead
gap-basic e h = omega (arith, ints, weighted_sum-unit e.terms e.basic, ap (λ n. e.lead *ℤ n) (one_same e.basic e.basic (pos 1) refl))

-- ---- a turn
-- with the sign changed where the coefficient is above 0
abbrev pub sign_turned : ℤ → ℤ → ℤ
sign_turned c z = if is_positive c then neg_ℤ z else z

turned_sum : (c : ℤ) (es : List (ℕ × ℤ)) (f : ℕ → ℤ) (x g : ℤ) → c ≢ pos 0 → weighted_sum es f +ℤ (c *ℤ x) ≡ g → weighted_sum (negated_if (is_positive c) es) f -ℤ (pos (unsigned_abs c) *ℤ x) ≡ sign_turned c g
turned_sum (pos zero) es f x g h k = absurd (h refl)
turned_sum (pos (suc n)) es f x g h k =
    let p : is_positive (pos (suc n)) ≡ true = lt-ltb 0 (suc n) (omega arith) in
    rw p (omega (arith, ints, weighted_sum-negated es f))
turned_sum (negsuc n) es f x g h k = omega (arith, ints, neg_mul (pos (suc n)) x)

-- the second equation is the first, solved for the variable col
pub record IsTurned (col : ℕ) (old new : Equation) : Type 0 where
  pub basic : new.basic ≡ col
  pub lead : new.lead ≡ pos (unsigned_abs (coef old.terms col))
  pub each : (f : ℕ → ℤ) → gap new f ≡ sign_turned (coef old.terms col) (gap old f)

pub coef-whole : (e : Equation) (k : ℕ) → k ≢ e.basic → coef (whole e) k ≡ coef e.terms k
coef-whole e k h = sym (weighted_sum-unit (whole e) k) ∙ weighted_sum-whole e (unit k) ∙ gap-unit e k h

pub solution_for-is : (col : ℕ) (e : Equation) → col ≢ e.basic → coef e.terms col ≢ pos 0 → IsTurned col e (solution_for col e)
unfolding solution_for
solution_for-is col e apart h =
    record {
      basic = refl;
      lead = refl;
      each = λ f. turned_sum (coef e.terms col) (without col (whole e)) f (f col) (gap e f) h
          (omega (arith, ints, weighted_sum-without col (whole e) f, weighted_sum-whole e f, ap (λ n. n *ℤ f col) (coef-whole e col apart)));
    }

-- ---- an elimination
-- the second equation is the first with the basic variable of a third replaced by what that one says
pub record IsReplaced (by old new : Equation) : Type 0 where
  pub same_basic : new.basic ≡ old.basic
  pub lead_positive : pos 1 ≤ℤ new.lead
  pub scale : ℤ
  pub scale_positive : pos 1 ≤ℤ scale
  pub each : (f : ℕ → ℤ) → scale *ℤ gap new f ≡ (by.lead *ℤ gap old f) +ℤ (coef old.terms by.basic *ℤ gap by f)

-- products of numbers above 0
pub product_positive : (a b : ℤ) → pos 1 ≤ℤ a → pos 1 ≤ℤ b → pos 1 ≤ℤ (a *ℤ b)
product_positive (pos zero) b h k = absurd (omega (arith, ints))
product_positive (pos (suc n)) (pos zero) h k = absurd (omega (arith, ints))
product_positive (pos (suc n)) (pos (suc m)) h k = grind (arith, ints)
product_positive (pos (suc n)) (negsuc m) h k = absurd (omega (arith, ints))
product_positive (negsuc n) b h k = absurd (omega (arith, ints))

pub mul_comm : (a b : ℤ) → a *ℤ b ≡ b *ℤ a
mul_comm a b = omega (arith, ints)

-- two factors change places
pub mul_swap : (a b x : ℤ) → a *ℤ (b *ℤ x) ≡ b *ℤ (a *ℤ x)
mul_swap a b x = sym (mul_assoc a b x) ∙ ap (λ n. n *ℤ x) (mul_comm a b) ∙ mul_assoc b a x

-- a product inside another one
pub mul_into : (w g a x : ℤ) → w *ℤ g ≡ a → w *ℤ (g *ℤ x) ≡ a *ℤ x
mul_into w g a x h = sym (mul_assoc w g x) ∙ ap (λ n. n *ℤ x) h

combination : (w g h lead_by c kept added all lead y x : ℤ) → w *ℤ g ≡ lead_by → w *ℤ h ≡ c → kept +ℤ (c *ℤ x) ≡ all
    → w *ℤ (((g *ℤ kept) +ℤ (h *ℤ added)) -ℤ ((lead *ℤ g) *ℤ y)) ≡ (lead_by *ℤ (all -ℤ (lead *ℤ y))) +ℤ (c *ℤ (added -ℤ (lead_by *ℤ x)))
combination w g h lead_by c kept added all lead y x p q r =
    let first : w *ℤ (g *ℤ kept) ≡ lead_by *ℤ kept = mul_into w g lead_by kept p in
    let second : w *ℤ (h *ℤ added) ≡ c *ℤ added = mul_into w h c added q in
    let third : w *ℤ ((lead *ℤ g) *ℤ y) ≡ lead_by *ℤ (lead *ℤ y) = ap (λ n. w *ℤ n) (mul_assoc lead g y ∙ mul_swap lead g y) ∙ mul_into w g lead_by (lead *ℤ y) p in
    let left : w *ℤ (((g *ℤ kept) +ℤ (h *ℤ added)) -ℤ ((lead *ℤ g) *ℤ y)) ≡ ((w *ℤ (g *ℤ kept)) +ℤ (w *ℤ (h *ℤ added))) -ℤ (w *ℤ ((lead *ℤ g) *ℤ y)) =
    mul_sub w ((g *ℤ kept) +ℤ (h *ℤ added)) ((lead *ℤ g) *ℤ y) ∙ ap (λ n. n -ℤ (w *ℤ ((lead *ℤ g) *ℤ y))) (mul_add w (g *ℤ kept) (h *ℤ added)) in
    let fourth : lead_by *ℤ all ≡ (lead_by *ℤ kept) +ℤ (lead_by *ℤ (c *ℤ x)) = ap (λ n. lead_by *ℤ n) (sym r) ∙ mul_add lead_by kept (c *ℤ x) in
    let fifth : lead_by *ℤ (c *ℤ x) ≡ c *ℤ (lead_by *ℤ x) = mul_swap lead_by c x in
    sums
    (w *ℤ (g *ℤ kept))
    (w *ℤ (h *ℤ added))
    (w *ℤ ((lead *ℤ g) *ℤ y))
    (lead_by *ℤ kept)
    (c *ℤ added)
    (lead_by *ℤ (lead *ℤ y))
    (lead_by *ℤ all)
    (lead_by *ℤ (c *ℤ x))
    (c *ℤ (lead_by *ℤ x))
    _
    _
    _
    left
    (mul_sub lead_by all (lead *ℤ y))
    (mul_sub c added (lead_by *ℤ x))
    first
    second
    third
    fourth
    fifth
  where
    sums : (a b d e f i j k l m n o : ℤ) → m ≡ (a +ℤ b) -ℤ d → n ≡ j -ℤ i → o ≡ f -ℤ l → a ≡ e → b ≡ f → d ≡ i → j ≡ e +ℤ k → k ≡ l → m ≡ n +ℤ o
    sums a b d e f i j k l m n o h1 h2 h3 h4 h5 h6 h7 h8 = omega (arith, ints)

-- the equation before it is divided
abbrev sum_equation : Equation → Equation → ℤ → ℤ → Equation
sum_equation by e g h =
    record {
      basic = e.basic;
      lead = e.lead *ℤ g;
      terms = merged_sum (multiple g (without by.basic e.terms)) (multiple h by.terms);
    }

gap-sum_equation : (by e : Equation) (w g h : ℤ) (f : ℕ → ℤ) → w *ℤ g ≡ by.lead → w *ℤ h ≡ coef e.terms by.basic → w *ℤ gap (sum_equation by e g h) f ≡ (by.lead *ℤ gap e f) +ℤ (coef e.terms by.basic *ℤ gap by f)
gap-sum_equation by e w g h f p q =
    let kept : weighted_sum (multiple g (without by.basic e.terms)) f ≡ g *ℤ weighted_sum (without by.basic e.terms) f = weighted_sum-multiple g (without by.basic e.terms) f in
    let added : weighted_sum (multiple h by.terms) f ≡ h *ℤ weighted_sum by.terms f = weighted_sum-multiple h by.terms f in
    let both : weighted_sum (merged_sum (multiple g (without by.basic e.terms)) (multiple h by.terms)) f ≡ (g *ℤ weighted_sum (without by.basic e.terms) f) +ℤ (h *ℤ weighted_sum by.terms f) =
    weighted_sum-merged_sum (multiple g (without by.basic e.terms)) (multiple h by.terms) f ∙ ap (λ n. n +ℤ weighted_sum (multiple h by.terms) f) kept ∙ ap (λ n. (g *ℤ weighted_sum (without by.basic e.terms) f) +ℤ n) added in
    ap (λ n. w *ℤ (n -ℤ ((e.lead *ℤ g) *ℤ f e.basic))) both
    ∙ combination w g h by.lead (coef e.terms by.basic) (weighted_sum (without by.basic e.terms) f) (weighted_sum by.terms f) (weighted_sum e.terms f) e.lead (f e.basic) (f by.basic) p q (weighted_sum-without by.basic e.terms f)

-- what is there where the test passes
some_of : (t : Bool) (x y : Equation) → (if t then Some x else None) ≡ Some y → x ≡ y
some_of true x y h = cc
some_of false x y h = cc

gap-lowest : (d : ℕ) (old new : Equation) (f : ℕ → ℤ) → IsQuotient d old new → pos d *ℤ gap new f ≡ gap old f
gap-lowest d old new f h =
    mul_sub (pos d) (weighted_sum new.terms f) (new.lead *ℤ f new.basic)
    ∙ ap (λ n. n -ℤ (pos d *ℤ (new.lead *ℤ f new.basic))) (h.each f)
    ∙ ap (λ n. weighted_sum old.terms f -ℤ n) (mul_into (pos d) new.lead old.lead (f new.basic) h.lead ∙ ap (λ k. old.lead *ℤ f k) h.same_basic)

same_quotient : (d : ℕ) (old a b : Equation) → b ≡ a → IsQuotient d old a → IsQuotient d old b
same_quotient d old a b h k = rw h k

-- the factors of an elimination
abbrev common : Equation → Equation → ℕ
common by e = gcd (unsigned_abs by.lead) (unsigned_abs (coef e.terms by.basic))

abbrev own_factor : Equation → Equation → ℤ
own_factor by e = int_div by.lead (pos (common by e))

abbrev other_factor : Equation → Equation → ℤ
other_factor by e = int_div (coef e.terms by.basic) (pos (common by e))

-- what the factors are, and the equation that is then divided
pub record IsEliminated (by old new : Equation) : Type 0 where
  pub w : ℕ
  pub g : ℤ
  pub h : ℤ
  pub w_positive : 0 < w
  pub g_positive : pos 1 ≤ℤ g
  pub own : pos w *ℤ g ≡ by.lead
  pub other : pos w *ℤ h ≡ coef old.terms by.basic
  pub result : new ≡ lowest (record { basic = old.basic; lead = old.lead *ℤ g; terms = merged_sum (multiple g (without by.basic old.terms)) (multiple h by.terms) })

pub elimination-is : (by old new : Equation) → pos 1 ≤ℤ by.lead → elimination by old ≡ Some new → IsEliminated by old new
unfolding elimination
elimination-is by old new lead h =
    let divides : IsGcd (unsigned_abs by.lead) (unsigned_abs (coef old.terms by.basic)) (common by old) = gcd-is (unsigned_abs by.lead) (unsigned_abs (coef old.terms by.basic)) in
    let own_is : pos (common by old) *ℤ own_factor by old ≡ by.lead = exact by.lead (common by old) divides.0 in
    record {
      w = common by old;
      g = own_factor by old;
      h = other_factor by old;
      w_positive = divisor_positive (common by old) (unsigned_abs by.lead) divides.0 (omega (arith, ints));
      g_positive = quotient_positive (common by old) (own_factor by old) by.lead own_is lead;
      own = own_is;
      other = exact (coef old.terms by.basic) (common by old) divides.1;
      result = sym (some_of _ (lowest (sum_equation by old (own_factor by old) (other_factor by old))) new h);
    }

pub replacement-is : (by old new : Equation) → pos 1 ≤ℤ by.lead → pos 1 ≤ℤ old.lead → elimination by old ≡ Some new → IsReplaced by old new
replacement-is by old new lead old_lead h =
    let how : IsEliminated by old new = elimination-is by old new lead h in
    let whole_lead : pos 1 ≤ℤ (old.lead *ℤ how.g) = product_positive old.lead how.g old_lead how.g_positive in
    let quotient : IsQuotient (divisor_of (sum_equation by old how.g how.h)) (sum_equation by old how.g how.h) (lowest (sum_equation by old how.g how.h)) = lowest-is (sum_equation by old how.g how.h) whole_lead in
    let is_quotient : IsQuotient (divisor_of (sum_equation by old how.g how.h)) (sum_equation by old how.g how.h) new = same_quotient (divisor_of (sum_equation by old how.g how.h)) (sum_equation by old how.g how.h) (lowest (sum_equation by old how.g how.h)) new how.result quotient in
    record {
      same_basic = is_quotient.same_basic;
      lead_positive = is_quotient.lead_positive;
      scale = pos how.w *ℤ pos (divisor_of (sum_equation by old how.g how.h));
      scale_positive = product_positive (pos how.w) (pos (divisor_of (sum_equation by old how.g how.h))) (omega (arith, ints, how.w_positive)) (omega (arith, ints, is_quotient.divisor));
      each = λ f. mul_assoc (pos how.w) (pos (divisor_of (sum_equation by old how.g how.h))) (gap new f) ∙ ap (λ n. pos how.w *ℤ n) (gap-lowest (divisor_of (sum_equation by old how.g how.h)) (sum_equation by old how.g how.h) new f is_quotient) ∙ gap-sum_equation by old (pos how.w) how.g how.h f how.own how.other;
    }
