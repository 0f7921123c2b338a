-- The largest size, the least shift, and the entries that are kept.
use Rattle.std.proofs.Common.{◌≡◌, ◌≢◌, ◌⊎◌, inl, inr, ℕ, suc, ◌+◌, ◌-◌, ◌*◌, ◌/◌, ◌^◌, ◌≤◌, ◌<◌, ◌==◌, max, List, [], ◌∷◌, ◌++◌, length, take, map, filter, get_or, ℤ, pos, negsuc, neg_ℤ, ◌<ℤ◌, ◌≤ℤ◌, unsigned_abs, Bool, true, false, cond, not, All, refl, ap, sym, ◌∙◌, arith}
use Rattle.std.proofs.lemmas.Int.{ints}
use Rattle.std.proofs.lemmas.Bool.Decides.{nat_tests}
use borrow.Author.Differences.{abs_is, neg_is}
use Rattle.std.proofs.Math.ListN.{length-take}
use Rattle.std.proofs.Math.Nat.{mul-le-mul_left}
use Rattle.std.proofs.Math.Pow.{pow_pos}
use Rattle.std.proofs.lemmas.List.{get_or-take, map-append, append-nil, take_more}
use Rattle.std.proofs.lemmas.List.Elements.{All-more, All-weaker, All-filter, All-map, filter-append, filter_passes}
use Rattle.opt_sums.specs.Entries.{IsRising}
use Rattle.opt_sums.proofs.RisingLemmas.{IsRising-head, IsRising-tail, IsRising-nil, IsRising-cons}
use Rattle.opt_bound.specs.Multipliers.{Multipliers, IsProper}
use Rattle.opt_bound.specs.Clip.{cut, cut_entries, FitsBy, IsShift, IsLargest, IsClip}

-- ---- the largest size
All-shorter : {X : Type 0} (P : X → Type 0) (xs : List X) (i : ℕ) → i < length xs → All P (take (i + 1) xs) → All P (take i xs)
All-shorter P xs i h all k d below =
    let short : k < i = omega (arith, length-take i xs) in
    let in_longer : k < length (take (i + 1) xs) = omega (arith, length-take (i + 1) xs) in
    rw (get_or-take i xs k d short, ← get_or-take (i + 1) xs k d (omega arith)) (all k d in_longer)

All-last : {X : Type 0} (P : X → Type 0) (xs : List X) (i : ℕ) (d : X) → i < length xs → All P (take (i + 1) xs) → P (get_or xs i d)
All-last P xs i d h all =
    let in_longer : i < length (take (i + 1) xs) = omega (arith, length-take (i + 1) xs) in
    rw (← get_or-take (i + 1) xs i d (omega arith)) (all i d in_longer)

pub IsLargest-more : (q : ℤ) (es : List (ℕ × ℤ)) (i : ℕ) (d : ℕ × ℤ) (size x : ℕ) → i < length es → x ≡ unsigned_abs (get_or es i d).1 → IsLargest q (take i es) size → IsLargest q (take (i + 1) es) (max size x)
IsLargest-more q es i d size x h is largest = record {
  objective = omega (arith, largest.objective);
  each = All-more (λ e. unsigned_abs e.1 ≤ max size x) es i d h (All-weaker (λ e. unsigned_abs e.1 ≤ size) (λ e. unsigned_abs e.1 ≤ max size x) (λ e small. omega arith) (take i es) largest.each) (omega arith);
  reached = λ most objective each. omega (arith, largest.reached most objective (All-shorter (λ e. unsigned_abs e.1 ≤ most) es i h each), All-last (λ e. unsigned_abs e.1 ≤ most) es i d h each);
}

-- ---- the least shift
-- the size of what a quotient bounds
pub below_by : (n d m : ℕ) → 0 < d → n / d ≤ m → n ≤ m * d + (d - 1)
below_by n d m h k = omega (arith, mul-le-mul_left d k)

pub quotient_by : (n d m : ℕ) → 0 < d → n ≤ m * d + (d - 1) → n / d ≤ m
quotient_by n d m h k =
    elim (at_most_or_more (n / d) m) [
      | inl le ↦ le
      | inr more ↦
          let over : m + 1 ≤ n / d = omega (arith, more) in
          absurd (omega (arith, mul-le-mul_left d over))
    ]
  where
    at_most_or_more : (n a : ℕ) → (n ≤ a) ⊎ (a < n)
    at_most_or_more n a = grind arith

pub IsShift-largest : (q : ℤ) (es : List (ℕ × ℤ)) (size s : ℕ) → IsLargest q es size → size / 2 ^ s ≤ 2 ^ 56 → ((t : ℕ) → size / 2 ^ t ≤ 2 ^ 56 → s ≤ t) → IsShift q es s
IsShift-largest q es size s largest fits least = record {
  fits = record {
    objective = within (unsigned_abs q) largest.objective;
    each = All-weaker (λ e. unsigned_abs e.1 ≤ size) (λ e. unsigned_abs e.1 / 2 ^ s ≤ 2 ^ 56) (λ e small. within (unsigned_abs e.1) small) es largest.each;
  };
  least = λ t fits_t.
      least t
      (quotient_by size (2 ^ t) (2 ^ 56) (pow_pos t)
      (largest.reached (2 ^ 56 * 2 ^ t + (2 ^ t - 1))
      (below_by (unsigned_abs q) (2 ^ t) (2 ^ 56) (pow_pos t) fits_t.objective)
      (All-weaker (λ e. unsigned_abs e.1 / 2 ^ t ≤ 2 ^ 56) (λ e. unsigned_abs e.1 ≤ 2 ^ 56 * 2 ^ t + (2 ^ t - 1)) (λ e small. below_by (unsigned_abs e.1) (2 ^ t) (2 ^ 56) (pow_pos t) small) es fits_t.each)));
}
  where
    within : (n : ℕ) → n ≤ size → n / 2 ^ s ≤ 2 ^ 56
    within n h = quotient_by n (2 ^ s) (2 ^ 56) (pow_pos s) (omega (arith, below_by size (2 ^ s) (2 ^ 56) (pow_pos s) fits))

-- ---- the entries that are kept
-- an entry divided by 2^s
abbrev pub shrunk : ℕ → ℕ × ℤ → ℕ × ℤ
shrunk s e = (e.0, cut e.1 s)

-- the entry is not 0
abbrev pub is_left : ℕ × ℤ → Bool
is_left e = not (unsigned_abs e.1 == 0)

size_cut : (z : ℤ) (s : ℕ) → unsigned_abs (cut z s) ≡ unsigned_abs z / 2 ^ s
size_cut (pos n) s = refl
size_cut (negsuc n) s = omega (arith, neg_is (pos (suc n / 2 ^ s)), abs_is (neg_ℤ (pos (suc n / 2 ^ s))))

-- a number from 0 on stays so
pub cut_from_zero : (z : ℤ) (s : ℕ) → pos 0 ≤ℤ z → pos 0 ≤ℤ cut z s
cut_from_zero (pos n) s h = omega (arith, ints)
cut_from_zero (negsuc n) s h = absurd (omega (arith, ints))

-- one entry more, by the test whether it is left
kept-take : (s : ℕ) (es : List (ℕ × ℤ)) (i : ℕ) (d : ℕ × ℤ) (b : Bool) → i < length es → is_left (shrunk s (get_or es i d)) ≡ b → cut_entries s (take (i + 1) es) ≡ cut_entries s (take i es) ++ cond b (shrunk s (get_or es i d) ∷ []) []
kept-take s es i d b h is =
    ap (cut_entries s) (take_more es i d h)
    ∙ ap (filter is_left) (map-append (shrunk s) (take i es) (get_or es i d ∷ []))
    ∙ filter-append is_left (map (shrunk s) (take i es)) (shrunk s (get_or es i d) ∷ [])
    ∙ ap (λ t. cut_entries s (take i es) ++ cond t (shrunk s (get_or es i d) ∷ []) []) is

left_of : (e : ℕ × ℤ) → e.1 ≢ pos 0 → is_left e ≡ true
left_of e h =
    let some : unsigned_abs e.1 ≢ 0 = omega (arith, ints, h) in
    grind (arith, nat_tests)

gone_of : (e : ℕ × ℤ) → e.1 ≡ pos 0 → is_left e ≡ false
gone_of e h = ap (λ z. not (unsigned_abs z == 0)) h

pub kept_left : (s : ℕ) (es : List (ℕ × ℤ)) (i : ℕ) (d : ℕ × ℤ) (y : ℤ) → i < length es → y ≡ cut (get_or es i d).1 s → y ≢ pos 0 → cut_entries s (take (i + 1) es) ≡ cut_entries s (take i es) ++ ((get_or es i d).0, y) ∷ []
kept_left s es i d y h is apart =
    kept-take s es i d true h (left_of (shrunk s (get_or es i d)) (λ q. apart (is ∙ q)))
    ∙ ap (λ z. cut_entries s (take i es) ++ ((get_or es i d).0, z) ∷ []) (sym is)

pub kept_gone : (s : ℕ) (es : List (ℕ × ℤ)) (i : ℕ) (d : ℕ × ℤ) → i < length es → cut (get_or es i d).1 s ≡ pos 0 → cut_entries s (take (i + 1) es) ≡ cut_entries s (take i es)
kept_gone s es i d h is =
    kept-take s es i d false h (gone_of (shrunk s (get_or es i d)) is) ∙ append-nil (cut_entries s (take i es))

-- ---- they are proper multipliers
IsRising-shrunk : (s : ℕ) (es : List (ℕ × ℤ)) → IsRising es → IsRising (map (shrunk s) es)
IsRising-shrunk s [] rising = IsRising-nil
IsRising-shrunk s (e ∷ es) rising =
    IsRising-cons (shrunk s e) (map (shrunk s) es) (All-map (λ d. e.0 < d.0) (shrunk s) es (IsRising-head e es rising)) (IsRising-shrunk s es (IsRising-tail e es rising))

rising_by : (b : Bool) (e : ℕ × ℤ) (es : List (ℕ × ℤ)) → All (λ d. e.0 < d.0) es → IsRising es → IsRising (cond b (e ∷ es) es)
rising_by true e es above rising = IsRising-cons e es above rising
rising_by false e es above rising = rising

IsRising-filter : (p : ℕ × ℤ → Bool) (es : List (ℕ × ℤ)) → IsRising es → IsRising (filter p es)
IsRising-filter p [] rising = IsRising-nil
IsRising-filter p (e ∷ es) rising =
    rising_by (p e) e (filter p es) (All-filter p (λ d. e.0 < d.0) es (IsRising-head e es rising)) (IsRising-filter p es (IsRising-tail e es rising))

pub no_zero_of : (e : ℕ × ℤ) → is_left e ≡ true → e.1 ≢ pos 0
no_zero_of e h q = let clash : true ≡ false = sym h ∙ gone_of e q in cc

pub IsProper-cut : (q : ℤ) (es : List (ℕ × ℤ)) (s : ℕ) → pos 0 ≤ℤ q → IsRising es → FitsBy q es s → IsProper (record { q = cut q s; entries = cut_entries s es })
IsProper-cut q es s from_zero rising fits = record {
  q_from_zero = cut_from_zero q s from_zero;
  q_small = omega (arith, size_cut q s, fits.objective);
  rising = IsRising-filter is_left (map (shrunk s) es) (IsRising-shrunk s es rising);
  no_zero = All-weaker (λ e. is_left e ≡ true) (λ e. e.1 ≢ pos 0) no_zero_of (cut_entries s es) (filter_passes is_left (map (shrunk s) es));
  small =
      All-filter is_left (λ e. unsigned_abs e.1 ≤ 2 ^ 56) (map (shrunk s) es)
      (All-map (λ e. unsigned_abs e.1 ≤ 2 ^ 56) (shrunk s) es
      (All-weaker (λ e. unsigned_abs e.1 / 2 ^ s ≤ 2 ^ 56) (λ e. unsigned_abs (shrunk s e).1 ≤ 2 ^ 56) (λ e small. omega (arith, size_cut e.1 s)) es fits.each));
}

-- ---- the clip
pub clip_lost : (q : ℤ) (es : List (ℕ × ℤ)) (s : ℕ) (m : Multipliers) → IsShift q es s → pos 0 <ℤ q → cut q s ≡ pos 0 → m ≡ record { q = pos 1; entries = [] } → IsClip q es m
clip_lost q es s m shift above gone is = (s, shift, record { lost = λ _ _. is; kept = λ not_lost. absurd (not_lost (above, gone)) })

pub clip_kept : (q : ℤ) (es : List (ℕ × ℤ)) (s : ℕ) (m : Multipliers) → IsShift q es s → ¬ ((pos 0 <ℤ q) × (cut q s ≡ pos 0)) → m ≡ record { q = cut q s; entries = cut_entries s es } → IsClip q es m
clip_kept q es s m shift not_lost is = (s, shift, record { lost = λ above gone. absurd (not_lost (above, gone)); kept = λ _. is })
