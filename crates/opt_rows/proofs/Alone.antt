-- The coefficient of a quantity in a list of terms that is made part by part, where one part alone names it.
use Rattle.std.proofs.Common.{◌≡◌, ◌≢◌, ℕ, zero, suc, ◌+◌, ◌-◌, ◌≤◌, ◌<◌, List, [], ◌∷◌, ◌++◌, length, get_or, ℤ, pos, ◌+ℤ◌, refl, ap, sym, ◌∙◌, arith}
use Rattle.std.specs.List.{flat_map, enumerate_from, range_with_len}
use Rattle.std.proofs.lemmas.Int.{ints}
use Rattle.std.proofs.lemmas.List.FromFn.{length-enumerate_from, get_or-enumerate_from, length-range_with_len, get_or-range_with_len}
use Rattle.opt_model.specs.Quantities.{over}
use Rattle.opt_model.specs.Rows.{Terms, coefficient}
use Rattle.opt_model.specs.declared.quantity.Quantity.{Quantity}
use Rattle.opt_model.proofs.Quantities.{same_quantity-self}
use Rattle.opt_rows.proofs.Numbering.{other_quantity}

pub coefficient-append : (xs ys : Terms) (q : Quantity) → coefficient (xs ++ ys) q ≡ coefficient xs q +ℤ coefficient ys q
coefficient-append [] ys q = omega (arith, ints)
coefficient-append (x ∷ xs) ys q = omega (arith, ints, coefficient-append xs ys q)

-- one term, at its own quantity and at another
pub one_on : (q : Quantity) (z : ℤ) → coefficient ((q, z) ∷ []) q ≡ z
one_on q z = rw (same_quantity-self q) (omega (arith, ints))

pub one_off : (p q : Quantity) (z : ℤ) → p ≢ q → coefficient ((p, z) ∷ []) q ≡ pos 0
one_off p q z apart = rw (other_quantity p q apart) refl

-- ---- any parts
module _ {X : Type 0} (f : X → Terms) (q : Quantity) where
  -- no part names the quantity
  pub flat_none : (xs : List X) → ((x : X) → coefficient (f x) q ≡ pos 0) → coefficient (flat_map f xs) q ≡ pos 0
  flat_none [] none = refl
  flat_none (x ∷ xs) none = omega (arith, ints, coefficient-append (f x) (flat_map f xs) q, none x, flat_none xs none)

  flat_none_at : (xs : List X) → ((j : ℕ) (d : X) → j < length xs → coefficient (f (get_or xs j d)) q ≡ pos 0) → coefficient (flat_map f xs) q ≡ pos 0
  flat_none_at [] none = refl
  flat_none_at (x ∷ xs) none =
      omega (arith, ints, coefficient-append (f x) (flat_map f xs) q, none 0 x (omega arith), flat_none_at xs (λ j d within. none (suc j) d (omega arith)))

  -- part i alone names it
  flat_alone : (xs : List X) (i : ℕ) (e : X) → i < length xs → ((j : ℕ) (d : X) → j < length xs → j ≢ i → coefficient (f (get_or xs j d)) q ≡ pos 0)
      → coefficient (flat_map f xs) q ≡ coefficient (f (get_or xs i e)) q
  flat_alone [] i e within others = absurd (omega arith)
  flat_alone (x ∷ xs) zero e within others =
      omega (arith, ints, coefficient-append (f x) (flat_map f xs) q, flat_none_at xs (λ j d below. others (suc j) d (omega arith) (omega arith)))
  flat_alone (x ∷ xs) (suc i) e within others =
      omega (
        arith,
        ints,
        coefficient-append (f x) (flat_map f xs) q,
        others 0 x (omega arith) (omega arith),
        flat_alone xs i e (omega arith) (λ j d below apart. others (suc j) d (omega arith) (omega arith)),
      )

-- ---- a part a record
module _ {A : Type 0} (g : ℕ → A → Terms) (q : Quantity) (xs : List A) where
  abbrev part : ℕ × A → Terms
  part r = g r.0 r.1

  pub records_none : ((j : ℕ) (y : A) → coefficient (g j y) q ≡ pos 0) → coefficient (over xs g) q ≡ pos 0
  records_none none = flat_none part q (enumerate_from 0 xs) (λ r. none r.0 r.1)

  pub record_alone : (i : ℕ) (x : A) → i < length xs → x ≡ get_or xs i x → ((j : ℕ) (y : A) → j ≢ i → coefficient (g j y) q ≡ pos 0)
      → coefficient (over xs g) q ≡ coefficient (g i x) q
  record_alone i x within is others =
      let long : length (enumerate_from 0 xs) ≡ length xs = length-enumerate_from 0 xs in
      let pair : get_or (enumerate_from 0 xs) i (0, x) ≡ (0 + i, get_or xs i x) = get_or-enumerate_from 0 xs i (0, x) within in
      let number : 0 + i ≡ i = omega arith in
      flat_alone part q (enumerate_from 0 xs) i (0, x) (omega (arith, long))
      (λ j d below apart.
      let there : get_or (enumerate_from 0 xs) j d ≡ (0 + j, get_or xs j d.1) = get_or-enumerate_from 0 xs j d (omega (arith, long)) in
      ap (λ (r : ℕ × A). coefficient (part r) q) there ∙ others (0 + j) (get_or xs j d.1) (omega arith))
      ∙ (ap (λ (r : ℕ × A). coefficient (part r) q) pair
      ∙ (ap (λ (n : ℕ). coefficient (g n (get_or xs i x)) q) number ∙ ap (λ (y : A). coefficient (g i y) q) (sym is)))

-- ---- a part a month
pub month_alone : (g : ℕ → Terms) (q : Quantity) (n m : ℕ) → 1 ≤ m → m ≤ n → ((j : ℕ) → j ≢ m → coefficient (g j) q ≡ pos 0)
    → coefficient (flat_map g (range_with_len 1 n)) q ≡ coefficient (g m) q
month_alone g q n m first last others =
    let long : length (range_with_len 1 n) ≡ n = length-range_with_len 1 n in
    let here : get_or (range_with_len 1 n) (m - 1) 0 ≡ m = omega (arith, get_or-range_with_len 1 n (m - 1) 0 (omega arith)) in
    flat_alone g q (range_with_len 1 n) (m - 1) 0 (omega (arith, long))
    (λ j d below apart. let there : get_or (range_with_len 1 n) j d ≡ 1 + j = get_or-range_with_len 1 n j d (omega (arith, long)) in ap (λ (k : ℕ). coefficient (g k) q) there ∙ others (1 + j) (omega arith))
    ∙ ap (λ (k : ℕ). coefficient (g k) q) here

pub months_none : (g : ℕ → Terms) (q : Quantity) (ms : List ℕ) → ((j : ℕ) → coefficient (g j) q ≡ pos 0) → coefficient (flat_map g ms) q ≡ pos 0
months_none g q ms none = flat_none g q ms none
