-- A look for the name of a number, list by list.
use Rattle.std.proofs.Common.{◌≡◌, ℕ, zero, suc, ◌+◌, ◌-◌, ◌*◌, ◌≤◌, ◌<◌, Bool, true, false, List, [], ◌∷◌, ◌++◌, length, get_or, take, drop, Some, None, Option, Result, Ok, Err, refl, ap, sym, ◌∙◌, subst, arith, length-append}
use Rattle.std.specs.Prelude.{slice_get, nat_le, is_none, ℤ}
use Rattle.std.specs.List.{flat_map, enumerate_from, range_with_len}
use Rattle.std.proofs.lemmas.Bool.{le-leb, lt-leb}
use Rattle.std.proofs.Math.Seq.{take-length}
use Rattle.std.proofs.lemmas.List.{get_or_default, take_more, take-append-drop}
use Rattle.std.proofs.lemmas.List.Concat.{flat_map-append}
use Rattle.std.proofs.lemmas.List.FromFn.{length-enumerate_from, get_or-enumerate_from, length-range_with_len, get_or-range_with_len}
use Rattle.opt_model.specs.Quantities.{over, list_if}
use Rattle.opt_model.specs.declared.quantity.RowName.{RowName}
use Rattle.opt_model.specs.declared.quantity.RowName.TheVariants as row
use Rattle.opt_rows.specs.Names.{Finds, throughput_names_in}

-- ---- two lists
get_left : (xs ys : List RowName) (i : ℕ) (name : RowName) → slice_get xs i ≡ Some name → slice_get (xs ++ ys) i ≡ Some name
get_left [] ys i name e = cc
get_left (x ∷ xs) ys zero name e = e
get_left (x ∷ xs) ys (suc i) name e = get_left xs ys i name e

get_right : (xs ys : List RowName) (i rest : ℕ) → i ≡ length xs + rest → slice_get (xs ++ ys) i ≡ slice_get ys rest
get_right [] ys i rest e = let f : i ≡ rest = omega arith in ap (slice_get ys) f
get_right (x ∷ xs) ys zero rest e = absurd (omega arith)
get_right (x ∷ xs) ys (suc i) rest e = get_right xs ys i rest (omega arith)

-- found in the first list
pub finds_left : (xs ys : List RowName) (i : ℕ) (name : RowName) → Finds xs i (Err name) → Finds (xs ++ ys) i (Err name)
finds_left xs ys i name h = get_left xs ys i name h

-- past the first list, it is as in the second
pub finds_right : (xs ys : List RowName) (i rest : ℕ) (answer : Result ℕ RowName) → Finds xs i (Ok rest) → Finds ys rest answer → Finds (xs ++ ys) i answer
finds_right xs ys i rest (Ok more) h k = omega (arith, length-append xs ys, h, k)
finds_right xs ys i rest (Err name) h k = get_right xs ys i rest h ∙ k

-- ---- a list made of parts
module _ {X : Type 0} (f : X → List RowName) (xs : List X) where
  -- so many numbers are left past the parts before k
  pub record Past (k i rest : ℕ) : Type 0 where
    pub left : i ≡ length (flat_map f (take k xs)) + rest

  pub past_none : (i : ℕ) → Past 0 i i
  past_none i = record { left = omega arith }

  part_more : (k : ℕ) (d : X) → k < length xs → flat_map f (take (k + 1) xs) ≡ flat_map f (take k xs) ++ f (get_or xs k d)
  part_more k d within =
      ap (flat_map f) (take_more xs k d within)
      ∙ (flat_map-append f (take k xs) (get_or xs k d ∷ []) ∙ ap (λ ys. flat_map f (take k xs) ++ ys) (append_none (f (get_or xs k d))))
    where
      append_none : (ys : List RowName) → ys ++ [] ≡ ys
      append_none [] = refl
      append_none (y ∷ ys) = ap (λ zs. y ∷ zs) (append_none ys)

  pub past_more : (k i rest more : ℕ) (d : X) → k < length xs → Past k i rest → Finds (f (get_or xs k d)) rest (Ok more) → Past (k + 1) i more
  past_more k i rest more d within past h =
      record { left = omega (arith, past.left, h, ap length (part_more k d within), length-append (flat_map f (take k xs)) (f (get_or xs k d))) }

  pub past_all : (i rest : ℕ) → Past (length xs) i rest → Finds (flat_map f xs) i (Ok rest)
  past_all i rest past = past.left ∙ ap (λ ys. length (flat_map f ys) + rest) (take-length xs)

  pub past_found : (k i rest : ℕ) (name : RowName) (d : X) → k < length xs → Past k i rest → Finds (f (get_or xs k d)) rest (Err name) → Finds (flat_map f xs) i (Err name)
  past_found k i rest name d within past h =
      let here : Finds (flat_map f (take (k + 1) xs)) i (Err name) =
      subst (λ (ys : List RowName). slice_get ys i ≡ Some name) (sym (part_more k d within))
      (finds_right (flat_map f (take k xs)) (f (get_or xs k d)) i rest (Err name) past.left h) in
      subst (λ (ys : List RowName). slice_get ys i ≡ Some name) (sym (split (k + 1)))
      (finds_left (flat_map f (take (k + 1) xs)) (flat_map f (drop (k + 1) xs)) i name here)
    where
      split : (n : ℕ) → flat_map f xs ≡ flat_map f (take n xs) ++ flat_map f (drop n xs)
      split n = ap (flat_map f) (sym (take-append-drop n xs)) ∙ flat_map-append f (take n xs) (drop n xs)

-- ---- records with their numbers
module _ {A : Type 0} (g : ℕ → A → List RowName) (xs : List A) where
  -- so many numbers are left past the records before k
  abbrev pub PastRecords : ℕ → ℕ → ℕ → Type 0
  PastRecords k i rest = Past {X = ℕ × A} (λ r. g r.0 r.1) (enumerate_from 0 xs) k i rest

  record_at : (k : ℕ) (x : A) (rest : ℕ) (answer : Result ℕ RowName) → k < length xs → x ≡ get_or xs k x → Finds (g k x) rest answer
      → Finds (g (get_or (enumerate_from 0 xs) k (0, x)).0 (get_or (enumerate_from 0 xs) k (0, x)).1) rest answer
  record_at k x rest answer within is h =
      let pair : get_or (enumerate_from 0 xs) k (0, x) ≡ (0 + k, get_or xs k x) = get_or-enumerate_from 0 xs k (0, x) within in
      let number : (get_or (enumerate_from 0 xs) k (0, x)).0 ≡ k = ap (λ (r : ℕ × A). r.0) pair ∙ omega arith in
      let same : (get_or (enumerate_from 0 xs) k (0, x)).1 ≡ x = ap (λ (r : ℕ × A). r.1) pair ∙ sym is in
      subst (λ (n : ℕ). Finds (g n (get_or (enumerate_from 0 xs) k (0, x)).1) rest answer) (sym number)
      (subst (λ (y : A). Finds (g k y) rest answer) (sym same) h)

  pub records_more : (k i rest more : ℕ) (x : A) → k < length xs → x ≡ get_or xs k x → PastRecords k i rest → Finds (g k x) rest (Ok more) → PastRecords (k + 1) i more
  records_more k i rest more x within is past h =
      past_more {X = ℕ × A} (λ r. g r.0 r.1) (enumerate_from 0 xs) k i rest more (0, x) (omega (arith, length-enumerate_from 0 xs)) past (record_at k x rest (Ok more) within is h)

  pub records_found : (k i rest : ℕ) (name : RowName) (x : A) → k < length xs → x ≡ get_or xs k x → PastRecords k i rest → Finds (g k x) rest (Err name) → Finds (over xs g) i (Err name)
  records_found k i rest name x within is past h =
      past_found {X = ℕ × A} (λ r. g r.0 r.1) (enumerate_from 0 xs) k i rest name (0, x) (omega (arith, length-enumerate_from 0 xs)) past (record_at k x rest (Err name) within is h)

  pub records_all : (k i rest : ℕ) → k ≡ length xs → PastRecords k i rest → Finds (over xs g) i (Ok rest)
  records_all k i rest e past =
      past_all {X = ℕ × A} (λ r. g r.0 r.1) (enumerate_from 0 xs) i rest
      (subst (λ (n : ℕ). Past {X = ℕ × A} (λ r. g r.0 r.1) (enumerate_from 0 xs) n i rest) (e ∙ sym (length-enumerate_from 0 xs)) past)

-- where only the numbers of the records count
module _ {A : Type 0} (g : ℕ → List RowName) (xs : List A) where
  -- so many numbers are left past the records before k
  abbrev pub PastNumbers : ℕ → ℕ → ℕ → Type 0
  PastNumbers k i rest = PastRecords {A = A} (λ n _. g n) xs k i rest

  one_of : (ys : List A) (k : ℕ) → k < length ys → A
  one_of [] k within = absurd (omega arith)
  one_of (y ∷ ys) k within = y

  pub numbers_more : (k i rest more : ℕ) → k < length xs → PastNumbers k i rest → Finds (g k) rest (Ok more) → PastNumbers (k + 1) i more
  numbers_more k i rest more within past h =
      let x : A = get_or xs k (one_of xs k within) in
      records_more {A = A} (λ n _. g n) xs k i rest more x within (get_or_default xs k (one_of xs k within) x within) past h

  pub numbers_found : (k i rest : ℕ) (name : RowName) → k < length xs → PastNumbers k i rest → Finds (g k) rest (Err name) → Finds (over xs (λ n _. g n)) i (Err name)
  numbers_found k i rest name within past h =
      let x : A = get_or xs k (one_of xs k within) in
      records_found {A = A} (λ n _. g n) xs k i rest name x within (get_or_default xs k (one_of xs k within) x within) past h

  pub numbers_all : (k i rest : ℕ) → k ≡ length xs → PastNumbers k i rest → Finds (over xs (λ n _. g n)) i (Ok rest)
  numbers_all k i rest e past = records_all {A = A} (λ n _. g n) xs k i rest e past

-- ---- months
-- one name a month
pub months_found : (h : ℕ → RowName) (a n i j : ℕ) → i < n → a + i ≡ j → Finds (flat_map (λ m. h m ∷ []) (range_with_len a n)) i (Err (h j))
months_found h a zero i j within e = absurd (omega arith)
months_found h a (suc n) zero j within e = let f : a ≡ j = omega arith in ap (λ m. Some (h m)) f
months_found h a (suc n) (suc i) j within e = months_found h (a + 1) n i j (omega arith) (omega arith)

months_length : (h : ℕ → RowName) (a n : ℕ) → length (flat_map (λ m. h m ∷ []) (range_with_len a n)) ≡ n
months_length h a zero = refl
months_length h a (suc n) = omega (arith, months_length h (a + 1) n)

pub months_past : (h : ℕ → RowName) (a n i rest : ℕ) → n ≤ i → rest ≡ i - n → Finds (flat_map (λ m. h m ∷ []) (range_with_len a n)) i (Ok rest)
months_past h a n i rest past e = omega (arith, months_length h a n)

-- two names a month
pub months_low : (h g : ℕ → RowName) (a n i k j : ℕ) → k < n → i ≡ 2 * k → a + k ≡ j → Finds (flat_map (λ m. h m ∷ g m ∷ []) (range_with_len a n)) i (Err (h j))
months_low h g a zero i k j within e f = absurd (omega arith)
months_low h g a (suc n) zero k j within e f = let same : a ≡ j = omega arith in ap (λ m. Some (h m)) same
months_low h g a (suc n) (suc zero) k j within e f = absurd (omega arith)
months_low h g a (suc n) (suc (suc i)) zero j within e f = absurd (omega arith)
months_low h g a (suc n) (suc (suc i)) (suc k) j within e f = months_low h g (a + 1) n i k j (omega arith) (omega arith) (omega arith)

pub months_high : (h g : ℕ → RowName) (a n i k j : ℕ) → k < n → i ≡ 2 * k + 1 → a + k ≡ j → Finds (flat_map (λ m. h m ∷ g m ∷ []) (range_with_len a n)) i (Err (g j))
months_high h g a zero i k j within e f = absurd (omega arith)
months_high h g a (suc n) zero k j within e f = absurd (omega arith)
months_high h g a (suc n) (suc zero) k j within e f = let same : a ≡ j = omega arith in ap (λ m. Some (g m)) same
months_high h g a (suc n) (suc (suc i)) zero j within e f = absurd (omega arith)
months_high h g a (suc n) (suc (suc i)) (suc k) j within e f = months_high h g (a + 1) n i k j (omega arith) (omega arith) (omega arith)

pairs_length : (h g : ℕ → RowName) (a n : ℕ) → length (flat_map (λ m. h m ∷ g m ∷ []) (range_with_len a n)) ≡ 2 * n
pairs_length h g a zero = refl
pairs_length h g a (suc n) = omega (arith, pairs_length h g (a + 1) n)

pub pairs_past : (h g : ℕ → RowName) (a n i rest : ℕ) → 2 * n ≤ i → rest ≡ i - 2 * n → Finds (flat_map (λ m. h m ∷ g m ∷ []) (range_with_len a n)) i (Ok rest)
pairs_past h g a n i rest past e = omega (arith, pairs_length h g a n)

-- no name in any month
pub months_empty : (f : ℕ → List RowName) (ms : List ℕ) → ((m : ℕ) → f m ≡ []) → flat_map f ms ≡ []
months_empty f [] h = refl
months_empty f (m ∷ ms) h = ap (λ ys. ys ++ flat_map f ms) (h m) ∙ months_empty f ms h

-- one name in each month from which the lead time leads into the plan
pub departures : (h : ℕ → RowName) (lead months a n c : ℕ) → a + n ≡ months + 1 → c ≡ (months + 1 - a) - lead
    → flat_map (λ m. list_if (nat_le (m + lead) months) (h m ∷ [])) (range_with_len a n) ≡ flat_map (λ m. h m ∷ []) (range_with_len a c)
departures h lead months a zero c e f = let none : c ≡ 0 = omega arith in rw none refl
departures h lead months a (suc n) zero e f =
    rw (lt-leb (a + lead) months (omega arith)) (departures h lead months (a + 1) n 0 (omega arith) (omega arith))
departures h lead months a (suc n) (suc c) e f =
    rw (le-leb (a + lead) months (omega arith)) (ap (λ ys. h a ∷ ys) (departures h lead months (a + 1) n c (omega arith) (omega arith)))

pub departures_found : (h : ℕ → RowName) (lead months i j : ℕ) → i < months - lead → 1 + i ≡ j
    → Finds (flat_map (λ m. list_if (nat_le (m + lead) months) (h m ∷ [])) (range_with_len 1 months)) i (Err (h j))
departures_found h lead months i j within e =
    rw (departures h lead months 1 months (months - lead) (omega arith) (omega arith)) (months_found h 1 (months - lead) i j within e)

pub departures_past : (h : ℕ → RowName) (lead months i rest : ℕ) → months - lead ≤ i → rest ≡ i - (months - lead)
    → Finds (flat_map (λ m. list_if (nat_le (m + lead) months) (h m ∷ [])) (range_with_len 1 months)) i (Ok rest)
departures_past h lead months i rest past e =
    rw (departures h lead months 1 months (months - lead) (omega arith) (omega arith)) (months_past h 1 (months - lead) i rest past e)

-- ---- months in which a list stands where one test holds
pub idle_past : (b : Bool) (f : ℕ → List RowName) (ms : List ℕ) (i : ℕ) → b ≡ false → Finds (flat_map (λ m. list_if b (f m)) ms) i (Ok i)
idle_past b f ms i e = rw e (omega (arith, ap length (months_empty (λ _. []) ms (λ m. refl))))

pub busy_found : (b : Bool) (h : ℕ → RowName) (n i j : ℕ) → b ≡ true → i < n → 1 + i ≡ j → Finds (flat_map (λ m. list_if b (h m ∷ [])) (range_with_len 1 n)) i (Err (h j))
busy_found b h n i j e within f = rw e (months_found h 1 n i j within f)

pub busy_past : (b : Bool) (h : ℕ → RowName) (n i rest : ℕ) → b ≡ true → n ≤ i → rest ≡ i - n → Finds (flat_map (λ m. list_if b (h m ∷ [])) (range_with_len 1 n)) i (Ok rest)
busy_past b h n i rest e past f = rw e (months_past h 1 n i rest past f)

-- ---- throughput, where there is one
pub free_past : (p : ℕ) (limit : Option ℤ) (ms : List ℕ) (i : ℕ) → is_none limit ≡ true → Finds (flat_map (throughput_names_in p limit) ms) i (Ok i)
free_past p None ms i e = omega (arith, ap length (months_empty (throughput_names_in p None) ms (λ m. refl)))
free_past p (Some z) ms i e = cc

pub limit_found : (p : ℕ) (limit : Option ℤ) (n i j : ℕ) → is_none limit ≡ false → i < n → 1 + i ≡ j → Finds (flat_map (throughput_names_in p limit) (range_with_len 1 n)) i (Err (row.Throughput p j))
limit_found p None n i j e within f = cc
limit_found p (Some z) n i j e within f = months_found (row.Throughput p) 1 n i j within f

pub limit_past : (p : ℕ) (limit : Option ℤ) (n i rest : ℕ) → is_none limit ≡ false → n ≤ i → rest ≡ i - n → Finds (flat_map (throughput_names_in p limit) (range_with_len 1 n)) i (Ok rest)
limit_past p None n i rest e past f = cc
limit_past p (Some z) n i rest e past f = months_past (row.Throughput p) 1 n i rest past f

-- ---- months one by one
-- so many numbers are left past the months up to k
abbrev pub PastMonths : (ℕ → List RowName) → ℕ → ℕ → ℕ → ℕ → Type 0
PastMonths f n k i rest = Past f (range_with_len 1 n) k i rest

month_at : (f : ℕ → List RowName) (n k m rest : ℕ) (answer : Result ℕ RowName) → k < n → m ≡ k + 1 → Finds (f m) rest answer → Finds (f (get_or (range_with_len 1 n) k 0)) rest answer
month_at f n k m rest answer within e h =
    let same : m ≡ get_or (range_with_len 1 n) k 0 = omega (arith, get_or-range_with_len 1 n k 0 within) in
    subst (λ (j : ℕ). Finds (f j) rest answer) same h

pub month_more : (f : ℕ → List RowName) (n k i rest more m : ℕ) → k < n → m ≡ k + 1 → PastMonths f n k i rest → Finds (f m) rest (Ok more) → PastMonths f n (k + 1) i more
month_more f n k i rest more m within e past h =
    past_more f (range_with_len 1 n) k i rest more 0 (omega (arith, length-range_with_len 1 n)) past (month_at f n k m rest (Ok more) within e h)

pub month_found : (f : ℕ → List RowName) (n k i rest m : ℕ) (name : RowName) → k < n → m ≡ k + 1 → PastMonths f n k i rest → Finds (f m) rest (Err name) → Finds (flat_map f (range_with_len 1 n)) i (Err name)
month_found f n k i rest m name within e past h =
    past_found f (range_with_len 1 n) k i rest name 0 (omega (arith, length-range_with_len 1 n)) past (month_at f n k m rest (Err name) within e h)

pub month_all : (f : ℕ → List RowName) (n k i rest : ℕ) → k ≡ n → PastMonths f n k i rest → Finds (flat_map f (range_with_len 1 n)) i (Ok rest)
month_all f n k i rest e past =
    past_all f (range_with_len 1 n) i rest (subst (λ (j : ℕ). Past f (range_with_len 1 n) j i rest) (e ∙ sym (length-range_with_len 1 n)) past)
