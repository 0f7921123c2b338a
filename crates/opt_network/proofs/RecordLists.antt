-- Lists that are made record by record.
use Rattle.std.proofs.Common.{◌≡◌, ℕ, ◌+◌, ◌<◌, ◌≤◌, List, [], ◌∷◌, ◌++◌, length, take, get_or, sum_by, sym, ap, ◌∙◌, arith, append-nil, append_assoc, length-take}
use Rattle.std.specs.List.{flat_map, enumerate_from}
use Rattle.std.proofs.lemmas.Grind.{flat_map-append}
use Rattle.std.proofs.lemmas.List.{take_more}
use Rattle.std.proofs.lemmas.List.Sums.{sum_by-append}
use Rattle.opt_model.specs.Quantities.{over}
use Rattle.opt_network.specs.Counts.{sum_numbered}

-- the length of the first records
length-first : {A : Type 0} (i : ℕ) (xs : List A) → i ≤ length xs → length (take i xs) ≡ i
length-first i xs le = omega (arith, length-take i xs)

enumerate-append : {A : Type 0} (k : ℕ) (xs : List A) (x : A) → enumerate_from k (xs ++ x ∷ []) ≡ enumerate_from k xs ++ (k + length xs, x) ∷ []
enumerate-append k [] x = ap (λ n. (n, x) ∷ []) (omega arith)
enumerate-append k (y ∷ ys) x =
    ap (λ rs. (k, y) ∷ rs) (enumerate-append (k + 1) ys x ∙ ap (λ n. enumerate_from (k + 1) ys ++ (n, x) ∷ []) (omega arith))

-- one more record with its number
enumerate-more : {A : Type 0} (xs : List A) (i : ℕ) (d : A) → i < length xs → enumerate_from 0 (take (i + 1) xs) ≡ enumerate_from 0 (take i xs) ++ (i, get_or xs i d) ∷ []
enumerate-more xs i d lt =
    ap (enumerate_from 0) (take_more xs i d lt)
    ∙ (enumerate-append 0 (take i xs) (get_or xs i d)
    ∙ ap (λ n. enumerate_from 0 (take i xs) ++ (n, get_or xs i d) ∷ []) (omega (arith, length-first i xs (omega arith))))

-- what one more record adds
pub over-more : {A B : Type 0} (f : ℕ → A → List B) (xs : List A) (i : ℕ) (d : A) → i < length xs → over (take (i + 1) xs) f ≡ over (take i xs) f ++ f i (get_or xs i d)
over-more f xs i d lt =
    ap (flat_map (λ r. f r.0 r.1)) (enumerate-more xs i d lt)
    ∙ (flat_map-append (λ r. f r.0 r.1) (enumerate_from 0 (take i xs)) ((i, get_or xs i d) ∷ [])
    ∙ ap (λ ys. over (take i xs) f ++ ys) (append-nil (f i (get_or xs i d))))

-- the same behind a list
pub over_more : {A B : Type 0} (old : List B) (f : ℕ → A → List B) (xs : List A) (i : ℕ) (d : A) → i < length xs
    → (old ++ over (take i xs) f) ++ f i (get_or xs i d) ≡ old ++ over (take (i + 1) xs) f
over_more old f xs i d lt = append_assoc old (over (take i xs) f) (f i (get_or xs i d)) ∙ ap (λ ys. old ++ ys) (sym (over-more f xs i d lt))

-- where only the number counts
pub over_next : {A B : Type 0} (f : ℕ → List B) (xs : List A) (i : ℕ) → i < length xs → over (take (i + 1) xs) (λ n _. f n) ≡ over (take i xs) (λ n _. f n) ++ f i
over_next f [] i lt = absurd (omega arith)
over_next f (x ∷ xs) i lt = over-more (λ n _. f n) (x ∷ xs) i x lt

pub over_number : {A B : Type 0} (old : List B) (f : ℕ → List B) (xs : List A) (i : ℕ) → i < length xs
    → (old ++ over (take i xs) (λ n _. f n)) ++ f i ≡ old ++ over (take (i + 1) xs) (λ n _. f n)
over_number old f xs i lt = append_assoc old (over (take i xs) (λ n _. f n)) (f i) ∙ ap (λ ys. old ++ ys) (sym (over_next f xs i lt))

pub number_step : {A B : Type 0} (old now new : List B) (f : ℕ → List B) (xs : List A) (i : ℕ) → i < length xs → now ≡ old ++ over (take i xs) (λ n _. f n)
    → new ≡ now ++ f i → new ≡ old ++ over (take (i + 1) xs) (λ n _. f n)
number_step old now new f xs i lt so_far more = more ∙ (ap (λ ys. ys ++ f i) so_far ∙ over_number old f xs i lt)

pub record_step : {A B : Type 0} (old now new : List B) (f : ℕ → A → List B) (xs : List A) (i : ℕ) (x : A) → i < length xs → x ≡ get_or xs i x
    → now ≡ old ++ over (take i xs) f → new ≡ now ++ f i x → new ≡ old ++ over (take (i + 1) xs) f
record_step old now new f xs i x lt read so_far more =
    more ∙ (ap (λ ys. ys ++ f i x) so_far ∙ (ap (λ y. (old ++ over (take i xs) f) ++ f i y) read ∙ over_more old f xs i x lt))

-- the sum over one more record
pub sum_numbered_more : {A : Type 0} (f : ℕ → A → ℕ) (xs : List A) (i : ℕ) (d : A) → i < length xs
    → sum_numbered (take (i + 1) xs) f ≡ sum_numbered (take i xs) f + f i (get_or xs i d)
sum_numbered_more f xs i d lt =
    ap (sum_by (λ r. f r.0 r.1)) (enumerate-more xs i d lt)
    ∙ (sum_by-append (λ r. f r.0 r.1) (enumerate_from 0 (take i xs)) ((i, get_or xs i d) ∷ []) ∙ omega arith)

-- seven lists one after another
pub seven_lists : {A : Type 0} (r s b h k f o n0 n1 n2 n3 n4 n5 n6 n7 : List A) → n0 ≡ [] → n1 ≡ n0 ++ r → n2 ≡ n1 ++ s → n3 ≡ n2 ++ b → n4 ≡ n3 ++ h → n5 ≡ n4 ++ k → n6 ≡ n5 ++ f → n7 ≡ n6 ++ o
    → n7 ≡ r ++ (s ++ (b ++ (h ++ (k ++ (f ++ o)))))
seven_lists r s b h k f o n0 n1 n2 n3 n4 n5 n6 n7 e0 e1 e2 e3 e4 e5 e6 e7 =
    let all : n7 ≡ (((((([] ++ r) ++ s) ++ b) ++ h) ++ k) ++ f) ++ o = cc in
    all ∙ simp append_assoc
