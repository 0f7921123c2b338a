-- The terms from a number on, without those at one variable and times a factor.
use Rattle.std.proofs.Common.{◌≡◌, ◌≢◌, ◌⊎◌, inl, inr, ℕ, zero, suc, ◌+◌, ◌<◌, ◌≤◌, List, [], ◌∷◌, ◌++◌, length, drop, ℤ, pos, ◌*ℤ◌, Bool, true, false, ◌&&◌, not, ◌==◌, cond, All, refl, ap, sym, ◌∙◌, arith}
use Rattle.std.proofs.lemmas.List.{append-nil, drop_more, drop_all}
use Rattle.std.proofs.lemmas.List.Elements.{All-cons, All-filter, All-map, All-weaker}
use Rattle.std.proofs.lemmas.Bool.Decides.{nat_tests}
use Rattle.opt_sums.specs.Entries.{IsRising}
use Rattle.opt_sums.proofs.RisingLemmas.{IsRising-head, IsRising-tail}
use Rattle.opt_frac.specs.Divisors.{all_fit}
use Rattle.opt_frac.specs.Elimination.{more, merged_sum, multiple, without}
use Rattle.opt_frac.specs.Merging.{term_at, multiple_at, rest_of}
use Rattle.opt_frac.proofs.MergeLemmas.{Above, Adds, more-front}

rest_by : (g : ℤ) (col : ℕ) (e : ℕ × ℤ) (es : List (ℕ × ℤ)) (b : Bool) → (e.0 == col) ≡ b → multiple g (without col (e ∷ es)) ≡ (cond b [] ((e.0, g *ℤ e.1) ∷ [])) ++ multiple g (without col es)
rest_by g col e es true h = rw h refl
rest_by g col e es false h = rw h refl

-- a term at the variable, and one at another
pub rest_skip : (g : ℤ) (col : ℕ) (es : List (ℕ × ℤ)) (i : ℕ) → i < length es → (term_at es i).0 ≡ col → rest_of g col es i ≡ rest_of g col es (i + 1)
rest_skip g col es i h same =
    let test : ((term_at es i).0 == col) ≡ true = grind (arith, nat_tests) in
    ap (λ rest. multiple g (without col rest)) (drop_more es i (0, pos 0) h) ∙ rest_by g col (term_at es i) (drop (i + 1) es) true test

pub rest_take : (g : ℤ) (col : ℕ) (es : List (ℕ × ℤ)) (i : ℕ) → i < length es → (term_at es i).0 ≢ col → rest_of g col es i ≡ multiple_at g es i ∷ rest_of g col es (i + 1)
rest_take g col es i h apart =
    let test : ((term_at es i).0 == col) ≡ false = grind (arith, nat_tests) in
    ap (λ rest. multiple g (without col rest)) (drop_more es i (0, pos 0) h) ∙ rest_by g col (term_at es i) (drop (i + 1) es) false test

pub rest_done : (g : ℤ) (col : ℕ) (es : List (ℕ × ℤ)) (i : ℕ) → length es ≤ i → rest_of g col es i ≡ []
rest_done g col es i h = ap (λ rest. multiple g (without col rest)) (drop_all i es h)

-- ---- order
pub IsRising-drop : (es : List (ℕ × ℤ)) (i : ℕ) → IsRising es → IsRising (drop i es)
IsRising-drop es zero rising = rising
IsRising-drop [] (suc i) rising = rising
IsRising-drop (e ∷ es) (suc i) rising = IsRising-drop es i (IsRising-tail e es rising)

pub Above-multiple : (n : ℕ) (g : ℤ) (col : ℕ) (es : List (ℕ × ℤ)) → Above n es → Above n (multiple g (without col es))
Above-multiple n g col es above =
    All-map (λ e. n < e.0) (λ (e : ℕ × ℤ). (e.0, g *ℤ e.1)) (without col es) (All-filter (λ e. not (e.0 == col)) (λ e. n < e.0) es above)

-- the terms after term i are above it, and those from it on are above all that it is above
pub rest_above_next : (g : ℤ) (col : ℕ) (es : List (ℕ × ℤ)) (i : ℕ) → IsRising es → i < length es → Above (term_at es i).0 (rest_of g col es (i + 1))
rest_above_next g col es i rising h =
    Above-multiple (term_at es i).0 g col (drop (i + 1) es)
    (IsRising-head (term_at es i) (drop (i + 1) es) (rw (drop_more es i (0, pos 0) h) at (IsRising-drop es i rising)))

-- those from term i on are above all that it is above
pub drop_above : (n : ℕ) (es : List (ℕ × ℤ)) (i : ℕ) → IsRising es → i < length es → n < (term_at es i).0 → Above n (drop i es)
drop_above n es i rising h below =
    let later : All (λ e. (term_at es i).0 < e.0) (drop (i + 1) es) =
    IsRising-head (term_at es i) (drop (i + 1) es) (rw (drop_more es i (0, pos 0) h) at (IsRising-drop es i rising))
    in
    rw (drop_more es i (0, pos 0) h)
    (All-cons (λ e. n < e.0) (term_at es i) (drop (i + 1) es) below (All-weaker (λ e. (term_at es i).0 < e.0) (λ e. n < e.0) (λ e above. omega arith) (drop (i + 1) es) later))

pub rest_above : (n : ℕ) (g : ℤ) (col : ℕ) (es : List (ℕ × ℤ)) (i : ℕ) → IsRising es → i < length es → n < (term_at es i).0 → Above n (rest_of g col es i)
rest_above n g col es i rising h below = Above-multiple n g col (drop i es) (drop_above n es i rising h below)

-- ---- one list alone
alone_by : (g : ℤ) (col : ℕ) (e : ℕ × ℤ) (es : List (ℕ × ℤ)) → Above e.0 es → merged_sum (multiple g (without col es)) [] ≡ multiple g (without col es) → (b : Bool) → (e.0 == col) ≡ b → merged_sum (multiple g (without col (e ∷ es))) [] ≡ multiple g (without col (e ∷ es))
alone_by g col e es above rest true h = rw (rest_by g col e es true h) rest
alone_by g col e es above rest false h =
    rw (rest_by g col e es false h)
    (ap (more (e.0, g *ℤ e.1)) rest ∙ more-front (e.0, g *ℤ e.1) (multiple g (without col es)) (Above-multiple e.0 g col es above))

scaled_alone : (g : ℤ) (col : ℕ) (es : List (ℕ × ℤ)) → IsRising es → merged_sum (multiple g (without col es)) [] ≡ multiple g (without col es)
scaled_alone g col [] rising = refl
scaled_alone g col (e ∷ es) rising =
    alone_by g col e es (IsRising-head e es rising) (scaled_alone g col es (IsRising-tail e es rising)) (e.0 == col) refl

pub rest_alone : (g : ℤ) (col : ℕ) (es : List (ℕ × ℤ)) (i : ℕ) → IsRising es → merged_sum (rest_of g col es i) [] ≡ rest_of g col es i
rest_alone g col es i rising = scaled_alone g col (drop i es) (IsRising-drop es i rising)

and_same : (b : Bool) → (b && b) ≡ b
and_same true = refl
and_same false = refl

-- where one of the two is used up, the other is what is left
abbrev pub Left : List (ℕ × ℤ) → List (ℕ × ℤ) → Type 0
Left es ds = (es ≡ []) ⊎ (ds ≡ [])

pub Adds-end : (sums es ds all : List (ℕ × ℤ)) (fitting : Bool) → merged_sum es [] ≡ es → Left es ds → Adds sums es ds all fitting → (sums ++ es ++ ds ≡ all) × ((all_fit es && all_fit ds) ≡ fitting)
Adds-end sums es ds all fitting alone (inl h) is =
    let empty : es ≡ [] = h in
    (rw empty (rw append-nil (rw empty at is.0)), rw empty (sym (and_same (all_fit ds)) ∙ rw empty at is.1))
Adds-end sums es ds all fitting alone (inr h) is =
    let empty : ds ≡ [] = h in
    (rw empty (rw append-nil (rw (empty, alone) at is.0)), rw empty (by_test (all_fit es) ∙ rw (empty, alone) at is.1))
  where
    by_test : (b : Bool) → (b && true) ≡ (b && (true && b))
    by_test true = refl
    by_test false = refl
