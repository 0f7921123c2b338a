-- What holds of each number of a list by its place, and of one more at the end, holds of each of the longer list.
use Rattle.std.proofs.Common.{◌≡◌, ℕ, ◌+◌, ◌<◌, List, [], ◌∷◌, ◌++◌, length, ℤ, pos, subst, sym, arith}
use Rattle.std.proofs.Math.ListN.{get_or-append}
use Rattle.std.proofs.Math.Seq.{get_or-append_seam}
use borrow.Author.Count.{below_more}
use Rattle.opt_sums.specs.Sums.{at}

pub each-push : (P : ℕ → ℤ → Type 0) (xs : List ℤ) (n : ℕ) (x : ℤ) → length xs ≡ n → ((j : ℕ) → j < n → P j (at xs j)) → P n x → (j : ℕ) → j < n + 1 → P j (at (xs ++ x ∷ []) j)
each-push P xs n x len below here =
    below_more (λ j. P j (at (xs ++ x ∷ []) j)) n
    (λ j h. subst (λ (v : ℤ). P j v) (sym (get_or-append xs (x ∷ []) (pos 0) j (omega (arith, len)))) (below j h))
    (subst (λ (v : ℤ). P n v) (sym (subst (λ (m : ℕ). at (xs ++ x ∷ []) m ≡ x) len (get_or-append_seam xs x [] (pos 0)))) here)
