-- Two lists that are the same up to a place, and differ.
use Rattle.std.proofs.Common.{◌≡◌, ◌≢◌, ◌⊎◌, inl, inr, ℕ, ◌<◌, ◌≤◌, List, length, ℤ, pos, arith}
use Rattle.std.proofs.lemmas.List.{ext_get_or}
use Rattle.opt_sums.specs.Sums.{at}

below_or_at : (j n : ℕ) → j ≤ n → (j < n) ⊎ (j ≡ n)
below_or_at j n h = grind arith

-- two lists of one length that differ do so past each place up to which they are the same
pub some_differs : (xs ys : List ℤ) (j : ℕ) → length xs ≡ length ys → xs ≢ ys → j ≤ length xs → ((k : ℕ) → k < j → at xs k ≡ at ys k) → j < length xs
some_differs xs ys j same differ h before =
    elim (below_or_at j (length xs) h) [
      | inl e ↦ e
      | inr e ↦ absurd (differ (ext_get_or (pos 0) xs ys same (λ k l. before k (omega (arith, e)))))
    ]
