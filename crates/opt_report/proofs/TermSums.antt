-- Sums of terms that are made record by record.
use Rattle.std.proofs.Common.{◌≡◌, ℕ, ◌+◌, ◌<◌, List, ◌++◌, length, take, get_or, ℤ, ◌+ℤ◌, sym, ap, ◌∙◌, arith}
use Rattle.std.proofs.lemmas.Int.{ints}
use Rattle.opt_model.specs.Plans.{Plan, sum_of}
use Rattle.opt_model.specs.Quantities.{over}
use Rattle.opt_model.specs.Rows.{Terms}
use Rattle.opt_model.proofs.Sums.{sum_of-append}
use Rattle.opt_network.proofs.RecordLists.{over-more}

-- the sum of the records so far, and of one more
pub sum_more : {A : Type 0} (f : ℕ → A → Terms) (plan : Plan) (xs : List A) (i : ℕ) (x : A) (sum value : ℤ) → i < length xs → x ≡ get_or xs i x
    → sum ≡ sum_of (over (take i xs) f) plan → value ≡ sum_of (f i x) plan → sum +ℤ value ≡ sum_of (over (take (i + 1) xs) f) plan
sum_more f plan xs i x sum value within is so_far more =
    let one : sum_of (f i (get_or xs i x)) plan ≡ sum_of (f i x) plan = ap (λ y. sum_of (f i y) plan) (sym is) in
    let both : sum_of (over (take i xs) f ++ f i (get_or xs i x)) plan ≡ sum_of (over (take i xs) f) plan +ℤ sum_of (f i (get_or xs i x)) plan =
    sum_of-append (over (take i xs) f) (f i (get_or xs i x)) plan in
    sym (ap (λ terms. sum_of terms plan) (over-more f xs i x within) ∙ omega (arith, ints, both, one, so_far, more))
