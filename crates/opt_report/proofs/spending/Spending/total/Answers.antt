use Rattle.std.proofs.Common.{◌+ℤ◌, arith}
use Rattle.std.proofs.lemmas.Int.{ints}
use Rattle.opt_report.proofs.Sums.{same_wide, sum_wide}
use Rattle.opt_report.proofs.spending.Spending.total.Goals as goal

pub returns : goal.returns
returns c =
    let s = c.args.self in
    let h = c.requires in
    sum_wide ((s.bought +ℤ s.fees) +ℤ s.shipped) s.stored _ _
    (sum_wide (s.bought +ℤ s.fees) s.shipped _ _
    (sum_wide s.bought s.fees _ _ (same_wide s.bought (omega (arith, h.bought))) (same_wide s.fees (omega (arith, h.fees))) (omega (arith, h.bought)) (omega (arith, h.fees)))
    (same_wide s.shipped (omega (arith, h.shipped))) (omega (arith, ints, h.bought, h.fees)) (omega (arith, h.shipped)))
    (same_wide s.stored (omega (arith, h.stored))) (omega (arith, ints, h.bought, h.fees, h.shipped)) (omega (arith, h.stored))
