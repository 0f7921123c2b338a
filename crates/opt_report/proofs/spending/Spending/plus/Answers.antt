use Rattle.std.proofs.Common.{arith}
use Rattle.opt_report.proofs.CostTexts.{same_parts}
use Rattle.opt_report.proofs.Sums.{same_wide, sum_wide}
use Rattle.opt_report.proofs.spending.Spending.plus.Goals as goal

pub returns : goal.returns
returns c =
    let a = c.args.self in
    let b = c.args.other in
    let m = c.requires.small in
    let n = c.requires.other_small in
    same_parts _ _ _ _ _ _ _ _
    (sum_wide a.bought b.bought _ _ (same_wide a.bought (omega (arith, m.bought))) (same_wide b.bought (omega (arith, n.bought))) (omega (arith, m.bought)) (omega (arith, n.bought)))
    (sum_wide a.fees b.fees _ _ (same_wide a.fees (omega (arith, m.fees))) (same_wide b.fees (omega (arith, n.fees))) (omega (arith, m.fees)) (omega (arith, n.fees)))
    (sum_wide a.shipped b.shipped _ _ (same_wide a.shipped (omega (arith, m.shipped))) (same_wide b.shipped (omega (arith, n.shipped))) (omega (arith, m.shipped)) (omega (arith, n.shipped)))
    (sum_wide a.stored b.stored _ _ (same_wide a.stored (omega (arith, m.stored))) (same_wide b.stored (omega (arith, n.stored))) (omega (arith, m.stored)) (omega (arith, n.stored)))
