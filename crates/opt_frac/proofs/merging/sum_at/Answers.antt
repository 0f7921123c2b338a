use Rattle.opt_frac.proofs.FitLemmas.{IsSum-products, IsSum-second}
use Rattle.opt_frac.proofs.merging.sum_at.Goals as goal

pub returns-in_err-second : goal.returns-in_err-second
returns-in_err-second c =
    IsSum-second c.from_residual-in_err-second.result _ _ c.in_err-second.ensures c.from_residual-in_err-second.ensures

pub returns : goal.returns
returns c =
    IsSum-products c.sum.result _ _ c.in_ok-first.first c.in_ok-second.second c.in_ok-first.ensures.0 c.in_ok-first.ensures.1 c.in_ok-second.ensures.0 c.in_ok-second.ensures.1 c.sum.ensures
