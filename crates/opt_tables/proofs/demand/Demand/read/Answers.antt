use Rattle.std.proofs.Common.{◌≡◌, Result, Ok, Err, sym, IsErrAnd}
use Rattle.opt_base.specs.declared.refusal.Refusal.{Refusal}
use Rattle.opt_base.specs.declared.refusal.ModelFault.{ModelFault}
use Rattle.opt_base.specs.Answers.{Fails, Gives}
use Rattle.opt_base.proofs.Given.{Fails-next, Fails-after}
use Rattle.opt_tables.specs.Early.{demand_read}
use Rattle.opt_tables.proofs.demand.Demand.read.Goals as goal

-- what fails with a fault gives it
fails-with : {X Y : Type 0} (view : X → Y) (read : Result Y Refusal) (fault : ModelFault) (result : Result X ModelFault) → IsErrAnd result (λ e. e ≡ fault) → Fails fault read → Gives view result read
fails-with view read fault (Ok x) is failed = absurd is
fails-with view read fault (Err e) is failed = rw is failed

pub returns-in_err-needs : goal.returns-in_err-needs
unfolding demand_read
returns-in_err-needs c =
    fails-with (λ demand. demand) _ c.in_err-needs.field-0.0 c.from_residual-in_err-needs.result c.from_residual-in_err-needs.ensures.1
    (Fails-after _ _ c.in_err-needs.field-0.0 c.in_ok-baskets.baskets c.in_ok-baskets.ensures
    (Fails-next _ _ c.in_err-needs.field-0.0 c.in_err-needs.ensures))
