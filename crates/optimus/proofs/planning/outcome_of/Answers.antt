use Rattle.std.proofs.Common.{◌≡◌, ◌≤◌, length, ap, ◌∙◌, subst, arith}
use Rattle.opt_model.specs.Quantities.{rations}
use Rattle.opt_model.specs.Tables.{Tables}
use Rattle.opt_network.specs.Numbering.{Numbering}
use Rattle.opt_plan.specs.Models.{own_system}
use Rattle.opt_system.specs.Systems.{System}
use Rattle.optimus.proofs.Outcomes.{follows_dives}
use Rattle.optimus.proofs.Readable.{readable_by}
use Rattle.optimus.proofs.planning.outcome_of.Goals as goal

pub returns-clause-guided : goal.returns-clause-guided
returns-clause-guided c =
    let t : Tables = c.args.problem.now in
    let same : c.rations.result ≡ length (rations t) = c.rations.ensures ∙ ap (λ (n : Numbering). n.rations) c.layout.ensures.same in
    follows_dives t c.rations.result c.plan.result same (rw c.new-guide.ensures at c.plan.ensures.guided)

pub returns-clause-readable : goal.returns-clause-readable
returns-clause-readable c =
    let t : Tables = c.args.problem.now in
    let few_rows : length (own_system t).rows ≤ 20000 = subst (λ (s : System). length s.rows ≤ 20000) c.system.ensures.system c.rows-rows.ensures.limited.few_rows in
    let few_nodes = c.node_limit-limit.ensures.few in
    let limit = c.node_limit-limit.ensures.exact in
    readable_by t c.plan.result c.plan.ensures.outcome few_rows c.layout.ensures.few (omega (arith, few_nodes, limit))
