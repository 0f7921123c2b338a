use Rattle.std.proofs.Common.{◌≡◌, ◌≤◌, ap, sym, ◌∙◌, subst}
use Rattle.opt_model.specs.Verdicts as model
use Rattle.opt_tree.specs.declared.limits.TheConstants.{NODE_LIMIT}
use Rattle.opt_plan.proofs.ModelLimits.{own_rows, some_node, few_nodes}
use Rattle.opt_plan.proofs.problem.Problem.node_limit.Goals as goal

limit_is : (c : goal.After-node_limit) → c.node_limit.result ≡ model.node_limit c.self.inside.tables
limit_is c =
    c.node_limit.ensures.model (c.rows.ensures.count ∙ own_rows c.self.inside.tables c.self.inside.system c.self.invariant.system)

pub returns-clause-exact : goal.returns-clause-exact
returns-clause-exact c = limit_is c ∙ ap model.node_limit c.self.view_is

pub returns-clause-at_least_one : goal.returns-clause-at_least_one
returns-clause-at_least_one c =
    subst (λ n. 1 ≤ n) (sym (limit_is c))
    (some_node c.self.inside.tables c.self.inside.system c.self.invariant.system c.rows.ensures.limited c.settings-settings.ensures.model.settings)

pub returns-clause-few : goal.returns-clause-few
returns-clause-few c =
    subst (λ n. n ≤ NODE_LIMIT) (sym (limit_is c)) (few_nodes c.self.inside.tables c.settings-settings.ensures.model.settings)
