use Rattle.std.proofs.Common.{◌∙◌, sym, subst, ℤ, List}
use Rattle.opt_system.specs.Systems.{AreSmallCosts}
use Rattle.opt_rows.proofs.Answering.{speaks, parts_small, system_given}
use Rattle.opt_rows.proofs.building.build_goal.Goals as goal

pub from_rows-requires : goal.from_rows-requires
from_rows-requires c =
    parts_small c.args.tables.now c.args.layout.now c.requires.layout c.args.goal c.in_ok-rows.rows c.in_ok-root.root c.deref.result.now c.in_ok-root.ensures
    (c.deref.ensures.value ∙ c.in_ok-costs.ensures.costs) c.in_ok-rows.ensures.small
    (subst (λ (costs : List ℤ). AreSmallCosts costs c.args.layout.now.highs) (sym c.deref.ensures.value) c.in_ok-costs.ensures.small)

pub returns-clause-system : goal.returns-clause-system
returns-clause-system c =
    system_given c.args.tables.now c.args.layout.now c.requires.layout c.args.goal c.args.cap c.in_ok-rows.rows c.in_ok-root.root c.deref.result.now c.from_rows.result
    c.in_ok-rows.ensures.rows c.in_ok-root.ensures (c.deref.ensures.value ∙ c.in_ok-costs.ensures.costs) c.from_rows.ensures

pub returns-clause-law : goal.returns-clause-law
returns-clause-law c =
    speaks c.args.tables.now c.args.goal c.args.cap c.from_rows.result
    (system_given c.args.tables.now c.args.layout.now c.requires.layout c.args.goal c.args.cap c.in_ok-rows.rows c.in_ok-root.root c.deref.result.now c.from_rows.result
    c.in_ok-rows.ensures.rows c.in_ok-root.ensures (c.deref.ensures.value ∙ c.in_ok-costs.ensures.costs) c.from_rows.ensures)
