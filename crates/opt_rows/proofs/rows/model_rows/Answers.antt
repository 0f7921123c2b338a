use Rattle.std.proofs.Common.{◌≤◌, length, sym, subst, arith, List}
use Rattle.opt_base.specs.declared.limits.TheConstants.{ROW_LIMIT}
use Rattle.opt_rows.specs.Systems.{SystemRow, system_rows, AreSmallRows}
use Rattle.opt_rows.proofs.RowRights.{system_small}
use Rattle.opt_rows.proofs.rows.model_rows.Goals as goal

pub returns-clause-small : goal.returns-clause-small
returns-clause-small c =
    let t = c.args.tables.now in
    let few : length (system_rows t c.args.cap) ≤ ROW_LIMIT = omega (arith, c.row_count-count.ensures, c.if-count.false) in
    subst (λ (rows : List SystemRow). AreSmallRows c.args.layout.now.highs rows) (sym c.in_ok-list_rows.ensures)
    (system_small t c.settings-settings.ensures.model c.args.layout.now c.requires.layout c.args.cap c.requires.cap few)
