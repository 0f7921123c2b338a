use Rattle.std.proofs.Common.{◌≡◌, [], get_or, pos, ap, sym, subst, ◌∙◌}
use Rattle.std.proofs.lemmas.List.{get_or_default}
use Rattle.opt_simplex.specs.Columns.{Follow}
use Rattle.opt_simplex.specs.Tableau.{equation_at}
use Rattle.opt_simplex.proofs.ColumnSteps.{columns-more}
use Rattle.opt_simplex.proofs.columns.Columns.new.Goals as goal

pub loop-i-preserved : goal.loop-i-preserved
loop-i-preserved c =
    let is : c.index-equations-i.result ≡ equation_at c.args.equations.now c.loop-i.i =
    c.index-equations-i.is ∙ get_or_default c.args.equations.now c.loop-i.i c.index-equations-i.result (record { basic = 0; lead = pos 1; terms = [] }) c.loop-i-test.true in
    columns-more c.args.count c.args.equations.now c.loop-i.i c.index-equations-i.result c.loop-i.columns c.add_rest.new.self c.loop-i-test.true is c.loop-i.invariant
    (subst (λ es. Follow c.loop-i.i [] es c.loop-i.columns c.add_rest.new.self) c.terms.ensures.value c.in_ok-add_rest.ensures)
