use Rattle.std.proofs.Common.{FitsSigned, ap, ◌∙◌}
use Rattle.std.proofs.lemmas.Int.{to_z-of_z}
use mir.Syntax.{w128}
use Rattle.opt_simplex.specs.Tableau.{at_rows}
use Rattle.opt_simplex.proofs.RawParts.{raw-cost_parts}
use Rattle.opt_simplex.proofs.multipliers.cost_multipliers.Goals as goal

pub new-requires : goal.new-requires
new-requires c =
    let fits : FitsSigned w128 c.lead.result = record { sfits = c.lead.type_inv } in
    rw (to_z-of_z w128 c.lead.result fits)
    (raw-cost_parts c.args.quantities c.args.cost.now c.lead.result c.in_ok-entries.entries.items c.lead.ensures.reduced c.lead.ensures.value
    (c.in_ok-entries.ensures ∙ ap (at_rows c.args.quantities) c.terms.ensures.value))
