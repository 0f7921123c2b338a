use Rattle.std.proofs.Common.{All, sym, subst, ap, ◌∙◌}
use Rattle.opt_frac.specs.Divisors.{Fits}
use Rattle.opt_frac.specs.Elimination.{negated_if}
use Rattle.opt_simplex.specs.Tableau.{at_rows}
use Rattle.opt_simplex.proofs.RawParts.{raw-empty_parts, whole-fits}
use Rattle.opt_simplex.proofs.multipliers.empty_multipliers.Goals as goal

pub row_entries-requires : goal.row_entries-requires
row_entries-requires c =
    subst (All (λ e. Fits e.1)) (sym (c.deref.ensures.value ∙ c.in_ok-whole.ensures.whole)) (whole-fits c.args.equation.now c.whole_terms.ensures.reduced)

pub new-requires : goal.new-requires
new-requires c =
    raw-empty_parts c.args.quantities c.args.below c.args.equation.now c.in_ok-entries.entries.items c.whole_terms.ensures.reduced
    (c.in_ok-entries.ensures ∙ ap (λ es. at_rows c.args.quantities (negated_if c.args.below es)) (c.deref.ensures.value ∙ c.in_ok-whole.ensures.whole))
