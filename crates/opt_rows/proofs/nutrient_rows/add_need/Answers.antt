use Rattle.std.proofs.Common.{◌∙◌, sym, arith}
use Rattle.opt_rows.proofs.nutrient_rows.add_need.Goals as goal

pub pile-requires : goal.pile-requires
pile-requires c = omega (arith, c.requires.contents.each, c.requires.nutrient)

pub add_months-requires-clause-contents : goal.add_months-requires-clause-contents
add_months-requires-clause-contents c = c.pile.ensures ∙ c.requires.contents.filled c.args.need.now.nutrient c.requires.nutrient
