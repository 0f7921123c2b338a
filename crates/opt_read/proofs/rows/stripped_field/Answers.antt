use Rattle.std.proofs.Common.{◌∙◌}
use Rattle.opt_read.proofs.GridLemmas.{field-found, field-lacking}
use Rattle.opt_read.proofs.rows.stripped_field.Goals as goal

pub returns-in-Some : goal.returns-in-Some
returns-in-Some c = c.strip.ensures ∙ field-found _ _ _ c.in-Some.ensures.value

pub returns-in-None : goal.returns-in-None
returns-in-None c = field-lacking _ _ c.in-None.ensures.value
