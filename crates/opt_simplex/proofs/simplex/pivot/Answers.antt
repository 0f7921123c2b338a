use Rattle.std.proofs.Common.{refl, ◌∙◌}
use Rattle.opt_simplex.specs.Outcomes.{leaving_at}
use Rattle.opt_simplex.proofs.PositionSteps.{listed-inside}
use Rattle.opt_simplex.proofs.NoteSteps.{noted-pivot}
use Rattle.opt_simplex.proofs.simplex.pivot.Goals as goal

pub refresh-requires-clause-inside : goal.refresh-requires-clause-inside
refresh-requires-clause-inside c =
    listed-inside c.args.col _ c.args.tableau.now.equations c.deref.result.now (c.deref.ensures.value ∙ c.in-Ok.ensures.listed) c.in-Ok.ensures.same_length

pub refresh-requires-clause-others : goal.refresh-requires-clause-others
refresh-requires-clause-others c =
    noted-pivot c.args.variables.now c.args.tableau.now c.pivot.new.self (leaving_at c.args.tableau.now.equations c.args.leaving) c.args.col c.args.work.now.values
    c.deref.result.now c.in-Ok.ensures.pivoted c.requires.may refl (c.deref.ensures.value ∙ c.in-Ok.ensures.listed) c.requires.noted c.requires.fit
