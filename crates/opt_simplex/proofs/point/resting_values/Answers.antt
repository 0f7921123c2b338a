use Rattle.std.proofs.Common.{◌≡◌, ◌+◌, [], ◌∷◌, ◌++◌, pos, FitsSigned, ap, sym, ◌∙◌, arith}
use Rattle.std.proofs.lemmas.Int.{to_z-of_z}
use Rattle.std.proofs.lemmas.List.FromFn.{map-range_with_len_more}
use mir.Syntax.{w128}
use Rattle.opt_simplex.specs.Variables.{resting}
use Rattle.opt_simplex.proofs.KeptVariables.{resting-fits}
use Rattle.opt_simplex.proofs.point.resting_values.Goals as goal

pub loop-j-preserved : goal.loop-j-preserved
loop-j-preserved c =
    let fits : FitsSigned w128 c.resting.result = record { sfits = c.resting.type_inv } in
    let number : 0 + c.loop-j.j ≡ c.loop-j.j = omega arith in
    c.in_ok-push.ensures.items
    ∙ ap (λ z. c.loop-j.point.items ++ (z, pos 1) ∷ []) (to_z-of_z w128 c.resting.result fits ∙ c.resting.ensures.value)
    ∙ ap (λ xs. xs ++ (resting c.args.variables.now c.args.at_high.now c.loop-j.j, pos 1) ∷ []) c.loop-j.invariant
    ∙ sym (map-range_with_len_more (λ j. (resting c.args.variables.now c.args.at_high.now j, pos 1)) 0 c.loop-j.j c.loop-j.j number)

pub returns-clause-fit : goal.returns-clause-fit
returns-clause-fit c = λ j h. resting-fits c.args.variables.now c.args.at_high.now j c.quantities-j-end.ensures.kept (omega (arith, h, c.quantities-j-end.ensures.kept.quantities_first))
