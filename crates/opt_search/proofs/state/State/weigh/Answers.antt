use Rattle.std.proofs.Common.{FitsSigned, ap, rules}
use Rattle.std.proofs.lemmas.Int.{to_z-of_z}
use mir.Syntax.{w128}
use Rattle.opt_search.specs.declared.state.State.{State}
use Rattle.opt_search.proofs.SoundSteps.{sound_better}
use Rattle.opt_search.proofs.state.State.weigh.Goals as goal

pub returns-then-is_beaten_by-clause-sound : goal.returns-then-is_beaten_by-clause-sound
returns-then-is_beaten_by-clause-sound c =
    let same = c.close_reached.ensures.same in
    let kept = c.close_reached.ensures.kept in
    let fits : FitsSigned w128 c.objective-value.result = record { sfits = c.objective-value.type_inv } in
    sound_better _ _ _ _ _ c.requires.sound (record { tree = ap (λ (st : State). st.tree) same; shown = ap (λ (st : State). st.shown.items) same; root = ap (λ (st : State). st.root) same; root_bound = ap (λ (st : State). st.root_bound) same }) (ap (λ (st : State). st.best) same) (record { meets = record { in_range = search rules; rows_hold = search rules }; value_is = simp to_z-of_z (search rules) }) (simp to_z-of_z (search rules)) kept
