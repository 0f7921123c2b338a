use Rattle.std.proofs.Common.{◌≡◌, ◌+◌, ◌<◌, ◌≤◌, [], length, sum_by, get_or, drop, pos, ap, sym, subst, ◌∙◌, arith}
use Rattle.std.proofs.lemmas.List.{get_or_default, get_or-set_same, get_or-set_other}
use Rattle.opt_frac.specs.Equations.{Equation, HasTerm}
use Rattle.opt_simplex.proofs.CountSteps.{counted-more}
use Rattle.opt_simplex.proofs.PositionSteps.{has-some}
use Rattle.std.proofs.lemmas.Result.{err_from_is_err_and}
use Rattle.opt_simplex.specs.Shape.{IsOpenTo}
use Rattle.opt_simplex.specs.Tableau.{equation_at}
use Rattle.opt_simplex.specs.Pivot.{treatment, sweep_from}
use Rattle.opt_simplex.proofs.SweepSteps.{IsAt, equation-same, sweeping-stops, between-at, between-past, between-more, between-over, Makes-err}
use Rattle.opt_simplex.proofs.pivot.sweep.Goals as goal
use Rattle.opt_simplex.proofs.pivot.sweep.Goals.{After-index_mut, then-i-position+in_ok-stored+in_ok-change, else-i-position}

pub index_mut-requires : goal.index_mut-requires
index_mut-requires c =
    let here = between-at c.args.turned.now c.args.position c.args.equations.now.items c.loop-place.equations.items c.args.first c.loop-place.stored c.args.listed.now c.loop-place.place-index c.loop-place-test.true c.loop-place.invariant.sweeping in
    omega (arith, here.inside, c.loop-place.invariant.same_length, c.loop-place.equations.ok.0)

-- the equations before the listed one are treated
here : (c : After-index_mut) → IsAt c.args.turned.now c.args.position c.args.equations.now.items c.loop-place.equations.items c.args.first c.loop-place.stored (get_or c.args.listed.now c.loop-place.place-index 0) (drop (c.loop-place.place-index + 1) c.args.listed.now)
here c =
    between-at c.args.turned.now c.args.position c.args.equations.now.items c.loop-place.equations.items c.args.first c.loop-place.stored c.args.listed.now c.loop-place.place-index c.loop-place-test.true c.loop-place.invariant.sweeping

-- the equation at hand is as it was
same : (c : After-index_mut) → c.index_mut.result.now ≡ equation_at c.args.equations.now.items (get_or c.args.listed.now c.loop-place.place-index 0)
same c =
    c.index_mut.ensures.value
    ∙ equation-same c.args.equations.now.items c.loop-place.equations.items (get_or c.args.listed.now c.loop-place.place-index 0) c.index_mut.result.now (here c).sweeping.rest
    ∙ get_or_default c.args.equations.now.items (get_or c.args.listed.now c.loop-place.place-index 0) c.index_mut.result.now (record { basic = 0; lead = pos 1; terms = [] }) (here c).inside

pub treat-requires-clause-few : goal.treat-requires-clause-few
treat-requires-clause-few c = c.loop-place.invariant.few

pub treat-requires-clause-ready : goal.treat-requires-clause-ready
treat-requires-clause-ready c =
    let first = (goal.at.treat-requires-clause-ready c).After-index_mut in
    subst (IsOpenTo c.args.turned.now) (sym (same first)) (c.requires.ready (get_or c.args.listed.now c.loop-place.place-index 0) (here first).inside c.if-i-position.true)

pub treat-requires-clause-term : goal.treat-requires-clause-term
treat-requires-clause-term c =
    let first = (goal.at.treat-requires-clause-term c).After-index_mut in
    subst (λ e. HasTerm e c.args.turned.now.basic) (sym (same first))
    (has-some c.args.turned.now.basic (equation_at c.args.equations.now.items (get_or c.args.listed.now c.loop-place.place-index 0)) (here first).has)

pub index-requires : goal.index-requires
index-requires c =
    let at = between-at c.args.turned.now c.args.position c.args.equations.now.items c.loop-place.equations.items c.args.first c.loop-place.stored c.args.listed.now c.loop-place.place-index c.loop-place-test.true c.loop-place.invariant.sweeping in
    omega (arith, at.inside, c.loop-place.invariant.same_length, c.loop-place.equations.ok.0)

pub returns-in_err-stored-clause-swept : goal.returns-in_err-stored-clause-swept
returns-in_err-stored-clause-swept c =
    let first = (goal.at.returns-in_err-stored-clause-swept c).After-index_mut in
    let fault = err_from_is_err_and c.from_residual.result c.from_residual.ensures.1 in
    rw (fault.1, fault.2)
    (Makes-err c.in_err-stored.field-0.0 (treatment c.args.turned.now c.loop-place.stored c.index_mut.result.now) (sweep_from c.args.turned.now c.args.position 0 c.args.first c.args.equations.now.items)
    (λ why h. sweeping-stops c.args.turned.now c.args.position c.args.equations.now.items c.loop-place.equations.items c.args.first c.loop-place.stored (get_or c.args.listed.now c.loop-place.place-index 0) (here first).sweeping why (here first).inside c.if-i-position.true (ap (treatment c.args.turned.now c.loop-place.stored) (sym (same first)) ∙ h))
    c.in_err-stored.ensures.treated)

pub loop-place-preserved : goal.loop-place-preserved
loop-place-preserved c =
    let at = between-at c.args.turned.now c.args.position c.args.equations.now.items c.loop-place.equations.items c.args.first c.loop-place.stored c.args.listed.now c.loop-place.place-index c.loop-place-test.true c.loop-place.invariant.sweeping in
    elim c.if-i-position.branch [
      | then-i-position+in_ok-stored+in_ok-change w ↦
          let is : w.index_mut.result.now ≡ equation_at c.args.equations.now.items (get_or c.args.listed.now c.loop-place.place-index 0) =
          w.index_mut.ensures.value
          ∙ equation-same c.args.equations.now.items c.loop-place.equations.items (get_or c.args.listed.now c.loop-place.place-index 0) w.index_mut.result.now at.sweeping.rest
          ∙ get_or_default c.args.equations.now.items (get_or c.args.listed.now c.loop-place.place-index 0) w.index_mut.result.now (record { basic = 0; lead = pos 1; terms = [] }) at.inside in
          let next = between-more c.args.turned.now c.args.position c.args.equations.now.items c.loop-place.equations.items c.args.first c.loop-place.stored (get_or c.args.listed.now c.loop-place.place-index 0) (drop (c.loop-place.place-index + 1) c.args.listed.now) at w.treat.new.equation w.in_ok-stored.stored w.if-i-position.true (ap (treatment c.args.turned.now c.loop-place.stored) (sym is) ∙ w.in_ok-stored.ensures.treated) in
          let inside : get_or c.args.listed.now c.loop-place.place-index 0 < length c.loop-place.equations.items = omega (arith, at.inside, c.loop-place.invariant.same_length) in
          let before : (equation_at c.loop-place.equations.items (get_or c.args.listed.now c.loop-place.place-index 0)).terms ≡ w.deref.result.now =
          ap (λ (e : Equation). e.terms)
          (sym (w.index_mut.ensures.value ∙ get_or_default c.loop-place.equations.items (get_or c.args.listed.now c.loop-place.place-index 0) w.index_mut.result.now (record { basic = 0; lead = pos 1; terms = [] }) inside))
          ∙ sym w.in_ok-stored.ensures.lent ∙ sym w.deref.ensures.value in
          let after : w.treat.new.equation.terms ≡ w.terms.result.now =
          sym (w.terms.ensures.value ∙ ap (λ (e : Equation). e.terms) (w.index.ensures ∙ get_or-set_same c.loop-place.equations.items (get_or c.args.listed.now c.loop-place.place-index 0) w.treat.new.equation w.index.result.now inside)) in
          rw (w.equations-is, w.stored-is, w.columns-is)
          (record {
            sweeping = next;
            few = w.in_ok-stored.ensures.few;
            same_length = next.sweeping.same_length;
            at_hand =
                get_or-set_other c.loop-place.equations.items (get_or c.args.listed.now c.loop-place.place-index 0) c.args.position w.treat.new.equation (record { basic = 0; lead = pos 1; terms = [] }) (λ is. w.if-i-position.true (sym is))
                ∙ c.loop-place.invariant.at_hand;
            counted =
                counted-more c.args.turned.now c.loop-place.equations.items (get_or c.args.listed.now c.loop-place.place-index 0) w.index_mut.result.now w.treat.new.equation c.args.first c.loop-place.stored w.in_ok-stored.stored (sum_by (λ e. length e.terms) c.args.equations.now.items) inside
                (w.index_mut.ensures.value ∙ get_or_default c.loop-place.equations.items (get_or c.args.listed.now c.loop-place.place-index 0) w.index_mut.result.now (record { basic = 0; lead = pos 1; terms = [] }) inside)
                c.requires.counted c.loop-place.invariant.counted w.in_ok-stored.ensures.treated;
            columns = w.in_ok-change.ensures (length c.args.columns.now) c.loop-place.equations.items w.treat.new.equation inside before after c.loop-place.invariant.columns;
          })
      | else-i-position w ↦
          rw (w.equations-is, w.stored-is, w.columns-is)
          (record {
            sweeping =
                between-over c.args.turned.now c.args.position c.args.equations.now.items c.loop-place.equations.items c.args.first c.loop-place.stored (get_or c.args.listed.now c.loop-place.place-index 0) (drop (c.loop-place.place-index + 1) c.args.listed.now) at w.if-i-position.false;
            few = c.loop-place.invariant.few;
            same_length = c.loop-place.invariant.same_length;
            at_hand = c.loop-place.invariant.at_hand;
            counted = c.loop-place.invariant.counted;
            columns = c.loop-place.invariant.columns;
          })
    ]

pub returns-clause-swept : goal.returns-clause-swept
returns-clause-swept c =
    between-past c.args.turned.now c.args.position c.args.equations.now.items c.loop-place.equations.items c.args.first c.loop-place.stored c.args.listed.now c.loop-place.place-index (omega (arith, c.loop-place-test.false)) c.loop-place.invariant.sweeping
