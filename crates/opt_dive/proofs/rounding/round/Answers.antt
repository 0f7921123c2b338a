use Rattle.std.proofs.Common.{Some, None, sym, subst, ◌∙◌}
use Rattle.opt_system.specs.Systems.{Meets}
use Rattle.opt_simplex.specs.Guide.{guide_end}
use Rattle.opt_dive.specs.Rounding.{IsRoundingOf}
use Rattle.opt_dive.proofs.RoundSteps.{IsTurn, way-start, turn-quantity, turn-next, turn-room, small_floors, rounding-whole, rounding-none}
use Rattle.opt_dive.proofs.WholePoints.{whole_meets}
use Rattle.opt_dive.proofs.rounding.round.Goals as goal

pub loop-range-init : goal.loop-range-init
loop-range-init c = way-start c.args.system.now c.args.range c.requires.ordered c.requires.within

pub fix_up-requires-clause-quantity : goal.fix_up-requires-clause-quantity
fix_up-requires-clause-quantity c =
    let turn : IsTurn c.args.system.now c.args.range c.loop-range.range c.in-Some.point c.in-Some-first_fractional.j = record {
      limited = c.requires.limited;
      way = c.loop-range.invariant;
      sound = c.in_ok-point.ensures.sound;
      optimum = sym c.in-Some.is ∙ c.in_ok-point.ensures.value;
      proper = c.first_fractional.ensures.kept;
      first = sym c.first_fractional.ensures.value ∙ c.in-Some-first_fractional.is;
    }
    in
    turn-quantity c.args.system.now c.args.range c.loop-range.range c.in-Some.point c.in-Some-first_fractional.j turn

pub loop-range-preserved : goal.loop-range-preserved
loop-range-preserved c =
    let turn : IsTurn c.args.system.now c.args.range c.loop-range.range c.in-Some.point c.in-Some-first_fractional.j = record {
      limited = c.requires.limited;
      way = c.loop-range.invariant;
      sound = c.in_ok-point.ensures.sound;
      optimum = sym c.in-Some.is ∙ c.in_ok-point.ensures.value;
      proper = c.first_fractional.ensures.kept;
      first = sym c.first_fractional.ensures.value ∙ c.in-Some-first_fractional.is;
    }
    in
    turn-next c.args.system.now c.args.range c.loop-range.range c.fix_up.new.range c.in-Some.point c.in-Some-first_fractional.j turn c.fix_up.ensures.value c.fix_up.ensures.ordered c.fix_up.ensures.within

pub loop-range-smaller : goal.loop-range-smaller
loop-range-smaller c =
    let turn : IsTurn c.args.system.now c.args.range c.loop-range.range c.in-Some.point c.in-Some-first_fractional.j = record {
      limited = c.requires.limited;
      way = c.loop-range.invariant;
      sound = c.in_ok-point.ensures.sound;
      optimum = sym c.in-Some.is ∙ c.in_ok-point.ensures.value;
      proper = c.first_fractional.ensures.kept;
      first = sym c.first_fractional.ensures.value ∙ c.in-Some-first_fractional.is;
    }
    in
    turn-room c.args.system.now c.args.range c.loop-range.range c.fix_up.new.range c.in-Some.point c.in-Some-first_fractional.j turn c.fix_up.ensures.value

pub floors-requires : goal.floors-requires
floors-requires c =
    small_floors c.args.system.now c.loop-range.range c.in-Some.point (sym c.in-Some.is ∙ c.in_ok-point.ensures.value) c.requires.limited c.loop-range.invariant.ordered c.loop-range.invariant.within c.in_ok-point.ensures.sound c.first_fractional.ensures.kept

pub returns-in-None-clause-rounding : goal.returns-in-None-clause-rounding
returns-in-None-clause-rounding c =
    subst (λ x. IsRoundingOf c.args.system.now c.args.range (Some x)) (sym c.in_ok-floors-in-None.ensures)
    (c.loop-range.invariant.leads _
    (rounding-whole c.args.system.now c.loop-range.range c.in-Some.point (sym c.in-Some.is ∙ c.in_ok-point.ensures.value) (sym c.first_fractional.ensures.value ∙ c.in-None.is)))

pub returns-in-None-clause-meets : goal.returns-in-None-clause-meets
returns-in-None-clause-meets c =
    subst (Meets c.args.system.now) (sym c.in_ok-floors-in-None.ensures)
    (whole_meets c.args.system.now c.loop-range.range (guide_end c.args.system.now c.loop-range.range) c.in-Some.point (sym c.in-Some.is ∙ c.in_ok-point.ensures.value) c.in_ok-point.ensures.sound c.first_fractional.ensures.kept
    (sym c.first_fractional.ensures.value ∙ c.in-None.is) c.requires.limited c.loop-range.invariant.within)

pub returns-clause-rounding : goal.returns-clause-rounding
returns-clause-rounding c =
    c.loop-range.invariant.leads None
    (rounding-none c.args.system.now c.loop-range.range (sym c.in_default.is ∙ c.in_ok-point.ensures.value))
