use Rattle.std.proofs.Common.{ap, sym, subst, ◌∙◌}
use Rattle.opt_simplex.specs.Soundness.{IsSound}
use Rattle.opt_simplex.proofs.GuideLemmas.{guide_end-is}
use Rattle.opt_dive.specs.Rounding.{optimum_of}
use Rattle.opt_dive.proofs.RoundSteps.{few_values, no_optimum}
use Rattle.opt_dive.proofs.rounding.optimum.Goals as goal

pub returns-in-Optimal-clause-value : goal.returns-in-Optimal-clause-value
returns-in-Optimal-clause-value c =
    ap optimum_of (sym c.in-Optimal.is ∙ c.in_ok-point.ensures.end ∙ sym (guide_end-is c.args.system.now c.args.range.now))

pub returns-in-Optimal-clause-sound : goal.returns-in-Optimal-clause-sound
returns-in-Optimal-clause-sound c =
    subst (IsSound c.args.system.now c.args.range.now) (c.in_ok-point.ensures.end ∙ sym (guide_end-is c.args.system.now c.args.range.now)) c.in_ok-point.ensures.sound

pub returns-in-Optimal-clause-few : goal.returns-in-Optimal-clause-few
returns-in-Optimal-clause-few c =
    few_values c.args.system.now c.args.range.now c.in_ok-point.field-0 c.in-Optimal.point c.requires.limited c.in_ok-point.ensures.sound (ap optimum_of (sym c.in-Optimal.is))

pub returns : goal.returns
returns c =
    record {
      value =
          no_optimum c.in_ok-point.field-0 c.in_default.not-Optimal
          ∙ ap optimum_of (c.in_ok-point.ensures.end ∙ sym (guide_end-is c.args.system.now c.args.range.now));
      sound =
          subst (IsSound c.args.system.now c.args.range.now) (c.in_ok-point.ensures.end ∙ sym (guide_end-is c.args.system.now c.args.range.now)) c.in_ok-point.ensures.sound;
      few = tt;
    }
