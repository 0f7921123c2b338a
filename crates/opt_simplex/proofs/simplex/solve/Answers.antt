use Rattle.std.proofs.Common.{◌≡◌, ◌+◌, ◌≤◌, length, refl, subst, arith}
use Rattle.std.specs.Prelude.{IfNone}
use Rattle.opt_simplex.specs.Values.{AreNoted}
use Rattle.std.proofs.lemmas.Result.{IfOk-weaker}
use Rattle.opt_simplex.specs.Variables.{Variables, variables_of}
use Rattle.opt_simplex.specs.declared.limits.TheConstants.{COUNT_LIMIT}
use Rattle.opt_simplex.specs.Tableau.{stored}
use Rattle.opt_simplex.specs.Columns.{AreColumns}
use Rattle.opt_simplex.specs.Rule.{look_of, turns, end_of}
use Rattle.opt_simplex.specs.Outcomes.{turn_of}
use Rattle.opt_simplex.specs.Soundness.{IsSound}
use Rattle.opt_simplex.proofs.TurnSteps.{running-start, running-shaped, running-few, running-may, running-goes_on, running-next, running-ends, running-last, running-at, running-of, end-sound, turns-some, turns-none}
use Rattle.opt_simplex.proofs.simplex.solve.Goals as goal

pub new-requires-2-clause-shaped : goal.new-requires-2-clause-shaped
new-requires-2-clause-shaped c =
    running-shaped c.args.system.now c.args.range.now c.in_ok-variables.ensures.limited c.in_ok-variables.ensures.ordered c.requires c.args.pivots c.in_ok-variables.variables 0 c.in_ok-tableau.tableau
    (running-start c.args.system.now c.args.range.now c.in_ok-variables.ensures.limited c.in_ok-variables.ensures.ordered c.requires c.args.pivots c.in_ok-variables.variables c.in_ok-tableau.tableau c.in_ok-variables.ensures.value c.in_ok-tableau.ensures)

pub loop-done-init : goal.loop-done-init
loop-done-init c =
    record {
      running =
          running-start c.args.system.now c.args.range.now c.in_ok-variables.ensures.limited c.in_ok-variables.ensures.ordered c.requires c.args.pivots (variables_of c.args.system.now c.args.range.now) c.in_ok-tableau.tableau refl c.in_ok-tableau.ensures;
      stored = c.in_ok-work.ensures.stored;
      few = c.in_ok-work.ensures.few;
      noted = subst (λ v. AreNoted v c.in_ok-tableau.tableau c.in_ok-work.work.values) c.in_ok-variables.ensures.value c.in_ok-work.ensures.noted;
      columns = subst (λ (v : Variables). AreColumns (length v.low) c.in_ok-tableau.tableau.equations c.in_ok-work.work.columns) c.in_ok-variables.ensures.value c.in_ok-work.ensures.columns;
    }

pub turn-requires-clause-shaped : goal.turn-requires-clause-shaped
turn-requires-clause-shaped c =
    running-shaped c.args.system.now c.args.range.now c.in_ok-variables.ensures.limited c.in_ok-variables.ensures.ordered c.requires c.args.pivots c.in_ok-variables.variables c.loop-done.done c.loop-done.tableau
    (running-at c.args.system.now c.args.range.now c.args.pivots c.in_ok-variables.variables c.loop-done.done c.loop-done.tableau c.in_ok-variables.ensures.value c.loop-done.invariant.running)

pub new-requires-2-clause-few : goal.new-requires-2-clause-few
new-requires-2-clause-few c =
    running-few c.args.system.now c.args.range.now c.in_ok-variables.ensures.limited c.in_ok-variables.ensures.ordered c.requires c.args.pivots c.in_ok-variables.variables 0 c.in_ok-tableau.tableau
    (running-start c.args.system.now c.args.range.now c.in_ok-variables.ensures.limited c.in_ok-variables.ensures.ordered c.requires c.args.pivots c.in_ok-variables.variables c.in_ok-tableau.tableau c.in_ok-variables.ensures.value c.in_ok-tableau.ensures)

pub turn-requires-clause-may : goal.turn-requires-clause-may
turn-requires-clause-may c =
    running-may c.args.system.now c.args.range.now c.in_ok-variables.ensures.limited c.in_ok-variables.ensures.ordered c.requires c.args.pivots c.in_ok-variables.variables c.loop-done.done c.loop-done.tableau
    (running-at c.args.system.now c.args.range.now c.args.pivots c.in_ok-variables.variables c.loop-done.done c.loop-done.tableau c.in_ok-variables.ensures.value c.loop-done.invariant.running)

pub turn-requires-clause-goes_on : goal.turn-requires-clause-goes_on
turn-requires-clause-goes_on c =
    running-goes_on c.args.system.now c.args.range.now c.in_ok-variables.ensures.limited c.in_ok-variables.ensures.ordered c.requires c.args.pivots c.in_ok-variables.variables c.loop-done.done c.loop-done.tableau
    (running-at c.args.system.now c.args.range.now c.args.pivots c.in_ok-variables.variables c.loop-done.done c.loop-done.tableau c.in_ok-variables.ensures.value c.loop-done.invariant.running)

pub last-requires-clause-shaped : goal.last-requires-clause-shaped
last-requires-clause-shaped c =
    running-shaped c.args.system.now c.args.range.now c.in_ok-variables.ensures.limited c.in_ok-variables.ensures.ordered c.requires c.args.pivots c.in_ok-variables.variables c.loop-done.done c.loop-done.tableau
    (running-at c.args.system.now c.args.range.now c.args.pivots c.in_ok-variables.variables c.loop-done.done c.loop-done.tableau c.in_ok-variables.ensures.value c.loop-done.invariant.running)

pub loop-done-preserved : goal.loop-done-preserved
loop-done-preserved c =
    record {
      running =
          running-of c.args.system.now c.args.range.now c.args.pivots c.in_ok-variables.variables (c.loop-done.done + 1) c.turn.new.tableau
          (running-next c.args.system.now c.args.range.now c.in_ok-variables.ensures.limited c.in_ok-variables.ensures.ordered c.requires c.args.pivots c.in_ok-variables.variables c.loop-done.done c.loop-done.tableau c.turn.new.tableau
          (running-at c.args.system.now c.args.range.now c.args.pivots c.in_ok-variables.variables c.loop-done.done c.loop-done.tableau c.in_ok-variables.ensures.value c.loop-done.invariant.running) c.loop-done-test.true
          (turns-none c.in_ok-end.field-0 c.turn.new.tableau (turn_of c.in_ok-variables.variables c.loop-done.done c.loop-done.tableau (look_of c.in_ok-variables.variables c.loop-done.done c.loop-done.tableau)) c.in-None.is c.in_ok-end.ensures.turned)
          c.in_ok-end.ensures.same_length);
      stored = subst (λ end. IfNone end (c.turn.new.work.stored ≡ stored c.turn.new.tableau)) c.in-None.is c.in_ok-end.ensures.stored;
      few = subst (λ end. IfNone end (c.turn.new.work.stored ≤ COUNT_LIMIT)) c.in-None.is c.in_ok-end.ensures.few;
      noted =
          subst (λ v. AreNoted v c.turn.new.tableau c.turn.new.work.values) c.in_ok-variables.ensures.value
          (subst (λ end. IfNone end (AreNoted c.in_ok-variables.variables c.turn.new.tableau c.turn.new.work.values)) c.in-None.is c.in_ok-end.ensures.noted);
      columns =
          subst (λ (v : Variables). AreColumns (length v.low) c.turn.new.tableau.equations c.turn.new.work.columns) c.in_ok-variables.ensures.value
          (subst (λ end. IfNone end (AreColumns (length c.in_ok-variables.variables.low) c.turn.new.tableau.equations c.turn.new.work.columns)) c.in-None.is c.in_ok-end.ensures.columns);
    }

pub returns-in-Some-clause-end : goal.returns-in-Some-clause-end
returns-in-Some-clause-end c =
    running-ends c.args.system.now c.args.range.now c.in_ok-variables.ensures.limited c.in_ok-variables.ensures.ordered c.requires c.args.pivots c.in_ok-variables.variables c.loop-done.done c.loop-done.tableau c.in-Some.end
    (running-at c.args.system.now c.args.range.now c.args.pivots c.in_ok-variables.variables c.loop-done.done c.loop-done.tableau c.in_ok-variables.ensures.value c.loop-done.invariant.running) c.loop-done-test.true
    (turns-some c.in_ok-end.field-0 c.in-Some.end c.turn.new.tableau (turn_of c.in_ok-variables.variables c.loop-done.done c.loop-done.tableau (look_of c.in_ok-variables.variables c.loop-done.done c.loop-done.tableau)) c.in-Some.is c.in_ok-end.ensures.turned)

pub returns-in-Some-clause-sound : goal.returns-in-Some-clause-sound
returns-in-Some-clause-sound c =
    end-sound c.args.system.now c.args.range.now c.in_ok-variables.ensures.limited c.in_ok-variables.ensures.ordered c.requires c.args.pivots c.in-Some.end
    (running-ends c.args.system.now c.args.range.now c.in_ok-variables.ensures.limited c.in_ok-variables.ensures.ordered c.requires c.args.pivots c.in_ok-variables.variables c.loop-done.done c.loop-done.tableau c.in-Some.end
    (running-at c.args.system.now c.args.range.now c.args.pivots c.in_ok-variables.variables c.loop-done.done c.loop-done.tableau c.in_ok-variables.ensures.value c.loop-done.invariant.running) c.loop-done-test.true
    (turns-some c.in_ok-end.field-0 c.in-Some.end c.turn.new.tableau (turn_of c.in_ok-variables.variables c.loop-done.done c.loop-done.tableau (look_of c.in_ok-variables.variables c.loop-done.done c.loop-done.tableau)) c.in-Some.is c.in_ok-end.ensures.turned))

pub returns-clause-end : goal.returns-clause-end
returns-clause-end c =
    IfOk-weaker c.last.result (λ end. end ≡ turns c.in_ok-variables.variables 0 c.args.pivots c.loop-done.tableau) (λ end. end ≡ end_of c.args.system.now c.args.range.now c.args.pivots)
    (λ end h. running-last c.args.system.now c.args.range.now c.in_ok-variables.ensures.limited c.in_ok-variables.ensures.ordered c.requires c.args.pivots c.in_ok-variables.variables c.loop-done.done c.loop-done.tableau end
    (running-at c.args.system.now c.args.range.now c.args.pivots c.in_ok-variables.variables c.loop-done.done c.loop-done.tableau c.in_ok-variables.ensures.value c.loop-done.invariant.running) (omega (arith, c.loop-done-test.false, c.loop-done.auto.done-end)) h)
    c.last.ensures

pub returns-clause-sound : goal.returns-clause-sound
returns-clause-sound c =
    IfOk-weaker c.last.result (λ end. end ≡ turns c.in_ok-variables.variables 0 c.args.pivots c.loop-done.tableau) (IsSound c.args.system.now c.args.range.now)
    (λ end h. end-sound c.args.system.now c.args.range.now c.in_ok-variables.ensures.limited c.in_ok-variables.ensures.ordered c.requires c.args.pivots end
    (running-last c.args.system.now c.args.range.now c.in_ok-variables.ensures.limited c.in_ok-variables.ensures.ordered c.requires c.args.pivots c.in_ok-variables.variables c.loop-done.done c.loop-done.tableau end
    (running-at c.args.system.now c.args.range.now c.args.pivots c.in_ok-variables.variables c.loop-done.done c.loop-done.tableau c.in_ok-variables.ensures.value c.loop-done.invariant.running) (omega (arith, c.loop-done-test.false, c.loop-done.auto.done-end)) h))
    c.last.ensures
