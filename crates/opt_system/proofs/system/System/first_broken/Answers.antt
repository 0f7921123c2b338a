use Rattle.std.proofs.Common.{Some, None, All, arith}
use Rattle.opt_system.specs.Rows.{Holds}
use Rattle.opt_system.specs.Systems.{IsFirstBroken}
use Rattle.opt_system.proofs.BrokenLemmas.{first_broken_is, all_by_number}
use Rattle.opt_system.proofs.system.System.first_broken.Goals as goal

pub returns-then-not-holds-clause-value : goal.returns-then-not-holds-clause-value
returns-then-not-holds-clause-value c =
    let first : IsFirstBroken c.args.self.now.rows c.args.x.now c.loop-i.i =
    record {
      in_list = omega (arith, c.rows-i-end.ensures.count, c.loop-i-test.true);
      broken = λ holds. absurd (cc (c.holds.ensures.1 holds));
      before = c.loop-i.invariant;
    }
    in
    first_broken_is c.args.self.now.rows c.args.x.now (Some c.loop-i.i) first

all : (c : goal.After-loop-i) → All (λ row. Holds row c.args.x.now) c.args.self.now.rows
all c = all_by_number c.args.self.now.rows c.args.x.now (λ k h. c.loop-i.invariant k (omega (arith, c.rows-i-end.ensures.count, c.loop-i.auto.i-end, c.loop-i-test.false)))

pub returns-clause-value : goal.returns-clause-value
returns-clause-value c = first_broken_is c.args.self.now.rows c.args.x.now None (all c)

pub returns-clause-first : goal.returns-clause-first
returns-clause-first c = all c
