use Rattle.std.proofs.Common.{◌≡◌, rules}
use Rattle.std.proofs.lemmas.Bool.Decides.{Decides-at}
use Rattle.opt_system.specs.Equal.{range_eq, range_eq-Decides}
use Rattle.opt_system.proofs.range.RangePartialEq.eq.Goals as goal

pub returns-then-eq-clause-same : goal.returns-then-eq-clause-same
returns-then-eq-clause-same c =
    let value : c.eq-then-eq.result ≡ range_eq c.args.self.now c.args.other.now = search rules in
    Decides-at c.eq-then-eq.result (range_eq c.args.self.now c.args.other.now) value (range_eq-Decides c.args.self.now c.args.other.now)

pub returns-else-eq-clause-same : goal.returns-else-eq-clause-same
returns-else-eq-clause-same c =
    let value : c.eq.result ≡ range_eq c.args.self.now c.args.other.now = search rules in
    Decides-at c.eq.result (range_eq c.args.self.now c.args.other.now) value (range_eq-Decides c.args.self.now c.args.other.now)
