use Rattle.std.proofs.Common.{◌≡◌, rules}
use Rattle.std.proofs.lemmas.Bool.Decides.{Decides-at}
use Rattle.opt_system.specs.Equal.{system_eq, system_eq-Decides}
use Rattle.opt_system.proofs.system.SystemPartialEq.eq.Goals as goal

pub returns-then-eq-2-clause-same : goal.returns-then-eq-2-clause-same
returns-then-eq-2-clause-same c =
    let value : c.eq-then-eq-2.result ≡ system_eq c.args.self.now c.args.other.now = search rules in
    Decides-at c.eq-then-eq-2.result (system_eq c.args.self.now c.args.other.now) value (system_eq-Decides c.args.self.now c.args.other.now)

pub returns-else-eq-2-clause-same : goal.returns-else-eq-2-clause-same
returns-else-eq-2-clause-same c =
    let value : c.if-eq.value ≡ system_eq c.args.self.now c.args.other.now = search rules in
    Decides-at c.if-eq.value (system_eq c.args.self.now c.args.other.now) value (system_eq-Decides c.args.self.now c.args.other.now)
