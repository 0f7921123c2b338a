use Rattle.std.proofs.Common.{◌≡◌, ℤ, to_z, of_z, subst, arith}
use mir.Syntax.{w64}
use Rattle.std.proofs.lemmas.Int.{ints}
use Rattle.opt_tree.specs.declared.cert_node.CertNode.TheVariants.{Split}
use Rattle.opt_tree.specs.Reading.{Read, take_node}
use Rattle.opt_check.specs.Answers.{Shows}
use Rattle.opt_check.proofs.node.take_node.Goals as goal

pub returns-in-Split-clause-taken : goal.returns-in-Split-clause-taken
returns-in-Split-clause-taken c =
    let e : to_z w64 (of_z w64 c.in-Split.at) ≡ c.in-Split.at = omega (arith, ints) in
    let after : Unit {0} → Read = λ _. record { seen = c.take_split.new.seen; waiting = c.take_split.new.walk } in
    rw c.in-Split.is
    (subst (λ (t : ℤ). Shows after c.take_split.result (take_node c.args.task.now.system.now c.args.task.now.known.now (Split c.in-Split.quantity t) c.args.seen.now c.args.walk.now)) e
    (c.take_split.ensures.taken c.args.task.now.system.now c.args.task.now.known.now))
