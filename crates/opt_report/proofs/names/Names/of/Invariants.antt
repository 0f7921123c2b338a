use Rattle.std.proofs.Common.{◌≡◌, map, take}
use Rattle.opt_report.proofs.names.Names.of.Given as goal

abbrev pub invariant-loop-one : goal.invariant-loop-one
invariant-loop-one g l = map (λ name. name.now) l.names.keys ≡ map g.R.Named.name_of (take l.one-index l.records)
