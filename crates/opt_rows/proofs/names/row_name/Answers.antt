use Rattle.std.proofs.Common.{arith}
use Rattle.opt_rows.proofs.RowNames.{found_name, count_named}
use Rattle.opt_rows.proofs.names.row_name.Goals as goal

pub returns : goal.returns
returns c = found_name c.args.tables.now c.args.i c.in-Err.name c.in-Err.ensures

pub unreachable-requires : goal.unreachable-requires
unreachable-requires c = let h = c.in-Ok.ensures in omega (arith, count_named c.args.tables.now, h, c.requires)
