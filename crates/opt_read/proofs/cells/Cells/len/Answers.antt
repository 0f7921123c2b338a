use Rattle.std.proofs.Common.{sym}
use Rattle.opt_read.proofs.CellLemmas.{length-records_of}
use Rattle.opt_read.proofs.cells.Cells.len.Goals as goal

pub returns : goal.returns
returns c = rw (← c.self.view_is) (sym (length-records_of c.self.inside.width c.self.inside.count c.self.inside.fields))
