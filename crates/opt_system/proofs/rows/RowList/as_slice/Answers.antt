use Rattle.opt_system.proofs.rows.RowList.as_slice.Goals as goal

pub returns-clause-even : goal.returns-clause-even
returns-clause-even c = rw (← c.self.view_is) c.self.invariant
