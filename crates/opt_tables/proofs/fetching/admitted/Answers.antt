use Rattle.std.proofs.Common.{refl, inl, lit<}
use Rattle.opt_tables.proofs.fetching.admitted.Goals as goal

pub returns-in-TooBig-clause-refused : goal.returns-in-TooBig-clause-refused
returns-in-TooBig-clause-refused c = (c.args.file, (0, lit< tt, refl), inl c.of_file.ensures)
