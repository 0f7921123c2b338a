use Rattle.std.proofs.Common.{◌≡◌, drop}
use Rattle.opt_base.specs.Answers.{each}
use Rattle.opt_tables.specs.Files.{with_checked}
use Rattle.opt_tables.proofs.files.Files.check_each.Given as goal

-- the files that are left are refused as all are
abbrev pub invariant-loop-file : goal.invariant-loop-file
invariant-loop-file l = each (with_checked l.self) l.file-index tt (drop l.file-index l.order) ≡ each (with_checked l.self) 0 tt l.order
