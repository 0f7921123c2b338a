use Rattle.std.proofs.Common.{◌≡◌, take, string_bytes}
use Rattle.std.specs.List.{flat_map}
use Rattle.opt_report.specs.Audits.{broken_line}
use Rattle.opt_report.proofs.audit.audit_text.Given as goal

abbrev pub invariant-loop-row : goal.invariant-loop-row
invariant-loop-row l = string_bytes l.text ≡ flat_map (broken_line l.tables) (take l.row-index l.broken)
