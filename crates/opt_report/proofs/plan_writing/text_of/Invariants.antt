use Rattle.std.proofs.Common.{◌≡◌, ◌++◌, take}
use Rattle.csv.specs.Writing.{row_text, default_writer}
use Rattle.opt_base.specs.declared.refusal.File.TheVariants as file
use Rattle.opt_model.specs.Columns.{column_names}
use Rattle.opt_model.specs.Plans.{plan_of}
use Rattle.opt_model.specs.Quantities.{quantities}
use Rattle.opt_model.specs.Texts.{plan_records}
use Rattle.opt_report.proofs.plan_writing.text_of.Given as goal

abbrev pub invariant-loop-i : goal.invariant-loop-i
invariant-loop-i l =
    l.text.items ≡ row_text default_writer (column_names file.Plan) ++ plan_records l.tables (plan_of (quantities l.tables) l.point) (take l.i (quantities l.tables))
