use Rattle.std.proofs.Common.{◌≡◌, ◌++◌, ◌*◌}
use Rattle.std.specs.Fmt.{decimal}
use Rattle.std.specs.List.{flat_map, range_with_len}
use Rattle.csv.specs.Writing.{row_text, default_writer}
use Rattle.opt_model.specs.Columns.{names_of}
use Rattle.opt_report.specs.Spending.{MONTH_SIZE, AreUpTo, cost_columns, spending_in, spending_record, spending_until}
use Rattle.opt_report.specs.PointPlans.{plan_with}
use Rattle.opt_report.proofs.cost_report.cost_report.Given as goal

abbrev pub invariant-loop-earlier : goal.invariant-loop-earlier
invariant-loop-earlier l = record {
  text : l.text.items ≡ row_text default_writer (names_of (cost_columns l.tables))
      ++ flat_map (λ m. spending_record l.tables (decimal m) (spending_in l.tables (plan_with l.plan) m)) (range_with_len 1 l.earlier);
  all : l.all ≡ spending_until l.tables (plan_with l.plan) l.earlier;
  small : AreUpTo (MONTH_SIZE * l.earlier) l.all;
}
