use Rattle.std.proofs.Common.{◌≡◌, ◌++◌}
use Rattle.std.specs.List.{flat_map, range_with_len}
use Rattle.csv.specs.Writing.{row_text, default_writer}
use Rattle.opt_model.specs.Columns.{names_of}
use Rattle.opt_model.specs.Quantities.{over}
use Rattle.opt_report.specs.Rations.{basket_columns, monthly_records}
use Rattle.opt_report.specs.PointPlans.{plan_with}
use Rattle.opt_report.proofs.basket_report.basket_report.Given as goal

abbrev pub invariant-loop-earlier : goal.invariant-loop-earlier
invariant-loop-earlier l =
    l.text.items ≡ row_text default_writer (names_of (basket_columns l.tables))
    ++ flat_map (λ m. over l.tables.baskets λ b _. monthly_records l.tables (plan_with l.plan) m b) (range_with_len 1 l.earlier)
