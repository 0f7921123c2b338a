use Rattle.std.proofs.Common.{◌≡◌, ◌++◌, codes}
use Rattle.std.specs.List.{flat_map, range_with_len}
use Rattle.csv.specs.Writing.{row_text, default_writer}
use Rattle.opt_model.specs.Columns.{names_of}
use Rattle.opt_model.specs.Quantities.{over}
use Rattle.opt_report.specs.Sites.{site_record, site_columns}
use Rattle.opt_report.specs.PointPlans.{plan_with}
use Rattle.opt_report.proofs.site_report.site_report.Given as goal

abbrev pub invariant-loop-earlier : goal.invariant-loop-earlier
invariant-loop-earlier l =
    l.text.items ≡ row_text default_writer (names_of site_columns)
    ++ flat_map (λ m. over l.tables.places λ p _. over l.tables.commodities λ c _. site_record l.tables (plan_with l.plan) m p c) (range_with_len 1 l.earlier)
