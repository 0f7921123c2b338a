use Rattle.std.proofs.Common.{◌≡◌, ℕ, true, cond, codes, List, ◌++◌, OnOk, sym, ap, subst, ◌∙◌}
use Rattle.csv.specs.Writing.{row_text, default_writer}
use Rattle.opt_model.specs.Columns.{names_of}
use Rattle.opt_model.specs.Settings.{Settings, has_lots}
use Rattle.opt_report.specs.Spending.{cost_columns}
use Rattle.opt_report.proofs.cost_report.add_header.Goals as goal

pub returns-then-has_lots : goal.returns-then-has_lots
returns-then-has_lots c =
    let has : has_lots c.args.tables.now.settings.format ≡ true =
    sym (ap (λ (s : Settings). has_lots s.format) c.settings.ensures.value) ∙ (sym (ap has_lots c.format.ensures) ∙ (sym c.has_lots.ensures ∙ c.if-has_lots.true)) in
    let names : names_of (codes "month,bought,fees,shipped,stored,total") ≡ names_of (cost_columns c.args.tables.now) = sym (ap (λ b. names_of (cond b (codes "month,bought,fees,shipped,stored,total") (codes "month,bought,shipped,stored,total"))) has) in
    subst (λ (ns : List (List ℕ)). OnOk c.add_record.result (c.add_record.new.text.items ≡ c.args.text.now.items ++ row_text default_writer ns)) names c.add_record.ensures
