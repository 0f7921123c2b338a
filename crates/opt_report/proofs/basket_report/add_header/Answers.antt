use Rattle.std.proofs.Common.{◌≡◌, ℕ, true, false, cond, codes, List, ◌++◌, OnOk, sym, ap, subst, ◌∙◌}
use Rattle.csv.specs.Writing.{row_text, default_writer}
use Rattle.opt_model.specs.Columns.{names_of}
use Rattle.opt_model.specs.Settings.{Settings, has_baskets}
use Rattle.opt_report.specs.Rations.{basket_columns}
use Rattle.opt_report.proofs.basket_report.add_header.Goals as goal

pub returns-then-has_baskets : goal.returns-then-has_baskets
returns-then-has_baskets c =
    let has : has_baskets c.args.tables.now.settings.format ≡ true =
    sym (ap (λ (s : Settings). has_baskets s.format) c.settings.ensures.value) ∙ (sym (ap has_baskets c.format.ensures) ∙ (sym c.has_baskets.ensures ∙ c.if-has_baskets.true)) in
    let names : names_of (codes "month,basket,kind,name,amount") ≡ names_of (basket_columns c.args.tables.now) = sym (ap (λ b. names_of (cond b (codes "month,basket,kind,name,amount") (codes "month,kind,name,amount"))) has) in
    subst (λ (ns : List (List ℕ)). OnOk c.add_record.result (c.add_record.new.text.items ≡ c.args.text.now.items ++ row_text default_writer ns)) names c.add_record.ensures

pub returns-else-has_baskets : goal.returns-else-has_baskets
returns-else-has_baskets c =
    let has : has_baskets c.args.tables.now.settings.format ≡ false =
    sym (ap (λ (s : Settings). has_baskets s.format) c.settings.ensures.value) ∙ (sym (ap has_baskets c.format.ensures) ∙ (sym c.has_baskets.ensures ∙ c.if-has_baskets.false)) in
    let names : names_of (codes "month,kind,name,amount") ≡ names_of (basket_columns c.args.tables.now) = sym (ap (λ b. names_of (cond b (codes "month,basket,kind,name,amount") (codes "month,kind,name,amount"))) has) in
    subst (λ (ns : List (List ℕ)). OnOk c.add_record-else-has_baskets.result (c.add_record-else-has_baskets.new.text.items ≡ c.args.text.now.items ++ row_text default_writer ns)) names c.add_record-else-has_baskets.ensures
