use Rattle.std.proofs.Common.{◌≡◌, ◌+◌, ap, rules, arith}
use Rattle.std.specs.Fmt.{decimal}
use Rattle.csv.specs.Writing.{row_text, default_writer}
use Rattle.opt_model.specs.Columns.{names_of}
use Rattle.opt_model.specs.Settings.{Settings}
use Rattle.opt_network.proofs.MonthLists.{month_step}
use Rattle.opt_report.specs.PointPlans.{plan_with}
use Rattle.opt_report.specs.Spending.{cost_columns, spending_in, spending_record}
use Rattle.opt_report.proofs.CostTexts.{all_more, more_up_to, month_record, all_records}
use Rattle.opt_report.proofs.cost_report.cost_report.Goals as goal

pub loop-earlier-preserved : goal.loop-earlier-preserved
loop-earlier-preserved c =
    let t = c.args.tables.now in
    let plan = plan_with c.args.plan.now in
    let n = c.loop-earlier.earlier in
    let named : c.deref.result.now ≡ decimal (n + 1) = search rules in
    record {
      text = month_step (row_text default_writer (names_of (cost_columns t))) c.loop-earlier.text.items c.add_spending.new.text.items (λ m. spending_record t (decimal m) (spending_in t plan m)) n c.loop-earlier.invariant.text
          (month_record t plan c.loop-earlier.text.items c.add_spending.new.text.items c.deref.result.now (n + 1) c.in_month-spending.result named c.in_month-spending.ensures.value c.in_ok-add_spending.ensures);
      all = all_more t plan n c.loop-earlier.all c.in_month-spending.result c.plus-all.result c.loop-earlier.invariant.all c.in_month-spending.ensures.value c.plus-all.ensures;
      small = more_up_to n c.loop-earlier.all c.in_month-spending.result c.plus-all.result c.plus-all.ensures c.loop-earlier.invariant.small c.in_month-spending.ensures.small;
    }

pub returns : goal.returns
returns c =
    let t = c.args.tables.now in
    let plan = plan_with c.args.plan.now in
    let whole : c.loop-earlier.earlier ≡ t.settings.months =
    omega (arith, c.loop-earlier-test.false, c.loop-earlier.auto.earlier-end, c.months-earlier-end.ensures, ap (λ (s : Settings). s.months) c.settings.ensures.value) in
    all_records t plan (row_text default_writer (names_of (cost_columns t))) c.loop-earlier.text.items c.add_spending-2.new.text.items c.loop-earlier.earlier c.loop-earlier.all whole
    c.loop-earlier.invariant.text c.loop-earlier.invariant.all c.in_ok-add_spending-2.ensures
