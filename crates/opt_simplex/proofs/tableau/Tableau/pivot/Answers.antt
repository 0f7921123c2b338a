use Rattle.std.proofs.Common.{◌≡◌, ◌<◌, [], ◌+◌, length, sum_by, not, pos, get_or, ap, sym, subst, ◌∙◌, arith}
use Rattle.std.specs.List.{slice_set}
use Rattle.std.proofs.lemmas.List.{get_or_default}
use Rattle.std.proofs.lemmas.Result.{err_from_is_err_and}
use Rattle.opt_frac.specs.Equations.{Equation, IsReduced}
use Rattle.opt_frac.specs.Elimination.{solution_for}
use Rattle.opt_simplex.specs.Tableau.{Tableau, equation_at, stored}
use Rattle.opt_simplex.specs.Columns.{AreColumns, positions_from}
use Rattle.opt_simplex.specs.Pivot.{treatment, sweep_from, next_tableau}
use Rattle.opt_simplex.specs.Outcomes.{leaving_at}
use Rattle.opt_simplex.proofs.CountSteps.{length-solution_for, stored-whole}
use Rattle.opt_simplex.proofs.ColumnSteps.{term_below}
use Rattle.opt_simplex.proofs.SweepSteps.{Makes-err}
use Rattle.opt_simplex.proofs.TurnSteps.{solution_for-basic, next_tableau-sweep_fault, next_tableau-cost_fault, next_tableau-whole}
use Rattle.opt_simplex.proofs.tableau.Tableau.pivot.Goals as goal
use Rattle.opt_simplex.proofs.tableau.Tableau.pivot.Goals.{After-positions, After-sweep}

-- the equation of the leaving variable
leaving_is : (c : After-sweep) → c.index-equation.result.now ≡ equation_at c.args.self.now.equations c.args.leaving.position
leaving_is c =
    c.index-equation.ensures
    ∙ ap (λ (t : Tableau). get_or t.equations c.args.leaving.position c.index-equation.result.now) c.self.view_is
    ∙ get_or_default c.args.self.now.equations c.args.leaving.position c.index-equation.result.now (record { basic = 0; lead = pos 1; terms = [] }) c.requires.may.inside

by_is : (c : After-sweep) → c.in_ok-turned.turned ≡ solution_for c.args.col (equation_at c.args.self.now.equations c.args.leaving.position)
by_is c = c.in_ok-turned.ensures.turned ∙ ap (solution_for c.args.col) (leaving_is c)

-- the entering variable has a column
col_below : (c : After-positions) → c.args.col < length c.args.self.now.at_high
col_below c =
    term_below (length c.args.self.now.at_high) (equation_at c.args.self.now.equations c.args.leaving.position).terms c.args.col
    (c.requires.shaped.equations c.args.leaving.position (record { basic = 0; lead = pos 1; terms = [] }) c.requires.may.inside).terms c.requires.may.term

pub positions-requires : goal.positions-requires
positions-requires c =
    let below : c.args.col < length c.args.self.now.at_high =
    term_below (length c.args.self.now.at_high) (equation_at c.args.self.now.equations c.args.leaving.position).terms c.args.col
    (c.requires.shaped.equations c.args.leaving.position (record { basic = 0; lead = pos 1; terms = [] }) c.requires.may.inside).terms c.requires.may.term in
    omega (arith, below, c.requires.columns.each)

pub sweep-requires-clause-listed : goal.sweep-requires-clause-listed
sweep-requires-clause-listed c =
    let first = (goal.at.sweep-requires-clause-listed c).After-positions in
    let col : c.in_ok-turned.turned.basic ≡ c.args.col =
    ap (λ (e : Equation). e.basic) c.in_ok-turned.ensures.turned ∙ solution_for-basic c.args.col c.index-equation.result.now in
    c.deref.ensures.value ∙ c.in_ok-listed.ensures ∙ c.requires.columns.listed c.args.col (col_below first)
    ∙ ap (λ k. positions_from k 0 c.args.self.now.equations) (sym col)
    ∙ ap (λ (t : Tableau). positions_from c.in_ok-turned.turned.basic 0 t.equations) (sym c.self.view_is)

pub returns-clause-stored : goal.returns-clause-stored
returns-clause-stored c =
    let first = (goal.at.returns-clause-stored c).After-sweep in
    let before : stored c.args.self.now ≡ sum_by (λ e. length e.terms) c.self.inside.equations.items + length c.self.inside.cost.terms =
    ap stored (sym c.self.view_is) in
    let inside : c.args.leaving.position < length c.sweep.new.equations.items =
    omega (arith, c.requires.may.inside, c.in_ok-stored.ensures.same_length, ap (λ (t : Tableau). length t.equations) c.self.view_is) in
    let old : length (equation_at c.sweep.new.equations.items c.args.leaving.position).terms ≡ length (equation_at c.args.self.now.equations c.args.leaving.position).terms =
    ap (λ (e : Equation). length e.terms) c.in_ok-stored.ensures.at_hand
    ∙ ap (λ (t : Tableau). length (equation_at t.equations c.args.leaving.position).terms) c.self.view_is in
    let turned_size : length c.in_ok-turned.turned.terms ≡ length (equation_at c.args.self.now.equations c.args.leaving.position).terms =
    ap (λ (e : Equation). length e.terms) (by_is first)
    ∙ length-solution_for c.args.col (equation_at c.args.self.now.equations c.args.leaving.position)
    (subst IsReduced (leaving_is first) c.basic-basic.ensures.reduced) c.requires.may.term in
    stored-whole c.args.stored c.in_ok-stored.stored c.in_ok-count.count c.args.leaving.position c.self.inside.equations.items c.sweep.new.equations.items
    c.in_ok-turned.turned c.self.inside.cost c.treat_cost.new.cost inside (c.requires.stored ∙ before) c.in_ok-stored.ensures.counted
    c.in_ok-count.ensures.treated (turned_size ∙ sym old)

pub returns-clause-listed : goal.returns-clause-listed
returns-clause-listed c =
    let first = (goal.at.returns-clause-listed c).After-positions in
    c.in_ok-listed.ensures ∙ c.requires.columns.listed c.args.col (col_below first)

pub returns-clause-columns : goal.returns-clause-columns
returns-clause-columns c =
    let inside : c.args.leaving.position < length c.sweep.new.equations.items =
    omega (arith, c.requires.may.inside, c.in_ok-stored.ensures.same_length, ap (λ (t : Tableau). length t.equations) c.self.view_is) in
    let before : (equation_at c.sweep.new.equations.items c.args.leaving.position).terms ≡ c.terms.result.now =
    sym (c.terms.ensures.value ∙ ap (λ (e : Equation). e.terms)
    (c.index-old.ensures ∙ get_or_default c.sweep.new.equations.items c.args.leaving.position c.index-old.result.now (record { basic = 0; lead = pos 1; terms = [] }) inside)) in
    c.in_ok-change.ensures (length c.args.self.now.at_high) c.sweep.new.equations.items c.in_ok-turned.turned inside before (sym c.terms-2.ensures.value)
    (subst (λ n. AreColumns n c.sweep.new.equations.items c.sweep.new.columns) c.requires.columns.each c.in_ok-stored.ensures.columns)

pub returns-in_err-stored-clause-pivoted : goal.returns-in_err-stored-clause-pivoted
returns-in_err-stored-clause-pivoted c =
    let first = (goal.at.returns-in_err-stored-clause-pivoted c).After-sweep in
    let fault = err_from_is_err_and c.from_residual-in_err-stored.result c.from_residual-in_err-stored.ensures.1 in
    rw (fault.1, fault.2)
    (Makes-err c.in_err-stored.field-0.0 (sweep_from c.in_ok-turned.turned c.args.leaving.position 0 c.args.stored c.self.inside.equations.items) (next_tableau c.args.self.now (leaving_at c.args.self.now.equations c.args.leaving) c.args.col)
    (next_tableau-sweep_fault c.args.self.now (leaving_at c.args.self.now.equations c.args.leaving) c.args.col c.args.stored c.in_ok-turned.turned c.self.inside.cost c.self.inside.equations.items (by_is first) c.requires.stored (ap (λ (t : Tableau). t.equations) c.self.view_is) (ap (λ (t : Tableau). t.cost) c.self.view_is))
    c.in_err-stored.ensures.swept)

pub returns-in_err-count-clause-pivoted : goal.returns-in_err-count-clause-pivoted
returns-in_err-count-clause-pivoted c =
    let first = (goal.at.returns-in_err-count-clause-pivoted c).After-sweep in
    let fault = err_from_is_err_and c.from_residual-in_err-count.result c.from_residual-in_err-count.ensures.1 in
    rw (fault.1, fault.2)
    (Makes-err c.in_err-count.field-0.0 (treatment c.in_ok-turned.turned c.in_ok-stored.stored c.self.inside.cost) (next_tableau c.args.self.now (leaving_at c.args.self.now.equations c.args.leaving) c.args.col)
    (λ why h. next_tableau-cost_fault c.args.self.now (leaving_at c.args.self.now.equations c.args.leaving) c.args.col c.args.stored c.in_ok-turned.turned c.self.inside.cost c.self.inside.equations.items (by_is first) c.requires.stored (ap (λ (t : Tableau). t.equations) c.self.view_is) (ap (λ (t : Tableau). t.cost) c.self.view_is) (slice_set c.sweep.new.equations.items c.args.leaving.position c.in_ok-turned.turned) c.in_ok-stored.stored why c.in_ok-stored.ensures.swept h)
    c.in_err-count.ensures.treated)

pub returns-clause-pivoted : goal.returns-clause-pivoted
returns-clause-pivoted c =
    let first = (goal.at.returns-clause-pivoted c).After-sweep in
    next_tableau-whole c.args.self.now (leaving_at c.args.self.now.equations c.args.leaving) c.args.col c.args.stored c.in_ok-turned.turned c.self.inside.cost c.self.inside.equations.items (by_is first) c.requires.stored (ap (λ (t : Tableau). t.equations) c.self.view_is) (ap (λ (t : Tableau). t.cost) c.self.view_is) (slice_set c.sweep.new.equations.items c.args.leaving.position c.in_ok-turned.turned) c.in_ok-stored.stored c.in_ok-count.count c.treat_cost.new.cost (slice_set c.self.inside.at_high.items c.basic-basic.result (not c.args.leaving.below))
    c.in_ok-stored.ensures.swept c.in_ok-count.ensures.treated
    (ap (λ (t : Tableau). slice_set t.at_high c.basic-basic.result (not c.args.leaving.below)) c.self.view_is
    ∙ ap (λ b. slice_set c.args.self.now.at_high b (not c.args.leaving.below)) (c.basic-basic.ensures.value ∙ ap (λ (e : Equation). e.basic) (leaving_is first)))
