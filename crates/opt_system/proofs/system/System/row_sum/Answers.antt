use Rattle.std.proofs.Common.{◌≡◌, ap, ◌∙◌}
use Rattle.std.proofs.lemmas.List.{get_or_read}
use Rattle.opt_system.specs.declared.rows.Row.{Row}
use Rattle.opt_system.specs.Systems.{System, IsLimited, row_at}
use Rattle.opt_system.proofs.LimitLemmas.{terms_small, few_terms_of}
use Rattle.opt_system.proofs.system.System.row_sum.Goals as goal

limited : (c : goal.After-as_slice) → IsLimited c.args.self.now
limited c = rw (← c.self.view_is) c.self.invariant.limited

same : (c : goal.After-as_slice) → c.as_slice.result.now ≡ (row_at c.args.self.now.rows c.args.i).terms
same c =
    let view : c.self.inside.rows.items ≡ c.args.self.now.rows = ap (λ (p : System). p.rows) c.self.view_is in
    c.as_slice.ensures
    ∙ ap (λ (r : Row). r.terms) (get_or_read c.self.inside.rows.items c.args.i c.index-row.result.now (rw view c.requires.row) c.index-row.ensures _ ∙ ap (λ rows. row_at rows c.args.i) view)

pub sum_of_terms-requires-clause-small : goal.sum_of_terms-requires-clause-small
sum_of_terms-requires-clause-small c =
    rw (same c) (terms_small c.args.self.now c.args.x.now c.args.i (limited c) c.requires.in_range c.requires.row)

pub sum_of_terms-requires-clause-few : goal.sum_of_terms-requires-clause-few
sum_of_terms-requires-clause-few c =
    rw (same c) (few_terms_of c.args.self.now.rows c.args.self.now.root c.args.self.now.cost (limited c).small (limited c).even c.args.i _ c.requires.row)
