use Rattle.std.proofs.Common.{◌≡◌, ◌≤◌, length, ap, sym, subst, ◌∙◌, arith}
use Rattle.opt_sums.specs.Entries.{IsRising, AllBelow}
use Rattle.opt_sums.proofs.RisingLemmas.{length-rising}
use Rattle.opt_simplex.specs.Tableau.{Tableau}
use Rattle.opt_simplex.proofs.tableau.Tableau.stored.Goals as goal

pub returns-clause-few : goal.returns-clause-few
returns-clause-few c =
    let same : c.terms.result.now ≡ c.args.self.now.cost.terms = c.terms.ensures.value ∙ ap (λ (t : Tableau). t.cost.terms) c.self.view_is in
    let short : length c.terms.result.now ≤ length c.args.self.now.at_high =
    length-rising (length c.args.self.now.at_high) c.terms.result.now (subst IsRising (sym c.terms.ensures.value) c.terms.ensures.reduced.solved.rising)
    (subst (AllBelow (length c.args.self.now.at_high)) (sym same) c.requires.shaped.cost) in
    omega (arith, short, c.requires.few, c.count_terms.ensures.few)
