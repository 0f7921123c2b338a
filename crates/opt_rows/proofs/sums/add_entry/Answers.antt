use Rattle.std.proofs.Common.{List, ℕ, ℤ, ap, ◌∙◌, arith}
use Rattle.std.proofs.lemmas.Int.{ints}
use Rattle.opt_sums.specs.Entries.{coef}
use Rattle.opt_rows.proofs.MapSums.{sum_more, sorted_rising}
use Rattle.opt_rows.proofs.sums.add_entry.Goals as goal

pub returns-clause-added : goal.returns-clause-added
returns-clause-added c = λ k.
    ap (λ (es : List (ℕ × ℤ)). coef es k) c.in_ok-insert.ensures.entries
    ∙ sum_more c.args.sums.now.entries c.args.entry.now.0 _ c.args.entry.now.1 k (sorted_rising c.args.sums.now.entries c.requires.ordered) (omega (arith, ints, c.sum_at-before.ensures))
