use Rattle.std.proofs.Common.{◌^◌, ◌<◌, ℕ, ℤ, List, unsigned_abs, sym, ◌∙◌, subst}
use Rattle.opt_rows.specs.Gathering.{AreGathered}
use Rattle.opt_rows.proofs.MapSums.{sorted_rising, short_entries, some_rising, some_no_zero, some_same}
use Rattle.opt_rows.proofs.sums.gather.Goals as goal

pub terms_of-requires : goal.terms_of-requires
terms_of-requires c =
    short_entries c.in_ok-sums.sums.entries (2 ^ 63) (sorted_rising c.in_ok-sums.sums.entries c.in_ok-sums.ensures.ordered)
    (λ k. subst (λ (z : ℤ). unsigned_abs z < 2 ^ 63) (sym (c.in_ok-sums.ensures.sums k)) (c.requires k))

pub returns : goal.returns
returns c =
    let sums : List (ℕ × ℤ) = c.in_ok-sums.sums.entries in
    let rising = sorted_rising sums c.in_ok-sums.ensures.ordered in
    subst (AreGathered c.args.entries.now) (sym c.in_ok-terms_of.ensures) (record {
      rising = some_rising sums rising;
      no_zero = some_no_zero sums rising;
      same = λ k. some_same sums rising k ∙ c.in_ok-sums.ensures.sums k;
    })
