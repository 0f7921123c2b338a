use Rattle.std.proofs.Common.{◌≡◌, rules}
use Rattle.std.specs.Cmp.Lexicographic.{pointwise}
use Rattle.std.specs.Ordering.{int_eq}
use Rattle.std.proofs.lemmas.Bool.Decides.{Decides-at}
use Rattle.opt_system.specs.Equal.{numbers_eq-Decides}
use Rattle.opt_search.proofs.growth.is_one_point.Goals as goal

pub returns : goal.returns
returns c =
    let value : c.eq.result ≡ pointwise int_eq c.args.range.now.low c.args.range.now.high = search rules in
    Decides-at c.eq.result (pointwise int_eq c.args.range.now.low c.args.range.now.high) value (numbers_eq-Decides c.args.range.now.low c.args.range.now.high)
