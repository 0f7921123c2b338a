use Rattle.std.proofs.Common.{◌≡◌, pos, ◌∙◌, FitsSigned, to_z, of_z, rules}
use Rattle.std.proofs.lemmas.Int.{to_z-of_z}
use mir.Syntax.{w128}
use Rattle.std.specs.BTreeMap.{is_at}
use Rattle.std.specs.Map.{lookup}
use Rattle.std.specs.Option.{unwrap_or}
use Rattle.std.specs.Ordering.{nat_cmp}
use Rattle.opt_rows.proofs.MapSums.{found_sum, sorted_rising}
use Rattle.opt_rows.proofs.sums.sum_at.Goals as goal

pub returns : goal.returns
returns c =
    let e : c.unwrap_or.result ≡ unwrap_or (lookup (is_at (nat_cmp c.args.number)) c.args.sums.now.entries) (pos 0) = search rules in
    let fits : FitsSigned w128 c.unwrap_or.result = search rules in
    let same : to_z w128 (of_z w128 c.unwrap_or.result) ≡ c.unwrap_or.result = simp to_z-of_z in
    same ∙ e ∙ found_sum c.args.sums.now.entries c.args.number (sorted_rising c.args.sums.now.entries c.requires)
