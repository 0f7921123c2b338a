-- the baskets so far
use Rattle.std.proofs.Common.{◌≡◌, ◌*◌, ◌^◌, ◌≤ℤ◌, ◌∷◌, [], pos, take}
use Rattle.opt_model.specs.Tables.{heads_at}
use Rattle.opt_model.specs.Quantities.{over, sum_over}
use Rattle.opt_network.proofs.fed.all_heads.Given as goal

abbrev pub invariant-loop-basket : goal.invariant-loop-basket
invariant-loop-basket l = record {
  sum : l.heads ≡ sum_over (over (take l.basket l.tables.baskets) λ b _. b ∷ []) (λ b. heads_at l.tables l.place b l.month);
  low : pos 0 ≤ℤ l.heads;
  high : l.heads ≤ℤ pos (10 ^ 7 * l.basket);
}
