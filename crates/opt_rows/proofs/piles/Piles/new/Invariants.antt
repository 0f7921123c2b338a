-- the piles so far
use Rattle.std.proofs.Common.{◌≡◌, [], replicate}
use Rattle.opt_rows.proofs.piles.Piles.new.Given as goal

abbrev pub invariant-loop : goal.invariant-loop
invariant-loop g l = l.piles.items ≡ replicate l.counter []
