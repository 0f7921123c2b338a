use Rattle.std.proofs.Common.{rules, arith}
use Rattle.std.proofs.lemmas.Grind.{common_steps}
use Rattle.opt_tables.proofs.GotFiles.{GetsEach-next}
use Rattle.opt_tables.proofs.fetching.fetch_each.Goals as goal

pub loop-file-preserved : goal.loop-file-preserved
loop-file-preserved g c = record {
  whole = first_of (search rules, grind (arith, common_steps));
  same = first_of (search rules, grind (arith, common_steps));
  taken = rw c.hold.ensures (GetsEach-next _ _ _ _ _ _ c.loop-file-test.true c.loop-file.invariant.taken c.in_ok-held.ensures.each);
  later = first_of (search rules, omega arith);
}
