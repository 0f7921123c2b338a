use Rattle.std.proofs.Common.{◌≡◌, ◌+◌, sym, arith}
use Rattle.csv.proofs.RecordFacts.{prev-first, prev-next}
use Rattle.opt_read.proofs.field_list.start.Goals as goal

pub returns-in-Some : goal.returns-in-Some
returns-in-Some c =
    let index : c.args.index ≡ c.in-Some.before + 1 = omega arith in
    rw index (sym (prev-next 0 c.args.ends.now c.in-Some.before 0 (omega arith)))

pub returns-in-None : goal.returns-in-None
returns-in-None c =
    let index : c.args.index ≡ 0 = omega arith in
    rw index (sym (prev-first c.args.ends.now))
