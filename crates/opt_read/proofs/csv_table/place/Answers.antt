use Rattle.opt_read.proofs.GridLemmas.{place-missing, place-once, place-twice}
use Rattle.opt_read.proofs.csv_table.place.Goals as goal

pub returns-in-None : goal.returns-in-None
returns-in-None c = rw (← c.as_bytes-name.ensures.value, c.at.ensures) (place-missing c.args.file c.args.header.now c.args.column c.as_bytes-name.result.now c.in-None.ensures)

pub returns-then-times-eq1 : goal.returns-then-times-eq1
returns-then-times-eq1 c = rw (← c.as_bytes-name.ensures.value) (place-once c.args.file c.args.header.now c.args.column c.as_bytes-name.result.now c.in-Some.place c.times.result c.in-Some.ensures c.times.ensures c.if-times-eq1.true)

pub returns-else-times-eq1 : goal.returns-else-times-eq1
returns-else-times-eq1 c = rw (← c.as_bytes-name.ensures.value, c.at-else-times-eq1.ensures) (place-twice c.args.file c.args.header.now c.args.column c.as_bytes-name.result.now c.in-Some.place c.times.result c.in-Some.ensures c.times.ensures c.if-times-eq1.false)
