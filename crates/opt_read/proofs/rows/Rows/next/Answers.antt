use Rattle.std.proofs.Common.{refl}
use Rattle.csv.specs.Records.{fields_of}
use Rattle.opt_read.proofs.RowLemmas.{found-next, found-none}
use Rattle.opt_read.proofs.rows.Rows.next.Goals as goal

pub invariant_of-self : goal.invariant_of-self
invariant_of-self c =
    let is = c.self.invariant c.if-self.false in
    let read = rw c.in-Ok-true.field-0-test at (c.in-Ok-true.ensures.reads is.plain is.ready) in
    λ _. (found-next c.self.inside.reader c.read_byte_record.new.self (fields_of c.read_byte_record.new.row) is read (c.in-Ok-true.ensures.ready is.plain) c.in-Ok-true.ensures.flexible).stays

pub returns-in-Ok-true : goal.returns-in-Ok-true
returns-in-Ok-true c =
    let is = c.self.invariant c.if-self.false in
    let read = rw c.in-Ok-true.field-0-test at (c.in-Ok-true.ensures.reads is.plain is.ready) in
    rw (← c.self.view_is, c.if-self.false)
    (found-next c.self.inside.reader c.read_byte_record.new.self (fields_of c.read_byte_record.new.row) is read (c.in-Ok-true.ensures.ready is.plain) c.in-Ok-true.ensures.flexible).next

pub returns-in-Ok-false : goal.returns-in-Ok-false
returns-in-Ok-false c =
    let is = c.self.invariant c.if-self.false in
    let read = rw c.in-Ok-false.field-0-test at (c.in-Ok-false.ensures.reads is.plain is.ready) in
    (rw (← c.self.view_is, c.if-self.false) (found-none c.self.inside.reader c.read_byte_record.new.self (fields_of c.read_byte_record.new.row) is read), refl)
