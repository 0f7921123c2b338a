use Rattle.std.proofs.Common.{◌≡◌, ◌≢◌, ◌++◌, ◌∙◌, [], Ok, ap, sym, subst, arith, length, get_or}
use Rattle.csv.specs.Records.{fields_of}
use Rattle.opt_read.proofs.BodyLemmas.{EvenBelow, all-fields, even-more, even-read, fields-more, head-left, none-left, uneven-refused}
use Rattle.opt_read.specs.Grid.{fields_at}
use Rattle.opt_read.proofs.csv_table.read_body.Goals as goal

pub returns-then-len-width : goal.returns-then-len-width
returns-then-len-width c =
    let next = rw c.if-branch.true at c.in_ok-next.ensures in
    let head = head-left c.args.rows.now c.loop-row.count (fields_of c.next.new.row) c.next.new.self (sym c.loop-row.invariant.rest ∙ next.0) in
    let uneven : length (get_or c.args.rows.now c.loop-row.count []) ≢ c.args.width = rw (head.first [], ← c.len.ensures) c.if-len-width.true in
    rw c.of_record.ensures (uneven-refused c.args.file c.args.width c.args.rows.now c.args.places.now c.loop-row.count c.loop-row.invariant.even head.within uneven)

pub loop-row-preserved : goal.loop-row-preserved
loop-row-preserved c =
    let next = rw c.if-branch.true at c.in_ok-next.ensures in
    let head = head-left c.args.rows.now c.loop-row.count (fields_of c.next.new.row) c.next.new.self (sym c.loop-row.invariant.rest ∙ next.0) in
    let even : length (get_or c.args.rows.now c.loop-row.count []) ≡ c.args.width = rw (head.first [], ← c.len.ensures) c.if-len-width.false in
    let places = c.args.places.now in
    let more = fields-more places c.args.rows.now c.loop-row.count [] head.within in
    record {
      rest = head.rest;
      within = omega (arith, head.within);
      even = even-more c.args.width c.args.rows.now c.loop-row.count c.loop-row.invariant.even even;
      fields =
          c.in_ok-add_fields.ensures
          ∙ (ap (λ front. front ++ fields_at places (fields_of c.next.new.row)) c.loop-row.invariant.fields ∙ sym (rw (head.first []) at more));
    }

pub new-requires : goal.new-requires
new-requires c =
    let next = rw c.if-branch.false at c.in_ok-next.ensures in
    let counted = none-left c.args.rows.now c.loop-row.count [] c.loop-row.invariant.within (sym c.loop-row.invariant.rest ∙ next.0) in
    let all = all-fields c.args.places.now c.args.rows.now c.loop-row.count c.loop-row.fields counted c.loop-row.invariant.fields in
    record { width_is = omega arith; all = all.0 }

pub returns : goal.returns
returns c =
    let next = rw c.if-branch.false at c.in_ok-next.ensures in
    let counted = none-left c.args.rows.now c.loop-row.count [] c.loop-row.invariant.within (sym c.loop-row.invariant.rest ∙ next.0) in
    let places = c.args.places.now in
    let all = all-fields places c.args.rows.now c.loop-row.count c.loop-row.fields counted c.loop-row.invariant.fields in
    let even : EvenBelow c.args.width c.args.rows.now (length c.args.rows.now) = subst (EvenBelow c.args.width c.args.rows.now) counted c.loop-row.invariant.even in
    rw c.new.ensures (even-read c.args.file c.args.width c.args.rows.now places even ∙ ap Ok (sym all.1))
