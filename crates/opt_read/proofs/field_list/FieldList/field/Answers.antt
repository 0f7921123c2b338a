use Rattle.std.proofs.Common.{◌≡◌, ◌<◌, ◌∙◌, sym, arith, length, get_or}
use Rattle.std.proofs.lemmas.List.{get_or_default}
use Rattle.std.specs.Prelude.{string_bytes}
use Rattle.csv.specs.Records.{prev}
use Rattle.csv.proofs.RecordFacts.{field-bounds}
use Rattle.opt_read.proofs.FieldLemmas.{field-is, no-field, start-cut}
use Rattle.opt_read.proofs.field_list.FieldList.field.Goals as goal

pub returns-then-index-len : goal.returns-then-index-len
returns-then-index-len c =
    rw (← c.self.view_is) (sym (no-field (string_bytes c.self.inside.text) c.self.inside.ends.items c.args.index (omega arith)))

pub range-requires-clause-start_le_end : goal.range-requires-clause-start_le_end
range-requires-clause-start_le_end c =
    let within : c.args.index < length c.self.inside.ends.items = omega arith in
    let start : c.start-start.result ≡ prev 0 c.self.inside.ends.items c.args.index = rw c.deref.ensures.value at c.start-start.ensures in
    let end : c.index.result.now ≡ get_or c.self.inside.ends.items c.args.index 0 =
    c.index.ensures ∙ get_or_default c.self.inside.ends.items c.args.index c.index.result.now 0 within in
    rw (start, end) (field-bounds 0 c.self.inside.ends.items (length (string_bytes c.self.inside.text)) c.args.index c.self.invariant.rising within).0

pub range-requires-clause-start_boundary : goal.range-requires-clause-start_boundary
range-requires-clause-start_boundary c =
    let within : c.args.index < length c.self.inside.ends.items = omega arith in
    let start : c.start-start.result ≡ prev 0 c.self.inside.ends.items c.args.index = rw c.deref.ensures.value at c.start-start.ensures in
    rw (start, c.deref-2.ensures) (start-cut (string_bytes c.self.inside.text) c.self.inside.ends.items c.args.index within c.self.invariant)

pub returns : goal.returns
returns c =
    let within : c.args.index < length c.self.inside.ends.items = omega arith in
    let start : c.start-start.result ≡ prev 0 c.self.inside.ends.items c.args.index = rw c.deref.ensures.value at c.start-start.ensures in
    let field = field-is (string_bytes c.self.inside.text) c.self.inside.ends.items c.args.index within in
    let end : c.index.result.now ≡ get_or c.self.inside.ends.items c.args.index 0 =
    c.index.ensures ∙ get_or_default c.self.inside.ends.items c.args.index c.index.result.now 0 within in
    rw (← c.self.view_is, c.range.ensures.value, start, c.deref-2.ensures, end) (sym field)
