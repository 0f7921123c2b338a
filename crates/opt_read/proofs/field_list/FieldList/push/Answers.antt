use Rattle.std.proofs.Common.{◌≡◌, ◌+◌, arith, length}
use Rattle.std.specs.Prelude.{string_bytes}
use Rattle.opt_read.proofs.FieldLemmas.{ends-more, fields-push}
use Rattle.opt_read.proofs.field_list.FieldList.push.Goals as goal

pub invariant_of-self-2 : goal.invariant_of-self-2
invariant_of-self-2 c =
    let end : c.in-Ok.end ≡ length (string_bytes c.self.inside.text) + length c.args.field.now = omega arith in
    rw (c.push_reserved.ensures.items, c.in_ok-push_str.ensures.bytes, c.in_ok-reserve.ensures.items)
    (ends-more (string_bytes c.self.inside.text) c.self.inside.ends.items c.args.field.now c.in-Ok.end c.utf8.field end c.self.invariant)

pub returns : goal.returns
returns c =
    let end : c.in-Ok.end ≡ length (string_bytes c.self.inside.text) + length c.args.field.now = omega arith in
    rw (← c.self.view_is, c.push_reserved.ensures.items, c.in_ok-push_str.ensures.bytes, c.in_ok-reserve.ensures.items)
    (fields-push (string_bytes c.self.inside.text) c.self.inside.ends.items c.args.field.now c.in-Ok.end end c.self.invariant)
