use Rattle.std.specs.Prelude.{string_bytes}
use Rattle.opt_read.proofs.FieldLemmas.{ends-none, fields-none}
use Rattle.opt_read.proofs.field_list.FieldList.new.Goals as goal

pub invariant_of-result : goal.invariant_of-result
invariant_of-result c = rw (c.new.ensures.bytes, c.new-2.ensures.items) ends-none

pub returns : goal.returns
returns c = rw c.new-2.ensures.items (fields-none (string_bytes c.new.result))
