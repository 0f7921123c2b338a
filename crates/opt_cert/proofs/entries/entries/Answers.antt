use Rattle.std.proofs.Common.{◌≡◌, ◌∷◌, ◌-◌, ◌^◌, [], min, true, length, Some, refl, sym, ap, ◌∙◌, arith}
use Rattle.opt_cert.specs.Kinds.{list_form, list_on}
use Rattle.opt_cert.proofs.JudgeLemmas.{tells_along, mapped_some}
use Rattle.opt_cert.proofs.EntryLemmas.{list_on-start}
use Rattle.opt_cert.proofs.PiecesLemmas.{gave_some}
use Rattle.opt_cert.specs.Numbers.{numeral}
use Rattle.opt_cert.proofs.entries.entries.Goals as goal

pub returns : goal.returns
returns c =
    let words = gave_some c.next.result c.args.words c.next.new.self c.in-Some.word c.next.ensures c.in-Some.is in
    let count = mapped_some (λ n. min n (2 ^ 128 - 1)) (numeral c.in-Some.word.now) c.in-Some-numeral.count (sym c.numeral.ensures ∙ c.in-Some-numeral.is) in
    let start = list_on-start c.args.kind (record { left = c.in-Some-numeral.count; in_range = true; entries = c.new.result }) c.in-Some.word.now count.0 c.next.new.self (omega (arith, ap length words)) count.1 count.2 refl c.new.ensures.items in
    tells_along (λ list. list.items) c.listed_entries.result _ _ (start ∙ ap (list_form c.args.kind) (sym words)) c.listed_entries.ensures
