use Rattle.std.proofs.Common.{ap, sym, ◌∙◌}
use Rattle.std.specs.Option.{option_map}
use Rattle.opt_cert.specs.Forms.{two}
use Rattle.opt_cert.specs.Judging.{pair}
use Rattle.opt_cert.proofs.EntryLemmas.{entry_halved}
use Rattle.opt_cert.proofs.entries.entry.Goals as goal

pub returns : goal.returns
returns c =
    let halves = ap two (sym c.new.ensures.parts) ∙ sym c.two.ensures ∙ ap (option_map (λ p. (p.0.now, p.1.now))) c.in-Some.is in
    c.both.ensures ∙ ap (λ r. pair r c.value_of_kind.result) c.number.ensures ∙ ap (pair _) c.value_of_kind.ensures
    ∙ entry_halved c.args.kind c.args.word.now c.in-Some.first.now c.in-Some.second.now halves
