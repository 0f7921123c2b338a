use Rattle.std.proofs.Common.{◌≡◌, false, true, cond, Ok, Err, sym, ap, ◌∙◌, subst}
use Rattle.opt_sums.specs.Entries.{IsRising}
use Rattle.opt_cert.specs.declared.line_fault.LineFault.TheVariants.{Order}
use Rattle.opt_cert.specs.Ranges.{rises_from}
use Rattle.opt_cert.specs.Judging.{ordered}
use Rattle.opt_cert.proofs.RangeLemmas.{entries_proper, falls, rises-IsRising}
use Rattle.opt_cert.proofs.line.point.Goals as goal

pub returns-then-not-is_rising : goal.returns-then-not-is_rising
returns-then-not-is_rising c =
    let items = c.in_ok-entries.entries.items in
    ap (ordered (rises_from 0)) c.in_ok-entries.ensures
    ∙ ap (λ b. cond b (Ok items) (Err Order)) (falls items (λ h. let t = c.is_rising.ensures.1 (subst IsRising (sym c.deref.ensures.value) h) in cc))

pub new-requires : goal.new-requires
new-requires c =
    let items = c.in_ok-entries.entries.items in
    entries_proper c.args.words items c.in_ok-entries.ensures (subst IsRising c.deref.ensures.value (c.is_rising.ensures.0 c.if-not-is_rising.false))

pub returns : goal.returns
returns c =
    let items = c.in_ok-entries.entries.items in
    let rising : IsRising items = subst IsRising c.deref.ensures.value (c.is_rising.ensures.0 c.if-not-is_rising.false) in
    ap (ordered (rises_from 0)) c.in_ok-entries.ensures
    ∙ ap (λ b. cond b (Ok items) (Err Order)) (rises-IsRising items rising)
    ∙ ap Ok (sym c.new.ensures)
