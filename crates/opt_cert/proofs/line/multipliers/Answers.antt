use Rattle.std.proofs.Common.{◌≡◌, false, true, cond, Ok, Err, sym, ap, ◌∙◌, subst, rules}
use mir.Syntax.{w64}
use mir.Val.{SFits}
use Rattle.std.proofs.lemmas.Int.{to_z-of_z}
use Rattle.opt_sums.specs.Entries.{IsRising}
use Rattle.opt_bound.specs.Multipliers.{IsProper}
use Rattle.opt_cert.specs.declared.line_fault.LineFault.TheVariants.{Order}
use Rattle.opt_cert.specs.Forms.{multipliers}
use Rattle.opt_cert.specs.Ranges.{rises_from}
use Rattle.opt_cert.proofs.PiecesLemmas.{gave_some}
use Rattle.opt_cert.proofs.JudgeLemmas.{pair_ok, tells_ok}
use Rattle.opt_cert.proofs.RangeLemmas.{multipliers_read, multipliers_proper, falls, rises-IsRising}
use Rattle.opt_cert.proofs.line.multipliers.Goals as goal

pub returns-then-not-is_rising : goal.returns-then-not-is_rising
returns-then-not-is_rising c =
    let words = gave_some c.next.result c.args.words c.next.new.self c.in-Some.word c.next.ensures c.in-Some.is in
    let parts = pair_ok c.multiplier.result c.entries.result c.in_ok-q.q c.in_ok-q.entries (sym c.both.ensures ∙ c.in_ok-q.was) in
    let items = c.in_ok-q.entries.items in
    let read = multipliers_read c.args.words c.in-Some.word.now c.next.new.self c.in_ok-q.q items words (sym c.multiplier.ensures ∙ parts.0) (tells_ok (λ v. v.items) c.entries.result _ c.in_ok-q.entries c.entries.ensures parts.1) in
    read ∙ ap (λ b. cond b (Ok (multipliers c.in_ok-q.q items)) (Err Order)) (falls items (λ h. let t = c.is_rising.ensures.1 (subst IsRising (sym c.deref.ensures.value) h) in cc))

pub new-requires : goal.new-requires
new-requires c =
    let parts = pair_ok c.multiplier.result c.entries.result c.in_ok-q.q c.in_ok-q.entries (sym c.both.ensures ∙ c.in_ok-q.was) in
    let items = c.in_ok-q.entries.items in
    let fits : SFits w64 c.in_ok-q.q = search rules in
    let rising : IsRising items = subst IsRising c.deref.ensures.value (c.is_rising.ensures.0 c.if-not-is_rising.false) in
    let proper = multipliers_proper c.in-Some.word.now c.next.new.self c.in_ok-q.q items (sym c.multiplier.ensures ∙ parts.0) (tells_ok (λ v. v.items) c.entries.result _ c.in_ok-q.entries c.entries.ensures parts.1) rising in
    subst IsProper (ap (λ z. multipliers z items) (sym (to_z-of_z w64 c.in_ok-q.q fits)) ∙ ap (multipliers _) (sym c.deref-2.ensures.value)) proper.proper

pub returns : goal.returns
returns c =
    let words = gave_some c.next.result c.args.words c.next.new.self c.in-Some.word c.next.ensures c.in-Some.is in
    let parts = pair_ok c.multiplier.result c.entries.result c.in_ok-q.q c.in_ok-q.entries (sym c.both.ensures ∙ c.in_ok-q.was) in
    let items = c.in_ok-q.entries.items in
    let fits : SFits w64 c.in_ok-q.q = search rules in
    let rising : IsRising items = subst IsRising c.deref.ensures.value (c.is_rising.ensures.0 c.if-not-is_rising.false) in
    let read = multipliers_read c.args.words c.in-Some.word.now c.next.new.self c.in_ok-q.q items words (sym c.multiplier.ensures ∙ parts.0) (tells_ok (λ v. v.items) c.entries.result _ c.in_ok-q.entries c.entries.ensures parts.1) in
    read
    ∙ ap (λ b. cond b (Ok (multipliers c.in_ok-q.q items)) (Err Order)) (rises-IsRising items rising)
    ∙ ap Ok (ap (λ z. multipliers z items) (sym (to_z-of_z w64 c.in_ok-q.q fits)) ∙ ap (multipliers _) (sym c.deref-2.ensures.value) ∙ sym c.in_ok-new.ensures)
