use Rattle.std.proofs.Common.{◌≡◌, ◌≢◌, ◌-◌, ◌∷◌, false, Err, refl, sym, ap, ◌∙◌, arith}
use Rattle.opt_cert.proofs.EntryLemmas.{list_on-none_left, list_on-added, list_on-skipped, list_on-told}
use Rattle.opt_cert.proofs.entries.add_entry.Goals as goal

pub returns-then-list-eq0 : goal.returns-then-list-eq0
returns-then-list-eq0 c words = list_on-none_left c.args.kind c.args.list.now c.args.word.now words c.if-list-eq0.true

pub returns-in_ok-push-in-Ok : goal.returns-in_ok-push-in-Ok
returns-in_ok-push-in-Ok c words =
    let list = c.args.list.now in
    list_on-added c.args.kind list (record { left = list.left - 1; in_range = list.in_range; entries = c.push.new.self }) c.args.word.now words
    c.in-Ok.entry c.if-list-eq0.false refl refl c.in_ok-push-in-Ok.ensures.items (sym c.entry.ensures ∙ c.in-Ok.is)

pub returns-then-not-is_range : goal.returns-then-not-is_range
returns-then-not-is_range c words =
    list_on-told c.args.kind c.args.list.now c.args.word.now words c.in-Err.fault (sym c.entry.ensures ∙ c.in-Err.is) (λ e. let t = c.is_range.ensures.1 e in cc)

pub returns-else-not-is_range : goal.returns-else-not-is_range
returns-else-not-is_range c words =
    let list = c.args.list.now in
    list_on-skipped c.args.kind list (record { left = list.left - 1; in_range = false; entries = list.entries }) c.args.word.now words
    c.if-list-eq0.false refl refl (sym c.entry.ensures ∙ c.in-Err.is ∙ ap Err (c.is_range.ensures.0 c.if-not-is_range.false))
