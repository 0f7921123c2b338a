use Rattle.std.proofs.Common.{◌≡◌, to_z, of_z, List, [], ◌∷◌, ◌++◌, Option, Ok, arith, subst, ap, ◌∙◌}
use mir.Syntax.{w64}
use Rattle.std.proofs.lemmas.Int.{ints}
use Rattle.std.proofs.lemmas.Result.{err_from_is_err_and}
use Rattle.opt_base.specs.Answers.{◌>>=◌}
use Rattle.opt_tree.specs.Certificates.{Certificate}
use Rattle.opt_tree.specs.Shown.{shown}
use Rattle.opt_tree.specs.Trees.{node_count}
use Rattle.opt_cert.specs.declared.cert_line.CertLine.{CertLine}
use Rattle.opt_cert.specs.declared.cert_line.CertLine.TheVariants as line
use Rattle.opt_cert.specs.Reading.{text_lines, next_line}
use Rattle.opt_cert.specs.Texts.{lines_of}
use Rattle.opt_cert.specs.Wholes.{IsTextOf}
use Rattle.opt_check.specs.Bytes.{HasCertificate, IsOfShown, IsPassed, IsNext}
use Rattle.opt_check.specs.Progress.{first_progress, at_hand, answer_at, answer_of}
use Rattle.opt_check.proofs.BytesSteps.{take_lines, read_first, read_more, room_for_line, pieces_fewer, read_all, taken_all, read_fault}
use Rattle.opt_check.proofs.BytesShown.{has_certificate, lines_of_text, of_text, of_shown, answer_true, true_of_text, own_of_text, own_of_shown, fault_of_text, fault_of_shown, same_lines}
use Rattle.opt_check.proofs.bytes.check_bytes.Goals as goal

pub loop-progress-init : goal.loop-progress-init
loop-progress-init c = rw (c.new-lines.ensures, c.in_ok-progress.ensures) (read_first c.args.system.now _ c.args.bytes.now c.requires.few)

-- ---- a fault of the text
pub returns-in_err-line-clause-text : goal.returns-in_err-line-clause-text
returns-in_err-line-clause-text c =
    let p = err_from_is_err_and c.from_residual-in_err-line.result c.from_residual-in_err-line.ensures.1 in
    rw (p.1, p.2)
    (fault_of_text c.args.bytes.now c.in_err-line.field-0.0
    (read_fault c.args.system.now _ c.args.bytes.now c.loop-progress.lines c.loop-progress.held c.loop-progress.progress c.in_err-line.field-0.0 c.loop-progress.invariant c.in_err-line.ensures))

pub returns-in_err-line-clause-shown : goal.returns-in_err-line-clause-shown
returns-in_err-line-clause-shown c =
    λ d h.
    let p = err_from_is_err_and c.from_residual-in_err-line.result c.from_residual-in_err-line.ensures.1 in
    rw (p.1, p.2)
    (fault_of_shown c.args.bytes.now c.in_err-line.field-0.0 (lines_of d) (shown c.args.system.now c.args.gap c.args.limit d) (node_count d.tree)
    (read_fault c.args.system.now _ c.args.bytes.now c.loop-progress.lines c.loop-progress.held c.loop-progress.progress c.in_err-line.field-0.0 c.loop-progress.invariant c.in_err-line.ensures)
    (lines_of_text c.args.bytes.now d h))

pub returns-in_err-line-clause-own_fault : goal.returns-in_err-line-clause-own_fault
returns-in_err-line-clause-own_fault c =
    let p = err_from_is_err_and c.from_residual-in_err-line.result c.from_residual-in_err-line.ensures.1 in
    rw (p.1, p.2) (own_of_text c.in_err-line.field-0.0)

-- ---- one line more
passes : (c : goal.After-progress-in-Some-1) → IsPassed c.loop-progress.lines c.next_line.new.lines c.in-Some.line
passes c = subst (λ (o : Option CertLine). IsNext c.loop-progress.lines c.next_line.new.lines (Ok o)) c.in-Some.is c.in_ok-line.ensures

pub hold_line-requires-clause-within : goal.hold_line-requires-clause-within
hold_line-requires-clause-within c = c.loop-progress.invariant.within

pub hold_line-requires-clause-room : goal.hold_line-requires-clause-room
hold_line-requires-clause-room c =
    λ none. omega (arith, room_for_line c.args.system.now _ c.args.bytes.now c.loop-progress.lines c.loop-progress.held c.loop-progress.progress c.in-Some.line c.loop-progress.invariant (passes c).next none)

pub loop-progress-preserved : goal.loop-progress-preserved
loop-progress-preserved c =
    let passed : IsPassed c.loop-progress.lines c.next_line.new.lines c.in-Some.line =
    subst (λ (o : Option CertLine). IsNext c.loop-progress.lines c.next_line.new.lines (Ok o)) c.in-Some.is c.in_ok-line.ensures
    in
    read_more c.args.system.now _ c.args.bytes.now c.loop-progress.lines c.next_line.new.lines c.loop-progress.held c.in_ok-held.held c.loop-progress.progress c.hold_line.new.progress c.in-Some.line c.loop-progress.invariant passed c.in_ok-held.ensures.held c.in_ok-held.ensures.within c.in_ok-held.ensures.counted

pub loop-progress-smaller : goal.loop-progress-smaller
loop-progress-smaller c =
    pieces_fewer c.loop-progress.lines c.next_line.new.lines c.in-Some.line
    (subst (λ (o : Option CertLine). IsNext c.loop-progress.lines c.next_line.new.lines (Ok o)) c.in-Some.is c.in_ok-line.ensures)

-- ---- the end
last : (c : goal.After-drop-progress-6) → next_line c.loop-progress.lines ≡ Ok line.End
last c = subst (λ (o : Option CertLine). IsNext c.loop-progress.lines c.next_line.new.lines (Ok o)) c.in_default.is c.in_ok-line.ensures

read : (c : goal.After-drop-progress-6) → text_lines c.args.bytes.now ≡ Ok (c.loop-progress.invariant.done ++ line.End ∷ [])
read c = read_all c.args.system.now _ c.args.bytes.now c.loop-progress.lines c.loop-progress.held c.loop-progress.progress c.loop-progress.invariant (last c)

taken : (c : goal.After-drop-progress-6) (d : Certificate) → text_lines c.args.bytes.now ≡ Ok (lines_of d) → at_hand c.loop-progress.held c.loop-progress.progress ≡ take_lines c.args.system.now c.args.gap (lines_of d) (Ok (first_progress c.args.system.now))
taken c d right =
    let e : to_z w64 (of_z w64 c.args.gap) ≡ c.args.gap = omega (arith, ints) in
    taken_all c.args.system.now _ c.args.bytes.now c.loop-progress.lines c.loop-progress.held c.loop-progress.progress c.loop-progress.invariant
    ∙ ap (λ z. take_lines c.args.system.now z (c.loop-progress.invariant.done ++ line.End ∷ []) (Ok (first_progress c.args.system.now))) e
    ∙ ap (λ (l : List CertLine). take_lines c.args.system.now c.args.gap l (Ok (first_progress c.args.system.now))) (same_lines c.args.bytes.now (c.loop-progress.invariant.done ++ line.End ∷ []) (lines_of d) (read c) right)

-- the text's certificate
own : (c : goal.After-drop-progress-6) → HasCertificate c.args.bytes.now
own c = has_certificate c.args.bytes.now (c.loop-progress.invariant.done ++ line.End ∷ []) (read c)

shows : (c : goal.After-drop-progress-6) (d : Certificate) → IsTextOf d c.args.bytes.now → IsOfShown (answer_of c.args.limit c.loop-progress.progress c.loop-progress.held) (shown c.args.system.now c.args.gap c.args.limit d) (node_count d.tree)
shows c d h =
    of_shown c.args.system.now c.args.gap c.args.limit c.loop-progress.progress c.loop-progress.held d c.quantities-quantities.ensures.limited h.certificate (taken c d (lines_of_text c.args.bytes.now d h))

pub returns-clause-text : goal.returns-clause-text
returns-clause-text c =
    rw c.answer.ensures
    (of_text c.args.bytes.now (at_hand c.loop-progress.held c.loop-progress.progress >>= answer_at c.args.limit) (own c))

pub returns-clause-shown : goal.returns-clause-shown
returns-clause-shown c = λ d h. rw c.answer.ensures (shows c d h)

pub returns-clause-true_verdict : goal.returns-clause-true_verdict
returns-clause-true_verdict c =
    let h = own c in
    rw c.answer.ensures
    (true_of_text c.args.system.now c.args.gap c.args.bytes.now (answer_of c.args.limit c.loop-progress.progress c.loop-progress.held) h
    (answer_true c.args.system.now c.args.gap c.args.limit c.loop-progress.progress c.loop-progress.held h.certificate c.quantities-quantities.ensures.limited h.text.certificate (taken c h.certificate (lines_of_text c.args.bytes.now h.certificate h.text)) c.requires.gap_from_zero))

pub returns-clause-own_fault : goal.returns-clause-own_fault
returns-clause-own_fault c =
    let h = own c in
    rw c.answer.ensures
    (own_of_shown c.args.system.now c.args.gap c.args.limit h.certificate (answer_of c.args.limit c.loop-progress.progress c.loop-progress.held) (shows c h.certificate h.text))
