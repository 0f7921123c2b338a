use Rattle.std.proofs.Common.{subst}
use Rattle.opt_cert.specs.Reading.{Reader, Tells, lines_left, text_lines}
use Rattle.opt_cert.specs.Texts.{lines_of}
use Rattle.opt_cert.proofs.WholeLaws.{told_text, told_answer, own_text, told_front, told_longer}
use Rattle.opt_cert.proofs.reading.read.Goals as goal

told : (c : goal.After-certificate) → Tells lines_of c.certificate.result (text_lines c.args.bytes.now)
told c = subst (λ (r : Reader). Tells lines_of c.certificate.result (lines_left r)) c.new-lines.ensures c.certificate.ensures.lines

pub returns-clause-text : goal.returns-clause-text
returns-clause-text c = told_text c.args.bytes.now c.certificate.result (told c)

pub returns-clause-back : goal.returns-clause-back
returns-clause-back c = λ d h. told_answer c.args.bytes.now c.certificate.result d (told c) h

pub returns-clause-own : goal.returns-clause-own
returns-clause-own c = own_text c.args.bytes.now

pub returns-clause-front : goal.returns-clause-front
returns-clause-front c = λ d h. told_front c.args.bytes.now c.certificate.result d (told c) h

pub returns-clause-longer : goal.returns-clause-longer
returns-clause-longer c = λ d h. told_longer c.args.bytes.now c.certificate.result d (told c) h
