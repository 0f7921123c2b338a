use Rattle.std.proofs.Common.{◌≡◌, ◌+◌, ◌==◌, ◌∷◌, ◌++◌, length, take, drop, Some, ap, sym, ◌∙◌, arith}
use Rattle.std.specs.List.{position}
use Rattle.std.proofs.lemmas.Slice.{between_to_end}
use Rattle.opt_cert.specs.Numbers.{pieces}
use Rattle.opt_cert.proofs.PiecesLemmas.{pieces_none, pieces_some, pieces_whole}
use Rattle.opt_cert.proofs.pieces.cut.Goals as goal

pub returns-in-Some-clause-parts : goal.returns-in-Some-clause-parts
returns-in-Some-clause-parts c =
    let text = c.args.text.now in
    let at = c.in-Some.at in
    pieces_some (λ b. b == c.args.separator) text at (sym c.place_of.ensures ∙ c.in-Some.is)
    ∙ ap (λ rest. take at text ∷ pieces c.args.separator rest) (sym (between_to_end text (at + 1) (length text) (omega arith)))

pub returns-in-Some-clause-whole : goal.returns-in-Some-clause-whole
returns-in-Some-clause-whole c =
    let text = c.args.text.now in
    let at = c.in-Some.at in
    pieces_whole c.args.separator text at (sym c.place_of.ensures ∙ c.in-Some.is)
    ∙ ap (λ rest. take at text ++ c.args.separator ∷ rest) (sym (between_to_end text (at + 1) (length text) (omega arith)))

pub returns-in-None-clause-parts : goal.returns-in-None-clause-parts
returns-in-None-clause-parts c =
    pieces_none (λ b. b == c.args.separator) c.args.text.now (sym c.place_of.ensures ∙ c.in-None.is)
