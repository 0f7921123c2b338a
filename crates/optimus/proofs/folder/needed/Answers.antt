use Rattle.std.proofs.Common.{Err, ap, sym, ◌∙◌}
use Rattle.optimus.proofs.Folders.{needed_bytes, needed_missing, needed_too_big}
use Rattle.optimus.proofs.folder.needed.Goals as goal

pub returns-in-Bytes-clause-exact : goal.returns-in-Bytes-clause-exact
returns-in-Bytes-clause-exact c = λ most held is. needed_bytes c.args.file most held c.in-Bytes.bytes (sym c.in-Bytes.is ∙ is)

pub returns-in-Missing-clause-exact : goal.returns-in-Missing-clause-exact
returns-in-Missing-clause-exact c = λ most held is.
    needed_missing c.args.file most held (sym c.in-Missing.is ∙ is) ∙ ap Err (sym c.of_file.ensures)

pub returns-in-TooBig-clause-exact : goal.returns-in-TooBig-clause-exact
returns-in-TooBig-clause-exact c = λ most held is.
    needed_too_big c.args.file most held (sym c.in-TooBig.is ∙ is) ∙ ap Err (sym c.of_file-in-TooBig.ensures)
