use Rattle.std.proofs.Common.{◌≡◌}
use Rattle.opt_tables.specs.Files.{path_of}
use Rattle.optimus.proofs.Folders.{brings_file, found_within}
use Rattle.optimus.proofs.folder.find.Goals as goal

pub returns-in-Ok-clause-found : goal.returns-in-Ok-clause-found
returns-in-Ok-clause-found g c =
    let at : c.as_str.result.now ≡ path_of c.args.folder.now c.args.file = cc (c.in_ok-path.ensures) in
    brings_file (g.S.Shelf.files c.args.shelf.now) c.args.folder.now c.args.file c.args.most c.as_str.result.now at c.in-Ok.found c.needed.result
    c.in-Ok.ensures.found c.in-Ok.ensures.at_most (λ bytes is. c.needed.ensures.exact c.args.most bytes is)

pub returns-in-Ok-clause-at_most : goal.returns-in-Ok-clause-at_most
returns-in-Ok-clause-at_most g c =
    found_within (g.S.Shelf.files c.args.shelf.now) c.args.folder.now c.args.file c.args.most c.needed.result (returns-in-Ok-clause-found g c)

pub returns-in-Ok-clause-cause : goal.returns-in-Ok-clause-cause
returns-in-Ok-clause-cause g c = record { later = c.in-Ok.ensures.cause.later; cause = λ e. absurd (c.needed.ensures.inside e) }
