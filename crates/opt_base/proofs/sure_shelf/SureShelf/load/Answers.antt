-- The text has the path's bytes, so `insert` wrote the path.
use Rattle.opt_base.proofs.Written.{files_written}
use Rattle.opt_base.proofs.sure_shelf.SureShelf.load.Goals as goal

pub returns-clause-ok : goal.returns-clause-ok
returns-clause-ok c =
    files_written (λ bytes. bytes.items) c.args.path.now c.args.bytes.now c.args.self.now.entries c.insert.new.self
    c.in_ok-path.path c.in_ok-content.content c.in_ok-path.ensures.ok c.in_ok-content.ensures.items c.in_ok-insert.ensures.updates
