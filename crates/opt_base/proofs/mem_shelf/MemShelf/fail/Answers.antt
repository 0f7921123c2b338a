use Rattle.std.proofs.Common.{ap, ◌∙◌, Some, option_map}
use Rattle.opt_base.specs.Outside.{without}
use Rattle.opt_base.proofs.Written.{without-written}
use Rattle.opt_base.proofs.mem_shelf.MemShelf.fail.Goals as goal

pub returns-in-Ok-clause-others : goal.returns-in-Ok-clause-others
returns-in-Ok-clause-others c = ap (option_map (without c.args.path.now)) c.in-Ok.ensures.ok ∙ ap Some (without-written c.args.path.now _ _)
