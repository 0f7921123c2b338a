use Rattle.std.proofs.Common.{ap, ◌∙◌, Some, option_map}
use Rattle.opt_base.specs.Outside.{without}
use Rattle.opt_base.proofs.Written.{without-written}
use Rattle.opt_base.proofs.mem_shelf.MemShelfShelf.put.Goals as goal

pub returns-clause-others : goal.returns-clause-others
returns-clause-others c = ap (option_map (without c.args.path.now)) c.in_ok-load.ensures.ok ∙ ap Some (without-written c.args.path.now c.args.bytes.now _)

pub returns-then-next_fails-clause-others : goal.returns-then-next_fails-clause-others
returns-then-next_fails-clause-others c = c.fail.ensures.others
