use Rattle.opt_cert.proofs.PiecesLemmas.{length-pieces}
use Rattle.opt_cert.proofs.pieces.Pieces.new.Goals as goal

pub returns-clause-few : goal.returns-clause-few
returns-clause-few c = length-pieces c.args.separator c.args.text.now
