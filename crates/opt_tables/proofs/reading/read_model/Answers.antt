use Rattle.opt_tables.proofs.ReadModel.{IsModel-read}
use Rattle.opt_tables.proofs.reading.read_model.Goals as goal

pub new-requires : goal.new-requires
new-requires c = IsModel-read c.args.files.now c.in_ok-records.records c.in_ok-records.ensures
