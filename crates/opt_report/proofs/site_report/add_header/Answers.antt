use Rattle.opt_report.specs.Sites.{site_columns}
use Rattle.opt_report.proofs.site_report.add_header.Goals as goal

pub returns : goal.returns
unfolding site_columns
returns c = c.add_record.ensures
