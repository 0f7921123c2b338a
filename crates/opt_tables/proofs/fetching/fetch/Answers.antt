use Rattle.opt_tables.proofs.Folders.{all_got-fetch}
use Rattle.opt_tables.proofs.GotFiles.{admitted_if}
use Rattle.opt_tables.proofs.fetching.fetch.Goals as goal

pub returns-clause-found : goal.returns-clause-found
returns-clause-found g c = λ held told. rw (all_got-fetch held c.args.folder.now) (c.fetch_all.ensures.told held told)

pub returns-clause-admitted : goal.returns-clause-admitted
returns-clause-admitted g c = admitted_if c.fetch_all.result c.fetch_all.ensures.each
