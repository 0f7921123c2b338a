use Rattle.opt_tables.specs.Files.{ModelFiles}
use Rattle.opt_tables.proofs.GotFiles.{IsGot-err}
use Rattle.opt_tables.proofs.fetching.fetch_all.Goals as goal

pub returns-in-Err-clause-told : goal.returns-in-Err-clause-told
returns-in-Err-clause-told g c = λ held told.
    IsGot-err {X = Unit {0}} (λ _. c.fetch_each.new.files) (λ (files : ModelFiles). files) c.in-Err.fault _ (rw c.new-files.ensures at c.in-Err.ensures.told held told)
