use Rattle.std.proofs.Common.{◌≡◌, ◌≤◌, Some, drop, take}
use Rattle.opt_base.specs.Answers.{each}
use Rattle.opt_base.specs.Outside.{Files}
use Rattle.opt_tables.specs.Fetched.{with_got, GetsEach}
use Rattle.opt_tables.proofs.fetching.fetch_each.Given as goal

-- the files so far and those that are left are all
abbrev pub invariant-loop-file : goal.invariant-loop-file
invariant-loop-file g l =
    record {
      whole : (held : Files) → g.S.Shelf.files l.fn.shelf ≡ Some held → each (with_got held l.folder) l.file-index l.files (drop l.file-index l.order) ≡ each (with_got held l.folder) 0 l.fn.files l.order;
      same : g.S.Shelf.files l.shelf ≡ g.S.Shelf.files l.fn.shelf;
      taken : GetsEach (take l.file-index l.order) l.fn.files l.files;
      later : g.S.Shelf.count l.fn.shelf ≤ g.S.Shelf.count l.shelf;
    }
