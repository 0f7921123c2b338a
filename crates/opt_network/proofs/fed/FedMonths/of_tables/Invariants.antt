-- the records of persons so far
use Rattle.std.proofs.Common.{◌≡◌, ℕ, ◌*◌, ◌≤◌, length, take}
use Rattle.std.specs.List.{list_any}
use Rattle.opt_model.specs.declared.limits.TheConstants.{MONTH_LIMIT}
use Rattle.opt_network.specs.Fed.{is_marked}
use Rattle.opt_network.proofs.FedMarks.{names_some}
use Rattle.opt_network.proofs.fed.FedMonths.of_tables.Given as goal

abbrev pub invariant-loop-persons : goal.invariant-loop-persons
invariant-loop-persons l = record {
  size : length l.marks.items ≡ length l.tables.places * MONTH_LIMIT;
  marked : (place month : ℕ) → 1 ≤ month → month ≤ MONTH_LIMIT
      → is_marked l.marks.items place month ≡ list_any (names_some place month) (take l.persons-index l.tables.persons);
}
