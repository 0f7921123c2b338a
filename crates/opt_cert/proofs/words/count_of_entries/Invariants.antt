use Rattle.std.proofs.Common.{◌≡◌, ◌+◌, ◌≤◌, length}
use Rattle.opt_tree.specs.Certificates.{entries_of}
use Rattle.opt_cert.proofs.WriteLemmas.{entries_on}
use Rattle.opt_cert.proofs.words.count_of_entries.Given as goal

abbrev pub invariant-loop-value : goal.invariant-loop-value
invariant-loop-value l = record {
  whole : l.count + length (entries_on l.values l.value-index) ≡ length (entries_of l.values);
  few : l.count ≤ l.value-index;
}
