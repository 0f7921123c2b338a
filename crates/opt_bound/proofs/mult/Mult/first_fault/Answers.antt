use Rattle.std.proofs.Common.{◌≡◌, Some, pos, ap, sym, ◌∙◌}
use Rattle.opt_bound.specs.declared.fault.EntryFault.{EntryFault}
use Rattle.opt_bound.specs.Multipliers.{Multipliers}
use Rattle.opt_bound.specs.Faults.{first_fault_of}
use Rattle.opt_bound.proofs.FaultLemmas.{no_fault_more, first_fault_at, some_of, none_of}
use Rattle.opt_bound.proofs.mult.Mult.first_fault.Goals as goal

-- the entries that are gone over are those of the multipliers
same : (c : goal.Then-is_some) → c.as_slice-entry-items.result.now ≡ c.args.self.now.entries
same c = c.as_slice-entry-items.ensures.value ∙ ap (λ (m : Multipliers). m.entries) c.self.view_is

pub returns-then-is_some : goal.returns-then-is_some
returns-then-is_some c =
    let found : (f : EntryFault) × (c.entry_fault-fault.result ≡ Some f) = some_of c.entry_fault-fault.result (sym c.is_some.ensures ∙ c.if-is_some.true) in
    found.1
    ∙ sym (first_fault_at c.args.system.now c.as_slice-entry-items.result.now c.loop-entry.entry-index (0, pos 0) found.0 c.loop-entry-test.true c.loop-entry.invariant (sym c.entry_fault-fault.ensures ∙ found.1))
    ∙ ap (first_fault_of c.args.system.now) (same c)

pub loop-entry-preserved : goal.loop-entry-preserved
loop-entry-preserved c =
    no_fault_more c.args.system.now c.as_slice-entry-items.result.now c.loop-entry.entry-index (0, pos 0) c.loop-entry-test.true c.loop-entry.invariant
    (sym c.entry_fault-fault.ensures ∙ none_of c.entry_fault-fault.result (sym c.is_some.ensures ∙ c.if-is_some.false))
