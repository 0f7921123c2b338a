use Rattle.std.proofs.Common.{refl, arith}
use Rattle.opt_system.specs.Systems.{System}
use Rattle.opt_system.proofs.LimitLemmas.{IsStored-copies, few_terms_of, terms_in}
use Rattle.opt_system.proofs.system.System.from_rows.Goals as goal

pub term_count-terms-requires-clause-short : goal.term_count-terms-requires-clause-short
term_count-terms-requires-clause-short c =
    rw c.as_slice-rows.ensures.value (few_terms_of c.args.rows.now c.args.root.now c.args.costs.now c.requires c.as_slice-rows.ensures.even)

pub of_rows-requires-clause-named : goal.of_rows-requires-clause-named
of_rows-requires-clause-named c =
    rw c.as_slice-rows.ensures.value (terms_in c.args.rows.now c.args.root.now c.args.costs.now c.requires c.in_ok-root.ensures.ordered)

-- the system of the rows, root and costs that were passed
made : (c : goal.In_ok-costs) → System
made c = record { rows = c.as_slice-rows.result.now; root = c.in_ok-root.root; cost = c.args.costs.now }

pub invariant_of-result : goal.invariant_of-result
unfolding made
invariant_of-result c =
    IsStored-copies (made c) _ _ _ _ _ c.in_ok-rows.ensures refl c.in_ok-costs.ensures.items
    (record {
      even = rw c.as_slice-rows.ensures.value c.as_slice-rows.ensures.even;
      ordered = rw c.in_ok-root.ensures.copy c.in_ok-root.ensures.ordered;
      small = rw (c.as_slice-rows.ensures.value, c.in_ok-root.ensures.copy) c.requires;
      few_rows = c.if-rows-gt-ROW_LIMIT.false;
      few_terms = omega (arith, c.if-terms-gt-TERM_LIMIT.false, c.term_count-terms.ensures);
    })
    c.in_ok-columns.ensures
