-- The certificate of an outcome is within the limit of those that are read.
use Rattle.std.proofs.Common.{◌≡◌, ℕ, ◌+◌, ◌*◌, ◌/◌, ◌^◌, ◌≤◌, min, max, Bool, not, ◌==◌, List, length, Option, Some, None, option_map, Result, Ok, Err, ℤ, unsigned_abs, sym, subst, arith}
use Rattle.std.specs.Prelude.{IfOk, IfSome}
use Rattle.std.specs.List.{enumerate_from}
use Rattle.std.proofs.lemmas.List.{length-map}
use Rattle.std.proofs.lemmas.List.FromFn.{length-enumerate_from}
use Rattle.std.proofs.lemmas.List.Sums.{length-filter, count_by-le-length}
use Rattle.std.proofs.lemmas.Nat.{mul-le}
use Rattle.std.proofs.Math.Nat.{mul-div-le}
use Rattle.opt_model.specs.Tables.{Tables}
use Rattle.opt_model.specs.Quantities.{quantities, low}
use Rattle.opt_model.specs.Rows.{rows}
use Rattle.opt_model.specs.Verdicts.{node_limit}
use Rattle.opt_plan.specs.Models.{own_system}
use Rattle.opt_plan.specs.Problems.{IsOutcomeFor}
use Rattle.opt_plan.proofs.ModelLimits.{rows_counted}
use Rattle.opt_rows.specs.Systems.{root_of}
use Rattle.opt_system.specs.Ranges.{Range, IsWithin}
use Rattle.opt_tree.specs.declared.outcome.Outcome.{Outcome}
use Rattle.opt_tree.specs.Certificates.{entries_of}
use Rattle.opt_tree.specs.Nodes.{tree_of}
use Rattle.opt_tree.specs.Outcomes.{outcome_certificate}
use Rattle.opt_tree.specs.Trees.{node_count, leaf_count}
use Rattle.optimus.specs.Planning.{IsReadable}
use Rattle.optimus.proofs.Lengths.{HasFewValues, short_text}
use Rattle.optimus.proofs.Outcomes.{within_outcome}

-- a point lists at most its values
few_entries : (x : List ℤ) → length (entries_of x) ≤ length x
few_entries x =
    let is_listed : ℕ × ℤ → Bool = λ e. not (unsigned_abs e.1 == 0) in
    let kept = length-filter is_listed (enumerate_from 0 x) in
    let fewer = count_by-le-length is_listed (enumerate_from 0 x) in
    let count = length-enumerate_from 0 x in
    omega (arith, kept, fewer, count)

few_values : (box : Range) (most : ℕ) (best : Option (List ℤ)) → length box.low ≤ most → IfSome best (IsWithin box) → HasFewValues most (option_map entries_of best)
few_values box most None few within = tt
few_values box most (Some x) few within =
    let fewer = few_entries x in
    let same = within.same_length in
    omega (arith, few, fewer, same)

-- the rows times the nodes that a search may make
product_within : (rows nodes setting : ℕ) → nodes ≤ min setting (2 ^ 24 / max rows 1) → rows * nodes ≤ 2 ^ 24
product_within rows nodes setting limited =
    let divisor : ℕ = max rows 1 in
    let step : rows * nodes ≤ divisor * (2 ^ 24 / divisor) = mul-le rows nodes divisor (2 ^ 24 / divisor) (omega arith) (omega (arith, limited)) in
    let whole : divisor * (2 ^ 24 / divisor) ≤ 2 ^ 24 = mul-div-le (2 ^ 24) divisor in
    omega (arith, step, whole)

module _ (t : Tables) (o : Outcome) (is : IsOutcomeFor t o) where
  pub readable_outcome : length (own_system t).rows ≤ 20000 → length (quantities t) ≤ 20000 → node_limit t ≤ 1000000 → IsReadable o
  readable_outcome few_rows few_quantities few_nodes =
      let nodes : node_count (tree_of o.tree) ≡ length o.tree.nodes = is.proved.counted.all_nodes in
      let leaves : length o.tree.nodes + 1 ≡ 2 * leaf_count (tree_of o.tree) = is.proved.counted.leaves in
      let limit : length o.tree.nodes ≤ node_limit t = is.proved.counted.by_limit in
      let counted : length (own_system t).rows ≡ length (rows t) = rows_counted t in
      let product : length (rows t) * node_count (tree_of o.tree) ≤ 2 ^ 24 = product_within (length (rows t)) (node_count (tree_of o.tree)) t.settings.nodes (omega (arith, nodes, limit)) in
      let lows : length (root_of t).low ≡ length (quantities t) = length-map (quantities t) (low t) in
      short_text (own_system t) t.settings.gap (node_limit t) (outcome_certificate o) o.verdict is.proved.certificate is.proved.verdict_shown few_rows
      (few_values (root_of t) 20000 o.best (omega (arith, lows, few_quantities)) (within_outcome t o is))
      (omega (arith, nodes, leaves))
      (subst (λ n. n * node_count (tree_of o.tree) ≤ 2 ^ 24) (sym counted) product)
      (omega (arith, nodes, limit, few_nodes))

pub readable_by : {E : Type 0} (t : Tables) (r : Result Outcome E) → IfOk r (IsOutcomeFor t) → length (own_system t).rows ≤ 20000 → length (quantities t) ≤ 20000 → node_limit t ≤ 1000000 → IfOk r IsReadable
readable_by t (Ok o) is few_rows few_quantities few_nodes = readable_outcome t o is few_rows few_quantities few_nodes
readable_by t (Err e) is few_rows few_quantities few_nodes = tt
