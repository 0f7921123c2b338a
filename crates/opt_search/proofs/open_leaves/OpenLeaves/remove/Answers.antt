use Rattle.std.proofs.Common.{ℤ, ℕ, List, false, subst}
use Rattle.std.proofs.lemmas.Int.{to_z-of_z}
use Rattle.std.specs.BTreeSet.{Updates}
use Rattle.opt_search.specs.Open.{Removes}
use mir.Syntax.{w128}
use Rattle.opt_search.proofs.OpenLemmas.{leaf_cmp, removed}
use Rattle.opt_search.proofs.open_leaves.OpenLeaves.remove.Goals as goal

pub returns : goal.returns
returns c =
    subst (λ (old : List (ℤ × ℕ)). Removes c.args.bound c.args.leaf old c.remove.new.self.keys) c.self.view_is
    (removed c.self.inside.leaves c.remove.new.self c.args.bound c.args.leaf
    (subst (λ (z : ℤ). Updates leaf_cmp c.self.inside.leaves c.remove.new.self (z, c.args.leaf) false) (to_z-of_z w128 c.args.bound c.ranges.bound) c.remove.ensures.updates))
