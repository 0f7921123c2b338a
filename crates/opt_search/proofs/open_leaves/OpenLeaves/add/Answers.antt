use Rattle.std.proofs.Common.{ℤ, ℕ, List, true, subst}
use Rattle.std.proofs.lemmas.Int.{to_z-of_z}
use Rattle.std.specs.BTreeSet.{Updates}
use Rattle.opt_search.specs.Open.{Adds}
use mir.Syntax.{w128}
use Rattle.opt_search.proofs.OpenLemmas.{leaf_cmp, added}
use Rattle.opt_search.proofs.open_leaves.OpenLeaves.add.Goals as goal

pub returns : goal.returns
returns c =
    subst (λ (old : List (ℤ × ℕ)). Adds c.args.bound c.args.leaf old c.insert.new.self.keys) c.self.view_is
    (added c.self.inside.leaves c.insert.new.self c.args.bound c.args.leaf
    (subst (λ (z : ℤ). Updates leaf_cmp c.self.inside.leaves c.insert.new.self (z, c.args.leaf) true) (to_z-of_z w128 c.args.bound c.ranges.bound) c.in_ok-insert.ensures.updates))
