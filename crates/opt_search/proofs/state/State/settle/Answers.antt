use Rattle.std.proofs.Common.{◌≡◌, ℤ, true, false, refl, sym, ◌∙◌, subst, FitsSigned, arith, rules}
use Rattle.std.proofs.lemmas.Int.{ints, to_z-of_z}
use mir.Syntax.{w128}
use Rattle.opt_bound.specs.declared.leaf.Leaf.{Leaf}
use Rattle.opt_bound.specs.declared.leaf.Leaf.TheVariants.{AtLeast}
use Rattle.opt_tree.specs.Shown.{is_closed}
use Rattle.opt_search.specs.State.{known_in, AddsIfOpen}
use Rattle.opt_search.proofs.ClosingLemmas.{adds_none, adds_one, same_bound}
use Rattle.opt_search.proofs.state.State.settle.Goals as goal

pub returns-in_ok-add : goal.returns-in_ok-add
returns-in_ok-add c =
    let f : FitsSigned w128 c.in-AtLeast.bound = omega (arith, ints) in
    let judged : c.is_reached.result ≡ is_closed (known_in c.args.task.now.gap c.args.self.now) (AtLeast c.in-AtLeast.bound) = simp to_z-of_z at c.is_reached.ensures in
    let unclosed : c.is_reached.result ≡ false = search rules in
    record {
      tree = c.set_mult.ensures;
      shown = c.in_ok-push.ensures.items;
      root = refl;
      root_bound = refl;
      best = refl;
      open_leaves =
          subst (λ (leaf : Leaf). AddsIfOpen c.args.task.now.gap c.args.self.now c.args.node leaf c.add.new.self) (sym c.in-AtLeast.is)
          (adds_one c.args.task.now.gap c.args.self.now c.args.node c.in-AtLeast.bound c.add.new.self (sym judged ∙ unclosed) (simp to_z-of_z at c.in_ok-add.ensures));
    }

pub returns-else-not-is_reached : goal.returns-else-not-is_reached
returns-else-not-is_reached c =
    let f : FitsSigned w128 c.in-AtLeast.bound = omega (arith, ints) in
    let judged : c.is_reached.result ≡ is_closed (known_in c.args.task.now.gap c.args.self.now) (AtLeast c.in-AtLeast.bound) = simp to_z-of_z at c.is_reached.ensures in
    let closed : c.is_reached.result ≡ true = search rules in
    record {
      tree = c.set_mult.ensures;
      shown = c.in_ok-push.ensures.items;
      root = refl;
      root_bound = refl;
      best = refl;
      open_leaves =
          adds_none c.args.task.now.gap c.args.self.now c.args.node c.args.leaf
          (λ b e. subst (λ (v : ℤ). is_closed (known_in c.args.task.now.gap c.args.self.now) (AtLeast v) ≡ true) (same_bound c.in-AtLeast.is e) (sym judged ∙ closed));
    }
