use Rattle.std.proofs.Common.{◌≡◌, ℤ, ℕ, List, int_lt, subst, rules}
use Rattle.std.specs.Prelude.{filter}
use Rattle.std.proofs.lemmas.Fn.{filter_same}
use Rattle.opt_search.specs.Open.{KeepsBelow}
use Rattle.opt_search.proofs.OpenLemmas.{kept_below}
use Rattle.opt_search.proofs.open_leaves.OpenLeaves.keep_below.Goals as goal

pub returns : goal.returns
returns c =
    let kept : c.retain.new.self.keys ≡ filter (λ (e : ℤ × ℕ). int_lt e.0 c.args.bound) c.self.inside.leaves.keys =
    filter_same _ (λ (e : ℤ × ℕ). int_lt e.0 c.args.bound) _ (λ x b f' r. search rules) _ _ c.retain.ensures.filtered
    in
    subst (λ (old : List (ℤ × ℕ)). KeepsBelow c.args.bound old c.retain.new.self.keys) c.self.view_is (kept_below c.args.bound c.self.inside.leaves.keys c.retain.new.self.keys kept)
