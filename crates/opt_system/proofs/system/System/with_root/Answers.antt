use Rattle.std.proofs.Common.{refl, ap, ◌∙◌}
use Rattle.opt_system.specs.Ranges.{LiesIn}
use Rattle.opt_system.specs.Systems.{System}
use Rattle.opt_system.proofs.LimitLemmas.{IsStored-copies, IsLimited-narrowed}
use Rattle.opt_system.proofs.system.System.with_root.Goals as goal

-- the system as it is kept
kept : (c : goal.In_ok-costs) → System
kept c = record { rows = c.self.inside.rows.items; root = c.self.inside.root; cost = c.self.inside.costs.items }

-- with the other root
narrow : (c : goal.In_ok-costs) → System
narrow c = record { rows = c.self.inside.rows.items; root = c.args.root; cost = c.self.inside.costs.items }

pub invariant_of-result : goal.invariant_of-result
unfolding kept narrow
invariant_of-result c =
    let within : LiesIn c.self.inside.root c.args.root =
    rw (ap (λ (p : System). p.root) c.self.view_is) c.requires.within
    in
    rw (c.in_ok-columns.ensures.terms, c.in_ok-columns.ensures.starts)
    (IsStored-copies (narrow c) _ _ _ _ _ (c.in_ok-rows.ensures ∙ c.deref.ensures.value) refl (c.in_ok-costs.ensures.items ∙ c.deref-2.ensures.value)
    (IsLimited-narrowed (kept c) c.args.root c.self.invariant.limited c.requires.ordered within)
    c.self.invariant.by_column)
