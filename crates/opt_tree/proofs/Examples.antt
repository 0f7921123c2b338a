-- Worked examples: what the definitions say of certificates that are written out. A wrong definition fails one of them.
use Rattle.std.proofs.Common.{◌≡◌, ℕ, List, [], ◌∷◌, Some, None, Ok, Err, ℤ, pos, neg_ℤ, refl}
use Rattle.opt_base.specs.declared.verdict.Verdict.{Verdict}
use Rattle.opt_base.specs.declared.verdict.Verdict.TheVariants as verdict
use Rattle.opt_system.specs.declared.rows.RowKind.TheVariants.{Ge, Eq}
use Rattle.opt_system.specs.Systems.{System}
use Rattle.opt_bound.specs.Multipliers.{Multipliers}
use Rattle.opt_tree.specs.declared.check_fault.CheckFault.TheVariants as fault
use Rattle.opt_tree.specs.Trees.{BoxTree, leaf, split}
use Rattle.opt_tree.specs.Certificates.{Certificate}
use Rattle.opt_tree.specs.Shown.{shown}

-- a month of rice for 1,000 persons: a ration in steps of 10 g, energy short of the need, and kilograms bought, shipped
-- and handed out; 58 1/3 steps would meet the need, so 59 do, and cost 8,850,000 mills
abbrev rice : System
rice = record {
  rows = record { kind = Ge; right_hand_side = pos 210000; terms = (0, pos 3600) ∷ (1, pos 100) ∷ [] }
      ∷ record { kind = Ge; right_hand_side = pos 0; terms = (0, neg_ℤ (pos 300000)) ∷ (4, pos 1000) ∷ [] }
      ∷ record { kind = Ge; right_hand_side = neg_ℤ (pos 999); terms = (0, pos 300000) ∷ (4, neg_ℤ (pos 1000)) ∷ [] }
      ∷ record { kind = Eq; right_hand_side = pos 0; terms = (2, pos 1) ∷ (3, neg_ℤ (pos 1)) ∷ [] }
      ∷ record { kind = Eq; right_hand_side = pos 0; terms = (3, pos 1) ∷ (4, neg_ℤ (pos 1)) ∷ [] }
      ∷ record { kind = Ge; right_hand_side = neg_ℤ (pos 20000); terms = (3, neg_ℤ (pos 1)) ∷ [] }
      ∷ [];
  root = record { low = pos 0 ∷ pos 0 ∷ pos 0 ∷ pos 0 ∷ pos 0 ∷ []; high = pos 60 ∷ pos 0 ∷ pos 20000 ∷ pos 20000 ∷ pos 18000 ∷ [] };
  cost = pos 0 ∷ pos 0 ∷ pos 450 ∷ pos 50 ∷ pos 0 ∷ [];
}

abbrev pub weights : ℤ → List (ℕ × ℤ) → Multipliers
weights q entries = record { q = q; entries = entries }

-- with at most 58 steps the need is not met; with at least 59 steps the cost is at least 17,700,000 / 2
abbrev too_few_steps : BoxTree
too_few_steps = leaf (weights (pos 0) ((0, pos 1) ∷ []))

abbrev enough_steps : BoxTree
enough_steps = leaf (weights (pos 2) ((1, pos 1) ∷ (3, pos 900) ∷ (4, pos 1000) ∷ []))

abbrev rice_certificate : Verdict → BoxTree → Certificate
rice_certificate v tree = record {
  verdict = v;
  root = weights (pos 6) ((0, pos 250) ∷ (1, pos 3) ∷ (3, pos 2700) ∷ (4, pos 3000) ∷ []);
  point = Some ((0, pos 59) ∷ (2, pos 17700) ∷ (3, pos 17700) ∷ (4, pos 17700) ∷ []);
  tree = tree;
}

abbrev rice_plan : Verdict
rice_plan = verdict.Plan (pos 8850000) (pos 8850000)

abbrev rice_tree : BoxTree
rice_tree = split 0 (pos 58) too_few_steps enough_steps

rice_is_shown : shown rice (pos 0) 1000 (rice_certificate rice_plan rice_tree) ≡ Ok rice_plan
rice_is_shown = refl

-- a multiplier below 0 on a row that is at least its right-hand side; the left leaf is node 1
rice_sign : shown rice (pos 0) 1000 (rice_certificate rice_plan (split 0 (pos 58) (leaf (weights (pos 0) ((0, neg_ℤ (pos 1)) ∷ []))) enough_steps)) ≡ Err (fault.Sign 1 0)
rice_sign = refl

-- a row that there is not comes in its order among the entries
rice_row : shown rice (pos 0) 1000 (rice_certificate rice_plan (split 0 (pos 58) too_few_steps (leaf (weights (pos 2) ((1, pos 1) ∷ (6, neg_ℤ (pos 1)) ∷ []))))) ≡ Err (fault.RowNumber 2 6)
rice_row = refl

-- a cut at the highest value leaves nothing on the right
rice_cut : shown rice (pos 0) 1000 (rice_certificate rice_plan (split 0 (pos 60) too_few_steps enough_steps)) ≡ Err (fault.CutRange 0)
rice_cut = refl

rice_quantity : shown rice (pos 0) 1000 (rice_certificate rice_plan (split 5 (pos 0) too_few_steps enough_steps)) ≡ Err (fault.CutRange 0)
rice_quantity = refl

rice_bound : shown rice (pos 0) 1000 (rice_certificate (verdict.Plan (pos 8850000) (pos 8850001)) rice_tree) ≡ Err (fault.WrongBound (pos 8850000))
rice_bound = refl

rice_objective : shown rice (pos 0) 1000 (rice_certificate (verdict.Plan (pos 8850001) (pos 8850000)) rice_tree) ≡ Err (fault.WrongObjective (pos 8850000))
rice_objective = refl

-- the leaves exchanged: with at most 58 steps the lower bound that is left is the root line's
rice_open : shown rice (pos 0) 1000 (rice_certificate rice_plan (split 0 (pos 58) enough_steps too_few_steps)) ≡ Err (fault.LeafOpen 1 (pos 8750000))
rice_open = refl

-- within a gap of 100,000 that leaf is closed, and the bound is the root line's
rice_gap : shown rice (pos 100000) 1000 (rice_certificate (verdict.Plan (pos 8850000) (pos 8750000)) (split 0 (pos 58) enough_steps too_few_steps)) ≡ Ok (verdict.Plan (pos 8850000) (pos 8750000))
rice_gap = refl

-- two nodes more than one pass a limit of 2, and not one of 3
abbrev rice_unfinished : Certificate
rice_unfinished = rice_certificate (verdict.Unfinished (pos 8750000) (Some (pos 8850000))) (leaf (weights (pos 6) ((0, pos 250) ∷ (1, pos 3) ∷ (3, pos 2700) ∷ (4, pos 3000) ∷ [])))

rice_at_limit : shown rice (pos 0) 2 rice_unfinished ≡ Ok rice_unfinished.verdict
rice_at_limit = refl

rice_under_limit : shown rice (pos 0) 3 rice_unfinished ≡ Err (fault.UnderLimit 1)
rice_under_limit = refl

rice_nothing_open : shown rice (pos 0) 2 (rice_certificate (verdict.Unfinished (pos 8850000) (Some (pos 8850000))) rice_tree) ≡ Err fault.NothingOpen
rice_nothing_open = refl

-- a point of which a kilogram too little is handed out, one with a ration past its range, one with a quantity that there
-- is not, and one that lists nothing
abbrev rice_with : List (ℕ × ℤ) → Certificate
rice_with entries = record { verdict = rice_plan; root = (rice_certificate rice_plan rice_tree).root; point = Some entries; tree = rice_tree }

rice_broken : shown rice (pos 0) 1000 (rice_with ((0, pos 59) ∷ (2, pos 17700) ∷ (3, pos 17700) ∷ (4, pos 17699) ∷ [])) ≡ Err (fault.PlanBroken 1)
rice_broken = refl

rice_range : shown rice (pos 0) 1000 (rice_with ((0, pos 59) ∷ (2, pos 20001) ∷ (3, pos 20001) ∷ (7, pos 1) ∷ [])) ≡ Err (fault.PlanRange 2)
rice_range = refl

rice_unknown : shown rice (pos 0) 1000 (rice_with ((0, pos 59) ∷ (2, pos 17700) ∷ (3, pos 17700) ∷ (4, pos 17700) ∷ (7, pos 1) ∷ (8, pos 1) ∷ [])) ≡ Err (fault.PlanRange 7)
rice_unknown = refl

rice_nothing : shown rice (pos 0) 1000 (rice_with []) ≡ Err (fault.PlanBroken 0)
rice_nothing = refl

-- a root line that is not admissible, and one that shows that no point meets the rows, under a verdict with a point
rice_root_sign : shown rice (pos 0) 1000 (record { verdict = rice_plan; root = weights (pos 6) ((0, neg_ℤ (pos 1)) ∷ []); point = Some []; tree = rice_tree }) ≡ Err fault.RootLine
rice_root_sign = refl

-- the needs of a person who eats at most 500 g of rice are not met: one leaf shows it
abbrev little_rice : System
little_rice = record { rows = rice.rows; root = record { low = rice.root.low; high = pos 50 ∷ pos 0 ∷ pos 20000 ∷ pos 20000 ∷ pos 18000 ∷ [] }; cost = rice.cost }

abbrev little_rice_certificate : Verdict → Certificate
little_rice_certificate v = record { verdict = v; root = weights (pos 0) ((0, pos 1) ∷ []); point = None; tree = too_few_steps }

little_rice_is_shown : shown little_rice (pos 0) 1000 (little_rice_certificate verdict.NoPlan) ≡ Ok verdict.NoPlan
little_rice_is_shown = refl

little_rice_root : shown little_rice (pos 0) 1 (little_rice_certificate (verdict.Unfinished (pos 0) None)) ≡ Err fault.RootLine
little_rice_root = refl
