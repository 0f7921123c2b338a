-- Worked examples of certificates that an independent search wrote, and of faults in them.
use Rattle.std.proofs.Common.{◌≡◌, [], ◌∷◌, Some, None, Ok, Err, pos, neg_ℤ, refl}
use Rattle.opt_base.specs.declared.verdict.Verdict.{Verdict}
use Rattle.opt_base.specs.declared.verdict.Verdict.TheVariants as verdict
use Rattle.opt_system.specs.declared.rows.RowKind.TheVariants.{Ge, Eq}
use Rattle.opt_system.specs.Systems.{System}
use Rattle.opt_tree.specs.declared.check_fault.CheckFault.TheVariants as fault
use Rattle.opt_tree.specs.Trees.{leaf, split}
use Rattle.opt_tree.specs.Certificates.{Certificate}
use Rattle.opt_tree.specs.Shown.{shown}
use Rattle.opt_tree.proofs.Examples.{weights}

-- one row over three quantities: three cuts, and a plan whose value is the bound
abbrev one_sum : System
one_sum = record {
  rows = record { kind = Eq; right_hand_side = neg_ℤ (pos 74); terms = (0, pos 360) ∷ (1, pos 360) ∷ (2, neg_ℤ (pos 7)) ∷ [] }
      ∷ [];
  root = record { low = pos 0 ∷ pos 0 ∷ pos 0 ∷ []; high = pos 2 ∷ pos 1 ∷ pos 100 ∷ [] };
  cost = pos 1 ∷ pos 1 ∷ pos 2 ∷ [];
}

abbrev one_sum_certificate : Verdict → Certificate
one_sum_certificate v = record {
  verdict = v;
  root = weights (pos 7) ((0, neg_ℤ (pos 2)) ∷ []);
  point = Some ((0, pos 1) ∷ (2, pos 62) ∷ []);
  tree = split 2 (pos 10) (leaf (weights (pos 0) ((0, neg_ℤ (pos 1)) ∷ []))) (split 0 (pos 0) (split 1 (pos 0) (leaf (weights (pos 0) ((0, pos 1) ∷ []))) (leaf (weights (pos 7) ((0, neg_ℤ (pos 2)) ∷ [])))) (leaf (weights (pos 7) ((0, neg_ℤ (pos 2)) ∷ []))));
}

one_sum_is_shown : shown one_sum (pos 0) 7 (one_sum_certificate (verdict.Plan (pos 125) (pos 125))) ≡ Ok (verdict.Plan (pos 125) (pos 125))
one_sum_is_shown = refl

-- the last of seven nodes is node 6
one_sum_last : shown one_sum (pos 0) 7 (record {
  verdict = verdict.Plan (pos 125) (pos 125);
  root = weights (pos 7) ((0, neg_ℤ (pos 2)) ∷ []);
  point = Some ((0, pos 1) ∷ (2, pos 62) ∷ []);
  tree = split 2 (pos 10) (leaf (weights (pos 0) ((0, neg_ℤ (pos 1)) ∷ []))) (split 0 (pos 0) (split 1 (pos 0) (leaf (weights (pos 0) ((0, pos 1) ∷ []))) (leaf (weights (pos 7) ((0, neg_ℤ (pos 2)) ∷ [])))) (leaf (weights (pos 7) ((1, pos 2) ∷ []))));
}) ≡ Err (fault.RowNumber 6 1)
one_sum_last = refl

-- a search that stopped within its gap of nothing: both halves reach 94, and the best is 102
abbrev two_halves : System
two_halves = record {
  rows = record { kind = Ge; right_hand_side = neg_ℤ (pos 9); terms = (0, neg_ℤ (pos 1)) ∷ (1, pos 3) ∷ [] }
      ∷ record { kind = Ge; right_hand_side = neg_ℤ (pos 5); terms = (0, neg_ℤ (pos 3)) ∷ (1, pos 1) ∷ [] }
      ∷ record { kind = Ge; right_hand_side = pos 4; terms = (1, pos 3) ∷ [] }
      ∷ record { kind = Ge; right_hand_side = pos 11; terms = (0, pos 1) ∷ (1, pos 2) ∷ [] }
      ∷ record { kind = Ge; right_hand_side = pos 8; terms = (0, neg_ℤ (pos 7)) ∷ (1, pos 2) ∷ [] }
      ∷ [];
  root = record { low = pos 0 ∷ pos 0 ∷ []; high = pos 9 ∷ pos 9 ∷ [] };
  cost = pos 0 ∷ pos 17 ∷ [];
}

abbrev two_halves_certificate : Verdict → Certificate
two_halves_certificate v = record {
  verdict = v;
  root = weights (pos 16) ((3, pos 119) ∷ (4, pos 17) ∷ []);
  point = Some ((1, pos 6) ∷ []);
  tree = split 0 (pos 0) (leaf (weights (pos 2) ((3, pos 17) ∷ []))) (leaf (weights (pos 2) ((4, pos 17) ∷ [])));
}

two_halves_is_shown : shown two_halves (pos 5) 3 (two_halves_certificate (verdict.Unfinished (pos 94) (Some (pos 102)))) ≡ Ok (verdict.Unfinished (pos 94) (Some (pos 102)))
two_halves_is_shown = refl

-- with a limit of 5 nodes one more split was within it; with a gap of 8 each leaf is closed; 93 is not the bound
two_halves_under_limit : shown two_halves (pos 5) 5 (two_halves_certificate (verdict.Unfinished (pos 94) (Some (pos 102)))) ≡ Err (fault.UnderLimit 3)
two_halves_under_limit = refl

two_halves_closed : shown two_halves (pos 8) 3 (two_halves_certificate (verdict.Unfinished (pos 94) (Some (pos 102)))) ≡ Err fault.NothingOpen
two_halves_closed = refl

two_halves_bound : shown two_halves (pos 7) 4 (two_halves_certificate (verdict.Unfinished (pos 93) (Some (pos 102)))) ≡ Err (fault.WrongBound (pos 94))
two_halves_bound = refl

two_halves_plan : shown two_halves (pos 8) 3 (two_halves_certificate (verdict.Plan (pos 102) (pos 94))) ≡ Ok (verdict.Plan (pos 102) (pos 94))
two_halves_plan = refl

-- a search that stopped with no point known
abbrev no_best : System
no_best = record {
  rows = record { kind = Ge; right_hand_side = pos 36; terms = (3, pos 3) ∷ (4, neg_ℤ (pos 1)) ∷ (8, pos 2) ∷ [] }
      ∷ record { kind = Eq; right_hand_side = pos 357; terms = (0, pos 1) ∷ (4, pos 360) ∷ (6, neg_ℤ (pos 1)) ∷ [] }
      ∷ record { kind = Ge; right_hand_side = neg_ℤ (pos 44); terms = (0, neg_ℤ (pos 3)) ∷ (1, neg_ℤ (pos 2)) ∷ (2, pos 3) ∷ (4, pos 1) ∷ (5, neg_ℤ (pos 7)) ∷ (7, pos 2) ∷ (8, pos 5) ∷ [] }
      ∷ record { kind = Ge; right_hand_side = neg_ℤ (pos 59); terms = (0, neg_ℤ (pos 3)) ∷ (2, neg_ℤ (pos 7)) ∷ (8, neg_ℤ (pos 3)) ∷ [] }
      ∷ record { kind = Eq; right_hand_side = pos 75; terms = (1, pos 3) ∷ (2, pos 2) ∷ (3, pos 3) ∷ (4, pos 3) ∷ (5, neg_ℤ (pos 1)) ∷ (8, pos 360) ∷ [] }
      ∷ [];
  root = record { low = pos 3 ∷ pos 0 ∷ pos 3 ∷ pos 3 ∷ pos 0 ∷ pos 0 ∷ pos 0 ∷ pos 0 ∷ pos 0 ∷ []; high = pos 8 ∷ pos 9 ∷ pos 5 ∷ pos 23 ∷ pos 5 ∷ pos 5 ∷ pos 9 ∷ pos 5 ∷ pos 1 ∷ [] };
  cost = pos 1 ∷ pos 5 ∷ pos 1 ∷ pos 1 ∷ pos 2 ∷ pos 2 ∷ pos 2 ∷ pos 0 ∷ pos 2 ∷ [];
}

abbrev no_best_certificate : Verdict → Certificate
no_best_certificate v = record {
  verdict = v;
  root = weights (pos 12888) ((0, pos 4248) ∷ (1, pos 83) ∷ (4, pos 48) ∷ []);
  point = None;
  tree = split 3 (pos 12) (leaf (weights (pos 0) ((0, pos 21600) ∷ (1, pos 61) ∷ (4, neg_ℤ (pos 120)) ∷ []))) (leaf (weights (pos 21600) ((1, pos 119) ∷ (4, pos 120) ∷ [])));
}

no_best_is_shown : shown no_best (pos 0) 3 (no_best_certificate (verdict.Unfinished (pos 22) None)) ≡ Ok (verdict.Unfinished (pos 22) None)
no_best_is_shown = refl
