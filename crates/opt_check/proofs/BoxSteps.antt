-- The boxes that wait lie in the root's box.
use Rattle.std.proofs.Common.{◌≡◌, ℕ, List, ◌∷◌, drop, All, ℤ, sym, subst, ap, ◌∙◌}
use Rattle.std.proofs.lemmas.List.Elements.{All-cons, All-head, All-tail}
use Rattle.opt_system.specs.Ranges.{Range, IsOrdered, LiesIn}
use Rattle.opt_system.specs.Cuts.{IsCut, left_half, right_half}
use Rattle.opt_system.proofs.CutLemmas.{LiesIn-trans, LiesIn-left, LiesIn-right}
use Rattle.opt_check.specs.Way.{after_split}

-- the halves of the first box lie where it lies
pub halves_within : (root : Range) (boxes : List Range) (box : Range) (new : List Range) (j : ℕ) (t : ℤ) → boxes ≡ box ∷ drop 1 boxes → new ≡ after_split j t boxes → IsOrdered box → IsCut box j t → All (LiesIn root) boxes → All (LiesIn root) new
halves_within root boxes box new j t parted is ordered cut all =
    let P : List Range → Type 0 = λ bs. All (LiesIn root) bs in
    let whole : All (LiesIn root) (box ∷ drop 1 boxes) = subst P parted all in
    let here : LiesIn root box = All-head (LiesIn root) box (drop 1 boxes) whole in
    subst P (sym (is ∙ ap (after_split j t) parted))
    (All-cons (LiesIn root) (left_half box j t) (right_half box j t ∷ drop 1 boxes)
    (LiesIn-trans root box (left_half box j t) here (LiesIn-left box j t ordered cut))
    (All-cons (LiesIn root) (right_half box j t) (drop 1 boxes)
    (LiesIn-trans root box (right_half box j t) here (LiesIn-right box j t cut))
    (All-tail (LiesIn root) box (drop 1 boxes) whole)))
