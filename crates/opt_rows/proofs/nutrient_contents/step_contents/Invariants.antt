-- the contents so far
use Rattle.std.proofs.Common.{◌∷◌, [], ◌==◌, length, take}
use Rattle.opt_model.specs.Quantities.{over, list_if}
use Rattle.opt_rows.specs.Listed.{step_content_of}
use Rattle.opt_rows.specs.Piles.{ArePiles}
use Rattle.opt_rows.proofs.nutrient_contents.step_contents.Given as goal

abbrev pub invariant-loop-content : goal.invariant-loop-content
invariant-loop-content l =
    ArePiles (length l.tables.nutrients) (λ k. over (take l.content-index l.tables.contents) λ _ r. list_if (r.nutrient == k) (step_content_of l.tables r ∷ [])) l.contents
