use Rattle.std.proofs.Common.{◌≡◌, ◌<◌, ◌≤◌, ◌∷◌, [], ◌==◌, length, ap, arith}
use Rattle.opt_rows.specs.Listed.{step_content_of}
use Rattle.opt_rows.proofs.PileSteps.{piles_all, pile_keyed, pile_put}
use Rattle.opt_rows.proofs.RowSteps.{read_at}
use Rattle.opt_rows.proofs.nutrient_contents.step_contents.Goals as goal

pub loop-content-preserved : goal.loop-content-preserved
loop-content-preserved c =
    let t = c.args.tables.now in
    let e = c.contents-content-items.ensures in
    let within : c.loop-content.content-index < length t.contents = omega (arith, ap length e, c.loop-content-test.true) in
    pile_keyed (λ r. r.nutrient) (λ _ r. step_content_of t r) (length t.nutrients) t.contents c.loop-content.content-index _ _ _ within
    (read_at c.contents-content-items.result.now t.contents c.loop-content.content-index _ e within)
    (pile_put _ _ _ _ _ c.in_ok-add.ensures c.step_content.ensures) c.loop-content.invariant

pub returns : goal.returns
returns c =
    let t = c.args.tables.now in
    let all : length t.contents ≤ c.loop-content.content-index = omega (arith, ap length c.contents-content-items.ensures, c.loop-content-test.false) in
    piles_all (λ k r. r.nutrient == k) (λ _ r. step_content_of t r) (length t.nutrients) t.contents c.loop-content.content-index _ all c.loop-content.invariant
