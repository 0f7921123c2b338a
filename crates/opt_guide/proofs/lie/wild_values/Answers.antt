use Rattle.std.proofs.Common.{◌≡◌, ◌∙◌, ap, ◌++◌, ◌∷◌, [], pos, ◌≤ℤ◌, ◌*ℤ◌, arith, ℕ, ℤ, FitsSigned, length}
use Rattle.std.proofs.lemmas.Int.{ints, to_z-of_z}
use mir.Syntax.{w64}
use Rattle.opt_sums.specs.Sums.{at}
use Rattle.opt_guide.proofs.PushLemmas.{each-push}
use Rattle.opt_guide.proofs.lie.wild_values.Goals as goal

pub loop-high-preserved : goal.loop-high-preserved
loop-high-preserved c =
    let fits : FitsSigned w64 c.wild_value.result = record { sfits = c.wild_value.type_inv } in
    let most : c.wild_value.result ≤ℤ (pos 2 *ℤ at c.args.highs.now c.loop-high.high-index) = omega (arith, ints, c.wild_value.ensures.at_most_twice) in
    let more : c.push.new.self.items ≡ c.loop-high.values.items ++ c.wild_value.result ∷ [] =
    c.in_ok-push.ensures.items ∙ ap (λ y. c.loop-high.values.items ++ y ∷ []) (to_z-of_z w64 c.wild_value.result fits)
    in
    rw more (
      omega (arith, c.in_ok-push.ensures.len, c.loop-high.invariant.0, ap length more),
      each-push (λ (j : ℕ) (v : ℤ). pos 0 ≤ℤ v) _ _ _ c.loop-high.invariant.0 c.loop-high.invariant.1 c.wild_value.ensures.from_zero,
      each-push (λ (j : ℕ) (v : ℤ). v ≤ℤ (pos 2 *ℤ at c.args.highs.now j)) _ _ _ c.loop-high.invariant.0 c.loop-high.invariant.2 most,
    )
