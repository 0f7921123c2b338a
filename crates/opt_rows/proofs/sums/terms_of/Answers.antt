use Rattle.std.proofs.Common.{◌≡◌, ◌++◌, ◌∷◌, ◌^◌, ◌<◌, ℕ, ℤ, List, All, unsigned_abs, subst, arith}
use Rattle.std.proofs.lemmas.Grind.{common_steps}
use Rattle.std.proofs.lemmas.List.Elements.{All-head, All-tail}
use Rattle.opt_rows.specs.Gathering.{without_zeros}
use Rattle.opt_rows.proofs.MapSums.{zeros_more}
use Rattle.opt_rows.proofs.sums.terms_of.Goals as goal

abbrev IsShort : ℕ × ℤ → Type 0
IsShort e = unsigned_abs e.1 < 2 ^ 63

pub push_sum-requires : goal.push_sum-requires
push_sum-requires c =
    let e : ℕ × ℤ = (c.in-Some.number.now, c.in-Some.sum.now) in
    let left : c.loop-number.number-iterator ≡ e ∷ c.next.new.self = grind (arith, common_steps) in
    All-head IsShort e c.next.new.self (subst (All IsShort) left c.loop-number.invariant.1)

pub loop-number-preserved : goal.loop-number-preserved
loop-number-preserved c =
    let e : ℕ × ℤ = (c.in-Some.number.now, c.in-Some.sum.now) in
    let left : c.loop-number.number-iterator ≡ e ∷ c.next.new.self = grind (arith, common_steps) in (
      zeros_more c.loop-number.terms.items _ c.next.new.self e (without_zeros c.args.sums.now.entries)
          (subst (λ (es : List (ℕ × ℤ)). c.loop-number.terms.items ++ without_zeros es ≡ without_zeros c.args.sums.now.entries) left c.loop-number.invariant.0) c.in_ok-push_sum.ensures,
      All-tail IsShort e c.next.new.self (subst (All IsShort) left c.loop-number.invariant.1),
    )
