use Rattle.std.proofs.Common.{◌≡◌, ◌<◌, length, ◌∙◌, arith, to_z, of_z, w64}
use Rattle.std.proofs.lemmas.Int.{ints}
use Rattle.opt_model.specs.Quantities.{low, high}
use Rattle.opt_network.proofs.Ranges.{numbers_step}
use Rattle.opt_network.proofs.spans.spans_of.Goals as goal

pub loop-quantity-preserved : goal.loop-quantity-preserved
loop-quantity-preserved c =
    let t = c.args.tables.now in
    let i = c.loop-quantity.quantity-index in
    let lt : i < length c.args.list.now = omega arith in
    let low_cast : to_z w64 (of_z w64 c.span_of-span.result.low) ≡ c.span_of-span.result.low = omega (arith, ints) in
    let high_cast : to_z w64 (of_z w64 c.span_of-span.result.high) ≡ c.span_of-span.result.high = omega (arith, ints) in
    record {
      lows = numbers_step (low t) c.args.list.now i _ c.loop-quantity.lows.items c.push.new.self.items _ lt c.loop-quantity.invariant.lows c.in_ok-push.ensures.items (low_cast ∙ c.span_of-span.ensures.low);
      highs = numbers_step (high t) c.args.list.now i _ c.loop-quantity.highs.items c.push-in-loop-quantity.new.self.items _ lt c.loop-quantity.invariant.highs c.in_ok-push-2.ensures.items (high_cast ∙ c.span_of-span.ensures.high);
    }
