use Rattle.std.proofs.Common.{◌≡◌, ◌+◌, ◌-◌, ◌*◌, ◌^◌, min, drop, get_or, Some, sym, ap, ◌∙◌, arith}
use Rattle.std.proofs.lemmas.List.{at_drop_more, at_drop_all}
use Rattle.opt_cert.proofs.NumberLemmas.{value_on, value_on-digit, value_on-other}
use Rattle.opt_cert.proofs.numbers.value_of.Goals as goal

pub returns-then-not-is_ascii_digit : goal.returns-then-not-is_ascii_digit
returns-then-not-is_ascii_digit c =
    let ds = c.args.digits.now in
    let i = c.loop-digit.digit-index in
    let v = c.loop-digit.value in
    sym (sym c.loop-digit.invariant.0
    ∙ at_drop_more (value_on v) ds i 0 c.loop-digit-test.true
    ∙ value_on-other v (get_or ds i 0) (drop (i + 1) ds) (sym c.is_ascii_digit.ensures.value ∙ c.if-not-is_ascii_digit.true))

pub loop-digit-preserved : goal.loop-digit-preserved
loop-digit-preserved c =
    let ds = c.args.digits.now in
    let i = c.loop-digit.digit-index in
    let v = c.loop-digit.value in
    let digit = sym c.is_ascii_digit.ensures.value ∙ c.if-not-is_ascii_digit.false in
    let more : c.saturating_add-value.result ≡ min (min (v * 10) (2 ^ 128 - 1) + (get_or ds i 0 - 48)) (2 ^ 128 - 1) =
    c.saturating_add-value.ensures ∙ ap (λ n. min n (2 ^ 128 - 1)) (omega (arith, c.saturating_mul.ensures, c.from.ensures)) in (
      value_on-digit v (get_or ds i 0) c.saturating_add-value.result (drop (i + 1) ds) digit more
          ∙ sym (at_drop_more (value_on v) ds i 0 c.loop-digit-test.true)
          ∙ c.loop-digit.invariant.0,
      omega (arith, more),
    )

pub returns : goal.returns
returns c =
    let ds = c.args.digits.now in
    let i = c.loop-digit.digit-index in
    let v = c.loop-digit.value in
    let small : v ≡ min v (2 ^ 128 - 1) = omega (arith, c.loop-digit.invariant.1) in
    ap Some small ∙ sym (at_drop_all (value_on v) ds i c.loop-digit-test.false) ∙ c.loop-digit.invariant.0
