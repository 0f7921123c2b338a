use Rattle.std.proofs.Common.{◌≡◌, ◌^◌, ◌<◌, List, [], ◌∷◌, ◌++◌, ℕ, ℤ, neg_ℤ, unsigned_abs, sym, ap, ◌∙◌, subst, FitsSigned, to_z, of_z, rules}
use Rattle.std.proofs.lemmas.Int.{to_z-of_z}
use mir.Syntax.{w64}
use Rattle.opt_sums.specs.Entries.{IsRising, HasNoZero}
use Rattle.opt_system.specs.declared.rows.RowKind.TheVariants.{Ge}
use Rattle.opt_rows.specs.Gathering.{AreGathered, other_sign}
use Rattle.opt_rows.proofs.MapSums.{short_entries, other_sign_rising, other_sign_no_zero}
use Rattle.opt_rows.proofs.RowPushes.{negated_added}
use Rattle.opt_rows.proofs.term_buffer.push_at_most.Goals as goal

pub negate-requires : goal.negate-requires
negate-requires c =
    let given : c.deref.result.now ≡ c.args.terms.now = search rules in
    let same : c.deref-2.result.now ≡ c.in_ok-gathered.gathered.items = search rules in
    let is : AreGathered c.args.terms.now c.deref-2.result.now = subst (λ (es : List (ℕ × ℤ)). AreGathered es c.deref-2.result.now) given (subst (AreGathered c.deref.result.now) (sym same) c.in_ok-gathered.ensures) in
    short_entries c.deref-2.result.now (2 ^ 63) is.rising (λ k. subst (λ (z : ℤ). unsigned_abs z < 2 ^ 63) (sym (is.same k)) (c.requires.sums k))

pub push-requires-clause-rising : goal.push-requires-clause-rising
push-requires-clause-rising c =
    let same : c.deref-2.result.now ≡ c.in_ok-gathered.gathered.items = search rules in
    let sent : c.deref-3.result.now ≡ other_sign c.deref-2.result.now = search rules in
    subst IsRising (sym sent) (other_sign_rising c.deref-2.result.now (subst IsRising (sym same) c.in_ok-gathered.ensures.rising))

pub push-requires-clause-no_zero : goal.push-requires-clause-no_zero
push-requires-clause-no_zero c =
    let same : c.deref-2.result.now ≡ c.in_ok-gathered.gathered.items = search rules in
    let sent : c.deref-3.result.now ≡ other_sign c.deref-2.result.now = search rules in
    subst HasNoZero (sym sent) (other_sign_no_zero c.deref-2.result.now (subst HasNoZero (sym same) c.in_ok-gathered.ensures.no_zero))

pub returns : goal.returns
returns c =
    let given : c.deref.result.now ≡ c.args.terms.now = search rules in
    let same : c.deref-2.result.now ≡ c.in_ok-gathered.gathered.items = search rules in
    let sent : c.deref-3.result.now ≡ other_sign c.deref-2.result.now = search rules in
    let is : AreGathered c.args.terms.now c.deref-2.result.now = subst (λ (es : List (ℕ × ℤ)). AreGathered es c.deref-2.result.now) given (subst (AreGathered c.deref.result.now) (sym same) c.in_ok-gathered.ensures) in
    let fits : FitsSigned w64 c.negative.result = search rules in
    let cast : to_z w64 (of_z w64 c.negative.result) ≡ c.negative.result = simp to_z-of_z in
    let value : to_z w64 (of_z w64 c.negative.result) ≡ neg_ℤ c.args.limit.now = cast ∙ c.negative.ensures in
    negated_added c.args.layout.now.quantities c.args.terms.now c.deref-2.result.now c.args.limit.now _ _ c.len-len.ensures.numbering.once is
    (c.in_ok-push.ensures.ok
    ∙ (ap (λ (right : ℤ). c.args.rows.now ++ record { kind = Ge; right_hand_side = right; terms = c.deref-3.result.now } ∷ []) value
    ∙ ap (λ (ts : List (ℕ × ℤ)). c.args.rows.now ++ record { kind = Ge; right_hand_side = neg_ℤ c.args.limit.now; terms = ts } ∷ []) sent))
