use Rattle.std.proofs.Common.{◌≡◌, ◌∷◌, ◌++◌, [], ℕ, ℤ, List, sym, ap, ◌∙◌, subst, FitsSigned, to_z, of_z, rules}
use Rattle.std.proofs.lemmas.Int.{to_z-of_z}
use mir.Syntax.{w64}
use Rattle.opt_sums.specs.Entries.{IsRising, HasNoZero}
use Rattle.opt_model.specs.Rows.{equal}
use Rattle.opt_system.specs.declared.rows.RowKind.TheVariants.{Eq}
use Rattle.opt_rows.specs.Gathering.{AreGathered}
use Rattle.opt_rows.proofs.RowPushes.{row_added}
use Rattle.opt_rows.proofs.term_buffer.push_equal.Goals as goal

pub push-requires-clause-rising : goal.push-requires-clause-rising
push-requires-clause-rising c =
    let same : c.deref-2.result.now ≡ c.in_ok-gathered.gathered.items = search rules in
    subst IsRising (sym same) c.in_ok-gathered.ensures.rising

pub push-requires-clause-no_zero : goal.push-requires-clause-no_zero
push-requires-clause-no_zero c =
    let same : c.deref-2.result.now ≡ c.in_ok-gathered.gathered.items = search rules in
    subst HasNoZero (sym same) c.in_ok-gathered.ensures.no_zero

pub returns : goal.returns
returns c =
    let given : c.deref.result.now ≡ c.args.terms.now = search rules in
    let same : c.deref-2.result.now ≡ c.in_ok-gathered.gathered.items = search rules in
    let is : AreGathered c.args.terms.now c.deref-2.result.now = subst (λ (es : List (ℕ × ℤ)). AreGathered es c.deref-2.result.now) given (subst (AreGathered c.deref.result.now) (sym same) c.in_ok-gathered.ensures) in
    let fits : FitsSigned w64 c.args.right.now = search rules in
    let value : to_z w64 (of_z w64 c.args.right.now) ≡ c.args.right.now = simp to_z-of_z in
    row_added c.args.layout.now.quantities c.args.terms.now c.deref-2.result.now equal c.args.right.now _ _ c.len-len.ensures.numbering.once is
    (c.in_ok-push.ensures.ok
    ∙ ap (λ (right : ℤ). c.args.rows.now ++ record { kind = Eq; right_hand_side = right; terms = c.deref-2.result.now } ∷ []) value)
