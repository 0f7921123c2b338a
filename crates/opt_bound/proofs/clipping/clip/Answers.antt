use Rattle.std.proofs.Common.{◌≡◌, sym, ◌∙◌, pos, ◌<ℤ◌, IfOk, FitsSigned, arith}
use Rattle.std.proofs.lemmas.Int.{ints, to_z-of_z}
use Rattle.std.proofs.lemmas.Result.{IfOk-weaker}
use mir.Syntax.{w64, w128}
use Rattle.opt_bound.specs.Multipliers.{Multipliers}
use Rattle.opt_bound.specs.Clip.{cut, cut_entries, IsShift, IsClip, KeepsAdmissible}
use Rattle.opt_bound.proofs.ClipLemmas.{IsShift-largest, IsProper-cut, clip_lost, clip_kept}
use Rattle.opt_bound.proofs.ClipLaws.{clip_admissible}
use Rattle.opt_bound.proofs.clipping.clip.Goals as goal
use Rattle.opt_bound.proofs.clipping.clip.Goals.{else-q-gt0-via-then-q-gt0+else-objective-eq0, else-q-gt0-via-else-q-gt0}

pub returns-then-objective-eq0-clause-clip : goal.returns-then-objective-eq0-clause-clip
returns-then-objective-eq0-clause-clip c =
    let q : FitsSigned w128 c.args.q = c.ranges.q in
    let value : c.cut-objective.result ≡ cut c.args.q c.shift_of-shift.result = simp to_z-of_z at c.cut-objective.ensures in
    let gone : c.cut-objective.result ≡ pos 0 = omega (arith, ints, c.if-objective-eq0.true) in
    clip_lost c.args.q c.args.entries.now c.shift_of-shift.result c.trivial.result
    (IsShift-largest c.args.q c.args.entries.now c.largest.result c.shift_of-shift.result (simp to_z-of_z at c.largest.ensures.largest) c.shift_of-shift.ensures.fits c.shift_of-shift.ensures.least)
    (omega (arith, ints, c.if-q-gt0.true)) (sym value ∙ gone) c.trivial.ensures

pub cut_entries-requires-clause-fits : goal.cut_entries-requires-clause-fits
cut_entries-requires-clause-fits c =
    let q : FitsSigned w128 c.args.q = c.ranges.q in
    let shift : IsShift c.args.q c.args.entries.now c.shift_of-shift.result =
    IsShift-largest c.args.q c.args.entries.now c.largest.result c.shift_of-shift.result (simp to_z-of_z at c.largest.ensures.largest) c.shift_of-shift.ensures.fits c.shift_of-shift.ensures.least
    in
    shift.fits.each

pub new-requires : goal.new-requires
new-requires c =
    let q : FitsSigned w128 c.args.q = c.ranges.q in
    let value : c.cut-objective.result ≡ cut c.args.q c.shift_of-shift.result = simp to_z-of_z at c.cut-objective.ensures in
    let shift : IsShift c.args.q c.args.entries.now c.shift_of-shift.result =
    IsShift-largest c.args.q c.args.entries.now c.largest.result c.shift_of-shift.result (simp to_z-of_z at c.largest.ensures.largest) c.shift_of-shift.ensures.fits c.shift_of-shift.ensures.least
    in
    rw (to_z-of_z w64 c.cut-objective.result (record { sfits = c.cut-objective.type_inv }), value, c.deref.ensures.value, c.in_ok-kept.ensures)
    (IsProper-cut c.args.q c.args.entries.now c.shift_of-shift.result c.requires.q_from_zero c.requires.rising shift.fits)

-- the objective was not lost
not_lost : (c : goal.After-drop-kept) → ¬ ((pos 0 <ℤ c.args.q) × (cut c.args.q c.shift_of-shift.result ≡ pos 0))
not_lost c lost =
    let q : FitsSigned w128 c.args.q = c.ranges.q in
    let value : c.cut-objective.result ≡ cut c.args.q c.shift_of-shift.result = simp to_z-of_z at c.cut-objective.ensures in
    let gone : c.cut-objective.result ≡ pos 0 = value ∙ lost.1 in
    let above : pos 0 <ℤ c.args.q = lost.0 in
    elim c.else-q-gt0.branch [
      | else-q-gt0-via-then-q-gt0+else-objective-eq0 w ↦ absurd (omega (arith, ints, gone, w.if-objective-eq0.false))
      | else-q-gt0-via-else-q-gt0 w ↦ absurd (omega (arith, ints, above, w.if-q-gt0.false))
    ]

is_clip : (c : goal.After-drop-kept) → IfOk c.new.result (IsClip c.args.q c.args.entries.now)
is_clip c =
    let q : FitsSigned w128 c.args.q = c.ranges.q in
    let value : c.cut-objective.result ≡ cut c.args.q c.shift_of-shift.result = simp to_z-of_z at c.cut-objective.ensures in
    let shift : IsShift c.args.q c.args.entries.now c.shift_of-shift.result =
    IsShift-largest c.args.q c.args.entries.now c.largest.result c.shift_of-shift.result (simp to_z-of_z at c.largest.ensures.largest) c.shift_of-shift.ensures.fits c.shift_of-shift.ensures.least
    in
    let made : Multipliers = record { q = cut c.args.q c.shift_of-shift.result; entries = cut_entries c.shift_of-shift.result c.args.entries.now } in
    IfOk-weaker c.new.result (λ m. m ≡ made) (IsClip c.args.q c.args.entries.now)
    (λ m is. clip_kept c.args.q c.args.entries.now c.shift_of-shift.result m shift (not_lost c) is)
    (rw (to_z-of_z w64 c.cut-objective.result (record { sfits = c.cut-objective.type_inv }), value, c.deref.ensures.value, c.in_ok-kept.ensures) at c.new.ensures)

pub returns-clause-clip : goal.returns-clause-clip
returns-clause-clip c = is_clip c

pub returns-clause-admissible : goal.returns-clause-admissible
returns-clause-admissible c =
    IfOk-weaker c.new.result (IsClip c.args.q c.args.entries.now) (KeepsAdmissible c.args.entries.now)
    (λ m clip p all. clip_admissible p c.args.q c.args.entries.now m all clip)
    (is_clip c)
