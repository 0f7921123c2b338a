-- Laws of the clip: numbers have one clip, and the clip of numbers that are admissible is admissible.
use Rattle.std.proofs.Common.{◌≡◌, ◌≢◌, ◌⊎◌, inl, inr, ℕ, List, [], ◌∷◌, ℤ, pos, ◌<ℤ◌, ◌≤ℤ◌, Bool, true, false, cond, All, refl, sym, ◌∙◌, subst, arith}
use Rattle.std.proofs.lemmas.Int.{ints}
use Rattle.std.proofs.lemmas.List.Elements.{All-nil, All-cons, All-head, All-tail}
use Rattle.opt_system.specs.declared.rows.RowKind.{RowKind}
use Rattle.opt_system.specs.declared.rows.RowKind.TheVariants.{Ge, Eq}
use Rattle.opt_system.specs.Systems.{System, row_at}
use Rattle.opt_bound.specs.Multipliers.{Multipliers, MayWeigh, IsFitting, IsAdmissible}
use Rattle.opt_bound.specs.Clip.{cut, cut_entries, AreCutBy, IsClip}
use Rattle.opt_bound.proofs.ClipLemmas.{is_left, shrunk, cut_from_zero, no_zero_of}

-- the objective is lost, or it is not
lost_or_kept : (q z : ℤ) → ((pos 0 <ℤ q) × (z ≡ pos 0)) ⊎ (((pos 0 <ℤ q) × (z ≡ pos 0)) → ⊥)
lost_or_kept q z =
    elim (above_or_not q) [
      | inl above ↦ elim (zero_or_not z) [
        | inl gone ↦ inl (above, gone)
        | inr apart ↦ inr (λ both. apart both.1)
      ]
      | inr most ↦ inr (λ both. absurd (omega (arith, ints, most, both.0)))
    ]
  where
    above_or_not : (q : ℤ) → (pos 0 <ℤ q) ⊎ (q ≤ℤ pos 0)
    above_or_not q = grind (arith, ints)

    zero_or_not : (z : ℤ) → (z ≡ pos 0) ⊎ (z ≢ pos 0)
    zero_or_not z = grind (arith, ints)

-- what a shift makes of numbers is one thing
cut_by_one : (q : ℤ) (es : List (ℕ × ℤ)) (s : ℕ) (m n : Multipliers) → AreCutBy q es s m → AreCutBy q es s n → m ≡ n
cut_by_one q es s m n first second =
    elim (lost_or_kept q (cut q s)) [
      | inl lost ↦ first.lost lost.0 lost.1 ∙ sym (second.lost lost.0 lost.1)
      | inr kept ↦ first.kept kept ∙ sym (second.kept kept)
    ]

-- two clips of the same numbers are equal
pub clip_unique : (q : ℤ) (es : List (ℕ × ℤ)) (m n : Multipliers) → IsClip q es m → IsClip q es n → m ≡ n
clip_unique q es m n first second =
    let same : second.0 ≡ first.0 = omega (arith, first.1.least second.0 second.1.fits, second.1.least first.0 first.1.fits) in
    let again : AreCutBy q es first.0 n = subst (λ (s : ℕ). AreCutBy q es s n) same second.2 in
    cut_by_one q es first.0 m n first.2 again

-- ---- admissible numbers
weighs_cut : (kind : RowKind) (y : ℤ) (s : ℕ) → MayWeigh kind y → cut y s ≢ pos 0 → MayWeigh kind (cut y s)
weighs_cut Ge y s weighs apart =
    let from : pos 0 ≤ℤ cut y s = cut_from_zero y s (omega (arith, ints, weighs)) in
    grind (arith, ints)
weighs_cut Eq y s weighs apart = tt

all_by : (P : ℕ × ℤ → Type 0) (b : Bool) (e : ℕ × ℤ) (es : List (ℕ × ℤ)) → (b ≡ true → P e) → All P es → All P (cond b (e ∷ es) es)
all_by P true e es here rest = All-cons P e es (here refl) rest
all_by P false e es here rest = rest

cut_fitting : (p : System) (es : List (ℕ × ℤ)) (s : ℕ) → All (IsFitting p) es → All (IsFitting p) (cut_entries s es)
cut_fitting p [] s all = All-nil (IsFitting p)
cut_fitting p (e ∷ es) s all =
    let here : IsFitting p e = All-head (IsFitting p) e es all in
    all_by (IsFitting p) (is_left (shrunk s e)) (shrunk s e) (cut_entries s es)
    (λ left. (here.0, weighs_cut (row_at p.rows e.0).kind e.1 s here.1 (no_zero_of (shrunk s e) left)))
    (cut_fitting p es s (All-tail (IsFitting p) e es all))

-- the clip of admissible numbers is admissible
pub clip_admissible : (p : System) (q : ℤ) (es : List (ℕ × ℤ)) (m : Multipliers) → All (IsFitting p) es → IsClip q es m → IsAdmissible p m
clip_admissible p q es m all clip =
    elim (lost_or_kept q (cut q clip.0)) [
      | inl lost ↦ rw (clip.2.lost lost.0 lost.1) (All-nil (IsFitting p))
      | inr kept ↦ rw (clip.2.kept kept) (cut_fitting p es clip.0 all)
    ]
