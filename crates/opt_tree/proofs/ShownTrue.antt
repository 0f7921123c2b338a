-- Where a certificate shows a verdict, the verdict is true of the system, with the point that the certificate lists.
use Rattle.std.proofs.Common.{◌≡◌, ℕ, ◌+◌, true, false, cond, nat_le, List, length, Option, Some, None, Ok, Err, is_some, is_none, ℤ, pos, ◌-ℤ◌, ◌≤ℤ◌, refl, subst, ap, sym, ◌∙◌, arith}
use Rattle.std.specs.Ordering.{int_eq}
use Rattle.std.specs.Int.{int_max}
use Rattle.std.proofs.lemmas.Int.{ints, clamps}
use Rattle.std.proofs.lemmas.Bool.Decides.{Decides-int_eq}
use Rattle.opt_base.specs.Answers.{◌>>=◌}
use Rattle.opt_base.specs.declared.verdict.Verdict.{Verdict}
use Rattle.opt_base.specs.declared.verdict.Verdict.TheVariants as verdict
use Rattle.opt_system.specs.Systems.{System, IsLimited, Meets, value}
use Rattle.opt_bound.specs.declared.fault.EntryFault.{EntryFault}
use Rattle.opt_bound.specs.declared.leaf.Leaf.{Leaf}
use Rattle.opt_bound.specs.declared.leaf.Leaf.TheVariants.{Empty, AtLeast}
use Rattle.opt_bound.specs.Multipliers.{Multipliers, IsAdmissible}
use Rattle.opt_bound.specs.Faults.{first_fault_of}
use Rattle.opt_bound.specs.Verdict.{IsTrueOf}
use Rattle.opt_bound.proofs.FaultLemmas.{admissible_of}
use Rattle.opt_tree.specs.declared.check_fault.CheckFault.{CheckFault}
use Rattle.opt_tree.specs.declared.check_fault.CheckFault.TheVariants.{RootLine, UnderLimit, NothingOpen}
use Rattle.opt_tree.specs.Trees.{node_count}
use Rattle.opt_tree.specs.Certificates.{Certificate, IsCertificate, named_value, listed_point}
use Rattle.opt_tree.specs.Verdicts.{Attains, Below, IsTrueVerdict}
use Rattle.opt_tree.specs.Shown.{Known, Seen, nothing_seen, leaf_at, is_reached, root_bound_of, look_root, look_point, look_entries, look, lowered, bound_shown, judge_bound, conclude, known_of, shown}
use Rattle.opt_tree.proofs.Steps.{then_ok, ok_if, then_if, then_unless}
use Rattle.opt_tree.proofs.LeafTrue.{leaf_at-true}
use Rattle.opt_tree.proofs.LookTrue.{Bounds, AllReached, Adds, looked}
use Rattle.opt_tree.proofs.PointTrue.{Found, looked_entries}

-- ---- the root line
none_of : (r : Option EntryFault) → is_none r ≡ true → r ≡ None
none_of None h = refl
none_of (Some f) h = cc

below_root : (s : System) (v : Verdict) (l : Leaf) (r : ℤ) → IsTrueOf s s.root l → root_bound_of v l ≡ Ok r → Below s r
below_root s v (AtLeast b) r true_of h = λ x meets.
    let same : b ≡ r = cc in
    let here : b ≤ℤ value s x = true_of x meets meets.in_range in
    omega (arith, ints, same)
below_root s v Empty r true_of h = λ x meets. absurd (true_of x meets meets.in_range)

looked_root : (s : System) (v : Verdict) (m : Multipliers) (r : ℤ) → IsLimited s → pos 0 ≤ℤ m.q → look_root s v m ≡ Ok r → Below s r
looked_root s v m r limited from h =
    let p : (is_none (first_fault_of s m.entries) ≡ true) × (root_bound_of v (leaf_at s s.root m) ≡ Ok r) =
    then_if (is_none (first_fault_of s m.entries)) (root_bound_of v (leaf_at s s.root m)) r RootLine h
    in
    let admissible : IsAdmissible s m = admissible_of s m.entries (none_of (first_fault_of s m.entries) p.0) in
    below_root s v (leaf_at s s.root m) r (leaf_at-true s s.root m limited from admissible) p.1

-- ---- the point
-- the best value is that of the listed point, and just what the verdict names
abbrev pub Knows : System → Verdict → Option (List (ℕ × ℤ)) → Option ℤ → Type 0
Knows s v entries None = named_value v ≡ None
Knows s v entries (Some o) = Attains s (listed_point (length s.cost) entries) o × (named_value v ≡ Some o)

not_some : (r : Option ℤ) → false ≡ is_some r → r ≡ None
not_some None h = refl
not_some (Some o) h = cc

looked_point : (s : System) (v : Verdict) (point : Option (List (ℕ × ℤ))) (best : Option ℤ) → IsLimited s → is_some point ≡ is_some (named_value v) → look_point s v point ≡ Ok best → Knows s v point best
looked_point s v None best limited where_named h =
    let same : None ≡ best = cc in
    let P : Option ℤ → Type 0 = λ b. Knows s v None b in
    subst P same (not_some (named_value v) where_named)
looked_point s v (Some entries) best limited where_named h =
    let p : (o : ℤ) × (look_entries s v entries ≡ Ok o) × (Ok (Some o) ≡ Ok best) =
    then_ok {E = CheckFault} (look_entries s v entries) (λ o. Ok (Some o)) best h
    in
    let found : Found s v entries p.0 = looked_entries s v entries p.0 limited p.1 in
    let same : Some p.0 ≡ best = cc (p.2) in
    let P : Option ℤ → Type 0 = λ b. Knows s v (Some entries) b in
    subst P same (found.attains, found.named)

-- ---- what all leaves show
-- each point that meets the rows is bounded by what was seen of the leaves
abbrev pub BoundsAll : System → Option ℤ → Type 0
BoundsAll s least = (x : List ℤ) → Meets s x → Bounds least (value s x)

lowered_le : (best : Option ℤ) (b v : ℤ) → b ≤ℤ v → lowered best b ≤ℤ v
lowered_le None b v h = h
lowered_le (Some o) b v h = omega (arith, ints, clamps)

below_shown : (s : System) (r : ℤ) (best least : Option ℤ) → Below s r → BoundsAll s least → Below s (bound_shown r best least)
below_shown s r best None below all = λ x meets. absurd (all x meets)
below_shown s r best (Some least) below all = λ x meets.
    let from_root : r ≤ℤ value s x = below x meets in
    let from_leaves : least ≤ℤ value s x = all x meets in
    lowered_le best (int_max r least) (value s x) (omega (arith, ints, clamps))

-- the bound lies at most the gap below the best value, and not above it
under_best : (r o : ℤ) (least : Option ℤ) → bound_shown r (Some o) least ≤ℤ o
under_best r o None = omega (arith, ints)
under_best r o (Some least) = omega (arith, ints, clamps)

gap_kept : (k : Known) (o gap : ℤ) (least : Option ℤ) → pos 0 ≤ℤ gap → k.must_close ≡ true → k.best ≡ Some o → k.gap ≡ gap → AllReached k least → (o -ℤ bound_shown k.root_bound (Some o) least) ≤ℤ gap
gap_kept k o gap None from must best gap_is all = omega (arith, ints)
gap_kept k o gap (Some least) from must best gap_is all =
    let t : is_reached (Some o) gap (int_max k.root_bound least) ≡ true = ap (λ b. is_reached b gap (int_max k.root_bound least)) (sym best) ∙ ap (λ g. is_reached k.best g (int_max k.root_bound least)) (sym gap_is) ∙ all must in
    let reached : (o -ℤ gap) ≤ℤ int_max k.root_bound least = grind (arith, ints) in
    omega (arith, ints, clamps)

printed_is : (v w : Verdict) (k : Known) (least : Option ℤ) (printed : ℤ) → judge_bound v k least printed ≡ Ok w → (printed ≡ bound_shown k.root_bound k.best least) × (v ≡ w)
printed_is v w k least printed h =
    let p : (int_eq printed (bound_shown k.root_bound k.best least) ≡ true) × (v ≡ w) = ok_if (int_eq printed (bound_shown k.root_bound k.best least)) v w _ h in
    ((Decides-int_eq printed (bound_shown k.root_bound k.best least)).0 p.0, p.1)

-- no leaf that is not empty can be closed without a point
none_seen : (k : Known) (least : Option ℤ) → k.must_close ≡ true → k.best ≡ None → AllReached k least → least ≡ None
none_seen k None must best all = refl
none_seen k (Some least) must best all =
    absurd (cc (ap (λ b. is_reached b k.gap (int_max k.root_bound least)) best, all must))

-- a point of the named value
attains_named : (s : System) (v : Verdict) (point : Option (List (ℕ × ℤ))) (best : Option ℤ) (o : ℤ) → Knows s v point best → named_value v ≡ Some o → Attains s (listed_point (length s.cost) point) o × (best ≡ Some o)
attains_named s v point None o knows named = cc
attains_named s v point (Some b) o knows named =
    let same : b ≡ o = cc (knows.1) in
    let P : ℤ → Type 0 = λ a. Attains s (listed_point (length s.cost) point) a in
    (subst P same knows.0, ap Some same)

none_named : (s : System) (v : Verdict) (point : Option (List (ℕ × ℤ))) (best : Option ℤ) → Knows s v point best → named_value v ≡ None → best ≡ None
none_named s v point None knows named = refl
none_named s v point (Some b) knows named = cc (knows.1)

concluded : (s : System) (gap : ℤ) (limit : ℕ) (v w : Verdict) (r : ℤ) (point : Option (List (ℕ × ℤ))) (best : Option ℤ) (seen : Seen) → pos 0 ≤ℤ gap → Below s r → Knows s v point best → BoundsAll s seen.least → AllReached (known_of v gap r best) seen.least → conclude limit v (known_of v gap r best) seen ≡ Ok w → IsTrueVerdict s gap v (listed_point (length s.cost) point) × (v ≡ w)
concluded s gap limit (verdict.Plan o b) w r point best seen from below knows all reached h =
    let p : (b ≡ bound_shown r best seen.least) × (verdict.Plan o b ≡ w) = printed_is (verdict.Plan o b) w (known_of (verdict.Plan o b) gap r best) seen.least b h in
    let q : Attains s (listed_point (length s.cost) point) o × (best ≡ Some o) = attains_named s (verdict.Plan o b) point best o knows refl in
    let same : b ≡ bound_shown r (Some o) seen.least = p.0 ∙ ap (λ c. bound_shown r c seen.least) q.1 in
    let kept : (o -ℤ bound_shown r (Some o) seen.least) ≤ℤ gap = gap_kept (known_of (verdict.Plan o b) gap r best) o gap seen.least from refl q.1 refl reached in
    let P : ℤ → Type 0 = λ c. Below s c in (
      record {
        attains = q.0;
        bound_under = omega (arith, ints, same, under_best r o seen.least);
        gap_kept = omega (arith, ints, same, kept);
        below = subst P (sym p.0) (below_shown s r best seen.least below all);
      },
      p.1,
    )
concluded s gap limit verdict.NoPlan w r point best seen from below knows all reached h =
    let none : seen.least ≡ None = none_seen (known_of verdict.NoPlan gap r best) seen.least refl (none_named s verdict.NoPlan point best knows refl) reached in
    let P : Option ℤ → Type 0 = λ l. BoundsAll s l in
    (λ x meets. subst P none all x meets, cc)
concluded s gap limit (verdict.Unfinished b None) w r point best seen from below knows all reached h =
    let p : (nat_le (seen.nodes + 2) limit ≡ false) × (cond seen.any_open (judge_bound (verdict.Unfinished b None) (known_of (verdict.Unfinished b None) gap r best) seen.least b) (Err NothingOpen) ≡ Ok w) =
    then_unless (nat_le (seen.nodes + 2) limit) (cond seen.any_open (judge_bound (verdict.Unfinished b None) (known_of (verdict.Unfinished b None) gap r best) seen.least b) (Err NothingOpen)) w (UnderLimit seen.nodes) h
    in
    let q : (seen.any_open ≡ true) × (judge_bound (verdict.Unfinished b None) (known_of (verdict.Unfinished b None) gap r best) seen.least b ≡ Ok w) =
    then_if seen.any_open (judge_bound (verdict.Unfinished b None) (known_of (verdict.Unfinished b None) gap r best) seen.least b) w NothingOpen p.1
    in
    let t : (b ≡ bound_shown r best seen.least) × (verdict.Unfinished b None ≡ w) = printed_is (verdict.Unfinished b None) w (known_of (verdict.Unfinished b None) gap r best) seen.least b q.1 in
    let P : ℤ → Type 0 = λ c. Below s c in
    (subst P (sym t.0) (below_shown s r best seen.least below all), t.1)
concluded s gap limit (verdict.Unfinished b (Some o)) w r point best seen from below knows all reached h =
    let p : (nat_le (seen.nodes + 2) limit ≡ false) × (cond seen.any_open (judge_bound (verdict.Unfinished b (Some o)) (known_of (verdict.Unfinished b (Some o)) gap r best) seen.least b) (Err NothingOpen) ≡ Ok w) =
    then_unless (nat_le (seen.nodes + 2) limit) (cond seen.any_open (judge_bound (verdict.Unfinished b (Some o)) (known_of (verdict.Unfinished b (Some o)) gap r best) seen.least b) (Err NothingOpen)) w (UnderLimit seen.nodes) h
    in
    let q : (seen.any_open ≡ true) × (judge_bound (verdict.Unfinished b (Some o)) (known_of (verdict.Unfinished b (Some o)) gap r best) seen.least b ≡ Ok w) =
    then_if seen.any_open (judge_bound (verdict.Unfinished b (Some o)) (known_of (verdict.Unfinished b (Some o)) gap r best) seen.least b) w NothingOpen p.1
    in
    let t : (b ≡ bound_shown r best seen.least) × (verdict.Unfinished b (Some o) ≡ w) = printed_is (verdict.Unfinished b (Some o)) w (known_of (verdict.Unfinished b (Some o)) gap r best) seen.least b q.1 in
    let u : Attains s (listed_point (length s.cost) point) o × (best ≡ Some o) = attains_named s (verdict.Unfinished b (Some o)) point best o knows refl in
    let same : b ≡ bound_shown r (Some o) seen.least = t.0 ∙ ap (λ c. bound_shown r c seen.least) u.1 in
    let P : ℤ → Type 0 = λ c. Below s c in (
      record {
        attains = u.0;
        bound_under = omega (arith, ints, same, under_best r o seen.least);
        below = subst P (sym t.0) (below_shown s r best seen.least below all);
      },
      t.1,
    )

-- what a certificate shows is its own verdict, and it is true
shown_both : (s : System) (gap : ℤ) (limit : ℕ) (c : Certificate) (v : Verdict) → IsLimited s → pos 0 ≤ℤ gap → IsCertificate c → shown s gap limit c ≡ Ok v → IsTrueVerdict s gap c.verdict (listed_point (length s.cost) c.point) × (c.verdict ≡ v)
shown_both s gap limit c v limited from certificate h =
    let p : (r : ℤ) × (look_root s c.verdict c.root ≡ Ok r) × ((look_point s c.verdict c.point >>= λ best. look s (known_of c.verdict gap r best) nothing_seen s.root c.tree >>= λ seen. conclude limit c.verdict (known_of c.verdict gap r best) seen) ≡ Ok v) =
    then_ok (look_root s c.verdict c.root) (λ r. look_point s c.verdict c.point >>= λ best. look s (known_of c.verdict gap r best) nothing_seen s.root c.tree >>= λ seen. conclude limit c.verdict (known_of c.verdict gap r best) seen) v h
    in
    let q : (best : Option ℤ) × (look_point s c.verdict c.point ≡ Ok best) × ((look s (known_of c.verdict gap p.0 best) nothing_seen s.root c.tree >>= λ seen. conclude limit c.verdict (known_of c.verdict gap p.0 best) seen) ≡ Ok v) =
    then_ok (look_point s c.verdict c.point) (λ best. look s (known_of c.verdict gap p.0 best) nothing_seen s.root c.tree >>= λ seen. conclude limit c.verdict (known_of c.verdict gap p.0 best) seen) v p.2
    in
    let t : (seen : Seen) × (look s (known_of c.verdict gap p.0 q.0) nothing_seen s.root c.tree ≡ Ok seen) × (conclude limit c.verdict (known_of c.verdict gap p.0 q.0) seen ≡ Ok v) =
    then_ok (look s (known_of c.verdict gap p.0 q.0) nothing_seen s.root c.tree) (λ seen. conclude limit c.verdict (known_of c.verdict gap p.0 q.0) seen) v q.2
    in
    let adds : Adds s (known_of c.verdict gap p.0 q.0) s.root nothing_seen t.0 (node_count c.tree) = looked s (known_of c.verdict gap p.0 q.0) s.root nothing_seen t.0 c.tree limited certificate.tree limited.ordered t.1 in
    concluded s gap limit c.verdict v p.0 c.point q.0 t.0 from
    (looked_root s c.verdict c.root p.0 limited certificate.root.proper.q_from_zero p.1)
    (looked_point s c.verdict c.point q.0 limited certificate.point_where_named q.1)
    (λ x meets. adds.bounds x meets meets.in_range)
    (adds.reached tt)
    t.2

pub shown_verdict : (s : System) (gap : ℤ) (limit : ℕ) (c : Certificate) (v : Verdict) → IsLimited s → pos 0 ≤ℤ gap → IsCertificate c → shown s gap limit c ≡ Ok v → c.verdict ≡ v
shown_verdict s gap limit c v limited from certificate h = (shown_both s gap limit c v limited from certificate h).1

-- the law: where a certificate shows a verdict, it is true of the system, with the point that the certificate lists
pub shown_true : (s : System) (gap : ℤ) (limit : ℕ) (c : Certificate) (v : Verdict) → IsLimited s → pos 0 ≤ℤ gap → IsCertificate c → shown s gap limit c ≡ Ok v → IsTrueVerdict s gap v (listed_point (length s.cost) c.point)
shown_true s gap limit c v limited from certificate h =
    let both : IsTrueVerdict s gap c.verdict (listed_point (length s.cost) c.point) × (c.verdict ≡ v) = shown_both s gap limit c v limited from certificate h in
    let P : Verdict → Type 0 = λ w. IsTrueVerdict s gap w (listed_point (length s.cost) c.point) in
    subst P both.1 both.0
