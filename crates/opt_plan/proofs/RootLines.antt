-- What a verdict that is shown keeps of its root line.
use Rattle.std.proofs.Common.{◌≡◌, ℕ, ◌+◌, false, cond, nat_le, List, Option, Some, None, Ok, Err, is_some, ℤ, ◌≤ℤ◌, refl, ap, sym, ◌∙◌, subst, arith, true}
use Rattle.std.specs.Prelude.{is_none}
use Rattle.std.specs.Int.{int_min}
use Rattle.std.specs.Ordering.{int_eq}
use Rattle.std.proofs.lemmas.Int.{ints, clamps}
use Rattle.std.proofs.lemmas.Bool.Decides.{Decides-int_eq}
use Rattle.opt_base.specs.Answers.{◌>>=◌}
use Rattle.opt_base.specs.declared.verdict.Verdict.{Verdict}
use Rattle.opt_base.specs.declared.verdict.Verdict.TheVariants as verdict
use Rattle.opt_system.specs.Systems.{System, IsLimited}
use Rattle.opt_bound.specs.declared.leaf.Leaf.{Leaf}
use Rattle.opt_bound.specs.declared.leaf.Leaf.TheVariants.{Empty, AtLeast}
use Rattle.opt_bound.specs.Faults.{first_fault_of}
use Rattle.opt_tree.specs.declared.check_fault.CheckFault.{CheckFault}
use Rattle.opt_tree.specs.declared.check_fault.CheckFault.TheVariants.{RootLine, UnderLimit, NothingOpen}
use Rattle.opt_tree.specs.Certificates.{Certificate, IsCertificate, named_value}
use Rattle.opt_tree.specs.Shown.{Known, Seen, nothing_seen, leaf_at, root_bound_of, look_root, look_point, look_entries, look, bound_shown, judge_bound, conclude, known_of, shown}
use Rattle.opt_tree.proofs.Steps.{then_ok, ok_if, then_if, then_unless}
use Rattle.opt_tree.proofs.PointTrue.{Found, looked_entries}
use Rattle.opt_plan.specs.Outcomes.{KeepsRootLine}

-- ---- the bound
-- the bound that the verdict prints is the one that is shown
abbrev PrintsShown : Verdict → ℤ → Option ℤ → Option ℤ → Type 0
PrintsShown (verdict.Plan objective bound) r best least = bound ≡ bound_shown r best least
PrintsShown verdict.NoPlan r best least = Unit {0}
PrintsShown (verdict.Unfinished bound named) r best least = bound ≡ bound_shown r best least

judged : (v w : Verdict) (k : Known) (least : Option ℤ) (bound : ℤ) → judge_bound v k least bound ≡ Ok w → bound ≡ bound_shown k.root_bound k.best least
judged v w k least bound h =
    let p : (int_eq bound (bound_shown k.root_bound k.best least) ≡ true) × (v ≡ w) = ok_if (int_eq bound (bound_shown k.root_bound k.best least)) v w _ h in
    (Decides-int_eq bound (bound_shown k.root_bound k.best least)).0 p.0

prints_shown : (limit : ℕ) (v w : Verdict) (gap r : ℤ) (best : Option ℤ) (seen : Seen) → conclude limit v (known_of v gap r best) seen ≡ Ok w → PrintsShown v r best seen.least
prints_shown limit (verdict.Plan o b) w gap r best seen h =
    judged (verdict.Plan o b) w (known_of (verdict.Plan o b) gap r best) seen.least b h
prints_shown limit verdict.NoPlan w gap r best seen h = tt
prints_shown limit (verdict.Unfinished b named) w gap r best seen h =
    let p : (nat_le (seen.nodes + 2) limit ≡ false) × (cond seen.any_open (judge_bound (verdict.Unfinished b named) (known_of (verdict.Unfinished b named) gap r best) seen.least b) (Err NothingOpen) ≡ Ok w) =
    then_unless (nat_le (seen.nodes + 2) limit) (cond seen.any_open (judge_bound (verdict.Unfinished b named) (known_of (verdict.Unfinished b named) gap r best) seen.least b) (Err NothingOpen)) w (UnderLimit seen.nodes) h
    in
    let t : (seen.any_open ≡ true) × (judge_bound (verdict.Unfinished b named) (known_of (verdict.Unfinished b named) gap r best) seen.least b ≡ Ok w) =
    then_if seen.any_open (judge_bound (verdict.Unfinished b named) (known_of (verdict.Unfinished b named) gap r best) seen.least b) w NothingOpen p.1
    in
    judged (verdict.Unfinished b named) w (known_of (verdict.Unfinished b named) gap r best) seen.least b t.1

-- ---- the best value
not_some : (r : Option ℤ) → false ≡ is_some r → r ≡ None
not_some None h = refl
not_some (Some o) h = cc

-- the value of the listed point is the one that the verdict names
named_is : (s : System) (v : Verdict) (point : Option (List (ℕ × ℤ))) (best : Option ℤ) → IsLimited s → is_some point ≡ is_some (named_value v) → look_point s v point ≡ Ok best → best ≡ named_value v
named_is s v None best limited where_named h =
    let same : None ≡ best = cc in
    sym same ∙ sym (not_some (named_value v) where_named)
named_is s v (Some entries) best limited where_named h =
    let p : (o : ℤ) × (look_entries s v entries ≡ Ok o) × (Ok (Some o) ≡ Ok best) =
    then_ok {E = CheckFault} (look_entries s v entries) (λ o. Ok (Some o)) best h
    in
    let found : Found s v entries p.0 = looked_entries s v entries p.0 limited p.1 in
    let same : Some p.0 ≡ best = cc (p.2) in
    sym same ∙ sym found.named

-- ---- both
lower_of_both : (r o : ℤ) (least : Option ℤ) → int_min o r ≤ℤ bound_shown r (Some o) least
lower_of_both r o None = omega (arith, ints, clamps)
lower_of_both r o (Some least) = omega (arith, ints, clamps)

root_alone : (r : ℤ) (least : Option ℤ) → r ≤ℤ bound_shown r None least
root_alone r None = omega (arith, ints)
root_alone r (Some least) = omega (arith, ints, clamps)

keeps : (l : Leaf) (v : Verdict) (r : ℤ) (best least : Option ℤ) → root_bound_of v l ≡ Ok r → best ≡ named_value v → PrintsShown v r best least → KeepsRootLine l v
keeps Empty (verdict.Plan o b) r best least root named prints = cc
keeps Empty verdict.NoPlan r best least root named prints = refl
keeps Empty (verdict.Unfinished b found) r best least root named prints = cc
keeps (AtLeast low) (verdict.Plan o b) r best least root named prints =
    let same : r ≡ low = cc in
    let is : b ≡ bound_shown r (Some o) least = prints ∙ ap (λ c. bound_shown r c least) named in
    subst (λ z. int_min o low ≤ℤ z) (sym is) (subst (λ z. int_min o z ≤ℤ bound_shown r (Some o) least) same (lower_of_both r o least))
keeps (AtLeast low) verdict.NoPlan r best least root named prints = tt
keeps (AtLeast low) (verdict.Unfinished b None) r best least root named prints =
    let same : r ≡ low = cc in
    let is : b ≡ bound_shown r None least = prints ∙ ap (λ c. bound_shown r c least) named in
    subst (λ z. low ≤ℤ z) (sym is) (subst (λ z. z ≤ℤ bound_shown r None least) same (root_alone r least))
keeps (AtLeast low) (verdict.Unfinished b (Some o)) r best least root named prints =
    let same : r ≡ low = cc in
    let is : b ≡ bound_shown r (Some o) least = prints ∙ ap (λ c. bound_shown r c least) named in
    subst (λ z. int_min o low ≤ℤ z) (sym is) (subst (λ z. int_min o z ≤ℤ bound_shown r (Some o) least) same (lower_of_both r o least))

-- a verdict that a certificate shows keeps its root line
pub keeps_root_line : (s : System) (gap : ℤ) (limit : ℕ) (c : Certificate) (v : Verdict) → IsLimited s → IsCertificate c → shown s gap limit c ≡ Ok v → KeepsRootLine (leaf_at s s.root c.root) c.verdict
keeps_root_line s gap limit c v limited certificate h =
    let p : (r : ℤ) × (look_root s c.verdict c.root ≡ Ok r) × ((look_point s c.verdict c.point >>= λ best. look s (known_of c.verdict gap r best) nothing_seen s.root c.tree >>= λ seen. conclude limit c.verdict (known_of c.verdict gap r best) seen) ≡ Ok v) =
    then_ok (look_root s c.verdict c.root) (λ r. look_point s c.verdict c.point >>= λ best. look s (known_of c.verdict gap r best) nothing_seen s.root c.tree >>= λ seen. conclude limit c.verdict (known_of c.verdict gap r best) seen) v h
    in
    let q : (best : Option ℤ) × (look_point s c.verdict c.point ≡ Ok best) × ((look s (known_of c.verdict gap p.0 best) nothing_seen s.root c.tree >>= λ seen. conclude limit c.verdict (known_of c.verdict gap p.0 best) seen) ≡ Ok v) =
    then_ok (look_point s c.verdict c.point) (λ best. look s (known_of c.verdict gap p.0 best) nothing_seen s.root c.tree >>= λ seen. conclude limit c.verdict (known_of c.verdict gap p.0 best) seen) v p.2
    in
    let t : (seen : Seen) × (look s (known_of c.verdict gap p.0 q.0) nothing_seen s.root c.tree ≡ Ok seen) × (conclude limit c.verdict (known_of c.verdict gap p.0 q.0) seen ≡ Ok v) =
    then_ok (look s (known_of c.verdict gap p.0 q.0) nothing_seen s.root c.tree) (λ seen. conclude limit c.verdict (known_of c.verdict gap p.0 q.0) seen) v q.2
    in
    let root : (is_none (first_fault_of s c.root.entries) ≡ true) × (root_bound_of c.verdict (leaf_at s s.root c.root) ≡ Ok p.0) =
    then_if (is_none (first_fault_of s c.root.entries)) (root_bound_of c.verdict (leaf_at s s.root c.root)) p.0 RootLine p.1
    in
    keeps (leaf_at s s.root c.root) c.verdict p.0 q.0 t.0.least root.1
    (named_is s c.verdict c.point q.0 limited certificate.point_where_named q.1)
    (prints_shown limit c.verdict v gap p.0 q.0 t.0 t.2)
