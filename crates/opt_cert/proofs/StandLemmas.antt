-- A line that stands in its place has its kind, its ranges and its order.
use Rattle.std.proofs.Common.{◌≡◌, ℕ, zero, suc, ◌+◌, ◌^◌, ◌<◌, ◌≤◌, nat_le, Bool, true, false, ◌&&◌, not, cond, List, [], ◌∷◌, ◌⊎◌, inl, inr, ⊎_elim, length, Option, Some, None, is_some, Result, Ok, Err, ℤ, pos, ◌≤ℤ◌, unsigned_abs, All, codes, refl, sym, ap, ◌∙◌, subst, arith}
use Rattle.std.specs.List.{list_all}
use Rattle.std.specs.Str.{bytes_eq}
use Rattle.std.specs.Option.{option_map, option_and_then}
use Rattle.std.proofs.lemmas.Int.{ints}
use Rattle.std.proofs.lemmas.Bool.Decides.{nat_tests}
use Rattle.opt_base.specs.declared.verdict.Verdict.{Verdict}
use Rattle.opt_base.specs.declared.verdict.Verdict.TheVariants as verdict
use Rattle.opt_bound.specs.Multipliers.{Multipliers}
use Rattle.opt_tree.specs.Certificates.{IsInRange, HasRanges, AreWritable, HasEntries, AreEntries, IsWritableCut}
use Rattle.opt_cert.specs.declared.cert_line.CertLine.{CertLine}
use Rattle.opt_cert.specs.declared.cert_line.CertLine.TheVariants as line
use Rattle.opt_cert.specs.declared.place.Place.{Place}
use Rattle.opt_cert.specs.declared.place.Place.TheVariants as place
use Rattle.opt_cert.specs.declared.limits.TheConstants.{OBJECTIVE_LIMIT, NUMBER_LIMIT, VALUE_LIMIT}
use Rattle.opt_cert.specs.Numbers.{pieces, numeral, plain_numeral, signed_numeral}
use Rattle.opt_cert.specs.Forms.{both, one, two, counted_form, multipliers, multipliers_form, best_form, numbers_form, no_plan_form, verdict_form, header_form, root_form, none_form, entries_or_none, point_form, cut_form, node_form, end_form, tree_form, form}
use Rattle.opt_cert.specs.Ranges.{objective_in_range, best_in_range, verdict_in_range, number_in_range, cut_value_in_range, cut_in_range, row_in_range, multiplier_in_range, multipliers_in_range, quantity_in_range, point_in_range, rises_from, point_rises, is_in_range, is_in_order}
use Rattle.opt_cert.specs.Stands.{IsVerdict, IsRoot, IsPoint, IsSplit, IsLeaf, StandsInTree, Stands}
use Rattle.opt_cert.proofs.JudgeLemmas.{mapped_some}
use Rattle.opt_cert.proofs.RangeLemmas.{and_true, both_some, then_some, plain_is_from_zero, writable, IsRising-by, AreEntries-read, counted_from_zero}

either : {A : Type 0} (b : Bool) (x y : Option A) (a : A) → cond b x y ≡ Some a → (x ≡ Some a) ⊎ (y ≡ Some a)
either true x y a h = inl h
either false x y a h = inr h

only : {A : Type 0} (b : Bool) (x : Option A) (a : A) → cond b x None ≡ Some a → x ≡ Some a
only true x a h = h
only false x a h = cc

-- ---- verdicts
in_range_by : (z : ℤ) → pos 0 ≤ℤ z → objective_in_range z ≡ true → IsInRange z
in_range_by z from fits = record {
  from_zero = from;
  small = let most : unsigned_abs z ≤ OBJECTIVE_LIMIT = grind (arith, nat_tests) in omega (arith, most);
}

plan_ranges : (v : Verdict) (o b : ℤ) → v ≡ verdict.Plan o b → pos 0 ≤ℤ o → pos 0 ≤ℤ b → verdict_in_range v ≡ true → HasRanges v
plan_ranges v o b is first second fits =
    let t = and_true (objective_in_range o) (objective_in_range b) (sym (ap verdict_in_range is) ∙ fits) in
    subst HasRanges (sym is) (in_range_by o first t.0, in_range_by b second t.1)

best_ranges : (word : List ℕ) (b : ℤ) (best : Option ℤ) → best_form word ≡ Some best → IsInRange b → best_in_range best ≡ true → HasRanges (verdict.Unfinished b best)
best_ranges word b None h bound fits = bound
best_ranges word b (Some best) h bound fits =
    let from : pos 0 ≤ℤ best = ⊎_elim
    (λ e. cc)
    (λ e. let t = mapped_some Some (plain_numeral word) (Some best) e in
    let same : best ≡ t.0 = cc in
    let zero_on = plain_is_from_zero word t.0 t.1 in
    omega (arith, ints, zero_on, same))
    (either (bytes_eq word (codes "none")) (Some None) (option_map Some (plain_numeral word)) (Some best) h) in
    (bound, in_range_by best from fits)

unfinished_ranges : (v : Verdict) (word : List ℕ) (b : ℤ) (best : Option ℤ) → v ≡ verdict.Unfinished b best → pos 0 ≤ℤ b → best_form word ≡ Some best → verdict_in_range v ≡ true → HasRanges v
unfinished_ranges v word b best is from form fits =
    let t = and_true (objective_in_range b) (best_in_range best) (sym (ap verdict_in_range is) ∙ fits) in
    subst HasRanges (sym is) (best_ranges word b best form (in_range_by b from t.0) t.1)

numbers_ranges : (word : List ℕ) (ns : List ℕ × List ℕ) (v : Verdict) → numbers_form word ns ≡ Some v → verdict_in_range v ≡ true → HasRanges v
numbers_ranges word ns v h fits =
    let plan = both verdict.Plan (plain_numeral ns.0) (plain_numeral ns.1) in
    let found = both verdict.Unfinished (plain_numeral ns.0) (best_form ns.1) in
    ⊎_elim
    (λ e. let b = both_some verdict.Plan (plain_numeral ns.0) (plain_numeral ns.1) v e in
    plan_ranges v b.0 b.1 b.4 (plain_is_from_zero ns.0 b.0 b.2) (plain_is_from_zero ns.1 b.1 b.3) fits)
    (λ e. let b = both_some verdict.Unfinished (plain_numeral ns.0) (best_form ns.1) v (only (bytes_eq word (codes "unfinished")) found v e) in
    unfinished_ranges v ns.1 b.0 b.1 b.4 (plain_is_from_zero ns.0 b.0 b.2) b.3 fits)
    (either (bytes_eq word (codes "plan")) plan (cond (bytes_eq word (codes "unfinished")) found None) v h)

no_plan_ranges : (words : List (List ℕ)) (v : Verdict) → no_plan_form words ≡ Some v → HasRanges v
no_plan_ranges [] v h = let same : v ≡ verdict.NoPlan = cc in subst HasRanges (sym same) tt
no_plan_ranges (word ∷ words) v h = cc

pub verdict_ranges : (words : List (List ℕ)) (v : Verdict) → verdict_form words ≡ Some v → verdict_in_range v ≡ true → HasRanges v
verdict_ranges [] v h fits = cc
verdict_ranges (word ∷ words) v h fits =
    ⊎_elim
    (λ e. no_plan_ranges words v e)
    (λ e. let t = then_some (numbers_form word) (two words) v e in numbers_ranges word t.0 v t.2 fits)
    (either (bytes_eq word (codes "no-plan")) (no_plan_form words) (option_and_then (numbers_form word) (two words)) v h)

-- ---- multipliers, points and cuts
multipliers_stand : (words : List (List ℕ)) (m : Multipliers) → multipliers_form words ≡ Some m → multipliers_in_range m ≡ true → rises_from 0 m.entries ≡ true → AreWritable m
multipliers_stand [] m h fits rises = cc
multipliers_stand (q ∷ words) m h fits rises =
    let b = both_some multipliers (plain_numeral q) (counted_form signed_numeral words) m h in
    let t = and_true (multiplier_in_range b.0) (list_all row_in_range b.1) (sym (ap multipliers_in_range b.4) ∙ fits) in
    let rising = IsRising-by b.1 (sym (ap (λ x. rises_from 0 x.entries) b.4) ∙ rises) in
    subst AreWritable (sym b.4) (writable b.0 b.1 (plain_is_from_zero q b.0 b.2) t.0 t.1 rising)

point_stands : (has : Bool) (words : List (List ℕ)) (p : Option (List (ℕ × ℤ))) → entries_or_none has words ≡ Some p → point_in_range p ≡ true → point_rises p ≡ true → HasEntries p × (is_some p ≡ has)
point_stands true words None h fits rises = let t = mapped_some Some (counted_form plain_numeral words) None h in cc
point_stands true words (Some es) h fits rises =
    let t = mapped_some Some (counted_form plain_numeral words) (Some es) h in
    let same : t.0 ≡ es = cc in
    (AreEntries-read es (counted_from_zero words es (t.1 ∙ ap Some same)) fits (IsRising-by es rises), refl)
point_stands false words None h fits rises = (tt, refl)
point_stands false words (Some es) h fits rises =
    let t = then_some (λ word. cond (bytes_eq word (codes "none")) (Some None) None) (one words) (Some es) h in
    let e = only (bytes_eq t.0 (codes "none")) (Some None) (Some es) t.2 in
    cc

cut_stands : (words : List (List ℕ)) (l : CertLine) → cut_form words ≡ Some l → is_in_range l ≡ true → IsSplit l
cut_stands words l h fits =
    let t = then_some (λ p. both line.Split (numeral p.0) (plain_numeral p.1)) (two words) l h in
    let b = both_some line.Split (numeral t.0.0) (plain_numeral t.0.1) l t.2 in
    let r = and_true (number_in_range b.0) (cut_value_in_range b.1) (sym (ap is_in_range b.4) ∙ fits) in
    record {
      quantity = b.0;
      cut = b.1;
      is = b.4;
      writable = record {
        quantity_small = let most : b.0 ≤ NUMBER_LIMIT = grind (arith, nat_tests) in omega (arith, most);
        from_zero = plain_is_from_zero t.0.1 b.1 b.3;
        small = let most : unsigned_abs b.1 ≤ VALUE_LIMIT = grind (arith, nat_tests) in omega (arith, most);
      };
    }

leaf_stands : (words : List (List ℕ)) (l : CertLine) → option_map line.Leaf (multipliers_form words) ≡ Some l → is_in_range l ≡ true → is_in_order l ≡ true → IsLeaf l
leaf_stands words l h fits rises =
    let t = mapped_some line.Leaf (multipliers_form words) l h in
    record { mult = t.0; is = t.2; writable = multipliers_stand words t.0 t.1 (sym (ap is_in_range t.2) ∙ fits) (sym (ap is_in_order t.2) ∙ rises) }

-- ---- lines by their places
header_stands : (words : List (List ℕ)) (l : CertLine) → header_form words ≡ Some l → l ≡ line.Header
header_stands words l h =
    let t = then_some (λ p. cond (bytes_eq p.0 (codes "optimus-certificate") && bytes_eq p.1 (codes "1")) (Some line.Header) None) (two words) l h in
    let e = only (bytes_eq t.0.0 (codes "optimus-certificate") && bytes_eq t.0.1 (codes "1")) (Some line.Header) l t.2 in
    cc

verdict_stands : (words : List (List ℕ)) (l : CertLine) → option_map line.Verdict (verdict_form words) ≡ Some l → is_in_range l ≡ true → IsVerdict l
verdict_stands words l h fits =
    let t = mapped_some line.Verdict (verdict_form words) l h in
    record { verdict = t.0; is = t.2; ranges = verdict_ranges words t.0 t.1 (sym (ap is_in_range t.2) ∙ fits) }

root_stands : (words : List (List ℕ)) (l : CertLine) → root_form words ≡ Some l → is_in_range l ≡ true → is_in_order l ≡ true → IsRoot l
root_stands [] l h fits rises = cc
root_stands (word ∷ words) l h fits rises =
    let t = mapped_some line.Root (multipliers_form words) l (only (bytes_eq word (codes "root")) (option_map line.Root (multipliers_form words)) l h) in
    record { root = t.0; is = t.2; writable = multipliers_stand words t.0 t.1 (sym (ap is_in_range t.2) ∙ fits) (sym (ap is_in_order t.2) ∙ rises) }

point_line_stands : (has : Bool) (words : List (List ℕ)) (l : CertLine) → point_form has words ≡ Some l → is_in_range l ≡ true → is_in_order l ≡ true → IsPoint has l
point_line_stands has [] l h fits rises = cc
point_line_stands has (word ∷ words) l h fits rises =
    let t = mapped_some line.Point (entries_or_none has words) l (only (bytes_eq word (codes "point")) (option_map line.Point (entries_or_none has words)) l h) in
    let p = point_stands has words t.0 t.1 (sym (ap is_in_range t.2) ∙ fits) (sym (ap is_in_order t.2) ∙ rises) in
    record { point = t.0; is = t.2; entries = p.0; where_named = p.1 }

end_stands : (words : List (List ℕ)) (l : CertLine) → end_form words ≡ Some l → l ≡ line.End
end_stands words l h =
    let t = then_some (λ word. cond (bytes_eq word (codes "end")) (Some line.End) None) (one words) l h in
    let e = only (bytes_eq t.0 (codes "end")) (Some line.End) l t.2 in
    cc

node_stands : (words : List (List ℕ)) (l : CertLine) → node_form words ≡ Some l → is_in_range l ≡ true → is_in_order l ≡ true → IsSplit l ⊎ IsLeaf l
node_stands [] l h fits rises = cc
node_stands (word ∷ words) l h fits rises =
    let leaves = option_map line.Leaf (multipliers_form words) in
    ⊎_elim
    (λ e. inl (cut_stands words l e fits))
    (λ e. inr (leaf_stands words l (only (bytes_eq word (codes "leaf")) leaves l e) fits rises))
    (either (bytes_eq word (codes "split")) (cut_form words) (cond (bytes_eq word (codes "leaf")) leaves None) l h)

tree_stands : (trees : ℕ) (words : List (List ℕ)) (l : CertLine) → tree_form trees words ≡ Some l → is_in_range l ≡ true → is_in_order l ≡ true → StandsInTree trees l
tree_stands zero words l h fits rises = end_stands words l h
tree_stands (suc trees) words l h fits rises = node_stands words l h fits rises

pub form_stands : (p : Place) (words : List (List ℕ)) (l : CertLine) → form p words ≡ Some l → is_in_range l ≡ true → is_in_order l ≡ true → Stands p l
form_stands place.Header words l h fits rises = header_stands words l h
form_stands place.Verdict words l h fits rises = verdict_stands words l h fits
form_stands (place.Root has) words l h fits rises = root_stands words l h fits rises
form_stands (place.Point has) words l h fits rises = point_line_stands has words l h fits rises
form_stands (place.Nodes trees) words l h fits rises = tree_stands trees words l h fits rises
