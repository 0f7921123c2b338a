-- Lists one after another, and the columns of rows in one list.
use Rattle.std.proofs.Common.{◌≡◌, ◌⊎◌, inl, inr, ℕ, ◌+◌, ◌-◌, ◌≤◌, ◌<◌, List, [], ◌∷◌, ◌++◌, length, take, drop, get_or, slice_index, slice_range, ℤ, refl, ap, sym, ◌∙◌, arith, length-append, length-drop}
use Rattle.std.proofs.Math.ListN.{length-take, get_or-append}
use Rattle.std.proofs.Math.Seq.{take-length, drop-append_seam}
use Rattle.std.proofs.lemmas.List.{get_or-take, get_or_push, take-append-le, drop-append-le}
use Rattle.opt_system.specs.declared.rows.Row.{Row}
use Rattle.opt_system.specs.Columns.{AreColumns, AreJoined, HoldColumns, IsBetween, column_at}

-- no list
pub AreJoined-none : AreJoined [] (0 ∷ []) []
AreJoined-none = record {
  each_list = refl;
  last = refl;
  between = λ j h. absurd (omega arith);
  same_terms = λ j h. absurd (omega arith);
}

-- a part of a list stays where it is when something comes behind
part_before : (xs ys : List (ℕ × ℤ)) (a b : ℕ) → a ≤ b → b ≤ length xs → slice_range (xs ++ ys) a b ≡ slice_range xs a b
part_before xs ys a b h k =
    let short : a ≤ length xs = omega arith in
    let part : b - a ≤ length (drop a xs) = omega (arith, length-drop a xs) in
    ap (take (b - a)) (drop-append-le a xs ys short) ∙ take-append-le (b - a) (drop a xs) ys part

-- what comes behind is the rest
part_behind : (xs ys : List (ℕ × ℤ)) (a b : ℕ) → a ≡ length xs → b ≡ length xs + length ys → slice_range (xs ++ ys) a b ≡ ys
part_behind xs ys a b e f =
    let size : b - a ≡ length ys = omega arith in
    ap (λ n. take n (drop a (xs ++ ys))) size
    ∙ ap (λ n. take (length ys) (drop n (xs ++ ys))) e
    ∙ ap (take (length ys)) (drop-append_seam xs ys)
    ∙ take-length ys

-- one list more
pub AreJoined-more : (terms : List (ℕ × ℤ)) (starts : List ℕ) (lists : List (List (ℕ × ℤ))) (k : ℕ) (c : List (ℕ × ℤ)) → k < length lists → c ≡ get_or lists k [] → AreJoined terms starts (take k lists) → AreJoined (terms ++ c) (starts ++ length (terms ++ c) ∷ []) (take (k + 1) lists)
AreJoined-more terms starts lists k c h is joined =
    record {
      each_list = omega (arith, length-append starts (length (terms ++ c) ∷ []), size, longer, joined.each_list);
      last = ap (slice_index (starts ++ length (terms ++ c) ∷ [])) longer ∙ next;
      between = λ j below. elim (earlier_or_last j (omega (arith, longer))) [
        | inl before ↦ record {
          has_next = omega (arith, length-append starts (length (terms ++ c) ∷ []), (old j before).has_next);
          rising = omega (arith, same j (omega arith), same (j + 1) (omega arith), (old j before).rising);
          in_list = omega (arith, same (j + 1) (omega arith), (old j before).in_list, length-append terms c);
        }
        | inr now ↦ record {
          has_next = omega (arith, length-append starts (length (terms ++ c) ∷ []), now, starts_size);
          rising = omega (arith, here j now, there j now, length-append terms c);
          in_list = omega (arith, there j now);
        }
      ];
      same_terms = λ j below. elim (earlier_or_last j (omega (arith, longer))) [
        | inl before ↦
            ap (λ a. slice_range (terms ++ c) a (slice_index (starts ++ length (terms ++ c) ∷ []) (j + 1))) (same j (omega arith))
            ∙ ap (slice_range (terms ++ c) (slice_index starts j)) (same (j + 1) (omega arith))
            ∙ part_before terms c (slice_index starts j) (slice_index starts (j + 1)) (old j before).rising (old j before).in_list
            ∙ joined.same_terms j (omega (arith, size))
            ∙ get_or-take k lists j [] before
            ∙ sym (get_or-take (k + 1) lists j [] (omega arith))
        | inr now ↦
            part_behind terms c (slice_index (starts ++ length (terms ++ c) ∷ []) j) (slice_index (starts ++ length (terms ++ c) ∷ []) (j + 1)) (here j now) (there j now ∙ length-append terms c)
            ∙ is
            ∙ ap (column_at lists) (sym now)
            ∙ sym (get_or-take (k + 1) lists j [] (omega arith))
      ];
    }
  where
    size : length (take k lists) ≡ k
    size = omega (arith, length-take k lists)

    longer : length (take (k + 1) lists) ≡ k + 1
    longer = omega (arith, length-take (k + 1) lists)

    starts_size : length starts ≡ k + 1
    starts_size = omega (arith, joined.each_list, size)

    next : slice_index (starts ++ length (terms ++ c) ∷ []) (k + 1) ≡ length (terms ++ c)
    next = get_or_push starts (length (terms ++ c)) 0 (k + 1) starts_size

    same : (j : ℕ) → j < k + 1 → slice_index (starts ++ length (terms ++ c) ∷ []) j ≡ slice_index starts j
    same j below = get_or-append starts (length (terms ++ c) ∷ []) 0 j (omega (arith, starts_size))

    old : (j : ℕ) → j < k → IsBetween terms starts j
    old j before = joined.between j (omega (arith, size))

    here : (j : ℕ) → j ≡ k → slice_index (starts ++ length (terms ++ c) ∷ []) j ≡ length terms
    here j now = same j (omega arith) ∙ ap (slice_index starts) (now ∙ sym size) ∙ joined.last

    there : (j : ℕ) → j ≡ k → slice_index (starts ++ length (terms ++ c) ∷ []) (j + 1) ≡ length (terms ++ c)
    there j now = ap (λ n. slice_index (starts ++ length (terms ++ c) ∷ []) (n + 1)) now ∙ next

    earlier_or_last : (j : ℕ) → j < k + 1 → (j < k) ⊎ (j ≡ k)
    earlier_or_last j below = grind arith

-- the joined columns of rows are held
pub HoldColumns-joined : (terms : List (ℕ × ℤ)) (starts : List ℕ) (columns : List (List (ℕ × ℤ))) (quantities : ℕ) (rows : List Row) → AreJoined terms starts columns → AreColumns columns quantities rows → HoldColumns terms starts quantities rows
HoldColumns-joined terms starts columns quantities rows joined are = record {
  between = λ j h. joined.between j (omega (arith, are.each_quantity));
  same_terms = λ j h. joined.same_terms j (omega (arith, are.each_quantity)) ∙ are.same_terms j (omega (arith, are.each_quantity));
}
