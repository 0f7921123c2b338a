-- The terms of the cost, kind after kind.
use Rattle.std.proofs.Common.{◌≡◌, ℕ, List, ◌++◌, ℤ, sym, ap, ◌∙◌, append_assoc}
use Rattle.opt_model.specs.Rows.{Terms}
use Rattle.opt_model.specs.declared.quantity.Quantity.{Quantity}
use Rattle.opt_rows.specs.Gathering.{entries_of}
use Rattle.opt_rows.proofs.RowSteps.{entries_join}

-- four lists of terms one after another
pub four_terms : (qs : List Quantity) (a b c d : Terms) (n0 n1 n2 n3 n4 : List (ℕ × ℤ)) → n1 ≡ n0 ++ entries_of qs a → n2 ≡ n1 ++ entries_of qs b → n3 ≡ n2 ++ entries_of qs c
    → n4 ≡ n3 ++ entries_of qs d → n4 ≡ n0 ++ entries_of qs (a ++ (b ++ (c ++ d)))
four_terms qs a b c d n0 n1 n2 n3 n4 e1 e2 e3 e4 =
    let p2 : n2 ≡ n0 ++ entries_of qs (a ++ b) = more n1 n2 a b e1 e2 in
    let p3 : n3 ≡ n0 ++ entries_of qs ((a ++ b) ++ c) = more n2 n3 (a ++ b) c p2 e3 in
    let p4 : n4 ≡ n0 ++ entries_of qs (((a ++ b) ++ c) ++ d) = more n3 n4 ((a ++ b) ++ c) d p3 e4 in
    let flat : ((a ++ b) ++ c) ++ d ≡ a ++ (b ++ (c ++ d)) = simp append_assoc in
    p4 ∙ ap (λ (ts : Terms). n0 ++ entries_of qs ts) flat
  where
    more : (now new : List (ℕ × ℤ)) (all part : Terms) → now ≡ n0 ++ entries_of qs all → new ≡ now ++ entries_of qs part → new ≡ n0 ++ entries_of qs (all ++ part)
    more now new all part so_far added =
        added
        ∙ (ap (λ (es : List (ℕ × ℤ)). es ++ entries_of qs part) so_far
        ∙ (append_assoc n0 (entries_of qs all) (entries_of qs part) ∙ ap (λ (es : List (ℕ × ℤ)). n0 ++ es) (sym (entries_join qs all part))))
