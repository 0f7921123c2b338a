-- Lists that are made part by part, seen through a map that keeps their parts: the entries of terms and the rows of a system.
use Rattle.std.proofs.Common.{◌≡◌, ℕ, ◌+◌, ◌<◌, List, [], ◌∷◌, ◌++◌, length, take, get_or, map, ℤ, refl, sym, ap, ◌∙◌, append_assoc}
use Rattle.std.specs.List.{flat_map, range_with_len}
use Rattle.std.proofs.lemmas.List.{get_or_default, map-append}
use Rattle.std.proofs.lemmas.Grind.{flat_map-append}
use Rattle.opt_model.specs.Quantities.{over}
use Rattle.opt_model.specs.Rows.{Terms, Row}
use Rattle.opt_model.specs.declared.quantity.Quantity.{Quantity}
use Rattle.opt_network.proofs.MonthLists.{over_months_more}
use Rattle.opt_network.proofs.RecordLists.{over-more, over_next}
use Rattle.opt_model.specs.Rows.{at_least, at_least_row, at_most_row}
use Rattle.opt_model.specs.declared.quantity.RowName.{RowName}
use Rattle.opt_rows.specs.Gathering.{entry_of, entries_of, AddsRow, AddsLimit}
use Rattle.opt_rows.specs.Systems.{SystemRow, row_over}
use Rattle.opt_model.specs.Tables.{Tables}
use Rattle.opt_model.specs.declared.records.Arc.{Arc}
use Rattle.opt_model.specs.declared.records.Place.{Place}
use Rattle.opt_model.specs.declared.records.Offer.{Offer}
use Rattle.opt_tables.specs.Facts.{IsModel, IsArc, IsPlace, IsOffer}
use Rattle.opt_rows.proofs.CostSizes.{at_there}

module _ {A B : Type 0} (h : List A → List B) (joins : (xs ys : List A) → h (xs ++ ys) ≡ h xs ++ h ys) where
  -- one more part
  part_step : (old now new : List B) (all part more : List A) → now ≡ old ++ h all → new ≡ now ++ h part → all ++ part ≡ more → new ≡ old ++ h more
  part_step old now new all part more so_far added is =
      added ∙ (ap (λ ys. ys ++ h part) so_far ∙ (append_assoc old (h all) (h part) ∙ ap (λ ys. old ++ ys) (sym (joins all part) ∙ ap h is)))

  months_step : (old now new : List B) (f : ℕ → List A) (n : ℕ) → now ≡ old ++ h (flat_map f (range_with_len 1 n)) → new ≡ now ++ h (f (n + 1))
      → new ≡ old ++ h (flat_map f (range_with_len 1 (n + 1)))
  months_step old now new f n so_far added =
      part_step old now new (flat_map f (range_with_len 1 n)) (f (n + 1)) (flat_map f (range_with_len 1 (n + 1))) so_far added (over_months_more [] f n)

  numbers_step : {X : Type 0} (old now new : List B) (f : ℕ → List A) (xs : List X) (i : ℕ) → i < length xs → now ≡ old ++ h (over (take i xs) (λ n _. f n))
      → new ≡ now ++ h (f i) → new ≡ old ++ h (over (take (i + 1) xs) (λ n _. f n))
  numbers_step old now new f xs i lt so_far added =
      part_step old now new (over (take i xs) (λ n _. f n)) (f i) (over (take (i + 1) xs) (λ n _. f n)) so_far added (sym (over_next f xs i lt))

  records_step : {X : Type 0} (old now new : List B) (f : ℕ → X → List A) (xs : List X) (i : ℕ) (x : X) → i < length xs → x ≡ get_or xs i x
      → now ≡ old ++ h (over (take i xs) f) → new ≡ now ++ h (f i x) → new ≡ old ++ h (over (take (i + 1) xs) f)
  records_step old now new f xs i x lt read so_far added =
      part_step old now new (over (take i xs) f) (f i x) (over (take (i + 1) xs) f) so_far added
      (ap (λ y. over (take i xs) f ++ f i y) read ∙ sym (over-more f xs i x lt))

-- the entries of terms
pub entries_join : (qs : List Quantity) (xs ys : Terms) → entries_of qs (xs ++ ys) ≡ entries_of qs xs ++ entries_of qs ys
entries_join qs xs ys = flat_map-append (entry_of qs) xs ys

pub month_terms : (qs : List Quantity) (old now new : List (ℕ × ℤ)) (f : ℕ → Terms) (n : ℕ) → now ≡ old ++ entries_of qs (flat_map f (range_with_len 1 n))
    → new ≡ now ++ entries_of qs (f (n + 1)) → new ≡ old ++ entries_of qs (flat_map f (range_with_len 1 (n + 1)))
month_terms qs = months_step (entries_of qs) (entries_join qs)

pub number_terms : {X : Type 0} (qs : List Quantity) (old now new : List (ℕ × ℤ)) (f : ℕ → Terms) (xs : List X) (i : ℕ) → i < length xs
    → now ≡ old ++ entries_of qs (over (take i xs) (λ n _. f n)) → new ≡ now ++ entries_of qs (f i) → new ≡ old ++ entries_of qs (over (take (i + 1) xs) (λ n _. f n))
number_terms qs = numbers_step (entries_of qs) (entries_join qs)

pub record_terms : {X : Type 0} (qs : List Quantity) (old now new : List (ℕ × ℤ)) (f : ℕ → X → Terms) (xs : List X) (i : ℕ) (x : X) → i < length xs → x ≡ get_or xs i x
    → now ≡ old ++ entries_of qs (over (take i xs) f) → new ≡ now ++ entries_of qs (f i x) → new ≡ old ++ entries_of qs (over (take (i + 1) xs) f)
record_terms qs = records_step (entries_of qs) (entries_join qs)

-- the rows of a system
pub rows_join : (qs : List Quantity) (xs ys : List Row) → map (row_over qs) (xs ++ ys) ≡ map (row_over qs) xs ++ map (row_over qs) ys
rows_join qs xs ys = map-append (row_over qs) xs ys

pub month_rows : (qs : List Quantity) (old now new : List SystemRow) (f : ℕ → List Row) (n : ℕ) → now ≡ old ++ map (row_over qs) (flat_map f (range_with_len 1 n))
    → new ≡ now ++ map (row_over qs) (f (n + 1)) → new ≡ old ++ map (row_over qs) (flat_map f (range_with_len 1 (n + 1)))
month_rows qs = months_step (map (row_over qs)) (rows_join qs)

pub number_rows : {X : Type 0} (qs : List Quantity) (old now new : List SystemRow) (f : ℕ → List Row) (xs : List X) (i : ℕ) → i < length xs
    → now ≡ old ++ map (row_over qs) (over (take i xs) (λ n _. f n)) → new ≡ now ++ map (row_over qs) (f i) → new ≡ old ++ map (row_over qs) (over (take (i + 1) xs) (λ n _. f n))
number_rows qs = numbers_step (map (row_over qs)) (rows_join qs)

pub record_rows : {X : Type 0} (qs : List Quantity) (old now new : List SystemRow) (f : ℕ → X → List Row) (xs : List X) (i : ℕ) (x : X) → i < length xs → x ≡ get_or xs i x
    → now ≡ old ++ map (row_over qs) (over (take i xs) f) → new ≡ now ++ map (row_over qs) (f i x) → new ≡ old ++ map (row_over qs) (over (take (i + 1) xs) f)
record_rows qs = records_step (map (row_over qs)) (rows_join qs)

-- what holds of an arc that is there
pub arc_facts : (t : Tables) → IsModel t → (i : ℕ) (arc : Arc) → i < length t.arcs → arc ≡ get_or t.arcs i arc → IsArc t arc
arc_facts t model i arc within is = at_there (IsArc t) t.arcs i arc (record { within = within; is = is }) model.arcs

-- seven lists of rows one after another
pub seven_lists : (qs : List Quantity) (a1 a2 a3 a4 a5 a6 a7 a8 a9 : List Row) (cap n0 n1 n2 n3 n4 n5 n6 n7 : List SystemRow) → n0 ≡ []
    → n1 ≡ n0 ++ map (row_over qs) a1 → n2 ≡ n1 ++ map (row_over qs) a2 → n3 ≡ n2 ++ map (row_over qs) a3 → n4 ≡ n3 ++ map (row_over qs) (a4 ++ (a5 ++ (a6 ++ a7)))
    → n5 ≡ n4 ++ map (row_over qs) a8 → n6 ≡ n5 ++ map (row_over qs) a9 → n7 ≡ n6 ++ cap
    → n7 ≡ map (row_over qs) (a1 ++ (a2 ++ (a3 ++ (a4 ++ (a5 ++ (a6 ++ (a7 ++ (a8 ++ a9)))))))) ++ cap
seven_lists qs a1 a2 a3 a4 a5 a6 a7 a8 a9 cap n0 n1 n2 n3 n4 n5 n6 n7 e0 e1 e2 e3 e4 e5 e6 e7 =
    let p1 : n1 ≡ map (row_over qs) a1 = e1 ∙ ap (λ n. n ++ map (row_over qs) a1) e0 in
    let p2 : n2 ≡ map (row_over qs) (a1 ++ a2) = more n1 n2 a1 a2 p1 e2 in
    let p3 : n3 ≡ map (row_over qs) ((a1 ++ a2) ++ a3) = more n2 n3 (a1 ++ a2) a3 p2 e3 in
    let p4 : n4 ≡ map (row_over qs) (((a1 ++ a2) ++ a3) ++ (a4 ++ (a5 ++ (a6 ++ a7)))) = more n3 n4 ((a1 ++ a2) ++ a3) (a4 ++ (a5 ++ (a6 ++ a7))) p3 e4 in
    let p5 : n5 ≡ map (row_over qs) ((((a1 ++ a2) ++ a3) ++ (a4 ++ (a5 ++ (a6 ++ a7)))) ++ a8) = more n4 n5 (((a1 ++ a2) ++ a3) ++ (a4 ++ (a5 ++ (a6 ++ a7)))) a8 p4 e5 in
    let p6 : n6 ≡ map (row_over qs) (((((a1 ++ a2) ++ a3) ++ (a4 ++ (a5 ++ (a6 ++ a7)))) ++ a8) ++ a9) = more n5 n6 ((((a1 ++ a2) ++ a3) ++ (a4 ++ (a5 ++ (a6 ++ a7)))) ++ a8) a9 p5 e6 in
    let flat : ((((a1 ++ a2) ++ a3) ++ (a4 ++ (a5 ++ (a6 ++ a7)))) ++ a8) ++ a9 ≡ a1 ++ (a2 ++ (a3 ++ (a4 ++ (a5 ++ (a6 ++ (a7 ++ (a8 ++ a9))))))) = simp append_assoc in
    e7 ∙ ap (λ n. n ++ cap) (p6 ∙ ap (map (row_over qs)) flat)
  where
    more : (now new : List SystemRow) (all part : List Row) → now ≡ map (row_over qs) all → new ≡ now ++ map (row_over qs) part → new ≡ map (row_over qs) (all ++ part)
    more now new all part so_far added = added ∙ (ap (λ n. n ++ map (row_over qs) part) so_far ∙ sym (rows_join qs all part))

pub place_facts : (t : Tables) → IsModel t → (i : ℕ) (place : Place) → i < length t.places → place ≡ get_or t.places i place → IsPlace place
place_facts t model i place within is = at_there IsPlace t.places i place (record { within = within; is = is }) model.places

-- the row of a limit on terms that were the first ones
pub limit_added : (qs : List Quantity) (name : RowName) (terms : Terms) (limit : ℤ) (start entries : List (ℕ × ℤ)) (old new : List SystemRow) → start ≡ []
    → entries ≡ start ++ entries_of qs terms → AddsLimit qs entries limit old new → new ≡ old ++ map (row_over qs) (at_most_row name terms limit)
limit_added qs name terms limit start entries old new none is added = added terms (is ∙ ap (λ e. e ++ entries_of qs terms) none)

pub offer_facts : (t : Tables) → IsModel t → (i : ℕ) (offer : Offer) → i < length t.offers → offer ≡ get_or t.offers i offer → IsOffer t offer
offer_facts t model i offer within is = at_there (IsOffer t) t.offers i offer (record { within = within; is = is }) model.offers

-- the row of two terms
pub pair_added : (qs : List Quantity) (name : RowName) (a c : Quantity × ℤ) (q : Quantity) (z right : ℤ) (n0 n1 n2 : List (ℕ × ℤ)) (old new : List SystemRow) → n0 ≡ []
    → n1 ≡ n0 ++ entries_of qs (a ∷ []) → n2 ≡ n1 ++ entries_of qs (c ∷ []) → c.0 ≡ q → c.1 ≡ z → AddsRow qs n2 at_least right old new
    → new ≡ old ++ map (row_over qs) (at_least_row name (a ∷ (q, z) ∷ []) right)
pair_added qs name a c q z right n0 n1 n2 old new e0 e1 e2 quantity coefficient added =
    let first : Quantity → Quantity × ℤ = λ p. (p, c.1) in
    let second : ℤ → Quantity × ℤ = λ y. (q, y) in
    let is : c ≡ (q, z) = ap first quantity ∙ ap second coefficient in
    added (a ∷ (q, z) ∷ [])
    (e2
    ∙ (ap (λ n. n ++ entries_of qs (c ∷ [])) (e1 ∙ ap (λ n. n ++ entries_of qs (a ∷ [])) e0)
    ∙ (ap (λ (d : Quantity × ℤ). entries_of qs (a ∷ []) ++ entries_of qs (d ∷ [])) is ∙ sym (entries_join qs (a ∷ []) ((q, z) ∷ [])))))

-- rows after rows
pub both_rows : (qs : List Quantity) (xs ys : List Row) (old now new : List SystemRow) → now ≡ old ++ map (row_over qs) xs → new ≡ now ++ map (row_over qs) ys
    → new ≡ old ++ map (row_over qs) (xs ++ ys)
both_rows qs xs ys old now new first second = part_step (map (row_over qs)) (rows_join qs) old now new xs ys (xs ++ ys) first second refl

-- four lists of rows after rows
pub four_lists : (qs : List Quantity) (a b c d : List Row) (n0 n1 n2 n3 n4 : List SystemRow) → n1 ≡ n0 ++ map (row_over qs) a → n2 ≡ n1 ++ map (row_over qs) b
    → n3 ≡ n2 ++ map (row_over qs) c → n4 ≡ n3 ++ map (row_over qs) d → n4 ≡ n0 ++ map (row_over qs) (a ++ (b ++ (c ++ d)))
four_lists qs a b c d n0 n1 n2 n3 n4 e1 e2 e3 e4 = both_rows qs a (b ++ (c ++ d)) n0 n1 n4 e1 (both_rows qs b (c ++ d) n1 n2 n4 e2 (both_rows qs c d n2 n3 n4 e3 e4))

-- a term of this quantity and coefficient
pub term_is : (c : Quantity × ℤ) (q : Quantity) (z : ℤ) → c.0 ≡ q → c.1 ≡ z → c ≡ (q, z)
term_is c q z quantity coefficient =
    let first : Quantity → Quantity × ℤ = λ p. (p, c.1) in
    let second : ℤ → Quantity × ℤ = λ y. (q, y) in
    ap first quantity ∙ ap second coefficient

-- an element that is read from a list that is another
pub read_at : {A : Type 0} (xs ys : List A) (i : ℕ) (d : A) → xs ≡ ys → i < length ys → get_or xs i d ≡ get_or ys i (get_or xs i d)
read_at xs ys i d same within = ap (λ zs. get_or zs i d) same ∙ get_or_default ys i d (get_or xs i d) within
