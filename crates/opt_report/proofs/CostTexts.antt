-- The parts of a cost, month by month, and their records.
use Rattle.std.proofs.Common.{◌≡◌, ℕ, ◌+◌, ◌*◌, ◌^◌, ◌≤◌, List, ◌++◌, codes, ℤ, unsigned_abs, sym, subst, ap, ◌∙◌, arith, append_assoc}
use Rattle.std.specs.Fmt.{decimal}
use Rattle.std.specs.List.{flat_map, range_with_len}
use Rattle.std.proofs.lemmas.Int.{ints}
use Rattle.opt_model.specs.Plans.{Plan}
use Rattle.opt_model.specs.Tables.{Tables}
use Rattle.opt_report.specs.Spending.{MONTH_SIZE, AreUpTo, spent, spending_in, spending_until, together, spending_record}
use Rattle.opt_report.specs.declared.spending.CostPart.TheVariants.{Purchases, Fees, Shipping, Storage}
use Rattle.opt_report.specs.declared.spending.Spending.{Spending}
use Rattle.opt_report.proofs.Sums.{months_more}

abbrev parts : ℤ → ℤ → ℤ → ℤ → Spending
parts bought fees shipped stored = record { bought = bought; fees = fees; shipped = shipped; stored = stored }

pub same_parts : (a b c d e f g h : ℤ) → a ≡ e → b ≡ f → c ≡ g → d ≡ h → parts a b c d ≡ parts e f g h
same_parts a b c d e f g h p q r s = cc

-- the parts of one more month
spending_more : (t : Tables) (plan : Plan) (n : ℕ) → together (spending_until t plan n) (spending_in t plan (n + 1)) ≡ spending_until t plan (n + 1)
spending_more t plan n =
    same_parts _ _ _ _ _ _ _ _ (sym (months_more (spent t plan Purchases) n)) (sym (months_more (spent t plan Fees) n)) (sym (months_more (spent t plan Shipping) n))
    (sym (months_more (spent t plan Storage) n))

pub all_more : (t : Tables) (plan : Plan) (n : ℕ) (all month more : Spending) → all ≡ spending_until t plan n → month ≡ spending_in t plan (n + 1) → more ≡ together all month
    → more ≡ spending_until t plan (n + 1)
all_more t plan n all month more so_far is e =
    e ∙ (ap (λ s. together s month) so_far ∙ (ap (together (spending_until t plan n)) is ∙ spending_more t plan n))

-- the sizes of the parts
pub below : (m n : ℕ) (s : Spending) → m ≤ n → AreUpTo m s → AreUpTo n s
below m n s le h = record { bought = omega (arith, h.bought); fees = omega (arith, h.fees); shipped = omega (arith, h.shipped); stored = omega (arith, h.stored) }

pub more_up_to : (n : ℕ) (all month more : Spending) → more ≡ together all month → AreUpTo (MONTH_SIZE * n) all → AreUpTo MONTH_SIZE month → AreUpTo (MONTH_SIZE * (n + 1)) more
more_up_to n all month more e h k =
    subst (AreUpTo (MONTH_SIZE * (n + 1))) (sym e) (record {
      bought = omega (arith, ints, h.bought, k.bought);
      fees = omega (arith, ints, h.fees, k.fees);
      shipped = omega (arith, ints, h.shipped, k.shipped);
      stored = omega (arith, ints, h.stored, k.stored);
    })

-- the record of a month
pub month_record : (t : Tables) (plan : Plan) (old new name : List ℕ) (month : ℕ) (s : Spending) → name ≡ decimal month → s ≡ spending_in t plan month
    → new ≡ old ++ spending_record t name s → new ≡ old ++ spending_record t (decimal month) (spending_in t plan month)
month_record t plan old new name month s named is more =
    more ∙ (ap (λ bytes. old ++ spending_record t bytes s) named ∙ ap (λ s. old ++ spending_record t (decimal month) s) is)

-- the records of all months, and the last one
pub all_records : (t : Tables) (plan : Plan) (header old new : List ℕ) (n : ℕ) (s : Spending) → n ≡ t.settings.months
    → old ≡ header ++ flat_map (λ m. spending_record t (decimal m) (spending_in t plan m)) (range_with_len 1 n) → s ≡ spending_until t plan n
    → new ≡ old ++ spending_record t (codes "all") s
    → new ≡ header ++ (flat_map (λ m. spending_record t (decimal m) (spending_in t plan m)) (range_with_len 1 t.settings.months) ++ spending_record t (codes "all") (spending_until t plan t.settings.months))
all_records t plan header old new n s whole so_far is more =
    let months : List ℕ = flat_map (λ m. spending_record t (decimal m) (spending_in t plan m)) (range_with_len 1 n) in
    subst (λ (k : ℕ). new ≡ header ++ (flat_map (λ m. spending_record t (decimal m) (spending_in t plan m)) (range_with_len 1 k) ++ spending_record t (codes "all") (spending_until t plan k))) whole
    (more
    ∙ (ap (λ bytes. bytes ++ spending_record t (codes "all") s) so_far
    ∙ (append_assoc header months (spending_record t (codes "all") s) ∙ ap (λ s. header ++ (months ++ spending_record t (codes "all") s)) is)))
