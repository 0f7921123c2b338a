-- What is written of a quantity is read as the quantity.
use Rattle.std.proofs.Common.{◌≡◌, ◌<◌, ◌≤◌, ◌+◌, ◌==◌, ◌&&◌, ℕ, Bool, true, false, cond, List, [], ◌∷◌, ◌++◌, map, length, get_or, count_by, bytes_eq, codes, All, Some, option_map, Ok, pos, refl, ap, sym, subst, ◌∙◌, arith}
use Rattle.std.specs.Prelude.{slice_get, nat_le, int_lt, int_le}
use Rattle.std.specs.Option.{option_map_or}
use Rattle.std.proofs.lemmas.Bool.{and_parts, and_from, eq-eqb}
use Rattle.std.proofs.lemmas.Option.{slice_get-get_or}
use Rattle.opt_base.specs.Answers.{◌>>=◌}
use Rattle.opt_base.specs.declared.refusal.File.TheVariants as file
use Rattle.opt_model.specs.Quantities.{is_offered, has_order, is_point, all_heads}
use Rattle.opt_model.specs.Settings.{has_baskets, has_lots}
use Rattle.opt_model.specs.Tables.{Tables}
use Rattle.opt_model.specs.Texts.{words_of, month_of, record_name}
use Rattle.opt_model.specs.declared.records.Need.{Need}
use Rattle.opt_model.specs.declared.records.Offer.{Offer}
use Rattle.opt_model.specs.declared.quantity.Quantity.{Quantity}
use Rattle.opt_model.specs.declared.quantity.Quantity.TheVariants as quantity
use Rattle.opt_network.specs.Numbering.{has_quantity, has_record, has_record_where, has_month}
use Rattle.opt_network.proofs.Lookups.{position-once}
use Rattle.opt_network.proofs.Ranges.{record_there, first_there, commodity_there}
use Rattle.opt_tables.specs.Facts.{IsCleanName, IsModel, HasNoLot, IsNeedIn, IsNeedOf}
use Rattle.opt_tables.specs.Records.{Record, text_in}
use Rattle.opt_report.specs.Subjects.{named_in, both_named_in, one_named_in, ration_in, short_in, subject_in, quantity_of, need_of, basket_names, commodity_names, nutrient_names, offer_names, arc_names, place_names}
use Rattle.opt_report.specs.declared.plan_subject.Subject.{Subject}
use Rattle.opt_report.specs.declared.plan_subject.Subject.TheVariants as subject
use Rattle.opt_report.proofs.ReadNames.{there, name_found, named_is}

-- a record of a plan file with these fields
abbrev pub plan_row : ℕ → List (List ℕ) → Record
plan_row number fields = record { file = file.Plan; number = number; fields = fields }

-- the name of a record that is there, in a column
named_there : {A : Type 0} (name_of : A → List ℕ) (rs : List A) (i : ℕ) (row : Record) (column : ℕ) → i < length rs → All (λ r. IsCleanName (name_of r)) rs
    → ((name : List ℕ) → count_by (λ r. bytes_eq (name_of r) name) rs ≤ 1) → text_in row column ≡ option_map_or name_of (slice_get rs i) []
    → named_in row column (map name_of rs) ≡ Ok i
named_there name_of [] i row column h clean once e = absurd (omega arith)
named_there name_of (x ∷ xs) i row column h clean once e =
    named_is row column (map name_of (x ∷ xs)) (name_of (get_or (x ∷ xs) i x)) i (e ∙ there (x ∷ xs) i x name_of [] h) (clean i x h) (name_found name_of (x ∷ xs) i x h once)

one_is : (row : Record) (names : List (List ℕ)) (i : ℕ) → named_in row 2 names ≡ Ok i → text_in row 3 ≡ [] → one_named_in row names ≡ Ok i
one_is row names i named empty = rw (named, empty) refl

both_is : (row : Record) (names items : List (List ℕ)) (i j : ℕ) → named_in row 2 names ≡ Ok i → named_in row 3 items ≡ Ok j → both_named_in row names items ≡ Ok (i, j)
both_is row names items i j first second = rw (first, second) refl

-- a record that is there passes the test
passes : {A : Type 0} (test : A → Bool) (xs : List A) (i : ℕ) (d : A) → has_record_where test xs i ≡ true → i < length xs → test (get_or xs i d) ≡ true
passes test xs i d e h = sym (ap (λ o. option_map_or test o false) (slice_get-get_or xs i d h)) ∙ e

pub no_need : Need
no_need = record { basket = 0; nutrient = 0; required = pos 0; max_short = pos 0; weight = pos 0 }

module _ (t : Tables) (model : IsModel t) where
  abbrev need_at : ℕ → Need
  need_at d = get_or t.needs d no_need

  -- what a quantity is about
  abbrev pub subject_of : Quantity → Subject
  subject_of (quantity.Ration b c m) = subject.Ration b c
  subject_of (quantity.Short d m) = subject.Short (need_at d).basket (need_at d).nutrient
  subject_of (quantity.Buy o m) = subject.Buy o
  subject_of (quantity.Ship a c m) = subject.Ship a c
  subject_of (quantity.Keep p c m) = subject.Keep p c
  subject_of (quantity.Feed p c m) = subject.Feed p c
  subject_of (quantity.Order o m) = subject.Order o

  -- an offer with a fee or a least lot is one of format 3
  lots : (o : ℕ) (d : Offer) → o < length t.offers → has_order (get_or t.offers o d) ≡ true → (b : Bool) → has_lots t.settings.format ≡ b → has_lots t.settings.format ≡ true
  lots o d h e true f = f
  lots o d h e false f =
      let none : HasNoLot (get_or t.offers o d) = model.no_lots f o d h in
      absurd (cc (rw (none.fee, none.least) at e))

  order_is : (offers : List Offer) → offers ≡ t.offers → (o m : ℕ) → o < length offers → has_record_where (λ offer. is_offered offer m && has_order offer) offers o ≡ true
      → has_lots t.settings.format ≡ true
  order_is [] same o m h e = absurd (omega arith)
  order_is (x ∷ xs) same o m h e =
      let both = passes (λ offer. is_offered offer m && has_order offer) (x ∷ xs) o x e h in
      let order : has_order (get_or (x ∷ xs) o x) ≡ true = (and_parts (is_offered (get_or (x ∷ xs) o x) m) (has_order (get_or (x ∷ xs) o x)) both).1 in
      lots o x (subst (λ (l : List Offer). o < length l) same h) (subst (λ (l : List Offer). has_order (get_or l o x) ≡ true) same order) (has_lots t.settings.format) refl

  one_basket : (b : ℕ) → b < length t.baskets → has_baskets t.settings.format ≡ false → b ≡ 0
  one_basket b h e =
      let only : length t.baskets ≡ 1 = ap length (model.first_format e).basket in
      omega (arith, only)

  -- what a record with these first fields is about
  abbrev row_with : ℕ → List ℕ → List ℕ → List ℕ → List (List ℕ) → Record
  row_with number kind name item rest = plan_row number (kind ∷ name ∷ item ∷ rest)

  abbrev commodity : ℕ → List ℕ
  commodity c = record_name t.commodities c (λ r. r.commodity)

  abbrev basket_needed : Need → List ℕ
  basket_needed r = record_name t.baskets r.basket (λ b. b.basket)

  abbrev nutrient_needed : Need → List ℕ
  nutrient_needed r = record_name t.nutrients r.nutrient (λ n. n.nutrient)

  basket_named : (b number : ℕ) (kind item : List ℕ) (rest : List (List ℕ)) → b < length t.baskets
      → named_in (row_with number kind (record_name t.baskets b (λ r. r.basket)) item rest) 2 (basket_names t) ≡ Ok b
  basket_named b number kind item rest h =
      named_there (λ r. r.basket) t.baskets b (row_with number kind (record_name t.baskets b (λ r. r.basket)) item rest) 2 h model.names.baskets model.keys.basket refl

  commodity_named : (c number : ℕ) (kind item : List ℕ) (rest : List (List ℕ)) → c < length t.commodities → named_in (row_with number kind (commodity c) item rest) 2 (commodity_names t) ≡ Ok c
  commodity_named c number kind item rest h =
      named_there (λ r. r.commodity) t.commodities c (row_with number kind (commodity c) item rest) 2 h model.names.commodities model.keys.commodity refl

  item_named : (c number : ℕ) (kind name : List ℕ) (rest : List (List ℕ)) → c < length t.commodities → named_in (row_with number kind name (commodity c) rest) 3 (commodity_names t) ≡ Ok c
  item_named c number kind name rest h =
      named_there (λ r. r.commodity) t.commodities c (row_with number kind name (commodity c) rest) 3 h model.names.commodities model.keys.commodity refl

  offer_named : (o number : ℕ) (kind item : List ℕ) (rest : List (List ℕ)) → o < length t.offers
      → named_in (row_with number kind (record_name t.offers o (λ r. r.offer)) item rest) 2 (offer_names t) ≡ Ok o
  offer_named o number kind item rest h =
      named_there (λ r. r.offer) t.offers o (row_with number kind (record_name t.offers o (λ r. r.offer)) item rest) 2 h model.names.offers model.keys.offer refl

  arc_named : (a number : ℕ) (kind item : List ℕ) (rest : List (List ℕ)) → a < length t.arcs
      → named_in (row_with number kind (record_name t.arcs a (λ r. r.arc)) item rest) 2 (arc_names t) ≡ Ok a
  arc_named a number kind item rest h =
      named_there (λ r. r.arc) t.arcs a (row_with number kind (record_name t.arcs a (λ r. r.arc)) item rest) 2 h model.names.arcs model.keys.arc refl

  place_named : (p number : ℕ) (kind item : List ℕ) (rest : List (List ℕ)) → p < length t.places
      → named_in (row_with number kind (record_name t.places p (λ r. r.place)) item rest) 2 (place_names t) ≡ Ok p
  place_named p number kind item rest h =
      named_there (λ r. r.place) t.places p (row_with number kind (record_name t.places p (λ r. r.place)) item rest) 2 h model.names.places model.keys.place refl

  need_basket_named : (d number : ℕ) (kind item : List ℕ) (rest : List (List ℕ)) → d < length t.needs
      → named_in (row_with number kind (record_name t.needs d basket_needed) item rest) 2 (basket_names t) ≡ Ok (need_at d).basket
  need_basket_named d number kind item rest h =
      let in_tables : IsNeedIn t (need_at d) = model.needs_in d no_need h in
      named_there (λ r. r.basket) t.baskets (need_at d).basket (row_with number kind (record_name t.needs d basket_needed) item rest) 2 in_tables.basket model.names.baskets model.keys.basket
      (there t.needs d no_need basket_needed [] h)

  need_nutrient_named : (d number : ℕ) (kind item : List ℕ) (rest : List (List ℕ)) → d < length t.needs
      → named_in (row_with number kind (record_name t.needs d nutrient_needed) item rest) 2 (nutrient_names t) ≡ Ok (need_at d).nutrient
  need_nutrient_named d number kind item rest h =
      let in_tables : IsNeedIn t (need_at d) = model.needs_in d no_need h in
      named_there (λ r. r.nutrient) t.nutrients (need_at d).nutrient (row_with number kind (record_name t.needs d nutrient_needed) item rest) 2 in_tables.nutrient model.names.nutrients
      model.keys.nutrient (there t.needs d no_need nutrient_needed [] h)

  need_item_named : (d number : ℕ) (kind name : List ℕ) (rest : List (List ℕ)) → d < length t.needs
      → named_in (row_with number kind name (record_name t.needs d nutrient_needed) rest) 3 (nutrient_names t) ≡ Ok (need_at d).nutrient
  need_item_named d number kind name rest h =
      let in_tables : IsNeedIn t (need_at d) = model.needs_in d no_need h in
      named_there (λ r. r.nutrient) t.nutrients (need_at d).nutrient (row_with number kind name (record_name t.needs d nutrient_needed) rest) 3 in_tables.nutrient model.names.nutrients
      model.keys.nutrient (there t.needs d no_need nutrient_needed [] h)

  ration_is : (number b c m : ℕ) (rest : List (List ℕ)) → b < length t.baskets → c < length t.commodities → (f : Bool) → has_baskets t.settings.format ≡ f
      → subject_in t (plan_row number (words_of t (quantity.Ration b c m) ++ rest)) ≡ Ok (subject.Ration b c)
  ration_is number b c m rest hb hc true e =
      let kind : List ℕ = codes "ration" in
      let name : List ℕ = record_name t.baskets b (λ r. r.basket) in
      let row : Record = row_with number kind name (commodity c) rest in
      let words : words_of t (quantity.Ration b c m) ≡ kind ∷ name ∷ commodity c ∷ [] = rw e refl in
      let here : ration_in t row ≡ Ok (subject.Ration b c) =
      ap (λ f. cond f (both_named_in row (basket_names t) (commodity_names t) >>= λ both. Ok (subject.Ration both.0 both.1)) (one_named_in row (commodity_names t) >>= λ n. Ok (subject.Ration 0 n))) e
      ∙ ap (λ r. r >>= λ both. Ok (subject.Ration both.0 both.1))
      (both_is row (basket_names t) (commodity_names t) b c (basket_named b number kind (commodity c) rest hb) (item_named c number kind name rest hc))
      in
      ap (λ fields. subject_in t (plan_row number (fields ++ rest))) words ∙ here
  ration_is number b c m rest hb hc false e =
      let kind : List ℕ = codes "ration" in
      let row : Record = row_with number kind (commodity c) [] rest in
      let words : words_of t (quantity.Ration b c m) ≡ kind ∷ commodity c ∷ [] ∷ [] = rw e refl in
      let here : ration_in t row ≡ Ok (subject.Ration b c) =
      ap (λ f. cond f (both_named_in row (basket_names t) (commodity_names t) >>= λ both. Ok (subject.Ration both.0 both.1)) (one_named_in row (commodity_names t) >>= λ n. Ok (subject.Ration 0 n))) e
      ∙ (ap (λ r. r >>= λ n. Ok (subject.Ration 0 n)) (one_is row (commodity_names t) c (commodity_named c number kind [] rest hc) refl)
      ∙ ap (λ n. Ok (subject.Ration n c)) (sym (one_basket b hb e)))
      in
      ap (λ fields. subject_in t (plan_row number (fields ++ rest))) words ∙ here

  short_is : (number d m : ℕ) (rest : List (List ℕ)) → d < length t.needs → (f : Bool) → has_baskets t.settings.format ≡ f
      → subject_in t (plan_row number (words_of t (quantity.Short d m) ++ rest)) ≡ Ok (subject.Short (need_at d).basket (need_at d).nutrient)
  short_is number d m rest hd true e =
      let kind : List ℕ = codes "short" in
      let name : List ℕ = record_name t.needs d basket_needed in
      let item : List ℕ = record_name t.needs d nutrient_needed in
      let row : Record = row_with number kind name item rest in
      let words : words_of t (quantity.Short d m) ≡ kind ∷ name ∷ item ∷ [] = rw e refl in
      let here : short_in t row ≡ Ok (subject.Short (need_at d).basket (need_at d).nutrient) =
      ap (λ f. cond f (both_named_in row (basket_names t) (nutrient_names t) >>= λ both. Ok (subject.Short both.0 both.1)) (one_named_in row (nutrient_names t) >>= λ n. Ok (subject.Short 0 n))) e
      ∙ ap (λ r. r >>= λ both. Ok (subject.Short both.0 both.1))
      (both_is row (basket_names t) (nutrient_names t) (need_at d).basket (need_at d).nutrient (need_basket_named d number kind item rest hd) (need_item_named d number kind name rest hd))
      in
      ap (λ fields. subject_in t (plan_row number (fields ++ rest))) words ∙ here
  short_is number d m rest hd false e =
      let kind : List ℕ = codes "short" in
      let name : List ℕ = record_name t.needs d nutrient_needed in
      let row : Record = row_with number kind name [] rest in
      let words : words_of t (quantity.Short d m) ≡ kind ∷ name ∷ [] ∷ [] = rw e refl in
      let order : IsNeedOf d (need_at d) = (model.first_format e).in_order d no_need hd in
      let here : short_in t row ≡ Ok (subject.Short (need_at d).basket (need_at d).nutrient) =
      ap (λ f. cond f (both_named_in row (basket_names t) (nutrient_names t) >>= λ both. Ok (subject.Short both.0 both.1)) (one_named_in row (nutrient_names t) >>= λ n. Ok (subject.Short 0 n))) e
      ∙ (ap (λ r. r >>= λ n. Ok (subject.Short 0 n)) (one_is row (nutrient_names t) (need_at d).nutrient (need_nutrient_named d number kind [] rest hd) refl)
      ∙ ap (λ n. Ok (subject.Short n (need_at d).nutrient)) (sym order.basket))
      in
      ap (λ fields. subject_in t (plan_row number (fields ++ rest))) words ∙ here

  -- the words of a quantity that exists are read as what it is about
  pub subject_is : (q : Quantity) (number : ℕ) (rest : List (List ℕ)) → has_quantity t q ≡ true → subject_in t (plan_row number (words_of t q ++ rest)) ≡ Ok (subject_of q)
  subject_is (quantity.Ration b c m) number rest e =
      ration_is number b c m rest (record_there t.baskets b (has_record t.commodities c && has_month t m) e) (commodity_there t (has_record t.baskets b) (has_month t m) c e) (has_baskets t.settings.format) refl
  subject_is (quantity.Short d m) number rest e = short_is number d m rest (record_there t.needs d (has_month t m) e) (has_baskets t.settings.format) refl
  subject_is (quantity.Buy o m) number rest e =
      let kind : List ℕ = codes "buy" in
      let row : Record = row_with number kind (record_name t.offers o (λ r. r.offer)) [] rest in
      let h : o < length t.offers = first_there (λ offer. is_offered offer m) t.offers o (has_month t m) e in
      ap (λ r. r >>= λ offer. Ok (subject.Buy offer)) (one_is row (offer_names t) o (offer_named o number kind [] rest h) refl)
  subject_is (quantity.Ship a c m) number rest e =
      let kind : List ℕ = codes "ship" in
      let name : List ℕ = record_name t.arcs a (λ r. r.arc) in
      let h : a < length t.arcs = first_there (λ arc. nat_le (m + arc.lead) t.settings.months) t.arcs a (has_record t.commodities c && has_month t m) e in
      let hc : c < length t.commodities = commodity_there t (has_record_where (λ arc. nat_le (m + arc.lead) t.settings.months) t.arcs a) (has_month t m) c e in
      ap (λ r. r >>= λ both. Ok (subject.Ship both.0 both.1))
      (both_is (row_with number kind name (commodity c) rest) (arc_names t) (commodity_names t) a c (arc_named a number kind (commodity c) rest h) (item_named c number kind name rest hc))
  subject_is (quantity.Keep p c m) number rest e =
      let kind : List ℕ = codes "keep" in
      let name : List ℕ = record_name t.places p (λ r. r.place) in
      let h : p < length t.places = first_there (λ place. int_lt (pos 0) place.storage) t.places p (has_record t.commodities c && has_month t m) e in
      let hc : c < length t.commodities = commodity_there t (has_record_where (λ place. int_lt (pos 0) place.storage) t.places p) (has_month t m) c e in
      ap (λ r. r >>= λ both. Ok (subject.Keep both.0 both.1))
      (both_is (row_with number kind name (commodity c) rest) (place_names t) (commodity_names t) p c (place_named p number kind (commodity c) rest h) (item_named c number kind name rest hc))
  subject_is (quantity.Feed p c m) number rest e =
      let kind : List ℕ = codes "feed" in
      let name : List ℕ = record_name t.places p (λ r. r.place) in
      let h : p < length t.places = first_there (λ place. is_point place.kind && int_le (pos 1) (all_heads t p m)) t.places p (has_record t.commodities c && has_month t m) e in
      let hc : c < length t.commodities =
      commodity_there t (has_record_where (λ place. is_point place.kind && int_le (pos 1) (all_heads t p m)) t.places p) (has_month t m) c e
      in
      ap (λ r. r >>= λ both. Ok (subject.Feed both.0 both.1))
      (both_is (row_with number kind name (commodity c) rest) (place_names t) (commodity_names t) p c (place_named p number kind (commodity c) rest h) (item_named c number kind name rest hc))
  subject_is (quantity.Order o m) number rest e =
      let kind : List ℕ = codes "order" in
      let row : Record = row_with number kind (record_name t.offers o (λ r. r.offer)) [] rest in
      let ordered = has_record_where (λ offer. is_offered offer m && has_order offer) t.offers o in
      let h : o < length t.offers = first_there (λ offer. is_offered offer m && has_order offer) t.offers o (has_month t m) e in
      let lots_too : has_lots t.settings.format ≡ true = order_is t.offers refl o m h (and_parts ordered (has_month t m) e).0 in
      rw lots_too (ap (λ r. r >>= λ offer. Ok (subject.Order offer)) (one_is row (offer_names t) o (offer_named o number kind [] rest h) refl))

  -- and that is the quantity, in its month
  pub quantity_back : (q : Quantity) → has_quantity t q ≡ true → quantity_of t (subject_of q) (month_of q) ≡ Some q
  quantity_back (quantity.Ration b c m) e = refl
  quantity_back (quantity.Short d m) e =
      let need : Need = need_at d in
      let within : d < length t.needs = record_there t.needs d _ e in
      let found : need_of t need.basket need.nutrient ≡ Some d =
      position-once (λ r. (r.basket == need.basket) && (r.nutrient == need.nutrient)) t.needs d need (slice_get-get_or t.needs d no_need within)
      (and_from (need.basket == need.basket) (need.nutrient == need.nutrient) (eq-eqb need.basket need.basket refl) (eq-eqb need.nutrient need.nutrient refl))
      (model.keys.need need.basket need.nutrient)
      in
      ap (option_map (λ n. quantity.Short n m)) found
  quantity_back (quantity.Buy o m) e = refl
  quantity_back (quantity.Ship a c m) e = refl
  quantity_back (quantity.Keep p c m) e = refl
  quantity_back (quantity.Feed p c m) e = refl
  quantity_back (quantity.Order o m) e = refl
