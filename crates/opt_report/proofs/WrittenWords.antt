-- The first fields of a quantity's record: three words that stay as they are where blanks are dropped.
use Rattle.std.proofs.Common.{◌≡◌, ◌<◌, ◌≤◌, ◌&&◌, ℕ, Bool, true, false, List, [], ◌∷◌, length, get_or, All, IsUtf8, codes, refl, sym, subst, arith}
use Rattle.std.specs.Prelude.{slice_get}
use Rattle.std.specs.Option.{option_map_or}
use Rattle.std.proofs.lemmas.Str.{IsUtf8-nil}
use Rattle.opt_model.specs.Settings.{has_baskets}
use Rattle.opt_model.specs.Tables.{Tables}
use Rattle.opt_model.specs.Texts.{words_of, month_of, record_name}
use Rattle.opt_model.specs.declared.quantity.Quantity.{Quantity}
use Rattle.opt_model.specs.declared.quantity.Quantity.TheVariants as quantity
use Rattle.opt_network.specs.Numbering.{has_quantity, has_month}
use Rattle.opt_network.proofs.Ranges.{record_there, first_there, commodity_there, month_there}
use Rattle.opt_read.specs.Grid.{without_blanks}
use Rattle.opt_tables.specs.Facts.{IsCleanName, IsModel, IsNeedIn}
use Rattle.opt_report.proofs.ReadNames.{there}
use Rattle.opt_report.proofs.ReadSubjects.{no_need}
use Rattle.opt_report.proofs.WrittenText.{ascii_text}

-- a text that stays as it is where blanks are dropped
pub record IsWord (word : List ℕ) : Type 0 where
  pub stripped : without_blanks word ≡ word
  pub text : IsUtf8 word

-- three of them
pub record AreWords (words : List (List ℕ)) : Type 0 where
  pub kind : List ℕ
  pub name : List ℕ
  pub item : List ℕ
  pub are : words ≡ kind ∷ name ∷ item ∷ []
  pub kind_is : IsWord kind
  pub name_is : IsWord name
  pub item_is : IsWord item

no_word : IsWord []
no_word = record { stripped = refl; text = IsUtf8-nil }

of_name : (name : List ℕ) → IsCleanName name → IsWord name
of_name name clean = record { stripped = clean.stripped; text = clean.text }

-- the name of a record that is there
name_word : {A : Type 0} (name_of : A → List ℕ) (rs : List A) (i : ℕ) → i < length rs → All (λ r. IsCleanName (name_of r)) rs → IsWord (option_map_or name_of (slice_get rs i) [])
name_word name_of [] i h clean = absurd (omega arith)
name_word name_of (x ∷ xs) i h clean = subst IsWord (sym (there (x ∷ xs) i x name_of [] h)) (of_name (name_of (get_or (x ∷ xs) i x)) (clean i x h))

module _ (t : Tables) (model : IsModel t) where
  commodity : (c : ℕ) → c < length t.commodities → IsWord (record_name t.commodities c (λ r. r.commodity))
  commodity c h = name_word (λ r. r.commodity) t.commodities c h model.names.commodities

  need_basket : (d : ℕ) → d < length t.needs → IsWord (record_name t.needs d (λ r. record_name t.baskets r.basket (λ b. b.basket)))
  need_basket d h =
      let in_tables : IsNeedIn t (get_or t.needs d no_need) = model.needs_in d no_need h in
      subst IsWord (sym (there t.needs d no_need (λ r. record_name t.baskets r.basket (λ b. b.basket)) [] h)) (name_word (λ b. b.basket) t.baskets _ in_tables.basket model.names.baskets)

  need_nutrient : (d : ℕ) → d < length t.needs → IsWord (record_name t.needs d (λ r. record_name t.nutrients r.nutrient (λ n. n.nutrient)))
  need_nutrient d h =
      let in_tables : IsNeedIn t (get_or t.needs d no_need) = model.needs_in d no_need h in
      subst IsWord (sym (there t.needs d no_need (λ r. record_name t.nutrients r.nutrient (λ n. n.nutrient)) [] h)) (name_word (λ n. n.nutrient) t.nutrients _ in_tables.nutrient model.names.nutrients)

  ration_words : (b c m : ℕ) → b < length t.baskets → c < length t.commodities → (f : Bool) → has_baskets t.settings.format ≡ f → AreWords (words_of t (quantity.Ration b c m))
  ration_words b c m hb hc true e = record {
    kind = codes "ration";
    name = record_name t.baskets b (λ r. r.basket);
    item = record_name t.commodities c (λ r. r.commodity);
    are = rw e refl;
    kind_is = record { stripped = refl; text = ascii_text (codes "ration") refl };
    name_is = name_word (λ r. r.basket) t.baskets b hb model.names.baskets;
    item_is = commodity c hc;
  }
  ration_words b c m hb hc false e = record {
    kind = codes "ration";
    name = record_name t.commodities c (λ r. r.commodity);
    item = [];
    are = rw e refl;
    kind_is = record { stripped = refl; text = ascii_text (codes "ration") refl };
    name_is = commodity c hc;
    item_is = no_word;
  }

  short_words : (d m : ℕ) → d < length t.needs → (f : Bool) → has_baskets t.settings.format ≡ f → AreWords (words_of t (quantity.Short d m))
  short_words d m hd true e = record {
    kind = codes "short";
    name = record_name t.needs d (λ r. record_name t.baskets r.basket (λ b. b.basket));
    item = record_name t.needs d (λ r. record_name t.nutrients r.nutrient (λ n. n.nutrient));
    are = rw e refl;
    kind_is = record { stripped = refl; text = ascii_text (codes "short") refl };
    name_is = need_basket d hd;
    item_is = need_nutrient d hd;
  }
  short_words d m hd false e = record {
    kind = codes "short";
    name = record_name t.needs d (λ r. record_name t.nutrients r.nutrient (λ n. n.nutrient));
    item = [];
    are = rw e refl;
    kind_is = record { stripped = refl; text = ascii_text (codes "short") refl };
    name_is = need_nutrient d hd;
    item_is = no_word;
  }

  -- the words of a quantity that exists
  pub words_are : (q : Quantity) → has_quantity t q ≡ true → AreWords (words_of t q)
  words_are (quantity.Ration b c m) e = ration_words b c m (record_there t.baskets b _ e) (commodity_there t _ _ c e) (has_baskets t.settings.format) refl
  words_are (quantity.Short d m) e = short_words d m (record_there t.needs d _ e) (has_baskets t.settings.format) refl
  words_are (quantity.Buy o m) e = record {
    kind = codes "buy";
    name = record_name t.offers o (λ r. r.offer);
    item = [];
    are = refl;
    kind_is = record { stripped = refl; text = ascii_text (codes "buy") refl };
    name_is = name_word (λ r. r.offer) t.offers o (first_there _ t.offers o _ e) model.names.offers;
    item_is = no_word;
  }
  words_are (quantity.Ship a c m) e = record {
    kind = codes "ship";
    name = record_name t.arcs a (λ r. r.arc);
    item = record_name t.commodities c (λ r. r.commodity);
    are = refl;
    kind_is = record { stripped = refl; text = ascii_text (codes "ship") refl };
    name_is = name_word (λ r. r.arc) t.arcs a (first_there _ t.arcs a _ e) model.names.arcs;
    item_is = commodity c (commodity_there t _ _ c e);
  }
  words_are (quantity.Keep p c m) e = record {
    kind = codes "keep";
    name = record_name t.places p (λ r. r.place);
    item = record_name t.commodities c (λ r. r.commodity);
    are = refl;
    kind_is = record { stripped = refl; text = ascii_text (codes "keep") refl };
    name_is = name_word (λ r. r.place) t.places p (first_there _ t.places p _ e) model.names.places;
    item_is = commodity c (commodity_there t _ _ c e);
  }
  words_are (quantity.Feed p c m) e = record {
    kind = codes "feed";
    name = record_name t.places p (λ r. r.place);
    item = record_name t.commodities c (λ r. r.commodity);
    are = refl;
    kind_is = record { stripped = refl; text = ascii_text (codes "feed") refl };
    name_is = name_word (λ r. r.place) t.places p (first_there _ t.places p _ e) model.names.places;
    item_is = commodity c (commodity_there t _ _ c e);
  }
  words_are (quantity.Order o m) e = record {
    kind = codes "order";
    name = record_name t.offers o (λ r. r.offer);
    item = [];
    are = refl;
    kind_is = record { stripped = refl; text = ascii_text (codes "order") refl };
    name_is = name_word (λ r. r.offer) t.offers o (first_there _ t.offers o _ e) model.names.offers;
    item_is = no_word;
  }

  last_month : (a : Bool) (m : ℕ) → (a && has_month t m) ≡ true → (1 ≤ m) × (m ≤ t.settings.months)
  last_month a m e = month_there t true a m e

  -- the month of a quantity that exists is one of the plan
  pub month_is : (q : Quantity) → has_quantity t q ≡ true → (1 ≤ month_of q) × (month_of q ≤ t.settings.months)
  month_is (quantity.Ration b c m) e = month_there t _ _ m e
  month_is (quantity.Short d m) e = last_month _ m e
  month_is (quantity.Buy o m) e = last_month _ m e
  month_is (quantity.Ship a c m) e = month_there t _ _ m e
  month_is (quantity.Keep p c m) e = month_there t _ _ m e
  month_is (quantity.Feed p c m) e = month_there t _ _ m e
  month_is (quantity.Order o m) e = last_month _ m e
