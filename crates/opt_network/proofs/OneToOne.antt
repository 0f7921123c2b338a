-- Each quantity that exists has one number.
use Rattle.std.proofs.Common.{◌≡◌, ℕ, ◌+◌, Bool, true, false, ◌&&◌, ◌++◌, count_by, refl, ap, ◌∙◌, arith}
use Rattle.std.specs.Prelude.{nat_le, int_lt, int_le, pos}
use Rattle.opt_model.specs.Tables.{Tables}
use Rattle.opt_model.specs.Quantities.{is_point, is_offered, has_order, all_heads, same_quantity, rations, shorts, buys, ships, keeps, feeds, orders, quantities}
use Rattle.opt_model.specs.declared.records.Basket.{Basket}
use Rattle.opt_model.specs.declared.records.Need.{Need}
use Rattle.opt_model.specs.declared.records.Offer.{Offer}
use Rattle.opt_model.specs.declared.records.Arc.{Arc}
use Rattle.opt_model.specs.declared.records.Place.{Place}
use Rattle.opt_model.specs.declared.quantity.Quantity.{Quantity}
use Rattle.opt_model.specs.declared.quantity.Quantity.TheVariants.{Ration, Short, Buy, Ship, Keep, Feed, Order}
use Rattle.opt_network.specs.Numbering.{has_record, has_month, has_quantity}
use Rattle.opt_network.proofs.Once.{bit, count_by-append, has_record_where-true, none-three, one-three, none-two, one-two}

-- ---- when a quantity of each kind exists
abbrev pub ration_test : ℕ → Basket → ℕ → Bool
ration_test n x k = true

abbrev pub short_test : Need → ℕ → Bool
short_test x k = true

abbrev pub ship_test : Tables → ℕ → Arc → ℕ → Bool
ship_test t n x k = nat_le (k + x.lead) t.settings.months

abbrev pub keep_test : ℕ → Place → ℕ → Bool
keep_test n x k = int_lt (pos 0) x.storage

abbrev pub feed_test : Tables → ℕ → Place → ℕ → Bool
feed_test t n x k = is_point x.kind && int_le (pos 1) (all_heads t n k)

abbrev pub order_test : Offer → ℕ → Bool
order_test x k = is_offered x k && has_order x

-- how often each list has a quantity
record Counts (t : Tables) (q : Quantity) (r s b h k f o : ℕ) : Type 0 where
  rations : count_by (same_quantity q) (rations t) ≡ r
  shorts : count_by (same_quantity q) (shorts t) ≡ s
  buys : count_by (same_quantity q) (buys t) ≡ b
  ships : count_by (same_quantity q) (ships t) ≡ h
  keeps : count_by (same_quantity q) (keeps t) ≡ k
  feeds : count_by (same_quantity q) (feeds t) ≡ f
  orders : count_by (same_quantity q) (orders t) ≡ o

counted : (t : Tables) (q : Quantity) (r s b h k f o : ℕ) → Counts t q r s b h k f o → count_by (same_quantity q) (quantities t) ≡ r + (s + (b + (h + (k + (f + o)))))
counted t q r s b h k f o c =
    let p = same_quantity q in
    let all = count_by-append p (rations t) (shorts t ++ (buys t ++ (ships t ++ (keeps t ++ (feeds t ++ orders t))))) in
    let from_shorts = count_by-append p (shorts t) (buys t ++ (ships t ++ (keeps t ++ (feeds t ++ orders t)))) in
    let from_buys = count_by-append p (buys t) (ships t ++ (keeps t ++ (feeds t ++ orders t))) in
    let from_ships = count_by-append p (ships t) (keeps t ++ (feeds t ++ orders t)) in
    let from_keeps = count_by-append p (keeps t) (feeds t ++ orders t) in
    let from_feeds = count_by-append p (feeds t) (orders t) in
    omega (arith, all, from_shorts, from_buys, from_ships, from_keeps, from_feeds, c.rations, c.shorts, c.buys, c.ships, c.keeps, c.feeds, c.orders)

-- the lists that have a quantity nowhere
module _ (t : Tables) (q : Quantity) where
  no_rations : ((n c k : ℕ) → same_quantity q (Ration n c k) ≡ false) → count_by (same_quantity q) (rations t) ≡ 0
  no_rations h = none-three (same_quantity q) Ration t ration_test h t.baskets

  no_shorts : ((n k : ℕ) → same_quantity q (Short n k) ≡ false) → count_by (same_quantity q) (shorts t) ≡ 0
  no_shorts h = none-two (same_quantity q) Short t short_test h t.needs

  no_buys : ((n k : ℕ) → same_quantity q (Buy n k) ≡ false) → count_by (same_quantity q) (buys t) ≡ 0
  no_buys h = none-two (same_quantity q) Buy t is_offered h t.offers

  no_ships : ((n c k : ℕ) → same_quantity q (Ship n c k) ≡ false) → count_by (same_quantity q) (ships t) ≡ 0
  no_ships h = none-three (same_quantity q) Ship t (ship_test t) h t.arcs

  no_keeps : ((n c k : ℕ) → same_quantity q (Keep n c k) ≡ false) → count_by (same_quantity q) (keeps t) ≡ 0
  no_keeps h = none-three (same_quantity q) Keep t keep_test h t.places

  no_feeds : ((n c k : ℕ) → same_quantity q (Feed n c k) ≡ false) → count_by (same_quantity q) (feeds t) ≡ 0
  no_feeds h = none-three (same_quantity q) Feed t (feed_test t) h t.places

  no_orders : ((n k : ℕ) → same_quantity q (Order n k) ≡ false) → count_by (same_quantity q) (orders t) ≡ 0
  no_orders h = none-two (same_quantity q) Order t order_test h t.offers

-- a quantity stands in the list of quantities once where it exists, and else nowhere
pub counted_once : (t : Tables) (q : Quantity) → count_by (same_quantity q) (quantities t) ≡ bit (has_quantity t q)
counted_once t (Ration b c m) =
    let q = Ration b c m in
    let here : count_by (same_quantity q) (rations t) ≡ bit (has_quantity t q) =
    one-three (same_quantity q) Ration t ration_test b c m (λ n c k. refl) t.baskets ∙ ap (λ h. bit (h && (has_record t.commodities c && has_month t m))) (has_record_where-true t.baskets b) in
    counted t q (bit (has_quantity t q)) 0 0 0 0 0 0 (record {
      rations = here;
      shorts = no_shorts t q (λ n k. refl);
      buys = no_buys t q (λ n k. refl);
      ships = no_ships t q (λ n c k. refl);
      keeps = no_keeps t q (λ n c k. refl);
      feeds = no_feeds t q (λ n c k. refl);
      orders = no_orders t q (λ n k. refl);
    }) ∙ omega arith
counted_once t (Short d m) =
    let q = Short d m in
    let here : count_by (same_quantity q) (shorts t) ≡ bit (has_quantity t q) =
    one-two (same_quantity q) Short t short_test d m (λ n k. refl) t.needs ∙ ap (λ h. bit (h && has_month t m)) (has_record_where-true t.needs d) in
    counted t q 0 (bit (has_quantity t q)) 0 0 0 0 0 (record {
      rations = no_rations t q (λ n c k. refl);
      shorts = here;
      buys = no_buys t q (λ n k. refl);
      ships = no_ships t q (λ n c k. refl);
      keeps = no_keeps t q (λ n c k. refl);
      feeds = no_feeds t q (λ n c k. refl);
      orders = no_orders t q (λ n k. refl);
    }) ∙ omega arith
counted_once t (Buy o m) =
    let q = Buy o m in
    counted t q 0 0 (bit (has_quantity t q)) 0 0 0 0 (record {
      rations = no_rations t q (λ n c k. refl);
      shorts = no_shorts t q (λ n k. refl);
      buys = one-two (same_quantity q) Buy t is_offered o m (λ n k. refl) t.offers;
      ships = no_ships t q (λ n c k. refl);
      keeps = no_keeps t q (λ n c k. refl);
      feeds = no_feeds t q (λ n c k. refl);
      orders = no_orders t q (λ n k. refl);
    }) ∙ omega arith
counted_once t (Ship a c m) =
    let q = Ship a c m in
    counted t q 0 0 0 (bit (has_quantity t q)) 0 0 0 (record {
      rations = no_rations t q (λ n c k. refl);
      shorts = no_shorts t q (λ n k. refl);
      buys = no_buys t q (λ n k. refl);
      ships = one-three (same_quantity q) Ship t (ship_test t) a c m (λ n c k. refl) t.arcs;
      keeps = no_keeps t q (λ n c k. refl);
      feeds = no_feeds t q (λ n c k. refl);
      orders = no_orders t q (λ n k. refl);
    }) ∙ omega arith
counted_once t (Keep p c m) =
    let q = Keep p c m in
    counted t q 0 0 0 0 (bit (has_quantity t q)) 0 0 (record {
      rations = no_rations t q (λ n c k. refl);
      shorts = no_shorts t q (λ n k. refl);
      buys = no_buys t q (λ n k. refl);
      ships = no_ships t q (λ n c k. refl);
      keeps = one-three (same_quantity q) Keep t keep_test p c m (λ n c k. refl) t.places;
      feeds = no_feeds t q (λ n c k. refl);
      orders = no_orders t q (λ n k. refl);
    }) ∙ omega arith
counted_once t (Feed p c m) =
    let q = Feed p c m in
    counted t q 0 0 0 0 0 (bit (has_quantity t q)) 0 (record {
      rations = no_rations t q (λ n c k. refl);
      shorts = no_shorts t q (λ n k. refl);
      buys = no_buys t q (λ n k. refl);
      ships = no_ships t q (λ n c k. refl);
      keeps = no_keeps t q (λ n c k. refl);
      feeds = one-three (same_quantity q) Feed t (feed_test t) p c m (λ n c k. refl) t.places;
      orders = no_orders t q (λ n k. refl);
    }) ∙ omega arith
counted_once t (Order o m) =
    let q = Order o m in
    counted t q 0 0 0 0 0 0 (bit (has_quantity t q)) (record {
      rations = no_rations t q (λ n c k. refl);
      shorts = no_shorts t q (λ n k. refl);
      buys = no_buys t q (λ n k. refl);
      ships = no_ships t q (λ n c k. refl);
      keeps = no_keeps t q (λ n c k. refl);
      feeds = no_feeds t q (λ n c k. refl);
      orders = one-two (same_quantity q) Order t order_test o m (λ n k. refl) t.offers;
    }) ∙ omega arith
