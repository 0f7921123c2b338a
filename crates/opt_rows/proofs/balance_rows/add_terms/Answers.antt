use Rattle.std.proofs.Common.{◌≡◌, ℕ, ◌∷◌, [], List, ℤ, pos, neg_ℤ, sym, ap, ◌∙◌, arith}
use Rattle.std.specs.Prelude.{◌-◌, nat_lt}
use Rattle.std.specs.List.{flat_map}
use Rattle.opt_model.specs.Quantities.{list_if}
use Rattle.opt_model.specs.Rows.{Terms, negation, bought_terms, arrived_terms, kept_terms, sent_terms}
use Rattle.opt_model.specs.declared.quantity.Quantity.TheVariants.{Buy, Ship, Keep, Feed}
use Rattle.opt_rows.specs.declared.flows.Way.{Way}
use Rattle.opt_rows.specs.Gathering.{entries_of}
use Rattle.opt_rows.specs.Listed.{offers_of, sales_at, arrivals_at, departures_from}
use Rattle.opt_rows.proofs.ListedTerms.{same_entries, five_terms, bought_listed, arrived_listed, sent_listed}
use Rattle.opt_rows.proofs.balance_rows.add_terms.Goals as goal

pub returns : goal.returns
returns c =
    let t = c.args.tables.now in
    let layout = c.args.layout.now in
    let spot = c.args.spot in
    let flows = c.args.flows.now in
    let p = spot.place in
    let n = spot.commodity in
    let m = spot.month in
    let qs = layout.quantities in
    let entries : Terms → List (ℕ × ℤ) = entries_of qs in
    let buy : ℕ → Terms = λ o. (Buy o m, pos 1) ∷ [] in
    let come : Way → Terms = λ way. list_if (nat_lt way.lead m) ((Ship way.arc n (m - way.lead), pos 1) ∷ []) in
    let go : Way → Terms = λ way. (Ship way.arc n m, neg_ℤ (pos 1)) ∷ [] in
    let sold : c.pile.result.now ≡ offers_of (sales_at t p) n =
    c.pile.ensures ∙ (c.requires.flows.offers.filled n c.requires.commodity ∙ ap (λ place. offers_of (sales_at t place) n) (sym c.requires.place)) in
    let ways : flows.arrivals.now ≡ arrivals_at t p = rw c.requires.place c.requires.flows.arrivals in
    let gone : flows.departures.now ≡ departures_from t p = rw c.requires.place c.requires.flows.departures in
    let bought : entries (flat_map buy c.pile.result.now) ≡ entries (bought_terms t p n m) =
    ap (λ xs. entries (flat_map buy xs)) sold ∙ bought_listed t layout c.requires.layout p n m in
    let arrived : entries (flat_map come flows.arrivals.now) ≡ entries (arrived_terms t p n m) =
    ap (λ xs. entries (flat_map come xs)) ways ∙ arrived_listed t layout c.requires.layout p n m in
    let sent : entries (flat_map go flows.departures.now) ≡ entries (negation (sent_terms t p n m)) =
    ap (λ xs. entries (flat_map go xs)) gone ∙ sent_listed t layout c.requires.layout p n m in
    five_terms qs (bought_terms t p n m) (arrived_terms t p n m) (kept_terms p n m) (negation (sent_terms t p n m)) ((Keep p n m, neg_ℤ (pos 1)) ∷ (Feed p n m, neg_ℤ (pos 1)) ∷ [])
    _ _ _ _ _ _
    (same_entries qs (flat_map buy c.pile.result.now) (bought_terms t p n m) _ _ bought c.in_ok-add_bought.ensures)
    (same_entries qs (flat_map come flows.arrivals.now) (arrived_terms t p n m) _ _ arrived c.in_ok-add_arrivals.ensures)
    c.in_ok-add_kept.ensures
    (same_entries qs (flat_map go flows.departures.now) (negation (sent_terms t p n m)) _ _ sent c.in_ok-add_departures.ensures)
    c.in_ok-add_uses.ensures

pub pile-requires : goal.pile-requires
pile-requires c = omega (arith, c.requires.flows.offers.each, c.requires.commodity)
