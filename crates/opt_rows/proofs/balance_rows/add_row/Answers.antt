use Rattle.std.proofs.Common.{◌≡◌, neg_ℤ, ◌∙◌, FitsSigned, to_z, of_z, rules}
use Rattle.std.proofs.lemmas.Int.{to_z-of_z}
use mir.Syntax.{w64}
use Rattle.opt_model.specs.Tables.{stock_at}
use Rattle.opt_model.specs.declared.quantity.RowName.TheVariants as row
use Rattle.opt_rows.specs.Parts.{balance_terms}
use Rattle.opt_rows.proofs.ListedTerms.{equal_added_at}
use Rattle.opt_rows.proofs.ShortSums.{short_first, balance_terms_small}
use Rattle.opt_rows.proofs.balance_rows.add_row.Goals as goal

pub returns : goal.returns
returns c =
    let t = c.args.tables.now in
    let spot = c.args.spot in
    let fits : FitsSigned w64 c.owed_stock.result = search rules in
    let cast : to_z w64 (of_z w64 c.owed_stock.result) ≡ c.owed_stock.result = simp to_z-of_z in
    equal_added_at c.args.layout.now.quantities (row.Balance spot.place spot.commodity spot.month) (balance_terms t spot.place spot.commodity spot.month)
    (neg_ℤ (stock_at t spot.place spot.commodity spot.month)) _ _ _ _ _ c.new-terms.ensures c.in_ok-add_terms.ensures (cast ∙ c.owed_stock.ensures) c.in_ok-push_equal.ensures

pub push_equal-requires : goal.push_equal-requires
push_equal-requires c =
    let t = c.args.tables.now in
    let spot = c.args.spot in
    record {
      sums = short_first t c.args.layout.now (balance_terms t spot.place spot.commodity spot.month) _ _ c.requires.model c.requires.layout
          (balance_terms_small t spot.place spot.commodity spot.month) c.new-terms.ensures c.in_ok-add_terms.ensures;
    }
