use Rattle.std.proofs.Common.{◌∷◌, [], pos, refl}
use Rattle.opt_model.specs.Rows.{Terms, negation, handed_terms}
use Rattle.opt_model.specs.declared.quantity.Quantity.TheVariants.{Feed}
use Rattle.opt_model.specs.declared.quantity.RowName.TheVariants as row
use Rattle.opt_rows.proofs.ListedTerms.{term_added, both_terms, row_added}
use Rattle.opt_rows.proofs.ShortSums.{short_first, handout_low_terms_small}
use Rattle.opt_rows.proofs.handout_rows.add_low.Goals as goal

pub returns : goal.returns
returns c =
    let t = c.args.tables.now in
    let spot = c.args.spot in
    let qs = c.args.layout.now.quantities in
    let first = Feed spot.place spot.commodity spot.month in
    let rest : Terms = negation (handed_terms t spot.place spot.commodity spot.month) in
    row_added qs (row.HandoutLow spot.place spot.commodity spot.month) ((first, pos 1000) ∷ rest) (pos 0) _ _ _ _ c.new-terms.ensures
    (both_terms qs ((first, pos 1000) ∷ []) rest _ _ _
    (term_added qs _ _ (c.handed_out.result, pos 1000) first (pos 1000) c.handed_out.ensures refl c.in_ok-add.ensures) c.in_ok-add_negated.ensures)
    c.in_ok-push_at_least.ensures

pub push_at_least-requires : goal.push_at_least-requires
push_at_least-requires c =
    let t = c.args.tables.now in
    let spot = c.args.spot in
    let qs = c.args.layout.now.quantities in
    let first = Feed spot.place spot.commodity spot.month in
    let rest : Terms = negation (handed_terms t spot.place spot.commodity spot.month) in
    record {
      sums = short_first t c.args.layout.now ((first, pos 1000) ∷ rest) _ _ c.requires.model c.requires.layout (handout_low_terms_small t c.requires.model spot.place spot.commodity spot.month) c.new-terms.ensures
          (both_terms qs ((first, pos 1000) ∷ []) rest _ _ _
          (term_added qs _ _ (c.handed_out.result, pos 1000) first (pos 1000) c.handed_out.ensures refl c.in_ok-add.ensures) c.in_ok-add_negated.ensures);
    }
