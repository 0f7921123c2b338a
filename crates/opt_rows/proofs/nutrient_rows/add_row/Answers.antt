use Rattle.std.proofs.Common.{◌≡◌, ◌∷◌, [], ◌++◌, ◌*ℤ◌, pos, refl, ap, ◌∙◌, FitsSigned, to_z, of_z, rules}
use Rattle.std.proofs.lemmas.Int.{to_z-of_z}
use mir.Syntax.{w64}
use Rattle.std.specs.List.{flat_map}
use Rattle.opt_model.specs.Rows.{Terms, nutrient_terms}
use Rattle.opt_model.specs.declared.quantity.Quantity.TheVariants.{Ration, Short}
use Rattle.opt_model.specs.declared.quantity.RowName.TheVariants as row
use Rattle.opt_rows.specs.declared.nutrient_contents.StepContent.{StepContent}
use Rattle.opt_rows.proofs.ListedTerms.{term_added, same_terms, both_terms, row_added_at, nutrient_listed}
use Rattle.opt_rows.proofs.ShortSums.{short_first, nutrient_terms_small}
use Rattle.opt_rows.proofs.nutrient_rows.add_row.Goals as goal

pub returns : goal.returns
returns c =
    let t = c.args.tables.now in
    let demand = c.args.demand.now in
    let need = demand.need.now in
    let qs = c.args.layout.now.quantities in
    let m = c.args.month in
    let given : Terms = nutrient_terms t need.basket need.nutrient m in
    let rest : Terms = (Short demand.number m, pos 100) ∷ [] in
    let fits : FitsSigned w64 c.required.result = search rules in
    let cast : to_z w64 (of_z w64 c.required.result) ≡ c.required.result = simp to_z-of_z in
    row_added_at qs (row.Nutrient need.basket need.nutrient m) (given ++ rest) (pos 100 *ℤ need.required) _ _ _ _ _ c.new-terms.ensures
    (both_terms qs given rest _ _ _
    (same_terms qs (flat_map (λ (r : StepContent). (Ration need.basket r.commodity m, r.units) ∷ []) demand.contents.now) given _ _
    (ap (flat_map (λ (r : StepContent). (Ration need.basket r.commodity m, r.units) ∷ [])) c.requires.contents ∙ nutrient_listed t need.basket need.nutrient m) c.in_ok-add_contents.ensures)
    (term_added qs _ _ (c.shortfall.result, pos 100) (Short demand.number m) (pos 100) c.shortfall.ensures refl c.in_ok-add.ensures))
    (cast ∙ c.required.ensures) c.in_ok-push_at_least.ensures

pub push_at_least-requires : goal.push_at_least-requires
push_at_least-requires c =
    let t = c.args.tables.now in
    let demand = c.args.demand.now in
    let need = demand.need.now in
    let qs = c.args.layout.now.quantities in
    let m = c.args.month in
    let given : Terms = nutrient_terms t need.basket need.nutrient m in
    let rest : Terms = (Short demand.number m, pos 100) ∷ [] in
    record {
      sums = short_first t c.args.layout.now (given ++ rest) _ _ c.requires.model c.requires.layout (nutrient_terms_small t c.requires.model need.basket need.nutrient demand.number m) c.new-terms.ensures
          (both_terms qs given rest _ _ _
          (same_terms qs (flat_map (λ (r : StepContent). (Ration need.basket r.commodity m, r.units) ∷ []) demand.contents.now) given _ _
          (ap (flat_map (λ (r : StepContent). (Ration need.basket r.commodity m, r.units) ∷ [])) c.requires.contents ∙ nutrient_listed t need.basket need.nutrient m) c.in_ok-add_contents.ensures)
          (term_added qs _ _ (c.shortfall.result, pos 100) (Short demand.number m) (pos 100) c.shortfall.ensures refl c.in_ok-add.ensures));
    }
