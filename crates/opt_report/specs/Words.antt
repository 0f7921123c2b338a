-- What a plan file calls a quantity.
use Rattle.std.specs.Prelude.{ℕ, List, [], ◌∷◌}
use Rattle.opt_model.specs.Tables.{Tables}
use Rattle.opt_model.specs.Texts.{record_name}
use Rattle.opt_model.specs.RowTexts.{basket_name, nutrient_name}
use Rattle.opt_report.specs.declared.words.Words.{Words}

-- the first fields of a quantity's record
abbrev pub fields_of : Words → List (List ℕ)
fields_of words = words.kind.now ∷ words.name.now ∷ words.item.now ∷ []

-- the name of the basket of a need, or nothing where there is no such need
abbrev pub need_basket_name : Tables → ℕ → List ℕ
need_basket_name t need = record_name t.needs need (λ r. basket_name t r.basket)

-- the name of the nutrient of a need, or nothing where there is no such need
abbrev pub need_nutrient_name : Tables → ℕ → List ℕ
need_nutrient_name t need = record_name t.needs need (λ r. nutrient_name t r.nutrient)
