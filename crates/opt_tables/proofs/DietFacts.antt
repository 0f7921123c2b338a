-- What is known of the records of the tables of the diet that are read.
use Rattle.std.proofs.Common.{◌≡◌, ◌≤◌, ℕ, zero, suc, ◌+◌, ◌*◌, ◌/◌, ◌<◌, true, List, length, Result, Ok, refl, sym, ap, ◌∙◌, subst, arith, pos, ◌≤ℤ◌}
use Rattle.std.specs.Prelude.{count_by, IfSome, ◌&&◌, ◌==◌, nat_lt}
use Rattle.std.proofs.lemmas.Bool.{and_parts, eqb-true, ltb-false}
use Rattle.std.proofs.lemmas.Int.{ints}
use Rattle.std.proofs.lemmas.Nat.{div_below}
use Rattle.opt_base.specs.declared.refusal.File.TheVariants.{Commodities, Groups, Nutrients, Contents}
use Rattle.opt_base.specs.declared.refusal.Kind.TheVariants.{NoStepInRange}
use Rattle.opt_base.specs.Answers.{◌>>=◌}
use Rattle.opt_base.proofs.Made.{bind_ok, unless_ok}
use Rattle.opt_model.specs.Settings.{Settings}
use Rattle.opt_model.specs.Quantities.{ceil_div, floor_div}
use Rattle.opt_model.specs.declared.records.Commodity.{Commodity}
use Rattle.opt_model.specs.declared.records.Group.{Group}
use Rattle.opt_model.specs.declared.records.Nutrient.{Nutrient}
use Rattle.opt_model.specs.declared.records.Content.{Content}
use Rattle.opt_tables.specs.Keys.{Known, Name, Names}
use Rattle.opt_tables.specs.Records.{Record, refused_at, text_in, name_in, optional_name_in, number_in, reference_in, optional_reference_in}
use Rattle.opt_tables.specs.Lines.{name_key}
use Rattle.opt_tables.specs.Diet.{commodity_line_of, group_line_of, nutrient_line_of, content_line_of, content_key, commodity_of, group_of, nutrient_of, content_of}
use Rattle.opt_tables.specs.Facts.{IsFrom, IsCleanName, IsCommodity, IsGroup}
use Rattle.opt_tables.specs.declared.commodities.CommodityLine.{CommodityLine}
use Rattle.opt_tables.specs.declared.groups.GroupLine.{GroupLine}
use Rattle.opt_tables.specs.declared.nutrients.NutrientLine.{NutrientLine}
use Rattle.opt_tables.specs.declared.contents.ContentLine.{ContentLine}
use Rattle.opt_tables.specs.Diet.{Diet}
use Rattle.opt_tables.proofs.Cells.{clean_name, IsBetween, number_between, from_between, number_from, IsReference, reference_is, optional_reference_is, one_reference}
use Rattle.opt_tables.proofs.TableFacts.{IsMade, IsTable, one_known}

-- a multiple of the step lies from the least to the greatest ration
steps_apart : (min max step : ℕ) → 1 ≤ step → min ≤ max / step * step → ceil_div (pos min) (pos step) ≤ℤ floor_div (pos max) (pos step)
steps_apart zero max step some fits = omega (arith, ints)
steps_apart (suc k) max step some fits = omega (arith, ints, div_below k step (max / step) (omega arith) (omega arith))

-- the numbers of a commodity's line are in their ranges
record IsCommodityLine (line : CommodityLine) : Type 0 where
  min_g : IsBetween 0 2000 line.min_g
  max_g : IsBetween 0 2000 line.max_g
  step_g : IsBetween 1 2000 line.step_g
  has_step : line.min_g ≤ line.max_g / line.step_g * line.step_g

commodity_line_is : (row : Record) (line : CommodityLine) → commodity_line_of row ≡ Ok line → IsCommodityLine line
commodity_line_is row line e =
    let name = bind_ok (name_in row 1) _ line e in
    let group = bind_ok (optional_name_in row 2) _ line name.2 in
    let min = bind_ok (number_in row 3 0 2000) _ line group.2 in
    let max = bind_ok (number_in row 4 0 2000) _ line min.2 in
    let step = bind_ok (number_in row 5 1 2000) _ line max.2 in
    let made : CommodityLine = record { min_g = min.0; max_g = max.0; step_g = step.0 } in
    let fits = unless_ok (nat_lt (max.0 / step.0 * step.0) min.0) (Ok made) (refused_at row 0 NoStepInRange) line step.2 in
    let same : made ≡ line = cc (fits.1) in
    subst IsCommodityLine same (record {
      min_g = number_between row 3 0 2000 min.0 min.1;
      max_g = number_between row 4 0 2000 max.0 max.1;
      step_g = number_between row 5 1 2000 step.0 step.1;
      has_step = ltb-false (max.0 / step.0 * step.0) min.0 fits.0;
    })

-- a commodity that was made
abbrev pub CommodityMade : Diet → ℕ → Known → Commodity → Type 0
CommodityMade diet k key r = IsMade commodity_line_of name_key Commodities (commodity_of diet) diet.commodities k key r

pub record CommodityFacts (diet : Diet) (key : Known) (r : Commodity) : Type 0 where
  pub known : key ≡ Name r.commodity
  pub name : IsCleanName r.commodity
  pub group : IfSome r.group (λ group. group < length diet.groups.keys)
  pub numbers : IsCommodity r

pub commodity_facts : (diet : Diet) (k : ℕ) (key : Known) (r : Commodity) → CommodityMade diet k key r → CommodityFacts diet key r
commodity_facts diet k key r of =
    let row : Record = of.row in
    let line : CommodityLine = of.line in
    let is : IsCommodityLine line = commodity_line_is row line of.read in
    let group = bind_ok (optional_reference_in row 2 diet.groups.keys) _ r of.made in
    let made : Commodity = record { commodity = text_in row 1; group = group.0; min_g = pos line.min_g; max_g = pos line.max_g; step_g = pos line.step_g } in
    let same : made ≡ r = cc (group.2) in
    subst (CommodityFacts diet key) same (record {
      known = of.known;
      name = clean_name row 1 _ line (of.clean 1) of.read;
      group = optional_reference_is row 2 diet.groups.keys group.0 group.1;
      numbers = record {
        min_g = from_between 0 2000 line.min_g is.min_g;
        max_g = from_between 0 2000 line.max_g is.max_g;
        step_g = from_between 1 2000 line.step_g is.step_g;
        has_step = steps_apart line.min_g line.max_g line.step_g is.step_g.above is.has_step;
      };
    })

-- a group that was made
abbrev pub GroupMade : Diet → ℕ → Known → Group → Type 0
GroupMade diet k key r = IsMade group_line_of name_key Groups group_of diet.groups k key r

pub record GroupFacts (key : Known) (r : Group) : Type 0 where
  pub known : key ≡ Name r.group
  pub name : IsCleanName r.group
  pub numbers : IsGroup r

pub group_facts : (diet : Diet) (k : ℕ) (key : Known) (r : Group) → GroupMade diet k key r → GroupFacts key r
group_facts diet k key r of =
    let row : Record = of.row in
    let name = bind_ok (name_in row 1) _ of.line of.read in
    let min = bind_ok (number_in row 2 0 1000000) _ of.line name.2 in
    let max = bind_ok (number_in row 3 0 1000000) _ of.line min.2 in
    let lined : record { min_g = min.0; max_g = max.0 } ≡ of.line = cc (max.2) in
    let same : record { group = text_in row 1; min_g = pos of.line.min_g; max_g = pos of.line.max_g } ≡ r = cc (of.made) in
    subst (GroupFacts key) same (record {
      known = of.known;
      name = clean_name row 1 _ of.line (of.clean 1) of.read;
      numbers = subst (λ (line : GroupLine). IsGroup (record { group = text_in row 1; min_g = pos line.min_g; max_g = pos line.max_g })) lined
          (record { min_g = number_from row 2 0 1000000 min.0 min.1; max_g = number_from row 3 0 1000000 max.0 max.1 });
    })

-- a nutrient that was made
abbrev pub NutrientMade : Settings → Diet → ℕ → Known → Nutrient → Type 0
NutrientMade settings diet k key r = IsMade (nutrient_line_of settings) name_key Nutrients nutrient_of diet.nutrients k key r

pub nutrient_known : (settings : Settings) (diet : Diet) (k : ℕ) (key : Known) (r : Nutrient) → NutrientMade settings diet k key r → key ≡ Name r.nutrient
nutrient_known settings diet k key r of =
    let same : record { nutrient = text_in of.row 1 } ≡ r = cc (of.made) in
    subst (λ (nutrient : Nutrient). key ≡ Name nutrient.nutrient) same of.known

pub nutrient_name : (settings : Settings) (diet : Diet) (k : ℕ) (key : Known) (r : Nutrient) → NutrientMade settings diet k key r → IsCleanName r.nutrient
nutrient_name settings diet k key r of =
    let same : record { nutrient = text_in of.row 1 } ≡ r = cc (of.made) in
    subst (λ (nutrient : Nutrient). IsCleanName nutrient.nutrient) same (clean_name of.row 1 _ of.line (of.clean 1) of.read)

-- a content that was made
abbrev pub ContentMade : Diet → ℕ → Known → Content → Type 0
ContentMade diet k key r = IsMade content_line_of content_key Contents (content_of diet) diet.contents k key r

pub record ContentFacts (diet : Diet) (key : Known) (r : Content) : Type 0 where
  pub commodity_name : List ℕ
  pub nutrient_name : List ℕ
  pub known : key ≡ Names commodity_name nutrient_name
  pub commodity : IsReference diet.commodities.keys commodity_name r.commodity
  pub nutrient : IsReference diet.nutrients.keys nutrient_name r.nutrient
  pub per_100g : IsFrom (pos 0) (pos 1000000) r.per_100g

pub content_facts : (diet : Diet) (k : ℕ) (key : Known) (r : Content) → ContentMade diet k key r → ContentFacts diet key r
content_facts diet k key r of =
    let row : Record = of.row in
    let first = bind_ok (name_in row 1) _ of.line of.read in
    let second = bind_ok (name_in row 2) _ of.line first.2 in
    let amount = bind_ok (number_in row 3 0 1000000) _ of.line second.2 in
    let lined : record { per_100g = amount.0 } ≡ of.line = cc (amount.2) in
    let commodity = bind_ok (reference_in row 1 diet.commodities.keys) _ r of.made in
    let nutrient = bind_ok (reference_in row 2 diet.nutrients.keys) _ r commodity.2 in
    let made : Content = record { commodity = commodity.0; nutrient = nutrient.0; per_100g = pos of.line.per_100g } in
    let same : made ≡ r = cc (nutrient.2) in
    subst (ContentFacts diet key) same (record {
      commodity_name = text_in row 1;
      nutrient_name = text_in row 2;
      known = of.known;
      commodity = reference_is row 1 diet.commodities.keys commodity.0 commodity.1;
      nutrient = reference_is row 2 diet.nutrients.keys nutrient.0 nutrient.1;
      per_100g = subst (λ (line : ContentLine). IsFrom (pos 0) (pos 1000000) (pos line.per_100g)) lined (number_from row 3 0 1000000 amount.0 amount.1);
    })

-- the same two references are by the same two names
pub same_names : (first_keys second_keys : List Known) (name_a name_b other_a other_b : List ℕ) (m n k l : ℕ) → m ≡ k → n ≡ l
    → IsReference first_keys name_a m → IsReference second_keys name_b n → IsReference first_keys other_a k → IsReference second_keys other_b l → Names name_a name_b ≡ Names other_a other_b
same_names first_keys second_keys name_a name_b other_a other_b m n k l e f a b c d =
    let first : name_a ≡ other_a = one_reference first_keys name_a other_a m k e a c in
    let second : name_b ≡ other_b = one_reference second_keys name_b other_b n l f b d in
    ap (λ (name : List ℕ). Names name name_b) first ∙ ap (λ (name : List ℕ). Names other_a name) second

-- two numbers that equal a third are equal
pub alike : (m n k : ℕ) → (m == k) ≡ true → (n == k) ≡ true → m ≡ n
alike m n k e f = eqb-true m k e ∙ sym (eqb-true n k f)

pub content_once : (diet : Diet) (records : List Content) → IsTable content_line_of content_key Contents (content_of diet) diet.contents records
    → (commodity nutrient : ℕ) → count_by (λ r. (r.commodity == commodity) && (r.nutrient == nutrient)) records ≤ 1
content_once diet records is commodity nutrient =
    one_known content_line_of content_key Contents (content_of diet) diet.contents (λ r. (r.commodity == commodity) && (r.nutrient == nutrient)) records is
    (λ i j first second r s of_r of_s e f.
    let a = content_facts diet i first r of_r in
    let b = content_facts diet j second s of_s in
    let x = and_parts (r.commodity == commodity) (r.nutrient == nutrient) e in
    let y = and_parts (s.commodity == commodity) (s.nutrient == nutrient) f in
    a.known
    ∙ (same_names diet.commodities.keys diet.nutrients.keys a.commodity_name a.nutrient_name b.commodity_name b.nutrient_name r.commodity r.nutrient s.commodity s.nutrient (alike r.commodity s.commodity commodity x.0 y.0) (alike r.nutrient s.nutrient nutrient x.1 y.1) a.commodity a.nutrient b.commodity b.nutrient
    ∙ sym b.known))
