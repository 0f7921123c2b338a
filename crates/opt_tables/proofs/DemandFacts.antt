-- What is known of baskets and needs that are read.
use Rattle.std.proofs.Common.{◌≡◌, ◌≤◌, ℕ, ◌+◌, ◌<◌, Bool, true, false, cond, List, [], ◌∷◌, length, get_or, Result, Ok, Err, refl, sym, ap, ◌∙◌, subst, arith, pos}
use Rattle.std.specs.Prelude.{All, count_by, bytes_eq, ◌&&◌, ◌==◌, nat_lt, if◌then◌else◌}
use Rattle.std.specs.List.{enumerate_from}
use Rattle.std.proofs.lemmas.Bool.{and_parts, ltb-false, both_ways}
use Rattle.std.proofs.lemmas.List.{length-map, get_or-map}
use Rattle.std.proofs.lemmas.List.FromFn.{length-enumerate_from, get_or-enumerate_from}
use Rattle.opt_base.specs.declared.refusal.File.TheVariants.{Baskets, Needs, Nutrients}
use Rattle.opt_base.specs.declared.refusal.Kind.TheVariants.{EmptyTable, TooMany}
use Rattle.opt_base.specs.declared.refusal.Refusal.{Refusal}
use Rattle.opt_base.specs.Answers.{◌>>=◌}
use Rattle.opt_base.specs.Refusals.{refusal_of_file}
use Rattle.opt_base.proofs.Made.{bind_ok, unless_ok}
use Rattle.opt_model.specs.Settings.{Settings, has_baskets}
use Rattle.opt_model.specs.declared.limits.TheConstants.{BASKET_LIMIT}
use Rattle.opt_model.specs.declared.records.Basket.{Basket}
use Rattle.opt_model.specs.declared.records.Need.{Need}
use Rattle.opt_tables.specs.Keys.{Known, Name, Names}
use Rattle.opt_tables.specs.Records.{Record, text_in, name_in, number_in, reference_in}
use Rattle.opt_tables.specs.Lines.{Lines, lines_in, name_key}
use Rattle.opt_tables.specs.Diet.{need_in, no_need, nutrient_line_of}
use Rattle.opt_tables.specs.Demand.{basket_line_of, with_few, basket_lines_in, need_line_of, need_key, need_with, needs_from, basket_of, need_of}
use Rattle.opt_tables.specs.Facts.{IsFrom, IsCleanName, IsNeed, IsNeedOf}
use Rattle.opt_tables.specs.declared.baskets.BasketLine.{BasketLine}
use Rattle.opt_tables.specs.declared.needs.NeedLine.{NeedLine}
use Rattle.opt_tables.specs.declared.nutrients.NutrientLine.{NutrientLine}
use Rattle.opt_tables.specs.Diet.{Diet}
use Rattle.opt_tables.specs.Demand.{Demand}
use Rattle.opt_tables.proofs.Cells.{at_least_one, clean_name, from_between, number_from, IsReference, reference_is}
use Rattle.opt_tables.proofs.TableFacts.{HasLines, lines_are, IsMade, IsTable, one_known}
use Rattle.opt_tables.proofs.DietFacts.{same_names, alike}

-- the numbers of a need's line are in their ranges
pub record IsNeedLine (line : NeedLine) : Type 0 where
  pub required : IsFrom (pos 0) (pos 1000000000) (pos line.required)
  pub max_short : IsFrom (pos 0) (pos 1000000000) (pos line.max_short)
  pub weight : IsFrom (pos 0) (pos 1000000) (pos line.weight)

need_in_is : (row : Record) (column : ℕ) (line : NeedLine) → need_in row column ≡ Ok line → IsNeedLine line
need_in_is row column line e =
    let required = bind_ok (number_in row column 0 1000000000) _ line e in
    let max_short = bind_ok (number_in row (column + 1) 0 1000000000) _ line required.2 in
    let weight = bind_ok (number_in row (column + 2) 0 1000000) _ line max_short.2 in
    let made : NeedLine = record { required = required.0; max_short = max_short.0; weight = weight.0 } in
    let same : made ≡ line = cc (weight.2) in
    subst IsNeedLine same (record {
      required = number_from row column 0 1000000000 required.0 required.1;
      max_short = number_from row (column + 1) 0 1000000000 max_short.0 max_short.1;
      weight = number_from row (column + 2) 0 1000000 weight.0 weight.1;
    })

no_need_is : IsNeedLine no_need
no_need_is = record {
  required = from_between 0 1000000000 0 (record { above = omega arith; below = omega arith });
  max_short = from_between 0 1000000000 0 (record { above = omega arith; below = omega arith });
  weight = from_between 0 1000000 0 (record { above = omega arith; below = omega arith });
}

-- the line of a nutrient has a need in its ranges
nutrient_line_is : (settings : Settings) (row : Record) (line : NutrientLine) → nutrient_line_of settings row ≡ Ok line → IsNeedLine line.need
nutrient_line_is settings row line e =
    let name = bind_ok (name_in row 1) _ line e in
    by (has_baskets settings.format) name.2
  where
    by : (own : Bool) → cond own (Ok (record { need = no_need })) (need_in row 2 >>= λ need. Ok (record { need = need })) ≡ Ok line → IsNeedLine line.need
    by true f =
        let made : NutrientLine = record { need = no_need } in
        let same : made ≡ line = cc in
        subst (λ (one : NutrientLine). IsNeedLine one.need) same no_need_is
    by false f =
        let need = bind_ok (need_in row 2) _ line f in
        let made : NutrientLine = record { need = need.0 } in
        let same : made ≡ line = cc (need.2) in
        subst (λ (one : NutrientLine). IsNeedLine one.need) same (need_in_is row 2 need.0 need.1)

-- the needs of all lines of nutrients are in their ranges
pub nutrient_needs_are : (settings : Settings) (rows : List (List (List ℕ))) (all : Lines NutrientLine) → HasLines (nutrient_line_of settings) name_key Nutrients rows all → All (λ (line : NutrientLine). IsNeedLine line.need) all.lines
nutrient_needs_are settings rows all has k d within =
    let inside : k < length rows = omega (arith, has.lines) in
    nutrient_line_is settings (record { file = Nutrients; number = 1 + k; fields = get_or rows k [] }) (get_or all.lines k d) (has.line k d inside)

-- a basket that was made
abbrev pub BasketMade : Demand → ℕ → Known → Basket → Type 0
BasketMade demand k key r = IsMade basket_line_of name_key Baskets basket_of demand.baskets k key r

pub basket_known : (demand : Demand) (k : ℕ) (key : Known) (r : Basket) → BasketMade demand k key r → key ≡ Name r.basket
basket_known demand k key r of =
    let same : record { basket = text_in of.row 1 } ≡ r = cc (of.made) in
    subst (λ (basket : Basket). key ≡ Name basket.basket) same of.known

pub basket_name : (demand : Demand) (k : ℕ) (key : Known) (r : Basket) → BasketMade demand k key r → IsCleanName r.basket
basket_name demand k key r of =
    let same : record { basket = text_in of.row 1 } ≡ r = cc (of.made) in
    subst (λ (basket : Basket). IsCleanName basket.basket) same (clean_name of.row 1 _ of.line (of.clean 1) of.read)

-- a format with baskets of its own has 1 to 16 of them
pub record IsFew (all : Lines BasketLine) : Type 0 where
  pub some : 1 ≤ length all.rows
  pub few : length all.rows ≤ BASKET_LIMIT

few_is : (made all : Lines BasketLine) → with_few made ≡ Ok all → IsFew all
few_is made all e =
    let some = unless_ok (length made.rows == 0) _ (refusal_of_file Baskets EmptyTable) all e in
    let few = unless_ok (nat_lt BASKET_LIMIT (length made.rows)) (Ok made) (refusal_of_file Baskets (TooMany (length made.rows))) all some.1 in
    let same : made ≡ all = cc (few.1) in
    subst IsFew same (record { some = at_least_one (length made.rows) some.0; few = ltb-false BASKET_LIMIT (length made.rows) few.0 })

-- the lines of baskets, and how many there are in a format with baskets of its own
pub record AreBaskets (settings : Settings) (grid : Result (List (List (List ℕ))) Refusal) (all : Lines BasketLine) : Type 0 where
  pub lines : lines_in basket_line_of name_key Baskets grid ≡ Ok all
  pub own : has_baskets settings.format ≡ true → IsFew all

pub basket_lines_are : (settings : Settings) (grid : Result (List (List (List ℕ))) Refusal) (all : Lines BasketLine) → basket_lines_in settings grid ≡ Ok all → AreBaskets settings grid all
basket_lines_are settings grid all e =
    let made = bind_ok (lines_in basket_line_of name_key Baskets grid) _ all e in
    by made.0 made.1 (has_baskets settings.format) refl made.2
  where
    kept : (made : Lines BasketLine) → with_few made ≡ Ok all → made ≡ all
    kept made f =
        let some = unless_ok (length made.rows == 0) _ (refusal_of_file Baskets EmptyTable) all f in
        let few = unless_ok (nat_lt BASKET_LIMIT (length made.rows)) (Ok made) (refusal_of_file Baskets (TooMany (length made.rows))) all some.1 in
        cc (few.1)

    by : (made : Lines BasketLine) → lines_in basket_line_of name_key Baskets grid ≡ Ok made → (own : Bool) → has_baskets settings.format ≡ own → cond own (with_few made) (Ok made) ≡ Ok all → AreBaskets settings grid all
    by made read true own f = record { lines = read ∙ ap Ok (kept made f); own = λ _. few_is made all f }
    by made read false own f = let same : made ≡ all = cc in record { lines = read ∙ ap Ok same; own = λ some. absurd (both_ways (has_baskets settings.format) own some) }

-- a need that was made
abbrev pub NeedMade : Diet → Demand → ℕ → Known → Need → Type 0
NeedMade diet demand k key r = IsMade need_line_of need_key Needs (need_of diet demand) demand.needs k key r

pub record NeedFacts (diet : Diet) (demand : Demand) (key : Known) (r : Need) : Type 0 where
  pub basket_name : List ℕ
  pub nutrient_name : List ℕ
  pub known : key ≡ Names basket_name nutrient_name
  pub basket : IsReference demand.baskets.keys basket_name r.basket
  pub nutrient : IsReference diet.nutrients.keys nutrient_name r.nutrient
  pub numbers : IsNeed r

-- the need of a line is in its ranges
pub need_with_is : (basket nutrient : ℕ) (line : NeedLine) → IsNeedLine line → IsNeed (need_with basket nutrient line)
need_with_is basket nutrient line is = record { required = is.required; max_short = is.max_short; weight = is.weight }

pub need_facts : (diet : Diet) (demand : Demand) (k : ℕ) (key : Known) (r : Need) → NeedMade diet demand k key r → NeedFacts diet demand key r
need_facts diet demand k key r of =
    let row : Record = of.row in
    let first = bind_ok (name_in row 1) _ of.line of.read in
    let second = bind_ok (name_in row 2) _ of.line first.2 in
    let basket = bind_ok (reference_in row 1 demand.baskets.keys) _ r of.made in
    let nutrient = bind_ok (reference_in row 2 diet.nutrients.keys) _ r basket.2 in
    let same : need_with basket.0 nutrient.0 of.line ≡ r = cc (nutrient.2) in
    subst (NeedFacts diet demand key) same (record {
      basket_name = text_in row 1;
      nutrient_name = text_in row 2;
      known = of.known;
      basket = reference_is row 1 demand.baskets.keys basket.0 basket.1;
      nutrient = reference_is row 2 diet.nutrients.keys nutrient.0 nutrient.1;
      numbers = need_with_is basket.0 nutrient.0 of.line (need_in_is row 3 of.line second.2);
    })

-- whether a need is that of a basket for a nutrient
abbrev is_need_of : ℕ → ℕ → Need → Bool
is_need_of basket nutrient r = (r.basket == basket) && (r.nutrient == nutrient)

pub need_once : (diet : Diet) (demand : Demand) (records : List Need) → IsTable need_line_of need_key Needs (need_of diet demand) demand.needs records
    → (basket nutrient : ℕ) → count_by (is_need_of basket nutrient) records ≤ 1
need_once diet demand records is basket nutrient =
    one_known need_line_of need_key Needs (need_of diet demand) demand.needs (is_need_of basket nutrient) records is
    (λ i j first second r s of_r of_s e f.
    let a = need_facts diet demand i first r of_r in
    let b = need_facts diet demand j second s of_s in
    let x = and_parts (r.basket == basket) (r.nutrient == nutrient) e in
    let y = and_parts (s.basket == basket) (s.nutrient == nutrient) f in
    a.known
    ∙ (same_names demand.baskets.keys diet.nutrients.keys a.basket_name a.nutrient_name b.basket_name b.nutrient_name r.basket r.nutrient s.basket s.nutrient (alike r.basket s.basket basket x.0 y.0) (alike r.nutrient s.nutrient nutrient x.1 y.1) a.basket a.nutrient b.basket b.nutrient
    ∙ sym b.known))

-- the need of each line of nutrients
need_at : (lines : List NutrientLine) (k : ℕ) (d : NutrientLine) (e : Need) → k < length lines → get_or (needs_from 0 lines) k e ≡ need_with 0 (0 + k) (get_or lines k d).need
need_at lines k d e within =
    get_or-map (λ (numbered : ℕ × NutrientLine). need_with 0 numbered.0 numbered.1.need) (enumerate_from 0 lines) k (0, d) e (omega (arith, length-enumerate_from 0 lines))
    ∙ ap (λ (numbered : ℕ × NutrientLine). need_with 0 numbered.0 numbered.1.need) (get_or-enumerate_from 0 lines k (0, d) within)

-- a need for each line of nutrients, in order
pub record AreNeeds (all : List Need) (lines : List NutrientLine) : Type 0 where
  pub many : length all ≡ length lines
  pub each : All IsNeed all
  pub in_order : (number : ℕ) (d : Need) → number < length all → IsNeedOf number (get_or all number d)

pub needs_are : (lines : List NutrientLine) → All (λ (line : NutrientLine). IsNeedLine line.need) lines → AreNeeds (needs_from 0 lines) lines
needs_are lines good =
    let none : NutrientLine = record { need = no_need } in
    let many : length (needs_from 0 lines) ≡ length lines = length-map (enumerate_from 0 lines) (λ (numbered : ℕ × NutrientLine). need_with 0 numbered.0 numbered.1.need) ∙ length-enumerate_from 0 lines in
    record {
      many = many;
      each = λ k d within.
          let inside : k < length lines = omega (arith, many) in
          subst IsNeed (sym (need_at lines k none d inside)) (need_with_is 0 (0 + k) (get_or lines k none).need (good k none inside));
      in_order = λ number d within.
          let inside : number < length lines = omega (arith, many) in
          subst (IsNeedOf number) (sym (need_at lines number none d inside)) (record { basket = refl; nutrient = omega arith });
    }
