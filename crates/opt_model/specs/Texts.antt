-- What is printed and written: the verdict's line, a refusal's line, and the plan file.
use Rattle.std.specs.Prelude.{ℕ, cond, ◌==◌, List, [], ◌∷◌, ◌++◌, Option, Some, None, ℤ, pos, ◌-ℤ◌, ◌*ℤ◌, not, if◌then◌else◌, codes, slice_get}
use Rattle.std.specs.List.{flat_map}
use Rattle.std.specs.Option.{option_map_or}
use Rattle.std.specs.Ordering.{int_eq}
use Rattle.std.specs.Fmt.{decimal, signed_decimal}
use Rattle.csv.specs.Writing.{row_text, default_writer}
use Rattle.opt_base.specs.declared.refusal.File.{File}
use Rattle.opt_base.specs.declared.refusal.File.TheVariants as file
use Rattle.opt_base.specs.declared.refusal.Kind.{Kind}
use Rattle.opt_base.specs.declared.refusal.Kind.TheVariants as kind
use Rattle.opt_base.specs.declared.refusal.Refusal.{Refusal}
use Rattle.opt_model.specs.Settings.{has_baskets}
use Rattle.opt_model.specs.Columns.{column_names, column_name}
use Rattle.opt_model.specs.Tables.{Tables}
use Rattle.opt_model.specs.Quantities.{quantities, list_if, step_of}
use Rattle.opt_model.specs.Plans.{Plan}
use Rattle.opt_model.specs.declared.quantity.Quantity.{Quantity}
use Rattle.opt_model.specs.declared.quantity.Quantity.TheVariants.{Ration, Short, Buy, Ship, Keep, Feed, Order}
use Rattle.opt_base.specs.declared.verdict.Verdict.{Verdict}
use Rattle.opt_base.specs.declared.verdict.Verdict.TheVariants as verdict

-- a line: a text and its line feed
abbrev pub line : List ℕ → List ℕ
line text = text ++ 10 ∷ []

-- the best known objective, or that there is none
abbrev pub best_text : Option ℤ → List ℕ
best_text None = codes "none"
best_text (Some best) = signed_decimal best

-- the verdict's line, with the number of nodes
abbrev pub outcome_line : Verdict → ℕ → List ℕ
outcome_line (verdict.Plan objective bound) nodes =
    codes "plan " ++ (signed_decimal objective ++ (codes " bound " ++ (signed_decimal bound
    ++ (codes " gap " ++ (signed_decimal (objective -ℤ bound) ++ (codes " nodes " ++ (decimal nodes ++ 10 ∷ [])))))))
outcome_line verdict.NoPlan nodes = codes "no plan nodes " ++ (decimal nodes ++ 10 ∷ [])
outcome_line (verdict.Unfinished bound best) nodes =
    codes "unfinished bound " ++ (signed_decimal bound ++ (codes " best " ++ (best_text best ++ (codes " nodes " ++ (decimal nodes ++ 10 ∷ [])))))

-- the name of a file
abbrev pub file_name : File → List ℕ
file_name file.Settings = codes "settings.toml"
file_name file.Commodities = codes "commodities.csv"
file_name file.Groups = codes "groups.csv"
file_name file.Nutrients = codes "nutrients.csv"
file_name file.Contents = codes "contents.csv"
file_name file.Places = codes "places.csv"
file_name file.Offers = codes "offers.csv"
file_name file.Arcs = codes "arcs.csv"
file_name file.Persons = codes "persons.csv"
file_name file.Stock = codes "stock.csv"
file_name file.Baskets = codes "baskets.csv"
file_name file.Needs = codes "needs.csv"
file_name file.Model = codes "model"
file_name file.Plan = codes "plan.csv"
file_name file.Certificate = codes "certificate.txt"
file_name file.Edits = codes "edits"
file_name file.Executed = codes "executed.csv"

-- what a kind of refusal is called, with the count that it carries
abbrev pub kind_text : Kind → List ℕ
kind_text kind.MissingFile = codes "MissingFile"
kind_text kind.FileTooBig = codes "FileTooBig"
kind_text kind.NotUtf8 = codes "NotUtf8"
kind_text kind.TomlRefused = codes "TomlRefused"
kind_text kind.SettingMissing = codes "SettingMissing"
kind_text kind.SettingRange = codes "SettingRange"
kind_text kind.ColumnMissing = codes "ColumnMissing"
kind_text kind.ColumnTwice = codes "ColumnTwice"
kind_text kind.Uneven = codes "Uneven"
kind_text kind.EmptyName = codes "EmptyName"
kind_text kind.NameTooLong = codes "NameTooLong"
kind_text kind.BadNumber = codes "BadNumber"
kind_text kind.OutOfRange = codes "OutOfRange"
kind_text kind.Duplicate = codes "Duplicate"
kind_text kind.UnknownName = codes "UnknownName"
kind_text kind.WrongPlaceKind = codes "WrongPlaceKind"
kind_text kind.NoStepInRange = codes "NoStepInRange"
kind_text kind.EmptyTable = codes "EmptyTable"
kind_text (kind.TooMany count) = codes "TooMany " ++ decimal count

-- the record of a refusal, where there is one
abbrev pub record_text : ℕ → List ℕ
record_text number = if number == 0 then [] else codes " record " ++ decimal number

-- the column or key of a refusal, where there is one
abbrev pub column_text : File → ℕ → List ℕ
column_text f column = if column == 0 then [] else codes " column " ++ column_name f column

-- the line of a refusal of the model or of a plan file
abbrev pub refusal_line : Refusal → List ℕ
refusal_line r = codes "refused " ++ (file_name r.file ++ (record_text r.number ++ (column_text r.file r.column ++ (codes ": " ++ (kind_text r.kind ++ 10 ∷ [])))))

-- the name of a record, or nothing where there is no such record
abbrev pub record_name : {A : Type 0} → List A → ℕ → (A → List ℕ) → List ℕ
record_name records number name = option_map_or name (slice_get records number) []

-- what a plan file calls a quantity: its word, its name, its commodity. From format 2 on rations and shortfalls name their basket
abbrev pub words_of : Tables → Quantity → List (List ℕ)
words_of t (Ration b c m) = cond (has_baskets t.settings.format)
    (codes "ration" ∷ record_name t.baskets b (λ r. r.basket) ∷ record_name t.commodities c (λ r. r.commodity) ∷ [])
    (codes "ration" ∷ record_name t.commodities c (λ r. r.commodity) ∷ [] ∷ [])
words_of t (Short d m) = cond (has_baskets t.settings.format)
    (codes "short" ∷ record_name t.needs d (λ r. record_name t.baskets r.basket (λ b. b.basket)) ∷ record_name t.needs d (λ r. record_name t.nutrients r.nutrient (λ n. n.nutrient)) ∷ [])
    (codes "short" ∷ record_name t.needs d (λ r. record_name t.nutrients r.nutrient (λ n. n.nutrient)) ∷ [] ∷ [])
words_of t (Buy o m) = codes "buy" ∷ record_name t.offers o (λ r. r.offer) ∷ [] ∷ []
words_of t (Ship a c m) = codes "ship" ∷ record_name t.arcs a (λ r. r.arc) ∷ record_name t.commodities c (λ r. r.commodity) ∷ []
words_of t (Keep p c m) = codes "keep" ∷ record_name t.places p (λ r. r.place) ∷ record_name t.commodities c (λ r. r.commodity) ∷ []
words_of t (Feed p c m) = codes "feed" ∷ record_name t.places p (λ r. r.place) ∷ record_name t.commodities c (λ r. r.commodity) ∷ []
words_of t (Order o m) = codes "order" ∷ record_name t.offers o (λ r. r.offer) ∷ [] ∷ []

-- the month of a quantity
abbrev pub month_of : Quantity → ℕ
month_of (Ration b c m) = m
month_of (Short d m) = m
month_of (Buy o m) = m
month_of (Ship a c m) = m
month_of (Keep p c m) = m
month_of (Feed p c m) = m
month_of (Order o m) = m

-- the amount that a plan file gives of a quantity: grams of a ration, else the value itself
abbrev pub plan_amount : Tables → Plan → Quantity → ℤ
plan_amount t plan (Ration b c m) = step_of t c *ℤ plan (Ration b c m)
plan_amount t plan q = plan q

-- the fields of a quantity's record in a plan file
abbrev pub plan_fields : Tables → Plan → Quantity → List (List ℕ)
plan_fields t plan q = words_of t q ++ decimal (month_of q) ∷ signed_decimal (plan_amount t plan q) ∷ []

-- a record for each quantity of a list whose value is not 0, in order
abbrev pub plan_records : Tables → Plan → List Quantity → List ℕ
plan_records t plan qs = flat_map (λ q. list_if (not (int_eq (plan q) (pos 0))) (row_text default_writer (plan_fields t plan q))) qs

-- the plan file: the names of the columns, then a record for each quantity with a value other than 0, by number
abbrev pub plan_text : Tables → Plan → List ℕ
plan_text t plan = row_text default_writer (column_names file.Plan) ++ plan_records t plan (quantities t)
