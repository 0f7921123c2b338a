-- What the bytes of the settings say.
use Rattle.std.specs.Prelude.{◌==◌, ◌&&◌, ℕ, ℤ, pos, negsuc, List, [], ◌∷◌, map, length, Option, Some, None, Result, Ok, Err, option_map, option_and_then, nat_le, codes, if◌then◌else◌}
use Rattle.std.specs.Str.{bytes_eq}
use Rattle.toml.specs.Data.{Data, Items, no_items, item, Members, as_array, as_integer, as_str, get_member}
use Rattle.toml.specs.Parse.{parse_document}
use Rattle.opt_base.specs.Answers.{◌>>=◌}
use Rattle.opt_base.specs.Refusals.{refusal_at, refusal_of_file}
use Rattle.opt_base.specs.declared.refusal.Refusal.{Refusal}
use Rattle.opt_base.specs.declared.refusal.File.TheVariants.{Settings as SettingsFile}
use Rattle.opt_base.specs.declared.refusal.Kind.TheVariants.{SettingMissing, SettingRange, TomlRefused}
use Rattle.opt_model.specs.Settings.{Settings}
use Rattle.opt_model.specs.declared.records.Goal.{Goal}
use Rattle.opt_model.specs.declared.records.Goal.TheVariants.{Cost, Shortfall}
use Rattle.opt_read.specs.declared.key.Key.{Key}
use Rattle.opt_read.specs.declared.key.Key.TheVariants as key
use Rattle.opt_model.specs.declared.limits.TheConstants.{LAST_FORMAT}
use Rattle.opt_model.specs.declared.limits.TheConstants.{MONTH_LIMIT}
use Rattle.opt_read.specs.declared.limits.TheConstants.{AMOUNT_LIMIT, DAY_LIMIT, NODE_SETTING_LIMIT}
use Rattle.opt_read.specs.Keys.{key_name, key_number}
use Rattle.opt_read.specs.Reading.{text_of}

-- a document, where the text is one
abbrev pub toml_or_refused : Option Members → Result Members Refusal
toml_or_refused None = Err (refusal_of_file SettingsFile TomlRefused)
toml_or_refused (Some entries) = Ok entries

-- the document that a text is, which must be TOML
abbrev pub document_of : List ℕ → Result Members Refusal
document_of text = toml_or_refused (parse_document text)

-- a value that must be there
abbrev pub or_missing : {A : Type 0} → Key → Option A → Result A Refusal
or_missing at None = Err (refusal_at SettingsFile 0 (key_number at) SettingMissing)
or_missing at (Some value) = Ok value

-- a value that must have the right type, word, length and range
abbrev pub or_out_of_range : {A : Type 0} → Key → Option A → Result A Refusal
or_out_of_range at None = Err (refusal_at SettingsFile 0 (key_number at) SettingRange)
or_out_of_range at (Some value) = Ok value

-- an integer that is not below 0
abbrev pub natural_of : ℤ → Option ℕ
natural_of (pos n) = Some n
natural_of (negsuc n) = None

-- a number from low to high
abbrev pub number_between : ℕ → ℕ → ℕ → Option ℕ
number_between low high n = if nat_le low n && nat_le n high then Some n else None

-- an integer from low to high
abbrev pub integer_between : ℕ → ℕ → Data → Option ℕ
integer_between low high value = option_and_then (number_between low high) (option_and_then natural_of (as_integer value))

-- an amount of mills or of weighted shortfall
abbrev pub amount_value : Data → Option ℤ
amount_value value = option_map pos (integer_between 0 AMOUNT_LIMIT value)

-- the items of an array
abbrev pub items : Items → List Data
items no_items = []
items (item value more) = value ∷ items more

-- all of these, where each is there
abbrev pub all_there : {A : Type 0} → List (Option A) → Option (List A)
all_there [] = Some []
all_there (None ∷ more) = None
all_there (Some x ∷ more) = option_map (λ xs. x ∷ xs) (all_there more)

-- the days of each month: an array of that many integers from 0 to 31
abbrev pub day_list : ℕ → List Data → Option (List ℕ)
day_list months values = if length values == months then all_there (map (integer_between 0 DAY_LIMIT) values) else None

-- the same where an array stands
abbrev pub day_array : ℕ → Data → Option (List ℕ)
day_array months value = option_and_then (λ array. day_list months (items array)) (as_array value)

-- the word for what the objective is
abbrev pub goal_named : List ℕ → Option Goal
goal_named word = if bytes_eq word (codes "cost") then Some Cost else (if bytes_eq word (codes "shortfall") then Some Shortfall else None)

-- what the objective is by a value
abbrev pub goal_value : Data → Option Goal
goal_value value = option_and_then goal_named (as_str value)

-- what stands at a key, where it must be there
abbrev pub required_value : Members → Key → Result Data Refusal
required_value entries at = or_missing at (get_member (key_name at) entries)

-- the integer at a key, from low to high
abbrev pub number_setting : Members → Key → ℕ → ℕ → Result ℕ Refusal
number_setting entries at low high = required_value entries at >>= λ value. or_out_of_range at (integer_between low high value)

-- the days of each month
abbrev pub days_setting : Members → ℕ → Result (List ℕ) Refusal
days_setting entries months = required_value entries key.Days >>= λ value. or_out_of_range key.Days (day_array months value)

-- what the objective is
abbrev pub goal_setting : Members → Result Goal Refusal
goal_setting entries = required_value entries key.Goal >>= λ value. or_out_of_range key.Goal (goal_value value)

-- the amount at a key
abbrev pub amount_setting : Members → Key → Result ℤ Refusal
amount_setting entries at = required_value entries at >>= λ value. or_out_of_range at (amount_value value)

-- an amount that may be absent
abbrev pub amount_or_none : Option Data → Result (Option ℤ) Refusal
amount_or_none None = Ok None
amount_or_none (Some value) = or_out_of_range key.Budget (amount_value value) >>= λ amount. Ok (Some amount)

-- the budget of a document
abbrev pub budget_setting : Members → Result (Option ℤ) Refusal
budget_setting entries = amount_or_none (get_member (key_name key.Budget) entries)

-- the settings that the entries of a document are, or the first refusal by the order of the keys; further entries are not looked at
abbrev pub setup_of : Members → Result Settings Refusal
setup_of entries =
    number_setting entries key.Format 1 LAST_FORMAT >>= λ format.
    number_setting entries key.Months 1 MONTH_LIMIT >>= λ months.
    days_setting entries months >>= λ days.
    goal_setting entries >>= λ goal.
    amount_setting entries key.Gap >>= λ gap.
    number_setting entries key.Nodes 1 NODE_SETTING_LIMIT >>= λ nodes.
    budget_setting entries >>= λ budget.
    Ok (record { format = format; months = months; days = days; goal = goal; gap = gap; nodes = nodes; budget = budget })

-- the settings that a file's bytes are, or the first refusal
unfoldable pub settings_of : List ℕ → Result Settings Refusal
settings_of bytes = text_of SettingsFile bytes >>= λ text. document_of text >>= λ entries. setup_of entries
