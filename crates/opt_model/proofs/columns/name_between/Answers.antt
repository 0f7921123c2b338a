use Rattle.std.proofs.Common.{◌≡◌, ℕ, List, [], Option, Some, None, get_or, slice_get, lit<, ap, ◌∙◌}
use Rattle.std.specs.Prelude.{unwrap_or}
use Rattle.std.proofs.lemmas.Option.{unwrap_or-slice_get}
use Rattle.std.proofs.lemmas.Iterator.Consumers.{nth_from_yields_List}
use Rattle.std.proofs.lemmas.Iterator.Splits.{YieldsList-from_str_split}
use Rattle.opt_model.specs.Columns.{names_of}
use Rattle.opt_model.proofs.columns.name_between.Goals as goal

-- the name at an index, where there is one, is that of the list
of_name : (names : List (List ℕ)) (index : ℕ) (name : Option (List ℕ)) → name ≡ slice_get names index → unwrap_or name [] ≡ get_or names index []
of_name names index name e = ap (λ o. unwrap_or o []) e ∙ unwrap_or-slice_get names index []

pub returns-in-Some : goal.returns-in-Some
returns-in-Some c =
    let name = nth_from_yields_List _ _ _ c.nth.ensures.ran (YieldsList-from_str_split 44 c.args.columns.now (lit< tt) c.split.ensures.text c.split.ensures.has_more c.split.ensures.pattern) in
    of_name (names_of c.args.columns.now) c.args.index (Some c.in-Some.name.now) (rw c.in-Some.is at name)

pub returns-in-None : goal.returns-in-None
returns-in-None c =
    let name = nth_from_yields_List _ _ _ c.nth.ensures.ran (YieldsList-from_str_split 44 c.args.columns.now (lit< tt) c.split.ensures.text c.split.ensures.has_more c.split.ensures.pattern) in
    of_name (names_of c.args.columns.now) c.args.index None (rw c.in-None.is at name)
