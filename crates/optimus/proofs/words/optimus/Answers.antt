use Rattle.std.proofs.Common.{map, option_map, ap, sym, ◌∙◌}
use Rattle.std.specs.Prelude.{string_bytes}
use Rattle.optimus.proofs.Replies.{runs_form}
use Rattle.optimus.proofs.words.optimus.Goals as goal

pub returns-in-Some : goal.returns-in-Some
returns-in-Some g c =
    record { runs = runs_form (g.S.Shelf.files c.args.shelf.now) (map string_bytes c.args.words.now) _ _ _ _ _ _ (sym c.form_of.ensures ∙ ap (option_map _) c.in-Some.is) c.run.ensures.runs }

pub returns-in-None : goal.returns-in-None
returns-in-None g c =
    record { runs = runs_form (g.S.Shelf.files c.args.shelf.now) (map string_bytes c.args.words.now) _ _ _ _ _ _ (sym c.form_of.ensures ∙ ap (option_map _) c.in-None.is) c.refuse_words.ensures.runs }
