use Rattle.std.proofs.Common.{Bool, [], ◌∷◌, sym, ap, ◌∙◌, append-nil}
use Rattle.std.specs.List.{slice_set}
use Rattle.std.proofs.lemmas.List.{set-get_or}
use Rattle.opt_model.specs.Quantities.{list_if}
use Rattle.opt_rows.specs.Piles.{pile_at, pile_with}
use Rattle.opt_rows.proofs.piles.Piles.add_if.Goals as goal

pub returns-else-is_wanted : goal.returns-else-is_wanted
returns-else-is_wanted g c =
    sym (ap (λ (b : Bool). pile_with c.args.self.now c.args.number (list_if b (c.args.item ∷ []))) c.if-is_wanted.false
    ∙ (ap (slice_set c.args.self.now c.args.number) (append-nil (pile_at c.args.self.now c.args.number)) ∙ set-get_or c.args.self.now c.args.number []))
