use Rattle.std.proofs.Common.{◌==◌, not, ap, ◌∙◌, rules}
use Rattle.std.proofs.lemmas.Fn.{filter_same}
use Rattle.opt_simplex.specs.Columns.{without_position}
use Rattle.opt_simplex.proofs.columns.Column.remove.Goals as goal

pub returns : goal.returns
returns c =
    filter_same _ (λ p. not (p == c.args.position)) _ (λ x b f' k. search rules) _ _ c.retain.ensures.filtered
    ∙ ap (without_position c.args.position) c.self.view_is
