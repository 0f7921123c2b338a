use Rattle.std.proofs.Common.{◌≡◌, ◌<◌, refl, [], length, reverse, ◌∷◌, drop, List, ap, ◌∙◌, sym, arith}
use Rattle.opt_check.specs.declared.way.Turn.{Turn}
use Rattle.opt_check.proofs.WaySteps.{reverse-set_last}
use Rattle.opt_check.proofs.way.Way.replace_last.Goals as goal

some : (xs : List Turn) → (reverse xs ≡ [] → ⊥) → 0 < length xs
some [] h = absurd (h refl)
some (x ∷ xs) h = omega arith

pub returns : goal.returns
returns c =
    reverse-set_last c.self.inside.turns.items _ c.args.turn (omega (arith, c.len-last.ensures, c.self.inside.turns.ok.0, some c.self.inside.turns.items (λ e. c.requires (sym c.self.view_is ∙ e))))
    ∙ ap (λ (l : List Turn). c.args.turn ∷ drop 1 l) c.self.view_is
