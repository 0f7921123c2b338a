use Rattle.std.proofs.Common.{◌≡◌, ◌<◌, ◌+◌, ◌∙◌, sym, arith, inl, inr}
use Rattle.opt_read.proofs.CellLemmas.{field-inside, field-past}
use Rattle.opt_read.proofs.cells.Cells.field.Goals as goal
use Rattle.opt_read.proofs.cells.Cells.field.Goals.{then-index-self-via-then-index-self, then-index-self-via-else-index-self+then-column-self}

pub returns-then-index-self : goal.returns-then-index-self
returns-then-index-self c =
    let number : c.args.number ≡ c.in-Some.index + 1 = omega arith in
    rw (← c.self.view_is) (elim c.then-index-self.branch [
      | then-index-self-via-then-index-self w ↦
          sym (field-past c.self.inside.width c.self.inside.count c.self.inside.fields c.args.number c.in-Some.index c.args.column number (inl (omega arith)))
      | then-index-self-via-else-index-self+then-column-self w ↦
          sym (field-past c.self.inside.width c.self.inside.count c.self.inside.fields c.args.number c.in-Some.index c.args.column number (inr (omega arith)))
    ])

pub returns : goal.returns
returns c =
    let number : c.args.number ≡ c.in-Some.index + 1 = omega arith in
    let inside : c.in-Some.index < c.self.inside.count = omega arith in
    let within : c.args.column < c.self.inside.width = omega arith in
    rw (← c.self.view_is) (c.field.ensures ∙ sym (field-inside c.self.inside.width c.self.inside.count c.self.inside.fields c.args.number c.in-Some.index c.args.column number inside within))
