-- the commodities so far
use Rattle.std.proofs.Common.{◌∷◌, [], length, take}
use Rattle.opt_model.specs.Quantities.{over, list_if}
use Rattle.opt_model.specs.Rows.{is_in_group}
use Rattle.opt_rows.specs.Listed.{member_of}
use Rattle.opt_rows.specs.Piles.{ArePiles}
use Rattle.opt_rows.proofs.group_members.members_of.Given as goal

abbrev pub invariant-loop-number : goal.invariant-loop-number
invariant-loop-number l =
    ArePiles (length l.tables.groups) (λ k. over (take l.number l.tables.commodities) λ n r. list_if (is_in_group r.group k) (member_of n r ∷ [])) l.members
