use Rattle.std.proofs.Common.{Option, ℕ, Some, None, ◌∷◌, [], sym, ap, ◌∙◌}
use Rattle.opt_rows.specs.Listed.{member_of}
use Rattle.opt_rows.specs.Piles.{pile_with, pile_in}
use Rattle.opt_rows.proofs.group_members.add_member.Goals as goal

pub returns-in-None : goal.returns-in-None
returns-in-None c = sym (ap (λ (group : Option ℕ). pile_in c.args.members.now group (member_of c.args.number c.args.commodity.now ∷ [])) c.in-None.is)

pub returns-in_ok-add-in-Some : goal.returns-in_ok-add-in-Some
returns-in_ok-add-in-Some c =
    c.in_ok-add-in-Some.ensures
    ∙ (ap (λ member. pile_with c.args.members.now c.in-Some.group (member ∷ [])) c.member_of.ensures
    ∙ sym (ap (λ (group : Option ℕ). pile_in c.args.members.now group (member_of c.args.number c.args.commodity.now ∷ [])) c.in-Some.is))
