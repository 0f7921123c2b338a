use Rattle.std.proofs.Common.{◌≡◌, ◌<◌, ◌≤◌, length, ap, arith}
use Rattle.opt_model.specs.Rows.{is_in_group}
use Rattle.opt_rows.specs.Listed.{member_of}
use Rattle.opt_rows.proofs.PileSteps.{piles_all, pile_grouped}
use Rattle.opt_rows.proofs.group_members.members_of.Goals as goal

pub loop-number-preserved : goal.loop-number-preserved
loop-number-preserved c =
    let t = c.args.tables.now in
    let e = c.commodities-commodity-items.ensures in
    let within : c.loop-number.number < length t.commodities = omega (arith, ap length e, c.loop-number-test.true) in
    pile_grouped (λ r. r.group) (λ n r. member_of n r) (length t.groups) t.commodities c.loop-number.number c.commodity-item.result c.loop-number.members _ within (rw e at c.commodity-item.is)
    c.in_ok-add_member.ensures c.loop-number.invariant

pub returns : goal.returns
returns c =
    let t = c.args.tables.now in
    let all : length t.commodities ≤ c.loop-number.number = omega (arith, ap length c.commodities-commodity-items.ensures, c.loop-number-test.false) in
    piles_all (λ k r. is_in_group r.group k) (λ n r. member_of n r) (length t.groups) t.commodities c.loop-number.number _ all c.loop-number.invariant
