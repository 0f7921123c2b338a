use Rattle.std.proofs.Common.{◌≡◌, ℕ, ◌∷◌, [], ◌++◌, List, ℤ, ap, ◌∙◌}
use Rattle.std.specs.List.{flat_map}
use Rattle.opt_model.specs.Tables.{Tables}
use Rattle.opt_model.specs.Rows.{Terms, at_least_row, at_most_row, group_terms}
use Rattle.opt_model.specs.declared.quantity.Quantity.{Quantity}
use Rattle.opt_model.specs.declared.quantity.Quantity.TheVariants.{Ration}
use Rattle.opt_model.specs.declared.quantity.RowName.TheVariants as row
use Rattle.opt_rows.specs.declared.group_members.Member.{Member}
use Rattle.opt_rows.specs.Gathering.{entries_of}
use Rattle.opt_rows.specs.Listed.{members_of}
use Rattle.opt_rows.proofs.RowSteps.{both_rows, limit_added}
use Rattle.opt_rows.proofs.ListedTerms.{row_added, same_terms, group_listed}
use Rattle.opt_rows.proofs.ShortSums.{short_first, group_terms_small}
use Rattle.opt_rows.proofs.group_rows.add_both.Goals as goal

-- the terms of a group's commodities are those of the group
rations_added : (qs : List Quantity) (t : Tables) (basket group month : ℕ) (members : List Member) (old new : List (ℕ × ℤ)) → members ≡ members_of t group
    → new ≡ old ++ entries_of qs (flat_map (λ r. (Ration basket r.commodity month, r.step_g) ∷ []) members) → new ≡ old ++ entries_of qs (group_terms t basket group month)
rations_added qs t basket group month members old new same added =
    let ration : Member → Terms = λ r. (Ration basket r.commodity month, r.step_g) ∷ [] in
    same_terms qs (flat_map ration members) (group_terms t basket group month) old new (ap (flat_map ration) same ∙ group_listed t basket group month) added

pub returns : goal.returns
returns c =
    let t = c.args.tables.now in
    let qs = c.args.layout.now.quantities in
    let share = c.args.share.now in
    let terms = group_terms t share.basket share.number c.args.month in
    let added = rations_added qs t share.basket share.number c.args.month share.members.now _ _ c.requires.members c.in_ok-add_rations.ensures in
    both_rows qs (at_least_row (row.GroupLow share.basket share.number c.args.month) terms share.group.now.min_g)
    (at_most_row (row.GroupHigh share.basket share.number c.args.month) terms share.group.now.max_g) _ _ _
    (row_added qs (row.GroupLow share.basket share.number c.args.month) terms share.group.now.min_g _ _ _ _ c.new-terms.ensures added c.in_ok-push_at_least.ensures)
    (limit_added qs (row.GroupHigh share.basket share.number c.args.month) terms share.group.now.max_g _ _ _ _ c.new-terms.ensures added c.in_ok-push_at_most.ensures)

pub push_at_least-requires : goal.push_at_least-requires
push_at_least-requires c =
    let t = c.args.tables.now in
    let qs = c.args.layout.now.quantities in
    let share = c.args.share.now in
    record {
      sums = short_first t c.args.layout.now (group_terms t share.basket share.number c.args.month) _ _ c.requires.model c.requires.layout
          (group_terms_small t c.requires.model share.basket share.number c.args.month) c.new-terms.ensures
          (rations_added qs t share.basket share.number c.args.month share.members.now _ _ c.requires.members c.in_ok-add_rations.ensures);
    }

pub push_at_most-requires-clause-sums : goal.push_at_most-requires-clause-sums
push_at_most-requires-clause-sums c =
    let t = c.args.tables.now in
    let qs = c.args.layout.now.quantities in
    let share = c.args.share.now in
    short_first t c.args.layout.now (group_terms t share.basket share.number c.args.month) _ _ c.requires.model c.requires.layout
    (group_terms_small t c.requires.model share.basket share.number c.args.month) c.new-terms.ensures
    (rations_added qs t share.basket share.number c.args.month share.members.now _ _ c.requires.members c.in_ok-add_rations.ensures)
