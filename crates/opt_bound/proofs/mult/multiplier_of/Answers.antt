use Rattle.std.proofs.Common.{Ok, Err, pos, sym, arith, rules}
use Rattle.std.specs.Ordering.{nat_cmp}
use Rattle.std.specs.List.Sorted.{IsBinarySearchResult}
use Rattle.std.proofs.lemmas.Int.{ints}
use Rattle.std.proofs.lemmas.List.Sorted.{answers_always}
use Rattle.opt_bound.proofs.KeptLemmas.{coef-found, coef-not_found}
use Rattle.opt_bound.proofs.mult.multiplier_of.Goals as goal

pub returns-in-Ok : goal.returns-in-Ok
returns-in-Ok c =
    let found : IsBinarySearchResult (λ e. nat_cmp e.0 c.args.row) c.args.entries.now (Ok c.in-Ok.k) =
    c.in-Ok.ensures.position (λ e. e.0) (answers_always _ _ _ (λ f a r g called. search rules))
    in
    omega (arith, ints, coef-found c.args.entries.now c.args.row c.in-Ok.k (0, pos 0) c.requires c.in-Ok.ensures.bound found)

pub returns-in-Err : goal.returns-in-Err
returns-in-Err c =
    let none : IsBinarySearchResult (λ e. nat_cmp e.0 c.args.row) c.args.entries.now (Err c.in-Err.field-0) =
    c.in-Err.ensures.position (λ e. e.0) (answers_always _ _ _ (λ f a r g called. search rules))
    in
    sym (coef-not_found c.args.entries.now c.args.row c.in-Err.field-0 c.requires none)
