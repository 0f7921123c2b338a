use Rattle.std.proofs.Common.{Some, ◌+◌, ap, sym, ◌∙◌, option_map, length, map}
use Rattle.opt_tables.specs.Keys.{known_by}
use Rattle.opt_tables.proofs.KeySets.{found-alone, found-behind}
use Rattle.opt_tables.proofs.keys.Keys.find.Goals as goal

pub returns-in-Some : goal.returns-in-Some
returns-in-Some c =
    rw (← c.self.view_is)
    (sym (found-alone c.args.name.now c.self.inside.names.keys (map known_by c.self.inside.others.keys) c.in-Some.place (sym c.get_index_of.ensures.index ∙ c.in-Some.is)))

pub returns-in_err-place : goal.returns-in_err-place
returns-in_err-place c =
    rw (← c.self.view_is)
    (c.from_residual.ensures
    ∙ ap (option_map (λ n. length c.self.inside.names.keys + n)) (sym c.in_err-place.was)
    ∙ found-behind c.args.name c.self.inside.names.keys c.self.inside.others.keys c.get_index_of-2.result (sym c.get_index_of.ensures.index ∙ c.in_default.is) c.get_index_of-2.ensures.index)

pub returns : goal.returns
returns c =
    rw (← c.self.view_is)
    (ap (λ n. Some (n + c.in_ok-place.place)) c.len.ensures.len
    ∙ ap (option_map (λ n. length c.self.inside.names.keys + n)) (sym c.in_ok-place.was)
    ∙ found-behind c.args.name c.self.inside.names.keys c.self.inside.others.keys c.get_index_of-2.result (sym c.get_index_of.ensures.index ∙ c.in_default.is) c.get_index_of-2.ensures.index)
