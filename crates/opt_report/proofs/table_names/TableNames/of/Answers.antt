use Rattle.opt_report.proofs.table_names.TableNames.of.Goals as goal

pub of-requires-clause-distinct : goal.of-requires-clause-distinct
of-requires-clause-distinct c = rw c.baskets.ensures c.settings-settings.ensures.model.keys.basket

pub of-requires-2-clause-distinct : goal.of-requires-2-clause-distinct
of-requires-2-clause-distinct c = rw c.commodities.ensures c.settings-settings.ensures.model.keys.commodity

pub of-requires-3-clause-distinct : goal.of-requires-3-clause-distinct
of-requires-3-clause-distinct c = rw c.nutrients.ensures c.settings-settings.ensures.model.keys.nutrient

pub of-requires-4-clause-distinct : goal.of-requires-4-clause-distinct
of-requires-4-clause-distinct c = rw c.offers.ensures c.settings-settings.ensures.model.keys.offer

pub of-requires-5-clause-distinct : goal.of-requires-5-clause-distinct
of-requires-5-clause-distinct c = rw c.arcs.ensures c.settings-settings.ensures.model.keys.arc

pub of-requires-6-clause-distinct : goal.of-requires-6-clause-distinct
of-requires-6-clause-distinct c = rw c.places.ensures c.settings-settings.ensures.model.keys.place
