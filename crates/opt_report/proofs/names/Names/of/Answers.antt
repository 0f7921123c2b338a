use Rattle.std.proofs.Common.{map, ap, ◌∙◌}
use Rattle.opt_report.proofs.NameLists.{names_more}
use Rattle.opt_report.proofs.names.Names.of.Goals as goal

pub loop-one-preserved : goal.loop-one-preserved
loop-one-preserved g c =
    ap (map (λ name. name.now)) c.in_ok-insert.ensures.keys
    ∙ names_more g.R.Named.name_of c.loop-one.names.keys c.args.records.now c.loop-one.one-index c.one-item.result c.name.result c.loop-one-test.true c.requires.distinct c.loop-one.invariant
    (c.name.ensures ∙ ap g.R.Named.name_of c.one-item.is)
