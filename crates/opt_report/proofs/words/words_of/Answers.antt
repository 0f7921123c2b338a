use Rattle.std.proofs.Common.{◌∙◌, ap, sym}
use Rattle.opt_model.specs.Texts.{words_of}
use Rattle.opt_report.proofs.words.words_of.Goals as goal

pub returns-in-Ration : goal.returns-in-Ration
returns-in-Ration c = c.ration_words.ensures c.in-Ration.month ∙ ap (words_of c.args.tables.now) (sym c.in-Ration.is)

pub returns-in-Short : goal.returns-in-Short
returns-in-Short c = c.short_words.ensures c.in-Short.month ∙ ap (words_of c.args.tables.now) (sym c.in-Short.is)
