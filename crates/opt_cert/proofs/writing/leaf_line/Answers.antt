use Rattle.std.proofs.Common.{codes, refl}
use Rattle.opt_cert.specs.declared.cert_line.CertLine.TheVariants as line
use Rattle.opt_cert.specs.Texts.{multipliers_words}
use Rattle.opt_cert.proofs.WriteLemmas.{adds_line}
use Rattle.opt_cert.proofs.writing.leaf_line.Goals as goal

pub returns : goal.returns
returns c =
    adds_line c.add_word-2.result c.args.text.now.items c.add_word.new.text.items c.add_multipliers.new.text.items c.add_word-2.new.text.items (codes "leaf") (multipliers_words c.args.mult.now) (line.Leaf c.args.mult.now) refl c.in_ok-add_word.ensures c.in_ok-add_multipliers.ensures c.add_word-2.ensures
