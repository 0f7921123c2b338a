use Rattle.std.proofs.Common.{Some, codes, refl}
use Rattle.opt_tree.specs.Certificates.{entries_of}
use Rattle.opt_cert.specs.declared.cert_line.CertLine.TheVariants as line
use Rattle.opt_cert.specs.Texts.{entries_words}
use Rattle.opt_cert.proofs.WriteLemmas.{adds_line}
use Rattle.opt_cert.proofs.writing.values_line.Goals as goal

pub returns : goal.returns
returns c =
    adds_line c.add_word-2.result c.args.text.now.items c.add_word.new.text.items c.add_point.new.text.items c.add_word-2.new.text.items (codes "point") (entries_words (entries_of c.args.values.now)) (line.Point (Some (entries_of c.args.values.now))) refl c.in_ok-add_word.ensures c.in_ok-add_point.ensures c.add_word-2.ensures
