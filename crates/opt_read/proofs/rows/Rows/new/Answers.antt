use Rattle.std.proofs.Common.{◌+◌, ◌∙◌, inr, length, refl}
use Rattle.csv.specs.Reading.{strip_bom}
use Rattle.csv.specs.declared.parser.State.TheVariants as st
use Rattle.opt_read.proofs.TextLemmas.{records-text, strip_bom-text}
use Rattle.opt_read.proofs.rows.Rows.new.Goals as goal

pub invariant_of-result : goal.invariant_of-result
invariant_of-result c =
    let made = c.from_reader-reader.ensures in
    let headers = c.has_headers.ensures in
    let flexible = c.flexible.ensures in
    let bytes = strip_bom c.args.text.now in
    λ _. record {
      bytes = bytes;
      bytes_are = rw (← c.as_bytes.ensures.value) made.source;
      plain = rw (flexible, headers) at made.trim ∙ c.new.ensures.trim;
      ready = inr (inr (rw (flexible, headers) at made.has_headers, made.headers));
      config = rw (flexible, headers) at made.config ∙ c.new.ensures.config;
      flexible = rw flexible at made.flexible;
      between = rw made.state refl;
      text = rw made.state (records-text (length bytes + 1) st.StartRecord bytes (strip_bom-text c.args.text.now c.utf8.text));
    }
