use Rattle.std.proofs.Common.{◌≡◌, ℕ, ◌≤◌, ◌<◌, ◌^◌, ◌++◌, map, length, Ok}
use Rattle.opt_base.specs.Answers.{◌>>=◌}
use Rattle.opt_cert.specs.declared.place.Place.TheVariants as place
use Rattle.opt_cert.specs.Reading.{lines_left}
use Rattle.opt_cert.specs.Texts.{node_line}
use Rattle.opt_cert.proofs.StepLemmas.{IsReading}
use Rattle.opt_cert.proofs.reading.node_lines.Given as goal

abbrev pub invariant-loop-nodes : goal.invariant-loop-nodes
invariant-loop-nodes l = IsReading l.fn.lines l.lines l.nodes.items

abbrev pub decreases-loop-nodes : goal.decreases-loop-nodes
decreases-loop-nodes l = length l.lines.pieces
