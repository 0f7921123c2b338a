-- What is known of a certificate whose lines are taken one by one.
use Rattle.std.specs.Prelude.{ℕ, [], ◌∷◌, Option, Some, None, Result, Ok, Err, ℤ, pos, false}
use Rattle.opt_base.specs.Answers.{◌>>=◌}
use Rattle.opt_base.specs.declared.verdict.Verdict.{Verdict}
use Rattle.opt_base.specs.declared.verdict.Verdict.TheVariants.{NoPlan}
use Rattle.opt_system.specs.Systems.{System}
use Rattle.opt_bound.specs.Bound.{trivial_multipliers}
use Rattle.opt_tree.specs.declared.cert_node.CertNode.{CertNode}
use Rattle.opt_tree.specs.declared.cert_node.CertNode.TheVariants as node
use Rattle.opt_tree.specs.declared.check_fault.CheckFault.{CheckFault}
use Rattle.opt_tree.specs.Shown.{Known, nothing_seen, conclude}
use Rattle.opt_tree.specs.Reading.{take_node}
use Rattle.opt_cert.specs.declared.cert_line.CertLine.{CertLine}
use Rattle.opt_cert.specs.declared.cert_line.CertLine.TheVariants as line
use Rattle.opt_check.specs.declared.bytes_fault.BytesFault.{BytesFault}
use Rattle.opt_check.specs.declared.bytes_fault.BytesFault.TheVariants.{Check}
use Rattle.opt_check.specs.declared.progress.Progress.{Progress}
use Rattle.opt_check.specs.Claims.{look_claims}

-- nothing is known before the first line: what stands here is replaced before it is looked at
abbrev pub first_known : Known
first_known = record { must_close = false; root_bound = pos 0; best = None; gap = pos 0 }

abbrev pub first_progress : System → Progress
first_progress s = record { verdict = NoPlan; root = trivial_multipliers; known = first_known; walk = s.root ∷ []; seen = nothing_seen }

-- a node on the first box that waits
abbrev pub with_node : System → CertNode → Progress → Result Progress CheckFault
with_node s n p =
    take_node s p.known n p.seen p.walk >>= λ read. Ok (record p { walk = read.waiting; seen = read.seen })

-- one line more
abbrev pub take_line : System → ℤ → CertLine → Progress → Result Progress CheckFault
take_line s gap line.Header p = Ok p
take_line s gap (line.Verdict v) p = Ok (record p { verdict = v })
take_line s gap (line.Root m) p = Ok (record p { root = m })
take_line s gap (line.Point entries) p = look_claims s gap p.verdict p.root entries >>= λ k. Ok (record p { known = k })
take_line s gap (line.Split j t) p = with_node s (node.Split j t) p
take_line s gap (line.Leaf m) p = with_node s (node.Leaf m) p
take_line s gap line.End p = Ok p

-- the fault that is held, or else how far the lines have come
abbrev pub at_hand : Option CheckFault → Progress → Result Progress CheckFault
at_hand None p = Ok p
at_hand (Some fault) p = Err fault

-- one line more, unless a fault is held
abbrev pub after_line : System → ℤ → CertLine → Result Progress CheckFault → Result Progress CheckFault
after_line s gap l held = held >>= take_line s gap l

-- what is answered once the text was read to its end
abbrev pub answer_at : ℕ → Progress → Result (Verdict × ℕ) CheckFault
answer_at limit p = conclude limit p.verdict p.known p.seen >>= λ v. Ok (v, p.seen.nodes)

abbrev pub as_answer : {A : Type 0} → Result A CheckFault → Result A BytesFault
as_answer (Ok x) = Ok x
as_answer (Err fault) = Err (Check fault)

abbrev pub answer_of : ℕ → Progress → Option CheckFault → Result (Verdict × ℕ) BytesFault
answer_of limit p held = as_answer (at_hand held p >>= answer_at limit)
