-- What is looked at one after the other is what is shown.
use Rattle.std.proofs.Common.{◌≡◌, ℕ, List, [], Option, Result, Ok, Err, ℤ, pos, ◌≤ℤ◌, IfOk, length, refl, ap, sym, ◌∙◌, subst}
use Rattle.opt_base.specs.Answers.{◌>>=◌}
use Rattle.opt_base.specs.declared.verdict.Verdict.{Verdict}
use Rattle.opt_system.specs.Systems.{System, IsLimited}
use Rattle.opt_tree.specs.declared.cert_node.CertNode.{CertNode}
use Rattle.opt_tree.specs.declared.check_fault.CheckFault.{CheckFault}
use Rattle.opt_tree.specs.declared.check_fault.CheckFault.TheVariants.{OutOfMemory}
use Rattle.opt_tree.specs.Trees.{BoxTree, preorder}
use Rattle.opt_tree.specs.Certificates.{Certificate, IsCertificate, listed_point}
use Rattle.opt_tree.specs.Shown.{Known, Seen, nothing_seen, known_of, look_root, look_point, look, conclude, shown}
use Rattle.opt_tree.specs.Reading.{Read}
use Rattle.opt_tree.specs.Verdicts.{IsTrueVerdict}
use Rattle.opt_tree.proofs.ReadingLemmas.{run-all}
use Rattle.opt_tree.proofs.ShownTrue.{shown_true}
use Rattle.opt_check.specs.Answers.{Fails, Shows}
use Rattle.opt_check.specs.Claims.{look_claims, look_nodes}

-- a fault of the first thing is one of the whole
pub Fails-then : {A B : Type 0} (fault : CheckFault) (r : Result A CheckFault) (f : A → Result B CheckFault) → Fails fault r → Fails fault (r >>= f)
Fails-then OutOfMemory r f h = tt
Fails-then fault r f h = rw h refl

-- what is shown is given
pub Shows-same : {A : Type 0} (r s : Result A CheckFault) → s ≡ r → Shows (λ x. x) r s
Shows-same (Ok x) s is = is
Shows-same (Err fault) s is = failed fault is
  where
    failed : {A : Type 0} (fault : CheckFault) {s : Result A CheckFault} → s ≡ Err fault → Fails fault s
    failed OutOfMemory is = tt
    failed fault is = is

-- what was read at the end of a tree
abbrev ended : Seen → Result Read CheckFault
ended a = Ok (record { seen = a; waiting = [] })

seen_of : (r : Result Seen CheckFault) → ((r >>= ended) >>= λ read. Ok read.seen) ≡ r
seen_of (Ok a) = refl
seen_of (Err e) = refl

-- what is seen of the nodes of a tree in order is what looking through the tree sees
pub looked_through : (s : System) (k : Known) (tree : BoxTree) (nodes : List CertNode) → nodes ≡ preorder tree → look_nodes s k nodes ≡ look s k nothing_seen s.root tree
looked_through s k tree nodes is =
    ap (look_nodes s k) is
    ∙ ap (λ (r : Result Read CheckFault). r >>= λ read. Ok read.seen) (run-all s k nothing_seen s.root tree)
    ∙ seen_of (look s k nothing_seen s.root tree)

-- a certificate's parts in order: what is judged before its nodes, its nodes, what they show together
abbrev pub shown_in_order : System → ℤ → ℕ → Certificate → List CertNode → Result Verdict CheckFault
shown_in_order s gap limit c nodes =
    look_claims s gap c.verdict c.root c.point >>= λ k. look_nodes s k nodes >>= λ seen. conclude limit c.verdict k seen

regroup : (r : Result ℤ CheckFault) (p : Result (Option ℤ) CheckFault) (known : ℤ → Option ℤ → Known) (f g : Known → Result Verdict CheckFault) → ((k : Known) → f k ≡ g k) → (r >>= λ b. p >>= λ best. f (known b best)) ≡ ((r >>= λ b. p >>= λ best. Ok (known b best)) >>= g)
regroup (Ok b) (Ok best) known f g same = same (known b best)
regroup (Ok b) (Err e) known f g same = refl
regroup (Err e) p known f g same = refl

pub shown_is : (s : System) (gap : ℤ) (limit : ℕ) (c : Certificate) (nodes : List CertNode) → nodes ≡ preorder c.tree → shown s gap limit c ≡ shown_in_order s gap limit c nodes
shown_is s gap limit c nodes is =
    regroup (look_root s c.verdict c.root) (look_point s c.verdict c.point) (known_of c.verdict gap)
    (λ k. look s k nothing_seen s.root c.tree >>= λ seen. conclude limit c.verdict k seen)
    (λ k. look_nodes s k nodes >>= λ seen. conclude limit c.verdict k seen)
    (λ k. ap (λ (r : Result Seen CheckFault). r >>= λ seen. conclude limit c.verdict k seen) (sym (looked_through s k c.tree nodes is)))

module _ (s : System) (gap : ℤ) (limit : ℕ) (c : Certificate) (nodes : List CertNode) (is : nodes ≡ preorder c.tree) where
  -- a fault before the nodes
  pub claims_fail : (fault : CheckFault) → Fails fault (look_claims s gap c.verdict c.root c.point) → Fails fault (shown s gap limit c)
  claims_fail fault failed =
      subst (λ (r : Result Verdict CheckFault). Fails fault r) (sym (shown_is s gap limit c nodes is))
      (Fails-then fault (look_claims s gap c.verdict c.root c.point) (λ k. look_nodes s k nodes >>= λ seen. conclude limit c.verdict k seen) failed)

  -- a fault of a node
  pub nodes_fail : (k : Known) (fault : CheckFault) → look_claims s gap c.verdict c.root c.point ≡ Ok k → Fails fault (look_nodes s k nodes) → Fails fault (shown s gap limit c)
  nodes_fail k fault known failed =
      subst (λ (r : Result Verdict CheckFault). Fails fault r) (sym (shown_is s gap limit c nodes is ∙ ap (λ (r : Result Known CheckFault). r >>= λ k. look_nodes s k nodes >>= λ seen. conclude limit c.verdict k seen) known))
      (Fails-then fault (look_nodes s k nodes) (conclude limit c.verdict k) failed)

  -- what all show together
  pub all_show : (k : Known) (seen : Seen) → look_claims s gap c.verdict c.root c.point ≡ Ok k → look_nodes s k nodes ≡ Ok seen → shown s gap limit c ≡ conclude limit c.verdict k seen
  all_show k seen known looked =
      shown_is s gap limit c nodes is
      ∙ ap (λ (r : Result Known CheckFault). r >>= λ k. look_nodes s k nodes >>= λ seen. conclude limit c.verdict k seen) known
      ∙ ap (λ (r : Result Seen CheckFault). r >>= λ seen. conclude limit c.verdict k seen) looked

-- where a verdict is answered, it is true
pub verdict_true : (s : System) (gap : ℤ) (limit : ℕ) (c : Certificate) (r : Result Verdict CheckFault) → IsLimited s → pos 0 ≤ℤ gap → IsCertificate c → shown s gap limit c ≡ r → IfOk r (λ v. IsTrueVerdict s gap v (listed_point (length s.cost) c.point))
verdict_true s gap limit c (Ok v) limited from certificate h = shown_true s gap limit c v limited from certificate h
verdict_true s gap limit c (Err fault) limited from certificate h = tt
