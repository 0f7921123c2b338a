-- Reading the nodes in order sees what looking through the tree sees.
use Rattle.std.proofs.Common.{◌≡◌, List, [], ◌∷◌, ◌++◌, Ok, Err, Result, refl, ap, sym, ◌∙◌, append_assoc}
use Rattle.std.proofs.lemmas.List.{append-nil}
use Rattle.opt_base.specs.Answers.{◌>>=◌}
use Rattle.opt_system.specs.Ranges.{Range}
use Rattle.opt_system.specs.Cuts.{left_half, right_half}
use Rattle.opt_system.specs.Systems.{System}
use Rattle.opt_tree.specs.declared.cert_node.CertNode.{CertNode}
use Rattle.opt_tree.specs.declared.check_fault.CheckFault.{CheckFault}
use Rattle.opt_tree.specs.Trees.{BoxTree, leaf, split, preorder}
use Rattle.opt_tree.specs.Shown.{Known, Seen, look, look_leaf, look_cut}
use Rattle.opt_tree.specs.Reading.{run}

-- what is done after two steps one by one is done after both
then_then : {A B C : Type 0} (r : Result A CheckFault) (f : A → Result B CheckFault) (g : B → Result C CheckFault) → ((r >>= f) >>= g) ≡ (r >>= λ a. f a >>= g)
then_then (Ok a) f g = refl
then_then (Err e) f g = refl

-- the same first step and equal rests
then_same : {A B : Type 0} (r : Result A CheckFault) (f g : A → Result B CheckFault) → ((a : A) → f a ≡ g a) → (r >>= f) ≡ (r >>= g)
then_same (Ok a) f g h = h a
then_same (Err e) f g h = refl

-- the nodes of a tree on the first box that waits, then the others
pub run-preorder : (s : System) (k : Known) (seen : Seen) (box : Range) (boxes : List Range) (tree : BoxTree) (nodes : List CertNode) → run s k (record { seen = seen; waiting = box ∷ boxes }) (preorder tree ++ nodes) ≡ (look s k seen box tree >>= λ a. run s k (record { seen = a; waiting = boxes }) nodes)
run-preorder s k seen box boxes (leaf m) nodes = then_then (look_leaf s k seen box m) (λ a. Ok (record { seen = a; waiting = boxes })) (λ next. run s k next nodes)
run-preorder s k seen box boxes (split j t left right) nodes =
    then_then (look_cut seen box j t) (λ a. Ok (record { seen = a; waiting = left_half box j t ∷ right_half box j t ∷ boxes })) (λ next. run s k next ((preorder left ++ preorder right) ++ nodes))
    ∙ then_same (look_cut seen box j t)
    (λ a. run s k (record { seen = a; waiting = left_half box j t ∷ right_half box j t ∷ boxes }) ((preorder left ++ preorder right) ++ nodes))
    (λ a. (look s k a (left_half box j t) left >>= λ b. look s k b (right_half box j t) right) >>= λ c. run s k (record { seen = c; waiting = boxes }) nodes)
    (λ a.
    ap (run s k (record { seen = a; waiting = left_half box j t ∷ right_half box j t ∷ boxes })) (append_assoc (preorder left) (preorder right) nodes)
    ∙ run-preorder s k a (left_half box j t) (right_half box j t ∷ boxes) left (preorder right ++ nodes)
    ∙ then_same (look s k a (left_half box j t) left)
    (λ b. run s k (record { seen = b; waiting = right_half box j t ∷ boxes }) (preorder right ++ nodes))
    (λ b. look s k b (right_half box j t) right >>= λ c. run s k (record { seen = c; waiting = boxes }) nodes)
    (λ b. run-preorder s k b (right_half box j t) boxes right nodes)
    ∙ sym (then_then (look s k a (left_half box j t) left) (λ b. look s k b (right_half box j t) right) (λ c. run s k (record { seen = c; waiting = boxes }) nodes)))
    ∙ sym
    (then_then (look_cut seen box j t) (λ a. look s k a (left_half box j t) left >>= λ b. look s k b (right_half box j t) right) (λ c. run s k (record { seen = c; waiting = boxes }) nodes))

-- all nodes of a tree that stands on the root's box
pub run-all : (s : System) (k : Known) (seen : Seen) (box : Range) (tree : BoxTree) → run s k (record { seen = seen; waiting = box ∷ [] }) (preorder tree) ≡ (look s k seen box tree >>= λ a. Ok (record { seen = a; waiting = [] }))
run-all s k seen box tree =
    ap (run s k (record { seen = seen; waiting = box ∷ [] })) (sym (append-nil (preorder tree))) ∙ run-preorder s k seen box [] tree []
