-- A search that ends: its verdict is what its outcome's certificate shows.
use Rattle.std.proofs.Common.{◌≡◌, ◌⊎◌, inl, inr, ℕ, ◌+◌, ◌<◌, Bool, true, false, cond, nat_le, List, [], ◌∷◌, length, Contains, Option, Some, None, is_none, Ok, Err, Result, ℤ, pos, ◌≤ℤ◌, refl, subst, ap, sym, ◌∙◌, arith}
use Rattle.std.specs.Option.{option_map, IfSome}
use Rattle.std.specs.Ordering.{int_eq}
use Rattle.std.proofs.lemmas.Int.{ints}
use Rattle.std.proofs.lemmas.Bool.Decides.{nat_tests}
use Rattle.opt_base.specs.Answers.{◌>>=◌}
use Rattle.opt_base.specs.declared.verdict.Verdict.{Verdict}
use Rattle.opt_base.specs.declared.verdict.Verdict.TheVariants as verdict
use Rattle.opt_system.specs.Ranges.{Range}
use Rattle.opt_system.specs.Systems.{System, IsLimited, Meets}
use Rattle.opt_bound.specs.declared.fault.EntryFault.{EntryFault}
use Rattle.opt_bound.specs.declared.leaf.Leaf.{Leaf}
use Rattle.opt_bound.specs.declared.leaf.Leaf.TheVariants.{Empty, AtLeast}
use Rattle.opt_bound.specs.Verdict.{IsTrueOf}
use Rattle.opt_bound.proofs.FaultLemmas.{no_fault}
use Rattle.opt_tree.specs.declared.check_fault.CheckFault.{CheckFault}
use Rattle.opt_tree.specs.declared.check_fault.CheckFault.TheVariants.{RootLine, UnderLimit, NothingOpen, WrongBound}
use Rattle.opt_tree.specs.Certificates.{named_value, entries_of, certificate_of}
use Rattle.opt_tree.specs.Nodes.{IsLeaf, tree_of}
use Rattle.opt_tree.specs.Shown.{Known, Seen, nothing_seen, leaf_at, is_closed, root_bound_of, look_root, look_point, look, bound_shown, judge_bound, conclude, must_close, known_of, shown}
use Rattle.opt_tree.proofs.LeafTrue.{leaf_at-true}
use Rattle.opt_tree.proofs.LookTrue.{Bounds}
use Rattle.opt_search.specs.declared.state.Best.{Best}
use Rattle.opt_search.specs.declared.state.State.{State}
use Rattle.opt_search.specs.State.{bound_of_leaf, shown_at, best_value, IsSettledLeaf, IsOpenLeaf, IsBest, IsSound, IsComplete, IsLeastShown, verdict_by, is_empty, Concludes}
use Rattle.opt_search.proofs.LookWalk.{shows, IsFaultless, IsShownBound, SeesAll, look_tree}
use Rattle.opt_search.proofs.PointEntries.{int_eq-self, look_entries-found}

-- a search between two steps that is over: no leaf is open, or one more split would pass the limit
pub record IsEnded (s : System) (gap : ℤ) (limit : ℕ) (st : State) : Type 0 where
  pub sound : IsSound s gap st
  pub complete : IsComplete st
  pub over : (st.open_leaves ≡ []) ⊎ (limit < length st.tree.nodes + 2)

-- the best point, where one is known
abbrev pub best_known : Option Best → Option (List ℤ)
best_known best = option_map (λ b. b.point) best

-- what is known at the end, where each leaf has to be closed or not
abbrev pub known_with : Bool → ℤ → State → Known
known_with must gap st = record { must_close = must; root_bound = st.root_bound; best = best_value st.best; gap = gap }

-- ---- verdicts
pub named_by : (e : Bool) (best : Option ℤ) (bound : ℤ) → named_value (verdict_by e best bound) ≡ best
named_by true (Some b) bound = refl
named_by true None bound = refl
named_by false best bound = refl

pub must_by : (e : Bool) (best : Option ℤ) (bound : ℤ) → must_close (verdict_by e best bound) ≡ e
must_by true (Some b) bound = refl
must_by true None bound = refl
must_by false best bound = refl

pub none_of : (xs : List (ℤ × ℕ)) → is_empty xs ≡ true → xs ≡ []
none_of [] h = refl
none_of (e ∷ es) h = cc

pub some_of : (xs : List (ℤ × ℕ)) → is_empty xs ≡ false → (b : ℤ) × (i : ℕ) × Contains xs (b, i)
some_of [] h = cc
some_of (e ∷ es) h = (e.0, e.1, (0, omega arith, refl))

contains_none : (xs : List (ℤ × ℕ)) (b : ℤ) (i : ℕ) → xs ≡ [] → Contains xs (b, i) → ⊥
contains_none xs b i e h = let none : length xs ≡ 0 = ap length e in omega (arith, h.1)

-- ---- leaves at the end
pub settled_leaf : (st : State) (i : ℕ) → IsComplete st → IsLeaf st.tree i → IsSettledLeaf st i
settled_leaf st i complete is = record { leaf = is; settled = omega (arith, is.in_tree) }

pub shows_is : (s : System) (gap : ℤ) (st : State) (i : ℕ) → IsSound s gap st → IsComplete st → IsLeaf st.tree i → shown_at st.shown.items i ≡ shows s st.tree i
shows_is s gap st i sound complete is = sound.shown_is i (settled_leaf st i complete is)

-- a leaf that is not closed is among the open ones
opened : (s : System) (gap : ℤ) (st : State) (must : Bool) (i : ℕ) → IsSound s gap st → IsComplete st → IsLeaf st.tree i → is_closed (known_with must gap st) (shows s st.tree i) ≡ false → (b : ℤ) × Contains st.open_leaves (b, i)
opened s gap st must i sound complete is h =
    let p : (b : ℤ) × (shows s st.tree i ≡ AtLeast b) = bound_if (known_with must gap st) (shows s st.tree i) h in (
      p.0,
      (sound.open_are p.0 i).1 (record {
        leaf = settled_leaf st i complete is;
        shown = shows_is s gap st i sound complete is ∙ p.1;
        open_still = ap (is_closed (known_with must gap st)) (sym p.1) ∙ h;
      }),
    )
  where
    bound_if : (k : Known) (l : Leaf) → is_closed k l ≡ false → (b : ℤ) × (l ≡ AtLeast b)
    bound_if k Empty h = cc
    bound_if k (AtLeast b) h = (b, refl)

-- and an open leaf is not closed
pub not_closed : (s : System) (gap : ℤ) (st : State) (must : Bool) (b : ℤ) (i : ℕ) → IsSound s gap st → IsComplete st → IsOpenLeaf gap st b i → is_closed (known_with must gap st) (shows s st.tree i) ≡ false
not_closed s gap st must b i sound complete open_leaf =
    ap (is_closed (known_with must gap st)) (sym (shows_is s gap st i sound complete open_leaf.leaf.leaf) ∙ open_leaf.shown) ∙ open_leaf.open_still

closed_or_open : (b : Bool) → (b ≡ true) ⊎ (b ≡ false)
closed_or_open true = inl refl
closed_or_open false = inr refl

faultless : (s : System) (gap : ℤ) (st : State) (must : Bool) → IsSound s gap st → IsComplete st → (must ≡ true → st.open_leaves ≡ []) → IsFaultless s (known_with must gap st) st.tree
faultless s gap st must sound complete none = record {
  admissible = λ i is. sound.admissible i (settled_leaf st i complete is);
  closed = λ i is h. elim (closed_or_open (is_closed (known_with must gap st) (shows s st.tree i))) [
    | inl e ↦ e
    | inr e ↦
        let p : (b : ℤ) × Contains st.open_leaves (b, i) = opened s gap st must i sound complete is e in
        absurd (contains_none st.open_leaves p.0 i (none h) p.1)
  ];
}

-- ---- the least bound that is seen is the search's own
same_least : (s : System) (gap : ℤ) (st : State) (a b : Option ℤ) → IsSound s gap st → IsComplete st → IsLeastShown st a → ((n : ℕ) (z : ℤ) → IsLeaf st.tree n → shows s st.tree n ≡ AtLeast z → Bounds b z) → ((z : ℤ) → b ≡ Some z → IsShownBound s st.tree z) → a ≡ b
same_least s gap st None None sound complete is bounds attained = refl
same_least s gap st None (Some b) sound complete is bounds attained =
    let p : IsShownBound s st.tree b = attained b refl in
    let none : Empty ≡ AtLeast b = sym (is p.node (settled_leaf st p.node complete p.leaf)) ∙ shows_is s gap st p.node sound complete p.leaf ∙ p.shown in
    cc
same_least s gap st (Some a) None sound complete is bounds attained =
    let i : ℕ = is.0.0 in
    let leaf : IsSettledLeaf st i = is.0.1 in
    absurd (bounds i a leaf.leaf (sym (shows_is s gap st i sound complete leaf.leaf) ∙ is.0.2))
same_least s gap st (Some a) (Some b) sound complete is bounds attained =
    let i : ℕ = is.0.0 in
    let leaf : IsSettledLeaf st i = is.0.1 in
    let below : b ≤ℤ a = bounds i a leaf.leaf (sym (shows_is s gap st i sound complete leaf.leaf) ∙ is.0.2) in
    let p : IsShownBound s st.tree b = attained b refl in
    let above : a ≤ℤ b = is.1 p.node b (settled_leaf st p.node complete p.leaf) (shows_is s gap st p.node sound complete p.leaf ∙ p.shown) in
    let same : a ≡ b = omega (arith, ints) in
    ap Some same

-- ---- the root line
root_known : (v : Verdict) (l : Leaf) → (l ≡ Empty → v ≡ verdict.NoPlan) → root_bound_of v l ≡ Ok (bound_of_leaf l)
root_known v (AtLeast b) h = refl
root_known v Empty h =
    let P : Verdict → Type 0 = λ w. root_bound_of w Empty ≡ Ok (pos 0) in
    subst P (sym (h refl)) refl

none_meets : (s : System) (gap : ℤ) (st : State) → IsSound s gap st → leaf_at s s.root st.root ≡ Empty → (x : List ℤ) → Meets s x → ⊥
none_meets s gap st sound e x meets =
    let P : Leaf → Type 0 = λ l. IsTrueOf s s.root l in
    let is : IsTrueOf s s.root Empty = subst P e (leaf_at-true s s.root st.root sound.limited sound.root_proper.q_from_zero sound.root_admissible) in
    is x meets meets.in_range

none_known : (s : System) (best : Option Best) → IfSome best (IsBest s) → ((x : List ℤ) → Meets s x → ⊥) → best_value best ≡ None
none_known s None is h = refl
none_known s (Some b) is h = absurd (h b.point is.meets)

no_plan : (s : System) (gap : ℤ) (st : State) (bound : ℤ) → IsSound s gap st → leaf_at s s.root st.root ≡ Empty → verdict_by (is_empty st.open_leaves) (best_value st.best) bound ≡ verdict.NoPlan
no_plan s gap st bound sound e =
    ap (λ xs. verdict_by (is_empty xs) (best_value st.best) bound) (sound.root_empty e)
    ∙ ap (λ b. verdict_by true b bound) (none_known s st.best sound.best_is (none_meets s gap st sound e))

looked_root : (s : System) (gap : ℤ) (st : State) (bound : ℤ) → IsSound s gap st → look_root s (verdict_by (is_empty st.open_leaves) (best_value st.best) bound) st.root ≡ Ok st.root_bound
looked_root s gap st bound sound =
    let v : Verdict = verdict_by (is_empty st.open_leaves) (best_value st.best) bound in
    let fault : Result ℤ CheckFault = Err RootLine in
    ap (λ (r : Option EntryFault). cond (is_none r) (root_bound_of v (leaf_at s s.root st.root)) fault) (no_fault s st.root.entries sound.root_admissible)
    ∙ root_known v (leaf_at s s.root st.root) (no_plan s gap st bound sound)
    ∙ ap Ok (sym sound.root_bound_is)

-- ---- the point
looked_point : (s : System) (v : Verdict) (best : Option Best) → IsLimited s → IfSome best (IsBest s) → named_value v ≡ best_value best → look_point s v (option_map entries_of (best_known best)) ≡ Ok (best_value best)
looked_point s v None limited is named = refl
looked_point s v (Some b) limited is named =
    ap (λ (r : Result ℤ CheckFault). r >>= λ o. Ok (Some o)) (look_entries-found s v b.point b.value limited is.meets is.value_is named)

-- ---- the verdict
past_limit : (nodes limit : ℕ) → limit < nodes + 2 → nat_le (nodes + 2) limit ≡ false
past_limit nodes limit h = grind (arith, nat_tests)

judged : (v : Verdict) (k : Known) (least : Option ℤ) (bound : ℤ) → bound ≡ bound_shown k.root_bound k.best least → judge_bound v k least bound ≡ Ok v
judged v k least bound is =
    let shown_bound : ℤ = bound_shown k.root_bound k.best least in
    let fault : Result Verdict CheckFault = Err (WrongBound shown_bound) in
    ap (λ z. cond (int_eq z shown_bound) (Ok v) fault) is ∙ ap (λ b. cond b (Ok v) fault) (int_eq-self shown_bound)

concluded : (e : Bool) (best : Option ℤ) (bound : ℤ) (limit : ℕ) (k : Known) (seen : Seen) → bound ≡ bound_shown k.root_bound k.best seen.least → (e ≡ false → limit < seen.nodes + 2) → (e ≡ false → seen.any_open ≡ true) → conclude limit (verdict_by e best bound) k seen ≡ Ok (verdict_by e best bound)
concluded true (Some b) bound limit k seen is past any = judged (verdict.Plan b bound) k seen.least bound is
concluded true None bound limit k seen is past any = refl
concluded false best bound limit k seen is past any =
    let v : Verdict = verdict.Unfinished bound best in
    let under : Result Verdict CheckFault = Err (UnderLimit seen.nodes) in
    let closed : Result Verdict CheckFault = Err NothingOpen in
    ap (λ b. cond b under (cond seen.any_open (judge_bound v k seen.least bound) closed)) (past_limit seen.nodes limit (past refl))
    ∙ ap (λ b. cond b (judge_bound v k seen.least bound) closed) (any refl)
    ∙ judged v k seen.least bound is

-- ---- all together
pub over_limit : (xs : List (ℤ × ℕ)) (limit nodes : ℕ) → (xs ≡ []) ⊎ (limit < nodes + 2) → is_empty xs ≡ false → limit < nodes + 2
over_limit xs limit nodes (inl e) h = let clash : true ≡ false = ap is_empty (sym e) ∙ h in cc
over_limit xs limit nodes (inr e) h = e

shown_by : (s : System) (gap : ℤ) (limit : ℕ) (st : State) (least : Option ℤ) → IsEnded s gap limit st → IsLeastShown st least → shown s gap limit (certificate_of (verdict_by (is_empty st.open_leaves) (best_value st.best) (bound_shown st.root_bound (best_value st.best) least)) st.root (best_known st.best) (tree_of st.tree)) ≡ Ok (verdict_by (is_empty st.open_leaves) (best_value st.best) (bound_shown st.root_bound (best_value st.best) least))
shown_by s gap limit st least ended is_least =
    let sound : IsSound s gap st = ended.sound in
    let best : Option ℤ = best_value st.best in
    let e : Bool = is_empty st.open_leaves in
    let bound : ℤ = bound_shown st.root_bound best least in
    let v : Verdict = verdict_by e best bound in
    let k : Known = known_with (must_close v) gap st in
    let all : (seen : Seen) × (look s k nothing_seen st.tree.root (tree_of st.tree) ≡ Ok seen) × SeesAll s k st.tree seen =
    look_tree s k st.tree sound.tree (faultless s gap st (must_close v) sound ended.complete (λ h. none_of st.open_leaves (sym (must_by e best bound) ∙ h)))
    in
    let seen : Seen = all.0 in
    let sees : SeesAll s k st.tree seen = all.2 in
    let same : least ≡ seen.least = same_least s gap st least seen.least sound ended.complete is_least sees.bounds sees.attained in
    let any : e ≡ false → seen.any_open ≡ true = λ h.
    let p : (b : ℤ) × (i : ℕ) × Contains st.open_leaves (b, i) = some_of st.open_leaves h in
    let open_leaf : IsOpenLeaf gap st p.0 p.1 = (sound.open_are p.0 p.1).0 p.2 in
    sees.opens p.1 open_leaf.leaf.leaf (not_closed s gap st (must_close v) p.0 p.1 sound ended.complete open_leaf)
    in
    ap (λ (r : Result ℤ CheckFault). r >>= λ root_bound. look_point s v (option_map entries_of (best_known st.best)) >>= λ b. look s (known_of v gap root_bound b) nothing_seen s.root (tree_of st.tree) >>= λ z. conclude limit v (known_of v gap root_bound b) z) (looked_root s gap st bound sound)
    ∙ ap (λ (r : Result (Option ℤ) CheckFault). r >>= λ b. look s (known_of v gap st.root_bound b) nothing_seen s.root (tree_of st.tree) >>= λ z. conclude limit v (known_of v gap st.root_bound b) z) (looked_point s v st.best sound.limited sound.best_is (named_by e best bound))
    ∙ ap (λ (r : Result Seen CheckFault). r >>= λ z. conclude limit v k z) (ap (λ (b : Range). look s k nothing_seen b (tree_of st.tree)) (sym sound.same_root) ∙ all.1)
    ∙ concluded e best bound limit k seen
    (ap (bound_shown st.root_bound best) same)
    (λ h. omega (arith, sees.nodes, over_limit st.open_leaves limit (length st.tree.nodes) ended.over h))
    any

-- what the certificate of a search that ended shows is its verdict
pub shown_ended : (s : System) (gap : ℤ) (limit : ℕ) (st : State) (v : Verdict) → IsEnded s gap limit st → Concludes st v → shown s gap limit (certificate_of v st.root (best_known st.best) (tree_of st.tree)) ≡ Ok v
shown_ended s gap limit st v ended concludes =
    let P : Verdict → Type 0 = λ w. shown s gap limit (certificate_of w st.root (best_known st.best) (tree_of st.tree)) ≡ Ok w in
    subst P (sym concludes.verdict_is) (shown_by s gap limit st concludes.least ended concludes.is_least)
