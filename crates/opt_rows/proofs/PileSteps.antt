-- Piles that are filled record by record.
use Rattle.std.proofs.Common.{◌≡◌, ◌⊎◌, inl, inr, ℕ, ◌+◌, ◌<◌, ◌≤◌, ◌&&◌, ◌==◌, Bool, true, false, List, [], ◌∷◌, ◌++◌, length, take, get_or, replicate, Option, Some, None, refl, sym, ap, ◌∙◌, subst, arith, append-nil}
use Rattle.std.specs.List.{slice_set}
use Rattle.std.proofs.lemmas.Bool.{cases_eq, eq-eqb, ne_eqb}
use Rattle.std.proofs.lemmas.List.{get_or-set_same, get_or-set_other, get_or-replicate, length-replicate, length-set, take_all}
use Rattle.opt_model.specs.Quantities.{over, list_if}
use Rattle.opt_model.specs.Rows.{is_in_group}
use Rattle.opt_network.proofs.RecordLists.{over-more}
use Rattle.opt_rows.specs.Piles.{pile_at, pile_with, pile_in, ArePiles}

module _ {A X : Type 0} (test : ℕ → A → Bool) (pick : ℕ → A → X) where
  -- what the records that pass the test of a pile are picked as
  abbrev piled : List A → ℕ → List X
  piled rs k = over rs λ n r. list_if (test k r) (pick n r ∷ [])

  -- at first there is nothing
  pub piles_none : (count : ℕ) (rs : List A) → rs ≡ [] → ArePiles count (piled rs) (replicate count [])
  piles_none count rs e =
      subst (λ (ss : List A). ArePiles count (piled ss) (replicate count [])) (sym e)
      (record { each = length-replicate count []; filled = λ k below. get_or-replicate count k [] [] below })

  -- after all records
  pub piles_all : (count : ℕ) (rs : List A) (i : ℕ) (piles : List (List X)) → length rs ≤ i → ArePiles count (piled (take i rs)) piles → ArePiles count (piled rs) piles
  piles_all count rs i piles le so_far = subst (λ (ss : List A). ArePiles count (piled ss) piles) (take_all i rs le) so_far

  one_more : (rs : List A) (i : ℕ) (r : A) (k : ℕ) → i < length rs → r ≡ get_or rs i r → piled (take (i + 1) rs) k ≡ piled (take i rs) k ++ list_if (test k r) (pick i r ∷ [])
  one_more rs i r k lt read =
      over-more (λ n s. list_if (test k s) (pick n s ∷ [])) rs i r lt
      ∙ ap (λ (s : A). piled (take i rs) k ++ list_if (test k s) (pick i s ∷ [])) (sym read)

  -- one more record, whose pile is that of a number
  pub pile_more : (count number : ℕ) (wanted : Bool) (rs : List A) (i : ℕ) (r : A) (old new : List (List X)) → i < length rs → r ≡ get_or rs i r
      → test number r ≡ wanted → ((k : ℕ) → (k ≡ number → ⊥) → test k r ≡ false) → new ≡ pile_with old number (list_if wanted (pick i r ∷ []))
      → ArePiles count (piled (take i rs)) old → ArePiles count (piled (take (i + 1) rs)) new
  pile_more count number wanted rs i r old new lt read here others added so_far =
      subst (ArePiles count (piled (take (i + 1) rs))) (sym added) (record {
        each = length-set old number items ∙ so_far.each;
        filled = λ k below. filled_at k below (cases_eq k number);
      })
    where
      items : List X
      items = pile_at old number ++ list_if wanted (pick i r ∷ [])

      behind : (k : ℕ) (b : Bool) → test k r ≡ b → piled (take i rs) k ++ list_if b (pick i r ∷ []) ≡ piled (take (i + 1) rs) k
      behind k b is = ap (λ (c : Bool). piled (take i rs) k ++ list_if c (pick i r ∷ [])) (sym is) ∙ sym (one_more rs i r k lt read)

      filled_at : (k : ℕ) → k < count → (k ≡ number) ⊎ (k ≡ number → ⊥) → pile_at (slice_set old number items) k ≡ piled (take (i + 1) rs) k
      filled_at k below (inl same) =
          ap (pile_at (slice_set old number items)) same
          ∙ (get_or-set_same old number items [] (omega (arith, so_far.each, below, same))
          ∙ (ap (λ (xs : List X). xs ++ list_if wanted (pick i r ∷ [])) (ap (pile_at old) (sym same) ∙ so_far.filled k below)
          ∙ behind k wanted (ap (λ (n : ℕ). test n r) same ∙ here)))
      filled_at k below (inr apart) =
          get_or-set_other old number k items [] apart
          ∙ (so_far.filled k below ∙ (sym (append-nil (piled (take i rs) k)) ∙ behind k false (others k apart)))

  -- one more record that is in no pile
  pub piles_same : (count : ℕ) (rs : List A) (i : ℕ) (r : A) (old new : List (List X)) → i < length rs → r ≡ get_or rs i r → ((k : ℕ) → test k r ≡ false)
      → new ≡ old → ArePiles count (piled (take i rs)) old → ArePiles count (piled (take (i + 1) rs)) new
  piles_same count rs i r old new lt read none same so_far =
      subst (ArePiles count (piled (take (i + 1) rs))) (sym same) (record {
        each = so_far.each;
        filled =
            λ k below.
            so_far.filled k below
            ∙ (sym (append-nil (piled (take i rs) k))
            ∙ (ap (λ (b : Bool). piled (take i rs) k ++ list_if b (pick i r ∷ [])) (sym (none k)) ∙ sym (one_more rs i r k lt read)));
      })

-- one more record in the pile of its key
pub pile_keyed : {A X : Type 0} (key : A → ℕ) (pick : ℕ → A → X) (count : ℕ) (rs : List A) (i : ℕ) (r : A) (old new : List (List X)) → i < length rs → r ≡ get_or rs i r
    → new ≡ pile_with old (key r) (pick i r ∷ []) → ArePiles count (λ k. over (take i rs) λ n s. list_if (key s == k) (pick n s ∷ [])) old
    → ArePiles count (λ k. over (take (i + 1) rs) λ n s. list_if (key s == k) (pick n s ∷ [])) new
pile_keyed key pick count rs i r old new lt read added so_far =
    pile_more (λ k s. key s == k) pick count (key r) true rs i r old new lt read (eq-eqb (key r) (key r) refl) (λ k apart. ne_eqb (key r) k (λ e. apart (sym e))) added so_far

-- the same where the record is wanted
pub pile_wanted : {A X : Type 0} (key : A → ℕ) (wanted : A → Bool) (pick : ℕ → A → X) (count : ℕ) (rs : List A) (i : ℕ) (r : A) (old new : List (List X)) → i < length rs
    → r ≡ get_or rs i r → new ≡ pile_with old (key r) (list_if (wanted r) (pick i r ∷ []))
    → ArePiles count (λ k. over (take i rs) λ n s. list_if ((key s == k) && wanted s) (pick n s ∷ [])) old
    → ArePiles count (λ k. over (take (i + 1) rs) λ n s. list_if ((key s == k) && wanted s) (pick n s ∷ [])) new
pile_wanted key wanted pick count rs i r old new lt read added so_far =
    pile_more (λ k s. (key s == k) && wanted s) pick count (key r) (wanted r) rs i r old new lt read
    (ap (λ (b : Bool). b && wanted r) (eq-eqb (key r) (key r) refl)) (λ k apart. ap (λ (b : Bool). b && wanted r) (ne_eqb (key r) k (λ e. apart (sym e)))) added so_far

-- another item that is the same
pub pile_put : {X : Type 0} (old new : List (List X)) (number : ℕ) (x y : X) → new ≡ pile_with old number (x ∷ []) → x ≡ y → new ≡ pile_with old number (y ∷ [])
pile_put old new number x y added same = added ∙ ap (λ z. pile_with old number (z ∷ [])) same

-- one more record in the pile of its group, where it has one
pub pile_grouped : {A X : Type 0} (key : A → Option ℕ) (pick : ℕ → A → X) (count : ℕ) (rs : List A) (i : ℕ) (r : A) (old new : List (List X)) → i < length rs → r ≡ get_or rs i r
    → new ≡ pile_in old (key r) (pick i r ∷ []) → ArePiles count (λ k. over (take i rs) λ n s. list_if (is_in_group (key s) k) (pick n s ∷ [])) old
    → ArePiles count (λ k. over (take (i + 1) rs) λ n s. list_if (is_in_group (key s) k) (pick n s ∷ [])) new
pile_grouped {X = X} key pick count rs i r old new lt read added so_far = by (key r) refl
  where
    by : (o : Option ℕ) → key r ≡ o → ArePiles count (λ k. over (take (i + 1) rs) λ n s. list_if (is_in_group (key s) k) (pick n s ∷ [])) new
    by (Some number) is =
        pile_more (λ k s. is_in_group (key s) k) pick count number true rs i r old new lt read
        (ap (λ (o : Option ℕ). is_in_group o number) is ∙ eq-eqb number number refl)
        (λ k apart. ap (λ (o : Option ℕ). is_in_group o k) is ∙ ne_eqb number k (λ e. apart (sym e)))
        (added ∙ ap (λ (o : Option ℕ). pile_in old o (pick i r ∷ [])) is) so_far
    by None is =
        piles_same (λ k s. is_in_group (key s) k) pick count rs i r old new lt read (λ k. ap (λ (o : Option ℕ). is_in_group o k) is)
        (added ∙ ap (λ (o : Option ℕ). pile_in old o (pick i r ∷ [])) is) so_far
