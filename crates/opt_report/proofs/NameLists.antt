-- Different names, put into a set one by one, and where one of them is found.
use Rattle.std.proofs.Common.{◌≡◌, ℕ, ◌+◌, ◌≤◌, ◌<◌, true, false, List, ◌++◌, [], ◌∷◌, map, take, get_or, length, count_by, position, bytes_eq, refl, sym, ap, ◌∙◌}
use Rattle.std.specs.Borrow.{Bor}
use Rattle.std.specs.List.{list_any}
use Rattle.std.proofs.lemmas.Bool.Decides.{Decides-like, same_from_decides}
use Rattle.std.proofs.lemmas.Slice.Eq.{bytes_eq-Decides}
use Rattle.std.proofs.lemmas.List.{take_more, map-append}
use Rattle.indexmap.specs.IndexSet.{insert_key}
use Rattle.opt_network.proofs.Lookups.{none-before}
use Rattle.opt_tables.proofs.Lists.{list_any-seen, position-seen, map-insert_key}

-- a name is the same as another where that is the same as it
pub same_way : (a b : List ℕ) → bytes_eq a b ≡ bytes_eq b a
same_way a b = same_from_decides (bytes_eq a b) (bytes_eq b a) (bytes_eq-Decides a b) (Decides-like (bytes_eq b a) sym sym (bytes_eq-Decides b a))

pub itself : (a : List ℕ) → bytes_eq a a ≡ true
itself a = (bytes_eq-Decides a a).1 refl

-- where a name is found
pub found : (name : List ℕ) (keys : List (Bor (List ℕ))) → position (λ k. bytes_eq name k.now) keys ≡ position (bytes_eq name) (map (λ k. k.now) keys)
found name keys = position-seen (λ k. bytes_eq name k.now) (bytes_eq name) (λ k. k.now) (λ k. refl) keys

module _ {R : Type 0} (name_of : R → List ℕ) where
  -- no earlier record has the name of a record
  absent : (rs : List R) (i : ℕ) (d : R) → i < length rs → ((name : List ℕ) → count_by (λ r. bytes_eq (name_of r) name) rs ≤ 1)
      → list_any (bytes_eq (name_of (get_or rs i d))) (map name_of (take i rs)) ≡ false
  absent rs i d within once =
      let name : List ℕ = name_of (get_or rs i d) in
      sym (list_any-seen (λ r. bytes_eq (name_of r) name) (bytes_eq name) name_of (λ r. same_way (name_of r) name) (take i rs))
      ∙ none-before (λ r. bytes_eq (name_of r) name) rs i d within (itself name) (once name)

  -- the names of the records so far, and one more
  pub names_more : (keys : List (Bor (List ℕ))) (rs : List R) (i : ℕ) (d : R) (name : Bor (List ℕ)) → i < length rs
      → ((n : List ℕ) → count_by (λ r. bytes_eq (name_of r) n) rs ≤ 1)
      → map (λ k. k.now) keys ≡ map name_of (take i rs) → name.now ≡ name_of (get_or rs i d)
      → map (λ k. k.now) (insert_key (λ x y. bytes_eq x.now y.now) keys name) ≡ map name_of (take (i + 1) rs)
  names_more keys rs i d name within once so_far is =
      let none : list_any (λ k. bytes_eq name.now k.now) keys ≡ false =
      list_any-seen (λ k. bytes_eq name.now k.now) (bytes_eq name.now) (λ k. k.now) (λ k. refl) keys
      ∙ (ap (λ names. list_any (bytes_eq name.now) names) so_far
      ∙ (ap (λ n. list_any (bytes_eq n) (map name_of (take i rs))) is ∙ absent rs i d within once))
      in
      map-insert_key (λ x y. bytes_eq x.now y.now) (λ k. k.now) keys name none
      ∙ (ap (λ names. names ++ name.now ∷ []) so_far
      ∙ (ap (λ n. map name_of (take i rs) ++ n ∷ []) is
      ∙ (sym (map-append name_of (take i rs) (get_or rs i d ∷ [])) ∙ ap (map name_of) (sym (take_more rs i d within)))))
