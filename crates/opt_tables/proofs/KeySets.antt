-- Keys that are names, kept alone, and those behind them.
use Rattle.std.proofs.Common.{◌≡◌, ◌<◌, ◌≤◌, ◌+◌, ℕ, Bool, true, false, ◌||◌, List, [], ◌∷◌, ◌++◌, map, length, position, bytes_eq, Option, Some, None, option_map, refl, ap, sym, ◌∙◌, arith}
use Rattle.std.specs.Borrow.{Bor}
use Rattle.std.specs.List.{list_any}
use Rattle.std.proofs.lemmas.List.{length-map, append_assoc, append-nil}
use Rattle.std.proofs.lemmas.List.Folds.{list_any-append}
use Rattle.opt_tables.specs.declared.key.Key.{Key}
use Rattle.opt_tables.specs.declared.key.Key.TheVariants as key
use Rattle.opt_tables.specs.Keys.{Known, Name as KnownName, known_by, known_names, are_same}
use Rattle.opt_tables.proofs.Equality.{are_equal, has-known, has-name, position-known, position-name}
use Rattle.opt_tables.proofs.Lists.{map-insert_key}
use Rattle.indexmap.specs.IndexSet.{insert_key}
use Rattle.opt_tables.proofs.Positions.{position-first, position-second}

-- a name that is kept alone stands where its set has it
pub found-alone : (a : List ℕ) (names : List (Bor (List ℕ))) (others : List Known) (i : ℕ) → position (λ name. bytes_eq a name.now) names ≡ Some i
    → position (are_same (KnownName a)) (known_names names ++ others) ≡ Some i
found-alone a names others i found =
    position-first (are_same (KnownName a)) (known_names names) others i (sym (position-name a names) ∙ found)

-- one that is not stands behind all of these
pub found-behind : (name : Bor (List ℕ)) (names : List (Bor (List ℕ))) (others : List Key) (r : Option ℕ) → position (λ k. bytes_eq name.now k.now) names ≡ None
    → r ≡ position (are_equal (key.Name name)) others
    → option_map (λ n. length names + n) r ≡ position (are_same (KnownName name.now)) (known_names names ++ map known_by others)
found-behind name names others r lacks is =
    ap (option_map (λ n. length names + n)) (is ∙ position-known (key.Name name) others)
    ∙ ap (λ size. option_map (λ n. size + n) (position (are_same (KnownName name.now)) (map known_by others))) (sym (length-map names (λ (k : Bor (List ℕ)). KnownName k.now)))
    ∙ sym (position-second (are_same (KnownName name.now)) (known_names names) (map known_by others) (sym (position-name name.now names) ∙ lacks))

-- a key that is more than a name is none of these names
pub no-name : (a : Key) → ((x : Bor (List ℕ)) → a ≡ key.Name x → ⊥) → (names : List (Bor (List ℕ))) → list_any (are_same (known_by a)) (known_names names) ≡ false
no-name (key.Name x) refuted names = absurd (refuted x refl)
no-name (key.Names x y) refuted [] = refl
no-name (key.Names x y) refuted (name ∷ names) = no-name (key.Names x y) refuted names
no-name (key.NameInMonth x m) refuted [] = refl
no-name (key.NameInMonth x m) refuted (name ∷ names) = no-name (key.NameInMonth x m) refuted names
no-name (key.NamesInMonth x y m) refuted [] = refl
no-name (key.NamesInMonth x y m) refuted (name ∷ names) = no-name (key.NamesInMonth x y m) refuted names

-- a key is among all where it is among the names or behind them
pub has-either : (a : Key) (names : List (Bor (List ℕ))) (others : List Key) (alone behind : Bool)
    → alone ≡ list_any (are_same (known_by a)) (known_names names) → behind ≡ list_any (are_equal a) others
    → (alone || behind) ≡ list_any (are_same (known_by a)) (known_names names ++ map known_by others)
has-either a names others alone behind e f =
    ap (λ b. b || behind) e
    ∙ ap (λ b. list_any (are_same (known_by a)) (known_names names) || b) (f ∙ has-known a others)
    ∙ sym (list_any-append (are_same (known_by a)) (known_names names) (map known_by others))

right_false : (a b : Bool) → (a || b) ≡ false → b ≡ false
right_false true b h = absurd (cc h)
right_false false b h = h

left_false : (a b : Bool) → (a || b) ≡ false → a ≡ false
left_false true b h = absurd (cc h)
left_false false b h = refl

-- a key that is not there goes behind all
pub add-behind : (a : Key) (names : List (Bor (List ℕ))) (others : List Key) → list_any (are_same (known_by a)) (known_names names ++ map known_by others) ≡ false
    → known_names names ++ map known_by (insert_key are_equal others a) ≡ (known_names names ++ map known_by others) ++ known_by a ∷ []
add-behind a names others absent =
    let either : (list_any (are_same (known_by a)) (known_names names) || list_any (are_same (known_by a)) (map known_by others)) ≡ false =
    sym (list_any-append (are_same (known_by a)) (known_names names) (map known_by others)) ∙ absent
    in
    let behind : list_any (are_equal a) others ≡ false =
    has-known a others ∙ right_false (list_any (are_same (known_by a)) (known_names names)) (list_any (are_same (known_by a)) (map known_by others)) either
    in
    ap (λ known. known_names names ++ known) (map-insert_key are_equal known_by others a behind)
    ∙ sym (append_assoc (known_names names) (map known_by others) (known_by a ∷ []))

-- nothing is in a list without length
none-left : {X : Type 0} (xs : List X) → length xs ≡ 0 → xs ≡ []
none-left [] h = refl
none-left (x ∷ xs) h = absurd (omega (arith, h))

-- a name that is not there goes behind the names, where nothing is behind them
pub add-alone : (name : Bor (List ℕ)) (names : List (Bor (List ℕ))) (others : List Key) → length others ≡ 0 → list_any (are_same (KnownName name.now)) (known_names names ++ map known_by others) ≡ false
    → known_names (insert_key (λ x y. bytes_eq x.now y.now) names name) ++ map known_by others ≡ (known_names names ++ map known_by others) ++ KnownName name.now ∷ []
add-alone name names others none absent =
    let either : (list_any (are_same (KnownName name.now)) (known_names names) || list_any (are_same (KnownName name.now)) (map known_by others)) ≡ false =
    sym (list_any-append (are_same (KnownName name.now)) (known_names names) (map known_by others)) ∙ absent
    in
    let alone : list_any (λ k. bytes_eq name.now k.now) names ≡ false =
    has-name name.now names ∙ left_false (list_any (are_same (KnownName name.now)) (known_names names)) (list_any (are_same (KnownName name.now)) (map known_by others)) either
    in
    rw (none-left others none)
    (append-nil (known_names (insert_key (λ x y. bytes_eq x.now y.now) names name))
    ∙ map-insert_key (λ x y. bytes_eq x.now y.now) (λ (k : Bor (List ℕ)). KnownName k.now) names name alone
    ∙ ap (λ known. known ++ KnownName name.now ∷ []) (sym (append-nil (known_names names))))
