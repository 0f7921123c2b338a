-- What tests find in a list that is seen by a function.
use Rattle.std.proofs.Common.{◌≡◌, ◌+◌, Bool, false, cond, not, ◌||◌, List, [], ◌∷◌, ◌++◌, map, position, refl, ap₂}
use Rattle.std.proofs.lemmas.List.{length-map, map-append}
use Rattle.std.specs.List.{list_any, position_or_len}
use Rattle.indexmap.specs.IndexSet.{insert_key}

-- a test of what is seen finds what the same test of the values finds
pub list_any-seen : {X Y : Type 0} (test : X → Bool) (same : Y → Bool) (view : X → Y) → ((x : X) → test x ≡ same (view x)) → (xs : List X) → list_any test xs ≡ list_any same (map view xs)
list_any-seen test same view is [] = refl
list_any-seen test same view is (x ∷ xs) = ap₂ (λ a b. a || b) (is x) (list_any-seen test same view is xs)

position_or_len-seen : {X Y : Type 0} (test : X → Bool) (same : Y → Bool) (view : X → Y) → ((x : X) → test x ≡ same (view x)) → (xs : List X) → position_or_len test xs ≡ position_or_len same (map view xs)
position_or_len-seen test same view is [] = refl
position_or_len-seen test same view is (x ∷ xs) = ap₂ (λ b n. cond (not b) (1 + n) 0) (is x) (position_or_len-seen test same view is xs)

-- and where it finds it
pub position-seen : {X Y : Type 0} (test : X → Bool) (same : Y → Bool) (view : X → Y) → ((x : X) → test x ≡ same (view x)) → (xs : List X) → position test xs ≡ position same (map view xs)
position-seen test same view is xs = rw (position_or_len-seen test same view is xs, length-map xs view) refl

-- a key that is not there goes last
pub map-insert_key : {X Y : Type 0} (eq : X → X → Bool) (view : X → Y) (keys : List X) (key : X) → list_any (eq key) keys ≡ false → map view (insert_key eq keys key) ≡ map view keys ++ view key ∷ []
map-insert_key eq view keys key absent = rw absent (map-append view keys (key ∷ []))
