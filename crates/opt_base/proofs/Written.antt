-- A path written into a map from texts, and written files without that path.
use Rattle.std.proofs.Common.{◌≡◌, ℕ, Bool, true, false, List, Option, Some, None, option_map, cond, String, string_bytes, string_cmp, refl, ap, ◌∙◌}
use Rattle.std.specs.Str.{bytes_eq}
use Rattle.std.specs.BTreeMap.{BTreeMap, get_by_text, Updates}
use Rattle.std.proofs.lemmas.Map.Text.{btree_map_updates_text}
use Rattle.opt_base.specs.Outside.{Files, written, without}
use mathlib.Core.Path.{fun_ext}

-- a view of the chosen value is the choice of the views
option_map-cond : {X : Type 0} (view : X → List ℕ) (b : Bool) (x : X) (other : Option X)
    → option_map view (cond b (Some x) other) ≡ cond b (Some (view x)) (option_map view other)
option_map-cond view true x other = refl
option_map-cond view false x other = refl

-- a map in which the text's value was set shows the files with the text's path written
pub files_written : {X Y : Type 0} (view : X → List ℕ) (path bytes : List ℕ) (m n : BTreeMap (String Y) X) (text : String Y) (x : X)
    → string_bytes text ≡ path → view x ≡ bytes → Updates string_cmp m n text (Some x)
    → Some (λ q. option_map view (get_by_text n q)) ≡ Some (written path bytes (λ q. option_map view (get_by_text m q)))
files_written view path bytes m n text x same seen updates =
    rw (← same, ← seen) (ap Some (fun_ext (λ q. ap (option_map view) (btree_map_updates_text (string_bytes text) m n (Some x) updates q)
    ∙ option_map-cond view (bytes_eq (string_bytes text) q) x (get_by_text m q))))

-- one of two choices by the same test is lost
cond-cond : {X : Type 0} (b : Bool) (x y z : X) → cond b x (cond b y z) ≡ cond b x z
cond-cond true x y z = refl
cond-cond false x y z = refl

-- what is written at the path does not show without it
pub without-written : (path bytes : List ℕ) (files : Files) → without path (written path bytes files) ≡ without path files
without-written path bytes files = fun_ext (λ q. cond-cond (bytes_eq path q) None (Some bytes) (files q))
