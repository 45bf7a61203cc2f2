-- The texts of borrowed names, and the places that a table gives of them.
use Rattle.std.proofs.Common.{◌≡◌, ◌∙◌, List, [], ◌∷◌, ◌++◌, Option, Bor, ap, map, length}
use Rattle.std.specs.Prelude.{ℕ, bytes_eq}
use Rattle.std.specs.List.{position_from}
use Rattle.std.specs.Map.{lookup}
use Rattle.std.specs.HashMap.{HashMap, IsUnchanged, get_by}
use Rattle.std.proofs.lemmas.List.{length-map, map-append}
use Rattle.rx_base.specs.Values.{Name}

-- the texts of borrowed names
abbrev pub texts : List (Bor Name) → List Name
texts ts = map (λ t. t.now) ts

-- the place that a table gives of a name
abbrev pub place_in : {S : Type 0} → HashMap (Bor Name) ℕ S → Name → Option ℕ
place_in m x = get_by (λ t. bytes_eq x t.now) m

pub length-texts : (ts : List (Bor Name)) → length (texts ts) ≡ length ts
length-texts ts = length-map ts (λ t. t.now)

-- the texts with one more
pub texts-push : (ts us : List (Bor Name)) (t : Bor Name) → us ≡ ts ++ t ∷ [] → texts us ≡ texts ts ++ t.now ∷ []
texts-push ts us t h = ap texts h ∙ map-append (λ t. t.now) ts (t ∷ [])

-- a table that is unchanged gives the places that it gave
pub places-kept : {S : Type 0} (m n : HashMap (Bor Name) ℕ S) (xs : List Name) → IsUnchanged m n → ((x : Name) → place_in m x ≡ position_from (bytes_eq x) 0 xs)
    → (x : Name) → place_in n x ≡ position_from (bytes_eq x) 0 xs
places-kept m n xs same h x = ap (λ es. lookup (λ t. bytes_eq x t.now) es) same ∙ h x
