-- Exactly the dirty places are evaluated.
use Rattle.std.specs.Prelude.{◌≡◌, ℕ, Bool, true, false, not, ◌&&◌, ◌||◌, cond, List, ℤ, [], ◌∷◌, Option, Some, None, IfSome, filter, map, nat_eq, refl}
use Rattle.std.specs.Ordering.{int_eq}
use Rattle.std.specs.Cmp.Lexicographic.{pointwise}
use Rattle.std.proofs.Common.{ap, sym}
use Rattle.rx_elem.specs.Elements.{Element, Elements, same_element, same_elements, same_key}
use Rattle.rx_elem.specs.Elements as elements
use Rattle.rx_elem.specs.Trees.{Node, element_of}
use Rattle.rx_elem.proofs.Deciding.{and_passes}
use Rattle.rx_meaning.specs.Fresh.{Sight, Contexts, root_element, shape_of}
use Rattle.rx_meaning.specs.Touched.{has_same_inputs, same_inputs}
use Rattle.cost_laws.specs.Causes.{has_cause, is_dirty}
use Rattle.cost_laws.specs.Evaluated.{is_evaluated}
use Rattle.cost_laws.specs.Places.{Coming, dirty_places, evaluated_places, whole_comings}
use Rattle.cost_laws.specs.Untouched.{is_element_of}
use Rattle.cost_laws.proofs.Each.{Each}
use Rattle.cost_laws.proofs.EachComing.{AtEach, stands_or_not, whole_each}
use Rattle.cost_laws.proofs.Paired.{IsPaired, children_paired, own_paired}

-- Places

-- an element that is equal to another has the same props and children
equal_inputs : (c : ℕ) (k : _) (ps : List ℤ) (es : Elements) (x : Element) → same_element (elements.comp c k ps es) x ≡ true → same_inputs (elements.comp c k ps es) x ≡ true
equal_inputs c k ps es (elements.comp d l qs fs) h =
    let inner = and_passes (nat_eq c d) (same_key k l && (pointwise int_eq ps qs && same_elements es fs)) h in
    (and_passes (same_key k l) (pointwise int_eq ps qs && same_elements es fs) inner.1).1
equal_inputs c k ps es elements.null h = absurd (cc h)
equal_inputs c k ps es (elements.text t) h = absurd (cc h)
equal_inputs c k ps es (elements.host n l attrs fs) h = absurd (cc h)
equal_inputs c k ps es (elements.list marked fs) h = absurd (cc h)
equal_inputs c k ps es (elements.boundary l f fs) h = absurd (cc h)
equal_inputs c k ps es (elements.catcher l f fs) h = absurd (cc h)
equal_inputs c k ps es (elements.provider d l x fs) h = absurd (cc h)

-- so the old node of a component's place has equal inputs exactly if its element is equal
same_tests : (a b : Bool) → (a ≡ true → b ≡ true) → (b ≡ true → a ≡ true) → a ≡ b
same_tests true b h k = sym (h refl)
same_tests false true h k = k refl
same_tests false false h k = refl

equal_or_not : (c : ℕ) (k : _) (ps : List ℤ) (es : Elements) (old : Option Node) → IsPaired (elements.comp c k ps es) old
    → is_element_of (elements.comp c k ps es) old ≡ has_same_inputs (elements.comp c k ps es) old
equal_or_not c k ps es None paired = refl
equal_or_not c k ps es (Some n) paired =
    same_tests (same_element (elements.comp c k ps es) (element_of n)) (same_inputs (elements.comp c k ps es) (element_of n)) (equal_inputs c k ps es (element_of n)) paired

-- a component's place is evaluated if it is dirty, and only then
place_exact : (s : Sight) (cs : Contexts) (e : Element) (old : Option Node) → IsPaired e old → is_evaluated s cs e old ≡ is_dirty s cs e old
place_exact s cs elements.null old paired = refl
place_exact s cs (elements.text t) old paired = refl
place_exact s cs (elements.host n k attrs es) old paired = refl
place_exact s cs (elements.comp c k ps es) old paired =
    ap (λ b. has_cause s cs (elements.comp c k ps es) old || not b) (equal_or_not c k ps es old paired)
place_exact s cs (elements.list marked es) old paired = refl
place_exact s cs (elements.boundary k f es) old paired = refl
place_exact s cs (elements.catcher k f es) old paired = refl
place_exact s cs (elements.provider c k x es) old paired = refl

-- a place is evaluated if it is dirty, and only then
abbrev IsExact : Coming → Type 0
IsExact v = v.evaluated ≡ v.dirty

each_exact : (s : Sight) → AtEach IsPaired IsExact s
each_exact s a cs e old paired =
    stands_or_not (is_evaluated s cs e old ≡ is_dirty s cs e old) (place_exact s cs e old paired) (shape_of s cs e old)

as_many : (vs : List Coming) → Each IsExact vs → filter (λ v. v.evaluated) vs ≡ filter (λ v. v.dirty) vs
as_many [] h = refl
as_many (v ∷ vs) h = go v.evaluated v.dirty h.0 (as_many vs h.1)
  where
    go : (b c : Bool) → b ≡ c → filter (λ v. v.evaluated) vs ≡ filter (λ v. v.dirty) vs
        → cond b (v ∷ filter (λ v. v.evaluated) vs) (filter (λ v. v.evaluated) vs) ≡ cond c (v ∷ filter (λ v. v.dirty) vs) (filter (λ v. v.dirty) vs)
    go true true e h = ap (λ xs. v ∷ xs) h
    go false false e h = h
    go true false e h = absurd (cc e)
    go false true e h = absurd (cc e)

-- The places that a whole render evaluates are the dirty ones.
pub places_exact : (s : Sight) (old : Option Node) → IfSome old (λ x. element_of x ≡ root_element s.program) → evaluated_places s old ≡ dirty_places s old
places_exact s old root =
    ap (map (λ v. v.address)) (as_many (whole_comings s old) (whole_each IsPaired children_paired IsExact s old (own_paired (root_element s.program) old root) (each_exact s)))
