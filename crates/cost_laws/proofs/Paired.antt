-- A new child beside its old node: both have one key and one kind, so that equal inputs make their elements equal.
use Rattle.std.specs.Prelude.{◌≡◌, Bool, true, false, ◌&&◌, cond, List, [], ◌∷◌, ◌++◌, Option, Some, None, IfSome, map, nat_eq, option_and_then, position, refl}
use Rattle.std.specs.List.{zip}
use Rattle.std.specs.Ordering.{int_eq}
use Rattle.std.specs.Cmp.Lexicographic.{pointwise}
use Rattle.std.proofs.Common.{subst, sym}
use Rattle.rx_elem.specs.Elements.{Element, Key, key_of, kind_of, same_element, same_elements, same_key, same_kind}
use Rattle.rx_elem.specs.Elements as elements
use Rattle.rx_elem.specs.Compare.{node_at, old_nodes}
use Rattle.rx_elem.specs.Identity.{identities_after, identity_after, is_same_child, same_identity}
use Rattle.rx_elem.specs.Trees.{Forest, Node, child, element_of, none, vacant}
use Rattle.rx_elem.proofs.Deciding.{and_passes, both_hold}
use Rattle.rx_elem.proofs.Equality.{same_element-self}
use Rattle.rx_elem.proofs.Identities.{child_of}
use Rattle.rx_meaning.specs.Touched.{same_inputs}
use Rattle.commit_laws.proofs.OwnNumbers.{first_that, found_first, kids}
use Rattle.cost_laws.proofs.Each.{Each}

-- equal inputs make an element equal to that of its old node
abbrev pub IsPaired : Element → Option Node → Type 0
IsPaired e None = Unit {0}
IsPaired e (Some n) = same_inputs e (element_of n) ≡ true → same_element e (element_of n) ≡ true

equal_so : (e x : Element) → same_key (key_of e) (key_of x) ≡ true → same_kind (kind_of e) (kind_of x) ≡ true → same_inputs e x ≡ true → same_element e x ≡ true
equal_so (elements.comp c k ps es) (elements.comp d l qs fs) keys kinds inputs =
    both_hold (nat_eq c d) (same_key k l && (pointwise int_eq ps qs && same_elements es fs)) kinds
    (both_hold (same_key k l) (pointwise int_eq ps qs && same_elements es fs) keys inputs)
equal_so (elements.comp c k ps es) elements.null keys kinds inputs = absurd (cc inputs)
equal_so (elements.comp c k ps es) (elements.text t) keys kinds inputs = absurd (cc inputs)
equal_so (elements.comp c k ps es) (elements.host n l attrs fs) keys kinds inputs = absurd (cc inputs)
equal_so (elements.comp c k ps es) (elements.list marked fs) keys kinds inputs = absurd (cc inputs)
equal_so (elements.comp c k ps es) (elements.boundary l f fs) keys kinds inputs = absurd (cc inputs)
equal_so (elements.comp c k ps es) (elements.catcher l f fs) keys kinds inputs = absurd (cc inputs)
equal_so (elements.comp c k ps es) (elements.provider d l x fs) keys kinds inputs = absurd (cc inputs)
equal_so elements.null x keys kinds inputs = absurd (cc inputs)
equal_so (elements.text t) x keys kinds inputs = absurd (cc inputs)
equal_so (elements.host n k attrs es) x keys kinds inputs = absurd (cc inputs)
equal_so (elements.list marked es) x keys kinds inputs = absurd (cc inputs)
equal_so (elements.boundary k f es) x keys kinds inputs = absurd (cc inputs)
equal_so (elements.catcher k f es) x keys kinds inputs = absurd (cc inputs)
equal_so (elements.provider c k y es) x keys kinds inputs = absurd (cc inputs)

-- children of one identity have one key
same_keys : (before after : List Element) (k l : Key) → same_identity (identity_after before k) (identity_after after l) ≡ true → same_key k l ≡ true
same_keys before after None None h = refl
same_keys before after (Some k) (Some l) h = (and_passes (int_eq k l) _ h).0
same_keys before after None (Some l) h = absurd (cc h)
same_keys before after (Some k) None h = absurd (cc h)

-- the first old node that is the same as a new child is paired with it
first_paired : (earlier : List Element) (e : Element) (before : List Element) (ns : Forest)
    → IsPaired e (first_that (is_same_child (record { identity = identity_after earlier (key_of e); element = e })) before ns)
first_paired earlier e before none = tt
first_paired earlier e before (vacant ns) =
    go (is_same_child (record { identity = identity_after earlier (key_of e); element = e }) (record { identity = identity_after before None; element = elements.null }))
    (first_paired earlier e (before ++ elements.null ∷ []) ns)
  where
    go : (b : Bool) → IsPaired e (first_that (is_same_child (record { identity = identity_after earlier (key_of e); element = e })) (before ++ elements.null ∷ []) ns)
        → IsPaired e (cond b None (first_that (is_same_child (record { identity = identity_after earlier (key_of e); element = e })) (before ++ elements.null ∷ []) ns))
    go true h = tt
    go false h = h
first_paired earlier e before (child n ns) =
    go (is_same_child (record { identity = identity_after earlier (key_of e); element = e }) (record { identity = identity_after before (key_of (element_of n)); element = element_of n })) refl
    (first_paired earlier e (before ++ element_of n ∷ []) ns)
  where
    go : (b : Bool)
        → is_same_child (record { identity = identity_after earlier (key_of e); element = e }) (record { identity = identity_after before (key_of (element_of n)); element = element_of n }) ≡ b
        → IsPaired e (first_that (is_same_child (record { identity = identity_after earlier (key_of e); element = e })) (before ++ element_of n ∷ []) ns)
        → IsPaired e (cond b (Some n) (first_that (is_same_child (record { identity = identity_after earlier (key_of e); element = e })) (before ++ element_of n ∷ []) ns))
    go true same h =
        let parts = and_passes (same_identity (identity_after earlier (key_of e)) (identity_after before (key_of (element_of n)))) (same_kind (kind_of e) (kind_of (element_of n))) same in
        λ inputs. equal_so e (element_of n) (same_keys earlier before (key_of e) (key_of (element_of n)) parts.0) parts.1 inputs
    go false same h = h

olds_paired : (old : Forest) (earlier es : List Element)
    → Each (λ x. IsPaired x.0 x.1) (zip es (map (option_and_then (node_at old)) (map (λ c. position (is_same_child c) (kids [] old)) (map child_of (zip (identities_after earlier es) es)))))
olds_paired old earlier [] = tt
olds_paired old earlier (e ∷ es) = (
  subst (IsPaired e) (sym (found_first (is_same_child (record { identity = identity_after earlier (key_of e); element = e })) old)) (first_paired earlier e [] old),
  olds_paired old (earlier ++ e ∷ []) es,
)

-- Each new child is paired with its old node.
pub children_paired : (old : Forest) (es : List Element) → Each (λ x. IsPaired x.0 x.1) (zip es (old_nodes old es))
children_paired old es = olds_paired old [] es

-- So is an element with a node of its own.
pub own_paired : (e : Element) (old : Option Node) → IfSome old (λ n. element_of n ≡ e) → IsPaired e old
own_paired e None h = tt
own_paired e (Some n) h = λ inputs. subst (λ x. same_element e x ≡ true) (sym h) (same_element-self e)
