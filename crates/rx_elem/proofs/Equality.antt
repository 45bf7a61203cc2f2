-- What stands for a node is of one kind with itself, and each element is equal to itself: no clause of the tests is missing.
use Rattle.std.specs.Prelude.{◌≡◌, ℕ, true, false, List, [], ◌∷◌, ℤ, Some, None, nat_eq, bytes_eq, refl}
use Rattle.std.specs.Ordering.{int_eq}
use Rattle.std.specs.Cmp.Lexicographic.{pointwise}
use Rattle.std.proofs.lemmas.Slice.Eq.{bytes_eq-Decides}
use Rattle.std.proofs.lemmas.Bool.Decides.{Decides-int_eq, Decides-eqb}
use Rattle.rx_elem.specs.Elements.{Key, Element, null, text, host, comp, list, boundary, catcher, provider, Elements, none, more, kind_of, same_kind, is_present, same_value, same_attr, same_key, same_element, same_elements}
use Rattle.rx_elem.specs.declared.attr.AttrValue.{AttrValue}
use Rattle.rx_elem.specs.declared.attr.AttrValue.TheVariants.{Number, Text}
use Rattle.rx_elem.specs.declared.attr.Attr.{Attr}

bytes-self : (n : List ℕ) → bytes_eq n n ≡ true
bytes-self n = (bytes_eq-Decides n n).1 refl

int-self : (x : ℤ) → int_eq x x ≡ true
int-self x = (Decides-int_eq x x).1 refl

nat-self : (n : ℕ) → nat_eq n n ≡ true
nat-self n = (Decides-eqb n n).1 refl

-- what stands for a node is of one kind with itself
pub same_kind-self : (e : Element) → is_present e ≡ true → same_kind (kind_of e) (kind_of e) ≡ true
same_kind-self null h = absurd (cc)
same_kind-self (text t) h = refl
same_kind-self (host n k attrs es) h = bytes-self n
same_kind-self (comp c k ps es) h = nat-self c
same_kind-self (list mark es) h = refl
same_kind-self (boundary k f es) h = refl
same_kind-self (catcher k f es) h = refl
same_kind-self (provider c k x es) h = nat-self c

key-self : (k : Key) → same_key k k ≡ true
key-self None = refl
key-self (Some x) = int-self x

value-self : (v : AttrValue) → same_value v v ≡ true
value-self (Number x) = int-self x
value-self (Text t) = bytes-self t

attrs-self : (attrs : List Attr) → pointwise same_attr attrs attrs ≡ true
attrs-self [] = refl
attrs-self (a ∷ attrs) = rw (bytes-self a.name, value-self a.value, attrs-self attrs) refl

ints-self : (xs : List ℤ) → pointwise int_eq xs xs ≡ true
ints-self [] = refl
ints-self (x ∷ xs) = rw (int-self x, ints-self xs) refl

-- each element is equal to itself
mutual
  pub same_element-self : (e : Element) → same_element e e ≡ true
  same_element-self null = refl
  same_element-self (text t) = bytes-self t
  same_element-self (host n k attrs es) = rw (bytes-self n, key-self k, attrs-self attrs, same_elements-self es) refl
  same_element-self (comp c k ps es) = rw (nat-self c, key-self k, ints-self ps, same_elements-self es) refl
  same_element-self (list true es) = same_elements-self es
  same_element-self (list false es) = same_elements-self es
  same_element-self (boundary k f es) = rw (key-self k, same_element-self f, same_elements-self es) refl
  same_element-self (catcher k f es) = rw (key-self k, same_element-self f, same_elements-self es) refl
  same_element-self (provider c k x es) = rw (nat-self c, key-self k, int-self x, same_elements-self es) refl

  pub same_elements-self : (es : Elements) → same_elements es es ≡ true
  same_elements-self none = refl
  same_elements-self (more e es) = rw (same_element-self e, same_elements-self es) refl
