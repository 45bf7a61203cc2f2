-- What the test of two elements tells: they are equal.
use Rattle.std.specs.Cmp.Lexicographic.{pointwise}
use Rattle.std.specs.Ordering.{int_eq}
use Rattle.std.specs.Prelude.{Bool, List, None, Some, [], bytes_eq, false, nat_eq, refl, true, ℕ, ℤ, ◌&&◌, ◌∷◌, ◌≡◌}
use Rattle.std.proofs.Common.{ap}
use Rattle.std.proofs.lemmas.Bool.Decides.{Decides-int_eq}
use Rattle.std.proofs.lemmas.Slice.Eq.{bytes_eq-Decides}
use Rattle.rx_elem.specs.Elements.{Element, Elements, Key, same_attr, same_element, same_elements, same_key, same_value}
use Rattle.rx_elem.specs.declared.attr.Attr.{Attr}
use Rattle.rx_elem.specs.declared.attr.AttrValue.{AttrValue}
use Rattle.rx_elem.specs.Elements as elements
use Rattle.rx_elem.specs.declared.attr.AttrValue.TheVariants as attr_value
use Rattle.rx_elem.proofs.Deciding.{and_passes, same_number}

same_int : (x y : ℤ) → int_eq x y ≡ true → x ≡ y
same_int x y h = (Decides-int_eq x y).0 h

same_text : (s t : List ℕ) → bytes_eq s t ≡ true → s ≡ t
same_text s t h = (bytes_eq-Decides s t).0 h

values_tell : (x y : AttrValue) → same_value x y ≡ true → x ≡ y
values_tell (attr_value.Number x) (attr_value.Number y) h = ap attr_value.Number (same_int x y h)
values_tell (attr_value.Number x) (attr_value.Text t) h = absurd (cc h)
values_tell (attr_value.Text s) (attr_value.Number y) h = absurd (cc h)
values_tell (attr_value.Text s) (attr_value.Text t) h = ap attr_value.Text (same_text s t h)

attrs_tell : (a b : Attr) → same_attr a b ≡ true → a ≡ b
attrs_tell a b h =
    let both = and_passes (bytes_eq a.name b.name) (same_value a.value b.value) h in
    let names : a.name ≡ b.name = same_text a.name b.name both.0 in
    let values : a.value ≡ b.value = values_tell a.value b.value both.1 in
    λ i. record { name = names i; value = values i }

lists_tell : {X : Type 0} (test : X → X → Bool) → ((x y : X) → test x y ≡ true → x ≡ y) → (xs ys : List X) → pointwise test xs ys ≡ true → xs ≡ ys
lists_tell test tells [] [] h = refl
lists_tell test tells [] (y ∷ ys) h = absurd (cc h)
lists_tell test tells (x ∷ xs) [] h = absurd (cc h)
lists_tell test tells (x ∷ xs) (y ∷ ys) h =
    let both = and_passes (test x y) (pointwise test xs ys) h in
    let first : x ≡ y = tells x y both.0 in
    let rest : xs ≡ ys = lists_tell test tells xs ys both.1 in
    λ i. first i ∷ rest i

keys_tell : (k l : Key) → same_key k l ≡ true → k ≡ l
keys_tell None None h = refl
keys_tell None (Some l) h = absurd (cc h)
keys_tell (Some k) None h = absurd (cc h)
keys_tell (Some k) (Some l) h = ap Some (same_int k l h)

-- three tests in a row, and four
three : (a b c : Bool) → (a && (b && c)) ≡ true → (a ≡ true) × (b ≡ true) × (c ≡ true)
three a b c h = let x = and_passes a (b && c) h in let y = and_passes b c x.1 in (x.0, y.0, y.1)

four : (a b c d : Bool) → (a && (b && (c && d))) ≡ true → (a ≡ true) × (b ≡ true) × (c ≡ true) × (d ≡ true)
four a b c d h = let x = and_passes a (b && (c && d)) h in let y = three b c d x.1 in (x.0, y.0, y.1, y.2)

mutual
  pub elements_tell : (e f : Element) → same_element e f ≡ true → e ≡ f
  elements_tell elements.null elements.null h = refl
  elements_tell (elements.text s) (elements.text t) h = ap elements.text (same_text s t h)
  elements_tell (elements.host m k attrs es) (elements.host n l others fs) h =
      let t = four (bytes_eq m n) (same_key k l) (pointwise same_attr attrs others) (same_elements es fs) h in
      let a : m ≡ n = same_text m n t.0 in
      let b : k ≡ l = keys_tell k l t.1 in
      let c : attrs ≡ others = lists_tell same_attr attrs_tell attrs others t.2 in
      let d : es ≡ fs = all_tell es fs t.3 in
      λ i. elements.host (a i) (b i) (c i) (d i)
  elements_tell (elements.comp m k ps es) (elements.comp n l qs fs) h =
      let t = four (nat_eq m n) (same_key k l) (pointwise int_eq ps qs) (same_elements es fs) h in
      let a : m ≡ n = same_number m n t.0 in
      let b : k ≡ l = keys_tell k l t.1 in
      let c : ps ≡ qs = lists_tell int_eq same_int ps qs t.2 in
      let d : es ≡ fs = all_tell es fs t.3 in
      λ i. elements.comp (a i) (b i) (c i) (d i)
  elements_tell (elements.list true es) (elements.list true fs) h = ap (elements.list true) (all_tell es fs h)
  elements_tell (elements.list false es) (elements.list false fs) h = ap (elements.list false) (all_tell es fs h)
  elements_tell (elements.list true es) (elements.list false fs) h = absurd (cc h)
  elements_tell (elements.list false es) (elements.list true fs) h = absurd (cc h)
  elements_tell (elements.boundary k e es) (elements.boundary l f fs) h =
      let t = three (same_key k l) (same_element e f) (same_elements es fs) h in
      let a : k ≡ l = keys_tell k l t.0 in
      let b : e ≡ f = elements_tell e f t.1 in
      let c : es ≡ fs = all_tell es fs t.2 in
      λ i. elements.boundary (a i) (b i) (c i)
  elements_tell (elements.catcher k e es) (elements.catcher l f fs) h =
      let t = three (same_key k l) (same_element e f) (same_elements es fs) h in
      let a : k ≡ l = keys_tell k l t.0 in
      let b : e ≡ f = elements_tell e f t.1 in
      let c : es ≡ fs = all_tell es fs t.2 in
      λ i. elements.catcher (a i) (b i) (c i)
  elements_tell (elements.provider m k x es) (elements.provider n l y fs) h =
      let t = four (nat_eq m n) (same_key k l) (int_eq x y) (same_elements es fs) h in
      let a : m ≡ n = same_number m n t.0 in
      let b : k ≡ l = keys_tell k l t.1 in
      let c : x ≡ y = same_int x y t.2 in
      let d : es ≡ fs = all_tell es fs t.3 in
      λ i. elements.provider (a i) (b i) (c i) (d i)
  elements_tell _ _ h = absurd (cc h)

  all_tell : (es fs : Elements) → same_elements es fs ≡ true → es ≡ fs
  all_tell elements.none elements.none h = refl
  all_tell (elements.more e es) (elements.more f fs) h =
      let t = and_passes (same_element e f) (same_elements es fs) h in
      let a : e ≡ f = elements_tell e f t.0 in
      let b : es ≡ fs = all_tell es fs t.1 in
      λ i. elements.more (a i) (b i)
  all_tell elements.none (elements.more f fs) h = absurd (cc h)
  all_tell (elements.more e es) elements.none h = absurd (cc h)
