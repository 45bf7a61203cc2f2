-- Attributes in the order of their names, when one is set or taken away.
use Rattle.std.specs.Prelude.{◌≡◌, true, false, List, [], ◌∷◌, Some, None, map, bytes_eq, refl, if◌then◌else◌}
use Rattle.std.specs.List.{AllByRecursion}
use Rattle.std.specs.List.Sorted.{IsStrictlySortedBy}
use Rattle.std.specs.declared.cmp.Ordering.{Ordering}
use Rattle.std.specs.Ordering.{nat_cmp, is_eq, ordering_reverse}
use Rattle.std.specs.Cmp.Lexicographic.{slice_cmp}
use Rattle.std.proofs.lemmas.Cmp.{nat_list_cmp_total}
use Rattle.std.proofs.lemmas.Map.Text.{is_eq-slice_cmp}
use Rattle.std.proofs.lemmas.Slice.Eq.{bytes_eq-Decides}
use Rattle.std.proofs.Common.{sym, ◌∙◌, ap, subst, Less, Equal, Greater}
use Rattle.rx_base.specs.Values.{Name}
use Rattle.rx_elem.specs.declared.attr.Attr.{Attr}
use Rattle.rx_elem.specs.declared.attr.AttrValue.{AttrValue}
use Rattle.rx_forest.specs.Forests.{value_named}
use Rattle.rx_host.specs.Attrs.{AreByName, with_value, without_name}
use Rattle.rx_host.proofs.Numbers.{split}

-- Names

-- how two names compare
abbrev order : Name → Name → Ordering
order x y = slice_cmp nat_cmp x y

pub split-order : {P : Type 0} (o : Ordering) → (o ≡ Less → P) → (o ≡ Equal → P) → (o ≡ Greater → P) → P
split-order Less less equal greater = less refl
split-order Equal less equal greater = equal refl
split-order Greater less equal greater = greater refl

name-same : (x y : Name) → bytes_eq x y ≡ true → x ≡ y
name-same x y e = (bytes_eq-Decides x y).0 e

name-self : (x : Name) → bytes_eq x x ≡ true
name-self x = (bytes_eq-Decides x x).1 refl

name-turn : (x y : Name) → bytes_eq x y ≡ bytes_eq y x
name-turn x y =
    split (bytes_eq x y)
    (λ e. e ∙ sym (ap (λ (z : Name). bytes_eq y z) (name-same x y e) ∙ name-self y))
    (λ e. split (bytes_eq y x) (λ f. ap (λ (z : Name). bytes_eq x z) (name-same y x f) ∙ name-self x ∙ sym f) (λ f. e ∙ sym f))

order-same : (x y : Name) → order x y ≡ Equal → x ≡ y
order-same x y e = name-same x y (sym (is_eq-slice_cmp x y) ∙ ap is_eq e)

less-apart : (x y : Name) → order x y ≡ Less → bytes_eq x y ≡ false
less-apart x y e = sym (is_eq-slice_cmp x y) ∙ ap is_eq e

greater-apart : (x y : Name) → order x y ≡ Greater → bytes_eq x y ≡ false
greater-apart x y e = sym (is_eq-slice_cmp x y) ∙ ap is_eq e

greater-less : (x y : Name) → order x y ≡ Greater → order y x ≡ Less
greater-less x y e = nat_list_cmp_total.antisymm y x ∙ ap ordering_reverse e

-- Order

abbrev names : List Attr → List Name
names attrs = map (λ a. a.name) attrs

abbrev IsBefore : Name → List Name → Type 0
IsBefore x ys = AllByRecursion (λ y. order x y ≡ Less) ys

before-more : (x y : Name) (ys : List Name) → order x y ≡ Less → IsBefore y ys → IsBefore x ys
before-more x y [] less before = tt
before-more x y (z ∷ zs) less before = (nat_list_cmp_total.trans x y z less before.0, before-more x y zs less before.1)

before-with : (x n : Name) (v : AttrValue) (attrs : List Attr) → order x n ≡ Less → IsBefore x (names attrs) → IsBefore x (names (with_value n v attrs))
before-with x n v [] less before = (less, tt)
before-with x n v (a ∷ attrs) less before =
    split-order (order n a.name)
    (λ e. rw e (less, before))
    (λ e. rw e before)
    (λ e. rw e (before.0, before-with x n v attrs less before.1))

before-without : (x n : Name) (attrs : List Attr) → IsBefore x (names attrs) → IsBefore x (names (without_name n attrs))
before-without x n [] before = tt
before-without x n (a ∷ attrs) before = split (bytes_eq a.name n) (λ e. rw e before.1) (λ e. rw e (before.0, before-without x n attrs before.1))

pub first-by-name : (n : Name) (v : AttrValue) (a : Attr) (attrs : List Attr) → order n a.name ≡ Less → AreByName (a ∷ attrs) → AreByName (record { name = n; value = v } ∷ a ∷ attrs)
unfolding IsStrictlySortedBy
first-by-name n v a attrs less sorted = ((less, before-more n a.name (names attrs) less sorted.0), sorted)

pub one-by-name : (n : Name) (v : AttrValue) → AreByName (record { name = n; value = v } ∷ [])
unfolding IsStrictlySortedBy
one-by-name n v = (tt, tt)

pub none-by-name : AreByName []
unfolding IsStrictlySortedBy
none-by-name = tt

pub rest-by-name : (a : Attr) (attrs : List Attr) → AreByName (a ∷ attrs) → AreByName attrs
unfolding IsStrictlySortedBy
rest-by-name a attrs sorted = sorted.1

pub with-by-name : (n : Name) (v : AttrValue) (attrs : List Attr) → AreByName attrs → AreByName (with_value n v attrs)
unfolding IsStrictlySortedBy
with-by-name n v [] sorted = (tt, tt)
with-by-name n v (a ∷ attrs) sorted =
    split-order (order n a.name)
    (λ e. rw e (first-by-name n v a attrs e sorted))
    (λ e. rw e sorted)
    (λ e. rw e (before-with a.name n v attrs (greater-less n a.name e) sorted.0, with-by-name n v attrs sorted.1))

pub without-by-name : (n : Name) (attrs : List Attr) → AreByName attrs → AreByName (without_name n attrs)
unfolding IsStrictlySortedBy
without-by-name n [] sorted = tt
without-by-name n (a ∷ attrs) sorted =
    split (bytes_eq a.name n)
    (λ e. rw e sorted.1)
    (λ e. rw e (before-without a.name n attrs sorted.0, without-by-name n attrs sorted.1))

-- Values

pub with-named : (n : Name) (v : AttrValue) (attrs : List Attr) (x : Name) → value_named (with_value n v attrs) x ≡ (if bytes_eq x n then Some v else value_named attrs x)
with-named n v [] x = rw (name-turn n x) (split (bytes_eq x n) (λ e. rw e refl) (λ e. rw e refl))
with-named n v (a ∷ attrs) x =
    split-order (order n a.name)
    (λ e. rw (e, name-turn n x) (split (bytes_eq x n) (λ f. rw f refl) (λ f. rw f refl)))
    (λ e.
    let at : bytes_eq a.name x ≡ bytes_eq x n = ap (λ (z : Name). bytes_eq z x) (sym (order-same n a.name e)) ∙ name-turn n x in
    rw (e, at) (split (bytes_eq x n) (λ f. rw f refl) (λ f. rw f refl)))
    (λ e. split (bytes_eq a.name x)
    (λ f.
    let away : bytes_eq x n ≡ false = ap (λ (z : Name). bytes_eq z n) (sym (name-same a.name x f)) ∙ name-turn a.name n ∙ greater-apart n a.name e in
    rw (e, f, away) refl)
    (λ f. rw (e, f) (with-named n v attrs x)))

absent-named : (x : Name) (attrs : List Attr) → IsBefore x (names attrs) → value_named attrs x ≡ None
absent-named x [] before = refl
absent-named x (a ∷ attrs) before = rw (name-turn a.name x ∙ less-apart x a.name before.0) (absent-named x attrs before.1)

pub without-named : (n : Name) (attrs : List Attr) (x : Name) → AreByName attrs → value_named (without_name n attrs) x ≡ (if bytes_eq x n then None else value_named attrs x)
unfolding IsStrictlySortedBy
without-named n [] x sorted = split (bytes_eq x n) (λ e. rw e refl) (λ e. rw e refl)
without-named n (a ∷ attrs) x sorted =
    split (bytes_eq a.name n)
    (λ e.
    let at : a.name ≡ n = name-same a.name n e in
    split (bytes_eq x n)
    (λ f. rw (e, f) (absent-named x attrs (subst (λ (z : Name). IsBefore z (names attrs)) (at ∙ sym (name-same x n f)) sorted.0)))
    (λ f.
    let away : bytes_eq a.name x ≡ false = ap (λ (z : Name). bytes_eq z x) at ∙ name-turn n x ∙ f in
    rw (e, f, away) refl))
    (λ e. split (bytes_eq a.name x)
    (λ f.
    let away : bytes_eq x n ≡ false = ap (λ (z : Name). bytes_eq z n) (sym (name-same a.name x f)) ∙ e in
    rw (e, f, away) refl)
    (λ f. rw (e, f) (without-named n attrs x sorted.1)))

-- One step of a walk

pub later-by-name : (n : Name) (v : AttrValue) (a : Attr) (attrs : List Attr) → order n a.name ≡ Greater → AreByName (a ∷ attrs) → AreByName (a ∷ with_value n v attrs)
later-by-name n v a attrs e sorted = rw e at (with-by-name n v (a ∷ attrs) sorted)

pub other-by-name : (n : Name) (a : Attr) (attrs : List Attr) → bytes_eq a.name n ≡ false → AreByName (a ∷ attrs) → AreByName (a ∷ without_name n attrs)
other-by-name n a attrs e sorted = rw e at (without-by-name n (a ∷ attrs) sorted)

pub here-named : (n : Name) (a : Attr) (attrs : List Attr) (x : Name) → bytes_eq a.name n ≡ true → AreByName (a ∷ attrs) → value_named attrs x ≡ (if bytes_eq x n then None else value_named (a ∷ attrs) x)
here-named n a attrs x e sorted = rw e at (without-named n (a ∷ attrs) x sorted)
