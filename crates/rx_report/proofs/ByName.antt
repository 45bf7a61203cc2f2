-- Attributes in the order of their names.
use Rattle.std.specs.Prelude.{◌≡◌, ℕ, zero, suc, ◌+◌, ◌<◌, length, Bool, true, false, cond, List, [], ◌∷◌, Some, None, map, bytes_eq, refl}
use Rattle.std.specs.List.{AllByRecursion}
use Rattle.std.specs.Ordering.{nat_cmp, match_ordering, ordering_reverse, is_eq}
use Rattle.std.specs.Cmp.Lexicographic.{slice_cmp}
use Rattle.std.specs.declared.cmp.Ordering.{Ordering}
use Rattle.std.specs.declared.cmp.Ordering.TheVariants.{Less, Equal, Greater}
use Rattle.std.proofs.Common.{sym, ◌∙◌, ap, subst, arith, get_or}
use Rattle.std.proofs.lemmas.Cmp.{nat_list_cmp_total}
use Rattle.std.proofs.lemmas.Map.Keys.{sorted_head, sorted_tail, sorted_from_all_adjacent}
use Rattle.std.proofs.lemmas.Map.Text.{is_eq-slice_cmp}
use Rattle.std.proofs.lemmas.Slice.Eq.{bytes_eq-Decides}
use Rattle.rx_base.specs.Values.{Name}
use Rattle.rx_elem.specs.declared.attr.Attr.{Attr}
use Rattle.rx_elem.specs.declared.attr.AttrValue.{AttrValue}
use Rattle.rx_forest.specs.Hosts.{with_attr, by_name}
use Rattle.rx_forest.specs.HostOps.{attr_named}
use Rattle.rx_forest.specs.Forests.{value_named}
use Rattle.host_laws.specs.Related.{HaveOwnNames}
use Rattle.rx_host.specs.Attrs.{AreByName}

-- a name comes before those of attributes
abbrev IsAfter : Name → List Attr → Type 0
IsAfter x attrs = AllByRecursion (λ y. slice_cmp nat_cmp x y ≡ Less) (map (λ a. a.name) attrs)

-- each name comes before those behind it
abbrev InOrder : List Attr → Type 0
InOrder [] = Unit {0}
InOrder (a ∷ attrs) = IsAfter a.name attrs × InOrder attrs

-- Names

turned : (x y : Name) (o : Ordering) → slice_cmp nat_cmp x y ≡ o → slice_cmp nat_cmp y x ≡ ordering_reverse o
turned x y o e = nat_list_cmp_total.antisymm y x ∙ ap ordering_reverse e

test_of : (x y : Name) (o : Ordering) → slice_cmp nat_cmp x y ≡ o → bytes_eq x y ≡ is_eq o
test_of x y o e = sym (is_eq-slice_cmp x y) ∙ ap is_eq e

-- a name before another one is not that one
apart : (x y : Name) → slice_cmp nat_cmp x y ≡ Less → bytes_eq y x ≡ false
apart x y e = test_of y x Greater (turned x y Less e)

itself : (x : Name) → bytes_eq x x ≡ true
itself x = (bytes_eq-Decides x x).1 refl

all_after : (a b : Attr) (cs : List Attr) → slice_cmp nat_cmp a.name b.name ≡ Less → IsAfter b.name cs → IsAfter a.name cs
all_after a b [] l cs = tt
all_after a b (c ∷ cs) l m = (nat_list_cmp_total.trans a.name b.name c.name l m.0, all_after a b cs l m.1)

-- a name before all others is that of none
none_named : (a : Attr) (bs : List Attr) → IsAfter a.name bs → attr_named bs a.name ≡ None
none_named a [] l = refl
none_named a (b ∷ bs) l = let other = apart a.name b.name l.0 in rw other (none_named a bs l.1)

-- Attributes in order are known by their values

no_value : (a : Attr) (bs : List Attr) → IsAfter a.name bs → value_named bs a.name ≡ None
no_value a bs l = rw (none_named a bs l) refl

first_value : (a : Attr) (attrs : List Attr) → value_named (a ∷ attrs) a.name ≡ Some a.value
first_value a attrs = rw (itself a.name) refl

other_value : (a : Attr) (attrs : List Attr) (x : Name) → bytes_eq a.name x ≡ false → value_named (a ∷ attrs) x ≡ value_named attrs x
other_value a attrs x e = rw e refl

-- the values of attributes are the same
abbrev SameValues : List Attr → List Attr → Type 0
SameValues xs ys = (x : Name) → value_named xs x ≡ value_named ys x

rest_values : (a b : Attr) (xs ys : List Attr) → a.name ≡ b.name → IsAfter a.name xs → IsAfter b.name ys
    → SameValues (a ∷ xs) (b ∷ ys) → SameValues xs ys
rest_values a b xs ys same l m values x = go (bytes_eq a.name x) refl
  where
    go : (c : Bool) → bytes_eq a.name x ≡ c → value_named xs x ≡ value_named ys x
    go true e =
        let is : a.name ≡ x = (bytes_eq-Decides a.name x).0 e in
        ap (value_named xs) (sym is) ∙ no_value a xs l ∙ sym (no_value b ys m) ∙ ap (value_named ys) (sym same ∙ is)
    go false e =
        let other : bytes_eq b.name x ≡ false = ap (λ n. bytes_eq n x) (sym same) ∙ e in
        sym (other_value a xs x e) ∙ values x ∙ other_value b ys x other

first_before : (a b : Attr) (xs ys : List Attr) → InOrder (b ∷ ys) → SameValues (a ∷ xs) (b ∷ ys) → slice_cmp nat_cmp a.name b.name ≡ Less → ⊥
first_before a b xs ys m values l =
    let none : value_named (b ∷ ys) a.name ≡ None = no_value a (b ∷ ys) (l, all_after a b ys l m.0) in
    let some : value_named (b ∷ ys) a.name ≡ Some a.value = sym (values a.name) ∙ first_value a xs in cc

same_attr : (a b : Attr) → a.name ≡ b.name → a.value ≡ b.value → a ≡ b
same_attr a b name value = ap (λ (x : Name). record { name = x; value = a.value }) name ∙ ap (λ (v : AttrValue). record { name = b.name; value = v }) value

same_attrs : (xs ys : List Attr) → InOrder xs → InOrder ys → ((x : Name) → value_named xs x ≡ value_named ys x) → xs ≡ ys
same_attrs [] [] l m values = refl
same_attrs [] (b ∷ ys) l m values = let some = first_value b ys in let none = values b.name in absurd (cc)
same_attrs (a ∷ xs) [] l m values = let some = first_value a xs in let none = values a.name in absurd (cc)
same_attrs (a ∷ xs) (b ∷ ys) l m values = go (slice_cmp nat_cmp a.name b.name) refl (same_attrs xs ys l.1 m.1)
  where
    go : (o : Ordering) → slice_cmp nat_cmp a.name b.name ≡ o → (SameValues xs ys → xs ≡ ys) → a ∷ xs ≡ b ∷ ys
    go Less e rest = absurd (first_before a b xs ys m values e)
    go Greater e rest = absurd (first_before b a ys xs l (λ x. sym (values x)) (turned a.name b.name Greater e))
    go Equal e rest =
        let same : a.name ≡ b.name = (bytes_eq-Decides a.name b.name).0 (test_of a.name b.name Equal e) in
        let one : value_named (a ∷ xs) a.name ≡ Some a.value = first_value a xs in
        let two : value_named (b ∷ ys) a.name ≡ Some b.value = ap (value_named (b ∷ ys)) same ∙ first_value b ys in
        let value : a.value ≡ b.value = let both = values a.name in cc in
        let first : a ≡ b = same_attr a b same value in
        let later : xs ≡ ys = rest (rest_values a b xs ys same l.0 m.0 values) in cc

-- Attributes with names of their own, once they are in order

split_named : (b : Attr) (bs : List Attr) (x : Name) → attr_named (b ∷ bs) x ≡ None → (bytes_eq b.name x ≡ false) × (attr_named bs x ≡ None)
split_named b bs x h = go (bytes_eq b.name x) h
  where
    go : (c : Bool) → cond c (Some b) (attr_named bs x) ≡ None → (c ≡ false) × (attr_named bs x ≡ None)
    go true k = absurd (cc)
    go false k = (refl, k)

-- a name that none has among some attributes is that of none of them without one
none_without : (a : Attr) (bs : List Attr) (x : Name) → attr_named (with_attr a bs) x ≡ None → attr_named bs x ≡ None
none_without a [] x h = refl
none_without a (b ∷ bs) x h = go (slice_cmp nat_cmp a.name b.name) h (none_without a bs x)
  where
    go : (o : Ordering) → attr_named (match_ordering o (a ∷ b ∷ bs) (a ∷ b ∷ bs) (b ∷ with_attr a bs)) x ≡ None
        → (attr_named (with_attr a bs) x ≡ None → attr_named bs x ≡ None) → attr_named (b ∷ bs) x ≡ None
    go Less k rest = (split_named a (b ∷ bs) x k).1
    go Equal k rest = (split_named a (b ∷ bs) x k).1
    go Greater k rest = let parts = split_named b (with_attr a bs) x k in rw parts.0 (rest parts.1)

own_without : (a : Attr) (bs : List Attr) → HaveOwnNames (with_attr a bs) → HaveOwnNames bs × (attr_named bs a.name ≡ None)
own_without a [] own = (tt, refl)
own_without a (b ∷ bs) own = go (slice_cmp nat_cmp a.name b.name) refl own (own_without a bs)
  where
    go : (o : Ordering) → slice_cmp nat_cmp a.name b.name ≡ o → HaveOwnNames (match_ordering o (a ∷ b ∷ bs) (a ∷ b ∷ bs) (b ∷ with_attr a bs))
        → (HaveOwnNames (with_attr a bs) → HaveOwnNames bs × (attr_named bs a.name ≡ None)) → HaveOwnNames (b ∷ bs) × (attr_named (b ∷ bs) a.name ≡ None)
    go Less e k rest = (k.1, k.0)
    go Equal e k rest = (k.1, k.0)
    go Greater e k rest =
        let later = rest k.1 in
        let other : bytes_eq b.name a.name ≡ false = test_of b.name a.name Less (turned a.name b.name Greater e) in
        ((none_without a bs b.name k.0, later.0), rw other later.1)

all_with : (x : Name) (a : Attr) (bs : List Attr) → slice_cmp nat_cmp x a.name ≡ Less → IsAfter x bs → IsAfter x (with_attr a bs)
all_with x a [] h l = (h, tt)
all_with x a (b ∷ bs) h l = go (slice_cmp nat_cmp a.name b.name) (all_with x a bs h l.1)
  where
    go : (o : Ordering) → IsAfter x (with_attr a bs) → IsAfter x (match_ordering o (a ∷ b ∷ bs) (a ∷ b ∷ bs) (b ∷ with_attr a bs))
    go Less rest = (h, l)
    go Equal rest = (h, l)
    go Greater rest = (l.0, rest)

with_in_order : (a : Attr) (bs : List Attr) → InOrder bs → attr_named bs a.name ≡ None → InOrder (with_attr a bs)
with_in_order a [] l none = (tt, tt)
with_in_order a (b ∷ bs) l none = go (slice_cmp nat_cmp a.name b.name) refl (with_in_order a bs l.1)
  where
    parts : (bytes_eq b.name a.name ≡ false) × (attr_named bs a.name ≡ None)
    parts = split_named b bs a.name none

    go : (o : Ordering) → slice_cmp nat_cmp a.name b.name ≡ o → (attr_named bs a.name ≡ None → InOrder (with_attr a bs))
        → InOrder (match_ordering o (a ∷ b ∷ bs) (a ∷ b ∷ bs) (b ∷ with_attr a bs))
    go Less e rest = ((e, all_after a b bs e l.0), l)
    go Equal e rest = let same : bytes_eq b.name a.name ≡ true = test_of b.name a.name Equal (turned a.name b.name Equal e) in let other = parts.0 in absurd (cc)
    go Greater e rest = (all_with b.name a bs (turned a.name b.name Greater e) l.0, rest parts.1)

in_order : (attrs : List Attr) → HaveOwnNames (by_name attrs) → InOrder (by_name attrs)
in_order [] own = tt
in_order (a ∷ attrs) own = let parts = own_without a (by_name attrs) own in with_in_order a (by_name attrs) (in_order attrs parts.0) parts.1

-- In the words of the tree of hosts

from_by_name : (attrs : List Attr) → AreByName attrs → InOrder attrs
from_by_name [] l = tt
from_by_name (a ∷ attrs) l =
    let names : List Name = map (λ b. b.name) attrs in
    (sorted_head (slice_cmp nat_cmp) a.name names l, from_by_name attrs (sorted_tail (slice_cmp nat_cmp) a.name names l))

names_rise : (attrs : List Attr) → InOrder attrs → (d : Name) (k : ℕ) → suc k < length (map (λ a. a.name) attrs)
    → slice_cmp nat_cmp (get_or (map (λ a. a.name) attrs) k d) (get_or (map (λ a. a.name) attrs) (suc k) d) ≡ Less
names_rise [] l d k h = absurd (omega arith)
names_rise (a ∷ []) l d k h = absurd (omega arith)
names_rise (a ∷ b ∷ attrs) l d zero h = l.0.0
names_rise (a ∷ b ∷ attrs) l d (suc k) h = names_rise (b ∷ attrs) l.1 d k (omega arith)

to_by_name : (attrs : List Attr) → InOrder attrs → AreByName attrs
to_by_name attrs l = sorted_from_all_adjacent nat_list_cmp_total (map (λ a. a.name) attrs) [] (λ k h.
    let next : k + 1 ≡ suc k = omega arith in
    let names : List Name = map (λ a. a.name) attrs in
    subst (λ n. slice_cmp nat_cmp (get_or names k []) (get_or names n []) ≡ Less) (sym next) (names_rise attrs l [] k (omega arith)))

-- attributes in the order of their names that have the same values are the same
pub same_by_name : (xs ys : List Attr) → AreByName xs → AreByName ys → ((x : Name) → value_named xs x ≡ value_named ys x) → xs ≡ ys
same_by_name xs ys l m values = same_attrs xs ys (from_by_name xs l) (from_by_name ys m) values

-- attributes that were put in order stand in the order of their names, if these are their own
pub put_by_name : (attrs : List Attr) → HaveOwnNames (by_name attrs) → AreByName (by_name attrs)
put_by_name attrs own = to_by_name (by_name attrs) (in_order attrs own)
