-- Identities within a list are distinct, so that a new child is at most one old child.
use Rattle.std.proofs.Common.{◌≡◌, ℕ, zero, suc, ◌<◌, ◌≤◌, Bool, true, false, cond, ◌&&◌, List, [], ◌∷◌, ◌++◌, Some, None, map, length, get_or, nat_lt, nat_eq, refl, sym, ◌∙◌, ap, arith, subst, length-append}
use Rattle.std.specs.Prelude.{slice_get, count_by, position}
use Rattle.std.specs.List.{zip, position_or_len}
use Rattle.std.proofs.lemmas.List.Quantifiers.{position-Some}
use Rattle.std.specs.Ordering.{int_eq}
use Rattle.std.proofs.lemmas.Bool.Decides.{nat_tests, Decides-int_eq, Decides-eqb}
use Rattle.std.proofs.lemmas.List.Sums.{sum_by-append, position_or_len_is}
use Rattle.std.proofs.lemmas.Option.{none-some, same_Some, slice_get-get_or, slice_get_within, get_or_from_slice_get}
use Rattle.rx_elem.specs.Elements.{Element, Key, key_of}
use Rattle.rx_elem.specs.Identity.{Identity, at_key, at_index, same_identity, has_key, identity_after, identities_after, identities, Child, identified, is_same_child, old_places}

-- an identity that none of these siblings has
abbrev IsLater : List Element → Identity → Type 0
IsLater before (at_key k o) = count_by (has_key k) before ≤ o
IsLater before (at_index i) = length before ≤ i

later_at_once : (before : List Element) (k : Key) → IsLater before (identity_after before k)
later_at_once before None = omega arith
later_at_once before (Some k) = omega arith

later_with_less : (before : List Element) (e : Element) (x : Identity) → IsLater (before ++ e ∷ []) x → IsLater before x
later_with_less before e (at_key k o) h = omega (arith, sum_by-append (λ x. cond (has_key k x) 1 0) before (e ∷ []))
later_with_less before e (at_index i) h = omega (arith, length-append before (e ∷ []))

all_later : (before es : List Element) (i : ℕ) (x : Identity) → slice_get (identities_after before es) i ≡ Some x → IsLater before x
all_later before [] i x h = absurd (none-some x h)
all_later before (e ∷ es) zero x h = subst (IsLater before) (same_Some _ _ h) (later_at_once before (key_of e))
all_later before (e ∷ es) (suc i) x h = later_with_less before e x (all_later (before ++ e ∷ []) es i x h)

never_again : (before : List Element) (e : Element) (k : Key) → key_of e ≡ k → IsLater (before ++ e ∷ []) (identity_after before k) → ⊥
never_again before e None same h = absurd (omega (arith, length-append before (e ∷ [])))
never_again before e (Some k) same h =
    let own : has_key k e ≡ true = rw same ((Decides-int_eq k k).1 refl) in
    let one : count_by (has_key k) (e ∷ []) ≡ 1 = rw own refl in
    absurd (omega (arith, sum_by-append (λ x. cond (has_key k x) 1 0) before (e ∷ []), one))

distinct_after : (before es : List Element) (i j : ℕ) (x : Identity)
    → slice_get (identities_after before es) i ≡ Some x → slice_get (identities_after before es) j ≡ Some x → i ≡ j
distinct_after before [] i j x h k = absurd (none-some x h)
distinct_after before (e ∷ es) zero zero x h k = refl
distinct_after before (e ∷ es) zero (suc j) x h k =
    let later : IsLater (before ++ e ∷ []) x = all_later (before ++ e ∷ []) es j x k in
    absurd (never_again before e (key_of e) refl (subst (IsLater (before ++ e ∷ [])) (sym (same_Some _ _ h)) later))
distinct_after before (e ∷ es) (suc i) zero x h k =
    let later : IsLater (before ++ e ∷ []) x = all_later (before ++ e ∷ []) es i x h in
    absurd (never_again before e (key_of e) refl (subst (IsLater (before ++ e ∷ [])) (sym (same_Some _ _ k)) later))
distinct_after before (e ∷ es) (suc i) (suc j) x h k = ap suc (distinct_after (before ++ e ∷ []) es i j x h k)

-- no two children of a list have one identity
pub identities_distinct : (es : List Element) (i j : ℕ) (x : Identity)
    → slice_get (identities es) i ≡ Some x → slice_get (identities es) j ≡ Some x → i ≡ j
identities_distinct es = distinct_after [] es

pub both : (a b : Bool) → (a && b) ≡ true → (a ≡ true) × (b ≡ true)
both true b h = (refl, h)
both false b h = absurd (cc)

pub same_identity_is : (x y : Identity) → same_identity x y ≡ true → x ≡ y
same_identity_is (at_key k o) (at_key l p) h =
    let parts : (int_eq k l ≡ true) × (nat_eq o p ≡ true) = both _ _ h in
    let e : k ≡ l = (Decides-int_eq k l).0 parts.0 in
    let f : o ≡ p = (Decides-eqb o p).0 parts.1 in
    cc
same_identity_is (at_index i) (at_index j) h = ap at_index ((Decides-eqb i j).0 h)
same_identity_is (at_key k o) (at_index j) h = absurd (cc)
same_identity_is (at_index i) (at_key l p) h = absurd (cc)

pub same_identity_self : (x : Identity) → same_identity x x ≡ true
same_identity_self (at_key k o) = rw ((Decides-int_eq k k).1 refl, (Decides-eqb o o).1 refl) refl
same_identity_self (at_index i) = (Decides-eqb i i).1 refl

pub identity_at : (ids : List Identity) (es : List Element) (i : ℕ) (c : Child)
    → slice_get (map (λ c. record { identity = c.0; element = c.1 }) (zip ids es)) i ≡ Some c → slice_get ids i ≡ Some c.identity
identity_at [] es i c h = absurd (none-some c h)
identity_at (x ∷ ids) [] i c h = absurd (none-some c h)
identity_at (x ∷ ids) (e ∷ es) zero c h = ap (λ o. Some o.identity) (same_Some _ _ h)
identity_at (x ∷ ids) (e ∷ es) (suc i) c h = identity_at ids es i c h

-- two children of a list with one identity are one
pub children_distinct : (es : List Element) (i j : ℕ) (c d : Child)
    → slice_get (identified es) i ≡ Some c → slice_get (identified es) j ≡ Some d → c.identity ≡ d.identity → i ≡ j
children_distinct es i j c d h k e =
    identities_distinct es i j c.identity (identity_at (identities es) es i c h) (rw e (identity_at (identities es) es j d k))

not_true : (b : Bool) → (b ≡ true → ⊥) → b ≡ false
not_true true h = absurd (h refl)
not_true false h = refl

-- if only one element passes, it is the one that `position` finds
pub position_of_one : {X : Type 0} (f : X → Bool) (xs : List X) (p : ℕ) (d : X) → slice_get xs p ≡ Some d → f d ≡ true
    → ((k : ℕ) (x : X) → slice_get xs k ≡ Some x → f x ≡ true → k ≡ p) → position f xs ≡ Some p
position_of_one {X} f xs p d here pass only =
    let inside : p < length xs = slice_get_within xs p d here in
    let fails = λ (k : ℕ) (lt : k < p). not_true (f (get_or xs k d)) (λ t.
    let same : k ≡ p = only k (get_or xs k d) (slice_get-get_or xs k d (omega arith)) t in absurd (omega arith)) in
    let first : position_or_len f xs ≡ p =
    position_or_len_is f xs p d (omega arith) fails (λ lt. rw (get_or_from_slice_get xs p d d here) pass) in
    let below : nat_lt p (length xs) ≡ true = grind (arith, nat_tests) in
    rw (first, below) refl

-- `position` finds the one old child that a new child is
pub position_is_the_one : (old : List Element) (c : Child) (p : ℕ) (d : Child)
    → slice_get (identified old) p ≡ Some d → is_same_child c d ≡ true → position (is_same_child c) (identified old) ≡ Some p
position_is_the_one old c p d here same =
    position_of_one (is_same_child c) (identified old) p d here same (λ k x at pass.
    children_distinct old k p x d at here (sym (identity_of_same c x pass) ∙ identity_of_same c d same))
  where
    identity_of_same : (c d : Child) → is_same_child c d ≡ true → c.identity ≡ d.identity
    identity_of_same c d h = same_identity_is c.identity d.identity (both _ _ h).0

-- Where new children were

-- what stands in a mapped list comes from what stands there before
pub map_at : {X Y : Type 0} (f : X → Y) (xs : List X) (i : ℕ) (y : Y) → slice_get (map f xs) i ≡ Some y → (x : X) × (slice_get xs i ≡ Some x) × (f x ≡ y)
map_at f [] i y h = cc
map_at f (x ∷ xs) zero y h = (x, refl, (let e : f x ≡ y = cc in e))
map_at f (x ∷ xs) (suc i) y h = map_at f xs i y h

-- two new children were not one old child
pub places_apart : (old new : List Element) (i k p : ℕ) → slice_get (old_places old new) i ≡ Some (Some p) → slice_get (old_places old new) k ≡ Some (Some p) → i ≡ k
places_apart old new i k p h l =
    let first = map_at (λ c. position (is_same_child c) (identified old)) (identified new) i (Some p) h in
    let second = map_at (λ c. position (is_same_child c) (identified old)) (identified new) k (Some p) l in
    let c : Child = first.0 in
    let d : Child = second.0 in
    let o : Child = get_or (identified old) p c in
    let one = position-Some (is_same_child c) (identified old) p c first.2 in
    let two = position-Some (is_same_child d) (identified old) p c second.2 in
    let e : c.identity ≡ o.identity = same_identity_is c.identity o.identity (both _ _ one.1).0 in
    let f : d.identity ≡ o.identity = same_identity_is d.identity o.identity (both _ _ two.1).0 in
    children_distinct new i k c d first.1 second.1 (e ∙ sym f)

-- each child has an identity
pub identified_length : (before es : List Element) → length (zip (identities_after before es) es) ≡ length es
identified_length before [] = refl
identified_length before (e ∷ es) = ap suc (identified_length (before ++ e ∷ []) es)
