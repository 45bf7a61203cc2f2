-- A list of children whose elements are those of the old list is the old list, child by child.
use Rattle.std.specs.List.{position_or_len, zip}
use Rattle.std.specs.Option.{option_flatten}
use Rattle.std.specs.Prelude.{Bool, List, None, Option, Some, [], false, length, map, nat_lt, option_and_then, position, refl, slice_get, true, ◌&&◌, ◌++◌, ◌<◌, ◌∷◌, ◌≡◌}
use Rattle.std.proofs.Common.{ap, append_assoc, arith, sym, ◌∙◌}
use Rattle.std.proofs.lemmas.Bool.Decides.{nat_tests}
use Rattle.std.proofs.lemmas.List.{length-append}
use Rattle.rx_elem.proofs.Equality.{same_kind-self}
use Rattle.rx_elem.specs.Compare.{node_at, old_nodes}
use Rattle.rx_elem.specs.Elements.{Element, is_present, key_of, kind_of, same_kind}
use Rattle.rx_elem.specs.Identity.{Child, Identity, identified, identities_after, identity_after, is_same_child, same_identity}
use Rattle.rx_elem.specs.Trees.{Forest, Node, child, element_of, elements_in, none, places, vacant}
use Rattle.rx_elem.proofs.Identities.{IsEarlier, child_of, earlier_differs, earlier_more, own_earlier, same_ids, same_self}
use Rattle.rx_elem.specs.Elements as elements

-- Positions

-- a test that fails at each
abbrev NoneIs : (Child → Bool) → List Child → Type 0
NoneIs test [] = Unit {0}
NoneIs test (c ∷ cs) = (test c ≡ false) × NoneIs test cs

first_place : (test : Child → Bool) (before : List Child) (c : Child) (after : List Child) → NoneIs test before → test c ≡ true
    → position_or_len test (before ++ c ∷ after) ≡ length before
first_place test [] c after h k = rw k refl
first_place test (b ∷ bs) c after h k = rw h.0 (omega (arith, first_place test bs c after h.1 k))

first_position : (test : Child → Bool) (before : List Child) (c : Child) (after : List Child) → NoneIs test before → test c ≡ true
    → position test (before ++ c ∷ after) ≡ Some (length before)
first_position test before c after h k =
    let less : length before < length (before ++ c ∷ after) = rw length-append (omega arith) in
    let passes : nat_lt (length before) (length (before ++ c ∷ after)) ≡ true = grind (arith, nat_tests) in
    rw (first_place test before c after h k, passes) refl

no_place : (test : Child → Bool) (cs : List Child) → NoneIs test cs → position_or_len test cs ≡ length cs
no_place test [] h = refl
no_place test (c ∷ cs) h = rw h.0 (omega (arith, no_place test cs h.1))

no_position : (test : Child → Bool) (cs : List Child) → NoneIs test cs → position test cs ≡ None
no_position test cs h =
    let fails : nat_lt (length cs) (length cs) ≡ false = grind (arith, nat_tests) in
    rw (no_place test cs h, fails) refl

get_there : (before : List (Option Node)) (x : Option Node) (after : List (Option Node)) → slice_get (before ++ x ∷ after) (length before) ≡ Some x
get_there [] x after = refl
get_there (b ∷ bs) x after = get_there bs x after

-- Kinds and identities

abbrev AllEarlier : List Child → List Element → Type 0
AllEarlier [] before = Unit {0}
AllEarlier (c ∷ cs) before = IsEarlier c.identity before × AllEarlier cs before

all_earlier_more : (cs : List Child) (before : List Element) (e : Element) → AllEarlier cs before → AllEarlier cs (before ++ e ∷ [])
all_earlier_more [] before e h = tt
all_earlier_more (c ∷ cs) before e h = (earlier_more c.identity before e h.0, all_earlier_more cs before e h.1)

all_earlier_and : (cs : List Child) (c : Child) (before : List Element) → AllEarlier cs before → IsEarlier c.identity before → AllEarlier (cs ++ c ∷ []) before
all_earlier_and [] c before h k = (k, tt)
all_earlier_and (b ∷ bs) c before h k = (h.0, all_earlier_and bs c before h.1 k)

and_false : (b : Bool) → (b && false) ≡ false
and_false true = refl
and_false false = refl

-- a child isn't one of those before it
none_before : (cs : List Child) (before : List Element) (e : Element) → AllEarlier cs before
    → NoneIs (is_same_child (record { identity = identity_after before (key_of e); element = e })) cs
none_before [] before e h = tt
none_before (c ∷ cs) before e h = (go (same_identity (identity_after before (key_of e)) c.identity) refl, none_before cs before e h.1)
  where
    go : (b : Bool) → same_identity (identity_after before (key_of e)) c.identity ≡ b → (b && same_kind (kind_of e) (kind_of c.element)) ≡ false
    go true k = absurd (earlier_differs c.identity before (key_of e) h.0 (sym (same_ids (identity_after before (key_of e)) c.identity k)))
    go false k = refl

-- null is no child of any list
null_nowhere : (i : Identity) (cs : List Child) → NoneIs (is_same_child (record { identity = i; element = elements.null })) cs
null_nowhere i [] = tt
null_nowhere i (c ∷ cs) = (and_false (same_identity i c.identity), null_nowhere i cs)

-- The list against itself

-- no node of a list is one of null
abbrev pub NoNull : Forest → Type 0
NoNull none = Unit {0}
NoNull (vacant ns) = NoNull ns
NoNull (child n ns) = (is_present (element_of n) ≡ true) × NoNull ns

abbrev kids : List Element → Forest → List Child
kids before ns = map child_of (zip (identities_after before (elements_in ns)) (elements_in ns))

abbrev found_in : Forest → List Child → Child → Option Node
found_in whole all c = option_and_then (node_at whole) (position (is_same_child c) all)

walk : (whole : Forest) (all : List Child) (before : List Element) (cs : List Child) (olds : List (Option Node)) → length cs ≡ length olds → AllEarlier cs before
    → (ns : Forest) → NoNull ns → places whole ≡ olds ++ places ns → all ≡ cs ++ kids before ns
    → map (option_and_then (node_at whole)) (map (λ c. position (is_same_child c) all) (kids before ns)) ≡ places ns
walk whole all before cs olds len earlier none no_null same split = refl
walk whole all before cs olds len earlier (vacant ns) no_null same split =
    let c : Child = record { identity = identity_after before None; element = elements.null } in
    let here : position (is_same_child c) all ≡ None = no_position (is_same_child c) all (null_nowhere (identity_after before None) all) in
    let rest : map (option_and_then (node_at whole)) (map (λ d. position (is_same_child d) all) (kids (before ++ elements.null ∷ []) ns)) ≡ places ns =
    walk whole all (before ++ elements.null ∷ []) (cs ++ c ∷ []) (olds ++ None ∷ [])
    (rw (length-append, length-append) (omega arith))
    (all_earlier_and cs c (before ++ elements.null ∷ []) (all_earlier_more cs before elements.null earlier) (own_earlier before elements.null None refl))
    ns no_null
    (same ∙ sym (append_assoc olds (None ∷ []) (places ns)))
    (split ∙ sym (append_assoc cs (c ∷ []) (kids (before ++ elements.null ∷ []) ns))) in
    rw (here, rest) refl
walk whole all before cs olds len earlier (child n ns) no_null same split =
    let c : Child = record { identity = identity_after before (key_of (element_of n)); element = element_of n } in
    let itself : is_same_child c c ≡ true = rw (same_self c.identity, same_kind-self (element_of n) no_null.0) refl in
    let there : position (is_same_child c) (cs ++ c ∷ kids (before ++ element_of n ∷ []) ns) ≡ Some (length cs) =
    first_position (is_same_child c) cs c (kids (before ++ element_of n ∷ []) ns) (none_before cs before (element_of n) earlier) itself in
    let here : position (is_same_child c) all ≡ Some (length cs) = rw split there in
    let old : slice_get (places whole) (length cs) ≡ Some (Some n) = rw (same, len) (get_there olds (Some n) (places ns)) in
    let found : option_and_then (node_at whole) (position (is_same_child c) all) ≡ Some n = rw here (ap option_flatten old) in
    let rest : map (option_and_then (node_at whole)) (map (λ d. position (is_same_child d) all) (kids (before ++ element_of n ∷ []) ns)) ≡ places ns =
    walk whole all (before ++ element_of n ∷ []) (cs ++ c ∷ []) (olds ++ Some n ∷ [])
    (rw (length-append, length-append) (omega arith))
    (all_earlier_and cs c (before ++ element_of n ∷ []) (all_earlier_more cs before (element_of n) earlier) (own_earlier before (element_of n) (key_of (element_of n)) refl))
    ns no_null.1
    (same ∙ sym (append_assoc olds (Some n ∷ []) (places ns)))
    (split ∙ sym (append_assoc cs (c ∷ []) (kids (before ++ element_of n ∷ []) ns))) in
    rw (found, rest) refl

-- Against elements that are its own, each node of a list is found at its own place.
pub matches_itself : (ns : Forest) → NoNull ns → old_nodes ns (elements_in ns) ≡ places ns
matches_itself ns h = walk ns (identified (elements_in ns)) [] [] [] refl tt ns h refl refl
