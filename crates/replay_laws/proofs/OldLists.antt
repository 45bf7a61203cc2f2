-- The old nodes of a list of children: what holds of each old child holds of each of them.
use Rattle.std.specs.Prelude.{◌≡◌, ℕ, zero, suc, ◌+◌, Bool, true, false, ◌||◌, List, [], ◌∷◌, ◌++◌, Option, Some, None, map, nat_eq, position, option_and_then, slice_get, refl}
use Rattle.std.specs.List.{zip}
use Rattle.std.specs.Option.{option_flatten}
use Rattle.std.proofs.Common.{sym, ap, subst, arith}
use Rattle.std.proofs.lemmas.Bool.Decides.{Decides-eqb}
use Rattle.rx_elem.specs.Elements.{Element, key_of, kind_of, is_present, same_kind}
use Rattle.rx_elem.specs.Elements as elements
use Rattle.rx_elem.specs.Identity.{Identity, Child, identities_after, identity_after, identified, is_same_child, is_reused}
use Rattle.rx_elem.specs.Trees.{Node, Forest, none, vacant, child, places, element_of, elements_in}
use Rattle.rx_elem.specs.Compare.{old_nodes, node_at}
use Rattle.rx_elem.proofs.Equality.{same_kind-self}
use Rattle.host_laws.proofs.IdentityLaws.{same_identity_self, position_is_the_one}
use Rattle.host_laws.proofs.Fronts.{null_was_nothing}
use Rattle.replay_laws.proofs.Growing.{first, rest}

-- Each of the old nodes

-- if there is an old node
abbrev pub IfOld : (Node → Type 0) → Option Node → Type 0
IfOld Q None = Unit {0}
IfOld Q (Some o) = Q o

abbrev pub EachOld : (Node → Type 0) → List (Option Node) → Type 0
EachOld Q [] = Unit {0}
EachOld Q (o ∷ os) = IfOld Q o × EachOld Q os

abbrev pub EachIn : (Node → Type 0) → Forest → Type 0
EachIn Q none = Unit {0}
EachIn Q (vacant ns) = EachIn Q ns
EachIn Q (child x ns) = Q x × EachIn Q ns

got_old : (Q : Node → Type 0) (os : Forest) → EachIn Q os → (i : ℕ) → IfOld Q (option_flatten (slice_get (places os) i))
got_old Q none h i = tt
got_old Q (vacant os) h zero = tt
got_old Q (vacant os) h (suc i) = got_old Q os h i
got_old Q (child o os) h zero = h.0
got_old Q (child o os) h (suc i) = got_old Q os h.1 i

pub each_old : (Q : Node → Type 0) (os : Forest) → EachIn Q os → (ps : List (Option ℕ)) → EachOld Q (map (option_and_then (node_at os)) ps)
each_old Q os h [] = tt
each_old Q os h (None ∷ ps) = (tt, each_old Q os h ps)
each_old Q os h (Some p ∷ ps) = (got_old Q os h p, each_old Q os h ps)

pub first_each : (Q : Node → Type 0) (os : List (Option Node)) → EachOld Q os → IfOld Q (first os)
first_each Q [] h = tt
first_each Q (o ∷ os) h = h.0

pub rest_each : (Q : Node → Type 0) (os : List (Option Node)) → EachOld Q os → EachOld Q (rest os)
rest_each Q [] h = tt
rest_each Q (o ∷ os) h = h.1

-- an old child that is a new one is among the old nodes
pub reused_old : (Q : Node → Type 0) (os : Forest) (ps : List (Option ℕ)) (q : ℕ) → EachOld Q (map (option_and_then (node_at os)) ps) → is_reused ps q ≡ true → IfOld Q (node_at os q)
reused_old Q os [] q h r = absurd (cc)
reused_old Q os (None ∷ ps) q h r = reused_old Q os ps q h.1 r
reused_old Q os (Some p ∷ ps) q h r = go (reused_old Q os ps q h.1) (nat_eq q p) refl r
  where
    go : (is_reused ps q ≡ true → IfOld Q (node_at os q)) → (b : Bool) → nat_eq q p ≡ b → (b || is_reused ps q) ≡ true → IfOld Q (node_at os q)
    go later true e k = subst (λ p. IfOld Q (node_at os p)) (sym ((Decides-eqb q p).0 e)) h.0
    go later false e k = later k

-- The old nodes stand beside the new ones

-- a place without a child has no old node
abbrev pub StandBeside : List (Option Node) → Forest → Type 0
StandBeside os none = os ≡ []
StandBeside os (vacant ns) = (first os ≡ None) × StandBeside (rest os) ns
StandBeside os (child x ns) = StandBeside (rest os) ns

stand_after : (os : Forest) (find : Child → Option ℕ) → ((i : Identity) → find (record { identity = i; element = elements.null }) ≡ None) → (before : List Element) (ns : Forest)
    → StandBeside (map (option_and_then (node_at os)) (map find (map (λ c. record { identity = c.0; element = c.1 }) (zip (identities_after before (elements_in ns)) (elements_in ns))))) ns
stand_after os find blank before none = refl
stand_after os find blank before (vacant ns) =
    (ap (option_and_then (node_at os)) (blank (identity_after before None)), stand_after os find blank (before ++ elements.null ∷ []) ns)
stand_after os find blank before (child x ns) = stand_after os find blank (before ++ element_of x ∷ []) ns

pub stand_beside : (os ns : Forest) → StandBeside (old_nodes os (elements_in ns)) ns
stand_beside os ns =
    stand_after os (λ c. position (is_same_child c) (identified (elements_in os))) (null_was_nothing (identified (elements_in os))) [] ns

-- Children that are the old ones

-- each child of a list stands for a node
abbrev pub NoNull : Forest → Type 0
NoNull = EachIn (λ x. is_present (element_of x) ≡ true)

finds_itself : (whole : Forest) (before : List Element) (p : ℕ) (ns : Forest) → NoNull ns
    → ((i q : ℕ) → q ≡ p + i → (c : Child)
    → slice_get (map (λ c. let d : Child = record { identity = c.0; element = c.1 } in d) (zip (identities_after before (elements_in ns)) (elements_in ns))) i ≡ Some c
    → slice_get (identified (elements_in whole)) q ≡ Some c)
    → ((i q : ℕ) → q ≡ p + i → node_at whole q ≡ option_flatten (slice_get (places ns) i))
    → map (option_and_then (node_at whole)) (map (λ c. position (is_same_child c) (identified (elements_in whole)))
    (map (λ c. let d : Child = record { identity = c.0; element = c.1 } in d) (zip (identities_after before (elements_in ns)) (elements_in ns))))
    ≡ places ns
finds_itself whole before p none no_null ids at = refl
finds_itself whole before p (vacant ns) no_null ids at =
    let blank = null_was_nothing (identified (elements_in whole)) (identity_after before None) in
    let later = finds_itself whole (before ++ elements.null ∷ []) (p + 1) ns no_null (λ i q e. ids (suc i) q (omega arith)) (λ i q e. at (suc i) q (omega arith)) in
    rw (blank, later) refl
finds_itself whole before p (child x ns) no_null ids at =
    let c : Child = record { identity = identity_after before (key_of (element_of x)); element = element_of x } in
    let itself : is_same_child c c ≡ true = rw (same_identity_self c.identity, same_kind-self (element_of x) no_null.0) refl in
    let here : position (is_same_child c) (identified (elements_in whole)) ≡ Some p =
    position_is_the_one (elements_in whole) c p c (ids 0 p (omega arith) c refl) itself in
    let later = finds_itself whole (before ++ element_of x ∷ []) (p + 1) ns no_null.1 (λ i q e. ids (suc i) q (omega arith)) (λ i q e. at (suc i) q (omega arith)) in
    rw (here, at 0 p (omega arith), later) refl

-- against their own elements, children are found at their own places
pub children_find_themselves : (ns : Forest) → NoNull ns → old_nodes ns (elements_in ns) ≡ places ns
children_find_themselves ns no_null =
    finds_itself ns [] 0 ns no_null (λ i q e c h. let same : i ≡ q = omega arith in subst (λ j. slice_get (identified (elements_in ns)) j ≡ Some c) same h)
    (λ i q e. let same : q ≡ i = omega arith in ap (node_at ns) same)
