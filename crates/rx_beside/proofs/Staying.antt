-- What is left of two lists whose children stand where they stood.
use Rattle.std.proofs.Common.{◌≡◌, suc, Bool, true, false, ◌||◌, List, [], ◌∷◌, ◌++◌, All, refl, sym, ap, ◌∙◌, subst, arith, Option, Some, None, IfSome}
use Rattle.rx_elem.specs.Elements.{Element}
use Rattle.rx_elem.specs.Trees.{Mark, Node, node, Forest, forest, element_of}
use Rattle.rx_elem.specs.Trees as trees
use Rattle.rx_elem.proofs.Equality.{same_kind-self}
use Rattle.rx_links.specs.Drafts.{Trees}
use Rattle.rx_fiber.specs.Fibers.{Fiber}
use Rattle.rx_pruned.specs.Pruned.{StaysBare, Pruned, PrunedInPlace, each, through, PrunedIn}
use Rattle.rx_pruned.specs.Pruned as pruned
use Rattle.rx_compare.specs.InPlace.{IsInPlace, stayed}
use Rattle.rx_compare.specs.InPlace as places
use Rattle.rx_read.specs.Lists.{list_of}
use Rattle.rx_read.specs.Places.{first_node}
use Rattle.rx_beside.specs.declared.places.Pair.{Pair}
use Rattle.rx_beside.specs.Pairs.{AreSame, IsPair, StandsInPlace, AreInPlace, no_more, gap, left, pair, IsPruned, PassesTo, ArePruned}
use Rattle.rx_beside.specs.Pairs as pairs
use Rattle.rx_beside.proofs.Walking.{same_element, same_new_element}

or_false : (d : Bool) → (d || false) ≡ d
or_false true = refl
or_false false = refl

pruned_in_place : (d : Bool) (o n p q : Node) → IsInPlace (element_of o) (element_of n) → Pruned d o n p q → IsInPlace (element_of p) (element_of q)
pruned_in_place d o n p q h is =
    subst (λ x. IsInPlace x (element_of q)) (sym (same_element d o n p q is)) (subst (IsInPlace (element_of o)) (sym (same_new_element d o n p q is)) h)

module _ (t : Trees Fiber) (d : Bool) where
  left_of : (os ns : List (Option Node)) (cs : List (Option Pair)) (ps qs : List (Option Node)) → AreInPlace t d os ns cs → ArePruned t d cs ps qs
      → places.AreInPlace (forest os) (forest ns) × places.AreInPlace (forest ps) (forest qs) × PrunedIn d (stayed (forest os)) (forest ns) (stayed (forest ps)) (forest qs)
  left_of _ _ _ _ _ no_more pairs.no_more = (tt, tt, pruned.no_more)
  left_of _ _ _ _ _ (gap {os = os} {ns = ns} {cs = cs} a) (pairs.gap {ps = ps} {qs = qs} b) = let r = left_of os ns cs ps qs a b in (r.0, r.1, pruned.gap r.2)
  left_of _ _ cs ps qs (left {n = n} {os = os} {ns = ns} still present a) b =
      let r = left_of os ns cs ps qs a b in
      ((record { key = refl; kind = same_kind-self (element_of n) present }, r.0), r.1, pruned.left still r.2)
  left_of _ _ _ _ _ (pair {o = o} {n = n} {os = os} {ns = ns} {cs = cs} was is same a) (pairs.pair {p = p} {q = q} {ps = ps} {qs = qs} h b) =
      let r = left_of os ns cs ps qs a b in
      let one = h o n was is in
      ((same, r.0), (pruned_in_place d o n p q same one, r.1), pruned.pair (subst (λ e. Pruned e o n p q) (sym (or_false d)) one) r.2)
  left_of _ _ _ _ _ (pair {o = o} {n = n} {os = os} {ns = ns} was is same a) (pairs.left {cs = cs} {ps = ps} {qs = qs} still equal b) =
      let r = left_of os ns cs ps qs a b in
      let e : Some n ≡ Some o = sym is ∙ (equal ∙ was) in
      let k : n ≡ o = cc in
      ((same, r.0), r.1, subst (λ m. PrunedIn d (stayed (forest (Some o ∷ os))) (forest (Some m ∷ ns)) (stayed (forest ps)) (forest qs)) (sym k) (pruned.left still r.2))

  -- Both lists without what is left out
  pub lists_left : (os ns : List (Option Node)) (cs : List (Option Pair)) (ps qs : List (Option Node)) → AreInPlace t d os ns cs → ArePruned t d cs ps qs
      → PrunedInPlace d (forest os) (forest ns) (forest ps) (forest qs)
  lists_left os ns cs ps qs a b = let r = left_of os ns cs ps qs a b in each r.0 r.1 r.2

  -- lists of which each pair is the same are the same
  pub all_same : (os ns : List (Option Node)) (cs : List (Option Pair)) → AreInPlace t d os ns cs → All (λ o. IfSome o (AreSame t)) cs → ns ≡ os
  all_same _ _ _ no_more all = refl
  all_same _ _ _ (gap {os = os} {ns = ns} {cs = cs} a) all = ap (λ l. None ∷ l) (all_same os ns cs a (λ k x l. all (suc k) x (omega arith)))
  all_same _ _ cs (left {n = n} {os = os} {ns = ns} still present a) all = ap (λ l. Some n ∷ l) (all_same os ns cs a all)
  all_same _ _ _ (pair {c = c} {os = os} {ns = ns} {cs = cs} was is same a) all =
      let here : AreSame t c = all 0 None (omega arith) in
      let one = sym is ∙ (here ∙ was) in
      λ i. one i ∷ all_same os ns cs a (λ k x l. all (suc k) x (omega arith)) i

  one_more : (cs : List (Option Pair)) (ps qs : List (Option Node)) (c : Option Pair) (xs ys : List (Option Node)) → ArePruned t d cs ps qs → ArePruned t d (c ∷ []) xs ys
      → ArePruned t d (cs ++ c ∷ []) (ps ++ xs) (qs ++ ys)
  one_more _ _ _ c xs ys pairs.no_more h = h
  one_more _ _ _ c xs ys (pairs.gap {cs = cs} {ps = ps} {qs = qs} a) h = pairs.gap (one_more cs ps qs c xs ys a h)
  one_more _ _ _ c xs ys (pairs.pair {cs = cs} {ps = ps} {qs = qs} g a) h = pairs.pair g (one_more cs ps qs c xs ys a h)
  one_more _ _ _ c xs ys (pairs.left {cs = cs} {ps = ps} {qs = qs} still equal a) h = pairs.left still equal (one_more cs ps qs c xs ys a h)

  -- one pair more
  pub more_by : (cs cs2 : List (Option Pair)) (ps ps2 qs qs2 : List (Option Node)) (c : Option Pair) (xs ys : List (Option Node)) → cs2 ≡ cs ++ c ∷ [] → ps2 ≡ ps ++ xs → qs2 ≡ qs ++ ys
      → ArePruned t d cs ps qs → ArePruned t d (c ∷ []) xs ys → ArePruned t d cs2 ps2 qs2
  more_by cs cs2 ps ps2 qs qs2 c xs ys e f g a h = rw (e, f, g) (one_more cs ps qs c xs ys a h)

  pub none_by : (ps qs : List (Option Node)) → ps ≡ [] → qs ≡ [] → ArePruned t d [] ps qs
  none_by ps qs e f = rw (e, f) pairs.no_more

  module _ (c : Pair) (is : IsPair t c) where
    -- an only child that is left out
    pub alone_left : d ≡ false → AreSame t c → StandsInPlace t c
        → PrunedInPlace d (forest (first_node (list_of t (Some c.old)) ∷ [])) (forest (first_node (list_of t (Some c.new)) ∷ [])) trees.none trees.none
    alone_left still equal same =
        subst (λ o. PrunedInPlace d (forest (o ∷ [])) (forest (first_node (list_of t (Some c.new)) ∷ [])) trees.none trees.none) (sym is.was.stands)
        (subst (λ o. PrunedInPlace d (forest (Some is.was.node ∷ [])) (forest (o ∷ [])) trees.none trees.none) (sym is.is.stands)
        (lists_left _ _ _ [] [] (pair {c = c} is.was.stands is.is.stands (same is.was.node is.is.node is.was.stands is.is.stands) no_more) (pairs.left still equal pairs.no_more)))

    -- one that is not
    pub alone_pair : (p q : Node) → StandsInPlace t c → IsPruned t d c p q
        → PrunedInPlace d (forest (first_node (list_of t (Some c.old)) ∷ [])) (forest (first_node (list_of t (Some c.new)) ∷ [])) (forest (Some p ∷ [])) (forest (Some q ∷ []))
    alone_pair p q same h =
        subst (λ o. PrunedInPlace d (forest (o ∷ [])) (forest (first_node (list_of t (Some c.new)) ∷ [])) (forest (Some p ∷ [])) (forest (Some q ∷ []))) (sym is.was.stands)
        (subst (λ o. PrunedInPlace d (forest (Some is.was.node ∷ [])) (forest (o ∷ [])) (forest (Some p ∷ [])) (forest (Some q ∷ []))) (sym is.is.stands)
        (lists_left _ _ _ (Some p ∷ []) (Some q ∷ []) (pair is.was.stands is.is.stands (same is.was.node is.is.node is.was.stands is.is.stands) no_more) (pairs.pair h pairs.no_more)))

-- an instance that stays and has no effects, over an only child
pub through_by : (o n a b : Option Node) (e f : Element) (m w : Mark) (os ns : List (Option Node)) → o ≡ Some (node e m (forest os) trees.none) → n ≡ Some (node f w (forest ns) trees.none)
    → os ≡ a ∷ [] → ns ≡ b ∷ [] → StaysBare m w → ((x y : Node) → o ≡ Some x → n ≡ Some y → IsInPlace (element_of x) (element_of y))
    → (ps qs : Forest) → PrunedInPlace false (forest (a ∷ [])) (forest (b ∷ [])) ps qs → PrunedInPlace false (forest (o ∷ [])) (forest (n ∷ [])) ps qs
through_by o n a b e f m w os ns eo en ea eb bare same ps qs h =
    let stands = same _ _ eo en in
    subst (λ x. PrunedInPlace false (forest (x ∷ [])) (forest (n ∷ [])) ps qs) (sym eo)
    (subst (λ y. PrunedInPlace false (forest (Some (node e m (forest os) trees.none) ∷ [])) (forest (y ∷ [])) ps qs) (sym en)
    (through bare stands
    (subst (λ l. PrunedInPlace false (forest l) (forest ns) ps qs) (sym ea) (subst (λ l. PrunedInPlace false (forest (a ∷ [])) (forest l) ps qs) (sym eb) h))))
