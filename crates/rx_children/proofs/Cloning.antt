-- Clones of an old list are the fibers of its nodes, each for itself.
use Rattle.std.specs.Prelude.{◌≡◌, ℕ, ℤ, zero, suc, ◌+◌, ◌-◌, Bool, true, false, List, ◌∷◌, ◌++◌, map, Option, Some, None, IfSome}
use Rattle.std.specs.Option.{option_map_or}
use Rattle.std.specs.List.{zip}
use Rattle.std.proofs.Common.{refl, sym, ap, subst}
use Rattle.rx_elem.specs.Elements.{Element}
use Rattle.rx_elem.specs.Elements as elements
use Rattle.rx_elem.specs.Compare.{old_nodes}
use Rattle.rx_elem.specs.Trees.{Node, Forest, element_of, elements_in, places}
use Rattle.rx_elem.specs.Trees as trees
use Rattle.rx_elem.proofs.SelfMatch.{NoNull, matches_itself}
use Rattle.rx_lists.specs.Shapes.{Shape, none, fiber, first, Holds}
use Rattle.rx_lists.specs.Shapes as shapes
use Rattle.rx_links.specs.Drafts.{Draft, taken}
use Rattle.rx_links.specs.Readers.{value_in, list_from, IsLinked}
use Rattle.rx_fiber.specs.Fibers.{Fiber}
use Rattle.rx_fiber.specs.OldLists.{is_fallback, filled, spread, old_elements, old_fibers}
use Rattle.rx_fiber.specs.Reading.{AreFor, no_more, gap, next, IsOld, of}
use Rattle.rx_fiber.specs.Surround.{AreNext}
use Rattle.rx_fiber.specs.Surround as surround
use Rattle.rx_fiber.proofs.OldLists.{IsListIn, list_is, rest_listed, list_begins, spread_gap, spread_node, IsListFor}
use Rattle.rx_fiber.proofs.Matching.{at_first, rest_in}
use Rattle.rx_children.specs.Children.{element_or_null}
use Rattle.rx_children.proofs.Waiting.{AreWaiting}
use Rattle.rx_children.proofs.Waiting as waiting

-- What an old list tells

own_element : (c : Shape Fiber) (id : ℕ) (v : Fiber) (ks rs : Shape Fiber) → IsListIn c (fiber id v ks rs) → element_or_null c (Some id) ≡ v.element
own_element c id v ks rs l = ap (λ x. option_map_or (λ u. u.element) (value_in x) elements.null) (list_is c id v ks rs l)

elements_behind : (c : Shape Fiber) (k : ℕ) (o : Option ℕ) (os : List (Option ℕ)) (e : Element) (es : List Element) → element_or_null c o ≡ e → map (element_or_null c) os ≡ es
    → map (element_or_null c) (filled k None ++ o ∷ os) ≡ filled k elements.null ++ e ∷ es
elements_behind c zero o os e es here more = rw (here, more) refl
elements_behind c (suc k) o os e es here more = ap (λ l. elements.null ∷ l) (elements_behind c k o os e es here more)

elements_from : (c : Shape Fiber) → IsLinked c → (n : ℕ) (s : Shape Fiber) → IsListIn c s
    → map (element_or_null c) (spread None (λ id v. Some id) n s) ≡ spread elements.null (λ id v. v.element) n s
elements_from c linked n none l = refl
elements_from c linked n (fiber id v ks rs) l =
    by_stage (is_fallback v.stage) refl (λ m. elements_from c linked m rs (rest_listed c id v ks rs linked l))
  where
    by_stage : (b : Bool) → is_fallback v.stage ≡ b
        → ((m : ℕ) → map (element_or_null c) (spread None (λ id v. Some id) m rs) ≡ spread elements.null (λ id v. v.element) m rs)
        → map (element_or_null c) (spread None (λ id v. Some id) n (fiber id v ks rs)) ≡ spread elements.null (λ id v. v.element) n (fiber id v ks rs)
    by_stage true f rec = rw f (rec n)
    by_stage false f rec =
        let k : ℕ = v.place - n in
        rw f (elements_behind c k (Some id) (spread None (λ id v. Some id) (suc (n + k)) rs) v.element (spread elements.null (λ id v. v.element) (suc (n + k)) rs) (own_element c id v ks rs l) (rec (suc (n + k))))

from_listed : (c : Shape Fiber) → IsLinked c → (o : Option ℕ) → IfSome o (Holds c) → IsListIn c (list_from c o)
from_listed c linked None h = refl
from_listed c linked (Some i) h = let (v, is, f) = linked.list i h in ap (λ x. list_from c x) (ap first f)

-- The elements of a list that is told are those of its fibers.
pub list_elements : (c : Shape Fiber) → IsLinked c → (o : Option ℕ) → IfSome o (Holds c) → map (element_or_null c) (old_fibers (list_from c o)) ≡ old_elements (list_from c o)
list_elements c linked o h = elements_from c linked 0 (list_from c o) (from_listed c linked o h)

-- The children that begin next

module _ (c : Shape Fiber) (linked : IsLinked c) (ms : List ℕ) (ws : List (ℕ × ℤ)) where
  past_gap : (n : ℕ) (es : List Element) (os : List (Option ℕ)) (d : Draft Fiber) → AreWaiting c ms ws n (elements.null ∷ es) (None ∷ os) d → AreWaiting c ms ws (suc n) es os d
  past_gap n es os d (waiting.gap null more) = more
  past_gap n es os _ (waiting.next there waits more) = absurd (let q : ⊥ = cc in q)

  by_first : (n id : ℕ) (x : Node) (s rest : Shape Fiber) (ns : Forest) (es : List Element) (os : List (Option ℕ)) (d : Draft Fiber) → IsOld c (Some id) (Some x)
      → ((d : Draft Fiber) → AreWaiting c ms ws (suc n) es os d → AreNext c ms ws (suc n) (zip (elements_in ns) (places ns)) d) → AreWaiting c ms ws n (element_of x ∷ es) (Some id ∷ os) d
      → AreNext c ms ws n (zip (elements_in (trees.child x ns)) (places (trees.child x ns))) d
  by_first n id x s rest ns es os d is rec (waiting.gap null more) = surround.gap null (rec d more)
  by_first n id x s rest ns es os _ is rec (waiting.next {d = d} there waits more) = surround.next there waits is (rec d more)

  clones_next : (n : ℕ) (ns : Forest) (s : Shape Fiber) → AreFor n ns s → IsListIn c s → (d : Draft Fiber)
      → AreWaiting c ms ws n (spread elements.null (λ id v. v.element) n s) (spread None (λ id v. Some id) n s) d → AreNext c ms ws n (zip (elements_in ns) (places ns)) d
  clones_next n _ _ no_more l _ waiting.no_more = surround.no_more
  clones_next n (trees.vacant ns) none (gap a) l _ waiting.no_more = surround.gap refl (clones_next (suc n) ns none a l (taken shapes.none) waiting.no_more)
  clones_next n (trees.vacant ns) (fiber id v ks rs) (gap a) l d are =
      let e = spread_gap elements.null (λ id v. v.element) n id v ks rs (list_begins (suc n) ns (fiber id v ks rs) a) in
      let f = spread_gap None (λ id v. Some id) n id v ks rs (list_begins (suc n) ns (fiber id v ks rs) a) in
      surround.gap refl
      (clones_next (suc n) ns (fiber id v ks rs) a l d
      (past_gap n (spread elements.null (λ id v. v.element) (suc n) (fiber id v ks rs)) (spread None (λ id v. Some id) (suc n) (fiber id v ks rs)) d
      (subst (λ x. AreWaiting c ms ws n x (None ∷ spread None (λ id v. Some id) (suc n) (fiber id v ks rs)) d) e
      (subst (λ x. AreWaiting c ms ws n (spread elements.null (λ id v. v.element) n (fiber id v ks rs)) x d) f are))))
  clones_next n (trees.child x ns) s (next {rest = rest} is a) l d are =
      let (jd, u, h, same, e) = spread_node elements.null (λ id v. v.element) n x s rest is in
      let (id, v, f, _, g) = spread_node None (λ id v. Some id) n x s rest is in
      by_first n id x s rest ns (spread elements.null (λ id v. v.element) (suc n) rest) (spread None (λ id v. Some id) (suc n) rest) d (of (at_first c s id l f) f (next is a))
      (clones_next (suc n) ns rest a (rest_in c linked n x s rest is l))
      (subst (λ y. AreWaiting c ms ws n (y ∷ spread elements.null (λ id v. v.element) (suc n) rest) (Some id ∷ spread None (λ id v. Some id) (suc n) rest) d) same
      (subst (λ y. AreWaiting c ms ws n y (Some id ∷ spread None (λ id v. Some id) (suc n) rest) d) e
      (subst (λ y. AreWaiting c ms ws n (spread elements.null (λ id v. v.element) n s) y d) g are)))

  -- Clones of a list begin next if its nodes are matched with their own elements.
  pub kept_next : (ns : Forest) (s : Shape Fiber) → IsListFor c ns s → NoNull ns → (d : Draft Fiber) → AreWaiting c ms ws 0 (old_elements s) (old_fibers s) d
      → AreNext c ms ws 0 (zip (elements_in ns) (old_nodes ns (elements_in ns))) d
  kept_next ns s list no_null d are =
      subst (λ xs. AreNext c ms ws 0 (zip (elements_in ns) xs) d) (sym (matches_itself ns no_null)) (clones_next 0 ns s list.are list.listed d are)
