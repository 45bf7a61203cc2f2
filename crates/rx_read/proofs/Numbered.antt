-- The fibers of a tree with its new numbers stand for the tree with these.
use Rattle.std.specs.Prelude.{◌||◌}
use Rattle.std.proofs.Common.{◌≡◌, ℕ, suc, eqb, Bool, true, false, refl, sym, ap, ◌∙◌, subst, Option, Some, None}
use Rattle.rx_base.specs.Awaits.{Awaits}
use Rattle.rx_elem.specs.Elements.{Element}
use Rattle.rx_elem.specs.Trees.{Mark, of_instance, of_host, of_boundary, of_catcher, plain, Instance, Node, node, Forest, vacant, child, is_caught, is_hidden, shows_fallback, awaits_in}
use Rattle.rx_elem.specs.Trees as trees
use Rattle.rx_elem.specs.Numbers.{Numbers, numbered_instance, numbered_mark, numbered, numbered_in}
use Rattle.commit_laws.specs.HiddenWaits.{IsNumbered, Numbered, AllNumbered, IfNumbered}
use Rattle.rx_lists.specs.Shapes.{Shape, none, fiber}
use Rattle.rx_links.specs.Drafts.{Draft, taken, made, Trees, Fits, grafted, list_at}
use Rattle.rx_links.specs.Readers.{IsLinked}
use Rattle.rx_fiber.specs.Fibers.{Stage, Fiber, waiting, begun, trying, guarding, fallback}
use Rattle.rx_fiber.specs.Reading.{has_node, IsOf, AreFor, no_more, gap, next, IsFor, whole, alone, beside, IsTreeOf}
use Rattle.rx_fiber.proofs.OldLists.{IsListIn, list_is}
use Rattle.rx_read.specs.Numbering.{numbered_at, numbered_fiber, numbered_draft, IsAllNumbered}
use Rattle.rx_read.proofs.Links.{IsKept, draft_kept}

-- Fibers with numbers

-- a fiber of this stage has its number
abbrev HasNumber : Stage → Type 0
HasNumber (waiting c) = Unit {0}
HasNumber (begun m) = IsNumbered m
HasNumber (trying c) = Unit {0}
HasNumber guarding = Unit {0}
HasNumber (fallback a) = Unit {0}

-- so has each fiber of a list
abbrev HaveNumbers : Shape Fiber → Type 0
HaveNumbers none = Unit {0}
HaveNumbers (fiber id v ks rs) = HasNumber v.stage × HaveNumbers ks × HaveNumbers rs

-- a list with the numbers that it lacks
abbrev numbered_list : Numbers → Shape Fiber → Numbers × Shape Fiber
numbered_list n none = (n, none)
numbered_list n (fiber id v ks rs) =
    let own = numbered_fiber n v in
    let lower = numbered_list own.0 ks in
    let behind = numbered_list lower.0 rs in
    (behind.0, fiber id own.1 lower.1 behind.1)

instance_same : (n : Numbers) (i : Instance) (o : Option ℕ) → (k : ℕ) × (o ≡ Some k) → numbered_instance n i o ≡ (n, of_instance i)
instance_same n i None h = let e = h.1 in cc
instance_same n i (Some k) h = refl

mark_same : (n : Numbers) (m : Mark) → IsNumbered m → numbered_mark n m ≡ (n, m)
mark_same n (of_instance i) h = instance_same n i i.number h
mark_same n (of_host None) h = let e = h.1 in cc
mark_same n (of_host (Some k)) h = refl
mark_same n (of_boundary b) h = refl
mark_same n (of_catcher c) h = refl
mark_same n plain h = refl

fiber_same : (n : Numbers) (v : Fiber) → HasNumber v.stage → numbered_fiber n v ≡ (n, v)
fiber_same n v h = by_stage v.stage refl h
  where
    by_stage : (s : Stage) → s ≡ v.stage → HasNumber s → numbered_at n v s ≡ (n, v)
    by_stage (waiting c) e h = refl
    by_stage (begun m) e h = ap (λ own. (own.0, record v { stage = begun own.1 })) (mark_same n m h) ∙ ap (λ s. (n, record v { stage = s })) e
    by_stage (trying c) e h = refl
    by_stage guarding e h = refl
    by_stage (fallback a) e h = refl

-- a list with its numbers stays as it is
list_same : (n : Numbers) (s : Shape Fiber) → HaveNumbers s → numbered_list n s ≡ (n, s)
list_same n none h = refl
list_same n (fiber id v ks rs) h =
    let a = fiber_same n v h.0 in
    let b = list_same n ks h.1 in
    let c = list_same n rs h.2 in
    rw (a, b, c) refl

-- each list that was taken over has its numbers
abbrev TakenHave : Draft Fiber → Type 0
TakenHave (taken s) = HaveNumbers s
TakenHave (made id v o ks rs) = TakenHave ks × TakenHave rs

-- so a draft with its numbers is the list with its numbers
draft_list : (n : Numbers) (w : Draft Fiber) → TakenHave w → numbered_list n (grafted w) ≡ ((numbered_draft n w).0, grafted (numbered_draft n w).1)
draft_list n (taken s) h = list_same n s h
draft_list n (made id v o ks rs) h =
    let own = numbered_fiber n v in
    let lower = numbered_draft own.0 ks in
    let a = draft_list own.0 ks h.0 in
    let b = draft_list lower.0 rs h.1 in
    rw (a, b) refl

-- The tree

hidden_same : (n : Numbers) (m : Mark) → is_hidden (numbered_mark n m).1 ≡ is_hidden m
hidden_same n (of_instance i) = by_number i.number
  where
    by_number : (o : Option ℕ) → is_hidden (numbered_instance n i o).1 ≡ false
    by_number None = refl
    by_number (Some k) = refl
hidden_same n (of_host None) = refl
hidden_same n (of_host (Some k)) = refl
hidden_same n (of_boundary b) = refl
hidden_same n (of_catcher c) = refl
hidden_same n plain = refl

caught_same : (n : Numbers) (m : Mark) → is_caught (numbered_mark n m).1 ≡ is_caught m
caught_same n (of_instance i) = by_number i.number
  where
    by_number : (o : Option ℕ) → is_caught (numbered_instance n i o).1 ≡ false
    by_number None = refl
    by_number (Some k) = refl
caught_same n (of_host None) = refl
caught_same n (of_host (Some k)) = refl
caught_same n (of_boundary b) = refl
caught_same n (of_catcher c) = refl
caught_same n plain = refl

falls_same : (n : Numbers) (m : Mark) → shows_fallback (numbered_mark n m).1 ≡ shows_fallback m
falls_same n m = ap (λ b. b || is_caught (numbered_mark n m).1) (hidden_same n m) ∙ ap (λ b. is_hidden m || b) (caught_same n m)

awaits_same : (n : Numbers) (m : Mark) → awaits_in (numbered_mark n m).1 ≡ awaits_in m
awaits_same n (of_instance i) = by_number i.number
  where
    by_number : (o : Option ℕ) → awaits_in (numbered_instance n i o).1 ≡ awaits_in (of_instance i)
    by_number None = refl
    by_number (Some k) = refl
awaits_same n (of_host None) = refl
awaits_same n (of_host (Some k)) = refl
awaits_same n (of_boundary b) = refl
awaits_same n (of_catcher c) = refl
awaits_same n plain = refl

nodes_same : (n : Numbers) (ns : Forest) → has_node (numbered_in n ns).1 ≡ has_node ns
nodes_same n trees.none = refl
nodes_same n (vacant ns) = nodes_same n ns
nodes_same n (child x ns) = refl

-- nothing is numbered if there is no node
none_numbered : (n : Numbers) (ns : Forest) → has_node ns ≡ false → (numbered_in n ns).0 ≡ n
none_numbered n trees.none e = refl
none_numbered n (vacant ns) e = none_numbered n ns e
none_numbered n (child x ns) e = cc

of_numbered : (n : Numbers) (v : Fiber) (p : ℕ) (e : Element) (m : Mark) → IsOf v p e m
    → ((numbered_fiber n v).0 ≡ (numbered_mark n m).0) × IsOf (numbered_fiber n v).1 p e (numbered_mark n m).1
of_numbered n v p e m is =
    subst (λ s. ((numbered_at n v s).0 ≡ (numbered_mark n m).0) × IsOf (numbered_at n v s).1 p e (numbered_mark n m).1) (sym is.stage)
    (refl, record { at = is.at; element = is.element; stage = refl })

-- a list of fibers that stands for these places still does, with the numbers of both
pub record StaysFor (n : Numbers) (p : ℕ) (ns : Forest) (s : Shape Fiber) : Type 0 where
  pub numbers : (numbered_list n s).0 ≡ (numbered_in n ns).0
  pub are : AreFor p (numbered_in n ns).1 (numbered_list n s).1

-- the fibers of a node, before the rest
pub record StaysNode (n : Numbers) (p : ℕ) (x : Node) (s rest : Shape Fiber) : Type 0 where
  pub numbers : (numbered_list n s).0 ≡ (numbered_list (numbered n x).0 rest).0
  pub is : IsFor p (numbered n x).1 (numbered_list n s).1 (numbered_list (numbered n x).0 rest).1

-- the fiber of a fallback has no number
fallback_same : (n : Numbers) (w : Fiber) (a : Awaits) → w.stage ≡ fallback a → numbered_fiber n w ≡ (n, w)
fallback_same n w a e = subst (λ s. numbered_at n w s ≡ (n, w)) (sym e) refl

whole_stays : (n : Numbers) (p id : ℕ) (v : Fiber) (e : Element) (m : Mark) (ns : Forest) (ks rest : Shape Fiber)
    → (numbered_fiber n v).0 ≡ (numbered_mark n m).0 → IsOf (numbered_fiber n v).1 p e (numbered_mark n m).1
    → StaysFor (numbered_mark n m).0 0 ns ks → shows_fallback (numbered_mark n m).1 ≡ false
    → StaysNode n p (node e m ns trees.none) (fiber id v ks rest) rest
whole_stays n p id v e m ns ks rest o is r shown = let q = r.numbers in record { numbers = rw (o, q) refl; is = rw (o, q) (whole is shown r.are) }

alone_stays : (n : Numbers) (p id : ℕ) (v : Fiber) (e : Element) (m : Mark) (ns fs : Forest) (ks rest : Shape Fiber)
    → (numbered_fiber n v).0 ≡ (numbered_mark n m).0 → IsOf (numbered_fiber n v).1 p e (numbered_mark n m).1
    → StaysFor (numbered_mark n m).0 0 fs ks → shows_fallback (numbered_mark n m).1 ≡ true → has_node ns ≡ false
    → StaysNode n p (node e m ns fs) (fiber id v ks rest) rest
alone_stays n p id v e m ns fs ks rest o is r hidden gone =
    let q = r.numbers in
    let z = none_numbered (numbered_mark n m).0 ns gone in
    record { numbers = rw (o, z, q) refl; is = rw (o, z, q) (alone is hidden (nodes_same (numbered_mark n m).0 ns ∙ gone) r.are) }

beside_stays : (n : Numbers) (p id jd : ℕ) (v w : Fiber) (e : Element) (m : Mark) (ns fs : Forest) (ks ws rest : Shape Fiber)
    → (numbered_fiber n v).0 ≡ (numbered_mark n m).0 → IsOf (numbered_fiber n v).1 p e (numbered_mark n m).1
    → StaysFor (numbered_mark n m).0 0 ns ks → StaysFor (numbered_in (numbered_mark n m).0 ns).0 0 fs ws
    → is_hidden (numbered_mark n m).1 ≡ true → has_node ns ≡ true → w.stage ≡ fallback (awaits_in m)
    → StaysNode n p (node e m ns fs) (fiber id v ks (fiber jd w ws rest)) rest
beside_stays n p id jd v w e m ns fs ks ws rest o is r q hidden some s =
    let a = r.numbers in
    let b = q.numbers in
    let u = fallback_same (numbered_in (numbered_mark n m).0 ns).0 w (awaits_in m) s in
    record {
      numbers = rw (o, a, u, b) refl;
      is = rw (o, a, u, b) (beside is hidden (nodes_same (numbered_mark n m).0 ns ∙ some) r.are (s ∙ ap fallback (sym (awaits_same n m))) q.are);
    }

mutual
  list_stays : (n : Numbers) (p : ℕ) (ns : Forest) (s : Shape Fiber) → AreFor p ns s → StaysFor n p ns s
  list_stays n p _ _ no_more = record { numbers = refl; are = no_more }
  list_stays n p (vacant ns) s (gap a) = let r = list_stays n (suc p) ns s a in record { numbers = r.numbers; are = gap r.are }
  list_stays n p (child x ns) s (next {rest = rest} is a) =
      let h = node_stays n p x s rest is in
      let r = list_stays (numbered n x).0 (suc p) ns rest a in
      record { numbers = h.numbers ∙ r.numbers; are = next h.is r.are }

  node_stays : (n : Numbers) (p : ℕ) (x : Node) (s rest : Shape Fiber) → IsFor p x s rest → StaysNode n p x s rest
  node_stays n p _ _ rest (whole {id = id} {v = v} {e = e} {m = m} {ns = ns} {ks = ks} is shown a) =
      let o = of_numbered n v p e m is in
      let r = list_stays (numbered_mark n m).0 0 ns ks a in
      whole_stays n p id v e m ns ks rest o.0 o.1 r (falls_same n m ∙ shown)
  node_stays n p _ _ rest (alone {id = id} {v = v} {e = e} {m = m} {ns = ns} {fs = fs} {ks = ks} is hidden gone a) =
      let o = of_numbered n v p e m is in
      let r = list_stays (numbered_mark n m).0 0 fs ks a in
      alone_stays n p id v e m ns fs ks rest o.0 o.1 r (falls_same n m ∙ hidden) gone
  node_stays n p _ _ rest (beside {id = id} {jd = jd} {v = v} {w = w} {e = e} {m = m} {ns = ns} {fs = fs} {ks = ks} {ws = ws} is hidden some a s b) =
      let o = of_numbered n v p e m is in
      let r = list_stays (numbered_mark n m).0 0 ns ks a in
      let q = list_stays (numbered_in (numbered_mark n m).0 ns).0 0 fs ws b in
      beside_stays n p id jd v w e m ns fs ks ws rest o.0 o.1 r q (hidden_same n m ∙ hidden) some s

-- What was taken over has its numbers

at_have : (c : Shape Fiber) (i : ℕ) (s : Shape Fiber) → list_at c i ≡ Some s → HaveNumbers c → HaveNumbers s
at_have none i s e h = cc
at_have (fiber id v ks rs) i s e h =
    by_test (eqb id i) refl (list_at ks i) refl (λ f. at_have ks i s f h.1) (λ f. at_have rs i s f h.2)
  where
    by_test : (b : Bool) → eqb id i ≡ b → (x : Option (Shape Fiber)) → list_at ks i ≡ x → (list_at ks i ≡ Some s → HaveNumbers s)
        → (list_at rs i ≡ Some s → HaveNumbers s) → HaveNumbers s
    by_test true b x y f g = let q : Some (fiber id v ks rs) ≡ Some s = rw b at e in let z : fiber id v ks rs ≡ s = cc in subst HaveNumbers z h
    by_test false b None y f g = g (rw (b, y) at e)
    by_test false b (Some l) y f g = let w : Some l ≡ Some s = rw (b, y) at e in f (y ∙ w)

list_have : (c s : Shape Fiber) → IsListIn c s → HaveNumbers c → HaveNumbers s
list_have c none l h = tt
list_have c (fiber id v ks rs) l h = at_have c id (fiber id v ks rs) (list_is c id v ks rs l) h

taken_have : (c : Shape Fiber) (w : Draft Fiber) → IsKept c w → HaveNumbers c → TakenHave w
taken_have c (taken s) k h = list_have c s k h
taken_have c (made id v o ks rs) k h = (taken_have c ks k.0 h, taken_have c rs k.1 h)

mutual
  places_have : (p : ℕ) (ns : Forest) (s : Shape Fiber) → AreFor p ns s → AllNumbered ns → HaveNumbers s
  places_have p _ _ no_more h = tt
  places_have p (vacant ns) s (gap a) h = places_have (suc p) ns s a h
  places_have p (child x ns) s (next {rest = rest} is a) h = node_has p x s rest is h.0 (places_have (suc p) ns rest a h.1)

  node_has : (p : ℕ) (x : Node) (s rest : Shape Fiber) → IsFor p x s rest → Numbered x → HaveNumbers rest → HaveNumbers s
  node_has p _ _ rest (whole {ns = ns} {ks = ks} is shown a) h r = (subst HasNumber (sym is.stage) h.0, places_have 0 ns ks a h.1, r)
  node_has p _ _ rest (alone {fs = fs} {ks = ks} is hidden gone a) h r = (subst HasNumber (sym is.stage) h.0, places_have 0 fs ks a h.2, r)
  node_has p _ _ rest (beside {ns = ns} {fs = fs} {ks = ks} {ws = ws} is hidden some a s b) h r =
      (subst HasNumber (sym is.stage) h.0, places_have 0 ns ks a h.1, (subst HasNumber (sym s) tt, places_have 0 fs ws b h.2, r))

tree_has : (y : Option Node) (s : Shape Fiber) → IsTreeOf y s → IfNumbered y → HaveNumbers s
tree_has None s a h = places_have 0 (vacant trees.none) s a tt
tree_has (Some y) s a h = places_have 0 (child y trees.none) s a (h, tt)

-- the new tree, with its numbers
pub tree_stays : (t : Trees Fiber) → Fits t → IsLinked t.current → (n : Numbers) (x : Node) → IsTreeOf (Some x) (grafted t.draft) → IsAllNumbered t
    → ((numbered_draft n t.draft).0 ≡ (numbered n x).0) × IsTreeOf (Some (numbered n x).1) (grafted (numbered_draft n t.draft).1)
tree_stays t fits linked n x a (y, current, all) =
    let have = taken_have t.current t.draft (draft_kept t fits linked) (tree_has y t.current current all) in
    let d = draft_list n t.draft have in
    let l = list_stays n 0 (child x trees.none) (grafted t.draft) a in
    (sym (ap (λ r. r.0) d) ∙ l.numbers, subst (AreFor 0 (numbered_in n (child x trees.none)).1) (ap (λ r. r.1) d) l.are)
