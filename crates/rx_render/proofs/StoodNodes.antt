-- What goes down a tree to all that is shown holds of the node of a current fiber, if that stands.
use Rattle.std.specs.Prelude.{◌≡◌, ℕ, ℤ, zero, suc, ◌<◌, Bool, true, false, cond, nat_eq, List, [], ◌∷◌, length, Option, Some, None, option_map, unwrap_or, refl}
use Rattle.std.proofs.Common.{◌≢◌, arith, sym, ap, ◌∙◌, subst}
use Rattle.std.proofs.Math.ListN.{set, get_or}
use Rattle.std.proofs.lemmas.List.{get_or-set_same, get_or-set_other, same_lists}
use Rattle.std.proofs.lemmas.Bool.Decides.{nat_tests}
use Rattle.rx_elem.specs.Elements.{Element}
use Rattle.rx_elem.specs.Elements as elements
use Rattle.rx_elem.specs.Trees.{Mark, Node, node, Forest, none, vacant, child, forest, is_hidden, mark_of}
use Rattle.rx_elem.specs.Compare.{node_at}
use Rattle.rx_lists.specs.Shapes.{Shape, first}
use Rattle.rx_links.specs.Readers.{IsLinked, list_from, value_of, value_in}
use Rattle.rx_meaning.specs.Fresh.{Contexts}
use Rattle.rx_meaning.specs.Touched.{contexts_below}
use Rattle.end_laws.specs.Trimmed.{trimmed, trimmed_in}
use Rattle.render_laws.specs.OldNodes.{AllHave, OldHas}
use Rattle.rx_fiber.specs.Fibers.{Fiber, Stage, waiting, begun, trying, guarding, fallback}
use Rattle.rx_fiber.specs.OldLists.{hides_in, primary_list, fallback_list, fiber_at}
use Rattle.rx_fiber.specs.Reading.{IsFor, whole, alone, beside, next, IsOld, new, of, IsTreeOf}
use Rattle.rx_fiber.specs.Stood.{given_more, nearest_given, StoodAt, StandsSame, at_root, below, in_fallback}
use Rattle.rx_fiber.proofs.Matching.{old_at}
use Rattle.rx_fiber.proofs.OldLists.{primary_is, fallback_is}
use Rattle.rx_fiber.proofs.Starting.{root_old}
use Rattle.rx_causes.specs.Marks.{begun_mark}
use Rattle.rx_causes.proofs.Marks.{mark_is}
use Rattle.rx_children.proofs.OldNodes.{stood_in}
use Rattle.rx_read.proofs.Trims.{places_are}
use Rattle.rx_read.specs.Places.{places_in}
use Rattle.rx_render.specs.GivenContexts.{given_contexts}
use Rattle.rx_render.proofs.Contexts.{as_many}

-- The fibers of one node

first_place : (n : ℕ) (x : Node) (s rest : Shape Fiber) → IsFor n x s rest → option_map (λ v. v.place) (value_in (Some s)) ≡ Some n
first_place n _ _ rest (whole is shown a) = ap Some is.at
first_place n _ _ rest (alone is hidden gone a) = ap Some is.at
first_place n _ _ rest (beside is hidden some a s b) = ap Some is.at

-- they stand for nodes that differ at the ends of lists alone
pub same_trimmed : (c : Shape Fiber) (o : Option ℕ) (x y : Node) → IsOld c o (Some x) → IsOld c o (Some y) → trimmed x ≡ trimmed y
same_trimmed c _ x y (of {n = n} {ns = ns} {s = s} here leads (next {rest = rest} is a)) (of {n = m} {ns = ms} {s = t} there begins (next {rest = later} it b)) =
    let same : s ≡ t = (let f : Some s ≡ Some t = sym here ∙ there in cc) in
    let place : n ≡ m = (let f : Some n ≡ Some m = sym (first_place n x s rest is) ∙ (ap (λ l. option_map (λ v. v.place) (value_in (Some l))) same ∙ first_place m y t later it) in cc) in
    let f : child (trimmed x) (trimmed_in ns) ≡ child (trimmed y) (trimmed_in ms) =
    sym (places_are n (child x ns) s (next is a)) ∙ (ap (λ k. forest (places_in k s)) place ∙ (ap (λ l. forest (places_in m l)) same ∙ places_are m (child y ms) t (next it b))) in
    cc

no_fiber : (c : Shape Fiber) (i : ℕ) → IsOld c (Some i) None → ⊥
no_fiber c i h = by_option (Some i) None refl refl h
  where
    by_option : (o : Option ℕ) (x : Option Node) → o ≡ Some i → x ≡ None → IsOld c o x → ⊥
    by_option _ _ e f new = let q : ⊥ = cc in q
    by_option _ _ e f (of here leads a) = let q : ⊥ = cc in q

-- What a fiber tells of its node

hides_as : (v : Stage) (m : Mark) → begun_mark v ≡ Some m → hides_in v ≡ is_hidden m
hides_as (waiting c) m h = cc
hides_as (begun k) m h = let q : k ≡ m = cc in ap is_hidden q
hides_as (trying c) m h = cc
hides_as guarding m h = cc
hides_as (fallback a) m h = cc

-- the contexts below a node
below_given : (base : Contexts) (e : Element) (ws : List (ℕ × ℤ)) → contexts_below e (given_contexts base ws) ≡ given_contexts base (given_more e ws)
below_given base elements.null ws = refl
below_given base (elements.text t) ws = refl
below_given base (elements.host n k attrs es) ws = refl
below_given base (elements.comp c k ps es) ws = refl
below_given base (elements.list marked es) ws = refl
below_given base (elements.boundary k f es) ws = refl
below_given base (elements.catcher k f es) ws = refl
below_given base (elements.provider c k x es) ws = refl

-- the nodes at places of a list have what each node of it has
got : (Q : Node → Type 0) (ns : Forest) (p : ℕ) (y : Node) → AllHave Q ns → node_at ns p ≡ Some y → Q y
got Q none p y h e = let q : ⊥ = cc in absurd q
got Q (vacant ns) zero y h e = let q : ⊥ = cc in absurd q
got Q (vacant ns) (suc p) y h e = got Q ns p y h e
got Q (child x ns) zero y h e = let q : x ≡ y = cc in subst Q q h.0
got Q (child x ns) (suc p) y h e = got Q ns p y h.1 e

-- each is the nearest that is given, or as at first
value_given : (base : Contexts) (ws : List (ℕ × ℤ)) (c : ℕ) (d : ℤ) → c < length base → get_or (given_contexts base ws) c d ≡ unwrap_or (option_map (λ w. w.1) (nearest_given c ws)) (get_or base c d)
value_given base [] c d lt = refl
value_given base (w ∷ ws) c d lt = go (nat_eq w.0 c) refl (value_given base ws c d lt)
  where
    go : (b : Bool) → nat_eq w.0 c ≡ b → get_or (given_contexts base ws) c d ≡ unwrap_or (option_map (λ (p : ℕ × ℤ). p.1) (nearest_given c ws)) (get_or base c d)
        → get_or (set (given_contexts base ws) w.0 w.1) c d ≡ unwrap_or (option_map (λ (p : ℕ × ℤ). p.1) (cond b (Some w) (nearest_given c ws))) (get_or base c d)
    go true e rest =
        let same : w.0 ≡ c = grind (arith, nat_tests) in
        ap (λ i. get_or (set (given_contexts base ws) w.0 w.1) i d) (sym same) ∙ get_or-set_same (given_contexts base ws) w.0 w.1 d (omega (arith, lt, same, as_many base ws))
    go false e rest = let other : c ≢ w.0 = grind (arith, nat_tests) in get_or-set_other (given_contexts base ws) w.0 c w.1 d other ∙ rest

-- so they are the same if the nearest are
pub same_contexts : (base : Contexts) (vs ws : List (ℕ × ℤ)) → ((c : ℕ) → nearest_given c vs ≡ nearest_given c ws) → given_contexts base vs ≡ given_contexts base ws
same_contexts base vs ws same =
    same_lists (given_contexts base vs) (given_contexts base ws) (as_many base vs ∙ sym (as_many base ws))
    (λ k d lt.
    let there : k < length base = omega (arith, lt, as_many base vs) in
    value_given base vs k d there ∙ (ap (λ w. unwrap_or (option_map (λ (p : ℕ × ℤ). p.1) w) (get_or base k d)) (same k) ∙ sym (value_given base ws k d there)))

-- a property of nodes, in the contexts of their places, goes down to the children of a node that hides nothing, and to a fallback
pub record HandsDown (P : Contexts → Node → Type 0) : Type 0 where
  pub children : (cs : Contexts) (e : Element) (m : Mark) (ns fs : Forest) → P cs (node e m ns fs) → is_hidden m ≡ false → AllHave (P (contexts_below e cs)) ns
  pub fallbacks : (cs : Contexts) (e : Element) (m : Mark) (ns fs : Forest) → P cs (node e m ns fs) → AllHave (P cs) fs

module _ (P : Contexts → Node → Type 0) (hands : HandsDown P) (c : Shape Fiber) (linked : IsLinked c) (base : Contexts) where
  -- a node of the current fiber has the property, if these values are given
  pub record NodeHas (ws : List (ℕ × ℤ)) (o : Option ℕ) : Type 0 where
    pub node_is : Node
    pub is : IsOld c o (Some node_is)
    pub has : P (given_contexts base ws) node_is

  -- it stands at a place of a list
  at_place_of : (cs : Contexts) (ws : List (ℕ × ℤ)) (ns : Forest) (place i : ℕ) → cs ≡ given_contexts base ws → AllHave (P cs) ns → IsOld c (Some i) (node_at ns place) → NodeHas ws (Some i)
  at_place_of cs ws ns place i same h is = by_node (node_at ns place) refl is
    where
      by_node : (x : Option Node) → node_at ns place ≡ x → IsOld c (Some i) x → NodeHas ws (Some i)
      by_node None e old = absurd (no_fiber c i old)
      by_node (Some y) e old = record { node_is = y; is = old; has = subst (λ l. P l y) same (got (P cs) ns place y h e) }

  stage_hides : (q : ℕ) (v : Fiber) (x : Node) → IsOld c (Some q) (Some x) → value_of c q ≡ Some v → hides_in v.stage ≡ is_hidden (mark_of x)
  stage_hides q v x is here = hides_as v.stage (mark_of x) (let f : begun_mark v.stage ≡ Some (mark_of x) = (let g = mark_is c (Some q) (Some x) is in rw here at g) in f)

  child_has : (ws : List (ℕ × ℤ)) (q i : ℕ) (v : Fiber) (place : ℕ) → (x : Node) → IsOld c (Some q) (Some x) → P (given_contexts base ws) x → value_of c q ≡ Some v
      → hides_in v.stage ≡ false → fiber_at (primary_list (list_from c (Some q))) place ≡ Some i → NodeHas (given_more v.element ws) (Some i)
  child_has ws q i v place (node e m ns fs) is has here shown at =
      let same : v.element ≡ e = (let f : Some v.element ≡ Some e = (let g = stood_in c (Some q) (Some (node e m ns fs)) v.element is (ap (option_map (λ w. w.element)) here) in sym g) in cc) in
      let shows : is_hidden m ≡ false = sym (stage_hides q v (node e m ns fs) is here) ∙ shown in
      at_place_of (contexts_below e (given_contexts base ws)) (given_more v.element ws) ns place i (below_given base e ws ∙ ap (λ f. given_contexts base (given_more f ws)) (sym same))
      (hands.children (given_contexts base ws) e m ns fs has shows)
      (subst (λ o. IsOld c o (node_at ns place)) at (old_at c linked ns (primary_list (list_from c (Some q))) (primary_is c linked (Some q) (Some (node e m ns fs)) is) place))

  fallback_has : (ws : List (ℕ × ℤ)) (q i : ℕ) (place : ℕ) → (x : Node) → IsOld c (Some q) (Some x) → P (given_contexts base ws) x
      → fiber_at (fallback_list (list_from c (Some q))) place ≡ Some i → NodeHas ws (Some i)
  fallback_has ws q i place (node e m ns fs) is has at =
      at_place_of (given_contexts base ws) ws fs place i refl (hands.fallbacks (given_contexts base ws) e m ns fs has)
      (subst (λ o. IsOld c o (node_at fs place)) at (old_at c linked fs (fallback_list (list_from c (Some q))) (fallback_is c linked (Some q) (Some (node e m ns fs)) is) place))

  module _ (tree : Option Node) (is : IsTreeOf tree c) (root : OldHas (P base) tree) where
    root_has : (i : ℕ) → first c ≡ Some i → NodeHas [] (Some i)
    root_has i f = by_tree tree root (subst (λ o. IsOld c o tree) f (root_old c tree is))
      where
        by_tree : (x : Option Node) → OldHas (P base) x → IsOld c (Some i) x → NodeHas [] (Some i)
        by_tree None h old = absurd (no_fiber c i old)
        by_tree (Some x) h old = record { node_is = x; is = old; has = h }

    -- If a current fiber is shown, its node has with the values that are given there what the tree has at its root.
    stood_has : (ws : List (ℕ × ℤ)) (o : Option ℕ) → StoodAt c ws o → NodeHas ws o
    stood_has _ _ (at_root {i = i} f) = root_has i f
    stood_has _ _ (below {ws = ws} {q = q} {i = i} {v = v} place h here shown at) =
        let n = stood_has ws (Some q) h in child_has ws q i v place n.node_is n.is n.has here shown at
    stood_has _ _ (in_fallback {ws = ws} {q = q} {i = i} place h here hides at) =
        let n = stood_has ws (Some q) h in fallback_has ws q i place n.node_is n.is n.has at

    -- If it is shown, and these values give each context what it has there, its node has with them what the tree has at its root.
    pub shown_has : (ws : List (ℕ × ℤ)) (o : Option ℕ) → StandsSame c ws o → NodeHas ws o
    shown_has ws o s =
        let n = stood_has s.given o s.stood in
        record { node_is = n.node_is; is = n.is; has = subst (λ l. P l n.node_is) (same_contexts base s.given ws (λ d. s.same d refl)) n.has }
