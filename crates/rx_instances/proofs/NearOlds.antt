-- The nearest instances in a list of current fibers are those of the nodes for which it stands.
use Rattle.std.proofs.Common.{◌≡◌, ℕ, zero, suc, Bool, true, false, cond, List, [], ◌∷◌, ◌++◌, Option, Some, None, slice_get, refl, sym, ap, subst, ◌∙◌, append-nil, append_assoc}
use Rattle.std.specs.Prelude.{bytes_eq}
use Rattle.std.proofs.lemmas.List.Elements.{filter-append}
use Rattle.rx_base.specs.Values.{Name}
use Rattle.rx_ast.specs.Syntax.{Program}
use Rattle.rx_elem.specs.Elements.{Element}
use Rattle.rx_elem.specs.Trees.{Forest, Instance, Mark, Node, child, children_of, instance_in, shows_fallback, mark_of, node, none, of_boundary, of_catcher, of_host, of_instance, plain, vacant}
use Rattle.rx_lists.specs.Shapes.{Shape, fiber}
use Rattle.rx_links.specs.Readers.{IsLinked, list_from, value_in, value_of}
use Rattle.rx_fiber.specs.Fibers.{Fiber, begun}
use Rattle.rx_fiber.specs.OldLists.{primary_list}
use Rattle.rx_fiber.specs.Reading.{AreFor, IsFor, IsOld, IsTreeOf, alone, beside, gap, has_node, new, next, no_more, of, whole}
use Rattle.rx_fiber.proofs.OldLists.{IsListIn, kids_listed, list_is, primary_is, rest_listed, hidden_falls}
use Rattle.rx_model.specs.State.{name_of}
use Rattle.rx_instances.specs.Nearest.{is_named, itself_or, named, nearest, nearest_if, nearest_in}
use Rattle.rx_instances.specs.NearFibers.{instance_at, itself_named, near_fibers}

-- ---- current fibers of nodes

-- these are the current fibers of these nodes, one by one
abbrev pub AreOlds : Shape Fiber → List ℕ → List Node → Type 0
AreOlds c [] [] = Unit {0}
AreOlds c [] (x ∷ xs) = ⊥
AreOlds c (i ∷ is) [] = ⊥
AreOlds c (i ∷ is) (x ∷ xs) = IsOld c (Some i) (Some x) × AreOlds c is xs

olds_append : (c : Shape Fiber) (is js : List ℕ) (xs ys : List Node) → AreOlds c is xs → AreOlds c js ys → AreOlds c (is ++ js) (xs ++ ys)
olds_append c [] js [] ys a b = b
olds_append c [] js (x ∷ xs) ys a b = absurd a
olds_append c (i ∷ is) js [] ys a b = absurd a
olds_append c (i ∷ is) js (x ∷ xs) ys a b = (a.0, olds_append c is js xs ys a.1 b)

-- so is the one that so many come before, or both are missing
pub olds_get : (c : Shape Fiber) (is : List ℕ) (xs : List Node) → AreOlds c is xs → (k : ℕ) → IsOld c (slice_get is k) (slice_get xs k)
olds_get c [] [] a k = new
olds_get c [] (x ∷ xs) a k = absurd a
olds_get c (i ∷ is) [] a k = absurd a
olds_get c (i ∷ is) (x ∷ xs) a zero = a.0
olds_get c (i ∷ is) (x ∷ xs) a (suc k) = olds_get c is xs a.1 k

old_node : (c : Shape Fiber) (o : Option ℕ) (q : Option Node) (i : ℕ) → IsOld c o q → o ≡ Some i → (x : Node) × (Some x ≡ q)
old_node c _ _ i new e = cc
old_node c _ _ i (of {x = x} here leads are) e = (x, refl)

-- a current fiber is that of a node
pub is_old : (c : Shape Fiber) (q : Option Node) (i : ℕ) → IsOld c (Some i) q → (x : Node) × (Some x ≡ q) × IsOld c (Some i) (Some x)
is_old c q i old = let n = old_node c (Some i) q i old refl in (n.0, n.1, subst (IsOld c (Some i)) (sym n.1) old)

no_node : (c : Shape Fiber) (o : Option ℕ) (q : Option Node) → IsOld c o q → o ≡ None → None ≡ q
no_node c _ _ new e = refl
no_node c _ _ (of here leads are) e = cc

-- and if there is none there is no node
pub no_old : (c : Shape Fiber) (q : Option Node) → IsOld c None q → None ≡ q
no_old c q old = no_node c None q old refl

-- the value of the fiber of a node
first_stage : (n : ℕ) (x : Node) (s rest : Shape Fiber) → IsFor n x s rest → (v : Fiber) × (value_in (Some s) ≡ Some v) × (v.stage ≡ begun (mark_of x))
first_stage n _ _ rest (whole {v = v} is shown a) = (v, refl, is.stage)
first_stage n _ _ rest (alone {v = v} is hidden gone a) = (v, refl, is.stage)
first_stage n _ _ rest (beside {v = v} is hidden some a s b) = (v, refl, is.stage)

stage_at : (c : Shape Fiber) (o : Option ℕ) (q : Option Node) (i : ℕ) (x : Node) → IsOld c o q → o ≡ Some i → q ≡ Some x
    → (v : Fiber) × (value_of c i ≡ Some v) × (v.stage ≡ begun (mark_of x))
stage_at c _ _ i x new e f = cc
stage_at c _ _ i x (of {j = j} {n = n} {x = y} {s = s} here leads (next {rest = rest} is a)) e f =
    let (v, is_value, is_stage) = first_stage n y s rest is in
    let same : j ≡ i = cc in
    let also : y ≡ x = cc in
    (v, ap (value_of c) (sym same) ∙ ap value_in here ∙ is_value, is_stage ∙ ap (λ (z : Node). begun (mark_of z)) also)

pub old_stage : (c : Shape Fiber) (i : ℕ) (x : Node) → IsOld c (Some i) (Some x) → (v : Fiber) × (value_of c i ≡ Some v) × (v.stage ≡ begun (mark_of x))
old_stage c i x old = stage_at c (Some i) (Some x) i x old refl refl

-- the instance of a fiber is that of its node
pub old_instance : (c : Shape Fiber) (i : ℕ) (x : Node) (v : Fiber) → IsOld c (Some i) (Some x) → Some v ≡ value_of c i → instance_at v.stage ≡ instance_in (mark_of x)
old_instance c i x v old is =
    let (u, is_value, is_stage) = old_stage c i x old in
    let same : v ≡ u = cc in
    ap (λ (w : Fiber). instance_at w.stage) same ∙ ap instance_at is_stage

-- ---- the nearest instances

-- if a list has no node, none is near
gone_near : (ns : Forest) → has_node ns ≡ false → nearest_in ns ≡ []
gone_near none e = refl
gone_near (vacant ns) e = gone_near ns e
gone_near (child x ns) e = cc

-- a boundary that shows its fallback is no instance
falling_instance : (m : Mark) → shows_fallback m ≡ true → instance_in m ≡ None
falling_instance (of_instance i) e = cc
falling_instance (of_host h) e = cc
falling_instance (of_boundary b) e = refl
falling_instance (of_catcher c) e = refl
falling_instance plain e = cc

falling_itself : (m : Mark) (x : Node) (below : List Node) → shows_fallback m ≡ true → itself_or m x below ≡ below
falling_itself (of_instance i) x below e = cc
falling_itself (of_host h) x below e = cc
falling_itself (of_boundary b) x below e = refl
falling_itself (of_catcher c) x below e = refl
falling_itself plain x below e = cc

module _ (p : Program) (name : Name) (c : Shape Fiber) (linked : IsLinked c) where
  -- a node, its fallback, and what comes behind it
  parts : (xs ys zs : List Node) → named p name ((xs ++ ys) ++ zs) ≡ (named p name xs ++ named p name ys) ++ named p name zs
  parts xs ys zs = filter-append (is_named p name) (xs ++ ys) zs ∙ ap (λ (us : List Node). us ++ named p name zs) (filter-append (is_named p name) xs ys)

  own_olds : (e : Element) (m : Mark) (ns fs : Forest) (id : ℕ) (below : List ℕ) (nodes : List Node) → IsOld c (Some id) (Some (node e m ns fs)) → AreOlds c below (named p name nodes)
      → AreOlds c (itself_named p name id (instance_in m) below) (named p name (itself_or m (node e m ns fs) nodes))
  own_olds e (of_instance i) ns fs id below nodes old h = go (bytes_eq (name_of p i.component) name)
    where
      go : (b : Bool) → AreOlds c (cond b (id ∷ []) []) (cond b (node e (of_instance i) ns fs ∷ []) [])
      go true = (old, tt)
      go false = tt
  own_olds e (of_host k) ns fs id below nodes old h = h
  own_olds e (of_boundary b) ns fs id below nodes old h = h
  own_olds e (of_catcher b) ns fs id below nodes old h = h
  own_olds e plain ns fs id below nodes old h = h

  -- The nearest instances of a name in a list of current fibers are those of its nodes.
  mutual
    pub list_olds : (n : ℕ) (ns : Forest) (s : Shape Fiber) → AreFor n ns s → IsListIn c s → AreOlds c (near_fibers p name s) (named p name (nearest_in ns))
    list_olds n _ _ no_more l = tt
    list_olds n (vacant ns) s (gap a) l = list_olds (suc n) ns s a l
    list_olds n (child x ns) s (next {rest = rest} is a) l = node_olds n x s rest ns is a (λ k. list_olds (suc n) ns rest a k) l

    node_olds : (n : ℕ) (x : Node) (s rest : Shape Fiber) (ns : Forest) → IsFor n x s rest → AreFor (suc n) ns rest
        → (IsListIn c rest → AreOlds c (near_fibers p name rest) (named p name (nearest_in ns))) → IsListIn c s
        → AreOlds c (near_fibers p name s) (named p name (nearest x ++ nearest_in ns))
    node_olds n _ _ rest more (whole {id = id} {v = v} {e = e} {m = m} {ns = ns} {ks = ks} is shown a) b later l =
        let x = node e m ns none in
        let old : IsOld c (Some id) (Some x) = of (list_is c id v ks rest l) refl (next (whole is shown a) b) in
        let own = own_olds e m ns none id (near_fibers p name ks) (nearest_in ns) old (list_olds 0 ns ks a (kids_listed c id v ks rest linked l)) in
        let behind = later (rest_listed c id v ks rest linked l) in
        let all = named p name (itself_or m x (nearest_in ns)) in
        let nodes : named p name ((itself_or m x (nearest_in ns) ++ []) ++ nearest_in more) ≡ all ++ named p name (nearest_in more) =
        parts (itself_or m x (nearest_in ns)) [] (nearest_in more) ∙ ap (λ (us : List Node). us ++ named p name (nearest_in more)) (append-nil all) in
        subst (λ (o : Option Instance). AreOlds c (itself_named p name id o (near_fibers p name ks) ++ near_fibers p name rest) (named p name ((itself_or m x (nearest_in ns) ++ []) ++ nearest_in more))) (sym (ap instance_at is.stage))
        (subst (AreOlds c (itself_named p name id (instance_in m) (near_fibers p name ks) ++ near_fibers p name rest)) (sym nodes)
        (olds_append c (itself_named p name id (instance_in m) (near_fibers p name ks)) (near_fibers p name rest) all (named p name (nearest_in more)) own behind))
    node_olds n _ _ rest more (alone {id = id} {v = v} {e = e} {m = m} {ns = ns} {fs = fs} {ks = ks} is hidden gone a) b later l =
        let x = node e m ns fs in
        let inside = list_olds 0 fs ks a (kids_listed c id v ks rest linked l) in
        let behind = later (rest_listed c id v ks rest linked l) in
        let nothing : itself_or m x (nearest_in ns) ≡ [] = falling_itself m x (nearest_in ns) hidden ∙ gone_near ns gone in
        let nodes : named p name ((itself_or m x (nearest_in ns) ++ nearest_in fs) ++ nearest_in more) ≡ named p name (nearest_in fs) ++ named p name (nearest_in more) =
        ap (λ (us : List Node). named p name ((us ++ nearest_in fs) ++ nearest_in more)) nothing ∙ filter-append (is_named p name) (nearest_in fs) (nearest_in more) in
        let stage : instance_at v.stage ≡ None = ap instance_at is.stage ∙ falling_instance m hidden in
        subst (λ (o : Option Instance). AreOlds c (itself_named p name id o (near_fibers p name ks) ++ near_fibers p name rest) (named p name ((itself_or m x (nearest_in ns) ++ nearest_in fs) ++ nearest_in more))) (sym stage)
        (subst (AreOlds c (near_fibers p name ks ++ near_fibers p name rest)) (sym nodes)
        (olds_append c (near_fibers p name ks) (near_fibers p name rest) (named p name (nearest_in fs)) (named p name (nearest_in more)) inside behind))
    node_olds n _ _ rest more (beside {id = id} {jd = jd} {v = v} {w = w} {e = e} {m = m} {ns = ns} {fs = fs} {ks = ks} {ws = ws} is hidden some a f d) b later l =
        let x = node e m ns fs in
        let after = rest_listed c id v ks (fiber jd w ws rest) linked l in
        let inside = list_olds 0 ns ks a (kids_listed c id v ks (fiber jd w ws rest) linked l) in
        let fallback = list_olds 0 fs ws d (kids_listed c jd w ws rest linked after) in
        let behind = later (rest_listed c jd w ws rest linked after) in
        let nodes : named p name ((itself_or m x (nearest_in ns) ++ nearest_in fs) ++ nearest_in more) ≡ named p name (nearest_in ns) ++ (named p name (nearest_in fs) ++ named p name (nearest_in more)) =
        ap (λ (us : List Node). named p name ((us ++ nearest_in fs) ++ nearest_in more)) (falling_itself m x (nearest_in ns) (hidden_falls m hidden))
        ∙ ap (named p name) (append_assoc (nearest_in ns) (nearest_in fs) (nearest_in more))
        ∙ filter-append (is_named p name) (nearest_in ns) (nearest_in fs ++ nearest_in more)
        ∙ ap (λ (us : List Node). named p name (nearest_in ns) ++ us) (filter-append (is_named p name) (nearest_in fs) (nearest_in more)) in
        let stage : instance_at v.stage ≡ None = ap instance_at is.stage ∙ falling_instance m (hidden_falls m hidden) in
        let also : instance_at w.stage ≡ None = ap instance_at f in
        subst (λ (o : Option Instance). AreOlds c (itself_named p name id o (near_fibers p name ks) ++ (itself_named p name jd (instance_at w.stage) (near_fibers p name ws) ++ near_fibers p name rest)) (named p name ((itself_or m x (nearest_in ns) ++ nearest_in fs) ++ nearest_in more))) (sym stage)
        (subst (λ (o : Option Instance). AreOlds c (near_fibers p name ks ++ (itself_named p name jd o (near_fibers p name ws) ++ near_fibers p name rest)) (named p name ((itself_or m x (nearest_in ns) ++ nearest_in fs) ++ nearest_in more))) (sym also)
        (subst (AreOlds c (near_fibers p name ks ++ (near_fibers p name ws ++ near_fibers p name rest))) (sym nodes)
        (olds_append c (near_fibers p name ks) (near_fibers p name ws ++ near_fibers p name rest) (named p name (nearest_in ns)) (named p name (nearest_in fs) ++ named p name (nearest_in more)) inside
        (olds_append c (near_fibers p name ws) (near_fibers p name rest) (named p name (nearest_in fs)) (named p name (nearest_in more)) fallback behind))))

  -- So are those of the current tree,
  pub tree_olds : (y : Option Node) → IsTreeOf y c → AreOlds c (near_fibers p name c) (named p name (nearest_if y))
  tree_olds None is = list_olds 0 (vacant none) c is (sym linked.root)
  tree_olds (Some x) is = subst (λ (xs : List Node). AreOlds c (near_fibers p name c) (named p name xs)) (append-nil (nearest x)) (list_olds 0 (child x none) c is (sym linked.root))

  -- and of the children of a node.
  pub kids_olds : (i : ℕ) (x : Node) → IsOld c (Some i) (Some x) → AreOlds c (near_fibers p name (primary_list (list_from c (Some i)))) (named p name (nearest_in (children_of x)))
  kids_olds i x old = let l = primary_is c linked (Some i) (Some x) old in list_olds 0 (children_of x) (primary_list (list_from c (Some i))) l.are l.listed

  pub first_old : (y : Option Node) → IsTreeOf y c → (k : ℕ) → IsOld c (slice_get (near_fibers p name c) k) (slice_get (named p name (nearest_if y)) k)
  first_old y is k = olds_get c (near_fibers p name c) (named p name (nearest_if y)) (tree_olds y is) k

  pub next_old : (i : ℕ) (x : Node) → IsOld c (Some i) (Some x) → (k : ℕ)
      → IsOld c (slice_get (near_fibers p name (primary_list (list_from c (Some i)))) k) (slice_get (named p name (nearest_in (children_of x))) k)
  next_old i x old k = olds_get c (near_fibers p name (primary_list (list_from c (Some i)))) (named p name (nearest_in (children_of x))) (kids_olds i x old) k
