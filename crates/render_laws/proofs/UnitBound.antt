-- How many units a render takes, and how many bodies it evaluates.
use Rattle.std.specs.Prelude.{◌≡◌, ℕ, zero, suc, ◌+◌, ◌*◌, ◌<◌, ◌≤◌, Bool, true, false, cond, List, [], ◌∷◌, Option, refl}
use Rattle.std.proofs.Common.{arith}
use Rattle.rx_elem.specs.Elements.{Element, listed}
use Rattle.rx_elem.specs.Elements as elements
use Rattle.rx_elem.specs.Trees.{Node}
use Rattle.rx_meaning.specs.Fresh.{Sight, Contexts, Renders, Place, empty, made, waits, throws, Places, all_made, one_waits, one_throws, rendered, fresh, over_boundary, over_catcher, over, depth_limit, default_contexts, root_element, Part, Shape, absent, waiting, throwing, one_list, two_lists, guarded, shape_of, render_part, place_of}
use Rattle.rx_meaning.specs.Counts.{Tries, unless_waits, if_waits, if_throws, try_all, each_unit, each_begun, each_body, one_if_component, if_made, count_part, count_shape, counted, whole}
use Rattle.rx_meaning.specs.Touched.{children_with_old}
use Rattle.rx_meaning.specs.Cursor.{is_null}

pub if_made_nothing : (ps : Places) → if_made ps 0 ≡ 0
if_made_nothing (all_made ns) = refl
if_made_nothing (one_waits a) = refl
if_made_nothing (one_throws x) = refl

-- Units against places that are begun

-- one count is at most twice another
abbrev IsTwice : Tries → Tries → Type 0
IsTwice f g = (e : Element) (old : Option Node) → f e old ≤ 2 * g e old

all_twice : (f g : Tries) (render : Renders) → IsTwice f g → (xs : List (Element × Option Node)) → try_all f render xs ≤ 2 * try_all g render xs
all_twice f g render h [] = omega arith
all_twice f g render h (x ∷ xs) = go (render x.0 x.1) (h x.0 x.1) (all_twice f g render h xs)
  where
    go : (p : Place) → f x.0 x.1 ≤ 2 * g x.0 x.1 → try_all f render xs ≤ 2 * try_all g render xs
        → f x.0 x.1 + unless_waits p (try_all f render xs) ≤ 2 * (g x.0 x.1 + unless_waits p (try_all g render xs))
    go empty a b = omega arith
    go (made n) a b = omega arith
    go (waits w) a b = omega arith
    go (throws v) a b = omega arith

part_twice : (f g : Contexts → Tries) (below : Contexts → Renders) → ((cs : Contexts) → IsTwice (f cs) (g cs)) → (p : Part)
    → count_part f below p ≤ 2 * count_part g below p
part_twice f g below h p = all_twice (f p.contexts) (g p.contexts) (below p.contexts) (h p.contexts) (children_with_old p)

one_at_most : (ps : Places) → if_made ps 1 ≤ 1
one_at_most (all_made ns) = omega arith
one_at_most (one_waits a) = omega arith
one_at_most (one_throws x) = omega arith

two_parts : (ps qs : Places) (x y u v : ℕ) → x ≤ 2 * u → y ≤ 2 * v
    → 1 + (x + (if_made ps 1 + if_waits ps (y + if_made qs 1))) ≤ 2 * (1 + (u + (if_made ps 0 + if_waits ps (v + if_made qs 0))))
two_parts (all_made ns) qs x y u v a b = omega arith
two_parts (one_waits w) qs x y u v a b = omega (arith, one_at_most qs)
two_parts (one_throws t) qs x y u v a b = omega arith

-- the same of an error boundary
two_tries : (ps qs : Places) (x y u v : ℕ) → x ≤ 2 * u → y ≤ 2 * v
    → 1 + (x + (if_made ps 1 + if_throws ps (y + if_made qs 1))) ≤ 2 * (1 + (u + (if_made ps 0 + if_throws ps (v + if_made qs 0))))
two_tries (all_made ns) qs x y u v a b = omega arith
two_tries (one_waits w) qs x y u v a b = omega arith
two_tries (one_throws t) qs x y u v a b = omega (arith, one_at_most qs)

shape_twice : (f g : Contexts → Tries) (below : Contexts → Renders) → ((cs : Contexts) → IsTwice (f cs) (g cs)) → (cs : Contexts) (e : Element) (old : Option Node) (shape : Shape)
    → count_shape each_unit f below cs e old shape ≤ 2 * count_shape each_begun g below cs e old shape
shape_twice f g below h cs e old absent = twice_more (cond (is_null e) 0 1)
  where
    twice_more : (n : ℕ) → n ≤ 2 * n
    twice_more n = omega arith
shape_twice f g below h cs e old (waiting r v) = omega arith
shape_twice f g below h cs e old (throwing x) = omega arith
shape_twice f g below h cs e old (one_list m p) = omega (arith, part_twice f g below h p, one_at_most (render_part below p))
shape_twice f g below h cs e old (two_lists p q) =
    two_parts (render_part below p) (render_part below q) (count_part f below p) (count_part f below q) (count_part g below p) (count_part g below q)
    (part_twice f g below h p) (part_twice f g below h q)
shape_twice f g below h cs e old (guarded p q) =
    two_tries (render_part below p) (render_part below q) (count_part f below p) (count_part f below q) (count_part g below p) (count_part g below q)
    (part_twice f g below h p) (part_twice f g below h q)

-- a place takes at most two units for each place that it begins
units_twice : (n : ℕ) (s : Sight) (cs : Contexts) → IsTwice (counted each_unit n s cs) (counted each_begun n s cs)
unfolding counted
units_twice zero s cs e old = twice_more (cond (is_null e) 0 1)
  where
    twice_more : (n : ℕ) → n ≤ 2 * n
    twice_more n = omega arith
units_twice (suc n) s cs e old =
    shape_twice (counted each_unit n s) (counted each_begun n s) (rendered n s) (units_twice n s) cs e old (shape_of s cs e old)

-- A render takes at most two units for each place that it begins.
pub units_twice_begun : (s : Sight) (old : Option Node) → whole each_unit s old ≤ 2 * whole each_begun s old
unfolding whole
units_twice_begun s old = units_twice depth_limit s (default_contexts s.program) (root_element s.program) old

-- Bodies against units

-- one more for a place that gives a node
abbrev if_node : Place → ℕ
if_node empty = 0
if_node (made n) = 1
if_node (waits a) = 0
if_node (throws x) = 0

-- one count is at most another, and less if a node comes
abbrev IsFewer : Renders → Tries → Tries → Type 0
IsFewer render f g = (e : Element) (old : Option Node) → f e old + if_node (render e old) ≤ g e old

all_fewer : (f g : Tries) (render : Renders) → IsFewer render f g → (xs : List (Element × Option Node)) → try_all f render xs ≤ try_all g render xs
all_fewer f g render h [] = omega arith
all_fewer f g render h (x ∷ xs) = go (render x.0 x.1) (h x.0 x.1) (all_fewer f g render h xs)
  where
    go : (p : Place) → f x.0 x.1 + if_node p ≤ g x.0 x.1 → try_all f render xs ≤ try_all g render xs
        → f x.0 x.1 + unless_waits p (try_all f render xs) ≤ g x.0 x.1 + unless_waits p (try_all g render xs)
    go empty a b = omega arith
    go (made n) a b = omega arith
    go (waits w) a b = omega arith
    go (throws v) a b = omega arith

part_fewer : (f g : Contexts → Tries) (below : Contexts → Renders) → ((cs : Contexts) → IsFewer (below cs) (f cs) (g cs)) → (p : Part)
    → count_part f below p ≤ count_part g below p
part_fewer f g below h p = all_fewer (f p.contexts) (g p.contexts) (below p.contexts) (h p.contexts) (children_with_old p)

pub one_body : (e : Element) → one_if_component e ≤ 1
one_body elements.null = omega arith
one_body (elements.text t) = omega arith
one_body (elements.host n k attrs es) = omega arith
one_body (elements.comp c k ps es) = omega arith
one_body (elements.list marked es) = omega arith
one_body (elements.boundary k f es) = omega arith
one_body (elements.catcher k f es) = omega arith
one_body (elements.provider c k x es) = omega arith

list_fewer : (e : Element) (m : _) (ps : Places) (x y w : ℕ) → x ≤ y → w ≤ 1
    → w + (x + if_made ps 0) + if_node (over e m ps) ≤ 1 + (y + if_made ps 1)
list_fewer e m (all_made ns) x y w h k = omega arith
list_fewer e m (one_waits a) x y w h k = omega arith
list_fewer e m (one_throws v) x y w h k = omega arith

lists_fewer : (e : Element) (old : Option Node) (ps qs : Places) (x y u v w : ℕ) → x ≤ y → u ≤ v → w ≤ 1
    → w + (x + (if_made ps 0 + if_waits ps (u + if_made qs 0))) + if_node (over_boundary e old ps qs)
    ≤ 1 + (y + (if_made ps 1 + if_waits ps (v + if_made qs 1)))
lists_fewer e old (all_made ns) qs x y u v w h k l = omega arith
lists_fewer e old (one_waits a) (all_made fs) x y u v w h k l = omega arith
lists_fewer e old (one_waits a) (one_waits b) x y u v w h k l = omega arith
lists_fewer e old (one_waits a) (one_throws t) x y u v w h k l = omega arith
lists_fewer e old (one_throws t) qs x y u v w h k l = omega arith

-- the same of an error boundary
tries_fewer : (e : Element) (ps qs : Places) (x y u v w : ℕ) → x ≤ y → u ≤ v → w ≤ 1
    → w + (x + (if_made ps 0 + if_throws ps (u + if_made qs 0))) + if_node (over_catcher e ps qs)
    ≤ 1 + (y + (if_made ps 1 + if_throws ps (v + if_made qs 1)))
tries_fewer e (all_made ns) qs x y u v w h k l = omega arith
tries_fewer e (one_waits a) qs x y u v w h k l = omega arith
tries_fewer e (one_throws t) (all_made fs) x y u v w h k l = omega arith
tries_fewer e (one_throws t) (one_waits a) x y u v w h k l = omega arith
tries_fewer e (one_throws t) (one_throws s) x y u v w h k l = omega arith

no_node : (b : Bool) → cond b 0 0 + 0 ≤ cond b 0 1
no_node true = omega arith
no_node false = omega arith

shape_fewer : (f g : Contexts → Tries) (below : Contexts → Renders) → ((cs : Contexts) → IsFewer (below cs) (f cs) (g cs)) → (cs : Contexts) (e : Element) (old : Option Node)
    (shape : Shape) → count_shape each_body f below cs e old shape + if_node (place_of below e old shape) ≤ count_shape each_unit g below cs e old shape
shape_fewer f g below h cs e old absent = no_node (is_null e)
shape_fewer f g below h cs e old (waiting r v) = omega (arith, one_body e)
shape_fewer f g below h cs e old (throwing x) = omega (arith, one_body e)
shape_fewer f g below h cs e old (one_list m p) =
    list_fewer e m (render_part below p) (count_part f below p) (count_part g below p) (one_if_component e) (part_fewer f g below h p) (one_body e)
shape_fewer f g below h cs e old (two_lists p q) =
    lists_fewer e old (render_part below p) (render_part below q) (count_part f below p) (count_part g below p) (count_part f below q) (count_part g below q)
    (one_if_component e) (part_fewer f g below h p) (part_fewer f g below h q) (one_body e)
shape_fewer f g below h cs e old (guarded p q) =
    tries_fewer e (render_part below p) (render_part below q) (count_part f below p) (count_part g below p) (count_part f below q) (count_part g below q)
    (one_if_component e) (part_fewer f g below h p) (part_fewer f g below h q) (one_body e)

bodies_fewer : (n : ℕ) (s : Sight) (cs : Contexts) → IsFewer (rendered n s cs) (counted each_body n s cs) (counted each_unit n s cs)
unfolding counted rendered
bodies_fewer zero s cs e old = no_node (is_null e)
bodies_fewer (suc n) s cs e old =
    shape_fewer (counted each_body n s) (counted each_unit n s) (rendered n s) (bodies_fewer n s) cs e old (shape_of s cs e old)

-- A render that gives a tree takes more units than it evaluates bodies.
pub more_units_than_bodies : (s : Sight) (old : Option Node) (n : Node) → fresh s old ≡ made n → whole each_body s old < whole each_unit s old
unfolding whole fresh
more_units_than_bodies s old n h =
    let most : whole each_body s old + if_node (fresh s old) ≤ whole each_unit s old = bodies_fewer depth_limit s (default_contexts s.program) (root_element s.program) old in
    let more : whole each_body s old + 1 ≤ whole each_unit s old = rw h at most in
    omega arith
