-- A render evaluates nothing of a tree that rests.
use Rattle.std.specs.Prelude.{◌≡◌, ℕ, zero, suc, Bool, true, false, not, ◌&&◌, ◌||◌, cond, List, [], ◌∷◌, Option, Some, None, is_some, refl, if◌then◌else◌}
use Rattle.std.specs.List.{zip}
use Rattle.std.proofs.Common.{ap, arith, subst}
use Rattle.rx_susp.specs.declared.boundary.BoundaryState.TheVariants.{Hidden, Shown}
use Rattle.rx_elem.specs.Elements.{Element}
use Rattle.rx_elem.specs.Elements as elements
use Rattle.rx_elem.specs.Trees.{Forest, Instance, Mark, Node, child, element_of, elements_in, is_caught, is_hidden, node, none, of_boundary, of_catcher, of_host, of_instance, places, plain, vacant}
use Rattle.rx_elem.proofs.Equality.{same_element-self}
use Rattle.rx_elem.proofs.SelfMatch.{NoNull, matches_itself}
use Rattle.rx_meaning.specs.Fresh.{Sight, Contexts, Place, empty, made, waits, throws, Places, all_made, one_waits, one_throws, before, over, over_boundary, over_catcher, Part, part, Shape, one_list, two_lists, guarded, place_of, rendered, render_all, render_part, shape_of, version_seen}
use Rattle.rx_meaning.specs.Counts.{count_part, if_throws, if_waits, try_all, unless_waits}
use Rattle.rx_meaning.specs.Settled.{AllReadsHold, AllSettled, IfHidden, IsOwn, IsSettled, ReadsHold, kept_shape, known_by, read_anew, reads_another, refreshed}
use Rattle.rx_meaning.specs.Touched.{component_in, contexts_below}
use Rattle.commit_laws.specs.Each.{ForEach, ForEachIn}
use Rattle.commit_laws.specs.Idle.{AllIdle, IsIdle, IsIdleMark}
use Rattle.commit_laws.proofs.TakeOver.{idle_shape, settled_no_null}
use Rattle.cost_laws.specs.Causes.{has_cause, is_called, is_due, some_update}
use Rattle.cost_laws.specs.Evaluated.{Flag, below_node, evaluate_shape, evaluated, is_evaluated, once_caught, own_body, stood}
use Rattle.cost_laws.specs.Undue.{IsUndue}
use Rattle.cost_laws.specs.Untouched.{is_element_of, is_untouched}

-- Causes

not_called : (s : Sight) (cs : Contexts) (i : Instance) (n : ℕ) → i.number ≡ Some n → some_update (is_due s) s n i.initials ≡ false → (read_anew cs i.reads || refreshed (version_seen s) i.versions) ≡ false
    → is_called s cs (Some i) ≡ false
not_called s cs i n numbered undue calm = rw (numbered, undue, calm) refl

undue_calm : (s : Sight) (cs : Contexts) (i : Instance) → IsUndue s (of_instance i) → (read_anew cs i.reads || refreshed (version_seen s) i.versions) ≡ false → is_called s cs (Some i) ≡ false
undue_calm s cs i h calm = not_called s cs i h.0 h.1 h.2 calm

body_rests : (s : Sight) (cs : Contexts) (e : Element) (m : Mark) (ns fs : Forest) → IsOwn s.program (known_by s) e m ns fs → IsUndue s m → reads_another (version_seen s) cs m ≡ false
    → has_cause s cs e (Some (node e m ns fs)) ≡ false
body_rests s cs elements.null m ns fs own undue calm = refl
body_rests s cs (elements.text t) m ns fs own undue calm = refl
body_rests s cs (elements.host n key attrs es) m ns fs own undue calm = refl
body_rests s cs (elements.comp c key props given) m ns fs own undue calm =
    let here : IsUndue s (of_instance own.0) = subst (IsUndue s) own.1 undue in
    let reads : (read_anew cs own.0.reads || refreshed (version_seen s) own.0.versions) ≡ false = rw own.1 at calm in
    rw (own.1, undue_calm s cs own.0 here reads) refl
body_rests s cs (elements.list marked es) m ns fs own undue calm = refl
body_rests s cs (elements.boundary key f es) m ns fs own undue calm = refl
body_rests s cs (elements.catcher key f es) m ns fs own undue calm = refl
body_rests s cs (elements.provider c key x es) m ns fs own undue calm = refl

nothing_evaluated : (component cause equal : Bool) → cause ≡ false → equal ≡ true → (component && (cause || not equal)) ≡ false
nothing_evaluated true cause equal h k = rw (h, k) refl
nothing_evaluated false cause equal h k = refl

-- If it has no cause, the body of an old node's place is not evaluated once its own element is given again.
pub not_evaluated : (s : Sight) (cs : Contexts) (e : Element) (m : Mark) (ns fs : Forest) → has_cause s cs e (Some (node e m ns fs)) ≡ false → is_evaluated s cs e (Some (node e m ns fs)) ≡ false
not_evaluated s cs e m ns fs calm =
    nothing_evaluated (is_some (component_in e)) (has_cause s cs e (Some (node e m ns fs))) (is_element_of e (Some (node e m ns fs))) calm (same_element-self e)

-- Places

-- a place neither waits nor throws
abbrev Stands : Place → Type 0
Stands empty = Unit {0}
Stands (made n) = Unit {0}
Stands (waits a) = ⊥
Stands (throws x) = ⊥

-- a list neither waits nor throws
abbrev AllStand : Places → Type 0
AllStand (all_made ns) = Unit {0}
AllStand (one_waits a) = ⊥
AllStand (one_throws x) = ⊥

before_stands : (p : Place) (ps : Places) → Stands p → AllStand ps → AllStand (before p ps)
before_stands empty (all_made ns) h k = tt
before_stands empty (one_waits a) h k = k
before_stands empty (one_throws x) h k = k
before_stands (made n) (all_made ns) h k = tt
before_stands (made n) (one_waits a) h k = k
before_stands (made n) (one_throws x) h k = k
before_stands (waits a) ps h k = absurd h
before_stands (throws x) ps h k = absurd h

over_stands : (e : Element) (m : Mark) (ps : Places) → AllStand ps → Stands (over e m ps)
over_stands e m (all_made ns) h = tt
over_stands e m (one_waits a) h = absurd h
over_stands e m (one_throws x) h = absurd h

boundary_stands : (e : Element) (old : Option Node) (ps qs : Places) → AllStand ps → Stands (over_boundary e old ps qs)
boundary_stands e old (all_made ns) qs h = tt
boundary_stands e old (one_waits a) qs h = absurd h
boundary_stands e old (one_throws x) qs h = absurd h

catcher_stands : (e : Element) (ps qs : Places) → AllStand ps → Stands (over_catcher e ps qs)
catcher_stands e (all_made ns) qs h = tt
catcher_stands e (one_waits a) qs h = absurd h
catcher_stands e (one_throws x) qs h = absurd h

no_fallback : (ps : Places) (k : ℕ) → AllStand ps → if_waits ps k ≡ 0
no_fallback (all_made ns) k h = refl
no_fallback (one_waits a) k h = absurd h
no_fallback (one_throws x) k h = absurd h

none_caught : (ps : Places) (k : ℕ) → AllStand ps → if_throws ps k ≡ 0
none_caught (all_made ns) k h = refl
none_caught (one_waits a) k h = absurd h
none_caught (one_throws x) k h = absurd h

stands_then : (p : Place) (k : ℕ) → k ≡ 0 → unless_waits p k ≡ 0
stands_then empty k h = h
stands_then (made n) k h = h
stands_then (waits a) k h = refl
stands_then (throws x) k h = refl

-- a place rests: nothing is evaluated at it and below it, and it neither waits nor throws
abbrev Rests : ℕ → Sight → Flag → Contexts → Element → Option Node → Type 0
Rests n s u cs e old = (evaluated n s u cs e old ≡ 0) × Stands (rendered n s cs e old)

-- the places of a list rest
abbrev AllRest : ℕ → Sight → Flag → Contexts → List (Element × Option Node) → Type 0
AllRest n s u cs xs = (try_all (evaluated n s u cs) (rendered n s cs) xs ≡ 0) × AllStand (render_all (rendered n s cs) xs)

-- the children of a node rest
abbrev PartRests : ℕ → Sight → Flag → Part → Type 0
PartRests n s u p = (count_part (evaluated n s u) (rendered n s) p ≡ 0) × AllStand (render_part (rendered n s) p)

nothing_if : (b : Bool) (k : ℕ) → k ≡ 0 → cond b 0 k ≡ 0
nothing_if true k h = refl
nothing_if false k h = h

-- nothing is evaluated at a place and below it, and it neither waits nor throws, by what stands there
abbrev ShapeRests : ℕ → Sight → Flag → Contexts → Element → Option Node → Shape → Type 0
ShapeRests n s u cs e old shape = (evaluate_shape (evaluated n s) (rendered n s) s u cs e old shape ≡ 0) × Stands (place_of (rendered n s) e old shape)

one_rests : (n : ℕ) (s : Sight) (u : Flag) (cs : Contexts) (e : Element) (old : Option Node) (m : Mark) (p : Part) → own_body s cs e old ≡ 0
    → PartRests n s (below_node u e old) p → ShapeRests n s u cs e old (one_list m p)
one_rests n s u cs e old m p body h = (omega (arith, body, h.0), over_stands e m (render_part (rendered n s) p) h.1)

two_rest : (n : ℕ) (s : Sight) (u : Flag) (cs : Contexts) (e : Element) (old : Option Node) (p f : Part) → PartRests n s (below_node u e old) p
    → ShapeRests n s u cs e old (two_lists p f)
two_rest n s u cs e old p f h = (
  omega (
    arith,
    nothing_if (is_untouched s (stood u) e old) (count_part (evaluated n s (below_node u e old)) (rendered n s) p) h.0,
    no_fallback (render_part (rendered n s) p) (count_part (evaluated n s u) (rendered n s) f) h.1,
  ),
  boundary_stands e old (render_part (rendered n s) p) (render_part (rendered n s) f) h.1,
)

tried_rests : (n : ℕ) (s : Sight) (u : Flag) (cs : Contexts) (e : Element) (old : Option Node) (p f : Part) → PartRests n s (below_node u e old) p
    → ShapeRests n s u cs e old (guarded p f)
tried_rests n s u cs e old p f h = (
  omega (arith, h.0, none_caught (render_part (rendered n s) p) (count_part (evaluated n s (once_caught u)) (rendered n s) f) h.1),
  catcher_stands e (render_part (rendered n s) p) (render_part (rendered n s) f) h.1,
)

-- an error boundary that has caught a value rests if its fallback does, and another if its children do
catcher_rests : (n : ℕ) (s : Sight) (u : Flag) (cs : Contexts) (e f : Element) (old : Option Node) (m : Mark) (ns fs : Forest) (caught : Bool) → own_body s cs e old ≡ 0
    → PartRests n s (below_node u e old) (part cs (elements_in ns) ns) → PartRests n s (below_node u e old) (part cs (elements_in fs) fs)
    → ShapeRests n s u cs e old (if caught then one_list m (part cs (elements_in fs) fs) else guarded (part cs (elements_in ns) ns) (part cs (f ∷ []) none))
catcher_rests n s u cs e f old m ns fs true body h k = one_rests n s u cs e old m (part cs (elements_in fs) fs) body k
catcher_rests n s u cs e f old m ns fs false body h k = tried_rests n s u cs e old (part cs (elements_in ns) ns) (part cs (f ∷ []) none) h

kept_rests : (n : ℕ) (s : Sight) (u : Flag) (cs : Contexts) (e : Element) (old : Option Node) (m : Mark) (ns fs : Forest)
    → own_body s cs e old ≡ 0 → ((v : Flag) → PartRests n s v (part (contexts_below e cs) (elements_in ns) ns)) → ((v : Flag) → PartRests n s v (part cs (elements_in fs) fs))
    → ShapeRests n s u cs e old (kept_shape cs e m ns fs)
kept_rests n s u cs elements.null old m ns fs body h second = (refl, tt)
kept_rests n s u cs (elements.text t) old m ns fs body h second =
    one_rests n s u cs (elements.text t) old m (part cs (elements_in ns) ns) body (h (below_node u (elements.text t) old))
kept_rests n s u cs (elements.host x key attrs es) old m ns fs body h second =
    one_rests n s u cs (elements.host x key attrs es) old m (part cs (elements_in ns) ns) body (h (below_node u (elements.host x key attrs es) old))
kept_rests n s u cs (elements.comp c key props given) old m ns fs body h second =
    one_rests n s u cs (elements.comp c key props given) old m (part cs (elements_in ns) ns) body (h (below_node u (elements.comp c key props given) old))
kept_rests n s u cs (elements.list marked es) old m ns fs body h second =
    one_rests n s u cs (elements.list marked es) old m (part cs (elements_in ns) ns) body (h (below_node u (elements.list marked es) old))
kept_rests n s u cs (elements.boundary key f es) old m ns fs body h second =
    two_rest n s u cs (elements.boundary key f es) old (part cs (elements_in ns) ns) (part cs (f ∷ []) fs) (h (below_node u (elements.boundary key f es) old))
kept_rests n s u cs (elements.catcher key f es) old m ns fs body h second =
    let e = elements.catcher key f es in
    catcher_rests n s u cs e f old m ns fs (is_caught m) body (h (below_node u e old)) (second (below_node u e old))
kept_rests n s u cs (elements.provider c key x es) old m ns fs body h second =
    one_rests n s u cs (elements.provider c key x es) old m (part (contexts_below (elements.provider c key x es) cs) (elements_in ns) ns) body
    (h (below_node u (elements.provider c key x es) old))

-- a list against its own elements rests if its places do
own_part_rests : (n : ℕ) (s : Sight) (u : Flag) (cs : Contexts) (ns : Forest) → NoNull ns → AllRest n s u cs (zip (elements_in ns) (places ns))
    → PartRests n s u (part cs (elements_in ns) ns)
own_part_rests n s u cs ns there h = rw (matches_itself ns there) h

-- Trees

first_rests : (n : ℕ) (s : Sight) (u : Flag) (cs : Contexts) (e : Element) (old : Option Node) (xs : List (Element × Option Node)) → Rests n s u cs e old → AllRest n s u cs xs
    → AllRest n s u cs ((e, old) ∷ xs)
first_rests n s u cs e old xs h k = (
  omega (arith, h.0, stands_then (rendered n s cs e old) (try_all (evaluated n s u cs) (rendered n s cs) xs) k.0),
  before_stands (rendered n s cs e old) (render_all (rendered n s cs) xs) h.1 k.1,
)

gap_rests : (n : ℕ) (s : Sight) (u : Flag) (cs : Contexts) → Rests n s u cs elements.null None
unfolding evaluated rendered
gap_rests zero s u cs = (refl, tt)
gap_rests (suc n) s u cs = (refl, tt)

place_rests : (n : ℕ) (s : Sight) (u : Flag) (cs : Contexts) (e : Element) (m : Mark) (ns fs : Forest) → shape_of s cs e (Some (node e m ns fs)) ≡ kept_shape cs e m ns fs
    → ShapeRests n s u cs e (Some (node e m ns fs)) (kept_shape cs e m ns fs)
    → Rests (suc n) s u cs e (Some (node e m ns fs))
unfolding evaluated rendered
place_rests n s u cs e m ns fs shape h = rw shape h

-- nothing of an idle tree is hidden, so all of it reads the contexts of its place
reads_below : (s : Sight) (m : Mark) (A : Type 0) → IsIdleMark s m → IfHidden (is_hidden m) (Unit {0}) A → A
reads_below s (of_instance i) A idle reads = reads
reads_below s (of_host h) A idle reads = reads
reads_below s (of_catcher c) A idle reads = reads
reads_below s plain A idle reads = reads
reads_below s (of_boundary Shown) A idle reads = reads
reads_below s (of_boundary (Hidden a)) A idle reads = absurd idle

no_level_rests : (s : Sight) (u : Flag) (cs : Contexts) (e : Element) (old : Option Node) → Rests zero s u cs e old
unfolding evaluated rendered
no_level_rests s u cs e old = (refl, tt)

mutual
  tree_rests : (n : ℕ) (s : Sight) (u : Flag) (cs : Contexts) (x : Node) → IsSettled s.program (known_by s) x → IsIdle s x → ForEach (IsUndue s) x → ReadsHold (version_seen s) cs x
      → Rests n s u cs (element_of x) (Some x)
  tree_rests zero s u cs (node e m ns fs) settled idle undue reads = no_level_rests s u cs e (Some (node e m ns fs))
  tree_rests (suc n) s u cs (node e m ns fs) settled idle undue reads =
      place_rests n s u cs e m ns fs (idle_shape s cs e m ns fs settled.0 idle.0 reads.0)
      (kept_rests n s u cs e (Some (node e m ns fs)) m ns fs (ap (λ b. cond b 1 0) (not_evaluated s cs e m ns fs (body_rests s cs e m ns fs settled.0 undue.0 reads.0)))
      (λ v. own_part_rests n s v (contexts_below e cs) ns (settled_no_null s.program (known_by s) ns settled.1)
      (trees_rest n s v (contexts_below e cs) ns settled.1 idle.1 undue.1 (reads_below s m (AllReadsHold (version_seen s) (contexts_below e cs) ns) idle.0 reads.1)))
      (λ v. own_part_rests n s v cs fs (settled_no_null s.program (known_by s) fs settled.2) (trees_rest n s v cs fs settled.2 idle.2 undue.2 reads.2)))

  trees_rest : (n : ℕ) (s : Sight) (u : Flag) (cs : Contexts) (ns : Forest) → AllSettled s.program (known_by s) ns → AllIdle s ns → ForEachIn (IsUndue s) ns → AllReadsHold (version_seen s) cs ns
      → AllRest n s u cs (zip (elements_in ns) (places ns))
  trees_rest n s u cs none settled idle undue reads = (refl, tt)
  trees_rest n s u cs (vacant ns) settled idle undue reads =
      first_rests n s u cs elements.null None (zip (elements_in ns) (places ns)) (gap_rests n s u cs) (trees_rest n s u cs ns settled idle undue reads)
  trees_rest n s u cs (child x ns) settled idle undue reads =
      first_rests n s u cs (element_of x) (Some x) (zip (elements_in ns) (places ns))
      (tree_rests n s u cs x settled.0 idle.0 undue.0 reads.0) (trees_rest n s u cs ns settled.1 idle.1 undue.1 reads.1)

-- Nothing is evaluated of a tree whose own element is given again, that is idle, whose instances have each included update done, and in which reads hold.
pub nothing_rests : (s : Sight) (u : Flag) (cs : Contexts) (x : Node) (n : ℕ) → IsSettled s.program (known_by s) x → IsIdle s x → ForEach (IsUndue s) x → ReadsHold (version_seen s) cs x
    → evaluated n s u cs (element_of x) (Some x) ≡ 0
nothing_rests s u cs x n settled idle undue reads = (tree_rests n s u cs x settled idle undue reads).0
