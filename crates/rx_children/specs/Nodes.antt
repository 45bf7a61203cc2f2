-- What a fiber is begun with, and what its current fiber tells of before.
use Rattle.std.specs.Prelude.{◌≡◌, ℕ, ℤ, Bool, List, [], Option, Some, None}
use Rattle.rx_ctx.specs.Contexts as contexts
use Rattle.rx_ctx.specs.Contexts.{Stack}
use Rattle.rx_elem.specs.Elements.{Element, listed}
use Rattle.rx_elem.specs.Elements as elements
use Rattle.rx_elem.specs.Trees.{Mark, of_host, plain}
use Rattle.rx_lists.specs.Shapes.{IsTop}
use Rattle.rx_lists.specs.Shapes as shapes
use Rattle.rx_links.specs.Drafts.{Draft, taken, made, Trees, entry, kids_under}
use Rattle.rx_links.specs.Places.{Around, placed}
use Rattle.rx_links.specs.Readers.{list_from}
use Rattle.rx_fiber.specs.declared.subtree.Subtree.{Subtree}
use Rattle.rx_fiber.specs.Fibers.{Stage, Fiber, waiting, begun, trying, guarding, joined, marked_subtree}
use Rattle.rx_fiber.specs.Subtrees.{subtree_at}
use Rattle.rx_causes.specs.Marks.{mark_at}
use Rattle.rx_fiber.specs.declared.stage.Origin.{Origin}
use Rattle.rx_children.specs.Children.{AreMade}
use Rattle.rx_children.specs.declared.node.Begun.{Begun}
use Rattle.rx_children.specs.declared.node.Begun.TheVariants.{Child, Leaf}

-- a made fiber that has no children yet
pub record IsBareAt (t : Trees Fiber) (p : ℕ) : Type 0 where
  pub around : Around Fiber
  pub value : Fiber
  pub old : Option ℕ
  pub rest : Draft Fiber
  pub here : t.draft ≡ placed around (made p value old (taken shapes.none) rest)

-- the same, and the current list that begins with a fiber is among the children of the one that it was made for
pub record IsBareBeside (t : Trees Fiber) (p : ℕ) (first : Option ℕ) : Type 0 where
  pub around : Around Fiber
  pub value : Fiber
  pub old : Option ℕ
  pub rest : Draft Fiber
  pub here : t.draft ≡ placed around (made p value old (taken shapes.none) rest)
  pub tops : (j : ℕ) → IsTop (list_from t.current first) j → IsTop (kids_under t.current old) j

-- where a render comes from a fiber that is begun over these children
abbrev pub begun_over : Draft Fiber → Begun
begun_over (taken s) = Leaf
begun_over (made id v o ks rs) = Child id

-- the same, from its first child, if it has one
abbrev pub begun_from : (first : Option ℕ) → Begun
begun_from None = Leaf
begun_from (Some id) = Child id

-- a made fiber that had no children has this stage and the children of these elements, of which so much is known, and nothing else is changed
pub record HasList (origin : Origin) (before after : Trees Fiber) (p : ℕ) (stage : Stage) (es : List Element) (os : List (Option ℕ)) (first : Option ℕ) : Type 0 where
  pub kids : Draft Fiber
  pub are : AreMade before.current origin 0 es os kids
  pub stands : (k : Around Fiber) (v : Fiber) (o : Option ℕ) (rs : Draft Fiber)
      → before.draft ≡ placed k (made p v o (taken shapes.none) rs) → after.draft ≡ placed k (made p (record v { stage = stage }) o kids rs)
  pub current : after.current ≡ before.current
  pub first_is : first ≡ entry kids

-- the same, with where the render comes from there
pub record HasOpened (origin : Origin) (before after : Trees Fiber) (p : ℕ) (stage : Stage) (es : List Element) (os : List (Option ℕ)) (answer : Begun) : Type 0 where
  pub kids : Draft Fiber
  pub are : AreMade before.current origin 0 es os kids
  pub stands : (k : Around Fiber) (v : Fiber) (o : Option ℕ) (rs : Draft Fiber)
      → before.draft ≡ placed k (made p v o (taken shapes.none) rs) → after.draft ≡ placed k (made p (record v { stage = stage }) o kids rs)
  pub current : after.current ≡ before.current
  pub answer_is : answer ≡ begun_over kids

-- a fiber with the mark of its old one, and with what is kept on that
abbrev pub taken_as : Mark → Subtree → Fiber → Fiber
taken_as m under v = record v { stage = begun m; subtree = joined (marked_subtree m) under }

-- a made fiber that had no children has the mark of its old one, what is kept on that, and the children of that one as they stand; nothing else is changed
abbrev pub HasTaken : (before after : Trees Fiber) → (p : ℕ) → Type 0
HasTaken t new p =
    (k : Around Fiber) (v : Fiber) (o : Option ℕ) (rs : Draft Fiber) (m : Mark) → t.draft ≡ placed k (made p v o (taken shapes.none) rs) → mark_at t.current o ≡ Some m
    → new.draft ≡ placed k (made p (taken_as m (subtree_at t.current o) v) o (taken (kids_under t.current o)) rs)

-- the number, the props and the children of a component's element
abbrev pub parts_in : Element → Option (ℕ × (List ℤ × List Element))
parts_in elements.null = None
parts_in (elements.text t) = None
parts_in (elements.host name k attrs es) = None
parts_in (elements.comp c k ps es) = Some (c, (ps, listed es))
parts_in (elements.list marked es) = None
parts_in (elements.boundary k f es) = None
parts_in (elements.catcher k f es) = None
parts_in (elements.provider c k x es) = None

-- how far the fiber of another element has come once it is begun, if so much is known of its place and a host of before has this number
abbrev pub begun_stage : Element → Origin → (number : Option ℕ) → Stage
begun_stage elements.null origin n = waiting origin
begun_stage (elements.text t) origin n = begun (of_host n)
begun_stage (elements.host name k attrs es) origin n = begun (of_host n)
begun_stage (elements.comp c k ps es) origin n = waiting origin
begun_stage (elements.list marked es) origin n = begun plain
begun_stage (elements.boundary k f es) origin n = trying origin
begun_stage (elements.catcher k f es) origin n = guarding
begun_stage (elements.provider c k x es) origin n = begun plain

-- the children that it is begun over
abbrev pub begun_children : Element → List Element
begun_children elements.null = []
begun_children (elements.text t) = []
begun_children (elements.host name k attrs es) = listed es
begun_children (elements.comp c k ps es) = []
begun_children (elements.list marked es) = listed es
begun_children (elements.boundary k f es) = listed es
begun_children (elements.catcher k f es) = listed es
begun_children (elements.provider c k x es) = listed es

-- what it makes of the stack of contexts, if it may give another value than its old node gave
abbrev pub begun_stack : Element → (moves : Bool) → Stack → Stack
begun_stack elements.null b st = st
begun_stack (elements.text t) b st = st
begun_stack (elements.host name k attrs es) b st = st
begun_stack (elements.comp c k ps es) b st = st
begun_stack (elements.list marked es) b st = st
begun_stack (elements.boundary k f es) b st = st
begun_stack (elements.catcher k f es) b st = st
begun_stack (elements.provider c k x es) b st = contexts.below c x b st

-- the context that it gives a value, if it is one of a provider
abbrev pub given_context : Element → Option ℕ
given_context elements.null = None
given_context (elements.text t) = None
given_context (elements.host name k attrs es) = None
given_context (elements.comp c k ps es) = None
given_context (elements.list marked es) = None
given_context (elements.boundary k f es) = None
given_context (elements.catcher k f es) = None
given_context (elements.provider c k x es) = Some c
