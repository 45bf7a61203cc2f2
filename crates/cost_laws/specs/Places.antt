-- The places whose bodies a render evaluates, as a set.
use Rattle.std.specs.Prelude.{◌≡◌, ℕ, zero, suc, Bool, true, false, ◌||◌, List, [], ◌∷◌, ◌++◌, ◌⊎◌, Option, filter, map, if◌then◌else◌}
use Rattle.std.specs.List.{All}
use Rattle.rx_elem.specs.Elements.{Element}
use Rattle.rx_elem.specs.Trees.{Node}
use Rattle.rx_meaning.specs.Fresh.{Sight, Contexts, Renders, rendered, depth_limit, default_contexts, root_element, Part, Shape, absent, waiting, throwing, one_list, two_lists, guarded, shape_of, render_part}
use Rattle.rx_meaning.specs.Touched.{Address, children_with_old, ends_list, is_throw, is_wait}
use Rattle.cost_laws.specs.Causes.{has_cause, is_dirty}
use Rattle.cost_laws.specs.Evaluated.{Flag, above_root, below_node, is_evaluated, once_caught, stood}
use Rattle.cost_laws.specs.Untouched.{is_retried, is_untouched}

-- a place that a render comes to, what untouched boundaries keep apart
pub record Coming : Type 0 where
  pub address : Address
  -- it is a component's place whose body is evaluated
  pub evaluated : Bool
  -- it is a component's place that has a cause
  pub caused : Bool
  -- it is a component's place that is dirty: it has a cause, or other props or other children than when it was evaluated last
  pub dirty : Bool
  -- it is that of a boundary that was hidden and is tried again
  pub retried : Bool
  -- it lies below a place that has a cause or is tried again
  pub below : Bool

-- what the places above tell of one: its address, whether it lies below one that has a cause or is tried again, and the flag
pub record Above : Type 0 where
  pub address : Address
  pub below : Bool
  pub flag : Flag

-- the comings at a place and below it
abbrev pub Comings : Type 0
Comings = Above → Contexts → Element → Option Node → List Coming

-- to the children from a place on, in order, up to the first that waits or throws
abbrev pub come_all : Comings → Renders → Above → Contexts → (place : ℕ) → List (Element × Option Node) → List Coming
come_all come render a cs k [] = []
come_all come render a cs k (x ∷ xs) =
    come (record a { address = k ∷ a.address }) cs x.0 x.1
    ++ (if ends_list (render x.0 x.1) then [] else come_all come render a cs (suc k) xs)

-- to the children of a node
abbrev pub come_part : Comings → (Contexts → Renders) → Above → Part → List Coming
come_part come below a p = come_all come (below p.contexts) a p.contexts 0 (children_with_old p)

-- to a place itself
abbrev pub coming_here : Sight → Above → Contexts → Element → Option Node → Coming
coming_here s a cs e old =
    record {
      address = a.address;
      evaluated = is_evaluated s cs e old;
      caused = has_cause s cs e old;
      dirty = is_dirty s cs e old;
      retried = is_retried s (stood a.flag) e old;
      below = a.below;
    }

-- what is told of the places below one
abbrev pub above_with : Above → Sight → Contexts → Element → Option Node → Flag → Above
above_with a s cs e old u = record { address = a.address; below = a.below || (has_cause s cs e old || is_retried s (stood a.flag) e old); flag = u }

-- to a place and to those below it, by what stands there; the primary of a boundary, of Suspense or of errors, has the address 0 below it, its fallback 1
abbrev pub come_shape : Comings → (Contexts → Renders) → Sight → Above → Contexts → Element → Option Node → Shape → List Coming
come_shape come below s a cs e old absent = []
come_shape come below s a cs e old (waiting r v) = coming_here s a cs e old ∷ []
come_shape come below s a cs e old (throwing x) = coming_here s a cs e old ∷ []
come_shape come below s a cs e old (one_list m p) =
    coming_here s a cs e old ∷ come_part come below (above_with a s cs e old (below_node a.flag e old)) p
come_shape come below s a cs e old (two_lists p f) =
    let primary = above_with a s cs e old (below_node a.flag e old) in
    let second = above_with a s cs e old a.flag in
    coming_here s a cs e old
    ∷ ((if is_untouched s (stood a.flag) e old then [] else come_part come below (record primary { address = 0 ∷ a.address }) p)
    ++ (if is_wait (render_part below p) then come_part come below (record second { address = 1 ∷ a.address }) f else []))
come_shape come below s a cs e old (guarded p f) =
    let primary = above_with a s cs e old (below_node a.flag e old) in
    let second = above_with a s cs e old (once_caught a.flag) in
    coming_here s a cs e old
    ∷ (come_part come below (record primary { address = 0 ∷ a.address }) p
    ++ (if is_throw (render_part below p) then come_part come below (record second { address = 1 ∷ a.address }) f else []))

-- to a place and below it, with so many levels
unfoldable pub comings : ℕ → Sight → Comings
comings zero s a cs e old = []
comings (suc levels) s a cs e old = come_shape (comings levels s) (rendered levels s) s a cs e old (shape_of s cs e old)

-- in a whole render
unfoldable pub whole_comings : Sight → Option Node → List Coming
whole_comings s old = comings depth_limit s (record { address = []; below = false; flag = above_root }) (default_contexts s.program) (root_element s.program) old

-- the places whose bodies a render evaluates
abbrev pub evaluated_places : Sight → Option Node → List Address
evaluated_places s old = map (λ v. v.address) (filter (λ v. v.evaluated) (whole_comings s old))

-- the component places that a render comes to and that are dirty
abbrev pub dirty_places : Sight → Option Node → List Address
dirty_places s old = map (λ v. v.address) (filter (λ v. v.dirty) (whole_comings s old))

-- no two of these addresses are equal
abbrev pub AllApart : List Address → Type 0
AllApart [] = Unit {0}
AllApart (a ∷ others) = All (λ b. a ≡ b → ⊥) others × AllApart others

-- The places whose bodies a render evaluates: each that has a cause is one; each of them has one, or lies below a place that has one or that is tried again; and none is there twice. They are exactly the dirty ones.
pub record AreEvaluated (s : Sight) (old : Option Node) : Type 0 where
  pub each : All (λ v. v.caused ≡ true → v.evaluated ≡ true) (whole_comings s old)
  pub none_else : All (λ v. v.evaluated ≡ true → (v.caused ≡ true) ⊎ (v.below ≡ true)) (whole_comings s old)
  pub once : AllApart (evaluated_places s old)
  pub exact : evaluated_places s old ≡ dirty_places s old
