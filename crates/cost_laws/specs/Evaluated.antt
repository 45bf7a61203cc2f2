-- Which bodies a render evaluates: those of components that have a cause, and of those whose element is another one than the committed one, by value. A body is a function of what it is given and what it reads, so any other would give again what it gave.
use Rattle.std.specs.Prelude.{ℕ, zero, suc, ◌+◌, Bool, true, false, not, ◌&&◌, ◌||◌, cond, List, [], is_some, Option}
use Rattle.rx_ctx.specs.Contexts.{none_moved}
use Rattle.rx_elem.specs.Elements.{Element}
use Rattle.rx_elem.specs.Trees.{Node}
use Rattle.rx_meaning.specs.Counts.{Tries, count_part, if_throws, if_waits}
use Rattle.rx_meaning.specs.Fresh.{Sight, Contexts, Renders, rendered, depth_limit, default_contexts, root_element, render_part, Shape, absent, waiting, throwing, one_list, two_lists, guarded, shape_of}
use Rattle.rx_meaning.specs.Touched.{component_in}
use Rattle.cost_laws.specs.Causes.{has_cause}
use Rattle.cost_laws.specs.Untouched.{is_element_of, is_untouched, moved_below, visible_below}

-- The places above

-- What the places above tell of one: whether its old node is visible, and the contexts that have another value at the place than the committed tree has there.
pub record Flag : Type 0 where
  pub visible : Bool
  pub moved : List ℕ

-- nothing stands above the root
abbrev pub above_root : Flag
above_root = record { visible = true; moved = [] }

-- the old node is visible, and no context has another value at the place
abbrev pub stood : Flag → Bool
stood u = u.visible && none_moved u.moved

-- what is told of the children of a node
abbrev pub below_node : Flag → Element → Option Node → Flag
below_node u e old = record { visible = visible_below u.visible e old; moved = moved_below u.moved e old }

-- of the fallback of an error boundary whose children threw: nothing of it was visible
abbrev pub once_caught : Flag → Flag
once_caught u = record u { visible = false }

-- Bodies

-- the place is a component's, and its body is evaluated: the component has a cause, or its element is not equal to the committed one
abbrev pub is_evaluated : Sight → Contexts → Element → Option Node → Bool
is_evaluated s cs e old = is_some (component_in e) && (has_cause s cs e old || not (is_element_of e old))

-- the body of a place itself
abbrev pub own_body : Sight → Contexts → Element → Option Node → ℕ
own_body s cs e old = cond (is_evaluated s cs e old) 1 0

-- how many bodies are evaluated at a place and below it
abbrev pub Evaluates : Type 0
Evaluates = Flag → Contexts → Tries

-- at a place and below it, by what stands there; the fallback of a boundary of Suspense stands as the boundary does
abbrev pub evaluate_shape : Evaluates → (Contexts → Renders) → Sight → Flag → Contexts → Element → Option Node → Shape → ℕ
evaluate_shape evaluate below s u cs e old absent = 0
evaluate_shape evaluate below s u cs e old (waiting r v) = own_body s cs e old
evaluate_shape evaluate below s u cs e old (throwing x) = own_body s cs e old
evaluate_shape evaluate below s u cs e old (one_list m p) = own_body s cs e old + count_part (evaluate (below_node u e old)) below p
evaluate_shape evaluate below s u cs e old (two_lists p f) =
    cond (is_untouched s (stood u) e old) 0 (count_part (evaluate (below_node u e old)) below p)
    + if_waits (render_part below p) (count_part (evaluate u) below f)
evaluate_shape evaluate below s u cs e old (guarded p f) =
    count_part (evaluate (below_node u e old)) below p + if_throws (render_part below p) (count_part (evaluate (once_caught u)) below f)

-- at a place and below it, with so many levels
unfoldable pub evaluated : ℕ → Sight → Evaluates
evaluated zero s u cs e old = 0
evaluated (suc levels) s u cs e old = evaluate_shape (evaluated levels s) (rendered levels s) s u cs e old (shape_of s cs e old)

-- in a whole render
unfoldable pub whole_evaluated : Sight → Option Node → ℕ
whole_evaluated s old = evaluated depth_limit s above_root (default_contexts s.program) (root_element s.program) old
