-- What a fiber holds beside its links.
use Rattle.std.specs.Prelude.{◌==◌, ◌||◌, ℕ, Bool, true, false, not, Some, is_some, length}
use Rattle.std.specs.Option.{option_map_or}
use Rattle.rx_susp.specs.declared.boundary.BoundaryState.TheVariants.{Shown}
use Rattle.rx_base.specs.Awaits.{Awaits}
use Rattle.rx_catch.specs.declared.state.CatchState.TheVariants.{Fine}
use Rattle.rx_elem.specs.Elements.{Element}
use Rattle.rx_elem.specs.Trees.{Mark, of_instance, of_host, of_boundary, of_catcher, plain, instance_in, is_hidden}
use Rattle.rx_fiber.specs.declared.stage.Origin.{Origin}
use Rattle.rx_fiber.specs.declared.subtree.Subtree.{Subtree}

-- how far a fiber has come
pub data Stage : Type 0 where
  -- it is made for a place that the render has not come to
  waiting : Origin → Stage
  -- it is begun: a node with this mark, over its children
  begun : Mark → Stage
  -- a boundary whose children are tried, with what is known of its place
  trying : Origin → Stage
  -- an error boundary whose children are tried
  guarding : Stage
  -- the fallback of the boundary right before it, which keeps its primary content and waits for these
  fallback : Awaits → Stage

-- what is known of a fiber whose element may be another than that of the current fiber for which it was made; it has this generation
abbrev pub as_matched : (visible : Bool) (generation : ℕ) → Origin
as_matched visible generation = record { cloned = false; visible = visible; generation = generation }

-- what is known of a clone
abbrev pub as_cloned : (visible : Bool) → Origin
as_cloned visible = record { cloned = true; visible = visible; generation = 0 }

-- it is made for a place that the render has not come to, and cloned: its element is that of the current fiber for which it was made
abbrev pub is_cloned : Stage → Bool
is_cloned (waiting c) = c.cloned
is_cloned (begun m) = false
is_cloned (trying c) = false
is_cloned guarding = false
is_cloned (fallback a) = false

-- it is made for a place that the render has not come to, and the current fiber for which it was made, if for one, is shown
abbrev pub is_visible : Stage → Bool
is_visible (waiting c) = c.visible
is_visible (begun m) = false
is_visible (trying c) = false
is_visible guarding = false
is_visible (fallback a) = false

-- what is known of the place of a fiber that waits or tries its children
abbrev pub origin_of : Stage → Origin
origin_of (waiting c) = c
origin_of (begun m) = as_matched false 0
origin_of (trying c) = c
origin_of guarding = as_matched false 0
origin_of (fallback a) = as_matched false 0

-- the generation of its element
abbrev pub generation_of : Stage → ℕ
generation_of stage = (origin_of stage).generation

-- a fiber: its place among the children of its parent, its element, how far it has come, and once it is done what is at or below it
pub record Fiber : Type 0 where
  pub place : ℕ
  pub element : Element
  pub stage : Stage
  pub subtree : Subtree

-- neither a read of a context or a resource, nor a hidden boundary, nor an instance
abbrev pub nothing : Subtree
nothing = record { reads = false; uses = false; hides = false; instances = false }

-- what one of two tells, or the other
abbrev pub joined : Subtree → Subtree → Subtree
joined a b = record { reads = a.reads || b.reads; uses = a.uses || b.uses; hides = a.hides || b.hides; instances = a.instances || b.instances }

-- what a node tells of itself, by its mark: an instance, whether it reads a context and whether a resource; a boundary, whether it is hidden
abbrev pub marked_subtree : Mark → Subtree
marked_subtree m =
    record {
      reads = option_map_or (λ i. not (length i.reads == 0)) (instance_in m) false;
      uses = option_map_or (λ i. not (length i.versions == 0)) (instance_in m) false;
      hides = is_hidden m;
      instances = is_some (instance_in m);
    }

-- what a fiber tells of itself
abbrev pub own_subtree : Stage → Subtree
own_subtree (waiting c) = nothing
own_subtree (begun m) = marked_subtree m
own_subtree (trying c) = nothing
own_subtree guarding = nothing
own_subtree (fallback a) = nothing

-- a node is completed: a boundary whose children were tried is shown, an error boundary has caught nothing, and nothing else changes
abbrev pub completed_stage : Stage → Stage
completed_stage (waiting c) = waiting c
completed_stage (begun m) = begun m
completed_stage (trying c) = begun (of_boundary Shown)
completed_stage guarding = begun (of_catcher Fine)
completed_stage (fallback a) = fallback a

-- the fiber of a node that is completed, with this at or below its children
abbrev pub completed : Subtree → Fiber → Fiber
completed below v = record v { stage = completed_stage v.stage; subtree = joined (own_subtree (completed_stage v.stage)) below }

-- the mark of an instance or a host with this number
abbrev pub with_number : ℕ → Mark → Mark
with_number n (of_instance i) = of_instance (record i { number = Some n })
with_number n (of_host h) = of_host (Some n)
with_number n (of_boundary b) = of_boundary b
with_number n (of_catcher c) = of_catcher c
with_number n plain = plain

-- an instance or a host gets this number, and nothing else changes
abbrev pub numbered_stage : ℕ → Stage → Stage
numbered_stage n (waiting c) = waiting c
numbered_stage n (begun m) = begun (with_number n m)
numbered_stage n (trying c) = trying c
numbered_stage n guarding = guarding
numbered_stage n (fallback a) = fallback a
