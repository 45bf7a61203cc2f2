-- A component's body, from the hooks of its old instance.
use Rattle.std.specs.Prelude.{◌≡◌, ℕ, ℤ, Bool, false, List, Option, Some, None, IfSome, IsSome, option_and_then, option_map}
use Rattle.std.proofs.Common.{refl, sym, ap, ◌∙◌, subst}
use Rattle.rx_ast.specs.Syntax.{Component}
use Rattle.rx_rules.specs.Names.{component_at}
use Rattle.rx_elem.specs.Elements.{Element, Elements}
use Rattle.rx_elem.specs.Trees.{Node, Instance, instance_in}
use Rattle.rx_hooks.specs.declared.hook.Hook.{Hook}
use Rattle.rx_lists.specs.Shapes.{Shape}
use Rattle.rx_links.specs.Drafts.{Draft, taken, made, Trees}
use Rattle.rx_meaning.specs.Body.{Body, body_of}
use Rattle.rx_meaning.specs.Fresh.{Sight, Contexts, inputs_at, old_instance, shape_of_body, shape_of_component}
use Rattle.rx_fiber.specs.Fibers.{Fiber, Stage}
use Rattle.rx_fiber.specs.declared.stage.Origin.{Origin}
use Rattle.rx_fiber.specs.Reading.{IsOld}
use Rattle.rx_causes.specs.Marks.{mark_at}
use Rattle.rx_causes.specs.Scenes.{number_in, KeepsHooks}
use Rattle.rx_causes.proofs.Marks.{old_instance_is}
use Rattle.rx_children.specs.Nodes.{HasOpened, begun_over}
use Rattle.rx_begin.specs.Bodies.{HasShape}
use Rattle.rx_begin.specs.Beginning.{is_taken}
use Rattle.rx_children.specs.declared.node.Begun.{Begun}

-- hooks are kept of a number that is there
pub kept_if : (kept : ℕ → Option (List Hook)) (old : Option Instance) → KeepsHooks kept old → IfSome (number_in old) (λ n. IsSome (kept n))
kept_if kept old keeps = by_number (number_in old) refl
  where
    by_number : (o : Option ℕ) → number_in old ≡ o → IfSome o (λ n. IsSome (kept n))
    by_number None e = tt
    by_number (Some n) e = keeps n e

-- what stands there, by the body
pub shape_is : (s : Sight) (cs : Contexts) (c : ℕ) (props : List ℤ) (kids : Elements) (old : Option Node) (o : Option Component) (b : Body)
    → option_map (λ d. body_of s.program d (inputs_at s cs props kids (old_instance old))) o ≡ Some b → shape_of_component s cs c props kids old o ≡ shape_of_body cs c old b
shape_is s cs c props kids old None b e = cc
shape_is s cs c props kids old (Some d) b e = ap (shape_of_body cs c old) (let f : body_of s.program d (inputs_at s cs props kids (old_instance old)) ≡ b = cc in f)

-- the instance that an old fiber tells is that of its node
pub instance_at : (c : Shape Fiber) (alternate o : Option ℕ) (old : Option Node) (i : Option Instance) → alternate ≡ o → IsOld c o old → i ≡ option_and_then instance_in (mark_at c alternate)
    → i ≡ old_instance old
instance_at c alternate o old i same was is = is ∙ (ap (λ q. option_and_then instance_in (mark_at c q)) same ∙ old_instance_is c o old was)

-- what stands at the place of a component, by its body
pub evaluated : (s : Sight) (cs : Contexts) (c : ℕ) (props : List ℤ) (kids : Elements) (old : Option Node) (b : Body) (t new : Trees Fiber) (p : ℕ) (answer : Begun) (again steady : Bool) (generation : ℕ)
    → option_map (λ d. body_of s.program d (inputs_at s cs props kids (old_instance old))) (component_at s.program c) ≡ Some b
    → HasShape again steady generation (shape_of_body cs c old b) cs old t new p answer → HasShape again steady generation (shape_of_component s cs c props kids old (component_at s.program c)) cs old t new p answer
evaluated s cs c props kids old b t new p answer again steady generation gives has =
    subst (λ x. HasShape again steady generation x cs old t new p answer) (sym (shape_is s cs c props kids old (component_at s.program c) b gives)) has

-- What is begun over its own children

pub begun_anew : (kids : Draft Fiber) → is_taken (begun_over kids) ≡ false
begun_anew (taken s) = refl
begun_anew (made id v o ks rs) = refl

-- it takes none over
pub opened_anew : (origin : Origin) (t new : Trees Fiber) (p : ℕ) (stage : Stage) (es : List Element) (os : List (Option ℕ)) (b : Begun) → HasOpened origin t new p stage es os b → is_taken b ≡ false
opened_anew origin t new p stage es os b h = ap is_taken h.answer_is ∙ begun_anew h.kids
