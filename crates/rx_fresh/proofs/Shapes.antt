-- What a place gives, by what stands in it.
use Rattle.std.specs.Prelude.{◌≡◌, ◌<◌, ◌+◌, ℕ, suc, ℤ, List, Option, Some, None, option_map}
use Rattle.std.proofs.Common.{refl, sym, ap, ◌∙◌, subst, arith}
use Rattle.rx_base.specs.Awaits.{resource_limit}
use Rattle.rx_base.specs.Awaits as awaits
use Rattle.rx_ast.specs.Syntax.{Component, Program}
use Rattle.rx_rules.specs.Names.{component_at}
use Rattle.rx_check.specs.Accepted.{IsAccepted}
use Rattle.rx_check.proofs.Limited.{few-resources}
use Rattle.rx_elem.specs.Elements.{Element, Elements, gathered}
use Rattle.rx_elem.specs.Trees.{Node, children_if, of_instance}
use Rattle.rx_elem.specs.declared.effect.ContextRead.{ContextRead}
use Rattle.rx_elem.specs.declared.effect.EffectRecord.{EffectRecord}
use Rattle.rx_elem.specs.declared.effect.VersionRead.{VersionRead}
use Rattle.rx_meaning.specs.Body.{Body, body_of, ready, throw, wait}
use Rattle.rx_meaning.specs.Fresh.{Contexts, Renders, Sight, empty, fresh, inputs_at, instance_after, old_instance, over, place, place_of, render_list, rendered, default_contexts, root_element, depth_limit, shape_of_body, shape_of_component, throws, waits}
use Rattle.commit_laws.proofs.SmallWaits.{waits_are_small}
use Rattle.draw_laws.specs.Drawn.{AreDrawn}
use Rattle.draw_laws.proofs.Bodies.{body_drawn}
use Rattle.rx_fresh.specs.Seeing.{IsBodyOf}

-- ---- levels

pub no_level : (s : Sight) (cs : Contexts) (e : Element) (old : Option Node) (d : ℕ) → d ≡ 0 → empty ≡ rendered d s cs e old
unfolding rendered
no_level s cs e old d none = ap (λ n. rendered n s cs e old) (sym none)

level_more : (s : Sight) (cs : Contexts) (e : Element) (old : Option Node) (k : ℕ) → place (rendered k s) s cs e old ≡ rendered (suc k) s cs e old
unfolding rendered
level_more s cs e old k = refl

-- a place with so many levels from it on has one less below it
pub one_level : (s : Sight) (cs : Contexts) (e : Element) (old : Option Node) (d k : ℕ) → d ≡ k + 1 → place (rendered k s) s cs e old ≡ rendered d s cs e old
one_level s cs e old d k is = level_more s cs e old k ∙ ap (λ n. rendered n s cs e old) (let same : suc k ≡ d = omega arith in same)

-- the root with all levels
pub whole : (s : Sight) (old : Option Node) → rendered depth_limit s (default_contexts s.program) (root_element s.program) old ≡ fresh s old
unfolding fresh
whole s old = refl

-- ---- a component

module _ (s : Sight) (cs : Contexts) (c : ℕ) (props : List ℤ) (kids : Elements) (old : Option Node) where
  shape_by : (o : Option Component) (b : Body) → option_map (λ d. body_of s.program d (inputs_at s cs props kids (old_instance old))) o ≡ Some b
      → shape_of_component s cs c props kids old o ≡ shape_of_body cs c old b
  shape_by None b e = cc
  shape_by (Some d) b e = ap (shape_of_body cs c old) (let f : body_of s.program d (inputs_at s cs props kids (old_instance old)) ≡ b = cc in f)

  module _ (below : Contexts → Renders) (e : Element) (b seen : Body)
      (gives : option_map (λ d. body_of s.program d (inputs_at s cs props kids (old_instance old))) (component_at s.program c) ≡ Some seen) (is : seen ≡ b) where
    here : place_of below e old (shape_of_body cs c old b) ≡ place_of below e old (shape_of_component s cs c props kids old (component_at s.program c))
    here = ap (place_of below e old) (ap (shape_of_body cs c old) (sym is) ∙ sym (shape_by (component_at s.program c) seen gives))

    -- its body waits
    pub component_waits : (r v : ℕ) → b ≡ wait r v → waits (awaits.one r) ≡ place_of below e old (shape_of_component s cs c props kids old (component_at s.program c))
    component_waits r v same = ap (λ x. place_of below e old (shape_of_body cs c old x)) (sym same) ∙ here

    -- or throws
    pub component_throws : (x : ℤ) → b ≡ throw x → throws x ≡ place_of below e old (shape_of_component s cs c props kids old (component_at s.program c))
    component_throws x same = ap (λ y. place_of below e old (shape_of_body cs c old y)) (sym same) ∙ here

    -- or is ready
    pub component_ready : (es : List Element) (effects : List EffectRecord) (initials : List ℤ) (reads : List ContextRead) (versions : List VersionRead)
        → b ≡ ready es effects initials reads versions
        → over e (of_instance (instance_after c (old_instance old) initials reads versions effects)) (render_list (below cs) es (children_if old))
        ≡ place_of below e old (shape_of_component s cs c props kids old (component_at s.program c))
    component_ready es effects initials reads versions same = ap (λ y. place_of below e old (shape_of_body cs c old y)) (sym same) ∙ here

-- ---- what a body gives fits the program

module _ (p : Program) (accepted : IsAccepted p) (c : ℕ) (kids : List Element) where
  -- it waits for a resource below the limit
  pub small_wait : (b : Body) (r v : ℕ) → IsBodyOf p c kids b → b ≡ wait r v → r < resource_limit
  small_wait b r v x is = go (component_at p c) refl x.gives
    where
      go : (o : Option Component) → component_at p c ≡ o → option_map (λ d. body_of p d x.inputs) o ≡ Some b → r < resource_limit
      go None at e = absurd (cc e)
      go (Some d) at e = waits_are_small p (few-resources p accepted) c d x.inputs r v at (let f : body_of p d x.inputs ≡ b = cc in f ∙ is)

  -- its elements fit
  pub drawn_body : (b : Body) (es : List Element) (effects : List EffectRecord) (initials : List ℤ) (reads : List ContextRead) (versions : List VersionRead) → AreDrawn p (gathered kids)
      → IsBodyOf p c kids b → b ≡ ready es effects initials reads versions → AreDrawn p (gathered es)
  drawn_body b es effects initials reads versions drawn x is = go (component_at p c) refl x.gives
    where
      go : (o : Option Component) → component_at p c ≡ o → option_map (λ d. body_of p d x.inputs) o ≡ Some b → AreDrawn p (gathered es)
      go None at e = absurd (cc e)
      go (Some d) at e =
          body_drawn p c d x.inputs es effects initials reads versions accepted.all_known at
          (subst (λ (ks : List Element). AreDrawn p (gathered ks)) (sym x.given) drawn) (let f : body_of p d x.inputs ≡ b = cc in f ∙ is)
