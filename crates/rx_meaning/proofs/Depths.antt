-- Elements are no deeper than their bodies, so what stands in a place needs one level less below it.
use Rattle.std.specs.Prelude.{◌≡◌, ℕ, zero, suc, ◌+◌, ◌≤◌, max, Bool, true, false, cond, List, [], ◌∷◌, map, ℤ, Option, Some, None, pos, refl}
use Rattle.std.specs.List.{range_with_len}
use Rattle.std.proofs.Common.{ap, arith}
use Rattle.rx_base.specs.Arithmetic.{is_zero}
use Rattle.rx_ast.specs.Syntax.{Program, Component, Slot, Slots, body_slots}
use Rattle.rx_ast.specs.Syntax as syntax
use Rattle.rx_rules.specs.Names.{component_number, component_at}
use Rattle.rx_rules.specs.Bounds.{slot_by, slots_by, body_if, body_by, levels}
use Rattle.rx_elem.specs.Elements.{Element, Elements, listed, gathered, is_present}
use Rattle.rx_elem.specs.Elements as elements
use Rattle.rx_elem.specs.Trees.{Node, old_caught}
use Rattle.rx_meaning.specs.Expressions.{Env, value_in}
use Rattle.rx_meaning.specs.Body.{element_of, elements_of, turns, Inputs, Body, wait, throw, ready, body_of, Taken, finished, take_all, opening_frame}
use Rattle.rx_meaning.specs.Body as body
use Rattle.rx_meaning.specs.Fresh.{Sight, Contexts, Shape, absent, waiting, throwing, one_list, two_lists, guarded, shape_of_body, shape_of_component, shape_of_catcher, shape_of, inputs_at, old_instance}
use Rattle.rx_meaning.specs.Levels.{body_depth, element_depth, elements_depth, Fits, PartFits}

pub gathered-listed : (es : Elements) → gathered (listed es) ≡ es
gathered-listed elements.none = refl
gathered-listed (elements.more e es) = ap (elements.more e) (gathered-listed es)

-- how many levels the places of a slot have
abbrev slot_depth : (ℕ → ℕ) → Program → Slot → ℕ
slot_depth = slot_by levels

abbrev slots_depth : (ℕ → ℕ) → Program → Slots → ℕ
slots_depth = slots_by levels

abbrev depth_in : (ℕ → ℕ) → Program → Option Component → ℕ
depth_in = body_if levels

-- The elements of a slot

items_depth : (depths : ℕ → ℕ) (most : ℕ) (f : ℕ → Element) → ((k : ℕ) → element_depth depths (f k) ≤ most)
    → (ks : List ℕ) → elements_depth depths (gathered (map f ks)) ≤ most
items_depth depths most f h [] = omega arith
items_depth depths most f h (k ∷ ks) = omega (arith, h k, items_depth depths most f h ks)

chosen_depth : (depths : ℕ → ℕ) (most : ℕ) (b : Bool) (x y : Element) → element_depth depths x ≤ most → element_depth depths y ≤ most
    → element_depth depths (cond b x y) ≤ most
chosen_depth depths most true x y h k = h
chosen_depth depths most false x y h k = k

mutual
  pub slot_is_deep : (depths : ℕ → ℕ) (p : Program) (kids : List Element) (env : Env) (s : Slot)
      → element_depth depths (element_of p kids env s) ≤ slot_depth depths p s + elements_depth depths (gathered kids)
  slot_is_deep depths p kids env syntax.null = omega arith
  slot_is_deep depths p kids env (syntax.words t) = omega arith
  slot_is_deep depths p kids env (syntax.number_of e) = omega arith
  slot_is_deep depths p kids env syntax.children = omega arith
  slot_is_deep depths p kids env (syntax.repeated i e limit s) =
      let h = items_depth depths (slot_depth depths p s + elements_depth depths (gathered kids))
      (λ k. element_of p kids ((i, pos k) ∷ env) s)
      (λ k. slot_is_deep depths p kids ((i, pos k) ∷ env) s)
      (range_with_len 0 (turns (value_in p env e) limit)) in
      omega arith
  slot_is_deep depths p kids env (syntax.choice c a b) =
      let h = slot_is_deep depths p kids env a in
      let k = slot_is_deep depths p kids env b in
      chosen_depth depths (max (slot_depth depths p a) (slot_depth depths p b) + elements_depth depths (gathered kids))
      (is_zero (value_in p env c)) (element_of p kids env b) (element_of p kids env a) (omega arith) (omega arith)
  slot_is_deep depths p kids env (syntax.host n attrs w ss) = let h = slots_are_deep depths p kids env ss in omega arith
  slot_is_deep depths p kids env (syntax.comp n attrs w ss) = let h = slots_are_deep depths p kids env ss in omega arith
  slot_is_deep depths p kids env (syntax.boundary k f w ss) =
      let h = slots_are_deep depths p kids env ss in
      let i = slot_is_deep depths p kids env f in
      omega arith
  slot_is_deep depths p kids env (syntax.catcher k f w ss) =
      let h = slots_are_deep depths p kids env ss in
      let i = slot_is_deep depths p kids env f in
      omega arith
  slot_is_deep depths p kids env (syntax.provider n k e w ss) = let h = slots_are_deep depths p kids env ss in omega arith
  slot_is_deep depths p kids env (syntax.enclosed b s) = slot_is_deep depths p kids env s

  pub slots_are_deep : (depths : ℕ → ℕ) (p : Program) (kids : List Element) (env : Env) (ss : Slots)
      → elements_depth depths (gathered (elements_of p kids env ss)) ≤ slots_depth depths p ss + elements_depth depths (gathered kids)
  slots_are_deep depths p kids env syntax.no_slots = omega arith
  slots_are_deep depths p kids env (syntax.slot s ss) =
      let h = slot_is_deep depths p kids env s in
      let k = slots_are_deep depths p kids env ss in
      omega arith

-- More levels are no fewer

-- the second gives no less anywhere
abbrev pub NoLess : (ℕ → ℕ) → (ℕ → ℕ) → Type 0
NoLess f g = (c : ℕ) → f c ≤ g c

mutual
  slot_no_less : (f g : ℕ → ℕ) → NoLess f g → (p : Program) (s : Slot) → slot_depth f p s ≤ slot_depth g p s
  slot_no_less f g h p syntax.null = omega arith
  slot_no_less f g h p (syntax.words t) = omega arith
  slot_no_less f g h p (syntax.number_of e) = omega arith
  slot_no_less f g h p syntax.children = omega arith
  slot_no_less f g h p (syntax.repeated i e limit s) = omega (arith, slot_no_less f g h p s)
  slot_no_less f g h p (syntax.choice c a b) = omega (arith, slot_no_less f g h p a, slot_no_less f g h p b)
  slot_no_less f g h p (syntax.host n attrs w ss) = omega (arith, slots_no_less f g h p ss)
  slot_no_less f g h p (syntax.comp n attrs w ss) = omega (arith, slots_no_less f g h p ss, h (component_number p n))
  slot_no_less f g h p (syntax.boundary k e w ss) = omega (arith, slots_no_less f g h p ss, slot_no_less f g h p e)
  slot_no_less f g h p (syntax.catcher k e w ss) = omega (arith, slots_no_less f g h p ss, slot_no_less f g h p e)
  slot_no_less f g h p (syntax.provider n k e w ss) = omega (arith, slots_no_less f g h p ss)
  slot_no_less f g h p (syntax.enclosed b s) = slot_no_less f g h p s

  slots_no_less : (f g : ℕ → ℕ) → NoLess f g → (p : Program) (ss : Slots) → slots_depth f p ss ≤ slots_depth g p ss
  slots_no_less f g h p syntax.no_slots = omega arith
  slots_no_less f g h p (syntax.slot s ss) = omega (arith, slot_no_less f g h p s, slots_no_less f g h p ss)

found_no_less : (f g : ℕ → ℕ) → NoLess f g → (p : Program) (c : Option Component) → depth_in f p c ≤ depth_in g p c
found_no_less f g h p None = omega arith
found_no_less f g h p (Some c) = slots_no_less f g h p (body_slots c.body)

pub more_levels : (n : ℕ) (p : Program) → NoLess (body_depth n p) (body_depth (suc n) p)
unfolding body_by
more_levels zero p c = omega arith
more_levels (suc n) p c = found_no_less (body_depth n p) (body_depth (suc n) p) (more_levels n p) p (component_at p c)

mutual
  pub element_no_less : (f g : ℕ → ℕ) → NoLess f g → (e : Element) → element_depth f e ≤ element_depth g e
  element_no_less f g h elements.null = omega arith
  element_no_less f g h (elements.text t) = omega arith
  element_no_less f g h (elements.host n k attrs es) = omega (arith, elements_no_less f g h es)
  element_no_less f g h (elements.comp c k ps es) = omega (arith, elements_no_less f g h es, h c)
  element_no_less f g h (elements.list marked es) = omega (arith, elements_no_less f g h es)
  element_no_less f g h (elements.boundary k e es) = omega (arith, elements_no_less f g h es, element_no_less f g h e)
  element_no_less f g h (elements.catcher k e es) = omega (arith, elements_no_less f g h es, element_no_less f g h e)
  element_no_less f g h (elements.provider c k x es) = omega (arith, elements_no_less f g h es)

  pub elements_no_less : (f g : ℕ → ℕ) → NoLess f g → (es : Elements) → elements_depth f es ≤ elements_depth g es
  elements_no_less f g h elements.none = omega arith
  elements_no_less f g h (elements.more e es) = omega (arith, element_no_less f g h e, elements_no_less f g h es)

-- The elements of a body

-- what a body gives is no deeper
abbrev pub IsWithin : (ℕ → ℕ) → ℕ → Body → Type 0
IsWithin depths most (wait r v) = Unit {0}
IsWithin depths most (throw x) = Unit {0}
IsWithin depths most (ready es effects initials reads versions) = elements_depth depths (gathered es) ≤ most

finished_within : (depths : ℕ → ℕ) (p : Program) (i : Inputs) (ss : Slots) (t : Taken)
    → IsWithin depths (slots_depth depths p ss + elements_depth depths (gathered i.children)) (finished p i ss t)
finished_within depths p i ss (body.stopped_at r v) = tt
finished_within depths p i ss (body.thrown x) = tt
finished_within depths p i ss (body.taken f) = slots_are_deep depths p i.children f.env ss

body_within : (depths : ℕ → ℕ) (p : Program) (c : Component) (i : Inputs)
    → IsWithin depths (slots_depth depths p (body_slots c.body) + elements_depth depths (gathered i.children)) (body_of p c i)
unfolding body_of
body_within depths p c i = finished_within depths p i (body_slots c.body) (take_all p i c.statements (opening_frame c i.props))

is_within : (depths : ℕ → ℕ) (b : Body) (m n : ℕ) → m ≤ n → IsWithin depths m b → IsWithin depths n b
is_within depths (wait r v) m n h w = tt
is_within depths (throw x) m n h w = tt
is_within depths (ready es effects initials reads versions) m n h w = omega arith

-- Shapes

-- the children of what stands in a place need no more levels
abbrev pub ShapeFits : ℕ → Program → Shape → Type 0
ShapeFits n p absent = Unit {0}
ShapeFits n p (waiting r v) = Unit {0}
ShapeFits n p (throwing x) = Unit {0}
ShapeFits n p (one_list m t) = PartFits n p t
ShapeFits n p (two_lists t f) = PartFits n p t × PartFits n p f
ShapeFits n p (guarded t f) = PartFits n p t × PartFits n p f

-- the children of an element are less deep
children_fit : (n : ℕ) (p : Program) (es : Elements) → elements_depth (body_depth (suc n) p) es ≤ n → elements_depth (body_depth n p) (gathered (listed es)) ≤ n
children_fit n p es h = rw (gathered-listed es) (omega (arith, elements_no_less (body_depth n p) (body_depth (suc n) p) (more_levels n p) es))

body_fits : (n : ℕ) (p : Program) (cs : Contexts) (c : ℕ) (old : Option Node) (b : Body) → IsWithin (body_depth n p) n b → ShapeFits n p (shape_of_body cs c old b)
body_fits n p cs c old (wait r v) h = tt
body_fits n p cs c old (throw x) h = tt
body_fits n p cs c old (ready es effects initials reads versions) h = h

component_fits : (n : ℕ) (s : Sight) (cs : Contexts) (c : ℕ) (ps : List ℤ) (es : Elements) (old : Option Node) (d : Option Component)
    → depth_in (body_depth n s.program) s.program d + elements_depth (body_depth n s.program) (gathered (listed es)) ≤ n
    → ShapeFits n s.program (shape_of_component s cs c ps es old d)
component_fits n s cs c ps es old None h = tt
component_fits n s cs c ps es old (Some d) h =
    let i = inputs_at s cs ps es (old_instance old) in
    body_fits n s.program cs c old (body_of s.program d i)
    (is_within (body_depth n s.program) (body_of s.program d i)
    (slots_depth (body_depth n s.program) s.program (body_slots d.body) + elements_depth (body_depth n s.program) (gathered i.children)) n h
    (body_within (body_depth n s.program) s.program d i))

-- an error boundary has its children and its fallback, or its fallback alone
catcher_fits : (n : ℕ) (p : Program) (cs : Contexts) (f : Element) (es : Elements) (old : Option Node) (caught : Option ℤ)
    → elements_depth (body_depth n p) (gathered (listed es)) ≤ n → element_depth (body_depth n p) f ≤ n
    → ShapeFits n p (shape_of_catcher cs f es old caught)
catcher_fits n p cs f es old None h k = (h, omega (arith, k))
catcher_fits n p cs f es old (Some x) h k = omega (arith, k)

deep_body : (n : ℕ) (p : Program) (c : ℕ) → body_depth (suc n) p c ≡ depth_in (body_depth n p) p (component_at p c)
unfolding body_by
deep_body n p c = refl

pub shape_fits : (n : ℕ) (s : Sight) (cs : Contexts) (e : Element) (old : Option Node) → Fits (suc n) s.program e → ShapeFits n s.program (shape_of s cs e old)
shape_fits n s cs elements.null old b = tt
shape_fits n s cs (elements.text t) old b = omega arith
shape_fits n s cs (elements.host name key attrs es) old b = children_fit n s.program es (omega arith)
shape_fits n s cs (elements.comp c k ps es) old b =
    component_fits n s cs c ps es old (component_at s.program c)
    (rw (gathered-listed es) (omega (arith, b, deep_body n s.program c, elements_no_less (body_depth n s.program) (body_depth (suc n) s.program) (more_levels n s.program) es)))
shape_fits n s cs (elements.list marked es) old b = children_fit n s.program es (omega arith)
shape_fits n s cs (elements.boundary k f es) old b = (
  children_fit n s.program es (omega arith),
  omega (arith, element_no_less (body_depth n s.program) (body_depth (suc n) s.program) (more_levels n s.program) f),
)
shape_fits n s cs (elements.catcher k f es) old b =
    catcher_fits n s.program cs f es old (old_caught old) (children_fit n s.program es (omega arith))
    (omega (arith, element_no_less (body_depth n s.program) (body_depth (suc n) s.program) (more_levels n s.program) f))
shape_fits n s cs (elements.provider c k x es) old b = children_fit n s.program es (omega arith)

pub not_deepest : (p : Program) (e : Element) → Fits zero p e → is_present e ≡ true → 1 ≤ zero
not_deepest p elements.null h k = absurd (cc k)
not_deepest p (elements.text t) h k = absurd (omega arith)
not_deepest p (elements.host name key attrs es) h k = absurd (omega arith)
not_deepest p (elements.comp c key ps es) h k = absurd (omega arith)
not_deepest p (elements.list marked es) h k = absurd (omega arith)
not_deepest p (elements.boundary key f es) h k = absurd (omega arith)
not_deepest p (elements.catcher key f es) h k = absurd (omega arith)
not_deepest p (elements.provider c key x es) h k = absurd (omega arith)
