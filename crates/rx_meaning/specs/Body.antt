-- What a component's body gives: it waits for a resource, it throws a value, or it is ready with its elements.
use Rattle.std.specs.Prelude.{ℕ, ◌+◌, true, false, List, [], ◌∷◌, ◌++◌, ℤ, pos, negsuc, Option, Some, None, min, map, filter_map, unwrap_or, option_map, if◌then◌else◌, bytes_eq, slice_get, slice_index_or}
use Rattle.std.specs.List.{zip, range_with_len}
use Rattle.std.specs.Option.{option_map_or}
use Rattle.std.specs.Fmt.{signed_decimal}
use Rattle.rx_base.specs.Values.{Name}
use Rattle.rx_base.specs.Arithmetic.{is_zero}
use Rattle.rx_ast.specs.Syntax.{Expr, Statement, state, reducer, transition, context, use_resource, constant, effect, throw_if, Slot, Slots, Attribute, key, computed, literal, Component, Program, body_slots, slot_key}
use Rattle.rx_ast.specs.Syntax as syntax
use Rattle.rx_rules.specs.Names.{component_number, component_at, context_number, resource_number, prop_names}
use Rattle.rx_elem.specs.Elements.{Element, Elements, Key, gathered}
use Rattle.rx_elem.specs.declared.attr.Attr.{Attr}
use Rattle.rx_elem.specs.Elements as elements
use Rattle.rx_elem.specs.declared.attr.AttrValue.TheVariants as attr_value
use Rattle.rx_elem.specs.declared.effect.EffectRecord.{EffectRecord}
use Rattle.rx_elem.specs.declared.effect.ContextRead.{ContextRead}
use Rattle.rx_elem.specs.declared.effect.VersionRead.{VersionRead}
use Rattle.rx_meaning.specs.Expressions.{Env, value_in}

-- what a body is evaluated from: its props, the children that it is given, from the second render on the values of its hooks, the values of the contexts, and of each resource its version and the value that this has, if it has one
pub record Inputs : Type 0 where
  pub props : List ℤ
  pub children : List Element
  pub hooks : Option (List ℤ)
  pub contexts : List ℤ
  pub versions : List ℕ
  pub resources : List (Option ℤ)

-- what a body gives
pub data Body : Type 0 where
  -- it waits for a version of a resource
  wait : (resource version : ℕ) → Body
  -- it throws a value
  throw : (value : ℤ) → Body
  -- it is ready: its elements, its effects, at mount the initial values of its hooks, and the contexts and versions that it read
  ready : List Element → List EffectRecord → (initials : List ℤ) → List ContextRead → List VersionRead → Body

-- what the statements so far have given, and how many hooks they took
pub record Frame : Type 0 where
  pub env : Env
  pub hooks : ℕ
  pub initials : List ℤ
  pub effects : List EffectRecord
  pub reads : List ContextRead
  pub versions : List VersionRead

-- what statements give: a version of a resource or a thrown value at which they stop, or the frame after them
pub data Taken : Type 0 where
  stopped_at : (resource version : ℕ) → Taken
  thrown : (value : ℤ) → Taken
  taken : Frame → Taken

-- a name has a value from here on
abbrev pub bound : Name → ℤ → Frame → Frame
bound name x f = record f { env = (name, x) ∷ f.env }

-- a hook that keeps a state: at mount it has its initial value, later its state
abbrev pub with_hook : (states : Option (List ℤ)) → Name → (initial : ℤ) → Frame → Frame
with_hook None name initial f = bound name initial (record f { hooks = f.hooks + 1; initials = f.initials ++ initial ∷ [] })
with_hook (Some states) name initial f = bound name (slice_index_or states f.hooks (pos 0)) (record f { hooks = f.hooks + 1 })

-- a context that is read, and its value
abbrev pub with_read : Name → (context : ℕ) → ℤ → Frame → Frame
with_read name c x f = bound name x (record f { reads = f.reads ++ (record { context = c; value = x }) ∷ [] })

-- a version of a resource that is read, if it has a value
abbrev pub with_resource : Name → (resource version : ℕ) → Option ℤ → Frame → Taken
with_resource name r v None f = stopped_at r v
with_resource name r v (Some x) f = taken (bound name x (record f { versions = f.versions ++ (record { resource = r; version = v }) ∷ [] }))

-- a value is thrown, unless it is 0
abbrev pub with_throw : ℤ → Frame → Taken
with_throw x f = if is_zero x then taken f else thrown x

-- an effect with the values of its dependencies
abbrev pub with_effect : EffectRecord → Frame → Frame
with_effect e f = record f { effects = f.effects ++ e ∷ [] }

-- one statement
abbrev pub take_one : Program → Inputs → Statement → Frame → Taken
take_one p i (state name setter e) f = taken (with_hook i.hooks name (value_in p f.env e) f)
take_one p i (reducer name setter function e) f = taken (with_hook i.hooks name (value_in p f.env e) f)
take_one p i (transition name starter) f = taken (with_hook i.hooks name (pos 0) f)
take_one p i (context name source) f =
    let c = context_number p source in taken (with_read name c (slice_index_or i.contexts c (pos 0)) f)
take_one p i (use_resource name resource) f =
    let r = resource_number p resource in with_resource name r (slice_index_or i.versions r 0) (slice_index_or i.resources r None) f
take_one p i (constant name e) f = taken (bound name (value_in p f.env e) f)
take_one p i (effect layout label depends) f =
    taken (with_effect (record { layout = layout; label = label; values = map (value_in p f.env) depends }) f)
take_one p i (throw_if e) f = with_throw (value_in p f.env e) f

-- what follows a statement, unless that waits or throws
abbrev pub and_then : Taken → (Frame → Taken) → Taken
and_then (stopped_at r v) next = stopped_at r v
and_then (thrown x) next = thrown x
and_then (taken f) next = next f

-- the statements in order, up to the first that waits or throws
abbrev pub take_all : Program → Inputs → List Statement → Frame → Taken
take_all p i [] f = taken f
take_all p i (s ∷ ss) f = and_then (take_one p i s f) (take_all p i ss)

-- Elements

-- the attribute that a host gets; a key is none
abbrev pub attr_in : Program → Env → Attribute → Option Attr
attr_in p env (key e) = None
attr_in p env (computed x e) = Some (record { name = x; value = attr_value.Number (value_in p env e) })
attr_in p env (literal x t) = Some (record { name = x; value = attr_value.Text t })

-- the number that an attribute gives to a parameter
abbrev pub number_for : Program → Env → Name → Attribute → Option ℤ
number_for p env name (key e) = None
number_for p env name (computed x e) = if bytes_eq x name then Some (value_in p env e) else None
number_for p env name (literal x t) = None

-- what a parameter is given
abbrev pub prop_named : Program → Env → List Attribute → Name → ℤ
prop_named p env attrs name = unwrap_or (slice_get (filter_map (number_for p env name) attrs) 0) (pos 0)

-- the props of a component's element, in the order of its parameters
abbrev pub props_of : Program → Env → List Attribute → (component : ℕ) → List ℤ
props_of p env attrs c = map (prop_named p env attrs) (option_map_or prop_names (component_at p c) [])

-- the value of a key
abbrev pub key_value : Program → Env → Option Expr → Key
key_value p env = option_map (value_in p env)

-- how many turns a `for` makes
abbrev pub turns : (bound : ℤ) → (limit : ℕ) → ℕ
turns (pos n) limit = min n limit
turns (negsuc n) limit = 0

-- the element of a slot, with the given children for `children`
abbrev mutual
  pub element_of : Program → List Element → Env → Slot → Element
  element_of p kids env syntax.null = elements.null
  element_of p kids env (syntax.words t) = elements.text t
  element_of p kids env (syntax.number_of e) = elements.text (signed_decimal (value_in p env e))
  element_of p kids env syntax.children = elements.list true (gathered kids)
  element_of p kids env (syntax.repeated index bound limit s) =
      elements.list false (gathered (map (λ k. element_of p kids ((index, pos k) ∷ env) s) (range_with_len 0 (turns (value_in p env bound) limit))))
  element_of p kids env (syntax.choice c s t) =
      if is_zero (value_in p env c) then element_of p kids env t else element_of p kids env s
  element_of p kids env (syntax.host name attrs w ss) =
      elements.host name (key_value p env (syntax.key_of attrs)) (filter_map (attr_in p env) attrs) (gathered (elements_of p kids env ss))
  element_of p kids env (syntax.comp name attrs w ss) =
      let c = component_number p name in
      elements.comp c (key_value p env (syntax.key_of attrs)) (props_of p env attrs c) (gathered (elements_of p kids env ss))
  element_of p kids env (syntax.boundary place fallback w ss) =
      elements.boundary (key_value p env (syntax.key_in place)) (element_of p kids env fallback) (gathered (elements_of p kids env ss))
  element_of p kids env (syntax.catcher place fallback w ss) =
      elements.catcher (key_value p env (syntax.key_in place)) (element_of p kids env fallback) (gathered (elements_of p kids env ss))
  element_of p kids env (syntax.provider name place e w ss) =
      elements.provider (context_number p name) (key_value p env (syntax.key_in place)) (value_in p env e) (gathered (elements_of p kids env ss))
  element_of p kids env (syntax.enclosed b s) = element_of p kids env s

  -- the elements of a child list
  pub elements_of : Program → List Element → Env → Slots → List Element
  elements_of p kids env syntax.no_slots = []
  elements_of p kids env (syntax.slot s ss) = element_of p kids env s ∷ elements_of p kids env ss

-- a body whose statements are taken
abbrev pub finished : Program → Inputs → Slots → Taken → Body
finished p i ss (stopped_at r v) = wait r v
finished p i ss (thrown x) = throw x
finished p i ss (taken f) = ready (elements_of p i.children f.env ss) f.effects f.initials f.reads f.versions

-- what is known before the first statement: the values of the parameters
abbrev pub opening_frame : Component → (props : List ℤ) → Frame
opening_frame c props = record { env = zip (prop_names c) props; hooks = 0; initials = []; effects = []; reads = []; versions = [] }

-- what a component's body gives
unfoldable pub body_of : Program → Component → Inputs → Body
body_of p c i = finished p i (body_slots c.body) (take_all p i c.statements (opening_frame c i.props))
