-- The names of the attributes that a program gives to hosts.
use Rattle.std.specs.Prelude.{◌≡◌, ℕ, false, List, [], ◌∷◌, Option, Some, None, filter_map}
use Rattle.rx_base.specs.Values.{Name}
use Rattle.rx_ast.specs.Syntax.{Attribute, key, computed, literal, Program, Component, Slot, Slots, body_slots}
use Rattle.rx_ast.specs.Syntax as syntax
use Rattle.rx_rules.specs.Names.{has_name, component_at}

-- the name of an attribute; a key has none
abbrev pub attribute_name : Attribute → Option Name
attribute_name (key e) = None
attribute_name (computed x e) = Some x
attribute_name (literal x t) = Some x

-- the names of attributes, in the order of the text
abbrev pub attribute_names : List Attribute → List Name
attribute_names = filter_map attribute_name

-- no name stands twice
abbrev pub StandOnce : List Name → Type 0
StandOnce [] = Unit {0}
StandOnce (x ∷ xs) = (has_name xs x ≡ false) × StandOnce xs

-- no host of a slot has two attributes of one name
abbrev mutual
  pub SlotAttributesApart : Slot → Type 0
  SlotAttributesApart syntax.null = Unit {0}
  SlotAttributesApart (syntax.words t) = Unit {0}
  SlotAttributesApart (syntax.number_of e) = Unit {0}
  SlotAttributesApart syntax.children = Unit {0}
  SlotAttributesApart (syntax.repeated i e limit s) = SlotAttributesApart s
  SlotAttributesApart (syntax.choice c a b) = SlotAttributesApart a × SlotAttributesApart b
  SlotAttributesApart (syntax.host n attrs w ss) = StandOnce (attribute_names attrs) × SlotsAttributesApart ss
  SlotAttributesApart (syntax.comp n attrs w ss) = SlotsAttributesApart ss
  SlotAttributesApart (syntax.boundary k f w ss) = SlotAttributesApart f × SlotsAttributesApart ss
  SlotAttributesApart (syntax.catcher k f w ss) = SlotAttributesApart f × SlotsAttributesApart ss
  SlotAttributesApart (syntax.provider n k e w ss) = SlotsAttributesApart ss
  SlotAttributesApart (syntax.enclosed b s) = SlotAttributesApart s

  -- the same of each slot of a list
  pub SlotsAttributesApart : Slots → Type 0
  SlotsAttributesApart syntax.no_slots = Unit {0}
  SlotsAttributesApart (syntax.slot s ss) = SlotAttributesApart s × SlotsAttributesApart ss

-- no host of a program has two attributes of one name
abbrev pub AttributesApart : Program → Type 0
AttributesApart p = (c : ℕ) (d : Component) → component_at p c ≡ Some d → SlotsAttributesApart (body_slots d.body)
