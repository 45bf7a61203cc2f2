-- Which places of a child list carry a key.
use Rattle.std.specs.Prelude.{◌≡◌, ℕ, ◌+◌, ◌≤◌, Bool, false, ◌||◌, cond, Some, is_some}
use Rattle.rx_ast.specs.Syntax.{Program, Component, Slot, Slots, body_slots, key_of, key_in}
use Rattle.rx_ast.specs.Syntax as syntax
use Rattle.rx_rules.specs.Names.{component_at}

-- a slot, or a branch of its choice, is an element with a key
abbrev pub carries_key : Slot → Bool
carries_key syntax.null = false
carries_key (syntax.words t) = false
carries_key (syntax.number_of e) = false
carries_key syntax.children = false
carries_key (syntax.repeated i e limit s) = false
carries_key (syntax.choice c a b) = carries_key a || carries_key b
carries_key (syntax.host n attrs w ss) = is_some (key_of attrs)
carries_key (syntax.comp n attrs w ss) = is_some (key_of attrs)
carries_key (syntax.boundary k f w ss) = is_some (key_in k)
carries_key (syntax.catcher k f w ss) = is_some (key_in k)
carries_key (syntax.provider n k e w ss) = is_some (key_in k)
carries_key (syntax.enclosed b s) = carries_key s

-- how many places of a child list carry a key
abbrev pub keyed_places : Slots → ℕ
keyed_places syntax.no_slots = 0
keyed_places (syntax.slot s ss) = cond (carries_key s) 1 0 + keyed_places ss

-- in each child list at most one place carries a key
abbrev mutual
  pub SlotKeysApart : Slot → Type 0
  SlotKeysApart syntax.null = Unit {0}
  SlotKeysApart (syntax.words t) = Unit {0}
  SlotKeysApart (syntax.number_of e) = Unit {0}
  SlotKeysApart syntax.children = Unit {0}
  SlotKeysApart (syntax.repeated i e limit s) = SlotKeysApart s
  SlotKeysApart (syntax.choice c a b) = SlotKeysApart a × SlotKeysApart b
  SlotKeysApart (syntax.host n attrs w ss) = (keyed_places ss ≤ 1) × SlotsKeysApart ss
  SlotKeysApart (syntax.comp n attrs w ss) = (keyed_places ss ≤ 1) × SlotsKeysApart ss
  SlotKeysApart (syntax.boundary k f w ss) = SlotKeysApart f × (keyed_places ss ≤ 1) × SlotsKeysApart ss
  SlotKeysApart (syntax.catcher k f w ss) = SlotKeysApart f × (keyed_places ss ≤ 1) × SlotsKeysApart ss
  SlotKeysApart (syntax.provider n k e w ss) = (keyed_places ss ≤ 1) × SlotsKeysApart ss
  SlotKeysApart (syntax.enclosed b s) = SlotKeysApart s

  -- the same of each slot of a list
  pub SlotsKeysApart : Slots → Type 0
  SlotsKeysApart syntax.no_slots = Unit {0}
  SlotsKeysApart (syntax.slot s ss) = SlotKeysApart s × SlotsKeysApart ss

-- the same of each body of a program
abbrev pub KeysApart : Program → Type 0
KeysApart p =
    (c : ℕ) (d : Component) → component_at p c ≡ Some d → (keyed_places (body_slots d.body) ≤ 1) × SlotsKeysApart (body_slots d.body)
