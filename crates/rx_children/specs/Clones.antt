-- Clones of the fibers of a current list are made one behind another.
use Rattle.std.specs.Prelude.{◌≡◌, ℕ, suc, ◌+◌, ◌-◌, Bool, true, false, Option, Some, None}
use Rattle.rx_lists.specs.Shapes.{IsTop}
use Rattle.rx_links.specs.Drafts.{Draft, Trees, Makes, IsOpen, IsUnused, grown, inserted, old_kids}
use Rattle.rx_links.specs.Readers.{old_list, value_of}
use Rattle.rx_meaning.specs.Cursor.{is_null}
use Rattle.rx_fiber.specs.Fibers.{Fiber, as_cloned}
use Rattle.rx_fiber.specs.OldLists.{is_fallback}
use Rattle.rx_children.specs.Children.{IsMade}

-- the draft with a new fiber right behind the one made last, or as the first child of p if there is none
abbrev pub put_behind : (last : Option ℕ) → (p id : ℕ) → Fiber → Option ℕ → Draft Fiber → Draft Fiber
put_behind None p id v o d = grown p id v o d
put_behind (Some j) p id v o d = inserted j id v o d

-- a fiber for this current one may be put there
abbrev pub CanStandBehind : Trees Fiber → (p : ℕ) → (last : Option ℕ) → (old : ℕ) → Type 0
CanStandBehind t p None i = IsOpen t.draft p × IsTop (old_kids t p) i × IsUnused t.draft i
CanStandBehind t p (Some j) i = Makes t.draft j × IsTop (old_list t j) i × IsUnused t.draft i

-- the place of a current fiber in its list, if this one comes next there
abbrev pub place_from : ℕ → Fiber → ℕ
place_from n v = n + (v.place - n)

-- The walk along a current list has gone on with a fiber, and tells the clone made last and the place that comes next. That of a fallback is passed; one without an element leaves its place vacant; each other one has a clone behind those that were made.
pub data HasGoneOn (visible : Bool) (before after : Trees Fiber) (p id : ℕ) (last : Option ℕ) (place : ℕ) (new_last : Option ℕ) (new_place : ℕ) : Type 0 where
  passed : (v : Fiber) → Some v ≡ value_of before.current id → is_fallback v.stage ≡ true
      → after ≡ before → new_last ≡ last → new_place ≡ place → HasGoneOn visible before after p id last place new_last new_place
  vacant : (v : Fiber) → Some v ≡ value_of before.current id → is_fallback v.stage ≡ false → is_null v.element ≡ true
      → after ≡ before → new_last ≡ last → new_place ≡ suc (place_from place v) → HasGoneOn visible before after p id last place new_last new_place
  cloned : (v : Fiber) → Some v ≡ value_of before.current id → is_fallback v.stage ≡ false → is_null v.element ≡ false
      → (new : ℕ) (w : Fiber) → IsMade before.current (as_cloned visible) (Some id) w (place_from place v) v.element
      → after ≡ record before { draft = put_behind last p new w (Some id) before.draft } → new_last ≡ Some new → new_place ≡ suc (place_from place v)
      → HasGoneOn visible before after p id last place new_last new_place
