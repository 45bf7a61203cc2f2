-- What a commit makes of the hooks that are kept, in its two passes over the instances of its tree.
use Rattle.std.specs.Prelude.{◌≡◌, ◌⊎◌, ◌<◌, ◌≤◌, ℕ, ℤ, Bool, true, false, not, ◌&&◌, nat_eq, List, map, Option, Some, None, IsSome, slice_get}
use Rattle.std.specs.List.{list_any}
use Rattle.rx_base.specs.declared.cut.Cut.{Cut}
use Rattle.rx_lane.specs.Lanes.{Lanes}
use Rattle.rx_ast.specs.Syntax.{Program}
use Rattle.rx_elem.specs.Spots.{Mounted, mounted}
use Rattle.rx_elem.specs.Trees.{Node}
use Rattle.rx_hooks.specs.declared.hook.Hook.{Hook}
use Rattle.rx_queue.specs.History.{Answers}
use Rattle.rx_hooks.specs.Hooks.{HookHistory, HooksStandFor, committed_hook, owed_hook}
use Rattle.rx_meaning.specs.Settled.{DoneBefore}
use Rattle.rx_model.specs.State.{State}
use Rattle.rx_hook_store.specs.Changing.{HooksChange}
use Rattle.rx_hook_store.specs.Commits.{AreMounted}
use Rattle.rx_hook_store.specs.Gives.{has_work_in}
use Rattle.rx_hook_store.specs.Rendered.{IsRendered, KeepsInstance}
use Rattle.rx_hook_store.specs.Working.{HaveWork}

-- no two instances have one number
abbrev pub AreApart : List Mounted → Type 0
AreApart ms = (j k : ℕ) (a b : Mounted) → j < k → slice_get ms j ≡ Some a → slice_get ms k ≡ Some b → nat_eq a.number b.number ≡ false

-- some instance of a list has this number
abbrev pub has_instance : List Mounted → ℕ → Bool
has_instance ms n = list_any (λ m. nat_eq n m.number) ms

-- an instance of an old list has this number, and none of a new list
abbrev pub is_gone : (before ms : List Mounted) → ℕ → Bool
is_gone before ms n = has_instance before n && not (has_instance ms n)

-- the instances of a list have the numbers of those of an old one, and each is below the first
pub record StayOld (first : ℕ) (before ms : List Mounted) : Type 0 where
  pub same : (n : ℕ) → has_instance ms n ≡ has_instance before n
  pub below : (n : ℕ) → has_instance ms n ≡ true → n < first

-- hooks are kept of each instance with a number below the first
abbrev pub AreKept : (first : ℕ) → (kept : ℕ → Option (List Hook)) → List Mounted → Type 0
AreKept first kept ms = (k : ℕ) (m : Mounted) → slice_get ms k ≡ Some m → m.number < first → IsSome (kept m.number)

-- hooks that are kept stay, stand for the state as before, and stay rendered
pub record KeepsOn (p : Program) (lanes : Lanes) (cut : Cut) (old new : ℕ → Option (List Hook)) : Type 0 where
  pub there : (n : ℕ) → IsSome (old n) → IsSome (new n)
  pub keeps : (s : State) (n : ℕ) (initials : List ℤ) → DoneBefore cut s.journal.updates → KeepsInstance p s old n initials → KeepsInstance p s new n initials
  pub stays : (s : State) (n : ℕ) (initials : List ℤ) → DoneBefore cut s.journal.updates → IsRendered p s lanes cut old n initials → IsRendered p s lanes cut new n initials

-- a test tells of hooks that are kept whether a render has work in them, by each history that they stand for
abbrev pub TellsOf : Lanes → Cut → Option (List Hook) → Bool → Type 0
TellsOf lanes cut kept work =
    (answers : Answers) (hooks : List Hook) (histories : List HookHistory) → kept ≡ Some hooks → HooksStandFor answers hooks histories → work ≡ has_work_in lanes cut histories

-- an instance that is visible and has a number below the first is rendered, or a render has no work in its hooks
abbrev pub RendersShown : Program → (lanes : Lanes) → (cut : Cut) → (first : ℕ) → (old new : ℕ → Option (List Hook)) → Mounted → Type 0
RendersShown p lanes cut first old new m =
    m.visible ≡ true → m.number < first
    → TellsOf lanes cut (new m.number) false ⊎ ((s : State) → DoneBefore cut s.journal.updates → KeepsInstance p s old m.number m.initials → IsRendered p s lanes cut new m.number m.initials)

-- hooks in which a render has work change so, and others stay as they are
pub data ChangesWorking (change : List HookHistory → List HookHistory) (lanes : Lanes) (cut : Cut) (old new : Option (List Hook)) : Type 0 where
  works : TellsOf lanes cut old true → HooksChange change old new → ChangesWorking change lanes cut old new
  rests : TellsOf lanes cut old false → new ≡ old → ChangesWorking change lanes cut old new

-- the hooks of an instance with a number below the first in which the render has work are committed if it is visible, and else owed what lies before the cut
pub record AreSettled (lanes : Lanes) (cut : Cut) (first : ℕ) (old new : ℕ → Option (List Hook)) (m : Mounted) : Type 0 where
  pub shown : m.number < first → m.visible ≡ true → ChangesWorking (map committed_hook) lanes cut (old m.number) (new m.number)
  pub hidden : m.number < first → m.visible ≡ false → ChangesWorking (map (owed_hook lanes cut)) lanes cut (old m.number) (new m.number)

-- so are those of each instance of a list, and those of a new one are as at its mount
pub record AllSettled (lanes : Lanes) (cut : Cut) (first : ℕ) (old new : ℕ → Option (List Hook)) (ms : List Mounted) : Type 0 where
  pub kept : (k : ℕ) (m : Mounted) → slice_get ms k ≡ Some m → AreSettled lanes cut first old new m
  pub made : (k : ℕ) (m : Mounted) → slice_get ms k ≡ Some m → first ≤ m.number → AreMounted m.initials (new m.number)

-- What is kept is settled over some instances: those that are visible and have work are rendered again, all are settled, and those of the old ones that are not among them are dropped. What is kept of any other instance stays.
pub record IsSettledOver (p : Program) (lanes : Lanes) (cut : Cut) (first : ℕ) (old new : ℕ → Option (List Hook)) (before ms : List Mounted) : Type 0 where
  pub rendered : ℕ → Option (List Hook)
  pub goes_on : KeepsOn p lanes cut old rendered
  pub renders : (k : ℕ) (m : Mounted) → slice_get ms k ≡ Some m → RendersShown p lanes cut first old rendered m
  pub settles : AllSettled lanes cut first rendered new ms
  pub gone : (k : ℕ) (m : Mounted) → slice_get before k ≡ Some m → has_instance ms m.number ≡ false → new m.number ≡ None
  pub not_rendered : (n : ℕ) → has_instance ms n ≡ false → rendered n ≡ old n
  pub others : (n : ℕ) → has_instance ms n ≡ false → has_instance before n ≡ false → new n ≡ rendered n

-- each instance of a tree in whose hooks a render has work is one of another tree
abbrev pub HasAllWorking : Lanes → Cut → (kept : ℕ → Option (List Hook)) → (tree other : Node) → Type 0
HasAllWorking lanes cut kept tree other =
    (n : ℕ) (hooks : List Hook) → has_instance (mounted (Some tree)) n ≡ true → kept n ≡ Some hooks → HaveWork lanes cut hooks → has_instance (mounted (Some other)) n ≡ true
