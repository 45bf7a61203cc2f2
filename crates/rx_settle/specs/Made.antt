-- The hooks of new instances, before a commit keeps them.
use Rattle.std.specs.Prelude.{◌≡◌, ◌<◌, ◌≤◌, ℕ, Bool, true, nat_eq, cond, List, [], ◌∷◌, ◌++◌, map, Option, Some, slice_get}
use Rattle.std.specs.List.{list_any}
use Rattle.rx_elem.specs.Spots.{Mounted}
use Rattle.rx_queue.specs.History.{Answers}
use Rattle.rx_hooks.specs.declared.hook.Hook.{Hook}
use Rattle.rx_hooks.specs.Hooks.{HooksStandFor, mounted}
use Rattle.rx_settle.specs.declared.made.NewHooks.{NewHooks}

-- new hooks are those of an instance at its mount
pub record AreHooksFor (m : Mounted) (x : NewHooks) : Type 0 where
  pub number_is : x.number ≡ m.number
  pub stand : (answers : Answers) → HooksStandFor answers x.hooks (map mounted m.initials)

-- an instance with a number from the first on has its hooks added, and any other none
pub record HasMade (first : ℕ) (m : Mounted) (old new : List NewHooks) : Type 0 where
  pub was_there : m.number < first → new ≡ old
  pub is_new : first ≤ m.number → (x : NewHooks) × AreHooksFor m x × (new ≡ old ++ x ∷ [])

-- some new hooks are those of an instance with this number
abbrev pub has_number : List NewHooks → ℕ → Bool
has_number made n = list_any (λ x. nat_eq x.number n) made

-- new hooks are of an instance of the list that has a number from the first on
pub record AreOfNew (first : ℕ) (ms : List Mounted) (x : NewHooks) : Type 0 where
  pub place : ℕ
  pub instance : Mounted
  pub there : slice_get ms place ≡ Some instance
  pub is_new : first ≤ instance.number
  pub are_for : AreHooksFor instance x

-- The new hooks are those of the instances of the list with numbers from the first on: each of the first so many has its own, and there are no others.
pub record AreMadeFor (first : ℕ) (ms : List Mounted) (count : ℕ) (made : List NewHooks) : Type 0 where
  pub all_new : (k : ℕ) (x : NewHooks) → slice_get made k ≡ Some x → AreOfNew first ms x
  pub each_has : (k : ℕ) (m : Mounted) → k < count → slice_get ms k ≡ Some m → first ≤ m.number → has_number made m.number ≡ true

-- what is kept with new hooks over it
abbrev pub kept_with : List NewHooks → (ℕ → Option (List Hook)) → ℕ → Option (List Hook)
kept_with [] kept n = kept n
kept_with (x ∷ xs) kept n = cond (nat_eq x.number n) (Some x.hooks) (kept_with xs kept n)
