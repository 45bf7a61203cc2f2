-- What a render sees, and which hooks give it the values that it sees.
use Rattle.std.specs.Prelude.{◌≡◌, ℕ, Bool, true, false, not, ◌&&◌, ◌||◌, List, Option, Some, IsSome, is_some, option_and_then, slice_index_or}
use Rattle.std.specs.Option.{option_map_or}
use Rattle.rx_base.specs.declared.cut.Cut.{Cut}
use Rattle.rx_lane.specs.Lanes.{Lanes}
use Rattle.rx_queue.specs.History.{Answers}
use Rattle.rx_hooks.specs.Hooks.{HookHistory, HooksStandFor}
use Rattle.rx_elem.specs.Trees.{Instance}
use Rattle.rx_hooks.specs.declared.hook.Hook.{Hook}
use Rattle.rx_meaning.specs.Fresh.{Sight, Contexts, resources_seen, version_seen, versions_seen, hook_values}
use Rattle.rx_meaning.specs.Settled.{done_values, known_by, read_anew, refreshed}
use Rattle.rx_meaning.specs.Touched.{may_throw_anew, sees_refresh}
use Rattle.rx_hook_store.specs.Gives.{GivesValues, has_news_in, has_work_in}
use Rattle.rx_causes.specs.declared.scene.Scene.{Scene}

-- the version of a resource in a scene
abbrev pub version_in : Scene → (resource : ℕ) → ℕ
version_in scene r = slice_index_or scene.versions.now r 0

-- a scene is what this render sees
pub record IsSceneOf (scene : Scene) (s : Sight) : Type 0 where
  pub program : s.program ≡ scene.checked.now
  pub resources : scene.resources.now ≡ resources_seen s
  pub list : scene.versions.now ≡ versions_seen s
  pub versions : (r : ℕ) → version_in scene r ≡ version_seen s r
  pub refreshes : scene.refreshes ≡ sees_refresh s
  pub throws : scene.throws ≡ may_throw_anew s
  pub lanes : s.lanes ≡ scene.lanes
  pub cut : s.cut ≡ scene.cut

-- the number of an instance, if it is there and has one
abbrev pub number_in : Option Instance → Option ℕ
number_in i = option_and_then (λ i. i.number) i

-- hooks are kept of an instance that has a number
abbrev pub KeepsHooks : (kept : ℕ → Option (List Hook)) → Option Instance → Type 0
KeepsHooks kept old = (n : ℕ) → number_in old ≡ Some n → IsSome (kept n)

-- they give the values that the render sees
abbrev pub GivesHooks : Sight → (kept : ℕ → Option (List Hook)) → Option Instance → Type 0
GivesHooks s kept old = (i : Instance) (n : ℕ) → old ≡ Some i → i.number ≡ Some n → GivesValues s kept n i.initials

-- An instance has no cause to be rendered anew: what its hooks include is committed, and it read what the contexts give here, and the resources in the versions that the render sees.
pub record IsCalmAt (s : Sight) (cs : Contexts) (i : Instance) : Type 0 where
  pub number : ℕ
  pub is_numbered : i.number ≡ Some number
  pub values : hook_values s number i.initials ≡ done_values s.program (known_by s) number i.initials
  pub reads : read_anew cs i.reads ≡ false
  pub versions : refreshed (version_seen s) i.versions ≡ false

-- what a test says of work for these lanes at this cut in the kept hooks of an instance: whether an included update of a history that they stand for is not done
abbrev pub TellsWork : (kept : ℕ → Option (List Hook)) → Lanes → Cut → Option Instance → Bool → Type 0
TellsWork kept lanes cut i work =
    (n : ℕ) (answers : Answers) (hooks : List Hook) (histories : List HookHistory) → number_in i ≡ Some n → kept n ≡ Some hooks → HooksStandFor answers hooks histories → work ≡ has_work_in lanes cut histories

-- what a test says of news: whether an included update of a history that they stand for is neither done nor owed
abbrev pub TellsNews : (kept : ℕ → Option (List Hook)) → Lanes → Cut → Option Instance → Bool → Type 0
TellsNews kept lanes cut i news =
    (n : ℕ) (answers : Answers) (hooks : List Hook) (histories : List HookHistory) → number_in i ≡ Some n → kept n ≡ Some hooks → HooksStandFor answers hooks histories → news ≡ has_news_in lanes cut histories

-- an instance read a context that has another value here, or a resource that the render sees in another version
abbrev pub read_another : Scene → Contexts → Instance → Bool
read_another scene cs i = read_anew cs i.reads || refreshed (version_in scene) i.versions

-- the same if there is an instance; if there is none, it counts as such
abbrev pub reads_anew : Scene → Contexts → Option Instance → Bool
reads_anew scene cs i = option_map_or (read_another scene cs) i true

-- The body of an old instance that is calm is told from one with a cause: it has a number, no work, and reads nothing anew.
pub record TellsCalm (scene : Scene) (kept : ℕ → Option (List Hook)) (cs : Contexts) (i : Option Instance) (calm : Bool) : Type 0 where
  pub work : Bool
  pub tells : TellsWork kept scene.lanes scene.cut i work
  pub is : calm ≡ (is_some (number_in i) && (not work && not (reads_anew scene cs i)))
