-- What a render sees, and which hooks give it the values that it sees.
use Rattle.std.specs.Prelude.{◌≡◌, ℕ, ℤ, List, Option, Some, IsSome, option_and_then, option_map}
use Rattle.rx_base.specs.declared.cut.Cut.{Cut}
use Rattle.rx_lane.specs.Lanes.{Lanes}
use Rattle.rx_ast.specs.Syntax.{Program}
use Rattle.rx_rules.specs.Names.{component_at}
use Rattle.rx_elem.specs.Elements.{Element, Elements, listed}
use Rattle.rx_elem.specs.Trees.{Forest, Instance, Node}
use Rattle.rx_hooks.specs.declared.hook.Hook.{Hook}
use Rattle.rx_meaning.specs.Body.{Body, Inputs, body_of}
use Rattle.rx_meaning.specs.Fresh.{Contexts, Sight, inputs_at, resources_seen, versions_seen}
use Rattle.rx_meaning.specs.Settled.{DoneBefore}
use Rattle.rx_model.specs.State.{State}
use Rattle.rx_model.specs.HooksOf.{KeepsAllHooks}
use Rattle.rx_hook_store.specs.Gives.{GivesValues}
use Rattle.render_laws.specs.OldNodes.{OldHas}
use Rattle.draw_laws.specs.Made.{AllMeet, TreeMeets}
use Rattle.rx_fresh.specs.declared.snapshot.Snapshot.{Snapshot}

-- a snapshot is what this render sees
pub record IsSnapshotOf (shot : Snapshot) (s : Sight) : Type 0 where
  pub program : s.program ≡ shot.checked.now
  pub versions : shot.versions.now ≡ versions_seen s
  pub resources : shot.resources.now ≡ resources_seen s
  pub lanes : s.lanes ≡ shot.lanes
  pub cut : s.cut ≡ shot.cut

-- a component gives this body, from some inputs with these children
pub record IsBodyOf (p : Program) (component : ℕ) (children : List Element) (b : Body) : Type 0 where
  pub inputs : Inputs
  pub given : inputs.children ≡ children
  pub gives : option_map (λ d. body_of p d inputs) (component_at p component) ≡ Some b

-- what is kept of the hooks, by the numbers of the instances
abbrev pub KeptBy : Type 0
KeptBy = ℕ → Option (List Hook)

-- the number of an instance, if it is there and has one
abbrev pub number_in : Option Instance → Option ℕ
number_in i = option_and_then (λ i. i.number) i

-- hooks give a render the values of an instance that has a number
abbrev pub GivesHooks : Sight → KeptBy → Option Instance → Type 0
GivesHooks s kept old = (i : Instance) (n : ℕ) → old ≡ Some i → i.number ≡ Some n → GivesValues s kept n i.initials

-- A component gives this body at a place: from these props, children and contexts, and from the hooks of its old instance, which has this number, if it has one.
abbrev pub IsBodyAt : Snapshot → (component : ℕ) → (props : List ℤ) → (children : List Element) → (number : Option ℕ) → Contexts → KeptBy → Body → Type 0
IsBodyAt shot c props children number cs kept b =
    (s : Sight) (old : Option Instance) (kids : Elements) → IsSnapshotOf shot s → number_in old ≡ number → GivesHooks s kept old → listed kids ≡ children
    → option_map (λ d. body_of s.program d (inputs_at s cs props kids old)) (component_at s.program c) ≡ Some b

-- hooks are kept of each instance of an old tree that has a number
abbrev pub KeepsTree : KeptBy → Option Node → Type 0
KeepsTree kept old = OldHas (TreeMeets (λ n initials. IsSome (kept n))) old

-- the same of the trees of a list
abbrev pub KeepsTrees : KeptBy → Forest → Type 0
KeepsTrees kept olds = AllMeet (λ n initials. IsSome (kept n)) olds

-- hooks give a render the values of each instance of an old tree that has a number
abbrev pub GivesTree : Sight → KeptBy → Option Node → Type 0
GivesTree s kept old = OldHas (TreeMeets (λ n initials. GivesValues s kept n initials)) old

-- the same of the trees of a list
abbrev pub GivesTrees : Sight → KeptBy → Forest → Type 0
GivesTrees s kept olds = AllMeet (λ n initials. GivesValues s kept n initials) olds

-- What is kept goes on while a render for these lanes at this cut reads it: hooks that are kept stay, give the render what they gave, and stand for the machine's state as before.
pub record GoesOn (p : Program) (lanes : Lanes) (cut : Cut) (old new : KeptBy) : Type 0 where
  pub there : (n : ℕ) → IsSome (old n) → IsSome (new n)
  pub gives : (s : Sight) (n : ℕ) (initials : List ℤ) → s.program ≡ p → s.lanes ≡ lanes → s.cut ≡ cut → GivesValues s old n initials → GivesValues s new n initials
  pub states : (st : State) → DoneBefore cut st.journal.updates → KeepsAllHooks p st old → KeepsAllHooks p st new
