-- What holds of the instances of old trees, handed down to the trees below.
use Rattle.std.specs.Prelude.{◌≡◌, ℕ, zero, suc, ℤ, List, Option, Some, None, IfSome, IsSome, option_and_then, slice_get}
use Rattle.std.specs.Option.{option_flatten}
use Rattle.std.proofs.Common.{sym, ap, ◌∙◌, subst}
use Rattle.rx_base.specs.declared.cut.Cut.{Cut}
use Rattle.rx_lane.specs.Lanes.{Lanes}
use Rattle.rx_ast.specs.Syntax.{Program}
use Rattle.rx_elem.specs.Compare.{node_at}
use Rattle.rx_elem.specs.Elements.{Element}
use Rattle.rx_elem.specs.Trees.{Forest, Instance, Mark, Node, child, children_if, fallback_if, node, none, of_boundary, of_catcher, of_host, of_instance, places, plain, vacant}
use Rattle.rx_meaning.specs.Fresh.{Sight, old_instance}
use Rattle.rx_hook_store.specs.Gives.{GivesValues}
use Rattle.render_laws.specs.OldNodes.{OldHas}
use Rattle.draw_laws.specs.Made.{AllMeet, MarkMeets, TreeMeets}
use Rattle.rx_fresh.specs.declared.snapshot.Snapshot.{Snapshot}
use Rattle.rx_fresh.specs.Seeing.{GivesHooks, GivesTree, GivesTrees, GoesOn, IsSnapshotOf, KeepsTree, KeepsTrees, KeptBy, number_in}

-- what an instance meets, by its number and its values at mount
abbrev pub OfInstance : Type 1
OfInstance = ℕ → List ℤ → Type 0

-- ---- below

module _ (Q : OfInstance) where
  at_place : (ns : Forest) → AllMeet Q ns → (q : ℕ) → OldHas (TreeMeets Q) (option_flatten (slice_get (places ns) q))
  at_place none h q = tt
  at_place (vacant ns) h zero = tt
  at_place (vacant ns) h (suc q) = at_place ns h q
  at_place (child n ns) h zero = h.0
  at_place (child n ns) h (suc q) = at_place ns h.1 q

  -- a node of a list, by its place
  pub one_meets : (ns : Forest) → AllMeet Q ns → (q : Option ℕ) → OldHas (TreeMeets Q) (option_and_then (node_at ns) q)
  one_meets ns h None = tt
  one_meets ns h (Some q) = at_place ns h q

  -- the children of an old node
  pub children_meet : (old : Option Node) → OldHas (TreeMeets Q) old → AllMeet Q (children_if old)
  children_meet None h = tt
  children_meet (Some (node e m ns fs)) h = h.1

  -- and its fallback
  pub fallback_meets : (old : Option Node) → OldHas (TreeMeets Q) old → AllMeet Q (fallback_if old)
  fallback_meets None h = tt
  fallback_meets (Some (node e m ns fs)) h = h.2

-- ---- what holds of more

module _ (Q R : OfInstance) (more : (n : ℕ) (xs : List ℤ) → Q n xs → R n xs) where
  mark_more : (m : Mark) → MarkMeets Q m → MarkMeets R m
  mark_more (of_instance i) h = λ n e. more n i.initials (h n e)
  mark_more (of_host k) h = tt
  mark_more (of_boundary b) h = tt
  mark_more (of_catcher z) h = tt
  mark_more plain h = tt

  mutual
    tree_more : (n : Node) → TreeMeets Q n → TreeMeets R n
    tree_more (node e m ns fs) h = (mark_more m h.0, all_more ns h.1, all_more fs h.2)

    pub all_more : (ns : Forest) → AllMeet Q ns → AllMeet R ns
    all_more none h = tt
    all_more (vacant ns) h = all_more ns h
    all_more (child n ns) h = (tree_more n h.0, all_more ns h.1)

  pub old_more : (old : Option Node) → OldHas (TreeMeets Q) old → OldHas (TreeMeets R) old
  old_more None h = tt
  old_more (Some n) h = tree_more n h

-- ---- hooks that are kept

abbrev Keeps : KeptBy → OfInstance
Keeps kept n xs = IsSome (kept n)

abbrev Gives : Sight → KeptBy → OfInstance
Gives s kept n xs = GivesValues s kept n xs

pub keeps_at : (kept : KeptBy) (ns : Forest) (q : Option ℕ) (old : Option Node) → old ≡ option_and_then (node_at ns) q → KeepsTrees kept ns → KeepsTree kept old
keeps_at kept ns q old same h = subst (KeepsTree kept) (sym same) (one_meets (Keeps kept) ns h q)

pub gives_at : (s : Sight) (kept : KeptBy) (ns : Forest) (q : Option ℕ) (old : Option Node) → old ≡ option_and_then (node_at ns) q → GivesTrees s kept ns → GivesTree s kept old
gives_at s kept ns q old same h = subst (GivesTree s kept) (sym same) (one_meets (Gives s kept) ns h q)

pub keeps_children : (kept : KeptBy) (old : Option Node) (ns : Forest) → ns ≡ children_if old → KeepsTree kept old → KeepsTrees kept ns
keeps_children kept old ns same h = subst (KeepsTrees kept) (sym same) (children_meet (Keeps kept) old h)

pub keeps_fallback : (kept : KeptBy) (old : Option Node) (ns : Forest) → ns ≡ fallback_if old → KeepsTree kept old → KeepsTrees kept ns
keeps_fallback kept old ns same h = subst (KeepsTrees kept) (sym same) (fallback_meets (Keeps kept) old h)

pub gives_children : (s : Sight) (kept : KeptBy) (old : Option Node) (ns : Forest) → ns ≡ children_if old → GivesTree s kept old → GivesTrees s kept ns
gives_children s kept old ns same h = subst (GivesTrees s kept) (sym same) (children_meet (Gives s kept) old h)

pub gives_fallback : (s : Sight) (kept : KeptBy) (old : Option Node) (ns : Forest) → ns ≡ fallback_if old → GivesTree s kept old → GivesTrees s kept ns
gives_fallback s kept old ns same h = subst (GivesTrees s kept) (sym same) (fallback_meets (Gives s kept) old h)

-- what is kept goes on
module _ (p : Program) (lanes : Lanes) (cut : Cut) (old new : KeptBy) (goes : GoesOn p lanes cut old new) where
  pub keeps_trees : (ns : Forest) → KeepsTrees old ns → KeepsTrees new ns
  keeps_trees ns h = all_more (Keeps old) (Keeps new) (λ n xs k. goes.there n k) ns h

  pub keeps_tree : (o : Option Node) → KeepsTree old o → KeepsTree new o
  keeps_tree o h = old_more (Keeps old) (Keeps new) (λ n xs k. goes.there n k) o h

pub gives_trees : (shot : Snapshot) (s : Sight) (old new : KeptBy) → IsSnapshotOf shot s → GoesOn shot.checked.now shot.lanes shot.cut old new → (ns : Forest) → GivesTrees s old ns → GivesTrees s new ns
gives_trees shot s old new is goes ns h = all_more (Gives s old) (Gives s new) (λ n xs k. goes.gives s n xs is.program is.lanes is.cut k) ns h

pub gives_tree : (shot : Snapshot) (s : Sight) (old new : KeptBy) → IsSnapshotOf shot s → GoesOn shot.checked.now shot.lanes shot.cut old new → (o : Option Node) → GivesTree s old o → GivesTree s new o
gives_tree shot s old new is goes o h = old_more (Gives s old) (Gives s new) (λ n xs k. goes.gives s n xs is.program is.lanes is.cut k) o h

-- ---- the instance of an old node

instance_keeps : (kept : KeptBy) (m : Mark) (e : Element) (ns fs : Forest) (n : ℕ) → MarkMeets (Keeps kept) m → number_in (old_instance (Some (node e m ns fs))) ≡ Some n → IsSome (kept n)
instance_keeps kept (of_instance i) e ns fs n h is = h n is
instance_keeps kept (of_host k) e ns fs n h is = absurd (cc is)
instance_keeps kept (of_boundary b) e ns fs n h is = absurd (cc is)
instance_keeps kept (of_catcher z) e ns fs n h is = absurd (cc is)
instance_keeps kept plain e ns fs n h is = absurd (cc is)

number_kept : (kept : KeptBy) (old : Option Node) (n : ℕ) → KeepsTree kept old → number_in (old_instance old) ≡ Some n → IsSome (kept n)
number_kept kept None n h is = absurd (cc is)
number_kept kept (Some (node e m ns fs)) n h is = instance_keeps kept m e ns fs n h.0 is

-- hooks are kept of the number of the old instance
pub kept_if : (kept : KeptBy) (old : Option Node) (o : Option ℕ) → o ≡ number_in (old_instance old) → KeepsTree kept old → IfSome o (λ n. IsSome (kept n))
kept_if kept old None same h = tt
kept_if kept old (Some n) same h = number_kept kept old n h (sym same)

mark_gives : (s : Sight) (kept : KeptBy) (m : Mark) (e : Element) (ns fs : Forest) → MarkMeets (Gives s kept) m → GivesHooks s kept (old_instance (Some (node e m ns fs)))
mark_gives s kept (of_instance j) e ns fs h i n at is =
    let same : j ≡ i = cc in subst (λ (x : Instance). GivesValues s kept n x.initials) same (h n (ap (λ (x : Instance). x.number) same ∙ is))
mark_gives s kept (of_host k) e ns fs h i n at is = absurd (cc at)
mark_gives s kept (of_boundary b) e ns fs h i n at is = absurd (cc at)
mark_gives s kept (of_catcher z) e ns fs h i n at is = absurd (cc at)
mark_gives s kept plain e ns fs h i n at is = absurd (cc at)

-- hooks give the values of the old instance
pub gives_hooks : (s : Sight) (kept : KeptBy) (old : Option Node) → GivesTree s kept old → GivesHooks s kept (old_instance old)
gives_hooks s kept None h = λ i n at is. absurd (cc at)
gives_hooks s kept (Some (node e m ns fs)) h = mark_gives s kept m e ns fs h.0
