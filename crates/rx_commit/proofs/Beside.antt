-- What is compared without the lists that stayed the same.
use Rattle.std.specs.Prelude.{length, ◌∷◌, ◌++◌, refl, filter_map}
use Rattle.std.proofs.Common.{◌≡◌, ℕ, Bool, false, eqb, List, [], Option, Some, None, sym, ap, subst, ◌∙◌}
use Rattle.rx_elem.specs.Trees.{Node, node, Forest, none, vacant, child}
use Rattle.rx_elem.specs.Compare.{changes, compare_trees}
use Rattle.rx_forest.specs.declared.op.HostOp.{HostOp}
use Rattle.rx_forest.specs.Hosts.{Host, hosts}
use Rattle.rx_forest.specs.HostOps.{contents, creations, hidings, host_ops, ops_between, placed_hosts, placements, removals}
use Rattle.rx_effect.specs.EffectLog.{layout_log, passive_of}
use Rattle.rx_pruned.specs.Besides.{IsBeside}
use Rattle.rx_pruned.specs.declared.beside.Beside.{Beside}
use Rattle.host_laws.specs.Commits.{AreNumbered, AreNumbered_in, IsCommit, IsSound, IfSound}
use Rattle.host_laws.specs.Siblings.{HasPlacedParents}
use Rattle.host_laws.specs.Related.{AreDistinct, KeepKinds}
use Rattle.prune_laws.specs.Present.{HasNoNull, AllHaveNoNull, IfHasNoNull}
use Rattle.prune_laws.proofs.Placed.{parents_left}
use Rattle.prune_laws.proofs.PrunedAlike.{trees_alike}
use Rattle.prune_laws.proofs.Staying.{left_distinct, placed_need_others, staying_need_nothing}
use Rattle.prune_laws.proofs.OutcomeAlike.{layout_alike, passive_alike, committed_alike, deferred_alike}
use Rattle.prune_laws.specs.Staying.{AreOfCommit}
use Rattle.rx_host_ops.specs.Among.{ops_among}
use Rattle.end_laws.specs.Trimmed.{trimmed, trimmed_in, trimmed_if, vacant_before}
use Rattle.end_laws.proofs.Compared.{trees_same}
use Rattle.end_laws.proofs.Logs.{layout_same, passive_same}
use Rattle.end_laws.proofs.Outcomes.{caught_same, ops_same}
use Rattle.end_laws.proofs.Read.{hosts_same}
use Rattle.rx_base.specs.Awaits.{Awaits}
use Rattle.rx_lane.specs.Lanes.{Lanes}
use Rattle.rx_meaning.specs.Outcome.{caught_anew, newly_caught, outcome}
use Rattle.rx_commit.specs.Shown.{TellsWhere, outcome_as}
use Rattle.rx_commit.proofs.Committed.{outcome-trimmed}

vacant-present : (ns : Forest) → AllHaveNoNull ns → AllHaveNoNull (vacant_before ns)
vacant-present none h = tt
vacant-present (vacant ns) h = h
vacant-present (child n ns) h = h

vacant-numbered : (ns : Forest) → AreNumbered_in ns → AreNumbered_in (vacant_before ns)
vacant-numbered none k = k
vacant-numbered (vacant ns) k = k
vacant-numbered (child n ns) k = k

mutual
  trimmed-present : (n : Node) → HasNoNull n → HasNoNull (trimmed n)
  trimmed-present (node e m ns fs) h = (h.0, trimmed_in-present ns h.1, trimmed_in-present fs h.2)

  trimmed_in-present : (ns : Forest) → AllHaveNoNull ns → AllHaveNoNull (trimmed_in ns)
  trimmed_in-present none h = tt
  trimmed_in-present (vacant ns) h = vacant-present (trimmed_in ns) (trimmed_in-present ns h)
  trimmed_in-present (child n ns) h = (trimmed-present n h.0, trimmed_in-present ns h.1)

-- no node of a trimmed tree is one of null, if none of the tree is
if-present : (old : Option Node) → IfHasNoNull old → IfHasNoNull (trimmed_if old)
if-present None h = h
if-present (Some n) h = trimmed-present n h

distinct-if : (old : Option Node) → IfSound old → AreDistinct (hosts old)
distinct-if None h = tt
distinct-if (Some n) h = h.distinct

-- the hosts of trimmed trees are those of a commit
of-commit : (old : Option Node) (new : Node) → IsCommit old new → AreOfCommit (trimmed_if old) (trimmed new)
of-commit old new h =
    let before : hosts old ≡ hosts (trimmed_if old) = sym (hosts_same old) in
    let after : hosts (Some new) ≡ hosts (Some (trimmed new)) = sym (hosts_same (Some new)) in
    record {
      old_distinct = subst AreDistinct before (distinct-if old h.old_sound);
      new_distinct = subst AreDistinct after h.new_sound.distinct;
      kinds = subst (λ (hs : List Host). KeepKinds hs (hosts (Some (trimmed new)))) before (subst (KeepKinds (hosts old)) after h.kinds);
    }

-- what tells where hosts of a tree go tells it of the trimmed one
tells-trimmed : (placed : List ℕ) (told : List Host) (new : Node) → TellsWhere placed told new → TellsWhere placed told (trimmed new)
tells-trimmed placed told new h = h ∙ ap (placements placed) (sym (hosts_same (Some new)))

-- the operations between the hosts that are left, if these tell where hosts are placed
pub ops-of-all : (old : Option Node) (new : Node) (b : Beside) (placed : List ℕ) (told : List Host) (ops : List HostOp) (p : Option Node) → IsBeside old new b
    → placed ≡ placed_hosts (changes (compare_trees b.pruned_old b.pruned_new)) → p ≡ b.pruned_old → TellsWhere placed told new
    → ops ≡ ops_among (hosts p) (hosts (Some b.pruned_new)) told placed → IfHasNoNull old → AreOfCommit old new → ops ≡ host_ops old new
ops-of-all old new b placed told ops p beside f same tells g present of =
    let before : List Host = hosts b.pruned_old in
    let after : List Host = hosts (Some b.pruned_new) in
    g
    ∙ ap (λ (x : Option Node). ops_among (hosts x) after told placed) same
    ∙ ap (λ (xs : List HostOp). removals before after ++ creations before after ++ xs ++ contents before after ++ hidings before after) tells
    ∙ ap (ops_among before after (hosts (Some new))) (f ∙ (trees_alike beside present).places)
    ∙ placed_need_others old new b.pruned_old b.pruned_new beside of

-- a list that is empty has nothing in it
pub none-left : (xs : List ℕ) → length xs ≡ 0 → xs ≡ []
none-left [] h = refl
none-left (x ∷ xs) h = cc

-- the same if none is placed
pub ops-of-left : (old : Option Node) (new : Node) (b : Beside) (placed : List ℕ) (ops : List HostOp) (p : Option Node) → IsBeside old new b
    → placed ≡ placed_hosts (changes (compare_trees b.pruned_old b.pruned_new)) → placed ≡ [] → p ≡ b.pruned_old
    → (AreDistinct (hosts p) → ops ≡ ops_between (hosts p) (hosts (Some b.pruned_new)) []) → IfHasNoNull old → AreOfCommit old new → ops ≡ host_ops old new
ops-of-left old new b placed ops p beside f empty same is present of =
    let placed_none : placed_hosts (changes (compare_trees old new)) ≡ [] = sym (trees_alike beside present).places ∙ sym f ∙ empty in
    is (subst (λ (x : Option Node). AreDistinct (hosts x)) (sym same) (left_distinct old new b.pruned_old b.pruned_new beside of))
    ∙ ap (λ (x : Option Node). ops_between (hosts x) (hosts (Some b.pruned_new)) []) same
    ∙ staying_need_nothing old new b.pruned_old b.pruned_new beside of placed_none

-- if none is placed, no hosts need to be told
pub none-told : (placed : List ℕ) (told : List Host) (new : Node) → length placed ≡ 0 → told ≡ [] → TellsWhere placed told new
none-told placed told new count empty = let e = none-left placed count in rw (e, empty) (sym (no-placements (hosts (Some new))))
  where
    no-placements : (hs : List Host) → placements [] hs ≡ []
    no-placements [] = refl
    no-placements (h ∷ hs) = no-placements hs

-- Where the placed hosts are

mutual
  numbered-trimmed : (n : Node) → AreNumbered n → AreNumbered (trimmed n)
  numbered-trimmed (node e m ns fs) k = (k.0, all-numbered-trimmed ns k.1, all-numbered-trimmed fs k.2)

  all-numbered-trimmed : (ns : Forest) → AreNumbered_in ns → AreNumbered_in (trimmed_in ns)
  all-numbered-trimmed none k = k
  all-numbered-trimmed (vacant ns) k = vacant-numbered (trimmed_in ns) (all-numbered-trimmed ns k)
  all-numbered-trimmed (child n ns) k = (numbered-trimmed n k.0, all-numbered-trimmed ns k.1)

-- the parents of the placed hosts that are left are those of all placed ones
pub parents-placed : (old : Option Node) (new : Node) (b : Beside) (placed : List ℕ) (w : ℕ → Bool) → IsBeside (trimmed_if old) (trimmed new) b → IsSound new
    → placed ≡ placed_hosts (changes (compare_trees b.pruned_old b.pruned_new)) → HasPlacedParents placed w (hosts (Some b.pruned_new)) → HasPlacedParents placed w (hosts (Some new))
parents-placed old new b placed w beside sound is a =
    subst (λ (ns : List ℕ). HasPlacedParents ns w (hosts (Some new))) (sym is)
    (subst (HasPlacedParents (placed_hosts (changes (compare_trees b.pruned_old b.pruned_new))) w) (hosts_same (Some new))
    (parents_left (trimmed_if old) (trimmed new) b.pruned_old b.pruned_new w beside (numbered-trimmed new sound.numbered)
    (subst AreDistinct (sym (hosts_same (Some new))) sound.distinct)
    (subst (λ (ns : List ℕ). HasPlacedParents ns w (hosts (Some b.pruned_new))) is a)))

-- A commit, by what is left of the trimmed trees

module _ (old : Option Node) (new : Node) (b : Beside) (beside : IsBeside (trimmed_if old) (trimmed new) b) (present : IfHasNoNull old) where
  -- the operations on the hosts
  pub ops-of : (placed : List ℕ) (all : List Host) (ops : List HostOp)
      → ((o : Option Node) (n : Node) → IsBeside o n b → IfHasNoNull o → AreOfCommit o n → TellsWhere placed all n → ops ≡ host_ops o n)
      → IsCommit old new → TellsWhere placed all new → ops ≡ host_ops old new
  ops-of placed all ops is commits tells =
      is (trimmed_if old) (trimmed new) beside (if-present old present) (of-commit old new commits) (tells-trimmed placed all new tells) ∙ ops_same old new

  -- what error boundaries catch
  pub caught-of : filter_map caught_anew (changes (compare_trees b.pruned_old b.pruned_new)) ≡ newly_caught old new
  caught-of = (trees_alike beside (if-present old present)).catches ∙ caught_same old new

  -- what is logged in one phase
  pub layout-of : layout_log (compare_trees b.pruned_old b.pruned_new) ≡ layout_log (compare_trees old new)
  layout-of =
      layout_alike (compare_trees b.pruned_old b.pruned_new) (compare_trees (trimmed_if old) (trimmed new)) (trees_alike beside (if-present old present))
      ∙ ap layout_log (trees_same old new)
      ∙ layout_same (compare_trees old new)

  -- and in the other
  pub passive-of : passive_of (compare_trees b.pruned_old b.pruned_new) ≡ passive_of (compare_trees old new)
  passive-of =
      passive_alike (compare_trees b.pruned_old b.pruned_new) (compare_trees (trimmed_if old) (trimmed new)) (trees_alike beside (if-present old present))
      ∙ ap passive_of (trees_same old new)
      ∙ passive_same (compare_trees old new)

  -- what becomes of the render
  pub outcome-of : (lanes : Lanes) (x : Option Awaits) → outcome_as b.pruned_new x ≡ outcome lanes b.pruned_old b.pruned_new → outcome_as new x ≡ outcome lanes old new
  outcome-of lanes None is =
      outcome-trimmed lanes old new None
      (sym (committed_alike lanes (trimmed_if old) b.pruned_old (trimmed new) b.pruned_new (trees_alike beside (if-present old present)) (sym is)))
  outcome-of lanes (Some a) is =
      outcome-trimmed lanes old new (Some a)
      (sym (deferred_alike lanes (trimmed_if old) b.pruned_old (trimmed new) b.pruned_new a (trees_alike beside (if-present old present)) (sym is)))
