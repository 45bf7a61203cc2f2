use Rattle.std.specs.Prelude.{ℕ, List, Option, Result, Ok, Err, IfOk, Some}
use Rattle.std.proofs.Common.{◌≡◌, sym, ap, ◌∙◌, subst}
use Rattle.rx_changes.specs.Found.{Found}
use Rattle.rx_elem.specs.Compare.{changes, compare_trees}
use Rattle.rx_elem.specs.Trees.{Node}
use Rattle.rx_forest.specs.HostOps.{placed_hosts}
use Rattle.rx_forest.specs.Hosts.{Host, hosts}
use Rattle.rx_links.specs.Drafts.{grafted}
use Rattle.rx_fiber.specs.Reading.{IsTreeOf}
use Rattle.rx_pruned.specs.Besides.{IsBeside}
use Rattle.end_laws.specs.Trimmed.{trimmed, trimmed_if}
use Rattle.host_laws.specs.Commits.{IsSound}
use Rattle.rx_commit.specs.Shown.{Shows, TellsWhere}
use Rattle.rx_root.specs.Rooted.{Rooted}
use Rattle.rx_root.specs.Turning.{CanFollow}
use Rattle.rx_root.proofs.root.Root.prepare_shown.Goals as goal

if_ok_both : {A E : Type 0} {P Q R : A → Type 0} (r : Result A E) → ((a : A) → P a → Q a → R a) → IfOk r P → IfOk r Q → IfOk r R
if_ok_both (Ok a) f h k = f a h k
if_ok_both (Err e) f h k = tt

pub returns-clause-ready : goal.returns-clause-ready
returns-clause-ready c =
    let pruned = c.args.beside.now in
    let left_is : c.deref.result.now ≡ hosts (Some pruned.pruned_new) = c.deref.ensures.value ∙ c.in_ok-left.ensures in
    let placed_is =
    c.deref-2.ensures.value
    ∙ (ap (λ (f : Found). f.placed) c.in_ok-changes.ensures ∙ ap (λ (old : Option Node). placed_hosts (changes (compare_trees old pruned.pruned_new))) c.as_ref-pruned.ensures.value) in
    let tells : (old : Option Node) (new : Node) → IsBeside (trimmed_if old) (trimmed new) pruned → IsSound new
    → IsTreeOf (Some new) (grafted c.args.self.now.rendering.trees.draft) → TellsWhere c.in_ok-changes.changes.placed.items c.deref-4.result.now new =
    λ old new beside sound there.
    subst (λ (placed : List ℕ). TellsWhere placed c.deref-4.result.now new) c.deref-2.ensures.value
    (subst (λ (told : List Host). TellsWhere c.deref-2.result.now told new) (sym c.deref-4.ensures.value) (c.in_ok-told.ensures old new pruned left_is placed_is beside sound there)) in
    if_ok_both c.prepare.result
    (λ x prepares ready old passive new h.
    let f = subst (λ (v : Rooted). CanFollow old passive new c.args.beside.now v) (sym c.self.view_is) h in
    let prepared = prepares old new f.beside f.present f.commits (tells old new f.beside f.commits.new_sound h.there) in
    record {
      can_commit = ready old passive new f.shows f.commits f.leaves prepared;
      prepares = prepared;
      hosts_are = c.prepare.ensures.hosts ∙ f.shows.hosts_are;
      commits = f.commits;
    })
    c.prepare.ensures.prepares c.prepare.ensures.ready

pub returns-clause-same : goal.returns-clause-same
returns-clause-same c tree passive h = c.prepare.ensures.same tree passive (subst (λ (v : Rooted). Shows tree passive v.shown) (sym c.self.view_is) h)
