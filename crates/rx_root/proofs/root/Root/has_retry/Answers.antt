use Rattle.std.proofs.Common.{Some, sym, ◌∙◌, ap, subst, List}
use Rattle.std.specs.List.{list_any}
use Rattle.rx_base.specs.Awaits.{Awaits}
use Rattle.rx_check.specs.Accepted.{IsAccepted}
use Rattle.rx_elem.specs.Trees.{Node}
use Rattle.rx_meaning.specs.Outcome.{awaits_resolved, visible_awaits}
use Rattle.rx_queue.specs.Journal.{resolved_since, version_of}
use Rattle.rx_queue.specs.Pairs.{in_versions}
use Rattle.end_laws.proofs.Read.{visible_awaits_same}
use Rattle.rx_links.specs.Drafts.{grafted}
use Rattle.rx_fiber.specs.Reading.{IsTreeOf}
use Rattle.rx_root.specs.Rooted.{Rooted}
use Rattle.rx_root.proofs.CommitReady.{within_reach}
use Rattle.rx_root.proofs.NoneHidden.{none_awaits}
use Rattle.rx_kept.proofs.ResolvedSince.{none_of_all}
use Rattle.rx_root.proofs.root.Root.has_retry.Goals as goal

pub returns : goal.returns
returns c p s g tree k there =
    let at = subst (λ (v : Rooted). IsTreeOf (Some tree) (grafted v.rendering.trees.draft)) (sym c.self.view_is) there in
    c.is_resolved_since.ensures p s g k ∙ c.awaited.ensures.resolved (version_of g.lanes g.cut s.journal) g.cut s.journal (within_reach p (subst IsAccepted k.program c.facts.ensures.accepted) s k.declared)
    ∙ ap (λ (n : Node). awaits_resolved g.lanes g.cut s.journal n) (c.in_ok-tree.ensures tree at)
    ∙ ap (λ (all : List Awaits). list_any (λ waits. resolved_since g.cut s.journal (in_versions (version_of g.lanes g.cut s.journal) waits)) all) (visible_awaits_same (Some tree))

pub returns-then-not-is_any_resolved_since : goal.returns-then-not-is_any_resolved_since
returns-then-not-is_any_resolved_since c p s g tree k there =
    sym
    (none_of_all s g (c.is_any_resolved_since.ensures p s g k c.if-not-is_any_resolved_since.true) (visible_awaits (Some tree)))

pub returns-then-not-hides : goal.returns-then-not-hides
returns-then-not-hides c p s g tree k there =
    let at = subst (λ (v : Rooted). IsTreeOf (Some tree) (grafted v.rendering.trees.draft)) (sym c.self.view_is) there in
    sym (none_awaits g.lanes g.cut s.journal tree (sym (c.hides.ensures tree at) ∙ c.if-not-hides.true))
