-- The render passes a node whose fiber took its old children over.
use Rattle.std.specs.Prelude.{◌≡◌, ℕ, List, Some}
use Rattle.std.proofs.Common.{refl, sym, ap, ◌∙◌, subst}
use Rattle.rx_ctx.specs.Contexts.{Stack}
use Rattle.rx_elem.specs.Trees.{Node}
use Rattle.rx_links.specs.Drafts.{taken, Trees, entry}
use Rattle.rx_links.specs.Places.{after, up_of}
use Rattle.rx_meaning.specs.Cursor.{Frame, arrive}
use Rattle.rx_fiber.specs.Fibers.{Fiber}
use Rattle.rx_fiber.specs.Passed.{IsPassed}
use Rattle.rx_fiber.specs.Standing.{StandsAt}
use Rattle.rx_fiber.proofs.Arriving.{arrives, taken_done}
use Rattle.rx_complete.specs.declared.completing.Next.{Next}
use Rattle.rx_complete.specs.Ends.{fiber_in, next_by, next_after, LeadsTo}
use Rattle.rx_complete.proofs.Completed.{KnowsPlaces}
use Rattle.rx_complete.proofs.Leading.{fiber_next, next_is, arrive_leads}

module _ (t : Trees Fiber) (st : Stack) (q levels : ℕ) (fs : List Frame) (x : Node) (l : IsPassed t st q fs x) (knows : KnowsPlaces t) (result : Next) (answer : result ≡ next_after t.draft q) where
  passed_next : result ≡ next_by (entry l.rest) (up_of l.around)
  passed_next =
      answer
      ∙ next_is t l.around q l.value l.old (taken l.kids) l.rest (knows l.around q l.value l.old (taken l.kids) l.rest l.here)

  -- the render stands where it arrives with that node
  pub passed_stands : StandsAt t st (fiber_in result) (arrive levels fs (Some x))
  passed_stands =
      subst (λ at. StandsAt t st at (arrive levels fs (Some x))) (sym (ap fiber_in passed_next ∙ fiber_next (entry l.rest) (up_of l.around)))
      (arrives t st l.around (after q l.value l.old (taken l.kids) l.around) l.value.place levels l.rest fs x l.here refl
      (λ done are. taken_done t.current l.around l.value.place done x q l.value l.old l.kids are l.of_node l.is_for)
      l.surrounds l.stack l.moves)

  -- the answer is of the form of that place
  pub passed_leads : LeadsTo result (arrive levels fs (Some x))
  passed_leads =
      subst (λ r. LeadsTo r (arrive levels fs (Some x))) (sym passed_next)
      (arrive_leads t.current l.around l.value.place levels l.rest fs (Some x) l.surrounds)
