-- The fibers that are made for a fallback's list wait, below the boundary's fiber or beside what that one keeps.
use Rattle.std.specs.Prelude.{◌≡◌, ℕ, Bool, List, Option, Some, None}
use Rattle.std.proofs.Common.{refl, ap, ◌∙◌}
use Rattle.rx_base.specs.Awaits.{Awaits}
use Rattle.rx_elem.specs.Elements.{Element}
use Rattle.rx_elem.specs.Trees.{of_boundary}
use Rattle.rx_susp.specs.declared.boundary.BoundaryState.TheVariants.{Hidden}
use Rattle.rx_lists.specs.Shapes.{Shape, none}
use Rattle.rx_links.specs.Drafts.{taken, Trees, entry, kids_under, old_of}
use Rattle.rx_links.specs.Places.{after}
use Rattle.rx_links.specs.Readers.{list_from}
use Rattle.rx_fiber.specs.Fibers.{Fiber, begun, joined, own_subtree}
use Rattle.rx_fiber.specs.Subtrees.{subtrees_of}
use Rattle.rx_fiber.proofs.Gathered.{gathered_under}
use Rattle.rx_fiber.specs.OldLists.{fallback_list}
use Rattle.rx_fiber.specs.Unwound.{is_trying}
use Rattle.rx_children.specs.Children.{HasMadeFrom}
use Rattle.rx_children.specs.Nodes.{HasList}
use Rattle.rx_fallback.specs.Opening.{HasFallback, HasFallbackKids, HasKept, alone, beside, given_as, given_elements, given_fibers, hidden_over, kept_below, opened_at}
use Rattle.rx_fallback.specs.declared.opening.Opened.{Opened}
use Rattle.rx_children.proofs.Making.{KnowsPlaces}
use Rattle.rx_children.proofs.Origins.{NoFiber, cloned_none, kids_new, kids_wait, matched_none}

-- if the old fallback has no fibers, none is given
given_none : (given : Option (List Element)) (s : Shape Fiber) → s ≡ none → NoFiber (given_fibers given s)
given_none None s e = cloned_none s e
given_none (Some es) s e = matched_none s es e

-- what a fiber becomes that hides what it keeps
abbrev hidden_one : Awaits → Fiber → Fiber
hidden_one a v = record v { stage = begun (of_boundary (Hidden a)) }

module _ (t new : Trees Fiber) (p : ℕ) (a : Awaits) (given : Option (List Element)) (visible : Bool) (generation : ℕ) (s : Shape Fiber) (link : Option ℕ) (f : Opened) (is : s ≡ fallback_list (list_from t.current (old_of t.draft p))) where
  pub alone_kids : HasList (given_as given visible generation) t new p (begun (of_boundary (Hidden a))) (given_elements given s) (given_fibers given s) link → f ≡ opened_at link p
      → HasFallbackKids (given_as given visible generation) t new p f
  alone_kids list answer =
      alone list.kids (hidden_one a) (λ v. refl) (λ v. refl) (kids_wait t.current (given_as given visible generation) 0 (given_elements given s) (given_fibers given s) list.kids list.are)
      (λ e. kids_new t.current (given_as given visible generation) 0 (given_elements given s) (given_fibers given s) list.kids list.are (given_none given s (is ∙ e))) list.stands
      (answer ∙ ap (λ x. opened_at x p) list.first_is)

  pub beside_kids : KnowsPlaces t → (u w : Trees Fiber) (r : Option ℕ) (id : ℕ) → HasKept t u p a → HasFallback u w p r a id
      → (done : HasMadeFrom (given_as given visible generation) 0 w new id (given_elements given s) (given_fibers given s)) → link ≡ entry done.kids → f ≡ opened_at link id → HasFallbackKids (given_as given visible generation) t new p f
  beside_kids knows u w r id kept put done first answer =
      beside done.kids (hidden_over a (kept_below t p)) (λ o. kids_under t.current o) id put.value r (λ v. refl) (λ v. refl) (ap is_trying put.stage)
      (kids_wait w.current (given_as given visible generation) 0 (given_elements given s) (given_fibers given s) done.kids done.are)
      (λ e. kids_new w.current (given_as given visible generation) 0 (given_elements given s) (given_fibers given s) done.kids done.are (given_none given s (is ∙ e)))
      (λ k v o rs e.
      let (element, there) = put.stands k (hidden_over a (kept_below t p) v) o (taken (kids_under t.current o)) rs (kept k v o rs e) in
      (element, done.stands (after p (hidden_over a (kept_below t p) v) o (taken (kids_under t.current o)) k) put.value r rs there))
      (λ k v o rs e g.
      (ap (λ x. joined (own_subtree (begun (of_boundary (Hidden a)))) (subtrees_of (kids_under t.current x))) (knows k p v o (taken none) rs e).old, gathered_under t.current o g))
      (answer ∙ ap (λ x. opened_at x id) first)
