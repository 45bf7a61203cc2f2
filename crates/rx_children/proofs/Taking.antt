-- A fiber takes over the children of the current one that it was made for.
use Rattle.std.specs.Prelude.{◌≡◌, ℕ, Option, Some}
use Rattle.std.proofs.Common.{refl, ap, ◌∙◌}
use Rattle.rx_elem.specs.Trees.{Mark}
use Rattle.rx_lists.specs.Shapes.{Shape, none}
use Rattle.rx_links.specs.Drafts.{Draft, taken, made, Makes, Trees, kids_under, old_kids, old_of, taking, valued, IsBare}
use Rattle.rx_links.specs.Places.{Around, placed}
use Rattle.rx_fiber.specs.Fibers.{Fiber, begun}
use Rattle.rx_fiber.specs.declared.stage.StageChange.TheVariants as change
use Rattle.rx_fiber.specs.declared.subtree.Subtree.{Subtree}
use Rattle.rx_fiber.specs.FiberView.{changed}
use Rattle.rx_fiber.specs.Subtrees.{subtree_at}
use Rattle.rx_causes.specs.Marks.{mark_at}
use Rattle.rx_children.specs.Nodes.{IsBareAt, HasTaken}
use Rattle.rx_children.proofs.Making.{KnowsPlaces}

pub bare_is : (t : Trees Fiber) (p : ℕ) → KnowsPlaces t → IsBareAt t p → IsBare t.draft p
bare_is t p knows b = (knows b.around p b.value b.old (taken none) b.rest b.here).bare refl

-- what takes over the children of its current fiber has those of that one
module _ (t u : Trees Fiber) (p : ℕ) (knows : KnowsPlaces t) (took : u ≡ record t { draft = taking p (old_kids t p) t.draft }) where
  pub took_so : (k : Around Fiber) (v : Fiber) (o : Option ℕ) (rs : Draft Fiber) → t.draft ≡ placed k (made p v o (taken none) rs)
      → u.draft ≡ placed k (made p v o (taken (kids_under t.current o)) rs)
  took_so k v o rs e =
      let at = knows k p v o (taken none) rs e in
      ap (λ x. x.draft) took
      ∙ (at.kids (λ ks. taken (old_kids t p)) ∙ ap (λ q. placed k (made p v o (taken (kids_under t.current q)) rs)) at.old)

  pub took_made : IsBareAt t p → KnowsPlaces u → Makes u.draft p
  took_made b knows_u = (knows_u b.around p b.value b.old (taken (kids_under t.current b.old)) b.rest (took_so b.around b.value b.old b.rest b.here)).makes

-- then it gets the mark of its old one, and what is kept on that
module _ (t u : Trees Fiber) (p : ℕ) (knows : KnowsPlaces t) (took : u ≡ record t { draft = taking p (old_kids t p) t.draft }) (knows_u : KnowsPlaces u) (l : Mark)
    (given : Trees Fiber) (gives : given ≡ record u { draft = valued p (λ v. record v { stage = begun l }) u.draft }) (knows_given : KnowsPlaces given) where
  given_so : (k : Around Fiber) (v : Fiber) (o : Option ℕ) (rs : Draft Fiber) → t.draft ≡ placed k (made p v o (taken none) rs)
      → given.draft ≡ placed k (made p (record v { stage = begun l }) o (taken (kids_under t.current o)) rs)
  given_so k v o rs e =
      ap (λ x. x.draft) gives
      ∙ (knows_u k p v o (taken (kids_under t.current o)) rs (took_so t u p knows took k v o rs e)).value (λ w. record w { stage = begun l })

  pub given_made : IsBareAt t p → Makes given.draft p
  given_made b =
      (knows_given b.around p (record b.value { stage = begun l }) b.old (taken (kids_under t.current b.old)) b.rest (given_so b.around b.value b.old b.rest b.here)).makes

  pub taken_so : (new : Trees Fiber) (old other : Option ℕ) (under : Subtree) → old ≡ old_of t.draft p → Some l ≡ mark_at t.current old → other ≡ old_of t.draft p → under ≡ subtree_at t.current other
      → new ≡ record given { draft = valued p (changed (change.Complete under)) given.draft } → HasTaken t new p
  taken_so new old other under old_is mark_is other_is under_is done k v o rs m e is =
      let at = knows k p v o (taken none) rs e in
      let kids : Shape Fiber = kids_under t.current o in
      let same : l ≡ m = (let f : Some l ≡ Some m = mark_is ∙ (ap (mark_at t.current) (old_is ∙ at.old) ∙ is) in cc) in
      let below : under ≡ subtree_at t.current o = under_is ∙ ap (subtree_at t.current) (other_is ∙ at.old) in
      ap (λ x. x.draft) done
      ∙ ((knows_given k p (record v { stage = begun l }) o (taken kids) rs (given_so k v o rs e)).value (changed (change.Complete under))
      ∙ rw (same, below) refl)
