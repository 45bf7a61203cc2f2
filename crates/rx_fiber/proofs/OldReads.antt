-- Which fibers the links of current ones lead to.
use Rattle.std.specs.Prelude.{◌≡◌, ℕ, Option, Some, None, IfSome}
use Rattle.std.proofs.Common.{refl, subst, inl}
use Rattle.rx_lists.specs.Shapes.{Shape, none, fiber, first, Holds}
use Rattle.rx_links.specs.Drafts.{kids_of}
use Rattle.rx_links.specs.Readers.{rest_of, IsLinked}
use Rattle.rx_fiber.specs.Fibers.{Fiber}

pub some_held : (c : Shape Fiber) (o : Option ℕ) (i : ℕ) → IfSome o (Holds c) → o ≡ Some i → Holds c i
some_held c None i h e = cc
some_held c (Some j) i h e = let q : j ≡ i = cc in subst (Holds c) q h

first_held : (c s : Shape Fiber) → ((j : ℕ) → Holds s j → Holds c j) → IfSome (first s) (Holds c)
first_held c none h = tt
first_held c (fiber id v ks rs) h = h id (inl refl)

module _ (c : Shape Fiber) (linked : IsLinked c) where
  pub kids_held : (i : ℕ) → Holds c i → IfSome (first (kids_of c i)) (Holds c)
  kids_held i h = first_held c (kids_of c i) (λ j q. linked.below i j h q)

  pub rest_held : (i : ℕ) → Holds c i → IfSome (first (rest_of c i)) (Holds c)
  rest_held i h = first_held c (rest_of c i) (λ j q. linked.behind i j h q)
