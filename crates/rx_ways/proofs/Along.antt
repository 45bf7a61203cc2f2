-- What is found along a list of fibers, one after the other.
use Rattle.std.proofs.Common.{◌≡◌, ℕ, suc, ◌+◌, ◌<◌, Bool, Option, Some, sym, ap, ◌∙◌, arith}
use Rattle.std.specs.Prelude.{◌||◌}
use Rattle.rx_lists.specs.Shapes.{Shape, Holds, fiber, first, size}
use Rattle.rx_links.specs.Drafts.{kids_of}
use Rattle.rx_links.specs.Readers.{IsLinked, list_from, rest_of}
use Rattle.rx_fiber.specs.Fibers.{Fiber}
use Rattle.rx_ways.specs.Walk.{finds_among, finds_first, puts_among, puts_first}

module _ (hint stirred : ℕ → Bool) (c : Shape Fiber) (linked : IsLinked c) (o q : Option ℕ) (i : ℕ) (held : Holds c i) (here : o ≡ Some i) (behind : q ≡ first (rest_of c i)) where
  -- the first fiber of a list, and those behind it
  list_is : (v : Fiber) × (list_from c (Some i) ≡ fiber i v (kids_of c i) (list_from c q))
  list_is =
      let (v, is, l) = linked.list i held in
      (v, l ∙ ap (fiber i v (kids_of c i)) (linked.rest i held ∙ ap (list_from c) (sym behind)))

  pub found_more : finds_among hint stirred (list_from c o) ≡ (finds_first hint stirred (list_from c (Some i)) || finds_among hint stirred (list_from c q))
  found_more =
      let (v, l) = list_is in
      ap (λ x. finds_among hint stirred (list_from c x)) here ∙ ap (finds_among hint stirred) l
      ∙ ap (λ (s : Shape Fiber). finds_first hint stirred s || finds_among hint stirred (list_from c q)) (sym l)

  pub put_more : (n : ℕ) → puts_among hint stirred n (list_from c o) ≡ (puts_first hint stirred n (list_from c (Some i)) || puts_among hint stirred n (list_from c q))
  put_more n =
      let (v, l) = list_is in
      ap (λ x. puts_among hint stirred n (list_from c x)) here ∙ ap (puts_among hint stirred n) l
      ∙ ap (λ (s : Shape Fiber). puts_first hint stirred n s || puts_among hint stirred n (list_from c q)) (sym l)

  -- there are fewer of these
  pub fewer_behind : size (list_from c q) < size (list_from c o)
  fewer_behind =
      let (v, l) = list_is in
      let all : size (list_from c o) ≡ suc (size (kids_of c i) + size (list_from c q)) = ap (λ x. size (list_from c x)) here ∙ ap size l in
      omega (arith, all)
