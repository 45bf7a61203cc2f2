-- Walks along links.
use Rattle.std.proofs.Common.{append_assoc, ◌≡◌, ℕ, ◌<◌, ◌≤◌, ap, sym, ◌∙◌, refl, Some, None, Option, IfSome, option_map, arith, IsSome, List, ◌++◌, ◌∷◌, []}
use Rattle.std.proofs.lemmas.List.{append-nil}
use Rattle.rx_arena.specs.Nodes.{at}
use Rattle.rx_arena.specs.declared.arena.Node.{Node}
use Rattle.rx_lists.specs.Reads.{Nodes, core, core_of, limit, shape_of, IsRead}
use Rattle.rx_lists.specs.Shapes.{fiber, first, size, ids}
use Rattle.rx_lists.proofs.Frames.{core-live, shape_of-reads}
use Rattle.rx_lists.proofs.Freeing.{is-read, ReadStep, read-step, read-end}

module _ {F : Type 0} where
  module _ (a : Nodes F) (link next : Option ℕ) (id : ℕ) (is : next ≡ Some id) (read : IsRead a next) (within : size (shape_of limit a next) ≤ size (shape_of limit a link)) where
    ws : ReadStep a id
    ws = read-step a id (rw is at read)

    pub walk-live : IsSome (at a id)
    walk-live = core-live a id (core ws.value (first ws.kids) (first ws.rest)) ws.here

    whole : shape_of limit a next ≡ fiber id ws.value ws.kids ws.rest
    whole = ap (shape_of limit a) is ∙ ws.whole

    module _ (kids : Option ℕ) (kids_is : IfSome (at a id) (λ n. kids ≡ n.child)) where
      kids_link : kids ≡ first ws.kids
      kids_link = by_slot (at a id) refl kids_is
        where
          by_slot : (o : Option (Node F)) → at a id ≡ o → IfSome o (λ n. kids ≡ n.child) → kids ≡ first ws.kids
          by_slot None f x = let q = ap (option_map core_of) f in let e = ws.here in cc
          by_slot (Some n) f x = let q = ap (option_map core_of) f in let e = ws.here in cc

      kids_shape : shape_of limit a kids ≡ ws.kids
      kids_shape = ap (shape_of limit a) kids_link ∙ shape_of-reads limit a ws.kids ws.kids_read (omega (arith, ws.small))

      pub walk-kids : IsRead a kids
      walk-kids = rw kids_link (is-read a ws.kids ws.kids_read (omega (arith, ws.small)))

      pub walk-kids-smaller : size (shape_of limit a kids) < size (shape_of limit a link)
      walk-kids-smaller = let e = ap size kids_shape in let f = ap size whole in omega arith

      module _ (rest : Option ℕ) (rest_is : IfSome (at a id) (λ n. rest ≡ n.sibling)) where
        rest_link : rest ≡ first ws.rest
        rest_link = by_slot (at a id) refl rest_is
          where
            by_slot : (o : Option (Node F)) → at a id ≡ o → IfSome o (λ n. rest ≡ n.sibling) → rest ≡ first ws.rest
            by_slot None f x = let q = ap (option_map core_of) f in let e = ws.here in cc
            by_slot (Some n) f x = let q = ap (option_map core_of) f in let e = ws.here in cc

        rest_shape : shape_of limit a rest ≡ ws.rest
        rest_shape = ap (shape_of limit a) rest_link ∙ shape_of-reads limit a ws.rest ws.rest_read (omega (arith, ws.small))

        pub walk-rest : IsRead a rest
        walk-rest = rw rest_link (is-read a ws.rest ws.rest_read (omega (arith, ws.small)))

        pub walk-smaller : size (shape_of limit a rest) < size (shape_of limit a next)
        walk-smaller = let e = ap size rest_shape in let f = ap size whole in omega arith

        pub walk-within : size (shape_of limit a rest) ≤ size (shape_of limit a link)
        walk-within = omega (arith, walk-smaller)

        pub walk-gives : (before all : List ℕ) → before ++ ids (shape_of limit a next) ≡ all
            → ((before ++ id ∷ []) ++ ids (shape_of limit a kids)) ++ ids (shape_of limit a rest) ≡ all
        walk-gives before all h =
            append_assoc (before ++ id ∷ []) (ids (shape_of limit a kids)) (ids (shape_of limit a rest))
            ∙ append_assoc before (id ∷ []) (ids (shape_of limit a kids) ++ ids (shape_of limit a rest))
            ∙ ap (λ s. before ++ s) (rw (kids_shape, rest_shape, whole) refl)
            ∙ h

  pub walk-end : (a : Nodes F) (next : Option ℕ) (before all : List ℕ) → next ≡ None → before ++ ids (shape_of limit a next) ≡ all → before ≡ all
  walk-end a next before all e h = sym (append-nil before) ∙ ap (λ s. before ++ ids s) (sym (ap (shape_of limit a) e ∙ read-end a)) ∙ h
