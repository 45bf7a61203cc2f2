-- What is computed from the nodes is what they stand for.
use Rattle.std.proofs.Common.{◌≡◌, ℕ, zero, suc, ◌≤◌, ◌+◌, inl, inr, ap, refl, Some, None, Option, IsSome, arith}
use Rattle.slab.specs.Slab.{slab_len}
use Rattle.rx_arena.specs.Nodes.{at}
use Rattle.rx_lists.specs.Reads.{Nodes, Reads, limit, shape_of, IsRead}
use Rattle.rx_lists.specs.Shapes.{Shape, none, fiber, first, Holds, IsTree, size}
use Rattle.rx_lists.proofs.Frames.{Reads-live, shape_of-reads, holds-true, apart-false}
use Rattle.rx_lists.proofs.Freeing.{is-read}
use Rattle.rx_links.specs.Drafts.{Draft, taken, made, Trees, entry, Makes, made_size, grafted, Follows, IsForOne, Fits}
use Rattle.rx_links.specs.Stands.{Drafts, Roots, Stands, Shows}
use Rattle.rx_links.specs.View.{draft_of, trees_of, IsSound}
use Rattle.rx_links.proofs.Counts.{tree-fits, count-both}
use Rattle.rx_links.proofs.DraftFrames.{Drafts-live, old-read}
use Rattle.rx_links.proofs.Whole.{old-held, grafted-tree, holds-cases, takes-held}

module _ {F : Type 0} where
  -- a list of the current tree is drafted as taken over
  draft_of-taken : (n : ℕ) (a : Nodes F) (c : Shape F) (s : Shape F) → Reads a s → ((i : ℕ) → Holds s i → Holds c i) → size s ≤ n
      → draft_of n a c (first s) ≡ taken s
  unfolding draft_of shape_of
  draft_of-taken zero a c none r h q = refl
  draft_of-taken (suc n) a c none r h q = refl
  draft_of-taken zero a c (fiber id v ks rs) r h q = absurd (omega arith)
  draft_of-taken (suc n) a c (fiber id v ks rs) r h q =
      rw (holds-true c id (h id (inl refl))) (ap taken (shape_of-reads (suc n) a (fiber id v ks rs) r q))

  draft_of-drafts : (n : ℕ) (a : Nodes F) (c0 c : Shape F) (p : Option ℕ) (w : Draft F) → Reads a c → ((i : ℕ) → Holds c i → Holds c0 i)
      → Follows c w → Drafts a p w → ((i : ℕ) → Holds c0 i → Makes w i → ⊥) → size (grafted w) ≤ n → draft_of n a c0 (entry w) ≡ w
  unfolding draft_of
  draft_of-drafts n a c0 c p (taken s) r h f d x q = draft_of-taken n a c0 s (rw f tt) (λ i m. absurd (rw f at m)) q
  draft_of-drafts zero a c0 c p (made id v o ks rs) r h f d x q = absurd (omega arith)
  draft_of-drafts (suc n) a c0 c p (made id v o ks rs) r h f d x q =
      let kids : draft_of n a c0 (entry ks) ≡ ks =
      elim f.0.2 [
        | inl e ↦
            let z = ap (λ b. size (grafted b)) e in
            rw e
            (draft_of-taken n a c0 f.0.0 (old-read a c o f.0.0 r f.0.1) (λ i m. h i (old-held c o f.0.0 i f.0.1 m)) (omega arith))
        | inr g ↦
            draft_of-drafts n a c0 f.0.0 (Some id) ks (old-read a c o f.0.0 r f.0.1) (λ i m. h i (old-held c o f.0.0 i f.0.1 m)) g d.1
            (λ i l m. x i l (inr (inl m))) (omega arith)
      ] in
      rw (
        apart-false c0 id (λ m. x id m (inl refl)),
        d.0,
        kids,
        draft_of-drafts n a c0 c p rs r h f.1 d.2 (λ i l m. x i l (inr (inr m))) (omega arith),
      )
      refl

  -- no current fiber has two made for it
  pub one-for : (t : Roots F) (c : Shape F) (w : Draft F) → Stands t c w → IsForOne w
  one-for t c w s a b j p q = let x = s.back a j p in let y = s.back b j q in cc

  pub whole : (t : Roots F) (c : Shape F) (w : Draft F) → Stands t c w → IsTree (grafted w)
  whole t c w s = grafted-tree c w (one-for t c w s) s.once s.follows s.made_once s.apart

  pub held-live : (t : Roots F) (c : Shape F) (w : Draft F) → Stands t c w → (i : ℕ) → Holds c i → IsSome (at t.nodes i)
  held-live t c w s i h = Reads-live t.nodes c i s.reads h

  pub made-live : (t : Roots F) (c : Shape F) (w : Draft F) → Stands t c w → (i : ℕ) → Makes w i → IsSome (at t.nodes i)
  made-live t c w s i m = Drafts-live t.nodes None w i s.drafts m

  pub grafted-live : (t : Roots F) (c : Shape F) (w : Draft F) → Stands t c w → (i : ℕ) → Holds (grafted w) i → IsSome (at t.nodes i)
  grafted-live t c w s i h = elim (holds-cases w i h) [ inl m ↦ made-live t c w s i m | inr k ↦ held-live t c w s i (takes-held c w i s.follows k) ]

  -- the nodes are as many as the current fibers and the made ones
  pub live-count : (t : Roots F) (c : Shape F) (w : Draft F) → Stands t c w → slab_len t.nodes ≡ size c + made_size w
  live-count t c w s = count-both t.nodes c w s.once s.made_once s.apart (held-live t c w s) (made-live t c w s) s.all

  pub current-small : (t : Roots F) (trees : Trees F) → Shows t trees → size trees.current ≤ limit
  current-small t trees h = omega (arith, tree-fits t.nodes trees.current h.stands.once (held-live t trees.current trees.draft h.stands), h.small)

  pub draft-small : (t : Roots F) (trees : Trees F) → Shows t trees → size (grafted trees.draft) ≤ limit
  draft-small t trees h =
      omega (arith, tree-fits t.nodes (grafted trees.draft) (whole t trees.current trees.draft h.stands) (grafted-live t trees.current trees.draft h.stands), h.small)

  -- the computed trees are those that the nodes stand for
  pub shown : (t : Roots F) (trees : Trees F) → Shows t trees → trees_of t ≡ trees
  unfolding trees_of
  shown t trees h =
      rw (
        h.stands.leads_current,
        h.stands.leads_draft,
        shape_of-reads limit t.nodes trees.current h.stands.reads (current-small t trees h),
        draft_of-drafts limit t.nodes trees.current trees.current None trees.draft h.stands.reads (λ i m. m) h.stands.follows h.stands.drafts h.stands.apart
            (draft-small t trees h),
      )
      refl

  pub sound : (t : Roots F) (trees : Trees F) → Shows t trees → IsSound t
  sound t trees h = record { shows = rw (shown t trees h) h }

  pub opened : (t : Roots F) (trees : Trees F) → trees_of t ≡ trees → IsSound t → Shows t trees
  opened t trees e h = rw e at h.shows

  pub fitting : (t : Roots F) (trees : Trees F) → Shows t trees → Fits trees
  fitting t trees h = record {
    once = h.stands.once;
    made_once = h.stands.made_once;
    apart = h.stands.apart;
    follows = h.stands.follows;
    for_one = one-for t trees.current trees.draft h.stands;
    whole = whole t trees.current trees.draft h.stands;
  }

  pub current-read : (t : Roots F) (trees : Trees F) → Shows t trees → IsRead t.nodes t.current
  current-read t trees h = rw h.stands.leads_current (is-read t.nodes trees.current h.stands.reads (current-small t trees h))

  pub current-is : (t : Roots F) (trees : Trees F) → Shows t trees → shape_of limit t.nodes t.current ≡ trees.current
  current-is t trees h = rw h.stands.leads_current (shape_of-reads limit t.nodes trees.current h.stands.reads (current-small t trees h))
