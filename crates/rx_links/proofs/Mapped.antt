-- Values that change in both trees at once.
use Rattle.std.proofs.Common.{Bool, true, false, eqb, cond, ◌||◌, ◌≡◌, ◌<◌, ◌≤◌, ◌+◌, ◌⊎◌, inl, inr, ℕ, zero, suc, refl, sym, ap, ◌∙◌, IsSome, Some, None, Option, option_map, eq-eqb, eqb-true, List, [], ◌∷◌, length, arith}
use Rattle.rx_arena.specs.Nodes.{at, alternate_in, Changes}
use Rattle.rx_arena.specs.declared.arena.Node.{Node}
use Rattle.rx_lists.specs.Marks.{at_link, revalued, touched, Revalues, CanMark}
use Rattle.rx_lists.specs.Reads.{Nodes, Core, core, core_of, up_in, up_at, alternate_at, Reads, Returns, limit, shape_of}
use Rattle.rx_lists.specs.Shapes.{Shape, none, fiber, first, Holds, holds, IsTree, size, is_among}
use Rattle.rx_lists.specs.Ways.{ups, AreAlone, IsWay}
use Rattle.rx_lists.proofs.Climbing.{up-value, alternate-value, same-value}
use Rattle.rx_lists.proofs.Frames.{same_or_not, eqb-false, shape_of-reads, holds-Holds}
use Rattle.rx_lists.proofs.Freeing.{is-read}
use Rattle.rx_links.specs.Drafts.{Draft, taken, made, Trees, entry, Makes, IsMadeOnce, IsFor, HasTop, IsOldKids, Follows, kids_of, shape_or_none}
use Rattle.rx_links.specs.Marks.{mapped, mapped_draft, first_way, way_in, way_up, changed_where, changed_for, marked_where, marked_above, marked_below, changed_current}
use Rattle.rx_links.specs.Stands.{Drafts, Roots, Shows}
use Rattle.rx_links.proofs.Computed.{held-live}
use Rattle.rx_links.proofs.Counts.{tree-fits}
use Rattle.rx_links.proofs.DraftFrames.{Drafts-alternate}
use Rattle.rx_links.proofs.Edits.{makes-for, has-held, kids_at-is}
use Rattle.rx_links.proofs.Parts.{HasKids}
use Rattle.rx_links.proofs.Whole.{for-makes}

abbrev head : List ℕ → Option ℕ
head [] = None
head (x ∷ xs) = Some x

abbrev Distinct : List ℕ → Type 0
Distinct [] = Unit {0}
Distinct (x ∷ xs) = (is_among xs x ≡ false) × Distinct xs

or-cases : (x y : Bool) → (x || y) ≡ true → (x ≡ true) ⊎ (y ≡ true)
or-cases true y e = inl refl
or-cases false y e = inr e

false-not : (b : Bool) → (b ≡ true → ⊥) → b ≡ false
false-not true n = absurd (n refl)
false-not false n = refl

module _ {F : Type 0} where
  held-kids : (c : Shape F) (f : ℕ) → Holds c f → (k : Shape F) × HasKids c f k
  held-kids none f h = absurd h
  held-kids (fiber id v ks rs) f (inl e) = (ks, inl (sym e, refl))
  held-kids (fiber id v ks rs) f (inr (inl h)) = let r = held-kids ks f h in (r.0, inr (inl r.1))
  held-kids (fiber id v ks rs) f (inr (inr h)) = let r = held-kids rs f h in (r.0, inr (inr r.1))

  has-tree : (c : Shape F) (f : ℕ) (k : Shape F) → IsTree c → HasKids c f k → IsTree k
  has-tree none f k t h = absurd h
  has-tree (fiber id v ks rs) f k t (inl h) = rw (← h.1) t.3
  has-tree (fiber id v ks rs) f k t (inr (inl h)) = has-tree ks f k t.3 h
  has-tree (fiber id v ks rs) f k t (inr (inr h)) = has-tree rs f k t.4 h

  has-read : (a : Nodes F) (c : Shape F) (f : ℕ) (k : Shape F) → Reads a c → HasKids c f k → Reads a k
  has-read a none f k r h = absurd h
  has-read a (fiber id v ks rs) f k r (inl h) = rw (← h.1) r.1
  has-read a (fiber id v ks rs) f k r (inr (inl h)) = has-read a ks f k r.1 h
  has-read a (fiber id v ks rs) f k r (inr (inr h)) = has-read a rs f k r.2 h

  core-value : (g : F → F) (v : F) (c s : Option ℕ) (o : Option (Node F)) → option_map core_of o ≡ Some (core v c s)
      → option_map core_of (option_map (revalued g) o) ≡ Some (core (g v) c s)
  core-value g v c s None e = cc
  core-value g v c s (Some n) e =
      let q : core_of n ≡ core v c s = cc in ap (λ x. Some (core_mapped x)) q
    where
      core_mapped : Core F → Core F
      core_mapped (core u d r) = core (g u) d r

  module _ (g : ℕ → F → F) where
    first-mapped : (s : Shape F) → first (mapped g s) ≡ first s
    first-mapped none = refl
    first-mapped (fiber id v ks rs) = refl

    mapped-held : (s : Shape F) (i : ℕ) → Holds (mapped g s) i → Holds s i
    mapped-held none i h = h
    mapped-held (fiber id v ks rs) i (inl e) = inl e
    mapped-held (fiber id v ks rs) i (inr (inl h)) = inr (inl (mapped-held ks i h))
    mapped-held (fiber id v ks rs) i (inr (inr h)) = inr (inr (mapped-held rs i h))

    held-mapped : (s : Shape F) (i : ℕ) → Holds s i → Holds (mapped g s) i
    held-mapped none i h = h
    held-mapped (fiber id v ks rs) i (inl e) = inl e
    held-mapped (fiber id v ks rs) i (inr (inl h)) = inr (inl (held-mapped ks i h))
    held-mapped (fiber id v ks rs) i (inr (inr h)) = inr (inr (held-mapped rs i h))

    tree-mapped : (s : Shape F) → IsTree s → IsTree (mapped g s)
    tree-mapped none t = tt
    tree-mapped (fiber id v ks rs) t = (
      λ h. t.0 (mapped-held ks id h),
      λ h. t.1 (mapped-held rs id h),
      λ i p q. t.2 i (mapped-held ks i p) (mapped-held rs i q),
      tree-mapped ks t.3,
      tree-mapped rs t.4,
    )

    top-mapped : (c : Shape F) (j : ℕ) (k : Shape F) → HasTop c j k → HasTop (mapped g c) j (mapped g k)
    top-mapped none j k h = h
    top-mapped (fiber id v ks rs) j k (inl h) = inl (h.0, ap (mapped g) h.1)
    top-mapped (fiber id v ks rs) j k (inr h) = inr (top-mapped rs j k h)

    old-mapped : (c : Shape F) (o : Option ℕ) (k : Shape F) → IsOldKids c o k → IsOldKids (mapped g c) o (mapped g k)
    old-mapped c None k h = ap (mapped g) h
    old-mapped c (Some j) k h = top-mapped c j k h

    reads-mapped : (old new : Nodes F) (s : Shape F) → ((i : ℕ) → Holds s i → at new i ≡ option_map (revalued (g i)) (at old i)) → Reads old s → Reads new (mapped g s)
    reads-mapped old new none same r = tt
    reads-mapped old new (fiber id v ks rs) same r = (
      rw (same id (inl refl), first-mapped ks, first-mapped rs) (core-value (g id) v (first ks) (first rs) (at old id) r.0),
      reads-mapped old new ks (λ i h. same i (inr (inl h))) r.1,
      reads-mapped old new rs (λ i h. same i (inr (inr h))) r.2,
    )

    returns-mapped : (old new : Nodes F) (p : Option ℕ) (s : Shape F) → ((i : ℕ) → up_at new i ≡ up_at old i) → Returns old p s → Returns new p (mapped g s)
    returns-mapped old new p none same r = tt
    returns-mapped old new p (fiber id v ks rs) same r =
        (same id ∙ r.0, returns-mapped old new (Some id) ks same r.1, returns-mapped old new p rs same r.2)

    module _ (h : ℕ → Option ℕ → F → F) where
      entry-mapped : (w : Draft F) → entry (mapped_draft g h w) ≡ entry w
      entry-mapped (taken s) = first-mapped s
      entry-mapped (made id v o ks rs) = refl

      mapped-for : (w : Draft F) (i : ℕ) (o : Option ℕ) → IsFor (mapped_draft g h w) i o → IsFor w i o
      mapped-for (taken s) i o f = f
      mapped-for (made id v old ks rs) i o (inl f) = inl f
      mapped-for (made id v old ks rs) i o (inr (inl f)) = inr (inl (mapped-for ks i o f))
      mapped-for (made id v old ks rs) i o (inr (inr f)) = inr (inr (mapped-for rs i o f))

      for-mapped : (w : Draft F) (i : ℕ) (o : Option ℕ) → IsFor w i o → IsFor (mapped_draft g h w) i o
      for-mapped (taken s) i o f = f
      for-mapped (made id v old ks rs) i o (inl f) = inl f
      for-mapped (made id v old ks rs) i o (inr (inl f)) = inr (inl (for-mapped ks i o f))
      for-mapped (made id v old ks rs) i o (inr (inr f)) = inr (inr (for-mapped rs i o f))

      mapped-makes : (w : Draft F) (i : ℕ) → Makes (mapped_draft g h w) i → Makes w i
      mapped-makes w i m = let r = makes-for (mapped_draft g h w) i m in for-makes w i r.0 (mapped-for w i r.0 r.1)

      makes-mapped : (w : Draft F) (i : ℕ) → Makes w i → Makes (mapped_draft g h w) i
      makes-mapped w i m = let r = makes-for w i m in for-makes (mapped_draft g h w) i r.0 (for-mapped w i r.0 r.1)

      once-mapped : (w : Draft F) → IsMadeOnce w → IsMadeOnce (mapped_draft g h w)
      once-mapped (taken s) t = tt
      once-mapped (made id v o ks rs) t = (
        λ m. t.0 (mapped-makes ks id m),
        λ m. t.1 (mapped-makes rs id m),
        λ i p q. t.2 i (mapped-makes ks i p) (mapped-makes rs i q),
        once-mapped ks t.3,
        once-mapped rs t.4,
      )

      follows-mapped : (c : Shape F) (w : Draft F) → Follows c w → Follows (mapped g c) (mapped_draft g h w)
      follows-mapped c (taken s) f = ap (mapped g) f
      follows-mapped c (made id v o ks rs) f = (
        (mapped g f.0.0, old-mapped c o f.0.0 f.0.1, elim f.0.2 [ inl e ↦ inl (ap (mapped_draft g h) e) | inr x ↦ inr (follows-mapped f.0.0 ks x) ]),
        follows-mapped c rs f.1,
      )

      drafts-mapped : (old new : Nodes F) (p : Option ℕ) (w : Draft F) → ((i : ℕ) (o : Option ℕ) → IsFor w i o → at new i ≡ option_map (revalued (h i o)) (at old i))
          → Drafts old p w → Drafts new p (mapped_draft g h w)
      drafts-mapped old new p (taken s) same d = tt
      drafts-mapped old new p (made id v o ks rs) same d = (
        rw (same id o (inl (refl, refl)), d.0, entry-mapped ks, entry-mapped rs) refl,
        drafts-mapped old new (Some id) ks (λ i q f. same i q (inr (inl f))) d.1,
        drafts-mapped old new p rs (λ i q f. same i q (inr (inr f))) d.2,
      )

      -- if the values of current fibers are changed by g, and those of made ones by h
      pub mapped-shows : (t : Roots F) (trees : Trees F) (new : Nodes F) (k : ℕ → F → F) → Shows t trees → Revalues t.nodes new k
          → ((i : ℕ) → Holds trees.current i → option_map (revalued (k i)) (at t.nodes i) ≡ option_map (revalued (g i)) (at t.nodes i))
          → ((i : ℕ) (o : Option ℕ) → IsFor trees.draft i o → option_map (revalued (k i)) (at t.nodes i) ≡ option_map (revalued (h i o)) (at t.nodes i))
          → Shows (record t { nodes = new }) (record { current = mapped g trees.current; draft = mapped_draft g h trees.draft })
      mapped-shows t trees new k sh r current_at made_at = record {
        stands = record {
          leads_current = sh.stands.leads_current ∙ sym (first-mapped trees.current);
          leads_draft = sh.stands.leads_draft ∙ sym (entry-mapped trees.draft);
          reads = reads-mapped t.nodes new trees.current (λ i m. r.at_each i ∙ current_at i m) sh.stands.reads;
          returns = returns-mapped t.nodes new None trees.current (λ i. ap up_in (r.at_each i) ∙ up-value (k i) (at t.nodes i)) sh.stands.returns;
          drafts = drafts-mapped t.nodes new None trees.draft (λ i o f. r.at_each i ∙ made_at i o f) sh.stands.drafts;
          once = tree-mapped trees.current sh.stands.once;
          made_once = once-mapped trees.draft sh.stands.made_once;
          apart = λ i a b. sh.stands.apart i (mapped-held trees.current i a) (mapped-makes trees.draft i b);
          follows = follows-mapped trees.current trees.draft sh.stands.follows;
          back = λ i j f. alternate j ∙ sh.stands.back i j (mapped-for trees.draft i (Some j) f);
          links = λ i j e. elim (sh.stands.links i j (sym (alternate i) ∙ e)) [
            | inl f ↦ inl (for-mapped trees.draft i (Some j) f)
            | inr f ↦ inr (for-mapped trees.draft j (Some i) f)
          ];
          all = λ i s. elim (sh.stands.all i (live_before i s)) [ inl m ↦ inl (held-mapped trees.current i m) | inr m ↦ inr (makes-mapped trees.draft i m) ];
        };
        small = omega (arith, r.live, sh.small);
      }
        where
          alternate : (i : ℕ) → alternate_at new i ≡ alternate_at t.nodes i
          alternate i = ap alternate_in (r.at_each i) ∙ alternate-value (k i) (at t.nodes i)

          live_before : (i : ℕ) → IsSome (at new i) → IsSome (at t.nodes i)
          live_before i s = by_slot (at t.nodes i) refl
            where
              by_slot : (o : Option (Node F)) → at t.nodes i ≡ o → IsSome o
              by_slot None e = let q = r.at_each i ∙ ap (option_map (revalued (k i))) e in let z = rw q at s in cc
              by_slot (Some x) e = refl

  pick : (b : Bool) (g : F → F) (s : Option (Node F)) → b ≡ true → option_map (revalued (λ v. cond b (g v) v)) s ≡ option_map (revalued g) s
  pick b g s e = rw e refl

  skip : (b : Bool) (g : F → F) (s : Option (Node F)) → b ≡ false → option_map (revalued (λ v. cond b (g v) v)) s ≡ s
  skip b g s e = rw e (same-value s)

  -- each of these returns to the next
  abbrev Chain : Nodes F → List ℕ → Type 0
  Chain a [] = Unit {0}
  Chain a (x ∷ xs) = (up_at a x ≡ head xs) × Chain a xs

  chain-ups : (n : ℕ) (a : Nodes F) (ws : List ℕ) → Chain a ws → length ws ≤ n → ups n a (head ws) ≡ ws
  unfolding ups
  chain-ups zero a [] c h = refl
  chain-ups (suc n) a [] c h = refl
  chain-ups zero a (x ∷ xs) c h = absurd (omega arith)
  chain-ups (suc n) a (x ∷ xs) c h = rw c.0 (ap (λ ys. x ∷ ys) (chain-ups n a xs c.1 (omega arith)))

  way-chain : (a : Nodes F) (p : Option ℕ) (above : List ℕ) (c : Shape F) (i : ℕ) → p ≡ head above → Chain a above → Returns a p c → Chain a (way_in above c i)
  way-chain a p above none i e ch r = tt
  way-chain a p above (fiber id v ks rs) i e ch r =
      by_test (eqb id i) (way_in (id ∷ above) ks i) (way-chain a (Some id) (id ∷ above) ks i refl (r.0 ∙ e, ch) r.1) (way-chain a p above rs i e ch r.2)
    where
      by_test : (b : Bool) (xs : List ℕ) → Chain a xs → Chain a (way_in above rs i) → Chain a (cond b (id ∷ above) (first_way xs (way_in above rs i)))
      by_test true xs x y = (r.0 ∙ e, ch)
      by_test false [] x y = y
      by_test false (z ∷ zs) x y = x

  way-absent : (above : List ℕ) (c : Shape F) (i : ℕ) → (Holds c i → ⊥) → way_in above c i ≡ []
  way-absent above none i n = refl
  way-absent above (fiber id v ks rs) i n =
      rw (
        eqb-false id i (λ e. n (inl (sym e))),
        way-absent (id ∷ above) ks i (λ m. n (inr (inl m))),
        way-absent above rs i (λ m. n (inr (inr m))),
      )
      refl

  way-head : (above : List ℕ) (c : Shape F) (i : ℕ) → IsTree c → Holds c i → head (way_in above c i) ≡ Some i
  way-head above none i t h = absurd h
  way-head above (fiber id v ks rs) i t (inl e) = rw (eq-eqb id i (sym e)) (ap Some (sym e))
  way-head above (fiber id v ks rs) i t (inr (inl h)) =
      rw (eqb-false id i (λ e. t.0 (rw e h))) (kept (way_in (id ∷ above) ks i) (way-head (id ∷ above) ks i t.3 h))
    where
      kept : (xs : List ℕ) → head xs ≡ Some i → head (first_way xs (way_in above rs i)) ≡ Some i
      kept [] e = cc
      kept (x ∷ xs) e = e
  way-head above (fiber id v ks rs) i t (inr (inr h)) =
      rw (eqb-false id i (λ e. t.1 (rw e h)), way-absent (id ∷ above) ks i (λ m. t.2 i m h)) (way-head above rs i t.4 h)

  way-held : (above : List ℕ) (c : Shape F) (i y : ℕ) → is_among (way_in above c i) y ≡ true → (is_among above y ≡ true) ⊎ Holds c y
  way-held above none i y e = cc
  way-held above (fiber id v ks rs) i y e =
      by_test (eqb id i) (way_in (id ∷ above) ks i) (way-held (id ∷ above) ks i y) (way-held above rs i y) e
    where
      of_first : (is_among (id ∷ above) y ≡ true) → (is_among above y ≡ true) ⊎ Holds (fiber id v ks rs) y
      of_first q = elim (or-cases (eqb id y) (is_among above y) q) [ inl x ↦ inr (inl (sym (eqb-true id y x))) | inr x ↦ inl x ]

      by_test : (b : Bool) (xs : List ℕ) → (is_among xs y ≡ true → (is_among (id ∷ above) y ≡ true) ⊎ Holds ks y)
          → (is_among (way_in above rs i) y ≡ true → (is_among above y ≡ true) ⊎ Holds rs y)
          → is_among (cond b (id ∷ above) (first_way xs (way_in above rs i))) y ≡ true
          → (is_among above y ≡ true) ⊎ Holds (fiber id v ks rs) y
      by_test true xs f g q = of_first q
      by_test false [] f g q = elim (g q) [ inl x ↦ inl x | inr x ↦ inr (inr (inr x)) ]
      by_test false (z ∷ zs) f g q = elim (f q) [ inl x ↦ of_first x | inr x ↦ inr (inr (inl x)) ]

  way-distinct : (above : List ℕ) (c : Shape F) (i : ℕ) → IsTree c → Distinct above → ((y : ℕ) → Holds c y → is_among above y ≡ false) → Distinct (way_in above c i)
  way-distinct above none i t d n = tt
  way-distinct above (fiber id v ks rs) i t d n =
      by_test (eqb id i) (way_in (id ∷ above) ks i)
      (way-distinct (id ∷ above) ks i t.3 (n id (inl refl), d) (λ y h. rw (eqb-false id y (λ e. t.0 (rw e h)), n y (inr (inl h))) refl))
      (way-distinct above rs i t.4 d (λ y h. n y (inr (inr h))))
    where
      by_test : (b : Bool) (xs : List ℕ) → Distinct xs → Distinct (way_in above rs i) → Distinct (cond b (id ∷ above) (first_way xs (way_in above rs i)))
      by_test true xs x y = (n id (inl refl), d)
      by_test false [] x y = y
      by_test false (z ∷ zs) x y = x

  way-length : (above : List ℕ) (c : Shape F) (i : ℕ) → length (way_in above c i) ≤ length above + size c
  way-length above none i = omega arith
  way-length above (fiber id v ks rs) i =
      by_test (eqb id i) (way_in (id ∷ above) ks i) (way-length (id ∷ above) ks i) (way-length above rs i)
    where
      by_test : (b : Bool) (xs : List ℕ) → length xs ≤ length (id ∷ above) + size ks → length (way_in above rs i) ≤ length above + size rs
          → length (cond b (id ∷ above) (first_way xs (way_in above rs i))) ≤ length above + suc (size ks + size rs)
      by_test true xs x y = omega arith
      by_test false [] x y = omega (arith, y)
      by_test false (z ∷ zs) x y = omega (arith, x)

  -- values that a test on current fibers changes, with their alternates
  module _ (t : Roots F) (trees : Trees F) (h : Shows t trees) (p : ℕ → Bool) (held : (y : ℕ) → p y ≡ true → Holds trees.current y) where
    -- the test passes for no made fiber
    made_off : (y : ℕ) → Makes trees.draft y → p y ≡ false
    made_off y q = false-not (p y) (λ e. h.stands.apart y (held y e) q)

    pub where-shows : (new : Nodes F) (g : F → F) → Revalues t.nodes new (touched t.nodes p g) → Shows (record t { nodes = new }) (marked_where p g trees)
    where-shows new g r =
        mapped-shows (changed_where p g) (changed_for p g) t trees new (touched t.nodes p g) h r
        (λ i q. current_case i q (alternate_at t.nodes i) refl) made_case
      where
        or-false : (x : Bool) → (x || false) ≡ x
        or-false true = refl
        or-false false = refl

        current_case : (i : ℕ) → Holds trees.current i → (o : Option ℕ) → alternate_at t.nodes i ≡ o
            → option_map (revalued (λ v. cond (p i || at_link p (alternate_at t.nodes i)) (g v) v)) (at t.nodes i)
            ≡ option_map (revalued (changed_where p g i)) (at t.nodes i)
        current_case i q None e = rw (e, or-false (p i)) refl
        current_case i q (Some y) e = rw (e, off, or-false (p i)) refl
          where
            off : p y ≡ false
            off = elim (h.stands.links i y e) [
              | inl x ↦ absurd (h.stands.apart i q (for-makes trees.draft i (Some y) x))
              | inr x ↦ made_off y (for-makes trees.draft y (Some i) x)
            ]

        made_case : (i : ℕ) (o : Option ℕ) → IsFor trees.draft i o
            → option_map (revalued (λ v. cond (p i || at_link p (alternate_at t.nodes i)) (g v) v)) (at t.nodes i)
            ≡ option_map (revalued (changed_for p g i o)) (at t.nodes i)
        made_case i None x =
            rw (Drafts-alternate t.nodes None trees.draft i None h.stands.drafts x, made_off i (for-makes trees.draft i None x)) refl
        made_case i (Some j) x =
            rw (Drafts-alternate t.nodes None trees.draft i (Some j) h.stands.drafts x, made_off i (for-makes trees.draft i (Some j) x)) refl

  -- no two current fibers are alternates
  current-apart : (t : Roots F) (trees : Trees F) → Shows t trees → (i j : ℕ) → Holds trees.current i → alternate_at t.nodes i ≡ Some j → Holds trees.current j → ⊥
  current-apart t trees h i j a e b = elim (h.stands.links i j e) [
    | inl x ↦ h.stands.apart i a (for-makes trees.draft i (Some j) x)
    | inr x ↦ h.stands.apart j b (for-makes trees.draft j (Some i) x)
  ]

  module _ (t : Roots F) (trees : Trees F) (h : Shows t trees) (f : ℕ) (m : Holds trees.current f) where
    way : List ℕ
    way = way_up trees.current f

    way_held : (y : ℕ) → is_among way y ≡ true → Holds trees.current y
    unfolding way
    way_held y e = elim (way-held [] trees.current f y e) [ inl x ↦ absurd (let z = x in cc) | inr x ↦ x ]

    way_small : length way < limit
    unfolding way
    way_small =
        let a = way-length [] trees.current f in
        let b = tree-fits t.nodes trees.current h.stands.once (held-live t trees.current trees.draft h.stands) in
        omega (arith, a, b, h.small)

    ups_way : ups limit t.nodes (Some f) ≡ way
    unfolding way
    ups_way =
        ap (ups limit t.nodes) (sym (way-head [] trees.current f h.stands.once m))
        ∙ chain-ups limit t.nodes (way_up trees.current f) (way-chain t.nodes None [] trees.current f refl tt h.stands.returns) (omega (arith, small))
      where
        small : length (way_up trees.current f) < limit
        small = way_small

    alone : (xs : List ℕ) → Distinct xs → ((y : ℕ) → is_among xs y ≡ true → Holds trees.current y) → AreAlone t.nodes xs
    alone [] d s = tt
    alone (x ∷ xs) d s = (
      held-live t trees.current trees.draft h.stands x (s x (rw (eq-eqb x x refl) refl)),
      d.0,
      λ y e. false-not (is_among (x ∷ xs) y) (λ q. current-apart t trees h x y (s x (rw (eq-eqb x x refl) refl)) e (s y q)),
      alone xs d.1 (λ y q. s y (or-left-true (eqb x y) (is_among xs y) q)),
    )
      where
        or-left-true : (p q : Bool) → q ≡ true → (p || q) ≡ true
        or-left-true true q e = refl
        or-left-true false q e = e

    pub mark-way : IsWay t.nodes (Some f)
    unfolding way
    mark-way = record {
      ends = rw ups_way way_small;
      alone = rw ups_way (alone (way_up trees.current f) (way-distinct [] trees.current f h.stands.once tt (λ y q. refl)) way_held);
    }

    pub marked-shows : (new : Nodes F) (g : F → F) → Revalues t.nodes new (touched t.nodes (is_among (ups limit t.nodes (Some f))) g)
        → Shows (record t { nodes = new }) (marked_above g f trees)
    unfolding way
    marked-shows new g r = where-shows t trees h (is_among way) way_held new g (rw ups_way at r)

    -- the children of the fiber
    kd : (k : Shape F) × HasKids trees.current f k
    kd = held-kids trees.current f m

    kids : Shape F
    kids = kd.0

    has : HasKids trees.current f kids
    unfolding kids
    has = kd.1

    kids_is : kids_of trees.current f ≡ kids
    kids_is = ap shape_or_none (kids_at-is trees.current f kids h.stands.once has)

    kids_tree : IsTree kids
    kids_tree = has-tree trees.current f kids h.stands.once has

    kids_read : Reads t.nodes kids
    kids_read = has-read t.nodes trees.current f kids h.stands.reads has

    kids_small : size kids ≤ limit
    kids_small =
        omega (arith, tree-fits t.nodes kids kids_tree (λ i q. held-live t trees.current trees.draft h.stands i (has-held trees.current f kids i has q)), h.small)

    module _ (link : Option ℕ) (link_is : link ≡ first (kids_of trees.current f)) where
      link_kids : link ≡ first kids
      link_kids = link_is ∙ ap first kids_is

      kids_shape : shape_of limit t.nodes link ≡ kids
      kids_shape = ap (shape_of limit t.nodes) link_kids ∙ shape_of-reads limit t.nodes kids kids_read kids_small

      pub below-can : CanMark t.nodes link
      below-can = record {
        read = rw link_kids (is-read t.nodes kids kids_read kids_small);
        once = rw kids_shape kids_tree;
        apart = λ i j a e b.
            current-apart t trees h i j (has-held trees.current f kids i has (rw kids_shape at a)) e (has-held trees.current f kids j has (rw kids_shape at b));
      }

      pub below-shows : (new : Nodes F) (g : F → F) → Revalues t.nodes new (touched t.nodes (holds (shape_of limit t.nodes link)) g)
          → Shows (record t { nodes = new }) (marked_below g f trees)
      below-shows new g r =
          rw kids_is
          (where-shows t trees h (holds kids) (λ y e. has-held trees.current f kids y has (holds-Holds kids y e)) new g (rw kids_shape at r))

    pub changed-shows : (new : Nodes F) (g : F → F) → Changes (revalued g) t.nodes new f → Shows (record t { nodes = new }) (changed_current g f trees)
    changed-shows new g ch =
        mapped-shows (changed_where (λ j. eqb j f) g) (λ j o v. v) t trees new (changed_where (λ j. eqb j f) g) h (record { at_each = each; live = ch.live }) (λ i q. refl) made_case
      where
        each : (i : ℕ) → at new i ≡ option_map (revalued (changed_where (λ j. eqb j f) g i)) (at t.nodes i)
        each i = elim (same_or_not i f) [
          | inl e ↦ rw e (ch.changed ∙ sym (pick (eqb f f) g (at t.nodes f) (eq-eqb f f refl)))
          | inr n ↦ ch.others i n ∙ sym (skip (eqb i f) g (at t.nodes i) (eqb-false i f n))
        ]

        made_case : (i : ℕ) (o : Option ℕ) → IsFor trees.draft i o → option_map (revalued (changed_where (λ j. eqb j f) g i)) (at t.nodes i) ≡ option_map (revalued (λ v. v)) (at t.nodes i)
        made_case i o y =
            skip (eqb i f) g (at t.nodes i) (eqb-false i f (λ e. h.stands.apart f m (rw e at (for-makes trees.draft i o y)))) ∙ sym (same-value (at t.nodes i))
