-- What a change elsewhere leaves of a draft.
use Rattle.std.proofs.Common.{◌≡◌, ℕ, inl, inr, ◌∙◌, refl, Some, None, Option, IsSome}
use Rattle.rx_arena.specs.Nodes.{at}
use Rattle.rx_lists.specs.Reads.{Nodes, alternate_at, Reads}
use Rattle.rx_lists.specs.Shapes.{Shape, none, fiber, first}
use Rattle.rx_links.specs.Drafts.{Draft, taken, made, entry, Makes, IsFor, grafted, HasTop, IsOldKids, Follows}
use Rattle.rx_links.specs.Stands.{Drafts}

module _ {F : Type 0} where
  -- a draft reads the same if no made fiber changed
  pub Drafts-frame : (old new : Nodes F) (p : Option ℕ) (w : Draft F) → ((i : ℕ) → Makes w i → at new i ≡ at old i) → Drafts old p w → Drafts new p w
  Drafts-frame old new p (taken s) same d = tt
  Drafts-frame old new p (made id v o ks rs) same d = (
    same id (inl refl) ∙ d.0,
    Drafts-frame old new (Some id) ks (λ i h. same i (inr (inl h))) d.1,
    Drafts-frame old new p rs (λ i h. same i (inr (inr h))) d.2,
  )

  pub Drafts-live : (a : Nodes F) (p : Option ℕ) (w : Draft F) (i : ℕ) → Drafts a p w → Makes w i → IsSome (at a i)
  Drafts-live a p (taken s) i d h = absurd h
  Drafts-live a p (made id v o ks rs) i d (inl e) = rw (e, d.0) refl
  Drafts-live a p (made id v o ks rs) i d (inr (inl h)) = Drafts-live a (Some id) ks i d.1 h
  Drafts-live a p (made id v o ks rs) i d (inr (inr h)) = Drafts-live a p rs i d.2 h

  -- a made fiber's alternate is the one that it was made for
  pub Drafts-alternate : (a : Nodes F) (p : Option ℕ) (w : Draft F) (i : ℕ) (o : Option ℕ) → Drafts a p w → IsFor w i o → alternate_at a i ≡ o
  Drafts-alternate a p (taken s) i o d h = absurd h
  Drafts-alternate a p (made id v old ks rs) i o d (inl h) = rw (h.0, d.0) h.1
  Drafts-alternate a p (made id v old ks rs) i o d (inr (inl h)) = Drafts-alternate a (Some id) ks i o d.1 h
  Drafts-alternate a p (made id v old ks rs) i o d (inr (inr h)) = Drafts-alternate a p rs i o d.2 h

  top-read : (a : Nodes F) (c : Shape F) (j : ℕ) (k : Shape F) → Reads a c → HasTop c j k → Reads a k
  top-read a none j k r h = absurd h
  top-read a (fiber id v ks rs) j k r (inl h) = rw (← h.1) r.1
  top-read a (fiber id v ks rs) j k r (inr h) = top-read a rs j k r.2 h

  pub old-read : (a : Nodes F) (c : Shape F) (o : Option ℕ) (k : Shape F) → Reads a c → IsOldKids c o k → Reads a k
  old-read a c None k r h = rw h tt
  old-read a c (Some j) k r h = top-read a c j k r h

  pub first-grafted : (w : Draft F) → first (grafted w) ≡ entry w
  first-grafted (taken s) = refl
  first-grafted (made id v o ks rs) = refl

  -- the draft as a list is read too
  pub Reads-grafted : (a : Nodes F) (c : Shape F) (p : Option ℕ) (w : Draft F) → Reads a c → Follows c w → Drafts a p w → Reads a (grafted w)
  Reads-grafted a c p (taken s) r f d = rw f tt
  Reads-grafted a c p (made id v o ks rs) r f d = (
    rw (first-grafted ks, first-grafted rs, d.0) refl,
    elim f.0.2 [
      | inl e ↦ rw e (old-read a c o f.0.0 r f.0.1)
      | inr g ↦ Reads-grafted a f.0.0 (Some id) ks (old-read a c o f.0.0 r f.0.1) g d.1
    ],
    Reads-grafted a c p rs r f.1 d.2,
  )
