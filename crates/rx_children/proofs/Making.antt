-- The fibers of a list are made one by one, from the last to the first.
use Rattle.std.specs.Prelude.{◌≡◌, ℕ, zero, suc, ◌<◌, ◌≤◌, false, not, List, [], ◌∷◌, length, drop, slice_get, Option, Some, None, IfSome}
use Rattle.std.proofs.Common.{refl, sym, ap, ◌∙◌, subst, arith, get_or}
use Rattle.std.proofs.lemmas.List.{drop_all, get_or_default}
use Rattle.std.proofs.lemmas.Option.{slice_get-get_or}
use Rattle.std.proofs.Math.Seq.{drop-cons}
use Rattle.rx_elem.specs.Elements.{Element, is_present}
use Rattle.rx_elem.specs.Elements as elements
use Rattle.rx_lists.specs.Shapes.{Shape, IsTop}
use Rattle.rx_lists.specs.Shapes as shapes
use Rattle.rx_links.specs.Drafts.{Draft, taken, made, Trees, IsMadeList, IsTopUnused, IsOpen, IsUnused, old_kids, kids_under}
use Rattle.rx_links.specs.Places.{Around, placed, IsAt}
use Rattle.rx_meaning.specs.Cursor.{is_null}
use Rattle.rx_fiber.specs.Fibers.{Fiber, waiting, nothing}
use Rattle.rx_fiber.specs.declared.stage.Origin.{Origin}
use Rattle.rx_children.specs.Children.{IsMade, AreMade, no_more, gap, next, HasRoomFor, HasAdded, one, HasMadeFrom}
use Rattle.rx_children.specs.Children as children

-- what each made fiber is to the two trees
abbrev pub KnowsPlaces : Trees Fiber → Type 0
KnowsPlaces t = (k : Around Fiber) (p : ℕ) (v : Fiber) (o : Option ℕ) (ks rs : Draft Fiber) → t.draft ≡ placed k (made p v o ks rs) → IsAt t k p v o ks rs

pub null_absent : (e : Element) → is_null e ≡ not (is_present e)
null_absent elements.null = refl
null_absent (elements.text t) = refl
null_absent (elements.host n k attrs es) = refl
null_absent (elements.comp c k ps es) = refl
null_absent (elements.list marked es) = refl
null_absent (elements.boundary k f es) = refl
null_absent (elements.catcher k f es) = refl
null_absent (elements.provider c k x es) = refl

pub made_list : {c : Shape Fiber} {b : Origin} (n : ℕ) (es : List Element) (os : List (Option ℕ)) (d : Draft Fiber) → AreMade c b n es os d → IsMadeList d
made_list n [] [] _ no_more = refl
made_list n [] (o ∷ os) d are = elim are [ ]
made_list n (e ∷ es) [] d are = elim are [ ]
made_list n (e ∷ es) (o ∷ os) d (gap null more) = made_list (suc n) es os d more
made_list n (e ∷ es) (o ∷ os) (made _ _ _ _ d) (next there waits more) = made_list (suc n) es os d more

-- none is made for a fiber that isn't among the old ones
pub unused_top : {c : Shape Fiber} {b : Origin} (j n : ℕ) (es : List Element) (os : List (Option ℕ)) (d : Draft Fiber) → AreMade c b n es os d → ((i : ℕ) → slice_get os i ≡ Some (Some j) → ⊥) → IsTopUnused d j
unused_top j n [] [] _ no_more h = tt
unused_top j n [] (o ∷ os) d are h = elim are [ ]
unused_top j n (e ∷ es) [] d are h = elim are [ ]
unused_top j n (e ∷ es) (o ∷ os) d (gap null more) h = unused_top j (suc n) es os d more (λ i f. h (suc i) f)
unused_top j n (e ∷ es) (o ∷ os) (made _ _ _ _ d) (next there waits more) h = (λ f. h zero (ap Some f), unused_top j (suc n) es os d more (λ i f. h (suc i) f))

slice_drop : {A : Type 0} (n i : ℕ) (xs : List A) (x : A) → slice_get (drop n xs) i ≡ Some x → (j : ℕ) × (n ≤ j) × (slice_get xs j ≡ Some x)
slice_drop zero i xs x e = (i, omega arith, e)
slice_drop (suc n) i [] x e = cc
slice_drop (suc n) i (y ∷ ys) x e = let (j, l, f) = slice_drop n i ys x e in (suc j, omega arith, f)

module _ (origin : Origin) (before t : Trees Fiber) (p n : ℕ) (es : List Element) (os : List (Option ℕ)) (room : HasRoomFor before p os) (made_so : HasMadeFrom origin (suc n) before t p es os) (knows : KnowsPlaces t)
    (inside : n < length os) where
  here : t.draft ≡ placed room.around (made p room.value room.old made_so.kids room.rest)
  here = made_so.stands room.around room.value room.old room.rest room.here

  at : IsAt t room.around p room.value room.old made_so.kids room.rest
  at = knows room.around p room.value room.old made_so.kids room.rest here

  pub still_open : IsOpen t.draft p
  still_open = at.opens (made_list (suc n) (drop (suc n) es) (drop (suc n) os) made_so.kids made_so.are)

  old_at : (j : ℕ) → get_or os n None ≡ Some j → slice_get os n ≡ Some (Some j)
  old_at j e = slice_get-get_or os n None inside ∙ ap Some e

  is_top : (j : ℕ) → get_or os n None ≡ Some j → IsTop (kids_under t.current room.old) j
  is_top j e = subst (λ c. IsTop (kids_under c room.old) j) (sym made_so.current) (room.tops n j (old_at j e))

  is_unused : (j : ℕ) → get_or os n None ≡ Some j → IsUnused t.draft j
  is_unused j e =
      at.unused j (is_top j e)
      (unused_top j (suc n) (drop (suc n) es) (drop (suc n) os) made_so.kids made_so.are
      (λ i f. let (k, l, g) = slice_drop (suc n) i os (Some j) f in let same : n ≡ k = room.apart n k j (old_at j e) g in absurd (omega arith)))

  pub old_top : IfSome (get_or os n None) (IsTop (old_kids t p))
  old_top = by_old (get_or os n None) refl
    where
      by_old : (o : Option ℕ) → get_or os n None ≡ o → IfSome o (IsTop (old_kids t p))
      by_old None e = tt
      by_old (Some j) e = subst (λ o. IsTop (kids_under t.current o) j) (sym at.old) (is_top j e)

  pub old_unused : IfSome (get_or os n None) (IsUnused t.draft)
  old_unused = by_old (get_or os n None) refl
    where
      by_old : (o : Option ℕ) → get_or os n None ≡ o → IfSome o (IsUnused t.draft)
      by_old None e = tt
      by_old (Some j) e = is_unused j e

  -- one more is made
  pub one_more : (after : Trees Fiber) → n < length es → HasAdded origin t after p n (get_or es n elements.null) (get_or os n None) → HasMadeFrom origin n before after p es os
  one_more after within (children.none null same) = record {
    kids = made_so.kids;
    are = rw (drop-cons es n elements.null within, drop-cons os n None inside) (gap null made_so.are);
    stands = λ k v o rs e. ap (λ x. x.draft) same ∙ made_so.stands k v o rs e;
    current = ap (λ x. x.current) same ∙ made_so.current;
  }
  one_more after within (one id v there waits same) = record {
    kids = made id v (get_or os n None) (taken shapes.none) made_so.kids;
    are = rw (drop-cons es n elements.null within, drop-cons os n None inside) (next there (subst (λ c. IsMade c origin (get_or os n None) v n (get_or es n elements.null)) made_so.current waits) made_so.are);
    stands = λ k w o rs e.
        ap (λ x. x.draft) same
        ∙ (knows k p w o made_so.kids rs (made_so.stands k w o rs e)).kids (λ ks. made id v (get_or os n None) (taken shapes.none) ks);
    current = ap (λ x. x.current) same ∙ made_so.current;
  }

-- the last place has nothing behind it
pub none_yet : (origin : Origin) (t : Trees Fiber) (p n : ℕ) (es : List Element) (os : List (Option ℕ)) → n ≡ length es → length os ≡ length es → HasMadeFrom origin n t t p es os
none_yet origin t p n es os e f = record {
  kids = taken shapes.none;
  are = subst (λ xs. AreMade t.current origin n xs (drop n os) (taken shapes.none)) (sym (drop_all n es (omega arith))) (subst (λ xs. AreMade t.current origin n [] xs (taken shapes.none)) (sym (drop_all n os (omega arith))) no_more);
  stands = λ k v o rs h. h;
  current = refl;
}

-- what is made for a child that is no clone
pub is_fiber : (c : Shape Fiber) (o : Option ℕ) (v : Fiber) (n : ℕ) (e f : Element) (origin : Origin) → v ≡ record { place = n; element = f; stage = waiting origin; subtree = nothing } → f ≡ e
    → origin.cloned ≡ false → IsMade c origin o v n e
is_fiber c o v n e f origin is same anew =
    record { at = ap (λ u. u.place) is; element = ap (λ u. u.element) is ∙ same; stage = ap (λ u. u.stage) is; same = λ cloned. absurd (let q : ⊥ = cc in q) }

-- the same when the code counts down
module _ (origin : Origin) (before t : Trees Fiber) (p m n : ℕ) (es : List Element) (os : List (Option ℕ)) (room : HasRoomFor before p os) (made_so : HasMadeFrom origin m before t p es os) (knows : KnowsPlaces t)
    (next_is : m ≡ suc n) (inside : n < length os) where
  from_next : HasMadeFrom origin (suc n) before t p es os
  from_next = subst (λ k. HasMadeFrom origin k before t p es os) next_is made_so

  old_here : (o : Option ℕ) → o ≡ get_or os n o → o ≡ get_or os n None
  old_here o e = e ∙ get_or_default os n o None inside

  pub place_open : IsOpen t.draft p
  place_open = still_open origin before t p n es os room from_next knows inside

  pub place_top : (o : Option ℕ) → o ≡ get_or os n o → IfSome o (IsTop (old_kids t p))
  place_top o e = subst (λ x. IfSome x (IsTop (old_kids t p))) (sym (old_here o e)) (old_top origin before t p n es os room from_next knows inside)

  pub place_unused : (o : Option ℕ) → o ≡ get_or os n o → IfSome o (IsUnused t.draft)
  place_unused o e = subst (λ x. IfSome x (IsUnused t.draft)) (sym (old_here o e)) (old_unused origin before t p n es os room from_next knows inside)

  pub place_more : n < length es → (e : Element) → e ≡ get_or es n e → (o : Option ℕ) → o ≡ get_or os n o → (after : Trees Fiber) → HasAdded origin t after p n e o
      → HasMadeFrom origin n before after p es os
  place_more within e f o g after added =
      one_more origin before t p n es os room from_next knows inside after within
      (subst (λ x. HasAdded origin t after p n x (get_or os n None)) (f ∙ get_or_default es n e elements.null within)
      (subst (λ x. HasAdded origin t after p n e x) (old_here o g) added))
