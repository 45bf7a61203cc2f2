-- Clones of a current list are made one behind another, from the first to the last.
use Rattle.std.specs.Prelude.{◌≡◌, ℕ, zero, suc, ◌+◌, ◌-◌, Bool, true, false, List, [], ◌∷◌, ◌++◌, map, max, Option, Some, None, IfSome, option_map}
use Rattle.std.specs.Option.{option_map_or}
use Rattle.std.proofs.Common.{refl, sym, ap, ◌∙◌, subst, inl, inr, arith}
use Rattle.rx_elem.specs.Elements.{Element}
use Rattle.rx_elem.specs.Elements as elements
use Rattle.rx_lists.specs.Shapes.{Shape, fiber, first, Holds, IsTop, IsTree}
use Rattle.rx_lists.specs.Shapes as shapes
use Rattle.rx_lists.proofs.Adopting.{top-held}
use Rattle.rx_links.specs.Drafts.{Draft, taken, made, Trees, IsMadeList, IsTopUnused, IsUnused, kids_of, kids_under, old_kids}
use Rattle.rx_links.specs.Places.{Around, below, after, placed, up_of, IsAt}
use Rattle.rx_links.specs.Readers.{list_from, list_under, rest_of, value_of, IsLinked}
use Rattle.rx_meaning.specs.Cursor.{is_null}
use Rattle.rx_fiber.specs.Fibers.{Fiber, as_cloned, waiting, nothing}
use Rattle.rx_fiber.specs.OldLists.{is_fallback, filled, spread, old_elements, old_fibers}
use Rattle.rx_fiber.proofs.OldPlaces.{list_here, rest_here}
use Rattle.rx_fiber.proofs.OldReads.{rest_held}
use Rattle.rx_children.specs.Children.{IsMade, AreMade, no_more, gap, next, element_or_null, HasMadeFrom}
use Rattle.rx_children.specs.Clones.{CanStandBehind, HasGoneOn, passed, vacant, cloned, place_from, put_behind}
use Rattle.rx_children.specs.Nodes.{IsBareBeside}
use Rattle.rx_children.proofs.Cloning.{list_elements}
use Rattle.rx_children.proofs.Making.{KnowsPlaces}

-- Clones that stand in a row

-- a clone: its fiber, and the current one that it is for
pub record Clone : Type 0 where
  pub id : ℕ
  pub value : Fiber
  pub old : ℕ

-- a list in progress behind clones, of which the last comes first
abbrev pub behind : List Clone → Draft Fiber → Draft Fiber
behind [] d = d
behind (x ∷ xs) d = behind xs (made x.id x.value (Some x.old) (taken shapes.none) d)

-- what surrounds the place behind them
abbrev pub past : List Clone → Around Fiber → Around Fiber
past [] k = k
past (x ∷ xs) k = after x.id x.value (Some x.old) (taken shapes.none) (past xs k)

-- the one made last
abbrev pub last_of : List Clone → Option ℕ
last_of [] = None
last_of (x ∷ xs) = Some x.id

past_placed : (xs : List Clone) (k : Around Fiber) (d : Draft Fiber) → placed (past xs k) d ≡ placed k (behind xs d)
past_placed [] k d = refl
past_placed (x ∷ xs) k d = past_placed xs k (made x.id x.value (Some x.old) (taken shapes.none) d)

past_up : (xs : List Clone) (k : Around Fiber) → up_of (past xs k) ≡ up_of k
past_up [] k = refl
past_up (x ∷ xs) k = past_up xs k

behind_made : (xs : List Clone) (d : Draft Fiber) → IsMadeList d → IsMadeList (behind xs d)
behind_made [] d is = is
behind_made (x ∷ xs) d is = behind_made xs (made x.id x.value (Some x.old) (taken shapes.none) d) is

behind_free : (xs : List Clone) (j : ℕ) (d : Draft Fiber) → IsTopUnused (behind xs d) j → IsTopUnused d j
behind_free [] j d h = h
behind_free (x ∷ xs) j d h = (behind_free xs j (made x.id x.value (Some x.old) (taken shapes.none) d) h).1

-- none of the row is for a fiber, whatever stands behind
free_behind : (xs : List Clone) (j : ℕ) (d e : Draft Fiber) → IsTopUnused (behind xs d) j → IsTopUnused e j → IsTopUnused (behind xs e) j
free_behind [] j d e h g = g
free_behind (x ∷ xs) j d e h g =
    let mine : IsTopUnused (made x.id x.value (Some x.old) (taken shapes.none) d) j = behind_free xs j (made x.id x.value (Some x.old) (taken shapes.none) d) h in
    free_behind xs j (made x.id x.value (Some x.old) (taken shapes.none) d) (made x.id x.value (Some x.old) (taken shapes.none) e) h (mine.0, g)

-- The next clone

-- its place
pub place_is : (n p q m : ℕ) → q ≡ p → m ≡ max n q → m ≡ n + (p - n)
place_is n p q m e f = omega arith

pub place_next : (n p q m k : ℕ) → q ≡ p → m ≡ max n q → k ≡ m + 1 → k ≡ suc (n + (p - n))
place_next n p q m k e f g = omega arith

-- what is made for it
pub clone_is : (c : Shape Fiber) (id n m : ℕ) (v w : Fiber) (e : Element) (visible : Bool) → Some v ≡ value_of c id → e ≡ v.element → m ≡ n
    → w ≡ record { place = m; element = e; stage = waiting (as_cloned visible); subtree = nothing } → IsMade c (as_cloned visible) (Some id) w n v.element
clone_is c id n m v w e visible value same at is = record {
  at = ap (λ x. x.place) is ∙ at;
  element = ap (λ x. x.element) is ∙ same;
  stage = ap (λ x. x.stage) is;
  same = λ cloned. ap (option_map (λ x. x.element)) (sym value);
}

-- The walk

-- places without a fiber in front of some make none
behind_gaps : (c : Shape Fiber) (b : Bool) (n k : ℕ) (os : List (Option ℕ)) (d : Draft Fiber) → AreMade c (as_cloned b) (k + n) (map (element_or_null c) os) os d
    → AreMade c (as_cloned b) k (map (element_or_null c) (filled n None ++ os)) (filled n None ++ os) d
behind_gaps c b zero k os d are = subst (λ m. AreMade c (as_cloned b) m (map (element_or_null c) os) os d) (omega arith) are
behind_gaps c b (suc n) k os d are =
    gap refl (behind_gaps c b n (suc k) os d (subst (λ m. AreMade c (as_cloned b) m (map (element_or_null c) os) os d) (omega arith) are))

-- the fibers of a current list, place by place, from a place on
abbrev pub fibers_from : ℕ → Shape Fiber → List (Option ℕ)
fibers_from n s = spread None (λ id v. Some id) n s

-- these are the clones of the fibers of a current list from a place on
abbrev pub AreClones : Shape Fiber → Bool → ℕ → Shape Fiber → Draft Fiber → Type 0
AreClones c visible n s d = AreMade c (as_cloned visible) n (map (element_or_null c) (fibers_from n s)) (fibers_from n s) d

-- The clones of the fibers of a current list that stand before this one are made below a fiber. The one made last is known, and the place that comes next.
pub record IsClonedUpTo (visible : Bool) (before t : Trees Fiber) (p : ℕ) (first_old link last : Option ℕ) (place : ℕ) : Type 0 where
  pub clones : List Clone
  pub last_is : last ≡ last_of clones
  pub held : IfSome link (Holds before.current)
  pub tops : (j : ℕ) → IsTop (list_from before.current link) j → IsTop (list_from before.current first_old) j
  pub unused : (j : ℕ) → IsTop (list_from before.current link) j → IsTopUnused (behind clones (taken shapes.none)) j
  pub are : (d : Draft Fiber) → AreClones before.current visible place (list_from before.current link) d → AreClones before.current visible 0 (list_from before.current first_old) (behind clones d)
  pub stands : (k : Around Fiber) (v : Fiber) (o : Option ℕ) (rs : Draft Fiber)
      → before.draft ≡ placed k (made p v o (taken shapes.none) rs) → t.draft ≡ placed k (made p v o (behind clones (taken shapes.none)) rs)
  pub current : t.current ≡ before.current

-- none is made yet
pub none_cloned : (visible : Bool) (t : Trees Fiber) (p : ℕ) (first_old : Option ℕ) → IfSome first_old (Holds t.current) → IsClonedUpTo visible t t p first_old first_old None 0
none_cloned visible t p first_old held = record {
  clones = [];
  last_is = refl;
  held = held;
  tops = λ j h. h;
  unused = λ j h. tt;
  are = λ d h. h;
  stands = λ k v o rs e. e;
  current = refl;
}

module _ (visible : Bool) (before t : Trees Fiber) (p : ℕ) (first_old : Option ℕ) (linked : IsLinked before.current) where
  -- all are made at the end of the list
  pub all_cloned : (link last : Option ℕ) (place : ℕ) → IfSome first_old (Holds before.current) → IsClonedUpTo visible before t p first_old link last place → link ≡ None
      → HasMadeFrom (as_cloned visible) 0 before t p (old_elements (list_from before.current first_old)) (old_fibers (list_from before.current first_old))
  all_cloned link last place held so is = record {
    kids = behind so.clones (taken shapes.none);
    are =
        subst (λ es. AreMade before.current (as_cloned visible) 0 es (old_fibers (list_from before.current first_old)) (behind so.clones (taken shapes.none))) (list_elements before.current linked first_old held)
        (so.are (taken shapes.none) (subst (λ o. AreClones before.current visible place (list_from before.current o) (taken shapes.none)) (sym is) no_more));
    stands = so.stands;
    current = so.current;
  }

  module _ (id : ℕ) (last : Option ℕ) (place : ℕ) (so : IsClonedUpTo visible before t p first_old (Some id) last place) (knows : KnowsPlaces t) where
    abbrev rest : Shape Fiber
    rest = rest_of before.current id

    in_list : IsTop (list_from before.current (Some id)) id
    in_list = let (v, is, f) = linked.list id so.held in subst (λ s. IsTop s id) (sym f) (inl refl)

    in_rest : (j : ℕ) → IsTop rest j → IsTop (list_from before.current (Some id)) j
    in_rest j h = let (v, is, f) = linked.list id so.held in subst (λ s. IsTop s j) (sym f) (inr h)

    rest_apart : (j : ℕ) → IsTop rest j → id ≡ j → ⊥
    rest_apart j h e =
        let (v, is, f) = linked.list id so.held in
        let tree : IsTree (fiber id v (kids_of before.current id) rest) = subst IsTree f (linked.once id so.held) in
        tree.1 (top-held rest id (subst (IsTop rest) (sym e) h))

    -- Where the next one stands

    -- the clone made last, at its place
    at_last : (x : Clone) (xs : List Clone) → so.clones ≡ x ∷ xs → (k : Around Fiber) (v : Fiber) (o : Option ℕ) (rs : Draft Fiber) → before.draft ≡ placed k (made p v o (taken shapes.none) rs)
        → IsAt t (past xs (below p v o rs k)) x.id x.value (Some x.old) (taken shapes.none) (taken shapes.none)
    at_last x xs is k v o rs e =
        knows (past xs (below p v o rs k)) x.id x.value (Some x.old) (taken shapes.none) (taken shapes.none)
        (so.stands k v o rs e
        ∙ (ap (λ l. placed k (made p v o (behind l (taken shapes.none)) rs)) is
        ∙ sym (past_placed xs (below p v o rs k) (made x.id x.value (Some x.old) (taken shapes.none) (taken shapes.none)))))

    -- what the draft is with one more behind them
    put_so : (new : ℕ) (w : Fiber) (k : Around Fiber) (v : Fiber) (o : Option ℕ) (rs : Draft Fiber) → before.draft ≡ placed k (made p v o (taken shapes.none) rs)
        → put_behind last p new w (Some id) t.draft ≡ placed k (made p v o (behind so.clones (made new w (Some id) (taken shapes.none) (taken shapes.none))) rs)
    put_so new w k v o rs e =
        ap (λ l. put_behind l p new w (Some id) t.draft) so.last_is ∙ by_clones so.clones refl
      where
        by_clones : (xs : List Clone) → so.clones ≡ xs
            → put_behind (last_of xs) p new w (Some id) t.draft ≡ placed k (made p v o (behind xs (made new w (Some id) (taken shapes.none) (taken shapes.none))) rs)
        by_clones [] is =
            (knows k p v o (taken shapes.none) rs (so.stands k v o rs e ∙ ap (λ l. placed k (made p v o (behind l (taken shapes.none)) rs)) is)).kids
            (λ ks. made new w (Some id) (taken shapes.none) ks)
        by_clones (x ∷ xs) is =
            (at_last x xs is k v o rs e).rest (λ rs. made new w (Some id) (taken shapes.none) rs)
            ∙ past_placed xs (below p v o rs k) (made x.id x.value (Some x.old) (taken shapes.none) (made new w (Some id) (taken shapes.none) (taken shapes.none)))

    pub can_stand : IsBareBeside before p first_old → CanStandBehind t p last id
    can_stand bare = subst (λ l. CanStandBehind t p l id) (sym so.last_is) (by_clones so.clones refl)
      where
        at : IsAt t bare.around p bare.value bare.old (behind so.clones (taken shapes.none)) bare.rest
        at = knows bare.around p bare.value bare.old (behind so.clones (taken shapes.none)) bare.rest (so.stands bare.around bare.value bare.old bare.rest bare.here)

        top : IsTop (kids_under t.current bare.old) id
        top = subst (λ c. IsTop (kids_under c bare.old) id) (sym so.current) (bare.tops id (so.tops id in_list))

        top_there : IsTop (old_kids t p) id
        top_there = subst (λ o. IsTop (kids_under t.current o) id) (sym at.old) top

        free : IsUnused t.draft id
        free = at.unused id top (so.unused id in_list)

        by_clones : (xs : List Clone) → so.clones ≡ xs → CanStandBehind t p (last_of xs) id
        by_clones [] is = (at.opens (behind_made so.clones (taken shapes.none) refl), top_there, free)
        by_clones (x ∷ xs) is =
            let there = at_last x xs is bare.around bare.value bare.old bare.rest bare.here in
            (there.makes, subst (λ o. IsTop (list_under t o) id) (sym (there.parent ∙ past_up xs (below p bare.value bare.old bare.rest bare.around))) top_there, free)

    -- One step

    module _ (u : Trees Fiber) (link : Option ℕ) (link_is : link ≡ first rest) where
      rest_is : list_from before.current link ≡ rest
      rest_is = ap (list_from before.current) link_is ∙ rest_here before.current linked id so.held

      list_is : (v : Fiber) → Some v ≡ value_of before.current id → list_from before.current (Some id) ≡ fiber id v (kids_of before.current id) rest
      list_is v value = list_here before.current linked id so.held v value

      link_held : IfSome link (Holds before.current)
      link_held = subst (λ o. IfSome o (Holds before.current)) (sym link_is) (rest_held before.current linked id so.held)

      tops_there : (j : ℕ) → IsTop (list_from before.current link) j → IsTop (list_from before.current first_old) j
      tops_there j h = so.tops j (in_rest j (subst (λ s. IsTop s j) rest_is h))

      unused_still : (j : ℕ) → IsTop (list_from before.current link) j → IsTopUnused (behind so.clones (taken shapes.none)) j
      unused_still j h = so.unused j (in_rest j (subst (λ s. IsTop s j) rest_is h))

      -- nothing is made
      same_clones : (new_last : Option ℕ) (n : ℕ) → u ≡ t → new_last ≡ last
          → ((d : Draft Fiber) → AreClones before.current visible n rest d → AreClones before.current visible place (list_from before.current (Some id)) d)
          → IsClonedUpTo visible before u p first_old link new_last n
      same_clones new_last n same is more = record {
        clones = so.clones;
        last_is = is ∙ so.last_is;
        held = link_held;
        tops = tops_there;
        unused = unused_still;
        are = λ d h. so.are d (more d (subst (λ s. AreClones before.current visible n s d) rest_is h));
        stands = λ k v o rs e. ap (λ x. x.draft) same ∙ so.stands k v o rs e;
        current = ap (λ x. x.current) same ∙ so.current;
      }

      -- one clone is made
      one_clone : (new_last : Option ℕ) (n new : ℕ) (w : Fiber) → u ≡ record t { draft = put_behind last p new w (Some id) t.draft } → new_last ≡ Some new
          → ((d : Draft Fiber) → AreClones before.current visible n rest d → AreClones before.current visible place (list_from before.current (Some id)) (made new w (Some id) (taken shapes.none) d))
          → IsClonedUpTo visible before u p first_old link new_last n
      one_clone new_last n new w same is more = record {
        clones = record { id = new; value = w; old = id } ∷ so.clones;
        last_is = is;
        held = link_held;
        tops = tops_there;
        unused = λ j h.
            free_behind so.clones j (taken shapes.none) (made new w (Some id) (taken shapes.none) (taken shapes.none)) (unused_still j h)
            ((λ e. rest_apart j (subst (λ s. IsTop s j) rest_is h) (let q : id ≡ j = cc in q)), tt);
        are = λ d h. so.are (made new w (Some id) (taken shapes.none) d) (more d (subst (λ s. AreClones before.current visible n s d) rest_is h));
        stands = λ k v o rs e. ap (λ x. x.draft) same ∙ put_so new w k v o rs e;
        current = ap (λ x. x.current) same ∙ so.current;
      }

      -- the fiber of a fallback stands in no place
      past_fallback : (v : Fiber) → Some v ≡ value_of before.current id → is_fallback v.stage ≡ true
          → (d : Draft Fiber) → AreClones before.current visible place rest d → AreClones before.current visible place (list_from before.current (Some id)) d
      past_fallback v value f d h =
          let told : fibers_from place (list_from before.current (Some id)) ≡ fibers_from place rest = ap (fibers_from place) (list_is v value) ∙ rw f refl in
          subst (λ os. AreMade before.current (as_cloned visible) place (map (element_or_null before.current) os) os d) (sym told) h

      -- each other one stands behind gaps
      told_here : (v : Fiber) → Some v ≡ value_of before.current id → is_fallback v.stage ≡ false
          → fibers_from place (list_from before.current (Some id)) ≡ filled (v.place - place) None ++ Some id ∷ fibers_from (suc (place_from place v)) rest
      told_here v value f = ap (fibers_from place) (list_is v value) ∙ rw f refl

      element_is : (v : Fiber) → Some v ≡ value_of before.current id → element_or_null before.current (Some id) ≡ v.element
      element_is v value = sym (ap (λ x. option_map_or (λ w. w.element) x elements.null) value)

      with_one : (v : Fiber) → Some v ≡ value_of before.current id → is_fallback v.stage ≡ false → (d : Draft Fiber)
          → AreMade before.current (as_cloned visible) (place_from place v) (element_or_null before.current (Some id) ∷ map (element_or_null before.current) (fibers_from (suc (place_from place v)) rest)) (Some id ∷ fibers_from (suc (place_from place v)) rest) d
          → AreClones before.current visible place (list_from before.current (Some id)) d
      with_one v value f d h =
          subst (λ os. AreMade before.current (as_cloned visible) place (map (element_or_null before.current) os) os d) (sym (told_here v value f))
          (behind_gaps before.current visible (v.place - place) place (Some id ∷ fibers_from (suc (place_from place v)) rest) d h)

      pub more_cloned : (new_last : Option ℕ) (n : ℕ) → HasGoneOn visible t u p id last place new_last n → IsClonedUpTo visible before u p first_old link new_last n
      more_cloned new_last n (passed v value f same last_same n_is) =
          let value_there : Some v ≡ value_of before.current id = value ∙ ap (λ c. value_of c id) so.current in
          same_clones new_last n same last_same (subst (λ m. (d : Draft Fiber) → AreClones before.current visible m rest d → AreClones before.current visible place (list_from before.current (Some id)) d) (sym n_is) (past_fallback v value_there f))
      more_cloned new_last n (vacant v value f null same last_same n_is) =
          let value_there : Some v ≡ value_of before.current id = value ∙ ap (λ c. value_of c id) so.current in
          same_clones new_last n same last_same
          (λ d h. with_one v value_there f d (gap (ap is_null (element_is v value_there) ∙ null) (subst (λ m. AreClones before.current visible m rest d) n_is h)))
      more_cloned new_last n (cloned v value f present new w is same last_is n_is) =
          let value_there : Some v ≡ value_of before.current id = value ∙ ap (λ c. value_of c id) so.current in
          one_clone new_last n new w same last_is
          (λ d h. with_one v value_there f (made new w (Some id) (taken shapes.none) d)
          (next (ap is_null (element_is v value_there) ∙ present)
          (subst (λ e. IsMade before.current (as_cloned visible) (Some id) w (place_from place v) e) (sym (element_is v value_there)) (subst (λ c. IsMade c (as_cloned visible) (Some id) w (place_from place v) v.element) so.current is))
          (subst (λ m. AreClones before.current visible m rest d) n_is h)))
