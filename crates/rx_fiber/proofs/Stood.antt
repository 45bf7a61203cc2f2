-- Where the children of a current fiber stand, by its element and its stage.
use Rattle.std.specs.Ordering.{int_eq}
use Rattle.std.specs.Prelude.{◌≡◌, ℕ, ℤ, Bool, true, false, not, ◌&&◌, cond, nat_eq, if◌then◌else◌, List, ◌∷◌, Option, Some, None, option_and_then, option_map}
use Rattle.std.proofs.Common.{refl, sym, ap, ◌∙◌, subst}
use Rattle.std.proofs.lemmas.Bool.Decides.{Decides-int_eq}
use Rattle.rx_ctx.specs.Contexts.{is_among, moved_by, moved_in, moves_by, same_given}
use Rattle.rx_ctx.proofs.Others.{among_by}
use Rattle.rx_elem.specs.Elements.{Element, kind_of, same_kind}
use Rattle.rx_elem.specs.Elements as elements
use Rattle.rx_elem.proofs.Deciding.{and_passes, same_number}
use Rattle.rx_lists.specs.Shapes.{Shape, none, fiber}
use Rattle.rx_links.specs.Drafts.{list_at, shape_or_none}
use Rattle.rx_links.specs.Readers.{value_in, value_of, list_from}
use Rattle.rx_fiber.specs.Fibers.{Fiber}
use Rattle.rx_fiber.specs.OldLists.{begins_fallback, first_kids, falls_in, hides_in, primary_list, fallback_list, fiber_at}
use Rattle.rx_fiber.specs.Stood.{gave, given_in, given_more, nearest_given, one_more, below, in_fallback, StandsBut}
use Rattle.rx_fiber.specs.Surround.{IsElementOf, StandsIf}
use Rattle.rx_fiber.proofs.OldTops.{fiber_top}

-- What providers on two ways give

-- both give nothing, or a value to one context
data GivesAlike : Option (ℕ × ℤ) → Option (ℕ × ℤ) → Type 0 where
  nothing : GivesAlike None None
  one : (c : ℕ) (x y : ℤ) → GivesAlike (Some (c, x)) (Some (c, y))

-- so do elements of one kind
alike : (e f : Element) → same_kind (kind_of e) (kind_of f) ≡ true → GivesAlike (given_in e) (given_in f)
alike (elements.provider c k x es) (elements.provider d l y fs) h = subst (λ i. GivesAlike (Some (c, x)) (Some (i, y))) (same_number c d h) (one c x y)
alike (elements.provider c k x es) f h = absurd (let q : ⊥ = cc in q)
alike e (elements.provider d l y fs) h = absurd (let q : ⊥ = cc in q)
alike e f h = nothing

-- a context that one provider more doesn't move has one value if it has before
same_more : (c d : ℕ) (x y : ℤ) (b : Bool) (moved : List ℕ) (vs ws : List (ℕ × ℤ)) → (b ≡ false → x ≡ y) → (is_among c moved ≡ false → nearest_given c vs ≡ nearest_given c ws)
    → is_among c (moved_by d b moved) ≡ false → nearest_given c ((d, x) ∷ vs) ≡ nearest_given c ((d, y) ∷ ws)
same_more c d x y b moved vs ws same rest h = go (nat_eq d c) (sym (among_by c d b moved) ∙ h)
  where
    go : (s : Bool) → (if s then b else is_among c moved) ≡ false → cond s (Some (d, x)) (nearest_given c vs) ≡ cond s (Some (d, y)) (nearest_given c ws)
    go true f = ap (λ z. Some (d, z)) (same f)
    go false f = rest f

-- a provider that gives another value moves its context
same_value : (c : ℕ) (x y : ℤ) → not (same_given (Some (c, x)) (Some (c, y))) ≡ false → y ≡ x
same_value c x y h = go (same_given (Some (c, x)) (Some (c, y))) refl h
  where
    go : (b : Bool) → (nat_eq c c && int_eq x y) ≡ b → not b ≡ false → y ≡ x
    go true f g = sym ((Decides-int_eq x y).0 (and_passes (nat_eq c c) (int_eq x y) f).1)
    go false f g = absurd (let q : ⊥ = cc in q)

same_below : (g w : Option (ℕ × ℤ)) (moves : List (ℕ × Bool)) (vs ws : List (ℕ × ℤ)) → GivesAlike g w → ((c : ℕ) → is_among c (moved_in moves) ≡ false → nearest_given c vs ≡ nearest_given c ws)
    → (c : ℕ) → is_among c (moved_in (moves_by g w moves)) ≡ false → nearest_given c (one_more w vs) ≡ nearest_given c (one_more g ws)
same_below _ _ moves vs ws nothing same c h = same c h
same_below _ _ moves vs ws (one d x y) same c h =
    same_more c d y x (not (same_given (Some (d, x)) (Some (d, y)))) (moved_in moves) vs ws (same_value d x y) (same c) h

module _ (c : Shape Fiber) (ws : List (ℕ × ℤ)) (e : Element) where
  -- A child of one that hides nothing, and is of the kind of this element.
  pub stood_below : (moves : List (ℕ × Bool)) (o : Option ℕ) (v : Fiber) (place i : ℕ) → StandsIf c (moved_in moves) ws o → option_and_then (value_of c) o ≡ Some v → hides_in v.stage ≡ false
      → same_kind (kind_of e) (kind_of v.element) ≡ true → fiber_at (primary_list (list_from c o)) place ≡ Some i
      → StandsBut c (moved_in (moves_by (given_in e) (gave c o) moves)) (given_more e ws) (Some i)
  stood_below moves None v place i at value shown kind is = cc
  stood_below moves (Some q) v place i at value shown kind is = record {
    given = given_more v.element at.given;
    stood = below place at.stood value shown is;
    same =
        subst (λ (g : Option (ℕ × ℤ)). (d : ℕ) → is_among d (moved_in (moves_by (given_in e) g moves)) ≡ false → nearest_given d (given_more v.element at.given) ≡ nearest_given d (given_more e ws))
        (sym (ap (λ (x : Option Fiber). option_and_then (λ (u : Fiber). given_in u.element) x) value)) (same_below (given_in e) (given_in v.element) moves at.given ws (alike e v.element kind) at.same);
  }

module _ (c : Shape Fiber) (moved : List ℕ) (ws : List (ℕ × ℤ)) (e : Element) where
  -- the fiber of an element has a value
  value_with : (q : ℕ) → IsElementOf c (Some q) e → (v : Fiber) × (value_of c q ≡ Some v) × (v.element ≡ e)
  value_with q same = by_value (value_of c q) refl
    where
      by_value : (x : Option Fiber) → value_of c q ≡ x → (v : Fiber) × (value_of c q ≡ Some v) × (v.element ≡ e)
      by_value None f = absurd (let g : option_map (λ (v : Fiber). v.element) None ≡ Some e = sym (ap (option_map (λ v. v.element)) f) ∙ same in let h : ⊥ = cc in h)
      by_value (Some v) f = (v, f, (let g : Some v.element ≡ Some e = sym (ap (option_map (λ v. v.element)) f) ∙ same in cc))

  -- One of the fallback of a boundary that is hidden.
  pub stood_in_fallback : (o : Option ℕ) (place i : ℕ) → StandsBut c moved ws o → IsElementOf c o e → ((v : Fiber) → option_and_then (value_of c) o ≡ Some v → falls_in v.stage ≡ true)
      → fiber_at (fallback_list (list_from c o)) place ≡ Some i → StandsBut c moved ws (Some i)
  stood_in_fallback None place i at same hidden is = cc
  stood_in_fallback (Some q) place i at same hidden is =
      let (v, f, g) = value_with q same in record { given = at.given; stood = in_fallback place at.stood f (hidden v f) is; same = at.same }

  -- One of the fallback of a boundary, which has one only if it is hidden.
  pub fallback_stands : (o : Option ℕ) (place i : ℕ) → StandsIf c moved ws o → fiber_at (fallback_list (list_from c o)) place ≡ Some i → StandsBut c moved ws (Some i)
  fallback_stands None place i at is = absurd (fiber_top none place i is)
  fallback_stands (Some q) place i at is = by_list (list_at c q) refl
    where
      by_hiding : (v : Fiber) (ks rs : Shape Fiber) → value_of c q ≡ Some v → fiber_at (fallback_list (fiber q v ks rs)) place ≡ Some i → (b : Bool) → falls_in v.stage ≡ b → StandsBut c moved ws (Some i)
      by_hiding v ks rs value there true h = record { given = at.given; stood = in_fallback place at.stood value h is; same = at.same }
      by_hiding v ks rs value there false h =
          absurd (fiber_top none place i (subst (λ b. fiber_at (if b then (if begins_fallback rs then first_kids rs else ks) else none) place ≡ Some i) h there))

      by_list : (x : Option (Shape Fiber)) → list_at c q ≡ x → StandsBut c moved ws (Some i)
      by_list None f = absurd (fiber_top none place i (subst (λ x. fiber_at (fallback_list (shape_or_none x)) place ≡ Some i) f is))
      by_list (Some none) f = absurd (fiber_top none place i (subst (λ x. fiber_at (fallback_list (shape_or_none x)) place ≡ Some i) f is))
      by_list (Some (fiber id v ks rs)) f =
          by_hiding v ks rs (ap value_in f) (subst (λ x. fiber_at (fallback_list (shape_or_none x)) place ≡ Some i) f is) (falls_in v.stage) refl
