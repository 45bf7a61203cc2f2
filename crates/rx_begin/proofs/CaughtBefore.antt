-- The old fallback of an error boundary that had caught a value is among the children of its fiber.
use Rattle.std.specs.Prelude.{◌≡◌, ℕ, ℤ, suc, Bool, true, false, List, Option, Some, None, if◌then◌else◌, option_and_then}
use Rattle.std.proofs.Common.{sym, ap, ◌∙◌, subst}
use Rattle.rx_elem.specs.Elements.{Element}
use Rattle.rx_elem.specs.Trees.{Mark, Node, Forest, caught_in, is_hidden, mark_of, of_boundary, of_catcher, of_host, of_instance, plain}
use Rattle.rx_lists.specs.Shapes.{Shape, IsTop}
use Rattle.rx_lists.specs.Shapes as shapes
use Rattle.rx_links.specs.Drafts.{Trees, kids_under, list_at, old_of, taken}
use Rattle.rx_links.specs.Readers.{IsLinked, list_from, rest_in, rest_of}
use Rattle.rx_fiber.specs.Fibers.{Fiber, Stage}
use Rattle.rx_fiber.specs.declared.stage.Origin.{Origin}
use Rattle.rx_fiber.specs.OldLists.{begins_fallback, fallback_list, matched}
use Rattle.rx_fiber.specs.Reading.{AreFor, IsFor, IsOld, alone, beside, new, next, of, whole}
use Rattle.rx_fiber.specs.Surround.{is_catcher}
use Rattle.rx_fiber.proofs.OldLists.{list_begins, list_held, no_fallback}
use Rattle.rx_fiber.proofs.OldTops.{fallback_top}
use Rattle.rx_causes.specs.Marks.{mark_at}
use Rattle.rx_causes.proofs.Marks.{old_caught_is}
use Rattle.rx_children.specs.Nodes.{HasList, HasOpened, IsBareAt, IsBareBeside, begun_from}
use Rattle.rx_children.specs.declared.node.Begun.{Begun}
use Rattle.rx_children.proofs.Making.{KnowsPlaces}
use Rattle.rx_children.proofs.Nodes.{opened_from}
use Rattle.rx_begin.specs.Others.{caught_before}

-- an old node that had caught a value is no hidden boundary's
no_hidden : (m : Mark) (x : ℤ) → is_hidden m ≡ true → caught_in m ≡ Some x → ⊥
no_hidden (of_instance i) x h c = cc
no_hidden (of_host n) x h c = cc
no_hidden (of_boundary b) x h c = cc
no_hidden (of_catcher s) x h c = cc
no_hidden plain x h c = cc

module _ (c : Shape Fiber) (linked : IsLinked c) where
  -- no fiber of a fallback stands behind its own
  none_behind : (j n m : ℕ) (y : Node) (x : ℤ) (ns : Forest) (s rest : Shape Fiber) → IsFor n y s rest → AreFor m ns rest → caught_in (mark_of y) ≡ Some x → list_at c j ≡ Some s
      → begins_fallback (rest_of c j) ≡ false
  none_behind j n m _ x ns _ rest (whole is shown a) are caught here = ap (λ l. begins_fallback (rest_in l)) here ∙ no_fallback m rest (list_begins m ns rest are)
  none_behind j n m _ x ns _ rest (alone is falls gone a) are caught here = ap (λ l. begins_fallback (rest_in l)) here ∙ no_fallback m rest (list_begins m ns rest are)
  none_behind j n m _ x ns _ rest (beside {m = k} is hidden some a s f) are caught here = absurd (no_hidden k x hidden caught)

  -- so its fallback is among its own children
  caught_tops : (o : Option ℕ) (old : Option Node) (x : ℤ) (i : ℕ) → IsOld c o old → option_and_then caught_in (mark_at c o) ≡ Some x → IsTop (fallback_list (list_from c o)) i → IsTop (kids_under c o) i
  caught_tops _ _ x i new caught t = t
  caught_tops _ _ x i (of {j = j} {n = n} {x = y} {ns = ns} {s = s} here leads (next {rest = rest} is a)) caught t =
      fallback_top c linked j i (list_held c j s here)
      (none_behind j n (suc n) y x ns s rest is a (sym (old_caught_is c (Some j) (Some y) (of here leads (next is a))) ∙ caught) here) t

-- a fiber that has no children yet stands beside the fallback of such a node
pub caught_beside : (t : Trees Fiber) (p : ℕ) (old first : Option ℕ) (x : ℤ) → KnowsPlaces t → IsLinked t.current → IsBareAt t p → (y : Option Node) × IsOld t.current (old_of t.draft p) y
    → option_and_then caught_in (mark_at t.current (old_of t.draft p)) ≡ Some x → old ≡ old_of t.draft p → list_from t.current first ≡ fallback_list (list_from t.current old) → IsBareBeside t p first
caught_beside t p old first x knows linked bare was caught same list =
    let at = knows bare.around p bare.value bare.old (taken shapes.none) bare.rest bare.here in
    record {
      around = bare.around;
      value = bare.value;
      old = bare.old;
      rest = bare.rest;
      here = bare.here;
      tops = λ j h.
          subst (λ o. IsTop (kids_under t.current o) j) at.old
          (caught_tops t.current linked (old_of t.draft p) was.0 x j was.1 caught
          (subst (λ o. IsTop (fallback_list (list_from t.current o)) j) same (subst (λ s. IsTop s j) list h)));
    }

-- where the render comes from elements that are matched with a list
pub matched_from : (origin : Origin) (t after : Trees Fiber) (p : ℕ) (stage : Stage) (es fs : List Element) (l m : Shape Fiber) (first : Option ℕ) (answer : Begun) → es ≡ fs → l ≡ m
    → HasList origin t after p stage es (matched l es) first → answer ≡ begun_from first → HasOpened origin t after p stage fs (matched m fs) answer
matched_from origin t after p stage es fs l m first answer same lists list is =
    subst (λ s. HasOpened origin t after p stage fs (matched s fs) answer) lists
    (subst (λ gs. HasOpened origin t after p stage gs (matched l gs) answer) same (opened_from origin t after p stage es (matched l es) first answer list is))

-- what an error boundary had caught before is told by the mark of its old node
pub mark_caught : (t : Trees Fiber) (p : ℕ) (e : Element) (x : ℤ) → caught_before t p e ≡ Some x → option_and_then caught_in (mark_at t.current (old_of t.draft p)) ≡ Some x
mark_caught t p e x h = by_kind (is_catcher e) h
  where
    by_kind : (b : Bool) → (if b then option_and_then caught_in (mark_at t.current (old_of t.draft p)) else None) ≡ Some x → option_and_then caught_in (mark_at t.current (old_of t.draft p)) ≡ Some x
    by_kind true f = f
    by_kind false f = cc
