-- A fiber is begun over the children that were made for it.
use Rattle.std.specs.Prelude.{◌≡◌, ℕ, List, Option}
use Rattle.std.proofs.Common.{refl, ap, ◌∙◌, subst}
use Rattle.rx_elem.specs.Elements.{Element}
use Rattle.rx_lists.specs.Shapes.{IsTop}
use Rattle.rx_lists.specs.Shapes as shapes
use Rattle.rx_links.specs.Drafts.{Draft, taken, made, Trees, Makes, entry, old_of, valued, IsMadeList}
use Rattle.rx_links.specs.Places.{Around, placed, IsAt}
use Rattle.rx_links.specs.Readers.{list_from, IsLinked, made_kids_of, made_kids_in}
use Rattle.rx_fiber.specs.Fibers.{Fiber, Stage}
use Rattle.rx_fiber.specs.OldLists.{primary_list}
use Rattle.rx_fiber.proofs.OldTops.{primary_top}
use Rattle.rx_fiber.specs.declared.stage.Origin.{Origin}
use Rattle.rx_children.specs.Children.{HasMadeFrom}
use Rattle.rx_children.specs.Nodes.{IsBareAt, IsBareBeside, HasList, HasOpened, begun_over, begun_from}
use Rattle.rx_children.specs.declared.node.Begun.{Begun}
use Rattle.rx_children.proofs.Making.{KnowsPlaces, made_list}

-- the first of the children that are made tells where the render comes
from_first : (d : Draft Fiber) → IsMadeList d → begun_from (entry d) ≡ begun_over d
from_first (taken s) is = ap (λ l. begun_from (shapes.first l)) is
from_first (made jd v o ks rs) is = refl

module _ (origin : Origin) (t u new : Trees Fiber) (p : ℕ) (first : Option ℕ) (stage : Stage) (es : List Element) (os : List (Option ℕ)) (beside : IsBareBeside t p first) (done : HasMadeFrom origin 0 t u p es os)
    (knows : KnowsPlaces u) where
  pub still_made : Makes u.draft p
  still_made = (knows beside.around p beside.value beside.old done.kids beside.rest (done.stands beside.around beside.value beside.old beside.rest beside.here)).makes

  module _ (changes : new ≡ record u { draft = valued p (λ w. record w { stage = stage }) u.draft }) (knows_new : KnowsPlaces new) where
    stage_stands : (k : Around Fiber) (v : Fiber) (o : Option ℕ) (rs : Draft Fiber) → u.draft ≡ placed k (made p v o done.kids rs)
        → new.draft ≡ placed k (made p (record v { stage = stage }) o done.kids rs)
    stage_stands k v o rs e =
        ap (λ x. x.draft) changes ∙ (knows k p v o done.kids rs e).value (λ w. record w { stage = stage })

    stands_new : (k : Around Fiber) (v : Fiber) (o : Option ℕ) (rs : Draft Fiber) → t.draft ≡ placed k (made p v o (taken shapes.none) rs)
        → new.draft ≡ placed k (made p (record v { stage = stage }) o done.kids rs)
    stands_new k v o rs e = stage_stands k v o rs (done.stands k v o rs e)

    same_current : new.current ≡ t.current
    same_current = ap (λ x. x.current) changes ∙ done.current

    at_new : IsAt new beside.around p (record beside.value { stage = stage }) beside.old done.kids beside.rest
    at_new = knows_new beside.around p (record beside.value { stage = stage }) beside.old done.kids beside.rest (stands_new beside.around beside.value beside.old beside.rest beside.here)

    pub made_new : Makes new.draft p
    made_new = at_new.makes

    pub has_list : (link : Option ℕ) → link ≡ entry (made_kids_of new.draft p) → HasList origin t new p stage es os link
    has_list link is = record {
      kids = done.kids;
      are = done.are;
      stands = stands_new;
      current = same_current;
      first_is = is ∙ ap entry (ap made_kids_in at_new.list);
    }

-- where the render comes from a list that is made
pub opened_from : (origin : Origin) (t new : Trees Fiber) (p : ℕ) (stage : Stage) (es : List Element) (os : List (Option ℕ)) (first : Option ℕ) (answer : Begun) → HasList origin t new p stage es os first
    → answer ≡ begun_from first → HasOpened origin t new p stage es os answer
opened_from origin t new p stage es os first answer list is = record {
  kids = list.kids;
  are = list.are;
  stands = list.stands;
  current = list.current;
  answer_is = is ∙ (ap begun_from list.first_is ∙ from_first list.kids (made_list 0 es os list.kids list.are));
}

-- a fiber that has no children yet stands beside the primary list of its old node
pub bare_beside : (t : Trees Fiber) (p : ℕ) (old first : Option ℕ) → KnowsPlaces t → IsLinked t.current → IsBareAt t p → old ≡ old_of t.draft p
    → list_from t.current first ≡ primary_list (list_from t.current old) → IsBareBeside t p first
bare_beside t p old first knows linked bare same list =
    let at = knows bare.around p bare.value bare.old (taken shapes.none) bare.rest bare.here in
    let o : old ≡ bare.old = same ∙ at.old in
    record {
      around = bare.around;
      value = bare.value;
      old = bare.old;
      rest = bare.rest;
      here = bare.here;
      tops = λ j h.
          primary_top t.current linked bare.old j at.old_held
          (subst (λ x. IsTop (primary_list (list_from t.current x)) j) o (subst (λ s. IsTop s j) list h));
    }

pub bare_made : (t : Trees Fiber) (p : ℕ) → KnowsPlaces t → IsBareAt t p → Makes t.draft p
bare_made t p knows bare = (knows bare.around p bare.value bare.old (taken shapes.none) bare.rest bare.here).makes
