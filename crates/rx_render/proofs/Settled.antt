-- A tree that is settled stays so while updates come that are not done.
use Rattle.std.specs.List.{enumerate_from}
use Rattle.std.specs.Prelude.{◌≡◌, ℕ, ℤ, ◌+◌, Bool, true, false, cond, filter, map, List, [], ◌∷◌, ◌++◌, Option, Some, None, refl}
use Rattle.std.proofs.Common.{sym, ap, ◌∙◌, subst}
use Rattle.rx_ast.specs.Syntax.{Program}
use Rattle.rx_elem.specs.Elements.{Element, Elements, listed}
use Rattle.rx_elem.specs.Elements as elements
use Rattle.rx_elem.specs.Trees.{Instance, Mark, Node, node, Forest, none, vacant, child, elements_in}
use Rattle.rx_queue.specs.History.{stands_done}
use Rattle.rx_queue.specs.Journal.{Posted, Resolution, committed_value, hook, resolutions_by, same_target, values_at}
use Rattle.rx_meaning.specs.Again.{AllOpen}
use Rattle.rx_meaning.specs.Body.{body_of, ready}
use Rattle.rx_meaning.specs.Expressions.{answers_of}
use Rattle.rx_meaning.specs.Fresh.{Sight, resource_numbers}
use Rattle.rx_meaning.specs.Settled.{Known, IsBodyOf, IsOwn, IsSettled, AllSettled, IfSettled, done_values, known_by}

-- Values of what is done

abbrev done_of : (n k : ℕ) → List Posted → List Posted
done_of n k us = filter (λ u. stands_done u.standing) (filter (λ u. same_target (hook n k) u.target) us)

open_none : (n k : ℕ) (new : List Posted) → AllOpen new → done_of n k new ≡ []
open_none n k [] h = refl
open_none n k (u ∷ us) h = go (same_target (hook n k) u.target) (open_none n k us h.2)
  where
    go : (b : Bool) → done_of n k us ≡ [] → filter (λ u. stands_done u.standing) (cond b (u ∷ filter (λ u. same_target (hook n k) u.target) us) (filter (λ u. same_target (hook n k) u.target) us)) ≡ []
    go true e = rw (h.0, e) refl
    go false e = e

done_more : (n k : ℕ) (us new : List Posted) → AllOpen new → done_of n k us ≡ done_of n k (us ++ new)
done_more n k [] new h = sym (open_none n k new h)
done_more n k (v ∷ us) new h = go (same_target (hook n k) v.target) (stands_done v.standing) refl (done_more n k us new h)
  where
    go : (b d : Bool) → stands_done v.standing ≡ d → done_of n k us ≡ done_of n k (us ++ new)
        → filter (λ u. stands_done u.standing) (cond b (v ∷ filter (λ u. same_target (hook n k) u.target) us) (filter (λ u. same_target (hook n k) u.target) us))
        ≡ filter (λ u. stands_done u.standing) (cond b (v ∷ filter (λ u. same_target (hook n k) u.target) (us ++ new)) (filter (λ u. same_target (hook n k) u.target) (us ++ new)))
    go true true e r = rw (e, r) refl
    go true false e r = rw (e, r) refl
    go false d e r = r

values_more : (p : Program) (us new : List Posted) (res more : List Resolution) → AllOpen new → (n : ℕ) (initials : List ℤ)
    → done_values p (record { updates = us; resolutions = res }) n initials ≡ done_values p (record { updates = us ++ new; resolutions = more }) n initials
unfolding committed_value
values_more p us new res more h n initials = from 0 initials
  where
    from : (k : ℕ) (xs : List ℤ)
        → map (λ h. committed_value (answers_of p) h.1 (filter (λ u. same_target (hook n h.0) u.target) us)) (enumerate_from k xs)
        ≡ map (λ h. committed_value (answers_of p) h.1 (filter (λ u. same_target (hook n h.0) u.target) (us ++ new))) (enumerate_from k xs)
    from k [] = refl
    from k (x ∷ xs) = rw (done_more n k us new h, from (k + 1) xs) refl

-- Trees

module _ (p : Program) (k l : Known) (values : (n : ℕ) (initials : List ℤ) → done_values p k n initials ≡ done_values p l n initials) (resolutions : k.resolutions ≡ l.resolutions) where
  body_stays : (c : ℕ) (props : List ℤ) (given : Elements) (i : Instance) (es : List Element) → IsBodyOf p k c props given i es → IsBodyOf p l c props given i es
  body_stays c props given i es b = record {
    component = b.component;
    is_component = b.is_component;
    is_of = b.is_of;
    instance = b.instance;
    is_numbered = b.is_numbered;
    initials = b.initials;
    gives = λ cs version agrees same.
        subst (λ rs. body_of p b.component (record { props = props; children = listed given; hooks = Some (done_values p l b.instance i.initials); contexts = cs; versions = map version (resource_numbers p); resources = values_at rs (map version (resource_numbers p)) }) ≡ ready es i.effects b.initials i.reads i.versions) resolutions
        (subst (λ v. body_of p b.component (record { props = props; children = listed given; hooks = Some v; contexts = cs; versions = map version (resource_numbers p); resources = values_at k.resolutions (map version (resource_numbers p)) }) ≡ ready es i.effects b.initials i.reads i.versions)
        (values b.instance i.initials) (b.gives cs version agrees same));
  }

  own_stays : (e : Element) (m : Mark) (ns fs : Forest) → IsOwn p k e m ns fs → IsOwn p l e m ns fs
  own_stays elements.null m ns fs own = own
  own_stays (elements.text t) m ns fs own = own
  own_stays (elements.host n key attrs es) m ns fs own = own
  own_stays (elements.comp c key props given) m ns fs own = (own.0, own.1, body_stays c props given own.0 (elements_in ns) own.2, own.3)
  own_stays (elements.list marked es) m ns fs own = own
  own_stays (elements.boundary key e es) m ns fs own = own
  own_stays (elements.catcher key e es) m ns fs own = own
  own_stays (elements.provider c key x es) m ns fs own = own

  mutual
    node_stays : (n : Node) → IsSettled p k n → IsSettled p l n
    node_stays (node e m ns fs) h = (own_stays e m ns fs h.0, list_stays ns h.1, list_stays fs h.2)

    list_stays : (ns : Forest) → AllSettled p k ns → AllSettled p l ns
    list_stays none h = tt
    list_stays (vacant ns) h = list_stays ns h
    list_stays (child n ns) h = (node_stays n h.0, list_stays ns h.1)

  tree_stays : (tree : Option Node) → IfSettled p k tree → IfSettled p l tree
  tree_stays None h = tt
  tree_stays (Some n) h = node_stays n h

-- the tree is settled for a later sight, to which the same resolutions are known
pub settled_later : (p : Program) (s later : Sight) (new : List Posted) (tree : Option Node) → AllOpen new → later.journal.updates ≡ s.journal.updates ++ new → resolutions_by s.cut s.journal ≡ resolutions_by later.cut later.journal
    → IfSettled p (known_by s) tree → IfSettled p (known_by later) tree
settled_later p s later new tree opened updates resolutions h =
    tree_stays p (known_by s) (known_by later)
    (λ n initials.
    values_more p s.journal.updates new (resolutions_by s.cut s.journal) (resolutions_by later.cut later.journal) opened n initials
    ∙ ap (λ us. done_values p (record { updates = us; resolutions = resolutions_by later.cut later.journal }) n initials) (sym updates))
    resolutions tree h
