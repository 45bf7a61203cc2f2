-- Two lists whose children stand where they stood, place by place.
use Rattle.std.proofs.Common.{◌≡◌, ℕ, zero, suc, ◌+◌, ◌-◌, ◌≤◌, Bool, true, false, List, [], ◌∷◌, ◌++◌, length, refl, sym, ap, ◌∙◌, subst, arith, Option, Some, None, IfSome}
use Rattle.std.proofs.lemmas.List.{append_assoc, append-nil, length-append}
use Rattle.std.proofs.lemmas.List.Elements.{All-push}
use Rattle.rx_elem.specs.Elements.{is_present}
use Rattle.rx_elem.specs.Trees.{Node, element_of}
use Rattle.rx_links.specs.Drafts.{Trees}
use Rattle.rx_fiber.specs.Fibers.{Fiber}
use Rattle.rx_fiber.specs.OldLists.{filled}
use Rattle.rx_read.specs.Lists.{list_of}
use Rattle.rx_read.specs.Places.{places_in, first_places, first_node}
use Rattle.rx_beside.specs.declared.places.Pair.{Pair}
use Rattle.rx_beside.specs.Pairs.{IsPair, StandsInPlace, StandAt, AreInPlace, no_more, gap, left, pair, Goes}
use Rattle.rx_beside.proofs.Here.{none_of}

pub filled_length : {A : Type 0} (k : ℕ) (x : A) → length (filled k x) ≡ k
filled_length zero x = refl
filled_length (suc k) x = ap suc (filled_length k x)

-- both lists go on with vacant places
gaps : (t : Trees Fiber) (d : Bool) (k : ℕ) (os ns : List (Option Node)) (cs : List (Option Pair)) → AreInPlace t d os ns cs → AreInPlace t d (filled k None ++ os) (filled k None ++ ns) (filled k None ++ cs)
gaps t d zero os ns cs h = h
gaps t d (suc k) os ns cs h = gap (gaps t d k os ns cs h)

module _ (t : Trees Fiber) (d : Bool) (c : Pair) (place at : ℕ) (is : IsPair t c) (stand : StandAt t c at) (le : place ≤ at) (before : List (Option Pair)) where
  behind : (own : List (Option Node)) (x : Option Node) → own ≡ filled (at - place) None ++ x ∷ [] → place + length own ≡ at + 1
  behind own x e =
      let l = ap length e ∙ length-append (filled (at - place) None) (x ∷ []) in
      let k = filled_length {A = Option Node} (at - place) None in
      omega (arith, l, k)

  then_one : (own os : List (Option Node)) (x y : Option Node) → own ≡ filled (at - place) None ++ x ∷ [] → x ≡ y → own ++ os ≡ filled (at - place) None ++ (y ∷ os)
  then_one own os x y e f = ap (λ l. l ++ os) (e ∙ ap (λ x. filled (at - place) None ++ x ∷ []) f) ∙ append_assoc (filled (at - place) None) (y ∷ []) os

  -- a pair is left out
  pub left_goes : (after : List (Option Pair)) → after ≡ before ++ filled (at - place) None → d ≡ false
      → first_node (list_of t (Some c.new)) ≡ first_node (list_of t (Some c.old)) → ((o : Node) → first_node (list_of t (Some c.old)) ≡ Some o → is_present (element_of o) ≡ true)
      → Goes t d c place (at + 1) before after
  left_goes after e still same present = record {
    added = filled (at - place) None;
    are = e;
    pair = is;
    only = none_of (λ d. d ≡ c) (at - place);
    old_behind = behind _ _ (stand.old place);
    new_behind = behind _ _ (stand.new place);
    then_also = λ os ns cs h.
        let k = at - place in
        subst (λ l. AreInPlace t d l (first_places place (list_of t (Some c.new)) ++ ns) (filled k None ++ cs)) (sym (then_one _ os _ _ (stand.old place) is.was.stands))
        (subst (λ l. AreInPlace t d (filled k None ++ (Some is.was.node ∷ os)) l (filled k None ++ cs)) (sym (then_one _ ns _ _ (stand.new place) (same ∙ is.was.stands)))
        (gaps t d k _ _ _ (left still (present is.was.node is.was.stands) h)));
  }

  -- one is not
  pub pair_goes : (filled_up after : List (Option Pair)) → filled_up ≡ before ++ filled (at - place) None → after ≡ filled_up ++ Some c ∷ [] → StandsInPlace t c
      → Goes t d c place (at + 1) before after
  pair_goes filled_up after f e same = record {
    added = filled (at - place) None ++ Some c ∷ [];
    are = e ∙ ap (λ l. l ++ Some c ∷ []) f ∙ append_assoc before (filled (at - place) None) (Some c ∷ []);
    pair = is;
    only = All-push (λ o. IfSome o (λ d. d ≡ c)) (filled (at - place) None) (Some c) (none_of (λ d. d ≡ c) (at - place)) refl;
    old_behind = behind _ _ (stand.old place);
    new_behind = behind _ _ (stand.new place);
    then_also = λ os ns cs h.
        let k = at - place in
        subst (λ l. AreInPlace t d (first_places place (list_of t (Some c.old)) ++ os) (first_places place (list_of t (Some c.new)) ++ ns) l) (sym (append_assoc (filled k None) (Some c ∷ []) cs))
        (subst (λ l. AreInPlace t d l (first_places place (list_of t (Some c.new)) ++ ns) (filled k None ++ (Some c ∷ cs))) (sym (then_one _ os _ _ (stand.old place) is.was.stands))
        (subst (λ l. AreInPlace t d (filled k None ++ (Some is.was.node ∷ os)) l (filled k None ++ (Some c ∷ cs))) (sym (then_one _ ns _ _ (stand.new place) is.is.stands))
        (gaps t d k _ _ _ (pair is.was.stands is.is.stands (same is.was.node is.is.node is.was.stands is.is.stands) h))));
  }

-- Both lists are walked to their ends.
pub stand_all : (t : Trees Fiber) (d : Bool) (place : ℕ) (all_old all_new : List (Option Node)) (was next : Option ℕ) (cs : List (Option Pair)) → was ≡ None → next ≡ None
    → ((es : List (Option Pair)) → AreInPlace t d (places_in place (list_of t was)) (places_in place (list_of t next)) es → AreInPlace t d all_old all_new (cs ++ es))
    → AreInPlace t d all_old all_new cs
stand_all t d place all_old all_new was next cs e f h =
    subst (AreInPlace t d all_old all_new) (append-nil cs)
    (h [] (subst (λ o. AreInPlace t d (places_in place (list_of t o)) (places_in place (list_of t next)) []) (sym e)
    (subst (λ o. AreInPlace t d [] (places_in place (list_of t o)) []) (sym f) no_more)))
