use Rattle.std.proofs.Common.{◌≡◌, ◌<◌, ◌≤◌, ◌||◌, ◌++◌, [], ◌∷◌, ℕ, true, length, map, take, All, Option, Some, None, IfSome, refl, sym, ap, ◌∙◌, subst, arith}
use Rattle.std.proofs.lemmas.List.{append-nil, length-map, take_all, take_more}
use Rattle.std.proofs.lemmas.List.Elements.{All-get_or, All-push}
use Rattle.rx_elem.specs.Trees.{Node, node, none, forest, elements_in}
use Rattle.rx_node.specs.MarkView.{mark_seen}
use Rattle.rx_lists.specs.Shapes.{size}
use Rattle.rx_lists.proofs.Frames.{some-at}
use Rattle.rx_links.specs.Drafts.{Trees, old_kids, grafted}
use Rattle.rx_links.specs.Readers.{made_kids_of}
use Rattle.rx_fiber.specs.Fibers.{Fiber}
use Rattle.rx_fiber.specs.FiberView.{stage_seen}
use Rattle.rx_compare.specs.Matched.{IsMatched}
use Rattle.rx_pruned.specs.Pruned.{PrunedInPlace}
use Rattle.commit_laws.proofs.SameElements.{elements_tell}
use Rattle.rx_read.specs.Lists.{list_of}
use Rattle.rx_read.specs.Places.{places_in, first_node}
use Rattle.rx_read.proofs.Links.{by_child}
use Rattle.rx_beside.specs.Children.{IsNode, IsMadeIn}
use Rattle.rx_beside.specs.declared.places.Pair.{Pair}
use Rattle.rx_beside.specs.Pairs.{AreSame, IsPruned, IsPair, IsPairIn, AreInPlace, ArePruned, no_more, gap, pair, left}
use Rattle.rx_beside.specs.Slots.{IsSlot, kept, fiber_in, with_gone, AreLists, in_place}
use Rattle.rx_beside.proofs.Standing.{beside_at, old_held, old_leads, old_node, new_node, made_lower}
use Rattle.rx_beside.proofs.Here.{not_some, in_list, made_of}
use Rattle.rx_beside.proofs.Placing.{filled_length}
use Rattle.rx_beside.proofs.Staying.{all_same, lists_left, more_by, none_by, alone_left, alone_pair}
use Rattle.rx_beside.proofs.Gone.{none_yet, replaced_length}
use Rattle.rx_beside.proofs.Walking.{none_walked_yet}
use Rattle.rx_beside.proofs.Ending.{places_even, moved_even, old_at, step, done, out_by, whole_by, slot_by, nodes_pruned}
use Rattle.rx_beside.proofs.pairs.+pair.Invariants.{size_of}
use Rattle.rx_beside.proofs.pairs.+pair.Goals as goal

pub add_place-returns-in_ok-push-in-Some-2 : goal.add_place-returns-in_ok-push-in-Some-2
add_place-returns-in_ok-push-in-Some-2 t c =
    let trees = c.args.tree.now in
    let p = Some c.in-Some-2.nodes.old in
    let q = Some c.in-Some-2.nodes.new in
    let one = some-at _ (λ p. IsPruned trees c.args.displaced c.in-Some.pair p.old p.new) c.in-Some-2.nodes c.in_ok-nodes-in-Some.ensures.pruned c.in-Some-2.is in
    record {
      ps = p ∷ [];
      qs = q ∷ [];
      old = c.in_ok-push-in-Some.ensures.items;
      new = c.in_ok-push-in-Some-2.ensures.items;
      are = subst (λ o. ArePruned trees c.args.displaced (o ∷ []) (p ∷ []) (q ∷ [])) (sym c.in-Some.is) (pair one no_more);
      same = λ e. cc;
    }

pub add_place-returns-in_default : goal.add_place-returns-in_default
add_place-returns-in_default t c =
    let trees = c.args.tree.now in
    let same = c.in_ok-nodes-in-Some.ensures.same c.in_default.is in
    record {
      ps = [];
      qs = [];
      old = sym (append-nil _);
      new = sym (append-nil _);
      are = subst (λ o. ArePruned trees c.args.displaced (o ∷ []) [] []) (sym c.in-Some.is) (left (c.in_ok-nodes-in-Some.ensures.still c.in_default.is) same no_more);
      same = λ e. (e, subst (λ o. IfSome o (AreSame trees)) (sym c.in-Some.is) same);
    }

pub add_place-returns-in_ok-push-in-None-2 : goal.add_place-returns-in_ok-push-in-None-2
add_place-returns-in_ok-push-in-None-2 t c = record {
  ps = None ∷ [];
  qs = None ∷ [];
  old = c.in_ok-push-in-None.ensures.items;
  new = c.in_ok-push-in-None-2.ensures.items;
  are = subst (λ o. ArePruned c.args.tree.now c.args.displaced (o ∷ []) (None ∷ []) (None ∷ [])) (sym c.in-None.is) (gap no_more);
  same = λ e. (e, subst (λ o. IfSome o (AreSame c.args.tree.now)) (sym c.in-None.is) tt);
}

pub read_alone-returns-in_ok-lists-in-Some-clause-lists : goal.read_alone-returns-in_ok-lists-in-Some-clause-lists
read_alone-returns-in_ok-lists-in-Some-clause-lists t c =
    let trees = c.args.tree.now in
    let end = c.end_of_chain-end.ensures in
    let l = c.in_ok-lists-in-Some.lists in
    let p = c.in-Some.nodes in
    let old = first_node (list_of trees (Some c.args.only.now.pair.old)) in
    let new = first_node (list_of trees (Some c.args.only.now.pair.new)) in
    let one = some-at _ (λ p. IsPruned trees c.args.displaced c.end_of_chain-end.result p.old p.new) p c.in_ok-nodes.ensures.pruned c.in-Some.is in
    subst (λ xs. PrunedInPlace c.args.displaced (forest (old ∷ [])) (forest (new ∷ [])) (forest xs) (forest l.new.items)) (sym c.in_ok-lists-in-Some.ensures.old)
    (subst (λ ys. PrunedInPlace c.args.displaced (forest (old ∷ [])) (forest (new ∷ [])) (forest (Some p.old ∷ [])) (forest ys)) (sym c.in_ok-lists-in-Some.ensures.new)
    (end.passes _ _ (alone_pair trees c.args.displaced c.end_of_chain-end.result end.pair p.old p.new end.stands one)))

pub read_alone-returns-in-None-clause-lists : goal.read_alone-returns-in-None-clause-lists
read_alone-returns-in-None-clause-lists t c =
    let trees = c.args.tree.now in
    let end = c.end_of_chain-end.ensures in
    let r = c.in_ok-nodes.ensures in
    let old = first_node (list_of trees (Some c.args.only.now.pair.old)) in
    let new = first_node (list_of trees (Some c.args.only.now.pair.new)) in
    subst (λ l. PrunedInPlace c.args.displaced (forest (old ∷ [])) (forest (new ∷ [])) (forest l) (forest c.no_lists.result.new.items)) (sym c.no_lists.ensures.old)
    (subst (λ l. PrunedInPlace c.args.displaced (forest (old ∷ [])) (forest (new ∷ [])) (forest []) (forest l)) (sym c.no_lists.ensures.new)
    (end.passes _ _ (alone_left trees c.args.displaced c.end_of_chain-end.result end.pair (r.still c.in-None.is) (r.same c.in-None.is) end.stands)))

pub read_in_place-going-init : goal.read_in_place-going-init
read_in_place-going-init t c = record {
  are = none_by c.args.tree.now c.args.displaced _ _ c.no_lists-lists.ensures.old c.no_lists-lists.ensures.new;
  same = λ e k d l. absurd (omega arith);
}

pair_in : (t : Trees Fiber) (first : Option ℕ) (o : Option Pair) → IfSome o (IsPairIn t first) → IfSome o (IsPair t) × (size_of t o ≤ size (list_of t first))
pair_in t first None h = (tt, omega arith)
pair_in t first (Some c) h = (h.pair, h.within)

pub read_in_place-add_place-requires : goal.read_in_place-add_place-requires
read_in_place-add_place-requires t c =
    let trees = c.args.tree.now in
    let xs = c.in-Some.pairs.items in
    let x = c.index.result.now in
    let within : c.going.i < length xs = omega arith in
    let all = some-at _ (λ v. All (λ o. IfSome o (IsPairIn trees c.args.heads.now.new)) v.items) c.in-Some.pairs c.in_ok-pairs.ensures.pairs c.in-Some.is in
    let here = subst (λ q. IfSome q (IsPairIn trees c.args.heads.now.new)) (sym c.index.ensures) (All-get_or (λ q. IfSome q (IsPairIn trees c.args.heads.now.new)) xs c.going.i x within all) in
    let p = pair_in trees c.args.heads.now.new x here in
    let l = p.1 in
    (omega (arith, c.decreases, l), (p.0, c.requires.alike))

pub read_in_place-going-preserved : goal.read_in_place-going-preserved
read_in_place-going-preserved t c =
    let g = c.in_ok-add_place.ensures in
    let i = c.going.i in
    let xs = c.in-Some.pairs.items in
    let x = c.index.result.now in
    let P : Option Pair → Type 0 = λ o. IfSome o (AreSame c.args.tree.now) in
    let within : i < length xs = omega arith in
    let more = take_more xs i x within ∙ ap (λ z. take i xs ++ z ∷ []) (sym c.index.ensures) in
    record {
      are = more_by c.args.tree.now c.args.displaced (take i xs) _ _ _ _ _ x g.ps g.qs more g.old g.new c.going.invariant.are g.are;
      same = λ e. subst (All P) (sym more) (All-push P (take i xs) x (c.going.invariant.same (g.same e).0) (g.same e).1);
    }

pub read_lists-read_made-requires : goal.read_lists-read_made-requires
read_lists-read_made-requires t c =
    let trees = c.args.tree.now in
    let p = c.requires.pair in
    let new = c.args.pair.now.new in
    let l = made_lower trees new (beside_at trees c.facts.ensures.fits c.facts.ensures.linked new p.made) c.made_child-first.result c.made_child-first.ensures.entry in
    let inside = (by_child trees c.facts.ensures.fits c.facts.ensures.linked c.args.pair.now.old c.first_child.result p.was.inside c.first_child.ensures.current c.first_child.ensures.made).2.child_in in
    (omega (arith, c.decreases, l), (inside, (c.made_child-first.ensures.made, c.requires.alike)))

pub read_in_place-returns-clause-lists : goal.read_in_place-returns-clause-lists
read_in_place-returns-clause-lists t c =
    let trees = c.args.tree.now in
    let xs = c.in-Some.pairs.items in
    let l = c.going.lists in
    let os = places_in 0 (list_of trees c.args.heads.now.old) in
    let ns = places_in 0 (list_of trees c.args.heads.now.new) in
    let stand = some-at _ (λ v. AreInPlace trees c.args.displaced os ns v.items) c.in-Some.pairs c.in_ok-pairs.ensures.stand c.in-Some.is in
    in_place
    (lists_left trees c.args.displaced os ns xs l.old.items l.new.items stand
    (subst (λ ys. ArePruned trees c.args.displaced ys l.old.items l.new.items) (take_all c.going.i xs (omega arith)) c.going.invariant.are))

pub read_in_place-returns-clause-same : goal.read_in_place-returns-clause-same
read_in_place-returns-clause-same t c = λ e.
    let trees = c.args.tree.now in
    let xs = c.in-Some.pairs.items in
    let os = places_in 0 (list_of trees c.args.heads.now.old) in
    let ns = places_in 0 (list_of trees c.args.heads.now.new) in
    let stand = some-at _ (λ v. AreInPlace trees c.args.displaced os ns v.items) c.in-Some.pairs c.in_ok-pairs.ensures.stand c.in-Some.is in
    all_same trees c.args.displaced os ns xs stand (subst (All (λ o. IfSome o (AreSame trees))) (take_all c.going.i xs (omega arith)) (c.going.invariant.same e))

pub read_lists-returns-then-not-takes_over-clause-lists : goal.read_lists-returns-then-not-takes_over-clause-lists
read_lists-returns-then-not-takes_over-clause-lists t c =
    let trees = c.args.tree.now in
    let p = c.requires.pair in
    let l = c.in_ok-lists.lists in
    let old = old_leads trees c.facts.ensures.fits c.facts.ensures.linked c.args.pair.now.new p.made c.args.pair.now.old p.old c.first_child.result c.first_child.ensures.current in
    let new = ap (list_of trees) c.made_child-first.ensures.entry ∙ c.takes_over.ensures.made c.if-not-takes_over.true in
    subst (λ s. AreLists c.args.displaced (forest (places_in 0 s)) (forest (places_in 0 (grafted (made_kids_of trees.draft c.args.pair.now.new)))) (forest l.old.items) (forest l.new.items)) old
    (subst (λ s. AreLists c.args.displaced (forest (places_in 0 (list_of trees c.first_child.result))) (forest (places_in 0 s)) (forest l.old.items) (forest l.new.items)) new c.in_ok-lists.ensures.lists)

pub read_lists-returns-then-not-takes_over-clause-same : goal.read_lists-returns-then-not-takes_over-clause-same
read_lists-returns-then-not-takes_over-clause-same t c = λ e.
    let trees = c.args.tree.now in
    let p = c.requires.pair in
    let old = old_leads trees c.facts.ensures.fits c.facts.ensures.linked c.args.pair.now.new p.made c.args.pair.now.old p.old c.first_child.result c.first_child.ensures.current in
    let new = ap (list_of trees) c.made_child-first.ensures.entry ∙ c.takes_over.ensures.made c.if-not-takes_over.true in
    ap (places_in 0) (sym new) ∙ (c.in_ok-lists.ensures.same e ∙ ap (places_in 0) old)

pub read_lists-returns-else-displaced-clause-lists : goal.read_lists-returns-else-displaced-clause-lists
read_lists-returns-else-displaced-clause-lists t c =
    out_by c.args.displaced _ _ _ _ c.if-displaced.false (ap (λ d. forest (places_in 0 (grafted d))) (c.takes_over.ensures.taken c.if-not-takes_over.false))
    (ap forest c.no_lists.ensures.old) (ap forest c.no_lists.ensures.new)

pub read_lists-returns-else-displaced-clause-same : goal.read_lists-returns-else-displaced-clause-same
read_lists-returns-else-displaced-clause-same t c = λ e. ap (λ d. places_in 0 (grafted d)) (c.takes_over.ensures.taken c.if-not-takes_over.false)

pub read_made-returns-in_ok-alone-in-Some-clause-lists : goal.read_made-returns-in_ok-alone-in-Some-clause-lists
read_made-returns-in_ok-alone-in-Some-clause-lists t c =
    let only = c.in-Some.ensures.only in
    let old = only.old_places in
    let new = only.new_places in
    rw (old, new) (in_place c.in_ok-alone-in-Some.ensures.lists)

pub read_made-returns-in_ok-alone-in-Some-clause-same : goal.read_made-returns-in_ok-alone-in-Some-clause-same
read_made-returns-in_ok-alone-in-Some-clause-same t c = λ e.
    let only = c.in-Some.ensures.only in
    only.new_places ∙ (ap (λ o. o ∷ []) (c.in_ok-alone-in-Some.ensures.same e) ∙ sym only.old_places)

pub read_matched-going-init : goal.read_matched-going-init
read_matched-going-init t c =
    let f : Option ℕ → Option Node = λ o. first_node (list_of c.args.tree.now o) in
    let fs = c.in_ok-olds.olds.items in
    let e = filled_length {A = Option Node} c.len.result None in
    let n = length-map fs f in
    let k = ap length c.in_ok-kept.ensures in
    let all : c.len.result ≡ length (map f fs) = omega (arith, n) in
    record {
      even = omega (arith, e, k);
      walked = none_walked_yet c.args.displaced (map f fs) _ _ _ refl (none_yet _ (map f fs) c.len.result c.in_ok-kept.ensures all) c.in_ok-nodes.ensures.items;
    }

pub read_matched-index-place-requires : goal.read_matched-index-place-requires
read_matched-index-place-requires t c =
    let f : Option ℕ → Option Node = λ o. first_node (list_of c.args.tree.now o) in
    let h = subst (λ fs. IsMatched (forest (map f fs)) (elements_in (forest (map f c.deref-2.result.now))) c.in_ok-matching.matching) c.deref.ensures.value c.in_ok-matching.ensures in
    let m = subst (λ fs. IsMatched (forest (map f c.in_ok-olds.olds.items)) (elements_in (forest (map f fs))) c.in_ok-matching.matching) c.deref-2.ensures.value h in
    let e = places_even (forest (map f c.in_ok-olds.olds.items)) f c.in_ok-news.news.items c.in_ok-matching.matching m in
    omega (arith, e)

pub read_matched-index-requires : goal.read_matched-index-requires
read_matched-index-requires t c =
    let f : Option ℕ → Option Node = λ o. first_node (list_of c.args.tree.now o) in
    let h = subst (λ fs. IsMatched (forest (map f fs)) (elements_in (forest (map f c.deref-2.result.now))) c.in_ok-matching.matching) c.deref.ensures.value c.in_ok-matching.ensures in
    let m = subst (λ fs. IsMatched (forest (map f c.in_ok-olds.olds.items)) (elements_in (forest (map f fs))) c.in_ok-matching.matching) c.deref-2.ensures.value h in
    let e = moved_even (forest (map f c.in_ok-olds.olds.items)) f c.in_ok-news.news.items c.in_ok-matching.matching m in
    omega (arith, e)

pub read_matched-read_slot-requires : goal.read_matched-read_slot-requires
read_matched-read_slot-requires t c =
    let trees = c.args.tree.now in
    let olds = c.in_ok-olds.olds.items in
    let news = c.in_ok-news.news.items in
    let first = c.args.heads.now.new in
    let o = c.index-in-going.result.now in
    let within : c.going.i < length news = omega arith in
    let was = subst (λ o. IfSome o (IsNode trees)) (sym (c.fiber_in-was.ensures ∙ ap (λ fs. fiber_in fs c.index-place.result.now) c.deref-in-going.ensures.value)) (in_list (IsNode trees) olds c.index-place.result.now c.in_ok-olds.ensures.nodes) in
    let is = subst (λ q. IfSome q (IsNode trees)) (sym c.index-in-going.ensures) (All-get_or (λ q. IfSome q (IsNode trees)) news c.going.i o within c.in_ok-news.ensures.nodes) in
    let made = subst (λ q. IfSome q (IsMadeIn trees first)) (sym c.index-in-going.ensures) (All-get_or (λ q. IfSome q (IsMadeIn trees first)) news c.going.i o within (c.in_ok-news.ensures.made c.requires.made)) in
    let m = made_of trees first o made in
    let l = m.1 in
    (omega (arith, c.decreases, l), (was, (is, (m.0, c.requires.alike))))

pub read_matched-going-preserved : goal.read_matched-going-preserved
read_matched-going-preserved t c =
    let trees = c.args.tree.now in
    let f : Option ℕ → Option Node = λ o. first_node (list_of trees o) in
    let d = c.args.displaced in
    let olds = c.in_ok-olds.olds.items in
    let news = c.in_ok-news.news.items in
    let slot = c.in_ok-slot.slot in
    let place = c.index-place.result.now in
    let moved = c.index.result.now in
    let within : c.going.i < length news = omega arith in
    let h = subst (λ fs. IsMatched (forest (map f fs)) (elements_in (forest (map f c.deref-2.result.now))) c.in_ok-matching.matching) c.deref.ensures.value c.in_ok-matching.ensures in
    let m = subst (λ fs. IsMatched (forest (map f olds)) (elements_in (forest (map f fs))) c.in_ok-matching.matching) c.deref-2.ensures.value h in
    let was = ap f (c.fiber_in-was.ensures ∙ ap (λ fs. fiber_in fs place) c.deref-in-going.ensures.value) ∙ sym (old_at trees olds place) in
    let s = subst (λ b. IsSlot b (f c.fiber_in-was.result) (f c.index-in-going.result.now) slot.old slot.new) c.or_moved-moved.ensures c.in_ok-slot.ensures in
    let there = subst (λ o. IsSlot (d || moved) o (f c.index-in-going.result.now) slot.old slot.new) was s in
    let even : length c.going.kept.items ≡ length (map f olds) = c.going.invariant.even ∙ sym (length-map olds f) in
    record {
      even = ap length c.replace.ensures ∙ replaced_length slot.old place c.going.kept.items ∙ c.going.invariant.even;
      walked =
          step d (map f olds) f news c.in_ok-matching.matching m c.going.i within c.index-in-going.result.now place moved c.index-in-going.ensures c.index-place.ensures c.index.ensures
          c.going.kept.items c.going.nodes.items _ _ slot.old slot.new even c.going.invariant.walked there c.replace.ensures c.in_ok-push.ensures.items;
    }

pub read_matched-returns-clause-lists : goal.read_matched-returns-clause-lists
read_matched-returns-clause-lists t c =
    let trees = c.args.tree.now in
    let f : Option ℕ → Option Node = λ o. first_node (list_of trees o) in
    let d = c.args.displaced in
    let olds = c.in_ok-olds.olds.items in
    let news = c.in_ok-news.news.items in
    let kept = c.going.kept.items in
    let nodes = c.going.nodes.items in
    let past : length news ≤ c.going.i = omega arith in
    let h = subst (λ fs. IsMatched (forest (map f fs)) (elements_in (forest (map f c.deref-2.result.now))) c.in_ok-matching.matching) c.deref.ensures.value c.in_ok-matching.ensures in
    let m = subst (λ fs. IsMatched (forest (map f olds)) (elements_in (forest (map f fs))) c.in_ok-matching.matching) c.deref-2.ensures.value h in
    let all = done d (map f olds) f news c.in_ok-matching.matching m c.going.i past (with_gone kept (map f olds)) nodes c.going.invariant.walked in
    let old = c.in_ok-with_gone.ensures ∙ ap (λ ns. with_gone ns (map f c.deref-4.result.now)) c.deref-3.ensures.value ∙ ap (λ fs. with_gone kept (map f fs)) c.deref-4.ensures.value in
    subst (λ os. AreLists d (forest os) (forest (places_in 0 (list_of trees c.args.heads.now.new))) (forest c.in_ok-with_gone.field-0.items) (forest nodes)) c.in_ok-olds.ensures.places
    (subst (λ ns. AreLists d (forest (map f olds)) (forest ns) (forest c.in_ok-with_gone.field-0.items) (forest nodes)) c.in_ok-news.ensures.places
    (subst (λ ps. AreLists d (forest (map f olds)) (forest (map f news)) (forest ps) (forest nodes)) (sym old) all))

pub read_pair-returns-then-same-clause-same : goal.read_pair-returns-then-same-clause-same
read_pair-returns-then-same-clause-same t c = λ _.
    let trees = c.args.tree.now in
    let p = c.requires.pair in
    let new = c.args.pair.now.new in
    let u = c.value-was.result.now in
    let v = c.value-is.result.now in
    let had = mark_seen c.in-Begun.had in
    let mark = mark_seen c.in-Begun-stage.mark in
    let os = places_in 0 (old_kids trees new) in
    let ns = places_in 0 (grafted (made_kids_of trees.draft new)) in
    let held = old_held trees c.facts.ensures.fits c.facts.ensures.linked new p.made c.args.pair.now.old p.old in
    let shown = c.goes_on.ensures.shown c.if-goes_on.true in
    let on = old_node trees c.facts.ensures.linked new c.args.pair.now.old p.old held u (c.value-was.ensures.current held) had (sym c.stage.ensures ∙ ap stage_seen c.in-Begun.is) shown.0 in
    let nn = new_node trees new (beside_at trees c.facts.ensures.fits c.facts.ensures.linked new p.made) v (c.value-is.ensures.made p.made) mark (sym c.stage-2.ensures ∙ ap stage_seen c.in-Begun-stage.is) shown.1 in
    let lists : ns ≡ os = some-at _ (λ l. l.same ≡ true → ns ≡ os) c.in-Some.lists c.in_ok-lists.ensures.same c.in-Some.is c.if-lists.true in
    let marks : had ≡ mark = c.came_out_same.ensures c.if-came_out_same.true in
    let elements : v.element ≡ u.element = sym c.element.ensures ∙ (elements_tell _ _ (sym c.same.ensures ∙ c.if-same.true) ∙ c.element-then-came_out_same.ensures) in
    nn ∙ ((λ i. Some (node (elements i) (sym marks i) (forest (lists i)) none)) ∙ sym on)

pub read_pair-returns-clause-pruned : goal.read_pair-returns-clause-pruned
read_pair-returns-clause-pruned t c = λ o n was is.
    let trees = c.args.tree.now in
    let p = c.requires.pair in
    let new = c.args.pair.now.new in
    let u = c.value-was.result.now in
    let v = c.value-is.result.now in
    let had = mark_seen c.in-Begun.had in
    let mark = mark_seen c.in-Begun-stage.mark in
    let l = c.in-Some.lists in
    let os = forest (places_in 0 (old_kids trees new)) in
    let ns = forest (places_in 0 (grafted (made_kids_of trees.draft new))) in
    let held = old_held trees c.facts.ensures.fits c.facts.ensures.linked new p.made c.args.pair.now.old p.old in
    let shown = c.goes_on.ensures.shown c.if-goes_on.true in
    let lists = some-at _ (λ l. AreLists c.displaced_below.result os ns (forest l.old.items) (forest l.new.items)) l c.in_ok-lists.ensures.lists c.in-Some.is in
    let on = old_node trees c.facts.ensures.linked new c.args.pair.now.old p.old held u (c.value-was.ensures.current held) had (sym c.stage.ensures ∙ ap stage_seen c.in-Begun.is) shown.0 in
    let nn = new_node trees new (beside_at trees c.facts.ensures.fits c.facts.ensures.linked new p.made) v (c.value-is.ensures.made p.made) mark (sym c.stage-2.ensures ∙ ap stage_seen c.in-Begun-stage.is) shown.1 in
    nodes_pruned c.args.displaced o n c.in_ok-node_over.field-0 c.in_ok-node_over-2.field-0 u.element v.element had mark os ns (forest l.old.items) (forest l.new.items)
    (c.goes_on.ensures.goes c.if-goes_on.true)
    (subst (λ b. AreLists b os ns (forest l.old.items) (forest l.new.items)) c.displaced_below.ensures lists)
    (sym on ∙ was) (sym nn ∙ is)
    (c.in_ok-node_over.ensures ∙ ap (λ e. node e had (forest l.old.items) none) c.element-2.ensures)
    (c.in_ok-node_over-2.ensures ∙ ap (λ e. node e mark (forest l.new.items) none) c.element-3.ensures)

pub read_pair-returns-2-clause-pruned : goal.read_pair-returns-2-clause-pruned
read_pair-returns-2-clause-pruned t c = λ o n was is.
    whole_by c.args.displaced o n c.in_ok-wholes.wholes.old c.in_ok-wholes.wholes.new _ _ c.in_ok-wholes.ensures.old c.in_ok-wholes.ensures.new was is

pub read_slot-returns-in_default : goal.read_slot-returns-in_default
read_slot-returns-in_default t c =
    let trees = c.args.tree.now in
    subst (λ o. IsSlot c.args.displaced (first_node (list_of trees c.args.old)) (first_node (list_of trees o)) None None) (sym (not_some _ c.in_default.not-Some)) kept

pub read_slot-returns-in_ok-nodes-in-Some-pair_of : goal.read_slot-returns-in_ok-nodes-in-Some-pair_of
read_slot-returns-in_ok-nodes-in-Some-pair_of t c =
    let f : Option ℕ → Option Node = λ o. first_node (list_of c.args.tree.now o) in
    let p = c.in-Some-pair_of.ensures in
    let nodes = c.in_ok-nodes-in-Some-pair_of.nodes in
    slot_by c.args.displaced _ _ p.pair.was.node p.pair.is.node nodes.old nodes.new (ap f p.old ∙ p.pair.was.stands) (ap f (c.in-Some.is ∙ ap Some (sym p.new)) ∙ p.pair.is.stands)
    (c.in_ok-nodes-in-Some-pair_of.ensures p.pair.was.node p.pair.is.node p.pair.was.stands p.pair.is.stands)

pub read_slot-returns-in_ok-read_fiber-in-None : goal.read_slot-returns-in_ok-read_fiber-in-None
read_slot-returns-in_ok-read_fiber-in-None t c =
    let f : Option ℕ → Option Node = λ o. first_node (list_of c.args.tree.now o) in
    subst (λ n. IsSlot c.args.displaced (f c.args.old) (f c.args.child) None n) (ap f c.in-Some.is ∙ sym c.in_ok-read_fiber-in-None.ensures) kept
