-- What is at or below fibers is gathered along a render.
use Rattle.std.specs.Prelude.{List, ◌≡◌, ℕ, Bool, true, false, Option, Some, None, IfSome, option_and_then, if◌then◌else◌}
use Rattle.std.specs.Option.{option_map_or}
use Rattle.std.proofs.Common.{refl, sym, ap, ◌∙◌, subst}
use Rattle.rx_ctx.specs.Contexts.{Stack}
use Rattle.rx_elem.specs.Numbers.{Numbers, numbered_instance, numbered_mark}
use Rattle.rx_elem.specs.Trees.{Mark, Node, element_of, mark_of, of_instance, of_host, of_boundary, of_catcher, plain}
use Rattle.rx_hooks.specs.declared.hook.Hook.{Hook}
use Rattle.rx_lists.specs.Shapes.{Shape, fiber, Holds}
use Rattle.rx_lists.specs.Shapes as shapes
use Rattle.rx_links.specs.Drafts.{Draft, taken, made, Fits, Trees, entry, grafted, kids_of, kids_under, old_of, valued}
use Rattle.rx_links.specs.Places.{Around, top, below, after, placed, up_of}
use Rattle.rx_links.specs.Readers.{IsLinked, made_kids_in, made_kids_of, made_value_in, made_value_of}
use Rattle.rx_links.proofs.Placed.{is-at}
use Rattle.rx_meaning.specs.Fresh.{Contexts, Sight}
use Rattle.rx_fiber.specs.declared.stage.Origin.{Origin}
use Rattle.rx_fiber.specs.declared.stage.StageChange.TheVariants as change
use Rattle.rx_fiber.specs.Fibers.{Fiber, Stage, as_matched, waiting, begun, trying, guarding, fallback, joined, nothing, marked_subtree, own_subtree, completed_stage}
use Rattle.rx_fiber.specs.FiberView.{changed}
use Rattle.rx_fiber.specs.Reading.{IsOld}
use Rattle.rx_fiber.specs.Standing.{StandsAt, begins, completes}
use Rattle.rx_fiber.specs.Subtrees.{IsGathered, IsGatheredOver, subtree_at, subtrees_of}
use Rattle.rx_fiber.specs.Surround.{above_list, behind_earlier}
use Rattle.rx_fiber.specs.Unwound.{is_guarding, is_trying}
use Rattle.rx_fiber.proofs.Completing.{whole_list, placed_list, grafted_list}
use Rattle.rx_fiber.proofs.Gathered.{gathered_over, joined_same}
use Rattle.rx_complete.specs.Ends.{Outer, nearest, nearest_catch, nearest_where, next_by, next_after}
use Rattle.rx_complete.specs.declared.completing.Next.{Next}
use Rattle.rx_complete.proofs.Leading.{next_is}
use Rattle.rx_causes.specs.declared.scene.Scene.{Scene}
use Rattle.rx_causes.specs.Marks.{begun_mark, mark_at}
use Rattle.rx_causes.specs.Scenes.{IsSceneOf}
use Rattle.rx_causes.proofs.Marks.{mark_is}
use Rattle.rx_ways.specs.Ways.{is_way}
use Rattle.rx_begin.specs.Beginning.{BeginsPlace, is_opened}
use Rattle.rx_children.specs.Nodes.{HasTaken, begun_over, taken_as}
use Rattle.rx_fallback.specs.Opening.{HasCaughtKids, HasFallbackKids, alone, beside, opened_at}
use Rattle.rx_begin.specs.Kids.{HasKids}
use Rattle.rx_children.specs.Origins.{TellsSteady}
use Rattle.rx_elem.specs.Elements.{Element}
use Rattle.rx_children.specs.declared.node.Begun.{Begun}
use Rattle.rx_children.specs.declared.node.Begun.TheVariants.{Child, Leaf}
use Rattle.rx_children.specs.declared.node.Begun.TheVariants as answers
use Rattle.rx_fallback.specs.declared.opening.Opened.{Opened}
use Rattle.begin_laws.specs.Flagged.{AllBare}
use Rattle.begin_laws.proofs.Costing.{wait_bare}
use Rattle.rx_read.specs.Numbering.{numbered_at, numbered_draft, numbered_fiber}
use Rattle.rx_render.specs.declared.at.At.TheVariants.{Begins, Completes}
use Rattle.rx_render.specs.Advancing.{at_after, at_opened, CanBegin}
use Rattle.rx_meaning.specs.Cursor.{Cursor, Frame, at_place}
use Rattle.rx_beside.specs.Alike.{AllTakeAlike}
use Rattle.rx_render.proofs.Alike.{begun_of, beside_alike, done_alike, dropped_alike, opened_alike, taken_alike, whole_own}
use Rattle.rx_render.specs.Gathers.{AroundGathered, GatheredHere, GatheredAtEnd, HasGathered, IsGathering}

-- Around a place

behind_gathered : (k : Around Fiber) (s : Shape Fiber) → AroundGathered k → IsGathered s → IsGathered (behind_earlier k s)
behind_gathered top s a g = g
behind_gathered (below id v o rs k) s a g = g
behind_gathered (after id v o ks k) s a g = behind_gathered k (fiber id v (grafted ks) s) a.1 (a.0.0, a.0.1, g)

root_list : (k : Around Fiber) (d : Draft Fiber) → up_of k ≡ None → grafted (placed k d) ≡ behind_earlier k (grafted d)
root_list top d e = refl
root_list (below id v o rs k) d e = absurd (let q : ⊥ = cc in q)
root_list (after id v o ks k) d e = root_list k (made id v o ks d) e

out_gathered : (k : Around Fiber) → AroundGathered k → AroundGathered (above_list k)
out_gathered top a = a
out_gathered (below id v o rs k) a = a
out_gathered (after id v o ks k) a = out_gathered k a.1

abbrev outer_at : ℕ → Fiber → Option ℕ → Draft Fiber → Around Fiber → Outer
outer_at id v o rs k = record { around = k; id = id; value = v; old = o; rest = rs }

nearest_gathered : (stops : Stage → Bool) (k : Around Fiber) (u : Outer) → AroundGathered k → nearest_where stops k ≡ Some u → AllBare u.rest × AroundGathered u.around
nearest_gathered stops top u a e = absurd (let q : ⊥ = cc in q)
nearest_gathered stops (below id v o rs k) u a e = by_test (stops v.stage) e (nearest_gathered stops k u a.1)
  where
    by_test : (b : Bool) → (if b then Some (outer_at id v o rs k) else nearest_where stops k) ≡ Some u → (nearest_where stops k ≡ Some u → AllBare u.rest × AroundGathered u.around)
        → AllBare u.rest × AroundGathered u.around
    by_test true e above = let q : outer_at id v o rs k ≡ u = cc in subst (λ (x : Outer). AllBare x.rest × AroundGathered x.around) q a
    by_test false e above = above e
nearest_gathered stops (after id v o ks k) u a e = nearest_gathered stops k u a.1 e

-- the fiber above a list
record Above (k : Around Fiber) (i : ℕ) : Type 0 where
  pub around : Around Fiber
  pub value : Fiber
  pub old : Option ℕ
  pub rest : Draft Fiber
  pub up : above_list k ≡ below i value old rest around

above_at : (k : Around Fiber) (i : ℕ) → up_of k ≡ Some i → Above k i
above_at top i e = absurd (let q : ⊥ = cc in q)
above_at (below id v o rs k) i e =
    let s : id ≡ i = cc in
    record { around = k; value = v; old = o; rest = rs; up = ap (λ x. below x v o rs k) s }
above_at (after id v o ks k) i e =
    let u = above_at k i e in
    record { around = u.around; value = u.value; old = u.old; rest = u.rest; up = u.up }

-- After a node that is done

after_node : (t : Trees Fiber) (k : Around Fiber) (q : ℕ) (v : Fiber) (o : Option ℕ) (kids rest : Draft Fiber) → t.draft ≡ placed k (made q v o kids rest) → AroundGathered k → IsGatheredOver v (grafted kids) → AllBare rest
    → HasGathered t (at_after (next_by (entry rest) (up_of k)))
after_node t k q v o kids (made id w p ks rs) here around over bare = record {
  around = after q v o kids k;
  value = w;
  old = p;
  rest = rs;
  here = here ∙ ap (λ x. placed k (made q v o kids (made id w p x rs))) bare.0;
  gathered = (over, around);
  follow = bare.1;
}
after_node t k q v o kids (taken s) here around over bare =
    subst (λ x. HasGathered t (at_after (next_by (entry (taken x)) (up_of k)))) (sym bare) (by_up (up_of k) refl)
  where
    there : t.draft ≡ placed k (made q v o kids (taken shapes.none))
    there = here ∙ ap (λ x. placed k (made q v o kids (taken x))) bare

    by_up : (u : Option ℕ) → up_of k ≡ u → HasGathered t (at_after (next_by None u))
    by_up None e =
        subst IsGathered (sym (ap grafted there ∙ root_list k (made q v o kids (taken shapes.none)) e))
        (behind_gathered k (fiber q v (grafted kids) shapes.none) around (over.0, over.1, tt))
    by_up (Some i) e =
        let u = above_at k i e in
        record {
          inner = after q v o kids k;
          here = there;
          around = u.around;
          value = u.value;
          old = u.old;
          rest = u.rest;
          up = u.up;
          gathered = (over, around);
        }

-- a node that is completed
end_has : (t new : Trees Fiber) (q : ℕ) (r : Next) → Fits t → new ≡ record t { draft = valued q (changed (change.Complete (subtrees_of (grafted (made_kids_of t.draft q))))) t.draft }
    → r ≡ next_after t.draft q → GatheredAtEnd t q → HasGathered new (at_after r)
end_has t new q r fits is next h =
    let kids : Draft Fiber = whole_list h.inner (taken shapes.none) in
    let here : t.draft ≡ placed h.around (made q h.value h.old kids h.rest) =
    h.here ∙ (placed_list h.inner (taken shapes.none) ∙ ap (λ k. placed k kids) h.up)
    in
    let at = is-at t fits h.around q h.value h.old kids h.rest here in
    let tells : made_kids_of t.draft q ≡ kids = ap made_kids_in at.list in
    let outside : AllBare h.rest × AroundGathered h.around = subst AroundGathered h.up (out_gathered h.inner h.gathered) in
    let all : IsGathered (grafted kids) = subst IsGathered (sym (grafted_list h.inner (taken shapes.none))) (behind_gathered h.inner shapes.none h.gathered tt) in
    subst (λ x. HasGathered new (at_after x)) (sym (next ∙ next_is t h.around q h.value h.old kids h.rest at))
    (after_node new h.around q (changed (change.Complete (subtrees_of (grafted (made_kids_of t.draft q)))) h.value) h.old kids h.rest
    (ap (λ x. x.draft) is ∙ at.value (changed (change.Complete (subtrees_of (grafted (made_kids_of t.draft q)))))) outside.1
    (ap (λ d. joined (own_subtree (completed_stage h.value.stage)) (subtrees_of (grafted d))) tells, all) outside.0)

module _ (t new : Trees Fiber) (q : ℕ) (r : Next) (fits : Fits t) (is : new ≡ record t { draft = valued q (changed (change.Complete (subtrees_of (grafted (made_kids_of t.draft q))))) t.draft })
    (following : r ≡ next_after t.draft q) (g : IsGathering t (Completes q)) where
  abbrev end_kids : Draft Fiber
  end_kids = whole_list g.0.inner (taken shapes.none)

  end_here : t.draft ≡ placed g.0.around (made q g.0.value g.0.old end_kids g.0.rest)
  end_here = g.0.here ∙ (placed_list g.0.inner (taken shapes.none) ∙ ap (λ k. placed k end_kids) g.0.up)

  abbrev completes_it : Fiber → Fiber
  completes_it = changed (change.Complete (subtrees_of (grafted (made_kids_of t.draft q))))

  end_alike : AllTakeAlike t.current (valued q completes_it t.draft)
  end_alike =
      subst (AllTakeAlike t.current) (sym ((is-at t fits g.0.around q g.0.value g.0.old end_kids g.0.rest end_here).value completes_it))
      (done_alike t.current g.0.around q g.0.value (completes_it g.0.value) g.0.old end_kids g.0.rest (whole_own g.0.inner (taken shapes.none) tt) (subst (AllTakeAlike t.current) end_here g.1))

  pub end_gathered : IsGathering new (at_after r)
  end_gathered = (end_has t new q r fits is following g.0, subst (λ (x : Trees Fiber). AllTakeAlike x.current x.draft) (sym is) end_alike)

-- Old children that are taken over

taken_over : (c : Shape Fiber) → IsLinked c → (o : Option ℕ) → IfSome o (Holds c) → IsGathered c → (m : Mark) → mark_at c o ≡ Some m → (v : Fiber)
    → IsGatheredOver (taken_as m (subtree_at c o) v) (kids_under c o)
taken_over c linked None held g m e v = absurd (let f : None ≡ Some m = e in let q : ⊥ = cc in q)
taken_over c linked (Some j) held g m e v =
    let (w, w_is, list) = linked.list j held in
    let over = gathered_over c linked j held g w w_is in
    let mark : begun_mark w.stage ≡ Some m = sym (ap (option_and_then (λ u. begun_mark u.stage)) w_is) ∙ e in
    let own : own_subtree w.stage ≡ marked_subtree m = ap own_subtree (begun_of w.stage m mark) in
    let kept : subtree_at c (Some j) ≡ w.subtree = ap (λ x. option_map_or (λ u. u.subtree) x nothing) w_is in (
      ap (joined (marked_subtree m)) (kept ∙ (over.0 ∙ ap (λ x. joined x (subtrees_of (kids_of c j))) own)) ∙ joined_same (marked_subtree m) (subtrees_of (kids_of c j)),
      over.1,
    )

passed_has : (t new : Trees Fiber) (id : ℕ) (r : Next) → Fits t → Fits new → IsLinked t.current → HasTaken t new id → r ≡ next_after new.draft id → (x : Node)
    → IsOld t.current (old_of t.draft id) (Some x) → IsGathered t.current → GatheredHere t id → HasGathered new (at_after r)
passed_has t new id r fits fits_new linked takes next x was current h =
    let at = is-at t fits h.around id h.value h.old (taken shapes.none) h.rest h.here in
    let marked : mark_at t.current h.old ≡ Some (mark_of x) = ap (mark_at t.current) (sym at.old) ∙ mark_is t.current (old_of t.draft id) (Some x) was in
    let v : Fiber = taken_as (mark_of x) (subtree_at t.current h.old) h.value in
    let kids : Draft Fiber = taken (kids_under t.current h.old) in
    let there : new.draft ≡ placed h.around (made id v h.old kids h.rest) = takes h.around h.value h.old h.rest (mark_of x) h.here marked in
    subst (λ y. HasGathered new (at_after y)) (sym (next ∙ next_is new h.around id v h.old kids h.rest (is-at new fits_new h.around id v h.old kids h.rest there)))
    (after_node new h.around id v h.old kids h.rest there h.gathered (taken_over t.current linked h.old at.old_held current (mark_of x) marked h.value) h.follow)

pub passed_gathered : (t new : Trees Fiber) (id : ℕ) (r : Next) → Fits t → Fits new → IsLinked t.current → new.current ≡ t.current → HasTaken t new id → r ≡ next_after new.draft id → (x : Node)
    → IsOld t.current (old_of t.draft id) (Some x) → ((v : Fiber) → Some v ≡ made_value_of t.draft id → element_of x ≡ v.element) → IsGathered t.current → IsGathering t (Begins id) → IsGathering new (at_after r)
passed_gathered t new id r fits fits_new linked still takes next x was same current (h, alike) =
    let at = is-at t fits h.around id h.value h.old (taken shapes.none) h.rest h.here in
    let old : IsOld t.current h.old (Some x) = subst (λ o. IsOld t.current o (Some x)) at.old was in
    let marked : mark_at t.current h.old ≡ Some (mark_of x) = mark_is t.current h.old (Some x) old in
    let element : element_of x ≡ h.value.element = same h.value (sym (ap made_value_in at.list)) in
    let there = takes h.around h.value h.old h.rest (mark_of x) h.here marked in (
      passed_has t new id r fits fits_new linked takes next x was current h,
      subst (λ c. AllTakeAlike c new.draft) (sym still)
          (subst (AllTakeAlike t.current) (sym there)
          (taken_alike t.current h.around id h.value h.old h.rest (mark_of x) (subtree_at t.current h.old) x old element marked (subst (AllTakeAlike t.current) h.here alike))),
    )

-- the fiber of a place has its element
place_element : (t : Trees Fiber) (st : Stack) (q : ℕ) (c : Cursor) → Fits t → StandsAt t st (Some q) c → (levels : ℕ) (fs : List Frame) (cs : Contexts) (e : Element) (old : Option Node) → c ≡ at_place levels fs cs e old
    → (v : Fiber) → Some v ≡ made_value_of t.draft q → v.element ≡ e
place_element t st q _ fits (begins {p = p} {v = w} {o = o} {rs = rs} {k = k} {e = f} here waits was around values stack moves) levels fs cs e old is v value =
    let at = is-at t fits k p w o (taken shapes.none) rs here in
    let its : Some v ≡ Some w = value ∙ ap made_value_in at.list in
    let same : v ≡ w = cc in
    let placed_is : f ≡ e = cc in
    ap (λ (u : Fiber). u.element) same ∙ waits.element ∙ placed_is
place_element t st q _ fits (completes here done list stack moves) levels fs cs e old is v value = absurd (let z : ⊥ = cc in z)

-- what was taken over has an old node, with the element of the place
pub taken_node : (scene : Scene) (kept : ℕ → Option (List Hook)) (t : Trees Fiber) (st : Stack) (new : Trees Fiber) (st' : Stack) (id : ℕ) → Fits t → CanBegin scene kept t st id
    → ((s : Sight) → IsSceneOf scene s → BeginsPlace s (is_way scene.ways.now) kept t st new st' id answers.Taken)
    → (x : Node) × IsOld t.current (old_of t.draft id) (Some x) × ((v : Fiber) → Some v ≡ made_value_of t.draft id → element_of x ≡ v.element)
taken_node scene kept t st new st' id fits can begun_as =
    let b = begun_as can.sight can.sees can.levels can.frames can.contexts_are can.element can.old can.stands can.gives can.settled can.covers in
    (b.node, subst (IsOld t.current (old_of t.draft id)) b.was b.old_is, λ v value. b.same ∙ sym (place_element t st id _ fits can.stands _ _ _ _ _ refl v value))

-- At what is opened

open_gathered : (new : Trees Fiber) (k : Around Fiber) (p : ℕ) (v : Fiber) (o : Option ℕ) (kids rest : Draft Fiber) → new.draft ≡ placed k (made p v o kids rest) → AroundGathered k → AllBare rest → AllBare kids
    → HasGathered new (at_opened (opened_at (entry kids) p))
open_gathered new k p v o (made id w q ks rs) rest here around follow bare = record {
  around = below p v o rest k;
  value = w;
  old = q;
  rest = rs;
  here = here ∙ ap (λ x. placed k (made p v o (made id w q x rs) rest)) bare.0;
  gathered = (follow, around);
  follow = bare.1;
}
open_gathered new k p v o (taken s) rest here around follow bare =
    subst (λ x. HasGathered new (at_opened (opened_at (entry (taken x)) p))) (sym bare)
    (record {
      inner = below p v o rest k;
      here = here ∙ ap (λ x. placed k (made p v o (taken x) rest)) bare;
      around = k;
      value = v;
      old = o;
      rest = rest;
      up = refl;
      gathered = (follow, around);
    })

begun_first : (d : Draft Fiber) (i : ℕ) → Child i ≡ begun_over d → entry d ≡ Some i
begun_first (taken s) i e = absurd (let q : ⊥ = cc in q)
begun_first (made id v o ks rs) i e = let q : i ≡ id = cc in ap Some (sym q)

begun_none : (d : Draft Fiber) → AllBare d → Leaf ≡ begun_over d → entry d ≡ None
begun_none (taken s) bare e = ap shapes.first bare
begun_none (made id v o ks rs) bare e = absurd (let q : ⊥ = cc in q)

-- what is said of the children of a place that is opened: their old ones are visible exactly if the place is steady
abbrev pub SaysKids : (t new : Trees Fiber) → ℕ → Begun → Type 0
SaysKids t new id b =
    (v : Fiber) → Some v ≡ made_value_of t.draft id → is_opened b ≡ true → (origin : Origin) × TellsSteady t.current (old_of t.draft id) v origin.visible × ((h : HasKids origin t new id) × (b ≡ begun_over h.kids))

module _ (t new : Trees Fiber) (id : ℕ) (fits : Fits t) (b : Begun) (says : SaysKids t new id b) (still : new.current ≡ t.current) (gathering : IsGathering t (Begins id)) where
  here : GatheredHere t id
  here = gathering.0

  its_value : Some here.value ≡ made_value_of t.draft id
  its_value = sym (ap made_value_in (is-at t fits here.around id here.value here.old (taken shapes.none) here.rest here.here).list)

  kids_alike : (origin : Origin) (kids : HasKids origin t new id) → AllTakeAlike new.current new.draft
  kids_alike origin kids =
      subst (λ c. AllTakeAlike c new.draft) (sym still)
      (subst (AllTakeAlike t.current) (sym (kids.stands here.around here.value here.old here.rest here.here))
      (opened_alike t.current here.around id here.value (kids.value here.value) here.old kids.kids here.rest (wait_bare origin kids.kids kids.all) (subst (AllTakeAlike t.current) here.here gathering.1)))

  pub child_gathered : (child : ℕ) → b ≡ Child child → IsGathering new (Begins child)
  child_gathered child is =
      let (origin, steadiness, (kids, over)) = says here.value its_value (ap is_opened is) in (
        subst (λ f. HasGathered new (at_opened (opened_at f id))) (begun_first kids.kids child (sym is ∙ over))
            (open_gathered new here.around id (kids.value here.value) here.old kids.kids here.rest (kids.stands here.around here.value here.old here.rest here.here) here.gathered here.follow
            (wait_bare origin kids.kids kids.all)),
        kids_alike origin kids,
      )

  pub leaf_gathered : b ≡ Leaf → IsGathering new (Completes id)
  leaf_gathered is =
      let (origin, steadiness, (kids, over)) = says here.value its_value (ap is_opened is) in
      let bare : AllBare kids.kids = wait_bare origin kids.kids kids.all in (
        subst (λ f. HasGathered new (at_opened (opened_at f id))) (begun_none kids.kids bare (sym is ∙ over))
            (open_gathered new here.around id (kids.value here.value) here.old kids.kids here.rest (kids.stands here.around here.value here.old here.rest here.here) here.gathered here.follow bare),
        kids_alike origin kids,
      )

-- a fallback
fallback_has : (origin : Origin) (t new : Trees Fiber) (q : ℕ) → GatheredHere t q → IsGathered t.current → (f : Opened) → HasFallbackKids origin t new q f → HasGathered new (at_opened f)
fallback_has origin t new q h current f (alone kids value still same all new_if stands is) =
    subst (λ x. HasGathered new (at_opened x)) (sym is)
    (open_gathered new h.around q (value h.value) h.old kids h.rest (stands h.around h.value h.old h.rest h.here) h.gathered h.follow (wait_bare origin kids all))
fallback_has origin t new q h current f (beside kids value kept id w old still hidden too all new_if stands over is) =
    subst (λ x. HasGathered new (at_opened x)) (sym is)
    (open_gathered new (after q (value h.value) h.old (taken (kept h.old)) h.around) id w old kids h.rest (stands h.around h.value h.old h.rest h.here).1
    (over h.around h.value h.old h.rest h.here current, h.gathered) h.follow (wait_bare origin kids all))

fallback_alike : (origin : Origin) (t new : Trees Fiber) (q : ℕ) → GatheredHere t q → (f : Opened) → HasFallbackKids origin t new q f → AllTakeAlike t.current t.draft → AllTakeAlike t.current new.draft
fallback_alike origin t new q h f (alone kids value still same all new_if stands is) a =
    subst (AllTakeAlike t.current) (sym (stands h.around h.value h.old h.rest h.here))
    (opened_alike t.current h.around q h.value (value h.value) h.old kids h.rest (wait_bare origin kids all) (subst (AllTakeAlike t.current) h.here a))
fallback_alike origin t new q h f (beside kids value kept id w old still hidden too all new_if stands over is) a =
    subst (AllTakeAlike t.current) (sym (stands h.around h.value h.old h.rest h.here).1)
    (beside_alike t.current h.around q h.value (value h.value) h.old (kept h.old) id w old kids h.rest (hidden h.value) (wait_bare origin kids all) (subst (AllTakeAlike t.current) h.here a))

fallback_gathered : (origin : Origin) (t new : Trees Fiber) (q : ℕ) → GatheredHere t q → IsGathered t.current → (f : Opened) → HasFallbackKids origin t new q f → new.current ≡ t.current → AllTakeAlike t.current t.draft
    → IsGathering new (at_opened f)
fallback_gathered origin t new q h current f kids still alike =
    (fallback_has origin t new q h current f kids, subst (λ c. AllTakeAlike c new.draft) (sym still) (fallback_alike origin t new q h f kids alike))

-- that of a boundary that waits still
pub again_gathered : (origin : Origin) (t tried new : Trees Fiber) (id : ℕ) (tries : Origin) (f : Opened) → Fits t → tried ≡ record t { draft = valued id (changed (change.Try tries)) t.draft } → HasFallbackKids origin tried new id f
    → new.current ≡ tried.current → IsGathered t.current → IsGathering t (Begins id) → IsGathering new (at_opened f)
again_gathered origin t tried new id tries f fits is kids still current (h, alike) =
    let at = is-at t fits h.around id h.value h.old (taken shapes.none) h.rest h.here in
    let here : GatheredHere tried id = record {
      around = h.around;
      value = changed (change.Try tries) h.value;
      old = h.old;
      rest = h.rest;
      here = ap (λ x. x.draft) is ∙ at.value (changed (change.Try tries));
      gathered = h.gathered;
      follow = h.follow;
    } in
    fallback_gathered origin tried new id here (subst IsGathered (sym (ap (λ x. x.current) is)) current) f kids still
    (subst (λ (x : Trees Fiber). AllTakeAlike x.current x.draft) (sym is)
    (subst (AllTakeAlike t.current) (sym (at.value (changed (change.Try tries))))
    (done_alike t.current h.around id h.value (changed (change.Try tries) h.value) h.old (taken shapes.none) h.rest tt (subst (AllTakeAlike t.current) h.here alike))))

left_alike : (t dropped : Trees Fiber) (q : ℕ) (u : Outer) → u.id ≡ q → dropped.current ≡ t.current → dropped.draft ≡ placed u.around (made q u.value u.old (taken shapes.none) u.rest)
    → AllTakeAlike t.current (placed u.around (made u.id u.value u.old (taken shapes.none) u.rest)) → AllTakeAlike dropped.current dropped.draft
left_alike t dropped q u id same here left =
    subst (λ c. AllTakeAlike c dropped.draft) (sym same)
    (subst (AllTakeAlike t.current) (sym here) (subst (λ i. AllTakeAlike t.current (placed u.around (made i u.value u.old (taken shapes.none) u.rest))) id left))

-- that of the nearest boundary outside of a place that waits
pub unwound_gathered : (t dropped new : Trees Fiber) (q p : ℕ) (f : Opened) (g : IsGathering t (Begins p)) → Fits dropped → dropped.current ≡ t.current → new.current ≡ dropped.current
    → ((u : Outer) × (nearest g.0.around ≡ Some u) × (u.id ≡ q) × (dropped.draft ≡ placed u.around (made q u.value u.old (taken shapes.none) u.rest)))
    → ((v : Fiber) → Some v ≡ made_value_of dropped.draft q → (origin : Origin) × HasFallbackKids origin dropped new q f) → IsGathered t.current → IsGathering new (at_opened f)
unwound_gathered t dropped new q p f (h, alike) fits same still found says current =
    let (u, near, id, here) = found in
    let outside = nearest_gathered is_trying h.around u h.gathered near in
    let left = dropped_alike t.current is_trying h.around (made p h.value h.old (taken shapes.none) h.rest) u near (subst (AllTakeAlike t.current) h.here alike) in
    let (origin, kids) = says u.value (sym (ap made_value_in (is-at dropped fits u.around q u.value u.old (taken shapes.none) u.rest here).list)) in
    fallback_gathered origin dropped new q
    (record { around = u.around; value = u.value; old = u.old; rest = u.rest; here = here; gathered = outside.1; follow = outside.0 }) (subst IsGathered (sym same) current) f kids still
    (left_alike t dropped q u id same here left)

-- that of the nearest error boundary outside of a place that throws
pub thrown_gathered : (t dropped new : Trees Fiber) (q p : ℕ) (f : Opened) (g : IsGathering t (Begins p)) → dropped.current ≡ t.current → new.current ≡ dropped.current
    → ((u : Outer) × (nearest_catch g.0.around ≡ Some u) × (u.id ≡ q) × (dropped.draft ≡ placed u.around (made q u.value u.old (taken shapes.none) u.rest)))
    → HasCaughtKids dropped new q f → IsGathered t.current → IsGathering new (at_opened f)
thrown_gathered t dropped new q p f (h, alike) same still found kids current =
    let (u, near, id, here) = found in
    let outside = nearest_gathered is_guarding h.around u h.gathered near in
    let left = dropped_alike t.current is_guarding h.around (made p h.value h.old (taken shapes.none) h.rest) u near (subst (AllTakeAlike t.current) h.here alike) in
    fallback_gathered (as_matched false 1) dropped new q
    (record { around = u.around; value = u.value; old = u.old; rest = u.rest; here = here; gathered = outside.1; follow = outside.0 }) (subst IsGathered (sym same) current) f
    (alone kids.kids kids.value kids.stage kids.element kids.all (λ e. kids.new) kids.stands kids.answer_is) still (left_alike t dropped q u id same here left)

-- Where numbers are given

mark_same : (next : Numbers) (m : Mark) → marked_subtree (numbered_mark next m).1 ≡ marked_subtree m
mark_same next (of_instance i) = by_number i.number
  where
    by_number : (n : Option ℕ) → marked_subtree (numbered_instance next i n).1 ≡ marked_subtree (of_instance i)
    by_number None = refl
    by_number (Some n) = refl
mark_same next (of_host None) = refl
mark_same next (of_host (Some n)) = refl
mark_same next (of_boundary b) = refl
mark_same next (of_catcher c) = refl
mark_same next plain = refl

stage_same : (next : Numbers) (v : Fiber) (s : Stage) → v.stage ≡ s → ((numbered_at next v s).1.subtree ≡ v.subtree) × (own_subtree (numbered_at next v s).1.stage ≡ own_subtree v.stage)
stage_same next v (waiting c) e = (refl, refl)
stage_same next v (begun m) e = (refl, mark_same next m ∙ sym (ap own_subtree e))
stage_same next v (trying c) e = (refl, refl)
stage_same next v guarding e = (refl, refl)
stage_same next v (fallback a) e = (refl, refl)

kept_same : (next : Numbers) (d : Draft Fiber) → subtrees_of (grafted (numbered_draft next d).1) ≡ subtrees_of (grafted d)
kept_same next (taken s) = refl
kept_same next (made id v o ks rs) =
    let own = numbered_fiber next v in
    let under = numbered_draft own.0 ks in
    ap (λ x. joined x (subtrees_of (grafted (numbered_draft under.0 rs).1))) (stage_same next v v.stage refl).0 ∙ ap (joined v.subtree) (kept_same under.0 rs)

pub numbered_gathered : (next : Numbers) (d : Draft Fiber) → IsGathered (grafted d) → IsGathered (grafted (numbered_draft next d).1)
numbered_gathered next (taken s) g = g
numbered_gathered next (made id v o ks rs) g =
    let own = numbered_fiber next v in
    let under = numbered_draft own.0 ks in
    let same = stage_same next v v.stage refl in (
      same.0
          ∙ (g.0 ∙ (ap (λ x. joined x (subtrees_of (grafted ks))) (sym same.1) ∙ ap (joined (own_subtree own.1.stage)) (sym (kept_same own.0 ks)))),
      numbered_gathered own.0 ks g.1,
      numbered_gathered under.0 rs g.2,
    )
