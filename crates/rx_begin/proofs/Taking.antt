-- What is given again, and whose old node is idle, takes the old children over.
use Rattle.std.specs.Prelude.{◌≡◌, ℕ, suc, Bool, true, false, not, ◌&&◌, List, Option, Some, None, ◌⊎◌, IsSome, option_map}
use Rattle.std.proofs.Common.{refl, sym, ap, ◌∙◌, subst, inl, inr}
use Rattle.rx_ctx.specs.Contexts.{Stack, values_at}
use Rattle.rx_susp.specs.declared.boundary.BoundaryState.TheVariants.{Hidden, Shown}
use Rattle.rx_elem.specs.Elements.{Element}
use Rattle.rx_elem.specs.Trees.{Mark, Node, element_of, is_hidden, mark_of, node, of_boundary, of_catcher, of_host, of_instance, plain}
use Rattle.rx_elem.specs.Trees as trees
use Rattle.rx_hooks.specs.declared.hook.Hook.{Hook}
use Rattle.rx_lists.specs.Shapes.{Shape, fiber}
use Rattle.rx_lists.specs.Shapes as shapes
use Rattle.rx_links.specs.Drafts.{taken, Trees, kids_of, kids_under, list_at, old_of, shape_or_none}
use Rattle.rx_links.specs.Readers.{IsLinked, made_value_of}
use Rattle.rx_meaning.specs.Cursor.{Frame, at_place}
use Rattle.rx_meaning.specs.Fresh.{Contexts, Sight, version_seen}
use Rattle.rx_meaning.specs.Touched.{sees_refresh}
use Rattle.commit_laws.specs.Idle.{IsIdle, IsIdleMark}
use Rattle.rx_ways.specs.Ways.{Covers, CoversIf}
use Rattle.rx_fiber.specs.Fibers.{Fiber}
use Rattle.rx_fiber.specs.declared.subtree.Subtree.{Subtree}
use Rattle.rx_fiber.specs.Subtrees.{subtree_at}
use Rattle.rx_fiber.specs.Reading.{IsFor, whole, alone, beside, IsOld, of, next}
use Rattle.rx_fiber.specs.Stood.{StandsSame}
use Rattle.rx_fiber.specs.Surround.{IsAround, IsElementOf, IsOfNode, given_along, moves_along}
use Rattle.rx_fiber.specs.Standing.{StandsAt, begins, is_stood}
use Rattle.rx_fiber.proofs.OldLists.{kids_are, old_of_node}
use Rattle.rx_causes.specs.Marks.{mark_at}
use Rattle.rx_causes.specs.Scenes.{GivesHooks}
use Rattle.rx_causes.specs.Hidden.{ForEach, GivesHooksIf}
use Rattle.rx_causes.specs.Reads.{ContextsHold, VersionsHold}
use Rattle.rx_causes.proofs.Causes.{shown_again}
use Rattle.rx_causes.proofs.Marks.{mark_is}
use Rattle.rx_children.specs.Nodes.{HasTaken, taken_as}
use Rattle.rx_children.specs.Origins.{StoodIn}
use Rattle.rx_begin.specs.Beginning.{IsTakenOver, ReadsTheSame}
use Rattle.rx_begin.proofs.ByElement.{old_at, values_here}
use Rattle.rx_children.proofs.OldNodes.{stood_in}
use Rattle.rx_children.proofs.Making.{KnowsPlaces}
use Rattle.rx_begin.proofs.Standing.{KnowsElement, both_true, same_here, stood_here}

idle_mark : (s : Sight) (m : Mark) → IsIdleMark s m → is_hidden m ≡ false
idle_mark s (of_instance i) h = refl
idle_mark s (of_host n) h = refl
idle_mark s (of_boundary Shown) h = refl
idle_mark s (of_boundary (Hidden a)) h = absurd h
idle_mark s (of_catcher c) h = refl
idle_mark s plain h = refl

idle_shown : (s : Sight) (x : Node) → IsIdle s x → is_hidden (mark_of x) ≡ false
idle_shown s (node e m ns fs) h = idle_mark s m h.0

-- with the children of the old node's fiber it stands for that node again, if that one hides nothing
stands_again : (under : Subtree) (c : Shape Fiber) (o : Option ℕ) (x : Node) → IsLinked c → IsOld c o (Some x) → is_hidden (mark_of x) ≡ false
    → (v : Fiber) (q : ℕ) (tail : Shape Fiber) → v.element ≡ element_of x → IsFor v.place x (fiber q (taken_as (mark_of x) under v) (kids_under c o) tail) tail
stands_again under c _ _ linked (of {j = j} {n = n} {x = x} {s = s} here leads (next {rest = rest} is a)) shown v q tail same = by_fibers n x s rest is here leads shown same
  where
    by_fibers : (n : ℕ) (x : Node) (s rest : Shape Fiber) → IsFor n x s rest → list_at c j ≡ Some s → shapes.first s ≡ Some j → is_hidden (mark_of x) ≡ false → v.element ≡ element_of x
        → IsFor v.place x (fiber q (taken_as (mark_of x) under v) (kids_of c j) tail) tail
    by_fibers n _ _ rest (whole {id = id} {v = w} {e = e} {m = m} {ns = ns} {ks = ks} is shown a) here leads shows same =
        let i : id ≡ j = cc in
        let kids : kids_of c j ≡ ks =
        ap (kids_of c) (sym i) ∙ kids_are c id w ks rest linked (ap (λ k. shape_or_none (list_at c k)) i ∙ ap shape_or_none here) in
        subst (λ l. IsFor v.place (node e m ns trees.none) (fiber q (taken_as m under v) l tail) tail) (sym kids)
        (whole (record { at = refl; element = same; stage = refl }) shown a)
    by_fibers n _ _ rest (alone {id = id} {v = w} {e = e} {m = m} {ns = ns} {fs = fs} {ks = ks} is falling gone a) here leads shows same =
        let i : id ≡ j = cc in
        let kids : kids_of c j ≡ ks =
        ap (kids_of c) (sym i) ∙ kids_are c id w ks rest linked (ap (λ k. shape_or_none (list_at c k)) i ∙ ap shape_or_none here) in
        subst (λ l. IsFor v.place (node e m ns fs) (fiber q (taken_as m under v) l tail) tail) (sym kids)
        (alone (record { at = refl; element = same; stage = refl }) falling gone a)
    by_fibers n _ _ rest (beside {m = m} is hidden some a s f) here leads shows same = absurd (let q : ⊥ = cc in q)

module _ (s : Sight) (kept : ℕ → Option (List Hook)) (t : Trees Fiber) (st : Stack) (new : Trees Fiber) (st' : Stack) (p n : ℕ) (fs : List Frame) (cs : Contexts) (e : Element) (old : Option Node)
    (linked : IsLinked t.current) (knows : KnowsPlaces t) (at : StandsAt t st (Some p) (at_place (suc n) fs cs e old)) (v : Fiber) (value : Some v ≡ made_value_of t.draft p)
    (again : Bool) (its : KnowsElement t p v again) (so : again ≡ true) (stood : Bool) (stood_is : stood ≡ is_stood st v.stage) (took : HasTaken t new p) (current : new.current ≡ t.current) (stacks : st' ≡ st) where
  -- it has the element of its current fiber
  element_here : IsElementOf t.current (old_of t.draft p) e
  element_here = same_here t st p n fs cs e old knows at v value again its so

  -- that one stands where all contexts have the same values, if it stood
  stands_there : stood ≡ true → StandsSame t.current (given_along fs) (old_of t.draft p)
  stands_there f = stood_here t st p n fs cs e old knows at v value (sym stood_is ∙ f) element_here

  -- else what was read there of the contexts holds
  stood_or_read : (x : Node) → old ≡ Some x → (stood ≡ false → (y : Node) → IsOld t.current (old_of t.draft p) (Some y) → ContextsHold (values_at st) y)
      → StandsSame t.current (given_along fs) (old_of t.draft p) ⊎ ContextsHold cs x
  stood_or_read x was reads = by_stood stood refl
    where
      by_stood : (b : Bool) → stood ≡ b → StandsSame t.current (given_along fs) (old_of t.draft p) ⊎ ContextsHold cs x
      by_stood true f = inl (stands_there f)
      by_stood false f =
          inr (subst (λ l. ContextsHold l x) (values_here t st p n fs cs e old at)
          (reads f x (subst (IsOld t.current (old_of t.draft p)) was (old_at t st p n fs cs e old knows at))))

  -- and what was read there of the resources, if it did not stand or a resource has another version
  stood_or_used : (x : Node) → old ≡ Some x → (refreshes : Bool) → refreshes ≡ sees_refresh s
      → ((stood && not refreshes) ≡ false → (version : ℕ → ℕ) (y : Node) → IsOld t.current (old_of t.draft p) (Some y) → VersionsHold version y)
      → (StandsSame t.current (given_along fs) (old_of t.draft p) × (sees_refresh s ≡ false)) ⊎ VersionsHold (version_seen s) x
  stood_or_used x was refreshes sees uses = by_both (stood && not refreshes) refl
    where
      by_both : (b : Bool) → (stood && not refreshes) ≡ b → (StandsSame t.current (given_along fs) (old_of t.draft p) × (sees_refresh s ≡ false)) ⊎ VersionsHold (version_seen s) x
      by_both true f = let (so, none) = both_true stood (not refreshes) f in inl (stands_there so, sym sees ∙ shown_again refreshes none)
      by_both false f = inr (uses f (version_seen s) x (subst (IsOld t.current (old_of t.draft p)) was (old_at t st p n fs cs e old knows at)))

  -- from the old node
  by_node : (x : Node) → old ≡ Some x → StoodIn (Some x) e → IsIdle s x → ReadsTheSame s t.current (given_along fs) cs (old_of t.draft p) x → IsTakenOver s t new st' p fs cs e old
  by_node x was stood_there idle read =
      let same : element_of x ≡ e = cc in
      elim at [
        | begins {v = w} {o = o} {rs = rs} {k = k} here is is_old surrounds values stack moves ↦ (
            let at_it = knows k p w o (taken shapes.none) rs here in
            let its : IsOld t.current o (Some x) = subst (IsOld t.current o) was is_old in
            record {
              node = x;
              was = was;
              same = same;
              idle = idle;
              old_is = subst (λ q. IsOld t.current q old) (sym at_it.old) is_old;
              reads = read;
              passed = record {
                around = k;
                value = taken_as (mark_of x) (subtree_at t.current o) w;
                old = o;
                kids = kids_under t.current o;
                rest = rs;
                here = took k w o rs (mark_of x) here (mark_is t.current o (Some x) its);
                is_for = λ tail. stands_again (subtree_at t.current o) t.current o x linked its (idle_shown s x idle) w p tail (is.element ∙ sym same);
                of_node = subst (λ c. IsOfNode c o) (sym current) (old_of_node t.current o (Some x) its);
                surrounds = subst (λ c. IsAround c k w.place rs fs) (sym current) (subst (λ place. IsAround t.current k place rs fs) (sym is.at) surrounds);
                stack = rw stacks stack;
                moves = ap (λ (z : Stack). z.moves) stacks ∙ (moves ∙ ap (λ c. moves_along c k) (sym current));
              };
            })
      ]

  -- It is done.
  pub taken_over : (way : ℕ → Bool) → IsSome (mark_at t.current (old_of t.draft p)) → ((x : Node) → IsOld t.current (old_of t.draft p) (Some x) → ForEach (GivesHooks s kept) x → Covers way (IsIdleMark s) x → IsIdle s x)
      → (stood ≡ false → (x : Node) → IsOld t.current (old_of t.draft p) (Some x) → ContextsHold (values_at st) x)
      → (refreshes : Bool) → refreshes ≡ sees_refresh s → ((stood && not refreshes) ≡ false → (version : ℕ → ℕ) (x : Node) → IsOld t.current (old_of t.draft p) (Some x) → VersionsHold version x)
      → GivesHooksIf s kept old → CoversIf way (IsIdleMark s) old → IsTakenOver s t new st' p fs cs e old
  taken_over way there idle reads refreshes sees uses gives covers = by_old old refl
    where
      by_old : (o : Option Node) → old ≡ o → IsTakenOver s t new st' p fs cs e old
      by_old None f =
          absurd
          (let g : false ≡ true = subst IsSome (mark_is t.current (old_of t.draft p) old (old_at t st p n fs cs e old knows at) ∙ ap (option_map mark_of) f) there in
          let q : ⊥ = cc in q)
      by_old (Some x) g =
          by_node x g (subst (λ y. StoodIn y e) g (stood_in t.current (old_of t.draft p) old e (old_at t st p n fs cs e old knows at) element_here))
          (idle x (subst (IsOld t.current (old_of t.draft p)) g (old_at t st p n fs cs e old knows at)) (subst (GivesHooksIf s kept) g gives) (subst (CoversIf way (IsIdleMark s)) g covers))
          (record { contexts = stood_or_read x g reads; versions = stood_or_used x g refreshes sees uses })
