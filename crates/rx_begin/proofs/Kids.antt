-- The children that a place is begun over wait, as is known of them.
use Rattle.std.specs.Prelude.{◌≡◌, ℕ, ℤ, Bool, true, false, cond, if◌then◌else◌, List, [], ◌∷◌, Option, Some, None, IsSome, option_and_then}
use Rattle.std.proofs.Common.{refl, sym, ap, ◌∙◌, subst}
use Rattle.rx_elem.specs.Elements.{Element}
use Rattle.rx_elem.specs.Elements as elements
use Rattle.rx_elem.specs.Trees.{Mark, of_boundary, of_catcher, of_host, of_instance, plain, caught_in, host_number}
use Rattle.rx_lists.specs.Shapes.{Shape}
use Rattle.rx_lists.specs.Shapes as shapes
use Rattle.rx_links.specs.Drafts.{Draft, taken, made, Trees, old_of, valued}
use Rattle.rx_links.specs.Places.{Around, placed}
use Rattle.rx_links.specs.Readers.{list_from, made_value_in, made_value_of}
use Rattle.rx_ctx.specs.Contexts.{Stack}
use Rattle.rx_hooks.specs.declared.hook.Hook.{Hook}
use Rattle.rx_fiber.specs.Fibers.{Fiber, Stage, as_cloned, as_matched, begun, origin_of}
use Rattle.rx_fiber.specs.FiberView.{changed}
use Rattle.rx_fiber.specs.declared.stage.StageChange.TheVariants as change
use Rattle.rx_fiber.specs.OldLists.{fallback_list, matched, old_elements, old_fibers, primary_list}
use Rattle.rx_causes.specs.Marks.{keeps_children, mark_at}
use Rattle.rx_fiber.specs.declared.stage.Origin.{Origin}
use Rattle.rx_causes.specs.declared.scene.Scene.{Scene}
use Rattle.rx_fiber.specs.Surround.{fallback_in, is_catcher}
use Rattle.rx_fiber.specs.Unwound.{is_trying}
use Rattle.rx_catch.specs.declared.state.CatchState.TheVariants.{Caught}
use Rattle.rx_children.specs.Nodes.{HasOpened, begun_children, begun_over, begun_stage}
use Rattle.rx_begin.specs.Kids.{HasKids}
use Rattle.rx_begin.specs.Beginning.{awaited_again, is_opened, is_taken}
use Rattle.rx_begin.specs.Others.{HasBegunNode, HasBegunOther}
use Rattle.rx_begin.specs.Others as others
use Rattle.rx_children.specs.declared.node.Begun.{Begun}
use Rattle.rx_children.specs.declared.node.Begun.TheVariants.{Suspended, Thrown}
use Rattle.rx_children.proofs.Making.{KnowsPlaces}
use Rattle.rx_begin.proofs.Bodies.{begun_anew}
use Rattle.rx_children.proofs.Origins.{NoFiber, kids_wait, kids_new, matched_none, cloned_none}

pub is_none : {A : Type 0} (x : Option A) → x ≡ None → IsSome x → ⊥
is_none None e h = let q : ⊥ = cc in q
is_none (Some a) e h = let q : ⊥ = cc in q

pub not_both : (b : Bool) → b ≡ false → b ≡ true → ⊥
not_both b lacks holds = let q : true ≡ false = sym holds ∙ lacks in let r : ⊥ = cc in r

-- the old list of a fiber that is made for none
abbrev pub OldList : Trees Fiber → ℕ → Shape Fiber
OldList t p = primary_list (list_from t.current (old_of t.draft p))

pub no_list : (t : Trees Fiber) (p : ℕ) → old_of t.draft p ≡ None → OldList t p ≡ shapes.none
no_list t p e = ap (λ o. primary_list (list_from t.current o)) e

-- if a stage is that of a boundary that comes to try its children, it keeps what is known of its place
abbrev pub KeepsPlace : Trees Fiber → (p : ℕ) → Stage → Type 0
KeepsPlace t p stage =
    (k : Around Fiber) (v : Fiber) (o : Option ℕ) (rs : Draft Fiber) → t.draft ≡ placed k (made p v o (taken shapes.none) rs) → is_trying stage ≡ true → origin_of stage ≡ origin_of v.stage

-- what is begun with a mark tries nothing
pub marked_keeps : (t : Trees Fiber) (p : ℕ) (m : Mark) → KeepsPlace t p (begun m)
marked_keeps t p m k v o rs e tries = absurd (let q : ⊥ = cc in q)

-- another element's fiber keeps what is known of its place
pub element_keeps : (t : Trees Fiber) (p : ℕ) → KnowsPlaces t → (e : Element) (own : Origin) (n : Option ℕ) → ((v : Fiber) → Some v ≡ made_value_of t.draft p → own ≡ origin_of v.stage) → KeepsPlace t p (begun_stage e own n)
element_keeps t p knows elements.null own n is k v o rs e tries = absurd (let q : ⊥ = cc in q)
element_keeps t p knows (elements.text x) own n is k v o rs e tries = absurd (let q : ⊥ = cc in q)
element_keeps t p knows (elements.host name key attrs es) own n is k v o rs e tries = absurd (let q : ⊥ = cc in q)
element_keeps t p knows (elements.comp c key props es) own n is k v o rs e tries = absurd (let q : ⊥ = cc in q)
element_keeps t p knows (elements.list marked es) own n is k v o rs e tries = absurd (let q : ⊥ = cc in q)
element_keeps t p knows (elements.catcher key f es) own n is k v o rs e tries = absurd (let q : ⊥ = cc in q)
element_keeps t p knows (elements.boundary key f es) own n is k v o rs e tries = is v (sym (ap made_value_in (knows k p v o (taken shapes.none) rs e).list))
element_keeps t p knows (elements.provider c key x es) own n is k v o rs e tries = absurd (let q : ⊥ = cc in q)

-- A fiber is begun over children that wait.
abbrev pub OpensOver : Origin → Trees Fiber → Trees Fiber → ℕ → Begun → Type 0
OpensOver origin t new p b = (h : HasKids origin t new p) × (b ≡ begun_over h.kids)

pub opened_kids : (origin : Origin) (t new : Trees Fiber) (p : ℕ) (stage : Stage) (es : List Element) (os : List (Option ℕ)) (b : Begun) → KeepsPlace t p stage → (old_of t.draft p ≡ None → NoFiber os)
    → HasOpened origin t new p stage es os b → OpensOver origin t new p b
opened_kids origin t new p stage es os b keeps none h = (
  record {
    kids = h.kids;
    value = λ v. record v { stage = stage };
    element = λ v. refl;
    stands = h.stands;
    all = kids_wait t.current origin 0 es os h.kids h.are;
    new = λ e. kids_new t.current origin 0 es os h.kids h.are (none e);
    keeps = keeps;
  },
  h.answer_is,
)

-- so if they are matched with the old ones, and if they are clones of these
pub matched_kids : (t new : Trees Fiber) (p : ℕ) (stage : Stage) (es : List Element) (steady : Bool) (generation : ℕ) (b : Begun) → KeepsPlace t p stage → HasOpened (as_matched steady generation) t new p stage es (matched (OldList t p) es) b
    → OpensOver (as_matched steady generation) t new p b
matched_kids t new p stage es steady generation b keeps h =
    opened_kids (as_matched steady generation) t new p stage es (matched (OldList t p) es) b keeps (λ e. matched_none (OldList t p) es (no_list t p e)) h

pub cloned_kids : (t new : Trees Fiber) (p : ℕ) (stage : Stage) (steady : Bool) (b : Begun) → KeepsPlace t p stage → HasOpened (as_cloned steady) t new p stage (old_elements (OldList t p)) (old_fibers (OldList t p)) b
    → OpensOver (as_cloned steady) t new p b
cloned_kids t new p stage steady b keeps h =
    opened_kids (as_cloned steady) t new p stage (old_elements (OldList t p)) (old_fibers (OldList t p)) b keeps (λ e. cloned_none (OldList t p) (no_list t p e)) h

-- so is what is begun with a mark beside the old fallback, of an error boundary that had caught a value
abbrev pub OldFallback : Trees Fiber → ℕ → Shape Fiber
OldFallback t p = fallback_list (list_from t.current (old_of t.draft p))

no_fallback_list : (t : Trees Fiber) (p : ℕ) → old_of t.draft p ≡ None → OldFallback t p ≡ shapes.none
no_fallback_list t p e = ap (λ o. fallback_list (list_from t.current o)) e

pub matched_caught : (t new : Trees Fiber) (p : ℕ) (m : Mark) (es : List Element) (steady : Bool) (generation : ℕ) (b : Begun) → HasOpened (as_matched steady generation) t new p (begun m) es (matched (OldFallback t p) es) b
    → OpensOver (as_matched steady generation) t new p b
matched_caught t new p m es steady generation b h =
    opened_kids (as_matched steady generation) t new p (begun m) es (matched (OldFallback t p) es) b (marked_keeps t p m) (λ e. matched_none (OldFallback t p) es (no_fallback_list t p e)) h

pub cloned_caught : (t new : Trees Fiber) (p : ℕ) (m : Mark) (steady : Bool) (b : Begun) → HasOpened (as_cloned steady) t new p (begun m) (old_elements (OldFallback t p)) (old_fibers (OldFallback t p)) b
    → OpensOver (as_cloned steady) t new p b
cloned_caught t new p m steady b h =
    opened_kids (as_cloned steady) t new p (begun m) (old_elements (OldFallback t p)) (old_fibers (OldFallback t p)) b (marked_keeps t p m) (λ e. cloned_none (OldFallback t p) (no_fallback_list t p e)) h

-- what has caught a value keeps its fallback if it is given again
caught_keeps : (c : Shape Fiber) (o : Option ℕ) (again : Bool) (catcher : Bool) (x : ℤ) → (if catcher then option_and_then caught_in (mark_at c o) else None) ≡ Some x → again ≡ true → keeps_children again (mark_at c o) ≡ true
caught_keeps c o again false x is so = cc
caught_keeps c o again true x is so = subst (λ b. keeps_children b (mark_at c o) ≡ true) (sym so) (by_mark (mark_at c o) is)
  where
    by_mark : (m : Option Mark) → option_and_then caught_in m ≡ Some x → keeps_children true m ≡ true
    by_mark None f = cc
    by_mark (Some (of_instance i)) f = cc
    by_mark (Some (of_host h)) f = cc
    by_mark (Some (of_boundary b)) f = cc
    by_mark (Some (of_catcher c)) f = refl
    by_mark (Some plain) f = cc

not_again : (again : Bool) (m : Option Mark) → again ≡ false → keeps_children again m ≡ false
not_again true m e = cc
not_again false m e = refl

-- so is what is begun with a mark
pub matched_marked : (t new : Trees Fiber) (p : ℕ) (m : Mark) (es : List Element) (steady : Bool) (generation : ℕ) (b : Begun) → HasOpened (as_matched steady generation) t new p (begun m) es (matched (OldList t p) es) b
    → OpensOver (as_matched steady generation) t new p b
matched_marked t new p m es steady generation b h = matched_kids t new p (begun m) es steady generation b (marked_keeps t p m) h

pub cloned_marked : (t new : Trees Fiber) (p : ℕ) (m : Mark) (steady : Bool) (b : Begun) → HasOpened (as_cloned steady) t new p (begun m) (old_elements (OldList t p)) (old_fibers (OldList t p)) b
    → OpensOver (as_cloned steady) t new p b
cloned_marked t new p m steady b h = cloned_kids t new p (begun m) steady b (marked_keeps t p m) h

-- What is begun over its own children waits for nothing.
over_waits_not : (kids : Draft Fiber) → awaited_again (begun_over kids) ≡ None
over_waits_not (taken s) = refl
over_waits_not (made id v o ks rs) = refl

over_no_body : (kids : Draft Fiber) (r : ℕ) → begun_over kids ≡ Suspended r → ⊥
over_no_body (taken s) r e = let q : ⊥ = cc in q
over_no_body (made id v o ks rs) r e = let q : ⊥ = cc in q

pub opened_waits_not : (origin : Origin) (t new : Trees Fiber) (p : ℕ) (b : Begun) → OpensOver origin t new p b → awaited_again b ≡ None
opened_waits_not origin t new p b h = ap awaited_again h.1 ∙ over_waits_not h.0.kids

pub opened_no_body : (origin : Origin) (t new : Trees Fiber) (p : ℕ) (b : Begun) → OpensOver origin t new p b → (r : ℕ) → b ≡ Suspended r → ⊥
opened_no_body origin t new p b h r e = over_no_body h.0.kids r (sym h.1 ∙ e)

over_no_throw : (kids : Draft Fiber) (x : ℤ) → begun_over kids ≡ Thrown x → ⊥
over_no_throw (taken s) x e = let q : ⊥ = cc in q
over_no_throw (made id v o ks rs) x e = let q : ⊥ = cc in q

pub opened_no_throw : (origin : Origin) (t new : Trees Fiber) (p : ℕ) (b : Begun) → OpensOver origin t new p b → (x : ℤ) → b ≡ Thrown x → ⊥
opened_no_throw origin t new p b h x e = over_no_throw h.0.kids x (sym h.1 ∙ e)

pub opened_takes_not : (origin : Origin) (t new : Trees Fiber) (p : ℕ) (b : Begun) → OpensOver origin t new p b → is_taken b ≡ false
opened_takes_not origin t new p b h = ap is_taken h.1 ∙ begun_anew h.0.kids

-- The place of no component
module _ (scene : Scene) (kept : ℕ → Option (List Hook)) (t : Trees Fiber) (st : Stack) (new : Trees Fiber) (st' : Stack) (p : ℕ) (e : Element) (origin : Origin) (stood again steady : Bool) (generation : ℕ)
    (knows : KnowsPlaces t) (own : (v : Fiber) → Some v ≡ made_value_of t.draft p → origin ≡ origin_of v.stage) where
  -- the stage that it is begun with
  abbrev its_stage : Stage
  its_stage = begun_stage e origin (option_and_then host_number (mark_at t.current (old_of t.draft p)))

  stage_keeps : KeepsPlace t p its_stage
  stage_keeps = element_keeps t p knows e origin (option_and_then host_number (mark_at t.current (old_of t.draft p))) own

  over_clones : (b : Begun) → HasOpened (as_cloned steady) t new p its_stage (old_elements (OldList t p)) (old_fibers (OldList t p)) b → OpensOver (as_cloned steady) t new p b
  over_clones b h = cloned_kids t new p its_stage steady b stage_keeps h

  over_own : (b : Begun) → HasOpened (as_matched steady generation) t new p its_stage (begun_children e) (matched (OldList t p) (begun_children e)) b → OpensOver (as_matched steady generation) t new p b
  over_own b h = matched_kids t new p its_stage (begun_children e) steady generation b stage_keeps h

  -- is begun over clones if its element is given again, and its old node hides nothing, and else over children of this generation
  pub other_kids : (b : Begun) → HasBegunOther scene kept t st new st' p e origin stood again steady generation b → is_opened b ≡ true
      → (c : Origin) × (c.visible ≡ steady) × (c.generation ≡ cond (keeps_children again (mark_at t.current (old_of t.draft p))) 0 generation) × OpensOver c t new p b
  other_kids b (others.begins (others.keeps none h opened stacks)) is = (as_cloned steady, refl, sym (ap (λ k. cond k 0 generation) h), over_clones b opened)
  other_kids b (others.begins (others.opens none not opened stacks)) is = (as_matched steady generation, refl, sym (ap (λ k. cond k 0 generation) not), over_own b opened)
  other_kids b (others.begins (others.keeps_caught {x = x} caught so opened stacks)) is =
      (as_cloned steady, refl, sym (ap (λ k. cond k 0 generation) (caught_keeps t.current (old_of t.draft p) again (is_catcher e) x caught so)), cloned_caught t new p (of_catcher (Caught x)) steady b opened)
  other_kids b (others.begins (others.opens_caught {x = x} caught not opened stacks)) is =
      (as_matched steady generation, refl, sym (ap (λ k. cond k 0 generation) (not_again again (mark_at t.current (old_of t.draft p)) not)), matched_caught t new p (of_catcher (Caught x)) (fallback_in e ∷ []) steady generation b opened)
  other_kids _ (others.hides same too mark waits tried stacks) is = absurd (let q : ⊥ = cc in q)

  -- so it opens over children, or it is a hidden boundary
  begun_over_some : (b : Begun) → HasBegunNode t st new st' p e origin again steady generation b → (c : Origin) × OpensOver c t new p b
  begun_over_some b (others.keeps none h opened stacks) = (as_cloned steady, over_clones b opened)
  begun_over_some b (others.opens none not opened stacks) = (as_matched steady generation, over_own b opened)
  begun_over_some b (others.keeps_caught {x = x} caught so opened stacks) = (as_cloned steady, cloned_caught t new p (of_catcher (Caught x)) steady b opened)
  begun_over_some b (others.opens_caught {x = x} caught not opened stacks) = (as_matched steady generation, matched_caught t new p (of_catcher (Caught x)) (fallback_in e ∷ []) steady generation b opened)

  -- comes to try its children if it waits still
  pub other_tried : (b : Begun) → HasBegunOther scene kept t st new st' p e origin stood again steady generation b → IsSome (awaited_again b) → new ≡ record t { draft = valued p (changed (change.Try origin)) t.draft }
  other_tried b (others.begins h) is = let (c, o) = begun_over_some b h in absurd (is_none (awaited_again b) (opened_waits_not c t new p b o) is)
  other_tried _ (others.hides same too mark waits tried stacks) is = tried

  -- takes nothing over
  pub other_takes_not : (b : Begun) → HasBegunOther scene kept t st new st' p e origin stood again steady generation b → is_taken b ≡ false
  other_takes_not b (others.begins h) = let (c, o) = begun_over_some b h in opened_takes_not c t new p b o
  other_takes_not _ (others.hides same too mark waits tried stacks) = refl

  -- and has no body that waits
  pub other_no_body : (b : Begun) → HasBegunOther scene kept t st new st' p e origin stood again steady generation b → (r : ℕ) → b ≡ Suspended r → ⊥
  other_no_body b (others.begins h) r is = let (c, o) = begun_over_some b h in opened_no_body c t new p b o r is
  other_no_body _ (others.hides same too mark waits tried stacks) r is = let q : ⊥ = cc in q

  -- nor one that throws
  pub other_no_throw : (b : Begun) → HasBegunOther scene kept t st new st' p e origin stood again steady generation b → (x : ℤ) → b ≡ Thrown x → ⊥
  other_no_throw b (others.begins h) x is = let (c, o) = begun_over_some b h in opened_no_throw c t new p b o x is
  other_no_throw _ (others.hides same too mark waits tried stacks) x is = let q : ⊥ = cc in q

-- What an element of no component is begun over waits for nothing.
pub node_waits_not : (t new : Trees Fiber) (st st' : Stack) (p : ℕ) (e : Element) (origin : Origin) (again steady : Bool) (generation : ℕ) (b : Begun) → HasBegunNode t st new st' p e origin again steady generation b → awaited_again b ≡ None
node_waits_not t new st st' p e origin again steady generation b (others.keeps none h o stacks) = ap awaited_again o.answer_is ∙ over_waits_not o.kids
node_waits_not t new st st' p e origin again steady generation b (others.opens none h o stacks) = ap awaited_again o.answer_is ∙ over_waits_not o.kids
node_waits_not t new st st' p e origin again steady generation b (others.keeps_caught caught so o stacks) = ap awaited_again o.answer_is ∙ over_waits_not o.kids
node_waits_not t new st st' p e origin again steady generation b (others.opens_caught caught so o stacks) = ap awaited_again o.answer_is ∙ over_waits_not o.kids
