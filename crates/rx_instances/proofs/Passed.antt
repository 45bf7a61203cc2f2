-- What a fiber keeps tells if nothing is at or below it: no instance, or no hidden boundary.
use Rattle.std.proofs.Common.{◌≡◌, ℕ, ◌+◌, Bool, true, false, not, ◌&&◌, ◌||◌, [], ◌++◌, Option, Some, None, is_some, refl, sym, ap, ◌∙◌, subst}
use Rattle.rx_base.specs.Values.{Name}
use Rattle.rx_base.specs.Awaits.{has}
use Rattle.rx_ast.specs.Syntax.{Program}
use Rattle.rx_susp.specs.declared.boundary.BoundaryState.TheVariants.{Shown, Hidden}
use Rattle.rx_elem.specs.Spots.{Around}
use Rattle.rx_elem.specs.Trees.{Instance, Mark, awaits_in, instance_in, is_hidden, of_boundary, of_catcher, of_host, of_instance, plain}
use Rattle.rx_lists.specs.Shapes.{Shape, Holds, none, fiber}
use Rattle.rx_links.specs.Drafts.{kids_of}
use Rattle.rx_links.specs.Readers.{IsLinked, list_from, rest_of, value_of}
use Rattle.rx_fiber.specs.declared.subtree.Subtree.{Subtree}
use Rattle.rx_fiber.specs.Fibers.{Fiber, Stage, waiting, begun, trying, guarding, fallback, own_subtree}
use Rattle.rx_fiber.specs.OldLists.{begins_fallback}
use Rattle.rx_fiber.specs.Subtrees.{IsGathered, IsGatheredOver, subtrees_of}
use Rattle.rx_fiber.proofs.Gathered.{gathered_over}
use Rattle.rx_instances.specs.AwaitedFibers.{stage_awaits, waits_first, waits_list}
use Rattle.rx_instances.specs.CountedFibers.{counted_first, counted_list, stage_count}
use Rattle.rx_instances.specs.MountedFibers.{around_kids, mounted_first, mounted_from, own_mounted}
use Rattle.rx_instances.specs.NearFibers.{instance_at, itself_named, near_fibers, near_first}

neither : (a b : Bool) → (a || b) ≡ false → (a ≡ false) × (b ≡ false)
neither true b h = absurd (cc h)
neither false b h = (refl, h)

-- ---- what a fiber tells of itself

none_there : (o : Option Instance) → is_some o ≡ false → o ≡ None
none_there None h = refl
none_there (Some i) h = absurd (cc h)

-- one that tells of no instance is of none
no_instance : (s : Stage) → (own_subtree s).instances ≡ false → instance_at s ≡ None
no_instance (waiting c) h = refl
no_instance (begun m) h = none_there (instance_in m) h
no_instance (trying c) h = refl
no_instance guarding h = refl
no_instance (fallback a) h = refl

-- one that tells of no hidden boundary is not counted when these are,
no_hidden : (s : Stage) → (own_subtree s).hides ≡ false → stage_count true s ≡ 0
no_hidden (waiting c) h = refl
no_hidden (begun m) h = rw h refl
no_hidden (trying c) h = refl
no_hidden guarding h = refl
no_hidden (fallback a) h = refl

shown_awaits : (m : Mark) (r : ℕ) → is_hidden m ≡ false → has (awaits_in m) r ≡ false
shown_awaits (of_instance i) r h = refl
shown_awaits (of_host n) r h = refl
shown_awaits (of_boundary Shown) r h = refl
shown_awaits (of_boundary (Hidden waits)) r h = absurd (cc h)
shown_awaits (of_catcher c) r h = refl
shown_awaits plain r h = refl

-- and waits for nothing
no_awaits : (s : Stage) (r : ℕ) → (own_subtree s).hides ≡ false → has (stage_awaits s) r ≡ false
no_awaits (waiting c) r h = refl
no_awaits (begun m) r h = shown_awaits m r h
no_awaits (trying c) r h = refl
no_awaits guarding r h = refl
no_awaits (fallback a) r h = refl

-- ---- what it keeps tells of itself and of its children

none_over : (v : Fiber) (ks : Shape Fiber) → IsGatheredOver v ks → v.subtree.instances ≡ false → (instance_at v.stage ≡ None) × ((subtrees_of ks).instances ≡ false)
none_over v ks g f =
    let own = neither (own_subtree v.stage).instances (subtrees_of ks).instances (subst (λ (x : Subtree). x.instances ≡ false) g.0 f) in
    (no_instance v.stage own.0, own.1)

shown_over : (v : Fiber) (ks : Shape Fiber) → IsGatheredOver v ks → v.subtree.hides ≡ false → ((own_subtree v.stage).hides ≡ false) × ((subtrees_of ks).hides ≡ false)
shown_over v ks g f = neither (own_subtree v.stage).hides (subtrees_of ks).hides (subst (λ (x : Subtree). x.hides ≡ false) g.0 f)

-- so no instance is near in a list that tells of none
no_near : (p : Program) (name : Name) (s : Shape Fiber) → IsGathered s → (subtrees_of s).instances ≡ false → near_fibers p name s ≡ []
no_near p name none g f = refl
no_near p name (fiber id v ks rs) g f =
    let both = neither v.subtree.instances (subtrees_of rs).instances f in
    let own = none_over v ks (g.0, g.1) both.0 in
    λ i. itself_named p name id (own.0 i) (no_near p name ks g.1 own.1 i) ++ no_near p name rs g.2 both.1 i

-- and none is mounted
no_mounted : (a : Around) (s : Shape Fiber) → IsGathered s → (subtrees_of s).instances ≡ false → mounted_from a s ≡ []
no_mounted a none g f = refl
no_mounted a (fiber id v ks rs) g f =
    let both = neither v.subtree.instances (subtrees_of rs).instances f in
    let own = none_over v ks (g.0, g.1) both.0 in
    λ i. own_mounted a (own.0 i) ++ (no_mounted (around_kids a v.stage (begins_fallback rs)) ks g.1 own.1 i ++ no_mounted a rs g.2 both.1 i)

-- no hidden boundary is counted in a list that tells of none
no_counted : (s : Shape Fiber) → IsGathered s → (subtrees_of s).hides ≡ false → counted_list true s ≡ 0
no_counted none g f = refl
no_counted (fiber id v ks rs) g f =
    let both = neither v.subtree.hides (subtrees_of rs).hides f in
    let own = shown_over v ks (g.0, g.1) both.0 in
    λ i. (no_hidden v.stage own.0 i + no_counted ks g.1 own.1 i) + no_counted rs g.2 both.1 i

and_false : (b : Bool) → (b && false) ≡ false
and_false true = refl
and_false false = refl

-- and none waits
no_waits : (r : ℕ) (s : Shape Fiber) → IsGathered s → (subtrees_of s).hides ≡ false → waits_list s r ≡ false
no_waits r none g f = refl
no_waits r (fiber id v ks rs) g f =
    let both = neither v.subtree.hides (subtrees_of rs).hides f in
    let own = shown_over v ks (g.0, g.1) both.0 in
    (λ i. (no_awaits v.stage r own.0 i || (not (begins_fallback rs) && no_waits r ks g.1 own.1 i)) || no_waits r rs g.2 both.1 i)
    ∙ ap (λ b. b || false) (and_false (not (begins_fallback rs)))

-- ---- a fiber that is passed

-- it tells of none
pub untold : (a b : Bool) → a ≡ b → not a ≡ true → b ≡ false
untold true b e h = absurd (cc h)
untold false b e h = sym e

-- the list that begins with a current fiber
pub list_here : (c : Shape Fiber) → IsLinked c → (i : ℕ) → Holds c i → (v : Fiber) → Some v ≡ value_of c i → list_from c (Some i) ≡ fiber i v (kids_of c i) (rest_of c i)
list_here c linked i held v here =
    let (w, is, list) = linked.list i held in
    let same : w ≡ v = (let q : Some w ≡ Some v = sym is ∙ sym here in cc) in
    list ∙ ap (λ (u : Fiber). fiber i u (kids_of c i) (rest_of c i)) same

module _ (c : Shape Fiber) (linked : IsLinked c) (gathered : IsGathered c) (i : ℕ) (held : Holds c i) (v : Fiber) (here : Some v ≡ value_of c i) where
  over : IsGatheredOver v (kids_of c i)
  over = gathered_over c linked i held gathered v (sym here)

  -- no instance is near at it or below,
  pub passed_near : (p : Program) (name : Name) → v.subtree.instances ≡ false → near_first p name (list_from c (Some i)) ≡ []
  passed_near p name f =
      let own = none_over v (kids_of c i) over f in
      ap (near_first p name) (list_here c linked i held v here) ∙ (λ j. itself_named p name i (own.0 j) (no_near p name (kids_of c i) over.1 own.1 j))

  -- and none is mounted
  pub passed_mounted : (a : Around) → v.subtree.instances ≡ false → mounted_first a (list_from c (Some i)) ≡ []
  passed_mounted a f =
      let own = none_over v (kids_of c i) over f in
      ap (mounted_first a) (list_here c linked i held v here)
      ∙ (λ j. own_mounted a (own.0 j) ++ no_mounted (around_kids a v.stage (begins_fallback (rest_of c i))) (kids_of c i) over.1 own.1 j)

  -- no hidden boundary is counted,
  pub passed_counted : v.subtree.hides ≡ false → counted_first true (list_from c (Some i)) ≡ 0
  passed_counted f =
      let own = shown_over v (kids_of c i) over f in
      ap (counted_first true) (list_here c linked i held v here) ∙ (λ j. no_hidden v.stage own.0 j + no_counted (kids_of c i) over.1 own.1 j)

  -- and none waits
  pub passed_waits : v.subtree.hides ≡ false → (r : ℕ) → waits_first (list_from c (Some i)) r ≡ false
  passed_waits f r =
      let own = shown_over v (kids_of c i) over f in
      ap (λ (s : Shape Fiber). waits_first s r) (list_here c linked i held v here)
      ∙ (λ j. no_awaits v.stage r own.0 j || (not (begins_fallback (rest_of c i)) && no_waits r (kids_of c i) over.1 own.1 j))
      ∙ and_false (not (begins_fallback (rest_of c i)))
