-- The walk outwards follows the wait of the cursor.
use Rattle.std.specs.Prelude.{◌≡◌, ℕ, suc, ◌<◌, true, false, List, [], ◌∷◌, Some, None}
use Rattle.std.proofs.Common.{refl, sym, ap, ◌∙◌, subst, arith}
use Rattle.rx_base.specs.Awaits.{Awaits}
use Rattle.rx_ctx.specs.Contexts.{Stack, moves_by}
use Rattle.rx_elem.specs.Elements.{Element}
use Rattle.rx_links.specs.Drafts.{Draft, Trees, Makes, Fits}
use Rattle.rx_links.specs.Readers.{made_parent_of, made_value_of}
use Rattle.rx_meaning.specs.Fresh.{waits}
use Rattle.rx_meaning.specs.Cursor.{Frame, ended, unwind}
use Rattle.rx_fiber.specs.Fibers.{Fiber}
use Rattle.rx_fiber.specs.Stood.{gave, given_in}
use Rattle.rx_fiber.specs.Surround.{moves_along}
use Rattle.rx_fiber.specs.Standing.{IsStack, opened}
use Rattle.rx_fiber.specs.Unwound.{IsWithin, is_trying, passed_on, IsLeftAt}
use Rattle.rx_fiber.proofs.Unwinding.{Outside, outside, at_top, depth}
use Rattle.rx_complete.specs.Ends.{IsOpenBelow, lies}
use Rattle.rx_complete.proofs.Completed.{KnowsPlaces, Leaves}
use Rattle.rx_complete.proofs.Depths.{depth_of, depth_is}

-- The wait outside of `at` has come to `here`: it is the same from there.
abbrev pub Reaches : Trees Fiber → Stack → ℕ → Awaits → Stack → ℕ → Awaits → Type 0
Reaches t st at a new here b =
    (levels : ℕ) (fs : List Frame) → IsWithin t st at fs
    → (more : ℕ) × (outer : List Frame) × IsWithin t new here outer × (unwind levels fs a ≡ unwind more outer b)

pub here_below : (t : Trees Fiber) (st new : Stack) (at here : ℕ) (a b : Awaits) → Reaches t st at a new here b → IsOpenBelow t st at → IsOpenBelow t new here
here_below t st new at here a b f (lies {fs = fs} w) = let (more, outer, v, e) = f 0 fs w in lies v

pub made_below : (t : Trees Fiber) (st : Stack) (p : ℕ) → KnowsPlaces t → IsOpenBelow t st p → Makes t.draft p
made_below t st p knows (lies w) = (knows w.around p w.value w.old w.kids w.rest w.here).makes

module _ (t : Trees Fiber) (knows : KnowsPlaces t) (st : Stack) (p : ℕ) where
  -- what is right outside of a fiber whose parent is q
  pub record Above (q : ℕ) (fs : List Frame) : Type 0 where
    pub frame : Frame
    pub frames : List Frame
    pub are : fs ≡ frame ∷ frames
    pub is : Outside t st p frame frames
    pub same : is.id ≡ q
    pub stack : IsStack st (opened (frame ∷ frames))

  pub above : (q : ℕ) (fs : List Frame) → IsWithin t st p fs → made_parent_of t.draft p ≡ Some q → Above q fs
  above q [] w e =
      let a = (knows w.around p w.value w.old w.kids w.rest w.here).parent in
      let b = at_top t st p w in
      absurd (let h : ⊥ = cc in h)
  above q (f ∷ fs) w e =
      let o = outside t st p f fs w in
      let a = (knows o.inner p o.first o.first_old o.first_kids o.first_rest o.starts).parent in
      let b = o.parent in
      record { frame = f; frames = fs; are = refl; is = o; same = (let h : o.id ≡ q = cc in h); stack = w.stack }

  pub no_more : (levels : ℕ) (fs : List Frame) (a : Awaits) → IsWithin t st p fs → made_parent_of t.draft p ≡ None → unwind levels fs a ≡ ended (waits a)
  no_more levels [] a w e = refl
  no_more levels (f ∷ fs) a w e =
      let o = outside t st p f fs w in
      let x = (knows o.inner p o.first o.first_old o.first_kids o.first_rest o.starts).parent in
      let y = o.parent in
      absurd (let h : ⊥ = cc in h)

  module _ (q : ℕ) (fs : List Frame) (n : Above q fs) where
    outer_makes : Makes t.draft q
    outer_makes = let o = n.is in subst (λ i. Makes t.draft i) n.same (knows o.around o.id o.value o.old o.kids o.rest o.here).makes

    pub outer_value : (v : Fiber) → Some v ≡ made_value_of t.draft q → v ≡ n.is.value
    outer_value v e =
        let o = n.is in
        let l = (knows o.around o.id o.value o.old o.kids o.rest o.here).list in
        let f : Some v ≡ made_value_of t.draft o.id = subst (λ i. Some v ≡ made_value_of t.draft i) (sym n.same) e in
        let m : Some v ≡ Some o.value = rw l at f in
        cc

    -- the wait goes past it
    goes_past : (new : Stack) (v : Fiber) (e : Element) (levels : ℕ) (a : Awaits) → Some v ≡ made_value_of t.draft q → is_trying v.stage ≡ false → e ≡ v.element → Leaves e st new
        → (more : ℕ) × (outer : List Frame) × IsWithin t new q outer × (unwind levels fs a ≡ unwind more outer (passed_on v.stage a))
    goes_past new v e levels a value out element leaves =
        let o = n.is in
        let same = outer_value v value in (
          suc levels,
          n.frames,
          subst (λ i. IsWithin t new i n.frames) n.same (o.within new (leaves.0 n.frame.node n.frame.contexts (opened n.frames) (element ∙ (ap (λ u. u.element) same ∙ o.element)) n.stack)
              (leaves.1 (gave t.current o.old) (moves_along t.current o.around)
              (subst (λ y. st.moves ≡ moves_by (given_in y) (gave t.current o.old) (moves_along t.current o.around)) (sym (element ∙ ap (λ u. u.element) same)) o.moves))),
          ap (λ l. unwind levels l a) n.are
              ∙ (o.outwards (subst (λ u. is_trying u.stage ≡ false) same out) levels a ∙ ap (λ u. unwind (suc levels) n.frames (passed_on u.stage a)) (sym same)),
        )

    -- the wait stops there
    stops : (v : Fiber) (levels : ℕ) (a : Awaits) → Some v ≡ made_value_of t.draft q → is_trying v.stage ≡ true → (kids : Draft Fiber) × IsLeftAt t st q kids a (unwind levels fs a)
    stops v levels a value in_it =
        let o = n.is in
        let same = outer_value v value in (
          o.kids,
          subst (λ i. IsLeftAt t st i o.kids a (unwind levels fs a)) n.same
              (subst (λ l. IsLeftAt t st o.id o.kids a (unwind levels l a)) (sym n.are)
              (o.left (subst (λ u. is_trying u.stage ≡ true) same in_it) t o.kids levels a refl o.here)),
        )

    nearer : Fits t → depth_of t.draft q < depth_of t.draft p
    nearer fits =
        let o = n.is in
        let a : depth_of t.draft p ≡ depth o.inner = depth_is t fits o.inner p o.first o.first_old o.first_kids o.first_rest o.starts in
        let b : depth_of t.draft q ≡ depth o.around = subst (λ i. depth_of t.draft i ≡ depth o.around) n.same (depth_is t fits o.around o.id o.value o.old o.kids o.rest o.here) in
        let c : depth o.inner ≡ suc (depth o.around) = o.deeper in
        omega arith

-- The walk

pub outer_made : (t : Trees Fiber) (st : Stack) (p q : ℕ) → KnowsPlaces t → IsOpenBelow t st p → made_parent_of t.draft p ≡ Some q → Makes t.draft q
outer_made t st p q knows (lies {fs = fs} w) e = outer_makes t knows st p q fs (above t knows st p q fs w e)

pub outer_nearer : (t : Trees Fiber) (st : Stack) (p q : ℕ) → KnowsPlaces t → Fits t → IsOpenBelow t st p → made_parent_of t.draft p ≡ Some q → depth_of t.draft q < depth_of t.draft p
outer_nearer t st p q knows fits (lies {fs = fs} w) e = nearer t knows st p q fs (above t knows st p q fs w e) fits

module _ (t : Trees Fiber) (knows : KnowsPlaces t) (st₀ st : Stack) (at here : ℕ) (a₀ a : Awaits) (reaches : Reaches t st₀ at a₀ st here a) where
  pub goes_on : (new : Stack) (q : ℕ) (v : Fiber) (e : Element) (b : Awaits) → made_parent_of t.draft here ≡ Some q → Some v ≡ made_value_of t.draft q → is_trying v.stage ≡ false
      → e ≡ v.element → Leaves e st new → b ≡ passed_on v.stage a → Reaches t st₀ at a₀ new q b
  goes_on new q v e b parent value out element leaves passed levels fs w =
      let (more, outer, x, same) = reaches levels fs w in
      let (most, last, y, too) = goes_past t knows st here q outer (above t knows st here q outer x parent) new v e more a value out element leaves in
      (most, last, y, same ∙ (too ∙ ap (unwind most last) (sym passed)))

  pub stops_at : (q : ℕ) (v : Fiber) → made_parent_of t.draft here ≡ Some q → Some v ≡ made_value_of t.draft q → is_trying v.stage ≡ true
      → (levels : ℕ) (fs : List Frame) → IsWithin t st₀ at fs → (kids : Draft Fiber) × IsLeftAt t st q kids a (unwind levels fs a₀)
  stops_at q v parent value in_it levels fs w =
      let (more, outer, x, same) = reaches levels fs w in
      let (kids, left) = stops t knows st here q outer (above t knows st here q outer x parent) v more a value in_it in
      (kids, subst (λ c. IsLeftAt t st q kids a c) (sym same) left)

  pub ends_at : made_parent_of t.draft here ≡ None → (levels : ℕ) (fs : List Frame) → IsWithin t st₀ at fs → unwind levels fs a₀ ≡ ended (waits a)
  ends_at parent levels fs w =
      let (more, outer, x, same) = reaches levels fs w in
      same ∙ no_more t knows st here more outer a x parent

-- the boundary that was found is made
pub found_made : (t : Trees Fiber) (st new : Stack) (at q : ℕ) (a b : Awaits) → KnowsPlaces t → IsOpenBelow t st at
    → ((levels : ℕ) (fs : List Frame) → IsWithin t st at fs → (kids : Draft Fiber) × IsLeftAt t new q kids b (unwind levels fs a)) → Makes t.draft q
found_made t st new at q a b knows (lies {fs = fs} w) f =
    let (kids, l) = f 0 fs w in (knows l.around q l.value l.old kids l.rest l.here).makes
