-- What a render has yet to come to fits the program, unit by unit.
use Rattle.std.specs.Prelude.{◌≡◌, ℕ, zero, suc, Bool, true, false, cond, List, [], ◌∷◌, ◌++◌, ℤ, Option, Some, None, refl}
use Rattle.std.specs.List.{zip}
use Rattle.std.proofs.Common.{subst, sym}
use Rattle.rx_base.specs.Awaits.{Awaits}
use Rattle.rx_base.specs.Awaits as awaits
use Rattle.rx_ast.specs.Syntax.{Component, Program}
use Rattle.rx_rules.specs.Names.{component_at}
use Rattle.rx_check.specs.Checks.{is_rooted, unknowns}
use Rattle.rx_elem.specs.Elements.{Element, Elements, gathered, listed}
use Rattle.rx_elem.specs.Elements as elements
use Rattle.rx_catch.specs.declared.state.CatchState.TheVariants.{Caught}
use Rattle.rx_elem.specs.Trees.{Node, of_catcher, old_caught}
use Rattle.rx_meaning.specs.Body.{Body, body_of, ready, throw, wait}
use Rattle.rx_meaning.specs.Fresh.{Contexts, Part, Shape, Sight, absent, guarded, inputs_at, old_instance, one_list, shape_of, shape_of_body, shape_of_catcher, shape_of_component, throwing, two_lists, waiting}
use Rattle.rx_meaning.specs.Touched.{children_with_old}
use Rattle.rx_meaning.specs.Cursor.{Cursor, Frame, Open, around, arrive, at_end, at_place, begin, come_to, ended, falling, finished, guarding, is_null, open_part, past, past_throw, start, trying, unit, unwind, unwind_throw}
use Rattle.rx_meaning.proofs.Depths.{gathered-listed}
use Rattle.draw_laws.specs.Drawn.{AreDrawn, IsDrawn}
use Rattle.draw_laws.specs.Cursors.{CursorDrawn, FramesDrawn, OpenDrawn, PairsDrawn, PartDrawn}
use Rattle.draw_laws.proofs.Known.{root_fits}
use Rattle.draw_laws.proofs.Bodies.{body_drawn}

-- the children that an element is given fit as a list
pub listed_drawn : (p : Program) (es : Elements) → AreDrawn p es → AreDrawn p (gathered (listed es))
listed_drawn p es h = subst (AreDrawn p) (sym (gathered-listed es)) h

module _ (p : Program) where
  zip_drawn : (es : List Element) (olds : List (Option Node)) → AreDrawn p (gathered es) → PairsDrawn p (zip es olds)
  zip_drawn [] olds h = tt
  zip_drawn (e ∷ es) [] h = tt
  zip_drawn (e ∷ es) (o ∷ olds) h = (h.0, zip_drawn es olds h.1)

  come_drawn : (n : ℕ) (fs : List Frame) (o : Open) (cs : Contexts) (done : List (Option Node)) (xs : List (Element × Option Node))
      → PairsDrawn p xs → OpenDrawn p o → FramesDrawn p fs → CursorDrawn p (come_to n fs o cs done xs)
  come_drawn n fs o cs done [] h k l = (k, l)
  come_drawn n fs o cs done (x ∷ xs) h k l = go (is_null x.0) (come_drawn n fs o cs (done ++ None ∷ []) xs h.1 k l)
    where
      go : (b : Bool) → CursorDrawn p (come_to n fs o cs (done ++ None ∷ []) xs)
          → CursorDrawn p (cond b (come_to n fs o cs (done ++ None ∷ []) xs) (at_place n ((record { node = o; contexts = cs; done = done; rest = xs }) ∷ fs) cs x.0 x.1))
      go true i = i
      go false i = (h.0, (k, h.1, l))

  open_drawn : (n : ℕ) (fs : List Frame) (o : Open) (q : Part) → PartDrawn p q → OpenDrawn p o → FramesDrawn p fs → CursorDrawn p (open_part n fs o q)
  open_drawn n fs o q h k l = come_drawn n fs o q.contexts [] (children_with_old q) (zip_drawn q.elements _ h) k l

  pub arrive_drawn : (n : ℕ) (fs : List Frame) (m : Option Node) → FramesDrawn p fs → CursorDrawn p (arrive n fs m)
  arrive_drawn n [] m h = tt
  arrive_drawn n (f ∷ fs) m h = come_drawn n fs f.node f.contexts (f.done ++ m ∷ []) f.rest h.1 h.0 h.2

  past_drawn : (n : ℕ) (fs : List Frame) (o : Open) (a : Awaits) → OpenDrawn p o → FramesDrawn p fs → ((b : Awaits) → CursorDrawn p (unwind (suc n) fs b))
      → CursorDrawn p (past o a (unwind (suc n) fs) (open_part n fs))
  past_drawn n fs (around e m) a h k out = out a
  past_drawn n fs (trying e old f) a h k out = open_drawn n fs (falling e old a) f h.1 h.0 k
  past_drawn n fs (falling e old b) a h k out = out (awaits.union b a)
  past_drawn n fs (guarding e f) a h k out = out a

  unwind_drawn : (n : ℕ) (fs : List Frame) (a : Awaits) → FramesDrawn p fs → CursorDrawn p (unwind n fs a)
  unwind_drawn n [] a h = tt
  unwind_drawn n (f ∷ fs) a h = past_drawn n fs f.node a h.0 h.2 (λ b. unwind_drawn (suc n) fs b h.2)

  past_throw_drawn : (n : ℕ) (fs : List Frame) (o : Open) (x : ℤ) → OpenDrawn p o → FramesDrawn p fs → CursorDrawn p (unwind_throw (suc n) fs x)
      → CursorDrawn p (past_throw o x (unwind_throw (suc n) fs x) (open_part n fs))
  past_throw_drawn n fs (around e m) x h k out = out
  past_throw_drawn n fs (trying e old f) x h k out = out
  past_throw_drawn n fs (falling e old a) x h k out = out
  past_throw_drawn n fs (guarding e f) x h k out = open_drawn n fs (around e (of_catcher (Caught x))) f h.1 h.0 k

  unwind_throw_drawn : (n : ℕ) (fs : List Frame) (x : ℤ) → FramesDrawn p fs → CursorDrawn p (unwind_throw n fs x)
  unwind_throw_drawn n [] x h = tt
  unwind_throw_drawn n (f ∷ fs) x h = past_throw_drawn n fs f.node x h.0 h.2 (unwind_throw_drawn (suc n) fs x h.2)

-- the children of what stands in a place fit
abbrev ShapeDrawn : Program → Shape → Type 0
ShapeDrawn p absent = Unit {0}
ShapeDrawn p (waiting r v) = Unit {0}
ShapeDrawn p (throwing x) = Unit {0}
ShapeDrawn p (one_list m q) = PartDrawn p q
ShapeDrawn p (two_lists q f) = PartDrawn p q × PartDrawn p f
ShapeDrawn p (guarded q f) = PartDrawn p q × PartDrawn p f

begin_drawn : (p : Program) (n : ℕ) (fs : List Frame) (e : Element) (old : Option Node) (shape : Shape) → IsDrawn p e → ShapeDrawn p shape → FramesDrawn p fs
    → CursorDrawn p (begin n fs e old shape)
begin_drawn p n fs e old absent h k l = arrive_drawn p (suc n) fs None l
begin_drawn p n fs e old (waiting r v) h k l = unwind_drawn p (suc n) fs (awaits.one r) l
begin_drawn p n fs e old (throwing x) h k l = unwind_throw_drawn p (suc n) fs x l
begin_drawn p n fs e old (one_list m q) h k l = open_drawn p n fs (around e m) q k h l
begin_drawn p n fs e old (two_lists q f) h k l = open_drawn p n fs (trying e old f) q k.0 (h, k.1) l
begin_drawn p n fs e old (guarded q f) h k l = open_drawn p n fs (guarding e f) q k.0 (h, k.1) l

module _ (s : Sight) (known : unknowns s.program ≡ []) where
  ready_drawn : (cs : Contexts) (c : ℕ) (d : Component) (props : List ℤ) (given : Elements) (old : Option Node) → component_at s.program c ≡ Some d → AreDrawn s.program given
      → (b : Body) → body_of s.program d (inputs_at s cs props given (old_instance old)) ≡ b → ShapeDrawn s.program (shape_of_body cs c old b)
  ready_drawn cs c d props given old at h (wait r v) same = tt
  ready_drawn cs c d props given old at h (throw x) same = tt
  ready_drawn cs c d props given old at h (ready es effects initials reads versions) same =
      body_drawn s.program c d (inputs_at s cs props given (old_instance old)) es effects initials reads versions known at (listed_drawn s.program given h) same

  component_drawn : (cs : Contexts) (c : ℕ) (props : List ℤ) (given : Elements) (old : Option Node) → AreDrawn s.program given
      → (o : Option Component) → component_at s.program c ≡ o → ShapeDrawn s.program (shape_of_component s cs c props given old o)
  component_drawn cs c props given old h None at = tt
  component_drawn cs c props given old h (Some d) at =
      ready_drawn cs c d props given old at h (body_of s.program d (inputs_at s cs props given (old_instance old))) refl

  catcher_drawn : (cs : Contexts) (f : Element) (es : Elements) (old : Option Node) → IsDrawn s.program f → AreDrawn s.program es → (caught : Option ℤ)
      → ShapeDrawn s.program (shape_of_catcher cs f es old caught)
  catcher_drawn cs f es old h k None = (listed_drawn s.program es k, (h, tt))
  catcher_drawn cs f es old h k (Some x) = (h, tt)

  shape_drawn : (cs : Contexts) (e : Element) (old : Option Node) → IsDrawn s.program e → ShapeDrawn s.program (shape_of s cs e old)
  shape_drawn cs elements.null old h = tt
  shape_drawn cs (elements.text t) old h = tt
  shape_drawn cs (elements.host name key attrs es) old h = listed_drawn s.program es h
  shape_drawn cs (elements.comp c key props given) old h = component_drawn cs c props given old h.1 (component_at s.program c) refl
  shape_drawn cs (elements.list marked es) old h = listed_drawn s.program es h
  shape_drawn cs (elements.boundary key f es) old h = (listed_drawn s.program es h.1, (h.0, tt))
  shape_drawn cs (elements.catcher key f es) old h = catcher_drawn cs f es old h.0 h.1 (old_caught old)
  shape_drawn cs (elements.provider c key x es) old h = listed_drawn s.program es h.1

  -- a unit comes to what fits
  pub unit_drawn : (c : Cursor) → CursorDrawn s.program c → CursorDrawn s.program (unit s c)
  unfolding unit
  unit_drawn (at_place zero fs cs e old) h = arrive_drawn s.program zero fs None h.1
  unit_drawn (at_place (suc n) fs cs e old) h = begin_drawn s.program n fs e old (shape_of s cs e old) h.0 (shape_drawn cs e old h.0) h.1
  unit_drawn (at_end n fs o done) h = arrive_drawn s.program n fs (Some (finished o done)) h.1
  unit_drawn (ended p) h = tt

  -- so does an attempt that is skipped
  pub attempt_drawn : (n : ℕ) (fs : List Frame) (cs : Contexts) (e : Element) (o : Option Node) (q f : Part) (a : Awaits) → shape_of s cs e o ≡ two_lists q f
      → CursorDrawn s.program (at_place (suc n) fs cs e o) → CursorDrawn s.program (open_part n fs (falling e o a) f)
  attempt_drawn n fs cs e o q f a shape h =
      let parts : ShapeDrawn s.program (two_lists q f) = rw shape at (shape_drawn cs e o h.0) in
      open_drawn s.program n fs (falling e o a) f parts.1 h.0 h.1

pub start_drawn : (s : Sight) (old : Option Node) → is_rooted s.program ≡ true → CursorDrawn s.program (start s old)
unfolding start
start_drawn s old h = (root_fits s.program h, tt)
