-- Each place that a render comes to has the values that the providers around it give, and one for each context.
use Rattle.std.specs.Prelude.{◌≡◌, ℕ, zero, suc, Bool, true, false, cond, List, [], ◌∷◌, ◌++◌, ℤ, Option, Some, None, length, slice_set, refl}
use Rattle.std.proofs.Common.{◌∙◌, ap, sym}
use Rattle.std.proofs.lemmas.List.{length-map, length-set}
use Rattle.rx_base.specs.Awaits.{Awaits}
use Rattle.rx_base.specs.Awaits as awaits
use Rattle.rx_ast.specs.Syntax.{Component, Program, contexts}
use Rattle.rx_rules.specs.Names.{component_at}
use Rattle.rx_elem.specs.Elements.{Element, Elements}
use Rattle.rx_elem.specs.Elements as elements
use Rattle.rx_elem.specs.Trees.{Node, of_catcher, old_caught}
use Rattle.rx_catch.specs.declared.state.CatchState.TheVariants.{Caught}
use Rattle.rx_meaning.specs.Body.{body_of, Body, wait, throw, ready}
use Rattle.rx_meaning.specs.Fresh.{Sight, Contexts, default_contexts, default_of, Part, Shape, absent, waiting, throwing, one_list, two_lists, guarded, shape_of, shape_of_component, shape_of_body, shape_of_catcher, inputs_at, old_instance}
use Rattle.rx_meaning.specs.Touched.{children_with_old}
use Rattle.rx_meaning.specs.Cursor.{is_null, Open, around, trying, falling, guarding, Frame, Cursor, at_place, at_end, ended, come_to, open_part, arrive, past, past_throw, unwind, unwind_throw, begin, finished, unit, start}
use Rattle.rx_fiber.specs.Stood.{given_in, one_more, given_more}
use Rattle.rx_fiber.specs.Surround.{open_element, given_along}
use Rattle.rx_render.specs.GivenContexts.{given_contexts, OpenGiven, FramesGiven, CursorGiven}

module _ (base : Contexts) where
  come_given : (levels : ℕ) (fs : List Frame) (o : Open) (cs : Contexts) (done : List (Option Node)) (xs : List (Element × Option Node))
      → cs ≡ given_contexts base (given_more (open_element o) (given_along fs)) → OpenGiven base o (given_along fs) → FramesGiven base fs → CursorGiven base (come_to levels fs o cs done xs)
  come_given levels fs o cs done [] h k l = l
  come_given levels fs o cs done (x ∷ xs) h k l = go (is_null x.0) (come_given levels fs o cs (done ++ None ∷ []) xs h k l)
    where
      go : (b : Bool) → CursorGiven base (come_to levels fs o cs (done ++ None ∷ []) xs)
          → CursorGiven base (cond b (come_to levels fs o cs (done ++ None ∷ []) xs) (at_place levels ((record { node = o; contexts = cs; done = done; rest = xs }) ∷ fs) cs x.0 x.1))
      go true i = i
      go false i = (h, (h, k, l))

  open_given : (levels : ℕ) (fs : List Frame) (o : Open) (p : Part) → p.contexts ≡ given_contexts base (given_more (open_element o) (given_along fs)) → OpenGiven base o (given_along fs)
      → FramesGiven base fs → CursorGiven base (open_part levels fs o p)
  open_given levels fs o p h k l = come_given levels fs o p.contexts [] (children_with_old p) h k l

  -- what gives nothing leaves the values that are given around it
  unchanged : (e : Element) (ws : List (ℕ × ℤ)) (cs : Contexts) → given_in e ≡ None → cs ≡ given_contexts base ws → cs ≡ given_contexts base (given_more e ws)
  unchanged e ws cs none h = h ∙ ap (λ o. given_contexts base (one_more o ws)) (sym none)

  -- a place that is done
  pub arrive_given : (levels : ℕ) (fs : List Frame) (m : Option Node) → FramesGiven base fs → CursorGiven base (arrive levels fs m)
  arrive_given levels [] m h = tt
  arrive_given levels (f ∷ fs) m h = come_given levels fs f.node f.contexts (f.done ++ m ∷ []) f.rest h.0 h.1 h.2

  -- the fallback of a boundary
  falling_given : (levels : ℕ) (fs : List Frame) (e : Element) (old : Option Node) (a : Awaits) (f : Part) → given_in e ≡ None → f.contexts ≡ given_contexts base (given_along fs)
      → FramesGiven base fs → CursorGiven base (open_part levels fs (falling e old a) f)
  falling_given levels fs e old a f none h l = open_given levels fs (falling e old a) f (unchanged e (given_along fs) f.contexts none h) tt l

  past_given : (levels : ℕ) (fs : List Frame) (o : Open) (a : Awaits) → OpenGiven base o (given_along fs) → FramesGiven base fs → ((b : Awaits) → CursorGiven base (unwind (suc levels) fs b))
      → CursorGiven base (past o a (unwind (suc levels) fs) (open_part levels fs))
  past_given levels fs (around e m) a h k out = out a
  past_given levels fs (trying e old f) a h k out = falling_given levels fs e old a f h.0 h.1 k
  past_given levels fs (falling e old b) a h k out = out (awaits.union b a)
  past_given levels fs (guarding e f) a h k out = out a

  unwind_given : (levels : ℕ) (fs : List Frame) (a : Awaits) → FramesGiven base fs → CursorGiven base (unwind levels fs a)
  unwind_given levels [] a h = tt
  unwind_given levels (f ∷ fs) a h = past_given levels fs f.node a h.1 h.2 (λ b. unwind_given (suc levels) fs b h.2)

  -- past a node that is open, for a thrown value
  throw_given : (levels : ℕ) (fs : List Frame) (o : Open) (x : ℤ) → OpenGiven base o (given_along fs) → FramesGiven base fs → CursorGiven base (unwind_throw (suc levels) fs x)
      → CursorGiven base (past_throw o x (unwind_throw (suc levels) fs x) (open_part levels fs))
  throw_given levels fs (around e m) x h k out = out
  throw_given levels fs (trying e old f) x h k out = out
  throw_given levels fs (falling e old b) x h k out = out
  throw_given levels fs (guarding e f) x h k out = open_given levels fs (around e (of_catcher (Caught x))) f (unchanged e (given_along fs) f.contexts h.0 h.1) tt k

  unwind_throw_given : (levels : ℕ) (fs : List Frame) (x : ℤ) → FramesGiven base fs → CursorGiven base (unwind_throw levels fs x)
  unwind_throw_given levels [] x h = tt
  unwind_throw_given levels (f ∷ fs) x h = throw_given levels fs f.node x h.1 h.2 (unwind_throw_given (suc levels) fs x h.2)

  -- the lists of what stands in a place, if these values are given around it
  abbrev ShapeGiven : Element → List (ℕ × ℤ) → Shape → Type 0
  ShapeGiven e ws absent = Unit {0}
  ShapeGiven e ws (waiting r v) = Unit {0}
  ShapeGiven e ws (throwing x) = Unit {0}
  ShapeGiven e ws (one_list m p) = p.contexts ≡ given_contexts base (given_more e ws)
  ShapeGiven e ws (two_lists p f) = (given_in e ≡ None) × (p.contexts ≡ given_contexts base ws) × (f.contexts ≡ given_contexts base ws)
  ShapeGiven e ws (guarded p f) = (given_in e ≡ None) × (p.contexts ≡ given_contexts base ws) × (f.contexts ≡ given_contexts base ws)

  begin_given : (levels : ℕ) (fs : List Frame) (e : Element) (old : Option Node) (shape : Shape) → ShapeGiven e (given_along fs) shape → FramesGiven base fs → CursorGiven base (begin levels fs e old shape)
  begin_given levels fs e old absent h k = arrive_given (suc levels) fs None k
  begin_given levels fs e old (waiting r v) h k = unwind_given (suc levels) fs (awaits.one r) k
  begin_given levels fs e old (throwing x) h k = unwind_throw_given (suc levels) fs x k
  begin_given levels fs e old (one_list m p) h k = open_given levels fs (around e m) p h tt k
  begin_given levels fs e old (two_lists p f) h k = open_given levels fs (trying e old f) p (unchanged e (given_along fs) p.contexts h.0 h.1) (h.0, h.2) k
  begin_given levels fs e old (guarded p f) h k = open_given levels fs (guarding e f) p (unchanged e (given_along fs) p.contexts h.0 h.1) (h.0, h.2) k

  body_given : (cs : Contexts) (c : ℕ) (key : elements.Key) (props : List ℤ) (given : Elements) (ws : List (ℕ × ℤ)) (old : Option Node) (b : Body) → cs ≡ given_contexts base ws
      → ShapeGiven (elements.comp c key props given) ws (shape_of_body cs c old b)
  body_given cs c key props given ws old (wait r v) h = tt
  body_given cs c key props given ws old (throw x) h = tt
  body_given cs c key props given ws old (ready es effects initials reads versions) h = h

  component_given : (s : Sight) (cs : Contexts) (c : ℕ) (key : elements.Key) (props : List ℤ) (given : Elements) (ws : List (ℕ × ℤ)) (old : Option Node) (d : Option Component)
      → cs ≡ given_contexts base ws → ShapeGiven (elements.comp c key props given) ws (shape_of_component s cs c props given old d)
  component_given s cs c key props given ws old None h = tt
  component_given s cs c key props given ws old (Some d) h = body_given cs c key props given ws old (body_of s.program d (inputs_at s cs props given (old_instance old))) h

  catcher_given : (cs : Contexts) (key : elements.Key) (f : Element) (es : Elements) (ws : List (ℕ × ℤ)) (old : Option Node) (caught : Option ℤ) → cs ≡ given_contexts base ws
      → ShapeGiven (elements.catcher key f es) ws (shape_of_catcher cs f es old caught)
  catcher_given cs key f es ws old None h = (refl, h, h)
  catcher_given cs key f es ws old (Some x) h = h

  shape_given : (s : Sight) (cs : Contexts) (e : Element) (ws : List (ℕ × ℤ)) (old : Option Node) → cs ≡ given_contexts base ws → ShapeGiven e ws (shape_of s cs e old)
  shape_given s cs elements.null ws old h = tt
  shape_given s cs (elements.text t) ws old h = h
  shape_given s cs (elements.host name key attrs es) ws old h = h
  shape_given s cs (elements.comp c key props given) ws old h = component_given s cs c key props given ws old (component_at s.program c) h
  shape_given s cs (elements.list marked es) ws old h = h
  shape_given s cs (elements.boundary key f es) ws old h = (refl, h, h)
  shape_given s cs (elements.catcher key f es) ws old h = catcher_given cs key f es ws old (old_caught old) h
  shape_given s cs (elements.provider c key x es) ws old h = ap (λ l. slice_set l c x) h

  -- A unit comes to places with the values that are given around them.
  pub unit_given : (s : Sight) (c : Cursor) → CursorGiven base c → CursorGiven base (unit s c)
  unfolding unit
  unit_given s (at_place zero fs cs e old) h = arrive_given zero fs None h.1
  unit_given s (at_place (suc levels) fs cs e old) h = begin_given levels fs e old (shape_of s cs e old) (shape_given s cs e (given_along fs) old h.0) h.1
  unit_given s (at_end levels fs o done) h = arrive_given levels fs (Some (finished o done)) h
  unit_given s (ended p) h = tt

  -- So does an attempt that is skipped.
  pub attempt_given : (n : ℕ) (fs : List Frame) (s : Sight) (cs : Contexts) (e : Element) (o : Option Node) (p f : Part) (a : Awaits) → shape_of s cs e o ≡ two_lists p f
      → CursorGiven base (at_place (suc n) fs cs e o) → CursorGiven base (open_part n fs (falling e o a) f)
  attempt_given n fs s cs e o p f a shape h =
      let parts : ShapeGiven e (given_along fs) (two_lists p f) = rw shape at (shape_given s cs e (given_along fs) o h.0) in
      falling_given n fs e o a f parts.0 parts.2 h.1

  -- there are as many values as at first
  pub as_many : (ws : List (ℕ × ℤ)) → length (given_contexts base ws) ≡ length base
  as_many [] = refl
  as_many (w ∷ ws) = length-set (given_contexts base ws) w.0 w.1 ∙ as_many ws

pub start_given : (s : Sight) (old : Option Node) → CursorGiven (default_contexts s.program) (start s old)
unfolding start
start_given s old = (refl, tt)

-- at first there is one for each context
pub one_each : (p : Program) → length (default_contexts p) ≡ length (contexts p)
one_each p = length-map (contexts p) (default_of p)
