-- What the old tree has, each old node has that a render comes to.
use Rattle.std.specs.Prelude.{◌≡◌, ℤ, option_and_then, ℕ, zero, suc, Bool, true, false, cond, List, [], ◌∷◌, ◌++◌, map, Option, Some, None, slice_get}
use Rattle.std.specs.List.{zip}
use Rattle.std.specs.Option.{option_flatten}
use Rattle.rx_base.specs.Awaits.{Awaits}
use Rattle.rx_base.specs.Awaits as awaits
use Rattle.rx_elem.specs.Elements.{Element, listed, Elements}
use Rattle.rx_elem.specs.Elements as elements
use Rattle.rx_ast.specs.Syntax.{Component}
use Rattle.rx_rules.specs.Names.{component_at}
use Rattle.rx_meaning.specs.Body.{body_of, Body, wait, throw, ready}
use Rattle.rx_meaning.specs.Fresh.{old_instance, shape_of_component, shape_of_catcher, Sight, Contexts, inputs_at, Part, Shape, absent, waiting, throwing, one_list, two_lists, guarded, shape_of, shape_of_body}
use Rattle.rx_catch.specs.declared.state.CatchState.TheVariants.{Caught}
use Rattle.rx_elem.specs.Trees.{Node, Forest, none, vacant, child, places, children_if, fallback_if, children_of, fallback_of, of_catcher, old_caught}
use Rattle.rx_elem.specs.Compare.{node_at}
use Rattle.rx_meaning.specs.Touched.{children_with_old}
use Rattle.render_laws.specs.OldNodes.{AllHave, OldHas, PairsHave, OpenHas, FramesHave, CursorHas}
use Rattle.rx_meaning.specs.Cursor.{is_null, Open, around, trying, falling, guarding, Frame, Cursor, at_place, at_end, ended, come_to, open_part, arrive, past, unwind, past_throw, unwind_throw, begin, finished, unit, start}

-- a property that a node hands to its children
abbrev pub GoesDown : (Node → Type 0) → Type 0
GoesDown P = (n : Node) → P n → AllHave P (children_of n) × AllHave P (fallback_of n)

module _ (P : Node → Type 0) (down : GoesDown P) where
  got_has : (ns : Forest) → AllHave P ns → (q : ℕ) → OldHas P (option_flatten (slice_get (places ns) q))
  got_has none h q = tt
  got_has (vacant ns) h zero = tt
  got_has (vacant ns) h (suc q) = got_has ns h q
  got_has (child n ns) h zero = h.0
  got_has (child n ns) h (suc q) = got_has ns h.1 q

  node_has : (ns : Forest) → AllHave P ns → (q : Option ℕ) → OldHas P (option_and_then (node_at ns) q)
  node_has ns h None = tt
  node_has ns h (Some q) = got_has ns h q

  zip_has : (ns : Forest) → AllHave P ns → (es : List Element) (qs : List (Option ℕ)) → PairsHave P (zip es (map (option_and_then (node_at ns)) qs))
  zip_has ns h [] qs = tt
  zip_has ns h (e ∷ es) [] = tt
  zip_has ns h (e ∷ es) (q ∷ qs) = (node_has ns h q, zip_has ns h es qs)

  pairs_have : (p : Part) → AllHave P p.old → PairsHave P (children_with_old p)
  pairs_have p h = zip_has p.old h p.elements _

  primary_has : (old : Option Node) → OldHas P old → AllHave P (children_if old)
  primary_has None h = tt
  primary_has (Some n) h = (down n h).0

  fallback_has : (old : Option Node) → OldHas P old → AllHave P (fallback_if old)
  fallback_has None h = tt
  fallback_has (Some n) h = (down n h).1

  come_has : (n : ℕ) (fs : List Frame) (o : Open) (cs : Contexts) (done : List (Option Node)) (xs : List (Element × Option Node))
      → PairsHave P xs → OpenHas P o → FramesHave P fs → CursorHas P (come_to n fs o cs done xs)
  come_has n fs o cs done [] h k l = l
  come_has n fs o cs done (x ∷ xs) h k l = go (is_null x.0) (come_has n fs o cs (done ++ None ∷ []) xs h.1 k l)
    where
      go : (b : Bool) → CursorHas P (come_to n fs o cs (done ++ None ∷ []) xs)
          → CursorHas P (cond b (come_to n fs o cs (done ++ None ∷ []) xs) (at_place n ((record { node = o; contexts = cs; done = done; rest = xs }) ∷ fs) cs x.0 x.1))
      go true i = i
      go false i = (h.0, (h.1, k, l))

  open_has : (n : ℕ) (fs : List Frame) (o : Open) (p : Part) → AllHave P p.old → OpenHas P o → FramesHave P fs → CursorHas P (open_part n fs o p)
  open_has n fs o p h k l = come_has n fs o p.contexts [] (children_with_old p) (pairs_have p h) k l

  pub arrive_has : (n : ℕ) (fs : List Frame) (m : Option Node) → FramesHave P fs → CursorHas P (arrive n fs m)
  arrive_has n [] m h = tt
  arrive_has n (f ∷ fs) m h = come_has n fs f.node f.contexts (f.done ++ m ∷ []) f.rest h.0 h.1 h.2

  past_has : (n : ℕ) (fs : List Frame) (o : Open) (a : Awaits) → OpenHas P o → FramesHave P fs → ((b : Awaits) → CursorHas P (unwind (suc n) fs b))
      → CursorHas P (past o a (unwind (suc n) fs) (open_part n fs))
  past_has n fs (around e m) a h k out = out a
  past_has n fs (trying e old f) a h k out = open_has n fs (falling e old a) f h.1 h.0 k
  past_has n fs (falling e old b) a h k out = out (awaits.union b a)
  past_has n fs (guarding e f) a h k out = out a

  unwind_has : (n : ℕ) (fs : List Frame) (a : Awaits) → FramesHave P fs → CursorHas P (unwind n fs a)
  unwind_has n [] a h = tt
  unwind_has n (f ∷ fs) a h = past_has n fs f.node a h.1 h.2 (λ b. unwind_has (suc n) fs b h.2)

  past_throw_has : (n : ℕ) (fs : List Frame) (o : Open) (x : ℤ) → OpenHas P o → FramesHave P fs → CursorHas P (unwind_throw (suc n) fs x)
      → CursorHas P (past_throw o x (unwind_throw (suc n) fs x) (open_part n fs))
  past_throw_has n fs (around e m) x h k out = out
  past_throw_has n fs (trying e old f) x h k out = out
  past_throw_has n fs (falling e old a) x h k out = out
  past_throw_has n fs (guarding e f) x h k out = open_has n fs (around e (of_catcher (Caught x))) f h tt k

  unwind_throw_has : (n : ℕ) (fs : List Frame) (x : ℤ) → FramesHave P fs → CursorHas P (unwind_throw n fs x)
  unwind_throw_has n [] x h = tt
  unwind_throw_has n (f ∷ fs) x h = past_throw_has n fs f.node x h.1 h.2 (unwind_throw_has (suc n) fs x h.2)

  abbrev ShapeHas : Shape → Type 0
  ShapeHas absent = Unit {0}
  ShapeHas (waiting r v) = Unit {0}
  ShapeHas (throwing x) = Unit {0}
  ShapeHas (one_list m p) = AllHave P p.old
  ShapeHas (two_lists p f) = AllHave P p.old × AllHave P f.old
  ShapeHas (guarded p f) = AllHave P p.old × AllHave P f.old

  begin_has : (n : ℕ) (fs : List Frame) (e : Element) (old : Option Node) (shape : Shape) → OldHas P old → ShapeHas shape → FramesHave P fs
      → CursorHas P (begin n fs e old shape)
  begin_has n fs e old absent o h k = arrive_has (suc n) fs None k
  begin_has n fs e old (waiting r v) o h k = unwind_has (suc n) fs (awaits.one r) k
  begin_has n fs e old (throwing x) o h k = unwind_throw_has (suc n) fs x k
  begin_has n fs e old (one_list m p) o h k = open_has n fs (around e m) p h tt k
  begin_has n fs e old (two_lists p f) o h k = open_has n fs (trying e old f) p h.0 (o, h.1) k
  begin_has n fs e old (guarded p f) o h k = open_has n fs (guarding e f) p h.0 h.1 k

  body_has : (cs : Contexts) (c : ℕ) (old : Option Node) (b : Body) → OldHas P old → ShapeHas (shape_of_body cs c old b)
  body_has cs c old (wait r v) h = tt
  body_has cs c old (throw x) h = tt
  body_has cs c old (ready es effects initials reads versions) h = primary_has old h

  component_has : (s : Sight) (cs : Contexts) (c : ℕ) (props : List ℤ) (given : Elements) (old : Option Node) (d : Option Component) → OldHas P old
      → ShapeHas (shape_of_component s cs c props given old d)
  component_has s cs c props given old None h = tt
  component_has s cs c props given old (Some d) h = body_has cs c old (body_of s.program d (inputs_at s cs props given (old_instance old))) h

  catcher_has : (cs : Contexts) (f : Element) (es : Elements) (old : Option Node) (caught : Option ℤ) → OldHas P old → ShapeHas (shape_of_catcher cs f es old caught)
  catcher_has cs f es old None h = (primary_has old h, tt)
  catcher_has cs f es old (Some x) h = fallback_has old h

  shape_has : (s : Sight) (cs : Contexts) (e : Element) (old : Option Node) → OldHas P old → ShapeHas (shape_of s cs e old)
  shape_has s cs elements.null old h = tt
  shape_has s cs (elements.text t) old h = tt
  shape_has s cs (elements.host name key attrs es) old h = primary_has old h
  shape_has s cs (elements.comp c key props given) old h = component_has s cs c props given old (component_at s.program c) h
  shape_has s cs (elements.list marked es) old h = primary_has old h
  shape_has s cs (elements.boundary key f es) old h = (primary_has old h, fallback_has old h)
  shape_has s cs (elements.catcher key f es) old h = catcher_has cs f es old (old_caught old) h
  shape_has s cs (elements.provider c key x es) old h = primary_has old h

  -- A unit comes to old nodes below those that it had.
  pub unit_has : (s : Sight) (c : Cursor) → CursorHas P c → CursorHas P (unit s c)
  unfolding unit
  unit_has s (at_place zero fs cs e old) h = arrive_has zero fs None h.1
  unit_has s (at_place (suc n) fs cs e old) h = begin_has n fs e old (shape_of s cs e old) h.0 (shape_has s cs e old h.0) h.1
  unit_has s (at_end n fs o done) h = arrive_has n fs (Some (finished o done)) h
  unit_has s (ended p) h = tt

  -- So does an attempt that is skipped.
  pub attempt_has : (n : ℕ) (fs : List Frame) (s : Sight) (cs : Contexts) (e : Element) (o : Option Node) (p f : Part) (a : Awaits) → shape_of s cs e o ≡ two_lists p f
      → CursorHas P (at_place (suc n) fs cs e o) → CursorHas P (open_part n fs (falling e o a) f)
  attempt_has n fs s cs e o p f a shape h =
      let parts : ShapeHas (two_lists p f) = rw shape at (shape_has s cs e o h.0) in
      open_has n fs (falling e o a) f parts.1 h.0 h.1

  pub start_has : (s : Sight) (old : Option Node) → OldHas P old → CursorHas P (start s old)
  unfolding start
  start_has s old h = (h, tt)
