-- What holds of the instances that a render has made, unit by unit.
use Rattle.std.specs.Prelude.{◌≡◌, ℕ, zero, suc, ℤ, Bool, true, false, cond, List, [], ◌∷◌, ◌++◌, Option, Some, None, refl}
use Rattle.std.proofs.Common.{subst, sym, ap, ◌∙◌}
use Rattle.rx_base.specs.Awaits.{Awaits}
use Rattle.rx_base.specs.Awaits as awaits
use Rattle.rx_ast.specs.Syntax.{Component}
use Rattle.rx_rules.specs.Names.{component_at}
use Rattle.rx_elem.specs.Elements.{Element, Elements}
use Rattle.rx_elem.specs.Elements as elements
use Rattle.rx_catch.specs.declared.state.CatchState.TheVariants.{Caught}
use Rattle.rx_elem.specs.declared.effect.ContextRead.{ContextRead}
use Rattle.rx_elem.specs.declared.effect.EffectRecord.{EffectRecord}
use Rattle.rx_elem.specs.declared.effect.VersionRead.{VersionRead}
use Rattle.rx_elem.specs.Trees.{Forest, Instance, Mark, Node, child, children_if, forest, instance_in, is_caught, is_hidden, node, node_over, none, of_boundary, of_catcher, of_host, of_instance, old_caught, plain, vacant}
use Rattle.rx_meaning.specs.Body.{Body, body_of, ready, throw, wait}
use Rattle.rx_meaning.specs.Fresh.{Contexts, Part, Shape, Sight, absent, guarded, inputs_at, instance_after, old_instance, one_list, shape_of, shape_of_body, shape_of_catcher, shape_of_component, throwing, two_lists, waiting}
use Rattle.rx_meaning.specs.Settled.{IfHidden}
use Rattle.rx_meaning.specs.Touched.{children_with_old, component_in}
use Rattle.rx_meaning.specs.Cursor.{Cursor, Frame, Open, around, arrive, at_end, at_place, begin, come_to, ended, falling, finished, guarding, is_null, open_part, past, past_throw, start, trying, unit, unwind, unwind_throw}
use Rattle.rx_elem.proofs.Over.{over_children, over_fallback}
use Rattle.render_laws.specs.OldNodes.{AllHave, CursorHas, OldHas}
use Rattle.render_laws.proofs.Descent.{GoesDown, arrive_has, attempt_has, start_has, unit_has}
use Rattle.draw_laws.specs.Made.{AllMade, AllMeet, BeginsMeeting, DoneMade, FramesMade, InstancesMade, MarkMeets, NodesMade, OpenMade, TreeMade, TreeMeets}

-- ---- old nodes

all_have : (R : ℕ → List ℤ → Type 0) (ns : Forest) → AllMeet R ns → AllHave (TreeMeets R) ns
all_have R none h = tt
all_have R (vacant ns) h = all_have R ns h
all_have R (child n ns) h = (h.0, all_have R ns h.1)

goes_down : (R : ℕ → List ℤ → Type 0) → GoesDown (TreeMeets R)
goes_down R (node e m ns fs) h = (all_have R ns h.1, all_have R fs h.2)

-- what a boundary keeps of its old node meets what the old node does
old_children : (R : ℕ → List ℤ → Type 0) (old : Option Node) → OldHas (TreeMeets R) old → AllMeet R (children_if old)
old_children R None h = tt
old_children R (Some (node e m ns fs)) h = h.1

old_mark : (R : ℕ → List ℤ → Type 0) (m : Mark) (i : Instance) (n : ℕ) → MarkMeets R m → instance_in m ≡ Some i → i.number ≡ Some n → R n i.initials
old_mark R (of_instance j) i n h e is =
    let same : j ≡ i = cc in subst (λ (k : Instance). R n k.initials) same (h n (ap (λ (k : Instance). k.number) same ∙ is))
old_mark R (of_host k) i n h e is = cc
old_mark R (of_boundary b) i n h e is = cc
old_mark R (of_catcher b) i n h e is = cc
old_mark R plain i n h e is = cc

old_meets : (R : ℕ → List ℤ → Type 0) (old : Option Node) (i : Instance) (n : ℕ) → OldHas (TreeMeets R) old → old_instance old ≡ Some i → i.number ≡ Some n → R n i.initials
old_meets R None i n h e is = cc
old_meets R (Some (node e m ns fs)) i n h at is = old_mark R m i n h.0 at is

-- the old instance of a place meets the second
pub place_meets : (Q R : ℕ → List ℤ → Type 0) (n : ℕ) (fs : List Frame) (cs : Contexts) (e : Element) (old : Option Node) (i : Instance) (k : ℕ)
    → InstancesMade Q R (at_place n fs cs e old) → old_instance old ≡ Some i → i.number ≡ Some k → R k i.initials
place_meets Q R n fs cs e old i k h at is = old_meets R old i k h.olds.0 at is

module _ (Q R : ℕ → List ℤ → Type 0) where
  -- ---- nodes

  done_push : (ns : List (Option Node)) (n : Option Node) → DoneMade Q R ns → DoneMade Q R (n ∷ []) → DoneMade Q R (ns ++ n ∷ [])
  done_push [] n h k = k
  done_push (None ∷ ns) n h k = done_push ns n h k
  done_push (Some x ∷ ns) n h k = (h.0, done_push ns n h.1 k)

  forest_made : (ns : List (Option Node)) → DoneMade Q R ns → AllMade Q R (forest ns)
  forest_made [] h = tt
  forest_made (None ∷ ns) h = forest_made ns h
  forest_made (Some n ∷ ns) h = (h.0, forest_made ns h.1)

  finished_made : (o : Open) (done : List (Option Node)) → OpenMade Q R o → DoneMade Q R done → TreeMade Q R (finished o done)
  finished_made (around e m) done h k = go (is_caught m) refl
    where
      go : (b : Bool) → is_caught m ≡ b → TreeMade Q R (node_over e m (forest done))
      go true over =
          subst (TreeMade Q R) (sym (over_fallback e m (forest done) over))
          (h.0, subst (λ b. IfHidden b (AllMeet R none) (AllMade Q R none)) (sym h.1) tt, forest_made done k)
      go false over =
          subst (TreeMade Q R) (sym (over_children e m (forest done) over))
          (h.0, subst (λ b. IfHidden b (AllMeet R (forest done)) (AllMade Q R (forest done))) (sym h.1) (forest_made done k), tt)
  finished_made (trying e old f) done h k = (tt, forest_made done k, tt)
  finished_made (falling e old a) done h k = (tt, h, forest_made done k)
  finished_made (guarding e f) done h k = (tt, forest_made done k, tt)

  come_made : (n : ℕ) (fs : List Frame) (o : Open) (cs : Contexts) (done : List (Option Node)) (xs : List (Element × Option Node))
      → OpenMade Q R o → DoneMade Q R done → FramesMade Q R fs → NodesMade Q R (come_to n fs o cs done xs)
  come_made n fs o cs done [] h k l = (h, k, l)
  come_made n fs o cs done (x ∷ xs) h k l = go (is_null x.0) (come_made n fs o cs (done ++ None ∷ []) xs h (done_push done None k tt) l)
    where
      go : (b : Bool) → NodesMade Q R (come_to n fs o cs (done ++ None ∷ []) xs)
          → NodesMade Q R (cond b (come_to n fs o cs (done ++ None ∷ []) xs) (at_place n ((record { node = o; contexts = cs; done = done; rest = xs }) ∷ fs) cs x.0 x.1))
      go true i = i
      go false i = (h, k, l)

  open_made : (n : ℕ) (fs : List Frame) (o : Open) (p : Part) → OpenMade Q R o → FramesMade Q R fs → NodesMade Q R (open_part n fs o p)
  open_made n fs o p h l = come_made n fs o p.contexts [] (children_with_old p) h tt l

  arrive_made : (n : ℕ) (fs : List Frame) (m : Option Node) → DoneMade Q R (m ∷ []) → FramesMade Q R fs → NodesMade Q R (arrive n fs m)
  arrive_made n [] None h l = tt
  arrive_made n [] (Some x) h l = h.0
  arrive_made n (f ∷ fs) m h l = come_made n fs f.node f.contexts (f.done ++ m ∷ []) f.rest l.0 (done_push f.done m l.1 h) l.2

  past_made : (n : ℕ) (fs : List Frame) (o : Open) (a : Awaits) → OpenMade Q R o → FramesMade Q R fs → ((b : Awaits) → NodesMade Q R (unwind (suc n) fs b))
      → NodesMade Q R (past o a (unwind (suc n) fs) (open_part n fs))
  past_made n fs (around e m) a h l out = out a
  past_made n fs (trying e old f) a h l out = open_made n fs (falling e old a) f h l
  past_made n fs (falling e old b) a h l out = out (awaits.union b a)
  past_made n fs (guarding e f) a h l out = out a

  unwind_made : (n : ℕ) (fs : List Frame) (a : Awaits) → FramesMade Q R fs → NodesMade Q R (unwind n fs a)
  unwind_made n [] a l = tt
  unwind_made n (f ∷ fs) a l = past_made n fs f.node a l.0 l.2 (λ b. unwind_made (suc n) fs b l.2)

  past_throw_made : (n : ℕ) (fs : List Frame) (o : Open) (x : ℤ) → FramesMade Q R fs → NodesMade Q R (unwind_throw (suc n) fs x)
      → NodesMade Q R (past_throw o x (unwind_throw (suc n) fs x) (open_part n fs))
  past_throw_made n fs (around e m) x l out = out
  past_throw_made n fs (trying e old f) x l out = out
  past_throw_made n fs (falling e old a) x l out = out
  past_throw_made n fs (guarding e f) x l out = open_made n fs (around e (of_catcher (Caught x))) f (tt, refl) l

  unwind_throw_made : (n : ℕ) (fs : List Frame) (x : ℤ) → FramesMade Q R fs → NodesMade Q R (unwind_throw n fs x)
  unwind_throw_made n [] x l = tt
  unwind_throw_made n (f ∷ fs) x l = past_throw_made n fs f.node x l.2 (unwind_throw_made (suc n) fs x l.2)

  -- ---- shapes

  abbrev ShapeMade : Shape → Type 0
  ShapeMade absent = Unit {0}
  ShapeMade (waiting r v) = Unit {0}
  ShapeMade (throwing x) = Unit {0}
  ShapeMade (one_list m p) = MarkMeets Q m × (is_hidden m ≡ false)
  ShapeMade (two_lists p f) = Unit {0}
  ShapeMade (guarded p f) = Unit {0}

  begin_made : (n : ℕ) (fs : List Frame) (e : Element) (old : Option Node) (shape : Shape) → OldHas (TreeMeets R) old → ShapeMade shape → FramesMade Q R fs
      → NodesMade Q R (begin n fs e old shape)
  begin_made n fs e old absent h k l = arrive_made (suc n) fs None tt l
  begin_made n fs e old (waiting r v) h k l = unwind_made (suc n) fs (awaits.one r) l
  begin_made n fs e old (throwing x) h k l = unwind_throw_made (suc n) fs x l
  begin_made n fs e old (one_list m p) h k l = open_made n fs (around e m) p k l
  begin_made n fs e old (two_lists p f) h k l = open_made n fs (trying e old f) p (old_children R old h) l
  begin_made n fs e old (guarded p f) h k l = open_made n fs (guarding e f) p tt l

  -- an old instance that has a number meets the first
  abbrev OldMeets : Option Instance → Type 0
  OldMeets o = (i : Instance) (n : ℕ) → o ≡ Some i → i.number ≡ Some n → Q n i.initials

  after_meets : (c : ℕ) (o : Option Instance) (initials : List ℤ) (reads : List ContextRead) (versions : List VersionRead) (effects : List EffectRecord) → OldMeets o
      → MarkMeets Q (of_instance (instance_after c o initials reads versions effects))
  after_meets c None initials reads versions effects h n e = cc
  after_meets c (Some i) initials reads versions effects h n e = h i n refl e

  body_made : (cs : Contexts) (c : ℕ) (old : Option Node) (b : Body) → OldMeets (old_instance old) → ShapeMade (shape_of_body cs c old b)
  body_made cs c old (wait r v) h = tt
  body_made cs c old (throw x) h = tt
  body_made cs c old (ready es effects initials reads versions) h = (after_meets c (old_instance old) initials reads versions effects h, refl)

  component_made : (s : Sight) (cs : Contexts) (c : ℕ) (props : List ℤ) (given : Elements) (old : Option Node) (d : Option Component) → OldMeets (old_instance old)
      → ShapeMade (shape_of_component s cs c props given old d)
  component_made s cs c props given old None h = tt
  component_made s cs c props given old (Some d) h = body_made cs c old (body_of s.program d (inputs_at s cs props given (old_instance old))) h

  catcher_made : (cs : Contexts) (f : Element) (es : Elements) (old : Option Node) (caught : Option ℤ) → ShapeMade (shape_of_catcher cs f es old caught)
  catcher_made cs f es old None = tt
  catcher_made cs f es old (Some x) = (tt, refl)

  shape_made : (s : Sight) (cs : Contexts) (e : Element) (old : Option Node)
      → ((c : ℕ) (i : Instance) (n : ℕ) → component_in e ≡ Some c → old_instance old ≡ Some i → i.number ≡ Some n → Q n i.initials) → ShapeMade (shape_of s cs e old)
  shape_made s cs elements.null old h = tt
  shape_made s cs (elements.text t) old h = (tt, refl)
  shape_made s cs (elements.host name key attrs es) old h = (tt, refl)
  shape_made s cs (elements.comp c key props given) old h = component_made s cs c props given old (component_at s.program c) (λ i n e f. h c i n refl e f)
  shape_made s cs (elements.list marked es) old h = (tt, refl)
  shape_made s cs (elements.boundary key f es) old h = tt
  shape_made s cs (elements.catcher key f es) old h = catcher_made cs f es old (old_caught old)
  shape_made s cs (elements.provider c key x es) old h = (tt, refl)

  -- ---- units

  nodes_made : (s : Sight) (c : Cursor) → CursorHas (TreeMeets R) c → NodesMade Q R c → BeginsMeeting Q c → NodesMade Q R (unit s c)
  unfolding unit
  nodes_made s (at_place zero fs cs e old) olds h meets = arrive_made zero fs None tt h
  nodes_made s (at_place (suc n) fs cs e old) olds h meets = begin_made n fs e old (shape_of s cs e old) olds.0 (shape_made s cs e old meets) h
  nodes_made s (at_end n fs o done) olds h meets = arrive_made n fs (Some (finished o done)) (finished_made o done h.0 h.1, tt) h.2
  nodes_made s (ended p) olds h meets = h

  -- a unit keeps what holds of the instances, if the one that it begins meets the first
  pub unit_makes : (s : Sight) (c : Cursor) → BeginsMeeting Q c → InstancesMade Q R c → InstancesMade Q R (unit s c)
  unit_makes s c meets h = record { nodes = nodes_made s c h.olds h.nodes meets; olds = unit_has (TreeMeets R) (goes_down R) s c h.olds }

  -- so does a subtree that is taken over, if it holds of that
  pub take_makes : (n : ℕ) (fs : List Frame) (cs : Contexts) (e : Element) (o : Node) → TreeMade Q R o → InstancesMade Q R (at_place n fs cs e (Some o))
      → InstancesMade Q R (arrive n fs (Some o))
  take_makes n fs cs e o tree h = record { nodes = arrive_made n fs (Some o) (tree, tt) h.nodes; olds = arrive_has (TreeMeets R) (goes_down R) n fs (Some o) h.olds.1 }

  -- so does an attempt that is skipped
  pub attempt_makes : (s : Sight) (n : ℕ) (fs : List Frame) (cs : Contexts) (e : Element) (o : Option Node) (q f : Part) (a : Awaits) → shape_of s cs e o ≡ two_lists q f
      → InstancesMade Q R (at_place (suc n) fs cs e o) → InstancesMade Q R (open_part n fs (falling e o a) f)
  attempt_makes s n fs cs e o q f a shape h =
      record {
        nodes = open_made n fs (falling e o a) f (old_children R o h.olds.0) h.nodes;
        olds = attempt_has (TreeMeets R) (goes_down R) n fs s cs e o q f a shape h.olds;
      }

  start_nodes : (s : Sight) (old : Option Node) → NodesMade Q R (start s old)
  unfolding start
  start_nodes s old = tt

  -- at the start nothing is made
  pub start_makes : (s : Sight) (old : Option Node) → OldHas (TreeMeets R) old → InstancesMade Q R (start s old)
  start_makes s old h = record { nodes = start_nodes s old; olds = start_has (TreeMeets R) (goes_down R) s old h }
