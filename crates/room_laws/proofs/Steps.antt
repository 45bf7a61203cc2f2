-- Each step of a render keeps what it has fitting.
use Rattle.std.specs.Prelude.{◌≡◌, ℕ, zero, suc, ◌+◌, ◌≤◌, Bool, true, false, not, cond, if◌then◌else◌, List, [], ◌∷◌, ◌++◌, map, ℤ, Option, Some, None, is_some, slice_set, refl}
use Rattle.std.proofs.Common.{arith, ap, sym, subst, ◌∙◌}
use Rattle.rx_base.specs.Awaits.{Awaits}
use Rattle.rx_base.specs.Awaits as awaits
use Rattle.rx_ast.specs.Syntax.{Program, Component}
use Rattle.rx_rules.specs.Names.{component_at}
use Rattle.rx_rules.specs.Bounds.{component_levels}
use Rattle.rx_elem.specs.Elements.{Element, Elements, Key, key_of, gathered, listed}
use Rattle.rx_elem.specs.Elements as elements
use Rattle.rx_elem.specs.Identity.{Identity, identity_after}
use Rattle.rx_catch.specs.declared.state.CatchState.TheVariants.{Caught}
use Rattle.rx_elem.specs.Trees.{Node, node, none, forest, children_if, fallback_if, element_of, is_caught, of_catcher, old_caught}
use Rattle.rx_meaning.specs.Body.{Body, wait, throw, ready, body_of}
use Rattle.rx_meaning.specs.Fresh.{Sight, Contexts, Part, part, Shape, absent, waiting, throwing, one_list, two_lists, guarded, shape_of, shape_of_body, shape_of_component, shape_of_catcher, inputs_at, old_instance}
use Rattle.rx_meaning.specs.Touched.{children_with_old}
use Rattle.rx_meaning.specs.Cursor.{Open, around, trying, falling, guarding, Frame, Cursor, at_place, at_end, ended, is_null, come_to, open_part, arrive, past, past_throw, unwind, unwind_throw, begin, finished, unit, start, HasLevel}
use Rattle.render_laws.proofs.Plans.{Alts, Plan, fixed, every, end, next, plan_in, body_plan}
use Rattle.render_laws.proofs.Coming.{Has, is_keyed, IsFew, Comes, AllCome, IsDeclared, comes_less}
use Rattle.render_laws.proofs.Fitting.{allowed, Used, plans_of, IsThere, Fits, FitsIn, FitsOld}
use Rattle.render_laws.proofs.FitRender.{IsPlain, IfReady, found_comes, come_listed, has_primary, has_fallback, has_is_there, fits_none, primary_fits, fallback_fits}
use Rattle.render_laws.proofs.RootLaws.{root_alts, root_comes}
use Rattle.room_laws.proofs.Fitted.{element_if, DoneFits, Coming, PartComes, element_at, sides, KeptFits, FallFits, FramesFit, ListFits, EndFits, CursorFits, map_more, done_more, done_each, list_comes}

is_null-null : (e : Element) → is_null e ≡ true → e ≡ elements.null
is_null-null elements.null h = refl
is_null-null (elements.text t) h = absurd (cc h)
is_null-null (elements.host n k attrs es) h = absurd (cc h)
is_null-null (elements.comp c k ps es) h = absurd (cc h)
is_null-null (elements.list marked es) h = absurd (cc h)
is_null-null (elements.boundary k f es) h = absurd (cc h)
is_null-null (elements.catcher k f es) h = absurd (cc h)
is_null-null (elements.provider c k x es) h = absurd (cc h)

module _ (p : Program) where
  -- the next place of a list is done
  next_done : (n : ℕ) (ps : List Plan) (us : List (List Identity)) (done : List (Option Node)) (e : Element) (o : Option Node) (xs : List (Element × Option Node)) → element_if o ≡ e
      → DoneFits ps us [] done → FitsOld (allowed ps us (identity_after (map element_if done) (key_of e))) o → Coming n p ps us (map element_if done ++ e ∷ []) xs
      → DoneFits ps us [] (done ++ o ∷ []) × Coming n p ps us (map element_if (done ++ o ∷ [])) xs
  next_done n ps us done e o xs same d f c = (
    done_more ps us [] done o d (subst (λ x. FitsOld (allowed ps us (identity_after (map element_if done) (key_of x))) o) (sym same) f),
    subst (λ es. Coming n p ps us es xs) (ap (λ x. map element_if done ++ x ∷ []) (sym same) ∙ sym (map_more done o)) c,
  )

  come_fits : (n : ℕ) (fs : List Frame) (o : Open) (cs : Contexts) (done : List (Option Node)) (xs : List (Element × Option Node))
      → ListFits n p fs o done xs → CursorFits p (come_to n fs o cs done xs)
  come_fits n fs o cs done [] h = (h.0, h.1, h.2, h.3, h.5, h.7)
  come_fits n fs o cs done (x ∷ xs) h =
      go (is_null x.0) refl (λ same. come_fits n fs o cs (done ++ None ∷ []) xs (skipped same))
    where
      skipped : elements.null ≡ x.0 → ListFits n p fs o (done ++ None ∷ []) xs
      skipped same =
          let more = next_done n (sides o h.0) h.1 done x.0 None xs same h.3 tt h.4.2 in
          (h.0, h.1, h.2, more.0, more.1, h.5, h.6, h.7)

      go : (b : Bool) → is_null x.0 ≡ b → (elements.null ≡ x.0 → CursorFits p (come_to n fs o cs (done ++ None ∷ []) xs))
          → CursorFits p (cond b (come_to n fs o cs (done ++ None ∷ []) xs) (at_place n ((record { node = o; contexts = cs; done = done; rest = xs }) ∷ fs) cs x.0 x.1))
      go true same i = i (sym (is_null-null x.0 same))
      go false same i =
          (allowed (sides o h.0) h.1 (identity_after (map element_if done) (key_of x.0)), h.4.0, h.4.1, (h.0, h.1, h.2, h.3, refl, h.4.2, h.5, h.6, h.7))

  open_fits : (n : ℕ) (fs : List Frame) (o : Open) (q : Part) (b : Alts) → PartComes n p (sides o b) q → KeptFits b o → FallFits n p b o
      → FramesFit (suc n) p fs b (element_at o) → CursorFits p (open_part n fs o q)
  open_fits n fs o q b h k l m = come_fits n fs o q.contexts [] (children_with_old q) (b, h.0, h.1, tt, h.2, k, l, m)

  pub arrive_fits : (n : ℕ) (fs : List Frame) (a : Alts) (e : Element) (o : Option Node) → element_if o ≡ e → FitsOld a o → FramesFit n p fs a e → CursorFits p (arrive n fs o)
  arrive_fits n [] a e None same f h = tt
  arrive_fits n [] a e (Some x) same f h = subst (λ b. Fits b x) h f
  arrive_fits n (g ∷ fs) a e o same f h =
      let fit : FitsOld (allowed (sides g.node h.0) h.1 (identity_after (map element_if g.done) (key_of e))) o = subst (λ b. FitsOld b o) h.4 f in
      let more = next_done n (sides g.node h.0) h.1 g.done e o g.rest same h.3 fit h.5 in
      come_fits n fs g.node g.contexts (g.done ++ o ∷ []) g.rest (h.0, h.1, h.2, more.0, more.1, h.6, h.7, h.8)

  past_fits : (n : ℕ) (fs : List Frame) (o : Open) (w : Awaits) (b : Alts) → KeptFits b o → FallFits n p b o → FramesFit (suc n) p fs b (element_at o)
      → ((v : Awaits) → CursorFits p (unwind (suc n) fs v)) → CursorFits p (past o w (unwind (suc n) fs) (open_part n fs))
  past_fits n fs (around e m) w b k l h out = out w
  past_fits n fs (trying e old f) w b k l h out = open_fits n fs (falling e old w) f b l.1 (k, l.0) tt h
  past_fits n fs (falling e old v) w b k l h out = out (awaits.union v w)
  past_fits n fs (guarding e f) w b k l h out = out w

  unwind_fits : (n : ℕ) (fs : List Frame) (a : Alts) (e : Element) (w : Awaits) → FramesFit n p fs a e → CursorFits p (unwind n fs w)
  unwind_fits n [] a e w h = tt
  unwind_fits n (f ∷ fs) a e w h = past_fits n fs f.node w h.0 h.6 h.7 h.8 (λ v. unwind_fits (suc n) fs h.0 (element_at f.node) v h.8)

  throw_fits : (n : ℕ) (fs : List Frame) (o : Open) (x : ℤ) (b : Alts) → KeptFits b o → FallFits n p b o → FramesFit (suc n) p fs b (element_at o)
      → CursorFits p (unwind_throw (suc n) fs x) → CursorFits p (past_throw o x (unwind_throw (suc n) fs x) (open_part n fs))
  throw_fits n fs (around e m) x b k l h out = out
  throw_fits n fs (trying e old f) x b k l h out = out
  throw_fits n fs (falling e old v) x b k l h out = out
  throw_fits n fs (guarding e f) x b k l h out = open_fits n fs (around e (of_catcher (Caught x))) f b l k tt h

  unwind_throw_fits : (n : ℕ) (fs : List Frame) (a : Alts) (e : Element) (x : ℤ) → FramesFit n p fs a e → CursorFits p (unwind_throw n fs x)
  unwind_throw_fits n [] a e x h = tt
  unwind_throw_fits n (f ∷ fs) a e x h = throw_fits n fs f.node x h.0 h.6 h.7 h.8 (unwind_throw_fits (suc n) fs h.0 (element_at f.node) x h.8)

  -- what stands in a place comes from what is offered to it
  abbrev ShapeFits : ℕ → Alts → Element → Option Node → Shape → Type 0
  ShapeFits n a e old absent = elements.null ≡ e
  ShapeFits n a e old (waiting r v) = Unit {0}
  ShapeFits n a e old (throwing x) = Unit {0}
  ShapeFits n a e old (one_list m q) = IsThere a × PartComes n p (plans_of (not (is_caught m)) a) q
  ShapeFits n a e old (two_lists q f) =
      IsThere a × PartComes n p (plans_of true a) q × FitsIn (plans_of true a) (children_if old) × PartComes n p (plans_of false a) f
  ShapeFits n a e old (guarded q f) = IsThere a × PartComes n p (plans_of true a) q × PartComes n p (plans_of false a) f

  begin_fits : (n : ℕ) (fs : List Frame) (a : Alts) (e : Element) (old : Option Node) (shape : Shape) → ShapeFits n a e old shape → FramesFit (suc n) p fs a e
      → CursorFits p (begin n fs e old shape)
  begin_fits n fs a e old absent s h = arrive_fits (suc n) fs a e None s tt h
  begin_fits n fs a e old (waiting r v) s h = unwind_fits (suc n) fs a e (awaits.one r) h
  begin_fits n fs a e old (throwing x) s h = unwind_throw_fits (suc n) fs a e x h
  begin_fits n fs a e old (one_list m q) s h = open_fits n fs (around e m) q a s.1 s.0 tt h
  begin_fits n fs a e old (two_lists q f) s h = open_fits n fs (trying e old f) q a s.1 s.0 (s.2, s.3) h
  begin_fits n fs a e old (guarded q f) s h = open_fits n fs (guarding e f) q a s.1 s.0 s.2 h

  -- a node over its list that is done fits
  finished_fits : (o : Open) (b : Alts) (us : List (List Identity)) (done : List (Option Node)) → Used (sides o b) us → DoneFits (sides o b) us [] done → KeptFits b o
      → Fits b (finished o done)
  finished_fits (around e m) b us done u d k = by_test (is_caught m) u d
    where
      by_test : (q : Bool) → Used (plans_of (not q) b) us → DoneFits (plans_of (not q) b) us [] done
          → Fits b (if q then node e m none (forest done) else node e m (forest done) none)
      by_test true v w = (k, fits_none (plans_of true b), (us, v, done_each (plans_of false b) us [] done w))
      by_test false v w = (k, (us, v, done_each (plans_of true b) us [] done w), fits_none (plans_of false b))
  finished_fits (trying e old f) b us done u d k = (k, (us, u, done_each (plans_of true b) us [] done d), fits_none (plans_of false b))
  finished_fits (falling e old a) b us done u d k = (k.0, k.1, (us, u, done_each (plans_of false b) us [] done d))
  finished_fits (guarding e f) b us done u d k = (k, (us, u, done_each (plans_of true b) us [] done d), fits_none (plans_of false b))

  finished_element : (o : Open) (done : List (Option Node)) → element_of (finished o done) ≡ element_at o
  finished_element (around e m) done = by_test (is_caught m)
    where
      by_test : (q : Bool) → element_of (if q then node e m none (forest done) else node e m (forest done) none) ≡ e
      by_test true = refl
      by_test false = refl
  finished_element (trying e old f) done = refl
  finished_element (falling e old a) done = refl
  finished_element (guarding e f) done = refl

  pub end_fits : (n : ℕ) (fs : List Frame) (o : Open) (done : List (Option Node)) → EndFits n p fs o done → CursorFits p (arrive n fs (Some (finished o done)))
  end_fits n fs o done h =
      arrive_fits n fs h.0 (element_at o) (Some (finished o done)) (finished_element o done) (finished_fits o h.0 h.1 done h.2 h.3 h.4) h.5

  -- the children of a node
  node_comes : (cs : Contexts) (n : ℕ) (a : Alts) (q g : Plan) → Has q g a → (es : Elements) → IsFew q es → AllCome (suc n) p q es → (old : Option Node) → FitsOld a old
      → IsThere a × PartComes n p (plans_of true a) (part cs (listed es) (children_if old))
  node_comes cs n a q g has es few come old o =
      let c = come_listed n p q es few come in
      (has_is_there has, list_comes n p (plans_of true a) q (has_primary has) (part cs (listed es) (children_if old)) c.0 c.1 (primary_fits a old o))

one_few : (b : Bool) → cond b 1 0 + 0 ≤ 1
one_few true = omega arith
one_few false = omega arith

module _ (s : Sight) (plain : IsPlain s.program) (n : ℕ) (a : Alts) (old : Option Node) (o : FitsOld a old) where
  body_comes : (cs : Contexts) (c : ℕ) (q g : Plan) → Has q g a → (e : Element) (b : Body) → IfReady n s.program q b
      → ShapeFits s.program n a e old (shape_of_body cs c old b)
  body_comes cs c q g has e (wait r v) k = tt
  body_comes cs c q g has e (throw x) k = tt
  body_comes cs c q g has e (ready es effects initials reads versions) k =
      (has_is_there has, list_comes n s.program (plans_of true a) q (has_primary has) (part cs es (children_if old)) k.0 k.1 (primary_fits a old o))

  component_comes : (cs : Contexts) (c m : ℕ) (q g : Plan) → suc n ≤ m → Has (body_plan m s.program c q) g a → (props : List ℤ) (es : Elements) → IsFew q (gathered (listed es))
      → AllCome n s.program q (gathered (listed es)) → IsDeclared s.program c → (e : Element) → ShapeFits s.program n a e old (shape_of_component s cs c props es old (component_at s.program c))
  component_comes cs c zero q g deep has props es few come declared e = absurd (omega arith)
  component_comes cs c (suc m) q g deep has props es few come declared e = go (component_at s.program c) refl has
    where
      missing : (x : Option Component) → x ≡ None → is_some x ≡ true → ⊥
      missing None same h = cc
      missing (Some x) same h = cc

      go : (x : Option Component) → component_at s.program c ≡ x → Has (plan_in (body_plan m s.program) q s.program x) g a
          → ShapeFits s.program n a e old (shape_of_component s cs c props es old x)
      go None same h = absurd (missing (component_at s.program c) same declared)
      go (Some x) same h =
          body_comes cs c (plan_in (body_plan m s.program) q s.program (Some x)) g h e (body_of s.program x (inputs_at s cs props es (old_instance old)))
          (found_comes m n s.program plain (omega arith) q (inputs_at s cs props es (old_instance old)) few come c x same)

  catcher_comes : (cs : Contexts) (k : Key) (e : Element) (es : Elements) → Comes (suc n) s.program a (elements.catcher k e es) → (caught : Option ℤ)
      → ShapeFits s.program n a (elements.catcher k e es) old (shape_of_catcher cs e es old caught)
  catcher_comes cs k e es c None =
      let kids = node_comes s.program cs n a c.0 (fixed (next c.1 end) c.2) c.3 es c.4 c.5 old o in (
        kids.0,
        kids.1,
        list_comes n s.program (plans_of false a) (fixed (next c.1 end) c.2) (has_fallback c.3) (part cs (e ∷ []) none) (one_few (is_keyed e))
            (comes_less n s.program (cond (is_keyed e) c.2 c.1) e c.6, tt) (fits_none (plans_of false a)),
      )
  catcher_comes cs k e es c (Some x) = (
    has_is_there c.3,
    list_comes n s.program (plans_of false a) (fixed (next c.1 end) c.2) (has_fallback c.3) (part cs (e ∷ []) (fallback_if old)) (one_few (is_keyed e))
        (comes_less n s.program (cond (is_keyed e) c.2 c.1) e c.6, tt) (fallback_fits a old o),
  )

  shape_fits : (cs : Contexts) (e : Element) → Comes (suc n) s.program a e → ShapeFits s.program n a e old (shape_of s cs e old)
  shape_fits cs elements.null c = refl
  shape_fits cs (elements.text t) c =
      (has_is_there c.2, list_comes n s.program (plans_of true a) c.0 (has_primary c.2) (part cs [] none) (no_few c.0) (none_come c.0) (fits_none (plans_of true a)))
    where
      no_few : (q : Plan) → IsFew q elements.none
      no_few (fixed row keyed) = omega arith
      no_few (every limit b) = omega arith

      none_come : (q : Plan) → AllCome n s.program q elements.none
      none_come q = tt
  shape_fits cs (elements.host name k attrs es) c = node_comes s.program cs n a c.0 c.1 c.2 es c.3 c.4 old o
  shape_fits cs (elements.comp i k props es) c =
      let kids = come_listed n s.program c.1 es c.5 c.6 in
      component_comes cs i c.0 c.1 c.2 c.3 c.4 props es kids.0 kids.1 c.7 (elements.comp i k props es)
  shape_fits cs (elements.list marked es) c = node_comes s.program cs n a c.0 c.1 c.2 es c.3 c.4 old o
  shape_fits cs (elements.boundary k e es) c =
      let kids = node_comes s.program cs n a c.0 (fixed (next c.1 end) c.2) c.3 es c.4 c.5 old o in (
        kids.0,
        kids.1,
        primary_fits a old o,
        list_comes n s.program (plans_of false a) (fixed (next c.1 end) c.2) (has_fallback c.3) (part cs (e ∷ []) (fallback_if old)) (one_few (is_keyed e))
            (comes_less n s.program (cond (is_keyed e) c.2 c.1) e c.6, tt) (fallback_fits a old o),
      )
  shape_fits cs (elements.catcher k e es) c = catcher_comes cs k e es c (old_caught old)
  shape_fits cs (elements.provider i k x es) c = node_comes s.program (slice_set cs i x) n a c.0 c.1 c.2 es c.3 c.4 old o

module _ (s : Sight) (plain : IsPlain s.program) where
  pub unit_fits : (c : Cursor) → HasLevel c → CursorFits s.program c → CursorFits s.program (unit s c)
  unfolding unit
  unit_fits (at_place zero fs cs e old) l h = absurd (omega (arith, l))
  unit_fits (at_place (suc n) fs cs e old) l h =
      begin_fits s.program n fs h.0 e old (shape_of s cs e old) (shape_fits s plain n h.0 old h.2 cs e h.1) h.3
  unit_fits (at_end n fs o done) l h = end_fits s.program n fs o done h
  unit_fits (ended x) l h = h

  pub attempt_fits : (n : ℕ) (fs : List Frame) (cs : Contexts) (e : Element) (o : Option Node) (q f : Part) (w : Awaits) → shape_of s cs e o ≡ two_lists q f
      → CursorFits s.program (at_place (suc n) fs cs e o) → CursorFits s.program (open_part n fs (falling e o w) f)
  attempt_fits n fs cs e o q f w shape h =
      let parts : ShapeFits s.program n h.0 e o (two_lists q f) = rw shape at (shape_fits s plain n h.0 o h.2 cs e h.1) in
      open_fits s.program n fs (falling e o w) f h.0 parts.3 (parts.0, parts.2) tt h.3

  pub start_fits : (tree : Option Node) → FitsOld (root_alts component_levels s.program) tree → CursorFits s.program (start s tree)
  unfolding start
  start_fits tree h = (root_alts component_levels s.program, root_comes component_levels s.program plain, h, refl)
