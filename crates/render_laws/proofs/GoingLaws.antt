-- A render that skips and takes over gives the fresh tree too, in no more units and bodies.
use Rattle.std.specs.Prelude.{◌≡◌, ℕ, zero, suc, ◌+◌, ◌<◌, ◌≤◌, Bool, true, false, cond, List, [], ◌∷◌, ◌++◌, ℤ, Option, Some, None, refl}
use Rattle.std.proofs.Common.{arith, ap, sym, ◌∙◌, subst, add-zero}
use Rattle.rx_base.specs.Awaits.{Awaits}
use Rattle.rx_base.specs.Awaits as awaits
use Rattle.rx_rules.specs.Bounds.{depth_bound}
use Rattle.rx_elem.specs.Elements.{Element}
use Rattle.rx_catch.specs.declared.state.CatchState.TheVariants.{Caught}
use Rattle.rx_elem.specs.Trees.{Node, of_catcher}
use Rattle.rx_meaning.specs.Fresh.{Sight, Contexts, empty, made, waits, throws, one_waits, over_boundary, rendered, fresh, depth_limit, Part, Shape, absent, waiting, throwing, one_list, two_lists, guarded, shape_of, render_part}
use Rattle.rx_meaning.specs.Cursor.{is_null, Open, around, trying, falling, guarding, Frame, Cursor, at_place, at_end, ended, come_to, open_part, arrive, past, unwind, past_throw, unwind_throw, begin, finished, unit, start, StandsAtNode, is_over}
use Rattle.rx_meaning.specs.Touched.{children_with_old}
use Rattle.rx_meaning.specs.Rest.{tree_from, gives}
use Rattle.rx_meaning.specs.Counts.{Weights, each_unit, each_body, begins_as, next_counts, counted, count_around, count_part, if_made, left, whole}
use Rattle.render_laws.proofs.Resuming.{arrive_gives, open_gives, unit_gives, start_gives}
use Rattle.rx_meaning.specs.Levels.{Fits, PartFits}
use Rattle.render_laws.proofs.Counting.{arrive_counts, arrive_stands, part_counts, come_stands, unit_counts, unit_stands, place_begun, begins_one, start_counts}
use Rattle.render_laws.proofs.UnitBound.{one_body}
use Rattle.render_laws.specs.InProgress.{if_ended, InProgress}
use Rattle.rx_meaning.proofs.Depths.{ShapeFits, shape_fits}
use Rattle.render_laws.proofs.LevelLaw.{open_fits, arrive_fits, unit_fits, start_fits}

at_most_one : (c : Cursor) → if_ended c ≤ 1
at_most_one (at_place n fs cs e old) = omega arith
at_most_one (at_end n fs o done) = omega arith
at_most_one (ended empty) = omega arith
at_most_one (ended (made m)) = omega arith
at_most_one (ended (waits a)) = omega arith
at_most_one (ended (throws x)) = omega arith

come_goes_on : (n : ℕ) (fs : List Frame) (o : Open) (cs : Contexts) (done : List (Option Node)) (xs : List (Element × Option Node))
    → if_ended (come_to n fs o cs done xs) ≡ 0
come_goes_on n fs o cs done [] = refl
come_goes_on n fs o cs done (x ∷ xs) = go (is_null x.0) (come_goes_on n fs o cs (done ++ None ∷ []) xs)
  where
    go : (b : Bool) → if_ended (come_to n fs o cs (done ++ None ∷ []) xs) ≡ 0
        → if_ended (cond b (come_to n fs o cs (done ++ None ∷ []) xs) (at_place n ((record { node = o; contexts = cs; done = done; rest = xs }) ∷ fs) cs x.0 x.1)) ≡ 0
    go true k = k
    go false k = refl

nothing_goes_on : (n : ℕ) (fs : List Frame) → if_ended (arrive n fs None) ≡ 0
nothing_goes_on n [] = refl
nothing_goes_on n (f ∷ fs) = come_goes_on n fs f.node f.contexts (f.done ++ None ∷ []) f.rest

past_goes_on : (n : ℕ) (fs : List Frame) (o : Open) (a : Awaits) → ((b : Awaits) → if_ended (unwind (suc n) fs b) ≡ 0)
    → if_ended (past o a (unwind (suc n) fs) (open_part n fs)) ≡ 0
past_goes_on n fs (around e m) a out = out a
past_goes_on n fs (trying e old f) a out = come_goes_on n fs (falling e old a) f.contexts [] (children_with_old f)
past_goes_on n fs (falling e old b) a out = out (awaits.union b a)
past_goes_on n fs (guarding e f) a out = out a

unwind_goes_on : (n : ℕ) (fs : List Frame) (a : Awaits) → if_ended (unwind n fs a) ≡ 0
unwind_goes_on n [] a = refl
unwind_goes_on n (f ∷ fs) a = past_goes_on n fs f.node a (unwind_goes_on (suc n) fs)

past_throw_goes_on : (n : ℕ) (fs : List Frame) (o : Open) (x : ℤ) → if_ended (unwind_throw (suc n) fs x) ≡ 0
    → if_ended (past_throw o x (unwind_throw (suc n) fs x) (open_part n fs)) ≡ 0
past_throw_goes_on n fs (around e m) x out = out
past_throw_goes_on n fs (trying e old f) x out = out
past_throw_goes_on n fs (falling e old a) x out = out
past_throw_goes_on n fs (guarding e f) x out = come_goes_on n fs (around e (of_catcher (Caught x))) f.contexts [] (children_with_old f)

unwind_throw_goes_on : (n : ℕ) (fs : List Frame) (x : ℤ) → if_ended (unwind_throw n fs x) ≡ 0
unwind_throw_goes_on n [] x = refl
unwind_throw_goes_on n (f ∷ fs) x = past_throw_goes_on n fs f.node x (unwind_throw_goes_on (suc n) fs x)

begin_goes_on : (n : ℕ) (fs : List Frame) (e : Element) (old : Option Node) (shape : Shape) → if_ended (begin n fs e old shape) ≡ 0
begin_goes_on n fs e old absent = nothing_goes_on (suc n) fs
begin_goes_on n fs e old (waiting r v) = unwind_goes_on (suc n) fs (awaits.one r)
begin_goes_on n fs e old (throwing x) = unwind_throw_goes_on (suc n) fs x
begin_goes_on n fs e old (one_list m p) = come_goes_on n fs (around e m) p.contexts [] (children_with_old p)
begin_goes_on n fs e old (two_lists p f) = come_goes_on n fs (trying e old f) p.contexts [] (children_with_old p)
begin_goes_on n fs e old (guarded p f) = come_goes_on n fs (guarding e f) p.contexts [] (children_with_old p)

begins_body : (cs : Contexts) (e : Element) (old : Option Node) (shape : Shape) → begins_as each_body cs e old shape ≤ 1
begins_body cs e old absent = omega arith
begins_body cs e old (waiting r v) = one_body e
begins_body cs e old (throwing x) = one_body e
begins_body cs e old (one_list m p) = one_body e
begins_body cs e old (two_lists p f) = one_body e
begins_body cs e old (guarded p f) = one_body e

-- a unit that ends the render in a node evaluates no body, and each other one at most one
one_or_end : (s : Sight) (c : Cursor) → is_over c ≡ false → next_counts each_body s c + if_ended (unit s c) ≤ 1
unfolding unit
one_or_end s (at_place zero fs cs e old) h = omega (arith, nothing_goes_on zero fs)
one_or_end s (at_place (suc n) fs cs e old) h = omega (arith, begins_body cs e old (shape_of s cs e old), begin_goes_on n fs e old (shape_of s cs e old))
one_or_end s (at_end n fs o done) h = omega (arith, at_most_one (arrive n fs (Some (finished o done))))
one_or_end s (ended p) h = absurd (cc h)

not_ended : (c : Cursor) → is_over c ≡ false → if_ended c ≡ 0
not_ended (at_place n fs cs e old) h = refl
not_ended (at_end n fs o done) h = refl
not_ended (ended p) h = absurd (cc h)

start_not_ended : (s : Sight) (old : Option Node) → if_ended (start s old) ≡ 0
unfolding start
start_not_ended s old = refl

start_stands : (s : Sight) (old : Option Node) → StandsAtNode (start s old)
unfolding start
start_stands s old = refl

pub start_holds : (s : Sight) (old : Option Node) → depth_bound s.program ≤ depth_limit → InProgress s old zero zero (start s old)
start_holds s old deep =
    record {
      gives_fresh = start_gives s old;
      fits = start_fits s deep old;
      stands = start_stands s old;
      units_bound = omega (arith, start_counts each_unit s old);
      bodies_bound = omega (arith, start_counts each_body s old);
      fewer = omega (arith, start_not_ended s old);
    }

unit_counts_one : (s : Sight) (c : Cursor) → is_over c ≡ false → next_counts each_unit s c ≡ 1
unit_counts_one s (at_place zero fs cs e old) h = refl
unit_counts_one s (at_place (suc n) fs cs e old) h = begins_one cs e old (shape_of s cs e old)
unit_counts_one s (at_end n fs o done) h = refl
unit_counts_one s (ended p) h = absurd (cc h)

pub unit_holds : (s : Sight) (old : Option Node) (units bodies : ℕ) (c : Cursor) → InProgress s old units bodies c → is_over c ≡ false
    → (evaluated : ℕ) → evaluated ≤ next_counts each_body s c → InProgress s old (suc units) (bodies + evaluated) (unit s c)
unit_holds s old units bodies c h busy evaluated most =
    record {
      gives_fresh = unit_gives s c ∙ h.gives_fresh;
      fits = unit_fits s c h.fits;
      stands = unit_stands s c;
      units_bound = omega (arith, h.units_bound, unit_counts each_unit s c h.stands, unit_counts_one s c busy);
      bodies_bound = omega (arith, h.bodies_bound, unit_counts each_body s c h.stands, most);
      fewer = omega (arith, h.fewer, one_or_end s c busy, not_ended c busy, most);
    }

left_at : (w : Weights) (s : Sight) (n : ℕ) (fs : List Frame) (cs : Contexts) (e : Element) (old : Option Node)
    → left w s (at_place n fs cs e old) ≡ counted w n s cs e old + count_around w n s fs (rendered n s cs e old)
unfolding left
left_at w s n fs cs e old = refl

gives_at : (s : Sight) (n : ℕ) (fs : List Frame) (cs : Contexts) (e : Element) (old : Option Node)
    → gives s (at_place n fs cs e old) ≡ tree_from n s fs (rendered n s cs e old)
unfolding gives
gives_at s n fs cs e old = refl

pub taken_left : (w : Weights) (s : Sight) (n : ℕ) (fs : List Frame) (cs : Contexts) (e : Element) (o : Node) → rendered n s cs e (Some o) ≡ made o
    → left w s (at_place n fs cs e (Some o)) ≡ counted w n s cs e (Some o) + left w s (arrive n fs (Some o))
taken_left w s n fs cs e o again =
    left_at w s n fs cs e (Some o)
    ∙ ap (λ k. counted w n s cs e (Some o) + k) (ap (count_around w n s fs) again ∙ sym (arrive_counts w n s fs (Some o)))

-- A place that would be rendered to its old node takes it over.
pub take_holds : (s : Sight) (old : Option Node) (units bodies n : ℕ) (fs : List Frame) (cs : Contexts) (e : Element) (o : Node) → rendered n s cs e (Some o) ≡ made o
    → InProgress s old units bodies (at_place n fs cs e (Some o)) → InProgress s old (suc units) bodies (arrive n fs (Some o))
take_holds s old units bodies n fs cs e o again h =
    record {
      gives_fresh = arrive_gives n s fs (Some o) ∙ (ap (tree_from n s fs) (sym again) ∙ (sym (gives_at s n fs cs e (Some o)) ∙ h.gives_fresh));
      fits = arrive_fits s.program n fs (Some o) h.fits.1;
      stands = arrive_stands n fs (Some o);
      units_bound = omega (arith, h.units_bound, taken_left each_unit s n fs cs e o again, place_begun n s cs e (Some o) h.stands);
      bodies_bound = omega (arith, h.bodies_bound, taken_left each_body s n fs cs e o again);
      fewer = omega (arith, h.fewer, at_most_one (arrive n fs (Some o)));
    }

-- A boundary whose children would wait again

two_lists_at : (w : Weights) (s : Sight) (n : ℕ) (cs : Contexts) (e : Element) (o : Option Node) (p f : Part) (a : Awaits) → shape_of s cs e o ≡ two_lists p f
    → render_part (rendered n s) p ≡ one_waits a
    → (counted w (suc n) s cs e o ≡ w.begins cs e o + (count_part (counted w n s) (rendered n s) p + (count_part (counted w n s) (rendered n s) f + if_made (render_part (rendered n s) f) w.completes)))
    × (rendered (suc n) s cs e o ≡ over_boundary e o (one_waits a) (render_part (rendered n s) f))
unfolding counted rendered
two_lists_at w s n cs e o p f a shape waited =
    (rw (shape, waited) (omega arith), rw (shape, waited) refl)

attempt_left : (w : Weights) (s : Sight) (n : ℕ) (fs : List Frame) (cs : Contexts) (e : Element) (o : Option Node) (p f : Part) (a : Awaits) → shape_of s cs e o ≡ two_lists p f
    → render_part (rendered n s) p ≡ one_waits a
    → left w s (at_place (suc n) fs cs e o) ≡ (w.begins cs e o + count_part (counted w n s) (rendered n s) p) + left w s (open_part n fs (falling e o a) f)
attempt_left w s n fs cs e o p f a shape waited =
    let at = two_lists_at w s n cs e o p f a shape waited in
    left_at w s (suc n) fs cs e o
    ∙ rw (at.0, at.1) (omega (arith, part_counts w n s fs (falling e o a) f))

attempt_gives : (s : Sight) (n : ℕ) (fs : List Frame) (cs : Contexts) (e : Element) (o : Option Node) (p f : Part) (a : Awaits) → shape_of s cs e o ≡ two_lists p f
    → render_part (rendered n s) p ≡ one_waits a → gives s (open_part n fs (falling e o a) f) ≡ gives s (at_place (suc n) fs cs e o)
attempt_gives s n fs cs e o p f a shape waited =
    open_gives n s fs (falling e o a) f
    ∙ (ap (tree_from (suc n) s fs) (sym (two_lists_at each_unit s n cs e o p f a shape waited).1) ∙ sym (gives_at s (suc n) fs cs e o))

two_lists_fit : (s : Sight) (n : ℕ) (cs : Contexts) (e : Element) (o : Option Node) (p f : Part) → shape_of s cs e o ≡ two_lists p f → Fits (suc n) s.program e
    → PartFits n s.program f
two_lists_fit s n cs e o p f shape fits =
    let both : ShapeFits n s.program (two_lists p f) = subst (ShapeFits n s.program) shape (shape_fits n s cs e o fits) in both.1

pub attempt_holds : (s : Sight) (old : Option Node) (units bodies n : ℕ) (fs : List Frame) (cs : Contexts) (e : Element) (o : Option Node) (p f : Part) (a : Awaits)
    → shape_of s cs e o ≡ two_lists p f → render_part (rendered n s) p ≡ one_waits a
    → InProgress s old units bodies (at_place (suc n) fs cs e o) → InProgress s old (suc units) bodies (open_part n fs (falling e o a) f)
attempt_holds s old units bodies n fs cs e o p f a shape waited h =
    record {
      gives_fresh = attempt_gives s n fs cs e o p f a shape waited ∙ h.gives_fresh;
      fits = open_fits s.program n fs (falling e o a) f (two_lists_fit s n cs e o p f shape h.fits.0) tt h.fits.1;
      stands = come_stands n fs (falling e o a) f.contexts [] (children_with_old f);
      units_bound = omega (arith, h.units_bound, attempt_left each_unit s n fs cs e o p f a shape waited);
      bodies_bound = omega (arith, h.bodies_bound, attempt_left each_body s n fs cs e o p f a shape waited);
      fewer = omega (arith, h.fewer, come_goes_on n fs (falling e o a) f.contexts [] (children_with_old f));
    }

something_left : (s : Sight) (c : Cursor) → StandsAtNode c → is_over c ≡ false → 1 ≤ left each_unit s c
unfolding left
something_left s (at_place n fs cs e old) h busy = omega (arith, place_begun n s cs e old h)
something_left s (at_end n fs o done) h busy = omega arith
something_left s (ended p) h busy = absurd (cc busy)

unit_at : (s : Sight) (n : ℕ) (fs : List Frame) (cs : Contexts) (e : Element) (o : Option Node) → unit s (at_place (suc n) fs cs e o) ≡ begin n fs e o (shape_of s cs e o)
unfolding unit
unit_at s n fs cs e o = refl

-- A place begins without its body if it is known what stands there.
pub skip_holds : (s : Sight) (old : Option Node) (units bodies n : ℕ) (fs : List Frame) (cs : Contexts) (e : Element) (o : Option Node) (shape : Shape)
    → shape_of s cs e o ≡ shape → InProgress s old units bodies (at_place (suc n) fs cs e o) → InProgress s old (suc units) bodies (begin n fs e o shape)
skip_holds s old units bodies n fs cs e o shape known h =
    subst (λ (b : ℕ). InProgress s old (suc units) b (begin n fs e o shape)) (add-zero bodies)
    (subst (λ (x : Cursor). InProgress s old (suc units) (bodies + 0) x) (unit_at s n fs cs e o ∙ ap (begin n fs e o) known)
    (unit_holds s old units bodies (at_place (suc n) fs cs e o) h refl 0 (omega arith)))

pub holds_unfinished : {s : Sight} {old : Option Node} {units bodies : ℕ} {c : Cursor} → InProgress s old units bodies c → is_over c ≡ false → units < whole each_unit s old
holds_unfinished {s = s} {c = c} h busy = omega (arith, h.units_bound, something_left s c h.stands busy)

pub holds_last : {s : Sight} {old : Option Node} {units bodies : ℕ} {n : Node} → InProgress s old units bodies (ended (made n)) → (fresh s old ≡ made n) × (bodies < units)
unfolding gives
holds_last h = (sym h.gives_fresh, omega (arith, h.fewer))
