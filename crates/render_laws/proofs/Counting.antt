-- What is left of a render falls with each unit by what the unit counts.
use Rattle.std.specs.Prelude.{◌≡◌, ℕ, zero, suc, ◌+◌, ◌<◌, ◌≤◌, Bool, true, false, cond, List, [], ◌∷◌, ◌++◌, ℤ, Option, Some, None, refl}
use Rattle.std.proofs.Common.{arith, ap, sym, ◌∙◌}
use Rattle.rx_base.specs.Awaits.{Awaits}
use Rattle.rx_base.specs.Awaits as awaits
use Rattle.rx_elem.specs.Elements.{Element}
use Rattle.rx_elem.specs.Elements as elements
use Rattle.rx_catch.specs.declared.state.CatchState.TheVariants.{Caught}
use Rattle.rx_elem.specs.Trees.{Node, none, forest, of_catcher}
use Rattle.rx_meaning.specs.Fresh.{Sight, Contexts, Renders, made, waits, throws, Places, all_made, one_waits, one_throws, over, over_boundary, render_all, rendered, fresh, Part, Shape, absent, waiting, throwing, one_list, two_lists, guarded, shape_of, render_part, place_of}
use Rattle.rx_meaning.specs.Counts.{Tries, try_all, Weights, each_unit, begins_as, if_made, count_part, count_open, count_shape, counted, count_around, left, next_counts, whole, spent}
use Rattle.rx_meaning.specs.Touched.{children_with_old}
use Rattle.rx_meaning.specs.Cursor.{given_by, is_null, Open, around, trying, falling, guarding, Frame, Cursor, at_place, at_end, ended, come_to, open_part, arrive, past, unwind, past_throw, unwind_throw, begin, finished, unit, start, after, StandsAtNode, is_over}
use Rattle.rx_meaning.specs.Rest.{onto, from_open, gives}
use Rattle.render_laws.proofs.Resuming.{onto_push, onto_waits, onto_throws, onto_made, open_made, null_is_empty, after_gives}

null_counts : (w : Weights) (levels : ℕ) (s : Sight) (cs : Contexts) (e : Element) (old : Option Node) → is_null e ≡ true → counted w levels s cs e old ≡ 0
unfolding counted
null_counts w zero s cs e old h = rw h refl
null_counts w (suc n) s cs elements.null old h = refl
null_counts w (suc n) s cs (elements.text t) old h = absurd (cc h)
null_counts w (suc n) s cs (elements.host name k attrs es) old h = absurd (cc h)
null_counts w (suc n) s cs (elements.comp c k ps es) old h = absurd (cc h)
null_counts w (suc n) s cs (elements.list marked es) old h = absurd (cc h)
null_counts w (suc n) s cs (elements.boundary k f es) old h = absurd (cc h)
null_counts w (suc n) s cs (elements.catcher k f es) old h = absurd (cc h)
null_counts w (suc n) s cs (elements.provider c k x es) old h = absurd (cc h)

-- what an open node and those around it count, from what its list gives
abbrev counts_from : Weights → ℕ → Sight → List Frame → Open → Places → ℕ
counts_from w n s fs o ps =
    count_open w (counted w n s) (rendered n s) o ps + count_around w (suc n) s fs (from_open (rendered n s) o ps)

-- what a list counts from a place on, with the nodes around it
abbrev list_counts : Weights → ℕ → Sight → List Frame → Open → Contexts → List (Option Node) → List (Element × Option Node) → ℕ
list_counts w n s fs o cs done xs =
    try_all (counted w n s cs) (rendered n s cs) xs + counts_from w n s fs o (onto done (render_all (rendered n s cs) xs))

open_counts : (w : Weights) (n : ℕ) (s : Sight) (o : Open) (done : List (Option Node))
    → count_open w (counted w n s) (rendered n s) o (all_made (forest done)) ≡ w.completes
open_counts w n s (around e m) done = refl
open_counts w n s (trying e old f) done = omega arith
open_counts w n s (falling e old a) done = refl
open_counts w n s (guarding e f) done = omega arith

end_counts : (w : Weights) (n : ℕ) (s : Sight) (fs : List Frame) (o : Open) (done : List (Option Node))
    → w.completes + count_around w (suc n) s fs (made (finished o done)) ≡ 0 + counts_from w n s fs o (onto done (all_made none))
end_counts w n s fs o done =
    rw (onto_made done, open_made (rendered n s) o done, open_counts w n s o done) (omega arith)

come_counts : (w : Weights) (n : ℕ) (s : Sight) (fs : List Frame) (o : Open) (cs : Contexts) (done : List (Option Node)) (xs : List (Element × Option Node))
    → left w s (come_to n fs o cs done xs) ≡ list_counts w n s fs o cs done xs
unfolding left
come_counts w n s fs o cs done [] = end_counts w n s fs o done
come_counts w n s fs o cs done (x ∷ xs) = go (is_null x.0) refl (come_counts w n s fs o cs (done ++ None ∷ []) xs)
  where
    go : (b : Bool) → is_null x.0 ≡ b
        → left w s (come_to n fs o cs (done ++ None ∷ []) xs) ≡ list_counts w n s fs o cs (done ++ None ∷ []) xs
        → left w s (cond b (come_to n fs o cs (done ++ None ∷ []) xs) (at_place n ((record { node = o; contexts = cs; done = done; rest = xs }) ∷ fs) cs x.0 x.1))
        ≡ list_counts w n s fs o cs done (x ∷ xs)
    go true h k =
        k
        ∙ rw (null_is_empty n s cs x.0 x.1 h, null_counts w n s cs x.0 x.1 h, onto_push done None (render_all (rendered n s cs) xs)) (omega arith)
    go false h k = omega arith

pub arrive_counts : (w : Weights) (n : ℕ) (s : Sight) (fs : List Frame) (m : Option Node) → left w s (arrive n fs m) ≡ count_around w n s fs (given_by m)
unfolding left
arrive_counts w n s [] m = refl
arrive_counts w n s (f ∷ fs) m =
    come_counts w n s fs f.node f.contexts (f.done ++ m ∷ []) f.rest
    ∙ go m
  where
    go : (m : Option Node) → list_counts w n s fs f.node f.contexts (f.done ++ m ∷ []) f.rest ≡ count_around w n s (f ∷ fs) (given_by m)
    go None = rw (onto_push f.done None (render_all (rendered n s f.contexts) f.rest)) refl
    go (Some m) = rw (onto_push f.done (Some m) (render_all (rendered n s f.contexts) f.rest)) refl

pub part_counts : (w : Weights) (n : ℕ) (s : Sight) (fs : List Frame) (o : Open) (p : Part)
    → left w s (open_part n fs o p) ≡ count_part (counted w n s) (rendered n s) p + counts_from w n s fs o (render_part (rendered n s) p)
part_counts w n s fs o p = come_counts w n s fs o p.contexts [] (children_with_old p)

falling_counts : (w : Weights) (n : ℕ) (s : Sight) (fs : List Frame) (e : Element) (old : Option Node) (a : Awaits) (f : Part) (ps : Places)
    → count_part (counted w n s) (rendered n s) f + (if_made ps w.completes + count_around w (suc n) s fs (over_boundary e old (one_waits a) ps))
    ≡ 0 + (count_part (counted w n s) (rendered n s) f + if_made ps w.completes) + count_around w (suc n) s fs (over_boundary e old (one_waits a) ps)
falling_counts w n s fs e old a f ps = omega arith

past_counts : (w : Weights) (n : ℕ) (s : Sight) (fs : List Frame) (o : Open) (a : Awaits)
    → ((b : Awaits) → left w s (unwind (suc n) fs b) ≡ count_around w (suc n) s fs (waits b))
    → left w s (past o a (unwind (suc n) fs) (open_part n fs)) ≡ counts_from w n s fs o (one_waits a)
past_counts w n s fs (around e m) a out = omega (arith, out a)
past_counts w n s fs (trying e old f) a out =
    part_counts w n s fs (falling e old a) f ∙ falling_counts w n s fs e old a f (render_part (rendered n s) f)
past_counts w n s fs (falling e old b) a out = omega (arith, out (awaits.union b a))
past_counts w n s fs (guarding e f) a out = omega (arith, out a)

unwind_counts : (w : Weights) (n : ℕ) (s : Sight) (fs : List Frame) (a : Awaits) → left w s (unwind n fs a) ≡ count_around w n s fs (waits a)
unfolding left
unwind_counts w n s [] a = refl
unwind_counts w n s (f ∷ fs) a =
    past_counts w n s fs f.node a (unwind_counts w (suc n) s fs)
    ∙ rw (onto_waits f.done a) (omega arith)

caught_counts : (w : Weights) (n : ℕ) (s : Sight) (fs : List Frame) (e : Element) (x : ℤ) (f : Part) (ps : Places)
    → count_part (counted w n s) (rendered n s) f + (if_made ps w.completes + count_around w (suc n) s fs (over e (of_catcher (Caught x)) ps))
    ≡ 0 + (count_part (counted w n s) (rendered n s) f + if_made ps w.completes) + count_around w (suc n) s fs (over e (of_catcher (Caught x)) ps)
caught_counts w n s fs e x f ps = omega arith

past_throw_counts : (w : Weights) (n : ℕ) (s : Sight) (fs : List Frame) (o : Open) (x : ℤ)
    → left w s (unwind_throw (suc n) fs x) ≡ count_around w (suc n) s fs (throws x)
    → left w s (past_throw o x (unwind_throw (suc n) fs x) (open_part n fs)) ≡ counts_from w n s fs o (one_throws x)
past_throw_counts w n s fs (around e m) x out = omega (arith, out)
past_throw_counts w n s fs (trying e old f) x out = omega (arith, out)
past_throw_counts w n s fs (falling e old a) x out = omega (arith, out)
past_throw_counts w n s fs (guarding e f) x out =
    part_counts w n s fs (around e (of_catcher (Caught x))) f ∙ caught_counts w n s fs e x f (render_part (rendered n s) f)

unwind_throw_counts : (w : Weights) (n : ℕ) (s : Sight) (fs : List Frame) (x : ℤ) → left w s (unwind_throw n fs x) ≡ count_around w n s fs (throws x)
unfolding left
unwind_throw_counts w n s [] x = refl
unwind_throw_counts w n s (f ∷ fs) x =
    past_throw_counts w n s fs f.node x (unwind_throw_counts w (suc n) s fs x)
    ∙ rw (onto_throws f.done x) (omega arith)

begin_counts : (w : Weights) (n : ℕ) (s : Sight) (fs : List Frame) (cs : Contexts) (e : Element) (old : Option Node) (shape : Shape) → is_null e ≡ false
    → begins_as w cs e old shape + left w s (begin n fs e old shape)
    ≡ count_shape w (counted w n s) (rendered n s) cs e old shape + count_around w (suc n) s fs (place_of (rendered n s) e old shape)
begin_counts w n s fs cs e old absent h = rw (h, arrive_counts w (suc n) s fs None) refl
begin_counts w n s fs cs e old (waiting r v) h = omega (arith, unwind_counts w (suc n) s fs (awaits.one r))
begin_counts w n s fs cs e old (throwing x) h = omega (arith, unwind_throw_counts w (suc n) s fs x)
begin_counts w n s fs cs e old (one_list m p) h = omega (arith, part_counts w n s fs (around e m) p)
begin_counts w n s fs cs e old (two_lists p f) h = omega (arith, part_counts w n s fs (trying e old f) p)
begin_counts w n s fs cs e old (guarded p f) h = omega (arith, part_counts w n s fs (guarding e f) p)

-- Null takes no unit

pub come_stands : (n : ℕ) (fs : List Frame) (o : Open) (cs : Contexts) (done : List (Option Node)) (xs : List (Element × Option Node))
    → StandsAtNode (come_to n fs o cs done xs)
come_stands n fs o cs done [] = tt
come_stands n fs o cs done (x ∷ xs) = go (is_null x.0) refl (come_stands n fs o cs (done ++ None ∷ []) xs)
  where
    go : (b : Bool) → is_null x.0 ≡ b → StandsAtNode (come_to n fs o cs (done ++ None ∷ []) xs)
        → StandsAtNode (cond b (come_to n fs o cs (done ++ None ∷ []) xs) (at_place n ((record { node = o; contexts = cs; done = done; rest = xs }) ∷ fs) cs x.0 x.1))
    go true h k = k
    go false h k = h

pub arrive_stands : (n : ℕ) (fs : List Frame) (m : Option Node) → StandsAtNode (arrive n fs m)
arrive_stands n [] m = tt
arrive_stands n (f ∷ fs) m = come_stands n fs f.node f.contexts (f.done ++ m ∷ []) f.rest

past_stands : (n : ℕ) (fs : List Frame) (o : Open) (a : Awaits) → ((b : Awaits) → StandsAtNode (unwind (suc n) fs b))
    → StandsAtNode (past o a (unwind (suc n) fs) (open_part n fs))
past_stands n fs (around e m) a out = out a
past_stands n fs (trying e old f) a out = come_stands n fs (falling e old a) f.contexts [] (children_with_old f)
past_stands n fs (falling e old b) a out = out (awaits.union b a)
past_stands n fs (guarding e f) a out = out a

unwind_stands : (n : ℕ) (fs : List Frame) (a : Awaits) → StandsAtNode (unwind n fs a)
unwind_stands n [] a = tt
unwind_stands n (f ∷ fs) a = past_stands n fs f.node a (unwind_stands (suc n) fs)

past_throw_stands : (n : ℕ) (fs : List Frame) (o : Open) (x : ℤ) → StandsAtNode (unwind_throw (suc n) fs x)
    → StandsAtNode (past_throw o x (unwind_throw (suc n) fs x) (open_part n fs))
past_throw_stands n fs (around e m) x out = out
past_throw_stands n fs (trying e old f) x out = out
past_throw_stands n fs (falling e old a) x out = out
past_throw_stands n fs (guarding e f) x out = come_stands n fs (around e (of_catcher (Caught x))) f.contexts [] (children_with_old f)

unwind_throw_stands : (n : ℕ) (fs : List Frame) (x : ℤ) → StandsAtNode (unwind_throw n fs x)
unwind_throw_stands n [] x = tt
unwind_throw_stands n (f ∷ fs) x = past_throw_stands n fs f.node x (unwind_throw_stands (suc n) fs x)

begin_stands : (n : ℕ) (fs : List Frame) (e : Element) (old : Option Node) (shape : Shape) → StandsAtNode (begin n fs e old shape)
begin_stands n fs e old absent = arrive_stands (suc n) fs None
begin_stands n fs e old (waiting r v) = unwind_stands (suc n) fs (awaits.one r)
begin_stands n fs e old (throwing x) = unwind_throw_stands (suc n) fs x
begin_stands n fs e old (one_list m p) = come_stands n fs (around e m) p.contexts [] (children_with_old p)
begin_stands n fs e old (two_lists p f) = come_stands n fs (trying e old f) p.contexts [] (children_with_old p)
begin_stands n fs e old (guarded p f) = come_stands n fs (guarding e f) p.contexts [] (children_with_old p)

pub unit_stands : (s : Sight) (c : Cursor) → StandsAtNode (unit s c)
unfolding unit
unit_stands s (at_place zero fs cs e old) = arrive_stands zero fs None
unit_stands s (at_place (suc n) fs cs e old) = begin_stands n fs e old (shape_of s cs e old)
unit_stands s (at_end n fs o done) = arrive_stands n fs (Some (finished o done))
unit_stands s (ended p) = tt

pub after_stands : (k : ℕ) (s : Sight) (old : Option Node) → StandsAtNode (after k s old)
unfolding start
after_stands zero s old = refl
after_stands (suc k) s old = unit_stands s (after k s old)

-- A unit takes away what it counts

place_counts : (w : Weights) (n : ℕ) (s : Sight) (fs : List Frame) (cs : Contexts) (e : Element) (old : Option Node) → is_null e ≡ false
    → counted w (suc n) s cs e old + count_around w (suc n) s fs (rendered (suc n) s cs e old)
    ≡ begins_as w cs e old (shape_of s cs e old) + left w s (begin n fs e old (shape_of s cs e old))
unfolding counted rendered
place_counts w n s fs cs e old h = sym (begin_counts w n s fs cs e old (shape_of s cs e old) h)

deep_counts : (w : Weights) (s : Sight) (fs : List Frame) (cs : Contexts) (e : Element) (old : Option Node) → is_null e ≡ false
    → counted w zero s cs e old + count_around w zero s fs (rendered zero s cs e old) ≡ w.misses + left w s (arrive zero fs None)
unfolding counted rendered
deep_counts w s fs cs e old h = rw (h, arrive_counts w zero s fs None) refl

pub unit_counts : (w : Weights) (s : Sight) (c : Cursor) → StandsAtNode c → left w s c ≡ next_counts w s c + left w s (unit s c)
unfolding left unit
unit_counts w s (at_place zero fs cs e old) h = deep_counts w s fs cs e old h
unit_counts w s (at_place (suc n) fs cs e old) h = place_counts w n s fs cs e old h
unit_counts w s (at_end n fs o done) h = ap (λ k. w.completes + k) (sym (arrive_counts w n s fs (Some (finished o done))))
unit_counts w s (ended p) h = refl

pub start_counts : (w : Weights) (s : Sight) (old : Option Node) → left w s (start s old) ≡ whole w s old
unfolding left start whole
start_counts w s old = omega arith

-- What the units so far count and what is left are the whole.
pub spent_and_left : (w : Weights) (k : ℕ) (s : Sight) (old : Option Node) → spent w k s old + left w s (after k s old) ≡ whole w s old
spent_and_left w zero s old = omega (arith, start_counts w s old)
spent_and_left w (suc k) s old =
    omega (arith, spent_and_left w k s old, unit_counts w s (after k s old) (after_stands k s old))

-- The end

shape_begun : (count : Contexts → Tries) (below : Contexts → Renders) (cs : Contexts) (e : Element) (old : Option Node) (shape : Shape) → is_null e ≡ false
    → 1 ≤ count_shape each_unit count below cs e old shape
shape_begun count below cs e old absent h = rw h (omega arith)
shape_begun count below cs e old (waiting r v) h = omega arith
shape_begun count below cs e old (throwing x) h = omega arith
shape_begun count below cs e old (one_list m p) h = omega arith
shape_begun count below cs e old (two_lists p f) h = omega arith
shape_begun count below cs e old (guarded p f) h = omega arith

pub place_begun : (n : ℕ) (s : Sight) (cs : Contexts) (e : Element) (old : Option Node) → is_null e ≡ false → 1 ≤ counted each_unit n s cs e old
unfolding counted
place_begun zero s cs e old h = rw h (omega arith)
place_begun (suc n) s cs e old h = shape_begun (counted each_unit n s) (rendered n s) cs e old (shape_of s cs e old) h

-- the unit that begins a place counts one
pub begins_one : (cs : Contexts) (e : Element) (old : Option Node) (shape : Shape) → begins_as each_unit cs e old shape ≡ 1
begins_one cs e old absent = refl
begins_one cs e old (waiting r v) = refl
begins_one cs e old (throwing x) = refl
begins_one cs e old (one_list m p) = refl
begins_one cs e old (two_lists p f) = refl
begins_one cs e old (guarded p f) = refl

-- a unit counts one, until there is none
unit_is_one : (s : Sight) (c : Cursor) → StandsAtNode c → 1 ≤ left each_unit s c → next_counts each_unit s c ≡ 1
unfolding left
unit_is_one s (at_place zero fs cs e old) h l = refl
unit_is_one s (at_place (suc n) fs cs e old) h l = begins_one cs e old (shape_of s cs e old)
unit_is_one s (at_end n fs o done) h l = refl
unit_is_one s (ended p) h l = absurd (omega arith)

nothing_left : (s : Sight) (c : Cursor) → StandsAtNode c → left each_unit s c ≤ 0 → c ≡ ended (gives s c)
unfolding left gives
nothing_left s (at_place n fs cs e old) h l = absurd (omega (arith, place_begun n s cs e old h))
nothing_left s (at_end n fs o done) h l = absurd (omega arith)
nothing_left s (ended p) h l = refl

-- each unit so far was one
pub units_spent : (k : ℕ) (s : Sight) (old : Option Node) → k ≤ whole each_unit s old → spent each_unit k s old ≡ k
units_spent zero s old l = refl
units_spent (suc k) s old l =
    let before = units_spent k s old (omega arith) in
    let more : 1 ≤ left each_unit s (after k s old) = omega (arith, spent_and_left each_unit k s old) in
    omega (arith, unit_is_one s (after k s old) (after_stands k s old) more)

-- what is left falls by one with each unit
pub units_left : (k : ℕ) (s : Sight) (old : Option Node) → k ≤ whole each_unit s old → k + left each_unit s (after k s old) ≡ whole each_unit s old
units_left k s old l = omega (arith, spent_and_left each_unit k s old, units_spent k s old l)

-- After all its units a render has given the fresh tree.
pub whole_gives_fresh : (s : Sight) (old : Option Node) → after (whole each_unit s old) s old ≡ ended (fresh s old)
whole_gives_fresh s old =
    nothing_left s (after (whole each_unit s old) s old) (after_stands (whole each_unit s old) s old)
    (omega (arith, units_left (whole each_unit s old) s old (omega arith)))
    ∙ ap ended (after_gives (whole each_unit s old) s old)

-- before that it isn't over
pub not_over : (k : ℕ) (s : Sight) (old : Option Node) → k < whole each_unit s old → is_over (after k s old) ≡ false
unfolding left
not_over k s old l = go (after k s old) (omega (arith, units_left k s old (omega arith)))
  where
    go : (c : Cursor) → 1 ≤ left each_unit s c → is_over c ≡ false
    go (at_place n fs cs e old) m = refl
    go (at_end n fs o done) m = refl
    go (ended p) m = absurd (omega arith)
