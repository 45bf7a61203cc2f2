-- What a render has still to evaluate falls with each unit by what the unit evaluates.
use Rattle.std.specs.Prelude.{◌≡◌, ℕ, zero, suc, ◌+◌, Bool, true, false, cond, List, [], ◌∷◌, ◌++◌, ℤ, Option, Some, None, refl}
use Rattle.std.proofs.Common.{arith, ap, sym, ◌∙◌}
use Rattle.rx_base.specs.Awaits.{Awaits}
use Rattle.rx_base.specs.Awaits as awaits
use Rattle.rx_catch.specs.declared.state.CatchState.TheVariants.{Caught}
use Rattle.rx_elem.specs.Elements.{Element}
use Rattle.rx_elem.specs.Elements as elements
use Rattle.rx_elem.specs.Trees.{Node, none, forest, of_catcher}
use Rattle.rx_meaning.specs.Fresh.{Sight, Contexts, made, waits, throws, Places, all_made, one_waits, one_throws, over_boundary, render_all, rendered, Part, Shape, absent, waiting, throwing, one_list, two_lists, guarded, shape_of, render_part, place_of}
use Rattle.rx_meaning.specs.Counts.{try_all, count_part, if_waits}
use Rattle.rx_meaning.specs.Touched.{children_with_old}
use Rattle.rx_meaning.specs.Cursor.{given_by, is_null, Open, around, trying, falling, guarding, Frame, Cursor, at_place, at_end, ended, come_to, open_part, arrive, past, unwind, past_throw, unwind_throw, begin, finished, unit, start}
use Rattle.rx_meaning.specs.Rest.{onto, from_open}
use Rattle.render_laws.proofs.Resuming.{onto_push, onto_waits, onto_throws, onto_made, open_made, null_is_empty}
use Rattle.cost_laws.specs.Evaluated.{Flag, below_node, evaluate_shape, evaluated, once_caught, stood, whole_evaluated}
use Rattle.cost_laws.specs.Untouched.{is_untouched}
use Rattle.cost_laws.specs.Left.{Flags, flag, outer, evaluate_open, evaluate_around, left_evaluated, unwound_by, unwound, thrown_by, thrown_past, begun_flags, unit_flags, begins_evaluated, next_evaluated, MayTry, MayGo}

null_evaluates : (n : ℕ) (s : Sight) (u : Flag) (cs : Contexts) (e : Element) (old : Option Node) → is_null e ≡ true → evaluated n s u cs e old ≡ 0
unfolding evaluated
null_evaluates zero s u cs e old h = refl
null_evaluates (suc n) s u cs elements.null old h = refl
null_evaluates (suc n) s u cs (elements.text t) old h = absurd (cc h)
null_evaluates (suc n) s u cs (elements.host name k attrs es) old h = absurd (cc h)
null_evaluates (suc n) s u cs (elements.comp c k ps es) old h = absurd (cc h)
null_evaluates (suc n) s u cs (elements.list marked es) old h = absurd (cc h)
null_evaluates (suc n) s u cs (elements.boundary k f es) old h = absurd (cc h)
null_evaluates (suc n) s u cs (elements.catcher k f es) old h = absurd (cc h)
null_evaluates (suc n) s u cs (elements.provider c k x es) old h = absurd (cc h)

-- what an open node and those around it evaluate, from what its list gives
abbrev evaluates_from : ℕ → Sight → Flags → List Frame → Open → Places → ℕ
evaluates_from n s us fs o ps =
    evaluate_open (evaluated n s) (rendered n s) (flag (outer us)) o ps + evaluate_around (suc n) s fs (outer us) (from_open (rendered n s) o ps)

-- what a list evaluates from a place on, with the nodes around it
abbrev list_evaluates : ℕ → Sight → Flags → List Frame → Open → Contexts → List (Option Node) → List (Element × Option Node) → ℕ
list_evaluates n s us fs o cs done xs =
    try_all (evaluated n s (flag us) cs) (rendered n s cs) xs + evaluates_from n s us fs o (onto done (render_all (rendered n s cs) xs))

open_evaluates : (n : ℕ) (s : Sight) (u : Flag) (o : Open) (done : List (Option Node))
    → evaluate_open (evaluated n s) (rendered n s) u o (all_made (forest done)) ≡ 0
open_evaluates n s u (around e m) done = refl
open_evaluates n s u (trying e old f) done = refl
open_evaluates n s u (falling e old a) done = refl
open_evaluates n s u (guarding e f) done = refl

end_evaluates : (n : ℕ) (s : Sight) (us : Flags) (fs : List Frame) (o : Open) (done : List (Option Node))
    → evaluate_around (suc n) s fs (outer us) (made (finished o done)) ≡ 0 + evaluates_from n s us fs o (onto done (all_made none))
end_evaluates n s us fs o done =
    rw (onto_made done, open_made (rendered n s) o done, open_evaluates n s (flag (outer us)) o done) (omega arith)

come_evaluates : (n : ℕ) (s : Sight) (us : Flags) (fs : List Frame) (o : Open) (cs : Contexts) (done : List (Option Node)) (xs : List (Element × Option Node))
    → left_evaluated s us (come_to n fs o cs done xs) ≡ list_evaluates n s us fs o cs done xs
unfolding left_evaluated
come_evaluates n s us fs o cs done [] = end_evaluates n s us fs o done
come_evaluates n s us fs o cs done (x ∷ xs) = go (is_null x.0) refl (come_evaluates n s us fs o cs (done ++ None ∷ []) xs)
  where
    go : (b : Bool) → is_null x.0 ≡ b
        → left_evaluated s us (come_to n fs o cs (done ++ None ∷ []) xs) ≡ list_evaluates n s us fs o cs (done ++ None ∷ []) xs
        → left_evaluated s us (cond b (come_to n fs o cs (done ++ None ∷ []) xs) (at_place n ((record { node = o; contexts = cs; done = done; rest = xs }) ∷ fs) cs x.0 x.1))
        ≡ list_evaluates n s us fs o cs done (x ∷ xs)
    go true h k =
        k
        ∙ rw (null_is_empty n s cs x.0 x.1 h, null_evaluates n s (flag us) cs x.0 x.1 h, onto_push done None (render_all (rendered n s cs) xs)) (omega arith)
    go false h k = omega arith

-- What a place leaves to evaluate once it is done is what stands around it.
pub arrive_evaluates : (n : ℕ) (s : Sight) (us : Flags) (fs : List Frame) (m : Option Node) → left_evaluated s us (arrive n fs m) ≡ evaluate_around n s fs us (given_by m)
unfolding left_evaluated
arrive_evaluates n s us [] m = refl
arrive_evaluates n s us (f ∷ fs) m =
    come_evaluates n s us fs f.node f.contexts (f.done ++ m ∷ []) f.rest
    ∙ go m
  where
    go : (m : Option Node) → list_evaluates n s us fs f.node f.contexts (f.done ++ m ∷ []) f.rest ≡ evaluate_around n s (f ∷ fs) us (given_by m)
    go None = rw (onto_push f.done None (render_all (rendered n s f.contexts) f.rest)) refl
    go (Some m) = rw (onto_push f.done (Some m) (render_all (rendered n s f.contexts) f.rest)) refl

-- A node that opens over its list leaves what the list evaluates, and what stands around it.
pub part_evaluates : (n : ℕ) (s : Sight) (us : Flags) (fs : List Frame) (o : Open) (p : Part)
    → left_evaluated s us (open_part n fs o p) ≡ count_part (evaluated n s (flag us)) (rendered n s) p + evaluates_from n s us fs o (render_part (rendered n s) p)
part_evaluates n s us fs o p = come_evaluates n s us fs o p.contexts [] (children_with_old p)

past_evaluates : (n : ℕ) (s : Sight) (us : Flags) (fs : List Frame) (o : Open) (a : Awaits)
    → ((b : Awaits) → left_evaluated s (unwound fs (outer us)) (unwind (suc n) fs b) ≡ evaluate_around (suc n) s fs (outer us) (waits b))
    → left_evaluated s (unwound_by o us (unwound fs (outer us))) (past o a (unwind (suc n) fs) (open_part n fs)) ≡ evaluates_from n s us fs o (one_waits a)
past_evaluates n s us fs (around e m) a out = omega (arith, out a)
past_evaluates n s us fs (trying e old f) a out = omega (arith, part_evaluates n s (flag (outer us) ∷ outer us) fs (falling e old a) f)
past_evaluates n s us fs (falling e old b) a out = omega (arith, out (awaits.union b a))
past_evaluates n s us fs (guarding e f) a out = omega (arith, out a)

unwind_evaluates : (n : ℕ) (s : Sight) (us : Flags) (fs : List Frame) (a : Awaits) → left_evaluated s (unwound fs us) (unwind n fs a) ≡ evaluate_around n s fs us (waits a)
unfolding left_evaluated
unwind_evaluates n s us [] a = refl
unwind_evaluates n s us (f ∷ fs) a =
    past_evaluates n s us fs f.node a (unwind_evaluates (suc n) s (outer us) fs)
    ∙ rw (onto_waits f.done a) (omega arith)

-- a throw goes past each open node but an error boundary that tries its children, whose fallback is evaluated then
past_throw_evaluates : (n : ℕ) (s : Sight) (us : Flags) (fs : List Frame) (o : Open) (x : ℤ)
    → left_evaluated s (thrown_past fs (outer us)) (unwind_throw (suc n) fs x) ≡ evaluate_around (suc n) s fs (outer us) (throws x)
    → left_evaluated s (thrown_by o us (thrown_past fs (outer us))) (past_throw o x (unwind_throw (suc n) fs x) (open_part n fs)) ≡ evaluates_from n s us fs o (one_throws x)
past_throw_evaluates n s us fs (around e m) x out = omega (arith, out)
past_throw_evaluates n s us fs (trying e old f) x out = omega (arith, out)
past_throw_evaluates n s us fs (falling e old a) x out = omega (arith, out)
past_throw_evaluates n s us fs (guarding e f) x out =
    omega (arith, part_evaluates n s (once_caught (flag (outer us)) ∷ outer us) fs (around e (of_catcher (Caught x))) f)

unwind_throw_evaluates : (n : ℕ) (s : Sight) (us : Flags) (fs : List Frame) (x : ℤ) → left_evaluated s (thrown_past fs us) (unwind_throw n fs x) ≡ evaluate_around n s fs us (throws x)
unfolding left_evaluated
unwind_throw_evaluates n s us [] x = refl
unwind_throw_evaluates n s us (f ∷ fs) x =
    past_throw_evaluates n s us fs f.node x (unwind_throw_evaluates (suc n) s (outer us) fs x)
    ∙ rw (onto_throws f.done x) (omega arith)

begin_evaluates : (n : ℕ) (s : Sight) (us : Flags) (fs : List Frame) (cs : Contexts) (e : Element) (old : Option Node) (shape : Shape) → MayTry s (flag us) e old shape
    → evaluate_shape (evaluated n s) (rendered n s) s (flag us) cs e old shape + evaluate_around (suc n) s fs us (place_of (rendered n s) e old shape)
    ≡ begins_evaluated s cs e old shape + left_evaluated s (begun_flags fs us e old shape) (begin n fs e old shape)
begin_evaluates n s us fs cs e old absent h = omega (arith, arrive_evaluates (suc n) s us fs None)
begin_evaluates n s us fs cs e old (waiting r v) h = omega (arith, unwind_evaluates (suc n) s us fs (awaits.one r))
begin_evaluates n s us fs cs e old (throwing x) h = omega (arith, unwind_throw_evaluates (suc n) s us fs x)
begin_evaluates n s us fs cs e old (one_list m p) h = omega (arith, part_evaluates n s (begun_flags fs us e old (one_list m p)) fs (around e m) p)
begin_evaluates n s us fs cs e old (two_lists p f) h =
    let u = below_node (flag us) e old in
    let tried : cond (is_untouched s (stood (flag us)) e old) 0 (count_part (evaluated n s u) (rendered n s) p) ≡ count_part (evaluated n s u) (rendered n s) p =
    ap (λ b. cond b 0 (count_part (evaluated n s u) (rendered n s) p)) h
    in
    omega (arith, tried, part_evaluates n s (u ∷ us) fs (trying e old f) p)
begin_evaluates n s us fs cs e old (guarded p f) h = omega (arith, part_evaluates n s (begun_flags fs us e old (guarded p f)) fs (guarding e f) p)

place_evaluates : (n : ℕ) (s : Sight) (us : Flags) (fs : List Frame) (cs : Contexts) (e : Element) (old : Option Node) → MayTry s (flag us) e old (shape_of s cs e old)
    → evaluated (suc n) s (flag us) cs e old + evaluate_around (suc n) s fs us (rendered (suc n) s cs e old)
    ≡ begins_evaluated s cs e old (shape_of s cs e old) + left_evaluated s (begun_flags fs us e old (shape_of s cs e old)) (begin n fs e old (shape_of s cs e old))
unfolding evaluated rendered
place_evaluates n s us fs cs e old h = begin_evaluates n s us fs cs e old (shape_of s cs e old) h

deep_evaluates : (s : Sight) (us : Flags) (fs : List Frame) (cs : Contexts) (e : Element) (old : Option Node)
    → evaluated zero s (flag us) cs e old + evaluate_around zero s fs us (rendered zero s cs e old) ≡ 0 + left_evaluated s us (arrive zero fs None)
unfolding evaluated rendered
deep_evaluates s us fs cs e old = omega (arith, arrive_evaluates zero s us fs None)

-- A unit takes away what it evaluates.
pub unit_evaluates : (s : Sight) (us : Flags) (c : Cursor) → MayGo s us c → left_evaluated s us c ≡ next_evaluated s c + left_evaluated s (unit_flags s us c) (unit s c)
unfolding left_evaluated unit
unit_evaluates s us (at_place zero fs cs e old) h = deep_evaluates s us fs cs e old
unit_evaluates s us (at_place (suc n) fs cs e old) h = place_evaluates n s us fs cs e old h
unit_evaluates s us (at_end n fs o done) h = omega (arith, arrive_evaluates n s (outer us) fs (Some (finished o done)))
unit_evaluates s us (ended p) h = refl

-- At its start a render has the whole to evaluate.
pub start_evaluates : (s : Sight) (old : Option Node) → left_evaluated s [] (start s old) ≡ whole_evaluated s old
unfolding left_evaluated start whole_evaluated
start_evaluates s old = omega arith

-- What is left at a place is what it evaluates, and what stands around it.
pub evaluated_at : (s : Sight) (us : Flags) (n : ℕ) (fs : List Frame) (cs : Contexts) (e : Element) (old : Option Node)
    → left_evaluated s us (at_place n fs cs e old) ≡ evaluated n s (flag us) cs e old + evaluate_around n s fs us (rendered n s cs e old)
unfolding left_evaluated
evaluated_at s us n fs cs e old = refl

-- A place that is taken over leaves what stands around it.
pub taken_evaluates : (s : Sight) (us : Flags) (n : ℕ) (fs : List Frame) (cs : Contexts) (e : Element) (o : Node) → rendered n s cs e (Some o) ≡ made o
    → left_evaluated s us (at_place n fs cs e (Some o)) ≡ evaluated n s (flag us) cs e (Some o) + left_evaluated s us (arrive n fs (Some o))
taken_evaluates s us n fs cs e o again =
    evaluated_at s us n fs cs e (Some o)
    ∙ ap (λ k. evaluated n s (flag us) cs e (Some o) + k) (ap (evaluate_around n s fs us) again ∙ sym (arrive_evaluates n s us fs (Some o)))

-- A boundary whose children would wait again

waiting_evaluates : (s : Sight) (u : Flag) (n : ℕ) (e : Element) (o : Option Node) (p f : Part) (a : Awaits)
    → render_part (rendered n s) p ≡ one_waits a → is_untouched s (stood u) e o ≡ true
    → cond (is_untouched s (stood u) e o) 0 (count_part (evaluated n s (below_node u e o)) (rendered n s) p)
    + if_waits (render_part (rendered n s) p) (count_part (evaluated n s u) (rendered n s) f)
    ≡ count_part (evaluated n s u) (rendered n s) f
waiting_evaluates s u n e o p f a waited out =
    omega (
      arith,
      ap (λ b. cond b 0 (count_part (evaluated n s (below_node u e o)) (rendered n s) p)) out,
      ap (λ ps. if_waits ps (count_part (evaluated n s u) (rendered n s) f)) waited,
    )

fallback_at : (s : Sight) (u : Flag) (n : ℕ) (cs : Contexts) (e : Element) (o : Option Node) (p f : Part) (a : Awaits) → shape_of s cs e o ≡ two_lists p f
    → render_part (rendered n s) p ≡ one_waits a → is_untouched s (stood u) e o ≡ true
    → (evaluated (suc n) s u cs e o ≡ count_part (evaluated n s u) (rendered n s) f)
    × (rendered (suc n) s cs e o ≡ over_boundary e o (one_waits a) (render_part (rendered n s) f))
unfolding evaluated rendered
fallback_at s u n cs e o p f a shape waited out = (
  ap (evaluate_shape (evaluated n s) (rendered n s) s u cs e o) shape ∙ waiting_evaluates s u n e o p f a waited out,
  rw (shape, waited) refl,
)

-- An attempt that is left out, of an untouched boundary, leaves what there was.
pub attempt_evaluates : (s : Sight) (us : Flags) (n : ℕ) (fs : List Frame) (cs : Contexts) (e : Element) (o : Option Node) (p f : Part) (a : Awaits) → shape_of s cs e o ≡ two_lists p f
    → render_part (rendered n s) p ≡ one_waits a → is_untouched s (stood (flag us)) e o ≡ true
    → left_evaluated s us (at_place (suc n) fs cs e o) ≡ left_evaluated s (flag us ∷ us) (open_part n fs (falling e o a) f)
attempt_evaluates s us n fs cs e o p f a shape waited out =
    let at = fallback_at s (flag us) n cs e o p f a shape waited out in
    let around_it : evaluate_around (suc n) s fs us (rendered (suc n) s cs e o) ≡ evaluate_around (suc n) s fs us (over_boundary e o (one_waits a) (render_part (rendered n s) f)) = ap (evaluate_around (suc n) s fs us) at.1 in
    omega (arith, at.0, around_it, evaluated_at s us (suc n) fs cs e o, part_evaluates n s (flag us ∷ us) fs (falling e o a) f)
