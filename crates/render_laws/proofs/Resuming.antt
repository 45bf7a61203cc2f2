-- A unit changes nothing of what the render gives once it is done.
use Rattle.std.specs.Prelude.{◌≡◌, ℕ, zero, suc, Bool, true, false, cond, List, [], ◌∷◌, ◌++◌, ℤ, Option, Some, None, refl}
use Rattle.std.proofs.Common.{ap, sym, ◌∙◌}
use Rattle.rx_base.specs.Awaits.{Awaits}
use Rattle.rx_base.specs.Awaits as awaits
use Rattle.rx_elem.specs.Elements.{Element}
use Rattle.rx_elem.specs.Elements as elements
use Rattle.rx_catch.specs.declared.state.CatchState.TheVariants.{Caught}
use Rattle.rx_elem.specs.Trees.{Node, none, forest, of_catcher}
use Rattle.rx_meaning.specs.Fresh.{Sight, Contexts, Renders, Place, empty, made, waits, throws, Places, all_made, one_waits, one_throws, before, render_all, rendered, fresh, Part, Shape, absent, waiting, throwing, one_list, two_lists, guarded, shape_of, render_part, place_of}
use Rattle.rx_meaning.specs.Touched.{children_with_old}
use Rattle.rx_meaning.specs.Cursor.{given_by, is_null, Open, around, trying, falling, guarding, Frame, Cursor, at_place, at_end, ended, come_to, open_part, arrive, past, unwind, past_throw, unwind_throw, begin, finished, unit, start, after}
use Rattle.rx_meaning.specs.Rest.{onto, from_open, tree_from, gives}

-- Lists

pub onto_push : (done : List (Option Node)) (n : Option Node) (ps : Places) → onto (done ++ n ∷ []) ps ≡ onto done (before (given_by n) ps)
onto_push [] n ps = refl
onto_push (m ∷ ms) n ps = ap (before (given_by m)) (onto_push ms n ps)

pub onto_waits : (done : List (Option Node)) (a : Awaits) → onto done (one_waits a) ≡ one_waits a
onto_waits [] a = refl
onto_waits (None ∷ ns) a = ap (before empty) (onto_waits ns a)
onto_waits (Some n ∷ ns) a = ap (before (made n)) (onto_waits ns a)

pub onto_throws : (done : List (Option Node)) (x : ℤ) → onto done (one_throws x) ≡ one_throws x
onto_throws [] x = refl
onto_throws (None ∷ ns) x = ap (before empty) (onto_throws ns x)
onto_throws (Some n ∷ ns) x = ap (before (made n)) (onto_throws ns x)

pub onto_made : (done : List (Option Node)) → onto done (all_made none) ≡ all_made (forest done)
onto_made [] = refl
onto_made (None ∷ ns) = ap (before empty) (onto_made ns)
onto_made (Some n ∷ ns) = ap (before (made n)) (onto_made ns)

-- a node over a list that is done
pub open_made : (below : Contexts → Renders) (o : Open) (done : List (Option Node)) → from_open below o (all_made (forest done)) ≡ made (finished o done)
open_made below (around e m) done = refl
open_made below (trying e old f) done = refl
open_made below (falling e old a) done = refl
open_made below (guarding e f) done = refl

-- null gives nothing, at any level
pub null_is_empty : (levels : ℕ) (s : Sight) (cs : Contexts) (e : Element) (old : Option Node) → is_null e ≡ true → rendered levels s cs e old ≡ empty
unfolding rendered
null_is_empty zero s cs e old h = refl
null_is_empty (suc n) s cs elements.null old h = refl
null_is_empty (suc n) s cs (elements.text t) old h = absurd (cc h)
null_is_empty (suc n) s cs (elements.host name k attrs es) old h = absurd (cc h)
null_is_empty (suc n) s cs (elements.comp c k ps es) old h = absurd (cc h)
null_is_empty (suc n) s cs (elements.list marked es) old h = absurd (cc h)
null_is_empty (suc n) s cs (elements.boundary k f es) old h = absurd (cc h)
null_is_empty (suc n) s cs (elements.catcher k f es) old h = absurd (cc h)
null_is_empty (suc n) s cs (elements.provider c k x es) old h = absurd (cc h)

-- The parts of a unit

-- what a list gives from a place on, with the nodes around it
abbrev pub from_list : ℕ → Sight → List Frame → Open → Contexts → List (Option Node) → List (Element × Option Node) → Place
from_list levels s fs o cs done xs =
    tree_from (suc levels) s fs (from_open (rendered levels s) o (onto done (render_all (rendered levels s cs) xs)))

come_gives : (levels : ℕ) (s : Sight) (fs : List Frame) (o : Open) (cs : Contexts) (done : List (Option Node)) (xs : List (Element × Option Node))
    → gives s (come_to levels fs o cs done xs) ≡ from_list levels s fs o cs done xs
unfolding gives
come_gives n s fs o cs done [] =
    sym (ap (λ ps. tree_from (suc n) s fs (from_open (rendered n s) o ps)) (onto_made done) ∙ ap (tree_from (suc n) s fs) (open_made (rendered n s) o done))
come_gives n s fs o cs done (x ∷ xs) = go (is_null x.0) refl (come_gives n s fs o cs (done ++ None ∷ []) xs)
  where
    go : (b : Bool) → is_null x.0 ≡ b
        → gives s (come_to n fs o cs (done ++ None ∷ []) xs) ≡ from_list n s fs o cs (done ++ None ∷ []) xs
        → gives s (cond b (come_to n fs o cs (done ++ None ∷ []) xs) (at_place n ((record { node = o; contexts = cs; done = done; rest = xs }) ∷ fs) cs x.0 x.1))
        ≡ from_list n s fs o cs done (x ∷ xs)
    go true h k =
        k
        ∙ (ap (λ ps. tree_from (suc n) s fs (from_open (rendered n s) o ps)) (onto_push done None (render_all (rendered n s cs) xs))
        ∙ ap (λ p. tree_from (suc n) s fs (from_open (rendered n s) o (onto done (before p (render_all (rendered n s cs) xs)))))
        (sym (null_is_empty n s cs x.0 x.1 h)))
    go false h k = refl

pub arrive_gives : (levels : ℕ) (s : Sight) (fs : List Frame) (n : Option Node) → gives s (arrive levels fs n) ≡ tree_from levels s fs (given_by n)
unfolding gives
arrive_gives levels s [] n = refl
arrive_gives levels s (f ∷ fs) n =
    come_gives levels s fs f.node f.contexts (f.done ++ n ∷ []) f.rest
    ∙ ap (λ ps. tree_from (suc levels) s fs (from_open (rendered levels s) f.node ps)) (onto_push f.done n (render_all (rendered levels s f.contexts) f.rest))

pub open_gives : (levels : ℕ) (s : Sight) (fs : List Frame) (o : Open) (p : Part)
    → gives s (open_part levels fs o p) ≡ tree_from (suc levels) s fs (from_open (rendered levels s) o (render_part (rendered levels s) p))
open_gives levels s fs o p = come_gives levels s fs o p.contexts [] (children_with_old p)

past_gives : (levels : ℕ) (s : Sight) (fs : List Frame) (o : Open) (a : Awaits)
    → ((b : Awaits) → gives s (unwind (suc levels) fs b) ≡ tree_from (suc levels) s fs (waits b))
    → gives s (past o a (unwind (suc levels) fs) (open_part levels fs)) ≡ tree_from (suc levels) s fs (from_open (rendered levels s) o (one_waits a))
past_gives levels s fs (around e m) a out = out a
past_gives levels s fs (trying e old f) a out = open_gives levels s fs (falling e old a) f
past_gives levels s fs (falling e old b) a out = out (awaits.union b a)
past_gives levels s fs (guarding e f) a out = out a

unwind_gives : (levels : ℕ) (s : Sight) (fs : List Frame) (a : Awaits) → gives s (unwind levels fs a) ≡ tree_from levels s fs (waits a)
unfolding gives
unwind_gives levels s [] a = refl
unwind_gives levels s (f ∷ fs) a =
    past_gives levels s fs f.node a (unwind_gives (suc levels) s fs)
    ∙ sym (ap (λ ps. tree_from (suc levels) s fs (from_open (rendered levels s) f.node ps)) (onto_waits f.done a))

past_throw_gives : (levels : ℕ) (s : Sight) (fs : List Frame) (o : Open) (x : ℤ)
    → gives s (unwind_throw (suc levels) fs x) ≡ tree_from (suc levels) s fs (throws x)
    → gives s (past_throw o x (unwind_throw (suc levels) fs x) (open_part levels fs)) ≡ tree_from (suc levels) s fs (from_open (rendered levels s) o (one_throws x))
past_throw_gives levels s fs (around e m) x out = out
past_throw_gives levels s fs (trying e old f) x out = out
past_throw_gives levels s fs (falling e old a) x out = out
past_throw_gives levels s fs (guarding e f) x out = open_gives levels s fs (around e (of_catcher (Caught x))) f

unwind_throw_gives : (levels : ℕ) (s : Sight) (fs : List Frame) (x : ℤ) → gives s (unwind_throw levels fs x) ≡ tree_from levels s fs (throws x)
unfolding gives
unwind_throw_gives levels s [] x = refl
unwind_throw_gives levels s (f ∷ fs) x =
    past_throw_gives levels s fs f.node x (unwind_throw_gives (suc levels) s fs x)
    ∙ sym (ap (λ ps. tree_from (suc levels) s fs (from_open (rendered levels s) f.node ps)) (onto_throws f.done x))

begin_gives : (levels : ℕ) (s : Sight) (fs : List Frame) (e : Element) (old : Option Node) (shape : Shape)
    → gives s (begin levels fs e old shape) ≡ tree_from (suc levels) s fs (place_of (rendered levels s) e old shape)
begin_gives levels s fs e old absent = arrive_gives (suc levels) s fs None
begin_gives levels s fs e old (waiting r v) = unwind_gives (suc levels) s fs (awaits.one r)
begin_gives levels s fs e old (throwing x) = unwind_throw_gives (suc levels) s fs x
begin_gives levels s fs e old (one_list m p) = open_gives levels s fs (around e m) p
begin_gives levels s fs e old (two_lists p f) = open_gives levels s fs (trying e old f) p
begin_gives levels s fs e old (guarded p f) = open_gives levels s fs (guarding e f) p

place_gives : (levels : ℕ) (s : Sight) (fs : List Frame) (cs : Contexts) (e : Element) (old : Option Node)
    → gives s (begin levels fs e old (shape_of s cs e old)) ≡ tree_from (suc levels) s fs (rendered (suc levels) s cs e old)
unfolding rendered
place_gives levels s fs cs e old =
    begin_gives levels s fs e old (shape_of s cs e old)

deep_gives : (s : Sight) (fs : List Frame) (cs : Contexts) (e : Element) (old : Option Node)
    → gives s (arrive zero fs None) ≡ tree_from zero s fs (rendered zero s cs e old)
unfolding rendered
deep_gives s fs cs e old = arrive_gives zero s fs None

-- A unit changes nothing of what the render gives.
pub unit_gives : (s : Sight) (c : Cursor) → gives s (unit s c) ≡ gives s c
unfolding gives unit
unit_gives s (at_place zero fs cs e old) = deep_gives s fs cs e old
unit_gives s (at_place (suc levels) fs cs e old) = place_gives levels s fs cs e old
unit_gives s (at_end levels fs o done) = arrive_gives levels s fs (Some (finished o done))
unit_gives s (ended p) = refl

-- At its start a render gives the fresh tree.
pub start_gives : (s : Sight) (old : Option Node) → gives s (start s old) ≡ fresh s old
unfolding gives start fresh
start_gives s old = refl

-- So it does after each unit.
pub after_gives : (k : ℕ) (s : Sight) (old : Option Node) → gives s (after k s old) ≡ fresh s old
after_gives zero s old = start_gives s old
after_gives (suc k) s old = unit_gives s (after k s old) ∙ after_gives k s old

end_gives : (s : Sight) (p : Place) → gives s (ended p) ≡ p
unfolding gives
end_gives s p = refl

-- If no unit is left, the result is the fresh tree.
pub end_is_fresh : (k : ℕ) (s : Sight) (old : Option Node) (p : Place) → after k s old ≡ ended p → p ≡ fresh s old
end_is_fresh k s old p h = sym (end_gives s p) ∙ (ap (gives s) (sym h) ∙ after_gives k s old)
