-- No render of a program within the depth limit comes to a place that has no level left.
use Rattle.std.specs.Prelude.{◌≡◌, ℕ, zero, suc, ◌≤◌, Bool, true, false, cond, List, [], ◌∷◌, ◌++◌, ℤ, Option, Some, None}
use Rattle.std.specs.List.{zip}
use Rattle.std.proofs.Common.{arith}
use Rattle.rx_meaning.specs.Levels.{body_depth, elements_depth, Fits, PartFits}
use Rattle.rx_ast.specs.Syntax.{Program}
use Rattle.rx_base.specs.Awaits.{Awaits}
use Rattle.rx_base.specs.Awaits as awaits
use Rattle.rx_elem.specs.Elements.{Element, Elements, gathered, listed}
use Rattle.rx_elem.specs.Elements as elements
use Rattle.rx_catch.specs.declared.state.CatchState.TheVariants.{Caught}
use Rattle.rx_elem.specs.Trees.{Node, of_catcher}
use Rattle.rx_elem.specs.Compare.{old_nodes}
use Rattle.rx_rules.specs.Bounds.{depth_bound}
use Rattle.rx_meaning.specs.Fresh.{Sight, Contexts, depth_limit, Part, Shape, absent, waiting, throwing, one_list, two_lists, guarded, shape_of}
use Rattle.rx_meaning.specs.Touched.{children_with_old}
use Rattle.rx_meaning.specs.Cursor.{is_null, Open, around, trying, falling, guarding, Frame, Cursor, at_place, at_end, ended, come_to, open_part, arrive, past, unwind, past_throw, unwind_throw, begin, finished, unit, start, after, StandsAtNode, HasLevel}
use Rattle.render_laws.specs.InProgress.{AllFit, OpenFits, FramesFit, CursorFits}
use Rattle.rx_meaning.proofs.Depths.{ShapeFits, shape_fits}
use Rattle.render_laws.proofs.Counting.{after_stands}

zip_fits : (n : ℕ) (p : Program) (es : List Element) (olds : List (Option Node)) → elements_depth (body_depth n p) (gathered es) ≤ n → AllFit n p (zip es olds)
zip_fits n p [] olds h = tt
zip_fits n p (e ∷ es) [] h = tt
zip_fits n p (e ∷ es) (o ∷ olds) h = (omega arith, zip_fits n p es olds (omega arith))

come_fits : (p : Program) (n : ℕ) (fs : List Frame) (o : Open) (cs : Contexts) (done : List (Option Node)) (xs : List (Element × Option Node))
    → AllFit n p xs → OpenFits n p o → FramesFit (suc n) p fs → CursorFits p (come_to n fs o cs done xs)
come_fits p n fs o cs done [] h k l = l
come_fits p n fs o cs done (x ∷ xs) h k l = go (is_null x.0) (come_fits p n fs o cs (done ++ None ∷ []) xs h.1 k l)
  where
    go : (b : Bool) → CursorFits p (come_to n fs o cs (done ++ None ∷ []) xs)
        → CursorFits p (cond b (come_to n fs o cs (done ++ None ∷ []) xs) (at_place n ((record { node = o; contexts = cs; done = done; rest = xs }) ∷ fs) cs x.0 x.1))
    go true i = i
    go false i = (h.0, (h.1, k, l))

pub open_fits : (p : Program) (n : ℕ) (fs : List Frame) (o : Open) (t : Part) → PartFits n p t → OpenFits n p o → FramesFit (suc n) p fs
    → CursorFits p (open_part n fs o t)
open_fits p n fs o t h k l = come_fits p n fs o t.contexts [] (children_with_old t) (zip_fits n p t.elements (old_nodes t.old t.elements) h) k l

pub arrive_fits : (p : Program) (n : ℕ) (fs : List Frame) (m : Option Node) → FramesFit n p fs → CursorFits p (arrive n fs m)
arrive_fits p n [] m h = tt
arrive_fits p n (f ∷ fs) m h = come_fits p n fs f.node f.contexts (f.done ++ m ∷ []) f.rest h.0 h.1 h.2

past_fits : (p : Program) (n : ℕ) (fs : List Frame) (o : Open) (a : Awaits) → OpenFits n p o → FramesFit (suc n) p fs
    → ((b : Awaits) → CursorFits p (unwind (suc n) fs b)) → CursorFits p (past o a (unwind (suc n) fs) (open_part n fs))
past_fits p n fs (around e m) a h k out = out a
past_fits p n fs (trying e old f) a h k out = open_fits p n fs (falling e old a) f h tt k
past_fits p n fs (falling e old b) a h k out = out (awaits.union b a)
past_fits p n fs (guarding e f) a h k out = out a

unwind_fits : (p : Program) (n : ℕ) (fs : List Frame) (a : Awaits) → FramesFit n p fs → CursorFits p (unwind n fs a)
unwind_fits p n [] a h = tt
unwind_fits p n (f ∷ fs) a h = past_fits p n fs f.node a h.1 h.2 (λ b. unwind_fits p (suc n) fs b h.2)

past_throw_fits : (p : Program) (n : ℕ) (fs : List Frame) (o : Open) (x : ℤ) → OpenFits n p o → FramesFit (suc n) p fs
    → CursorFits p (unwind_throw (suc n) fs x) → CursorFits p (past_throw o x (unwind_throw (suc n) fs x) (open_part n fs))
past_throw_fits p n fs (around e m) x h k out = out
past_throw_fits p n fs (trying e old f) x h k out = out
past_throw_fits p n fs (falling e old a) x h k out = out
past_throw_fits p n fs (guarding e f) x h k out = open_fits p n fs (around e (of_catcher (Caught x))) f h tt k

unwind_throw_fits : (p : Program) (n : ℕ) (fs : List Frame) (x : ℤ) → FramesFit n p fs → CursorFits p (unwind_throw n fs x)
unwind_throw_fits p n [] x h = tt
unwind_throw_fits p n (f ∷ fs) x h = past_throw_fits p n fs f.node x h.1 h.2 (unwind_throw_fits p (suc n) fs x h.2)

begin_fits : (p : Program) (n : ℕ) (fs : List Frame) (e : Element) (old : Option Node) (shape : Shape) → ShapeFits n p shape → FramesFit (suc n) p fs
    → CursorFits p (begin n fs e old shape)
begin_fits p n fs e old absent h k = arrive_fits p (suc n) fs None k
begin_fits p n fs e old (waiting r v) h k = unwind_fits p (suc n) fs (awaits.one r) k
begin_fits p n fs e old (throwing x) h k = unwind_throw_fits p (suc n) fs x k
begin_fits p n fs e old (one_list m t) h k = open_fits p n fs (around e m) t h tt k
begin_fits p n fs e old (two_lists t f) h k = open_fits p n fs (trying e old f) t h.0 h.1 k
begin_fits p n fs e old (guarded t f) h k = open_fits p n fs (guarding e f) t h.0 h.1 k

pub unit_fits : (s : Sight) (c : Cursor) → CursorFits s.program c → CursorFits s.program (unit s c)
unfolding unit
unit_fits s (at_place zero fs cs e old) h = arrive_fits s.program zero fs None h.1
unit_fits s (at_place (suc n) fs cs e old) h = begin_fits s.program n fs e old (shape_of s cs e old) (shape_fits n s cs e old h.0) h.1
unit_fits s (at_end n fs o done) h = arrive_fits s.program n fs (Some (finished o done)) h
unit_fits s (ended p) h = tt

pub start_fits : (s : Sight) → depth_bound s.program ≤ depth_limit → (old : Option Node) → CursorFits s.program (start s old)
unfolding start depth_bound
start_fits s b old = (omega arith, tt)

pub after_fits : (k : ℕ) (s : Sight) → depth_bound s.program ≤ depth_limit → (old : Option Node) → CursorFits s.program (after k s old)
after_fits zero s b old = start_fits s b old
after_fits (suc k) s b old = unit_fits s (after k s old) (after_fits k s b old)

pub not_deepest : (p : Program) (e : Element) → Fits zero p e → is_null e ≡ false → 1 ≤ zero
not_deepest p elements.null h k = absurd (cc k)
not_deepest p (elements.text t) h k = absurd (omega arith)
not_deepest p (elements.host name key attrs es) h k = absurd (omega arith)
not_deepest p (elements.comp c key ps es) h k = absurd (omega arith)
not_deepest p (elements.list marked es) h k = absurd (omega arith)
not_deepest p (elements.boundary key f es) h k = absurd (omega arith)
not_deepest p (elements.catcher key f es) h k = absurd (omega arith)
not_deepest p (elements.provider c key x es) h k = absurd (omega arith)

pub fit_has_level : (p : Program) (c : Cursor) → CursorFits p c → StandsAtNode c → HasLevel c
fit_has_level p (at_place zero fs cs e old) h k = not_deepest p e h.0 k
fit_has_level p (at_place (suc n) fs cs e old) h k = omega arith
fit_has_level p (at_end n fs o done) h k = tt
fit_has_level p (ended q) h k = tt

-- Each place that a render comes to has a level left.
pub levels_suffice : (k : ℕ) (s : Sight) → depth_bound s.program ≤ depth_limit → (old : Option Node) → HasLevel (after k s old)
levels_suffice k s b old = fit_has_level s.program (after k s old) (after_fits k s b old) (after_stands k s old)
