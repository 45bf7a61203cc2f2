-- A body that throws lies below an error boundary that tries its children.
use Rattle.std.specs.Prelude.{◌≡◌, ℕ, ℤ, suc, Bool, true, false, ◌||◌, List, [], ◌∷◌, Option, Some, IsSome, ◌⊎◌, if◌then◌else◌}
use Rattle.std.proofs.Common.{refl, sym, ap, ◌∙◌, subst, inl, inr}
use Rattle.rx_ctx.specs.Contexts.{Stack}
use Rattle.rx_hooks.specs.declared.hook.Hook.{Hook}
use Rattle.rx_elem.specs.Elements.{Element}
use Rattle.rx_elem.specs.Trees.{Node}
use Rattle.rx_lists.specs.Shapes.{Shape}
use Rattle.rx_links.specs.Drafts.{Draft, taken, Trees, Fits}
use Rattle.rx_links.specs.Places.{Around, after}
use Rattle.rx_meaning.specs.Fresh.{Sight, Contexts, Part, throws, throwing, shape_of}
use Rattle.rx_meaning.specs.Cursor.{Open, around, trying, falling, guarding, Frame, Cursor, at_place, begin, ended, open_part, past_throw, unit, unwind_throw}
use Rattle.rx_fiber.specs.Fibers.{Fiber}
use Rattle.rx_fiber.specs.Surround.{IsOpenAs, opens, tries, falls, guards, IsAround, inside, IsListOf, of_node, of_fallback}
use Rattle.rx_fiber.specs.Surround as surround
use Rattle.rx_fiber.specs.Unwound.{IsWithin, catches, is_guarded, is_guarding}
use Rattle.rx_complete.specs.Ends.{Outer, IsGuardedAt, nearest_catch}
use Rattle.rx_causes.specs.declared.scene.Scene.{Scene}
use Rattle.rx_causes.specs.Scenes.{IsSceneOf}
use Rattle.rx_children.specs.declared.node.Begun.TheVariants as answers
use Rattle.rx_ways.specs.Ways.{is_way}
use Rattle.rx_begin.specs.Beginning.{BeginsPlace}
use Rattle.begin_laws.proofs.Once.{same_around}
use Rattle.begin_laws.proofs.Unwinding.{nearest_above}
use Rattle.rx_render.specs.Advancing.{CanBegin}

-- Along the fibers

-- an open node that tries the children of an error boundary has a fiber that does
open_guards : (c : Shape Fiber) (ms : List ℕ) (ws : List (ℕ × ℤ)) (v : Fiber) (o : Option ℕ) (cs : Contexts) (x : Open) → IsOpenAs c ms ws v o cs x → catches x ≡ true → is_guarding v.stage ≡ true
open_guards c ms ws v o cs _ (opens element mark shown) h = absurd (cc h)
open_guards c ms ws v o cs _ (tries element s is was stands) h = absurd (cc h)
open_guards c ms ws v o cs _ (falls element mark gone) h = absurd (cc h)
open_guards c ms ws v o cs _ (guards element s is) h = ap is_guarding s

or_cases : (a b : Bool) → (a || b) ≡ true → (a ≡ true) ⊎ (b ≡ true)
or_cases true b h = inl refl
or_cases false b h = inr h

-- a fiber is the nearest one, or there is one further out
near_or_out : (b : Bool) (x : Outer) (further : Option Outer) → (b ≡ true) ⊎ IsSome further → IsSome (if b then Some x else further)
near_or_out true x further h = refl
near_or_out false x further (inl h) = absurd (cc h)
near_or_out false x further (inr h) = h

mutual
  guards_around : (c : Shape Fiber) (k : Around Fiber) (n : ℕ) (rs : Draft Fiber) (fs : List Frame) → IsAround c k n rs fs → is_guarded fs ≡ true → IsSome (nearest_catch k)
  guards_around c _ _ _ _ surround.at_root h = absurd (cc h)
  guards_around c k n rs (f ∷ fs) (inside before behind list) h = guards_list c k _ f.node f.contexts fs list h

  guards_list : (c : Shape Fiber) (k : Around Fiber) (q : ℕ) (x : Open) (cs : Contexts) (fs : List Frame) → IsListOf c k q x cs fs → (catches x || is_guarded fs) ≡ true → IsSome (nearest_catch k)
  guards_list c k q x cs fs (of_node {k₁ = k₁} {v = v} {o = o} {rest = rest} above opened own outside) h =
      subst IsSome (sym (nearest_above is_guarding k ∙ ap nearest_catch above))
      (near_or_out (is_guarding v.stage) (record { around = k₁; id = q; value = v; old = o; rest = rest }) (nearest_catch k₁) (elim (or_cases (catches x) (is_guarded fs) h) [
        | inl here ↦ inl (open_guards c _ _ v o cs x opened here)
        | inr out ↦ inr (guards_around c k₁ v.place rest fs outside out)
      ]))
  guards_list c k q _ cs fs (of_fallback {k₁ = k₁} {b = b} {v = v} {w = w} {o = o} {p = p} {kept = kept} {rest = rest} above kept_as own behind outside) h =
      subst IsSome (sym (nearest_above is_guarding k ∙ ap nearest_catch above))
      (near_or_out (is_guarding w.stage) (record { around = after b v o (taken kept) k₁; id = q; value = w; old = p; rest = rest }) (nearest_catch k₁) (inr (guards_around c k₁ v.place rest fs outside h)))

-- if a body throws, an error boundary tries its children outside of its fiber
pub throws_guarded : (scene : Scene) (kept : ℕ → Option (List Hook)) (t : Trees Fiber) (st : Stack) (new : Trees Fiber) (st' : Stack) (id : ℕ) (x : ℤ) → Fits t → CanBegin scene kept t st id
    → ((s : Sight) → IsSceneOf scene s → BeginsPlace s (is_way scene.ways.now) kept t st new st' id (answers.Thrown x)) → IsGuardedAt new id
throws_guarded scene kept t st new st' id x fits can begins k v o ks rs here =
    let b = begins can.sight can.sees can.levels can.frames can.contexts_are can.element can.old can.stands can.gives can.settled can.covers in
    let w : IsWithin new st' id can.frames = b.4 in
    let fits_new : Fits new = subst Fits (sym b.2) fits in
    let same : w.around ≡ k = same_around new fits_new id w.around w.value w.old w.kids w.rest w.here k v o ks rs here in
    subst (λ l. IsSome (nearest_catch l)) same
    (subst IsSome (nearest_above is_guarding w.beside ∙ (sym (ap nearest_catch w.same_list) ∙ sym (nearest_above is_guarding w.around)))
    (guards_around new.current w.beside w.place w.later can.frames w.surrounds (can.caught x b.0)))

-- Along the cursor

unguarded : (x : Open) (y : ℤ) (outwards : Cursor) (goes : Open → Part → Cursor) → catches x ≡ false → past_throw x y outwards goes ≡ outwards
unguarded (around e m) y outwards goes h = refl
unguarded (trying e old f) y outwards goes h = refl
unguarded (falling e old a) y outwards goes h = refl
unguarded (guarding e f) y outwards goes h = absurd (cc h)

neither : (a b : Bool) → (a || b) ≡ false → (a ≡ false) × (b ≡ false)
neither false b h = (refl, h)
neither true b h = absurd (cc h)

-- if none of the open nodes does, a throw ends the render
pub ends_thrown : (levels : ℕ) (fs : List Frame) (x : ℤ) → is_guarded fs ≡ false → unwind_throw levels fs x ≡ ended (throws x)
ends_thrown levels [] x h = refl
ends_thrown levels (f ∷ fs) x h =
    let (here, out) = neither (catches f.node) (is_guarded fs) h in
    unguarded f.node x (unwind_throw (suc levels) fs x) (open_part levels fs) here ∙ ends_thrown (suc levels) fs x out

-- a unit of a place that throws goes outwards
pub thrown_on : (s : Sight) (n : ℕ) (fs : List Frame) (cs : Contexts) (e : Element) (old : Option Node) (x : ℤ) → shape_of s cs e old ≡ throwing x → unit s (at_place (suc n) fs cs e old) ≡ unwind_throw (suc n) fs x
unfolding unit
thrown_on s n fs cs e old x shape = ap (begin n fs e old) shape
