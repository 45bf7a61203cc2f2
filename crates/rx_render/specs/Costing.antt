-- What a render costs as it goes.
use Rattle.std.specs.Prelude.{◌≡◌, ℕ, suc, Bool, true, false, List, [], ◌∷◌, Option, Some}
use Rattle.rx_base.specs.Awaits.{Awaits}
use Rattle.rx_susp.specs.declared.boundary.BoundaryState.TheVariants.{Hidden}
use Rattle.rx_elem.specs.Elements.{Element, Elements, Key, boundary}
use Rattle.rx_elem.specs.Trees.{Forest, Node, element_of, node, of_boundary}
use Rattle.rx_hooks.specs.declared.hook.Hook.{Hook}
use Rattle.rx_lists.specs.Shapes.{Shape}
use Rattle.rx_links.specs.Drafts.{Trees}
use Rattle.rx_links.specs.Readers.{IsLinked}
use Rattle.rx_meaning.specs.Again.{AllValuesAgree, AreUnresolved}
use Rattle.rx_meaning.specs.Cursor.{Cursor, Frame, arrive, at_end, at_place, ended, falling, open_part, unit}
use Rattle.rx_meaning.specs.Fresh.{Contexts, Sight, part}
use Rattle.rx_meaning.specs.Touched.{may_throw_anew, sees_refresh}
use Rattle.commit_laws.specs.Each.{ForEach}
use Rattle.commit_laws.specs.Idle.{IsIdle}
use Rattle.commit_laws.specs.WaitsAgain.{without_lanes}
use Rattle.rx_fiber.specs.Fibers.{Fiber}
use Rattle.rx_fiber.specs.Reading.{IsOld}
use Rattle.rx_fiber.specs.Stood.{StandsSame}
use Rattle.rx_fiber.specs.Surround.{given_along}
use Rattle.rx_ways.specs.Ways.{CoversIf}
use Rattle.cost_laws.specs.Evaluated.{stood}
use Rattle.cost_laws.specs.Left.{Flags, MayGo, flag, next_evaluated, unit_flags}
use Rattle.cost_laws.specs.Undue.{IsUndue}
use Rattle.cost_laws.specs.Untouched.{is_untouched}
use Rattle.rx_begin.specs.Beginning.{ReadsTheSame}
use Rattle.begin_laws.specs.Flagged.{FlagsAtEnd, FlagsAtPlace}
use Rattle.begin_laws.specs.Telling.{TellsIf}
use Rattle.rx_render.specs.declared.at.At.{At}
use Rattle.rx_render.specs.declared.at.At.TheVariants.{Begins, Completes, Over}

-- the flags of the lists that are open, if the next unit does this
abbrev pub HasFlags : Trees Fiber → At → Flags → Type 0
HasFlags t (Begins id) us = FlagsAtPlace t id us
HasFlags t (Completes id) us = FlagsAtEnd t id us
HasFlags t Over us = Unit {0}

-- the hooks tell which causes the old node at the place of a cursor has, and the ways cover it: no update is due if it stands on none
abbrev pub CausesAt : Sight → (way : ℕ → Bool) → (kept : ℕ → Option (List Hook)) → Cursor → Type 0
CausesAt s way kept (at_place levels fs cs e old) = TellsIf s kept old × CoversIf way (IsUndue s) old
CausesAt s way kept (at_end levels fs o done) = Unit {0}
CausesAt s way kept (ended p) = Unit {0}

-- What a unit pays that comes from one cursor to another, with these flags before and after: it evaluates what is told of it, and tries no untouched boundary. Past an attempt it evaluates nothing, and the boundary is untouched; past a subtree it evaluates nothing, and no update of its instances is due.
pub data UnitPays (s : Sight) (current : Shape Fiber) (bodies : ℕ) (us : Flags) : (before : Cursor) → Flags → (after : Cursor) → Type 0 where
  by_unit : {c : Cursor} → MayGo s us c → bodies ≡ next_evaluated s c → UnitPays s current bodies us c (unit_flags s us c) (unit s c)
  past_attempt : {n : ℕ} {fs : List Frame} {cs : Contexts} {key : Key} {f : Element} {es : Elements} {a : Awaits} {ns kept : Forest} {o : Option ℕ}
      → bodies ≡ 0 → IsLinked current → StandsSame current (given_along fs) o → IsOld current o (Some (node (boundary key f es) (of_boundary (Hidden a)) ns kept))
      → sees_refresh s ≡ false → may_throw_anew s ≡ false → AreUnresolved s a → AllValuesAgree (without_lanes s) s ns
      → is_untouched s (stood (flag us)) (boundary key f es) (Some (node (boundary key f es) (of_boundary (Hidden a)) ns kept)) ≡ true
      → UnitPays s current bodies us (at_place (suc n) fs cs (boundary key f es) (Some (node (boundary key f es) (of_boundary (Hidden a)) ns kept)))
      (flag us ∷ us)
      (open_part n fs (falling (boundary key f es) (Some (node (boundary key f es) (of_boundary (Hidden a)) ns kept)) a) (part cs (f ∷ []) kept))
  past_subtree : {n : ℕ} {fs : List Frame} {cs : Contexts} {e : Element} {x : Node} {o : Option ℕ}
      → bodies ≡ 0 → IsLinked current → ReadsTheSame s current (given_along fs) cs o x → IsOld current o (Some x) → element_of x ≡ e → IsIdle s x → ForEach (IsUndue s) x
      → UnitPays s current bodies us (at_place (suc n) fs cs e (Some x)) us (arrive (suc n) fs (Some x))

-- so many bodies are paid if the parts come to a cursor, and these are the flags there
pub record Paid (s : Sight) (current : Shape Fiber) (bodies : ℕ) (us : Flags) (before : Cursor) (after : Cursor) (t : Trees Fiber) (at : At) : Type 0 where
  pub flags : Flags
  pub are : HasFlags t at flags
  pub pays : UnitPays s current bodies us before flags after
