-- What a wait leaves of a render: the fibers outside of the place that waits, up to the nearest boundary that tries its children.
use Rattle.std.specs.Prelude.{◌≡◌, ℕ, ℤ, Bool, true, false, List, [], ◌∷◌, Option, if◌then◌else◌}
use Rattle.std.specs.List.{list_any}
use Rattle.rx_base.specs.Awaits.{Awaits, union}
use Rattle.rx_catch.specs.declared.state.CatchState.TheVariants.{Caught}
use Rattle.rx_ctx.specs.Contexts.{Stack, values_at}
use Rattle.rx_elem.specs.Trees.{Node, is_hidden, awaits_in, fallback_if, none, of_catcher}
use Rattle.rx_links.specs.Drafts.{Draft, made, Trees}
use Rattle.rx_links.specs.Places.{Around, placed}
use Rattle.rx_meaning.specs.Fresh.{part}
use Rattle.rx_meaning.specs.Cursor.{Open, Frame, falling, Cursor, open_part}
use Rattle.rx_meaning.specs.Cursor as cursor
use Rattle.rx_fiber.specs.Fibers.{Stage, Fiber, waiting, begun, trying, guarding, fallback}
use Rattle.rx_fiber.specs.declared.stage.Origin.{Origin}
use Rattle.rx_fiber.specs.Reading.{IsOld}
use Rattle.rx_fiber.specs.Surround.{above_list, fallback_in, given_along, moved_along, moves_along, is_boundary, is_catcher, StandsIf, IsAround, IsOfNode}
use Rattle.rx_fiber.specs.Standing.{IsStack, opened}

-- a fiber lies in the list of the innermost of these open nodes, or is the root
pub record IsWithin (t : Trees Fiber) (st : Stack) (p : ℕ) (fs : List Frame) : Type 0 where
  pub around : Around Fiber
  pub value : Fiber
  pub old : Option ℕ
  pub kids : Draft Fiber
  pub rest : Draft Fiber
  pub here : t.draft ≡ placed around (made p value old kids rest)
  -- a place of the list, with what surrounds it
  pub beside : Around Fiber
  pub place : ℕ
  pub later : Draft Fiber
  pub same_list : above_list around ≡ above_list beside
  pub surrounds : IsAround t.current beside place later fs
  pub stack : IsStack st (opened fs)
  pub moves : st.moves ≡ moves_along t.current around

-- the fiber is that of a boundary that tries its children
abbrev pub is_trying : Stage → Bool
is_trying (waiting c) = false
is_trying (begun m) = false
is_trying (trying c) = true
is_trying guarding = false
is_trying (fallback a) = false

-- the fiber is that of an error boundary whose children are tried
abbrev pub is_guarding : Stage → Bool
is_guarding (waiting c) = false
is_guarding (begun m) = false
is_guarding (trying c) = false
is_guarding guarding = true
is_guarding (fallback a) = false

-- an open node tries the children of an error boundary
abbrev pub catches : Open → Bool
catches (cursor.around e m) = false
catches (cursor.trying e old f) = false
catches (cursor.falling e old a) = false
catches (cursor.guarding e f) = true

-- one of these open nodes does
abbrev pub is_guarded : List Frame → Bool
is_guarded fs = list_any (λ f. catches f.node) fs

-- what is waited for outside of a fiber, if these are waited for below it: a fallback that waits passes on what its boundary waits for
abbrev pub passed_on : Stage → Awaits → Awaits
passed_on (waiting c) a = a
passed_on (begun m) a = if is_hidden m then union (awaits_in m) a else a
passed_on (trying c) a = a
passed_on guarding a = a
passed_on (fallback b) a = union b a

-- The fiber, with these children, is that of a boundary at which a wait stops, and the render goes on as c: its fallback opens next, while its children wait for these.
pub record IsLeftAt (t : Trees Fiber) (st : Stack) (q : ℕ) (kids : Draft Fiber) (a : Awaits) (c : Cursor) : Type 0 where
  pub around : Around Fiber
  pub value : Fiber
  pub old : Option ℕ
  pub origin : Origin
  pub rest : Draft Fiber
  pub levels : ℕ
  pub frames : List Frame
  pub node : Option Node
  pub here : t.draft ≡ placed around (made q value old kids rest)
  pub stage : value.stage ≡ trying origin
  pub boundary : is_boundary value.element ≡ true
  pub was : IsOld t.current old node
  pub stands : origin.visible ≡ true → StandsIf t.current (moved_along t.current around) (given_along frames) old
  pub surrounds : IsAround t.current around value.place rest frames
  pub stack : IsStack st (opened frames)
  pub moves : st.moves ≡ moves_along t.current around
  pub opens : c ≡ open_part levels frames (falling value.element node a) (part (values_at st) (fallback_in value.element ∷ []) (fallback_if node))

-- The fiber, with these children, is that of an error boundary at which a thrown value stops, and the render goes on as c: it has caught the value, and its fallback opens next, beside no old nodes.
pub record IsCaughtAt (t : Trees Fiber) (st : Stack) (q : ℕ) (kids : Draft Fiber) (x : ℤ) (c : Cursor) : Type 0 where
  pub around : Around Fiber
  pub value : Fiber
  pub old : Option ℕ
  pub rest : Draft Fiber
  pub levels : ℕ
  pub frames : List Frame
  pub here : t.draft ≡ placed around (made q value old kids rest)
  pub stage : value.stage ≡ guarding
  pub catcher : is_catcher value.element ≡ true
  pub of_node : IsOfNode t.current old
  pub surrounds : IsAround t.current around value.place rest frames
  pub stack : IsStack st (opened frames)
  pub moves : st.moves ≡ moves_along t.current around
  pub opens : c ≡ open_part levels frames (cursor.around value.element (of_catcher (Caught x))) (part (values_at st) (fallback_in value.element ∷ []) none)
