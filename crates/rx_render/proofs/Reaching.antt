-- What holds of a render in progress holds where it comes in one unit.
use Rattle.std.specs.Prelude.{◌≡◌, ℕ, suc, ◌+◌, ◌≤◌, false, List, [], ◌∷◌, Option, Some, ◌⊎◌, refl}
use Rattle.std.proofs.Common.{sym, subst, arith, inl, inr}
use Rattle.rx_ast.specs.Syntax.{Program}
use Rattle.rx_check.specs.Checks.{unknowns}
use Rattle.rx_base.specs.Awaits.{Awaits}
use Rattle.rx_susp.specs.declared.boundary.BoundaryState.TheVariants.{Hidden}
use Rattle.rx_elem.specs.Elements.{Element, Elements, Key, listed, boundary}
use Rattle.rx_elem.specs.Trees.{Node, node, Forest, of_boundary, element_of}
use Rattle.rx_lists.specs.Shapes.{Shape}
use Rattle.rx_meaning.specs.Fresh.{Sight, Contexts, Part, part, two_lists, shape_of, render_part, rendered, made, one_waits, default_contexts, version_seen}
use Rattle.rx_meaning.specs.Levels.{PartFits}
use Rattle.rx_meaning.specs.Cursor.{Frame, falling, Cursor, at_place, open_part, arrive, unit, is_over}
use Rattle.rx_meaning.specs.Counts.{each_body, next_counts}
use Rattle.rx_meaning.specs.Settled.{IfReadsHold, IfSettled, ReadsHold, known_by, version_done}
use Rattle.rx_meaning.specs.Touched.{may_throw_anew, sees_refresh}
use Rattle.rx_meaning.proofs.Depths.{shape_fits}
use Rattle.commit_laws.specs.Idle.{IsIdle}
use Rattle.commit_laws.proofs.TakeOver.{idle_again as again}
use Rattle.commit_laws.specs.WaitsAgain.{IfWaitsAgain}
use Rattle.render_laws.specs.InProgress.{InProgress}
use Rattle.render_laws.specs.OldNodes.{CursorHas}
use Rattle.render_laws.proofs.GoingLaws.{unit_holds, attempt_holds, take_holds}
use Rattle.render_laws.proofs.LevelLaw.{fit_has_level}
use Rattle.room_laws.specs.Reached.{IsReached}
use Rattle.room_laws.specs.Reached as steps
use Rattle.draw_laws.specs.Cursors.{CursorDrawn}
use Rattle.rx_fiber.specs.Fibers.{Fiber}
use Rattle.rx_links.specs.Readers.{IsLinked}
use Rattle.rx_fiber.specs.Reading.{IsOld, IsTreeOf}
use Rattle.rx_fiber.specs.Stood.{StandsSame}
use Rattle.rx_fiber.specs.Surround.{given_along}
use Rattle.rx_causes.specs.Reads.{VersionsHold}
use Rattle.rx_causes.proofs.Halves.{reads_known}
use Rattle.rx_begin.specs.Beginning.{ReadsTheSame}
use Rattle.begin_laws.specs.Mounting.{HasInstances}
use Rattle.rx_render.specs.Mounting.{GoesWith}
use Rattle.rx_meaning.specs.Again.{AllValuesAgree, AreUnresolved}
use Rattle.commit_laws.specs.Each.{ForEach}
use Rattle.commit_laws.specs.WaitsAgain.{without_lanes}
use Rattle.cost_laws.specs.Evaluated.{Flag, evaluated as evaluates}
use Rattle.cost_laws.specs.Left.{Costs, Flags, flag}
use Rattle.cost_laws.specs.Undue.{IsUndue}
use Rattle.cost_laws.proofs.CostLaws.{attempt_costs, take_costs, unit_costs}
use Rattle.cost_laws.proofs.Resting.{nothing_rests}
use Rattle.rx_render.specs.Costing.{UnitPays}
use Rattle.rx_render.specs.Costing as paying
use Rattle.rx_render.specs.GivenContexts.{given_contexts, CursorGiven}
use Rattle.rx_render.specs.Advancing.{Goes, by_unit, past_attempt, past_subtree}
use Rattle.rx_render.proofs.Contexts.{unit_given, attempt_given, arrive_given}
use Rattle.rx_render.proofs.Idle.{reads_here}
use Rattle.rx_render.proofs.Instances.{unit_instances, attempt_instances, past_instances, unit_rests, attempt_rests, past_rests}
use Rattle.rx_render.proofs.Waiting.{waits_here}

-- how a unit draws, an attempt that is skipped, and a subtree that is taken over
pub record DrawsOn : Type 0 where
  pub unit : (s : Sight) (c : Cursor) → unknowns s.program ≡ [] → CursorDrawn s.program c → CursorDrawn s.program (unit s c)
  pub attempt : (s : Sight) (n : ℕ) (fs : List Frame) (cs : Contexts) (e : Element) (o : Option Node) (q f : Part) (a : Awaits) → unknowns s.program ≡ []
      → shape_of s cs e o ≡ two_lists q f → CursorDrawn s.program (at_place (suc n) fs cs e o) → CursorDrawn s.program (open_part n fs (falling e o a) f)
  pub subtree : (p : Program) (n : ℕ) (fs : List Frame) (cs : Contexts) (e : Element) (x : Node) → CursorDrawn p (at_place n fs cs e (Some x)) → CursorDrawn p (arrive n fs (Some x))

-- what holds at a cursor of a render over this tree, after so many units and bodies
pub record Reaches (s : Sight) (tree : Option Node) (units bodies : ℕ) (c : Cursor) : Type 0 where
  pub goes : InProgress s tree units bodies c
  pub drawn : CursorDrawn s.program c
  pub given : CursorGiven (default_contexts s.program) c
  pub olds : CursorHas (HasInstances tree) c
  pub rests : CursorHas (GoesWith tree) c
  pub reached : IsReached s.program tree c

module _ (s : Sight) (tree : Option Node) (current : Shape Fiber) (is : IsTreeOf tree current) (settled : IfSettled s.program (known_by s) tree)
    (waits : IfWaitsAgain s (default_contexts s.program) tree) (reads : IfReadsHold (version_done s.journal.updates) (default_contexts s.program) tree)
    (versions : sees_refresh s ≡ false → version_done s.journal.updates ≡ version_seen s) (draws : DrawsOn) (known : unknowns s.program ≡ []) (units bodies evaluated : ℕ) where
  -- a unit of the cursor
  unit_reaches : (c : Cursor) → Reaches s tree units bodies c → is_over c ≡ false → evaluated ≤ next_counts each_body s c → Reaches s tree (suc units) (bodies + evaluated) (unit s c)
  unit_reaches c h busy few = record {
    goes = unit_holds s tree units bodies c h.goes busy evaluated few;
    drawn = draws.unit s c known h.drawn;
    given = unit_given (default_contexts s.program) s c h.given;
    olds = unit_instances tree s c h.olds;
    rests = unit_rests tree s c h.rests;
    reached = steps.by_unit s c refl (fit_has_level s.program c h.goes.fits h.goes.stands) h.reached;
  }

  -- an attempt that is skipped
  module _ (n : ℕ) (fs : List Frame) (cs : Contexts) (key : Key) (f : Element) (es : Elements) (a : Awaits) (ns kept : Forest) where
    abbrev old : Option Node
    old = Some (node (boundary key f es) (of_boundary (Hidden a)) ns kept)

    attempt_reaches : Reaches s tree units bodies (at_place (suc n) fs cs (boundary key f es) old) → evaluated ≡ 0 → render_part (rendered n s) (part cs (listed es) ns) ≡ one_waits a
        → Reaches s tree (suc units) (bodies + evaluated) (open_part n fs (falling (boundary key f es) old a) (part cs (f ∷ []) kept))
    attempt_reaches h none waited =
        let same : bodies ≡ bodies + evaluated = omega (arith, none) in
        record {
          goes = subst (λ b. InProgress s tree (suc units) b (open_part n fs (falling (boundary key f es) old a) (part cs (f ∷ []) kept))) same
              (attempt_holds s tree units bodies n fs cs (boundary key f es) old (part cs (listed es) ns) (part cs (f ∷ []) kept) a refl waited h.goes);
          drawn = draws.attempt s n fs cs (boundary key f es) old (part cs (listed es) ns) (part cs (f ∷ []) kept) a known refl h.drawn;
          given = attempt_given (default_contexts s.program) n fs s cs (boundary key f es) old (part cs (listed es) ns) (part cs (f ∷ []) kept) a refl h.given;
          olds = attempt_instances tree n fs s cs (boundary key f es) old (part cs (listed es) ns) (part cs (f ∷ []) kept) a refl h.olds;
          rests = attempt_rests tree n fs s cs (boundary key f es) old (part cs (listed es) ns) (part cs (f ∷ []) kept) a refl h.rests;
          reached = steps.past_attempt s n fs cs (boundary key f es) old (part cs (listed es) ns) (part cs (f ∷ []) kept) a refl refl h.reached;
        }

    fits_below : InProgress s tree units bodies (at_place (suc n) fs cs (boundary key f es) old) → PartFits n s.program (part cs (listed es) ns)
    fits_below h = (shape_fits n s cs (boundary key f es) old h.fits.0).0

  -- a subtree that is taken over
  module _ (n : ℕ) (fs : List Frame) (cs : Contexts) (x : Node) where
    subtree_reaches : (e : Element) → element_of x ≡ e → Reaches s tree units bodies (at_place (suc n) fs cs e (Some x)) → evaluated ≡ 0 → rendered (suc n) s cs e (Some x) ≡ made x
        → Reaches s tree (suc units) (bodies + evaluated) (arrive (suc n) fs (Some x))
    subtree_reaches e same_element h none again =
        let same : bodies ≡ bodies + evaluated = omega (arith, none) in
        record {
          goes = subst (λ b. InProgress s tree (suc units) b (arrive (suc n) fs (Some x))) same (take_holds s tree units bodies (suc n) fs cs e x again h.goes);
          drawn = draws.subtree s.program (suc n) fs cs e x h.drawn;
          given = arrive_given (default_contexts s.program) (suc n) fs (Some x) h.given.1;
          olds = past_instances tree (suc n) fs (Some x) h.olds.1;
          rests = past_rests tree (suc n) fs (Some x) h.rests.1;
          reached = steps.past_subtree (suc n) fs cs e x same_element h.reached;
        }

    -- it read what the render sees
    reads_at : (e : Element) (o : Option ℕ) → IsLinked current → ReadsTheSame s current (given_along fs) cs o x → IsOld current o (Some x) → Reaches s tree units bodies (at_place (suc n) fs cs e (Some x))
        → ReadsHold (version_seen s) cs x
    reads_at e o linked same was h =
        let base = default_contexts s.program in
        let here : cs ≡ given_contexts base (given_along fs) = h.given.0 in
        let done = version_done s.journal.updates in
        reads_known (StandsSame current (given_along fs) o) done (version_seen s) cs x (λ stood. subst (λ l. ReadsHold done l x) (sym here) (reads_here done current linked base tree is reads (given_along fs) o x stood was))
        same.contexts (by_versions same.versions)
      where
        by_versions : (StandsSame current (given_along fs) o × (sees_refresh s ≡ false)) ⊎ VersionsHold (version_seen s) x
            → (StandsSame current (given_along fs) o × (version_done s.journal.updates ≡ version_seen s)) ⊎ VersionsHold (version_seen s) x
        by_versions (inl both) = inl (both.0, versions both.1)
        by_versions (inr so) = inr so

    idle_again : (o : Option ℕ) → IsLinked current → ReadsTheSame s current (given_along fs) cs o x → IsOld current o (Some x) → IsIdle s x
        → Reaches s tree units bodies (at_place (suc n) fs cs (element_of x) (Some x)) → rendered (suc n) s cs (element_of x) (Some x) ≡ made x
    idle_again o linked same was idle h = again (suc n) s cs x (h.rests.0.settles s.program (known_by s) settled) idle (reads_at (element_of x) o linked same was h) h.goes.fits.0

    idle_reaches : (e : Element) (o : Option ℕ) → element_of x ≡ e → IsLinked current → ReadsTheSame s current (given_along fs) cs o x → IsOld current o (Some x) → IsIdle s x
        → Reaches s tree units bodies (at_place (suc n) fs cs e (Some x)) → evaluated ≡ 0 → Reaches s tree (suc units) (bodies + evaluated) (arrive (suc n) fs (Some x))
    idle_reaches e o same linked stood was idle h none =
        let at : Reaches s tree units bodies (at_place (suc n) fs cs (element_of x) (Some x)) = subst (λ f. Reaches s tree units bodies (at_place (suc n) fs cs f (Some x))) (sym same) h in
        subtree_reaches (element_of x) refl at none (idle_again o linked stood was idle at)

  -- so it is where the render comes in one unit
  pub reaches : (c d : Cursor) → Goes s current evaluated c d → Reaches s tree units bodies c → is_over c ≡ false → Reaches s tree (suc units) (bodies + evaluated) d
  reaches c _ (by_unit few) h busy = unit_reaches c h busy few
  reaches _ _ (past_attempt {n = n} {fs = fs} {cs = cs} {key = key} {f = f} {es = es} {a = a} {ns = ns} {kept = kept} {o = o} none linked stood was refresh calm unresolved agree) h busy =
      let base = default_contexts s.program in
      let here : cs ≡ given_contexts base (given_along fs) = h.given.0 in
      let fits = fits_below n fs cs key f es a ns kept h.goes in
      let waited : render_part (rendered n s) (part cs (listed es) ns) ≡ one_waits a =
      subst (λ l. render_part (rendered n s) (part l (listed es) ns) ≡ one_waits a) (sym here)
      (waits_here current linked s base tree is waits (given_along fs) o key f es a ns kept stood was refresh calm unresolved agree n fits) in
      attempt_reaches n fs cs key f es a ns kept h none waited
  reaches _ _ (past_subtree {n = n} {fs = fs} {cs = cs} {e = e} {x = x} {o = o} none linked stood was same idle) h busy = idle_reaches n fs cs x e o same linked stood was idle h none

  -- What it pays

  waits_at : (n : ℕ) (fs : List Frame) (cs : Contexts) (key : Key) (f : Element) (es : Elements) (a : Awaits) (ns kept : Forest) (o : Option ℕ) → IsLinked current → StandsSame current (given_along fs) o
      → IsOld current o (Some (node (boundary key f es) (of_boundary (Hidden a)) ns kept)) → sees_refresh s ≡ false → may_throw_anew s ≡ false → AreUnresolved s a → AllValuesAgree (without_lanes s) s ns
      → Reaches s tree units bodies (at_place (suc n) fs cs (boundary key f es) (Some (node (boundary key f es) (of_boundary (Hidden a)) ns kept))) → render_part (rendered n s) (part cs (listed es) ns) ≡ one_waits a
  waits_at n fs cs key f es a ns kept o linked stood was refresh calm unresolved agree h =
      let base = default_contexts s.program in
      let here : cs ≡ given_contexts base (given_along fs) = h.given.0 in
      subst (λ l. render_part (rendered n s) (part l (listed es) ns) ≡ one_waits a) (sym here)
      (waits_here current linked s base tree is waits (given_along fs) o key f es a ns kept stood was refresh calm unresolved agree n (fits_below n fs cs key f es a ns kept h.goes))

  renders_at : (n : ℕ) (fs : List Frame) (cs : Contexts) (x : Node) (e : Element) (o : Option ℕ) → element_of x ≡ e → IsLinked current → ReadsTheSame s current (given_along fs) cs o x → IsOld current o (Some x) → IsIdle s x
      → Reaches s tree units bodies (at_place (suc n) fs cs e (Some x)) → rendered (suc n) s cs e (Some x) ≡ made x
  renders_at n fs cs x e o same linked stood was idle h =
      subst (λ f. rendered (suc n) s cs f (Some x) ≡ made x) same
      (idle_again n fs cs x o linked stood was idle (subst (λ f. Reaches s tree units bodies (at_place (suc n) fs cs f (Some x))) (sym same) h))

  nothing_at : (u : Flag) (n : ℕ) (fs : List Frame) (cs : Contexts) (x : Node) (e : Element) (o : Option ℕ) → element_of x ≡ e → IsLinked current → ReadsTheSame s current (given_along fs) cs o x → IsOld current o (Some x) → IsIdle s x
      → ForEach (IsUndue s) x → Reaches s tree units bodies (at_place (suc n) fs cs e (Some x)) → evaluates (suc n) s u cs e (Some x) ≡ 0
  nothing_at u n fs cs x e o same linked stood was idle undue h =
      subst (λ f. evaluates (suc n) s u cs f (Some x) ≡ 0) same
      (nothing_rests s u cs x (suc n) (h.rests.0.settles s.program (known_by s) settled) idle undue (reads_at n fs cs x e o linked stood was h))

  as_many : evaluated ≡ 0 → bodies ≡ bodies + evaluated
  as_many none = omega (arith, none)

  -- with what is left it is what the whole render evaluates
  pub pays : (c d : Cursor) (us vs : Flags) → UnitPays s current evaluated us c vs d → Reaches s tree units bodies c → Costs s tree bodies us c → Costs s tree (bodies + evaluated) vs d
  pays c _ us _ (paying.by_unit may same) h costs = unit_costs s tree bodies evaluated us c may costs same
  pays _ _ us _ (paying.past_attempt {n = n} {fs = fs} {cs = cs} {key = key} {f = f} {es = es} {a = a} {ns = ns} {kept = kept} {o = o} none linked stood was refresh calm unresolved agree out) h costs =
      subst (λ b. Costs s tree b (flag us ∷ us)
      (open_part n fs (falling (boundary key f es) (Some (node (boundary key f es) (of_boundary (Hidden a)) ns kept)) a) (part cs (f ∷ []) kept))) (as_many none)
      (attempt_costs s tree bodies n us fs cs (boundary key f es) (Some (node (boundary key f es) (of_boundary (Hidden a)) ns kept)) (part cs (listed es) ns) (part cs (f ∷ []) kept) a refl
      (waits_at n fs cs key f es a ns kept o linked stood was refresh calm unresolved agree h) out costs)
  pays _ _ us _ (paying.past_subtree {n = n} {fs = fs} {cs = cs} {e = e} {x = x} {o = o} none linked stood was same idle undue) h costs =
      subst (λ b. Costs s tree b us (arrive (suc n) fs (Some x))) (as_many none)
      (take_costs s tree bodies (suc n) us fs cs e x (renders_at n fs cs x e o same linked stood was idle h) (nothing_at (flag us) n fs cs x e o same linked stood was idle undue h) costs)
