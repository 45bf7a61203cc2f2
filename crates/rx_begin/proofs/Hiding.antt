-- A hidden boundary that has its element still, and waits still, is not tried.
use Rattle.std.specs.Prelude.{◌≡◌, ℕ, ℤ, suc, Bool, true, false, List, [], ◌∷◌, Option, Some, None, Result, Ok, Err, IfOk, OnOk, option_and_then, option_map}
use Rattle.std.proofs.Common.{refl, sym, ap, ◌∙◌, subst, inl, inr}
use Rattle.rx_base.specs.Awaits.{Awaits}
use Rattle.rx_ast.specs.Syntax.{Program}
use Rattle.rx_ctx.specs.Contexts.{Stack, moved_at, moved_in}
use Rattle.rx_susp.specs.declared.boundary.BoundaryState.TheVariants.{Hidden}
use Rattle.rx_catch.specs.declared.state.CatchState.TheVariants.{Caught}
use Rattle.rx_elem.specs.Elements.{Element, Elements, Key}
use Rattle.rx_elem.specs.Elements as elements
use Rattle.rx_elem.specs.Trees.{Forest, Mark, of_boundary, of_catcher, Node, node, host_number, children_if, children_of, mark_of, fallback_if, was_hidden}
use Rattle.rx_hooks.specs.declared.hook.Hook.{Hook}
use Rattle.rx_lists.specs.Shapes.{Shape}
use Rattle.rx_lists.specs.Shapes as shapes
use Rattle.rx_links.specs.Drafts.{taken, Trees, old_of, valued}
use Rattle.rx_links.specs.Readers.{list_from, made_value_of}
use Rattle.rx_meaning.specs.Cursor.{Frame, falling, at_place, open_part}
use Rattle.rx_meaning.specs.Fresh.{Sight, Contexts, part, old_instance}
use Rattle.rx_meaning.specs.Settled.{Known, IsOwn, IfSettled, known_by}
use Rattle.rx_fiber.specs.Fibers.{Fiber, as_cloned, as_matched, begun, is_visible}
use Rattle.rx_fiber.specs.declared.stage.Origin.{Origin}
use Rattle.rx_fiber.specs.FiberView.{changed}
use Rattle.rx_fiber.specs.declared.stage.StageChange.TheVariants as change
use Rattle.rx_fiber.specs.Reading.{IsOld}
use Rattle.rx_fiber.specs.Stood.{gives_another, StandsSame}
use Rattle.rx_fiber.specs.Surround.{IsElementOf, IsAround, StandsIf, given_along, moved_along, moves_along, fallback_in, is_boundary}
use Rattle.rx_fiber.specs.Standing.{StandsAt, begins, is_stood}
use Rattle.rx_fiber.specs.Unwound.{IsLeftAt}
use Rattle.rx_fiber.specs.OldLists.{fallback_list, primary_list, matched, old_elements, old_fibers}
use Rattle.rx_causes.specs.Marks.{mark_at, keeps_children}
use Rattle.rx_causes.specs.Scenes.{KeepsHooks, GivesHooks}
use Rattle.rx_causes.specs.Hidden.{KeepsHooksIn, GivesHooksIn, WaitsStill, KeepsHooksIf, GivesHooksIf}
use Rattle.rx_causes.proofs.Marks.{mark_is}
use Rattle.rx_children.specs.Nodes.{HasOpened, begun_stage, begun_children, begun_stack}
use Rattle.rx_children.specs.declared.node.Begun.{Begun}
use Rattle.rx_begin.specs.Others.{HasBegunNode, caught_before}
use Rattle.rx_begin.specs.Others as others
use Rattle.rx_children.specs.Origins.{StoodIn}
use Rattle.rx_begin.specs.Beginning.{IsHiddenAgain}
use Rattle.rx_begin.proofs.ByElement.{old_at}
use Rattle.rx_children.proofs.OldNodes.{stood_in}
use Rattle.rx_children.proofs.Making.{KnowsPlaces}
use Rattle.rx_begin.proofs.Standing.{shown_here, stood_here}

-- what was a hidden boundary keeps no children that are shown
pub hides_there : (c : Shape Fiber) (o : Option ℕ) (x : Node) (a : Awaits) → IsOld c o (Some x) → mark_of x ≡ of_boundary (Hidden a) → keeps_children true (mark_at c o) ≡ false
hides_there c o x a was is = ap (keeps_children true) (mark_is c o (Some x) was ∙ ap Some is)

-- What begins as no hidden boundary

module _ (t : Trees Fiber) (st : Stack) (new : Trees Fiber) (st' : Stack) (p : ℕ) (e : Element) (origin : Origin) (again steady : Bool) (generation : ℕ) where
  abbrev mark : Option Mark
  mark = mark_at t.current (old_of t.draft p)

  abbrev olds : Shape Fiber
  olds = primary_list (list_from t.current (old_of t.draft p))

  pub node_begins : {E : Type 0} (r : Result Begun E) → caught_before t p e ≡ None
      → IfOk r (λ b. keeps_children again mark ≡ true → HasOpened (as_cloned steady) t new p (begun_stage e origin (option_and_then host_number mark)) (old_elements olds) (old_fibers olds) b)
      → IfOk r (λ b. keeps_children again mark ≡ false → HasOpened (as_matched steady generation) t new p (begun_stage e origin (option_and_then host_number mark)) (begun_children e) (matched olds (begun_children e)) b)
      → OnOk r (st' ≡ begun_stack e (gives_another t.current (old_of t.draft p) e) st) → IfOk r (λ b. HasBegunNode t st new st' p e origin again steady generation b)
  node_begins (Err f) none k o stacks = tt
  node_begins (Ok b) none k o stacks = by_kept (keeps_children again mark) refl
    where
      by_kept : (q : Bool) → keeps_children again mark ≡ q → HasBegunNode t st new st' p e origin again steady generation b
      by_kept true h = others.keeps none h (k h) stacks
      by_kept false h = others.opens none h (o h) stacks

  pub caught_begins : {E : Type 0} (r : Result Begun E) (x : ℤ) → caught_before t p e ≡ Some x
      → IfOk r (λ b. again ≡ true → HasOpened (as_cloned steady) t new p (begun (of_catcher (Caught x))) (old_elements (fallback_list (list_from t.current (old_of t.draft p)))) (old_fibers (fallback_list (list_from t.current (old_of t.draft p)))) b)
      → IfOk r (λ b. again ≡ false → HasOpened (as_matched steady generation) t new p (begun (of_catcher (Caught x))) (fallback_in e ∷ []) (matched (fallback_list (list_from t.current (old_of t.draft p))) (fallback_in e ∷ [])) b)
      → st' ≡ st → IfOk r (λ b. HasBegunNode t st new st' p e origin again steady generation b)
  caught_begins (Err f) x caught k o stacks = tt
  caught_begins (Ok b) x caught k o stacks = by_kept again refl
    where
      by_kept : (q : Bool) → again ≡ q → HasBegunNode t st new st' p e origin again steady generation b
      by_kept true h = others.keeps_caught caught h (k h) stacks
      by_kept false h = others.opens_caught caught h (o h) stacks

-- The hooks of an old tree are those of its own instance, and those of what it keeps.

pub own_keeps : (kept : ℕ → Option (List Hook)) (old : Option Node) → KeepsHooksIf kept old → KeepsHooks kept (old_instance old)
own_keeps kept None h = λ n e. absurd (let q : ⊥ = cc in q)
own_keeps kept (Some (node e m ns fs)) h = h.0

pub own_gives : (s : Sight) (kept : ℕ → Option (List Hook)) (old : Option Node) → GivesHooksIf s kept old → GivesHooks s kept (old_instance old)
own_gives s kept None h = λ i n e f. absurd (let q : ⊥ = cc in q)
own_gives s kept (Some (node e m ns fs)) h = h.0

pub kids_keep : (kept : ℕ → Option (List Hook)) (old : Option Node) → KeepsHooksIf kept old → KeepsHooksIn kept (children_if old)
kids_keep kept None h = tt
kids_keep kept (Some (node e m ns fs)) h = h.1

-- A node of its own that is hidden is a boundary's
own_boundary : (p : Program) (k : Known) (e : Element) (a : Awaits) (ns fs : Forest) → IsOwn p k e (of_boundary (Hidden a)) ns fs
    → (key : Key) × (f : Element) × (es : Elements) × (e ≡ elements.boundary key f es)
own_boundary p k elements.null a ns fs own = absurd own
own_boundary p k (elements.text t) a ns fs own = absurd (let f = own.1 in let q : ⊥ = cc in q)
own_boundary p k (elements.host n key attrs es) a ns fs own = absurd (let f = own.1 in let q : ⊥ = cc in q)
own_boundary p k (elements.comp c key props given) a ns fs own = absurd (let f = own.1 in let q : ⊥ = cc in q)
own_boundary p k (elements.list marked es) a ns fs own = absurd (let f = own.0 in let q : ⊥ = cc in q)
own_boundary p k (elements.catcher key f es) a ns fs (inl own) = absurd (let g = own.0 in let q : ⊥ = cc in q)
own_boundary p k (elements.catcher key f es) a ns fs (inr own) = absurd (let g = own.1 in let q : ⊥ = cc in q)
own_boundary p k (elements.provider c key x es) a ns fs own = absurd (let f = own.0 in let q : ⊥ = cc in q)
own_boundary p k (elements.boundary key f es) a ns fs (inl own) = absurd (let g = own.0 in let q : ⊥ = cc in q)
own_boundary p k (elements.boundary key f es) a ns fs (inr own) = (key, f, es, refl)

module _ (s : Sight) (kept : ℕ → Option (List Hook)) (t : Trees Fiber) (st : Stack) (new : Trees Fiber) (st' : Stack) (p n : ℕ) (fs : List Frame) (cs : Contexts) (e : Element) (old : Option Node) (a : Awaits)
    (knows : KnowsPlaces t) (at : StandsAt t st (Some p) (at_place (suc n) fs cs e old)) (v : Fiber) (value : Some v ≡ made_value_of t.draft p) (origin : Origin) (stood : Bool) (element : IsElementOf t.current (old_of t.draft p) e)
    (shown_is : origin.visible ≡ is_visible v.stage) (stood_is : stood ≡ is_stood st v.stage) where
  -- from the old node
  by_node : (x : Node) → old ≡ Some x → stood ≡ true → mark_of x ≡ of_boundary (Hidden a) → StoodIn (Some x) e → IfSettled s.program (known_by s) (Some x) → WaitsStill s a x → new.current ≡ t.current
      → new ≡ record t { draft = valued p (changed (change.Try origin)) t.draft } → st' ≡ st → IsHiddenAgain s t st new st' p n fs cs e old a
  by_node (node f m ns ws) was too mark stood_there settled waits current tried stacks =
      let stands = stood_here t st p n fs cs e old knows at v value (sym stood_is ∙ too) element in
      let stands_if : origin.visible ≡ true → StandsIf t.current (moved_at st) (given_along fs) (old_of t.draft p) = λ so. shown_here t st p n fs cs e old knows at v value (sym shown_is ∙ so) in
      elim at [
        | begins {v = w} {o = o} {rs = rs} {k = k} here is is_old surrounds values stack moves ↦ (
            let same : f ≡ e = cc in
            let x_is : node f m ns ws ≡ node e (of_boundary (Hidden a)) ns ws = ap (λ y. node y m ns ws) same ∙ ap (λ y. node e y ns ws) mark in
            let (key, g, es, e_is) = own_boundary s.program (known_by s) e a ns ws (subst (λ y. IsOwn s.program (known_by s) y (of_boundary (Hidden a)) ns ws) same (subst (λ y. IsOwn s.program (known_by s) f y ns ws) mark settled.0)) in
            let at_it = knows k p w o (taken shapes.none) rs here in
            let l : IsLeftAt new st' p (taken shapes.none) a (open_part n fs (falling e old a) (part cs (fallback_in e ∷ []) (fallback_if old))) = record {
              around = k;
              value = changed (change.Try origin) w;
              old = o;
              origin = origin;
              rest = rs;
              levels = n;
              frames = fs;
              node = old;
              here = ap (λ y. y.draft) tried ∙ at_it.value (changed (change.Try origin));
              stage = refl;
              boundary = ap is_boundary (is.element ∙ e_is);
              was = subst (λ c. IsOld c o old) (sym current) is_old;
              stands = λ so.
                  subst (λ c. StandsIf c (moved_along c k) (given_along fs) o) (sym current)
                  (subst (λ (ms : List (ℕ × Bool)). StandsIf t.current (moved_in ms) (given_along fs) o) moves
                  (subst (λ q. StandsIf t.current (moved_at st) (given_along fs) q) at_it.old (stands_if so)));
              surrounds = subst (λ c. IsAround c k w.place rs fs) (sym current) (subst (λ place. IsAround t.current k place rs fs) (sym is.at) surrounds);
              stack = rw stacks stack;
              moves = ap (λ (x : Stack). x.moves) stacks ∙ (moves ∙ ap (λ c. moves_along c k) (sym current));
              opens = rw (is.element, stacks, values) refl;
            } in
            record {
              key = key;
              fallback = g;
              given = es;
              boundary = e_is;
              kept = ns;
              shown = ws;
              was = was ∙ ap Some x_is;
              unresolved = waits.unresolved;
              versions = waits.versions;
              calm = waits.calm;
              agree = waits.same;
              old_is = subst (λ q. IsOld t.current q old) (sym at_it.old) is_old;
              stood = stands;
              told = λ u there.
                  let one : v ≡ u = (let q : Some v ≡ Some u = value ∙ sym there in cc) in
                  sym (ap (λ y. is_stood st y.stage) one) ∙ (sym stood_is ∙ too);
              left = l;
              again = record {
                same = subst (λ c. IsElementOf c o w.element) (sym current) (subst (λ y. IsElementOf t.current o y) (sym is.element) (subst (λ q. IsElementOf t.current q e) at_it.old element));
                stands = subst (λ c. StandsSame c (given_along fs) o) (sym current) (subst (λ q. StandsSame t.current (given_along fs) q) at_it.old stands);
                hidden = ap was_hidden (was ∙ ap Some x_is);
                program = s.program;
                known = known_by s;
                settled = subst (IfSettled s.program (known_by s)) (sym was) settled;
              };
            })
      ]

  -- Its fallback opens next.
  pub hidden_again : stood ≡ true → mark_at t.current (old_of t.draft p) ≡ Some (of_boundary (Hidden a))
      → ((x : Node) → IsOld t.current (old_of t.draft p) (Some x) → GivesHooksIn s kept (children_of x) → WaitsStill s a x) → GivesHooksIf s kept old → IfSettled s.program (known_by s) old
      → new.current ≡ t.current → new ≡ record t { draft = valued p (changed (change.Try origin)) t.draft } → st' ≡ st → IsHiddenAgain s t st new st' p n fs cs e old a
  hidden_again too mark waits gives settled current tried stacks =
      by_old old refl
    where
      by_old : (o : Option Node) → old ≡ o → IsHiddenAgain s t st new st' p n fs cs e old a
      by_old None f =
          absurd (let g : option_map mark_of old ≡ Some (of_boundary (Hidden a)) = sym (mark_is t.current (old_of t.draft p) old (old_at t st p n fs cs e old knows at)) ∙ mark in
          let h : None ≡ Some (of_boundary (Hidden a)) = sym (ap (option_map mark_of) f) ∙ g in let q : ⊥ = cc in q)
      by_old (Some (node f m ns ws)) g =
          let x : Node = node f m ns ws in
          let h : Some m ≡ Some (of_boundary (Hidden a)) = sym (ap (option_map mark_of) g) ∙ (sym (mark_is t.current (old_of t.draft p) old (old_at t st p n fs cs e old knows at)) ∙ mark) in
          by_node x g too (let q : m ≡ of_boundary (Hidden a) = cc in q)
          (subst (λ y. StoodIn y e) g (stood_in t.current (old_of t.draft p) old e (old_at t st p n fs cs e old knows at) element))
          (subst (IfSettled s.program (known_by s)) g settled)
          (waits x (subst (IsOld t.current (old_of t.draft p)) g (old_at t st p n fs cs e old knows at)) (subst (GivesHooksIf s kept) g gives).1) current tried stacks
