-- A wait goes outwards from fiber to fiber, up to the nearest boundary that tries its children; a throw up to the nearest error boundary.
use Rattle.std.specs.Prelude.{◌≡◌, ℕ, ℤ, suc, true, false, List, [], ◌∷◌, Option, Some, None}
use Rattle.std.proofs.Common.{refl, ap, ◌∙◌}
use Rattle.rx_base.specs.Awaits.{Awaits}
use Rattle.rx_ctx.specs.Contexts.{Stack, moves_by, values_at}
use Rattle.rx_elem.specs.Elements.{Element}
use Rattle.rx_elem.specs.Elements as elements
use Rattle.rx_elem.specs.Trees.{Node}
use Rattle.rx_lists.specs.Shapes.{Shape}
use Rattle.rx_lists.specs.Shapes as shapes
use Rattle.rx_links.specs.Drafts.{Draft, taken, made, Trees}
use Rattle.rx_links.specs.Places.{Around, top, below, after, placed, up_of}
use Rattle.rx_meaning.specs.Fresh.{Contexts}
use Rattle.rx_meaning.specs.Cursor.{Open, falling, Frame, at_place, past, past_throw, open_part, unwind, unwind_throw}
use Rattle.rx_fiber.specs.Fibers.{Fiber}
use Rattle.rx_fiber.specs.Surround.{above_list, is_boundary, is_catcher, open_element, given_along, moved_along, moves_along, IsOpenAs, opens, tries, falls, guards, IsOfNode, IsAround, at_root, inside, IsKeptAs, IsListOf, of_node, of_fallback}
use Rattle.rx_fiber.specs.Stood.{gave, given_in}
use Rattle.rx_fiber.specs.Standing.{IsStack, opened, StandsAt, begins}
use Rattle.rx_fiber.specs.Unwound.{IsWithin, is_guarding, is_trying, passed_on, IsCaughtAt, IsLeftAt}
use Rattle.rx_fiber.proofs.Arriving.{moves_above, up_above}
use Rattle.rx_fiber.proofs.Completing.{whole_list, placed_list, opens_element}
use Rattle.rx_fiber.proofs.Coming.{top_values}
use Rattle.rx_fiber.proofs.Stacking.{kept}

-- how many fibers a place is below
abbrev pub depth : Around Fiber → ℕ
depth top = 0
depth (below id v o rs k) = suc (depth k)
depth (after id v o ks k) = depth k

depth_above : (k : Around Fiber) → depth k ≡ depth (above_list k)
depth_above top = refl
depth_above (below id v o rs k) = refl
depth_above (after id v o ks k) = depth_above k

boundary_gives : (e : Element) → is_boundary e ≡ true → given_in e ≡ None
boundary_gives elements.null h = refl
boundary_gives (elements.text t) h = refl
boundary_gives (elements.host n k attrs es) h = refl
boundary_gives (elements.comp c k ps es) h = refl
boundary_gives (elements.list marked es) h = refl
boundary_gives (elements.boundary k f es) h = refl
boundary_gives (elements.catcher k f es) h = cc
boundary_gives (elements.provider c k x es) h = cc

-- an error boundary gives no context a value
pub catcher_gives : (e : Element) → is_catcher e ≡ true → given_in e ≡ None
catcher_gives elements.null h = refl
catcher_gives (elements.text t) h = refl
catcher_gives (elements.host n k attrs es) h = refl
catcher_gives (elements.comp c k ps es) h = refl
catcher_gives (elements.list marked es) h = refl
catcher_gives (elements.boundary k f es) h = refl
catcher_gives (elements.catcher k f es) h = refl
catcher_gives (elements.provider c k x es) h = cc

-- What stands right outside of a fiber: the fiber that is open there, and what a wait and a throw do at it.
pub record Outside (t : Trees Fiber) (st : Stack) (p : ℕ) (f : Frame) (fs : List Frame) : Type 0 where
  pub inner : Around Fiber
  pub first : Fiber
  pub first_old : Option ℕ
  pub first_kids : Draft Fiber
  pub first_rest : Draft Fiber
  pub starts : t.draft ≡ placed inner (made p first first_old first_kids first_rest)
  pub id : ℕ
  pub parent : up_of inner ≡ Some id
  pub around : Around Fiber
  pub value : Fiber
  pub old : Option ℕ
  pub kids : Draft Fiber
  pub rest : Draft Fiber
  pub here : t.draft ≡ placed around (made id value old kids rest)
  pub deeper : depth inner ≡ suc (depth around)
  pub moves : st.moves ≡ moves_by (given_in value.element) (gave t.current old) (moves_along t.current around)
  pub element : value.element ≡ open_element f.node
  -- it is no boundary that tries its children: the wait goes on outwards
  pub outwards : is_trying value.stage ≡ false → (levels : ℕ) (a : Awaits) → unwind levels (f ∷ fs) a ≡ unwind (suc levels) fs (passed_on value.stage a)
  pub within : (new : Stack) → IsStack new (opened fs) → new.moves ≡ moves_along t.current around → IsWithin t new id fs
  -- it is one: the wait stops there, whatever its children are then
  pub left : is_trying value.stage ≡ true → (new : Trees Fiber) (ks : Draft Fiber) (levels : ℕ) (a : Awaits) → new.current ≡ t.current
      → new.draft ≡ placed around (made id value old ks rest) → IsLeftAt new st id ks a (unwind levels (f ∷ fs) a)
  -- it is no error boundary that tries its children: the throw goes on outwards
  pub throws_on : is_guarding value.stage ≡ false → (levels : ℕ) (x : ℤ) → unwind_throw levels (f ∷ fs) x ≡ unwind_throw (suc levels) fs x
  -- it is one: the throw stops there, whatever its children are then
  pub caught : is_guarding value.stage ≡ true → (new : Trees Fiber) (ks : Draft Fiber) (levels : ℕ) (x : ℤ) → new.current ≡ t.current
      → new.draft ≡ placed around (made id value old ks rest) → IsCaughtAt new st id ks x (unwind_throw levels (f ∷ fs) x)

outwards_open : (c : Shape Fiber) (ms : List ℕ) (ws : List (ℕ × ℤ)) (v : Fiber) (o : Option ℕ) (cs : Contexts) (x : Open) (fs : List Frame) → IsOpenAs c ms ws v o cs x → is_trying v.stage ≡ false → (levels : ℕ) (a : Awaits)
    → past x a (unwind (suc levels) fs) (open_part levels fs) ≡ unwind (suc levels) fs (passed_on v.stage a)
outwards_open c ms ws v o cs _ fs (opens {e = e} {m = m} element mark shown) out levels a = ap (unwind (suc levels) fs) (rw (mark, shown) refl)
outwards_open c ms ws v o cs _ fs (tries element s is old stands) out levels a = cc (ap is_trying s)
outwards_open c ms ws v o cs _ fs (falls element mark gone) out levels a = ap (unwind (suc levels) fs) (rw mark refl)
outwards_open c ms ws v o cs _ fs (guards element s is) out levels a = ap (unwind (suc levels) fs) (rw s refl)

left_open : (t : Trees Fiber) (st : Stack) (k : Around Fiber) (q : ℕ) (v : Fiber) (o : Option ℕ) (rest : Draft Fiber) (cs : Contexts) (x : Open) (fs : List Frame)
    → IsOpenAs t.current (moved_along t.current k) (given_along fs) v o cs x → IsAround t.current k v.place rest fs → IsStack st ((x, cs) ∷ opened fs) → st.moves ≡ moves_along t.current (below q v o rest k) → is_trying v.stage ≡ true
    → (new : Trees Fiber) (ks : Draft Fiber) (levels : ℕ) (a : Awaits) → new.current ≡ t.current → new.draft ≡ placed k (made q v o ks rest)
    → IsLeftAt new st q ks a (past x a (unwind (suc levels) fs) (open_part levels fs))
left_open t st k q v o rest cs _ fs (opens element mark shown) surrounds stack moves in_it new ls levels a same there = cc (ap is_trying mark)
left_open t st k q v o rest cs _ fs (falls element mark gone) surrounds stack moves in_it new ls levels a same there = cc (ap is_trying mark)
left_open t st k q v o rest cs _ fs (guards element s is) surrounds stack moves in_it new ls levels a same there = cc (ap is_trying s)
left_open t st k q v o rest cs _ fs (tries {e = e} {old = old} {c = c} element s is was stands) surrounds stack moves in_it new ls levels a same there =
    let values : values_at st ≡ cs = top_values stack in
    record {
      around = k;
      value = v;
      old = o;
      origin = c;
      rest = rest;
      levels = levels;
      frames = fs;
      node = old;
      here = there;
      stage = s;
      boundary = ap is_boundary element ∙ is;
      was = rw same was;
      stands = λ shown. rw same (stands shown);
      surrounds = rw same surrounds;
      stack = kept st _ cs (opened fs) (boundary_gives e is) stack;
      moves =
          rw same
          (moves ∙ ap (λ g. moves_by g (gave t.current o) (moves_along t.current k)) (ap given_in element ∙ boundary_gives e is));
      opens = rw (element, values) refl;
    }

throws_open : (c : Shape Fiber) (ms : List ℕ) (ws : List (ℕ × ℤ)) (v : Fiber) (o : Option ℕ) (cs : Contexts) (x : Open) (fs : List Frame) → IsOpenAs c ms ws v o cs x → is_guarding v.stage ≡ false → (levels : ℕ) (y : ℤ)
    → past_throw x y (unwind_throw (suc levels) fs y) (open_part levels fs) ≡ unwind_throw (suc levels) fs y
throws_open c ms ws v o cs _ fs (opens element mark shown) out levels y = refl
throws_open c ms ws v o cs _ fs (tries element s is old stands) out levels y = refl
throws_open c ms ws v o cs _ fs (falls element mark gone) out levels y = refl
throws_open c ms ws v o cs _ fs (guards element s is) out levels y = cc (ap is_guarding s)

caught_open : (t : Trees Fiber) (st : Stack) (k : Around Fiber) (q : ℕ) (v : Fiber) (o : Option ℕ) (rest : Draft Fiber) (cs : Contexts) (x : Open) (fs : List Frame)
    → IsOpenAs t.current (moved_along t.current k) (given_along fs) v o cs x → IsOfNode t.current o → IsAround t.current k v.place rest fs → IsStack st ((x, cs) ∷ opened fs) → st.moves ≡ moves_along t.current (below q v o rest k) → is_guarding v.stage ≡ true
    → (new : Trees Fiber) (ks : Draft Fiber) (levels : ℕ) (y : ℤ) → new.current ≡ t.current → new.draft ≡ placed k (made q v o ks rest)
    → IsCaughtAt new st q ks y (past_throw x y (unwind_throw (suc levels) fs y) (open_part levels fs))
caught_open t st k q v o rest cs _ fs (opens element mark shown) own surrounds stack moves in_it new ls levels y same there = cc (ap is_guarding mark)
caught_open t st k q v o rest cs _ fs (tries element s is was stands) own surrounds stack moves in_it new ls levels y same there = cc (ap is_guarding s)
caught_open t st k q v o rest cs _ fs (falls element mark gone) own surrounds stack moves in_it new ls levels y same there = cc (ap is_guarding mark)
caught_open t st k q v o rest cs _ fs (guards {e = e} element s is) own surrounds stack moves in_it new ls levels y same there =
    let values : values_at st ≡ cs = top_values stack in
    record {
      around = k;
      value = v;
      old = o;
      rest = rest;
      levels = levels;
      frames = fs;
      here = there;
      stage = s;
      catcher = ap is_catcher element ∙ is;
      of_node = rw same own;
      surrounds = rw same surrounds;
      stack = kept st _ cs (opened fs) (catcher_gives e is) stack;
      moves =
          rw same
          (moves ∙ ap (λ g. moves_by g (gave t.current o) (moves_along t.current k)) (ap given_in element ∙ catcher_gives e is));
      opens = rw (element, values) refl;
    }

-- a frame whose node is this one
falling_outside : (t : Trees Fiber) (st : Stack) (p : ℕ) (done : List (Option Node)) (left : List (Element × Option Node)) (cs : Contexts) (e : Element) (old : Option Node) (a : Awaits)
    (fs : List Frame) (i : Around Fiber) (u : Fiber) (r : Option ℕ) (us ls : Draft Fiber) (k₁ : Around Fiber) (q b : ℕ) (v w : Fiber) (o s : Option ℕ) (kept : Shape Fiber) (rest : Draft Fiber)
    → t.draft ≡ placed i (made p u r us ls) → above_list i ≡ below q w s rest (after b v o (taken kept) k₁) → IsKeptAs v w kept e old a → IsAround t.current k₁ v.place rest fs → st.moves ≡ moves_along t.current i
    → Outside t st p (record { node = falling e old a; contexts = cs; done = done; rest = left }) fs
falling_outside t st p done left cs e old a fs i u r us ls k₁ q b v w o s kept rest here up is surrounds moves =
    let ks : Draft Fiber = whole_list i (made p u r us ls) in
    let at : t.draft ≡ placed (after b v o (taken kept) k₁) (made q w s ks rest) = here ∙ (placed_list i (made p u r us ls) ∙ ap (λ k. placed k ks) up) in
    record {
      inner = i;
      first = u;
      first_old = r;
      first_kids = us;
      first_rest = ls;
      starts = here;
      id = q;
      parent = up_above i ∙ ap up_of up;
      around = after b v o (taken kept) k₁;
      value = w;
      old = s;
      kids = ks;
      rest = rest;
      here = at;
      deeper = depth_above i ∙ ap depth up;
      moves = moves ∙ (moves_above t.current i ∙ ap (moves_along t.current) up);
      element = is.element;
      outwards = λ out levels c. ap (unwind (suc levels) fs) (let m = is.stage in rw m refl);
      within = λ new stack still. record {
        around = after b v o (taken kept) k₁;
        value = w;
        old = s;
        kids = ks;
        rest = rest;
        here = at;
        beside = k₁;
        place = v.place;
        later = rest;
        same_list = refl;
        surrounds = surrounds;
        stack = stack;
        moves = still;
      };
      left = λ in_it new ls levels c same there. cc (ap is_trying is.stage);
      throws_on = λ out levels x. refl;
      caught = λ in_it new ls levels x same there. cc (ap is_guarding is.stage);
    }

list_outside : (t : Trees Fiber) (st : Stack) (p : ℕ) (done : List (Option Node)) (left : List (Element × Option Node)) (x : Open) (cs : Contexts)
    (fs : List Frame) (i : Around Fiber) (u : Fiber) (r : Option ℕ) (us ls : Draft Fiber) (j : Around Fiber) (q : ℕ)
    → t.draft ≡ placed i (made p u r us ls) → above_list i ≡ above_list j → IsListOf t.current j q x cs fs → IsStack st ((x, cs) ∷ opened fs) → st.moves ≡ moves_along t.current i
    → Outside t st p (record { node = x; contexts = cs; done = done; rest = left }) fs
list_outside t st p done left x cs fs i u r us ls j q starts same (of_node {k₁ = k₁} {v = v} {o = o} {rest = rest} above is own surrounds) stack moves =
    let ks : Draft Fiber = whole_list i (made p u r us ls) in
    let up : above_list i ≡ below q v o rest k₁ = same ∙ above in
    let at : t.draft ≡ placed k₁ (made q v o ks rest) = starts ∙ (placed_list i (made p u r us ls) ∙ ap (λ k. placed k ks) up) in
    record {
      inner = i;
      first = u;
      first_old = r;
      first_kids = us;
      first_rest = ls;
      starts = starts;
      id = q;
      parent = up_above i ∙ ap up_of up;
      around = k₁;
      value = v;
      old = o;
      kids = ks;
      rest = rest;
      here = at;
      deeper = depth_above i ∙ ap depth up;
      moves = moves ∙ (moves_above t.current i ∙ ap (moves_along t.current) up);
      element = opens_element t.current (moved_along t.current k₁) (given_along fs) v o cs x is;
      outwards = λ out levels a. outwards_open t.current (moved_along t.current k₁) (given_along fs) v o cs x fs is out levels a;
      within = λ new stack still. record {
        around = k₁;
        value = v;
        old = o;
        kids = ks;
        rest = rest;
        here = at;
        beside = k₁;
        place = v.place;
        later = rest;
        same_list = refl;
        surrounds = surrounds;
        stack = stack;
        moves = still;
      };
      left = λ in_it new ls levels a same there. left_open t st k₁ q v o rest cs x fs is surrounds stack (moves ∙ (moves_above t.current i ∙ ap (moves_along t.current) up)) in_it new ls levels a same there;
      throws_on = λ out levels y. throws_open t.current (moved_along t.current k₁) (given_along fs) v o cs x fs is out levels y;
      caught = λ in_it new ls levels y same there. caught_open t st k₁ q v o rest cs x fs is own surrounds stack (moves ∙ (moves_above t.current i ∙ ap (moves_along t.current) up)) in_it new ls levels y same there;
    }
list_outside t st p done left _ cs fs i u r us ls j q starts same
    (of_fallback {k₁ = k₁} {b = b} {v = v} {w = w} {o = o} {p = s} {kept = keeps} {rest = rest} {e = e} {old = old} {a = a} above is own behind surrounds) stack moves =
    falling_outside t st p done left cs e old a fs i u r us ls k₁ q b v w o s keeps rest starts (same ∙ above) is surrounds moves

-- The fiber outside of one is open, and the wait or the throw goes past it or stops there.
pub outside : (t : Trees Fiber) (st : Stack) (p : ℕ) (f : Frame) (fs : List Frame) → IsWithin t st p (f ∷ fs) → Outside t st p f fs
outside t st p f fs w = by_list w.beside w.place w.later w.same_list w.surrounds
  where
    by_list : (j : Around Fiber) (n : ℕ) (later : Draft Fiber) → above_list w.around ≡ above_list j → IsAround t.current j n later (f ∷ fs) → Outside t st p f fs
    by_list j n later same (inside before behind list) =
        list_outside t st p f.done f.rest f.node f.contexts fs w.around w.value w.old w.kids w.rest j _ w.here same list w.stack w.moves

-- The root has nothing outside of it, and a wait there is that of the whole tree.
pub at_top : (t : Trees Fiber) (st : Stack) (p : ℕ) (w : IsWithin t st p []) → up_of w.around ≡ None
at_top t st p w = by_list w.beside w.place w.later w.same_list w.surrounds
  where
    by_list : (j : Around Fiber) (n : ℕ) (later : Draft Fiber) → above_list w.around ≡ above_list j → IsAround t.current j n later [] → up_of w.around ≡ None
    by_list _ _ _ same at_root = up_above w.around ∙ ap up_of same

-- A place that waits lies in the list of the innermost open node.
pub place_within : (t : Trees Fiber) (st : Stack) (p levels : ℕ) (fs : List Frame) (cs : Contexts) (e : Element) (old : Option Node)
    → StandsAt t st (Some p) (at_place levels fs cs e old) → IsWithin t st p fs
place_within t st p levels fs cs e old (begins {n = n} {v = v} {o = o} {rs = rs} {k = k} here is was surrounds values stack moves) = record {
  around = k;
  value = v;
  old = o;
  kids = taken shapes.none;
  rest = rs;
  here = here;
  beside = k;
  place = n;
  later = rs;
  same_list = refl;
  surrounds = surrounds;
  stack = stack;
  moves = moves;
}
