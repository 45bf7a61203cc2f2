-- What took its children over is like what it was made for, all along a render.
use Rattle.std.specs.Prelude.{◌≡◌, ℕ, Bool, true, false, Option, Some, None, is_some, option_and_then, option_map, if◌then◌else◌}
use Rattle.std.proofs.Common.{refl, sym, ap, ◌∙◌, subst}
use Rattle.rx_elem.specs.Numbers.{Numbers, numbered_instance, numbered_mark}
use Rattle.rx_elem.specs.Trees.{Mark, Node, element_of, is_hidden, of_instance, of_host, of_boundary, of_catcher, plain}
use Rattle.rx_lists.specs.Shapes.{Shape, none, fiber}
use Rattle.rx_links.specs.Drafts.{Draft, taken, made, kids_under}
use Rattle.rx_links.specs.Places.{Around, top, below, after, placed}
use Rattle.rx_links.specs.Readers.{value_of}
use Rattle.rx_node.specs.Fixed.{is_fixed_mark}
use Rattle.rx_fiber.specs.declared.subtree.Subtree.{Subtree}
use Rattle.rx_fiber.specs.Fibers.{Fiber, Stage, waiting, begun, trying, guarding, fallback}
use Rattle.rx_fiber.specs.OldLists.{hides_in}
use Rattle.rx_fiber.specs.Reading.{IsOld, of, next}
use Rattle.rx_fiber.proofs.Completing.{whole_list}
use Rattle.rx_complete.specs.Ends.{Outer, nearest_where}
use Rattle.rx_causes.specs.Marks.{begun_mark, mark_at}
use Rattle.rx_children.proofs.OldNodes.{node_element}
use Rattle.rx_children.specs.Nodes.{taken_as}
use Rattle.begin_laws.specs.Flagged.{AllBare}
use Rattle.rx_read.specs.Numbering.{numbered_at, numbered_draft, numbered_fiber}
use Rattle.rx_read.specs.Places.{mark_in}
use Rattle.rx_beside.specs.Alike.{AllTakeAlike, IsLike, TakesAlike}

-- the stage with a mark
pub begun_of : (s : Stage) (m : Mark) → begun_mark s ≡ Some m → s ≡ begun m
begun_of (waiting c) m e = absurd (let q : ⊥ = cc in q)
begun_of (begun n) m e = ap begun (let q : n ≡ m = cc in q)
begun_of (trying c) m e = absurd (let q : ⊥ = cc in q)
begun_of guarding m e = absurd (let q : ⊥ = cc in q)
begun_of (fallback a) m e = absurd (let q : ⊥ = cc in q)

-- the list is made, or is empty
abbrev pub IsOwn : Draft Fiber → Type 0
IsOwn (taken none) = Unit {0}
IsOwn (taken (fiber id v ks rs)) = ⊥
IsOwn (made id v o ks rs) = Unit {0}

pub bare_own : (d : Draft Fiber) → AllBare d → IsOwn d
bare_own (taken none) bare = tt
bare_own (taken (fiber id v ks rs)) bare = absurd (let q : ⊥ = cc in q)
bare_own (made id v o ks rs) bare = tt

pub whole_own : (k : Around Fiber) (d : Draft Fiber) → IsOwn d → IsOwn (whole_list k d)
whole_own top d own = own
whole_own (below id v o rs k) d own = own
whole_own (after id v o ks k) d own = whole_own k (made id v o ks d) tt

module _ (c : Shape Fiber) where
  own_alike : (v : Fiber) (o : Option ℕ) (d : Draft Fiber) → IsOwn d → TakesAlike c v o d
  own_alike v o (taken none) own = tt
  own_alike v o (taken (fiber id w ks rs)) own = absurd own
  own_alike v o (made id w p ks rs) own = tt

  bare_alike : (d : Draft Fiber) → AllBare d → AllTakeAlike c d
  bare_alike (taken s) bare = tt
  bare_alike (made id v o ks rs) bare = (subst (TakesAlike c v o) (sym bare.0) tt, (subst (AllTakeAlike c) (sym bare.0) tt, bare_alike rs bare.1))

  hidden_alike : (v : Fiber) (o : Option ℕ) (s : Shape Fiber) → hides_in v.stage ≡ true → TakesAlike c v o (taken s)
  hidden_alike v o none hidden = tt
  hidden_alike v o (fiber id w ks rs) hidden = λ shown. absurd (let q : true ≡ false = sym hidden ∙ shown in cc)

  like_alike : (v : Fiber) (o : Option ℕ) (s : Shape Fiber) → (x : Fiber) × (option_and_then (value_of c) o ≡ Some x) × IsLike x v → TakesAlike c v o (taken s)
  like_alike v o none like = tt
  like_alike v o (fiber id w ks rs) like = λ shown. like

  -- another list at a place
  pub replaced : (k : Around Fiber) (d e : Draft Fiber) → IsOwn e → (AllTakeAlike c d → AllTakeAlike c e) → AllTakeAlike c (placed k d) → AllTakeAlike c (placed k e)
  replaced top d e own f a = f a
  replaced (below id v o rs k) d e own f a = replaced k (made id v o d rs) (made id v o e rs) tt (λ b. (own_alike v o e own, (f b.1.0, b.1.1))) a
  replaced (after id v o ks k) d e own f a = replaced k (made id v o ks d) (made id v o ks e) tt (λ b. (b.0, (b.1.0, f b.1.1))) a

  -- a fiber with children that wait
  pub opened_alike : (k : Around Fiber) (p : ℕ) (v w : Fiber) (o : Option ℕ) (kids rest : Draft Fiber) → AllBare kids → AllTakeAlike c (placed k (made p v o (taken none) rest))
      → AllTakeAlike c (placed k (made p w o kids rest))
  opened_alike k p v w o kids rest bare =
      replaced k (made p v o (taken none) rest) (made p w o kids rest) tt (λ b. (own_alike w o kids (bare_own kids bare), (bare_alike kids bare, b.1.1)))

  -- one that hides what it keeps, and that of its fallback
  pub beside_alike : (k : Around Fiber) (p : ℕ) (v w : Fiber) (o : Option ℕ) (kept : Shape Fiber) (id : ℕ) (x : Fiber) (old : Option ℕ) (kids rest : Draft Fiber) → hides_in w.stage ≡ true → AllBare kids
      → AllTakeAlike c (placed k (made p v o (taken none) rest)) → AllTakeAlike c (placed k (made p w o (taken kept) (made id x old kids rest)))
  beside_alike k p v w o kept id x old kids rest hidden bare =
      replaced k (made p v o (taken none) rest) (made p w o (taken kept) (made id x old kids rest)) tt
      (λ b. (hidden_alike w o kept hidden, (tt, (own_alike x old kids (bare_own kids bare), (bare_alike kids bare, b.1.1)))))

  -- one that is done
  pub done_alike : (k : Around Fiber) (p : ℕ) (v w : Fiber) (o : Option ℕ) (kids rest : Draft Fiber) → IsOwn kids → AllTakeAlike c (placed k (made p v o kids rest)) → AllTakeAlike c (placed k (made p w o kids rest))
  done_alike k p v w o kids rest own = replaced k (made p v o kids rest) (made p w o kids rest) tt (λ b. (own_alike w o kids own, b.1))

  -- the current fiber of a node
  old_value : (o : Option ℕ) (x : Node) → IsOld c o (Some x) → (u : Fiber) × (option_and_then (value_of c) o ≡ Some u) × (u.element ≡ element_of x)
  old_value _ x (of {j = j} {n = n} {s = s} here leads (next {rest = rest} is a)) = by_value (value_of c j) refl (node_element c j n x s rest is here)
    where
      by_value : (v : Option Fiber) → value_of c j ≡ v → option_map (λ u. u.element) (value_of c j) ≡ Some (element_of x) → (u : Fiber) × (value_of c j ≡ Some u) × (u.element ≡ element_of x)
      by_value None e f = absurd (let q : None ≡ Some (element_of x) = sym (ap (option_map (λ u. u.element)) e) ∙ f in cc)
      by_value (Some u) e f = (u, e, let q : Some u.element ≡ Some (element_of x) = sym (ap (option_map (λ u. u.element)) e) ∙ f in cc)

  -- one that takes the children of its current fiber over, with the mark of that one
  pub taken_alike : (k : Around Fiber) (p : ℕ) (v : Fiber) (o : Option ℕ) (rest : Draft Fiber) (m : Mark) (under : Subtree) (x : Node) → IsOld c o (Some x) → element_of x ≡ v.element → mark_at c o ≡ Some m
      → AllTakeAlike c (placed k (made p v o (taken none) rest)) → AllTakeAlike c (placed k (made p (taken_as m under v) o (taken (kids_under c o)) rest))
  taken_alike k p v o rest m under x was same marked =
      let (u, value, element) = old_value o x was in
      let its_mark : begun_mark u.stage ≡ Some m = sym (ap (option_and_then (λ w. begun_mark w.stage)) value) ∙ marked in
      let stage : u.stage ≡ begun m = begun_of u.stage m its_mark in
      let like : IsLike u (taken_as m under v) = record { element = sym (element ∙ same); mark = λ n e fixed. sym (ap mark_in stage) ∙ e } in
      replaced k (made p v o (taken none) rest) (made p (taken_as m under v) o (taken (kids_under c o)) rest) tt
      (λ b. (like_alike (taken_as m under v) o (kids_under c o) (u, value, like), (tt, b.1.1)))

  -- the nearest fiber outside that tries its children, without them
  pub dropped_alike : (stops : Stage → Bool) (k : Around Fiber) (d : Draft Fiber) (u : Outer) → nearest_where stops k ≡ Some u → AllTakeAlike c (placed k d)
      → AllTakeAlike c (placed u.around (made u.id u.value u.old (taken none) u.rest))
  dropped_alike stops top d u e a = absurd (let q : ⊥ = cc in q)
  dropped_alike stops (below id v o rs k) d u e a = by_test (stops v.stage) e (λ above. dropped_alike stops k (made id v o d rs) u above a)
    where
      by_test : (b : Bool) → (if b then Some (record { around = k; id = id; value = v; old = o; rest = rs }) else nearest_where stops k) ≡ Some u
          → (nearest_where stops k ≡ Some u → AllTakeAlike c (placed u.around (made u.id u.value u.old (taken none) u.rest)))
          → AllTakeAlike c (placed u.around (made u.id u.value u.old (taken none) u.rest))
      by_test true is out =
          let here : Outer = record { around = k; id = id; value = v; old = o; rest = rs } in
          let q : here ≡ u = cc in
          subst (λ (x : Outer). AllTakeAlike c (placed x.around (made x.id x.value x.old (taken none) x.rest))) q
          (replaced k (made id v o d rs) (made id v o (taken none) rs) tt (λ b. (tt, (tt, b.1.1))) a)
      by_test false is out = out is
  dropped_alike stops (after id v o ks k) d u e a = dropped_alike stops k (made id v o ks d) u e a

-- Where numbers are given

fixed_mark : (numbers : Numbers) (m : Mark) → is_fixed_mark m ≡ true → (numbered_mark numbers m).1 ≡ m
fixed_mark numbers (of_instance i) fixed = by_number i.number refl fixed
  where
    by_number : (n : Option ℕ) → i.number ≡ n → is_fixed_mark (of_instance i) ≡ true → (numbered_instance numbers i i.number).1 ≡ of_instance i
    by_number None e f = absurd (let q : false ≡ true = sym (ap is_some e) ∙ f in cc)
    by_number (Some n) e f = ap (λ x. (numbered_instance numbers i x).1) e
fixed_mark numbers (of_host None) fixed = absurd (let q : false ≡ true = fixed in cc)
fixed_mark numbers (of_host (Some n)) fixed = refl
fixed_mark numbers (of_boundary b) fixed = refl
fixed_mark numbers (of_catcher c) fixed = refl
fixed_mark numbers plain fixed = refl

hidden_same : (numbers : Numbers) (m : Mark) → is_hidden (numbered_mark numbers m).1 ≡ is_hidden m
hidden_same numbers (of_instance i) = by_number i.number
  where
    by_number : (n : Option ℕ) → is_hidden (numbered_instance numbers i n).1 ≡ is_hidden (of_instance i)
    by_number None = refl
    by_number (Some n) = refl
hidden_same numbers (of_host None) = refl
hidden_same numbers (of_host (Some n)) = refl
hidden_same numbers (of_boundary b) = refl
hidden_same numbers (of_catcher c) = refl
hidden_same numbers plain = refl

-- a fiber that has its number is like that one still
numbered_like : (numbers : Numbers) (x v : Fiber) (s : Stage) → v.stage ≡ s → IsLike x v → (hides_in (numbered_at numbers v s).1.stage ≡ hides_in v.stage) × IsLike x (numbered_at numbers v s).1
numbered_like numbers x v (waiting c) e like = (refl, like)
numbered_like numbers x v (begun m) e like = (
  hidden_same numbers m ∙ sym (ap hides_in e),
  record {
    element = like.element;
    mark = λ n is fixed.
        let has : Some m ≡ Some n = sym (ap mark_in e) ∙ like.mark n is fixed in
        let same : m ≡ n = cc in
        ap Some (fixed_mark numbers m (ap is_fixed_mark same ∙ fixed) ∙ same);
  },
)
numbered_like numbers x v (trying c) e like = (refl, like)
numbered_like numbers x v guarding e like = (refl, like)
numbered_like numbers x v (fallback a) e like = (refl, like)

hides_same : (numbers : Numbers) (v : Fiber) (s : Stage) → v.stage ≡ s → hides_in (numbered_at numbers v s).1.stage ≡ hides_in v.stage
hides_same numbers v (waiting c) e = refl
hides_same numbers v (begun m) e = hidden_same numbers m ∙ sym (ap hides_in e)
hides_same numbers v (trying c) e = refl
hides_same numbers v guarding e = refl
hides_same numbers v (fallback a) e = refl

numbered_takes : (c : Shape Fiber) (numbers lower : Numbers) (v : Fiber) (o : Option ℕ) (ks : Draft Fiber) → TakesAlike c v o ks → TakesAlike c (numbered_fiber numbers v).1 o (numbered_draft lower ks).1
numbered_takes c numbers lower v o (taken none) takes = tt
numbered_takes c numbers lower v o (taken (fiber id w ks rs)) takes = λ shown.
    let (x, value, like) = takes (sym (hides_same numbers v v.stage refl) ∙ shown) in
    (x, value, (numbered_like numbers x v v.stage refl like).1)
numbered_takes c numbers lower v o (made id w p ks rs) takes = tt

pub numbered_alike : (c : Shape Fiber) (numbers : Numbers) (d : Draft Fiber) → AllTakeAlike c d → AllTakeAlike c (numbered_draft numbers d).1
numbered_alike c numbers (taken s) a = tt
numbered_alike c numbers (made id v o ks rs) a =
    let own = numbered_fiber numbers v in
    let under = numbered_draft own.0 ks in
    (numbered_takes c numbers own.0 v o ks a.0, (numbered_alike c own.0 ks a.1.0, numbered_alike c under.0 rs a.1.1))
