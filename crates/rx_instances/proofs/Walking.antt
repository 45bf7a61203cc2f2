-- A walk over current fibers along a path goes from node to node as the path leads.
use Rattle.std.proofs.Common.{◌≡◌, ◌+◌, ◌<◌, ℕ, true, ◌∷◌, Option, Some, None, IfSome, length, get_or, slice_get, refl, sym, ap, ◌∙◌, subst}
use Rattle.std.specs.Prelude.{option_map, option_and_then}
use Rattle.std.proofs.lemmas.Option.{none-some, same_Some}
use Rattle.rx_base.specs.Values.{Name}
use Rattle.rx_ast.specs.Syntax.{Program}
use Rattle.rx_step.specs.Steps.{Path}
use Rattle.rx_elem.specs.Trees.{Instance, Mark, Node, children_of, instance_in, mark_of, of_boundary, of_catcher, of_host, of_instance, plain}
use Rattle.rx_lists.specs.Shapes.{Shape}
use Rattle.rx_links.specs.Readers.{IsLinked, list_from, value_of}
use Rattle.rx_fiber.specs.Fibers.{Fiber}
use Rattle.rx_fiber.specs.OldLists.{primary_list}
use Rattle.rx_fiber.specs.Reading.{IsOld, IsTreeOf}
use Rattle.rx_meaning.specs.Settled.{number_of}
use Rattle.rx_ways.specs.Walk.{hinted}
use Rattle.rx_ways.specs.Ways.{Ways, is_way}
use Rattle.rx_instances.specs.Nearest.{Told, named, nearest_if, nearest_in, node_at, told, told_of}
use Rattle.rx_instances.specs.NearFibers.{IsFoundAt, found_by, instance_at, near_fibers, told_in}
use Rattle.rx_instances.specs.declared.find.Found.{Found}
use Rattle.rx_instances.proofs.NearOlds.{first_old, is_old, next_old, no_old, old_instance}
use Rattle.rx_instances.proofs.Walked.{Walked, walked_first, walked_more}

-- a fiber puts the node for which it stands on the ways unless it is known to be on one
abbrev pub PutsFiber : Shape Fiber → ℕ → (known new : Ways) → Type 0
PutsFiber c i known new = (x : Node) (m : ℕ) → IsOld c (Some i) (Some x) → number_of (mark_of x) ≡ Some m → hinted known new m ≡ true

-- So many parts of a path were walked, to a fiber: it is the current one of the node to which they lead.
pub record WalksTo (p : Program) (y : Option Node) (c : Shape Fiber) (path : Path) (w : ℕ) (i : ℕ) (known old new : Ways) : Type 0 where
  pub node : Node
  pub stands : IsOld c (Some i) (Some node)
  pub walked : Walked p y path w node known old new

-- ---- what is told of a fiber

number_told : (i : ℕ) (k : Instance) (r : Option ℕ)
    → option_map told_in (option_map (λ n. let f : Found = record { number = n; component = k.component; fiber = i } in f) r)
    ≡ option_map (λ n. let t : Told = record { number = n; component = k.component } in t) r
number_told i k None = refl
number_told i k (Some n) = refl

instance_told : (i : ℕ) (o : Option Instance) → option_map told_in (option_and_then (found_by i) o) ≡ option_and_then told_of o
instance_told i None = refl
instance_told i (Some k) = number_told i k k.number

-- what is told of a fiber is told of its node
pub told_fiber : (c : Shape Fiber) (i : ℕ) (x : Node) (v : Fiber) → IsOld c (Some i) (Some x) → Some v ≡ value_of c i
    → option_map told_in (option_and_then (found_by i) (instance_at v.stage)) ≡ told x
told_fiber c i x v old is =
    ap (λ (o : Option Instance). option_map told_in (option_and_then (found_by i) o)) (old_instance c i x v old is) ∙ instance_told i (instance_in (mark_of x))

number_fiber : (i : ℕ) (k : Instance) (r : Option ℕ) (f : Found)
    → option_map (λ n. let g : Found = record { number = n; component = k.component; fiber = i } in g) r ≡ Some f → f.fiber ≡ i
number_fiber i k None f e = absurd (none-some f e)
number_fiber i k (Some n) f e = sym (ap (λ (g : Found). g.fiber) (same_Some (record { number = n; component = k.component; fiber = i }) f e))

found_fiber : (i : ℕ) (o : Option Instance) (f : Found) → option_and_then (found_by i) o ≡ Some f → f.fiber ≡ i
found_fiber i None f e = absurd (none-some f e)
found_fiber i (Some k) f e = number_fiber i k k.number f e

-- what is told of the fiber of a node that a path leads to
pub found_at : (p : Program) (y : Option Node) (path : Path) (c : Shape Fiber) (i : ℕ) (x : Node) (v : Fiber) (r : Option Found)
    → node_at p y path ≡ Some x → IsOld c (Some i) (Some x) → Some v ≡ value_of c i → r ≡ option_and_then (found_by i) (instance_at v.stage) → IfSome r (IsFoundAt p y path c)
found_at p y path c i x v r leads old is r_is = go r refl
  where
    go : (s : Option Found) → r ≡ s → IfSome s (IsFoundAt p y path c)
    go None e = tt
    go (Some f) e = record {
      node = x;
      leads = leads;
      fiber = subst (λ j. IsOld c (Some j) (Some x)) (sym (found_fiber i (instance_at v.stage) f (sym r_is ∙ e))) old;
      is_told = sym (told_fiber c i x v old is) ∙ ap (option_map told_in) (sym r_is ∙ e);
    }

-- a fiber whose node has a number is told with it
pub told_number : (c : Shape Fiber) (i n : ℕ) (x : Node) (v : Fiber) → IsOld c (Some i) (Some x) → Some v ≡ value_of c i → number_of (mark_of x) ≡ Some n
    → (f : Found) × (option_and_then (found_by i) (instance_at v.stage) ≡ Some f) × (f.number ≡ n)
told_number c i n x v old is e = subst (λ (o : Option Instance). (f : Found) × (option_and_then (found_by i) o ≡ Some f) × (f.number ≡ n)) (sym (old_instance c i x v old is)) (by_mark (mark_of x) e)
  where
    by_mark : (m : Mark) → number_of m ≡ Some n → (f : Found) × (option_and_then (found_by i) (instance_in m) ≡ Some f) × (f.number ≡ n)
    by_mark (of_instance k) e = (record { number = n; component = k.component; fiber = i }, ap (option_map (λ j. let g : Found = record { number = j; component = k.component; fiber = i } in g)) e, refl)
    by_mark (of_host h) e = absurd (none-some n e)
    by_mark (of_boundary b) e = absurd (none-some n e)
    by_mark (of_catcher c) e = absurd (none-some n e)
    by_mark plain e = absurd (none-some n e)

-- what is told of such a fiber has this number
pub number_found : (c : Shape Fiber) (i n : ℕ) (x : Node) (v : Fiber) → IsOld c (Some i) (Some x) → Some v ≡ value_of c i → number_of (mark_of x) ≡ Some n
    → (f : Found) → Some f ≡ option_and_then (found_by i) (instance_at v.stage) → f.number ≡ n
number_found c i n x v old is e f same =
    let (g, found, number) = told_number c i n x v old is e in
    ap (λ (h : Found). h.number) (same_Some f g (same ∙ found)) ∙ number

-- ---- from part to part

-- ways that were there stay
abbrev pub Keeps : (old new : Ways) → Type 0
Keeps old new = (m : ℕ) → is_way old m ≡ true → is_way new m ≡ true

module _ (p : Program) (y : Option Node) (c : Shape Fiber) (linked : IsLinked c) where
  pub first_walks : (path rest : Path) (part : Name × ℕ) (i : ℕ) (known old new : Ways) → IsTreeOf y c → path ≡ part ∷ rest → Some i ≡ slice_get (near_fibers p part.0 c) part.1
      → PutsFiber c i known new → Keeps old new → WalksTo p y c path 1 i known old new
  first_walks path rest part i known old new tree is at puts keeps =
      let here = subst (λ q. IsOld c q (slice_get (named p part.0 (nearest_if y)) part.1)) (sym at) (first_old p part.0 c linked y tree part.1) in
      let (x, leads, stands) = is_old c (slice_get (named p part.0 (nearest_if y)) part.1) i here in
      record {
        node = x;
        stands = stands;
        walked = walked_first p y path rest part x known old new is leads (record { here = λ m. puts x m stands; others = keeps });
      }

  pub first_none : (part : Name × ℕ) → IsTreeOf y c → None ≡ slice_get (near_fibers p part.0 c) part.1 → None ≡ slice_get (named p part.0 (nearest_if y)) part.1
  first_none part tree at =
      no_old c (slice_get (named p part.0 (nearest_if y)) part.1)
      (subst (λ q. IsOld c q (slice_get (named p part.0 (nearest_if y)) part.1)) (sym at) (first_old p part.0 c linked y tree part.1))

  pub more_walks : (path : Path) (w i j : ℕ) (part : Name × ℕ) (known old now new : Ways) → WalksTo p y c path w i known old now → w < length path → part ≡ get_or path w part
      → Some j ≡ slice_get (near_fibers p part.0 (primary_list (list_from c (Some i)))) part.1 → PutsFiber c j known new → Keeps now new → WalksTo p y c path (w + 1) j known old new
  more_walks path w i j part known old now new walks lt is at puts keeps =
      let those = slice_get (named p part.0 (nearest_in (children_of walks.node))) part.1 in
      let here = subst (λ q. IsOld c q those) (sym at) (next_old p part.0 c linked i walks.node walks.stands part.1) in
      let (x, leads, stands) = is_old c those j here in
      record {
        node = x;
        stands = stands;
        walked = walked_more p y path w walks.node x part known old now new walks.walked lt is leads (record { here = λ m. puts x m stands; others = keeps });
      }

  pub more_none : (path : Path) (w i : ℕ) (part : Name × ℕ) (known old now : Ways) (walks : WalksTo p y c path w i known old now)
      → None ≡ slice_get (near_fibers p part.0 (primary_list (list_from c (Some i)))) part.1
      → None ≡ slice_get (named p part.0 (nearest_in (children_of walks.node))) part.1
  more_none path w i part known old now walks at =
      let those = slice_get (named p part.0 (nearest_in (children_of walks.node))) part.1 in
      no_old c those (subst (λ q. IsOld c q those) (sym at) (next_old p part.0 c linked i walks.node walks.stands part.1))
