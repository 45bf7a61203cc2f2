-- What an old node read, if the current fiber stands that a clone was made for.
use Rattle.std.specs.Prelude.{◌≡◌, ℕ, ℤ, Bool, true, false, List, Option, Some, None}
use Rattle.std.proofs.Common.{subst}
use Rattle.rx_elem.specs.Trees.{Node, node, Forest, none, vacant, child, is_hidden}
use Rattle.rx_lists.specs.Shapes.{Shape}
use Rattle.rx_links.specs.Readers.{IsLinked}
use Rattle.rx_meaning.specs.Fresh.{Contexts}
use Rattle.rx_meaning.specs.Settled.{IfHidden, ReadsHold, AllReadsHold, IfReadsHold}
use Rattle.rx_meaning.specs.Touched.{contexts_below}
use Rattle.end_laws.specs.Trimmed.{vacant_before, trimmed, trimmed_in}
use Rattle.render_laws.specs.OldNodes.{AllHave, OldHas}
use Rattle.rx_fiber.specs.Fibers.{Fiber}
use Rattle.rx_fiber.specs.Reading.{IsOld, IsTreeOf}
use Rattle.rx_fiber.specs.Stood.{StandsSame}
use Rattle.rx_render.specs.GivenContexts.{given_contexts}
use Rattle.rx_render.proofs.StoodNodes.{HandsDown, same_trimmed, shown_has}
use Rattle.rx_render.proofs.Waiting.{not_hidden}

-- Reads don't depend on the vacant places at the ends of lists

if_shown : (b : Bool) (A B : Type 0) → (A → B) → IfHidden b (Unit {0}) A → IfHidden b (Unit {0}) B
if_shown true A B f h = tt
if_shown false A B f h = f h

vacant_reads : (v : ℕ → ℕ) (cs : Contexts) (ns : Forest) → AllReadsHold v cs ns → AllReadsHold v cs (vacant_before ns)
vacant_reads v cs none h = tt
vacant_reads v cs (vacant ns) h = h
vacant_reads v cs (child x ns) h = h

reads_vacant : (v : ℕ → ℕ) (cs : Contexts) (ns : Forest) → AllReadsHold v cs (vacant_before ns) → AllReadsHold v cs ns
reads_vacant v cs none h = tt
reads_vacant v cs (vacant ns) h = h
reads_vacant v cs (child x ns) h = h

mutual
  trimmed_reads : (v : ℕ → ℕ) (cs : Contexts) (x : Node) → ReadsHold v cs x → ReadsHold v cs (trimmed x)
  trimmed_reads v cs (node e m ns fs) h = (
    h.0,
    if_shown (is_hidden m) (AllReadsHold v (contexts_below e cs) ns) (AllReadsHold v (contexts_below e cs) (trimmed_in ns)) (λ k. all_trimmed v (contexts_below e cs) ns k) h.1,
    all_trimmed v cs fs h.2,
  )

  all_trimmed : (v : ℕ → ℕ) (cs : Contexts) (ns : Forest) → AllReadsHold v cs ns → AllReadsHold v cs (trimmed_in ns)
  all_trimmed v cs none h = tt
  all_trimmed v cs (vacant ns) h = vacant_reads v cs (trimmed_in ns) (all_trimmed v cs ns h)
  all_trimmed v cs (child x ns) h = (trimmed_reads v cs x h.0, all_trimmed v cs ns h.1)

mutual
  reads_trimmed : (v : ℕ → ℕ) (cs : Contexts) (x : Node) → ReadsHold v cs (trimmed x) → ReadsHold v cs x
  reads_trimmed v cs (node e m ns fs) h = (
    h.0,
    if_shown (is_hidden m) (AllReadsHold v (contexts_below e cs) (trimmed_in ns)) (AllReadsHold v (contexts_below e cs) ns) (λ k. trimmed_all v (contexts_below e cs) ns k) h.1,
    trimmed_all v cs fs h.2,
  )

  trimmed_all : (v : ℕ → ℕ) (cs : Contexts) (ns : Forest) → AllReadsHold v cs (trimmed_in ns) → AllReadsHold v cs ns
  trimmed_all v cs none h = tt
  trimmed_all v cs (vacant ns) h = trimmed_all v cs ns (reads_vacant v cs (trimmed_in ns) h)
  trimmed_all v cs (child x ns) h = (reads_trimmed v cs x h.0, trimmed_all v cs ns h.1)

reads_same : (v : ℕ → ℕ) (cs : Contexts) (x y : Node) → trimmed x ≡ trimmed y → ReadsHold v cs x → ReadsHold v cs y
reads_same v cs x y same h = reads_trimmed v cs y (subst (ReadsHold v cs) same (trimmed_reads v cs x h))

-- They go down

each_reads : (v : ℕ → ℕ) (cs : Contexts) (ns : Forest) → AllReadsHold v cs ns → AllHave (ReadsHold v cs) ns
each_reads v cs none h = tt
each_reads v cs (vacant ns) h = each_reads v cs ns h
each_reads v cs (child x ns) h = (h.0, each_reads v cs ns h.1)

reads_down : (v : ℕ → ℕ) → HandsDown (ReadsHold v)
reads_down v =
    record {
      children = λ cs e m ns fs h shows. each_reads v (contexts_below e cs) ns (not_hidden (Unit {0}) (AllReadsHold v (contexts_below e cs) ns) (is_hidden m) h.1 shows);
      fallbacks = λ cs e m ns fs h. each_reads v cs fs h.2;
    }

root_reads : (v : ℕ → ℕ) (cs : Contexts) (tree : Option Node) → IfReadsHold v cs tree → OldHas (ReadsHold v cs) tree
root_reads v cs None h = tt
root_reads v cs (Some x) h = h

module _ (v : ℕ → ℕ) (c : Shape Fiber) (linked : IsLinked c) (base : Contexts) (tree : Option Node) (is : IsTreeOf tree c) (reads : IfReadsHold v base tree)
    (ws : List (ℕ × ℤ)) (o : Option ℕ) (x : Node) (stood : StandsSame c ws o) (old : IsOld c o (Some x)) where
  -- an old node read what the contexts give where its current fiber stands, and the resources in these versions
  pub reads_here : ReadsHold v (given_contexts base ws) x
  reads_here =
      let y = shown_has (ReadsHold v) (reads_down v) c linked base tree is (root_reads v base tree reads) ws o stood in
      reads_same v (given_contexts base ws) y.node_is x (same_trimmed c o y.node_is x y.is old) y.has
