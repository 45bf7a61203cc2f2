-- A new tree that was rendered against an old one grows out of it: hosts that go on keep their numbers, new ones have none or later ones.
use Rattle.std.specs.Prelude.{◌≡◌, ℕ, ◌≤◌, Bool, true, false, List, [], ◌∷◌, Option, Some, None}
use Rattle.std.proofs.Common.{arith, sym, subst}
use Rattle.rx_elem.specs.Elements.{Element, kind_of, same_kind}
use Rattle.rx_elem.specs.Trees.{Mark, of_instance, of_host, of_boundary, of_catcher, plain, Node, node, Forest, none, vacant, child, mark_of, element_of, host_number, is_host, elements_in, children_if, fallback_if}
use Rattle.rx_elem.specs.Compare.{old_nodes}
use Rattle.rx_elem.specs.Numbers.{Numbers, numbered, numbered_in, numbered_mark, numbered_instance}
use Rattle.replay_laws.proofs.Counts.{elements_stay, mark_rises, number_rises, numbers_rise}

-- the first of the old nodes, and the others
abbrev pub first : List (Option Node) → Option Node
first [] = None
first (o ∷ os) = o

abbrev pub rest : List (Option Node) → List (Option Node)
rest [] = []
rest (o ∷ os) = os

-- what a node was, by whether it is a host
abbrev pub MarkGrows : ℕ → Element → Option ℕ → Option Node → Bool → Type 0
MarkGrows next e number None true = (n : ℕ) → number ≡ Some n → next ≤ n
MarkGrows next e number (Some o) true =
    (is_host (mark_of o) ≡ true) × (same_kind (kind_of e) (kind_of (element_of o)) ≡ true) × (n : ℕ) × (number ≡ Some n) × (host_number (mark_of o) ≡ Some n)
MarkGrows next e number None false = Unit {0}
MarkGrows next e number (Some o) false = is_host (mark_of o) ≡ false

abbrev mutual
  pub Grows : ℕ → Option Node → Node → Type 0
  Grows next o (node e m ns fs) =
      MarkGrows next e (host_number m) o (is_host m)
      × Grows_in next (old_nodes (children_if o) (elements_in ns)) ns
      × Grows_in next (old_nodes (fallback_if o) (elements_in fs)) fs

  pub Grows_in : ℕ → List (Option Node) → Forest → Type 0
  Grows_in next os none = Unit {0}
  Grows_in next os (vacant ns) = Grows_in next (rest os) ns
  Grows_in next os (child x ns) = Grows next (first os) x × Grows_in next (rest os) ns

host_mark_grows : (next : ℕ) (e : Element) (c : Numbers) → next ≤ c.host → (h : Option ℕ) (o : Option Node) → MarkGrows next e h o true
    → MarkGrows next e (host_number (numbered_mark c (of_host h)).1) o (is_host (numbered_mark c (of_host h)).1)
host_mark_grows next e c late None None g = λ n same. let equal : c.host ≡ n = cc in omega arith
host_mark_grows next e c late (Some k) None g = g
host_mark_grows next e c late None (Some o) g = let clash : None ≡ Some g.2 = g.3 in absurd (cc)
host_mark_grows next e c late (Some k) (Some o) g = g

instance_mark_grows : (next : ℕ) (e : Element) (c : Numbers) (i : _) (k : Option ℕ) (o : Option Node) → MarkGrows next e None o false
    → MarkGrows next e (host_number (numbered_instance c i k).1) o (is_host (numbered_instance c i k).1)
instance_mark_grows next e c i None None g = tt
instance_mark_grows next e c i (Some n) None g = tt
instance_mark_grows next e c i None (Some o) g = g
instance_mark_grows next e c i (Some n) (Some o) g = g

mark_grows : (next : ℕ) (e : Element) (c : Numbers) → next ≤ c.host → (m : Mark) (o : Option Node) → MarkGrows next e (host_number m) o (is_host m)
    → MarkGrows next e (host_number (numbered_mark c m).1) o (is_host (numbered_mark c m).1)
mark_grows next e c late (of_host h) o g = host_mark_grows next e c late h o g
mark_grows next e c late (of_instance i) o g = instance_mark_grows next e c i i.number o g
mark_grows next e c late (of_boundary b) o g = g
mark_grows next e c late (of_catcher z) o g = g
mark_grows next e c late plain o g = g

mutual
  -- and so it does once it has its numbers
  pub numbered_grows : (next : ℕ) (c : Numbers) → next ≤ c.host → (o : Option Node) (x : Node) → Grows next o x → Grows next o (numbered c x).1
  numbered_grows next c late o (node e m ns fs) g = (
    mark_grows next e c late m o g.0,
    subst (λ es. Grows_in next (old_nodes (children_if o) es) (numbered_in (numbered_mark c m).0 ns).1) (sym (elements_stay (numbered_mark c m).0 ns))
        (all_numbered_grow next (numbered_mark c m).0 (omega (arith, mark_rises c m)) (old_nodes (children_if o) (elements_in ns)) ns g.1),
    subst (λ es. Grows_in next (old_nodes (fallback_if o) es) (numbered_in (numbered_in (numbered_mark c m).0 ns).0 fs).1)
        (sym (elements_stay (numbered_in (numbered_mark c m).0 ns).0 fs))
        (all_numbered_grow next (numbered_in (numbered_mark c m).0 ns).0 (omega (arith, mark_rises c m, numbers_rise (numbered_mark c m).0 ns))
        (old_nodes (fallback_if o) (elements_in fs)) fs g.2),
  )

  all_numbered_grow : (next : ℕ) (c : Numbers) → next ≤ c.host → (os : List (Option Node)) (ns : Forest) → Grows_in next os ns
      → Grows_in next os (numbered_in c ns).1
  all_numbered_grow next c late os none g = tt
  all_numbered_grow next c late os (vacant ns) g = all_numbered_grow next c late (rest os) ns g
  all_numbered_grow next c late os (child x ns) g =
      (numbered_grows next c late (first os) x g.0, all_numbered_grow next (numbered c x).0 (omega (arith, number_rises c x)) (rest os) ns g.1)
