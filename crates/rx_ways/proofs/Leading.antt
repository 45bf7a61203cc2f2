-- What a walk puts on the ways leads to a cause.
use Rattle.std.proofs.Common.{◌≡◌, ℕ, Bool, true, inl, inr}
use Rattle.std.specs.Prelude.{◌||◌, ◌&&◌, not}
use Rattle.std.proofs.lemmas.Bool.{and_from, and_parts, or_cases, or_left, or_right}
use Rattle.rx_elem.specs.Trees.{Forest, Node, child, node, none, vacant}
use Rattle.rx_meaning.specs.Settled.{is_numbered_so, number_of}
use Rattle.rx_ways.specs.Leads.{is_cause, leads_from, leads_in, stirs, stirs_in}
use Rattle.rx_ways.specs.Walk.{finds, finds_in, is_spared, puts, puts_in}

-- what follows from each of two tests follows from one of them
pub or_weaker : (a b c d : Bool) → (a ≡ true → c ≡ true) → (b ≡ true → d ≡ true) → a || b ≡ true → c || d ≡ true
or_weaker a b c d f g h = elim (or_cases a b h) [ inl p ↦ or_left c d (f p) | inr q ↦ or_right c d (g q) ]

and_weaker : (a b c : Bool) → (b ≡ true → c ≡ true) → a && b ≡ true → a && c ≡ true
and_weaker a b c f h = let parts = and_parts a b h in and_from a c parts.0 (f parts.1)

mutual
  found-stirs : (h s : ℕ → Bool) (x : Node) → finds h s x ≡ true → stirs s x ≡ true
  found-stirs h s (node e m ns fs) is =
      or_weaker (is_cause s m) (finds_in h s ns || finds_in h s fs) (is_cause s m) (stirs_in s ns || stirs_in s fs) (λ p. p)
      (or_weaker (finds_in h s ns) (finds_in h s fs) (stirs_in s ns) (stirs_in s fs) (found-stirs_in h s ns) (found-stirs_in h s fs))
      (and_parts (not (is_spared h (node e m ns fs))) _ is).1

  found-stirs_in : (h s : ℕ → Bool) (ns : Forest) → finds_in h s ns ≡ true → stirs_in s ns ≡ true
  found-stirs_in h s none is = is
  found-stirs_in h s (vacant ns) is = found-stirs_in h s ns is
  found-stirs_in h s (child n ns) is = or_weaker (finds h s n) (finds_in h s ns) (stirs s n) (stirs_in s ns) (found-stirs h s n) (found-stirs_in h s ns) is

mutual
  pub put-leads : (h s : ℕ → Bool) (n : ℕ) (x : Node) → puts h s n x ≡ true → leads_from s n x ≡ true
  put-leads h s n (node e m ns fs) is =
      or_weaker (is_numbered_so n (number_of m) && finds h s (node e m ns fs)) (puts_in h s n ns || puts_in h s n fs)
      (is_numbered_so n (number_of m) && stirs s (node e m ns fs)) (leads_in s n ns || leads_in s n fs)
      (and_weaker (is_numbered_so n (number_of m)) (finds h s (node e m ns fs)) (stirs s (node e m ns fs)) (found-stirs h s (node e m ns fs)))
      (or_weaker (puts_in h s n ns) (puts_in h s n fs) (leads_in s n ns) (leads_in s n fs) (put-leads_in h s n ns) (put-leads_in h s n fs))
      (and_parts (not (is_spared h (node e m ns fs))) _ is).1

  put-leads_in : (h s : ℕ → Bool) (n : ℕ) (ns : Forest) → puts_in h s n ns ≡ true → leads_in s n ns ≡ true
  put-leads_in h s n none is = is
  put-leads_in h s n (vacant ns) is = put-leads_in h s n ns is
  put-leads_in h s n (child x ns) is =
      or_weaker (puts h s n x) (puts_in h s n ns) (leads_from s n x) (leads_in s n ns) (put-leads h s n x) (put-leads_in h s n ns) is
