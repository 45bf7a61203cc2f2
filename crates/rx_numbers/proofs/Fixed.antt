-- What a commit leaves as it is.
use Rattle.std.proofs.Common.{◌≡◌, ℕ, Bool, true, false, ◌&&◌, Option, Some, None, is_some, refl, ap, ◌∙◌}
use Rattle.rx_elem.specs.Numbers.{Numbers, numbered, numbered_in, numbered_instance, numbered_mark}
use Rattle.rx_elem.specs.Trees.{Forest, Mark, Node, child, node, none, of_boundary, of_catcher, of_host, of_instance, plain, vacant}
use Rattle.rx_node.specs.Fixed.{are_fixed, is_fixed_mark, is_fixed}
use Rattle.end_laws.specs.Trimmed.{trimmed, trimmed_in, vacant_before}

first_holds : (a b : Bool) → a && b ≡ true → a ≡ true
first_holds true b h = refl
first_holds false b h = absurd (cc h)

second_holds : (a b : Bool) → a && b ≡ true → b ≡ true
second_holds true b h = h
second_holds false b h = absurd (cc h)

-- a vacant place with others behind it is none of those at the end
stays_before : (ns : Forest) → are_fixed false ns ≡ true → vacant_before ns ≡ vacant ns
stays_before none h = absurd (cc h)
stays_before (vacant ns) h = refl
stays_before (child n ns) h = refl

mutual
  -- no place of it goes
  pub fixed_trimmed : (n : Node) → is_fixed n ≡ true → trimmed n ≡ n
  fixed_trimmed (node e m ns fs) h =
      let both = second_holds (is_fixed_mark m) (are_fixed true ns && are_fixed true fs) h in
      let kids = fixed_in_trimmed true ns (first_holds (are_fixed true ns) (are_fixed true fs) both) in
      let falls = fixed_in_trimmed true fs (second_holds (are_fixed true ns) (are_fixed true fs) both) in
      λ i. node e m (kids i) (falls i)

  fixed_in_trimmed : (filled : Bool) (ns : Forest) → are_fixed filled ns ≡ true → trimmed_in ns ≡ ns
  fixed_in_trimmed filled none h = refl
  fixed_in_trimmed filled (vacant ns) h = ap vacant_before (fixed_in_trimmed false ns h) ∙ stays_before ns h
  fixed_in_trimmed filled (child n ns) h =
      let one = fixed_trimmed n (first_holds (is_fixed n) (are_fixed true ns) h) in
      let rest = fixed_in_trimmed true ns (second_holds (is_fixed n) (are_fixed true ns) h) in
      λ i. child (one i) (rest i)

-- what has a number keeps it
fixed_mark : (next : Numbers) (m : Mark) → is_fixed_mark m ≡ true → numbered_mark next m ≡ (next, m)
fixed_mark next (of_instance i) h = go i.number h refl
  where
    go : (n : Option ℕ) → is_some n ≡ true → i.number ≡ n → numbered_instance next i i.number ≡ (next, of_instance i)
    go None k is = absurd (cc k)
    go (Some n) k is = ap (numbered_instance next i) is
fixed_mark next (of_host None) h = absurd (cc h)
fixed_mark next (of_host (Some n)) h = refl
fixed_mark next (of_boundary b) h = refl
fixed_mark next (of_catcher c) h = refl
fixed_mark next plain h = refl

mutual
  -- nothing in it gets a number
  pub fixed_numbered : (next : Numbers) (n : Node) → is_fixed n ≡ true → numbered next n ≡ (next, n)
  fixed_numbered next (node e m ns fs) h =
      let both = second_holds (is_fixed_mark m) (are_fixed true ns && are_fixed true fs) h in
      let own = fixed_mark next m (first_holds (is_fixed_mark m) (are_fixed true ns && are_fixed true fs) h) in
      let kids = fixed_in_numbered next true ns (first_holds (are_fixed true ns) (are_fixed true fs) both) in
      let falls = fixed_in_numbered next true fs (second_holds (are_fixed true ns) (are_fixed true fs) both) in
      ap (λ o. let below = numbered_in o.0 ns in let behind = numbered_in below.0 fs in (behind.0, node e o.1 below.1 behind.1)) own
      ∙ ap (λ below. let behind = numbered_in below.0 fs in (behind.0, node e m below.1 behind.1)) kids ∙ ap (λ behind. (behind.0, node e m ns behind.1)) falls

  fixed_in_numbered : (next : Numbers) (filled : Bool) (ns : Forest) → are_fixed filled ns ≡ true → numbered_in next ns ≡ (next, ns)
  fixed_in_numbered next filled none h = refl
  fixed_in_numbered next filled (vacant ns) h = ap (λ rest. (rest.0, vacant rest.1)) (fixed_in_numbered next false ns h)
  fixed_in_numbered next filled (child n ns) h =
      let one = fixed_numbered next n (first_holds (is_fixed n) (are_fixed true ns) h) in
      let rest = fixed_in_numbered next true ns (second_holds (is_fixed n) (are_fixed true ns) h) in
      ap (λ first. let rest = numbered_in first.0 ns in (rest.0, child first.1 rest.1)) one ∙ ap (λ r. (r.0, child n r.1)) rest
