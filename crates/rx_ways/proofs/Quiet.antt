-- If no cause is found all is quiet.
use Rattle.std.proofs.Common.{◌≡◌, ℕ, Bool, true, false, cond, Option, Some, None, refl, ap, arith}
use Rattle.std.specs.Prelude.{◌||◌}
use Rattle.std.specs.Option.{option_map_or}
use Rattle.std.proofs.lemmas.Bool.{eq-eqb, false_from_ne_true, or_from, or_parts}
use Rattle.rx_elem.specs.Trees.{Forest, Mark, Node, child, is_hidden, node, none, of_boundary, of_catcher, of_host, of_instance, plain, vacant}
use Rattle.commit_laws.specs.Each.{ForEach, ForEachIn}
use Rattle.commit_laws.specs.HiddenWaits.{AllNumbered, IsNumbered, Numbered}
use Rattle.rx_meaning.specs.Settled.{is_numbered_so, number_of, times_numbered, times_numbered_in}
use Rattle.rx_node.specs.Hides.{hides_in, hides_within}
use Rattle.rx_ways.specs.Leads.{is_cause}
use Rattle.rx_ways.specs.Ways.{Covers, CoversIn, IsQuiet}

-- each of these numbers occurs no times
abbrev pub NoneOccurs : (stirred : ℕ → Bool) → (times : ℕ → ℕ) → Type 0
NoneOccurs s times = (n : ℕ) → s n ≡ true → times n ≡ 0

-- a node that is no cause is quiet
pub quiet-mark : (s : ℕ → Bool) (m : Mark) → IsNumbered m → is_cause s m ≡ false → IsQuiet s m
quiet-mark s (of_instance i) has h = (has.0, has.1, rw has.1 at (or_parts _ false h).0)
quiet-mark s (of_host k) has h = tt
quiet-mark s (of_boundary b) has h = h
quiet-mark s (of_catcher c) has h = tt
quiet-mark s plain has h = tt

-- an instance whose number does not occur is no cause
no-number : (s : ℕ → Bool) (m : Mark) → NoneOccurs s (λ n. cond (is_numbered_so n (number_of m)) 1 0) → is_hidden m ≡ false → is_cause s m ≡ false
no-number s (of_instance i) free h = go i.number free
  where
    go : (o : Option ℕ) → NoneOccurs s (λ n. cond (is_numbered_so n o) 1 0) → option_map_or s o false || false ≡ false
    go None free = refl
    go (Some k) free =
        or_from (s k) false (false_from_ne_true (s k) (λ is. absurd (omega (arith, ap {B = ℕ} (λ b. cond b 1 0) (eq-eqb k k refl), free k is)))) refl
no-number s (of_host k) free h = refl
no-number s (of_boundary b) free h = h
no-number s (of_catcher c) free h = refl
no-number s plain free h = refl

mutual
  -- a tree with none of these numbers, in which no boundary is hidden, is quiet
  pub quiet-without : (s : ℕ → Bool) (x : Node) → Numbered x → hides_within x ≡ false → NoneOccurs s (λ n. times_numbered n x) → ForEach (IsQuiet s) x
  quiet-without s (node e m ns fs) has h free =
      let own = or_parts (is_hidden m) (hides_in ns || hides_in fs) h in
      let rest = or_parts (hides_in ns) (hides_in fs) own.1 in (
        quiet-mark s m has.0 (no-number s m (λ n is. omega (arith, free n is)) own.0),
        quiet-without_in s ns has.1 rest.0 (λ n is. omega (arith, free n is)),
        quiet-without_in s fs has.2 rest.1 (λ n is. omega (arith, free n is)),
      )

  quiet-without_in : (s : ℕ → Bool) (ns : Forest) → AllNumbered ns → hides_in ns ≡ false → NoneOccurs s (λ n. times_numbered_in n ns) → ForEachIn (IsQuiet s) ns
  quiet-without_in s none has h free = tt
  quiet-without_in s (vacant ns) has h free = quiet-without_in s ns has h free
  quiet-without_in s (child n ns) has h free =
      let parts = or_parts (hides_within n) (hides_in ns) h in
      (quiet-without s n has.0 parts.0 (λ k is. omega (arith, free k is)), quiet-without_in s ns has.1 parts.1 (λ k is. omega (arith, free k is)))

mutual
  -- a quiet tree is covered by whatever ways
  pub covered : (way : ℕ → Bool) (P : Mark → Type 0) (x : Node) → ForEach P x → Covers way P x
  covered way P (node e m ns fs) h = (λ n is off. h, covered_in way P ns h.1, covered_in way P fs h.2)

  covered_in : (way : ℕ → Bool) (P : Mark → Type 0) (ns : Forest) → ForEachIn P ns → CoversIn way P ns
  covered_in way P none h = tt
  covered_in way P (vacant ns) h = covered_in way P ns h
  covered_in way P (child n ns) h = (covered way P n h.0, covered_in way P ns h.1)
