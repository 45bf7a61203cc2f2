-- A program that is not refused meets every check.
use Rattle.std.proofs.Common.{◌≡◌, ◌≤◌, Bool, true, false, List, [], ◌∷◌, Option, Some, None, refl, arith}
use Rattle.std.specs.Prelude.{ℕ, zero, suc, nat_lt, find, option_map, cond}
use Rattle.rx_base.specs.Values.{Name}
use Rattle.rx_ast.specs.Syntax.{Program}
use Rattle.rx_rules.specs.Bounds.{node_bound}
use Rattle.rx_rules.specs.Versions.{node_limit}
use Rattle.rx_check.specs.Checks.{is_rooted, count_over}
use Rattle.rx_check.specs.Refusals.{first_some, refused_name, name_refusals, way_refusals, count_refusals, size_refusals, refusals, refusal_of}
use Rattle.rx_check.specs.Accepted.{IsAccepted}
use Rattle.rx_mentions.specs.declared.count.Count.{Count}
use Rattle.rx_mentions.specs.declared.count.Count.TheVariants as count
use Rattle.rx_check.specs.declared.refusal.Refusal.{Refusal}
use Rattle.rx_check.specs.declared.refusal.Refusal.TheVariants as refusal

-- if none of a list is there, neither the first is nor one behind it
head-none : {A : Type 0} (o : Option A) (os : List (Option A)) → first_some (o ∷ os) ≡ None → o ≡ None
head-none None os h = refl
head-none (Some x) os h = cc

tail-none : {A : Type 0} (o : Option A) (os : List (Option A)) → first_some (o ∷ os) ≡ None → first_some os ≡ None
tail-none None os h = h
tail-none (Some x) os h = cc

names-none : (r : Name → Refusal) (ns : List Name) → refused_name r ns ≡ None → ns ≡ []
names-none r [] h = refl
names-none r (n ∷ ns) h = cc

pub map-none : {A B : Type 0} (f : A → B) (o : Option A) → option_map f o ≡ None → o ≡ None
map-none f None h = refl
map-none f (Some x) h = cc

root-there : (b : Bool) → cond b None (Some refusal.NoApp) ≡ None → b ≡ true
root-there true h = refl
root-there false h = cc

some-none : {A : Type 0} (x : A) → Some x ≡ None → ⊥
some-none x h = cc

-- a number that is not over a limit is within it
pub not-over : (limit n : ℕ) → find (nat_lt limit) (n ∷ []) ≡ None → n ≤ limit
not-over limit n h = go (nat_lt limit n) refl
  where
    go : (b : Bool) → nat_lt limit n ≡ b → n ≤ limit
    go true e = absurd (some-none n (rw e at h))
    go false e = grind (arith, e)

-- what is left of a list behind so many
abbrev behind : {A : Type 0} → ℕ → List (Option A) → List (Option A)
behind zero os = os
behind (suc n) [] = []
behind (suc n) (o ∷ os) = behind n os

behind-none : {A : Type 0} (n : ℕ) (os : List (Option A)) → first_some os ≡ None → first_some (behind n os) ≡ None
behind-none zero os h = h
behind-none (suc n) [] h = refl
behind-none (suc n) (o ∷ os) h = behind-none n os (tail-none o os h)

abbrev front : {A : Type 0} → List (Option A) → Option A
front [] = None
front (o ∷ os) = o

front-none : {A : Type 0} (os : List (Option A)) → first_some os ≡ None → front os ≡ None
front-none [] h = refl
front-none (o ∷ os) h = head-none o os h

place-none : {A : Type 0} (n : ℕ) (os : List (Option A)) → first_some os ≡ None → front (behind n os) ≡ None
place-none n os h = front-none (behind n os) (behind-none n os h)

pub counts-none : (p : Program) → first_some (count_refusals p) ≡ None → (w : Count) → count_over p w ≡ None
counts-none p h count.Name = map-none _ _ (place-none 0 (count_refusals p) h)
counts-none p h count.Text = map-none _ _ (place-none 1 (count_refusals p) h)
counts-none p h count.Declarations = map-none _ _ (place-none 2 (count_refusals p) h)
counts-none p h count.Parameters = map-none _ _ (place-none 3 (count_refusals p) h)
counts-none p h count.Statements = map-none _ _ (place-none 4 (count_refusals p) h)
counts-none p h count.Attributes = map-none _ _ (place-none 5 (count_refusals p) h)
counts-none p h count.Dependencies = map-none _ _ (place-none 6 (count_refusals p) h)
counts-none p h count.List = map-none _ _ (place-none 7 (count_refusals p) h)
counts-none p h count.Resources = map-none _ _ (place-none 8 (count_refusals p) h)
counts-none p h count.Depth = map-none _ _ (place-none 9 (count_refusals p) h)

-- a program that is not refused meets every check
pub accepted : (p : Program) → refusal_of p ≡ None → IsAccepted p
unfolding refusal_of
accepted p h =
    let names : first_some (name_refusals p) ≡ None = place-none 0 (refusals p) h in
    let ways : first_some (way_refusals p) ≡ None = place-none 1 (refusals p) h in
    let numbers : first_some (count_refusals p) ≡ None = place-none 2 (refusals p) h in
    let sizes : first_some (size_refusals p) ≡ None = place-none 3 (refusals p) h in
    record {
      introduced_once = names-none _ _ (place-none 0 (name_refusals p) names);
      all_known = names-none _ _ (place-none 1 (name_refusals p) names);
      all_fit = names-none _ _ (place-none 2 (name_refusals p) names);
      no_function_cycle = names-none _ _ (place-none 0 (way_refusals p) ways);
      no_component_cycle = names-none _ _ (place-none 1 (way_refusals p) ways);
      no_outside_use = names-none _ _ (place-none 2 (way_refusals p) ways);
      no_outside_throw = names-none _ _ (place-none 3 (way_refusals p) ways);
      rooted = root-there (is_rooted p) (place-none 4 (way_refusals p) ways);
      within_counts = counts-none p numbers;
      within_nodes = not-over (node_limit p) (node_bound p) (map-none _ _ (place-none 0 (size_refusals p) sizes));
      within_cost = map-none _ _ (place-none 1 (size_refusals p) sizes);
    }
