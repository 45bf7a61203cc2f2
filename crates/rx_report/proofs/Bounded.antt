-- A walk over hosts whose numbers have 64 bits takes fewer than 2^64 rounds.
use Rattle.std.specs.Prelude.{◌≡◌, ℕ, ◌+◌, ◌<◌, ◌≤◌, ◌^◌, Bool, true, false, ◌||◌, List, [], ◌∷◌, ◌++◌, Option, Some, None, map, length, IfSome, nat_eq, refl}
use Rattle.std.specs.List.{AllByRecursion, IsDistinct, list_any}
use Rattle.std.proofs.Common.{sym, ◌∙◌, ap, subst, arith, append_assoc, eqb, length-append}
use Rattle.std.proofs.lemmas.Bool.Decides.{nat_tests, Decides-eqb}
use Rattle.std.proofs.lemmas.Map.Keys.{IsDistinct-cons}
use Rattle.std.proofs.lemmas.Map.Steps.{length-le_from_distinct_below}
use Rattle.rx_base.specs.Values.{Text}
use Rattle.rx_elem.specs.Spots.{container}
use Rattle.rx_forest.specs.Hosts.{Host, has_host}
use Rattle.rx_forest.specs.Forests.{HostForest}
use Rattle.rx_lines.specs.Lines.{Options, host_lines, report_bytes}
use Rattle.host_laws.specs.Related.{AreDistinct}
use Rattle.host_laws.proofs.Placing.{neither}
use Rattle.host_laws.proofs.Listing.{has_host-append, distinct-append}
use Rattle.rx_report.specs.TreeOrder.{AreInTreeOrder}
use Rattle.rx_report.proofs.Progress.{IsSmall, Progress, Turn, turn, one_more, ends}

abbrev numbers : List Host → List ℕ
numbers hs = map (λ h. h.number) hs

apart : (n : ℕ) (hs : List Host) → has_host hs n ≡ false → AllByRecursion (λ m. eqb n m ≡ false) (numbers hs)
apart n [] h = tt
apart n (g ∷ hs) h =
    let parts = neither (nat_eq g.number n) (has_host hs n) h in
    let other : nat_eq g.number n ≡ false = parts.0 in (grind (arith, nat_tests), apart n hs parts.1)

distinct_numbers : (hs : List Host) → AreDistinct hs → IsDistinct eqb (numbers hs)
unfolding IsDistinct
distinct_numbers [] d = tt
distinct_numbers (h ∷ hs) d = (apart h.number hs d.0, distinct_numbers hs d.1)

small_numbers : (hs : List Host) → AllByRecursion IsSmall hs → (q : ℕ) → list_any (eqb q) (numbers hs) ≡ true → q < 2 ^ 64
small_numbers [] a q h = absurd (cc)
small_numbers (g ∷ hs) a q h = go (small_numbers hs a.1 q) (eqb q g.number) refl h
  where
    go : (list_any (eqb q) (numbers hs) ≡ true → q < 2 ^ 64) → (b : Bool) → eqb q g.number ≡ b → (b || list_any (eqb q) (numbers hs)) ≡ true → q < 2 ^ 64
    go rest true e k = let same : q ≡ g.number = (Decides-eqb q g.number).0 e in subst (λ n. n < 2 ^ 64) (sym same) a.0
    go rest false e k = rest k

with_container : (hs : List Host) → AllByRecursion IsSmall hs → (q : ℕ) → list_any (eqb q) (0 ∷ numbers hs) ≡ true → q < 2 ^ 64
with_container hs a q h = go (eqb q 0) refl h
  where
    go : (b : Bool) → eqb q 0 ≡ b → (b || list_any (eqb q) (numbers hs)) ≡ true → q < 2 ^ 64
    go true e k = let same : q ≡ 0 = (Decides-eqb q 0).0 e in omega arith
    go false e k = small_numbers hs a q k

many : (hs : List Host) → length (numbers hs) ≡ length hs
many [] = refl
many (h ∷ hs) = omega (arith, many hs)

-- distinct hosts, none of them the container, whose numbers have 64 bits
few : (hs : List Host) → AreDistinct hs → has_host hs container ≡ false → AllByRecursion IsSmall hs → length hs + 1 ≤ 2 ^ 64
few hs d out a =
    let fits : length (0 ∷ numbers hs) ≤ 2 ^ 64 = length-le_from_distinct_below (0 ∷ numbers hs) (2 ^ 64) (IsDistinct-cons eqb 0 (numbers hs) (apart 0 hs out) (distinct_numbers hs d)) (with_container hs a) in
    omega (arith, many hs)

-- the hosts that are listed and the next one are fewer than 2^64
pub rounds_fit : (f : HostForest) (o : Options) (all : List Host) (old text : Text) (above : List ℕ) (n count : ℕ) → AreInTreeOrder all
    → Progress f o all old text above (Some n) count → n < 2 ^ 64 → count + 1 < 2 ^ 64
rounds_fit f o all old text above n count t p fits =
    let now : Turn f above n p.left p.left_lines = turn f above n p.left p.left_lines p.to_go in
    let front : List Host = p.listed ++ now.host ∷ [] in
    let split : all ≡ front ++ now.others = p.hosts ∙ ap (λ (hs : List Host). p.listed ++ hs) now.hosts_are ∙ sym (append_assoc p.listed (now.host ∷ []) now.others) in
    let distinct : AreDistinct front = (distinct-append front now.others (subst AreDistinct split t.distinct)).0 in
    let out : has_host front container ≡ false =
    (neither (has_host front container) (has_host now.others container) (sym (has_host-append front now.others container) ∙ ap (λ (hs : List Host). has_host hs container) (sym split) ∙ t.above)).0 in
    let small : AllByRecursion IsSmall front = one_more p.listed now.host p.small (subst (λ (k : ℕ). k < 2 ^ 64) (sym now.number) fits) in
    omega (arith, few front distinct out small, length-append p.listed (now.host ∷ []), p.counted)

-- so after so many rounds no host is left
pub all_listed : (f : HostForest) (o : Options) (all : List Host) (old text : Text) (above : List ℕ) (next : Option ℕ) (count : ℕ) → AreInTreeOrder all
    → Progress f o all old text above next count → IfSome next (λ n. n < 2 ^ 64) → 18446744073709551615 ≤ count → text ≡ old ++ report_bytes o (host_lines [] all)
all_listed f o all old text above None count t p fits past = ends f o all old text above count p
all_listed f o all old text above (Some n) count t p fits past = let few : count + 1 < 2 ^ 64 = rounds_fit f o all old text above n count t p fits in absurd (omega arith)
