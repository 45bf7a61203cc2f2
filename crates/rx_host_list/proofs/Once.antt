-- Numbers of which each stands there once.
use Rattle.std.proofs.Common.{◌≡◌, ℕ, Bool, true, false, ◌||◌, List, [], ◌∷◌, ◌++◌, nat_eq, map, refl, sym, ap, ◌∙◌, arith}
use Rattle.std.proofs.lemmas.Bool.Decides.{nat_tests, Decides-eqb}
use Rattle.std.proofs.lemmas.List.Folds.{list_any-append}
use Rattle.rx_forest.specs.Forests.{is_among}
use Rattle.rx_forest.specs.Hosts.{Host, has_host}
use Rattle.host_laws.specs.Related.{AreDistinct}
use Rattle.rx_host_list.specs.Walks.{AreOnce}

pub neither : (a b : Bool) → (a || b) ≡ false → (a ≡ false) × (b ≡ false)
neither true b h = absurd (cc)
neither false b h = (refl, h)

-- the parts of such numbers
pub once-append : (xs ys : List ℕ) → AreOnce (xs ++ ys) → AreOnce xs × AreOnce ys × ((q : ℕ) → is_among xs q ≡ true → is_among ys q ≡ false)
once-append [] ys d = (tt, d, λ q h. absurd (cc))
once-append (x ∷ xs) ys d =
    let parts : (is_among xs x ≡ false) × (is_among ys x ≡ false) = neither _ _ (sym (list_any-append (nat_eq x) xs ys) ∙ d.0) in
    let rest = once-append xs ys d.1 in
    ((parts.0, rest.0), rest.1, λ q h. apart q parts.1 (rest.2 q) (nat_eq q x) refl h)
  where
    apart : (q : ℕ) → is_among ys x ≡ false → (is_among xs q ≡ true → is_among ys q ≡ false) → (b : Bool) → nat_eq q x ≡ b
        → (b || is_among xs q) ≡ true → is_among ys q ≡ false
    apart q o r true e h = ap (is_among ys) ((Decides-eqb q x).0 e) ∙ o
    apart q o r false e h = r h

turned : (m n : ℕ) (b : Bool) → nat_eq m n ≡ b → nat_eq n m ≡ b
turned m n true e = grind (arith, nat_tests)
turned m n false e = grind (arith, nat_tests)

-- a number is among those of hosts if one has it
pub among-hosts : (hs : List Host) (q : ℕ) → is_among (map (λ h. h.number) hs) q ≡ has_host hs q
among-hosts [] q = refl
among-hosts (h ∷ hs) q = rw (turned h.number q _ refl, among-hosts hs q) refl

-- the numbers of distinct hosts are such
pub distinct-once : (hs : List Host) → AreDistinct hs → AreOnce (map (λ h. h.number) hs)
distinct-once [] d = tt
distinct-once (h ∷ hs) d = (among-hosts hs h.number ∙ d.0, distinct-once hs d.1)
