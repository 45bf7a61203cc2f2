-- An old list of which some nodes stand at their places, and the whole nodes elsewhere.
use Rattle.std.proofs.Common.{◌≡◌, ℕ, zero, suc, ◌<◌, List, [], ◌∷◌, length, get_or, map, refl, ap, ◌∙◌, arith, Option, Some, None}
use Rattle.std.specs.Prelude.{slice_set}
use Rattle.rx_elem.specs.Trees.{Node}
use Rattle.rx_links.specs.Drafts.{or_else}
use Rattle.rx_fiber.specs.OldLists.{filled}
use Rattle.rx_beside.specs.Slots.{replaced, with_gone}

none_there : (os : List (Option Node)) → with_gone (filled (length os) None) os ≡ os
none_there [] = refl
none_there (o ∷ os) = ap (λ l. o ∷ l) (none_there os)

-- if none stands there, all are whole
pub none_yet : (ns os : List (Option Node)) (k : ℕ) → ns ≡ filled k None → k ≡ length os → with_gone ns os ≡ os
none_yet ns os k e f = ap (λ l. with_gone l os) (e ∙ ap (λ n. filled n None) f) ∙ none_there os

set_there : (ns os : List (Option Node)) (k : ℕ) (n : Node) → length ns ≡ length os → with_gone (slice_set ns k (Some n)) os ≡ slice_set (with_gone ns os) k (Some n)
set_there [] [] k n e = refl
set_there [] (o ∷ os) k n e = absurd (omega arith)
set_there (x ∷ ns) [] k n e = absurd (omega arith)
set_there (x ∷ ns) (o ∷ os) zero n e = refl
set_there (x ∷ ns) (o ∷ os) (suc k) n e = ap (λ l. or_else x o ∷ l) (set_there ns os k n (omega arith))

-- one more stands there
pub replaced_there : (r : Option Node) (place : Option ℕ) (ns os : List (Option Node)) → length ns ≡ length os → with_gone (replaced r place ns) os ≡ replaced r place (with_gone ns os)
replaced_there None place ns os e = refl
replaced_there (Some n) None ns os e = refl
replaced_there (Some n) (Some k) ns os e = set_there ns os k n e

set_length : (ns : List (Option Node)) (k : ℕ) (x : Option Node) → length (slice_set ns k x) ≡ length ns
set_length [] k x = refl
set_length (n ∷ ns) zero x = refl
set_length (n ∷ ns) (suc k) x = ap suc (set_length ns k x)

pub replaced_length : (r : Option Node) (place : Option ℕ) (ns : List (Option Node)) → length (replaced r place ns) ≡ length ns
replaced_length None place ns = refl
replaced_length (Some n) None ns = refl
replaced_length (Some n) (Some k) ns = set_length ns k (Some n)

pub got_map : (f : Option ℕ → Option Node) (fs : List (Option ℕ)) (k : ℕ) (c : Option ℕ) → k < length fs → c ≡ get_or fs k c → f c ≡ get_or (map f fs) k (f c)
got_map f [] k c l e = absurd (omega arith)
got_map f (g ∷ fs) zero c l e = ap f e
got_map f (g ∷ fs) (suc k) c l e = got_map f fs k c (omega arith) e

-- what stands at a place
pub gone_at : (ns os : List (Option Node)) (k : ℕ) (a o : Option Node) → length ns ≡ length os → k < length ns → a ≡ get_or ns k a → o ≡ get_or os k o
    → or_else a o ≡ get_or (with_gone ns os) k (or_else a o)
gone_at [] os k a o e l p q = absurd (omega arith)
gone_at (x ∷ ns) [] k a o e l p q = absurd (omega arith)
gone_at (x ∷ ns) (y ∷ os) zero a o e l p q = λ i. or_else (p i) (q i)
gone_at (x ∷ ns) (y ∷ os) (suc k) a o e l p q = gone_at ns os k a o (omega arith) (omega arith) p q

pub gone_length : (ns os : List (Option Node)) → length ns ≡ length os → length (with_gone ns os) ≡ length os
gone_length [] os e = refl
gone_length (x ∷ ns) [] e = refl
gone_length (x ∷ ns) (o ∷ os) e = ap suc (gone_length ns os (omega arith))
