-- The operations that change one host each: creations, contents and marks.
use Rattle.std.specs.Prelude.{◌≡◌, ℕ, Bool, true, false, List, [], ◌∷◌, ◌++◌, Option, flat_map, nat_eq, refl, if◌then◌else◌}
use Rattle.std.proofs.Math.Path.{fun_ext}
use Rattle.std.proofs.Common.{ap, subst}
use Rattle.rx_forest.specs.Forests.{HostForest, Held, with_held, Replays}
use Rattle.rx_forest.specs.Hosts.{Host}
use Rattle.rx_forest.specs.declared.op.HostOp.{HostOp}

-- one list of operations after another
pub replays-append : (xs ys : List HostOp) (f g h : HostForest) → Replays f xs g → Replays g ys h → Replays f (xs ++ ys) h
replays-append [] ys f g h e r = subst (λ k. Replays k ys h) e r
replays-append (x ∷ xs) ys f g h r s = (r.0, r.1, replays-append xs ys r.0 g h r.2 s)

-- no change, and one change after another
pub with_held-same : (f : HostForest) (n : ℕ) → with_held f n (λ x. x) ≡ f
with_held-same f n = ap (λ k. record f { held = k }) (fun_ext (λ m. go m (nat_eq m n)))
  where
    go : (m : ℕ) (b : Bool) → (if b then f.held m else f.held m) ≡ f.held m
    go m true = refl
    go m false = refl

pub with_held-twice : (f : HostForest) (n : ℕ) (a b : Option Held → Option Held) → with_held (with_held f n a) n b ≡ with_held f n (λ x. b (a x))
with_held-twice f n a b = ap (λ k. record f { held = k }) (fun_ext (λ m. go m (nat_eq m n)))
  where
    go : (m : ℕ) (t : Bool) → (if t then b (if t then a (f.held m) else f.held m) else (if t then a (f.held m) else f.held m)) ≡ (if t then b (a (f.held m)) else f.held m)
    go m true = refl
    go m false = refl

-- what changes of hosts, one after another, leave of a number
abbrev pub changed : (Host → Option Held → Option Held) → List Host → ℕ → Option Held → Option Held
changed change [] n x = x
changed change (h ∷ hs) n x = changed change hs n (if nat_eq n h.number then change h x else x)

-- operations that change one host each
pub changes_all : (ops : Host → List HostOp) (change : Host → Option Held → Option Held)
    → ((h : Host) (f : HostForest) → Replays f (ops h) (with_held f h.number (change h)))
    → (hs : List Host) (f : HostForest) → Replays f (flat_map ops hs) (record f { held = λ n. changed change hs n (f.held n) })
changes_all ops change each [] f = refl
changes_all ops change each (h ∷ hs) f =
    replays-append (ops h) (flat_map ops hs) f (with_held f h.number (change h)) (record f { held = λ n. changed change (h ∷ hs) n (f.held n) })
    (each h f) (changes_all ops change each hs (with_held f h.number (change h)))
