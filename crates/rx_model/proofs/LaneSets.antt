-- How long sets of lanes are.
use Rattle.std.proofs.Common.{◌≡◌, ℕ, ◌<◌, ◌≤◌, Bool, true, false, List, [], ◌∷◌, length, refl, sym, ap, ◌∙◌, arith}
use Rattle.std.specs.Prelude.{not, ◌&&◌, filter, nat_eq}
use Rattle.std.proofs.lemmas.Bool.Decides.{nat_tests}
use Rattle.rx_lane.specs.declared.lane.Lane.{Lane}
use Rattle.rx_lane.specs.Lanes.{Lanes, priority, same_lane, all_lanes, has, lanes_where, one, minus}
use Rattle.rx_lane.specs.SetLaws.{has-all_lanes, same_lane-true, has-lanes_where}

pub nat_eq-same : (n : ℕ) → nat_eq n n ≡ true
nat_eq-same n = grind (arith, nat_tests)

pub same_lane-same : (l : Lane) → same_lane l l ≡ true
same_lane-same l = nat_eq-same (priority l)

pub has-one : (l : Lane) → has (one l) l ≡ true
has-one l = has-lanes_where (same_lane l) l ∙ same_lane-same l

-- the first lane is in the list
pub has-first : (l : Lane) (ls : Lanes) → has (l ∷ ls) l ≡ true
has-first l ls = rw (same_lane-same l) refl

pub length-filter-le : (test : Lane → Bool) (ls : List Lane) → length (filter test ls) ≤ length ls
length-filter-le test [] = omega arith
length-filter-le test (l ∷ ls) = go (test l) refl (length-filter-le test ls)
  where
    go : (b : Bool) → test l ≡ b → length (filter test ls) ≤ length ls → length (filter test (l ∷ ls)) ≤ length (l ∷ ls)
    go true e rest = rw e (omega arith)
    go false e rest = rw e (omega arith)

-- there are no more than twenty lanes
pub length-where-le : (test : Lane → Bool) → length (lanes_where test) ≤ 20
unfolding lanes_where
length-where-le test = length-filter-le test all_lanes

-- a test that passes less keeps no more
pub length-filter-within : (small large : Lane → Bool) (ls : List Lane) → ((l : Lane) → small l ≡ true → large l ≡ true)
    → length (filter small ls) ≤ length (filter large ls)
length-filter-within small large [] h = omega arith
length-filter-within small large (l ∷ ls) h = go (small l) refl (large l) refl (length-filter-within small large ls h)
  where
    go : (b : Bool) → small l ≡ b → (d : Bool) → large l ≡ d → length (filter small ls) ≤ length (filter large ls)
        → length (filter small (l ∷ ls)) ≤ length (filter large (l ∷ ls))
    go true e true f rest = rw (e, f) (omega arith)
    go true e false f rest = let t : large l ≡ true = h l e in absurd (cc (t, f))
    go false e true f rest = rw (e, f) (omega arith)
    go false e false f rest = rw (e, f) rest

-- and fewer, if a member passes the large test alone
pub length-filter-falls : (small large : Lane → Bool) (ls : List Lane) (m : Lane) → ((l : Lane) → small l ≡ true → large l ≡ true)
    → has ls m ≡ true → small m ≡ false → large m ≡ true → length (filter small ls) < length (filter large ls)
length-filter-falls small large [] m h member out in_large = absurd (cc member)
length-filter-falls small large (l ∷ ls) m h member out in_large =
    go (same_lane m l) refl (λ later. length-filter-falls small large ls m h later out in_large)
  where
    pick : (b : Bool) → small l ≡ b → (d : Bool) → large l ≡ d → length (filter small ls) < length (filter large ls)
        → length (filter small (l ∷ ls)) < length (filter large (l ∷ ls))
    pick true e true f rest = rw (e, f) (omega arith)
    pick true e false f rest = let t : large l ≡ true = h l e in absurd (cc (t, f))
    pick false e true f rest = rw (e, f) (omega arith)
    pick false e false f rest = rw (e, f) rest

    go : (b : Bool) → same_lane m l ≡ b → (has ls m ≡ true → length (filter small ls) < length (filter large ls))
        → length (filter small (l ∷ ls)) < length (filter large (l ∷ ls))
    go true e rest =
        let same : m ≡ l = same_lane-true m l e in
        let off : small l ≡ false = sym (ap small same) ∙ out in
        let on : large l ≡ true = sym (ap large same) ∙ in_large in
        rw (off, on) (omega (arith, length-filter-within small large ls h))
    go false e rest = let later : has ls m ≡ true = rw e at member in pick (small l) refl (large l) refl (rest later)

-- a set without the lanes of another is shorter, if both have a lane
pub length-minus-falls : (test : Lane → Bool) (lanes : Lanes) (m : Lane) → has (lanes_where test) m ≡ true → has lanes m ≡ true
    → length (minus (lanes_where test) lanes) < length (lanes_where test)
unfolding lanes_where
length-minus-falls test lanes m inside taken =
    let left : Lane → Bool = λ l. has (lanes_where test) l && not (has lanes l) in
    let out : left m ≡ false = rw (inside, taken) refl in
    let on : test m ≡ true = sym (has-lanes_where test m) ∙ inside in
    length-filter-falls left test all_lanes m (λ l e. within l (has (lanes_where test) l) (has lanes l) refl refl e) (has-all_lanes m) out on
  where
    within : (l : Lane) (b c : Bool) → has (lanes_where test) l ≡ b → has lanes l ≡ c → (has (lanes_where test) l && not (has lanes l)) ≡ true → test l ≡ true
    within l true c f g e = sym (has-lanes_where test l) ∙ f
    within l false c f g e = let no : false ≡ true = rw f at e in absurd (cc no)
