-- Hosts that stand where they stood: only what they are and their marks change.
use Rattle.std.specs.Prelude.{◌≡◌, ℕ, ◌+◌, ◌<◌, ◌≤◌, Bool, true, false, not, ◌&&◌, ◌||◌, List, [], ◌∷◌, ◌++◌, Some, length, filter, get_or, drop, take, nat_eq, refl}
use Rattle.std.specs.List.{flat_map}
use Rattle.std.specs.Option.{option_map_or}
use Rattle.std.proofs.Common.{sym, ap, ◌∙◌, arith, append_assoc}
use Rattle.std.proofs.lemmas.List.{append-nil, map-append, take_more}
use Rattle.std.proofs.lemmas.Bool.Decides.{nat_tests, Decides-eqb}
use Rattle.rx_forest.specs.declared.op.HostOp.{HostOp}
use Rattle.rx_forest.specs.Hosts.{Host, host_numbered, has_host}
use Rattle.rx_forest.specs.HostOps.{is_gone, goes_with_parent, placements, bare, content_ops, hiding_ops, ops_between}
use Rattle.host_laws.specs.Related.{AreDistinct}
use Rattle.rx_host_ops.specs.Beside.{numbers_in, beside, change_of, mark_of}
use Rattle.rx_host_ops.proofs.Lists.{front, drop-end}

-- What is there by number

same_has : (old new : List Host) → numbers_in old ≡ numbers_in new → (n : ℕ) → has_host old n ≡ has_host new n
same_has [] [] h n = refl
same_has [] (g ∷ new) h n = absurd (cc)
same_has (o ∷ old) [] h n = absurd (cc)
same_has (o ∷ old) (g ∷ new) h n =
    let own : o.number ≡ g.number = cc in
    let rest : has_host old n ≡ has_host new n = same_has old new (cc) n in
    λ i. nat_eq (own i) n || rest i

-- each of these hosts is in a list, by its number
abbrev AllThere : (hosts list : List Host) → Type 0
AllThere [] list = Unit {0}
AllThere (h ∷ hosts) list = (has_host list h.number ≡ true) × AllThere hosts list

there_more : (hosts list : List Host) (g : Host) → AllThere hosts list → AllThere hosts (g ∷ list)
there_more [] list g h = tt
there_more (x ∷ hosts) list g h = (or_there (nat_eq g.number x.number) (has_host list x.number) h.0, there_more hosts list g h.1)
  where
    or_there : (a b : Bool) → b ≡ true → (a || b) ≡ true
    or_there true b e = refl
    or_there false b e = e

all_there : (hosts : List Host) → AllThere hosts hosts
all_there [] = tt
all_there (h ∷ hosts) =
    let itself : nat_eq h.number h.number ≡ true = (Decides-eqb h.number h.number).1 refl in
    (rw itself refl, there_more hosts hosts h (all_there hosts))

there_as : (hosts list other : List Host) → ((n : ℕ) → has_host list n ≡ has_host other n) → AllThere hosts list → AllThere hosts other
there_as [] list other same h = tt
there_as (x ∷ hosts) list other same h = (sym (same x.number) ∙ h.0, there_as hosts list other same h.1)

none_gone : (old new hosts : List Host) → AllThere hosts new → filter (λ h. is_gone new h && not (goes_with_parent old new h)) hosts ≡ []
none_gone old new [] h = refl
none_gone old new (x ∷ hosts) h = rw h.0 (none_gone old new hosts h.1)

none_new : (old hosts : List Host) → AllThere hosts old → filter (λ h. not (has_host old h.number)) hosts ≡ []
none_new old [] h = refl
none_new old (x ∷ hosts) h = rw h.0 (none_new old hosts h.1)

none_placed : (hosts : List Host) → placements [] hosts ≡ []
none_placed [] = refl
none_placed (h ∷ hosts) = none_placed hosts

-- What is found by number

-- each of these hosts is the one that a list has of its number
abbrev AllFound : (hosts list : List Host) → Type 0
AllFound [] list = Unit {0}
AllFound (h ∷ hosts) list = (host_numbered list h.number ≡ Some h) × AllFound hosts list

either_false : (a b : Bool) → (a || b) ≡ false → (a ≡ false) × (b ≡ false)
either_false true b h = absurd (cc h)
either_false false b h = (refl, h)

flipped : (m n : ℕ) → nat_eq m n ≡ false → nat_eq n m ≡ false
flipped m n e = grind (arith, nat_tests)

found_more : (hosts list : List Host) (g : Host) → has_host hosts g.number ≡ false → AllFound hosts list → AllFound hosts (g ∷ list)
found_more [] list g d h = tt
found_more (x ∷ hosts) list g d h =
    let apart : (nat_eq x.number g.number ≡ false) × (has_host hosts g.number ≡ false) = either_false _ _ d in
    (rw (flipped x.number g.number apart.0) h.0, found_more hosts list g apart.1 h.1)

all_found : (hosts : List Host) → AreDistinct hosts → AllFound hosts hosts
all_found [] d = tt
all_found (h ∷ hosts) d =
    let itself : nat_eq h.number h.number ≡ true = (Decides-eqb h.number h.number).1 refl in
    (rw itself refl, found_more hosts hosts h d.0 (all_found hosts d.1))

contents_found : (whole old new : List Host) → numbers_in old ≡ numbers_in new → AllFound old whole
    → flat_map (λ h. content_ops h.number (option_map_or (λ g. g.content) (host_numbered whole h.number) (bare h.content)) h.content) new ≡ beside change_of old new
contents_found whole [] [] h f = refl
contents_found whole [] (n ∷ new) h f = absurd (cc)
contents_found whole (o ∷ old) [] h f = absurd (cc)
contents_found whole (o ∷ old) (n ∷ new) h f =
    let own : o.number ≡ n.number = cc in
    let found : host_numbered whole n.number ≡ Some o = ap (host_numbered whole) (sym own) ∙ f.0 in
    rw (found, contents_found whole old new (cc) f.1) refl

hidings_found : (whole old new : List Host) → numbers_in old ≡ numbers_in new → AllFound old whole
    → flat_map (λ h. hiding_ops h.number (option_map_or (λ g. g.hidden) (host_numbered whole h.number) false) h.hidden) new ≡ beside mark_of old new
hidings_found whole [] [] h f = refl
hidings_found whole [] (n ∷ new) h f = absurd (cc)
hidings_found whole (o ∷ old) [] h f = absurd (cc)
hidings_found whole (o ∷ old) (n ∷ new) h f =
    let own : o.number ≡ n.number = cc in
    let found : host_numbered whole n.number ≡ Some o = ap (host_numbered whole) (sym own) ∙ f.0 in
    rw (found, hidings_found whole old new (cc) f.1) refl

-- If hosts stand where they stood, the operations are the changes of each beside itself.
pub ops_in_place : (old new : List Host) → numbers_in old ≡ numbers_in new → AreDistinct old → beside change_of old new ++ beside mark_of old new ≡ ops_between old new []
ops_in_place old new same d =
    let has : (n : ℕ) → has_host old n ≡ has_host new n = same_has old new same in
    let gone = none_gone old new old (there_as old old new has (all_there old)) in
    let made = none_new old new (there_as new new old (λ n. sym (has n)) (all_there new)) in
    let found = all_found old d in
    rw (gone, made, none_placed new, contents_found old old new same found, hidings_found old old new same found) refl

-- One place more

pub beside-more : (f : Host → Host → List HostOp) (old new : List Host) (k : ℕ) (g h : Host) (before after : List HostOp) → k < length old → k < length new
    → g ≡ get_or old k g → h ≡ get_or new k h → after ≡ before ++ f g h
    → after ++ beside f (drop (k + 1) old) (drop (k + 1) new) ≡ before ++ beside f (drop k old) (drop k new)
beside-more f old new k g h before after l m a b e =
    ap (λ ops. ops ++ beside f (drop (k + 1) old) (drop (k + 1) new)) e
    ∙ append_assoc before (f g h) (beside f (drop (k + 1) old) (drop (k + 1) new))
    ∙ ap (λ ops. before ++ ops) (sym (λ i. beside f (front old k g l a i) (front new k h m b i)))

beside_nothing : (f : Host → Host → List HostOp) (old : List Host) → beside f old [] ≡ []
beside_nothing f [] = refl
beside_nothing f (g ∷ old) = refl

-- at the end nothing is left
pub beside-end : (f : Host → Host → List HostOp) (old new : List Host) (k : ℕ) (ops all : List HostOp) → length new ≤ k
    → ops ++ beside f (drop k old) (drop k new) ≡ all → ops ≡ all
beside-end f old new k ops all l e =
    sym (append-nil ops) ∙ ap (λ xs. ops ++ xs) (sym (beside_nothing f (drop k old))) ∙ ap (λ ns. ops ++ beside f (drop k old) ns) (sym (drop-end new k l)) ∙ e

-- as many hosts
pub as_many : (old new : List Host) → numbers_in old ≡ numbers_in new → length old ≡ length new
as_many [] [] h = refl
as_many [] (n ∷ new) h = absurd (cc)
as_many (o ∷ old) [] h = absurd (cc)
as_many (o ∷ old) (n ∷ new) h = let rest : length old ≡ length new = as_many old new (cc) in omega arith

longer : (hosts : List Host) (k : ℕ) (h : Host) → k < length hosts → h ≡ get_or hosts k h → numbers_in (take (k + 1) hosts) ≡ numbers_in (take k hosts) ++ h.number ∷ []
longer hosts k h l a =
    ap numbers_in (take_more hosts k h l ∙ ap (λ (x : Host). take k hosts ++ x ∷ []) (sym a))
    ∙ map-append (λ (x : Host). x.number) (take k hosts) (h ∷ [])

-- the numbers of one place more
pub numbers-more : (old new : List Host) (k : ℕ) (g h : Host) → k < length old → k < length new → g ≡ get_or old k g → h ≡ get_or new k h → g.number ≡ h.number
    → numbers_in (take k old) ≡ numbers_in (take k new) → numbers_in (take (k + 1) old) ≡ numbers_in (take (k + 1) new)
numbers-more old new k g h l m a b same before = longer old k g l a ∙ (λ i. before i ++ same i ∷ []) ∙ sym (longer new k h m b)
