-- What the text of a finish tells.
use Rattle.std.proofs.Common.{◌≡◌, ◌⊎◌, inl, inr, ℤ, ℕ, zero, suc, ◌<◌, ◌≤◌, ◌/◌, ◌%◌, Bool, true, false, cond, List, [], ◌∷◌, ◌++◌, Option, Some, append-nil, append_assoc, map, refl, sym, ap, subst, ◌∙◌, arith}
use Rattle.std.specs.Prelude.{◌==◌, ◌&&◌, bytes_eq, codes, decimal, find, nat_lt}
use Rattle.std.specs.Fmt.{digits, digits_onto, digit_glyph}
use Rattle.std.specs.List.{AllByRecursion, list_all}
use Rattle.std.proofs.lemmas.Bool.Decides.{nat_tests}
use Rattle.std.proofs.lemmas.Fmt.{decimal_injective}
use Rattle.std.proofs.lemmas.List.{append_cancel_left}
use Rattle.rx_lane.specs.declared.lane.Lane.{Lane}
use Rattle.rx_lane.specs.declared.lane.Lane.TheVariants.{Sync, Input, Default, T1, T2, T3, T4, T5, T6, T7, T8, T9, T10, T11, T12, T13, T14, T15, T16, Retry}
use Rattle.rx_lane.specs.Lanes.{Lanes, all_lanes}
use Rattle.rx_elem.specs.Trees.{Node}
use Rattle.rx_effect.specs.declared.log.LogLine.{LogLine}
use Rattle.rx_lines.specs.Lines.{counts_text, Counts, Line, already, end_pending, end_quiet, logged, no_instance, state_head, tree_head, committed, deferred, joined, lane_name, lanes_text, line_bytes}
use Rattle.choice_laws.specs.Telling.{CountsComeLast, FinishesTell, IsFinishOf, commits, counted, defers}

-- Bytes

-- each of some bytes is above this one
abbrev AllAbove : ℕ → List ℕ → Type 0
AllAbove b bytes = AllByRecursion (λ c. b < c) bytes

above_append : (b : ℕ) (xs ys : List ℕ) → AllAbove b xs → AllAbove b ys → AllAbove b (xs ++ ys)
above_append b [] ys h k = k
above_append b (x ∷ xs) ys h k = (h.0, above_append b xs ys h.1 k)

above_less : (a b : ℕ) (xs : List ℕ) → a ≤ b → AllAbove b xs → AllAbove a xs
above_less a b [] le h = tt
above_less a b (x ∷ xs) le h = (omega (arith, h.0), above_less a b xs le h.1)

-- bytes above this one, by a test
above_by_test : (b : ℕ) (xs : List ℕ) → list_all (nat_lt b) xs ≡ true → AllAbove b xs
above_by_test b [] e = tt
above_by_test b (x ∷ xs) e = go (nat_lt b x) refl (λ k. above_by_test b xs k) e
  where
    go : (t : Bool) → nat_lt b x ≡ t → (list_all (nat_lt b) xs ≡ true → AllAbove b xs) → (t && list_all (nat_lt b) xs) ≡ true → (b < x) × AllAbove b xs
    go true f next rest = (grind (arith, nat_tests), next rest)
    go false f next rest = absurd (cc rest)

-- a text is divided in one way by the first byte that isn't above this one
divided : (b : ℕ) (xs ys more others : List ℕ) → AllAbove b xs → AllAbove b ys → xs ++ b ∷ more ≡ ys ++ b ∷ others → (xs ≡ ys) × (more ≡ others)
divided b [] [] more others k h e = (refl, cc)
divided b [] (y ∷ ys) more others k h e = let same : b ≡ y = cc in absurd (omega (arith, same, h.0))
divided b (x ∷ xs) [] more others k h e = let same : x ≡ b = cc in absurd (omega (arith, same, k.0))
divided b (x ∷ xs) (y ∷ ys) more others k h e =
    let first : x ≡ y = cc in
    let rest : xs ++ b ∷ more ≡ ys ++ b ∷ others = cc in
    let r = divided b xs ys more others k.1 h.1 rest in
    ((λ i. first i ∷ r.0 i), r.1)

-- bytes above this one don't have it
without : (b : ℕ) (xs ys more : List ℕ) → AllAbove b xs → xs ≡ ys ++ b ∷ more → ⊥
without b [] [] more h e = cc
without b [] (y ∷ ys) more h e = cc
without b (x ∷ xs) [] more h e = let same : x ≡ b = cc in omega (arith, same, h.0)
without b (x ∷ xs) (y ∷ ys) more h e = without b xs ys more h.1 cc

-- Numbers

glyph_above : (n : ℕ) → 47 < digit_glyph false (n % 10)
glyph_above n = grind (arith, nat_tests)

digits_above : (k n : ℕ) (acc : List ℕ) → AllAbove 47 acc → AllAbove 47 (digits_onto k 10 false n acc)
digits_above zero n acc h = h
digits_above (suc k) n acc h = go (n / 10 == 0) (digits_above k (n / 10) (digit_glyph false (n % 10) ∷ acc) (glyph_above n, h))
  where
    go : (b : Bool) → AllAbove 47 (digits_onto k 10 false (n / 10) (digit_glyph false (n % 10) ∷ acc))
        → AllAbove 47 (cond b (digit_glyph false (n % 10) ∷ acc) (digits_onto k 10 false (n / 10) (digit_glyph false (n % 10) ∷ acc)))
    go true rest = (glyph_above n, h)
    go false rest = rest

-- the digits of every number are above a space
decimal_above : (n : ℕ) → AllAbove 47 (decimal n)
unfolding digits
decimal_above n = digits_above 64 n [] tt

-- Lanes

name_above : (l : Lane) → AllAbove 47 (lane_name l)
name_above l = above_by_test 47 (lane_name l) (go l)
  where
    go : (l : Lane) → list_all (nat_lt 47) (lane_name l) ≡ true
    go Sync = refl
    go Input = refl
    go Default = refl
    go T1 = refl
    go T2 = refl
    go T3 = refl
    go T4 = refl
    go T5 = refl
    go T6 = refl
    go T7 = refl
    go T8 = refl
    go T9 = refl
    go T10 = refl
    go T11 = refl
    go T12 = refl
    go T13 = refl
    go T14 = refl
    go T15 = refl
    go T16 = refl
    go Retry = refl

-- the lane with this name
abbrev lane_named : List ℕ → Option Lane
lane_named t = find (λ l. bytes_eq t (lane_name l)) all_lanes

named : (l : Lane) → lane_named (lane_name l) ≡ Some l
named Sync = refl
named Input = refl
named Default = refl
named T1 = refl
named T2 = refl
named T3 = refl
named T4 = refl
named T5 = refl
named T6 = refl
named T7 = refl
named T8 = refl
named T9 = refl
named T10 = refl
named T11 = refl
named T12 = refl
named T13 = refl
named T14 = refl
named T15 = refl
named T16 = refl
named Retry = refl

-- a name is that of one lane
name_tells : (l m : Lane) → lane_name l ≡ lane_name m → l ≡ m
name_tells l m e = let both : Some l ≡ Some m = sym (named l) ∙ ap lane_named e ∙ named m in cc

-- it begins with a capital
abbrev first_byte : List ℕ → ℕ
first_byte [] = 0
first_byte (b ∷ bs) = b

abbrev names_text : Lanes → List ℕ
names_text ls = joined (codes "+") (map lane_name ls)

names_more : (l k : Lane) (ls : Lanes) → names_text (l ∷ k ∷ ls) ≡ lane_name l ++ 43 ∷ names_text (k ∷ ls)
names_more l k ls = append_assoc (lane_name l) (codes "+") (names_text (k ∷ ls))

begins_high : (l : Lane) (ls : Lanes) → first_byte (names_text (l ∷ ls)) < 97
begins_high l ls = go l ls
  where
    one : (m : Lane) (rest : List ℕ) → first_byte (lane_name m ++ rest) < 97
    one Sync rest = omega arith
    one Input rest = omega arith
    one Default rest = omega arith
    one T1 rest = omega arith
    one T2 rest = omega arith
    one T3 rest = omega arith
    one T4 rest = omega arith
    one T5 rest = omega arith
    one T6 rest = omega arith
    one T7 rest = omega arith
    one T8 rest = omega arith
    one T9 rest = omega arith
    one T10 rest = omega arith
    one T11 rest = omega arith
    one T12 rest = omega arith
    one T13 rest = omega arith
    one T14 rest = omega arith
    one T15 rest = omega arith
    one T16 rest = omega arith
    one Retry rest = omega arith

    alone : (m : Lane) → first_byte (lane_name m) < 97
    alone m = subst (λ (t : List ℕ). first_byte t < 97) (append-nil (lane_name m)) (one m [])

    go : (m : Lane) (ms : Lanes) → first_byte (names_text (m ∷ ms)) < 97
    go m [] = alone m
    go m (n ∷ ms) = subst (λ (t : List ℕ). first_byte t < 97) (sym (names_more m n ms)) (one m (43 ∷ names_text (n ∷ ms)))

names_tell : (l : Lane) (ls : Lanes) (m : Lane) (ms : Lanes) → names_text (l ∷ ls) ≡ names_text (m ∷ ms) → l ∷ ls ≡ m ∷ ms
names_tell l [] m [] e = ap (λ (x : Lane). x ∷ []) (name_tells l m e)
names_tell l [] m (n ∷ ms) e = absurd (without 43 (lane_name l) (lane_name m) (names_text (n ∷ ms)) (above_less 43 47 (lane_name l) (omega arith) (name_above l)) (e ∙ names_more m n ms))
names_tell l (k ∷ ls) m [] e = absurd (without 43 (lane_name m) (lane_name l) (names_text (k ∷ ls)) (above_less 43 47 (lane_name m) (omega arith) (name_above m)) (sym e ∙ names_more l k ls))
names_tell l (k ∷ ls) m (n ∷ ms) e =
    let r = divided 43 (lane_name l) (lane_name m) (names_text (k ∷ ls)) (names_text (n ∷ ms)) (above_less 43 47 (lane_name l) (omega arith) (name_above l)) (above_less 43 47 (lane_name m) (omega arith) (name_above m)) (sym (names_more l k ls) ∙ e ∙ names_more m n ms) in
    let first : l ≡ m = name_tells l m r.0 in
    let rest : k ∷ ls ≡ n ∷ ms = names_tell k ls n ms r.1 in
    (λ i. first i ∷ rest i)

-- the text of lanes is that of one set
pub lanes_tell : (lanes others : Lanes) → lanes_text lanes ≡ lanes_text others → lanes ≡ others
lanes_tell [] [] e = refl
lanes_tell [] (m ∷ ms) e = let same : 110 ≡ first_byte (names_text (m ∷ ms)) = ap first_byte e in absurd (omega (arith, same, begins_high m ms))
lanes_tell (l ∷ ls) [] e = let same : first_byte (names_text (l ∷ ls)) ≡ 110 = ap first_byte e in absurd (omega (arith, same, begins_high l ls))
lanes_tell (l ∷ ls) (m ∷ ms) e = names_tell l ls m ms e

names_above : (l : Lane) (ls : Lanes) → AllAbove 42 (names_text (l ∷ ls))
names_above l [] = above_less 42 47 (lane_name l) (omega arith) (name_above l)
names_above l (k ∷ ls) =
    subst (AllAbove 42) (sym (names_more l k ls))
    (above_append 42 (lane_name l) (43 ∷ names_text (k ∷ ls)) (above_less 42 47 (lane_name l) (omega arith) (name_above l)) (omega arith, names_above k ls))

lanes_above : (lanes : Lanes) → AllAbove 42 (lanes_text lanes)
lanes_above [] = above_by_test 42 (codes "none") refl
lanes_above (l ∷ ls) = names_above l ls

-- Lines

-- what follows the lanes in a finish
abbrev after_lanes : Counts → List ℕ → List ℕ
after_lanes c more = codes "units " ++ (decimal c.units ++ 32 ∷ (codes "bodies " ++ (decimal c.bodies ++ 10 ∷ more)))

regrouped : (l u n b m e more : List ℕ) → ((l ++ (u ++ n ++ b ++ m)) ++ e) ++ more ≡ l ++ (u ++ (n ++ (b ++ (m ++ (e ++ more)))))
regrouped l u n b m e more = simp append_assoc refl

commit_bytes : (k : ℕ) (lanes : Lanes) (c : Counts) (tree : Node) (more : List ℕ)
    → line_bytes counted (committed k lanes c tree) ++ more ≡ codes "commit " ++ (decimal k ++ 32 ∷ (lanes_text lanes ++ 32 ∷ after_lanes c more))
commit_bytes k lanes c tree more =
    regrouped (codes "commit " ++ decimal k ++ codes " " ++ lanes_text lanes) (codes " units ") (decimal c.units) (codes " bodies ") (decimal c.bodies) (10 ∷ []) more
    ∙ front (codes "commit ") (decimal k) (codes " ") (lanes_text lanes) (32 ∷ after_lanes c more)
  where
    front : (a b c d rest : List ℕ) → (a ++ b ++ c ++ d) ++ rest ≡ a ++ (b ++ (c ++ (d ++ rest)))
    front a b c d rest = simp append_assoc refl

defer_bytes : (lanes : Lanes) (c : Counts) (more : List ℕ) → line_bytes counted (deferred lanes c) ++ more ≡ codes "defer " ++ (lanes_text lanes ++ 32 ∷ after_lanes c more)
defer_bytes lanes c more =
    regrouped (codes "defer " ++ lanes_text lanes) (codes " units ") (decimal c.units) (codes " bodies ") (decimal c.bodies) (10 ∷ []) more
    ∙ append_assoc (codes "defer ") (lanes_text lanes) (32 ∷ after_lanes c more)

-- two finishes tell the same lanes, and the same digits of their counts
pub record SameTold (lanes others : Lanes) (counts more : Counts) : Type 0 where
  pub lanes_same : lanes ≡ others
  pub units_same : decimal counts.units ≡ decimal more.units
  pub bodies_same : decimal counts.bodies ≡ decimal more.bodies

spaced : (n : ℕ) → AllAbove 32 (decimal n)
spaced n = above_less 32 47 (decimal n) (omega arith) (decimal_above n)

ended_by_line : (n : ℕ) → AllAbove 10 (decimal n)
ended_by_line n = above_less 10 47 (decimal n) (omega arith) (decimal_above n)

-- a text behind a front that is the same is told by the whole
counts_told : (c d : Counts) (x y : List ℕ) → after_lanes c x ≡ after_lanes d y → (decimal c.units ≡ decimal d.units) × (decimal c.bodies ≡ decimal d.bodies)
counts_told c d x y e =
    let units = divided 32 (decimal c.units) (decimal d.units) (codes "bodies " ++ (decimal c.bodies ++ 10 ∷ x)) (codes "bodies " ++ (decimal d.bodies ++ 10 ∷ y))
    (spaced c.units) (spaced d.units) (append_cancel_left (codes "units ") _ _ e) in
    (units.0, (divided 10 (decimal c.bodies) (decimal d.bodies) x y (ended_by_line c.bodies) (ended_by_line d.bodies) (append_cancel_left (codes "bodies ") _ _ units.1)).0)

lanes_told : (lanes others : Lanes) (c d : Counts) (x y : List ℕ) → lanes_text lanes ++ 32 ∷ after_lanes c x ≡ lanes_text others ++ 32 ∷ after_lanes d y → SameTold lanes others c d
lanes_told lanes others c d x y e =
    let front = divided 32 (lanes_text lanes) (lanes_text others) (after_lanes c x) (after_lanes d y)
    (above_less 32 42 (lanes_text lanes) (omega arith) (lanes_above lanes)) (above_less 32 42 (lanes_text others) (omega arith) (lanes_above others)) e in
    let counts = counts_told c d x y front.1 in
    record { lanes_same = lanes_tell lanes others front.0; units_same = counts.0; bodies_same = counts.1 }

-- a commit is no deferral
other_first : (a b : ℕ) (x y : List ℕ) → (a ≡ b → ⊥) → a ∷ x ≡ b ∷ y → ⊥
other_first a b x y n e = n (ap first_byte e)

-- what two finishes tell, if some bytes begin with both
pub told : (lanes others : Lanes) (counts more : Counts) (f h : Line) → IsFinishOf lanes counts f → IsFinishOf others more h
    → (x y : List ℕ) → line_bytes counted f ++ x ≡ line_bytes counted h ++ y → SameTold lanes others counts more
told lanes others counts more _ _ (commits k tree) (commits n other) x y e =
    let numbers = divided 32 (decimal k) (decimal n) (lanes_text lanes ++ 32 ∷ after_lanes counts x) (lanes_text others ++ 32 ∷ after_lanes more y) (spaced k) (spaced n)
    (append_cancel_left (codes "commit ") _ _ (sym (commit_bytes k lanes counts tree x) ∙ e ∙ commit_bytes n others more other y)) in
    lanes_told lanes others counts more x y numbers.1
told lanes others counts more _ _ (commits k tree) defers x y e =
    absurd (other_first 99 100 _ _ (λ h. omega (arith, h)) (sym (commit_bytes k lanes counts tree x) ∙ e ∙ defer_bytes others more y))
told lanes others counts more _ _ defers (commits n other) x y e =
    absurd (other_first 100 99 _ _ (λ h. omega (arith, h)) (sym (defer_bytes lanes counts x) ∙ e ∙ commit_bytes n others more other y))
told lanes others counts more _ _ defers defers x y e =
    lanes_told lanes others counts more x y (append_cancel_left (codes "defer ") _ _ (sym (defer_bytes lanes counts x) ∙ e ∙ defer_bytes others more y))

-- the counts that they tell are the same, if a report can show them
pub finishes_tell : FinishesTell
finishes_tell lanes others counts more f h a b s t bytes m n =
    let same = told lanes others counts more f h a b m.0 n.0 (sym m.1 ∙ n.1) in
    let units : counts.units ≡ more.units = decimal_injective counts.units more.units s.units t.units same.units_same in
    let bodies : counts.bodies ≡ more.bodies = decimal_injective counts.bodies more.bodies s.bodies t.bodies same.bodies_same in
    (same.lanes_same, λ i. record { units = units i; bodies = bodies i })

-- Lines of other kinds

-- no bytes begin with both texts
abbrev pub Apart : List ℕ → List ℕ → Type 0
Apart a b = (x y : List ℕ) → a ++ x ≡ b ++ y → ⊥

-- a byte begins no finish
abbrev IsOther : ℕ → Type 0
IsOther b = (b ≡ 99 → ⊥) × (b ≡ 100 → ⊥)

-- a line begins with such a byte
abbrev BeginsOther : Line → Type 0
BeginsOther l = (x : List ℕ) → IsOther (first_byte (line_bytes counted l ++ x))

finish_byte : (lanes : Lanes) (counts : Counts) (f : Line) → IsFinishOf lanes counts f → (y : List ℕ) → (first_byte (line_bytes counted f ++ y) ≡ 99) ⊎ (first_byte (line_bytes counted f ++ y) ≡ 100)
finish_byte lanes counts _ (commits k tree) y = inl refl
finish_byte lanes counts _ defers y = inr refl

apart_other : (lanes : Lanes) (counts : Counts) (f l : Line) → IsFinishOf lanes counts f → BeginsOther l → Apart (line_bytes counted l) (line_bytes counted f)
apart_other lanes counts f l is other x y e = go (finish_byte lanes counts f is y)
  where
    go : (first_byte (line_bytes counted f ++ y) ≡ 99) ⊎ (first_byte (line_bytes counted f ++ y) ≡ 100) → ⊥
    go (inl h) = (other x).0 (ap first_byte e ∙ h)
    go (inr h) = (other x).1 (ap first_byte e ∙ h)

-- the lines that a step may write first, beside finishes
pub data IsFirst : Line → Type 0 where
  an_effect : (l : LogLine) → IsFirst (logged l)
  no_path : (path : List (List ℕ × ℕ)) → IsFirst (no_instance path)
  a_value : (name : List ℕ) (x : ℤ) → IsFirst (already name x)
  states : IsFirst state_head
  a_tree : IsFirst tree_head
  quiet : IsFirst end_quiet
  waiting : (lanes : Lanes) (n : ℕ) → IsFirst (end_pending lanes n)

effect_begins : (l : LogLine) → BeginsOther (logged l)
effect_begins l = go l.passive l.created l.instance l.label l.values
  where
    go : (passive created : Bool) (instance : ℕ) (label : List ℕ) (values : List ℤ)
        → BeginsOther (logged (record { passive = passive; created = created; instance = instance; label = label; values = values }))
    go true created instance label values x = ((λ h. omega (arith, h)), (λ h. omega (arith, h)))
    go false created instance label values x = ((λ h. omega (arith, h)), (λ h. omega (arith, h)))

first_begins : (l : Line) → IsFirst l → BeginsOther l
first_begins _ (an_effect l) x = effect_begins l x
first_begins _ (no_path path) x = ((λ h. omega (arith, h)), (λ h. omega (arith, h)))
first_begins _ (a_value name v) x = ((λ h. omega (arith, h)), (λ h. omega (arith, h)))
first_begins _ states x = ((λ h. omega (arith, h)), (λ h. omega (arith, h)))
first_begins _ a_tree x = ((λ h. omega (arith, h)), (λ h. omega (arith, h)))
first_begins _ quiet x = ((λ h. omega (arith, h)), (λ h. omega (arith, h)))
first_begins _ (waiting lanes n) x = ((λ h. omega (arith, h)), (λ h. omega (arith, h)))

-- they tell no finish
pub others_apart : (lanes : Lanes) (counts : Counts) (f l : Line) → IsFinishOf lanes counts f → IsFirst l → Apart (line_bytes counted l) (line_bytes counted f)
others_apart lanes counts f l is first = apart_other lanes counts f l is (first_begins l first)

-- its counts come last
pub counts_come_last : CountsComeLast
counts_come_last lanes counts _ (commits k tree) =
    ap (λ (t : List ℕ). t ++ counts_text true counts ++ 10 ∷ []) (sym (append-nil (codes "commit " ++ decimal k ++ codes " " ++ lanes_text lanes)))
counts_come_last lanes counts _ defers = ap (λ (t : List ℕ). t ++ counts_text true counts ++ 10 ∷ []) (sym (append-nil (codes "defer " ++ lanes_text lanes)))
