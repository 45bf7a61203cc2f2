-- Texts with something between them, written one after another.
use Rattle.std.proofs.Common.{◌≡◌, ℕ, ◌+◌, Bool, true, false, List, [], ◌∷◌, ◌++◌, refl, sym, ap, ◌∙◌, append_assoc, append-nil, ◌<◌, ◌≤◌, length, drop, get_or, subst}
use Rattle.std.proofs.lemmas.List.{drop_more, drop_all}
use Rattle.std.specs.Prelude.{if◌then◌else◌, ◌&&◌, nat_eq, map, filter, codes}
use Rattle.rx_lane.specs.declared.lane.Lane.{Lane}
use Rattle.rx_lane.specs.declared.lane.Lane.TheVariants.{Sync, Input, Default, T1, T2, T3, T4, T5, T6, T7, T8, T9, T10, T11, T12, T13, T14, T15, T16, Retry}
use Rattle.rx_lane.specs.Lanes.{Lanes, all_lanes, has, is_empty, lanes_where}
use Rattle.rx_lane.specs.SetLaws.{has-lanes_where}
use Rattle.rx_base.specs.Values.{Text, Name}
use Rattle.rx_lines.specs.Lines.{joined, lane_name, part_text, lanes_text, last_line, end_quiet, end_pending}

-- the texts that are left, if none or some came before them
abbrev pub left_of : Bool → Text → List Text → Text
left_of true between ts = joined between ts
left_of false between [] = []
left_of false between (t ∷ ts) = between ++ joined between (t ∷ ts)

pub joined-more : (between t : Text) (ts : List Text) → joined between (t ∷ ts) ≡ t ++ left_of false between ts
joined-more between t [] = sym (append-nil t)
joined-more between t (u ∷ us) = append_assoc t between (joined between (u ∷ us))

-- one more text is written, behind what stands between it and the one before
pub left-next : (first : Bool) (log between t : Text) (ts : List Text)
    → log ++ left_of first between (t ∷ ts) ≡ ((log ++ (if first then [] else between)) ++ t) ++ left_of false between ts
left-next true log between t ts = ap (λ (l : Text). log ++ l) (joined-more between t ts) ∙ simp (append_assoc, append-nil)
left-next false log between t ts = ap (λ (l : Text). log ++ (between ++ l)) (joined-more between t ts) ∙ simp append_assoc

-- what is written by now is these texts up to those that are left
pub record Joins (log old : Text) (first : Bool) (between : Text) (all left : List Text) : Type 0 where
  pub so_far : log ++ left_of first between left ≡ old ++ joined between all

pub joins-begin : (old between : Text) (all : List Text) → Joins old old true between all all
joins-begin old between all = record { so_far = refl }

pub joins-next : (log old new : Text) (first : Bool) (between t : Text) (all left : List Text) → Joins log old first between all (t ∷ left)
    → new ≡ (log ++ (if first then [] else between)) ++ t → Joins new old false between all left
joins-next log old new first between t all left before is =
    record { so_far = ap (λ (l : Text). l ++ left_of false between left) is ∙ sym (left-next first log between t left) ∙ before.so_far }

pub joins-end : (log old : Text) (first : Bool) (between : Text) (all : List Text) → Joins log old first between all [] → log ≡ old ++ joined between all
joins-end log old true between all before = sym (append-nil log) ∙ before.so_far
joins-end log old false between all before = sym (append-nil log) ∙ before.so_far

-- the names of the lanes that are left
abbrev pub names_left : Lanes → List Lane → List Text
names_left lanes left = map lane_name (filter (has lanes) left)

pub names-begin : (lanes : Lanes) → names_left lanes all_lanes ≡ map lane_name (lanes_where (has lanes))
unfolding lanes_where
names-begin lanes = refl

pub names-in : (lanes : Lanes) (l : Lane) (left : List Lane) → has lanes l ≡ true → names_left lanes (l ∷ left) ≡ lane_name l ∷ names_left lanes left
names-in lanes l left h = rw h refl

pub names-out : (lanes : Lanes) (l : Lane) (left : List Lane) → has lanes l ≡ false → names_left lanes (l ∷ left) ≡ names_left lanes left
names-out lanes l left h = rw h refl

-- the names of the lanes from the next one on, if it is in the set
pub names-next : (lanes : Lanes) (every : List Lane) (i : ℕ) (log old new : Text) (first : Bool) (between : Text) (all : List Text) → i < length every
    → Joins log old first between all (names_left lanes (drop i every)) → has lanes (get_or every i Sync) ≡ true
    → new ≡ (log ++ (if first then [] else between)) ++ lane_name (get_or every i Sync) → Joins new old false between all (names_left lanes (drop (i + 1) every))
names-next lanes every i log old new first between all in_list before h is =
    let here = get_or every i Sync in
    let rest : List Lane = drop (i + 1) every in
    let cons : names_left lanes (drop i every) ≡ lane_name here ∷ names_left lanes rest = ap (names_left lanes) (drop_more every i Sync in_list) ∙ names-in lanes here rest h in
    joins-next log old new first between (lane_name here) all (names_left lanes rest) (subst (Joins log old first between all) cons before) is

-- the same, if it isn't
pub names-skip : (lanes : Lanes) (every : List Lane) (i : ℕ) (log old : Text) (first : Bool) (between : Text) (all : List Text) → i < length every
    → Joins log old first between all (names_left lanes (drop i every)) → has lanes (get_or every i Sync) ≡ false
    → Joins log old first between all (names_left lanes (drop (i + 1) every))
names-skip lanes every i log old first between all in_list before h =
    let rest : List Lane = drop (i + 1) every in
    let cons : names_left lanes (drop i every) ≡ names_left lanes rest = ap (names_left lanes) (drop_more every i Sync in_list) ∙ names-out lanes (get_or every i Sync) rest h in
    subst (Joins log old first between all) cons before

-- no lane is left
pub names-end : (lanes : Lanes) (every : List Lane) (i : ℕ) (log old : Text) (first : Bool) (between : Text) (all : List Text) → length every ≤ i
    → Joins log old first between all (names_left lanes (drop i every)) → log ≡ old ++ joined between all
names-end lanes every i log old first between all past before =
    joins-end log old first between all (subst (Joins log old first between all) (ap (names_left lanes) (drop_all i every past)) before)

-- the parts of a path from the next one on
pub parts-next : (path : List (Name × ℕ)) (i : ℕ) (d : Name × ℕ) (log old new : Text) (first : Bool) (between : Text) (all : List Text) → i < length path
    → Joins log old first between all (map part_text (drop i path)) → new ≡ (log ++ (if first then [] else between)) ++ part_text (get_or path i d)
    → Joins new old false between all (map part_text (drop (i + 1) path))
parts-next path i d log old new first between all in_list before is =
    joins-next log old new first between (part_text (get_or path i d)) all (map part_text (drop (i + 1) path))
    (subst (Joins log old first between all) (ap (λ (ps : List (Name × ℕ)). map part_text ps) (drop_more path i d in_list)) before) is

-- no part is left
pub parts-end : (path : List (Name × ℕ)) (i : ℕ) (log old : Text) (first : Bool) (between : Text) (all : List Text) → length path ≤ i
    → Joins log old first between all (map part_text (drop i path)) → log ≡ old ++ joined between all
parts-end path i log old first between all past before =
    joins-end log old first between all (subst (Joins log old first between all) (ap (λ (ps : List (Name × ℕ)). map part_text ps) (drop_all i path past)) before)

-- a lane is in a set that begins with it
itself : (l : Lane) (ls : Lanes) → has (l ∷ ls) l ≡ true
itself Sync ls = refl
itself Input ls = refl
itself Default ls = refl
itself T1 ls = refl
itself T2 ls = refl
itself T3 ls = refl
itself T4 ls = refl
itself T5 ls = refl
itself T6 ls = refl
itself T7 ls = refl
itself T8 ls = refl
itself T9 ls = refl
itself T10 ls = refl
itself T11 ls = refl
itself T12 ls = refl
itself T13 ls = refl
itself T14 ls = refl
itself T15 ls = refl
itself T16 ls = refl
itself Retry ls = refl

-- the lanes of no set
listed-none : lanes_where (has []) ≡ []
unfolding lanes_where
listed-none = refl

-- a set with a lane has a lane when its lanes are listed
listed-some : (l : Lane) (ls all : Lanes) → lanes_where (has (l ∷ ls)) ≡ all → is_empty all ≡ false
listed-some l ls [] none = let here : has (lanes_where (has (l ∷ ls))) l ≡ true = has-lanes_where (has (l ∷ ls)) l ∙ itself l ls in
    let nowhere : has (lanes_where (has (l ∷ ls))) l ≡ false = ap (λ (lanes : Lanes). has lanes l) none in
    absurd (cc (here, nowhere))
listed-some l ls (m ∷ ms) some = refl

-- the listed lanes are none exactly if the set has none
pub listed-empty : (lanes : Lanes) → is_empty (lanes_where (has lanes)) ≡ is_empty lanes
listed-empty [] = ap is_empty listed-none
listed-empty (l ∷ ls) = listed-some l ls (lanes_where (has (l ∷ ls))) refl

-- the text of lanes if there are some
pub lanes-named : (lanes : Lanes) → is_empty lanes ≡ false → lanes_text lanes ≡ joined (codes "+") (map lane_name lanes)
lanes-named [] none = absurd (cc none)
lanes-named (l ∷ ls) some = refl

-- the text of no lane
pub lanes-none : (lanes : Lanes) → is_empty lanes ≡ true → lanes_text lanes ≡ codes "none"
lanes-none [] none = refl
lanes-none (l ∷ ls) some = absurd (cc some)

-- the last line if nothing is left to do
pub last-quiet : (lanes : Lanes) (n : ℕ) → (is_empty lanes && nat_eq n 0) ≡ true → last_line lanes n ≡ end_quiet
last-quiet lanes n quiet = rw quiet refl

-- the last line if something is
pub last-pending : (lanes : Lanes) (n : ℕ) → (is_empty lanes && nat_eq n 0) ≡ false → last_line lanes n ≡ end_pending lanes n
last-pending lanes n busy = rw busy refl

-- four texts behind a log
pub behind-four : (log a b c d : Text) → (((log ++ a) ++ b) ++ c) ++ d ≡ log ++ (((a ++ b) ++ c) ++ d)
behind-four log a b c d = simp append_assoc
