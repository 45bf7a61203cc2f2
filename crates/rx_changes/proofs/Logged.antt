-- The lines of lists, part by part.
use Rattle.std.proofs.Common.{◌≡◌, ℕ, zero, suc, ◌<◌, Bool, List, [], ◌∷◌, ◌++◌, length, get_or, arith, Option, Some, None, refl, ap, sym, ◌∙◌, map, filter, flat_map}
use Rattle.std.proofs.lemmas.List.{map-append, append_assoc, append-nil}
use Rattle.std.proofs.lemmas.List.Elements.{filter-append, filter_map-append}
use Rattle.std.proofs.lemmas.Grind.{flat_map-append}
use Rattle.std.specs.List.{cons_option, filter_map, zip}
use Rattle.std.specs.Option.{option_map_or, option_and_then}
use Rattle.rx_elem.specs.Trees.{Node, Forest, forest, Mark, Instance, instance_in}
use Rattle.rx_elem.specs.Spots.{Around, spots, spots_in}
use Rattle.rx_elem.specs.Compare.{node_at}
use Rattle.rx_elem.specs.declared.effect.EffectRecord.{EffectRecord}
use Rattle.rx_effect.specs.EffectLog.{Phase, is_of, line_of, lines_at, differs, around_old, destroyed_at, destroyed_in}
use Rattle.rx_effect.specs.declared.log.LogLine.{LogLine}
use Rattle.rx_compare.specs.Matched.{gone_as}
use Rattle.rx_changes.specs.Phases.{old_or_new}

-- the number of an instance
abbrev number_in : Mark → Option ℕ
number_in m = option_and_then (λ (i : Instance). i.number) (instance_in m)

-- the lines of some effects of an instance, by its number
abbrev lines_by : Phase → Bool → Option ℕ → List EffectRecord → List LogLine
lines_by phase made number es = option_map_or (λ i. map (line_of phase made i) (filter (is_of phase) es)) number []

lines_by-append : (phase : Phase) (made : Bool) (number : Option ℕ) (es fs : List EffectRecord) → lines_by phase made number (es ++ fs) ≡ lines_by phase made number es ++ lines_by phase made number fs
lines_by-append phase made None es fs = refl
lines_by-append phase made (Some i) es fs =
    ap (map (line_of phase made i)) (filter-append (is_of phase) es fs) ∙ map-append (line_of phase made i) (filter (is_of phase) es) (filter (is_of phase) fs)

-- the lines of two lists of effects
pub lines_at-append : (phase : Phase) (made : Bool) (m : Mark) (es fs : List EffectRecord) → lines_at phase made m (es ++ fs) ≡ lines_at phase made m es ++ lines_at phase made m fs
lines_at-append phase made m es fs = lines_by-append phase made (number_in m) es fs

lines_by-nil : (phase : Phase) (made : Bool) (number : Option ℕ) → lines_by phase made number [] ≡ []
lines_by-nil phase made None = refl
lines_by-nil phase made (Some i) = refl

-- no effects have no lines
pub lines_at-nil : (phase : Phase) (made : Bool) (m : Mark) → lines_at phase made m [] ≡ []
lines_at-nil phase made m = lines_by-nil phase made (number_in m)

-- the lines of the effects that differ
abbrev pub changed_lines : Phase → Bool → Mark → List (EffectRecord × EffectRecord) → List LogLine
changed_lines phase made m xs = lines_at phase made m (map (old_or_new made) (filter differs xs))

-- those of two lists
pub changed_lines-append : (phase : Phase) (made : Bool) (m : Mark) (xs ys : List (EffectRecord × EffectRecord))
    → changed_lines phase made m (xs ++ ys) ≡ changed_lines phase made m xs ++ changed_lines phase made m ys
changed_lines-append phase made m xs ys =
    ap (λ es. lines_at phase made m (map (old_or_new made) es)) (filter-append differs xs ys)
    ∙ ap (lines_at phase made m) (map-append (old_or_new made) (filter differs xs) (filter differs ys))
    ∙ lines_at-append phase made m (map (old_or_new made) (filter differs xs)) (map (old_or_new made) (filter differs ys))

-- what the trees of a list destroy
abbrev pub old_lines : Phase → Around → List (Option Node) → List LogLine
old_lines phase a ns = flat_map (destroyed_at phase) (spots_in a (forest ns))

spots_in-append : (a : Around) (ns ms : List (Option Node)) → spots_in a (forest (ns ++ ms)) ≡ spots_in a (forest ns) ++ spots_in a (forest ms)
spots_in-append a [] ms = refl
spots_in-append a (None ∷ ns) ms = spots_in-append a ns ms
spots_in-append a (Some n ∷ ns) ms = ap (λ ss. spots a n ++ ss) (spots_in-append a ns ms) ∙ sym (append_assoc (spots a n) (spots_in a (forest ns)) (spots_in a (forest ms)))

-- those of two lists
pub old_lines-append : (phase : Phase) (a : Around) (ns ms : List (Option Node)) → old_lines phase a (ns ++ ms) ≡ old_lines phase a ns ++ old_lines phase a ms
old_lines-append phase a ns ms =
    ap (flat_map (destroyed_at phase)) (spots_in-append a ns ms) ∙ flat_map-append (destroyed_at phase) (spots_in a (forest ns)) (spots_in a (forest ms))

-- that of one tree
pub old_lines-one : (phase : Phase) (a : Around) (n : Node) → flat_map (destroyed_at phase) (spots a n) ≡ old_lines phase a (Some n ∷ [])
old_lines-one phase a n = ap (flat_map (destroyed_at phase)) (sym (append-nil (spots a n)))

-- what trees destroy that are gone, by their places
abbrev pub gone_lines : Phase → Bool → Forest → List ℕ → List LogLine
gone_lines phase visible old places = flat_map (destroyed_in phase) (map (gone_as visible) (filter_map (node_at old) places))

pub gone_lines-append : (phase : Phase) (visible : Bool) (old : Forest) (ps qs : List ℕ) → gone_lines phase visible old (ps ++ qs) ≡ gone_lines phase visible old ps ++ gone_lines phase visible old qs
gone_lines-append phase visible old ps qs =
    ap (λ ns. flat_map (destroyed_in phase) (map (gone_as visible) ns)) (filter_map-append (node_at old) ps qs)
    ∙ ap (flat_map (destroyed_in phase)) (map-append (gone_as visible) (filter_map (node_at old) ps) (filter_map (node_at old) qs))
    ∙ flat_map-append (destroyed_in phase) (map (gone_as visible) (filter_map (node_at old) ps)) (map (gone_as visible) (filter_map (node_at old) qs))

-- that of a place
pub gone_lines-some : (phase : Phase) (visible : Bool) (old : Forest) (p : ℕ) (n : Node) → Some n ≡ node_at old p
    → flat_map (destroyed_at phase) (spots (around_old visible) n) ≡ gone_lines phase visible old (p ∷ [])
gone_lines-some phase visible old p n e =
    sym (append-nil (destroyed_in phase (gone_as visible n)))
    ∙ ap (λ o. flat_map (destroyed_in phase) (map (gone_as visible) (cons_option o []))) e

pub gone_lines-none : (phase : Phase) (visible : Bool) (old : Forest) (p : ℕ) → None ≡ node_at old p → gone_lines phase visible old (p ∷ []) ≡ []
gone_lines-none phase visible old p e = ap (λ o. flat_map (destroyed_in phase) (map (gone_as visible) (cons_option o []))) (sym e)

-- a pair of two lists is that of both
pub zip-get : {A B : Type 0} (xs : List A) (ys : List B) (k : ℕ) (x : A) (y : B) → k < length xs → k < length ys → x ≡ get_or xs k x → y ≡ get_or ys k y
    → (x, y) ≡ get_or (zip xs ys) k (x, y)
zip-get [] ys k x y h g e f = absurd (omega arith)
zip-get (a ∷ xs) [] k x y h g e f = absurd (omega arith)
zip-get (a ∷ xs) (b ∷ ys) zero x y h g e f = λ i. (e i, f i)
zip-get (a ∷ xs) (b ∷ ys) (suc k) x y h g e f = zip-get xs ys k x y (omega arith) (omega arith) e f
