-- The parts of a path, one before the others.
use Rattle.std.proofs.Common.{◌≡◌, ◌≢◌, ℕ, zero, suc, Bool, true, false, cond, ◌&&◌, List, [], ◌∷◌, ◌++◌, Option, Some, None, refl, ap, option_map, append_assoc, append-nil, arith, subst, sym, ◌∙◌, ◌+◌, ◌<◌, length, take, drop, get_or}
use Rattle.std.specs.Char.{is_ascii_digit, is_ascii_uppercase}
use Rattle.std.specs.List.{join_with_byte, list_all, slice_split}
use Rattle.std.proofs.lemmas.List.Folds.{list_all-append}
use Rattle.std.proofs.lemmas.List.Splits.{join_with_byte-slice_split, length-slice_split}
use Rattle.rx_base.specs.Values.{Text, Name}
use Rattle.rx_step.specs.Steps.{Path}
use Rattle.rx_script.specs.Lines.{◌◂◌, part_of, parts_of, is_at_sign, is_slash}
use Rattle.rx_script.specs.Pieces.{IsFirst}
use Rattle.rx_script.specs.Readings.{held_part, held_path, numbered}
use Rattle.rx_script.specs.Words.{is_name, is_word_byte, natural_of, upper_of}
use Rattle.rx_script.proofs.Bounds.{both-true}
use Rattle.rx_script.proofs.Cuts.{pieces-at, pieces-whole}

-- these parts before the others, with their numbers held
abbrev pub in_front : Path → Option Path → Option Path
in_front parts rest = option_map (λ more. parts ++ held_path more) rest

next-by : (parts : Path) (part : Name × ℕ) (o : Option (Name × ℕ)) (rest : Option Path) → Some part ≡ option_map held_part o
    → in_front parts (Some (λ part path. part ∷ path) ◂ o ◂ rest) ≡ in_front (parts ++ part ∷ []) rest
next-by parts part None rest is = cc
next-by parts part (Some q) None is = refl
next-by parts part (Some q) (Some more) is =
    let same : part ≡ held_part q = cc in
    rw same (ap Some (sym (append_assoc parts (held_part q ∷ []) (held_path more))))

none-by : (parts : Path) (o : Option (Name × ℕ)) (rest : Option Path) → None ≡ option_map held_part o
    → in_front parts (Some (λ part path. part ∷ path) ◂ o ◂ rest) ≡ None
none-by parts None rest is = refl
none-by parts (Some q) rest is = cc

-- one more part
pub push-next : (parts : Path) (word piece after : Text) (part : Name × ℕ) → slice_split is_slash word ≡ piece ∷ slice_split is_slash after
    → Some part ≡ option_map held_part (part_of (slice_split is_at_sign piece))
    → in_front parts (parts_of (slice_split is_slash word)) ≡ in_front (parts ++ part ∷ []) (parts_of (slice_split is_slash after))
push-next parts word piece after part cut is =
    ap (λ ps. in_front parts (parts_of ps)) cut
    ∙ next-by parts part (part_of (slice_split is_at_sign piece)) (parts_of (slice_split is_slash after)) is

-- the last part
pub push-last : (parts : Path) (word piece : Text) (part : Name × ℕ) → slice_split is_slash word ≡ piece ∷ []
    → Some part ≡ option_map held_part (part_of (slice_split is_at_sign piece))
    → in_front parts (parts_of (slice_split is_slash word)) ≡ Some (parts ++ part ∷ [])
push-last parts word piece part last is =
    ap (λ ps. in_front parts (parts_of ps)) last
    ∙ next-by parts part (part_of (slice_split is_at_sign piece)) (parts_of []) is
    ∙ ap (λ (path : Path). Some path) (append-nil (parts ++ part ∷ []))

-- a piece that is no part
pub push-none : (parts : Path) (word piece : Text) (more : List Text) → slice_split is_slash word ≡ piece ∷ more
    → None ≡ option_map held_part (part_of (slice_split is_at_sign piece))
    → in_front parts (parts_of (slice_split is_slash word)) ≡ None
push-none parts word piece more cut is =
    ap (λ ps. in_front parts (parts_of ps)) cut ∙ none-by parts (part_of (slice_split is_at_sign piece)) (parts_of more) is

-- A part of a path, by its first at sign

no-at : (b : ℕ) → is_word_byte b ≡ true → b ≢ 64
no-at b is e = let no : is_word_byte 64 ≡ true = subst (λ x. is_word_byte x ≡ true) e is in cc

no-at-start : (b : ℕ) → is_ascii_uppercase b ≡ true → b ≢ 64
no-at-start b is e = let no : is_ascii_uppercase 64 ≡ true = subst (λ x. is_ascii_uppercase x ≡ true) e is in cc

bytes-free : (w : Text) → list_all is_word_byte w ≡ true → (k : ℕ) → k < length w → get_or w k 0 ≢ 64
bytes-free [] is k within = absurd (omega arith)
bytes-free (b ∷ w) is zero within = no-at b (both-true (is_word_byte b) (list_all is_word_byte w) is).0
bytes-free (b ∷ w) is (suc k) within = bytes-free w (both-true (is_word_byte b) (list_all is_word_byte w) is).1 k (omega arith)

name-free : (w : Text) → is_name is_ascii_uppercase w ≡ true → (k : ℕ) → k < length w → get_or w k 0 ≢ 64
name-free [] is k within = absurd (omega arith)
name-free (b ∷ w) is zero within = no-at-start b (both-true (is_ascii_uppercase b) (list_all is_word_byte w) is).0
name-free (b ∷ w) is (suc k) within = bytes-free w (both-true (is_ascii_uppercase b) (list_all is_word_byte w) is).1 k (omega arith)

-- a word that has an answer passed its test
passed : (t : Bool) (w n : Text) → Some n ≡ cond t (Some w) None → t ≡ true
passed true w n is = refl
passed false w n is = cc

-- a part that is a name
pub part-name : (w : Text) (name : Name) → Some name ≡ upper_of w → Some (name, 0) ≡ option_map held_part (part_of (slice_split is_at_sign w))
part-name w name is =
    let free = name-free w (passed (is_name is_ascii_uppercase w) w name is) in
    ap (λ (o : Option Name). option_map held_part (option_map (λ n. (n, 0)) o)) is
    ∙ sym (ap (λ ps. option_map held_part (part_of ps)) (pieces-whole 64 w free))

-- a word without an at sign that is no name
pub part-none : (w : Text) → upper_of w ≡ None → ((k : ℕ) → k < length w → get_or w k 0 ≢ 64) → None ≡ option_map held_part (part_of (slice_split is_at_sign w))
part-none w none free =
    sym (ap (λ ps. option_map held_part (part_of ps)) (pieces-whole 64 w free)
    ∙ ap (λ (o : Option Name). option_map held_part (option_map (λ n. (n, 0)) o)) none)

and_none : (a : Bool) → (a && false) ≡ false
and_none true = refl
and_none false = refl

-- what has an at sign is no number
not-natural : (x rest : Text) → natural_of (x ++ 64 ∷ rest) ≡ None
not-natural x rest =
    let no : list_all is_ascii_digit (x ++ 64 ∷ rest) ≡ false =
    list_all-append is_ascii_digit x (64 ∷ rest) ∙ and_none (list_all is_ascii_digit x) in rw no refl

nothing-behind : (f : Option (ℕ → Name × ℕ)) → (f ◂ None) ≡ None
nothing-behind None = refl
nothing-behind (Some f) = refl

numbered-by : (n k : Text) (ps : List Text) → 0 < length ps → join_with_byte 64 ps ≡ k → part_of (n ∷ ps) ≡ numbered n k
numbered-by n k [] some is = absurd (omega arith)
numbered-by n k (x ∷ []) some is = ap (λ y. numbered n y) is
numbered-by n k (x ∷ y ∷ more) some is =
    sym (ap (λ o. (Some (λ (name : Name) (number : ℕ). (name, number)) ◂ upper_of n) ◂ o)
    (ap natural_of (sym is) ∙ not-natural x (join_with_byte 64 (y ∷ more)))
    ∙ nothing-behind (Some (λ (name : Name) (number : ℕ). (name, number)) ◂ upper_of n))

-- a part with an at sign
pub part-numbered : (w : Text) (at : ℕ) → IsFirst 64 w at → part_of (slice_split is_at_sign w) ≡ numbered (take at w) (drop (at + 1) w)
part-numbered w at is =
    let k = drop (at + 1) w in
    ap part_of (pieces-at 64 w at is.within is.here is.first)
    ∙ numbered-by (take at w) k (slice_split is_at_sign k) (omega (arith, length-slice_split is_at_sign k)) (join_with_byte-slice_split 64 k)
