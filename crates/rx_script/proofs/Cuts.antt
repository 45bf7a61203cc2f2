-- Where the first line end of a text is, its first piece ends.
use Rattle.std.proofs.Common.{◌≡◌, ◌≢◌, ℕ, zero, suc, ◌+◌, ◌<◌, List, [], ◌∷◌, ◌++◌, length, take, drop, get_or, refl, ap, arith, false, true, add-one, sym, ◌∙◌, ◌-◌, append_assoc, append-nil, length-append}
use Rattle.std.specs.Bool.{◌==◌}
use Rattle.std.specs.List.{slice_split, onto_first, join_with_byte}
use Rattle.std.specs.Str.Lines.{strip_carriage_return}
use Rattle.std.proofs.lemmas.List.{take_at}
use Rattle.std.proofs.lemmas.List.Splits.{length-slice_split, join_with_byte-slice_split}
use Rattle.rx_base.specs.Values.{Text}
use Rattle.rx_script.specs.Input.{Input, is_line_end, is_mark, divided, input_of, with_line}
use Rattle.rx_script.specs.Pieces.{IsLineEnd, HasNoLineEnd, IsCut, IsLast}

pub is_not : (a b : ℕ) → (a ≢ b) → (a == b) ≡ false
is_not a b h = grind arith

is_same : (a b : ℕ) → a ≡ b → (a == b) ≡ true
is_same a b h = grind arith

-- what stands before the first of a byte is a piece
pub pieces-at : (c : ℕ) (text : List ℕ) (at : ℕ) → at < length text → get_or text at 0 ≡ c → ((k : ℕ) → k < at → get_or text k 0 ≢ c)
    → slice_split (λ b. b == c) text ≡ take at text ∷ slice_split (λ b. b == c) (drop (at + 1) text)
pieces-at c [] at in_text here first = absurd (omega arith)
pieces-at c (b ∷ text) zero in_text here first = rw (is_same b c here) refl
pieces-at c (b ∷ text) (suc at) in_text here first =
    let rest = rw add-one at (pieces-at c text at (omega arith) here (λ k h. first (suc k) (omega arith))) in
    rw (is_not b c (first 0 (omega arith)), add-one) (ap (onto_first b) rest)

whole-at : (text : List ℕ) (at : ℕ) → at < length text → get_or text at 0 ≡ 10 → text ≡ take at text ++ 10 ∷ drop (at + 1) text
whole-at [] at in_text here = absurd (omega arith)
whole-at (b ∷ text) zero in_text here = let e : b ≡ 10 = here in ap (λ x. x ∷ text) e
whole-at (b ∷ text) (suc at) in_text here =
    let rest = rw add-one at (whole-at text at (omega arith) here) in rw add-one (ap (λ l. b ∷ l) rest)

pub cut-at : (text : List ℕ) (at : ℕ) → IsLineEnd text at → IsCut text (take at text) (drop (at + 1) text)
cut-at text at e =
    record { whole = whole-at text at e.within e.here; pieces = pieces-at 10 text at e.within e.here e.first }

-- a text without a byte is one piece
pub pieces-whole : (c : ℕ) (text : List ℕ) → ((k : ℕ) → k < length text → get_or text k 0 ≢ c) → slice_split (λ b. b == c) text ≡ text ∷ []
pieces-whole c [] none = refl
pieces-whole c (b ∷ text) none =
    rw (is_not b c (none 0 (omega arith))) (ap (onto_first b) (pieces-whole c text (λ k h. none (suc k) (omega arith))))

pub last-whole : (text : List ℕ) → HasNoLineEnd text → IsLast text text
last-whole text none = record { whole = refl; pieces = pieces-whole 10 text none }

-- the parts of an input behind this much of the program
abbrev pub behind : List ℕ → Input → Input
behind front i = record { program = front ++ i.program; script = i.script }

divided-mark : (l : Text) (ps : List Text) → 0 < length ps → is_mark (strip_carriage_return l) ≡ true
    → divided (l ∷ ps) ≡ record { program = []; script = join_with_byte 10 ps }
divided-mark l [] some is = absurd (omega arith)
divided-mark l (m ∷ more) some is = rw is refl

divided-line : (l : Text) (ps : List Text) → 0 < length ps → is_mark (strip_carriage_return l) ≡ false → divided (l ∷ ps) ≡ with_line l (divided ps)
divided-line l [] some is = absurd (omega arith)
divided-line l (m ∷ more) some is = rw is refl

some_pieces : (text : List ℕ) → 0 < length (slice_split is_line_end text)
some_pieces text = omega (arith, length-slice_split is_line_end text)

-- the first line is the mark
pub input-mark : (text piece after : List ℕ) → IsCut text piece after → is_mark (strip_carriage_return piece) ≡ true
    → input_of text ≡ record { program = []; script = after }
unfolding input_of
input-mark text piece after cut is =
    ap divided cut.pieces ∙ divided-mark piece (slice_split is_line_end after) (some_pieces after) is
    ∙ ap (λ (s : List ℕ). record { program = []; script = s }) (join_with_byte-slice_split 10 after)

-- the first line is one of the program
pub input-line : (text piece after : List ℕ) → IsCut text piece after → is_mark (strip_carriage_return piece) ≡ false
    → input_of text ≡ with_line piece (input_of after)
unfolding input_of
input-line text piece after cut is =
    ap divided cut.pieces ∙ divided-line piece (slice_split is_line_end after) (some_pieces after) is

-- the last piece is the mark
pub input-last-mark : (text piece : List ℕ) → IsLast text piece → is_mark piece ≡ true → input_of text ≡ record { program = []; script = [] }
unfolding input_of
input-last-mark text piece last is = ap divided last.pieces ∙ rw is refl

-- the last piece is one of the program
pub input-last : (text piece : List ℕ) → IsLast text piece → is_mark piece ≡ false → input_of text ≡ record { program = text; script = [] }
unfolding input_of
input-last text piece last is = ap divided last.pieces ∙ rw is (ap (λ (l : List ℕ). record { program = l; script = [] }) last.whole)

-- the rest is what is left of the input behind some lines of its program
abbrev pub IsBehind : List ℕ → List ℕ → Type 0
IsBehind input rest = (front : List ℕ) × (input ≡ front ++ rest) × (input_of input ≡ behind front (input_of rest))

pub behind-all : (input : List ℕ) → IsBehind input input
behind-all input = ([], refl, refl)

front_of : (input front rest : List ℕ) → input ≡ front ++ rest → take (length input - length rest) input ≡ front
front_of input front rest whole =
    rw whole (take_at front rest (length (front ++ rest) - length rest) (omega (arith, length-append front rest)))

-- one more line of the program
pub behind-line : (input rest piece after : List ℕ) → IsBehind input rest → IsCut rest piece after → is_mark (strip_carriage_return piece) ≡ false
    → IsBehind input after
behind-line input rest piece after b cut is =
    let seam : (xs ys : List ℕ) → xs ++ (piece ++ 10 ∷ ys) ≡ (xs ++ (piece ++ 10 ∷ [])) ++ ys =
    λ xs ys. sym (append_assoc xs (piece ++ 10 ∷ []) ys ∙ ap (λ l. xs ++ l) (append_assoc piece (10 ∷ []) ys)) in (
      b.0 ++ (piece ++ 10 ∷ []),
      b.1 ∙ ap (λ l. b.0 ++ l) cut.whole ∙ seam b.0 after,
      b.2 ∙ ap (behind b.0) (input-line rest piece after cut is)
          ∙ ap (λ (l : List ℕ). record { program = l; script = (input_of after).script }) (seam b.0 (input_of after).program),
    )

pub mark-program : (input rest piece after : List ℕ) → IsBehind input rest → IsCut rest piece after → is_mark (strip_carriage_return piece) ≡ true
    → take (length input - length rest) input ≡ (input_of input).program
mark-program input rest piece after b cut is =
    front_of input b.0 rest b.1 ∙ sym (ap (λ i. i.program) (b.2 ∙ ap (behind b.0) (input-mark rest piece after cut is)) ∙ append-nil b.0)

pub mark-script : (input rest piece after : List ℕ) → IsBehind input rest → IsCut rest piece after → is_mark (strip_carriage_return piece) ≡ true
    → after ≡ (input_of input).script
mark-script input rest piece after b cut is = sym (ap (λ i. i.script) (b.2 ∙ ap (behind b.0) (input-mark rest piece after cut is)))

pub last_mark-program : (input rest piece : List ℕ) → IsBehind input rest → IsLast rest piece → is_mark piece ≡ true
    → take (length input - length rest) input ≡ (input_of input).program
last_mark-program input rest piece b last is =
    front_of input b.0 rest b.1 ∙ sym (ap (λ i. i.program) (b.2 ∙ ap (behind b.0) (input-last-mark rest piece last is)) ∙ append-nil b.0)

pub last_mark-script : (input rest piece : List ℕ) → IsBehind input rest → IsLast rest piece → is_mark piece ≡ true
    → ◌≡◌ {A = List ℕ} [] (input_of input).script
last_mark-script input rest piece b last is = sym (ap (λ i. i.script) (b.2 ∙ ap (behind b.0) (input-last-mark rest piece last is)))

pub last-program : (input rest piece : List ℕ) → IsBehind input rest → IsLast rest piece → is_mark piece ≡ false → input ≡ (input_of input).program
last-program input rest piece b last is = b.1 ∙ sym (ap (λ i. i.program) (b.2 ∙ ap (behind b.0) (input-last rest piece last is)))

pub last-script : (input rest piece : List ℕ) → IsBehind input rest → IsLast rest piece → is_mark piece ≡ false
    → ◌≡◌ {A = List ℕ} [] (input_of input).script
last-script input rest piece b last is = sym (ap (λ i. i.script) (b.2 ∙ ap (behind b.0) (input-last rest piece last is)))
