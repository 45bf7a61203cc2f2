-- Pieces that cover a text, one after another.
use Rattle.std.proofs.Common.{◌≡◌, ◌≢◌, ℕ, ◌+◌, ◌-◌, ◌<◌, ◌≤◌, ◌^◌, Option, List, [], ◌∷◌, ◌++◌, length, drop, refl, sym, ap, ◌∙◌, subst, arith, length-append, append_assoc, append-nil}
use Rattle.std.specs.List.{All}
use Rattle.std.proofs.Math.Seq.{drop-append-add}
use Rattle.std.proofs.lemmas.List.Elements.{All-nil, All-cons}
use Rattle.rx_lex.specs.declared.token.Kind.{Kind}
use Rattle.rx_lex.specs.declared.token.Kind.TheVariants.{Upper, Lower, Number, Text, Word, Mark, End}
use Rattle.rx_lex.specs.declared.token.Token.{Token}
use Rattle.rx_lex.specs.Tokens.{Blank, LineComment, BlockComment, Piece, Between, Meant, piece_text, IsPiece, StandsFirst, CoversTo, tokens_from, kind_of, token_at, AreTokensBelow, EndsUncovered, IsUncovered, IsToken, kinds}
use Rattle.rx_lex.proofs.Fronts.{word_run, sign_nonempty}

-- each piece has a byte
pub piece_nonempty : {greatest : ℕ} → greatest < 2 ^ 64 → (p : Piece) (rest : List ℕ) → IsPiece greatest p rest → 0 < length (piece_text p)
piece_nonempty small (Between (Blank b)) rest h = omega arith
piece_nonempty small (Between (LineComment body)) rest h = omega arith
piece_nonempty small (Between (BlockComment body)) rest h = omega arith
piece_nonempty small (Meant (Text s)) rest h = omega arith
piece_nonempty small (Meant (Mark s)) rest h = sign_nonempty s
piece_nonempty small (Meant End) rest h = absurd h.0
piece_nonempty small (Meant (Upper n)) rest h = (word_run small (Upper n) h.0).1
piece_nonempty small (Meant (Lower n)) rest h = (word_run small (Lower n) h.0).1
piece_nonempty small (Meant (Number n)) rest h = (word_run small (Number n) h.0).1
piece_nonempty small (Meant (Word k)) rest h = (word_run small (Word k) h.0).1

covers_more : (greatest : ℕ) (ps : List Piece) (text : List ℕ) (rest : List ℕ) (p : Piece) (after : List ℕ) → CoversTo greatest ps text rest → StandsFirst greatest p rest after → CoversTo greatest (ps ++ p ∷ []) text after
covers_more greatest [] text rest p after h stands = (after, subst (λ l. StandsFirst greatest p l after) (sym h) stands, refl)
covers_more greatest (q ∷ ps) text rest p after h stands = (h.0, h.1, covers_more greatest ps h.0 rest p after h.2 stands)

abbrev pieces_len : List Piece → ℕ
pieces_len [] = 0
pieces_len (p ∷ ps) = length (piece_text p) + pieces_len ps

covers_len : (greatest : ℕ) (ps : List Piece) (text rest : List ℕ) → CoversTo greatest ps text rest → pieces_len ps + length rest ≡ length text
covers_len greatest [] text rest h = omega (arith, ap length h)
covers_len greatest (p ∷ ps) text rest h = omega (arith, ap length h.1.written, length-append (piece_text p) h.0, covers_len greatest ps h.0 rest h.2)

-- behind the pieces comes the rest
covers_drop : (greatest : ℕ) (ps : List Piece) (text rest : List ℕ) → CoversTo greatest ps text rest → drop (pieces_len ps) text ≡ rest
covers_drop greatest [] text rest h = h
covers_drop greatest (p ∷ ps) text rest h =
    let w = piece_text p in
    ap (drop (length w + pieces_len ps)) h.1.written ∙ drop-append-add w h.0 (pieces_len ps) ∙ covers_drop greatest ps h.0 rest h.2

-- the tokens with one more piece, behind the text so far
tokens_more : (ps : List Piece) (at : ℕ) (p : Piece) → tokens_from at (ps ++ p ∷ []) ≡ tokens_from at ps ++ token_at (at + pieces_len ps) (kind_of p)
tokens_more [] at p = append-nil (token_at at (kind_of p)) ∙ ap (λ n. token_at n (kind_of p)) (omega arith)
tokens_more (q ∷ ps) at p =
    let first = token_at at (kind_of q) in
    let next = at + length (piece_text q) in
    ap (λ l. first ++ l) (tokens_more ps next p ∙ ap (λ n. tokens_from next ps ++ token_at n (kind_of p)) (omega arith))
    ∙ sym (append_assoc first (tokens_from next ps) (token_at (at + pieces_len (q ∷ ps)) (kind_of p)))

-- pieces with these tokens cover the text up to the rest
pub record Covered (greatest : ℕ) (text : List ℕ) (ts : List Token) (rest : List ℕ) : Type 0 where
  pub pieces : List Piece
  pub cover : CoversTo greatest pieces text rest
  pub meant : ts ≡ tokens_from 0 pieces

module _ {greatest : ℕ} {text : List ℕ} {ts : List Token} {rest : List ℕ} (c : Covered greatest text ts rest) where
  pub rest_within : length rest ≤ length text
  rest_within = omega (arith, covers_len greatest c.pieces text rest c.cover)

  place_is : 0 + pieces_len c.pieces ≡ length text - length rest
  place_is = omega (arith, covers_len greatest c.pieces text rest c.cover)

  pub rest_is : drop (length text - length rest) text ≡ rest
  rest_is =
      let place : length text - length rest ≡ pieces_len c.pieces = omega (arith, covers_len greatest c.pieces text rest c.cover) in
      ap (λ n. drop n text) place ∙ covers_drop greatest c.pieces text rest c.cover

  pub with_found : (p : Piece) (k : Option Kind) (after : List ℕ) → StandsFirst greatest p rest after → kind_of p ≡ k → Covered greatest text (ts ++ token_at (length text - length rest) k) after
  with_found p k after stands is = record {
    pieces = c.pieces ++ p ∷ [];
    cover = covers_more greatest c.pieces text rest p after c.cover stands;
    meant = ap (λ l. l ++ token_at (length text - length rest) k) c.meant
        ∙ sym (tokens_more c.pieces 0 p ∙ ap (λ n. tokens_from 0 c.pieces ++ token_at n (kind_of p)) place_is ∙ ap (λ x. tokens_from 0 c.pieces ++ token_at (length text - length rest) x) is);
  }

  pub uncovered : rest ≢ [] → IsUncovered greatest rest → EndsUncovered greatest c.pieces (length text - length rest) text
  uncovered some none = (rest, c.cover, omega (arith, covers_len greatest c.pieces text rest c.cover), some, none)

pub covers_nothing : (greatest : ℕ) (text : List ℕ) → Covered greatest text [] text
covers_nothing greatest text = record { pieces = []; cover = refl; meant = refl }

pub covers_all : {greatest : ℕ} {text : List ℕ} {ts : List Token} (rest : List ℕ) → length rest ≡ 0 → Covered greatest text ts rest → AreTokensBelow greatest ts text
covers_all [] e c = (c.pieces, c.cover, c.meant)
covers_all (b ∷ bs) e c = absurd (omega arith)

pub rest_is_shorter : {greatest : ℕ} → greatest < 2 ^ 64 → (p : Piece) (rest after : List ℕ) → StandsFirst greatest p rest after → length after < length rest
rest_is_shorter small p rest after h = omega (arith, ap length h.written, length-append (piece_text p) after, piece_nonempty small p after h.whole)

is_no_end : (greatest : ℕ) (k : Kind) (rest : List ℕ) → IsToken greatest k rest → k ≢ End
is_no_end greatest End rest h e = h.0
is_no_end greatest (Upper n) rest h e = cc
is_no_end greatest (Lower n) rest h e = cc
is_no_end greatest (Number n) rest h e = cc
is_no_end greatest (Text s) rest h e = cc
is_no_end greatest (Word k) rest h e = cc
is_no_end greatest (Mark s) rest h e = cc

-- no token that covers is an end mark
no_end_from : (greatest : ℕ) (ps : List Piece) (text rest : List ℕ) (at : ℕ) → CoversTo greatest ps text rest → All (λ k. k ≢ End) (kinds (tokens_from at ps))
no_end_from greatest [] text rest at h = All-nil (λ k. k ≢ End)
no_end_from greatest (Between g ∷ ps) text rest at h = no_end_from greatest ps h.0 rest (at + length (piece_text (Between g))) h.2
no_end_from greatest (Meant k ∷ ps) text rest at h =
    let more = tokens_from (at + length (piece_text (Meant k))) ps in
    All-cons (λ k. k ≢ End) k (kinds more) (is_no_end greatest k h.0 h.1.whole) (no_end_from greatest ps h.0 rest (at + length (piece_text (Meant k))) h.2)

pub no_end : {greatest : ℕ} (ts : List Token) (text : List ℕ) → AreTokensBelow greatest ts text → All (λ k. k ≢ End) (kinds ts)
no_end ts text h = subst (λ us. All (λ k. k ≢ End) (kinds us)) (sym h.2) (no_end_from _ h.0 text [] 0 h.1)
