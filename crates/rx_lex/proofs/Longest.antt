-- No piece that could stand alone is longer than the one that stands first.
use Rattle.std.proofs.Common.{◌≡◌, ℕ, ◌<◌, ◌≤◌, ◌^◌, Bool, List, [], ◌∷◌, ◌++◌, length, codes, sym, ap, ◌∙◌, subst, arith, length-append, ⊎_elim}
use Rattle.rx_lex.specs.declared.token.Kind.{Kind}
use Rattle.rx_lex.specs.declared.token.Kind.TheVariants.{Upper, Lower, Number, Text, Word, Mark, End}
use Rattle.rx_lex.specs.declared.token.Sign.{Sign}
use Rattle.rx_lex.specs.Tokens.{is_word_byte, is_in_line, is_inside, IsRun, IsRunEnd, IsWordKind, spelling, sign_text, Blank, LineComment, BlockComment, IsClosedFirst, Piece, Between, Meant, piece_text, IsPiece, StandsFirst}
use Rattle.rx_lex.proofs.Fronts.{word_run}
use Rattle.rx_lex.proofs.Cover.{piece_nonempty}
use Rattle.rx_lex.proofs.Classes.{class_of, class_is, front_class, word_class, comment_classes, sign_by, sign_back, sign_longest, sign_or_one, gap_class, token_class}
use Rattle.rx_lex.proofs.Unique.{append_left, closed_unique, strings_unique}

run_longest : (p : ℕ → Bool) (w v rest after : List ℕ) → IsRunEnd p rest → IsRun p v → w ++ rest ≡ v ++ after → length v ≤ length w
run_longest p [] [] rest after end run e = omega arith
run_longest p [] (c ∷ v) [] after end run e = let no : ⊥ = cc in absurd no
run_longest p [] (c ∷ v) (b ∷ rest) after end run e = let no : ⊥ = cc in absurd no
run_longest p (b ∷ w) [] rest after end run e = omega arith
run_longest p (b ∷ w) (c ∷ v) rest after end run e = let tails : w ++ rest ≡ v ++ after = cc in omega (arith, run_longest p w v rest after end run.1 tails)

module _ {greatest : ℕ} (small : greatest < 2 ^ 64) (text rest after : List ℕ) where
  beside_line : (p : Piece) (body : List ℕ) → StandsFirst greatest p text rest → class_of p ≡ 1 → IsRun is_in_line body → text ≡ (codes "//" ++ body) ++ after → length (codes "//" ++ body) ≤ length (piece_text p)
  beside_line (Between (LineComment x)) body h c run e =
      let tails = append_left (codes "//") (x ++ rest) (body ++ after) (sym h.written ∙ e) in
      omega (arith, run_longest is_in_line x body rest after h.whole.1 run tails)
  beside_line (Meant k) body h c run e = absurd (omega (arith, token_class k))
  beside_line p body h c run e = absurd (omega arith)

  beside_block : (p : Piece) (body : List ℕ) → StandsFirst greatest p text rest → class_of p ≡ 2 → IsClosedFirst body → text ≡ (codes "/*" ++ (body ++ codes "*/")) ++ after → length (codes "/*" ++ (body ++ codes "*/")) ≤ length (piece_text p)
  beside_block (Between (BlockComment x)) body h c closed e =
      let tails = append_left (codes "/*") ((x ++ codes "*/") ++ rest) ((body ++ codes "*/") ++ after) (sym h.written ∙ e) in
      omega (arith, length-append x (codes "*/"), length-append body (codes "*/"), ap length (closed_unique x body rest after h.whole closed tails).0)
  beside_block (Meant k) body h c closed e = absurd (omega (arith, token_class k))
  beside_block p body h c closed e = absurd (omega arith)

  beside_string : (p : Piece) (s : List ℕ) → StandsFirst greatest p text rest → class_of p ≡ 3 → IsRun is_inside s → text ≡ (34 ∷ (s ++ 34 ∷ [])) ++ after → length (spelling (Text s)) ≤ length (piece_text p)
  beside_string (Meant (Text t)) s h c run e =
      omega (arith, length-append t (34 ∷ []), length-append s (34 ∷ []), ap length (strings_unique t s rest after text h.written e h.whole run).0)
  beside_string (Between g) s h c run e = absurd (omega (arith, gap_class g))
  beside_string p s h c run e = absurd (omega arith)

  beside_sign : (p : Piece) (s : Sign) → StandsFirst greatest p text rest → class_of p ≡ 4 → text ≡ sign_text s ++ after → length (sign_text s) ≤ length (piece_text p)
  beside_sign (Meant (Mark t)) s h c e =
      let front = ap sign_by (sym e ∙ h.written) ∙ sign_back t rest h.whole in
      subst (λ u. length (sign_text s) ≤ length (sign_text u)) front (sign_longest s after)
  beside_sign (Between g) s h c e = absurd (omega (arith, gap_class g))
  beside_sign p s h c e = absurd (omega arith)

  beside_word : (p : Piece) (w : List ℕ) → StandsFirst greatest p text rest → class_of p ≡ 5 → IsRun is_word_byte w → text ≡ w ++ after → length w ≤ length (piece_text p)
  beside_word (Meant (Upper n)) w h c run e = run_longest is_word_byte n w rest after h.whole.1 run (sym h.written ∙ e)
  beside_word (Meant (Lower n)) w h c run e = run_longest is_word_byte n w rest after h.whole.1 run (sym h.written ∙ e)
  beside_word (Meant (Number n)) w h c run e = run_longest is_word_byte (spelling (Number n)) w rest after h.whole.1 run (sym h.written ∙ e)
  beside_word (Meant (Word k)) w h c run e = run_longest is_word_byte (spelling (Word k)) w rest after h.whole.1 run (sym h.written ∙ e)
  beside_word (Meant End) w h c run e = absurd h.whole.0
  beside_word (Meant (Text s)) w h c run e = absurd (omega arith)
  beside_word (Meant (Mark s)) w h c run e = absurd (omega arith)
  beside_word (Between (Blank b)) w h c run e = absurd (omega arith)
  beside_word (Between (LineComment b)) w h c run e = absurd (omega arith)
  beside_word (Between (BlockComment b)) w h c run e = absurd (omega arith)

  word_piece : (p : Piece) (k : Kind) → StandsFirst greatest p text rest → IsWordKind greatest k → text ≡ spelling k ++ after → length (spelling k) ≤ length (piece_text p)
  word_piece p k h kind e =
      let word = word_run small k kind in
      let same = sym (class_is small p text rest h) ∙ ap front_class e ∙ word_class (spelling k) after word.0 word.1 in
      beside_word p (spelling k) h same word.0 e

  pub longest : (p q : Piece) → StandsFirst greatest p text rest → IsPiece greatest q [] → text ≡ piece_text q ++ after → length (piece_text q) ≤ length (piece_text p)
  longest p (Between (Blank b)) h alone e = omega (arith, piece_nonempty small p rest h.whole)
  longest p (Between (LineComment body)) h alone e =
      beside_line p body h (sym (class_is small p text rest h) ∙ ap front_class e ∙ (comment_classes (body ++ after) []).0) alone.0 e
  longest p (Between (BlockComment body)) h alone e =
      beside_block p body h (sym (class_is small p text rest h) ∙ ap front_class e ∙ (comment_classes ((body ++ codes "*/") ++ after) []).1) alone e
  longest p (Meant (Text s)) h alone e =
      beside_string p s h (sym (class_is small p text rest h) ∙ ap front_class e ∙ (comment_classes [] ((s ++ (34 ∷ [])) ++ after)).2) alone e
  longest p (Meant (Mark s)) h alone e = ⊎_elim
      (λ sign. beside_sign p s h (sym (class_is small p text rest h) ∙ ap front_class e ∙ sign) e)
      (λ one. omega (arith, piece_nonempty small p rest h.whole, one))
      (sign_or_one s after)
  longest p (Meant End) h alone e = absurd alone.0
  longest p (Meant (Upper n)) h alone e = word_piece p (Upper n) h alone.0 e
  longest p (Meant (Lower n)) h alone e = word_piece p (Lower n) h alone.0 e
  longest p (Meant (Number n)) h alone e = word_piece p (Number n) h alone.0 e
  longest p (Meant (Word k)) h alone e = word_piece p (Word k) h alone.0 e
