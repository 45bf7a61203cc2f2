-- Pieces of a comparison, one put behind the other.
use Rattle.std.proofs.Common.{◌≡◌, ◌∙◌, ℕ, Bool, true, false, List, [], ◌∷◌, ◌++◌, refl, sym, ap, subst, append_assoc, append-nil, length, ◌<◌, ◌≤◌, arith, take, drop}
use Rattle.std.specs.Prelude.{◌==◌, ◌≢◌, nat_le, codes, decimal, flat_map}
use Rattle.std.proofs.lemmas.Bool.{leb-true, eqb-true}
use Rattle.std.proofs.lemmas.List.{take-append-drop}
use Rattle.rx_base.specs.Values.{Text}
use Rattle.rx_page.specs.declared.tag.Tag.TheVariants as tag
use Rattle.rx_page.specs.Escaping.{escaped}
use Rattle.rx_page.specs.Elements.{element}
use Rattle.rx_page.specs.Changes.{Piece, stays, goes, comes, before, after, Compares, PutsChanges, lines_in, marked, piece_html, stays_html}

-- of what is long the lines are counted
pub long-stays : (text : Text) → length text ≢ 0 → 400 < length text → lines_in text ≢ 0
    → stays_html text ≡ element tag.Small [] (escaped (codes "lines as before: " ++ decimal (lines_in text) ++ codes "\n"))
long-stays text some long lined = by_test (length text == 0) refl (nat_le (length text) 400) refl (lines_in text == 0) refl where
  by_test : (a : Bool) → (length text == 0) ≡ a → (b : Bool) → nat_le (length text) 400 ≡ b → (c : Bool) → (lines_in text == 0) ≡ c
      → stays_html text ≡ element tag.Small [] (escaped (codes "lines as before: " ++ decimal (lines_in text) ++ codes "\n"))
  by_test true e _ _ _ _ = absurd (some (eqb-true _ _ e))
  by_test false e true f _ _ = absurd (let short : length text ≤ 400 = leb-true _ _ f in omega (arith, short, long))
  by_test false e false f true g = absurd (lined (eqb-true _ _ g))
  by_test false e false f false g = rw (e, f, g) refl

-- So much of two texts is compared, and these texts are left.
pub record SoFar (old new start html left right : Text) : Type 0 where
  pub pieces : List Piece
  pub old_is : old ≡ flat_map before pieces ++ left
  pub new_is : new ≡ flat_map after pieces ++ right
  pub is : html ≡ start ++ flat_map piece_html pieces

pub so_far-starts : (old new start : Text) → SoFar old new start start old new
so_far-starts old new start = record { pieces = []; old_is = refl; new_is = refl; is = sym (append-nil start) }

flat-append : (f : Piece → Text) (xs ys : List Piece) → flat_map f (xs ++ ys) ≡ flat_map f xs ++ flat_map f ys
flat-append f [] ys = refl
flat-append f (x ∷ xs) ys = ap (λ (t : Text). f x ++ t) (flat-append f xs ys) ∙ sym (append_assoc (f x) (flat_map f xs) (flat_map f ys))

-- one piece more
pub so_far-next : (old new start html html_new left right left_new right_new : Text) (piece : Piece) → SoFar old new start html left right
    → left ≡ before piece ++ left_new → right ≡ after piece ++ right_new → html_new ≡ html ++ piece_html piece
    → SoFar old new start html_new left_new right_new
so_far-next old new start html html_new left right left_new right_new piece so_far left_is right_is is =
    let more : (f : Piece → Text) → flat_map f (so_far.pieces ++ piece ∷ []) ≡ flat_map f so_far.pieces ++ f piece =
    λ f. flat-append f so_far.pieces (piece ∷ []) ∙ ap (λ (t : Text). flat_map f so_far.pieces ++ t) (append-nil (f piece)) in
    record {
      pieces = so_far.pieces ++ piece ∷ [];
      old_is = so_far.old_is ∙ ap (λ (t : Text). flat_map before so_far.pieces ++ t) left_is ∙ sym (append_assoc (flat_map before so_far.pieces) (before piece) left_new)
          ∙ ap (λ (t : Text). t ++ left_new) (sym (more before));
      new_is = so_far.new_is ∙ ap (λ (t : Text). flat_map after so_far.pieces ++ t) right_is ∙ sym (append_assoc (flat_map after so_far.pieces) (after piece) right_new)
          ∙ ap (λ (t : Text). t ++ right_new) (sym (more after));
      is = is ∙ ap (λ (t : Text). t ++ piece_html piece) so_far.is ∙ append_assoc start (flat_map piece_html so_far.pieces) (piece_html piece)
          ∙ ap (λ (t : Text). start ++ t) (sym (more piece_html));
    }

-- all is compared
pub so_far-ends : (old new start html : Text) → SoFar old new start html [] [] → PutsChanges old new start html
so_far-ends old new start html so_far =
    record {
      pieces = so_far.pieces;
      compares = record { old_is = so_far.old_is ∙ append-nil (flat_map before so_far.pieces); new_is = so_far.new_is ∙ append-nil (flat_map after so_far.pieces) };
      is = so_far.is;
    }

-- three pieces more: what both begin with, then what goes and what comes before both go on
pub so_far-step : (old new start html one two three left right same left_rest right_rest gone left_after come right_after : Text) (n : ℕ) → SoFar old new start html left right
    → take n left ≡ take n right → same ≡ take n left → left_rest ≡ drop n left → right_rest ≡ drop n right
    → left_rest ≡ gone ++ left_after → right_rest ≡ come ++ right_after
    → one ≡ html ++ stays_html same → two ≡ one ++ marked tag.Deleted (codes "gone ") gone → three ≡ two ++ marked tag.Inserted (codes "new ") come
    → SoFar old new start three left_after right_after
so_far-step old new start html one two three left right same left_rest right_rest gone left_after come right_after n so_far alike is_same is_left is_right is_gone is_come is_one is_two is_three =
    let left_is : left ≡ same ++ left_rest = sym (take-append-drop n left) ∙ ap (λ (t : Text). t ++ drop n left) (sym is_same) ∙ ap (λ (t : Text). same ++ t) (sym is_left) in
    let right_is : right ≡ same ++ right_rest = sym (take-append-drop n right) ∙ ap (λ (t : Text). t ++ drop n right) (sym alike ∙ sym is_same) ∙ ap (λ (t : Text). same ++ t) (sym is_right) in
    let first = so_far-next old new start html one left right left_rest right_rest (stays same) so_far left_is right_is is_one in
    let second = so_far-next old new start one two left_rest right_rest left_after right_rest (goes gone) first is_gone refl is_two in
    so_far-next old new start two three left_after right_rest left_after right_after (comes come) second refl is_come is_three

-- what both texts end with stays, behind how the rest changes
pub changes-end : (old new start html html_new front new_front same : Text) (m n : ℕ)
    → PutsChanges front new_front start html → drop m old ≡ drop n new → front ≡ take m old → same ≡ drop m old → new_front ≡ take n new
    → html_new ≡ html ++ stays_html same → PutsChanges old new start html_new
changes-end old new start html html_new front new_front same m n puts alike is_front is_same is_new_front is =
    let all : (f : Piece → Text) → flat_map f (puts.pieces ++ stays same ∷ []) ≡ flat_map f puts.pieces ++ f (stays same) =
    λ f. flat-append f puts.pieces (stays same ∷ []) ∙ ap (λ (t : Text). flat_map f puts.pieces ++ t) (append-nil (f (stays same))) in
    record {
      pieces = puts.pieces ++ stays same ∷ [];
      compares = record {
        old_is = sym (take-append-drop m old) ∙ ap (λ (t : Text). t ++ drop m old) (sym is_front ∙ puts.compares.old_is) ∙ ap (λ (t : Text). flat_map before puts.pieces ++ t) (sym is_same) ∙ sym (all before);
        new_is = sym (take-append-drop n new) ∙ ap (λ (t : Text). t ++ drop n new) (sym is_new_front ∙ puts.compares.new_is) ∙ ap (λ (t : Text). flat_map after puts.pieces ++ t) (sym alike ∙ sym is_same) ∙ sym (all after);
      };
      is = is ∙ ap (λ (t : Text). t ++ stays_html same) puts.is ∙ append_assoc start (flat_map piece_html puts.pieces) (stays_html same) ∙ ap (λ (t : Text). start ++ t) (sym (all piece_html));
    }
