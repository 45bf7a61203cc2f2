-- The tokens that are taken, and what each stands for.
use Rattle.std.proofs.Common.{◌≡◌, ℕ, ◌≤◌, Bool, true, false, Some, List, [], ◌∷◌, get_or, eqb-true, eq-eqb, refl, sym, ap, ◌∙◌, subst, arith}
use Rattle.std.proofs.lemmas.Bool.{false≢true}
use Rattle.std.proofs.lemmas.Slice.Eq.{bytes_eq-Decides}
use Rattle.rx_base.specs.Values.{Name}
use Rattle.rx_lex.specs.declared.token.Keyword.{Keyword}
use Rattle.rx_lex.specs.declared.token.Keyword.TheVariants as word
use Rattle.rx_lex.specs.declared.token.Sign.{Sign}
use Rattle.rx_lex.specs.declared.token.Sign.TheVariants as sign
use Rattle.rx_lex.specs.declared.token.Kind.{Kind}
use Rattle.rx_lex.specs.declared.token.Kind.TheVariants.{Upper, Lower, Number, Text, Word, Mark}
use Rattle.rx_lex.specs.Tokens.{sign_number, same_sign, keyword_number, same_keyword}
use Rattle.rx_grammar.specs.Steps.{is_mark, is_word, where_true, as_mark, as_word, as_lower, as_upper, as_number, as_text, is_lower_name, is_upper_name, as_lower_name, as_upper_name}
use Rattle.rx_grammar.proofs.Readings.{sign_rank, word_rank, kind_rank}
use Rattle.rx_grammar.proofs.Combine.{IsToken, Always}

-- the signs by their numbers
signs : List Sign
signs = sign.OpenParen ∷ sign.CloseParen ∷ sign.OpenBrace ∷ sign.CloseBrace ∷ sign.OpenBracket ∷ sign.CloseBracket ∷ sign.Less ∷ sign.LessEqual ∷ sign.Greater ∷ sign.GreaterEqual ∷ sign.Comma ∷ sign.Semicolon ∷ sign.Colon ∷ sign.Question ∷ sign.Dot ∷ sign.Equals ∷ sign.Same ∷ sign.Not ∷ sign.NotSame ∷ sign.And ∷ sign.Or ∷ sign.Plus ∷ sign.Minus ∷ sign.Star ∷ sign.Slash ∷ sign.Percent ∷ []

sign_back : (s : Sign) → get_or signs (sign_number s) sign.Colon ≡ s
unfolding signs
sign_back sign.OpenParen = refl
sign_back _ = refl

pub same_sign_is : (s t : Sign) → same_sign s t ≡ true → s ≡ t
same_sign_is s t h = sym (sign_back s) ∙ ap (λ n. get_or signs n sign.Colon) (eqb-true (sign_number s) (sign_number t) h) ∙ sign_back t

-- the reserved words by their numbers
keywords : List Keyword
keywords = word.Const ∷ word.Function ∷ word.Return ∷ word.Null ∷ word.For ∷ word.Children ∷ word.Key ∷ word.CreateContext ∷ word.UseState ∷ word.UseReducer ∷ word.UseContext ∷ word.UseEffect ∷ word.UseLayoutEffect ∷ word.Use ∷ word.UseTransition ∷ word.Memo ∷ word.ThrowIf ∷ word.Suspense ∷ word.Provider ∷ word.Catch ∷ []

keyword_back : (w : Keyword) → get_or keywords (keyword_number w) word.Const ≡ w
unfolding keywords
keyword_back word.Const = refl
keyword_back _ = refl

pub same_keyword_is : (v w : Keyword) → same_keyword v w ≡ true → v ≡ w
same_keyword_is v w h = sym (keyword_back v) ∙ ap (λ n. get_or keywords n word.Const) (eqb-true (keyword_number v) (keyword_number w) h) ∙ keyword_back w

pub is_mark_is : (s : Sign) (k : Kind) → is_mark s k ≡ true → k ≡ Mark s
is_mark_is s (Mark t) h = ap Mark (same_sign_is t s h)
is_mark_is s _ h = absurd (false≢true h)

pub is_word_is : (w : Keyword) (k : Kind) → is_word w k ≡ true → k ≡ Word w
is_word_is w (Word v) h = ap Word (same_keyword_is v w h)
is_word_is w _ h = absurd (false≢true h)

pub is_lower_name_is : (x : Name) (k : Kind) → is_lower_name x k ≡ true → k ≡ Lower x
is_lower_name_is x (Lower y) h = ap Lower ((bytes_eq-Decides y x).0 h)
is_lower_name_is x _ h = absurd (false≢true h)

pub is_upper_name_is : (x : Name) (k : Kind) → is_upper_name x k ≡ true → k ≡ Upper x
is_upper_name_is x (Upper y) h = ap Upper ((bytes_eq-Decides y x).0 h)
is_upper_name_is x _ h = absurd (false≢true h)

pub where_true_is : (b : Bool) (x : Unit {0}) → where_true b ≡ Some x → b ≡ true
where_true_is true x h = refl
where_true_is false x h = absurd (let b : ⊥ = cc in b)

pub mark : (s : Sign) → IsToken (as_mark s) (λ x. Mark s) Always (sign_rank s)
mark s = record {
  makes = λ x of. ap where_true (eq-eqb (sign_number s) (sign_number s) refl);
  is = λ k x h. (is_mark_is s k (where_true_is (is_mark s k) x h), tt);
  ranked = λ x of. omega arith;
  inner = λ x. refl;
  one = (tt, tt);
}

pub reserved : (w : Keyword) → IsToken (as_word w) (λ x. Word w) Always (word_rank w)
reserved w = record {
  makes = λ x of. ap where_true (eq-eqb (keyword_number w) (keyword_number w) refl);
  is = λ k x h. (is_word_is w k (where_true_is (is_word w k) x h), tt);
  ranked = λ x of. omega arith;
  inner = λ x. refl;
  one = (tt, tt);
}

pub lower_name : (x : Name) → IsToken (as_lower_name x) (λ u. Lower x) Always 1
lower_name x = record {
  makes = λ u of. ap where_true ((bytes_eq-Decides x x).1 refl);
  is = λ k u h. (is_lower_name_is x k (where_true_is (is_lower_name x k) u h), tt);
  ranked = λ u of. omega arith;
  inner = λ u. refl;
  one = (tt, tt);
}

pub upper_name : (x : Name) → IsToken (as_upper_name x) (λ u. Upper x) Always 11
upper_name x = record {
  makes = λ u of. ap where_true ((bytes_eq-Decides x x).1 refl);
  is = λ k u h. (is_upper_name_is x k (where_true_is (is_upper_name x k) u h), tt);
  ranked = λ u of. omega arith;
  inner = λ u. refl;
  one = (tt, tt);
}

as_lower_is : (k : Kind) (x : Name) → as_lower k ≡ Some x → k ≡ Lower x
as_lower_is (Lower y) x h = let e : y ≡ x = cc in ap Lower e
as_lower_is _ x h = absurd (let b : ⊥ = cc in b)

as_upper_is : (k : Kind) (x : Name) → as_upper k ≡ Some x → k ≡ Upper x
as_upper_is (Upper y) x h = let e : y ≡ x = cc in ap Upper e
as_upper_is _ x h = absurd (let b : ⊥ = cc in b)

as_number_is : (k : Kind) (x : ℕ) → as_number k ≡ Some x → k ≡ Number x
as_number_is (Number y) x h = let e : y ≡ x = cc in ap Number e
as_number_is _ x h = absurd (let b : ⊥ = cc in b)

as_text_is : (k : Kind) (x : Name) → as_text k ≡ Some x → k ≡ Text x
as_text_is (Text y) x h = let e : y ≡ x = cc in ap Text e
as_text_is _ x h = absurd (let b : ⊥ = cc in b)

pub lower : IsToken as_lower (λ x. Lower x) Always 1
lower = record { makes = λ x of. refl; is = λ k x h. (as_lower_is k x h, tt); ranked = λ x of. omega arith; inner = λ x. refl; one = ([], tt) }

pub upper : IsToken as_upper (λ x. Upper x) Always 11
upper = record { makes = λ x of. refl; is = λ k x h. (as_upper_is k x h, tt); ranked = λ x of. omega arith; inner = λ x. refl; one = ([], tt) }

pub numeral : IsToken as_number (λ x. Number x) Always 11
numeral = record { makes = λ x of. refl; is = λ k x h. (as_number_is k x h, tt); ranked = λ x of. omega arith; inner = λ x. refl; one = (0, tt) }

pub quoted : IsToken as_text (λ x. Text x) Always 11
quoted = record { makes = λ x of. refl; is = λ k x h. (as_text_is k x h, tt); ranked = λ x of. omega arith; inner = λ x. refl; one = ([], tt) }

pub mark_ranked : (s : Sign) (high : ℕ) → sign_rank s ≤ high → (k : Kind) → is_mark s k ≡ true → kind_rank k ≤ high
mark_ranked s high le k e = subst (λ z. kind_rank z ≤ high) (sym (is_mark_is s k e)) le

pub word_ranked : (w : Keyword) (high : ℕ) → word_rank w ≤ high → (k : Kind) → is_word w k ≡ true → kind_rank k ≤ high
word_ranked w high le k e = subst (λ z. kind_rank z ≤ high) (sym (is_word_is w k e)) le

pub sign_ranked : (s : Sign) → 1 ≤ sign_rank s
sign_ranked sign.OpenParen = omega arith
sign_ranked _ = omega arith

pub mark_self : (s : Sign) → is_mark s (Mark s) ≡ true
mark_self s = eq-eqb (sign_number s) (sign_number s) refl
