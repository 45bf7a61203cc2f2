-- The laws of a reading, and how those of its steps make them.
use Rattle.std.proofs.Common.{◌≡◌, ℕ, suc, ◌<◌, ◌≤◌, Bool, true, false, cond, ◌⊎◌, inl, inr, ⊎_elim, Ok, Err, List, [], ◌∷◌, ◌++◌, length, refl, sym, ap, ◌∙◌, length-append, arith}
use Rattle.rx_lex.specs.declared.token.Keyword.{Keyword}
use Rattle.rx_lex.specs.declared.token.Keyword.TheVariants as word
use Rattle.rx_lex.specs.declared.token.Sign.{Sign}
use Rattle.rx_lex.specs.declared.token.Sign.TheVariants as sign
use Rattle.rx_lex.specs.declared.token.Kind.{Kind}
use Rattle.rx_lex.specs.declared.token.Kind.TheVariants.{Lower, Word, Mark}
use Rattle.rx_grammar.specs.Steps.{Read, ◌>>=◌, is_end}

-- A number for each sign: a phrase goes on with tokens of a low one only.
abbrev pub sign_rank : Sign → ℕ
sign_rank sign.OpenParen = 2
sign_rank sign.Star = 3
sign_rank sign.Slash = 3
sign_rank sign.Percent = 3
sign_rank sign.Plus = 4
sign_rank sign.Minus = 4
sign_rank sign.Less = 5
sign_rank sign.LessEqual = 5
sign_rank sign.Greater = 5
sign_rank sign.GreaterEqual = 5
sign_rank sign.Same = 6
sign_rank sign.NotSame = 6
sign_rank sign.And = 7
sign_rank sign.Or = 8
sign_rank sign.Question = 9
sign_rank sign.Comma = 10
sign_rank sign.Dot = 1
sign_rank s = 11

abbrev pub word_rank : Keyword → ℕ
word_rank word.Const = 1
word_rank word.Function = 1
word_rank word.Key = 1
word_rank word.UseEffect = 1
word_rank word.UseLayoutEffect = 1
word_rank word.ThrowIf = 1
word_rank w = 11

abbrev pub kind_rank : Kind → ℕ
kind_rank (Lower x) = 1
kind_rank (Word w) = word_rank w
kind_rank (Mark s) = sign_rank s
kind_rank k = 11

abbrev pub rank : List Kind → ℕ
rank [] = 11
rank (k ∷ ts) = kind_rank k

-- no token is an end mark
abbrev pub NoEnd : List Kind → Type 0
NoEnd [] = Unit {0}
NoEnd (k ∷ ts) = (is_end k ≡ false) × NoEnd ts

pub NoEnd-append : (p q : List Kind) → NoEnd p → NoEnd q → NoEnd (p ++ q)
NoEnd-append [] q h g = g
NoEnd-append (k ∷ p) q h g = (h.0, NoEnd-append p q h.1 g)

-- a phrase begins with these tokens
abbrev pub Begun : {A : Type 0} → (A → List Kind → Type 0) → List Kind → Type 0
Begun {A} L p = (a : A) × (more : List Kind) × L a (p ++ more)

-- so many tokens are left at the fault, and those before it begin a phrase, unless it is the first
pub record StopsAt {A : Type 0} (L : A → List Kind → Type 0) (ts : List Kind) (m : ℕ) : Type 0 where
  pub before : List Kind
  pub left : List Kind
  pub split : ts ≡ before ++ left
  pub count : length left ≡ m
  pub begun : (before ≡ []) ⊎ Begun L before

-- What is read is a phrase, and each phrase is read if no token of a low rank follows. It does not depend on what stands behind the token at which reading stops.
pub record Reads {A : Type 0} (r : List Kind → Read A) (L : A → List Kind → Type 0) (low high : ℕ) (full : Bool) : Type 0 where
  pub opens : (a : A) (p rest : List Kind) → L a p → high < rank rest → low ≤ rank (p ++ rest)
  pub plain : (a : A) (p : List Kind) → L a p → NoEnd p
  pub sound : (ts : List Kind) (x : A × List Kind) → r ts ≡ Ok x → (p : List Kind) × (ts ≡ p ++ x.1) × L x.0 p
  pub complete : (a : A) (p rest : List Kind) → L a p → high < rank rest → r (p ++ rest) ≡ Ok (a, rest)
  pub keeps : (p : List Kind) (k : Kind) (v u : List Kind) (a : A) → r (p ++ k ∷ v) ≡ Ok (a, k ∷ v) → r (p ++ k ∷ u) ≡ Ok (a, k ∷ u)
  pub fails : (p : List Kind) (k : Kind) (v u : List Kind) → r (p ++ k ∷ v) ≡ Err (suc (length v)) → r (p ++ k ∷ u) ≡ Err (suc (length u))
  pub stops : (ts : List Kind) (m : ℕ) → r ts ≡ Err m → StopsAt L ts m
  pub some : full ≡ true → (a : A) × (p : List Kind) × L a p

pub bind_ok : {A B : Type 0} (r : Read A) (f : A × List Kind → Read B) (y : B × List Kind) → (r >>= f) ≡ Ok y → (x : A × List Kind) × (r ≡ Ok x) × (f x ≡ Ok y)
bind_ok (Ok x) f y h = (x, refl, h)
bind_ok (Err e) f y h = absurd (let b : ⊥ = cc in b)

pub bind_err : {A B : Type 0} (r : Read A) (f : A × List Kind → Read B) (m : ℕ) → (r >>= f) ≡ Err m → (r ≡ Err m) ⊎ ((x : A × List Kind) × (r ≡ Ok x) × (f x ≡ Err m))
bind_err (Ok x) f m h = inr (x, refl, h)
bind_err (Err e) f m h = inl (let e : e ≡ m = cc in ap Err e)

pub chosen : {A : Type 0} (b : Bool) (x y z : A) → cond b x y ≡ z → ((b ≡ true) × (x ≡ z)) ⊎ ((b ≡ false) × (y ≡ z))
chosen true x y z h = inl (refl, h)
chosen false x y z h = inr (refl, h)

-- two ways to split a list, with ends of one length, are one
pub same_ends : {A : Type 0} (a x b y : List A) → a ++ x ≡ b ++ y → length x ≡ length y → (a ≡ b) × (x ≡ y)
same_ends [] x [] y e l = (refl, e)
same_ends [] x (c ∷ b) y e l = absurd (omega (arith, ap length e, length-append b y))
same_ends (c ∷ a) x [] y e l = absurd (omega (arith, ap length e, length-append a x))
same_ends (c ∷ a) x (d ∷ b) y e l =
    let tails : a ++ x ≡ b ++ y = cc in
    let heads : c ≡ d = cc in
    let both = same_ends a x b y tails l in
    ((λ i. heads i ∷ both.0 i), both.1)

-- the same reading, written otherwise
pub same : {A : Type 0} (r s : List Kind → Read A) (L : A → List Kind → Type 0) (low high : ℕ) (full : Bool) → ((ts : List Kind) → s ts ≡ r ts) → Reads r L low high full → Reads s L low high full
same r s L low high full e h = record {
  opens = h.opens;
  plain = h.plain;
  sound = λ ts x g. h.sound ts x (sym (e ts) ∙ g);
  complete = λ a p rest l lt. e (p ++ rest) ∙ h.complete a p rest l lt;
  keeps = λ p k v u a g. e (p ++ k ∷ u) ∙ h.keeps p k v u a (sym (e (p ++ k ∷ v)) ∙ g);
  fails = λ p k v u g. e (p ++ k ∷ u) ∙ h.fails p k v u (sym (e (p ++ k ∷ v)) ∙ g);
  stops = λ ts m g. h.stops ts m (sym (e ts) ∙ g);
  some = h.some;
}

-- the same phrases, said otherwise
pub said : {A : Type 0} {r : List Kind → Read A} {L : A → List Kind → Type 0} {low high : ℕ} {full : Bool} (M : A → List Kind → Type 0) (below above : ℕ) → Reads r L low high full → below ≤ low → high ≤ above → ((a : A) (p : List Kind) → L a p → M a p) → ((a : A) (p : List Kind) → M a p → L a p) → Reads r M below above full
said M below above h down up to back = record {
  opens = λ a p rest m lt. let o = h.opens a p rest (back a p m) (omega arith) in omega arith;
  plain = λ a p m. h.plain a p (back a p m);
  sound = λ ts x g. let s = h.sound ts x g in (s.0, s.1, to x.0 s.0 s.2);
  complete = λ a p rest m lt. h.complete a p rest (back a p m) (omega arith);
  keeps = h.keeps;
  fails = h.fails;
  stops = λ ts m g.
      let s = h.stops ts m g in
      record {
        before = s.before;
        left = s.left;
        split = s.split;
        count = s.count;
        begun = ⊎_elim (λ w. inl w) (λ w. inr (w.0, w.1, to w.0 (s.before ++ w.1) w.2)) s.begun;
      };
  some = λ f. let s = h.some f in (s.0, s.1, to s.0 s.1 s.2);
}
