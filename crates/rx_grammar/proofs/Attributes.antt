-- The laws of reading what stands in an opening tag.
use Rattle.std.proofs.Common.{◌≡◌, ℕ, ◌≤◌, Bool, true, false, ◌||◌, ◌⊎◌, inl, inr, ⊎_elim, List, [], ◌∷◌, ◌++◌, codes, flat_map, refl, sym, ap, ◌∙◌, subst, append-nil, arith}
use Rattle.std.proofs.lemmas.Bool.{false≢true}
use Rattle.rx_base.specs.Values.{Name}
use Rattle.rx_lex.specs.declared.token.Keyword.TheVariants as word
use Rattle.rx_lex.specs.declared.token.Sign.TheVariants as sign
use Rattle.rx_lex.specs.declared.token.Kind.{Kind}
use Rattle.rx_lex.specs.declared.token.Kind.TheVariants.{Lower, Text, Word, Mark}
use Rattle.rx_ast.specs.Syntax.{Expr, Attribute, key, computed, literal, KeyPlace, unkeyed, key_first, key_last}
use Rattle.rx_print.specs.Printing.{in_braces, given, key_tokens, expr_tokens, attribute_tokens, key_behind, keyed}
use Rattle.rx_print.specs.Levels.{whole_line, ExprFits, HostAttributesFit, ComponentAttributesFit, KeyFits}
use Rattle.rx_grammar.specs.Steps.{Read, is_word, is_text}
use Rattle.rx_grammar.specs.Reading.{braced_at, key_at, given_at, is_attribute, attribute_at, attributes_at, last_key_at, keyed_at, value_at}
use Rattle.rx_grammar.proofs.Readings.{kind_rank, Reads, said}
use Rattle.rx_grammar.proofs.Combine.{pure, seq, after, alt, Then, After, Or, Starts, Misses, avoids, avoids_nothing, Always}
use Rattle.rx_grammar.proofs.Many.{Row, row, Loop, loop}
use Rattle.rx_grammar.proofs.Tokens.{mark, reserved, lower, quoted, lower_name, word_ranked}
use Rattle.rx_grammar.proofs.Exprs.{expr_reads}

-- an expression in braces
abbrev pub BracedL : ℕ → Expr → List Kind → Type 0
BracedL n e p = ExprFits e whole_line n × (p ≡ in_braces (expr_tokens e))

pub braced_reads : (n : ℕ) → Reads (braced_at n) (BracedL n) 11 0 true
braced_reads n = said (BracedL n) 11 0
    (after (mark sign.OpenBrace) (λ s. seq (expr_reads n) (λ e. after (mark sign.CloseBrace) (λ c. pure e 0) (omega arith)) (omega arith)) (omega arith)) (omega arith) (omega arith)
    (λ t p h. let made = h.4.5.4.0 in subst (λ z. BracedL n z p) (sym made) (h.4.4.0, let a = h.4.4.1 in cc))
    (λ t p l. (tt, _, l.1, tt, (t, expr_tokens t, Mark sign.CloseBrace ∷ [], refl, (l.0, refl), (tt, [], refl, tt, (refl, refl)))))

-- a key
abbrev pub KeyL : ℕ → Expr → List Kind → Type 0
KeyL n e p = ExprFits e whole_line n × (p ≡ key_tokens e)

pub key_reads : (n : ℕ) → Reads (key_at n) (KeyL n) 1 0 true
key_reads n = said (KeyL n) 1 0
    (after (reserved word.Key) (λ k. after (mark sign.Equals) (λ q. braced_reads n) (omega arith)) (omega arith)) (omega arith) (omega arith)
    (λ t p h. (h.4.4.0, let a = h.4.4.1 in cc))
    (λ t p l. (tt, _, l.1, tt, (tt, _, refl, tt, (l.0, refl))))

-- a text stands only at an element of the host
abbrev pub AttributeFits : Bool → Attribute → ℕ → Type 0
AttributeFits host (key e) n = ExprFits e whole_line n
AttributeFits host (computed x e) n = ExprFits e whole_line n
AttributeFits host (literal x t) n = host ≡ true

abbrev pub AttributeL : Bool → ℕ → Attribute → List Kind → Type 0
AttributeL host n a p = AttributeFits host a n × (p ≡ attribute_tokens a)

-- what an attribute is given behind `=`
abbrev Given : Bool → ℕ → Name → Attribute → List Kind → Type 0
Given host n x = Or (λ a p. (t : List ℕ) × (a ≡ literal x t) × (host ≡ true) × (p ≡ Text t ∷ [])) (λ a p. (e : Expr) × (a ≡ computed x e) × BracedL n e p)

given_reads : (host : Bool) (n : ℕ) (x : Name) → Reads (given_at host n x) (Given host n x) 1 0 true
given_reads true n x = said (Given true n x) 1 0
    (alt is_text
    (said (λ a p. (t : List ℕ) × (a ≡ literal x t) × (◌≡◌ {A = Bool} true true) × (p ≡ Text t ∷ [])) 1 0 (after quoted (λ t. pure (literal x t) 0) (omega arith)) (omega arith) (omega arith)
    (λ a p h. (h.0, h.4.0, refl, let nil = h.4.1 in cc)) (λ a p l. (l.0, [], l.3, tt, (l.1, refl))))
    (said (λ a p. (e : Expr) × (a ≡ computed x e) × BracedL n e p) 1 0 (seq (braced_reads n) (λ e. pure (computed x e) 0) (omega arith)) (omega arith) (omega arith)
    (λ a p h. (h.0, h.5.0, (h.4.0, let nil = append-nil h.1 in let b = h.4.1 in cc))) (λ a p l. (l.0, p, [], sym (append-nil p), l.2, (l.1, refl))))
    (λ a p l. (Text l.0, [], l.3, refl))
    (avoids is_text (λ a p. (e : Expr) × (a ≡ computed x e) × BracedL n e p) 0 (λ a p l. (Mark sign.OpenBrace, _, l.2.1, refl))))
    (omega arith) (omega arith) (λ a p h. h) (λ a p h. h)
given_reads false n x = said (Given false n x) 1 0
    (seq (braced_reads n) (λ e. pure (computed x e) 0) (omega arith)) (omega arith) (omega arith)
    (λ a p h. inr (h.0, h.5.0, (h.4.0, let nil = append-nil h.1 in let b = h.4.1 in cc)))
    (λ a p l. ⊎_elim (λ w. absurd (false≢true w.2)) (λ w. (w.0, p, [], sym (append-nil p), w.2, (w.1, refl))) l)

-- an attribute that is a key, and one that is not
abbrev Keyed : Bool → ℕ → Attribute → List Kind → Type 0
Keyed host n a p = (e : Expr) × (a ≡ key e) × AttributeL host n (key e) p

abbrev Called : Bool → ℕ → Attribute → List Kind → Type 0
Called host n = After (λ x. Lower x) Always (λ x. After (λ (u : Unit {0}). Mark sign.Equals) Always (λ u. Given host n x))

pub attribute_reads : (host : Bool) (n : ℕ) → Reads (attribute_at host n) (AttributeL host n) 1 0 true
unfolding attribute_at
attribute_reads host n = said (AttributeL host n) 1 0
    (alt (is_word word.Key)
    (said (Keyed host n) 1 0 (seq (key_reads n) (λ e. pure (key e) 0) (omega arith)) (omega arith) (omega arith)
    (λ a p h. (h.0, h.5.0, (h.4.0, let nil = append-nil h.1 in let b = h.4.1 in cc))) (λ a p l. (l.0, p, [], sym (append-nil p), l.2, (l.1, refl))))
    (after lower (λ x. after (mark sign.Equals) (λ q. given_reads host n x) (omega arith)) (omega arith))
    (λ a p l. (Word word.Key, _, l.2.1, refl))
    (avoids (is_word word.Key) (Called host n) 0 (λ a p h. (Lower h.0, h.1, h.2, refl))))
    (omega arith) (omega arith) to back
  where
    to : (a : Attribute) (p : List Kind) → Or (Keyed host n) (Called host n) a p → AttributeL host n a p
    to a p (inl (e, made, l)) = subst (λ z. AttributeL host n z p) (sym made) l
    to a p (inr (x, v, e, t, (q, w, g, s, inl (c, made, h, f)))) = subst (λ z. AttributeL host n z p) (sym made) (h, cc)
    to a p (inr (x, v, e, t, (q, w, g, s, inr (c, made, l)))) = subst (λ z. AttributeL host n z p) (sym made) (l.0, let b = l.1 in cc)

    back : (a : Attribute) (p : List Kind) → AttributeL host n a p → Or (Keyed host n) (Called host n) a p
    back (key e) p l = inl (e, refl, l)
    back (computed x e) p l = inr (x, _, l.1, tt, (tt, _, refl, tt, inr (e, refl, (l.0, refl))))
    back (literal x t) p l = inr (x, _, l.1, tt, (tt, _, refl, tt, inl (t, refl, l.0, refl)))

attribute_ranked : (k : Kind) → is_attribute k ≡ true → kind_rank k ≤ 1
attribute_ranked (Lower x) h = omega arith
attribute_ranked (Word w) h = ⊎_elim (λ s. word_ranked word.Key 1 (omega arith) (Word w) s) (λ s. absurd (false≢true s)) (either (is_word word.Key (Word w)) h)
  where
    either : (b : Bool) → b || false ≡ true → (b ≡ true) ⊎ (false ≡ true)
    either true e = inl refl
    either false e = inr e
attribute_ranked _ h = absurd (false≢true h)

attribute_starts : (host : Bool) (n : ℕ) → Starts is_attribute (AttributeL host n)
attribute_starts host n (key e) p l = (Word word.Key, _, l.1, refl)
attribute_starts host n (computed x e) p l = (Lower x, _, l.1, refl)
attribute_starts host n (literal x t) p l = (Lower x, _, l.1, refl)

pub attributes_reads : (host : Bool) (n : ℕ) → Reads (attributes_at host n) (Row (AttributeL host n)) 1 1 true
attributes_reads host n = row is_attribute 1 1 (attribute_reads host n) (attribute_starts host n) (omega arith) (omega arith) (omega arith) (omega arith) attribute_ranked

pub host_to : (n : ℕ) (as' : List Attribute) (p : List Kind) → Row (AttributeL true n) as' p → HostAttributesFit as' n × (p ≡ flat_map attribute_tokens as')
host_to n [] p h = (tt, h)
host_to n (key e ∷ others) p (u, v, g, l, h) = let r = host_to n others v h in ((l.0, r.0), g ∙ (λ i. l.1 i ++ r.1 i))
host_to n (computed x e ∷ others) p (u, v, g, l, h) = let r = host_to n others v h in ((l.0, r.0), g ∙ (λ i. l.1 i ++ r.1 i))
host_to n (literal x t ∷ others) p (u, v, g, l, h) = let r = host_to n others v h in (r.0, g ∙ (λ i. l.1 i ++ r.1 i))

pub host_back : (n : ℕ) (as' : List Attribute) → HostAttributesFit as' n → Row (AttributeL true n) as' (flat_map attribute_tokens as')
host_back n [] h = refl
host_back n (key e ∷ others) h = (attribute_tokens (key e), flat_map attribute_tokens others, refl, (h.0, refl), host_back n others h.1)
host_back n (computed x e ∷ others) h = (attribute_tokens (computed x e), flat_map attribute_tokens others, refl, (h.0, refl), host_back n others h.1)
host_back n (literal x t ∷ others) h = (attribute_tokens (literal x t), flat_map attribute_tokens others, refl, (refl, refl), host_back n others h)

pub component_to : (n : ℕ) (as' : List Attribute) (p : List Kind) → Row (AttributeL false n) as' p → ComponentAttributesFit as' n × (p ≡ flat_map attribute_tokens as')
component_to n [] p h = (tt, h)
component_to n (key e ∷ others) p (u, v, g, l, h) = let r = component_to n others v h in ((l.0, r.0), g ∙ (λ i. l.1 i ++ r.1 i))
component_to n (computed x e ∷ others) p (u, v, g, l, h) = let r = component_to n others v h in ((l.0, r.0), g ∙ (λ i. l.1 i ++ r.1 i))
component_to n (literal x t ∷ others) p (u, v, g, l, h) = absurd (false≢true l.0)

pub component_back : (n : ℕ) (as' : List Attribute) → ComponentAttributesFit as' n → Row (AttributeL false n) as' (flat_map attribute_tokens as')
component_back n [] h = refl
component_back n (key e ∷ others) h = (attribute_tokens (key e), flat_map attribute_tokens others, refl, (h.0, refl), component_back n others h.1)
component_back n (computed x e ∷ others) h = (attribute_tokens (computed x e), flat_map attribute_tokens others, refl, (h.0, refl), component_back n others h.1)
component_back n (literal x t ∷ others) h = absurd h

-- whether a key stands before what else is given
abbrev is_first : KeyPlace → Bool
is_first unkeyed = false
is_first (key_first e) = true
is_first (key_last e) = false

-- a key behind what else is given, or none
abbrev LastKey : ℕ → KeyPlace → List Kind → Type 0
LastKey n k p = (is_first k ≡ false) × KeyFits k n × (p ≡ key_behind k)

last_key_reads : (n : ℕ) → Reads (last_key_at n) (LastKey n) 1 1 true
last_key_reads n = said (LastKey n) 1 1
    (alt (is_word word.Key)
    (said (λ k p. (e : Expr) × (k ≡ key_last e) × KeyL n e p) 1 1 (seq (key_reads n) (λ e. pure (key_last e) 0) (omega arith)) (omega arith) (omega arith)
    (λ a p h. (h.0, h.5.0, (h.4.0, let nil = append-nil h.1 in let b = h.4.1 in cc))) (λ a p l. (l.0, p, [], sym (append-nil p), l.2, (l.1, refl))))
    (said (λ k p. (k ≡ unkeyed) × (p ≡ [])) 1 1 (pure unkeyed 1) (omega arith) (omega arith) (λ a p h. h) (λ a p h. h))
    (λ a p l. (Word word.Key, _, l.2.1, refl))
    (avoids_nothing (is_word word.Key) unkeyed 1 (word_ranked word.Key 1 (omega arith))))
    (omega arith) (omega arith) to back
  where
    to : (k : KeyPlace) (p : List Kind) → Or (λ k p. (e : Expr) × (k ≡ key_last e) × KeyL n e p) (λ k p. (k ≡ unkeyed) × (p ≡ [])) k p → LastKey n k p
    to k p (inl (e, made, l)) = subst (λ z. LastKey n z p) (sym made) (refl, l.0, l.1)
    to k p (inr (made, nil)) = subst (λ z. LastKey n z p) (sym made) (refl, tt, nil)

    back : (k : KeyPlace) (p : List Kind) → LastKey n k p → Or (λ k p. (e : Expr) × (k ≡ key_last e) × KeyL n e p) (λ k p. (k ≡ unkeyed) × (p ≡ [])) k p
    back unkeyed p l = inr (refl, l.2)
    back (key_first e) p l = absurd (false≢true (sym l.0))
    back (key_last e) p l = inl (e, refl, (l.1, l.2))

-- what a boundary or a provider is given
abbrev pub KeyedL : {A : Type 0} → ℕ → (A → List Kind → Type 0) → KeyPlace × A → List Kind → Type 0
KeyedL n L x p = KeyFits x.0 n × ((u : List Kind) × L x.1 u × (p ≡ keyed x.0 u))

module _ {A : Type 0} (n : ℕ) (item : List Kind → Read A) (L : A → List Kind → Type 0) (P : Reads item L 1 0 true) (misses : Misses (is_word word.Key) L) where
  abbrev First : KeyPlace × A → List Kind → Type 0
  First = Then (KeyL n) (λ e. Then L (λ x c q. (c ≡ (key_first e, x)) × (q ≡ [])))

  abbrev Last : KeyPlace × A → List Kind → Type 0
  Last = Then L (λ x. Then (LastKey n) (λ k c q. (c ≡ (k, x)) × (q ≡ [])))

  to : (x : KeyPlace × A) (p : List Kind) → Or First Last x p → KeyedL n L x p
  to x p (inl (e, u, v, g, l, (a, s, t, f, m, (made, nil)))) =
      let tail : v ≡ s ++ [] = f ∙ ap (λ z. s ++ z) nil in
      subst (λ z. KeyedL n L z p) (sym made) (l.0, (s, m, g ∙ (λ i. l.1 i ++ tail i)))
  to x p (inr (a, u, v, g, l, (k, s, t, f, m, (made, nil)))) =
      let tail : v ≡ key_behind k = f ∙ (ap (λ z. s ++ z) nil ∙ (append-nil s ∙ m.2)) in
      subst (λ z. KeyedL n L z p) (sym made) (m.1, (u, l, g ∙ (ap (λ z. u ++ z) tail ∙ no_first k u m.0)))
    where
      no_first : (k : KeyPlace) (u : List Kind) → is_first k ≡ false → u ++ key_behind k ≡ keyed k u
      no_first unkeyed u e = refl
      no_first (key_first e) u f = absurd (false≢true (sym f))
      no_first (key_last e) u f = refl

  back : (x : KeyPlace × A) (p : List Kind) → KeyedL n L x p → Or First Last x p
  back (unkeyed, a) p (fit, (u, l, e)) = inr (a, u, [], e, l, (unkeyed, [], [], refl, (refl, tt, refl), (refl, refl)))
  back (key_first e, a) p (fit, (u, l, g)) = inl (e, key_tokens e, u ++ [], g, (fit, refl), (a, u, [], refl, l, (refl, refl)))
  back (key_last e, a) p (fit, (u, l, g)) = inr (a, u, key_tokens e, g, l, (key_last e, key_tokens e, [], sym (append-nil (key_tokens e)), (refl, fit, refl), (refl, refl)))

  first_starts : Starts (is_word word.Key) First
  first_starts x p h = (Word word.Key, _, h.3 ∙ ap (λ z. z ++ h.2) h.4.1, refl)

  last_misses : Misses (is_word word.Key) Last
  last_misses x p h = let w = misses h.0 h.1 h.4 in (w.0, w.1 ++ h.2, h.3 ∙ ap (λ z. z ++ h.2) w.2, w.3)

  pub keyed_laws : Reads (keyed_at n item) (KeyedL n L) 1 1 true
  keyed_laws = said (KeyedL n L) 1 1
      (alt (is_word word.Key)
      (said First 1 1 (seq (key_reads n) (λ e. seq P (λ x. pure (key_first e, x) 0) (omega arith)) (omega arith)) (omega arith) (omega arith) (λ a p h. h) (λ a p h. h))
      (said Last 1 1 (seq P (λ x. seq (last_key_reads n) (λ k. pure (k, x) 1) (omega arith)) (omega arith)) (omega arith) (omega arith) (λ a p h. h) (λ a p h. h))
      first_starts
      (avoids (is_word word.Key) Last 1 last_misses))
      (omega arith) (omega arith) to back

-- the value of a provider
abbrev pub ValueL : ℕ → Expr → List Kind → Type 0
ValueL n e p = ExprFits e whole_line n × (p ≡ given (Lower (codes "value")) (expr_tokens e))

pub value_reads : (n : ℕ) → Reads (value_at n) (ValueL n) 1 0 true
value_reads n = said (ValueL n) 1 0
    (after (lower_name (codes "value")) (λ k. after (mark sign.Equals) (λ q. braced_reads n) (omega arith)) (omega arith)) (omega arith) (omega arith)
    (λ t p h. (h.4.4.0, let a = h.4.4.1 in cc))
    (λ t p l. (tt, _, l.1, tt, (tt, _, refl, tt, (l.0, refl))))

-- how the loop of attributes turns
pub attributes_loop : (host : Bool) (n : ℕ) → Loop is_attribute (attribute_at host n)
attributes_loop host n = loop is_attribute 1 1 (attribute_reads host n) (attribute_starts host n) (omega arith) (omega arith) (omega arith) (omega arith) attribute_ranked
