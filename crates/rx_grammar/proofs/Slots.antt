-- The laws of reading slots.
use Rattle.std.proofs.Common.{◌≡◌, ℕ, zero, suc, ◌-◌, ◌<◌, Bool, true, false, cond, inl, inr, Option, Some, None, Ok, Err, List, [], ◌∷◌, ◌++◌, length, refl, sym, ap, ◌∙◌, subst, append_assoc, append-nil, arith}
use Rattle.std.proofs.lemmas.Bool.{false≢true}
use Rattle.rx_base.specs.Values.{Name}
use Rattle.rx_lex.specs.declared.token.Keyword.{Keyword}
use Rattle.rx_lex.specs.declared.token.Keyword.TheVariants as word
use Rattle.rx_lex.specs.declared.token.Sign.TheVariants as sign
use Rattle.rx_lex.specs.declared.token.Kind.{Kind}
use Rattle.rx_lex.specs.declared.token.Kind.TheVariants.{Number, Text, Word, Mark}
use Rattle.rx_ast.specs.declared.expr.Prefix.TheVariants as prefix
use Rattle.rx_ast.specs.Syntax as syntax
use Rattle.rx_ast.specs.Syntax.{Expr, number, variable, grouped, prefixed, chain, chosen, called, Slot, parentheses, braces, enclosed, null, words, number_of, repeated, choice}
use Rattle.rx_print.specs.Printing.{expr_tokens, links_tokens, slot_tokens}
use Rattle.rx_print.specs.Levels.{or_line, whole_line, SlotFits, of_slot, of_child, of_element}
use Rattle.rx_grammar.specs.Steps.{◌>>=◌, next, is_mark, is_word, is_text, taken, as_word, as_text, all_of}
use Rattle.rx_grammar.specs.Reading.{sign_at, close_at, child_at, is_operator, link_at, chain_of, operand_with, line_with, line_at, expr_at, SlotInner, element_at, repeated_at, slot_choice_at, shown_at, plain_with, next_two, slot_with, slot_inner, slot_at, children_at, element_behind}
use Rattle.rx_grammar.proofs.Readings.{rank, Reads, said}
use Rattle.rx_grammar.proofs.Combine.{pure, seq, after, alt, inside, Then, Or, Misses, avoids, avoids_nothing, misses_or}
use Rattle.rx_grammar.proofs.Many.{HasToken, EndLoop, end_loop}
use Rattle.rx_grammar.proofs.Tokens.{mark, reserved, lower, numeral, quoted, mark_ranked}
use Rattle.rx_grammar.proofs.Two.{Behind, two}
use Rattle.rx_grammar.proofs.Exprs.{ExprL, begins_operand, expr_begins, other_sign, expr_reads, test_reads}
use Rattle.rx_grammar.proofs.Elements.{SlotL, ElementL, TagL, ChildrenL, SlotDeeper, SlotLevel, element_reads, tag_whole_reads, tag_slot, is_element, slot_tag, Close, close_reads, child_reads, child_has_token, children_reads}

-- no operand begins with a reserved word or a text
pub word_other : (w : Keyword) (k : Kind) → begins_operand k ≡ true → is_word w k ≡ false
word_other w (Word v) h = absurd (false≢true h)
word_other w _ h = refl

text_other : (k : Kind) → begins_operand k ≡ true → is_text k ≡ false
text_other (Text v) h = absurd (false≢true h)
text_other _ h = refl

-- behind a parenthesis that begins an expression no `<` stands
expr_two : (e : Expr) (rest : List Kind) → next_two sign.OpenParen sign.Less (expr_tokens e ++ rest) ≡ false
expr_two (number v) rest = refl
expr_two (variable x) rest = refl
expr_two (grouped e) rest =
    let w = expr_begins e in
    ap (λ z. next (is_mark sign.Less) ((z ++ Mark sign.CloseParen ∷ []) ++ rest)) w.2 ∙ other_sign sign.Less refl w.0 w.3
expr_two (prefixed prefix.Not e) rest = refl
expr_two (prefixed prefix.Negative e) rest = refl
expr_two (chain e ls) rest = ap (next_two sign.OpenParen sign.Less) (append_assoc (expr_tokens e) (links_tokens ls) rest) ∙ expr_two e (links_tokens ls ++ rest)
expr_two (chosen c a b) rest =
    let more = Mark sign.Question ∷ (expr_tokens a ++ (Mark sign.Colon ∷ expr_tokens b)) in
    ap (next_two sign.OpenParen sign.Less) (append_assoc (expr_tokens c) more rest) ∙ expr_two c (more ++ rest)
expr_two (called f es) rest = refl

-- a slot that is no element, also in parentheses
abbrev pub is_plain : Slot → Bool
is_plain null = true
is_plain (words t) = true
is_plain (number_of e) = true
is_plain syntax.children = true
is_plain (repeated x e m s) = true
is_plain (choice e s t) = true
is_plain s = false

abbrev pub PlainL : ℕ → Slot → List Kind → Type 0
PlainL n s p = (is_plain s ≡ true) × SlotL of_slot n s p

abbrev Null : Slot → List Kind → Type 0
Null s p = (s ≡ null) × (p ≡ Word word.Null ∷ [])

abbrev Words : Slot → List Kind → Type 0
Words s p = (t : List ℕ) × (s ≡ words t) × (p ≡ Text t ∷ [])

abbrev Children : Slot → List Kind → Type 0
Children s p = (s ≡ syntax.children) × (p ≡ Word word.Children ∷ [])

abbrev Repeated : ℕ → Slot → List Kind → Type 0
Repeated n s p = (x : Name) × (e : Expr) × (m : ℕ) × (t : Slot) × (s ≡ repeated x e m t) × SlotL of_slot n (repeated x e m t) p

abbrev Choice : ℕ → Expr → Slot → List Kind → Type 0
Choice n c s p = (a : Slot) × (b : Slot) × (s ≡ choice c a b) × (0 < n) × SlotFits a of_slot (n - 1) × SlotFits b of_slot (n - 1) × (p ≡ Mark sign.Question ∷ (slot_tokens a ++ Mark sign.Colon ∷ slot_tokens b))

abbrev Shown : ℕ → Slot → List Kind → Type 0
Shown n = Then (ExprL or_line n) (λ c. Or (Choice n c) (λ s q. (s ≡ number_of c) × (q ≡ [])))

shown_begins : (n : ℕ) (s : Slot) (p : List Kind) → Shown n s p → (k : Kind) × (v : List Kind) × (p ≡ k ∷ v) × (begins_operand k ≡ true)
shown_begins n s p (c, u, v, e, l, m) = let w = expr_begins c in (w.0, w.1 ++ v, e ∙ ap (λ z. z ++ v) (l.1 ∙ w.2), w.3)

shown_misses : (f : Kind → Bool) → ((k : Kind) → begins_operand k ≡ true → f k ≡ false) → (n : ℕ) → Misses f (Shown n)
shown_misses f other n s p l = let w = shown_begins n s p l in (w.0, w.1, w.2, other w.0 w.3)

-- what stands behind each test
abbrev AtFor : ℕ → Slot → List Kind → Type 0
AtFor n = Or (Repeated n) (Shown n)

abbrev AtChildren : ℕ → Slot → List Kind → Type 0
AtChildren n = Or Children (AtFor n)

abbrev AtText : ℕ → Slot → List Kind → Type 0
AtText n = Or Words (AtChildren n)

plain_to : (n : ℕ) (s : Slot) (p : List Kind) → Or Null (AtText n) s p → PlainL n s p
plain_to n s p (inl (made, e)) = subst (λ z. PlainL n z p) (sym made) (refl, (refl, e))
plain_to n s p (inr (inl (t, made, e))) = subst (λ z. PlainL n z p) (sym made) (refl, (refl, e))
plain_to n s p (inr (inr (inl (made, e)))) = subst (λ z. PlainL n z p) (sym made) (refl, (refl, e))
plain_to n s p (inr (inr (inr (inl (x, e, m, t, made, l))))) = subst (λ z. PlainL n z p) (sym made) (refl, l)
plain_to n s p (inr (inr (inr (inr (c, u, v, e, l, inl (a, b, made, left, fa, fb, w)))))) =
    subst (λ z. PlainL n z p) (sym made) (refl, ((refl, l.0, left, fa, fb), e ∙ (λ i. l.1 i ++ w i)))
plain_to n s p (inr (inr (inr (inr (c, u, v, e, l, inr (made, nil)))))) =
    subst (λ z. PlainL n z p) (sym made) (refl, ((refl, l.0), e ∙ (ap (λ z. u ++ z) nil ∙ (append-nil u ∙ l.1))))

plain_back : (n : ℕ) (s : Slot) (p : List Kind) → PlainL n s p → Or Null (AtText n) s p
plain_back n null p (is, l) = inl (refl, l.1)
plain_back n (words t) p (is, l) = inr (inl (t, refl, l.1))
plain_back n (number_of e) p (is, l) = inr (inr (inr (inr (e, expr_tokens e, [], l.1 ∙ sym (append-nil (expr_tokens e)), (l.0.1, refl), inr (refl, refl)))))
plain_back n syntax.children p (is, l) = inr (inr (inl (refl, l.1)))
plain_back n (repeated x e m s) p (is, l) = inr (inr (inr (inl (x, e, m, s, refl, l))))
plain_back n (choice c a b) p (is, l) =
    inr (inr (inr (inr (c, expr_tokens c, Mark sign.Question ∷ (slot_tokens a ++ Mark sign.Colon ∷ slot_tokens b), l.1, (l.0.1, refl), inl (a, b, refl, l.0.2, l.0.3, l.0.4, refl)))))
plain_back n s p (is, l) = absurd (false≢true is)

module _ (o : Option SlotInner) (n : ℕ) (lev : SlotLevel o n) where
  null_reads : Reads (λ ts. taken (as_word word.Null) ts >>= λ w. Ok (null, w.1)) Null 1 9 true
  null_reads = said Null 1 9 (after (reserved word.Null) (λ w. pure null 0) (omega arith)) (omega arith) (omega arith)
      (λ s p h. (h.4.0, h.2 ∙ ap (λ z. Word word.Null ∷ z) h.4.1)) (λ s p l. (tt, [], l.1, tt, (l.0, refl)))

  words_reads : Reads (λ ts. taken as_text ts >>= λ t. Ok (words t.0, t.1)) Words 1 9 true
  words_reads = said Words 1 9 (after quoted (λ t. pure (words t) 0) (omega arith)) (omega arith) (omega arith)
      (λ s p h. (h.0, h.4.0, h.2 ∙ ap (λ z. Text h.0 ∷ z) h.4.1)) (λ s p l. (l.0, [], l.2, tt, (l.1, refl)))

  given_reads : Reads (λ ts. taken (as_word word.Children) ts >>= λ w. Ok (syntax.children, w.1)) Children 1 9 true
  given_reads = said Children 1 9 (after (reserved word.Children) (λ w. pure syntax.children 0) (omega arith)) (omega arith) (omega arith)
      (λ s p h. (h.4.0, h.2 ∙ ap (λ z. Word word.Children ∷ z) h.4.1)) (λ s p l. (tt, [], l.1, tt, (l.0, refl)))

  repeated_reads : Reads (repeated_at o) (Repeated n) 1 9 false
  repeated_reads = inside o
      (λ i e. let g = lev.some i e in
      said (Repeated n) 1 9
      (after (reserved word.For) (λ f. after (mark sign.OpenParen) (λ p. after lower (λ x. after (mark sign.Less) (λ l. seq g.expr (λ e. after (mark sign.Comma) (λ c. after numeral (λ m. after (mark sign.CloseParen) (λ r. seq g.slot (λ s. pure (repeated x e m s) 9) (omega arith)) (omega arith)) (omega arith)) (omega arith)) (omega arith)) (omega arith)) (omega arith)) (omega arith)) (omega arith)) (omega arith) (omega arith)
      (λ s p h.
      let x = h.4.4.0 in
      let a = h.4.4.4.4 in
      let m = a.5.4.0 in
      let b = a.5.4.4.4 in
      let first = a.4.1 in
      let second = b.4.1 in
      let nil = append-nil (slot_tokens b.0) in
      (x, a.0, m, b.0, b.5.0, ((refl, g.left, a.4.0, b.4.0), cc)))
      (λ s p l.
      let f = l.5.0 in
      (tt, _, l.5.1, tt, (tt, _, refl, tt, (l.0, _, refl, tt, (tt, _, refl, tt, (l.1, expr_tokens l.1, _, refl, (f.2, refl), (tt, _, refl, tt, (l.2, _, refl, tt, (tt, slot_tokens l.3, refl, tt, (l.3, slot_tokens l.3, [], sym (append-nil (slot_tokens l.3)), (f.3, refl), (l.4, refl))))))))))))
      (λ e a p l. absurd (omega (arith, lev.none e, l.5.0.1)))

  choice_reads : (c : Expr) → Reads (slot_choice_at o c) (Choice n c) 9 9 false
  choice_reads c = inside o
      (λ i e. let g = lev.some i e in
      said (Choice n c) 9 9 (after (mark sign.Question) (λ q. seq g.slot (λ a. after (mark sign.Colon) (λ s. seq g.slot (λ b. pure (choice c a b) 9) (omega arith)) (omega arith)) (omega arith)) (omega arith)) (omega arith) (omega arith)
      (λ t p h.
      let nil = append-nil (slot_tokens h.4.5.4.0) in
      (h.4.0, h.4.5.4.0, h.4.5.4.5.0, g.left, h.4.4.0, h.4.5.4.4.0, let a = h.4.4.1 in let b = h.4.5.4.4.1 in cc))
      (λ t p l. (tt, _, l.6, tt, (l.0, slot_tokens l.0, Mark sign.Colon ∷ slot_tokens l.1, refl, (l.4, refl), (tt, slot_tokens l.1, refl, tt, (l.1, slot_tokens l.1, [], sym (append-nil (slot_tokens l.1)), (l.5, refl), (l.2, refl)))))))
      (λ e a p l. absurd (omega (arith, lev.none e, l.3)))

  shown_reads : Reads (shown_at o n) (Shown n) 1 9 true
  shown_reads = said (Shown n) 1 9
      (seq (test_reads n) (λ c. alt (is_mark sign.Question) (choice_reads c)
      (said (λ t q. (t ≡ number_of c) × (q ≡ [])) 9 9 (pure (number_of c) 9) (omega arith) (omega arith) (λ a p h. h) (λ a p h. h))
      (λ t p l. (Mark sign.Question, _, l.6, refl))
      (avoids_nothing (is_mark sign.Question) (number_of c) 9 (mark_ranked sign.Question 9 (omega arith)))) (omega arith))
      (omega arith) (omega arith) (λ a p h. h) (λ a p h. h)

  repeated_misses : (f : Kind → Bool) → f (Word word.For) ≡ false → Misses f (Repeated n)
  repeated_misses f bad s p l = (Word word.For, _, l.5.1, bad)

  pub plain_reads : Reads (plain_with o n) (PlainL n) 1 9 true
  unfolding plain_with
  plain_reads = said (PlainL n) 1 9
      (alt (is_word word.Null) null_reads
      (alt is_text words_reads
      (alt (is_word word.Children) given_reads
      (alt (is_word word.For) repeated_reads shown_reads
      (λ s p l. (Word word.For, _, l.5.1, refl))
      (avoids (is_word word.For) (Shown n) 9 (shown_misses (is_word word.For) (word_other word.For) n)))
      (λ s p l. (Word word.Children, [], l.1, refl))
      (avoids (is_word word.Children) (AtFor n) 9 (misses_or (is_word word.Children) (Repeated n) (Shown n) (repeated_misses (is_word word.Children) refl) (shown_misses (is_word word.Children) (word_other word.Children) n))))
      (λ s p l. (Text l.0, [], l.2, refl))
      (avoids is_text (AtChildren n) 9 (misses_or is_text Children (AtFor n) (λ s p l. (Word word.Children, [], l.1, refl)) (misses_or is_text (Repeated n) (Shown n) (repeated_misses is_text refl) (shown_misses is_text text_other n)))))
      (λ s p l. (Word word.Null, [], l.1, refl))
      (avoids (is_word word.Null) (AtText n) 9 (misses_or (is_word word.Null) Words (AtChildren n) (λ s p l. (Text l.0, [], l.2, refl))
      (misses_or (is_word word.Null) Children (AtFor n) (λ s p l. (Word word.Children, [], l.1, refl)) (misses_or (is_word word.Null) (Repeated n) (Shown n) (repeated_misses (is_word word.Null) refl) (shown_misses (is_word word.Null) (word_other word.Null) n))))))
      (omega arith) (omega arith) (plain_to n) (plain_back n)

  pub plain_has_token : HasToken (PlainL n)
  plain_has_token s p l = by_back (plain_back n s p l)
    where
      by_back : Or Null (AtText n) s p → 0 < length p
      by_back (inl m) = omega (arith, ap length m.1)
      by_back (inr (inl m)) = omega (arith, ap length m.2)
      by_back (inr (inr (inl m))) = omega (arith, ap length m.1)
      by_back (inr (inr (inr (inl m)))) = omega (arith, ap length m.5.1)
      by_back (inr (inr (inr (inr m)))) = let w = shown_begins n s p m in omega (arith, ap length w.2)

pub plain_avoids : (n : ℕ) (s : Slot) (p rest : List Kind) → PlainL n s p → 9 < rank rest → next_two sign.OpenParen sign.Less (p ++ rest) ≡ false
plain_avoids n null p rest l lt = ap (λ z. next_two sign.OpenParen sign.Less (z ++ rest)) l.1.1
plain_avoids n (words t) p rest l lt = ap (λ z. next_two sign.OpenParen sign.Less (z ++ rest)) l.1.1
plain_avoids n (number_of e) p rest l lt = ap (λ z. next_two sign.OpenParen sign.Less (z ++ rest)) l.1.1 ∙ expr_two e rest
plain_avoids n syntax.children p rest l lt = ap (λ z. next_two sign.OpenParen sign.Less (z ++ rest)) l.1.1
plain_avoids n (repeated x e m s) p rest l lt = ap (λ z. next_two sign.OpenParen sign.Less (z ++ rest)) l.1.1
plain_avoids n (choice c a b) p rest l lt =
    let more = Mark sign.Question ∷ (slot_tokens a ++ (Mark sign.Colon ∷ slot_tokens b)) in
    ap (λ z. next_two sign.OpenParen sign.Less (z ++ rest)) l.1.1 ∙ (ap (next_two sign.OpenParen sign.Less) (append_assoc (expr_tokens c) more rest) ∙ expr_two c (more ++ rest))
plain_avoids n s p rest l lt = absurd (false≢true l.0)

pub plain_misses_less : (n : ℕ) → Misses (is_mark sign.Less) (PlainL n)
plain_misses_less n null p l = (Word word.Null, [], l.1.1, refl)
plain_misses_less n (words t) p l = (Text t, [], l.1.1, refl)
plain_misses_less n (number_of e) p l = let w = expr_begins e in (w.0, w.1, l.1.1 ∙ w.2, other_sign sign.Less refl w.0 w.3)
plain_misses_less n syntax.children p l = (Word word.Children, [], l.1.1, refl)
plain_misses_less n (repeated x e m s) p l = (Word word.For, _, l.1.1, refl)
plain_misses_less n (choice c a b) p l =
    let w = expr_begins c in
    let more = Mark sign.Question ∷ (slot_tokens a ++ (Mark sign.Colon ∷ slot_tokens b)) in
    (w.0, w.1 ++ more, l.1.1 ∙ ap (λ z. z ++ more) w.2, other_sign sign.Less refl w.0 w.3)
plain_misses_less n s p l = absurd (false≢true l.0)

-- if no level is left, a parenthesis is a fault at once
shut_line : (k : ℕ) (u : List Kind) → line_with k None (Mark sign.OpenParen ∷ u) ≡ Err (suc (length u))
unfolding line_with operand_with
shut_line zero u = refl
shut_line (suc k) u = ap (λ r. r >>= λ x. all_of (is_operator (suc k)) (link_at (suc k) (line_with k None)) x.1 >>= λ ls. Ok (chain_of x.0 ls.0, ls.1)) (shut_line k u)

pub shut_plain : (o : Option SlotInner) (n : ℕ) → n ≡ 0 → (u : List Kind) → plain_with o n (Mark sign.OpenParen ∷ u) ≡ Err (suc (length u))
unfolding plain_with
shut_plain o n e u = ap (λ r. r >>= λ c. cond (next (is_mark sign.Question) c.1) (slot_choice_at o c.0 c.1) (Ok (number_of c.0, c.1))) (ap (λ m. line_at or_line m (Mark sign.OpenParen ∷ u)) e ∙ shut_line or_line u)

-- an element in parentheses, behind the first of these
abbrev pub EnclosedBehind : ℕ → Slot → List Kind → Type 0
EnclosedBehind n s p = (t : Slot) × (u : List Kind) × (s ≡ enclosed parentheses t) × (p ≡ u ++ Mark sign.CloseParen ∷ []) × (0 < n) × TagL (n - 1) t u

-- an element, also in parentheses, or another slot
abbrev Anyway : ℕ → Slot → List Kind → Type 0
Anyway n = Or (TagL n) (Or (Behind sign.OpenParen (EnclosedBehind n)) (PlainL n))

pub slot_to : (n : ℕ) (s : Slot) (p : List Kind) → Anyway n s p → SlotL of_slot n s p
slot_to n s p (inl l) = tag_slot of_slot n s p l
slot_to n s p (inr (inl (u, e, (t, v, made, f, left, l)))) =
    let inner = tag_slot of_element (n - 1) t v l in
    subst (λ z. SlotL of_slot n z p) (sym made) ((refl, left, inner.0), e ∙ ap (λ z. Mark sign.OpenParen ∷ z) (f ∙ ap (λ z. z ++ Mark sign.CloseParen ∷ []) inner.1))
slot_to n s p (inr (inr l)) = l.1

element_only : (t : Slot) (n : ℕ) → SlotFits t of_element n → is_element t ≡ true
element_only null n h = absurd (let b : ⊥ = cc in b)
element_only (words t) n h = absurd (let b : ⊥ = cc in b)
element_only (number_of e) n h = absurd (let e = h.0 in let b : ⊥ = cc in b)
element_only syntax.children n h = absurd (let b : ⊥ = cc in b)
element_only (repeated x e m s) n h = absurd (let e = h.0 in let b : ⊥ = cc in b)
element_only (choice c a b) n h = absurd (let e = h.0 in let b : ⊥ = cc in b)
element_only (enclosed parentheses s) n h = absurd (let e = h.0 in let b : ⊥ = cc in b)
element_only (enclosed braces s) n h = absurd (let e = h.0 in let b : ⊥ = cc in b)
element_only _ n h = refl

pub slot_back : (n : ℕ) (s : Slot) (p : List Kind) → SlotL of_slot n s p → Anyway n s p
slot_back n null p l = inr (inr (refl, l))
slot_back n (words t) p l = inr (inr (refl, l))
slot_back n (number_of e) p l = inr (inr (refl, l))
slot_back n syntax.children p l = inr (inr (refl, l))
slot_back n (repeated x e m s) p l = inr (inr (refl, l))
slot_back n (choice c a b) p l = inr (inr (refl, l))
slot_back n (enclosed parentheses t) p l =
    inr (inl (slot_tokens t ++ Mark sign.CloseParen ∷ [], l.1, (t, slot_tokens t, refl, refl, l.0.1, slot_tag of_element (n - 1) t (slot_tokens t) (element_only t (n - 1) l.0.2) (l.0.2, refl))))
slot_back n (enclosed braces t) p l = absurd (let e = l.0.0 in let b : ⊥ = cc in b)
slot_back n (syntax.host x attrs w ss) p l = inl (slot_tag of_slot n (syntax.host x attrs w ss) p refl l)
slot_back n (syntax.comp x attrs w ss) p l = inl (slot_tag of_slot n (syntax.comp x attrs w ss) p refl l)
slot_back n (syntax.boundary k s w ss) p l = inl (slot_tag of_slot n (syntax.boundary k s w ss) p refl l)
slot_back n (syntax.catcher k s w ss) p l = inl (slot_tag of_slot n (syntax.catcher k s w ss) p refl l)
slot_back n (syntax.provider x k e w ss) p l = inl (slot_tag of_slot n (syntax.provider x k e w ss) p refl l)

-- a phrase of an integer in parentheses
pub plain_begun : (n : ℕ) → 0 < n → (s : Slot) × (q : List Kind) × PlainL n s (Mark sign.OpenParen ∷ q)
plain_begun n left = (number_of (grouped (number 0)), Number 0 ∷ Mark sign.CloseParen ∷ [], (refl, ((refl, (left, tt)), refl)))

module _ (o : Option SlotInner) (n : ℕ) (lev : SlotLevel o n) where
  enclosed_reads : (i : SlotInner) → o ≡ Some i → Reads (λ ts. i.opened ts >>= λ e. sign_at sign.CloseParen e.1 >>= λ c. Ok (enclosed parentheses e.0, c.1)) (EnclosedBehind n) 5 0 false
  enclosed_reads i e =
      let g = lev.some i e in
      said (EnclosedBehind n) 5 0 (seq g.opened (λ e. after (mark sign.CloseParen) (λ c. pure (enclosed parentheses e) 0) (omega arith)) (omega arith)) (omega arith) (omega arith)
      (λ s p h. (h.0, h.1, h.5.4.0, h.3 ∙ ap (λ z. h.1 ++ z) (h.5.2 ∙ ap (λ z. Mark sign.CloseParen ∷ z) h.5.4.1), g.left, h.4))
      (λ s p l. (l.0, l.1, Mark sign.CloseParen ∷ [], l.3, l.5, (tt, [], refl, tt, (l.2, refl))))

  left_of : (i : SlotInner) → o ≡ Some i → 0 < n
  left_of i e = (lev.some i e).left

  pub slot_reads : Reads (slot_with o n) (SlotL of_slot n) 1 9 true
  unfolding slot_with
  slot_reads = said (SlotL of_slot n) 1 9
      (alt (is_mark sign.Less)
      (said (TagL n) 1 9 (tag_whole_reads o n lev) (omega arith) (omega arith) (λ a p h. h) (λ a p h. h))
      (two o sign.OpenParen sign.Less (plain_reads o n lev) (omega arith) (plain_has_token o n lev)
      (λ s p l. (Mark sign.Less, l.5.1.0 ++ Mark sign.CloseParen ∷ [], l.3 ∙ ap (λ z. z ++ Mark sign.CloseParen ∷ []) l.5.1.1, refl))
      (plain_avoids n)
      (λ i e. (enclosed_reads i e, plain_begun n (left_of i e)))
      (λ e. ((λ a p l. absurd (omega (arith, lev.none e, l.4))), shut_plain o n (lev.none e))))
      (λ s p l. (Mark sign.Less, l.1.0, l.1.1, refl))
      (avoids (is_mark sign.Less) (Or (Behind sign.OpenParen (EnclosedBehind n)) (PlainL n)) 9
      (misses_or (is_mark sign.Less) (Behind sign.OpenParen (EnclosedBehind n)) (PlainL n) (λ s p l. (Mark sign.OpenParen, l.0, l.1, refl)) (plain_misses_less n))))
      (omega arith) (omega arith) (slot_to n) (slot_back n)

pub slot_level : (n : ℕ) → SlotLevel (slot_inner n) n
slot_level zero = record { some = λ i e. absurd (let b : ⊥ = cc in b); none = λ e. refl }
slot_level (suc n) = record { some = deeper (slot_level n); none = λ e. absurd (let b : ⊥ = cc in b) }
  where
    deeper : SlotLevel (slot_inner n) n → (i : SlotInner) → slot_inner (suc n) ≡ Some i → SlotDeeper i (suc n)
    deeper lev i e =
        let S = slot_reads (slot_inner n) n lev in
        let K = children_reads (slot_inner n) n lev (slot_with (slot_inner n) n) S in
        let here : record { expr = expr_at n; slot = slot_at n; element = element_behind n; opened = element_at (slot_inner n); children = children_at n } ≡ i = cc in
        let pred : n ≡ suc n - 1 = omega arith in
        subst (λ j. SlotDeeper j (suc n)) here (record {
          left = omega arith;
          expr = subst (λ k. Reads (expr_at n) (ExprL whole_line k) 1 9 true) pred (expr_reads n);
          slot = subst (λ k. Reads (slot_at n) (SlotL of_slot k) 1 9 true) pred S;
          element = subst (λ k. Reads (element_behind n) (ElementL k) 1 0 true) pred (element_reads (slot_at n) (children_at n) n S K);
          opened = subst (λ k. Reads (element_at (slot_inner n)) (TagL k) 5 0 false) pred (tag_whole_reads (slot_inner n) n lev);
          children = subst (λ k. Reads (children_at n) (ChildrenL k) 1 0 true) pred K;
        })

-- how the loop of children turns
pub children_loop : (n : ℕ) → EndLoop (child_at (slot_inner n) (slot_at n)) close_at
children_loop n =
    let lev = slot_level n in
    let S = slot_reads (slot_inner n) n lev in
    end_loop (SlotL of_child n) Close (child_reads (slot_inner n) n lev (slot_at n) S) close_reads (child_has_token (slot_inner n) n lev (slot_at n) S)
