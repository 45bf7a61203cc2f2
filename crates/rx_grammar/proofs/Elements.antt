-- The laws of reading elements and child lists.
use Rattle.std.proofs.Common.{◌≡◌, ℕ, ◌-◌, ◌<◌, Bool, true, false, inl, inr, Option, Some, None, Ok, List, [], ◌∷◌, ◌++◌, length, codes, flat_map, refl, sym, ap, ◌∙◌, subst, append_assoc, append-nil, arith}
use Rattle.std.proofs.lemmas.Bool.{false≢true}
use Rattle.rx_base.specs.Values.{Name}
use Rattle.rx_lex.specs.declared.token.Keyword.{Keyword}
use Rattle.rx_lex.specs.declared.token.Keyword.TheVariants as word
use Rattle.rx_lex.specs.declared.token.Sign.{Sign}
use Rattle.rx_lex.specs.declared.token.Sign.TheVariants as sign
use Rattle.rx_lex.specs.declared.token.Kind.{Kind}
use Rattle.rx_lex.specs.declared.token.Kind.TheVariants.{Upper, Lower, Word, Mark}
use Rattle.rx_ast.specs.Syntax as syntax
use Rattle.rx_ast.specs.Syntax.{Expr, Attribute, KeyPlace, Slot, Slots, no_slots, slot, slots, slots_of, Ending, at_once, by_tag, parentheses, braces, enclosed}
use Rattle.rx_print.specs.Printing.{in_braces, given, attribute_tokens, keyed, expr_tokens, slot_tokens, slots_tokens, provider_name, content_tokens}
use Rattle.rx_print.specs.Levels.{whole_line, ExprFits, HostAttributesFit, ComponentAttributesFit, KeyFits, EndsWith, SlotFits, SlotsFit, Place, of_slot, of_child}
use Rattle.rx_grammar.specs.Steps.{Read, ◌>>=◌, next, is_mark, is_word, is_lower, taken, as_word, as_lower}
use Rattle.rx_grammar.specs.Openings.{Opening, host_tag, component_tag, boundary_tag, catcher_tag, provider_tag, element}
use Rattle.rx_grammar.specs.Reading.{sign_at, attributes_at, keyed_at, value_at, braced_slot, fallback_at, provider_at, upper_tag_at, tag_at, closing_name_at, SlotInner, close_at, end_or_element, child_at, children_with, content_at, element_with, element_at}
use Rattle.rx_grammar.proofs.Readings.{rank, Reads, said}
use Rattle.rx_grammar.proofs.Combine.{pure, seq, after, token, alt, inside, After, Or, Misses, avoids, misses_or, passed, Always, IsToken}
use Rattle.rx_grammar.proofs.Many.{Row, Step, RowTo, row_to}
use Rattle.rx_grammar.proofs.Tokens.{mark, reserved, lower, upper, lower_name, upper_name, mark_ranked}
use Rattle.rx_grammar.proofs.Exprs.{ExprL}
use Rattle.rx_grammar.proofs.Attributes.{AttributeL, attributes_reads, host_to, host_back, component_to, component_back, keyed_laws, ValueL, value_reads}

-- a slot in such a place with so many levels left
abbrev pub SlotL : Place → ℕ → Slot → List Kind → Type 0
SlotL at n s p = SlotFits s at n × (p ≡ slot_tokens s)

-- the name of an opening tag, and what is given there
abbrev pub opening_name : Opening → List Kind
opening_name (host_tag x attrs) = Lower x ∷ []
opening_name (component_tag x attrs) = Upper x ∷ []
opening_name (boundary_tag k s) = Word word.Suspense ∷ []
opening_name (catcher_tag k s) = Word word.Catch ∷ []
opening_name (provider_tag x k e) = provider_name x

abbrev pub opening_given : Opening → List Kind
opening_given (host_tag x attrs) = flat_map attribute_tokens attrs
opening_given (component_tag x attrs) = flat_map attribute_tokens attrs
opening_given (boundary_tag k s) = keyed k (given (Lower (codes "fallback")) (slot_tokens s))
opening_given (catcher_tag k s) = keyed k (given (Lower (codes "fallback")) (slot_tokens s))
opening_given (provider_tag x k e) = keyed k (given (Lower (codes "value")) (expr_tokens e))

abbrev pub OpeningFits : Opening → ℕ → Type 0
OpeningFits (host_tag x attrs) n = HostAttributesFit attrs n
OpeningFits (component_tag x attrs) n = ComponentAttributesFit attrs n
OpeningFits (boundary_tag k s) n = KeyFits k n × SlotFits s of_slot n
OpeningFits (catcher_tag k s) n = KeyFits k n × SlotFits s of_slot n
OpeningFits (provider_tag x k e) n = KeyFits k n × ExprFits e whole_line n

-- an opening tag behind its `<`
abbrev pub OpeningL : ℕ → Opening → List Kind → Type 0
OpeningL n o p = OpeningFits o n × (p ≡ opening_name o ++ opening_given o)

-- the name of a closing tag
pub closing_reads : (o : Opening) → Reads (closing_name_at o) (λ u p. p ≡ opening_name o) 1 0 true
closing_reads (host_tag x attrs) = said (λ u p. p ≡ Lower x ∷ []) 1 0 (token (lower_name x)) (omega arith) (omega arith) (λ u p h. h.0) (λ u p h. (h, tt))
closing_reads (component_tag x attrs) = said (λ u p. p ≡ Upper x ∷ []) 1 0 (token (upper_name x)) (omega arith) (omega arith) (λ u p h. h.0) (λ u p h. (h, tt))
closing_reads (boundary_tag k s) = said (λ u p. p ≡ Word word.Suspense ∷ []) 1 0 (token (reserved word.Suspense)) (omega arith) (omega arith) (λ u p h. h.0) (λ u p h. (h, tt))
closing_reads (catcher_tag k s) = said (λ u p. p ≡ Word word.Catch ∷ []) 1 0 (token (reserved word.Catch)) (omega arith) (omega arith) (λ u p h. h.0) (λ u p h. (h, tt))
closing_reads (provider_tag x k e) = said (λ u p. p ≡ provider_name x) 1 0
    (after (upper_name x) (λ n. after (mark sign.Dot) (λ d. token (reserved word.Provider)) (omega arith)) (omega arith)) (omega arith) (omega arith)
    (λ u p h. let a = h.4.4.0 in cc)
    (λ u p h. (tt, _, h, tt, (tt, _, refl, tt, (refl, tt))))

module _ (read : List Kind → Read Slot) (n : ℕ) (S : Reads read (SlotL of_slot n) 1 9 true) where
  -- a slot in braces
  abbrev BracedSlot : Slot → List Kind → Type 0
  BracedSlot s p = SlotFits s of_slot n × (p ≡ in_braces (slot_tokens s))

  pub braced_slot_reads : Reads (braced_slot read) BracedSlot 11 0 true
  braced_slot_reads = said BracedSlot 11 0
      (after (mark sign.OpenBrace) (λ s. seq S (λ e. after (mark sign.CloseBrace) (λ c. pure e 0) (omega arith)) (omega arith)) (omega arith)) (omega arith) (omega arith)
      (λ t p h. let made = h.4.5.4.0 in subst (λ z. BracedSlot z p) (sym made) (h.4.4.0, let a = h.4.4.1 in cc))
      (λ t p l. (tt, _, l.1, tt, (t, slot_tokens t, Mark sign.CloseBrace ∷ [], refl, (l.0, refl), (tt, [], refl, tt, (refl, refl)))))

  abbrev Fallback : Slot → List Kind → Type 0
  Fallback s p = SlotFits s of_slot n × (p ≡ given (Lower (codes "fallback")) (slot_tokens s))

  fallback_reads : Reads (fallback_at read) Fallback 1 0 true
  fallback_reads = said Fallback 1 0
      (after (lower_name (codes "fallback")) (λ k. after (mark sign.Equals) (λ q. braced_slot_reads) (omega arith)) (omega arith)) (omega arith) (omega arith)
      (λ t p h. (h.4.4.0, let a = h.4.4.1 in cc))
      (λ t p l. (tt, _, l.1, tt, (tt, _, refl, tt, (l.0, refl))))

  -- the tags of each kind
  abbrev ProviderBehind : Name → Opening → List Kind → Type 0
  ProviderBehind x o p = (k : KeyPlace) × (e : Expr) × (o ≡ provider_tag x k e) × KeyFits k n × ExprFits e whole_line n × (p ≡ Mark sign.Dot ∷ Word word.Provider ∷ keyed k (given (Lower (codes "value")) (expr_tokens e)))

  provider_reads : (x : Name) → Reads (provider_at n x) (ProviderBehind x) 1 1 true
  provider_reads x = said (ProviderBehind x) 1 1
      (after (mark sign.Dot) (λ d. after (reserved word.Provider) (λ w. seq (keyed_laws n (value_at n) (ValueL n) (value_reads n) (λ e p l. (Lower (codes "value"), _, l.1, refl))) (λ k. pure (provider_tag x k.0 k.1) 1) (omega arith)) (omega arith)) (omega arith)) (omega arith) (omega arith)
      (λ o p h.
      let k = h.4.4.0 in
      let l = h.4.4.4 in
      let made = h.4.4.5.0 in
      let written = l.1.1.1 in
      let whole = l.1.2 in
      let nil = append-nil h.4.4.1 in
      (k.0, k.1, made, l.0, l.1.1.0, let w : l.1.0 ≡ given (Lower (codes "value")) (expr_tokens k.1) = written in let v : h.4.4.1 ≡ keyed k.0 (given (Lower (codes "value")) (expr_tokens k.1)) = whole ∙ ap (keyed k.0) w in cc))
      (λ o p l.
      let ks = keyed l.0 (given (Lower (codes "value")) (expr_tokens l.1)) in
      (tt, _, l.5, tt, (tt, ks, refl, tt, ((l.0, l.1), ks, [], sym (append-nil ks), (l.3, (given (Lower (codes "value")) (expr_tokens l.1), (l.4, refl), refl)), (l.2, refl)))))

  abbrev ComponentBehind : Name → Opening → List Kind → Type 0
  ComponentBehind x o p = (attrs : List Attribute) × (o ≡ component_tag x attrs) × ComponentAttributesFit attrs n × (p ≡ flat_map attribute_tokens attrs)

  component_behind : (x : Name) → Reads (λ ts. attributes_at false n ts >>= λ a. Ok (component_tag x a.0, a.1)) (ComponentBehind x) 1 1 true
  component_behind x = said (ComponentBehind x) 1 1
      (seq (attributes_reads false n) (λ a. pure (component_tag x a) 1) (omega arith)) (omega arith) (omega arith)
      (λ o p h.
      let c = component_to n h.0 h.1 h.4 in
      (h.0, h.5.0, c.0, h.3 ∙ (ap (λ z. h.1 ++ z) h.5.1 ∙ (append-nil h.1 ∙ c.1))))
      (λ o p l. (l.0, p, [], sym (append-nil p), subst (Row (AttributeL false n) l.0) (sym l.3) (component_back n l.0 l.2), (l.1, refl)))

  component_avoids : (x : Name) → (o : Opening) (p rest : List Kind) → ComponentBehind x o p → 1 < rank rest → next (is_mark sign.Dot) (p ++ rest) ≡ false
  component_avoids x o p rest h lt = by_list h.0 h.3
    where
      by_list : (attrs : List Attribute) → p ≡ flat_map attribute_tokens attrs → next (is_mark sign.Dot) (p ++ rest) ≡ false
      by_list [] e = ap (λ z. next (is_mark sign.Dot) (z ++ rest)) e ∙ passed (is_mark sign.Dot) 1 (mark_ranked sign.Dot 1 (omega arith)) rest lt
      by_list (syntax.key e ∷ others) g = ap (λ z. next (is_mark sign.Dot) (z ++ rest)) g
      by_list (syntax.computed y e ∷ others) g = ap (λ z. next (is_mark sign.Dot) (z ++ rest)) g
      by_list (syntax.literal y t ∷ others) g = ap (λ z. next (is_mark sign.Dot) (z ++ rest)) g

  abbrev UpperTag : Opening → List Kind → Type 0
  UpperTag = After (λ x. Upper x) Always (λ x. Or (ProviderBehind x) (ComponentBehind x))

  upper_reads : Reads (upper_tag_at n) UpperTag 1 1 true
  upper_reads = said UpperTag 1 1
      (after upper (λ x. alt (is_mark sign.Dot)
      (said (ProviderBehind x) 1 1 (provider_reads x) (omega arith) (omega arith) (λ a p h. h) (λ a p h. h))
      (component_behind x)
      (λ o p l. (Mark sign.Dot, _, l.5, refl))
      (component_avoids x)) (omega arith)) (omega arith) (omega arith) (λ a p h. h) (λ a p h. h)

  -- the tag of a boundary, of Suspense or of errors, by its word
  abbrev FallbackTag : Keyword → (KeyPlace → Slot → Opening) → Opening → List Kind → Type 0
  FallbackTag w of o p =
      (k : KeyPlace) × (s : Slot) × (o ≡ of k s) × ((KeyFits k n × SlotFits s of_slot n) × (p ≡ Word w ∷ keyed k (given (Lower (codes "fallback")) (slot_tokens s))))

  fallback_tag_reads : (w : Keyword) (of : KeyPlace → Slot → Opening) → IsToken (as_word w) (λ u. Word w) Always 11 → Reads (λ ts. taken (as_word w) ts >>= λ u. keyed_at n (fallback_at read) u.1 >>= λ k. Ok (of k.0.0 k.0.1, k.1)) (FallbackTag w of) 1 1 true
  fallback_tag_reads w of T = said (FallbackTag w of) 1 1
      (after T (λ u. seq (keyed_laws n (fallback_at read) Fallback fallback_reads (λ e p l. (Lower (codes "fallback"), _, l.1, refl))) (λ k. pure (of k.0 k.1) 1) (omega arith)) (omega arith)) (omega arith) (omega arith)
      (λ o p h.
      let k = h.4.0 in
      let l = h.4.4 in
      let ks = given (Lower (codes "fallback")) (slot_tokens k.1) in
      let v : h.4.1 ≡ keyed k.0 ks = l.1.2 ∙ ap (keyed k.0) l.1.1.1 in
      let tail : h.1 ≡ keyed k.0 ks = h.4.3 ∙ (ap (λ z. h.4.1 ++ z) h.4.5.1 ∙ (append-nil h.4.1 ∙ v)) in
      (k.0, k.1, h.4.5.0, ((l.0, l.1.1.0), h.2 ∙ ap (λ z. Word w ∷ z) tail)))
      (λ o p l.
      let ks = given (Lower (codes "fallback")) (slot_tokens l.1) in
      (tt, _, l.3.1, tt, ((l.0, l.1), keyed l.0 ks, [], sym (append-nil (keyed l.0 ks)), (l.3.0.0, (ks, (l.3.0.1, refl), refl)), (l.2, refl))))

  abbrev HostTag : Opening → List Kind → Type 0
  HostTag o p = (x : Name) × (attrs : List Attribute) × (o ≡ host_tag x attrs) × OpeningL n (host_tag x attrs) p

  host_reads : Reads (λ ts. taken as_lower ts >>= λ x. attributes_at true n x.1 >>= λ a. Ok (host_tag x.0 a.0, a.1)) HostTag 1 1 true
  host_reads = said HostTag 1 1
      (after lower (λ x. seq (attributes_reads true n) (λ a. pure (host_tag x a) 1) (omega arith)) (omega arith)) (omega arith) (omega arith)
      (λ o p h.
      let c = host_to n h.4.0 h.4.1 h.4.4 in
      (h.0, h.4.0, h.4.5.0, (c.0, h.2 ∙ ap (λ z. Lower h.0 ∷ z) (h.4.3 ∙ (ap (λ z. h.4.1 ++ z) h.4.5.1 ∙ (append-nil h.4.1 ∙ c.1))))))
      (λ o p l.
      let ks = flat_map attribute_tokens l.1 in
      (l.0, ks, l.3.1, tt, (l.1, ks, [], sym (append-nil ks), host_back n l.1 l.3.0, (l.2, refl))))

  abbrev AnyTag : Opening → List Kind → Type 0
  AnyTag = Or (FallbackTag word.Suspense boundary_tag) (Or (FallbackTag word.Catch catcher_tag) (Or HostTag UpperTag))

  tag_to : (o : Opening) (p : List Kind) → AnyTag o p → OpeningL n o p
  tag_to o p (inl (k, s, made, l)) = subst (λ z. OpeningL n z p) (sym made) l
  tag_to o p (inr (inl (k, s, made, l))) = subst (λ z. OpeningL n z p) (sym made) l
  tag_to o p (inr (inr (inl (x, attrs, made, l)))) = subst (λ z. OpeningL n z p) (sym made) l
  tag_to o p (inr (inr (inr (x, v, e, t, inl (k, a, made, fk, fe, w))))) = subst (λ z. OpeningL n z p) (sym made) ((fk, fe), e ∙ ap (λ z. Upper x ∷ z) w)
  tag_to o p (inr (inr (inr (x, v, e, t, inr (attrs, made, f, w))))) = subst (λ z. OpeningL n z p) (sym made) (f, e ∙ ap (λ z. Upper x ∷ z) w)

  tag_back : (o : Opening) (p : List Kind) → OpeningL n o p → AnyTag o p
  tag_back (host_tag x attrs) p l = inr (inr (inl (x, attrs, refl, l)))
  tag_back (component_tag x attrs) p l = inr (inr (inr (x, flat_map attribute_tokens attrs, l.1, tt, inr (attrs, refl, l.0, refl))))
  tag_back (boundary_tag k s) p l = inl (k, s, refl, l)
  tag_back (catcher_tag k s) p l = inr (inl (k, s, refl, l))
  tag_back (provider_tag x k e) p l = inr (inr (inr (x, Mark sign.Dot ∷ Word word.Provider ∷ keyed k (given (Lower (codes "value")) (expr_tokens e)), l.1, tt, inl (k, e, refl, l.0.0, l.0.1, refl))))

  word_misses : (w : Keyword) → Misses (is_word w) (Or HostTag UpperTag)
  word_misses w o p (inl (x, attrs, made, l)) = (Lower x, _, l.1, refl)
  word_misses w o p (inr (x, v, e, t, l)) = (Upper x, v, e, refl)

  pub tag_reads : Reads (tag_at read n) (OpeningL n) 1 1 true
  unfolding tag_at
  tag_reads = said (OpeningL n) 1 1
      (alt (is_word word.Suspense) (fallback_tag_reads word.Suspense boundary_tag (reserved word.Suspense))
      (alt (is_word word.Catch) (fallback_tag_reads word.Catch catcher_tag (reserved word.Catch))
      (alt is_lower host_reads upper_reads
      (λ o p l. (Lower l.0, _, l.3.1, refl))
      (avoids is_lower UpperTag 1 (λ o p l. (Upper l.0, l.1, l.2, refl))))
      (λ o p l. (Word word.Catch, _, l.3.1, refl))
      (avoids (is_word word.Catch) (Or HostTag UpperTag) 1 (word_misses word.Catch)))
      (λ o p l. (Word word.Suspense, _, l.3.1, refl))
      (avoids (is_word word.Suspense) (Or (FallbackTag word.Catch catcher_tag) (Or HostTag UpperTag)) 1
      (misses_or (is_word word.Suspense) (FallbackTag word.Catch catcher_tag) (Or HostTag UpperTag) (λ o p l. (Word word.Catch, _, l.3.1, refl)) (word_misses word.Suspense))))
      (omega arith) (omega arith) tag_to tag_back

-- `</`
abbrev pub Close : List Kind → Type 0
Close p = p ≡ Mark sign.Less ∷ Mark sign.Slash ∷ []

pub close_reads : Reads close_at (λ u p. Close p) 1 0 true
close_reads = said (λ u p. Close p) 1 0
    (after (mark sign.Less) (λ l. token (mark sign.Slash)) (omega arith)) (omega arith) (omega arith)
    (λ u p h. h.2 ∙ ap (λ z. Mark sign.Less ∷ z) h.4.0)
    (λ u p h. (tt, Mark sign.Slash ∷ [], h, tt, (refl, tt)))

-- children up to and with `</`
abbrev pub ChildrenL : ℕ → List Slot → List Kind → Type 0
ChildrenL n ss p = SlotsFit (slots_of ss) n × (p ≡ slots_tokens (slots_of ss) ++ Mark sign.Less ∷ Mark sign.Slash ∷ [])

-- an element behind its `<`
abbrev pub ElementL : ℕ → Slot → List Kind → Type 0
ElementL n s p = (o : Opening) × (w : Ending) × (ss : Slots) × (s ≡ element o w ss) × OpeningFits o n × EndsWith w ss × SlotsFit ss n × (p ≡ opening_name o ++ (opening_given o ++ content_tokens w (slots_tokens ss) (opening_name o)))

pub slots_of-slots : (ss : Slots) → slots_of (slots ss) ≡ ss
slots_of-slots no_slots = refl
slots_of-slots (slot s ss) = ap (slot s) (slots_of-slots ss)

module _ (kids : List Kind → Read (List Slot)) (n : ℕ) (K : Reads kids (ChildrenL n) 1 0 true) where
  -- what stands behind an opening tag
  abbrev Content : Opening → Slot → List Kind → Type 0
  Content o s p = (w : Ending) × (ss : Slots) × (s ≡ element o w ss) × EndsWith w ss × SlotsFit ss n × (p ≡ content_tokens w (slots_tokens ss) (opening_name o))

  abbrev AtOnce : Opening → Slot → List Kind → Type 0
  AtOnce o s p = (s ≡ element o at_once no_slots) × (p ≡ Mark sign.Slash ∷ Mark sign.Greater ∷ [])

  at_once_reads : (o : Opening) → Reads (λ ts. sign_at sign.Slash ts >>= λ s. sign_at sign.Greater s.1 >>= λ g. Ok (element o at_once no_slots, g.1)) (AtOnce o) 3 0 true
  at_once_reads o = said (AtOnce o) 3 0
      (after (mark sign.Slash) (λ s. after (mark sign.Greater) (λ g. pure (element o at_once no_slots) 0) (omega arith)) (omega arith)) (omega arith) (omega arith)
      (λ s p h. (h.4.4.0, cc))
      (λ s p l. (tt, _, l.1, tt, (tt, [], refl, tt, (l.0, refl))))

  abbrev ByTag : Opening → Slot → List Kind → Type 0
  ByTag o s p = (ss : Slots) × (s ≡ element o by_tag ss) × SlotsFit ss n × (p ≡ content_tokens by_tag (slots_tokens ss) (opening_name o))

  by_tag_reads : (o : Opening) → Reads (λ ts. sign_at sign.Greater ts >>= λ g. kids g.1 >>= λ cs. closing_name_at o cs.1 >>= λ n. sign_at sign.Greater n.1 >>= λ e. Ok (element o by_tag (slots_of cs.0), e.1)) (ByTag o) 3 0 true
  by_tag_reads o = said (ByTag o) 3 0
      (after (mark sign.Greater) (λ g. seq K (λ cs. seq (closing_reads o) (λ u. after (mark sign.Greater) (λ e. pure (element o by_tag (slots_of cs)) 0) (omega arith)) (omega arith)) (omega arith)) (omega arith)) (omega arith) (omega arith)
      (λ s p h.
      let cs = slots_tokens (slots_of h.4.0) in
      let name = opening_name o in
      let last : h.4.5.2 ≡ Mark sign.Greater ∷ [] = h.4.5.5.2 ∙ ap (λ z. Mark sign.Greater ∷ z) h.4.5.5.4.1 in
      let behind : h.4.2 ≡ name ++ Mark sign.Greater ∷ [] = h.4.5.3 ∙ (λ i. h.4.5.4 i ++ last i) in
      let content : h.1 ≡ (cs ++ Mark sign.Less ∷ Mark sign.Slash ∷ []) ++ (name ++ Mark sign.Greater ∷ []) = h.4.3 ∙ (λ i. h.4.4.1 i ++ behind i) in
      (slots_of h.4.0, h.4.5.5.4.0, h.4.4.0, h.2 ∙ ap (λ z. Mark sign.Greater ∷ z) (content ∙ append_assoc cs (Mark sign.Less ∷ Mark sign.Slash ∷ []) (name ++ Mark sign.Greater ∷ []))))
      (λ s p l.
      let same = slots_of-slots l.0 in
      let made : s ≡ element o by_tag (slots_of (slots l.0)) = l.1 ∙ ap (element o by_tag) (sym same) in
      let cs = slots_tokens l.0 in
      let close = Mark sign.Less ∷ Mark sign.Slash ∷ [] in
      let name = opening_name o in (
        tt,
        _,
        l.3,
        tt,
        (
          slots l.0,
          cs ++ close,
          name ++ Mark sign.Greater ∷ [],
          sym (append_assoc cs close (name ++ Mark sign.Greater ∷ [])),
          (subst (λ z. SlotsFit z n) (sym same) l.2, ap (λ z. slots_tokens z ++ Mark sign.Less ∷ Mark sign.Slash ∷ []) (sym same)),
          (tt, name, Mark sign.Greater ∷ [], refl, refl, (tt, [], refl, tt, (made, refl))),
        ),
      ))

  content_to : (o : Opening) (s : Slot) (p : List Kind) → Or (AtOnce o) (ByTag o) s p → Content o s p
  content_to o s p (inl (made, e)) = (at_once, no_slots, made, refl, tt, e)
  content_to o s p (inr (ss, made, fit, e)) = (by_tag, ss, made, tt, fit, e)

  content_back : (o : Opening) (s : Slot) (p : List Kind) → Content o s p → Or (AtOnce o) (ByTag o) s p
  content_back o s p (at_once, ss, made, none, fit, e) = inl (made ∙ ap (element o at_once) none, e)
  content_back o s p (by_tag, ss, made, none, fit, e) = inr (ss, made, fit, e)

  content_reads : (o : Opening) → Reads (content_at kids o) (Content o) 3 0 true
  unfolding content_at
  content_reads o = said (Content o) 3 0
      (alt (is_mark sign.Slash) (at_once_reads o) (by_tag_reads o)
      (λ s p l. (Mark sign.Slash, _, l.1, refl))
      (avoids (is_mark sign.Slash) (ByTag o) 0 (λ s p l. (Mark sign.Greater, _, l.3, refl))))
      (omega arith) (omega arith) (content_to o) (content_back o)

-- an element behind its `<`
pub element_reads : (read : List Kind → Read Slot) (kids : List Kind → Read (List Slot)) (n : ℕ) → Reads read (SlotL of_slot n) 1 9 true → Reads kids (ChildrenL n) 1 0 true → Reads (element_with read kids n) (ElementL n) 1 0 true
unfolding element_with
element_reads read kids n S K = said (ElementL n) 1 0
    (seq (tag_reads read n S) (λ o. content_reads kids n K o) (omega arith)) (omega arith) (omega arith)
    (λ s p h.
    let o = h.0 in
    let m = h.5 in
    (o, m.0, m.1, m.2, h.4.0, m.3, m.4, h.3 ∙ ((λ i. h.4.1 i ++ m.5 i) ∙ append_assoc (opening_name o) (opening_given o) (content_tokens m.0 (slots_tokens m.1) (opening_name o)))))
    (λ s p l.
    let o = l.0 in
    let rest = content_tokens l.1 (slots_tokens l.2) (opening_name o) in
    (o, opening_name o ++ opening_given o, rest, l.7 ∙ sym (append_assoc (opening_name o) (opening_given o) rest), (l.4, refl), (l.1, l.2, l.3, l.5, l.6, refl)))

-- an element
abbrev pub TagL : ℕ → Slot → List Kind → Type 0
TagL n s p = (0 < n) × ((u : List Kind) × (p ≡ Mark sign.Less ∷ u) × ElementL (n - 1) s u)

-- what is read one level further in
pub record SlotDeeper (i : SlotInner) (n : ℕ) : Type 0 where
  pub left : 0 < n
  pub expr : Reads i.expr (ExprL whole_line (n - 1)) 1 9 true
  pub slot : Reads i.slot (SlotL of_slot (n - 1)) 1 9 true
  pub element : Reads i.element (ElementL (n - 1)) 1 0 true
  pub opened : Reads i.opened (TagL (n - 1)) 5 0 false
  pub children : Reads i.children (ChildrenL (n - 1)) 1 0 true

-- so many levels are left
pub record SlotLevel (o : Option SlotInner) (n : ℕ) : Type 0 where
  pub some : (i : SlotInner) → o ≡ Some i → SlotDeeper i n
  pub none : o ≡ None → n ≡ 0

pub tag_whole_reads : (o : Option SlotInner) (n : ℕ) → SlotLevel o n → Reads (element_at o) (TagL n) 5 0 false
tag_whole_reads o n lev = inside o
    (λ i e. let g = lev.some i e in
    said (TagL n) 5 0 (after (mark sign.Less) (λ l. g.element) (omega arith)) (omega arith) (omega arith)
    (λ s p h. (g.left, (h.1, h.2, h.4)))
    (λ s p l. (tt, l.1.0, l.1.1, tt, l.1.2)))
    (λ e a p l. absurd (omega (arith, lev.none e, l.0)))

opening_slot : (at : Place) (n : ℕ) (o : Opening) (w : Ending) (ss : Slots) → 0 < n → OpeningFits o (n - 1) → EndsWith w ss → SlotsFit ss (n - 1) → SlotL at n (element o w ss) (Mark sign.Less ∷ (opening_name o ++ (opening_given o ++ content_tokens w (slots_tokens ss) (opening_name o))))
opening_slot at n (host_tag x attrs) w ss left f e s = ((left, f, e, s), refl)
opening_slot at n (component_tag x attrs) w ss left f e s = ((left, f, e, s), refl)
opening_slot at n (boundary_tag k t) w ss left f e s = ((left, f.0, f.1, e, s), refl)
opening_slot at n (catcher_tag k t) w ss left f e s = ((left, f.0, f.1, e, s), refl)
opening_slot at n (provider_tag x k t) w ss left f e s = ((left, f.0, f.1, e, s), refl)

-- an element stands in each place
pub tag_slot : (at : Place) (n : ℕ) (s : Slot) (p : List Kind) → TagL n s p → SlotL at n s p
tag_slot at n s p (left, (u, e, (o, w, ss, made, fo, fe, fs, f))) =
    let l = opening_slot at n o w ss left fo fe fs in
    subst (λ z. SlotL at n z p) (sym made) (l.0, e ∙ (ap (λ z. Mark sign.Less ∷ z) f ∙ l.1))

-- whether a slot is an element
abbrev pub is_element : Slot → Bool
is_element (syntax.host x attrs w ss) = true
is_element (syntax.comp x attrs w ss) = true
is_element (syntax.boundary k s w ss) = true
is_element (syntax.catcher k s w ss) = true
is_element (syntax.provider x k e w ss) = true
is_element s = false

pub slot_tag : (at : Place) (n : ℕ) (s : Slot) (p : List Kind) → is_element s ≡ true → SlotL at n s p → TagL n s p
slot_tag at n (syntax.host x attrs w ss) p is l = (l.0.0, (_, l.1, (host_tag x attrs, w, ss, refl, l.0.1, l.0.2, l.0.3, refl)))
slot_tag at n (syntax.comp x attrs w ss) p is l = (l.0.0, (_, l.1, (component_tag x attrs, w, ss, refl, l.0.1, l.0.2, l.0.3, refl)))
slot_tag at n (syntax.boundary k s w ss) p is l = (l.0.0, (_, l.1, (boundary_tag k s, w, ss, refl, (l.0.1, l.0.2), l.0.3, l.0.4, refl)))
slot_tag at n (syntax.catcher k s w ss) p is l = (l.0.0, (_, l.1, (catcher_tag k s, w, ss, refl, (l.0.1, l.0.2), l.0.3, l.0.4, refl)))
slot_tag at n (syntax.provider x k e w ss) p is l = (l.0.0, (_, l.1, (provider_tag x k e, w, ss, refl, (l.0.1, l.0.2), l.0.3, l.0.4, refl)))
slot_tag at n s p is l = absurd (false≢true is)

pub element_misses : (s : Sign) (n : ℕ) → Misses (is_mark s) (ElementL n)
element_misses s n t p (o, w, ss, made, fo, fe, fs, e) = by_opening o e
  where
    by_opening : (o : Opening) → p ≡ opening_name o ++ (opening_given o ++ content_tokens w (slots_tokens ss) (opening_name o)) → (k : Kind) × (v : List Kind) × (p ≡ k ∷ v) × (is_mark s k ≡ false)
    by_opening (host_tag x attrs) e = (Lower x, _, e, refl)
    by_opening (component_tag x attrs) e = (Upper x, _, e, refl)
    by_opening (boundary_tag k t) e = (Word word.Suspense, _, e, refl)
    by_opening (catcher_tag k t) e = (Word word.Catch, _, e, refl)
    by_opening (provider_tag x k t) e = (Upper x, _, e, refl)

module _ (o : Option SlotInner) (n : ℕ) (lev : SlotLevel o n) (read : List Kind → Read Slot) (S : Reads read (SlotL of_slot n) 1 9 true) where
  -- behind the `<` of a child list
  abbrev Ended : Option Slot → List Kind → Type 0
  Ended x p = (x ≡ None) × (p ≡ Mark sign.Slash ∷ [])

  abbrev Opened : Option Slot → List Kind → Type 0
  Opened x p = (s : Slot) × (x ≡ Some s) × (0 < n) × ElementL (n - 1) s p

  end_or_element_reads : Reads (end_or_element o) (Or Ended Opened) 1 0 true
  end_or_element_reads = alt (is_mark sign.Slash)
      (said Ended 1 0 (after (mark sign.Slash) (λ s. pure {A = Option Slot} None 0) (omega arith)) (omega arith) (omega arith)
      (λ x p h. (h.4.0, h.2 ∙ ap (λ z. Mark sign.Slash ∷ z) h.4.1)) (λ x p l. (tt, [], l.1, tt, (l.0, refl))))
      (inside o
      (λ i e. let g = lev.some i e in
      said Opened 1 0 (seq g.element (λ s. pure {A = Option Slot} (Some s) 0) (omega arith)) (omega arith) (omega arith)
      (λ x p h. (h.0, h.5.0, g.left, subst (ElementL (n - 1) h.0) (sym (h.3 ∙ (ap (λ z. h.1 ++ z) h.5.1 ∙ append-nil h.1))) h.4))
      (λ x p l. (l.0, p, [], sym (append-nil p), l.3, (l.1, refl))))
      (λ e a p l. absurd (omega (arith, lev.none e, l.2))))
      (λ x p l. (Mark sign.Slash, [], l.1, refl))
      (avoids (is_mark sign.Slash) Opened 0 (λ x p l. element_misses sign.Slash (n - 1) l.0 p l.3))

  abbrev BracedChild : Option Slot → List Kind → Type 0
  BracedChild x p = (s : Slot) × (x ≡ Some (enclosed braces s)) × SlotL of_child n (enclosed braces s) p

  abbrev BehindLess : Option Slot → List Kind → Type 0
  BehindLess = After (λ (u : Unit {0}). Mark sign.Less) Always (λ u. Or Ended Opened)

  child_to : (x : Option Slot) (p : List Kind) → Or BracedChild BehindLess x p → Step (SlotL of_child n) Close x p
  child_to x p (inl (s, made, l)) = subst (λ z. Step (SlotL of_child n) Close z p) (sym made) l
  child_to x p (inr (u, v, e, t, inl (made, f))) = subst (λ z. Step (SlotL of_child n) Close z p) (sym made) (e ∙ ap (λ z. Mark sign.Less ∷ z) f)
  child_to x p (inr (u, v, e, t, inr (s, made, left, l))) = subst (λ z. Step (SlotL of_child n) Close z p) (sym made) (tag_slot of_child n s p (left, (v, e, l)))

  tag_child : (s : Slot) (p : List Kind) → TagL n s p → Or BracedChild BehindLess (Some s) p
  tag_child s p (left, (u, e, l)) = inr (tt, u, e, tt, inr (s, refl, left, l))

  child_back : (x : Option Slot) (p : List Kind) → Step (SlotL of_child n) Close x p → Or BracedChild BehindLess x p
  child_back None p e = inr (tt, _, e, tt, inl (refl, refl))
  child_back (Some (enclosed braces s)) p l = inl (s, refl, l)
  child_back (Some (enclosed parentheses s)) p l = absurd (let e = l.0.0 in let b : ⊥ = cc in b)
  child_back (Some syntax.null) p l = absurd (let e = l.0 in let b : ⊥ = cc in b)
  child_back (Some (syntax.words t)) p l = absurd (let e = l.0 in let b : ⊥ = cc in b)
  child_back (Some (syntax.number_of e)) p l = absurd (let e = l.0.0 in let b : ⊥ = cc in b)
  child_back (Some syntax.children) p l = absurd (let e = l.0 in let b : ⊥ = cc in b)
  child_back (Some (syntax.repeated x e m s)) p l = absurd (let e = l.0.0 in let b : ⊥ = cc in b)
  child_back (Some (syntax.choice e s t)) p l = absurd (let e = l.0.0 in let b : ⊥ = cc in b)
  child_back (Some (syntax.host x attrs w ss)) p l = tag_child _ p (slot_tag of_child n (syntax.host x attrs w ss) p refl l)
  child_back (Some (syntax.comp x attrs w ss)) p l = tag_child _ p (slot_tag of_child n (syntax.comp x attrs w ss) p refl l)
  child_back (Some (syntax.boundary k s w ss)) p l = tag_child _ p (slot_tag of_child n (syntax.boundary k s w ss) p refl l)
  child_back (Some (syntax.catcher k s w ss)) p l = tag_child _ p (slot_tag of_child n (syntax.catcher k s w ss) p refl l)
  child_back (Some (syntax.provider x k e w ss)) p l = tag_child _ p (slot_tag of_child n (syntax.provider x k e w ss) p refl l)

  pub child_reads : Reads (child_at o read) (Step (SlotL of_child n) Close) 1 0 true
  unfolding child_at
  child_reads = said (Step (SlotL of_child n) Close) 1 0
      (alt (is_mark sign.OpenBrace)
      (said BracedChild 1 0 (seq (braced_slot_reads read n S) (λ s. pure {A = Option Slot} (Some (enclosed braces s)) 0) (omega arith)) (omega arith) (omega arith)
      (λ x p h. (h.0, h.5.0, ((refl, h.4.0), h.3 ∙ (ap (λ z. h.1 ++ z) h.5.1 ∙ (append-nil h.1 ∙ h.4.1)))))
      (λ x p l. (l.0, p, [], sym (append-nil p), (l.2.0.1, l.2.1), (l.1, refl))))
      (said BehindLess 1 0 (after (mark sign.Less) (λ l. end_or_element_reads) (omega arith)) (omega arith) (omega arith) (λ a p h. h) (λ a p h. h))
      (λ x p l. (Mark sign.OpenBrace, _, l.2.1, refl))
      (avoids (is_mark sign.OpenBrace) BehindLess 0 (λ x p l. (Mark sign.Less, l.1, l.2, refl))))
      (omega arith) (omega arith) child_to child_back

  pub child_has_token : (s : Slot) (p : List Kind) → SlotL of_child n s p → 0 < length p
  child_has_token s p l = by_back (child_back (Some s) p l)
    where
      by_back : Or BracedChild BehindLess (Some s) p → 0 < length p
      by_back (inl (t, made, m)) = omega (arith, ap length m.1)
      by_back (inr (u, v, e, t, m)) = omega (arith, ap length e)

  kids_to : (ss : List Slot) (p : List Kind) → RowTo (SlotL of_child n) Close ss p → ChildrenL n ss p
  kids_to [] p e = (tt, e)
  kids_to (s ∷ ss) p (u, v, e, l, h) =
      let others = kids_to ss v h in
      ((l.0, others.0), e ∙ ((λ i. l.1 i ++ others.1 i) ∙ sym (append_assoc (slot_tokens s) (slots_tokens (slots_of ss)) (Mark sign.Less ∷ Mark sign.Slash ∷ []))))

  kids_back : (ss : List Slot) (p : List Kind) → ChildrenL n ss p → RowTo (SlotL of_child n) Close ss p
  kids_back [] p l = l.1
  kids_back (s ∷ ss) p l =
      let close = Mark sign.Less ∷ Mark sign.Slash ∷ [] in
      (slot_tokens s, slots_tokens (slots_of ss) ++ close, l.1 ∙ append_assoc (slot_tokens s) (slots_tokens (slots_of ss)) close, (l.0.0, refl), kids_back ss _ (l.0.1, refl))

  pub children_reads : Reads (children_with o read) (ChildrenL n) 1 0 true
  children_reads = said (ChildrenL n) 1 0 (row_to (SlotL of_child n) Close child_reads close_reads child_has_token) (omega arith) (omega arith) kids_to kids_back
