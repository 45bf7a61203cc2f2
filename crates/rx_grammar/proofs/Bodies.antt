-- The laws of reading what a component returns.
use Rattle.std.proofs.Common.{◌≡◌, ℕ, ◌-◌, ◌<◌, true, false, inl, inr, Option, Ok, List, [], ◌∷◌, ◌++◌, refl, sym, ap, ◌∙◌, subst, append_assoc, append-nil, arith}
use Rattle.rx_lex.specs.declared.token.Sign.TheVariants as sign
use Rattle.rx_lex.specs.declared.token.Kind.{Kind}
use Rattle.rx_lex.specs.declared.token.Kind.TheVariants.{Mark}
use Rattle.rx_ast.specs.Syntax.{Slot, slots, slots_of, parentheses, enclosed, Body, single, fragment, enclosed_fragment}
use Rattle.rx_print.specs.Printing.{slots_tokens, fragment_tokens, body_tokens}
use Rattle.rx_print.specs.Levels.{SlotsFit, BodyFits, of_slot, of_element}
use Rattle.rx_grammar.specs.Steps.{Read, ◌>>=◌, is_mark}
use Rattle.rx_grammar.specs.Reading.{sign_at, SlotInner, plain_with, slot_inner, fragment_at, opened_body, enclosed_body_of, body_at}
use Rattle.rx_grammar.proofs.Readings.{Reads, said}
use Rattle.rx_grammar.proofs.Combine.{pure, seq, after, alt, inside, Or, avoids, misses_or}
use Rattle.rx_grammar.proofs.Tokens.{mark}
use Rattle.rx_grammar.proofs.Two.{Behind, two}
use Rattle.rx_grammar.proofs.Elements.{ElementL, TagL, ChildrenL, SlotLevel, tag_slot, slots_of-slots, element_misses}
use Rattle.rx_grammar.proofs.Slots.{PlainL, plain_reads, plain_has_token, plain_avoids, plain_misses_less, shut_plain, plain_begun, EnclosedBehind, slot_back, slot_level}

-- what a component returns, with so many levels left
abbrev pub BodyL : ℕ → Body → List Kind → Type 0
BodyL n b p = BodyFits b n × (p ≡ body_tokens b)

-- the children of a fragment behind its `<`
abbrev Fragment : ℕ → List Slot → List Kind → Type 0
Fragment n cs p = SlotsFit (slots_of cs) n × (p ≡ Mark sign.Greater ∷ (slots_tokens (slots_of cs) ++ Mark sign.Less ∷ Mark sign.Slash ∷ Mark sign.Greater ∷ []))

fragment_reads : (kids : List Kind → Read (List Slot)) (n : ℕ) → Reads kids (ChildrenL n) 1 0 true → Reads (fragment_at kids) (Fragment n) 1 0 true
fragment_reads kids n K = said (Fragment n) 1 0
    (after (mark sign.Greater) (λ g. seq K (λ cs. after (mark sign.Greater) (λ e. pure cs 0) (omega arith)) (omega arith)) (omega arith)) (omega arith) (omega arith)
    (λ cs p h.
    let made = h.4.5.4.0 in
    let ks = slots_tokens (slots_of h.4.0) in
    let tail : h.4.2 ≡ Mark sign.Greater ∷ [] = h.4.5.2 ∙ ap (λ z. Mark sign.Greater ∷ z) h.4.5.4.1 in
    let content : h.1 ≡ (ks ++ Mark sign.Less ∷ Mark sign.Slash ∷ []) ++ Mark sign.Greater ∷ [] = h.4.3 ∙ (λ i. h.4.4.1 i ++ tail i) in
    subst (λ z. Fragment n z p) (sym made) (h.4.4.0, h.2 ∙ ap (λ z. Mark sign.Greater ∷ z) (content ∙ append_assoc ks (Mark sign.Less ∷ Mark sign.Slash ∷ []) (Mark sign.Greater ∷ []))))
    (λ cs p l.
    let ks = slots_tokens (slots_of cs) in
    let close = Mark sign.Less ∷ Mark sign.Slash ∷ [] in
    (tt, _, l.1, tt, (cs, ks ++ close, Mark sign.Greater ∷ [], sym (append_assoc ks close (Mark sign.Greater ∷ [])), (l.0, refl), (tt, [], refl, tt, (refl, refl)))))

abbrev FragmentBody : ℕ → Body → List Kind → Type 0
FragmentBody n b p = (cs : List Slot) × (b ≡ fragment (slots_of cs)) × Fragment n cs p

abbrev ElementBody : ℕ → Body → List Kind → Type 0
ElementBody n b p = (s : Slot) × (b ≡ single s) × ElementL n s p

-- a body that begins with `<`
abbrev OpenedBody : ℕ → Body → List Kind → Type 0
OpenedBody n b p = (0 < n) × ((v : List Kind) × (p ≡ Mark sign.Less ∷ v) × Or (FragmentBody (n - 1)) (ElementBody (n - 1)) b v)

opened_body_reads : (o : Option SlotInner) (n : ℕ) → SlotLevel o n → Reads (opened_body o) (OpenedBody n) 5 0 false
opened_body_reads o n lev = inside o
    (λ i e. let g = lev.some i e in
    said (OpenedBody n) 5 0 (after (mark sign.Less) (λ l. alt (is_mark sign.Greater)
    (said (FragmentBody (n - 1)) 1 0 (seq (fragment_reads i.children (n - 1) g.children) (λ cs. pure (fragment (slots_of cs)) 0) (omega arith)) (omega arith) (omega arith)
    (λ b p h. (h.0, h.5.0, (h.4.0, h.3 ∙ (ap (λ z. h.1 ++ z) h.5.1 ∙ (append-nil h.1 ∙ h.4.1)))))
    (λ b p l. (l.0, p, [], sym (append-nil p), l.2, (l.1, refl))))
    (said (ElementBody (n - 1)) 1 0 (seq g.element (λ s. pure (single s) 0) (omega arith)) (omega arith) (omega arith)
    (λ b p h. (h.0, h.5.0, subst (ElementL (n - 1) h.0) (sym (h.3 ∙ (ap (λ z. h.1 ++ z) h.5.1 ∙ append-nil h.1))) h.4))
    (λ b p l. (l.0, p, [], sym (append-nil p), l.2, (l.1, refl))))
    (λ b p l. (Mark sign.Greater, _, l.2.1, refl))
    (avoids (is_mark sign.Greater) (ElementBody (n - 1)) 0 (λ b p l. element_misses sign.Greater (n - 1) l.0 p l.2))) (omega arith)) (omega arith) (omega arith)
    (λ b p h. (g.left, (h.1, h.2, h.4)))
    (λ b p l. (tt, l.1.0, l.1.1, tt, l.1.2)))
    (λ e a p l. absurd (omega (arith, lev.none e, l.0)))

-- a body in parentheses, behind the first of these
abbrev EnclosedBody : ℕ → Body → List Kind → Type 0
EnclosedBody n b p = (c : Body) × (u : List Kind) × (b ≡ enclosed_body_of c) × (p ≡ u ++ Mark sign.CloseParen ∷ []) × (0 < n) × OpenedBody (n - 1) c u

enclosed_body_reads : (n : ℕ) → 0 < n → Reads (λ ts. opened_body (slot_inner (n - 1)) ts >>= λ b. sign_at sign.CloseParen b.1 >>= λ c. Ok (enclosed_body_of b.0, c.1)) (EnclosedBody n) 5 0 false
enclosed_body_reads n left = said (EnclosedBody n) 5 0
    (seq (opened_body_reads (slot_inner (n - 1)) (n - 1) (slot_level (n - 1))) (λ b. after (mark sign.CloseParen) (λ c. pure (enclosed_body_of b) 0) (omega arith)) (omega arith)) (omega arith) (omega arith)
    (λ b p h. (h.0, h.1, h.5.4.0, h.3 ∙ ap (λ z. h.1 ++ z) (h.5.2 ∙ ap (λ z. Mark sign.CloseParen ∷ z) h.5.4.1), left, h.4))
    (λ b p l. (l.0, l.1, Mark sign.CloseParen ∷ [], l.3, l.5, (tt, [], refl, tt, (l.2, refl))))

abbrev PlainBody : ℕ → Body → List Kind → Type 0
PlainBody n b p = (s : Slot) × (b ≡ single s) × PlainL n s p

plain_body_reads : (n : ℕ) → Reads (λ ts. plain_with (slot_inner n) n ts >>= λ s. Ok (single s.0, s.1)) (PlainBody n) 1 9 true
plain_body_reads n = said (PlainBody n) 1 9
    (seq (plain_reads (slot_inner n) n (slot_level n)) (λ s. pure (single s) 9) (omega arith)) (omega arith) (omega arith)
    (λ b p h. (h.0, h.5.0, subst (PlainL n h.0) (sym (h.3 ∙ (ap (λ z. h.1 ++ z) h.5.1 ∙ append-nil h.1))) h.4))
    (λ b p l. (l.0, p, [], sym (append-nil p), l.2, (l.1, refl)))

abbrev Anyway : ℕ → Body → List Kind → Type 0
Anyway n = Or (OpenedBody n) (Or (Behind sign.OpenParen (EnclosedBody n)) (PlainBody n))

opened_to : (n : ℕ) (b : Body) (p : List Kind) → OpenedBody n b p → BodyL n b p
opened_to n b p (left, (v, e, inl (cs, made, f))) = subst (λ z. BodyL n z p) (sym made) ((left, f.0), e ∙ ap (λ z. Mark sign.Less ∷ z) f.1)
opened_to n b p (left, (v, e, inr (s, made, l))) =
    let w = tag_slot of_slot n s p (left, (v, e, l)) in
    subst (λ z. BodyL n z p) (sym made) w

enclosed_to : (n : ℕ) (b : Body) (p : List Kind) → Behind sign.OpenParen (EnclosedBody n) b p → BodyL n b p
enclosed_to n b p (u, e, (c, v, made, f, left, (more, (w, g, inl (cs, is, l))))) =
    let two_less : n - 1 - 1 ≡ n - 2 = omega arith in
    let body : b ≡ enclosed_fragment (slots_of cs) = made ∙ ap enclosed_body_of is in
    let inner : v ≡ fragment_tokens (slots_of cs) = g ∙ ap (λ z. Mark sign.Less ∷ z) l.1 in
    subst (λ z. BodyL n z p) (sym body) ((omega arith, subst (SlotsFit (slots_of cs)) two_less l.0), e ∙ ap (λ z. Mark sign.OpenParen ∷ z) (f ∙ ap (λ z. z ++ Mark sign.CloseParen ∷ []) inner))
enclosed_to n b p (u, e, (c, v, made, f, left, (more, (w, g, inr (s, is, l))))) =
    let body : b ≡ single (enclosed parentheses s) = made ∙ ap enclosed_body_of is in
    let inner = tag_slot of_element (n - 1) s v (more, (w, g, l)) in
    subst (λ z. BodyL n z p) (sym body) ((refl, left, inner.0), e ∙ ap (λ z. Mark sign.OpenParen ∷ z) (f ∙ ap (λ z. z ++ Mark sign.CloseParen ∷ []) inner.1))

body_to : (n : ℕ) (b : Body) (p : List Kind) → Anyway n b p → BodyL n b p
body_to n b p (inl l) = opened_to n b p l
body_to n b p (inr (inl l)) = enclosed_to n b p l
body_to n b p (inr (inr (s, made, l))) = subst (λ z. BodyL n z p) (sym made) l.1

single_back : (n : ℕ) (s : Slot) (p : List Kind) → Or (TagL n) (Or (Behind sign.OpenParen (EnclosedBehind n)) (PlainL n)) s p → Anyway n (single s) p
single_back n s p (inl (left, (u, e, l))) = inl (left, (u, e, inr (s, refl, l)))
single_back n s p (inr (inl (u, e, (t, v, made, f, left, (more, (w, g, l)))))) = inr (inl (u, e, (single t, v, ap single made, f, left, (more, (w, g, inr (t, refl, l))))))
single_back n s p (inr (inr l)) = inr (inr (s, refl, l))

body_back : (n : ℕ) (b : Body) (p : List Kind) → BodyL n b p → Anyway n b p
body_back n (single s) p l = single_back n s p (slot_back n s p l)
body_back n (fragment ss) p l =
    let same = slots_of-slots ss in
    inl (l.0.0, (_, l.1, inl (slots ss, ap fragment (sym same), (subst (λ z. SlotsFit z (n - 1)) (sym same) l.0.1, ap (λ z. Mark sign.Greater ∷ (slots_tokens z ++ Mark sign.Less ∷ Mark sign.Slash ∷ Mark sign.Greater ∷ [])) (sym same)))))
body_back n (enclosed_fragment ss) p l =
    let same = slots_of-slots ss in
    let two_less : n - 2 ≡ n - 1 - 1 = omega arith in
    let deep : 1 < n = l.0.0 in
    let fit = subst (λ z. SlotsFit z (n - 1 - 1)) (sym same) (subst (SlotsFit ss) two_less l.0.1) in
    inr (inl (
      _,
      l.1,
      (
        fragment (slots_of (slots ss)),
        fragment_tokens ss,
        ap enclosed_fragment (sym same),
        refl,
        omega arith,
        (omega arith, (_, refl, inl (slots ss, refl, (fit, ap (λ z. Mark sign.Greater ∷ (slots_tokens z ++ Mark sign.Less ∷ Mark sign.Slash ∷ Mark sign.Greater ∷ [])) (sym same))))),
      ),
    ))

pub body_reads : (n : ℕ) → Reads (body_at n) (BodyL n) 1 9 true
unfolding body_at
body_reads n =
    let lev = slot_level n in
    said (BodyL n) 1 9
    (alt (is_mark sign.Less)
    (said (OpenedBody n) 1 9 (opened_body_reads (slot_inner n) n lev) (omega arith) (omega arith) (λ a p h. h) (λ a p h. h))
    (two (slot_inner n) sign.OpenParen sign.Less (plain_body_reads n) (omega arith)
    (λ b p l. plain_has_token (slot_inner n) n lev l.0 p l.2)
    (λ b p l. (Mark sign.Less, l.5.1.0 ++ Mark sign.CloseParen ∷ [], l.3 ∙ ap (λ z. z ++ Mark sign.CloseParen ∷ []) l.5.1.1, refl))
    (λ b p rest l lt. plain_avoids n l.0 p rest l.2 lt)
    (λ i e. let g = lev.some i e in let w = plain_begun n g.left in (enclosed_body_reads n g.left, (single w.0, w.1, (w.0, refl, w.2))))
    (λ e. ((λ a p l. absurd (omega (arith, lev.none e, l.4))), λ u. ap (λ r. r >>= λ s. Ok (single s.0, s.1)) (shut_plain (slot_inner n) n (lev.none e) u))))
    (λ b p l. (Mark sign.Less, l.1.0, l.1.1, refl))
    (avoids (is_mark sign.Less) (Or (Behind sign.OpenParen (EnclosedBody n)) (PlainBody n)) 9
    (misses_or (is_mark sign.Less) (Behind sign.OpenParen (EnclosedBody n)) (PlainBody n) (λ s p l. (Mark sign.OpenParen, l.0, l.1, refl)) (λ b p l. plain_misses_less n l.0 p l.2))))
    (omega arith) (omega arith) (body_to n) (body_back n)
