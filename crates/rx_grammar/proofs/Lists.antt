-- Lists with a comma between each two items.
use Rattle.std.proofs.Common.{◌≡◌, ℕ, ◌<◌, ◌≤◌, true, inl, inr, Ok, List, [], ◌∷◌, ◌++◌, refl, sym, ap, ◌∙◌, subst, append_assoc, arith}
use Rattle.rx_lex.specs.declared.token.Sign.{Sign}
use Rattle.rx_lex.specs.declared.token.Sign.TheVariants as sign
use Rattle.rx_lex.specs.declared.token.Kind.{Kind}
use Rattle.rx_lex.specs.declared.token.Kind.TheVariants.{Mark}
use Rattle.rx_grammar.specs.Steps.{Read, ◌>>=◌, is_mark, all_of}
use Rattle.rx_grammar.specs.Reading.{sign_at, behind_comma, list_to}
use Rattle.rx_grammar.proofs.Readings.{sign_rank, Reads, said}
use Rattle.rx_grammar.proofs.Combine.{pure, seq, after, alt, Then, After, Or, Misses, avoids, Always}
use Rattle.rx_grammar.proofs.Many.{Row, row, Loop, loop}
use Rattle.rx_grammar.proofs.Tokens.{mark, mark_ranked, mark_self}

-- an item behind a comma
abbrev pub Comma : {A : Type 0} → (A → List Kind → Type 0) → A → List Kind → Type 0
Comma L x p = (u : List Kind) × (p ≡ Mark sign.Comma ∷ u) × L x u

-- items with a comma between each two
abbrev pub Commas : {A : Type 0} → (A → List Kind → Type 0) → List A → List Kind → Type 0
Commas L [] p = p ≡ []
Commas L (x ∷ xs) p = (u : List Kind) × (v : List Kind) × (p ≡ u ++ v) × L x u × Row (Comma L) xs v

-- the same with the sign that closes them
abbrev pub ListTo : {A : Type 0} → Sign → (A → List Kind → Type 0) → List A → List Kind → Type 0
ListTo close L xs p = (u : List Kind) × (p ≡ u ++ Mark close ∷ []) × Commas L xs u

module _ {A : Type 0} (close : Sign) (item : List Kind → Read A) (L : A → List Kind → Type 0) (low mid : ℕ) (P : Reads item L low mid true) (least : 1 ≤ low) (small : mid < 10) (closes : 10 < sign_rank close) (misses : Misses (is_mark close) L) where
  comma_reads : Reads (behind_comma item) (Comma L) 10 mid true
  comma_reads = said (Comma L) 10 mid (after (mark sign.Comma) (λ c. P) (omega arith)) (omega arith) (omega arith)
      (λ a p h. (h.1, h.2, h.4)) (λ a p h. (tt, h.0, h.1, tt, h.2))

  others_read : Reads (all_of (is_mark sign.Comma) (behind_comma item)) (Row (Comma L)) 10 10 true
  others_read = row (is_mark sign.Comma) 10 10 comma_reads (λ a p h. (Mark sign.Comma, h.0, h.1, refl)) small (omega arith) (omega arith) (omega arith) (mark_ranked sign.Comma 10 (omega arith))

  -- an item, those behind it and the end
  abbrev SomeTo : List A → List Kind → Type 0
  SomeTo = Then L (λ x. Then (Row (Comma L)) (λ xs. After (λ (u : Unit {0}). Mark close) Always (λ u c q. (c ≡ x ∷ xs) × (q ≡ []))))

  some_reads : Reads (λ ts. item ts >>= λ x. all_of (is_mark sign.Comma) (behind_comma item) x.1 >>= λ xs. sign_at close xs.1 >>= λ s. Ok (x.0 ∷ xs.0, s.1)) SomeTo low 0 true
  some_reads = seq P (λ x. seq others_read (λ xs. after (mark close) (λ s. pure (x ∷ xs) 0) (omega arith)) closes) small

  none_reads : Reads {A = List A} (λ ts. sign_at close ts >>= λ s. Ok ([], s.1)) (After (λ (u : Unit {0}). Mark close) Always (λ u c q. (c ≡ []) × (q ≡ []))) (sign_rank close) 0 true
  none_reads = after (mark close) (λ s. pure {A = List A} [] 0) (omega arith)

  to : (xs : List A) (p : List Kind) → Or (After (λ (u : Unit {0}). Mark close) Always (λ u c q. (c ≡ []) × (q ≡ []))) SomeTo xs p → ListTo close L xs p
  to xs p (inl (s, v, e, t, (made, nil))) = subst (λ z. ListTo close L z p) (sym made) ([], e ∙ ap (λ z. Mark close ∷ z) nil, refl)
  to xs p (inr (x, u, v, e, l, (ys, w, r, g, h, (s, z, f, t, (made, nil))))) =
      let end : p ≡ (u ++ w) ++ Mark close ∷ [] =
      e ∙ ap (λ l. u ++ l) (g ∙ ap (λ l. w ++ l) (f ∙ ap (λ l. Mark close ∷ l) nil)) ∙ sym (append_assoc u w (Mark close ∷ [])) in
      subst (λ z. ListTo close L z p) (sym made) (u ++ w, end, (u, w, refl, l, h))

  back : (xs : List A) (p : List Kind) → ListTo close L xs p → Or (After (λ (u : Unit {0}). Mark close) Always (λ u c q. (c ≡ []) × (q ≡ []))) SomeTo xs p
  back [] p (u, e, nil) = inl (tt, [], e ∙ ap (λ z. z ++ Mark close ∷ []) nil, tt, (refl, refl))
  back (x ∷ xs) p (u, e, (s, t, g, l, h)) =
      inr (x, s, t ++ Mark close ∷ [], e ∙ (ap (λ z. z ++ Mark close ∷ []) g ∙ append_assoc s t (Mark close ∷ [])), l, (xs, t, Mark close ∷ [], refl, h, (tt, [], refl, tt, (refl, refl))))

  some_misses : Misses (is_mark close) SomeTo
  some_misses xs p h = let w = misses h.0 h.1 h.4 in (w.0, w.1 ++ h.2, h.3 ∙ ap (λ z. z ++ h.2) w.2, w.3)

  list_laws : Reads (list_to close item) (ListTo close L) 1 0 true
  unfolding list_to
  list_laws = said (ListTo close L) 1 0
      (alt (is_mark close)
      (said (After (λ (u : Unit {0}). Mark close) Always (λ u c q. (c ≡ []) × (q ≡ []))) 1 0 none_reads (omega arith) (omega arith) (λ a p h. h) (λ a p h. h))
      (said SomeTo 1 0 some_reads least (omega arith) (λ a p h. h) (λ a p h. h))
      (λ a p h. (Mark close, h.1, h.2, mark_self close))
      (avoids (is_mark close) SomeTo 0 some_misses))
      (omega arith) (omega arith) to back

-- a list up to and with the sign that closes it
pub list : {A : Type 0} (close : Sign) {item : List Kind → Read A} {L : A → List Kind → Type 0} {low mid : ℕ} → Reads item L low mid true → 1 ≤ low → mid < 10 → 10 < sign_rank close → Misses (is_mark close) L → Reads (list_to close item) (ListTo close L) 1 0 true
list close {item} {L} {low} {mid} P least small closes misses = list_laws close item L low mid P least small closes misses

-- how the loop of such a list turns
pub list_loop : {A : Type 0} (close : Sign) {item : List Kind → Read A} {L : A → List Kind → Type 0} {low mid : ℕ} → Reads item L low mid true → 1 ≤ low → mid < 10 → 10 < sign_rank close → Misses (is_mark close) L → Loop (is_mark sign.Comma) (behind_comma item)
list_loop close {item} {L} {low} {mid} P least small closes misses =
    loop (is_mark sign.Comma) 10 10 (comma_reads close item L low mid P least small closes misses) (λ a p h. (Mark sign.Comma, h.0, h.1, refl)) small (omega arith) (omega arith) (omega arith) (mark_ranked sign.Comma 10 (omega arith))
