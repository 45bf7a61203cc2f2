-- Tokens that tell which numbers are tokens.
use Rattle.std.proofs.Common.{◌≡◌, ℕ, ◌+◌, ◌<◌, ◌≤◌, ◌^◌, Bool, true, false, ◌&&◌, List, [], ◌∷◌, ◌++◌, length, refl, sym, ap, ◌∙◌, subst, append_assoc, arith, lit<, lit≤, length-append, ◌⊎◌, inl, inr, ⊎_elim}
use Rattle.rx_lex.specs.declared.token.Kind.{Kind}
use Rattle.rx_lex.specs.declared.token.Kind.TheVariants.{Number}
use Rattle.rx_lex.specs.declared.token.Token.{Token}
use Rattle.rx_lex.specs.Tokens.{IsToken, Piece, Between, Meant, piece_text, IsPiece, StandsFirst, IsUncovered, CoversTo, kind_of, token_at, tokens_from, EndsUncovered, kinds, is_text_of, second_text, opens_second, greatest_number, greatest_in, AreTokensOf, IsFirstUncovered}
use Rattle.rx_lex.proofs.Cover.{Covered, piece_nonempty, covers_all}
use Rattle.rx_lex.proofs.Unique.{IsEnd, piece_unique}

-- Greater numbers

wider_token : {g h : ℕ} → g ≤ h → (k : Kind) (rest : List ℕ) → IsToken g k rest → IsToken h k rest
wider_token le (Number n) rest t = (omega (arith, t.0), t.1)
wider_token le k rest t = t

wider_piece : {g h : ℕ} → g ≤ h → (p : Piece) (rest : List ℕ) → IsPiece g p rest → IsPiece h p rest
wider_piece le (Between b) rest i = i
wider_piece le (Meant k) rest i = wider_token le k rest i

-- what stands first does so too if numbers may be greater
wider : {g h : ℕ} → g ≤ h → (p : Piece) (text rest : List ℕ) → StandsFirst g p text rest → StandsFirst h p text rest
wider le p text rest s = record { written = s.written; whole = wider_piece le p rest s.whole }

wider_cover : {g h : ℕ} → g ≤ h → (ps : List Piece) (text rest : List ℕ) → CoversTo g ps text rest → CoversTo h ps text rest
wider_cover le [] text rest c = c
wider_cover le (p ∷ ps) text rest c = (c.0, wider le p text c.0 c.1, wider_cover le ps c.0 rest c.2)

pub wider_covered : {g h : ℕ} {text : List ℕ} {ts : List Token} {rest : List ℕ} → g ≤ h → Covered g text ts rest → Covered h text ts rest
wider_covered {text = text} {rest = rest} le c = record { pieces = c.pieces; cover = wider_cover le c.pieces text rest c.cover; meant = c.meant }

least : (second : Bool) → greatest_number false ≤ greatest_number second
least false = lit≤ tt
least true = lit≤ tt

most : (second : Bool) → greatest_number second ≤ 2 ^ 63
most false = lit≤ tt
most true = lit≤ tt

pub greatest_fits : (ts : List Token) → greatest_in ts < 2 ^ 64
greatest_fits ts = omega (arith, most (opens_second (kinds ts)))

-- more tokens allow no lesser numbers
pub greatest_grows : (ts us : List Token) → greatest_in ts ≤ greatest_in (ts ++ us)
greatest_grows [] us = least (opens_second (kinds us))
greatest_grows (t ∷ []) us = least (opens_second (kinds (t ∷ us)))
greatest_grows (t ∷ u ∷ ts) us = omega arith

-- The bound of pieces

-- the greatest number that pieces tell
abbrev bound : List Piece → ℕ
bound ps = greatest_in (tokens_from 0 ps)

bound_fits : (ps : List Piece) → bound ps ≤ 2 ^ 63
bound_fits ps = most (opens_second (kinds (tokens_from 0 ps)))

and_false : (b : Bool) → b && false ≡ false
and_false true = refl
and_false false = refl

-- no number is one of the first two tokens of version 2
number_tells : (ts us : List Token) (n at : ℕ) → greatest_in (ts ++ record { kind = Number n; place = at } ∷ us) ≡ greatest_in ts
number_tells [] [] n at = refl
number_tells [] (u ∷ us) n at = refl
number_tells (t ∷ []) us n at = ap greatest_number (and_false (is_text_of second_text t.kind))
number_tells (t ∷ u ∷ ts) us n at = refl

number_among : (ps more : List Piece) (n at : ℕ) → (i : ℕ) × (us : List Token) × (tokens_from at (ps ++ Meant (Number n) ∷ more) ≡ tokens_from at ps ++ record { kind = Number n; place = i } ∷ us)
number_among [] more n at = (at, tokens_from (at + length (piece_text (Meant (Number n)))) more, refl)
number_among (p ∷ ps) more n at =
    let first = token_at at (kind_of p) in
    let next = at + length (piece_text p) in
    let r = number_among ps more n next in
    (r.0, r.1, ap (λ l. first ++ l) r.2 ∙ sym (append_assoc first (tokens_from next ps) (record { kind = Number n; place = r.0 } ∷ r.1)))

number_keeps : (ps more : List Piece) (n : ℕ) → bound (ps ++ Meant (Number n) ∷ more) ≡ bound ps
number_keeps ps more n = let r = number_among ps more n 0 in ap greatest_in r.2 ∙ number_tells (tokens_from 0 ps) r.1 n r.0

-- Two covers of a text

-- the other pieces go on from here
record GoesOn (h : ℕ) (ps qs : List Piece) (rest : List ℕ) : Type 0 where
  next : Piece
  more : List Piece
  after : List ℕ
  is : qs ≡ ps ++ next ∷ more
  stands : StandsFirst h next rest after

also_behind : {h : ℕ} (p q : Piece) (ps qs : List Piece) (rest : List ℕ) → q ≡ p → GoesOn h ps qs rest → GoesOn h (p ∷ ps) (q ∷ qs) rest
also_behind p q ps qs rest same x = record { next = x.next; more = x.more; after = x.after; is = (λ i. same i ∷ x.is i); stands = x.stands }

-- two covers are one, or one of them goes on
compared : {g h : ℕ} → g ≤ 2 ^ 63 → h ≤ 2 ^ 63 → (ps qs : List Piece) (text rest other : List ℕ) → CoversTo g ps text rest → CoversTo h qs text other → ((rest ≡ other) × (ps ≡ qs)) ⊎ (GoesOn h ps qs rest ⊎ GoesOn g qs ps other)
compared a b [] [] text rest other c d = inl (sym c ∙ d, refl)
compared {h = h} a b [] (q ∷ qs) text rest other c d = inr (inl (record { next = q; more = qs; after = d.0; is = refl; stands = subst (λ l. StandsFirst h q l d.0) c d.1 }))
compared {g = g} a b (p ∷ ps) [] text rest other c d = inr (inr (record { next = p; more = ps; after = c.0; is = refl; stands = subst (λ l. StandsFirst g p l c.0) d c.1 }))
compared {g = g} {h = h} a b (p ∷ ps) (q ∷ qs) text rest other c d =
    let both = piece_unique {greatest = 2 ^ 63} (lit< tt) p q text c.0 d.0 (wider a p text c.0 c.1) (wider b q text d.0 d.1) in
    let below = compared a b ps qs c.0 rest other c.2 (subst (λ l. CoversTo h qs l other) (sym both.1) d.2) in
    ⊎_elim
    (λ one. inl (one.0, (λ i. both.0 i ∷ one.1 i)))
    (λ two. inr (⊎_elim (λ x. inl (also_behind p q ps qs rest (sym both.0) x)) (λ x. inr (also_behind q p qs ps other both.0 x)) two))
    below

no_next : {g h : ℕ} (q : Piece) (ps more : List Piece) (rest after : List ℕ) → g ≡ bound ps → h ≡ bound (ps ++ q ∷ more) → IsUncovered g rest → StandsFirst h q rest after → ⊥
no_next (Meant (Number n)) ps more rest after e f none s =
    none (Meant (Number n)) after (subst (λ b. StandsFirst b (Meant (Number n)) rest after) (f ∙ number_keeps ps more n ∙ sym e) s)
no_next q ps more rest after e f none s = none q after (record { written = s.written; whole = s.whole })

-- if pieces go as far as pieces can, no others go on
stops : {g h : ℕ} (ps qs : List Piece) (rest : List ℕ) → g ≡ bound ps → h ≡ bound qs → IsEnd g rest → GoesOn h ps qs rest → ⊥
stops {h = h} ps qs rest e f end x = ⊎_elim
    (λ empty. omega (arith, ap length (sym empty ∙ x.stands.written), length-append (piece_text x.next) x.after, piece_nonempty {greatest = h} (omega (arith, f, bound_fits qs)) x.next x.after x.stands.whole))
    (λ none. no_next x.next ps x.more rest x.after e (f ∙ ap bound x.is) none x.stands)
    end

-- pieces that cover a text as far as pieces go, if they tell the greatest number, are these alone
covers_one : (ps qs : List Piece) (text rest other : List ℕ) → CoversTo (bound ps) ps text rest → CoversTo (bound qs) qs text other → IsEnd (bound ps) rest → IsEnd (bound qs) other → (rest ≡ other) × (ps ≡ qs)
covers_one ps qs text rest other c d end last = ⊎_elim
    (λ one. one)
    (λ two. absurd (⊎_elim (stops ps qs rest refl refl end) (stops qs ps other refl refl last) two))
    (compared (bound_fits ps) (bound_fits qs) ps qs text rest other c d)

-- the pieces of tokens
of_tokens : (ts : List Token) (ps : List Piece) (text rest : List ℕ) → ts ≡ tokens_from 0 ps → CoversTo (greatest_in ts) ps text rest → CoversTo (bound ps) ps text rest
of_tokens ts ps text rest e c = subst (λ us. CoversTo (greatest_in us) ps text rest) e c

-- no two lists of tokens are those of one text
pub one_list : (text : List ℕ) (ts us : List Token) → AreTokensOf ts text → AreTokensOf us text → ts ≡ us
one_list text ts us h g =
    let same = covers_one h.0 g.0 text [] [] (of_tokens ts h.0 text [] h.2 h.1) (of_tokens us g.0 text [] g.2 g.1) (inl refl) (inl refl) in
    h.2 ∙ ap (tokens_from 0) same.1 ∙ sym g.2

pub one_place : (at other : ℕ) (text : List ℕ) → IsFirstUncovered at text → IsFirstUncovered other text → at ≡ other
one_place at other text h g =
    let same = covers_one h.0 g.0 text h.1.0 g.1.0 h.1.1 g.1.1 (inr h.1.4) (inr g.1.4) in
    omega (arith, h.1.2, g.1.2, ap length same.0)

pub place_apart : (at : ℕ) (text : List ℕ) (ts : List Token) → IsFirstUncovered at text → AreTokensOf ts text → ⊥
place_apart at text ts h g =
    h.1.3 (covers_one h.0 g.0 text h.1.0 [] h.1.1 (of_tokens ts g.0 text [] g.2 g.1) (inr h.1.4) (inl refl)).0

-- What the lexer holds

module _ {text : List ℕ} {ts : List Token} {rest : List ℕ} (c : Covered (greatest_in ts) text ts rest) where
  -- at the end of the text the tokens so far are its tokens
  pub tokens_of_text : length rest ≡ 0 → AreTokensOf ts text
  tokens_of_text e = covers_all rest e c

  pub only_these : length rest ≡ 0 → (us : List Token) → AreTokensOf us text → ts ≡ us
  only_these e us other = one_list text ts us (covers_all rest e c) other

  pub first_uncovered : (at : ℕ) → EndsUncovered (greatest_in ts) c.pieces at text → IsFirstUncovered at text
  first_uncovered at h = (c.pieces, subst (λ us. EndsUncovered (greatest_in us) c.pieces at text) c.meant h)

-- one more token may tell a greater number
pub with_more : {text : List ℕ} {rest : List ℕ} (ts us : List Token) → Covered (greatest_in ts) text (ts ++ us) rest → Covered (greatest_in (ts ++ us)) text (ts ++ us) rest
with_more ts us c = wider_covered (greatest_grows ts us) c
