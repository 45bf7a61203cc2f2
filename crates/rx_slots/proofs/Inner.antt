-- What is read one level further in, at the exits of the functions of slots and bodies.
use Rattle.std.specs.Prelude.{Result, IfOk, IfErr, cond}
use Rattle.std.proofs.Common.{◌≡◌, ℕ, zero, suc, ◌-◌, ◌<◌, true, false, Ok, Err, List, refl, sym, ap, ◌∙◌, subst, arith}
use Rattle.rx_lex.specs.declared.token.Sign.TheVariants as sign
use Rattle.rx_lex.specs.declared.token.Keyword.TheVariants as word
use Rattle.rx_lex.specs.declared.token.Kind.{Kind}
use Rattle.rx_ast.specs.Syntax.{Slot, repeated, enclosed, parentheses, at_once, by_tag, no_slots, slots_of, single, fragment}
use Rattle.rx_grammar.specs.Steps.{Read, ◌>>=◌, within, taken, next, is_mark, as_word, as_lower, as_number}
use Rattle.rx_grammar.specs.Openings.{Opening, element}
use Rattle.rx_grammar.specs.Reading.{sign_at, expr_at, SlotInner, slot_inner, slot_at, tag_at, closing_name_at, element_with, content_at, element_at, element_behind, children_at, repeated_at, enclosed_at, fragment_at, opened_body}
use Rattle.rx_expression.specs.declared.fault.Fault.{Fault}
use Rattle.rx_expression.specs.Results.{Fails, Gives}
use Rattle.rx_slots.specs.Parts.{repetition_at, sides_at, filled_at}
use Rattle.rx_expression.proofs.Exits.{fails_at, reads_behind}

-- What a function returns, if a step before it read this.
pub gives_behind : {X A B : Type 0} (w : X → B × List Kind) (result : Result X Fault) (r : Read A) (x : A × List Kind) (f : A × List Kind → Read B) → r ≡ Ok x → Gives w result (f x) → Gives w result (r >>= f)
gives_behind w result r x f ok h = subst (λ r. Gives w result (r >>= f)) (sym ok) h

-- A part with the tokens behind what closes it.
pub closed_fails : {T X A : Type 0} (part : T) (v : X → A × List Kind) (r : Result X Fault) (out : Result (T × X) Fault) (read : Read A) (f : Fault) → out ≡ Err f → Gives v r read → IfOk r (λ x. out ≡ Ok (part, x)) → IfErr r (λ e. out ≡ Err e) → Fails f read
closed_fails part v (Ok x) out read f is h ok err = absurd (let b : ⊥ = cc in b)
closed_fails part v (Err e) out read f is h ok err = let same : e ≡ f = cc in subst (λ e. Fails e read) same h

pub closed_reads : {T X A : Type 0} (part p : T) (y : X) (v : X → A × List Kind) (r : Result X Fault) (out : Result (T × X) Fault) (read : Read A) → out ≡ Ok (p, y) → Gives v r read → IfOk r (λ x. out ≡ Ok (part, x)) → IfErr r (λ e. out ≡ Err e) → (p ≡ part) × (read ≡ Ok (v y))
closed_reads {T} {X} part p y v (Ok x) out read is h ok err =
    let same : ◌≡◌ {A = T × X} (part, x) (p, y) = cc in
    (sym (ap (λ z. z.0) same), subst (λ z. read ≡ Ok (v z)) (ap (λ z. z.1) same) h)
closed_reads {T} {X} part p y v (Err e) out read is h ok err = absurd (let b : ⊥ = cc in b)

-- A part beside the one that is read behind it.
pub beside_fails : {T U X A : Type 0} (part : T) (v : U × X → A × List Kind) (r : Result (U × X) Fault) (out : Result (T × U × X) Fault) (read : Read A) (f : Fault) → out ≡ Err f → Gives v r read → IfOk r (λ x. out ≡ Ok (part, x.0, x.1)) → IfErr r (λ e. out ≡ Err e) → Fails f read
beside_fails part v (Ok x) out read f is h ok err = absurd (let b : ⊥ = cc in b)
beside_fails part v (Err e) out read f is h ok err = let same : e ≡ f = cc in subst (λ e. Fails e read) same h

pub beside_reads : {T U X A : Type 0} (part p : T) (u : U) (y : X) (v : U × X → A × List Kind) (r : Result (U × X) Fault) (out : Result (T × U × X) Fault) (read : Read A) → out ≡ Ok (p, u, y) → Gives v r read → IfOk r (λ x. out ≡ Ok (part, x.0, x.1)) → IfErr r (λ e. out ≡ Err e) → (p ≡ part) × (read ≡ Ok (v (u, y)))
beside_reads {T} {U} {X} part p u y v (Ok x) out read is h ok err =
    let same : ◌≡◌ {A = T × U × X} (part, x.0, x.1) (p, u, y) = cc in
    (sym (ap (λ z. z.0) same), subst (λ z. read ≡ Ok (v z)) (ap (λ z. (z.1, z.2)) same) h)
beside_reads {T} {U} {X} part p u y v (Err e) out read is h ok err = absurd (let b : ⊥ = cc in b)

pub beside_gives : {T U X A B : Type 0} (part : T) (v : U × X → A × List Kind) (w : T × U × X → B × List Kind) (r : Result (U × X) Fault) (result : Result (T × U × X) Fault) (read : Read A) (f : A × List Kind → Read B) → ((x : U × X) → f (v x) ≡ Ok (w (part, x.0, x.1))) → Gives v r read → IfOk r (λ x. result ≡ Ok (part, x.0, x.1)) → IfErr r (λ e. result ≡ Err e) → Gives w result (read >>= f)
beside_gives part v w (Ok x) result read f both h ok err = subst (λ z. Gives w z (read >>= f)) (sym ok) (reads_behind read (v x) f (w (part, x.0, x.1)) h (both x))
beside_gives part v w (Err e) result read f both h ok err = subst (λ z. Gives w z (read >>= f)) (sym err) (fails_at e read f h)

-- what may be read one level further in
abbrev slots_in : ℕ → SlotInner
slots_in n = record { expr = expr_at n; slot = slot_at n; element = element_behind n; opened = element_at (slot_inner n); children = children_at n }

in_slots : {A : Type 0} (n : ℕ) (ts : List Kind) (f : SlotInner → Read A) → 0 < n → within (slot_inner n) ts f ≡ f (slots_in (n - 1))
in_slots zero ts f lt = absurd (omega arith)
in_slots (suc n) ts f lt = let pred : n ≡ suc n - 1 = omega arith in ap (λ m. f (slots_in m)) pred

-- a row of steps in two parts
parted : {A B C : Type 0} (r : Read A) (f : A × List Kind → Read B) (g : B × List Kind → Read C) (k : A × List Kind → Read C) → ((x : A × List Kind) → k x ≡ (f x >>= g)) → (r >>= k) ≡ ((r >>= f) >>= g)
parted (Ok x) f g k h = h x
parted (Err e) f g k h = refl

pub repeated_in : (n : ℕ) (ts : List Kind) → 0 < n → repeated_at (slot_inner n) ts ≡ (repetition_at (expr_at (n - 1)) ts >>= λ h. slot_at (n - 1) h.1 >>= λ s. Ok (repeated h.0.0 h.0.1.0 h.0.1.1 s.0, s.1))
unfolding repetition_at
repeated_in n ts lt =
    in_slots n ts _ lt
    ∙ parted (taken (as_word word.For) ts) _ _ _ (λ f. parted (sign_at sign.OpenParen f.1) _ _ _ (λ p. parted (taken as_lower p.1) _ _ _ (λ x. parted (sign_at sign.Less x.1) _ _ _ (λ l. parted (expr_at (n - 1) l.1) _ _ _ (λ e. parted (sign_at sign.Comma e.1) _ _ _ (λ c. parted (taken as_number c.1) _ _ _ (λ m. parted (sign_at sign.CloseParen m.1) _ _ _ (λ r. refl))))))))

pub enclosed_in : (n : ℕ) (ts : List Kind) → 0 < n → enclosed_at (slot_inner n) ts ≡ (sign_at sign.OpenParen ts >>= λ p. element_at (slot_inner (n - 1)) p.1 >>= λ e. sign_at sign.CloseParen e.1 >>= λ c. Ok (enclosed parentheses e.0, c.1))
enclosed_in n ts lt = in_slots n ts _ lt

pub sides_in : (n : ℕ) (ts : List Kind) → 0 < n → sides_at (slot_inner n) ts ≡ (sign_at sign.Question ts >>= λ q. slot_at (n - 1) q.1 >>= λ a. sign_at sign.Colon a.1 >>= λ s. slot_at (n - 1) s.1 >>= λ b. Ok ((a.0, b.0), b.1))
sides_in n ts lt = in_slots n ts _ lt

module _ {X : Type 0} (w : X → Slot × List Kind) (result : Result X Fault) (n : ℕ) (ts us : List Kind) where
  -- an element in parentheses, behind the element
  pub enclosed_gives : (vs : List Kind) (s : Slot) → 0 < n → sign_at sign.OpenParen ts ≡ Ok (tt, us) → element_at (slot_inner (n - 1)) us ≡ Ok (s, vs) → Gives w result (sign_at sign.CloseParen vs >>= λ c. Ok (enclosed parentheses s, c.1)) → Gives w result (enclosed_at (slot_inner n) ts)
  enclosed_gives vs s lt first inner h =
      subst (Gives w result) (sym (enclosed_in n ts lt))
      (gives_behind w result (sign_at sign.OpenParen ts) (tt, us) _ first (gives_behind w result (element_at (slot_inner (n - 1)) us) (s, vs) _ inner h))

  -- an element, behind its children
  pub filled_gives : (vs ws : List Kind) (t : Opening) (cs : List Slot) → tag_at (slot_at n) n ts ≡ Ok (t, us) → next (is_mark sign.Slash) us ≡ false → sign_at sign.Greater us ≡ Ok (tt, vs) → children_at n vs ≡ Ok (cs, ws) → Gives w result (filled_at t (slots_of cs) ws) → Gives w result (element_behind n ts)
  unfolding element_with content_at
  filled_gives vs ws t cs tag none greater kids h =
      gives_behind w result (tag_at (slot_at n) n ts) (t, us) _ tag
      (subst (λ b. Gives w result (cond b (sign_at sign.Slash us >>= λ s. sign_at sign.Greater s.1 >>= λ g. Ok (element t at_once no_slots, g.1)) (sign_at sign.Greater us >>= λ g. children_at n g.1 >>= λ cs. closing_name_at t cs.1 >>= λ n. sign_at sign.Greater n.1 >>= λ e. Ok (element t by_tag (slots_of cs.0), e.1)))) (sym none)
      (gives_behind w result (sign_at sign.Greater us) (tt, vs) _ greater (gives_behind w result (children_at n vs) (cs, ws) _ kids h)))

module _ {X : Type 0} (w : X → (Slot × Slot) × List Kind) (result : Result X Fault) (n : ℕ) (ts us vs : List Kind) (a : Slot) where
  -- the sides of a choice, behind the first
  pub sides_gives : 0 < n → sign_at sign.Question ts ≡ Ok (tt, us) → slot_at (n - 1) us ≡ Ok (a, vs) → Gives w result (sign_at sign.Colon vs >>= λ s. slot_at (n - 1) s.1 >>= λ b. Ok ((a, b.0), b.1)) → Gives w result (sides_at (slot_inner n) ts)
  sides_gives lt question first h =
      subst (Gives w result) (sym (sides_in n ts lt))
      (gives_behind w result (sign_at sign.Question ts) (tt, us) _ question (gives_behind w result (slot_at (n - 1) us) (a, vs) _ first h))

-- a fragment
pub fragment_reads : (n : ℕ) (ts us vs : List Kind) (cs : List Slot) → 0 < n → sign_at sign.Less ts ≡ Ok (tt, us) → next (is_mark sign.Greater) us ≡ true → fragment_at (children_at (n - 1)) us ≡ Ok (cs, vs) → opened_body (slot_inner n) ts ≡ Ok (fragment (slots_of cs), vs)
fragment_reads n ts us vs cs lt less next kids =
    in_slots n ts _ lt
    ∙ reads_behind (sign_at sign.Less ts) (tt, us) _ (fragment (slots_of cs), vs) less
    (ap (λ b. cond b (fragment_at (children_at (n - 1)) us >>= λ cs. Ok (fragment (slots_of cs.0), cs.1)) (element_behind (n - 1) us >>= λ e. Ok (single e.0, e.1))) next
    ∙ reads_behind (fragment_at (children_at (n - 1)) us) (cs, vs) _ (fragment (slots_of cs), vs) kids refl)
