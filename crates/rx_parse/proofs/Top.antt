-- Where the tokens of a text are refused.
use Rattle.std.proofs.Common.{◌≡◌, ◌≢◌, ℕ, ◌+◌, ◌-◌, ◌<◌, ◌≤◌, false, Ok, Err, List, [], ◌∷◌, ◌++◌, length, get_or, refl, sym, ap, ◌∙◌, subst, append_assoc, append-nil, length-append, arith}
use Rattle.std.proofs.lemmas.List.{length-map, map-append}
use Rattle.rx_lex.specs.declared.token.Kind.{Kind}
use Rattle.rx_lex.specs.declared.token.Kind.TheVariants.{End}
use Rattle.rx_lex.specs.declared.token.Token.{Token}
use Rattle.rx_lex.specs.declared.spans.Rest.{Rest}
use Rattle.rx_lex.specs.Tokens.{kinds, end_mark}
use Rattle.rx_lex.specs.Spans.{kinds_of, tokens_left}
use Rattle.rx_ast.specs.Syntax.{Program}
use Rattle.rx_print.specs.Printing.{program_tokens}
use Rattle.rx_print.specs.Levels.{HasTokens, BeginsProgram, level_limit}
use Rattle.std.specs.List.{All}
use Rattle.std.proofs.lemmas.List.Elements.{All-head, All-tail}
use Rattle.rx_grammar.specs.Steps.{is_end}
use Rattle.rx_grammar.specs.Reading.{program_at}
use Rattle.rx_grammar.proofs.Readings.{NoEnd}
use Rattle.rx_grammar.proofs.Combine.{made}
use Rattle.rx_grammar.proofs.Programs.{read_has_tokens, has_tokens_read, stops_first, last_end}
use Rattle.rx_parse.specs.Faults.{IsEnded, IsFirstFault}

tokens_split : (ts : List Token) (p : List Kind) (k : Kind) (v : List Kind) → kinds ts ≡ p ++ (k ∷ v) → (before : List Token) × (token : Token) × (after : List Token) × (ts ≡ before ++ (token ∷ after)) × (kinds before ≡ p) × (token.kind ≡ k) × (length after ≡ length v)
tokens_split [] [] k v e = absurd (let b : ⊥ = cc in b)
tokens_split [] (c ∷ p) k v e = absurd (let b : ⊥ = cc in b)
tokens_split (t ∷ ts) [] k v e = ([], t, ts, refl, refl, cc, (let tails : kinds ts ≡ v = cc in sym (length-map ts (λ x. x.kind)) ∙ ap length tails))
tokens_split (t ∷ ts) (c ∷ p) k v e =
    let heads : t.kind ≡ c = cc in
    let tails : kinds ts ≡ p ++ (k ∷ v) = cc in
    let s = tokens_split ts p k v tails in
    (t ∷ s.0, s.1, s.2, ap (λ l. t ∷ l) s.3, (λ i. heads i ∷ s.4 i), s.5, s.6)

read_middle : (before : List Token) (t : Token) (after : List Token) (d : Token) → get_or (before ++ (t ∷ after)) (length before) d ≡ t
read_middle [] t after d = refl
read_middle (b ∷ before) t after d = read_middle before t after d

not_end : (k : Kind) → k ≢ End → is_end k ≡ false
not_end End h = absurd (h refl)
not_end _ h = refl

all_free : (ks : List Kind) → All (λ k. k ≢ End) ks → NoEnd ks
all_free [] h = tt
all_free (k ∷ ks) h = (not_end k (All-head (λ k. k ≢ End) k ks h), all_free ks (All-tail (λ k. k ≢ End) k ks h))

ended : (ts : List Token) (m : IsEnded ts) → kinds ts ≡ kinds m.0 ++ End ∷ []
ended ts m = ap kinds m.3 ∙ map-append (λ x. x.kind) m.0 (end_mark m.1 ∷ [])

-- how many tokens are left, by what they are
pub left_len : (r : Rest) (ts : List Token) → tokens_left r ≡ ts → length (kinds_of r) ≡ length ts
left_len r ts e = length-map (tokens_left r) (λ t. t.kind) ∙ ap length e

-- what is read from what the tokens are
pub read_of : {A : Type 0} (f : List Kind → A) (r : Rest) (ts : List Token) (x : A) → tokens_left r ≡ ts → f (kinds_of r) ≡ x → f (kinds ts) ≡ x
read_of f r ts x e h = ap (λ l. f (kinds l)) (sym e) ∙ h

pub found_has : (ts : List Token) (p : Program) (rest : List Kind) → IsEnded ts → program_at level_limit (kinds ts) ≡ Ok (p, rest) → HasTokens p (kinds ts)
found_has ts p rest m h =
    let r = read_has_tokens p (kinds ts) rest h in
    let lists : kinds m.0 ++ End ∷ [] ≡ r.0 ++ rest = sym (ended ts m) ∙ r.2 in
    let none = no_rest (kinds m.0) r.0 rest p (all_free (kinds m.0) m.2) r.1 lists in
    subst (HasTokens p) (sym (r.2 ∙ (ap (λ z. r.0 ++ z) none ∙ append-nil r.0))) r.1
  where
    no_rest : (front w rest : List Kind) (p : Program) → NoEnd front → HasTokens p w → front ++ End ∷ [] ≡ w ++ rest → rest ≡ []
    no_rest front w rest p free h e = last_end front (program_tokens p) rest free (e ∙ (ap (λ z. z ++ rest) h.1 ∙ append_assoc (program_tokens p) (End ∷ []) rest))

pub record FaultIn (ts : List Token) (m : ℕ) : Type 0 where
  pub some : 0 < m
  pub within : m ≤ length ts
  pub fault : (d : Token) → IsFirstFault (get_or ts (length ts - m) d).place ts

pub fault_in : (ts : List Token) (m : ℕ) → IsEnded ts → program_at level_limit (kinds ts) ≡ Err m → FaultIn ts m
fault_in ts m marked h =
    let front = ended ts marked in
    let f = stops_first (kinds marked.0) m marked.2 (ap (program_at level_limit) (sym front) ∙ h) in
    let s = tokens_split ts f.before f.token f.after (front ∙ f.split) in
    let len : length s.0 + m ≡ length ts = omega (arith, ap length s.3, length-append s.0 (s.1 ∷ s.2), s.6, f.count) in
    record {
      some = omega (arith, f.count);
      within = omega arith;
      fault = λ d.
          let at : length ts - m ≡ length s.0 = omega arith in
          let same : s.1 ≡ get_or ts (length ts - m) d = sym (read_middle s.0 s.1 s.2 d) ∙ ap (λ l. get_or l (length s.0) d) (sym s.3) ∙ ap (λ i. get_or ts i d) (sym at) in
          subst (λ z. IsFirstFault z.place ts) same (record {
            before = s.0;
            token = s.1;
            after = s.2;
            split = s.3;
            place = refl;
            begins = subst BeginsProgram (sym s.4) f.begins;
            stops = λ b. f.stops (subst BeginsProgram (λ i. s.4 i ++ (s.5 i ∷ [])) b);
          });
    }

pub same_program : (p q : Program) (ks : List Kind) (rest : List Kind) → program_at level_limit ks ≡ Ok (p, rest) → HasTokens q ks → p ≡ q
same_program p q ks rest h has = ap (λ z. z.0) (made (p, rest) (q, []) (sym h ∙ has_tokens_read q ks has))

pub none_has : (q : Program) (ks : List Kind) (m : ℕ) → program_at level_limit ks ≡ Err m → HasTokens q ks → ⊥
none_has q ks m h has = let both = sym h ∙ has_tokens_read q ks has in let b : ⊥ = cc in b
