-- The laws of reading a whole program.
use Rattle.std.proofs.Common.{◌≡◌, ◌≢◌, ℕ, suc, Bool, true, false, if◌then◌else◌, ◌⊎◌, inl, inr, ⊎_elim, Some, None, Ok, Err, List, [], ◌∷◌, ◌++◌, length, refl, sym, ap, ◌∙◌, subst, append_assoc, append-nil, length-append, arith}
use Rattle.std.proofs.lemmas.Bool.{false≢true}
use Rattle.std.proofs.lemmas.Slice.Eq.{bytes_eq-Decides}
use Rattle.std.specs.List.{All, flat_map}
use Rattle.std.proofs.lemmas.List.Elements.{All-head, All-tail}
use Rattle.rx_lex.specs.declared.token.Kind.{Kind}
use Rattle.rx_lex.specs.declared.token.Kind.TheVariants.{Text, Mark, End}
use Rattle.rx_lex.specs.declared.token.Sign.TheVariants as sign
use Rattle.rx_lex.specs.Tokens.{is_text_of, second_text}
use Rattle.rx_ast.specs.Syntax.{Component, Declaration, of_context, of_function, of_component, Program}
use Rattle.rx_print.specs.Printing.{component_tokens, declaration_tokens, version_tokens, program_tokens}
use Rattle.rx_print.specs.Levels.{level_limit, DeclarationsFit, HasTokens}
use Rattle.rx_grammar.specs.Steps.{Read, ◌>>=◌, is_end, is_mark, next, as_end, taken, taken_as, where_true}
use Rattle.rx_grammar.specs.Reading.{sign_at, declarations_at, program_at, version_at}
use Rattle.rx_grammar.specs.Stops.{StopsFirst}
use Rattle.rx_grammar.proofs.Readings.{NoEnd, Begun, Reads, bind_ok, bind_err}
use Rattle.rx_grammar.proofs.Combine.{taken_ok, taken_as_err, made}
use Rattle.rx_grammar.proofs.Tokens.{is_mark_is}
use Rattle.rx_grammar.proofs.Many.{Row}
use Rattle.rx_grammar.proofs.Declarations.{DeclarationL, declarations_read, declarations_to, declarations_back}

-- no end mark stands among these tokens, and one stands behind them
pub record Closed (ks : List Kind) : Type 0 where
  pub front : List Kind
  pub free : NoEnd front
  pub whole : ks ≡ front ++ End ∷ []

no_end_within : (p q : List Kind) → NoEnd (p ++ End ∷ q) → ⊥
no_end_within [] q h = false≢true (sym h.0)
no_end_within (k ∷ p) q h = no_end_within p q h.1

no_end_front : (p q : List Kind) → NoEnd (p ++ q) → NoEnd p
no_end_front [] q h = tt
no_end_front (k ∷ p) q h = (h.0, no_end_front p q h.1)

-- nothing stands behind the end mark
pub last_end : (front p rest : List Kind) → NoEnd front → front ++ End ∷ [] ≡ p ++ End ∷ rest → rest ≡ []
last_end [] [] rest free e = let tails : [] ≡ rest = cc in sym tails
last_end [] (k ∷ p) rest free e = absurd (omega (arith, ap length e, length-append p (End ∷ rest)))
last_end (k ∷ front) [] rest free e = let head : k ≡ End = cc in absurd (false≢true (sym free.0 ∙ ap is_end head))
last_end (k ∷ front) (j ∷ p) rest free e = let tails : front ++ End ∷ [] ≡ p ++ End ∷ rest = cc in last_end front p rest free.1 tails

end_is : (k : Kind) (u : Unit {0}) → as_end k ≡ Some u → k ≡ End
end_is End u h = refl
end_is _ u h = absurd (let b : ⊥ = cc in b)

-- The front of a program

-- the text with which a program of version 2 begins
abbrev is_second : Kind → Bool
is_second = is_text_of second_text

-- these tokens may stand behind the front of this version
abbrev IsBehind : Bool → List Kind → Type 0
IsBehind v ks = v ≡ false → next is_second ks ≡ false

abbrev version_by : Bool → Kind → List Kind → Read Bool
version_by b k ts = if b then (taken_as (where_true b) (k ∷ ts) ts >>= λ t. sign_at sign.Semicolon t.1 >>= λ s. Ok (true, s.1)) else Ok (false, k ∷ ts)

abbrev semicolon_by : Bool → Kind → List Kind → Read Bool
semicolon_by b k ts = taken_as (where_true b) (k ∷ ts) ts >>= λ s. Ok (true, s.1)

version_first : (ts : List Kind) → next is_second ts ≡ false → version_at ts ≡ Ok (false, ts)
version_first [] e = refl
version_first (k ∷ ts) e = ap (λ b. version_by b k ts) e

second_is : (k : Kind) → is_second k ≡ true → k ≡ Text second_text
second_is (Text t) h = ap Text ((bytes_eq-Decides t second_text).0 h)
second_is _ h = absurd (false≢true h)

-- how tokens begin
data Front (ts : List Kind) : Type 0 where
  of_first : next is_second ts ≡ false → version_at ts ≡ Ok (false, ts) → Front ts
  of_second : (rest : List Kind) → ts ≡ Text second_text ∷ Mark sign.Semicolon ∷ rest → version_at ts ≡ Ok (true, rest) → Front ts
  broken : (rest : List Kind) → ts ≡ Text second_text ∷ rest → next (is_mark sign.Semicolon) rest ≡ false → version_at ts ≡ Err (length rest) → Front ts

front_of : (ts : List Kind) → Front ts
front_of [] = of_first refl refl
front_of (k ∷ ts) = by_text (is_second k) refl
  where
    by_sign : is_second k ≡ true → (us : List Kind) → Front (k ∷ us)
    by_sign e [] = broken [] (ap (λ j. j ∷ []) (second_is k e)) refl (ap (λ b. version_by b k []) e)
    by_sign e (l ∷ us) = by_mark (is_mark sign.Semicolon l) refl
      where
        by_mark : (b : Bool) → is_mark sign.Semicolon l ≡ b → Front (k ∷ l ∷ us)
        by_mark true f = of_second us (λ i. second_is k e i ∷ (is_mark_is sign.Semicolon l f i ∷ us)) (ap (λ b. version_by b k (l ∷ us)) e ∙ ap (λ b. semicolon_by b l us) f)
        by_mark false f = broken (l ∷ us) (ap (λ j. j ∷ (l ∷ us)) (second_is k e)) f (ap (λ b. version_by b k (l ∷ us)) e ∙ ap (λ b. semicolon_by b l us) f)

    by_text : (b : Bool) → is_second k ≡ b → Front (k ∷ ts)
    by_text false e = of_first e (ap (λ b. version_by b k ts) e)
    by_text true e = by_sign e ts

-- no component begins with a text
component_no_text : (c : Component) (memo : Bool) (rest : List Kind) → next is_second (component_tokens memo c ++ rest) ≡ false
component_no_text c true rest = refl
component_no_text c false rest = refl

-- no declaration begins with a text
no_text : (ds : List Declaration) (rest : List Kind) → next is_second (flat_map declaration_tokens ds ++ End ∷ rest) ≡ false
no_text [] rest = refl
no_text (of_context c ∷ ds) rest = refl
no_text (of_function f ∷ ds) rest = refl
no_text (of_component c ∷ ds) rest =
    ap (next is_second) (append_assoc (component_tokens c.memo c) (flat_map declaration_tokens ds) (End ∷ rest)) ∙ component_no_text c c.memo (flat_map declaration_tokens ds ++ End ∷ rest)

-- tokens of a program behind the front of a version are those of its declarations
same_version : (s v : Bool) (ds : List Declaration) (ks : List Kind) → IsBehind v ks → (version_tokens s ++ flat_map declaration_tokens ds) ++ End ∷ [] ≡ version_tokens v ++ ks → flat_map declaration_tokens ds ++ End ∷ [] ≡ ks
same_version true true ds ks plain e = cc
same_version false false ds ks plain e = e
same_version true false ds ks plain e = absurd (false≢true (sym (plain refl) ∙ sym (ap (next is_second) e)))
same_version false true ds ks plain e = absurd (false≢true (sym (no_text ds []) ∙ ap (next is_second) e))

next_front : (f : Kind → Bool) (before more after : List Kind) (t : Kind) → next f (before ++ t ∷ more) ≡ next f (before ++ t ∷ after)
next_front f [] more after t = refl
next_front f (k ∷ before) more after t = refl

closed_behind : (v : Bool) (ks rest : List Kind) → Closed ks → ks ≡ version_tokens v ++ rest → Closed rest
closed_behind false ks rest c e = record { front = c.front; free = c.free; whole = sym e ∙ c.whole }
closed_behind true ks rest c e = by_front c.front c.free (sym e ∙ c.whole)
  where
    by_front : (front : List Kind) → NoEnd front → Text second_text ∷ Mark sign.Semicolon ∷ rest ≡ front ++ End ∷ [] → Closed rest
    by_front [] free w = absurd (omega (arith, ap length w))
    by_front (k ∷ []) free w = let b : ⊥ = cc in absurd b
    by_front (k ∷ l ∷ front) free w = record { front = front; free = free.1.1; whole = cc }

abbrev pub program_made : (second : Bool) → List Declaration → Program
program_made v ds = record { second = v; declarations = ds }

-- some program with so many levels begins so
abbrev pub Begins : (levels : ℕ) → List Kind → Type 0
Begins n ks = (p : Program) × (more : List Kind) × DeclarationsFit p.declarations n × (program_tokens p ++ End ∷ [] ≡ ks ++ more)

-- the first token with which no program of this version begins, in what stands behind the version's front
record FaultBehind (n : ℕ) (v : Bool) (ks : List Kind) (m : ℕ) : Type 0 where
  before : List Kind
  token : Kind
  after : List Kind
  split : ks ≡ before ++ token ∷ after
  count : suc (length after) ≡ m
  begins : Begins n (version_tokens v ++ before)
  stops : Begins n (version_tokens v ++ (before ++ token ∷ [])) → ⊥

-- Behind the front of this version
module _ (n : ℕ) (v : Bool) where
  abbrev D : Reads (declarations_at n) (Row (DeclarationL n)) 1 1 true
  D = declarations_read n

  abbrev behind : List Declaration → List Kind → Read Program
  behind ds ts = taken as_end ts >>= λ e. Ok (program_made v ds, e.1)

  abbrev rest_at : List Kind → Read Program
  rest_at ts = declarations_at n ts >>= λ ds. behind ds.0 ds.1

  behind_ok : (ds : List Declaration) (ts : List Kind) (x : Program × List Kind) → behind ds ts ≡ Ok x → (x.0 ≡ program_made v ds) × (ts ≡ End ∷ x.1)
  behind_ok ds ts x h =
      let b = bind_ok (taken as_end ts) (λ e. Ok (program_made v ds, e.1)) x h in
      let t = taken_ok as_end ts b.0 b.1 in
      let e = made (program_made v ds, b.0.1) x b.2 in
      let rest : b.0.1 ≡ x.1 = ap (λ z. z.1) e in
      (ap (λ z. z.0) (sym e), t.2 ∙ (λ i. end_is t.0 b.0.0 t.1 i ∷ rest i))

  rest_sound : (ts : List Kind) (x : Program × List Kind) → rest_at ts ≡ Ok x → DeclarationsFit x.0.declarations n × (version_tokens v ++ ts ≡ program_tokens x.0 ++ End ∷ x.1)
  rest_sound ts x h =
      let b = bind_ok (declarations_at n ts) (λ ds. behind ds.0 ds.1) x h in
      let s = D.sound ts b.0 b.1 in
      let e = behind_ok b.0.0 b.0.1 x b.2 in
      let d = declarations_to n b.0.0 s.0 s.2 in (
        subst (λ z. DeclarationsFit z.declarations n) (sym e.0) d.0,
        ap (λ z. version_tokens v ++ z) (s.1 ∙ (λ i. d.1 i ++ e.1 i)) ∙ sym (append_assoc (version_tokens v) (flat_map declaration_tokens b.0.0) (End ∷ x.1)) ∙ ap (λ z. program_tokens z ++ End ∷ x.1) (sym e.0),
      )

  declared : (ds : List Declaration) (rest : List Kind) → DeclarationsFit ds n → declarations_at n (flat_map declaration_tokens ds ++ End ∷ rest) ≡ Ok (ds, End ∷ rest)
  declared ds rest fit = D.complete ds (flat_map declaration_tokens ds) (End ∷ rest) (declarations_back n ds fit) (omega arith)

  rest_complete : (ds : List Declaration) (rest : List Kind) → DeclarationsFit ds n → rest_at (flat_map declaration_tokens ds ++ End ∷ rest) ≡ Ok (program_made v ds, rest)
  rest_complete ds rest fit = ap (λ r. r >>= λ ds. behind ds.0 ds.1) (declared ds rest fit)

  one_more : (before more : List Kind) (t : Kind) → (version_tokens v ++ (before ++ t ∷ [])) ++ more ≡ version_tokens v ++ (before ++ t ∷ more)
  one_more before more t = append_assoc (version_tokens v) (before ++ t ∷ []) more ∙ ap (λ z. version_tokens v ++ z) (append_assoc before (t ∷ []) more)

  goes_on : (before more after : List Kind) (t : Kind) (p : Program) → IsBehind v (before ++ t ∷ after) → program_tokens p ++ End ∷ [] ≡ (version_tokens v ++ (before ++ t ∷ [])) ++ more → flat_map declaration_tokens p.declarations ++ End ∷ [] ≡ before ++ t ∷ more
  goes_on before more after t p plain e =
      same_version p.second v p.declarations (before ++ t ∷ more) (λ first. next_front is_second before more after t ∙ plain first) (e ∙ one_more before more t)

  -- if the declarations fail, no program goes on
  no_more : (before after : List Kind) (t : Kind) → IsBehind v (before ++ t ∷ after) → declarations_at n (before ++ t ∷ after) ≡ Err (suc (length after)) → Begins n (version_tokens v ++ (before ++ t ∷ [])) → ⊥
  no_more before after t plain h (p, more, fit, e) =
      let other = D.fails before t after more h in
      let found = ap (declarations_at n) (sym (goes_on before more after t p plain e)) ∙ declared p.declarations [] fit in
      let both = sym other ∙ found in
      let b : ⊥ = cc in b

  -- if they end, only the end mark goes on
  only_end : (before after : List Kind) (t : Kind) (ds : List Declaration) → IsBehind v (before ++ t ∷ after) → declarations_at n (before ++ t ∷ after) ≡ Ok (ds, t ∷ after) → as_end t ≡ None → Begins n (version_tokens v ++ (before ++ t ∷ [])) → ⊥
  only_end before after t ds plain h none (p, more, fit, e) =
      let other = D.keeps before t after more ds h in
      let found = ap (declarations_at n) (sym (goes_on before more after t p plain e)) ∙ declared p.declarations [] fit in
      let same = made (ds, t ∷ more) (p.declarations, End ∷ []) (sym other ∙ found) in
      let lists : t ∷ more ≡ End ∷ [] = ap (λ z. z.1) same in
      let is : t ≡ End = cc in
      let both = sym none ∙ ap as_end is in
      let b : ⊥ = cc in b

  nothing_begins : Begins n (version_tokens v ++ [])
  nothing_begins = (program_made v [], End ∷ [], tt, refl)

  row_begins : (ds : List Declaration) (before more : List Kind) → Row (DeclarationL n) ds (before ++ more) → Begins n (version_tokens v ++ before)
  row_begins ds before more l =
      let d = declarations_to n ds (before ++ more) l in (
        program_made v ds,
        more ++ End ∷ [],
        d.0,
        ap (λ z. (version_tokens v ++ z) ++ End ∷ []) (sym d.1) ∙ ap (λ z. z ++ End ∷ []) (sym (append_assoc (version_tokens v) before more)) ∙ append_assoc (version_tokens v ++ before) more (End ∷ []),
      )

  has_end : (ks before : List Kind) → Closed ks → ks ≡ before ++ [] → NoEnd before → ⊥
  has_end ks before c e free = no_end_within c.front [] (subst NoEnd (sym (append-nil before) ∙ (sym e ∙ c.whole)) free)

  declarations_fault : (ks : List Kind) (m : ℕ) → Closed ks → IsBehind v ks → (before left : List Kind) → ks ≡ before ++ left → length left ≡ m → (before ≡ []) ⊎ Begun (Row (DeclarationL n)) before → declarations_at n ks ≡ Err m → FaultBehind n v ks m
  declarations_fault ks m c plain before [] e count (inl nil) h = absurd (has_end ks before c e (subst NoEnd (sym nil) tt))
  declarations_fault ks m c plain before [] e count (inr (ds, more, l)) h = absurd (has_end ks before c e (no_end_front before more (D.plain ds (before ++ more) l)))
  declarations_fault ks m c plain before (t ∷ after) e count begun h = record {
    before = before;
    token = t;
    after = after;
    split = e;
    count = count;
    begins = ⊎_elim (λ nil. subst (λ z. Begins n (version_tokens v ++ z)) (sym nil) nothing_begins) (λ w. row_begins w.0 before w.1 w.2) begun;
    stops = no_more before after t (subst (IsBehind v) e plain) (ap (declarations_at n) (sym e) ∙ (h ∙ ap (λ z. Err z) (sym count)));
  }

  end_fault : (ks : List Kind) (m : ℕ) → Closed ks → IsBehind v ks → (ds : List Declaration) (p rest : List Kind) → ks ≡ p ++ rest → Row (DeclarationL n) ds p → declarations_at n ks ≡ Ok (ds, rest) → taken as_end rest ≡ Err m → FaultBehind n v ks m
  end_fault ks m c plain ds p [] e l h f = absurd (has_end ks p c e (D.plain ds p l))
  end_fault ks m c plain ds p (t ∷ after) e l h f =
      let w = taken_as_err (as_end t) (t ∷ after) after m f in
      record {
        before = p;
        token = t;
        after = after;
        split = e;
        count = w.1;
        begins = row_begins ds p [] (subst (Row (DeclarationL n) ds) (sym (append-nil p)) l);
        stops = only_end p after t ds (subst (IsBehind v) e plain) (ap (declarations_at n) (sym e) ∙ h) w.0;
      }

  behind_err : (ds : List Declaration) (ts : List Kind) (m : ℕ) → behind ds ts ≡ Err m → taken as_end ts ≡ Err m
  behind_err ds ts m h = ⊎_elim (λ w. w) (λ w. absurd (let e = w.2 in let b : ⊥ = cc in b)) (bind_err (taken as_end ts) (λ e. Ok (program_made v ds, e.1)) m h)

  rest_fault : (ks : List Kind) (m : ℕ) → Closed ks → IsBehind v ks → rest_at ks ≡ Err m → FaultBehind n v ks m
  rest_fault ks m c plain h = ⊎_elim
      (λ w. let s = D.stops ks m w in declarations_fault ks m c plain s.before s.left s.split s.count s.begun w)
      (λ w. let s = D.sound ks w.0 w.1 in end_fault ks m c plain w.0.0 s.0 w.0.1 s.1 s.2 w.1 (behind_err w.0.0 w.0.1 m w.2))
      (bind_err (declarations_at n ks) (λ ds. behind ds.0 ds.1) m h)

-- The whole program
module _ (n : ℕ) where
  program_behind : (v : Bool) (ts rest : List Kind) → version_at ts ≡ Ok (v, rest) → program_at n ts ≡ rest_at n v rest
  unfolding program_at
  program_behind v ts rest h = ap (λ r. r >>= λ x. rest_at n x.0 x.1) h

  program_broken : (ts : List Kind) (m : ℕ) → version_at ts ≡ Err m → program_at n ts ≡ Err m
  unfolding program_at
  program_broken ts m h = ap (λ r. r >>= λ x. rest_at n x.0 x.1) h

  pub program_sound : (ts : List Kind) (x : Program × List Kind) → program_at n ts ≡ Ok x → DeclarationsFit x.0.declarations n × (ts ≡ program_tokens x.0 ++ End ∷ x.1)
  program_sound ts x h = by_front (front_of ts)
    where
      by_front : Front ts → DeclarationsFit x.0.declarations n × (ts ≡ program_tokens x.0 ++ End ∷ x.1)
      by_front (of_first plain v) = rest_sound n false ts x (sym (program_behind false ts ts v) ∙ h)
      by_front (of_second rest e v) = let s = rest_sound n true rest x (sym (program_behind true ts rest v) ∙ h) in (s.0, e ∙ s.1)
      by_front (broken rest e none v) = absurd (let f = sym (program_broken ts (length rest) v) ∙ h in let b : ⊥ = cc in b)

  complete_by : (s : Bool) (ds : List Declaration) (rest : List Kind) → DeclarationsFit ds n → program_at n ((version_tokens s ++ flat_map declaration_tokens ds) ++ End ∷ rest) ≡ Ok (program_made s ds, rest)
  complete_by false ds rest fit =
      let ts = flat_map declaration_tokens ds ++ End ∷ rest in
      program_behind false ts ts (version_first ts (no_text ds rest)) ∙ rest_complete n false ds rest fit
  complete_by true ds rest fit =
      let ts = flat_map declaration_tokens ds ++ End ∷ rest in
      program_behind true (Text second_text ∷ Mark sign.Semicolon ∷ ts) ts refl ∙ rest_complete n true ds rest fit

  pub program_complete : (p : Program) (rest : List Kind) → DeclarationsFit p.declarations n → program_at n (program_tokens p ++ End ∷ rest) ≡ Ok (p, rest)
  program_complete p rest fit = complete_by p.second p.declarations rest fit

  -- the first token with which no program begins
  pub record FirstFault (ks : List Kind) (m : ℕ) : Type 0 where
    pub before : List Kind
    pub token : Kind
    pub after : List Kind
    pub split : ks ≡ before ++ token ∷ after
    pub count : suc (length after) ≡ m
    pub begins : Begins n before
    pub stops : Begins n (before ++ token ∷ []) → ⊥

  whole_fault : (v : Bool) (ks rest : List Kind) (m : ℕ) → ks ≡ version_tokens v ++ rest → FaultBehind n v rest m → FirstFault ks m
  whole_fault v ks rest m e f = record {
    before = version_tokens v ++ f.before;
    token = f.token;
    after = f.after;
    split = e ∙ ap (λ z. version_tokens v ++ z) f.split ∙ sym (append_assoc (version_tokens v) f.before (f.token ∷ f.after));
    count = f.count;
    begins = f.begins;
    stops = λ b. f.stops (subst (Begins n) (append_assoc (version_tokens v) f.before (f.token ∷ [])) b);
  }

  -- behind the text of version 2 only a semicolon goes on
  only_semicolon : (t : Kind) → is_mark sign.Semicolon t ≡ false → Begins n (Text second_text ∷ t ∷ []) → ⊥
  only_semicolon t none (p, more, fit, e) = by_version p.second e
    where
      by_version : (s : Bool) → (version_tokens s ++ flat_map declaration_tokens p.declarations) ++ End ∷ [] ≡ Text second_text ∷ t ∷ more → ⊥
      by_version true f = let is : Mark sign.Semicolon ≡ t = cc in false≢true (sym none ∙ sym (ap (is_mark sign.Semicolon) is))
      by_version false f = false≢true (sym (no_text p.declarations []) ∙ ap (next is_second) f)

  broken_fault : (ks rest : List Kind) → Closed ks → ks ≡ Text second_text ∷ rest → next (is_mark sign.Semicolon) rest ≡ false → FirstFault ks (length rest)
  broken_fault ks [] c e none = absurd (no_end_within c.front [] (subst NoEnd (sym e ∙ c.whole) (refl, tt)))
  broken_fault ks (t ∷ after) c e none = record {
    before = Text second_text ∷ [];
    token = t;
    after = after;
    split = e;
    count = omega arith;
    begins = (program_made true [], Mark sign.Semicolon ∷ End ∷ [], tt, refl);
    stops = only_semicolon t none;
  }

  pub program_fault : (ks : List Kind) (m : ℕ) → Closed ks → program_at n ks ≡ Err m → FirstFault ks m
  program_fault ks m c h = by_front (front_of ks)
    where
      by_front : Front ks → FirstFault ks m
      by_front (of_first plain v) = whole_fault false ks ks m refl (rest_fault n false ks m c (λ first. plain) (sym (program_behind false ks ks v) ∙ h))
      by_front (of_second rest e v) = whole_fault true ks rest m e (rest_fault n true rest m (closed_behind true ks rest c e) (λ first. let b : ⊥ = cc in absurd b) (sym (program_behind true ks rest v) ∙ h))
      by_front (broken rest e none v) =
          let same : ◌≡◌ {A = Read Program} (Err (length rest)) (Err m) = sym (program_broken ks (length rest) v) ∙ h in
          let count : length rest ≡ m = cc in
          subst (FirstFault ks) count (broken_fault ks rest c e none)

-- A list of tokens has at most one grammatical program.
pub one_program : (p q : Program) (ks : List Kind) → HasTokens p ks → HasTokens q ks → p ≡ q
one_program p q ks h g =
    let first = program_complete level_limit p [] h.0 in
    let second = program_complete level_limit q [] g.0 in
    let same : program_tokens p ++ End ∷ [] ≡ program_tokens q ++ End ∷ [] = sym h.1 ∙ g.1 in
    ap (λ z. z.0) (made (p, []) (q, []) (sym first ∙ (ap (program_at level_limit) same ∙ second)))

pub read_has_tokens : (p : Program) (ks rest : List Kind) → program_at level_limit ks ≡ Ok (p, rest) → (front : List Kind) × HasTokens p front × (ks ≡ front ++ rest)
read_has_tokens p ks rest h =
    let s = program_sound level_limit ks (p, rest) h in
    (program_tokens p ++ End ∷ [], (s.0, refl), s.1 ∙ sym (append_assoc (program_tokens p) (End ∷ []) rest))

pub has_tokens_read : (p : Program) (ks : List Kind) → HasTokens p ks → program_at level_limit ks ≡ Ok (p, [])
has_tokens_read p ks h = ap (program_at level_limit) h.1 ∙ program_complete level_limit p [] h.0

not_end : (k : Kind) → k ≢ End → is_end k ≡ false
not_end End h = absurd (h refl)
not_end _ h = refl

all_free : (ks : List Kind) → All (λ k. k ≢ End) ks → NoEnd ks
all_free [] h = tt
all_free (k ∷ ks) h = (not_end k (All-head (λ k. k ≢ End) k ks h), all_free ks (All-tail (λ k. k ≢ End) k ks h))

pub stops_first : (front : List Kind) (left : ℕ) → All (λ k. k ≢ End) front → program_at level_limit (front ++ End ∷ []) ≡ Err left → StopsFirst (front ++ End ∷ []) left
stops_first front left free h =
    let f = program_fault level_limit (front ++ End ∷ []) left (record { front = front; free = all_free front free; whole = refl }) h in
    record { before = f.before; token = f.token; after = f.after; split = f.split; count = f.count; begins = f.begins; stops = f.stops }
