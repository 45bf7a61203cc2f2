-- What is computed of a body asks only for what the body mentions.
use Rattle.std.proofs.Common.{◌≡◌, inl, inr, Bool, false, ◌||◌, List, [], ◌∷◌, ◌++◌, refl, ap, ◌∙◌}
use Rattle.std.specs.Prelude.{ℕ, fold, length}
use Rattle.rx_base.specs.Values.{Name}
use Rattle.rx_ast.specs.Syntax.{Program, Component, Function, Line, Slot, Slots, body_slots, Expr, Links, Exprs, exprs, KeyPlace}
use Rattle.rx_ast.specs.Syntax as syntax
use Rattle.rx_rules.specs.Names.{component_number, function_number}
use Rattle.rx_rules.specs.Keys.{carries_key}
use Rattle.rx_rules.specs.Bounds.{Column, slot_by, slots_by}
use Rattle.rx_mentions.specs.Mentions.{Scope, bound, expr_mentions, links_mentions, exprs_mentions, lines_mentions, after_line, names_mentions, no_scope, function_scope, function_mentions, attributes_mentions, taken_first, first_key_mentions, last_key_mentions, slot_mentions, slots_mentions, statements_mentions, parameters_mentions, component_mentions, component_scope, after_statement}
use Rattle.rx_mentions.specs.Mention.{Mention}
use Rattle.rx_mentions.specs.Mention as mention
use Rattle.rx_mentions.proofs.Among.{IsIn, IsIn-left, IsIn-right}
use Rattle.rx_figures.specs.Costs.{held_sum, expr_cost, links_cost, exprs_cost, lines_cost, body_cost}

-- Components

-- the two agree on each component that is mentioned
abbrev pub AgreePlaced : {A : Type 0} → Program → (ℕ → A) → (ℕ → A) → List Mention → Type 0
AgreePlaced p f g ms = (n : Name) (attrs : List Name) (filled : Bool) → IsIn (mention.Element n attrs filled) ms → f (component_number p n) ≡ g (component_number p n)

placed-left : {A : Type 0} (p : Program) (f g : ℕ → A) (ms ns : List Mention) → AgreePlaced p f g (ms ++ ns) → AgreePlaced p f g ms
placed-left p f g ms ns h n attrs filled i = h n attrs filled (IsIn-left _ ms ns i)

placed-right : {A : Type 0} (p : Program) (f g : ℕ → A) (ms ns : List Mention) → AgreePlaced p f g (ms ++ ns) → AgreePlaced p f g ns
placed-right p f g ms ns h n attrs filled i = h n attrs filled (IsIn-right _ ms ns i)

mutual
  slot-agree : {A : Type 0} (k : Column A) (p : Program) (f g : ℕ → A) (s : Scope) (second : Bool) (t : Slot) → AgreePlaced p f g (slot_mentions s second t) → slot_by k f p t ≡ slot_by k g p t
  slot-agree k p f g s second syntax.null h = refl
  slot-agree k p f g s second (syntax.words t) h = refl
  slot-agree k p f g s second (syntax.number_of e) h = refl
  slot-agree k p f g s second syntax.children h = refl
  slot-agree k p f g s second (syntax.repeated i e n t) h =
      ap (k.repeated n) (slot-agree k p f g (bound s i) false t (λ x attrs filled j. h x attrs filled (inr (IsIn-right _ (expr_mentions s.values e) _ (inr j)))))
  slot-agree k p f g s second (syntax.choice c a b) h =
      let r = placed-right p f g (expr_mentions s.values c) _ h in
      let one = slot-agree k p f g s second a (placed-left p f g _ (slot_mentions s second b) r) in
      let two = slot-agree k p f g s second b (placed-right p f g (slot_mentions s second a) _ r) in
      ap (λ v. k.choice v (slot_by k f p b)) one ∙ ap (λ v. k.choice (slot_by k g p a) v) two
  slot-agree k p f g s second (syntax.host n attrs w ss) h =
      ap k.around (slots-agree k p f g s false ss (λ x more filled i. h x more filled (inr (inr (IsIn-right _ (attributes_mentions s.values (taken_first second) attrs) _ i)))))
  slot-agree k p f g s second (syntax.comp n attrs w ss) h =
      let one : f (component_number p n) ≡ g (component_number p n) = h n _ _ (inl refl) in
      let two = slots-agree k p f g s false ss (λ x more filled i. h x more filled (inr (inr (IsIn-right _ (attributes_mentions s.values (taken_first second) attrs) _ i)))) in
      ap (λ v. k.component v (slots_by k f p ss)) one ∙ ap (λ v. k.component (g (component_number p n)) v) two
  slot-agree k p f g s second (syntax.boundary q t w ss) h =
      let first = placed-left p f g (first_key_mentions s.values second q ++ (slot_mentions s false t ++ last_key_mentions s.values second q)) (slots_mentions s false ss) h in
      let one = slots-agree k p f g s false ss (placed-right p f g (first_key_mentions s.values second q ++ (slot_mentions s false t ++ last_key_mentions s.values second q)) (slots_mentions s false ss) h) in
      let two = slot-agree k p f g s false t (placed-left p f g _ (last_key_mentions s.values second q) (placed-right p f g (first_key_mentions s.values second q) _ first)) in
      ap (λ v. k.boundary v (slot_by k f p t)) one ∙ ap (λ v. k.boundary (slots_by k g p ss) v) two
  slot-agree k p f g s second (syntax.catcher q t w ss) h =
      let first = placed-left p f g (first_key_mentions s.values second q ++ (slot_mentions s false t ++ last_key_mentions s.values second q)) (slots_mentions s false ss) h in
      let one = slots-agree k p f g s false ss (placed-right p f g (first_key_mentions s.values second q ++ (slot_mentions s false t ++ last_key_mentions s.values second q)) (slots_mentions s false ss) h) in
      let two = slot-agree k p f g s false t (placed-left p f g _ (last_key_mentions s.values second q) (placed-right p f g (first_key_mentions s.values second q) _ first)) in
      ap (λ v. k.catcher v (slot_by k f p t)) one ∙ ap (λ v. k.catcher (slots_by k g p ss) v) two
  slot-agree k p f g s second (syntax.provider n q e w ss) h =
      ap k.around (slots-agree k p f g s false ss (λ x more filled i. h x more filled (inr (IsIn-right _ (first_key_mentions s.values second q ++ (expr_mentions s.values e ++ last_key_mentions s.values second q)) _ i))))
  slot-agree k p f g s second (syntax.enclosed b t) h = slot-agree k p f g s second t h

  slots-agree : {A : Type 0} (k : Column A) (p : Program) (f g : ℕ → A) (s : Scope) (second : Bool) (ss : Slots) → AgreePlaced p f g (slots_mentions s second ss) → slots_by k f p ss ≡ slots_by k g p ss
  slots-agree k p f g s second syntax.no_slots h = refl
  slots-agree k p f g s second (syntax.slot t ts) h =
      let one = slot-agree k p f g s second t (placed-left p f g (slot_mentions s second t) _ h) in
      let two = slots-agree k p f g s (second || carries_key t) ts (placed-right p f g (slot_mentions s second t) _ h) in
      ap (λ v. k.beside v (slots_by k f p ts)) one ∙ ap (λ v. k.beside (slot_by k g p t) v) two

-- two that agree on what a component's body places give the same of the body
pub component-agree : {A : Type 0} (k : Column A) (p : Program) (f g : ℕ → A) (c : Component) → AgreePlaced p f g (component_mentions c)
    → slots_by k f p (body_slots c.body) ≡ slots_by k g p (body_slots c.body)
component-agree k p f g c h =
    slots-agree k p f g (fold after_statement (component_scope c) c.statements) false (body_slots c.body)
    (λ n attrs filled i. h n attrs filled (inr (inr (IsIn-right _ (parameters_mentions no_scope c.parameters) _ (IsIn-right _ (statements_mentions (component_scope c) c.statements) _ i)))))

-- Functions

-- the two agree on each function that is called
abbrev pub AgreeCalled : Program → (ℕ → ℕ) → (ℕ → ℕ) → List Mention → Type 0
AgreeCalled p f g ms = (n : Name) (a : ℕ) → IsIn (mention.Call n a) ms → f (function_number p n) ≡ g (function_number p n)

called-left : (p : Program) (f g : ℕ → ℕ) (ms ns : List Mention) → AgreeCalled p f g (ms ++ ns) → AgreeCalled p f g ms
called-left p f g ms ns h n a i = h n a (IsIn-left _ ms ns i)

called-right : (p : Program) (f g : ℕ → ℕ) (ms ns : List Mention) → AgreeCalled p f g (ms ++ ns) → AgreeCalled p f g ns
called-right p f g ms ns h n a i = h n a (IsIn-right _ ms ns i)

sum-agree : (a b c d : ℕ) → a ≡ b → c ≡ d → held_sum a c ≡ held_sum b d
sum-agree a b c d h k = ap (λ x. held_sum x c) h ∙ ap (λ x. held_sum b x) k

mutual
  expr-agree : (p : Program) (f g : ℕ → ℕ) (scope : List Name) (e : Expr) → AgreeCalled p f g (expr_mentions scope e) → expr_cost f p e ≡ expr_cost g p e
  expr-agree p f g scope (syntax.number n) h = refl
  expr-agree p f g scope (syntax.variable x) h = refl
  expr-agree p f g scope (syntax.grouped e) h = expr-agree p f g scope e h
  expr-agree p f g scope (syntax.prefixed o e) h = ap (held_sum 1) (expr-agree p f g scope e h)
  expr-agree p f g scope (syntax.chain e ls) h =
      sum-agree _ _ _ _ (expr-agree p f g scope e (called-left p f g (expr_mentions scope e) _ h)) (links-agree p f g scope ls (called-right p f g (expr_mentions scope e) _ h))
  expr-agree p f g scope (syntax.chosen c a b) h =
      let r = called-right p f g (expr_mentions scope c) _ h in
      ap (held_sum 1)
      (sum-agree _ _ _ _ (expr-agree p f g scope c (called-left p f g (expr_mentions scope c) _ h))
      (sum-agree _ _ _ _ (expr-agree p f g scope a (called-left p f g (expr_mentions scope a) _ r)) (expr-agree p f g scope b (called-right p f g (expr_mentions scope a) _ r))))
  expr-agree p f g scope (syntax.called x es) h =
      ap (held_sum 1) (sum-agree _ _ _ _ (exprs-agree p f g scope es (λ n a i. h n a (inr i))) (h x (length (exprs es)) (inl refl)))

  links-agree : (p : Program) (f g : ℕ → ℕ) (scope : List Name) (ls : Links) → AgreeCalled p f g (links_mentions scope ls) → links_cost f p ls ≡ links_cost g p ls
  links-agree p f g scope syntax.no_links h = refl
  links-agree p f g scope (syntax.link o e ls) h =
      sum-agree _ _ _ _ (ap (held_sum 1) (expr-agree p f g scope e (called-left p f g (expr_mentions scope e) _ h))) (links-agree p f g scope ls (called-right p f g (expr_mentions scope e) _ h))

  exprs-agree : (p : Program) (f g : ℕ → ℕ) (scope : List Name) (es : Exprs) → AgreeCalled p f g (exprs_mentions scope es) → exprs_cost f p es ≡ exprs_cost g p es
  exprs-agree p f g scope syntax.no_exprs h = refl
  exprs-agree p f g scope (syntax.expr e es) h =
      sum-agree _ _ _ _ (expr-agree p f g scope e (called-left p f g (expr_mentions scope e) _ h)) (exprs-agree p f g scope es (called-right p f g (expr_mentions scope e) _ h))

lines-agree : (p : Program) (f g : ℕ → ℕ) (s : Scope) (ls : List Line) → AgreeCalled p f g (lines_mentions s ls) → lines_cost f p ls ≡ lines_cost g p ls
lines-agree p f g s [] h = refl
lines-agree p f g s (l ∷ ls) h =
    sum-agree _ _ _ _ (expr-agree p f g s.values l.value (λ n a i. h n a (inr (IsIn-left _ (expr_mentions s.values l.value) _ i))))
    (lines-agree p f g (after_line s l) ls (λ n a i. h n a (inr (IsIn-right _ (expr_mentions s.values l.value) _ i))))

-- two that agree on what a function calls give the same cost of it
pub function-agree : (p : Program) (f g : ℕ → ℕ) (fn : Function) → AgreeCalled p f g (function_mentions fn) → body_cost f p fn ≡ body_cost g p fn
function-agree p f g fn h =
    let rest : AgreeCalled p f g (lines_mentions (function_scope fn) fn.lines ++ expr_mentions (fold after_line (function_scope fn) fn.lines).values fn.answer) =
    λ n a i. h n a (inr (inr (IsIn-right _ (names_mentions no_scope fn.parameters) _ i))) in
    sum-agree _ _ _ _ (lines-agree p f g (function_scope fn) fn.lines (called-left p f g (lines_mentions (function_scope fn) fn.lines) _ rest))
    (expr-agree p f g (fold after_line (function_scope fn) fn.lines).values fn.answer (called-right p f g (lines_mentions (function_scope fn) fn.lines) _ rest))
