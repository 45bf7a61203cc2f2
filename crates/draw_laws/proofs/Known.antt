-- What a name stands for is there, if each name of a program is known.
use Rattle.std.specs.Prelude.{◌≡◌, ℕ, zero, suc, ◌+◌, ◌<◌, Bool, true, false, not, cond, nat_eq, nat_lt, List, [], ◌∷◌, Option, Some, None, bytes_eq, filter_map, find, length, map, option_map, slice_get, unwrap_or, refl}
use Rattle.std.specs.List.{position_or_len}
use Rattle.std.specs.Option.{option_map_or}
use Rattle.std.proofs.Common.{sym, ap, subst, ◌∙◌, arith}
use Rattle.std.proofs.lemmas.Bool.Decides.{nat_tests}
use Rattle.std.proofs.lemmas.Slice.Eq.{bytes_eq-Decides}
use Rattle.rx_base.specs.Values.{Name}
use Rattle.rx_ast.specs.Syntax.{Component, Context, Parameter, Program, components, contexts}
use Rattle.rx_rules.specs.Names.{component_at, component_named, component_names, component_number, context_number, has_name, integer_in, place_among, prop_names, root_name}
use Rattle.rx_names.specs.Listed.{context_names}
use Rattle.rx_mentions.specs.Mentions.{mentions}
use Rattle.rx_mentions.specs.Mention.{Mention}
use Rattle.rx_mentions.specs.Mention as mention
use Rattle.rx_mentions.proofs.Among.{IsIn, IsIn-filter_map}
use Rattle.rx_check.specs.Checks.{is_rooted, unknown_in, unknowns, unless}
use Rattle.rx_meaning.specs.Fresh.{root_element}
use Rattle.draw_laws.specs.Drawn.{IsDrawn}

-- a mention of a program is known
known_in : (p : Program) (m : Mention) → unknowns p ≡ [] → IsIn m (mentions p) → unknown_in p m ≡ None
known_in p m e h = go (unknown_in p m) refl
  where
    go : (o : Option Name) → unknown_in p m ≡ o → o ≡ None
    go None same = refl
    go (Some x) same = absurd (subst (IsIn x) e (IsIn-filter_map (unknown_in p) m x (mentions p) same h))

is_known : (ok : Bool) (x : Name) → unless ok x ≡ None → ok ≡ true
is_known true x e = refl
is_known false x e = absurd (cc e)

-- a component that an element names is declared
pub component_known : (p : Program) (name : Name) (attrs : List Name) (filled : Bool) → unknowns p ≡ [] → IsIn (mention.Element name attrs filled) (mentions p)
    → has_name (component_names p) name ≡ true
component_known p name attrs filled e h = is_known (has_name (component_names p) name) name (known_in p (mention.Element name attrs filled) e h)

-- a context that a provider names is declared
pub context_known : (p : Program) (name : Name) → unknowns p ≡ [] → IsIn (mention.Context name) (mentions p) → has_name (context_names p) name ≡ true
context_known p name e h = is_known (has_name (context_names p) name) name (known_in p (mention.Context name) e h)

-- Numbers

some_name : (names : List Name) (name : Name) → has_name names name ≡ true → 0 < length names
some_name [] name h = absurd (cc h)
some_name (n ∷ names) name h = omega arith

place_within : (names : List Name) (k : ℕ) (b : Bool) → 0 < length names → nat_lt k (length names) ≡ b → unwrap_or (cond b (Some k) None) 0 < length names
place_within names k true some e = grind (arith, nat_tests)
place_within names k false some e = some

-- the place of a name that is among names is one of theirs
pub place_among-lt : (names : List Name) (name : Name) → has_name names name ≡ true → place_among names name < length names
place_among-lt names name h =
    place_within names (position_or_len (bytes_eq name) names) (nat_lt (position_or_len (bytes_eq name) names) (length names)) (some_name names name h) refl

got : {X : Type 0} (xs : List X) (k : ℕ) → k < length xs → (x : X) × (slice_get xs k ≡ Some x)
got [] k h = absurd (omega arith)
got (x ∷ xs) zero h = (x, refl)
got (x ∷ xs) (suc k) h = got xs k (omega arith)

length-names : (cs : List Component) → length (map (λ (c : Component). c.name) cs) ≡ length cs
length-names [] = refl
length-names (c ∷ cs) = omega (arith, length-names cs)

length-contexts : (cs : List Context) → length (map (λ (c : Context). c.name) cs) ≡ length cs
length-contexts [] = refl
length-contexts (c ∷ cs) = omega (arith, length-contexts cs)

-- the component of a name that is declared
pub component_there : (p : Program) (name : Name) → has_name (component_names p) name ≡ true → (d : Component) × (component_at p (component_number p name) ≡ Some d)
component_there p name h =
    let lt = place_among-lt (component_names p) name h in
    let same = length-names (components p) in
    got (components p) (component_number p name) (omega arith)

-- the context of a name that is declared
pub context_there : (p : Program) (name : Name) → has_name (context_names p) name ≡ true → context_number p name < length (contexts p)
context_there p name h =
    let lt = place_among-lt (context_names p) name h in
    let same = length-contexts (contexts p) in
    omega arith

-- The root

same_turned : (x y : Name) (b c : Bool) → bytes_eq x y ≡ b → bytes_eq y x ≡ c → b ≡ c
same_turned x y true true e f = refl
same_turned x y false false e f = refl
same_turned x y true false e f = let back : bytes_eq y x ≡ true = (bytes_eq-Decides y x).1 (sym ((bytes_eq-Decides x y).0 e)) in absurd (cc)
same_turned x y false true e f = let back : bytes_eq x y ≡ true = (bytes_eq-Decides x y).1 (sym ((bytes_eq-Decides y x).0 f)) in absurd (cc)

bytes_eq-turned : (x y : Name) → bytes_eq x y ≡ bytes_eq y x
bytes_eq-turned x y = same_turned x y (bytes_eq x y) (bytes_eq y x) refl refl

-- the place of the first of a name
abbrev place : Name → List Component → ℕ
place name cs = position_or_len (bytes_eq name) (map (λ (c : Component). c.name) cs)

behind : (c : Component) (cs : List Component) (n : ℕ) → slice_get (c ∷ cs) (1 + n) ≡ slice_get cs n
behind c cs n = let e : 1 + n ≡ suc n = omega arith in rw e refl

found : (name : Name) (cs : List Component) → find (λ (c : Component). bytes_eq c.name name) cs ≡ slice_get cs (place name cs)
found name [] = refl
found name (c ∷ cs) = go (found name cs) (bytes_eq name c.name) refl
  where
    go : find (λ (d : Component). bytes_eq d.name name) cs ≡ slice_get cs (place name cs) → (b : Bool) → bytes_eq name c.name ≡ b
        → find (λ (d : Component). bytes_eq d.name name) (c ∷ cs) ≡ slice_get (c ∷ cs) (cond (not b) (1 + place name cs) 0)
    go rest true e = rw (bytes_eq-turned c.name name, e) refl
    go rest false e = rw (bytes_eq-turned c.name name, e) (rest ∙ sym (behind c cs (place name cs)))

within : {X : Type 0} (xs : List X) (k : ℕ) (x : X) → slice_get xs k ≡ Some x → k < length xs
within [] k x e = absurd (cc e)
within (y ∷ xs) zero x e = omega arith
within (y ∷ xs) (suc k) x e = omega (arith, within xs k x e)

-- the component of a name is that of its number
named_at : (p : Program) (name : Name) (d : Component) → component_named p name ≡ Some d → component_at p (component_number p name) ≡ Some d
named_at p name d e = go (nat_lt k (length names)) refl
  where
    names : List Name
    names = component_names p

    k : ℕ
    k = place name (components p)

    at : slice_get (components p) k ≡ Some d
    at = sym (found name (components p)) ∙ e

    go : (b : Bool) → nat_lt k (length names) ≡ b → slice_get (components p) (unwrap_or (cond b (Some k) None) 0) ≡ Some d
    go true t = at
    go false t = let lt = within (components p) k d at in let same = length-names (components p) in absurd (grind (arith, nat_tests))

no_props : (d : Component) (ps : List Parameter) → nat_eq (length ps) 0 ≡ true → length (filter_map integer_in ps) ≡ 0
no_props d [] e = refl
no_props d (x ∷ ps) e = absurd (grind (arith, nat_tests))

-- the root's element fits a program that has a root without parameters
pub root_fits : (p : Program) → is_rooted p ≡ true → IsDrawn p (root_element p)
root_fits p e = (go (component_named p root_name) refl e, tt)
  where
    go : (o : Option Component) → component_named p root_name ≡ o → option_map_or (λ (c : Component). nat_eq (length c.parameters) 0) o false ≡ true
        → option_map (λ (d : Component). length (prop_names d)) (component_at p (component_number p root_name)) ≡ Some 0
    go None same h = absurd (cc h)
    go (Some d) same h = ap (option_map (λ (d : Component). length (prop_names d))) (named_at p root_name d same) ∙ ap (λ n. Some n) (no_props d d.parameters h)
