-- The first component for which the root waits or throws.
use Rattle.std.proofs.Common.{◌≡◌, ◌≤◌, ◌<◌, ◌+◌, ◌⊎◌, inl, inr, Bool, true, false, ◌&&◌, ◌||◌, List, [], ◌∷◌, Option, Some, None, refl, sym, ap, subst, ◌∙◌, arith, length}
use Rattle.std.specs.Prelude.{ℕ, zero, suc, min, bytes_eq, filter, cond, is_some, position, slice_get}
use Rattle.std.specs.List.{position_from}
use Rattle.std.specs.Option.{option_and_then}
use Rattle.std.proofs.lemmas.Iterator.Adapters.{position_from-zero}
use Rattle.std.proofs.lemmas.Option.{slice_get_within}
use Rattle.std.proofs.lemmas.Slice.Eq.{bytes_eq-Decides}
use Rattle.rx_base.specs.Values.{Name}
use Rattle.rx_ast.specs.Syntax.{Program, Component}
use Rattle.rx_rules.specs.Names.{component_number, component_named, component_names, root_name}
use Rattle.rx_rules.specs.Bounds.{body_by, Waits, may_wait, reads_resource, may_throw, has_throw}
use Rattle.rx_order.specs.Graphs.{first}
use Rattle.rx_order.proofs.Finishing.{or-cases, and-cases, both, or-left, or-right}
use Rattle.rx_figures.specs.Figures.{figures, nesting_levels, earlier, reader_of, thrower_of}
use Rattle.rx_figures.specs.declared.figures.Figures.{Figures}
use Rattle.rx_figures.proofs.Along.{Along, body-along}
use Rattle.rx_check.specs.Checks.{root_waits_for, outside_uses, root_throws_for, outside_throws}

-- there is a number, and it is not behind this one
abbrev Reaches : ℕ → Option ℕ → Type 0
Reaches i None = ⊥
Reaches i (Some m) = m ≤ i

reaches-left : (i : ℕ) (a b : Option ℕ) → Reaches i a → Reaches i (earlier a b)
reaches-left i None b h = absurd h
reaches-left i (Some m) None h = h
reaches-left i (Some m) (Some n) h = omega (arith, h)

reaches-right : (i : ℕ) (a b : Option ℕ) → Reaches i b → Reaches i (earlier a b)
reaches-right i None b h = h
reaches-right i (Some m) None h = absurd h
reaches-right i (Some m) (Some n) h = omega (arith, h)

itself : (n : Name) → bytes_eq n n ≡ true
itself n = (bytes_eq-Decides n n).1 refl

-- What waits for the component of this number waits for none behind it.
abbrev IsReached : ℕ → Figures → Waits → Type 0
IsReached i f w = (w.own ≡ true → Reaches i f.waits) × (f.unguarded ≡ w.given)

-- And what throws for it throws for none behind it.
abbrev IsThrown : ℕ → Figures → Waits → Type 0
IsThrown i f w = (w.own ≡ true → Reaches i f.throws) × (f.uncaught ≡ w.given)

either-reached : (i : ℕ) (a b : Option ℕ) (v w : Bool) → (v ≡ true → Reaches i a) → (w ≡ true → Reaches i b) → (v || w) ≡ true → Reaches i (earlier a b)
either-reached i a b v w f g h = elim (or-cases v w h) [ inl e ↦ reaches-left i a b (f e) | inr e ↦ reaches-right i a b (g e) ]

passed-reached : (i : ℕ) (a b : Option ℕ) (u v g w : Bool) → u ≡ g → (v ≡ true → Reaches i a) → (w ≡ true → Reaches i b) → (v || (g && w)) ≡ true → Reaches i (earlier a (cond u b None))
passed-reached i a b u v g w e f k h =
    elim (or-cases v (g && w) h) [
      | inl l ↦ reaches-left i a (cond u b None) (f l)
      | inr l ↦
          let two = and-cases g w l in
          reaches-right i a (cond u b None) (subst (λ t. Reaches i (cond t b None)) (sym (e ∙ two.0)) (k two.1))
    ]

own-reached : (p : Program) (x : Name) (i : ℕ) (c : Component) (own : Bool) → position_from (bytes_eq x) 0 (component_names p) ≡ Some i → (bytes_eq c.name x && own) ≡ true → Reaches i (cond own (position (bytes_eq c.name) (component_names p)) None)
own-reached p x i c own at h =
    let two = and-cases (bytes_eq c.name x) own h in
    let same : c.name ≡ x = (bytes_eq-Decides c.name x).0 two.0 in
    let place : position (bytes_eq c.name) (component_names p) ≡ Some i = ap (λ y. position (bytes_eq y) (component_names p)) same ∙ (position_from-zero {B = Name} (bytes_eq x) (component_names p) ∙ at) in
    let number : cond own (position (bytes_eq c.name) (component_names p)) None ≡ Some i = ap (λ r. cond r (position (bytes_eq c.name) (component_names p)) None) two.1 ∙ place in
    let least : i ≤ i = omega arith in
    subst (Reaches i) (sym number) least

are-reached : (p : Program) (x : Name) (i : ℕ) → position_from (bytes_eq x) 0 (component_names p) ≡ Some i → Along (figures p) (may_wait (λ d. bytes_eq d.name x)) (IsReached i)
are-reached p x i at = record {
  at_nothing = (λ h. cc, refl);
  at_text = (λ h. cc, refl);
  at_children = (λ h. cc, refl);
  at_repeated = λ n a b h. h;
  at_choice = λ a a' b b' h l. (either-reached i a.waits a'.waits b.own b'.own h.0 l.0, rw (h.1, l.1) refl);
  at_around = λ a b h. h;
  at_boundary = λ a a' b b' h l. l;
  at_catcher = λ a a' b b' h l. (either-reached i a.waits a'.waits b.own b'.own h.0 l.0, rw (h.1, l.1) refl);
  at_component = λ a a' b b' h l. (passed-reached i a.waits a'.waits a.unguarded b.own b.given b'.own h.1 h.0 l.0, rw (h.1, l.1) refl);
  at_body = λ c a b h. (either-reached i (reader_of p c) a.waits (bytes_eq c.name x && reads_resource c) b.own (own-reached p x i c (reads_resource c) at) h.0, h.1);
  at_beside = λ a a' b b' h l. (either-reached i a.waits a'.waits b.own b'.own h.0 l.0, rw (h.1, l.1) refl);
}

are-thrown : (p : Program) (x : Name) (i : ℕ) → position_from (bytes_eq x) 0 (component_names p) ≡ Some i → Along (figures p) (may_throw (λ d. bytes_eq d.name x)) (IsThrown i)
are-thrown p x i at = record {
  at_nothing = (λ h. cc, refl);
  at_text = (λ h. cc, refl);
  at_children = (λ h. cc, refl);
  at_repeated = λ n a b h. h;
  at_choice = λ a a' b b' h l. (either-reached i a.throws a'.throws b.own b'.own h.0 l.0, rw (h.1, l.1) refl);
  at_around = λ a b h. h;
  at_boundary = λ a a' b b' h l. (either-reached i a.throws a'.throws b.own b'.own h.0 l.0, rw (h.1, l.1) refl);
  at_catcher = λ a a' b b' h l. l;
  at_component = λ a a' b b' h l. (passed-reached i a.throws a'.throws a.uncaught b.own b.given b'.own h.1 h.0 l.0, rw (h.1, l.1) refl);
  at_body = λ c a b h. (either-reached i (thrower_of p c) a.throws (bytes_eq c.name x && has_throw c) b.own (own-reached p x i c (has_throw c) at) h.0, h.1);
  at_beside = λ a a' b b' h l. (either-reached i a.throws a'.throws b.own b'.own h.0 l.0, rw (h.1, l.1) refl);
}

-- What waits for none before the component of this number, but for that one, waits for its name.
abbrev IsNamed : ℕ → Figures → Waits → Type 0
IsNamed m f w = (f.waits ≡ Some m → w.own ≡ true) × (f.unguarded ≡ w.given)

-- And so what throws.
abbrev IsThrownBy : ℕ → Figures → Waits → Type 0
IsThrownBy m f w = (f.throws ≡ Some m → w.own ≡ true) × (f.uncaught ≡ w.given)

least-of : (p q : ℕ) → (min p q ≡ p) ⊎ (min p q ≡ q)
least-of zero q = inl (omega arith)
least-of (suc p) zero = inr (omega arith)
least-of (suc p) (suc q) = elim (least-of p q) [ inl e ↦ inl (omega (arith, e)) | inr e ↦ inr (omega (arith, e)) ]

earlier-is : (a b : Option ℕ) (m : ℕ) → earlier a b ≡ Some m → (a ≡ Some m) ⊎ (b ≡ Some m)
earlier-is None b m h = inr h
earlier-is (Some p) None m h = inl h
earlier-is (Some p) (Some q) m h =
    let least : min p q ≡ m = cc in
    elim (least-of p q) [ inl e ↦ inl (ap Some (sym e ∙ least)) | inr e ↦ inr (ap Some (sym e ∙ least)) ]

cond-some : (u : Bool) (a : Option ℕ) (m : ℕ) → cond u a None ≡ Some m → (u ≡ true) × (a ≡ Some m)
cond-some true a m h = (refl, h)
cond-some false a m h = cc

either-named : (m : ℕ) (a b : Option ℕ) (v w : Bool) → (a ≡ Some m → v ≡ true) → (b ≡ Some m → w ≡ true) → earlier a b ≡ Some m → (v || w) ≡ true
either-named m a b v w f g h = elim (earlier-is a b m h) [ inl e ↦ or-left v w (f e) | inr e ↦ or-right v w (g e) ]

passed-named : (m : ℕ) (a b : Option ℕ) (u v g w : Bool) → u ≡ g → (a ≡ Some m → v ≡ true) → (b ≡ Some m → w ≡ true) → earlier a (cond u b None) ≡ Some m → (v || (g && w)) ≡ true
passed-named m a b u v g w e f k h =
    elim (earlier-is a (cond u b None) m h) [
      | inl l ↦ or-left v (g && w) (f l)
      | inr l ↦ let two = cond-some u b m l in or-right v (g && w) (both g w (sym e ∙ two.0) (k two.1))
    ]

-- at the place of a name stands the name
positioned : (y : Name) (b : ℕ) (ns : List Name) (i : ℕ) → position_from (bytes_eq y) b ns ≡ Some i → (k : ℕ) × (i ≡ b + k) × (slice_get ns k ≡ Some y)
positioned y b [] i h = cc
positioned y b (n ∷ ns) i h = go (λ e. positioned y (b + 1) ns i e) (bytes_eq y n) refl h
  where
    go : (position_from (bytes_eq y) (b + 1) ns ≡ Some i → (k : ℕ) × (i ≡ b + 1 + k) × (slice_get ns k ≡ Some y)) → (t : Bool) → bytes_eq y n ≡ t
        → cond t (Some b) (position_from (bytes_eq y) (b + 1) ns) ≡ Some i → (k : ℕ) × (i ≡ b + k) × (slice_get (n ∷ ns) k ≡ Some y)
    go later true e h = let here : b ≡ i = cc in (0, omega (arith, here), ap Some (sym ((bytes_eq-Decides y n).0 e)))
    go later false e h = let r = later h in (suc r.0, omega (arith, r.1), r.2)

own-named : (p : Program) (x : Name) (m : ℕ) (c : Component) (own : Bool) → slice_get (component_names p) m ≡ Some x → cond own (position (bytes_eq c.name) (component_names p)) None ≡ Some m → (bytes_eq c.name x && own) ≡ true
own-named p x m c own at h =
    let two = cond-some own (position (bytes_eq c.name) (component_names p)) m h in
    let r = positioned c.name 0 (component_names p) m (sym (position_from-zero {B = Name} (bytes_eq c.name) (component_names p)) ∙ two.1) in
    let place : r.0 ≡ m = omega (arith, r.1) in
    let both-names : Some c.name ≡ Some x = sym r.2 ∙ (ap (slice_get (component_names p)) place ∙ at) in
    let same : c.name ≡ x = cc in
    both (bytes_eq c.name x) own ((bytes_eq-Decides c.name x).1 same) two.0

are-named : (p : Program) (x : Name) (m : ℕ) → slice_get (component_names p) m ≡ Some x → Along (figures p) (may_wait (λ d. bytes_eq d.name x)) (IsNamed m)
are-named p x m at = record {
  at_nothing = (λ h. cc, refl);
  at_text = (λ h. cc, refl);
  at_children = (λ h. cc, refl);
  at_repeated = λ n a b h. h;
  at_choice = λ a a' b b' h l. (either-named m a.waits a'.waits b.own b'.own h.0 l.0, rw (h.1, l.1) refl);
  at_around = λ a b h. h;
  at_boundary = λ a a' b b' h l. l;
  at_catcher = λ a a' b b' h l. (either-named m a.waits a'.waits b.own b'.own h.0 l.0, rw (h.1, l.1) refl);
  at_component = λ a a' b b' h l. (passed-named m a.waits a'.waits a.unguarded b.own b.given b'.own h.1 h.0 l.0, rw (h.1, l.1) refl);
  at_body = λ c a b h. (either-named m (reader_of p c) a.waits (bytes_eq c.name x && reads_resource c) b.own (own-named p x m c (reads_resource c) at) h.0, h.1);
  at_beside = λ a a' b b' h l. (either-named m a.waits a'.waits b.own b'.own h.0 l.0, rw (h.1, l.1) refl);
}

are-thrown_by : (p : Program) (x : Name) (m : ℕ) → slice_get (component_names p) m ≡ Some x → Along (figures p) (may_throw (λ d. bytes_eq d.name x)) (IsThrownBy m)
are-thrown_by p x m at = record {
  at_nothing = (λ h. cc, refl);
  at_text = (λ h. cc, refl);
  at_children = (λ h. cc, refl);
  at_repeated = λ n a b h. h;
  at_choice = λ a a' b b' h l. (either-named m a.throws a'.throws b.own b'.own h.0 l.0, rw (h.1, l.1) refl);
  at_around = λ a b h. h;
  at_boundary = λ a a' b b' h l. (either-named m a.throws a'.throws b.own b'.own h.0 l.0, rw (h.1, l.1) refl);
  at_catcher = λ a a' b b' h l. l;
  at_component = λ a a' b b' h l. (passed-named m a.throws a'.throws a.uncaught b.own b.given b'.own h.1 h.0 l.0, rw (h.1, l.1) refl);
  at_body = λ c a b h. (either-named m (thrower_of p c) a.throws (bytes_eq c.name x && has_throw c) b.own (own-named p x m c (has_throw c) at) h.0, h.1);
  at_beside = λ a a' b b' h l. (either-named m a.throws a'.throws b.own b'.own h.0 l.0, rw (h.1, l.1) refl);
}

-- Lists of names

module _ (q : Name → Bool) (b : ℕ) (n : Name) (ns : List Name) where
  -- the first of a list stands at its first place
  head-place : position_from (bytes_eq n) b (n ∷ ns) ≡ Some b
  head-place = ap (λ t. cond t (Some b) (position_from (bytes_eq n) (b + 1) ns)) (itself n)

  -- the place of a name that passes behind one that does not
  later-place : (y : Name) (i : ℕ) → q n ≡ false → position_from (bytes_eq y) (b + 1) ns ≡ Some i → q y ≡ true → position_from (bytes_eq y) b (n ∷ ns) ≡ Some i
  later-place y i fails r s = go (bytes_eq y n) refl
    where
      go : (t : Bool) → bytes_eq y n ≡ t → cond t (Some b) (position_from (bytes_eq y) (b + 1) ns) ≡ Some i
      go true e = let same : y ≡ n = (bytes_eq-Decides y n).0 e in let bad : true ≡ false = sym s ∙ (ap q same ∙ fails) in cc
      go false e = r

none-found : (q : Name → Bool) (b : ℕ) (ns : List Name) → ((y : Name) (i : ℕ) → position_from (bytes_eq y) b ns ≡ Some i → q y ≡ true → ⊥) → filter q ns ≡ []
none-found q b [] h = refl
none-found q b (n ∷ ns) h = ap (λ t. cond t (n ∷ filter q ns) (filter q ns)) fails ∙ none-found q (b + 1) ns (λ y i r s. h y i (later-place q b n ns y i fails r s) s)
  where
    not-here : (t : Bool) → q n ≡ t → t ≡ false
    not-here true e = absurd (h n b (head-place q b n ns) e)
    not-here false e = refl

    fails : q n ≡ false
    fails = not-here (q n) refl

first-found : (q : Name → Bool) (b : ℕ) (ns : List Name) (k : ℕ) (x : Name) → slice_get ns k ≡ Some x → q x ≡ true
    → ((y : Name) (i : ℕ) → position_from (bytes_eq y) b ns ≡ Some i → q y ≡ true → b + k ≤ i) → first (filter q ns) ≡ Some x
first-found q b [] k x g t h = cc
first-found q b (n ∷ ns) zero x g t h =
    let same : n ≡ x = cc in
    ap (λ v. first (cond v (n ∷ filter q ns) (filter q ns))) (ap q same ∙ t) ∙ ap Some same
first-found q b (n ∷ ns) (suc k) x g t h =
    ap (λ v. first (cond v (n ∷ filter q ns) (filter q ns))) fails
    ∙ first-found q (b + 1) ns k x g t (λ y i r s. let later : b + suc k ≤ i = h y i (later-place q b n ns y i fails r s) s in omega (arith, later))
  where
    not-here : (v : Bool) → q n ≡ v → v ≡ false
    not-here true e = let bad : b + suc k ≤ b = h n b (head-place q b n ns) e in absurd (omega (arith, bad))
    not-here false e = refl

    fails : q n ≡ false
    fails = not-here (q n) refl

-- where nothing stands, the list has ended
past-end : (ns : List Name) (m : ℕ) → slice_get ns m ≡ None → length ns ≤ m
past-end [] m e = omega arith
past-end (n ∷ ns) zero e = cc
past-end (n ∷ ns) (suc m) e = omega (arith, past-end ns m e)

-- the first of the names that pass a test, from a number that no passing name stands before, and at which one stands that passes
filtered : (q : Name → Bool) (ns : List Name) (o : Option ℕ)
    → ((y : Name) (i : ℕ) → position_from (bytes_eq y) 0 ns ≡ Some i → q y ≡ true → Reaches i o) → ((x : Name) (m : ℕ) → slice_get ns m ≡ Some x → o ≡ Some m → q x ≡ true)
    → first (filter q ns) ≡ option_and_then (slice_get ns) o
filtered q ns None reached named = ap first (none-found q 0 ns reached)
filtered q ns (Some m) reached named = go (slice_get ns m) refl
  where
    go : (f : Option Name) → slice_get ns m ≡ f → first (filter q ns) ≡ f
    go (Some x) at = first-found q 0 ns m x at (named x m at refl)
        (λ y i place w. let behind : m ≤ i = reached y i place w in omega (arith, behind))
    go None at =
        ap first (none-found q 0 ns (λ y i place w.
        let r = positioned y 0 ns i place in
        let inside : r.0 < length ns = slice_get_within ns r.0 y r.2 in
        let behind : m ≤ i = reached y i place w in
        absurd (omega (arith, r.1, inside, behind, past-end ns m at))))

-- the figures of the root
abbrev root_of : Program → Figures
root_of p = body_by (figures p) (nesting_levels p) p (component_number p root_name)

waits-first : (p : Program) → first (filter (root_waits_for p) (component_names p)) ≡ option_and_then (slice_get (component_names p)) (root_of p).waits
waits-first p = filtered (root_waits_for p) (component_names p) (root_of p).waits
    (λ y i at w. (body-along (figures p) (may_wait (λ d. bytes_eq d.name y)) (IsReached i) (are-reached p y i at) (nesting_levels p) p (component_number p root_name)).0 w)
    (λ x m at w. (body-along (figures p) (may_wait (λ d. bytes_eq d.name x)) (IsNamed m) (are-named p x m at) (nesting_levels p) p (component_number p root_name)).0 w)

throws-first : (p : Program) → first (filter (root_throws_for p) (component_names p)) ≡ option_and_then (slice_get (component_names p)) (root_of p).throws
throws-first p = filtered (root_throws_for p) (component_names p) (root_of p).throws
    (λ y i at w. (body-along (figures p) (may_throw (λ d. bytes_eq d.name y)) (IsThrown i) (are-thrown p y i at) (nesting_levels p) p (component_number p root_name)).0 w)
    (λ x m at w. (body-along (figures p) (may_throw (λ d. bytes_eq d.name x)) (IsThrownBy m) (are-thrown_by p x m at) (nesting_levels p) p (component_number p root_name)).0 w)

-- the first component for whose resources the root waits, from the number that its figures have
pub first-outside : (p : Program) (o : Option ℕ) → o ≡ (body_by (figures p) (nesting_levels p) p (component_number p root_name)).waits
    → is_some (component_named p root_name) ≡ true → first (outside_uses p) ≡ option_and_then (slice_get (component_names p)) o
first-outside p o e r = ap (λ t. first (cond t (filter (root_waits_for p) (component_names p)) [])) r ∙ (waits-first p ∙ ap (option_and_then (slice_get (component_names p))) (sym e))

-- and none if there is no root
pub none-outside : (p : Program) → is_some (component_named p root_name) ≡ false → first (outside_uses p) ≡ None
none-outside p r = ap (λ t. first (cond t (filter (root_waits_for p) (component_names p)) [])) r

-- the first component for which the root throws
pub first-thrown : (p : Program) (o : Option ℕ) → o ≡ (body_by (figures p) (nesting_levels p) p (component_number p root_name)).throws
    → is_some (component_named p root_name) ≡ true → first (outside_throws p) ≡ option_and_then (slice_get (component_names p)) o
first-thrown p o e r = ap (λ t. first (cond t (filter (root_throws_for p) (component_names p)) [])) r ∙ (throws-first p ∙ ap (option_and_then (slice_get (component_names p))) (sym e))

pub none-thrown : (p : Program) → is_some (component_named p root_name) ≡ false → first (outside_throws p) ≡ None
none-thrown p r = ap (λ t. first (cond t (filter (root_throws_for p) (component_names p)) [])) r
