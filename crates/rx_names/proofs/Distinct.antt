-- Names that are gathered one by one, each once.
use Rattle.std.proofs.Common.{◌≡◌, Bool, true, false, not, ◌&&◌, ◌||◌, List, [], ◌∷◌, ◌++◌, refl, sym, ap, ◌∙◌, append_assoc}
use Rattle.std.specs.Prelude.{filter, fold, cond, bytes_eq}
use Rattle.std.proofs.lemmas.List.Folds.{list_any-append}
use Rattle.std.proofs.lemmas.List.{append-nil}
use Rattle.std.proofs.lemmas.Slice.Eq.{bytes_eq-Decides}
use Rattle.rx_base.specs.Values.{Name}
use Rattle.rx_rules.specs.Names.{has_name, without, distinct}
use Rattle.rx_names.specs.Listed.{with_name}

-- the test that a name is none of these
abbrev is_new : List Name → Name → Bool
is_new names x = not (has_name names x)

-- two tests one after the other
filter-filter : (f g h : Name → Bool) → ((x : Name) → (g x && f x) ≡ h x) → (xs : List Name) → filter f (filter g xs) ≡ filter h xs
filter-filter f g h e [] = refl
filter-filter f g h e (x ∷ xs) = rw (sym (e x)) (go (g x) (f x) refl refl (filter-filter f g h e xs))
  where
    go : (a b : Bool) → g x ≡ a → f x ≡ b → filter f (filter g xs) ≡ filter h xs
        → filter f (cond a (x ∷ filter g xs) (filter g xs)) ≡ cond (a && b) (x ∷ filter h xs) (filter h xs)
    go true true p q s = rw q (ap (λ l. x ∷ l) s)
    go true false p q s = rw q s
    go false b p q s = s

-- a name that is there stays there
has-one-more : (names : List Name) (n x : Name) → (not (bytes_eq x n) && is_new names x) ≡ is_new (names ++ n ∷ []) x
has-one-more names n x = rw list_any-append (go (bytes_eq x n) (has_name names x))
  where
    go : (a b : Bool) → (not a && not b) ≡ not (b || (a || false))
    go true true = refl
    go true false = refl
    go false true = refl
    go false false = refl

-- a name that is there is not new
has-there : (names : List Name) (n x : Name) → has_name names n ≡ true → (not (bytes_eq x n) && is_new names x) ≡ is_new names x
has-there names n x h = go (bytes_eq x n) refl
  where
    go : (a : Bool) → bytes_eq x n ≡ a → (not a && is_new names x) ≡ is_new names x
    go true e = let same : x ≡ n = (bytes_eq-Decides x n).0 e in rw (same, h) refl
    go false e = refl

-- what is gathered is what was there, and the distinct others
pub gathered : (names ns : List Name) → fold with_name names ns ≡ names ++ filter (is_new names) (distinct ns)
gathered names [] = sym (append-nil names)
gathered names (n ∷ ns) = go (has_name names n) refl (gathered names ns) (gathered (names ++ n ∷ []) ns)
  where
    go : (b : Bool) → has_name names n ≡ b → fold with_name names ns ≡ names ++ filter (is_new names) (distinct ns)
        → fold with_name (names ++ n ∷ []) ns ≡ (names ++ n ∷ []) ++ filter (is_new (names ++ n ∷ [])) (distinct ns)
        → fold with_name (cond b names (names ++ n ∷ [])) ns
        ≡ names ++ cond (not b) (n ∷ filter (is_new names) (without n (distinct ns))) (filter (is_new names) (without n (distinct ns)))
    go true e same more = same ∙ ap (λ l. names ++ l) (sym (filter-filter _ _ _ (λ x. has-there names n x e) (distinct ns)))
    go false e same more =
        more
        ∙ (append_assoc names (n ∷ []) _ ∙ ap (λ l. names ++ (n ∷ l)) (sym (filter-filter _ _ _ (λ x. has-one-more names n x) (distinct ns))))

-- all are new if none is there
all-new : (ns : List Name) → filter (is_new []) ns ≡ ns
all-new [] = refl
all-new (n ∷ ns) = ap (λ l. n ∷ l) (all-new ns)

pub gathered-from_none : (ns : List Name) → fold with_name [] ns ≡ distinct ns
gathered-from_none ns = gathered [] ns ∙ all-new (distinct ns)
