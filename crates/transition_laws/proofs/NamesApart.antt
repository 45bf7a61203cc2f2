-- The components of a program that is accepted have names of their own.
use Rattle.std.proofs.Common.{◌≡◌, inl, inr, ℕ, zero, suc, Bool, true, false, ◌||◌, Some, List, [], ◌∷◌, ◌++◌, refl, sym, ap, ◌∙◌, subst}
use Rattle.std.specs.Prelude.{bytes_eq, filter_map, map, position, slice_get}
use Rattle.std.specs.List.{list_any}
use Rattle.std.specs.Option.{option_map}
use Rattle.std.proofs.lemmas.List.Folds.{list_any-append}
use Rattle.std.proofs.lemmas.Option.{slice_get-map}
use Rattle.std.proofs.lemmas.Slice.Eq.{bytes_eq-Decides}
use Rattle.rx_base.specs.Values.{Name}
use Rattle.rx_ast.specs.Syntax.{Component, Declaration, Program, as_component, components, declared_name, of_component, of_context, of_function}
use Rattle.rx_rules.specs.Names.{component_at, component_names, has_name}
use Rattle.rx_mentions.specs.Mention.{Mention}
use Rattle.rx_mentions.specs.Mention as mention
use Rattle.rx_mentions.specs.Mentions.{component_mentions, declarations_mentions, function_mentions, mentions}
use Rattle.rx_mentions.proofs.Among.{IsIn, IsIn-filter_map, IsIn-right}
use Rattle.rx_check.specs.Accepted.{IsAccepted}
use Rattle.rx_check.specs.Checks.{repeat_in, repeats}
use Rattle.host_laws.proofs.IdentityLaws.{position_of_one}

-- no name is introduced again
abbrev NoRepeat : List Mention → Type 0
NoRepeat ms = (x : Name) → IsIn (mention.Introduced x true) ms → ⊥

none_again : (p : Program) → IsAccepted p → NoRepeat (mentions p)
none_again p a x i =
    let again : IsIn x (repeats p) = IsIn-filter_map repeat_in (mention.Introduced x true) x (mentions p) refl i in
    subst (λ (ns : List Name). IsIn x ns) a.introduced_once again

behind : (ms ns : List Mention) → NoRepeat (ms ++ ns) → NoRepeat ns
behind ms ns h x i = h x (IsIn-right _ ms ns i)

-- what is introduced is new
is_new : (taken : List Name) (x : Name) (ms : List Mention) → NoRepeat (mention.Introduced x (has_name taken x) ∷ ms) → has_name taken x ≡ false
is_new taken x ms h = go (has_name taken x) refl
  where
    go : (b : Bool) → has_name taken x ≡ b → b ≡ false
    go true e = absurd (h x (inl (ap (mention.Introduced x) (sym e))))
    go false e = refl

or_false : (a b : Bool) → (a || b) ≡ false → (a ≡ false) × (b ≡ false)
or_false true b h = absurd (cc h)
or_false false b h = (refl, h)

-- a name that is none of more names is none of the first, nor the last
not_among : (taken : List Name) (y x : Name) → has_name (taken ++ y ∷ []) x ≡ false → (has_name taken x ≡ false) × (bytes_eq x y ≡ false)
not_among taken y x h =
    let parts = or_false (has_name taken x) (list_any (bytes_eq x) (y ∷ [])) (sym (list_any-append (bytes_eq x) taken (y ∷ [])) ∙ h) in
    (parts.0, (or_false (bytes_eq x y) false parts.1).0)

-- the name of a component is none of those before
later_new : (taken : List Name) (ds : List Declaration) → NoRepeat (declarations_mentions taken ds) → (i : ℕ) (c : Component)
    → slice_get (filter_map as_component ds) i ≡ Some c → has_name taken c.name ≡ false
later_new taken [] h i c at = cc
later_new taken (of_context d ∷ ds) h i c at =
    (not_among taken (declared_name (of_context d)) c.name (later_new (taken ++ declared_name (of_context d) ∷ []) ds (λ x k. h x (inr k)) i c at)).0
later_new taken (of_function d ∷ ds) h i c at =
    (not_among taken (declared_name (of_function d)) c.name
    (later_new (taken ++ declared_name (of_function d) ∷ []) ds (behind (function_mentions d) _ (λ x k. h x (inr k))) i c at)).0
later_new taken (of_component d ∷ ds) h zero c at =
    let same : d ≡ c = cc in subst (λ (k : Component). has_name taken k.name ≡ false) same (is_new taken d.name (component_mentions d ++ declarations_mentions (taken ++ d.name ∷ []) ds) h)
later_new taken (of_component d ∷ ds) h (suc i) c at =
    (not_among taken d.name c.name (later_new (taken ++ d.name ∷ []) ds (behind (component_mentions d) _ (λ x k. h x (inr k))) i c at)).0

-- a component behind another has another name
other_name : (taken : List Name) (d : Component) (ds : List Declaration) → NoRepeat (declarations_mentions taken (of_component d ∷ ds)) → (i : ℕ) (c : Component)
    → slice_get (filter_map as_component ds) i ≡ Some c → c.name ≡ d.name → ⊥
other_name taken d ds h i c at same =
    let apart : bytes_eq c.name d.name ≡ false =
    (not_among taken d.name c.name (later_new (taken ++ d.name ∷ []) ds (behind (component_mentions d) _ (λ x k. h x (inr k))) i c at)).1 in
    let one : bytes_eq c.name d.name ≡ true = (bytes_eq-Decides c.name d.name).1 same in
    cc

names_apart : (taken : List Name) (ds : List Declaration) → NoRepeat (declarations_mentions taken ds) → (i j : ℕ) (c d : Component)
    → slice_get (filter_map as_component ds) i ≡ Some c → slice_get (filter_map as_component ds) j ≡ Some d → c.name ≡ d.name → i ≡ j
names_apart taken [] h i j c d at there same = cc
names_apart taken (of_context x ∷ ds) h i j c d at there same = names_apart (taken ++ declared_name (of_context x) ∷ []) ds (λ y k. h y (inr k)) i j c d at there same
names_apart taken (of_function x ∷ ds) h i j c d at there same =
    names_apart (taken ++ declared_name (of_function x) ∷ []) ds (behind (function_mentions x) _ (λ y k. h y (inr k))) i j c d at there same
names_apart taken (of_component x ∷ ds) h zero zero c d at there same = refl
names_apart taken (of_component x ∷ ds) h zero (suc j) c d at there same =
    let first : x ≡ c = cc in absurd (other_name taken x ds h j d there (sym same ∙ sym (ap (λ (k : Component). k.name) first)))
names_apart taken (of_component x ∷ ds) h (suc i) zero c d at there same =
    let first : x ≡ d = cc in absurd (other_name taken x ds h i c at (same ∙ sym (ap (λ (k : Component). k.name) first)))
names_apart taken (of_component x ∷ ds) h (suc i) (suc j) c d at there same =
    ap suc (names_apart (taken ++ x.name ∷ []) ds (behind (component_mentions x) _ (λ y k. h y (inr k))) i j c d at there same)

-- two components with one name are one
one_name : (p : Program) → IsAccepted p → (i j : ℕ) (c d : Component) → component_at p i ≡ Some c → component_at p j ≡ Some d → c.name ≡ d.name → i ≡ j
unfolding mentions
one_name p a i j c d at there same = names_apart [] p.declarations (none_again p a) i j c d at there same

-- a name at a place is that of the component there
name_there : (cs : List Component) (k : ℕ) (x : Name) → slice_get (map (λ c. c.name) cs) k ≡ Some x → (c : Component) × (slice_get cs k ≡ Some c) × (c.name ≡ x)
name_there [] k x at = cc
name_there (c ∷ cs) zero x at = (c, refl, (let same : c.name ≡ x = cc in same))
name_there (c ∷ cs) (suc k) x at = name_there cs k x at

-- So a component is found by its name.
pub found_by_name : (p : Program) → IsAccepted p → (i : ℕ) (c : Component) (name : Name) → component_at p i ≡ Some c → c.name ≡ name
    → position (bytes_eq name) (component_names p) ≡ Some i
found_by_name p a i c name at same =
    position_of_one (bytes_eq name) (component_names p) i c.name (slice_get-map (λ c. c.name) (components p) i ∙ ap (option_map (λ (c : Component). c.name)) at)
    ((bytes_eq-Decides name c.name).1 (sym same))
    (λ k x there passes.
    let d = name_there (components p) k x there in
    one_name p a k i d.0 c d.1 at (d.2 ∙ (sym ((bytes_eq-Decides name x).0 passes) ∙ sym same)))
