-- The operations on a host's content make the old content the new one.
use Rattle.std.specs.Prelude.{◌≡◌, ℕ, Bool, true, false, cond, not, List, [], ◌∷◌, Option, Some, None, map, option_map, filter, is_none, bytes_eq, refl, if◌then◌else◌}
use Rattle.std.specs.Option.{option_map_or}
use Rattle.std.proofs.Math.Path.{fun_ext}
use Rattle.std.proofs.Common.{sym, ◌∙◌, ap, subst}
use Rattle.std.proofs.lemmas.Slice.Eq.{bytes_eq-Decides}
use Rattle.std.proofs.lemmas.Bool.Decides.{Decides-int_eq}
use Rattle.std.proofs.lemmas.Option.{same_Some}
use Rattle.host_laws.specs.Related.{HaveOwnNames, AreAlike}
use Rattle.rx_base.specs.Values.{Name}
use Rattle.rx_elem.specs.Elements.{same_value}
use Rattle.rx_elem.specs.declared.attr.Attr.{Attr}
use Rattle.rx_elem.specs.declared.attr.AttrValue.{AttrValue}
use Rattle.rx_elem.specs.declared.attr.AttrValue.TheVariants.{Number, Text}
use Rattle.rx_forest.specs.Forests.{HostForest, Held, Body, tag, body_of, with_held, with_body, with_value, with_letters, Replays}
use Rattle.rx_forest.specs.HostOps.{attr_named, has_attr, attr_ops, content_ops}
use Rattle.rx_forest.specs.Hosts.{Host, Content}
use Rattle.rx_forest.specs.declared.op.HostOp.TheVariants as op
use Rattle.rx_forest.specs.Hosts as hosts
use Rattle.rx_forest.specs.Forests as forests
use Rattle.host_laws.proofs.Held.{with_held-same, with_held-twice, replays-append}

-- what a host is changes
abbrev pub embodied : HostForest → ℕ → (Body → Body) → HostForest
embodied f n change = with_held f n (option_map (with_body change))

pub embodied-same : (f : HostForest) (n : ℕ) → embodied f n (λ b. b) ≡ f
embodied-same f n = ap (with_held f n) (fun_ext go) ∙ with_held-same f n
  where
    go : (x : Option Held) → option_map (with_body (λ b. b)) x ≡ x
    go None = refl
    go (Some h) = refl

pub embodied-twice : (f : HostForest) (n : ℕ) (a b : Body → Body) → embodied (embodied f n a) n b ≡ embodied f n (λ x. b (a x))
embodied-twice f n a b = with_held-twice f n (option_map (with_body a)) (option_map (with_body b)) ∙ ap (with_held f n) (fun_ext go)
  where
    go : (x : Option Held) → option_map (with_body b) (option_map (with_body a) x) ≡ option_map (with_body (λ x. b (a x))) x
    go None = refl
    go (Some h) = refl

-- Values of attributes, one after another

abbrev pub unset_all : List Attr → Body → Body
unset_all [] b = b
unset_all (a ∷ as') b = unset_all as' (with_value a.name None b)

abbrev pub set_all : List Attr → Body → Body
set_all [] b = b
set_all (a ∷ as') b = set_all as' (with_value a.name (Some a.value) b)

pub unsets : (n : ℕ) (attrs : List Attr) (f : HostForest) → Replays f (map (λ a. op.UnsetAttr n a.name) attrs) (embodied f n (unset_all attrs))
unsets n [] f = embodied-same f n
unsets n (a ∷ attrs) f = (
  embodied f n (with_value a.name None),
  refl,
  subst (Replays (embodied f n (with_value a.name None)) (map (λ a. op.UnsetAttr n a.name) attrs)) (embodied-twice f n (with_value a.name None) (unset_all attrs))
      (unsets n attrs (embodied f n (with_value a.name None))),
)

pub sets : (n : ℕ) (attrs : List Attr) (f : HostForest) → Replays f (map (λ a. op.SetAttr n a.name a.value) attrs) (embodied f n (set_all attrs))
sets n [] f = embodied-same f n
sets n (a ∷ attrs) f = (
  embodied f n (with_value a.name (Some a.value)),
  refl,
  subst (Replays (embodied f n (with_value a.name (Some a.value))) (map (λ a. op.SetAttr n a.name a.value) attrs)) (embodied-twice f n (with_value a.name (Some a.value)) (set_all attrs))
      (sets n attrs (embodied f n (with_value a.name (Some a.value)))),
)

abbrev pub going : List Attr → List Attr → List Attr
going old new = filter (λ a. is_none (attr_named new a.name)) old

abbrev pub coming : List Attr → List Attr → List Attr
coming old new = filter (λ a. not (has_attr old a)) new

abbrev pub attr_change : List Attr → List Attr → Body → Body
attr_change old new b = set_all (coming old new) (unset_all (going old new) b)

abbrev pub content_change : Content → Content → Body → Body
content_change (hosts.tag m old) (hosts.tag name new) b = attr_change old new b
content_change (hosts.letters s) (hosts.letters t) b = if bytes_eq s t then b else with_letters t b
content_change (hosts.tag m old) (hosts.letters t) b = b
content_change (hosts.letters s) (hosts.tag name new) b = b

attrs_replay : (n : ℕ) (old new : List Attr) (f : HostForest) → Replays f (attr_ops n old new) (embodied f n (attr_change old new))
attrs_replay n old new f =
    replays-append (map (λ a. op.UnsetAttr n a.name) (going old new)) (map (λ a. op.SetAttr n a.name a.value) (coming old new)) f
    (embodied f n (unset_all (going old new))) (embodied f n (attr_change old new))
    (unsets n (going old new) f)
    (subst (Replays (embodied f n (unset_all (going old new))) (map (λ a. op.SetAttr n a.name a.value) (coming old new)))
    (embodied-twice f n (unset_all (going old new)) (set_all (coming old new)))
    (sets n (coming old new) (embodied f n (unset_all (going old new)))))

pub contents_replay : (n : ℕ) (c d : Content) (f : HostForest) → Replays f (content_ops n c d) (embodied f n (content_change c d))
contents_replay n (hosts.tag m old) (hosts.tag name new) f = attrs_replay n old new f
contents_replay n (hosts.letters s) (hosts.letters t) f = go (bytes_eq s t)
  where
    go : (b : Bool) → Replays f (if b then [] else op.SetText n t ∷ []) (embodied f n (λ x. if b then x else with_letters t x))
    go true = embodied-same f n
    go false = (embodied f n (with_letters t), refl, refl)
contents_replay n (hosts.tag m old) (hosts.letters t) f = embodied-same f n
contents_replay n (hosts.letters s) (hosts.tag name new) f = embodied-same f n

-- What the attributes are in the end

name_turned : (x y : Name) (b : Bool) → bytes_eq x y ≡ b → bytes_eq y x ≡ b
name_turned x y true e = (bytes_eq-Decides y x).1 (sym ((bytes_eq-Decides x y).0 e))
name_turned x y false e = go (bytes_eq y x) refl
  where
    go : (b : Bool) → bytes_eq y x ≡ b → b ≡ false
    go true f = let back : bytes_eq x y ≡ true = (bytes_eq-Decides x y).1 (sym ((bytes_eq-Decides y x).0 f)) in absurd (cc)
    go false f = refl

name_self : (x : Name) → bytes_eq x x ≡ true
name_self x = (bytes_eq-Decides x x).1 refl

abbrev less : Option Attr → Option AttrValue → Option AttrValue
less None x = x
less (Some b) x = None

abbrev more : Option Attr → Option AttrValue → Option AttrValue
more None x = x
more (Some b) x = Some b.value

less_nothing : (o : Option Attr) → less o None ≡ None
less_nothing None = refl
less_nothing (Some b) = refl

unset_tag : (attrs : List Attr) (n : Name) (v : Name → Option AttrValue) → unset_all attrs (tag n v) ≡ tag n (λ x. less (attr_named attrs x) (v x))
unset_tag [] n v = refl
unset_tag (a ∷ attrs) n v =
    unset_tag attrs n (λ x. if bytes_eq x a.name then None else v x) ∙ ap (tag n) (fun_ext (λ x. go x (bytes_eq x a.name) refl))
  where
    go : (x : Name) (b : Bool) → bytes_eq x a.name ≡ b
        → less (attr_named attrs x) (if bytes_eq x a.name then None else v x) ≡ less (attr_named (a ∷ attrs) x) (v x)
    go x true e = rw (e, name_turned x a.name true e) (less_nothing (attr_named attrs x))
    go x false e = rw (e, name_turned x a.name false e) refl

set_tag : (attrs : List Attr) → HaveOwnNames attrs → (n : Name) (v : Name → Option AttrValue)
    → set_all attrs (tag n v) ≡ tag n (λ x. more (attr_named attrs x) (v x))
set_tag [] own n v = refl
set_tag (a ∷ attrs) own n v =
    set_tag attrs own.1 n (λ x. if bytes_eq x a.name then Some a.value else v x) ∙ ap (tag n) (fun_ext (λ x. go x (bytes_eq x a.name) refl))
  where
    go : (x : Name) (b : Bool) → bytes_eq x a.name ≡ b
        → more (attr_named attrs x) (if bytes_eq x a.name then Some a.value else v x) ≡ more (attr_named (a ∷ attrs) x) (v x)
    go x true e =
        let nothing : attr_named attrs x ≡ None = ap (attr_named attrs) ((bytes_eq-Decides x a.name).0 e) ∙ own.0 in
        rw (e, name_turned x a.name true e, nothing) refl
    go x false e = rw (e, name_turned x a.name false e) refl

-- a filter that goes by the name
by_its_name : (p : Attr → Bool) (q : Name → Bool) → ((a : Attr) → p a ≡ q a.name) → (attrs : List Attr) (x : Name)
    → attr_named (filter p attrs) x ≡ (if q x then attr_named attrs x else None)
by_its_name p q same [] x = go (q x)
  where
    go : (b : Bool) → ◌≡◌ {A = Option Attr} None (if b then None else None)
    go true = refl
    go false = refl
by_its_name p q same (a ∷ attrs) x = go (by_its_name p q same attrs x) (bytes_eq a.name x) refl (q a.name) refl
  where
    go : attr_named (filter p attrs) x ≡ (if q x then attr_named attrs x else None) → (b : Bool) → bytes_eq a.name x ≡ b → (c : Bool) → q a.name ≡ c
        → attr_named (filter p (a ∷ attrs)) x ≡ (if q x then attr_named (a ∷ attrs) x else None)
    go rest true e true f = let here : q x ≡ true = ap q (sym ((bytes_eq-Decides a.name x).0 e)) ∙ f in rw (same a, f, here, e) refl
    go rest true e false f = let here : q x ≡ false = ap q (sym ((bytes_eq-Decides a.name x).0 e)) ∙ f in rw (same a, f, here) (rest ∙ rw here refl)
    go rest false e true f = rw (same a, f, e) rest
    go rest false e false f = rw (same a, f, e) rest

abbrev pick : (Attr → Bool) → Option Attr → Option Attr
pick p None = None
pick p (Some b) = if p b then Some b else None

-- a filter of attributes with names of their own
picked : (p : Attr → Bool) (attrs : List Attr) → HaveOwnNames attrs → (x : Name) → attr_named (filter p attrs) x ≡ pick p (attr_named attrs x)
picked p [] own x = refl
picked p (a ∷ attrs) own x = go (picked p attrs own.1 x) (bytes_eq a.name x) refl (p a) refl
  where
    go : attr_named (filter p attrs) x ≡ pick p (attr_named attrs x) → (b : Bool) → bytes_eq a.name x ≡ b → (c : Bool) → p a ≡ c
        → attr_named (filter p (a ∷ attrs)) x ≡ pick p (attr_named (a ∷ attrs) x)
    go rest true e true f = rw (f, e, f) refl
    go rest true e false f =
        let nothing : attr_named attrs x ≡ None = ap (attr_named attrs) (sym ((bytes_eq-Decides a.name x).0 e)) ∙ own.0 in
        rw (f, e, f) (rest ∙ rw nothing refl)
    go rest false e true f = rw (f, e) rest
    go rest false e false f = rw (f, e) rest

own_names_filter : (p : Attr → Bool) (attrs : List Attr) → HaveOwnNames attrs → HaveOwnNames (filter p attrs)
own_names_filter p [] own = tt
own_names_filter p (a ∷ attrs) own = go (own_names_filter p attrs own.1) (p a)
  where
    go : HaveOwnNames (filter p attrs) → (b : Bool) → HaveOwnNames (cond b (a ∷ filter p attrs) (filter p attrs))
    go rest true = (picked p attrs own.1 a.name ∙ rw own.0 refl, rest)
    go rest false = rest

found_name : (attrs : List Attr) (x : Name) (b : Attr) → attr_named attrs x ≡ Some b → b.name ≡ x
found_name [] x b h = absurd (cc)
found_name (a ∷ attrs) x b h = go (found_name attrs x b) (bytes_eq a.name x) refl h
  where
    go : (attr_named attrs x ≡ Some b → b.name ≡ x) → (c : Bool) → bytes_eq a.name x ≡ c → cond c (Some a) (attr_named attrs x) ≡ Some b → b.name ≡ x
    go rest true e k = let same : a ≡ b = same_Some _ _ k in ap (λ a. a.name) (sym same) ∙ (bytes_eq-Decides a.name x).0 e
    go rest false e k = rest k

same_value_is : (u v : AttrValue) → same_value u v ≡ true → u ≡ v
same_value_is (Number x) (Number y) h = ap Number ((Decides-int_eq x y).0 h)
same_value_is (Text s) (Text t) h = ap Text ((bytes_eq-Decides s t).0 h)
same_value_is (Number x) (Text t) h = absurd (cc)
same_value_is (Text s) (Number y) h = absurd (cc)

attrs_become : (m : Name) (old new : List Attr) → HaveOwnNames new
    → attr_change old new (body_of (hosts.tag m old)) ≡ body_of (hosts.tag m new)
attrs_become m old new own =
    ap (set_all (coming old new)) (unset_tag (going old new) m (λ x. option_map (λ b. b.value) (attr_named old x)))
    ∙ set_tag (coming old new) (own_names_filter (λ a. not (has_attr old a)) new own) m
    (λ x. less (attr_named (going old new) x) (option_map (λ b. b.value) (attr_named old x)))
    ∙ ap (tag m) (fun_ext (λ x. each x (attr_named new x) refl))
  where
    at_some : (b : Attr) (o : Option Attr) → more (if not (option_map_or (λ c. same_value b.value c.value) o false) then Some b else None) (option_map (λ b. b.value) o) ≡ Some b.value
    at_some b None = refl
    at_some b (Some c) = go (same_value b.value c.value) refl
      where
        go : (t : Bool) → same_value b.value c.value ≡ t → more (if not t then Some b else None) (Some c.value) ≡ Some b.value
        go true e = ap Some (sym (same_value_is b.value c.value e))
        go false e = refl

    at_none : (o : Option Attr) → less o (option_map (λ b. b.value) o) ≡ None
    at_none None = refl
    at_none (Some c) = refl

    each : (x : Name) (o : Option Attr) → attr_named new x ≡ o
        → more (attr_named (coming old new) x) (less (attr_named (going old new) x) (option_map (λ b. b.value) (attr_named old x)))
        ≡ option_map (λ b. b.value) (attr_named new x)
    each x None e =
        rw (picked (λ a. not (has_attr old a)) new own x, by_its_name (λ a. is_none (attr_named new a.name)) (λ y. is_none (attr_named new y)) (λ a. refl) old x, e)
        (at_none (attr_named old x))
    each x (Some b) e =
        let named : b.name ≡ x = found_name new x b e in
        rw (picked (λ a. not (has_attr old a)) new own x, by_its_name (λ a. is_none (attr_named new a.name)) (λ y. is_none (attr_named new y)) (λ a. refl) old x, e)
        (subst (λ y. more (if not (has_attr old b) then Some b else None) (option_map (λ b. b.value) (attr_named old y)) ≡ Some b.value) named
        (at_some b (attr_named old b.name)))

-- the change of content makes the old content the new one
pub content_becomes : (c d : Content) → AreAlike c d → content_change c d (body_of c) ≡ body_of d
content_becomes (hosts.tag m old) (hosts.tag name new) h =
    attrs_become m old new h.1 ∙ ap (λ k. body_of (hosts.tag k new)) h.0
content_becomes (hosts.letters s) (hosts.letters t) h = go (bytes_eq s t) refl
  where
    go : (b : Bool) → bytes_eq s t ≡ b → (if b then forests.letters s else with_letters t (forests.letters s)) ≡ forests.letters t
    go true e = ap forests.letters ((bytes_eq-Decides s t).0 e)
    go false e = refl
content_becomes (hosts.tag m old) (hosts.letters t) h = absurd h
content_becomes (hosts.letters s) (hosts.tag name new) h = absurd h
