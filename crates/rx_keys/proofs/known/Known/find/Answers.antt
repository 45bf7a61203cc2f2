use Rattle.std.proofs.Common.{◌≡◌, ◌<◌, Some, None, length, map, sym, ap, ◌∙◌, arith}
use Rattle.rx_elem.specs.Elements.{Element, kind_of, same_kind}
use Rattle.rx_elem.specs.Identity.{identities}
use Rattle.rx_keys.specs.IdentityView.{identity_seen}
use Rattle.rx_keys.specs.Found.{found_in}
use Rattle.rx_keys.proofs.Finding.{length-all}
use Rattle.rx_keys.proofs.Matches.{no_match, match_at, found_within, then_some-cond}
use Rattle.rx_keys.proofs.known.Known.find.Goals as goal

pub bounds-self-place : goal.bounds-self-place
bounds-self-place c =
    let found : found_in (identities c.args.self.now.children.now) (identity_seen c.args.id) ≡ Some c.in-Some.place =
    sym (c.in-Some.ensures ∙ ap (λ xs. found_in xs (identity_seen c.args.id)) (ap (map identity_seen) c.deref.ensures.value ∙ c.requires.ids_are)) in
    omega (arith, found_within c.args.self.now.children.now (identity_seen c.args.id) c.in-Some.place found, length-all c.args.self.now.children.now)

pub returns-in-None : goal.returns-in-None
returns-in-None c =
    let found : found_in (identities c.args.self.now.children.now) (identity_seen c.args.id) ≡ None =
    sym (c.in-None.ensures ∙ ap (λ xs. found_in xs (identity_seen c.args.id)) (ap (map identity_seen) c.deref.ensures.value ∙ c.requires.ids_are)) in
    sym (no_match c.args.self.now.children.now (record { identity = identity_seen c.args.id; element = c.args.child.now }) found)

pub returns-in-Some : goal.returns-in-Some
returns-in-Some c =
    let found : found_in (identities c.args.self.now.children.now) (identity_seen c.args.id) ≡ Some c.in-Some.place =
    sym (c.in-Some.ensures ∙ ap (λ xs. found_in xs (identity_seen c.args.id)) (ap (map identity_seen) c.deref.ensures.value ∙ c.requires.ids_are)) in
    let within : c.in-Some.place < length c.args.self.now.children.now =
    omega (arith, found_within c.args.self.now.children.now (identity_seen c.args.id) c.in-Some.place found, length-all c.args.self.now.children.now) in
    c.then_some.ensures
    ∙ then_some-cond c.is_same_kind.result c.in-Some.place
    ∙ match_at c.args.self.now.children.now (record { identity = identity_seen c.args.id; element = c.args.child.now }) c.in-Some.place c.index-self-place.result c.is_same_kind.result
    found within c.index-self-place.is (c.is_same_kind.ensures ∙ ap (λ (e : Element). same_kind (kind_of c.args.child.now) (kind_of e)) (sym c.index-self-place.is))
