use Rattle.std.proofs.Common.{◌≡◌, ◌<◌, Some, length, sym, ◌∙◌, arith}
use Rattle.rx_elem.specs.Identity.{identities}
use Rattle.rx_keys.specs.Found.{found_in}
use Rattle.rx_keys.proofs.Finding.{length-all}
use Rattle.rx_keys.proofs.Matches.{no_match, match_at, found_within, then_some-cond}
use Rattle.rx_keys.proofs.dense.of_same_kind.Goals as goal

pub bounds-old-place : goal.bounds-old-place
bounds-old-place c =
    let found : found_in (identities c.args.old.now) c.requires.0 ≡ Some c.in-Some.place = sym c.requires.1 ∙ c.in-Some.is in
    omega (arith, found_within c.args.old.now c.requires.0 c.in-Some.place found, length-all c.args.old.now)

pub returns-in-None : goal.returns-in-None
returns-in-None c x is = sym (no_match c.args.old.now (record { identity = x; element = c.args.child.now }) (sym is ∙ c.in-None.is))

pub returns-in-Some : goal.returns-in-Some
returns-in-Some c x is =
    let found : found_in (identities c.args.old.now) x ≡ Some c.in-Some.place = sym is ∙ c.in-Some.is in
    let within : c.in-Some.place < length c.args.old.now = omega (arith, found_within c.args.old.now x c.in-Some.place found, length-all c.args.old.now) in
    c.then_some.ensures
    ∙ then_some-cond c.is_same_kind.result c.in-Some.place
    ∙ match_at c.args.old.now (record { identity = x; element = c.args.child.now }) c.in-Some.place c.index-old-place.result c.is_same_kind.result
    found within c.index-old-place.is c.is_same_kind.ensures
