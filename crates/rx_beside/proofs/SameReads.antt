-- What the test of two reads tells: they are the same.
use Rattle.std.proofs.Common.{◌≡◌, Bool, true, List, refl, subst}
use Rattle.std.specs.Prelude.{nat_eq}
use Rattle.std.specs.Ordering.{int_eq}
use Rattle.std.proofs.lemmas.Bool.Decides.{Decides-int_eq}
use Rattle.std.specs.Cmp.Lexicographic.{pointwise}
use Rattle.std.proofs.lemmas.Slice.Eq.{slice_eq-Decides}
use Rattle.rx_elem.proofs.Deciding.{and_passes, both_hold, same_number, same_itself}
use Rattle.rx_elem.specs.declared.effect.ContextRead.{ContextRead}
use Rattle.rx_elem.specs.declared.effect.VersionRead.{VersionRead}
use Rattle.rx_elem.specs.contracts.effect.ContextReadPartialEq.TheImpl.{eq-value as context}
use Rattle.rx_elem.specs.contracts.effect.VersionReadPartialEq.TheImpl.{eq-value as version}

context_same : (a : ContextRead) → context.it a a ≡ true
context_same a = both_hold (nat_eq a.context a.context) (int_eq a.value a.value) (same_itself a.context) ((Decides-int_eq a.value a.value).1 refl)

context_tells : (a b : ContextRead) → context.it a b ≡ true → a ≡ b
context_tells a b h =
    let t = and_passes (nat_eq a.context b.context) (int_eq a.value b.value) h in
    let c : a.context ≡ b.context = same_number a.context b.context t.0 in
    let v : a.value ≡ b.value = (Decides-int_eq a.value b.value).0 t.1 in
    λ i. record { context = c i; value = v i }

version_same : (a : VersionRead) → version.it a a ≡ true
version_same a = both_hold (nat_eq a.resource a.resource) (nat_eq a.version a.version) (same_itself a.resource) (same_itself a.version)

version_tells : (a b : VersionRead) → version.it a b ≡ true → a ≡ b
version_tells a b h =
    let t = and_passes (nat_eq a.resource b.resource) (nat_eq a.version b.version) h in
    let r : a.resource ≡ b.resource = same_number a.resource b.resource t.0 in
    let v : a.version ≡ b.version = same_number a.version b.version t.1 in
    λ i. record { resource = r i; version = v i }

-- two lists of contexts with their values are the same
pub contexts_tell : (xs ys : List ContextRead) (r : Bool) → r ≡ pointwise context.it xs ys → r ≡ true → xs ≡ ys
contexts_tell xs ys r e = (slice_eq-Decides (λ a b. (context_tells a b, λ s. subst (λ z. context.it a z ≡ true) s (context_same a))) xs ys r e).0

-- two lists of resources with their versions are the same
pub versions_tell : (xs ys : List VersionRead) (r : Bool) → r ≡ pointwise version.it xs ys → r ≡ true → xs ≡ ys
versions_tell xs ys r e = (slice_eq-Decides (λ a b. (version_tells a b, λ s. subst (λ z. version.it a z ≡ true) s (version_same a))) xs ys r e).0
