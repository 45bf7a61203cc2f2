use Rattle.std.proofs.Common.{◌≡◌, ◌∙◌, ◌+◌, ℕ, List, Some, ◌∷◌, length, nat_eq, slice_index_or, sym, ap, subst, arith, rules}
use Rattle.std.specs.List.Sorted.{IsPermutation}
use Rattle.std.proofs.lemmas.List.Sorted.{IsPermutation-swap_remove}
use Rattle.std.proofs.lemmas.Option.{get_or_from_slice_get, slice_get-get_or, slice_get_within}
use Rattle.rx_set.proofs.Holding.{itself}
use Rattle.rx_set.proofs.Noting.{clash}
use Rattle.rx_set.proofs.set.take_out.Goals as goal

pub returns : goal.returns
returns c =
    let members = c.args.members.now.items in
    let left = c.swap_remove.new.self.items in
    let place = c.args.place in
    let within = slice_get_within members place c.args.number c.requires in
    let value : c.swap_remove.result ≡ slice_index_or members place c.swap_remove.result = c.swap_remove.ensures.value in
    let fewer : length left + 1 ≡ length members = search (rules, arith) in
    let number : c.swap_remove.result ≡ c.args.number = value ∙ get_or_from_slice_get members place c.args.number c.swap_remove.result c.requires in
    let shuffled : IsPermutation members (c.swap_remove.result ∷ left) =
    subst (λ (l : List ℕ). IsPermutation members (c.swap_remove.result ∷ l)) (sym c.swap_remove.ensures.items)
    (IsPermutation-swap_remove members place c.swap_remove.result within value) in
    record {
      fewer = fewer;
      here = λ k at.
          let less = slice_get_within left place k at in
          slice_get-get_or members (length left) k (omega (arith, fewer))
          ∙ ap (λ m. Some m) (ap (λ i. slice_index_or members i k) (omega (arith, fewer)) ∙ sym (c.swap_remove.ensures.by_index.0 k (omega (arith, less, fewer))) ∙ get_or_from_slice_get left place k k at);
      elsewhere = λ i k other at.
          let less = slice_get_within left i k at in
          slice_get-get_or members i k (omega (arith, less, fewer))
          ∙ ap (λ m. Some m) (sym (c.swap_remove.ensures.by_index.1 i k (λ same. clash (nat_eq i place) (ap (λ m. nat_eq m place) same ∙ itself place) other) (omega (arith, less, fewer))) ∙ get_or_from_slice_get left i k k at);
      rest = subst (λ (n : ℕ). IsPermutation members (n ∷ left)) number shuffled;
    }
