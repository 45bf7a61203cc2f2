use Rattle.std.proofs.Common.{◌≡◌, ◌+◌, ◌∷◌, ℕ, Some, true, drop, nat_eq, slice_index_or, sym, subst, arith}
use Rattle.std.proofs.lemmas.List.{drop_all, drop_more}
use Rattle.std.specs.Map.{lookup}
use Rattle.rx_set.specs.Sets.{holds}
use Rattle.rx_hook_store.proofs.Listing.{none_left, put_more}
use Rattle.rx_hook_store.proofs.Stores.{same_number}
use Rattle.rx_hook_store.proofs.store.put_listed.Goals as goal

pub listing-preserved : goal.listing-preserved
listing-preserved c =
    let listed = c.args.listed.now in
    let index = c.listing.instance-index in
    let instance = slice_index_or listed index 0 in
    let first : drop index listed ≡ instance ∷ drop (index + 1) listed = drop_more listed index 0 c.listing-test.true in
    record {
      left = λ n kept known at work.
          put_more n instance (drop index listed) (drop (index + 1) listed) (holds c.listing.numbers n) (holds c.put_working.new.numbers n) first
          (c.listing.invariant.left n kept known at work)
          (λ e.
          let same = same_number n instance e in
          subst (λ (m : ℕ). holds c.put_working.new.numbers m ≡ true) (sym same)
          (c.in_ok-put_working.ensures.here kept (subst (λ (m : ℕ). lookup (nat_eq m) c.args.hooks.now.entries ≡ Some kept) same at) work))
          (c.in_ok-put_working.ensures.others n);
      only = λ before. c.in_ok-put_working.ensures.only (c.listing.invariant.only before);
    }

pub returns-clause-all : goal.returns-clause-all
returns-clause-all c n kept known at work =
    none_left n (drop c.listing.instance-index c.args.listed.now) (holds c.listing.numbers n) (drop_all c.listing.instance-index c.args.listed.now (omega (arith, c.listing-test.false)))
    (c.listing.invariant.left n kept known at work)
