use Rattle.std.proofs.Common.{◌≡◌, ℕ, Some, true, nat_eq, sym, subst}
use Rattle.rx_set.specs.Sets.{holds}
use Rattle.std.specs.Map.{lookup}
use Rattle.rx_hook_store.proofs.Listing.{none_left, put_more}
use Rattle.rx_hook_store.proofs.Stores.{same_number}
use Rattle.rx_hook_store.proofs.store.put_all.Goals as goal

pub putting-preserved : goal.putting-preserved
putting-preserved c = record {
  left = λ n kept at work.
      put_more n c.in-Some.instance.now c.putting.instance-iterator c.next.new.self (holds c.putting.numbers n) (holds c.put_working.new.numbers n) c.in-Some.ensures.steps
      (c.putting.invariant.left n kept at work)
      (λ e.
      let same = same_number n c.in-Some.instance.now e in
      subst (λ (m : ℕ). holds c.put_working.new.numbers m ≡ true) (sym same)
      (c.in_ok-put_working.ensures.here kept (subst (λ (m : ℕ). lookup (nat_eq m) c.args.hooks.now.entries ≡ Some kept) same at) work))
      (c.in_ok-put_working.ensures.others n);
  only = λ before. c.in_ok-put_working.ensures.only (c.putting.invariant.only before);
}

pub returns-clause-all : goal.returns-clause-all
returns-clause-all c n kept at work = none_left n c.putting.instance-iterator (holds c.putting.numbers n) c.in-None.ensures.steps.0 (c.putting.invariant.left n kept at work)
