use Rattle.std.proofs.Common.{ap, sym, ◌∙◌, ◌&&◌, not, nat_eq, ℕ, List}
use Rattle.std.specs.List.{list_any}
use Rattle.std.proofs.lemmas.Result.{IfOk-weaker}
use Rattle.rx_settle.proofs.Numbers.{none_gone}
use Rattle.rx_settle.proofs.gone.gone_from.Goals as goal

pub returns-then-stand_as_before : goal.returns-then-stand_as_before
returns-then-stand_as_before c n =
    ap (λ (ks : List ℕ). list_any (nat_eq n) ks) c.new.ensures.items ∙ sym (none_gone c.args.before.now c.args.instances.now (c.stand_as_before.ensures c.if-stand_as_before.true) n)

pub returns : goal.returns
returns c =
    IfOk-weaker c.numbers_beside.result _ _ (λ gone are n. are n ∙ ap (λ b. list_any (nat_eq n) c.args.before.now && not b) (c.in_ok-known.ensures n)) c.numbers_beside.ensures
