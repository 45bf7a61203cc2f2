use Rattle.std.proofs.Common.{◌≡◌, ◌∙◌, ◌+◌, ◌/◌, ap, sym, refl, subst, ◌++◌, ◌<◌, ◌^◌, ℕ}
use Rattle.std.specs.Prelude.{string_bytes}
use Rattle.rx_base.specs.Values.{Text}
use Rattle.rx_gen.specs.Generated.{drawn, next_drawn, round_lines}
use Rattle.rx_gen.proofs.ScriptRounds.{lines_in, lines_after, script-begin, drawn-next, drawn-small, round-written, rounds-end}
use Rattle.rx_gen.proofs.rounds.write_script.Goals as goal

pub rounds-init : goal.rounds-init
rounds-init c =
    record {
      drawn = refl;
      small = c.ranges.n.fits;
      written = ap (λ (t : Text). t ++ lines_after c.args.n 0) c.in_ok-script.ensures.ok ∙ script-begin c.args.n;
    }

pub rounds-preserved : goal.rounds-preserved
rounds-preserved c =
    let n : ℕ = c.args.n in
    let done : ℕ = c.rounds.done in
    let drew : c.next_drawn-drawn.result ≡ drawn n (done + 1) = c.next_drawn-drawn.ensures ∙ ap next_drawn c.rounds.invariant.drawn ∙ sym (drawn-next n done) in
    let wrote : string_bytes c.put_round.new.script ≡ string_bytes c.rounds.script ++ lines_in n (done + 1) =
    c.in_ok-put_round.ensures ∙ ap (λ (x : ℕ). string_bytes c.rounds.script ++ round_lines n (done + 1) (x / 65536)) drew in
    record {
      drawn = drew;
      small = subst (λ (x : ℕ). x < 2 ^ 32) (sym c.next_drawn-drawn.ensures) (drawn-small c.rounds.drawn);
      written = round-written n done (string_bytes c.rounds.script) (string_bytes c.put_round.new.script) _ c.rounds-test.true wrote c.rounds.invariant.written;
    }

pub returns : goal.returns
returns c = c.from_string.ensures ∙ rounds-end c.args.n c.rounds.done _ _ c.rounds-test.false c.rounds.invariant.written
