use Rattle.std.proofs.Common.{◌≡◌, ◌++◌, ◌+◌, ◌-◌, ◌<◌, ◌^◌}
use Rattle.std.specs.Prelude.{string_bytes}
use Rattle.std.specs.List.{flat_map, range_with_len}
use Rattle.rx_gen.specs.Generated.{drawn, choice, round_lines, script_text}
use Rattle.rx_gen.proofs.rounds.write_script.Given as goal

abbrev pub invariant-rounds : goal.invariant-rounds
invariant-rounds l = record {
  drawn : l.drawn ≡ drawn l.n l.done;
  small : l.drawn < 2 ^ 32;
  written : string_bytes l.script ++ flat_map (λ j. round_lines l.n j (choice l.n j)) (range_with_len (l.done + 1) (l.n - l.done)) ≡ script_text l.n;
}
