use Rattle.std.proofs.Common.{subst, sym, ◌∙◌}
use Rattle.std.specs.Str.{IsCharBoundary}
use Rattle.rx_lex.proofs.Fronts.{sign_ends}
use Rattle.rx_lex.proofs.signs.split_sign.Goals as goal

pub split_at-requires : goal.split_at-requires
split_at-requires c =
    let sign = c.in-Some.sign in
    let found = c.in-Some.ensures.found in
    let same = c.as_bytes.ensures.value in
    let written = sym same ∙ found in
    subst (IsCharBoundary c.args.text.now) (sym c.len.ensures) (sign_ends sign c.args.text.now _ c.utf8.text written)
