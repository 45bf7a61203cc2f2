use Rattle.std.proofs.Common.{◌≡◌, ◌∙◌, ◌%◌, ap, ◌++◌, [], ◌∷◌, subst, append_assoc, OnOk}
use Rattle.std.specs.Prelude.{string_bytes, codes, decimal}
use Rattle.rx_base.specs.Values.{Text}
use Rattle.rx_gen.proofs.rounds.put_size.Goals as goal

pub returns : goal.returns
returns c =
    let old : Text = string_bytes c.args.script.now in
    let number : Text = decimal (c.args.choice % 65) in
    let counted : string_bytes c.put_number.new.text ≡ (old ++ codes "set sync App n ") ++ number = c.in_ok-put_number.ensures ∙ ap (λ (t : Text). t ++ number) c.in_ok-push_str.ensures.bytes in
    let whole : string_bytes c.put_number.new.text ++ 10 ∷ [] ≡ old ++ ((codes "set sync App n " ++ number) ++ 10 ∷ []) =
    ap (λ (t : Text). t ++ 10 ∷ []) (counted ∙ append_assoc old (codes "set sync App n ") number) ∙ append_assoc old (codes "set sync App n " ++ number) (10 ∷ []) in
    subst (λ (t : Text). OnOk c.put_end.result (string_bytes c.put_end.new.text ≡ t)) whole c.put_end.ensures
