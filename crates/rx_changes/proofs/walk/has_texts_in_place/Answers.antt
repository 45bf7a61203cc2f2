use Rattle.std.proofs.Common.{sym, ◌∙◌}
use Rattle.rx_changes.proofs.walk.has_texts_in_place.Goals as goal

pub returns : goal.returns
returns c = λ keeps. record {
  old = c.had_texts.ensures c.if-not-had_texts.false;
  new = sym c.has_texts.ensures ∙ c.if-not-has_texts.false;
  same = c.has_as_many.ensures c.if-not-has_as_many.false;
  behind = c.has_no_fallback.ensures.behind c.if-not-has_no_fallback.false;
  beside = c.has_no_fallback.ensures.beside c.if-not-has_no_fallback.false;
  still = c.keeps_all.ensures.still keeps;
  shown = c.keeps_all.ensures.shown keeps;
}
