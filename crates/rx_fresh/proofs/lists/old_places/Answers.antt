use Rattle.std.proofs.Common.{◌∙◌, ap, length}
use Rattle.std.proofs.lemmas.Result.{IfOk-weaker}
use Rattle.rx_elem.specs.Identity.{old_places}
use Rattle.rx_fresh.proofs.Listing.{length-old_places}
use Rattle.rx_fresh.proofs.lists.old_places.Goals as goal

pub returns-then-have_keys_of-clause-each : goal.returns-then-have_keys_of-clause-each
returns-then-have_keys_of-clause-each c = IfOk-weaker c.places_by_kind.result _ _ (λ v e. ap length e ∙ length-old_places _ c.args.new.now) c.places_by_kind.ensures

pub returns-clause-are : goal.returns-clause-are
returns-clause-are c =
    IfOk-weaker c.places_of.result _ _ (λ v e. e ∙ ap (λ es. old_places es c.args.new.now) (c.deref.ensures.value ∙ c.in_ok-old.ensures.are)) c.places_of.ensures

pub returns-clause-each : goal.returns-clause-each
returns-clause-each c = IfOk-weaker c.places_of.result _ _ (λ v e. ap length e ∙ length-old_places _ c.args.new.now) c.places_of.ensures
