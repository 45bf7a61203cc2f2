use Rattle.rx_hook_store.proofs.Staying.{all_stay, instance_stays, rendered_stays}
use Rattle.rx_hook_store.proofs.laws.what_is_kept_stays.Goals as goal

pub returns : goal.returns
returns c =
    record {
      all = λ p s t old new updates links tree same keeps. all_stay s t updates links p old new tree same keeps;
      instance = λ p s t old new k initials updates links same g. instance_stays s t updates links p old new k initials same g;
      rendered = λ p s t lanes cut old new k initials updates links same g. rendered_stays s t updates links p lanes cut old new k initials same g;
    }
