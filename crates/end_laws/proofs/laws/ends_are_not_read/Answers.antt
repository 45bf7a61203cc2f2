use Rattle.std.specs.Prelude.{Some}
use Rattle.std.proofs.Common.{refl}
use Rattle.end_laws.proofs.Read.{mounted_same, hosts_same, count_same, hidden_count_same, visible_awaits_same}
use Rattle.end_laws.proofs.laws.ends_are_not_read.Goals as goal

pub returns : goal.returns
returns c =
    record {
      mounted = mounted_same;
      hosts = hosts_same;
      nodes = count_same;
      hidden = hidden_count_same;
      visible = λ t. rw (mounted_same t) refl;
      kept = λ t. rw (mounted_same t) refl;
      waits = visible_awaits_same;
      awaited = λ t r. rw (visible_awaits_same t) refl;
      resolved = λ lanes cut j new. rw (visible_awaits_same (Some new)) refl;
      pending = λ lanes cut j new. rw (visible_awaits_same (Some new)) refl;
      journal = λ lanes cut new j. rw (mounted_same (Some new)) refl;
    }
