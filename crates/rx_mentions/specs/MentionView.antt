-- A mention of the code as plain data.
use Rattle.rx_mentions.specs.Mention.{Mention}
use Rattle.rx_mentions.specs.Mention as mention
use Rattle.rx_mentions.specs.Mentions.{given_names}
use Rattle.rx_mentions.specs.declared.mention.MentionKind.{MentionKind}
use Rattle.rx_mentions.specs.declared.mention.MentionKind.TheVariants as kind

-- the mention of a kind with its parts
abbrev pub mention_of : MentionKind → Mention
mention_of (kind.Introduced again x) = mention.Introduced x.now again
mention_of (kind.Unknown x) = mention.Unknown x.now
mention_of (kind.Call f n) = mention.Call f.now n
mention_of (kind.Reduction f) = mention.Reduction f.now
mention_of (kind.Context c) = mention.Context c.now
mention_of (kind.Element filled c attrs) = mention.Element c.now (given_names attrs.now.items) filled
mention_of (kind.Host h) = mention.Host h.now
mention_of (kind.Children known) = mention.Children known
mention_of (kind.Resource r) = mention.Resource r.now
mention_of (kind.Quoted n) = mention.Quoted n
mention_of (kind.Counted w n) = mention.Counted w n
